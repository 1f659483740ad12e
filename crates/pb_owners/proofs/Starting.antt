-- A pass more is split from the first one.
use Rattle.std.proofs.Common.{◌≡◌, ◌≢◌, ℕ, ◌+◌, ◌<◌, ◌==◌, [], refl, sym, ap, ◌∙◌, subst, ⊎_elim, arith, Bool, true, false, eq-eqb, ne_eqb}
use Rattle.std.proofs.lemmas.Bool.{cases_eq}
use Rattle.pb_mail.specs.declared.view.View.{View}
use Rattle.pb_mail.specs.declared.post.Post.{Post}
use Rattle.pb_mail.specs.declared.pass.PostPass.{PostPass}
use Rattle.pb_mail.specs.Views.{first_view, kept_view, given_view}
use Rattle.pb_mail.specs.Passes.{view_at, number_of, made_by, owners_of, IsPassOf, IsSplit}
use Rattle.pb_owners.specs.Passing.{IsFresh, IsSplitting}

kept_sent : (own : Bool) (v : View) → (kept_view own v).sent ≡ v.sent
kept_sent true v = refl
kept_sent false v = refl

kept_taken : (own : Bool) (v : View) → v.taken ≡ [] → (kept_view own v).taken ≡ []
kept_taken true v e = refl
kept_taken false v e = e

given_sent : (own : Bool) (v : View) → (given_view own v).sent ≡ []
given_sent true v = refl
given_sent false v = refl

given_taken : (own : Bool) (v : View) → v.taken ≡ [] → (given_view own v).taken ≡ []
given_taken true v e = e
given_taken false v e = refl

given_role : (own : Bool) (v : View) → (given_view own v).takes ≡ own
given_role true v = refl
given_role false v = refl

-- a new post's pass
pub first_splitting : {K : Type 0} (post : Post K) (pass : PostPass) → IsPassOf post pass → number_of pass ≡ 0 → made_by pass ≡ 1 → ((q : ℕ) → q < owners_of post → view_at pass q ≡ first_view) → IsSplitting post 1 pass
first_splitting post pass own number made views = record {
  own = own;
  number_is = number;
  made_is = made;
  sent = λ q less. ap (λ (v : View). v.sent) (views q less);
  taken = λ q less. ap (λ (v : View). v.taken) (views q less);
  handed = λ q some below low. absurd (omega arith);
}

module _ {K : Type 0} (post : Post K) (made : ℕ) (old new given : PostPass) (h : IsSplitting post made old) (split : IsSplit (owners_of post) old new given) where
  pub split_more : IsPassOf post new → number_of new ≡ 0 → made_by new ≡ made_by old + 1 → IsSplitting post (made + 1) new
  split_more own number more = record {
    own = own;
    number_is = number;
    made_is = let e = h.made_is in omega arith;
    sent = λ q less. ap (λ (v : View). v.sent) (split.kept q less) ∙ kept_sent (q == made_by old) (view_at old q) ∙ h.sent q less;
    taken = λ q less. ap (λ (v : View). v.taken) (split.kept q less) ∙ kept_taken (q == made_by old) (view_at old q) (h.taken q less);
    handed = λ q some below low. ap (λ (v : View). v.takes) (split.kept q low) ∙ ⊎_elim
        (λ (at : q ≡ made). ap (λ b. (kept_view b (view_at old q)).takes) (eq-eqb q (made_by old) (at ∙ sym h.made_is)))
        (λ (off : q ≢ made). ap (λ b. (kept_view b (view_at old q)).takes) (ne_eqb q (made_by old) (λ e. off (e ∙ h.made_is))) ∙ h.handed q some (omega arith) low) (cases_eq q made);
  }

  pub split_fresh : 0 < made → IsPassOf post given → number_of given ≡ made_by old → IsFresh post made given
  split_fresh some own number = record {
    own = own;
    number_is = number ∙ h.made_is;
    made_is = λ zero. absurd (omega arith);
    sent = λ q less. ap (λ (v : View). v.sent) (split.given q less) ∙ given_sent (q == made_by old) (view_at old q);
    taken = λ q less. ap (λ (v : View). v.taken) (split.given q less) ∙ given_taken (q == made_by old) (view_at old q) (h.taken q less);
    role = λ q less. ap (λ (v : View). v.takes) (split.given q less) ∙ given_role (q == made_by old) (view_at old q) ∙ ap (λ n. q == n) h.made_is;
  }

-- all passes are made
pub all_split : {K : Type 0} (post : Post K) (pass : PostPass) → IsSplitting post (owners_of post) pass → IsFresh post 0 pass
all_split post pass h = record {
  own = h.own;
  number_is = h.number_is;
  made_is = λ zero. h.made_is;
  sent = h.sent;
  taken = h.taken;
  role = λ q less. ⊎_elim
      (λ (at : q ≡ 0). subst (λ n. (view_at pass n).takes ≡ true) (h.number_is ∙ sym at) h.own.takes ∙ sym (eq-eqb q 0 at))
      (λ (off : q ≢ 0). h.handed q (omega arith) less less ∙ sym (ne_eqb q 0 off)) (cases_eq q 0);
}

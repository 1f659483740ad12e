-- The first pass takes in the others.
use Rattle.std.proofs.Common.{◌≡◌, ◌≢◌, ℕ, ◌<◌, List, ◌∷◌, refl, sym, ap, ◌∙◌, subst, inl, inr, arith, Contains, Bool, true, false, cond, eq-eqb, ne_eqb}
use Rattle.std.specs.Prelude.{IsTrue, ◌||◌}
use Rattle.std.proofs.lemmas.List.Elements.{All-contains, Contains-append_left, Contains-append_right}
use Rattle.pb_mail.specs.declared.letter.Letter.{Letter}
use Rattle.pb_mail.specs.declared.view.View.{View}
use Rattle.pb_mail.specs.declared.post.Post.{Post}
use Rattle.pb_mail.specs.declared.pass.PostPass.{PostPass}
use Rattle.pb_mail.specs.Views.{letters_of}
use Rattle.pb_mail.specs.Rule.{AreWhole}
use Rattle.pb_mail.specs.Passes.{view_at, owners_of, HasMet}
use Rattle.pb_mail.specs.Posted.{KnowsOf}
use Rattle.pb_owners.specs.Passing.{IsOwnersPass, KnowsAllOf, KeepsSent}

or_left : (a b : Bool) → IsTrue a → IsTrue (a || b)
or_left true b e = refl
or_left false b e = let bad : false ≡ true = e in cc

module _ {K : Type 0} (post : Post K) where
  -- the first pass knows what it knows itself
  pub knows_own : (pass : PostPass) → IsOwnersPass post 0 pass → 0 < owners_of post → KnowsAllOf post pass 0 pass
  knows_own pass h some = record {
    sent = λ q less. inl ((h.own.views q less).number ∙ h.number_is, refl);
    takes = h.role 0 some ∙ eq-eqb 0 0 refl;
    taken = refl;
  }

  -- it takes in one more, that of the next owner
  module _ (old other new : PostPass) (number : ℕ) (is : IsOwnersPass post number other) (low : number < owners_of post) (met : HasMet (owners_of post) old other new) where
    -- what it knows of another owner stays
    pub knows_still : (owner : ℕ) (pass : PostPass) → owner < owners_of post → owner ≢ number → KnowsAllOf post old owner pass → KnowsAllOf post new owner pass
    knows_still owner pass less off h = record {
      sent = λ q below. know q below (h.sent q below);
      takes = subst (λ (v : View). IsTrue v.takes) (sym (met owner less)) (or_left (view_at old owner).takes (view_at other owner).takes h.takes);
      taken = ap (λ (v : View). v.taken) (met owner less) ∙ ap (λ b. cond b (view_at other owner).taken (view_at old owner).taken) (is.role owner less ∙ ne_eqb owner number off) ∙ h.taken;
    }
      where
        know : (q : ℕ) → q < owners_of post → KnowsOf (view_at old q) owner (view_at pass q).sent → KnowsOf (view_at new q) owner (view_at pass q).sent
        know q below (inl k) = inl (ap (λ (v : View). v.number) (met q below) ∙ k.0, ap (λ (v : View). v.sent) (met q below) ∙ k.1)
        know q below (inr k) =
            inr (subst (λ (v : View). Contains v.met (owner, (view_at pass q).sent)) (sym (met q below))
            (Contains-append_left (view_at old q).met (((view_at other q).number, (view_at other q).sent) ∷ (view_at other q).met) (owner, (view_at pass q).sent) k))

    -- and what this one knew is known
    pub knows_new : (view_at old number).takes ≡ false → KnowsAllOf post new number other
    knows_new closed = record {
      sent = λ q below.
          let same : ((view_at other q).number, (view_at other q).sent) ≡ (number, (view_at other q).sent) = λ i. (((is.own.views q below).number ∙ is.number_is) i, (view_at other q).sent) in
          inr (subst (λ (v : View). Contains v.met (number, (view_at other q).sent)) (sym (met q below))
          (Contains-append_right (view_at old q).met (((view_at other q).number, (view_at other q).sent) ∷ (view_at other q).met) (number, (view_at other q).sent) (0, omega arith, same)));
      takes = subst (λ (v : View). IsTrue v.takes) (sym (met number low)) (ap (λ b. b || (view_at other number).takes) closed ∙ is.role number low ∙ eq-eqb number number refl);
      taken = ap (λ (v : View). v.taken) (met number low) ∙ ap (λ b. cond b (view_at other number).taken (view_at old number).taken) (is.role number low ∙ eq-eqb number number refl);
    }

    pub closed_still : (q : ℕ) → q < owners_of post → q ≢ number → (view_at old q).takes ≡ false → (view_at new q).takes ≡ false
    closed_still q less off closed = ap (λ (v : View). v.takes) (met q less) ∙ ap (λ b. b || (view_at other q).takes) closed ∙ is.role q less ∙ ne_eqb q number off

-- once all was taken, what was taken of an owner is what it sent
pub whole_of : (v : View) (owner : ℕ) (sent : List Letter) → AreWhole v → KnowsOf v owner sent → letters_of owner v.taken ≡ sent
whole_of v owner sent w (inl k) = ap (λ n. letters_of n v.taken) (sym k.0) ∙ w.own ∙ k.1
whole_of v owner sent w (inr h) = All-contains (λ (p : ℕ × List Letter). letters_of p.0 v.taken ≡ p.1) v.met (owner, sent) w.met h

-- what is known of what was sent stays while letters are taken
pub knows_kept : (old new : PostPass) (q owner : ℕ) (sent : List Letter) → KeepsSent old new → KnowsOf (view_at old q) owner sent → KnowsOf (view_at new q) owner sent
knows_kept old new q owner sent keeps (inl k) = inl (keeps.number q ∙ k.0, keeps.sent q ∙ k.1)
knows_kept old new q owner sent keeps (inr k) = inr (subst (λ xs. Contains xs (owner, sent)) (sym (keeps.met q)) k)

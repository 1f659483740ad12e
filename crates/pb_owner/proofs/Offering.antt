-- Offers one after another, to the owner's own rows and by letters.
use Rattle.std.proofs.Common.{◌≡◌, ◌≢◌, ℕ, zero, suc, ◌+◌, ◌<◌, ◌==◌, ◌&&◌, not, Bool, true, false, cond, List, [], ◌∷◌, ◌++◌, length, take, get_or, Option, Some, None, refl, sym, ap, ◌∙◌, subst, arith, ne_eqb}
use Rattle.std.proofs.lemmas.Bool.{eqb-false}
use Rattle.std.proofs.lemmas.List.{append-nil, take_more}
use Rattle.std.specs.List.{AllByRecursion}
use Rattle.pb_model.specs.declared.row.Row.{Row}
use Rattle.pb_model.specs.declared.row.Succ.{Succ}
use Rattle.pb_model.specs.Space.{Space, steps}
use Rattle.pb_model.specs.Guide.{Guide}
use Rattle.pb_model.specs.Store.{Part, is_place_of}
use Rattle.pb_model.specs.Work.{offered_row, row_after_offer}
use Rattle.pb_model.proofs.Callers.{by_cases, equal, equal_self}
use Rattle.pb_model.proofs.Callers.{offers_push}
use Rattle.pb_model.proofs.Callers.{IsStep, are_steps}
use Rattle.pb_lists.specs.Bundle.{row_of, SetsRow}
use Rattle.pb_model.specs.declared.row.Estimate.{Estimate}
use Rattle.pb_mail.specs.declared.pass.PostPass.{PostPass}
use Rattle.pb_mail.specs.declared.post.Post.{Post}
use Rattle.pb_mail.specs.Posted.{letters_to}
use Rattle.pb_mail.specs.Passes.{IsPassOf, number_of, made_by, view_at, ChangesAt, KnowsTheSame}
use Rattle.pb_mail.specs.Views.{sent_view}
use Rattle.pb_mail.proofs.Callers.{letters_to_append, posted_none, posted_same, posted_send}
use Rattle.pb_hashed.specs.MailWork.{letter_for, letters_out}
use Rattle.pb_owner.specs.declared.share.Share.{Share}
use Rattle.pb_owner.specs.Expanding.{HasOffered}

-- a row was set in one place
set_rows : (old new : Part) (state : ℕ) (to : Option Row → Row) → SetsRow old new state (to (old state)) → (other : ℕ) → new other ≡ cond (other == state) (Some (to (old other))) (old other)
set_rows old new state to set other = by_cases (other == state)
    (λ e. subst (λ k. new k ≡ Some (to (old k))) (sym (equal other state e)) set.here ∙ sym (ap (λ b. cond b (Some (to (old other))) (old other)) e))
    (λ e. set.others other (eqb-false other state e) ∙ sym (ap (λ b. cond b (Some (to (old other))) (old other)) e))

-- a row keeps its estimate, so any may stand here
pub known_rows : (old new : Part) (state g : ℕ) (estimate : Estimate) (parent : Option ℕ) (action : ℕ) (row : Row) → old state ≡ Some row → SetsRow old new state (offered_row g row.estimate parent action (Some row))
    → (other : ℕ) → new other ≡ cond (other == state) (Some (offered_row g estimate parent action (old other))) (old other)
known_rows old new state g estimate parent action row found set =
    set_rows old new state (offered_row g estimate parent action) (subst (λ o. SetsRow old new state (offered_row g estimate parent action o)) (sym found) set)

pub new_rows : (old new : Part) (state g : ℕ) (one other : Estimate) (parent : Option ℕ) (action : ℕ) → old state ≡ None → one ≡ other → SetsRow old new state (offered_row g one parent action None)
    → (k : ℕ) → new k ≡ cond (k == state) (Some (offered_row g other parent action (old k))) (old k)
new_rows old new state g one other parent action absent same set =
    set_rows old new state (offered_row g other parent action)
    (subst (λ o. SetsRow old new state (offered_row g other parent action o)) (sym absent) (subst (λ e. SetsRow old new state (offered_row g e parent action None)) same set))

-- what holds of every successor of a list holds of the one at this place
one_of_all : (P : Succ → Type 0) (succs : List Succ) (i : ℕ) (succ : Succ) → AllByRecursion P succs → i < length succs → succ ≡ get_or succs i succ → P succ
one_of_all P [] i succ all less is = absurd (omega (arith, less))
one_of_all P (first ∷ succs) zero succ all less is = subst P (sym is) all.0
one_of_all P (first ∷ succs) (suc i) succ all less is = one_of_all P succs i succ all.1 (omega (arith, less)) is

pub step_at : (space : Space) (state : ℕ) (succs : List Succ) (i : ℕ) (succ : Succ) → succs ≡ steps space state → i < length succs → succ ≡ get_or succs i succ → IsStep space state succ
step_at space state succs i succ are less is = one_of_all (IsStep space state) succs i succ (subst (AllByRecursion (IsStep space state)) (sym are) (are_steps space state)) less is

module _ (guide : Guide) (number parent g : ℕ) where
  out_append : (to : ℕ) (xs ys : List Succ) → letters_out guide parent g number to (xs ++ ys) ≡ letters_out guide parent g number to xs ++ letters_out guide parent g number to ys
  out_append to [] ys = refl
  out_append to (x ∷ xs) ys = go ((guide.home x.state == to) && not (to == number)) (out_append to xs ys)
    where
      go : (b : Bool) → letters_out guide parent g number to (xs ++ ys) ≡ letters_out guide parent g number to xs ++ letters_out guide parent g number to ys
          → cond b (letter_for parent g x ∷ letters_out guide parent g number to (xs ++ ys)) (letters_out guide parent g number to (xs ++ ys))
          ≡ cond b (letter_for parent g x ∷ letters_out guide parent g number to xs) (letters_out guide parent g number to xs) ++ letters_out guide parent g number to ys
      go true e = ap (λ l. letter_for parent g x ∷ l) e
      go false e = e

  module _ (y : Succ) where
    one_out : (to : ℕ) (b : Bool) → ((guide.home y.state == to) && not (to == number)) ≡ b → letters_out guide parent g number to (y ∷ []) ≡ cond b (letter_for parent g y ∷ []) []
    one_out to b e = ap (λ b. cond b (letter_for parent g y ∷ []) []) e

    -- a state of the owner's own gets no letter
    own_out : guide.home y.state ≡ number → (to : ℕ) → letters_out guide parent g number to (y ∷ []) ≡ []
    own_out at to = one_out to false (by_cases (to == number)
        (λ e. ap (λ b. (guide.home y.state == to) && not b) e ∙ right (guide.home y.state == to))
        (λ e. ap (λ k. (k == to) && not (to == number)) at ∙ ap (λ b. b && not (to == number)) (ne_eqb number to (λ h. eqb-false to number e (sym h)))))
      where
        right : (b : Bool) → (b && false) ≡ false
        right true = refl
        right false = refl

    -- and another one's gets one, to that owner
    far_out : guide.home y.state ≢ number → (to : ℕ) → letters_out guide parent g number to (y ∷ []) ≡ letters_to to ((guide.home y.state, letter_for parent g y) ∷ [])
    far_out off to = by_cases (guide.home y.state == to)
        (λ e. let same : to ≢ number = (λ h. off (equal (guide.home y.state) to e ∙ h)) in
        one_out to true ((λ i. e i && not (to == number)) ∙ ap not (ne_eqb to number same)) ∙ sym (ap (λ b. cond b (letter_for parent g y ∷ []) []) e))
        (λ e. one_out to false (λ i. e i && not (to == number)) ∙ sym (ap (λ b. cond b (letter_for parent g y ∷ []) []) e))

    own_place : (state : ℕ) → guide.home y.state ≡ number → is_place_of guide y.state number state ≡ (state == y.state)
    own_place state at = ap (λ k. (number == k) && (state == y.state)) at ∙ ap (λ b. b && (state == y.state)) (equal_self number)

    far_place : (state : ℕ) → guide.home y.state ≢ number → is_place_of guide y.state number state ≡ false
    far_place state off = ap (λ b. b && (state == y.state)) (ne_eqb number (guide.home y.state) (λ h. off (sym h)))

    abbrev offered : (state : ℕ) → Option Row → Row
    offered state = offered_row (g + y.cost) (guide.estimate state) (Some parent) y.action

    own_row : (mid new : Part) → guide.home y.state ≡ number → ((state : ℕ) → new state ≡ cond (state == y.state) (Some (offered y.state (mid state))) (mid state))
        → (state : ℕ) → new state ≡ row_after_offer guide parent g y number state (mid state)
    own_row mid new at is state = is state ∙ by_cases (state == y.state)
        (λ e. ap (λ b. cond b (Some (offered y.state (mid state))) (mid state)) e ∙ ap (λ s. Some (offered s (mid state))) (sym (equal state y.state e)) ∙ sym (ap (λ b. cond b (Some (offered state (mid state))) (mid state)) (own_place state at ∙ e)))
        (λ e. ap (λ b. cond b (Some (offered y.state (mid state))) (mid state)) e ∙ sym (ap (λ b. cond b (Some (offered state (mid state))) (mid state)) (own_place state at ∙ e)))

    far_row : (mid : Part) → guide.home y.state ≢ number → (state : ℕ) → mid state ≡ row_after_offer guide parent g y number state (mid state)
    far_row mid off state = sym (ap (λ b. cond b (Some (offered state (mid state))) (mid state)) (far_place state off))

  module _ {K : Type 0} (post : Post K) where
    pub offered_none : (old : Share) (before : PostPass) → IsPassOf post before → HasOffered guide number parent g [] post old old before before
    offered_none old before own = record { rows = λ state. refl; weight_is = refl; incumbent_is = refl; sends = []; posted = posted_none post before own; letters = λ to. refl }

    -- a successor that the owner has itself
    pub offered_own : (xs : List Succ) (y : Succ) (old mid new : Share) (before after : PostPass) → HasOffered guide number parent g xs post old mid before after → guide.home y.state ≡ number
        → ((state : ℕ) → row_of new.bundle state ≡ cond (state == y.state) (Some (offered y y.state (row_of mid.bundle state))) (row_of mid.bundle state))
        → new.bundle.weight ≡ mid.bundle.weight → new.incumbent ≡ mid.incumbent → HasOffered guide number parent g (xs ++ y ∷ []) post old new before after
    offered_own xs y old mid new before after h at is weight incumbent = record {
      rows = λ state. own_row y (row_of mid.bundle) (row_of new.bundle) at is state ∙ ap (row_after_offer guide parent g y number state) (h.rows state) ∙ sym (offers_push guide parent g xs y number state (row_of old.bundle state));
      weight_is = weight ∙ h.weight_is;
      incumbent_is = incumbent ∙ h.incumbent_is;
      sends = h.sends;
      posted = h.posted;
      letters = λ to. h.letters to ∙ sym (out_append to xs (y ∷ []) ∙ ap (λ l. letters_out guide parent g number to xs ++ l) (own_out y at to) ∙ append-nil (letters_out guide parent g number to xs));
    }

    -- one that another owner has
    pub offered_far : (xs : List Succ) (y : Succ) (old mid : Share) (before after next : PostPass) → HasOffered guide number parent g xs post old mid before after → guide.home y.state ≢ number
        → IsPassOf post next → number_of next ≡ number_of after → made_by next ≡ made_by after
        → ChangesAt after next (guide.home y.state) (sent_view (view_at after (guide.home y.state)) (letter_for parent g y)) → HasOffered guide number parent g (xs ++ y ∷ []) post old mid before next
    offered_far xs y old mid before after next h off own number_is made change = record {
      rows = λ state. far_row y (row_of mid.bundle) off state ∙ ap (row_after_offer guide parent g y number state) (h.rows state) ∙ sym (offers_push guide parent g xs y number state (row_of old.bundle state));
      weight_is = h.weight_is;
      incumbent_is = h.incumbent_is;
      sends = h.sends ++ (guide.home y.state, letter_for parent g y) ∷ [];
      posted = posted_send post before after next h.sends [] (guide.home y.state) (letter_for parent g y) h.posted own number_is made change;
      letters = λ to. letters_to_append to h.sends ((guide.home y.state, letter_for parent g y) ∷ [])
          ∙ (λ i. h.letters to i ++ sym (far_out y off to) i) ∙ sym (out_append to xs (y ∷ []));
    }

    -- a letter that wasn't sent changes nothing
    pub offered_same : (xs : List Succ) (old mid : Share) (before after next : PostPass) → HasOffered guide number parent g xs post old mid before after → IsPassOf post next → number_of next ≡ number_of after
        → made_by next ≡ made_by after → KnowsTheSame after next → HasOffered guide number parent g xs post old mid before next
    offered_same xs old mid before after next h own number_is made same = record {
      rows = h.rows;
      weight_is = h.weight_is;
      incumbent_is = h.incumbent_is;
      sends = h.sends;
      posted = posted_same post before after next h.sends [] h.posted own number_is made same;
      letters = h.letters;
    }

-- the first so many of a list, and the next
pub next_of : (P : List Succ → Type 0) (succs : List Succ) (i : ℕ) (y : Succ) → i < length succs → y ≡ get_or succs i y → P (take i succs ++ y ∷ []) → P (take (i + 1) succs)
next_of P succs i y less is h = subst P (sym (take_more succs i y less ∙ ap (λ s. take i succs ++ s ∷ []) (sym is))) h

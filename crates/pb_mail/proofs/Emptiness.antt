-- A queue gives no letter if and only if all that was sent to it was taken.
use Rattle.std.proofs.Common.{◌≡◌, ◌≢◌, ℕ, zero, suc, ◌<◌, eqb, List, [], ◌∷◌, ◌++◌, Bool, Option, None, Some, sym, refl, ap, ◌∙◌, subst, ⊎_elim, cond, eq-eqb}
use Rattle.std.specs.Prelude.{IfSome, IfNone, IsNone, Contains}
use Rattle.std.proofs.lemmas.List.{append_assoc, append-nil}
use Rattle.std.proofs.lemmas.List.Elements.{All-contains}
use Rattle.std.proofs.lemmas.Bool.{cases_eq}
use Rattle.pb_mail.specs.declared.letter.Letter.{Letter}
use Rattle.pb_mail.specs.declared.letter.Sent.{Sent}
use Rattle.pb_mail.specs.declared.view.View.{View}
use Rattle.pb_mail.specs.declared.pass.PostPass.{PostPass}
use Rattle.pb_mail.specs.Views.{letters_of, took_view}
use Rattle.pb_mail.specs.Rule.{IsBeginning, IsTaken, AreBeginnings, AreWhole, HasMetAll}
use Rattle.pb_mail.specs.Passes.{view_at, TakesFrom, KnowsTheSame}
use Rattle.pb_mail.proofs.Letters.{letters_append, letters_own}

no_more : (xs : List Letter) (y : Letter) (ys : List Letter) → xs ≢ xs ++ y ∷ ys
no_more [] y ys e = cc
no_more (x ∷ xs) y ys e = no_more xs y ys cc

-- a letter more of this sender isn't in the beginning of what it sent, if all was taken before
not_sent : (owner : ℕ) (x : Sent) (taken : List Sent) (sent : List Letter) → x.from ≡ owner → IsBeginning owner sent (taken ++ x ∷ []) → letters_of owner taken ≢ sent
not_sent owner x taken sent by b e =
    no_more (letters_of owner taken) x.letter b.0
    (e ∙ b.1 ∙ ap (λ l. l ++ b.0) (letters_append owner taken (x ∷ []) ∙ ap (λ l. letters_of owner taken ++ l) (letters_own x owner by)) ∙ append_assoc (letters_of owner taken) (x.letter ∷ []) b.0)

-- nothing can be taken once all was taken
never_whole : (fits : ℕ → Bool) (v : View) (x : Sent) (w : View) → IsTaken fits v x w → HasMetAll v → AreWhole v → ⊥
never_whole fits v x w t all whole =
    let began : AreBeginnings (took_view v x) = subst AreBeginnings t.now t.beginnings in
    ⊎_elim
    (λ (own : x.from ≡ v.number). not_sent v.number x v.taken v.sent own began.own whole.own)
    (λ (other : x.from ≢ v.number). let known = all.met x.from (t.sender all.first) (λ e. other (e ∙ sym all.first)) in
    not_sent x.from x v.taken known.0 refl (All-contains (λ (p : ℕ × List Letter). IsBeginning p.0 p.1 (v.taken ++ x ∷ [])) v.met (x.from, known.0) began.met known.1)
    (All-contains (λ (p : ℕ × List Letter). letters_of p.0 v.taken ≡ p.1) v.met (x.from, known.0) whole.met known.1))
    (cases_eq x.from v.number)

pub gives_none_exactly : (fits : ℕ → Bool) (old new : PostPass) (owner : ℕ) (result : Option (ℕ × Letter))
    → IfSome result (λ r. TakesFrom fits old new owner (record { from = r.0; letter = r.1 }))
    → IfNone result (KnowsTheSame old new × AreWhole (view_at old owner))
    → HasMetAll (view_at old owner) → (IsNone result → AreWhole (view_at old owner)) × (AreWhole (view_at old owner) → IsNone result)
gives_none_exactly fits old new owner None some none all = ((λ _. none.1), (λ _. refl))
gives_none_exactly fits old new owner (Some r) some none all =
    ((λ e. absurd cc), (λ whole. absurd (never_whole fits (view_at old owner) (record { from = r.0; letter = r.1 }) (view_at new owner) some.taken all whole)))

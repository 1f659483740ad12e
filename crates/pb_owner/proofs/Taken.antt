-- Letters taken in, one after another.
use Rattle.std.proofs.Common.{◌≡◌, ℕ, ◌==◌, cond, List, [], ◌∷◌, ◌++◌, Some, refl, sym, ap, ◌∙◌}
use Rattle.std.proofs.lemmas.List.{append_assoc}
use Rattle.pb_model.specs.Guide.{Guide}
use Rattle.pb_model.specs.Store.{Part}
use Rattle.pb_model.specs.Work.{offered_row}
use Rattle.pb_model.proofs.Callers.{by_cases, equal}
use Rattle.pb_lists.specs.Bundle.{row_of}
use Rattle.pb_task.specs.declared.parts.TaskParts.{TaskParts}
use Rattle.pb_estimate.specs.Choices.{Choice}
use Rattle.pb_estimate.specs.Estimates.{estimate_by}
use Rattle.pb_mail.specs.declared.letter.Sent.{Sent}
use Rattle.pb_mail.specs.declared.view.View.{View}
use Rattle.pb_mail.specs.declared.pass.PostPass.{PostPass}
use Rattle.pb_mail.specs.Passes.{view_at, number_of, made_by, TakesFrom}
use Rattle.pb_hashed.specs.MailWork.{part_with, part_after}
use Rattle.pb_owner.specs.declared.share.Share.{Share}
use Rattle.pb_owner.specs.Taking.{HasTakenIn, KeepsQueues}

part_more : (guide : Guide) (xs : List Sent) (x : Sent) (part : Part) → part_after guide (xs ++ x ∷ []) part ≡ part_with guide x.letter (part_after guide xs part)
part_more guide [] x part = refl
part_more guide (y ∷ ys) x part = part_more guide ys x (part_with guide y.letter part)

module _ (task : TaskParts) (choice : Choice) where
  pub taken_none : (old : Share) → HasTakenIn task choice [] old old
  taken_none old = record { rows = λ homes. refl; weight_is = refl; incumbent_is = refl }

  pub taken_more : (xs : List Sent) (x : Sent) (old mid new : Share) → HasTakenIn task choice xs old mid
      → ((other : ℕ) → row_of new.bundle other ≡ cond (other == x.letter.state) (Some (offered_row x.letter.g (estimate_by task choice x.letter.state) (Some x.letter.parent) x.letter.action (row_of mid.bundle other))) (row_of mid.bundle other))
      → new.bundle.weight ≡ mid.bundle.weight → new.incumbent ≡ mid.incumbent → HasTakenIn task choice (xs ++ x ∷ []) old new
  taken_more xs x old mid new h is weight incumbent = record {
    rows = λ homes.
        let guide : Guide = record { estimate = estimate_by task choice; home = homes } in
        one guide refl ∙ ap (part_with guide x.letter) (h.rows homes) ∙ sym (part_more guide xs x (row_of old.bundle));
    weight_is = weight ∙ h.weight_is;
    incumbent_is = incumbent ∙ h.incumbent_is;
  }
    where
      one : (guide : Guide) → guide.estimate ≡ estimate_by task choice → row_of new.bundle ≡ part_with guide x.letter (row_of mid.bundle)
      one guide same i state = (is state ∙ by_cases (state == x.letter.state)
          (λ e. ap (λ b. cond b (Some (offered_row x.letter.g (estimate_by task choice x.letter.state) (Some x.letter.parent) x.letter.action (row_of mid.bundle state))) (row_of mid.bundle state)) e
          ∙ (λ j. Some (offered_row x.letter.g (sym same j (sym (equal state x.letter.state e) j)) (Some x.letter.parent) x.letter.action (row_of mid.bundle state)))
          ∙ sym (ap (λ b. cond b (Some (offered_row x.letter.g (guide.estimate state) (Some x.letter.parent) x.letter.action (row_of mid.bundle state))) (row_of mid.bundle state)) e))
          (λ e. ap (λ b. cond b (Some (offered_row x.letter.g (estimate_by task choice x.letter.state) (Some x.letter.parent) x.letter.action (row_of mid.bundle state))) (row_of mid.bundle state)) e
          ∙ sym (ap (λ b. cond b (Some (offered_row x.letter.g (guide.estimate state) (Some x.letter.parent) x.letter.action (row_of mid.bundle state))) (row_of mid.bundle state)) e))) i

module _ (fits : ℕ → Rattle.std.specs.Prelude.Bool) (owner : ℕ) (x : Sent) where
  pub keeps_more : (old mid next : PostPass) → KeepsQueues owner old mid → number_of next ≡ number_of mid → made_by next ≡ made_by mid → TakesFrom fits mid next owner x → KeepsQueues owner old next
  keeps_more old mid next k number_same made_same t = record {
    number_is = number_same ∙ k.number_is;
    made_is = made_same ∙ k.made_is;
    sent = ap (λ (v : View). v.sent) t.taken.now ∙ k.sent;
    met = ap (λ (v : View). v.met) t.taken.now ∙ k.met;
    number = ap (λ (v : View). v.number) t.taken.now ∙ k.number;
    takes = ap (λ (v : View). v.takes) t.taken.now ∙ k.takes;
    others = λ other off. t.others other off ∙ k.others other off;
  }

  pub taken_on : (old mid next : PostPass) (takes : List Sent) → (view_at mid owner).taken ≡ (view_at old owner).taken ++ takes → TakesFrom fits mid next owner x
      → (view_at next owner).taken ≡ (view_at old owner).taken ++ (takes ++ x ∷ [])
  taken_on old mid next takes is t = ap (λ (v : View). v.taken) t.taken.now ∙ ap (λ l. l ++ x ∷ []) is ∙ append_assoc (view_at old owner).taken takes (x ∷ [])

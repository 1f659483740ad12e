-- An expansion, from its offers.
use Rattle.std.proofs.Common.{◌≡◌, ℕ, ◌<◌, ◌++◌, List, [], length, Some, ap, ◌∙◌, subst, take}
use Rattle.pb_model.specs.declared.row.Row.{Row}
use Rattle.pb_model.specs.declared.row.Status.TheVariants.{Opened, Closed}
use Rattle.pb_model.specs.declared.row.Succ.{Succ}
use Rattle.pb_model.specs.Space.{Space, steps}
use Rattle.pb_model.specs.Guide.{Guide}
use Rattle.pb_model.specs.Weight.{Weight}
use Rattle.pb_model.specs.Work.{row_after_offers}
use Rattle.pb_model.proofs.Callers.{IsStep, all_take, are_steps}
use Rattle.pb_lists.specs.Bundle.{row_of, SetsStatus}
use Rattle.pb_mail.specs.declared.pass.PostPass.{PostPass}
use Rattle.pb_mail.specs.declared.post.Post.{Post}
use Rattle.pb_mail.specs.Posted.{letters_to}
use Rattle.pb_owner.specs.declared.share.Share.{Share}
use Rattle.pb_owner.specs.declared.plan.Round.{Round}
use Rattle.pb_owner.specs.Shares.{AreOwn, IsNextRow, owner_of}
use Rattle.pb_owner.specs.Plans.{space_in, guide_in, weight_in}
use Rattle.pb_owner.specs.Expanding.{HasOffered, HasExpanded}
use Rattle.pb_owner.proofs.Alone.{own_left, expand_worked, break_worked}

module _ {K : Type 0} (round : Round K) where
  abbrev space : Space
  space = space_in round.plan.now

  abbrev guide : Guide
  guide = guide_in round.plan.now

  abbrev weight : Weight
  weight = weight_in round.plan.now

  abbrev number : ℕ
  number = round.number

  abbrev post : Post K
  post = round.post.now

  module _ (old : Share) (state : ℕ) (row : Row) (are : AreOwn guide number (row_of old.bundle)) (next : IsNextRow space weight old state row)
      (succs : List Succ) (of_state : succs ≡ steps space state) (before after : PostPass) where
    -- the row stays Opened while its successors are offered
    pub still_opened : (mid : Share) → HasOffered guide number state row.g succs post old mid before after → (x : Row) × (row_of mid.bundle state ≡ Some x) × (x.status ≡ Opened)
    still_opened mid h =
        let left = own_left space guide weight number (owner_of old (λ to. [])) are state row next.first (steps space state) (are_steps space state) in
        (left.0, h.rows state ∙ (λ i. row_after_offers guide state row.g (of_state i) number state (row_of old.bundle state)) ∙ left.1, left.2)

    -- and also while only the first of them are
    pub cut_opened : (count : ℕ) (mid : Share) → HasOffered guide number state row.g (take count succs) post old mid before after → (x : Row) × (row_of mid.bundle state ≡ Some x) × (x.status ≡ Opened)
    cut_opened count mid h =
        let left = own_left space guide weight number (owner_of old (λ to. [])) are state row next.first (take count (steps space state)) (all_take (IsStep space state) count (steps space state) (are_steps space state)) in
        (left.0, h.rows state ∙ (λ i. row_after_offers guide state row.g (take count (of_state i)) number state (row_of old.bundle state)) ∙ left.1, left.2)

    pub has_expanded : (mid new : Share) → HasOffered guide number state row.g succs post old mid before after → SetsStatus (row_of mid.bundle) (row_of new.bundle) state Closed → new.incumbent ≡ mid.incumbent
        → HasExpanded space guide weight number 1 0 post old new before after
    has_expanded mid new h set incumbent = record {
      sends = h.sends;
      posted = h.posted;
      worked = λ letters.
          expand_worked space guide weight number (owner_of old letters) are state row next.first next.kept next.no_goal (row_of mid.bundle) (owner_of new (λ to. letters to ++ letters_to to h.sends))
          (λ other. h.rows other ∙ (λ i. row_after_offers guide state row.g (of_state i) number other (row_of old.bundle other))) set (incumbent ∙ h.incumbent_is)
          (λ to. ap (λ l. letters to ++ l) (h.letters to ∙ (λ i. Rattle.pb_hashed.specs.MailWork.letters_out guide state row.g number to (of_state i))));
    }

    pub has_broken : (new : Share) (count : ℕ) → count < length succs → HasOffered guide number state row.g (take count succs) post old new before after → HasExpanded space guide weight number 0 1 post old new before after
    has_broken new count less h = record {
      sends = h.sends;
      posted = h.posted;
      worked = λ letters.
          break_worked space guide weight number (owner_of old letters) are state row next.first next.kept next.no_goal count (subst (λ ss. count < length ss) of_state less) (owner_of new (λ to. letters to ++ letters_to to h.sends))
          (λ other. h.rows other ∙ (λ i. row_after_offers guide state row.g (take count (of_state i)) number other (row_of old.bundle other))) h.incumbent_is
          (λ to. ap (λ l. letters to ++ l) (h.letters to ∙ (λ i. Rattle.pb_hashed.specs.MailWork.letters_out guide state row.g number to (take count (of_state i)))));
    }

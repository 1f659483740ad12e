-- An owner's way through a round.
use Rattle.std.proofs.Common.{◌≡◌, ℕ, ◌<◌, ◌≤◌, ◌⊎◌, [], ◌++◌, Some, Bool, true, false, inl, inr, refl, sym, ap, ◌∙◌, subst, arith}
use Rattle.std.proofs.lemmas.List.{append-nil}
use Rattle.pb_lists.specs.Bundle.{row_of}
use Rattle.pb_mail.specs.declared.post.Post.{Post}
use Rattle.pb_mail.specs.declared.pass.PostPass.{PostPass}
use Rattle.pb_mail.specs.Passes.{view_at, number_of, owners_of}
use Rattle.pb_mail.specs.Posted.{letters_to, HasPosted, KnowsOf}
use Rattle.pb_model.specs.Work.{expansions}
use Rattle.pb_hashed.specs.MailWork.{part_after}
use Rattle.pb_owner.specs.declared.share.Share.{Share}
use Rattle.pb_owner.specs.Shares.{owner_of, HasWorked, IsNextRow}
use Rattle.pb_model.specs.declared.row.Row.{Row}
use Rattle.pb_model.specs.Space.{Space}
use Rattle.pb_model.specs.Weight.{Weight}
use Rattle.pb_model.specs.Store.{HasOpened}
use Rattle.pb_mail.specs.declared.letter.Letter.{Letter}
use Rattle.std.specs.Prelude.{List}
use Rattle.pb_owner.specs.declared.plan.Plan.{Plan}
use Rattle.pb_owners.specs.declared.seat.Seat.{Seat}
use Rattle.pb_owner.specs.Plans.{space_in, guide_in, weight_in}
use Rattle.pb_owners.specs.Plans.{HasTools}
use Rattle.pb_owners.specs.Passing.{IsFresh, HasSeat, IsToMeet, IsWithoutPass, KnowsAllOf, KeepsSent}
use Rattle.pb_owners.specs.Rounds.{IsWithin, IsReady, one_if, HasBegun, HasLeft, TakesIn, HasTaken, IsCleared}
use Rattle.pb_owners.specs.Shares.{owner_in}
use Rattle.pb_owners.specs.RoundRule.{IsNextExpansion}
use Rattle.pb_owners.proofs.Pairs.{some_is}
use Rattle.pb_owners.proofs.Meetings.{knows_kept}
use Rattle.pb_owners.proofs.Rounding.{DidPart, part_after_append}

-- the tools stay where the share's weight and the tools do
pub tools_with : (plan : Plan) (old new : Seat) → new.share.bundle.weight ≡ old.share.bundle.weight → new.estimator ≡ old.estimator → new.succs ≡ old.succs → HasTools plan old → HasTools plan new
tools_with plan old new weight estimator succs h = record {
  tables = rw estimator h.tables;
  room = rw succs h.room;
  of_weight = weight ∙ h.of_weight;
}

-- why an owner's part ended, if memory sufficed
ends_well : (space : Space) (weight : Weight) (share : Share) (letters : (to : ℕ) → List Letter) (failed : Bool) (used quota : ℕ) → failed ≡ false
    → (failed ≡ true) ⊎ ((HasOpened (row_of share.bundle) → ⊥) ⊎ ((used ≡ quota) × ((state : ℕ) × (row : Row) × IsNextRow space weight share state row)))
    → (HasOpened (row_of share.bundle) → ⊥) ⊎ ((used ≡ quota) × IsNextExpansion space weight (owner_of share letters))
ends_well space weight share letters failed used quota none (inl bad) = let e : true ≡ false = sym bad ∙ none in cc
ends_well space weight share letters failed used quota none (inr (inl empty)) = inl empty
ends_well space weight share letters failed used quota none (inr (inr (is, (state, row, next)))) = inr (is, record { state = state; row = row; first = next.first; kept = next.kept; no_goal = next.no_goal })

module _ {K : Type 0} (plan : Plan) (post : Post K) (i : ℕ) where
  -- a pass was given out
  pub ready_of : (old new : Seat) → HasSeat post i old new → HasTools plan old → IsWithin plan i old.share old.quota → IsReady plan post i new
  ready_of old new h tools within = subst (IsReady plan post i) (sym h.new_is) (record {
    pass = h.pass;
    pass_is = refl;
    fresh = h.fresh;
    tools = record { tables = tools.tables; room = tools.room; of_weight = tools.of_weight };
    within = within;
  })

  pub left_of : (old new : Seat) → HasBegun plan post i old new → HasLeft plan post i new
  left_of old new h = record { pass = h.after; pass_is = h.after_is; own = h.expanded.posted.own; tools = h.tools }

  module _ (first given begun : Seat) (seat : HasSeat post i first given) (part : HasBegun plan post i given begun) (less : i < owners_of post) where
    before_is : seat.pass ≡ part.before
    before_is = some_is seat.pass part.before (sym (ap (λ (s : Seat). s.pass) seat.new_is) ∙ part.before_is)

    fresh : IsFresh post i part.before
    fresh = subst (IsFresh post i) before_is seat.fresh

    share_is : given.share ≡ first.share
    share_is = ap (λ (s : Seat). s.share) seat.new_is

    number_is : number_of part.before ≡ i
    number_is = fresh.number_is

    pub used_within : begun.used ≤ first.quota
    used_within = let w = part.within in let q = ap (λ (s : Seat). s.quota) seat.new_is in omega arith

    module _ (taken : Seat) (took : HasTaken plan post i begun taken) (done : taken.failed ≡ false) where
      middle_is : part.after ≡ took.before
      middle_is = some_is part.after took.before (sym part.after_is ∙ took.before_is)

      takes_in : TakesIn plan post took.before took.after begun.share taken.share
      takes_in = took.taken done

      posted : HasPosted post part.after took.after [] takes_in.takes
      posted = subst (λ (p : PostPass). HasPosted post p took.after [] takes_in.takes) (sym middle_is) takes_in.posted

      after_number : number_of part.after ≡ i
      after_number = part.expanded.posted.number ∙ number_is

      -- the pass may be met
      pub to_meet : IsToMeet post i taken
      to_meet = record {
        pass = took.after;
        pass_is = took.after_is;
        owners = record {
          own = posted.own;
          number_is = posted.number ∙ after_number;
          made_is = λ zero. posted.made ∙ part.expanded.posted.made ∙ fresh.made_is zero;
          role = λ q below. posted.role q ∙ part.expanded.posted.role q ∙ fresh.role q below;
        };
      }

      sent_is : (q : ℕ) → q < owners_of post → (view_at took.after q).sent ≡ letters_to q part.expanded.sends
      sent_is q below = posted.sent q below ∙ append-nil (view_at part.after q).sent ∙ part.expanded.posted.sent q below ∙ ap (λ l. l ++ letters_to q part.expanded.sends) (fresh.sent q below)

      taken_is : (view_at took.after i).taken ≡ takes_in.takes
      taken_is =
          ap (λ n. (view_at took.after n).taken) (sym after_number) ∙ posted.taken
          ∙ ap (λ l. l ++ takes_in.takes)
          (ap (λ n. (view_at part.after n).taken) (after_number ∙ sym number_is) ∙ part.expanded.posted.taken ∙ append-nil (view_at part.before (number_of part.before)).taken ∙ ap (λ n. (view_at part.before n).taken) number_is ∙ fresh.taken i less)

      module _ (none_failed : begun.failed ≡ false) (left last : Seat) (met cleared : PostPass) (knows : (pass : PostPass) → taken.pass ≡ Some pass → KnowsAllOf post met i pass) (rest : IsWithoutPass taken left) (keeps : KeepsSent met cleared) (clear : IsCleared plan met cleared i left last) where
        left_share : left.share ≡ taken.share
        left_share = ap (λ (s : Seat). s.share) rest

        worked : HasWorked (space_in plan) (guide_in plan) (weight_in plan) i begun.used 0 (owner_of first.share (λ to. [])) (owner_of begun.share (λ to. letters_to to part.expanded.sends))
        worked = subst (λ (s : Share). HasWorked (space_in plan) (guide_in plan) (weight_in plan) i begun.used 0 (owner_of s (λ to. [])) (owner_of begun.share (λ to. letters_to to part.expanded.sends))) share_is
            (subst (λ b. HasWorked (space_in plan) (guide_in plan) (weight_in plan) i begun.used (one_if b) (owner_of given.share (λ to. [])) (owner_of begun.share (λ to. letters_to to part.expanded.sends))) none_failed
            (part.expanded.worked (λ to. [])))

        known : KnowsAllOf post met i took.after
        known = knows took.after took.after_is

        rows : row_of last.share.bundle ≡ part_after (guide_in plan) (takes_in.takes ++ clear.more) (row_of begun.share.bundle)
        rows =
            clear.taken_in.rows (guide_in plan).home ∙ ap (λ (s : Share). part_after (guide_in plan) clear.more (row_of s.bundle)) left_share
            ∙ ap (part_after (guide_in plan) clear.more) (takes_in.taken_in.rows (guide_in plan).home) ∙ sym (part_after_append (guide_in plan) takes_in.takes clear.more (row_of begun.share.bundle))

        ends_quota : (HasOpened (row_of begun.share.bundle) → ⊥) ⊎ ((begun.used ≡ given.quota) × IsNextExpansion (space_in plan) (weight_in plan) (owner_of begun.share (λ to. letters_to to part.expanded.sends)))
            → (HasOpened (row_of begun.share.bundle) → ⊥) ⊎ ((expansions worked.works ≡ first.quota) × IsNextExpansion (space_in plan) (weight_in plan) (owner_of begun.share (λ to. letters_to to part.expanded.sends)))
        ends_quota (inl empty) = inl empty
        ends_quota (inr h) = inr (worked.used_is ∙ h.0 ∙ ap (λ (s : Seat). s.quota) seat.new_is, h.1)

        pub did_part : DidPart (space_in plan) (guide_in plan) (weight_in plan) post cleared i (owner_in (Some first.share)) (owner_in (Some last.share)) first.quota last.used
        did_part = record {
          works = worked.works;
          mid = owner_of begun.share (λ to. letters_to to part.expanded.sends);
          takes = takes_in.takes ++ clear.more;
          alone = worked.comes;
          used_is = worked.used_is ∙ sym (clear.used_is ∙ ap (λ (s : Seat). s.used) rest ∙ took.used_is);
          none_broken = worked.broken_is;
          worked = record {
            turns = worked.turns;
            none_broken = worked.broken_is;
            within = let u = worked.used_is in let w = used_within in omega arith;
            ends = ends_quota (ends_well (space_in plan) (weight_in plan) begun.share (λ to. letters_to to part.expanded.sends) begun.failed begun.used given.quota none_failed part.ends);
          };
          known = λ q below. knows_kept met cleared q i (letters_to q part.expanded.sends) keeps (subst (KnowsOf (view_at met q) i) (sent_is q below) (known.sent q below));
          taken = clear.taken ∙ ap (λ l. l ++ clear.more) (known.taken ∙ taken_is);
          whole = clear.whole;
          part_is = rows;
          incumbent_is = clear.taken_in.incumbent_is ∙ ap (λ (s : Share). s.incumbent) left_share ∙ takes_in.taken_in.incumbent_is;
        }

        pub last_used : last.used ≤ first.quota
        last_used = let u = clear.used_is ∙ ap (λ (s : Seat). s.used) rest ∙ took.used_is in let w = used_within in omega arith

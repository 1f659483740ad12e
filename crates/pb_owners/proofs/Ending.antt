-- Before a round, and how a search ends.
use Rattle.std.proofs.Common.{◌≡◌, ℕ, ◌+◌, ◌*◌, ◌-◌, ◌<◌, ◌≤◌, ◌^◌, ◌==◌, ◌&&◌, List, Some, None, cond, map, length, refl, sym, ap, ◌∙◌, subst, ⊎_elim, inl, inr, arith, slice_get, slice_index_or, All, ne_eqb}
use Rattle.std.proofs.lemmas.Bool.{cases_lt}
use Rattle.std.proofs.lemmas.Option.{slice_get-map, slice_get-get_or, slice_get_past}
use Rattle.pb_model.specs.declared.row.Estimate.{Estimate}
use Rattle.pb_model.specs.declared.row.Row.{Row}
use Rattle.pb_model.specs.Space.{Space}
use Rattle.pb_model.specs.Weight.{Weight}
use Rattle.pb_model.specs.Guide.{Guide}
use Rattle.pb_model.specs.Work.{opening_store, offered_row}
use Rattle.pb_machine.specs.declared.event.End.{End}
use Rattle.pb_machine.specs.declared.event.End.TheVariants.{Quiet, Budget}
use Rattle.pb_lists.specs.Bundle.{row_of}
use Rattle.pb_task.specs.Parts.{greatest_cost}
use Rattle.pb_hashed.specs.Mailed.{Owner, Mailed}
use Rattle.pb_hashed.proofs.Callers.{mail_keeps_sound}
use Rattle.pb_owner.specs.declared.share.Share.{Share}
use Rattle.pb_owner.specs.declared.plan.Plan.{Plan}
use Rattle.pb_owners.specs.declared.seat.Seat.{Seat}
use Rattle.pb_owner.specs.Plans.{space_in, guide_in, weight_in}
use Rattle.pb_owners.specs.Plans.{IsPlan}
use Rattle.pb_owners.specs.Rounds.{IsToRound, HasRounded, HasSearched}
use Rattle.pb_owners.specs.Between.{opening_mailed, IsBetween, AnyOpened, IsSearched}
use Rattle.pb_owners.specs.Shares.{owner_in, share_of, share_at, seat_at, IsEnd}
use Rattle.pb_owners.specs.Owners.{IsOpeningShare}
use Rattle.pb_owners.proofs.Pairs.{there, some_is}
use Rattle.pb_owners.proofs.Repeating.{searched_more, searched_sound}
use Rattle.pb_owners.proofs.Assembling.{seat_is}

-- ---- rounds

module _ (plan : Plan) (is_plan : IsPlan plan) (lot budget spent : ℕ) (few : budget ≤ 2 ^ 40) (seats : List Seat) (h : HasSearched plan lot budget spent seats) where
  -- the next round may begin
  pub to_round : AnyOpened (seat_at seats) → spent < budget → IsToRound plan (budget - spent) seats
  to_round opened more =
      let s = searched_sound (space_in plan) (guide_in plan) (weight_in plan) plan.owners lot budget mail_keeps_sound greatest_cost spent (seat_at seats) is_plan.proper is_plan.weight h.searched in
      let row_is : (i : ℕ) (x : Seat) → slice_get seats i ≡ Some x → (state : ℕ) (row : Row) → row_of x.share.bundle state ≡ Some row → (h.searched.store.owner i).part state ≡ Some row
      = λ i x is state row found. (λ j. h.searched.between.parts i j state) ∙ (λ j. (seat_is seats i x is j).part state) ∙ found in
      record {
        opened = opened;
        some_left = omega arith;
        many = h.many;
        tools = h.tools;
        within = record {
          at = λ i x is. (
            greatest_cost * spent,
            record {
              own = λ state row found. sym (s.0.place i state row (row_is i x is state row found)).0;
              states = λ state row found. (s.0.place i state row (row_is i x is state row found)).1;
              small = λ state row found. s.1.rows i state row (row_is i x is state row found);
            },
            (let w = h.within in omega arith),
          );
        };
        low = omega arith;
      }

  pub searched_on : (used : ℕ) (news : List Seat) → HasRounded plan lot (budget - spent) used seats news → HasSearched plan lot budget (spent + used) news
  searched_on used news r = record {
    searched = searched_more (space_in plan) (guide_in plan) (weight_in plan) plan.owners lot budget spent used (seat_at seats) (seat_at news) h.searched r.mail;
    within = let w = r.within in let b = h.within in omega arith;
    many = r.many;
    tools = r.tools;
  }

-- ---- the end

quiet_budget : {A : Type 0} → Quiet ≡ Budget → A
quiet_budget e = cc

module _ (budget spent : ℕ) (at : ℕ → Owner) where
  pub quiet_end : (AnyOpened at → ⊥) → IsEnd budget spent at Quiet
  quiet_end none = record {
    either = inl refl;
    quiet = ((λ _. none), (λ _. refl));
    budget = ((λ e. quiet_budget e), (λ h. absurd (none h.0)));
  }

  pub budget_end : AnyOpened at → spent ≡ budget → IsEnd budget spent at Budget
  budget_end some is = record {
    either = inr refl;
    quiet = ((λ e. quiet_budget (sym e)), (λ none. absurd (none some)));
    budget = ((λ _. (some, is)), (λ _. refl));
  }

-- ---- shares and seats

pub shares_are : (seats : List Seat) → share_at (map share_of seats) ≡ seat_at seats
shares_are seats = λ j i. owner_in (slice_get-map share_of seats i j)

-- ---- the opening

module _ (space : Space) (guide : Guide) (weight : Weight) (owners : ℕ) (shares : List Share) (many : length shares ≡ owners) (homes : guide.home space.start < owners)
    (each : (i : ℕ) (share : Share) → slice_get shares i ≡ Some share → IsOpeningShare weight (i == guide.home space.start) space.start (guide.estimate space.start) share) where
  part_opened : (i state : ℕ) → (opening_store space guide weight).rows i state ≡ (share_at shares i).part state
  part_opened i state = ⊎_elim
      (λ (less : i < owners). let x = there shares i (omega arith) in
      sym ((λ j. (owner_in (x.1 j)).part state) ∙ (each i x.0 x.1).rows state))
      (λ (past : owners ≤ i).
      ap (λ b. cond (b && (state == space.start)) (Some (offered_row 0 (guide.estimate space.start) None 0 None)) None) (ne_eqb i (guide.home space.start) (λ e. omega arith))
      ∙ sym (λ j. (owner_in (slice_get_past shares i (let m = many in omega arith) j)).part state)) (cases_lt i owners)

  pub opened_between : IsBetween owners weight (share_at shares) (opening_mailed space guide weight)
  opened_between = record {
    parts = λ i. λ j state. part_opened i state j;
    incumbents = λ i less. let x = there shares i (omega arith) in sym ((λ j. (owner_in (x.1 j)).incumbent) ∙ (each i x.0 x.1).incumbent_is);
    agreed = λ i less. refl;
    no_letter = λ from to. refl;
    weight_is = refl;
  }

  pub opened_weights : All (λ (s : Share). s.bundle.weight ≡ weight) shares
  opened_weights i d less = let x = there shares i less in
      let is = each i x.0 x.1 in subst (λ (s : Share). s.bundle.weight ≡ weight) (at_is i d less x.0 x.1) is.weight_is
    where
      at_is : (i : ℕ) (d : Share) (less : i < length shares) (x : Share) → slice_get shares i ≡ Some x → x ≡ slice_index_or shares i d
      at_is i d less x is = some_is x (slice_index_or shares i d) (sym is ∙ slice_get-get_or shares i d less)

-- the same from the home, the start and the estimate that the call has
module _ (space : Space) (guide : Guide) (weight : Weight) (owners : ℕ) (shares : List Share) (home start : ℕ) (estimate : Estimate) (many : length shares ≡ owners) (below : home < owners) (home_is : home ≡ guide.home space.start) (start_is : start ≡ space.start)
    (estimate_is : estimate ≡ guide.estimate space.start) (each : (i : ℕ) (share : Share) → slice_get shares i ≡ Some share → IsOpeningShare weight (i == home) start estimate share) where
  each_is : (i : ℕ) (share : Share) → slice_get shares i ≡ Some share → IsOpeningShare weight (i == guide.home space.start) space.start (guide.estimate space.start) share
  each_is i share is = subst (λ h. IsOpeningShare weight (i == h) space.start (guide.estimate space.start) share) home_is
      (subst (λ s. IsOpeningShare weight (i == home) s (guide.estimate space.start) share) start_is (subst (λ (e : Estimate). IsOpeningShare weight (i == home) start e share) estimate_is (each i share is)))

  pub opening_between : IsBetween owners weight (share_at shares) (opening_mailed space guide weight)
  opening_between = opened_between space guide weight owners shares many (let h = home_is in omega arith) each_is

  pub opening_weights : All (λ (s : Share). s.bundle.weight ≡ weight) shares
  opening_weights = opened_weights space guide weight owners shares many (let h = home_is in omega arith) each_is

-- ---- from seats to shares

pub searched_shares : (space : Space) (guide : Guide) (weight : Weight) (owners lot budget spent : ℕ) (seats : List Seat) (shares : List Share) → shares ≡ map share_of seats → IsSearched space guide weight owners lot budget spent (seat_at seats) → IsSearched space guide weight owners lot budget spent (share_at shares)
searched_shares space guide weight owners lot budget spent seats shares is h = subst (λ (at : ℕ → Owner). IsSearched space guide weight owners lot budget spent at) (sym (ap share_at is ∙ shares_are seats)) h

pub end_shares : (budget spent : ℕ) (end : End) (seats : List Seat) (shares : List Share) → shares ≡ map share_of seats → IsEnd budget spent (seat_at seats) end → IsEnd budget spent (share_at shares) end
end_shares budget spent end seats shares is h = subst (λ (at : ℕ → Owner). IsEnd budget spent at end) (sym (ap share_at is ∙ shares_are seats)) h

pub between_seats : (owners : ℕ) (weight : Weight) (m : Mailed) (seats : List Seat) (shares : List Share) → map share_of seats ≡ shares → IsBetween owners weight (share_at shares) m → IsBetween owners weight (seat_at seats) m
between_seats owners weight m seats shares is h = subst (λ (at : ℕ → Owner). IsBetween owners weight at m) (sym (ap share_at is) ∙ shares_are seats) h

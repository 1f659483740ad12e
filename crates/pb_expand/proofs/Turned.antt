-- Turns of a lease.
use Rattle.std.proofs.Common.{◌≡◌, ℕ, ◌+◌, ◌<◌, List, [], ◌∷◌, ◌++◌, take, Bool, Option, Some, IsTrue, refl, sym, ap, ◌∙◌, subst, arith, inl, inr}
use Rattle.std.specs.List.{AllByRecursion}
use Rattle.pb_model.specs.declared.row.Status.{Status}
use Rattle.pb_model.specs.declared.row.Status.TheVariants.{Closed, Cut}
use Rattle.pb_model.specs.declared.row.Row.{Row}
use Rattle.pb_model.specs.declared.row.Succ.{Succ}
use Rattle.pb_model.specs.Space.{Space, steps}
use Rattle.pb_model.specs.Guide.{Guide}
use Rattle.pb_model.specs.Store.{Store, lesser, MayBeCut}
use Rattle.pb_model.specs.Key.{IsFirstRow}
use Rattle.pb_model.specs.Work.{Work, expand, break_off, cut, take_goal, lower, row_after_offers, row_after_status, g_of, store_after, May, expansions, broken_expansions}
use Rattle.pb_model.proofs.Callers.{broken_append, Left, offers_leave, IsStep, are_steps, all_take}
use Rattle.pb_machine.specs.Machine.{IsOn, IsWorked, BreaksLast}
use Rattle.pb_machine.specs.Turns.{IsLeaseTurn, AreLeaseTurns}
use Rattle.pb_machine.proofs.Callers.{lease_work_goes_on, lease_turns_go_on}
use Rattle.pb_lists.specs.Bundle.{IsOpened}
use Rattle.pb_bundles.specs.Parts.{away_rows}
use Rattle.pb_lease.specs.LeaseValue.{LeaseValue, leased_store}
use Rattle.pb_lease.proofs.Callers.{store_is, status_rows}
use Rattle.pb_expand.specs.Turned.{own_rows, HasTurned, with_copy, HasTurnedOnce, IsNext}
use Rattle.pb_lease.specs.Rows.{ChangesRows, SetsStatusAt, HasOffers, IsBrokenOff}

module _ (space : Space) (guide : Guide) {known : Option ℕ → Bool} (block : ℕ) where
  -- nothing was done
  unfoldable pub turned_none : (store : Store) → HasTurned space guide known block 0 0 store store
  turned_none store = record {
    work = record { works = []; on = tt; comes = refl; used_is = refl; few_broken = omega arith; stops = tt };
    broken_is = refl;
    turns = tt;
  }

  -- turns go on where others stopped
  pub turned_on : (used more broken : ℕ) (old mid new : Store) → HasTurned space guide known block used 0 old mid → HasTurned space guide known block more broken mid new
      → HasTurned space guide known block (used + more) broken old new
  turned_on used more broken old mid new first second =
      let both = lease_work_goes_on space guide block used more broken known known old mid new first.work second.work (λ incumbent k. k) in
      record {
        work = both.0;
        broken_is =
            let parts : broken_expansions both.0.works ≡ broken_expansions first.work.works + broken_expansions second.work.works =
            ap broken_expansions both.1 ∙ broken_append first.work.works second.work.works in
            omega (arith, parts, first.broken_is, second.broken_is);
        turns = subst (λ works. AreLeaseTurns space guide works old) (sym both.1)
            (lease_turns_go_on space guide first.work.works second.work.works old mid first.work.comes first.turns second.turns);
      }

  pub turned_on_works : (used more broken : ℕ) (old mid new : Store) (first : HasTurned space guide known block used 0 old mid) (second : HasTurned space guide known block more broken mid new)
      → IsWorked.works (HasTurned.work (turned_on used more broken old mid new first second)) ≡ first.work.works ++ second.work.works
  unfolding turned_on
  turned_on_works used more broken old mid new first second =
      (lease_work_goes_on space guide block used more broken known known old mid new first.work second.work (λ incumbent k. k)).1

  -- one turn
  one_turn : (work : Work) (used broken : ℕ) (old new : Store) → IsOn guide block known work → May space guide work old → IsLeaseTurn guide old work
      → ((before : List (Option ℕ)) → with_copy work old.incumbent before ≡ old.incumbent ∷ before) → new ≡ store_after space guide work old → expansions (work ∷ []) ≡ used → broken_expansions (work ∷ []) ≡ broken → BreaksLast (work ∷ [])
      → HasTurnedOnce space guide known block used broken old new
  one_turn work used broken old new on may turn once after used_is broken_is stops = record {
    turned = record {
      work = record { works = work ∷ []; on = (on, tt); comes = (may, after); used_is = used_is; few_broken = omega (arith, broken_is); stops = stops };
      broken_is = broken_is;
      turns = (turn, tt);
    };
    once = once;
  }

-- ---- the store after a turn

-- a cost was taken that was read
unfoldable pub lowered_turned : (space : Space) (guide : Guide) (known : Option ℕ → Bool) (block : ℕ) (old new : LeaseValue) (cost : ℕ) → IsTrue (known (Some cost))
    → new ≡ record old { incumbent = lesser old.incumbent (Some cost) } → HasTurned space guide known block 0 0 (leased_store old) (leased_store new)
lowered_turned space guide known block old new cost read is =
    record {
      work = record { works = lower cost ∷ []; on = (read, tt); comes = (tt, ap leased_store is); used_is = refl; few_broken = omega arith; stops = tt };
      broken_is = refl;
      turns = (tt, tt);
    }

module _ (space : Space) (guide : Guide) (block : ℕ) (old : LeaseValue) (state : ℕ) (row : Row) (own : old.block ≡ block) (home : guide.home state ≡ block) where
  module _ (first : IsFirstRow old.weight (own_rows old) state row) where
    at_home : IsFirstRow old.weight (away_rows old.parts (guide.home state)) state row
    at_home = subst (λ k. IsFirstRow old.weight (away_rows old.parts k) state row) (own ∙ sym home) first

    g_is : g_of (away_rows old.parts (guide.home state) state) ≡ row.g
    g_is = ap g_of at_home.found

    -- a row was cut that may be cut
    pub cut_turned : {known : Option ℕ → Bool} → (new : LeaseValue) → MayBeCut old.weight old.incumbent row.g row.estimate → SetsStatusAt old new block state Cut → ChangesRows old new
        → HasTurnedOnce space guide known block 0 0 (leased_store old) (leased_store new)
    cut_turned {known = known} new may set changes =
        one_turn space guide {known = known} block (cut state) 0 0 (leased_store old) (leased_store new) home (row, at_home.found, at_home.opened, may) (row, at_home) (λ before. refl)
        (store_is space guide (cut state) row.g old new g_is (status_rows guide block state home old new Cut set) (ap (λ (l : LeaseValue). l.incumbent) changes.others) (ap (λ (l : LeaseValue). l.weight) changes.others))
        refl refl tt

    -- a goal's row was taken
    pub take_turned : {known : Option ℕ → Bool} → (new : LeaseValue) → ¬ MayBeCut old.weight old.incumbent row.g row.estimate → IsTrue (space.is_goal state)
        → SetsStatusAt (record old { incumbent = lesser old.incumbent (Some row.g) }) new block state Cut → ChangesRows (record old { incumbent = lesser old.incumbent (Some row.g) }) new
        → HasTurnedOnce space guide known block 0 0 (leased_store old) (leased_store new)
    take_turned {known = known} new kept goal set changes =
        one_turn space guide {known = known} block (take_goal state) 0 0 (leased_store old) (leased_store new) home ((row, at_home.found, at_home.opened), goal) (row, at_home, kept) (λ before. refl)
        (store_is space guide (take_goal state) row.g old new g_is (status_rows guide block state home (record old { incumbent = lesser old.incumbent (Some row.g) }) new Cut set)
        (ap (λ (l : LeaseValue). l.incumbent) changes.others) (ap (λ (l : LeaseValue). l.weight) changes.others))
        refl refl tt

  module _ (next : IsNext space old state row) where
    -- what has become of the row itself after offers
    own_left : (succs : List Succ) (mid : LeaseValue) → AllByRecursion (IsStep space state) succs → HasOffers guide state row.g succs old mid → IsOpened (away_rows mid.parts block state)
    own_left succs mid are has = go (offers_leave space guide state row.g succs block state (away_rows old.parts block state) are)
      where
        go : Left space guide state row.g block state (away_rows old.parts block state) (row_after_offers guide state row.g succs block state (away_rows old.parts block state))
            → IsOpened (away_rows mid.parts block state)
        go (inl same) = (row, has block state ∙ same ∙ ap (λ k. away_rows old.parts k state) (sym own) ∙ next.first.found, next.first.opened)
        go (inr fresh) = (fresh.row, has block state ∙ fresh.is, fresh.opened)

    -- the row is Opened while its successors are offered
    pub offers_keep_opened : (mid : LeaseValue) → HasOffers guide state row.g (steps space state) old mid → IsOpened (away_rows mid.parts block state)
    offers_keep_opened mid has = own_left (steps space state) mid (are_steps space state) has

    pub broken_keeps_opened : (new : LeaseValue) → IsBrokenOff guide state row.g (steps space state) old new → IsOpened (away_rows new.parts block state)
    broken_keeps_opened new broken = own_left (take broken.0 (steps space state)) new (all_take (IsStep space state) broken.0 (steps space state) (are_steps space state)) broken.2

    -- the row was expanded
    pub expand_turned : {known : Option ℕ → Bool} → (mid new : LeaseValue) → HasOffers guide state row.g (steps space state) old mid → ChangesRows old mid → SetsStatusAt mid new block state Closed → ChangesRows mid new
        → (counted : LeaseValue) → counted ≡ record new { used = new.used + 1 } → HasTurnedOnce space guide known block 1 0 (leased_store old) (leased_store counted)
    expand_turned {known = known} mid new has first set second counted is =
        one_turn space guide {known = known} block (expand state) 1 0 (leased_store old) (leased_store counted) home ((row, (at_home next.first).found, (at_home next.first).opened), next.no_goal) (row, at_home next.first, next.kept) (λ before. refl)
        (ap leased_store is ∙ store_is space guide (expand state) row.g old new (g_is next.first)
        (λ other_home other. status_rows guide block state home mid new Closed set other_home other ∙ ap (row_after_status guide state Closed other_home other) (has other_home other))
        (ap (λ (l : LeaseValue). l.incumbent) second.others ∙ ap (λ (l : LeaseValue). l.incumbent) first.others) (ap (λ (l : LeaseValue). l.weight) second.others ∙ ap (λ (l : LeaseValue). l.weight) first.others))
        refl refl tt

    -- the expansion was broken off
    pub break_turned : {known : Option ℕ → Bool} → (new : LeaseValue) → IsBrokenOff guide state row.g (steps space state) old new → ChangesRows old new → HasTurnedOnce space guide known block 0 1 (leased_store old) (leased_store new)
    break_turned {known = known} new broken changes =
        one_turn space guide {known = known} block (break_off state broken.0) 0 1 (leased_store old) (leased_store new) home ((row, (at_home next.first).found, (at_home next.first).opened), next.no_goal, broken.1)
        (row, at_home next.first, next.kept) (λ before. refl)
        (store_is space guide (break_off state broken.0) row.g old new (g_is next.first) broken.2
        (ap (λ (l : LeaseValue). l.incumbent) changes.others) (ap (λ (l : LeaseValue). l.weight) changes.others))
        refl refl refl

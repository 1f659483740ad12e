-- Turns under a watch of the incumbent.
use Rattle.std.proofs.Common.{◌≡◌, ℕ, ◌+◌, ◌-◌, ◌<◌, ◌≤◌, ◌^◌, Bool, true, false, ◌||◌, List, [], ◌∷◌, ◌++◌, Option, Some, None, IsTrue, IfSome, refl, sym, ap, ◌∙◌, subst, arith, ◌⊎◌, inl, inr, true≢false}
use Rattle.std.proofs.lemmas.Bool.{or_left, or_right}
use Rattle.pb_model.specs.declared.row.Row.{Row}
use Rattle.pb_model.specs.Key.{IsFirstRow}
use Rattle.pb_model.specs.Space.{Space}
use Rattle.pb_model.specs.Guide.{Guide}
use Rattle.pb_model.specs.Store.{Store, HasGoalWithin, AtMost, lesser}
use Rattle.std.specs.List.{AllByRecursion}
use Rattle.pb_model.specs.Work.{Work, store_after, Comes, broken_expansions}
use Rattle.pb_model.proofs.Callers.{goal_still, goal_within, at_most_self, at_most_trans, lesser_at_most, lesser_falls, lesser_cases}
use Rattle.pb_machine.specs.Machine.{IsOn, IsWorked, lent_store}
use Rattle.pb_machine.specs.Turns.{AreLeaseTurns}
use Rattle.pb_machine.proofs.Callers.{lease_work_goes_on, lease_work_stays, lease_turns_go_on}
use Rattle.pb_task.specs.declared.parts.TaskParts.{TaskParts}
use Rattle.pb_task.specs.Parts.{space_of}
use Rattle.pb_estimate.specs.Choices.{Choice}
use Rattle.pb_abstract.specs.Graph.{AbstractGraph}
use Rattle.pb_lease.specs.LeaseValue.{LeaseValue, leased_store, HasWeights, IsSameLease}
use Rattle.pb_lease.specs.Leased.{guide_of, setup_of, HasScope}
use Rattle.pb_expand.specs.Turned.{own_rows, IsAtWork, HasTurned, with_copy, copies_of, HasTurnedOnce, reads_none}
use Rattle.pb_expand.specs.Watching.{WatchView, IsFromLent, IsWatched, MayTell, KeepsWatch, HasRead, HasTold, IsOfSearch, known_by, answers_of, HasAnswers, IsLevel, IsUnder, Keeps, Reads, Tells, IsAtWatch, with_read, HasTurnedReading, HasTurnedWatched}
use Rattle.pb_lease.specs.Rows.{ChangesRows}
use Rattle.pb_lease.proofs.Callers.{lesser_other, none_below, same_none, same_on, same_changed}
use Rattle.pb_expand.proofs.Known.{scope_on, row_is_home, row_is_cheap}
use Rattle.pb_expand.proofs.Turned.{turned_none, turned_on, turned_on_works, lowered_turned}

-- ---- costs

lesser_none : (u : Option ℕ) → lesser u None ≡ u
lesser_none None = refl
lesser_none (Some u) = refl

-- it is the same lease after its incumbent fell
same_lowered : (lease : LeaseValue) (found : Option ℕ) → IsSameLease lease (record lease { incumbent = lesser lease.incumbent found })
same_lowered lease found = record { worker = refl; block = refl; quota = refl; weight = refl; choice = refl; places = refl; fits = refl; incumbent = lesser_at_most lease.incumbent found }

-- ---- a watch

keeps_itself : (view : WatchView) → KeepsWatch view view
keeps_itself view = record { others = refl; knows = λ incumbent k. k; falls = at_most_self view.least }

keeps_through : (old mid new : WatchView) → KeepsWatch old mid → KeepsWatch mid new → KeepsWatch old new
keeps_through old mid new first second = record {
  others = second.others ∙ ap (λ (view : WatchView). record view { read = new.read; answers = new.answers; least = new.least; told = new.told }) first.others;
  knows = λ incumbent k. second.knows incumbent (first.knows incumbent k);
  falls = at_most_trans new.least mid.least old.least second.falls first.falls;
}

-- ---- a watch, or none

keeps_none : (view : Option WatchView) → Keeps view view
keeps_none None = tt
keeps_none (Some view) = keeps_itself view

keeps_on : (old mid new : Option WatchView) → Keeps old mid → Keeps mid new → Keeps old new
keeps_on None None None first second = tt
keeps_on (Some old) (Some mid) (Some new) first second = keeps_through old mid new first second
keeps_on None (Some mid) new first second = absurd first
keeps_on (Some old) None new first second = absurd first
keeps_on None None (Some new) first second = absurd second
keeps_on (Some old) (Some mid) None first second = absurd second

-- what was read stays read
still_known : (old new : Option WatchView) → Keeps old new → (incumbent : Option ℕ) → IsTrue (known_by old incumbent) → IsTrue (known_by new incumbent)
still_known None None kept incumbent known = known
still_known (Some old) (Some new) kept incumbent known = kept.knows incumbent known
still_known None (Some new) kept incumbent known = absurd kept
still_known (Some old) None kept incumbent known = absurd kept

search_on : (task : TaskParts) (abstraction : AbstractGraph) (choice : Choice) (old new : Option WatchView) → Keeps old new → IfSome old (λ seen. IsOfSearch task abstraction choice seen) → IfSome new (λ seen. IsOfSearch task abstraction choice seen)
search_on task abstraction choice None None kept of = tt
search_on task abstraction choice (Some old) (Some new) kept of = record {
  task_is = ap (λ (view : WatchView). view.task) kept.others ∙ of.task_is;
  graph_is = ap (λ (view : WatchView). view.abstraction) kept.others ∙ of.graph_is;
  choice_is = ap (λ (view : WatchView). view.choice) kept.others ∙ of.choice_is;
}
search_on task abstraction choice None (Some new) kept of = absurd kept
search_on task abstraction choice (Some old) None kept of = absurd kept

own_answers : (view : Option WatchView) → HasAnswers view (answers_of view)
own_answers None = tt
own_answers (Some view) = refl

-- the lease that goes on with the same incumbent still has what was read or told
pub level_on : (view : Option WatchView) (old new : LeaseValue) → new.incumbent ≡ old.incumbent → IsLevel view old → IsLevel view new
level_on None old new incumbent level = tt
level_on (Some view) old new incumbent level = incumbent ∙ level

-- nothing is read where a cost is told
pub tells_no_read : (old : Option WatchView) (cost : ℕ) (new : Option WatchView) → Tells old cost new → answers_of new ≡ answers_of old
tells_no_read None cost None told = refl
tells_no_read (Some old) cost (Some new) told = told.answers
tells_no_read None cost (Some new) told = absurd told
tells_no_read (Some old) cost None told = absurd told

-- ---- what the turns were done with

module _ (space : Space) (guide : Guide) where
  -- first those of the one list, and then those of the other
  copies_append : (first second : List Work) (old mid : Store) (before : List (Option ℕ)) → Comes space guide first old mid
      → copies_of space guide (first ++ second) old before ≡ copies_of space guide second mid (copies_of space guide first old before)
  copies_append [] second old mid before comes = ap (λ (store : Store). copies_of space guide second store before) (sym comes)
  copies_append (work ∷ works) second old mid before comes =
      copies_append works second (store_after space guide work old) mid (with_copy work old.incumbent before) comes.1

module _ (space : Space) (guide : Guide) where
  -- turns are that also where more is known
  pub turned_known : (known later : Option ℕ → Bool) (block used broken : ℕ) (old new : Store) → ((incumbent : Option ℕ) → IsTrue (known incumbent) → IsTrue (later incumbent))
      → HasTurned space guide known block used broken old new → HasTurned space guide later block used broken old new
  turned_known known later block used broken old new more turned =
      let same = lease_work_stays space guide block used broken broken known later old new turned.work (omega arith) more in
      record {
        work = same.0;
        broken_is = ap broken_expansions same.1 ∙ turned.broken_is;
        turns = subst (λ works. AreLeaseTurns space guide works old) (sym same.1) turned.turns;
      }

  turned_known_works : (known later : Option ℕ → Bool) (block used broken : ℕ) (old new : Store) (more : (incumbent : Option ℕ) → IsTrue (known incumbent) → IsTrue (later incumbent))
      (turned : HasTurned space guide known block used broken old new) → IsWorked.works (HasTurned.work (turned_known known later block used broken old new more turned)) ≡ turned.work.works
  unfolding turned_known
  turned_known_works known later block used broken old new more turned =
      (lease_work_stays space guide block used broken broken known later old new turned.work (omega arith) more).1

  -- a lease that came from the lent one and did more turns came from it
  module _ (was now : WatchView) (kept : KeepsWatch was now) (old new : LeaseValue) (more broken : ℕ)
      (turned : HasTurned space guide now.read old.block more broken (leased_store old) (leased_store new))
      (same : IsSameLease old new) (used : new.used ≡ old.used + more) where
    from_on : IsFromLent space guide was 0 old → IsFromLent space guide now broken new
    from_on from =
        let second : HasTurned space guide now.read from.lent.block more broken (leased_store old) (leased_store new) =
        subst (λ block. HasTurned space guide now.read block more broken (leased_store old) (leased_store new)) from.same.block turned in
        let both = lease_work_goes_on space guide from.lent.block old.used more broken was.read now.read (leased_store from.lent) (leased_store old) (leased_store new) from.work second.work kept.knows in
        let done : (work : IsWorked space guide from.lent.block (old.used + more) broken now.read (leased_store from.lent) (leased_store new)) × AreLeaseTurns space guide work.works (leased_store from.lent) = (
          both.0,
          subst (λ works. AreLeaseTurns space guide works (leased_store from.lent)) (sym both.1)
              (lease_turns_go_on space guide from.work.works second.work.works (leased_store from.lent) (leased_store old) from.work.comes from.turns second.turns),
        ) in
        let counted = subst (λ n. (work : IsWorked space guide from.lent.block n broken now.read (leased_store from.lent) (leased_store new)) × AreLeaseTurns space guide work.works (leased_store from.lent)) (sym used) done in
        record {
          lent = from.lent;
          lent_is = ap (λ (view : WatchView). view.lent) kept.others ∙ from.lent_is;
          same = same_on from.lent old new from.same same;
          work = counted.0;
          turns = counted.1;
        }

    pub watched_on : IsFromLent space guide was 0 old → AtMost now.least new.incumbent → ((cost : ℕ) → now.told ≡ Some cost → HasGoalWithin space guide (leased_store old) cost)
        → IsWatched space guide now broken new
    watched_on from copy shown = record {
      from = from_on from;
      copy = copy;
      shown = λ cost is. goal_still space guide turned.work.works (leased_store old) (leased_store new) cost turned.work.comes (shown cost is);
    }

  -- turns on a block are that also by another name of it
  at_block : (known : Option ℕ → Bool) (block same used broken : ℕ) (old new : Store) → block ≡ same → HasTurned space guide known block used broken old new
      → HasTurned space guide known same used broken old new
  at_block known block same used broken old new is turned = record {
    work = record {
      works = turned.work.works;
      on = subst (λ b. AllByRecursion (IsOn guide b known) turned.work.works) is turned.work.on;
      comes = turned.work.comes;
      used_is = turned.work.used_is;
      few_broken = turned.work.few_broken;
      stops = turned.work.stops;
    };
    broken_is = turned.broken_is;
    turns = turned.turns;
  }

  pub none_watched : {is_read : Bool} → (lease : LeaseValue) (view : Option WatchView) → IsUnder space guide view 0 lease → HasTurnedWatched space guide 0 0 is_read is_read lease view lease view
  unfolding turned_none
  none_watched lease view watched = record {
    turned = turned_none space guide lease.block (leased_store lease);
    same = same_none lease;
    used = omega arith;
    weights = λ has. has;
    kept = keeps_none view;
    watched = watched;
    level = λ same. same;
    reads = λ before is. is;
  }

  -- turns go on where others stopped
  pub watched_then : {read_before read_between read_after : Bool} → (first_more more broken : ℕ) (old : LeaseValue) (was : Option WatchView) (mid : LeaseValue) (between : Option WatchView) (new : LeaseValue) (now : Option WatchView)
      → HasTurnedWatched space guide first_more 0 read_before read_between old was mid between → HasTurnedWatched space guide more broken read_between read_after mid between new now
      → HasTurnedWatched space guide (first_more + more) broken read_before read_after old was new now
  unfolding at_block turned_known
  watched_then {read_before} {read_between} {read_after} first_more more broken old was mid between new now first second = record {
    turned = turned_on space guide {known = known_by now} old.block first_more more broken (leased_store old) (leased_store mid) (leased_store new)
        known_first second_here;
    same = same_on old mid new first.same second.same;
    used = omega (arith, second.used, first.used);
    weights = λ has. second.weights (first.weights has);
    kept = keeps_on was between now first.kept second.kept;
    watched = second.watched;
    level = λ same. second.level (first.level same);
    reads = λ before is. subst (λ list. HasAnswers now (with_read read_after new.incumbent list)) (sym (copies before))
        (second.reads (copies_of space guide first.turned.work.works (leased_store old) before) (first.reads before is));
  }
    where
      known_first : HasTurned space guide (known_by now) old.block first_more 0 (leased_store old) (leased_store mid)
      known_first = turned_known (known_by between) (known_by now) old.block first_more 0 (leased_store old) (leased_store mid) (still_known between now second.kept) first.turned

      second_here : HasTurned space guide (known_by now) old.block more broken (leased_store mid) (leased_store new)
      second_here = at_block (known_by now) mid.block old.block more broken (leased_store mid) (leased_store new) first.same.block second.turned

      copies : (before : List (Option ℕ))
          → copies_of space guide (IsWorked.works (HasTurned.work (turned_on space guide {known = known_by now} old.block first_more more broken (leased_store old) (leased_store mid) (leased_store new) known_first second_here))) (leased_store old) before
          ≡ copies_of space guide second.turned.work.works (leased_store mid) (copies_of space guide first.turned.work.works (leased_store old) before)
      copies before =
          ap (λ works. copies_of space guide works (leased_store old) before)
          (turned_on_works space guide {known = known_by now} old.block first_more more broken (leased_store old) (leased_store mid) (leased_store new) known_first second_here)
          ∙ ap (λ works. copies_of space guide (works ++ second.turned.work.works) (leased_store old) before)
          (turned_known_works (known_by between) (known_by now) old.block first_more 0 (leased_store old) (leased_store mid) (still_known between now second.kept) first.turned)
          ∙ copies_append space guide first.turned.work.works second.turned.work.works (leased_store old) (leased_store mid) before first.turned.work.comes

  -- ---- one turn

  -- without a watch these are turns that read nothing
  alone_turned : {read_before read_after : Bool} → (old new : LeaseValue) (more broken : ℕ) → HasTurned space guide reads_none old.block more broken (leased_store old) (leased_store new)
      → IsSameLease old new → new.used ≡ old.used + more → (HasWeights old → HasWeights new) → HasTurnedWatched space guide more broken read_before read_after old None new None
  alone_turned old new more broken turned same used weights = record {
    turned = turned;
    same = same;
    used = used;
    weights = weights;
    kept = tt;
    watched = tt;
    level = λ level. tt;
    reads = λ before is. tt;
  }

  -- one turn that leaves the lease's incumbent, while the watch does nothing
  pub unread_turned : (old new : LeaseValue) (view : Option WatchView) (more broken : ℕ) → IsUnder space guide view 0 old
      → HasTurnedOnce space guide (known_by view) old.block more broken (leased_store old) (leased_store new) → IsSameLease old new → new.used ≡ old.used + more → (HasWeights old → HasWeights new)
      → new.incumbent ≡ old.incumbent → HasTurnedWatched space guide more broken true false old view new view
  unread_turned old new None more broken watched once same used weights incumbent = alone_turned old new more broken once.turned same used weights
  unread_turned old new (Some view) more broken watched once same used weights incumbent = record {
    turned = once.turned;
    same = same;
    used = used;
    weights = weights;
    kept = keeps_itself view;
    watched = watched_on view view (keeps_itself view) old new more broken once.turned same used watched.from (subst (λ u. AtMost view.least u) (sym incumbent) watched.copy) watched.shown;
    level = λ level. incumbent ∙ level;
    reads = λ before is. is ∙ sym (once.once before);
  }

  -- a goal's row was taken after its cost was told
  pub told_turned : (old new : LeaseValue) (was now : Option WatchView) (cost : ℕ) → IsUnder space guide was 0 old → Tells was cost now → HasGoalWithin space guide (leased_store old) cost
      → HasTurnedOnce space guide (known_by now) old.block 0 0 (leased_store old) (leased_store new) → IsSameLease old new → new.used ≡ old.used
      → (HasWeights old → HasWeights new) → new.incumbent ≡ lesser old.incumbent (Some cost) → HasTurnedWatched space guide 0 0 true false old was new now
  told_turned old new None (Some now) cost watched told goal once same used weights incumbent = absurd told
  told_turned old new (Some was) None cost watched told goal once same used weights incumbent = absurd told
  told_turned old new None None cost watched told goal once same used weights incumbent = alone_turned old new 0 0 once.turned same (omega (arith, used)) weights
  told_turned old new (Some was) (Some now) cost watched told goal once same used weights incumbent = record {
    turned = once.turned;
    same = same;
    used = omega (arith, used);
    weights = weights;
    kept = told.kept;
    watched = watched_on was now told.kept old new 0 0 once.turned same (omega (arith, used)) watched.from
        (subst (λ u. AtMost now.least u) (sym incumbent) (subst (λ u. AtMost u (lesser old.incumbent (Some cost))) (sym told.least) (lesser_falls was.least old.incumbent cost watched.copy)))
        (λ most is. which most (lesser_cases was.told cost most (sym told.told ∙ is)));
    level = λ level. incumbent ∙ ap (λ u. lesser u (Some cost)) level ∙ sym told.least;
    reads = λ before is. told.answers ∙ is ∙ sym (once.once before);
  }
    where
      which : (most : ℕ) → ((cost ≤ most) ⊎ ((before : ℕ) × (was.told ≡ Some before) × (before ≤ most))) → HasGoalWithin space guide (leased_store old) most
      which most (inl low) = goal_within space guide (leased_store old) cost most low goal
      which most (inr before) = goal_within space guide (leased_store old) before.0 most before.2 (watched.shown before.0 before.1)

  -- the incumbent was read, and a cost taken
  module _ (old new : LeaseValue) (was now : WatchView) (watched : IsWatched space guide was 0 old) where
    read_copy : (cost : ℕ) → HasRead was (Some cost) now → new.incumbent ≡ lesser old.incumbent (Some cost) → new.incumbent ≡ now.least
    read_copy cost read incumbent =
        let low : AtMost (Some cost) was.least = subst (λ u. AtMost u was.least) (sym read.least) read.kept.falls in
        incumbent ∙ lesser_other old.incumbent cost (at_most_trans (Some cost) was.least old.incumbent low watched.copy) ∙ read.least

    none_copy : HasRead was None now → new.incumbent ≡ old.incumbent → new.incumbent ≡ now.least
    none_copy read incumbent =
        let low : AtMost None was.least = subst (λ u. AtMost u was.least) (sym read.least) read.kept.falls in
        incumbent ∙ none_below old.incumbent (at_most_trans None was.least old.incumbent low watched.copy) ∙ read.least

    read_turned : (found : Option ℕ) → HasRead was found now → (turned : HasTurned space guide now.read old.block 0 0 (leased_store old) (leased_store new))
        → ((before : List (Option ℕ)) → copies_of space guide turned.work.works (leased_store old) before ≡ before) → IsSameLease old new → new.used ≡ old.used
        → (HasWeights old → HasWeights new) → new.incumbent ≡ now.least → HasTurnedWatched space guide 0 0 false true old (Some was) new (Some now)
    read_turned found read turned none same used weights copy = record {
      turned = turned;
      same = same;
      used = omega (arith, used);
      weights = weights;
      kept = read.kept;
      watched = watched_on was now read.kept old new 0 0 turned same (omega (arith, used)) watched.from (subst (λ u. AtMost now.least u) (sym copy) (at_most_self now.least))
          (λ cost is. watched.shown cost (sym read.told ∙ is));
      level = λ level. copy;
      reads = λ before is. read.answers ∙ (λ i. (read.least ∙ sym copy) i ∷ (is ∙ sym (none before)) i);
    }

  -- what was read was taken, if it was a cost
  taken : (old : LeaseValue) (was : Option WatchView) (found : Option ℕ) (now : Option WatchView) → Reads was found now → IsUnder space guide was 0 old
      → HasTurnedWatched space guide 0 0 false true old was (record old { incumbent = lesser old.incumbent found }) now
  unfolding turned_none lowered_turned
  taken old None found (Some now) read watched = absurd read
  taken old (Some was) found None read watched = absurd read
  taken old None found None read watched =
      subst (λ u. HasTurnedWatched space guide 0 0 false true old None (record old { incumbent = u }) None) (sym (ap (lesser old.incumbent) read ∙ lesser_none old.incumbent))
      (alone_turned old old 0 0 (turned_none space guide old.block (leased_store old)) (same_none old) (omega arith) (λ has. has))
  taken old (Some was) None (Some now) read watched =
      subst (λ u. HasTurnedWatched space guide 0 0 false true old (Some was) (record old { incumbent = u }) (Some now)) (sym (lesser_none old.incumbent))
      (read_turned old old was now watched None read (turned_none space guide old.block (leased_store old)) (λ before. refl) (same_none old) refl (λ has. has) (none_copy old old was now watched read refl))
  taken old (Some was) (Some cost) (Some now) read watched =
      let new : LeaseValue = record old { incumbent = lesser old.incumbent (Some cost) } in
      read_turned old new was now watched (Some cost) read
      (lowered_turned space guide now.read old.block old new cost (read.read cost refl) refl) (λ before. refl)
      (same_lowered old (Some cost)) refl (λ has. has) (read_copy old new was now watched cost read refl)

  pub read_taken : (old : LeaseValue) (was : Option WatchView) (found : Option ℕ) (new : LeaseValue) (now : Option WatchView) → Reads was found now
      → new ≡ record old { incumbent = lesser old.incumbent found } → IsUnder space guide was 0 old → HasTurnedWatched space guide 0 0 false true old was new now
  read_taken old was found new now read is watched =
      subst (λ (lease : LeaseValue). HasTurnedWatched space guide 0 0 false true old was lease now) (sym is) (taken old was found now read watched)

  -- so the lease has what is known
  pub taken_copy : (old : LeaseValue) (was : Option WatchView) (found : Option ℕ) (new : LeaseValue) (now : Option WatchView) → Reads was found now
      → new ≡ record old { incumbent = lesser old.incumbent found } → IsUnder space guide was 0 old → IsLevel now new
  taken_copy old None found new None read is watched = tt
  taken_copy old None found new (Some now) read is watched = absurd read
  taken_copy old (Some was) found new None read is watched = absurd read
  taken_copy old (Some was) None new (Some now) read is watched = none_copy old new was now watched read (ap (λ (lease : LeaseValue). lease.incumbent) is ∙ lesser_none old.incumbent)
  taken_copy old (Some was) (Some cost) new (Some now) read is watched = read_copy old new was now watched cost read (ap (λ (lease : LeaseValue). lease.incumbent) is)

  -- and exactly this one read was made
  pub taken_answers : (old : LeaseValue) (was : Option WatchView) (found : Option ℕ) (new : LeaseValue) (now : Option WatchView) → Reads was found now
      → new ≡ record old { incumbent = lesser old.incumbent found } → IsUnder space guide was 0 old → HasAnswers now (new.incumbent ∷ answers_of was)
  taken_answers old None found new None read is watched = tt
  taken_answers old None found new (Some now) read is watched = absurd read
  taken_answers old (Some was) found new None read is watched = absurd read
  taken_answers old (Some was) found new (Some now) read is watched =
      read.answers ∙ ap (λ (answer : Option ℕ). answer ∷ was.answers) (read.least ∙ sym (taken_copy old (Some was) found new (Some now) read is watched))

  -- a row was cut that may be cut
  pub cut_watched : (old new : LeaseValue) (view : Option WatchView) → IsUnder space guide view 0 old → HasTurnedOnce space guide (known_by view) old.block 0 0 (leased_store old) (leased_store new)
      → ChangesRows old new → HasTurnedWatched space guide 0 0 true false old view new view
  cut_watched old new view watched once changes =
      let used : new.used ≡ old.used = ap (λ (lease : LeaseValue). lease.used) changes.others in
      unread_turned old new view 0 0 watched once (same_changed old new changes) (omega (arith, used)) changes.weights
      (ap (λ (lease : LeaseValue). lease.incumbent) changes.others)

  -- a goal's row was taken
  pub take_watched : (old new : LeaseValue) (was now : Option WatchView) (cost : ℕ) → IsUnder space guide was 0 old → Tells was cost now → HasGoalWithin space guide (leased_store old) cost
      → HasTurnedOnce space guide (known_by now) old.block 0 0 (leased_store old) (leased_store new)
      → ChangesRows (record old { incumbent = lesser old.incumbent (Some cost) }) new → HasTurnedWatched space guide 0 0 true false old was new now
  take_watched old new was now cost watched told goal once changes =
      told_turned old new was now cost watched told goal once
      (same_on old (record old { incumbent = lesser old.incumbent (Some cost) }) new (same_lowered old (Some cost)) (same_changed (record old { incumbent = lesser old.incumbent (Some cost) }) new changes))
      (ap (λ (lease : LeaseValue). lease.used) changes.others) changes.weights (ap (λ (lease : LeaseValue). lease.incumbent) changes.others)

  -- so the count of expansions tells how many there were
  pub watched_far : {read_before read_between read_after : Bool} → (more broken : ℕ) (first : LeaseValue) (start : Option WatchView) (old : LeaseValue) (was : Option WatchView) (new : LeaseValue) (now : Option WatchView) → first.used ≤ old.used
      → HasTurnedWatched space guide (old.used - first.used) 0 read_before read_between first start old was → HasTurnedWatched space guide more broken read_between read_after old was new now
      → HasTurnedWatched space guide (new.used - first.used) broken read_before read_after first start new now
  watched_far {read_before} {read_between} {read_after} more broken first start old was new now counted before turned =
      let used : new.used ≡ old.used + more = turned.used in
      let sum : (old.used - first.used) + more ≡ new.used - first.used = omega (arith, used, counted) in
      subst (λ n. HasTurnedWatched space guide n broken read_before read_after first start new now) sum (watched_then (old.used - first.used) more broken first start old was new now before turned)

-- ---- a lease at work under a watch

module _ (task : TaskParts) (abstraction : AbstractGraph) (choice : Choice) {read_before read_after : Bool} (old new : LeaseValue) (was now : Option WatchView) (more : ℕ)
    (turned : HasTurnedWatched (space_of task) (guide_of task abstraction choice) more 0 read_before read_after old was new now) where
  at_work_after : IsAtWork task abstraction choice old → IsAtWork task abstraction choice new
  at_work_after at =
      let known : Option ℕ → Bool = λ incumbent. at.known incumbent || known_by now incumbent in
      let given : ℕ → ℕ → Store = λ block worker. lent_store (setup_of task abstraction choice at.settings at.reopenings) block at.machine.store (at.machine.given worker) in
      let second = lease_work_stays (space_of task) (guide_of task abstraction choice) old.block more 0 0 (known_by now) known (leased_store old) (leased_store new) turned.turned.work (omega arith)
      (λ incumbent k. or_right (at.known incumbent) (known_by now incumbent) k) in
      let both : IsWorked (space_of task) (guide_of task abstraction choice) old.block (old.used + more) 0 known (given old.block old.worker) (leased_store new) =
      (lease_work_goes_on (space_of task) (guide_of task abstraction choice) old.block old.used more 0 at.known known (given old.block old.worker) (leased_store old) (leased_store new)
      at.work second.0 (λ incumbent k. or_left (at.known incumbent) (known_by now incumbent) k)).0 in
      record {
        settings = at.settings;
        reopenings = at.reopenings;
        machine = at.machine;
        is_setup = at.is_setup;
        in_range = at.in_range;
        lawful = at.lawful;
        leased = ap at.machine.counts.leases turned.same.worker ∙ at.leased ∙ λ i. Some (record { block = sym turned.same.block i; quota = sym turned.same.quota i });
        known = known;
        work = subst (λ n. IsWorked (space_of task) (guide_of task abstraction choice) new.block n 0 known (given new.block new.worker) (leased_store new)) (sym turned.used)
            (subst (λ b. IsWorked (space_of task) (guide_of task abstraction choice) b (old.used + more) 0 known (given b new.worker) (leased_store new)) (sym turned.same.block)
            (subst (λ w. IsWorked (space_of task) (guide_of task abstraction choice) old.block (old.used + more) 0 known (given old.block w) (leased_store new)) (sym turned.same.worker) both));
        scope = scope_on task abstraction choice old new more at turned.same (turned.weights at.scope.weights);
        choice_is = turned.same.choice ∙ at.choice_is;
      }

  pub at_watch_on : IsAtWatch task abstraction choice was old → new.used ≤ new.quota → IsAtWatch task abstraction choice now new
  at_watch_on at within = record {
    search = search_on task abstraction choice was now turned.kept at.search;
    at_work = at_work_after at.at_work;
    watched = turned.watched;
    within = within;
  }

-- turns without an expansion leave it at work under the watch
module _ (task : TaskParts) (abstraction : AbstractGraph) (choice : Choice) {read_before read_after : Bool} (old new : LeaseValue) (was now : Option WatchView)
    (turned : HasTurnedWatched (space_of task) (guide_of task abstraction choice) 0 0 read_before read_after old was new now) where
  pub at_watch_still : IsAtWatch task abstraction choice was old → IsAtWatch task abstraction choice now new
  at_watch_still at = at_watch_on task abstraction choice old new was now 0 turned at (omega (arith, turned.used, turned.same.quota, at.within))

module _ (task : TaskParts) (abstraction : AbstractGraph) (choice : Choice) (first : LeaseValue) (start : Option WatchView) (old : LeaseValue) (was : Option WatchView) (new : LeaseValue) (now : Option WatchView) where
  -- and others may follow
  pub then_still : {read_before read_between read_after : Bool} → IsAtWatch task abstraction choice start first
      → HasTurnedWatched (space_of task) (guide_of task abstraction choice) 0 0 read_before read_between first start old was
      → (IsAtWatch task abstraction choice was old → HasTurnedWatched (space_of task) (guide_of task abstraction choice) 0 0 read_between read_after old was new now)
      → HasTurnedWatched (space_of task) (guide_of task abstraction choice) 0 0 read_before read_after first start new now
  then_still at before next =
      watched_then (space_of task) (guide_of task abstraction choice) 0 0 0 first start old was new now before (next (at_watch_still task abstraction choice first old start was before at))

  -- how far the work has come
  pub record IsFarWatched (broken : ℕ) (read_after : Bool) : Type 0 where
    pub turned : HasTurnedWatched (space_of task) (guide_of task abstraction choice) (new.used - first.used) broken false read_after first start new now
    pub counted : first.used ≤ new.used
    pub scope : HasScope abstraction new

  pub far_on : {read_after : Bool} → (more broken : ℕ) → IsAtWatch task abstraction choice was old → first.used ≤ old.used
      → HasTurnedWatched (space_of task) (guide_of task abstraction choice) (old.used - first.used) 0 false false first start old was
      → HasTurnedWatched (space_of task) (guide_of task abstraction choice) more broken false read_after old was new now → IsFarWatched broken read_after
  far_on more broken at counted before turned = record {
    turned = watched_far (space_of task) (guide_of task abstraction choice) more broken first start old was new now counted before turned;
    counted = omega (arith, turned.used, counted);
    scope = scope_on task abstraction choice old new 0 at.at_work turned.same (turned.weights at.at_work.scope.weights);
  }

-- what work under a watch has done, which began with no read
pub as_read : (space : Space) (guide : Guide) {read_after : Bool} (more broken : ℕ) (old : LeaseValue) (was : Option WatchView) (new : LeaseValue) (now : Option WatchView)
    → HasTurnedWatched space guide more broken false read_after old was new now
    → HasTurnedReading space guide old.block more broken read_after (leased_store old) (leased_store new) was now
as_read space guide more broken old was new now turned = record { turned = turned.turned; reads = turned.reads (answers_of was) (own_answers was) }

-- ---- what a turn needs

-- one turn that reads nothing, under a watch that does nothing meanwhile
pub expanded : (task : TaskParts) (abstraction : AbstractGraph) (choice : Choice) (old new : LeaseValue) (view : Option WatchView) (more broken : ℕ) → IsAtWatch task abstraction choice view old
    → HasTurnedOnce (space_of task) (guide_of task abstraction choice) reads_none old.block more broken (leased_store old) (leased_store new) → IsSameLease old new → new.used ≡ old.used + more → HasWeights new
    → new.incumbent ≡ old.incumbent → HasTurnedWatched (space_of task) (guide_of task abstraction choice) more broken true false old view new view
expanded task abstraction choice old new view more broken at once same used weights incumbent =
    unread_turned (space_of task) (guide_of task abstraction choice) old new view more broken at.watched
    (record { turned = turned_known (space_of task) (guide_of task abstraction choice) reads_none (known_by view) old.block more broken (leased_store old) (leased_store new) unread once.turned; once = one })
    same used (λ has. weights) incumbent
  where
    unread : (incumbent : Option ℕ) → IsTrue (reads_none incumbent) → IsTrue (known_by view incumbent)
    unread incumbent k = absurd (true≢false (sym k))

    one : (before : List (Option ℕ))
        → copies_of (space_of task) (guide_of task abstraction choice) (IsWorked.works (HasTurned.work (turned_known (space_of task) (guide_of task abstraction choice) reads_none (known_by view) old.block more broken (leased_store old) (leased_store new) unread once.turned))) (leased_store old) before
        ≡ old.incumbent ∷ before
    one before =
        ap (λ works. copies_of (space_of task) (guide_of task abstraction choice) works (leased_store old) before)
        (turned_known_works (space_of task) (guide_of task abstraction choice) reads_none (known_by view) old.block more broken (leased_store old) (leased_store new) unread once.turned)
        ∙ once.once before

module _ (task : TaskParts) (abstraction : AbstractGraph) (choice : Choice) (view : Option WatchView) (lease : LeaseValue) (at : IsAtWatch task abstraction choice view lease) (state : ℕ) (row : Row)
    (first : IsFirstRow lease.weight (own_rows lease) state row) (goal : IsTrue ((space_of task).is_goal state)) where
  -- a goal's row of the block
  pub goal_here : HasGoalWithin (space_of task) (guide_of task abstraction choice) (leased_store lease) row.g
  goal_here = (
    state,
    goal,
    (row, subst (λ block. (leased_store lease).rows block state ≡ Some row) (sym (row_is_home task abstraction choice lease at.at_work state row first.found)) first.found, omega arith),
  )

-- its cost may be told
pub may_tell : (task : TaskParts) (abstraction : AbstractGraph) (choice : Choice) (view : Option WatchView) (lease : LeaseValue) (at : IsAtWatch task abstraction choice view lease) (state : ℕ) (row : Row)
    → IsFirstRow lease.weight (own_rows lease) state row → IsTrue ((space_of task).is_goal state) → IfSome view (λ seen. MayTell seen lease row.g)
may_tell task abstraction choice None lease at state row first goal = tt
may_tell task abstraction choice (Some view) lease at state row first goal =
    let cheap : row.g < 2 ^ 61 = row_is_cheap task abstraction choice lease at.at_work state row first.found at.within in
    let here : HasGoalWithin (space_of task) (guide_of task abstraction choice) (leased_store lease) row.g = goal_here task abstraction choice (Some view) lease at state row first goal in
    let both : IsWatched (space_of view.task) (guide_of view.task view.abstraction view.choice) view 0 lease × HasGoalWithin (space_of view.task) (guide_of view.task view.abstraction view.choice) (leased_store lease) row.g =
    subst (λ t. IsWatched (space_of t) (guide_of t view.abstraction view.choice) view 0 lease × HasGoalWithin (space_of t) (guide_of t view.abstraction view.choice) (leased_store lease) row.g) (sym at.search.task_is)
    (subst (λ g. IsWatched (space_of task) (guide_of task g view.choice) view 0 lease × HasGoalWithin (space_of task) (guide_of task g view.choice) (leased_store lease) row.g) (sym at.search.graph_is)
    (subst (λ h. IsWatched (space_of task) (guide_of task abstraction h) view 0 lease × HasGoalWithin (space_of task) (guide_of task abstraction h) (leased_store lease) row.g) (sym at.search.choice_is) (at.watched, here))) in
    record { below = omega (arith, cheap); watched = both.0; goal = both.1 }

-- The turns of a lease, and runs in order.
use Rattle.std.proofs.Common.{◌≡◌, ℕ, Bool, true, false, cond, refl, List, [], ◌∷◌, ◌++◌, Option, Some, None, sym, ap, ◌∙◌, subst, arith}
use Rattle.std.specs.List.{AllByRecursion}
use Rattle.pb_model.specs.Space.{Space}
use Rattle.pb_model.specs.Guide.{Guide}
use Rattle.pb_model.specs.Store.{Store, lesser, AtMost}
use Rattle.pb_model.specs.Key.{IsFirstRow}
use Rattle.pb_model.specs.Work.{Work, expand, break_off, cut, take_goal, lower, reopen, weight_after, store_after, Comes}
use Rattle.pb_model.specs.Turns.{IsFirst}
use Rattle.pb_model.specs.Local.{IsWithin, AgreesOn}
use Rattle.pb_model.proofs.Callers.{work_is_local}
use Rattle.pb_machine.specs.declared.event.Event.TheVariants.{Lease, Release}
use Rattle.pb_machine.specs.Machine.{lent_store, Setup, Machine, Move, event_move, tell_move, switch_move, Runs, journal_of}
use Rattle.pb_machine.specs.Turns.{IsLeaseTurn, AreLeaseTurns, IsOnFirst, AreOnFirst, RunsInOrder}
use Rattle.pb_machine.specs.Laws.{TurnsCarryOver, OrderedRunsAreRuns, LeaseTurnsGoOn, RunsGoOn}
use Rattle.pb_machine.proofs.LeaseWork.{within}

below_second : (u v : Option ℕ) → AtMost (lesser u v) v
below_second u None = tt
below_second None (Some y) = omega arith
below_second (Some x) (Some y) = omega arith

module _ (space : Space) (guide : Guide) (scope : ℕ → Bool) where
  first_agrees : (w u : Store) (own : ℕ) → AgreesOn scope w.rows u.rows → w.weight ≡ u.weight → scope (guide.home own) ≡ true → IsFirst guide w own → IsFirst guide u own
  first_agrees w u own agree same inside (row, is) = (
    row,
    subst (λ x. IsFirstRow x (u.rows (guide.home own)) own row) same (record {
      found = sym (agree (guide.home own) own inside) ∙ is.found;
      opened = is.opened;
      first = λ other other_row there opened. is.first other other_row (agree (guide.home own) other inside ∙ there) opened;
    }),
  )

  on_first : (x : Work) (w u : Store) → AgreesOn scope w.rows u.rows → w.weight ≡ u.weight → IsWithin space guide scope x → IsLeaseTurn guide w x → IsOnFirst guide u x
  on_first (expand own) w u agree same h turn = first_agrees w u own agree same h.0 (turn.0, turn.1)
  on_first (break_off own offers) w u agree same h turn = first_agrees w u own agree same h.0 (turn.0, turn.1)
  on_first (cut own) w u agree same h turn = first_agrees w u own agree same h turn
  on_first (take_goal own) w u agree same h turn = first_agrees w u own agree same h (turn.0, turn.1)
  on_first (lower cost) w u agree same h turn = tt
  on_first (reopen x) w u agree same h turn = absurd turn

  -- turns in one store are on the first rows of another that has the same rows in the scope
  turns_carry : (xs : List Work) (w v u : Store) → AllByRecursion (IsWithin space guide scope) xs → Comes space guide xs w v → AgreesOn scope w.rows u.rows → AtMost u.incumbent w.incumbent → w.weight ≡ u.weight
      → AreLeaseTurns space guide xs w → AreOnFirst space guide xs u
  turns_carry [] w v u on comes agree low same turns = tt
  turns_carry (x ∷ xs) w v u on comes agree low same turns =
      let after : Store = store_after space guide x w in
      let one = work_is_local space guide scope (x ∷ []) w after u (on.0, tt) (comes.0, refl) agree low same in
      let agree' : AgreesOn scope after.rows (store_after space guide x u).rows =
      λ home state inside. sym (ap (λ r. cond r (after.rows home state) (u.rows home state)) inside) ∙ (λ i. (one.1 i).rows home state) in
      let low' : AtMost (store_after space guide x u).incumbent after.incumbent = subst (λ (q : Store). AtMost q.incumbent after.incumbent) one.1 (below_second u.incumbent after.incumbent) in
      (on_first x w u agree same on.0 turns.0, turns_carry xs after v (store_after space guide x u) on.1 comes.1 agree' low' (ap (weight_after x) same) turns.1)

pub turns_carry_over : TurnsCarryOver
turns_carry_over setup greatest_cost machine worker used few grant worked is lawful leased work turns =
    turns_carry setup.space setup.guide (setup.blocks.scope grant.block) work.works (lent_store setup grant.block machine.store (machine.given worker)) worked machine.store
    (within setup greatest_cost is machine worker grant used few worked lawful leased work) work.comes
    (λ home state inside. ap (λ r. cond r (machine.store.rows home state) None) inside) (lawful.least worker (machine.given worker) (lawful.given worker)) refl turns

pub ordered_runs_are_runs : OrderedRunsAreRuns
ordered_runs_are_runs setup [] old new runs = runs
ordered_runs_are_runs setup (move ∷ moves) old new runs = (runs.0, runs.1, ordered_runs_are_runs setup moves runs.0 new runs.3)

pub lease_turns_go_on : LeaseTurnsGoOn
lease_turns_go_on space guide [] more given between comes first second = subst (AreLeaseTurns space guide more) comes second
lease_turns_go_on space guide (x ∷ xs) more given between comes first second = (first.0, lease_turns_go_on space guide xs more (store_after space guide x given) between comes.1 first.1 second)

-- ---- moves after others

module _ (setup : Setup) where
  run_on : (moves more : List Move) (old between new : Machine) → Runs setup old moves between → Runs setup between more new → Runs setup old (moves ++ more) new
  run_on [] more old between new first later = subst (λ (q : Machine). Runs setup q more new) first later
  run_on (move ∷ moves) more old between new first later = (first.0, first.1, run_on moves more first.0 between new first.2 later)

  run_on_in_order : (moves more : List Move) (old between new : Machine) → RunsInOrder setup old moves between → RunsInOrder setup between more new → RunsInOrder setup old (moves ++ more) new
  run_on_in_order [] more old between new first later = subst (λ (q : Machine). RunsInOrder setup q more new) first later
  run_on_in_order (move ∷ moves) more old between new first later = (first.0, first.1, first.2, run_on_in_order moves more first.0 between new first.3 later)

events_of_both : (moves more : List Move) → journal_of (moves ++ more) ≡ journal_of moves ++ journal_of more
events_of_both [] more = refl
events_of_both (event_move event ∷ moves) more = ap (λ l. event ∷ l) (events_of_both moves more)
events_of_both (tell_move worker cost ∷ moves) more = events_of_both moves more
events_of_both (switch_move worker used block quota ∷ moves) more = ap (λ l. Release worker used false ∷ Lease worker block quota ∷ l) (events_of_both moves more)

pub runs_go_on : RunsGoOn
runs_go_on setup moves more old between new = (run_on setup moves more old between new, run_on_in_order setup moves more old between new, events_of_both moves more)

-- The names under which a search with falling weights saves its certificates are those of the words.
use Rattle.std.proofs.Common.{inl, ℕ, zero, suc, ◌+◌, ◌≤◌, Option, None, Some, List, refl, sym, subst, arith}
use Rattle.pb_command.specs.Meaning.{SolveMeaning}
use Rattle.pb_answer.specs.Outputs.{Output}
use Rattle.pb_answer.proofs.Callers.{run_names, AreOfFirstRuns}
use Rattle.pb_run.specs.Asked.{numbered_from, numbered_names, AreSomeOf}
use Rattle.pb_run.proofs.CallLists.{names_of}

-- first runs are some of all runs
some_runs : (name : List ℕ) (run runs all : ℕ) → runs ≤ all → AreSomeOf (run_names (Some name) run runs) (numbered_from name run all)
some_runs name run zero all few = tt
some_runs name run (suc runs) zero few = absurd (omega (arith, few))
some_runs name run (suc runs) (suc all) few = inl (refl, some_runs name (suc run) runs all (omega (arith, few)))

first_runs : (given : Option (List ℕ)) (runs steps : ℕ) → runs ≤ steps + 1 → AreSomeOf (run_names given 0 runs) (numbered_names given steps)
first_runs None runs steps few = tt
first_runs (Some name) runs steps few = some_runs name 0 runs (suc steps) (omega (arith, few))

pub first_runs_named : (solve : SolveMeaning) (steps : ℕ) (outputs : List Output) → AreOfFirstRuns solve steps outputs → AreSomeOf (names_of outputs) (numbered_names solve.certificate steps)
first_runs_named solve steps outputs (runs, few, is) =
    subst (λ (ns : List (List ℕ)). AreSomeOf ns (numbered_names solve.certificate steps)) (sym is) (first_runs solve.certificate runs steps few)

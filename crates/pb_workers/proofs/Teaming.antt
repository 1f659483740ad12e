-- Workers that search together: how their passes are split and meet again.
use Rattle.std.proofs.Common.{◌≡◌, ℕ, true, is_some, List, [], ◌∷◌, ◌++◌, suc, refl, sym, ap, ◌∙◌, arith, subst}
use Rattle.std.specs.List.{list_any, AllByRecursion}
use Rattle.std.proofs.lemmas.List.{append-nil}
use Rattle.pb_machine.specs.History.{is_off}
use Rattle.pb_machine.specs.Views.{Share}
use Rattle.pb_machine.proofs.Callers.{all_append}
use Rattle.pb_task.specs.declared.parts.TaskParts.{TaskParts}
use Rattle.pb_abstract.specs.Graph.{AbstractGraph}
use Rattle.pb_yard.specs.declared.view.View.{View}
use Rattle.pb_yard.specs.Views.{split_view, next_pass_view, met_pass_view}
use Rattle.pb_yard.specs.Calls.{AllSignedOff}
use Rattle.pb_workers.specs.Shared.{IsSameHolder, IsIdle}
use Rattle.pb_yard.specs.Marking.{turn_of, MarksInTurn}
use Rattle.pb_workers.specs.Turns.{IsBetweenTurns, AllMarkInTurn}
use Rattle.pb_workers.specs.Teams.{IsToSplit, KeepsSearch}

abbrev HasMarks : Share → Type 0
HasMarks share = MarksInTurn share.events

abbrev HasOff : Share → Type 0
HasOff share = list_any is_off share.events ≡ true

module _ (task : TaskParts) (abstraction : AbstractGraph) (v : View) where
  -- a pass is split, and one fewer is still to be made
  pub one_fewer : (more : ℕ) (u : View) → IsToSplit task abstraction (suc more) v → u ≡ split_view v → IsToSplit task abstraction more u
  one_fewer more u s is = subst (λ (w : View). IsToSplit task abstraction more w) (sym is) record {
    idle = record { of_task = s.idle.of_task; task_is = s.idle.task_is; graph_is = s.idle.graph_is; vacant = s.idle.vacant; stays = s.idle.stays };
    none_taken_in = s.none_taken_in;
    more_is = let all = s.more_is in omega (arith, all);
  }

  -- the pass that was split off is idle
  pub next_idle : (more : ℕ) (u : View) → IsToSplit task abstraction more v → u ≡ next_pass_view v → IsIdle task abstraction u
  next_idle more u s is = subst (λ (w : View). IsIdle task abstraction w) (sym is) record { of_task = s.idle.of_task; task_is = s.idle.task_is; graph_is = s.idle.graph_is; vacant = refl; stays = refl }

  -- the last worker signed off
  pub one_off : (u : View) → IsToSplit task abstraction 0 v → IsSameHolder v u → list_any is_off u.journal.own.events ≡ true → AllSignedOff u
  one_off u s same off = record {
    all_made = same.made ∙ (let all = s.more_is in omega (arith, all)) ∙ sym (ap (λ t. t.workers) same.settings);
    off = (off, subst (λ shares. AllByRecursion HasOff shares) (sym (same.taken_in ∙ s.none_taken_in)) tt);
  }

pub search_of : (v u : View) → IsSameHolder v u → KeepsSearch v u
search_of v u same = record { task = same.task; abstraction = same.abstraction; choice = same.choice; settings = same.settings; begin = same.begin; left_order = same.left_order }

-- the first pass and those that it took in, of workers that have signed off, take in another such pass
module _ (v split all next other met : View) (split_is : split ≡ split_view v) (keeps : KeepsSearch split all) (offs : AllSignedOff all) (next_is : next ≡ next_pass_view v) (same : IsSameHolder next other)
    (off : list_any is_off other.journal.own.events ≡ true) (met_is : met ≡ met_pass_view all other) where
  pub met_search : KeepsSearch v met
  met_search = subst (λ (w : View). KeepsSearch v w) (sym met_is) record {
    task = keeps.task ∙ ap (λ (w : View). w.task) split_is;
    abstraction = keeps.abstraction ∙ ap (λ (w : View). w.abstraction) split_is;
    choice = keeps.choice ∙ ap (λ (w : View). w.choice) split_is;
    settings = keeps.settings ∙ ap (λ (w : View). w.settings) split_is;
    begin = keeps.begin ∙ ap (λ (w : View). w.begin) split_is;
    left_order = ap (λ (l : List ℕ). all.left_order ++ l) (same.left_order ∙ ap (λ (w : View). w.left_order) next_is) ∙ append-nil all.left_order
        ∙ keeps.left_order ∙ ap (λ (w : View). w.left_order) split_is;
  }

  none_made : other.journal.made ≡ 0
  none_made = same.made ∙ ap (λ (w : View). w.journal.made) next_is

  none_taken : other.journal.taken_in ≡ []
  none_taken = same.taken_in ∙ ap (λ (w : View). w.journal.taken_in) next_is

  pub met_off : AllSignedOff met
  met_off = subst (λ (w : View). AllSignedOff w) (sym met_is) record {
    all_made = (let n = none_made in omega (arith, n)) ∙ offs.all_made;
    off = (
      offs.off.0,
      all_append HasOff all.journal.taken_in (other.journal.own ∷ other.journal.taken_in) offs.off.1
          (off, subst (λ shares. AllByRecursion HasOff shares) (sym none_taken) tt),
    );
  }

  -- if the first pass's worker had its marks in turn, all have them so
  pub met_marks : (IsBetweenTurns split → AllMarkInTurn all) → (IsBetweenTurns next → IsBetweenTurns other) → IsBetweenTurns v → AllMarkInTurn met
  met_marks first second before =
      let marks = first (ap (λ (w : View). turn_of w.journal.own.events) split_is ∙ before) in
      let last : HasMarks other.journal.own = ap is_some (second (ap (λ (w : View). turn_of w.journal.own.events) next_is)) in
      subst (λ (w : View). AllMarkInTurn w) (sym met_is) (
        marks.0,
        all_append HasMarks all.journal.taken_in (other.journal.own ∷ other.journal.taken_in) marks.1
            (last, subst (λ shares. AllByRecursion HasMarks shares) (sym none_taken) tt),
      )

-- the last worker's marks are in turn
pub one_marks : (task : TaskParts) (graph : AbstractGraph) (v u : View) → IsToSplit task graph 0 v → IsSameHolder v u → (IsBetweenTurns v → IsBetweenTurns u) → IsBetweenTurns v → AllMarkInTurn u
one_marks task graph v u s same goes before = (ap is_some (goes before), subst (λ shares. AllByRecursion HasMarks shares) (sym (same.taken_in ∙ s.none_taken_in)) tt)

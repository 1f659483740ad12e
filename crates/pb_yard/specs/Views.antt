-- How what a pass knows changes.
use Rattle.std.specs.Prelude.{ℕ, ◌==◌, if◌then◌else◌, Bool, not, IsTrue, List, [], ◌∷◌, ◌++◌, Option, Some, None, length, drop}
use Rattle.std.specs.List.{list_any}
use Rattle.pb_model.specs.Store.{lesser}
use Rattle.pb_task.specs.declared.parts.TaskParts.TheVariants.{Tiles}
use Rattle.pb_estimate.specs.Choices.{Plain}
use Rattle.pb_abstract.specs.declared.projection.Projection.TheVariants.{Blank}
use Rattle.pb_machine.specs.declared.event.Event.{Event}
use Rattle.pb_machine.specs.Settings.{standard}
use Rattle.pb_machine.specs.Views.{first_view, spent_view, view_after, with_one_more, next_view, met_view}
use Rattle.pb_lease.specs.LeaseValue.{LeaseValue}
use Rattle.pb_lease.specs.GraphValue.{GraphValue}
use Rattle.pb_lease.specs.Tables.{no_past}
use Rattle.pb_yard.specs.declared.view.View.{View}

-- the incumbent that the word says: its greatest number says that there is none
abbrev pub cost_of : ℕ → Option ℕ
cost_of number = if number == 18446744073709551615 then None else Some number

-- the graph with the lesser of its incumbent and this one
abbrev pub bounded : GraphValue → Option ℕ → GraphValue
bounded g None = g
bounded g (Some cost) = record g { incumbent = lesser g.incumbent (Some cost) }

-- the view of the first pass: it is as if it had read the graph's incumbent
abbrev pub opening_view : GraphValue → View
opening_view g =
    record {
      journal = first_view;
      lent = None;
      task = g.task;
      abstraction = g.table.abstraction;
      choice = g.choice;
      settings = g.table.settings;
      begin = g;
      told = None;
      last = g.incumbent;
      read = [];
      read_at = None;
      left_order = [];
    }

-- The view of a pass after another was split from it, and then the view of the other. The other has
-- the next worker's number, no lease and no events, and has seen what the first has. It knows the
-- incumbent that the yard began with, and keeps the order.
abbrev pub split_view : View → View
split_view view = record view { journal = with_one_more view.journal }

abbrev pub next_pass_view : View → View
next_pass_view view =
    record view {
      journal = next_view view.journal;
      lent = None;
      told = None;
      last = view.begin.incumbent;
      read = [];
      read_at = None;
      left_order = [];
    }

-- the graph of no search
abbrev pub no_graph : GraphValue
no_graph =
    record {
      task = Tiles (record { rows = 0; cols = 0; start = []; goal = [] });
      choice = Plain;
      table = record {
        abstraction = record { projection = Blank; scopes = [] };
        settings =
            record standard { workers = 0; num = 0; den = 0; budget = 0; lot = 0; wish = 0 };
        past = no_past;
        seats = [];
        hot = [];
        spent = 0;
        left = 0;
        end = None;
        journal = [];
      };
      homes = record { bundles = []; keys = [] };
      incumbent = None;
    }

-- the view of a pass after it took in another's; and then what is left at the other's number, which
-- says nothing
abbrev pub met_pass_view : (view other : View) → View
met_pass_view view other =
    record view {
      journal = met_view view.journal other.journal;
      left_order = view.left_order ++ other.left_order;
    }

abbrev pub spent_pass_view : View
spent_pass_view =
    record {
      journal = spent_view;
      lent = None;
      task = no_graph.task;
      abstraction = no_graph.table.abstraction;
      choice = no_graph.choice;
      settings = no_graph.table.settings;
      begin = no_graph;
      told = None;
      last = None;
      read = [];
      read_at = None;
      left_order = [];
    }

-- whether the worker left the order, as the pass has it
abbrev pub has_left : View → (worker : ℕ) → Bool
has_left view worker = list_any (λ other. other == worker) view.left_order

-- whether the worker keeps the order, as the pass has it
abbrev pub keeps_order : View → (worker : ℕ) → Bool
keeps_order view worker = not (has_left view worker)

-- the pass's own worker keeps the order
abbrev pub KeepsOrder : View → Type 0
KeepsOrder view = IsTrue (keeps_order view view.journal.own.worker)

-- the view after its pass's worker left the order
abbrev pub view_leaving_order : View → View
view_leaving_order view =
    record view { left_order = view.journal.own.worker ∷ view.left_order }

-- how many events the journal of the graph has that the pass holds, if it holds one
abbrev pub events_held : Option GraphValue → Option ℕ
events_held None = None
events_held (Some g) = Some (length g.table.journal)

-- the view after its pass read this as the incumbent
abbrev pub view_read : (held : Option GraphValue) → View → Option ℕ → View
view_read held view incumbent =
    record view { last = incumbent; read = incumbent ∷ view.read; read_at = events_held held }

-- the view after its pass told this cost
abbrev pub view_told : View → (cost : ℕ) → View
view_told view cost =
    record view {
      told = lesser view.told (Some cost);
      last = lesser view.last (Some cost);
      read_at = None;
    }

-- The view after its pass held the graph and these events were added to the journal. It has seen
-- the whole journal, and has its own worker's events. It has this lease, and has told this cost.
abbrev pub view_then : (journal added : List Event) → (lent : Option LeaseValue) → (told : Option ℕ)
    → View → View
view_then journal added lent told view =
    record view {
      journal = view_after journal added view.journal;
      lent = lent;
      told = told;
      read_at = None;
    }

-- the events that the second graph's journal has and the first one's hasn't
abbrev pub events_between : (old new : GraphValue) → List Event
events_between old new = drop (length old.table.journal) new.table.journal

abbrev pub view_left : (old new : GraphValue) → (lent : Option LeaseValue) → (told : Option ℕ)
    → View → View
view_left old new lent told view =
    view_then old.table.journal (events_between old new) lent told view

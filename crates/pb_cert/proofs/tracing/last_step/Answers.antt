use Rattle.std.proofs.Common.{sym, ◌∙◌}
use Rattle.pb_task.specs.Parts.{space_of}
use Rattle.pb_task.proofs.Callers.{tasks_are_proper}
use Rattle.pb_cert.proofs.Back.{is_state, some_parent, parent_is_state, steps, last_step}
use Rattle.pb_cert.proofs.tracing.last_step.Goals as goal

pub row_at_home-requires-clause-is_state : goal.row_at_home-requires-clause-is_state
row_at_home-requires-clause-is_state g c =
    is_state (space_of c.args.task.now) (g.S.Store.home c.args.store.now) (g.S.Store.rows c.args.store.now) (g.S.Store.weight c.args.store.now) c.requires.sound c.args.state.now c.requires.found.0 c.requires.found.1

pub unreachable-requires-in_default-parent : goal.unreachable-requires-in_default-parent
unreachable-requires-in_default-parent g c =
    some_parent (space_of c.args.task.now) (g.S.Store.home c.args.store.now) (g.S.Store.rows c.args.store.now) (g.S.Store.weight c.args.store.now) c.requires.sound c.args.state.now c.in-Some.row (sym c.in-Some.ensures) c.requires.not_start c.in_default-parent.is

pub apply-requires : goal.apply-requires
apply-requires g c =
    parent_is_state (space_of c.args.task.now) (g.S.Store.home c.args.store.now) (g.S.Store.rows c.args.store.now) (g.S.Store.weight c.args.store.now) c.requires.sound c.args.state.now c.in-Some.row (sym c.in-Some.ensures) c.requires.not_start c.in-Some-parent.parent c.in-Some-parent.is

pub unreachable-requires-in_default-apply : goal.unreachable-requires-in_default-apply
unreachable-requires-in_default-apply g c =
    steps (space_of c.args.task.now) (g.S.Store.home c.args.store.now) (g.S.Store.rows c.args.store.now) (g.S.Store.weight c.args.store.now) c.requires.sound c.args.state.now c.in-Some.row (sym c.in-Some.ensures) c.requires.not_start c.in-Some-parent.parent c.in-Some-parent.is (sym c.apply.ensures ∙ c.in_default-apply.is)

pub returns : goal.returns
returns g c =
    last_step (space_of c.args.task.now) (g.S.Store.home c.args.store.now) (g.S.Store.rows c.args.store.now) (g.S.Store.weight c.args.store.now) c.requires.sound c.args.state.now c.in-Some.row (sym c.in-Some.ensures)
    (tasks_are_proper c.args.task.now c.requires.lawful).0.positive c.requires.not_start c.in-Some-parent.parent c.in-Some-parent.is _ c.in-Some-apply.cost (sym c.in-Some-apply.ensures)

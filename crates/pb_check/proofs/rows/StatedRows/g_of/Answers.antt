use Rattle.std.proofs.Common.{ap, ◌∙◌}
use Rattle.pb_check.specs.Judging.{g_of}
use Rattle.pb_check.proofs.Arrays.{absent, found, rising}
use Rattle.pb_check.proofs.rows.StatedRows.g_of.Goals as goal

pub place-requires : goal.place-requires
place-requires c = record { rise = rising c.self.inside.states.numbers c.self.inside.costs.items c.self.inside.closed.items c.self.invariant.0 c.self.invariant.1 (rw c.self.view_is c.requires) }

pub returns-in-Some : goal.returns-in-Some
returns-in-Some c =
    found c.self.inside.states.numbers c.self.inside.costs.items c.self.inside.closed.items c.in-Some.i c.args.state.now c.index.result.now c.self.invariant.0 c.self.invariant.1
    (rw c.self.view_is c.requires) c.in-Some.ensures.0.0 c.in-Some.ensures.0.1 c.index.ensures
    ∙ ap (λ rows. g_of rows c.args.state.now) c.self.view_is

pub returns-in-None : goal.returns-in-None
returns-in-None c =
    absent c.self.inside.states.numbers c.self.inside.costs.items c.self.inside.closed.items c.args.state.now c.self.invariant.0 c.self.invariant.1 c.in-None.ensures.1
    ∙ ap (λ rows. g_of rows c.args.state.now) c.self.view_is

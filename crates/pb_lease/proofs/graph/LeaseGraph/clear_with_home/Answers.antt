use Rattle.std.proofs.Common.{◌∙◌, sym, subst}
use Rattle.pb_bundles.specs.Homes.{key_at}
use Rattle.pb_bundles.specs.Choosing.{IsFirstBy}
use Rattle.pb_lease.specs.Choices.{is_clear_in}
use Rattle.pb_lease.proofs.WithHome.{none_clear, clear_passes, clear_fails}
use Rattle.pb_lease.proofs.graph.LeaseGraph.clear_with_home.Goals as goal

pub returns-in-None : goal.returns-in-None
returns-in-None c =
    none_clear c.args.self.now c.args.lease.now (subst (IsFirstBy (is_clear_in c.args.self.now) (key_at c.args.self.now.homes)) c.in-None.is c.first_clear.ensures.first)

pub returns-then-can_be_leased_home : goal.returns-then-can_be_leased_home
returns-then-can_be_leased_home c =
    clear_passes c.args.self.now c.args.lease.now c.in-Some.block (subst (IsFirstBy (is_clear_in c.args.self.now) (key_at c.args.self.now.homes)) c.in-Some.is c.first_clear.ensures.first) (sym c.can_be_leased_home.ensures ∙ c.if-can_be_leased_home.true)

pub returns-else-can_be_leased_home : goal.returns-else-can_be_leased_home
returns-else-can_be_leased_home c =
    clear_fails c.args.self.now c.args.lease.now c.in-Some.block (subst (IsFirstBy (is_clear_in c.args.self.now) (key_at c.args.self.now.homes)) c.in-Some.is c.first_clear.ensures.first) (sym c.can_be_leased_home.ensures ∙ c.if-can_be_leased_home.false)

pub can_be_leased_home-requires-clause-block : goal.can_be_leased_home-requires-clause-block
can_be_leased_home-requires-clause-block c = c.first_clear.ensures.known c.in-Some.block c.in-Some.is

use Rattle.std.proofs.Common.{◌∙◌, sym}
use Rattle.pb_bundles.specs.Homes.{key_at}
use Rattle.pb_lease.specs.Choices.{can_be_leased_home}
use Rattle.pb_lease.proofs.WithHome.{better_one, worse_one, forbidden_one}
use Rattle.pb_lease.proofs.graph.LeaseGraph.better_with_home.Goals as goal

pub returns-then-not-improves : goal.returns-then-not-improves
returns-then-not-improves c listed first =
    worse_one listed (can_be_leased_home c.args.self.now c.args.lease.now) (key_at c.args.self.now.homes) c.args.best c.args.other first c.improves.result c.improves.ensures.alone c.improves.ensures.better c.if-not-improves.true

pub returns-then-can_be_leased_home : goal.returns-then-can_be_leased_home
returns-then-can_be_leased_home c listed first =
    better_one listed (can_be_leased_home c.args.self.now c.args.lease.now) (key_at c.args.self.now.homes) c.args.best c.args.other first c.improves.result c.improves.ensures.alone c.improves.ensures.better c.if-not-improves.false
    (sym c.can_be_leased_home.ensures ∙ c.if-can_be_leased_home.true)

pub returns-else-can_be_leased_home : goal.returns-else-can_be_leased_home
returns-else-can_be_leased_home c listed first =
    forbidden_one listed (can_be_leased_home c.args.self.now c.args.lease.now) (key_at c.args.self.now.homes) c.args.best c.args.other first (sym c.can_be_leased_home.ensures ∙ c.if-can_be_leased_home.false)

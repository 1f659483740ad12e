use Rattle.std.proofs.Common.{◌<◌, ◌==◌, false, refl, ap, ◌∙◌, arith, subst}
use Rattle.pb_machine.specs.declared.settings.Settings.{Settings}
use Rattle.pb_lease.proofs.Callers.{leased_else, released_else, ended_else}
use Rattle.pb_test_search.proofs.graphs.is_told_to_wait.Goals as goal

pub lease-requires-clause-worker : goal.lease-requires-clause-worker
lease-requires-clause-worker c = subst (λ (s : Settings). 1 < s.workers) c.settings.ensures.settings (omega arith)

pub release-requires : goal.release-requires
release-requires c = (c.in-Leased.ensures.leased c.in-Leased.lease refl).of_graph

pub returns-in-Leased : goal.returns-in-Leased
returns-in-Leased c = record {
  others = λ lease different of.
      let l = c.in-Leased.ensures.leased c.in-Leased.lease refl in
      released_else c.lease.new.self c.in-Leased.lease false c.release.new.self c.release.ensures.released lease (ap (λ n. lease.worker == n) l.worker_is ∙ different)
      (leased_else c.args.graph.now 1 c.in-Leased.lease c.lease.new.self l lease different of);
}

pub returns-in-Over : goal.returns-in-Over
returns-in-Over c = record {
  others = λ lease different of. ended_else c.args.graph.now c.in-Over.field-0 c.lease.new.self (c.in-Over.ensures.ended c.in-Over.field-0 refl) lease of;
}

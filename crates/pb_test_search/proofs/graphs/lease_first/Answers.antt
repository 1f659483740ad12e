use Rattle.std.proofs.Common.{None, refl, ap, sym, subst, arith}
use Rattle.pb_machine.specs.Counts.{Counts}
use Rattle.pb_machine.specs.Machine.{opening_machine}
use Rattle.pb_estimate.specs.Choices.{Choice}
use Rattle.pb_expand.specs.Turned.{IsAtWork}
use Rattle.pb_lease.specs.GraphValue.{setup_in}
use Rattle.pb_lease.proofs.Callers.{setup_is}
use Rattle.pb_test_search.proofs.graphs.lease_first.Goals as goal

pub lease-requires-clause-worker : goal.lease-requires-clause-worker
lease-requires-clause-worker c = omega (arith, c.settings.ensures.range.workers.0)

pub lease-requires-clause-vacant : goal.lease-requires-clause-vacant
lease-requires-clause-vacant c = ap (λ (n : Counts). n.leases 0) c.requires.counts

pub lease-requires-clause-stays : goal.lease-requires-clause-stays
lease-requires-clause-stays c = ap (λ (n : Counts). n.signed_off 0) c.requires.counts

pub returns-in-Leased : goal.returns-in-Leased
returns-in-Leased c =
    let l = c.in-Leased.ensures.leased c.in-Leased.lease refl in
    let k = c.abstraction.ensures.lawful in
    let t = c.in-Leased.ensures.leased_moment c.in-Leased.lease refl (λ worker home state. None) (opening_machine (setup_in c.args.graph.now)) (c.requires.moment (λ worker home state. None)).at in
    record {
      leased = l;
      at_work = subst (λ (choice : Choice). IsAtWork c.lease.new.self.task c.lease.new.self.table.abstraction choice c.in-Leased.lease) (sym l.of_graph.choice) (record {
        settings = c.lease.new.self.table.settings;
        reopenings = c.lease.new.self.table.past.reopenings;
        machine = t.0;
        is_setup = setup_is c.lease.new.self k;
        in_range = k.legal.range;
        lawful = t.1.moment.lawful;
        leased = t.3.0.leased;
        known = t.0.known c.in-Leased.lease.worker;
        work = t.3.0.work;
        scope = l.of_graph.scope;
        choice_is = l.of_graph.choice;
      });
    }

use Rattle.std.proofs.Common.{refl, sym, ap, ◌∙◌, subst, inr}
use Rattle.pb_lease.specs.GraphValue.{GraphValue, counts_in}
use Rattle.pb_yard.proofs.Callers.{ended_end}
use Rattle.pb_workers.specs.Runs.{RunsOn}
use Rattle.pb_yard.specs.Marking.{no_turn}
use Rattle.pb_workers.specs.Turns.{HasTurn}
use Rattle.pb_workers.specs.Serving.{Serves}
use Rattle.pb_workers.proofs.Going.{same_then, same_searched}
use Rattle.pb_workers.proofs.Searching.{alone_vacant, alone_home, leased_same, leased_signed, leased_on, leased_runs, comes_nearer, ended_same, ended_leases, ended_signed, ended_runs, none_stands, leased_turn, ended_turn}
use Rattle.pb_workers.proofs.alone.search.Goals as goal

pub lease-requires-clause-vacant : goal.lease-requires-clause-vacant
lease-requires-clause-vacant g c = alone_vacant c.leases.graph c.leases.invariant.alone c.leases.invariant.home

pub hold-requires-clause-serves : goal.hold-requires-clause-serves
hold-requires-clause-serves g c _ _ =
    let same = leased_same c.leases.graph 0 c.in-Leased.lease c.lease.new.self (c.in-Leased.ensures.leased c.in-Leased.lease refl) in
    subst (Serves c.leases.worker) (sym (same_searched c.leases.graph c.lease.new.self same)) c.leases.invariant.serves

pub hold-requires-clause-holds : goal.hold-requires-clause-holds
hold-requires-clause-holds g c _ _ = (
  c.lease.new.self,
  c.in-Leased.lease,
  leased_on c.leases.graph 0 c.in-Leased.lease c.lease.new.self (c.in-Leased.ensures.leased c.in-Leased.lease refl) (c.in-Leased.ensures.leased_moment c.in-Leased.lease refl) c.leases.invariant.moment,
)

pub leases-smaller : goal.leases-smaller
leases-smaller g c =
    let l = c.in-Leased.ensures.leased c.in-Leased.lease refl in
    let b = c.hold.ensures.home c.lease.new.self c.in-Leased.lease (leased_on c.leases.graph 0 c.in-Leased.lease c.lease.new.self l (c.in-Leased.ensures.leased_moment c.in-Leased.lease refl) c.leases.invariant.moment) in
    comes_nearer c.leases.graph c.lease.new.self c.hold.new.lessor 0 c.in-Leased.lease l b.same b.nearer

pub leases-preserved : goal.leases-preserved
leases-preserved g c =
    let l = c.in-Leased.ensures.leased c.in-Leased.lease refl in
    let b = c.hold.ensures.home c.lease.new.self c.in-Leased.lease (leased_on c.leases.graph 0 c.in-Leased.lease c.lease.new.self l (c.in-Leased.ensures.leased_moment c.in-Leased.lease refl) c.leases.invariant.moment) in
    let same = same_then c.leases.graph c.lease.new.self c.hold.new.lessor (leased_same c.leases.graph 0 c.in-Leased.lease c.lease.new.self l) b.same in
    let alone = ap (λ s. s.workers) same.settings ∙ c.leases.invariant.alone in
    let home = alone_home c.hold.new.lessor alone (ap (counts_in c.hold.new.lessor).leases (sym l.worker_is) ∙ b.vacant) in
    let runs = leased_runs c.args.graph.now c.leases.graph c.lease.new.self c.hold.new.lessor 0 c.in-Leased.lease l (c.in-Leased.ensures.leased_moment c.in-Leased.lease refl) b.home c.leases.invariant.same home c.leases.invariant.runs in
    let last = runs c.requires.moment.0 c.requires.moment.1 c.requires.moment.2 in
    record {
      serves = c.hold.ensures.serves;
      alone = alone;
      moment = (c.requires.moment.0, last.0, last.1.moment);
      home = home;
      stays = (λ i. b.signed_off i 0) ∙ (λ i. leased_signed c.leases.graph 0 c.in-Leased.lease c.lease.new.self l i 0) ∙ c.leases.invariant.stays;
      same = same_then c.args.graph.now c.leases.graph c.hold.new.lessor c.leases.invariant.same same;
      runs = runs;
      turn = λ before. leased_turn c.leases.graph c.lease.new.self c.hold.new.lessor c.in-Leased.lease l b.turn (c.leases.invariant.turn before);
    }

pub returns-in-Over-clause-run : goal.returns-in-Over-clause-run
returns-in-Over-clause-run g c =
    ended_runs c.leases.graph c.in-Over.end c.lease.new.self (c.in-Over.ensures.ended c.in-Over.end refl) c.args.graph.now c.leases.invariant.same c.leases.invariant.runs (c.in-Over.ensures.ended_moment c.in-Over.end refl)

pub returns-in-Over-clause-turn : goal.returns-in-Over-clause-turn
returns-in-Over-clause-turn g c before = ended_turn c.leases.graph c.in-Over.end c.lease.new.self (c.in-Over.ensures.ended c.in-Over.end refl) (c.leases.invariant.turn before)

pub returns-in-Over-clause-same : goal.returns-in-Over-clause-same
returns-in-Over-clause-same g c =
    same_then c.args.graph.now c.leases.graph c.lease.new.self c.leases.invariant.same (ended_same c.leases.graph c.in-Over.end c.lease.new.self (c.in-Over.ensures.ended c.in-Over.end refl))

pub returns-in-Over-clause-home : goal.returns-in-Over-clause-home
returns-in-Over-clause-home g c =
    let e = c.in-Over.ensures.ended c.in-Over.end refl in
    alone_home c.lease.new.self (ap (λ s. s.workers) e.events.settings ∙ c.leases.invariant.alone)
    ((λ i. ended_leases c.leases.graph c.in-Over.end c.lease.new.self e i 0) ∙ alone_vacant c.leases.graph c.leases.invariant.alone c.leases.invariant.home)

pub returns-in-Over-clause-stays : goal.returns-in-Over-clause-stays
returns-in-Over-clause-stays g c =
    (λ i. ended_signed c.leases.graph c.in-Over.end c.lease.new.self (c.in-Over.ensures.ended c.in-Over.end refl) i 0) ∙ c.leases.invariant.stays

pub returns-in-Over-clause-end : goal.returns-in-Over-clause-end
returns-in-Over-clause-end g c =
    ended_end c.leases.graph c.lease.new.self c.in-Over.end ((c.in-Over.ensures.over c.in-Over.end).0 refl) (c.in-Over.ensures.ended c.in-Over.end refl)

pub returns-in-Memory-clause-run : goal.returns-in-Memory-clause-run
returns-in-Memory-clause-run g c = subst (λ (v : GraphValue). RunsOn c.args.graph.now v) (sym (c.in-Memory.ensures.same (inr refl))) c.leases.invariant.runs

pub returns-in-Memory-clause-turn : goal.returns-in-Memory-clause-turn
returns-in-Memory-clause-turn g c before = subst (λ (v : GraphValue). HasTurn v 0 no_turn) (sym (c.in-Memory.ensures.same (inr refl))) (c.leases.invariant.turn before)

pub returns-in-Memory-clause-end : goal.returns-in-Memory-clause-end
returns-in-Memory-clause-end g c =
    ap (λ (v : GraphValue). v.table.end) (c.in-Memory.ensures.same (inr refl))
    ∙ none_stands c.leases.graph (λ end over. let clash = (c.in-Memory.ensures.over end).1 over in cc clash)

use Rattle.std.proofs.Common.{◌≡◌, ◌-◌, ◌+◌, ◌<◌, ℕ, Bool, None, Option, List, refl, sym, ap, ◌∙◌, arith, subst, length, get_or, slice_set, not, ◌&&◌, false, length-set}
use Rattle.pb_model.proofs.Callers.{none_tested}
use Rattle.pb_machine.specs.declared.event.Event.TheVariants.{Release}
use Rattle.pb_machine.specs.declared.event.Grant.{Grant}
use Rattle.pb_machine.specs.Counts.{Counts, counts_after, quota_of, is_busy}
use Rattle.pb_machine.proofs.Callers.{counts_same, table_at}
use Rattle.pb_abstract.specs.Graph.{blocks_of, has}
use Rattle.pb_journal.specs.Replaying.{counts_of}
use Rattle.pb_journal.proofs.Releases.{released_hot}
use Rattle.pb_journal.proofs.replay.Replay.release.Goals as goal

pub returns-clause-counts : goal.returns-clause-counts
returns-clause-counts c =
    let blocks = blocks_of c.args.graph.now in
    let settings = c.args.settings.now in
    let old : Counts = counts_of c.args.self.now in
    let leases : List (Option Grant) = c.args.self.now.leases.items in
    let worker : ℕ = c.args.worker in
    let lawful = c.requires.lawful.lawful in
    let there : worker < length leases =
    omega (
      arith,
      (lawful.known worker c.args.grant c.requires.leased).0,
      c.requires.lawful.places.leases,
    ) in
    let hot : List Bool = c.cool_idle.new.hot.items in
    let cooled : (k : ℕ) → get_or hot k false
    ≡ (old.hot k
    && not (has c.interference.result.now k
    && not (is_busy blocks (length (slice_set leases worker None))
    (λ w. get_or (slice_set leases worker None) w None) k))) =
    subst (λ (xs : List (Option Grant)). (k : ℕ) → get_or hot k false
    ≡ (old.hot k
    && not (has c.interference.result.now k
    && not (is_busy blocks (length xs) (λ w. get_or xs w None) k)))) c.deref.ensures.value
    c.cool_idle.ensures.hot in
    counts_same _ (counts_after blocks settings old (Release worker c.args.used c.args.memory))
    (table_at leases worker None None there)
    (released_hot blocks settings old worker c.args.used c.args.memory c.args.grant
    c.interference.result.now leases hot lawful c.requires.leased c.interference.ensures.each
    refl there c.requires.lawful.places.leases cooled
    (length-set leases worker None ∙ c.requires.lawful.places.leases))
    (λ k. refl) refl
    (ap (λ (o : Option Grant). old.left + (quota_of o - c.args.used)) (sym c.requires.leased))
    refl (ap (λ r. c.args.memory && r)
    (none_tested c.is_none.result c.args.self.now.end c.is_none.ensures))

use Rattle.std.proofs.Common.{◌≡◌, ◌<◌, true, is_some, sym, ◌∙◌, refl, subst, [], ◌∷◌, true≢false}
use Rattle.pb_model.proofs.Callers.{by_cases}
use Rattle.pb_machine.specs.declared.event.Event.TheVariants.{Hot}
use Rattle.pb_lease.specs.Tables.{Table, blocks}
use Rattle.pb_lease.specs.GraphValue.{GraphValue, counts_in, IsLeaseGraph}
use Rattle.pb_lease.specs.Choices.{IsOutranked, MayMark}
use Rattle.pb_lease.specs.Steps.{KeepsLeases}
use Rattle.pb_lease.proofs.GraphKept.{event_kept}
use Rattle.pb_lease.proofs.Rivals.{hot_is_legal, marked_may, may_be_marked_is}
use Rattle.pb_lease.proofs.MomentNumbers.{marked_next}
use Rattle.pb_lease.specs.Free.{ShowsClear, IsBesideHot}
use Rattle.pb_lease.proofs.Free.{before_mark, fits_either, shows_more_keys, shows_walked, stays_clear}
use Rattle.pb_lease.specs.contracts.graph.LeaseGraph.{the_view}
use Rattle.pb_lease.proofs.graph.LeaseGraph.mark_hot.Goals as goal

pub invariant_of-self : goal.invariant_of-self
invariant_of-self c =
    let t : GraphValue = the_view c.self.inside in
    let leased = subst (λ (v : GraphValue). is_some ((counts_in v).leases c.args.worker) ≡ true) (sym c.self.view_is) c.requires.leased in
    let known = subst (λ (v : GraphValue). c.args.block < (blocks v.table).count) (sym c.self.view_is) c.requires.block in
    let walked = c.show_beside_hot.new.free in
    let kept : IsLeaseGraph (record { task = t.task; choice = t.choice; table = c.mark_hot-marked.new.self; homes = t.homes; incumbent = t.incumbent }) =
    by_cases c.mark_hot-marked.result
    (λ e. event_kept t c.self.invariant.lawful c.mark_hot-marked.new.self (Hot c.args.worker c.args.block) (c.mark_hot-marked.ensures.events e) (hot_is_legal t c.self.invariant.lawful c.args.worker c.args.block leased known c.is_outranked-outranked.result (sym c.mark_hot-marked.ensures.answer ∙ e)).0 refl)
    (λ e. subst (λ (table : Table). IsLeaseGraph (record { task = t.task; choice = t.choice; table = table; homes = t.homes; incumbent = t.incumbent })) (sym (c.mark_hot-marked.ensures.refused e)) c.self.invariant.lawful) in
    let shows : ShowsClear c.mark_hot-marked.new.self t.homes.keys walked =
    by_cases c.mark_hot-marked.result
    (λ e. shows_walked t.table c.mark_hot-marked.new.self (Hot c.args.worker c.args.block ∷ []) (c.mark_hot-marked.ensures.events e) (IsBesideHot t.table c.args.block) t.homes.keys c.self.inside.free walked c.self.invariant.shows c.show_beside_hot.ensures
    (λ block clear. before_mark (blocks t.table) t.table.settings (counts_in t) block c.args.worker c.args.block clear))
    (λ e. subst (λ (table : Table). ShowsClear table t.homes.keys walked) (sym (c.mark_hot-marked.ensures.refused e)) (shows_more_keys t.table (IsBesideHot t.table c.args.block) t.homes.keys c.self.inside.free walked c.self.invariant.shows c.show_beside_hot.ensures)) in
    record { lawful = kept; shows = stays_clear c.mark_hot-marked.new.self t.homes.keys walked c.prune.new.free shows c.prune.ensures; greatest_is = fits_either t.table c.mark_hot-marked.new.self (Hot c.args.worker c.args.block ∷ []) c.mark_hot-marked.result c.mark_hot-marked.ensures.events c.mark_hot-marked.ensures.refused c.self.inside.greatest c.self.invariant.greatest_is }

pub returns-clause-moment : goal.returns-clause-moment
returns-clause-moment c e =
    let t : GraphValue = the_view c.self.inside in
    let leased = subst (λ (v : GraphValue). is_some ((counts_in v).leases c.args.worker) ≡ true) (sym c.self.view_is) c.requires.leased in
    let known = subst (λ (v : GraphValue). c.args.block < (blocks v.table).count) (sym c.self.view_is) c.requires.block in
    let new : GraphValue = record { task = t.task; choice = t.choice; table = c.mark_hot-marked.new.self; homes = t.homes; incumbent = t.incumbent } in
    let may = hot_is_legal t c.self.invariant.lawful c.args.worker c.args.block leased known c.is_outranked-outranked.result (sym c.mark_hot-marked.ensures.answer ∙ e) in
    let none : IsOutranked t c.args.block → ⊥ = λ outranked. true≢false (sym (c.is_outranked-outranked.ensures.1 (subst (λ (v : GraphValue). IsOutranked v c.args.block) c.self.view_is outranked)) ∙ may.1) in
    subst (λ (v : GraphValue). KeepsLeases v (Hot c.args.worker c.args.block ∷ []) new) c.self.view_is
    (marked_next t c.self.invariant.lawful c.args.worker c.args.block new (c.mark_hot-marked.ensures.events e) refl may.0 none)

pub returns-clause-answer : goal.returns-clause-answer
returns-clause-answer c =
    let t : GraphValue = the_view c.self.inside in
    let outranked = c.is_outranked-outranked.result in (
      λ e. subst (λ (v : GraphValue). MayMark v c.args.worker c.args.block) c.self.view_is
          (marked_may t c.args.worker c.args.block outranked (λ better. c.is_outranked-outranked.ensures.1 (subst (λ (v : GraphValue). IsOutranked v c.args.block) c.self.view_is better)) (sym c.mark_hot-marked.ensures.answer ∙ e)),
      λ may. c.mark_hot-marked.ensures.answer
          ∙ may_be_marked_is t c.args.worker c.args.block outranked (λ e. subst (λ (v : GraphValue). IsOutranked v c.args.block) (sym c.self.view_is) (c.is_outranked-outranked.ensures.0 e))
          (subst (λ (v : GraphValue). MayMark v c.args.worker c.args.block) (sym c.self.view_is) may),
    )

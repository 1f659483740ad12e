use Rattle.std.proofs.Common.{◌≡◌, ◌<◌, ◌⊎◌, inl, inr, ℕ, Bool, List, true, is_some, ap, sym, ◌∙◌, refl, subst, [], ◌∷◌}
use Rattle.pb_model.proofs.Callers.{by_cases}
use Rattle.pb_machine.specs.declared.event.Event.TheVariants.{Cold}
use Rattle.pb_lease.specs.Tables.{Table, blocks}
use Rattle.pb_lease.specs.GraphValue.{GraphValue, counts_in, IsLeaseGraph}
use Rattle.pb_lease.specs.Steps.{KeepsLeases}
use Rattle.pb_lease.proofs.GraphKept.{event_kept}
use Rattle.pb_lease.proofs.Rivals.{cold_is_legal}
use Rattle.pb_lease.proofs.MomentNumbers.{cooled_next}
use Rattle.pb_machine.specs.Blocks.{interferes}
use Rattle.pb_abstract.specs.Graph.{AbstractGraph, blocks_of, has}
use Rattle.pb_lease.specs.Free.{ShowsClear, IsIn}
use Rattle.pb_lease.proofs.Free.{before_cooling, fits_either, shows_more_keys, shows_walked, stays_clear}
use Rattle.pb_lease.specs.contracts.graph.LeaseGraph.{the_view}
use Rattle.pb_lease.proofs.graph.LeaseGraph.cool.Goals as goal

pub invariant_of-self : goal.invariant_of-self
invariant_of-self c =
    let t : GraphValue = the_view c.self.inside in
    let leased = subst (λ (v : GraphValue). is_some ((counts_in v).leases c.args.worker) ≡ true) (sym c.self.view_is) c.requires.leased in
    let known = subst (λ (v : GraphValue). c.args.block < (blocks v.table).count) (sym c.self.view_is) c.requires.block in
    let walked = c.show_all.new.free in
    let kept : IsLeaseGraph (record { task = t.task; choice = t.choice; table = c.cool-cooled.new.self; homes = t.homes; incumbent = t.incumbent }) =
    by_cases c.cool-cooled.result
    (λ e. event_kept t c.self.invariant.lawful c.cool-cooled.new.self (Cold c.args.worker c.args.block) (c.cool-cooled.ensures.events e) (cold_is_legal t c.self.invariant.lawful c.args.worker c.args.block leased known (sym c.cool-cooled.ensures.answer ∙ e)) refl)
    (λ e. subst (λ (table : Table). IsLeaseGraph (record { task = t.task; choice = t.choice; table = table; homes = t.homes; incumbent = t.incumbent })) (sym (c.cool-cooled.ensures.refused e)) c.self.invariant.lawful) in
    let near = c.interference-near.result.now in
    let each : (b : ℕ) → has near b ≡ interferes (blocks t.table) c.args.block b = λ b. c.interference-near.ensures.each b ∙ ap (λ (g : AbstractGraph). interferes (blocks_of g) c.args.block b) c.abstraction.ensures in
    let shows : ShowsClear c.cool-cooled.new.self t.homes.keys walked =
    by_cases c.cool-cooled.result
    (λ e. shows_walked t.table c.cool-cooled.new.self (Cold c.args.worker c.args.block ∷ []) (c.cool-cooled.ensures.events e) (IsIn near) t.homes.keys c.self.inside.free walked c.self.invariant.shows c.show_all.ensures
    (λ block clear. listed near block (each block) (before_cooling (blocks t.table) t.table.settings (counts_in t) block c.args.worker c.args.block clear)))
    (λ e. subst (λ (table : Table). ShowsClear table t.homes.keys walked) (sym (c.cool-cooled.ensures.refused e)) (shows_more_keys t.table (IsIn near) t.homes.keys c.self.inside.free walked c.self.invariant.shows c.show_all.ensures)) in
    record {
      lawful = kept;
      shows = stays_clear c.cool-cooled.new.self t.homes.keys walked c.prune.new.free shows c.prune.ensures;
      greatest_is = fits_either t.table c.cool-cooled.new.self (Cold c.args.worker c.args.block ∷ []) c.cool-cooled.result c.cool-cooled.ensures.events c.cool-cooled.ensures.refused c.self.inside.greatest c.self.invariant.greatest_is;
    }
  where
    listed : (near : List ℕ) (block : ℕ) {Q : Type 0} {r : Bool} → has near block ≡ r → (r ≡ true) ⊎ Q → (has near block ≡ true) ⊎ Q
    listed near block is (inl e) = inl (is ∙ e)
    listed near block is (inr q) = inr q

pub returns-clause-moment : goal.returns-clause-moment
returns-clause-moment c e =
    let t : GraphValue = the_view c.self.inside in
    let leased = subst (λ (v : GraphValue). is_some ((counts_in v).leases c.args.worker) ≡ true) (sym c.self.view_is) c.requires.leased in
    let known = subst (λ (v : GraphValue). c.args.block < (blocks v.table).count) (sym c.self.view_is) c.requires.block in
    let new : GraphValue = record { task = t.task; choice = t.choice; table = c.cool-cooled.new.self; homes = t.homes; incumbent = t.incumbent } in
    subst (λ (v : GraphValue). KeepsLeases v (Cold c.args.worker c.args.block ∷ []) new) c.self.view_is
    (cooled_next t c.self.invariant.lawful c.args.worker c.args.block new (c.cool-cooled.ensures.events e) refl (cold_is_legal t c.self.invariant.lawful c.args.worker c.args.block leased known (sym c.cool-cooled.ensures.answer ∙ e)))

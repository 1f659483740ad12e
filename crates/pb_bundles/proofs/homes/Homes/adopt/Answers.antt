use Rattle.std.proofs.Common.{◌≡◌, List, Option, None, length, get_or, sym, ap, subst, ◌∙◌, arith}
use Rattle.pb_lists.specs.Bundle.{Content}
use Rattle.pb_bundles.specs.Parts.{rows_in}
use Rattle.pb_bundles.specs.Homes.{HomeTable, content_at}
use Rattle.pb_bundles.specs.Reopened.{ArePrepared, reopened_if}
use Rattle.pb_bundles.proofs.AllOpened.{adopted_at, adopted_length, rows_again}
use Rattle.pb_bundles.proofs.homes.Homes.adopt.Goals as goal

pub note_all-requires-clause-count : goal.note_all-requires-clause-count
note_all-requires-clause-count c =
    c.self.invariant.same_count ∙ sym (ap length c.adopt_all.ensures ∙ adopted_length c.self.inside.bundles.items c.args.sets.items) ∙ ap length (sym c.deref.ensures.value)

pub invariant_of-self : goal.invariant_of-self
invariant_of-self c =
    let same : length c.adopt_all.new.bundles.items ≡ length c.self.inside.bundles.items = ap length c.adopt_all.ensures ∙ adopted_length c.self.inside.bundles.items c.args.sets.items in
    record {
      same_count = c.note_all.ensures.count ∙ c.self.invariant.same_count ∙ sym same;
      few = let few = c.self.invariant.few in omega (arith, few, same);
      noted = λ block content is. c.note_all.ensures.noted block content (ap (λ (all : List (Option Content)). get_or all block None) c.deref.ensures.value ∙ is);
    }

pub returns-clause-reopened : goal.returns-clause-reopened
returns-clause-reopened c = λ weight bound prepared block.
    let inside : HomeTable = record { bundles = c.self.inside.bundles.items; keys = c.self.inside.keys } in
    let own : ArePrepared weight bound inside c.args.sets.items = subst (λ (t : HomeTable). ArePrepared weight bound t c.args.sets.items) (sym c.self.view_is) prepared in
    ap (λ (all : List (Option Content)). get_or all block None) c.adopt_all.ensures
    ∙ (adopted_at weight bound c.self.inside.bundles.items c.args.sets.items block own.ready own.count
    ∙ ap (λ (t : HomeTable). reopened_if weight bound (content_at t block)) c.self.view_is)

pub returns-clause-rows : goal.returns-clause-rows
returns-clause-rows c = λ weight bound prepared home state.
    let inside : HomeTable = record { bundles = c.self.inside.bundles.items; keys = c.self.inside.keys } in
    let own : ArePrepared weight bound inside c.args.sets.items = subst (λ (t : HomeTable). ArePrepared weight bound t c.args.sets.items) (sym c.self.view_is) prepared in
    let content = ap (λ (all : List (Option Content)). get_or all home None) c.adopt_all.ensures
    ∙ (adopted_at weight bound c.self.inside.bundles.items c.args.sets.items home own.ready own.count
    ∙ ap (λ (t : HomeTable). reopened_if weight bound (content_at t home)) c.self.view_is) in
    ap (λ (o : Option Content). rows_in o state) content ∙ rows_again weight bound (content_at c.args.self.now home) state

pub returns-clause-count : goal.returns-clause-count
returns-clause-count c =
    ap length c.adopt_all.ensures ∙ adopted_length c.self.inside.bundles.items c.args.sets.items ∙ ap (λ (t : HomeTable). length t.bundles) c.self.view_is

-- A graph that was opened again.
use Rattle.std.proofs.Common.{◌≡◌, ℕ, ◌<◌, true, false, not, is_some, List, [], Option, Some, None, refl, sym, ap, ◌∙◌, arith, subst, length}
use Rattle.std.proofs.lemmas.Option.{none-some, same_Some}
use Rattle.pb_model.specs.Weight.{Weight, IsWeight}
use Rattle.pb_model.specs.Work.{reopened_row}
use Rattle.pb_model.proofs.Callers.{some_found}
use Rattle.pb_machine.specs.declared.event.End.TheVariants.{Quiet}
use Rattle.pb_machine.specs.declared.event.Event.{Event}
use Rattle.pb_machine.specs.declared.settings.Settings.{Settings}
use Rattle.pb_machine.specs.Settings.{weight_of, settings_with, AreInRange}
use Rattle.pb_machine.specs.Counts.{Counts, opening_counts, is_any_out}
use Rattle.pb_machine.specs.History.{IsHistory, replay}
use Rattle.pb_machine.proofs.Callers.{any_false}
use Rattle.pb_abstract.specs.Graph.{AbstractGraph, IsGraphOf, blocks_of}
use Rattle.pb_lists.specs.Bundle.{Content}
use Rattle.pb_lists.specs.Reopened.{reopened}
use Rattle.pb_bundles.specs.Homes.{HomeTable, content_at, key_at, home_rows, AreNoted}
use Rattle.pb_bundles.specs.Reopened.{AreAllHome, reopened_if}
use Rattle.pb_bundles.specs.Stores.{HasKeys}
use Rattle.pb_bundles.proofs.Callers.{keys_at_home_are_best}
use Rattle.pb_lease.specs.declared.past.Past.{Past}
use Rattle.pb_lease.specs.Tables.{Table, blocks, counts_of, past_after}
use Rattle.pb_lease.specs.GraphValue.{GraphValue, IsLeaseGraph}
use Rattle.pb_lease.specs.Begins.{home_store, IsReopened}
use Rattle.pb_lease.specs.Choices.{is_out_in}
use Rattle.pb_lease.proofs.Away.{none_away}
use Rattle.pb_lease.proofs.GraphBasics.{lawful_in, all_home}
use Rattle.pb_lease.proofs.TableReopened.{range_with}

-- ---- bundles that are opened again

reopened_there : (weight : Weight) (bound : ℕ) (found : Option Content) → is_some (reopened_if weight bound found) ≡ is_some found
reopened_there weight bound None = refl
reopened_there weight bound (Some content) = refl

reopened_weight : (weight : Weight) (bound : ℕ) (found : Option Content) (content : Content) → reopened_if weight bound found ≡ Some content → content.weight ≡ weight
reopened_weight weight bound None content is = absurd (none-some content is)
reopened_weight weight bound (Some old) content is = ap (λ (x : Content). x.weight) (sym (same_Some (reopened weight bound old) content is))

module _ (old : GraphValue) (k : IsLeaseGraph old) (quiet : old.table.end ≡ Some Quiet) where
  -- no lease is out at a quiet end
  pub home : is_out_in old ≡ false
  home = (lawful_in old k).quiet quiet

  pub all_are_home : AreAllHome old.homes
  all_are_home block lt = all_home old k home block (omega (arith, lt, k.places))

  module _ (weight : Weight) (heavy : IsWeight weight) (bound : ℕ) (bound_is : old.incumbent ≡ Some bound) (table : Table) (settings : table.settings ≡ settings_with old.table.settings weight old.table.settings.pattern)
      (past : table.past ≡ past_after old.table) (counts : counts_of table ≡ opening_counts table.settings old.table.spent) (journal : table.journal ≡ []) (abstraction : table.abstraction ≡ old.table.abstraction)
      (homes : HomeTable) (bundles : (block : ℕ) → content_at homes block ≡ reopened_if weight bound (content_at old.homes block)) (rows : (block state : ℕ) → home_rows homes block state ≡ reopened_row weight (Some bound) (home_rows old.homes block state))
      (count : length homes.bundles ≡ length old.homes.bundles) (key_count : length homes.keys ≡ length old.homes.keys) (noted : AreNoted homes) where
    abbrev New : GraphValue
    New = record { task = old.task; choice = old.choice; table = table; homes = homes; incumbent = old.incumbent }

    block_count : (blocks table).count ≡ (blocks old.table).count
    block_count = ap (λ (g : AbstractGraph). (blocks_of g).count) abstraction

    none_out : is_any_out table.settings.workers (counts_of table).leases ≡ false
    none_out = ap (λ (c : Counts). is_any_out table.settings.workers c.leases) counts ∙ any_false table.settings.workers (λ worker. false) (λ worker. refl)

    range : AreInRange table.settings
    range = subst AreInRange (sym settings) (range_with old.table.settings weight k.legal.range heavy)

    legal : IsHistory (blocks table) table.settings table.past.spent table.journal (counts_of table)
    legal = record {
      range = range;
      enough = let sum = (lawful_in old k).sum in let spent : table.past.spent ≡ old.table.spent = ap (λ (p : Past). p.spent) past in let budget : table.settings.budget ≡ old.table.settings.budget = ap (λ (s : Settings). s.budget) settings in omega (arith, sum, spent, budget);
      replays = ap (λ (j : List Event). replay (blocks table) table.settings (opening_counts table.settings table.past.spent) j) journal
          ∙ ap (λ (p : Past). Some (opening_counts table.settings p.spent)) past ∙ ap (λ (n : Counts). Some n) (sym counts);
    }

    there : (block : ℕ) → block < (blocks table).count → is_some (content_at homes block) ≡ true
    there block lt = ap is_some (bundles block) ∙ reopened_there weight bound (content_at old.homes block) ∙ all_home old k home block (omega (arith, lt, block_count))

    weights : (block : ℕ) (content : Content) → content_at homes block ≡ Some content → content.weight ≡ weight_of table.settings
    weights block content is = reopened_weight weight bound (content_at old.homes block) content (sym (bundles block) ∙ is) ∙ ap weight_of (sym settings)

    places : length homes.bundles ≡ (blocks table).count
    places = count ∙ k.places ∙ sym block_count

    key_places : length homes.keys ≡ (blocks table).count
    key_places = key_count ∙ k.key_places ∙ sym block_count

    pub again_kept : IsLeaseGraph New
    again_kept = record {
      is_task = k.is_task;
      suits = k.suits;
      graph_of = subst (IsGraphOf old.task) (sym abstraction) k.graph_of;
      legal = legal;
      places = places;
      key_places = key_places;
      home = λ block lt. there block lt ∙ ap not (sym (none_away (blocks table) table.settings.workers (counts_of table).leases block none_out));
      weights = weights;
    }

    keys : HasKeys (home_store New) (key_at homes)
    keys = keys_at_home_are_best homes old.incumbent (weight_of table.settings) (key_places ∙ sym places) noted
        (λ block lt. let content = some_found (content_at homes block) (there block (omega (arith, lt, places))) in (content.0, content.1, weights block content.0 content.1))

    pub is_reopened : IsReopened old weight New
    is_reopened = record {
      task = refl;
      abstraction = abstraction;
      choice = refl;
      settings = settings;
      reopenings = ap (λ (p : Past). p.reopenings) past;
      spent = ap (λ (p : Past). p.spent) past;
      journal = journal;
      incumbent = refl;
      rows = λ block state. rows block state ∙ ap (λ o. reopened_row weight o (home_rows old.homes block state)) (sym bound_is);
      keys = keys;
    }

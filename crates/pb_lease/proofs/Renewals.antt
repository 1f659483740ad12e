-- A lease whose keys are noted goes on, or comes back.
use Rattle.std.proofs.Common.{◌≡◌, ℕ, ◌-◌, false, is_some, List, [], ◌∷◌, Option, Some, None, sym, ap, ◌∙◌, subst, get_or}
use Rattle.std.specs.Option.{option_or}
use Rattle.pb_model.specs.declared.key.Key.{Key}
use Rattle.pb_model.specs.Store.{lesser}
use Rattle.pb_model.proofs.Callers.{by_cases, none_found, some_found, best_keys_are_unique}
use Rattle.pb_machine.specs.declared.event.Event.TheVariants.{Renew}
use Rattle.pb_machine.specs.Tables.{with_entry}
use Rattle.pb_machine.specs.Choice.{counts_with_lease_home}
use Rattle.pb_lists.specs.Bundle.{Content, row_of}
use Rattle.pb_bundles.specs.Parts.{content_in}
use Rattle.pb_bundles.specs.Homes.{HomeTable, key_at}
use Rattle.pb_bundles.specs.Moves.{NotesKeys}
use Rattle.pb_bundles.specs.Choosing.{IsFirstBy}
use Rattle.pb_lease.specs.Tables.{blocks, rooms}
use Rattle.pb_lease.specs.Leasing.{can_be_leased}
use Rattle.pb_lease.specs.Events.{Adds}
use Rattle.pb_lease.specs.LeaseValue.{LeaseValue}
use Rattle.pb_lease.specs.GraphValue.{GraphValue, counts_in, IsOfGraph}
use Rattle.pb_lease.specs.Steps.{IsReleased, IsRenewed, GoesOn, renewed_quota}

-- where the keys of the same bundles are noted twice, the second time changes nothing
pub noted_twice : (parts : List (ℕ × Content)) (old mid new : List (Option Key)) → NotesKeys parts old mid → NotesKeys parts mid new → (block : ℕ) → get_or new block None ≡ get_or mid block None
noted_twice parts old mid new first second block = by_cases (is_some (content_in parts block))
    (λ e. let found = some_found (content_in parts block) e in
    best_keys_are_unique found.0.weight (row_of found.0) (get_or new block None) (get_or mid block None) (second.noted block found.0 found.1) (first.noted block found.0 found.1))
    (λ e. second.others block (none_found (content_in parts block) e))

pub notes_both : (parts : List (ℕ × Content)) (old mid new : List (Option Key)) → NotesKeys parts old mid → NotesKeys parts mid new → NotesKeys parts old new
notes_both parts old mid new first second = record {
  noted = second.noted;
  others = λ block none. second.others block none ∙ first.others block none;
  count = second.count ∙ first.count;
}

module _ (old : GraphValue) (lease : LeaseValue) (homes : HomeTable) (bundles : homes.bundles ≡ old.homes.bundles) (noted : NotesKeys lease.parts old.homes.keys homes.keys) where
  abbrev Noted : GraphValue
  Noted = record { task = old.task; choice = old.choice; table = old.table; homes = homes; incumbent = old.incumbent }

  -- ---- it goes on

  module _ (kept : LeaseValue) (new : GraphValue) (rest : new ≡ record Noted { table = new.table; incumbent = lesser old.incumbent lease.incumbent }) where
    homes_same : new.homes ≡ homes
    homes_same = ap (λ (g : GraphValue). g.homes) rest

    pub goes_on : GoesOn Noted lease Noted → GoesOn old lease new
    goes_on goes = (subst (λ (h : HomeTable). IsFirstBy (can_be_leased (blocks old.table) old.table.settings (counts_with_lease_home (counts_in old) lease.worker lease.used)) (key_at h) (Some lease.block)) (sym homes_same) goes.0, goes.1)

    pub is_renewed : kept ≡ record lease { quota = renewed_quota old lease; used = 0; incumbent = lesser old.incumbent lease.incumbent } → IsOfGraph new kept
        → Adds old.table new.table (Renew lease.worker lease.used (renewed_quota old lease) ∷ []) → rooms new.table ≡ with_entry (rooms old.table) lease.worker (rooms old.table lease.worker - 1) → IsRenewed old lease kept new
    is_renewed kept_is of adds room = record {
      kept_is = kept_is;
      of_graph = of;
      bundles = ap (λ (h : HomeTable). h.bundles) homes_same ∙ bundles;
      noted = subst (λ (h : HomeTable). NotesKeys lease.parts old.homes.keys h.keys) (sym homes_same) noted;
      events = adds;
      room = room;
      task = ap (λ (g : GraphValue). g.task) rest;
      choice = ap (λ (g : GraphValue). g.choice) rest;
      incumbent = ap (λ (g : GraphValue). g.incumbent) rest;
    }

  -- ---- it comes back

  module _ (new : GraphValue) (released : IsReleased Noted lease false new) where
    pub stays_out : (GoesOn Noted lease Noted → ⊥) → GoesOn old lease new → ⊥
    stays_out not_on goes = not_on (
      subst (λ (keys : ℕ → Option Key). IsFirstBy (can_be_leased (blocks old.table) old.table.settings (counts_with_lease_home (counts_in old) lease.worker lease.used)) keys (Some lease.block))
          (λ i block. noted_twice lease.parts old.homes.keys homes.keys new.homes.keys noted released.noted block i) goes.0,
      goes.1,
    )

    pub is_released : IsReleased old lease false new
    is_released = record {
      home = λ block. released.home block ∙ ap (λ (bs : List (Option Content)). option_or (content_in lease.parts block) (get_or bs block None)) bundles;
      noted = notes_both lease.parts old.homes.keys homes.keys new.homes.keys noted released.noted;
      events = released.events;
      room = released.room;
      task = released.task;
      choice = released.choice;
      incumbent = released.incumbent;
    }

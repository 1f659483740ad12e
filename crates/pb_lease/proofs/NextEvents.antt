-- Which events may come next from what the tables keep, and the history with them.
use Rattle.std.proofs.Common.{◌≡◌, ℕ, ◌<◌, ◌≤◌, min, Bool, true, false, not, ◌||◌, nat_lt, is_some, List, [], ◌∷◌, ◌++◌, Some, None, refl, sym, ap, ◌∙◌, arith, subst}
use Rattle.std.proofs.lemmas.Bool.Decides.{nat_tests}
use Rattle.pb_model.proofs.Callers.{and_true, not_true, below}
use Rattle.pb_model.specs.declared.row.Row.{Row}
use Rattle.pb_model.specs.declared.row.Estimate.TheVariants.{Dead}
use Rattle.pb_model.specs.declared.row.Status.TheVariants.{Opened}
use Rattle.pb_model.specs.Store.{Store, HasOpened}
use Rattle.pb_machine.specs.declared.event.Event.{Event}
use Rattle.pb_machine.specs.declared.event.Event.TheVariants.{Lease, Renew, Hot, Cold, Release, Off}
use Rattle.pb_machine.specs.declared.event.Grant.{Grant}
use Rattle.pb_machine.specs.declared.settings.Settings.{Settings}
use Rattle.pb_machine.specs.Blocks.{Blocks}
use Rattle.pb_machine.specs.Counts.{Counts, AreLawful, counts_after, is_busy}
use Rattle.pb_machine.specs.Legality.{refusal, is_stranger}
use Rattle.pb_machine.specs.Choice.{MayBeLeased, counts_with_lease_home}
use Rattle.pb_machine.specs.History.{IsHistory}
use Rattle.pb_machine.proofs.Callers.{none_end, histories_grow, chosen_leases_are_legal, chosen_renewals_are_legal, leases_are_of_workers, releases_are_legal, marks_are_legal, sign_offs_are_legal}
use Rattle.pb_lease.specs.Tables.{Table}
use Rattle.pb_lease.specs.Events.{Adds}
use Rattle.pb_lease.specs.Leasing.{can_be_leased}

-- a store in which each block has an Opened row
abbrev a_row : Row
a_row = record { g = 0; estimate = Dead; parent = None; action = 0; status = Opened }

abbrev a_store : Store
a_store = record { rows = λ home state. Some a_row; incumbent = None; weight = record { num = 1; den = 1 } }

a_row_is_opened : (block : ℕ) → HasOpened (a_store.rows block)
a_row_is_opened block = (0, a_row, refl, refl)

module _ (of : Blocks) (settings : Settings) where
  -- the blocks that can be leased, by the numbers, are those that may be where they have an Opened row
  pub may_be_leased : (counts : Counts) (store : Store) (block : ℕ) → block < of.count → HasOpened (store.rows block) → can_be_leased of settings counts block ≡ true → MayBeLeased of settings counts store block
  may_be_leased counts store block known opened test =
      let first = and_true _ _ test in
      let second = and_true _ _ first.0 in
      let third = and_true _ _ second.0 in
      record {
        known = known;
        opened = opened;
        free = not_true _ first.1;
        not_near_hot = not_true _ second.1;
        left = below 0 counts.left third.1;
        no_end = none_end counts.end third.0;
      }

  -- ---- events that may come, where no report waits

  pub lease_may : (counts : Counts) (worker block : ℕ) → block < of.count → worker < settings.workers → counts.signed_off worker ≡ false → counts.leases worker ≡ None → counts.trouble ≡ false → 1 ≤ settings.lot
      → can_be_leased of settings counts block ≡ true → refusal of settings counts (Lease worker block (min settings.lot counts.left)) ≡ None
  lease_may counts worker block known inside stays vacant report lot test =
      let there : nat_lt worker settings.workers ≡ true = grind (arith, nat_tests) in
      let stranger : is_stranger settings counts worker ≡ false = ap (λ r. not r || counts.signed_off worker) there ∙ stays in
      chosen_leases_are_legal of settings counts a_store worker block (may_be_leased counts a_store block known (a_row_is_opened block) test) stranger vacant report (omega arith)

  pub renewal_may : (counts : Counts) (worker used : ℕ) (grant : Grant) → AreLawful of settings counts → counts.leases worker ≡ Some grant → used ≤ grant.quota → counts.trouble ≡ false → 1 ≤ settings.lot
      → can_be_leased of settings (counts_with_lease_home counts worker used) grant.block ≡ true
      → refusal of settings counts (Renew worker used (min settings.lot (counts_with_lease_home counts worker used).left)) ≡ None
  renewal_may counts worker used grant lawful leased few report lot test =
      chosen_renewals_are_legal of settings counts a_store worker used grant
      (may_be_leased (counts_with_lease_home counts worker used) a_store grant.block (lawful.known worker grant leased).1 (a_row_is_opened grant.block) test)
      (leases_are_of_workers of settings counts worker grant lawful leased) leased few report (omega arith)

  pub release_may : (counts : Counts) (worker used : ℕ) (memory : Bool) (grant : Grant) → AreLawful of settings counts → counts.leases worker ≡ Some grant → used ≤ grant.quota → counts.trouble ≡ false
      → refusal of settings counts (Release worker used memory) ≡ None
  release_may counts worker used memory grant lawful leased few report =
      releases_are_legal of settings counts worker used memory grant (leases_are_of_workers of settings counts worker grant lawful leased) report leased few

  pub mark_may : (counts : Counts) (worker block : ℕ) (grant : Grant) → AreLawful of settings counts → counts.leases worker ≡ Some grant → counts.trouble ≡ false → counts.end ≡ None → block < of.count
      → settings.plain ≡ false → counts.hot block ≡ false → is_busy of settings.workers counts.leases block ≡ true → refusal of settings counts (Hot worker block) ≡ None
  mark_may counts worker block grant lawful leased report no_end known plain cold busy =
      (marks_are_legal of settings counts worker block grant (leases_are_of_workers of settings counts worker grant lawful leased) report leased no_end known).0 plain cold busy

  pub cold_may : (counts : Counts) (worker block : ℕ) (grant : Grant) → AreLawful of settings counts → counts.leases worker ≡ Some grant → counts.trouble ≡ false → counts.end ≡ None → block < of.count
      → counts.hot block ≡ true → refusal of settings counts (Cold worker block) ≡ None
  cold_may counts worker block grant lawful leased report no_end known hot =
      (marks_are_legal of settings counts worker block grant (leases_are_of_workers of settings counts worker grant lawful leased) report leased no_end known).1 hot

  pub sign_off_may : (counts : Counts) (worker : ℕ) (memory : Bool) → worker < settings.workers → counts.signed_off worker ≡ false → counts.leases worker ≡ None → counts.trouble ≡ false
      → (memory || is_some counts.end) ≡ true → refusal of settings counts (Off worker memory) ≡ None
  sign_off_may counts worker memory inside stays vacant report cause =
      let there : nat_lt worker settings.workers ≡ true = grind (arith, nat_tests) in
      let stranger : is_stranger settings counts worker ≡ false = ap (λ r. not r || counts.signed_off worker) there ∙ stays in
      sign_offs_are_legal of settings counts worker memory stranger report vacant cause

  -- ---- histories

  pub history_with : {before : ℕ} (journal after : List Event) (counts next : Counts) (event : Event) → IsHistory of settings before journal counts → refusal of settings counts event ≡ None
      → next ≡ counts_after of settings counts event → after ≡ journal ++ event ∷ [] → IsHistory of settings before after next
  history_with {before} journal after counts next event history may comes is =
      let grown = histories_grow of settings before journal event counts history may in
      subst (λ (j : List Event). IsHistory of settings before j next) (sym is) (subst (IsHistory of settings before (journal ++ event ∷ [])) (sym comes) grown)

-- the same from tables that are those
pub adds_as : (table old new : Table) (events : Table → List Event) → table ≡ old → Adds table new (events table) → Adds old new (events old)
adds_as table old new events is adds = subst (λ (v : Table). Adds v new (events v)) is adds

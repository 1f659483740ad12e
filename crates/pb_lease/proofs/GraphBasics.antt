-- What the parts of a graph are for the lease machine, and its choice of a block.
use Rattle.std.proofs.Common.{◌≡◌, ℕ, ◌<◌, ◌≤◌, true, false, not, nat_lt, is_some, is_none, Some, None, refl, sym, ap, ◌∙◌, arith, subst}
use Rattle.std.proofs.lemmas.Bool.{lt-ltb}
use Rattle.std.proofs.lemmas.List.{get_or_past}
use Rattle.pb_model.specs.Store.{Rows, HasOpened}
use Rattle.pb_model.proofs.Callers.{and_true, not_true, below, not_below, by_cases}
use Rattle.pb_task.specs.Parts.{greatest_cost}
use Rattle.pb_task.proofs.Callers.{tasks_are_proper}
use Rattle.pb_machine.specs.declared.settings.Settings.{Settings}
use Rattle.pb_machine.specs.Blocks.{Blocks}
use Rattle.pb_machine.specs.Counts.{Counts, AreLawful, is_any_out, is_taken, is_near_hot}
use Rattle.pb_machine.specs.Choice.{MayBeLeased, IsFirstChoice}
use Rattle.pb_machine.specs.Machine.{IsSetup, Machine}
use Rattle.pb_machine.proofs.Callers.{none_end, histories_are_lawful, all_is_home}
use Rattle.pb_abstract.proofs.Callers.{abstract_graphs_are_blocks}
use Rattle.pb_bundles.specs.Homes.{content_at, key_at, home_rows}
use Rattle.pb_bundles.proofs.Callers.{some_within, first_choices_are_by_key, opened_is_by_key}
use Rattle.pb_lease.specs.Tables.{blocks}
use Rattle.pb_lease.specs.Leasing.{can_be_leased}
use Rattle.pb_lease.specs.Leased.{guide_of}
use Rattle.pb_lease.specs.GraphValue.{GraphValue, setup_in, counts_in, IsLeaseGraph}
use Rattle.pb_lease.specs.Choices.{IsChoice, is_out_in}
use Rattle.pb_lease.specs.Moments.{IsMomentAt}
use Rattle.pb_lease.proofs.Away.{taken_home, none_away}
use Rattle.pb_lease.proofs.LeasingLaws.{all_hold, none_out_can_be_leased}

-- ---- the test by numbers, and its parts

module _ (of : Blocks) (settings : Settings) (counts : Counts) (block : ℕ) where
  pub passes_from : can_be_leased of settings counts block ≡ true
      → (is_taken of settings.workers counts.leases block ≡ false) × (is_near_hot of counts.hot block ≡ false) × (0 < counts.left) × (counts.end ≡ None)
  passes_from test =
      let first = and_true _ _ test in
      let second = and_true _ _ first.0 in
      let third = and_true _ _ second.0 in
      (not_true _ first.1, not_true _ second.1, below 0 counts.left third.1, none_end counts.end third.0)

  pub passes_to : is_taken of settings.workers counts.leases block ≡ false → is_near_hot of counts.hot block ≡ false → 0 < counts.left → counts.end ≡ None
      → can_be_leased of settings counts block ≡ true
  passes_to free cold left no_end =
      all_hold (is_none counts.end) (nat_lt 0 counts.left) (is_near_hot of counts.hot block) (is_taken of settings.workers counts.leases block) (ap is_none no_end) (lt-ltb 0 counts.left left) cold free

-- ---- a graph

module _ (g : GraphValue) (k : IsLeaseGraph g) where
  pub setup_is : IsSetup (setup_in g) greatest_cost
  setup_is = record {
    space = (tasks_are_proper g.task k.is_task).0;
    blocks = abstract_graphs_are_blocks g.task k.is_task g.table.abstraction k.graph_of (guide_of g.task g.table.abstraction g.choice) (λ state. refl);
    weight = k.legal.range.weight;
  }

  pub lawful_in : AreLawful (blocks g.table) g.table.settings (counts_in g)
  lawful_in = histories_are_lawful (blocks g.table) g.table.settings g.table.past.spent g.table.journal (counts_in g) k.legal

  pub no_key_above : (block : ℕ) → (blocks g.table).count ≤ block → key_at g.homes block ≡ None
  no_key_above block le = get_or_past g.homes.keys block None (omega (arith, le, k.key_places))

  pub key_known : (block : ℕ) → is_some (key_at g.homes block) ≡ true → block < (blocks g.table).count
  key_known block there = let lt = some_within g.homes.keys block there in omega (arith, lt, k.key_places)

  pub chosen_known : (block : ℕ) → IsChoice g (Some block) → block < (blocks g.table).count
  chosen_known block choice = key_known block choice.0.1

  -- with no lease out and no end, a block that has an Opened row may be leased unless the budget is used up
  pub used_up : g.table.end ≡ None → is_out_in g ≡ false → IsChoice g None → (block : ℕ) → is_some (key_at g.homes block) ≡ true → g.table.left ≡ 0
  used_up none home no_choice block there = by_cases (nat_lt 0 g.table.left)
      (λ e. absurd (no_choice block (none_out_can_be_leased (blocks g.table) g.table.settings (counts_in g) block lawful_in (key_known block there) home none (below 0 g.table.left e), there)))
      (λ e. let le = not_below 0 g.table.left e in omega (arith, le))

  pub known_block : (block other : ℕ) → (blocks g.table).scope block other ≡ true → other < (blocks g.table).count
  known_block block other inside = setup_is.blocks.known block other inside

  -- the scope of a block that can be leased is at home
  pub scope_home : (block other : ℕ) → can_be_leased (blocks g.table) g.table.settings (counts_in g) block ≡ true → (blocks g.table).scope block other ≡ true → is_some (content_at g.homes other) ≡ true
  scope_home block other test inside =
      let free = (passes_from (blocks g.table) g.table.settings (counts_in g) block test).0 in
      k.home other (known_block block other inside)
      ∙ ap not (taken_home (blocks g.table) g.table.settings.workers (counts_in g).leases block other (known_block block other) free inside)

  pub all_home : is_out_in g ≡ false → (block : ℕ) → block < (blocks g.table).count → is_some (content_at g.homes block) ≡ true
  all_home home block known = k.home block known ∙ ap not (none_away (blocks g.table) g.table.settings.workers (counts_in g).leases block home)

  -- ---- at a moment

  module _ (recorded : (worker : ℕ) → Rows) (machine : Machine) (m : IsMomentAt g recorded machine) where
    -- with no lease out the rows at home are those of the whole store
    pub all_rows : is_out_in g ≡ false → (block state : ℕ) → machine.store.rows block state ≡ home_rows g.homes block state
    all_rows home = (all_is_home (setup_in g) machine.counts machine.store (home_rows g.homes) recorded m.lawful.counts
        (ap (λ (c : Counts). is_any_out g.table.settings.workers c.leases) m.counts ∙ home)).0 m.whole

    pub has_opened : (block : ℕ) → is_some (key_at g.homes block) ≡ true → HasOpened (machine.store.rows block)
    has_opened block there = ((opened_is_by_key machine.store (key_at g.homes) m.keys).0 block).0 there

    by_key : ((block : ℕ) → (IsChoice g (Some block) → IsFirstChoice (blocks g.table) g.table.settings (counts_in g) machine.store block) × (IsFirstChoice (blocks g.table) g.table.settings (counts_in g) machine.store block → IsChoice g (Some block)))
        × ((IsChoice g None → (block : ℕ) → MayBeLeased (blocks g.table) g.table.settings (counts_in g) machine.store block → ⊥)
        × (((block : ℕ) → MayBeLeased (blocks g.table) g.table.settings (counts_in g) machine.store block → ⊥) → IsChoice g None))
    by_key = first_choices_are_by_key (blocks g.table) g.table.settings (counts_in g) machine.store (key_at g.homes) (can_be_leased (blocks g.table) g.table.settings (counts_in g)) m.keys no_key_above
        (λ block lt. (passes_from (blocks g.table) g.table.settings (counts_in g) block, λ p. passes_to (blocks g.table) g.table.settings (counts_in g) block p.0 p.1 p.2 p.3))

    pub choice_is : (block : ℕ) → IsChoice g (Some block) → IsFirstChoice (blocks g.table) g.table.settings machine.counts machine.store block
    choice_is block choice = subst (λ (c : Counts). IsFirstChoice (blocks g.table) g.table.settings c machine.store block) (sym m.counts) ((by_key.0 block).0 choice)

    pub none_is_free : IsChoice g None → (block : ℕ) → MayBeLeased (blocks g.table) g.table.settings machine.counts machine.store block → ⊥
    none_is_free none block may = by_key.1.0 none block (subst (λ (c : Counts). MayBeLeased (blocks g.table) g.table.settings c machine.store block) m.counts may)

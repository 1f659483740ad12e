-- Which blocks are away, as leases are given, renewed and released.
use Rattle.std.proofs.Common.{◌≡◌, ℕ, ◌<◌, Bool, true, false, ◌&&◌, ◌||◌, ◌==◌, is_some, Option, Some, None, refl, sym, ap, ◌∙◌, true≢false}
use Rattle.pb_model.proofs.Callers.{by_cases, equal, equal_self, not_both}
use Rattle.pb_machine.specs.declared.event.Grant.{Grant}
use Rattle.pb_machine.specs.Tables.{with_entry, any_below}
use Rattle.pb_machine.specs.Blocks.{Blocks, meets}
use Rattle.pb_machine.specs.Counts.{is_lease_of, is_taken, is_any_out, with_quota}
use Rattle.pb_machine.proofs.Callers.{any_same, any_some, any_at, entry_here, entry_else, leased_block}

-- whether the block is in a leased scope
abbrev pub away : Blocks → (workers : ℕ) → (ℕ → Option Grant) → (block : ℕ) → Bool
away of workers leases block = any_below workers (λ worker. is_lease_of (λ leased. of.scope leased block) (leases worker))

module _ (of : Blocks) (workers : ℕ) (leases : ℕ → Option Grant) where
  pub away_by : (block : ℕ) → away of workers leases block ≡ true → (worker : ℕ) × (worker < workers) × (grant : Grant) × (leases worker ≡ Some grant) × (of.scope grant.block block ≡ true)
  away_by block h =
      let w = any_some workers (λ k. is_lease_of (λ leased. of.scope leased block) (leases k)) h in
      let g = leased_block (λ leased. of.scope leased block) (leases w.0) w.2 in
      (w.0, w.1, g.0, g.1, g.2)

  pub away_at : (worker : ℕ) (grant : Grant) (block : ℕ) → worker < workers → leases worker ≡ Some grant → of.scope grant.block block ≡ true → away of workers leases block ≡ true
  away_at worker grant block lt is inside = any_at workers worker (λ k. is_lease_of (λ leased. of.scope leased block) (leases k)) lt (ap (is_lease_of (λ leased. of.scope leased block)) is ∙ inside)

  pub none_away : (block : ℕ) → is_any_out workers leases ≡ false → away of workers leases block ≡ false
  none_away block none = by_cases (away of workers leases block)
      (λ e. let w = away_by block e in not_both (is_any_out workers leases) (any_at workers w.0 (λ k. is_some (leases k)) w.1 (ap is_some w.3)) none)
      (λ e. e)

  -- where no leased scope meets the block's, its scope is at home
  pub taken_home : (block other : ℕ) → (of.scope block other ≡ true → other < of.count) → is_taken of workers leases block ≡ false → of.scope block other ≡ true → away of workers leases other ≡ false
  taken_home block other known free inside = by_cases (away of workers leases other)
      (λ e. let w = away_by other e in
      let met : meets of block w.2.block ≡ true = any_at of.count other (λ s. of.scope block s && of.scope w.2.block s) (known inside) (ap (λ r. r && of.scope w.2.block other) inside ∙ w.4) in
      not_both (is_taken of workers leases block) (any_at workers w.0 (λ k. is_lease_of (meets of block) (leases k)) w.1 (ap (is_lease_of (meets of block)) w.3 ∙ met)) free)
      (λ e. e)

  -- a lease takes its scope
  pub more_away : (worker : ℕ) (grant : Grant) (block : ℕ) → worker < workers → leases worker ≡ None
      → away of workers (with_entry leases worker (Some grant)) block ≡ (of.scope grant.block block || away of workers leases block)
  more_away worker grant block lt none = by_cases (of.scope grant.block block)
      (λ e. any_at workers worker (λ k. is_lease_of (λ leased. of.scope leased block) (with_entry leases worker (Some grant) k)) lt
      (ap (is_lease_of (λ leased. of.scope leased block)) (entry_here leases worker worker (Some grant) (equal_self worker)) ∙ e) ∙ sym (ap (λ r. r || away of workers leases block) e))
      (λ e. any_same workers (λ k. is_lease_of (λ leased. of.scope leased block) (with_entry leases worker (Some grant) k)) (λ k. is_lease_of (λ leased. of.scope leased block) (leases k))
      (λ k. by_cases (k == worker)
      (λ f. ap (is_lease_of (λ leased. of.scope leased block)) (entry_here leases worker k (Some grant) f) ∙ e ∙ sym (ap (is_lease_of (λ leased. of.scope leased block)) (ap leases (equal k worker f) ∙ none)))
      (λ f. ap (is_lease_of (λ leased. of.scope leased block)) (entry_else leases worker k (Some grant) f))) ∙ sym (ap (λ r. r || away of workers leases block) e))

  -- a renewal changes no scope
  pub same_away : (worker quota block : ℕ) → away of workers (with_entry leases worker (with_quota quota (leases worker))) block ≡ away of workers leases block
  same_away worker quota block = any_same workers (λ k. is_lease_of (λ leased. of.scope leased block) (with_entry leases worker (with_quota quota (leases worker)) k)) (λ k. is_lease_of (λ leased. of.scope leased block) (leases k))
      (λ k. by_cases (k == worker)
      (λ f. ap (is_lease_of (λ leased. of.scope leased block)) (entry_here leases worker k (with_quota quota (leases worker)) f) ∙ plain (leases worker) ∙ ap (λ w. is_lease_of (λ leased. of.scope leased block) (leases w)) (sym (equal k worker f)))
      (λ f. ap (is_lease_of (λ leased. of.scope leased block)) (entry_else leases worker k (with_quota quota (leases worker)) f)))
    where
      plain : (o : Option Grant) → is_lease_of (λ leased. of.scope leased block) (with_quota quota o) ≡ is_lease_of (λ leased. of.scope leased block) o
      plain None = refl
      plain (Some grant) = refl

  -- a release brings its scope home, where no other lease's meets it
  module _ (worker : ℕ) (grant : Grant) (leased : leases worker ≡ Some grant) where
    pub brought_home : (block : ℕ) → ((other : ℕ) (second : Grant) → leases other ≡ Some second → (worker == other) ≡ false → meets of grant.block second.block ≡ false)
        → (of.scope grant.block block ≡ true → block < of.count) → of.scope grant.block block ≡ true → away of workers (with_entry leases worker None) block ≡ false
    brought_home block apart known inside = by_cases (any_below workers (λ k. is_lease_of (λ l. of.scope l block) (with_entry leases worker None k))) there (λ e. e)
      where
        there : away of workers (with_entry leases worker None) block ≡ true → away of workers (with_entry leases worker None) block ≡ false
        there e =
            let w = any_some workers (λ k. is_lease_of (λ l. of.scope l block) (with_entry leases worker None k)) e in
            let g = leased_block (λ l. of.scope l block) (with_entry leases worker None w.0) w.2 in
            by_cases (w.0 == worker)
            (λ f. absurd (true≢false (sym (ap is_some (sym (entry_here leases worker w.0 None f) ∙ g.1)))))
            (λ f. let was = sym (entry_else leases worker w.0 None f) ∙ g.1 in
            let other : (worker == w.0) ≡ false = by_cases (worker == w.0) (λ s. absurd (true≢false (sym (ap (λ n. n == worker) (sym (equal worker w.0 s)) ∙ equal_self worker) ∙ f))) (λ s. s) in
            not_both (meets of grant.block g.0.block) (any_at of.count block (λ s. of.scope grant.block s && of.scope g.0.block s) (known inside) (ap (λ r. r && of.scope g.0.block block) inside ∙ g.2)) (apart w.0 g.0 was other))

    pub else_away : (block : ℕ) → of.scope grant.block block ≡ false → away of workers (with_entry leases worker None) block ≡ away of workers leases block
    else_away block out = any_same workers (λ k. is_lease_of (λ l. of.scope l block) (with_entry leases worker None k)) (λ k. is_lease_of (λ l. of.scope l block) (leases k))
        (λ k. by_cases (k == worker)
        (λ f. ap (is_lease_of (λ l. of.scope l block)) (entry_here leases worker k None f) ∙ sym (ap (is_lease_of (λ l. of.scope l block)) (ap leases (equal k worker f) ∙ leased) ∙ out))
        (λ f. ap (is_lease_of (λ l. of.scope l block)) (entry_else leases worker k None f)))

-- The choice with a lease home: the best of the clear blocks, the lease's own one, and those of its
-- interference.
use Rattle.std.proofs.Common.{◌≡◌, ℕ, ◌⊎◌, inl, inr, Bool, true, false, not, ◌&&◌, ◌||◌, ◌==◌, ◌+◌, ◌<◌, List, [], take, length, Option, Some, None, is_some, get_or, refl, sym, ap, ◌∙◌, subst, true≢false}
use Rattle.std.proofs.Math.Bool.{or-true, or-false, or_assoc}
use Rattle.pb_model.specs.declared.key.Key.{Key}
use Rattle.pb_model.proofs.Callers.{and_true, not_true, by_cases, equal, equal_self, equal_swap}
use Rattle.pb_machine.specs.Blocks.{meets, interferes}
use Rattle.pb_machine.specs.Counts.{Counts, is_lease_of, is_taken, is_near_hot}
use Rattle.pb_machine.specs.Choice.{ComesBefore, counts_with_lease_home}
use Rattle.pb_machine.proofs.Callers.{entry_else, entry_here}
use Rattle.pb_abstract.specs.Graph.{has}
use Rattle.pb_bundles.specs.Homes.{key_at}
use Rattle.pb_bundles.specs.Choosing.{IsBestOf, IsBetterBy, IsBetterOf, MayBeFirst, IsFirstBy}
use Rattle.pb_bundles.proofs.Callers.{best_more, best_same}
use Rattle.pb_lease.specs.Tables.{blocks}
use Rattle.pb_lease.specs.LeaseValue.{LeaseValue}
use Rattle.pb_lease.specs.Leased.{grant_of}
use Rattle.pb_lease.specs.GraphValue.{GraphValue, counts_in}
use Rattle.pb_lease.specs.Choices.{IsChoiceWithHome, IsBestWithHome, can_be_leased_home, is_clear_in}
use Rattle.pb_lease.proofs.Lists.{has_more}
use Rattle.pb_lease.proofs.Free.{clear_from, clear_to, taken_before, free_apart}

-- ---- one block more

-- what comes before a block with a key has one
comes_keyed : (key old : Option Key) (block other : ℕ) → is_some old ≡ true → ComesBefore key block old other → is_some key ≡ true
comes_keyed (Some key) old block other is ahead = refl
comes_keyed None (Some key) block other is ahead = absurd ahead
comes_keyed None None block other is ahead = absurd (true≢false (sym is))

widened : (l o t : Bool) → (l && t) ≡ true → ((l || o) && t) ≡ true
widened true o t it = it
widened false o t it = absurd (true≢false (sym it))

which : (l o t : Bool) → ((l || o) && t) ≡ true → ((l && t) ≡ true) ⊎ (o ≡ true)
which true o t it = inl it
which false o t it = inr (and_true o t it).0

module _ (L test : ℕ → Bool) (keys : ℕ → Option Key) (best : Option ℕ) (other : ℕ) (first : IsFirstBy (λ b. L b && test b) keys best) where
  abbrev Before : ℕ → Type 0
  Before = MayBeFirst (λ b. L b && test b) keys

  abbrev After : ℕ → Type 0
  After = MayBeFirst (λ b. (L b || (b == other)) && test b) keys

  with_one : (result : Option ℕ) → MayBeFirst test keys other → IsBetterOf keys best other result → IsBestOf After keys result
  with_one result may better = best_more Before After keys best other result (λ b p. (widened (L b) (b == other) (test b) p.0, p.1)) (λ b q. split b q (which (L b) (b == other) (test b) q.0))
      (ap (λ r. (L other || r) && test other) (equal_self other) ∙ ap (λ r. r && test other) (or-true (L other)) ∙ may.0, may.1) first better
    where
      split : (b : ℕ) → After b → ((L b && test b) ≡ true) ⊎ ((b == other) ≡ true) → Before b ⊎ (b ≡ other)
      split b q (inl it) = inl (it, q.1)
      split b q (inr e) = inr (equal b other e)

  without_one : (MayBeFirst test keys other → ⊥) → IsBestOf After keys best
  without_one not_so = best_same Before After keys best (λ b p. (widened (L b) (b == other) (test b) p.0, p.1)) (λ b q. back b q (which (L b) (b == other) (test b) q.0)) first
    where
      back : (b : ℕ) → After b → ((L b && test b) ≡ true) ⊎ ((b == other) ≡ true) → Before b
      back b q (inl it) = (it, q.1)
      back b q (inr e) = absurd (not_so (subst (MayBeFirst test keys) (equal b other e) ((and_true _ _ q.0).1, q.1)))

  -- it doesn't pass
  pub forbidden_one : test other ≡ false → IsBestOf After keys best
  forbidden_one fails = without_one (λ may. true≢false (sym may.0 ∙ fails))

  -- it has no Opened row, or isn't better
  pub worse_one : (improves : Bool) → (best ≡ None → improves ≡ is_some (keys other)) → ((b : ℕ) → best ≡ Some b → (improves ≡ true → IsBetterBy keys other b) × (IsBetterBy keys other b → improves ≡ true)) → improves ≡ false
      → IsBestOf After keys best
  worse_one improves alone better worse = by_cases (is_some (keys other))
      (λ f. by_cases (test other) (λ e. with_one best (e, f) (go best refl f)) forbidden_one)
      (λ f. without_one (λ may. true≢false (sym may.1 ∙ f)))
    where
      go : (o : Option ℕ) → best ≡ o → is_some (keys other) ≡ true → IsBetterOf keys o other o
      go None is f = absurd (true≢false (sym f ∙ sym (alone is) ∙ worse))
      go (Some b) is f = inr (refl, λ it. true≢false (sym ((better b is).1 it) ∙ worse))

  -- it passes, and is better
  pub better_one : (improves : Bool) → (best ≡ None → improves ≡ is_some (keys other)) → ((b : ℕ) → best ≡ Some b → (improves ≡ true → IsBetterBy keys other b) × (IsBetterBy keys other b → improves ≡ true)) → improves ≡ true
      → test other ≡ true → IsBestOf After keys (Some other)
  better_one improves alone better ahead pass = go best refl first
    where
      go : (o : Option ℕ) → best ≡ o → IsBestOf Before keys o → IsBestOf After keys (Some other)
      go None is none = with_one (Some other) (pass, sym (alone is) ∙ ahead) (subst (λ o. IsBetterOf keys o other (Some other)) (sym is) refl)
      go (Some b) is some = let comes = (better b is).0 ahead in
          with_one (Some other) (pass, comes_keyed (keys other) (keys b) other b some.0.1 comes) (subst (λ o. IsBetterOf keys o other (Some other)) (sym is) (inl (refl, comes)))

-- whether the block is clear, the lease's own one, or among these
abbrev pub is_listed : GraphValue → LeaseValue → List ℕ → (block : ℕ) → Bool
is_listed g lease near block = (is_clear_in g block || (block == lease.block)) || has near block

module _ (g : GraphValue) (lease : LeaseValue) where
  -- ---- clear blocks

  abbrev home : Counts
  home = counts_with_lease_home (counts_in g) lease.worker lease.used

  -- with the lease home, a clear block may be leased if another block may
  clear_alike : (block other : ℕ) → is_clear_in g block ≡ true → can_be_leased_home g lease other ≡ true → can_be_leased_home g lease block ≡ true
  clear_alike block other clear pass =
      let both = clear_from (blocks g.table) g.table.settings.workers (counts_in g) block clear in
      let opened = (and_true _ _ (and_true _ _ pass).0).0 in
      let free : is_taken (blocks g.table) g.table.settings.workers home.leases block ≡ false =
      taken_before (blocks g.table) g.table.settings.workers home.leases (counts_in g).leases block (λ w it. by_cases (w == lease.worker)
      (λ e. absurd (true≢false (sym it ∙ ap (is_lease_of (meets (blocks g.table) block)) (entry_here (counts_in g).leases lease.worker w None e))))
      (λ e. sym (ap (is_lease_of (meets (blocks g.table) block)) (entry_else (counts_in g).leases lease.worker w None e)) ∙ it)) both.1 in
      ap (λ r. r && not (is_near_hot (blocks g.table) (counts_in g).hot block) && not (is_taken (blocks g.table) g.table.settings.workers home.leases block)) opened
      ∙ ap (λ r. not r && not (is_taken (blocks g.table) g.table.settings.workers home.leases block)) both.0
      ∙ ap not free

  pub none_clear : IsFirstBy (is_clear_in g) (key_at g.homes) None → IsBestWithHome g lease (is_clear_in g) None
  none_clear none block may = none block ((and_true _ _ may.0).0, may.1)

  pub clear_passes : (best : ℕ) → IsFirstBy (is_clear_in g) (key_at g.homes) (Some best) → can_be_leased_home g lease best ≡ true → IsBestWithHome g lease (is_clear_in g) (Some best)
  clear_passes best first pass = ((ap (λ r. r && can_be_leased_home g lease best) first.0.0 ∙ pass, first.0.1), λ block may. first.1 block ((and_true _ _ may.0).0, may.1))

  pub clear_fails : (best : ℕ) → IsFirstBy (is_clear_in g) (key_at g.homes) (Some best) → can_be_leased_home g lease best ≡ false → IsBestWithHome g lease (is_clear_in g) None
  clear_fails best first fails block may = true≢false (sym (clear_alike best block first.0.0 (and_true _ _ may.0).1) ∙ fails)

  -- ---- the blocks that are looked at

  listed_same : (L M : ℕ → Bool) (result : Option ℕ) → ((block : ℕ) → L block ≡ M block) → IsBestWithHome g lease L result → IsBestWithHome g lease M result
  listed_same L M result same = subst (λ (listed : ℕ → Bool). IsBestWithHome g lease listed result) (λ i block. same block i)

  pub listed_first : (result : Option ℕ) → IsBestWithHome g lease (λ b. is_clear_in g b || (b == lease.block)) result → IsBestWithHome g lease (is_listed g lease []) result
  listed_first result = listed_same (λ b. is_clear_in g b || (b == lease.block)) (is_listed g lease []) result (λ b. sym (or-false (is_clear_in g b || (b == lease.block))))

  pub listed_more : (near : List ℕ) (i : ℕ) (result : Option ℕ) → i < length near → IsBestWithHome g lease (λ b. is_listed g lease (take i near) b || (b == get_or near i 0)) result → IsBestWithHome g lease (is_listed g lease (take (i + 1) near)) result
  listed_more near i result lt = listed_same (λ b. is_listed g lease (take i near) b || (b == get_or near i 0)) (is_listed g lease (take (i + 1) near)) result (λ b.
      or_assoc (is_clear_in g b || (b == lease.block)) (has (take i near) b) (b == get_or near i 0)
      ∙ ap (λ r. (is_clear_in g b || (b == lease.block)) || (has (take i near) b || r)) (equal_swap b (get_or near i 0))
      ∙ ap (λ r. (is_clear_in g b || (b == lease.block)) || r) (sym (has_more near i b lt)))

module _ (g : GraphValue) (lease : LeaseValue) (leased : (counts_in g).leases lease.worker ≡ Some (grant_of lease)) where
  -- another block that may be leased with the lease home, and doesn't interfere with its own, is clear
  apart_clear : (block : ℕ) → can_be_leased_home g lease block ≡ true → (block == lease.block) ≡ false → interferes (blocks g.table) lease.block block ≡ false → is_clear_in g block ≡ true
  apart_clear block pass other apart =
      let first = and_true _ _ pass in
      let second = and_true _ _ first.0 in
      clear_to (blocks g.table) g.table.settings.workers (counts_in g) block (not_true _ second.1)
      (free_apart (blocks g.table) g.table.settings (counts_in g) block lease.worker (grant_of lease) leased other apart (not_true _ first.1))

  -- so no other block is the first choice
  pub first_listed : (near : List ℕ) (result : Option ℕ) → ((c : ℕ) → has near c ≡ interferes (blocks g.table) lease.block c) → IsBestWithHome g lease (is_listed g lease near) result → IsChoiceWithHome g lease g result
  first_listed near result each = best_same (MayBeFirst (λ b. is_listed g lease near b && can_be_leased_home g lease b) (key_at g.homes)) (MayBeFirst (can_be_leased_home g lease) (key_at g.homes)) (key_at g.homes) result
      (λ b p. ((and_true _ _ p.0).1, p.1)) (λ b may. (ap (λ r. r && can_be_leased_home g lease b) (listed b may.0) ∙ may.0, may.1))
    where
      listed : (b : ℕ) → can_be_leased_home g lease b ≡ true → is_listed g lease near b ≡ true
      listed b pass = by_cases (b == lease.block) (λ e. ap (λ r. (is_clear_in g b || r) || has near b) e ∙ ap (λ r. r || has near b) (or-true (is_clear_in g b)))
          (λ other. by_cases (interferes (blocks g.table) lease.block b)
          (λ e. ap (λ r. (is_clear_in g b || (b == lease.block)) || r) (each b ∙ e) ∙ or-true (is_clear_in g b || (b == lease.block)))
          (λ apart. ap (λ r. (r || (b == lease.block)) || has near b) (apart_clear b pass other apart)))

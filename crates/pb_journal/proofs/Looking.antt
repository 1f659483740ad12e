-- Searches among leases and blocks.
use Rattle.std.proofs.Common.{◌≡◌, ℕ, suc, ◌+◌, ◌<◌, Bool, true, false, not, ◌&&◌, ◌||◌, ◌==◌, List, length, get_or, Option, Some, None, refl, sym, ap, ◌∙◌, arith}
use Rattle.std.specs.List.{list_any, All}
use Rattle.std.proofs.lemmas.List.Elements.{All-get_or}
use Rattle.pb_model.proofs.Callers.{by_cases, equal, equal_swap}
use Rattle.pb_machine.specs.declared.event.Grant.{Grant}
use Rattle.pb_machine.specs.Tables.{any_below}
use Rattle.pb_machine.specs.Blocks.{Blocks, meets, interferes}
use Rattle.pb_machine.specs.Counts.{is_lease_of, is_busy, is_taken, is_near_hot}
use Rattle.pb_machine.proofs.Callers.{item_is, any_at, any_same}
use Rattle.pb_abstract.specs.Graph.{AbstractGraph, blocks_of, has, IsGraph}
use Rattle.pb_abstract.proofs.Callers.{any_of, has_contains}

-- one number more below which none passes
pub none_more : (n : ℕ) (test : ℕ → Bool) → any_below n test ≡ false → test n ≡ false
    → any_below (n + 1) test ≡ false
none_more n test before here = let one : n + 1 ≡ suc n =
    omega arith in ap (λ k. any_below k test) one ∙ ap (λ r. r || any_below n test) here ∙ before

module _ (blocks : Blocks) (block workers : ℕ) (leases : ℕ → Option Grant) (near : List ℕ)
    (each : (c : ℕ) → has near c ≡ interferes blocks block c) where
  near_is : ◌≡◌ {A = ℕ → Bool} (has near) (interferes blocks block)
  near_is = λ i c. each c i

  pub busy_is : any_below workers (λ worker. is_lease_of (has near) (leases worker))
      ≡ is_busy blocks workers leases block
  busy_is =
      ap (λ (f : ℕ → Bool). any_below workers (λ worker. is_lease_of f (leases worker))) near_is

  -- a lease of the block, or of one that interferes
  abbrev pub is_at_or_near : Option Grant → Bool
  is_at_or_near lease = is_lease_of (λ other. other == block) lease || is_lease_of (has near) lease

  meets_lease : ((c : ℕ) → meets blocks block c ≡ ((c == block) || has near c))
      → (lease : Option Grant) → is_at_or_near lease ≡ is_lease_of (meets blocks block) lease
  meets_lease h None = refl
  meets_lease h (Some grant) = sym (h grant.block)

  meets_near : meets blocks block block ≡ true → (c : ℕ) → meets blocks block c
      ≡ ((c == block) || has near c)
  meets_near own c = by_cases (c == block)
      (λ e. ap (meets blocks block) (equal c block e) ∙ own ∙ sym (ap (λ r. r || has near c) e))
      (λ e. sym
      (ap (λ r. r || has near c) e ∙ each c
      ∙ ap (λ r. not r && meets blocks block c) (equal_swap block c ∙ e)))

  pub taken_is : meets blocks block block ≡ true
      → any_below workers (λ worker. is_at_or_near (leases worker))
      ≡ is_taken blocks workers leases block
  taken_is own =
      any_same workers (λ worker. is_at_or_near (leases worker))
      (λ worker. is_lease_of (meets blocks block) (leases worker))
      (λ worker. meets_lease (meets_near own) (leases worker))

-- each block meets itself
pub meets_self : (graph : AbstractGraph) (block : ℕ) → IsGraph graph
    → block < (blocks_of graph).count → meets (blocks_of graph) block block ≡ true
meets_self graph block is lt =
    any_at (blocks_of graph).count block
    (λ shared. (blocks_of graph).scope block shared && (blocks_of graph).scope block shared) lt
    (ap (λ r. r && (blocks_of graph).scope block block) (is.own block lt) ∙ is.own block lt)

-- a list of the blocks near one has a hot one exactly where one of these is hot
pub hot_is : (blocks : Blocks) (block : ℕ) (hot : ℕ → Bool) (near : List ℕ)
    → ((c : ℕ) → has near c ≡ interferes blocks block c)
    → ((c : ℕ) → has near c ≡ true → c < blocks.count)
    → list_any hot near ≡ is_near_hot blocks hot block
hot_is blocks block hot near each small =
    any_of blocks.count hot near small
    ∙ any_same blocks.count (λ other. has near other && hot other)
    (λ other. interferes blocks block other && hot other)
    (λ other. ap (λ r. r && hot other) (each other))

pub has_small : (xs : List ℕ) (n : ℕ) → All (λ x. x < n) xs → (c : ℕ) → has xs c ≡ true → c < n
has_small xs n all c h =
    let at = has_contains xs c h in
    let here : get_or xs at.0 0 < n = All-get_or (λ x. x < n) xs at.0 0 at.1 all in
    omega (arith, here, contains_is xs at.0 c at.1 at.2)
  where
    contains_is : (xs : List ℕ) (k c : ℕ) → k < length xs → get_or xs k c ≡ c → get_or xs k 0 ≡ c
    contains_is xs k c lt is = sym (item_is xs k c 0 lt (sym is))

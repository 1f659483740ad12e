-- The keys by which a graph chooses, from event to event: which blocks become clear, and that these
-- have their noted keys.
use Rattle.std.proofs.Common.{◌≡◌, ℕ, cond, ◌<◌, ◌⊎◌, inl, inr, Bool, true, false, not, ◌&&◌, ◌||◌, ◌==◌, List, [], ◌∷◌, Option, Some, None, is_some, is_none, length, get_or, nat_lt, refl, sym, ap, ◌∙◌, subst, arith, true≢false}
use Rattle.pb_model.specs.declared.key.Key.{Key}
use Rattle.pb_model.proofs.Callers.{and_true, not_true, by_cases, equal, equal_self, below, not_below}
use Rattle.pb_machine.specs.declared.event.End.{End}
use Rattle.pb_machine.specs.declared.event.End.TheVariants.{Memory}
use Rattle.pb_machine.specs.declared.event.Event.{Event}
use Rattle.pb_machine.specs.declared.event.Event.TheVariants.{Lease, Renew, Hot, Cold, Release, Ended}
use Rattle.pb_machine.specs.declared.event.Grant.{Grant}
use Rattle.pb_machine.specs.declared.settings.Settings.{Settings}
use Rattle.pb_machine.specs.Blocks.{Blocks, meets, interferes}
use Rattle.pb_machine.specs.Choice.{ComesBefore}
use Rattle.pb_machine.specs.Counts.{Counts, AreLawful, counts_after, is_lease_of, is_taken, is_near_hot, with_quota}
use Rattle.pb_machine.proofs.Callers.{any_at, any_none, any_some, entry_else, entry_here, interference_is_mutual, releases_cool_near}
use Rattle.pb_abstract.specs.Graph.{AbstractGraph, blocks_of, has}
use Rattle.pb_bundles.specs.Choosing.{IsFirstBy, IsBetterBy}
use Rattle.pb_bundles.proofs.Callers.{past}
use Rattle.pb_machine.specs.Tables.{with_entry}
use Rattle.pb_lease.specs.Tables.{Table, blocks, counts_of}
use Rattle.pb_lists.specs.Bundle.{Content}
use Rattle.pb_bundles.specs.Homes.{HomeTable}
use Rattle.pb_bundles.specs.Parts.{content_in}
use Rattle.pb_bundles.specs.Moves.{NotesKeys}
use Rattle.pb_lease.specs.Events.{Adds, counts_along, ending}
use Rattle.pb_lease.specs.LeaseValue.{LeaseValue}
use Rattle.pb_lease.specs.Leased.{grant_of, FitsScopes}
use Rattle.pb_lease.specs.GraphValue.{GraphValue, counts_in, IsLeaseGraph, IsOfGraph}
use Rattle.pb_lease.proofs.GraphBasics.{setup_is, lawful_in}
use Rattle.pb_lease.specs.Leasing.{can_be_leased, is_clear}
use Rattle.pb_lease.specs.Free.{ShowsClear, Shows, KeepsClear, IsBesideHot, IsClearIn}

-- ---- keys that are shown

pub shows_none : (listed : ℕ → Type 0) (keys free : List (Option Key)) → ((block : ℕ) → listed block → ⊥) → Shows listed keys free free
shows_none listed keys free none = record { here = λ block it. absurd (none block it); others = λ block. inr refl; count = refl }

pub shows_more : (L M N : ℕ → Type 0) (keys old mid new : List (Option Key)) → Shows L keys old mid → Shows M keys mid new → ((block : ℕ) → N block → L block ⊎ M block) → Shows N keys old new
shows_more L M N keys old mid new first second split = record {
  here = λ block it. listed block (split block it);
  others = λ block. either block (second.others block);
  count = second.count ∙ first.count;
}
  where
    stays : (block : ℕ) → (get_or new block None ≡ get_or keys block None) ⊎ (get_or new block None ≡ get_or mid block None) → get_or mid block None ≡ get_or keys block None → get_or new block None ≡ get_or keys block None
    stays block (inl e) was = e
    stays block (inr e) was = e ∙ was

    listed : (block : ℕ) → L block ⊎ M block → get_or new block None ≡ get_or keys block None
    listed block (inl l) = stays block (second.others block) (first.here block l)
    listed block (inr m) = second.here block m

    next : (block : ℕ) → get_or new block None ≡ get_or mid block None → (get_or mid block None ≡ get_or keys block None) ⊎ (get_or mid block None ≡ get_or old block None) → (get_or new block None ≡ get_or keys block None) ⊎ (get_or new block None ≡ get_or old block None)
    next block e (inl f) = inl (e ∙ f)
    next block e (inr f) = inr (e ∙ f)

    either : (block : ℕ) → (get_or new block None ≡ get_or keys block None) ⊎ (get_or new block None ≡ get_or mid block None) → (get_or new block None ≡ get_or keys block None) ⊎ (get_or new block None ≡ get_or old block None)
    either block (inl e) = inl e
    either block (inr e) = next block e (first.others block)

pub shows_fewer : (L N : ℕ → Type 0) (keys old new : List (Option Key)) → Shows L keys old new → ((block : ℕ) → N block → L block) → Shows N keys old new
shows_fewer L N keys old new shows part = record { here = λ block it. shows.here block (part block it); others = shows.others; count = shows.count }

-- ---- clear blocks

abbrev pub clear_in : Table → (block : ℕ) → Bool
clear_in table block = is_clear (blocks table) table.settings.workers (counts_of table) block

pub stays_clear : (table : Table) (keys old new : List (Option Key)) → ShowsClear table keys old → KeepsClear table old new → ShowsClear table keys new
stays_clear table keys old new shows keeps = record { places = keeps.count ∙ shows.places; shown = λ block lt clear. keeps.kept block lt clear ∙ shows.shown block lt clear }

-- An event, between two walks that show keys. Each block that is clear after it was shown by the second walk, or has the same noted key as before, and was clear or shown by the first walk.
pub shows_next : (old new : Table) (L M : ℕ → Type 0) (keys noted before mid after : List (Option Key)) → ShowsClear old keys before → Shows L keys before mid → Shows M noted mid after → (blocks new).count ≡ (blocks old).count
    → ((block : ℕ) → block < (blocks old).count → clear_in new block ≡ true → M block ⊎ ((L block ⊎ (clear_in old block ≡ true)) × (get_or noted block None ≡ get_or keys block None)))
    → ShowsClear new noted after
shows_next old new L M keys noted before mid after shows first second same each = record {
  places = second.count ∙ first.count ∙ shows.places ∙ sym same;
  shown = λ block lt clear. let there : block < (blocks old).count = omega (arith, lt, same) in go block there (each block there clear);
}
  where
    was : (block : ℕ) → block < (blocks old).count → L block ⊎ (clear_in old block ≡ true) → get_or mid block None ≡ get_or keys block None
    was block lt (inl l) = first.here block l
    was block lt (inr clear) = stays (first.others block)
      where
        stays : (get_or mid block None ≡ get_or keys block None) ⊎ (get_or mid block None ≡ get_or before block None) → get_or mid block None ≡ get_or keys block None
        stays (inl e) = e
        stays (inr e) = e ∙ shows.shown block lt clear

    go : (block : ℕ) → block < (blocks old).count → M block ⊎ ((L block ⊎ (clear_in old block ≡ true)) × (get_or noted block None ≡ get_or keys block None)) → get_or after block None ≡ get_or noted block None
    go block lt (inl m) = second.here block m
    go block lt (inr both) = stays (second.others block)
      where
        stays : (get_or after block None ≡ get_or noted block None) ⊎ (get_or after block None ≡ get_or mid block None) → get_or after block None ≡ get_or noted block None
        stays (inl e) = e
        stays (inr e) = e ∙ was block lt both.0 ∙ sym both.1

-- the same with no walk
pub shows_on : (old new : Table) (keys noted free : List (Option Key)) → ShowsClear old keys free → (blocks new).count ≡ (blocks old).count
    → ((block : ℕ) → block < (blocks old).count → clear_in new block ≡ true → (clear_in old block ≡ true) × (get_or noted block None ≡ get_or keys block None))
    → ShowsClear new noted free
shows_on old new keys noted free shows same each = record {
  places = shows.places ∙ sym same;
  shown = λ block lt clear. let there : block < (blocks old).count = omega (arith, lt, same) in let both = each block there clear in shows.shown block there both.0 ∙ sym both.1;
}

-- the room for the greatest scope, after these events
pub fits_on : (old new : Table) (events : List Event) → Adds old new events → (greatest : ℕ) → FitsScopes old.abstraction greatest → FitsScopes new.abstraction greatest
fits_on old new events adds greatest = subst (λ (g : AbstractGraph). FitsScopes g greatest) (sym adds.abstraction)

-- and after them or nothing
pub fits_either : (old new : Table) (events : List Event) (answer : Bool) → (answer ≡ true → Adds old new events) → (answer ≡ false → new ≡ old) → (greatest : ℕ) → FitsScopes old.abstraction greatest → FitsScopes new.abstraction greatest
fits_either old new events answer adds same greatest fits = by_cases answer
    (λ e. fits_on old new events (adds e) greatest fits)
    (λ e. subst (λ (table : Table). FitsScopes table.abstraction greatest) (sym (same e)) fits)

-- ---- the choice

pub first_by_shown : (test : ℕ → Bool) (free keys : ℕ → Option Key) (result : Option ℕ) → ((block : ℕ) → test block ≡ true → free block ≡ keys block) → IsFirstBy test free result → IsFirstBy test keys result
first_by_shown test free keys None same none = λ block may. none block (may.0, ap is_some (same block may.0) ∙ may.1)
first_by_shown test free keys (Some best) same first = ((first.0.0, sym (ap is_some (same best first.0.0)) ∙ first.0.1), λ block may. go block may.0 (first.1 block (may.0, ap is_some (same block may.0) ∙ may.1)))
  where
    go : (block : ℕ) → test block ≡ true → (block ≡ best) ⊎ IsBetterBy free best block → (block ≡ best) ⊎ IsBetterBy keys best block
    go block pass (inl e) = inl e
    go block pass (inr better) = inr (subst (λ k. ComesBefore (keys best) best k block) (same block pass) (subst (λ k. ComesBefore k best (free block) block) (same best first.0.0) better))

-- a block that may be leased is clear
pub leasable_clear : (of : Blocks) (settings : Settings) (counts : Counts) (block : ℕ) → can_be_leased of settings counts block ≡ true → is_clear of settings.workers counts block ≡ true
leasable_clear of settings counts block test =
    let first = and_true _ _ test in
    let second = and_true _ _ first.0 in
    ap (λ r. r && not (is_taken of settings.workers counts.leases block)) second.1 ∙ first.1

-- its key is shown
pub leasable_shown : (table : Table) (keys free : List (Option Key)) → ShowsClear table keys free → length keys ≡ (blocks table).count → (block : ℕ) → clear_in table block ≡ true → get_or free block None ≡ get_or keys block None
leasable_shown table keys free shows places block clear = by_cases (nat_lt block (blocks table).count)
    (λ e. shows.shown block (below block (blocks table).count e) clear)
    (λ e. let le = not_below block (blocks table).count e in past free block (omega (arith, le, shows.places)) ∙ sym (past keys block (omega (arith, le, places))))

-- ---- which blocks were clear before an event

module _ (of : Blocks) (hot cooler : ℕ → Bool) (block : ℕ) where
  pub near_before : is_near_hot of cooler block ≡ false
      → (is_near_hot of hot block ≡ false) ⊎ ((other : ℕ) × (other < of.count) × (interferes of block other ≡ true) × (hot other ≡ true) × (cooler other ≡ false))
  near_before cold = by_cases (is_near_hot of hot block)
      (λ e. let found = any_some of.count (λ other. interferes of block other && hot other) e in
      let both = and_true _ _ found.2 in
      inr (found.0, found.1, both.0, both.1, sym (ap (λ r. r && cooler found.0) both.0) ∙ any_none of.count found.0 (λ other. interferes of block other && cooler other) cold found.1))
      (λ e. inl e)

module _ (of : Blocks) (workers : ℕ) (leases fewer : ℕ → Option Grant) (block : ℕ) where
  pub taken_before : ((worker : ℕ) → is_lease_of (meets of block) (leases worker) ≡ true → is_lease_of (meets of block) (fewer worker) ≡ true) → is_taken of workers fewer block ≡ false → is_taken of workers leases block ≡ false
  taken_before stays free = by_cases (is_taken of workers leases block)
      (λ e. let found = any_some workers (λ worker. is_lease_of (meets of block) (leases worker)) e in
      absurd (true≢false (sym (any_at workers found.0 (λ worker. is_lease_of (meets of block) (fewer worker)) found.1 (stays found.0 found.2)) ∙ free)))
      (λ e. e)

module _ (of : Blocks) (workers : ℕ) (counts : Counts) (block : ℕ) where
  pub clear_from : is_clear of workers counts block ≡ true → (is_near_hot of counts.hot block ≡ false) × (is_taken of workers counts.leases block ≡ false)
  clear_from test = let both = and_true _ _ test in (not_true _ both.0, not_true _ both.1)

  pub clear_to : is_near_hot of counts.hot block ≡ false → is_taken of workers counts.leases block ≡ false → is_clear of workers counts block ≡ true
  clear_to cold free = ap (λ r. not r && not (is_taken of workers counts.leases block)) cold ∙ ap not free

module _ (of : Blocks) (settings : Settings) (counts : Counts) (block : ℕ) where
  abbrev workers : ℕ
  workers = settings.workers

  -- with one lease less
  pub before_lease : (worker leased quota : ℕ) → counts.leases worker ≡ None → is_clear of workers (counts_after of settings counts (Lease worker leased quota)) block ≡ true → is_clear of workers counts block ≡ true
  before_lease worker leased quota vacant clear =
      let both = clear_from of workers (counts_after of settings counts (Lease worker leased quota)) block clear in
      clear_to of workers counts block both.0 (taken_before of workers counts.leases (counts_after of settings counts (Lease worker leased quota)).leases block
      (λ w it. by_cases (w == worker)
      (λ e. absurd (true≢false (sym it ∙ ap (λ n. is_lease_of (meets of block) (counts.leases n)) (equal w worker e) ∙ ap (is_lease_of (meets of block)) vacant)))
      (λ e. ap (is_lease_of (meets of block)) (entry_else counts.leases worker w (Some (record { block = leased; quota = quota })) e) ∙ it)) both.1)

  same_block : (quota : ℕ) (o : Option Grant) → is_lease_of (meets of block) (with_quota quota o) ≡ is_lease_of (meets of block) o
  same_block quota None = refl
  same_block quota (Some grant) = refl

  pub before_renewal : (worker used quota : ℕ) → is_clear of workers (counts_after of settings counts (Renew worker used quota)) block ≡ true → is_clear of workers counts block ≡ true
  before_renewal worker used quota clear =
      let both = clear_from of workers (counts_after of settings counts (Renew worker used quota)) block clear in
      clear_to of workers counts block both.0 (taken_before of workers counts.leases (counts_after of settings counts (Renew worker used quota)).leases block
      (λ w it. by_cases (w == worker)
      (λ e. ap (is_lease_of (meets of block)) (entry_here counts.leases worker w (with_quota quota (counts.leases worker)) e) ∙ same_block quota (counts.leases worker) ∙ ap (λ n. is_lease_of (meets of block) (counts.leases n)) (sym (equal w worker e)) ∙ it)
      (λ e. ap (is_lease_of (meets of block)) (entry_else counts.leases worker w (with_quota quota (counts.leases worker)) e) ∙ it)) both.1)

  -- it was clear, or near a hot block that became cold
  pub before_mark : (worker marked : ℕ) → is_clear of workers (counts_after of settings counts (Hot worker marked)) block ≡ true
      → ((other : ℕ) × (interferes of marked other ≡ true) × (counts.hot other ≡ true) × (interferes of other block ≡ true)) ⊎ (is_clear of workers counts block ≡ true)
  before_mark worker marked clear = go (near_before of counts.hot (counts_after of settings counts (Hot worker marked)).hot block both.0)
    where
      both : (is_near_hot of (counts_after of settings counts (Hot worker marked)).hot block ≡ false) × (is_taken of workers counts.leases block ≡ false)
      both = clear_from of workers (counts_after of settings counts (Hot worker marked)) block clear

      marks : (is near hot : Bool) → hot ≡ true → (is || (hot && not near)) ≡ false → near ≡ true
      marks true near hot is_hot cold = absurd (true≢false cold)
      marks false true hot is_hot cold = refl
      marks false false true is_hot cold = absurd (true≢false cold)
      marks false false false is_hot cold = absurd (true≢false (sym is_hot))

      go : (is_near_hot of counts.hot block ≡ false) ⊎ ((other : ℕ) × (other < of.count) × (interferes of block other ≡ true) × (counts.hot other ≡ true) × ((counts_after of settings counts (Hot worker marked)).hot other ≡ false))
          → ((other : ℕ) × (interferes of marked other ≡ true) × (counts.hot other ≡ true) × (interferes of other block ≡ true)) ⊎ (is_clear of workers counts block ≡ true)
      go (inl cold) = inr (clear_to of workers counts block cold both.1)
      go (inr found) = inl (found.0, marks (found.0 == marked) (interferes of marked found.0) (counts.hot found.0) found.3 found.4, found.3, interference_is_mutual of found.0 block ∙ found.2)

  -- it was clear, or near the block that became cold
  pub before_cooling : (worker cooled : ℕ) → is_clear of workers (counts_after of settings counts (Cold worker cooled)) block ≡ true
      → (interferes of cooled block ≡ true) ⊎ (is_clear of workers counts block ≡ true)
  before_cooling worker cooled clear = go (near_before of counts.hot (counts_after of settings counts (Cold worker cooled)).hot block both.0)
    where
      both : (is_near_hot of (counts_after of settings counts (Cold worker cooled)).hot block ≡ false) × (is_taken of workers counts.leases block ≡ false)
      both = clear_from of workers (counts_after of settings counts (Cold worker cooled)) block clear

      go : (is_near_hot of counts.hot block ≡ false) ⊎ ((other : ℕ) × (other < of.count) × (interferes of block other ≡ true) × (counts.hot other ≡ true) × ((counts_after of settings counts (Cold worker cooled)).hot other ≡ false))
          → (interferes of cooled block ≡ true) ⊎ (is_clear of workers counts block ≡ true)
      go (inl cold) = inr (clear_to of workers counts block cold both.1)
      go (inr found) = inl (interference_is_mutual of cooled block ∙ subst (λ n. interferes of block n ≡ true) (equal found.0 cooled (by_cases (found.0 == cooled) (λ e. e) (λ e. absurd (true≢false (sym (ap (λ r. r && not (found.0 == cooled)) found.3 ∙ ap not e) ∙ found.4))))) found.2)

  -- A lease forbids no other block that doesn't interfere with its own.
  pub free_apart : (worker : ℕ) (own : Grant) → counts.leases worker ≡ Some own → (block == own.block) ≡ false → interferes of own.block block ≡ false
      → is_taken of workers (with_entry counts.leases worker None) block ≡ false → is_taken of workers counts.leases block ≡ false
  free_apart worker own leased other apart = taken_before of workers counts.leases (with_entry counts.leases worker None) block
      (λ w it. by_cases (w == worker)
      (λ e. absurd (true≢false (sym it ∙ ap (λ n. is_lease_of (meets of block) (counts.leases n)) (equal w worker e) ∙ ap (is_lease_of (meets of block)) leased ∙ meets_not)))
      (λ e. ap (is_lease_of (meets of block)) (entry_else counts.leases worker w None e) ∙ it))
    where
      meets_not : meets of block own.block ≡ false
      meets_not = sym (ap (λ r. not r && meets of block own.block) other) ∙ interference_is_mutual of block own.block ∙ apart

  -- It was clear, or near a hot block that became cold. Or it is the released block, or interferes with it.
  pub before_release : (worker used : ℕ) (memory : Bool) (own : Grant) → AreLawful of settings counts → counts.leases worker ≡ Some own → is_clear of workers (counts_after of settings counts (Release worker used memory)) block ≡ true
      → (block == own.block) ≡ false → interferes of own.block block ≡ false
      → ((other : ℕ) × (interferes of own.block other ≡ true) × (counts.hot other ≡ true) × (interferes of other block ≡ true)) ⊎ (is_clear of workers counts block ≡ true)
  before_release worker used memory own lawful leased clear other apart = go (near_before of counts.hot (counts_after of settings counts (Release worker used memory)).hot block both.0)
    where
      both : (is_near_hot of (counts_after of settings counts (Release worker used memory)).hot block ≡ false) × (is_taken of workers (counts_after of settings counts (Release worker used memory)).leases block ≡ false)
      both = clear_from of workers (counts_after of settings counts (Release worker used memory)) block clear

      free : is_taken of workers counts.leases block ≡ false
      free = free_apart worker own leased other apart both.1

      go : (is_near_hot of counts.hot block ≡ false) ⊎ ((hot : ℕ) × (hot < of.count) × (interferes of block hot ≡ true) × (counts.hot hot ≡ true) × ((counts_after of settings counts (Release worker used memory)).hot hot ≡ false))
          → ((hot : ℕ) × (interferes of own.block hot ≡ true) × (counts.hot hot ≡ true) × (interferes of hot block ≡ true)) ⊎ (is_clear of workers counts block ≡ true)
      go (inl cold) = inr (clear_to of workers counts block cold free)
      go (inr found) = inl (found.0, releases_cool_near of settings counts worker used found.0 memory own lawful leased found.3 found.4, found.3, interference_is_mutual of found.0 block ∙ found.2)

-- ---- which blocks are clear after the events of a call

module _ (old new : Table) (events : List Event) (adds : Adds old new events) where
  pub clear_moved : (block : ℕ) → clear_in new block ≡ is_clear (blocks old) old.settings.workers (counts_along (blocks old) old.settings (counts_of old) events) block
  clear_moved block =
      ap (λ (g : AbstractGraph). is_clear (blocks_of g) new.settings.workers (counts_of new) block) adds.abstraction
      ∙ ap (λ (s : Settings). is_clear (blocks old) s.workers (counts_of new) block) adds.settings
      ∙ ap (λ (c : Counts). is_clear (blocks old) old.settings.workers c block) adds.counts

  pub blocks_stay : (blocks new).count ≡ (blocks old).count
  blocks_stay = ap (λ (g : AbstractGraph). (blocks_of g).count) adds.abstraction

  -- where no block becomes clear
  pub shows_still : (keys noted free : List (Option Key)) → ShowsClear old keys free → noted ≡ keys
      → ((block : ℕ) → is_clear (blocks old) old.settings.workers (counts_along (blocks old) old.settings (counts_of old) events) block ≡ true → clear_in old block ≡ true) → ShowsClear new noted free
  shows_still keys noted free shows same before = shows_on old new keys noted free shows blocks_stay (λ block lt clear. (before block (sym (clear_moved block) ∙ clear), ap (λ (ks : List (Option Key)). get_or ks block None) same))

  -- where blocks that become clear were shown before
  pub shows_walked : (L : ℕ → Type 0) (keys free mid : List (Option Key)) → ShowsClear old keys free → Shows L keys free mid
      → ((block : ℕ) → is_clear (blocks old) old.settings.workers (counts_along (blocks old) old.settings (counts_of old) events) block ≡ true → L block ⊎ (clear_in old block ≡ true)) → ShowsClear new keys mid
  shows_walked L keys free mid shows walk before = shows_next old new L (λ block. ⊥) keys keys free mid mid shows walk (shows_none (λ block. ⊥) keys mid (λ block it. it)) blocks_stay
      (λ block lt clear. inr (before block (sym (clear_moved block) ∙ clear), refl))

-- an out-of-memory report changes nothing of it
pub ending_clear : (of : Blocks) (settings : Settings) (counts : Counts) (memory : Bool) (end : Option End) (block : ℕ) → is_clear of settings.workers (counts_along of settings counts (ending memory end)) block ≡ is_clear of settings.workers counts block
ending_clear of settings counts memory end block = go (memory && is_none end)
  where
    go : (b : Bool) → is_clear of settings.workers (counts_along of settings counts (cond b (Ended Memory ∷ []) [])) block ≡ is_clear of settings.workers counts block
    go true = refl
    go false = refl

-- a walk alone
pub shows_more_keys : (table : Table) (L : ℕ → Type 0) (keys free mid : List (Option Key)) → ShowsClear table keys free → Shows L keys free mid → ShowsClear table keys mid
shows_more_keys table L keys free mid shows walk = shows_next table table L (λ block. ⊥) keys keys free mid mid shows walk (shows_none (λ block. ⊥) keys mid (λ block it. it)) refl (λ block lt clear. inr (inr clear, refl))

-- all blocks
pub shows_all_keys : (table : Table) (keys free mid : List (Option Key)) → length free ≡ (blocks table).count → Shows (λ block. block < length free) keys free mid → ShowsClear table keys mid
shows_all_keys table keys free mid places walk = record { places = walk.count ∙ places; shown = λ block lt clear. walk.here block (omega (arith, lt, places)) }

-- ---- a lease and the blocks of its scope

-- a graph with other noted keys
pub noted_kept : (g : GraphValue) → IsLeaseGraph g → (homes : HomeTable) → homes.bundles ≡ g.homes.bundles → length homes.keys ≡ length g.homes.keys → IsLeaseGraph (record { task = g.task; choice = g.choice; table = g.table; homes = homes; incumbent = g.incumbent })
noted_kept g k homes same count = record {
  is_task = k.is_task;
  suits = k.suits;
  graph_of = k.graph_of;
  legal = k.legal;
  places = ap length same ∙ k.places;
  key_places = count ∙ k.key_places;
  home = λ block lt. ap (λ (bs : List (Option Content)). is_some (get_or bs block None)) same ∙ k.home block lt;
  weights = λ block content is. k.weights block content (ap (λ (bs : List (Option Content)). get_or bs block None) (sym same) ∙ is);
}

module _ (g : GraphValue) (k : IsLeaseGraph g) (lease : LeaseValue) (out : IsOfGraph g lease) where
  none_is : {A : Type 0} (o : Option A) → is_some o ≡ false → o ≡ None
  none_is None vacant = refl
  none_is (Some x) vacant = absurd (true≢false vacant)

  met : (block : ℕ) → block < (blocks g.table).count → (blocks g.table).scope lease.block block ≡ true → meets (blocks g.table) block lease.block ≡ true
  met block lt inside = any_at (blocks g.table).count block (λ shared. (blocks g.table).scope block shared && (blocks g.table).scope lease.block shared) lt
      (ap (λ r. r && (blocks g.table).scope lease.block block) ((setup_is g k).blocks.own block lt) ∙ inside)

  -- the bundles of clear blocks are not among those of the lease
  pub clear_is_home : (block : ℕ) → block < (blocks g.table).count → clear_in g.table block ≡ true → content_in lease.parts block ≡ None
  clear_is_home block lt clear = by_cases ((blocks g.table).scope lease.block block)
      (λ e. absurd (true≢false (sym (any_at g.table.settings.workers lease.worker (λ w. is_lease_of (meets (blocks g.table) block) ((counts_in g).leases w)) ((lawful_in g k).known lease.worker (grant_of lease) out.leased).0
      (ap (is_lease_of (meets (blocks g.table) block)) out.leased ∙ met block lt e)) ∙ (clear_from (blocks g.table) g.table.settings.workers (counts_in g) block clear).1)))
      (λ e. none_is (content_in lease.parts block) (out.scope.blocks block ∙ e))

  -- the same for another block that doesn't interfere with it
  pub apart_is_home : (block : ℕ) → block < (blocks g.table).count → (block == lease.block) ≡ false → interferes (blocks g.table) lease.block block ≡ false → content_in lease.parts block ≡ None
  apart_is_home block lt other apart = by_cases ((blocks g.table).scope lease.block block)
      (λ e. absurd (true≢false (sym (ap (λ r. not r && meets (blocks g.table) block lease.block) other ∙ met block lt e) ∙ interference_is_mutual (blocks g.table) block lease.block ∙ apart)))
      (λ e. none_is (content_in lease.parts block) (out.scope.blocks block ∙ e))

  -- keys that are noted while the lease is out
  pub shows_noted : (noted free : List (Option Key)) → NotesKeys lease.parts g.homes.keys noted → ShowsClear g.table g.homes.keys free → ShowsClear g.table noted free
  shows_noted noted free notes shows = shows_on g.table g.table g.homes.keys noted free shows refl (λ block lt clear. (clear, notes.others block (clear_is_home block lt clear)))

  -- the lease came back
  pub shows_released : (memory : Bool) (table : Table) (near : List ℕ) (noted free mid cleared after : List (Option Key)) → Adds g.table table (Release lease.worker lease.used memory ∷ ending memory g.table.end)
      → NotesKeys lease.parts g.homes.keys noted → ((c : ℕ) → has near c ≡ interferes (blocks g.table) lease.block c)
      → ShowsClear g.table g.homes.keys free → Shows (IsBesideHot g.table lease.block) g.homes.keys free mid → Shows (IsClearIn table near) noted mid cleared → Shows (λ block. block ≡ lease.block) noted cleared after
      → ShowsClear table noted after
  shows_released memory table near noted free mid cleared after adds notes each shows first second third =
      shows_next g.table table (IsBesideHot g.table lease.block) (λ b. IsClearIn table near b ⊎ (b ≡ lease.block)) g.homes.keys noted free mid after shows first (shows_more (IsClearIn table near) (λ block. block ≡ lease.block) (λ b. IsClearIn table near b ⊎ (b ≡ lease.block)) noted mid cleared after second third (λ block it. it)) (blocks_stay g.table table events adds)
      (λ block lt clear. by_cases (block == lease.block) (λ e. inl (inr (equal block lease.block e)))
      (λ other. by_cases (interferes (blocks g.table) lease.block block) (λ e. inl (inl (each block ∙ e, clear)))
      (λ apart. inr (
        before_release (blocks g.table) g.table.settings (counts_in g) block lease.worker lease.used memory (grant_of lease) (lawful_in g k) out.leased
            (sym (ending_clear (blocks g.table) g.table.settings (counts_after (blocks g.table) g.table.settings (counts_in g) (Release lease.worker lease.used memory)) memory g.table.end block) ∙ sym (clear_moved g.table table events adds block) ∙ clear) other apart,
        notes.others block (apart_is_home block lt other apart),
      ))))
    where
      events : List Event
      events = Release lease.worker lease.used memory ∷ ending memory g.table.end

  -- the lease came back, and its worker has another one
  pub shows_switched : (leased quota : ℕ) (table : Table) (near : List ℕ) (noted free mid cleared after : List (Option Key)) → Adds g.table table (Release lease.worker lease.used false ∷ Lease lease.worker leased quota ∷ [])
      → NotesKeys lease.parts g.homes.keys noted → ((c : ℕ) → has near c ≡ interferes (blocks g.table) lease.block c)
      → ShowsClear g.table g.homes.keys free → Shows (IsBesideHot g.table lease.block) g.homes.keys free mid → Shows (IsClearIn table near) noted mid cleared → Shows (λ block. block ≡ lease.block) noted cleared after
      → ShowsClear table noted after
  shows_switched leased quota table near noted free mid cleared after adds notes each shows first second third =
      shows_next g.table table (IsBesideHot g.table lease.block) (λ b. IsClearIn table near b ⊎ (b ≡ lease.block)) g.homes.keys noted free mid after shows first (shows_more (IsClearIn table near) (λ block. block ≡ lease.block) (λ b. IsClearIn table near b ⊎ (b ≡ lease.block)) noted mid cleared after second third (λ block it. it)) (blocks_stay g.table table events adds)
      (λ block lt clear. by_cases (block == lease.block) (λ e. inl (inr (equal block lease.block e)))
      (λ other. by_cases (interferes (blocks g.table) lease.block block) (λ e. inl (inl (each block ∙ e, clear)))
      (λ apart. inr (
        before_release (blocks g.table) g.table.settings (counts_in g) block lease.worker lease.used false (grant_of lease) (lawful_in g k) out.leased
            (before_lease (blocks g.table) g.table.settings home block lease.worker leased quota (entry_here (counts_in g).leases lease.worker lease.worker None (equal_self lease.worker)) (sym (clear_moved g.table table events adds block) ∙ clear)) other apart,
        notes.others block (apart_is_home block lt other apart),
      ))))
    where
      events : List Event
      events = Release lease.worker lease.used false ∷ Lease lease.worker leased quota ∷ []

      home : Counts
      home = counts_after (blocks g.table) g.table.settings (counts_in g) (Release lease.worker lease.used false)

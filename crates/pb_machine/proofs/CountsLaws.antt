-- Every event that may come keeps the counts lawful.
use Rattle.std.proofs.Common.{◌≡◌, ℕ, ◌+◌, ◌-◌, ◌<◌, ◌≤◌, min, Bool, true, false, cond, not, ◌&&◌, ◌||◌, ◌==◌, nat_lt, is_some, is_none, List, [], ◌∷◌, Option, Some, None, refl, sym, ap, ◌∙◌, arith, true≢false, ◌⊎◌, inl, inr}
use Rattle.std.specs.List.{AllByRecursion}
pub use Rattle.std.proofs.lemmas.Option.{same_Some as some_is}
pub use Rattle.pb_model.proofs.Callers.{none_found as none_leased}
use Rattle.pb_model.proofs.Callers.{and_true, or_false, or_true, not_false, not_true, by_cases, and_swap, not_both, equal, equal_self, equal_swap, below, not_below, none_found, some_found}
use Rattle.pb_machine.specs.declared.event.End.{End}
use Rattle.pb_machine.specs.declared.event.End.TheVariants.{Quiet, Budget, Memory}
use Rattle.pb_machine.specs.declared.event.Event.{Event}
use Rattle.pb_machine.specs.declared.event.Event.TheVariants.{Lease, Renew, Hot, Cold, Release, Off, Ended}
use Rattle.pb_machine.specs.declared.event.EventRefusal.{EventRefusal}
use Rattle.pb_machine.specs.declared.event.EventRefusal.TheVariants.{Trouble}
use Rattle.pb_machine.specs.declared.settings.Settings.{Settings}
use Rattle.pb_machine.specs.declared.event.Grant.{Grant}
use Rattle.pb_machine.specs.Tables.{with_entry, count_below}
use Rattle.pb_machine.specs.Blocks.{Blocks, meets, interferes}
use Rattle.pb_machine.specs.Counts.{Counts, opening_counts, is_lease_of, quota_of, is_busy, is_taken, is_any_out, with_quota, counts_after, AreLawful}
use Rattle.pb_machine.specs.Legality.{first_true, tests, is_stranger, is_wrong_quota, is_memory_end, refusal}
use Rattle.pb_machine.specs.JournalLaws.{NoneOutNoneHot, LeasedAreNeverHot, ReleasesCoolNear}
use Rattle.pb_machine.proofs.TableLaws.{entry_here, entry_else, any_same, any_none, any_some, any_at, sum_zero, sum_with_entry, none_counted, count_more}

-- counts that agree in each part
pub counts_same : (some other : Counts) → ((worker : ℕ) → some.leases worker ≡ other.leases worker) → ((block : ℕ) → some.hot block ≡ other.hot block)
    → ((worker : ℕ) → some.signed_off worker ≡ other.signed_off worker) → some.spent ≡ other.spent → some.left ≡ other.left → some.end ≡ other.end → some.trouble ≡ other.trouble → some ≡ other
counts_same some other leases hot off spent left end trouble = λ i. record {
  leases = λ worker. leases worker i;
  hot = λ block. hot block i;
  signed_off = λ worker. off worker i;
  spent = spent i;
  left = left i;
  end = end i;
  trouble = trouble i;
}

-- where nothing refuses, no test is true
pub none_true : (ts : List (Bool × EventRefusal)) → first_true ts ≡ None → AllByRecursion (λ t. t.0 ≡ false) ts
none_true [] h = tt
none_true (t ∷ ts) h = go t.0 refl (none_true ts)
  where
    go : (r : Bool) → t.0 ≡ r → (first_true ts ≡ None → AllByRecursion (λ u. u.0 ≡ false) ts) → (t.0 ≡ false) × AllByRecursion (λ u. u.0 ≡ false) ts
    go true e rest = let bad : ◌≡◌ {A = Option EventRefusal} (Some t.1) None = sym (ap (λ r. cond r (Some t.1) (first_true ts)) e) ∙ h in cc
    go false e rest = (e, rest (sym (ap (λ r. cond r (Some t.1) (first_true ts)) e) ∙ h))

pub rest_passes : (t : Bool × EventRefusal) (ts : List (Bool × EventRefusal)) → first_true (t ∷ ts) ≡ None → first_true ts ≡ None
rest_passes t ts h = go t.0 refl
  where
    go : (r : Bool) → t.0 ≡ r → first_true ts ≡ None
    go true e = let bad : ◌≡◌ {A = Option EventRefusal} (Some t.1) None = sym (ap (λ r. cond r (Some t.1) (first_true ts)) e) ∙ h in cc
    go false e = sym (ap (λ r. cond r (Some t.1) (first_true ts)) e) ∙ h

pub grant_of : (o : Option Grant) → is_none o ≡ false → (h : Grant) × (o ≡ Some h)
grant_of o h = some_found o (not_false (is_some o) h)

pub none_end : (o : Option End) → is_none o ≡ true → o ≡ None
none_end o h = none_found o (not_true (is_some o) h)

meets_swap : (blocks : Blocks) (b c : ℕ) → meets blocks b c ≡ meets blocks c b
meets_swap blocks b c = any_same blocks.count (λ x. blocks.scope b x && blocks.scope c x) (λ x. blocks.scope c x && blocks.scope b x) (λ x. and_swap (blocks.scope b x) (blocks.scope c x))

pub interferes_swap : (blocks : Blocks) (b c : ℕ) → interferes blocks b c ≡ interferes blocks c b
interferes_swap blocks b c = ap (λ r. not r && meets blocks b c) (equal_swap b c) ∙ ap (λ r. not (c == b) && r) (meets_swap blocks b c)

interferes_self : (blocks : Blocks) (b : ℕ) → interferes blocks b b ≡ false
interferes_self blocks b = ap (λ r. not r && meets blocks b b) (equal_self b)

-- by blocks alone, what is there with another block at one worker
module _ (blocks : Blocks) (settings : Settings) where
  busy_more : (leases : ℕ → Option Grant) (i : ℕ) (h : Grant) (b : ℕ) → leases i ≡ None → is_busy blocks settings.workers leases b ≡ true → is_busy blocks settings.workers (with_entry leases i (Some h)) b ≡ true
  busy_more leases i h b none busy =
      let w = any_some settings.workers (λ k. is_lease_of (interferes blocks b) (leases k)) busy in
      let other : (w.0 == i) ≡ false = differs w.0 w.2 in
      any_at settings.workers w.0 (λ k. is_lease_of (interferes blocks b) (with_entry leases i (Some h) k)) w.1 (ap (is_lease_of (interferes blocks b)) (entry_else leases i w.0 (Some h) other) ∙ w.2)
    where
      differs : (k : ℕ) → is_lease_of (interferes blocks b) (leases k) ≡ true → (k == i) ≡ false
      differs k is = go (k == i) refl
        where
          go : (r : Bool) → (k == i) ≡ r → (k == i) ≡ false
          go true e = absurd (true≢false (sym is ∙ ap (λ n. is_lease_of (interferes blocks b) (leases n)) (equal k i e) ∙ ap (is_lease_of (interferes blocks b)) none))
          go false e = e

  pub renewed_same : (p : ℕ → Bool) (leases : ℕ → Option Grant) (i q k : ℕ) → is_lease_of p (with_entry leases i (with_quota q (leases i)) k) ≡ is_lease_of p (leases k)
  renewed_same p leases i q k = go (k == i) refl
    where
      same : (o : Option Grant) → is_lease_of p (with_quota q o) ≡ is_lease_of p o
      same None = refl
      same (Some h) = refl

      go : (r : Bool) → (k == i) ≡ r → is_lease_of p (with_entry leases i (with_quota q (leases i)) k) ≡ is_lease_of p (leases k)
      go true e = ap (is_lease_of p) (entry_here leases i k _ e) ∙ same (leases i) ∙ ap (λ n. is_lease_of p (leases n)) (sym (equal k i e))
      go false e = ap (is_lease_of p) (entry_else leases i k _ e)

  pub renewed_was : (leases : ℕ → Option Grant) (i q k : ℕ) (x : Grant) → with_entry leases i (with_quota q (leases i)) k ≡ Some x → (y : Grant) × (leases k ≡ Some y) × (y.block ≡ x.block)
  renewed_was leases i q k x is = go (k == i) refl
    where
      was : (o : Option Grant) → with_quota q o ≡ Some x → (y : Grant) × (o ≡ Some y) × (y.block ≡ x.block)
      was None e = cc
      was (Some y) e = (y, refl, ap (λ (v : Grant). v.block) (some_is _ _ e))

      go : (r : Bool) → (k == i) ≡ r → (y : Grant) × (leases k ≡ Some y) × (y.block ≡ x.block)
      go true e = let w = was (leases i) (sym (entry_here leases i k _ e) ∙ is) in (w.0, ap leases (equal k i e) ∙ w.1, w.2)
      go false e = (x, sym (entry_else leases i k _ e) ∙ is, refl)

  pub released_was : (leases : ℕ → Option Grant) (i k : ℕ) (x : Grant) → with_entry leases i None k ≡ Some x → leases k ≡ Some x
  released_was leases i k x is = go (k == i) refl
    where
      go : (r : Bool) → (k == i) ≡ r → leases k ≡ Some x
      go true e = let none : ◌≡◌ {A = Option Grant} None (Some x) = sym (entry_here leases i k None e) ∙ is in cc
      go false e = sym (entry_else leases i k None e) ∙ is

  -- the tests of an event that is not refused
  pub passes : (c : Counts) (e : Event) → refusal blocks settings c e ≡ None → AllByRecursion (λ t. t.0 ≡ false) (tests blocks settings c e)
  passes c e may = none_true (tests blocks settings c e) (rest_passes (c.trouble && not (is_memory_end e), Trouble) (tests blocks settings c e) may)

  -- no report of want of memory waits, but before the end that follows from it
  pub no_trouble : (c : Counts) (e : Event) → is_memory_end e ≡ false → refusal blocks settings c e ≡ None → c.trouble ≡ false
  no_trouble c e no_end may = go c.trouble (none_true ((c.trouble && not (is_memory_end e), Trouble) ∷ tests blocks settings c e) may).0
    where
      go : (r : Bool) → (r && not (is_memory_end e)) ≡ false → r ≡ false
      go false h = refl
      go true h = absurd (true≢false (sym (ap not no_end) ∙ h))

  -- who has signed off did so at an end, or with a report that one follows
  abbrev IsOff : Counts → ℕ → Type 0
  IsOff c k = (k < settings.workers) × (c.leases k ≡ None) × ((is_some c.end || c.trouble) ≡ true)

  -- so nobody has, while no end stands and no report waits
  none_off : (c : Counts) → AreLawful blocks settings c → is_some c.end ≡ false → c.trouble ≡ false → (k : ℕ) → c.signed_off k ≡ true → {A : Type 0} → A
  none_off c l no_end report k h = absurd (true≢false (sym (l.off k h).2 ∙ ap (λ r. r || c.trouble) no_end ∙ report))

  pub nobody : (c : Counts) → AreLawful blocks settings c → is_some c.end ≡ false → c.trouble ≡ false → count_below settings.workers c.signed_off ≡ 0
  nobody c l no_end report = none_counted settings.workers c.signed_off (λ k lt. by_cases (c.signed_off k) (λ e. none_off c l no_end report k e) (λ e. e))

  still_ended : (o : Option End) (report memory : Bool) → report ≡ false → (is_some o || report) ≡ true → (is_some o || (memory && is_none o)) ≡ true
  still_ended (Some e) report memory none h = refl
  still_ended None report memory none h = absurd (true≢false (sym h ∙ none))

  may_sign_off : (o : Option End) (memory : Bool) → (not memory && is_none o) ≡ false → (is_some o || (memory && is_none o)) ≡ true
  may_sign_off (Some e) memory h = refl
  may_sign_off None true h = refl
  may_sign_off None false h = absurd (true≢false h)

  -- the quota that the tests let through
  right_quota : (left q : ℕ) → is_wrong_quota settings left q ≡ false → (q ≤ left) × (0 < q) × (q ≤ settings.lot)
  right_quota left q h =
      let both = and_true (nat_lt 0 q) (q == min settings.lot left) (not_false _ h) in
      let e : q ≡ min settings.lot left = equal q (min settings.lot left) both.1 in
      (omega arith, below 0 q both.0, omega arith)

  pub within : (c : Counts) (i : ℕ) → is_stranger settings c i ≡ false → i < settings.workers
  within c i h = below i settings.workers (not_false _ (or_false _ _ h).0)

  taken_apart : (leases : ℕ → Option Grant) (b k : ℕ) (x : Grant) → is_taken blocks settings.workers leases b ≡ false → k < settings.workers → leases k ≡ Some x → meets blocks b x.block ≡ false
  taken_apart leases b k x free inside is = sym (ap (is_lease_of (meets blocks b)) is) ∙ any_none settings.workers k (λ n. is_lease_of (meets blocks b) (leases n)) free inside

  pub still : (o : Option End) (e : End) {A : Type 0} → is_some o ≡ false → o ≡ Some e → A
  still o e {A} h is = absurd (true≢false (sym (ap is_some is) ∙ h))

  lease_keeps : (c : Counts) (i b q : ℕ) → AreLawful blocks settings c → c.trouble ≡ false → first_true (tests blocks settings c (Lease i b q)) ≡ None → AreLawful blocks settings (counts_after blocks settings c (Lease i b q))
  lease_keeps c i b q l report may =
      let t = none_true (tests blocks settings c (Lease i b q)) may in
      let none : c.leases i ≡ None = none_leased (c.leases i) t.1.1.0 in
      let inside : i < settings.workers = within c i t.1.0 in
      let there : b < blocks.count = below b blocks.count (not_false _ t.1.1.1.0) in
      let right = right_quota c.left q t.1.1.1.1.1.1.0 in
      let new : Grant = record { block = b; quota = q } in
      let sums = sum_with_entry quota_of settings.workers i c.leases (Some new) inside in
      record {
        known = λ k h is. known_at inside there k h is (k == i) refl;
        quota = λ k h is. quota_at (right.1, right.2) k h is (k == i) refl;
        apart = λ j k x y hx hy ne. apart_at t.1.1.1.1.0 j k x y hx hy ne (j == i) (k == i) refl refl;
        hot_is_known = l.hot_is_known;
        hot_is_busy = λ d hot. busy_more c.leases i new d none (l.hot_is_busy d hot);
        hot_are_apart = l.hot_are_apart;
        off = λ k h. none_off c l t.0 report k h;
        sum = omega (arith, l.sum, sums, right.0, ap quota_of none);
        trouble = l.trouble;
        waiting = λ h. not_both c.trouble h report;
        quiet = λ e. still c.end Quiet t.0 e;
        budget = λ e. still c.end Budget t.0 e;
      }
    where
      known_at : i < settings.workers → b < blocks.count → (k : ℕ) (h : Grant) → with_entry c.leases i (Some (record { block = b; quota = q })) k ≡ Some h → (r : Bool) → (k == i) ≡ r → (k < settings.workers) × (h.block < blocks.count)
      known_at inside there k h is true e =
          let same : b ≡ h.block = ap (λ (v : Grant). v.block) (some_is _ _ (sym (entry_here c.leases i k _ e) ∙ is)) in
          (omega (arith, equal k i e), omega arith)
      known_at inside there k h is false e = l.known k h (sym (entry_else c.leases i k _ e) ∙ is)

      quota_at : ((0 < q) × (q ≤ settings.lot)) → (k : ℕ) (h : Grant) → with_entry c.leases i (Some (record { block = b; quota = q })) k ≡ Some h → (r : Bool) → (k == i) ≡ r → (0 < h.quota) × (h.quota ≤ settings.lot)
      quota_at right k h is true e =
          let same : q ≡ h.quota = ap (λ (v : Grant). v.quota) (some_is _ _ (sym (entry_here c.leases i k _ e) ∙ is)) in
          (omega (arith, same, right.0), omega (arith, same, right.1))
      quota_at right k h is false e = l.quota k h (sym (entry_else c.leases i k _ e) ∙ is)

      apart_at : is_taken blocks settings.workers c.leases b ≡ false → (j k : ℕ) (x y : Grant) → with_entry c.leases i (Some (record { block = b; quota = q })) j ≡ Some x → with_entry c.leases i (Some (record { block = b; quota = q })) k ≡ Some y
          → (j == k) ≡ false → (r s : Bool) → (j == i) ≡ r → (k == i) ≡ s → meets blocks x.block y.block ≡ false
      apart_at free j k x y hx hy ne true true e f = not_both (j == k) (ap (λ n. j == n) (equal k i f) ∙ e) ne
      apart_at free j k x y hx hy ne true false e f =
          let same : b ≡ x.block = ap (λ (v : Grant). v.block) (some_is _ _ (sym (entry_here c.leases i j _ e) ∙ hx)) in
          let was : c.leases k ≡ Some y = sym (entry_else c.leases i k _ f) ∙ hy in
          sym (ap (λ n. meets blocks n y.block) same) ∙ taken_apart c.leases b k y free (l.known k y was).0 was
      apart_at free j k x y hx hy ne false true e f =
          let same : b ≡ y.block = ap (λ (v : Grant). v.block) (some_is _ _ (sym (entry_here c.leases i k _ f) ∙ hy)) in
          let was : c.leases j ≡ Some x = sym (entry_else c.leases i j _ e) ∙ hx in
          sym (ap (λ n. meets blocks x.block n) same) ∙ meets_swap blocks x.block b ∙ taken_apart c.leases b j x free (l.known j x was).0 was
      apart_at free j k x y hx hy ne false false e f = l.apart j k x y (sym (entry_else c.leases i j _ e) ∙ hx) (sym (entry_else c.leases i k _ f) ∙ hy) ne

  pub out_still : (leases : ℕ → Option Grant) (i : ℕ) (h : Grant) → i < settings.workers → leases i ≡ Some h → is_any_out settings.workers leases ≡ true
  out_still leases i h inside is = any_at settings.workers i (λ k. is_some (leases k)) inside (ap is_some is)

  renew_keeps : (c : Counts) (i used q : ℕ) → AreLawful blocks settings c → c.trouble ≡ false → first_true (tests blocks settings c (Renew i used q)) ≡ None → AreLawful blocks settings (counts_after blocks settings c (Renew i used q))
  renew_keeps c i used q l report may =
      let t = none_true (tests blocks settings c (Renew i used q)) may in
      let inside : i < settings.workers = within c i t.1.0 in
      let last = or_false (nat_lt (quota_of (c.leases i)) used) _ t.1.1.1.1.0 in
      let enough : used ≤ quota_of (c.leases i) = not_below (quota_of (c.leases i)) used last.0 in
      let right = right_quota (c.left + (quota_of (c.leases i) - used)) q last.1 in
      let w = grant_of (c.leases i) t.1.1.0 in
      let now : quota_of (with_quota q (c.leases i)) ≡ q = ap (λ o. quota_of (with_quota q o)) w.1 in
      let sums = sum_with_entry quota_of settings.workers i c.leases (with_quota q (c.leases i)) inside in
      record {
        known = λ k h is. known_at k h (renewed_was c.leases i q k h is);
        quota = λ k h is. quota_at (right.1, right.2) k h is (k == i) refl;
        apart = λ j k x y hx hy ne. apart_at j k x y (renewed_was c.leases i q j x hx) (renewed_was c.leases i q k y hy) ne;
        hot_is_known = l.hot_is_known;
        hot_is_busy = λ d hot. any_same settings.workers _ _ (renewed_same (interferes blocks d) c.leases i q) ∙ l.hot_is_busy d hot;
        hot_are_apart = l.hot_are_apart;
        off = λ k h. none_off c l t.0 report k h;
        sum = omega (arith, l.sum, sums, right.0, enough, now);
        trouble = l.trouble;
        waiting = λ h. not_both c.trouble h report;
        quiet = λ e. still c.end Quiet t.0 e;
        budget = λ e. still c.end Budget t.0 e;
      }
    where
      known_at : (k : ℕ) (h : Grant) → ((y : Grant) × (c.leases k ≡ Some y) × (y.block ≡ h.block)) → (k < settings.workers) × (h.block < blocks.count)
      known_at k h w = let was = l.known k w.0 w.1 in (was.0, omega (arith, was.1, w.2))

      quota_at : ((0 < q) × (q ≤ settings.lot)) → (k : ℕ) (h : Grant) → with_entry c.leases i (with_quota q (c.leases i)) k ≡ Some h → (r : Bool) → (k == i) ≡ r → (0 < h.quota) × (h.quota ≤ settings.lot)
      quota_at right k h is true e = new (c.leases i) (sym (entry_here c.leases i k _ e) ∙ is)
        where
          new : (o : Option Grant) → with_quota q o ≡ Some h → (0 < h.quota) × (h.quota ≤ settings.lot)
          new None none = cc
          new (Some y) some =
              let same : q ≡ h.quota = ap (λ (v : Grant). v.quota) (some_is (record y { quota = q }) h some) in
              (omega (arith, same, right.0), omega (arith, same, right.1))
      quota_at right k h is false e = l.quota k h (sym (entry_else c.leases i k _ e) ∙ is)

      apart_at : (j k : ℕ) (x y : Grant) → ((v : Grant) × (c.leases j ≡ Some v) × (v.block ≡ x.block)) → ((v : Grant) × (c.leases k ≡ Some v) × (v.block ≡ y.block)) → (j == k) ≡ false → meets blocks x.block y.block ≡ false
      apart_at j k x y v w ne = sym (ap (λ n. meets blocks n y.block) v.2) ∙ sym (ap (λ n. meets blocks v.0.block n) w.2) ∙ l.apart j k v.0 w.0 v.1 w.1 ne

  hot_keeps : (c : Counts) (i b : ℕ) → AreLawful blocks settings c → c.trouble ≡ false → first_true (tests blocks settings c (Hot i b)) ≡ None → AreLawful blocks settings (counts_after blocks settings c (Hot i b))
  hot_keeps c i b l report may =
      let t = none_true (tests blocks settings c (Hot i b)) may in
      let there : b < blocks.count = below b blocks.count (not_false _ t.1.1.1.0) in
      let busy : is_busy blocks settings.workers c.leases b ≡ true = not_false _ (or_false (c.hot b) _ (or_false settings.plain _ t.1.1.1.1.0).1).1 in
      record {
        known = l.known;
        quota = l.quota;
        apart = l.apart;
        hot_is_known = λ d hot. known_at there (or_false settings.plain _ t.1.1.1.1.0).0 d (or_true (d == b) _ hot);
        hot_is_busy = λ d hot. busy_at busy d (or_true (d == b) _ hot);
        hot_are_apart = λ d e hd he. cool_at d e (or_true (d == b) _ hd) (or_true (e == b) _ he);
        off = λ k h. none_off c l t.0 report k h;
        sum = l.sum;
        trouble = l.trouble;
        waiting = λ h. not_both c.trouble h report;
        quiet = l.quiet;
        budget = l.budget;
      }
    where
      known_at : b < blocks.count → settings.plain ≡ false → (d : ℕ) → (((d == b) ≡ true) ⊎ ((c.hot d && not (interferes blocks b d)) ≡ true)) → (d < blocks.count) × (settings.plain ≡ false)
      known_at there marks d (inl e) = (omega (arith, equal d b e, there), marks)
      known_at there marks d (inr e) = l.hot_is_known d (and_true (c.hot d) _ e).0

      busy_at : is_busy blocks settings.workers c.leases b ≡ true → (d : ℕ) → (((d == b) ≡ true) ⊎ ((c.hot d && not (interferes blocks b d)) ≡ true)) → is_busy blocks settings.workers c.leases d ≡ true
      busy_at busy d (inl e) = ap (is_busy blocks settings.workers c.leases) (equal d b e) ∙ busy
      busy_at busy d (inr e) = l.hot_is_busy d (and_true (c.hot d) _ e).0

      cool_at : (d e : ℕ) → (((d == b) ≡ true) ⊎ ((c.hot d && not (interferes blocks b d)) ≡ true)) → (((e == b) ≡ true) ⊎ ((c.hot e && not (interferes blocks b e)) ≡ true)) → interferes blocks d e ≡ false
      cool_at d e (inl p) (inl q) = ap (λ n. interferes blocks n e) (equal d b p ∙ sym (equal e b q)) ∙ interferes_self blocks e
      cool_at d e (inl p) (inr q) = ap (λ n. interferes blocks n e) (equal d b p) ∙ not_true _ (and_true (c.hot e) _ q).1
      cool_at d e (inr p) (inl q) = ap (λ n. interferes blocks d n) (equal e b q) ∙ interferes_swap blocks d b ∙ not_true _ (and_true (c.hot d) _ p).1
      cool_at d e (inr p) (inr q) = l.hot_are_apart d e (and_true (c.hot d) _ p).0 (and_true (c.hot e) _ q).0

  cold_keeps : (c : Counts) (i b : ℕ) → AreLawful blocks settings c → c.trouble ≡ false → first_true (tests blocks settings c (Cold i b)) ≡ None → AreLawful blocks settings (counts_after blocks settings c (Cold i b))
  cold_keeps c i b l report may =
      let t = none_true (tests blocks settings c (Cold i b)) may in
      record {
        known = l.known;
        quota = l.quota;
        apart = l.apart;
        off = λ k h. none_off c l t.0 report k h;
        hot_is_known = λ d hot. l.hot_is_known d (and_true (c.hot d) _ hot).0;
        hot_is_busy = λ d hot. l.hot_is_busy d (and_true (c.hot d) _ hot).0;
        hot_are_apart = λ d e hd he. l.hot_are_apart d e (and_true (c.hot d) _ hd).0 (and_true (c.hot e) _ he).0;
        sum = l.sum;
        trouble = l.trouble;
        waiting = λ h. not_both c.trouble h report;
        quiet = l.quiet;
        budget = l.budget;
      }

  release_keeps : (c : Counts) (i used : ℕ) (memory : Bool) → AreLawful blocks settings c → c.trouble ≡ false → first_true (tests blocks settings c (Release i used memory)) ≡ None → AreLawful blocks settings (counts_after blocks settings c (Release i used memory))
  release_keeps c i used memory l report may =
      let t = none_true (tests blocks settings c (Release i used memory)) may in
      let inside : i < settings.workers = within c i t.0 in
      let enough : used ≤ quota_of (c.leases i) = not_below (quota_of (c.leases i)) used t.1.1.0 in
      let w = grant_of (c.leases i) t.1.0 in
      let sums = sum_with_entry quota_of settings.workers i c.leases None inside in
      let out = out_still c.leases i w.0 inside w.1 in
      record {
        known = λ k h is. l.known k h (released_was c.leases i k h is);
        quota = λ k h is. l.quota k h (released_was c.leases i k h is);
        hot_is_known = λ d hot. l.hot_is_known d (and_true (c.hot d) _ hot).0;
        off = λ k h.
            let was : IsOff c k = l.off k h in
            (was.0, by_cases (k == i) (λ e. entry_here c.leases i k None e) (λ e. entry_else c.leases i k None e ∙ was.1), still_ended c.end c.trouble memory report was.2);
        apart = λ j k x y hx hy ne. l.apart j k x y (released_was c.leases i j x hx) (released_was c.leases i k y hy) ne;
        hot_is_busy = λ d hot. (and_true (c.hot d) _ hot).1;
        hot_are_apart = λ d e hd he. l.hot_are_apart d e (and_true (c.hot d) _ hd).0 (and_true (c.hot e) _ he).0;
        sum = omega (arith, l.sum, sums, enough);
        trouble = λ h. none_end c.end (and_true memory (is_none c.end) h).1;
        waiting = λ h. let none = nobody c l (ap is_some (none_end c.end (and_true memory (is_none c.end) h).1)) report in omega (arith, none);
        quiet = λ e. not_both (is_any_out settings.workers c.leases) out (l.quiet e);
        budget = λ e. not_both (is_any_out settings.workers c.leases) out (l.budget e).0;
      }

  off_keeps : (c : Counts) (i : ℕ) (memory : Bool) → AreLawful blocks settings c → c.trouble ≡ false → first_true (tests blocks settings c (Off i memory)) ≡ None
      → AreLawful blocks settings (counts_after blocks settings c (Off i memory))
  off_keeps c i memory l report may =
      let t = none_true (tests blocks settings c (Off i memory)) may in
      record {
        known = l.known;
        quota = l.quota;
        apart = l.apart;
        hot_is_known = l.hot_is_known;
        hot_is_busy = l.hot_is_busy;
        hot_are_apart = l.hot_are_apart;
        sum = l.sum;
        off = λ k h. by_cases (k == i)
            (λ e. (omega (arith, equal k i e, within c i t.0), ap c.leases (equal k i e) ∙ none_leased (c.leases i) t.1.0, may_sign_off c.end memory t.1.1.0))
            (λ e. let was : IsOff c k = l.off k (sym (entry_else c.signed_off i k true e) ∙ h) in (was.0, was.1, still_ended c.end c.trouble memory report was.2));
        trouble = λ h. none_end c.end (and_true memory (is_none c.end) h).1;
        waiting = λ h.
            let none = nobody c l (ap is_some (none_end c.end (and_true memory (is_none c.end) h).1)) report in
            let one = count_more settings.workers i c.signed_off (within c i t.0) (or_false (not (nat_lt i settings.workers)) (c.signed_off i) t.0).1 in
            omega (arith, none, one);
        quiet = l.quiet;
        budget = l.budget;
      }

  ended_off : (c : Counts) → AreLawful blocks settings c → (k : ℕ) → c.signed_off k ≡ true → (k < settings.workers) × (c.leases k ≡ None) × (true ≡ true)
  ended_off c l k h = let was : IsOff c k = l.off k h in (was.0, was.1, refl)

  ended_keeps : (c : Counts) (e : End) → AreLawful blocks settings c → first_true (tests blocks settings c (Ended e)) ≡ None → AreLawful blocks settings (counts_after blocks settings c (Ended e))
  ended_keeps c Quiet l may =
      let t = none_true (tests blocks settings c (Ended Quiet)) may in
      record { known = l.known; quota = l.quota; apart = l.apart; hot_is_known = l.hot_is_known; hot_is_busy = l.hot_is_busy; hot_are_apart = l.hot_are_apart; sum = l.sum; off = ended_off c l; trouble = λ h. absurd (true≢false (sym h)); waiting = λ h. absurd (true≢false (sym h)); quiet = λ _. t.1.0; budget = λ (e : ◌≡◌ {A = Option End} (Some Quiet) (Some Budget)). cc }
  ended_keeps c Budget l may =
      let t = none_true (tests blocks settings c (Ended Budget)) may in
      let none : c.left ≤ 0 = not_below 0 c.left t.1.1.0 in
      record { known = l.known; quota = l.quota; apart = l.apart; hot_is_known = l.hot_is_known; hot_is_busy = l.hot_is_busy; hot_are_apart = l.hot_are_apart; sum = l.sum; off = ended_off c l; trouble = λ h. absurd (true≢false (sym h)); waiting = λ h. absurd (true≢false (sym h)); quiet = λ (e : ◌≡◌ {A = Option End} (Some Budget) (Some Quiet)). cc; budget = λ _. (t.1.0, omega arith) }
  ended_keeps c Memory l may =
      record { known = l.known; quota = l.quota; apart = l.apart; hot_is_known = l.hot_is_known; hot_is_busy = l.hot_is_busy; hot_are_apart = l.hot_are_apart; sum = l.sum; off = ended_off c l; trouble = λ h. absurd (true≢false (sym h)); waiting = λ h. absurd (true≢false (sym h)); quiet = λ (e : ◌≡◌ {A = Option End} (Some Memory) (Some Quiet)). cc; budget = λ (e : ◌≡◌ {A = Option End} (Some Memory) (Some Budget)). cc }

  passing : (c : Counts) (e : Event) → refusal blocks settings c e ≡ None → first_true (tests blocks settings c e) ≡ None
  passing c e may = rest_passes (c.trouble && not (is_memory_end e), Trouble) (tests blocks settings c e) may

  -- each event that is not refused keeps what holds of the counts
  pub event_keeps : (c : Counts) (e : Event) → AreLawful blocks settings c → refusal blocks settings c e ≡ None → AreLawful blocks settings (counts_after blocks settings c e)
  event_keeps c (Lease i b q) l may = lease_keeps c i b q l (no_trouble c (Lease i b q) refl may) (passing c (Lease i b q) may)
  event_keeps c (Renew i used q) l may = renew_keeps c i used q l (no_trouble c (Renew i used q) refl may) (passing c (Renew i used q) may)
  event_keeps c (Hot i b) l may = hot_keeps c i b l (no_trouble c (Hot i b) refl may) (passing c (Hot i b) may)
  event_keeps c (Cold i b) l may = cold_keeps c i b l (no_trouble c (Cold i b) refl may) (passing c (Cold i b) may)
  event_keeps c (Release i used memory) l may = release_keeps c i used memory l (no_trouble c (Release i used memory) refl may) (passing c (Release i used memory) may)
  event_keeps c (Off i memory) l may = off_keeps c i memory l (no_trouble c (Off i memory) refl may) (passing c (Off i memory) may)
  event_keeps c (Ended e) l may = ended_keeps c e l (passing c (Ended e) may)

  pub opening_lawful : (before : ℕ) → before ≤ settings.budget → AreLawful blocks settings (opening_counts settings before)
  opening_lawful before enough = record {
    known = λ k h (is : ◌≡◌ {A = Option Grant} None (Some h)). cc;
    quota = λ k h (is : ◌≡◌ {A = Option Grant} None (Some h)). cc;
    hot_is_known = λ b h. absurd (true≢false (sym h));
    off = λ k h. absurd (true≢false (sym h));
    apart = λ j k x y (is : ◌≡◌ {A = Option Grant} None (Some x)) _ _. cc;
    hot_is_busy = λ b h. absurd (true≢false (sym h));
    hot_are_apart = λ b d h _. absurd (true≢false (sym h));
    sum = omega (arith, sum_zero settings.workers (λ i. 0) (λ i lt. refl));
    trouble = λ h. absurd (true≢false (sym h));
    waiting = λ h. absurd (true≢false (sym h));
    quiet = λ (e : ◌≡◌ {A = Option End} None (Some Quiet)). cc;
    budget = λ (e : ◌≡◌ {A = Option End} None (Some Budget)). cc;
  }

  -- with no lease out no block is hot
  none_busy : (c : Counts) (b : ℕ) → is_any_out settings.workers c.leases ≡ false → is_busy blocks settings.workers c.leases b ≡ true → ⊥
  none_busy c b none busy =
      let w = any_some settings.workers (λ i. is_lease_of (interferes blocks b) (c.leases i)) busy in
      let lost : c.leases w.0 ≡ None = none_leased (c.leases w.0) (any_none settings.workers w.0 (λ i. is_some (c.leases i)) none w.1) in
      true≢false (sym w.2 ∙ ap (is_lease_of (interferes blocks b)) lost)

  pub none_hot : (c : Counts) → AreLawful blocks settings c → is_any_out settings.workers c.leases ≡ false → (b : ℕ) → c.hot b ≡ false
  none_hot c l none b = go (c.hot b) refl
    where
      go : (r : Bool) → c.hot b ≡ r → c.hot b ≡ false
      go true e = absurd (none_busy c b none (l.hot_is_busy b e))
      go false e = e

pub none_out_none_hot : NoneOutNoneHot
none_out_none_hot blocks settings counts lawful none block = none_hot blocks settings counts lawful none block

pub leased_are_never_hot : LeasedAreNeverHot
leased_are_never_hot blocks settings counts worker grant l leased = by_cases (counts.hot grant.block) (λ hot. absurd (true≢false (is_near hot))) (λ e. e)
  where
    near : (i : ℕ) (o : Option Grant) → counts.leases i ≡ o → is_lease_of (interferes blocks grant.block) o ≡ true → true ≡ false
    near i None is h = sym h
    near i (Some second) is h = by_cases (worker == i)
        (λ same.
        let one = some_is grant second (sym leased ∙ ap counts.leases (equal worker i same) ∙ is) in
        sym h ∙ ap (λ (g : Grant). interferes blocks grant.block g.block) (sym one) ∙ interferes_self blocks grant.block)
        (λ other. sym (and_true (not (grant.block == second.block)) _ h).1 ∙ l.apart worker i grant second leased is other)

    is_near : counts.hot grant.block ≡ true → true ≡ false
    is_near hot =
        let w = any_some settings.workers (λ i. is_lease_of (interferes blocks grant.block) (counts.leases i)) (l.hot_is_busy grant.block hot) in
        near w.0 (counts.leases w.0) refl w.2

pub releases_cool_near : ReleasesCoolNear
releases_cool_near blocks settings counts worker used block memory grant l leased hot cold = near
  where
    found : (i : ℕ) × (i < settings.workers) × (is_lease_of (interferes blocks block) (counts.leases i) ≡ true)
    found = any_some settings.workers (λ i. is_lease_of (interferes blocks block) (counts.leases i)) (l.hot_is_busy block hot)

    quiet : is_busy blocks settings.workers (with_entry counts.leases worker None) block ≡ false
    quiet = sym (ap (λ r. r && is_busy blocks settings.workers (with_entry counts.leases worker None) block) hot) ∙ cold

    gone : is_lease_of (interferes blocks block) (with_entry counts.leases worker None found.0) ≡ false
    gone = any_none settings.workers found.0 (λ i. is_lease_of (interferes blocks block) (with_entry counts.leases worker None i)) quiet found.1

    near : interferes blocks grant.block block ≡ true
    near = by_cases (found.0 == worker)
        (λ same. interferes_swap blocks grant.block block ∙ sym (ap (is_lease_of (interferes blocks block)) (ap counts.leases (equal found.0 worker same) ∙ leased)) ∙ found.2)
        (λ other. not_both (is_lease_of (interferes blocks block) (counts.leases found.0)) found.2 (sym (ap (is_lease_of (interferes blocks block)) (entry_else counts.leases worker found.0 None other)) ∙ gone))

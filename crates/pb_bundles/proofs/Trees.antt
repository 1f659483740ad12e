-- The tree of winners: what a node has, how games are played anew, and that a node has the best of the blocks below it.
use Rattle.std.proofs.Common.{◌≡◌, ◌≢◌, ℕ, zero, suc, ◌+◌, ◌-◌, ◌*◌, ◌/◌, ◌<◌, ◌≤◌, ◌==◌, nat_lt, Bool, false, IsTrue, cond, List, Option, Some, None, IsSome, get_or, set, length, refl, sym, ap, subst, ◌∙◌, ◌⊎◌, inl, inr, arith, true≢false, get_or-set_same, get_or-set_other}
use Rattle.std.proofs.lemmas.Bool.{eqb-false}
use Rattle.std.proofs.lemmas.Option.{none-some, same_Some}
use Rattle.pb_model.specs.declared.key.Key.{Key}
use Rattle.pb_model.proofs.Callers.{by_cases, below, not_below, equal}
use Rattle.pb_machine.specs.Choice.{ComesBefore}
use Rattle.pb_bundles.specs.declared.winner.Winner.{Winner}
use Rattle.pb_bundles.specs.Tree.{leaf, node, IsAhead, IsWonBy, IsWon, IsKeyTree, Under, IsNotBehind, IsBestBelow}
use Rattle.pb_bundles.specs.Choosing.{MayBeFirst, IsFirstBy, IsBetterBy}
use Rattle.pb_bundles.proofs.Lists.{some_within}
use Rattle.pb_bundles.proofs.Orders.{comes_trans, comes_cases}

-- ---- who is ahead

pub before_some : (x : Option Key) (a : ℕ) (y : Option Key) (b : ℕ) → ComesBefore x a y b → IsSome y → IsSome x
before_some (Some x) a y b l some = refl
before_some None a None b l some = some
before_some None a (Some y) b l some = absurd l

pub ahead_then : (a b c : Winner) → IsAhead a b → IsNotBehind (Some b) c → IsNotBehind (Some a) c
ahead_then a b c l (inl e) = inr (subst (IsAhead a) e l)
ahead_then a b c l (inr g) = inr (comes_trans a.key a.block b.key b.block c.key c.block l g)

pub not_behind_trans : (a b c : Winner) → IsNotBehind (Some a) b → IsNotBehind (Some b) c → IsNotBehind (Some a) c
not_behind_trans a b c (inl e) g = subst (λ x. IsNotBehind (Some x) c) (sym e) g
not_behind_trans a b c (inr l) g = ahead_then a b c l g

pub open_key : (w v : Winner) → IsNotBehind (Some w) v → IsSome v.key → IsSome w.key
open_key w v (inl e) some = subst (λ (x : Winner). IsSome x.key) (sym e) some
open_key w v (inr l) some = before_some w.key w.block v.key v.block l some

won_same : (l r m l' r' m' : Winner) → l' ≡ l → r' ≡ r → m' ≡ m → IsWonBy l r m → IsWonBy l' r' m'
won_same l r m l' r' m' el er em w = subst (λ x. IsWonBy x r' m') (sym el) (subst (λ x. IsWonBy l x m') (sym er) (subst (λ x. IsWonBy l r x) (sym em) w))

-- ---- the way down

pub under_le : (steps above below : ℕ) → Under steps above below → above ≤ below
under_le zero above below e = omega (arith, e)
under_le (suc steps) above below (inl e) = omega (arith, e)
under_le (suc steps) above below (inr (inl u)) = let h = under_le steps (2 * above) below u in omega (arith, h)
under_le (suc steps) above below (inr (inr u)) = let h = under_le steps (2 * above + 1) below u in omega (arith, h)

-- below a node without nodes below it there is only that
pub under_last : (steps above below : ℕ) → below < 2 * above → Under steps above below → above ≡ below
under_last zero above below low e = e
under_last (suc steps) above below low (inl e) = e
under_last (suc steps) above below low (inr (inl u)) = let h = under_le steps (2 * above) below u in absurd (omega (arith, h, low))
under_last (suc steps) above below low (inr (inr u)) = let h = under_le steps (2 * above + 1) below u in absurd (omega (arith, h, low))

extend : (steps above mid below : ℕ) → ((2 * mid ≡ below) ⊎ (2 * mid + 1 ≡ below)) → Under steps above mid → Under (suc steps) above below
extend zero above mid below (inl e) u = inr (inl (ap (λ k. 2 * k) u ∙ e))
extend zero above mid below (inr e) u = inr (inr (ap (λ k. 2 * k + 1) u ∙ e))
extend (suc steps) above mid below (inl e) (inl u) = inr (inl (inl (ap (λ k. 2 * k) u ∙ e)))
extend (suc steps) above mid below (inr e) (inl u) = inr (inr (inl (ap (λ k. 2 * k + 1) u ∙ e)))
extend (suc steps) above mid below e (inr (inl u)) = inr (inl (extend steps (2 * above) mid below e u))
extend (suc steps) above mid below e (inr (inr u)) = inr (inr (extend steps (2 * above + 1) mid below e u))

half_cases : (n : ℕ) → (2 * (n / 2) ≡ n) ⊎ (2 * (n / 2) + 1 ≡ n)
half_cases n = by_cases (n == 2 * (n / 2)) (λ e. inl (sym (equal n (2 * (n / 2)) e))) (λ e. let ne : n ≢ 2 * (n / 2) = eqb-false n (2 * (n / 2)) e in inr (omega (arith, ne)))

-- every node is below the first
pub under_root : (fuel n : ℕ) → 1 ≤ n → n ≤ fuel → (steps : ℕ) × Under steps 1 n
under_root zero n ge le = absurd (omega arith)
under_root (suc fuel) n ge le = by_cases (n == 1) (λ e. (0, sym (equal n 1 e)))
    (λ e. let not_one : n ≢ 1 = eqb-false n 1 e in let up = under_root fuel (n / 2) (omega (arith, not_one)) (omega (arith, not_one)) in (suc up.0, extend up.0 1 (n / 2) n (half_cases n) up.1))

module _ (keys : List (Option Key)) where
  leaf_cases : (a b : ℕ) → IsAhead (leaf keys a) (leaf keys b) ⊎ ((a ≡ b) ⊎ IsAhead (leaf keys b) (leaf keys a))
  leaf_cases a b = comes_cases (get_or keys a None) a (get_or keys b None) b

  -- the one isn't ahead of the other, so that isn't behind
  pub not_ahead : (a b : Winner) → a ≡ leaf keys a.block → b ≡ leaf keys b.block → (IsAhead b a → ⊥) → IsNotBehind (Some a) b
  not_ahead a b ea eb not =
      subst (λ x. IsNotBehind (Some x) b) (sym ea) (subst (IsNotBehind (Some (leaf keys a.block))) (sym eb) (which (leaf_cases a.block b.block)))
    where
      which : (IsAhead (leaf keys a.block) (leaf keys b.block) ⊎ ((a.block ≡ b.block) ⊎ IsAhead (leaf keys b.block) (leaf keys a.block))) → IsNotBehind (Some (leaf keys a.block)) (leaf keys b.block)
      which (inl l) = inr l
      which (inr (inl e)) = inl (ap (leaf keys) e)
      which (inr (inr g)) = absurd (not (subst (λ x. IsAhead x a) (sym eb) (subst (IsAhead (leaf keys b.block)) (sym ea) g)))

  -- ---- what a node has

  pub node_here : (winners : List Winner) (at : ℕ) → at < length keys → node keys winners at ≡ get_or winners at (leaf keys 0)
  node_here winners at lt = by_cases (nat_lt at (length keys)) (λ e. ap (λ b. cond b (get_or winners at (leaf keys 0)) (leaf keys (at - length keys))) e)
      (λ e. let ge = not_below at (length keys) e in absurd (omega (arith, ge, lt)))

  pub node_leaf : (winners : List Winner) (block : ℕ) → node keys winners (length keys + block) ≡ leaf keys block
  node_leaf winners block = by_cases (nat_lt (length keys + block) (length keys))
      (λ e. let lt = below (length keys + block) (length keys) e in absurd (omega (arith, lt)))
      (λ e. ap (λ b. cond b (get_or winners (length keys + block) (leaf keys 0)) (leaf keys (length keys + block - length keys))) e ∙ ap (leaf keys) (omega arith))

  node_other : (winners : List Winner) (at : ℕ) (v : Winner) (j : ℕ) → j ≢ at → node keys (set winners at v) j ≡ node keys winners j
  node_other winners at v j ne = ap (λ w. cond (nat_lt j (length keys)) w (leaf keys (j - length keys))) (get_or-set_other winners at j v (leaf keys 0) ne)

  node_set : (winners : List Winner) (at : ℕ) (v : Winner) → at < length keys → length winners ≡ length keys → node keys (set winners at v) at ≡ v
  node_set winners at v lt same = node_here (set winners at v) at lt ∙ get_or-set_same winners at v (leaf keys 0) (omega (arith, lt, same))

  -- a game that was played anew, and the others
  pub won_set : (winners : List Winner) (at : ℕ) (v : Winner) → 1 ≤ at → at < length keys → length winners ≡ length keys → IsWonBy (node keys winners (2 * at)) (node keys winners (2 * at + 1)) v
      → (j : ℕ) → (j ≢ at → IsWon keys winners j × (2 * j ≢ at) × (2 * j + 1 ≢ at)) → IsWon keys (set winners at v) j
  won_set winners at v ge lt same won j others = by_cases (j == at)
      (λ e. subst (IsWon keys (set winners at v)) (sym (equal j at e)) here)
      (λ e. let o = others (eqb-false j at e) in
      won_same (node keys winners (2 * j)) (node keys winners (2 * j + 1)) (node keys winners j) (node keys (set winners at v) (2 * j)) (node keys (set winners at v) (2 * j + 1)) (node keys (set winners at v) j)
      (node_other winners at v (2 * j) o.1) (node_other winners at v (2 * j + 1) o.2) (node_other winners at v j (eqb-false j at e)) o.0)
    where
      here : IsWon keys (set winners at v) at
      here =
          won_same (node keys winners (2 * at)) (node keys winners (2 * at + 1)) v (node keys (set winners at v) (2 * at)) (node keys (set winners at v) (2 * at + 1)) (node keys (set winners at v) at)
          (node_other winners at v (2 * at) (λ e. omega (arith, e, ge))) (node_other winners at v (2 * at + 1) (λ e. omega (arith, e, ge))) (node_set winners at v lt same) won

  module _ (winners : List Winner) (tree : IsKeyTree keys winners) where
    -- each node has a block with its key
    leaf_from : (fuel at : ℕ) → 1 ≤ at → at < 2 * length keys → 2 * length keys ≤ at + fuel → (block : ℕ) × (block < length keys) × (node keys winners at ≡ leaf keys block)
    leaf_from zero at ge lt far = absurd (omega (arith, lt, far))
    leaf_from (suc fuel) at ge lt far = by_cases (nat_lt at (length keys)) (λ e. let low = below at (length keys) e in
        which (tree.won at ge low) (leaf_from fuel (2 * at) (omega (arith, ge)) (omega (arith, low)) (omega (arith, ge, far)))
        (leaf_from fuel (2 * at + 1) (omega (arith, ge)) (omega (arith, low)) (omega (arith, ge, far))))
        (λ e. let high = not_below at (length keys) e in
        (at - length keys, omega (arith, high, lt), ap (node keys winners) (omega (arith, high)) ∙ node_leaf winners (at - length keys)))
      where
        IsLeaf : Winner → Type 0
        IsLeaf w = (block : ℕ) × (block < length keys) × (w ≡ leaf keys block)

        which : IsWon keys winners at → IsLeaf (node keys winners (2 * at)) → IsLeaf (node keys winners (2 * at + 1)) → IsLeaf (node keys winners at)
        which (inl w) left right = (left.0, left.1, w.0 ∙ left.2)
        which (inr w) left right = (right.0, right.1, w.0 ∙ right.2)

    pub leaf_of : (at : ℕ) → 1 ≤ at → at < 2 * length keys → (block : ℕ) × (block < length keys) × (node keys winners at ≡ leaf keys block)
    leaf_of at ge lt = leaf_from (2 * length keys) at ge lt (omega arith)

    pub own_leaf : (at : ℕ) → 1 ≤ at → at < 2 * length keys → node keys winners at ≡ leaf keys (node keys winners at).block
    own_leaf at ge lt = let found = leaf_of at ge lt in found.2 ∙ ap (λ (w : Winner). leaf keys w.block) (sym found.2)

    -- a node has the best of the blocks below it
    pub beats : (steps at block : ℕ) → 1 ≤ at → block < length keys → Under steps at (length keys + block) → IsNotBehind (Some (node keys winners at)) (leaf keys block)
    beats zero at block ge lt e = inl (ap (node keys winners) e ∙ node_leaf winners block)
    beats (suc steps) at block ge lt (inl e) = inl (ap (node keys winners) e ∙ node_leaf winners block)
    beats (suc steps) at block ge lt (inr (inl u)) =
        let h = under_le steps (2 * at) (length keys + block) u in
        not_behind_trans (node keys winners at) (node keys winners (2 * at)) (leaf keys block) (left (tree.won at ge (omega (arith, h, lt)))) (beats steps (2 * at) block (omega (arith, ge)) lt u)
      where
        left : IsWon keys winners at → IsNotBehind (Some (node keys winners at)) (node keys winners (2 * at))
        left (inl w) = inl w.0
        left (inr w) = inr (subst (λ x. IsAhead x (node keys winners (2 * at))) (sym w.0) w.1)
    beats (suc steps) at block ge lt (inr (inr u)) =
        let h = under_le steps (2 * at + 1) (length keys + block) u in
        not_behind_trans (node keys winners at) (node keys winners (2 * at + 1)) (leaf keys block) (right (omega (arith, h, lt)) (tree.won at ge (omega (arith, h, lt))))
        (beats steps (2 * at + 1) block (omega (arith, ge)) lt u)
      where
        right : at < length keys → IsWon keys winners at → IsNotBehind (Some (node keys winners at)) (node keys winners (2 * at + 1))
        right low (inr w) = inl w.0
        right low (inl w) =
            subst (λ x. IsNotBehind (Some x) (node keys winners (2 * at + 1))) (sym w.0)
            (not_ahead (node keys winners (2 * at)) (node keys winners (2 * at + 1)) (own_leaf (2 * at) (omega (arith, ge)) (omega (arith, low))) (own_leaf (2 * at + 1) (omega (arith, ge)) (omega (arith, low))) w.1)

    -- ---- the search

    module _ (test : ℕ → Bool) (at : ℕ) (ge : 1 ≤ at) (lt : at < 2 * length keys) (best : Option Winner) where
      -- the node's block isn't better than the best one so far
      pub stays : ((other : Winner) → best ≡ Some other → other ≡ leaf keys other.block)
          → (IsSome (node keys winners at).key → (other : Winner) × (best ≡ Some other) × (IsAhead (node keys winners at) other → ⊥)) → IsBestBelow test keys at best best
      stays is_leaf worse = record {
        from = inl refl;
        kept = λ other p. p;
        least = λ block steps low under pass opened.
            let beat = beats steps at block ge low under in
            let got = worse (open_key (node keys winners at) (leaf keys block) beat opened) in
            subst (λ b. IsNotBehind b (leaf keys block)) (sym got.1)
            (not_behind_trans got.0 (node keys winners at) (leaf keys block) (not_ahead got.0 (node keys winners at) (is_leaf got.0 got.1) (own_leaf at ge lt) got.2) beat);
      }

      -- it is, and passes
      pub takes : IsTrue (test (node keys winners at).block) → IsSome (node keys winners at).key → ((other : Winner) → best ≡ Some other → IsAhead (node keys winners at) other)
          → IsBestBelow test keys at best (Some (node keys winners at))
      takes pass opened better = record {
        from = let found = leaf_of at ge lt in
            inr (found.0, found.1, ap (λ w. Some w) found.2, subst (λ (w : Winner). IsTrue (test w.block)) found.2 pass, subst (λ (w : Winner). IsSome w.key) found.2 opened);
        kept = λ other. kept best better other;
        least = λ block steps low under passes some. beats steps at block ge low under;
      }
        where
          kept : (best' : Option Winner) → ((other : Winner) → best' ≡ Some other → IsAhead (node keys winners at) other) → (other : Winner) → IsNotBehind best' other → IsNotBehind (Some (node keys winners at)) other
          kept None h other p = absurd p
          kept (Some b) h other p = ahead_then (node keys winners at) b other (h b refl) p

      -- it doesn't pass, and no node is below
      pub ends : length keys ≤ at → test (node keys winners at).block ≡ false → IsBestBelow test keys at best best
      ends high fails = record {
        from = inl refl;
        kept = λ other p. p;
        least = λ block steps low under pass opened.
            let same = under_last steps at (length keys + block) (omega (arith, high, low)) under in
            let here : node keys winners at ≡ leaf keys block = ap (node keys winners) same ∙ node_leaf winners block in
            absurd (true≢false (sym pass ∙ ap (λ (w : Winner). test w.block) (sym here) ∙ fails));
      }

      -- it doesn't pass, and both nodes below it were searched
      pub both : at < length keys → (left result : Option Winner) → IsBestBelow test keys (2 * at) best left → IsBestBelow test keys (2 * at + 1) left result → IsBestBelow test keys at best result
      both low left result first second = record { from = from first.from second.from; kept = λ other p. second.kept other (first.kept other p); least = least }
        where
          Found : Option Winner → Type 0
          Found r = (block : ℕ) × (block < length keys) × (r ≡ Some (leaf keys block)) × IsTrue (test block) × IsSome (get_or keys block None)

          from : ((left ≡ best) ⊎ Found left) → ((result ≡ left) ⊎ Found result) → (result ≡ best) ⊎ Found result
          from (inl e) (inl f) = inl (f ∙ e)
          from (inr g) (inl f) = inr (g.0, g.1, f ∙ g.2, g.3, g.4)
          from e (inr f) = inr f

          least : (block steps : ℕ) → block < length keys → Under steps at (length keys + block) → IsTrue (test block) → IsSome (get_or keys block None) → IsNotBehind result (leaf keys block)
          least block zero small e pass opened = absurd (omega (arith, low, e))
          least block (suc steps) small (inl e) pass opened = absurd (omega (arith, low, e))
          least block (suc steps) small (inr (inl u)) pass opened = second.kept (leaf keys block) (first.least block steps small u pass opened)
          least block (suc steps) small (inr (inr u)) pass opened = second.least block steps small u pass opened

-- ---- from the first node

module _ (keys : List (Option Key)) (test : ℕ → Bool) where
  root_least : (result : Option Winner) → IsBestBelow test keys 1 None result → (block : ℕ) → MayBeFirst test (λ b. get_or keys b None) block → IsNotBehind result (leaf keys block)
  root_least result best block may =
      let low = some_within keys block may.1 in
      let way = under_root (length keys + block) (length keys + block) (omega (arith, low)) (omega arith) in
      best.least block way.0 low way.1 may.0 may.1

  pub found_first : (w : Winner) → IsBestBelow test keys 1 None (Some w) → IsFirstBy test (λ b. get_or keys b None) (Some w.block)
  found_first w best = which best.from
    where
      behind : w ≡ leaf keys w.block → (block : ℕ) → IsNotBehind (Some w) (leaf keys block) → (block ≡ w.block) ⊎ IsBetterBy (λ b. get_or keys b None) w.block block
      behind own block (inl e) = inl (sym (ap (λ (v : Winner). v.block) e))
      behind own block (inr l) = inr (subst (λ (v : Winner). IsAhead v (leaf keys block)) own l)

      which : ((Some w ≡ None) ⊎ ((block : ℕ) × (block < length keys) × (Some w ≡ Some (leaf keys block)) × IsTrue (test block) × IsSome (get_or keys block None)))
          → IsFirstBy test (λ b. get_or keys b None) (Some w.block)
      which (inl e) = absurd (none-some w (sym e))
      which (inr found) =
          let same : w ≡ leaf keys found.0 = same_Some w (leaf keys found.0) found.2 in
          let number : w.block ≡ found.0 = ap (λ (v : Winner). v.block) same in (
            (subst (λ n. IsTrue (test n)) (sym number) found.3, subst (λ n. IsSome (get_or keys n None)) (sym number) found.4),
            λ block may. behind (same ∙ ap (leaf keys) (sym number)) block (root_least (Some w) best block may),
          )

  pub found_none : IsBestBelow test keys 1 None None → IsFirstBy test (λ b. get_or keys b None) None
  found_none best = λ block may. root_least None best block may

-- the first node has a key where some block has
module _ (keys : List (Option Key)) (winners : List Winner) (tree : IsKeyTree keys winners) where
  pub root_some : (block : ℕ) → IsSome (get_or keys block None) → IsSome (node keys winners 1).key
  root_some block opened =
      let low = some_within keys block opened in
      let way = under_root (length keys + block) (length keys + block) (omega (arith, low)) (omega arith) in
      open_key (node keys winners 1) (leaf keys block) (beats keys winners tree way.0 1 block (omega arith) low way.1) opened

  pub some_root : 0 < length keys → IsSome (node keys winners 1).key → (block : ℕ) × IsSome (get_or keys block None)
  some_root more opened = let found = leaf_of keys winners tree 1 (omega arith) (omega (arith, more)) in (found.0, subst (λ (w : Winner). IsSome w.key) found.2 opened)

-- Only expansions bring rows, one for each step at most; and the way back from a row passes each
-- row once, so it is no longer than there are rows.
use Rattle.std.proofs.Common.{◌≡◌, ◌⊎◌, inl, inr, ℕ, zero, suc, ◌+◌, ◌*◌, ◌<◌, ◌≤◌, length, Bool, true, false, cond, ◌||◌, ◌==◌, IsSome, List, [], ◌∷◌, ◌++◌, take, Option, Some, None, refl, sym, ap, ◌∙◌, subst, arith, true≢false}
use Rattle.std.specs.List.{AllByRecursion, IsDistinct}
use Rattle.std.proofs.lemmas.Bool.{or_left, or_right}
use Rattle.std.proofs.lemmas.List.{length-append}
use Rattle.std.proofs.Math.Nat.{mul-suc}
use Rattle.pb_model.specs.declared.row.Status.{Status}
use Rattle.pb_model.specs.declared.row.Status.TheVariants.{Closed, Cut}
use Rattle.pb_model.specs.declared.row.Row.{Row}
use Rattle.pb_model.specs.declared.row.Succ.{Succ}
use Rattle.pb_model.specs.Space.{Space, steps, IsProper}
use Rattle.pb_model.specs.Weight.{Weight}
use Rattle.pb_model.specs.Guide.{Guide}
use Rattle.pb_model.specs.Store.{Store, row_at, is_place_of}
use Rattle.pb_model.specs.Sound.{IsSound, HasParent}
use Rattle.pb_model.specs.Trace.{TracesBack}
use Rattle.pb_model.specs.Work.{Work, expand, break_off, cut, take_goal, lower, reopen, offered_row, row_after_offer, row_after_offers, with_status, row_after_status, reopened_row, row_after, g_before, store_after, Comes, expansions, broken_expansions, opening_store}
use Rattle.pb_model.proofs.Callers.{by_cases, and_true, equal, equal_self, some_row}
use Rattle.pb_task.proofs.Callers.{few_below}

-- ---- what is shown

-- so many states at most have a row at home
abbrev pub HasFewRows : Guide → Store → (most : ℕ) → Type 0
HasFewRows guide store most =
    (states : List ℕ) → IsDistinct (λ a b. a == b) states
    → AllByRecursion (λ state. IsSome (row_at guide store state)) states
    → length states ≤ most

abbrev pub RowsAreFew : Type 0
RowsAreFew =
    (space : Space) (guide : Guide) (weight : Weight) (works : List Work) (store : Store)
    → Comes space guide works (opening_store space guide weight) store
    → HasFewRows guide store
    (1 + space.actions * (expansions works + broken_expansions works))

abbrev pub TracesAreShort : Type 0
TracesAreShort =
    (space : Space) (greatest_cost : ℕ) (guide : Guide) (store : Store) (state most : ℕ)
    (actions : List ℕ)
    → IsProper space greatest_cost → IsSound space guide store → HasFewRows guide store most
    → TracesBack space guide store state actions → length actions ≤ most

-- ---- lists of states

-- whether the state is in the list
abbrev pub has : List ℕ → ℕ → Bool
has [] state = false
has (first ∷ states) state = (state == first) || has states state

-- the list without the first place of the state
abbrev without : (own : ℕ) → List ℕ → List ℕ
without own [] = []
without own (first ∷ states) = cond (own == first) states (first ∷ without own states)

one_less : (own : ℕ) (states : List ℕ) → has states own ≡ true
    → suc (length (without own states)) ≡ length states
one_less own [] h = absurd (true≢false (sym h))
one_less own (first ∷ states) h = by_cases (own == first)
    (λ e. ap (λ r. suc (length (cond r states (first ∷ without own states)))) e)
    (λ e. ap (λ r. suc (length (cond r states (first ∷ without own states)))) e
    ∙ ap suc (one_less own states (sym (ap (λ r. r || has states own) e) ∙ h)))

others_stay : (own state : ℕ) (states : List ℕ) → (own == state) ≡ false
    → has states state ≡ true → has (without own states) state ≡ true
others_stay own state [] other h = h
others_stay own state (first ∷ states) other h = by_cases (own == first)
    (λ e.
    let not_here : (state == first) ≡ false = by_cases (state == first)
    (λ same.
    let all : own ≡ state = equal own first e ∙ sym (equal state first same) in
    absurd (true≢false (sym (equal_self own) ∙ ap (λ k. own == k) all ∙ other)))
    (λ not_same. not_same) in
    ap (λ r. has (cond r states (first ∷ without own states)) state) e
    ∙ (sym (ap (λ r. r || has states state) not_here) ∙ h))
    (λ e. ap (λ r. has (cond r states (first ∷ without own states)) state) e
    ∙ by_cases (state == first)
    (λ is. or_left (state == first) (has (without own states) state) is)
    (λ is. or_right (state == first) (has (without own states) state)
    (others_stay own state states other (sym (ap (λ r. r || has states state) is) ∙ h))))

-- states that differ and are all in a list are no more than the list has
no_more : (states all : List ℕ) → IsDistinct (λ a b. a == b) states
    → AllByRecursion (λ state. has all state ≡ true) states → length states ≤ length all
unfolding IsDistinct
no_more [] all apart there = omega arith
no_more (own ∷ states) all apart there =
    let rest = no_more states (without own all) apart.1 (still states apart.0 there.1) in
    let one = one_less own all there.0 in
    omega (arith, rest, one)
  where
    still : (others : List ℕ) → AllByRecursion (λ state. (own == state) ≡ false) others
        → AllByRecursion (λ state. has all state ≡ true) others
        → AllByRecursion (λ state. has (without own all) state ≡ true) others
    still [] differ are = tt
    still (other ∷ others) differ are =
        (others_stay own other all differ.0 are.0, still others differ.1 are.1)

-- what is in one of two lists
pub has_left : (first second : List ℕ) (state : ℕ) → has first state ≡ true
    → has (first ++ second) state ≡ true
has_left [] second state h = absurd (true≢false (sym h))
has_left (x ∷ first) second state h = by_cases (state == x)
    (λ is. or_left (state == x) (has (first ++ second) state) is)
    (λ is. or_right (state == x) (has (first ++ second) state)
    (has_left first second state (sym (ap (λ r. r || has first state) is) ∙ h)))

pub has_right : (first second : List ℕ) (state : ℕ) → has second state ≡ true
    → has (first ++ second) state ≡ true
has_right [] second state h = h
has_right (x ∷ first) second state h =
    or_right (state == x) (has (first ++ second) state) (has_right first second state h)

-- ---- the states that work offers

abbrev pub states_of : List Succ → List ℕ
states_of [] = []
states_of (succ ∷ succs) = succ.state ∷ states_of succs

abbrev pub offered : Space → Work → List ℕ
offered space (expand own) = states_of (steps space own)
offered space (break_off own offers) = states_of (take offers (steps space own))
offered space (cut own) = []
offered space (take_goal own) = []
offered space (lower cost) = []
offered space (reopen weight) = []

abbrev all_offered : Space → List Work → List ℕ
all_offered space [] = []
all_offered space (work ∷ works) = offered space work ++ all_offered space works

same_long : (succs : List Succ) → length (states_of succs) ≡ length succs
same_long [] = refl
same_long (succ ∷ succs) = ap suc (same_long succs)

take_few : (k : ℕ) (succs : List Succ) → length (take k succs) ≤ length succs
take_few zero succs = omega arith
take_few (suc k) [] = omega arith
take_few (suc k) (succ ∷ succs) = let rest = take_few k succs in omega (arith, rest)

module _ (space : Space) where
  few_steps : (own : ℕ) → length (states_of (steps space own)) ≤ space.actions
  few_steps own =
      let same = same_long (steps space own) in
      let few = few_below space own space.actions in
      omega (arith, same, few)

  few_taken : (own k : ℕ) → length (states_of (take k (steps space own))) ≤ space.actions
  few_taken own k =
      let same = same_long (take k (steps space own)) in
      let part = take_few k (steps space own) in
      let few = few_below space own space.actions in
      omega (arith, same, part, few)

  pub few_offered : (works : List Work) → length (all_offered space works)
      ≤ space.actions * (expansions works + broken_expansions works)
  few_offered [] = omega arith
  few_offered (expand own ∷ works) =
      let both = length-append (states_of (steps space own)) (all_offered space works) in
      let here = few_steps own in
      let rest = few_offered works in
      let more = mul-suc space.actions (expansions works + broken_expansions works) in
      omega (arith, both, here, rest, more)
  few_offered (break_off own offers ∷ works) =
      let both = length-append (states_of (take offers (steps space own))) (all_offered space works) in
      let here = few_taken own offers in
      let rest = few_offered works in
      let more = mul-suc space.actions (expansions works + broken_expansions works) in
      let same : space.actions * (expansions works + (1 + broken_expansions works))
      ≡ space.actions * suc (expansions works + broken_expansions works) =
      ap (λ k. space.actions * k) (omega arith) in
      omega (arith, both, here, rest, more, same)
  few_offered (cut own ∷ works) = few_offered works
  few_offered (take_goal own ∷ works) = few_offered works
  few_offered (lower cost ∷ works) = few_offered works
  few_offered (reopen weight ∷ works) = few_offered works

-- ---- only offers bring rows

module _ (space : Space) (guide : Guide) where
  offer_brings : (own g : ℕ) (y : Succ) (home state : ℕ) (old : Option Row)
      → IsSome (row_after_offer guide own g y home state old)
      → IsSome old ⊎ ((state == y.state) ≡ true)
  offer_brings own g y home state old now = by_cases (is_place_of guide y.state home state)
      (λ e. inr (and_true (home == guide.home y.state) (state == y.state) e).1)
      (λ e. inl (subst (λ b. IsSome (cond b
      (Some (offered_row (g + y.cost) (guide.estimate state) (Some own) y.action old)) old)) e now))

  offers_bring : (own g : ℕ) (ys : List Succ) (home state : ℕ) (old : Option Row)
      → IsSome (row_after_offers guide own g ys home state old)
      → IsSome old ⊎ (has (states_of ys) state ≡ true)
  offers_bring own g [] home state old now = inl now
  offers_bring own g (y ∷ ys) home state old now =
      go (offers_bring own g ys home state (row_after_offer guide own g y home state old) now)
    where
      first : IsSome old ⊎ ((state == y.state) ≡ true)
          → IsSome old ⊎ (has (states_of (y ∷ ys)) state ≡ true)
      first (inl was) = inl was
      first (inr is) = inr (or_left (state == y.state) (has (states_of ys) state) is)

      go : IsSome (row_after_offer guide own g y home state old)
          ⊎ (has (states_of ys) state ≡ true)
          → IsSome old ⊎ (has (states_of (y ∷ ys)) state ≡ true)
      go (inl here) = first (offer_brings own g y home state old here)
      go (inr later) = inr (or_right (state == y.state) (has (states_of ys) state) later)

  status_brings : (own : ℕ) (status : Status) (home state : ℕ) (old : Option Row)
      → IsSome (row_after_status guide own status home state old) → IsSome old
  status_brings own status home state None now = go (is_place_of guide own home state) now
    where
      go : (b : Bool) → IsSome (cond b (with_status status None) None) → ◌≡◌ {A = Bool} false true
      go true is = is
      go false is = is
  status_brings own status home state (Some row) now = refl

  reopening_brings : (weight : Weight) (incumbent : Option ℕ) (old : Option Row)
      → IsSome (reopened_row weight incumbent old) → IsSome old
  reopening_brings weight None None now = now
  reopening_brings weight (Some cost) None now = now
  reopening_brings weight incumbent (Some row) now = refl

  pub work_brings : (work : Work) (g : ℕ) (incumbent : Option ℕ) (home state : ℕ) (old : Option Row)
      → IsSome (row_after space guide work g incumbent home state old)
      → IsSome old ⊎ (has (offered space work) state ≡ true)
  work_brings (expand own) g incumbent home state old now =
      offers_bring own g (steps space own) home state old
      (status_brings own Closed home state
      (row_after_offers guide own g (steps space own) home state old) now)
  work_brings (break_off own offers) g incumbent home state old now =
      offers_bring own g (take offers (steps space own)) home state old now
  work_brings (cut own) g incumbent home state old now =
      inl (status_brings own Cut home state old now)
  work_brings (take_goal own) g incumbent home state old now =
      inl (status_brings own Cut home state old now)
  work_brings (lower cost) g incumbent home state old now = inl now
  work_brings (reopen weight) g incumbent home state old now =
      inl (reopening_brings weight incumbent old now)

  works_bring : (works : List Work) (old new : Store) → Comes space guide works old new
      → (home state : ℕ) → IsSome (new.rows home state)
      → IsSome (old.rows home state) ⊎ (has (all_offered space works) state ≡ true)
  works_bring [] old new comes home state now =
      inl (subst (λ (s : Store). IsSome (s.rows home state)) comes now)
  works_bring (work ∷ works) old new comes home state now =
      go (works_bring works (store_after space guide work old) new comes.1 home state now)
    where
      first : IsSome (old.rows home state) ⊎ (has (offered space work) state ≡ true)
          → IsSome (old.rows home state) ⊎ (has (all_offered space (work ∷ works)) state ≡ true)
      first (inl was) = inl was
      first (inr is) = inr (has_left (offered space work) (all_offered space works) state is)

      go : IsSome ((store_after space guide work old).rows home state)
          ⊎ (has (all_offered space works) state ≡ true)
          → IsSome (old.rows home state) ⊎ (has (all_offered space (work ∷ works)) state ≡ true)
      go (inl here) = first (work_brings work (g_before guide old work) old.incumbent home state
          (old.rows home state) here)
      go (inr later) = inr (has_right (offered space work) (all_offered space works) state later)

  pub opening_is : (weight : Weight) (home state : ℕ)
      → IsSome ((opening_store space guide weight).rows home state)
      → (state == space.start) ≡ true
  opening_is weight home state now = by_cases (is_place_of guide space.start home state)
      (λ e. (and_true (home == guide.home space.start) (state == space.start) e).1)
      (λ e. absurd (true≢false (sym (subst (λ b. IsSome (cond b
      (Some (offered_row 0 (guide.estimate space.start) None 0 None)) None)) e now))))

  -- each row is of the start or of a state that was offered
  rows_are_met : (weight : Weight) (works : List Work) (store : Store)
      → Comes space guide works (opening_store space guide weight) store
      → (state : ℕ) → IsSome (row_at guide store state)
      → has (space.start ∷ all_offered space works) state ≡ true
  rows_are_met weight works store comes state now =
      go (works_bring works (opening_store space guide weight) store comes (guide.home state) state now)
    where
      go : IsSome ((opening_store space guide weight).rows (guide.home state) state)
          ⊎ (has (all_offered space works) state ≡ true)
          → has (space.start ∷ all_offered space works) state ≡ true
      go (inl first) = or_left (state == space.start) (has (all_offered space works) state)
          (opening_is weight (guide.home state) state first)
      go (inr later) = or_right (state == space.start) (has (all_offered space works) state) later

pub all_met : (P Q : ℕ → Type 0) → ((state : ℕ) → P state → Q state) → (states : List ℕ)
    → AllByRecursion P states → AllByRecursion Q states
all_met P Q f [] h = tt
all_met P Q f (state ∷ states) h = (f state h.0, all_met P Q f states h.1)

-- if each row is of a state of a list, there are no more rows than the list has states
pub few_of_met : (guide : Guide) (store : Store) (all : List ℕ)
    → ((state : ℕ) → IsSome (row_at guide store state) → has all state ≡ true)
    → HasFewRows guide store (length all)
few_of_met guide store all met states apart there =
    no_more states all apart
    (all_met (λ state. IsSome (row_at guide store state)) (λ state. has all state ≡ true) met states
    there)

pub rows_are_few : RowsAreFew
rows_are_few space guide weight works store comes states apart there =
    let few = few_of_met guide store (space.start ∷ all_offered space works)
    (rows_are_met space guide weight works store comes) states apart there in
    let long = few_offered space works in
    omega (arith, few, long)

-- ---- the way back to the start

some_is : (x y : ℕ) → ◌≡◌ {A = Option ℕ} (Some x) (Some y) → x ≡ y
some_is x y e = cc

module _ (space : Space) (greatest_cost : ℕ) (proper : IsProper space greatest_cost)
    (guide : Guide) (store : Store) (sound : IsSound space guide store) where
  -- the states that a trace passes
  abbrev passed : (actions : List ℕ) (state : ℕ) → TracesBack space guide store state actions → List ℕ
  passed [] state back = state ∷ []
  passed (action ∷ actions) state back =
      state ∷ passed actions back.1.1 back.1.5

  -- each has a row, whose g is no greater than this
  abbrev AreWithin : (most : ℕ) → List ℕ → Type 0
  AreWithin most states =
      AllByRecursion (λ state. (row : Row) × (row_at guide store state ≡ Some row) × (row.g ≤ most)) states

  raised : (low high : ℕ) (states : List ℕ) → low ≤ high → AreWithin low states
      → AreWithin high states
  raised low high [] le are = tt
  raised low high (state ∷ states) le are =
      let g = are.0.2 in
      ((are.0.0, are.0.1, omega (arith, g, le)), raised low high states le are.1)

  -- a row that isn't the start's is dearer than its parent's
  parent_is_cheaper : (state : ℕ) (row : Row) (parent : ℕ) → row_at guide store state ≡ Some row
      → row.parent ≡ Some parent → (state == space.start) ≡ false
      → (before : Row) × (row_at guide store parent ≡ Some before) × (before.g < row.g)
  parent_is_cheaper state row parent found named other = go (sound.parent state row found)
    where
      go : (state ≡ space.start) ⊎ HasParent space guide store state row
          → (before : Row) × (row_at guide store parent ≡ Some before) × (before.g < row.g)
      go (inl is) = absurd (true≢false (sym (equal_self state) ∙ ap (λ k. state == k) is ∙ other))
      go (inr has_parent) =
          let same : has_parent.parent ≡ parent = some_is has_parent.parent parent (sym has_parent.named ∙ named) in
          let positive = proper.positive has_parent.parent row.action state has_parent.cost has_parent.step in
          let cheaper = has_parent.cheaper in (
            has_parent.parent_row,
            subst (λ k. row_at guide store k ≡ Some has_parent.parent_row) same has_parent.found,
            omega (arith, positive, cheaper),
          )

  within : (actions : List ℕ) (state : ℕ) (back : TracesBack space guide store state actions)
      (row : Row) → row_at guide store state ≡ Some row → AreWithin row.g (passed actions state back)
  within [] state back row found = ((row, found, omega arith), tt)
  within (action ∷ actions) state back row found =
      let own = back.1 in
      let same : own.0 ≡ row = some_row own.0 row (sym own.2 ∙ found) in
      let parent : row.parent ≡ Some own.1 = ap (λ (r : Row). r.parent) (sym same) ∙ own.4 in
      let before = parent_is_cheaper state row own.1 found parent back.0 in
      let rest = within actions own.1 own.5 before.0 before.1 in
      let less = before.2 in (
        (row, found, omega arith),
        raised before.0.g row.g (passed actions own.1 own.5) (omega (arith, less)) rest,
      )

  differ : (state : ℕ) (row : Row) (low : ℕ) → row_at guide store state ≡ Some row → low < row.g
      → (states : List ℕ) → AreWithin low states
      → AllByRecursion (λ other. (state == other) ≡ false) states
  differ state row low found less [] are = tt
  differ state row low found less (other ∷ states) are = (
    by_cases (state == other)
        (λ e.
        let same : row_at guide store other ≡ Some row = ap (λ k. row_at guide store k) (sym (equal state other e)) ∙ found in
        let rows : are.0.0 ≡ row = some_row are.0.0 row (sym are.0.1 ∙ same) in
        let gs : are.0.0.g ≡ row.g = ap (λ (r : Row). r.g) rows in
        let low_g = are.0.2 in
        absurd (omega (arith, gs, low_g, less)))
        (λ e. e),
    differ state row low found less states are.1,
  )

  apart : (actions : List ℕ) (state : ℕ) (back : TracesBack space guide store state actions)
      (row : Row) → row_at guide store state ≡ Some row
      → IsDistinct (λ a b. a == b) (passed actions state back)
  unfolding IsDistinct
  apart [] state back row found = (tt, tt)
  apart (action ∷ actions) state back row found =
      let own = back.1 in
      let same : own.0 ≡ row = some_row own.0 row (sym own.2 ∙ found) in
      let parent : row.parent ≡ Some own.1 = ap (λ (r : Row). r.parent) (sym same) ∙ own.4 in
      let before = parent_is_cheaper state row own.1 found parent back.0 in (
        differ state row before.0.g found before.2 (passed actions own.1 own.5)
            (within actions own.1 own.5 before.0 before.1),
        apart actions own.1 own.5 before.0 before.1,
      )

  have_rows : (most : ℕ) (states : List ℕ) → AreWithin most states
      → AllByRecursion (λ state. IsSome (row_at guide store state)) states
  have_rows most [] are = tt
  have_rows most (state ∷ states) are =
      (subst (λ (r : Option Row). IsSome r) (sym are.0.1) refl, have_rows most states are.1)

  one_more_long : (actions : List ℕ) (state : ℕ) (back : TracesBack space guide store state actions)
      → length (passed actions state back) ≡ suc (length actions)
  one_more_long [] state back = refl
  one_more_long (action ∷ actions) state back = ap suc (one_more_long actions back.1.1 back.1.5)

  short : (actions : List ℕ) (state : ℕ) (back : TracesBack space guide store state actions)
      (row : Row) → row_at guide store state ≡ Some row → (most : ℕ) → HasFewRows guide store most
      → length actions ≤ most
  short actions state back row found most few =
      let all = few (passed actions state back) (apart actions state back row found)
      (have_rows row.g (passed actions state back) (within actions state back row found)) in
      let long = one_more_long actions state back in
      omega (arith, all, long)

pub traces_are_short : TracesAreShort
traces_are_short space greatest_cost guide store state most [] proper sound few back = omega arith
traces_are_short space greatest_cost guide store state most (action ∷ actions) proper sound few back =
    short space greatest_cost proper guide store sound (action ∷ actions) state back back.1.0 back.1.2 most few

-- Work on rows, and the Opened ones: each piece closes one, and only an expansion brings new ones.
use Rattle.std.proofs.Common.{◌≡◌, ℕ, zero, suc, ◌+◌, ◌*◌, ◌≤◌, length, Bool, true, false, cond, ◌||◌, ◌==◌, List, [], ◌∷◌, ◌++◌, take, Option, Some, None, refl, sym, ap, ◌∙◌, subst, arith, true≢false, ◌⊎◌, inl, inr}
use Rattle.std.specs.List.{AllByRecursion}
use Rattle.std.proofs.lemmas.Bool.{and_from, or_left, or_right}
use Rattle.std.proofs.lemmas.List.{length-append}
use Rattle.std.proofs.Math.Nat.{mul-suc}
use Rattle.pb_model.specs.declared.row.Status.TheVariants.{Opened, Closed, Cut}
use Rattle.pb_model.specs.declared.row.Status.{Status}
use Rattle.pb_model.specs.declared.row.Row.{Row}
use Rattle.pb_model.specs.declared.row.Succ.{Succ}
use Rattle.pb_model.specs.Space.{Space, steps}
use Rattle.pb_model.specs.Guide.{Guide}
use Rattle.pb_model.specs.Store.{Store, row_at, is_place_of, HasOpenedRow}
use Rattle.pb_model.specs.Work.{Work, expand, break_off, cut, take_goal, lower, reopen, offered_row, row_after_offer, row_after_offers, with_status, row_after_status, g_of, store_after, May, Comes, expansions, broken_expansions}
use Rattle.pb_model.proofs.Callers.{by_cases, and_true, not_both, equal, equal_self}
use Rattle.pb_machine.specs.Machine.{IsOn}
use Rattle.pb_task.proofs.Callers.{few_below}

-- ---- lists of states

-- whether the state is in the list
abbrev pub has : List ℕ → ℕ → Bool
has [] state = false
has (first ∷ states) state = (state == first) || has states state

-- the list without the first place of the state
abbrev without : (own : ℕ) → List ℕ → List ℕ
without own [] = []
without own (first ∷ states) = cond (own == first) states (first ∷ without own states)

one_less : (own : ℕ) (states : List ℕ) → has states own ≡ true → suc (length (without own states)) ≡ length states
one_less own [] h = absurd (true≢false (sym h))
one_less own (first ∷ states) h = by_cases (own == first)
    (λ e. ap (λ r. suc (length (cond r states (first ∷ without own states)))) e)
    (λ e. ap (λ r. suc (length (cond r states (first ∷ without own states)))) e ∙ ap suc (one_less own states (sym (ap (λ r. r || has states own) e) ∙ h)))

others_stay : (own state : ℕ) (states : List ℕ) → (state == own) ≡ false → has states state ≡ true → has (without own states) state ≡ true
others_stay own state [] other h = h
others_stay own state (first ∷ states) other h = by_cases (own == first)
    (λ e.
    let not_here : (state == first) ≡ false = ap (λ k. state == k) (sym (equal own first e)) ∙ other in
    ap (λ r. has (cond r states (first ∷ without own states)) state) e ∙ (sym (ap (λ r. r || has states state) not_here) ∙ h))
    (λ e. ap (λ r. has (cond r states (first ∷ without own states)) state) e ∙ by_cases (state == first)
    (λ is. or_left (state == first) (has (without own states) state) is)
    (λ is. or_right (state == first) (has (without own states) state) (others_stay own state states other (sym (ap (λ r. r || has states state) is) ∙ h))))

-- what is in one of two lists
has_left : (first second : List ℕ) (state : ℕ) → has first state ≡ true → has (first ++ second) state ≡ true
has_left [] second state h = absurd (true≢false (sym h))
has_left (x ∷ first) second state h = by_cases (state == x)
    (λ is. or_left (state == x) (has (first ++ second) state) is)
    (λ is. or_right (state == x) (has (first ++ second) state) (has_left first second state (sym (ap (λ r. r || has first state) is) ∙ h)))

has_right : (first second : List ℕ) (state : ℕ) → has second state ≡ true → has (first ++ second) state ≡ true
has_right [] second state h = h
has_right (x ∷ first) second state h = or_right (state == x) (has (first ++ second) state) (has_right first second state h)

-- ---- successors

abbrev states_of : List Succ → List ℕ
states_of [] = []
states_of (succ ∷ succs) = succ.state ∷ states_of succs

same_long : (succs : List Succ) → length (states_of succs) ≡ length succs
same_long [] = refl
same_long (succ ∷ succs) = ap suc (same_long succs)

take_few : (k : ℕ) (succs : List Succ) → length (take k succs) ≤ length succs
take_few zero succs = omega arith
take_few (suc k) [] = omega arith
take_few (suc k) (succ ∷ succs) = let rest = take_few k succs in omega (arith, rest)

-- ---- the Opened rows

-- Each Opened row is at its state's home, and its state is in the list.
abbrev pub Covers : Guide → List ℕ → Store → Type 0
Covers guide states store = (home state : ℕ) (row : Row) → store.rows home state ≡ Some row → row.status ≡ Opened → (home ≡ guide.home state) × (has states state ≡ true)

-- how many pieces of the work leave a row that isn't Opened any more
abbrev pub closings : List Work → ℕ
closings [] = 0
closings (expand own ∷ works) = 1 + closings works
closings (cut own ∷ works) = 1 + closings works
closings (take_goal own ∷ works) = 1 + closings works
closings (work ∷ works) = closings works

-- products
pub at_most_once : (a b : ℕ) → b ≤ 1 → a * b ≤ a
at_most_once a zero le = omega arith
at_most_once a (suc zero) le = omega arith
at_most_once a (suc (suc b)) le = absurd (omega (arith, le))

pub nonzero : (n : ℕ) → (n ≡ 0 → ⊥) → 1 ≤ n
nonzero zero h = absurd (h refl)
nonzero (suc n) h = omega arith

spread : (actions expanded broken last first all closed : ℕ) → last + closed ≤ first + actions * (expanded + broken) → first + 1 ≤ all + actions → last + (1 + closed) ≤ all + actions * ((1 + expanded) + broken)
spread actions expanded broken last first all closed rest one = let product = mul-suc actions (expanded + broken) in let same : (1 + expanded) + broken ≡ suc (expanded + broken) = omega arith in
    let moved = ap (λ n. actions * n) same in omega (arith, rest, one, product, moved)

spread_broken : (actions expanded broken last first all closed : ℕ) → last + closed ≤ first + actions * (expanded + broken) → first ≤ all + actions → last + closed ≤ all + actions * (expanded + (1 + broken))
spread_broken actions expanded broken last first all closed rest one = let product = mul-suc actions (expanded + broken) in let same : expanded + (1 + broken) ≡ suc (expanded + broken) = omega arith in
    let moved = ap (λ n. actions * n) same in omega (arith, rest, one, product, moved)

module _ (space : Space) (guide : Guide) where
  -- a row that is Opened after offers was so before, or is a successor's
  offered : (succs : List Succ) (own g home state : ℕ) (old : Option Row) (row : Row) → row_after_offers guide own g succs home state old ≡ Some row
      → (old ≡ Some row) ⊎ ((home ≡ guide.home state) × (has (states_of succs) state ≡ true))
  offered [] own g home state old row is = inl is
  offered (succ ∷ succs) own g home state old row is = by_cases (is_place_of guide succ.state home state)
      (λ e.
      let parts = and_true (home == guide.home succ.state) (state == succ.state) e in
      let same : state ≡ succ.state = equal state succ.state parts.1 in
      inr (equal home (guide.home succ.state) parts.0 ∙ ap guide.home (sym same), or_left (state == succ.state) (has (states_of succs) state) parts.1))
      (λ e. else e (offered succs own g home state (row_after_offer guide own g succ home state old) row is))
    where
      else : is_place_of guide succ.state home state ≡ false → (row_after_offer guide own g succ home state old ≡ Some row) ⊎ ((home ≡ guide.home state) × (has (states_of succs) state ≡ true))
          → (old ≡ Some row) ⊎ ((home ≡ guide.home state) × (has (states_of (succ ∷ succs)) state ≡ true))
      else e (inl same) = inl (sym (ap (λ r. cond r (Some (offered_row (g + succ.cost) (guide.estimate state) (Some own) succ.action old)) old) e) ∙ same)
      else e (inr found) = inr (found.0, or_right (state == succ.state) (has (states_of succs) state) found.1)

  -- ---- one piece of work

  -- a row that is at the own place of the work
  own_covered : (states : List ℕ) (store : Store) (own : ℕ) → Covers guide states store → HasOpenedRow guide store own → has states own ≡ true
  own_covered states store own covers opened = (covers (guide.home own) own opened.0 opened.1 opened.2).1

  -- a row that got another status isn't Opened; any other row stays
  marked : (states : List ℕ) (own : ℕ) (status : Status) (before : ℕ → ℕ → Option Row) → ((row : Row) → status ≡ Opened → ⊥)
      → ((home state : ℕ) (row : Row) → before home state ≡ Some row → row.status ≡ Opened → (home ≡ guide.home state) × (has states state ≡ true))
      → (home state : ℕ) (row : Row) → row_after_status guide own status home state (before home state) ≡ Some row → row.status ≡ Opened → (home ≡ guide.home state) × (has (without own states) state ≡ true)
  marked states own status before not_opened covers home state row is opened = by_cases (is_place_of guide own home state)
      (λ e. absurd (here (before home state) (sym (ap (λ r. cond r (with_status status (before home state)) (before home state)) e) ∙ is)))
      (λ e.
      let was : before home state ≡ Some row = sym (ap (λ r. cond r (with_status status (before home state)) (before home state)) e) ∙ is in
      let found = covers home state row was opened in
      (found.0, others_stay own state states (apart found.0 e) found.1))
    where
      here : (o : Option Row) → with_status status o ≡ Some row → ⊥
      here None h = let bad : ◌≡◌ {A = Option Row} None (Some row) = h in cc
      here (Some old) h = not_opened row (ap (λ (o : Option Row). status_of o) h ∙ opened)
        where
          status_of : Option Row → Status
          status_of None = Opened
          status_of (Some r) = r.status

      apart : home ≡ guide.home state → is_place_of guide own home state ≡ false → (state == own) ≡ false
      apart at e = by_cases (state == own)
          (λ same. not_both (is_place_of guide own home state) (and_from (home == guide.home own) (state == own) (subst (λ k. (k == guide.home own) ≡ true) (sym at) (subst (λ k. (guide.home k == guide.home own) ≡ true) (sym (equal state own same)) (equal_self (guide.home own)))) same) e)
          (λ other. other)

  -- the rows after offers are covered with the successors
  offers_covered : (succs : List Succ) (own g : ℕ) (states : List ℕ) (store : Store) → Covers guide states store → (home state : ℕ) (row : Row)
      → row_after_offers guide own g succs home state (store.rows home state) ≡ Some row → row.status ≡ Opened → (home ≡ guide.home state) × (has (states_of succs ++ states) state ≡ true)
  offers_covered succs own g states store covers home state row is opened = go (offered succs own g home state (store.rows home state) row is)
    where
      go : (store.rows home state ≡ Some row) ⊎ ((home ≡ guide.home state) × (has (states_of succs) state ≡ true)) → (home ≡ guide.home state) × (has (states_of succs ++ states) state ≡ true)
      go (inl was) = let found = covers home state row was opened in (found.0, has_right (states_of succs) states state found.1)
      go (inr found) = (found.0, has_left (states_of succs) states state found.1)

  expanded : (own : ℕ) (states : List ℕ) (store : Store) → May space guide (expand own) store → Covers guide states store
      → (left : List ℕ) × Covers guide left (store_after space guide (expand own) store) × (length left + 1 ≤ length states + space.actions)
  expanded own states store may covers =
      let succs = steps space own in
      let all = states_of succs ++ states in
      let own_there : has all own ≡ true = has_right (states_of succs) states own (own_covered states store own covers may.0) in
      let less = one_less own all own_there in
      let sum = length-append (states_of succs) states in
      let same = same_long succs in
      let few = few_below space own space.actions in (
        without own all,
        marked all own Closed (λ home state. row_after_offers guide own (g_of (row_at guide store own)) succs home state (store.rows home state)) (λ row h. not_opened row h)
            (λ home state row is opened. offers_covered succs own (g_of (row_at guide store own)) states store covers home state row is opened),
        omega (arith, less, sum, same, few),
      )
    where
      not_opened : (row : Row) → ◌≡◌ {A = Status} Closed Opened → ⊥
      not_opened row h = cc

  broken_off : (own offers : ℕ) (states : List ℕ) (store : Store) → Covers guide states store
      → (left : List ℕ) × Covers guide left (store_after space guide (break_off own offers) store) × (length left ≤ length states + space.actions)
  broken_off own offers states store covers =
      let succs = take offers (steps space own) in
      let sum = length-append (states_of succs) states in
      let same = same_long succs in
      let fewer = take_few offers (steps space own) in
      let few = few_below space own space.actions in (
        states_of succs ++ states,
        λ home state row is opened. offers_covered succs own (g_of (row_at guide store own)) states store covers home state row is opened,
        omega (arith, sum, same, few, fewer),
      )

  closed_off : (own : ℕ) (states : List ℕ) (store : Store) → HasOpenedRow guide store own → Covers guide states store
      → (left : List ℕ) × Covers guide left (store_after space guide (cut own) store) × (length left + 1 ≤ length states)
  closed_off own states store may covers =
      let less = one_less own states (own_covered states store own covers may) in (
        without own states,
        marked states own Cut store.rows (λ row h. not_opened row h) covers,
        omega (arith, less),
      )
    where
      not_opened : (row : Row) → ◌≡◌ {A = Status} Cut Opened → ⊥
      not_opened row h = cc

  -- ---- the work of a lease

  pub works_covered : (block : ℕ) (known : Option ℕ → Bool) (works : List Work) (old new : Store) (states : List ℕ) → AllByRecursion (IsOn guide block known) works → Comes space guide works old new → Covers guide states old
      → (left : List ℕ) × Covers guide left new × (length left + closings works ≤ length states + space.actions * (expansions works + broken_expansions works))
  works_covered block known [] old new states on comes covers = (states, subst (λ (q : Store). Covers guide states q) (sym comes) covers, omega arith)
  works_covered block known (expand own ∷ works) old new states on comes covers =
      let first = expanded own states old comes.0 covers in
      let rest = works_covered block known works (store_after space guide (expand own) old) new first.0 on.1 comes.1 first.1 in
      (rest.0, rest.1, spread space.actions (expansions works) (broken_expansions works) (length rest.0) (length first.0) (length states) (closings works) rest.2 first.2)
  works_covered block known (break_off own offers ∷ works) old new states on comes covers =
      let first = broken_off own offers states old covers in
      let rest = works_covered block known works (store_after space guide (break_off own offers) old) new first.0 on.1 comes.1 first.1 in
      (rest.0, rest.1, spread_broken space.actions (expansions works) (broken_expansions works) (length rest.0) (length first.0) (length states) (closings works) rest.2 first.2)
  works_covered block known (cut own ∷ works) old new states on comes covers =
      let first = closed_off own states old (comes.0.0, comes.0.1, comes.0.2) covers in
      let rest = works_covered block known works (store_after space guide (cut own) old) new first.0 on.1 comes.1 first.1 in
      (rest.0, rest.1, omega (arith, rest.2, first.2))
  works_covered block known (take_goal own ∷ works) old new states on comes covers =
      let first = closed_off own states old comes.0.0 covers in
      let rest = works_covered block known works (store_after space guide (take_goal own) old) new first.0 on.1 comes.1 first.1 in
      (rest.0, rest.1, omega (arith, rest.2, first.2))
  works_covered block known (lower cost ∷ works) old new states on comes covers =
      let rest = works_covered block known works (store_after space guide (lower cost) old) new states on.1 comes.1 covers in
      (rest.0, rest.1, rest.2)
  works_covered block known (reopen weight ∷ works) old new states on comes covers = absurd on.0

  -- work that closes no row, and breaks off no expansion, leaves all rows
  pub rows_stay : (block : ℕ) (known : Option ℕ → Bool) (works : List Work) (old new : Store) → AllByRecursion (IsOn guide block known) works → Comes space guide works old new → closings works ≡ 0 → broken_expansions works ≡ 0
      → (home state : ℕ) → new.rows home state ≡ old.rows home state
  rows_stay block known [] old new on comes none whole home state = ap (λ (q : Store). q.rows home state) comes
  rows_stay block known (expand own ∷ works) old new on comes none whole home state = absurd (omega (arith, none))
  rows_stay block known (break_off own offers ∷ works) old new on comes none whole home state = absurd (omega (arith, whole))
  rows_stay block known (cut own ∷ works) old new on comes none whole home state = absurd (omega (arith, none))
  rows_stay block known (take_goal own ∷ works) old new on comes none whole home state = absurd (omega (arith, none))
  rows_stay block known (lower cost ∷ works) old new on comes none whole home state = rows_stay block known works (store_after space guide (lower cost) old) new on.1 comes.1 none whole home state
  rows_stay block known (reopen weight ∷ works) old new on comes none whole home state = absurd on.0

-- each expansion closes its row
pub expansions_close : (works : List Work) → expansions works ≤ closings works
expansions_close [] = omega arith
expansions_close (expand own ∷ works) = let rest = expansions_close works in omega (arith, rest)
expansions_close (break_off own offers ∷ works) = expansions_close works
expansions_close (cut own ∷ works) = let rest = expansions_close works in omega (arith, rest)
expansions_close (take_goal own ∷ works) = let rest = expansions_close works in omega (arith, rest)
expansions_close (lower cost ∷ works) = expansions_close works
expansions_close (reopen weight ∷ works) = expansions_close works

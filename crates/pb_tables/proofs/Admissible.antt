-- Tables and traps that suit a task estimate no more than a way to a goal costs.
use Rattle.std.proofs.Common.{◌≡◌, ℕ, suc, ◌+◌, ◌-◌, ◌<◌, ◌≤◌, Bool, true, false, not, ◌&&◌, ◌||◌, ◌==◌, nat_le, List, [], ◌∷◌, length, Option, None, Some, is_some, is_none, slice_index, refl, sym, subst, ap, ◌∙◌, arith, if◌then◌else◌}
use Rattle.std.proofs.lemmas.Bool.{false≢true, both_ways, or_parts, eqb-true, not-false, leb-true}
use Rattle.std.proofs.lemmas.Option.{slice_get_within, get_or_from_slice_get}
use Rattle.pb_model.specs.declared.row.Estimate.TheVariants.{Cost, Dead}
use Rattle.pb_model.specs.Plan.{Walk}
use Rattle.pb_model.specs.Guide.{IsLowerBound}
use Rattle.pb_task.specs.declared.parts.StripsParts.{StripsParts}
use Rattle.pb_task.specs.Strips.{strips_space, is_strips_goal, action_at, Acts}
use Rattle.pb_task.proofs.Callers.{strips_act}
use Rattle.pb_tables.specs.declared.fault.TablesFault.{TablesFault}
use Rattle.pb_tables.specs.declared.fault.TablesFault.TheVariants.{Line, Unpaid}
use Rattle.pb_tables.specs.Below.{or_else, some_if, first_below, any_below, greatest_below}
use Rattle.pb_tables.specs.Images.{both, may_act, image_after, has_goal, place_in, is_open}
use Rattle.pb_tables.specs.Tables.{TrapValue, TableValue, TablesValue, table_at, trap_at, value_at, value_in, drop_at, drop_of, drops_of}
use Rattle.pb_tables.specs.Suits.{line_of, is_dear_goal, table_fault, trap_fault, unpaid_in, unpaid_of, first_order_fault, first_step_fault, first_unpaid, tables_fault, suit}
use Rattle.pb_tables.specs.Estimate.{catches, is_trapped, place_of, is_unlisted, sum_of, tables_estimate}
use Rattle.pb_tables.specs.Laws.{TablesAreAdmissible}
use Rattle.pb_tables.proofs.Searches.{else_none, if_none, first_none, any_none, any_found, none_any, greatest_covers, greatest_bound, sum_lowered, sum_none}
use Rattle.pb_tables.proofs.Imaging.{image_of_step, may_take, goal_in_image, IsPlace, place_is, some_place, stays_listed}

-- ---- what is known where there is no fault

pub line_none : (list : ℕ) (line : Option ℕ) → line_of list line ≡ None → line ≡ None
line_none list None e = refl
line_none list (Some line) e = absurd (let f : ◌≡◌ {A = Option TablesFault} (Some (Line list line)) None = e in cc)

pub unpaid_none : (sum : ℕ) (action : Option ℕ) → unpaid_of sum action ≡ None → action ≡ None
unpaid_none sum None e = refl
unpaid_none sum (Some action) e = absurd (let f : ◌≡◌ {A = Option TablesFault} (Some (Unpaid sum action)) None = e in cc)

is_none_is : (fault : Option TablesFault) → is_none fault ≡ true → fault ≡ None
is_none_is None e = refl
is_none_is (Some fault) e = absurd (false≢true e)

-- an image of a table is no dear goal, and no action leads out
pub record IsSafe (strips : StripsParts) (sums : ℕ) (table : TableValue) (place : ℕ) : Type 0 where
  pub goal : is_dear_goal strips sums table place ≡ false
  pub closed : is_open strips table.tracked table.listed (slice_index table.listed place) ≡ false

-- an image of a trap is no goal, and no action leads out
pub record IsCaught (strips : StripsParts) (trap : TrapValue) (place : ℕ) : Type 0 where
  pub goal : has_goal strips trap.tracked (slice_index trap.listed place) ≡ false
  pub closed : is_open strips trap.tracked trap.listed (slice_index trap.listed place) ≡ false

pub record IsFaultless (strips : StripsParts) (tables : TablesValue) : Type 0 where
  pub order : first_order_fault strips tables ≡ None
  pub safe : (number place : ℕ) → number < length tables.tables → place < length (table_at tables.tables number).listed → IsSafe strips tables.sums (table_at tables.tables number) place
  pub caught : (number place : ℕ) → number < length tables.traps → place < length (trap_at tables.traps number).listed → IsCaught strips (trap_at tables.traps number) place
  pub paid : (sum action : ℕ) → sum < tables.sums → action < length strips.actions
      → drops_of strips.atoms (action_at strips.actions action) tables.sums tables.tables (length tables.tables) sum ≤ (action_at strips.actions action).cost

pub faultless : (strips : StripsParts) (tables : TablesValue) → suit strips tables ≡ true → IsFaultless strips tables
unfolding first_step_fault first_unpaid
faultless strips tables suits =
    let parts = else_none (first_order_fault strips tables) (or_else (first_step_fault strips tables) (first_unpaid strips tables)) (is_none_is (tables_fault strips tables) suits) in
    let later = else_none (first_step_fault strips tables) (first_unpaid strips tables) parts.1 in
    let lists = else_none
    (first_below (length tables.tables) (λ list. line_of list (table_fault strips tables.sums (table_at tables.tables list))))
    (first_below (length tables.traps) (λ list. line_of (length tables.tables + list) (trap_fault strips (trap_at tables.traps list)))) later.0 in
    record {
      order = parts.0;
      safe = λ number place less inside.
          let table = table_at tables.tables number in
          let own : table_fault strips tables.sums table ≡ None = line_none number (table_fault strips tables.sums table) (first_none (length tables.tables) (λ list. line_of list (table_fault strips tables.sums (table_at tables.tables list))) lists.0 number less) in
          let here = or_parts (is_dear_goal strips tables.sums table place) (is_open strips table.tracked table.listed (slice_index table.listed place))
          (if_none (is_dear_goal strips tables.sums table place || is_open strips table.tracked table.listed (slice_index table.listed place)) (suc place)
          (first_none (length table.listed) (λ p. some_if (is_dear_goal strips tables.sums table p || is_open strips table.tracked table.listed (slice_index table.listed p)) (suc p)) own place inside)) in
          record { goal = here.0; closed = here.1 };
      caught = λ number place less inside.
          let trap = trap_at tables.traps number in
          let own : trap_fault strips trap ≡ None = line_none (length tables.tables + number) (trap_fault strips trap) (first_none (length tables.traps) (λ list. line_of (length tables.tables + list) (trap_fault strips (trap_at tables.traps list))) lists.1 number less) in
          let here = or_parts (has_goal strips trap.tracked (slice_index trap.listed place)) (is_open strips trap.tracked trap.listed (slice_index trap.listed place))
          (if_none (has_goal strips trap.tracked (slice_index trap.listed place) || is_open strips trap.tracked trap.listed (slice_index trap.listed place)) (suc place)
          (first_none (length trap.listed) (λ p. some_if (has_goal strips trap.tracked (slice_index trap.listed p) || is_open strips trap.tracked trap.listed (slice_index trap.listed p)) (suc p)) own place inside)) in
          record { goal = here.0; closed = here.1 };
      paid = λ sum action less inside.
          let own : unpaid_in strips tables.sums tables.tables sum ≡ None = unpaid_none sum (unpaid_in strips tables.sums tables.tables sum) (first_none tables.sums (λ s. unpaid_of s (unpaid_in strips tables.sums tables.tables s)) later.1 sum less) in
          let drops = λ (a : ℕ). drops_of strips.atoms (action_at strips.actions a) tables.sums tables.tables (length tables.tables) sum in
          let here : nat_le (drops action) (action_at strips.actions action).cost ≡ true = not-false (nat_le (drops action) (action_at strips.actions action).cost)
          (if_none (not (nat_le (drops action) (action_at strips.actions action).cost)) action
          (first_none (length strips.actions) (λ a. some_if (not (nat_le (drops a) (action_at strips.actions a).cost)) a) own action inside)) in
          leb-true (drops action) (action_at strips.actions action).cost here;
    }

-- ---- traps

module _ (strips : StripsParts) (tables : TablesValue) (is : IsFaultless strips tables) (number : ℕ) (less : number < length tables.traps) where
  caught_at : (state : ℕ) → catches strips.atoms state (trap_at tables.traps number) ≡ true
      → (has_goal strips (trap_at tables.traps number).tracked (both strips.atoms state (trap_at tables.traps number).tracked) ≡ false)
      × (is_open strips (trap_at tables.traps number).tracked (trap_at tables.traps number).listed (both strips.atoms state (trap_at tables.traps number).tracked) ≡ false)
  caught_at state caught =
      let trap = trap_at tables.traps number in
      let image = both strips.atoms state trap.tracked in
      let found : (place : ℕ) × (place_in trap.listed image ≡ Some place) = some_place (place_in trap.listed image) caught in
      let place : IsPlace trap.listed image found.0 = place_is trap.listed image found.0 found.1 in
      let here : IsCaught strips trap found.0 = is.caught number found.0 less place.inside in
      (subst (λ i. has_goal strips trap.tracked i ≡ false) place.there here.goal, subst (λ i. is_open strips trap.tracked trap.listed i ≡ false) place.there here.closed)

  pub no_way : (actions : List ℕ) (from cost goal : ℕ) → catches strips.atoms from (trap_at tables.traps number) ≡ true → Walk (strips_space strips) from actions cost goal
      → is_strips_goal strips goal ≡ true → ⊥
  no_way [] from cost goal caught walk reached =
      both_ways (has_goal strips (trap_at tables.traps number).tracked (both strips.atoms from (trap_at tables.traps number).tracked)) (caught_at from caught).0
      (goal_in_image strips (trap_at tables.traps number).tracked from (subst (λ state. is_strips_goal strips state ≡ true) walk.1 reached))
  no_way (action ∷ actions) from cost goal caught walk reached =
      let trap = trap_at tables.traps number in
      let a : Acts strips from action walk.0 walk.1 = (strips_act strips from action walk.0 walk.1).0 walk.3 in
      no_way actions walk.0 walk.2 goal (stays_listed strips trap.tracked trap.listed from action walk.0 walk.1 a (caught_at from caught).1) walk.4 reached

-- ---- tables

in_sum : (one : Bool) → (zero_value : Bool) → one ≡ true → (one && not zero_value) ≡ false → zero_value ≡ true
in_sum true true e f = refl
in_sum true false e f = sym f
in_sum false zero_value e f = absurd (false≢true e)

right_false : (one other : Bool) → one ≡ true → (one && other) ≡ false → other ≡ false
right_false true other e f = f
right_false false other e f = absurd (false≢true e)

none_or_some : (place : Option ℕ) → is_none place ≡ false → is_some place ≡ true
none_or_some None e = sym e
none_or_some (Some place) e = refl

some_not_none : (place : Option ℕ) → is_some place ≡ true → is_none place ≡ false
some_not_none None e = sym e
some_not_none (Some place) e = refl

module _ (strips : StripsParts) (tables : TablesValue) (is : IsFaultless strips tables) (number : ℕ) (less : number < length tables.tables) where
  abbrev table : TableValue
  table = table_at tables.tables number

  abbrev image_of : ℕ → ℕ
  image_of state = both strips.atoms state table.tracked

  abbrev value_of : (sum state : ℕ) → ℕ
  value_of sum state = value_in tables.sums table.values sum (place_of strips.atoms state table)

  pub no_value_at_goal : (sum state : ℕ) → sum < tables.sums → is_some (place_of strips.atoms state table) ≡ true → is_strips_goal strips state ≡ true → value_of sum state ≡ 0
  no_value_at_goal sum state below listed reached =
      let found : (place : ℕ) × (place_in table.listed (image_of state) ≡ Some place) = some_place (place_in table.listed (image_of state)) listed in
      let place : IsPlace table.listed (image_of state) found.0 = place_is table.listed (image_of state) found.0 found.1 in
      let here : IsSafe strips tables.sums table found.0 = is.safe number found.0 less place.inside in
      let goal : has_goal strips table.tracked (slice_index table.listed found.0) ≡ true =
      subst (λ i. has_goal strips table.tracked i ≡ true) (sym place.there) (goal_in_image strips table.tracked state reached) in
      let none : any_below tables.sums (λ s. not (value_at tables.sums table.values s found.0 == 0)) ≡ false = right_false _ _ goal here.goal in
      let value : (value_at tables.sums table.values sum found.0 == 0) ≡ true = not-false (value_at tables.sums table.values sum found.0 == 0)
      (any_none tables.sums (λ s. not (value_at tables.sums table.values s found.0 == 0)) none sum below) in
      ap (value_in tables.sums table.values sum) found.1 ∙ eqb-true (value_at tables.sums table.values sum found.0) 0 value

  module _ (from action to cost : ℕ) (a : Acts strips from action to cost) (listed : is_some (place_of strips.atoms from table) ≡ true) where
    pub stays : is_some (place_of strips.atoms to table) ≡ true
    stays =
        let found : (place : ℕ) × (place_in table.listed (image_of from) ≡ Some place) = some_place (place_in table.listed (image_of from)) listed in
        let place : IsPlace table.listed (image_of from) found.0 = place_is table.listed (image_of from) found.0 found.1 in
        stays_listed strips table.tracked table.listed from action to cost a
        (subst (λ i. is_open strips table.tracked table.listed i ≡ false) place.there (is.safe number found.0 less place.inside).closed)

    pub lowers : (sum : ℕ) → value_of sum from ≤ drop_of strips.atoms tables.sums a.act table sum + value_of sum to
    lowers sum =
        let found : (place : ℕ) × (place_in table.listed (image_of from) ≡ Some place) = some_place (place_in table.listed (image_of from)) listed in
        let place : IsPlace table.listed (image_of from) found.0 = place_is table.listed (image_of from) found.0 found.1 in
        let covers : drop_at strips.atoms tables.sums a.act table sum found.0 ≤ drop_of strips.atoms tables.sums a.act table sum =
        greatest_covers (length table.listed) (drop_at strips.atoms tables.sums a.act table sum) found.0 place.inside in
        let next = λ (image : ℕ). value_in tables.sums table.values sum (place_in table.listed (image_after strips.atoms table.tracked a.act image)) in
        let may : may_act strips.atoms table.tracked a.act (slice_index table.listed found.0) ≡ true =
        subst (λ i. may_act strips.atoms table.tracked a.act i ≡ true) (sym place.there) (may_take strips table.tracked from action to cost a) in
        let drop : drop_at strips.atoms tables.sums a.act table sum found.0 ≡ value_at tables.sums table.values sum found.0 - next (slice_index table.listed found.0) =
        ap (λ (b : Bool). if b then value_at tables.sums table.values sum found.0 - next (slice_index table.listed found.0) else 0) may in
        let same : next (slice_index table.listed found.0) ≡ value_of sum to =
        ap next place.there ∙ ap (λ i. value_in tables.sums table.values sum (place_in table.listed i)) (sym (image_of_step strips table.tracked from action to cost a)) in
        let own : value_of sum from ≡ value_at tables.sums table.values sum found.0 = ap (value_in tables.sums table.values sum) found.1 in
        omega (arith, covers, drop, same, own)

-- ---- all tables

module _ (strips : StripsParts) (tables : TablesValue) (is : IsFaultless strips tables) where
  abbrev IsListed : (state : ℕ) → Type 0
  IsListed state = is_unlisted strips.atoms tables.tables (length tables.tables) state ≡ false

  listed_in : (state : ℕ) → IsListed state → (number : ℕ) → number < length tables.tables → is_some (place_of strips.atoms state (table_at tables.tables number)) ≡ true
  listed_in state listed number less =
      none_or_some (place_of strips.atoms state (table_at tables.tables number))
      (any_none (length tables.tables) (λ n. is_none (place_of strips.atoms state (table_at tables.tables n))) listed number less)

  all_stay : (from action to cost : ℕ) → Acts strips from action to cost → IsListed from → IsListed to
  all_stay from action to cost a listed = none_any (length tables.tables) (λ n. is_none (place_of strips.atoms to (table_at tables.tables n))) (λ number less.
      some_not_none (place_of strips.atoms to (table_at tables.tables number)) (stays strips tables is number less from action to cost a (listed_in from listed number less)))

  pub along : (actions : List ℕ) (from cost goal sum : ℕ) → sum < tables.sums → IsListed from → Walk (strips_space strips) from actions cost goal → is_strips_goal strips goal ≡ true
      → sum_of strips.atoms tables.sums tables.tables (length tables.tables) from sum ≤ cost
  along [] from cost goal sum less listed walk reached =
      let here : is_strips_goal strips from ≡ true = subst (λ state. is_strips_goal strips state ≡ true) walk.1 reached in
      let none : sum_of strips.atoms tables.sums tables.tables (length tables.tables) from sum ≡ 0 =
      sum_none (length tables.tables) _ (λ number below. no_value_at_goal strips tables is number below sum from less (listed_in from listed number below) here) in
      omega (arith, none)
  along (action ∷ actions) from cost goal sum less listed walk reached =
      let a : Acts strips from action walk.0 walk.1 = (strips_act strips from action walk.0 walk.1).0 walk.3 in
      let rest : sum_of strips.atoms tables.sums tables.tables (length tables.tables) walk.0 sum ≤ walk.2 =
      along actions walk.0 walk.2 goal sum less (all_stay from action walk.0 walk.1 a listed) walk.4 reached in
      let one : sum_of strips.atoms tables.sums tables.tables (length tables.tables) from sum
      ≤ drops_of strips.atoms a.act tables.sums tables.tables (length tables.tables) sum + sum_of strips.atoms tables.sums tables.tables (length tables.tables) walk.0 sum =
      sum_lowered (length tables.tables) _ _ _ (λ number below. lowers strips tables is number below from action walk.0 walk.1 a (listed_in from listed number below) sum) in
      let known : action_at strips.actions action ≡ a.act = get_or_from_slice_get strips.actions action a.act (record { name = []; needs = 0; adds = 0; deletes = 0; cost = 1 }) a.is in
      let price : drops_of strips.atoms a.act tables.sums tables.tables (length tables.tables) sum ≤ a.act.cost =
      subst (λ act. drops_of strips.atoms act tables.sums tables.tables (length tables.tables) sum ≤ act.cost) known (is.paid sum action less (slice_get_within strips.actions action a.act a.is)) in
      omega (arith, rest, one, price, a.price, walk.5)

bound_by : (value cost : ℕ) (trapped unlisted : Bool) → (trapped ≡ true → ⊥) → (unlisted ≡ false → value ≤ cost)
    → IsLowerBound (if trapped then Dead else (if unlisted then Cost 0 else Cost value)) cost
bound_by value cost true unlisted never bound = absurd (never refl)
bound_by value cost false true never bound = omega arith
bound_by value cost false false never bound = bound refl

pub tables_are_admissible : TablesAreAdmissible
unfolding tables_estimate
tables_are_admissible strips tables suits state actions cost goal is_state walk reached =
    let is : IsFaultless strips tables = faultless strips tables suits in
    bound_by (greatest_below tables.sums (sum_of strips.atoms tables.sums tables.tables (length tables.tables) state)) cost
    (is_trapped strips.atoms tables.traps state) (is_unlisted strips.atoms tables.tables (length tables.tables) state)
    (λ trapped.
    let found : (number : ℕ) × (number < length tables.traps) × (catches strips.atoms state (trap_at tables.traps number) ≡ true) =
    any_found (length tables.traps) (λ n. catches strips.atoms state (trap_at tables.traps n)) trapped in
    no_way strips tables is found.0 found.1 actions state cost goal found.2 walk reached)
    (λ listed. greatest_bound tables.sums (sum_of strips.atoms tables.sums tables.tables (length tables.tables) state) cost
    (λ sum less. along strips tables is actions state cost goal sum less listed walk reached))

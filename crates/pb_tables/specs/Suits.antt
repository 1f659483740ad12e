-- Whether tables suit a task, and the first fault if they don't.
use Rattle.std.specs.Prelude.{ℕ, suc, ◌+◌, ◌-◌, Bool, not, ◌&&◌, ◌||◌, ◌==◌, nat_lt, nat_le, List, length, Option, None, Some, is_none, slice_index, if◌then◌else◌}
use Rattle.pb_task.specs.declared.parts.StripsParts.{StripsParts}
use Rattle.pb_task.specs.Strips.{is_atom_set, action_at}
use Rattle.pb_tables.specs.declared.fault.TablesFault.{TablesFault}
use Rattle.pb_tables.specs.declared.fault.TablesFault.TheVariants.{Line, Unpaid}
use Rattle.pb_tables.specs.Below.{or_else, some_if, first_below, any_below}
use Rattle.pb_tables.specs.Images.{both, has_goal, is_open}
use Rattle.pb_tables.specs.Tables.{TrapValue, TableValue, TablesValue, table_at, trap_at, value_at, drops_of}

-- the line of a list that is at fault; lists are numbered from 0, the tables before the traps
abbrev pub line_of : (list : ℕ) → (line : Option ℕ) → Option TablesFault
line_of list None = None
line_of list (Some line) = Some (Line list line)

-- ---- how lists are written

-- the image in a place is of tracked atoms, and above the one before it
abbrev pub is_ordered : (count tracked : ℕ) → (listed : List ℕ) → (place : ℕ) → Bool
is_ordered count tracked listed place =
    both count (slice_index listed place) tracked == slice_index listed place
    && (place == 0 || nat_lt (slice_index listed (place - 1)) (slice_index listed place))

-- the first line of a list that isn't written as one: 0 is the line of the tracked atoms, and 1 that
-- of the first image
abbrev pub order_fault : (count tracked : ℕ) → (listed : List ℕ) → Option ℕ
order_fault count tracked listed =
    if is_atom_set count tracked
    then first_below (length listed) (λ place. some_if
    (not (is_ordered count tracked listed place)) (suc place))
    else Some 0

-- ---- where goals are and steps lead

-- the image in a place of a table has all tracked atoms of the goal, and a value other than 0
abbrev pub is_dear_goal : StripsParts → (sums : ℕ) → TableValue → (place : ℕ) → Bool
is_dear_goal strips sums table place =
    has_goal strips table.tracked (slice_index table.listed place)
    && any_below sums (λ sum. not (value_at sums table.values sum place == 0))

-- the first line of a table with such an image, or from whose image an action leads to none of the
-- table
abbrev pub table_fault : StripsParts → (sums : ℕ) → TableValue → Option ℕ
table_fault strips sums table =
    first_below (length table.listed) (λ place. some_if
    (is_dear_goal strips sums table place
    || is_open strips table.tracked table.listed (slice_index table.listed place)) (suc place))

-- the first line of a trap whose image has all tracked atoms of the goal, or from which an action
-- leads to no image of the trap
abbrev pub trap_fault : StripsParts → TrapValue → Option ℕ
trap_fault strips trap =
    first_below (length trap.listed) (λ place. some_if
    (has_goal strips trap.tracked (slice_index trap.listed place)
    || is_open strips trap.tracked trap.listed (slice_index trap.listed place)) (suc place))

-- ---- what actions pay for

-- the action costs less than it lowers a sum over the tables at most
abbrev pub is_unpaid : StripsParts → (sums : ℕ) → List TableValue → (sum action : ℕ) → Bool
is_unpaid strips sums tables sum action =
    not (nat_le (drops_of strips.atoms (action_at strips.actions action) sums tables (length tables)
    sum) (action_at strips.actions action).cost)

-- the least action that costs less than it lowers a sum
abbrev pub unpaid_in : StripsParts → (sums : ℕ) → List TableValue → (sum : ℕ) → Option ℕ
unpaid_in strips sums tables sum =
    first_below (length strips.actions) (λ action. some_if
    (is_unpaid strips sums tables sum action) action)

abbrev pub unpaid_of : (sum : ℕ) → (action : Option ℕ) → Option TablesFault
unpaid_of sum None = None
unpaid_of sum (Some action) = Some (Unpaid sum action)

-- ---- all of them

-- the first line of the tables that isn't written as one
abbrev pub tables_order_fault : (count : ℕ) → List TableValue → Option TablesFault
tables_order_fault count tables =
    first_below (length tables) (λ list. line_of list
    (order_fault count (table_at tables list).tracked (table_at tables list).listed))

-- the same of the traps, the first of which has the number `before`
abbrev pub traps_order_fault : (count before : ℕ) → List TrapValue → Option TablesFault
traps_order_fault count before traps =
    first_below (length traps) (λ list. line_of (before + list)
    (order_fault count (trap_at traps list).tracked (trap_at traps list).listed))

-- the first line of all lists that isn't written as one
unfoldable pub first_order_fault : StripsParts → TablesValue → Option TablesFault
first_order_fault strips tables =
    or_else (tables_order_fault strips.atoms tables.tables)
    (traps_order_fault strips.atoms (length tables.tables) tables.traps)

-- the first line of the tables from which a step leads out, or with a dear goal
abbrev pub tables_step_fault : StripsParts → (sums : ℕ) → List TableValue → Option TablesFault
tables_step_fault strips sums tables =
    first_below (length tables) (λ list. line_of list
    (table_fault strips sums (table_at tables list)))

-- the first line of the traps from which a step leads out, or with a goal
abbrev pub traps_step_fault : StripsParts → (before : ℕ) → List TrapValue → Option TablesFault
traps_step_fault strips before traps =
    first_below (length traps) (λ list. line_of (before + list)
    (trap_fault strips (trap_at traps list)))

-- the first line of all lists from which a step leads out, or with a goal that isn't as it should be
unfoldable pub first_step_fault : StripsParts → TablesValue → Option TablesFault
first_step_fault strips tables =
    or_else (tables_step_fault strips tables.sums tables.tables)
    (traps_step_fault strips (length tables.tables) tables.traps)

-- the least sum that some action lowers by more than its cost, and the least such action
abbrev pub sums_unpaid : StripsParts → (sums : ℕ) → List TableValue → Option TablesFault
sums_unpaid strips sums tables =
    first_below sums (λ sum. unpaid_of sum (unpaid_in strips sums tables sum))

unfoldable pub first_unpaid : StripsParts → TablesValue → Option TablesFault
first_unpaid strips tables = sums_unpaid strips tables.sums tables.tables

-- the first fault: in how lists are written, then in where steps lead, then in what is paid
abbrev pub tables_fault : StripsParts → TablesValue → Option TablesFault
tables_fault strips tables =
    or_else (first_order_fault strips tables) (or_else (first_step_fault strips tables)
    (first_unpaid strips tables))

-- Tables and traps suit a task if and only if they have no fault.
abbrev pub suit : StripsParts → TablesValue → Bool
suit strips tables = is_none (tables_fault strips tables)

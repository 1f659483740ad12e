-- How long reports and certificates are: their numbers have 19 digits at most.
use Rattle.std.proofs.Common.{◌≡◌, ℕ, ◌+◌, ◌*◌, ◌^◌, ◌<◌, ◌≤◌, length, map, Bool, true, false, List, [], ◌∷◌, ◌++◌, Option, Some, None, codes, ap, arith, if◌then◌else◌}
use Rattle.std.specs.Prelude.{⊤}
use Rattle.std.specs.Fmt.{decimal}
use Rattle.std.specs.List.{AllByRecursion}
use Rattle.std.proofs.lemmas.Fmt.{length-decimal-le}
use Rattle.std.proofs.lemmas.List.{length-append, length-map}
use Rattle.std.proofs.Math.Nat.{mul-suc, add-mul, mul-le-mul_left}
use Rattle.pb_packed.specs.Digits.{hex_digits}
use Rattle.pb_packed.proofs.Callers.{digits_are_hex}
use Rattle.pb_model.specs.Plan.{Plan}
use Rattle.pb_model.specs.Weight.{Weight}
use Rattle.pb_model.specs.Certificate.{Line, Certificate}
use Rattle.pb_model.specs.Texts.{line, lines, spaced, plan_report, stopped_report, line_text, plan_text, weight_text, rows_text}
use Rattle.pb_task.specs.declared.kind.Kind.{Kind}
use Rattle.pb_task.specs.declared.kind.Kind.TheVariants.{Grid, Tiles, Strips}
use Rattle.pb_task.specs.declared.grounding.Grounding.{Grounding}
use Rattle.pb_task.specs.declared.grounding.Grounding.TheVariants.{All, Reachable}
use Rattle.pb_tables.specs.Tables.{TablesValue}
use Rattle.pb_table_lines.specs.Lines.{tables_lines}
use Rattle.pb_estimate.specs.Choices.{Choice, Plain, Pattern, Tables}
use Rattle.pb_estimate.specs.declared.spelling.Spelling.{Spelling}
use Rattle.pb_estimate.specs.declared.spelling.Stated.{Stated}
use Rattle.pb_estimate.specs.declared.spelling.Version.{Version}
use Rattle.pb_estimate.specs.declared.spelling.Version.TheVariants.{One, Two, Three, Four}
use Rattle.pb_estimate.specs.Spelling.{version_line, kind_line, width_text, choice_text, grounding_line, estimate_text, stated_text, version_of, head_of, spelled_text}

pub line_long : (text : List ℕ) → length (line text) ≡ length text + 1
line_long text = length-append text (10 ∷ [])

pub spaced_long : (first second : List ℕ)
    → length (spaced first second) ≡ length first + (1 + length second)
spaced_long first second = let sum = length-append first (32 ∷ second) in omega (arith, sum)

pub number_long : (n : ℕ) → n < 2 ^ 63 → length (decimal n) ≤ 19
number_long n small = length-decimal-le 19 n (omega arith) (omega (arith, small)) (omega (arith, small))

pub long_number_long : (n : ℕ) → n < 2 ^ 64 → length (decimal n) ≤ 20
long_number_long n small =
    length-decimal-le 20 n (omega arith) (omega (arith, small)) (omega (arith, small))

-- lines of which none is longer
pub mapped_long : {A : Type 0} (text : A → List ℕ) (most : ℕ) (xs : List A)
    → AllByRecursion (λ x. length (text x) ≤ most) xs
    → length (lines (map text xs)) ≤ (most + 1) * length xs
mapped_long text most [] all = omega arith
mapped_long text most (x ∷ xs) all =
    let both = length-append (line (text x)) (lines (map text xs)) in
    let one = line_long (text x) in
    let here = all.0 in
    let rest = mapped_long text most xs all.1 in
    let more = mul-suc (most + 1) (length xs) in
    omega (arith, both, one, here, rest, more)

three_long : (first second third : List ℕ) → length (first ++ second ++ third)
    ≡ length first + length second + length third
three_long first second third =
    let both = length-append (first ++ second) third in
    let one = length-append first second in
    omega (arith, both, one)

-- ---- reports

pub plan_report_long : (name : ℕ → List ℕ) (actions : List ℕ) (cost bound longest : ℕ)
    → AllByRecursion (λ action. length (name action) ≤ longest) actions
    → length actions < 2 ^ 63 → cost < 2 ^ 64 → bound < 2 ^ 64
    → length (plan_report (map name actions) cost bound)
    ≤ 128 + (longest + 1) * length actions
plan_report_long name actions cost bound longest names few small low =
    let count : ℕ = length (map name actions) in
    let same : count ≡ length actions = length-map actions name in
    let first = line_long (spaced (codes "plan") (spaced (decimal cost) (decimal count))) in
    let one = spaced_long (codes "plan") (spaced (decimal cost) (decimal count)) in
    let two = spaced_long (decimal cost) (decimal count) in
    let steps = mapped_long name longest actions names in
    let last = line_long (spaced (codes "bound") (decimal bound)) in
    let three = spaced_long (codes "bound") (decimal bound) in
    let all = three_long (line (spaced (codes "plan") (spaced (decimal cost) (decimal count))))
    (lines (map name actions)) (line (spaced (codes "bound") (decimal bound))) in
    let costs = long_number_long cost small in
    let counts = number_long count (omega (arith, same, few)) in
    let bounds = long_number_long bound low in
    omega (arith, first, one, two, steps, last, three, all, costs, counts, bounds)

pub stopped_long : (budget : ℕ) → budget < 2 ^ 63 → length (stopped_report budget) ≤ 64
stopped_long budget small =
    let whole = line_long (spaced (codes "stopped budget") (decimal budget)) in
    let one = spaced_long (codes "stopped budget") (decimal budget) in
    let digits = number_long budget small in
    omega (arith, whole, one, digits)

-- ---- certificates

row_long : (digits : ℕ) (row : Line) → row.g < 2 ^ 63 → length (line_text digits row) ≤ digits + 27
row_long digits row small =
    let state = (digits_are_hex digits row.state).0 in
    let g = number_long row.g small in
    let word : List ℕ = if row.is_closed then codes "closed" else codes "cut" in
    let first = spaced_long (hex_digits digits row.state) (spaced (decimal row.g) word) in
    let second = spaced_long (decimal row.g) word in
    let end = word_long row.is_closed in
    omega (arith, state, g, first, second, end)
  where
    word_long : (closed : Bool) → length (if closed then codes "closed" else codes "cut") ≤ 6
    word_long true = omega arith
    word_long false = omega arith

rows_long : (digits : ℕ) (rows : List Line) → length rows < 2 ^ 63
    → AllByRecursion (λ row. row.g < 2 ^ 63) rows
    → length (rows_text digits rows) ≤ 32 + (digits + 28) * length rows
rows_long digits rows few small =
    let each = all_long rows small in
    let all = mapped_long (line_text digits) (digits + 27) rows each in
    let head = line_long (spaced (codes "rows") (decimal (length rows))) in
    let one = spaced_long (codes "rows") (decimal (length rows)) in
    let count = number_long (length rows) few in
    let both = length-append (line (spaced (codes "rows") (decimal (length rows)))) (lines (map (line_text digits) rows)) in
    let same : (digits + 27 + 1) * length rows ≡ (digits + 28) * length rows = ap (λ k. k * length rows) (omega arith) in
    omega (arith, all, head, one, count, both, same)
  where
    all_long : (rows : List Line) → AllByRecursion (λ row. row.g < 2 ^ 63) rows
        → AllByRecursion (λ row. length (line_text digits row) ≤ digits + 27) rows
    all_long [] small = tt
    all_long (row ∷ rows) small = (row_long digits row small.0, all_long rows small.1)

-- a plan whose numbers are small
pub record IsSmallPlan (most : ℕ) (plan : Plan) : Type 0 where
  pub steps : length plan.actions ≤ most
  pub actions : AllByRecursion (λ action. action < 65536) plan.actions
  pub cost : plan.cost < 2 ^ 64

abbrev pub IsSmallPlanIfAny : (most : ℕ) → Option Plan → Type 0
IsSmallPlanIfAny most None = ⊤
IsSmallPlanIfAny most (Some plan) = IsSmallPlan most plan

stated_plan_long : (most : ℕ) (plan : Option Plan) → most < 2 ^ 63 → IsSmallPlanIfAny most plan
    → length (plan_text plan) ≤ 51 + 6 * most
stated_plan_long most None few small = omega arith
stated_plan_long most (Some plan) few small =
    let count : ℕ = length plan.actions in
    let head = line_long (spaced (codes "plan") (decimal count)) in
    let one = spaced_long (codes "plan") (decimal count) in
    let last = line_long (spaced (codes "cost") (decimal plan.cost)) in
    let two = spaced_long (codes "cost") (decimal plan.cost) in
    let steps = mapped_long decimal 5 plan.actions (each plan.actions small.actions) in
    let all = three_long (line (spaced (codes "plan") (decimal count)))
    (lines (map decimal plan.actions)) (line (spaced (codes "cost") (decimal plan.cost))) in
    let within = small.steps in
    let counts = number_long count (omega (arith, within, few)) in
    let costs = long_number_long plan.cost small.cost in
    omega (arith, head, one, last, two, steps, all, within, counts, costs)
  where
    each : (actions : List ℕ) → AllByRecursion (λ action. action < 65536) actions
        → AllByRecursion (λ action. length (decimal action) ≤ 5) actions
    each [] are = tt
    each (action ∷ actions) are =
        let less = are.0 in (
          length-decimal-le 5 action (omega arith) (omega (arith, less)) (omega (arith, less)),
          each actions are.1,
        )

weight_long : (weight : Weight) → weight.num < 2 ^ 63 → weight.den < 2 ^ 63
    → length (weight_text weight) ≤ 47
weight_long weight num den =
    let whole = line_long (spaced (codes "weight") (spaced (decimal weight.num) (decimal weight.den))) in
    let one = spaced_long (codes "weight") (spaced (decimal weight.num) (decimal weight.den)) in
    let two = spaced_long (decimal weight.num) (decimal weight.den) in
    let nums = number_long weight.num num in
    let dens = number_long weight.den den in
    omega (arith, whole, one, two, nums, dens)

-- the plain choice, or a pattern whose number is small
abbrev pub IsSmallChoice : Choice → Type 0
IsSmallChoice Plain = ⊤
IsSmallChoice (Pattern number) = number < 2 ^ 63
IsSmallChoice (Tables tables) = ⊥

kind_long : (kind : Kind) → length (line (kind_line kind)) ≤ 12
kind_long Grid = omega arith
kind_long Tiles = omega arith
kind_long Strips = omega arith

version_long : (version : Version) → length (line (version_line version)) ≤ 19
version_long One = omega arith
version_long Two = omega arith
version_long Three = omega arith
version_long Four = omega arith

one_line_long : (text : List ℕ) → length (lines (text ∷ [])) ≡ length text + 1
one_line_long text =
    let one = line_long text in
    let both = length-append (line text) [] in
    omega (arith, one, both)

width_line_long : (width : ℕ) → width < 2 ^ 63
    → length (lines (spaced (codes "width") (decimal width) ∷ [])) ≤ 26
width_line_long width small =
    let one = one_line_long (spaced (codes "width") (decimal width)) in
    let two = spaced_long (codes "width") (decimal width) in
    let number = number_long width small in
    omega (arith, one, two, number)

width_long : (version : Version) (width : ℕ) → width < 2 ^ 63
    → length (lines (width_text version width)) ≤ 26
width_long One width small = omega arith
width_long Two width small = width_line_long width small
width_long Three width small = width_line_long width small
width_long Four width small = width_line_long width small

choice_long : (choice : Choice) → IsSmallChoice choice → length (lines (choice_text choice)) ≤ 28
choice_long Plain small = omega arith
choice_long (Pattern number) small =
    let one = one_line_long (spaced (codes "pattern") (decimal number)) in
    let two = spaced_long (codes "pattern") (decimal number) in
    let digits = number_long number small in
    omega (arith, one, two, digits)
choice_long (Tables tables) small = absurd small

pub lines_append : (first second : List (List ℕ)) → length (lines (first ++ second))
    ≡ length (lines first) + length (lines second)
lines_append [] second = omega arith
lines_append (text ∷ first) second =
    let rest = lines_append first second in
    let one = length-append (line text) (lines (first ++ second)) in
    let two = length-append (line text) (lines first) in
    omega (arith, rest, one, two)

grounding_long : (grounding : Grounding) → length (line (grounding_line grounding)) ≤ 20
grounding_long All = omega arith
grounding_long Reachable = omega arith

estimate_long : (width : ℕ) (choice : Choice) → IsSmallChoice choice
    → length (lines (estimate_text width choice)) ≤ 37
estimate_long width Plain small = omega arith
estimate_long width (Pattern number) small =
    let one = one_line_long (spaced (codes "estimate pattern") (decimal number)) in
    let two = spaced_long (codes "estimate pattern") (decimal number) in
    let digits = number_long number small in
    omega (arith, one, two, digits)
estimate_long width (Tables tables) small = absurd small

stated_long : (version : Version) (width : ℕ) (stated : Stated) → IsSmallChoice stated.choice
    → length (lines (stated_text version width stated)) ≤ 57
stated_long One width stated small = omega arith
stated_long Two width stated small = omega arith
stated_long Three width stated small =
    let choice = choice_long stated.choice small in
    omega (arith, choice)
stated_long Four width stated small =
    let estimate = lines (estimate_text width stated.choice) in
    let both = length-append (line (grounding_line stated.grounding)) estimate in
    let grounding = grounding_long stated.grounding in
    let choice = estimate_long width stated.choice small in
    omega (arith, both, grounding, choice)

-- the lines up to the estimate, if those from the grounding on have so many bytes
head_long_with : (spelling : Spelling) (bytes : ℕ) → spelling.width < 2 ^ 63
    → length (lines (stated_text spelling.version spelling.width spelling.stated)) ≤ bytes
    → length (lines (head_of spelling)) ≤ 57 + bytes
head_long_with spelling bytes small besides =
    let widths = width_text spelling.version spelling.width in
    let stated = stated_text spelling.version spelling.width spelling.stated in
    let first = length-append (line (version_line spelling.version))
    (line (kind_line spelling.kind) ++ lines (widths ++ stated)) in
    let second = length-append (line (kind_line spelling.kind)) (lines (widths ++ stated)) in
    let third = lines_append widths stated in
    let version = version_long spelling.version in
    let kind = kind_long spelling.kind in
    let width = width_long spelling.version spelling.width small in
    omega (arith, first, second, third, version, kind, width, besides)

-- the lines up to the estimate, if it isn't one of tables
pub head_long : (spelling : Spelling) → spelling.width < 2 ^ 63
    → IsSmallChoice spelling.stated.choice
    → length (lines (head_of spelling)) ≤ 114
head_long spelling small fine =
    head_long_with spelling 57 small (stated_long spelling.version spelling.width spelling.stated fine)

-- the same of tables whose lines have so many bytes
pub head_with_tables_long : (kind : Kind) (grounding : Grounding) (width : ℕ)
    (tables : TablesValue) (bytes : ℕ)
    → width < 2 ^ 63 → length (lines (tables_lines width tables)) ≤ bytes
    → length (lines (head_of (record {
      kind = kind;
      version = version_of grounding (Tables tables);
      width = width;
      stated = record { grounding = grounding; choice = Tables tables };
    }))) ≤ 77 + bytes
head_with_tables_long kind grounding width tables bytes small short = go grounding
  where
    -- behind the line of the grounding
    stated : (grounding : Grounding)
        → length (lines (stated_text Four width (record { grounding = grounding; choice = Tables tables })))
        ≤ 20 + bytes
    stated grounding =
        let both = length-append (line (grounding_line grounding)) (lines (tables_lines width tables)) in
        let first = grounding_long grounding in
        omega (arith, both, first, short)

    four : (grounding : Grounding) → length (lines (head_of (record {
      kind = kind;
      version = Four;
      width = width;
      stated = record { grounding = grounding; choice = Tables tables };
    }))) ≤ 77 + bytes
    four grounding =
        let all = head_long_with (record {
          kind = kind;
          version = Four;
          width = width;
          stated = record { grounding = grounding; choice = Tables tables };
        }) (20 + bytes) small (stated grounding) in
        omega (arith, all)

    go : (grounding : Grounding) → length (lines (head_of (record {
      kind = kind;
      version = version_of grounding (Tables tables);
      width = width;
      stated = record { grounding = grounding; choice = Tables tables };
    }))) ≤ 77 + bytes
    go All = four All
    go Reachable = four Reachable

-- a certificate whose numbers are small, with so many rows and steps at most
pub record IsSmallCertificate (most : ℕ) (certificate : Certificate) : Type 0 where
  pub few : most < 2 ^ 63
  pub num : certificate.weight.num < 2 ^ 63
  pub den : certificate.weight.den < 2 ^ 63
  pub plan : IsSmallPlanIfAny most certificate.plan
  pub rows : length certificate.lines ≤ most
  pub costs : AllByRecursion (λ row. row.g < 2 ^ 63) certificate.lines

-- the whole text, if the lines up to the estimate have so many bytes
pub certificate_long : (spelling : Spelling) (certificate : Certificate) (most bytes : ℕ)
    → length (lines (head_of spelling)) ≤ bytes → IsSmallCertificate most certificate
    → length (spelled_text spelling certificate) ≤ 142 + bytes + (spelling.width + 34) * most
certificate_long spelling certificate most bytes heads small =
    let digits = spelling.width in
    let head = lines (head_of spelling) in
    let weight = weight_text certificate.weight in
    let plan = plan_text certificate.plan in
    let rows = rows_text digits certificate.lines in
    let first = three_long head weight plan in
    let whole = three_long (head ++ weight ++ plan) rows (line (codes "end")) in
    let few = small.few in
    let within = small.rows in
    let weights = weight_long certificate.weight small.num small.den in
    let plans = stated_plan_long most certificate.plan small.few small.plan in
    let all = rows_long digits certificate.lines (omega (arith, within, few)) small.costs in
    let more = mul-le-mul_left (digits + 28) within in
    let sum = add-mul (digits + 28) 6 most in
    let same : (digits + 34) * most ≡ (digits + 28 + 6) * most = ap (λ k. k * most) (omega arith) in
    omega (arith, first, whole, heads, weights, plans, all, more, sum, same)

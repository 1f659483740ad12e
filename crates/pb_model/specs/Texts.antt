-- The texts that the planner writes, as lists of bytes: reports and certificates.
use Rattle.std.specs.Prelude.{ℕ, Option, None, Some, List, [], ◌∷◌, ◌++◌, length, map, codes, if◌then◌else◌}
use Rattle.std.specs.Fmt.{decimal}
use Rattle.pb_packed.specs.Digits.{hex_digits}
use Rattle.pb_model.specs.Plan.{Plan}
use Rattle.pb_model.specs.Weight.{Weight}
use Rattle.pb_model.specs.Certificate.{Line, Certificate}

-- a line with its line feed
abbrev pub line : List ℕ → List ℕ
line text = text ++ 10 ∷ []

-- the lines, one after another
abbrev pub lines : List (List ℕ) → List ℕ
lines [] = []
lines (text ∷ texts) = line text ++ lines texts

-- two words with a space between them
abbrev pub spaced : List ℕ → List ℕ → List ℕ
spaced first second = first ++ 32 ∷ second

-- ---- reports

-- a plan: its cost and the number of its steps, a line for each step, and the bound
abbrev pub plan_report : (steps : List (List ℕ)) → (cost bound : ℕ) → List ℕ
plan_report steps cost bound =
    line (spaced (codes "plan") (spaced (decimal cost) (decimal (length steps)))) ++ lines steps
    ++ line (spaced (codes "bound") (decimal bound))

-- no plan exists
abbrev pub none_report : List ℕ
none_report = line (codes "none")

-- the budget was used up
abbrev pub stopped_report : (budget : ℕ) → List ℕ
stopped_report budget = line (spaced (codes "stopped budget") (decimal budget))

-- ---- certificates

-- a state in so many hexadecimal digits, its g, and what became of it
abbrev pub line_text : (digits : ℕ) → Line → List ℕ
line_text digits row =
    spaced (hex_digits digits row.state) (spaced (decimal row.g)
    (if row.is_closed then codes "closed" else codes "cut"))

-- the plan's actions and its cost, or that there is none
abbrev pub plan_text : Option Plan → List ℕ
plan_text None = line (codes "none")
plan_text (Some plan) =
    line (spaced (codes "plan") (decimal (length plan.actions))) ++ lines (map decimal plan.actions)
    ++ line (spaced (codes "cost") (decimal plan.cost))

abbrev pub weight_text : Weight → List ℕ
weight_text weight =
    line (spaced (codes "weight") (spaced (decimal weight.num) (decimal weight.den)))

abbrev pub rows_text : (digits : ℕ) → List Line → List ℕ
rows_text digits rows =
    line (spaced (codes "rows") (decimal (length rows))) ++ lines (map (line_text digits) rows)

-- the text of a certificate under these first lines, with states of so many digits
abbrev pub certificate_text : (head : List (List ℕ)) → (digits : ℕ) → Certificate → List ℕ
certificate_text head digits certificate =
    lines head
    ++ weight_text certificate.weight
    ++ plan_text certificate.plan
    ++ rows_text digits certificate.lines
    ++ line (codes "end")

-- the first lines of version 1, for a task of this kind, as `grid`; its states have 64 digits
abbrev pub head_1 : (kind : List ℕ) → List (List ℕ)
head_1 kind = codes "pbnf-certificate 1" ∷ spaced (codes "kind") kind ∷ []

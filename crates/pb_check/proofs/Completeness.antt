-- A valid certificate has no fault.
use Rattle.std.proofs.Common.{◌≡◌, ℕ, zero, suc, ◌+◌, ◌<◌, ◌≤◌, Bool, true, false, ◌&&◌, cond, eqb, ltb, leb, Option, None, Some, List, [], ◌∷◌, All, Contains, Result, Ok, refl, sym, ap, ◌∙◌, subst, arith, IsTrue, IsFalse}
use Rattle.std.specs.Prelude.{option_map, is_none}
use Rattle.std.specs.List.Sorted.{IsStrictlySortedBy}
use Rattle.std.specs.Ordering.{nat_cmp}
use Rattle.std.specs.declared.cmp.Ordering.TheVariants.{Less}
use Rattle.std.proofs.lemmas.Bool.{le-leb, lt-ltb, and_from}
use Rattle.std.proofs.lemmas.Bool.Decides.{nat_tests}
use Rattle.std.proofs.lemmas.List.Elements.{All-head, All-tail}
use Rattle.pb_model.specs.declared.row.Estimate.{Estimate}
use Rattle.pb_model.specs.declared.row.Estimate.TheVariants.{Cost, Dead}
use Rattle.pb_model.specs.Space.{Space, Steps}
use Rattle.pb_model.specs.Weight.{Weight, IsWeight}
use Rattle.pb_model.specs.Plan.{Plan, Walk, IsPlan}
use Rattle.pb_model.specs.Store.{MayBeCut}
use Rattle.pb_model.specs.Certificate.{Line, Ascends, HasLineWithin, IsPlanIfAny, IsClosedLine, IsValid, cost_of}
use Rattle.pb_task.specs.declared.kind.Kind.{Kind}
use Rattle.pb_task.specs.declared.kind.Kind.TheVariants.{Grid, Tiles, Strips}
use Rattle.pb_task.specs.declared.grounding.Grounding.{Grounding}
use Rattle.pb_task.specs.declared.grounding.Grounding.TheVariants as groundings
use Rattle.pb_task.specs.declared.parts.TaskParts.{TaskParts}
use Rattle.pb_task.specs.declared.parts.TaskParts.TheVariants as tasks
use Rattle.pb_task.specs.Parts.{space_of}
use Rattle.pb_task.specs.Kinds.{kind_of}
use Rattle.pb_task.specs.Groundings.{grounding_of}
use Rattle.pb_task.specs.Widths.{width_of}
use Rattle.pb_tables.specs.declared.fault.TablesFault.{TablesFault}
use Rattle.pb_tables.specs.Suits.{tables_fault}
use Rattle.pb_estimate.specs.Choices.{Choice, Plain, Pattern, Tables}
use Rattle.pb_estimate.specs.declared.spelling.Version.{Version}
use Rattle.pb_estimate.specs.declared.spelling.Version.TheVariants.{One, Two, Three, Four}
use Rattle.pb_estimate.specs.Estimates.{estimate_by, tables_suit, suits}
use Rattle.pb_check.specs.declared.fault.CertificateFault.{CertificateFault}
use Rattle.pb_check.specs.declared.fault.CertificateFault.TheVariants as faults
use Rattle.pb_check.specs.declared.fault.Verdict.{Verdict}
use Rattle.pb_check.specs.declared.fault.CheckError.{CheckError}
use Rattle.pb_check.specs.Shown.{IsAccepted}
use Rattle.pb_check.specs.Faults.{◌>>=◌, Gives}
use Rattle.pb_check.specs.Reading.{Text, first_line}
use Rattle.pb_check.specs.Spelling.{HasWidthOf}
use Rattle.pb_check.specs.Judging.{passes, or_then, unless, same_kind, width_fault, same_grounding, table_fault, tables_fault_for, choice_fault, stated_fault, is_weight, after_step, walk, plan_fault, plan_fault_if_any, AreAbove, Rise, order_fault, rows_order_fault, first_fault_by, state_fault, g_of, is_zero, target_fault, step_fault, steps_fault, may_be_cut, row_fault, verdict_of, judged, checked}
use Rattle.pb_check.proofs.Finding.{equal_at}
use Rattle.pb_check.proofs.Written.{read_of}

pub kind_same : (a : Kind) → same_kind a a ≡ true
kind_same Grid = refl
kind_same Tiles = refl
kind_same Strips = refl

pub grounding_same : (a : Grounding) → same_grounding a a ≡ true
grounding_same groundings.All = refl
grounding_same groundings.Reachable = refl

pub same_number : (n : ℕ) → eqb n n ≡ true
same_number n = grind (arith, nat_tests)

same_width_ok : (width wanted : ℕ) → width ≡ wanted → unless (eqb width wanted) (faults.Width width wanted) ≡ None
same_width_ok width wanted is =
    ap (λ (w : ℕ). unless (eqb w wanted) (faults.Width w wanted)) is
    ∙ ap (λ b. unless b (faults.Width wanted wanted)) (same_number wanted)

pub width_ok : (parts : TaskParts) (version : Version) (width : ℕ) → HasWidthOf parts version width → width_fault parts version width ≡ None
width_ok parts One width is = refl
width_ok parts Two width is = same_width_ok width (width_of parts) is
width_ok parts Three width is = same_width_ok width (width_of parts) is
width_ok parts Four width is = same_width_ok width (width_of parts) is

-- the task's own grounding is no fault
pub grounding_met : (parts : TaskParts) (grounding : Grounding) → grounding ≡ grounding_of parts → same_grounding (grounding_of parts) grounding ≡ true
grounding_met parts grounding is = ap (same_grounding (grounding_of parts)) is ∙ grounding_same (grounding_of parts)

-- a choice that suits the task is no fault
pub choice_ok : (parts : TaskParts) (choice : Choice) → suits parts choice ≡ true → choice_fault parts choice ≡ None
choice_ok parts Plain fine = refl
choice_ok parts (Pattern number) fine = ap (λ b. unless b faults.Pattern) fine
choice_ok parts (Tables tables) fine = go parts fine
  where
    none : (fault : Option TablesFault) → is_none fault ≡ true → option_map (table_fault tables) fault ≡ None
    none None e = refl
    none (Some fault) e = absurd cc

    go : (parts : TaskParts) → tables_suit parts tables ≡ true → tables_fault_for parts tables ≡ None
    go (tasks.Grid grid) e = absurd cc
    go (tasks.Tiles tiles) e = absurd cc
    go (tasks.Strips strips) e = none (tables_fault strips tables) e

pub weight_ok : (weight : Weight) → IsWeight weight → is_weight weight ≡ true
weight_ok weight w = and_from (leb 1 weight.den) (leb weight.den weight.num && leb weight.num 1000) (le-leb _ _ w.positive) (and_from (leb weight.den weight.num) (leb weight.num 1000) (le-leb _ _ w.at_least_one) (le-leb _ _ w.small))

pair : (to from cost total : ℕ) → to ≡ from → cost ≡ total → ◌≡◌ {A = Result (ℕ × ℕ) CertificateFault} (Ok (from, cost)) (Ok (to, total))
pair to from cost total a b = cc

pub walked : (space : Space) (from done cost : ℕ) (actions : List ℕ) (rest to : ℕ) → Walk space from actions rest to → walk space from done cost actions ≡ Ok (to, cost + rest)
unfolding walk
walked space from done cost [] rest to w = pair to from cost (cost + rest) w.1 (let z : rest ≡ 0 = w.0 in omega (arith, z))
walked space from done cost (action ∷ actions) rest to w =
    ap (after_step done (λ next first. walk space next (done + 1) (cost + first) actions)) w.3 ∙ walked space w.0 (done + 1) (cost + w.1) actions w.2 to w.4
    ∙ ap (λ (k : ℕ). Ok (to, k)) (let z : rest ≡ w.1 + w.2 = w.5 in omega (arith, z))

plan_ok : (space : Space) (plan : Plan) → IsPlan space plan → plan_fault space plan ≡ Ok true
unfolding plan_fault
plan_ok space plan is =
    let w : walk space space.start 0 0 plan.actions ≡ Ok (is.0, 0 + plan.cost) = walked space space.start 0 0 plan.actions plan.cost is.0 is.1 in
    let c : eqb plan.cost (0 + plan.cost) ≡ true = grind (arith, nat_tests) in
    let g : space.is_goal is.0 ≡ true = is.2 in
    rw (w, g, c) refl

pub plan_ok_if_any : (space : Space) (plan : Option Plan) → IsPlanIfAny space plan → plan_fault_if_any space plan ≡ Ok true
plan_ok_if_any space None is = refl
plan_ok_if_any space (Some plan) is = plan_ok space plan is

-- ---- the rows

less_is : (a b : ℕ) → nat_cmp a b ≡ Less → a < b
less_is a b e = grind (arith, nat_tests, e)

above : (rows : List Line) (row : Line) → Ascends (row ∷ rows) → AreAbove row.state rows
unfolding IsStrictlySortedBy
above [] row h = tt
above (next ∷ rows) row h = (less_is row.state next.state h.0.0, above rows next h.1)

pub rises : (rows : List Line) → Ascends rows → Rise rows
rises [] h = tt
rises (row ∷ rows) h = above rows row h

order_ok : (line before : ℕ) (rows : List Line) → AreAbove before rows → order_fault line before rows ≡ None
unfolding order_fault
order_ok line before [] h = refl
order_ok line before (row ∷ rows) h = let lt : ltb before row.state ≡ true = lt-ltb _ _ h.0 in rw lt (order_ok (line + 1) row.state rows h.1)

pub rows_order_ok : (line : ℕ) (rows : List Line) → Rise rows → rows_order_fault line rows ≡ None
rows_order_ok line [] h = refl
rows_order_ok line (row ∷ rows) h = order_ok (line + 1) row.state rows h

pub each_ok : (fault : (line : ℕ) → Line → Option CertificateFault) (P : Line → Type 0) (line : ℕ) (rows : List Line) → ((k : ℕ) (row : Line) → P row → fault k row ≡ None) → All P rows → first_fault_by fault line rows ≡ None
unfolding first_fault_by
each_ok fault P line [] so h = refl
each_ok fault P line (row ∷ rows) so h =
    ap (λ f. or_then f (first_fault_by fault (line + 1) rows)) (so line row (All-head P row rows h)) ∙ each_ok fault P (line + 1) rows so (All-tail P row rows h)

pub found : (rows : List Line) → Rise rows → (state most : ℕ) → HasLineWithin rows state most → (g : ℕ) × (g_of rows state ≡ Some g) × (g ≤ most)
found rows rise state most h =
    let at : Contains rows h.0 = h.1 in
    (h.0.g, sym (equal_at rows at.0 h.0 at.1 (sym at.2) rise state h.2), h.3)

pub zero_ok : (g : Option ℕ) (k : ℕ) → g ≡ Some k → k ≤ 0 → is_zero g ≡ true
zero_ok g k e le = let z : k ≡ 0 = omega (arith, le) in ap is_zero e ∙ ap (λ n. eqb n 0) z

target_ok : (line action most : ℕ) (g : Option ℕ) (k : ℕ) → g ≡ Some k → k ≤ most → target_fault line action most g ≡ None
target_ok line action most g k e le = ap (target_fault line action most) e ∙ ap (λ b. unless b (faults.TooDear line action)) (le-leb k most le)

pub may_ok : (weight : Weight) (best : Option ℕ) (g : ℕ) (e : Estimate) → MayBeCut weight best g e → may_be_cut weight best g e ≡ true
may_ok weight best g Dead h = refl
may_ok weight None g (Cost x) h = absurd h
may_ok weight (Some best) g (Cost x) h = le-leb _ _ h

-- actions below a number have no fault
pub steps_before : (space : Space) (rows : List Line) → Rise rows → (line g state action : ℕ)
    → ((other to cost : ℕ) → other < action → Steps space state other to cost
    → HasLineWithin rows to (g + cost)) → steps_fault space rows line g state action ≡ None
unfolding steps_fault
steps_before space rows rise line g state zero so = refl
steps_before space rows rise line g state (suc action) so =
    ap (λ f. or_then f (step_fault rows line g action (space.step state action)))
    (steps_before space rows rise line g state action
    (λ other to cost lt step. so other to cost (omega (arith, lt)) step))
    ∙ go (space.step state action) refl
  where
    go : (r : Option (ℕ × ℕ)) → space.step state action ≡ r → step_fault rows line g action r ≡ None
    go None e = refl
    go (Some step) e =
        let f = found rows rise step.0 (g + step.1) (so action step.0 step.1 (omega arith) e) in
        target_ok line action (g + step.1) (g_of rows step.0) f.0 f.1 f.2

module _ (space : Space) (estimate : ℕ → Estimate) (weight : Weight) (best : Option ℕ) (rows : List Line) (rise : Rise rows) where
  pub row_ok : (line : ℕ) (row : Line) → (IsTrue row.is_closed → IsClosedLine space rows row) → (IsFalse row.is_closed → MayBeCut weight best row.g (estimate row.state)) → row_fault space estimate weight best rows line row ≡ None
  unfolding row_fault
  row_ok line row closed cut = go row.is_closed refl
    where
      go : (b : Bool) → row.is_closed ≡ b → cond b (cond (space.is_goal row.state) (Some (faults.GoalClosed line)) (steps_fault space rows line row.g row.state space.actions)) (unless (may_be_cut weight best row.g (estimate row.state)) (faults.Low line)) ≡ None
      go true e = let is = closed e in
          ap (λ b. cond b (Some (faults.GoalClosed line)) (steps_fault space rows line row.g row.state space.actions)) is.no_goal ∙ steps_before space rows rise line row.g row.state space.actions (λ action to cost lt step. is.successors action to cost step)
      go false e = ap (λ b. unless b (faults.Low line)) (may_ok weight best row.g (estimate row.state) (cut e))

  rows_ok : (line : ℕ) (some : List Line) → All (λ row. IsTrue row.is_closed → IsClosedLine space rows row) some → All (λ row. IsFalse row.is_closed → MayBeCut weight best row.g (estimate row.state)) some → first_fault_by (row_fault space estimate weight best rows) line some ≡ None
  unfolding first_fault_by
  rows_ok line [] a b = refl
  rows_ok line (row ∷ others) a b =
      ap (λ f. or_then f (first_fault_by (row_fault space estimate weight best rows) (line + 1) others)) (row_ok line row (All-head (λ row. IsTrue row.is_closed → IsClosedLine space rows row) row others a) (All-head (λ row. IsFalse row.is_closed → MayBeCut weight best row.g (estimate row.state)) row others b))
      ∙ rows_ok (line + 1) others (All-tail (λ row. IsTrue row.is_closed → IsClosedLine space rows row) row others a) (All-tail (λ row. IsFalse row.is_closed → MayBeCut weight best row.g (estimate row.state)) row others b)

-- ---- all together

judged_ok : (parts : TaskParts) (text : Text) → text.spelling.kind ≡ kind_of parts → HasWidthOf parts text.spelling.version text.spelling.width → text.spelling.stated.grounding ≡ grounding_of parts → suits parts text.spelling.stated.choice ≡ true
    → IsValid (space_of parts) (estimate_by parts text.spelling.stated.choice) text.certificate → judged parts text ≡ Ok (verdict_of text.certificate.weight text.certificate.plan)
unfolding judged
judged_ok parts text is wide grounded stated valid =
    let space = space_of parts in
    let estimate = estimate_by parts text.spelling.stated.choice in
    let lines = text.certificate.lines in
    let weight = text.certificate.weight in
    let best = cost_of text.certificate.plan in
    let rise : Rise lines = rises lines valid.ascending in
    let s = found lines rise space.start 0 valid.start in
    let e1 : same_kind (kind_of parts) text.spelling.kind ≡ true = ap (same_kind (kind_of parts)) is ∙ kind_same (kind_of parts) in
    let ew : passes (width_fault parts text.spelling.version text.spelling.width) ≡ Ok true = ap passes (width_ok parts text.spelling.version text.spelling.width wide) in
    let eg : same_grounding (grounding_of parts) text.spelling.stated.grounding ≡ true = grounding_met parts text.spelling.stated.grounding grounded in
    let e0 : passes (stated_fault parts text.spelling.stated) ≡ Ok true = ap passes (choice_ok parts text.spelling.stated.choice stated) in
    let e2 : is_weight weight ≡ true = weight_ok weight valid.weight in
    let e3 : plan_fault_if_any space text.certificate.plan ≡ Ok true = plan_ok_if_any space text.certificate.plan valid.plan in
    let e4 : rows_order_fault text.first lines ≡ None = rows_order_ok text.first lines rise in
    let e5 : first_fault_by (state_fault space) text.first lines ≡ None = each_ok (state_fault space) (λ line. IsTrue (space.is_state line.state)) text.first lines (λ k row h. ap (λ b. unless b (faults.BadState k)) h) valid.states in
    let e6 : is_zero (g_of lines space.start) ≡ true = zero_ok (g_of lines space.start) s.0 s.1 s.2 in
    let e7 : first_fault_by (row_fault space estimate weight best lines) text.first lines ≡ None = rows_ok space estimate weight best lines rise text.first lines valid.closed valid.cut in
    rw (e1, ew, eg, e0, e2, e3, e4, e5, e6, e7) refl

accepts : (parts : TaskParts) (bytes : List ℕ) (verdict : Verdict) → IsAccepted parts bytes verdict → checked parts bytes ≡ Ok verdict
unfolding checked
accepts parts bytes verdict is =
    let text : Text = record { spelling = is.spelling; certificate = is.certificate; first = first_line is.spelling is.certificate.plan } in
    ap (λ r. r >>= λ text. judged parts text) (read_of bytes is.spelling is.certificate is.spelled) ∙ judged_ok parts text is.kind is.width is.grounding is.stated is.valid ∙ ap (λ (v : Verdict). Ok v) (sym is.verdict_is)

pub gives_accepted : (parts : TaskParts) (bytes : List ℕ) (r : Result Verdict CheckError) → Gives (λ x. x) r (checked parts bytes)
    → (verdict : Verdict) → IsAccepted parts bytes verdict → Gives (λ x. x) r (Ok verdict)
gives_accepted parts bytes r e verdict is = subst (Gives (λ x. x) r) (accepts parts bytes verdict is) e

-- A fault is reported only in its case.
use Rattle.std.proofs.Common.{◌≡◌, ◌≢◌, ◌⊎◌, ◌&&◌, inl, inr, ℕ, zero, suc, ◌+◌, ◌<◌, ◌≤◌, Bool, true, false, cond, eqb, ltb, leb, Option, None, Some, List, [], ◌∷◌, ◌++◌, length, All, Contains, Result, Ok, Err, refl, sym, ap, ◌∙◌, subst, arith, IsTrue, IsFalse}
use Rattle.std.specs.Prelude.{option_map}
use Rattle.std.proofs.lemmas.Option.{same_Some}
use Rattle.std.proofs.lemmas.Bool.{and_from, le-leb}
use Rattle.std.proofs.lemmas.Bool.Decides.{nat_tests}
use Rattle.std.proofs.lemmas.List.Elements.{All-nil, All-cons}
use Rattle.pb_model.specs.declared.row.Estimate.{Estimate}
use Rattle.pb_model.specs.Space.{Space, Steps, IsProper}
use Rattle.pb_model.specs.Weight.{Weight}
use Rattle.pb_model.specs.Plan.{Plan, Walk}
use Rattle.pb_model.specs.Certificate.{Line, Certificate, HasLineWithin, cost_of}
use Rattle.pb_task.specs.declared.kind.Kind.{Kind}
use Rattle.pb_task.specs.declared.kind.Kind.TheVariants.{Grid, Tiles, Strips}
use Rattle.pb_task.specs.declared.parts.TaskParts.{TaskParts}
use Rattle.pb_task.specs.declared.parts.TaskParts.TheVariants as tasks
use Rattle.pb_task.specs.declared.parts.StripsParts.{StripsParts}
use Rattle.pb_task.specs.Parts.{space_of, IsTask, greatest_cost}
use Rattle.pb_task.specs.Kinds.{kind_of}
use Rattle.pb_task.specs.Groundings.{grounding_of}
use Rattle.pb_task.specs.Widths.{width_of}
use Rattle.pb_task.proofs.Callers.{tasks_are_proper}
use Rattle.pb_tables.specs.declared.fault.TablesFault.{TablesFault}
use Rattle.pb_tables.specs.declared.fault.TablesFault.TheVariants as tables_faults
use Rattle.pb_tables.specs.Tables.{TablesValue}
use Rattle.pb_tables.specs.Suits.{tables_fault}
use Rattle.pb_table_lines.specs.Lines.{line_number}
use Rattle.pb_estimate.specs.Choices.{Choice, Plain, Pattern, Tables}
use Rattle.pb_estimate.specs.declared.spelling.Spelling.{Spelling}
use Rattle.pb_estimate.specs.declared.spelling.Version.{Version}
use Rattle.pb_estimate.specs.declared.spelling.Version.TheVariants.{One, Two, Three, Four}
use Rattle.pb_estimate.specs.Spelling.{IsSpelling, StatesChoice, IsVersionFor}
use Rattle.pb_estimate.specs.Estimates.{estimate_by, suits}
use Rattle.pb_check.specs.declared.fault.CertificateFault.{CertificateFault}
use Rattle.pb_check.specs.declared.fault.CertificateFault.TheVariants as faults
use Rattle.pb_check.specs.declared.fault.Verdict.{Verdict}
use Rattle.pb_check.specs.Faults.{◌>>=◌}
use Rattle.pb_check.specs.Reading.{Text, first_line, text_of}
use Rattle.pb_check.specs.Spelling.{IsSpelled}
use Rattle.pb_check.specs.Judging.{passes, or_then, unless, same_kind, width_fault, same_grounding, grounding_fault, table_fault, tables_fault_for, choice_fault, stated_fault, is_weight, after_step, walk, plan_fault, plan_fault_if_any, AreAbove, order_fault, rows_order_fault, first_fault_by, state_fault, g_of, is_zero, target_fault, step_fault, steps_fault, may_be_cut, row_fault, verdict_of, judged, checked}
use Rattle.pb_check.specs.Cases.{IsSaid, HasFormOf, HasGroundingOf, IsForTask, HasWeight, HasPlan, HasOrder, HasStates, HasStart, IsStepFault, EndsElsewhere, IsCostFault, HasFault, IsOutOfOrder, IsNoState, MayBeCutRow, IsSoundRow, IsFirstUnsound, IsSuccessorFault, HasNoRow, HasRowAbove, IsCaseOf, RefusalsHaveTheirCase}
use Rattle.pb_check.proofs.Finding.{order_rises}
use Rattle.pb_check.proofs.Validity.{holds, kinds_same, width_suits, groundings_same, choice_suits, weighs, walks, planned_if_any, ascends, each, has_row, starts, on_target, step_passes, closed_row, cut_row}
use Rattle.pb_check.proofs.Completeness.{kind_same, grounding_met, same_number, weight_ok, rises, found, zero_ok, may_ok}
use Rattle.pb_check.proofs.Written.{read_as_spelled}
use Rattle.pb_check.proofs.FirstUnspelled.{syntax_case}

-- ---- one step of the chain

-- a step that may fail: with this fault, or it goes on
abbrev next : Option CertificateFault → Result Verdict CertificateFault
    → Result Verdict CertificateFault
next fault rest = passes fault >>= λ x. rest

same_fault : (d fault : CertificateFault)
    → ◌≡◌ {A = Result Verdict CertificateFault} (Err d) (Err fault) → d ≡ fault
same_fault d fault e = cc

stopped_at : (o : Option CertificateFault) (rest : Result Verdict CertificateFault)
    (fault : CertificateFault) → next o rest ≡ Err fault
    → (o ≡ Some fault) ⊎ ((o ≡ None) × (rest ≡ Err fault))
stopped_at None rest fault e = inr (refl, e)
stopped_at (Some d) rest fault e =
    inl (ap (λ (f : CertificateFault). Some f) (same_fault d fault e))

stopped_in : (r : Result Bool CertificateFault) (rest : Result Verdict CertificateFault)
    (fault : CertificateFault) → (r >>= λ x. rest) ≡ Err fault
    → (r ≡ Err fault) ⊎ ((x : Bool) × (r ≡ Ok x) × (rest ≡ Err fault))
stopped_in (Ok x) rest fault e = inr (x, refl, e)
stopped_in (Err d) rest fault e = inl (same d e)
  where
    same : (d : CertificateFault) → ◌≡◌ {A = Result Verdict CertificateFault} (Err d) (Err fault)
        → ◌≡◌ {A = Result Bool CertificateFault} (Err d) (Err fault)
    same d e = cc

unmet : (b : Bool) (d fault : CertificateFault) → unless b d ≡ Some fault
    → (b ≡ false) × (d ≡ fault)
unmet true d fault e = absurd cc
unmet false d fault e = (refl, same_Some d fault e)

never : (b : Bool) → b ≡ true → b ≡ false → ⊥
never b met missed = cc

none_some : (o : Option CertificateFault) (fault : CertificateFault) → o ≡ None → o ≡ Some fault → ⊥
none_some o fault none some = cc

-- ---- the plan

record WalkStops (space : Space) (from done : ℕ) (actions : List ℕ) (fault : CertificateFault)
    : Type 0 where
  before : List ℕ
  action : ℕ
  behind : List ℕ
  actions_are : actions ≡ before ++ action ∷ behind
  fault_is : faults.PlanStep (done + length before) ≡ fault
  cost : ℕ
  at : ℕ
  walk : Walk space from before cost at
  none : space.step at action ≡ None

walk_stops : (space : Space) (from done cost : ℕ) (actions : List ℕ) (fault : CertificateFault)
    → walk space from done cost actions ≡ Err fault → WalkStops space from done actions fault
unfolding walk
walk_stops space from done cost [] fault e = absurd cc
walk_stops space from done cost (action ∷ actions) fault e =
    go (λ next first h. walk_stops space next (done + 1) (cost + first) actions fault h)
    (space.step from action) refl e
  where
    here : ◌≡◌ {A = Result (ℕ × ℕ) CertificateFault} (Err (faults.PlanStep done)) (Err fault)
        → faults.PlanStep (done + 0) ≡ fault
    here e = let same : done + 0 ≡ done = omega arith in
        ap (λ (k : ℕ). faults.PlanStep k) same ∙ is (faults.PlanStep done) e
      where
        is : (d : CertificateFault) → ◌≡◌ {A = Result (ℕ × ℕ) CertificateFault} (Err d) (Err fault)
            → d ≡ fault
        is d e = cc

    go : ((next first : ℕ) → walk space next (done + 1) (cost + first) actions ≡ Err fault
        → WalkStops space next (done + 1) actions fault)
        → (r : Option (ℕ × ℕ)) → space.step from action ≡ r
        → after_step done (λ next first. walk space next (done + 1) (cost + first) actions) r
        ≡ Err fault → WalkStops space from done (action ∷ actions) fault
    go rest None is e = record {
      before = [];
      action = action;
      behind = actions;
      actions_are = refl;
      fault_is = here e;
      cost = 0;
      at = from;
      walk = (refl, refl);
      none = is;
    }
    go rest (Some step) is e =
        let s = rest step.0 step.1 e in
        let same : done + length (action ∷ s.before) ≡ done + 1 + length s.before = omega arith in
        record {
          before = action ∷ s.before;
          action = s.action;
          behind = s.behind;
          actions_are = ap (λ (t : List ℕ). action ∷ t) s.actions_are;
          fault_is = ap (λ (k : ℕ). faults.PlanStep k) same ∙ s.fault_is;
          cost = step.1 + s.cost;
          at = s.at;
          walk = (step.0, step.1, s.cost, is, s.walk, refl);
          none = s.none;
        }

-- ---- the order of the rows

record OrderStops (line last : ℕ) (rows : List Line) (fault : CertificateFault) : Type 0 where
  before : List Line
  row : Line
  behind : List Line
  rows_are : rows ≡ before ++ row ∷ behind
  fault_is : faults.RowOrder (line + length before) ≡ fault
  above : AreAbove last before
  not_with : AreAbove last (before ++ row ∷ []) → ⊥

order_stops : (line last : ℕ) (rows : List Line) (fault : CertificateFault)
    → order_fault line last rows ≡ Some fault → OrderStops line last rows fault
unfolding order_fault
order_stops line last [] fault e = absurd cc
order_stops line last (row ∷ rows) fault e =
    go (λ h. order_stops (line + 1) row.state rows fault h) (ltb last row.state) refl e
  where
    go : (order_fault (line + 1) row.state rows ≡ Some fault
        → OrderStops (line + 1) row.state rows fault)
        → (b : Bool) → ltb last row.state ≡ b
        → cond b (order_fault (line + 1) row.state rows) (Some (faults.RowOrder line)) ≡ Some fault
        → OrderStops line last (row ∷ rows) fault
    go rest true is e =
        let s = rest e in
        let same : line + length (row ∷ s.before) ≡ line + 1 + length s.before = omega arith in
        let lt : last < row.state = grind (arith, is, nat_tests) in
        record {
          before = row ∷ s.before;
          row = s.row;
          behind = s.behind;
          rows_are = ap (λ (t : List Line). row ∷ t) s.rows_are;
          fault_is = ap (λ (k : ℕ). faults.RowOrder k) same ∙ s.fault_is;
          above = (lt, s.above);
          not_with = λ above. s.not_with above.1;
        }
    go rest false is e =
        let same : line + 0 ≡ line = omega arith in
        record {
          before = [];
          row = row;
          behind = rows;
          rows_are = refl;
          fault_is = ap (λ (k : ℕ). faults.RowOrder k) same
              ∙ same_Some (faults.RowOrder line) fault e;
          above = tt;
          not_with = λ above. let lt : last < row.state = above.0 in
              (let low : row.state ≤ last = grind (arith, is, nat_tests) in omega (arith, lt, low));
        }

-- ---- the first row that has a fault

record RowStops (fault_of : (line : ℕ) → Line → Option CertificateFault) (P : Line → Type 0)
    (first : ℕ) (rows : List Line) (fault : CertificateFault) : Type 0 where
  before : List Line
  row : Line
  behind : List Line
  rows_are : rows ≡ before ++ row ∷ behind
  sound : All P before
  fault_is : fault_of (first + length before) row ≡ Some fault

row_stops : (fault_of : (line : ℕ) → Line → Option CertificateFault) (P : Line → Type 0)
    → ((line : ℕ) (row : Line) → fault_of line row ≡ None → P row)
    → (first : ℕ) (rows : List Line) (fault : CertificateFault)
    → first_fault_by fault_of first rows ≡ Some fault → RowStops fault_of P first rows fault
unfolding first_fault_by
row_stops fault_of P so first [] fault e = absurd cc
row_stops fault_of P so first (row ∷ rows) fault e =
    go (λ h. row_stops fault_of P so (first + 1) rows fault h) (fault_of first row) refl e
  where
    go : (first_fault_by fault_of (first + 1) rows ≡ Some fault
        → RowStops fault_of P (first + 1) rows fault)
        → (o : Option CertificateFault) → fault_of first row ≡ o
        → or_then o (first_fault_by fault_of (first + 1) rows) ≡ Some fault
        → RowStops fault_of P first (row ∷ rows) fault
    go rest None is e =
        let s = rest e in
        let same : first + length (row ∷ s.before) ≡ first + 1 + length s.before = omega arith in
        record {
          before = row ∷ s.before;
          row = s.row;
          behind = s.behind;
          rows_are = ap (λ (t : List Line). row ∷ t) s.rows_are;
          sound = All-cons P row s.before (so first row is) s.sound;
          fault_is = ap (λ (k : ℕ). fault_of k s.row) same ∙ s.fault_is;
        }
    go rest (Some d) is e =
        let same : first + 0 ≡ first = omega arith in
        record {
          before = [];
          row = row;
          behind = rows;
          rows_are = refl;
          sound = All-nil P;
          fault_is = ap (λ (k : ℕ). fault_of k row) same ∙ is ∙ e;
        }

-- ---- the first action that has a fault

record StepStops (space : Space) (rows : List Line) (line g state count : ℕ)
    (fault : CertificateFault) : Type 0 where
  action : ℕ
  below : action < count
  earlier : steps_fault space rows line g state action ≡ None
  fault_is : step_fault rows line g action (space.step state action) ≡ Some fault

step_stops : (space : Space) (rows : List Line) (line g state count : ℕ) (fault : CertificateFault)
    → steps_fault space rows line g state count ≡ Some fault
    → StepStops space rows line g state count fault
unfolding steps_fault
step_stops space rows line g state zero fault e = absurd cc
step_stops space rows line g state (suc count) fault e =
    go (λ h. step_stops space rows line g state count fault h)
    (steps_fault space rows line g state count) refl e
  where
    go : (steps_fault space rows line g state count ≡ Some fault
        → StepStops space rows line g state count fault)
        → (o : Option CertificateFault) → steps_fault space rows line g state count ≡ o
        → or_then o (step_fault rows line g count (space.step state count)) ≡ Some fault
        → StepStops space rows line g state (suc count) fault
    go rest None is e =
        record { action = count; below = omega arith; earlier = is; fault_is = e }
    go rest (Some d) is e =
        let s = rest (is ∙ e) in
        let lt = s.below in
        record {
          action = s.action;
          below = omega (arith, lt);
          earlier = s.earlier;
          fault_is = s.fault_is;
        }

no_row : (rows : List Line) (state : ℕ) → g_of rows state ≡ None → HasNoRow rows state
unfolding g_of
no_row [] state none row at same = let lt : at.0 < 0 = at.1 in omega (arith, lt)
no_row (first ∷ rows) state none row at same =
    go (λ left there. no_row rows state left row there same) at (eqb first.state state) refl none
  where
    go : (g_of rows state ≡ None → Contains rows row → ⊥) → Contains (first ∷ rows) row → (b : Bool) → eqb first.state state ≡ b
        → cond b (Some first.g) (g_of rows state) ≡ None → ⊥
    go rest at true is none = absurd cc
    go rest (zero, lt, here) false is none =
        let is_first : first.state ≡ row.state = ap (λ (l : Line). l.state) here in
        (let equal : eqb first.state state ≡ true = grind (arith, is_first, same, nat_tests) in
        never (eqb first.state state) equal is)
    go rest (suc i, lt, there) false is none = rest none (i, omega (arith, lt), there)

-- ---- what is stated besides

two_not_one : ◌≡◌ {A = Version} Two One → ⊥
two_not_one e = cc

three_not_one : ◌≡◌ {A = Version} Three One → ⊥
three_not_one e = cc

four_not_one : ◌≡◌ {A = Version} Four One → ⊥
four_not_one e = cc

-- the number of a pattern that suits no task is not from 1 to 12
outside : (number : ℕ) → (leb 1 number && leb number 12) ≡ false
    → (1 ≤ number) × (number ≤ 12) → ⊥
outside number unfit both =
    never (leb 1 number && leb number 12)
    (and_from (leb 1 number) (leb number 12) (le-leb _ _ both.0) (le-leb _ _ both.1)) unfit

-- tables are stated for STRIPS alone
for_strips : (spelling : Spelling) (tables : TablesValue) → IsSpelling spelling
    → spelling.stated.choice ≡ Tables tables → spelling.kind ≡ Strips
for_strips spelling tables known is =
    go spelling.version
    (subst (StatesChoice spelling.version spelling.width) is known.choice) known.kind
  where
    go : (version : Version) → StatesChoice version spelling.width (Tables tables)
        → IsVersionFor version spelling.kind → spelling.kind ≡ Strips
    go One states of = absurd states
    go Two states of = absurd states
    go Three states of = absurd states
    go Four states of = of

grid_not_strips : ◌≡◌ {A = Kind} Grid Strips → ⊥
grid_not_strips e = cc

tiles_not_strips : ◌≡◌ {A = Kind} Tiles Strips → ⊥
tiles_not_strips e = cc

-- ---- all together

module _ (parts : TaskParts) (lawful : IsTask parts) (bytes : List ℕ) (text : Text)
    (spelled : IsSpelled bytes text.spelling text.certificate)
    (first_is : text.first ≡ first_line text.spelling text.certificate.plan)
    (fault : CertificateFault) where
  abbrev space : Space
  space = space_of parts

  abbrev estimate : ℕ → Estimate
  estimate = estimate_by parts text.spelling.stated.choice

  abbrev lines : List Line
  lines = text.certificate.lines

  abbrev weight : Weight
  weight = text.certificate.weight

  abbrev plan : Option Plan
  plan = text.certificate.plan

  abbrev first : ℕ
  first = text.first

  abbrev Case : CertificateFault → Type 0
  Case d = IsCaseOf parts bytes d

  abbrev Here : (TaskParts → Spelling → Certificate → Type 0) → Type 0
  Here P = P parts text.spelling text.certificate

  proper : IsProper space greatest_cost
  proper = (tasks_are_proper parts lawful).0

  -- ---- what is judged after each

  abbrev after_start : Result Verdict CertificateFault
  after_start =
      next (first_fault_by (row_fault space estimate weight (cost_of plan) lines) first lines)
      (Ok (verdict_of weight plan))

  abbrev after_states : Result Verdict CertificateFault
  after_states = next (unless (is_zero (g_of lines space.start)) faults.NoStart) after_start

  abbrev after_order : Result Verdict CertificateFault
  after_order = next (first_fault_by (state_fault space) first lines) after_states

  abbrev after_plan : Result Verdict CertificateFault
  after_plan = next (rows_order_fault first lines) after_order

  abbrev after_weight : Result Verdict CertificateFault
  after_weight = plan_fault_if_any space plan >>= λ x. after_plan

  abbrev after_stated : Result Verdict CertificateFault
  after_stated = next (unless (is_weight weight) faults.Weight) after_weight

  abbrev after_grounding : Result Verdict CertificateFault
  after_grounding = next (stated_fault parts text.spelling.stated) after_stated

  abbrev after_width : Result Verdict CertificateFault
  after_width = next (grounding_fault parts text.spelling.stated) after_grounding

  abbrev after_kind : Result Verdict CertificateFault
  after_kind = next (width_fault parts text.spelling.version text.spelling.width) after_width

  -- ---- the rows

  abbrev IsFirst : (before : List Line) → (row : Line) → Type 0
  IsFirst before row =
      (behind : List Line) × (lines ≡ before ++ row ∷ behind)

  row_at : (d : CertificateFault) (line : ℕ) (Fault : (before : List Line) → Line → Type 0)
      (before : List Line) (row : Line) → IsFirst before row → line ≡ first + length before
      → Fault before row → HasFault (first_line text.spelling plan) lines line Fault
  row_at d line Fault before row is place so = record {
    before = before;
    row = row;
    behind = is.0;
    rows_are = is.1;
    place = place ∙ ap (λ (k : ℕ). k + length before) first_is;
    fault = so;
  }

  unsound : (line : ℕ) (Fault : Spelling → Certificate → Line → Type 0) (before : List Line)
      (row : Line) → Here HasStart → IsFirst before row → line ≡ first + length before
      → All (IsSoundRow parts text.spelling text.certificate) before
      → Fault text.spelling text.certificate row → IsSaid bytes (IsFirstUnsound parts line Fault)
  unsound line Fault before row has is place sound so = (
    text.spelling,
    text.certificate,
    spelled,
    (
      has,
      row_at fault line (λ before row.
          All (IsSoundRow parts text.spelling text.certificate) before
          × Fault text.spelling text.certificate row) before row is place (sound, so),
    ),
  )

  sound_row : (line : ℕ) (row : Line)
      → row_fault space estimate weight (cost_of plan) lines line row ≡ None
      → IsSoundRow parts text.spelling text.certificate row
  sound_row line row none = (
    closed_row space greatest_cost estimate weight (cost_of plan) lines proper line row none,
    cut_row space greatest_cost estimate weight (cost_of plan) lines proper line row none,
  )

  abbrev RowCase : (before : List Line) → (row : Line) → Type 0
  RowCase before row =
      Here HasStart → IsFirst before row
      → All (IsSoundRow parts text.spelling text.certificate) before → Case fault

  successor : (before : List Line) (row : Line) (line action : ℕ) → line ≡ first + length before
      → IsTrue row.is_closed → IsFalse (space.is_goal row.state)
      → steps_fault space lines line row.g row.state action ≡ None
      → step_fault lines line row.g action (space.step row.state action) ≡ Some fault
      → RowCase before row
  successor before row line action place closed no_goal earlier e has is sound =
      go (space.step row.state action) refl e
    where
      within : (other to cost : ℕ) → other < action → Steps space row.state other to cost
          → HasLineWithin lines to (row.g + cost)
      within other to cost lt step =
          on_target lines line other to (row.g + cost)
          (sym (ap (step_fault lines line row.g other) step)
          ∙ step_passes space lines line row.g row.state action other earlier lt)

      fault_of : (Fault : (to most : ℕ) → Type 0) (step : ℕ × ℕ)
          → space.step row.state action ≡ Some step → Fault step.0 (row.g + step.1)
          → IsSuccessorFault space lines action Fault row
      fault_of Fault step is so = record {
        closed = closed;
        no_goal = no_goal;
        earlier = within;
        to = step.0;
        cost = step.1;
        step = is;
        fault = so;
      }

      target : (step : ℕ × ℕ) → space.step row.state action ≡ Some step → (g : Option ℕ)
          → g_of lines step.0 ≡ g → target_fault line action (row.g + step.1) g ≡ Some fault
          → Case fault
      target step step_is None at e =
          subst Case (same_Some (faults.Missing line action) fault e)
          (unsound line (λ spelling certificate.
          IsSuccessorFault (space_of parts) certificate.lines action
          (λ to most. HasNoRow certificate.lines to)) before row has is place sound
          (fault_of (λ to most. HasNoRow lines to) step step_is (no_row lines step.0 at)))
      target step step_is (Some g) at e =
          let two = unmet (leb g (row.g + step.1)) (faults.TooDear line action) fault e in
          let low = two.0 in
          let high : row.g + step.1 < g = grind (arith, low, nat_tests) in
          let there = has_row lines step.0 g at in
          let g_is : there.0.g ≡ g = there.3 in
          subst Case two.1
          (unsound line (λ spelling certificate.
          IsSuccessorFault (space_of parts) certificate.lines action
          (λ to most. HasRowAbove certificate.lines to most)) before row has is place sound
          (fault_of (λ to most. HasRowAbove lines to most) step step_is
          (there.0, there.1, there.2, omega (arith, high, g_is))))

      go : (r : Option (ℕ × ℕ)) → space.step row.state action ≡ r
          → step_fault lines line row.g action r ≡ Some fault → Case fault
      go None is e = absurd cc
      go (Some step) is e = target step is (g_of lines step.0) refl e

  bad_row : (before : List Line) (row : Line)
      → row_fault space estimate weight (cost_of plan) lines (first + length before) row
      ≡ Some fault → RowCase before row
  unfolding row_fault
  bad_row before row e has is sound = go row.is_closed refl e
    where
      line : ℕ
      line = first + length before

      steps : Option CertificateFault
      steps = steps_fault space lines (first + length before) row.g row.state space.actions

      low : Option CertificateFault
      low = unless (may_be_cut weight (cost_of plan) row.g (estimate row.state))
          (faults.Low (first + length before))

      goal : IsTrue row.is_closed → (b : Bool) → space.is_goal row.state ≡ b
          → cond b (Some (faults.GoalClosed (first + length before))) steps ≡ Some fault
          → Case fault
      goal closed true at e =
          subst Case (same_Some (faults.GoalClosed (first + length before)) fault e)
          (unsound (first + length before) (λ spelling certificate row. IsTrue row.is_closed
          × IsTrue ((space_of parts).is_goal row.state)) before row has is refl sound (closed, at))
      goal closed false at e =
          let s = step_stops space lines (first + length before) row.g row.state space.actions
          fault e in
          successor before row (first + length before) s.action refl closed at s.earlier s.fault_is
          has is sound

      go : (b : Bool) → row.is_closed ≡ b
          → cond b (cond (space.is_goal row.state)
          (Some (faults.GoalClosed (first + length before))) steps) low ≡ Some fault → Case fault
      go true closed e = goal closed (space.is_goal row.state) refl e
      go false cut e =
          let two = unmet (may_be_cut weight (cost_of plan) row.g (estimate row.state))
          (faults.Low (first + length before)) fault e in
          subst Case two.1
          (unsound (first + length before) (λ spelling certificate row. IsFalse row.is_closed
          × (MayBeCutRow parts spelling certificate row → ⊥)) before row has is refl sound (
            cut,
            λ may. never (may_be_cut weight (cost_of plan) row.g (estimate row.state))
                (may_ok weight (cost_of plan) row.g (estimate row.state) may) two.0,
          ))

  -- ---- one thing after another

  from_start : Here HasStart → after_start ≡ Err fault → Case fault
  from_start has e =
      go (stopped_at (first_fault_by (row_fault space estimate weight (cost_of plan) lines) first
      lines) (Ok (verdict_of weight plan)) fault e)
    where
      go : (first_fault_by (row_fault space estimate weight (cost_of plan) lines) first lines
          ≡ Some fault)
          ⊎ ((first_fault_by (row_fault space estimate weight (cost_of plan) lines) first lines
          ≡ None) × (◌≡◌ {A = Result Verdict CertificateFault} (Ok (verdict_of weight plan)) (Err fault)))
          → Case fault
      go (inl e) =
          let s = row_stops (row_fault space estimate weight (cost_of plan) lines)
          (IsSoundRow parts text.spelling text.certificate) sound_row first lines fault e in
          bad_row s.before s.row s.fault_is has (s.behind, s.rows_are) s.sound
      go (inr (none, e)) = absurd cc

  from_states : Here HasStates → after_states ≡ Err fault → Case fault
  from_states has e =
      go (stopped_at (unless (is_zero (g_of lines space.start)) faults.NoStart) after_start fault e)
    where
      go : (unless (is_zero (g_of lines space.start)) faults.NoStart ≡ Some fault)
          ⊎ ((unless (is_zero (g_of lines space.start)) faults.NoStart ≡ None)
          × (after_start ≡ Err fault)) → Case fault
      go (inl e) =
          let two = unmet (is_zero (g_of lines space.start)) faults.NoStart fault e in
          subst Case two.1 (
            text.spelling,
            text.certificate,
            spelled,
            (
              has,
              λ start.
                  (let f = found lines (rises lines has.0.1) space.start 0 start in
                  never (is_zero (g_of lines space.start))
                  (zero_ok (g_of lines space.start) f.0 f.1 f.2) two.0),
            ),
          )
      go (inr (none, e)) =
          from_start (
            has,
            starts lines space.start
                (holds (is_zero (g_of lines space.start)) faults.NoStart none),
          ) e

  from_order : Here HasOrder → after_order ≡ Err fault → Case fault
  from_order has e =
      go (stopped_at (first_fault_by (state_fault space) first lines) after_states fault e)
    where
      IsIn : Line → Type 0
      IsIn row = IsTrue (space.is_state row.state)

      so : (line : ℕ) (row : Line) → state_fault space line row ≡ None → IsIn row
      so line row none = holds (space.is_state row.state) (faults.BadState line) none

      go : (first_fault_by (state_fault space) first lines ≡ Some fault)
          ⊎ ((first_fault_by (state_fault space) first lines ≡ None) × (after_states ≡ Err fault))
          → Case fault
      go (inl e) =
          let s = row_stops (state_fault space) IsIn so first lines fault e in
          let two = unmet (space.is_state s.row.state)
          (faults.BadState (first + length s.before)) fault s.fault_is in
          subst Case two.1 (
            text.spelling,
            text.certificate,
            spelled,
            (
              has,
              row_at fault (first + length s.before) (IsNoState space) s.before s.row
                  (s.behind, s.rows_are) refl (s.sound, two.0),
            ),
          )
      go (inr (none, e)) =
          from_states (has, each (state_fault space) IsIn first lines so none) e

  from_plan : Here HasPlan → after_plan ≡ Err fault → Case fault
  from_plan has e = go (stopped_at (rows_order_fault first lines) after_order fault e)
    where
      out : (line : ℕ) (rows : List Line) → lines ≡ rows → rows_order_fault first rows ≡ Some fault
          → Case fault
      out line [] is e = absurd cc
      out line (row ∷ rows) is e =
          let s = order_stops (first + 1) row.state rows fault e in
          let place : first + length (row ∷ s.before) ≡ first + 1 + length s.before = omega arith in
          subst Case (ap (λ (k : ℕ). faults.RowOrder k) place ∙ s.fault_is) (
            text.spelling,
            text.certificate,
            spelled,
            (
              has,
              row_at fault (first + length (row ∷ s.before)) IsOutOfOrder (row ∷ s.before) s.row
                  (s.behind, is ∙ ap (λ (t : List Line). row ∷ t) s.rows_are) refl (
                    ascends (row ∷ s.before) s.above,
                    λ with_it. s.not_with (rises (row ∷ (s.before ++ s.row ∷ [])) with_it),
                  ),
            ),
          )

      go : (rows_order_fault first lines ≡ Some fault)
          ⊎ ((rows_order_fault first lines ≡ None) × (after_order ≡ Err fault)) → Case fault
      go (inl e) = out first lines refl e
      go (inr (none, e)) = from_order (has, ascends lines (order_rises first lines none)) e

  -- ---- the plan

  plan_case : Here HasWeight → (one : Plan) → plan ≡ Some one → plan_fault space one ≡ Err fault
      → Case fault
  unfolding plan_fault
  plan_case has one is e = go (walk space space.start 0 0 one.actions) refl e
    where
      said : (Fault : Space → Plan → Type 0) → Fault space one
          → IsSaid bytes (λ spelling certificate. HasWeight parts spelling certificate
          × (plan : Plan) × (certificate.plan ≡ Some plan) × Fault (space_of parts) plan)
      said Fault so = (text.spelling, text.certificate, spelled, (has, one, is, so))

      stop : WalkStops space space.start 0 one.actions fault → Case fault
      stop s =
          subst Case s.fault_is
          (said (λ space plan. IsStepFault space plan (0 + length s.before)) (record {
            before = s.before;
            action = s.action;
            behind = s.behind;
            actions_are = s.actions_are;
            place = omega arith;
            cost = s.cost;
            at = s.at;
            walk = s.walk;
            fault = λ to first step. no_step (space.step s.at s.action) to first s.none step;
          }))
        where
          no_step : (r : Option (ℕ × ℕ)) (to first : ℕ) → r ≡ None → r ≡ Some (to, first) → ⊥
          no_step r to first none some = cc

      ended : (to total : ℕ) → walk space space.start 0 0 one.actions ≡ Ok (to, total)
          → Walk space space.start one.actions total to
      ended to total e =
          let w = walks space space.start 0 0 one.actions to total e in
          let same : w.0 ≡ total = (let t : total ≡ 0 + w.0 = w.2 in omega (arith, t)) in
          subst (λ k. Walk space space.start one.actions k to) same w.1

      costs : (x : ℕ × ℕ) → walk space space.start 0 0 one.actions ≡ Ok x
          → IsTrue (space.is_goal x.0)
          → passes (unless (eqb one.cost x.1) (faults.Cost one.cost x.1)) ≡ Err fault → Case fault
      costs x w at_goal e =
          let two = unmet (eqb one.cost x.1) (faults.Cost one.cost x.1) fault
          (failed (unless (eqb one.cost x.1) (faults.Cost one.cost x.1)) e) in
          subst Case two.1
          (said (λ space plan. IsCostFault space plan one.cost x.1) (
            refl,
            x.0,
            ended x.0 x.1 w,
            at_goal,
            λ same.
                (let met : eqb one.cost x.1 ≡ true = grind (arith, same, nat_tests) in
                never (eqb one.cost x.1) met two.0),
          ))
        where
          failed : (o : Option CertificateFault) → passes o ≡ Err fault → o ≡ Some fault
          failed None e = absurd cc
          failed (Some d) e = cc

      goal : (x : ℕ × ℕ) → walk space space.start 0 0 one.actions ≡ Ok x → (b : Bool)
          → space.is_goal x.0 ≡ b
          → (passes (unless b faults.NotGoal)
          >>= λ goal. passes (unless (eqb one.cost x.1) (faults.Cost one.cost x.1))) ≡ Err fault
          → Case fault
      goal x w true is_goal e = costs x w is_goal e
      goal x w false is_goal e =
          subst Case (same faults.NotGoal e) (said EndsElsewhere (x.1, x.0, ended x.0 x.1 w, is_goal))
        where
          same : (d : CertificateFault) → ◌≡◌ {A = Result Bool CertificateFault} (Err d) (Err fault)
              → d ≡ fault
          same d e = cc

      go : (r : Result (ℕ × ℕ) CertificateFault) → walk space space.start 0 0 one.actions ≡ r
          → (r >>= λ walked. passes (unless (space.is_goal walked.0) faults.NotGoal)
          >>= λ goal. passes (unless (eqb one.cost walked.1) (faults.Cost one.cost walked.1)))
          ≡ Err fault → Case fault
      go (Err d) w e = stop (walk_stops space space.start 0 0 one.actions fault (w ∙ same d e))
        where
          same : (d : CertificateFault) → ◌≡◌ {A = Result Bool CertificateFault} (Err d) (Err fault)
              → ◌≡◌ {A = Result (ℕ × ℕ) CertificateFault} (Err d) (Err fault)
          same d e = cc
      go (Ok x) w e = goal x w (space.is_goal x.0) refl e

  from_weight : Here HasWeight → after_weight ≡ Err fault → Case fault
  from_weight has e = go (stopped_in (plan_fault_if_any space plan) after_plan fault e)
    where
      bad : (any : Option Plan) → plan ≡ any → plan_fault_if_any space any ≡ Err fault → Case fault
      bad None is e = absurd cc
      bad (Some one) is e = plan_case has one is e

      go : (plan_fault_if_any space plan ≡ Err fault)
          ⊎ ((x : Bool) × (plan_fault_if_any space plan ≡ Ok x) × (after_plan ≡ Err fault))
          → Case fault
      go (inl e) = bad plan refl e
      go (inr (x, is, e)) = from_plan (has, planned_if_any space plan x is) e

  from_stated : IsForTask parts text.spelling → after_stated ≡ Err fault → Case fault
  from_stated has e =
      go (stopped_at (unless (is_weight weight) faults.Weight) after_weight fault e)
    where
      go : (unless (is_weight weight) faults.Weight ≡ Some fault)
          ⊎ ((unless (is_weight weight) faults.Weight ≡ None) × (after_weight ≡ Err fault))
          → Case fault
      go (inl e) =
          let two = unmet (is_weight weight) faults.Weight fault e in
          subst Case two.1 (
            text.spelling,
            text.certificate,
            spelled,
            (
              has,
              λ is.
                  never (is_weight weight) (weight_ok weight is) two.0,
            ),
          )
      go (inr (none, e)) =
          from_weight (has, weighs weight (holds (is_weight weight) faults.Weight none)) e

  -- tables are stated that don't suit the task
  tables_case : HasGroundingOf parts text.spelling → (tables : TablesValue)
      → text.spelling.stated.choice ≡ Tables tables → tables_fault_for parts tables ≡ Some fault
      → Case fault
  tables_case has tables is e = go parts refl e
    where
      strips_is : (task : TaskParts) → parts ≡ task → kind_of task ≡ Strips
      strips_is task task_is =
          ap kind_of (sym task_is) ∙ sym has.0.0 ∙ for_strips text.spelling tables spelled.known is

      found : (strips : StripsParts) → parts ≡ tasks.Strips strips → (first : Option TablesFault)
          → tables_fault strips tables ≡ first
          → option_map (table_fault tables) first ≡ Some fault → Case fault
      found strips task_is None first_is e = absurd (none_some None fault refl e)
      found strips task_is (Some (tables_faults.Line list line)) first_is e =
          subst Case (same_Some (faults.Table (4 + line_number tables list line)) fault e) (
            text.spelling,
            text.certificate,
            spelled,
            (has, (tables, list, line, refl, (strips, task_is, is, first_is))),
          )
      found strips task_is (Some (tables_faults.Unpaid sum action)) first_is e =
          subst Case (same_Some (faults.Unpaid sum action) fault e) (
            text.spelling,
            text.certificate,
            spelled,
            (has, tables, (strips, task_is, is, first_is)),
          )

      go : (task : TaskParts) → parts ≡ task → tables_fault_for task tables ≡ Some fault
          → Case fault
      go (tasks.Grid grid) task_is e =
          absurd (grid_not_strips (strips_is (tasks.Grid grid) task_is))
      go (tasks.Tiles tiles) task_is e =
          absurd (tiles_not_strips (strips_is (tasks.Tiles tiles) task_is))
      go (tasks.Strips strips) task_is e =
          found strips task_is (tables_fault strips tables) refl e

  -- the choice of an estimate that is stated doesn't suit the task
  choice_case : HasGroundingOf parts text.spelling → (choice : Choice)
      → text.spelling.stated.choice ≡ choice → choice_fault parts choice ≡ Some fault → Case fault
  choice_case has Plain is e = absurd (none_some None fault refl e)
  choice_case has (Pattern number) is e =
      let two = unmet (suits parts (Pattern number)) faults.Pattern fault e in
      subst Case two.1 (
        text.spelling,
        text.certificate,
        spelled,
        (has, (number, is, outside number two.0)),
      )
  choice_case has (Tables tables) is e = tables_case has tables is e

  -- another grounding is stated than the task's
  grounding_case : HasFormOf parts text.spelling
      → grounding_fault parts text.spelling.stated ≡ Some fault → Case fault
  grounding_case has e =
      let same = same_grounding (grounding_of parts) text.spelling.stated.grounding in
      let two = unmet same faults.Grounding fault e in
      subst Case two.1 (
        text.spelling,
        text.certificate,
        spelled,
        (
          has,
          λ is.
              never same (grounding_met parts text.spelling.stated.grounding is) two.0,
        ),
      )

  -- the digits that a text states are not those of the task's states
  said_width_case : text.spelling.kind ≡ kind_of parts → text.spelling.version ≢ One
      → unless (eqb text.spelling.width (width_of parts))
      (faults.Width text.spelling.width (width_of parts)) ≡ Some fault → Case fault
  said_width_case is states e =
      let two = unmet (eqb text.spelling.width (width_of parts))
      (faults.Width text.spelling.width (width_of parts)) fault e in
      subst Case two.1 (
        text.spelling,
        text.certificate,
        spelled,
        (
          is,
          states,
          refl,
          refl,
          λ same.
              never (eqb text.spelling.width (width_of parts))
              (ap (λ (w : ℕ). eqb w (width_of parts)) same ∙ same_number (width_of parts)) two.0,
        ),
      )

  width_case : text.spelling.kind ≡ kind_of parts → (version : Version)
      → text.spelling.version ≡ version
      → width_fault parts version text.spelling.width ≡ Some fault → Case fault
  width_case is One version_is e = absurd (none_some None fault refl e)
  width_case is Two version_is e =
      said_width_case is (λ one. two_not_one (sym version_is ∙ one)) e
  width_case is Three version_is e =
      said_width_case is (λ one. three_not_one (sym version_is ∙ one)) e
  width_case is Four version_is e =
      said_width_case is (λ one. four_not_one (sym version_is ∙ one)) e

  judged_case : judged parts text ≡ Err fault → Case fault
  unfolding judged
  judged_case e =
      go (stopped_at (unless (same_kind (kind_of parts) text.spelling.kind) faults.Kind) after_kind
      fault e)
    where
      stated : HasGroundingOf parts text.spelling
          → (stated_fault parts text.spelling.stated ≡ Some fault)
          ⊎ ((stated_fault parts text.spelling.stated ≡ None) × (after_stated ≡ Err fault))
          → Case fault
      stated has (inl e) = choice_case has text.spelling.stated.choice refl e
      stated has (inr (none, e)) =
          from_stated (has, choice_suits parts text.spelling.stated.choice none) e

      grounding : HasFormOf parts text.spelling
          → (grounding_fault parts text.spelling.stated ≡ Some fault)
          ⊎ ((grounding_fault parts text.spelling.stated ≡ None) × (after_grounding ≡ Err fault))
          → Case fault
      grounding has (inl e) = grounding_case has e
      grounding has (inr (none, e)) =
          stated (
            has,
            groundings_same (grounding_of parts) text.spelling.stated.grounding
                (holds (same_grounding (grounding_of parts) text.spelling.stated.grounding)
                faults.Grounding none),
          ) (stopped_at (stated_fault parts text.spelling.stated) after_stated fault e)

      width : text.spelling.kind ≡ kind_of parts
          → (width_fault parts text.spelling.version text.spelling.width ≡ Some fault)
          ⊎ ((width_fault parts text.spelling.version text.spelling.width ≡ None)
          × (after_width ≡ Err fault)) → Case fault
      width is (inl e) = width_case is text.spelling.version refl e
      width is (inr (none, e)) =
          grounding (is, width_suits parts text.spelling.version text.spelling.width none)
          (stopped_at (grounding_fault parts text.spelling.stated) after_grounding fault e)

      go : (unless (same_kind (kind_of parts) text.spelling.kind) faults.Kind ≡ Some fault)
          ⊎ ((unless (same_kind (kind_of parts) text.spelling.kind) faults.Kind ≡ None)
          × (after_kind ≡ Err fault)) → Case fault
      go (inl e) =
          let two = unmet (same_kind (kind_of parts) text.spelling.kind) faults.Kind fault e in
          subst Case two.1 (
            text.spelling,
            text.certificate,
            spelled,
            λ same.
                never (same_kind (kind_of parts) text.spelling.kind)
                (ap (same_kind (kind_of parts)) same ∙ kind_same (kind_of parts)) two.0,
          )
      go (inr (none, e)) =
          width (kinds_same (kind_of parts) text.spelling.kind
          (holds (same_kind (kind_of parts) text.spelling.kind) faults.Kind none))
          (stopped_at (width_fault parts text.spelling.version text.spelling.width) after_width
          fault e)

pub refusals_have_their_case : RefusalsHaveTheirCase
unfolding checked
refusals_have_their_case parts bytes fault lawful e = go (text_of bytes) refl e
  where
    go : (r : Result Text CertificateFault) → text_of bytes ≡ r
        → (r >>= λ text. judged parts text) ≡ Err fault → IsCaseOf parts bytes fault
    go (Ok text) is e =
        let read = (read_as_spelled bytes text).0 is in
        judged_case parts lawful bytes text read.0 read.1 fault e
    go (Err d) is e =
        let c = syntax_case bytes d is in
        subst (IsCaseOf parts bytes) (sym c.1 ∙ same_fault d fault e) c.2

-- In its case a fault is reported.
use Rattle.std.proofs.Common.{◌≡◌, ◌≢◌, ◌&&◌, ℕ, zero, suc, ◌+◌, ◌<◌, Bool, true, false, cond, eqb, ltb, leb, Option, None, Some, List, [], ◌∷◌, ◌++◌, length, All, Result, Ok, Err, refl, sym, ap, ◌∙◌, arith, IsTrue, IsFalse}
use Rattle.std.specs.Prelude.{option_map}
use Rattle.std.proofs.lemmas.Bool.{eqb-true, leb-true, and_parts}
use Rattle.std.proofs.lemmas.Bool.Decides.{nat_tests}
use Rattle.std.proofs.lemmas.List.Elements.{All-head, All-tail}
use Rattle.pb_model.specs.declared.row.Estimate.{Estimate}
use Rattle.pb_model.specs.Space.{Space, Steps, IsProper}
use Rattle.pb_model.specs.Weight.{Weight, IsWeight}
use Rattle.pb_model.specs.Plan.{Plan, Walk}
use Rattle.pb_model.specs.Certificate.{Line, Certificate, HasLineWithin, cost_of}
use Rattle.pb_task.specs.declared.parts.TaskParts.{TaskParts}
use Rattle.pb_task.specs.Parts.{space_of, IsTask, greatest_cost}
use Rattle.pb_task.specs.Kinds.{kind_of}
use Rattle.pb_task.specs.Groundings.{grounding_of}
use Rattle.pb_task.specs.Widths.{width_of}
use Rattle.pb_tables.specs.declared.fault.TablesFault.{TablesFault}
use Rattle.pb_tables.specs.declared.fault.TablesFault.TheVariants as tables_faults
use Rattle.pb_tables.specs.Tables.{TablesValue}
use Rattle.pb_estimate.specs.declared.spelling.Version.{Version}
use Rattle.pb_estimate.specs.declared.spelling.Version.TheVariants.{One, Two, Three, Four}
use Rattle.pb_task.proofs.Callers.{tasks_are_proper}
use Rattle.pb_estimate.specs.declared.spelling.Spelling.{Spelling}
use Rattle.pb_estimate.specs.Estimates.{estimate_by}
use Rattle.pb_check.specs.declared.fault.CertificateFault.{CertificateFault}
use Rattle.pb_check.specs.declared.fault.CertificateFault.TheVariants as faults
use Rattle.pb_check.specs.declared.fault.Verdict.{Verdict}
use Rattle.pb_check.specs.Faults.{◌>>=◌}
use Rattle.pb_check.specs.Reading.{Text, first_line}
use Rattle.pb_check.specs.Spelling.{IsSpelled}
use Rattle.pb_check.specs.Judging.{passes, or_then, unless, same_kind, width_fault, same_grounding, grounding_fault, table_fault, tables_fault_for, choice_fault, stated_fault, is_weight, after_step, walk, plan_fault, plan_fault_if_any, AreAbove, Rise, order_fault, rows_order_fault, first_fault_by, state_fault, g_of, is_zero, target_fault, step_fault, steps_fault, may_be_cut, row_fault, verdict_of, judged, checked}
use Rattle.pb_check.specs.Cases.{HasFormOf, HasGroundingOf, IsForTask, IsPatternFault, IsTablesFault, HasWeight, HasPlan, HasOrder, HasStates, HasStart, IsStepFault, EndsElsewhere, IsCostFault, HasFault, IsOutOfOrder, IsNoState, MayBeCutRow, IsSoundRow, IsSuccessorFault, HasNoRow, HasRowAbove, IsCaseOf, CasesAreRefused}
use Rattle.pb_check.proofs.Finding.{equal_at}
use Rattle.pb_check.proofs.Passes.{steps_end}
use Rattle.pb_check.proofs.Validity.{kinds_same, groundings_same, weighs, ascends, has_row, starts, cuts}
use Rattle.pb_check.proofs.Completeness.{kind_same, width_ok, grounding_met, choice_ok, weight_ok, walked, plan_ok_if_any, rises, rows_order_ok, each_ok, found, zero_ok, steps_before, row_ok}
use Rattle.pb_check.proofs.Written.{read_of}
use Rattle.pb_check.proofs.FirstUnspelled.{syntax_told}

-- ---- the plan

walk_told : (space : Space) (from done cost : ℕ) (before : List ℕ) (action : ℕ) (behind : List ℕ)
    (length_cost at : ℕ) → Walk space from before length_cost at → space.step at action ≡ None
    → walk space from done cost (before ++ action ∷ behind)
    ≡ Err (faults.PlanStep (done + length before))
unfolding walk
walk_told space from done cost [] action behind total at is none =
    let here : space.step from action ≡ None =
    ap (λ k. space.step k action) (sym is.1) ∙ none in
    let same : done ≡ done + 0 = omega arith in
    ap (after_step done (λ next first. walk space next (done + 1) (cost + first) behind)) here
    ∙ ap (λ (k : ℕ). Err (faults.PlanStep k)) same
walk_told space from done cost (first ∷ before) action behind total at is none =
    let same : done + 1 + length before ≡ done + length (first ∷ before) = omega arith in
    ap (after_step done (λ next one. walk space next (done + 1) (cost + one)
    (before ++ action ∷ behind))) is.3
    ∙ walk_told space is.0 (done + 1) (cost + is.1) before action behind is.2 at is.4 none
    ∙ ap (λ (k : ℕ). Err (faults.PlanStep k)) same

no_step : (space : Space) (at action : ℕ) → ((to first : ℕ) → Steps space at action to first → ⊥)
    → space.step at action ≡ None
no_step space at action fault = go (space.step at action) refl
  where
    go : (r : Option (ℕ × ℕ)) → space.step at action ≡ r → space.step at action ≡ None
    go None e = e
    go (Some x) e = absurd (fault x.0 x.1 e)

-- ---- the rows

order_told : (line last : ℕ) (before : List Line) (row : Line) (behind : List Line)
    → AreAbove last before → (AreAbove last (before ++ row ∷ []) → ⊥)
    → order_fault line last (before ++ row ∷ behind) ≡ Some (faults.RowOrder (line + length before))
unfolding order_fault
order_told line last [] row behind above not_with = go (ltb last row.state) refl
  where
    go : (b : Bool) → ltb last row.state ≡ b
        → cond b (order_fault (line + 1) row.state behind) (Some (faults.RowOrder line))
        ≡ Some (faults.RowOrder (line + 0))
    go true is = absurd (not_with
        ((let lt : last < row.state = grind (arith, is, nat_tests) in lt), tt))
    go false is = let same : line ≡ line + 0 = omega arith in
        ap (λ (k : ℕ). Some (faults.RowOrder k)) same
order_told line last (first ∷ before) row behind above not_with =
    let lt : last < first.state = above.0 in
    let met : ltb last first.state ≡ true = grind (arith, lt, nat_tests) in
    let same : line + 1 + length before ≡ line + length (first ∷ before) = omega arith in
    ap (λ b. cond b (order_fault (line + 1) first.state (before ++ row ∷ behind))
    (Some (faults.RowOrder line))) met
    ∙ order_told (line + 1) first.state before row behind above.1 (λ with_it. not_with (lt, with_it))
    ∙ ap (λ (k : ℕ). Some (faults.RowOrder k)) same

rows_told : (line : ℕ) (before : List Line) (row : Line) (behind : List Line)
    → IsOutOfOrder before row
    → rows_order_fault line (before ++ row ∷ behind) ≡ Some (faults.RowOrder (line + length before))
rows_told line [] row behind is = absurd (is.1 (ascends (row ∷ []) tt))
rows_told line (first ∷ before) row behind is =
    let same : line + 1 + length before ≡ line + length (first ∷ before) = omega arith in
    order_told (line + 1) first.state before row behind (rises (first ∷ before) is.0)
    (λ with_it. is.1 (ascends (first ∷ (before ++ row ∷ [])) with_it))
    ∙ ap (λ (k : ℕ). Some (faults.RowOrder k)) same

told_by : (fault_of : (line : ℕ) → Line → Option CertificateFault) (P : Line → Type 0)
    → ((line : ℕ) (row : Line) → P row → fault_of line row ≡ None)
    → (first : ℕ) (before : List Line) (row : Line) (behind : List Line) (fault : CertificateFault)
    → All P before → fault_of (first + length before) row ≡ Some fault
    → first_fault_by fault_of first (before ++ row ∷ behind) ≡ Some fault
unfolding first_fault_by
told_by fault_of P so first [] row behind fault sound is =
    let same : first ≡ first + 0 = omega arith in
    ap (λ f. or_then f (first_fault_by fault_of (first + 1) behind))
    (ap (λ (k : ℕ). fault_of k row) same ∙ is)
told_by fault_of P so first (one ∷ before) row behind fault sound is =
    let same : first + 1 + length before ≡ first + length (one ∷ before) = omega arith in
    ap (λ f. or_then f (first_fault_by fault_of (first + 1) (before ++ row ∷ behind)))
    (so first one (All-head P one before sound))
    ∙ told_by fault_of P so (first + 1) before row behind fault (All-tail P one before sound)
    (ap (λ (k : ℕ). fault_of k row) same ∙ is)

no_g : (rows : List Line) (state : ℕ) → HasNoRow rows state → g_of rows state ≡ None
no_g rows state none = go (g_of rows state) refl
  where
    go : (g : Option ℕ) → g_of rows state ≡ g → g_of rows state ≡ None
    go None e = e
    go (Some k) e = let h = has_row rows state k e in absurd (none h.0 h.1 h.2)

-- ---- all together

module _ (parts : TaskParts) (lawful : IsTask parts) (bytes : List ℕ) (spelling : Spelling)
    (certificate : Certificate) (spelled : IsSpelled bytes spelling certificate) where
  abbrev text : Text
  text = record {
    spelling = spelling;
    certificate = certificate;
    first = first_line spelling certificate.plan;
  }

  abbrev space : Space
  space = space_of parts

  abbrev estimate : ℕ → Estimate
  estimate = estimate_by parts spelling.stated.choice

  abbrev lines : List Line
  lines = certificate.lines

  abbrev weight : Weight
  weight = certificate.weight

  abbrev plan : Option Plan
  plan = certificate.plan

  abbrev first : ℕ
  first = first_line spelling certificate.plan

  abbrev next : Option CertificateFault → Result Verdict CertificateFault
      → Result Verdict CertificateFault
  next fault rest = passes fault >>= λ x. rest

  abbrev after_start : Result Verdict CertificateFault
  after_start =
      next (first_fault_by (row_fault space estimate weight (cost_of plan) lines) first lines)
      (Ok (verdict_of weight plan))

  abbrev after_states : Result Verdict CertificateFault
  after_states = next (unless (is_zero (g_of lines space.start)) faults.NoStart) after_start

  abbrev after_order : Result Verdict CertificateFault
  after_order = next (first_fault_by (state_fault space) first lines) after_states

  abbrev after_plan : Result Verdict CertificateFault
  after_plan = next (rows_order_fault first lines) after_order

  abbrev after_weight : Result Verdict CertificateFault
  after_weight = plan_fault_if_any space plan >>= λ x. after_plan

  abbrev after_stated : Result Verdict CertificateFault
  after_stated = next (unless (is_weight weight) faults.Weight) after_weight

  abbrev after_grounding : Result Verdict CertificateFault
  after_grounding = next (stated_fault parts spelling.stated) after_stated

  abbrev after_width : Result Verdict CertificateFault
  after_width = next (grounding_fault parts spelling.stated) after_grounding

  abbrev after_kind : Result Verdict CertificateFault
  after_kind = next (width_fault parts spelling.version spelling.width) after_width

  -- ---- what is judged after each

  read : checked parts bytes
      ≡ next (unless (same_kind (kind_of parts) spelling.kind) faults.Kind) after_kind
  unfolding checked judged
  read = ap (λ r. r >>= λ text. judged parts text) (read_of bytes spelling certificate spelled)

  to_kind : spelling.kind ≡ kind_of parts → checked parts bytes ≡ after_kind
  to_kind is =
      read
      ∙ ap (λ b. next (unless b faults.Kind) after_kind)
      (ap (same_kind (kind_of parts)) is ∙ kind_same (kind_of parts))

  to_width : HasFormOf parts spelling → checked parts bytes ≡ after_width
  to_width has =
      to_kind has.0
      ∙ ap (λ o. next o after_width) (width_ok parts spelling.version spelling.width has.1)

  to_grounding : HasGroundingOf parts spelling → checked parts bytes ≡ after_grounding
  to_grounding has =
      to_width has.0
      ∙ ap (λ b. next (unless b faults.Grounding) after_grounding)
      (grounding_met parts spelling.stated.grounding has.1)

  to_stated : IsForTask parts spelling → checked parts bytes ≡ after_stated
  to_stated has =
      to_grounding has.0
      ∙ ap (λ o. next o after_stated) (choice_ok parts spelling.stated.choice has.1)

  to_weight : HasWeight parts spelling certificate → checked parts bytes ≡ after_weight
  to_weight has =
      to_stated has.0
      ∙ ap (λ b. next (unless b faults.Weight) after_weight) (weight_ok weight has.1)

  to_plan : HasPlan parts spelling certificate → checked parts bytes ≡ after_plan
  to_plan has =
      to_weight has.0 ∙ ap (λ r. r >>= λ x. after_plan) (plan_ok_if_any space plan has.1)

  to_order : HasOrder parts spelling certificate → checked parts bytes ≡ after_order
  to_order has =
      to_plan has.0
      ∙ ap (λ o. next o after_order) (rows_order_ok first lines (rises lines has.1))

  to_states : HasStates parts spelling certificate → checked parts bytes ≡ after_states
  to_states has =
      to_order has.0
      ∙ ap (λ o. next o after_states)
      (each_ok (state_fault space) (λ row. IsTrue (space.is_state row.state)) first lines
      (λ line row is. ap (λ b. unless b (faults.BadState line)) is) has.1)

  to_start : HasStart parts spelling certificate → checked parts bytes ≡ after_start
  to_start has =
      let f = found lines (rises lines has.0.0.1) space.start 0 has.1 in
      to_states has.0
      ∙ ap (λ b. next (unless b faults.NoStart) after_start)
      (zero_ok (g_of lines space.start) f.0 f.1 f.2)

  -- ---- by case

  not_yes : (b : Bool) → (b ≡ true → ⊥) → b ≡ false
  not_yes true refuted = absurd (refuted refl)
  not_yes false refuted = refl

  kind_told : spelling.kind ≢ kind_of parts → checked parts bytes ≡ Err faults.Kind
  kind_told refuted =
      read ∙ ap (λ b. next (unless b faults.Kind) after_kind)
      (not_yes (same_kind (kind_of parts) spelling.kind)
      (λ met. refuted (kinds_same (kind_of parts) spelling.kind met)))

  -- from version 2 on the digits that are stated are compared
  width_fault_is : (version : Version) → version ≢ One → width_fault parts version spelling.width
      ≡ unless (eqb spelling.width (width_of parts))
      (faults.Width spelling.width (width_of parts))
  width_fault_is One states = absurd (states refl)
  width_fault_is Two states = refl
  width_fault_is Three states = refl
  width_fault_is Four states = refl

  width_told : (said wanted : ℕ) → spelling.kind ≡ kind_of parts → spelling.version ≢ One
      → said ≡ spelling.width → wanted ≡ width_of parts → said ≢ wanted
      → checked parts bytes ≡ Err (faults.Width said wanted)
  width_told said wanted is states said_is wanted_is differ =
      to_kind is
      ∙ ap (λ o. next o after_width) (width_fault_is spelling.version states)
      ∙ ap (λ b. next (unless b (faults.Width spelling.width (width_of parts))) after_width)
      (not_yes (eqb spelling.width (width_of parts))
      (λ same. differ (said_is ∙ eqb-true _ _ same ∙ sym wanted_is)))
      ∙ ap (λ (w : ℕ). Err (faults.Width w (width_of parts))) (sym said_is)
      ∙ ap (λ (w : ℕ). Err (faults.Width said w)) (sym wanted_is)

  grounding_told : HasFormOf parts spelling → spelling.stated.grounding ≢ grounding_of parts
      → checked parts bytes ≡ Err faults.Grounding
  grounding_told has refuted =
      to_width has
      ∙ ap (λ b. next (unless b faults.Grounding) after_grounding)
      (not_yes (same_grounding (grounding_of parts) spelling.stated.grounding)
      (λ met. refuted (groundings_same (grounding_of parts) spelling.stated.grounding met)))

  pattern_told : HasGroundingOf parts spelling → IsPatternFault spelling
      → checked parts bytes ≡ Err faults.Pattern
  pattern_told has (number, choice_is, outside) =
      to_grounding has
      ∙ ap (λ o. next o after_stated)
      (ap (choice_fault parts) choice_is
      ∙ ap (λ b. unless b faults.Pattern)
      (not_yes (leb 1 number && leb number 12) (λ met.
      let both = and_parts (leb 1 number) (leb number 12) met in
      outside (leb-true _ _ both.0, leb-true _ _ both.1))))

  tables_told : HasGroundingOf parts spelling → (tables : TablesValue) (fault : TablesFault)
      → IsTablesFault parts spelling tables fault
      → checked parts bytes ≡ Err (table_fault tables fault)
  tables_told has tables fault (strips, task_is, choice_is, found) =
      to_grounding has
      ∙ ap (λ o. next o after_stated)
      (ap (choice_fault parts) choice_is
      ∙ ap (λ (task : TaskParts). tables_fault_for task tables) task_is
      ∙ ap (option_map (table_fault tables)) found)

  weight_told : IsForTask parts spelling → (IsWeight weight → ⊥)
      → checked parts bytes ≡ Err faults.Weight
  weight_told has refuted =
      to_stated has ∙ ap (λ b. next (unless b faults.Weight) after_weight)
      (not_yes (is_weight weight) (λ met. refuted (weighs weight met)))

  plan_told : HasWeight parts spelling certificate → (one : Plan) → plan ≡ Some one
      → (fault : CertificateFault) → plan_fault space one ≡ Err fault
      → checked parts bytes ≡ Err fault
  plan_told has one is fault bad =
      to_weight has
      ∙ ap (λ any. plan_fault_if_any space any >>= λ x. after_plan) is
      ∙ ap (λ r. r >>= λ x. after_plan) bad

  step_told : HasWeight parts spelling certificate → (one : Plan) → plan ≡ Some one → (i : ℕ)
      → IsStepFault space one i → checked parts bytes ≡ Err (faults.PlanStep i)
  unfolding plan_fault
  step_told has one is i bad =
      plan_told has one is (faults.PlanStep i)
      (ap (λ r. r >>= λ walked. passes (unless (space.is_goal walked.0) faults.NotGoal)
      >>= λ goal. passes (unless (eqb one.cost walked.1) (faults.Cost one.cost walked.1)))
      (ap (walk space space.start 0 0) bad.actions_are
      ∙ walk_told space space.start 0 0 bad.before bad.action bad.behind bad.cost bad.at bad.walk
      (no_step space bad.at bad.action bad.fault)
      ∙ ap (λ (k : ℕ). Err (faults.PlanStep k)) (let p = bad.place in omega (arith, p))))

  abbrev at_end : Plan → ℕ × ℕ → Result Bool CertificateFault
  at_end one end =
      passes (unless (space.is_goal end.0) faults.NotGoal)
      >>= λ goal. passes (unless (eqb one.cost end.1) (faults.Cost one.cost end.1))

  end_is : (one : Plan) (cost to : ℕ) → Walk space space.start one.actions cost to
      → plan_fault space one ≡ at_end one (to, cost)
  unfolding plan_fault
  end_is one cost to walk =
      let same : 0 + cost ≡ cost = omega arith in
      ap (λ r. r >>= at_end one) (walked space space.start 0 0 one.actions cost to walk
      ∙ ap (λ (k : ℕ). Ok (to, k)) same)

  goal_told : HasWeight parts spelling certificate → (one : Plan) → plan ≡ Some one
      → EndsElsewhere space one → checked parts bytes ≡ Err faults.NotGoal
  goal_told has one is (cost, to, walk, no_goal) =
      plan_told has one is faults.NotGoal (end_is one cost to walk
      ∙ ap (λ b. passes (unless b faults.NotGoal)
      >>= λ goal. passes (unless (eqb one.cost cost) (faults.Cost one.cost cost))) no_goal)

  cost_told : HasWeight parts spelling certificate → (one : Plan) → plan ≡ Some one
      → (said real : ℕ) → IsCostFault space one said real
      → checked parts bytes ≡ Err (faults.Cost said real)
  cost_told has one is said real (said_is, goal, walk, at_goal, differs) =
      plan_told has one is (faults.Cost said real) (end_is one real goal walk
      ∙ ap (λ b. passes (unless b faults.NotGoal)
      >>= λ goal. passes (unless (eqb one.cost real) (faults.Cost one.cost real))) at_goal
      ∙ ap (λ b. passes (unless b (faults.Cost one.cost real)))
      (not_yes (eqb one.cost real) (λ met. differs (said_is ∙ eqb-true one.cost real met)))
      ∙ ap (λ (k : ℕ). Err (faults.Cost k real)) (sym said_is))

  order_case : (line : ℕ) → HasPlan parts spelling certificate
      → HasFault first lines line IsOutOfOrder → checked parts bytes ≡ Err (faults.RowOrder line)
  order_case line has is =
      to_plan has
      ∙ ap (λ o. next o after_order) (ap (rows_order_fault first) is.rows_are
      ∙ rows_told first is.before is.row is.behind is.fault)
      ∙ ap (λ (k : ℕ). Err (faults.RowOrder k)) (sym is.place)

  state_case : (line : ℕ) → HasOrder parts spelling certificate
      → HasFault first lines line (IsNoState space) → checked parts bytes ≡ Err (faults.BadState line)
  state_case line has is =
      let bad : first_fault_by (state_fault space) first lines
      ≡ Some (faults.BadState (first + length is.before)) =
      ap (first_fault_by (state_fault space) first) is.rows_are
      ∙ told_by (state_fault space) (λ row. IsTrue (space.is_state row.state))
      (λ line row is. ap (λ b. unless b (faults.BadState line)) is) first is.before is.row is.behind
      (faults.BadState (first + length is.before)) is.fault.0
      (ap (λ b. unless b (faults.BadState (first + length is.before))) is.fault.1) in
      to_order has ∙ ap (λ o. next o after_states) bad
      ∙ ap (λ (k : ℕ). Err (faults.BadState k)) (sym is.place)

  start_told : HasStates parts spelling certificate → (HasLineWithin lines space.start 0 → ⊥)
      → checked parts bytes ≡ Err faults.NoStart
  start_told has refuted =
      to_states has ∙ ap (λ b. next (unless b faults.NoStart) after_start)
      (not_yes (is_zero (g_of lines space.start)) (λ met. refuted (starts lines space.start met)))

  -- a row's own fault
  row_told : HasStart parts spelling certificate → (line : ℕ)
      (Fault : Line → Type 0) (fault : CertificateFault)
      → ((row : Line) → Fault row
      → row_fault space estimate weight (cost_of plan) lines line row ≡ Some fault)
      → HasFault first lines line (λ before row. All (IsSoundRow parts spelling certificate) before
      × Fault row) → checked parts bytes ≡ Err fault
  row_told has line Fault fault bad is =
      let rise = rises lines has.0.0.1 in
      let here : first_fault_by (row_fault space estimate weight (cost_of plan) lines) first lines
      ≡ Some fault =
      ap (first_fault_by (row_fault space estimate weight (cost_of plan) lines) first) is.rows_are
      ∙ told_by (row_fault space estimate weight (cost_of plan) lines)
      (IsSoundRow parts spelling certificate)
      (λ line row sound. row_ok space estimate weight (cost_of plan) lines rise line row sound.0
      sound.1) first is.before is.row is.behind fault is.fault.0
      (ap (λ (k : ℕ). row_fault space estimate weight (cost_of plan) lines k is.row) (sym is.place)
      ∙ bad is.row is.fault.1) in
      to_start has ∙ ap (λ o. next o (Ok (verdict_of weight plan))) here

  goal_closed : (line : ℕ) (row : Line) → IsTrue row.is_closed × IsTrue (space.is_goal row.state)
      → row_fault space estimate weight (cost_of plan) lines line row
      ≡ Some (faults.GoalClosed line)
  unfolding row_fault
  goal_closed line row (closed, at) =
      ap (λ b. cond b (cond (space.is_goal row.state) (Some (faults.GoalClosed line))
      (steps_fault space lines line row.g row.state space.actions))
      (unless (may_be_cut weight (cost_of plan) row.g (estimate row.state)) (faults.Low line)))
      closed
      ∙ ap (λ b. cond b (Some (faults.GoalClosed line))
      (steps_fault space lines line row.g row.state space.actions)) at

  low_row : (line : ℕ) (row : Line)
      → IsFalse row.is_closed × (MayBeCutRow parts spelling certificate row → ⊥)
      → row_fault space estimate weight (cost_of plan) lines line row ≡ Some (faults.Low line)
  unfolding row_fault
  low_row line row (cut, refuted) =
      ap (λ b. cond b (cond (space.is_goal row.state) (Some (faults.GoalClosed line))
      (steps_fault space lines line row.g row.state space.actions))
      (unless (may_be_cut weight (cost_of plan) row.g (estimate row.state)) (faults.Low line))) cut
      ∙ ap (λ b. unless b (faults.Low line))
      (not_yes (may_be_cut weight (cost_of plan) row.g (estimate row.state))
      (λ met. refuted (cuts weight (cost_of plan) row.g (estimate row.state) met)))

  module _ (rise : Rise lines) (proper : IsProper space greatest_cost) (line action : ℕ)
      (Fault : (to most : ℕ) → Type 0) (fault : CertificateFault)
      (bad : (to most : ℕ) → Fault to most
      → target_fault line action most (g_of lines to) ≡ Some fault) where
    successor_row : (row : Line) → IsSuccessorFault space lines action Fault row
        → row_fault space estimate weight (cost_of plan) lines line row ≡ Some fault
    unfolding row_fault
    successor_row row is =
        ap (λ b. cond b (cond (space.is_goal row.state) (Some (faults.GoalClosed line))
        (steps_fault space lines line row.g row.state space.actions))
        (unless (may_be_cut weight (cost_of plan) row.g (estimate row.state)) (faults.Low line)))
        is.closed
        ∙ ap (λ b. cond b (Some (faults.GoalClosed line))
        (steps_fault space lines line row.g row.state space.actions)) is.no_goal
        ∙ sym (steps_end space lines line row.g row.state action space.actions (Some fault)
        (λ none. cc) (proper.action row.state action is.to is.cost is.step)
        (steps_before space lines rise line row.g row.state action is.earlier)
        (sym (ap (step_fault lines line row.g action) is.step
        ∙ bad is.to (row.g + is.cost) is.fault)))

  missing : (line action to most : ℕ) → HasNoRow lines to
      → target_fault line action most (g_of lines to) ≡ Some (faults.Missing line action)
  missing line action to most none = ap (target_fault line action most) (no_g lines to none)

  too_dear : Rise lines → (line action to most : ℕ) → HasRowAbove lines to most
      → target_fault line action most (g_of lines to) ≡ Some (faults.TooDear line action)
  too_dear rise line action to most (row, at, same, high) =
      let there : g_of lines to ≡ Some row.g =
      sym (equal_at lines at.0 row at.1 (sym at.2) rise to same) in
      let above : leb row.g most ≡ false = grind (arith, high, nat_tests) in
      ap (target_fault line action most) there ∙ ap (λ b. unless b (faults.TooDear line action)) above

unspelled : (parts : TaskParts) (bytes : List ℕ) (line : ℕ) → IsCaseOf parts bytes (faults.Syntax line)
    → checked parts bytes ≡ Err (faults.Syntax line)
unfolding checked
unspelled parts bytes line is = ap (λ r. r >>= λ text. judged parts text) (syntax_told bytes line is)

pub cases_are_refused : CasesAreRefused
cases_are_refused parts bytes fault lawful is = go fault is
  where
    proper : IsProper (space_of parts) greatest_cost
    proper = (tasks_are_proper parts lawful).0

    go : (fault : CertificateFault) → IsCaseOf parts bytes fault → checked parts bytes ≡ Err fault
    go (faults.Syntax line) is = unspelled parts bytes line is
    go faults.Kind (spelling, certificate, spelled, refuted) =
        kind_told parts lawful bytes spelling certificate spelled refuted
    go (faults.Width said wanted) (spelling, certificate, spelled, (is, version, said_is, wanted_is, differ)) =
        width_told parts lawful bytes spelling certificate spelled said wanted is version said_is
        wanted_is differ
    go faults.Grounding (spelling, certificate, spelled, (has, refuted)) =
        grounding_told parts lawful bytes spelling certificate spelled has refuted
    go faults.Pattern (spelling, certificate, spelled, (has, bad)) =
        pattern_told parts lawful bytes spelling certificate spelled has bad
    go (faults.Table line) (spelling, certificate, spelled, (has, (tables, list, at, line_is, bad))) =
        tables_told parts lawful bytes spelling certificate spelled has tables
        (tables_faults.Line list at) bad
        ∙ ap (λ (k : ℕ). Err (faults.Table k)) (sym line_is)
    go (faults.Unpaid sum action) (spelling, certificate, spelled, (has, tables, bad)) =
        tables_told parts lawful bytes spelling certificate spelled has tables
        (tables_faults.Unpaid sum action) bad
    go faults.Weight (spelling, certificate, spelled, (has, refuted)) =
        weight_told parts lawful bytes spelling certificate spelled has refuted
    go (faults.PlanStep i) (spelling, certificate, spelled, (has, one, is, bad)) =
        step_told parts lawful bytes spelling certificate spelled has one is i bad
    go faults.NotGoal (spelling, certificate, spelled, (has, one, is, bad)) =
        goal_told parts lawful bytes spelling certificate spelled has one is bad
    go (faults.Cost said real) (spelling, certificate, spelled, (has, one, is, bad)) =
        cost_told parts lawful bytes spelling certificate spelled has one is said real bad
    go (faults.RowOrder line) (spelling, certificate, spelled, (has, bad)) =
        order_case parts lawful bytes spelling certificate spelled line has bad
    go (faults.BadState line) (spelling, certificate, spelled, (has, bad)) =
        state_case parts lawful bytes spelling certificate spelled line has bad
    go faults.NoStart (spelling, certificate, spelled, (has, refuted)) =
        start_told parts lawful bytes spelling certificate spelled has refuted
    go (faults.GoalClosed line) (spelling, certificate, spelled, (has, bad)) =
        row_told parts lawful bytes spelling certificate spelled has line
        (λ row. IsTrue row.is_closed × IsTrue ((space_of parts).is_goal row.state))
        (faults.GoalClosed line)
        (goal_closed parts lawful bytes spelling certificate spelled line) bad
    go (faults.Missing line action) (spelling, certificate, spelled, (has, bad)) =
        let rise = rises certificate.lines has.0.0.1 in
        row_told parts lawful bytes spelling certificate spelled has line
        (IsSuccessorFault (space_of parts) certificate.lines action
        (λ to most. HasNoRow certificate.lines to)) (faults.Missing line action)
        (successor_row parts lawful bytes spelling certificate spelled rise proper line action
        (λ to most. HasNoRow certificate.lines to) (faults.Missing line action)
        (missing parts lawful bytes spelling certificate spelled line action)) bad
    go (faults.TooDear line action) (spelling, certificate, spelled, (has, bad)) =
        let rise = rises certificate.lines has.0.0.1 in
        row_told parts lawful bytes spelling certificate spelled has line
        (IsSuccessorFault (space_of parts) certificate.lines action
        (λ to most. HasRowAbove certificate.lines to most)) (faults.TooDear line action)
        (successor_row parts lawful bytes spelling certificate spelled rise proper line action
        (λ to most. HasRowAbove certificate.lines to most) (faults.TooDear line action)
        (too_dear parts lawful bytes spelling certificate spelled rise line action)) bad
    go (faults.Low line) (spelling, certificate, spelled, (has, bad)) =
        row_told parts lawful bytes spelling certificate spelled has line
        (λ row. IsFalse row.is_closed × (MayBeCutRow parts spelling certificate row → ⊥))
        (faults.Low line) (low_row parts lawful bytes spelling certificate spelled line) bad

-- Where no fault is found, the certificate is valid, and the other way round.
use Rattle.std.proofs.Common.{◌≡◌, ℕ, zero, suc, ◌+◌, ◌<◌, ◌≤◌, Bool, true, false, ◌&&◌, cond, eqb, leb, Option, None, Some, List, [], ◌∷◌, All, Contains, map, Result, Ok, Err, refl, sym, ap, ◌∙◌, subst, arith, ◌⊎◌, inl, inr, IsTrue, IsFalse}
use Rattle.std.proofs.lemmas.Option.{same_Some}
use Rattle.std.specs.List.{AllByRecursion}
use Rattle.std.specs.List.Sorted.{IsStrictlySortedBy}
use Rattle.std.specs.Ordering.{nat_cmp}
use Rattle.std.specs.Cmp.{nat_cmp_is}
use Rattle.std.specs.declared.cmp.Ordering.TheVariants.{Less}
use Rattle.std.proofs.lemmas.Bool.{eqb-true, leb-true, and_parts}
use Rattle.std.proofs.lemmas.List.Elements.{All-nil, All-cons, Contains-append_right}
use Rattle.pb_model.specs.declared.row.Estimate.{Estimate}
use Rattle.pb_model.specs.declared.row.Estimate.TheVariants.{Cost, Dead}
use Rattle.pb_model.specs.Space.{Space, IsProper}
use Rattle.pb_model.specs.Weight.{Weight, IsWeight}
use Rattle.pb_model.specs.Plan.{Plan, Walk, IsPlan}
use Rattle.pb_model.specs.Store.{MayBeCut}
use Rattle.pb_model.specs.Certificate.{Line, Ascends, HasLineWithin, IsPlanIfAny, IsClosedLine, IsValid, cost_of}
use Rattle.pb_task.specs.declared.kind.Kind.{Kind}
use Rattle.pb_task.specs.declared.kind.Kind.TheVariants.{Grid, Tiles, Strips}
use Rattle.pb_task.specs.declared.grounding.Grounding.{Grounding}
use Rattle.pb_task.specs.declared.grounding.Grounding.TheVariants as groundings
use Rattle.pb_task.specs.declared.parts.TaskParts.{TaskParts}
use Rattle.pb_task.specs.declared.parts.TaskParts.TheVariants as tasks
use Rattle.pb_task.specs.Parts.{space_of}
use Rattle.pb_task.specs.Kinds.{kind_of}
use Rattle.pb_task.specs.Groundings.{grounding_of}
use Rattle.pb_task.specs.Widths.{width_of}
use Rattle.pb_tables.specs.declared.fault.TablesFault.{TablesFault}
use Rattle.pb_tables.specs.Suits.{tables_fault}
use Rattle.pb_estimate.specs.Choices.{Choice, Plain, Pattern, Tables}
use Rattle.pb_estimate.specs.declared.spelling.Version.{Version}
use Rattle.pb_estimate.specs.declared.spelling.Version.TheVariants.{One, Two, Three, Four}
use Rattle.pb_estimate.specs.Estimates.{estimate_by, tables_suit, suits}
use Rattle.pb_check.specs.declared.fault.CertificateFault.{CertificateFault}
use Rattle.pb_check.specs.declared.fault.CertificateFault.TheVariants as faults
use Rattle.pb_check.specs.declared.fault.Verdict.{Verdict}
use Rattle.std.specs.Prelude.{IfOk, option_map, is_none}
use Rattle.pb_check.specs.declared.fault.CheckError.{CheckError}
use Rattle.pb_check.specs.Shown.{IsAccepted}
use Rattle.pb_check.specs.Faults.{◌>>=◌, Gives}
use Rattle.pb_check.specs.Reading.{Text, text_of}
use Rattle.pb_check.specs.Spelling.{HasWidthOf}
use Rattle.pb_check.specs.Judging.{passes, or_then, unless, same_kind, width_fault, same_grounding, grounding_fault, table_fault, tables_fault_for, choice_fault, stated_fault, is_weight, after_step, walk, plan_fault, plan_fault_if_any, AreAbove, Rise, rows_order_fault, first_fault_by, state_fault, g_of, is_zero, target_fault, step_fault, steps_fault, may_be_cut, row_fault, verdict_of, judged, checked}
use Rattle.pb_check.proofs.Finding.{order_rises}
use Rattle.pb_check.proofs.Spelled.{bind_ok, ok_is, spelled}
use Rattle.pb_check.proofs.Written.{is_spelled}

-- ---- steps of a chain that did not fail

pub passed : (fault : Option CertificateFault) (x : Bool) → passes fault ≡ Ok x → fault ≡ None
passed None x e = refl
passed (Some f) x e = absurd cc

pub holds : (b : Bool) (f : CertificateFault) → unless b f ≡ None → b ≡ true
holds true f e = refl
holds false f e = absurd cc

first_none : (a b : Option CertificateFault) → or_then a b ≡ None → (a ≡ None) × (b ≡ None)
first_none None b e = (refl, e)
first_none (Some f) b e = absurd cc

-- ---- kind, width, grounding and weight

pub kinds_same : (a b : Kind) → same_kind a b ≡ true → b ≡ a
kinds_same Grid Grid e = refl
kinds_same Tiles Tiles e = refl
kinds_same Strips Strips e = refl
kinds_same Grid Tiles e = absurd cc
kinds_same Grid Strips e = absurd cc
kinds_same Tiles Grid e = absurd cc
kinds_same Tiles Strips e = absurd cc
kinds_same Strips Grid e = absurd cc
kinds_same Strips Tiles e = absurd cc

pub width_suits : (parts : TaskParts) (version : Version) (width : ℕ) → width_fault parts version width ≡ None → HasWidthOf parts version width
width_suits parts One width e = tt
width_suits parts Two width e = eqb-true _ _ (holds (eqb width (width_of parts)) (faults.Width width (width_of parts)) e)
width_suits parts Three width e = eqb-true _ _ (holds (eqb width (width_of parts)) (faults.Width width (width_of parts)) e)
width_suits parts Four width e = eqb-true _ _ (holds (eqb width (width_of parts)) (faults.Width width (width_of parts)) e)

pub groundings_same : (a b : Grounding) → same_grounding a b ≡ true → b ≡ a
groundings_same groundings.All groundings.All e = refl
groundings_same groundings.Reachable groundings.Reachable e = refl
groundings_same groundings.All groundings.Reachable e = absurd cc
groundings_same groundings.Reachable groundings.All e = absurd cc

pub choice_suits : (parts : TaskParts) (choice : Choice) → choice_fault parts choice ≡ None → suits parts choice ≡ true
choice_suits parts Plain e = refl
choice_suits parts (Pattern number) e = holds (suits parts (Pattern number)) faults.Pattern e
choice_suits parts (Tables tables) e = go parts e
  where
    none : (fault : Option TablesFault) → option_map (table_fault tables) fault ≡ None → is_none fault ≡ true
    none None e = refl
    none (Some fault) e = absurd cc

    go : (parts : TaskParts) → tables_fault_for parts tables ≡ None → tables_suit parts tables ≡ true
    go (tasks.Grid grid) e = absurd cc
    go (tasks.Tiles tiles) e = absurd cc
    go (tasks.Strips strips) e = none (tables_fault strips tables) e

pub weighs : (weight : Weight) → is_weight weight ≡ true → IsWeight weight
weighs weight e =
    let a = and_parts (leb 1 weight.den) (leb weight.den weight.num && leb weight.num 1000) e in
    let b = and_parts (leb weight.den weight.num) (leb weight.num 1000) a.1 in
    record { positive = leb-true _ _ a.0; at_least_one = leb-true _ _ b.0; small = leb-true _ _ b.1 }

-- ---- the plan

pub walks : (space : Space) (from done cost : ℕ) (actions : List ℕ) (to total : ℕ) → walk space from done cost actions ≡ Ok (to, total) → (rest : ℕ) × Walk space from actions rest to × (total ≡ cost + rest)
unfolding walk
walks space from done cost [] to total e = let p = ok_is (from, cost) (to, total) e in (0, (refl, sym (ap (λ (q : ℕ × ℕ). q.0) p)), (let c : cost ≡ total = ap (λ (q : ℕ × ℕ). q.1) p in omega (arith, c)))
walks space from done cost (action ∷ actions) to total e = go (λ next first h. walks space next (done + 1) (cost + first) actions to total h) (space.step from action) refl e
  where
    go : ((next first : ℕ) → walk space next (done + 1) (cost + first) actions ≡ Ok (to, total) → (rest : ℕ) × Walk space next actions rest to × (total ≡ cost + first + rest)) → (r : Option (ℕ × ℕ)) → space.step from action ≡ r → after_step done (λ next first. walk space next (done + 1) (cost + first) actions) r ≡ Ok (to, total) → (rest : ℕ) × Walk space from (action ∷ actions) rest to × (total ≡ cost + rest)
    go rest None is e = absurd cc
    go rest (Some step) is e =
        let h = rest step.0 step.1 e in
        (step.1 + h.0, (step.0, step.1, h.0, is, h.1, refl), (let t : total ≡ cost + step.1 + h.0 = h.2 in omega (arith, t)))

planned : (space : Space) (plan : Plan) (x : Bool) → plan_fault space plan ≡ Ok x → IsPlan space plan
unfolding plan_fault
planned space plan x e =
    let a = bind_ok (walk space space.start 0 0 plan.actions) (λ walked. passes (unless (space.is_goal walked.0) faults.NotGoal) >>= λ goal. passes (unless (eqb plan.cost walked.1) (faults.Cost plan.cost walked.1))) x e in
    let b = bind_ok (passes (unless (space.is_goal a.0.0) faults.NotGoal)) (λ goal. passes (unless (eqb plan.cost a.0.1) (faults.Cost plan.cost a.0.1))) x a.2 in
    let w = walks space space.start 0 0 plan.actions a.0.0 a.0.1 a.1 in
    let c : plan.cost ≡ a.0.1 = eqb-true _ _ (holds (eqb plan.cost a.0.1) (faults.Cost plan.cost a.0.1) (passed (unless (eqb plan.cost a.0.1) (faults.Cost plan.cost a.0.1)) x b.2)) in
    let same : w.0 ≡ plan.cost = (let t : a.0.1 ≡ 0 + w.0 = w.2 in omega (arith, t, c)) in
    (a.0.0, subst (λ k. Walk space space.start plan.actions k a.0.0) same w.1, holds (space.is_goal a.0.0) faults.NotGoal (passed (unless (space.is_goal a.0.0) faults.NotGoal) b.0 b.1))

pub planned_if_any : (space : Space) (plan : Option Plan) (x : Bool) → plan_fault_if_any space plan ≡ Ok x → IsPlanIfAny space plan
planned_if_any space None x e = tt
planned_if_any space (Some plan) x e = planned space plan x e

-- ---- the rows

all_above : (before : ℕ) (rows : List Line) → AreAbove before rows → AllByRecursion (λ y. nat_cmp before y ≡ Less) (map (λ (l : Line). l.state) rows)
all_above before [] h = tt
all_above before (row ∷ rows) h = (sym (nat_cmp_is before row.state Less h.0), all_above before rows (weaker before row.state rows (let a : before < row.state = h.0 in omega (arith, a)) h.1))
  where
    weaker : (low high : ℕ) (rows : List Line) → low ≤ high → AreAbove high rows → AreAbove low rows
    weaker low high [] le h = tt
    weaker low high (row ∷ rows) le h = ((let a : high < row.state = h.0 in omega (arith, a, le)), h.1)

ascends_above : (before : ℕ) (rows : List Line) → AreAbove before rows → Ascends rows
unfolding IsStrictlySortedBy
ascends_above before [] h = tt
ascends_above before (row ∷ rows) h = (all_above row.state rows h.1, ascends_above row.state rows h.1)

pub ascends : (rows : List Line) → Rise rows → Ascends rows
unfolding IsStrictlySortedBy
ascends [] h = tt
ascends (row ∷ rows) h = (all_above row.state rows h, ascends_above row.state rows h)

pub each : (fault : (line : ℕ) → Line → Option CertificateFault) (P : Line → Type 0) (line : ℕ) (rows : List Line) → ((k : ℕ) (row : Line) → fault k row ≡ None → P row) → first_fault_by fault line rows ≡ None → All P rows
unfolding first_fault_by
each fault P line [] so e = All-nil P
each fault P line (row ∷ rows) so e =
    let h = first_none (fault line row) (first_fault_by fault (line + 1) rows) e in
    All-cons P row rows (so line row h.0) (each fault P (line + 1) rows so h.1)

pub has_row : (rows : List Line) (state g : ℕ) → g_of rows state ≡ Some g → (line : Line) × Contains rows line × (line.state ≡ state) × (line.g ≡ g)
unfolding g_of
has_row [] state g e = absurd cc
has_row (row ∷ rows) state g e = go (has_row rows state g) (eqb row.state state) refl e
  where
    go : (g_of rows state ≡ Some g → (line : Line) × Contains rows line × (line.state ≡ state) × (line.g ≡ g)) → (b : Bool) → eqb row.state state ≡ b → cond b (Some row.g) (g_of rows state) ≡ Some g → (line : Line) × Contains (row ∷ rows) line × (line.state ≡ state) × (line.g ≡ g)
    go rest true is e = (row, (0, omega arith, refl), eqb-true _ _ is, same_Some row.g g e)
    go rest false is e = let h = rest e in (h.0, Contains-append_right (row ∷ []) rows h.0 h.1, h.2, h.3)

within_is : (rows : List Line) (state most : ℕ) (g : Option ℕ) → g_of rows state ≡ g → ((k : ℕ) → g ≡ Some k → k ≤ most) → (g ≡ None → ⊥) → HasLineWithin rows state most
within_is rows state most None is low some = absurd (some refl)
within_is rows state most (Some k) is low some =
    let h = has_row rows state k is in
    (h.0, h.1, h.2, (let a : h.0.g ≡ k = h.3 in let b : k ≤ most = low k refl in omega (arith, a, b)))

pub starts : (rows : List Line) (state : ℕ) → is_zero (g_of rows state) ≡ true → HasLineWithin rows state 0
starts rows state e = go (g_of rows state) refl e
  where
    go : (g : Option ℕ) → g_of rows state ≡ g → is_zero g ≡ true → HasLineWithin rows state 0
    go None is e = absurd cc
    go (Some k) is e = let z = eqb-true k 0 e in within_is rows state 0 (Some k) is (λ j same. let s = same_Some k j same in omega (arith, z, s)) (λ none. cc)

pub on_target : (rows : List Line) (line action state most : ℕ) → target_fault line action most (g_of rows state) ≡ None → HasLineWithin rows state most
on_target rows line action state most e = go (g_of rows state) refl e
  where
    go : (g : Option ℕ) → g_of rows state ≡ g → target_fault line action most g ≡ None → HasLineWithin rows state most
    go None is e = absurd cc
    go (Some k) is e = let le = leb-true k most (holds (leb k most) (faults.TooDear line action) e) in within_is rows state most (Some k) is (λ j same. let s = same_Some k j same in omega (arith, le, s)) (λ none. cc)

pub step_passes : (space : Space) (rows : List Line) (line g state count action : ℕ) → steps_fault space rows line g state count ≡ None → action < count → step_fault rows line g action (space.step state action) ≡ None
unfolding steps_fault
step_passes space rows line g state zero action e lt = absurd (omega (arith, lt))
step_passes space rows line g state (suc count) action e lt =
    let h = first_none (steps_fault space rows line g state count) (step_fault rows line g count (space.step state count)) e in
    elim (cases action count lt) [
      | inl less ↦ step_passes space rows line g state count action h.0 less
      | inr same ↦ subst (λ a. step_fault rows line g a (space.step state a) ≡ None) (sym same) h.1
    ]
  where
    cases : (action count : ℕ) → action < suc count → (action < count) ⊎ (action ≡ count)
    cases action count lt = grind (arith, lt)

pub cuts : (weight : Weight) (best : Option ℕ) (g : ℕ) (e : Estimate) → may_be_cut weight best g e ≡ true → MayBeCut weight best g e
cuts weight best g Dead h = tt
cuts weight None g (Cost x) h = absurd cc
cuts weight (Some best) g (Cost x) h = leb-true _ _ h

module _ (space : Space) (greatest : ℕ) (estimate : ℕ → Estimate) (weight : Weight) (best : Option ℕ) (rows : List Line) (proper : IsProper space greatest) where
  pub closed_row : (line : ℕ) (row : Line) → row_fault space estimate weight best rows line row ≡ None → row.is_closed ≡ true → IsClosedLine space rows row
  unfolding row_fault
  closed_row line row e closed =
      let inner : cond (space.is_goal row.state) (Some (faults.GoalClosed line)) (steps_fault space rows line row.g row.state space.actions) ≡ None =
      then_is row.is_closed (cond (space.is_goal row.state) (Some (faults.GoalClosed line)) (steps_fault space rows line row.g row.state space.actions)) (unless (may_be_cut weight best row.g (estimate row.state)) (faults.Low line)) closed e in
      let h = no_goal (space.is_goal row.state) (faults.GoalClosed line) (steps_fault space rows line row.g row.state space.actions) inner in
      record {
        no_goal = h.0;
        successors = λ action to cost step.
            let p = step_passes space rows line row.g row.state space.actions action h.1 (proper.action row.state action to cost step) in
            on_target rows line action to (row.g + cost) (sym (ap (step_fault rows line row.g action) step) ∙ p);
      }
    where
      then_is : (b : Bool) (x y : Option CertificateFault) → b ≡ true → cond b x y ≡ None → x ≡ None
      then_is true x y b e = e
      then_is false x y b e = absurd cc

      no_goal : (b : Bool) (f : CertificateFault) (rest : Option CertificateFault) → cond b (Some f) rest ≡ None → (b ≡ false) × (rest ≡ None)
      no_goal true f rest e = absurd cc
      no_goal false f rest e = (refl, e)

  pub cut_row : (line : ℕ) (row : Line) → row_fault space estimate weight best rows line row ≡ None → row.is_closed ≡ false → MayBeCut weight best row.g (estimate row.state)
  unfolding row_fault
  cut_row line row e is_open =
      cuts weight best row.g (estimate row.state) (holds (may_be_cut weight best row.g (estimate row.state)) (faults.Low line)
      (else_is row.is_closed (cond (space.is_goal row.state) (Some (faults.GoalClosed line)) (steps_fault space rows line row.g row.state space.actions)) (unless (may_be_cut weight best row.g (estimate row.state)) (faults.Low line)) is_open e))
    where
      else_is : (b : Bool) (x y : Option CertificateFault) → b ≡ false → cond b x y ≡ None → y ≡ None
      else_is false x y b e = e
      else_is true x y b e = absurd cc

-- ---- all together

abbrev stated_estimate : TaskParts → Text → ℕ → Estimate
stated_estimate parts text = estimate_by parts text.spelling.stated.choice

pub record IsJudged (parts : TaskParts) (text : Text) (verdict : Verdict) : Type 0 where
  pub kind : text.spelling.kind ≡ kind_of parts
  pub width : HasWidthOf parts text.spelling.version text.spelling.width
  pub grounding : text.spelling.stated.grounding ≡ grounding_of parts
  pub stated : suits parts text.spelling.stated.choice ≡ true
  pub valid : IsValid (space_of parts) (stated_estimate parts text) text.certificate
  pub verdict_is : verdict ≡ verdict_of text.certificate.weight text.certificate.plan

pub judged_valid : (parts : TaskParts) (greatest : ℕ) (text : Text) (verdict : Verdict) → IsProper (space_of parts) greatest → judged parts text ≡ Ok verdict → IsJudged parts text verdict
unfolding judged
judged_valid parts greatest text verdict proper e =
    let space = space_of parts in
    let estimate = stated_estimate parts text in
    let kind = kind_of parts in
    let lines = text.certificate.lines in
    let weight = text.certificate.weight in
    let best = cost_of text.certificate.plan in
    let b1 = bind_ok (passes (unless (same_kind kind text.spelling.kind) faults.Kind)) _ verdict e in
    let bw = bind_ok (passes (width_fault parts text.spelling.version text.spelling.width)) _ verdict b1.2 in
    let bg = bind_ok (passes (grounding_fault parts text.spelling.stated)) _ verdict bw.2 in
    let b0 = bind_ok (passes (stated_fault parts text.spelling.stated)) _ verdict bg.2 in
    let b2 = bind_ok (passes (unless (is_weight weight) faults.Weight)) _ verdict b0.2 in
    let b3 = bind_ok (plan_fault_if_any space text.certificate.plan) _ verdict b2.2 in
    let b4 = bind_ok (passes (rows_order_fault text.first lines)) _ verdict b3.2 in
    let b5 = bind_ok (passes (first_fault_by (state_fault space) text.first lines)) _ verdict b4.2 in
    let b6 = bind_ok (passes (unless (is_zero (g_of lines space.start)) faults.NoStart)) _ verdict b5.2 in
    let b7 = bind_ok (passes (first_fault_by (row_fault space estimate weight best lines) text.first lines)) _ verdict b6.2 in record {
      kind = kinds_same kind text.spelling.kind (holds (same_kind kind text.spelling.kind) faults.Kind (passed (unless (same_kind kind text.spelling.kind) faults.Kind) b1.0 b1.1));
      width = width_suits parts text.spelling.version text.spelling.width (passed (width_fault parts text.spelling.version text.spelling.width) bw.0 bw.1);
      grounding = groundings_same (grounding_of parts) text.spelling.stated.grounding (holds (same_grounding (grounding_of parts) text.spelling.stated.grounding) faults.Grounding (passed (grounding_fault parts text.spelling.stated) bg.0 bg.1));
      stated = choice_suits parts text.spelling.stated.choice (passed (stated_fault parts text.spelling.stated) b0.0 b0.1);
      valid = record {
        weight = weighs weight (holds (is_weight weight) faults.Weight (passed (unless (is_weight weight) faults.Weight) b2.0 b2.1));
        plan = planned_if_any space text.certificate.plan b3.0 b3.1;
        ascending = ascends lines (order_rises text.first lines (passed (rows_order_fault text.first lines) b4.0 b4.1));
        states = each (state_fault space) (λ line. IsTrue (space.is_state line.state)) text.first lines (λ k row h. holds (space.is_state row.state) (faults.BadState k) h) (passed (first_fault_by (state_fault space) text.first lines) b5.0 b5.1);
        start = starts lines space.start (holds (is_zero (g_of lines space.start)) faults.NoStart (passed (unless (is_zero (g_of lines space.start)) faults.NoStart) b6.0 b6.1));
        closed = each (row_fault space estimate weight best lines) (λ line. IsTrue line.is_closed → IsClosedLine space lines line) text.first lines (closed_row space greatest estimate weight best lines proper) (passed (first_fault_by (row_fault space estimate weight best lines) text.first lines) b7.0 b7.1);
        cut = each (row_fault space estimate weight best lines) (λ line. IsFalse line.is_closed → MayBeCut weight best line.g (estimate line.state)) text.first lines (cut_row space greatest estimate weight best lines proper) (passed (first_fault_by (row_fault space estimate weight best lines) text.first lines) b7.0 b7.1);
      };
      verdict_is = sym (ok_is (verdict_of weight text.certificate.plan) verdict b7.2);
    }

pub accepted : (parts : TaskParts) (greatest : ℕ) (bytes : List ℕ) (verdict : Verdict) → IsProper (space_of parts) greatest → checked parts bytes ≡ Ok verdict → IsAccepted parts bytes verdict
unfolding checked
accepted parts greatest bytes verdict proper e =
    let b = bind_ok (text_of bytes) (λ text. judged parts text) verdict e in
    let v = judged_valid parts greatest b.0 verdict proper b.2 in
    record {
      spelling = b.0.spelling;
      certificate = b.0.certificate;
      spelled = is_spelled bytes b.0 (spelled bytes b.0 b.1);
      kind = v.kind;
      width = v.width;
      grounding = v.grounding;
      stated = v.stated;
      valid = v.valid;
      verdict_is = v.verdict_is;
    }

pub if_accepted : (parts : TaskParts) (greatest : ℕ) (bytes : List ℕ) (r : Result Verdict CheckError) → IfOk r (λ verdict. IsProper (space_of parts) greatest) → Gives (λ x. x) r (checked parts bytes)
    → IfOk r (λ verdict. IsAccepted parts bytes verdict)
if_accepted parts greatest bytes (Ok verdict) proper e = accepted parts greatest bytes verdict proper e
if_accepted parts greatest bytes (Err fault) proper e = tt

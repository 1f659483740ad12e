-- A `solve` is served with room for what its budget allows.
use Rattle.std.proofs.Common.{◌≡◌, inl, inr, ℕ, ◌+◌, ◌^◌, ◌<◌, ◌≤◌, ◌==◌, Bool, Option, None, Some, IfSome, IsSome, List, [], ◌∷◌, ◌++◌, length, map, reverse, Result, refl, sym, ap, subst, arith}
use Rattle.std.specs.Option.{IsSomeAnd}
use Rattle.std.specs.Cmp.{unsigned_tied}
use Rattle.std.specs.Ordering.{nat_cmp}
use Rattle.std.specs.List.{AllByRecursion, IsDistinct}
use Rattle.std.proofs.Math.Nat.{mul-le-mul_left, mul-le-mul_right}
use Rattle.std.proofs.lemmas.List.{length-map, length-reverse}
use Rattle.std.proofs.lemmas.List.Elements.{recursion_from_All}
use Rattle.std.proofs.lemmas.Map.Keys.{IsDistinct-from_sorted}
use Rattle.pb_model.specs.declared.row.Row.{Row}
use Rattle.pb_model.specs.Plan.{Plan, IsPlan, IsBound}
use Rattle.pb_model.specs.Store.{row_at}
use Rattle.pb_model.specs.Texts.{lines, none_report, stopped_report}
use Rattle.pb_model.specs.Certificate.{Line, AreLinesOf, line_of}
use Rattle.pb_outside.specs.Memory.{ShelfView, SinkView, HasRoom, CanTake, room_of}
use Rattle.pb_machine.specs.declared.event.End.TheVariants.{Quiet, Budget}
use Rattle.pb_machine.specs.declared.event.Event.{Event}
use Rattle.pb_machine.specs.declared.settings.Settings.{Settings}
use Rattle.pb_machine.specs.Settings.{AreInRange}
use Rattle.pb_task.specs.declared.parts.TaskParts.{TaskParts}
use Rattle.pb_task.specs.Parts.{space_of, IsTask, action_name, greatest_cost}
use Rattle.pb_task.proofs.Callers.{tasks_are_proper}
use Rattle.pb_tables.specs.Tables.{TablesValue}
use Rattle.pb_estimate.specs.Choices.{Choice}
use Rattle.pb_estimate.specs.Spelling.{spelling_of, head_of}
use Rattle.pb_cert.specs.Found.{certificate_of, IsCertificateOf}
use Rattle.pb_cert.proofs.Callers.{walk_actions}
use Rattle.pb_journal.specs.Lengths.{JournalTextsAreShort}
use Rattle.pb_report.specs.Texts.{plan_text}
use Rattle.pb_command.specs.Meaning.{Read, Solve, SolveMeaning, IsSolveInRange}
use Rattle.pb_answer.specs.Outputs.{Output}
use Rattle.pb_answer.specs.Searches.{weight_asked, IsChoiceAsked}
use Rattle.pb_answer.specs.Engines.{engine_asked, Left, FindsIn}
use Rattle.pb_answer.specs.Claims.{IsCertificate, journal_outputs_if_any}
use Rattle.pb_answer.specs.Answer.{Said, IsFound, IsFoundOf, OrRefused}
use Rattle.pb_run.specs.Calls.{CanHold}
use Rattle.pb_run.specs.Answers.{AnswersReading}
use Rattle.pb_run.specs.InMemory.{HasRoomFor}
use Rattle.pb_run.specs.Rooms.{HasTextsAndLine, most_rows, most_of_certificate, most_of_journal, NamesAreWithin, HeadsAreWithin, HasSearchRoom, SolvesAreServed}
use Rattle.pb_run.proofs.InMemory.{can_hold}
use Rattle.pb_run.proofs.Lengths.{plan_report_long, stopped_long, IsSmallPlan, IsSmallPlanIfAny, certificate_long}
use Rattle.pb_run.proofs.Rows.{traces_are_short}
use Rattle.pb_run.proofs.LeftRows.{few_actions, AreWithin, IsShort, rows_are_small, quiet_is_within, journal_is_short}
use Rattle.pb_run.proofs.Rooms.{serves, takes, stop_fits}

-- ---- room

-- room for more is room for less
room_for_less : (room : Option ℕ) (less more : ℕ) → less ≤ more
    → IsSomeAnd room (λ r. more ≤ r) → IsSomeAnd room (λ r. less ≤ r)
room_for_less None less more le has = has
room_for_less (Some room) less more le has = omega (arith, le, has)

holds_both : (can_hold : List ℕ → ℕ → Type 0) (first second : List Output)
    → CanHold can_hold first → CanHold can_hold second → CanHold can_hold (first ++ second)
holds_both can_hold [] second holds too = too
holds_both can_hold (one ∷ first) second holds too =
    (holds.0, holds_both can_hold first second holds.1 too)

-- ---- numbers

all_of : {A : Type 0} (P Q : A → Type 0) → ((x : A) → P x → Q x) → (xs : List A)
    → AllByRecursion P xs → AllByRecursion Q xs
all_of P Q f [] all = tt
all_of P Q f (x ∷ xs) all = (f x all.0, all_of P Q f xs all.1)

-- ---- what a search leaves is small

module _ (parts : TaskParts) (settings : Settings) (lawful : IsTask parts)
    (range : AreInRange settings) (left : Left) (within : AreWithin parts settings left) where
  -- an abbreviation of what each line is
  abbrev IsRow : Line → Type 0
  IsRow line = (row : Row) × (row_at left.guide left.store line.state ≡ Some row)
      × (line ≡ line_of line.state row)

  lines_are_few : (lines : List Line) → AreLinesOf left.guide left.store.rows lines
      → length lines ≤ most_rows parts settings
  lines_are_few lines are =
      let states = map (λ (line : Line). line.state) lines in
      let apart : IsDistinct (λ (a b : ℕ). a == b) states =
      subst (λ (eq : ℕ → ℕ → Bool). IsDistinct eq states) (λ i a b. unsigned_tied a b i)
      (IsDistinct-from_sorted nat_cmp states are.ascending) in
      let few = within.few states apart (have_rows lines (recursion_from_All IsRow lines are.sound)) in
      let same = length-map lines (λ (line : Line). line.state) in
      omega (arith, few, same)
    where
      have_rows : (lines : List Line) → AllByRecursion IsRow lines
          → AllByRecursion (λ state. IsSome (row_at left.guide left.store state))
          (map (λ (line : Line). line.state) lines)
      have_rows [] are = tt
      have_rows (line ∷ lines) are =
          (subst (λ (r : Option Row). IsSome r) (sym are.0.1) refl, have_rows lines are.1)

  lines_are_small : (lines : List Line) → AreLinesOf left.guide left.store.rows lines
      → AllByRecursion (λ (line : Line). line.g < 2 ^ 63) lines
  lines_are_small lines are =
      all_of IsRow (λ (line : Line). line.g < 2 ^ 63)
      (λ line is.
      let same : line.g ≡ is.0.g = ap (λ (l : Line). l.g) is.2 in
      let small = within.small (left.guide.home line.state) line.state is.0 is.1 in
      omega (arith, same, small))
      lines (recursion_from_All IsRow lines are.sound)

  module _ (plan : Plan) (a_plan : IsPlan (space_of parts) plan) (small : plan.cost < 2 ^ 64)
      (found : FindsIn (space_of parts) left (Some plan)) where
    known_actions : AllByRecursion (λ action. action < (space_of parts).actions) plan.actions
    known_actions =
        walk_actions (space_of parts) greatest_cost (tasks_are_proper parts lawful).0 plan.actions
        (space_of parts).start plan.cost a_plan.0 a_plan.1

    few_steps : length plan.actions ≤ most_rows parts settings
    few_steps =
        let trace = found.traced in
        let short = traces_are_short (space_of parts) greatest_cost left.guide left.store trace.goal
        (most_rows parts settings) (reverse plan.actions) (tasks_are_proper parts lawful).0
        within.sound within.few trace.back in
        let same = length-reverse plan.actions in
        omega (arith, short, same)

    plan_is_small : IsSmallPlan (most_rows parts settings) plan
    plan_is_small =
        let few = few_actions parts lawful in
        record {
          steps = few_steps;
          actions = all_of (λ action. action < (space_of parts).actions) (λ action. action < 65536)
              (λ action less. omega (arith, few, less)) plan.actions known_actions;
          cost = small;
        }

  certificate_is_short : (choice : Choice) (head : ℕ)
      → length (lines (head_of (spelling_of parts choice))) ≤ head
      → (plan : Option Plan) (text : List ℕ)
      → IsSmallPlanIfAny (most_rows parts settings) plan
      → IsCertificateOf parts choice (record { num = settings.num; den = settings.den })
      left.guide left.store plan text
      → length text ≤ most_of_certificate parts settings head
  certificate_is_short choice head short plan text small is =
      let weight = range.weight in
      let num = weight.small in
      let den = weight.at_least_one in
      let made = certificate_of (record { num = settings.num; den = settings.den }) plan is.lines in
      let long = certificate_long (spelling_of parts choice) made (most_rows parts settings) head
      short
      (record {
        few = rows_are_small parts settings range lawful;
        num = omega (arith, num);
        den = omega (arith, num, den);
        plan = small;
        rows = lines_are_few is.lines is.are_lines;
        costs = lines_are_small is.lines is.are_lines;
      }) in
      let same = ap length is.text_is in
      omega (arith, long, same)

-- ---- what is served

module _ (lengths : JournalTextsAreShort) (solve : SolveMeaning) (shelf : ShelfView)
    (sink : SinkView) (texts : List (List ℕ)) (parts : TaskParts) (given : Option TablesValue)
    (longest head : ℕ)
    (has : HasTextsAndLine (Read (Solve solve)) shelf sink texts) (lawful : IsTask parts)
    (range : IsSolveInRange solve) (names : NamesAreWithin parts longest)
    (room : HasSearchRoom solve given parts longest head shelf sink) where
  abbrev Most : ℕ
  Most = most_rows parts solve.settings

  -- this is saved and printed
  fits : (said : Said) (outputs : List Output) (report : List ℕ) → said.outputs ≡ outputs
      → said.report ≡ report → CanHold (HasRoomFor shelf) outputs → CanTake sink (length report)
      → CanHold (HasRoom shelf) said.outputs × CanTake sink (length said.report)
  fits said outputs report saves says holds take = (
    subst (λ (o : List Output). CanHold (HasRoom shelf) o) (sym saves)
        (can_hold shelf sink has.none_fails has.none_fails_to_put outputs holds),
    subst (λ (r : List ℕ). CanTake sink (length r)) (sym says) take,
  )

  journal_fits : (journal : Option (List Event)) → IsShort parts solve.settings journal
      → CanHold (HasRoomFor shelf) (journal_outputs_if_any solve.journal solve.settings journal)
  journal_fits journal short = go solve.journal room.journal journal short
    where
      go : (name : Option (List ℕ))
          → IfSome name (λ n. HasRoomFor shelf n (most_of_journal parts solve.settings))
          → (journal : Option (List Event)) → IsShort parts solve.settings journal
          → CanHold (HasRoomFor shelf) (journal_outputs_if_any name solve.settings journal)
      go name has_room None short = tt
      go None has_room (Some events) short = tt
      go (Some name) has_room (Some events) short =
          (room_for_less (room_of shelf name) _ (most_of_journal parts solve.settings) short has_room, tt)

  certificate_fits : (choice : Choice) → IsChoiceAsked solve given parts choice → (left : Left)
      → AreWithin parts solve.settings left → (plan : Option Plan)
      → IsSmallPlanIfAny Most plan → (outputs : List Output)
      → IsCertificate solve.certificate parts choice (weight_asked solve) left.guide left.store plan
      outputs
      → CanHold (HasRoomFor shelf) outputs
  certificate_fits choice asked left within plan small outputs is =
      go solve.certificate room.certificate is
    where
      go : (name : Option (List ℕ))
          → IfSome name (λ n. HeadsAreWithin solve given parts head
          × HasRoomFor shelf n (most_of_certificate parts solve.settings head))
          → IsCertificate name parts choice (weight_asked solve) left.guide left.store plan outputs
          → CanHold (HasRoomFor shelf) outputs
      go None has_room none =
          subst (λ (o : List Output). CanHold (HasRoomFor shelf) o) (sym none) tt
      go (Some name) (heads, has_room) (text, certificate, saved) =
          subst (λ (o : List Output). CanHold (HasRoomFor shelf) o) (sym saved) (
            room_for_less (room_of shelf name) (length text)
                (most_of_certificate parts solve.settings head)
                (certificate_is_short parts solve.settings lawful range.settings left within choice
                head (heads choice asked) plan text small certificate)
                has_room,
            tt,
          )

  -- a plan's report has room
  plan_takes : (left : Left) → AreWithin parts solve.settings left → (plan : Plan) (bound : ℕ)
      → IsPlan (space_of parts) plan → IsBound (weight_asked solve) plan.cost bound
      → plan.cost < 2 ^ 64 → FindsIn (space_of parts) left (Some plan)
      → CanTake sink (length (plan_text parts plan bound))
  plan_takes left within plan bound a_plan is_bound small found =
      let steps = few_steps parts solve.settings lawful range.settings left within plan a_plan small
      found in
      let known = known_actions parts solve.settings lawful range.settings left within plan a_plan
      small found in
      let rows = rows_are_small parts solve.settings range.settings lawful in
      let low : bound ≤ plan.cost =
      is_bound.least plan.cost (mul-le-mul_right plan.cost range.settings.weight.at_least_one) in
      let long = plan_report_long (action_name parts) plan.actions plan.cost bound longest
      (all_of (λ action. action < (space_of parts).actions)
      (λ action. length (action_name parts action) ≤ longest) names plan.actions known)
      (omega (arith, steps, rows)) small (omega (arith, low, small)) in
      let more = mul-le-mul_left (longest + 1) steps in
      let report = room.report in
      (has.none_fails_to_put, omega (arith, long, more, report))

  found_fits : (choice : Choice) → IsChoiceAsked solve given parts choice → (said : Said)
      → IsFound solve choice parts said
      → CanHold (HasRoom shelf) said.outputs × CanTake sink (length said.report)
  found_fits choice asked said (inl (status, (plan, bound, says, a_plan, is_bound, none, (left, searched, found, outputs, certificate, saves), small), least, saved)) =
      let within = quiet_is_within parts solve.settings range.settings lawful (engine_asked solve) choice left searched in
      fits said (outputs ++ journal_outputs_if_any solve.journal solve.settings left.journal)
      (plan_text parts plan bound) saves says
      (holds_both (HasRoomFor shelf) outputs (journal_outputs_if_any solve.journal solve.settings left.journal)
      (certificate_fits choice asked left within (Some plan)
      (plan_is_small parts solve.settings lawful range.settings left within plan a_plan small found)
      outputs certificate)
      (journal_fits left.journal
      (journal_is_short parts solve.settings range.settings lengths (engine_asked solve) choice Quiet left searched)))
      (plan_takes left within plan bound a_plan is_bound small found)
  found_fits choice asked said (inr (inl (status, says, none, (left, searched, found, outputs, certificate, saves)))) =
      let within = quiet_is_within parts solve.settings range.settings lawful (engine_asked solve) choice left searched in
      fits said (outputs ++ journal_outputs_if_any solve.journal solve.settings left.journal)
      none_report saves says
      (holds_both (HasRoomFor shelf) outputs (journal_outputs_if_any solve.journal solve.settings left.journal)
      (certificate_fits choice asked left within None tt outputs certificate)
      (journal_fits left.journal
      (journal_is_short parts solve.settings range.settings lengths (engine_asked solve) choice Quiet left searched)))
      (takes (Read (Solve solve)) shelf sink texts has (length none_report) (omega arith))
  found_fits choice asked said (inr (inr (status, says, (left, searched, saves)))) =
      let budget = range.settings.budget.1 in
      fits said (journal_outputs_if_any solve.journal solve.settings left.journal)
      (stopped_report solve.settings.budget) saves says
      (journal_fits left.journal
      (journal_is_short parts solve.settings range.settings lengths (engine_asked solve) choice Budget left searched))
      (takes (Read (Solve solve)) shelf sink texts has (length (stopped_report solve.settings.budget))
      (stopped_long solve.settings.budget (omega (arith, budget))))

pub solves_are_served : JournalTextsAreShort → SolvesAreServed
solves_are_served lengths solve shelf sink texts parts given longest head has task lawful range names room =
    serves (Read (Solve solve)) shelf sink texts has refl
    (λ said answers. go said answers)
  where
    go : (said : Said) → AnswersReading (Read (Solve solve)) texts said
        → CanHold (HasRoom shelf) said.outputs × CanTake sink (length said.report)
    go said (inl answer) =
        let found : IsFoundOf solve (parts, given) said =
        subst (λ (t : Result (TaskParts × Option TablesValue) (List ℕ)). OrRefused t (IsFoundOf solve) said) task answer in
        found_fits lengths solve shelf sink texts parts given longest head has lawful range names room
        found.0 found.1 said found.2
    go said (inr stop) = stop_fits (Read (Solve solve)) shelf sink texts has said stop

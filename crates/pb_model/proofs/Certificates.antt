-- A valid certificate shows its claim, and a quiet store makes a valid one.
use Rattle.std.proofs.Common.{◌≡◌, ℕ, ◌+◌, ◌*◌, ◌≤◌, true, false, Option, None, Some, List, [], ◌∷◌, All, Contains, refl, sym, ap, ◌∙◌, subst, arith, le_trans, mul-le-mul_left}
use Rattle.std.proofs.lemmas.List.Elements.{All-contains, All-weaker}
use Rattle.pb_model.specs.declared.row.Estimate.{Estimate}
use Rattle.pb_model.specs.declared.row.Estimate.TheVariants.{Cost, Dead}
use Rattle.pb_model.specs.declared.row.Status.{Status}
use Rattle.pb_model.specs.declared.row.Status.TheVariants.{Opened, Closed, Cut}
use Rattle.pb_model.specs.declared.row.Row.{Row}
use Rattle.pb_model.specs.Space.{Space}
use Rattle.pb_model.specs.Weight.{Weight}
use Rattle.pb_model.specs.Guide.{Guide, IsAdmissible}
use Rattle.pb_model.specs.Store.{Store, row_at, HasRowWithin, IsQuiet, MayBeCut}
use Rattle.pb_model.specs.Plan.{Plan, IsPlan, Walk}
use Rattle.pb_model.specs.Sound.{IsSound}
use Rattle.pb_model.specs.Certificate.{Line, Certificate, IsValid, IsClosedLine, HasLineWithin, ClaimHolds, cost_of, is_closed, line_of, AreLinesOf, IsPlanIfAny, IsBackedBy}
use Rattle.pb_model.specs.Laws.{ValidCertificatesHold, QuietStoresCertify}
use Rattle.pb_model.proofs.Tests.{by_cases, not_both}
use Rattle.pb_model.proofs.Optimality.{cut_bounds}

-- ---- what a valid certificate shows

module _ (space : Space) (estimate : ℕ → Estimate) (certificate : Certificate) (admissible : IsAdmissible space estimate) (valid : IsValid space estimate certificate) where
  -- the certificate's plan bounds a plan of this cost
  abbrev IsBounded : (total : ℕ) → Type 0
  IsBounded total = (best : ℕ) × (cost_of certificate.plan ≡ Some best) × (certificate.weight.den * best ≤ certificate.weight.num * total)

  known_line : (line : Line) → Contains certificate.lines line → space.is_state line.state ≡ true
  known_line line at = All-contains (λ l. space.is_state l.state ≡ true) certificate.lines line valid.states at

  closed_line : (line : Line) → Contains certificate.lines line → line.is_closed ≡ true → IsClosedLine space certificate.lines line
  closed_line line at = All-contains (λ l. l.is_closed ≡ true → IsClosedLine space certificate.lines l) certificate.lines line valid.closed at

  cut_line : (line : Line) → Contains certificate.lines line → line.is_closed ≡ false → MayBeCut certificate.weight (cost_of certificate.plan) line.g (estimate line.state)
  cut_line line at = All-contains (λ l. l.is_closed ≡ false → MayBeCut certificate.weight (cost_of certificate.plan) l.g (estimate l.state)) certificate.lines line valid.cut at

  at_cut : (actions : List ℕ) (goal spent rest : ℕ) (line : Line) → Contains certificate.lines line → line.g ≤ spent → Walk space line.state actions rest goal → space.is_goal goal ≡ true → line.is_closed ≡ false → IsBounded (spent + rest)
  at_cut actions goal spent rest line at low walk reached ended =
      cut_bounds certificate.weight (cost_of certificate.plan) line.g rest (spent + rest) (estimate line.state) (cut_line line at ended) (admissible line.state actions rest goal (known_line line at) walk reached) (omega arith)

  along : (actions : List ℕ) (goal spent rest : ℕ) (line : Line) → Contains certificate.lines line → line.g ≤ spent → Walk space line.state actions rest goal → space.is_goal goal ≡ true → IsBounded (spent + rest)
  along [] goal spent rest line at low walk reached = by_cases line.is_closed
      (λ e. not_both (space.is_goal line.state) (sym (ap space.is_goal walk.1) ∙ reached) (closed_line line at e).no_goal)
      (λ e. at_cut [] goal spent rest line at low walk reached e)
  along (action ∷ actions) goal spent rest line at low walk reached =
      go (λ next there less on. along actions goal (spent + walk.1) walk.2 next there less on reached)
    where
      go : ((next : Line) → Contains certificate.lines next → next.g ≤ spent + walk.1 → Walk space next.state actions walk.2 goal → IsBounded ((spent + walk.1) + walk.2)) → IsBounded (spent + rest)
      go rest_of = by_cases line.is_closed
          (λ e. let there : HasLineWithin certificate.lines walk.0 (line.g + walk.1) = (closed_line line at e).successors action walk.0 walk.1 walk.3 in
          subst IsBounded (omega (arith, walk.5)) (rest_of there.0 there.1 (omega (arith, there.3, low)) (subst (λ s. Walk space s actions walk.2 goal) (sym there.2) walk.4)))
          (λ e. at_cut (action ∷ actions) goal spent rest line at low walk reached e)

  bounded : (plan : Plan) → IsPlan space plan → IsBounded plan.cost
  bounded plan is =
      let first : HasLineWithin certificate.lines space.start 0 = valid.start in
      let b : IsBounded (0 + plan.cost) = along plan.actions is.0 0 plan.cost first.0 first.1 first.3 (subst (λ s. Walk space s plan.actions plan.cost is.0) (sym first.2) is.1) is.2 in
      subst IsBounded (omega arith) b

holds : (space : Space) (weight : Weight) (plan : Option Plan) → IsPlanIfAny space plan
    → ((other : Plan) → IsPlan space other → (best : ℕ) × (cost_of plan ≡ Some best) × (weight.den * best ≤ weight.num * other.cost)) → ClaimHolds space weight plan
holds space weight None is each = λ other other_is. let b = each other other_is in none b.0 b.1
  where
    none : (best : ℕ) → ◌≡◌ {A = Option ℕ} None (Some best) → ⊥
    none best e = cc
holds space weight (Some plan) is each = (is, λ other other_is. let b = each other other_is in same b.0 b.1 other.cost b.2)
  where
    same : (best : ℕ) → ◌≡◌ {A = Option ℕ} (Some plan.cost) (Some best) → (cost : ℕ) → weight.den * best ≤ weight.num * cost → weight.den * plan.cost ≤ weight.num * cost
    same best e cost h = let is : best ≡ plan.cost = cc in subst (λ b. weight.den * b ≤ weight.num * cost) is h

pub valid_certificates_hold : ValidCertificatesHold
valid_certificates_hold space estimate certificate admissible valid = holds space certificate.weight certificate.plan valid.plan (bounded space estimate certificate admissible valid)

-- ---- the certificate of a quiet store

closed_status : (status : Status) → is_closed status ≡ true → status ≡ Closed
closed_status Closed e = refl
closed_status Opened e = cc
closed_status Cut e = cc

cut_status : (status : Status) → is_closed status ≡ false → (status ≡ Opened → ⊥) → status ≡ Cut
cut_status Cut e never = refl
cut_status Opened e never = absurd (never refl)
cut_status Closed e never = cc

backed_cut : (weight : Weight) (incumbent : Option ℕ) (plan : Option Plan) (g : ℕ) (e : Estimate) → IsBackedBy incumbent plan → MayBeCut weight incumbent g e → MayBeCut weight (cost_of plan) g e
backed_cut weight incumbent plan g Dead backs may = tt
backed_cut weight None plan g (Cost h) backs may = absurd may
backed_cut weight (Some best) None g (Cost h) backs may = absurd backs
backed_cut weight (Some best) (Some plan) g (Cost h) backs may = le_trans (mul-le-mul_left weight.den backs) may

module _ (space : Space) (guide : Guide) (store : Store) (plan : Option Plan) (lines : List Line) (sound : IsSound space guide store) (quiet : IsQuiet store) (are : AreLinesOf guide store.rows lines) (backs : IsBackedBy store.incumbent plan) where
  abbrev IsOf : Line → Row → Type 0
  IsOf line row = (row_at guide store line.state ≡ Some row) × (line ≡ line_of line.state row)

  each_line : (P : Line → Type 0) → ((line : Line) (row : Row) → IsOf line row → P line) → All P lines
  each_line P each = All-weaker (λ (line : Line). (row : Row) × (row_at guide store line.state ≡ Some row) × (line ≡ line_of line.state row)) P (λ line h. each line h.0 (h.1, h.2)) lines are.sound

  line_within : (state most : ℕ) → HasRowWithin guide store state most → HasLineWithin lines state most
  line_within state most h = (line_of state h.0, are.complete state h.0 h.1, refl, h.2)

  line_closed : (line : Line) (row : Row) → IsOf line row → line.is_closed ≡ true → IsClosedLine space lines line
  line_closed line row of e =
      let closed : row.status ≡ Closed = closed_status row.status (sym (ap (λ (l : Line). l.is_closed) of.1) ∙ e) in
      record {
        no_goal = sound.no_goal line.state row of.0 closed;
        successors = λ action to cost step. subst (λ g. HasLineWithin lines to (g + cost)) (sym (ap (λ (l : Line). l.g) of.1)) (line_within to (row.g + cost) (sound.closed line.state row of.0 closed action to cost step));
      }

  line_cut : (line : Line) (row : Row) → IsOf line row → line.is_closed ≡ false → MayBeCut store.weight (cost_of plan) line.g (guide.estimate line.state)
  line_cut line row of e =
      let ended : row.status ≡ Cut = cut_status row.status (sym (ap (λ (l : Line). l.is_closed) of.1) ∙ e) (λ opened. quiet (guide.home line.state) (line.state, row, of.0, opened)) in
      let may = backed_cut store.weight store.incumbent plan row.g row.estimate backs (sound.cut line.state row of.0 ended) in
      subst (λ g. MayBeCut store.weight (cost_of plan) g (guide.estimate line.state)) (sym (ap (λ (l : Line). l.g) of.1))
      (subst (MayBeCut store.weight (cost_of plan) row.g) (sound.place (guide.home line.state) line.state row of.0).2 may)

  certified : IsPlanIfAny space plan → IsValid space guide.estimate (record { weight = store.weight; plan = plan; lines = lines })
  certified claims = record {
    weight = sound.weight;
    plan = claims;
    ascending = are.ascending;
    states = each_line (λ line. space.is_state line.state ≡ true) (λ line row of. (sound.place (guide.home line.state) line.state row of.0).1);
    start = line_within space.start 0 sound.start;
    closed = each_line (λ line. line.is_closed ≡ true → IsClosedLine space lines line) line_closed;
    cut = each_line (λ line. line.is_closed ≡ false → MayBeCut store.weight (cost_of plan) line.g (guide.estimate line.state)) line_cut;
  }

pub quiet_stores_certify : QuietStoresCertify
quiet_stores_certify space guide store plan lines sound quiet are claims backs = certified space guide store plan lines sound quiet are backs claims

-- What a lawful machine tells: costs that fit, incumbents that are plans, blocks that may be leased, and the end of a search.
use Rattle.std.proofs.Common.{◌≡◌, ◌≢◌, ℕ, ◌^◌, ◌<◌, Bool, true, false, ◌&&◌, ◌==◌, is_some, List, [], ◌∷◌, Option, Some, None, sym, ap, ◌∙◌, subst, ◌⊎◌, inl, inr, arith, true≢false, le_trans, mul-le-mul_left}
use Rattle.std.proofs.Math.Bool.{and-false}
use Rattle.std.proofs.lemmas.Option.{same_Some}
use Rattle.pb_model.specs.Plan.{IncumbentHolds}
use Rattle.pb_model.specs.Guide.{IsAdmissible}
use Rattle.pb_model.specs.Store.{Store, HasGoalWithin, HasOpened, AtMost}
use Rattle.pb_model.proofs.Callers.{by_cases, equal, at_most_self, at_most_trans, lesser_at_most, weights_stay, quiet_incumbents_hold}
use Rattle.pb_model.specs.Work.{opening_store}
use Rattle.pb_machine.specs.declared.event.End.{End}
use Rattle.pb_machine.specs.declared.event.End.TheVariants.{Quiet}
use Rattle.pb_machine.specs.declared.event.Event.{Event}
use Rattle.pb_machine.specs.declared.event.Event.TheVariants.{Lease, Renew, Hot, Cold, Release, Off, Ended}
use Rattle.pb_machine.specs.declared.event.End.TheVariants.{Budget, Memory}
use Rattle.pb_machine.specs.declared.event.Grant.{Grant}
use Rattle.pb_machine.specs.Blocks.{meets, interferes}
use Rattle.pb_machine.specs.Tables.{with_entry}
use Rattle.pb_machine.specs.Settings.{weight_of}
use Rattle.pb_machine.specs.Counts.{quota_of, is_lease_of, is_any_out, is_taken}
use Rattle.pb_machine.specs.History.{replay}
use Rattle.pb_machine.specs.Choice.{MayBeLeased}
use Rattle.pb_machine.specs.Machine.{Setup, IsSetup, with_known, with_incumbent, Machine, CameBack, RowPart, Happens, Move, event_move, tell_move, switch_move, Moves, Runs, journal_of}
use Rattle.pb_machine.specs.Lawful.{broken_leases, IsTold, IsLawful}
use Rattle.pb_machine.specs.Laws.{JournalsAreHistories, LawfulStoresAreSound, IncumbentsArePlans, IncumbentsFall, KnownStays, CostsGrowByExpansions, CostsStaySmall, CostsFit, LeaseCostsStaySmall, LeaseCostsFit, ScopesAreApart, NoneOutMayLease, NoneOutIsShown, QuietEndsAreBest, BudgetEndsAreSpent}
use Rattle.pb_machine.proofs.TableLaws.{entry_here, entry_else, sum_zero, none_counted, sum_with_entry, any_none, any_some, any_false}
use Rattle.pb_machine.proofs.CountsLaws.{none_hot, none_leased}
use Rattle.pb_machine.proofs.Histories.{replay_first}
use Rattle.pb_machine.proofs.Known.{known_more}
use Rattle.pb_machine.proofs.Reports.{out_less, few_broken}
use Rattle.pb_machine.proofs.Moments.{sound_after, worked_costs, incumbent_plan}

module _ (p : Setup) (greatest_cost : ℕ) (is_setup : IsSetup p greatest_cost) where
  -- no quota is out where no lease is
  pub none_leased_at : (m : Machine) → is_any_out p.settings.workers m.counts.leases ≡ false → (i : ℕ) → i < p.settings.workers → m.counts.leases i ≡ None
  none_leased_at m out i lt = none_leased (m.counts.leases i) (any_none p.settings.workers i (λ k. is_some (m.counts.leases k)) out lt)

  pub none_out_may : (m : Machine) (b : ℕ) → IsLawful p m → is_any_out p.settings.workers m.counts.leases ≡ false → m.counts.end ≡ None → 0 < m.counts.left → HasOpened (m.store.rows b) → MayBeLeased p.blocks p.settings m.counts m.store b
  none_out_may m b l out no_end left opened =
      let at = (sound_after p greatest_cost is_setup m l).0.place b opened.0 opened.1 opened.2 in
      record {
        known = subst (λ k. k < p.blocks.count) (sym at.0) (is_setup.blocks.home opened.0 at.1);
        opened = opened;
        free = by_cases (is_taken p.blocks p.settings.workers m.counts.leases b) taken (λ e. e);
        not_near_hot = any_false p.blocks.count _ (λ x. ap (λ q. interferes p.blocks b x && q) (none_hot p.blocks p.settings m.counts l.counts out x) ∙ and-false (interferes p.blocks b x));
        left = left;
        no_end = no_end;
      }
    where
      taken : is_taken p.blocks p.settings.workers m.counts.leases b ≡ true → is_taken p.blocks p.settings.workers m.counts.leases b ≡ false
      taken e =
          let w = any_some p.settings.workers (λ i. is_lease_of (meets p.blocks b) (m.counts.leases i)) e in
          absurd (true≢false (sym w.2 ∙ ap (is_lease_of (meets p.blocks b)) (none_leased_at m out w.0 w.1)))

  pub apart : (m : Machine) (i j : ℕ) (x y : Grant) → IsLawful p m → m.counts.leases i ≡ Some x → m.counts.leases j ≡ Some y → (i == j) ≡ false
      → (b : ℕ) → p.blocks.scope x.block b ≡ true → p.blocks.scope y.block b ≡ false
  apart m i j x y l hx hy ne b one =
      let none = any_none p.blocks.count b (λ c. p.blocks.scope x.block c && p.blocks.scope y.block c) (l.counts.apart i j x y hx hy ne) (is_setup.blocks.known x.block b one) in
      sym (ap (λ r. r && p.blocks.scope y.block b) one) ∙ none

  -- at a quiet end nobody has told a cost and still to bring the row
  pub shown : (m : Machine) (u : ℕ) → is_any_out p.settings.workers m.counts.leases ≡ false → IsLawful p m → HasGoalWithin p.space p.guide m.store u ⊎ IsTold m u → HasGoalWithin p.space p.guide m.store u
  shown m u out l (inl g) = g
  shown m u out l (inr t) = let bad : ◌≡◌ {A = Option Grant} None (Some t.1) = sym (none_leased_at m out t.0 (l.counts.known t.0 t.1 t.3).0) ∙ t.3 in cc

  quiet_best : (m : Machine) → IsLawful p m → m.counts.end ≡ Some Quiet → IsAdmissible p.space p.guide.estimate → IncumbentHolds p.space (weight_of p.settings) m.store.incumbent
  quiet_best m l quiet admissible =
      subst (λ w. IncumbentHolds p.space w m.store.incumbent) l.weight
      (quiet_incumbents_hold p.space greatest_cost p.guide m.store is_setup.space (sound_after p greatest_cost is_setup m l).0 (λ u is. shown m u (l.counts.quiet quiet) l (l.backed u is)) (l.quiet quiet) admissible)

event_replays : (p : Setup) (m n : Machine) (e : Event) (es : List Event) → Happens p m e n → replay p.blocks p.settings m.counts (e ∷ es) ≡ replay p.blocks p.settings n.counts es
event_replays p m n e es h = replay_first p.blocks p.settings m.counts e es h.may ∙ ap (λ c. replay p.blocks p.settings c es) (sym h.counts)

-- the events of a run are a legal history
run_replays : (p : Setup) (moves : List Move) (m n : Machine) → Runs p m moves n → replay p.blocks p.settings m.counts (journal_of moves) ≡ Some n.counts
run_replays p [] m n r = ap (λ (q : Machine). Some q.counts) (sym r)
run_replays p (event_move e ∷ moves) m n r = event_replays p m r.0 e (journal_of moves) r.1 ∙ run_replays p moves r.0 n r.2
run_replays p (tell_move i u ∷ moves) m n r = ap (λ c. replay p.blocks p.settings c (journal_of moves)) (sym r.1.counts) ∙ run_replays p moves r.0 n r.2
run_replays p (switch_move i used b q ∷ moves) m n r =
    event_replays p m r.1.0 (Release i used false) (Lease i b q ∷ journal_of moves) r.1.1
    ∙ event_replays p r.1.0 r.0 (Lease i b q) (journal_of moves) r.1.2
    ∙ run_replays p moves r.0 n r.2

-- ---- incumbents fall

came_lower : (p : Setup) (m : Machine) (i used few : ℕ) (w : Store) → CameBack p m i used few w → AtMost w.incumbent m.store.incumbent
came_lower p m i used few w back = subst (λ (q : Store). AtMost q.incumbent m.store.incumbent) (sym back.back) (lesser_at_most m.store.incumbent back.worked.incumbent)

same_lower : (w v : Store) → v ≡ w → AtMost v.incumbent w.incumbent
same_lower w v same = subst (λ (q : Store). AtMost q.incumbent w.incumbent) (sym same) (at_most_self w.incumbent)

row_part_lower : (p : Setup) (m n : Machine) (e : Event) → RowPart p m e n → AtMost n.store.incumbent m.store.incumbent
row_part_lower p m n (Lease i b q) r = same_lower m.store n.store r.1
row_part_lower p m n (Renew i used q) r = came_lower p m i used 0 n.store r.0
row_part_lower p m n (Hot i b) r = same_lower m.store n.store r.1.0
row_part_lower p m n (Cold i b) r = same_lower m.store n.store r.0
row_part_lower p m n (Release i used false) r = came_lower p m i used 0 n.store r.0
row_part_lower p m n (Release i used true) r = came_lower p m i used 1 n.store r.0
row_part_lower p m n (Off i memory) r = same_lower m.store n.store r.0
row_part_lower p m n (Ended Quiet) r = same_lower m.store n.store r.1.0
row_part_lower p m n (Ended Budget) r = same_lower m.store n.store r.1.0
row_part_lower p m n (Ended Memory) r = same_lower m.store n.store r.0

move_lower : (p : Setup) (m n : Machine) (move : Move) → Moves p m move n → AtMost n.store.incumbent m.store.incumbent
move_lower p m n (event_move e) s = row_part_lower p m n e s.rows
move_lower p m n (tell_move i u) s = subst (λ (q : Store). AtMost q.incumbent m.store.incumbent) (sym s.store) (lesser_at_most m.store.incumbent (Some u))
move_lower p m n (switch_move i used b q) s =
    at_most_trans n.store.incumbent s.0.store.incumbent m.store.incumbent (row_part_lower p s.0 n (Lease i b q) s.2.rows) (row_part_lower p m s.0 (Release i used false) s.1.rows)

pub incumbents_fall : IncumbentsFall
incumbents_fall setup [] old new runs = same_lower old.store new.store (ap (λ (q : Machine). q.store) runs)
incumbents_fall setup (move ∷ moves) old new runs =
    at_most_trans new.store.incumbent runs.0.store.incumbent old.store.incumbent (incumbents_fall setup moves runs.0 new runs.2) (move_lower setup old runs.0 move runs.1)

-- ---- what is known stays known

kept : (f g : ℕ → Option ℕ → Bool) → g ≡ f → (j : ℕ) (o : Option ℕ) → f j o ≡ true → g j o ≡ true
kept f g same j o h = ap (λ (k : ℕ → Option ℕ → Bool). k j o) same ∙ h

grown : (f g : ℕ → Option ℕ → Bool) (new : Option ℕ) → g ≡ with_incumbent f new → (j : ℕ) (o : Option ℕ) → f j o ≡ true → g j o ≡ true
grown f g new same j o h = ap (λ (k : ℕ → Option ℕ → Bool). k j o) same ∙ known_more (f j) new o h

row_part_knows : (p : Setup) (m n : Machine) (e : Event) → RowPart p m e n → (j : ℕ) (o : Option ℕ) → m.known j o ≡ true → n.known j o ≡ true
row_part_knows p m n (Lease i b q) r = kept m.known n.known r.4
row_part_knows p m n (Renew i used q) r = grown m.known n.known n.store.incumbent r.3
row_part_knows p m n (Hot i b) r = kept m.known n.known r.1.3
row_part_knows p m n (Cold i b) r = kept m.known n.known r.3
row_part_knows p m n (Release i used false) r = grown m.known n.known n.store.incumbent r.3
row_part_knows p m n (Release i used true) r = grown m.known n.known n.store.incumbent r.3
row_part_knows p m n (Off i memory) r = kept m.known n.known r.3
row_part_knows p m n (Ended Quiet) r = kept m.known n.known r.1.3
row_part_knows p m n (Ended Budget) r = kept m.known n.known r.1.3
row_part_knows p m n (Ended Memory) r = kept m.known n.known r.3

move_knows : (p : Setup) (m n : Machine) (move : Move) → Moves p m move n → (j : ℕ) (o : Option ℕ) → m.known j o ≡ true → n.known j o ≡ true
move_knows p m n (event_move e) s j o h = row_part_knows p m n e s.rows j o h
move_knows p m n (tell_move i u) s j o h =
    grown (with_entry m.known i (with_known (m.known i) (Some u))) n.known n.store.incumbent s.known j o (by_cases (j == i)
    (λ e. ap (λ (f : Option ℕ → Bool). f o) (entry_here m.known i j (with_known (m.known i) (Some u)) e) ∙ known_more (m.known i) (Some u) o (ap (λ k. m.known k o) (sym (equal j i e)) ∙ h))
    (λ e. ap (λ (f : Option ℕ → Bool). f o) (entry_else m.known i j (with_known (m.known i) (Some u)) e) ∙ h))
move_knows p m n (switch_move i used b q) s j o h = row_part_knows p s.0 n (Lease i b q) s.2.rows j o (row_part_knows p m s.0 (Release i used false) s.1.rows j o h)

pub known_stays : KnownStays
known_stays setup [] old new runs j o h = ap (λ (q : Machine). q.known j o) runs ∙ h
known_stays setup (move ∷ moves) old new runs j o h = known_stays setup moves runs.0 new runs.2 j o (move_knows setup old runs.0 move runs.1 j o h)

pub journals_are_histories : JournalsAreHistories
journals_are_histories setup moves start machine before range enough opens runs = record {
  range = range;
  enough = enough;
  replays = ap (λ c. replay setup.blocks setup.settings c (journal_of moves)) (sym opens) ∙ run_replays setup moves start machine runs;
}

pub lawful_stores_are_sound : LawfulStoresAreSound
lawful_stores_are_sound setup greatest_cost machine is l = (sound_after setup greatest_cost is machine l).0

pub costs_stay_small : CostsStaySmall
costs_stay_small setup greatest_cost machine is l home state row found =
    le_trans ((sound_after setup greatest_cost is machine l).1 home state row found) (mul-le-mul_left greatest_cost (omega (arith, l.counts.sum, few_broken setup machine l)))

pub scopes_are_apart : ScopesAreApart
scopes_are_apart setup greatest_cost machine is l worker other grant second one two differ block = apart setup greatest_cost is machine worker other grant second l one two differ block

pub none_out_may_lease : NoneOutMayLease
none_out_may_lease setup greatest_cost machine is l out no_end left block opened = none_out_may setup greatest_cost is machine block l out no_end left opened

pub costs_fit : CostsFit
costs_fit setup machine is range l home state row found = let low = costs_stay_small setup (2 ^ 20) machine is l home state row found in omega (arith, low, range.budget.1, range.workers.1)

pub lease_costs_stay_small : LeaseCostsStaySmall
lease_costs_stay_small setup greatest_cost machine worker used few known grant worked is l leased work low home state row found =
    let lt = (l.counts.known worker grant leased).0 in
    let out = out_less setup.settings.workers worker machine.counts.leases grant lt leased in
    let sums = sum_with_entry quota_of setup.settings.workers worker machine.counts.leases None lt in
    let quota : quota_of (machine.counts.leases worker) ≡ grant.quota = ap quota_of leased in
    le_trans (worked_costs setup greatest_cost is machine worker grant used few worked l leased work home state row found)
    (mul-le-mul_left greatest_cost (omega (arith, l.counts.sum, few_broken setup machine l, out, sums, quota, low)))

pub lease_costs_fit : LeaseCostsFit
lease_costs_fit setup machine worker used few known grant worked is range l leased work within home state row found =
    let low = lease_costs_stay_small setup (2 ^ 20) machine worker used few known grant worked is l leased work within home state row found in
    omega (arith, low, range.budget.1, range.workers.1)

pub quiet_ends_are_best : QuietEndsAreBest
quiet_ends_are_best setup greatest_cost machine is l quiet admissible = quiet_best setup greatest_cost is machine l quiet admissible

pub incumbents_are_plans : IncumbentsArePlans
incumbents_are_plans setup greatest_cost machine is l cost known = incumbent_plan setup greatest_cost is machine l cost known

pub costs_grow_by_expansions : CostsGrowByExpansions
costs_grow_by_expansions setup greatest_cost machine is l = ((sound_after setup greatest_cost is machine l).1, omega (arith, few_broken setup machine l))

-- an end but that for memory leaves no expansion broken off
pub none_broken_at : (p : Setup) (m : Machine) (end : End) → IsLawful p m → m.counts.end ≡ Some end → end ≢ Memory → broken_leases p m ≡ 0
none_broken_at p m end l ends other = none_counted p.settings.workers m.broken (λ k lt. by_cases (m.broken k) (λ e. go (l.reported.released k e).2) (λ e. e))
  where
    go : {A : Type 0} → ((m.counts.trouble ≡ true) ⊎ (m.counts.end ≡ Some Memory)) → A
    go (inl t) = let bad : ◌≡◌ {A = Option End} (Some end) None = sym ends ∙ l.counts.trouble t in cc
    go (inr e) = absurd (other (same_Some end Memory (sym ends ∙ e)))

-- ---- the budget's end

pub budget_ends_are_spent : BudgetEndsAreSpent
budget_ends_are_spent setup greatest_cost machine is l ends =
    let done = l.counts.budget ends in
    let none = sum_zero setup.settings.workers (λ i. quota_of (machine.counts.leases i)) (λ i lt. ap quota_of (none_leased_at setup greatest_cost is machine done.0 i lt)) in
    let whole = none_broken_at setup machine Budget l ends (λ (bad : Budget ≡ Memory). cc) in (
      l.reached.first_weight,
      l.reached.works,
      l.reached.is_weight,
      l.reached.comes,
      omega (arith, l.reached.spent, l.counts.sum, none, done.1),
      omega (arith, l.reached.broken, whole),
      l.reached.reopened,
      l.reached.between,
      λ first. sym (weights_stay setup.space setup.guide l.reached.works (opening_store setup.space setup.guide l.reached.first_weight) machine.store l.reached.comes (l.reached.reopened ∙ first)) ∙ l.weight,
      l.budget ends,
    )

pub none_out_is_shown : NoneOutIsShown
none_out_is_shown setup greatest_cost machine is l out cost known = shown setup greatest_cost is machine cost out l (l.backed cost known)

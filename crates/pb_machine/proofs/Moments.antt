-- Every event, every told cost and every switch keeps the machine lawful.
use Rattle.std.proofs.Common.{true≢false, ◌≡◌, ℕ, ◌+◌, ◌*◌, ◌≤◌, min, Bool, true, false, ◌==◌, List, [], ◌∷◌, ◌++◌, Option, Some, None, refl, sym, ap, ◌∙◌, subst, ◌⊎◌, inl, inr, arith, le_trans, mul-le-mul_left}
use Rattle.pb_model.specs.Store.{Store, HasGoalWithin, HasOpened, IsQuiet, CostsAtMost, lesser, AtMost}
use Rattle.pb_model.specs.Work.{Work, expand, break_off, cut, take_goal, reopen, lower, Comes, LowersTo, opening_store}
use Rattle.pb_model.specs.Sound.{IsSound}
use Rattle.pb_model.specs.Plan.{Plan, IsPlan}
use Rattle.pb_model.proofs.Callers.{goals_are_plans, or_true, not_both, equal, equal_self, by_cases, some_number, at_most_self, at_most_trans, lesser_at_most, lesser_below, lesser_cases, work_keeps_sound, costs_never_rise, incumbents_are_backed, work_goes_on, never_reopens, reopens_append}
use Rattle.pb_machine.specs.declared.event.End.{End}
use Rattle.pb_machine.specs.declared.event.End.TheVariants.{Quiet, Budget, Memory}
use Rattle.pb_machine.specs.declared.event.Event.{Event}
use Rattle.pb_machine.specs.declared.event.Event.TheVariants.{Lease, Renew, Hot, Cold, Release, Off, Ended}
use Rattle.pb_machine.specs.declared.event.Grant.{Grant}
use Rattle.pb_machine.specs.Tables.{with_entry, count_below}
use Rattle.pb_machine.specs.Settings.{weight_of}
use Rattle.pb_machine.specs.Counts.{Counts, is_any_out, with_quota, counts_after}
use Rattle.pb_machine.specs.Legality.{refusal}
use Rattle.pb_machine.specs.Machine.{IsOn, Setup, IsSetup, is_same, with_known, with_incumbent, Machine, opening_machine, HasWorked, IsWorked, lent_store, CameBack, KeepsRows, Happens, Tells, Move, event_move, tell_move, switch_move, Moves, Runs}
use Rattle.pb_machine.specs.Lawful.{broken_leases, AreReported, IsRead, IsReached, IsTold, IsLawful}
use Rattle.pb_machine.specs.Laws.{OpeningIsLawful, MovesKeepLawful, RunsAreLawful}
use Rattle.pb_machine.proofs.TableLaws.{entry_here, entry_else}
use Rattle.pb_machine.proofs.CountsLaws.{passes, no_trouble, event_keeps, opening_lawful, still, out_still, none_leased}
use Rattle.pb_model.specs.Guide.{Guide}
use Rattle.pb_machine.proofs.Places.{all_of, all_append}
use Rattle.pb_machine.proofs.Known.{same_is, known_new, known_more, lesser_one}
use Rattle.pb_machine.proofs.Reports.{none_broken, reported_still, broken_more, reported_release, reported_off, reported_end}
use Rattle.pb_machine.proofs.LeaseWork.{breaks_few, not_lowered, merged, none_reopens, works_there, row_there, goal_there}

-- ---- what was told

-- the lesser of what was told before and a cost is known, and no more than this cost
told_now : (o : Option ℕ) (u : ℕ) → (c : ℕ) × (lesser o (Some u) ≡ Some c) × (c ≤ u)
told_now None u = (u, refl, omega arith)
told_now (Some x) u = (min x u, refl, omega arith)

told_less : (o : Option ℕ) (u x : ℕ) → o ≡ Some x → (c : ℕ) × (lesser o (Some u) ≡ Some c) × (c ≤ x)
told_less None u x h = cc
told_less (Some y) u x h = let e : y ≡ x = some_number y x h in (min y u, refl, omega arith)

-- ---- what the work of the whole store reads

read_more : (known more : ℕ → Option ℕ → Bool) → ((j : ℕ) (o : Option ℕ) → known j o ≡ true → more j o ≡ true) → (x : Work) → IsRead known x → IsRead more x
read_more known more grows (expand s) h = tt
read_more known more grows (break_off s k) h = tt
read_more known more grows (cut s) h = tt
read_more known more grows (take_goal s) h = tt
read_more known more grows (lower u) h = (h.0, grows h.0 (Some u) h.1)
read_more known more grows (reopen w) h = tt

-- a lease reads what its worker knows
reads_known : (guide : Guide) (block i : ℕ) (known more : ℕ → Option ℕ → Bool) → ((j : ℕ) (o : Option ℕ) → known j o ≡ true → more j o ≡ true) → (x : Work) → IsOn guide block (known i) x → IsRead more x
reads_known guide block i known more grows (expand s) h = tt
reads_known guide block i known more grows (break_off s k) h = tt
reads_known guide block i known more grows (cut s) h = tt
reads_known guide block i known more grows (take_goal s) h = tt
reads_known guide block i known more grows (lower u) h = (i, grows i (Some u) h)
reads_known guide block i known more grows (reopen w) h = tt

module _ (p : Setup) (greatest_cost : ℕ) (is_setup : IsSetup p greatest_cost) where
  -- the whole store after a lease came back is the one before, after the lease's work
  pub comes_back : (m : Machine) (i used few : ℕ) (w : Store) → IsLawful p m → (back : CameBack p m i used few w) → Comes p.space p.guide back.work.works m.store w
  comes_back m i used few w l back =
      subst (λ q. Comes p.space p.guide back.work.works m.store q) (sym back.back) (works_there p greatest_cost is_setup m i back.grant used few back.worked l back.leased back.work)

  -- what its worker told is shown by a goal's row of the whole store then
  pub shown_back : (m : Machine) (i used few : ℕ) (w : Store) → IsLawful p m → CameBack p m i used few w → (u : ℕ) → m.told i ≡ Some u → HasGoalWithin p.space p.guide w u
  shown_back m i used few w l back u is =
      subst (λ q. HasGoalWithin p.space p.guide q u) (sym back.back) (goal_there p greatest_cost is_setup m i back.grant used few back.worked l back.leased back.work u (back.shown u is))

  pub is_at : (n : Machine) (c : Counts) (w : Store) (g a : ℕ → Option ℕ) (o : ℕ → Option ℕ → Bool) (k : ℕ → Bool) → n.counts ≡ c → n.store ≡ w → n.given ≡ g → n.told ≡ a → n.known ≡ o → n.broken ≡ k
      → IsLawful p (record { counts = c; store = w; given = g; told = a; known = o; broken = k }) → IsLawful p n
  is_at n c w g a o k p1 p2 p3 p4 p5 p6 l =
      let same : ◌≡◌ {A = Machine} (record { counts = c; store = w; given = g; told = a; known = o; broken = k }) n =
      sym (λ i. record { counts = p1 i; store = p2 i; given = p3 i; told = p4 i; known = p5 i; broken = p6 i }) in
      subst (IsLawful p) same l

  -- the work that came back is added to what led to the store
  reached_more : (m : Machine) (i used few : ℕ) (c : Counts) (w : Store) (g a : ℕ → Option ℕ) (o : ℕ → Option ℕ → Bool) (k : ℕ → Bool) → IsLawful p m → CameBack p m i used few w
      → c.spent ≡ m.counts.spent + used → broken_leases p m + few ≤ count_below p.settings.workers k → ((j : ℕ) (x : Option ℕ) → m.known j x ≡ true → o j x ≡ true) → IsReached p (record { counts = c; store = w; given = g; told = a; known = o; broken = k })
  reached_more m i used few c w g a o k l back spent more grows =
      let all = work_goes_on p.space p.guide l.reached.works back.work.works (opening_store p.space p.guide l.reached.first_weight) m.store w l.reached.comes (comes_back m i used few w l back) in
      let never = none_reopens p greatest_cost is_setup back.grant.block (m.known i) back.work.works back.work.on in
      record {
        first_weight = l.reached.first_weight;
        is_weight = l.reached.is_weight;
        works = l.reached.works ++ back.work.works;
        comes = all.0;
        spent = omega (arith, all.1, l.reached.spent, back.work.used_is, spent);
        broken = omega (arith, all.2, l.reached.broken, back.work.few_broken, more);
        reopened = omega (arith, all.4, l.reached.reopened, never);
        between = reopens_append p.space p.guide l.reached.works back.work.works (opening_store p.space p.guide l.reached.first_weight) m.store l.reached.comes l.reached.between
            (never_reopens p.space p.guide back.work.works m.store never);
        read = λ first. all_append (IsRead o) l.reached.works back.work.works (all_of (IsRead m.known) (IsRead o) (read_more m.known o grows) l.reached.works (l.reached.read first))
            (all_of (IsOn p.guide back.grant.block (m.known i)) (IsRead o) (reads_known p.guide back.grant.block i m.known o grows) back.work.works back.work.on);
      }

  -- the incumbent has fallen, and the weight is the same
  pub fell : (m : Machine) (i used few : ℕ) (w : Store) → CameBack p m i used few w → AtMost w.incumbent m.store.incumbent
  fell m i used few w back = subst (λ q. AtMost q.incumbent m.store.incumbent) (sym back.back) (lesser_at_most m.store.incumbent back.worked.incumbent)

  same_weight : (m : Machine) (i used few : ℕ) (w : Store) → IsLawful p m → CameBack p m i used few w → w.weight ≡ weight_of p.settings
  same_weight m i used few w l back = ap (λ (q : Store). q.weight) back.back ∙ l.weight

  pub sound_after : (m : Machine) → IsLawful p m → IsSound p.space p.guide m.store × CostsAtMost m.store (greatest_cost * (m.counts.spent + broken_leases p m))
  sound_after m l =
      let both = work_keeps_sound p.space greatest_cost p.guide l.reached.first_weight l.reached.works m.store is_setup.space l.reached.is_weight l.reached.comes in
      (both.0, λ home state row is. le_trans (both.1 home state row is) (mul-le-mul_left greatest_cost (omega (arith, l.reached.spent, l.reached.broken))))

  -- a cost that is no less than that of a plan
  abbrev pub HasPlan : ℕ → Type 0
  HasPlan u = (plan : Plan) × IsPlan p.space plan × (plan.cost ≤ u)

  pub plan_within : (x u : ℕ) → x ≤ u → HasPlan x → HasPlan u
  plan_within x u le h = (h.0, h.1, le_trans h.2 le)

  -- a goal's row of a lease, as it has worked so far, shows a plan
  worked_plan : (m : Machine) (i : ℕ) (grant : Grant) (used few u : ℕ) (worked : Store) → IsLawful p m → m.counts.leases i ≡ Some grant → HasWorked p m i grant used few worked → HasGoalWithin p.space p.guide worked u → HasPlan u
  worked_plan m i grant used few u worked l leased work g =
      let together : Store = merged p greatest_cost is_setup m grant worked in
      let all = work_goes_on p.space p.guide l.reached.works work.works (opening_store p.space p.guide l.reached.first_weight) m.store together l.reached.comes
      (works_there p greatest_cost is_setup m i grant used few worked l leased work) in
      let both = work_keeps_sound p.space greatest_cost p.guide l.reached.first_weight (l.reached.works ++ work.works) together is_setup.space l.reached.is_weight all.0 in
      goals_are_plans p.space greatest_cost p.guide together is_setup.space both.0 u (goal_there p greatest_cost is_setup m i grant used few worked l leased work u g)

  -- the g of a lease's row, as it has worked so far
  pub worked_costs : (m : Machine) (i : ℕ) (grant : Grant) (used few : ℕ) {known : Option ℕ → Bool} (worked : Store) → IsLawful p m → m.counts.leases i ≡ Some grant
      → IsWorked p.space p.guide grant.block used few known (lent_store p grant.block m.store (m.given i)) worked
      → CostsAtMost worked (greatest_cost * (m.counts.spent + used + broken_leases p m + 1))
  worked_costs m i grant used few {known = known} worked l leased work home state row found =
      let together : Store = merged p greatest_cost is_setup m grant worked in
      let all = work_goes_on p.space p.guide l.reached.works work.works (opening_store p.space p.guide l.reached.first_weight) m.store together l.reached.comes
      (works_there p greatest_cost is_setup m i grant used few worked l leased work) in
      let both = work_keeps_sound p.space greatest_cost p.guide l.reached.first_weight (l.reached.works ++ work.works) together is_setup.space l.reached.is_weight all.0 in
      le_trans (both.1 home state row (row_there p greatest_cost is_setup m i grant used few worked l leased work home state row found))
      (mul-le-mul_left greatest_cost (omega (arith, all.1, all.2, l.reached.spent, l.reached.broken, work.used_is, breaks_few work.works work.stops)))

  -- what a worker told is left out once its lease came back
  told_but : (m : Machine) (i : ℕ) → IsLawful p m → (k u : ℕ) → with_entry m.told i None k ≡ Some u → HasPlan u
  told_but m i l k u is = by_cases (k == i)
      (λ e. let bad : ◌≡◌ {A = Option ℕ} None (Some u) = sym (entry_here m.told i k None e) ∙ is in cc)
      (λ e. l.told k u (sym (entry_else m.told i k None e) ∙ is))

  pub incumbent_plan : (m : Machine) → IsLawful p m → (u : ℕ) → m.store.incumbent ≡ Some u → HasPlan u
  incumbent_plan m l u is = go (l.backed u is)
    where
      go : (HasGoalWithin p.space p.guide m.store u ⊎ IsTold m u) → HasPlan u
      go (inl g) = goals_are_plans p.space greatest_cost p.guide m.store is_setup.space (sound_after m l).0 u g
      go (inr t) = plan_within t.2 u t.5 (l.told t.0 t.2 t.4)

  -- a goal's row that costs no more than a cost costs no more than a greater one, and stays so
  pub goal_within : (w : Store) (x u : ℕ) → x ≤ u → HasGoalWithin p.space p.guide w x → HasGoalWithin p.space p.guide w u
  goal_within w x u le g = (g.0, g.1, (g.2.0, g.2.1, le_trans g.2.2 le))

  pub goal_still : (works : List Work) (w v : Store) (u : ℕ) → Comes p.space p.guide works w v → HasGoalWithin p.space p.guide w u → HasGoalWithin p.space p.guide v u
  goal_still works w v u comes g = (g.0, g.1, costs_never_rise p.space p.guide works w v comes g.0 u g.2)

  -- who has told a cost still has a lease, but for one worker whose cost is shown now, and the cost is known
  teller_but : (m : Machine) (i : ℕ) (leases : ℕ → Option Grant) (known : ℕ → Option ℕ → Bool) → IsLawful p m
      → ((j : ℕ) (h : Grant) → (j == i) ≡ false → m.counts.leases j ≡ Some h → leases j ≡ Some h) → ((j : ℕ) (o : Option ℕ) → m.known j o ≡ true → known j o ≡ true)
      → (k u : ℕ) → with_entry m.told i None k ≡ Some u → ((h : Grant) × (leases k ≡ Some h)) × (known k (Some u) ≡ true)
  teller_but m i leases known l others more k u is = by_cases (k == i)
      (λ e. let bad : ◌≡◌ {A = Option ℕ} None (Some u) = sym (entry_here m.told i k None e) ∙ is in cc)
      (λ e. let t = l.teller k u (sym (entry_else m.told i k None e) ∙ is) in ((t.0.0, others k t.0.0 e t.0.1), more k (Some u) t.1))

  -- after a lease came back the incumbent is among what is known, and no known one is lower
  least_back : (m : Machine) (i used few : ℕ) (w : Store) → IsLawful p m → CameBack p m i used few w → (k : ℕ) (o : Option ℕ) → with_incumbent m.known w.incumbent k o ≡ true → AtMost w.incumbent o
  least_back m i used few w l back k o h = go (or_true (is_same o w.incumbent) (m.known k o) h)
    where
      go : ((is_same o w.incumbent ≡ true) ⊎ (m.known k o ≡ true)) → AtMost w.incumbent o
      go (inl same) = subst (λ (v : Option ℕ). AtMost w.incumbent v) (sym (same_is o w.incumbent same)) (at_most_self w.incumbent)
      go (inr known) = at_most_trans w.incumbent m.store.incumbent o (fell m i used few w back) (l.least k o known)

  -- the incumbent after a lease came back: what its worker told is shown by a goal's row
  backed_after : (m : Machine) (i used few : ℕ) (w : Store) (leases : ℕ → Option Grant) → IsLawful p m → CameBack p m i used few w
      → ((j : ℕ) (h : Grant) → (j == i) ≡ false → m.counts.leases j ≡ Some h → leases j ≡ Some h)
      → (u : ℕ) → w.incumbent ≡ Some u → HasGoalWithin p.space p.guide w u ⊎ ((j : ℕ) × (h : Grant) × (c : ℕ) × (leases j ≡ Some h) × (with_entry m.told i None j ≡ Some c) × (c ≤ u))
  backed_after m i used few w leases l back others u is = go (incumbents_are_backed p.space p.guide back.work.works m.store w (comes_back m i used few w l back) u is)
    where
      old : (x : ℕ) → x ≤ u → (HasGoalWithin p.space p.guide m.store x ⊎ IsTold m x)
          → HasGoalWithin p.space p.guide w u ⊎ ((j : ℕ) × (h : Grant) × (c : ℕ) × (leases j ≡ Some h) × (with_entry m.told i None j ≡ Some c) × (c ≤ u))
      old x le (inl g) = inl (goal_within w x u le (goal_still back.work.works m.store w x (comes_back m i used few w l back) g))
      old x le (inr t) = by_cases (t.0 == i)
          (λ e. inl (goal_within w t.2 u (omega (arith, t.5, le)) (shown_back m i used few w l back t.2 (ap m.told (sym (equal t.0 i e)) ∙ t.4))))
          (λ e. inr (t.0, t.1, t.2, others t.0 t.1 e t.3, entry_else m.told i t.0 None e ∙ t.4, omega (arith, t.5, le)))

      before : ((x : ℕ) × (m.store.incumbent ≡ Some x) × (x ≤ u)) → HasGoalWithin p.space p.guide w u ⊎ ((j : ℕ) × (h : Grant) × (c : ℕ) × (leases j ≡ Some h) × (with_entry m.told i None j ≡ Some c) × (c ≤ u))
      before h = old h.0 h.2 (l.backed h.0 h.1)

      go : (HasGoalWithin p.space p.guide w u ⊎ (LowersTo back.work.works u ⊎ ((x : ℕ) × (m.store.incumbent ≡ Some x) × (x ≤ u)))) → HasGoalWithin p.space p.guide w u ⊎ ((j : ℕ) × (h : Grant) × (c : ℕ) × (leases j ≡ Some h) × (with_entry m.told i None j ≡ Some c) × (c ≤ u))
      go (inl g) = inl g
      go (inr (inl t)) = before (not_lowered p.guide back.grant.block (m.known i) m.store.incumbent back.work.works u (l.least i) back.work.on t)
      go (inr (inr h)) = before h

  lease_keeps : (m n : Machine) (i b q : ℕ) → IsLawful p m → Happens p m (Lease i b q) n → IsLawful p n
  lease_keeps m n i b q l s =
      let t = passes p.blocks p.settings m.counts (Lease i b q) s.may in
      let none = no_trouble p.blocks p.settings m.counts (Lease i b q) refl s.may in
      is_at n (counts_after p.blocks p.settings m.counts (Lease i b q)) m.store (with_entry m.given i s.rows.2.0) (with_entry m.told i None) m.known m.broken s.counts s.rows.1 s.rows.2.2 s.rows.3 s.rows.4 s.rows.5 (record {
        counts = event_keeps p.blocks p.settings m.counts (Lease i b q) l.counts s.may;
        reached = record { first_weight = l.reached.first_weight; is_weight = l.reached.is_weight; works = l.reached.works; comes = l.reached.comes; spent = l.reached.spent; broken = l.reached.broken; reopened = l.reached.reopened; between = l.reached.between; read = l.reached.read };
        weight = l.weight;
        is_known = l.is_known;
        least = l.least;
        given = λ k. given s.rows.2.0 (subst (λ (f : ℕ → Option ℕ → Bool). f i s.rows.2.0 ≡ true) s.rows.4 s.rows.2.1) k;
        backed = λ u is. backed (none_leased (m.counts.leases i) t.1.1.0) u (l.backed u is);
        teller = teller_but m i (with_entry m.counts.leases i (Some (record { block = b; quota = q }))) m.known l (λ j h e is. entry_else m.counts.leases i j _ e ∙ is) (λ j o h. h);
        told = told_but m i l;
        quiet = l.quiet;
        budget = l.budget;
        reported = reported_still p m (counts_after p.blocks p.settings m.counts (Lease i b q)) l none none refl (λ k e. none_broken p m l none t.0 k e) (omega arith);
      })
    where
      given : (bound : Option ℕ) → m.known i bound ≡ true → (k : ℕ) → m.known k (with_entry m.given i bound k) ≡ true
      given bound known k = by_cases (k == i)
          (λ e. ap (m.known k) (entry_here m.given i k bound e) ∙ ap (λ j. m.known j bound) (equal k i e) ∙ known)
          (λ e. ap (m.known k) (entry_else m.given i k bound e) ∙ l.given k)

      backed : m.counts.leases i ≡ None → (u : ℕ) → (HasGoalWithin p.space p.guide m.store u ⊎ IsTold m u)
          → HasGoalWithin p.space p.guide m.store u ⊎ ((j : ℕ) × (h : Grant) × (c : ℕ) × (with_entry m.counts.leases i (Some (record { block = b; quota = q })) j ≡ Some h) × (with_entry m.told i None j ≡ Some c) × (c ≤ u))
      backed none u (inl g) = inl g
      backed none u (inr t) = by_cases (t.0 == i)
          (λ e. let bad : ◌≡◌ {A = Option Grant} None (Some t.1) = sym none ∙ ap m.counts.leases (sym (equal t.0 i e)) ∙ t.3 in cc)
          (λ e. inr (t.0, t.1, t.2, entry_else m.counts.leases i t.0 _ e ∙ t.3, entry_else m.told i t.0 None e ∙ t.4, t.5))

  renew_keeps : (m n : Machine) (i used q : ℕ) → IsLawful p m → Happens p m (Renew i used q) n → IsLawful p n
  renew_keeps m n i used q l s =
      let t = passes p.blocks p.settings m.counts (Renew i used q) s.may in
      let none = no_trouble p.blocks p.settings m.counts (Renew i used q) refl s.may in
      is_at n (counts_after p.blocks p.settings m.counts (Renew i used q)) n.store (with_entry m.given i s.rows.1.0) (with_entry m.told i None) (with_incumbent m.known n.store.incumbent) m.broken s.counts refl s.rows.1.2 s.rows.2 s.rows.3 s.rows.4 (record {
        counts = event_keeps p.blocks p.settings m.counts (Renew i used q) l.counts s.may;
        reached = reached_more m i used 0 _ n.store _ _ (with_incumbent m.known n.store.incumbent) m.broken l s.rows.0 refl (omega arith) (λ j. known_more (m.known j) n.store.incumbent);
        weight = same_weight m i used 0 n.store l s.rows.0;
        is_known = λ k. known_new (m.known k) n.store.incumbent;
        least = least_back m i used 0 n.store l s.rows.0;
        given = λ k. given s.rows.1.0 (subst (λ (f : ℕ → Option ℕ → Bool). f i s.rows.1.0 ≡ true) s.rows.3 s.rows.1.1) k;
        backed = backed_after m i used 0 n.store (with_entry m.counts.leases i (with_quota q (m.counts.leases i))) l s.rows.0 (λ j h e is. entry_else m.counts.leases i j _ e ∙ is);
        teller = teller_but m i (with_entry m.counts.leases i (with_quota q (m.counts.leases i))) (with_incumbent m.known n.store.incumbent) l (λ j h e is. entry_else m.counts.leases i j _ e ∙ is) (λ j. known_more (m.known j) n.store.incumbent);
        told = told_but m i l;
        quiet = λ e. still p.blocks p.settings m.counts.end Quiet t.0 e;
        budget = λ e. still p.blocks p.settings m.counts.end Budget t.0 e;
        reported = reported_still p m (counts_after p.blocks p.settings m.counts (Renew i used q)) l none none refl (λ k e. none_broken p m l none t.0 k e) (omega arith);
      })
    where
      given : (bound : Option ℕ) → with_incumbent m.known n.store.incumbent i bound ≡ true → (k : ℕ) → with_incumbent m.known n.store.incumbent k (with_entry m.given i bound k) ≡ true
      given bound known k = by_cases (k == i)
          (λ e. ap (with_incumbent m.known n.store.incumbent k) (entry_here m.given i k bound e) ∙ ap (λ j. with_incumbent m.known n.store.incumbent j bound) (equal k i e) ∙ known)
          (λ e. ap (with_incumbent m.known n.store.incumbent k) (entry_else m.given i k bound e) ∙ known_more (m.known k) n.store.incumbent (m.given k) (l.given k))

  -- a lease came back for good; it broke off no more expansions than it reports want of memory
  release_keeps : (m n : Machine) (i used : ℕ) (memory : Bool) (few : ℕ) (broken : ℕ → Bool) → IsLawful p m → refusal p.blocks p.settings m.counts (Release i used memory) ≡ None
      → n.counts ≡ counts_after p.blocks p.settings m.counts (Release i used memory) → CameBack p m i used few n.store → n.given ≡ m.given → n.told ≡ with_entry m.told i None → n.known ≡ with_incumbent m.known n.store.incumbent → n.broken ≡ broken
      → broken_leases p m + few ≤ count_below p.settings.workers broken → AreReported p.settings.workers (counts_after p.blocks p.settings m.counts (Release i used memory)) broken → IsLawful p n
  release_keeps m n i used memory few broken l may counts back given told known same enough reported =
      let out = out_still p.blocks p.settings m.counts.leases i back.grant (l.counts.known i back.grant back.leased).0 back.leased in
      is_at n (counts_after p.blocks p.settings m.counts (Release i used memory)) n.store m.given (with_entry m.told i None) (with_incumbent m.known n.store.incumbent) broken counts refl given told known same (record {
        counts = event_keeps p.blocks p.settings m.counts (Release i used memory) l.counts may;
        reached = reached_more m i used few _ n.store _ _ (with_incumbent m.known n.store.incumbent) broken l back refl enough (λ j. known_more (m.known j) n.store.incumbent);
        weight = same_weight m i used few n.store l back;
        is_known = λ k. known_new (m.known k) n.store.incumbent;
        least = least_back m i used few n.store l back;
        given = λ k. known_more (m.known k) n.store.incumbent (m.given k) (l.given k);
        backed = backed_after m i used few n.store (with_entry m.counts.leases i None) l back (λ j h e is. entry_else m.counts.leases i j None e ∙ is);
        teller = teller_but m i (with_entry m.counts.leases i None) (with_incumbent m.known n.store.incumbent) l (λ j h e is. entry_else m.counts.leases i j None e ∙ is) (λ j. known_more (m.known j) n.store.incumbent);
        told = told_but m i l;
        quiet = λ e. not_both (is_any_out p.settings.workers m.counts.leases) out (l.counts.quiet e);
        budget = λ e. not_both (is_any_out p.settings.workers m.counts.leases) out (l.counts.budget e).0;
        reported = reported;
      })

  -- nothing but the counts changed, and no worker has more than it had
  rows_keep : (m n : Machine) (e : Event) → IsLawful p m → refusal p.blocks p.settings m.counts e ≡ None → n.counts ≡ counts_after p.blocks p.settings m.counts e
      → KeepsRows m n
      → (counts_after p.blocks p.settings m.counts e).leases ≡ m.counts.leases → (counts_after p.blocks p.settings m.counts e).spent ≡ m.counts.spent
      → ((counts_after p.blocks p.settings m.counts e).end ≡ Some Quiet → IsQuiet m.store) → ((counts_after p.blocks p.settings m.counts e).end ≡ Some Budget → (block : ℕ) × HasOpened (m.store.rows block))
      → AreReported p.settings.workers (counts_after p.blocks p.settings m.counts e) m.broken → IsLawful p n
  rows_keep m n e l may counts rows leases spent quiet budget reported =
      is_at n (counts_after p.blocks p.settings m.counts e) m.store m.given m.told m.known m.broken counts rows.0 rows.1 rows.2 rows.3 rows.4 (record {
        counts = event_keeps p.blocks p.settings m.counts e l.counts may;
        reached = record { first_weight = l.reached.first_weight; is_weight = l.reached.is_weight; works = l.reached.works; comes = l.reached.comes; spent = l.reached.spent ∙ sym spent; broken = l.reached.broken; reopened = l.reached.reopened; between = l.reached.between; read = l.reached.read };
        weight = l.weight;
        is_known = l.is_known;
        least = l.least;
        given = l.given;
        backed = λ u is. subst (λ (f : ℕ → Option Grant). HasGoalWithin p.space p.guide m.store u ⊎ ((j : ℕ) × (h : Grant) × (c : ℕ) × (f j ≡ Some h) × (m.told j ≡ Some c) × (c ≤ u))) (sym leases) (l.backed u is);
        teller = λ k u is. let t = l.teller k u is in ((t.0.0, (λ j. leases j k) ∙ t.0.1), t.1);
        told = l.told;
        quiet = quiet;
        budget = budget;
        reported = reported;
      })

  pub event_keeps_lawful : (m n : Machine) (e : Event) → IsLawful p m → Happens p m e n → IsLawful p n
  event_keeps_lawful m n (Lease i b q) l s = lease_keeps m n i b q l s
  event_keeps_lawful m n (Renew i used q) l s = renew_keeps m n i used q l s
  event_keeps_lawful m n (Hot i b) l s =
      let none = no_trouble p.blocks p.settings m.counts (Hot i b) refl s.may in
      rows_keep m n (Hot i b) l s.may s.counts s.rows.1 refl refl l.quiet l.budget (reported_still p m (counts_after p.blocks p.settings m.counts (Hot i b)) l none none refl (λ k e. (l.reported.released k e).1) (omega arith))
  event_keeps_lawful m n (Cold i b) l s =
      let none = no_trouble p.blocks p.settings m.counts (Cold i b) refl s.may in
      rows_keep m n (Cold i b) l s.may s.counts s.rows refl refl l.quiet l.budget (reported_still p m (counts_after p.blocks p.settings m.counts (Cold i b)) l none none refl (λ k e. (l.reported.released k e).1) (omega arith))
  event_keeps_lawful m n (Release i used false) l s =
      let none = no_trouble p.blocks p.settings m.counts (Release i used false) refl s.may in
      release_keeps m n i used false 0 m.broken l s.may s.counts s.rows.0 s.rows.1 s.rows.2 s.rows.3 s.rows.4 (omega arith)
      (reported_still p m (counts_after p.blocks p.settings m.counts (Release i used false)) l none refl refl
      (λ k e. by_cases (k == i) (λ here. entry_here m.counts.leases i k None here) (λ other. entry_else m.counts.leases i k None other ∙ (l.reported.released k e).1)) (omega arith))
  event_keeps_lawful m n (Release i used true) l s =
      let none = no_trouble p.blocks p.settings m.counts (Release i used true) refl s.may in
      release_keeps m n i used true 1 (with_entry m.broken i true) l s.may s.counts s.rows.0 s.rows.1 s.rows.2 s.rows.3 s.rows.4
      (let more = broken_more p m i s.rows.0.grant l s.rows.0.leased in omega (arith, more)) (reported_release p m i used s.rows.0.grant l none s.rows.0.leased)
  event_keeps_lawful m n (Off i memory) l s = rows_keep m n (Off i memory) l s.may s.counts s.rows refl refl l.quiet l.budget (reported_off p m i memory l s.may)
  event_keeps_lawful m n (Ended Quiet) l s =
      rows_keep m n (Ended Quiet) l s.may s.counts s.rows.1 refl refl (λ _. s.rows.0) (λ (e : ◌≡◌ {A = Option End} (Some Quiet) (Some Budget)). cc) (reported_end p m Quiet l s.may)
  event_keeps_lawful m n (Ended Budget) l s =
      rows_keep m n (Ended Budget) l s.may s.counts s.rows.1 refl refl (λ (e : ◌≡◌ {A = Option End} (Some Budget) (Some Quiet)). cc) (λ _. s.rows.0) (reported_end p m Budget l s.may)
  event_keeps_lawful m n (Ended Memory) l s =
      rows_keep m n (Ended Memory) l s.may s.counts s.rows refl refl (λ (e : ◌≡◌ {A = Option End} (Some Memory) (Some Quiet)). cc) (λ (e : ◌≡◌ {A = Option End} (Some Memory) (Some Budget)). cc) (reported_end p m Memory l s.may)

  -- a told cost keeps the machine lawful
  pub tell_keeps_lawful : (m n : Machine) (i u : ℕ) → IsLawful p m → Tells p m i u n → IsLawful p n
  tell_keeps_lawful m n i u l s =
      let opening : Store = opening_store p.space p.guide l.reached.first_weight in
      let lowered : Store = record { rows = m.store.rows; incumbent = lesser m.store.incumbent (Some u); weight = m.store.weight } in
      let all = work_goes_on p.space p.guide l.reached.works (lower u ∷ []) opening m.store lowered l.reached.comes (tt, refl) in
      is_at n m.counts (record { rows = m.store.rows; incumbent = lesser m.store.incumbent (Some u); weight = m.store.weight }) m.given (with_entry m.told i (lesser (m.told i) (Some u))) (with_incumbent (with_entry m.known i (with_known (m.known i) (Some u))) (lesser m.store.incumbent (Some u))) m.broken s.counts s.store s.given s.told (s.known ∙ ap (λ (q : Store). with_incumbent (with_entry m.known i (with_known (m.known i) (Some u))) q.incumbent) s.store) s.broken (record {
        counts = l.counts;
        reached = record {
          first_weight = l.reached.first_weight;
          is_weight = l.reached.is_weight;
          works = l.reached.works ++ lower u ∷ [];
          comes = all.0;
          spent = omega (arith, all.1, l.reached.spent);
          broken = omega (arith, all.2, l.reached.broken);
          reopened = omega (arith, all.4, l.reached.reopened);
          between = reopens_append p.space p.guide l.reached.works (lower u ∷ []) opening m.store l.reached.comes l.reached.between tt;
          read = λ first. all_append (IsRead (with_incumbent (with_entry m.known i (with_known (m.known i) (Some u))) (lesser m.store.incumbent (Some u)))) l.reached.works (lower u ∷ [])
              (all_of (IsRead m.known) (IsRead (with_incumbent (with_entry m.known i (with_known (m.known i) (Some u))) (lesser m.store.incumbent (Some u))))
              (read_more m.known (with_incumbent (with_entry m.known i (with_known (m.known i) (Some u))) (lesser m.store.incumbent (Some u)))
              (λ k o h. known_more (with_entry m.known i (with_known (m.known i) (Some u)) k) (lesser m.store.incumbent (Some u)) o (own_more k o h)))
              l.reached.works (l.reached.read first)) (
                (
                  i,
                  known_more (with_entry m.known i (with_known (m.known i) (Some u)) i) (lesser m.store.incumbent (Some u)) (Some u)
                      (ap (λ (f : Option ℕ → Bool). f (Some u)) (entry_here m.known i i (with_known (m.known i) (Some u)) (equal_self i)) ∙ known_new (m.known i) (Some u)),
                ),
                tt,
              );
        };
        weight = l.weight;
        is_known = λ k. known_new (with_entry m.known i (with_known (m.known i) (Some u)) k) (lesser m.store.incumbent (Some u));
        least = least;
        given = λ k. known_more (with_entry m.known i (with_known (m.known i) (Some u)) k) (lesser m.store.incumbent (Some u)) (m.given k) (own_more k (m.given k) (l.given k));
        backed = λ x is. backed x (lesser_cases m.store.incumbent u x is);
        teller = λ k x is. teller k x is;
        told = λ k x is. told k x is;
        quiet = l.quiet;
        budget = l.budget;
        reported = l.reported;
      })
    where
      -- what each worker knows, where this one knows the cost that it told
      own_more : (k : ℕ) (o : Option ℕ) → m.known k o ≡ true → with_entry m.known i (with_known (m.known i) (Some u)) k o ≡ true
      own_more k o h = by_cases (k == i)
          (λ e. ap (λ (f : Option ℕ → Bool). f o) (entry_here m.known i k (with_known (m.known i) (Some u)) e) ∙ known_more (m.known i) (Some u) o (ap (λ j. m.known j o) (sym (equal k i e)) ∙ h))
          (λ e. ap (λ (f : Option ℕ → Bool). f o) (entry_else m.known i k (with_known (m.known i) (Some u)) e) ∙ h)

      low : (o : Option ℕ) (k : ℕ) → m.known k o ≡ true → AtMost (lesser m.store.incumbent (Some u)) o
      low o k known = at_most_trans (lesser m.store.incumbent (Some u)) m.store.incumbent o (lesser_at_most m.store.incumbent (Some u)) (l.least k o known)

      own_least : (k : ℕ) (o : Option ℕ) → with_entry m.known i (with_known (m.known i) (Some u)) k o ≡ true → AtMost (lesser m.store.incumbent (Some u)) o
      own_least k o h = by_cases (k == i)
          (λ e. which (or_true (is_same o (Some u)) (m.known i o) (sym (ap (λ (f : Option ℕ → Bool). f o) (entry_here m.known i k (with_known (m.known i) (Some u)) e)) ∙ h)))
          (λ e. low o k (sym (ap (λ (f : Option ℕ → Bool). f o) (entry_else m.known i k (with_known (m.known i) (Some u)) e)) ∙ h))
        where
          which : ((is_same o (Some u) ≡ true) ⊎ (m.known i o ≡ true)) → AtMost (lesser m.store.incumbent (Some u)) o
          which (inl same) = subst (λ (v : Option ℕ). AtMost (lesser m.store.incumbent (Some u)) v) (sym (same_is o (Some u) same)) (lesser_below m.store.incumbent u)
          which (inr known) = low o i known

      least : (k : ℕ) (o : Option ℕ) → with_known (with_entry m.known i (with_known (m.known i) (Some u)) k) (lesser m.store.incumbent (Some u)) o ≡ true → AtMost (lesser m.store.incumbent (Some u)) o
      least k o h = which (or_true (is_same o (lesser m.store.incumbent (Some u))) (with_entry m.known i (with_known (m.known i) (Some u)) k o) h)
        where
          which : ((is_same o (lesser m.store.incumbent (Some u)) ≡ true) ⊎ (with_entry m.known i (with_known (m.known i) (Some u)) k o ≡ true)) → AtMost (lesser m.store.incumbent (Some u)) o
          which (inl same) = subst (λ (v : Option ℕ). AtMost (lesser m.store.incumbent (Some u)) v) (sym (same_is o (lesser m.store.incumbent (Some u)) same)) (at_most_self (lesser m.store.incumbent (Some u)))
          which (inr known) = own_least k o known

      teller : (k x : ℕ) → with_entry m.told i (lesser (m.told i) (Some u)) k ≡ Some x
          → ((h : Grant) × (m.counts.leases k ≡ Some h)) × (with_known (with_entry m.known i (with_known (m.known i) (Some u)) k) (lesser m.store.incumbent (Some u)) (Some x) ≡ true)
      teller k x is = by_cases (k == i)
          (λ e. (
            (s.grant, ap m.counts.leases (equal k i e) ∙ s.leased),
            known_more (with_entry m.known i (with_known (m.known i) (Some u)) k) (lesser m.store.incumbent (Some u)) (Some x)
                (ap (λ (f : Option ℕ → Bool). f (Some x)) (entry_here m.known i k (with_known (m.known i) (Some u)) e) ∙ told_known (sym (entry_here m.told i k _ e) ∙ is)),
          ))
          (λ e. let t = l.teller k x (sym (entry_else m.told i k _ e) ∙ is) in
          (t.0, known_more (with_entry m.known i (with_known (m.known i) (Some u)) k) (lesser m.store.incumbent (Some u)) (Some x) (own_more k (Some x) t.1)))
        where
          told_known : lesser (m.told i) (Some u) ≡ Some x → with_known (m.known i) (Some u) (Some x) ≡ true
          told_known h = which (lesser_one (m.told i) u)
            where
              which : ((lesser (m.told i) (Some u) ≡ Some u) ⊎ (lesser (m.told i) (Some u) ≡ m.told i)) → with_known (m.known i) (Some u) (Some x) ≡ true
              which (inl new) = ap (with_known (m.known i) (Some u)) (sym h ∙ new) ∙ known_new (m.known i) (Some u)
              which (inr old) = known_more (m.known i) (Some u) (Some x) (l.teller i x (sym old ∙ h)).1

      told : (k x : ℕ) → with_entry m.told i (lesser (m.told i) (Some u)) k ≡ Some x → HasPlan x
      told k x is = by_cases (k == i)
          (λ e. which x (lesser_cases (m.told i) u x (sym (entry_here m.told i k _ e) ∙ is)))
          (λ e. l.told k x (sym (entry_else m.told i k _ e) ∙ is))
        where
          which : (x : ℕ) → ((u ≤ x) ⊎ ((before : ℕ) × (m.told i ≡ Some before) × (before ≤ x))) → HasPlan x
          which x (inl le) = plan_within u x le (worked_plan m i s.grant s.used 1 u s.worked l s.leased s.work s.shown)
          which x (inr h) = plan_within h.0 x h.2 (l.told i h.0 h.1)

      old : (x y : ℕ) → y ≤ x → HasGoalWithin p.space p.guide m.store y ⊎ IsTold m y
          → HasGoalWithin p.space p.guide m.store x ⊎ ((j : ℕ) × (h : Grant) × (c : ℕ) × (m.counts.leases j ≡ Some h) × (with_entry m.told i (lesser (m.told i) (Some u)) j ≡ Some c) × (c ≤ x))
      old x y le (inl g) = inl (goal_within m.store y x le g)
      old x y le (inr t) = by_cases (t.0 == i)
          (λ e. let c = told_less (m.told i) u t.2 (ap m.told (sym (equal t.0 i e)) ∙ t.4) in inr (t.0, t.1, c.0, t.3, entry_here m.told i t.0 _ e ∙ c.1, omega (arith, c.2, t.5, le)))
          (λ e. inr (t.0, t.1, t.2, t.3, entry_else m.told i t.0 _ e ∙ t.4, omega (arith, t.5, le)))

      backed : (x : ℕ) → ((u ≤ x) ⊎ ((y : ℕ) × (m.store.incumbent ≡ Some y) × (y ≤ x)))
          → HasGoalWithin p.space p.guide m.store x ⊎ ((j : ℕ) × (h : Grant) × (c : ℕ) × (m.counts.leases j ≡ Some h) × (with_entry m.told i (lesser (m.told i) (Some u)) j ≡ Some c) × (c ≤ x))
      backed x (inr y) = old x y.0 y.2 (l.backed y.0 y.1)
      backed x (inl le) = let c = told_now (m.told i) u in inr (i, s.grant, c.0, s.leased, entry_here m.told i i _ (equal_self i) ∙ c.1, omega (arith, c.2, le))

  pub move_keeps : (m n : Machine) (move : Move) → IsLawful p m → Moves p m move n → IsLawful p n
  move_keeps m n (event_move e) l s = event_keeps_lawful m n e l s
  move_keeps m n (tell_move i u) l s = tell_keeps_lawful m n i u l s
  move_keeps m n (switch_move i used b q) l s = event_keeps_lawful s.0 n (Lease i b q) (event_keeps_lawful m s.0 (Release i used false) l s.1) s.2

  pub run_keeps : (moves : List Move) (m n : Machine) → IsLawful p m → Runs p m moves n → IsLawful p n
  run_keeps [] m n l r = subst (IsLawful p) (sym r) l
  run_keeps (move ∷ moves) m n l r = run_keeps moves r.0 n (move_keeps m r.0 move l r.1) r.2

  pub opening_keeps : p.reopenings ≡ 0 → IsLawful p (opening_machine p)
  opening_keeps first = record {
    counts = opening_lawful p.blocks p.settings 0 (omega arith);
    reached = record { first_weight = weight_of p.settings; is_weight = is_setup.weight; works = []; comes = refl; spent = refl; broken = omega arith; reopened = sym first; between = tt; read = λ _. tt };
    weight = refl;
    is_known = λ k. refl;
    least = λ k o h. subst (λ (v : Option ℕ). AtMost None v) (sym (same_is o None h)) tt;
    given = λ i. refl;
    backed = λ u (is : ◌≡◌ {A = Option ℕ} None (Some u)). cc;
    teller = λ i u (is : ◌≡◌ {A = Option ℕ} None (Some u)). cc;
    told = λ i u (is : ◌≡◌ {A = Option ℕ} None (Some u)). cc;
    quiet = λ (e : ◌≡◌ {A = Option End} None (Some Quiet)). cc;
    budget = λ (e : ◌≡◌ {A = Option End} None (Some Budget)). cc;
    reported = record { released = λ k e. absurd (true≢false (sym e)); waiting = λ h. absurd (true≢false (sym h)); ended = λ (e : ◌≡◌ {A = Option End} None (Some Memory)). cc };
  }

pub opening_is_lawful : OpeningIsLawful
opening_is_lawful setup greatest_cost is first = opening_keeps setup greatest_cost is first

pub moves_keep_lawful : MovesKeepLawful
moves_keep_lawful setup greatest_cost move old new is l moves = move_keeps setup greatest_cost is old new move l moves

pub runs_are_lawful : RunsAreLawful
runs_are_lawful setup greatest_cost moves start machine is lawful runs = run_keeps setup greatest_cost is moves start machine lawful runs

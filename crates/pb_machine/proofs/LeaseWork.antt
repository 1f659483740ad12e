-- The work of a lease: it stays in the scope of its block, and may be done in the whole store.
use Rattle.std.proofs.Common.{◌≡◌, ℕ, ◌<◌, ◌≤◌, Bool, true, false, cond, not, List, [], ◌∷◌, ◌++◌, Option, Some, None, refl, sym, ap, ◌∙◌, arith, le_trans, inl, inr}
use Rattle.std.specs.List.{AllByRecursion}
use Rattle.pb_model.specs.declared.row.Row.{Row}
use Rattle.pb_model.specs.Space.{Space, Steps}
use Rattle.pb_model.specs.Guide.{Guide}
use Rattle.pb_model.specs.Store.{Store, HasGoalWithin, AtMost}
use Rattle.pb_model.specs.Work.{Work, broken_expansions, reopenings, expand, break_off, cut, take_goal, lower, reopen, store_after, Comes, LowersTo}
use Rattle.pb_model.specs.Local.{IsWithin, AgreesOn, merged_store}
use Rattle.pb_model.proofs.Callers.{by_cases, not_true, lesser_same, row_outside, work_is_local, work_goes_on}
use Rattle.pb_machine.specs.declared.event.Grant.{Grant}
use Rattle.pb_machine.specs.Machine.{Setup, IsSetup, Machine, IsOn, BreaksLast, lent_store, IsWorked}
use Rattle.pb_machine.specs.Lawful.{IsLawful}
use Rattle.pb_machine.specs.Whole.{AreGone}
use Rattle.pb_machine.specs.Laws.{LeaseWorkGoesOn, LeaseWorkStays, LeaseWorkStands, ReturnsLeaveIncumbents}

-- the work of a lease lowers an incumbent to nothing below the one that no known one is below
pub not_lowered : (guide : Guide) (block : ℕ) (known : Option ℕ → Bool) (least : Option ℕ) (xs : List Work) (u : ℕ) → ((o : Option ℕ) → known o ≡ true → AtMost least o)
    → AllByRecursion (IsOn guide block known) xs → LowersTo xs u → (before : ℕ) × (least ≡ Some before) × (before ≤ u)
not_lowered guide block known least [] u low all h = absurd h
not_lowered guide block known least (expand own ∷ xs) u low all h = not_lowered guide block known least xs u low all.1 h
not_lowered guide block known least (break_off own offers ∷ xs) u low all h = not_lowered guide block known least xs u low all.1 h
not_lowered guide block known least (cut own ∷ xs) u low all h = not_lowered guide block known least xs u low all.1 h
not_lowered guide block known least (take_goal own ∷ xs) u low all h = not_lowered guide block known least xs u low all.1 h
not_lowered guide block known least (reopen x ∷ xs) u low all h = not_lowered guide block known least xs u low all.1 h
not_lowered guide block known least (lower cost ∷ xs) u low all (inr h) = not_lowered guide block known least xs u low all.1 h
not_lowered guide block known least (lower cost ∷ xs) u low all (inl le) = found least (low (Some cost) all.0)
  where
    found : (o : Option ℕ) → AtMost o (Some cost) → (before : ℕ) × (o ≡ Some before) × (before ≤ u)
    found None h = absurd h
    found (Some x) h = (x, refl, le_trans h le)

-- what a lease may read may be read where more is known
on_still : (guide : Guide) (block : ℕ) (known more : Option ℕ → Bool) (xs : List Work) → ((o : Option ℕ) → known o ≡ true → more o ≡ true) → AllByRecursion (IsOn guide block known) xs → AllByRecursion (IsOn guide block more) xs
on_still guide block known more [] le h = tt
on_still guide block known more (x ∷ xs) le h = (one x h.0, on_still guide block known more xs le h.1)
  where
    one : (x : Work) → IsOn guide block known x → IsOn guide block more x
    one (expand s) e = e
    one (break_off s k) e = e
    one (cut s) e = e
    one (take_goal s) e = e
    one (lower u) e = le (Some u) e
    one (reopen y) e = absurd e

on_append : (guide : Guide) (block : ℕ) (known : Option ℕ → Bool) (xs ys : List Work) → AllByRecursion (IsOn guide block known) xs → AllByRecursion (IsOn guide block known) ys → AllByRecursion (IsOn guide block known) (xs ++ ys)
on_append guide block known [] ys h k = k
on_append guide block known (x ∷ xs) ys h k = (h.0, on_append guide block known xs ys h.1 k)

-- ---- want of memory ends the work

-- at most one expansion is broken off
pub breaks_few : (xs : List Work) → BreaksLast xs → broken_expansions xs ≤ 1
breaks_few [] h = omega arith
breaks_few (expand own ∷ xs) h = breaks_few xs h
breaks_few (break_off own offers ∷ xs) h = let none = ap broken_expansions h in omega (arith, none)
breaks_few (cut own ∷ xs) h = breaks_few xs h
breaks_few (take_goal own ∷ xs) h = breaks_few xs h
breaks_few (lower cost ∷ xs) h = breaks_few xs h
breaks_few (reopen x ∷ xs) h = breaks_few xs h

-- what has no such expansion goes on
breaks_append : (xs ys : List Work) → broken_expansions xs ≤ 0 → BreaksLast ys → BreaksLast (xs ++ ys)
breaks_append [] ys none h = h
breaks_append (expand own ∷ xs) ys none h = breaks_append xs ys none h
breaks_append (break_off own offers ∷ xs) ys none h = absurd (omega (arith, none))
breaks_append (cut own ∷ xs) ys none h = breaks_append xs ys none h
breaks_append (take_goal own ∷ xs) ys none h = breaks_append xs ys none h
breaks_append (lower cost ∷ xs) ys none h = breaks_append xs ys none h
breaks_append (reopen x ∷ xs) ys none h = breaks_append xs ys none h

-- work within a scope leaves the rows outside as they are
rows_outside : (space : Space) (guide : Guide) (scope : ℕ → Bool) (xs : List Work) (w v : Store) (home state : ℕ) → AllByRecursion (IsWithin space guide scope) xs → Comes space guide xs w v → scope home ≡ false
    → v.rows home state ≡ w.rows home state
rows_outside space guide scope [] w v home state on h out = λ i. (h i).rows home state
rows_outside space guide scope (x ∷ xs) w v home state on h out =
    rows_outside space guide scope xs (store_after space guide x w) v home state on.1 h.1 out ∙ row_outside space guide scope x _ w.incumbent home state (w.rows home state) on.0 out

module _ (p : Setup) (greatest_cost : ℕ) (is_setup : IsSetup p greatest_cost) where
  pub on_scope : (b : ℕ) (known : Option ℕ → Bool) (xs : List Work) → b < p.blocks.count → AllByRecursion (IsOn p.guide b known) xs → AllByRecursion (IsWithin p.space p.guide (p.blocks.scope b)) xs
  on_scope b known [] there h = tt
  on_scope b known (x ∷ xs) there h = (one x h.0, on_scope b known xs there h.1)
    where
      in_scope : (s : ℕ) → p.guide.home s ≡ b → p.blocks.scope b (p.guide.home s) ≡ true
      in_scope s e = ap (p.blocks.scope b) e ∙ is_setup.blocks.own b there

      steps : (s : ℕ) → p.guide.home s ≡ b → (action to cost : ℕ) → Steps p.space s action to cost → p.blocks.scope b (p.guide.home to) ≡ true
      steps s e action to cost step = ap (λ k. p.blocks.scope k (p.guide.home to)) (sym e) ∙ is_setup.blocks.steps s action to cost step

      one : (x : Work) → IsOn p.guide b known x → IsWithin p.space p.guide (p.blocks.scope b) x
      one (expand s) e = (in_scope s e, steps s e)
      one (break_off s k) e = (in_scope s e, steps s e)
      one (cut s) e = in_scope s e
      one (take_goal s) e = in_scope s e
      one (lower u) e = tt
      one (reopen y) e = absurd e

  -- the work of a lease has no reopening
  pub none_reopens : (b : ℕ) (known : Option ℕ → Bool) (xs : List Work) → AllByRecursion (IsOn p.guide b known) xs → reopenings xs ≡ 0
  none_reopens b known [] h = refl
  none_reopens b known (expand s ∷ xs) h = none_reopens b known xs h.1
  none_reopens b known (break_off s k ∷ xs) h = none_reopens b known xs h.1
  none_reopens b known (cut s ∷ xs) h = none_reopens b known xs h.1
  none_reopens b known (take_goal s ∷ xs) h = none_reopens b known xs h.1
  none_reopens b known (lower u ∷ xs) h = none_reopens b known xs h.1
  none_reopens b known (reopen y ∷ xs) h = absurd h.0

  abbrev pub merged : (m : Machine) → Grant → Store → Store
  merged m grant worked = merged_store (p.blocks.scope grant.block) worked m.store

  -- whatever the worker may have read
  module _ (m : Machine) (i : ℕ) (grant : Grant) (used few : ℕ) {known : Option ℕ → Bool} (worked : Store) (l : IsLawful p m) (leased : m.counts.leases i ≡ Some grant)
      (work : IsWorked p.space p.guide grant.block used few known (lent_store p grant.block m.store (m.given i)) worked) where
    pub within : AllByRecursion (IsWithin p.space p.guide (p.blocks.scope grant.block)) work.works
    within = on_scope grant.block known work.works (l.counts.known i grant leased).1 work.on

    -- what a lease has done may be done in the whole store
    pub works_there : Comes p.space p.guide work.works m.store (merged m grant worked)
    works_there =
        let first : Store = lent_store p grant.block m.store (m.given i) in
        let agree : AgreesOn (p.blocks.scope grant.block) first.rows m.store.rows = λ home state e. ap (λ r. cond r (m.store.rows home state) None) e in
        work_is_local p.space p.guide (p.blocks.scope grant.block) work.works first worked m.store within work.comes agree (l.least i (m.given i) (l.given i)) refl

    -- the lease has no row outside the scope
    pub none_outside : AreGone (λ block. not (p.blocks.scope grant.block block)) worked.rows
    none_outside home state out =
        rows_outside p.space p.guide (p.blocks.scope grant.block) work.works (lent_store p grant.block m.store (m.given i)) worked home state within work.comes (not_true _ out)
        ∙ ap (λ r. cond r (m.store.rows home state) None) (not_true _ out)

    -- a row of the lease is one of the scope, and so of the whole store
    pub row_there : (home state : ℕ) (row : Row) → worked.rows home state ≡ Some row → (merged m grant worked).rows home state ≡ Some row
    row_there home state row is = by_cases (p.blocks.scope grant.block home)
        (λ e. ap (λ r. cond r (worked.rows home state) (m.store.rows home state)) e ∙ is)
        (λ e. let none : ◌≡◌ {A = Option Row} None (Some row) = sym (none_outside home state (ap not e)) ∙ is in cc)

    pub goal_there : (u : ℕ) → HasGoalWithin p.space p.guide worked u → HasGoalWithin p.space p.guide (merged m grant worked) u
    goal_there u g = (g.0, g.1, (g.2.0, row_there (p.guide.home g.0) g.0 g.2.0 g.2.1, g.2.2))

pub lease_work_goes_on : LeaseWorkGoesOn
lease_work_goes_on space guide block used more most_broken known later given between worked first second le =
    let both = work_goes_on space guide first.works second.works given between worked first.comes second.comes in (
      record {
        works = first.works ++ second.works;
        on = on_append guide block later first.works second.works (on_still guide block known later first.works le first.on) second.on;
        comes = both.0;
        used_is = omega (arith, both.1, first.used_is, second.used_is);
        few_broken = omega (arith, both.2, first.few_broken, second.few_broken);
        stops = breaks_append first.works second.works first.few_broken second.stops;
      },
      refl,
    )

pub lease_work_stays : LeaseWorkStays
lease_work_stays space guide block used most_broken more_broken known later given worked work le more = (
  record {
    works = work.works;
    on = on_still guide block known later work.works more work.on;
    comes = work.comes;
    used_is = work.used_is;
    few_broken = le_trans work.few_broken le;
    stops = work.stops;
  },
  refl,
)

pub lease_work_stands : LeaseWorkStands
lease_work_stands setup greatest_cost machine worker used few known grant worked is lawful leased work =
    (works_there setup greatest_cost is machine worker grant used few worked lawful leased work, none_outside setup greatest_cost is machine worker grant used few worked lawful leased work)

pub returns_leave_incumbents : ReturnsLeaveIncumbents
returns_leave_incumbents setup machine worker used few new back low = ap (λ (q : Store). q.incumbent) back.back ∙ lesser_same machine.store.incumbent back.worked.incumbent low

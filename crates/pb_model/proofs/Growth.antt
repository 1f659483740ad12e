-- How fast costs grow, and work told by rows.
use Rattle.std.proofs.Common.{◌≡◌, ℕ, ◌+◌, ◌*◌, ◌≤◌, List, [], ◌∷◌, Option, Some, None, refl, sym, ap, ◌∙◌, subst, arith, mul-add, mul-one, mul-zero}
use Rattle.pb_model.specs.declared.row.Row.{Row}
use Rattle.pb_model.specs.Space.{Space, IsProper}
use Rattle.pb_model.specs.Guide.{Guide}
use Rattle.pb_model.specs.Weight.{Weight}
use Rattle.pb_model.specs.Store.{Store, CostsAtMost}
use Rattle.pb_model.specs.Work.{Work, expand, break_off, cut, take_goal, lower, reopen, reopened_row, reopened_status, row_after, incumbent_after, weight_after, store_after, Comes, expansions, broken_expansions}
use Rattle.pb_model.specs.Laws.{CostsGrowByWork, WorkByRows}
use Rattle.pb_model.proofs.Offers.{some_row}
use Rattle.pb_model.proofs.Effects.{Change, same, fresh, marked, Effect, expand_effect, break_effect, cut_effect, goal_effect}

pub work_by_rows : WorkByRows
work_by_rows space guide work store new g at rows =
    ap (λ k. record {
      rows = λ home state. row_after space guide work k store.incumbent home state (store.rows home state);
      incumbent = incumbent_after work k store.incumbent;
      weight = weight_after work store.weight;
    }) at
    ∙ λ i. record { rows = λ home state. sym (rows home state) i; incumbent = incumbent_after work g store.incumbent; weight = weight_after work store.weight }

reopened_g : (x : Weight) (b : Option ℕ) (o : Option Row) (r : Row) (most : ℕ) → ((q : Row) → o ≡ Some q → q.g ≤ most) → reopened_row x b o ≡ Some r → r.g ≤ most
reopened_g x b None r most all is = let bad : ◌≡◌ {A = Option Row} None (Some r) = is in cc
reopened_g x None (Some q) r most all is = subst (λ (k : Row). k.g ≤ most) (some_row q r is) (all q refl)
reopened_g x (Some u) (Some q) r most all is =
    let e : record q { status = reopened_status x u q.g q.estimate q.status } ≡ r = some_row (record q { status = reopened_status x u q.g q.estimate q.status }) r is in
    subst (λ (k : Row). k.g ≤ most) e (all q refl)

module _ (space : Space) (guide : Guide) (greatest_cost : ℕ) (proper : IsProper space greatest_cost) where
  grows : (few most : ℕ) (w v : Store) → Effect space guide few w v → CostsAtMost w most → CostsAtMost v (most + greatest_cost * few)
  grows few most w v f small home state r is = go (f.changes home state)
    where
      more : (g : ℕ) → g ≤ most → g ≤ most + greatest_cost * few
      more g h = omega (arith, h)

      go : Change space guide f.own f.row f.status few home state (w.rows home state) (v.rows home state) → r.g ≤ most + greatest_cost * few
      go (same e) = more r.g (small home state r (sym e ∙ is))
      go (fresh one k) =
          let e : r ≡ k.row = some_row r k.row (sym is ∙ k.is) in
          let was = small (guide.home f.own) f.own f.row f.found in
          let step = proper.bounded f.own k.row.action state k.cost k.step in
          subst (λ q. r.g ≤ most + greatest_cost * q) (sym one) (omega (arith, was, step, k.sum, ap (λ (x : Row). x.g) e, mul-one greatest_cost))
      go (marked a e k) =
          let row : r ≡ record f.row { status = f.status } = some_row r (record f.row { status = f.status }) (sym is ∙ k) in
          more r.g (omega (arith, small (guide.home f.own) f.own f.row f.found, ap (λ (x : Row). x.g) row))

  -- a count of some work, and then the rest
  joined : (most few rest : ℕ) (v : Store) → CostsAtMost v (most + greatest_cost * few + greatest_cost * rest) → CostsAtMost v (most + greatest_cost * (few + rest))
  joined most few rest v small = subst (CostsAtMost v) (omega (arith, mul-add greatest_cost few rest)) small

  counted : (most one two : ℕ) (v : Store) → one ≡ two → CostsAtMost v (most + greatest_cost * one) → CostsAtMost v (most + greatest_cost * two)
  counted most one two v e small = subst (λ k. CostsAtMost v (most + greatest_cost * k)) e small

  pub costs_grow : (works : List Work) (most : ℕ) (old new : Store) → Comes space guide works old new → CostsAtMost old most
      → CostsAtMost new (most + greatest_cost * (expansions works + broken_expansions works))
  costs_grow [] most old new h small = subst (CostsAtMost new) (omega (arith, mul-zero greatest_cost)) (subst (λ s. CostsAtMost s most) (sym h) small)
  costs_grow (expand own ∷ xs) most w v h small =
      counted most (1 + (expansions xs + broken_expansions xs)) (1 + expansions xs + broken_expansions xs) v (omega arith)
      (joined most 1 (expansions xs + broken_expansions xs) v
      (costs_grow xs (most + greatest_cost * 1) (store_after space guide (expand own) w) v h.1 (grows 1 most w (store_after space guide (expand own) w) (expand_effect space guide own w h.0) small)))
  costs_grow (break_off own offers ∷ xs) most w v h small =
      counted most (1 + (expansions xs + broken_expansions xs)) (expansions xs + (1 + broken_expansions xs)) v (omega arith)
      (joined most 1 (expansions xs + broken_expansions xs) v
      (costs_grow xs (most + greatest_cost * 1) (store_after space guide (break_off own offers) w) v h.1 (grows 1 most w (store_after space guide (break_off own offers) w) (break_effect space guide own offers w h.0) small)))
  costs_grow (cut own ∷ xs) most w v h small =
      counted most (0 + (expansions xs + broken_expansions xs)) (expansions xs + broken_expansions xs) v (omega arith)
      (joined most 0 (expansions xs + broken_expansions xs) v
      (costs_grow xs (most + greatest_cost * 0) (store_after space guide (cut own) w) v h.1 (grows 0 most w (store_after space guide (cut own) w) (cut_effect space guide own w h.0) small)))
  costs_grow (take_goal own ∷ xs) most w v h small =
      counted most (0 + (expansions xs + broken_expansions xs)) (expansions xs + broken_expansions xs) v (omega arith)
      (joined most 0 (expansions xs + broken_expansions xs) v
      (costs_grow xs (most + greatest_cost * 0) (store_after space guide (take_goal own) w) v h.1 (grows 0 most w (store_after space guide (take_goal own) w) (goal_effect space guide own w h.0) small)))
  costs_grow (lower cost ∷ xs) most w v h small = costs_grow xs most (store_after space guide (lower cost) w) v h.1 small
  costs_grow (reopen x ∷ xs) most w v h small =
      costs_grow xs most (store_after space guide (reopen x) w) v h.1 (λ home state r is. reopened_g x w.incumbent (w.rows home state) r most (small home state) is)

pub costs_grow_by_work : CostsGrowByWork
costs_grow_by_work space greatest_cost guide works old new most proper comes small = costs_grow space guide greatest_cost proper works most old new comes small

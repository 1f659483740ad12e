-- What looking at steps does to a table, one step after another.
use Rattle.std.proofs.Common.{IfSome, ◌≡◌, ◌≢◌, ℕ, ◌+◌, ◌^◌, ◌<◌, ◌≤◌, Bool, true, false, ◌||◌, nat_lt, List, length, Option, None, Some, if◌then◌else◌, refl, sym, ap, ◌∙◌, subst, arith, ◌⊎◌, inl, inr}
use Rattle.std.specs.List.{slice_set}
use Rattle.std.proofs.lemmas.List.{get_or-set_same, get_or-set_other, length-set}
use Rattle.std.proofs.lemmas.Bool.{cases_eq}
use Rattle.pb_model.specs.Space.{Space, Steps, IsProper}
use Rattle.pb_model.proofs.Callers.{below, not_below}
use Rattle.pb_pattern.specs.Least.{Reaches, HasStatesBelow}
use Rattle.pb_pattern.specs.Costs.{cost_in, IsTable, is_cheaper, costs_after, Looks, IsStepAt, IsByOneBelow, IsByOne, IsByBelow, IsFromBy, IsFrom, IsFromBelow, IsAnyStep}
use Rattle.pb_pattern.proofs.Walks.{step_reaches}

-- ---- one step

-- the cost of an image after that of another was set
pub set_cost : (costs : List ℕ) (from cost image : ℕ) → from < length costs
    → ((image ≡ from) × (cost_in (slice_set costs from cost) image ≡ cost)) ⊎ (cost_in (slice_set costs from cost) image ≡ cost_in costs image)
set_cost costs from cost image less = go (cases_eq image from) where
  go : (image ≡ from) ⊎ (image ≢ from) → ((image ≡ from) × (cost_in (slice_set costs from cost) image ≡ cost)) ⊎ (cost_in (slice_set costs from cost) image ≡ cost_in costs image)
  go (inl e) = inl (e, ap (cost_in (slice_set costs from cost)) e ∙ get_or-set_same costs from cost (2 ^ 62) less)
  go (inr other) = inr (get_or-set_other costs from image cost (2 ^ 62) other)

module _ (space : Space) (images : ℕ) where
  -- no step is looked at
  pub nothing : (At : ℕ → ℕ → Type 0) (costs : List ℕ) → IsTable space images costs
      → ((from action to price : ℕ) → At from action → Steps space from action to price → cost_in costs from ≤ price + cost_in costs to)
      → Looks space images At costs costs false
  nothing At costs table covers = record { table = table; falls = λ image. omega arith; covers = covers; idle = λ e. refl }

  module _ (old : List ℕ) (table : IsTable space images old) (from action to price : ℕ) (step : Steps space from action to price) (inside : from < length old)
      (less : price + cost_in old to < cost_in old from) where
    cheaper_falls : (image : ℕ) → cost_in (slice_set old from (price + cost_in old to)) image ≤ cost_in old image
    cheaper_falls image = go (set_cost old from (price + cost_in old to) image inside) where
      go : ((image ≡ from) × (cost_in (slice_set old from (price + cost_in old to)) image ≡ price + cost_in old to)) ⊎ (cost_in (slice_set old from (price + cost_in old to)) image ≡ cost_in old image)
          → cost_in (slice_set old from (price + cost_in old to)) image ≤ cost_in old image
      go (inl h) = let e : cost_in old image ≡ cost_in old from = ap (cost_in old) h.0 in omega (arith, h.1, e, less)
      go (inr e) = omega (arith, e)

    cheaper_walks : (image : ℕ) → cost_in (slice_set old from (price + cost_in old to)) image < 2 ^ 62 → Reaches space image (cost_in (slice_set old from (price + cost_in old to)) image)
    cheaper_walks image known = go (set_cost old from (price + cost_in old to) image inside) where
      go : ((image ≡ from) × (cost_in (slice_set old from (price + cost_in old to)) image ≡ price + cost_in old to)) ⊎ (cost_in (slice_set old from (price + cost_in old to)) image ≡ cost_in old image)
          → Reaches space image (cost_in (slice_set old from (price + cost_in old to)) image)
      go (inl h) =
          subst (λ c. Reaches space image c) (sym h.1) (subst (λ s. Reaches space s (price + cost_in old to)) (sym h.0)
          (step_reaches space from action to price (cost_in old to) step (table.walks to (let small : cost_in old from ≤ 2 ^ 62 = table.small from in omega (arith, less, small)))))
      go (inr e) = subst (λ c. Reaches space image c) (sym e) (table.walks image (subst (λ c. c < 2 ^ 62) e known))

    cheaper_table : IsTable space images (slice_set old from (price + cost_in old to))
    cheaper_table = record {
      long = length-set old from (price + cost_in old to) ∙ table.long;
      small = λ image. (let low = cheaper_falls image in let small : cost_in old image ≤ 2 ^ 62 = table.small image in omega (arith, low, small));
      walks = cheaper_walks;
      free = λ image is goal. (let low = cheaper_falls image in let none : cost_in old image ≤ 0 = table.free image is goal in omega (arith, low, none));
    }

  same_step : (from action to price to' price' : ℕ) → Steps space from action to price → Steps space from action to' price' → (to ≡ to') × (price ≡ price')
  same_step from action to price to' price' one other =
      let pair : ◌≡◌ {A = ℕ × ℕ} (to, price) (to', price') = cc in (ap (λ (p : ℕ × ℕ). p.0) pair, ap (λ (p : ℕ × ℕ). p.1) pair)

  -- one step is looked at
  pub looked : (old : List ℕ) → IsTable space images old → (from action : ℕ) (step : Option (ℕ × ℕ)) → step ≡ space.step from action → from < images
      → Looks space images (IsStepAt from action) old (costs_after old from step) (is_cheaper old from step)
  looked old table from action None is less =
      nothing (IsStepAt from action) old table
      (λ f a to price at step. let e : space.step from action ≡ Some (to, price) = subst (λ n. space.step n action ≡ Some (to, price)) at.0 (subst (λ n. space.step f n ≡ Some (to, price)) at.1 step) in cc)
  looked old table from action (Some (to, price)) is less = go (nat_lt (price + cost_in old to) (cost_in old from)) refl where
    inside : from < length old
    inside = let long : length old ≡ images = table.long in omega (arith, long, less)

    the_step : (f a to' price' : ℕ) → IsStepAt from action f a → Steps space f a to' price' → (to ≡ to') × (price ≡ price')
    the_step f a to' price' at step = same_step from action to price to' price' (sym is) (subst (λ n. space.step n action ≡ Some (to', price')) at.0 (subst (λ n. space.step f n ≡ Some (to', price')) at.1 step))

    go : (test : Bool) → nat_lt (price + cost_in old to) (cost_in old from) ≡ test
        → Looks space images (IsStepAt from action) old (if test then slice_set old from (price + cost_in old to) else old) test
    go true lower = record {
      table = cheaper_table old table from action to price (sym is) inside (below (price + cost_in old to) (cost_in old from) lower);
      falls = cheaper_falls old table from action to price (sym is) inside (below (price + cost_in old to) (cost_in old from) lower);
      covers = λ f a to' price' at step. (
          let same = the_step f a to' price' at step in
          let here : cost_in (slice_set old from (price + cost_in old to)) from ≡ price + cost_in old to = get_or-set_same old from (price + cost_in old to) (2 ^ 62) inside in
          let there : cost_in old to ≡ cost_in old to' = ap (cost_in old) same.0 in
          subst (λ n. cost_in (slice_set old from (price + cost_in old to)) n ≤ price' + cost_in old to') (sym at.0) (omega (arith, here, there, same.1)));
      idle = λ e. cc;
    }
    go false lower = record {
      table = table;
      falls = λ image. omega arith;
      covers = λ f a to' price' at step. (
          let same = the_step f a to' price' at step in
          let high : cost_in old from ≤ price + cost_in old to = not_below (price + cost_in old to) (cost_in old from) lower in
          let there : cost_in old to ≡ cost_in old to' = ap (cost_in old) same.0 in
          subst (λ n. cost_in old n ≤ price' + cost_in old to') (sym at.0) (omega (arith, high, there, same.1)));
      idle = λ e. refl;
    }

  neither : (one other : Bool) → (one || other) ≡ false → (one ≡ false) × (other ≡ false)
  neither true other e = cc
  neither false other e = (refl, e)

  -- some steps are looked at, and then others
  pub both : (First Second All : ℕ → ℕ → Type 0) (old middle new : List ℕ) (one other changed : Bool) → Looks space images First old middle one → Looks space images Second middle new other
      → ((from action to price : ℕ) → All from action → Steps space from action to price → First from action ⊎ Second from action)
      → changed ≡ (one || other) → Looks space images All old new changed
  both First Second All old middle new one other changed h k either is = record {
    table = k.table;
    falls = λ image. (let a = h.falls image in let b = k.falls image in omega (arith, a, b));
    covers = λ from action to price at step. go from action to price step (either from action to price at step);
    idle = λ e. (let n = neither one other (sym is ∙ e) in k.idle n.1 ∙ h.idle n.0);
  }
    where
      go : (from action to price : ℕ) → Steps space from action to price → First from action ⊎ Second from action → cost_in new from ≤ price + cost_in old to
      go from action to price step (inl at) = let a = h.covers from action to price at step in let b = k.falls from in omega (arith, a, b)
      go from action to price step (inr at) = let a = k.covers from action to price at step in let b = h.falls to in omega (arith, a, b)

  -- fewer steps are asked about
  pub fewer : (Few All : ℕ → ℕ → Type 0) (old new : List ℕ) (changed : Bool) → Looks space images All old new changed
      → ((from action to price : ℕ) → Few from action → Steps space from action to price → All from action) → Looks space images Few old new changed
  fewer Few All old new changed h each = record {
    table = h.table;
    falls = h.falls;
    covers = λ from action to price at step. h.covers from action to price (each from action to price at step) step;
    idle = h.idle;
  }

-- ---- the steps of a table, one after another

pub at_or_below : (n count : ℕ) → n < count + 1 → (n < count) ⊎ (n ≡ count)
at_or_below n count less = go (cases_eq n count) where
  go : (n ≡ count) ⊎ (n ≢ count) → (n < count) ⊎ (n ≡ count)
  go (inl e) = inr e
  go (inr other) = inl (omega (arith, less, other))

module _ (space : Space) (images : ℕ) where
  pub looked_at : (old new : List ℕ) (changed : Bool) → IsTable space images old → (from action : ℕ) (step : Option (ℕ × ℕ)) → step ≡ space.step from action → from < images
      → new ≡ costs_after old from step → changed ≡ is_cheaper old from step → Looks space images (IsStepAt from action) old new changed
  looked_at old new changed table from action step is less new_is changed_is =
      subst (λ c. Looks space images (IsStepAt from action) old new c) (sym changed_is)
      (subst (λ n. Looks space images (IsStepAt from action) old n (is_cheaper old from step)) (sym new_is) (looked space images old table from action step is less))

  -- what is asked of a step that is looked at
  pub inside_step : (costs : List ℕ) → IsTable space images costs → IsProper space (2 ^ 20) → HasStatesBelow space images → (from action : ℕ) (step : Option (ℕ × ℕ)) → step ≡ space.step from action
      → IfSome step (λ s. (s.0 < length costs) × (s.1 ≤ 2 ^ 20))
  inside_step costs table proper few from action None is = tt
  inside_step costs table proper few from action (Some (to, price)) is =
      let low : to < images = few to (proper.to_state from action to price (sym is)) in
      let long : length costs ≡ images = table.long in
      (omega (arith, low, long), proper.bounded from action to price (sym is))

  -- by one action from the first images
  pub first_image : (action : ℕ) (costs : List ℕ) → IsTable space images costs → Looks space images (IsByOneBelow action 0) costs costs false
  first_image action costs table = nothing space images (IsByOneBelow action 0) costs table (λ from a to price at step. absurd (let less : from < 0 = at.1 in omega (arith, less)))

  pub next_image : (action image : ℕ) (old middle new : List ℕ) (one other changed : Bool) → Looks space images (IsByOneBelow action image) old middle one → Looks space images (IsStepAt image action) middle new other → changed ≡ (one || other)
      → Looks space images (IsByOneBelow action (image + 1)) old new changed
  next_image action image old middle new one other changed h k e =
      both space images (IsByOneBelow action image) (IsStepAt image action) (IsByOneBelow action (image + 1)) old middle new one other changed h k (λ from a to price at step. go from a at (at_or_below from image at.1)) e
    where
      go : (from a : ℕ) → IsByOneBelow action (image + 1) from a → (from < image) ⊎ (from ≡ image) → IsByOneBelow action image from a ⊎ IsStepAt image action from a
      go from a at (inl less) = inl (at.0, less)
      go from a at (inr e) = inr (e, at.0)

  pub all_images : (action count : ℕ) (old new : List ℕ) (changed : Bool) → IsProper space (2 ^ 20) → HasStatesBelow space images → images ≤ count → Looks space images (IsByOneBelow action count) old new changed → Looks space images (IsByOne action) old new changed
  all_images action count old new changed proper few le h =
      fewer space images (IsByOne action) (IsByOneBelow action count) old new changed h
      (λ from a to price at step. (at, (let less : from < images = few from (proper.from_state from a to price step) in omega (arith, less, le))))

  -- by the first actions
  pub first_action : (costs : List ℕ) → IsTable space images costs → Looks space images (IsByBelow 0) costs costs false
  first_action costs table = nothing space images (IsByBelow 0) costs table (λ from a to price at step. absurd (let less : a < 0 = at in omega (arith, less)))

  pub next_action : (action : ℕ) (old middle new : List ℕ) (one other changed : Bool) → Looks space images (IsByBelow action) old middle one → Looks space images (IsByOne action) middle new other → changed ≡ (one || other)
      → Looks space images (IsByBelow (action + 1)) old new changed
  next_action action old middle new one other changed h k e =
      both space images (IsByBelow action) (IsByOne action) (IsByBelow (action + 1)) old middle new one other changed h k (λ from a to price at step. at_or_below a action at) e

  pub all_actions : (count : ℕ) (old new : List ℕ) (changed : Bool) → IsProper space (2 ^ 20) → space.actions ≤ count → Looks space images (IsByBelow count) old new changed → Looks space images IsAnyStep old new changed
  all_actions count old new changed proper le h =
      fewer space images IsAnyStep (IsByBelow count) old new changed h
      (λ from a to price at step. (let less : a < space.actions = proper.action from a to price step in omega (arith, less, le)))

  -- from one image by the first actions
  pub first_way : (image : ℕ) (costs : List ℕ) → IsTable space images costs → Looks space images (IsFromBy image 0) costs costs false
  first_way image costs table = nothing space images (IsFromBy image 0) costs table (λ from a to price at step. absurd (let less : a < 0 = at.1 in omega (arith, less)))

  pub next_way : (image action : ℕ) (old middle new : List ℕ) (one other changed : Bool) → Looks space images (IsFromBy image action) old middle one → Looks space images (IsStepAt image action) middle new other → changed ≡ (one || other)
      → Looks space images (IsFromBy image (action + 1)) old new changed
  next_way image action old middle new one other changed h k e =
      both space images (IsFromBy image action) (IsStepAt image action) (IsFromBy image (action + 1)) old middle new one other changed h k (λ from a to price at step. go from a at (at_or_below a action at.1)) e
    where
      go : (from a : ℕ) → IsFromBy image (action + 1) from a → (a < action) ⊎ (a ≡ action) → IsFromBy image action from a ⊎ IsStepAt image action from a
      go from a at (inl less) = inl (at.0, less)
      go from a at (inr e) = inr (at.0, e)

  pub all_ways : (image count : ℕ) (old new : List ℕ) (changed : Bool) → IsProper space (2 ^ 20) → space.actions ≤ count → Looks space images (IsFromBy image count) old new changed → Looks space images (IsFrom image) old new changed
  all_ways image count old new changed proper le h =
      fewer space images (IsFrom image) (IsFromBy image count) old new changed h
      (λ from a to price at step. (at, (let less : a < space.actions = proper.action from a to price step in omega (arith, less, le))))

  -- from the first images
  pub first_from : (costs : List ℕ) → IsTable space images costs → Looks space images (IsFromBelow 0) costs costs false
  first_from costs table = nothing space images (IsFromBelow 0) costs table (λ from a to price at step. absurd (let less : from < 0 = at in omega (arith, less)))

  pub next_from : (image : ℕ) (old middle new : List ℕ) (one other changed : Bool) → Looks space images (IsFromBelow image) old middle one → Looks space images (IsFrom image) middle new other → changed ≡ (one || other)
      → Looks space images (IsFromBelow (image + 1)) old new changed
  next_from image old middle new one other changed h k e =
      both space images (IsFromBelow image) (IsFrom image) (IsFromBelow (image + 1)) old middle new one other changed h k (λ from a to price at step. at_or_below from image at) e

  pub all_from : (count : ℕ) (old new : List ℕ) (changed : Bool) → IsProper space (2 ^ 20) → HasStatesBelow space images → images ≤ count → Looks space images (IsFromBelow count) old new changed → Looks space images IsAnyStep old new changed
  all_from count old new changed proper few le h =
      fewer space images IsAnyStep (IsFromBelow count) old new changed h
      (λ from a to price at step. (let less : from < images = few from (proper.from_state from a to price step) in omega (arith, less, le)))

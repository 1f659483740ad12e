-- The first table: a goal costs nothing, and no other cost is known.
use Rattle.std.proofs.Common.{◌≡◌, ℕ, zero, suc, ◌+◌, ◌^◌, ◌<◌, ◌≤◌, Bool, true, false, List, [], length, replicate, if◌then◌else◌, refl, sym, ap, ◌∙◌, subst, arith, ◌⊎◌, inl, inr}
use Rattle.std.specs.List.{slice_set}
use Rattle.std.proofs.lemmas.List.{length-set, get_or-set_same}
use Rattle.pb_model.specs.Space.{Space}
use Rattle.pb_pattern.specs.Least.{Reaches, HasStatesBelow}
use Rattle.pb_pattern.specs.Costs.{cost_in, IsTable}
use Rattle.pb_pattern.proofs.Looking.{set_cost, at_or_below}

-- the goals below a number cost nothing, and nothing else is known
pub record IsBegun (space : Space) (images count : ℕ) (costs : List ℕ) : Type 0 where
  pub long : length costs ≡ images
  pub small : (image : ℕ) → cost_in costs image ≤ 2 ^ 62
  pub known : (image : ℕ) → cost_in costs image < 2 ^ 62 → (space.is_goal image ≡ true) × (cost_in costs image ≡ 0)
  pub free : (image : ℕ) → image < count → space.is_goal image ≡ true → cost_in costs image ≤ 0

all_unknown : (n image : ℕ) → cost_in (replicate n (2 ^ 62)) image ≡ 2 ^ 62
all_unknown zero image = refl
all_unknown (suc n) zero = refl
all_unknown (suc n) (suc image) = all_unknown n image

long_enough : (n : ℕ) → length (replicate n (2 ^ 62)) ≡ n
long_enough zero = refl
long_enough (suc n) = let rest : length (replicate n (2 ^ 62)) ≡ n = long_enough n in omega (arith, rest)

pub begun_first : (space : Space) (images : ℕ) (costs : List ℕ) → costs ≡ replicate images (2 ^ 62) → IsBegun space images 0 costs
begun_first space images costs is = subst (IsBegun space images 0) (sym is) (record {
  long = long_enough images;
  small = λ image. (let e = all_unknown images image in omega (arith, e));
  known = λ image less. absurd (let e = all_unknown images image in omega (arith, e, less));
  free = λ image less goal. absurd (omega (arith, less));
})

-- what an image costs before the first step
pub first_cost : Bool → ℕ
first_cost goal = if goal then 0 else 2 ^ 62

pub begun_next : (space : Space) (images image cost : ℕ) (old new : List ℕ) → IsBegun space images image old → image < images → cost ≡ (if space.is_goal image then 0 else 2 ^ 62) → new ≡ slice_set old image cost
    → IsBegun space images (image + 1) new
begun_next space images image cost old new h less cost_is is = subst (IsBegun space images (image + 1)) (sym is) (record {
  long = length-set old image cost ∙ h.long;
  small = λ k. small k (at k);
  known = λ k known. known_at k known (at k);
  free = λ k k_less goal. free k k_less goal (at_or_below' k);
})
  where
    at : (k : ℕ) → ((k ≡ image) × (cost_in (slice_set old image cost) k ≡ cost)) ⊎ (cost_in (slice_set old image cost) k ≡ cost_in old k)
    at k = set_cost old image cost k (let long : length old ≡ images = h.long in omega (arith, long, less))

    either : (test : Bool) → space.is_goal image ≡ test → cost ≡ (if test then 0 else 2 ^ 62) → ((space.is_goal image ≡ true) × (cost ≡ 0)) ⊎ ((space.is_goal image ≡ false) × (cost ≡ 2 ^ 62))
    either true goal e = inl (goal, e)
    either false goal e = inr (goal, e)

    now : ((space.is_goal image ≡ true) × (cost ≡ 0)) ⊎ ((space.is_goal image ≡ false) × (cost ≡ 2 ^ 62))
    now = either (space.is_goal image) refl cost_is

    small : (k : ℕ) → ((k ≡ image) × (cost_in (slice_set old image cost) k ≡ cost)) ⊎ (cost_in (slice_set old image cost) k ≡ cost_in old k) → cost_in (slice_set old image cost) k ≤ 2 ^ 62
    small k (inl e) = go now where
      go : ((space.is_goal image ≡ true) × (cost ≡ 0)) ⊎ ((space.is_goal image ≡ false) × (cost ≡ 2 ^ 62)) → cost_in (slice_set old image cost) k ≤ 2 ^ 62
      go (inl n) = omega (arith, e.1, n.1)
      go (inr n) = omega (arith, e.1, n.1)
    small k (inr e) = let low : cost_in old k ≤ 2 ^ 62 = h.small k in omega (arith, e, low)

    known_at : (k : ℕ) → cost_in (slice_set old image cost) k < 2 ^ 62 → ((k ≡ image) × (cost_in (slice_set old image cost) k ≡ cost)) ⊎ (cost_in (slice_set old image cost) k ≡ cost_in old k)
        → (space.is_goal k ≡ true) × (cost_in (slice_set old image cost) k ≡ 0)
    known_at k known (inl e) = go now where
      go : ((space.is_goal image ≡ true) × (cost ≡ 0)) ⊎ ((space.is_goal image ≡ false) × (cost ≡ 2 ^ 62)) → (space.is_goal k ≡ true) × (cost_in (slice_set old image cost) k ≡ 0)
      go (inl n) = (ap space.is_goal e.0 ∙ n.0, e.1 ∙ n.1)
      go (inr n) = absurd (omega (arith, e.1, n.1, known))
    known_at k known (inr e) = let was = h.known k (omega (arith, e, known)) in (was.0, e ∙ was.1)

    at_or_below' : (k : ℕ) → k < image + 1 → (k < image) ⊎ (k ≡ image)
    at_or_below' k k_less = at_or_below k image k_less

    free : (k : ℕ) → k < image + 1 → space.is_goal k ≡ true → (k < image + 1 → (k < image) ⊎ (k ≡ image)) → cost_in (slice_set old image cost) k ≤ 0
    free k k_less goal cases = go (cases k_less) (at k) now where
      get_same : k ≡ image → cost_in (slice_set old image cost) k ≡ cost
      get_same same = ap (cost_in (slice_set old image cost)) same ∙ get_or-set_same old image cost (2 ^ 62) (let long : length old ≡ images = h.long in omega (arith, long, less))

      go : (k < image) ⊎ (k ≡ image) → ((k ≡ image) × (cost_in (slice_set old image cost) k ≡ cost)) ⊎ (cost_in (slice_set old image cost) k ≡ cost_in old k)
          → ((space.is_goal image ≡ true) × (cost ≡ 0)) ⊎ ((space.is_goal image ≡ false) × (cost ≡ 2 ^ 62)) → cost_in (slice_set old image cost) k ≤ 0
      go which (inl e) (inl n) = omega (arith, e.1, n.1)
      go which (inl e) (inr n) = let same : space.is_goal k ≡ false = ap space.is_goal e.0 ∙ n.0 in cc
      go (inl lower) (inr e) n = let none : cost_in old k ≤ 0 = h.free k lower goal in omega (arith, e, none)
      go (inr same) (inr e) (inl n) = let there = get_same same in omega (arith, there, n.1)
      go (inr same) (inr e) (inr n) = let no : space.is_goal k ≡ false = ap space.is_goal same ∙ n.0 in cc

pub begun_all : (space : Space) (images count : ℕ) (costs : List ℕ) → IsBegun space images count costs → HasStatesBelow space images → images ≤ count → IsTable space images costs
begun_all space images count costs h few le = record {
  long = h.long;
  small = h.small;
  walks = λ image known. (let at = h.known image known in subst (λ c. Reaches space image c) (sym at.1) ([], image, (refl, refl), at.0));
  free = λ image is goal. h.free image (let less : image < images = few image is in omega (arith, less, le)) goal;
}

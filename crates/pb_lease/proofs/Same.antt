-- What of a lease stays where its rows change, and how its incumbent falls.
use Rattle.std.proofs.Common.{◌≡◌, ℕ, Bool, true, false, cond, nat_eq, List, [], ◌∷◌, Option, Some, None, is_some, IsSome, refl, sym, ap, ◌∙◌, subst, arith}
use Rattle.std.specs.Map.{keys_of}
use Rattle.pb_model.specs.Store.{AtMost, lesser}
use Rattle.pb_model.proofs.Callers.{at_most_self, at_most_trans}
use Rattle.pb_lists.specs.Bundle.{Content}
use Rattle.pb_bundles.specs.Parts.{content_in}
use Rattle.pb_lease.specs.LeaseValue.{LeaseValue, IsSameLease}
use Rattle.pb_lease.specs.Rows.{ChangesRows}

-- whether a block is among these
abbrev has_key : (keys : List ℕ) → (block : ℕ) → Bool
has_key [] block = false
has_key (key ∷ keys) block = cond (nat_eq block key) true (has_key keys block)

has_by_key : (parts : List (ℕ × Content)) (block : ℕ) → is_some (content_in parts block) ≡ has_key (keys_of parts) block
has_by_key [] block = refl
has_by_key (part ∷ parts) block = go (nat_eq block part.0) (has_by_key parts block)
  where
    go : (b : Bool) → is_some (content_in parts block) ≡ has_key (keys_of parts) block
        → is_some (cond b (Some part.1) (content_in parts block)) ≡ cond b true (has_key (keys_of parts) block)
    go true h = refl
    go false h = h

-- bundles of the same blocks
pub same_places : (parts others : List (ℕ × Content)) (block : ℕ) → keys_of others ≡ keys_of parts → is_some (content_in others block) ≡ is_some (content_in parts block)
same_places parts others block same = has_by_key others block ∙ ap (λ keys. has_key keys block) same ∙ sym (has_by_key parts block)

pub still_there : (parts others : List (ℕ × Content)) (block : ℕ) → keys_of others ≡ keys_of parts → IsSome (content_in parts block) → IsSome (content_in others block)
still_there parts others block same there = same_places parts others block same ∙ there

pub changes_none : (lease : LeaseValue) → ChangesRows lease lease
changes_none lease = record { others = refl; places = refl; weights = λ has. has }

pub changes_on : (old mid new : LeaseValue) → ChangesRows old mid → ChangesRows mid new → ChangesRows old new
changes_on old mid new first second = record {
  others = second.others ∙ ap (λ (lease : LeaseValue). record lease { parts = new.parts }) first.others;
  places = second.places ∙ first.places;
  weights = λ has. second.weights (first.weights has);
}

pub same_none : (lease : LeaseValue) → IsSameLease lease lease
same_none lease = record { worker = refl; block = refl; quota = refl; weight = refl; choice = refl; places = refl; fits = refl; incumbent = at_most_self lease.incumbent }

pub same_on : (old mid new : LeaseValue) → IsSameLease old mid → IsSameLease mid new → IsSameLease old new
same_on old mid new first second = record {
  worker = second.worker ∙ first.worker;
  block = second.block ∙ first.block;
  quota = second.quota ∙ first.quota;
  weight = second.weight ∙ first.weight;
  choice = second.choice ∙ first.choice;
  places = second.places ∙ first.places;
  fits = second.fits ∙ first.fits;
  incumbent = at_most_trans new.incumbent mid.incumbent old.incumbent second.incumbent first.incumbent;
}

pub same_changed : (old new : LeaseValue) → ChangesRows old new → IsSameLease old new
same_changed old new changes = record {
  worker = ap (λ (lease : LeaseValue). lease.worker) changes.others;
  block = ap (λ (lease : LeaseValue). lease.block) changes.others;
  quota = ap (λ (lease : LeaseValue). lease.quota) changes.others;
  weight = ap (λ (lease : LeaseValue). lease.weight) changes.others;
  choice = ap (λ (lease : LeaseValue). lease.choice) changes.others;
  places = changes.places;
  fits = ap (λ (lease : LeaseValue). lease.fits) changes.others;
  incumbent = subst (λ (u : Option ℕ). AtMost u old.incumbent) (sym (ap (λ (lease : LeaseValue). lease.incumbent) changes.others)) (at_most_self old.incumbent);
}

-- ---- the incumbent

-- the lesser of both is the second where that is no greater
pub lesser_other : (u : Option ℕ) (cost : ℕ) → AtMost (Some cost) u → lesser u (Some cost) ≡ Some cost
lesser_other None cost low = refl
lesser_other (Some u) cost low = ap (λ n. Some n) (omega (arith, low))

-- what is no greater than an unknown cost
pub none_below : (u : Option ℕ) → AtMost None u → u ≡ None
none_below None low = refl
none_below (Some u) low = absurd low

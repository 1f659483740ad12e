-- Merged actions that stand for actions, action by action.
use Rattle.std.proofs.Common.{◌≡◌, ◌≢◌, ℕ, ◌+◌, ◌^◌, ◌<◌, ◌≤◌, Bool, true, false, not, ◌&&◌, ◌||◌, List, [], ◌∷◌, ◌++◌, ◌==◌, zero, suc, length, set, Contains, refl, sym, subst, ap, arith, ◌∙◌, ◌⊎◌, inl, inr}
use Rattle.std.proofs.lemmas.Bool.{cases_eq, cases_lt}
use Rattle.std.proofs.lemmas.List.{get_or_append_left, get_or_push, length_push, get_or-set_same, get_or-set_other, length-set}
use Rattle.std.proofs.lemmas.List.Elements.{Contains-append_left, Contains-append_cases, Contains-push}
use Rattle.std.proofs.lemmas.Nat.Bits.{bit_at-zero}
use Rattle.pb_task.specs.declared.parts.GroundAction.{GroundAction}
use Rattle.pb_task.specs.Strips.{has_atom}
use Rattle.pb_estimate.specs.declared.merging.MergedAction.{MergedAction}
use Rattle.pb_estimate.specs.Merged.{merged_at, IsMergedFrom, IsMergedInto, StandFor}

-- no actions stand for none
pub none_stand : (count : ℕ) → StandFor count [] []
none_stand count = record {
  sound = λ number less. absurd (omega (arith, less));
  all = λ action among. none action among;
  cheap = λ number less. absurd (omega (arith, less));
}
  where
    none : (action : GroundAction) → Contains [] action → (atom : ℕ) → atom < count → has_atom action.adds atom ≡ true → (has_atom action.needs atom ≡ true) ⊎ IsMergedInto [] action atom
    none action (k, less, e) = absurd (omega (arith, less))

-- what an action that comes from some of the actions comes from more of them
from_more : (actions : List GroundAction) (action : GroundAction) (merged : MergedAction) (atom : ℕ) → IsMergedFrom actions merged atom → IsMergedFrom (actions ++ action ∷ []) merged atom
from_more actions action merged atom from = record {
  action = from.action;
  among = Contains-append_left actions (action ∷ []) from.action from.among;
  adds = from.adds;
  needs = from.needs;
  cost = from.cost;
}

-- the action that is added, or one before
one_of : (action other : GroundAction) → Contains (action ∷ []) other → other ≡ action
one_of action other (zero, less, e) = sym e
one_of action other (suc k, less, e) = absurd (omega (arith, less))

module _ (count : ℕ) (actions : List GroundAction) (merged : List MergedAction) (stand : StandFor count actions merged) where
  -- a merged action more that adds nothing
  module _ (needs cost : ℕ) (cheap : cost ≤ 2 ^ 20) where
    at_front : (number : ℕ) → number < length merged → merged_at (merged ++ record { needs = needs; adds = 0; cost = cost } ∷ []) number ≡ merged_at merged number
    at_front number less = get_or_append_left merged (record { needs = needs; adds = 0; cost = cost } ∷ []) (record { needs = 0; adds = 0; cost = 1 }) number less

    pub empty_at : merged_at (merged ++ record { needs = needs; adds = 0; cost = cost } ∷ []) (length merged) ≡ record { needs = needs; adds = 0; cost = cost }
    empty_at = get_or_push merged (record { needs = needs; adds = 0; cost = cost }) (record { needs = 0; adds = 0; cost = 1 }) (length merged) refl

    none_in : (atom : ℕ) → has_atom 0 atom ≡ true → ⊥
    none_in atom has = let none : has_atom 0 atom ≡ false = ap (λ n. n == 1) (bit_at-zero atom) in
        let wrong : false ≡ true = sym none ∙ has in cc

    pub empty_stands : StandFor count actions (merged ++ record { needs = needs; adds = 0; cost = cost } ∷ [])
    empty_stands = record {
      sound = λ number less atom a_less has. sound number (cases_lt number (length merged)) less atom a_less has;
      all = λ action among atom less has. all action atom (stand.all action among atom less has);
      cheap = λ number less. small number (cases_lt number (length merged)) less;
    }
      where
        last : (number : ℕ) → length merged ≤ number → number < length (merged ++ record { needs = needs; adds = 0; cost = cost } ∷ []) → number ≡ length merged
        last number from less = let long : length (merged ++ record { needs = needs; adds = 0; cost = cost } ∷ []) ≡ length merged + 1 = length_push merged (record { needs = needs; adds = 0; cost = cost }) in omega arith

        at_last : (number : ℕ) → number ≡ length merged → merged_at (merged ++ record { needs = needs; adds = 0; cost = cost } ∷ []) number ≡ record { needs = needs; adds = 0; cost = cost }
        at_last number e = ap (merged_at (merged ++ record { needs = needs; adds = 0; cost = cost } ∷ [])) e ∙ empty_at

        sound : (number : ℕ) → (number < length merged) ⊎ (length merged ≤ number) → number < length (merged ++ record { needs = needs; adds = 0; cost = cost } ∷ []) → (atom : ℕ) → atom < count
            → has_atom (merged_at (merged ++ record { needs = needs; adds = 0; cost = cost } ∷ []) number).adds atom ≡ true
            → IsMergedFrom actions (merged_at (merged ++ record { needs = needs; adds = 0; cost = cost } ∷ []) number) atom
        sound number (inl front) less atom a_less has =
            subst (λ (m : MergedAction). IsMergedFrom actions m atom) (sym (at_front number front))
            (stand.sound number front atom a_less (sym (ap (λ (m : MergedAction). has_atom m.adds atom) (at_front number front)) ∙ has))
        sound number (inr from) less atom a_less has =
            absurd (none_in atom (sym (ap (λ (m : MergedAction). has_atom m.adds atom) (at_last number (last number from less))) ∙ has))

        all : (action : GroundAction) (atom : ℕ) → (has_atom action.needs atom ≡ true) ⊎ IsMergedInto merged action atom
            → (has_atom action.needs atom ≡ true) ⊎ IsMergedInto (merged ++ record { needs = needs; adds = 0; cost = cost } ∷ []) action atom
        all action atom (inl need) = inl need
        all action atom (inr into) = inr (record {
          place = into.place;
          inside = let long : length (merged ++ record { needs = needs; adds = 0; cost = cost } ∷ []) ≡ length merged + 1 = length_push merged (record { needs = needs; adds = 0; cost = cost }) in omega (arith, long, into.inside);
          adds = ap (λ (m : MergedAction). has_atom m.adds atom) (at_front into.place into.inside) ∙ into.adds;
          needs = ap (λ (m : MergedAction). m.needs) (at_front into.place into.inside) ∙ into.needs;
          cost = ap (λ (m : MergedAction). m.cost) (at_front into.place into.inside) ∙ into.cost;
        })

        small : (number : ℕ) → (number < length merged) ⊎ (length merged ≤ number) → number < length (merged ++ record { needs = needs; adds = 0; cost = cost } ∷ [])
            → (merged_at (merged ++ record { needs = needs; adds = 0; cost = cost } ∷ []) number).cost ≤ 2 ^ 20
        small number (inl front) less = subst (λ (m : MergedAction). m.cost ≤ 2 ^ 20) (sym (at_front number front)) (stand.cheap number front)
        small number (inr from) less = subst (λ (m : MergedAction). m.cost ≤ 2 ^ 20) (sym (at_last number (last number from less))) cheap

  -- an action more that adds only what it needs
  pub past_stands : (action : GroundAction) → ((atom : ℕ) → atom < count → has_atom action.adds atom ≡ true → has_atom action.needs atom ≡ true) → StandFor count (actions ++ action ∷ []) merged
  past_stands action within = record {
    sound = λ number less atom a_less has. from_more actions action (merged_at merged number) atom (stand.sound number less atom a_less has);
    all = λ other among atom less has. all other (Contains-append_cases actions (action ∷ []) other among) atom less has;
    cheap = stand.cheap;
  }
    where
      all : (other : GroundAction) → Contains actions other ⊎ Contains (action ∷ []) other → (atom : ℕ) → atom < count → has_atom other.adds atom ≡ true
          → (has_atom other.needs atom ≡ true) ⊎ IsMergedInto merged other atom
      all other (inl before) atom less has = stand.all other before atom less has
      all other (inr now) atom less has =
          inl (subst (λ (a : GroundAction). has_atom a.needs atom ≡ true) (sym (one_of action other now))
          (within atom less (subst (λ (a : GroundAction). has_atom a.adds atom ≡ true) (one_of action other now) has)))

  -- an action more that is merged into the one at a place
  module _ (action : GroundAction) (place adds : ℕ) (inside : place < length merged) (needs : (merged_at merged place).needs ≡ action.needs) (cost : (merged_at merged place).cost ≡ action.cost)
      (joined : (atom : ℕ) → atom < count → has_atom adds atom ≡ (has_atom (merged_at merged place).adds atom || (has_atom action.adds atom && not (has_atom action.needs atom)))) where
    abbrev after : List MergedAction
    after = set merged place (record { needs = (merged_at merged place).needs; adds = adds; cost = (merged_at merged place).cost })

    here : merged_at after place ≡ record { needs = (merged_at merged place).needs; adds = adds; cost = (merged_at merged place).cost }
    here = get_or-set_same merged place (record { needs = (merged_at merged place).needs; adds = adds; cost = (merged_at merged place).cost }) (record { needs = 0; adds = 0; cost = 1 }) inside

    there : (number : ℕ) → number ≢ place → merged_at after number ≡ merged_at merged number
    there number apart = get_or-set_other merged place number (record { needs = (merged_at merged place).needs; adds = adds; cost = (merged_at merged place).cost }) (record { needs = 0; adds = 0; cost = 1 }) apart

    long : length after ≡ length merged
    long = length-set merged place (record { needs = (merged_at merged place).needs; adds = adds; cost = (merged_at merged place).cost })

    same_needs : (number : ℕ) → (merged_at after number).needs ≡ (merged_at merged number).needs
    same_needs number = go (cases_eq number place) where
      go : (number ≡ place) ⊎ (number ≢ place) → (merged_at after number).needs ≡ (merged_at merged number).needs
      go (inl e) = ap (λ k. (merged_at after k).needs) e ∙ ap (λ (m : MergedAction). m.needs) here ∙ sym (ap (λ k. (merged_at merged k).needs) e)
      go (inr apart) = ap (λ (m : MergedAction). m.needs) (there number apart)

    same_cost : (number : ℕ) → (merged_at after number).cost ≡ (merged_at merged number).cost
    same_cost number = go (cases_eq number place) where
      go : (number ≡ place) ⊎ (number ≢ place) → (merged_at after number).cost ≡ (merged_at merged number).cost
      go (inl e) = ap (λ k. (merged_at after k).cost) e ∙ ap (λ (m : MergedAction). m.cost) here ∙ sym (ap (λ k. (merged_at merged k).cost) e)
      go (inr apart) = ap (λ (m : MergedAction). m.cost) (there number apart)

    either : (was new : Bool) → (was || new) ≡ true → (was ≡ true) ⊎ (new ≡ true)
    either true new e = inl refl
    either false new e = inr e

    both : (one other : Bool) → (one && not other) ≡ true → one ≡ true
    both true other e = refl
    both false other e = e

    still : (was new : Bool) → was ≡ true → (was || new) ≡ true
    still true new e = refl
    still false new e = cc

    added : (was one other : Bool) → one ≡ true → other ≡ false → (was || (one && not other)) ≡ true
    added true one other e f = refl
    added false true false e f = refl
    added false true true e f = cc
    added false false other e f = cc

    -- an action of this kind is merged into it
    kept : (number : ℕ) → number < length merged → (atom : ℕ) → atom < count → has_atom (merged_at merged number).adds atom ≡ true → has_atom (merged_at after number).adds atom ≡ true
    kept number less atom a_less has = go (cases_eq number place) where
      go : (number ≡ place) ⊎ (number ≢ place) → has_atom (merged_at after number).adds atom ≡ true
      go (inl e) =
          ap (λ k. has_atom (merged_at after k).adds atom) e ∙ ap (λ (m : MergedAction). has_atom m.adds atom) here ∙ joined atom a_less
          ∙ still (has_atom (merged_at merged place).adds atom) (has_atom action.adds atom && not (has_atom action.needs atom)) (sym (ap (λ k. has_atom (merged_at merged k).adds atom) e) ∙ has)
      go (inr apart) = ap (λ (m : MergedAction). has_atom m.adds atom) (there number apart) ∙ has

    pub merged_stands : StandFor count (actions ++ action ∷ []) after
    merged_stands = record {
      sound = λ number less atom a_less has. sound number (omega (arith, less, long)) (cases_eq number place) atom a_less has;
      all = λ other among atom less has. all other (Contains-append_cases actions (action ∷ []) other among) atom less has;
      cheap = λ number less. let small : (merged_at merged number).cost ≤ 2 ^ 20 = stand.cheap number (omega (arith, less, long)) in subst (λ n. n ≤ 2 ^ 20) (sym (same_cost number)) small;
    }
      where
        old : (number : ℕ) → number < length merged → (atom : ℕ) → atom < count → has_atom (merged_at merged number).adds atom ≡ true → IsMergedFrom (actions ++ action ∷ []) (merged_at after number) atom
        old number less atom a_less has =
            let from = stand.sound number less atom a_less has in
            record {
              action = from.action;
              among = Contains-append_left actions (action ∷ []) from.action from.among;
              adds = from.adds;
              needs = from.needs ∙ sym (same_needs number);
              cost = from.cost ∙ sym (same_cost number);
            }

        now : (number : ℕ) → number ≡ place → (atom : ℕ) → has_atom action.adds atom ≡ true → IsMergedFrom (actions ++ action ∷ []) (merged_at after number) atom
        now number e atom adds_it = record {
          action = action;
          among = Contains-push actions action;
          adds = adds_it;
          needs = sym needs ∙ sym (ap (λ k. (merged_at merged k).needs) e) ∙ sym (same_needs number);
          cost = sym cost ∙ sym (ap (λ k. (merged_at merged k).cost) e) ∙ sym (same_cost number);
        }

        sound : (number : ℕ) → number < length merged → (number ≡ place) ⊎ (number ≢ place) → (atom : ℕ) → atom < count → has_atom (merged_at after number).adds atom ≡ true
            → IsMergedFrom (actions ++ action ∷ []) (merged_at after number) atom
        sound number less (inr apart) atom a_less has = old number less atom a_less (sym (ap (λ (m : MergedAction). has_atom m.adds atom) (there number apart)) ∙ has)
        sound number less (inl e) atom a_less has =
            go (either (has_atom (merged_at merged place).adds atom) (has_atom action.adds atom && not (has_atom action.needs atom))
            (sym (joined atom a_less) ∙ sym (ap (λ (m : MergedAction). has_atom m.adds atom) here) ∙ sym (ap (λ k. has_atom (merged_at after k).adds atom) e) ∙ has))
          where
            go : (has_atom (merged_at merged place).adds atom ≡ true) ⊎ ((has_atom action.adds atom && not (has_atom action.needs atom)) ≡ true) → IsMergedFrom (actions ++ action ∷ []) (merged_at after number) atom
            go (inl was) = old number less atom a_less (ap (λ k. has_atom (merged_at merged k).adds atom) e ∙ was)
            go (inr new) = now number e atom (both (has_atom action.adds atom) (has_atom action.needs atom) new)

        all : (other : GroundAction) → Contains actions other ⊎ Contains (action ∷ []) other → (atom : ℕ) → atom < count → has_atom other.adds atom ≡ true
            → (has_atom other.needs atom ≡ true) ⊎ IsMergedInto after other atom
        all other (inl before) atom less has = go (stand.all other before atom less has) where
          go : (has_atom other.needs atom ≡ true) ⊎ IsMergedInto merged other atom → (has_atom other.needs atom ≡ true) ⊎ IsMergedInto after other atom
          go (inl need) = inl need
          go (inr into) = inr (record {
            place = into.place;
            inside = omega (arith, into.inside, long);
            adds = kept into.place into.inside atom less into.adds;
            needs = same_needs into.place ∙ into.needs;
            cost = same_cost into.place ∙ into.cost;
          })
        all other (inr last) atom less has = go (has_atom action.needs atom) refl where
          same : other ≡ action
          same = one_of action other last

          go : (test : Bool) → has_atom action.needs atom ≡ test → (has_atom other.needs atom ≡ true) ⊎ IsMergedInto after other atom
          go true need = inl (subst (λ (a : GroundAction). has_atom a.needs atom ≡ true) (sym same) need)
          go false off = inr (record {
            place = place;
            inside = omega (arith, inside, long);
            adds = ap (λ (m : MergedAction). has_atom m.adds atom) here ∙ joined atom less
                ∙ added (has_atom (merged_at merged place).adds atom) (has_atom action.adds atom) (has_atom action.needs atom) (subst (λ (a : GroundAction). has_atom a.adds atom ≡ true) same has) off;
            needs = same_needs place ∙ needs ∙ sym (ap (λ (a : GroundAction). a.needs) same);
            cost = same_cost place ∙ cost ∙ sym (ap (λ (a : GroundAction). a.cost) same);
          })

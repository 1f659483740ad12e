-- Lists of actions by the atoms that they need: an action that isn't looked at isn't applicable.
use Rattle.std.proofs.Common.{◌≡◌, ◌≢◌, ℕ, ◌+◌, ◌<◌, ◌≤◌, Bool, true, false, Option, None, Some, List, [], ◌∷◌, ◌++◌, length, get_or, set, replicate, All, Contains, refl, sym, subst, ap, arith, ◌∙◌, ◌⊎◌, inl, inr}
use Rattle.std.proofs.lemmas.Bool.{cases_eq, cases_lt}
use Rattle.std.proofs.lemmas.List.{get_or-set_same, get_or-set_other, length-set, length-replicate}
use Rattle.std.proofs.lemmas.List.Elements.{All-nil, All-push, All-contains, Contains-append_left, Contains-push}
use Rattle.std.proofs.lemmas.Option.{get_or_from_slice_get}
use Rattle.pb_task.specs.declared.parts.StripsParts.{StripsParts}
use Rattle.pb_task.specs.declared.parts.GroundAction.{GroundAction}
use Rattle.pb_task.specs.Strips.{has_atom, action_at, strips_step, Acts}
use Rattle.pb_task.proofs.Callers.{strips_act}
use Rattle.pb_task.specs.Marks.{is_marked}
use Rattle.pb_estimate.specs.Indexed.{IsListed, AreListed}
use Rattle.pb_estimate.proofs.Relaxing.{none_at}

-- ---- lists

pub none_listed : (strips : StripsParts) → AreListed strips 0 (replicate (strips.atoms + 1) [])
none_listed strips = record {
  many = length-replicate (strips.atoms + 1) [];
  inside = λ atom. subst (All (λ action. action < length strips.actions)) (sym (none_at (strips.atoms + 1) atom)) (All-nil (λ action. action < length strips.actions));
  listed = λ action less. absurd (omega (arith, less));
}

module _ (strips : StripsParts) (action atom : ℕ) (old : List (List ℕ)) (are : AreListed strips action old) (less : action < length strips.actions) (most : atom ≤ strips.atoms)
    (needed : atom < strips.atoms → has_atom (action_at strips.actions action).needs atom ≡ true) where
  -- the lists with one action more
  abbrev longer : List ℕ
  longer = get_or old atom [] ++ action ∷ []

  abbrev more : List (List ℕ)
  more = set old atom longer

  here : get_or more atom [] ≡ longer
  here = let there : atom < length old = omega (arith, are.many) in get_or-set_same old atom longer [] there

  elsewhere : (other : ℕ) → other ≢ atom → get_or more other [] ≡ get_or old other []
  elsewhere other apart = get_or-set_other old atom other longer [] apart

  inside : (other : ℕ) → All (λ a. a < length strips.actions) (get_or more other [])
  inside other = go (cases_eq other atom) where
    go : (other ≡ atom) ⊎ (other ≢ atom) → All (λ a. a < length strips.actions) (get_or more other [])
    go (inl e) =
        subst (All (λ a. a < length strips.actions)) (sym (ap (λ k. get_or more k []) e ∙ here))
        (All-push (λ a. a < length strips.actions) (get_or old atom []) action (are.inside atom) less)
    go (inr apart) = subst (All (λ a. a < length strips.actions)) (sym (elsewhere other apart)) (are.inside other)

  kept : (other : ℕ) → IsListed strips old other → IsListed strips more other
  kept other is = record {
    atom = is.atom;
    most = is.most;
    needed = is.needed;
    among = go (cases_eq is.atom atom);
  }
    where
      go : (is.atom ≡ atom) ⊎ (is.atom ≢ atom) → Contains (get_or more is.atom []) other
      go (inl e) =
          subst (λ xs. Contains xs other) (sym (ap (λ k. get_or more k []) e ∙ here))
          (Contains-append_left (get_or old atom []) (action ∷ []) other (subst (λ k. Contains (get_or old k []) other) e is.among))
      go (inr apart) = subst (λ xs. Contains xs other) (sym (elsewhere is.atom apart)) is.among

  last : IsListed strips more action
  last = record {
    atom = atom;
    most = most;
    needed = needed;
    among = subst (λ xs. Contains xs action) (sym here) (Contains-push (get_or old atom []) action);
  }

  pub listed_more : AreListed strips (action + 1) more
  listed_more = record {
    many = length-set old atom longer ∙ are.many;
    inside = inside;
    listed = λ other below. all other below (cases_eq other action);
  }
    where
      all : (other : ℕ) → other < action + 1 → (other ≡ action) ⊎ (other ≢ action) → IsListed strips more other
      all other below (inl e) = subst (IsListed strips more) (sym e) last
      all other below (inr apart) = kept other (are.listed other (omega (arith, below, apart)))

-- ---- what isn't looked at

module _ (strips : StripsParts) (lists : List (List ℕ)) (are : AreListed strips (length strips.actions) lists) (state : ℕ) (marks : List ℕ)
    (marked : (atom : ℕ) → atom ≤ strips.atoms → (atom < strips.atoms → has_atom state atom ≡ true) → All (λ action. is_marked marks action ≡ true) (get_or lists atom [])) where
  -- an action that isn't marked needs an atom that the state doesn't have
  lacks : (action : ℕ) → is_marked marks action ≡ false → (is : IsListed strips lists action) → (is.atom < strips.atoms) × (has_atom state is.atom ≡ false)
  lacks action not_marked is = go (cases_lt is.atom strips.atoms) (has_atom state is.atom) refl where
    wrong : (is.atom < strips.atoms → has_atom state is.atom ≡ true) → ⊥
    wrong has =
        let yes : is_marked marks action ≡ true = All-contains (λ a. is_marked marks a ≡ true) (get_or lists is.atom []) action (marked is.atom is.most has) is.among in
        let no : false ≡ true = sym not_marked ∙ yes in
        let end : ⊥ = cc in end

    go : (is.atom < strips.atoms) ⊎ (strips.atoms ≤ is.atom) → (test : Bool) → has_atom state is.atom ≡ test → (is.atom < strips.atoms) × (has_atom state is.atom ≡ false)
    go (inl less) false e = (less, e)
    go (inl less) true e = absurd (wrong (λ _. e))
    go (inr above) test e = absurd (wrong (λ less. absurd (omega (arith, less, above))))

  pub not_applicable : (action : ℕ) → action < length strips.actions → is_marked marks action ≡ false → strips_step strips state action ≡ None
  not_applicable action less not_marked = go (strips_step strips state action) refl where
    is : IsListed strips lists action
    is = are.listed action less

    missing : (is.atom < strips.atoms) × (has_atom state is.atom ≡ false)
    missing = lacks action not_marked is

    go : (step : Option (ℕ × ℕ)) → strips_step strips state action ≡ step → strips_step strips state action ≡ None
    go None e = e
    go (Some step) e =
        let acts : Acts strips state action step.0 step.1 = (strips_act strips state action step.0 step.1).0 e in
        let same : action_at strips.actions action ≡ acts.act =
        get_or_from_slice_get strips.actions action acts.act (record { name = []; needs = 0; adds = 0; deletes = 0; cost = 1 }) acts.is in
        let needs : has_atom acts.act.needs is.atom ≡ true = ap (λ (a : GroundAction). has_atom a.needs is.atom) (sym same) ∙ is.needed missing.0 in
        let has : has_atom state is.atom ≡ true = acts.needed is.atom missing.0 needs in
        let wrong : false ≡ true = sym missing.1 ∙ has in
        absurd (let end : ⊥ = cc in end)

-- The delete relaxation of a task, action by action.
use Rattle.std.proofs.Common.{◌≡◌, ◌≢◌, ℕ, zero, suc, ◌+◌, ◌<◌, ◌≤◌, ◌==◌, Bool, true, false, List, [], ◌∷◌, ◌++◌, length, get_or, set, take, replicate, All, Contains, Vec, Global, if◌then◌else◌, refl, sym, subst, ap, arith, ◌∙◌, ◌⊎◌, inl, inr}
use Rattle.std.proofs.lemmas.Bool.Decides.{nat_tests}
use Rattle.std.proofs.lemmas.Bool.{cases_eq}
use Rattle.std.proofs.lemmas.List.{get_or_append_left, get_or_push, length_push, get_or-set_same, get_or-set_other, length-map, map-append, append-nil}
use Rattle.std.proofs.lemmas.List.Elements.{All-push, All-more, All-weaker, All-contains, All-nil, Contains-append_left, Contains-push}
use Rattle.pb_task.specs.Strips.{has_atom}
use Rattle.pb_estimate.specs.declared.merging.MergedAction.{MergedAction}
use Rattle.pb_estimate.specs.declared.relaxed.RelaxedTask.{RelaxedTask}
use Rattle.pb_estimate.specs.Exploring.{count}
use Rattle.pb_estimate.specs.Merged.{merged_at}
use Rattle.pb_estimate.specs.Tables.{atoms_in, relaxed_action, AreUsers, AreFree, AreRelaxed, IsWanted}
use Rattle.pb_estimate.proofs.Rounds.{count_is_small}
use Rattle.pb_estimate.proofs.Counts.{counted_at, count_none}
use Rattle.pb_estimate.proofs.Released.{Ascend, all_still, not_before, in_front, in_next}
use Rattle.pb_estimate.proofs.Sets.{all_in, contains_in, is_in, many_in}

-- ---- ascending lists

pub ascend_push : (xs : List ℕ) (x : ℕ) → Ascend xs → All (λ y. y < x) xs → Ascend (xs ++ x ∷ [])
ascend_push xs x ascend small j k less within = go (cases_eq k (length xs)) where
  long : length (xs ++ x ∷ []) ≡ length xs + 1
  long = length_push xs x

  go : (k ≡ length xs) ⊎ (k ≢ length xs) → get_or (xs ++ x ∷ []) j 0 < get_or (xs ++ x ∷ []) k 0
  go (inl e) =
      let j_less : j < length xs = omega arith in
      let last : get_or (xs ++ x ∷ []) k 0 ≡ x = ap (λ n. get_or (xs ++ x ∷ []) n 0) e ∙ get_or_push xs x 0 (length xs) refl in
      let front : get_or (xs ++ x ∷ []) j 0 ≡ get_or xs j 0 = get_or_append_left xs (x ∷ []) 0 j j_less in
      let lower : get_or xs j 0 < x = small j 0 j_less in
      omega (arith, last, front, lower)
  go (inr apart) =
      let k_less : k < length xs = omega (arith, long, within, apart) in
      let front : get_or (xs ++ x ∷ []) j 0 ≡ get_or xs j 0 = get_or_append_left xs (x ∷ []) 0 j (omega arith) in
      let back : get_or (xs ++ x ∷ []) k 0 ≡ get_or xs k 0 = get_or_append_left xs (x ∷ []) 0 k k_less in
      let lower : get_or xs j 0 < get_or xs k 0 = ascend j k less k_less in
      omega (arith, front, back, lower)

ascend_none : Ascend []
ascend_none j k less within = absurd (omega (arith, within))

pub atoms_ascend : (set below : ℕ) → Ascend (atoms_in set below)
atoms_ascend set zero = ascend_none
atoms_ascend set (suc last) = go (has_atom set last) (atoms_ascend set last) where
  go : (test : Bool) → Ascend (atoms_in set last) → Ascend (atoms_in set last ++ (if test then last ∷ [] else []))
  go true rest = ascend_push (atoms_in set last) last rest (all_in (λ a. a < last) set last (λ a less has. less))
  go false rest = subst Ascend (sym (append-nil (atoms_in set last))) rest

pub few_atoms : (set below : ℕ) → length (atoms_in set below) ≤ below
few_atoms set below = let e : length (atoms_in set below) ≡ count (has_atom set) below = many_in set below in
    let small : count (has_atom set) below ≤ below = count_is_small (has_atom set) below in
    omega arith

-- ---- an action more

module _ (kept : List MergedAction) (action : MergedAction) where
  at_front : (user : ℕ) → user < length kept → merged_at (kept ++ action ∷ []) user ≡ merged_at kept user
  at_front user less = get_or_append_left kept (action ∷ []) (record { needs = 0; adds = 0; cost = 1 }) user less

  at_last : merged_at (kept ++ action ∷ []) (length kept) ≡ action
  at_last = get_or_push kept action (record { needs = 0; adds = 0; cost = 1 }) (length kept) refl

  place : (user : ℕ) → user < length (kept ++ action ∷ []) → (user < length kept) ⊎ (user ≡ length kept)
  place user less = let long : length (kept ++ action ∷ []) ≡ length kept + 1 = length_push kept action in go (cases_eq user (length kept)) long less where
    go : (user ≡ length kept) ⊎ (user ≢ length kept) → length (kept ++ action ∷ []) ≡ length kept + 1 → user < length (kept ++ action ∷ []) → (user < length kept) ⊎ (user ≡ length kept)
    go (inl e) long within = inr e
    go (inr apart) long within = inl (omega arith)

  within_more : (user : ℕ) → user < length kept → user < length (kept ++ action ∷ [])
  within_more user less = let long : length (kept ++ action ∷ []) ≡ length kept + 1 = length_push kept action in omega arith

  last_within : length kept < length (kept ++ action ∷ [])
  last_within = let long : length (kept ++ action ∷ []) ≡ length kept + 1 = length_push kept action in omega arith

  module _ (atom : ℕ) (users : List ℕ) (are : AreUsers kept atom users) where
    need_still : (user : ℕ) → (user < length kept) × (has_atom (merged_at kept user).needs atom ≡ true)
        → (user < length (kept ++ action ∷ [])) × (has_atom (merged_at (kept ++ action ∷ []) user).needs atom ≡ true)
    need_still user (less, has) = (within_more user less, ap (λ (a : MergedAction). has_atom a.needs atom) (at_front user less) ∙ has)

    pub users_push : has_atom action.needs atom ≡ true → AreUsers (kept ++ action ∷ []) atom (users ++ length kept ∷ [])
    users_push has = record {
      need = All-push (λ user. (user < length (kept ++ action ∷ [])) × (has_atom (merged_at (kept ++ action ∷ []) user).needs atom ≡ true)) users (length kept)
          (All-weaker (λ user. (user < length kept) × (has_atom (merged_at kept user).needs atom ≡ true))
          (λ user. (user < length (kept ++ action ∷ [])) × (has_atom (merged_at (kept ++ action ∷ []) user).needs atom ≡ true)) need_still users are.need)
          (last_within, ap (λ (a : MergedAction). has_atom a.needs atom) at_last ∙ has);
      all = λ user less needs. all user (place user less) needs;
      ascend = ascend_push users (length kept) are.ascend
          (All-weaker (λ user. (user < length kept) × (has_atom (merged_at kept user).needs atom ≡ true)) (λ user. user < length kept) (λ user both. both.0) users are.need);
    }
      where
        all : (user : ℕ) → (user < length kept) ⊎ (user ≡ length kept) → has_atom (merged_at (kept ++ action ∷ []) user).needs atom ≡ true → Contains (users ++ length kept ∷ []) user
        all user (inl less) needs =
            Contains-append_left users (length kept ∷ []) user (are.all user less (sym (ap (λ (a : MergedAction). has_atom a.needs atom) (at_front user less)) ∙ needs))
        all user (inr e) needs = subst (λ n. Contains (users ++ length kept ∷ []) n) (sym e) (Contains-push users (length kept))

    pub users_stay : has_atom action.needs atom ≡ false → AreUsers (kept ++ action ∷ []) atom users
    users_stay hasn't = record {
      need = All-weaker (λ user. (user < length kept) × (has_atom (merged_at kept user).needs atom ≡ true))
          (λ user. (user < length (kept ++ action ∷ [])) × (has_atom (merged_at (kept ++ action ∷ []) user).needs atom ≡ true)) need_still users are.need;
      all = λ user less needs. all user (place user less) needs;
      ascend = are.ascend;
    }
      where
        all : (user : ℕ) → (user < length kept) ⊎ (user ≡ length kept) → has_atom (merged_at (kept ++ action ∷ []) user).needs atom ≡ true → Contains users user
        all user (inl less) needs = are.all user less (sym (ap (λ (a : MergedAction). has_atom a.needs atom) (at_front user less)) ∙ needs)
        all user (inr e) needs =
            absurd
            (let wrong : false ≡ true = sym hasn't ∙ sym (ap (λ (a : MergedAction). has_atom a.needs atom) (ap (merged_at (kept ++ action ∷ [])) e ∙ at_last)) ∙ needs in
            let no : ⊥ = cc in no)

  module _ (below : ℕ) (free : List ℕ) (are : AreFree below kept free) where
    -- needing none of the atoms
    abbrev pub NeedsNone : List MergedAction → (user : ℕ) → Type 0
    NeedsNone actions user = (atom : ℕ) → atom < below → has_atom (merged_at actions user).needs atom ≡ false

    none_still : (user : ℕ) → user < length kept → NeedsNone kept user → NeedsNone (kept ++ action ∷ []) user
    none_still user less none atom a_less = ap (λ (a : MergedAction). has_atom a.needs atom) (at_front user less) ∙ none atom a_less

    needs_still : All (NeedsNone (kept ++ action ∷ [])) free
    needs_still k d less = none_still (get_or free k d) (are.inside k d less) (are.need k d less)

    inside_still : All (λ user. user < length (kept ++ action ∷ [])) free
    inside_still = All-weaker (λ user. user < length kept) (λ user. user < length (kept ++ action ∷ [])) within_more free are.inside

    before : (user : ℕ) → user < length kept → NeedsNone (kept ++ action ∷ []) user → NeedsNone kept user
    before user less none atom a_less = sym (ap (λ (a : MergedAction). has_atom a.needs atom) (at_front user less)) ∙ none atom a_less

    off : (set atom : ℕ) → length (atoms_in set below) ≡ 0 → atom < below → has_atom set atom ≡ false
    off set atom e less = go (has_atom set atom) refl where
      go : (test : Bool) → has_atom set atom ≡ test → has_atom set atom ≡ false
      go false is = is
      go true is =
          let some : 1 ≤ count (has_atom set) below = counted_at (has_atom set) below atom less is in
          let many : length (atoms_in set below) ≡ count (has_atom set) below = many_in set below in
          absurd (omega arith)

    pub free_push : length (atoms_in action.needs below) ≡ 0 → AreFree below (kept ++ action ∷ []) (free ++ length kept ∷ [])
    free_push none = record {
      inside = All-push (λ user. user < length (kept ++ action ∷ [])) free (length kept) inside_still last_within;
      need = All-push (NeedsNone (kept ++ action ∷ [])) free (length kept) needs_still
          (λ atom less. ap (λ (a : MergedAction). has_atom a.needs atom) at_last ∙ off action.needs atom none less);
      all = λ user less needs. all user (place user less) needs;
    }
      where
        all : (user : ℕ) → (user < length kept) ⊎ (user ≡ length kept) → NeedsNone (kept ++ action ∷ []) user → Contains (free ++ length kept ∷ []) user
        all user (inl less) needs = Contains-append_left free (length kept ∷ []) user (are.all user less (before user less needs))
        all user (inr e) needs = subst (λ n. Contains (free ++ length kept ∷ []) n) (sym e) (Contains-push free (length kept))

    pub free_stay : (length (atoms_in action.needs below) ≡ 0 → ⊥) → AreFree below (kept ++ action ∷ []) free
    free_stay some = record {
      inside = inside_still;
      need = needs_still;
      all = λ user less needs. all user (place user less) needs;
    }
      where
        all : (user : ℕ) → (user < length kept) ⊎ (user ≡ length kept) → NeedsNone (kept ++ action ∷ []) user → Contains free user
        all user (inl less) needs = are.all user less (before user less needs)
        all user (inr e) needs =
            absurd
            (some
            (many_in action.needs below
            ∙ count_none (has_atom action.needs) below (λ atom less.
            sym (ap (λ (a : MergedAction). has_atom a.needs atom) (ap (merged_at (kept ++ action ∷ [])) e ∙ at_last)) ∙ needs atom less)))

-- ---- a task

module _ (below : ℕ) (merged : List MergedAction) (action : MergedAction) (users users' : List (List ℕ)) (old new : RelaxedTask) (are : AreRelaxed below merged users old)
    (pushed_actions : new.actions ≡ old.actions ++ relaxed_action below action ∷ [])
    (pushed_needs : new.needs.items ≡ old.needs.items ++ length (atoms_in action.needs below) ∷ [])
    (same_many : length users' ≡ length users)
    (pushed : All (λ atom. get_or users' atom [] ≡ get_or users atom [] ++ length old.needs.items ∷ []) (atoms_in action.needs below))
    (others : (atom : ℕ) → (Contains (atoms_in action.needs below) atom → ⊥) → get_or users' atom [] ≡ get_or users atom [])
    (pushed_free : new.free ≡ (if length (atoms_in action.needs below) == 0 then old.free ++ length old.needs.items ∷ [] else old.free)) where
  number : length old.needs.items ≡ length merged
  number = ap length are.needs ∙ length-map merged (λ (a : MergedAction). length (atoms_in a.needs below))

  users_now : (atom : ℕ) → atom < below → AreUsers (merged ++ action ∷ []) atom (get_or users' atom [])
  users_now atom less = go (has_atom action.needs atom) refl where
    go : (test : Bool) → has_atom action.needs atom ≡ test → AreUsers (merged ++ action ∷ []) atom (get_or users' atom [])
    go true has =
        subst (AreUsers (merged ++ action ∷ []) atom)
        (sym
        (All-contains (λ a. get_or users' a [] ≡ get_or users a [] ++ length old.needs.items ∷ []) (atoms_in action.needs below) atom pushed (contains_in action.needs below atom less has)
        ∙ ap (λ n. get_or users atom [] ++ n ∷ []) number))
        (users_push merged action atom (get_or users atom []) (are.users atom less) has)
    go false hasn't =
        subst (AreUsers (merged ++ action ∷ []) atom)
        (sym (others atom (λ among. let wrong : false ≡ true = sym hasn't ∙ (is_in action.needs below atom among).1 in cc)))
        (users_stay merged action atom (get_or users atom []) (are.users atom less) hasn't)

  not_zero : (n : ℕ) → (suc n == 0) ≡ false
  not_zero n = grind (arith, nat_tests)

  free_now : AreFree below (merged ++ action ∷ []) new.free
  free_now = go (length (atoms_in action.needs below)) refl pushed_free where
    go : (n : ℕ) → length (atoms_in action.needs below) ≡ n → new.free ≡ (if length (atoms_in action.needs below) == 0 then old.free ++ length old.needs.items ∷ [] else old.free)
        → AreFree below (merged ++ action ∷ []) new.free
    go zero e is =
        subst (AreFree below (merged ++ action ∷ []))
        (sym (is ∙ ap (λ n. if n == 0 then old.free ++ length old.needs.items ∷ [] else old.free) e ∙ ap (λ n. old.free ++ n ∷ []) number))
        (free_push merged action below old.free are.free e)
    go (suc n) e is =
        subst (AreFree below (merged ++ action ∷ []))
        (sym (is ∙ ap (λ m. if m == 0 then old.free ++ length old.needs.items ∷ [] else old.free) e ∙ ap (λ test. if test then old.free ++ length old.needs.items ∷ [] else old.free) (not_zero n)))
        (free_stay merged action below old.free are.free (λ none. absurd (omega (arith, e, none))))

  pub relaxed_more : AreRelaxed below (merged ++ action ∷ []) users' new
  relaxed_more = record {
    relaxed = pushed_actions ∙ ap (λ xs. xs ++ relaxed_action below action ∷ []) are.relaxed ∙ sym (map-append (relaxed_action below) merged (action ∷ []));
    needs = pushed_needs ∙ ap (λ xs. xs ++ length (atoms_in action.needs below) ∷ []) are.needs
        ∙ sym (map-append (λ (a : MergedAction). length (atoms_in a.needs below)) merged (action ∷ []));
    many = same_many ∙ are.many;
    users = λ atom less. users_now atom less;
    free = free_now;
  }

-- no actions
pub none_use : (atom : ℕ) → AreUsers [] atom []
none_use atom = record {
  need = All-nil (λ user. (user < 0) × (has_atom (merged_at [] user).needs atom ≡ true));
  all = λ user less has. absurd (omega (arith, less));
  ascend = ascend_none;
}

pub none_free : (below : ℕ) → AreFree below [] []
none_free below = record {
  inside = All-nil (λ user. user < 0);
  need = All-nil (λ user. (atom : ℕ) → atom < below → has_atom (merged_at [] user).needs atom ≡ false);
  all = λ user less none. absurd (omega (arith, less));
}

pub none_at : (n k : ℕ) → let none : List ℕ = [] in get_or (replicate n none) k none ≡ none
none_at zero k = refl
none_at (suc n) zero = refl
none_at (suc n) (suc k) = none_at n k

-- ---- lists of which some get an action more

module _ (atoms : List ℕ) (i : ℕ) (less : i < length atoms) (ascend : Ascend atoms) (action : ℕ) (old before after : List (List ℕ)) (inside : get_or atoms i 0 < length before)
    (is : after ≡ set before (get_or atoms i 0) (get_or before (get_or atoms i 0) [] ++ action ∷ [])) where
  there : (atom : ℕ) → atom ≢ get_or atoms i 0 → get_or after atom [] ≡ get_or before atom []
  there atom apart =
      ap (λ xs. get_or xs atom []) is ∙ get_or-set_other before (get_or atoms i 0) atom (get_or before (get_or atoms i 0) [] ++ action ∷ []) [] apart

  pub pushed_more : All (λ atom. get_or before atom [] ≡ get_or old atom [] ++ action ∷ []) (take i atoms) → ((atom : ℕ) → (Contains (take i atoms) atom → ⊥) → get_or before atom [] ≡ get_or old atom [])
      → All (λ atom. get_or after atom [] ≡ get_or old atom [] ++ action ∷ []) (take (i + 1) atoms)
  pushed_more pushed others =
      All-more (λ atom. get_or after atom [] ≡ get_or old atom [] ++ action ∷ []) atoms i 0 less
      (all_still atoms i less ascend (λ atom. get_or before atom [] ≡ get_or old atom [] ++ action ∷ []) (λ atom. get_or after atom [] ≡ get_or old atom [] ++ action ∷ [])
      (λ atom apart e. there atom apart ∙ e) pushed)
      (ap (λ xs. get_or xs (get_or atoms i 0) []) is ∙ get_or-set_same before (get_or atoms i 0) (get_or before (get_or atoms i 0) [] ++ action ∷ []) [] inside
      ∙ ap (λ xs. xs ++ action ∷ []) (others (get_or atoms i 0) (not_before atoms i less ascend)))

  pub others_past : ((atom : ℕ) → (Contains (take i atoms) atom → ⊥) → get_or before atom [] ≡ get_or old atom [])
      → (atom : ℕ) → (Contains (take (i + 1) atoms) atom → ⊥) → get_or after atom [] ≡ get_or old atom []
  others_past others atom off =
      there atom (λ e. off (subst (λ n. Contains (take (i + 1) atoms) n) (sym e) (in_next atoms i less)))
      ∙ others atom (λ among. off (in_front atoms i less atom among))

-- a task whose goal is as before
pub wanted_still : (goal atoms : ℕ) (old new : RelaxedTask) → new.goal ≡ old.goal → new.wanted ≡ old.wanted → IsWanted goal atoms old → IsWanted goal atoms new
wanted_still goal atoms old new same many is = record {
  long = ap (λ (flags : Vec Bool Global). length flags.items) same ∙ is.long;
  flags = λ atom less. ap (λ (flags : Vec Bool Global). get_or flags.items atom false) same ∙ is.flags atom less;
  wanted = many ∙ is.wanted;
}

-- How an action is counted at each atom that it changes.
use Rattle.std.proofs.Common.{◌≡◌, ◌≢◌, ℕ, zero, suc, ◌+◌, ◌<◌, ◌≤◌, Bool, true, false, ◌||◌, List, [], length, drop, get_or, set, length-set, inl, inr, refl, sym, ap, subst, ◌∙◌, arith}
use Rattle.std.proofs.lemmas.Bool.{cases_lt}
use Rattle.std.proofs.lemmas.List.{get_or-set_same, get_or-set_other}
use Rattle.pb_machine.specs.Tables.{one_if}
use Rattle.pb_task.specs.declared.parts.GroundAction.{GroundAction}
use Rattle.pb_task.specs.Strips.{has_atom}
use Rattle.pb_abstract.specs.Tracked.{changes}

-- ---- which atoms an action changes

pub neither : (act : GroundAction) (adds deletes atom : ℕ) → adds ≡ act.adds → deletes ≡ act.deletes → has_atom adds atom ≡ false → has_atom deletes atom ≡ false → changes atom act ≡ false
neither act adds deletes atom a d not_added not_deleted =
    ap (λ set. has_atom set atom || has_atom act.deletes atom) (sym a) ∙ ap (λ set. has_atom adds atom || has_atom set atom) (sym d)
    ∙ ap (λ added. added || has_atom deletes atom) not_added ∙ not_deleted

pub by_adding : (act : GroundAction) (adds atom : ℕ) → adds ≡ act.adds → has_atom adds atom ≡ true → changes atom act ≡ true
by_adding act adds atom a added = ap (λ set. has_atom set atom || has_atom act.deletes atom) (sym a) ∙ ap (λ one. one || has_atom act.deletes atom) added

pub by_deleting : (act : GroundAction) (deletes atom : ℕ) → deletes ≡ act.deletes → has_atom deletes atom ≡ true → changes atom act ≡ true
by_deleting act deletes atom d deleted =
    ap (λ set. has_atom act.adds atom || has_atom set atom) (sym d) ∙ ap (λ one. has_atom act.adds atom || one) deleted ∙ either (has_atom act.adds atom) where
      either : (one : Bool) → (one || true) ≡ true
      either true = refl
      either false = refl

-- ---- an action is counted at each of them

-- the atoms below this one that the test accepts are counted, and no others
pub record IsCounted (counts old : List ℕ) (test : ℕ → Bool) (atom : ℕ) : Type 0 where
  pub len : length counts ≡ length old
  pub before : (k : ℕ) → k < atom → get_or counts k 0 ≡ get_or old k 0 + one_if (test k)
  pub from : (k : ℕ) → atom ≤ k → get_or counts k 0 ≡ get_or old k 0

not_counted : (count : ℕ) (test : Bool) → test ≡ false → count ≡ count + one_if test
not_counted count test e = let none : one_if test ≡ 0 = ap one_if e in omega (arith, none)

pub none_counted : (old : List ℕ) (test : ℕ → Bool) (first : ℕ) → ((k : ℕ) → 0 ≤ k → k < first → test k ≡ false) → IsCounted old old test first
none_counted old test first none = record {
  len = refl;
  before = λ k less. not_counted (get_or old k 0) (test k) (none k (omega arith) less);
  from = λ k above. refl;
}

pub one_counted : (counts old : List ℕ) (test : ℕ → Bool) (atom next more : ℕ) → IsCounted counts old test atom → atom < length counts → test atom ≡ true → more ≡ get_or counts atom 0 + 1
    → atom + 1 ≤ next → ((k : ℕ) → atom + 1 ≤ k → k < next → test k ≡ false) → IsCounted (set counts atom more) old test next
one_counted counts old test atom next more is inside here sum on none = record {
  len = length-set counts atom more ∙ is.len;
  before = before;
  from = λ k above. other k (λ same. omega (arith, same, above, on)) ∙ is.from k (omega (arith, above, on));
} where
  other : (k : ℕ) → k ≢ atom → get_or (set counts atom more) k 0 ≡ get_or counts k 0
  other k apart = get_or-set_other counts atom k more 0 apart

  at_atom : get_or (set counts atom more) atom 0 ≡ get_or old atom 0 + one_if (test atom)
  at_atom =
      let one : one_if (test atom) ≡ 1 = ap one_if here in
      let was : get_or counts atom 0 ≡ get_or old atom 0 = is.from atom (omega arith) in
      get_or-set_same counts atom more 0 inside ∙ omega (arith, one, was, sum)

  behind : (k : ℕ) → atom < k → k < next → get_or (set counts atom more) k 0 ≡ get_or old k 0 + one_if (test k)
  behind k above less =
      other k (λ same. omega (arith, same, above)) ∙ is.from k (omega (arith, above)) ∙ not_counted (get_or old k 0) (test k) (none k (omega (arith, above)) less)

  before : (k : ℕ) → k < next → get_or (set counts atom more) k 0 ≡ get_or old k 0 + one_if (test k)
  before k less = elim (cases_lt k atom) [
    | inl lower ↦ other k (λ same. omega (arith, same, lower)) ∙ is.before k lower
    | inr above ↦ elim (cases_lt atom k) [
      | inl higher ↦ behind k higher less
      | inr at ↦
          let same : atom ≡ k = omega (arith, above, at) in
          subst (λ n. get_or (set counts atom more) n 0 ≡ get_or old n 0 + one_if (test n)) same at_atom
    ]
  ]

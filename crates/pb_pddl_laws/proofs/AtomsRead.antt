-- Atoms: what is read is what the grammar has, and the other way round.
use Rattle.std.proofs.Common.{◌≡◌, ◌<◌, ◌≤◌, Bool, true, false, cond, not, ◌&&◌, ◌||◌, List, [], ◌∷◌, ◌++◌, length, drop, Ok, Err, refl, sym, ap, subst, ◌∙◌, arith, ◌⊎◌, inl, inr}
use Rattle.std.proofs.lemmas.Bool.{or_left, or_right, and_parts, not-true}
use Rattle.pb_pddl.specs.declared.token.TokenKind.TheVariants as kinds
use Rattle.pb_pddl.specs.declared.token.Token.{Token}
use Rattle.pb_pddl.specs.declared.tree.Name.{Name}
use Rattle.pb_pddl.specs.declared.tree.Term.{Term}
use Rattle.pb_pddl.specs.declared.tree.Term.TheVariants as terms
use Rattle.pb_pddl.specs.declared.tree.Atom.{Atom}
use Rattle.pb_pddl.specs.declared.error.Want.TheVariants as wants
use Rattle.pb_pddl.specs.Reading.{kind_number, same_kind, front, begins, fault_at, need, name_of, is_reserved, begins_term, term_of, add_term, begins_head, head_at, atom_at, all_of}
use Rattle.pb_pddl.specs.Grammar.{Takes, Many, IsTerm, IsHead, IsAtom}
use Rattle.pb_pddl_laws.proofs.Singles.{ok_pair, close_token, word_token, variable_token, bind_ok, bind_again, guard_ok, begins_takes, takes_begins, takes_less, need_takes, takes_need}
use Rattle.pb_pddl_laws.proofs.ManyRead.{IsSound, IsComplete, all_sound, all_complete, steps_less}

pub or_cases : (a b : Bool) → a || b ≡ true → (a ≡ true) ⊎ ((a ≡ false) × (b ≡ true))
or_cases true b e = inl refl
or_cases false b e = inr (refl, e)

-- ---- the head

pub head_sound : (ts rest : List Token) (name : Name) → head_at ts ≡ Ok (name, rest) → IsHead ts rest name
unfolding head_at begins_head
head_sound ts rest name e =
    let g = guard_ok (begins_head ts) (name_of (front ts), drop 1 ts) (name, rest) (fault_at wants.Name ts) e in
    let b = and_parts (begins kinds.Word ts) (not (is_reserved (front ts).text)) g.0 in
    let name_is : name_of (front ts) ≡ name = ap (λ (x : Name × List Token). x.0) g.1 in (
      (front ts, subst (Takes kinds.Word ts (front ts)) (ap (λ (x : Name × List Token). x.1) g.1) (begins_takes kinds.Word ts word_token b.0), sym name_is),
      ap (λ (x : Name). is_reserved x.text) (sym name_is) ∙ not-true (is_reserved (front ts).text) b.1,
    )

pub head_complete : (ts rest : List Token) (name : Name) → IsHead ts rest name → head_at ts ≡ Ok (name, rest)
unfolding head_at begins_head
head_complete ts rest name ((t, h, is), free) =
    let b = takes_begins kinds.Word ts t rest h in
    let text_is : is_reserved (front ts).text ≡ false = ap (λ (x : Token). is_reserved x.text) b.1 ∙ ap (λ (x : Name). is_reserved x.text) (sym is) ∙ free in
    ap (λ q. cond q (Ok (name_of (front ts), drop 1 ts)) (Err (fault_at wants.Name ts))) (ap (λ a. a && not (is_reserved (front ts).text)) b.0 ∙ ap not text_is)
    ∙ ap (λ (n : Name). Ok (n, drop 1 ts)) (ap name_of b.1 ∙ sym is) ∙ ap (λ (r : List Token). Ok (name, r)) b.2

-- ---- terms

term_object : (t : Token) → t.kind ≡ kinds.Word → term_of t ≡ terms.Object (name_of t)
unfolding term_of same_kind kind_number
term_object t k = ap (λ x. cond (same_kind x kinds.Variable) (terms.Variable (name_of t)) (terms.Object (name_of t))) k

term_variable : (t : Token) → t.kind ≡ kinds.Variable → term_of t ≡ terms.Variable (name_of t)
unfolding term_of same_kind kind_number
term_variable t k = ap (λ x. cond (same_kind x kinds.Variable) (terms.Variable (name_of t)) (terms.Object (name_of t))) k

pub term_sound : (variables : Bool) → IsSound (begins_term variables) add_term (IsTerm variables)
unfolding begins_term add_term
term_sound variables s ts now rest m e =
    let p = ok_pair (s ++ term_of (front ts) ∷ []) now (drop 1 ts) rest e in
    elim (or_cases (begins kinds.Word ts) (variables && begins kinds.Variable ts) m) [
      | inl w ↦
          let h = begins_takes kinds.Word ts word_token w in
          (name_of (front ts), inl ((front ts, subst (Takes kinds.Word ts (front ts)) p.1 h, refl), sym p.0 ∙ ap (λ (x : Term). s ++ x ∷ []) (term_object (front ts) h.1)))
      | inr w ↦
          let v = and_parts variables (begins kinds.Variable ts) w.1 in
          let h = begins_takes kinds.Variable ts variable_token v.1 in
          (name_of (front ts), inr (v.0, (front ts, subst (Takes kinds.Variable ts (front ts)) p.1 h, refl), sym p.0 ∙ ap (λ (x : Term). s ++ x ∷ []) (term_variable (front ts) h.1)))
    ]

pub term_complete : (variables : Bool) → IsComplete (begins_term variables) add_term (IsTerm variables)
unfolding begins_term add_term
term_complete variables s ts now rest (name, cases) =
    elim cases [
      | inl ((t, h, is), now_is) ↦
          let b = takes_begins kinds.Word ts t rest h in
          let term_is : term_of (front ts) ≡ terms.Object name = ap term_of b.1 ∙ term_object t h.1 ∙ ap terms.Object (sym is) in (
            or_left (begins kinds.Word ts) (variables && begins kinds.Variable ts) b.0,
            ap (λ (x : Term). Ok (s ++ x ∷ [], drop 1 ts)) term_is ∙ ap (λ (x : List Term). Ok (x, drop 1 ts)) (sym now_is) ∙ ap (λ (r : List Token). Ok (now, r)) b.2,
            takes_less kinds.Word ts t rest h,
          )
      | inr (allowed, (t, h, is), now_is) ↦
          let b = takes_begins kinds.Variable ts t rest h in
          let term_is : term_of (front ts) ≡ terms.Variable name = ap term_of b.1 ∙ term_variable t h.1 ∙ ap terms.Variable (sym is) in (
            or_right (begins kinds.Word ts) (variables && begins kinds.Variable ts) (ap (λ v. v && begins kinds.Variable ts) allowed ∙ b.0),
            ap (λ (x : Term). Ok (s ++ x ∷ [], drop 1 ts)) term_is ∙ ap (λ (x : List Term). Ok (x, drop 1 ts)) (sym now_is) ∙ ap (λ (r : List Token). Ok (now, r)) b.2,
            takes_less kinds.Variable ts t rest h,
          )
    ]

-- no term begins with a )
close_no_term : (variables : Bool) (ts rest : List Token) (t : Token) → Takes kinds.Close ts t rest → begins_term variables ts ≡ false
unfolding begins_term begins front same_kind kind_number
close_no_term variables [] rest t h = absurd cc
close_no_term true (u ∷ ts) rest t h = let k : u.kind ≡ kinds.Close = ap (λ (x : Token). x.kind) (ap front h.0) ∙ h.1 in ap (λ x. same_kind x kinds.Word || same_kind x kinds.Variable) k
close_no_term false (u ∷ ts) rest t h = let k : u.kind ≡ kinds.Close = ap (λ (x : Token). x.kind) (ap front h.0) ∙ h.1 in ap (λ x. same_kind x kinds.Word || false) k

-- ---- atoms

pub atom_sound : (variables : Bool) (ts rest : List Token) (atom : Atom) → atom_at variables ts ≡ Ok (atom, rest) → IsAtom variables ts rest atom
unfolding atom_at
atom_sound variables ts rest atom e =
    let a = bind_ok (head_at ts) _ (atom, rest) e in
    let b = bind_ok (all_of (begins_term variables) add_term [] a.0.1) _ (atom, rest) a.2 in
    let c = bind_ok (need kinds.Close wants.Name b.0.1) _ (atom, rest) b.2 in
    let p = ok_pair (record { predicate = a.0.0; terms = b.0.0 }) atom c.0 rest c.2 in
    let close = need_takes kinds.Close wants.Name b.0.1 c.0 close_token c.1 in
    record {
      inside = a.0.1;
      last = b.0.1;
      head = subst (IsHead ts a.0.1) (ap (λ (x : Atom). x.predicate) p.0) (head_sound ts a.0.1 a.0.0 a.1);
      terms = subst (λ (x : List Term). Many (IsTerm variables) [] a.0.1 x b.0.1) (ap (λ (x : Atom). x.terms) p.0) (all_sound (begins_term variables) add_term (IsTerm variables) [] a.0.1 b.0.0 b.0.1 (term_sound variables) b.1);
      close = (close.0, subst (Takes kinds.Close b.0.1 close.0) p.1 close.1);
    }

pub atom_complete : (variables : Bool) (ts rest : List Token) (atom : Atom) → IsAtom variables ts rest atom → atom_at variables ts ≡ Ok (atom, rest)
unfolding atom_at
atom_complete variables ts rest atom is =
    bind_again (head_at ts) _ (atom.predicate, is.inside) _ (head_complete ts is.inside atom.predicate is.head)
    (bind_again (all_of (begins_term variables) add_term [] is.inside) _ (atom.terms, is.last) _
    (all_complete (begins_term variables) add_term (IsTerm variables) [] is.inside atom.terms is.last (term_complete variables) (close_no_term variables is.last rest is.close.0 is.close.1) is.terms)
    (bind_again (need kinds.Close wants.Name is.last) _ rest _ (takes_need kinds.Close wants.Name is.last is.close.0 rest is.close.1) refl))

pub atom_less : (variables : Bool) (ts rest : List Token) (atom : Atom) → IsAtom variables ts rest atom → length rest < length ts
atom_less variables ts rest atom is =
    let one : length is.inside < length ts = takes_less kinds.Word ts is.head.0.0 is.inside is.head.0.1 in
    let two : length is.last ≤ length is.inside = steps_less (begins_term variables) add_term (IsTerm variables) is.terms.0 [] is.inside atom.terms is.last (term_complete variables) is.terms.1 in
    let three : length rest < length is.last = takes_less kinds.Close is.last is.close.0 rest is.close.1 in
    omega arith

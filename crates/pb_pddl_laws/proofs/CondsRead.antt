-- Conditions: what is read is what the grammar has, and the other way round.
use Rattle.std.proofs.Common.{◌≡◌, ℕ, zero, suc, ◌<◌, ◌≤◌, Bool, true, false, cond, List, [], ◌∷◌, ◌++◌, length, drop, Ok, refl, sym, ap, subst, ◌∙◌, arith, ◌⊎◌, inl, inr, true≢false}
use Rattle.std.specs.Prelude.{codes}
use Rattle.pb_pddl.specs.declared.token.TokenKind.TheVariants as kinds
use Rattle.pb_pddl.specs.declared.token.Token.{Token}
use Rattle.pb_pddl.specs.declared.tree.Name.{Name}
use Rattle.pb_pddl.specs.declared.tree.Atom.{Atom}
use Rattle.pb_pddl.specs.declared.error.Want.TheVariants as wants
use Rattle.pb_pddl.specs.Reading.{front, begins, spells, need, is_reserved, atom_at, all_of, begins_open, add_atom, cond_at, conds_at}
use Rattle.pb_pddl.specs.Grammar.{Takes, Many, IsAtom, IsCond}
use Rattle.pb_pddl_laws.proofs.Singles.{ok_pair, bind_ok, bind_again, begins_takes, takes_begins, takes_less, need_takes, takes_need, open_token, close_token, word_token, spells_says, says_spells, takes_other, close_no_open, word_no_close}
use Rattle.pb_pddl_laws.proofs.ManyRead.{IsSound, IsComplete, all_sound, all_complete, steps_less}
use Rattle.pb_pddl_laws.proofs.AtomsRead.{atom_sound, atom_complete, atom_less}
pub use Rattle.std.proofs.lemmas.Bool.{cond-true as if_true, cond-false as if_false}

pub if_cases : {A : Type 0} (b : Bool) (x y z : A) → cond b x y ≡ z → ((b ≡ true) × (x ≡ z)) ⊎ ((b ≡ false) × (y ≡ z))
if_cases true x y z e = inl (refl, e)
if_cases false x y z e = inr (refl, e)

pub and_reserved : is_reserved (codes "and") ≡ true
unfolding is_reserved
and_reserved = refl

-- the head of an atom isn't this reserved word
pub head_no_word : (variables : Bool) (text : List ℕ) (ts rest : List Token) (atom : Atom) → is_reserved text ≡ true → IsAtom variables ts rest atom → spells kinds.Word text ts ≡ false
head_no_word variables text ts rest atom taken is =
    let s : Bool = spells kinds.Word text ts in
    let cases : (v : Bool) → spells kinds.Word text ts ≡ v → spells kinds.Word text ts ≡ false =
    λ v. elim v as (λ v. spells kinds.Word text ts ≡ v → spells kinds.Word text ts ≡ false) [
      | true ↦ λ e.
          let said = spells_says kinds.Word text ts word_token e in
          let head = is.head.0 in
          let b = takes_begins kinds.Word ts head.0 is.inside head.1 in
          let c = takes_begins kinds.Word ts said.0 (drop 1 ts) said.1 in
          let text_is : atom.predicate.text ≡ text = ap (λ (n : Name). n.text) head.2 ∙ ap (λ (x : Token). x.text) (sym b.1 ∙ c.1) ∙ said.2 in
          absurd (true≢false (sym taken ∙ ap is_reserved (sym text_is) ∙ is.head.1))
      | false ↦ λ e. e
    ] in
    cases s refl

module _ (variables : Bool) where
  add_sound : (said : List Atom) (ts : List Token) (now : List Atom) (rest : List Token) → add_atom variables said ts ≡ Ok (now, rest) → (atom : Atom) × IsAtom variables ts rest atom × (now ≡ said ++ atom ∷ [])
  unfolding add_atom
  add_sound said ts now rest e =
      let a = bind_ok (atom_at variables ts) _ (now, rest) e in
      let p = ok_pair (said ++ a.0.0 ∷ []) now a.0.1 rest a.2 in
      (a.0.0, subst (λ r. IsAtom variables ts r a.0.0) p.1 (atom_sound variables ts a.0.1 a.0.0 a.1), sym p.0)

  add_complete : (said : List Atom) (ts rest : List Token) (atom : Atom) → IsAtom variables ts rest atom → add_atom variables said ts ≡ Ok (said ++ atom ∷ [], rest)
  unfolding add_atom
  add_complete said ts rest atom is = bind_again (atom_at variables ts) _ (atom, rest) _ (atom_complete variables ts rest atom is) refl

  pub cond_sound : (room : ℕ) → IsSound begins_open (cond_at variables room) (IsCond variables room)
  unfolding cond_at conds_at
  cond_sound zero said ts now rest m e = absurd cc
  cond_sound (suc room) said ts now rest m e =
      let o = bind_ok (need kinds.Open wants.Paren ts) _ (now, rest) e in
      let inside : List Token = o.0 in (
        inside,
        need_takes kinds.Open wants.Paren ts inside open_token o.1,
        elim (if_cases (begins kinds.Close inside) _ _ (Ok (now, rest)) o.2) [
          | inl c ↦
              let p = ok_pair said now (drop 1 inside) rest c.1 in
              inl ((front inside, subst (Takes kinds.Close inside (front inside)) p.1 (begins_takes kinds.Close inside close_token c.0)), sym p.0)
          | inr c ↦ elim (if_cases (spells kinds.Word (codes "and") inside) _ _ (Ok (now, rest)) c.1) [
            | inl a ↦
                let all = bind_ok (all_of begins_open (cond_at variables room) said (drop 1 inside)) _ (now, rest) a.1 in
                let close = bind_ok (need kinds.Close wants.Paren all.0.1) _ (now, rest) all.2 in
                let p = ok_pair all.0.0 now close.0 rest close.2 in
                let taken = need_takes kinds.Close wants.Paren all.0.1 close.0 close_token close.1 in
                inr (inl (
                  drop 1 inside,
                  all.0.1,
                  spells_says kinds.Word (codes "and") inside word_token a.0,
                  subst (λ (x : List Atom). Many (IsCond variables room) said (drop 1 inside) x all.0.1) p.0
                      (all_sound begins_open (cond_at variables room) (IsCond variables room) said (drop 1 inside) all.0.0 all.0.1 (cond_sound room) all.1),
                  (taken.0, subst (Takes kinds.Close all.0.1 taken.0) p.1 taken.1),
                ))
            | inr a ↦ inr (inr (add_sound said inside now rest a.1))
          ]
        ],
      )

  pub cond_complete : (room : ℕ) → IsComplete begins_open (cond_at variables room) (IsCond variables room)
  unfolding cond_at conds_at
  cond_complete zero said ts now rest is = absurd is
  cond_complete (suc room) said ts now rest (inside, (o, opens), cases) =
      let first = (takes_begins kinds.Open ts o inside opens).0 in
      let opened = takes_need kinds.Open wants.Paren ts o inside opens in
      let one : length inside < length ts = takes_less kinds.Open ts o inside opens in
      elim cases [
        | inl ((c, closes), is) ↦
            let b = takes_begins kinds.Close inside c rest closes in
            let two : length rest < length inside = takes_less kinds.Close inside c rest closes in (
              first,
              bind_again (need kinds.Open wants.Paren ts) _ inside _ opened
                  (if_true (begins kinds.Close inside) _ _ b.0 ∙ ap (λ (x : List Atom). Ok (x, drop 1 inside)) (sym is) ∙ ap (λ (r : List Token). Ok (now, r)) b.2),
              omega arith,
            )
        | inr (inl (start, last, says, many, (c, closes))) ↦
            let w = says_spells kinds.Word (codes "and") inside start says in
            let no_close = takes_other kinds.Word kinds.Close inside says.0 start word_no_close says.1 in
            let stop = takes_other kinds.Close kinds.Open last c rest close_no_open closes in
            let two : length last ≤ length start = steps_less begins_open (cond_at variables room) (IsCond variables room) many.0 said start now last (cond_complete room) many.1 in
            let three : length rest < length last = takes_less kinds.Close last c rest closes in
            let all : all_of begins_open (cond_at variables room) said (drop 1 inside) ≡ Ok (now, last) =
            ap (all_of begins_open (cond_at variables room) said) w.1 ∙ all_complete begins_open (cond_at variables room) (IsCond variables room) said start now last (cond_complete room) stop many in (
              first,
              bind_again (need kinds.Open wants.Paren ts) _ inside _ opened
                  (if_false (begins kinds.Close inside) _ _ no_close ∙ if_true (spells kinds.Word (codes "and") inside) _ _ w.0
                  ∙ bind_again (all_of begins_open (cond_at variables room) said (drop 1 inside)) _ (now, last) _ all
                  (bind_again (need kinds.Close wants.Paren last) _ rest _ (takes_need kinds.Close wants.Paren last c rest closes) refl)),
              omega (arith, w.2),
            )
        | inr (inr (atom, is, now_is)) ↦
            let head = is.head.0 in
            let no_close = takes_other kinds.Word kinds.Close inside head.0 is.inside word_no_close head.1 in
            let no_and = head_no_word variables (codes "and") inside rest atom and_reserved is in
            let two : length rest < length inside = atom_less variables inside rest atom is in (
              first,
              bind_again (need kinds.Open wants.Paren ts) _ inside _ opened
                  (if_false (begins kinds.Close inside) _ _ no_close ∙ if_false (spells kinds.Word (codes "and") inside) _ _ no_and
                  ∙ add_complete said inside rest atom is ∙ ap (λ (x : List Atom). Ok (x, rest)) (sym now_is)),
              omega arith,
            )
      ]

-- Effects: what is read is what the grammar has, and the other way round.
use Rattle.std.proofs.Common.{◌≡◌, ℕ, zero, suc, ◌<◌, ◌≤◌, Bool, true, false, ◌&&◌, List, [], ◌∷◌, ◌++◌, length, drop, Ok, refl, sym, ap, subst, ◌∙◌, arith, inl, inr}
use Rattle.std.specs.Prelude.{codes}
use Rattle.std.specs.Str.{bytes_eq}
use Rattle.pb_pddl.specs.declared.token.TokenKind.{TokenKind}
use Rattle.pb_pddl.specs.declared.token.TokenKind.TheVariants as kinds
use Rattle.pb_pddl.specs.declared.token.Token.{Token}
use Rattle.pb_pddl.specs.declared.tree.Atom.{Atom}
use Rattle.pb_pddl.specs.declared.tree.Literal.{Literal}
use Rattle.pb_pddl.specs.declared.tree.Cost.{Cost}
use Rattle.pb_pddl.specs.declared.parts.EffectParts.{EffectParts}
use Rattle.pb_pddl.specs.declared.error.Want.TheVariants as wants
use Rattle.pb_pddl.specs.Reading.{front, begins, spells, need, is_reserved, atom_at, all_of, begins_open, cost_at, add_literal, add_increase, negative_at, effect_at, effects_at}
use Rattle.pb_pddl.specs.Grammar.{Takes, Says, Opens, Closes, Many, IsAtom, IsCost, IsEffect, with_literal}
use Rattle.pb_pddl_laws.proofs.Singles.{ok_pair, bind_ok, bind_again, begins_takes, takes_begins, takes_less, need_takes, takes_need, open_token, close_token, word_token, spells_says, says_spells, takes_other, close_no_open, word_no_close}
use Rattle.pb_pddl_laws.proofs.ManyRead.{IsSound, IsComplete, all_sound, all_complete, steps_less}
use Rattle.pb_pddl_laws.proofs.AtomsRead.{atom_sound, atom_complete, atom_less}
use Rattle.pb_pddl_laws.proofs.CondsRead.{if_cases, if_true, if_false, and_reserved, head_no_word}
use Rattle.pb_pddl_laws.proofs.CostsRead.{at_says, cost_sound, cost_complete, cost_less}

not_reserved : is_reserved (codes "not") ≡ true
unfolding is_reserved
not_reserved = refl

increase_reserved : is_reserved (codes "increase") ≡ true
unfolding is_reserved
increase_reserved = refl

-- a word isn't two words
pub other_word : (kind : TokenKind) (a b : List ℕ) (ts rest : List Token) → bytes_eq a b ≡ false → Says kind a ts rest → spells kind b ts ≡ false
unfolding spells
other_word kind a b ts rest differ (t, h, is) =
    let g = takes_begins kind ts t rest h in
    let text_is : (front ts).text ≡ a = ap (λ (x : Token). x.text) g.1 ∙ is in
    ap (λ x. x && bytes_eq (front ts).text b) g.0 ∙ ap (λ x. bytes_eq x b) text_is ∙ differ

not_and : bytes_eq (codes "not") (codes "and") ≡ false
not_and = refl

increase_and : bytes_eq (codes "increase") (codes "and") ≡ false
increase_and = refl

increase_not : bytes_eq (codes "increase") (codes "not") ≡ false
increase_not = refl

abbrev literal : Atom → Bool → Literal
literal atom negated = record { atom = atom; negated = negated }

add_sound : (negated : Bool) (said : EffectParts) (ts : List Token) (now : EffectParts) (rest : List Token) → add_literal negated said ts ≡ Ok (now, rest) → (atom : Atom) × IsAtom true ts rest atom × (now ≡ with_literal said (literal atom negated))
unfolding add_literal
add_sound negated said ts now rest e =
    let a = bind_ok (atom_at true ts) _ (now, rest) e in
    let p = ok_pair (with_literal said (literal a.0.0 negated)) now a.0.1 rest a.2 in
    (a.0.0, subst (λ r. IsAtom true ts r a.0.0) p.1 (atom_sound true ts a.0.1 a.0.0 a.1), sym p.0)

add_complete : (negated : Bool) (said : EffectParts) (ts rest : List Token) (atom : Atom) → IsAtom true ts rest atom → add_literal negated said ts ≡ Ok (with_literal said (literal atom negated), rest)
unfolding add_literal
add_complete negated said ts rest atom is = bind_again (atom_at true ts) _ (atom, rest) _ (atom_complete true ts rest atom is) refl

negative_sound : (said : EffectParts) (ts : List Token) (now : EffectParts) (rest : List Token) → negative_at said ts ≡ Ok (now, rest)
    → (behind : List Token) × (last : List Token) × (atom : Atom) × Opens ts behind × IsAtom true behind last atom × Closes last rest × (now ≡ with_literal said (literal atom true))
unfolding negative_at
negative_sound said ts now rest e =
    let o = bind_ok (need kinds.Open wants.Paren ts) _ (now, rest) e in
    let l = bind_ok (add_literal true said o.0) _ (now, rest) o.2 in
    let c = bind_ok (need kinds.Close wants.Close l.0.1) _ (now, rest) l.2 in
    let p = ok_pair l.0.0 now c.0 rest c.2 in
    let a = add_sound true said o.0 l.0.0 l.0.1 l.1 in
    let taken = need_takes kinds.Close wants.Close l.0.1 c.0 close_token c.1 in
    (o.0, l.0.1, a.0, need_takes kinds.Open wants.Paren ts o.0 open_token o.1, a.1, (taken.0, subst (Takes kinds.Close l.0.1 taken.0) p.1 taken.1), sym p.0 ∙ a.2)

negative_complete : (said : EffectParts) (ts behind last rest : List Token) (atom : Atom) → Opens ts behind → IsAtom true behind last atom → Closes last rest → negative_at said ts ≡ Ok (with_literal said (literal atom true), rest)
unfolding negative_at
negative_complete said ts behind last rest atom (o, opens) is (c, closes) =
    bind_again (need kinds.Open wants.Paren ts) _ behind _ (takes_need kinds.Open wants.Paren ts o behind opens)
    (bind_again (add_literal true said behind) _ (with_literal said (literal atom true), last) _ (add_complete true said behind last atom is)
    (bind_again (need kinds.Close wants.Close last) _ rest _ (takes_need kinds.Close wants.Close last c rest closes) refl))

abbrev with_cost : EffectParts → Cost → EffectParts
with_cost said cost = record { literals = said.literals; costs = said.costs ++ cost ∷ [] }

increase_sound : (said : EffectParts) (ts : List Token) (now : EffectParts) (rest : List Token) → spells kinds.Word (codes "increase") ts ≡ true → add_increase said ts ≡ Ok (now, rest)
    → (cost : Cost) × IsCost kinds.Word (codes "increase") ts rest cost × (now ≡ with_cost said cost)
unfolding add_increase
increase_sound said ts now rest spelled e =
    let c = bind_ok (cost_at ts) _ (now, rest) e in
    let p = ok_pair (with_cost said c.0.0) now c.0.1 rest c.2 in
    (c.0.0, subst (λ r. IsCost kinds.Word (codes "increase") ts r c.0.0) p.1 (cost_sound kinds.Word (codes "increase") ts c.0.1 c.0.0 word_token spelled c.1), sym p.0)

increase_complete : (said : EffectParts) (ts rest : List Token) (cost : Cost) → IsCost kinds.Word (codes "increase") ts rest cost → add_increase said ts ≡ Ok (with_cost said cost, rest)
unfolding add_increase
increase_complete said ts rest cost is = bind_again (cost_at ts) _ (cost, rest) _ (cost_complete kinds.Word (codes "increase") ts rest cost is) refl

pub effect_sound : (room : ℕ) → IsSound begins_open (effect_at room) (IsEffect room)
unfolding effect_at effects_at
effect_sound zero said ts now rest m e = absurd cc
effect_sound (suc room) said ts now rest m e =
    let o = bind_ok (need kinds.Open wants.Paren ts) _ (now, rest) e in
    let inside : List Token = o.0 in (
      inside,
      need_takes kinds.Open wants.Paren ts inside open_token o.1,
      elim (if_cases (begins kinds.Close inside) _ _ (Ok (now, rest)) o.2) [
        | inl c ↦
            let p = ok_pair said now (drop 1 inside) rest c.1 in
            inl ((front inside, subst (Takes kinds.Close inside (front inside)) p.1 (begins_takes kinds.Close inside close_token c.0)), sym p.0)
        | inr c ↦ elim (if_cases (spells kinds.Word (codes "and") inside) _ _ (Ok (now, rest)) c.1) [
          | inl a ↦
              let all = bind_ok (all_of begins_open (effect_at room) said (drop 1 inside)) _ (now, rest) a.1 in
              let close = bind_ok (need kinds.Close wants.Paren all.0.1) _ (now, rest) all.2 in
              let p = ok_pair all.0.0 now close.0 rest close.2 in
              let taken = need_takes kinds.Close wants.Paren all.0.1 close.0 close_token close.1 in
              inr (inl (
                drop 1 inside,
                all.0.1,
                spells_says kinds.Word (codes "and") inside word_token a.0,
                subst (λ (x : EffectParts). Many (IsEffect room) said (drop 1 inside) x all.0.1) p.0
                    (all_sound begins_open (effect_at room) (IsEffect room) said (drop 1 inside) all.0.0 all.0.1 (effect_sound room) all.1),
                (taken.0, subst (Takes kinds.Close all.0.1 taken.0) p.1 taken.1),
              ))
          | inr a ↦ elim (if_cases (spells kinds.Word (codes "not") inside) _ _ (Ok (now, rest)) a.1) [
            | inl n ↦
                let neg = negative_sound said (drop 1 inside) now rest n.1 in
                inr (inr (inl (drop 1 inside, neg.0, neg.1, neg.2, spells_says kinds.Word (codes "not") inside word_token n.0, neg.3, neg.4, neg.5, neg.6)))
            | inr n ↦ elim (if_cases (spells kinds.Word (codes "increase") inside) _ _ (Ok (now, rest)) n.1) [
              | inl i ↦ inr (inr (inr (inl (increase_sound said inside now rest i.0 i.1))))
              | inr i ↦ inr (inr (inr (inr (add_sound false said inside now rest i.1))))
            ]
          ]
        ]
      ],
    )

pub effect_complete : (room : ℕ) → IsComplete begins_open (effect_at room) (IsEffect room)
unfolding effect_at effects_at
effect_complete zero said ts now rest is = absurd is
effect_complete (suc room) said ts now rest (inside, (o, opens), cases) =
    let first = (takes_begins kinds.Open ts o inside opens).0 in
    let opened = takes_need kinds.Open wants.Paren ts o inside opens in
    let one : length inside < length ts = takes_less kinds.Open ts o inside opens in
    elim cases [
      | inl ((c, closes), is) ↦
          let b = takes_begins kinds.Close inside c rest closes in
          let two : length rest < length inside = takes_less kinds.Close inside c rest closes in (
            first,
            bind_again (need kinds.Open wants.Paren ts) _ inside _ opened
                (if_true (begins kinds.Close inside) _ _ b.0 ∙ ap (λ (x : EffectParts). Ok (x, drop 1 inside)) (sym is) ∙ ap (λ (r : List Token). Ok (now, r)) b.2),
            omega arith,
          )
      | inr (inl (start, last, says, many, (c, closes))) ↦
          let w = says_spells kinds.Word (codes "and") inside start says in
          let no_close = takes_other kinds.Word kinds.Close inside says.0 start word_no_close says.1 in
          let stop = takes_other kinds.Close kinds.Open last c rest close_no_open closes in
          let two : length last ≤ length start = steps_less begins_open (effect_at room) (IsEffect room) many.0 said start now last (effect_complete room) many.1 in
          let three : length rest < length last = takes_less kinds.Close last c rest closes in
          let all : all_of begins_open (effect_at room) said (drop 1 inside) ≡ Ok (now, last) =
          ap (all_of begins_open (effect_at room) said) w.1 ∙ all_complete begins_open (effect_at room) (IsEffect room) said start now last (effect_complete room) stop many in (
            first,
            bind_again (need kinds.Open wants.Paren ts) _ inside _ opened
                (if_false (begins kinds.Close inside) _ _ no_close ∙ if_true (spells kinds.Word (codes "and") inside) _ _ w.0
                ∙ bind_again (all_of begins_open (effect_at room) said (drop 1 inside)) _ (now, last) _ all
                (bind_again (need kinds.Close wants.Paren last) _ rest _ (takes_need kinds.Close wants.Paren last c rest closes) refl)),
            omega (arith, w.2),
          )
      | inr (inr (inl (start, behind, last, atom, says, opens_not, is, closes, now_is))) ↦
          let w = says_spells kinds.Word (codes "not") inside start says in
          let no_close = takes_other kinds.Word kinds.Close inside says.0 start word_no_close says.1 in
          let no_and = other_word kinds.Word (codes "not") (codes "and") inside start not_and says in
          let two : length behind < length start = takes_less kinds.Open start opens_not.0 behind opens_not.1 in
          let three : length last < length behind = atom_less true behind last atom is in
          let four : length rest < length last = takes_less kinds.Close last closes.0 rest closes.1 in (
            first,
            bind_again (need kinds.Open wants.Paren ts) _ inside _ opened
                (if_false (begins kinds.Close inside) _ _ no_close ∙ if_false (spells kinds.Word (codes "and") inside) _ _ no_and ∙ if_true (spells kinds.Word (codes "not") inside) _ _ w.0
                ∙ ap (negative_at said) w.1 ∙ negative_complete said start behind last rest atom opens_not is closes ∙ ap (λ (x : EffectParts). Ok (x, rest)) (sym now_is)),
            omega (arith, w.2),
          )
      | inr (inr (inr (inl (cost, is, now_is)))) ↦
          let says = at_says kinds.Word (codes "increase") inside is.first cost.at is.sign in
          let w = says_spells kinds.Word (codes "increase") inside is.first says in
          let no_close = takes_other kinds.Word kinds.Close inside says.0 is.first word_no_close says.1 in
          let no_and = other_word kinds.Word (codes "increase") (codes "and") inside is.first increase_and says in
          let no_not = other_word kinds.Word (codes "increase") (codes "not") inside is.first increase_not says in
          let two : length rest < length inside = cost_less kinds.Word (codes "increase") inside rest cost is in (
            first,
            bind_again (need kinds.Open wants.Paren ts) _ inside _ opened
                (if_false (begins kinds.Close inside) _ _ no_close ∙ if_false (spells kinds.Word (codes "and") inside) _ _ no_and ∙ if_false (spells kinds.Word (codes "not") inside) _ _ no_not
                ∙ if_true (spells kinds.Word (codes "increase") inside) _ _ w.0 ∙ increase_complete said inside rest cost is ∙ ap (λ (x : EffectParts). Ok (x, rest)) (sym now_is)),
            omega arith,
          )
      | inr (inr (inr (inr (atom, is, now_is)))) ↦
          let head = is.head.0 in
          let no_close = takes_other kinds.Word kinds.Close inside head.0 is.inside word_no_close head.1 in
          let no_and = head_no_word true (codes "and") inside rest atom and_reserved is in
          let no_not = head_no_word true (codes "not") inside rest atom not_reserved is in
          let no_increase = head_no_word true (codes "increase") inside rest atom increase_reserved is in
          let two : length rest < length inside = atom_less true inside rest atom is in (
            first,
            bind_again (need kinds.Open wants.Paren ts) _ inside _ opened
                (if_false (begins kinds.Close inside) _ _ no_close ∙ if_false (spells kinds.Word (codes "and") inside) _ _ no_and ∙ if_false (spells kinds.Word (codes "not") inside) _ _ no_not
                ∙ if_false (spells kinds.Word (codes "increase") inside) _ _ no_increase
                ∙ add_complete false said inside rest atom is ∙ ap (λ (x : EffectParts). Ok (x, rest)) (sym now_is)),
            omega arith,
          )
    ]

-- Actions: what is read is what the grammar has, and the other way round.
use Rattle.std.proofs.Common.{◌≡◌, ℕ, zero, suc, ◌<◌, ◌≤◌, Bool, true, false, List, [], ◌∷◌, ◌++◌, length, drop, cond, Result, Ok, Err, refl, sym, ap, subst, ◌∙◌, arith, inl, inr, ◌↔◌}
use Rattle.std.specs.Prelude.{Option, Some, None, is_some, codes}
use Rattle.pb_pddl.specs.declared.token.TokenKind.TheVariants as kinds
use Rattle.pb_pddl.specs.declared.token.Token.{Token}
use Rattle.pb_pddl.specs.declared.tree.Name.{Name}
use Rattle.pb_pddl.specs.declared.tree.Typed.{Typed}
use Rattle.pb_pddl.specs.declared.tree.Atom.{Atom}
use Rattle.pb_pddl.specs.declared.tree.Literal.{Literal}
use Rattle.pb_pddl.specs.declared.tree.Cost.{Cost}
use Rattle.pb_pddl.specs.declared.parts.EffectParts.{EffectParts}
use Rattle.pb_pddl.specs.declared.tree.Action.{Action}
use Rattle.pb_pddl.specs.declared.parts.ActionParts.{ActionParts}
use Rattle.pb_pddl.specs.declared.error.SyntaxError.{SyntaxError}
use Rattle.pb_pddl.specs.declared.error.Want.TheVariants as wants
use Rattle.pb_pddl.specs.Reading.{begins, spells, need, name_at, all_of, begins_open, begins_key, list_at, cond_at, effect_at, params_part, pre_part, effect_part, part_at, no_effects, no_parts, parts_want, unlimited, or_empty, add_action}
use Rattle.pb_pddl.specs.Grammar.{Takes, Says, IsCond, IsEffect, IsList, IsPart, IsAction}
use Rattle.pb_pddl_laws.proofs.Singles.{ok_pair, bind_ok, bind_again, takes_begins, takes_less, need_takes, takes_need, name_takes, takes_name, open_token, close_token, word_token, key_token, spells_says, says_spells}
use Rattle.pb_pddl_laws.proofs.ManyRead.{IsSound, IsComplete, all_sound, all_complete, steps_less}
use Rattle.pb_pddl_laws.proofs.CondsRead.{if_cases, if_true, if_false, cond_sound, cond_complete}
use Rattle.pb_pddl_laws.proofs.EffectsRead.{other_word, effect_sound, effect_complete}
use Rattle.pb_pddl_laws.proofs.ListsRead.{list_sound, list_complete, list_less, variables_listed}
use Rattle.pb_pddl_laws.proofs.PiecesRead.{key_stops}

pub none_iff : {A : Type 0} (o : Option A) → (is_some o ≡ false) ↔ (o ≡ None)
none_iff None = (λ e. refl, λ e. refl)
none_iff (Some x) = (λ e. absurd cc, λ e. absurd cc)

-- a step that does not refuse at once
pub not_refused : {A : Type 0} (b : Bool) (d : SyntaxError) (r : Result A SyntaxError) (y : A) → cond b (Err d) r ≡ Ok y → (b ≡ false) × (r ≡ Ok y)
not_refused true d r y e = absurd cc
not_refused false d r y e = (refl, e)

-- where a word stands, its first is a keyword
pub says_key : (text : List ℕ) (ts rest : List Token) → Says kinds.Key text ts rest → begins kinds.Key ts ≡ true
says_key text ts rest says = (takes_begins kinds.Key ts says.0 rest says.1).0

pub cond_less : (variables : Bool) (room : ℕ) (said : List Atom) (ts : List Token) (now : List Atom) (rest : List Token) → IsCond variables room said ts now rest → length rest < length ts
cond_less variables room said ts now rest is = (cond_complete variables room said ts now rest is).2

-- a condition begins with a (, so what reads it is at one
cond_opens : (variables : Bool) (room : ℕ) (said : List Atom) (ts : List Token) (now : List Atom) (rest : List Token) → cond_at variables room said ts ≡ Ok (now, rest) → begins_open ts ≡ true
unfolding cond_at need
cond_opens variables zero said ts now rest e = absurd cc
cond_opens variables (suc room) said ts now rest e =
    let o = bind_ok (need kinds.Open wants.Paren ts) _ (now, rest) e in
    let t = need_takes kinds.Open wants.Paren ts o.0 open_token o.1 in
    (takes_begins kinds.Open ts t.0 o.0 t.1).0

pub cond_is : (variables : Bool) (room : ℕ) (said : List Atom) (ts : List Token) (now : List Atom) (rest : List Token) → cond_at variables room said ts ≡ Ok (now, rest) → IsCond variables room said ts now rest
cond_is variables room said ts now rest e = cond_sound variables room said ts now rest (cond_opens variables room said ts now rest e) e

effect_opens : (room : ℕ) (said : EffectParts) (ts : List Token) (now : EffectParts) (rest : List Token) → effect_at room said ts ≡ Ok (now, rest) → begins_open ts ≡ true
unfolding effect_at need
effect_opens zero said ts now rest e = absurd cc
effect_opens (suc room) said ts now rest e =
    let o = bind_ok (need kinds.Open wants.Paren ts) _ (now, rest) e in
    let t = need_takes kinds.Open wants.Paren ts o.0 open_token o.1 in
    (takes_begins kinds.Open ts t.0 o.0 t.1).0

pub effect_is : (room : ℕ) (said : EffectParts) (ts : List Token) (now : EffectParts) (rest : List Token) → effect_at room said ts ≡ Ok (now, rest) → IsEffect room said ts now rest
effect_is room said ts now rest e = effect_sound room said ts now rest (effect_opens room said ts now rest e) e

abbrev parts : Option (List Typed) → Option (List Atom) → Option (List Literal) → List Cost → ActionParts
parts params pre effect costs = record { params = params; pre = pre; effect = effect; costs = costs }

pub part_sound : IsSound begins_key (part_at unlimited) IsPart
unfolding part_at params_part pre_part effect_part unlimited
part_sound s ts now rest m e = (
  drop 1 ts,
  elim (if_cases (spells kinds.Key (codes ":parameters") ts) _ _ (Ok (now, rest)) e) [
    | inl w ↦
        let z = not_refused (is_some s.params) _ _ (now, rest) w.1 in
        let o = bind_ok (need kinds.Open wants.Paren (drop 1 ts)) _ (now, rest) z.1 in
        let l = bind_ok (list_at kinds.Variable wants.Variable o.0) _ (now, rest) o.2 in
        let p = ok_pair (parts (Some l.0.0) s.pre s.effect s.costs) now l.0.1 rest l.2 in
        inl (
          o.0,
          l.0.0,
          spells_says kinds.Key (codes ":parameters") ts key_token w.0,
          (none_iff s.params).0 z.0,
          need_takes kinds.Open wants.Paren (drop 1 ts) o.0 open_token o.1,
          subst (λ r. IsList kinds.Variable o.0 r l.0.0) p.1 (list_sound kinds.Variable wants.Variable o.0 l.0.1 l.0.0 variables_listed l.1),
          sym p.0,
        )
    | inr w ↦ elim (if_cases (spells kinds.Key (codes ":precondition") ts) _ _ (Ok (now, rest)) w.1) [
      | inl v ↦
          let z = not_refused (is_some s.pre) _ _ (now, rest) v.1 in
          let a = bind_ok (cond_at true (length (drop 1 ts)) [] (drop 1 ts)) _ (now, rest) z.1 in
          let p = ok_pair (parts s.params (Some a.0.0) s.effect s.costs) now a.0.1 rest a.2 in
          inr (inl (
            a.0.0,
            spells_says kinds.Key (codes ":precondition") ts key_token v.0,
            (none_iff s.pre).0 z.0,
            subst (λ r. IsCond true (length (drop 1 ts)) [] (drop 1 ts) a.0.0 r) p.1 (cond_is true (length (drop 1 ts)) [] (drop 1 ts) a.0.0 a.0.1 a.1),
            sym p.0,
          ))
      | inr v ↦ elim (if_cases (spells kinds.Key (codes ":effect") ts) _ _ (Ok (now, rest)) v.1) [
        | inl u ↦
            let z = not_refused (is_some s.effect) _ _ (now, rest) u.1 in
            let a = bind_ok (effect_at (length (drop 1 ts)) no_effects (drop 1 ts)) _ (now, rest) z.1 in
            let p = ok_pair (parts s.params s.pre (Some a.0.0.literals) a.0.0.costs) now a.0.1 rest a.2 in
            inr (inr (
              a.0.0,
              spells_says kinds.Key (codes ":effect") ts key_token u.0,
              (none_iff s.effect).0 z.0,
              subst (λ r. IsEffect (length (drop 1 ts)) no_effects (drop 1 ts) a.0.0 r) p.1 (effect_is (length (drop 1 ts)) no_effects (drop 1 ts) a.0.0 a.0.1 a.1),
              sym p.0,
            ))
        | inr u ↦ absurd cc
      ]
    ]
  ],
)

pub part_complete : IsComplete begins_key (part_at unlimited) IsPart
unfolding begins_key part_at params_part pre_part effect_part unlimited
part_complete s ts now rest (first, cases) =
    elim cases [
      | inl (inside, params, says, none, (o, opens), list, is) ↦
          let w = says_spells kinds.Key (codes ":parameters") ts first says in
          let two : length inside < length first = takes_less kinds.Open first o inside opens in
          let three : length rest < length inside = list_less kinds.Variable inside rest params variables_listed list in (
            says_key (codes ":parameters") ts first says,
            if_true (spells kinds.Key (codes ":parameters") ts) _ _ w.0 ∙ if_false (is_some s.params) _ _ ((none_iff s.params).1 none)
                ∙ bind_again (need kinds.Open wants.Paren (drop 1 ts)) _ inside _ (ap (need kinds.Open wants.Paren) w.1 ∙ takes_need kinds.Open wants.Paren first o inside opens)
                (bind_again (list_at kinds.Variable wants.Variable inside) _ (params, rest) _ (list_complete kinds.Variable wants.Variable inside rest params variables_listed list) (ap (λ (x : ActionParts). Ok (x, rest)) (sym is))),
            omega (arith, w.2),
          )
      | inr (inl (pre, says, none, cond_here, is)) ↦
          let w = says_spells kinds.Key (codes ":precondition") ts first says in
          let c = cond_complete true (length first) [] first pre rest cond_here in (
            says_key (codes ":precondition") ts first says,
            if_false (spells kinds.Key (codes ":parameters") ts) _ _ (other_word kinds.Key (codes ":precondition") (codes ":parameters") ts first refl says)
                ∙ if_true (spells kinds.Key (codes ":precondition") ts) _ _ w.0 ∙ if_false (is_some s.pre) _ _ ((none_iff s.pre).1 none)
                ∙ bind_again (cond_at true (length (drop 1 ts)) [] (drop 1 ts)) _ (pre, rest) _ (ap (λ (us : List Token). cond_at true (length us) [] us) w.1 ∙ c.1) (ap (λ (x : ActionParts). Ok (x, rest)) (sym is)),
            omega (arith, w.2, c.2),
          )
      | inr (inr (effect, says, none, effect_here, is)) ↦
          let w = says_spells kinds.Key (codes ":effect") ts first says in
          let c = effect_complete (length first) no_effects first effect rest effect_here in (
            says_key (codes ":effect") ts first says,
            if_false (spells kinds.Key (codes ":parameters") ts) _ _ (other_word kinds.Key (codes ":effect") (codes ":parameters") ts first refl says)
                ∙ if_false (spells kinds.Key (codes ":precondition") ts) _ _ (other_word kinds.Key (codes ":effect") (codes ":precondition") ts first refl says)
                ∙ if_true (spells kinds.Key (codes ":effect") ts) _ _ w.0 ∙ if_false (is_some s.effect) _ _ ((none_iff s.effect).1 none)
                ∙ bind_again (effect_at (length (drop 1 ts)) no_effects (drop 1 ts)) _ (effect, rest) _ (ap (λ (us : List Token). effect_at (length us) no_effects us) w.1 ∙ c.1) (ap (λ (x : ActionParts). Ok (x, rest)) (sym is)),
            omega (arith, w.2, c.2),
          )
    ]

abbrev action_of : Name → ActionParts → Action
action_of name all = record { name = name; params = or_empty all.params; pre = or_empty all.pre; effect = or_empty all.effect; costs = all.costs }

pub action_sound : (said : List Action) (ts rest : List Token) (now : List Action) → add_action unlimited said ts ≡ Ok (now, rest) → (action : Action) × IsAction ts rest action × (now ≡ said ++ action ∷ [])
unfolding add_action
action_sound said ts rest now e =
    let n = bind_ok (name_at kinds.Word wants.Name ts) _ (now, rest) e in
    let a = bind_ok (all_of begins_key (part_at unlimited) no_parts n.0.1) _ (now, rest) n.2 in
    let c = bind_ok (need kinds.Close (parts_want a.0.0) a.0.1) _ (now, rest) a.2 in
    let p = ok_pair (said ++ action_of n.0.0 a.0.0 ∷ []) now c.0 rest c.2 in
    let taken = need_takes kinds.Close (parts_want a.0.0) a.0.1 c.0 close_token c.1 in (
      action_of n.0.0 a.0.0,
      record {
        first = n.0.1;
        parts = a.0.0;
        name = name_takes kinds.Word wants.Name ts n.0.1 n.0.0 word_token n.1;
        all = (a.0.1, all_sound begins_key (part_at unlimited) IsPart no_parts n.0.1 a.0.0 a.0.1 part_sound a.1, (taken.0, subst (Takes kinds.Close a.0.1 taken.0) p.1 taken.1));
        params = refl;
        pre = refl;
        effect = refl;
        costs = refl;
      },
      sym p.0,
    )

pub action_complete : (said : List Action) (ts rest : List Token) (action : Action) → IsAction ts rest action → add_action unlimited said ts ≡ Ok (said ++ action ∷ [], rest)
unfolding add_action
action_complete said ts rest action is =
    let c = is.all.2 in
    let same : action_of action.name is.parts ≡ action =
    ap (λ (x : List Typed). record { name = action.name; params = x; pre = or_empty is.parts.pre; effect = or_empty is.parts.effect; costs = is.parts.costs }) (sym is.params)
    ∙ ap (λ (x : List Atom). record { name = action.name; params = action.params; pre = x; effect = or_empty is.parts.effect; costs = is.parts.costs }) (sym is.pre)
    ∙ ap (λ (x : List Literal). record { name = action.name; params = action.params; pre = action.pre; effect = x; costs = is.parts.costs }) (sym is.effect)
    ∙ ap (λ (x : List Cost). record { name = action.name; params = action.params; pre = action.pre; effect = action.effect; costs = x }) (sym is.costs) in
    bind_again (name_at kinds.Word wants.Name ts) _ (action.name, is.first) _ (takes_name kinds.Word wants.Name ts is.first action.name is.name)
    (bind_again (all_of begins_key (part_at unlimited) no_parts is.first) _ (is.parts, is.all.0) _ (all_complete begins_key (part_at unlimited) IsPart no_parts is.first is.parts is.all.0 part_complete (key_stops is.all.0 rest c.0 c.1) is.all.1)
    (bind_again (need kinds.Close (parts_want is.parts) is.all.0) _ rest _ (takes_need kinds.Close (parts_want is.parts) is.all.0 c.0 rest c.1) (ap (λ (x : Action). Ok (said ++ x ∷ [], rest)) same)))

pub action_less : (ts rest : List Token) (action : Action) → IsAction ts rest action → length rest < length ts
action_less ts rest action is =
    let c = is.all.2 in
    let one : length is.first < length ts = takes_less kinds.Word ts is.name.0 is.first is.name.1 in
    let two : length is.all.0 ≤ length is.first = steps_less begins_key (part_at unlimited) IsPart is.all.1.0 no_parts is.first is.parts is.all.0 part_complete is.all.1.1 in
    let three : length rest < length is.all.0 = takes_less kinds.Close is.all.0 c.0 rest c.1 in
    omega arith

-- Sections and whole forms: what is read is what the grammar has, and the other way round.
use Rattle.std.proofs.Common.{◌≡◌, ℕ, ◌<◌, true, false, ◌&&◌, List, [], ◌∷◌, ◌++◌, length, drop, Ok, sym, ap, subst, ◌∙◌, arith, inl, inr}
use Rattle.std.proofs.Math.Bool.{and-false}
use Rattle.std.specs.Prelude.{Some, None, is_some, codes}
use Rattle.pb_pddl.specs.declared.token.TokenKind.{TokenKind}
use Rattle.pb_pddl.specs.declared.token.TokenKind.TheVariants as kinds
use Rattle.pb_pddl.specs.declared.token.Token.{Token}
use Rattle.pb_pddl.specs.declared.tree.Action.{Action}
use Rattle.pb_pddl.specs.declared.error.Want.TheVariants as wants
use Rattle.pb_pddl.specs.declared.error.LeftOut.TheVariants as left
use Rattle.pb_pddl_laws.proofs.Singles.{ok_pair, bind_ok, bind_again, takes_begins, takes_less, need_takes, takes_need, name_takes, takes_name, open_token, close_token, word_token, key_token, spells_says}
use Rattle.pb_pddl_laws.proofs.ManyRead.{IsSound, IsComplete}
use Rattle.pb_pddl_laws.proofs.CondsRead.{if_cases, if_false, cond_complete}
use Rattle.pb_pddl_laws.proofs.CostsRead.{only_sound, only_complete, total_sound, total_complete, total_less, functions_sound, functions_complete, functions_less}
use Rattle.pb_pddl_laws.proofs.ListsRead.{list_sound, list_complete, list_less, words_listed}
use Rattle.pb_pddl.specs.declared.parts.DomainParts.{DomainParts}
use Rattle.pb_pddl.specs.declared.parts.ProblemParts.{ProblemParts}
use Rattle.pb_pddl.specs.Reading.{◌>>=◌, Read, front, begins, same_kind, kind_number, spells, need, name_at, begins_open, stood_all, unlimited, keys_at, list_at, predicates_at, no_init, facts_at, cond_at, only_word, total_cost_at, functions_at, add_action, requirements_section, types_section, constants_section, predicates_section, functions_section, action_section, domain_key, domain_section, domain_name_section, problem_requirements, objects_section, init_section, goal_section, metric_section, problem_key, problem_section}
use Rattle.pb_pddl.specs.Grammar.{Section, Takes, Opens, Closed, AddsName, IsList, IsPredicate, IsFact, IsFunctions, IsAction, IsDomainSection, IsProblemSection}
use Rattle.pb_pddl_laws.proofs.PiecesRead.{predicates_sound, predicates_complete, predicates_less, facts_sound, facts_complete, facts_less, keys_sound, keys_complete, keys_less}
use Rattle.pb_pddl_laws.proofs.ActionsRead.{none_iff, cond_is, action_sound, action_complete, action_less, not_refused}

abbrev key_as : List ℕ → Token → Token
key_as text t = record { kind = kinds.Key; text = text; at = t.at; head = t.head }

-- what is read behind the ( and keyword of a section
behind_key : {S : Type 0} (f : List Token → Read S) (text : List ℕ) (ts first rest : List Token) (now : S) → Section text ts first → length rest < length first → ((t : Token) → f (key_as text t ∷ first) ≡ Ok (now, rest))
    → (begins_open ts ≡ true) × ((need kinds.Open wants.Paren ts >>= f) ≡ Ok (now, rest)) × (length rest < length ts)
behind_key f text ts first rest now (inside, (o, opens), (t, (is, kind_is), text_is)) less reads =
    let token_is : t ≡ key_as text t =
    ap (λ (k : TokenKind). let x : Token = record { kind = k; text = t.text; at = t.at; head = t.head } in x) kind_is
    ∙ ap (λ (c : List ℕ). let x : Token = record { kind = kinds.Key; text = c; at = t.at; head = t.head } in x) text_is in
    let one : length inside < length ts = takes_less kinds.Open ts o inside opens in
    let two : length first < length inside = takes_less kinds.Key inside t first (is, kind_is) in (
      (takes_begins kinds.Open ts o inside opens).0,
      bind_again (need kinds.Open wants.Paren ts) f inside (Ok (now, rest)) (takes_need kinds.Open wants.Paren ts o inside opens) (ap f is ∙ ap (λ (u : Token). f (u ∷ first)) token_is ∙ reads t),
      omega arith,
    )

pub domain_key_sound : (s : DomainParts) (ts : List Token) (now : DomainParts) (rest before : List Token) → Opens before ts → domain_key unlimited s ts ≡ Ok (now, rest) → IsDomainSection s before now rest
unfolding domain_key requirements_section types_section constants_section predicates_section functions_section action_section
domain_key_sound s ts now rest before opens e = (
  drop 1 ts,
  elim (if_cases (spells kinds.Key (codes ":requirements") ts) _ _ (Ok (now, rest)) e) [
    | inl w0 ↦
        let z = not_refused (s.requirements) _ _ (now, rest) w0.1 in
        let r = bind_ok (keys_at (drop 1 ts)) _ (now, rest) z.1 in
        let p = ok_pair (record { requirements = true; types = s.types; constants = s.constants; predicates = s.predicates; functions = s.functions; has_cost = s.has_cost; actions = s.actions }) now r.0 rest r.2 in
        let k = keys_sound (drop 1 ts) r.0 r.1 in
        inl ((k.0, (ts, opens, spells_says kinds.Key (codes ":requirements") ts key_token w0.0), z.0, subst (λ q. Closed (AddsName kinds.Key) [] (drop 1 ts) q k.0) p.1 k.1, sym p.0))
    | inr v0 ↦ elim (if_cases (spells kinds.Key (codes ":types") ts) _ _ (Ok (now, rest)) v0.1) [
      | inl w1 ↦
          let z = not_refused (is_some s.types) _ _ (now, rest) w1.1 in
          let l = bind_ok (list_at kinds.Word wants.Name (drop 1 ts)) _ (now, rest) z.1 in
          let p = ok_pair (record { requirements = s.requirements; types = Some l.0.0; constants = s.constants; predicates = s.predicates; functions = s.functions; has_cost = s.has_cost; actions = s.actions }) now l.0.1 rest l.2 in
          inr (inl ((l.0.0, (ts, opens, spells_says kinds.Key (codes ":types") ts key_token w1.0), (none_iff s.types).0 z.0, subst (λ q. IsList kinds.Word (drop 1 ts) q l.0.0) p.1 (list_sound kinds.Word wants.Name (drop 1 ts) l.0.1 l.0.0 words_listed l.1), sym p.0)))
      | inr v1 ↦ elim (if_cases (spells kinds.Key (codes ":constants") ts) _ _ (Ok (now, rest)) v1.1) [
        | inl w2 ↦
            let z = not_refused (is_some s.constants) _ _ (now, rest) w2.1 in
            let l = bind_ok (list_at kinds.Word wants.Name (drop 1 ts)) _ (now, rest) z.1 in
            let p = ok_pair (record { requirements = s.requirements; types = s.types; constants = Some l.0.0; predicates = s.predicates; functions = s.functions; has_cost = s.has_cost; actions = s.actions }) now l.0.1 rest l.2 in
            inr (inr (inl ((l.0.0, (ts, opens, spells_says kinds.Key (codes ":constants") ts key_token w2.0), (none_iff s.constants).0 z.0, subst (λ q. IsList kinds.Word (drop 1 ts) q l.0.0) p.1 (list_sound kinds.Word wants.Name (drop 1 ts) l.0.1 l.0.0 words_listed l.1), sym p.0))))
        | inr v2 ↦ elim (if_cases (spells kinds.Key (codes ":predicates") ts) _ _ (Ok (now, rest)) v2.1) [
          | inl w3 ↦
              let z = not_refused (is_some s.predicates) _ _ (now, rest) w3.1 in
              let l = bind_ok (predicates_at (drop 1 ts)) _ (now, rest) z.1 in
              let p = ok_pair (record { requirements = s.requirements; types = s.types; constants = s.constants; predicates = Some l.0.0; functions = s.functions; has_cost = s.has_cost; actions = s.actions }) now l.0.1 rest l.2 in
              inr (inr (inr (inl ((l.0.0, (ts, opens, spells_says kinds.Key (codes ":predicates") ts key_token w3.0), (none_iff s.predicates).0 z.0, subst (λ q. Closed IsPredicate [] (drop 1 ts) q l.0.0) p.1 (predicates_sound (drop 1 ts) l.0.1 l.0.0 l.1), sym p.0)))))
          | inr v3 ↦ elim (if_cases (spells kinds.Key (codes ":functions") ts) _ _ (Ok (now, rest)) v3.1) [
            | inl w4 ↦
                let z = not_refused (s.functions) _ _ (now, rest) w4.1 in
                let l = bind_ok (functions_at (drop 1 ts)) _ (now, rest) z.1 in
                let p = ok_pair (record { requirements = s.requirements; types = s.types; constants = s.constants; predicates = s.predicates; functions = true; has_cost = l.0.0; actions = s.actions }) now l.0.1 rest l.2 in
                inr (inr (inr (inr (inl ((l.0.0, (ts, opens, spells_says kinds.Key (codes ":functions") ts key_token w4.0), z.0, subst (λ q. IsFunctions (drop 1 ts) q l.0.0) p.1 (functions_sound (drop 1 ts) l.0.1 l.0.0 l.1), sym p.0))))))
            | inr v4 ↦ elim (if_cases (spells kinds.Key (codes ":action") ts) _ _ (Ok (now, rest)) v4.1) [
              | inl w5 ↦ let a = bind_ok (add_action unlimited s.actions (drop 1 ts)) _ (now, rest) w5.1 in
                  let p = ok_pair (record { requirements = s.requirements; types = s.types; constants = s.constants; predicates = s.predicates; functions = s.functions; has_cost = s.has_cost; actions = a.0.0 }) now a.0.1 rest a.2 in
                  let r = action_sound s.actions (drop 1 ts) a.0.1 a.0.0 a.1 in
                  inr (inr (inr (inr (inr ((r.0, (ts, opens, spells_says kinds.Key (codes ":action") ts key_token w5.0), subst (λ q. IsAction (drop 1 ts) q r.0) p.1 r.1, sym p.0 ∙ ap (λ (x : List Action). record { requirements = s.requirements; types = s.types; constants = s.constants; predicates = s.predicates; functions = s.functions; has_cost = s.has_cost; actions = x }) r.2))))))
              | inr v5 ↦ absurd cc
            ]
          ]
        ]
      ]
    ]
  ],
)

pub domain_sound : IsSound begins_open (domain_section unlimited) IsDomainSection
unfolding domain_section
domain_sound s ts now rest m e =
    let o = bind_ok (need kinds.Open wants.Paren ts) _ (now, rest) e in
    domain_key_sound s o.0 now rest ts (need_takes kinds.Open wants.Paren ts o.0 open_token o.1) o.2

pub domain_complete : IsComplete begins_open (domain_section unlimited) IsDomainSection
unfolding domain_section domain_key requirements_section types_section constants_section predicates_section functions_section action_section spells begins front same_kind kind_number
domain_complete s ts now rest (first, cases) =
    elim cases [
      | inl ((found, at, none, is, now_is)) ↦
          behind_key (domain_key unlimited s) (codes ":requirements") ts first rest now at (keys_less first rest found is) (λ t.
          if_false s.requirements _ _ none ∙ bind_again (keys_at first) _ rest _ (keys_complete first rest found is) (ap (λ (x : DomainParts). Ok (x, rest)) (sym now_is)))
      | inr (inl ((found, at, none, is, now_is))) ↦
          behind_key (domain_key unlimited s) (codes ":types") ts first rest now at (list_less kinds.Word first rest found words_listed is) (λ t.
          if_false (is_some s.types) _ _ ((none_iff s.types).1 none) ∙ bind_again (list_at kinds.Word wants.Name first) _ (found, rest) _ (list_complete kinds.Word wants.Name first rest found words_listed is) (ap (λ (x : DomainParts). Ok (x, rest)) (sym now_is)))
      | inr (inr (inl ((found, at, none, is, now_is)))) ↦
          behind_key (domain_key unlimited s) (codes ":constants") ts first rest now at (list_less kinds.Word first rest found words_listed is) (λ t.
          if_false (is_some s.constants) _ _ ((none_iff s.constants).1 none) ∙ bind_again (list_at kinds.Word wants.Name first) _ (found, rest) _ (list_complete kinds.Word wants.Name first rest found words_listed is) (ap (λ (x : DomainParts). Ok (x, rest)) (sym now_is)))
      | inr (inr (inr (inl ((found, at, none, is, now_is))))) ↦
          behind_key (domain_key unlimited s) (codes ":predicates") ts first rest now at (predicates_less first rest found is) (λ t.
          if_false (is_some s.predicates) _ _ ((none_iff s.predicates).1 none) ∙ bind_again (predicates_at first) _ (found, rest) _ (predicates_complete first rest found is) (ap (λ (x : DomainParts). Ok (x, rest)) (sym now_is)))
      | inr (inr (inr (inr (inl ((has_cost, at, none, is, now_is)))))) ↦
          behind_key (domain_key unlimited s) (codes ":functions") ts first rest now at (functions_less first rest has_cost is) (λ t.
          if_false s.functions _ _ none ∙ bind_again (functions_at first) _ (has_cost, rest) _ (functions_complete first rest has_cost is) (ap (λ (x : DomainParts). Ok (x, rest)) (sym now_is)))
      | inr (inr (inr (inr (inr ((action, at, is, now_is)))))) ↦
          behind_key (domain_key unlimited s) (codes ":action") ts first rest now at (action_less first rest action is) (λ t.
          bind_again (add_action unlimited s.actions first) _ (s.actions ++ action ∷ [], rest) _ (action_complete s.actions first rest action is) (ap (λ (x : DomainParts). Ok (x, rest)) (sym now_is)))
    ]

pub problem_key_sound : (s : ProblemParts) (ts : List Token) (now : ProblemParts) (rest before : List Token) → Opens before ts → problem_key unlimited s ts ≡ Ok (now, rest) → IsProblemSection s before now rest
unfolding problem_key domain_name_section problem_requirements objects_section init_section goal_section metric_section unlimited
problem_key_sound s ts now rest before opens e = (
  drop 1 ts,
  elim (if_cases (spells kinds.Key (codes ":domain") ts) _ _ (Ok (now, rest)) e) [
    | inl w0 ↦
        let z = not_refused (is_some s.domain) _ _ (now, rest) w0.1 in
        let l = bind_ok (name_at kinds.Word wants.Name (drop 1 ts)) _ (now, rest) z.1 in
        let c = bind_ok (need kinds.Close wants.Close l.0.1) _ (now, rest) l.2 in
        let p = ok_pair (record { requirements = s.requirements; domain = Some l.0.0; objects = s.objects; init = s.init; goal = s.goal; costs = s.costs; metric = s.metric }) now c.0 rest c.2 in
        let t = need_takes kinds.Close wants.Close l.0.1 c.0 close_token c.1 in
        inl ((l.0.0, l.0.1, (ts, opens, spells_says kinds.Key (codes ":domain") ts key_token w0.0), (none_iff s.domain).0 z.0, name_takes kinds.Word wants.Name (drop 1 ts) l.0.1 l.0.0 word_token l.1, (t.0, subst (Takes kinds.Close l.0.1 t.0) p.1 t.1), sym p.0))
    | inr v0 ↦ elim (if_cases (spells kinds.Key (codes ":requirements") ts) _ _ (Ok (now, rest)) v0.1) [
      | inl w1 ↦
          let z = not_refused (s.requirements) _ _ (now, rest) w1.1 in
          let r = bind_ok (keys_at (drop 1 ts)) _ (now, rest) z.1 in
          let p = ok_pair (record { requirements = true; domain = s.domain; objects = s.objects; init = s.init; goal = s.goal; costs = s.costs; metric = s.metric }) now r.0 rest r.2 in
          let k = keys_sound (drop 1 ts) r.0 r.1 in
          inr (inl ((k.0, (ts, opens, spells_says kinds.Key (codes ":requirements") ts key_token w1.0), z.0, subst (λ q. Closed (AddsName kinds.Key) [] (drop 1 ts) q k.0) p.1 k.1, sym p.0)))
      | inr v1 ↦ elim (if_cases (spells kinds.Key (codes ":objects") ts) _ _ (Ok (now, rest)) v1.1) [
        | inl w2 ↦
            let z = not_refused (is_some s.objects) _ _ (now, rest) w2.1 in
            let l = bind_ok (list_at kinds.Word wants.Name (drop 1 ts)) _ (now, rest) z.1 in
            let p = ok_pair (record { requirements = s.requirements; domain = s.domain; objects = Some l.0.0; init = s.init; goal = s.goal; costs = s.costs; metric = s.metric }) now l.0.1 rest l.2 in
            inr (inr (inl ((l.0.0, (ts, opens, spells_says kinds.Key (codes ":objects") ts key_token w2.0), (none_iff s.objects).0 z.0, subst (λ q. IsList kinds.Word (drop 1 ts) q l.0.0) p.1 (list_sound kinds.Word wants.Name (drop 1 ts) l.0.1 l.0.0 words_listed l.1), sym p.0))))
        | inr v2 ↦ elim (if_cases (spells kinds.Key (codes ":init") ts) _ _ (Ok (now, rest)) v2.1) [
          | inl w3 ↦
              let z = not_refused (is_some s.init) _ _ (now, rest) w3.1 in
              let l = bind_ok (facts_at (drop 1 ts)) _ (now, rest) z.1 in
              let p = ok_pair (record { requirements = s.requirements; domain = s.domain; objects = s.objects; init = Some l.0.0.atoms; goal = s.goal; costs = l.0.0.costs; metric = s.metric }) now l.0.1 rest l.2 in
              inr (inr (inr (inl ((l.0.0, (ts, opens, spells_says kinds.Key (codes ":init") ts key_token w3.0), (none_iff s.init).0 z.0, subst (λ q. Closed IsFact no_init (drop 1 ts) q l.0.0) p.1 (facts_sound (drop 1 ts) l.0.1 l.0.0 l.1), sym p.0)))))
          | inr v3 ↦ elim (if_cases (spells kinds.Key (codes ":goal") ts) _ _ (Ok (now, rest)) v3.1) [
            | inl w4 ↦
                let z = not_refused (is_some s.goal) _ _ (now, rest) w4.1 in
                let l = bind_ok (cond_at false (length (drop 1 ts)) [] (drop 1 ts)) _ (now, rest) z.1 in
                let c = bind_ok (need kinds.Close wants.Close l.0.1) _ (now, rest) l.2 in
                let p = ok_pair (record { requirements = s.requirements; domain = s.domain; objects = s.objects; init = s.init; goal = Some l.0.0; costs = s.costs; metric = s.metric }) now c.0 rest c.2 in
                let t = need_takes kinds.Close wants.Close l.0.1 c.0 close_token c.1 in
                inr (inr (inr (inr (inl ((l.0.0, l.0.1, (ts, opens, spells_says kinds.Key (codes ":goal") ts key_token w4.0), (none_iff s.goal).0 z.0, cond_is false (length (drop 1 ts)) [] (drop 1 ts) l.0.0 l.0.1 l.1, (t.0, subst (Takes kinds.Close l.0.1 t.0) p.1 t.1), sym p.0))))))
            | inr v4 ↦ elim (if_cases (spells kinds.Key (codes ":metric") ts) _ _ (Ok (now, rest)) v4.1) [
              | inl w5 ↦
                  let z = not_refused (is_some s.metric) _ _ (now, rest) w5.1 in
                  let m = bind_ok (only_word (codes "minimize") left.Metric (drop 1 ts)) _ (now, rest) z.1 in
                  let l = bind_ok (total_cost_at m.0) _ (now, rest) m.2 in
                  let c = bind_ok (need kinds.Close wants.Close l.0.1) _ (now, rest) l.2 in
                  let p = ok_pair (record { requirements = s.requirements; domain = s.domain; objects = s.objects; init = s.init; goal = s.goal; costs = s.costs; metric = Some l.0.0 }) now c.0 rest c.2 in
                  let t = need_takes kinds.Close wants.Close l.0.1 c.0 close_token c.1 in
                  inr (inr (inr (inr (inr ((l.0.0, m.0, l.0.1, (ts, opens, spells_says kinds.Key (codes ":metric") ts key_token w5.0), (none_iff s.metric).0 z.0, only_sound (codes "minimize") left.Metric (drop 1 ts) m.0 m.1, total_sound m.0 l.0.1 l.0.0 l.1, (t.0, subst (Takes kinds.Close l.0.1 t.0) p.1 t.1), sym p.0))))))
              | inr v5 ↦ absurd cc
            ]
          ]
        ]
      ]
    ]
  ],
)

pub problem_sound : IsSound begins_open (problem_section unlimited) IsProblemSection
unfolding problem_section
problem_sound s ts now rest m e =
    let w = not_refused (stood_all s) _ _ (now, rest) e in
    let o = bind_ok (need kinds.Open wants.Paren ts) _ (now, rest) w.1 in
    problem_key_sound s o.0 now rest ts (need_takes kinds.Open wants.Paren ts o.0 open_token o.1) o.2

-- where a section did not stand, not each did
module _ (p : ProblemParts) where
  no_requirements_yet : p.requirements ≡ false → stood_all p ≡ false
  unfolding stood_all
  no_requirements_yet e = ap (λ b. b && is_some p.domain && is_some p.objects && is_some p.init && is_some p.goal && is_some p.metric) e

  pub no_domain_yet : p.domain ≡ None → stood_all p ≡ false
  unfolding stood_all
  no_domain_yet e = ap (λ b. p.requirements && b && is_some p.objects && is_some p.init && is_some p.goal && is_some p.metric) ((none_iff p.domain).1 e)
      ∙ ap (λ b. b && is_some p.objects && is_some p.init && is_some p.goal && is_some p.metric) (and-false p.requirements)

  no_objects_yet : p.objects ≡ None → stood_all p ≡ false
  unfolding stood_all
  no_objects_yet e = ap (λ b. p.requirements && is_some p.domain && b && is_some p.init && is_some p.goal && is_some p.metric) ((none_iff p.objects).1 e)
      ∙ ap (λ b. b && is_some p.init && is_some p.goal && is_some p.metric) (and-false (p.requirements && is_some p.domain))

  no_init_yet : p.init ≡ None → stood_all p ≡ false
  unfolding stood_all
  no_init_yet e = ap (λ b. p.requirements && is_some p.domain && is_some p.objects && b && is_some p.goal && is_some p.metric) ((none_iff p.init).1 e)
      ∙ ap (λ b. b && is_some p.goal && is_some p.metric) (and-false (p.requirements && is_some p.domain && is_some p.objects))

  pub no_goal_yet : p.goal ≡ None → stood_all p ≡ false
  unfolding stood_all
  no_goal_yet e = ap (λ b. p.requirements && is_some p.domain && is_some p.objects && is_some p.init && b && is_some p.metric) ((none_iff p.goal).1 e)
      ∙ ap (λ b. b && is_some p.metric) (and-false (p.requirements && is_some p.domain && is_some p.objects && is_some p.init))

  no_metric_yet : p.metric ≡ None → stood_all p ≡ false
  unfolding stood_all
  no_metric_yet e = ap (λ b. p.requirements && is_some p.domain && is_some p.objects && is_some p.init && is_some p.goal && b) ((none_iff p.metric).1 e)
      ∙ and-false (p.requirements && is_some p.domain && is_some p.objects && is_some p.init && is_some p.goal)

behind_more : (s : ProblemParts) (ts : List Token) (now : ProblemParts) (rest : List Token) → stood_all s ≡ false
    → (begins_open ts ≡ true) × ((need kinds.Open wants.Paren ts >>= problem_key unlimited s) ≡ Ok (now, rest)) × (length rest < length ts)
    → (begins_open ts ≡ true) × (problem_section unlimited s ts ≡ Ok (now, rest)) × (length rest < length ts)
unfolding problem_section
behind_more s ts now rest open_still read = (read.0, if_false (stood_all s) _ _ open_still ∙ read.1, read.2)

pub problem_complete : IsComplete begins_open (problem_section unlimited) IsProblemSection
unfolding problem_key domain_name_section problem_requirements objects_section init_section goal_section metric_section unlimited spells begins front same_kind kind_number
problem_complete s ts now rest (first, cases) =
    elim cases [
      | inl ((found, last, at, none, is, closes, now_is)) ↦
          behind_more s ts now rest (no_domain_yet s none) (behind_key (problem_key unlimited s) (codes ":domain") ts first rest now at (let one : length last < length first = takes_less kinds.Word first is.0 last is.1 in let two : length rest < length last = takes_less kinds.Close last closes.0 rest closes.1 in omega arith) (λ t.
          if_false (is_some s.domain) _ _ ((none_iff s.domain).1 none) ∙ bind_again (name_at kinds.Word wants.Name first) _ (found, last) _ (takes_name kinds.Word wants.Name first last found is)
          (bind_again (need kinds.Close wants.Close last) _ rest _ (takes_need kinds.Close wants.Close last closes.0 rest closes.1) (ap (λ (x : ProblemParts). Ok (x, rest)) (sym now_is)))))
      | inr (inl ((found, at, none, is, now_is))) ↦
          behind_more s ts now rest (no_requirements_yet s none) (behind_key (problem_key unlimited s) (codes ":requirements") ts first rest now at (keys_less first rest found is) (λ t.
          if_false s.requirements _ _ none ∙ bind_again (keys_at first) _ rest _ (keys_complete first rest found is) (ap (λ (x : ProblemParts). Ok (x, rest)) (sym now_is))))
      | inr (inr (inl ((found, at, none, is, now_is)))) ↦
          behind_more s ts now rest (no_objects_yet s none) (behind_key (problem_key unlimited s) (codes ":objects") ts first rest now at (list_less kinds.Word first rest found words_listed is) (λ t.
          if_false (is_some s.objects) _ _ ((none_iff s.objects).1 none) ∙ bind_again (list_at kinds.Word wants.Name first) _ (found, rest) _ (list_complete kinds.Word wants.Name first rest found words_listed is) (ap (λ (x : ProblemParts). Ok (x, rest)) (sym now_is))))
      | inr (inr (inr (inl ((found, at, none, is, now_is))))) ↦
          behind_more s ts now rest (no_init_yet s none) (behind_key (problem_key unlimited s) (codes ":init") ts first rest now at (facts_less first rest found is) (λ t.
          if_false (is_some s.init) _ _ ((none_iff s.init).1 none) ∙ bind_again (facts_at first) _ (found, rest) _ (facts_complete first rest found is) (ap (λ (x : ProblemParts). Ok (x, rest)) (sym now_is))))
      | inr (inr (inr (inr (inl ((found, last, at, none, is, closes, now_is)))))) ↦
          behind_more s ts now rest (no_goal_yet s none) (behind_key (problem_key unlimited s) (codes ":goal") ts first rest now at (let one : length last < length first = (cond_complete false (length first) [] first found last is).2 in let two : length rest < length last = takes_less kinds.Close last closes.0 rest closes.1 in omega arith) (λ t.
          if_false (is_some s.goal) _ _ ((none_iff s.goal).1 none) ∙ bind_again (cond_at false (length first) [] first) _ (found, last) _ (cond_complete false (length first) [] first found last is).1
          (bind_again (need kinds.Close wants.Close last) _ rest _ (takes_need kinds.Close wants.Close last closes.0 rest closes.1) (ap (λ (x : ProblemParts). Ok (x, rest)) (sym now_is)))))
      | inr (inr (inr (inr (inr ((place, word, last, at, none, minimize, total, closes, now_is)))))) ↦
          behind_more s ts now rest (no_metric_yet s none) (behind_key (problem_key unlimited s) (codes ":metric") ts first rest now at (let one : length word < length first = takes_less kinds.Word first minimize.0 word minimize.1 in let two : length last < length word = total_less word last place total in let three : length rest < length last = takes_less kinds.Close last closes.0 rest closes.1 in omega arith) (λ t.
          if_false (is_some s.metric) _ _ ((none_iff s.metric).1 none) ∙ bind_again (only_word (codes "minimize") left.Metric first) _ word _ (only_complete (codes "minimize") left.Metric first word minimize)
          (bind_again (total_cost_at word) _ (place, last) _ (total_complete word last place total) (bind_again (need kinds.Close wants.Close last) _ rest _ (takes_need kinds.Close wants.Close last closes.0 rest closes.1) (ap (λ (x : ProblemParts). Ok (x, rest)) (sym now_is))))))
    ]

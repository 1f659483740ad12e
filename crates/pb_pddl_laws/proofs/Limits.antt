-- In the tokens of a text, the limit on nested parentheses never decides: what is read within it is what is read without.
use Rattle.std.proofs.Common.{◌≡◌, ℕ, Bool, true, false, cond, List, [], ◌∷◌, ◌++◌, length, drop, Result, Ok, Err, refl, sym, ap, subst, ◌∙◌, arith, inl, inr, true≢false}
use Rattle.std.proofs.lemmas.Bool.{cases_Bool}
use Rattle.std.specs.Prelude.{codes, Some, is_some}
use Rattle.pb_pddl.specs.declared.token.TokenKind.TheVariants as kinds
use Rattle.pb_pddl.specs.declared.token.Token.{Token}
use Rattle.pb_pddl.specs.declared.tree.Name.{Name}
use Rattle.pb_pddl.specs.declared.tree.Atom.{Atom}
use Rattle.pb_pddl.specs.declared.parts.EffectParts.{EffectParts}
use Rattle.pb_pddl.specs.declared.tree.Action.{Action}
use Rattle.pb_pddl.specs.declared.parts.ActionParts.{ActionParts}
use Rattle.pb_pddl.specs.declared.parts.DomainParts.{DomainParts}
use Rattle.pb_pddl.specs.declared.parts.ProblemParts.{ProblemParts}
use Rattle.pb_pddl.specs.declared.error.SyntaxError.{SyntaxError}
use Rattle.pb_pddl.specs.declared.error.Want.TheVariants as wants
use Rattle.pb_pddl.specs.declared.error.LeftOut.TheVariants as left
use Rattle.pb_pddl.specs.Tokens.{TextTokens, start}
use Rattle.pb_pddl.specs.Reading.{◌>>=◌, Read, same_kind, kind_number, front, begins, begins_open, begins_key, spells, need, name_at, once, left_at, no_section, limited, unlimited, cond_at, effect_at, params_part, pre_part, effect_part, part_at, no_effects, no_parts, parts_want, or_empty, add_action, requirements_section, types_section, constants_section, predicates_section, functions_section, action_section, domain_key, domain_section, title_at, end_at, no_domain, domain_at, domain_name_section, problem_requirements, objects_section, init_section, goal_section, metric_section, problem_key, problem_section, stood_all, no_problem, sections_want, there, problem_at, fault_at}
use Rattle.pb_pddl.specs.Places
use Rattle.pb_pddl.specs.Places.{fits, is_kind, refused}
use Rattle.pb_pddl_laws.proofs.Singles.{need_takes, open_token, name_takes, word_token}
use Rattle.pb_pddl_laws.proofs.Readers.{Reads, err_ok}
use Rattle.pb_pddl_laws.proofs.ActionPlaces.{part_refused, agrees_part}
use Rattle.pb_pddl_laws.proofs.DomainPlaces.{section_step, agrees_domain_section}
use Rattle.pb_pddl_laws.proofs.ProblemPlaces
use Rattle.pb_pddl_laws.proofs.Nesting.{Shallow, text_shallow, shallow_behind, takes_shallow, all_agree}
use Rattle.pb_pddl_laws.proofs.Rooms.{cond_agree, effect_agree}
use Rattle.pb_pddl_laws.proofs.Faults.{agrees_title}

-- what follows agrees
then_agree : {X Y : Type 0} (r : Result X SyntaxError) (f g : X → Result Y SyntaxError) → ((x : X) → r ≡ Ok x → f x ≡ g x) → (r >>= f) ≡ (r >>= g)
then_agree (Ok x) f g same = same x refl
then_agree (Err e) f g same = refl

rest_shallow : {X : Type 0} (f : List Token → Read X) (ts : List Token) (x : X) (rest : List Token) → Reads X (length ts) f → Shallow 0 ts → f ts ≡ Ok (x, rest) → Shallow 0 rest
rest_shallow f ts x rest r is e = let a = r.frames ts x rest (omega arith) e in shallow_behind 0 a.0 rest (subst (Shallow 0) a.1 is)

drop_shallow : (ts : List Token) → Shallow 0 ts → Shallow 0 (drop 1 ts)
drop_shallow [] is = tt
drop_shallow (t ∷ ts) is = shallow_behind 0 (t ∷ []) ts is

no_key : begins_key [] ≡ false
unfolding begins_key begins front same_kind kind_number
no_key = refl

is_key : (t : Token) (us : List Token) → begins_key (t ∷ us) ≡ true → is_kind kinds.Key t ≡ true
unfolding begins_key begins front
is_key t us e = e

is_open : (t : Token) (us : List Token) → begins_open (t ∷ us) ≡ true → is_kind kinds.Open t ≡ true
unfolding begins front
is_open t us e = e

-- ---- actions

cond_same : (variables : Bool) (ts : List Token) → Shallow 0 ts → cond_at variables (unlimited ts) [] ts ≡ cond_at variables (limited ts) [] ts
unfolding limited unlimited
cond_same variables ts is = cond_agree variables (length ts) 32 0 [] ts (inr (omega arith)) (inl (omega arith, is))

effect_same : (ts : List Token) → Shallow 0 ts → effect_at (unlimited ts) no_effects ts ≡ effect_at (limited ts) no_effects ts
unfolding limited unlimited
effect_same ts is = effect_agree (length ts) 32 0 no_effects ts (inr (omega arith)) (inl (omega arith, is))

part_same : (s : ActionParts) (ts : List Token) → Shallow 0 ts → part_at unlimited s ts ≡ part_at limited s ts
unfolding part_at pre_part effect_part
part_same s ts is =
    ap (λ (r : Read (List Atom)).
    cond (spells kinds.Key (codes ":parameters") ts) (params_part s ts)
    (cond (spells kinds.Key (codes ":precondition") ts) (cond (is_some s.pre) (Err (once ts)) (r >>= λ all. Ok (record { params = s.params; pre = Some all.0; effect = s.effect; costs = s.costs }, all.1)))
    (cond (spells kinds.Key (codes ":effect") ts) (effect_part unlimited s ts) (Err (left_at left.Part ts))))) (cond_same true (drop 1 ts) (drop_shallow ts is))
    ∙ ap (λ (r : Read EffectParts).
    cond (spells kinds.Key (codes ":parameters") ts) (params_part s ts)
    (cond (spells kinds.Key (codes ":precondition") ts) (pre_part limited s ts)
    (cond (spells kinds.Key (codes ":effect") ts) (cond (is_some s.effect) (Err (once ts)) (r >>= λ all. Ok (record { params = s.params; pre = s.pre; effect = Some all.0.literals; costs = all.0.costs }, all.1))) (Err (left_at left.Part ts))))) (effect_same (drop 1 ts) (drop_shallow ts is))

part_keeps : (s : ActionParts) (ts : List Token) (now : ActionParts) (rest : List Token) → begins_key ts ≡ true → Shallow 0 ts → part_at unlimited s ts ≡ Ok (now, rest) → Shallow 0 rest
part_keeps s [] now rest goes is e = absurd (true≢false (sym goes ∙ no_key))
part_keeps s (t ∷ us) now rest goes is e =
    let key = is_key t us goes in
    elim (cases_Bool (fits (Places.MoreParts s) t)) [
      | inl fit ↦ rest_shallow (λ vs. part_at unlimited s (t ∷ vs)) us now rest ((agrees_part s t key fit).reads (length us)) (drop_shallow (t ∷ us) is) e
      | inr misfit ↦ absurd (err_ok (refused (Places.MoreParts s) t) (now, rest) (sym e ∙ part_refused s t us key misfit))
    ]

name_shallow : (ts rest : List Token) (name : Name) → name_at kinds.Word wants.Name ts ≡ Ok (name, rest) → Shallow 0 ts → Shallow 0 rest
name_shallow ts rest name e is = let n = name_takes kinds.Word wants.Name ts rest name word_token e in (takes_shallow 0 kinds.Word ts n.0 rest n.1 is).1

action_same : (said : List Action) (ts : List Token) → Shallow 0 ts → add_action unlimited said ts ≡ add_action limited said ts
unfolding add_action
action_same said ts is =
    then_agree (name_at kinds.Word wants.Name ts) _ _ (λ name e.
    ap (λ (r : Read ActionParts). r >>= λ all. need kinds.Close (parts_want all.0) all.1 >>= λ rest. Ok (said ++ record { name = name.0; params = or_empty all.0.params; pre = or_empty all.0.pre; effect = or_empty all.0.effect; costs = all.0.costs } ∷ [], rest))
    (all_agree begins_key (part_at unlimited) (part_at limited) (Shallow 0) part_keeps (λ s us goes shallow. part_same s us shallow) no_parts name.1 (name_shallow ts name.1 name.0 e is)))

-- ---- domains

domain_key_same : (s : DomainParts) (ts : List Token) → Shallow 0 ts → domain_key unlimited s ts ≡ domain_key limited s ts
unfolding domain_key action_section
domain_key_same s ts is =
    ap (λ (r : Read (List Action)).
    cond (spells kinds.Key (codes ":requirements") ts) (requirements_section s ts)
    (cond (spells kinds.Key (codes ":types") ts) (types_section s ts)
    (cond (spells kinds.Key (codes ":constants") ts) (constants_section s ts)
    (cond (spells kinds.Key (codes ":predicates") ts) (predicates_section s ts)
    (cond (spells kinds.Key (codes ":functions") ts) (functions_section s ts)
    (cond (spells kinds.Key (codes ":action") ts)
    (r >>= λ all. Ok (record { requirements = s.requirements; types = s.types; constants = s.constants; predicates = s.predicates; functions = s.functions; has_cost = s.has_cost; actions = all.0 }, all.1)) (Err (no_section ts))))))))
    (action_same s.actions (drop 1 ts) (drop_shallow ts is))

inside_shallow : (ts inside : List Token) → need kinds.Open wants.Paren ts ≡ Ok inside → Shallow 0 ts → Shallow 0 inside
inside_shallow ts inside e is =
    let t = need_takes kinds.Open wants.Paren ts inside open_token e in
    shallow_behind 0 (t.0 ∷ []) inside (subst (Shallow 0) t.1.0 is)

domain_section_same : (s : DomainParts) (ts : List Token) → Shallow 0 ts → domain_section unlimited s ts ≡ domain_section limited s ts
unfolding domain_section
domain_section_same s ts is = then_agree (need kinds.Open wants.Paren ts) _ _ (λ inside e. domain_key_same s inside (inside_shallow ts inside e is))

domain_keeps : (s : DomainParts) (ts : List Token) (now : DomainParts) (rest : List Token) → begins_open ts ≡ true → Shallow 0 ts → domain_section unlimited s ts ≡ Ok (now, rest) → Shallow 0 rest
domain_keeps s [] now rest goes is e = absurd (true≢false (sym goes ∙ ProblemPlaces.none_opens))
domain_keeps s (t ∷ us) now rest goes is e =
    rest_shallow (domain_key unlimited s) us now rest ((agrees_domain_section s).reads (length us)) (drop_shallow (t ∷ us) is) (sym (section_step s t us (is_open t us goes)) ∙ e)

domain_same_at : (ts : List Token) → Shallow 0 ts → domain_at unlimited ts ≡ domain_at limited ts
unfolding domain_at
domain_same_at ts is =
    then_agree (title_at (codes "domain") ts) _ _ (λ name e.
    ap (λ (r : Read DomainParts). r >>= λ all. need kinds.Close wants.Paren all.1 >>= λ rest. end_at rest >>= λ end.
    Ok (record { name = name.0; types = or_empty all.0.types; constants = or_empty all.0.constants; predicates = or_empty all.0.predicates; actions = all.0.actions; has_cost = all.0.has_cost }))
    (all_agree begins_open (domain_section unlimited) (domain_section limited) (Shallow 0) domain_keeps (λ s us goes shallow. domain_section_same s us shallow) no_domain name.1
    (rest_shallow (title_at (codes "domain")) ts name.0 name.1 ((agrees_title (codes "domain") refl).reads (length ts)) is e)))

pub domain_limit : (text : List ℕ) (ts : List Token) → TextTokens text ts → domain_at unlimited ts ≡ domain_at limited ts
domain_limit text ts are = domain_same_at ts (text_shallow start text ts are)

-- ---- problems

goal_same : (s : ProblemParts) (ts : List Token) → Shallow 0 ts → problem_key unlimited s ts ≡ problem_key limited s ts
unfolding problem_key goal_section
goal_same s ts is =
    ap (λ (r : Read (List Atom)).
    cond (spells kinds.Key (codes ":domain") ts) (domain_name_section s ts)
    (cond (spells kinds.Key (codes ":requirements") ts) (problem_requirements s ts)
    (cond (spells kinds.Key (codes ":objects") ts) (objects_section s ts)
    (cond (spells kinds.Key (codes ":init") ts) (init_section s ts)
    (cond (spells kinds.Key (codes ":goal") ts)
    (cond (is_some s.goal) (Err (once ts)) (r >>= λ all. need kinds.Close wants.Close all.1 >>= λ rest. Ok (record { requirements = s.requirements; domain = s.domain; objects = s.objects; init = s.init; goal = Some all.0; costs = s.costs; metric = s.metric }, rest)))
    (cond (spells kinds.Key (codes ":metric") ts) (metric_section s ts) (Err (no_section ts))))))))
    (cond_same false (drop 1 ts) (drop_shallow ts is))

problem_section_same : (s : ProblemParts) (ts : List Token) → Shallow 0 ts → problem_section unlimited s ts ≡ problem_section limited s ts
unfolding problem_section
problem_section_same s ts is =
    ap (λ (r : Read ProblemParts). cond (stood_all s) (Err (fault_at wants.Close ts)) r) (then_agree (need kinds.Open wants.Paren ts) _ _ (λ inside e. goal_same s inside (inside_shallow ts inside e is)))

problem_keeps : (s : ProblemParts) (ts : List Token) (now : ProblemParts) (rest : List Token) → begins_open ts ≡ true → Shallow 0 ts → problem_section unlimited s ts ≡ Ok (now, rest) → Shallow 0 rest
problem_keeps s [] now rest goes is e = absurd (true≢false (sym goes ∙ ProblemPlaces.none_opens))
problem_keeps s (t ∷ us) now rest goes is e =
    let opens = is_open t us goes in
    elim (cases_Bool (fits (Places.MoreSections s) t)) [
      | inl fit ↦ rest_shallow (problem_key unlimited s) us now rest ((ProblemPlaces.agrees_problem_section s (ProblemPlaces.not_all s t opens fit)).reads (length us)) (drop_shallow (t ∷ us) is) (sym (ProblemPlaces.section_step s t us opens fit) ∙ e)
      | inr misfit ↦ absurd (err_ok (refused (Places.MoreSections s) t) (now, rest) (sym e ∙ ProblemPlaces.section_refused s t us opens misfit))
    ]

problem_same_at : (ts : List Token) → Shallow 0 ts → problem_at unlimited ts ≡ problem_at limited ts
unfolding problem_at
problem_same_at ts is =
    then_agree (title_at (codes "problem") ts) _ _ (λ name e.
    ap (λ (r : Read ProblemParts). r >>= λ all. need kinds.Close (sections_want all.0) all.1 >>= λ rest. there all.0.domain all.1 >>= λ domain. there all.0.goal all.1 >>= λ goal. end_at rest >>= λ end.
    Ok (record { name = name.0; domain = domain; objects = or_empty all.0.objects; init = or_empty all.0.init; goal = goal; costs = all.0.costs; metric = all.0.metric }))
    (all_agree begins_open (problem_section unlimited) (problem_section limited) (Shallow 0) problem_keeps (λ s us goes shallow. problem_section_same s us shallow) no_problem name.1
    (rest_shallow (title_at (codes "problem")) ts name.0 name.1 ((agrees_title (codes "problem") refl).reads (length ts)) is e)))

pub problem_limit : (text : List ℕ) (ts : List Token) → TextTokens text ts → problem_at unlimited ts ≡ problem_at limited ts
problem_limit text ts are = problem_same_at ts (text_shallow start text ts are)

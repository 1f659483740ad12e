-- Whole forms: what is read is what the grammar has, and the other way round.
use Rattle.std.proofs.Common.{◌≡◌, ℕ, Bool, List, drop, Ok, refl, sym, ap, subst, ◌∙◌, inl, inr}
use Rattle.std.specs.Prelude.{Option, Some, None, codes}
use Rattle.pb_pddl.specs.declared.token.TokenKind.TheVariants as kinds
use Rattle.pb_pddl.specs.declared.token.Token.{Token}
use Rattle.pb_pddl.specs.declared.tree.Name.{Name}
use Rattle.pb_pddl.specs.declared.tree.Typed.{Typed}
use Rattle.pb_pddl.specs.declared.tree.Atom.{Atom}
use Rattle.pb_pddl.specs.declared.tree.Predicate.{Predicate}
use Rattle.pb_pddl.specs.declared.tree.Action.{Action}
use Rattle.pb_pddl.specs.declared.tree.Cost.{Cost}
use Rattle.pb_pddl.specs.declared.error.Want.TheVariants as wants
use Rattle.pb_pddl_laws.proofs.Singles.{guard_ok, kinds_same, same_self, ok_pair, bind_ok, bind_again, need_takes, takes_need, name_takes, takes_name, open_token, close_token, word_token, spells_says, says_spells, ok_is}
use Rattle.pb_pddl_laws.proofs.ManyRead.{all_sound, all_complete}
use Rattle.pb_pddl_laws.proofs.CondsRead.{if_cases, if_true}
use Rattle.pb_pddl.specs.declared.tree.Domain.{Domain}
use Rattle.pb_pddl.specs.declared.tree.Problem.{Problem}
use Rattle.pb_pddl.specs.declared.parts.DomainParts.{DomainParts}
use Rattle.pb_pddl.specs.Reading.{same_kind, front, begins, spells, need, need_word, name_at, all_of, begins_open, sections_want, unlimited, or_empty, domain_section, problem_section, title_at, end_at, no_domain, no_problem, there, domain_at, problem_at}
use Rattle.pb_pddl.specs.Grammar.{Takes, Says, Names, IsDomainSection, IsProblemSection, Titles, Ends, IsDomain, IsProblem}
use Rattle.pb_pddl_laws.proofs.PiecesRead.{open_stops}
use Rattle.pb_pddl_laws.proofs.SectionsRead.{domain_sound, domain_complete, problem_sound, problem_complete}

pub title_sound : (word : List ℕ) (ts rest : List Token) (name : Name) → title_at word ts ≡ Ok (name, rest) → Titles word ts rest name
unfolding title_at need_word
title_sound word ts rest name e =
    let a = bind_ok (need kinds.Open wants.Paren ts) _ (name, rest) e in
    let b = bind_ok (need_word (codes "define") a.0) _ (name, rest) a.2 in
    let c = bind_ok (need kinds.Open wants.Paren b.0) _ (name, rest) b.2 in
    let d = bind_ok (need_word word c.0) _ (name, rest) c.2 in
    let n = bind_ok (name_at kinds.Word wants.Name d.0) _ (name, rest) d.2 in
    let f = bind_ok (need kinds.Close wants.Close n.0.1) _ (name, rest) n.2 in
    let p = ok_pair n.0.0 name f.0 rest f.2 in
    let t = need_takes kinds.Close wants.Close n.0.1 f.0 close_token f.1 in
    let one = guard_ok (spells kinds.Word (codes "define") a.0) (drop 1 a.0) b.0 _ b.1 in
    let two = guard_ok (spells kinds.Word word c.0) (drop 1 c.0) d.0 _ d.1 in
    record {
      one = a.0;
      two = b.0;
      three = c.0;
      four = d.0;
      five = n.0.1;
      open_form = need_takes kinds.Open wants.Paren ts a.0 open_token a.1;
      define = subst (Says kinds.Word (codes "define") a.0) one.1 (spells_says kinds.Word (codes "define") a.0 word_token one.0);
      open_title = need_takes kinds.Open wants.Paren b.0 c.0 open_token c.1;
      word_is = subst (Says kinds.Word word c.0) two.1 (spells_says kinds.Word word c.0 word_token two.0);
      name_is = subst (Names kinds.Word d.0 n.0.1) p.0 (name_takes kinds.Word wants.Name d.0 n.0.1 n.0.0 word_token n.1);
      close = (t.0, subst (Takes kinds.Close n.0.1 t.0) p.1 t.1);
    }

says_need : (word : List ℕ) (ts rest : List Token) → Says kinds.Word word ts rest → need_word word ts ≡ Ok rest
unfolding need_word
says_need word ts rest says = let w = says_spells kinds.Word word ts rest says in if_true (spells kinds.Word word ts) _ _ w.0 ∙ ap (λ (r : List Token). Ok r) w.1

pub title_complete : (word : List ℕ) (ts rest : List Token) (name : Name) → Titles word ts rest name → title_at word ts ≡ Ok (name, rest)
unfolding title_at
title_complete word ts rest name t =
    bind_again (need kinds.Open wants.Paren ts) _ t.one _ (takes_need kinds.Open wants.Paren ts t.open_form.0 t.one t.open_form.1)
    (bind_again (need_word (codes "define") t.one) _ t.two _ (says_need (codes "define") t.one t.two t.define)
    (bind_again (need kinds.Open wants.Paren t.two) _ t.three _ (takes_need kinds.Open wants.Paren t.two t.open_title.0 t.three t.open_title.1)
    (bind_again (need_word word t.three) _ t.four _ (says_need word t.three t.four t.word_is)
    (bind_again (name_at kinds.Word wants.Name t.four) _ (name, t.five) _ (takes_name kinds.Word wants.Name t.four t.five name t.name_is)
    (bind_again (need kinds.Close wants.Close t.five) _ rest _ (takes_need kinds.Close wants.Close t.five t.close.0 rest t.close.1) refl)))))

end_sound : (ts us : List Token) → end_at ts ≡ Ok us → Ends ts
unfolding end_at begins
end_sound ts us e =
    elim (if_cases (begins kinds.End ts) _ _ (Ok us) e) [
      | inl w ↦ kinds_same (front ts).kind kinds.End w.0
      | inr w ↦ elim (if_cases (begins kinds.Byte ts) _ _ (Ok us) w.1) [
        | inl v ↦ absurd cc
        | inr v ↦ elim (if_cases (begins kinds.Deep ts) _ _ (Ok us) v.1) [ inl u ↦ absurd cc | inr u ↦ absurd cc ]
      ]
    ]

end_complete : (ts : List Token) → Ends ts → end_at ts ≡ Ok ts
unfolding end_at begins
end_complete ts is = if_true (begins kinds.End ts) _ _ (ap (λ k. same_kind k kinds.End) is ∙ same_self kinds.End)

abbrev domain_of : Name → DomainParts → Domain
domain_of name all = record { name = name; types = or_empty all.types; constants = or_empty all.constants; predicates = or_empty all.predicates; actions = all.actions; has_cost = all.has_cost }

pub domain_is : (ts : List Token) (domain : Domain) → domain_at unlimited ts ≡ Ok domain → IsDomain ts domain
unfolding domain_at
domain_is ts domain e =
    let n = bind_ok (title_at (codes "domain") ts) _ domain e in
    let a = bind_ok (all_of begins_open (domain_section unlimited) no_domain n.0.1) _ domain n.2 in
    let c = bind_ok (need kinds.Close wants.Paren a.0.1) _ domain a.2 in
    let z = bind_ok (end_at c.0) _ domain c.2 in
    let p = ok_is (domain_of n.0.0 a.0.0) domain z.2 in
    let made : IsDomain ts (domain_of n.0.0 a.0.0) = record {
      first = n.0.1;
      last = c.0;
      parts = a.0.0;
      title = title_sound (codes "domain") ts n.0.1 n.0.0 n.1;
      sections = (a.0.1, all_sound begins_open (domain_section unlimited) IsDomainSection no_domain n.0.1 a.0.0 a.0.1 domain_sound a.1, need_takes kinds.Close wants.Paren a.0.1 c.0 close_token c.1);
      ends = end_sound c.0 z.0 z.1;
      types = refl;
      constants = refl;
      predicates = refl;
      actions = refl;
      has_cost = refl;
    } in
    subst (IsDomain ts) p made

pub domain_again : (ts : List Token) (domain : Domain) → IsDomain ts domain → domain_at unlimited ts ≡ Ok domain
unfolding domain_at
domain_again ts domain is =
    let c = is.sections.2 in
    let same : domain_of domain.name is.parts ≡ domain =
    ap (λ (x : List Typed). record { name = domain.name; types = x; constants = or_empty is.parts.constants; predicates = or_empty is.parts.predicates; actions = is.parts.actions; has_cost = is.parts.has_cost }) (sym is.types)
    ∙ ap (λ (x : List Typed). record { name = domain.name; types = domain.types; constants = x; predicates = or_empty is.parts.predicates; actions = is.parts.actions; has_cost = is.parts.has_cost }) (sym is.constants)
    ∙ ap (λ (x : List Predicate). record { name = domain.name; types = domain.types; constants = domain.constants; predicates = x; actions = is.parts.actions; has_cost = is.parts.has_cost }) (sym is.predicates)
    ∙ ap (λ (x : List Action). record { name = domain.name; types = domain.types; constants = domain.constants; predicates = domain.predicates; actions = x; has_cost = is.parts.has_cost }) (sym is.actions)
    ∙ ap (λ (x : Bool). record { name = domain.name; types = domain.types; constants = domain.constants; predicates = domain.predicates; actions = domain.actions; has_cost = x }) (sym is.has_cost) in
    bind_again (title_at (codes "domain") ts) _ (domain.name, is.first) _ (title_complete (codes "domain") ts is.first domain.name is.title)
    (bind_again (all_of begins_open (domain_section unlimited) no_domain is.first) _ (is.parts, is.sections.0) _ (all_complete begins_open (domain_section unlimited) IsDomainSection no_domain is.first is.parts is.sections.0 domain_complete (open_stops is.sections.0 is.last c.0 c.1) is.sections.1)
    (bind_again (need kinds.Close wants.Paren is.sections.0) _ is.last _ (takes_need kinds.Close wants.Paren is.sections.0 c.0 is.last c.1)
    (bind_again (end_at is.last) _ is.last _ (end_complete is.last is.ends) (ap (λ (d : Domain). Ok d) same))))

there_is : {A : Type 0} (o : Option A) (ts : List Token) (x : A) → there o ts ≡ Ok x → o ≡ Some x
unfolding there
there_is None ts x e = absurd cc
there_is (Some y) ts x e = ap Some (ok_is y x e)

there_again : {A : Type 0} (o : Option A) (ts : List Token) (x : A) → o ≡ Some x → there o ts ≡ Ok x
unfolding there
there_again o ts x e = ap (λ q. there q ts) e

pub problem_is : (ts : List Token) (problem : Problem) → problem_at unlimited ts ≡ Ok problem → IsProblem ts problem
unfolding problem_at
problem_is ts problem e =
    let n = bind_ok (title_at (codes "problem") ts) _ problem e in
    let a = bind_ok (all_of begins_open (problem_section unlimited) no_problem n.0.1) _ problem n.2 in
    let c = bind_ok (need kinds.Close (sections_want a.0.0) a.0.1) _ problem a.2 in
    let d = bind_ok (there a.0.0.domain a.0.1) _ problem c.2 in
    let g = bind_ok (there a.0.0.goal a.0.1) _ problem d.2 in
    let z = bind_ok (end_at c.0) _ problem g.2 in
    let read : Problem = record { name = n.0.0; domain = d.0; objects = or_empty a.0.0.objects; init = or_empty a.0.0.init; goal = g.0; costs = a.0.0.costs; metric = a.0.0.metric } in
    let p = ok_is read problem z.2 in
    let made : IsProblem ts read = record {
      first = n.0.1;
      last = c.0;
      parts = a.0.0;
      title = title_sound (codes "problem") ts n.0.1 n.0.0 n.1;
      sections = (a.0.1, all_sound begins_open (problem_section unlimited) IsProblemSection no_problem n.0.1 a.0.0 a.0.1 problem_sound a.1, need_takes kinds.Close (sections_want a.0.0) a.0.1 c.0 close_token c.1);
      ends = end_sound c.0 z.0 z.1;
      domain = there_is a.0.0.domain a.0.1 d.0 d.1;
      objects = refl;
      init = refl;
      goal = there_is a.0.0.goal a.0.1 g.0 g.1;
      costs = refl;
      metric = refl;
    } in
    subst (IsProblem ts) p made

pub problem_again : (ts : List Token) (problem : Problem) → IsProblem ts problem → problem_at unlimited ts ≡ Ok problem
unfolding problem_at
problem_again ts problem is =
    let c = is.sections.2 in
    let same : (let p : Problem = record { name = problem.name; domain = problem.domain; objects = or_empty is.parts.objects; init = or_empty is.parts.init; goal = problem.goal; costs = is.parts.costs; metric = is.parts.metric } in p) ≡ problem =
    ap (λ (x : List Typed). record { name = problem.name; domain = problem.domain; objects = x; init = or_empty is.parts.init; goal = problem.goal; costs = is.parts.costs; metric = is.parts.metric }) (sym is.objects)
    ∙ ap (λ (x : List Atom). record { name = problem.name; domain = problem.domain; objects = problem.objects; init = x; goal = problem.goal; costs = is.parts.costs; metric = is.parts.metric }) (sym is.init)
    ∙ ap (λ (x : List Cost). record { name = problem.name; domain = problem.domain; objects = problem.objects; init = problem.init; goal = problem.goal; costs = x; metric = is.parts.metric }) (sym is.costs)
    ∙ ap (λ (x : Option ℕ). record { name = problem.name; domain = problem.domain; objects = problem.objects; init = problem.init; goal = problem.goal; costs = problem.costs; metric = x }) (sym is.metric) in
    bind_again (title_at (codes "problem") ts) _ (problem.name, is.first) _ (title_complete (codes "problem") ts is.first problem.name is.title)
    (bind_again (all_of begins_open (problem_section unlimited) no_problem is.first) _ (is.parts, is.sections.0) _
    (all_complete begins_open (problem_section unlimited) IsProblemSection no_problem is.first is.parts is.sections.0 problem_complete (open_stops is.sections.0 is.last c.0 c.1) is.sections.1)
    (bind_again (need kinds.Close (sections_want is.parts) is.sections.0) _ is.last _ (takes_need kinds.Close (sections_want is.parts) is.sections.0 c.0 is.last c.1)
    (bind_again (there is.parts.domain is.sections.0) _ problem.domain _ (there_again is.parts.domain is.sections.0 problem.domain is.domain)
    (bind_again (there is.parts.goal is.sections.0) _ problem.goal _ (there_again is.parts.goal is.sections.0 problem.goal is.goal)
    (bind_again (end_at is.last) _ is.last _ (end_complete is.last is.ends) (ap (λ (d : Problem). Ok d) same))))))

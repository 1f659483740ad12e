-- The names that the grammar finds in tokens whose words are words, are words.
use Rattle.std.proofs.Common.{◌≡◌, ℕ, zero, suc, List, [], ◌∷◌, ◌++◌, length, Ok, sym, subst, arith, inl, inr}
use Rattle.std.specs.Prelude.{All, Option, Some, None}
use Rattle.std.proofs.lemmas.List.Elements.{All-cons, All-nil, All-append, All-map}
use Rattle.pb_pddl.specs.declared.token.TokenKind.{TokenKind}
use Rattle.pb_pddl.specs.declared.token.TokenKind.TheVariants as kinds
use Rattle.pb_pddl.specs.declared.token.Token.{Token}
use Rattle.pb_pddl.specs.declared.tree.Name.{Name}
use Rattle.pb_pddl.specs.declared.tree.Typed.{Typed}
use Rattle.pb_pddl.specs.declared.tree.Action.{Action}
use Rattle.pb_pddl.specs.declared.tree.Domain.{Domain}
use Rattle.pb_pddl.specs.declared.tree.Problem.{Problem}
use Rattle.pb_pddl.specs.declared.parts.DomainParts.{DomainParts}
use Rattle.pb_pddl.specs.declared.parts.ProblemParts.{ProblemParts}
use Rattle.pb_pddl.specs.declared.error.Want.TheVariants as wants
use Rattle.pb_pddl.specs.Tokens.{start}
use Rattle.pb_pddl.specs.Reading.{Read, need, typed, stood_all, or_empty, unlimited, domain_key, domain_section, problem_key, problem_section, no_domain, no_problem}
use Rattle.pb_pddl.specs.Grammar.{Takes, Names, Steps, AddsName, IsGroup, IsList, IsDomainSection, IsProblemSection, Titles}
use Rattle.pb_pddl.specs.Trees.{SpellsDomain, SpellsProblem}
use Rattle.pb_pddl.specs.Words.{IsWord, DomainHasWords, ProblemHasWords}
use Rattle.pb_pddl_laws.proofs.Singles.{bind_ok, need_takes, open_token}
use Rattle.pb_pddl_laws.proofs.CondsRead.{if_cases}
use Rattle.pb_pddl_laws.proofs.SectionsRead.{domain_complete, problem_complete}
use Rattle.pb_pddl_laws.proofs.Readers.{Frames}
use Rattle.pb_pddl_laws.proofs.DomainPlaces.{agrees_domain_section}
use Rattle.pb_pddl_laws.proofs.ProblemPlaces.{agrees_problem_section}
use Rattle.pb_pddl_laws.proofs.WordTokens.{WordsIn, text_words}

-- ---- behind what is taken

words_behind : (used rest : List Token) → WordsIn (used ++ rest) → WordsIn rest
words_behind [] rest words = words
words_behind (t ∷ used) rest words = words_behind used rest words.1

takes_words : (kind : TokenKind) (ts : List Token) (t : Token) (rest : List Token) → Takes kind ts t rest → WordsIn ts → WordsIn rest
takes_words kind ts t rest h words = let seen : WordsIn (t ∷ rest) = subst WordsIn h.0 words in seen.1

name_word : (ts rest : List Token) (name : Name) → Names kinds.Word ts rest name → WordsIn ts → IsWord name.text × WordsIn rest
name_word ts rest name (t, h, is) words =
    let seen : WordsIn (t ∷ rest) = subst WordsIn h.0 words in
    (subst (λ (n : Name). IsWord n.text) (sym is) (seen.0 h.1), seen.1)

-- behind what a reader takes, whose reading does not depend on what follows
read_words : {X : Type 0} (f : List Token → Read X) (ts : List Token) (x : X) (rest : List Token) → Frames (length ts) f → f ts ≡ Ok (x, rest) → WordsIn ts → WordsIn rest
read_words f ts x rest frames e words =
    let taken = frames ts x rest (omega arith) e in
    words_behind taken.0 rest (subst WordsIn taken.1 words)

-- ---- what each piece keeps, many keep

steps_hold : {S : Type 0} (X : S → List Token → S → List Token → Type 0) (I : S → List Token → Type 0) → ((s : S) (ts : List Token) (now : S) (rest : List Token) → X s ts now rest → I s ts → I now rest)
    → (k : ℕ) (s : S) (ts : List Token) (now : S) (rest : List Token) → Steps X k s ts now rest → I s ts → I now rest
steps_hold X I hold zero s ts now rest (is, at) i = subst (λ x. I x rest) (sym is) (subst (λ us. I s us) (sym at) i)
steps_hold X I hold (suc k) s ts now rest (mid, us, one, others) i = steps_hold X I hold k mid us now rest others (hold s ts mid us one i)

-- ---- lists of words

abbrev has_word : Name → Type 0
has_word name = IsWord name.text

abbrev is_called : Typed → Type 0
is_called t = IsWord t.name.text

abbrev Called : List Name → List Token → Type 0
Called names ts = All has_word names × WordsIn ts

abbrev Listed : List Typed → List Token → Type 0
Listed list ts = All is_called list × WordsIn ts

adds_word : (said : List Name) (ts : List Token) (now : List Name) (rest : List Token) → AddsName kinds.Word said ts now rest → Called said ts → Called now rest
adds_word said ts now rest (name, names, now_is) (all, words) =
    let one = name_word ts rest name names words in
    (subst (λ (ns : List Name). All has_word ns) (sym now_is) (All-append has_word said (name ∷ []) all (All-cons has_word name [] one.0 (All-nil has_word))), one.1)

typed_words : (kind : Option Name) (names : List Name) → All has_word names → All is_called (typed kind names)
typed_words kind names all = All-map is_called (λ n. record { name = n; kind = kind }) names all

group_words : (said : List Typed) (ts : List Token) (now : List Typed) (rest : List Token) → IsGroup kinds.Word said ts now rest → Listed said ts → Listed now rest
group_words said ts now rest (names, dash, word, type, many, some, dashes, type_is, now_is) (all, words) =
    let called = steps_hold (AddsName kinds.Word) Called adds_word many.0 [] ts names dash many.1 (All-nil has_word, words) in
    let behind = name_word word rest type type_is (takes_words kinds.Dash dash dashes.0 word dashes.1 called.1) in
    (subst (λ (list : List Typed). All is_called list) (sym now_is) (All-append is_called said (typed (Some type) names) all (typed_words (Some type) names called.0)), behind.1)

list_words : (ts rest : List Token) (list : List Typed) → IsList kinds.Word ts rest list → WordsIn ts → All is_called list
list_words ts rest list l words =
    let groups = steps_hold (IsGroup kinds.Word) Listed group_words l.groups.0 [] ts l.done l.last_names l.groups.1 (All-nil is_called, words) in
    let others = steps_hold (AddsName kinds.Word) Called adds_word l.others.0 [] l.last_names l.names l.last l.others.1 (All-nil has_word, groups.1) in
    subst (λ (x : List Typed). All is_called x) (sym l.is) (All-append is_called l.done (typed None l.names) groups.0 (typed_words None l.names others.0))

-- ---- titles

title_words : (word : List ℕ) (ts rest : List Token) (name : Name) → Titles word ts rest name → WordsIn ts → WordsIn rest
title_words word ts rest name t words =
    let a = takes_words kinds.Open ts t.open_form.0 t.one t.open_form.1 words in
    let b = takes_words kinds.Word t.one t.define.0 t.two t.define.1 a in
    let c = takes_words kinds.Open t.two t.open_title.0 t.three t.open_title.1 b in
    let d = takes_words kinds.Word t.three t.word_is.0 t.four t.word_is.1 c in
    let n = name_word t.four t.five name t.name_is d in
    takes_words kinds.Close t.five t.close.0 rest t.close.1 n.1

-- ---- sections of a domain

domain_behind : (s : DomainParts) (ts : List Token) (now : DomainParts) (rest : List Token) → IsDomainSection s ts now rest → WordsIn ts → WordsIn rest
unfolding domain_section
domain_behind s ts now rest is words =
    let inside = bind_ok (need kinds.Open wants.Paren ts) (λ us. domain_key unlimited s us) (now, rest) (domain_complete s ts now rest is).1 in
    let taken = need_takes kinds.Open wants.Paren ts inside.0 open_token inside.1 in
    read_words (domain_key unlimited s) inside.0 now rest ((agrees_domain_section s).reads (length inside.0)).frames inside.2 (takes_words kinds.Open ts taken.0 inside.0 taken.1 words)

abbrev is_named : Action → Type 0
is_named a = IsWord a.name.text

abbrev DomainSays : DomainParts → Type 0
DomainSays s = All is_named s.actions × All is_called (or_empty s.constants)

domain_says : (s : DomainParts) (ts : List Token) (now : DomainParts) (rest : List Token) → IsDomainSection s ts now rest → DomainSays s → WordsIn ts → DomainSays now
domain_says s ts now rest (first, cases) (actions, constants) words =
    elim cases [
      | inl (keys, at, none, is, now_is) ↦ subst DomainSays (sym now_is) (actions, constants)
      | inr (inl (list, at, none, is, now_is)) ↦ subst DomainSays (sym now_is) (actions, constants)
      | inr (inr (inl (list, (inside, opens, says), none, is, now_is))) ↦
          let behind = takes_words kinds.Key inside says.0 first says.1 (takes_words kinds.Open ts opens.0 inside opens.1 words) in
          subst DomainSays (sym now_is) (actions, list_words first rest list is behind)
      | inr (inr (inr (inl (list, at, none, is, now_is)))) ↦ subst DomainSays (sym now_is) (actions, constants)
      | inr (inr (inr (inr (inl (has_cost, at, none, is, now_is))))) ↦ subst DomainSays (sym now_is) (actions, constants)
      | inr (inr (inr (inr (inr (action, (inside, opens, says), is, now_is))))) ↦
          let behind = takes_words kinds.Key inside says.0 first says.1 (takes_words kinds.Open ts opens.0 inside opens.1 words) in
          let named = (name_word first is.first action.name is.name behind).0 in
          let one : All is_named (action ∷ []) = All-cons is_named action [] named (All-nil is_named) in
          subst DomainSays (sym now_is) (All-append is_named s.actions (action ∷ []) actions one, constants)
    ]

pub domain_has_words : (text : List ℕ) (domain : Domain) → SpellsDomain text domain → DomainHasWords domain
domain_has_words text domain (ts, are, is) =
    let words = title_words _ ts is.first domain.name is.title (text_words start text ts are) in
    let many = is.sections.1 in
    let said = steps_hold IsDomainSection (λ s us. DomainSays s × WordsIn us) (λ s us now rest one i. (domain_says s us now rest one i.0 i.1, domain_behind s us now rest one i.1))
    many.0 no_domain is.first is.parts is.sections.0 many.1 ((All-nil is_named, All-nil is_called), words) in
    record {
      actions = subst (λ (x : List Action). All is_named x) (sym is.actions) said.0.0;
      constants = subst (λ (x : List Typed). All is_called x) (sym is.constants) said.0.1;
    }

-- ---- sections of a problem

problem_behind : (s : ProblemParts) (ts : List Token) (now : ProblemParts) (rest : List Token) → IsProblemSection s ts now rest → WordsIn ts → WordsIn rest
unfolding problem_section
problem_behind s ts now rest is words =
    elim (if_cases (stood_all s) _ _ (Ok (now, rest)) (problem_complete s ts now rest is).1) [
      | inl w ↦ absurd cc
      | inr w ↦
          let inside = bind_ok (need kinds.Open wants.Paren ts) (λ us. problem_key unlimited s us) (now, rest) w.1 in
          let taken = need_takes kinds.Open wants.Paren ts inside.0 open_token inside.1 in
          read_words (problem_key unlimited s) inside.0 now rest ((agrees_problem_section s w.0).reads (length inside.0)).frames inside.2 (takes_words kinds.Open ts taken.0 inside.0 taken.1 words)
    ]

abbrev ProblemSays : ProblemParts → Type 0
ProblemSays s = All is_called (or_empty s.objects)

problem_says : (s : ProblemParts) (ts : List Token) (now : ProblemParts) (rest : List Token) → IsProblemSection s ts now rest → ProblemSays s → WordsIn ts → ProblemSays now
problem_says s ts now rest (first, cases) objects words =
    elim cases [
      | inl (name, last, at, none, is, closes, now_is) ↦ subst ProblemSays (sym now_is) objects
      | inr (inl (keys, at, none, is, now_is)) ↦ subst ProblemSays (sym now_is) objects
      | inr (inr (inl (list, (inside, opens, says), none, is, now_is))) ↦
          let behind = takes_words kinds.Key inside says.0 first says.1 (takes_words kinds.Open ts opens.0 inside opens.1 words) in
          subst ProblemSays (sym now_is) (list_words first rest list is behind)
      | inr (inr (inr (inl (list, at, none, is, now_is)))) ↦ subst ProblemSays (sym now_is) objects
      | inr (inr (inr (inr (inl (goal, last, at, none, is, closes, now_is))))) ↦ subst ProblemSays (sym now_is) objects
      | inr (inr (inr (inr (inr (metric, word, last, at, none, says, total, closes, now_is))))) ↦ subst ProblemSays (sym now_is) objects
    ]

pub problem_has_words : (text : List ℕ) (problem : Problem) → SpellsProblem text problem → ProblemHasWords problem
problem_has_words text problem (ts, are, is) =
    let words = title_words _ ts is.first problem.name is.title (text_words start text ts are) in
    let many = is.sections.1 in
    let said = steps_hold IsProblemSection (λ s us. ProblemSays s × WordsIn us) (λ s us now rest one i. (problem_says s us now rest one i.0 i.1, problem_behind s us now rest one i.1))
    many.0 no_problem is.first is.parts is.sections.0 many.1 (All-nil is_called, words) in
    subst (λ (x : List Typed). All is_called x) (sym is.objects) said.0

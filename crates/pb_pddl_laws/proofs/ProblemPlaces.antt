-- Sections of a problem: where their reading stops, and beside the table.
use Rattle.std.proofs.Common.{◌≡◌, ℕ, Bool, true, false, cond, not, ◌&&◌, ◌||◌, List, [], ◌∷◌, ◌++◌, Result, Ok, Err, refl, sym, ap, ◌∙◌, arith, ◌⊎◌, inl, inr, true≢false}
use Rattle.std.proofs.lemmas.Bool.{and_parts, cases_Bool}
use Rattle.std.specs.Prelude.{codes, Option, Some, None, is_some, if◌then◌else◌}
use Rattle.pb_pddl.specs.declared.token.TokenKind.{TokenKind}
use Rattle.pb_pddl.specs.declared.token.TokenKind.TheVariants as kinds
use Rattle.pb_pddl.specs.declared.token.Token.{Token}
use Rattle.pb_pddl.specs.declared.tree.Name.{Name}
use Rattle.pb_pddl.specs.declared.tree.Atom.{Atom}
use Rattle.pb_pddl.specs.declared.parts.ProblemParts.{ProblemParts}
use Rattle.pb_pddl.specs.declared.error.SyntaxError.{SyntaxError}
use Rattle.pb_pddl.specs.declared.error.SyntaxError.TheVariants as errors
use Rattle.pb_pddl.specs.declared.error.Want.TheVariants as wants
use Rattle.pb_pddl.specs.declared.error.LeftOut.TheVariants as left
use Rattle.pb_pddl.specs.Reading.{◌>>=◌, Read, kind_number, same_kind, front, begins, begins_open, spells, no_token, refusal, fault_at, need, name_at, all_of, once, keys_at, only_word, unlimited, list_at, facts_at, cond_at, total_cost_at, domain_name_section, problem_requirements, objects_section, init_section, goal_section, metric_section, problem_key, stood_all, problem_section, sections_want, missing, there}
use Rattle.pb_pddl.specs.Grammar.{IsProblemSection}
use Rattle.pb_pddl_laws.proofs.SectionsRead.{problem_sound, problem_complete, no_domain_yet, no_goal_yet}
use Rattle.pb_pddl_laws.proofs.ActionsRead.{none_iff}
use Rattle.pb_pddl.specs.Places
use Rattle.pb_pddl.specs.Places.{Place, fits, is_kind, is_key, sample, reserved_head, other_key, is_part_key, is_domain_key, is_problem_key, takes_section, takes_part, first_fit, left_out, wanted, refused_token, refused}
use Rattle.pb_pddl_laws.proofs.Rooms.{any_cond}
use Rattle.pb_pddl_laws.specs.Table
use Rattle.pb_pddl_laws.specs.Table.{Symbol, after, no_name, total_cost_then}
use Rattle.pb_pddl_laws.proofs.Singles.{kinds_same, bind_bind, open_no_close}
use Rattle.pb_pddl_laws.proofs.CondsRead.{if_true, if_false}
use Rattle.pb_pddl_laws.proofs.Readers.{Can}
use Rattle.pb_pddl_laws.proofs.Loops.{Takes, loop, all_more, all_stop, reads_loop}
use Rattle.pb_pddl_laws.proofs.Following.{nothing, does_loop}
use Rattle.pb_pddl_laws.proofs.Agreeing.{Agrees, agrees_done, agrees_same, agrees_as, agrees_then, agrees_more, agrees_make}
use Rattle.pb_pddl_laws.proofs.Refusals.{plain, told, need_misfit, need_fit, agrees_closed_value, agrees_name}
use Rattle.pb_pddl_laws.proofs.Closing.{takes_piece}
use Rattle.pb_pddl_laws.proofs.ConditionPlaces.{agrees_cond}
use Rattle.pb_pddl_laws.proofs.CostPlaces.{agrees_only, agrees_total}
use Rattle.pb_pddl_laws.proofs.ListPlaces.{agrees_words}
use Rattle.pb_pddl_laws.proofs.PiecePlaces.{agrees_facts, agrees_keys}
use Rattle.pb_pddl_laws.proofs.KeyedSections.{Section, fits_any, agrees_section, all_stood, some_free}
use Rattle.pb_pddl_laws.proofs.Noted.{noted_problem, same_problem, same_sections, sections_first}

abbrev place : ProblemParts → Place
place s = Places.AProblemSection s

abbrev symbol : ProblemParts → Symbol
symbol s = Table.ProblemSection (noted_problem s)

abbrev pub problem_due : ProblemParts → List Symbol
problem_due s = Table.ProblemSections (noted_problem s) ∷ []

abbrev ProblemSection : Type 0
ProblemSection = Section (problem_key unlimited) place symbol problem_due

-- a value, behind a )
abbrev closed : ProblemParts → List Token → Read ProblemParts
closed value ts = need kinds.Close wants.Close ts >>= λ rest. Ok (value, rest)

domain_name : ProblemSection
unfolding problem_key domain_name_section spells begins front same_kind kind_number once refused refused_token left_out wanted
domain_name = record {
  key = codes ":domain";
  at = domain_name_section;
  stood = λ s. is_some s.domain;
  body = λ s us. name_at kinds.Word wants.Name us >>= λ p. closed (record s { domain = Some p.0 }) p.1;
  goes = λ s t us free. if_false (is_some s.domain) _ _ free;
  again = λ s t us there. if_true (is_some s.domain) _ _ there;
  agrees = λ s t. agrees_name (λ name. closed (record s { domain = Some name })) (λ name. agrees_closed_value (record s { domain = Some name }));
}

requirements : ProblemSection
unfolding problem_key problem_requirements spells begins front same_kind kind_number once refused refused_token left_out wanted
requirements = record {
  key = codes ":requirements";
  at = problem_requirements;
  stood = λ s. s.requirements;
  body = λ s us. keys_at us >>= λ rest. Ok (record s { requirements = true }, rest);
  goes = λ s t us free. if_false (s.requirements) _ _ free;
  again = λ s t us there. if_true (s.requirements) _ _ there;
  agrees = λ s t. agrees_keys (record s { requirements = true });
}

objects : ProblemSection
unfolding problem_key objects_section spells begins front same_kind kind_number once refused refused_token left_out wanted
objects = record {
  key = codes ":objects";
  at = objects_section;
  stood = λ s. is_some s.objects;
  body = λ s us. list_at kinds.Word wants.Name us >>= λ p. Ok (record s { objects = Some p.0 }, p.1);
  goes = λ s t us free. if_false (is_some s.objects) _ _ free;
  again = λ s t us there. if_true (is_some s.objects) _ _ there;
  agrees = λ s t. agrees_make (λ x. record s { objects = Some x }) (problem_due (record s { objects = Some [] })) (λ x. refl) agrees_words;
}

init : ProblemSection
unfolding problem_key init_section spells begins front same_kind kind_number once refused refused_token left_out wanted
init = record {
  key = codes ":init";
  at = init_section;
  stood = λ s. is_some s.init;
  body = λ s us. facts_at us >>= λ p. Ok (record s { init = Some p.0.atoms; costs = p.0.costs }, p.1);
  goes = λ s t us free. if_false (is_some s.init) _ _ free;
  again = λ s t us there. if_true (is_some s.init) _ _ there;
  agrees = λ s t. agrees_make (λ x. record s { init = Some x.atoms; costs = x.costs }) (problem_due (record s { init = Some [] })) (λ x. refl) agrees_facts;
}

goal_condition : ProblemSection
unfolding problem_key goal_section unlimited spells begins front same_kind kind_number once refused refused_token left_out wanted
goal_condition = record {
  key = codes ":goal";
  at = goal_section unlimited;
  stood = λ s. is_some s.goal;
  body = λ s us. any_cond false [] us >>= λ p. closed (record s { goal = Some p.0 }) p.1;
  goes = λ s t us free. if_false (is_some s.goal) _ _ free;
  again = λ s t us there. if_true (is_some s.goal) _ _ there;
  agrees = λ s t. agrees_then (λ x. closed (record s { goal = Some x })) (agrees_more (Table.Closing ∷ problem_due (record s { goal = Some [] })) (agrees_cond false [])) (λ x. agrees_closed_value (record s { goal = Some x }));
}

-- behind the word minimize
abbrev metric_then : ProblemParts → List Token → Read ProblemParts
metric_then s us = total_cost_at us >>= λ p. closed (record s { metric = Some p.0 }) p.1

agrees_metric : (s : ProblemParts) → Agrees ProblemParts (metric_then s) problem_due (Table.Opening ∷ total_cost_then (Table.Closing ∷ problem_due (record s { metric = Some 0 })))
agrees_metric s = agrees_then (λ x. closed (record s { metric = Some x })) (agrees_more (Table.Closing ∷ problem_due (record s { metric = Some 0 })) agrees_total) (λ x. agrees_closed_value (record s { metric = Some x }))

metric : ProblemSection
unfolding problem_key metric_section spells begins front same_kind kind_number once refused refused_token left_out wanted
metric = record {
  key = codes ":metric";
  at = metric_section;
  stood = λ s. is_some s.metric;
  body = λ s us. only_word (codes "minimize") left.Metric us >>= λ vs. metric_then s vs;
  goes = λ s t us free. if_false (is_some s.metric) _ _ free;
  again = λ s t us there. if_true (is_some s.metric) _ _ there;
  agrees = λ s t. agrees_only (codes "minimize") left.Metric refl (λ u. metric_then s) (λ u. agrees_metric s);
}

abbrev sections : List ProblemSection
sections = domain_name ∷ requirements ∷ objects ∷ init ∷ goal_condition ∷ metric ∷ []

section_fits : (s : ProblemParts) (t : Token) → fits (place s) t ≡ fits_any (problem_key unlimited) place symbol problem_due false sections s t
unfolding fits domain_name requirements objects init goal_condition metric
section_fits s t = refl

keyword_plain : (s : ProblemParts) (t : Token) → is_kind kinds.Key t ≡ false → refused (place s) t ≡ refusal wants.Section t
unfolding refused_token left_out wanted first_fit takes_section fits same_kind kind_number
keyword_plain s t e =
    plain (place s) t wants.Section refl (ap (λ b. if b then other_key (is_problem_key t.text) left.Section else reserved_head t) e) (ap (λ b. if b then wants.Once else first_fit (place s)) e)

-- where not each stood, one may follow
one_free : (s : ProblemParts) → stood_all s ≡ false → all_stood (problem_key unlimited) place symbol problem_due sections s ≡ false
unfolding stood_all domain_name requirements objects init goal_condition metric
one_free s e = together s.requirements (is_some s.domain) (is_some s.objects) (is_some s.init) (is_some s.goal) (is_some s.metric) ∙ e where
  together : (r d o i g m : Bool) → d && (r && (o && (i && (g && (m && true))))) ≡ (r && d && o && i && g && m)
  together true true true true true true = refl
  together true true true true true false = refl
  together true true true true false m = refl
  together true true true false g m = refl
  together true true false i g m = refl
  together true false o i g m = refl
  together false true o i g m = refl
  together false false o i g m = refl

pub agrees_problem_section : (s : ProblemParts) → stood_all s ≡ false → Agrees ProblemParts (problem_key unlimited s) problem_due (symbol s ∷ [])
unfolding problem_key refused_token left_out domain_name requirements objects init goal_condition metric
agrees_problem_section s open_still =
    let free = some_free (problem_key unlimited) place symbol problem_due sections s (one_free s open_still) in
    agrees_section (problem_key unlimited) place symbol problem_due sections section_fits (λ x ts. refl) (λ x t. refl) (λ x t. refl) keyword_plain same_problem s free.0 (section_fits s free.0 ∙ free.1 false)

-- ---- the sections of a problem and the )

abbrev section_test : Token → Bool
section_test t = is_kind kinds.Open t

section_more : (ts : List Token) → begins_open ts ≡ section_test (front ts)
unfolding begins
section_more ts = refl

pub none_opens : begins_open [] ≡ false
unfolding begins front same_kind kind_number
none_opens = refl

section_no_end : (s : ProblemParts) → fits (Places.MoreSections s) no_token ≡ false
unfolding fits same_kind kind_number
section_no_end s = refl

-- a token that is no ) where another section or the ) must stand
section_plain : (s : ProblemParts) (t : Token) → is_kind kinds.Close t ≡ false → refused (Places.MoreSections s) t ≡ refusal (sections_want s) t
unfolding refused_token left_out wanted
section_plain s t e =
    plain (Places.MoreSections s) t (sections_want s) refl (ap (λ b. if b then None else reserved_head t) e) (ap (λ b. if b then wants.Missing else first_fit (Places.MoreSections s)) e ∙ sections_first s)

open_other : (t : Token) → is_kind kinds.Open t ≡ true → is_kind kinds.Close t ≡ false
open_other t e = ap (λ k. same_kind k kinds.Close) (kinds_same t.kind kinds.Open e) ∙ open_no_close

open_fits : (s : ProblemParts) (t : Token) → is_kind kinds.Open t ≡ true → fits (Places.MoreSections s) t ≡ not (stood_all s) || false
unfolding fits
open_fits s t e =
    ap (λ b. b && not (stood_all s) || is_kind kinds.Close t && is_some s.domain && is_some s.goal) e ∙ ap (λ b. not (stood_all s) || b && is_some s.domain && is_some s.goal) (open_other t e)

close_fits : (s : ProblemParts) (t : Token) → is_kind kinds.Open t ≡ false → fits (Places.MoreSections s) t ≡ is_kind kinds.Close t && is_some s.domain && is_some s.goal
unfolding fits
close_fits s t e = ap (λ b. b && not (stood_all s) || is_kind kinds.Close t && is_some s.domain && is_some s.goal) e

not_true : (b v : Bool) → not b || false ≡ v → b ≡ not v
not_true true v e = ap not e
not_true false v e = ap not e

pub section_refused : (s : ProblemParts) (t : Token) (us : List Token) → section_test t ≡ true → fits (Places.MoreSections s) t ≡ false → problem_section unlimited s (t ∷ us) ≡ Err (refused (Places.MoreSections s) t)
unfolding problem_section fault_at front sections_want
section_refused s t us goes misfit =
    let all : stood_all s ≡ true = not_true (stood_all s) false (sym (open_fits s t goes) ∙ misfit) in
    if_true (stood_all s) _ _ all
    ∙ ap (λ (e : SyntaxError). Err e) (sym (section_plain s t (open_other t goes) ∙ ap (λ b. refusal (if b then wants.Close else wants.Paren) t) all))

pub not_all : (s : ProblemParts) (t : Token) → section_test t ≡ true → fits (Places.MoreSections s) t ≡ true → stood_all s ≡ false
not_all s t goes fit = not_true (stood_all s) true (sym (open_fits s t goes) ∙ fit)

pub section_step : (s : ProblemParts) (t : Token) (us : List Token) → section_test t ≡ true → fits (Places.MoreSections s) t ≡ true → problem_section unlimited s (t ∷ us) ≡ problem_key unlimited s us
unfolding problem_section
section_step s t us goes fit =
    if_false (stood_all s) _ _ (not_all s t goes fit) ∙ ap (λ (r : Result (List Token) SyntaxError). r >>= λ inside. problem_key unlimited s inside) (need_fit kinds.Open wants.Paren t us goes)

takes_section_of : Takes begins_open (problem_section unlimited)
takes_section_of = takes_piece begins_open (problem_section unlimited) IsProblemSection problem_sound problem_complete

end_no_close : same_kind kinds.End kinds.Close ≡ false
unfolding same_kind kind_number
end_no_close = refl

either_is : {A : Type 0} (o : Option A) → ((x : A) × (o ≡ Some x)) ⊎ (o ≡ None)
either_is None = inr refl
either_is (Some x) = inl ((x, refl))

abbrev a_token : TokenKind → List ℕ → Token
a_token kind text = record { kind = kind; text = text; at = 0; head = false }

-- ( :goal ( ) )
abbrev goal_tokens : List Token → List Token
goal_tokens rest = a_token kinds.Open [] ∷ a_token kinds.Key (codes ":goal") ∷ a_token kinds.Open [] ∷ a_token kinds.Close [] ∷ a_token kinds.Close [] ∷ rest

goal_read : (s : ProblemParts) (rest : List Token) → s.goal ≡ None → problem_section unlimited s (goal_tokens rest) ≡ Ok (record s { goal = Some [] }, rest)
unfolding problem_section problem_key goal_section unlimited cond_at need spells begins front same_kind kind_number
goal_read s rest none = if_false (stood_all s) _ _ (no_goal_yet s none) ∙ if_false (is_some s.goal) _ _ ((none_iff s.goal).1 none)

-- ( :domain a )
abbrev domain_tokens : List Token → List Token
domain_tokens rest = a_token kinds.Open [] ∷ a_token kinds.Key (codes ":domain") ∷ a_token kinds.Word [] ∷ a_token kinds.Close [] ∷ rest

abbrev a_name : Name
a_name = record { text = []; at = 0 }

domain_read : (s : ProblemParts) (rest : List Token) → s.domain ≡ None → problem_section unlimited s (domain_tokens rest) ≡ Ok (record s { domain = Some a_name }, rest)
unfolding problem_section problem_key domain_name_section name_at need spells begins front same_kind kind_number
domain_read s rest none = if_false (stood_all s) _ _ (no_domain_yet s none) ∙ if_false (is_some s.domain) _ _ ((none_iff s.domain).1 none)

opens_goal : (rest : List Token) → begins_open (goal_tokens rest) ≡ true
unfolding begins front same_kind kind_number
opens_goal rest = refl

opens_domain : (rest : List Token) → begins_open (domain_tokens rest) ≡ true
unfolding begins front same_kind kind_number
opens_domain rest = refl

closes_stop : (rest : List Token) → begins_open (sample kinds.Close ∷ rest) ≡ false
unfolding begins front same_kind kind_number
closes_stop rest = refl

close_close : same_kind kinds.Close kinds.Close ≡ true
unfolding same_kind kind_number
close_close = refl

-- what the sections make, with those that must be there
module _ {Y : Type 0} (value : ProblemParts → Name → List Atom → Y) where
  abbrev pub sections_end : ProblemParts → List Token → Read Y
  sections_end s ts =
      need kinds.Close (sections_want s) ts >>= λ rest. (there s.domain ts >>= λ domain. (there s.goal ts >>= λ goal. Ok (value s domain goal, rest)))

  abbrev end_with : ProblemParts → List Token → List Token → Option Name → Option (List Atom) → Read Y
  end_with s ts rest domain goal = there domain ts >>= λ d. (there goal ts >>= λ g. Ok (value s d g, rest))

  missing_refused : (s : ProblemParts) (t : Token) → is_kind kinds.Close t ≡ true → refused (Places.MoreSections s) t ≡ errors.Expected t.at wants.Missing
  unfolding refused refused_token left_out wanted
  missing_refused s t e =
      ap (λ (k : TokenKind). elim k as (λ _. SyntaxError) [
        | kinds.Byte ↦ errors.Byte t.at
        | kinds.Deep ↦ errors.Deep t.at
        | kinds.End ↦ errors.Unclosed t.at
        | _ ↦ told (if is_kind kinds.Close t then None else reserved_head t) t.at (if is_kind kinds.Close t then wants.Missing else first_fit (Places.MoreSections s))
      ]) (kinds_same t.kind kinds.Close e)
      ∙ ap (λ b. told (if b then None else reserved_head t) t.at (if b then wants.Missing else first_fit (Places.MoreSections s))) e

  lacking : (s : ProblemParts) (ts rest : List Token) (domain : Option Name) (goal : Option (List Atom)) → is_some domain && is_some goal ≡ false → end_with s ts rest domain goal ≡ Err (missing ts)
  unfolding there
  lacking s ts rest None goal e = refl
  lacking s ts rest (Some d) None e = refl
  lacking s ts rest (Some d) (Some g) e = absurd (true≢false e)

  lacks : (s : ProblemParts) (ts : List Token) → is_kind kinds.Close (front ts) ≡ true → is_some s.domain && is_some s.goal ≡ false → sections_end s ts ≡ Err (refused (Places.MoreSections s) (front ts))
  unfolding front missing
  lacks s [] close e = absurd (true≢false (sym close ∙ end_no_close))
  lacks s (t ∷ us) close e =
      ap (λ (r : Result (List Token) SyntaxError). r >>= λ rest. end_with s (t ∷ us) rest s.domain s.goal) (need_fit kinds.Close (sections_want s) t us close)
      ∙ lacking s (t ∷ us) us s.domain s.goal e ∙ ap (λ (x : SyntaxError). Err x) (sym (missing_refused s t close))

  end_misfit : (s : ProblemParts) (ts : List Token) → section_test (front ts) ≡ false → fits (Places.MoreSections s) (front ts) ≡ false → sections_end s ts ≡ Err (refused (Places.MoreSections s) (front ts))
  end_misfit s ts last misfit =
      elim (cases_Bool (is_kind kinds.Close (front ts))) [
        | inl close ↦ lacks s ts close (ap (λ b. b && is_some s.domain && is_some s.goal) (sym close) ∙ sym (close_fits s (front ts) last) ∙ misfit)
        | inr other ↦ ap (λ (r : Result (List Token) SyntaxError). r >>= λ rest. end_with s ts rest s.domain s.goal) (need_misfit kinds.Close (sections_want s) ts other ∙ ap (λ (e : SyntaxError). Err e) (sym (section_plain s (front ts) other)))
      ]

  end_is : (s : ProblemParts) (t : Token) (us : List Token) (d : Name) (g : List Atom) → is_kind kinds.Close t ≡ true → s.domain ≡ Some d → s.goal ≡ Some g → sections_end s (t ∷ us) ≡ Ok (value s d g, us)
  unfolding there
  end_is s t us d g close domain_is goal_is =
      ap (λ (r : Result (List Token) SyntaxError). r >>= λ rest. end_with s (t ∷ us) rest s.domain s.goal) (need_fit kinds.Close (sections_want s) t us close)
      ∙ ap (λ (o : Option Name). end_with s (t ∷ us) us o s.goal) domain_is ∙ ap (λ (o : Option (List Atom)). end_with s (t ∷ us) us (Some d) o) goal_is

  -- where the ) fits, both stood
  both_stood : (s : ProblemParts) (t : Token) → section_test t ≡ false → fits (Places.MoreSections s) t ≡ true → (is_kind kinds.Close t ≡ true) × (is_some s.domain ≡ true) × (is_some s.goal ≡ true)
  both_stood s t last fit =
      let a = and_parts (is_kind kinds.Close t && is_some s.domain) (is_some s.goal) (sym (close_fits s t last) ∙ fit) in
      let b = and_parts (is_kind kinds.Close t) (is_some s.domain) a.0 in
      (b.0, b.1, a.1)

  agrees_end : (s : ProblemParts) (t : Token) → section_test t ≡ false → fits (Places.MoreSections s) t ≡ true → Agrees Y (λ us. sections_end s (t ∷ us)) nothing (after (Table.ProblemSections (noted_problem s)) t)
  agrees_end s t last fit =
      let both = both_stood s t last fit in
      elim (either_is s.domain) [
        | inl (d, domain_is) ↦ elim (either_is s.goal) [
          | inl (g, goal_is) ↦ agrees_as (ap (λ b. cond b (symbol s ∷ []) []) last) (agrees_same (λ us. end_is s t us d g both.0 domain_is goal_is) (agrees_done (value s d g)))
          | inr none ↦ absurd (true≢false (sym both.2 ∙ (none_iff s.goal).1 none))
        ]
        | inr none ↦ absurd (true≢false (sym both.1 ∙ (none_iff s.domain).1 none))
      ]

  abbrev pub problem_sections : ProblemParts → List Token → Read Y
  problem_sections = loop begins_open (problem_section unlimited) sections_end

  can_both : (s : ProblemParts) (d : Name) (g : List Atom) → s.domain ≡ Some d → s.goal ≡ Some g → Can (problem_sections s)
  can_both s d g domain_is goal_is = (
    sample kinds.Close ∷ [],
    value s d g,
    λ rest.
        ap (λ (r : Read ProblemParts). r >>= λ all. sections_end all.0 all.1) (all_stop begins_open (problem_section unlimited) none_opens takes_section_of s (sample kinds.Close ∷ rest) (closes_stop rest))
        ∙ end_is s (sample kinds.Close) rest d g close_close domain_is goal_is,
  )

  one_read : (s next : ProblemParts) (ts rest : List Token) → begins_open ts ≡ true → problem_section unlimited s ts ≡ Ok (next, rest) → problem_sections s ts ≡ problem_sections next rest
  one_read s next ts rest opens e =
      ap (λ (r : Read ProblemParts). r >>= λ all. sections_end all.0 all.1) (all_more begins_open (problem_section unlimited) none_opens takes_section_of s ts opens)
      ∙ bind_bind (problem_section unlimited s ts) (λ x. all_of begins_open (problem_section unlimited) x.0 x.1) (λ all. sections_end all.0 all.1)
      ∙ ap (λ (r : Read ProblemParts). r >>= λ x. problem_sections x.0 x.1) e

  can_goal : (s : ProblemParts) (d : Name) → s.domain ≡ Some d → Can (problem_sections s)
  can_goal s d domain_is = elim (either_is s.goal) [
    | inl (g, goal_is) ↦ can_both s d g domain_is goal_is
    | inr none ↦
        let c = can_both (record s { goal = Some [] }) d [] domain_is refl in
        (goal_tokens c.0, c.1, λ rest. one_read s (record s { goal = Some [] }) (goal_tokens (c.0 ++ rest)) (c.0 ++ rest) (opens_goal (c.0 ++ rest)) (goal_read s (c.0 ++ rest) none) ∙ c.2 rest)
  ]

  can_problem_sections : (s : ProblemParts) → Can (problem_sections s)
  can_problem_sections s = elim (either_is s.domain) [
    | inl (d, domain_is) ↦ can_goal s d domain_is
    | inr none ↦
        let c = can_goal (record s { domain = Some a_name }) a_name refl in
        (domain_tokens c.0, c.1, λ rest. one_read s (record s { domain = Some a_name }) (domain_tokens (c.0 ++ rest)) (c.0 ++ rest) (opens_domain (c.0 ++ rest)) (domain_read s (c.0 ++ rest) none) ∙ c.2 rest)
  ]

  agrees_step : (s : ProblemParts) (t : Token) → section_test t ≡ true → fits (Places.MoreSections s) t ≡ true → Agrees ProblemParts (λ us. problem_section unlimited s (t ∷ us)) problem_due (after (Table.ProblemSections (noted_problem s)) t)
  agrees_step s t goes fit = agrees_same (λ us. section_step s t us goes fit) (agrees_as (ap (λ b. cond b (symbol s ∷ []) []) goes) (agrees_problem_section s (not_all s t goes fit)))

  pub agrees_problem_sections : (s : ProblemParts) → Agrees Y (problem_sections s) nothing (problem_due s)
  agrees_problem_sections s = record {
    can = can_problem_sections s;
    reads = λ n.
        reads_loop begins_open (problem_section unlimited) sections_end section_test (λ x. Places.MoreSections x) section_more none_opens takes_section_of section_no_end section_refused end_misfit
        (λ x t goes fit. (agrees_step x t goes fit).can) (λ x t last fit. (agrees_end x t last fit).can) can_problem_sections n n (omega arith)
        (λ m less x t goes fit. (agrees_step x t goes fit).reads m) (λ m less x t last fit. (agrees_end x t last fit).reads m) s;
    does = λ n.
        does_loop begins_open (problem_section unlimited) sections_end section_test (λ x. Places.MoreSections x) section_more none_opens takes_section_of section_no_end section_refused end_misfit
        (λ x. Table.ProblemSections (noted_problem x)) same_sections nothing n n (omega arith)
        (λ m less x t goes fit. (agrees_step x t goes fit).does m) (λ m less x t last fit. (agrees_end x t last fit).does m) s;
  }

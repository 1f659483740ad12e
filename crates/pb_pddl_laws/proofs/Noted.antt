-- Of a part or section that stood is noted that it did: the places are the same.
use Rattle.std.proofs.Common.{◌≡◌, Bool, true, false, not, ◌&&◌, ◌||◌, [], refl, sym, ap, ◌∙◌}
use Rattle.std.specs.Prelude.{codes, Option, Some, None, is_some, if◌then◌else◌}
use Rattle.pb_pddl.specs.declared.token.TokenKind.TheVariants as kinds
use Rattle.pb_pddl.specs.declared.token.Token.{Token}
use Rattle.pb_pddl.specs.declared.parts.ActionParts.{ActionParts}
use Rattle.pb_pddl.specs.declared.parts.DomainParts.{DomainParts}
use Rattle.pb_pddl.specs.declared.parts.ProblemParts.{ProblemParts}
use Rattle.pb_pddl.specs.declared.error.Want.TheVariants as wants
use Rattle.pb_pddl.specs.Reading.{parts_want, stood_all, sections_want, same_kind, kind_number}
use Rattle.pb_pddl.specs.Places
use Rattle.pb_pddl.specs.Places.{fits, is_kind, is_key, first_fit, takes_section, takes_part, left_out, wanted, refused_token, refused}
use Rattle.pb_pddl_laws.specs.Table
use Rattle.pb_pddl_laws.specs.Table.{Symbol, no_name}
use Rattle.pb_pddl_laws.proofs.Following.{SamePlace}
use Rattle.pb_pddl_laws.proofs.Refusals.{told_same}

abbrev pub mark : {A : Type 0} → A → Option A → Option A
mark x None = None
mark x (Some y) = Some x

marked : {A : Type 0} (x : A) (o : Option A) → is_some (mark x o) ≡ is_some o
marked x None = refl
marked x (Some y) = refl

-- ---- parts of an action

abbrev pub noted_parts : ActionParts → ActionParts
noted_parts s = record { params = mark [] s.params; pre = mark [] s.pre; effect = mark [] s.effect; costs = [] }

pub parts_first : (s : ActionParts) → first_fit (Places.MoreParts s) ≡ parts_want s
unfolding first_fit takes_section takes_part fits same_kind kind_number parts_want
parts_first s = either (is_some s.params && is_some s.pre && is_some s.effect) where
  either : (b : Bool) → (if not b then wants.Part else wants.Close) ≡ (if b then wants.Close else wants.Part)
  either true = refl
  either false = refl

module _ (s : ActionParts) (t : Token) where
  parts_fit : fits (Places.MoreParts (noted_parts s)) t ≡ fits (Places.MoreParts s) t
  unfolding fits
  parts_fit =
      ap (λ a. is_key (codes ":parameters") t && not a || is_key (codes ":precondition") t && not (is_some (mark [] s.pre)) || is_key (codes ":effect") t && not (is_some (mark [] s.effect)) || is_kind kinds.Close t) (marked [] s.params)
      ∙ ap (λ a. is_key (codes ":parameters") t && not (is_some s.params) || is_key (codes ":precondition") t && not a || is_key (codes ":effect") t && not (is_some (mark [] s.effect)) || is_kind kinds.Close t) (marked [] s.pre)
      ∙ ap (λ a. is_key (codes ":parameters") t && not (is_some s.params) || is_key (codes ":precondition") t && not (is_some s.pre) || is_key (codes ":effect") t && not a || is_kind kinds.Close t) (marked [] s.effect)

  parts_want_same : parts_want (noted_parts s) ≡ parts_want s
  unfolding parts_want
  parts_want_same =
      ap (λ a. if a && is_some (mark [] s.pre) && is_some (mark [] s.effect) then wants.Close else wants.Part) (marked [] s.params)
      ∙ ap (λ a. if is_some s.params && a && is_some (mark [] s.effect) then wants.Close else wants.Part) (marked [] s.pre)
      ∙ ap (λ a. if is_some s.params && is_some s.pre && a then wants.Close else wants.Part) (marked [] s.effect)

  parts_refused : refused (Places.MoreParts (noted_parts s)) t ≡ refused (Places.MoreParts s) t
  unfolding refused_token left_out wanted
  parts_refused =
      told_same (Places.MoreParts (noted_parts s)) (Places.MoreParts s) t refl refl refl
      (ap (λ w. if is_kind kinds.Key t then wants.Once else w) (parts_first (noted_parts s) ∙ parts_want_same ∙ sym (parts_first s)))

pub same_parts : (s : ActionParts) → SamePlace (Table.Parts (noted_parts s)) (Places.MoreParts s)
same_parts s t = (parts_fit s t, parts_refused s t)

-- ---- sections of a domain

abbrev pub noted_domain : DomainParts → DomainParts
noted_domain s = record { requirements = s.requirements; types = mark [] s.types; constants = mark [] s.constants; predicates = mark [] s.predicates; functions = s.functions; has_cost = false; actions = [] }

module _ (s : DomainParts) (t : Token) where
  abbrev domain_fits : Bool → Bool → Bool → Bool
  domain_fits a b c =
      is_key (codes ":requirements") t && not s.requirements || is_key (codes ":types") t && not a || is_key (codes ":constants") t && not b
      || is_key (codes ":predicates") t && not c || is_key (codes ":functions") t && not s.functions || is_key (codes ":action") t

  domain_fit : fits (Places.ADomainSection (noted_domain s)) t ≡ fits (Places.ADomainSection s) t
  unfolding fits
  domain_fit =
      ap (λ a. domain_fits a (is_some (mark [] s.constants)) (is_some (mark [] s.predicates))) (marked [] s.types)
      ∙ ap (λ a. domain_fits (is_some s.types) a (is_some (mark [] s.predicates))) (marked [] s.constants)
      ∙ ap (λ a. domain_fits (is_some s.types) (is_some s.constants) a) (marked [] s.predicates)

  domain_refused : refused (Places.ADomainSection (noted_domain s)) t ≡ refused (Places.ADomainSection s) t
  unfolding refused_token left_out wanted first_fit takes_section fits same_kind kind_number
  domain_refused = told_same (Places.ADomainSection (noted_domain s)) (Places.ADomainSection s) t refl refl refl refl

pub same_domain : (s : DomainParts) → SamePlace (Table.DomainSection (noted_domain s)) (Places.ADomainSection s)
same_domain s t = (domain_fit s t, domain_refused s t)

-- ---- sections of a problem

abbrev pub noted_problem : ProblemParts → ProblemParts
noted_problem s = record { requirements = s.requirements; domain = mark no_name s.domain; objects = mark [] s.objects; init = mark [] s.init; goal = mark [] s.goal; costs = []; metric = mark 0 s.metric }

pub sections_first : (s : ProblemParts) → first_fit (Places.MoreSections s) ≡ sections_want s
unfolding first_fit takes_section takes_part fits same_kind kind_number sections_want
sections_first s = either (stood_all s) where
  either : (b : Bool) → (if not b || false then wants.Paren else wants.Close) ≡ (if b then wants.Close else wants.Paren)
  either true = refl
  either false = refl

module _ (s : ProblemParts) (t : Token) where
  abbrev problem_fits : Bool → Bool → Bool → Bool → Bool → Bool
  problem_fits a b c d e =
      is_key (codes ":domain") t && not a || is_key (codes ":requirements") t && not s.requirements || is_key (codes ":objects") t && not b
      || is_key (codes ":init") t && not c || is_key (codes ":goal") t && not d || is_key (codes ":metric") t && not e

  problem_fit : fits (Places.AProblemSection (noted_problem s)) t ≡ fits (Places.AProblemSection s) t
  unfolding fits
  problem_fit =
      ap (λ a. problem_fits a (is_some (mark [] s.objects)) (is_some (mark [] s.init)) (is_some (mark [] s.goal)) (is_some (mark 0 s.metric))) (marked no_name s.domain)
      ∙ ap (λ a. problem_fits (is_some s.domain) a (is_some (mark [] s.init)) (is_some (mark [] s.goal)) (is_some (mark 0 s.metric))) (marked [] s.objects)
      ∙ ap (λ a. problem_fits (is_some s.domain) (is_some s.objects) a (is_some (mark [] s.goal)) (is_some (mark 0 s.metric))) (marked [] s.init)
      ∙ ap (λ a. problem_fits (is_some s.domain) (is_some s.objects) (is_some s.init) a (is_some (mark 0 s.metric))) (marked [] s.goal)
      ∙ ap (λ a. problem_fits (is_some s.domain) (is_some s.objects) (is_some s.init) (is_some s.goal) a) (marked 0 s.metric)

  problem_refused : refused (Places.AProblemSection (noted_problem s)) t ≡ refused (Places.AProblemSection s) t
  unfolding refused_token left_out wanted first_fit takes_section fits same_kind kind_number
  problem_refused = told_same (Places.AProblemSection (noted_problem s)) (Places.AProblemSection s) t refl refl refl refl

  abbrev all_stood : Bool → Bool → Bool → Bool → Bool → Bool
  all_stood a b c d e = s.requirements && a && b && c && d && e

  stood_same : stood_all (noted_problem s) ≡ stood_all s
  unfolding stood_all
  stood_same =
      ap (λ a. all_stood a (is_some (mark [] s.objects)) (is_some (mark [] s.init)) (is_some (mark [] s.goal)) (is_some (mark 0 s.metric))) (marked no_name s.domain)
      ∙ ap (λ a. all_stood (is_some s.domain) a (is_some (mark [] s.init)) (is_some (mark [] s.goal)) (is_some (mark 0 s.metric))) (marked [] s.objects)
      ∙ ap (λ a. all_stood (is_some s.domain) (is_some s.objects) a (is_some (mark [] s.goal)) (is_some (mark 0 s.metric))) (marked [] s.init)
      ∙ ap (λ a. all_stood (is_some s.domain) (is_some s.objects) (is_some s.init) a (is_some (mark 0 s.metric))) (marked [] s.goal)
      ∙ ap (λ a. all_stood (is_some s.domain) (is_some s.objects) (is_some s.init) (is_some s.goal) a) (marked 0 s.metric)

  sections_fit : fits (Places.MoreSections (noted_problem s)) t ≡ fits (Places.MoreSections s) t
  unfolding fits
  sections_fit =
      ap (λ a. is_kind kinds.Open t && not a || is_kind kinds.Close t && is_some (mark no_name s.domain) && is_some (mark [] s.goal)) stood_same
      ∙ ap (λ a. is_kind kinds.Open t && not (stood_all s) || is_kind kinds.Close t && a && is_some (mark [] s.goal)) (marked no_name s.domain)
      ∙ ap (λ a. is_kind kinds.Open t && not (stood_all s) || is_kind kinds.Close t && is_some s.domain && a) (marked [] s.goal)

  want_same : sections_want (noted_problem s) ≡ sections_want s
  unfolding sections_want
  want_same = ap (λ a. if a then wants.Close else wants.Paren) stood_same

  sections_refused : refused (Places.MoreSections (noted_problem s)) t ≡ refused (Places.MoreSections s) t
  unfolding refused_token left_out wanted
  sections_refused =
      told_same (Places.MoreSections (noted_problem s)) (Places.MoreSections s) t refl refl refl
      (ap (λ w. if is_kind kinds.Close t then wants.Missing else w) (sections_first (noted_problem s) ∙ want_same ∙ sym (sections_first s)))

pub same_problem : (s : ProblemParts) → SamePlace (Table.ProblemSection (noted_problem s)) (Places.AProblemSection s)
same_problem s t = (problem_fit s t, problem_refused s t)

pub same_sections : (s : ProblemParts) → SamePlace (Table.ProblemSections (noted_problem s)) (Places.MoreSections s)
same_sections s t = (sections_fit s t, sections_refused s t)

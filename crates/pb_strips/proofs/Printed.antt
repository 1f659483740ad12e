-- The actions of a plan by names are printed with the bytes of these names.
use Rattle.std.proofs.Common.{◌≡◌, ℕ, suc, Bool, true, false, if◌then◌else◌, List, [], ◌∷◌, All, map, Some, refl, sym, subst, arith}
use Rattle.std.proofs.lemmas.List.Elements.{All-append}
use Rattle.std.proofs.lemmas.Slice.Eq.{bytes_eq-Decides}
use Rattle.std.specs.Str.{bytes_eq}
use Rattle.pb_pddl.specs.declared.tree.Typed.{Typed}
use Rattle.pb_pddl.specs.declared.tree.Domain.{Domain}
use Rattle.pb_pddl.specs.declared.tree.Problem.{Problem}
use Rattle.pb_pddl.specs.Words.{IsWord, DomainHasWords, ProblemHasWords}
use Rattle.pb_lifted.specs.Types.{name_text}
use Rattle.pb_lifted.specs.Objects.{objects_of, entry_of}
use Rattle.pb_lifted.specs.Facts.{name_at}
use Rattle.pb_lifted.specs.Space.{State, FitsParameter, AreGiven, IsStep, start_of}
use Rattle.pb_lifted.specs.Plans.{NamedAction, Leads}
use Rattle.pb_strips.specs.Names.{action_word, action_bytes, action_text}
use Rattle.pb_strips.specs.Naming.{NamesArePrinted}
use Rattle.pb_strips.proofs.Texts.{IsPlain, ArePlain, plain, text_of_line, text_is}
use Rattle.pb_strips.proofs.Telling.{plain_at, actions_plain}

abbrev pub HasWord : Typed → Type 0
HasWord t = IsWord t.name.text

-- what is given to a parameter is the name of an object, and so a word
object_plain : (types list : List Typed) (text : List ℕ) (param : Typed) → All HasWord list → FitsParameter types (entry_of list text) param → IsPlain text
object_plain types [] text param words fits = absurd fits
object_plain types (t ∷ list) text param words fits =
    at (bytes_eq text (name_text t)) refl (object_plain types list text param (λ k d less. words (suc k) d (omega arith))) fits
  where
    at : (same : Bool) → bytes_eq text (name_text t) ≡ same → (FitsParameter types (entry_of list text) param → IsPlain text)
        → FitsParameter types (if same then Some t else entry_of list text) param → IsPlain text
    at true e rest f = subst IsPlain (sym ((bytes_eq-Decides text (name_text t)).0 e)) (plain t.name.text (words 0 t (omega arith)).1)
    at false e rest f = rest f

module _ (domain : Domain) (problem : Problem) (words : DomainHasWords domain) (others : ProblemHasWords problem) where
  given_plain : (params : List Typed) (objects : List (List ℕ)) → AreGiven domain problem params objects → ArePlain objects
  given_plain [] [] given = tt
  given_plain [] (o ∷ objects) given = absurd given
  given_plain (p ∷ params) [] given = absurd given
  given_plain (p ∷ params) (o ∷ objects) given =
      (object_plain domain.types (objects_of domain problem) o p (All-append HasWord domain.constants problem.objects words.constants others) given.0, given_plain params objects given.1)

  printed : (state next : State) (a : NamedAction) → IsStep domain problem state a.0 a.1 next → action_text domain a ≡ action_bytes domain a
  printed state next a step =
      text_is (action_bytes domain a)
      (text_of_line (name_at (map action_word domain.actions) a.0) a.1 (plain_at (map action_word domain.actions) (actions_plain domain.actions words.actions) a.0)
      (given_plain step.action.params a.1 step.fits))

  all_printed : (actions : List NamedAction) (state last : State) → Leads domain problem state actions last → map (action_text domain) actions ≡ map (action_bytes domain) actions
  all_printed [] state last leads = refl
  all_printed (a ∷ actions) state last leads =
      let first = printed state leads.0 a leads.1 in
      let rest = all_printed actions leads.0 last leads.2 in
      λ i. first i ∷ rest i

pub names_are_printed : NamesArePrinted
names_are_printed domain problem actions words others is = all_printed domain problem words others actions (start_of problem) is.0 is.1

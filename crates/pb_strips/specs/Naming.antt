-- The names under which ground actions are printed differ, and each is one line.
use Rattle.std.specs.Prelude.{◌≡◌, ◌≢◌, ℕ, ◌<◌, List, map, length, All, None}
use Rattle.pb_pddl.specs.declared.tree.Domain.{Domain}
use Rattle.pb_pddl.specs.declared.tree.Problem.{Problem}
use Rattle.pb_pddl.specs.Words.{DomainHasWords, ProblemHasWords}
use Rattle.pb_lifted.specs.Plans.{NamedAction, IsPlan}
use Rattle.pb_lifted.specs.Refusals.{first_refusal}
use Rattle.pb_ground.specs.Steps.{Facts}
use Rattle.pb_task.specs.declared.grounding.Grounding.{Grounding}
use Rattle.pb_task.specs.Strips.{name_in}
use Rattle.pb_strips.specs.Names.{action_bytes, action_text}
use Rattle.pb_strips.specs.Grounding.{strips_of, kept_strips, strips_with}
use Rattle.pb_strips.specs.Refusals.{first_fault, fault_with}

-- no two actions have one name, and no name has a line feed
pub record AreTellingNames (count : ℕ) (name : ℕ → List ℕ) : Type 0 where
  pub different : (one other : ℕ) → one < count → other < count → name one ≡ name other
      → one ≡ other
  pub lines : (action : ℕ) → All (λ c. c ≢ 10) (name action)

-- If a domain and a problem whose names are words are a task, the printed names of its ground
-- actions differ, each in one line.
abbrev pub NamesTellActions : Type 0
NamesTellActions =
    (domain : Domain) (problem : Problem) → first_fault domain problem ≡ None
    → DomainHasWords domain → ProblemHasWords problem
    → AreTellingNames (length (strips_of domain problem).actions)
    (name_in (strips_of domain problem).actions)

-- The same for the task of kept atoms.
abbrev pub KeptNamesTellActions : Type 0
KeptNamesTellActions =
    (domain : Domain) (problem : Problem) (grounding : Grounding) (kept : Facts)
    → first_refusal domain problem ≡ None → DomainHasWords domain → ProblemHasWords problem
    → AreTellingNames (length (kept_strips domain problem grounding kept).actions)
    (name_in (kept_strips domain problem grounding kept).actions)

-- And for the task of each grounding.
abbrev pub GroundedNamesTellActions : Type 0
GroundedNamesTellActions =
    (grounding : Grounding) (domain : Domain) (problem : Problem)
    → fault_with grounding domain problem ≡ None → DomainHasWords domain → ProblemHasWords problem
    → AreTellingNames (length (strips_with grounding domain problem).actions)
    (name_in (strips_with grounding domain problem).actions)

-- The actions of a plan by names are printed as they are called: `(name object ..)`, each with the
-- bytes of the names themselves.
abbrev pub NamesArePrinted : Type 0
NamesArePrinted =
    (domain : Domain) (problem : Problem) (actions : List NamedAction) → DomainHasWords domain
    → ProblemHasWords problem → IsPlan domain problem actions
    → map (action_text domain) actions ≡ map (action_bytes domain) actions

-- The names in a tree are words: lower-case letters, digits, - and _, of which the first is a
-- letter or a digit.
use Rattle.std.specs.Prelude.{ℕ, Bool, ◌||◌, ◌==◌, IsTrue, List, [], ◌∷◌, All}
use Rattle.pb_pddl.specs.declared.tree.Typed.{Typed}
use Rattle.pb_pddl.specs.declared.tree.Action.{Action}
use Rattle.pb_pddl.specs.declared.tree.Domain.{Domain}
use Rattle.pb_pddl.specs.declared.tree.Problem.{Problem}
use Rattle.pb_pddl.specs.Tokens.{is_between}

-- a lower-case letter or a digit
abbrev pub is_first_byte : ℕ → Bool
is_first_byte b = is_between 97 122 b || is_between 48 57 b

abbrev pub is_word_byte : ℕ → Bool
is_word_byte b = is_first_byte b || b == 45 || b == 95

abbrev pub AreWordBytes : List ℕ → Type 0
AreWordBytes bytes = All (λ b. IsTrue (is_word_byte b)) bytes

abbrev pub BeginsWord : List ℕ → Type 0
BeginsWord [] = ⊥
BeginsWord (first ∷ rest) = IsTrue (is_first_byte first)

abbrev pub IsWord : List ℕ → Type 0
IsWord text = BeginsWord text × AreWordBytes text

-- the names of a domain's actions and constants, from which plans are printed
pub record DomainHasWords (domain : Domain) : Type 0 where
  pub actions : All (λ (a : Action). IsWord a.name.text) domain.actions
  pub constants : All (λ (t : Typed). IsWord t.name.text) domain.constants

-- the names of a problem's objects
abbrev pub ProblemHasWords : Problem → Type 0
ProblemHasWords problem = All (λ (t : Typed). IsWord t.name.text) problem.objects

-- The names of ground actions, as plans print them.
use Rattle.std.specs.Prelude.{◌≡◌, ℕ, List, [], ◌∷◌, ◌++◌, map}
use Rattle.std.specs.Str.{IsUtf8}
use Rattle.std.specs.Str.Lossy.{utf8_lossy}
use Rattle.pb_pddl.specs.declared.tree.Action.{Action}
use Rattle.pb_pddl.specs.declared.tree.Domain.{Domain}
use Rattle.pb_lifted.specs.Facts.{name_at}
use Rattle.pb_lifted.specs.Plans.{NamedAction}

abbrev pub action_word : Action → List ℕ
action_word action = action.name.text

-- each word with a space before it
abbrev pub spaced : List (List ℕ) → List ℕ
spaced [] = []
spaced (word ∷ words) = 32 ∷ word ++ spaced words

-- `(name object ..)`: the name of an action of the domain, and the names of the objects that are
-- given to its parameters
abbrev pub action_bytes : Domain → NamedAction → List ℕ
action_bytes domain action =
    40 ∷ name_at (map action_word domain.actions) action.0 ++ spaced action.1 ++ 41 ∷ []

-- the same as a text; U+FFFD is in place of each sequence that is no UTF-8, but texts that are read
-- have none in names
abbrev pub action_text : Domain → NamedAction → List ℕ
action_text domain action = utf8_lossy (action_bytes domain action)

-- If the names are UTF-8, the text has these bytes.
abbrev pub TextsKeepNames : Type 0
TextsKeepNames =
    (domain : Domain) (action : NamedAction) → IsUtf8 (action_bytes domain action)
    → action_text domain action ≡ action_bytes domain action

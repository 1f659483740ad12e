-- Images of states. Some atoms are tracked, and a state's image has those of them that hold. A step
-- of a state has an image too: the step of the state's image, cut to the tracked atoms.
use Rattle.std.specs.Prelude.{ℕ, Bool, not, ◌&&◌, ◌==◌, List, length, Option, is_some, slice_index}
use Rattle.pb_task.specs.declared.parts.GroundAction.{GroundAction}
use Rattle.pb_task.specs.declared.parts.StripsParts.{StripsParts}
use Rattle.pb_task.specs.Strips.{has_atom, set_of, is_within, state_after, action_at}
use Rattle.pb_tables.specs.Below.{first_below, any_below, some_if}

-- the atoms, of so many, that are in both sets
abbrev pub both : (count one other : ℕ) → ℕ
both count one other = set_of count (λ atom. has_atom one atom && has_atom other atom)

-- the tracked atoms that the action needs are in the image
abbrev pub may_act : (count tracked : ℕ) → GroundAction → (image : ℕ) → Bool
may_act count tracked action image = is_within count (both count action.needs tracked) image

-- the image less what the action deletes, with what it adds, of the tracked atoms
abbrev pub image_after : (count tracked : ℕ) → GroundAction → (image : ℕ) → ℕ
image_after count tracked action image = both count (state_after count action image) tracked

-- the image has all tracked atoms of the goal
abbrev pub has_goal : StripsParts → (tracked image : ℕ) → Bool
has_goal strips tracked image =
    is_within strips.atoms (both strips.atoms strips.goal tracked) image

-- the first place in a list that has the image
abbrev pub place_in : (listed : List ℕ) → (image : ℕ) → Option ℕ
place_in listed image =
    first_below (length listed) (λ place. some_if (slice_index listed place == image) place)

-- the action may be taken from the image, and leads to one that isn't listed
abbrev pub leads_out : (count tracked : ℕ) → (listed : List ℕ) → GroundAction → (image : ℕ) → Bool
leads_out count tracked listed action image =
    may_act count tracked action image
    && not (is_some (place_in listed (image_after count tracked action image)))

-- some action leads from the image to one that isn't listed
abbrev pub is_open : StripsParts → (tracked : ℕ) → (listed : List ℕ) → (image : ℕ) → Bool
is_open strips tracked listed image =
    any_below (length strips.actions) (λ action. leads_out strips.atoms tracked listed
    (action_at strips.actions action) image)

-- What an owner has, and what it did alone.
use Rattle.std.specs.Prelude.{◌≡◌, ℕ, ◌≤◌, ◌%◌, IsTrue, IsFalse, List, [], ◌∷◌, Some, ⊤, sum_by}
use Rattle.pb_model.specs.declared.row.Row.{Row}
use Rattle.pb_model.specs.declared.row.Status.{Status}
use Rattle.pb_model.specs.declared.row.Status.TheVariants.{Opened, Closed, Cut}
use Rattle.pb_model.specs.Space.{Space}
use Rattle.pb_model.specs.Weight.{Weight}
use Rattle.pb_model.specs.Guide.{Guide}
use Rattle.pb_model.specs.Store.{Part, MayBeCut}
use Rattle.pb_model.specs.Key.{IsFirstRow}
use Rattle.pb_model.specs.Work.{Work, break_off, expansions, broken_expansions}
use Rattle.pb_machine.specs.Turns.{IsLeaseTurn}
use Rattle.pb_lists.specs.Bundle.{Content, row_of}
use Rattle.pb_task.specs.declared.parts.TaskParts.{TaskParts}
use Rattle.pb_estimate.specs.Choices.{Choice}
use Rattle.pb_estimate.specs.Estimates.{estimate_by}
use Rattle.pb_abstract.specs.Graph.{AbstractGraph, home_of}
use Rattle.pb_mail.specs.declared.letter.Letter.{Letter}
use Rattle.pb_hashed.specs.Mailed.{Owner, share_store}
use Rattle.pb_hashed.specs.MailWork.{ComesAlone, share_after}
use Rattle.pb_owner.specs.declared.share.Share.{Share}

-- the owner of a state has the number of its block mod the number of owners
abbrev pub guide_for : TaskParts → AbstractGraph → (owners : ℕ) → Choice → Guide
guide_for task abstraction owners choice =
    record {
      estimate = estimate_by task choice;
      home = λ state. home_of task abstraction state % owners;
    }

abbrev pub weight_of : ℕ × ℕ → Weight
weight_of weight = record { num = weight.0; den = weight.1 }

-- the share, with letters that were sent and aren't taken yet
abbrev pub owner_of : Share → (letters : (to : ℕ) → List Letter) → Owner
owner_of share letters =
    record { part = row_of share.bundle; incumbent = share.incumbent; letters = letters }

-- each row is of a state that this owner has
abbrev pub AreOwn : Guide → (number : ℕ) → Part → Type 0
AreOwn guide number part =
    (state : ℕ) (row : Row) → part state ≡ Some row → guide.home state ≡ number

-- each row is of such a state of the space, and no g is greater
pub record AreOwnWithin (space : Space) (guide : Guide) (number most : ℕ) (part : Part) : Type 0
  where
    pub own : AreOwn guide number part
    pub states : (state : ℕ) (row : Row) → part state ≡ Some row → IsTrue (space.is_state state)
    pub small : (state : ℕ) (row : Row) → part state ≡ Some row → row.g ≤ most

-- each piece of the work is a turn of a best-first search on the owner's rows, or such a turn's
-- expansion that is broken off
abbrev pub AreOwnTurns : Space → Guide → Weight → (number : ℕ) → List Work → (old : Owner) → Type 0
AreOwnTurns space guide weight number [] old = ⊤
AreOwnTurns space guide weight number (work ∷ works) old =
    IsLeaseTurn guide (share_store weight number old) work
    × AreOwnTurns space guide weight number works (share_after space guide weight number work old)

-- if one of these pieces of work is an expansion that was broken off, it is the last
abbrev pub IsBrokenLast : List Work → Type 0
IsBrokenLast [] = ⊤
IsBrokenLast (break_off own offers ∷ works) = works ≡ []
IsBrokenLast (work ∷ works) = IsBrokenLast works

-- Alone, the owner came from the one share to the other, by turns: by exactly so many expansions,
-- and so many that were broken off. If one was, it was the last turn.
pub record HasWorked (space : Space) (guide : Guide) (weight : Weight) (number used broken : ℕ)
    (old new : Owner) : Type 0 where
  pub works : List Work
  pub comes : ComesAlone space guide weight number works old new
  pub turns : AreOwnTurns space guide weight number works old
  pub used_is : expansions works ≡ used
  pub broken_is : broken_expansions works ≡ broken
  pub broken_last : IsBrokenLast works

-- the state has this row, which is the first Opened one of the share, and the next turn is its
-- expansion
pub record IsNextRow (space : Space) (weight : Weight) (share : Share) (state : ℕ) (row : Row)
    : Type 0 where
  pub first : IsFirstRow weight (row_of share.bundle) state row
  pub kept : ¬ MayBeCut weight share.incumbent row.g row.estimate
  pub no_goal : IsFalse (space.is_goal state)

abbrev pub one_if_opened : Status → ℕ
one_if_opened Opened = 1
one_if_opened Closed = 0
one_if_opened Cut = 0

-- how many rows of the bundle are Opened
abbrev pub opened_in : Content → ℕ
opened_in content = sum_by (λ (entry : ℕ × Row). one_if_opened entry.1.status) content.entries

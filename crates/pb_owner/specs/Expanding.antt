-- What an expansion does: to the owner's rows, and by letters.
use Rattle.std.specs.Prelude.{◌≡◌, ℕ, List, [], ◌++◌}
use Rattle.pb_model.specs.declared.row.Succ.{Succ}
use Rattle.pb_model.specs.Space.{Space}
use Rattle.pb_model.specs.Weight.{Weight}
use Rattle.pb_model.specs.Guide.{Guide}
use Rattle.pb_model.specs.Work.{row_after_offers}
use Rattle.pb_lists.specs.Bundle.{row_of}
use Rattle.pb_mail.specs.declared.letter.Letter.{Letter}
use Rattle.pb_mail.specs.declared.pass.PostPass.{PostPass}
use Rattle.pb_mail.specs.declared.post.Post.{Post}
use Rattle.pb_mail.specs.Posted.{letters_to, HasPosted}
use Rattle.pb_hashed.specs.MailWork.{letters_out}
use Rattle.pb_owner.specs.declared.share.Share.{Share}
use Rattle.pb_owner.specs.Shares.{owner_of, HasWorked}

-- These successors of a row with this g were offered, one after another: those that the owner has
-- itself to its rows, and each other one by a letter.
pub record HasOffered {K : Type 0} (guide : Guide) (number parent g : ℕ) (succs : List Succ)
    (post : Post K) (old new : Share) (before after : PostPass) : Type 0 where
  pub rows : (state : ℕ) → row_of new.bundle state
      ≡ row_after_offers guide parent g succs number state (row_of old.bundle state)
  pub weight_is : new.bundle.weight ≡ old.bundle.weight
  pub incumbent_is : new.incumbent ≡ old.incumbent
  pub sends : List (ℕ × Letter)
  pub posted : HasPosted post before after sends []
  pub letters : (to : ℕ) → letters_to to sends ≡ letters_out guide parent g number to succs

-- The owner did so many expansions, broke off so many others, and sent the letters of all of them.
pub record HasExpanded {K : Type 0} (space : Space) (guide : Guide) (weight : Weight)
    (number used broken : ℕ) (post : Post K) (old new : Share) (before after : PostPass) : Type 0
  where
    pub sends : List (ℕ × Letter)
    pub posted : HasPosted post before after sends []
    pub worked : (letters : (to : ℕ) → List Letter)
        → HasWorked space guide weight number used broken (owner_of old letters)
        (owner_of new (λ to. letters to ++ letters_to to sends))

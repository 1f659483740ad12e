-- What a caller of a lock has to show, and what it learns. `fact x n views` is the caller's rule:
-- of the state that the last holder left, of the number, and of what each pass knows. Each pass has
-- a number, and `views` at that number is its view.
use Rattle.std.specs.Prelude.{◌≡◌, ◌≢◌, ℕ, min, List, [], ◌∷◌, ◌++◌, slice_set, Option, Some}
use mathlib.Core.Option.{some}
use lib.ListN.{get_elem?}

-- this is the state that a pass has found, if it has found one
abbrev pub IsHeld : {S : Type 0} → Option S → S → Type 0
IsHeld {S} held x = (found : S) → held ≡ Some found → found ≡ x

module _ {S V : Type 0} (fact : S → ℕ → List V → Type 0) where
  -- For any number and knowledge of the others: the fact stays when the state goes from x to y, and
  -- this pass's view from v to w.
  abbrev pub LeaveKeeps : ℕ → V → S → S → V → Type 0
  LeaveKeeps pass v x y w =
      (n : ℕ) (views : List V) → fact x n views → get_elem? views pass ≡ some v
      → fact y n (slice_set views pass w)

  -- whatever the others know, the fact stays when this pass reads the number and gets the view that
  -- `then` gives. If the pass holds the turn, the state is the one that it has found
  abbrev pub LoadKeeps : ℕ → V → Option S → (ℕ → V) → Type 0
  LoadKeeps pass v held then =
      (x : S) (n : ℕ) (views : List V) → fact x n views → get_elem? views pass ≡ some v
      → IsHeld held x → fact x n (slice_set views pass (then n))

  -- For any state and knowledge of the others: the fact stays when the number becomes the lesser of
  -- itself and k, and this pass's view w.
  abbrev pub LowerKeeps : ℕ → V → ℕ → V → Type 0
  LowerKeeps pass v k w =
      (x : S) (n : ℕ) (views : List V) → fact x n views → get_elem? views pass ≡ some v
      → fact x (min n k) (slice_set views pass w)

  -- For any state, number and knowledge of the others: the fact stays when this pass's view v is
  -- cut in two, and a new pass gets the second.
  abbrev pub SplitKeeps : ℕ → V → V → V → Type 0
  SplitKeeps pass v kept given =
      (x : S) (n : ℕ) (views : List V) → fact x n views → get_elem? views pass ≡ some v
      → fact x n (slice_set views pass kept ++ given ∷ [])

  -- the same when this pass takes in another, with the view w, which is spent
  abbrev pub MeetKeeps : ℕ → V → ℕ → V → V → V → Type 0
  MeetKeeps pass v other w both spent =
      (x : S) (n : ℕ) (views : List V) → fact x n views → get_elem? views pass ≡ some v
      → other ≢ pass → get_elem? (slice_set views pass both) other ≡ some w
      → fact x n (slice_set (slice_set views pass both) other spent)

  -- the fact holds of this state, of this number and of some views, of which this pass's is v
  abbrev pub StandsAt : ℕ → V → S → ℕ → Type 0
  StandsAt pass v x n = (views : List V) × fact x n views × (get_elem? views pass ≡ some v)

  -- the fact holds of this state, of some number and of some views, of which this pass's is v
  abbrev pub Stands : ℕ → V → S → Type 0
  Stands pass v x = (n : ℕ) × StandsAt pass v x n

  -- the fact holds of this state and number if the views of all other passes are spent
  abbrev pub StandsAlone : ℕ → V → V → S → ℕ → Type 0
  StandsAlone pass v spent x n =
      (views : List V) × fact x n views × (get_elem? views pass ≡ some v)
      × ((other : ℕ) (w : V) → get_elem? views other ≡ some w → other ≢ pass → w ≡ spent)

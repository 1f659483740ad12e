-- The rule of one queue: what each owner sent is what was taken of it, and then what the queue holds
-- of it, in order.
use Rattle.std.specs.Prelude.{◌≡◌, ◌≢◌, ℕ, ◌<◌, ◌≤◌, Bool, IsTrue, List, [], ◌++◌, All, Contains}
use mathlib.Core.Option.{some}
use lib.ListN.{get_elem?}
use Rattle.pb_mail.specs.declared.letter.Letter.{Letter}
use Rattle.pb_mail.specs.declared.letter.Sent.{Sent}
use Rattle.pb_mail.specs.declared.view.View.{View}
use Rattle.pb_mail.specs.Views.{letters_of, took_view}

-- What a live view says is true. `log` is all that was ever sent to this queue, in order, and
-- `taken` what of it was taken. `seat_of` is the seat that knows what each owner sent.
pub record IsTrueOf (log taken : List Sent) (made reader : ℕ) (seat_of : ℕ → ℕ) (seat : ℕ)
    (v : View) : Type 0 where
  pub sent : letters_of v.number log ≡ v.sent
  pub below : v.number < made
  pub own : seat_of v.number ≡ seat
  pub met : All (λ p. (letters_of p.0 log ≡ p.1) × (p.0 < made) × (seat_of p.0 ≡ seat)
      × (p.0 ≢ v.number)) v.met
  pub counts : v.number ≡ 0 → v.made ≡ made
  pub takes : IsTrue v.takes → (seat ≡ reader) × (v.taken ≡ taken)

-- `made` passes were made. One seat alone may take letters.
pub record Delivers (fits : ℕ → Bool) (items : List Sent) (views : List View) : Type 0 where
  pub made : ℕ
  pub reader : ℕ
  pub seat_of : ℕ → ℕ
  pub taken : List Sent
  pub each : (seat : ℕ) (v : View) → get_elem? views seat ≡ some v → IsTrue v.is_live
      → IsTrueOf (taken ++ items) taken made reader seat_of seat v
  pub unmade : (owner : ℕ) → made ≤ owner → letters_of owner (taken ++ items) ≡ []
  pub fit : All (λ x. IsTrue (fits x.letter.state)) items

-- what was taken of the owner is the first part of what it sent
abbrev pub IsBeginning : (owner : ℕ) → (sent : List Letter) → (taken : List Sent) → Type 0
IsBeginning owner sent taken = (rest : List Letter) × (sent ≡ letters_of owner taken ++ rest)

-- what was taken of the pass's owner, and of each owner whose pass it took in, is the first part of
-- what that one sent
pub record AreBeginnings (v : View) : Type 0 where
  pub own : IsBeginning v.number v.sent v.taken
  pub met : All (λ p. IsBeginning p.0 p.1 v.taken) v.met

-- all that these owners sent was taken, each letter once and in its sender's order; the first pass
-- knows also that no letter was by an owner without a pass
pub record AreWhole (v : View) : Type 0 where
  pub own : letters_of v.number v.taken ≡ v.sent
  pub met : All (λ p. letters_of p.0 v.taken ≡ p.1) v.met
  pub none : v.number ≡ 0 → (owner : ℕ) → v.made ≤ owner → letters_of owner v.taken ≡ []

-- a letter was taken from the queue: of a state that may be sent, by an owner that has a pass
pub record IsTaken (fits : ℕ → Bool) (v : View) (x : Sent) (w : View) : Type 0 where
  pub now : w ≡ took_view v x
  pub fit : IsTrue (fits x.letter.state)
  pub beginnings : AreBeginnings w
  pub sender : v.number ≡ 0 → x.from < v.made

-- at one moment the queue held no letter, and each pass knew what is true; this was one of them
pub record WasEmpty (fits : ℕ → Bool) (v : View) : Type 0 where
  pub views : List View
  pub seat : ℕ
  pub among : get_elem? views seat ≡ some v
  pub rule : Delivers fits [] views

-- what a pass that may take learns of a queue that it found empty
abbrev pub IsToldEmpty : (fits : ℕ → Bool) → View → List Sent → Type 0
IsToldEmpty fits v items =
    IsTrue v.is_live → IsTrue v.takes → items ≡ [] → AreWhole v × WasEmpty fits v

-- the pass is the first one, and took in those of all other owners
pub record HasMetAll (v : View) : Type 0 where
  pub first : v.number ≡ 0
  pub met : (owner : ℕ) → owner < v.made → owner ≢ 0
      → (sent : List Letter) × Contains v.met (owner, sent)

-- Pseudorandom numbers by a linear congruential generator (Lehmer, "Mathematical methods in
-- large-scale computing units", 1951). Its multiplier and increment are those of Knuth's MMIX ("The
-- art of computer programming", volume 2, section 3.3.4).
use Rattle.std.specs.Prelude.{ℕ, zero, suc, ◌+◌, ◌*◌, ◌/◌, ◌%◌, ◌^◌, List, [], ◌∷◌}

-- the number that the generator holds after a draw
unfoldable pub next_number : (number : ℕ) → ℕ
next_number number = (6364136223846793005 * number + 1442695040888963407) % 2 ^ 64

-- a draw is the upper half of the number that the generator then holds
unfoldable pub draw_from : (number : ℕ) → ℕ
draw_from number = next_number number / 2 ^ 32

-- so many draws of a generator that holds this number; at first a generator holds the seed
abbrev pub draws : (count number : ℕ) → List ℕ
draws zero number = []
draws (suc count) number = draw_from number ∷ draws count (next_number number)

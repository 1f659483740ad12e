-- The place of a byte, as a loop finds it.
use Rattle.std.proofs.Common.{◌≡◌, ℕ, suc, ◌+◌, ◌<◌, ◌≤◌, List, length, get_or, drop, ap, arith, drop-cons}
use Rattle.std.proofs.Math.ListN.{drop_of_length-le}
use Rattle.pb_lines.specs.Words.{place_of}

here : (byte i : ℕ) (text : List ℕ) → i < length text → get_or text i 0 ≡ byte
    → place_of byte (drop i text) ≡ 0
unfolding place_of
here byte i text less is = rw (drop-cons text i 0 less, is) (grind arith)

pub found : (byte i place : ℕ) (text : List ℕ) → place ≡ i → i < length text → get_or text i 0
    ≡ byte → place_of byte text ≡ i + place_of byte (drop i text) → place ≡ place_of byte text
found byte i place text e less is so_far = let h =
    here byte i text less is in omega (arith, e, h, so_far)

there : (byte i : ℕ) (text : List ℕ) → i < length text → (get_or text i 0 ≡ byte → ⊥)
    → place_of byte (drop i text) ≡ suc (place_of byte (drop (i + 1) text))
unfolding place_of
there byte i text less differs = let e : i + 1 ≡ suc i =
    omega arith in rw (drop-cons text i 0 less, e) (grind (arith, differs))

pub further : (byte i : ℕ) (text : List ℕ) → i < length text → (get_or text i 0 ≡ byte → ⊥)
    → place_of byte text ≡ i + place_of byte (drop i text) → place_of byte text
    ≡ (i + 1) + place_of byte (drop (i + 1) text)
further byte i text less differs so_far =
    let h : place_of byte (drop i text) ≡ suc (place_of byte (drop (i + 1) text)) =
    there byte i text less differs in omega (arith, h, so_far)

nothing : (byte i : ℕ) (text : List ℕ) → length text ≤ i → place_of byte (drop i text) ≡ 0
unfolding place_of
nothing byte i text over = ap (place_of byte) (drop_of_length-le text over)

pub at_end : (byte i place : ℕ) (text : List ℕ) → place ≡ i → length text ≤ i → place_of byte text
    ≡ i + place_of byte (drop i text) → place ≡ place_of byte text
at_end byte i place text e over so_far = let h : place_of byte (drop i text) ≡ 0 =
    nothing byte i text over in omega (arith, e, h, so_far)

-- A list in front of an array's unused places.
use Rattle.std.proofs.Common.{◌≡◌, ℕ, ◌-◌, ◌++◌, ◌≤◌, List, length, take, drop, replicate, sym, ap, ◌∙◌, arith}
use Rattle.std.proofs.lemmas.List.{length-take-le, take-append-drop}

pub padded_again : (count : ℕ) (atoms : List ℕ) → length atoms ≡ 12 → count ≤ 12
    → drop count atoms ≡ replicate (12 - count) 0
    → (take count atoms ++ replicate (12 - length (take count atoms)) 0 ≡ atoms)
    × (length (take count atoms) ≡ count)
padded_again count atoms many few rest =
    let is : length (take count atoms) ≡ count = length-take-le count atoms (omega arith) in (
      ap (λ n. take count atoms ++ replicate (12 - n) 0) is ∙ ap (λ xs. take count atoms ++ xs)
          (sym rest) ∙ take-append-drop count atoms,
      is,
    )

-- The tracked atoms of a set, as bits.
use Rattle.std.proofs.Common.{◌≡◌, ℕ, zero, suc, ◌+◌, ◌-◌, ◌*◌, ◌/◌, ◌%◌, ◌^◌, ◌<◌, ◌≤◌, Bool, true, false, ◌==◌, List, [], ◌∷◌, length, get_or, drop, set, replicate, sym, ap, ◌∙◌, length-drop, arith, lit<}
use Rattle.std.proofs.Math.Nat.{pow-suc}
use Rattle.std.proofs.Math.Pow.{pow_mono}
use Rattle.std.proofs.lemmas.List.{drop-drop, drop-replicate, drop-set-lt}
use mir.Val.{bool_byte}
use Rattle.pb_packed.specs.Bits.{bit_number}
use Rattle.std.specs.Int.{bit_at}
use Rattle.std.proofs.lemmas.Nat.Bits.{bit_at_lowest, bit_at-suc}
use Rattle.pb_task.specs.Strips.{has_atom}
use Rattle.pb_task.proofs.Callers.{same_atoms}
use Rattle.pb_abstract.specs.Tracked.{tracked_set}

pub bit_small : (test : Bool) → bit_number test ≤ 1
bit_small true = omega arith
bit_small false = omega arith

pub byte_small : (test : Bool) → bool_byte test ≤ 1
byte_small true = omega arith
byte_small false = omega arith

pub set_small : (atoms : List ℕ) (set : ℕ) → tracked_set atoms set < 2 ^ length atoms
set_small [] set = lit< tt
set_small (atom ∷ atoms) set =
    let rest : tracked_set atoms set < 2 ^ length atoms = set_small atoms set in
    let bit : bit_number (has_atom set atom) ≤ 1 = bit_small (has_atom set atom) in
    let up : 2 ^ suc (length atoms) ≡ 2 ^ length atoms * 2 = pow-suc 2 (length atoms) in
    omega arith

-- what is left of at most 12 atoms behind the first
pub rest_small : (atoms : List ℕ) (set at : ℕ) → length atoms ≤ 12 → 0 < at → tracked_set (drop at atoms) set < 2 ^ 11
rest_small atoms set at few some =
    let less : tracked_set (drop at atoms) set < 2 ^ length (drop at atoms) = set_small (drop at atoms) set in
    let short : length (drop at atoms) ≤ 11 = omega (arith, length-drop at atoms) in
    let up : 2 ^ length (drop at atoms) ≤ 2 ^ 11 = pow_mono {i = length (drop at atoms)} {j = 11} short in
    omega arith

-- an atom in the first of an array's unused places
pub padded_more : (count atom : ℕ) (atoms : List ℕ) → count < 12 → drop count atoms ≡ replicate (12 - count) 0 → drop (count + 1) (set atoms count atom) ≡ replicate (12 - (count + 1)) 0
padded_more count atom atoms less rest =
    drop-set-lt (count + 1) atoms count atom (omega arith) ∙ sym (drop-drop 1 count atoms) ∙ ap (λ xs. drop 1 xs) rest ∙ drop-replicate 1 (12 - count) 0
    ∙ ap (λ n. replicate n 0) (let e : 12 - count - 1 ≡ 12 - (count + 1) = omega arith in e)

-- ---- a tracked set has the tracked atoms of the set

lowest : (test : Bool) (rest : ℕ) → has_atom (bit_number test + 2 * rest) 0 ≡ test
lowest true rest = ap (λ bit. bit == 1) (bit_at_lowest (1 + 2 * rest) ∙ (let e : (1 + 2 * rest) % 2 ≡ 1 = omega arith in e))
lowest false rest = ap (λ bit. bit == 1) (bit_at_lowest (0 + 2 * rest) ∙ (let e : (0 + 2 * rest) % 2 ≡ 0 = omega arith in e))

half : (test : Bool) (rest : ℕ) → (bit_number test + 2 * rest) / 2 ≡ rest
half true rest = omega arith
half false rest = omega arith

higher : (test : Bool) (rest at : ℕ) → has_atom (bit_number test + 2 * rest) (suc at) ≡ has_atom rest at
higher test rest at = ap (λ bit. bit == 1) (bit_at-suc (bit_number test + 2 * rest) at ∙ ap (λ n. bit_at n at) (half test rest))

pub has_tracked : (atoms : List ℕ) (set at : ℕ) → at < length atoms → has_atom (tracked_set atoms set) at ≡ has_atom set (get_or atoms at 0)
has_tracked [] set at less = absurd (omega arith)
has_tracked (atom ∷ atoms) set zero less = lowest (has_atom set atom) (tracked_set atoms set)
has_tracked (atom ∷ atoms) set (suc at) less = higher (has_atom set atom) (tracked_set atoms set) at ∙ has_tracked atoms set at (omega arith)

-- a block whose bits are the tracked atoms of a set is that of the set
pub tracked_is : (atoms : List ℕ) (set block : ℕ) → block < 2 ^ length atoms → ((at : ℕ) → at < length atoms → has_atom set (get_or atoms at 0) ≡ has_atom block at) → tracked_set atoms set ≡ block
tracked_is atoms set block small same = same_atoms (length atoms) (tracked_set atoms set) block (set_small atoms set) small (λ at less. has_tracked atoms set at less ∙ same at less)

-- The line of a number, in a list of lines and in two lists one behind the other.
use Rattle.std.proofs.Common.{◌≡◌, ℕ, zero, suc, ◌+◌, ◌-◌, ◌≤◌, Option, None, Some, List, [], ◌∷◌, ◌++◌, length, slice_get, sym, subst, arith}
use Rattle.std.proofs.lemmas.List.{length-append}
use Rattle.pb_print.specs.Saved.{longest_line, PutsLine}

pub get_left : (texts others : List (List ℕ)) (at : ℕ) (text : List ℕ) → slice_get texts at ≡ Some text → slice_get (texts ++ others) at ≡ Some text
get_left [] others at text is = absurd (none_some text is)
  where
    none_some : (text : List ℕ) → ◌≡◌ {A = Option (List ℕ)} None (Some text) → ⊥
    none_some text e = cc
get_left (first ∷ texts) others zero text is = is
get_left (first ∷ texts) others (suc at) text is = get_left texts others at text is

pub get_right : (texts others : List (List ℕ)) (at : ℕ) (text : List ℕ) → length texts ≤ at → slice_get others (at - length texts) ≡ Some text → slice_get (texts ++ others) at ≡ Some text
get_right [] others at text past is = let same : at - 0 ≡ at = omega arith in subst (λ n. slice_get others n ≡ Some text) same is
get_right (first ∷ texts) others zero text past is = absurd (omega (arith, past))
get_right (first ∷ texts) others (suc at) text past is =
    let same : suc at - suc (length texts) ≡ at - length texts = omega arith in
    get_right texts others at text (omega (arith, past)) (subst (λ n. slice_get others n ≡ Some text) same is)

pub puts_left : (old new : List ℕ) (texts others : List (List ℕ)) (at : ℕ) → PutsLine old new texts at → PutsLine old new (texts ++ others) at
puts_left old new texts others at puts = (puts.0, get_left texts others at puts.0 puts.1, puts.2, puts.3)

pub puts_right : (old new : List ℕ) (texts others : List (List ℕ)) (at past : ℕ) → length texts ≤ at → at - length texts ≡ past → PutsLine old new others past → PutsLine old new (texts ++ others) at
puts_right old new texts others at past le e puts = (puts.0, get_right texts others at puts.0 le (subst (λ n. slice_get others n ≡ Some puts.0) (sym e) puts.1), puts.2, puts.3)

pub short_enough : (old new text : List ℕ) → new ≡ old ++ text → length text ≤ longest_line → length new ≤ length old + longest_line
short_enough old new text e le = rw (e, length-append old text) (omega (arith, le))

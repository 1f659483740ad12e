use Rattle.std.proofs.Common.{◌≡◌, ◌+◌, ◌-◌, ◌*◌, ◌<◌, ◌≤◌, ◌^◌, ℕ, List, length, take, drop, slice_index, ap, sym, subst, ◌∙◌, arith}
use Rattle.std.proofs.Math.Nat.{mul_comm}
use Rattle.std.proofs.lemmas.List.{length-drop, length-take-le}
use Rattle.pb_packed.specs.Words.{number_of, AreWords}
use Rattle.pb_tables.specs.Flat.{FlatNumbersView, flat_of, AreFlat}
use Rattle.pb_task.proofs.Callers.{many_sets, set_at, dropped, taken, below, within}
use Rattle.pb_tables.proofs.numbers.FlatNumbers.at.Goals as goal

-- the place ends within the words
ends : (width count i : ℕ) (words shown : List ℕ) (flat : FlatNumbersView) → AreFlat width count words → shown ≡ words
    → flat_of width count words ≡ flat → i < length flat.numbers → i * width + width ≤ length shown
ends width count i words shown flat are same is inside =
    let numbers : count ≡ length flat.numbers = sym (many_sets width count words) ∙ ap (λ (f : FlatNumbersView). length f.numbers) is in
    let long : length shown ≡ width * count = ap length same ∙ are.2 in
    omega (arith, within width count i (omega (arith, numbers, inside)), long)

pub overflow_mul-first : goal.overflow_mul-first
overflow_mul-first c = omega (arith, ends c.self.inside.width c.self.inside.count c.args.i c.self.inside.words.items c.as_slice-words.result.now c.args.self.now c.self.invariant c.as_slice-words.ensures.value c.self.view_is c.requires, c.as_slice-words.type_inv.1)

pub overflow_add-result : goal.overflow_add-result
overflow_add-result c = omega (arith, ends c.self.inside.width c.self.inside.count c.args.i c.self.inside.words.items c.as_slice-words.result.now c.args.self.now c.self.invariant c.as_slice-words.ensures.value c.self.view_is c.requires, c.as_slice-words.type_inv.1)

pub offset_bounds-words-first : goal.offset_bounds-words-first
offset_bounds-words-first c = omega (arith, ends c.self.inside.width c.self.inside.count c.args.i c.self.inside.words.items c.as_slice-words.result.now c.args.self.now c.self.invariant c.as_slice-words.ensures.value c.self.view_is c.requires, c.as_slice-words.type_inv.1)

pub slice_bounds-result-end : goal.slice_bounds-result-end
slice_bounds-result-end c = omega (arith, ends c.self.inside.width c.self.inside.count c.args.i c.self.inside.words.items c.as_slice-words.result.now c.args.self.now c.self.invariant c.as_slice-words.ensures.value c.self.view_is c.requires, c.as_slice-words.type_inv.1)

pub returns-clause-number : goal.returns-clause-number
returns-clause-number c =
    let width = c.self.inside.width in
    let count = c.self.inside.count in
    let words = c.self.inside.words.items in
    let flat : FlatNumbersView = c.args.self.now in
    let numbers : count ≡ length flat.numbers = sym (many_sets width count words) ∙ ap (λ (f : FlatNumbersView). length f.numbers) c.self.view_is in
    let long : c.args.i * width + width - c.args.i * width ≡ width = omega arith in
    let turned : c.args.i * width ≡ width * c.args.i = mul_comm c.args.i width in
    ap (λ k. number_of (take k (drop (c.args.i * width) c.as_slice-words.result.now))) long
    ∙ ap (λ k. number_of (take width (drop k c.as_slice-words.result.now))) turned
    ∙ ap (λ (ws : List ℕ). number_of (take width (drop (width * c.args.i) ws))) c.as_slice-words.ensures.value
    ∙ sym (set_at width count c.args.i words (omega (arith, numbers, c.requires)))
    ∙ ap (λ (f : FlatNumbersView). slice_index f.numbers c.args.i) c.self.view_is

pub returns-clause-words : goal.returns-clause-words
returns-clause-words c =
    taken _ _ (dropped (c.args.i * c.self.inside.width) c.as_slice-words.result.now
    (subst (λ (ws : List ℕ). AreWords (length ws) ws) (sym c.as_slice-words.ensures.value) c.self.invariant.3))

pub returns-clause-small : goal.returns-clause-small
returns-clause-small c =
    let width = c.self.inside.width in
    let words = c.as_slice-words.result.now in
    let first = c.args.i * width in
    let are = taken (first + width - first) (drop first words) (dropped first words (subst (λ (ws : List ℕ). AreWords (length ws) ws) (sym c.as_slice-words.ensures.value) c.self.invariant.3)) in
    let room : first + width ≤ length words = ends width c.self.inside.count c.args.i c.self.inside.words.items words c.args.self.now c.self.invariant c.as_slice-words.ensures.value c.self.view_is c.requires in
    let rest : length (drop first words) ≡ length words - first = length-drop first words in
    let size : length (take (first + width - first) (drop first words)) ≡ width = length-take-le (first + width - first) (drop first words) (omega arith) ∙ omega arith in
    subst (λ k. number_of (take (first + width - first) (drop first words)) < 2 ^ (64 * k)) (size ∙ ap (λ (f : FlatNumbersView). f.width) c.self.view_is)
    (below (length (take (first + width - first) (drop first words))) (take (first + width - first) (drop first words)) are)

use Rattle.std.proofs.Common.{◌<◌, ℕ, get_or, take, sym, ap, ◌∙◌, arith}
use Rattle.std.proofs.lemmas.List.{take_more}
use Rattle.pb_packed.specs.Bits.{with_bits_of}
use Rattle.pb_strips.specs.Grounding.{numbered_set}
use Rattle.pb_strips.proofs.AtomSets.{none_more, one_number_more}
use Rattle.pb_strips.proofs.sets.set_of.Goals as goal

pub loop-n-init : goal.loop-n-init
loop-n-init c = λ count few below. c.zero-set.ensures ∙ sym (none_more count)

pub loop-n-preserved : goal.loop-n-preserved
loop-n-preserved c = λ count few below.
    let numbers = c.args.numbers.now in
    let i = c.loop-n.n-index in
    let n : ℕ = get_or numbers i 0 in
    let small : n < count = below i 0 (omega arith) in
    c.with-set.ensures ∙ (ap (λ s. with_bits_of s n 1 1) (c.loop-n.invariant count few below)
    ∙ (one_number_more count n (take i numbers) small ∙ ap (λ xs. numbered_set count xs) (sym (take_more numbers i 0 (omega arith)))))

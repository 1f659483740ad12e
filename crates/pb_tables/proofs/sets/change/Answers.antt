use Rattle.std.proofs.Common.{◌≡◌, ◌<◌, ◌*◌, ◌^◌, ℕ, length, get_or, bit_and, bit_or, ap, sym, subst, arith, ◌∙◌}
use Rattle.std.specs.Int.{bit_not, w64}
use Rattle.std.proofs.lemmas.List.{length-set}
use Rattle.pb_packed.specs.Words.{number_of, AreWords}
use Rattle.pb_tables.proofs.Words.{one_replaced, changed_at, changed_to, changed_small, are_words}
use Rattle.pb_tables.proofs.sets.change.Goals as goal
use Rattle.pb_tables.proofs.sets.change.Goals.{After-loop-i}

pub loop-i-preserved : goal.loop-i-preserved
loop-i-preserved c =
    let i = c.loop-i.i in
    let word = bit_and (bit_or (get_or c.args.adds.now i 0) (bit_and c.word_at.result (bit_not w64 (get_or c.args.deletes.now i 0)))) (get_or c.args.tracked.now i 0) in
    let is : word ≡ changed_at c.args.held.now c.args.adds.now c.args.deletes.now c.args.tracked.now i =
    ap (λ (w : ℕ). bit_and (bit_or (get_or c.args.adds.now i 0) (bit_and w (bit_not w64 (get_or c.args.deletes.now i 0)))) (get_or c.args.tracked.now i 0)) c.word_at.ensures in
    let inside : i < length c.loop-i.next = omega (arith, c.loop-i-test.true, c.loop-i.invariant.size, c.loop-i.auto.i-end) in
    record {
      size = length-set c.loop-i.next i word ∙ c.loop-i.invariant.size;
      done = one_replaced (changed_at c.args.held.now c.args.adds.now c.args.deletes.now c.args.tracked.now) c.loop-i.next i word inside is c.loop-i.invariant.done;
    }

-- all words have been written
all : (c : After-loop-i) → (k : ℕ) → k < length c.loop-i.next → get_or c.loop-i.next k 0 ≡ changed_at c.args.held.now c.args.adds.now c.args.deletes.now c.args.tracked.now k
all c = λ k less. c.loop-i.invariant.done k (omega (arith, less, c.loop-i-test.false, c.loop-i.invariant.size))

words : (c : After-loop-i) → AreWords (length c.loop-i.next) c.loop-i.next
words c = are_words c.loop-i.next (λ k less. subst (λ (w : ℕ). w < 2 ^ 64) (sym (all c k less)) (changed_small c.args.held.now c.args.adds.now c.args.deletes.now c.args.tracked.now k c.requires.tracked))

pub returns-clause-words : goal.returns-clause-words
returns-clause-words c = subst (λ (n : ℕ). AreWords n c.loop-i.next) c.loop-i.invariant.size (words c)

pub returns-clause-atoms : goal.returns-clause-atoms
returns-clause-atoms c =
    changed_to c.loop-i.next c.args.held.now c.args.adds.now c.args.deletes.now c.args.tracked.now (omega (arith, c.requires.room, c.loop-i.invariant.size)) (words c) c.requires.held
    c.requires.adds c.requires.deletes c.requires.tracked (subst (λ (n : ℕ). number_of c.args.adds.now < 2 ^ (64 * n)) (sym c.loop-i.invariant.size) c.requires.fits) (all c)

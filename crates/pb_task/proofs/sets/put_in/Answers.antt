use Rattle.std.proofs.Common.{◌<◌, ◌^◌, length, get_or, bit_or, refl, ap, arith, ◌∙◌}
use Rattle.std.proofs.lemmas.List.{length-set}
use Rattle.std.proofs.lemmas.Nat.{or_lt}
use Rattle.pb_packed.proofs.Callers.{set_words}
use Rattle.pb_task.proofs.FlatWords.{word_small, one_replaced, others_stay, put_into}
use Rattle.pb_task.proofs.sets.put_in.Goals as goal

pub loop-i-init : goal.loop-i-init
loop-i-init c = record {
  size = refl;
  words = c.requires.words;
  done = λ k less. absurd (omega (arith, less));
  rest = λ k from. refl;
}

pub loop-i-preserved : goal.loop-i-preserved
loop-i-preserved c =
    let i = c.loop-i.i in
    let count = length c.args.words.now in
    let set = c.args.set.now in
    let old = get_or c.loop-i.words i 0 in
    let x = bit_or (get_or set i 0) old in
    let small : x < 2 ^ 64 = or_lt 64 (get_or set i 0) old (word_small (length set) i set c.requires.set) (word_small count i c.loop-i.words c.loop-i.invariant.words) in
    let inside : i < length c.loop-i.words = omega (arith, c.loop-i-test.true, c.requires.room, c.loop-i.invariant.size) in
    record {
      size = length-set c.loop-i.words i x ∙ c.loop-i.invariant.size;
      words = set_words count i x c.loop-i.words c.loop-i.invariant.words small;
      done = one_replaced (λ k. bit_or (get_or set k 0) (get_or c.args.words.now k 0)) c.loop-i.words i x inside
          (ap (λ w. bit_or (get_or set i 0) w) (c.loop-i.invariant.rest i (omega arith))) c.loop-i.invariant.done;
      rest = others_stay c.args.words.now c.loop-i.words i x c.loop-i.invariant.rest;
    }

pub returns-clause-words : goal.returns-clause-words
returns-clause-words c = c.loop-i.invariant.words

pub returns-clause-atoms : goal.returns-clause-atoms
returns-clause-atoms c =
    put_into (length c.args.words.now) c.args.words.now c.loop-i.words c.args.set.now c.requires.words c.loop-i.invariant.words c.requires.set
    (λ k less. c.loop-i.invariant.done k (omega (arith, less, c.loop-i-test.false)))
    (λ k past. c.loop-i.invariant.rest k (omega (arith, past, c.loop-i.auto.i-end)))

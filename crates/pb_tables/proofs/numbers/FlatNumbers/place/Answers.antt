use Rattle.std.proofs.Common.{◌≡◌, ◌<◌, ◌≤◌, ◌*◌, ◌^◌, ℕ, length, take, sym, subst, ◌∙◌, arith}
use Rattle.pb_packed.specs.Words.{number_of, AreWords}
use Rattle.pb_task.proofs.Callers.{held_by, taken}
use Rattle.pb_tables.specs.Flat.{IsPlaceOf}
use Rattle.pb_tables.proofs.FlatNumbers.{none_above, not_small}
use Rattle.pb_tables.proofs.numbers.FlatNumbers.place.Goals as goal

pub place_between-requires-clause-words : goal.place_between-requires-clause-words
place_between-requires-clause-words c =
    let long : 16 ≡ length c.to_array-all.result = omega arith in
    taken _ _ (subst (λ count. AreWords count c.to_array-all.result) long c.to_array-all.ensures.words)

pub returns-then-fits : goal.returns-then-fits
returns-then-fits c =
    let words = c.to_array-all.result in
    let width = c.self.inside.width in
    let fits : c.words-words.result < 2 ^ (64 * width) = c.fits.ensures.0 c.if-fits.true in
    let small : number_of words < 2 ^ (64 * width) = subst (λ (n : ℕ). n < 2 ^ (64 * width)) (sym c.to_array-all.ensures.number) fits in
    let number : number_of (take width words) ≡ c.args.number.now = held_by 16 width words c.to_array-all.ensures.words small ∙ c.to_array-all.ensures.number ∙ c.words-words.ensures in
    subst (λ (n : ℕ). IsPlaceOf c.place_between.result c.args.self.now.numbers n) number c.place_between.ensures

pub returns-else-fits : goal.returns-else-fits
returns-else-fits c =
    let width = c.self.inside.width in
    let wide : 2 ^ (64 * width) ≤ c.args.number.now =
    subst (λ (n : ℕ). 2 ^ (64 * width) ≤ n) c.words-words.ensures (not_small c.fits.result c.words-words.result (2 ^ (64 * width)) c.fits.ensures c.if-fits.false) in
    (tt, none_above width c.self.inside.count c.self.inside.words.items c.args.self.now c.args.number.now c.self.invariant c.self.view_is wide)

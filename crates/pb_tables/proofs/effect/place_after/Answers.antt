use Rattle.std.proofs.Common.{◌≡◌, ◌∙◌, ◌*◌, ◌^◌, ◌≤◌, ℕ, List, length, take, replicate, ap, arith}
use Rattle.std.proofs.lemmas.List.{length-take-le}
use Rattle.pb_tables.specs.Images.{place_in}
use Rattle.pb_tables.proofs.FlatNumbers.{more_than}
use Rattle.pb_tables.proofs.effect.place_after.Goals as goal

pub write_next-requires-clause-fits : goal.write_next-requires-clause-fits
write_next-requires-clause-fits c =
    let width = c.max-width.result in
    let nothing : List ℕ = replicate 16 0 in
    let words = take width nothing in
    let inside : width ≤ length nothing = omega (arith, c.max-width.ensures, c.requires.few, c.requires.effect.most) in
    let long : length words ≡ width = length-take-le width nothing inside in
    let more : 2 ^ (64 * c.args.effect.now.width) ≤ 2 ^ (64 * length words) = more_than (64 * c.args.effect.now.width) (64 * length words) (omega (arith, long, c.max-width.ensures)) in
    omega (arith, c.requires.effect.adds_fit, more)

pub returns : goal.returns
returns c = c.place_near.ensures ∙ ap (λ (n : ℕ). place_in c.args.listed.now n) c.write_next.ensures.image

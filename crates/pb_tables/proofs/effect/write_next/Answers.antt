use Rattle.std.proofs.Common.{◌∙◌, ◌*◌, ◌^◌, ◌<◌, ◌≤◌, ◌&&◌, ◌||◌, not, ℕ, length, ap, arith}
use Rattle.pb_packed.specs.Sizes.{state_bits}
use Rattle.pb_packed.specs.Words.{number_of}
use Rattle.pb_task.specs.Strips.{action_at, has_atom}
use Rattle.pb_task.proofs.Callers.{below}
use Rattle.pb_tables.proofs.AtomSets.{changed_is}
use Rattle.pb_tables.proofs.FlatNumbers.{more_than}
use Rattle.pb_tables.proofs.effect.write_next.Goals as goal

pub returns-clause-image : goal.returns-clause-image
returns-clause-image c =
    let effect = c.args.effect.now in
    let size = length c.args.next.now in
    let next = c.change.new.next in
    let image = number_of c.args.image.now in
    let least : number_of next < 2 ^ (64 * size) = below size next c.change.ensures.words in
    let most : 2 ^ (64 * size) ≤ 2 ^ state_bits = more_than (64 * size) state_bits (omega (arith, c.requires.few)) in
    changed_is c.args.strips.now.atoms c.args.tracked.now image (number_of next) (number_of effect.adds) (number_of effect.deletes) (action_at c.args.strips.now.actions c.args.action)
    c.requires.strips.atoms c.requires.tracked (omega (arith, least, most)) c.requires.effect.adds c.requires.effect.deletes
    (λ atom. c.change.ensures.atoms atom
    ∙ ap (λ (set : ℕ). (has_atom (number_of effect.adds) atom || (has_atom image atom && not (has_atom (number_of effect.deletes) atom))) && has_atom set atom) c.requires.effect.tracked_atoms)

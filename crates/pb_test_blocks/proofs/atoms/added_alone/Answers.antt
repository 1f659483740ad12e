use Rattle.std.proofs.Common.{◌^◌, ◌<◌, arith}
use Rattle.std.proofs.Math.Pow.{pow-lt}
use Rattle.pb_test_blocks.proofs.atoms.added_alone.Goals as goal

pub action-requires-clause-adds : goal.action-requires-clause-adds
action-requires-clause-adds c =
    let atom = c.loop-atom.atom in
    let less : 2 ^ atom < 2 ^ c.args.count = pow-lt {i = atom} {j = c.args.count} (omega arith) in
    omega arith

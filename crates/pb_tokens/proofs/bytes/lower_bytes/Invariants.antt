use Rattle.std.proofs.Common.{◌≡◌, map, take}
use Rattle.pb_pddl.specs.Tokens.{lower}
use Rattle.pb_tokens.proofs.bytes.lower_bytes.Given as goal

abbrev pub invariant-loop-byte : goal.invariant-loop-byte
invariant-loop-byte l = l.out ≡ map lower (take l.byte-index l.bytes)

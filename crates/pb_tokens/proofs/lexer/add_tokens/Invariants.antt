use Rattle.std.proofs.Common.{◌≡◌, ◌+◌, ◌++◌, List, length, drop, map}
use Rattle.pb_pddl.specs.Tokens.{lower, AreTokens, start}
use Rattle.pb_pddl.specs.declared.token.Token.{Token}
use Rattle.pb_tokens.proofs.lexer.add_tokens.Given as goal

abbrev pub invariant-loop-token : goal.invariant-loop-token
invariant-loop-token l = record {
  at : l.here.at + length l.rest ≡ length l.text;
  place : drop l.here.at l.source ≡ map lower l.rest;
  tokens : (more : List Token) → AreTokens l.here l.rest more → AreTokens start l.text (l.out ++ more);
}

abbrev pub decreases-loop-token : goal.decreases-loop-token
decreases-loop-token l = length l.rest

use Rattle.std.proofs.Common.{ℕ, List, Result, arith}
use Rattle.std.specs.Str.Parse.{ParsesUnsigned, ExplainsUnsignedError, HasUnsignedDigitsIfOk}
use Rattle.std.specs.declared.num.ParseIntError.{ParseIntError}
use Rattle.clap.specs.Words.{found_of, one_text}
use Rattle.clap.proofs.WalkLemmas.{one_text-rows}
use Rattle.pb_command.proofs.FromClap.{number_none, number_some, number_out, number_err, gives_none, some_none}
use Rattle.pb_command.proofs.values.number.Goals as goal

-- how a text reads as a `u64`
abbrev Gives : List ℕ → Result ℕ ParseIntError → Type 0
Gives bs r = ParsesUnsigned 64 10 bs r × ExplainsUnsignedError 10 bs r × HasUnsignedDigitsIfOk bs r

pub returns-in-Ok-None-clause-number : goal.returns-in-Ok-None-clause-number
returns-in-Ok-None-clause-number c =
    rw (← one_text-rows (found_of c.args.matches.now) c.args.id.now)
    (number_none Gives (λ u x g. g.0) c.args.least c.args.most c.args.default (one_text (found_of c.args.matches.now) c.args.id.now) c.in-Ok-None.field-0 c.in-Ok-None.field-0-is c.in-Ok-None.ensures.value)

pub returns-then-n-most-clause-number : goal.returns-then-n-most-clause-number
returns-then-n-most-clause-number c =
    rw (← one_text-rows (found_of c.args.matches.now) c.args.id.now)
    (number_some Gives (λ u x g. g.0) c.args.least c.args.most c.args.default (one_text (found_of c.args.matches.now) c.args.id.now) c.in-Ok-Some.field-0 c.in-Ok-Some.n c.in-Ok-Some.field-0-is
    (λ e. gives_none _ (c.in-Ok-Some.ensures.none e)) c.in-Ok-Some.ensures.value c.if-least-n.true c.if-n-most.true)

pub returns-else-least-n-clause-number : goal.returns-else-least-n-clause-number
returns-else-least-n-clause-number c =
    rw (← one_text-rows (found_of c.args.matches.now) c.args.id.now)
    (number_out Gives (λ u x g. g.0) c.args.least c.args.most c.args.default (one_text (found_of c.args.matches.now) c.args.id.now) c.in-Ok-Some.field-0 c.in-Ok-Some.n c.in-Ok-Some.field-0-is
    (λ e. gives_none _ (c.in-Ok-Some.ensures.none e)) c.in-Ok-Some.ensures.value
    (λ low high. elim c.else-least-n.branch [ goal.else-least-n-via-then-least-n+else-n-most w ↦ omega arith | goal.else-least-n-via-else-least-n w ↦ omega arith ]))

pub returns-in-Err-clause-number : goal.returns-in-Err-clause-number
returns-in-Err-clause-number c =
    rw (← one_text-rows (found_of c.args.matches.now) c.args.id.now)
    (number_err Gives (λ u x g. g.0) c.args.least c.args.most c.args.default (one_text (found_of c.args.matches.now) c.args.id.now) c.in-Err.field-0
    (λ e. some_none _ (c.in-Err.ensures.none e)) c.in-Err.ensures.value)

use Rattle.std.proofs.Common.{◌<◌, ◌==◌, sym, ap, ◌∙◌, arith}
use Rattle.std.proofs.lemmas.Bool.Decides.{nat_tests}
use Rattle.pb_model.proofs.Callers.{by_cases, equal}
use Rattle.pb_abstract.specs.Graph.{blocks_of}
use Rattle.pb_lease.proofs.Scopes.{no_longer}
use Rattle.pb_lease.proofs.graph.greatest_scope.Goals as goal

pub loop-block-preserved : goal.loop-block-preserved
loop-block-preserved c block scope lt known up each = by_cases (block == c.loop-block.block)
    (λ e. let less = no_longer c.scope.result.now scope up (λ other. each other ∙ ap (λ b. (blocks_of c.args.abstraction.now).scope b other) (equal block c.loop-block.block e) ∙ sym (c.scope.ensures.each other)) in omega (arith, less, c.max-greatest.ensures))
    (λ e. let differ : block < c.loop-block.block = grind (arith, nat_tests) in let less = c.loop-block.invariant block scope differ known up each in omega (arith, less, c.max-greatest.ensures))

pub returns : goal.returns
returns c block scope known up each = c.loop-block.invariant block scope (omega (arith, known, c.count-block-end.ensures.count)) known up each

use Rattle.std.proofs.Common.{◌≡◌, ◌-◌, ℕ, List, length, take, ap, ◌∙◌, arith}
use Rattle.std.proofs.Math.Seq.{take-length}
use Rattle.pb_check.specs.Fronts.{rows_while}
use Rattle.pb_check.proofs.TextByRows.{rows_fit, rest_is}
use Rattle.pb_check.proofs.reading.rest_of.Goals as goal

pub overflow_sub-result : goal.overflow_sub-result
overflow_sub-result c = omega (arith, rows_fit c.args.width c.args.text.now, c.requires)

pub returns : goal.returns
returns c =
    let text = c.args.text.now in
    let all = length text in
    let rest = (rows_while c.args.width text).1 in
    let back : all - (all - c.args.left) ≡ length rest = omega (arith, rows_fit c.args.width text, c.requires) in
    ap (λ (t : List ℕ). take (all - (all - c.args.left)) t) (rest_is c.args.width c.args.left text c.requires)
    ∙ ap (λ k. take k rest) back ∙ take-length rest

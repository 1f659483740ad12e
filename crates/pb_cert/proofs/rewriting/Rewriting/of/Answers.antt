use Rattle.std.proofs.Common.{subst, sym, refl}
use Rattle.pb_cert.specs.Rewritten.{CanBeRewritten}
use Rattle.pb_cert.proofs.LinesAnew.{can_be_rewritten, counted}
use Rattle.pb_cert.proofs.rewriting.Rewriting.of.Goals as goal

pub invariant_of-result : goal.invariant_of-result
invariant_of-result c =
    let can : CanBeRewritten c.args.bytes.now c.version_of-from.result c.width.result =
    subst (λ n. CanBeRewritten c.args.bytes.now c.version_of-from.result n) (sym c.width.ensures.digits)
    (can_be_rewritten c.read_as_spelled.ensures c.states_fit_their_width.ensures c.args.task.now
    c.max_degree-lawful.ensures.lawful c.args.bytes.now c.requires.0 c.requires.1 c.version_of-from.result
    (c.version_of-from.ensures c.requires.1.spelling c.requires.1.certificate c.requires.1.spelled)) in (
      can,
      counted c.args.bytes.now c.version_of-from.result c.width.result can c.count_lines.result
          c.lines_more.result _ c.count_lines.ensures.count c.lines_more.ensures.one
          c.lines_more.ensures.none refl,
    )

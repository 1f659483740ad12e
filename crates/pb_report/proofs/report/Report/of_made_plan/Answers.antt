use Rattle.std.proofs.Common.{◌≡◌, ◌∙◌}
use Rattle.std.specs.Fmt.{decimal}
use Rattle.pb_check.specs.declared.fault.Claim.TheVariants.{Bounded}
use Rattle.pb_report.specs.Texts.{made_text}
use Rattle.pb_report.proofs.Made.{accepted_line}
use Rattle.pb_report.proofs.report.Report.of_made_plan.Goals as goal

pub returns : goal.returns
returns c =
    let text : c.as_bytes.result.now ≡ made_text (Bounded c.args.cost c.args.bound) =
    c.as_bytes.ensures.value ∙ (c.in_ok-text.ensures.ok ∙ accepted_line (decimal c.args.cost) (decimal c.args.bound))
    in rw text at c.of_text.ensures

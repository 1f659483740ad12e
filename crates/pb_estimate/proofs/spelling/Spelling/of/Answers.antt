use Rattle.std.proofs.Common.{◌≡◌, ℕ, subst, sym}
use Rattle.pb_task.specs.declared.grounding.Grounding.{Grounding}
use Rattle.pb_task.specs.declared.kind.Kind.{Kind}
use Rattle.pb_task.specs.Groundings.{grounding_of}
use Rattle.pb_task.specs.Kinds.{kind_of}
use Rattle.pb_task.specs.Widths.{width_of}
use Rattle.pb_estimate.specs.declared.spelling.Version.{Version}
use Rattle.pb_estimate.specs.Spelling.{IsSpelling, version_of}
use Rattle.pb_estimate.proofs.Spellings.{is_spelling}
use Rattle.pb_estimate.proofs.spelling.Spelling.of.Goals as goal

pub returns-clause-known : goal.returns-clause-known
returns-clause-known c fits =
    let choice = c.args.choice in
    subst (λ (g : Grounding). IsSpelling (record { kind = c.kind.result; version = c.version_of.result; width = c.width.result; stated = record { grounding = g; choice = choice } })) (sym c.grounding-grounding.ensures)
    (subst (λ (k : Kind). IsSpelling (record { kind = k; version = c.version_of.result; width = c.width.result; stated = record { grounding = grounding_of c.args.task.now; choice = choice } })) (sym c.kind.ensures)
    (subst (λ (w : ℕ). IsSpelling (record { kind = kind_of c.args.task.now; version = c.version_of.result; width = w; stated = record { grounding = grounding_of c.args.task.now; choice = choice } })) (sym c.width.ensures.digits)
    (subst (λ (v : Version). IsSpelling (record { kind = kind_of c.args.task.now; version = v; width = width_of c.args.task.now; stated = record { grounding = grounding_of c.args.task.now; choice = choice } }))
    (sym (subst (λ (g : Grounding). c.version_of.result ≡ version_of g choice) c.grounding-grounding.ensures c.version_of.ensures))
    (is_spelling c.args.task.now choice c.parts.ensures.lawful c.case.ensures.lawful fits))))

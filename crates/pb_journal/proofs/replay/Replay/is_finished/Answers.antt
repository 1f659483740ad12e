use Rattle.std.proofs.Common.{sym, ap, ◌<◌, ◌∙◌, ◌&&◌, length, arith, get_or, false, not, is_some}
use Rattle.std.proofs.Math.Bool.{and-false}
use Rattle.pb_machine.proofs.Callers.{any_at}
use Rattle.pb_journal.specs.Replaying.{counts_of}
use Rattle.pb_journal.proofs.replay.Replay.is_finished.Goals as goal

pub returns-then-not-off : goal.returns-then-not-off
returns-then-not-off c =
    let off = (counts_of c.args.self.now).signed_off in
    let there : c.loop-off.off-index < c.args.settings.now.workers =
    omega (arith, c.loop-off-test.true, ap length c.deref-off-items.ensures.value, c.requires)
    in
    let here =
    ap (λ xs. not (get_or xs c.loop-off.off-index false)) (sym c.deref-off-items.ensures.value)
    ∙ ap not c.if-not-off.true in
    let some =
    any_at c.args.settings.now.workers c.loop-off.off-index
    (λ worker. not (off worker)) there here in
    sym (ap (λ r. is_some c.args.self.now.end && not r) some ∙ and-false (is_some c.args.self.now.end))

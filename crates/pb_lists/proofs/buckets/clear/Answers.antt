use Rattle.std.proofs.Common.{◌∙◌}
use Rattle.pb_lists.specs.Fields.{weight_of}
use Rattle.pb_lists.specs.Heaped.{Entry}
use Rattle.pb_lists.proofs.Parts.{top_member}
use Rattle.pb_lists.proofs.Filing.{pop_keeps, led_by, live_is, top_state}
use Rattle.pb_lists.proofs.buckets.clear.Goals as goal

pub loop-first-preserved : goal.loop-first-preserved
loop-first-preserved c =
    let weight = weight_of c.args.num c.args.den in
    let entries = c.args.rows.now.entries in
    let bucket = c.loop-first.bucket in
    let top = top_state bucket c.in-Some.first c.in-Some.ensures.first in
    let entry : Entry = (c.in-Some.first.0, top.0, c.in-Some.first.1) in
    let placed = c.requires.placed entry (c.loop-first.invariant.had entry (top_member bucket entry top.1)) in
    let off =
    live_is weight entries c.args.sum.now c.key_from-key.result entry.0 entry.1 c.opened_at.result c.is_at.result c.key_from-key.ensures (c.opened_at.ensures entry.1 placed.0 placed.1) c.is_at.ensures
    ∙ c.if-is_at.false in
    record {
      had = λ other has. c.loop-first.invariant.had other (c.pop.ensures.had other has);
      kept = λ other live had.
          pop_keeps weight entries c.args.sum.now bucket c.pop.new.self entry top.1 off c.pop.ensures.left other live (c.loop-first.invariant.kept other live had);
    }

pub returns-then-is_at-clause-led : goal.returns-then-is_at-clause-led
returns-then-is_at-clause-led c = λ yes.
    let weight = weight_of c.args.num c.args.den in
    let entries = c.args.rows.now.entries in
    let bucket = c.loop-first.bucket in
    let top = top_state bucket c.in-Some.first c.in-Some.ensures.first in
    let entry : Entry = (c.in-Some.first.0, top.0, c.in-Some.first.1) in
    let placed = c.requires.placed entry (c.loop-first.invariant.had entry (top_member bucket entry top.1)) in
    led_by weight entries c.args.sum.now bucket entry top.1
    (live_is weight entries c.args.sum.now c.key_from-key.result entry.0 entry.1 c.opened_at.result c.is_at.result c.key_from-key.ensures (c.opened_at.ensures entry.1 placed.0 placed.1) c.is_at.ensures
    ∙ c.if-is_at.true)

use Rattle.std.proofs.Common.{◌+◌, ◌∙◌, ap, sym, get_or}
use Rattle.pb_machine.specs.Tables.{one_if}
use Rattle.pb_abstract.specs.Graph.{blocks_of}
use Rattle.pb_lease.proofs.Lists.{has_below}
use Rattle.pb_lease.proofs.HotCounts.{counted_hot, cooled_kept}
use Rattle.pb_lease.proofs.tables.marks.Marks.cool.Goals as goal

pub lower-requires-clause-some : goal.lower-requires-clause-some
lower-requires-clause-some c = λ other has_it.
    counted_hot (blocks_of c.args.abstraction.now) c.args.self.now.hot.items c.args.self.now.near.items c.requires.marks c.args.block other c.requires.block c.requires.hot
    (has_below c.interference.result.now (blocks_of c.args.abstraction.now).count other c.interference.ensures.below has_it) (sym (c.interference.ensures.each other) ∙ has_it)

pub returns-clause-marks : goal.returns-clause-marks
returns-clause-marks c =
    cooled_kept (blocks_of c.args.abstraction.now) c.args.self.now.hot.items c.args.self.now.near.items c.requires.marks c.args.block c.lower.new.counters.items c.requires.block c.requires.hot c.lower.ensures.length
    (λ other. ap (λ r. get_or c.lower.new.counters.items other 0 + one_if r) (sym (c.interference.ensures.each other)) ∙ c.lower.ensures.each other)

use Rattle.std.proofs.Common.{◌+◌, ◌∙◌, ap, get_or}
use Rattle.pb_machine.specs.Tables.{one_if}
use Rattle.pb_abstract.specs.Graph.{blocks_of}
use Rattle.pb_lease.proofs.HotCounts.{fits, marked_kept}
use Rattle.pb_lease.proofs.tables.marks.Marks.mark.Goals as goal

pub raise-requires-clause-small : goal.raise-requires-clause-small
raise-requires-clause-small c = fits (blocks_of c.args.abstraction.now) c.args.self.now.hot.items c.args.self.now.near.items c.requires.marks

pub returns-clause-marks : goal.returns-clause-marks
returns-clause-marks c =
    marked_kept (blocks_of c.args.abstraction.now) c.args.self.now.hot.items c.args.self.now.near.items c.requires.marks c.args.block c.raise.new.counters.items c.requires.block c.requires.cold c.raise.ensures.length
    (λ other. c.raise.ensures.each other ∙ ap (λ r. get_or c.args.self.now.near.items other 0 + one_if r) (c.interference.ensures.each other))

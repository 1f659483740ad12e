use Rattle.std.specs.BinaryHeap.{heap_items}
use Rattle.pb_lists.proofs.Parts.{least_among}
use Rattle.pb_lists.proofs.word_entries.peeked.Goals as goal

pub returns-in-Some-clause-least : goal.returns-in-Some-clause-least
returns-in-Some-clause-least c = λ heap other member. least_among c.in-Some.item.now (heap_items c.args.items.now) (c.in-Some.ensures.greatest heap) other member

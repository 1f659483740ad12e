use Rattle.std.specs.BinaryHeap.{heap_items}
use Rattle.pb_lists.proofs.Parts.{among_more}
use Rattle.pb_lists.proofs.word_entries.WordEntries.push.Goals as goal

pub returns-clause-added : goal.returns-clause-added
returns-clause-added c = λ other.
    rw (← c.self.view_is) (among_more other _ (heap_items c.self.inside.items) (heap_items c.push.new.self) c.in_ok-push.ensures.permutation)

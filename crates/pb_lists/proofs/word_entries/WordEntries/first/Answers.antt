use Rattle.std.proofs.Common.{subst}
use Rattle.std.specs.BinaryHeap.{heap_items}
use Rattle.pb_lists.specs.Heaped.{Heaped, is_among, first_of, IsTop}
use Rattle.pb_lists.proofs.Parts.{heap_top}
use Rattle.pb_lists.proofs.word_entries.WordEntries.first.Goals as goal

pub returns-clause-top : goal.returns-clause-top
returns-clause-top c =
    let items = heap_items c.self.inside.items in
    subst (λ (h : Heaped). IsTop (λ entry. is_among entry h.items) (first_of h.items)) c.self.view_is
    (heap_top items c.peeked.result c.peeked.ensures.first (c.peeked.ensures.least c.self.invariant) c.peeked.ensures.none)

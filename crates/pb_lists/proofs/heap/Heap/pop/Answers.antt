use Rattle.std.proofs.Common.{◌≡◌, Option, Some, None, IfNone}
use Rattle.std.specs.declared.collections.BinaryHeap.{BinaryHeap}
use Rattle.std.specs.BinaryHeap.{heap_items, HeapUnchanged}
use Rattle.pb_lists.proofs.Parts.{heap_less, heap_had}
use Rattle.pb_lists.proofs.heap.Heap.pop.Goals as goal

same_items : {X Z T : Type 0} (popped : Option T) (old new : BinaryHeap X Z) → IfNone popped (HeapUnchanged old new) → IfNone popped (heap_items new ≡ heap_items old)
same_items None old new same = same.0
same_items (Some item) old new same = tt

pub returns-clause-left : goal.returns-clause-left
returns-clause-left g c = λ other.
    rw (← c.self.view_is)
    (heap_less (heap_items c.self.inside.items) (heap_items c.pop.new.self) c.pop.result c.pop.ensures.top c.pop.ensures.permutation
    (same_items c.pop.result c.self.inside.items c.pop.new.self c.pop.ensures.unchanged) other)

pub returns-clause-had : goal.returns-clause-had
returns-clause-had g c = λ other.
    rw (← c.self.view_is)
    (heap_had (heap_items c.self.inside.items) (heap_items c.pop.new.self) c.pop.result c.pop.ensures.permutation
    (same_items c.pop.result c.self.inside.items c.pop.new.self c.pop.ensures.unchanged) other)

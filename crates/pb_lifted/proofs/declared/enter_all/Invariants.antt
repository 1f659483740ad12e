use Rattle.std.proofs.Common.{◌≡◌, ◌++◌, map, drop}
use Rattle.pb_lifted.specs.Names.{repeated, earliest}
use Rattle.pb_lifted.proofs.declared.enter_all.Given as goal

abbrev pub invariant-loop-item : goal.invariant-loop-item
invariant-loop-item g l = record {
  added : l.names ++ map (λ i. (g.T.Declared.name_of i).text) (drop l.item-index l.items) ≡ l.fn.names ++ map (λ i. (g.T.Declared.name_of i).text) l.items;
  twice : earliest l.found (repeated l.names (map g.T.Declared.name_of (drop l.item-index l.items))) ≡ earliest l.fn.first (repeated l.fn.names (map g.T.Declared.name_of l.items));
}

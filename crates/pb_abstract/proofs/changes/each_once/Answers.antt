use Rattle.std.proofs.Common.{◌∙◌, sym, ap}
use Rattle.std.specs.List.{list_any}
use Rattle.std.proofs.lemmas.List.Filters.{dedup_is}
use Rattle.std.proofs.lemmas.List.Sorted.{list_any-IsPermutation}
use Rattle.pb_abstract.proofs.Changing.{any_dedup, same_change}
use Rattle.pb_abstract.proofs.changes.each_once.Goals as goal

pub returns : goal.returns
returns c = λ test.
    let is = dedup_is _ c.sort_unstable.new.self.items c.dedup.new.self.items c.dedup.ensures.filtered in
    ap (list_any test) is ∙ any_dedup _ same_change test c.sort_unstable.new.self.items ∙ sym (list_any-IsPermutation test c.args.changes.items c.sort_unstable.new.self.items c.sort_unstable.ensures.permutation)

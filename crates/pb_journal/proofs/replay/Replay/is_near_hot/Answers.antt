use Rattle.std.proofs.Common.{sym, ap, ◌≡◌, ◌<◌, ◌∙◌, length, arith, get_or, true, false, take, subst}
use Rattle.std.specs.List.{list_any}
use Rattle.std.proofs.lemmas.List.Folds.{list_any_at}
use Rattle.std.proofs.lemmas.List.Elements.{All-get_or}
use Rattle.std.proofs.Math.Seq.{take-length}
use Rattle.pb_machine.proofs.Callers.{item_is}
use Rattle.pb_abstract.specs.Graph.{blocks_of}
use Rattle.pb_journal.specs.Replaying.{counts_of}
use Rattle.pb_journal.proofs.Looking.{hot_is, has_small}
use Rattle.pb_journal.proofs.replay.Replay.is_near_hot.Goals as goal

pub returns-then-index : goal.returns-then-index
returns-then-index c =
    let near = c.interference-other-items.result.now in
    let i = c.loop-other.other-index in
    let hot = c.args.self.now.hot.items in
    let small =
    All-get_or
    (λ b. b < (blocks_of c.args.graph.now).count) near i 0 c.loop-other-test.true
    c.interference-other-items.ensures.below in
    let there : get_or near i 0 < length hot = omega (arith, small, c.requires.places) in
    let here : get_or hot (get_or near i 0) false ≡ true =
    sym (item_is hot (get_or near i 0) c.index.result.now false there c.index.ensures)
    ∙ c.if-index.true in
    sym (list_any_at (counts_of c.args.self.now).hot near i 0 c.loop-other-test.true here)
    ∙ hot_is (blocks_of c.args.graph.now) c.args.block
    (counts_of c.args.self.now).hot near c.interference-other-items.ensures.each
    (has_small near (blocks_of c.args.graph.now).count c.interference-other-items.ensures.below)

pub returns : goal.returns
returns c =
    let near = c.interference-other-items.result.now in
    let all : c.loop-other.other-index ≡ length near =
    omega (arith, c.loop-other-test.false, c.loop-other.auto.other-index-end) in
    let whole = ap (λ n. take n near) all ∙ take-length near in
    sym (subst
    (λ xs. list_any (counts_of c.args.self.now).hot xs ≡ false) whole c.loop-other.invariant)
    ∙ hot_is (blocks_of c.args.graph.now) c.args.block
    (counts_of c.args.self.now).hot near c.interference-other-items.ensures.each
    (has_small near (blocks_of c.args.graph.now).count c.interference-other-items.ensures.below)

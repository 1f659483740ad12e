use Rattle.std.proofs.Common.{◌≡◌, ◌+◌, ◌++◌, ◌∷◌, [], None, cond, slice_set, is_some, take, get_or, ap, sym, ◌∙◌, add-one, arith, length, length-append}
use Rattle.std.proofs.Math.Seq.{take-suc}
use Rattle.pb_model.proofs.Callers.{some_found}
use Rattle.pb_bundles.specs.Parts.{content_in}
use Rattle.pb_bundles.specs.Moves.{vacated, moved}
use Rattle.pb_bundles.proofs.Lists.{not_before, among_at}
use Rattle.pb_bundles.proofs.Moving.{vacated_at, vacated_push, moved_in, moved_push}
use Rattle.pb_bundles.proofs.moves.move_out.Goals as goal

pub move_one-requires-clause-home : goal.move_one-requires-clause-home
move_one-requires-clause-home c =
    let scope = c.args.scope.now in
    let at = c.loop-block.block-index in
    let block = get_or scope at 0 in
    let items = c.args.bundles.now.items in
    let here : get_or c.loop-block.bundles.items block None ≡ get_or items block None =
    ap (λ bs. get_or bs block None) c.loop-block.invariant.left ∙ vacated_at (take at scope) items block
    ∙ ap (λ b. cond b None (get_or items block None)) (not_before scope at 0 c.loop-block-test.true c.requires.distinct) in
    ap is_some here ∙ c.requires.home block (among_at scope at 0 c.loop-block-test.true)

pub move_one-requires-clause-absent : goal.move_one-requires-clause-absent
move_one-requires-clause-absent c =
    let scope = c.args.scope.now in
    let at = c.loop-block.block-index in
    let block = get_or scope at 0 in
    let items = c.args.bundles.now.items in
    ap (λ ps. content_in ps block) c.loop-block.invariant.gone ∙ moved_in (take at scope) items block
    ∙ ap (λ b. cond b (get_or items block None) None) (not_before scope at 0 c.loop-block-test.true c.requires.distinct)

pub loop-block-preserved : goal.loop-block-preserved
loop-block-preserved c =
    let scope = c.args.scope.now in
    let at = c.loop-block.block-index in
    let block = get_or scope at 0 in
    let items = c.args.bundles.now.items in
    let front : take (at + 1) scope ≡ take at scope ++ block ∷ [] = ap (λ n. take n scope) (add-one at) ∙ take-suc scope at 0 c.loop-block-test.true in
    let here : get_or c.loop-block.bundles.items block None ≡ get_or items block None =
    ap (λ bs. get_or bs block None) c.loop-block.invariant.left ∙ vacated_at (take at scope) items block
    ∙ ap (λ b. cond b None (get_or items block None)) (not_before scope at 0 c.loop-block-test.true c.requires.distinct) in
    let there = some_found (get_or items block None) (c.requires.home block (among_at scope at 0 c.loop-block-test.true)) in
    record {
      left = c.move_one.ensures.left ∙ ap (λ bs. slice_set bs block None) c.loop-block.invariant.left ∙ sym (vacated_push (take at scope) block items) ∙ ap (λ s. vacated s items) (sym front);
      gone = c.move_one.ensures.moved there.0 (here ∙ there.1) ∙ ap (λ ps. ps ++ (block, there.0) ∷ []) c.loop-block.invariant.gone
          ∙ sym (moved_push (take at scope) block there.0 items there.1) ∙ ap (λ s. moved s items) (sym front);
      places = let more = ap length (c.move_one.ensures.moved there.0 (here ∙ there.1)) in omega (arith, more, length-append c.loop-block.parts.entries ((block, there.0) ∷ []), c.loop-block.invariant.places);
      room = omega (arith, c.move_one.ensures.room, c.loop-block.invariant.room);
    }

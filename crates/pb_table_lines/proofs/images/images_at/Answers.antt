use Rattle.std.proofs.Common.{◌≡◌, ◌+◌, ◌∷◌, [], ◌++◌, length, sym, ap, ◌∙◌, subst, arith, length-append}
use Rattle.std.proofs.lemmas.Result.{err_from_is_err_and}
use Rattle.pb_packed.specs.Words.{AreWords}
use Rattle.pb_table_lines.specs.Reading.{StatedImages, images_at}
use Rattle.pb_table_lines.proofs.Sixteens.{words_long}
use Rattle.pb_table_lines.proofs.Loops.{images_of, image_read, line_fails, image_fails, images_done, images_again, more_values}
use Rattle.pb_table_lines.proofs.images.images_at.Goals as goal

pub returns-in_err-first-clause-gives : goal.returns-in_err-first-clause-gives
returns-in_err-first-clause-gives c =
    let p = err_from_is_err_and c.from_residual.result c.from_residual.ensures.1 in
    let front : StatedImages = images_of c.loop-i.images.listed c.loop-i.images.values in
    rw (p.1, p.2) (line_fails c.args.digits c.args.sums c.args.count c.loop-i.i c.args.line c.loop-i.rest.now front (images_at c.args.digits c.args.sums c.args.count c.args.line c.args.text.now) c.in_err-first.field-0.0 c.loop-i-test.true c.in_err-first.ensures.gives c.loop-i.invariant.so_far)

pub returns-in_err-add_image-clause-gives : goal.returns-in_err-add_image-clause-gives
returns-in_err-add_image-clause-gives c =
    let p = err_from_is_err_and c.from_residual-in_err-add_image.result c.from_residual-in_err-add_image.ensures.1 in
    let front : StatedImages = images_of c.loop-i.images.listed c.loop-i.images.values in
    rw (p.1, p.2) (image_fails c.args.digits c.args.sums c.args.count c.loop-i.i c.args.line c.loop-i.rest.now front (images_at c.args.digits c.args.sums c.args.count c.args.line c.args.text.now) c.in_err-add_image.field-0.0 c.in_ok-first.first.now c.in_ok-first.after.now c.loop-i-test.true c.in_ok-first.ensures.gives c.in_err-add_image.ensures.adds c.loop-i.invariant.so_far)

pub loop-i-preserved : goal.loop-i-preserved
loop-i-preserved c =
    let inv = c.loop-i.invariant in
    let adds = c.in_ok-add_image.ensures.adds in
    let front : StatedImages = images_of c.loop-i.images.listed c.loop-i.images.values in
    let long : length c.add_image.new.words ≡ length c.loop-i.words = words_long _ _ c.in_ok-add_image.ensures.words in
    record {
      so_far = images_again c.args.digits c.args.sums (c.args.count) (c.loop-i.i + 1) c.args.line c.in_ok-first.after.now (images_of (front.listed ++ adds.0 ∷ []) (front.values ++ adds.1)) (images_at c.args.digits c.args.sums c.args.count c.args.line c.args.text.now) c.add_image.new.images.listed c.add_image.new.images.values adds.3 adds.4
          (image_read c.args.digits c.args.sums c.args.count c.loop-i.i c.args.line c.loop-i.rest.now front (images_at c.args.digits c.args.sums c.args.count c.args.line c.args.text.now) c.in_ok-first.first.now c.in_ok-first.after.now adds.0 adds.1 c.loop-i-test.true c.in_ok-first.ensures.gives adds.2 inv.so_far);
      many = more_values c.args.sums c.loop-i.images.listed c.add_image.new.images.listed adds.0 c.loop-i.images.values c.add_image.new.images.values adds.3 c.in_ok-add_image.ensures.many inv.many;
      small = c.in_ok-add_image.ensures.small inv.small;
      as_many = ap length adds.3 ∙ (let one = length-append c.loop-i.images.listed (adds.0 ∷ []) in omega (arith, one, inv.as_many));
      shorter = omega (arith, inv.shorter, c.in_ok-first.ensures.shorter);
      long = long ∙ inv.long;
      words = subst (λ k. AreWords k c.add_image.new.words) (sym long) c.in_ok-add_image.ensures.words;
    }

pub returns-clause-gives : goal.returns-clause-gives
returns-clause-gives c =
    images_done c.args.digits c.args.sums c.args.count c.loop-i.i c.args.line c.loop-i.rest.now (images_of c.loop-i.images.listed c.loop-i.images.values) (images_at c.args.digits c.args.sums c.args.count c.args.line c.args.text.now) c.loop-i-test.false c.loop-i.invariant.so_far

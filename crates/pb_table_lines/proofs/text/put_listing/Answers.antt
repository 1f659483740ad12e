use Rattle.std.proofs.Common.{◌-◌, refl}
use Rattle.pb_table_lines.proofs.Written.{image_put}
use Rattle.pb_table_lines.proofs.text.put_listing.Goals as goal

pub returns-else-at-eq0 : goal.returns-else-at-eq0
returns-else-at-eq0 c = image_put c.args.out.now c.put_image_at.new.out c.args.digits c.args.listing.now c.args.at (c.args.at - 1) refl c.if-at-eq0.false c.requires.at c.put_image_at.ensures.line c.put_image_at.ensures.short

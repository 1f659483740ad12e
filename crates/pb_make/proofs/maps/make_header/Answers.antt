use Rattle.std.proofs.Common.{◌≡◌, ◌∙◌, sym}
use Rattle.std.specs.Fmt.{decimal}
use Rattle.pb_make.specs.Maps.{map_header}
use Rattle.pb_make.proofs.Rows.{header-with}
use Rattle.pb_make.proofs.maps.make_header.Goals as goal

pub returns : goal.returns
returns c =
    let text : c.as_bytes.result.now ≡ map_header c.args.side = c.as_bytes.ensures.value ∙ (c.in_ok-text.ensures.ok ∙ sym (header-with (decimal c.args.side)))
    in rw text at c.from_slice.ensures.items

use Rattle.std.proofs.Common.{◌≡◌, ◌∙◌, append_assoc}
use Rattle.pb_make.specs.Maps.{scenario_text}
use Rattle.pb_make.proofs.maps.make_scen.Goals as goal

pub returns : goal.returns
returns c =
    let text : c.as_bytes.result.now ≡ scenario_text c.args.side = simp append_assoc (c.as_bytes.ensures.value ∙ c.in_ok-text.ensures.ok)
    in rw text at c.from_slice.ensures.items

use Rattle.pb_task.proofs.Slides.{tiles_slide}
use Rattle.pb_task.proofs.laws.tiles_slide.Goals as goal

pub returns : goal.returns
returns c = tiles_slide

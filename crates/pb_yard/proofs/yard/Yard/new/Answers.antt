use Rattle.std.proofs.Common.{◌∙◌}
use Rattle.pb_yard.specs.Views.{cost_of}
use Rattle.pb_yard.proofs.Passing.{opens}
use Rattle.pb_yard.proofs.yard.Yard.new.Goals as goal

pub new-requires : goal.new-requires
new-requires c = record { rule = opens c.args.graph (cost_of c.word_of.result) c.abstraction.ensures.lawful c.abstraction.ensures.room c.requires (c.word_of.ensures ∙ c.incumbent-incumbent.ensures) }

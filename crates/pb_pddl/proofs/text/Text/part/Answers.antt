use Rattle.pb_pddl.proofs.Ranges.{part_is}
use Rattle.pb_pddl.proofs.text.Text.part.Goals as goal

pub returns : goal.returns
returns c =
    rw (c.in_ok-len.ensures, c.in_ok-from.ensures, c.in_ok-bytes.ensures.cases)
    (part_is c.self.inside.from c.self.inside.len c.args.from c.args.len c.self.inside.bytes.value c.args.self.now c.self.view_is c.requires)

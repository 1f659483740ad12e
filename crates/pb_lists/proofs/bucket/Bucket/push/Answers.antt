use Rattle.std.proofs.Common.{◌∙◌}
use Rattle.pb_lists.specs.Buckets.{has_entry, top_of}
use Rattle.pb_lists.proofs.Parts.{pushed_member, pushed_keeps, pushed_had, pushed_top}
use Rattle.pb_lists.proofs.bucket.Bucket.push.Goals as goal

pub returns-clause-member : goal.returns-clause-member
returns-clause-member c = pushed_member (c.args.h, c.args.state.now, c.args.place) (has_entry c.args.self.now) (has_entry c.add.new.self) c.in_ok-add.ensures.added

pub returns-clause-kept : goal.returns-clause-kept
returns-clause-kept c = pushed_keeps (c.args.h, c.args.state.now, c.args.place) (has_entry c.args.self.now) (has_entry c.add.new.self) c.in_ok-add.ensures.added

pub returns-clause-top : goal.returns-clause-top
returns-clause-top c =
    pushed_top (c.args.h, c.args.state.now, c.args.place) (has_entry c.args.self.now) (has_entry c.add.new.self) c.in_ok-add.ensures.added (top_of c.args.self.now) (top_of c.add.new.self)
    c.show_top.ensures c.show_top-2.ensures

pub returns-in_err-add-clause-kept : goal.returns-in_err-add-clause-kept
returns-in_err-add-clause-kept c = λ other had. c.in_err-add.ensures.err other ∙ had

pub returns-clause-had : goal.returns-clause-had
returns-clause-had c = pushed_had (c.args.h, c.args.state.now, c.args.place) (has_entry c.args.self.now) (has_entry c.add.new.self) c.in_ok-add.ensures.added

use Rattle.pb_journal.proofs.Answered.{if_header, if_weight, if_pattern, only_header}
use Rattle.pb_journal.proofs.header.read_header.Goals as goal

pub returns-clause-header : goal.returns-clause-header
returns-clause-header c = if_header c.args.bytes.now c.settings_in.result c.settings_in.ensures

pub returns-clause-weight : goal.returns-clause-weight
returns-clause-weight c = if_weight c.args.bytes.now c.settings_in.result c.settings_in.ensures

pub returns-clause-pattern : goal.returns-clause-pattern
returns-clause-pattern c = if_pattern c.args.bytes.now c.settings_in.result c.settings_in.ensures

pub returns-clause-only : goal.returns-clause-only
returns-clause-only c = only_header c.args.bytes.now c.settings_in.result c.settings_in.ensures

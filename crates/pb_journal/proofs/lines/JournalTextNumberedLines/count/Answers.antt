use Rattle.pb_journal.proofs.Numbered.{lines_are_text}
use Rattle.pb_journal.proofs.lines.JournalTextNumberedLines.count.Goals as goal

pub returns-clause-text : goal.returns-clause-text
returns-clause-text c = lines_are_text c.args.self.now.settings.now c.args.self.now.events.now

use Rattle.std.proofs.Common.{◌-◌, List, get_or, arith}
use Rattle.std.proofs.lemmas.Option.{slice_get-get_or}
use Rattle.pb_machine.specs.declared.event.Event.{Event}
use Rattle.pb_machine.specs.declared.event.Event.TheVariants.{Lease}
use Rattle.pb_machine.specs.declared.settings.Settings.{Settings}
use Rattle.pb_journal.proofs.Numbered.{lines_counted, event_line_put}
use Rattle.pb_journal.proofs.lines.JournalTextNumberedLines.put_line.Goals as goal

pub returns-else-at-lt6-clause-line : goal.returns-else-at-lt6-clause-line
returns-else-at-lt6-clause-line c =
    let settings : Settings = c.args.self.now.settings.now in
    let journal : List Event = c.args.self.now.events.now in
    let count = lines_counted settings journal in
    event_line_put c.args.out.now c.put_event.new.out settings journal c.args.at
    (get_or journal (c.args.at - 6) (Lease 0 0 0)) c.if-at-lt6.false
    (slice_get-get_or journal (c.args.at - 6) (Lease 0 0 0)
    (omega (arith, count, c.requires.within, c.if-at-lt6.false)))
    c.put_event.ensures.line c.put_event.ensures.short

-- The event that a line states.
use Rattle.pb_machine.specs.declared.event.Event.{Event}
use Rattle.pb_machine.specs.declared.event.Event.TheVariants as events
use Rattle.pb_journal.specs.declared.stated.StatedEvent.{StatedEvent}
use Rattle.pb_journal.specs.declared.stated.StatedEvent.TheVariants.{Lease, Renew, Hot, Cold, Release, Off, Ended}

abbrev pub event_of : StatedEvent → Event
event_of (Lease worker block quota) = events.Lease worker block quota
event_of (Renew worker used quota) = events.Renew worker used quota
event_of (Hot worker block) = events.Hot worker block
event_of (Cold worker block) = events.Cold worker block
event_of (Release worker used memory) = events.Release worker used memory
event_of (Off worker memory) = events.Off worker memory
event_of (Ended end) = events.Ended end

-- The clauses of `run`.
use Rattle.std.proofs.Common.{ℕ, Option, List, map, string_bytes, Global}
use Rattle.pb_outside.specs.Outside.{Files}
use Rattle.pb_outside.specs.Calls.{Call}
use Rattle.pb_answer.specs.Statuses.{number_of}
use Rattle.pb_run.proofs.Clauses as clauses
use Rattle.pb_run.proofs.top.run.Given as given
use Rattle.pb_run.proofs.top.run.Goals as goal

-- the words, and the status that is answered
abbrev words : (g : given.Over) (c : goal.Joined-kept g) → List (List ℕ)
words g c = map (string_bytes {Z = Global}) c.args.words.now

abbrev status : (g : given.Over) (c : goal.Joined-kept g) → ℕ
status g c = number_of c.carry_out-status.result

-- how many rows grounding had looked at in the end
abbrev looks : (g : given.Over) (c : goal.Joined-kept g) → ℕ
looks g c = c.carry_out-status.new.looks.taken

-- what the shelf tells of its files, before and after
abbrev files : (g : given.Over) (c : goal.Joined-kept g) → Option Files
files g c = g.H.Shelf.files c.args.shelf.now

abbrev files_after : (g : given.Over) (c : goal.Joined-kept g) → Option Files
files_after g c = g.H.Shelf.files c.carry_out-status.new.shelf

-- the calls on the shelf and on the sink, before and after
abbrev calls : (g : given.Over) (c : goal.Joined-kept g) → List Call
calls g c = g.H.Shelf.calls c.args.shelf.now

abbrev calls_after : (g : given.Over) (c : goal.Joined-kept g) → List Call
calls_after g c = g.H.Shelf.calls c.carry_out-status.new.shelf

abbrev puts : (g : given.Over) (c : goal.Joined-kept g) → List Call
puts g c = g.K.Sink.calls c.args.out.now

abbrev puts_after : (g : given.Over) (c : goal.Joined-kept g) → List Call
puts_after g c = g.K.Sink.calls c.carry_out-status.new.out

pub returns-clause-plan : goal.returns-clause-plan
returns-clause-plan g c = clauses.plan (words g c) (status g c) (looks g c) (files g c) (files_after g c) (calls g c) (calls_after g c) (puts g c) (puts_after g c) c.carry_out-status.ensures.goes c.number.result c.number.ensures

pub returns-clause-cheapest : goal.returns-clause-cheapest
returns-clause-cheapest g c = clauses.cheapest (words g c) (status g c) (looks g c) (files g c) (files_after g c) (calls g c) (calls_after g c) (puts g c) (puts_after g c) c.carry_out-status.ensures.goes c.number.result c.number.ensures

pub returns-clause-certified : goal.returns-clause-certified
returns-clause-certified g c = clauses.certified (words g c) (status g c) (looks g c) (files g c) (files_after g c) (calls g c) (calls_after g c) (puts g c) (puts_after g c) c.carry_out-status.ensures.goes c.number.result c.number.ensures

pub returns-clause-none : goal.returns-clause-none
returns-clause-none g c = clauses.none (words g c) (status g c) (looks g c) (files g c) (files_after g c) (calls g c) (calls_after g c) (puts g c) (puts_after g c) c.carry_out-status.ensures.goes c.number.result c.number.ensures

pub returns-clause-stopped : goal.returns-clause-stopped
returns-clause-stopped g c = clauses.stopped (words g c) (status g c) (looks g c) (files g c) (files_after g c) (calls g c) (calls_after g c) (puts g c) (puts_after g c) c.carry_out-status.ensures.goes c.number.result c.number.ensures

pub returns-clause-maps : goal.returns-clause-maps
returns-clause-maps g c = clauses.maps (words g c) (status g c) (looks g c) (files g c) (files_after g c) (calls g c) (calls_after g c) (puts g c) (puts_after g c) c.carry_out-status.ensures.goes c.number.result c.number.ensures
    c.read_as_spelled.ensures

pub returns-clause-boards : goal.returns-clause-boards
returns-clause-boards g c = clauses.boards (words g c) (status g c) (looks g c) (files g c) (files_after g c) (calls g c) (calls_after g c) (puts g c) (puts_after g c) c.carry_out-status.ensures.goes c.number.result c.number.ensures
    c.readings_are_spelled.ensures

pub returns-clause-named : goal.returns-clause-named
returns-clause-named g c = clauses.named (words g c) (status g c) (looks g c) (files g c) (files_after g c) (calls g c) (calls_after g c) (puts g c) (puts_after g c) c.carry_out-status.ensures.goes c.number.result c.number.ensures

pub returns-clause-falling : goal.returns-clause-falling
returns-clause-falling g c = clauses.falling (words g c) (status g c) (looks g c) (files g c) (files_after g c) (calls g c) (calls_after g c) (puts g c) (puts_after g c) c.carry_out-status.ensures.goes c.number.result c.number.ensures

pub returns-clause-falling_maps : goal.returns-clause-falling_maps
returns-clause-falling_maps g c = clauses.falling_maps (words g c) (status g c) (looks g c) (files g c) (files_after g c) (calls g c) (calls_after g c) (puts g c) (puts_after g c) c.carry_out-status.ensures.goes c.number.result c.number.ensures
    c.read_as_spelled.ensures

pub returns-clause-falling_boards : goal.returns-clause-falling_boards
returns-clause-falling_boards g c = clauses.falling_boards (words g c) (status g c) (looks g c) (files g c) (files_after g c) (calls g c) (calls_after g c) (puts g c) (puts_after g c) c.carry_out-status.ensures.goes c.number.result c.number.ensures
    c.readings_are_spelled.ensures

pub returns-clause-falling_named : goal.returns-clause-falling_named
returns-clause-falling_named g c = clauses.falling_named (words g c) (status g c) (looks g c) (files g c) (files_after g c) (calls g c) (calls_after g c) (puts g c) (puts_after g c) c.carry_out-status.ensures.goes c.number.result c.number.ensures

pub returns-clause-solve : goal.returns-clause-solve
returns-clause-solve g c = clauses.solve (words g c) (status g c) (looks g c) (files g c) (files_after g c) (calls g c) (calls_after g c) (puts g c) (puts_after g c) c.carry_out-status.ensures.goes c.number.result c.number.ensures

pub returns-clause-check : goal.returns-clause-check
returns-clause-check g c = clauses.check (words g c) (status g c) (looks g c) (files g c) (files_after g c) (calls g c) (calls_after g c) (puts g c) (puts_after g c) c.carry_out-status.ensures.goes c.number.result c.number.ensures

pub returns-clause-journal : goal.returns-clause-journal
returns-clause-journal g c = clauses.journal (words g c) (status g c) (looks g c) (files g c) (files_after g c) (calls g c) (calls_after g c) (puts g c) (puts_after g c) c.carry_out-status.ensures.goes c.number.result c.number.ensures

pub returns-clause-make : goal.returns-clause-make
returns-clause-make g c = clauses.make (words g c) (status g c) (looks g c) (files g c) (files_after g c) (calls g c) (calls_after g c) (puts g c) (puts_after g c) c.carry_out-status.ensures.goes c.number.result c.number.ensures

pub returns-clause-refused : goal.returns-clause-refused
returns-clause-refused g c = clauses.refused (words g c) (status g c) (looks g c) (files g c) (files_after g c) (calls g c) (calls_after g c) (puts g c) (puts_after g c) c.carry_out-status.ensures.goes c.number.result c.number.ensures
    c.read_as_spelled.ensures c.readings_are_spelled.ensures

pub returns-clause-calls : goal.returns-clause-calls
returns-clause-calls g c = clauses.calls (words g c) (status g c) (looks g c) (files g c) (files_after g c) (calls g c) (calls_after g c) (puts g c) (puts_after g c) c.carry_out-status.ensures.goes c.number.result c.number.ensures

pub returns-clause-answered : goal.returns-clause-answered
returns-clause-answered g c = clauses.answered (words g c) (status g c) (looks g c) (files g c) (files_after g c) (calls g c) (calls_after g c) (puts g c) (puts_after g c) c.carry_out-status.ensures.goes c.number.result c.number.ensures
    (g.H.Shelf.can_load c.args.shelf.now) (g.H.Shelf.can_hold c.args.shelf.now) (g.K.Sink.can_take c.args.out.now) c.carry_out-status.ensures.fits

pub returns-clause-broken : goal.returns-clause-broken
returns-clause-broken g c = clauses.broken (words g c) (status g c) (looks g c) (files g c) (files_after g c) (calls g c) (calls_after g c) (puts g c) (puts_after g c) c.carry_out-status.ensures.goes c.number.result c.number.ensures
    (g.H.Shelf.faults c.args.shelf.now) (g.H.Shelf.faults c.carry_out-status.new.shelf) (g.K.Sink.faults c.args.out.now) (g.K.Sink.faults c.carry_out-status.new.out)
    c.carry_out-status.ensures.shelf_count c.carry_out-status.ensures.sink_count c.carry_out-status.ensures.shelf_later c.carry_out-status.ensures.sink_later

pub returns-clause-contents : goal.returns-clause-contents
returns-clause-contents g c = clauses.contents (words g c) (status g c) (looks g c) (files g c) (files_after g c) (calls g c) (calls_after g c) (puts g c) (puts_after g c) c.carry_out-status.ensures.goes c.number.result c.number.ensures
    (g.K.Sink.written c.args.out.now) (g.K.Sink.written c.carry_out-status.new.out) c.carry_out-status.ensures.written

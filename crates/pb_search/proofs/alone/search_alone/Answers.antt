use Rattle.pb_yard.proofs.Callers.{begins_without_room}
use Rattle.pb_search.proofs.Ending.{begin_is_moment, none_out, none_signed_off, alone_ran}
use Rattle.pb_search.proofs.alone.search_alone.Goals as goal

pub run_alone-requires-clause-moment : goal.run_alone-requires-clause-moment
run_alone-requires-clause-moment g c _ _ = begin_is_moment c.args.opening c.requires.begin

pub run_alone-requires-clause-home : goal.run_alone-requires-clause-home
run_alone-requires-clause-home g c _ _ = none_out c.args.opening c.requires.begin

pub run_alone-requires-clause-stays : goal.run_alone-requires-clause-stays
run_alone-requires-clause-stays g c _ _ = none_signed_off c.args.opening c.requires.begin

pub returns : goal.returns
returns g c =
    alone_ran c.args.opening c.requires.begin c.run_alone.new.graph c.run_alone.ensures.same c.requires.alone
    (begins_without_room c.args.opening c.abstraction-begins.ensures.room c.requires.begin.empty)
    c.abstraction-lawful.ensures.lawful c.journal-events.ensures.within c.run_alone.ensures.run c.run_alone.ensures.home c.in_ok-run_alone.ensures.signed_off c.in_ok-run_alone.ensures.ended c.run_alone.ensures.marks

use Rattle.std.proofs.Common.{◌∙◌, ap, sym, subst}
use Rattle.pb_model.specs.Weight.{Weight, IsWeight}
use Rattle.pb_lease.specs.Leased.{FitsScopes}
use Rattle.pb_lease.specs.GraphValue.{GraphValue}
use Rattle.pb_lease.specs.Begins.{IsReopened, BeginsAgain}
use Rattle.pb_lease.proofs.Beginnings.{begins_again}
use Rattle.pb_lease.proofs.GraphReopened.{home, all_are_home, again_kept, is_reopened}
use Rattle.pb_abstract.specs.Graph.{AbstractGraph, blocks_of}
use Rattle.pb_lease.proofs.Free.{shows_all_keys}
use Rattle.pb_lease.specs.contracts.graph.LeaseGraph.{the_view}
use Rattle.pb_lease.proofs.graph.LeaseGraph.open_again.Goals as goal

pub prepare-requires-clause-home : goal.prepare-requires-clause-home
prepare-requires-clause-home c =
    let t : GraphValue = the_view c.self.inside in
    let quiet = ap (λ (v : GraphValue). v.table.end) c.self.view_is ∙ c.requires.quiet in
    all_are_home t c.self.invariant.lawful quiet

pub reopen-requires-clause-home : goal.reopen-requires-clause-home
reopen-requires-clause-home c =
    let t : GraphValue = the_view c.self.inside in
    let quiet = ap (λ (v : GraphValue). v.table.end) c.self.view_is ∙ c.requires.quiet in
    home t c.self.invariant.lawful quiet

pub invariant_of-self-2 : goal.invariant_of-self-2
invariant_of-self-2 c =
    let t : GraphValue = the_view c.self.inside in
    let quiet = ap (λ (v : GraphValue). v.table.end) c.self.view_is ∙ c.requires.quiet in
    let weight : Weight = record { num = c.args.num; den = c.args.den } in
    let heavy : IsWeight weight = record { positive = c.requires.positive; at_least_one = c.requires.at_least_one; small = c.requires.small } in
    let kept = again_kept t c.self.invariant.lawful quiet weight heavy c.in-Some.bound c.in-Some.is c.reopen.new.self c.in_ok-reopen.ensures.settings c.in_ok-reopen.ensures.past c.in_ok-reopen.ensures.counts c.in_ok-reopen.ensures.journal c.in_ok-reopen.ensures.abstraction
    c.adopt.new.self (c.adopt.ensures.reopened weight c.in-Some.bound c.in_ok-sets.ensures) (c.adopt.ensures.rows weight c.in-Some.bound c.in_ok-sets.ensures) c.adopt.ensures.count c.adopt.ensures.keys c.count-noted.ensures.noted in
    record { lawful = kept; shows = shows_all_keys c.reopen.new.self c.adopt.new.self.keys c.self.inside.free c.show_every.new.free (c.self.invariant.shows.places ∙ ap (λ (g : AbstractGraph). (blocks_of g).count) (sym c.in_ok-reopen.ensures.abstraction)) c.show_every.ensures; greatest_is = subst (λ (g : AbstractGraph). FitsScopes g c.self.inside.greatest) (sym c.in_ok-reopen.ensures.abstraction) c.self.invariant.greatest_is }

pub returns-clause-reopened : goal.returns-clause-reopened
returns-clause-reopened c =
    let t : GraphValue = the_view c.self.inside in
    let quiet = ap (λ (v : GraphValue). v.table.end) c.self.view_is ∙ c.requires.quiet in
    let weight : Weight = record { num = c.args.num; den = c.args.den } in
    let heavy : IsWeight weight = record { positive = c.requires.positive; at_least_one = c.requires.at_least_one; small = c.requires.small } in
    let new : GraphValue = record { task = t.task; choice = t.choice; table = c.reopen.new.self; homes = c.adopt.new.self; incumbent = t.incumbent } in
    subst (λ (v : GraphValue). IsReopened v weight new) c.self.view_is
    (is_reopened t c.self.invariant.lawful quiet weight heavy c.in-Some.bound c.in-Some.is c.reopen.new.self c.in_ok-reopen.ensures.settings c.in_ok-reopen.ensures.past c.in_ok-reopen.ensures.counts c.in_ok-reopen.ensures.journal c.in_ok-reopen.ensures.abstraction
    c.adopt.new.self (c.adopt.ensures.reopened weight c.in-Some.bound c.in_ok-sets.ensures) (c.adopt.ensures.rows weight c.in-Some.bound c.in_ok-sets.ensures) c.adopt.ensures.count c.adopt.ensures.keys c.count-noted.ensures.noted)

pub returns-clause-begin : goal.returns-clause-begin
returns-clause-begin c =
    let t : GraphValue = the_view c.self.inside in
    let quiet = ap (λ (v : GraphValue). v.table.end) c.self.view_is ∙ c.requires.quiet in
    let weight : Weight = record { num = c.args.num; den = c.args.den } in
    let heavy : IsWeight weight = record { positive = c.requires.positive; at_least_one = c.requires.at_least_one; small = c.requires.small } in
    let new : GraphValue = record { task = t.task; choice = t.choice; table = c.reopen.new.self; homes = c.adopt.new.self; incumbent = t.incumbent } in
    let kept = again_kept t c.self.invariant.lawful quiet weight heavy c.in-Some.bound c.in-Some.is c.reopen.new.self c.in_ok-reopen.ensures.settings c.in_ok-reopen.ensures.past c.in_ok-reopen.ensures.counts c.in_ok-reopen.ensures.journal c.in_ok-reopen.ensures.abstraction
    c.adopt.new.self (c.adopt.ensures.reopened weight c.in-Some.bound c.in_ok-sets.ensures) (c.adopt.ensures.rows weight c.in-Some.bound c.in_ok-sets.ensures) c.adopt.ensures.count c.adopt.ensures.keys c.count-noted.ensures.noted in
    let reopened = is_reopened t c.self.invariant.lawful quiet weight heavy c.in-Some.bound c.in-Some.is c.reopen.new.self c.in_ok-reopen.ensures.settings c.in_ok-reopen.ensures.past c.in_ok-reopen.ensures.counts c.in_ok-reopen.ensures.journal c.in_ok-reopen.ensures.abstraction
    c.adopt.new.self (c.adopt.ensures.reopened weight c.in-Some.bound c.in_ok-sets.ensures) (c.adopt.ensures.rows weight c.in-Some.bound c.in_ok-sets.ensures) c.adopt.ensures.count c.adopt.ensures.keys c.count-noted.ensures.noted in
    subst (λ (v : GraphValue). BeginsAgain v weight new) c.self.view_is
    (begins_again c.reopening_is_lawful.ensures t new weight c.self.invariant.lawful quiet heavy kept reopened)

use Rattle.std.proofs.Common.{◌≡◌, false, Option, None, sym, ◌∙◌, refl, subst, [], ◌∷◌, true≢false}
use Rattle.pb_machine.specs.declared.event.End.{End}
use Rattle.pb_machine.specs.declared.event.End.TheVariants.{Quiet, Budget}
use Rattle.pb_machine.specs.declared.event.Event.TheVariants.{Ended}
use Rattle.pb_lease.specs.GraphValue.{GraphValue}
use Rattle.pb_lease.specs.Choices.{IsChoice, is_out_in, IsDone}
use Rattle.pb_lease.specs.Steps.{KeepsLeases, end_events}
use Rattle.pb_lease.proofs.GraphBasics.{used_up}
use Rattle.pb_lease.proofs.GraphKept.{event_kept}
use Rattle.pb_lease.proofs.MomentNumbers.{ended_is_legal, ended_next}
use Rattle.pb_lease.proofs.Free.{fits_on, shows_still}
use Rattle.pb_lease.specs.contracts.graph.LeaseGraph.{the_view}
use Rattle.pb_lease.proofs.graph.LeaseGraph.end_now.Goals as goal

pub end_budget-requires-clause-spent : goal.end_budget-requires-clause-spent
end_budget-requires-clause-spent c =
    let t : GraphValue = the_view c.self.inside in
    let none = subst (λ (v : GraphValue). v.table.end ≡ None) (sym c.self.view_is) c.requires.no_end in
    let home = subst (λ (v : GraphValue). is_out_in v ≡ false) (sym c.self.view_is) c.requires.home in
    let free = subst (λ (v : GraphValue). IsChoice v None) (sym c.self.view_is) c.requires.none_free in
    let opened = c.is_any_opened.ensures.0 c.if-is_any_opened.true in
    used_up t c.self.invariant.lawful none home free opened.0 opened.1

pub invariant_of-self : goal.invariant_of-self
invariant_of-self c =
    let t : GraphValue = the_view c.self.inside in
    let none = subst (λ (v : GraphValue). v.table.end ≡ None) (sym c.self.view_is) c.requires.no_end in
    let home = subst (λ (v : GraphValue). is_out_in v ≡ false) (sym c.self.view_is) c.requires.home in
    let free = subst (λ (v : GraphValue). IsChoice v None) (sym c.self.view_is) c.requires.none_free in
    let opened = c.is_any_opened.ensures.0 c.if-is_any_opened.true in
    let done : IsDone t Budget = (opened, used_up t c.self.invariant.lawful none home free opened.0 opened.1) in
    record {
      lawful = event_kept t c.self.invariant.lawful c.end_budget.new.self (Ended Budget) c.end_budget.ensures.events (ended_is_legal t Budget none home done) refl;
      shows = shows_still t.table c.end_budget.new.self (Ended Budget ∷ []) c.end_budget.ensures.events t.homes.keys t.homes.keys c.self.inside.free c.self.invariant.shows refl (λ block clear. clear);
      greatest_is = fits_on t.table c.end_budget.new.self (Ended Budget ∷ []) c.end_budget.ensures.events c.self.inside.greatest c.self.invariant.greatest_is;
    }

pub invariant_of-self-else-is_any_opened : goal.invariant_of-self-else-is_any_opened
invariant_of-self-else-is_any_opened c =
    let t : GraphValue = the_view c.self.inside in
    let none = subst (λ (v : GraphValue). v.table.end ≡ None) (sym c.self.view_is) c.requires.no_end in
    let home = subst (λ (v : GraphValue). is_out_in v ≡ false) (sym c.self.view_is) c.requires.home in
    let done : IsDone t Quiet = λ opened. true≢false (sym (c.is_any_opened.ensures.1 opened) ∙ c.if-is_any_opened.false) in
    record {
      lawful = event_kept t c.self.invariant.lawful c.end_quiet.new.self (Ended Quiet) c.end_quiet.ensures.events (ended_is_legal t Quiet none home done) refl;
      shows = shows_still t.table c.end_quiet.new.self (Ended Quiet ∷ []) c.end_quiet.ensures.events t.homes.keys t.homes.keys c.self.inside.free c.self.invariant.shows refl (λ block clear. clear);
      greatest_is = fits_on t.table c.end_quiet.new.self (Ended Quiet ∷ []) c.end_quiet.ensures.events c.self.inside.greatest c.self.invariant.greatest_is;
    }

pub returns-then-is_any_opened-clause-done : goal.returns-then-is_any_opened-clause-done
returns-then-is_any_opened-clause-done c =
    let t : GraphValue = the_view c.self.inside in
    let none = subst (λ (v : GraphValue). v.table.end ≡ None) (sym c.self.view_is) c.requires.no_end in
    let home = subst (λ (v : GraphValue). is_out_in v ≡ false) (sym c.self.view_is) c.requires.home in
    let free = subst (λ (v : GraphValue). IsChoice v None) (sym c.self.view_is) c.requires.none_free in
    let opened = c.is_any_opened.ensures.0 c.if-is_any_opened.true in
    subst (λ (v : GraphValue). IsDone v Budget) c.self.view_is (opened, used_up t c.self.invariant.lawful none home free opened.0 opened.1)

pub returns-then-is_any_opened-clause-moment : goal.returns-then-is_any_opened-clause-moment
returns-then-is_any_opened-clause-moment c =
    let t : GraphValue = the_view c.self.inside in
    let none = subst (λ (v : GraphValue). v.table.end ≡ None) (sym c.self.view_is) c.requires.no_end in
    let home = subst (λ (v : GraphValue). is_out_in v ≡ false) (sym c.self.view_is) c.requires.home in
    let free = subst (λ (v : GraphValue). IsChoice v None) (sym c.self.view_is) c.requires.none_free in
    let opened = c.is_any_opened.ensures.0 c.if-is_any_opened.true in
    let done : IsDone t Budget = (opened, used_up t c.self.invariant.lawful none home free opened.0 opened.1) in
    let new : GraphValue = record { task = t.task; choice = t.choice; table = c.end_budget.new.self; homes = t.homes; incumbent = t.incumbent } in
    subst (λ (v : GraphValue). KeepsLeases v (end_events v.table.end Budget) new) c.self.view_is
    (subst (λ (o : Option End). KeepsLeases t (end_events o Budget) new) (sym none) (ended_next t c.self.invariant.lawful Budget new c.end_budget.ensures.events refl none home done))

pub returns-else-is_any_opened-clause-moment : goal.returns-else-is_any_opened-clause-moment
returns-else-is_any_opened-clause-moment c =
    let t : GraphValue = the_view c.self.inside in
    let none = subst (λ (v : GraphValue). v.table.end ≡ None) (sym c.self.view_is) c.requires.no_end in
    let home = subst (λ (v : GraphValue). is_out_in v ≡ false) (sym c.self.view_is) c.requires.home in
    let done : IsDone t Quiet = λ opened. true≢false (sym (c.is_any_opened.ensures.1 opened) ∙ c.if-is_any_opened.false) in
    let new : GraphValue = record { task = t.task; choice = t.choice; table = c.end_quiet.new.self; homes = t.homes; incumbent = t.incumbent } in
    subst (λ (v : GraphValue). KeepsLeases v (end_events v.table.end Quiet) new) c.self.view_is
    (subst (λ (o : Option End). KeepsLeases t (end_events o Quiet) new) (sym none) (ended_next t c.self.invariant.lawful Quiet new c.end_quiet.ensures.events refl none home done))

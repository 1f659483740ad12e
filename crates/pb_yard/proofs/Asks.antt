-- What the rule of a yard lets a pass ask of the graph that it finds.
use Rattle.std.proofs.Common.{◌≡◌, ℕ, ◌<◌, Bool, true, false, ◌||◌, is_some, IsSome, List, ◌++◌, Option, Some, None, refl, sym, ap, ◌∙◌, subst, arith}
use Rattle.std.specs.List.{list_any}
use mathlib.Core.Option.{some}
use lib.ListN.{get_elem?}
use Rattle.pb_machine.specs.declared.event.End.{End}
use Rattle.pb_machine.specs.Counts.{Counts}
use Rattle.pb_machine.specs.History.{StartsWith, is_off, end_in}
use Rattle.pb_machine.proofs.Callers.{signing_off_is_told, ends_are_told, ends_stand}
use Rattle.pb_abstract.specs.Graph.{AbstractGraph, blocks_of}
use Rattle.pb_lease.specs.Tables.{blocks}
use Rattle.pb_lease.specs.LeaseValue.{LeaseValue}
use Rattle.pb_lease.specs.Leased.{grant_of}
use Rattle.pb_lease.specs.GraphValue.{GraphValue, counts_in}
use Rattle.pb_yard.specs.declared.view.View.{View}
use Rattle.pb_yard.specs.Rule.{grant_in, IsViewOf, IsYard}
use Rattle.pb_yard.specs.Returning.{IsLeaseOf}
use Rattle.pb_yard.specs.Replies.{reported}
use Rattle.pb_yard.specs.Calls.{IsActive}
use Rattle.pb_yard.proofs.Parts.{at_journal, below_made}
use Rattle.pb_yard.proofs.Meaning.{history}

-- a sign-off keeps its cause without a report that comes after the end
pub still_cause : (memory : Bool) (end : Option End) → (memory || is_some end) ≡ true → (reported memory end || is_some end) ≡ true
still_cause true None why = refl
still_cause true (Some end) why = refl
still_cause false end why = why

module _ (x : GraphValue) (shared : Option ℕ) (views : List View) (seat : ℕ) (v : View) (h : IsYard x shared views) (at : get_elem? views seat ≡ some v) (live : v.journal.is_live ≡ true) where
  abbrev Own : ℕ
  Own = v.journal.own.worker

  mine : IsViewOf x h.machine h.lent v
  mine = h.each seat v at live

  pub begins : StartsWith x.table.journal v.journal.seen
  begins = (h.journals.each seat v.journal (at_journal x.table.settings.workers x.table.journal views h.journals seat v at) live).seen

  pub worker_known : Own < x.table.settings.workers
  worker_known = let lt = below_made x.table.settings.workers x.table.journal views h.journals seat v at live in let few = h.journals.few in omega arith

  pub leases_are : (counts_in x).leases Own ≡ grant_in v.lent
  leases_are = ap (λ (c : Counts). c.leases Own) (sym h.moment.counts) ∙ h.leases Own ∙ ap grant_in mine.lent

  pub vacant : v.lent ≡ None → (counts_in x).leases Own ≡ None
  vacant free = leases_are ∙ ap grant_in free

  pub active : IsActive v → (counts_in x).signed_off Own ≡ false
  active stays = signing_off_is_told (blocks x.table) x.table.settings x.table.past.spent x.table.journal (counts_in x) Own (history x shared views h)
      ∙ ap (list_any is_off) (h.journals.each seat v.journal (at_journal x.table.settings.workers x.table.journal views h.journals seat v at) live).shares.0.0.told ∙ stays

  -- an end that was seen stands
  pub cause : (memory : Bool) → (memory || is_some (end_in v.journal.seen)) ≡ true → (memory || is_some x.table.end) ≡ true
  cause true why = refl
  cause false why = ap is_some (ends_are_told (blocks x.table) x.table.settings x.table.past.spent x.table.journal (counts_in x) (history x shared views h) ∙ ap end_in begins.1) ∙ go (end_in v.journal.seen) refl why
    where
      go : (o : Option End) → end_in v.journal.seen ≡ o → is_some o ≡ true → is_some (end_in (v.journal.seen ++ begins.0)) ≡ true
      go None is there = absurd cc
      go (Some end) is there = ap is_some (ends_stand v.journal.seen begins.0 end is)

  pub has_lease : IsSome v.lent → IsSome ((counts_in x).leases Own)
  has_lease there = go v.lent leases_are there
    where
      go : (o : Option LeaseValue) → (counts_in x).leases Own ≡ grant_in o → is_some o ≡ true → is_some ((counts_in x).leases Own) ≡ true
      go None is there = absurd cc
      go (Some lease) is there = ap is_some is

  pub leased_as : (lease : LeaseValue) → IsLeaseOf v lease → (counts_in x).leases lease.worker ≡ Some (grant_of lease)
  leased_as lease is = ap (counts_in x).leases is.0 ∙ leases_are ∙ is.1

  pub block_known : (block : ℕ) → block < (blocks_of v.abstraction).count → block < (blocks x.table).count
  block_known block lt = subst (λ (a : AbstractGraph). block < (blocks_of a).count) mine.search.abstraction lt

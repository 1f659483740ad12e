-- A graph that stays a moment while costs are told or taken, and whose moves a run's events are.
use Rattle.std.proofs.Common.{◌≡◌, ℕ, min, Bool, nat_lt, cond, List, [], ◌∷◌, Option, Some, None, IsTrue, refl, sym, ap, ◌∙◌, subst, arith}
use Rattle.pb_model.specs.Store.{Store, lesser}
use Rattle.pb_model.proofs.Callers.{by_cases, below, not_below}
use Rattle.pb_task.specs.Parts.{greatest_cost}
use Rattle.pb_machine.specs.declared.event.Event.{Event}
use Rattle.pb_machine.specs.Counts.{Counts, is_any_out}
use Rattle.pb_machine.specs.History.{is_event_of, events_of}
use Rattle.pb_machine.specs.Machine.{tell_move, AreOfOthers}
use Rattle.pb_machine.proofs.Callers.{moves_keep_lawful, known_stays, none_out_untold, others_keep_whole}
use Rattle.pb_bundles.specs.Homes.{key_at, home_rows}
use Rattle.pb_bundles.specs.Stores.{HasKeys}
use Rattle.pb_lease.specs.GraphValue.{GraphValue, setup_in, IsLeaseGraph}
use Rattle.pb_lease.specs.Moments.{moves_of}
use Rattle.pb_lease.specs.Laws.{TellsKeepMoments, NoneOutIsMoment, EventsLeaveOthers}
use Rattle.pb_lease.specs.Steps.{LowersIncumbent}
use Rattle.pb_lease.proofs.GraphBasics.{setup_is}

pub tells_keep_moments : TellsKeepMoments
tells_keep_moments g recorded machine next worker cost k m tells = record {
  lawful = moves_keep_lawful (setup_in g) greatest_cost (tell_move worker cost) machine next (setup_is g k) m.lawful tells;
  counts = tells.counts ∙ m.counts;
  whole = others_keep_whole (setup_in g) machine.counts next.counts machine.store next.store (home_rows g.homes) recorded (ap (λ (c : Counts). c.leases) tells.counts) (ap (λ (s : Store). s.rows) tells.store) m.whole;
  keys = subst (λ (s : Store). HasKeys s (key_at g.homes)) (sym tells.store) m.keys;
  incumbent = λ other. known_stays (setup_in g) (tell_move worker cost ∷ []) machine next (next, tells, refl) other g.incumbent (m.incumbent other);
}

pub none_out_is_moment : NoneOutIsMoment
none_out_is_moment g recorded machine m home is = record {
  at = m;
  incumbent = is;
  untold = none_out_untold (setup_in g) machine m.lawful (ap (λ (c : Counts). is_any_out g.table.settings.workers c.leases) m.counts ∙ home);
}

none_own : (other : ℕ) (events : List Event) → events_of other events ≡ [] → AreOfOthers other (moves_of events)
none_own other [] none = tt
none_own other (event ∷ events) none = by_cases (is_event_of other event)
    (λ own. let bad : ◌≡◌ {A = List Event} (event ∷ events_of other events) [] = sym (ap (λ r. cond r (event ∷ events_of other events) (events_of other events)) own) ∙ none in cc)
    (λ own. (own, none_own other events (sym (ap (λ r. cond r (event ∷ events_of other events) (events_of other events)) own) ∙ none)))

pub events_leave_others : EventsLeaveOthers
events_leave_others worker other events by else = none_own other events (by other else)

-- ---- a cost that is taken

-- the lesser of two costs is known where both are
known_lesser : (known : Option ℕ → Bool) (incumbent : Option ℕ) (cost : ℕ) → IsTrue (known incumbent) → IsTrue (known (Some cost)) → IsTrue (known (lesser incumbent (Some cost)))
known_lesser known None cost first second = second
known_lesser known (Some incumbent) cost first second = by_cases (nat_lt cost incumbent)
    (λ e. let low = below cost incumbent e in let same : min incumbent cost ≡ cost = omega (arith, low) in subst (λ n. IsTrue (known (Some n))) (sym same) second)
    (λ e. let low = not_below cost incumbent e in let same : min incumbent cost ≡ incumbent = omega (arith, low) in subst (λ n. IsTrue (known (Some n))) (sym same) first)

-- with another incumbent it is still a graph
pub bounded_kept : (g : GraphValue) → IsLeaseGraph g → (incumbent : Option ℕ) → IsLeaseGraph (record g { incumbent = incumbent })
bounded_kept g k incumbent = record {
  is_task = k.is_task;
  suits = k.suits;
  graph_of = k.graph_of;
  legal = k.legal;
  places = k.places;
  key_places = k.key_places;
  home = k.home;
  weights = k.weights;
}

pub bound_taken : (g : GraphValue) (cost : ℕ) → LowersIncumbent g cost (record g { incumbent = lesser g.incumbent (Some cost) })
bound_taken g cost recorded machine m known = record {
  lawful = m.lawful;
  counts = m.counts;
  whole = m.whole;
  keys = m.keys;
  incumbent = λ worker. known_lesser (machine.known worker) g.incumbent cost (m.incumbent worker) (known worker);
}

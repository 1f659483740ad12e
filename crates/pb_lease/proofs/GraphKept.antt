-- What a lease, a renewal, a release and other events keep of a graph.
use Rattle.std.proofs.Common.{◌≡◌, ℕ, ◌<◌, Bool, true, cond, not, ◌&&◌, ◌||◌, is_some, is_none, List, [], ◌∷◌, ◌++◌, Option, Some, None, refl, sym, ap, ◌∙◌, arith, subst, length, get_or, append_assoc, true≢false}
use Rattle.std.specs.Option.{option_or}
use Rattle.pb_model.proofs.Callers.{by_cases, equal_self, none_found}
use Rattle.pb_machine.specs.declared.event.Event.{Event}
use Rattle.pb_machine.specs.declared.event.Event.TheVariants.{Lease, Renew, Release, Off}
use Rattle.pb_machine.specs.declared.event.Grant.{Grant}
use Rattle.pb_machine.specs.declared.settings.Settings.{Settings}
use Rattle.pb_machine.specs.Settings.{weight_of}
use Rattle.pb_machine.specs.Tables.{with_entry}
use Rattle.pb_machine.specs.Counts.{Counts, counts_after, with_quota}
use Rattle.pb_machine.specs.Legality.{refusal}
use Rattle.pb_machine.specs.History.{IsHistory}
use Rattle.pb_machine.proofs.Callers.{entry_here, histories_grow}
use Rattle.pb_abstract.specs.Graph.{AbstractGraph, IsGraphOf, blocks_of, has}
use Rattle.pb_lists.specs.Bundle.{Content}
use Rattle.pb_bundles.specs.Homes.{HomeTable, content_at}
use Rattle.pb_bundles.specs.Parts.{content_in}
use Rattle.pb_bundles.specs.Moves.{vacated, IsVacant}
use Rattle.pb_bundles.proofs.Callers.{vacated_length}
use Rattle.pb_lease.specs.declared.past.Past.{Past}
use Rattle.pb_lease.specs.Tables.{Table, blocks, counts_of}
use Rattle.pb_lease.specs.Events.{Adds, counts_along, ending}
use Rattle.pb_lease.specs.LeaseValue.{LeaseValue}
use Rattle.pb_lease.specs.Leased.{grant_of, FitsScopes}
use Rattle.pb_lease.specs.GraphValue.{GraphValue, counts_in, IsLeaseGraph, IsOfGraph}
use Rattle.pb_lease.proofs.EndKept.{reported_counts, reported_history}
use Rattle.pb_lease.proofs.GraphBasics.{lawful_in, known_block}
use Rattle.pb_lease.proofs.MomentReturns.{ending_leases, or_some, or_none}
use Rattle.pb_lease.proofs.Away.{away, away_at, more_away, same_away, brought_home, else_away}

-- ---- the journal

pub moved_history : (old new : Table) (events : List Event) → Adds old new events → IsHistory (blocks old) old.settings old.past.spent (old.journal ++ events) (counts_along (blocks old) old.settings (counts_of old) events)
    → IsHistory (blocks new) new.settings new.past.spent new.journal (counts_of new)
moved_history old new events adds history =
    subst (λ (g : AbstractGraph). IsHistory (blocks_of g) new.settings new.past.spent new.journal (counts_of new)) (sym adds.abstraction)
    (subst (λ (s : Settings). IsHistory (blocks old) s new.past.spent new.journal (counts_of new)) (sym adds.settings)
    (subst (λ (p : Past). IsHistory (blocks old) old.settings p.spent new.journal (counts_of new)) (sym adds.past)
    (subst (λ (j : List Event). IsHistory (blocks old) old.settings old.past.spent j (counts_of new)) (sym adds.journal)
    (subst (λ (c : Counts). IsHistory (blocks old) old.settings old.past.spent (old.journal ++ events) c) (sym adds.counts) history))))

pub one_more : (old new : Table) (event : Event) → Adds old new (event ∷ []) → IsHistory (blocks old) old.settings old.past.spent old.journal (counts_of old) → refusal (blocks old) old.settings (counts_of old) event ≡ None
    → IsHistory (blocks new) new.settings new.past.spent new.journal (counts_of new)
one_more old new event adds history may = moved_history old new (event ∷ []) adds (histories_grow (blocks old) old.settings old.past.spent old.journal event (counts_of old) history may)

-- an event, and the end that follows from want of memory, where one does
pub with_ending : (old new : Table) (event : Event) (memory : Bool) → Adds old new (event ∷ ending memory (counts_after (blocks old) old.settings (counts_of old) event).end)
    → IsHistory (blocks old) old.settings old.past.spent old.journal (counts_of old) → refusal (blocks old) old.settings (counts_of old) event ≡ None
    → (counts_after (blocks old) old.settings (counts_of old) event).trouble ≡ (memory && is_none (counts_after (blocks old) old.settings (counts_of old) event).end)
    → IsHistory (blocks new) new.settings new.past.spent new.journal (counts_of new)
with_ending old new event memory adds history may report =
    let after = counts_after (blocks old) old.settings (counts_of old) event in
    let first = histories_grow (blocks old) old.settings old.past.spent old.journal event (counts_of old) history may in
    let both = reported_history (blocks old) old.settings memory after (old.journal ++ event ∷ []) report first in
    moved_history old new (event ∷ ending memory after.end) adds
    (subst (λ (j : List Event). IsHistory (blocks old) old.settings old.past.spent j (counts_along (blocks old) old.settings after (ending memory after.end))) (append_assoc old.journal (event ∷ []) (ending memory after.end))
    (subst (IsHistory (blocks old) old.settings old.past.spent ((old.journal ++ event ∷ []) ++ ending memory after.end)) (sym (reported_counts (blocks old) old.settings memory after report)) both))

-- whether blocks are away, by the leases that are left
pub away_in : (old new : GraphValue) (events : List Event) (leases : ℕ → Option Grant) → Adds old.table new.table events → (counts_along (blocks old.table) old.table.settings (counts_in old) events).leases ≡ leases → (block : ℕ)
    → away (blocks new.table) new.table.settings.workers (counts_in new).leases block ≡ away (blocks old.table) old.table.settings.workers leases block
away_in old new events leases adds are block =
    ap (λ (g : AbstractGraph). away (blocks_of g) new.table.settings.workers (counts_in new).leases block) adds.abstraction
    ∙ ap (λ (s : Settings). away (blocks old.table) s.workers (counts_in new).leases block) adds.settings
    ∙ ap (λ (l : ℕ → Option Grant). away (blocks old.table) old.table.settings.workers l block) (ap (λ (c : Counts). c.leases) adds.counts ∙ are)

module _ (old : GraphValue) (k : IsLeaseGraph old) (table : Table) (homes : HomeTable) (incumbent : Option ℕ) (events : List Event) (adds : Adds old.table table events) where
  abbrev New : GraphValue
  New = record { task = old.task; choice = old.choice; table = table; homes = homes; incumbent = incumbent }

  count_same : (blocks table).count ≡ (blocks old.table).count
  count_same = ap (λ (g : AbstractGraph). (blocks_of g).count) adds.abstraction

  -- what the graph keeps, by what is at home and by the weights
  pub graph_kept : IsHistory (blocks table) table.settings table.past.spent table.journal (counts_of table) → length homes.bundles ≡ length old.homes.bundles → length homes.keys ≡ length old.homes.keys
      → ((block : ℕ) → block < (blocks old.table).count → is_some (content_at homes block) ≡ not (away (blocks table) table.settings.workers (counts_of table).leases block))
      → ((block : ℕ) (content : Content) → content_at homes block ≡ Some content → content.weight ≡ weight_of old.table.settings) → IsLeaseGraph New
  graph_kept legal places keys home weights = record {
    is_task = k.is_task;
    suits = k.suits;
    graph_of = subst (IsGraphOf old.task) (sym adds.abstraction) k.graph_of;
    legal = legal;
    places = places ∙ k.places ∙ sym count_same;
    key_places = keys ∙ k.key_places ∙ sym count_same;
    home = λ block lt. home block (omega (arith, lt, count_same));
    weights = λ block content is. weights block content is ∙ ap weight_of (sym adds.settings);
  }

  -- where no bundle moves and the scopes that are out stay
  pub numbers_kept : IsHistory (blocks table) table.settings table.past.spent table.journal (counts_of table) → homes.bundles ≡ old.homes.bundles → length homes.keys ≡ length old.homes.keys
      → ((block : ℕ) → away (blocks table) table.settings.workers (counts_of table).leases block ≡ away (blocks old.table) old.table.settings.workers (counts_in old).leases block)
      → IsLeaseGraph New
  numbers_kept legal same keys scopes = graph_kept legal (ap length same) keys
      (λ block lt. ap (λ (bs : List (Option Content)). is_some (get_or bs block None)) same ∙ k.home block lt ∙ ap not (sym (scopes block)))
      (λ block content is. k.weights block content (ap (λ (bs : List (Option Content)). get_or bs block None) (sym same) ∙ is))

-- ---- a lease

module _ (old : GraphValue) (k : IsLeaseGraph old) (worker block quota : ℕ) (table : Table) (homes : HomeTable) (adds : Adds old.table table (Lease worker block quota ∷ [])) where
  pub leased_kept : refusal (blocks old.table) old.table.settings (counts_in old) (Lease worker block quota) ≡ None → worker < old.table.settings.workers → (counts_in old).leases worker ≡ None
      → (scope : List ℕ) → ((c : ℕ) → has scope c ≡ (blocks old.table).scope block c) → homes ≡ record { bundles = vacated scope old.homes.bundles; keys = old.homes.keys }
      → ((c : ℕ) → content_at homes c ≡ cond (has scope c) None (content_at old.homes c))
      → IsLeaseGraph (record { task = old.task; choice = old.choice; table = table; homes = homes; incumbent = old.incumbent })
  leased_kept may inside vacant scope each left out =
      graph_kept old k table homes old.incumbent (Lease worker block quota ∷ []) adds (one_more old.table table (Lease worker block quota) adds k.legal may)
      (ap (λ (h : HomeTable). length h.bundles) left ∙ vacated_length scope old.homes.bundles) (ap (λ (h : HomeTable). length h.keys) left)
      (λ c lt. ap is_some (out c) ∙ by_cases (has scope c)
      (λ e. ap (λ r. is_some (cond r None (content_at old.homes c))) e ∙ ap not (sym (gone c ∙ ap (λ r. r || was c) (sym (each c) ∙ e))))
      (λ e. ap (λ r. is_some (cond r None (content_at old.homes c))) e ∙ k.home c lt ∙ ap not (sym (gone c ∙ ap (λ r. r || was c) (sym (each c) ∙ e)))))
      (λ c content is. by_cases (has scope c)
      (λ e. absurd (true≢false (sym (ap is_some (sym (out c ∙ ap (λ r. cond r None (content_at old.homes c)) e) ∙ is)))))
      (λ e. k.weights c content (sym (out c ∙ ap (λ r. cond r None (content_at old.homes c)) e) ∙ is)))
    where
      was : (c : ℕ) → Bool
      was c = away (blocks old.table) old.table.settings.workers (counts_in old).leases c

      gone : (c : ℕ) → away (blocks table) table.settings.workers (counts_of table).leases c ≡ ((blocks old.table).scope block c || was c)
      gone c = away_in old (record { task = old.task; choice = old.choice; table = table; homes = homes; incumbent = old.incumbent }) (Lease worker block quota ∷ []) (with_entry (counts_in old).leases worker (Some (record { block = block; quota = quota }))) adds refl c
          ∙ more_away (blocks old.table) old.table.settings.workers (counts_in old).leases worker (record { block = block; quota = quota }) c inside vacant

-- ---- events that change no lease

module _ (old : GraphValue) (k : IsLeaseGraph old) (table : Table) where
  pub event_kept : (event : Event) → Adds old.table table (event ∷ []) → refusal (blocks old.table) old.table.settings (counts_in old) event ≡ None
      → (counts_after (blocks old.table) old.table.settings (counts_in old) event).leases ≡ (counts_in old).leases
      → IsLeaseGraph (record { task = old.task; choice = old.choice; table = table; homes = old.homes; incumbent = old.incumbent })
  event_kept event adds may stays = numbers_kept old k table old.homes old.incumbent (event ∷ []) adds (one_more old.table table event adds k.legal may) refl refl
      (away_in old (record { task = old.task; choice = old.choice; table = table; homes = old.homes; incumbent = old.incumbent }) (event ∷ []) (counts_in old).leases adds stays)

  pub sign_off_kept : (worker : ℕ) (memory : Bool) → Adds old.table table (Off worker memory ∷ ending memory old.table.end) → refusal (blocks old.table) old.table.settings (counts_in old) (Off worker memory) ≡ None
      → IsLeaseGraph (record { task = old.task; choice = old.choice; table = table; homes = old.homes; incumbent = old.incumbent })
  sign_off_kept worker memory adds may = numbers_kept old k table old.homes old.incumbent (Off worker memory ∷ ending memory old.table.end) adds
      (with_ending old.table table (Off worker memory) memory adds k.legal may refl) refl refl
      (away_in old (record { task = old.task; choice = old.choice; table = table; homes = old.homes; incumbent = old.incumbent }) (Off worker memory ∷ ending memory old.table.end) (counts_in old).leases adds
      (ending_leases (blocks old.table) old.table.settings (counts_after (blocks old.table) old.table.settings (counts_in old) (Off worker memory)) memory old.table.end))

-- ---- a lease that comes back

module _ (old : GraphValue) (k : IsLeaseGraph old) (lease : LeaseValue) (of : IsOfGraph old lease) where
  -- the places of its bundles are vacant
  pub places_vacant : (block : ℕ) → is_some (content_in lease.parts block) ≡ true → IsVacant old.homes.bundles block
  places_vacant block there =
      let inside = sym (of.scope.blocks block) ∙ there in
      let known = known_block old k lease.block block inside in
      let gone = away_at (blocks old.table) old.table.settings.workers (counts_in old).leases lease.worker (grant_of lease) block ((lawful_in old k).known lease.worker (grant_of lease) of.leased).0 of.leased inside in
      (omega (arith, known, k.places), none_found (content_at old.homes block) (k.home block known ∙ ap not gone))

module _ (old : GraphValue) (k : IsLeaseGraph old) (lease : LeaseValue) (of : IsOfGraph old lease) (memory : Bool) (table : Table) (homes : HomeTable) (incumbent : Option ℕ)
    (adds : Adds old.table table (Release lease.worker lease.used memory ∷ ending memory old.table.end)) where
  pub released_kept : refusal (blocks old.table) old.table.settings (counts_in old) (Release lease.worker lease.used memory) ≡ None → length homes.bundles ≡ length old.homes.bundles → length homes.keys ≡ length old.homes.keys
      → ((block : ℕ) → content_at homes block ≡ option_or (content_in lease.parts block) (content_at old.homes block))
      → IsLeaseGraph (record { task = old.task; choice = old.choice; table = table; homes = homes; incumbent = incumbent })
  released_kept may places keys back =
      graph_kept old k table homes incumbent (Release lease.worker lease.used memory ∷ ending memory old.table.end) adds
      (with_ending old.table table (Release lease.worker lease.used memory) memory adds k.legal may refl) places keys
      (λ block lt. by_cases ((blocks old.table).scope lease.block block)
      (λ e. ap is_some (back block ∙ or_some (content_in lease.parts block) (content_at old.homes block) (of.scope.blocks block ∙ e)) ∙ of.scope.blocks block ∙ e
      ∙ ap not (sym (gone block ∙ brought_home (blocks old.table) old.table.settings.workers (counts_in old).leases lease.worker (grant_of lease) of.leased block
      (λ other second is different. (lawful_in old k).apart lease.worker other (grant_of lease) second of.leased is different) (known_block old k lease.block block) e)))
      (λ e. ap is_some (back block ∙ or_none (content_in lease.parts block) (content_at old.homes block) (of.scope.blocks block ∙ e)) ∙ k.home block lt
      ∙ ap not (sym (gone block ∙ else_away (blocks old.table) old.table.settings.workers (counts_in old).leases lease.worker (grant_of lease) of.leased block e))))
      (λ block content is. by_cases ((blocks old.table).scope lease.block block)
      (λ e. of.scope.weights block content (sym (or_some (content_in lease.parts block) (content_at old.homes block) (of.scope.blocks block ∙ e)) ∙ sym (back block) ∙ is) ∙ of.weight)
      (λ e. k.weights block content (sym (or_none (content_in lease.parts block) (content_at old.homes block) (of.scope.blocks block ∙ e)) ∙ sym (back block) ∙ is)))
    where
      gone : (block : ℕ) → away (blocks table) table.settings.workers (counts_of table).leases block ≡ away (blocks old.table) old.table.settings.workers (with_entry (counts_in old).leases lease.worker None) block
      gone = away_in old (record { task = old.task; choice = old.choice; table = table; homes = homes; incumbent = incumbent }) (Release lease.worker lease.used memory ∷ ending memory old.table.end) (with_entry (counts_in old).leases lease.worker None) adds
          (ending_leases (blocks old.table) old.table.settings (counts_after (blocks old.table) old.table.settings (counts_in old) (Release lease.worker lease.used memory)) memory old.table.end)

-- ---- a lease that goes on

module _ (old : GraphValue) (k : IsLeaseGraph old) (lease : LeaseValue) (of : IsOfGraph old lease) (quota : ℕ) (table : Table) (adds : Adds old.table table (Renew lease.worker lease.used quota ∷ [])) where
  pub renewed_kept : refusal (blocks old.table) old.table.settings (counts_in old) (Renew lease.worker lease.used quota) ≡ None → (incumbent : Option ℕ)
      → IsLeaseGraph (record { task = old.task; choice = old.choice; table = table; homes = old.homes; incumbent = incumbent })
  renewed_kept may incumbent = numbers_kept old k table old.homes incumbent (Renew lease.worker lease.used quota ∷ []) adds (one_more old.table table (Renew lease.worker lease.used quota) adds k.legal may) refl refl
      (λ block. away_in old (record { task = old.task; choice = old.choice; table = table; homes = old.homes; incumbent = incumbent }) (Renew lease.worker lease.used quota ∷ []) (with_entry (counts_in old).leases lease.worker (with_quota quota ((counts_in old).leases lease.worker))) adds refl block
      ∙ same_away (blocks old.table) old.table.settings.workers (counts_in old).leases lease.worker quota block)

  -- the lease is of the graph still, with its new quota
  pub still_of_graph : (kept : LeaseValue) → kept.worker ≡ lease.worker → grant_of kept ≡ record { block = lease.block; quota = quota } → kept.weight ≡ lease.weight → kept.choice ≡ lease.choice → kept.parts ≡ lease.parts → kept.fits ≡ lease.fits → kept.block ≡ lease.block
      → (homes : HomeTable) (incumbent : Option ℕ) → IsOfGraph (record { task = old.task; choice = old.choice; table = table; homes = homes; incumbent = incumbent }) kept
  still_of_graph kept worker grant weight choice parts fits block homes incumbent = record {
    leased = ap (counts_of table).leases worker ∙ ap (λ (c : Counts). c.leases lease.worker) adds.counts
        ∙ entry_here (counts_in old).leases lease.worker lease.worker (with_quota quota ((counts_in old).leases lease.worker)) (equal_self lease.worker)
        ∙ ap (with_quota quota) of.leased ∙ ap (λ (g : Grant). Some g) (sym grant);
    weight = weight ∙ of.weight ∙ ap weight_of (sym adds.settings);
    choice = choice ∙ of.choice;
    scope = record {
      blocks = λ b. ap (λ (ps : List (ℕ × Content)). is_some (content_in ps b)) parts ∙ of.scope.blocks b ∙ ap (λ n. (blocks old.table).scope n b) (sym block)
          ∙ ap (λ (g : AbstractGraph). (blocks_of g).scope kept.block b) (sym adds.abstraction);
      weights = λ b content is. of.scope.weights b content (ap (λ (ps : List (ℕ × Content)). content_in ps b) (sym parts) ∙ is) ∙ sym weight;
    };
    fits = subst (λ (g : AbstractGraph). FitsScopes g kept.fits) (sym adds.abstraction) (subst (FitsScopes old.table.abstraction) (sym fits) of.fits);
  }

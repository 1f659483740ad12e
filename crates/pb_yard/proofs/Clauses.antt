-- The clauses of the calls that hold the graph.
use Rattle.std.proofs.Common.{◌≡◌, ℕ, ◌-◌, ◌↔◌, ◌⊎◌, inl, inr, Bool, true, false, IsTrue, IsFalse, List, [], ◌∷◌, ◌++◌, length, drop, set, Option, Some, None, refl, sym, ap, ◌∙◌, subst, true≢false}
use Rattle.std.proofs.lemmas.List.{append-nil}
use lib.Seq.{drop-append_seam}
use mathlib.Core.Option.{some}
use lib.ListN.{get_elem?}
use Rattle.pb_turn.specs.Obligations.{LeaveKeeps, Stands}
use Rattle.pb_turn.proofs.Callers.{put_there}
use Rattle.pb_machine.specs.declared.event.End.{End}
use Rattle.pb_machine.specs.declared.event.Event.{Event}
use Rattle.pb_machine.specs.declared.event.Event.TheVariants.{Off}
use Rattle.pb_machine.specs.Tables.{with_entry, one_if}
use Rattle.pb_machine.specs.Views.{AreBy}
use Rattle.pb_machine.specs.Machine.{Move, journal_of}
use Rattle.pb_lease.specs.declared.answer.LeaseReply.{LeaseReply}
use Rattle.pb_lease.specs.declared.answer.LeaseReply.TheVariants.{Leased, NotYet, Over, Memory}
use Rattle.pb_lease.specs.declared.answer.Renewed.{Renewed}
use Rattle.pb_lease.specs.declared.answer.Renewed.TheVariants.{Kept, Given}
use Rattle.pb_lease.specs.declared.answer.SwitchReply.{SwitchReply}
use Rattle.pb_lease.specs.declared.answer.SwitchReply.TheVariants as switch
use Rattle.pb_machine.specs.Room.{room_with, rooms_after}
use Rattle.pb_lease.specs.Tables.{blocks, rooms}
use Rattle.pb_lease.specs.Events.{Adds, ending}
use Rattle.pb_lease.specs.LeaseValue.{LeaseValue}
use Rattle.pb_lease.specs.GraphValue.{GraphValue}
use Rattle.pb_lease.specs.Choices.{IsOver, IsToWait}
use Rattle.pb_lease.specs.Moments.{moves_of}
use Rattle.pb_lease.specs.Steps.{IsLeased, LeasesNext, IsEnded, end_events, KeepsLeases, IsMarked, GoesOn, ChoosesByRows, IsRenewed, RenewsNext, IsReleased, ReleasesNext, GoesOver, ComesBack, ChoosesAnyByRows, IsSwitched, SwitchesNext}
use Rattle.pb_yard.specs.declared.view.View.{View}
use Rattle.pb_yard.specs.Views.{cost_of, view_then, view_left, KeepsOrder}
use Rattle.pb_yard.specs.Order.{HasCause, HasStopped}
use Rattle.pb_yard.specs.Rule.{rows_of, YardFact, IsYard}
use Rattle.pb_yard.specs.Replies.{NoneMayBeLeased, LeasesAs, lease_events, lent_by, told_by, RenewsAs, renewal_events, kept_by, SwitchesAs, switch_moves, switched_by, ReleasesAs, release_events, ChangesMarkAs, mark_events, SignsOffAs, reported, off_events}
use Rattle.pb_yard.specs.Returning.{IsBrought}
use Rattle.pb_yard.specs.Calls.{HoldsBy, Looks}
use Rattle.pb_yard.proofs.InTime.{GrantsNone, end_grants_none, ending_rooms, end_rooms}
use Rattle.pb_yard.proofs.Holding.{holding_keeps}
use Rattle.pb_yard.proofs.Steps.{Steps, StepsBy, AreTimely, plain_timely, off_timely, report_free, MayReturn, may_cause, keeps_step, lease_step, release_step, renew_step, switch_step, brought_of_graph, same_rest, first_by, end_by, ending_by}
use Rattle.pb_yard.proofs.Asks.{begins}
use Rattle.pb_yard.proofs.Causes.{none_here, back_stays_not}

abbrev pub Fact : GraphValue → ℕ → List View → Type 0
Fact = YardFact

-- whatever the others know, the graph may go from x to y so, by these moves with these events, and
-- the pass then has this lease and has told this cost
abbrev pub MayGoBy : (x y : GraphValue) → (v : View) → v.journal.is_live ≡ true → List Event → List Move → Option LeaseValue → Option ℕ → Type 0
MayGoBy x y v live events made lent told =
    (number : ℕ) (views : List View) (seat : ℕ) (h : Fact x number views) (at : get_elem? views seat ≡ some v) → StepsBy x y (cost_of number) views seat v h at live events made lent told (cost_of number)

abbrev pub MayGo : (x y : GraphValue) → (v : View) → v.journal.is_live ≡ true → List Event → Option LeaseValue → Option ℕ → Type 0
MayGo x y v live events lent told = MayGoBy x y v live events (moves_of events) lent told

-- the rule holds of x where it holds of the graph f that was found, and both have the same journal
abbrev pub MayTake : (f x : GraphValue) → (v : View) → Type 0
MayTake f x v = (x.table.journal ≡ f.table.journal) × ((number : ℕ) (views : List View) (seat : ℕ) → Fact f number views → get_elem? views seat ≡ some v → Fact x number views)

-- where the graph is as it was found
pub takes_none : (x : GraphValue) (v : View) → MayTake x x v
takes_none x v = (refl, λ number views seat h at. h)

module _ (f x y : GraphValue) (v : View) (live : v.journal.is_live ≡ true) (take : MayTake f x v) (list : GraphValue → List Event) (made : GraphValue → List Move) (lent : Option LeaseValue) (told : Option ℕ) (may : MayGoBy x y v live (list x) (made x) lent told) where
  left_is : y.table.journal ≡ x.table.journal ++ list x → view_left f y lent told v ≡ view_then x.table.journal (list x) lent told v
  left_is added = ap (λ (j : List Event). view_then j (drop (length j) y.table.journal) lent told v) (sym take.0) ∙ ap (λ events. view_then x.table.journal events lent told v) (ap (drop (length x.table.journal)) added ∙ drop-append_seam x.table.journal (list x))

  pub leave_keeps : (seat : ℕ) → LeaveKeeps Fact seat v f y (view_left f y lent told v)
  leave_keeps seat number views found at =
      let h = take.1 number views seat found at in
      let t = may number views seat h at in
      subst (λ (u : View). IsYard y (cost_of number) (set views seat u)) (sym (left_is t.1.added))
      (holding_keeps x y (cost_of number) (cost_of number) views seat v (list x) (made x) lent told h at live t.0 t.1 t.2).0

  pub holds : (seat : ℕ) → Stands Fact seat v f → (step : GraphValue → GraphValue → Type 0) → step x y → HoldsBy step list made v lent told (view_left f y lent told v)
  holds seat (number, (views, found, at)) step is =
      let h = take.1 number views seat found at in
      let t = may number views seat h at in
      let after = holding_keeps x y (cost_of number) (cost_of number) views seat v (list x) (made x) lent told h at live t.0 t.1 t.2 in
      subst (λ (u : View). HoldsBy step list made v lent told u) (sym (left_is t.1.added)) record {
        found = x;
        left = y;
        before = record { shared = cost_of number; seat = seat; views = views; yard = h; mine = at };
        after = record { shared = cost_of number; seat = seat; views = set views seat (view_then x.table.journal (list x) lent told v); yard = after.0; mine = put_there views seat v (view_then x.table.journal (list x) lent told v) at };
        seen = begins x (cost_of number) views seat v h at live;
        step_is = is;
        added = t.1.added;
        events_are = t.1.events_are;
        moves = after.1;
        view = refl;
      }

  -- the pass has seen the whole journal then
  pub seen_is : (seat : ℕ) → Stands Fact seat v f → (view_left f y lent told v).journal.seen ≡ y.table.journal
  seen_is seat (number, (views, found, at)) = let t = may number views seat (take.1 number views seat found at) at in ap (λ (u : View). u.journal.seen) (left_is t.1.added) ∙ sym t.1.added

-- The same for a call that takes no reading and leaves the pass its lease: the pass entered with its view as it was.
module _ (x y : GraphValue) (v : View) (live : v.journal.is_live ≡ true) (list : GraphValue → List Event) (may : MayGo x y v live (list x) v.lent v.told) (entered : View) (same : entered ≡ v) where
  abbrev AsLeft : View → View
  AsLeft u = view_left x y u.lent u.told u

  pub look_keeps : (seat : ℕ) → LeaveKeeps Fact seat entered x y (AsLeft entered)
  look_keeps seat = subst (λ (u : View). LeaveKeeps Fact seat u x y (AsLeft u)) (sym same) (leave_keeps x x y v live (takes_none x v) list (λ g. moves_of (list g)) v.lent v.told may seat)

  module _ (new : View) (left : new ≡ AsLeft entered) (seat : ℕ) (stands : Stands Fact seat v x) where
    left_as : new ≡ AsLeft v
    left_as = left ∙ ap AsLeft same

    pub look_holds : (step : GraphValue → GraphValue → Type 0) → step x y → Looks step list v new
    look_holds step is = subst (λ (u : View). Looks step list v u) (sym left_as) (holds x x y v live (takes_none x v) list (λ g. moves_of (list g)) v.lent v.told may seat stands step is)

    pub look_seen : length new.journal.seen ≡ length y.table.journal
    look_seen = ap (λ (u : View). length u.journal.seen) left_as ∙ ap length (seen_is x x y v live (takes_none x v) list (λ g. moves_of (list g)) v.lent v.told may seat stands)

-- ---- the calls, by what the graph does

-- nothing
nothing : (x : GraphValue) → KeepsLeases x [] x
nothing x recorded machine m = (machine, record { setup = refl; moves = refl; moment = m }, (refl, refl, refl, refl, refl), refl, refl)

module _ (x y : GraphValue) (v : View) (live : v.journal.is_live ≡ true) where
  abbrev Own : ℕ
  Own = v.journal.own.worker

  pub stays : y ≡ x → MayGo x y v live [] v.lent v.told
  stays is number views seat h at = subst (λ (z : GraphValue). Steps x z (cost_of number) views seat v h at live [] v.lent v.told (cost_of number)) (sym is)
      (keeps_step x x (cost_of number) views seat v h at live [] (plain_timely x [] tt) refl (nothing x) record { task = refl; abstraction = refl; choice = refl; settings = refl; past = refl } (sym (append-nil x.table.journal)) (λ other else. refl))

  -- all but the tables stay
  pub keeps : (events : List Event) → AreTimely x events → rooms_after (rooms x.table) (moves_of events) ≡ rooms y.table → Adds x.table y.table events → y ≡ record x { table = y.table } → KeepsLeases x events y → AreBy Own events → MayGo x y v live events v.lent v.told
  keeps events timely room adds rest k by number views seat h at = keeps_step x y (cost_of number) views seat v h at live events timely room k (same_rest x y events adds rest) adds.journal by

  pub may_lease : x.incumbent ≡ v.last → v.read_at ≡ Some (length x.table.journal) → (reply : LeaseReply) → LeasesAs Own reply x y → MayGo x y v live (lease_events Own reply x) (lent_by reply v.lent) (told_by reply v.told)
  may_lease is_last read_at (Leased lease) is = λ number views seat h at. lease_step x y (cost_of number) views seat v h at live lease is_last read_at is.0 is.1
  may_lease is_last read_at NotYet is = stays is.2
  may_lease is_last read_at (Over end) is = keeps (end_events x.table.end end) (plain_timely x (end_events x.table.end end) (end_grants_none x.table.end end)) (end_rooms (rooms x.table) x.table.end end ∙ sym is.1.room) is.1.events is.1.rest is.2 (end_by Own x.table.end end)
  may_lease is_last read_at Memory is = stays is.2

  pub may_renew : x.incumbent ≡ v.last → v.read_at ≡ Some (length x.table.journal) → (lease : LeaseValue) (reply : Renewed) → (KeepsOrder v → lease.used ≡ lease.quota) → length x.homes.keys ≡ (blocks x.table).count → IsBrought v 0 lease → RenewsAs lease reply x y → MayGo x y v live (renewal_events lease reply) (kept_by reply) None
  may_renew is_last read_at lease (Kept kept) spent places b is number views seat h at = renew_step x y (cost_of number) views seat v h at live lease kept spent places b is_last read_at is.1 is.0 is.3
  may_renew is_last read_at lease Given spent places b is number views seat h at =
      release_step x y (cost_of number) views seat v h at live lease false (λ order. inr (spent order, places, is.0)) b is_last is.1 is.3

  -- a lease that goes on has a row of its block that is Opened, so its quota is used up
  pub may_switch : x.incumbent ≡ v.last → v.read_at ≡ Some (length x.table.journal) → (lease : LeaseValue) (reply : SwitchReply) → (KeepsOrder v → HasStopped lease) → length x.homes.keys ≡ (blocks x.table).count → IsBrought v 0 lease → SwitchesAs lease reply x y
      → MayGoBy x y v live (journal_of (switch_moves lease reply)) (switch_moves lease reply) (switched_by reply) None
  may_switch is_last read_at lease (switch.Kept kept) cause places b is number views seat h at =
      renew_step x y (cost_of number) views seat v h at live lease kept (λ order. spent (cause order)) places b is_last read_at is.1 is.0 is.3
    where
      spent : HasStopped lease → lease.used ≡ lease.quota
      spent (inl used) = used
      spent (inr none) = absurd (true≢false (sym is.0.0.0.1 ∙ none_here x lease y is.1.noted h.is_setup
          (brought_of_graph x x (cost_of number) views seat v h at live 0 lease b) (λ w. rows_of (h.lent w)) h.machine h.moment none))
  may_switch is_last read_at lease (switch.Switched next) cause places b is number views seat h at =
      switch_step x y (cost_of number) views seat v h at live lease next cause places b is_last read_at is.0 is.1 is.3
  may_switch is_last read_at lease switch.Given cause places b is number views seat h at = release_step x y (cost_of number) views seat v h at live lease false (λ order. why (cause order)) b is_last is.1 is.3
    where
      why : HasStopped lease → MayReturn x y lease false
      why (inl used) = inr (used, places, back_stays_not x lease y is.0)
      why (inr none) = inl none

  pub may_release : x.incumbent ≡ v.last → (lease : LeaseValue) (memory : Bool) → (KeepsOrder v → HasCause lease memory) → IsBrought v (one_if memory) lease → ReleasesAs lease memory x y → MayGo x y v live (release_events lease memory x) None None
  may_release is_last lease memory cause b is number views seat h at = release_step x y (cost_of number) views seat v h at live lease memory (λ order. may_cause x y lease memory (cause order)) b is_last is.0 is.1

  pub may_mark : (may : Type 0) (event : Event) (done : Bool) → GrantsNone (event ∷ []) → ((room : ℕ → ℕ) → room_with room event ≡ with_entry room Own (room Own - 1)) → AreBy Own (event ∷ []) → ChangesMarkAs may Own event done x y → MayGo x y v live (mark_events event done) v.lent v.told
  may_mark may event true none takes by is = keeps (event ∷ []) (plain_timely x (event ∷ []) none) (takes (rooms x.table) ∙ sym is.1.room) is.1.events is.1.rest is.2 by
  may_mark may event false none takes by is = stays is.1

  pub may_sign_off : (memory : Bool) → SignsOffAs Own memory x y → MayGo x y v live (off_events Own memory x) v.lent v.told
  may_sign_off memory is =
      let report = reported memory x.table.end in
      keeps (off_events Own memory x) (off_timely x Own report (report_free memory x.table.end)) (ending_rooms (rooms x.table) report x.table.end ∙ sym is.0.room) is.0.events is.0.rest is.1
      (first_by Own (Off Own report) (ending report x.table.end) (λ other. refl) (ending_by Own report x.table.end))

-- ---- the replies of the graph, by cases

module _ (x y : GraphValue) where
  pub leases_as : (worker : ℕ) (reply : LeaseReply) → ((lease : LeaseValue) → reply ≡ Leased lease → IsLeased x worker lease y) → ((reply ≡ NotYet) ↔ IsToWait x) → ((end : End) → (reply ≡ Over end) ↔ IsOver x end)
      → ((end : End) → reply ≡ Over end → IsEnded x end y) → ((reply ≡ NotYet) ⊎ (reply ≡ Memory) → y ≡ x) → ((lease : LeaseValue) → reply ≡ Leased lease → LeasesNext x lease y)
      → ((end : End) → reply ≡ Over end → KeepsLeases x (end_events x.table.end end) y) → (reply ≡ NotYet → NoneMayBeLeased x) → LeasesAs worker reply x y
  leases_as worker (Leased lease) leased wait over ended same leases_next ended_moment none = (leased lease refl, leases_next lease refl)
  leases_as worker NotYet leased wait over ended same leases_next ended_moment none = (wait.0 refl, none refl, same (inl refl))
  leases_as worker (Over end) leased wait over ended same leases_next ended_moment none = ((over end).0 refl, ended end refl, ended_moment end refl)
  leases_as worker Memory leased wait over ended same leases_next ended_moment none =
      (λ w. absurd (let e : ◌≡◌ {A = LeaseReply} Memory NotYet = wait.1 w in cc), λ end w. absurd (let e : ◌≡◌ {A = LeaseReply} Memory (Over end) = (over end).1 w in cc), same (inr refl))

  pub renews_as : (lease : LeaseValue) (reply : Renewed) → ((kept : LeaseValue) → reply ≡ Kept kept → GoesOn x lease y × IsRenewed x lease kept y) → (reply ≡ Given → (GoesOn x lease y → ⊥) × IsReleased x lease false y)
      → ChoosesByRows x lease y → ((kept : LeaseValue) → reply ≡ Kept kept → RenewsNext x lease kept y) → (reply ≡ Given → ReleasesNext x lease false y) → RenewsAs lease reply x y
  renews_as lease (Kept kept) is given first next home = let k = is kept refl in (k.0, k.1, first, next kept refl)
  renews_as lease Given is given first next home = let k = given refl in (k.0, k.1, first, home refl)

  pub switches_as : (lease : LeaseValue) (reply : SwitchReply) → ((kept : LeaseValue) → reply ≡ switch.Kept kept → GoesOn x lease y × IsRenewed x lease kept y) → ((next : LeaseValue) → reply ≡ switch.Switched next → GoesOver x lease y next.block × IsSwitched x lease next y)
      → ((reply ≡ switch.Given) ↔ ComesBack x lease y) → (reply ≡ switch.Given → IsReleased x lease false y) → ChoosesAnyByRows x lease y → ((kept : LeaseValue) → reply ≡ switch.Kept kept → RenewsNext x lease kept y)
      → ((next : LeaseValue) → reply ≡ switch.Switched next → SwitchesNext x lease next y) → (reply ≡ switch.Given → ReleasesNext x lease false y) → SwitchesAs lease reply x y
  switches_as lease (switch.Kept kept) is over back given first next switched home = let k = is kept refl in (k.0, k.1, first, next kept refl)
  switches_as lease (switch.Switched other) is over back given first next switched home = let k = over other refl in (k.0, k.1, first, switched other refl)
  switches_as lease switch.Given is over back given first next switched home = (back.0 refl, given refl, first, home refl)

  pub marks_as : (may : Type 0) (worker : ℕ) (event : Event) (done : Bool) → (IsTrue done ↔ may) → (IsTrue done → IsMarked x worker event y) → (IsFalse done → y ≡ x) → (IsTrue done → KeepsLeases x (event ∷ []) y)
      → ChangesMarkAs may worker event done x y
  marks_as may worker event true answer marked refused moment = (answer.0 refl, marked refl, moment refl)
  marks_as may worker event false answer marked refused moment = (λ m. absurd (let e : false ≡ true = answer.1 m in cc), refused refl)

-- What moves of others leave, and which recorded rows count.
use Rattle.std.proofs.Common.{◌≡◌, ◌==◌, ℕ, ◌<◌, true, false, is_some, [], ◌∷◌, Option, Some, None, refl, sym, ap, ◌∙◌, true≢false}
use Rattle.pb_model.proofs.Callers.{equal_swap}
use Rattle.pb_machine.specs.declared.event.End.TheVariants.{Quiet, Budget, Memory}
use Rattle.pb_machine.specs.declared.event.Event.{Event}
use Rattle.pb_machine.specs.declared.event.Event.TheVariants.{Lease, Renew, Hot, Cold, Release, Off, Ended}
use Rattle.pb_machine.specs.declared.event.Grant.{Grant}
use Rattle.pb_machine.specs.Tables.{with_entry}
use Rattle.pb_machine.specs.Counts.{Counts, with_quota}
use Rattle.pb_machine.specs.History.{is_event_of}
use Rattle.pb_machine.specs.Machine.{Setup, Machine, Happens, Tells, KeepsRows, Move, event_move, tell_move, switch_move, Moves, is_move_of}
use Rattle.pb_machine.specs.Laws.{OthersAreLeft, RecordedWhereLeased, NoneOutUntold}
use Rattle.pb_machine.proofs.TableLaws.{entry_else, any_none}

module _ (setup : Setup) (m n : Machine) (worker : ℕ) where
  abbrev Left : Type 0
  Left = (n.counts.leases worker ≡ m.counts.leases worker) × (n.given worker ≡ m.given worker) × (n.told worker ≡ m.told worker)

  else_here : {A : Type 0} → (old new : ℕ → A) (by : ℕ) (value : A) → (by == worker) ≡ false → new ≡ with_entry old by value → new worker ≡ old worker
  else_here {A} old new by value e is = ap (λ (f : ℕ → A). f worker) is ∙ entry_else old by worker value (equal_swap worker by ∙ e)

  rows_left : n.counts.leases ≡ m.counts.leases → KeepsRows m n → Left
  rows_left leases rows = (ap (λ (f : ℕ → Option Grant). f worker) leases, ap (λ (f : ℕ → Option ℕ). f worker) rows.1, ap (λ (f : ℕ → Option ℕ). f worker) rows.2)

  event_left : (e : Event) → Happens setup m e n → is_event_of worker e ≡ false → Left
  event_left (Lease by block quota) h e = (
    else_here m.counts.leases n.counts.leases by (Some (record { block = block; quota = quota })) e (ap (λ (c : Counts). c.leases) h.counts),
    else_here m.given n.given by h.rows.2.0 e h.rows.2.2,
    else_here m.told n.told by None e h.rows.3,
  )
  event_left (Renew by used quota) h e = (
    else_here m.counts.leases n.counts.leases by (with_quota quota (m.counts.leases by)) e (ap (λ (c : Counts). c.leases) h.counts),
    else_here m.given n.given by h.rows.1.0 e h.rows.1.2,
    else_here m.told n.told by None e h.rows.2,
  )
  event_left (Hot by block) h e = rows_left (ap (λ (c : Counts). c.leases) h.counts) h.rows.1
  event_left (Cold by block) h e = rows_left (ap (λ (c : Counts). c.leases) h.counts) h.rows
  event_left (Release by used false) h e = (
    else_here m.counts.leases n.counts.leases by None e (ap (λ (c : Counts). c.leases) h.counts),
    ap (λ (f : ℕ → Option ℕ). f worker) h.rows.1,
    else_here m.told n.told by None e h.rows.2,
  )
  event_left (Release by used true) h e = (
    else_here m.counts.leases n.counts.leases by None e (ap (λ (c : Counts). c.leases) h.counts),
    ap (λ (f : ℕ → Option ℕ). f worker) h.rows.1,
    else_here m.told n.told by None e h.rows.2,
  )
  event_left (Off by memory) h e = rows_left (ap (λ (c : Counts). c.leases) h.counts) h.rows
  event_left (Ended Quiet) h e = rows_left (ap (λ (c : Counts). c.leases) h.counts) h.rows.1
  event_left (Ended Budget) h e = rows_left (ap (λ (c : Counts). c.leases) h.counts) h.rows.1
  event_left (Ended Memory) h e = rows_left (ap (λ (c : Counts). c.leases) h.counts) h.rows

  tell_left : (by cost : ℕ) → Tells setup m by cost n → (by == worker) ≡ false → Left
  tell_left by cost tells e = (
    ap (λ (c : Counts). c.leases worker) tells.counts,
    ap (λ (f : ℕ → Option ℕ). f worker) tells.given,
    else_here m.told n.told by _ e tells.told,
  )

left_twice : (setup : Setup) (m between n : Machine) (worker : ℕ) → Left setup m between worker → Left setup between n worker → Left setup m n worker
left_twice setup m between n worker first later = (later.0 ∙ first.0, later.1 ∙ first.1, later.2 ∙ first.2)

move_left : (setup : Setup) (m n : Machine) (worker : ℕ) (move : Move) → Moves setup m move n → is_move_of worker move ≡ false → Left setup m n worker
move_left setup m n worker (event_move event) moved e = event_left setup m n worker event moved e
move_left setup m n worker (tell_move by cost) moved e = tell_left setup m n worker by cost moved e
move_left setup m n worker (switch_move by used block quota) moved e =
    left_twice setup m moved.0 n worker (event_left setup m moved.0 worker (Release by used false) moved.1 e) (event_left setup moved.0 n worker (Lease by block quota) moved.2 e)

pub others_are_left : OthersAreLeft
others_are_left setup [] old new worker runs are =
    (ap (λ (q : Machine). q.counts.leases worker) runs, ap (λ (q : Machine). q.given worker) runs, ap (λ (q : Machine). q.told worker) runs)
others_are_left setup (move ∷ moves) old new worker runs are =
    let first = move_left setup old runs.0 worker move runs.1 are.0 in
    left_twice setup old runs.0 new worker first (others_are_left setup moves runs.0 new worker runs.2 are.1)

pub recorded_where_leased : RecordedWhereLeased
recorded_where_leased setup counts store home recorded other same whole = record {
  home_rows = whole.home_rows;
  none_kept = whole.none_kept;
  recorded_rows = λ worker grant is block state inside. whole.recorded_rows worker grant is block state inside ∙ (λ i. sym (same worker grant is) i block state);
  none_else = λ worker grant is block state gone. (λ i. same worker grant is i block state) ∙ whole.none_else worker grant is block state gone;
}

pub none_out_untold : NoneOutUntold
none_out_untold setup machine lawful out worker = go (machine.told worker) refl
  where
    go : (o : Option ℕ) → machine.told worker ≡ o → o ≡ None
    go None is = refl
    go (Some cost) is =
        let teller = lawful.teller worker cost is in
        let there : worker < setup.settings.workers = (lawful.counts.known worker teller.0.0 teller.0.1).0 in
        absurd (true≢false (sym (ap is_some teller.0.1) ∙ any_none setup.settings.workers worker (λ k. is_some (machine.counts.leases k)) out there))

-- The incumbent of a yard, as a worker watches it while it works.
use Rattle.std.proofs.Common.{◌≡◌, ℕ, true, Option, Some, None, refl, sym, arith, subst}
use Rattle.pb_model.specs.Store.{AtMost}
use Rattle.pb_model.proofs.Callers.{lesser_at_most}
use Rattle.pb_machine.proofs.Callers.{lease_work_stays}
use Rattle.pb_task.specs.Parts.{space_of}
use Rattle.pb_lease.specs.LeaseValue.{LeaseValue, leased_store}
use Rattle.pb_lease.specs.Leased.{guide_of}
use Rattle.pb_expand.specs.Watching.{MayTell, HasRead, HasTold}
use Rattle.pb_yard.specs.declared.view.View.{View}
use Rattle.pb_yard.specs.Views.{view_read, view_told}
use Rattle.pb_yard.specs.Rule.{was_read}
use Rattle.pb_yard.specs.Returning.{IsFound}
use Rattle.pb_yard.proofs.Callers.{more_read, reads_it}
use Rattle.pb_workers.specs.Watching.{watch_view, KeepsLease}

-- ---- a reading

pub reads : (v new : View) (read : Option ℕ) → AtMost read v.last → new ≡ view_read None v read → HasRead (watch_view v) read (watch_view new)
reads v new read falls is = subst (λ (u : View). HasRead (watch_view v) read (watch_view u)) (sym is) record {
  kept = record { others = refl; knows = λ incumbent has. more_read None v read incumbent has; falls = falls };
  told = refl;
  read = λ cost read_is. reads_it None v read cost read_is;
  least = refl;
  answers = refl;
}

pub still_after_read : (v new : View) (read : Option ℕ) → new ≡ view_read None v read → KeepsLease v new
still_after_read v new read is = subst (λ (u : View). KeepsLease v u) (sym is) record { journal = refl; lent = refl; task = refl; abstraction = refl; choice = refl; settings = refl; begin = refl; left_order = refl }

-- ---- a lowering

pub may_lower : (v : View) (lease : LeaseValue) (cost : ℕ) → MayTell (watch_view v) lease cost → IsFound v lease cost
may_lower v lease cost may =
    let from = may.watched.from in
    record {
      lent = from.lent;
      lent_is = from.lent_is;
      same = from.same;
      work = (lease_work_stays (space_of v.task) (guide_of v.task v.abstraction v.choice) from.lent.block lease.used 0 1 (was_read v) (was_read v) (leased_store from.lent) (leased_store lease) from.work (omega arith) (λ incumbent has. has)).0;
      shown = may.goal;
    }

read_still : (v : View) (cost : ℕ) (incumbent : Option ℕ) → was_read v incumbent ≡ true → was_read (view_told v cost) incumbent ≡ true
read_still v cost None has = has
read_still v cost (Some other) has = has

pub tells : (v new : View) (cost : ℕ) → new ≡ view_told v cost → HasTold (watch_view v) cost (watch_view new)
tells v new cost is = subst (λ (u : View). HasTold (watch_view v) cost (watch_view u)) (sym is) record {
  kept = record { others = refl; knows = λ incumbent has. read_still v cost incumbent has; falls = lesser_at_most v.last (Some cost) };
  told = refl;
  least = refl;
  answers = refl;
}

pub still_after_telling : (v new : View) (cost : ℕ) → new ≡ view_told v cost → KeepsLease v new
still_after_telling v new cost is = subst (λ (u : View). KeepsLease v u) (sym is) record { journal = refl; lent = refl; task = refl; abstraction = refl; choice = refl; settings = refl; begin = refl; left_order = refl }

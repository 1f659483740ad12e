-- A machine that is opened again with another weight.
use Rattle.std.proofs.Common.{true≢false, ◌≡◌, ℕ, false, [], ◌∷◌, ◌++◌, Option, Some, None, refl, sym, ap, subst, inl, arith}
use Rattle.pb_model.specs.Weight.{Weight, IsWeight}
use Rattle.pb_model.specs.Store.{Store, AtMost}
use Rattle.pb_model.specs.Work.{reopen, store_after, opening_store}
use Rattle.pb_model.proofs.Callers.{work_goes_on, reopens_append, at_most_self}
use Rattle.pb_machine.specs.declared.event.End.{End}
use Rattle.pb_machine.specs.declared.event.End.TheVariants.{Quiet, Budget, Memory}
use Rattle.pb_machine.specs.Counts.{quota_of, is_any_out}
use Rattle.pb_machine.specs.Machine.{Setup, IsSetup, Machine}
use Rattle.pb_machine.specs.Lawful.{broken_leases, IsLawful, reopened_machine, reopened_setup}
use Rattle.pb_machine.specs.Laws.{ReopeningIsLawful}
use Rattle.pb_machine.proofs.TableLaws.{sum_zero}
use Rattle.pb_machine.proofs.CountsLaws.{opening_lawful}
use Rattle.pb_machine.proofs.Moments.{goal_still}
use Rattle.pb_machine.proofs.Known.{same_is, same_self}
use Rattle.pb_machine.proofs.MomentLaws.{none_leased_at, shown, none_broken_at}

module _ (p : Setup) (greatest_cost : ℕ) (is_setup : IsSetup p greatest_cost) where
  -- the machine opened again with another weight, at a quiet end
  pub reopening_keeps : (x : Weight) (m : Machine) → IsLawful p m → m.counts.end ≡ Some Quiet → IsWeight x → IsLawful (reopened_setup p x) (reopened_machine p x m)
  reopening_keeps x m l quiet heavy =
      let opening : Store = opening_store p.space p.guide l.reached.first_weight in
      let again : Store = store_after p.space p.guide (reopen x) m.store in
      let all = work_goes_on p.space p.guide l.reached.works (reopen x ∷ []) opening m.store again l.reached.comes (heavy, refl) in
      record {
        counts = opening_lawful p.blocks (reopened_setup p x).settings m.counts.spent (omega (arith, l.counts.sum));
        reached = record {
          first_weight = l.reached.first_weight;
          is_weight = l.reached.is_weight;
          works = l.reached.works ++ reopen x ∷ [];
          comes = all.0;
          spent = omega (arith, all.1, l.reached.spent);
          broken = omega (arith, all.2, l.reached.broken, whole);
          reopened = omega (arith, all.4, l.reached.reopened);
          between = reopens_append p.space p.guide l.reached.works (reopen x ∷ []) opening m.store l.reached.comes l.reached.between (l.quiet quiet, tt);
          read = λ first. absurd (omega (arith, first));
        };
        weight = refl;
        is_known = λ k. same_self m.store.incumbent;
        least = λ k o h. subst (λ (v : Option ℕ). AtMost m.store.incumbent v) (sym (same_is o m.store.incumbent h)) (at_most_self m.store.incumbent);
        given = λ i. same_self m.store.incumbent;
        backed = λ u is. inl (goal_still p greatest_cost is_setup (reopen x ∷ []) m.store (store_after p.space p.guide (reopen x) m.store) u (heavy, refl) (shown p greatest_cost is_setup m u out l (l.backed u is)));
        teller = λ i u (is : ◌≡◌ {A = Option ℕ} None (Some u)). cc;
        told = λ i u (is : ◌≡◌ {A = Option ℕ} None (Some u)). cc;
        quiet = λ (e : ◌≡◌ {A = Option End} None (Some Quiet)). cc;
        budget = λ (e : ◌≡◌ {A = Option End} None (Some Budget)). cc;
        reported = record { released = λ k e. absurd (true≢false (sym e)); waiting = λ h. absurd (true≢false (sym h)); ended = λ (e : ◌≡◌ {A = Option End} None (Some Memory)). cc };
      }
    where
      out : is_any_out p.settings.workers m.counts.leases ≡ false
      out = l.counts.quiet quiet

      whole : broken_leases p m ≡ 0
      whole = none_broken_at p m Quiet l quiet (λ (bad : Quiet ≡ Memory). cc)

  -- nothing is out at a quiet end, so what the budget has beyond what was spent is left
  left_stays : (x : Weight) (m : Machine) → IsLawful p m → m.counts.end ≡ Some Quiet → (reopened_machine p x m).counts.left ≡ m.counts.left
  left_stays x m l quiet =
      let none = sum_zero p.settings.workers (λ i. quota_of (m.counts.leases i)) (λ i lt. ap quota_of (none_leased_at p greatest_cost is_setup m (l.counts.quiet quiet) i lt)) in
      omega (arith, l.counts.sum, none)

pub reopening_is_lawful : ReopeningIsLawful
reopening_is_lawful setup greatest_cost weight machine is l quiet heavy =
    (record { space = is.space; blocks = is.blocks; weight = heavy }, reopening_keeps setup greatest_cost is weight machine l quiet heavy, left_stays setup greatest_cost is weight machine l quiet, refl)

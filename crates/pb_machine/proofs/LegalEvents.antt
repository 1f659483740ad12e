-- Events that may come: those that follow from the choice of a block, and the others.
use Rattle.std.proofs.Common.{◌≡◌, ℕ, zero, suc, ◌<◌, ◌≤◌, min, Bool, true, false, cond, not, ◌&&◌, ◌||◌, ◌==◌, nat_lt, is_some, is_none, List, [], ◌∷◌, Option, Some, None, true≢false, refl, sym, ap, ◌∙◌, arith, subst}
use Rattle.std.specs.List.{AllByRecursion}
use Rattle.std.proofs.lemmas.Bool.Decides.{nat_tests}
use Rattle.pb_model.proofs.Callers.{by_cases, equal_self, or_false}
use Rattle.pb_machine.specs.declared.event.End.{End}
use Rattle.pb_machine.specs.declared.event.End.TheVariants.{Quiet, Budget, Memory}
use Rattle.pb_machine.specs.declared.event.Event.{Event}
use Rattle.pb_machine.specs.declared.event.Event.TheVariants.{Lease, Renew, Hot, Cold, Release, Off, Ended}
use Rattle.pb_machine.specs.declared.event.EventRefusal.{EventRefusal}
use Rattle.pb_machine.specs.declared.event.EventRefusal.TheVariants.{Trouble}
use Rattle.pb_machine.specs.declared.event.Grant.{Grant}
use Rattle.pb_machine.specs.declared.settings.Settings.{Settings}
use Rattle.pb_machine.specs.Tables.{with_entry, any_below}
use Rattle.pb_machine.specs.Blocks.{Blocks, interferes}
use Rattle.pb_machine.specs.Counts.{Counts, is_lease_of, quota_of, is_busy, is_near_hot}
use Rattle.pb_machine.specs.Legality.{is_stranger, is_wrong_quota, first_true, tests, is_memory_end, refusal}
use Rattle.pb_model.specs.Store.{Store}
use Rattle.pb_machine.specs.Choice.{MayBeLeased, counts_with_lease_home}
use Rattle.pb_machine.specs.JournalLaws.{ChosenLeasesAreLegal, ChosenRenewalsAreLegal, ChoicesOutliveReleases, LeasesAreOfWorkers, ReleasesAreLegal, MarksAreLegal, SignOffsAreLegal, EndsAreLegal}

-- nothing refuses where no test is true
none_refuses : (ts : List (Bool × EventRefusal)) → AllByRecursion (λ t. t.0 ≡ false) ts → first_true ts ≡ None
none_refuses [] h = refl
none_refuses (t ∷ ts) h = ap (λ r. cond r (Some t.1) (first_true ts)) h.0 ∙ none_refuses ts h.1

module _ (blocks : Blocks) (settings : Settings) where
  right_quota : (left : ℕ) → 0 < left → 0 < settings.lot → is_wrong_quota settings left (min settings.lot left) ≡ false
  right_quota left some lot =
      let positive : nat_lt 0 (min settings.lot left) ≡ true = grind (arith, nat_tests) in
      ap (λ r. not (r && (min settings.lot left == min settings.lot left))) positive ∙ ap not (equal_self (min settings.lot left))

  no_report : (c : Counts) (e : Event) → c.trouble ≡ false → (c.trouble && not (is_memory_end e)) ≡ false
  no_report c e none = ap (λ r. r && not (is_memory_end e)) none

  is_below : (a b : ℕ) → a < b → not (nat_lt a b) ≡ false
  is_below a b lt = let e : nat_lt a b ≡ true = grind (arith, nat_tests) in ap not e

  is_not_below : (a b : ℕ) → b ≤ a → nat_lt a b ≡ false
  is_not_below a b le = grind (arith, nat_tests)

  lease_legal : (c : Counts) (store : Store) (i b : ℕ) → MayBeLeased blocks settings c store b → is_stranger settings c i ≡ false → c.leases i ≡ None → c.trouble ≡ false → 0 < settings.lot
      → refusal blocks settings c (Lease i b (min settings.lot c.left)) ≡ None
  lease_legal c store i b may stranger none report lot =
      none_refuses ((c.trouble && not (is_memory_end (Lease i b (min settings.lot c.left))), Trouble) ∷ tests blocks settings c (Lease i b (min settings.lot c.left)))
      (no_report c (Lease i b (min settings.lot c.left)) report, (ap is_some may.no_end, (stranger, (ap is_some none, (is_below b blocks.count may.known, (may.free, (may.not_near_hot, (right_quota c.left may.left lot, tt))))))))

  renewal_legal : (c : Counts) (store : Store) (i used : ℕ) (grant : Grant) → MayBeLeased blocks settings (counts_with_lease_home c i used) store grant.block → is_stranger settings c i ≡ false → c.leases i ≡ Some grant
      → used ≤ grant.quota → c.trouble ≡ false → 0 < settings.lot → refusal blocks settings c (Renew i used (min settings.lot (counts_with_lease_home c i used).left)) ≡ None
  renewal_legal c store i used grant may stranger leased few report lot =
      let left : ℕ = (counts_with_lease_home c i used).left in
      let enough : used ≤ quota_of (c.leases i) = subst (λ n. used ≤ n) (sym (ap quota_of leased)) few in
      none_refuses ((c.trouble && not (is_memory_end (Renew i used (min settings.lot left))), Trouble) ∷ tests blocks settings c (Renew i used (min settings.lot left))) (
        no_report c (Renew i used (min settings.lot left)) report,
        (
          ap is_some may.no_end,
          (
            stranger,
            (
              ap is_none leased,
              (
                ap (is_lease_of (is_near_hot blocks c.hot)) leased ∙ may.not_near_hot,
                (ap (λ r. r || is_wrong_quota settings left (min settings.lot left)) (is_not_below (quota_of (c.leases i)) used enough) ∙ right_quota left may.left lot, tt),
              ),
            ),
          ),
        ),
      )

pub chosen_leases_are_legal : ChosenLeasesAreLegal
chosen_leases_are_legal blocks settings counts store worker block may stranger none report lot = lease_legal blocks settings counts store worker block may stranger none report lot

pub chosen_renewals_are_legal : ChosenRenewalsAreLegal
chosen_renewals_are_legal blocks settings counts store worker used grant may stranger leased few report lot = renewal_legal blocks settings counts store worker used grant may stranger leased few report lot

both_fewer : (a b c : Bool) → (a && b) ≡ false → (a && (b && c)) ≡ false
both_fewer false b c h = refl
both_fewer true false c h = refl
both_fewer true true c h = absurd (true≢false h)

-- where none of some is near, none of fewer is
fewer_near : (n : ℕ) (near hot still : ℕ → Bool) → any_below n (λ k. near k && hot k) ≡ false → any_below n (λ k. near k && (hot k && still k)) ≡ false
fewer_near zero near hot still h = refl
fewer_near (suc n) near hot still h =
    let parts = or_false (near n && hot n) (any_below n (λ k. near k && hot k)) h in
    ap (λ r. r || any_below n (λ k. near k && (hot k && still k))) (both_fewer (near n) (hot n) (still n) parts.0) ∙ fewer_near n near hot still parts.1

pub choices_outlive_releases : ChoicesOutliveReleases
choices_outlive_releases blocks settings counts store worker used block memory may = record {
  known = may.known;
  opened = may.opened;
  free = may.free;
  not_near_hot = fewer_near blocks.count (interferes blocks block) counts.hot (λ k. is_busy blocks settings.workers (with_entry counts.leases worker None) k) may.not_near_hot;
  left = may.left;
  no_end = may.no_end;
}

-- ---- events that may come

pub leases_are_of_workers : LeasesAreOfWorkers
leases_are_of_workers blocks settings counts worker grant lawful leased =
    let inside : nat_lt worker settings.workers ≡ true = grind (arith, nat_tests, (lawful.known worker grant leased).0) in
    ap (λ r. not r || counts.signed_off worker) inside ∙ by_cases (counts.signed_off worker)
    (λ e. let bad : ◌≡◌ {A = Option Grant} None (Some grant) = sym (lawful.off worker e).1 ∙ leased in cc)
    (λ e. e)

pub releases_are_legal : ReleasesAreLegal
releases_are_legal blocks settings counts worker used memory grant known report leased few =
    let enough : used ≤ quota_of (counts.leases worker) = subst (λ n. used ≤ n) (sym (ap quota_of leased)) few in
    none_refuses ((counts.trouble && not (is_memory_end (Release worker used memory)), Trouble) ∷ tests blocks settings counts (Release worker used memory))
    (no_report blocks settings counts (Release worker used memory) report, (known, (ap is_none leased, (is_not_below blocks settings (quota_of (counts.leases worker)) used enough, tt))))

pub marks_are_legal : MarksAreLegal
marks_are_legal blocks settings counts worker block grant known report leased no_end there = (
  λ marks cold busy.
      let test : (settings.plain || (counts.hot block || not (is_busy blocks settings.workers counts.leases block))) ≡ false =
      ap (λ r. r || (counts.hot block || not (is_busy blocks settings.workers counts.leases block))) marks ∙ ap (λ r. r || not (is_busy blocks settings.workers counts.leases block)) cold ∙ ap not busy in
      none_refuses ((counts.trouble && not (is_memory_end (Hot worker block)), Trouble) ∷ tests blocks settings counts (Hot worker block))
      (no_report blocks settings counts (Hot worker block) report, (ap is_some no_end, (known, (ap is_none leased, (is_below blocks settings block blocks.count there, (test, tt)))))),
  λ hot.
      none_refuses ((counts.trouble && not (is_memory_end (Cold worker block)), Trouble) ∷ tests blocks settings counts (Cold worker block))
      (no_report blocks settings counts (Cold worker block) report, (ap is_some no_end, (known, (ap is_none leased, (is_below blocks settings block blocks.count there, (ap not hot, tt)))))),
)

pub sign_offs_are_legal : SignOffsAreLegal
sign_offs_are_legal blocks settings counts worker memory known report none cause =
    none_refuses ((counts.trouble && not (is_memory_end (Off worker memory)), Trouble) ∷ tests blocks settings counts (Off worker memory))
    (no_report blocks settings counts (Off worker memory) report, (known, (ap is_some none, (caused memory counts.end cause, tt))))
  where
    caused : (memory : Bool) (o : Option End) → (memory || is_some o) ≡ true → (not memory && is_none o) ≡ false
    caused true o h = refl
    caused false None h = absurd (true≢false (sym h))
    caused false (Some e) h = refl

pub ends_are_legal : EndsAreLegal
ends_are_legal blocks settings counts no_end = (
  λ report out.
      none_refuses ((counts.trouble && not (is_memory_end (Ended Quiet)), Trouble) ∷ tests blocks settings counts (Ended Quiet))
      (no_report blocks settings counts (Ended Quiet) report, (ap is_some no_end, (out, tt))),
  λ report out none.
      let nothing : nat_lt 0 counts.left ≡ false = ap (nat_lt 0) none in
      none_refuses ((counts.trouble && not (is_memory_end (Ended Budget)), Trouble) ∷ tests blocks settings counts (Ended Budget))
      (no_report blocks settings counts (Ended Budget) report, (ap is_some no_end, (out, (nothing, tt)))),
  λ reported.
      none_refuses ((counts.trouble && not (is_memory_end (Ended Memory)), Trouble) ∷ tests blocks settings counts (Ended Memory))
      (ap (λ r. r && false) reported, (ap is_some no_end, (ap not reported, tt))),
)

-- Which blocks become cold where a lease comes home.
use Rattle.std.proofs.Common.{◌≡◌, ℕ, ◌<◌, Bool, true, false, not, ◌&&◌, List, length, get_or, slice_set, Option, Some, None, refl, ap, ◌∙◌}
use Rattle.std.proofs.Math.Bool.{and-false}
use Rattle.pb_machine.specs.declared.event.Event.TheVariants.{Release}
use Rattle.pb_machine.specs.declared.event.Grant.{Grant}
use Rattle.pb_machine.specs.declared.settings.Settings.{Settings}
use Rattle.pb_machine.specs.Tables.{with_entry}
use Rattle.pb_machine.specs.Blocks.{Blocks, interferes}
use Rattle.pb_machine.specs.Counts.{Counts, AreLawful, counts_after, is_busy}
use Rattle.pb_machine.proofs.Callers.{releases_cool_near, table_at}
use Rattle.pb_abstract.specs.Graph.{has}

-- what becomes cold where it is near and not busy is all that is not busy, where all of that is
-- near
cooled_cases : (hot near busy : Bool) → (hot ≡ true → busy ≡ false → near ≡ true)
    → (hot && not (near && not busy)) ≡ (hot && busy)
cooled_cases false near busy found = refl
cooled_cases true near true found = ap not (and-false near)
cooled_cases true near false found = ap (λ r. not (r && true)) (found refl refl)

pub released_hot : (blocks : Blocks) (settings : Settings) (counts : Counts) (worker used : ℕ)
    (memory : Bool) (grant : Grant) (near : List ℕ) (leases : List (Option Grant)) (hot : List Bool)
    → AreLawful blocks settings counts → counts.leases worker ≡ Some grant
    → ((c : ℕ) → has near c ≡ interferes blocks grant.block c)
    → ◌≡◌ {A = ℕ → Option Grant} (λ w. get_or leases w None) counts.leases → worker < length leases
    → length leases ≡ settings.workers
    → ((c : ℕ) → get_or hot c false
    ≡ (counts.hot c
    && not (has near c
    && not (is_busy blocks (length (slice_set leases worker None))
    (λ w. get_or (slice_set leases worker None) w None) c))))
    → length (slice_set leases worker None) ≡ settings.workers
    → (c : ℕ) → get_or hot c false
    ≡ (counts_after blocks settings counts (Release worker used memory)).hot c
released_hot blocks settings counts worker used memory grant near leases hot lawful leased each
    table there places cooled same c =
    cooled c ∙ ap (λ b. counts.hot c && not (has near c && not b)) busy
    ∙ ap (λ r. counts.hot c && not (r && not is)) (each c)
    ∙ cooled_cases (counts.hot c) (interferes blocks grant.block c) is
    (λ h idle. releases_cool_near blocks settings counts worker used c memory grant lawful
    leased h (ap (λ r. counts.hot c && r) idle ∙ ap (λ r. r && false) h))
  where
    home : ℕ → Option Grant
    home = with_entry counts.leases worker None

    is : Bool
    is = is_busy blocks settings.workers (with_entry counts.leases worker None) c

    home_is : ◌≡◌ {A = ℕ → Option Grant} (λ w. get_or (slice_set leases worker None) w None)
        (with_entry counts.leases worker None)
    home_is =
        λ i w. (table_at leases worker None None there w
        ∙ ap (λ (t : ℕ → Option Grant). with_entry t worker None w) table) i

    busy : is_busy blocks (length (slice_set leases worker None))
        (λ w. get_or (slice_set leases worker None) w None) c
        ≡ is_busy blocks settings.workers (with_entry counts.leases worker None) c
    busy = ap (λ n. is_busy blocks n (λ w. get_or (slice_set leases worker None) w None) c) same
        ∙ ap (λ (t : ℕ → Option Grant). is_busy blocks settings.workers t c) home_is

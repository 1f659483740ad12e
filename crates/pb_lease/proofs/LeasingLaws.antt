-- The laws of the tests by numbers.
use Rattle.std.proofs.Common.{◌≡◌, ℕ, ◌<◌, Bool, true, false, not, ◌&&◌, is_some, is_none, sym, ap, ◌∙◌, true≢false}
use Rattle.std.proofs.Math.Bool.{and-false}
use Rattle.std.proofs.lemmas.Bool.{lt-ltb}
use Rattle.pb_model.proofs.Callers.{by_cases, none_found}
use Rattle.pb_machine.specs.Tables.{any_below}
use Rattle.pb_machine.specs.Blocks.{meets, interferes}
use Rattle.pb_machine.specs.Counts.{is_taken, is_near_hot, is_lease_of}
use Rattle.pb_machine.proofs.Callers.{any_false, any_none, any_some, none_out_none_hot}
use Rattle.pb_lease.specs.Laws.{OpenedBlocksMayBeLeased, NoneOutCanBeLeased}
use Rattle.pb_lease.proofs.NextEvents.{may_be_leased}

-- the four parts together
pub all_hold : (e l h t : Bool) → e ≡ true → l ≡ true → h ≡ false → t ≡ false → (e && l && not h && not t) ≡ true
all_hold e l h t is_e is_l is_h is_t = ap (λ r. r && l && not h && not t) is_e ∙ ap (λ r. r && not h && not t) is_l ∙ ap (λ r. not r && not t) is_h ∙ ap not is_t

pub opened_blocks_may_be_leased : OpenedBlocksMayBeLeased
opened_blocks_may_be_leased of settings counts store block known opened =
    (may_be_leased of settings counts store block known opened, λ may. all_hold _ _ _ _ (ap is_none may.no_end) (lt-ltb 0 counts.left may.left) may.not_near_hot may.free)

-- where none below a number passes, none does
none_below : (n : ℕ) (p : ℕ → Bool) → ((i : ℕ) → i < n → p i ≡ false) → any_below n p ≡ false
none_below n p none = by_cases (any_below n p)
    (λ e. let found = any_some n p e in absurd (true≢false (sym found.2 ∙ none found.0 found.1)))
    (λ e. e)

pub none_out_can_be_leased : NoneOutCanBeLeased
none_out_can_be_leased of settings counts block lawful known home no_end left =
    let free : is_taken of settings.workers counts.leases block ≡ false =
    none_below settings.workers (λ w. is_lease_of (meets of block) (counts.leases w))
    (λ w lt. ap (is_lease_of (meets of block)) (none_found (counts.leases w) (any_none settings.workers w (λ k. is_some (counts.leases k)) home lt))) in
    let cold : is_near_hot of counts.hot block ≡ false =
    any_false of.count (λ other. interferes of block other && counts.hot other) (λ other. ap (λ r. interferes of block other && r) (none_out_none_hot of settings counts lawful home other) ∙ and-false (interferes of block other)) in
    all_hold _ _ _ _ (ap is_none no_end) (lt-ltb 0 counts.left left) cold free

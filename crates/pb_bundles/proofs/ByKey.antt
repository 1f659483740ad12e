-- The choice by keys is that by rows, where the keys are those of the rows.
use Rattle.std.proofs.Common.{◌≡◌, ◌↔◌, ℕ, ◌<◌, IsSome, is_some, Option, Some, None, refl, sym, ap, subst, ◌∙◌, ◌⊎◌, inl, inr, nat_lt, true≢false}
use Rattle.pb_model.specs.declared.key.Key.{Key}
use Rattle.pb_model.specs.Weight.{Weight}
use Rattle.pb_model.specs.Store.{Part, HasOpened}
use Rattle.pb_model.specs.Key.{IsBest}
use Rattle.pb_model.proofs.Callers.{best_keys_are_unique, by_cases, below, not_below}
use Rattle.pb_machine.specs.Choice.{ComesBefore, IsBetter, IsBetterNear, IsRival, MayBeLeased}
use Rattle.pb_bundles.specs.Choosing.{IsBetterBy, MayBeFirst, MayRival, IsRivalBy}
use Rattle.pb_bundles.specs.Laws.{BettersAreByKey, OpenedIsByKey, RivalsAreByKey, FirstChoicesAreByKey}

pub betters_are_by_key : BettersAreByKey
betters_are_by_key store keys has block other = (
  λ comes. (keys block, keys other, has block, has other, comes),
  λ better.
      let mine : better.0 ≡ keys block = best_keys_are_unique store.weight (store.rows block) better.0 (keys block) better.2 (has block) in
      let yours : better.1 ≡ keys other = best_keys_are_unique store.weight (store.rows other) better.1 (keys other) better.3 (has other) in
      subst (λ key. ComesBefore (keys block) block key other) yours (subst (λ key. ComesBefore key block better.1 other) mine better.4),
)

some_opened : (weight : Weight) (part : Part) (key : Option Key) → IsBest weight part key → IsSome key → HasOpened part
some_opened weight part None best there = absurd (true≢false (sym there))
some_opened weight part (Some key) best there = (best.0.0, best.0.1, best.0.2, best.0.3)

opened_some : (weight : Weight) (part : Part) (key : Option Key) → IsBest weight part key → HasOpened part → IsSome key
opened_some weight part None best opened = absurd (best opened)
opened_some weight part (Some key) best opened = refl

pub opened_is_by_key : OpenedIsByKey
opened_is_by_key store keys has = (
  each,
  (λ some. (some.0, (each some.0).0 some.1), λ some. (some.0, (each some.0).1 some.1)),
  (λ none home opened. none (home, (each home).1 opened), λ quiet some. quiet some.0 ((each some.0).0 some.1)),
)
  where
    each : (block : ℕ) → IsSome (keys block) ↔ HasOpened (store.rows block)
    each block = (some_opened store.weight (store.rows block) (keys block) (has block), opened_some store.weight (store.rows block) (keys block) (has block))

pub rivals_are_by_key : RivalsAreByKey
rivals_are_by_key blocks store keys near block rival has interfere known = (to rival, from rival)
  where
    near_by : (other : ℕ) → MayRival near keys block other → IsBetterNear blocks store block other
    near_by other may = record {
      known = known other may.0;
      near = sym (interfere other) ∙ may.0;
      better = (betters_are_by_key store keys has other block).0 may.1;
    }

    may_rival : (other : ℕ) → IsBetterNear blocks store block other → MayRival near keys block other
    may_rival other is = (interfere other ∙ is.near, (betters_are_by_key store keys has other block).1 is.better)

    to : (rival : Option ℕ) → IsRivalBy near keys block rival → IsRival blocks store block rival
    to None first = λ other is. first other (may_rival other is)
    to (Some best) first = (near_by best first.0, λ other is. better other (first.1 other (may_rival other is)))
      where
        better : (other : ℕ) → ((other ≡ best) ⊎ IsBetterBy keys best other) → (other ≡ best) ⊎ IsBetter store best other
        better other (inl e) = inl e
        better other (inr l) = inr ((betters_are_by_key store keys has best other).0 l)

    from : (rival : Option ℕ) → IsRival blocks store block rival → IsRivalBy near keys block rival
    from None first = λ other may. first other (near_by other may)
    from (Some best) first = (may_rival best first.0, λ other may. better other (first.1 other (near_by other may)))
      where
        better : (other : ℕ) → ((other ≡ best) ⊎ IsBetter store best other) → (other ≡ best) ⊎ IsBetterBy keys best other
        better other (inl e) = inl e
        better other (inr l) = inr ((betters_are_by_key store keys has best other).1 l)

pub first_choices_are_by_key : FirstChoicesAreByKey
first_choices_are_by_key blocks settings counts store keys pass has none_above passes = (
  λ block. (
    λ first. record { may = may block first.0; best = λ other is. to_rows block other (first.1 other (candidate other is)) },
    λ choice. (candidate block choice.may, λ other is. to_keys block other (choice.best other (may other is))),
  ),
  (λ first block is. first block (candidate block is), λ none block is. none block (may block is)),
)
  where
    known : (block : ℕ) → IsSome (keys block) → block < blocks.count
    known block there = by_cases (nat_lt block blocks.count) (λ e. below block blocks.count e)
        (λ e. absurd (true≢false (sym there ∙ ap is_some (none_above block (not_below block blocks.count e)))))

    may : (block : ℕ) → MayBeFirst pass keys block → MayBeLeased blocks settings counts store block
    may block is =
        let so = (passes block (known block is.1)).0 is.0 in
        record { known = known block is.1; opened = ((opened_is_by_key store keys has).0 block).0 is.1; free = so.0; not_near_hot = so.1; left = so.2; no_end = so.3 }

    candidate : (block : ℕ) → MayBeLeased blocks settings counts store block → MayBeFirst pass keys block
    candidate block is = ((passes block is.known).1 (is.free, is.not_near_hot, is.left, is.no_end), ((opened_is_by_key store keys has).0 block).1 is.opened)

    to_rows : (block other : ℕ) → ((other ≡ block) ⊎ IsBetterBy keys block other) → (other ≡ block) ⊎ IsBetter store block other
    to_rows block other (inl e) = inl e
    to_rows block other (inr l) = inr ((betters_are_by_key store keys has block other).0 l)

    to_keys : (block other : ℕ) → ((other ≡ block) ⊎ IsBetter store block other) → (other ≡ block) ⊎ IsBetterBy keys block other
    to_keys block other (inl e) = inl e
    to_keys block other (inr l) = inr ((betters_are_by_key store keys has block other).1 l)

use Rattle.std.proofs.Common.{◌≡◌, ◌⊎◌, ◌∙◌, inl, inr, sym, ap, subst, Bool, true, false, true≢false, is_some, Some, Result, Ok, Err, OnErr}
use Rattle.pb_model.specs.declared.key.Key.{Key}
use Rattle.pb_lists.specs.Bundle.{row_in}
use Rattle.pb_lists.specs.declared.bucket.Bucket.{Bucket}
use Rattle.pb_lists.specs.Fields.{is_open_at, sum_of, estimate_in, key_with}
use Rattle.pb_lists.specs.Heaped.{Entry}
use Rattle.pb_lists.specs.Buckets.{Buckets, has_entry, has_at, has_in, is_tidy, top_of, KeepsEntries, HasPlaces}
use Rattle.pb_lists.proofs.Filing.{set_keeps, set_pushed, set_placed, key_joins, tidy_same, tidy_pushed, tidy_new, led_pushed, led_alone}
use Rattle.pb_lists.proofs.buckets.file.Goals as goal

on_err : {T E P : Type 0} (result : Result T E) → P → OnErr result P
on_err (Ok x) p = tt
on_err (Err e) p = p

-- an entry of a bucket was added, or it was there
came : (entry added : Entry) (bucket : Bucket) (buckets : Buckets) (sum : Key) → has_entry bucket entry ≡ has_at buckets sum entry → (entry ≡ added) ⊎ (has_entry bucket entry ≡ true)
    → (entry ≡ added) ⊎ (has_at buckets sum entry ≡ true)
came entry added bucket buckets sum same (inl is) = inl is
came entry added bucket buckets sum same (inr had) = inr (sym same ∙ had)

-- an entry of a bucket without another one was added
alone : {P : Type 0} (entry added : Entry) (was : Bool) → was ≡ false → (entry ≡ added) ⊎ (was ≡ true) → (entry ≡ added) ⊎ P
alone entry added was none (inl is) = inl is
alone entry added was none (inr had) = absurd (true≢false (sym had ∙ none))

pub returns-in_err-push-in-Some-clause-err : goal.returns-in_err-push-in-Some-clause-err
returns-in_err-push-in-Some-clause-err c =
    on_err c.from_residual.result (λ weight entries tidy.
    ap (λ list. is_tidy weight entries list) (c.get_mut.follows.holds c.push.new.self).0
    ∙ (tidy_same weight entries _ c.args.buckets.now.entries c.in-Some.bucket.now c.push.new.self (sym c.in-Some.ensures.value) c.in_err-push-in-Some.ensures.err ∙ tidy))

pub returns-in_ok-push-in-Some-clause-led : goal.returns-in_ok-push-in-Some-clause-led
returns-in_ok-push-in-Some-clause-led c = λ weight entries live tidy.
    let key = c.args.key.now in
    let joins = ap (λ sum. key_with sum c.h_in-h.result) c.sum_in-sum.ensures ∙ (ap (λ h. key_with (sum_of key) h) c.h_in-h.ensures ∙ key_joins key) in
    let here = subst (λ k. is_open_at weight (row_in entries c.args.state.now) k ≡ true) (sym joins) live in
    ap (λ list. is_tidy weight entries list) (c.get_mut.follows.holds c.push.new.self).0
    ∙ tidy_pushed weight entries c.sum_in-sum.result c.args.buckets.now.entries c.in-Some.bucket.now c.push.new.self (sym c.in-Some.ensures.value)
    (led_pushed weight entries c.sum_in-sum.result (top_of c.in-Some.bucket.now) (top_of c.push.new.self) (c.h_in-h.result, c.args.state.now, c.args.place) here c.in_ok-push-in-Some.ensures.top) tidy

pub returns-in_ok-insert-in-None-clause-led : goal.returns-in_ok-insert-in-None-clause-led
returns-in_ok-insert-in-None-clause-led c = λ weight entries live tidy.
    let key = c.args.key.now in
    let entry : Entry = (c.h_in-h.result, c.args.state.now, c.args.place) in
    let joins = ap (λ sum. key_with sum c.h_in-h.result) c.sum_in-sum.ensures ∙ (ap (λ h. key_with (sum_of key) h) c.h_in-h.ensures ∙ key_joins key) in
    let here = subst (λ k. is_open_at weight (row_in entries c.args.state.now) k ≡ true) (sym joins) live in
    let top = subst (λ was. (top_of c.push-in-None.new.self ≡ was) ⊎ (top_of c.push-in-None.new.self ≡ Some entry)) c.new-bucket.ensures.top c.in_ok-push-in-None.ensures.top in
    subst (λ list. is_tidy weight entries list ≡ true) (sym c.in_ok-insert-in-None.ensures.entries)
    (tidy_new weight entries c.sum_in-sum.result c.get_mut.follows.lender-at-none.entries c.push-in-None.new.self
    (led_alone weight entries c.sum_in-sum.result c.push-in-None.new.self entry here top c.in_ok-push-in-None.ensures.member c.in_ok-push-in-None.ensures.first)
    (subst (λ (buckets : Buckets). is_tidy weight entries buckets.entries ≡ true) (sym c.get_mut.follows.holds-at-none) tidy))

pub returns-in_ok-push-in-Some-clause-kept : goal.returns-in_ok-push-in-Some-clause-kept
returns-in_ok-push-in-Some-clause-kept c =
    set_keeps c.args.buckets.now (c.get_mut.follows.lender c.push.new.self) c.sum_in-sum.result c.push.new.self
    (((c.get_mut.follows.holds c.push.new.self).3 (ap is_some (sym c.in-Some.ensures.value))).0)
    (λ entry had. c.push.ensures.kept entry (ap (λ found. has_in found entry) c.in-Some.ensures.value ∙ had))

pub returns-in_err-push-in-Some-clause-kept : goal.returns-in_err-push-in-Some-clause-kept
returns-in_err-push-in-Some-clause-kept c =
    set_keeps c.args.buckets.now (c.get_mut.follows.lender c.push.new.self) c.sum_in-sum.result c.push.new.self
    (((c.get_mut.follows.holds c.push.new.self).3 (ap is_some (sym c.in-Some.ensures.value))).0)
    (λ entry had. c.push.ensures.kept entry (ap (λ found. has_in found entry) c.in-Some.ensures.value ∙ had))

pub returns-in_ok-push-in-Some-clause-placed : goal.returns-in_ok-push-in-Some-clause-placed
returns-in_ok-push-in-Some-clause-placed c = λ entries here placed.
    let added : Entry = (estimate_in c.args.key.now, c.args.state.now, c.args.place) in
    set_pushed c.args.buckets.now (c.get_mut.follows.lender c.push.new.self) c.sum_in-sum.result c.push.new.self
    (((c.get_mut.follows.holds c.push.new.self).3 (ap is_some (sym c.in-Some.ensures.value))).0)
    entries added here
    (λ entry has. came entry added (c.in-Some.bucket.now) c.args.buckets.now c.sum_in-sum.result (ap (λ found. has_in found entry) c.in-Some.ensures.value)
    (subst (λ h. (entry ≡ (h, c.args.state.now, c.args.place)) ⊎ (has_entry c.in-Some.bucket.now entry ≡ true)) c.h_in-h.ensures (c.in_ok-push-in-Some.ensures.had entry has)))
    placed

pub returns-in_err-push-in-Some-clause-same : goal.returns-in_err-push-in-Some-clause-same
returns-in_err-push-in-Some-clause-same c =
    on_err c.from_residual.result (λ entries placed.
    set_placed c.args.buckets.now (c.get_mut.follows.lender c.push.new.self) c.sum_in-sum.result c.push.new.self
    (((c.get_mut.follows.holds c.push.new.self).3 (ap is_some (sym c.in-Some.ensures.value))).0)
    entries (λ entry has. inr (sym (ap (λ found. has_in found entry) c.in-Some.ensures.value) ∙ (sym (c.in_err-push-in-Some.ensures.same entry) ∙ has))) placed)

pub returns-in_ok-insert-in-None-clause-kept : goal.returns-in_ok-insert-in-None-clause-kept
returns-in_ok-insert-in-None-clause-kept c =
    let sum = c.sum_in-sum.result in
    subst (λ (was : Buckets). KeepsEntries was c.insert.new.self) c.get_mut.follows.holds-at-none
    (set_keeps c.get_mut.follows.lender-at-none c.insert.new.self sum c.push-in-None.new.self c.in_ok-insert-in-None.ensures.updates.0
    (λ entry had. absurd (true≢false
    (sym had ∙ (ap (λ (was : Buckets). has_at was sum entry) c.get_mut.follows.holds-at-none ∙ sym (ap (λ found. has_in found entry) c.in-None.ensures.value))))))

pub returns-in_ok-insert-in-None-clause-placed : goal.returns-in_ok-insert-in-None-clause-placed
returns-in_ok-insert-in-None-clause-placed c = λ entries here placed.
    let added : Entry = (estimate_in c.args.key.now, c.args.state.now, c.args.place) in
    set_pushed c.get_mut.follows.lender-at-none c.insert.new.self c.sum_in-sum.result c.push-in-None.new.self c.in_ok-insert-in-None.ensures.updates.0
    entries added here
    (λ entry has. alone entry added (has_entry c.new-bucket.result entry) (c.new-bucket.ensures.empty entry)
    (subst (λ h. (entry ≡ (h, c.args.state.now, c.args.place)) ⊎ (has_entry c.new-bucket.result entry ≡ true)) c.h_in-h.ensures (c.in_ok-push-in-None.ensures.had entry has)))
    (subst (λ (was : Buckets). HasPlaces entries was) (sym c.get_mut.follows.holds-at-none) placed)

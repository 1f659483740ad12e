-- A list of calls in halves.
use Rattle.std.proofs.Common.{◌≡◌, ℕ, ◌+◌, ◌-◌, ◌<◌, ◌≤◌, List, ◌++◌, length, set, sym, ap, ◌∙◌, subst, ⊎_elim, arith, slice_index_or, length-set}
use Rattle.std.proofs.lemmas.Bool.{cases_lt}
use Rattle.std.proofs.lemmas.List.{get_or-set_same, get_or_append_left, get_or-append-add, get_or_default, length-append}
use Rattle.pb_owners.specs.Halves.{EachFrom, ChangesFrom}

-- the first of two lists, and the second
pub each_low : {A : Type 0} (P : ℕ → A → Type 0) (from : ℕ) (xs low high : List A) → xs ≡ low ++ high → EachFrom P from xs → EachFrom P from low
each_low P from xs low high is h = record {
  each = λ k d less. subst (P (from + k)) (ap (λ l. slice_index_or l k d) is ∙ get_or_append_left low high d k less)
      (h.each k d (let e = ap length is in let l = length-append low high in omega arith));
}

pub each_high : {A : Type 0} (P : ℕ → A → Type 0) (from middle : ℕ) (xs low high : List A) → xs ≡ low ++ high → middle ≡ from + length low → EachFrom P from xs → EachFrom P middle high
each_high P from middle xs low high is at h = record {
  each = λ k d less.
      let same : from + (length low + k) ≡ middle + k = omega arith in
      subst (λ n. P n (slice_index_or high k d)) same
      (subst (P (from + (length low + k))) (ap (λ l. slice_index_or l (length low + k) d) is ∙ get_or-append-add low high k d)
      (h.each (length low + k) d (let e = ap length is in let l = length-append low high in omega arith)));
}

pub changes_both : {A : Type 0} (R : ℕ → A → A → Type 0) (from middle : ℕ) (xs ys low high new_low new_high : List A) → xs ≡ low ++ high → ys ≡ new_low ++ new_high → middle ≡ from + length low
    → ChangesFrom R from low new_low → ChangesFrom R middle high new_high → ChangesFrom R from xs ys
changes_both R from middle xs ys low high new_low new_high is new_is at first second = record {
  many = let a = ap length is in let b = ap length new_is in let c = length-append low high in let d = length-append new_low new_high in let e = first.many in let f = second.many in omega arith;
  each = λ k d less. ⊎_elim
      (λ (l : k < length low).
      let old = ap (λ t. slice_index_or t k d) is ∙ get_or_append_left low high d k l in
      let new = ap (λ t. slice_index_or t k d) new_is ∙ get_or_append_left new_low new_high d k (let e = first.many in omega arith) in
      subst (λ x. R (from + k) x (slice_index_or ys k d)) (sym old) (subst (R (from + k) (slice_index_or low k d)) (sym new) (first.each k d l)))
      (λ (past : length low ≤ k).
      let at_k : length low + (k - length low) ≡ k = omega arith in
      let at_new : length new_low + (k - length low) ≡ k = (let e = first.many in omega arith) in
      let number : middle + (k - length low) ≡ from + k = omega arith in
      let old = ap (λ n. slice_index_or xs n d) (sym at_k) ∙ ap (λ t. slice_index_or t (length low + (k - length low)) d) is ∙ get_or-append-add low high (k - length low) d in
      let new = ap (λ n. slice_index_or ys n d) (sym at_new) ∙ ap (λ t. slice_index_or t (length new_low + (k - length low)) d) new_is ∙ get_or-append-add new_low new_high (k - length low) d in
      subst (λ n. R n (slice_index_or xs k d) (slice_index_or ys k d)) number
      (subst (λ x. R (middle + (k - length low)) x (slice_index_or ys k d)) (sym old)
      (subst (R (middle + (k - length low)) (slice_index_or high (k - length low) d)) (sym new)
      (second.each (k - length low) d (let a = ap length is in let c = length-append low high in omega arith)))))
      (cases_lt k (length low));
}

-- a list of one
pub each_only : {A : Type 0} (P : ℕ → A → Type 0) (from : ℕ) (xs : List A) (d : A) → 0 < length xs → EachFrom P from xs → P from (slice_index_or xs 0 d)
each_only P from xs d some h = let same : from + 0 ≡ from = omega arith in subst (λ n. P n (slice_index_or xs 0 d)) same (h.each 0 d some)

pub changes_only : {A : Type 0} (R : ℕ → A → A → Type 0) (from : ℕ) (xs : List A) (c y : A) → length xs ≡ 1 → R from (slice_index_or xs 0 c) y → ChangesFrom R from xs (set xs 0 y)
changes_only R from xs c y one r = record {
  many = length-set xs 0 y;
  each = λ k d less.
      let some : 0 < length xs = omega arith in
      let zero : 0 ≡ k = omega arith in
      let number : from ≡ from + k = omega arith in
      subst (λ n. R n (slice_index_or xs k d) (slice_index_or (set xs 0 y) k d)) number
      (subst (λ n. R from (slice_index_or xs n d) (slice_index_or (set xs 0 y) n d)) zero
      (subst (R from (slice_index_or xs 0 d)) (sym (get_or-set_same xs 0 y d some))
      (subst (λ v. R from v y) (get_or_default xs 0 c d some) r)));
}

-- The order of keys, as a comparison.
use Rattle.std.specs.Prelude.{ℕ, Bool}
use Rattle.std.specs.Ordering.{nat_cmp, ordering_then, is_eq}
use Rattle.std.specs.declared.cmp.Ordering.{Ordering}
use Rattle.pb_model.specs.declared.key.Key.{Key}
use Rattle.pb_model.specs.declared.key.Key.TheVariants.{Sum, Dead}

-- 1 for the key of dead rows, which comes last
abbrev pub rank_of : Key → ℕ
rank_of (Sum sum h) = 0
rank_of Dead = 1

abbrev pub sum_of : Key → ℕ
sum_of (Sum sum h) = sum
sum_of Dead = 0

abbrev pub h_of : Key → ℕ
h_of (Sum sum h) = h
h_of Dead = 0

-- a dead row's key comes last; others are compared by the sum and then by h
abbrev pub key_cmp : Key → Key → Ordering
key_cmp key other =
    ordering_then (nat_cmp (rank_of key) (rank_of other))
    (ordering_then (nat_cmp (sum_of key) (sum_of other)) (nat_cmp (h_of key) (h_of other)))

abbrev pub same_key : Key → Key → Bool
same_key key other = is_eq (key_cmp key other)

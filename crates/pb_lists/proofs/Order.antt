-- The comparison of keys.
use Rattle.std.proofs.Common.{◌≡◌, true, refl, sym, ap, ◌∙◌, ◌⊎◌, inl, inr, true≢false}
use Rattle.std.specs.Cmp.{nat_cmp_is}
use Rattle.std.specs.Ordering.{is_eq}
use Rattle.std.specs.declared.cmp.Ordering.TheVariants.{Less, Equal, Greater}
use Rattle.pb_model.specs.declared.key.Key.{Key}
use Rattle.pb_model.specs.declared.key.Key.TheVariants.{Sum, Dead}
use Rattle.pb_model.specs.Key.{IsKeyBelow}
use Rattle.pb_model.specs.KeyOrder.{key_cmp, same_key}
use Rattle.pb_model.proofs.Callers.{key_cases, below}

pub key_below : (key other : Key) → IsKeyBelow key other → key_cmp key other ≡ Less
key_below (Sum a h) (Sum b k) (inl l) = rw (sym (nat_cmp_is a b Less l)) refl
key_below (Sum a h) (Sum b k) (inr l) = rw (sym (nat_cmp_is a b Equal l.0), sym (nat_cmp_is h k Less l.1)) refl
key_below (Sum a h) Dead below = refl
key_below Dead other below = absurd below

pub key_above : (key other : Key) → IsKeyBelow other key → key_cmp key other ≡ Greater
key_above (Sum a h) (Sum b k) (inl l) = rw (sym (nat_cmp_is a b Greater l)) refl
key_above (Sum a h) (Sum b k) (inr l) = rw (sym (nat_cmp_is a b Equal (sym l.0)), sym (nat_cmp_is h k Greater l.1)) refl
key_above Dead (Sum b k) below = refl
key_above key Dead below = absurd below

pub key_self : (key : Key) → key_cmp key key ≡ Equal
key_self (Sum a h) = rw (sym (nat_cmp_is a a Equal refl), sym (nat_cmp_is h h Equal refl)) refl
key_self Dead = refl

pub key_found : (key other : Key) → same_key key other ≡ true → key ≡ other
key_found key other same = which (key_cases key other) same
  where
    which : (IsKeyBelow key other ⊎ ((key ≡ other) ⊎ IsKeyBelow other key)) → same_key key other ≡ true → key ≡ other
    which (inl l) e = absurd (true≢false (sym e ∙ ap is_eq (key_below key other l)))
    which (inr (inl e)) same = e
    which (inr (inr g)) e = absurd (true≢false (sym e ∙ ap is_eq (key_above key other g)))

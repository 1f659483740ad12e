-- There is one first choice, and one rival.
use Rattle.std.proofs.Common.{◌≡◌, ℕ, Option, Some, None, refl, sym, ap, arith, ◌⊎◌, inl, inr, subst}
use Rattle.pb_model.specs.declared.key.Key.{Key}
use Rattle.pb_model.specs.Store.{Store}
use Rattle.pb_model.proofs.Callers.{not_both_before, best_keys_are_unique}
use Rattle.pb_machine.specs.Choice.{ComesBefore, IsBetter}
use Rattle.pb_machine.specs.JournalLaws.{FirstChoicesAreUnique, RivalsAreUnique}

pub not_both_come : (j : Option Key) (b : ℕ) (k : Option Key) (c : ℕ) → ComesBefore j b k c → ComesBefore k c j b → ⊥
not_both_come None b None c h l = omega (arith, h, l)
not_both_come None b (Some k) c h l = absurd h
not_both_come (Some j) b None c h l = absurd l
not_both_come (Some j) b (Some k) c h l = not_both_before j b k c h l

not_both_better : (store : Store) (b c : ℕ) → IsBetter store b c → IsBetter store c b → ⊥
not_both_better store b c h l =
    let mine : l.1 ≡ h.0 = best_keys_are_unique store.weight (store.rows b) l.1 h.0 l.3 h.2 in
    let yours : l.0 ≡ h.1 = best_keys_are_unique store.weight (store.rows c) l.0 h.1 l.2 h.3 in
    not_both_come h.0 b h.1 c h.4 (subst (λ k. ComesBefore h.1 c k b) mine (subst (λ k. ComesBefore k c l.1 b) yours l.4))

pub first_choices_are_unique : FirstChoicesAreUnique
first_choices_are_unique blocks settings counts store b c first second = which (first.best c second.may) (second.best b first.may)
  where
    which : ((c ≡ b) ⊎ IsBetter store b c) → ((b ≡ c) ⊎ IsBetter store c b) → b ≡ c
    which (inl e) other = sym e
    which (inr h) (inl e) = e
    which (inr h) (inr l) = absurd (not_both_better store b c h l)

pub rivals_are_unique : RivalsAreUnique
rivals_are_unique blocks store b None None one two = refl
rivals_are_unique blocks store b None (Some d) one two = absurd (one d two.0)
rivals_are_unique blocks store b (Some c) None one two = absurd (two c one.0)
rivals_are_unique blocks store b (Some c) (Some d) one two = which (one.1 d two.0) (two.1 c one.0)
  where
    which : ((d ≡ c) ⊎ IsBetter store c d) → ((c ≡ d) ⊎ IsBetter store d c) → ◌≡◌ {A = Option ℕ} (Some c) (Some d)
    which (inl e) other = ap (λ n. Some n) (sym e)
    which (inr h) (inl e) = ap (λ n. Some n) e
    which (inr h) (inr l) = absurd (not_both_better store c d h l)

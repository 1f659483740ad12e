use Rattle.std.proofs.Common.{◌≡◌, ◌≤◌, ◌*◌, ◌^◌, ℕ, ap, sym, subst, ◌∙◌}
use Rattle.pb_check.specs.Numbers.{Flat}
use Rattle.pb_check.proofs.FlatNumbers.{none_above}
use Rattle.pb_check.proofs.numbers.Numbers.place_of_word.Goals as goal

pub returns-in-None : goal.returns-in-None
returns-in-None c =
    let one : 1 ≡ c.self.inside.width = sym c.requires.width ∙ sym (ap (λ (f : Flat). f.width) c.self.view_is) in
    let wide = subst (λ (k : ℕ). 2 ^ (64 * k) ≤ c.args.number.now) one c.in-None.ensures.none in
    (tt, none_above c.self.inside.width c.self.inside.count c.self.inside.words.items c.args.self.now c.args.number.now c.self.invariant c.self.view_is wide)

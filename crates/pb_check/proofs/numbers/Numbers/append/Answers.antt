use Rattle.std.proofs.Common.{◌≡◌, ◌+◌, ◌*◌, ◌++◌, ℕ, List, length, ap, sym, subst, ◌∙◌, arith, length-append}
use Rattle.std.proofs.Math.Nat.{mul-add}
use Rattle.pb_packed.specs.Words.{AreWords}
use Rattle.pb_check.specs.Numbers.{Flat}
use Rattle.pb_task.specs.FlatSets.{sets_of}
use Rattle.pb_task.proofs.Callers.{appended}
use Rattle.pb_check.proofs.FlatNumbers.{flat_both}
use Rattle.pb_check.proofs.numbers.Numbers.append.Goals as goal

pub invariant_of-self-2 : goal.invariant_of-self-2
invariant_of-self-2 c =
    let words = c.self.inside.words.items in
    let others = c.others.inside.words.items in
    let width = c.self.inside.width in
    let same : c.others.inside.width ≡ width = ap (λ (f : Flat). f.width) c.others.view_is ∙ c.requires ∙ sym (ap (λ (f : Flat). f.width) c.self.view_is) in
    let items : c.extend_from_slice.new.self.items ≡ words ++ others = c.in_ok-extend_from_slice.ensures.items ∙ ap (λ (ws : List ℕ). words ++ ws) c.deref.ensures.value in
    let others_long : length others ≡ width * c.others.inside.count = c.others.invariant.2 ∙ ap (λ k. k * c.others.inside.count) same in
    let long : length c.extend_from_slice.new.self.items ≡ width * (c.self.inside.count + c.others.inside.count) =
    ap length items ∙ length-append words others ∙ omega (arith, c.self.invariant.2, others_long, mul-add width c.self.inside.count c.others.inside.count) in (
      c.self.invariant.0,
      c.self.invariant.1,
      long,
      subst (λ (ws : List ℕ). AreWords (length ws) ws) (sym items) (appended words others c.self.invariant.3 c.others.invariant.3),
    )

pub returns-clause-ok : goal.returns-clause-ok
returns-clause-ok c =
    let words = c.self.inside.words.items in
    let others = c.others.inside.words.items in
    let width = c.self.inside.width in
    let same : c.others.inside.width ≡ width = ap (λ (f : Flat). f.width) c.others.view_is ∙ c.requires ∙ sym (ap (λ (f : Flat). f.width) c.self.view_is) in
    let items : c.extend_from_slice.new.self.items ≡ words ++ others = c.in_ok-extend_from_slice.ensures.items ∙ ap (λ (ws : List ℕ). words ++ ws) c.deref.ensures.value in
    ap (λ ws. sets_of width (c.self.inside.count + c.others.inside.count) ws) items
    ∙ flat_both width c.self.inside.count c.others.inside.count words others c.self.invariant.2
    ∙ ap (λ k. sets_of width c.self.inside.count words ++ sets_of k c.others.inside.count others) (sym same)
    ∙ ap (λ (f : Flat). sets_of width c.self.inside.count words ++ f.numbers) c.others.view_is
    ∙ ap (λ (f : Flat). f.numbers ++ c.args.others.numbers) c.self.view_is

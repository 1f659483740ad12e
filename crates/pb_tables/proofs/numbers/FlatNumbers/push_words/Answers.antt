use Rattle.std.proofs.Common.{◌≡◌, ◌+◌, ◌*◌, ◌++◌, ◌∷◌, [], suc, ℕ, List, length, ap, sym, subst, ◌∙◌, arith, length-append}
use Rattle.pb_packed.specs.Words.{number_of, AreWords}
use Rattle.pb_tables.specs.Flat.{FlatNumbersView}
use Rattle.pb_task.specs.FlatSets.{sets_of}
use Rattle.pb_task.proofs.Callers.{set_added, appended}
use Rattle.pb_tables.proofs.numbers.FlatNumbers.push_words.Goals as goal

pub invariant_of-self-2 : goal.invariant_of-self-2
invariant_of-self-2 c =
    let words = c.self.inside.words.items in
    let width : c.self.inside.width ≡ length c.args.number.now = ap (λ (f : FlatNumbersView). f.width) c.self.view_is ∙ sym c.requires.long in
    let items : c.extend_from_slice.new.self.items ≡ words ++ c.args.number.now = c.in_ok-extend_from_slice.ensures.items in
    let long : length c.extend_from_slice.new.self.items ≡ c.self.inside.width * (c.self.inside.count + 1) =
    ap length items ∙ length-append words c.args.number.now ∙ omega (arith, c.self.invariant.2, width) in (
      c.self.invariant.0,
      c.self.invariant.1,
      long,
      subst (λ (ws : List ℕ). AreWords (length ws) ws) (sym items) (appended words c.args.number.now c.self.invariant.3 c.requires.words),
    )

pub returns-clause-ok : goal.returns-clause-ok
returns-clause-ok c =
    let words = c.self.inside.words.items in
    let width = c.self.inside.width in
    let size : length c.args.number.now ≡ width = c.requires.long ∙ sym (ap (λ (f : FlatNumbersView). f.width) c.self.view_is) in
    let more : c.self.inside.count + 1 ≡ suc c.self.inside.count = omega arith in
    ap (λ k. sets_of width k c.extend_from_slice.new.self.items) more
    ∙ ap (λ ws. sets_of width (suc c.self.inside.count) ws) c.in_ok-extend_from_slice.ensures.items
    ∙ set_added width c.self.inside.count words c.args.number.now c.self.invariant.2 size
    ∙ ap (λ (f : FlatNumbersView). f.numbers ++ number_of c.args.number.now ∷ []) c.self.view_is

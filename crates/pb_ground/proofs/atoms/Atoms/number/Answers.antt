use Rattle.std.proofs.Common.{◌≡◌, ◌+◌, ◌-◌, ◌/◌, ◌<◌, ◌≤◌, ◌∷◌, ℕ, length, sym, subst, ◌∙◌, arith}
use Rattle.std.specs.declared.cmp.Ordering.TheVariants.{Less, Equal, Greater}
use Rattle.pb_ground.specs.Atoms.{atom_of}
use Rattle.pb_ground.specs.Order.{AreRising, row_in}
use Rattle.pb_ground.proofs.Sorted.{rows_cmp}
use Rattle.pb_ground.proofs.Rising.{low_before, high_behind, found, not_found}
use Rattle.pb_ground.proofs.atoms.Atoms.number.Goals as goal

pub loop-low-preserved-in-Less : goal.loop-low-preserved-in-Less
loop-low-preserved-in-Less c =
    let middle = c.loop-low.low + (c.loop-low.high - c.loop-low.low) / 2 in
    let key = c.args.predicate ∷ c.args.objects.now in
    let rise : AreRising c.args.self.now = subst AreRising c.self.view_is c.self.invariant in
    let inside : middle < length c.args.self.now = omega (arith, c.loop-low-test.true, c.loop-low.invariant.inside) in
    let low : rows_cmp (row_in c.args.self.now middle) key ≡ Less = sym c.compare_at.ensures ∙ c.in-Less.is in
    record {
      inside = c.loop-low.invariant.inside;
      before = λ k less. low_before c.args.self.now key middle k rise inside low less;
      behind = c.loop-low.invariant.behind;
    }

pub loop-low-preserved : goal.loop-low-preserved
loop-low-preserved c =
    let middle = c.loop-low.low + (c.loop-low.high - c.loop-low.low) / 2 in
    let key = c.args.predicate ∷ c.args.objects.now in
    let rise : AreRising c.args.self.now = subst AreRising c.self.view_is c.self.invariant in
    let high : rows_cmp (row_in c.args.self.now middle) key ≡ Greater = sym c.compare_at.ensures ∙ c.in-Greater.is in
    record {
      inside = omega (arith, c.loop-low-test.true, c.loop-low.invariant.inside);
      before = c.loop-low.invariant.before;
      behind = λ k more inside. high_behind c.args.self.now key middle k rise high more inside;
    }

pub returns-in-Equal : goal.returns-in-Equal
returns-in-Equal c =
    let middle = c.loop-low.low + (c.loop-low.high - c.loop-low.low) / 2 in
    let rise : AreRising c.args.self.now = subst AreRising c.self.view_is c.self.invariant in
    let inside : middle < length c.args.self.now = omega (arith, c.loop-low-test.true, c.loop-low.invariant.inside) in
    sym (found (atom_of c.args.predicate c.args.objects.now) c.args.self.now middle rise inside (sym c.compare_at.ensures ∙ c.in-Equal.is))

pub returns : goal.returns
returns c =
    sym (not_found (atom_of c.args.predicate c.args.objects.now) c.args.self.now c.loop-low.low c.loop-low.invariant.before
    (λ k more inside. c.loop-low.invariant.behind k (omega (arith, c.loop-low-test.false, more)) inside))

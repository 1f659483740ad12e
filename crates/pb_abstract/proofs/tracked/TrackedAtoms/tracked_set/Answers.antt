use Rattle.std.proofs.Common.{◌<◌, ◌≤◌, ◌≡◌, ◌^◌, length, drop, sym, ap, ◌∙◌, subst, arith}
use Rattle.pb_abstract.specs.Tracked.{tracked_set}
use Rattle.pb_abstract.proofs.TrackedSets.{rest_small, set_small, byte_small}
use Rattle.pb_abstract.proofs.tracked.TrackedAtoms.tracked_set.Goals as goal

pub overflow_mul-tracked : goal.overflow_mul-tracked
overflow_mul-tracked c =
    let atoms = c.as_slice-atoms.result.now in
    let few : length atoms ≤ 12 = subst (λ xs. length xs ≤ 12) (sym c.as_slice-atoms.ensures.atoms) c.as_slice-atoms.ensures.few in
    let is : c.loop-at.tracked ≡ tracked_set (drop c.loop-at.at atoms) c.args.set.now = c.loop-at.invariant in
    let small : tracked_set (drop c.loop-at.at atoms) c.args.set.now < 2 ^ 11 = rest_small atoms c.args.set.now c.loop-at.at few (omega arith) in
    omega arith

pub overflow_add-tracked : goal.overflow_add-tracked
overflow_add-tracked c =
    let atoms = c.as_slice-atoms.result.now in
    let few : length atoms ≤ 12 = subst (λ xs. length xs ≤ 12) (sym c.as_slice-atoms.ensures.atoms) c.as_slice-atoms.ensures.few in
    let is : c.loop-at.tracked ≡ tracked_set (drop c.loop-at.at atoms) c.args.set.now = c.loop-at.invariant in
    let small : tracked_set (drop c.loop-at.at atoms) c.args.set.now < 2 ^ 11 = rest_small atoms c.args.set.now c.loop-at.at few (omega arith) in
    let bit : c.from-in-loop-at.result ≤ 1 = subst (λ n. n ≤ 1) (sym c.from-in-loop-at.ensures) (byte_small c.has.result) in
    omega arith

pub returns-clause-small : goal.returns-clause-small
returns-clause-small c =
    let set = c.args.set.now in
    let is : c.loop-at.tracked ≡ tracked_set c.args.self.now set = c.loop-at.invariant ∙ ap (λ n. tracked_set (drop n c.as_slice-atoms.result.now) set) (let e : c.loop-at.at ≡ 0 = omega arith in e)
    ∙ ap (λ xs. tracked_set xs set) c.as_slice-atoms.ensures.atoms in
    let small : tracked_set c.args.self.now set < 2 ^ length c.args.self.now = set_small c.args.self.now set in
    omega arith

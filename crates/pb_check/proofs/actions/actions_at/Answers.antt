use Rattle.std.proofs.Common.{◌≡◌, ℕ, List, Ok, ◌+◌, ◌-◌, ◌≤◌, ◌∷◌, [], ◌++◌, length, refl, sym, ap, ◌∙◌, subst, arith}
use Rattle.std.proofs.lemmas.Result.{err_from_is_err_and}
use Rattle.std.proofs.lemmas.List.{length-append}
use Rattle.pb_check.specs.Reading.{actions_at}
use Rattle.pb_check.specs.PlanLines.{actions_of}
use Rattle.pb_check.proofs.Loops.{action_read, action_fails, actions_done, from_first, with_none}
use Rattle.pb_check.proofs.actions.actions_at.Goals as goal

pub loop-i-init : goal.loop-i-init
loop-i-init c = record {
  front = [];
  so_far = with_none (actions_at (c.args.count - 0) (c.args.line + 0) c.args.text.now) ∙ from_first (λ k l. actions_at k l c.args.text.now) c.args.count c.args.line;
  many = refl;
  shorter = omega arith;
}

pub returns-in_err-after-clause-gives : goal.returns-in_err-after-clause-gives
returns-in_err-after-clause-gives c =
    let p = err_from_is_err_and c.from_residual.result c.from_residual.ensures.1 in
    rw (p.1, p.2) (action_fails c.in_err-after.field-0.0 c.loop-i.invariant.front c.args.count c.loop-i.i c.args.line c.loop-i.rest.now (actions_at c.args.count c.args.line c.args.text.now) c.loop-i-test.true c.in_err-after.ensures.gives c.loop-i.invariant.so_far)

pub loop-i-preserved : goal.loop-i-preserved
loop-i-preserved c =
    let front = c.loop-i.invariant.front in
    let n = c.in_ok-after.field-0-0 in
    record {
      front = front ++ n ∷ [];
      so_far = action_read front c.args.count c.loop-i.i c.args.line c.loop-i.rest.now n c.in_ok-after.after.now (actions_at c.args.count c.args.line c.args.text.now) c.loop-i-test.true c.in_ok-after.ensures.gives c.loop-i.invariant.so_far;
      many = omega (arith, c.loop-i.invariant.many, length-append front (n ∷ []));
      shorter = omega (arith, c.loop-i.invariant.shorter, c.in_ok-after.ensures.shorter);
    }

pub invariant_of-result : goal.invariant_of-result
invariant_of-result c =
    let done = actions_done c.loop-i.invariant.front c.args.count c.loop-i.i c.args.line c.loop-i.rest.now (actions_at c.args.count c.args.line c.args.text.now) c.loop-i-test.false c.loop-i.invariant.so_far in
    let few = c.requires in
    let shorter = c.loop-i.invariant.shorter in
    let over = c.loop-i-test.false in
    (((c.loop-i.invariant.front, c.loop-i.rest.now), done), omega (arith, few, shorter, over))

pub returns-clause-gives : goal.returns-clause-gives
returns-clause-gives c =
    let done = actions_done c.loop-i.invariant.front c.args.count c.loop-i.i c.args.line c.loop-i.rest.now (actions_at c.args.count c.args.line c.args.text.now) c.loop-i-test.false c.loop-i.invariant.so_far in
    done ∙ ap (λ (actions : List ℕ). Ok (actions, c.loop-i.rest.now)) (sym (ap actions_of done))

pub returns-clause-shorter : goal.returns-clause-shorter
returns-clause-shorter c =
    let done = actions_done c.loop-i.invariant.front c.args.count c.loop-i.i c.args.line c.loop-i.rest.now (actions_at c.args.count c.args.line c.args.text.now) c.loop-i-test.false c.loop-i.invariant.so_far in
    let many = c.loop-i.invariant.many in
    let shorter = c.loop-i.invariant.shorter in
    subst (λ (actions : List ℕ). length c.loop-i.rest.now + length actions ≤ length c.args.text.now) (sym (ap actions_of done)) (omega (arith, many, shorter))

pub returns-clause-many : goal.returns-clause-many
returns-clause-many c =
    let done = actions_done c.loop-i.invariant.front c.args.count c.loop-i.i c.args.line c.loop-i.rest.now (actions_at c.args.count c.args.line c.args.text.now) c.loop-i-test.false c.loop-i.invariant.so_far in
    let many = c.loop-i.invariant.many in
    let over = c.loop-i-test.false in
    let within = c.loop-i.auto.i-end in
    subst (λ (actions : List ℕ). length actions ≡ c.args.count) (sym (ap actions_of done)) (omega (arith, many, over, within))

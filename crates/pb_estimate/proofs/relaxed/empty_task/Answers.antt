use Rattle.std.proofs.Common.{◌≡◌, ◌≤◌, [], length, subst, sym, ap, arith, ◌∙◌}
use Rattle.std.proofs.lemmas.List.{length-replicate}
use Rattle.pb_packed.specs.Sizes.{most_atoms}
use Rattle.pb_estimate.specs.Tables.{atoms_in, AreUsers, AreFree}
use Rattle.pb_estimate.proofs.Sets.{many_in}
use Rattle.pb_estimate.proofs.Relaxing.{few_atoms, none_use, none_free, none_at}
use Rattle.pb_estimate.proofs.relaxed.empty_task.Goals as goal

pub overflow_cast-result : goal.overflow_cast-result
overflow_cast-result c =
    let few : length (atoms_in c.args.strips.now.goal c.args.strips.now.atoms) ≤ c.args.strips.now.atoms = few_atoms c.args.strips.now.goal c.args.strips.now.atoms in
    let is : length c.as_slice-2.result.now ≡ length (atoms_in c.args.strips.now.goal c.args.strips.now.atoms) = ap length (c.as_slice-2.ensures ∙ c.in_ok-atoms_in.ensures) in
    let most : c.args.strips.now.atoms ≤ most_atoms = c.requires.atoms in
    omega arith

pub returns-clause-actions : goal.returns-clause-actions
returns-clause-actions c = record {
  relaxed = c.new.ensures;
  needs = c.new-2.ensures.items;
  many = length-replicate c.args.strips.now.atoms [];
  users = λ atom less. subst (AreUsers [] atom) (sym (none_at c.args.strips.now.atoms atom)) (none_use atom);
  free = subst (AreFree c.args.strips.now.atoms []) (sym c.new-4.ensures) (none_free c.args.strips.now.atoms);
}

pub returns-clause-goal : goal.returns-clause-goal
returns-clause-goal c = record {
  long = c.in_ok-flags.ensures.long;
  flags = c.in_ok-flags.ensures.flags;
  wanted = ap length (c.as_slice-2.ensures ∙ c.in_ok-atoms_in.ensures) ∙ many_in c.args.strips.now.goal c.args.strips.now.atoms;
}

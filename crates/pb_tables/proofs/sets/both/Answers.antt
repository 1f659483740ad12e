use Rattle.std.proofs.Common.{◌^◌, ◌<◌, ℕ, sym, subst}
use Rattle.pb_tables.proofs.AtomSets.{both_is, both_small}
use Rattle.pb_tables.proofs.sets.both.Goals as goal

pub returns-clause-both : goal.returns-clause-both
returns-clause-both c =
    both_is c.args.count c.args.one.now c.args.other.now c.common.result c.requires.count c.requires.other c.common.ensures.bits c.common.ensures.atoms

pub returns-clause-small : goal.returns-clause-small
returns-clause-small c =
    subst (λ (n : ℕ). n < 2 ^ c.args.count)
    (sym (both_is c.args.count c.args.one.now c.args.other.now c.common.result c.requires.count c.requires.other c.common.ensures.bits c.common.ensures.atoms))
    (both_small c.args.count c.args.one.now c.args.other.now)

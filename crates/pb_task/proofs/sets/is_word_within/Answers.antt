use Rattle.std.proofs.Common.{arith}
use Rattle.std.proofs.lemmas.Bool.{eqb-true, eq-eqb}
use Rattle.pb_task.proofs.AtomSets.{common_all, all_common}
use Rattle.pb_task.proofs.sets.is_word_within.Goals as goal

pub returns : goal.returns
returns c = (
  λ e. common_all c.args.small c.args.large (eqb-true _ _ e),
  λ held. eq-eqb _ _ (all_common 64 c.args.small c.args.large (omega arith) (λ atom less. held atom)),
)

use Rattle.pb_made.proofs.Spelled.{domain_is_memory}
use Rattle.pb_made.proofs.made_task.blocks_tree.Goals as goal

pub syntax_memory-requires : goal.syntax_memory-requires
syntax_memory-requires c = domain_is_memory c.blocks_domain.result.now c.blocks_domain.ensures c.in-Err.error c.in-Err.ensures.reading

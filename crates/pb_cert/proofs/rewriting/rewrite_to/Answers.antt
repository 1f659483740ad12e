use Rattle.pb_cert.proofs.rewriting.rewrite_to.Goals as goal

pub returns-clause-spells : goal.returns-clause-spells
returns-clause-spells g c = λ verdict accepted.
    (c.rewritten_texts_are_accepted.ensures c.args.task.now c.args.bytes.now verdict c.max_degree-lawful.ensures.lawful accepted).0

pub returns-clause-accepted : goal.returns-clause-accepted
returns-clause-accepted g c = λ verdict accepted.
    (c.rewritten_texts_are_accepted.ensures c.args.task.now c.args.bytes.now verdict c.max_degree-lawful.ensures.lawful accepted).1

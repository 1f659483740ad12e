use Rattle.pb_table_lines.proofs.Loops.{values_more}
use Rattle.pb_table_lines.proofs.images.+add_values.Goals as goal

pub returns-clause-adds : goal.returns-clause-adds
returns-clause-adds t c =
    values_more c.add_values.result c.args.values.now.items c.push.new.self.items c.add_values.new.values.items c.args.count c.args.line c.args.text.now c.in_ok-said.said.now c.cut_word.result.0.now c.cut_word.result.1.now c.in_ok-value.value c.if-count-eq0.false
    c.in_ok-said.ensures c.cut_word.ensures.word c.cut_word.ensures.behind c.in_ok-value.ensures.gives c.in_ok-push.ensures.items c.add_values.ensures.adds

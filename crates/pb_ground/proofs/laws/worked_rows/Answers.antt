use Rattle.pb_ground.proofs.WorkedRows as rows
use Rattle.pb_ground.proofs.laws.worked_rows.Goals as goal

pub returns-clause-all : goal.returns-clause-all
returns-clause-all c = rows.all_have_numbers

pub returns-clause-kept : goal.returns-clause-kept
returns-clause-kept c = rows.five_have_numbers

pub returns-clause-others : goal.returns-clause-others
returns-clause-others c = rows.others_are_left_out

pub returns-clause-never : goal.returns-clause-never
returns-clause-never c = rows.never_is_known

-- What a trace asks for, of a sound store whose incumbent is shown.
use Rattle.pb_cert.specs.Laws.{ShownRowsCanBeTraced}

pub shown_rows_can_be_traced : ShownRowsCanBeTraced
shown_rows_can_be_traced space guide rows weight incumbent cost sound shown known =
    let goal = shown cost known in
    ((guide.estimate, incumbent, sound), (guide.home goal.0, goal.0, goal.2.0, goal.2.1, goal.1))

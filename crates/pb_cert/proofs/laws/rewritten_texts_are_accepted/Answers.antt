use Rattle.pb_cert.proofs.LinesAnew.{spelled_anew, same_verdict, same_bytes}
use Rattle.pb_cert.proofs.laws.rewritten_texts_are_accepted.Goals as goal

pub returns : goal.returns
returns c = λ parts bytes verdict lawful accepted. (
  spelled_anew c.read_as_spelled.ensures c.states_fit_their_width.ensures parts lawful bytes verdict accepted,
  same_verdict c.read_as_spelled.ensures c.states_fit_their_width.ensures parts lawful bytes verdict accepted,
  same_bytes c.read_as_spelled.ensures c.states_fit_their_width.ensures parts lawful bytes verdict accepted,
)

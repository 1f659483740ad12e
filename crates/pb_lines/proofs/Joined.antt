-- What is cut is joined again, and what is read is written so.
use Rattle.std.proofs.Common.{ap, ◌∙◌}
use Rattle.pb_lines.specs.Words.{part, behind, is_text, number_of}
use Rattle.pb_lines.specs.Laws.{PartsAreJoined, PiecesAreJoined, TextsAreEqual, NumbersAreDecimal}
use Rattle.pb_lines.proofs.Parts.{part_is, part_none, part_again, behind_is, behind_again, text_is, text_again}
use Rattle.pb_lines.proofs.Numbers.{number_is, number_again}

pub parts_are_joined : PartsAreJoined
parts_are_joined byte text front rest = (
  λ e. (part_is byte text front rest e, part_none byte text front rest e),
  λ is none. ap (part byte) is ∙ part_again byte front rest none,
)

pub pieces_are_joined : PiecesAreJoined
pieces_are_joined piece text rest = (
  λ e. behind_is piece text rest e,
  λ is. ap (behind piece) is ∙ behind_again piece rest,
)

pub texts_are_equal : TextsAreEqual
texts_are_equal piece text = (
  λ e. text_is piece text e,
  λ is. ap (is_text piece) is ∙ text_again piece,
)

pub numbers_are_decimal : NumbersAreDecimal
numbers_are_decimal word n = (
  λ e. number_is word n e,
  λ is small. ap number_of is ∙ number_again n small,
)

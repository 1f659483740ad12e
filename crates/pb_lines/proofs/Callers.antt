-- What proofs of other crates may cite. All else in proofs/ is private to this crate.
pub use Rattle.pb_lines.proofs.NumberWords.{IsNumberWord}
pub use Rattle.pb_lines.proofs.Numbers.{number_again, number_has_none, number_is, number_none}
pub use Rattle.pb_lines.proofs.Numbers.{number_word, number_word_is, number_word_of}
pub use Rattle.pb_lines.proofs.Numbers.{number_word_read}
pub use Rattle.pb_lines.proofs.Parts.{behind_again, behind_is, both, conjuncts, if_some, no_feed}
pub use Rattle.pb_lines.proofs.Parts.{none_both, one_feed, part_again, part_is, part_none}
pub use Rattle.pb_lines.proofs.Parts.{text_again, text_is}
pub use Rattle.pb_lines.proofs.ShortNumbers.{reads_short_number, spells_short_number, value_push}

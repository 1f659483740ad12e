-- What proofs of other crates may cite. All else in proofs/ is private to this crate.
pub use Rattle.pb_table_lines.proofs.Counted.{few_lines, some_lines}
pub use Rattle.pb_table_lines.proofs.Numbered.{lines_have_their_numbers}
pub use Rattle.pb_table_lines.proofs.ReadBack.{bind_ok, tables_are_read_as_written, wanted_ok}
pub use Rattle.pb_table_lines.proofs.Readable.{values_none}
pub use Rattle.pb_table_lines.proofs.Readers.{feeds_line, no_first, same_first}
pub use Rattle.pb_table_lines.proofs.Refused.{cut_tables_are_refused, feeds_both, feeds_cons}
pub use Rattle.pb_table_lines.proofs.Refused.{refused_lines_are_first}
pub use Rattle.pb_table_lines.proofs.Sixteens.{all_zeros, grows, highest, room, sixteen_long}
pub use Rattle.pb_table_lines.proofs.Sixteens.{words_long, written}
pub use Rattle.pb_table_lines.proofs.Suiting.{suiting_tables_can_be_stated}
pub use Rattle.pb_table_lines.proofs.Written.{all_counted}

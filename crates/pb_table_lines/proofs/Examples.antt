-- The worked rows compute.
use Rattle.std.proofs.Common.{refl}
use Rattle.std.specs.Fmt.{digits}
use Rattle.pb_packed.specs.Digits.{hex_digits}
use Rattle.pb_lines.specs.Words.{place_of, behind, number_after}
use Rattle.pb_tables.specs.Suits.{first_order_fault, first_step_fault, first_unpaid}
use Rattle.pb_table_lines.specs.Words.{hex_after}
use Rattle.pb_table_lines.specs.Reading.{counts_in, list_in, value_in, values_in, image_in, images_at, list_at, lists_at, tables_at, tables_reading}
use Rattle.pb_table_lines.specs.Examples.{ExamplesAreWritten, ExamplesAreRead, ExamplesAreFound}

pub examples_are_written : ExamplesAreWritten
unfolding hex_digits digits
examples_are_written = record {
  table = refl;
  sums = refl;
  trap = refl;
}

pub examples_are_read : ExamplesAreRead
unfolding place_of behind number_after hex_after counts_in list_in value_in values_in image_in images_at list_at lists_at tables_at tables_reading
examples_are_read = record {
  table = refl;
  sums = refl;
  trap = refl;
  nothing = refl;
  no_sums = refl;
  many_sums = refl;
  padded = refl;
  a_word = refl;
  too_wide = refl;
  upper_case = refl;
  no_value = refl;
  two_values = refl;
  too_great = refl;
  missing = refl;
  unended = refl;
  follows = refl;
  weight_follows = refl;
  fifth = refl;
}

pub examples_are_found : ExamplesAreFound
unfolding first_order_fault first_step_fault first_unpaid
examples_are_found = record {
  goal_with_value = refl;
  leads_out = refl;
  exchanged = refl;
  trap_of_another_task = refl;
  way_out = refl;
}

-- The examples, by computing them.
use mathlib.Core.Path.{refl}
use Rattle.mlg_rules.proofs.Computing.{mlg}
use Rattle.listing_rules.specs.Text.{decimal, integer, printed_byte, printed, to_zero}
use Rattle.listing_rules.specs.Lines.{header_line, name_of, field_line, value_text, as_expected_text, block_line}
use Rattle.listing_rules.specs.Listing.{log_lines, headed_lines, head_lines, list_of, list_number}
use Rattle.listing_rules.specs.Examples.{Examples}

-- the definitions of a listing
unfoldable listing : Unit {0}
unfolding decimal integer printed_byte printed to_zero header_line name_of field_line value_text as_expected_text block_line log_lines headed_lines head_lines
    list_of list_number
listing = tt

pub examples : Examples
unfolding mlg listing
examples = record {
  one_record = refl;
  wrong_counter = refl;
  rolling = refl;
  modulo255 = refl;
  negative_value = refl;
  unprintable = refl;
  wrong_sum = refl;
  cut_short = refl;
  no_bytes = refl;
  longest_file = refl;
  too_long = refl;
  fits = refl;
  does_not_fit = refl;
}

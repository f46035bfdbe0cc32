-- A proof by computation says `unfolding mlg`, and so opens every definition of MLG, and those of wire that they stand on.
use Rattle.wire.specs.Order.{◌if◌else◌, ◌or_else◌}
use Rattle.wire.specs.Answer.{result_of}
use Rattle.wire.specs.Refusals.{refusal_of, checked}
use Rattle.wire.specs.Sign.{twos}
use Rattle.wire.specs.Log.{counter_after, judged, span_with}
use Rattle.mlg_rules.specs.Layout.{served, layout_of}
use Rattle.mlg_rules.specs.Types.{size_of}
use Rattle.mlg_rules.specs.Field.{type_number}
use Rattle.mlg_rules.specs.Raw.{value_field_number, value_number, signed_type, raw_of, raw_value_of}
use Rattle.mlg_rules.specs.Shown.{shows, finite, raw_float, scaled_number, apply_of, shown_number, shown_value_of}
use Rattle.mlg_rules.specs.Shown.{scaling_in, parts_number, scaling_number, scaling_of}
use Rattle.mlg_rules.specs.Fields.{unended, texts_number, names_number, field_number}
use Rattle.mlg_rules.specs.Header.{numbers_of, fields_end, name_number, places_number, last_number, body_number, area_in, read_header_number}
use Rattle.mlg_rules.specs.Header.{read_header_of}
use Rattle.mlg_rules.specs.Parts.{names_end, info_length, fields_span_of, field_span_of, names_span_of, info_span_of}
use Rattle.mlg_rules.specs.Block.{block_len, last_of, rest_number, parts_of, block_of, place_number, read_block_of}
use Rattle.mlg_rules.specs.Block.{block_answer, part_values, rest_result, block_result}
use Rattle.mlg_rules.specs.Log.{length_of, followed_by, log_of, tally_of, tally_head, count_blocks_of}
use Rattle.mlg_rules.specs.Area.{area_of}
use Rattle.mlg_rules.specs.Writing.{number_bytes, header_for, header_bytes, lengths_number, write_header_number}
use Rattle.mlg_rules.specs.Writing.{start_bytes, data_bytes, padded_text, mark_bytes, write_data_number, write_mark_number}
use Rattle.mlg_rules.specs.Entries.{rewritten}
use Rattle.mlg_rules.specs.RoundTrip.{log_bytes}

unfoldable pub orders : Unit {0}
unfolding ◌if◌else◌ ◌or_else◌ result_of refusal_of checked
orders = tt

unfoldable pub values : Unit {0}
unfolding twos layout_of size_of type_number value_field_number value_number signed_type raw_of raw_value_of
    shows finite raw_float scaled_number apply_of shown_number shown_value_of scaling_in parts_number scaling_number scaling_of
values = tt

unfoldable pub headers : Unit {0}
unfolding served unended texts_number names_number field_number numbers_of fields_end name_number places_number last_number body_number area_in
    read_header_number read_header_of
headers = tt

unfoldable pub parts : Unit {0}
unfolding span_with names_end info_length fields_span_of field_span_of names_span_of info_span_of
parts = tt

unfoldable pub blocks : Unit {0}
unfolding counter_after judged block_len last_of rest_number parts_of block_of place_number read_block_of
    block_answer part_values rest_result block_result length_of followed_by log_of tally_of tally_head count_blocks_of
blocks = tt

unfoldable pub writing : Unit {0}
unfolding area_of number_bytes header_for header_bytes lengths_number write_header_number start_bytes data_bytes padded_text mark_bytes
    write_data_number write_mark_number rewritten log_bytes
writing = tt

unfoldable pub mlg : Unit {0}
unfolding orders values headers parts blocks writing
mlg = tt

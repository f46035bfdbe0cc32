-- The examples, by computing them.
use mathlib.Core.Path.{refl}
use Rattle.wire.specs.Order.{◌if◌else◌}
use Rattle.wire.specs.Refusals.{refusal_of, checked}
use Rattle.wire.specs.Log.{counter_after, judged, span_with}
use Rattle.frd_rules.specs.Header.{numbers_of, read_header_number, read_header_of, head_answer, read_signature_of}
use Rattle.frd_rules.specs.Block.{block_len, rest_number, found_of, read_block_number, read_block_of, block_answer, length_of}
use Rattle.frd_rules.specs.Log.{followed_by, log_from, log_of, tally_head, count_blocks_of}
use Rattle.frd_rules.specs.Writing.{header_bytes, data_bytes, time_bytes, room_number, write_header_number, write_data_number, write_time_number}
use Rattle.frd_rules.specs.RoundTrip.{entries_bytes, log_bytes}
use Rattle.frd_rules.specs.Examples.{Examples}

-- the definitions, opened
unfoldable reading : Unit {0}
unfolding ◌if◌else◌ refusal_of checked counter_after judged span_with numbers_of read_header_number read_header_of head_answer read_signature_of
    block_len rest_number found_of read_block_number read_block_of block_answer length_of followed_by log_from log_of tally_head count_blocks_of
reading = tt

unfoldable writing : Unit {0}
unfolding header_bytes data_bytes time_bytes room_number write_header_number write_data_number write_time_number entries_bytes log_bytes
writing = tt

pub examples : Examples
unfolding reading writing
examples = record {
  written = refl;
  header = refl;
  signed = refl;
  blocks = refl;
  after255 = refl;
  after256 = refl;
  short = refl;
  name = refl;
  version = refl;
  begin = refl;
  end = refl;
  past = refl;
  unknown = refl;
  cut = refl;
  counted = refl;
  unsigned = refl;
  header_room = (refl, refl);
  wrong_length = refl;
  data_room = (refl, refl);
  time_room = (refl, refl);
  head_answered = refl;
  data_answered = refl;
  refusal_answered = refl;
}

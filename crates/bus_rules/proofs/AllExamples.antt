-- The examples, by computing them.
use mathlib.Core.Path.{refl}
use Rattle.bus_rules.specs.Examples.{Examples}
use Rattle.bus_rules.proofs.Computing.{bus}

pub examples : Examples
unfolding bus
examples = record {
  identifier = record { apart = refl; together = refl; unpacked = refl; packed = refl };
  table20 = record { apart = refl; together = refl; unpacked = refl; packed = refl };
  largest = record { apart = refl; together = refl; unpacked = refl; packed = refl };
  spare_one = (refl, refl);
  over29_bits = (refl, refl);
  signature = (refl, refl);
  rpm = (refl, refl);
  query = (refl, refl);
  bit_four_signature = (refl, refl);
  bit_five_rpm = (refl, refl);
  bit_seven_query = (refl, refl);
  bit_four_query = (refl, refl);
  stored = (refl, refl);
  burnt = (refl, refl);
  burnt20 = (refl, refl);
  stored_later = refl;
  burnt_again = (refl, refl);
  forgets = (refl, refl);
  forgets_at_first = (refl, refl);
  remembers = (refl, refl);
  newer = (refl, refl);
  stored_older = refl;
  stored_current = refl;
  burnt_older = (refl, refl);
  burnt_current = (refl, refl);
  gone_later = refl;
  kept_later = refl;
  query_older = (refl, refl);
  refused_older = (refl, refl);
  none_is_not_table0 = (refl, refl);
  table0_current = (refl, refl);
  family4 = (refl, refl);
  family1 = (refl, refl);
  family0 = (refl, refl);
  has_current2 = (refl, refl);
  none_with_table = (refl, refl);
  current32 = (refl, refl);
  empty_current = (refl, refl);
  unsound_state = (refl, refl);
  first2 = refl;
  first3 = refl;
  first4 = refl;
  unsound = (refl, refl);
  too_long = (refl, refl);
  no_memory = (refl, refl);
  short_memory = (refl, refl);
  short_flash = (refl, refl);
  long_flash = (refl, refl);
  too_large = (refl, refl);
  spare_bit = (refl, refl);
  nine_long = (refl, refl);
  elsewhere = (refl, refl);
  reply = (refl, refl);
  acknowledgement = (refl, refl);
  short_request = (refl, refl);
  short_query = (refl, refl);
  empty_query = (refl, refl);
  long_burn = (refl, refl);
  read_only_burn = (refl, refl);
  no_right_burn = (refl, refl);
  empty_burn = (refl, refl);
  read_only = (refl, refl);
  no_right = (refl, refl);
  nine = (refl, refl);
  bit_four_nine = (refl, refl);
  five = (refl, refl);
  table32 = refl;
  count16 = refl;
  clear_bytes = refl;
  bit_four_bytes = refl;
  bit_six_bytes = refl;
  zeros_packed = refl;
}

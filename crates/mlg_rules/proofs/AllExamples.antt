-- The examples, by computing them.
use mathlib.Core.Path.{refl}
use lib.Ieee.{add, mul, of_int, of_fields, round, units, odd, climb, span, size}
use Rattle.mlg_rules.specs.Examples.{HeaderExamples, BlockExamples, WritingExamples, ValueExamples, Examples}
use Rattle.mlg_rules.proofs.Computing.{mlg}

header_examples : HeaderExamples
unfolding mlg
header_examples = record {
  header = refl;
  empty = refl;
  zeros = refl;
  begin_early = refl;
  info_at_begin = refl;
  info_before = refl;
  info_unended = refl;
  index_first = refl;
  index_at_begin = refl;
  one_name_for_two = refl;
  bad_type = refl;
  size_off = refl;
}

block_examples : BlockExamples
unfolding mlg
block_examples = record {
  first = refl;
  last = refl;
  counted = refl;
  mark = refl;
  after_mark = refl;
  after255 = refl;
  after256 = refl;
  rolling = refl;
  modulo255 = refl;
  both_counted = refl;
  past = refl;
  unknown_type = refl;
  unended_mark = refl;
  at_end = refl;
  wrong_sum = refl;
}

writing_examples : WritingExamples
unfolding mlg
writing_examples = record {
  written = refl;
  marked_written = refl;
  rolling_written = refl;
  info_ended = refl;
  zero_in_info = refl;
  just_fits = refl;
  padded = refl;
}

value_examples : ValueExamples
unfolding mlg add mul of_int of_fields round units odd climb span size
value_examples = record {
  no_type = refl;
  shown = refl;
}

pub examples : Examples
examples = record { headers = header_examples; blocks = block_examples; writing = writing_examples; values = value_examples }

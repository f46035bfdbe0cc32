-- The counter rolls.
use Rattle.std.proofs.Common.{◌/◌, ◌<◌, arith}
use Rattle.wire.specs.Log.{counter_after}
use Rattle.wire.specs.Counters.{Rolling}

pub rolling : Rolling
unfolding counter_after
rolling = record {
  first = omega arith;
  next = λ n h. omega arith;
  again = λ n h. omega arith;
  same_before255 = λ n h. omega arith;
  wrong_from255 = λ n h g e. let s : n / 256 < n / 255 = omega arith in omega arith;
}

-- What the counter of a block does, in MLG and FRD alike. 009 and 007: "A rolling 1 byte block counter."
use Rattle.std.specs.Prelude.{◌≡◌, ℕ, ◌+◌, ◌%◌, ◌<◌, ◌≤◌, ◌≢◌}
use Rattle.wire.specs.Log.{counter_after}

pub record Rolling : Type 0 where
  -- 007: "Just rolls from 0 to 255"
  pub first : counter_after 0 ≡ 0
  pub next : (n : ℕ) → counter_after n < 255 → counter_after (n + 1) ≡ counter_after n + 1
  pub again : (n : ℕ) → counter_after n ≡ 255 → counter_after (n + 1) ≡ 0
  -- 009's "Counter % 255", which 01 followed: the same up to block 254, wrong from block 255 to block 65,279
  pub same_before255 : (n : ℕ) → n < 255 → n % 255 ≡ counter_after n
  pub wrong_from255 : (n : ℕ) → 255 ≤ n → n < 65280 → n % 255 ≢ counter_after n

-- computed: the block after 255 others counts 255, and the next 0
pub record CounterExamples : Type 0 where
  pub after254 : counter_after 254 ≡ 254
  pub after255 : counter_after 255 ≡ 255
  pub after256 : counter_after 256 ≡ 0
  pub after257 : counter_after 257 ≡ 1

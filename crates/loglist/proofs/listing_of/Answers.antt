use Rattle.std.proofs.Common.{◌≡◌, ℕ, Result, Ok, Err, refl, arith}
use Rattle.std.specs.Result.{result_unwrap_or}
use Rattle.wire.specs.Writer.{as_written}
use Rattle.wire.specs.declared.refusal.Refusal.{Refusal}
use Rattle.listing_rules.proofs.AllExamples.{examples}
use Rattle.listing_rules.proofs.ListWritten.{list_fits}
use Rattle.listing_rules.proofs.LongInput.{long_input}
use Rattle.loglist.proofs.listing_of.Goals as goal

len_or_zero : (r : Result ℕ Refusal) → result_unwrap_or r 0 ≡ (as_written r).len
len_or_zero (Ok n) = refl
len_or_zero (Err e) = refl

pub returns : goal.returns
returns c =
    let a = c.args in
    let list = c.list in
    record {
      upper_bound = rw (c.unwrap_or.ensures, len_or_zero list.result)
          (list_fits a.file.now a.out.now (as_written list.result) _ (omega (arith, list.ensures.file_len_bound, c.told-out)) list.ensures.value.0
          list.ensures.value.1);
      examples = examples;
      long = long_input;
    }

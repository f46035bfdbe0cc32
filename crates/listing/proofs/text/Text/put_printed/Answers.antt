use mathlib.Core.Path.{◌∙◌}
use native.Mathlib.Omega.{arith}
use Rattle.listing_rules.proofs.PrintedText.{printed_length}
use Rattle.listing.proofs.Printed.{same_printed, puts_printed, puts_over}
use Rattle.listing.proofs.text.Text.put_printed.Goals as goal

pub slice_bounds-make_printed-count : goal.slice_bounds-make_printed-count
slice_bounds-make_printed-count c = c.put_bytes.ensures.no_shorter

pub slice_bounds-make_printed-start : goal.slice_bounds-make_printed-start
slice_bounds-make_printed-start c = c.put_bytes.ensures.no_shorter

pub returns-then-self : goal.returns-then-self
returns-then-self c =
    let put = c.put_bytes.ensures in
    let text = c.args.text.now in
    record {
      same_length = same_printed _ _ _ _ c.make_printed.ensures ∙ put.same_length;
      text = λ h. puts_printed _ _ _ _ text _ (put.text (omega (arith, printed_length text))) c.make_printed.ensures;
      same_output = put.same_output;
      no_shorter = put.no_shorter;
    }

pub returns-else-self : goal.returns-else-self
returns-else-self c =
    let put = c.put_bytes.ensures in
    let text = c.args.text.now in
    record {
      same_length = put.same_length;
      text = λ h. puts_over _ _ _ _ text (put.text (omega (arith, printed_length text))) c.if-self.false;
      same_output = put.same_output;
      no_shorter = put.no_shorter;
    }

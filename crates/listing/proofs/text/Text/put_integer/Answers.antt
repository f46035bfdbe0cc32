use Rattle.listing_rules.proofs.Integers.{negative, positive, negative_text, positive_text}
use Rattle.listing.proofs.Puts.{◌then◌, puts_as}
use Rattle.listing.proofs.text.Text.put_integer.Goals as goal
use Rattle.listing.proofs.text.Text.put_integer.Goals.{then-z-lt0, else-z-lt0}

pub returns : goal.returns
returns c =
    let z = c.args.z in
    let fits = c.ranges.z in
    let size = c.unsigned_abs.ensures.value in
    elim c.if-z-lt0.branch [
      | then-z-lt0 w ↦
          puts_as _ (negative_text z fits (negative z fits w.if-z-lt0.true) _ size)
          (w.put_bytes.ensures then rw w.self-is at c.put_decimal.ensures)
      | else-z-lt0 w ↦
          puts_as _ (positive_text z fits (positive z fits w.if-z-lt0.false) _ size)
          (rw w.self-is at c.put_decimal.ensures)
    ]

use Rattle.listing_rules.specs.Lines.{block_line}
use Rattle.listing.proofs.Puts.{◌then◌}
use Rattle.listing.proofs.text.Text.put_end_line.Goals as goal

pub returns : goal.returns
unfolding block_line
returns c = λ h f. c.put_bytes.ensures then c.put_decimal.ensures then c.put_bytes-2.ensures

use Rattle.listing_rules.specs.Lines.{as_expected_text}
use Rattle.listing.proofs.Puts.{puts_none}
use Rattle.listing.proofs.text.Text.put_as_expected.Goals as goal

pub returns-then-not-as_expected : goal.returns-then-not-as_expected
unfolding as_expected_text
returns-then-not-as_expected c = rw c.if-not-as_expected.true c.put_bytes.ensures

pub returns-else-not-as_expected : goal.returns-else-not-as_expected
unfolding as_expected_text
returns-else-not-as_expected c = rw c.if-not-as_expected.false (puts_none _)

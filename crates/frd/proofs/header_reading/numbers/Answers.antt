use Rattle.frd_rules.specs.Header.{numbers_of}
use Rattle.frd.proofs.header_reading.numbers.Goals as goal

pub returns : goal.returns
unfolding numbers_of
returns c = rw (c.be16.ensures, c.be32.ensures, c.be32-2.ensures, c.be16-2.ensures)

use Rattle.mlg_rules.proofs.HeaderNumbers.{head_told}
use Rattle.mlg_rules.proofs.Told.{told}
use Rattle.mlg_rules.specs.Header.{no_header, numbers_of}
use Rattle.mlg.proofs.header_reading.read_header.Goals as goal

pub returns : goal.returns
returns c = head_told _ _ (told no_header (numbers_of c.args.file.now) _ _ c.check_header.ensures.number c.check_header.ensures.value)

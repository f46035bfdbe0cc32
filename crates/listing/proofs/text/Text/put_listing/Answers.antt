use mathlib.Core.Path.{sym}
use native.Mathlib.Omega.{arith}
use Rattle.mlg_rules.specs.Header.{no_header}
use Rattle.listing_rules.specs.Listing.{LongInput}
use Rattle.listing_rules.proofs.LongInput.{long_input, lists_header, lists_refusal}
use Rattle.listing.proofs.Puts.{puts_as}
use Rattle.listing.proofs.text.Text.put_listing.Goals as goal

pub returns-then-file-gt-LONGEST_FILE : goal.returns-then-file-gt-LONGEST_FILE
unfolding LongInput
returns-then-file-gt-LONGEST_FILE c =
    let file = c.args.file.now in
    puts_as _ (sym ((long_input file).0 (omega (arith, c.if-file-gt-LONGEST_FILE.true)))) c.put_bytes.ensures

pub put_headed_lines-requires : goal.put_headed_lines-requires
put_headed_lines-requires c = sym c.in-Ok.ensures.0

pub returns-in-Ok : goal.returns-in-Ok
returns-in-Ok c =
    let short = c.if-file-gt-LONGEST_FILE.false in
    puts_as _ (sym (lists_header c.args.file.now _ (omega (arith, short)) (sym c.in-Ok.ensures.0))) c.put_headed_lines.ensures

pub returns-in-Err : goal.returns-in-Err
returns-in-Err c =
    let short = c.if-file-gt-LONGEST_FILE.false in
    let file = c.args.file.now in
    puts_as _ (sym (lists_refusal file _ (omega (arith, short)) (sym c.in-Err.ensures.0)))
    (rw (← c.number.ensures) (c.put_refused_line.ensures no_header file 0))

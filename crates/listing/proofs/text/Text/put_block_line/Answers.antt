use mathlib.Core.Path.{refl, sym, ap}
use Rattle.wire.proofs.Parts.{part_is}
use Rattle.mlg_rules.specs.declared.Layout.{Layout}
use Rattle.listing_rules.specs.Text.{printed}
use Rattle.listing_rules.specs.Lines.{block_line}
use Rattle.listing_rules.proofs.ValuesText.{cut_values}
use Rattle.listing.proofs.Puts.{◌then◌, puts_as}
use Rattle.listing.proofs.text.Text.put_block_line.Goals as goal

pub returns-in_default : goal.returns-in_default
unfolding block_line
returns-in_default c =
    let a = c.args in
    let mark = c.in-Mark in
    let same = ap printed (part_is a.file.now mark.start mark.len mark.len refl) in
    puts_as _ (ap (block_line a.h a.file.now a.n) (sym mark.is))
    (c.put_start.ensures
    then (c.put_bytes.ensures then puts_as _ same c.put_printed.ensures)
    then c.put_as_expected.ensures
    then c.put_bytes-in_default.ensures)

pub returns : goal.returns
unfolding block_line
returns c =
    let a = c.args in
    let block = c.in-Data in
    let header = ap (λ (l : Layout). l.header) c.layout_of-fields.ensures in
    let same = cut_values a.h.version a.h.count a.file.now _ block.start a.h.size header in
    puts_as _ (ap (block_line a.h a.file.now a.n) (sym block.is))
    (c.put_start-2.ensures then puts_as _ same (rw c.from.ensures at c.put_values.ensures) then c.put_as_expected-2.ensures then c.put_bytes-2.ensures)

pub returns-in_default-block : goal.returns-in_default-block
returns-in_default-block c = let a = c.args in rw c.in-Refused.is (c.put_refused_line.ensures a.h a.file.now a.n)

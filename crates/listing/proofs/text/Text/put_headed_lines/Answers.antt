use mathlib.Core.Path.{ap}
use native.Mathlib.Omega.{arith}
use Rattle.mlg_rules.specs.declared.Layout.{Layout}
use Rattle.listing_rules.specs.Listing.{headed_lines}
use Rattle.listing_rules.proofs.FieldsInFile.{fields_in, fields_after}
use Rattle.listing_rules.proofs.FieldLines.{cut_lines}
use Rattle.listing.proofs.Puts.{◌then◌, puts_as}
use Rattle.listing.proofs.text.Text.put_headed_lines.Goals as goal

pub slice_bounds-put_field_lines-count : goal.slice_bounds-put_field_lines-count
slice_bounds-put_field_lines-count c =
    let header = ap (λ (l : Layout). l.header) c.layout_of-fields.ensures in
    omega (arith, header, fields_in c.args.file.now c.args.h c.requires)

pub slice_bounds-put_field_lines-start : goal.slice_bounds-put_field_lines-start
slice_bounds-put_field_lines-start c =
    let header = ap (λ (l : Layout). l.header) c.layout_of-fields.ensures in
    omega (arith, header, fields_in c.args.file.now c.args.h c.requires)

pub put_field_lines-requires : goal.put_field_lines-requires
put_field_lines-requires c = fields_after c.args.file.now c.args.h _ c.requires (ap (λ (l : Layout). l.header) c.layout_of-fields.ensures)

pub returns : goal.returns
unfolding headed_lines
returns c =
    let a = c.args in
    let same = cut_lines a.h.version a.h.count a.file.now _ (ap (λ (l : Layout). l.header) c.layout_of-fields.ensures) in
    c.put_header_line.ensures then puts_as _ same c.put_field_lines.ensures then c.put_log_lines.ensures

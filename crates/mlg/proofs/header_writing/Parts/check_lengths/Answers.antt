use Rattle.std.proofs.Common.{arith}
use borrow.Author.Tests.{lt-ltb, le-ltb, eq-eqb}
use Rattle.wire.proofs.Orders.{order, if_yes, if_no, not_no}
use Rattle.mlg_rules.specs.Writing.{lengths_number}
use Rattle.mlg_rules.proofs.Fits.{too_long_lem, not_long, ended_most}
use Rattle.mlg_rules.proofs.LayoutLaws.{header_of, field_of, field_least, fields_few, header_most}
use Rattle.mlg.proofs.header_writing.Parts.check_lengths.Goals as goal

pub nonzero_rem-len : goal.nonzero_rem-len
nonzero_rem-len c = let v = c.args.self.now.version in omega (arith, field_of v _ c.layout_of-layout.ensures, field_least v)

pub returns-then-len-layout-ne0 : goal.returns-then-len-layout-ne0
unfolding lengths_number
returns-then-len-layout-ne0 c = rw (← field_of c.args.self.now.version _ c.layout_of-layout.ensures) (search order depth 9)

pub nonzero_div-len : goal.nonzero_div-len
nonzero_div-len c = let v = c.args.self.now.version in omega (arith, field_of v _ c.layout_of-layout.ensures, field_least v)

pub returns-then-len-layout-gt65535 : goal.returns-then-len-layout-gt65535
unfolding lengths_number
returns-then-len-layout-gt65535 c = rw (← field_of c.args.self.now.version _ c.layout_of-layout.ensures) (search order depth 9)

pub returns-then-sizes_of-gt65535 : goal.returns-then-sizes_of-gt65535
unfolding lengths_number
returns-then-sizes_of-gt65535 c =
    let field = field_of c.args.self.now.version _ c.layout_of-layout.ensures in
    rw (← c.sizes_of.ensures) (if_no 23 _ _ _ (not_no _ (eq-eqb _ _ (rw field at c.if-len-layout-ne0.false)))
    (if_no 23 _ _ _ (le-ltb _ _ (rw field at c.if-len-layout-gt65535.false)) (if_yes 23 _ _ (lt-ltb _ _ c.if-sizes_of-gt65535.true))))

pub overflow_add-area : goal.overflow_add-area
overflow_add-area c = omega (arith, c.ended_len.ensures, ended_most c.args.self.now.info.now)

pub overflow_add-layout : goal.overflow_add-layout
overflow_add-layout c = let v = c.args.self.now.version in omega (arith, header_of v _ c.layout_of-layout.ensures, header_most v)

pub overflow_sub-layout : goal.overflow_sub-layout
overflow_sub-layout c =
    let v = c.args.self.now.version in
    let few = rw (field_of v _ c.layout_of-layout.ensures) at c.if-len-layout-gt65535.false in
    omega (arith, header_of v _ c.layout_of-layout.ensures, header_most v, fields_few _ _ few)

pub returns-then-layout-len : goal.returns-then-layout-len
unfolding lengths_number
returns-then-layout-len c =
    let s = c.args.self.now in
    let field = field_of s.version _ c.layout_of-layout.ensures in
    let few = rw field at c.if-len-layout-gt65535.false in
    let t = too_long_lem s.version s.fields.now s.names.now s.info.now _ _ c.ended_len.ensures (header_of s.version _ c.layout_of-layout.ensures) few
    c.if-layout-len.true in
    rw (← c.sizes_of.ensures)
    (if_no 23 _ _ _ (not_no _ (eq-eqb _ _ (rw field at c.if-len-layout-ne0.false)))
    (if_no 23 _ _ _ (le-ltb _ _ few)
    (if_no 23 _ _ _ (le-ltb _ _ c.if-sizes_of-gt65535.false) (if_yes 23 _ _ t))))

pub returns-then-text_len-self : goal.returns-then-text_len-self
unfolding lengths_number
returns-then-text_len-self c =
    let s = c.args.self.now in
    let field = field_of s.version _ c.layout_of-layout.ensures in
    let few = rw field at c.if-len-layout-gt65535.false in
    let t = not_long s.version s.fields.now s.names.now s.info.now _ _ c.ended_len.ensures (header_of s.version _ c.layout_of-layout.ensures) few
    c.if-layout-len.false in
    rw (← c.sizes_of.ensures, ← field, ← c.text_len.ensures) (search order depth 12)

pub returns : goal.returns
unfolding lengths_number
returns c =
    let s = c.args.self.now in
    let field = field_of s.version _ c.layout_of-layout.ensures in
    let few = rw field at c.if-len-layout-gt65535.false in
    let t = not_long s.version s.fields.now s.names.now s.info.now _ _ c.ended_len.ensures (header_of s.version _ c.layout_of-layout.ensures) few
    c.if-layout-len.false in
    rw (← c.sizes_of.ensures, ← field, ← c.text_len.ensures) (search order depth 12)

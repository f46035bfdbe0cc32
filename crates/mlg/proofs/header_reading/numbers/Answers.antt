use Rattle.std.proofs.Common.{ℕ, ap, ◌∙◌, arith}
use Rattle.wire.specs.BigEndian.{be_at}
use Rattle.mlg_rules.specs.Header.{numbers_of}
use Rattle.mlg_rules.proofs.LayoutLaws.{info_is, info_of, info_most}
use Rattle.mlg.proofs.header_reading.numbers.Goals as goal

pub overflow_add-w : goal.overflow_add-w
overflow_add-w c = let v = c.be16-version.result in omega (arith, info_of v _ c.layout_of-w.ensures, info_most v)

pub overflow_add-w-2 : goal.overflow_add-w-2
overflow_add-w-2 c = let v = c.be16-version.result in omega (arith, info_of v _ c.layout_of-w.ensures, info_most v)

pub overflow_add-w-3 : goal.overflow_add-w-3
overflow_add-w-3 c = let v = c.be16-version.result in omega (arith, info_of v _ c.layout_of-w.ensures, info_most v)

pub returns : goal.returns
unfolding numbers_of
returns c =
    let v = c.be16-version.result in
    let info = c.be32-2.ensures ∙ ap (λ (k : ℕ). be_at k c.args.file.now 12) (info_is v) in
    rw (c.be16-2.ensures, c.be16.ensures, c.be32-3.ensures, info_of v _ c.layout_of-w.ensures, info, c.be32.ensures, c.be16-version.ensures)

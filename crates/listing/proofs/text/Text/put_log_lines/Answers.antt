use Rattle.std.specs.Prelude.{◌≤◌, ◌<◌, ◌+◌, length}
use mathlib.Core.Path.{◌≡◌, sym}
use native.Mathlib.Omega.{arith}
use Rattle.mlg_rules.specs.Block.{read_block_of}
use Rattle.mlg_rules.specs.Log.{length_of}
use Rattle.mlg_rules.proofs.LogLaws.{IsBlock}
use Rattle.mlg_rules.proofs.TallyLaws.{no_block, some_block, block_takes, at_fits}
use Rattle.listing_rules.proofs.FieldsInFile.{begin_in}
use Rattle.listing_rules.proofs.BlockInFile.{block_in_file}
use Rattle.listing_rules.proofs.LogLines.{more_lines, last_lines, log_all}
use Rattle.listing.proofs.Puts.{completes_all, completes_next, puts_as}
use Rattle.listing.proofs.text.Text.put_log_lines.Goals as goal
use Rattle.listing.proofs.text.Text.put_log_lines.Goals.{After-length_of-place}

pub loop-place-init : goal.loop-place-init
loop-place-init c =
    let a = c.args in
    (omega arith, begin_in a.file.now a.h c.requires, completes_all _ _ _ (log_all a.h a.file.now))

pub put_block_line-requires : goal.put_block_line-requires
put_block_line-requires c = let l = c.loop-place in block_in_file c.args.h c.args.file.now c.requires l.n l.place _ (sym c.read_block-block.ensures.fact.0)

pub returns-in_default : goal.returns-in_default
returns-in_default c =
    let a = c.args in
    let l = c.loop-place in
    let ends = no_block _ c.in_default.not-Data c.in_default.not-Mark in
    let last = last_lines a.h a.file.now l.n l.place _ (omega arith) (sym c.read_block-block.ensures.fact.0) ends in
    l.invariant.2 _ (puts_as _ (sym last) c.put_block_line.ensures)

-- a block that is passed over has bytes, and lies within the file
module _ (c : After-length_of-place) where
  goes : IsBlock c.read_block-block.result
  goes = some_block _ c.in-Data.is

  is : let a = c.args in
      let l = c.loop-place in
      read_block_of a.h.size l.n a.file.now l.place ≡ c.read_block-block.result
  is = sym c.read_block-block.ensures.fact.0

  inside : let a = c.args in
      let len = length_of a.h.size c.read_block-block.result in
      (0 < len) × (c.loop-place.place + len ≤ length a.file.now)
  inside = (block_takes _ _ goes, at_fits _ _ _ _ _ is goes)

pub overflow_add-place : goal.overflow_add-place
overflow_add-place c = omega (arith, c.length_of-place.ensures, (inside c).1)

pub overflow_add-n : goal.overflow_add-n
overflow_add-n c = omega (arith, (inside c).1)

pub loop-place-smaller : goal.loop-place-smaller
loop-place-smaller c = omega (arith, c.length_of-place.ensures, (inside c).0, (inside c).1)

pub loop-place-preserved : goal.loop-place-preserved
loop-place-preserved c =
    let l = c.loop-place in
    let a = c.args in
    let more = more_lines a.h a.file.now l.n l.place _ (omega arith) (is c) (goes c) in
    rw c.length_of-place.ensures
    (omega (arith, (inside c).0), (inside c).1, completes_next l.invariant.2 more c.put_block_line.ensures)

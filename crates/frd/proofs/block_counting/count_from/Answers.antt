use Prim.Native.Nat.{◌+◌, ◌≤◌}
use mathlib.Core.Path.{sym, ◌∙◌}
use native.Mathlib.Omega.{arith}
use lib.ListN.{length}
use Rattle.frd_rules.specs.Block.{length_of}
use Rattle.frd_rules.proofs.LogLaws.{IsBlock, block_fits}
use Rattle.frd_rules.proofs.BlockLaws.{number_there}
use Rattle.frd_rules.proofs.TallyLaws.{no_block, some_block, tally_start, tally_more, tally_ends}
use Rattle.frd.proofs.block_counting.count_from.Goals as goal
use Rattle.frd.proofs.block_counting.count_from.Goals.{After-length_of-at}

pub loop-at-init : goal.loop-at-init
loop-at-init c = let a = c.args in (omega arith, tally_start a.size a.file.now a.begin)

pub returns-in_default : goal.returns-in_default
returns-in_default c =
    let a = c.args in
    let l = c.loop-at in
    let read = c.read_block-b in
    let ends = no_block read.result c.in_default.not-Data c.in_default.not-Time in
    let number = sym (number_there a.size l.count a.file.now l.at) in
    rw (c.check_block.ensures, number, ← read.ensures.value.0)
    (tally_ends _ _ _ _ _ (sym read.ensures.value.0) ends ∙ l.invariant.1)

-- a block that is passed over has two bytes at least, and lies within the file
module _ (c : After-length_of-at) where
  goes : IsBlock c.read_block-b.result
  goes = some_block _ c.in-Data.is

  inside : let a = c.args in
      let b = c.read_block-b.result in
      (2 ≤ length_of a.size b) × (c.loop-at.at + length_of a.size b ≤ length a.file.now)
  inside = block_fits _ _ _ _ _ (sym c.read_block-b.ensures.value.0) goes

pub overflow_add-at : goal.overflow_add-at
overflow_add-at c = omega (arith, c.length_of-at.ensures, (inside c).1)

pub overflow_add-count : goal.overflow_add-count
overflow_add-count c = omega (arith, (inside c).1)

pub loop-at-smaller : goal.loop-at-smaller
loop-at-smaller c = omega (arith, c.length_of-at.ensures, (inside c).0, (inside c).1)

pub loop-at-preserved : goal.loop-at-preserved
loop-at-preserved c =
    let inv = c.loop-at.invariant in
    rw c.length_of-at.ensures (
      omega (arith, (inside c).0),
      sym (tally_more _ _ _ _ _ (sym c.read_block-b.ensures.value.0) (goes c)) ∙ inv.1,
    )

use Rattle.std.proofs.Common.{ℕ, ◌+◌, ◌≤◌, ◌<◌, length, refl, sym, ap, ◌∙◌, arith}
use Rattle.wire.specs.declared.views.Tally.{Tally}
use Rattle.wire.proofs.RefusalLaws.{code_ne0}
use Rattle.mlg_rules.specs.Log.{length_of}
use Rattle.mlg_rules.proofs.BlockNumbers.{bad_there}
use Rattle.mlg_rules.proofs.LogLaws.{IsBlock}
use Rattle.mlg_rules.proofs.TallyLaws.{no_block, some_block, block_takes, at_fits, tally_start, tally_more, tally_ends}
use Rattle.mlg.proofs.block_counting.count_from.Goals as goal
use Rattle.mlg.proofs.block_counting.count_from.Goals.{After-length_of-at}

pub loop-b-init : goal.loop-b-init
loop-b-init c = let a = c.args in (omega arith, omega arith, tally_start a.size a.file.now a.begin)

pub returns-in-Err : goal.returns-in-Err
returns-in-Err c =
    let l = c.loop-b in
    let there = bad_there _ l.count _ _ _ c.in-Err.ensures.number (code_ne0 _) in
    rw c.in-Err.ensures.number (tally_ends _ _ _ _ _ l.invariant.0 refl (λ g. rw (sym there) at g) ∙ l.invariant.2)

pub returns-in_default : goal.returns-in_default
returns-in_default c =
    let l = c.loop-b in
    let ends = rw (c.in-Ok.ensures.block _ refl) at (no_block _ c.in_default.not-Data c.in_default.not-Mark) in
    let tally : ℕ → Tally = λ n. record { blocks = l.count; ending = n; place = l.at } in
    ap tally c.in-Ok.ensures.number ∙ tally_ends _ _ _ _ _ l.invariant.0 refl ends ∙ l.invariant.2

-- a block that is passed over takes bytes, and lies within the file
module _ (c : After-length_of-at) where
  goes : IsBlock c.in-Ok.b
  goes = some_block _ c.in-Data.is

  some : 0 < length_of c.args.size c.in-Ok.b
  some = block_takes _ _ goes

  inside : let a = c.args in
      c.loop-b.at + length_of a.size c.in-Ok.b ≤ length a.file.now
  inside = at_fits _ _ _ _ _ (sym (c.in-Ok.ensures.block _ refl)) goes

pub overflow_add-at : goal.overflow_add-at
overflow_add-at c = omega (arith, c.length_of-at.ensures, inside c)

pub overflow_add-count : goal.overflow_add-count
overflow_add-count c = omega (arith, inside c)

pub loop-b-smaller : goal.loop-b-smaller
loop-b-smaller c = omega (arith, c.length_of-at.ensures, some c, inside c)

pub loop-b-preserved : goal.loop-b-preserved
loop-b-preserved c =
    let inv = c.loop-b.invariant in
    rw c.length_of-at.ensures (
      omega (arith, some c, inside c),
      omega (arith, some c),
      sym (tally_more _ _ _ _ _ inv.0 (sym (c.in-Ok.ensures.block _ refl)) (goes c)) ∙ inv.2,
    )

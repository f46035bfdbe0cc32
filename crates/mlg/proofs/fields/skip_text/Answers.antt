use Prim.Native.Nat.{◌-◌}
use mathlib.Core.Path.{refl, ◌∙◌}
use native.Mathlib.Omega.{arith}
use Rattle.mlg_rules.proofs.ZeroLaws.{part_before}
use Rattle.mlg.proofs.fields.skip_text.Goals as goal

pub loop-i-init : goal.loop-i-init
loop-i-init c = (refl, omega arith)

pub returns-then-has_zero : goal.returns-then-has_zero
returns-then-has_zero c = c.loop-i.invariant

pub loop-i-preserved : goal.loop-i-preserved
loop-i-preserved c =
    let loop = c.loop-i in
    let s = c.args.s.now in
    (part_before s (loop.i - 16) loop.i (omega arith) (c.has_zero.ensures c.if-has_zero.false) ∙ loop.invariant.0, omega arith)

pub returns : goal.returns
returns c = c.loop-i.invariant

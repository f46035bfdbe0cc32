use borrow.Author.Rules.{rules}
use Prim.Native.Nat.{ℕ}
use mathlib.Core.Path.{sym, ◌∙◌, ap}
use native.Mathlib.Omega.{arith}
use borrow.Author.Tests.{ne_eqb}
use Rattle.bridge_rules.specs.Turn.{aged_bridge}
use Rattle.bridge.proofs.MovedSlots.{aged_on, ages, stays, none_left, aged_four}
use Rattle.bridge.proofs.turning.aged_bridge.Goals as goal
use Rattle.bridge.proofs.turning.aged_bridge.Goals.{then-slots-k-eq-WAITING, else-slots-k-eq-WAITING}

pub loop-i-init : goal.loop-i-init
loop-i-init c = ap (λ (n : ℕ). aged_on 4 n c.args.b.slots) (omega arith)

pub loop-i-preserved : goal.loop-i-preserved
loop-i-preserved c =
    let l = c.loop-i in
    l.invariant ∙ (elim c.if-slots-k-eq-WAITING.branch [
      | then-slots-k-eq-WAITING w ↦ ages _ l.i l.slots (omega arith) _ w.aged.ensures ∙ ap (aged_on _ _) (sym w.slots-is)
      | else-slots-k-eq-WAITING w ↦ stays _ l.i l.slots (omega arith) (ne_eqb _ 2 w.if-slots-k-eq-WAITING.false) ∙ ap (aged_on _ _) (sym w.slots-is)
    ])

pub returns : goal.returns
unfolding aged_bridge
returns c =
    let b = c.args.b in
    let l = c.loop-i in
    let none = l.invariant ∙ none_left _ l.i l.slots (omega arith) in
    let all = aged_four b.last b.slots (search rules) in
    rw (c.lowered.ensures, sym none ∙ all)

use Rattle.std.proofs.Common.{◌≡◌, ◌+◌, Bool, true, false, drop, sym, ◌∙◌}
use Rattle.wire.specs.Text.{zeros}
use Rattle.wire.proofs.Parts.{rest_of, rest_none}
use Rattle.wire.proofs.Texts.{zeros_at}
use Rattle.mlg.proofs.fields.has_zero.Goals as goal
use Rattle.mlg.proofs.fields.has_zero.Goals.{then-b-eq0, else-b-eq0}

pub loop-b-preserved : goal.loop-b-preserved
loop-b-preserved c =
    let s = c.args.s.now in
    let loop = c.loop-b in
    let here = rest_of zeros s loop.b-index c.loop-b-test.true in
    elim c.if-b-eq0.branch [
      | then-b-eq0 w ↦ λ none. let z : ◌≡◌ {A = Bool} true false = sym w.found-is ∙ none in cc
      | else-b-eq0 w ↦ λ none. loop.invariant (sym w.found-is ∙ none) ∙ here ∙ zeros_at _ (drop (loop.b-index + 1) s) w.if-b-eq0.false
    ]

pub returns : goal.returns
returns c = λ none. c.loop-b.invariant none ∙ rest_none zeros c.args.s.now c.loop-b.b-index c.loop-b-test.false

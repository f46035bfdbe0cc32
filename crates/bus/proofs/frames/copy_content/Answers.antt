use Rattle.std.proofs.Common.{◌≡◌, ◌+◌, length, take, refl, ap, ◌∙◌, arith, take_all, rules}
use lib.Seq.{sets, length-sets}
use Rattle.bus_rules.specs.Frames.{content}
use Rattle.bus_rules.proofs.FrameLaws.{content_min, content_at, sets_next, sets_done}
use Rattle.bus.proofs.frames.copy_content.Goals as goal

pub loop-i-init : goal.loop-i-init
loop-i-init c = (refl, refl)

-- a turn that copies is at a byte that counts
pub overflow_add-out : goal.overflow_add-out
overflow_add-out c = omega (arith, content_min c.args.f (search rules))

pub bounds-out-at : goal.bounds-out-at
bounds-out-at c = omega (arith, content_min c.args.f (search rules))

pub loop-i-preserved : goal.loop-i-preserved
loop-i-preserved c =
    let a = c.args in
    let i = c.loop-i.i in
    let bs = content a.f in
    let inv = c.loop-i.invariant in
    let l = content_min a.f (search rules) in
    let e : c.if-i-n.out ≡ sets a.out.now a.at (take (i + 1) bs) =
    elim c.if-i-n.branch [
      | goal.then-i-n w ↦ w.out-is ∙ rw (inv.1, ← content_at a.f i w.if-i-n.true) (sets_next a.out.now a.at bs i (omega (arith, w.if-i-n.true)))
      | goal.else-i-n w ↦ w.out-is ∙ inv.1 ∙ sets_done a.out.now a.at bs i (omega (arith, w.if-i-n.false))
    ] in
    (ap length e ∙ length-sets a.out.now a.at (take (i + 1) bs), e)

pub shape_of-out : goal.shape_of-out
shape_of-out c = c.loop-i.invariant.0

pub returns : goal.returns
returns c =
    let a = c.args in
    let e = take_all c.loop-i.i (content a.f) (omega (arith, content_min a.f (search rules))) in
    c.loop-i.invariant.1 ∙ ap (sets a.out.now a.at) e

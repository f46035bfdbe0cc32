use Rattle.std.proofs.Common.{◌≡◌, length, take, replicate, sym, refl, ◌∙◌, subst, zero-add, arith, length-take}
use Rattle.bus_rules.specs.Frames.{padded, frame_with, build_of}
use Rattle.bus_rules.specs.declared.Frame.{Frame}
use Rattle.bus_rules.specs.Rows.{Built}
use Rattle.bus_rules.proofs.FrameLaws.{padded_take, padded_sets, sets_next, sets_done}
use Rattle.bus_rules.proofs.RowTheorems.{row_theorems}
use Rattle.bus.proofs.frames.build.Goals as goal
use Rattle.bus.proofs.frames.build.Goals.{then-i-bytes, else-i-bytes}

pub loop-i-init : goal.loop-i-init
loop-i-init c = (refl, omega arith)

pub overflow_add-len : goal.overflow_add-len
overflow_add-len c = omega (arith, c.loop-i.invariant.1)

pub loop-i-preserved : goal.loop-i-preserved
loop-i-preserved c =
    let bs = c.args.bytes.now in
    let i = c.loop-i.i in
    let inv = c.loop-i.invariant in (
      elim c.if-i-bytes.branch [
        | then-i-bytes w ↦ w.first-is ∙ rw inv.0 (rw zero-add at (sets_next (replicate 8 0) 0 bs i w.if-i-bytes.true))
        | else-i-bytes w ↦ w.first-is ∙ inv.0 ∙ sets_done (replicate 8 0) 0 bs i w.if-i-bytes.false
      ],
      elim c.if-i-bytes.branch [ then-i-bytes w ↦ omega (arith, inv.1) | else-i-bytes w ↦ omega (arith, inv.1) ],
    )

pub returns : goal.returns
unfolding build_of frame_with
returns c =
    let a = c.args in
    let bs = a.bytes.now in
    let l = c.loop-i in
    let end : l.i ≡ 8 = omega arith in
    let made : Frame = record { id = c.id_in_rows-id.result; len = l.len; bytes = l.first } in
    let count : l.len ≡ length (take 8 bs) = omega (arith, l.invariant.1, end, length-take 8 bs) in
    let first : l.first ≡ padded bs = l.invariant.0 ∙ rw end (padded_sets bs) in
    let e : made ≡ build_of a.p bs = rw (padded_take bs, c.id_in_rows-id.ensures, count, first) in
    record { value = e; built = subst (Built a.p bs) (sym e) (row_theorems.built a.p bs) }

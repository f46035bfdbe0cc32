use Prim.Native.Nat.{◌+◌, ◌*◌}
use native.Mathlib.Omega.{arith}
use Rattle.bus_rules.proofs.FrameLaws.{part_is}
use Rattle.bridge_rules.specs.Turn.{write_frame, outgoing}
use Rattle.bridge_rules.proofs.FrameLaws.{len_eight, len_inside}
use Rattle.bridge.proofs.SentFrames.{part_short}
use Rattle.bridge.proofs.sending.Sending.write_frame.Goals as goal

pub slice_bounds-next_frame-end : goal.slice_bounds-next_frame-end
slice_bounds-next_frame-end c =
    let x = c.args.self.slot in
    omega (arith, c.chunk_len.ensures, len_inside x.count x.progress c.args.self.unfinished)

pub next_frame-requires : goal.next_frame-requires
next_frame-requires c =
    let x = c.args.self.slot in (
      omega arith,
      part_short c.args.buffer.now (128 * c.args.self.k + x.progress) c.chunk_len.result
          (omega (arith, c.chunk_len.ensures, len_eight x.count x.progress)),
    )

pub returns : goal.returns
unfolding write_frame outgoing
returns c =
    rw (c.next_frame.ensures, part_is c.args.buffer.now _ _, c.chunk_len.ensures)

use Rattle.std.proofs.Common.{◌≡◌, min, length, take, replicate}
use lib.Seq.{sets}
use Rattle.bus.proofs.frames.build.Given as goal

abbrev pub invariant-loop-i : goal.invariant-loop-i
invariant-loop-i l = (l.first ≡ sets (replicate 8 0) 0 (take l.i l.bytes)) × (l.len ≡ min (length l.bytes) l.i)

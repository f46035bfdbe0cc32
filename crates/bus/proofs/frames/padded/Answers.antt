use Rattle.std.proofs.Common.{ap, ◌∙◌}
use Rattle.bus_rules.specs.Frames.{frame_with, build_of}
use Rattle.bus_rules.specs.declared.Frame.{Frame}
use Rattle.bus_rules.proofs.FrameLaws.{padded_take}
use Rattle.bus.proofs.frames.padded.Goals as goal

pub returns : goal.returns
unfolding build_of frame_with
returns c = ap (λ (f : Frame). f.bytes) c.build.ensures.value ∙ padded_take c.args.bytes.now

use Rattle.std.proofs.Common.{ℕ, take, drop, ◌∙◌, ap₂, arith}
use lib.Seq.{sets}
use Rattle.wire.proofs.Puts.{put_sets}
use Rattle.bus_rules.specs.Device.{copy_table}
use Rattle.bus_rules.proofs.FrameLaws.{part_is, part_length}
use Rattle.bus.proofs.holder.Table.copy.Goals as goal

pub returns : goal.returns
unfolding copy_table
returns c = λ d k g h.
    let l = part_length c.args.from.now c.args.self.start c.args.self.size c.requires.0 in
    (rw part_is at c.put.ensures) ∙ put_sets _ _ _ (omega (arith, l, c.requires.1))
    ∙ ap₂ (λ (at n : ℕ). sets c.args.to.now at (take n (drop at c.args.from.now))) g h

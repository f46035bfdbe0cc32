use Rattle.std.proofs.Common.{◌-◌, negsuc, sym, ◌∙◌, arith, w64, SFits}
use mir.ValLaws.{to_z_pos, to_z-of_z}
use Rattle.wire.proofs.Signs.{minus_one, twos_low, twos_high}
use Rattle.wire.proofs.signed.Goals as goal

pub overflow_sub-result-else-x-half-3 : goal.overflow_sub-result-else-x-half-3
overflow_sub-result-else-x-half-3 c = let n = c.args.half - 1 - (c.args.x - c.args.half) in
    rw (to_z_pos w64 n (omega arith), minus_one n) (record { sfits = omega arith })

pub returns-then-x-half : goal.returns-then-x-half
returns-then-x-half c = to_z_pos w64 _ (omega arith) ∙ sym (twos_low _ _ c.if-x-half.true)

pub returns-else-x-half : goal.returns-else-x-half
returns-else-x-half c = let n = c.args.half - 1 - (c.args.x - c.args.half) in
    let f : SFits w64 (negsuc n) = record { sfits = omega arith } in
    rw (to_z_pos w64 n (omega arith), minus_one n) (to_z-of_z w64 (negsuc n) f ∙ sym (twos_high _ _ c.if-x-half.false c.requires.1))

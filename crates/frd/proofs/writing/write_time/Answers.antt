use borrow.Author.Rules.{rules}
use mathlib.Core.Path.{refl, ◌∙◌}
use native.Mathlib.Omega.{arith}
use Rattle.wire.proofs.Writes.{refuses, writes, put_first}
use Rattle.frd_rules.specs.Block.{counter_after}
use Rattle.frd_rules.specs.Writing.{time_bytes, write_time_number}
use Rattle.frd_rules.proofs.BlockBack.{time_back}
use Rattle.frd_rules.proofs.WritingLaws.{time_length, room_short, room_left}
use Rattle.frd.proofs.writing.write_time.Goals as goal

pub returns-then-out-lt6 : goal.returns-then-out-lt6
unfolding write_time_number
returns-then-out-lt6 c =
    let a = c.args in
    let k = time_length (counter_after a.earlier) a.time in
    record { value = refuses 27 _ _ _ (room_short _ _ (omega arith)) (λ z. omega arith); back = time_back _ _ (search rules) }

pub returns : goal.returns
unfolding time_bytes write_time_number
returns c =
    let a = c.args in
    let b = time_bytes (counter_after a.earlier) a.time in
    let p = put_first a.out.now b (omega arith) (c.put.ensures ∙ (rw (c.counter_after.ensures.value, c.four_bytes-t.ensures))) in
    record { value = writes _ _ _ _ _ (room_left b _ (omega arith)) refl p; back = time_back _ _ (search rules) }

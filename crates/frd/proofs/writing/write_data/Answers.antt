use mathlib.Core.Path.{sym}
use native.Mathlib.Omega.{arith}
use lib.ListN.{length}
use Rattle.wire.proofs.Writes.{refuses, writes}
use Rattle.wire.proofs.Orders.{order}
use Rattle.frd_rules.specs.Block.{counter_after}
use Rattle.frd_rules.specs.Writing.{data_bytes, write_data_number}
use Rattle.frd_rules.proofs.BlockBack.{data_back}
use Rattle.frd_rules.proofs.WritingLaws.{data_length, room_short, room_left, data_put}
use Rattle.frd.proofs.writing.write_data.Goals as goal

pub returns-then-len-from : goal.returns-then-len-from
unfolding write_data_number
returns-then-len-from c = record { value = refuses 23 _ _ _ (search order depth 9) (λ z. omega arith); back = data_back _ _ _ }

pub returns-then-out-len : goal.returns-then-out-len
unfolding write_data_number
returns-then-out-len c =
    let a = c.args in
    let b = data_bytes (counter_after a.earlier) a.bytes.now in
    let k = data_length (counter_after a.earlier) a.bytes.now in
    let s = room_short b (length a.out.now) (omega arith) in
    record { value = refuses 27 _ _ _ (search (order, s) depth 9) (λ z. omega arith); back = data_back _ _ _ }

pub returns : goal.returns
unfolding write_data_number
returns c =
    let a = c.args in
    let n = counter_after a.earlier in
    let k = data_length n a.bytes.now in
    let s = room_left (data_bytes n a.bytes.now) (length a.out.now) (omega arith) in
    let p = data_put n a.out.now a.bytes.now _ (rw c.counter_after.ensures.value) (omega arith) c.put.ensures c.put-2.ensures in
    record { value = writes _ _ _ _ _ (search (order, s) depth 9) (sym k) p; back = data_back _ _ _ }

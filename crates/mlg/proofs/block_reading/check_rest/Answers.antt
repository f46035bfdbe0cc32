use Rattle.std.proofs.Common.{arith}
use Rattle.wire.proofs.Orders.{order}
use Rattle.mlg_rules.specs.Block.{rest_number, type_in}
use Rattle.mlg_rules.proofs.BlockLaws.{len_data, len_mark, known_mark, none_len, known_len}
use Rattle.mlg.proofs.block_reading.check_rest.Goals as goal

pub returns-in_default : goal.returns-in_default
unfolding rest_number
returns-in_default c = let k = none_len _ c.in_default.ensures in search order depth 9

pub returns-then-t-len : goal.returns-then-t-len
unfolding rest_number
returns-then-t-len c = let k = known_len _ _ c.in-Some.ensures in rw k.0 (search order depth 9)

pub check_sum-requires : goal.check_sum-requires
check_sum-requires c =
    let a = c.args in
    omega (arith, (known_len _ _ c.in-Some.ensures).0, len_data a.size (type_in a.t.now) c.if-kind-eq0.true)

pub returns-then-kind-eq0 : goal.returns-then-kind-eq0
unfolding rest_number
returns-then-kind-eq0 c = let k = known_len _ _ c.in-Some.ensures in rw (k.0, c.if-kind-eq0.true) (search order depth 9)

pub check_text-requires : goal.check_text-requires
check_text-requires c =
    let a = c.args in
    let k = known_len _ _ c.in-Some.ensures in
    omega (arith, k.0, len_mark a.size (type_in a.t.now) (known_mark a.size (type_in a.t.now) (λ z. omega (arith, k.0)) c.if-kind-eq0.false))

pub returns-else-kind-eq0 : goal.returns-else-kind-eq0
unfolding rest_number
returns-else-kind-eq0 c =
    let k = known_len _ _ c.in-Some.ensures in
    let mark = known_mark c.args.size _ k.1 c.if-kind-eq0.false in
    rw (k.0, mark) (search order depth 9)

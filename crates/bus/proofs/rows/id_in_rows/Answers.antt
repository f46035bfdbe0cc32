use Rattle.std.proofs.Common.{◌≡◌, ℕ, ◌/◌, ◌%◌, arith}
use Rattle.bus_rules.specs.Ident.{in_rows}
use Rattle.bus_rules.proofs.IdentLaws.{id_is}
use Rattle.bus.proofs.rows.id_in_rows.Goals as goal

-- a table modulo 32: its bit 4, and its low four bits
high_bit : (t : ℕ) → t % 32 / 16 ≡ t / 16 % 2
high_bit t = omega arith

low_bits : (t : ℕ) → t % 32 % 16 ≡ t % 16
low_bits t = omega arith

pub returns : goal.returns
unfolding in_rows
returns c =
    let p = c.args.p in
    let q = in_rows p in
    omega (arith, id_is q.offset q.kind q.from q.to q.table, high_bit p.table, low_bits p.table)

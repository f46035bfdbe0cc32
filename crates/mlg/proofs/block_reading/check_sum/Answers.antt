use Rattle.std.proofs.Common.{◌≡◌, ℕ, ◌+◌, ◌-◌, List, take, drop, sym, ◌∙◌, ap, arith}
use Rattle.wire.specs.Sum.{sum_of}
use Rattle.wire.proofs.Orders.{order, if_yes, not_yes}
use borrow.Author.Tests.{ne_eqb}
use Rattle.mlg_rules.specs.Block.{record_in, last_of}
use Rattle.mlg.proofs.block_reading.check_sum.Goals as goal

-- the sum of the record's bytes
summed : (n size : ℕ) (t : List ℕ) (r : ℕ) → n ≡ size → r ≡ sum_of (take (n + 4 - 4) (drop 4 t)) → r ≡ sum_of (record_in size t)
summed n size t r len is = is ∙ ap (λ (k : ℕ). sum_of (take k (drop 4 t))) {x = n + 4 - 4} {y = size} (omega arith)

pub returns-then-sum_of-t : goal.returns-then-sum_of-t
unfolding last_of
returns-then-sum_of-t c =
    let sum = summed c.from-len.result c.args.size c.args.t.now _ c.from-len.ensures c.sum_of.ensures in
    if_yes 26 _ 0 (not_yes _ (ne_eqb _ _ (λ z. c.if-sum_of-t.true (rw c.from-len.ensures (sum ∙ z)))))

pub returns : goal.returns
unfolding last_of
returns c =
    let sum = summed c.from-len.result c.args.size c.args.t.now _ c.from-len.ensures c.sum_of.ensures in
    let h = sym sum ∙ (rw c.from-len.ensures at c.if-sum_of-t.false) in search order depth 9

use Rattle.std.proofs.Common.{ℕ, ◌*◌, take, drop, sym, ap, ◌∙◌, arith, pow_pos}
use native.Mathlib.Nat.{add-sub_cancel_left}
use Rattle.wire.specs.BigEndian.{be_of}
use Rattle.wire.proofs.Parts.{rest_part, nothing_at}
use Rattle.wire.proofs.Numbers.{below_part}
use Rattle.wire.proofs.be_at.Goals as goal

pub returns-then-s-at : goal.returns-then-s-at
returns-then-s-at c = let a = c.args in
    (ap be_of (sym (nothing_at a.n a.s.now a.at c.if-s-at.true)), pow_pos (8 * a.n))

pub returns-then-s-at-2 : goal.returns-then-s-at-2
returns-then-s-at-2 c = let a = c.args in
    let e = rest_part a.s.now a.at a.n (omega arith) in
    (c.be_of.ensures.0 ∙ ap be_of e, below_part a.n (drop a.at a.s.now) c.be_of.ensures.1 e)

pub returns : goal.returns
returns c = let a = c.args in
    let e = ap (λ (k : ℕ). take k (drop a.at a.s.now)) (add-sub_cancel_left a.at a.n) in
    (c.be_of-2.ensures.0 ∙ ap be_of e, below_part a.n (drop a.at a.s.now) c.be_of-2.ensures.1 e)

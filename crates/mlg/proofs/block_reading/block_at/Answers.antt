use Rattle.std.proofs.Common.{◌≡◌, ℕ, ◌<◌, ◌≤◌, sym, ◌∙◌, arith}
use Rattle.std.proofs.lemmas.Result.{err_from_is_err_and}
use Rattle.wire.proofs.Parts.{tail_part}
use Rattle.mlg_rules.specs.declared.Block.{Block}
use Rattle.mlg_rules.specs.declared.Block.TheVariants.{End}
use Rattle.mlg_rules.proofs.BlockNumbers.{number_past, number_end, number_rest, good_parts, good_end}
use Rattle.mlg.proofs.block_reading.block_at.Goals as goal

pub returns-then-file-at-clause-number : goal.returns-then-file-at-clause-number
returns-then-file-at-clause-number c = sym (number_past _ c.args.earlier _ _ c.if-file-at.true)

pub returns-then-file-at-2-clause-number : goal.returns-then-file-at-2-clause-number
returns-then-file-at-2-clause-number c = sym (number_end _ c.args.earlier _ _ (sym c.if-file-at-2.true))

pub returns-then-file-at-2-clause-block : goal.returns-then-file-at-2-clause-block
returns-then-file-at-2-clause-block c = λ b is. let q : ◌≡◌ {A = Block} End b = cc in sym q ∙ good_end _ _ _ _ (sym c.if-file-at-2.true)

before : (at n : ℕ) → at ≤ n → (n ≡ at → ⊥) → at < n
before at n h k = omega (arith, h, λ (z : at ≡ n). k (sym z))

pub returns-in_err-check_rest-clause-number : goal.returns-in_err-check_rest-clause-number
returns-in_err-check_rest-clause-number c =
    let a = c.args in
    let r = err_from_is_err_and c.from_residual.result c.from_residual.ensures.1 in
    let some = before _ _ c.if-file-at.false c.if-file-at-2.false in
    rw (r.1, r.2) ((rw tail_part at c.in_err-check_rest.ensures) ∙ sym (number_rest _ a.earlier _ _ some))

pub returns-clause-number : goal.returns-clause-number
returns-clause-number c =
    let a = c.args in
    let some = before _ _ c.if-file-at.false c.if-file-at-2.false in
    (rw tail_part at c.in_ok-check_rest.ensures) ∙ sym (number_rest _ a.earlier _ _ some)

pub returns-clause-block : goal.returns-clause-block
returns-clause-block c =
    let a = c.args in
    let some = before _ _ c.if-file-at.false c.if-file-at-2.false in
    let good = (rw tail_part at c.in_ok-check_rest.ensures) ∙ sym (number_rest _ a.earlier _ _ some) in
    let parts = rw (tail_part, c.counter_after.ensures.value) at c.block_parts.ensures in
    λ b is. let q : c.block_parts.result ≡ b = cc in sym q ∙ parts ∙ good_parts _ _ _ _ some (sym good)

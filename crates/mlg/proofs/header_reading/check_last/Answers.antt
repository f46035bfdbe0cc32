use Rattle.std.proofs.Common.{refl, sym, ◌∙◌}
use borrow.Author.Tests.{eq-eqb, ne_eqb, not-true}
use Rattle.wire.proofs.Orders.{order, if_yes, if_no, not_no, not-false}
use Rattle.mlg_rules.specs.Header.{last_number}
use Rattle.mlg.proofs.header_reading.check_last.Goals as goal

pub returns-then-total-from : goal.returns-then-total-from
unfolding last_number
returns-then-total-from c = λ fields bytes sum told. rw (← sum, ← c.from.ensures) (search order depth 12)

pub returns-then-info-eq0 : goal.returns-then-info-eq0
unfolding last_number
returns-then-info-eq0 c = λ fields bytes sum told. rw (← sum, ← c.from.ensures) (search order depth 12)

pub has_zero_from-requires : goal.has_zero_from-requires
has_zero_from-requires c = rw c.requires.0 (c.requires.1 c.if-info-eq0.false)

pub returns-then-not-has_zero_from : goal.returns-then-not-has_zero_from
unfolding last_number
returns-then-not-has_zero_from c = λ fields bytes sum told.
    let flag = rw c.requires.0 at (c.has_zero_from.ensures bytes told) in
    rw (← sum)
    (if_no 23 _ _ _ (not_no _ (eq-eqb _ _ (c.if-total-from.false ∙ c.from.ensures)))
    (if_no 0 _ _ _ (ne_eqb _ _ c.if-info-eq0.false)
    (if_yes 28 _ _ (not-false _ (sym flag ∙ c.if-not-has_zero_from.true)))))

pub returns : goal.returns
unfolding last_number
returns c = λ fields bytes sum told.
    let flag = rw c.requires.0 at (c.has_zero_from.ensures bytes told) in
    rw (← sum)
    (if_no 23 _ _ _ (not_no _ (eq-eqb _ _ (c.if-total-from.false ∙ c.from.ensures)))
    (if_no 0 _ _ _ (ne_eqb _ _ c.if-info-eq0.false)
    (if_no 28 _ _ _ (not-true _ (sym flag ∙ c.if-not-has_zero_from.false)) refl)))

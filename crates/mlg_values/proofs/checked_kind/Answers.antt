use Rattle.std.proofs.Common.{◌≡◌, sym, ◌∙◌, arith}
use borrow.Author.Tests.{leb-true, leb-false}
use Rattle.wire.proofs.Orders.{order}
use Rattle.mlg_rules.specs.Field.{type_number}
use Rattle.mlg_rules.specs.Types.{size_of}
use Rattle.mlg_rules.proofs.TypeLaws.{size_most}
use Rattle.mlg_values.specs.Kinds.{kind_number}
use Rattle.mlg_values.proofs.KindLaws.{kind_sized}
use Rattle.mlg_values.proofs.checked_kind.Goals as goal

pub returns-in_default-clause-number : goal.returns-in_default-clause-number
unfolding type_number
returns-in_default-clause-number c = let none = c.in_default.ensures in search order depth 12

pub returns-then-not-is_bits-clause-number : goal.returns-then-not-is_bits-clause-number
unfolding type_number
returns-then-not-is_bits-clause-number c =
    let kind = c.in-Some.kind in
    let is = c.in-Some.ensures in
    let few = leb-false 10 (kind_number kind) (sym c.is_bits.ensures ∙ c.if-not-is_bits.true) in
    let some : size_of (kind_number kind) ≡ 0 → ⊥ = λ z. omega (arith, kind_sized kind) in
    rw (← is) (search order depth 12)

pub overflow_mul-size : goal.overflow_mul-size
overflow_mul-size c = omega (arith, c.size.ensures, size_most (kind_number c.in-Some.kind))

pub returns-then-size-bits-clause-number : goal.returns-then-size-bits-clause-number
unfolding type_number
returns-then-size-bits-clause-number c =
    let kind = c.in-Some.kind in
    let is = c.in-Some.ensures in
    let bits = leb-true 10 (kind_number kind) (sym c.is_bits.ensures ∙ c.if-not-is_bits.false) in
    let some : size_of (kind_number kind) ≡ 0 → ⊥ = λ z. omega (arith, kind_sized kind) in
    rw (← is, ← c.size.ensures) (search order depth 12)

pub returns-clause-number : goal.returns-clause-number
unfolding type_number
returns-clause-number c =
    let kind = c.in-Some.kind in
    let is = c.in-Some.ensures in
    let bits = leb-true 10 (kind_number kind) (sym c.is_bits.ensures ∙ c.if-not-is_bits.false) in
    let some : size_of (kind_number kind) ≡ 0 → ⊥ = λ z. omega (arith, kind_sized kind) in
    rw (← is, ← c.size.ensures) (search order depth 12)

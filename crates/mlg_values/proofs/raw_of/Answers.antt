use Rattle.std.proofs.Common.{◌≢◌, refl, sym, ◌∙◌, ap, arith}
use lib.IntN.{pos}
use mir.Syntax.{w64}
use mir.ValLaws.{to_z-of_z}
use Rattle.mlg_rules.specs.Types.{size_of}
use Rattle.mlg_rules.proofs.TypeLaws.{size_at_lem, size_plain}
use Rattle.mlg_rules.proofs.RawLaws.{raw_signed, raw_plain, whole, single}
use Rattle.mlg_rules.specs.Raw.{signed_type}
use Rattle.mlg_values.specs.Kinds.{kind_number}
use Rattle.mlg_values.specs.declared.Kind.TheVariants as K
use Rattle.mlg_values.proofs.KindLaws.{same_kind}
use Rattle.mlg_values.proofs.raw_of.Goals as goal

pub returns-in-S08 : goal.returns-in-S08
unfolding size_of signed_type
returns-in-S08 c =
    let a = c.args in
    let e = ap kind_number c.in-S08.is in
    to_z-of_z w64 _ (record { sfits = c.s08.type_inv }) ∙ c.s08.ensures ∙ raw_signed _ 1 _ _ e refl
    (c.byte_at.ensures ∙ single a.raw.now (c.requires ∙ size_at_lem _ 1 1 e refl))

pub returns-in-S16 : goal.returns-in-S16
unfolding size_of signed_type
returns-in-S16 c =
    let a = c.args in
    let e = ap kind_number c.in-S16.is in
    to_z-of_z w64 _ (record { sfits = c.s16.type_inv }) ∙ c.s16.ensures ∙ raw_signed _ 3 _ _ e refl
    (c.be16.ensures ∙ whole 2 a.raw.now (omega (arith, c.requires, size_at_lem (kind_number a.kind) 3 2 e refl)))

pub returns-in-S32 : goal.returns-in-S32
unfolding size_of signed_type
returns-in-S32 c =
    let a = c.args in
    let e = ap kind_number c.in-S32.is in
    to_z-of_z w64 _ (record { sfits = c.s32.type_inv }) ∙ c.s32.ensures ∙ raw_signed _ 5 _ _ e refl
    (c.be32.ensures ∙ whole 4 a.raw.now (omega (arith, c.requires, size_at_lem (kind_number a.kind) 5 4 e refl)))

pub returns-in-S64 : goal.returns-in-S64
unfolding size_of signed_type
returns-in-S64 c =
    let a = c.args in
    let e = ap kind_number c.in-S64.is in
    to_z-of_z w64 _ (record { sfits = c.s64.type_inv }) ∙ c.s64.ensures ∙ raw_signed _ 6 _ _ e refl
    (c.number.ensures ∙ whole 8 a.raw.now (omega (arith, c.requires, size_at_lem (kind_number a.kind) 6 8 e refl)))

pub returns-in_default : goal.returns-in_default
returns-in_default c =
    let n = kind_number c.args.kind in
    let not-in = c.in_default in
    let other : n ≢ 6 = λ e. not-in.not-S64 (same_kind _ K.S64 e) in
    let e = c.be32-in_default.ensures ∙ whole 4 c.args.raw.now (omega (arith, c.requires, size_plain n other)) in
    to_z-of_z w64 _ (record { sfits = c.from.type_inv }) ∙ c.from.ensures ∙ ap pos e
    ∙ sym (raw_plain _ _ (λ e. not-in.not-S08 (same_kind _ K.S08 e)) (λ e. not-in.not-S16 (same_kind _ K.S16 e))
    (λ e. not-in.not-S32 (same_kind _ K.S32 e)) other)

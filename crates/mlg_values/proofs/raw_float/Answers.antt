use Rattle.std.proofs.Common.{◌≡◌, ℕ, Bool, true, false, not, List, Result, Err, length, refl, sym, ap, ◌∙◌, arith}
use mir.Syntax.{w64}
use mir.ValLaws.{to_z-of_z}
use lib.Ieee.{Float, binary32, of_int, of_bits}
use Rattle.wire.specs.Order.{◌if◌else◌}
use Rattle.wire.specs.BigEndian.{be_at}
use Rattle.wire.specs.Refusals.{code, number_of}
use Rattle.wire.specs.declared.refusal.Refusal.{Refusal}
use Rattle.wire.proofs.RefusalLaws.{code_ne0}
use Rattle.mlg_rules.specs.Types.{size_of}
use Rattle.mlg_rules.specs.Shown.{finite, raw_float}
use Rattle.mlg_rules.proofs.TypeLaws.{size_at_lem}
use Rattle.mlg_rules.proofs.RawLaws.{raw_small, whole}
use Rattle.mlg_rules.proofs.ShownLaws.{shown_small, float_whole, float_bits}
use Rattle.mlg_values.specs.Kinds.{kind_number}
use Rattle.mlg_values.specs.declared.Kind.{Kind}
use Rattle.mlg_values.specs.declared.Kind.TheVariants as K
use Rattle.mlg_values.proofs.KindLaws.{same_kind}
use Rattle.mlg_values.proofs.raw_float.Goals as goal

pub as_float-requires : goal.as_float-requires
as_float-requires c =
    let pre = c.requires in
    rw (to_z-of_z w64 _ (record { sfits = c.raw_of.type_inv }), c.raw_of.ensures)
    (raw_small _ _ (shown_small _ pre.1 (λ e. c.in_default.not-F32 (same_kind _ K.F32 e))) pre.0 (λ i. omega (arith, c.type_inv.raw i)))

-- an F32's raw bytes, as the f32 at their start
float_is : (k : Kind) (b : List ℕ) → k ≡ K.F32 → length b ≡ size_of (kind_number k) → of_bits binary32 (be_at 4 b 0) ≡ raw_float (kind_number k) b
unfolding size_of
float_is k b is long =
    let e : kind_number k ≡ 7 = ap kind_number is in
    ap (of_bits binary32) (whole 4 b (omega (arith, long, size_at_lem (kind_number k) 7 4 e refl))) ∙ float_bits _ b e

-- what refuses an f32
refused_float : (r : Result Float Refusal) (e : Refusal) {x y : Float} → r ≡ Err e → x ≡ y → number_of r ≡ (30 if not (finite x) else 0)
    → (code e ≡ 30) × (finite y ≡ false)
unfolding ◌if◌else◌
refused_float r e {x} is same number = by_test (finite x) (code e) (rw is at number) (code_ne0 e) (ap finite same)
  where
    by_test : (t : Bool) {u : Bool} (n : ℕ) → n ≡ (30 if not t else 0) → (n ≡ 0 → ⊥) → t ≡ u → (n ≡ 30) × (u ≡ false)
    by_test true n e h k = absurd (h e)
    by_test false n e h k = (e, sym k)

pub returns-in-F32-clause-number : goal.returns-in-F32-clause-number
returns-in-F32-clause-number c =
    let bits = float_is c.args.kind c.args.raw.now c.in-F32.is c.requires.0 in
    λ e is. refused_float c.finite_at.result e is bits c.finite_at.ensures.number

pub returns-in-F32-clause-value : goal.returns-in-F32-clause-value
returns-in-F32-clause-value c =
    let bits = float_is c.args.kind c.args.raw.now c.in-F32.is c.requires.0 in
    λ x is. c.finite_at.ensures.value x is ∙ bits

pub returns-in_default : goal.returns-in_default
returns-in_default c =
    let raw = to_z-of_z w64 _ (record { sfits = c.raw_of.type_inv }) ∙ c.raw_of.ensures in
    let whole = float_whole _ c.args.raw.now (λ e. c.in_default.not-F32 (same_kind _ K.F32 e)) in
    record { number = λ e is. cc; value = λ x is. let same : c.as_float.result ≡ x = cc in sym same ∙ c.as_float.ensures ∙ ap (of_int binary32) raw ∙ whole }

-- A type is told by its number.
use Rattle.std.proofs.Common.{◌≡◌, ◌≤◌, ℕ, cond, eqb, refl, sym, ap, ◌∙◌, arith}
use Rattle.mlg_rules.specs.Types.{size_of}
use Rattle.mlg_values.specs.Kinds.{kind_number}
use Rattle.mlg_values.specs.declared.Kind.{Kind}
use Rattle.mlg_values.specs.declared.Kind.TheVariants as K

abbrev kind_at : ℕ → Kind
kind_at n =
    cond (eqb n 0) K.U08
    (cond (eqb n 1) K.S08
    (cond (eqb n 2) K.U16
    (cond (eqb n 3) K.S16
    (cond (eqb n 4) K.U32
    (cond (eqb n 5) K.S32
    (cond (eqb n 6) K.S64 (cond (eqb n 7) K.F32 (cond (eqb n 10) K.Bits8 (cond (eqb n 11) K.Bits16 K.Bits32)))))))))

kind_back : (k : Kind) → kind_at (kind_number k) ≡ k
kind_back K.U08 = refl
kind_back K.S08 = refl
kind_back K.U16 = refl
kind_back K.S16 = refl
kind_back K.U32 = refl
kind_back K.S32 = refl
kind_back K.S64 = refl
kind_back K.F32 = refl
kind_back K.Bits8 = refl
kind_back K.Bits16 = refl
kind_back K.Bits32 = refl

pub same_kind : (k j : Kind) → kind_number k ≡ kind_number j → k ≡ j
same_kind k j e = sym (kind_back k) ∙ ap kind_at e ∙ kind_back j

-- each takes bytes
pub kind_sized : (k : Kind) → 1 ≤ size_of (kind_number k)
unfolding size_of
kind_sized K.U08 = omega arith
kind_sized K.S08 = omega arith
kind_sized K.U16 = omega arith
kind_sized K.S16 = omega arith
kind_sized K.U32 = omega arith
kind_sized K.S32 = omega arith
kind_sized K.S64 = omega arith
kind_sized K.F32 = omega arith
kind_sized K.Bits8 = omega arith
kind_sized K.Bits16 = omega arith
kind_sized K.Bits32 = omega arith

-- What a header's places keep to where no number refuses them.
use Prim.Native.Nat.{ℕ, ◌≤◌, ◌<◌}
use mathlib.Core.Path.{◌≡◌}
use borrow.Author.Tests.{ltb-false, leb-false, ne_eqb}
use Rattle.mlg_rules.specs.declared.Header.{Header}
use Rattle.mlg_rules.specs.Header.{places_number, fields_end}
use Rattle.wire.proofs.Orders.{if_zero, if_skip}

-- what a header's places keep to in a file of n bytes
pub record Placed (n : ℕ) (h : Header) : Type 0 where
  pub fields : fields_end h ≤ n
  pub data_begins : h.begin ≤ n
  pub after_fields : fields_end h ≤ h.begin
  pub info_after : (h.info ≡ 0 → ⊥) → fields_end h ≤ h.info
  pub info_before_lem : (h.info ≡ 0 → ⊥) → h.info < h.begin

pub placed : (n : ℕ) (h : Header) → places_number n h ≡ 0 → Placed n h
unfolding places_number
placed n h e =
    let a = if_zero 19 _ _ e in
    let b = if_zero 22 _ _ a.1 in
    let d = if_zero 22 _ _ b.1 in
    record {
      fields = ltb-false _ _ a.0;
      after_fields = ltb-false _ _ b.0;
      data_begins = ltb-false _ _ d.0;
      info_after = λ k.
          ltb-false _ _ (if_zero 22 _ _ (if_skip 0 _ _ (ne_eqb _ _ k) d.1)).0;
      info_before_lem = λ k.
          let i = if_zero 22 _ _ (if_skip 0 _ _ (ne_eqb _ _ k) d.1) in
          leb-false _ _ (if_zero 22 _ _ i.1).0;
    }

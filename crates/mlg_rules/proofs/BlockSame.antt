-- A block rewritten from what was read.
use Prim.Native.Nat.{ℕ, zero, suc, ◌+◌, ◌*◌, ◌/◌, ◌%◌, ◌<◌}
use mathlib.Core.Path.{◌≡◌, refl, sym, ap, ◌∙◌}
use mathlib.Core.List.{List, [], ◌∷◌, ◌++◌}
use native.Mathlib.Omega.{arith}
use lib.ListN.{length, get_or, take, drop}
use lib.Seq.{take-suc}
use Rattle.wire.specs.BigEndian.{be_bytes}
use Rattle.wire.specs.Sum.{sum_of}
use Rattle.wire.specs.Text.{text_len}
use Rattle.mlg_rules.specs.Block.{block_len, type_in, counter_in, sum_in}
use Rattle.mlg_rules.specs.Writing.{start_bytes, data_bytes, padded_text, mark_bytes}
use Rattle.mlg_rules.specs.Entries.{rewritten, PaddedHere}
use Rattle.mlg_rules.specs.RoundTrip.{BlockSame}
use Rattle.mlg_rules.proofs.BlockLaws.{whole, least, data_whole, len_none, sum_stands}

-- two bytes read as a number, and written again
pub two_back : (x y : ℕ) → x < 256 → y < 256 → be_bytes 2 ((0 * 256 + x) * 256 + y) ≡ x ∷ y ∷ []
two_back x y p q =
    let a : ((0 * 256 + x) * 256 + y) / 256 % 256 ≡ x = omega arith in
    let b : ((0 * 256 + x) * 256 + y) % 256 ≡ y = omega arith in
    rw (a, b)

-- a data block's bytes
data_bytes_lem : (c m : ℕ) (rec : List ℕ) (x y : ℕ) → be_bytes 2 m ≡ x ∷ y ∷ [] → data_bytes c m rec ≡ 0 ∷ c ∷ x ∷ y ∷ (rec ++ (sum_of rec ∷ []))
unfolding data_bytes start_bytes
data_bytes_lem c m rec x y e = ap (λ (k : List ℕ). ((0 ∷ c ∷ k) ++ rec) ++ (sum_of rec ∷ [])) e

mark_bytes_lem : (c m : ℕ) (t : List ℕ) (x y : ℕ) → be_bytes 2 m ≡ x ∷ y ∷ [] → mark_bytes c m t ≡ 1 ∷ c ∷ x ∷ y ∷ padded_text t
unfolding mark_bytes start_bytes
mark_bytes_lem c m t x y e = ap (λ (k : List ℕ). (1 ∷ c ∷ k) ++ padded_text t) e

take_data : (l a b x y : ℕ) (u : List ℕ) → l < length u → take (l + 5) (a ∷ b ∷ x ∷ y ∷ u) ≡ a ∷ b ∷ x ∷ y ∷ (take l u ++ (get_or u l 0 ∷ []))
take_data l a b x y u h =
    let e : l + 5 ≡ suc (suc (suc (suc (suc l)))) = omega arith in
    rw (e, take-suc u l 0 h)

sum_at : (l a b x y : ℕ) (u : List ℕ) → sum_in l (a ∷ b ∷ x ∷ y ∷ u) ≡ get_or u l 0
sum_at l a b x y u = let e : l + 4 ≡ suc (suc (suc (suc l))) = omega arith in rw e

second : (p q : List ℕ) → p ≡ q → get_or p 1 0 ≡ get_or q 1 0
second p q e = ap (λ (l : List ℕ). get_or l 1 0) e

abbrev Same : ℕ → ℕ → List ℕ → Type 0
Same l c t =
    (((counter_in t ≡ c) × PaddedHere (type_in t) t) → rewritten (type_in t) l c t ≡ take (block_len l (type_in t)) t)
    × (rewritten (type_in t) l c t ≡ take (block_len l (type_in t)) t → (counter_in t ≡ c) × PaddedHere (type_in t) t)

-- the same bytes have the same counter
data_counter : (l c b x y : ℕ) (u : List ℕ) → l < length u
    → rewritten 0 l c (0 ∷ b ∷ x ∷ y ∷ u) ≡ take (block_len l 0) (0 ∷ b ∷ x ∷ y ∷ u) → b ≡ c
unfolding rewritten block_len data_bytes start_bytes
data_counter l c b x y u h p = sym (second _ _ (p ∙ take_data l 0 b x y u h))

mark_counter : (l c b x y : ℕ) (u : List ℕ) → rewritten 1 l c (1 ∷ b ∷ x ∷ y ∷ u) ≡ take (block_len l 1) (1 ∷ b ∷ x ∷ y ∷ u) → b ≡ c
unfolding rewritten block_len mark_bytes start_bytes
mark_counter l c b x y u p = sym (second _ _ p)

module _ (l c b x y : ℕ) (u : List ℕ) (hx : x < 256) (hy : y < 256) where
  data_same : l < length u → sum_of (take l u) ≡ get_or u l 0 → Same l c (0 ∷ b ∷ x ∷ y ∷ u)
  unfolding rewritten PaddedHere block_len
  data_same h s =
      let w = data_bytes_lem c ((0 * 256 + x) * 256 + y) (take l u) x y (two_back x y hx hy) in
      let t = take_data l 0 b x y u h in (
        λ p. w ∙ rw (← p.0, s) (sym t),
        λ p. (data_counter l c b x y u h p, tt),
      )

  mark_same : Same l c (1 ∷ b ∷ x ∷ y ∷ u)
  unfolding rewritten PaddedHere block_len
  mark_same =
      let w = mark_bytes_lem c ((0 * 256 + x) * 256 + y) (take (text_len (take 50 u)) (take 50 u)) x y (two_back x y hx hy) in (
        λ p. w ∙ rw (← p.0, ← p.1),
        λ p. (mark_counter l c b x y u p, sym (ap (drop 4) (sym w ∙ p))),
      )

pub block_same : BlockSame
unfolding BlockSame
block_same l c [] bytes z = absurd (omega (arith, least l [] _ refl z))
block_same l c (a ∷ []) bytes z = absurd (omega (arith, least l (a ∷ []) _ refl z))
block_same l c (a ∷ b ∷ []) bytes z = absurd (omega (arith, least l (a ∷ b ∷ []) _ refl z))
block_same l c (a ∷ b ∷ x ∷ []) bytes z = absurd (omega (arith, least l (a ∷ b ∷ x ∷ []) _ refl z))
block_same l c (zero ∷ b ∷ x ∷ y ∷ u) bytes z =
    let h = data_whole l (0 ∷ b ∷ x ∷ y ∷ u) z refl in
    let s = sum_stands 0 l (0 ∷ b ∷ x ∷ y ∷ u) refl (whole l (0 ∷ b ∷ x ∷ y ∷ u) z).2 ∙ sum_at l 0 b x y u in
    data_same l c b x y u (bytes 2) (bytes 3) (omega arith) s
block_same l c (suc zero ∷ b ∷ x ∷ y ∷ u) bytes z = mark_same l c b x y u (bytes 2) (bytes 3)
block_same l c (suc (suc k) ∷ b ∷ x ∷ y ∷ u) bytes z =
    absurd ((whole l (suc (suc k) ∷ b ∷ x ∷ y ∷ u) z).0 (len_none l (suc (suc k)) (λ w. omega arith) (λ w. omega arith)))

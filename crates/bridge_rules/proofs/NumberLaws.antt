-- Laws of the refusals: what follows from 0, and what an accepted state and buffers leave of a chain.
use Prim.Native.Nat.{ℕ, ◌+◌, ◌≤◌, ◌<◌}
use mathlib.Core.Path.{◌≡◌, refl, sym}
use mathlib.Core.Logic.{◌≢◌, ◌⊎◌, inl, inr}
use mathlib.Core.Bool.{Bool, true, false}
use lib.ListN.{length}
use native.Mathlib.Omega.{arith}
use borrow.Author.Tests.{eqb-true, eqb-false, eq-eqb, ne_eqb, le-ltb, ltb-false, leb-false, not-false}
use Rattle.wire.specs.Order.{◌if◌else◌, ◌or_else◌}
use Rattle.wire.proofs.Orders.{if_zero, else_zero, else_some}
use Rattle.bridge_rules.specs.State.{Frame, Bridge, ask_number, sound, is_none, lowest_givable}
use Rattle.bridge_rules.specs.Answers.{Buffers, right_lengths, lent_number}
use Rattle.bridge_rules.specs.Opening.{Ask, ask_device, ask_table, ask_offset, ask_count, room_number, open_number}
use Rattle.bridge_rules.specs.Incoming.{content_number, awaiting, reply_number}
use Rattle.bridge_rules.proofs.Search.{and-true, cases}

-- the first of two numbers, and the second
pub else_first : (a b : ℕ) → a ≢ 0 → (a or_else b) ≡ a
else_first a b h = sym (else_some a b a refl h)

pub else_second : (a b : ℕ) → a ≡ 0 → (a or_else b) ≡ b
unfolding ◌or_else◌
else_second a b h = rw h

-- ── lawful opening arguments ───────────────────────────────────────────────────────────────────────────────────────

pub record LawfulArgs (d t o n : ℕ) : Type 0 where
  pub device : d ≤ 15
  pub table : t ≤ 31
  pub some : 0 < n
  pub few : n ≤ 128
  pub inside : o + n ≤ 2048

abbrev pub LawfulAsk : Ask → Type 0
LawfulAsk a = LawfulArgs (ask_device a) (ask_table a) (ask_offset a) (ask_count a)

pub args_lawful : (d t o n : ℕ) → ask_number d t o n ≡ 0 → LawfulArgs d t o n
unfolding ask_number
args_lawful d t o n e =
    let h1 = if_zero 6 _ _ e in
    let h2 = if_zero 6 _ _ h1.1 in
    let h3 = if_zero 8 _ _ h2.1 in
    let h4 = if_zero 8 _ _ h3.1 in
    let h5 = if_zero 7 _ _ h4.1 in
    record {
      device = omega (arith, ltb-false 15 d h1.0);
      table = omega (arith, ltb-false 31 t h2.0);
      some = pos (eqb-false n 0 h3.0);
      few = omega (arith, ltb-false 128 n h4.0);
      inside = omega (arith, ltb-false 2048 (o + n) h5.0);
    }
  where
    pos : n ≢ 0 → 0 < n
    pos h = omega arith

pub args_clear : (d t o n : ℕ) → LawfulArgs d t o n → ask_number d t o n ≡ 0
unfolding ask_number ◌if◌else◌
args_clear d t o n l =
    rw (
      le-ltb 15 d l.device,
      le-ltb 31 t l.table,
      ne_eqb n 0 (λ z. omega (arith, l.some)),
      le-ltb 128 n l.few,
      le-ltb 2048 (o + n) l.inside,
    )

-- ── the buffers ────────────────────────────────────────────────────────────────────────────────────────────────────

-- both have 512 bytes
abbrev pub RightLengths : Buffers → Type 0
RightLengths b = (length b.first ≡ 512) × (length b.second ≡ 512)

pub lengths_true : (b : Buffers) → RightLengths b → right_lengths b ≡ true
lengths_true b h = rw (eq-eqb _ 512 h.0, eq-eqb _ 512 h.1)

pub true_lengths : (b : Buffers) → right_lengths b ≡ true → RightLengths b
true_lengths b e = let h = and-true _ _ e in (eqb-true _ 512 h.0, eqb-true _ 512 h.1)

not_lengths : (b : Buffers) → ¬ RightLengths b → right_lengths b ≡ false
not_lengths b h = go (cases (right_lengths b))
  where
    go : (right_lengths b ≡ true) ⊎ (right_lengths b ≡ false) → right_lengths b ≡ false
    go (inl e) = absurd (h (true_lengths b e))
    go (inr e) = e

pub lent_clear : (s : Bridge) (b : Buffers) → sound s ≡ true → RightLengths b → lent_number s (right_lengths b) ≡ 0
unfolding lent_number ◌if◌else◌
lent_clear s b p q = rw (p, lengths_true b q)

pub lent_ten : (s : Bridge) (b : Buffers) → sound s ≡ true → ¬ RightLengths b → lent_number s (right_lengths b) ≡ 10
unfolding lent_number ◌if◌else◌
lent_ten s b p q = rw (p, not_lengths b q)

pub lent_ok : (s : Bridge) (b : Buffers) → lent_number s (right_lengths b) ≡ 0 → (sound s ≡ true) × RightLengths b
unfolding lent_number
lent_ok s b e =
    let h1 = if_zero 10 _ _ e in
    let h2 = if_zero 9 _ _ h1.1 in
    (not-false _ h1.0, true_lengths b (not-false _ h2.0))

-- ── openings ───────────────────────────────────────────────────────────────────────────────────────────────────────

pub record OpenFacts (s : Bridge) (a : Ask) : Type 0 where
  pub law : LawfulAsk a
  pub slotted : is_none (lowest_givable s) ≡ false
  pub ticketed : s.issued < 4294967295

pub open_facts : (s : Bridge) (ok : Bool) (a : Ask) → open_number s ok a ≡ 0 → OpenFacts s a
unfolding open_number room_number
open_facts s ok a e =
    let h1 = else_zero _ _ e in
    let h2 = else_zero _ _ h1.1 in
    let h3 = if_zero 11 _ _ h2.1 in
    let h4 = if_zero 18 _ _ h3.1 in
    let h5 = if_zero 12 _ _ h4.1 in
    record {
      law = args_lawful _ _ _ _ h2.0;
      slotted = h4.0;
      ticketed = omega (arith, leb-false _ s.issued h5.0);
    }

pub open_lent : (s : Bridge) (b : Buffers) (a : Ask) → open_number s (right_lengths b) a ≡ 0 → (sound s ≡ true) × RightLengths b
unfolding open_number
open_lent s b a e = lent_ok s b (else_zero _ _ e).0

-- the chain after 11 and 10
pub open_later : (s : Bridge) (b : Buffers) (a : Ask) → sound s ≡ true → RightLengths b
    → open_number s (right_lengths b) a ≡ (ask_number (ask_device a) (ask_table a) (ask_offset a) (ask_count a) or_else room_number s)
unfolding open_number
open_later s b a p q = else_second _ _ (lent_clear s b p q)

pub open_ten : (s : Bridge) (b : Buffers) (a : Ask) → sound s ≡ true → ¬ RightLengths b → open_number s (right_lengths b) a ≡ 10
unfolding open_number ◌or_else◌
open_ten s b a p q = rw (lent_ten s b p q)

-- ── frames ─────────────────────────────────────────────────────────────────────────────────────────────────────────

pub reply_later : (s : Bridge) (b : Buffers) (f : Frame) → sound s ≡ true → RightLengths b
    → reply_number s (right_lengths b) f ≡ (content_number s.own f or_else (17 if is_none (awaiting s f) else 0))
unfolding reply_number
reply_later s b f p q = else_second _ _ (lent_clear s b p q)

pub reply_ten : (s : Bridge) (b : Buffers) (f : Frame) → sound s ≡ true → ¬ RightLengths b → reply_number s (right_lengths b) f ≡ 10
unfolding reply_number ◌or_else◌
reply_ten s b f p q = rw (lent_ten s b p q)

-- Laws of pieces put one after another.
use Prim.Native.Nat.{ℕ, ◌+◌, ◌-◌, ◌≤◌, ◌<◌}
use mathlib.Core.Path.{◌≡◌, sym}
use Rattle.std.proofs.Common.{inl, inr}
use Rattle.std.proofs.lemmas.Bool.{cases_lt}
use mathlib.Core.List.{List}
use native.Mathlib.Omega.{arith}
use borrow.Author.Tests.{le-leb, lt-leb}
use lib.ListN.{length, drop}
use Rattle.wire.specs.Put.{put_of}
use Rattle.wire.proofs.Puts.{put_over}
use Rattle.print.specs.Print.{next_of, Puts, put_bytes, next_bytes}

-- a piece that fits, or an empty one past the end
pub fits : (out : List ℕ) (at : ℕ) (s after : List ℕ) → length s ≤ length out - at → after ≡ put_of out at s → Puts out at s after (at + length s)
unfolding next_of
fits out at s after h p = elim (cases_lt (length out) (at + length s)) [
  | inl l ↦ record { put = p; place = rw (lt-leb _ _ l) (omega arith) }
  | inr l ↦ record { put = p; place = rw (le-leb _ _ l) }
]

-- one that does not is left out
pub left_out : (out : List ℕ) (at : ℕ) (s : List ℕ) → length out < at + length s → Puts out at s out at
unfolding next_of
left_out out at s h = record { put = sym (put_over out at s h); place = rw (lt-leb _ _ h) }

-- the bytes from i on are left to be put
pub record Left (out₀ : List ℕ) (at₀ : ℕ) (s out : List ℕ) (at i : ℕ) : Type 0 where
  pub output : put_bytes out at (drop i s) ≡ put_bytes out₀ at₀ s
  pub place : next_bytes out at (drop i s) ≡ next_bytes out₀ at₀ s

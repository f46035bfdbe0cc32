-- A listing that fits its output is written, any other is 27.
use Prim.Native.Nat.{ℕ, ◌+◌, ◌≤◌, ◌<◌}
use mathlib.Core.Path.{◌≡◌, refl, ap}
use mathlib.Core.List.{List, ◌++◌}
use native.Mathlib.Omega.{arith}
use borrow.Author.Tests.{lt-ltb, le-ltb}
use lib.ListN.{length, take, drop, length-append}
use lib.Seq.{take_at}
use Rattle.wire.specs.Put.{put_at}
use Rattle.wire.specs.Writer.{wrote, leaves}
use Rattle.wire.specs.declared.views.Written.{Written}
use Rattle.wire.proofs.Orders.{if_yes, if_no}
use Rattle.wire.proofs.Writes.{over, refuses, writes}
use Rattle.listing_rules.specs.Listing.{list_of, list_number}
use Rattle.listing_rules.specs.Longest.{longest}
use Rattle.listing_rules.specs.PutsText.{PutsText}

-- a listing that does not fit, and one that does
module _ (f out : List ℕ) where
  pub list_refused : length out < length (list_of f)
      → (◌≡◌ {A = Written} (record { number = 27; len = 0 }) (wrote (list_number f (length out)) (list_of f)))
      × (out ≡ leaves (list_number f (length out)) (list_of f) out)
  unfolding list_number
  list_refused h = refuses 27 _ (list_of f) out (if_yes 27 _ 0 (lt-ltb (length out) (length (list_of f)) h)) (λ z. omega arith)

  written_over : (x : List ℕ) → x ≡ put_at out 0 (list_of f) → x ≡ over (list_of f) out
  unfolding put_at
  written_over x e = let z : 0 + length (list_of f) ≡ length (list_of f) = omega arith in rw z at e

  pub list_written : (r : ℕ) (x : List ℕ) → length (list_of f) ≤ longest → length (list_of f) ≤ length out → PutsText out 0 (list_of f) x r
      → (◌≡◌ {A = Written} (record { number = 0; len = r }) (wrote (list_number f (length out)) (list_of f)))
      × (x ≡ leaves (list_number f (length out)) (list_of f) out)
  unfolding list_number
  list_written r x s h p =
      let n : r ≡ 0 + length (list_of f) = p.counted in
      let w = p.written (omega arith) in
      writes _ (list_of f) out x r (if_no 27 _ 0 0 (le-ltb (length out) (length (list_of f)) h) refl) (omega arith) (written_over x w)

-- a listing that has room for it, for callers
pub list_fits : (f out : List ℕ) (r : Written) (x : List ℕ) → length (list_of f) ≤ length out
    → r ≡ wrote (list_number f (length out)) (list_of f) → x ≡ leaves (list_number f (length out)) (list_of f) out
    → (r.len ≤ length x) × (take r.len x ≡ list_of f)
unfolding list_number wrote leaves
list_fits f out r x h p q =
    let text = list_of f in
    let rest = drop (length text) out in
    let z : 0 ≡ list_number f (length out) = if_no 27 _ 0 0 (le-ltb (length out) (length text) h) refl in
    let l : r.len ≡ length text = ap (λ (w : Written). w.len) (rw (← z) at p) in
    let y : x ≡ text ++ rest = rw (← z) at q in
    (omega (arith, l, ap length y, length-append text rest), rw (l, y) (take_at text rest (length text) refl))

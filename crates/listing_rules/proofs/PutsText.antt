-- Texts put one after another.
use Prim.Native.Nat.{ℕ, ◌+◌, ◌≤◌}
use mathlib.Core.Path.{◌≡◌, refl, sym, ap, ◌∙◌}
use mathlib.Core.List.{List, [], ◌++◌, append_assoc, append-nil}
use native.Mathlib.Omega.{arith}
use lib.ListN.{length, take, drop, length-append, take-append-drop}
use lib.Seq.{length-take-le, take_at, drop-drop, drop-append-add}
use Rattle.wire.specs.Put.{put_at, put_of}
use Rattle.wire.proofs.Puts.{put_fits}
use Rattle.listing_rules.specs.PutsText.{PutsText}

-- a text put after another is both put
put_put : (out : List ℕ) (at : ℕ) (s t : List ℕ) → at + length (s ++ t) ≤ length out
    → put_at (put_at out at s) (at + length s) t ≡ put_at out at (s ++ t)
unfolding put_at
put_put out at s t h =
    let l : length (s ++ t) ≡ length s + length t = length-append s t in
    let k : at + length s + length t ≡ at + length (s ++ t) = omega arith in
    let a : length (take at out) ≡ at = length-take-le at out (omega arith) in
    let p : length (take at out ++ s) ≡ at + length s = length-append (take at out) s ∙ ap (λ (n : ℕ). n + length s) a in
    let d : drop (at + length s + length t) (take at out ++ s ++ drop (at + length s) out) ≡ drop (at + length (s ++ t)) out =
    ap (λ (n : ℕ). drop (n + length t) (take at out ++ s ++ drop (at + length s) out)) (sym p)
    ∙ drop-append-add (take at out ++ s) (drop (at + length s) out) (length t)
    ∙ drop-drop (length t) (at + length s) out
    ∙ ap (λ (n : ℕ). drop n out) k in
    rw (take_at (take at out ++ s) (drop (at + length s) out) (at + length s) p, d, append_assoc (take at out) s t)

-- putting a text, then another
pub both : {out mid after : List ℕ} {at m r : ℕ} {s t : List ℕ} → PutsText out at s mid m → PutsText mid m t after r → PutsText out at (s ++ t) after r
both {out} {mid} {after} {at} {m} {r} {s} {t} p q =
    let l : length (s ++ t) ≡ length s + length t = length-append s t in
    record {
      counted = omega (arith, p.counted, q.counted);
      same_length = q.same_length ∙ p.same_length;
      written =
          λ (h : at + length (s ++ t) ≤ length out).
          let w : mid ≡ put_at out at s = p.written (omega arith) in
          let x : after ≡ put_at mid m t = q.written (omega (arith, p.counted, p.same_length)) in
          x ∙ rw (w, p.counted) (put_put out at s t h);
    }

put_nothing : (out : List ℕ) (at : ℕ) → at + 0 ≤ length out → out ≡ put_at out at []
unfolding put_at
put_nothing out at h = let z : at + 0 ≡ at = omega arith in rw (z, append-nil (take at out)) (sym (take-append-drop at out))

-- putting nothing
pub puts_nothing : (out : List ℕ) (at : ℕ) → PutsText out at [] out at
puts_nothing out at = record { counted = omega arith; same_length = refl; written = put_nothing out at }

-- bytes that `put` was handed
pub puts_bytes : (out : List ℕ) (at : ℕ) (bs after : List ℕ) (r : ℕ) → after ≡ put_of out at bs → length after ≡ length out → r ≡ at + length bs
    → PutsText out at bs after r
puts_bytes out at bs after r e l n = record { counted = n; same_length = l; written = λ h. e ∙ put_fits out at bs h }

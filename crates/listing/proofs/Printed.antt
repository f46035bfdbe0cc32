-- A text printed in its own place.
use Prim.Native.Nat.{ℕ, suc, ◌+◌, ◌-◌, ◌≤◌, ◌<◌}
use mathlib.Core.Path.{◌≡◌, sym, ap, ◌∙◌}
use mathlib.Core.List.{List, [], ◌++◌, append-nil, append_assoc}
use native.Mathlib.Omega.{arith}
use native.Mathlib.Numerals.{add-one}
use borrow.Rule.Slice.PartMut.{put_mid, same_len_mid}
use lib.ListN.{length, get_or, take, drop, set, drop_of_length-le}
use lib.Seq.{length-take-le, take_all, take-suc-set, drop-set-lt, drop-cons, take_at, drop_at}
use Rattle.wire.specs.Put.{put_at}
use Rattle.listing_rules.specs.Text.{printed_byte, printed}
use Rattle.listing_rules.specs.PutsText.{PutsText}
use Rattle.listing_rules.proofs.PrintedText.{printed_length}

-- the first i bytes are printed, the others are left
abbrev pub PrintedTo : List ℕ → List ℕ → ℕ → Type 0
PrintedTo text d i = take i d ++ printed (drop i d) ≡ printed text

pub printed_more : (text d : List ℕ) (i v : ℕ) → i < length d → v ≡ printed_byte (get_or d i 0) → PrintedTo text d i → PrintedTo text (set d i v) (i + 1)
unfolding printed
printed_more text d i v h e g =
    rw (add-one i, take-suc-set d i v h, drop-set-lt (suc i) d i v (omega arith), append_assoc, e) (rw (drop-cons d i 0 h) at g)

pub printed_all : (text d : List ℕ) (i : ℕ) → length d ≤ i → PrintedTo text d i → d ≡ printed text
unfolding printed
printed_all text d i h g =
    let n : drop i d ≡ [] = drop_of_length-le d h in
    let t : take i d ≡ d = take_all i d h in
    sym (append-nil d) ∙ rw (n, t) at g

-- bytes that were put, once what stands in their place is printed
printed_over : (out : List ℕ) (at n : ℕ) (text : List ℕ) → n ≡ length text → at + n ≤ length out
    → put_mid at n (put_at out at text) (printed (take n (drop at (put_at out at text)))) ≡ put_at out at (printed text)
unfolding put_at
printed_over out at n text e h =
    let a : length (take at out) ≡ at = length-take-le at out (omega arith) in
    let rest = drop (at + length text) out in
    let whole : put_at out at text ≡ take at out ++ (text ++ rest) = append_assoc (take at out) text rest in
    let over = λ (m : List ℕ). put_mid at n m (printed (take n (drop at m))) in
    let l : length (printed text) ≡ length text = printed_length text in
    ap over whole
    ∙ rw (
      take_at (take at out) (text ++ rest) at a,
      drop_at (take at out) (text ++ rest) at a,
      take_at text rest n (sym e),
      drop_at text rest n (sym e),
      l,
    ) (sym (append_assoc (take at out) (printed text) rest))

-- what is printed in its place keeps the length
pub same_printed : (at n : ℕ) (mid new : List ℕ) → new ≡ printed (take n (drop at mid)) → length (put_mid at n mid new) ≡ length mid
same_printed at n mid new e = same_len_mid at n mid new (ap length e ∙ printed_length (take n (drop at mid)))

-- a text that was put, where it fits, and then printed
pub puts_printed : (out mid : List ℕ) (at next : ℕ) (text new : List ℕ) → PutsText out at text mid next → new ≡ printed (take (next - at) (drop at mid))
    → PutsText out at (printed text) (put_mid at (next - at) mid new) next
puts_printed out mid at next text new p e =
    let l : length (printed text) ≡ length text = printed_length text in
    let n : next - at ≡ length text = omega (arith, p.counted) in
    record {
      counted = omega (arith, p.counted, l);
      same_length = same_printed at (next - at) mid new e ∙ p.same_length;
      written =
          λ (h : at + length (printed text) ≤ length out).
          let w : mid ≡ put_at out at text = p.written (omega (arith, l)) in
          rw (e, w) (printed_over out at (next - at) text n (omega (arith, n, l)));
    }

-- a text that does not fit
pub puts_over : (out mid : List ℕ) (at next : ℕ) (text : List ℕ) → PutsText out at text mid next → length mid < next → PutsText out at (printed text) mid next
puts_over out mid at next text p o =
    let l : length (printed text) ≡ length text = printed_length text in
    record {
      counted = omega (arith, p.counted, l);
      same_length = p.same_length;
      written = λ (h : at + length (printed text) ≤ length out). absurd (omega (arith, p.counted, p.same_length, l));
    }

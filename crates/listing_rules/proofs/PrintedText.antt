-- Bytes and texts as they are printed.
use Prim.Native.Nat.{ℕ, suc, ◌+◌, ◌≤◌, ◌<◌}
use mathlib.Core.Path.{◌≡◌, refl, ap}
use mathlib.Core.List.{List, [], ◌∷◌}
use native.Mathlib.Numerals.{add-one}
use lib.ListN.{length, get_or, drop, drop_of_length-le}
use lib.Seq.{drop-cons}
use Rattle.listing_rules.specs.Text.{printed_byte, printed}

-- byte by byte
pub printed_next : (text : List ℕ) (i v : ℕ) → i < length text → v ≡ printed_byte (get_or text i 0)
    → printed (drop i text) ≡ v ∷ printed (drop (i + 1) text)
unfolding printed
printed_next text i v h e = rw (add-one i, drop-cons text i 0 h, e)

pub printed_end : (text : List ℕ) (i : ℕ) → length text ≤ i → printed (drop i text) ≡ []
unfolding printed
printed_end text i h = rw (drop_of_length-le text h)

pub printed_length : (text : List ℕ) → length (printed text) ≡ length text
unfolding printed
printed_length [] = refl
printed_length (b ∷ bs) = ap suc (printed_length bs)

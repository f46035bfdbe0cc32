-- A listing written into a fresh array that has room for it.
use Prim.Native.Nat.{ℕ, ◌≤◌}
use mathlib.Core.Path.{◌≡◌}
use mathlib.Core.List.{List}
use lib.ListN.{length, replicate, length-replicate}
use Rattle.wire.specs.Writer.{wrote, leaves}
use Rattle.wire.specs.declared.views.Written.{Written}
use Rattle.listing_rules.specs.Listing.{list_of, list_number}
use Rattle.listing_rules.proofs.ListWritten.{list_fits}

pub list_in_room : (m a : ℕ) (f : List ℕ) (r : Written) (x : List ℕ) → length (list_of f) ≤ m
    → r ≡ wrote (list_number f (length (replicate m a))) (list_of f) → x ≡ leaves (list_number f (length (replicate m a))) (list_of f) (replicate m a)
    → r.len ≤ length x
list_in_room m a f r x h p q = (list_fits f (replicate m a) r x (rw (length-replicate m a) h) p q).0

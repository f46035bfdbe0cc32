-- An input that is too long, and what any other lists.
use Prim.Native.Nat.{ℕ, ◌≤◌}
use mathlib.Core.Path.{◌≡◌, ap, ◌∙◌}
use mathlib.Core.List.{List}
use borrow.Author.Tests.{lt-ltb, le-ltb}
use lib.ListN.{length}
use Rattle.mlg_rules.specs.Header.{no_header, read_header_of}
use Rattle.mlg_rules.specs.declared.Header.{Header}
use Rattle.std.proofs.Common.{Ok, Err}
use Rattle.wire.specs.Refusals.{code}
use Rattle.wire.specs.declared.refusal.Refusal.{Refusal}
use Rattle.mlg_rules.specs.declared.Block.TheVariants as block
use Rattle.listing_rules.specs.Lines.{block_line}
use Rattle.listing_rules.specs.Listing.{head_lines, headed_lines, list_of, LongInput}

pub long_input : LongInput
unfolding LongInput list_of
long_input f = ((λ h. rw (lt-ltb 65536 (length f) h)), (λ h. rw (le-ltb 65536 (length f) h)))

pub lists_header : (f : List ℕ) (h : Header) → length f ≤ 65536 → read_header_of f ≡ Ok h → list_of f ≡ headed_lines h f
unfolding LongInput head_lines
lists_header f h i e = (long_input f).1 i ∙ ap (head_lines f) e

pub lists_refusal : (f : List ℕ) (x : Refusal) → length f ≤ 65536 → read_header_of f ≡ Err x
    → list_of f ≡ block_line no_header f 0 (block.Refused (code x) 0)
unfolding LongInput head_lines
lists_refusal f x i e = (long_input f).1 i ∙ ap (head_lines f) e

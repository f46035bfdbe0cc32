-- The contract of what puts text, on which no promise of a public call rests: a text is put after another, into the same output; where the place
-- after both is no place of 64 bits, nothing is said but that the output is the same and keeps its length, and that the text is no shorter.
use Rattle.std.specs.Prelude.{◌≡◌, ℕ, ◌+◌, ◌^◌, ◌<◌, ◌≤◌, List, length}
use Rattle.listing_rules.specs.PutsText.{PutsText}
use Rattle.listing.specs.declared.text.Text.{Text}

pub record Puts (t : Text) (more : List ℕ) (u : Text) : Type 0 where
  pub same_length : length u.out.now ≡ length t.out.now
  pub text : t.len + length more < 2 ^ 64 → PutsText t.out.now t.len more u.out.now u.len
  pub same_output : u.out.ghost_name ≡ t.out.ghost_name
  pub no_shorter : t.len ≤ u.len

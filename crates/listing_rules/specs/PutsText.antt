-- The contract of private functions, which no promise of a public call rests on: each puts a text at a place of its output, where it
-- fits, and hands back the place after the text.
use Rattle.std.specs.Prelude.{ℕ, ◌+◌, ◌≤◌, ◌≡◌, List, length}
use Rattle.wire.specs.Put.{put_at}

pub record PutsText (out : List ℕ) (at : ℕ) (text : List ℕ) (after : List ℕ) (next : ℕ) : Type 0 where
  pub counted : next ≡ at + length text
  pub same_length : length after ≡ length out
  pub written : at + length text ≤ length out → after ≡ put_at out at text

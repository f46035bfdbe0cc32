-- How long a listing gets: at most five bytes for each byte of the longest file.
use Rattle.std.specs.Prelude.{ℕ, ◌≤◌, ◌<◌, List, length, get_or}
use Rattle.listing_rules.specs.Listing.{list_of}

abbrev pub longest : ℕ
longest = 327680

-- No file's listing is longer.
unfoldable pub NoneLonger : Type 0
NoneLonger = (f : List ℕ) → ((i : ℕ) → get_or f i 0 < 256) → length (list_of f) ≤ longest

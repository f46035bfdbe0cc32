use Rattle.std.specs.Prelude.{◌≤◌, ◌+◌, ◌-◌, length}
use Rattle.mlg_rules.specs.Log.{log_from, log_of}
use Rattle.listing_rules.specs.Listing.{log_lines}
use Rattle.listing.proofs.Puts.{Completes}
use Rattle.listing.proofs.text.Text.put_log_lines.Given as goal

abbrev pub invariant-loop-place : goal.invariant-loop-place
invariant-loop-place l =
    (l.n ≤ l.place)
    × (l.place ≤ length l.file)
    × Completes l.initial.self (log_lines l.h l.file 0 (log_of l.h.size l.file l.h.begin)) l.self
    (log_lines l.h l.file l.n (log_from (length l.file + 1 - l.n) l.h.size l.n l.file l.place))

abbrev pub decreases-loop-place : goal.decreases-loop-place
decreases-loop-place l = length l.file - l.place

use Rattle.std.proofs.Common.{◌≡◌, ℕ, Bool, true, false, not, ltb, leb, refl, ap, ◌∙◌}
use borrow.Author.Tests.{lt-ltb, le-ltb, leb-true, leb-false}
use Rattle.mlg_rules.proofs.ZeroLaws.{info_lacks}
use Rattle.mlg.proofs.fields.Area.has_zero_from.Goals as goal

-- below, or not at most
below : (a b : ℕ) → ltb a b ≡ not (leb b a)
below a b = by_test (leb b a) refl
  where
    by_test : (t : Bool) → leb b a ≡ t → ltb a b ≡ not t
    by_test true e = le-ltb a b (leb-true b a e)
    by_test false e = lt-ltb a b (leb-false b a e)

pub returns : goal.returns
returns c =
    λ area told. below _ _ ∙ ap not (info_lacks area _ _ told.1)

-- What a writer lays from the fields' end to data begin. 01: "a names area and info; lays them back to back, adds info's zero, or for
-- empty info uses info start 0 and no zero"
use Rattle.std.specs.Prelude.{ℕ, List, [], ◌∷◌, ◌++◌}

-- info with its zero; nothing where it is empty
abbrev pub ended : List ℕ → List ℕ
ended [] = []
ended (b ∷ bs) = b ∷ (bs ++ (0 ∷ []))

-- where info starts, if not empty: at
abbrev pub info_start : ℕ → List ℕ → ℕ
info_start at [] = 0
info_start at (b ∷ bs) = at

-- the names area, then info
unfoldable pub area_of : List ℕ → List ℕ → List ℕ
area_of names info = names ++ ended info

-- What the versions of MLG differ in. 01: "Header 24 bytes: .. info start (32) .. Fields of 89 bytes follow."
use Rattle.std.specs.Prelude.{ℕ, Bool, eqb}
use Rattle.mlg_rules.specs.declared.Layout.{Layout}

-- the versions that are served: 2 alone
unfoldable pub served : ℕ → Bool
served v = eqb v 2

-- bytes of the header, of the info start in it, and of a field. One layout stands for every version so far; who reads a file judges its
-- version first (22)
unfoldable pub layout_of : ℕ → Layout
layout_of v = record { header = 24; info = 4; field = 89 }

abbrev pub header_len : ℕ → ℕ
header_len v = (layout_of v).header

abbrev pub info_len : ℕ → ℕ
info_len v = (layout_of v).info

abbrev pub field_len : ℕ → ℕ
field_len v = (layout_of v).field

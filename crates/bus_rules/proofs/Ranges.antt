-- A part of a table's range is a range.
use Prim.Native.Nat.{ℕ, ◌+◌, ◌≤◌, ◌<◌}
use mathlib.Core.Path.{◌≡◌, sym, ◌∙◌, ap}
use mathlib.Core.List.{List}
use native.Mathlib.Omega.{arith}
use lib.ListN.{length, take, drop, length-take, length-drop}
use lib.Seq.{get_or-take, get_or-drop, ext_get_or, take-take, drop-drop}
use Rattle.bus_rules.specs.Device.{Device, range_of, start_of}

-- a part of the first k bytes of a list
part_within : (l : List ℕ) (a n k : ℕ) → a + n ≤ k → take n (drop a (take k l)) ≡ take n (drop a l)
part_within l a n k h = ext_get_or 0 (take n (drop a (take k l))) (take n (drop a l))
    (length-take n (drop a (take k l)) ∙ omega (arith, length-drop a (take k l), length-take k l, length-drop a l)
    ∙ sym (length-take n (drop a l)))
    (λ i q. let z : i < n = omega (arith, length-take n (drop a (take k l))) in
    get_or-take n (drop a (take k l)) i 0 z ∙ get_or-drop a (take k l) i 0 ∙ get_or-take k l (a + i) 0 (omega arith)
    ∙ sym (get_or-take n (drop a l) i 0 z ∙ get_or-drop a l i 0))

module _ (e : Device) (table offset count : ℕ) where
  -- n bytes of it, from its byte a on
  pub range_part : (a n : ℕ) → a + n ≤ count → take n (drop a (range_of e table offset count)) ≡ range_of e table (offset + a) n
  unfolding range_of
  range_part a n h =
      let at = start_of e.directory table + offset in
      let same : start_of e.directory table + offset + a ≡ start_of e.directory table + (offset + a) = omega arith in
      part_within (drop at e.memory) a n count h
      ∙ ap (take n) (drop-drop a at e.memory ∙ ap (λ (k : ℕ). drop k e.memory) same)

  -- it has at most so many bytes
  pub range_whole : take count (range_of e table offset count) ≡ range_of e table offset count
  unfolding range_of
  range_whole = take-take count count (drop (start_of e.directory table + offset) e.memory) (omega arith)

  pub range_short : length (range_of e table offset count) ≤ count
  unfolding range_of
  range_short = omega (arith, length-take count (drop (start_of e.directory table + offset) e.memory))

-- Laws of directories: where tables lie, and what a sound directory says.
use mathlib.Core.Path.{◌≡◌, refl}
use mathlib.Core.Logic.{◌⊎◌, inl, inr, ◌≢◌}
use mathlib.Core.Bool.{Bool, true, false, not, ◌&&◌, ◌||◌}
use Prim.Native.Nat.{ℕ, zero, suc, ◌+◌, ◌-◌, ◌≤◌, ◌<◌}
use native.Mathlib.Numerals.{add-one}
use native.Mathlib.Nat.{zero-add, suc-add}
use native.Mathlib.Omega.{arith}
use native.Mathlib.Decide.{dec_lt}
use lib.Dec.{leb, eqb}
use borrow.Author.Tests.{leb-true, le-leb, not-false, eqb-true}
use Rattle.wire.proofs.Orders.{order, if_zero, else_zero}
use Rattle.bus_rules.specs.Device.{Directory, start_of, total_of, size_of, right_of, sound_tables, sound_directory}
use Rattle.bus_rules.specs.Device.{directory_number, length_number, memory_number}
use Rattle.bus_rules.specs.Demand2.{SoundDirectory}

-- ── Starts ───────────────────────────────────────────────────────────────────────────────────────────────────────────

pub start_next : (d : Directory) (k : ℕ) → start_of d (k + 1) ≡ start_of d k + size_of d k
unfolding start_of
start_next d k = rw add-one

-- later tables start no earlier
start_more : (d : Directory) (k i : ℕ) → start_of d i ≤ start_of d (k + i)
unfolding start_of
start_more d zero i = rw zero-add (omega arith)
start_more d (suc k) i = rw suc-add (omega (arith, start_more d k i))

-- a table ends before every later one starts
pub table_before : (d : Directory) (k t : ℕ) → k < t → start_of d k + size_of d k ≤ start_of d t
table_before d k t h =
    let e : t - (k + 1) + (k + 1) ≡ t = omega arith in
    let m : start_of d (k + 1) ≤ start_of d t = rw e at (start_more d (t - (k + 1)) (k + 1)) in
    rw (start_next d k) at m

-- and within the total
pub table_within : (d : Directory) (t : ℕ) → t < 32 → start_of d t + size_of d t ≤ total_of d
unfolding total_of
table_within d t h = table_before d t 32 h

-- a place in a table lies outside every range of another table
pub table_apart : (d : Directory) (k t i from len : ℕ) → i < size_of d k → from + len ≤ size_of d t → k ≢ t
    → (start_of d k + i < start_of d t + from) ⊎ (start_of d t + from + len ≤ start_of d k + i)
table_apart d k t i from len l h n = go (dec_lt k t)
  where
    go : Dec (k < t) → (start_of d k + i < start_of d t + from) ⊎ (start_of d t + from + len ≤ start_of d k + i)
    go (yes p) = inl (omega (arith, l, table_before d k t p))
    go (no p) = inr (omega (arith, h, table_before d t k (omega (arith, p, n))))

-- ── Tests ──────────────────────────────────────────────────────────────────────────────────────────────────────────

pub apart : (b : Bool) → b ≡ true → b ≡ false → ⊥
apart true e f = let z : ◌≡◌ {A = Bool} true false = f in let w : ◌≡◌ {A = ℕ} 0 1 = cc in omega arith
apart false e f = let z : ◌≡◌ {A = Bool} false true = e in let w : ◌≡◌ {A = ℕ} 0 1 = cc in omega arith

pub both : (a b : Bool) → (a && b) ≡ true → (a ≡ true) × (b ≡ true)
both true b e = (refl, e)
both false b e = absurd (apart false e refl)

left_false : (a b : Bool) → a ≡ false → (a && b) ≡ false
left_false true b e = absurd (apart true refl e)
left_false false b e = refl

right_false : (a b : Bool) → b ≡ false → (a && b) ≡ false
right_false true b e = e
right_false false b e = refl

-- that one of two tests fails is false: both hold
pub neither_not : (a b : Bool) → (not a || not b) ≡ false → (a ≡ true) × (b ≡ true)
neither_not true true e = (refl, refl)
neither_not true false e = absurd (apart true refl e)
neither_not false b e = absurd (apart true refl e)

-- where it is true they do not both hold
pub not_both : (a b : Bool) → (not a || not b) ≡ true → a ≡ true → b ≡ true → ⊥
not_both true b e g h = apart (not b) e (rw h)
not_both false b e g h = apart false g refl

-- ── Sound tables ───────────────────────────────────────────────────────────────────────────────────────────────────

module _ (d : Directory) where
  pub tables_next : (i : ℕ) → sound_tables d (i + 1) ≡ (sound_tables d i && leb (size_of d i) 2056 && leb (right_of d i) 2)
  unfolding sound_tables
  tables_next i = rw add-one

  tables_all : (n : ℕ) → sound_tables d n ≡ true → (k : ℕ) → k < n → (size_of d k ≤ 2056) × (right_of d k ≤ 2)
  unfolding sound_tables
  tables_all zero h k l = absurd (omega arith)
  tables_all (suc n) h k l =
      let a = both (sound_tables d n && leb (size_of d n) 2056) (leb (right_of d n) 2) h in
      let b = both (sound_tables d n) (leb (size_of d n) 2056) a.0 in
      at_last (dec_lt k n) (λ p. tables_all n b.0 k p) (leb-true _ _ b.1) (leb-true _ _ a.1)
    where
      at_last : Dec (k < n) → (k < n → (size_of d k ≤ 2056) × (right_of d k ≤ 2)) → size_of d n ≤ 2056 → right_of d n ≤ 2
          → (size_of d k ≤ 2056) × (right_of d k ≤ 2)
      at_last (yes p) f u v = f p
      at_last (no p) f u v = let e : k ≡ n = omega arith in rw e (u, v)

  all_tables : (n : ℕ) → ((k : ℕ) → k < n → (size_of d k ≤ 2056) × (right_of d k ≤ 2)) → sound_tables d n ≡ true
  unfolding sound_tables
  all_tables zero h = refl
  all_tables (suc n) h =
      let e = h n (omega arith) in
      rw (all_tables n (λ k l. h k (omega arith)), le-leb _ _ e.0, le-leb _ _ e.1)

-- ── Sound directories ──────────────────────────────────────────────────────────────────────────────────────────────

pub sound_says : (d : Directory) → sound_directory d ≡ true → SoundDirectory d
unfolding sound_directory
sound_says d h =
    let a = both (leb d.own 15 && sound_tables d 32) (leb (total_of d) 32768) h in
    let b = both (leb d.own 15) (sound_tables d 32) a.0 in
    record {
      own = leb-true _ _ b.0;
      tables = λ k l. let t = tables_all d 32 b.1 k l in record { size = omega (arith, t.0); right = omega (arith, t.1) };
      total = leb-true _ _ a.1;
    }

pub says_sound : (d : Directory) → SoundDirectory d → sound_directory d ≡ true
unfolding sound_directory
says_sound d s =
    rw (le-leb _ _ s.own, all_tables d 32 (λ k l. (omega (arith, (s.tables k l).size), omega (arith, (s.tables k l).right))), le-leb _ _ s.total)

-- ── 11 and 10 ──────────────────────────────────────────────────────────────────────────────────────────────────────

pub unsound_number : (d : Directory) → sound_directory d ≡ false → 11 ≡ directory_number d
unfolding directory_number
unsound_number d h = search order depth 6

pub sound_number : (d : Directory) → sound_directory d ≡ true → 0 ≡ directory_number d
unfolding directory_number
sound_number d h = search order depth 6

pub sound_directory_lem : (d : Directory) → directory_number d ≡ 0 → SoundDirectory d
unfolding directory_number
sound_directory_lem d e = sound_says d (not-false _ (if_zero 10 _ _ e).0)

right_lengths_lem : (d : Directory) (n m : ℕ) → length_number d n m ≡ 0 → (n ≡ total_of d) × (m ≡ total_of d)
unfolding length_number
right_lengths_lem d n m e = let h = neither_not (eqb n (total_of d)) (eqb m (total_of d)) (if_zero 9 _ _ e).0 in (eqb-true _ _ h.0, eqb-true _ _ h.1)

pub memory_zero : (d : Directory) (n m : ℕ) → memory_number d n m ≡ 0 → SoundDirectory d × (n ≡ total_of d) × (m ≡ total_of d)
unfolding memory_number
memory_zero d n m e =
    let h = else_zero (directory_number d) (length_number d n m) e in
    let l = right_lengths_lem d n m h.1 in
    (sound_directory_lem d h.0, l.0, l.1)

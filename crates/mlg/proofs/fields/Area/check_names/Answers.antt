use Rattle.std.proofs.Common.{◌≡◌, ◌≢◌, ℕ, ◌-◌, ◌≤◌, ◌<◌, List, length, get_or, drop, leb, ltb, refl, arith}
use borrow.Author.Tests.{le-ltb, le-leb, lt-leb, ne_eqb}
use Rattle.wire.specs.BigEndian.{be_at}
use Rattle.wire.specs.Order.{◌if◌else◌}
use Rattle.wire.specs.Text.{zeros, LastZeros}
use Rattle.wire.proofs.Orders.{order, if_yes, if_no}
use Rattle.mlg_rules.specs.Field.{type_number}
use Rattle.mlg_rules.specs.Fields.{names_number}
use Rattle.mlg_rules.proofs.ZeroLaws.{bits_most, names_lack}
use Rattle.mlg.proofs.fields.Area.check_names.Goals as goal

pub returns-then-d-lt10 : goal.returns-then-d-lt10
unfolding names_number
returns-then-d-lt10 c = λ area told. search order depth 9

pub returns-then-bits-eq0 : goal.returns-then-bits-eq0
unfolding names_number
returns-then-bits-eq0 c = λ area told. rw (← c.from-bits.ensures) (search order depth 9)

pub returns-then-index-self : goal.returns-then-index-self
unfolding names_number
returns-then-index-self c = λ area told. rw (← c.from-bits.ensures, ← c.be32-index.ensures) (search order depth 9)

-- what is left once the index is not before the area
from-index : (d : List ℕ) (base len at bits : ℕ) (area : List ℕ) → length area ≡ len → at ≡ be_at 4 d 47 → bits ≡ get_or d 51 0 → 10 ≤ get_or d 0 0
    → bits ≢ 0 → base ≤ at → (r : ℕ) → r ≡ (23 if leb len (at - base) else 28 if ltb (zeros (drop (at - base) area)) bits else 0)
    → r ≡ names_number base area d
unfolding names_number
from-index d base len at bits area long is has kind some here r e =
    rw (← is, ← has, long)
    (if_no 0 _ _ _ (le-ltb _ _ kind) (if_no 0 _ _ _ (ne_eqb _ _ some)
    (if_no 23 _ _ _ (le-ltb _ _ here) e)))

pub returns-then-self-at : goal.returns-then-self-at
returns-then-self-at c =
    let a = c.args in
    let s = a.self.now in
    let at = c.be32-index.result in
    λ area told. from-index a.d.now s.base s.len at _ area told.0 c.be32-index.ensures c.from-bits.ensures c.if-d-lt10.false c.if-bits-eq0.false
    c.if-index-self.false 23 (if_yes 23 _ _ (le-leb s.len (at - s.base) (omega (arith, c.if-self-at.true))))

-- the bits of a field that stands
few : (d : List ℕ) (bits : ℕ) → bits ≡ get_or d 51 0 → type_number (get_or d 0 0) (get_or d 51 0) ≡ 0 → 10 ≤ get_or d 0 0 → bits ≤ 32
few d bits has stands kind = rw has (bits_most (get_or d 0 0) (get_or d 51 0) stands kind)

pub bounds-self-bits : goal.bounds-self-bits
bounds-self-bits c = omega (arith, few c.args.d.now _ c.from-bits.ensures c.requires.1 c.if-d-lt10.false)

-- what is left once it is in the area
from_places : (d last : List ℕ) (base len at bits : ℕ) (area : List ℕ) → length area ≡ len → LastZeros area last → at ≡ be_at 4 d 47 → bits ≡ get_or d 51 0
    → type_number (get_or d 0 0) (get_or d 51 0) ≡ 0 → 10 ≤ get_or d 0 0 → bits ≢ 0 → base ≤ at → at - base < len → (r : ℕ)
    → r ≡ (28 if leb (get_or last (bits - 1) 0) (at - base) else 0) → r ≡ names_number base area d
from_places d last base len at bits area long places is has stands kind some here within r h =
    let lack = names_lack area last bits (at - base) places some (few d bits has stands kind) in
    from-index d base len at bits area long is has kind some here r (if_no 23 _ _ _ (lt-leb len (at - base) within) (rw lack h))

pub returns-then-self-bits : goal.returns-then-self-bits
returns-then-self-bits c =
    let a = c.args in
    let s = a.self.now in
    let at = c.be32-index.result in
    let taken = le-leb (get_or s.last (c.from-bits.result - 1) 0) (at - s.base) (omega (arith, c.if-self-bits.true)) in
    λ area told. from_places a.d.now s.last s.base s.len at _ area told.0 told.1 c.be32-index.ensures c.from-bits.ensures c.requires.1
    c.if-d-lt10.false c.if-bits-eq0.false c.if-index-self.false c.if-self-at.false 28 (if_yes 28 _ _ taken)

pub returns : goal.returns
returns c =
    let a = c.args in
    let s = a.self.now in
    let at = c.be32-index.result in
    let left = lt-leb (get_or s.last (c.from-bits.result - 1) 0) (at - s.base) (omega (arith, c.if-self-bits.false)) in
    λ area told. from_places a.d.now s.last s.base s.len at _ area told.0 told.1 c.be32-index.ensures c.from-bits.ensures c.requires.1
    c.if-d-lt10.false c.if-bits-eq0.false c.if-index-self.false c.if-self-at.false 0 (if_no 28 _ _ 0 left refl)

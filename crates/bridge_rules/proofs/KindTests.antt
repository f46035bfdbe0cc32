-- What the tests of a kind say of each other, and of what was asked for. Nothing else opens them.
use Prim.Native.Nat.{ℕ}
use mathlib.Core.Path.{◌≡◌, refl, sym, ◌∙◌, ap}
use mathlib.Core.Logic.{◌⊎◌, inl, inr}
use mathlib.Core.Bool.{Bool, true, false, ◌||◌, false≢true, true≢false}
use native.Mathlib.Omega.{arith}
use lib.Dec.{eqb}
use borrow.Author.Tests.{eqb-true, eq-eqb}
use Rattle.bridge_rules.specs.State.{reads, writes, checks, reads_back, asks, carries, checking, compares, shows}
use Rattle.bridge_rules.specs.Opening.{Ask, read, write, check, is_read, is_write, is_check, ask_kind}

-- ── by the kinds' numbers ──────────────────────────────────────────────────────────────────────────────────────────

or_cases : (a b : Bool) → (a || b) ≡ true → (a ≡ true) ⊎ (b ≡ true)
or_cases true b e = inl refl
or_cases false b e = inr e

-- one of two numbers
one_of : (k a b : ℕ) → (eqb k a || eqb k b) ≡ true → (k ≡ a) ⊎ (k ≡ b)
one_of k a b e = go (or_cases _ _ e)
  where
    go : (eqb k a ≡ true) ⊎ (eqb k b ≡ true) → (k ≡ a) ⊎ (k ≡ b)
    go (inl p) = inl (eqb-true k a p)
    go (inr p) = inr (eqb-true k b p)

-- what a test says of both, it says of it
of_both : (test : ℕ → Bool) {k a b : ℕ} {v : Bool} → test a ≡ v → test b ≡ v → (k ≡ a) ⊎ (k ≡ b) → test k ≡ v
of_both test p q (inl e) = ap test e ∙ p
of_both test p q (inr e) = ap test e ∙ q

pub asks_kinds : (k : ℕ) → asks k ≡ true → (k ≡ reads) ⊎ (k ≡ reads_back)
unfolding asks
asks_kinds k = one_of k reads reads_back

pub kinds_ask : (k : ℕ) → (k ≡ reads) ⊎ (k ≡ reads_back) → asks k ≡ true
unfolding asks
kinds_ask k = of_both asks refl refl

pub carries_kinds : (k : ℕ) → carries k ≡ true → (k ≡ writes) ⊎ (k ≡ checks)
unfolding carries
carries_kinds k = one_of k writes checks

pub kinds_carry : (k : ℕ) → (k ≡ writes) ⊎ (k ≡ checks) → carries k ≡ true
unfolding carries
kinds_carry k = of_both carries refl refl

pub checking_kind : (k : ℕ) → checking k ≡ true → k ≡ checks
unfolding checking
checking_kind k e = eqb-true k checks e

pub kind_checking : (k : ℕ) → k ≡ checks → checking k ≡ true
unfolding checking
kind_checking k e = eq-eqb k checks e

-- a write does not
pub writes_not_checking : (k : ℕ) → k ≡ writes → checking k ≡ false
unfolding checking
writes_not_checking k e = ap checking e

pub compares_kind : (k : ℕ) → compares k ≡ true → k ≡ reads_back
unfolding compares
compares_kind k e = eqb-true k reads_back e

pub kind_compares : (k : ℕ) → k ≡ reads_back → compares k ≡ true
unfolding compares
kind_compares k e = eq-eqb k reads_back e

-- a read does not
pub reads_not_compared : (k : ℕ) → k ≡ reads → compares k ≡ false
unfolding compares
reads_not_compared k e = ap compares e

-- ── of each other ──────────────────────────────────────────────────────────────────────────────────────────────────

-- a kind of those that there are
abbrev pub KnownKind : ℕ → Type 0
KnownKind k = (carries k ≡ true) ⊎ (asks k ≡ true)

pub asks_only : (k : ℕ) → asks k ≡ true → carries k ≡ false
unfolding carries
asks_only k e = of_both carries refl refl (asks_kinds k e)

pub carries_only : (k : ℕ) → carries k ≡ true → asks k ≡ false
unfolding asks
carries_only k e = of_both asks refl refl (carries_kinds k e)

pub one_kind : {A : Type 0} (k : ℕ) → carries k ≡ true → asks k ≡ true → A
one_kind k c a = absurd (true≢false (sym a ∙ carries_only k c))

pub known_tested : (k : ℕ) → KnownKind k → (asks k || carries k) ≡ true
known_tested k (inl c) = rw (carries_only k c, c)
known_tested k (inr a) = rw a

pub tested_known : (k : ℕ) → (asks k || carries k) ≡ true → KnownKind k
tested_known k e = go (or_cases (asks k) (carries k) e)
  where
    go : (asks k ≡ true) ⊎ (carries k ≡ true) → KnownKind k
    go (inl p) = inr p
    go (inr p) = inl p

pub checking_carries : (k : ℕ) → checking k ≡ true → carries k ≡ true
checking_carries k e = kinds_carry k (inr (checking_kind k e))

pub compares_asks : (k : ℕ) → compares k ≡ true → asks k ≡ true
compares_asks k e = kinds_ask k (inr (compares_kind k e))

-- what asks has sent all
pub asks_not_checking : (k : ℕ) → asks k ≡ true → checking k ≡ false
unfolding checking
asks_not_checking k e = of_both checking refl refl (asks_kinds k e)

-- ── of what was asked for ──────────────────────────────────────────────────────────────────────────────────────────

-- the kinds of slots that a transfer holds
abbrev pub KindFits : Ask → ℕ → Type 0
KindFits (read d t o n) k = k ≡ reads
KindFits (write d t o bs) k = k ≡ writes
KindFits (check d t o bs) k = (k ≡ checks) ⊎ (k ≡ reads_back)

-- a slot's kind stays, or turns to reading back
abbrev pub KindGoes : ℕ → ℕ → Type 0
KindGoes k k' = (k' ≡ k) ⊎ ((k ≡ checks) × (k' ≡ reads_back))

pub asked_fits : (a : Ask) → KindFits a (ask_kind a)
asked_fits (read d t o n) = refl
asked_fits (write d t o bs) = refl
asked_fits (check d t o bs) = inl refl

pub fits_goes : (a : Ask) (k k' : ℕ) → KindFits a k → KindGoes k k' → KindFits a k'
fits_goes a k k' f (inl e) = rw e f
fits_goes (read d t o n) k k' f (inr (p, q)) = absurd (omega (arith, f, p))
fits_goes (write d t o bs) k k' f (inr (p, q)) = absurd (omega (arith, f, p))
fits_goes (check d t o bs) k k' f (inr (p, q)) = inr q

pub fits_known : (a : Ask) (k : ℕ) → KindFits a k → KnownKind k
fits_known (read d t o n) k f = inr (kinds_ask k (inl f))
fits_known (write d t o bs) k f = inl (kinds_carry k (inl f))
fits_known (check d t o bs) k (inl f) = inl (kinds_carry k (inr f))
fits_known (check d t o bs) k (inr f) = inr (kinds_ask k (inr f))

-- a read asks
pub asks_of : (a : Ask) (k : ℕ) → KindFits a k → is_read a ≡ true → asks k ≡ true
asks_of (read d t o n) k f h = kinds_ask k (inl f)
asks_of (write d t o bs) k f h = absurd (false≢true h)
asks_of (check d t o bs) k f h = absurd (false≢true h)

-- a write carries, to its end
pub carries_of : (a : Ask) (k : ℕ) → KindFits a k → is_write a ≡ true → carries k ≡ true
carries_of (read d t o n) k f h = absurd (false≢true h)
carries_of (write d t o bs) k f h = kinds_carry k (inl f)
carries_of (check d t o bs) k f h = absurd (false≢true h)

-- what asks is no write
pub asks_not_write : (a : Ask) (k : ℕ) → KindFits a k → asks k ≡ true → is_write a ≡ false
asks_not_write (read d t o n) k f h = refl
asks_not_write (write d t o bs) k f h = one_kind k (kinds_carry k (inl f)) h
asks_not_write (check d t o bs) k f h = refl

-- what carries is no read
pub carries_not_read : (a : Ask) (k : ℕ) → KindFits a k → carries k ≡ true → is_read a ≡ false
carries_not_read (read d t o n) k f h = one_kind k h (kinds_ask k (inl f))
carries_not_read (write d t o bs) k f h = refl
carries_not_read (check d t o bs) k f h = refl

-- a checked write is checking while it carries, and a write is not
pub checking_of : (a : Ask) (k : ℕ) → KindFits a k → carries k ≡ true → checking k ≡ is_check a
unfolding checking
checking_of (read d t o n) k f h = ap checking f
checking_of (write d t o bs) k f h = ap checking f
checking_of (check d t o bs) k (inl f) h = ap checking f
checking_of (check d t o bs) k (inr f) h = one_kind k h (kinds_ask k (inr f))

-- it compares once it asks, and a read does not
pub compares_of : (a : Ask) (k : ℕ) → KindFits a k → asks k ≡ true → compares k ≡ is_check a
unfolding compares
compares_of (read d t o n) k f h = ap compares f
compares_of (write d t o bs) k f h = ap compares f
compares_of (check d t o bs) k (inl f) h = one_kind k (kinds_carry k (inr f)) h
compares_of (check d t o bs) k (inr f) h = ap compares f

-- what compares is a checked write
pub compares_check : (a : Ask) (k : ℕ) → KindFits a k → compares k ≡ true → is_check a ≡ true
compares_check a k f h = sym (compares_of a k f (compares_asks k h)) ∙ h

-- bytes are shown for a read alone
pub shows_of : (a : Ask) (k : ℕ) → KindFits a k → shows k ≡ is_read a
unfolding shows
shows_of (read d t o n) k f = ap shows f
shows_of (write d t o bs) k f = ap shows f
shows_of (check d t o bs) k (inl f) = ap shows f
shows_of (check d t o bs) k (inr f) = ap shows f

-- what is no checked write is never checking
pub not_checking_of : (a : Ask) (k : ℕ) → KindFits a k → is_check a ≡ false → checking k ≡ false
unfolding checking
not_checking_of (read d t o n) k f h = ap checking f
not_checking_of (write d t o bs) k f h = ap checking f
not_checking_of (check d t o bs) k f h = absurd (true≢false h)

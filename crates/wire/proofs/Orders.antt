-- Laws of `◌if◌else◌` and `_orElse_`, and the rules by which `search` closes a return of a chain of refusals.
use Rattle.std.proofs.Common.{◌≡◌, ℕ, zero, suc, Bool, true, false, not, sym, refl, ◌∙◌, arith, le-ltb, lt-ltb, eq-eqb, ne_eqb, le-leb}
use borrow.Author.Tests.{lt-leb}
use Rattle.wire.specs.Order.{◌if◌else◌, ◌or_else◌}
use Rattle.wire.specs.declared.refusal.Refusal.{Refusal}
use Rattle.wire.specs.Refusals.{code}
use Rattle.wire.proofs.RefusalLaws.{code_ne0}

-- the test holds: this number
pub if_yes : (n : ℕ) (b : Bool) (r : ℕ) → b ≡ true → n ≡ (n if b else r)
unfolding ◌if◌else◌
if_yes n true r e = refl
if_yes n false r e = let z : ◌≡◌ {A = Bool} false true = e in cc

-- it does not: what follows
pub if_no : (n : ℕ) (b : Bool) (r x : ℕ) → b ≡ false → x ≡ r → x ≡ (n if b else r)
unfolding ◌if◌else◌
if_no n true r x e h = let z : ◌≡◌ {A = Bool} true false = e in cc
if_no n false r x e h = h

-- a flag that a call returned
pub flag : {r b v : Bool} → r ≡ b → r ≡ v → b ≡ v
flag p q = sym p ∙ q

pub not_yes : (b : Bool) → b ≡ false → not b ≡ true
not_yes true e = let z : ◌≡◌ {A = Bool} true false = e in cc
not_yes false e = refl

pub not_no : (b : Bool) → b ≡ true → not b ≡ false
not_no true e = refl
not_no false e = let z : ◌≡◌ {A = Bool} false true = e in cc

pub not-false : (b : Bool) → not b ≡ false → b ≡ true
not-false true e = refl
not-false false e = let z : ◌≡◌ {A = Bool} true false = e in cc

-- the first of two numbers, as a call gave it and a test found it
pub else_some : (a b x : ℕ) → x ≡ a → (x ≡ 0 → ⊥) → x ≡ (a or_else b)
unfolding ◌or_else◌
else_some zero b x e k = absurd (k e)
else_some (suc a) b x e k = e

-- the same of a refusal, whose number is not 0
pub else_refused : (a b : ℕ) (e : Refusal) → code e ≡ a → code e ≡ (a or_else b)
else_refused a b e h = else_some a b (code e) h (code_ne0 e)

pub else_none : (a b y x : ℕ) → x ≡ a → x ≡ 0 → y ≡ b → y ≡ (a or_else b)
unfolding ◌or_else◌
else_none zero b y x e k h = h
else_none (suc a) b y x e k h = absurd (omega arith)

pub ruleset order = (if_yes, if_no, else_some, else_refused, else_none, lt-ltb, le-ltb, le-leb, lt-leb, eq-eqb, ne_eqb, not_yes, not_no, flag, arith)

-- what follows from no refusal
pub if_zero : (n : ℕ) (b : Bool) (r : ℕ) → ((suc n) if b else r) ≡ 0 → (b ≡ false) × (r ≡ 0)
unfolding ◌if◌else◌
if_zero n true r e = absurd (omega arith)
if_zero n false r e = (refl, e)

pub else_zero : (a b : ℕ) → (a or_else b) ≡ 0 → (a ≡ 0) × (b ≡ 0)
unfolding ◌or_else◌
else_zero zero b e = (refl, e)
else_zero (suc a) b e = absurd (omega arith)

-- a chain after a chain is one chain
pub if_or_else : (n : ℕ) (b : Bool) (r s : ℕ) → (((suc n) if b else r) or_else s) ≡ ((suc n) if b else (r or_else s))
unfolding ◌if◌else◌ ◌or_else◌
if_or_else n true r s = refl
if_or_else n false r s = refl

pub zero_or_else : (s : ℕ) → (0 or_else s) ≡ s
unfolding ◌or_else◌
zero_or_else s = refl

pub or_else_or_else : (a b c : ℕ) → ((a or_else b) or_else c) ≡ (a or_else (b or_else c))
unfolding ◌or_else◌
or_else_or_else zero b c = refl
or_else_or_else (suc a) b c = refl

-- a test that does not hold is passed over, whatever its number
pub if_skip : (n : ℕ) (b : Bool) (r : ℕ) → b ≡ false → (n if b else r) ≡ 0 → r ≡ 0
unfolding ◌if◌else◌
if_skip n true r e h = let z : ◌≡◌ {A = Bool} true false = e in absurd (let w : ◌≡◌ {A = ℕ} 0 1 = cc in omega arith)
if_skip n false r e h = h

-- a call gave 0
pub none : (x a : ℕ) → x ≡ a → x ≡ 0 → 0 ≡ a
none x a e k = sym k ∙ e

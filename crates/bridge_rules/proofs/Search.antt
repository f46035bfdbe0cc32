-- Laws of `first_slot`, of the tests, and of `unless`.
use Prim.Native.Nat.{ℕ, zero, suc, ◌+◌, ◌%◌, ◌<◌}
use mathlib.Core.Path.{◌≡◌, refl, sym, ◌∙◌, ap}
use mathlib.Core.Logic.{◌⊎◌, inl, inr, ◌≢◌}
use mathlib.Core.Option.{Option, none, some}
use mathlib.Core.Bool.{Bool, true, false, cond, ◌&&◌, false≢true, true≢false}
use native.Mathlib.Nat.{add-suc, suc-add, add-zero}
use native.Mathlib.Omega.{arith}
use lib.Dec.{eqb}
use borrow.Author.Tests.{eqb-true, eqb-false}
use Rattle.bridge_rules.specs.State.{Bridge, first_slot}
use Rattle.bridge_rules.specs.Answers.{Buffers, Result, unless, plain}

-- where a search ends: at distance d, with every test before it failed
pub record Found (p : ℕ → Bool) (start fuel k : ℕ) : Type 0 where
  pub d : ℕ
  pub near : d < fuel
  pub is : k ≡ (start + d) % 4
  pub passes : p k ≡ true
  pub skipped : (e : ℕ) → e < d → p ((start + e) % 4) ≡ false

pub cases : (b : Bool) → (b ≡ true) ⊎ (b ≡ false)
cases true = inl refl
cases false = inr refl

pub option_cases : (o : Option ℕ) → (o ≡ none) ⊎ ((k : ℕ) × (o ≡ some k))
option_cases none = inl refl
option_cases (some k) = inr (k, refl)

pub some_eq : {A : Type 0} {a b : A} → some a ≡ some b → a ≡ b
some_eq p = cc

pub none_some : {A : Type 0} {B : Type 0} {a : A} → none ≡ some a → B
none_some p = let z : ◌≡◌ {A = ℕ} 0 1 = cc in absurd (omega arith)

later : (p : ℕ → Bool) (start fuel k : ℕ) → p (start % 4) ≡ false → Found p (suc start) fuel k → Found p start (suc fuel) k
later p start fuel k h g = record {
  d = suc g.d;
  near = omega arith;
  is = g.is ∙ ap (λ (n : ℕ). n % 4) (omega arith);
  passes = g.passes;
  skipped = skip;
}
  where
    skip : (e : ℕ) → e < suc g.d → p ((start + e) % 4) ≡ false
    skip zero l = ap (λ (n : ℕ). p (n % 4)) (add-zero start) ∙ h
    skip (suc e) l = ap (λ (n : ℕ). p (n % 4)) (add-suc start e ∙ sym (suc-add start e)) ∙ g.skipped e (omega arith)

pub search_some : (p : ℕ → Bool) (start fuel k : ℕ) → first_slot p start fuel ≡ some k → Found p start fuel k
unfolding first_slot
search_some p start zero k e = none_some e
search_some p start (suc fuel) k e = go (p (start % 4)) refl e (search_some p (suc start) fuel k)
  where
    go : (b : Bool) → p (start % 4) ≡ b → cond b (some (start % 4)) (first_slot p (suc start) fuel) ≡ some k
        → (first_slot p (suc start) fuel ≡ some k → Found p (suc start) fuel k) → Found p start (suc fuel) k
    go true h q ih =
        let z : start % 4 ≡ k = some_eq q in
        record {
          d = 0;
          near = omega arith;
          is = sym z ∙ ap (λ (n : ℕ). n % 4) (sym (add-zero start));
          passes = rw (← z) h;
          skipped = λ e l. absurd (omega arith);
        }
    go false h q ih = later p start fuel k h (ih q)

pub search_none : (p : ℕ → Bool) (start fuel : ℕ) → first_slot p start fuel ≡ none → (e : ℕ) → e < fuel → p ((start + e) % 4) ≡ false
unfolding first_slot
search_none p start zero q e l = absurd (omega arith)
search_none p start (suc fuel) q e l = go (p (start % 4)) refl q (search_none p (suc start) fuel) e l
  where
    go : (b : Bool) → p (start % 4) ≡ b → cond b (some (start % 4)) (first_slot p (suc start) fuel) ≡ none
        → (first_slot p (suc start) fuel ≡ none → (e : ℕ) → e < fuel → p ((suc start + e) % 4) ≡ false)
        → (e : ℕ) → e < suc fuel → p ((start + e) % 4) ≡ false
    go true h z ih e l = none_some (sym z)
    go false h z ih zero l = ap (λ (n : ℕ). p (n % 4)) (add-zero start) ∙ h
    go false h z ih (suc e) l = ap (λ (n : ℕ). p (n % 4)) (add-suc start e ∙ sym (suc-add start e)) ∙ ih z e (omega arith)

-- a search that starts at 0
pub record Lowest (p : ℕ → Bool) (k : ℕ) : Type 0 where
  pub bound : k < 4
  pub passes : p k ≡ true
  pub below : (e : ℕ) → e < k → p e ≡ false

small : (e : ℕ) → e < 4 → (0 + e) % 4 ≡ e
small e h = omega arith

pub lowest_some : (p : ℕ → Bool) (k : ℕ) → first_slot p 0 4 ≡ some k → Lowest p k
lowest_some p k e =
    let f : Found p 0 4 k = search_some p 0 4 k e in
    let z : k ≡ f.d = f.is ∙ small f.d f.near in
    record {
      bound = omega (arith, f.near);
      passes = f.passes;
      below = λ e l. ap p (sym (small e (omega (arith, f.near))))
          ∙ f.skipped e (omega arith);
    }

pub lowest_none : (p : ℕ → Bool) → first_slot p 0 4 ≡ none → (k : ℕ) → k < 4 → p k ≡ false
lowest_none p q k l = ap p (sym (small k l)) ∙ search_none p 0 4 q k l

pub contradiction : {A : Type 0} {b : Bool} → b ≡ true → b ≡ false → A
contradiction p q = absurd (true≢false (sym p ∙ q))

pub and-true : (a b : Bool) → (a && b) ≡ true → (a ≡ true) × (b ≡ true)
and-true true b e = (refl, e)
and-true false b e = absurd (false≢true e)

pub and_intro : (a b : Bool) → a ≡ true → b ≡ true → (a && b) ≡ true
and_intro a b p q = rw (p, q)

-- `unless` refuses or goes through
pub data Outcome (n : ℕ) (r : Result) (s : Bridge) (b : Buffers) (u : Result) : Type 0 where
  through : n ≡ 0 → u ≡ r → Outcome n r s b u
  refused : n ≢ 0 → u ≡ record { answer = plain n; state = s; buffers = b } → Outcome n r s b u

pub outcome : (n : ℕ) (r : Result) (s : Bridge) (b : Buffers) → Outcome n r s b (unless n r s b)
outcome n r s b = go (eqb n 0) refl
  where
    go : (t : Bool) → eqb n 0 ≡ t → Outcome n r s b (cond t r (record { answer = plain n; state = s; buffers = b }))
    go true e = through (eqb-true n 0 e) refl
    go false e = refused (eqb-false n 0 e) refl

-- Texts put one after another, into one output.
use mathlib.Core.Path.{◌≡◌, refl, ◌∙◌}
use mathlib.Core.List.{List, [], ◌++◌}
use Prim.Native.Nat.{ℕ, ◌+◌, ◌^◌, ◌<◌}
use native.Mathlib.Omega.{arith}
use lib.ListN.{length, length-append}
use Rattle.listing_rules.specs.PutsText.{PutsText}
use Rattle.listing_rules.proofs.PutsText.{both, puts_nothing}
use Rattle.listing.specs.Puts.{Puts}
use Rattle.listing.specs.declared.text.Text.{Text}

-- putting a text, then another
infixl 20 ◌then◌
pub ◌then◌ : {t u v : Text} {a b : List ℕ} → Puts t a u → Puts u b v → Puts t (a ++ b) v
◌then◌ {t} {u} {v} {a} {b} p q =
    let l : length (a ++ b) ≡ length a + length b = length-append a b in
    record {
      same_length = q.same_length ∙ p.same_length;
      text =
          λ (h : t.len + length (a ++ b) < 2 ^ 64).
          let x : PutsText t.out.now t.len a u.out.now u.len = p.text (omega arith) in
          let n : u.len ≡ t.len + length a = x.counted in
          both x (q.text (omega arith));
      same_output = q.same_output ∙ p.same_output;
      no_shorter = omega (arith, p.no_shorter, q.no_shorter);
    }

-- putting nothing
pub puts_none : (t : Text) → Puts t [] t
puts_none t = record { same_length = refl; text = λ h. puts_nothing t.out.now t.len; same_output = refl; no_shorter = omega arith }

-- the same text under another name
pub puts_as : {t u : Text} {a : List ℕ} (b : List ℕ) → a ≡ b → Puts t a u → Puts t b u
puts_as b e p = rw e at p

-- what is left of a text: whoever puts the rest has put all
abbrev pub Completes : Text → List ℕ → Text → List ℕ → Type 0
Completes t₀ all t rest = (u : Text) → Puts t rest u → Puts t₀ all u

pub completes_all : (t : Text) (all rest : List ℕ) → rest ≡ all → Completes t all t rest
completes_all t all rest e = λ u p. rw e at p

pub completes_next : {t₀ t u : Text} {all whole a rest : List ℕ} → Completes t₀ all t whole → whole ≡ a ++ rest → Puts t a u → Completes t₀ all u rest
completes_next k e q = λ v p. k v (rw e (q then p))

pub completed : {t₀ t : Text} {all rest : List ℕ} → Completes t₀ all t rest → rest ≡ [] → Puts t₀ all t
completed {t = t} k e = k t (rw e (puts_none t))

-- Each number is given exactly when the paper says.
use mathlib.Core.Path.{◌≡◌, refl, sym, subst}
use mathlib.Core.Logic.{◌⊎◌, inl, inr, ◌≢◌}
use mathlib.Core.Bool.{Bool, true, false, not, ◌&&◌, ◌||◌}
use Prim.Native.Nat.{ℕ, zero, suc, ◌+◌, ◌≤◌, ◌<◌, ◌^◌}
use native.Mathlib.Omega.{arith}
use lib.Dec.{leb, ltb, eqb}
use lib.ListN.{length}
use borrow.Author.Tests.{ltb-true, ltb-false, leb-true, leb-false, eqb-true, eqb-false, eq-eqb, not-true, not-false}
use Rattle.wire.specs.Order.{◌if◌else◌}
use Rattle.wire.specs.First.{First, Unless, Zero}
use Rattle.wire.proofs.Firsts.{link, links, unless, unlesses, neither}
use Rattle.wire.proofs.Orders.{if_or_else, zero_or_else}
use Rattle.bus_rules.specs.Ident.{id_spare, id_to}
use Rattle.bus_rules.specs.Frames.{Frame, head_number}
use Rattle.bus_rules.specs.Device.{Device, own_of, sound_directory, total_of, directory_number, length_number, memory_number}
use Rattle.bus_rules.specs.Device.{known_family, sound_current, state_number}
use Rattle.bus_rules.specs.Holder.{command_number, request_number, burn_number, query_number, kind_number, device_number, serve_number}
use Rattle.bus_rules.specs.Demand2.{CommandNumber, RequestNumber, BurnNumber, QueryNumber, KindNumber, ServeNumber}
use Rattle.bus_rules.proofs.Directories.{apart, sound_says, says_sound, neither_not, not_both}
use Rattle.bus_rules.proofs.HolderStates.{state_says, says_state}
use Rattle.bus_rules.proofs.Cases.{command_case, request_case, burn_case, query_case, other_case}

-- ── What a test says ───────────────────────────────────────────────────────────────────────────────────────────────

ne_true : (a b : ℕ) → not (eqb a b) ≡ true → a ≢ b
ne_true a b e = eqb-false a b (not-true _ e)

ne_false : (a b : ℕ) → not (eqb a b) ≡ false → ¬ (a ≢ b)
ne_false a b e n = n (eqb-true a b (not-false _ e))

lt_false : (a b : ℕ) → ltb a b ≡ false → ¬ (a < b)
lt_false a b e h = omega (arith, ltb-false a b e)

le_false : (a b : ℕ) → leb a b ≡ false → ¬ (a ≤ b)
le_false a b e h = omega (arith, leb-false a b e)

-- the first of two tests that lets a number pass
choose : {P : Type 0} (a b : Bool) → (a ≡ true → P) → (b ≡ true → P) → (a ≡ false → b ≡ false → ¬ P) → Unless P 9 Zero (0 if a else 0 if b else 9)
unfolding ◌if◌else◌
choose true b p q h = inr (p refl, refl)
choose false true p q h = inr (q refl, refl)
choose false false p q h = inl (h refl refl, refl)

is_false : (a b : ℕ) → not (eqb a b) ≡ false → a ≡ b
is_false a b e = eqb-true a b (not-false _ e)

-- ── Numbers by type ────────────────────────────────────────────────────────────────────────────────────────────────

-- a range that is too long, then 0
abbrev Range : ℕ → ℕ → ℕ → Type 0
Range size end = First (size < end) 8 Zero

range_number : (size end : ℕ) → Range size end (8 if ltb size end else 0)
range_number size end = link 8 (ltb size end) 0 Zero (ltb-true _ _) (lt_false _ _) (λ e. refl)

abbrev Missing : (P : Type 0) → ℕ → (ℕ → Type 0) → ℕ → Type 0
Missing P size rest = First ((size ≡ 0) ⊎ P) 7 rest

command_numbers : (len size right offset : ℕ)
    → First (len ≡ 0) 6 (Missing (right ≢ 2) size (Range size (offset + len))) (command_number len size right offset)
unfolding command_number
command_numbers len size right offset =
    link 6 (eqb len 0) _ (Missing (right ≢ 2) size (Range size (offset + len))) (eqb-true _ _) (eqb-false _ _)
    (λ l. links 7 (eqb size 0) (not (eqb right 2)) _ (Range size (offset + len))
    (λ e. inl (eqb-true _ _ e)) (λ e. inr (ne_true _ _ e)) (λ e g. neither (eqb-false _ _ e) (ne_false _ _ g))
    (λ s r. range_number size (offset + len)))

few : (n : ℕ) → eqb n 0 ≡ false → ltb 8 n ≡ false → (1 ≤ n) × (n ≤ 8)
few zero e g = absurd (eqb-false 0 0 e refl)
few (suc n) e g = (omega arith, ltb-false 8 (suc n) g)

abbrev Count : ℕ → (ℕ → Type 0) → ℕ → Type 0
Count n rest = Unless ((1 ≤ n) × (n ≤ 8)) 9 rest

-- a length
abbrev Length : ℕ → ℕ → (ℕ → Type 0) → ℕ → Type 0
Length len k rest = Unless (len ≡ k) 6 rest

request_numbers : (len size right offset count : ℕ)
    → Length len 3 (Missing (right ≡ 0) size (Count count (Range size (offset + count)))) (request_number len size right offset count)
unfolding request_number
request_numbers len size right offset n =
    unless 6 (not (eqb len 3)) _ (Missing (right ≡ 0) size (Count n (Range size (offset + n)))) (ne_true _ _) (is_false _ _)
    (λ l. links 7 (eqb size 0) (eqb right 0) _ (Count n (Range size (offset + n)))
    (λ e. inl (eqb-true _ _ e)) (λ e. inr (eqb-true _ _ e)) (λ e g. neither (eqb-false _ _ e) (eqb-false _ _ g))
    (λ s r. unlesses 9 (eqb n 0) (ltb 8 n) _ (Range size (offset + n))
    (λ e h. omega (arith, eqb-true n 0 e)) (λ e h. omega (arith, ltb-true 8 n e)) (few n)
    (λ y z. range_number size (offset + n))))

burn_numbers : (len size right : ℕ) → Length len 0 (Missing (right ≢ 2) size Zero) (burn_number len size right)
unfolding burn_number
burn_numbers len size right =
    unless 6 (not (eqb len 0)) _ (Missing (right ≢ 2) size Zero) (ne_true _ _) (is_false _ _)
    (λ l. links 7 (eqb size 0) (not (eqb right 2)) _ Zero
    (λ e. inl (eqb-true _ _ e)) (λ e. inr (ne_true _ _ e)) (λ e g. neither (eqb-false _ _ e) (ne_false _ _ g))
    (λ s r. refl))

abbrev Queries : ℕ → ℕ → Type 0
Queries n = Unless ((n ≡ 1) ⊎ (n ≡ 5)) 9 Zero

one_or_five : (n : ℕ) → Queries n (0 if eqb n 1 else 0 if eqb n 5 else 9)
one_or_five n =
    choose (eqb n 1) (eqb n 5) (λ z. inl (eqb-true n 1 z)) (λ z. inr (eqb-true n 5 z))
    (λ y z. neither (eqb-false n 1 y) (eqb-false n 5 z))

query_numbers : (len first count : ℕ)
    → First (len ≡ 0) 6 (Unless (first ≡ 0x80) 5 (Length len 4 (Queries count))) (query_number len first count)
unfolding query_number
query_numbers len first count =
    link 6 (eqb len 0) _ (Unless (first ≡ 0x80) 5 (Length len 4 (Queries count))) (eqb-true _ _) (eqb-false _ _)
    (λ l. unless 5 (not (eqb first 0x80)) _ (Length len 4 (Queries count)) (ne_true _ _) (is_false _ _)
    (λ b. unless 6 (not (eqb len 4)) _ (Queries count) (ne_true _ _) (is_false _ _) (λ k. one_or_five count)))

module _ (e : Device) (f : Frame) where
  kind_numbers : KindNumber e f (kind_number e f)
  kind_numbers =
      record {
        command = λ k. subst (CommandNumber e f) (sym (command_case e f k)) (command_numbers _ _ _ _);
        request = λ k. subst (RequestNumber e f) (sym (request_case e f k)) (request_numbers _ _ _ _ _);
        burning = λ k. subst (BurnNumber e f) (sym (burn_case e f k)) (burn_numbers _ _ _);
        query = λ k. subst (QueryNumber f) (sym (query_case e f k)) (query_numbers _ _ _);
        other = other_case e f;
      }

-- ── All numbers ────────────────────────────────────────────────────────────────────────────────────────────────────

module _ (e : Device) (f : Frame) where
  -- the four parts of the order as one chain
  whole : serve_number e f
      ≡ (11 if not (known_family e.state.family && sound_current e.directory e.state)
      else 11 if not (sound_directory e.directory)
      else 10 if not (eqb (length e.memory) (total_of e.directory)) || not (eqb (length e.flash) (total_of e.directory))
      else 1 if leb (2 ^ 29) f.id else 2 if not (eqb (id_spare f.id) 0)
      else 3 if ltb 8 f.len else 4 if not (eqb (id_to f.id) (own_of e)) else kind_number e f)
  unfolding serve_number device_number state_number memory_number directory_number length_number head_number
  whole = rw (
    if_or_else,
    zero_or_else,
    if_or_else,
    if_or_else,
    zero_or_else,
    if_or_else,
    if_or_else,
    zero_or_else,
    if_or_else,
    if_or_else,
    if_or_else,
    if_or_else,
    zero_or_else,
  )

  pub serve_numbers : ServeNumber e f (serve_number e f)
  serve_numbers =
      let r4 = Unless (id_to f.id ≡ own_of e) 4 (KindNumber e f) in
      let r3 = First (8 < f.len) 3 r4 in
      let r2 = Unless (id_spare f.id ≡ 0) 2 r3 in
      let r1 = First (2 ^ 29 ≤ f.id) 1 r2 in
      let r10 = Unless ((length e.memory ≡ total_of e.directory) × (length e.flash ≡ total_of e.directory)) 10 r1 in
      rw whole
      (unlesses 11 _ _ _ r10 (λ h s. apart _ (says_state e.directory e.state s.0) (not-true _ h))
      (λ h s. apart _ (says_sound e.directory s.1) (not-true _ h))
      (λ g h. (state_says e.directory e.state (not-false _ g), sound_says e.directory (not-false _ h)))
      (λ t s. unless 10 _ _ r1 (λ h l. not_both _ _ h (eq-eqb _ _ l.0) (eq-eqb _ _ l.1))
      (λ h. let l = neither_not _ _ h in (eqb-true _ _ l.0, eqb-true _ _ l.1))
      (λ l. link 1 _ _ r2 (leb-true _ _) (le_false _ _)
      (λ i. unless 2 _ _ r3 (ne_true _ _) (is_false _ _)
      (λ p. link 3 _ _ r4 (ltb-true _ _) (lt_false _ _)
      (λ n. unless 4 _ _ (KindNumber e f) (ne_true _ _) (is_false _ _) (λ t. kind_numbers e f)))))))

-- An opening's number: each exactly when the paper says, 0 exactly when none applies.
use Prim.Native.Nat.{ℕ, ◌+◌, ◌≤◌, ◌<◌}
use mathlib.Core.Path.{◌≡◌, refl, sym, ◌∙◌, ap}
use mathlib.Core.Logic.{◌↔◌, ◌⊎◌, inl, inr, ◌≢◌}
use mathlib.Core.Option.{none, some}
use mathlib.Core.Bool.{Bool, true, false, cond, not, ◌||◌}
use native.Mathlib.Omega.{arith}
use lib.Dec.{ltb, eqb}
use borrow.Author.Tests.{eqb-true, le-leb, ltb-false, leb-true}
use Rattle.wire.specs.Order.{◌if◌else◌, ◌or_else◌}
use Rattle.wire.specs.First.{First, Zero}
use Rattle.bridge_rules.specs.State.{ask_number, Bridge, free, slot, rest, sound, is_free, is_none, first_slot, lowest_free, givable, lowest_givable}
use Rattle.bridge_rules.specs.Answers.{Buffers, Result, right_lengths, lent_number, unless, plain}
use Rattle.bridge_rules.specs.Opening.{room_number, Ask, ask_device, ask_table, ask_offset, ask_count, open_number, open_of}
use Rattle.bridge_rules.specs.Call.{step}
use Rattle.bridge_rules.specs.Calls.{OpeningNumber, OpeningNumbers, Acceptable, OpensExactly}
use Rattle.bridge_rules.proofs.NumberLaws.{OpenFacts, open_facts, open_lent, RightLengths, lengths_true, true_lengths}
use Rattle.wire.proofs.Orders.{if_or_else, zero_or_else}
use Rattle.wire.proofs.RefusalChains.{first_if, not_test, ltb_test, sound_test, either, or_test, over_test, none_test, some_of}
use Rattle.bridge_rules.proofs.Search.{cases, contradiction, Lowest, lowest_some, lowest_none, option_cases}
use Rattle.bridge_rules.proofs.CallCases.{free_at, givable_free, givable_rested, free_resting}

-- the numbers after 11 and 10, of which 12, 19 and 13 are told in two ways
abbrev pub after_lent : Bridge → Ask → ℕ
after_lent s a = ask_number (ask_device a) (ask_table a) (ask_offset a) (ask_count a) or_else room_number s

abbrev pub AfterLent : Ask → (full resting used : Type 0) → ℕ → Type 0
AfterLent a P R Q =
    First (¬ ((ask_device a ≤ 15) × (ask_table a ≤ 31))) 7
    (First (¬ ((1 ≤ ask_count a) × (ask_count a ≤ 128))) 9
    (First (2048 < ask_offset a + ask_count a) 8
    (First P 12
    (First R 19
    (First Q 13
    Zero)))))

room_chain : (s : Bridge) (n : ℕ) (P R Q : Type 0) → (is_none (lowest_free s) ≡ true) ↔ P → (is_none (lowest_givable s) ≡ true) ↔ R
    → (4294967295 ≤ s.issued) ↔ Q → (room_number s ≡ n) ↔ First P 12 (First R 19 (First Q 13 Zero)) n
unfolding room_number
room_chain s n P R Q p c q = first_if 12 (is_none (lowest_free s)) _ n P (First R 19 (First Q 13 Zero)) p
    (λ y. first_if 19 (is_none (lowest_givable s)) _ n R (First Q 13 Zero) c (λ z. first_if 13 _ 0 n Q Zero (
      λ e. q.0 (omega (arith, leb-true _ s.issued e)),
      λ u. le-leb _ s.issued (omega (arith, q.1 u)),
    ) (λ z. (sym, sym))))

args_chain : (d t o c x n : ℕ) (rest : ℕ → Type 0) → (x ≡ n) ↔ rest n
    → ((ask_number d t o c or_else x) ≡ n)
    ↔ First (¬ ((d ≤ 15) × (t ≤ 31))) 7 (First (¬ ((1 ≤ c) × (c ≤ 128))) 9 (First (2048 < o + c) 8 rest)) n
unfolding ask_number
args_chain d t o c x n rest r = (λ e. tests.0 (sym flat ∙ e), λ p. flat ∙ tests.1 p)
  where
    flat : (ask_number d t o c or_else x)
        ≡ (7 if (ltb 15 d || ltb 31 t) else 9 if (eqb c 0 || ltb 128 c) else 8 if ltb 2048 (o + c) else x)
    flat = rw (if_or_else, if_or_else, if_or_else, if_or_else, if_or_else, zero_or_else) (either 7 (ltb 15 d) (ltb 31 t) _
        ∙ ap (λ (k : ℕ). 7 if (ltb 15 d || ltb 31 t) else k) (either 9 (eqb c 0) (ltb 128 c) _))

    tests : ((7 if (ltb 15 d || ltb 31 t) else 9 if (eqb c 0 || ltb 128 c) else 8 if ltb 2048 (o + c) else x) ≡ n)
        ↔ First (¬ ((d ≤ 15) × (t ≤ 31))) 7 (First (¬ ((1 ≤ c) × (c ≤ 128))) 9 (First (2048 < o + c) 8 rest)) n
    tests = first_if 7 (ltb 15 d || ltb 31 t) _ n (¬ ((d ≤ 15) × (t ≤ 31)))
        (First (¬ ((1 ≤ c) × (c ≤ 128))) 9 (First (2048 < o + c) 8 rest))
        (or_test (ltb 15 d) (ltb 31 t) (d ≤ 15) (t ≤ 31) (over_test 15 d) (over_test 31 t) (ltb-false 15 d) (ltb-false 31 t))
        (λ z. first_if 9 (eqb c 0 || ltb 128 c) _ n (¬ ((1 ≤ c) × (c ≤ 128))) (First (2048 < o + c) 8 rest)
        (or_test (eqb c 0) (ltb 128 c) (1 ≤ c) (c ≤ 128) (none_test c) (over_test 128 c) (some_of c) (ltb-false 128 c))
        (λ y. first_if 8 (ltb 2048 (o + c)) x n (2048 < o + c) rest (ltb_test 2048 (o + c)) (λ u. r)))

pub chain : (s : Bridge) (a : Ask) (n : ℕ) (P R Q : Type 0) → (is_none (lowest_free s) ≡ true) ↔ P → (is_none (lowest_givable s) ≡ true) ↔ R
    → (4294967295 ≤ s.issued) ↔ Q → (after_lent s a ≡ n) ↔ AfterLent a P R Q n
chain s a n P R Q p c q = args_chain (ask_device a) (ask_table a) (ask_offset a) (ask_count a) (room_number s) n
    (First P 12 (First R 19 (First Q 13 Zero))) (room_chain s n P R Q p c q)

free_phase : (p : ℕ) → is_free p ≡ true → p ≡ free
free_phase p e = eqb-true p free e

-- a search that fails
none_passes : (p : ℕ → Bool) → (is_none (first_slot p 0 4) ≡ true) ↔ ((k : ℕ) → k < 4 → p k ≡ false)
none_passes p = go (option_cases (first_slot p 0 4))
  where
    go : (first_slot p 0 4 ≡ none) ⊎ ((k : ℕ) × (first_slot p 0 4 ≡ some k)) → (is_none (first_slot p 0 4) ≡ true) ↔ ((k : ℕ) → k < 4 → p k ≡ false)
    go (inl z) = (λ e k l. lowest_none p z k l, λ f. ap is_none z)
    go (inr (k, z)) =
        let w : Lowest p k = lowest_some p k z in
        (λ e. contradiction e (ap is_none z), λ f. contradiction w.passes (f k w.bound))

-- no free slot, and none that an opening may take
pub full : (s : Bridge) → (is_none (lowest_free s) ≡ true) ↔ ((k : ℕ) → k < 4 → is_free (slot s k).phase ≡ false)
unfolding lowest_free
full s = none_passes (free_at s)

pub none_givable : (s : Bridge) → (is_none (lowest_givable s) ≡ true) ↔ ((k : ℕ) → k < 4 → givable s k ≡ false)
unfolding lowest_givable
none_givable s = none_passes (givable s)

lowest_is : (s : Bridge) (k : ℕ) → lowest_givable s ≡ some k → Lowest (givable s) k
unfolding lowest_givable
lowest_is s k = lowest_some (givable s) k

-- each free slot rests
all_resting : (s : Bridge) → (is_none (lowest_givable s) ≡ true) ↔ ((k : ℕ) → k < 4 → (slot s k).phase ≡ free → rest s k ≢ 0)
all_resting s = (
  λ e k l z. free_resting s k ((none_givable s).0 e k l) (ap is_free z),
  λ f. (none_givable s).1 (λ k l. go k l (cases (givable s k)) f),
)
  where
    go : (k : ℕ) → k < 4 → (givable s k ≡ true) ⊎ (givable s k ≡ false) → ((k : ℕ) → k < 4 → (slot s k).phase ≡ free → rest s k ≢ 0)
        → givable s k ≡ false
    go k l (inl e) f = absurd (f k l (free_phase (slot s k).phase (givable_free s k e)) (givable_rested s k e))
    go k l (inr e) f = e

full_phases : (s : Bridge) → (is_none (lowest_free s) ≡ true) ↔ ((k : ℕ) → k < 4 → (slot s k).phase ≢ free)
full_phases s = (
  λ e k l z. contradiction (ap is_free z) ((full s).0 e k l),
  λ f. (full s).1 (λ k l. go k l (cases (is_free (slot s k).phase)) f),
)
  where
    go : (k : ℕ) → k < 4 → (is_free (slot s k).phase ≡ true) ⊎ (is_free (slot s k).phase ≡ false)
        → ((k : ℕ) → k < 4 → (slot s k).phase ≢ free) → is_free (slot s k).phase ≡ false
    go k l (inl e) f = absurd (f k l (free_phase (slot s k).phase e))
    go k l (inr e) f = e

-- the number is the refusal
pub unless_number : (n : ℕ) (r : Result) (s : Bridge) (b : Buffers) → r.answer.number ≡ 0 → (unless n r s b).answer.number ≡ n
unless_number n r s b z = go (eqb n 0) refl
  where
    go : (t : Bool) → eqb n 0 ≡ t → (cond t r (record { answer = plain n; state = s; buffers = b })).answer.number ≡ n
    go true e = z ∙ sym (eqb-true n 0 e)
    go false e = refl

pub number_is : (s : Bridge) (b : Buffers) (a : Ask) → (open_of s b a).answer.number ≡ open_number s (right_lengths b) a
unfolding open_of
number_is s b a = unless_number (open_number s (right_lengths b) a) _ s b refl

pub opening_numbers_lem : OpeningNumbers
unfolding step open_number lent_number
opening_numbers_lem s b a n = (λ e. h.0 (sym (number_is s b a) ∙ e), λ p. number_is s b a ∙ h.1 p)
  where
    Full : Type 0
    Full = (k : ℕ) → k < 4 → (slot s k).phase ≢ free

    Rests : Type 0
    Rests = (k : ℕ) → k < 4 → (slot s k).phase ≡ free → rest s k ≢ 0

    Used : Type 0
    Used = 4294967295 ≤ s.issued

    h : (open_number s (right_lengths b) a ≡ n) ↔ OpeningNumber s b a n
    h = (λ e. tests.0 (sym flat ∙ e), λ p. flat ∙ tests.1 p)
      where
        flat : open_number s (right_lengths b) a ≡ (11 if not (sound s) else 10 if not (right_lengths b) else after_lent s a)
        flat = rw (if_or_else, if_or_else, zero_or_else)

        tests : ((11 if not (sound s) else 10 if not (right_lengths b) else after_lent s a) ≡ n) ↔ OpeningNumber s b a n
        tests = first_if 11 (not (sound s)) _ n (sound s ≡ false) (First (¬ RightLengths b) 10 (AfterLent a Full Rests Used)) (sound_test (sound s))
            (λ y. first_if 10 (not (right_lengths b)) (after_lent s a) n (¬ RightLengths b) (AfterLent a Full Rests Used)
            (not_test (right_lengths b) (RightLengths b) (true_lengths b, lengths_true b))
            (λ z. chain s a n Full Rests Used (full_phases s) (all_resting s) (λ u. u, λ u. u)))

pub opens_exactly_lem : OpensExactly
unfolding step
opens_exactly_lem s b a = (there, back)
  where
    there : (open_of s b a).answer.number ≡ 0 → Acceptable s b a
    there e =
        let z : open_number s (right_lengths b) a ≡ 0 = sym (number_is s b a) ∙ e in
        let l = open_lent s b a z in
        let o : OpenFacts s a = open_facts s (right_lengths b) a z in
        record {
          accepts = l.0;
          first = l.1.0;
          second = l.1.1;
          device = o.law.device;
          table = o.law.table;
          nonempty = omega (arith, o.law.some);
          few = o.law.few;
          inside = omega (arith, o.law.inside);
          room = free_slot (option_cases (lowest_givable s)) o.slotted;
          ticket = o.ticketed;
        }
      where
        free_slot : (lowest_givable s ≡ none) ⊎ ((k : ℕ) × (lowest_givable s ≡ some k)) → is_none (lowest_givable s) ≡ false
            → (k : ℕ) × (k < 4) × ((slot s k).phase ≡ free) × (rest s k ≡ 0)
        free_slot (inl y) q = contradiction (ap is_none y) q
        free_slot (inr (k, y)) q =
            let w = lowest_is s k y in
            (k, w.bound, free_phase (slot s k).phase (givable_free s k w.passes), givable_rested s k w.passes)

    back : Acceptable s b a → (open_of s b a).answer.number ≡ 0
    back c = (opening_numbers_lem s b a 0).1 (inr (
      λ z. contradiction c.accepts z,
      inr (
        λ z. z (c.first, c.second),
        inr (
          λ z. z (c.device, c.table),
          inr (
            λ z. z (c.nonempty, c.few),
            inr (
              λ z. omega (arith, c.inside),
              inr (
                λ z. z c.room.0 c.room.1 c.room.2,
                inr (λ z. z c.room.0 c.room.1 c.room.2 c.room.3, inr (λ z. omega (arith, c.ticket), refl)),
              ),
            ),
          ),
        ),
      ),
    ))

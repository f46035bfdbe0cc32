-- The status of a standing transfer is its slot's phase.
use Prim.Native.Nat.{ℕ, ◌*◌, ◌<◌}
use mathlib.Core.Path.{◌≡◌, refl, sym, ◌∙◌, ap}
use mathlib.Core.Logic.{◌↔◌, ◌⊎◌, inl, inr, ◌≢◌}
use mathlib.Core.List.{List}
use mathlib.Core.Option.{Option, none, some}
use mathlib.Core.Bool.{Bool, true, false, cond, not, false≢true}
use native.Mathlib.Omega.{arith}
use native.Mathlib.Decide.{ℕ_discrete}
use lib.ListN.{length}
use lib.Dec.{eqb}
use borrow.Author.Tests.{eqb-true, eq-eqb}
use Rattle.wire.specs.Order.{◌if◌else◌}
use Rattle.bridge_rules.specs.State.{Bridge, ready, waiting, done, gave_up, different, slot, is_free, held_slot, shows, sound}
use Rattle.bridge_rules.specs.Answers.{Buffers, plain}
use Rattle.bridge_rules.specs.Ending.{phase_number, ticket_number, status_of, bytes_of, bytes_number, no_span, slot_span, span_of}
use Rattle.wire.specs.Log.{part_of}
use Rattle.bridge_rules.specs.Call.{its_own, status, bytes, step}
use Rattle.bridge_rules.specs.Run.{Run, state, buffers, Lawful, Transfer, ticket, slot_of, Stands, status_at, shown_at}
use Rattle.bridge_rules.specs.Demand3.{showing}
use Rattle.bridge_rules.proofs.Search.{cases, Lowest, lowest_some, lowest_none, and-true}
use Rattle.bridge_rules.proofs.SlotOk.{held_free}
use Rattle.bridge_rules.proofs.SoundTest.{Sound, sound_true}
use Rattle.bridge_rules.proofs.CallCases.{held_by_lem}
use Rattle.bridge_rules.proofs.SoundRuns.{storage_sound}
use Rattle.bridge_rules.proofs.Standing.{opened_at, slot_at, held}

held_by_ticket : (s : Bridge) (k t : ℕ) → Sound s → k < 4 → (slot s k).ticket ≡ t → 0 < t → (o : Option ℕ) → held_slot s t ≡ o → o ≡ some k
unfolding held_slot
held_by_ticket s k t h l e p none q =
    let f : is_free (slot s k).phase ≡ false = held_free (slot s k) (h.each k l) (omega arith) in
    absurd (false≢true (sym (lowest_none (held_by_lem s t) q k l) ∙ rw (f, eq-eqb (slot s k).ticket t e)))
held_by_ticket s k t h l e p (some j) q = go (ℕ_discrete j k)
  where
    w : Lowest (held_by_lem s t) j
    w = lowest_some (held_by_lem s t) j q

    same : (slot s j).ticket ≡ t
    same = eqb-true (slot s j).ticket t (and-true (not (is_free (slot s j).phase)) (eqb (slot s j).ticket t) w.passes).1

    go : Dec (j ≡ k) → some j ≡ some k
    go (yes u) = ap some u
    go (no u) = absurd (h.apart j k w.bound l u (omega (arith, same)) (same ∙ sym e))

-- a span of a slot has no refusal
pub span_number : (s : Bridge) (k : ℕ) → (slot_span s k).number ≡ 0
unfolding slot_span
span_number s k = go (shows (slot s k).kind)
  where
    go : (c : Bool) → (cond c (record { number = 0; start = 128 * k; len = (slot s k).count }) (no_span 0)).number ≡ 0
    go true = refl
    go false = refl

-- the answer of the bytes call by its number
bytes_is : (s : Bridge) (b : List ℕ) (t k n : ℕ) → bytes_number s (length b) t ≡ n → held_slot s t ≡ some k
    → bytes_of s b t ≡ cond (eqb n 0) (showing (part_of b (slot_span s k))) (plain n)
unfolding bytes_of span_of
bytes_is s b t k n e f = rw (e, f) (go (eqb n 0))
  where
    go : (c : Bool) → record {
      number = (cond c (slot_span s k) (no_span n)).number;
      ticket = 0;
      sent = none;
      shown = part_of b (cond c (slot_span s k) (no_span n));
    } ≡ cond c (showing (part_of b (slot_span s k))) (plain n)
    go true = rw (span_number s k)
    go false = refl

-- a phase's number: 15, or that of one phase alone
abbrev ended_as : ℕ → ℕ
ended_as n = cond (eqb n 0) done (cond (eqb n 16) gave_up different)

abbrev Numbered : ℕ → Type 0
Numbered p = (phase_number p ≡ 15) ⊎ ((p ≡ ended_as (phase_number p)) × ((phase_number p ≡ 0) ⊎ (phase_number p ≡ 16) ⊎ (phase_number p ≡ 18)))

numbered : (p : ℕ) → Numbered p
unfolding phase_number ◌if◌else◌
numbered p = go (cases (eqb p done)) (cases (eqb p gave_up)) (cases (eqb p different))
  where
    go : (eqb p done ≡ true) ⊎ (eqb p done ≡ false) → (eqb p gave_up ≡ true) ⊎ (eqb p gave_up ≡ false)
        → (eqb p different ≡ true) ⊎ (eqb p different ≡ false)
        → Numbered p
    go (inl d) g f = inr (rw d (eqb-true p done d), inl (rw d))
    go (inr d) (inl g) f = inr (rw (d, g) (eqb-true p gave_up g), inr (inl (rw (d, g))))
    go (inr d) (inr g) (inl f) = inr (rw (d, g, f) (eqb-true p different f), inr (inr (rw (d, g, f))))
    go (inr d) (inr g) (inr f) = inl (rw (d, g, f))

number_phase : (p n : ℕ) → phase_number p ≡ n → n ≢ 15 → p ≡ ended_as n
number_phase p n e d = go (numbered p)
  where
    go : Numbered p → p ≡ ended_as n
    go (inl q) = absurd (d (sym e ∙ q))
    go (inr q) = q.0 ∙ ap ended_as e

number_other : (p : ℕ) → phase_number p ≢ 0 → phase_number p ≢ 16 → phase_number p ≢ 18 → phase_number p ≡ 15
number_other p a b c = go (numbered p)
  where
    go : Numbered p → phase_number p ≡ 15
    go (inl q) = q
    go (inr (e, inl q)) = absurd (a q)
    go (inr (e, inr (inl q))) = absurd (b q)
    go (inr (e, inr (inr q))) = absurd (c q)

ended_numbers : (phase_number done ≡ 0) × (phase_number gave_up ≡ 16) × (phase_number different ≡ 18)
unfolding phase_number ◌if◌else◌
ended_numbers = (refl, refl, refl)

module _ (r : Run) (w : Lawful r) (x : Transfer r) where
  pub held_by : (n : ℕ) → Stands r x n → held_slot (state r n) (ticket r x) ≡ some (slot_of r x)
  held_by n s = held_by_ticket (state r n) (slot_of r x) (ticket r x) (storage_sound r w n).0 (opened_at r w x).bound (held r w x n s).ticket
      (omega (arith, (opened_at r w x).ticketed)) _ refl

  number_is : (n : ℕ) → Stands r x n → ticket_number (state r n) (ticket r x) ≡ phase_number (slot_at r x n).phase
  unfolding ticket_number ◌if◌else◌
  number_is n s = rw (held_by n s)

  pub status_is : (n : ℕ) → Stands r x n → status_at r x n ≡ phase_number (slot_at r x n).phase
  unfolding step status_of ◌if◌else◌
  status_is n s = rw (sound_true (state r n) (storage_sound r w n).0) (number_is n s)

  pub shown_is : (n : ℕ) → Stands r x n → shown_at r x n
      ≡ cond (eqb (status_at r x n) 0) (showing (part_of (buffers r n).first (slot_span (state r n) (slot_of r x)))) (plain (status_at r x n))
  unfolding step bytes_number ◌if◌else◌
  shown_is n s = bytes_is (state r n) (buffers r n).first (ticket r x) (slot_of r x) (status_at r x n)
      (rw (sound_true (state r n) (storage_sound r w n).0, eq-eqb (length (buffers r n).first) 512 (storage_sound r w n).1.0) (number_is n s
      ∙ sym (status_is n s))) (held_by n s)

  -- 0 is done, 16 given up, 18 different
  ended_is : (n p m : ℕ) → Stands r x n → m ≢ 15 → phase_number p ≡ m → ended_as m ≡ p → (status_at r x n ≡ m) ↔ ((slot_at r x n).phase ≡ p)
  ended_is n p m s d e q = (
    λ z. number_phase (slot_at r x n).phase m (sym (status_is n s) ∙ z) d ∙ q,
    λ z. status_is n s ∙ ap phase_number z ∙ e,
  )

  pub done_is : (n : ℕ) → Stands r x n → (status_at r x n ≡ 0) ↔ ((slot_at r x n).phase ≡ done)
  done_is n s = ended_is n done 0 s (λ z. omega arith) ended_numbers.0 refl

  pub gave_up_is : (n : ℕ) → Stands r x n → (status_at r x n ≡ 16) ↔ ((slot_at r x n).phase ≡ gave_up)
  gave_up_is n s = ended_is n gave_up 16 s (λ z. omega arith) ended_numbers.1 refl

  pub different_is : (n : ℕ) → Stands r x n → (status_at r x n ≡ 18) ↔ ((slot_at r x n).phase ≡ different)
  different_is n s = ended_is n different 18 s (λ z. omega arith) ended_numbers.2 refl

  -- 15 is ready or waiting
  pub unfinished_in : (n : ℕ) → Stands r x n → ((slot_at r x n).phase ≡ ready) ⊎ ((slot_at r x n).phase ≡ waiting) → status_at r x n ≡ 15
  unfolding phase_number ◌if◌else◌
  unfinished_in n s (inl e) = status_is n s ∙ ap phase_number e
  unfinished_in n s (inr e) = status_is n s ∙ ap phase_number e

  -- and otherwise 15
  pub unfinished_is : (n : ℕ) → Stands r x n → status_at r x n ≢ 0 → status_at r x n ≢ 16 → status_at r x n ≢ 18 → status_at r x n ≡ 15
  unfinished_is n s a b c = status_is n s
      ∙ number_other (slot_at r x n).phase (λ e. a (status_is n s ∙ e)) (λ e. b (status_is n s ∙ e)) (λ e. c (status_is n s ∙ e))

-- a ticket that no slot has
pub unknown_ticket : (s : Bridge) (b : Buffers) (t : ℕ) → Sound s → length b.first ≡ 512 → held_slot s t ≡ none
    → ((step s b (status t)).answer ≡ plain 14) × ((step s b (bytes its_own t)).answer ≡ plain 14)
unfolding step status_of bytes_of span_of bytes_number ticket_number ◌if◌else◌
unknown_ticket s b t h l e =
    let p : sound s ≡ true = sound_true s h in
    let q : eqb (length b.first) 512 ≡ true = eq-eqb (length b.first) 512 l in
    (rw (p, e), rw (p, q, e))

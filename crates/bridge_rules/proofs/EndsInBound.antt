-- A transfer ends within 72 accepted turns for each chunk, from its opening on, or from the last CMD of a checked write on.
use Prim.Native.Nat.{ℕ, suc, ◌+◌, ◌*◌, ◌≤◌, ◌<◌}
use mathlib.Core.Path.{◌≡◌, refl, sym, ◌∙◌, ap}
use mathlib.Core.Logic.{◌⊎◌, inl, inr}
use mathlib.Core.Bool.{false}
use native.Mathlib.Omega.{arith}
use Rattle.bridge_rules.specs.State.{Slot, ready, waiting, done, gave_up, different, checking}
use Rattle.bridge_rules.specs.Turn.{aged, advanced, carried}
use Rattle.bridge_rules.specs.Run.{Run, state, Lawful, Transfer, slot_of, Stands, turns, chunks}
use Rattle.bridge_rules.proofs.KindTests.{KnownKind, KindGoes}
use Rattle.bridge_rules.proofs.Search.{contradiction}
use Rattle.bridge_rules.proofs.SlotOk.{SlotOk, ok_free, ok_ready, ok_waiting, ok_done, ok_gave_up, ok_different, other_phase}
use Rattle.bridge_rules.proofs.SlotOk.{left_eq, phase_eq, progress_eq, sends_eq, ticket_eq}
use Rattle.bridge_rules.proofs.SlotChanges.{aged_kind, aged_progress, aged_sends, aged_ready, aged_waiting, ReadyAgain, WaitsOn}
use Rattle.bridge_rules.proofs.SlotChanges.{Requested, sent_write, sent_read, Carry, moves_on, turns_back, carry, differed_is}
use Rattle.bridge_rules.proofs.SlotChanges.{Advance, ready_next, done_with, advance, advanced_sends, advanced_not}
use Rattle.bridge_rules.proofs.SlotEffects.{unchanged, ages, served, taken, disagreed, change_kind, distance}
use Rattle.bridge_rules.proofs.TurnCounts.{turns_same, turns_more, turns_none}
use Rattle.bridge_rules.proofs.SoundRuns.{near, nearer}
use Rattle.bridge_rules.proofs.Standing.{ok_at, opened_at, slot_at, ChangesSlot, Held, held, Begins, along_from}

-- of what has no more to carry before it asks: turns used, and turns that the current chunk may still take, by phase; nine turns a byte
-- are 72 for eight
record WithinBound (r : Run) (x : Transfer r) (j n : ℕ) : Type 0 where
  not_checking : checking (slot_at r x n).kind ≡ false
  if_ready : (slot_at r x n).phase ≡ ready → turns r j n + distance (state r n).last (slot_of r x)
      ≤ 9 * (slot_at r x n).progress + 3 + 24 * (slot_at r x n).sends
  if_waiting : (slot_at r x n).phase ≡ waiting → turns r j n + (slot_at r x n).left ≤ 9 * (slot_at r x n).progress + 24 * (slot_at r x n).sends

-- after an advance: ready at the next chunk, or done
advance_within : (y : Slot) (t d : ℕ) → t + d ≤ 9 * y.progress + 75 → (advanced y).phase ≡ ready
    → t + d ≤ 9 * (advanced y).progress + 3 + 24 * (advanced y).sends
advance_within y t d h e = go (advance y)
  where
    go : Advance y → t + d ≤ 9 * (advanced y).progress + 3 + 24 * (advanced y).sends
    go (ready_next p q l) = omega (arith, q, advanced_sends y)
    go (done_with p q l) = other_phase p e refl

module _ (r : Run) (w : Lawful r) (x : Transfer r) where
  -- after aging, before the turn's send
  aged_within : (j n : ℕ) → WithinBound r x j n → (aged (slot_at r x n)).phase ≡ ready
      → turns r j n ≤ 9 * (slot_at r x n).progress + 3 + 24 * (slot_at r x n).sends
  aged_within j n b e = go (aged_ready (slot_at r x n) (ok_at r w x n) e)
    where
      go : (((slot_at r x n).phase ≡ ready) × (aged (slot_at r x n) ≡ slot_at r x n)) ⊎ ReadyAgain (slot_at r x n)
          → turns r j n ≤ 9 * (slot_at r x n).progress + 3 + 24 * (slot_at r x n).sends
      go (inl p) = omega (arith, b.if_ready p.0)
      go (inr a) = omega (arith, b.if_waiting a.was.phase, a.over)

  stays_not_checking : (n : ℕ) → checking (slot_at r x n).kind ≡ false → ChangesSlot r x n → checking (slot_at r x (suc n)).kind ≡ false
  unfolding checking
  stays_not_checking n u v = go (change_kind v)
    where
      go : KindGoes (slot_at r x n).kind (slot_at r x (suc n)).kind → checking (slot_at r x (suc n)).kind ≡ false
      go (inl e) = ap checking e ∙ u
      go (inr (p, q)) = ap checking q

  within_step : (j n : ℕ) → Stands r x (suc n) → j < n → Held r x n → ChangesSlot r x n → WithinBound r x j n → WithinBound r x j (suc n)
  within_step j n s l h (unchanged v) b = record {
    not_checking = stays_not_checking n b.not_checking (unchanged v);
    if_ready = λ p. rw (turns_same r j n v.no_turn, v.after, v.last) (b.if_ready (sym (phase_eq v.after) ∙ p));
    if_waiting = λ p. rw (turns_same r j n v.no_turn, v.after) (b.if_waiting (sym (phase_eq v.after) ∙ p));
  }
  within_step j n s l h (ages v) b =
      record { not_checking = stays_not_checking n b.not_checking (ages v); if_ready = if_ready; if_waiting = if_waiting }
    where
      t : turns r j (suc n) ≡ suc (turns r j n)
      t = turns_more r j n v.turned l

      progress : (slot_at r x (suc n)).progress ≡ (slot_at r x n).progress
      progress = progress_eq v.after ∙ aged_progress (slot_at r x n)

      sends : (slot_at r x (suc n)).sends ≡ (slot_at r x n).sends
      sends = sends_eq v.after ∙ aged_sends (slot_at r x n)

      if_ready : (slot_at r x (suc n)).phase ≡ ready → turns r j (suc n) + distance (state r (suc n)).last (slot_of r x)
          ≤ 9 * (slot_at r x (suc n)).progress + 3 + 24 * (slot_at r x (suc n)).sends
      if_ready p = go (aged_ready (slot_at r x n) (ok_at r w x n) q)
        where
          q : (aged (slot_at r x n)).phase ≡ ready
          q = sym (phase_eq v.after) ∙ p

          go : (((slot_at r x n).phase ≡ ready) × (aged (slot_at r x n) ≡ slot_at r x n)) ⊎ ReadyAgain (slot_at r x n)
              → turns r j (suc n) + distance (state r (suc n)).last (slot_of r x)
              ≤ 9 * (slot_at r x (suc n)).progress + 3 + 24 * (slot_at r x (suc n)).sends
          go (inl z) = omega (arith, t, progress, sends, nearer r n (slot_of r x) v.unserved q, b.if_ready z.0)
          go (inr a) = omega (arith, t, progress, sends, near r (suc n) (slot_of r x), a.over, b.if_waiting a.was.phase)

      if_waiting : (slot_at r x (suc n)).phase ≡ waiting → turns r j (suc n) + (slot_at r x (suc n)).left
          ≤ 9 * (slot_at r x (suc n)).progress + 24 * (slot_at r x (suc n)).sends
      if_waiting p =
          let a : WaitsOn (slot_at r x n) = aged_waiting (slot_at r x n) (ok_at r w x n) (sym (phase_eq v.after) ∙ p) in
          omega (arith, t, progress, sends, left_eq v.after, a.left, b.if_waiting a.was.phase)
  within_step j n s l h (served v) b = go v.ready.held.kind
    where
      t : turns r j (suc n) ≡ suc (turns r j n)
      t = turns_more r j n v.turned l

      before : turns r j n ≤ 9 * (aged (slot_at r x n)).progress + 3 + 24 * (aged (slot_at r x n)).sends
      before = omega (arith, aged_within j n b v.ready.phase, aged_progress (slot_at r x n), aged_sends (slot_at r x n))

      goes_on : carried (aged (slot_at r x n)) ≡ advanced (aged (slot_at r x n))
      goes_on = on (carry (aged (slot_at r x n)))
        where
          on : Carry (aged (slot_at r x n)) → carried (aged (slot_at r x n)) ≡ advanced (aged (slot_at r x n))
          on (moves_on e q) = e
          on (turns_back e c q) = contradiction c (ap checking (aged_kind (slot_at r x n)) ∙ b.not_checking)

      go : KnownKind (aged (slot_at r x n)).kind → WithinBound r x j (suc n)
      go (inl u) =
          let z : slot_at r x (suc n) ≡ advanced (aged (slot_at r x n)) = v.after ∙ sent_write (aged (slot_at r x n)) u ∙ goes_on in
          record {
            not_checking = stays_not_checking n b.not_checking (served v);
            if_ready = λ p. rw z (advance_within (aged (slot_at r x n)) (turns r j (suc n)) (distance (state r (suc n)).last (slot_of r x))
                (omega (arith, before, t, near r (suc n) (slot_of r x), v.ready.unsent u)) (sym (phase_eq z) ∙ p));
            if_waiting = λ p. advanced_not (aged (slot_at r x n)) waiting (sym (phase_eq z) ∙ p) refl refl;
          }
      go (inr u) =
          let z : Requested (aged (slot_at r x n)) = sent_read (aged (slot_at r x n)) u in
          record {
            not_checking = stays_not_checking n b.not_checking (served v);
            if_ready = λ p. other_phase p (phase_eq v.after ∙ z.phase) refl;
            if_waiting = λ p. rw v.after (omega (arith, before, t, z.progress, z.sends, z.left));
          }
  within_step j n s l h (taken v) b =
      let t : turns r j (suc n) ≡ turns r j n = turns_same r j n v.no_turn in
      record {
        not_checking = stays_not_checking n b.not_checking (taken v);
        if_ready = λ p. rw v.after (advance_within (slot_at r x n) (turns r j (suc n)) (distance (state r (suc n)).last (slot_of r x))
            (omega (arith, t, near r (suc n) (slot_of r x), b.if_waiting v.waits.phase, v.waits.thrice, v.waits.some))
            (sym (phase_eq v.after) ∙ p));
        if_waiting = λ p. advanced_not (slot_at r x n) waiting (sym (phase_eq v.after) ∙ p) refl refl;
      }
  within_step j n s l h (disagreed v) b =
      let p : (slot_at r x (suc n)).phase ≡ different = phase_eq v.after ∙ (differed_is (slot_at r x n)).phase in
      record {
        not_checking = stays_not_checking n b.not_checking (disagreed v);
        if_ready = λ q. other_phase p q refl;
        if_waiting = λ q. other_phase p q refl;
      }

  base : (j : ℕ) → Begins r x (suc j) → checking (slot_at r x (suc j)).kind ≡ false → WithinBound r x j (suc j)
  base j g u = record {
    not_checking = u;
    if_ready = λ p. omega (arith, near r (suc j) (slot_of r x), turns_none r j (suc j) (omega arith));
    if_waiting = λ p. other_phase g.phase p refl;
  }

  within : (j : ℕ) → Begins r x (suc j) → checking (slot_at r x (suc j)).kind ≡ false → (n : ℕ) → j < n → Stands r x n → WithinBound r x j n
  within j g u = along_from r w x (suc j) g.since (WithinBound r x j) (base j g u) (within_step j)

  -- it has ended
  abbrev pub Ended : ℕ → Type 0
  Ended n = ((slot_at r x n).phase ≡ done) ⊎ ((slot_at r x n).phase ≡ gave_up) ⊎ ((slot_at r x n).phase ≡ different)

  -- 72 turns for each chunk after it began
  pub ended : (j : ℕ) → Begins r x (suc j) → checking (slot_at r x (suc j)).kind ≡ false → (n : ℕ) → j < n → Stands r x n
      → 72 * chunks r x ≤ turns r j n → Ended n
  ended j g u n l s e = go (ok_at r w x n)
    where
      b : WithinBound r x j n
      b = within j g u n l s

      h : Held r x n
      h = held r w x n s

      go : SlotOk (slot_at r x n) → Ended n
      go (ok_free q) = absurd (let z : (slot_at r x n).ticket ≡ 0
          = ticket_eq q in omega (arith, z, h.ticket, (opened_at r w x).ticketed))
      go (ok_ready u) = absurd (omega (arith, e, b.if_ready u.phase, u.partway.at, u.partway.below, h.count, u.sends))
      go (ok_waiting u) = absurd (omega (arith, e, b.if_waiting u.phase, u.partway.at, u.partway.below, h.count, u.thrice, u.some))
      go (ok_done u) = inl u.phase
      go (ok_gave_up u) = inr (inl u.phase)
      go (ok_different u) = inr (inr u.phase)

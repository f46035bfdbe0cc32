-- The test `sound` passes exactly where 01's sentence on a sound state holds.
use Prim.Native.Nat.{ℕ, ◌≤◌, ◌<◌}
use mathlib.Core.Path.{◌≡◌, refl, ap}
use mathlib.Core.Logic.{◌↔◌, ◌⊎◌, inl, inr, ◌≢◌}
use mathlib.Core.Bool.{Bool, true, false}
use native.Mathlib.Omega.{arith}
use native.Mathlib.Decide.{ℕ_discrete}
use lib.ListN.{get_or}
use lib.Dec.{eqb}
use borrow.Author.Tests.{ne_eqb}
use Rattle.bridge_rules.specs.State.{Bridge, Slot, free, ready, waiting, done, gave_up, different, reads, writes, checks, reads_back, blank, slot, rest}
use Rattle.bridge_rules.specs.State.{is_free, is_ready, is_waiting, asks, carries, checking}
use Rattle.bridge_rules.specs.Sound.{AllZero, SoundHeld, SoundState, SoundExactly}
use Rattle.bridge_rules.proofs.KindTests.{KnownKind, one_kind, asks_kinds, kinds_ask, carries_kinds, kinds_carry}
use Rattle.bridge_rules.proofs.KindTests.{checking_kind, kind_checking, compares_kind, kind_compares}
use Rattle.bridge_rules.proofs.SlotOk.{HeldOk, Partway, ReadyOk, WaitOk, DifferentOk, SlotOk, ok_free, ok_ready, ok_waiting, ok_done, ok_gave_up, ok_different}
use Rattle.bridge_rules.proofs.SlotOk.{other_phase, phase_eq, left_eq, free_ok, ready_ok, wait_ok, done_ok, gave_up_ok, different_ok, checking_ready}
use Rattle.bridge_rules.proofs.SlotOk.{held_ok, has_ticket}
use Rattle.bridge_rules.proofs.SoundTest.{Sound, sound_true, true_sound}

-- ── free slots ─────────────────────────────────────────────────────────────────────────────────────────────────────

pub blank_zero : (x : Slot) → x ≡ blank → AllZero x
blank_zero x e = rw e (refl, refl, refl, refl, refl, refl, refl, refl, refl, refl)

zero_blank : (x : Slot) → AllZero x → x ≡ blank
zero_blank x (a, b, c, d, e, f, g, h, i, j) =
    let z : record {
      ticket = x.ticket;
      offset = x.offset;
      phase = x.phase;
      kind = x.kind;
      device = x.device;
      table = x.table;
      count = x.count;
      progress = x.progress;
      sends = x.sends;
      left = x.left;
    } ≡ blank = cc in
    z

-- ── kinds ──────────────────────────────────────────────────────────────────────────────────────────────────────────

abbrev OneKind : ℕ → Type 0
OneKind k = (k ≡ reads) ⊎ (k ≡ writes) ⊎ (k ≡ checks) ⊎ (k ≡ reads_back)

kind_told : (k : ℕ) → KnownKind k → OneKind k
kind_told k (inl c) = go (carries_kinds k c)
  where
    go : (k ≡ writes) ⊎ (k ≡ checks) → OneKind k
    go (inl e) = inr (inl e)
    go (inr e) = inr (inr (inl e))
kind_told k (inr a) = go (asks_kinds k a)
  where
    go : (k ≡ reads) ⊎ (k ≡ reads_back) → OneKind k
    go (inl e) = inl e
    go (inr e) = inr (inr (inr e))

kind_known : (k : ℕ) → OneKind k → KnownKind k
kind_known k (inl e) = inr (kinds_ask k (inl e))
kind_known k (inr (inl e)) = inl (kinds_carry k (inl e))
kind_known k (inr (inr (inl e))) = inl (kinds_carry k (inr e))
kind_known k (inr (inr (inr e))) = inr (kinds_ask k (inr e))

-- ── held slots: from the facts of each phase to the sentence ───────────────────────────────────────────────────────

module _ (t : ℕ) (x : Slot) (h : x.phase ≢ free) where
  in_phase : SlotOk x → (x.phase ≡ ready) ⊎ (x.phase ≡ waiting) ⊎ (x.phase ≡ done) ⊎ (x.phase ≡ gave_up) ⊎ (x.phase ≡ different)
  in_phase (ok_free e) = absurd (h (phase_eq e))
  in_phase (ok_ready r) = inl r.phase
  in_phase (ok_waiting w) = inr (inl w.phase)
  in_phase (ok_done d) = inr (inr (inl d.phase))
  in_phase (ok_gave_up g) = inr (inr (inr (inl g.phase)))
  in_phase (ok_different g) = inr (inr (inr (inr g.phase)))

  is_partway : SlotOk x → x.phase ≢ done → Partway x
  is_partway (ok_free e) d = absurd (h (phase_eq e))
  is_partway (ok_ready r) d = r.partway
  is_partway (ok_waiting w) d = w.partway
  is_partway (ok_done e) d = absurd (d e.phase)
  is_partway (ok_gave_up g) d = g.partway
  is_partway (ok_different g) d = g.partway

  at_count : SlotOk x → x.progress ≡ x.count → Dec (x.phase ≡ done) → x.phase ≡ done
  at_count k e (yes d) = d
  at_count k e (no d) = absurd (omega (arith, e, (is_partway k d).below))

  write_carries : x.kind ≡ writes → carries x.kind ≡ true
  write_carries w = kinds_carry x.kind (inl w)

  none_sent : SlotOk x → (x.kind ≡ writes) ⊎ (x.phase ≡ done) → x.sends ≡ 0
  none_sent k (inr d) = (done_ok x k d).sends
  none_sent (ok_free e) (inl w) = absurd (h (phase_eq e))
  none_sent (ok_ready r) (inl w) = r.unsent (write_carries w)
  none_sent (ok_waiting a) (inl w) = one_kind x.kind (write_carries w) a.asking
  none_sent (ok_done d) (inl w) = d.sends
  none_sent (ok_gave_up g) (inl w) = one_kind x.kind (write_carries w) g.asking
  none_sent (ok_different g) (inl w) = g.sends

  none_left : SlotOk x → x.phase ≢ waiting → x.left ≡ 0
  none_left (ok_free e) d = left_eq e
  none_left (ok_ready r) d = r.left
  none_left (ok_waiting w) d = absurd (d w.phase)
  none_left (ok_done e) d = e.left
  none_left (ok_gave_up g) d = g.left
  none_left (ok_different g) d = g.left

  held_sentence : SlotOk x → x.ticket ≤ t → SoundHeld t x
  held_sentence k g =
      let o : HeldOk x = held_ok x k (ne_eqb x.phase free h) in
      record {
        kinds = kind_told x.kind o.kind;
        phases = in_phase k;
        ticket = (o.ticket, g);
        device = o.args.device;
        table = o.args.table;
        count = (o.args.some, o.args.few);
        inside = o.args.inside;
        partway = λ d. let m : Partway x = is_partway k d in ((m.chunk, m.at), m.below);
        whole = (λ e. at_count k e (ℕ_discrete x.phase done), λ d. (done_ok x k d).whole);
        ready_sends = λ e. (ready_ok x k (ap is_ready e)).sends;
        waiting_sends = λ e. let w : WaitOk x = wait_ok x k (ap is_waiting e) in (w.once, w.thrice);
        turns_left = λ e. let w : WaitOk x = wait_ok x k (ap is_waiting e) in (w.some, w.few);
        gave_up_sends = λ e. (gave_up_ok x k e).sends;
        no_sends = none_sent k;
        never_waits = λ w. (
          λ e. one_kind x.kind (write_carries w) (wait_ok x k (ap is_waiting e)).asking,
          λ e. one_kind x.kind (write_carries w) (gave_up_ok x k e).asking,
        );
        unfinished = λ c. let r : ReadyOk x = checking_ready x k (kind_checking x.kind c) in (r.phase, r.unsent (kinds_carry x.kind (inr c)));
        differs = λ e. let d : DifferentOk x = different_ok x k e in (compares_kind x.kind d.comparing, d.sends);
        unused = none_left k;
      }

-- ── and back ───────────────────────────────────────────────────────────────────────────────────────────────────────

module _ (t : ℕ) (x : Slot) (h : SoundHeld t x) where
  held : HeldOk x
  held = record {
    kind = kind_known x.kind h.kinds;
    ticket = h.ticket.0;
    args = record {
      device = h.device;
      table = h.table;
      some = h.count.0;
      few = h.count.1;
      inside = h.inside;
    };
  }

  part : x.phase ≢ done → Partway x
  part d = let m = h.partway d in record { chunk = m.0.0; at = m.0.1; below = m.1 }

  -- one that is not ready is no checked write that still sends
  not_sending : x.phase ≢ ready → x.kind ≢ checks
  not_sending n c = n (h.unfinished c).0

  asking : x.phase ≢ ready → x.kind ≢ writes → asks x.kind ≡ true
  asking r n = go (kind_known x.kind h.kinds)
    where
      carried : (x.kind ≡ writes) ⊎ (x.kind ≡ checks) → asks x.kind ≡ true
      carried (inl e) = absurd (n e)
      carried (inr e) = absurd (not_sending r e)

      go : KnownKind x.kind → asks x.kind ≡ true
      go (inl c) = carried (carries_kinds x.kind c)
      go (inr a) = a

  unsent : (x.kind ≡ writes) ⊎ (x.kind ≡ checks) → x.sends ≡ 0
  unsent (inl e) = h.no_sends (inl e)
  unsent (inr e) = (h.unfinished e).1

  not_checking : x.phase ≢ ready → (b : Bool) → checking x.kind ≡ b → b ≡ false
  not_checking n true e = absurd (not_sending n (checking_kind x.kind e))
  not_checking n false e = refl

  -- it has one phase only
  apart : {q p : ℕ} → x.phase ≡ q → eqb q p ≡ false → x.phase ≢ p
  apart e n z = other_phase e z n

  held_facts : (x.phase ≡ ready) ⊎ (x.phase ≡ waiting) ⊎ (x.phase ≡ done) ⊎ (x.phase ≡ gave_up) ⊎ (x.phase ≡ different) → SlotOk x
  held_facts (inl e) = ok_ready (record {
    phase = e;
    held = held;
    partway = part (apart e refl);
    sends = h.ready_sends e;
    unsent = λ c. unsent (carries_kinds x.kind c);
    left = h.unused (apart e refl);
  })
  held_facts (inr (inl e)) = ok_waiting (record {
    phase = e;
    held = held;
    partway = part (apart e refl);
    asking = asking (apart e refl) (λ w. (h.never_waits w).0 e);
    once = (h.waiting_sends e).0;
    thrice = (h.waiting_sends e).1;
    some = (h.turns_left e).0;
    few = (h.turns_left e).1;
  })
  held_facts (inr (inr (inl e))) = ok_done (record {
    phase = e;
    held = held;
    not_checking = not_checking (apart e refl) (checking x.kind) refl;
    whole = h.whole.1 e;
    sends = h.no_sends (inr e);
    left = h.unused (apart e refl);
  })
  held_facts (inr (inr (inr (inl e)))) = ok_gave_up (record {
    phase = e;
    held = held;
    partway = part (apart e refl);
    asking = asking (apart e refl) (λ w. (h.never_waits w).1 e);
    sends = h.gave_up_sends e;
    left = h.unused (apart e refl);
  })
  held_facts (inr (inr (inr (inr e)))) = ok_different (record {
    phase = e;
    held = held;
    partway = part (apart e refl);
    comparing = kind_compares x.kind (h.differs e).0;
    sends = (h.differs e).1;
    left = h.unused (apart e refl);
  })

-- ── states ─────────────────────────────────────────────────────────────────────────────────────────────────────────

-- rests by their place in the list
rests_facts : (s : Bridge) → ((k : ℕ) → k < 4 → rest s k ≤ 60) ↔ ((k : ℕ) → k < 4 → get_or s.rests k 0 ≤ 60)
unfolding rest
rests_facts s = (λ h. h, λ h. h)

facts_sentence : (s : Bridge) → Sound s → SoundState s
facts_sentence s h = record {
  own = h.own;
  last = h.last;
  held = λ k l p. held_sentence s.issued (slot s k) p (h.each k l) (h.given k l);
  distinct = λ k j l m d p q. h.apart k j l m d (has_ticket (slot s k) (h.each k l) (ne_eqb (slot s k).phase free p));
  unheld = λ k l p. blank_zero (slot s k) (free_ok (slot s k) (h.each k l) (ap is_free p));
  rests = (rests_facts s).1 h.rests.1;
  four = h.four;
  four_rests = h.rests.0;
  issued = h.issued;
}

sentence_facts : (s : Bridge) → SoundState s → Sound s
sentence_facts s h = record {
  own = h.own;
  last = h.last;
  issued = h.issued;
  four = h.four;
  rests = (h.four_rests, (rests_facts s).0 h.rests);
  each = λ k l. each k l (ℕ_discrete (slot s k).phase free);
  given = λ k l. given k l (ℕ_discrete (slot s k).phase free);
  apart = λ k j l m d p z. h.distinct k j l m d (taken k l p) (taken j m (omega (arith, p, z))) z;
}
  where
    each : (k : ℕ) → k < 4 → Dec ((slot s k).phase ≡ free) → SlotOk (slot s k)
    each k l (yes e) = ok_free (zero_blank (slot s k) (h.unheld k l e))
    each k l (no d) = let x : SoundHeld s.issued (slot s k) = h.held k l d in held_facts s.issued (slot s k) x x.phases

    given : (k : ℕ) → k < 4 → Dec ((slot s k).phase ≡ free) → (slot s k).ticket ≤ s.issued
    given k l (yes e) = omega (arith, (h.unheld k l e).0)
    given k l (no d) = (h.held k l d).ticket.1

    taken : (k : ℕ) → k < 4 → 0 < (slot s k).ticket → (slot s k).phase ≢ free
    taken k l p e = omega (arith, p, (h.unheld k l e).0)

pub sound_exactly_lem : SoundExactly
sound_exactly_lem s = (λ e. facts_sentence s (true_sound s e), λ h. sound_true s (sentence_facts s h))

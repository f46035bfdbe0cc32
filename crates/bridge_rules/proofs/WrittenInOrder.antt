-- What a slot that carries says of the calls before: its CMDs were yielded in order. So a write is done, and a checked write reads back,
-- exactly when its CMD for every chunk was yielded in order.
use Prim.Native.Nat.{ℕ, zero, suc, ◌+◌, ◌*◌, ◌-◌, ◌≤◌, ◌<◌, min}
use mathlib.Core.Path.{◌≡◌, refl, sym, ◌∙◌, ap, subst}
use mathlib.Core.Logic.{◌⊎◌, inl, inr, ◌≢◌}
use mathlib.Core.Option.{some}
use mathlib.Core.Bool.{Bool, true, false, cond, false≢true}
use native.Mathlib.Omega.{arith}
use native.Mathlib.Decide.{ℕ_discrete}
use lib.ListN.{take, drop}
use lib.Dec.{eqb}
use borrow.Author.Tests.{eq-eqb, ne_eqb}
use Rattle.bridge_rules.specs.State.{Slot, ready, done, writes, checks, asks, carries}
use Rattle.bridge_rules.specs.Opening.{Ask, read, write, check, opened, is_read, is_write, ask_kind, ask_device, ask_table, ask_offset, ask_count}
use Rattle.bridge_rules.specs.Turn.{outgoing, aged, carried_from, carried, advanced, sent_frame, write_frame}
use Rattle.bridge_rules.specs.Run.{Run, state, buffers, Lawful, Transfer, ticket, slot_of, Stands, turns, chunks, len_of}
use Rattle.bridge_rules.specs.Replies.{given, command_frame, Wrote, AllWritten}
use Rattle.bridge_rules.proofs.KindTests.{KnownKind, KindGoes, one_kind, kinds_carry, kinds_ask, carries_of}
use Rattle.bridge_rules.proofs.Search.{none_some, contradiction}
use Rattle.bridge_rules.proofs.SlotOk.{ReadyOk, other_phase, phase_eq, progress_eq, kind_eq, sends_eq}
use Rattle.bridge_rules.proofs.SlotChanges.{Same, aged_same, aged_kind, aged_progress, aged_ready, ReadyAgain, sent_write}
use Rattle.bridge_rules.proofs.SlotChanges.{advanced_kind, advanced_progress, Carry, moves_on, turns_back, carry, begins_back}
use Rattle.bridge_rules.proofs.SlotChanges.{Advance, ready_next, done_with, advance}
use Rattle.bridge_rules.proofs.SlotEffects.{unchanged, ages, served, taken, disagreed, change_kind, distance}
use Rattle.bridge_rules.proofs.TurnCounts.{turns_same, turns_more, turns_none}
use Rattle.bridge_rules.proofs.SoundRuns.{UnservedAt, ServedAt, near, nearer}
use Rattle.bridge_rules.proofs.LedgerAgrees.{own_is}
use Rattle.bridge_rules.proofs.Standing.{full_done, ok_at, opened_at, slot_at, ChangesSlot, changes, Held, held, Begins, along_from}
use Rattle.bridge_rules.proofs.Standing.{stands_back, stands_before}
use Rattle.bridge_rules.proofs.GivenBytes.{carried_given}
use Rattle.bridge_rules.proofs.AskTests.{write_not_read}

-- ── so far ─────────────────────────────────────────────────────────────────────────────────────────────────────────

-- the CMDs of the chunks below p were yielded in order, before event n
pub record WrittenTo (r : Run) (x : Transfer r) (p n : ℕ) : Type 0 where
  pub j : ℕ → ℕ
  pub wrote : (c : ℕ) → 8 * c < p → Wrote r x c (j c)
  pub before : (c : ℕ) → 8 * c < p → j c < n
  pub order : (c : ℕ) → 8 * suc c < p → j c < j (suc c)

-- a slot that carries: what it wrote, and turns used since its opening, four a chunk
pub record Carrying (r : Run) (x : Transfer r) (n : ℕ) : Type 0 where
  pub carrying : carries (slot_at r x n).kind ≡ true
  pub written : WrittenTo r x (slot_at r x n).progress n
  pub soon : (slot_at r x n).phase ≡ ready → 2 * (turns r x.at n + distance (state r n).last (slot_of r x)) ≤ (slot_at r x n).progress + 6

-- a checked write reads back since turn j, which sent its last CMD
pub record Back (r : Run) (x : Transfer r) (n : ℕ) : Type 0 where
  pub j : ℕ
  pub before : j < n
  pub begins : Begins r x (suc j)
  pub asking : asks (slot_at r x (suc j)).kind ≡ true
  pub written : AllWritten r x (suc j)
  pub soon : turns r x.at (suc j) ≤ 4 * chunks r x

pub data Stage (r : Run) (x : Transfer r) (n : ℕ) : Type 0 where
  carrying : Carrying r x n → Stage r x n
  back : Back r x n → Stage r x n

pub all_mono : (r : Run) (x : Transfer r) (n n' : ℕ) → n ≤ n' → AllWritten r x n → AllWritten r x n'
all_mono r x n n' l a = record { j = a.j; wrote = a.wrote; before = λ c h. omega (arith, a.before c h); order = a.order }

-- all chunks
to_all : (r : Run) (x : Transfer r) (p n : ℕ) → ask_count x.ask ≤ p → WrittenTo r x p n → AllWritten r x n
to_all r x p n e d = record {
  j = d.j;
  wrote = λ c l. d.wrote c (omega (arith, l, e));
  before = λ c l. d.before c (omega (arith, l, e));
  order = λ c l. d.order c (omega (arith, l, e));
}

later : (r : Run) (x : Transfer r) (p p' n : ℕ) → p' ≡ p → WrittenTo r x p n → WrittenTo r x p' (suc n)
later r x p p' n e d = record {
  j = d.j;
  wrote = λ c l. d.wrote c (omega (arith, l, e));
  before = λ c l. omega (arith, d.before c (omega (arith, l, e)));
  order = λ c l. d.order c (omega (arith, l, e));
}

-- what is no read begins by carrying
ask_carries : (a : Ask) → is_read a ≡ false → carries (ask_kind a) ≡ true
ask_carries (read d t o n) e = absurd (false≢true (sym e))
ask_carries (write d t o bs) e = kinds_carry writes (inl refl)
ask_carries (check d t o bs) e = kinds_carry checks (inr refl)

-- the frame that a slot sends which carries
sends_command : (r : Run) (w : Lawful r) (x : Transfer r) (c n : ℕ) (y : Slot) → carries y.kind ≡ true → y.progress ≡ 8 * c
    → y.device ≡ ask_device x.ask → y.table ≡ ask_table x.ask
    → y.offset ≡ ask_offset x.ask → y.count ≡ ask_count x.ask
    → take (len_of r x c) (drop (128 * slot_of r x + 8 * c) (carried_from y.kind (buffers r n))) ≡ given r x c
    → sent_frame (state r n).own (slot_of r x) y (buffers r n) ≡ command_frame r x c n
unfolding sent_frame write_frame outgoing command_frame
sends_command r w x c n y u p d t o k b = rw (u, p, d, t, o, k, b, own_is r w n)

module _ (r : Run) (w : Lawful r) (x : Transfer r) where
  -- a slot that carries sends the CMD of its current chunk
  pub sends_write : (n : ℕ) → Stands r x n → carries (slot_at r x n).kind ≡ true → (c : ReadyOk (aged (slot_at r x n)))
      → sent_frame (state r n).own (slot_of r x) (aged (slot_at r x n)) (buffers r n) ≡ command_frame r x c.partway.chunk n
  sends_write n s u c =
      sends_command r w x c.partway.chunk n (aged (slot_at r x n)) (ap carries (aged_kind (slot_at r x n)) ∙ u) c.partway.at
      (same.device ∙ h.device) (same.table ∙ h.table) (same.offset ∙ h.offset) (same.count ∙ h.count)
      (rw (aged_kind (slot_at r x n)) (carried_given r w x n s u c.partway.chunk
      (omega (arith, c.partway.at, c.partway.below, same.count, h.count))))
    where
      h : Held r x n
      h = held r w x n s

      same : Same (slot_at r x n) (aged (slot_at r x n))
      same = aged_same (slot_at r x n)

  -- a turn that serves it adds its current chunk
  written_served : (n : ℕ) → Stands r x n → ServedAt r n (slot_of r x) → carries (slot_at r x n).kind ≡ true
      → WrittenTo r x (slot_at r x n).progress n → WrittenTo r x (min ((slot_at r x n).progress + 8) (ask_count x.ask)) (suc n)
  written_served n s v u p = record {
    j = j';
    wrote = λ k q. wrote k q (ℕ_discrete k now);
    before = λ k q. before k q (ℕ_discrete k now);
    order = λ k q. order k q (ℕ_discrete (suc k) now);
  }
    where
      -- the chunk that it serves
      now : ℕ
      now = v.ready.partway.chunk

      at : (slot_at r x n).progress ≡ 8 * now
      at = sym (aged_progress (slot_at r x n)) ∙ v.ready.partway.at

      top : ℕ
      top = min ((slot_at r x n).progress + 8) (ask_count x.ask)

      j' : ℕ → ℕ
      j' k = cond (eqb k now) n (p.j k)

      now_at : j' now ≡ n
      now_at = ap (λ (b : Bool). cond b n (p.j now)) (eq-eqb now now refl)

      old_at : (k : ℕ) → k ≢ now → j' k ≡ p.j k
      old_at k q = ap (λ (b : Bool). cond b n (p.j k)) (ne_eqb k now q)

      this : Wrote r x now n
      this = record { since = s.0; turned = v.turned; served = v.last; yields = v.yields ∙ ap some (sends_write n s u v.ready) }

      wrote : (k : ℕ) → 8 * k < top → Dec (k ≡ now) → Wrote r x k (j' k)
      wrote k q (yes u) = subst (λ (a : ℕ). Wrote r x a (j' a)) (sym u) (subst (λ (a : ℕ). Wrote r x now a) (sym now_at) this)
      wrote k q (no u) = subst (λ (a : ℕ). Wrote r x k a) (sym (old_at k u)) (p.wrote k (omega (arith, q, at)))

      before : (k : ℕ) → 8 * k < top → Dec (k ≡ now) → j' k < suc n
      before k q (yes u) = omega (arith, ap j' u ∙ now_at)
      before k q (no u) = omega (arith, old_at k u, p.before k (omega (arith, q, at)))

      order : (k : ℕ) → 8 * suc k < top → Dec (suc k ≡ now) → j' k < j' (suc k)
      order k q (yes u) = omega (arith, ap j' u ∙ now_at, old_at k (λ z. omega (arith, q, at, z)), p.before k (omega (arith, at, u)))
      order k q (no u) = omega (arith, old_at (suc k) u, old_at k (λ z. omega (arith, q, at, z)), p.order k (omega (arith, q, at)))

  -- ── stages ───────────────────────────────────────────────────────────────────────────────────────────────────────

  -- what carries is not aged
  ready_before : (n : ℕ) → carries (slot_at r x n).kind ≡ true → (aged (slot_at r x n)).phase ≡ ready → (slot_at r x n).phase ≡ ready
  ready_before n u e = go (aged_ready (slot_at r x n) (ok_at r w x n) e)
    where
      go : (((slot_at r x n).phase ≡ ready) × (aged (slot_at r x n) ≡ slot_at r x n)) ⊎ ReadyAgain (slot_at r x n) → (slot_at r x n).phase ≡ ready
      go (inl p) = p.0
      go (inr a) = one_kind (slot_at r x n).kind u a.was.asking

  carrying_served : (n : ℕ) → Stands r x (suc n) → x.at < n → Held r x n → ServedAt r n (slot_of r x) → Carrying r x n → Stage r x (suc n)
  carrying_served n s l h v p = go (carry (aged (slot_at r x n)))
    where
      u : carries (aged (slot_at r x n)).kind ≡ true
      u = ap carries (aged_kind (slot_at r x n)) ∙ p.carrying

      is : slot_at r x (suc n) ≡ carried (aged (slot_at r x n))
      is = v.after ∙ sent_write (aged (slot_at r x n)) u

      count : (aged (slot_at r x n)).count ≡ ask_count x.ask
      count = (aged_same (slot_at r x n)).count ∙ h.count

      more : WrittenTo r x (min ((slot_at r x n).progress + 8) (ask_count x.ask)) (suc n)
      more = written_served n (stands_before r w x n s l) v p.carrying p.written

      t : turns r x.at (suc n) ≡ suc (turns r x.at n)
      t = turns_more r x.at n v.turned l

      soon : 2 * turns r x.at n ≤ (aged (slot_at r x n)).progress + 6
      soon = omega (arith, p.soon (ready_before n p.carrying v.ready.phase), aged_progress (slot_at r x n))

      go : Carry (aged (slot_at r x n)) → Stage r x (suc n)
      go (moves_on e q) = carrying (record {
        carrying = ap carries (kind_eq (is ∙ e) ∙ advanced_kind (aged (slot_at r x n))) ∙ u;
        written = subst (λ (k : ℕ). WrittenTo r x k (suc n)) (omega (
          arith,
          progress_eq (is ∙ e),
          advanced_progress (aged (slot_at r x n)),
          aged_progress (slot_at r x n),
          count,
        )) more;
        soon = λ z. next (advance (aged (slot_at r x n))) (sym (phase_eq (is ∙ e)) ∙ z);
      })
        where
          next : Advance (aged (slot_at r x n)) → (advanced (aged (slot_at r x n))).phase ≡ ready
              → 2 * (turns r x.at (suc n) + distance (state r (suc n)).last (slot_of r x)) ≤ (slot_at r x (suc n)).progress + 6
          next (ready_next a b c) z = omega (arith, t, soon, near r (suc n) (slot_of r x), progress_eq (is ∙ e), b)
          next (done_with a b c) z = other_phase a z refl
      go (turns_back e c q) =
          let bb = begins_back (aged (slot_at r x n)) in
          back (record {
            j = n;
            before = omega arith;
            begins = record {
              since = omega arith;
              phase = phase_eq (is ∙ e) ∙ bb.phase;
              progress = progress_eq (is ∙ e) ∙ bb.progress;
              sends = sends_eq (is ∙ e) ∙ bb.sends;
            };
            asking = kinds_ask (slot_at r x (suc n)).kind (inr (kind_eq (is ∙ e) ∙ bb.kind));
            written = to_all r x (min ((slot_at r x n).progress + 8) (ask_count x.ask)) (suc n)
                (omega (arith, q, count, aged_progress (slot_at r x n))) more;
            soon = omega (arith, t, soon, v.ready.partway.at, v.ready.partway.below, count);
          })

  stage_step : (n : ℕ) → Stands r x (suc n) → suc x.at ≤ n → Held r x n → ChangesSlot r x n → Stage r x n → Stage r x (suc n)
  stage_step n s l h v (back b) = back (record {
    j = b.j;
    before = omega (arith, b.before);
    begins = b.begins;
    asking = b.asking;
    written = b.written;
    soon = b.soon;
  })
  stage_step n s l h (unchanged v) (carrying p) = carrying (record {
    carrying = ap carries (kind_eq v.after) ∙ p.carrying;
    written = later r x (slot_at r x n).progress (slot_at r x (suc n)).progress n (progress_eq v.after) p.written;
    soon = λ z. omega (
      arith,
      turns_same r x.at n v.no_turn,
      progress_eq v.after,
      ap (λ (k : ℕ). distance k (slot_of r x)) v.last,
      p.soon (sym (phase_eq v.after) ∙ z),
    );
  })
  stage_step n s l h (ages v) (carrying p) = carrying (record {
    carrying = ap carries (kind_eq v.after ∙ aged_kind (slot_at r x n)) ∙ p.carrying;
    written = later r x (slot_at r x n).progress (slot_at r x (suc n)).progress n progress p.written;
    soon = soon;
  })
    where
      progress : (slot_at r x (suc n)).progress ≡ (slot_at r x n).progress
      progress = progress_eq v.after ∙ aged_progress (slot_at r x n)

      soon : (slot_at r x (suc n)).phase ≡ ready
          → 2 * (turns r x.at (suc n) + distance (state r (suc n)).last (slot_of r x)) ≤ (slot_at r x (suc n)).progress + 6
      soon z = omega (arith, turns_more r x.at n v.turned l, progress, nearer r n (slot_of r x) v.unserved q, p.soon (ready_before n p.carrying q))
        where
          q : (aged (slot_at r x n)).phase ≡ ready
          q = sym (phase_eq v.after) ∙ z
  stage_step n s l h (served v) (carrying p) = carrying_served n s l h v p
  stage_step n s l h (taken v) (carrying p) = one_kind (slot_at r x n).kind p.carrying v.waits.asking
  stage_step n s l h (disagreed v) (carrying p) = one_kind (slot_at r x n).kind p.carrying v.waits.asking

  -- a write's, and a checked write's, stage
  pub stage_at : is_read x.ask ≡ false → (n : ℕ) → Stands r x n → Stage r x n
  unfolding opened
  stage_at ur n s = along_from r w x (suc x.at) (omega arith) (Stage r x) begun stage_step n s.0 s
    where
      e : slot_at r x (suc x.at) ≡ opened x.ask (ticket r x)
      e = (opened_at r w x).slot

      begun : Stage r x (suc x.at)
      begun = carrying (record {
        carrying = ap carries (kind_eq e) ∙ ask_carries x.ask ur;
        written = record {
          j = λ k. 0;
          wrote = λ k q. absurd (omega (arith, q, progress_eq e));
          before = λ k q. absurd (omega (arith, q, progress_eq e));
          order = λ k q. absurd (omega (arith, q, progress_eq e));
        };
        soon = λ z. omega (arith, near r (suc x.at) (slot_of r x), turns_none r x.at (suc x.at) (omega arith));
      })

  -- what carries and got to its count has written all
  pub full_written : (n : ℕ) → Stands r x n → is_write x.ask ≡ true → (slot_at r x n).progress ≡ ask_count x.ask → AllWritten r x n
  full_written n s wr e = go (stage_at (write_not_read x.ask wr) n s)
    where
      go : Stage r x n → AllWritten r x n
      go (carrying p) = to_all r x (slot_at r x n).progress n (omega (arith, e)) p.written
      go (back b) = all_mono r x (suc b.j) n b.before b.written

  -- ── and back: what was written brought it so far ─────────────────────────────────────────────────────────────────

  -- it asks, or got to p
  abbrev Past : ℕ → ℕ → Type 0
  Past p n = (asks (slot_at r x n).kind ≡ true) ⊎ (p ≤ (slot_at r x n).progress)

  -- a slot that asks asks on
  asks_on : (n : ℕ) → ChangesSlot r x n → asks (slot_at r x n).kind ≡ true → asks (slot_at r x (suc n)).kind ≡ true
  asks_on n v a = go (change_kind v)
    where
      go : KindGoes (slot_at r x n).kind (slot_at r x (suc n)).kind → asks (slot_at r x (suc n)).kind ≡ true
      go (inl e) = ap asks e ∙ a
      go (inr (p, q)) = kinds_ask (slot_at r x (suc n)).kind (inr q)

  -- a turn that serves it brings it past its current chunk
  served_past : (n : ℕ) → Held r x n → ServedAt r n (slot_of r x) → Past (min ((slot_at r x n).progress + 8) (ask_count x.ask)) (suc n)
  served_past n h v = go v.ready.held.kind (carry (aged (slot_at r x n)))
    where
      go : KnownKind (aged (slot_at r x n)).kind → Carry (aged (slot_at r x n))
          → Past (min ((slot_at r x n).progress + 8) (ask_count x.ask)) (suc n)
      go (inr a) c = inl (asks_on n (served v) (sym (ap asks (aged_kind (slot_at r x n))) ∙ a))
      go (inl u) (moves_on e q) = inr (omega (
        arith,
        progress_eq (v.after ∙ sent_write (aged (slot_at r x n)) u ∙ e),
        advanced_progress (aged (slot_at r x n)),
        aged_progress (slot_at r x n),
        (aged_same (slot_at r x n)).count,
        h.count,
      ))
      go (inl u) (turns_back e c q) = inl (kinds_ask (slot_at r x (suc n)).kind
          (inr (kind_eq (v.after ∙ sent_write (aged (slot_at r x n)) u ∙ e) ∙ (begins_back (aged (slot_at r x n))).kind)))

  past_on : (p n : ℕ) → Held r x n → ChangesSlot r x n → Past p n → Past p (suc n)
  past_on p n h v (inl a) = inl (asks_on n v a)
  past_on p n h (unchanged v) (inr l) = inr (omega (arith, l, progress_eq v.after))
  past_on p n h (ages v) (inr l) = inr (omega (arith, l, progress_eq v.after, aged_progress (slot_at r x n)))
  past_on p n h (served v) (inr l) = go (served_past n h v)
    where
      go : Past (min ((slot_at r x n).progress + 8) (ask_count x.ask)) (suc n) → Past p (suc n)
      go (inl a) = inl a
      go (inr q) =
          inr (omega (arith, l, q, v.ready.partway.below, aged_progress (slot_at r x n), (aged_same (slot_at r x n)).count, h.count))
  past_on p n h (taken v) (inr l) = inl (asks_on n (taken v) v.waits.asking)
  past_on p n h (disagreed v) (inr l) = inl (asks_on n (disagreed v) v.waits.asking)

  past_along : (p m n : ℕ) → x.at < m → m ≤ n → Stands r x n → Past p m → Past p n
  past_along p m n at l s q = along_from r w x m at (Past p) q (λ k s l h v. past_on p k h v) n l s

  -- the turn that yielded a CMD for it served it
  wrote_past : (c j n : ℕ) → Wrote r x c j → j < n → Stands r x n → Past (min ((slot_at r x j).progress + 8) (ask_count x.ask)) (suc j)
  wrote_past c j n q l s = go (changes r w x j (stands_back r w x (suc j) n s (omega (arith, q.since)) l) q.since)
    where
      unserved : UnservedAt r j (slot_of r x) → ⊥
      unserved (inl u) = none_some (sym u.silent ∙ q.yields)
      unserved (inr u) = u.apart (sym u.last ∙ q.served)

      go : ChangesSlot r x j → Past (min ((slot_at r x j).progress + 8) (ask_count x.ask)) (suc j)
      go (unchanged v) = contradiction q.turned v.no_turn
      go (ages v) = absurd (unserved v.unserved)
      go (served v) = served_past j (held r w x j (stands_back r w x j n s q.since (omega arith))) v
      go (taken v) = contradiction q.turned v.no_turn
      go (disagreed v) = contradiction q.turned v.no_turn

  -- so after the turn that yielded chunk c it is past that chunk
  passed : (n : ℕ) → Stands r x n → (a : AllWritten r x n) → (c : ℕ) → c < chunks r x → Past (min (8 * c + 8) (ask_count x.ask)) (suc (a.j c))
  passed n s a zero l = less (wrote_past zero (a.j zero) n (a.wrote zero l) (a.before zero l) s)
    where
      less : Past (min ((slot_at r x (a.j zero)).progress + 8) (ask_count x.ask)) (suc (a.j zero))
          → Past (min (8 * zero + 8) (ask_count x.ask)) (suc (a.j zero))
      less (inl q) = inl q
      less (inr q) = inr (omega (arith, q))
  passed n s a (suc c) l = go (past_along (min (8 * c + 8) (ask_count x.ask)) (suc (a.j c)) (a.j (suc c)) (omega (arith, (a.wrote c l').since))
      (a.order c l) st (passed n s a c l'))
    where
      l' : c < chunks r x
      l' = omega arith

      st : Stands r x (a.j (suc c))
      st = stands_back r w x (a.j (suc c)) n s (a.wrote (suc c) l).since (omega (arith, a.before (suc c) l))

      v : Past (min ((slot_at r x (a.j (suc c))).progress + 8) (ask_count x.ask)) (suc (a.j (suc c)))
      v = wrote_past (suc c) (a.j (suc c)) n (a.wrote (suc c) l) (a.before (suc c) l) s

      go : Past (min (8 * c + 8) (ask_count x.ask)) (a.j (suc c)) → Past (min (8 * suc c + 8) (ask_count x.ask)) (suc (a.j (suc c)))
      go (inl q) = inl (asks_on (a.j (suc c)) (changes r w x (a.j (suc c))
          (stands_back r w x (suc (a.j (suc c))) n s (omega (arith, (a.wrote (suc c) l).since)) (a.before (suc c) l))
          (a.wrote (suc c) l).since) q)
      go (inr q) = more v
        where
          more : Past (min ((slot_at r x (a.j (suc c))).progress + 8) (ask_count x.ask)) (suc (a.j (suc c)))
              → Past (min (8 * suc c + 8) (ask_count x.ask)) (suc (a.j (suc c)))
          more (inl z) = inl z
          more (inr z) = inr (omega (arith, q, z))

  -- a transfer that wrote all asks, or is done
  pub written_ends : (n : ℕ) → Stands r x n → AllWritten r x n → (asks (slot_at r x n).kind ≡ true) ⊎ ((slot_at r x n).phase ≡ done)
  written_ends n s a = go (past_along (min (8 * (chunks r x - 1) + 8) (ask_count x.ask)) (suc (a.j (chunks r x - 1))) n
      (omega (arith, (a.wrote (chunks r x - 1) last).since)) (a.before (chunks r x - 1) last) s (passed n s a (chunks r x - 1) last))
    where
      last : chunks r x - 1 < chunks r x
      last = omega (arith, (opened_at r w x).law.some)

      go : Past (min (8 * (chunks r x - 1) + 8) (ask_count x.ask)) n → (asks (slot_at r x n).kind ≡ true) ⊎ ((slot_at r x n).phase ≡ done)
      go (inl q) = inl q
      go (inr q) = inr (full_done r w x n s (omega (arith, q, (opened_at r w x).law.some)))

  pub all_written_done : (n : ℕ) → Stands r x n → is_write x.ask ≡ true → AllWritten r x n → (slot_at r x n).phase ≡ done
  all_written_done n s wr a = go (written_ends n s a)
    where
      go : (asks (slot_at r x n).kind ≡ true) ⊎ ((slot_at r x n).phase ≡ done) → (slot_at r x n).phase ≡ done
      go (inl q) = one_kind (slot_at r x n).kind (carries_of x.ask (slot_at r x n).kind (held r w x n s).kind wr) q
      go (inr q) = q

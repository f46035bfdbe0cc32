-- What a turn yields.
use Prim.Native.Nat.{ℕ, suc, ◌+◌, ◌*◌, ◌%◌, ◌<◌}
use mathlib.Core.Path.{◌≡◌, refl, sym, ◌∙◌, ap, ap₂, subst}
use mathlib.Core.Logic.{◌⊎◌, inl, inr, ◌≢◌}
use mathlib.Core.List.{List}
use mathlib.Core.Option.{Option, none, some}
use mathlib.Core.Bool.{true, false}
use native.Mathlib.Omega.{arith}
use native.Mathlib.Decide.{dec_lt}
use lib.ListN.{length, take, drop, length-take, length-drop}
use Rattle.bus_rules.specs.Frames.{cmd, req, frame_with}
use Rattle.bus_rules.specs.Ident.{id_of}
use Rattle.bus_rules.specs.Request.{request}
use Rattle.bridge_rules.specs.State.{Frame, Bridge, Slot, ready, waiting, done, writes, checks, slot, sound, is_ready, next_ready, asks, carries}
use Rattle.bridge_rules.specs.Answers.{Buffers, Result, right_lengths, lent_number}
use Rattle.bridge_rules.specs.Turn.{aged, carried_from, sent_frame, aged_bridge, send_for, turn_of, chunk_len}
use Rattle.bridge_rules.specs.Call.{its_own, turn, step}
use Rattle.bridge_rules.specs.Opening.{is_read}
use Rattle.bridge_rules.specs.Run.{Run, Lawful, status_at}
use Rattle.bridge_rules.specs.Replies.{request_frame, command_frame, AllWritten}
use Rattle.bridge_rules.specs.Changes.{FirstReady, CarriesBytes, NextBytes}
use Rattle.bridge_rules.specs.Calls.{TurnYields, TurnSends, SentFor, SendsForTransfers}
use Rattle.bridge_rules.proofs.NumberLaws.{RightLengths, lent_ok, lent_clear}
use Rattle.bridge_rules.proofs.KindTests.{KnownKind, asks_kinds, kinds_ask, carries_kinds, kinds_carry, kind_checking}
use Rattle.bridge_rules.proofs.KindTests.{writes_not_checking, asks_of, carries_of}
use Rattle.bridge_rules.proofs.FrameLaws.{len_some, len_eight, len_inside, read_is, write_is, from_first, from_second}
use Rattle.bridge_rules.proofs.Search.{some_eq, none_some, contradiction, Found, search_some, search_none, Outcome, through, refused, outcome}
use Rattle.bridge_rules.proofs.Search.{option_cases}
use Rattle.bridge_rules.proofs.SlotOk.{ReadyOk, ready_ok}
use Rattle.bridge_rules.proofs.Status.{done_is, unfinished_in}
use Rattle.bridge_rules.proofs.SlotChanges.{Same, aged_same, aged_kind, ReadyAgain, aged_ready}
use Rattle.bridge_rules.proofs.SoundTest.{Sound, sound_true, true_sound}
use Rattle.bridge_rules.proofs.SoundStates.{slot_aged, aged_sound}
use Rattle.bridge_rules.proofs.CallCases.{ready_at_lem}
use Rattle.bridge_rules.proofs.SlotEffects.{distance, distance_small, distance_is}
use Rattle.bridge_rules.proofs.Standing.{slot_at, ok_at, Held, held}
use Rattle.bridge_rules.proofs.SentRequests.{sends_request}
use Rattle.bridge_rules.proofs.SlotHolders.{Sender, sender}
use Rattle.bridge_rules.proofs.AskTests.{check_not_read}
use Rattle.bridge_rules.proofs.WrittenInOrder.{Stage, carrying, back, stage_at, all_mono, sends_write, written_ends}

unready_phase : (p : ℕ) → is_ready p ≡ false → p ≢ ready
unready_phase p e q = contradiction (ap is_ready q) e

-- an accepted turn was handed a sound bridge and its buffers
pub turn_lent : (s : Bridge) (b : Buffers) → (step s b (turn its_own)).answer.number ≡ 0 → (sound s ≡ true) × RightLengths b
unfolding step turn_of
turn_lent s b e = go (outcome (lent_number s (right_lengths b)) (send_for (aged_bridge s) b (next_ready (aged_bridge s))) s b)
  where
    go : Outcome (lent_number s (right_lengths b)) (send_for (aged_bridge s) b (next_ready (aged_bridge s))) s b (turn_of s b)
        → (sound s ≡ true) × RightLengths b
    go (through z q) = lent_ok s b z
    go (refused z q) = absurd (z (sym (ap (λ (u : Result). u.answer.number) q) ∙ e))

sends_none : (s : Bridge) (b : Buffers) → (send_for s b none).answer.sent ≡ none
unfolding send_for
sends_none s b = refl

sends_some : (s : Bridge) (b : Buffers) (k : ℕ) → (send_for s b (some k)).answer.sent ≡ some (sent_frame s.own k (slot s k) b)
unfolding send_for
sends_some s b k = refl

aged_own : (s : Bridge) → (aged_bridge s).own ≡ s.own
unfolding aged_bridge
aged_own s = refl

-- what a ready slot sends are its next bytes, and nothing else is
module _ (own k : ℕ) (x : Slot) (b : Buffers) where
  -- one that carries sends them from its buffer
  carried_is : (l : List ℕ) → carries x.kind ≡ true → carried_from x.kind b ≡ l
      → sent_frame own k x b ≡ frame_with (id_of (x.offset + x.progress) cmd own x.device x.table)
      (take (chunk_len x.count x.progress) (drop (128 * k + x.progress) l))
  carried_is l e q = write_is own k x b e ∙ rw q refl

  next_carried : (l : List ℕ) → k < 4 → length l ≡ 512 → ReadyOk x → carries x.kind ≡ true → carried_from x.kind b ≡ l
      → CarriesBytes own k (chunk_len x.count x.progress) x l (sent_frame own k x b)
  next_carried l m ll r e q = record {
    is = carried_is l e q;
    all = length-take (chunk_len x.count x.progress) (drop (128 * k + x.progress) l)
        ∙ omega (arith, length-drop (128 * k + x.progress) l, len_inside x.count x.progress r.partway.below, r.held.args.few);
  }

  pub next_bytes_lem : k < 4 → RightLengths b → ReadyOk x → NextBytes own k x b (sent_frame own k x b)
  next_bytes_lem l lb r = record {
    n = chunk_len x.count x.progress;
    next = refl;
    nonempty = len_some x.count x.progress r.partway.below;
    few = len_eight x.count x.progress;
    inside = len_inside x.count x.progress r.partway.below;
    requests = λ e. read_is own k x b (kinds_ask x.kind e);
    commands = λ e. next_carried b.first l lb.0 r (kinds_carry x.kind (inl e)) (from_first x.kind b (writes_not_checking x.kind e));
    checked = λ e. next_carried b.second l lb.1 r (kinds_carry x.kind (inr e)) (from_second x.kind b (kind_checking x.kind e));
  }

  module _ (f : Frame) (n : NextBytes own k x b f) where
    only_carried : (l : List ℕ) → carries x.kind ≡ true → carried_from x.kind b ≡ l → CarriesBytes own k n.n x l f → sent_frame own k x b ≡ f
    only_carried l e q c = carried_is l e q ∙ sym (c.is ∙ ap (λ (i : ℕ). frame_with (id_of (x.offset + x.progress) cmd own x.device x.table)
        (take i (drop (128 * k + x.progress) l))) n.next)

    next_only : KnownKind x.kind → sent_frame own k x b ≡ f
    next_only (inl e) = go (carries_kinds x.kind e)
      where
        go : (x.kind ≡ writes) ⊎ (x.kind ≡ checks) → sent_frame own k x b ≡ f
        go (inl q) = only_carried b.first e (from_first x.kind b (writes_not_checking x.kind q)) (n.commands q)
        go (inr q) = only_carried b.second e (from_second x.kind b (kind_checking x.kind q)) (n.checked q)
    next_only (inr e) = read_is own k x b e ∙ sym (n.requests (asks_kinds x.kind e)
        ∙ ap (λ (i : ℕ). frame_with (id_of (x.offset + x.progress) req own x.device x.table) (request 6 (128 * k + x.progress) i)) n.next)

-- the first ready slot is one
first_only : (s : Bridge) (k j : ℕ) → FirstReady s k → FirstReady s j → j ≡ k
first_only s k j f g = go (dec_lt g.d f.d) (dec_lt f.d g.d)
  where
    go : Dec (g.d < f.d) → Dec (f.d < g.d) → j ≡ k
    go (yes p) q = absurd (f.before g.d p (subst (λ (i : ℕ). (aged (slot s i)).phase ≡ ready) g.is g.readied))
    go (no p) (yes q) = absurd (g.before f.d q (subst (λ (i : ℕ). (aged (slot s i)).phase ≡ ready) f.is f.readied))
    go (no p) (no q) = g.is ∙ ap (λ (i : ℕ). (suc s.last + i) % 4) (omega arith) ∙ sym f.is

ready_at : (s : Bridge) (k : ℕ) → ready_at_lem (aged_bridge s) k ≡ is_ready (aged (slot s k)).phase
ready_at s k = ap (λ (x : Slot). is_ready x.phase) (slot_aged s k)

-- and the search finds it
module _ (s : Bridge) (h : Sound s) (k : ℕ) (found : Found (ready_at_lem (aged_bridge s)) (suc s.last) 4 k) where
  pub found_bound : k < 4
  found_bound = omega (arith, found.is)

  pub found_ready : ReadyOk (aged (slot s k))
  found_ready = rw (slot_aged s k) at (ready_ok (slot (aged_bridge s) k) ((aged_sound s h).each k found_bound) found.passes)

  pub found_first : FirstReady s k
  found_first = record {
    d = found.d;
    near = found.near;
    is = found.is;
    readied = found_ready.phase;
    before = λ e l. unready_phase _ (sym (ready_at s ((suc s.last + e) % 4)) ∙ found.skipped e l);
  }

module _ (s : Bridge) (b : Buffers) (h : Sound s) (lb : RightLengths b) where
  is : step s b (turn its_own) ≡ send_for (aged_bridge s) b (next_ready (aged_bridge s))
  unfolding step turn_of
  is = rw (lent_clear s b (sound_true s h) lb)

  -- no slot is ready
  module _ (z : next_ready (aged_bridge s) ≡ none) where
    silent : (step s b (turn its_own)).answer.sent ≡ none
    silent = ap (λ (u : Result). u.answer.sent) is ∙ ap (λ (o : Option ℕ). (send_for (aged_bridge s) b o).answer.sent) z
        ∙ sends_none (aged_bridge s) b

    unready : (k : ℕ) → k < 4 → (aged (slot s k)).phase ≢ ready
    unfolding next_ready aged_bridge
    unready k l = unready_phase _ (sym (ready_at s k) ∙ rw (distance_is s.last k h.last l) at
        (search_none (ready_at_lem (aged_bridge s)) (suc s.last) 4 z (distance s.last k) (omega (arith, distance_small s.last k))))

    idle_yields : TurnYields s b (step s b (turn its_own)).answer
    idle_yields = record {
      sends = (λ e. none_some (sym silent ∙ e.1), λ p. absurd (unready p.0 p.1 p.2));
      silent = (λ e. unready, λ f. silent);
      yields = λ f. (λ e. none_some (sym silent ∙ e), λ p. absurd (unready p.0 (omega (arith, p.1.is)) p.1.readied));
    }

  -- slot k is the first
  module _ (k : ℕ) (z : next_ready (aged_bridge s) ≡ some k) where
    found : Found (ready_at_lem (aged_bridge s)) (suc s.last) 4 k
    unfolding next_ready aged_bridge
    found = search_some (ready_at_lem (aged_bridge s)) (suc s.last) 4 k z

    bound : k < 4
    bound = found_bound s h k found

    readied : ReadyOk (aged (slot s k))
    readied = found_ready s h k found

    sent : (step s b (turn its_own)).answer.sent ≡ some (sent_frame s.own k (aged (slot s k)) b)
    sent = ap (λ (u : Result). u.answer.sent) is ∙ ap (λ (o : Option ℕ). (send_for (aged_bridge s) b o).answer.sent) z
        ∙ sends_some (aged_bridge s) b k
        ∙ ap₂ (λ (o : ℕ) (x : Slot). some (sent_frame o k x b)) (aged_own s) (slot_aged s k)

    sent_yields : TurnYields s b (step s b (turn its_own)).answer
    sent_yields = record {
      sends = (λ e. (k, bound, readied.phase), λ p. (_, sent));
      silent = (λ e. none_some (sym e ∙ sent), λ f. absurd (f k bound readied.phase));
      yields = λ f. (
        λ e. (
          k,
          found_first s h k found,
          subst (NextBytes s.own k (aged (slot s k)) b) (some_eq (sym sent ∙ e))
              (next_bytes_lem s.own k (aged (slot s k)) b bound lb readied),
        ),
        λ p. sent ∙ ap some (next_only s.own k (aged (slot s k)) b f
            (subst (λ (i : ℕ). NextBytes s.own i (aged (slot s i)) b f) (first_only s k p.0 (found_first s h k found) p.1) p.2)
            readied.held.kind),
      );
    }

  turn_yields : TurnYields s b (step s b (turn its_own)).answer
  turn_yields = go (option_cases (next_ready (aged_bridge s)))
    where
      go : (next_ready (aged_bridge s) ≡ none) ⊎ ((k : ℕ) × (next_ready (aged_bridge s) ≡ some k))
          → TurnYields s b (step s b (turn its_own)).answer
      go (inl z) = idle_yields z
      go (inr (k, z)) = sent_yields k z

pub turn_sends_lem : TurnSends
turn_sends_lem s b e = let l = turn_lent s b e in turn_yields s b (true_sound s l.0) l.1

-- ── in a run, the frame is that of a standing transfer's chunk ─────────────────────────────────────────────────────

module _ (r : Run) (w : Lawful r) (j : ℕ) (f : Frame) (sd : Sender r w j f) where
  -- the slot that sends it
  abbrev its : Slot
  its = slot_at r sd.y j

  as_request : asks its.kind ≡ true → f ≡ request_frame r sd.y sd.ready.partway.chunk j
  as_request a =
      let sa : Same its (aged its) = aged_same its in
      let h : Held r sd.y j = held r w sd.y j sd.stands in
      sd.is ∙ sends_request r w sd.y sd.ready.partway.chunk j (aged its) (ap asks (aged_kind its) ∙ a) sd.ready.partway.at
      (sa.device ∙ h.device) (sa.table ∙ h.table) (sa.offset ∙ h.offset) (sa.count ∙ h.count)

  as_command : carries its.kind ≡ true → f ≡ command_frame r sd.y sd.ready.partway.chunk j
  as_command u = sd.is ∙ sends_write r w sd.y j sd.stands u sd.ready

  -- what has not sent all its CMDs, and is no read, carries
  carries_yet : is_read sd.y.ask ≡ false → ¬ AllWritten r sd.y j → carries its.kind ≡ true
  carries_yet u n = go (stage_at r w sd.y u j sd.stands)
    where
      go : Stage r sd.y j → carries its.kind ≡ true
      go (carrying p) = p.carrying
      go (back b) = absurd (n (all_mono r sd.y (suc b.j) j b.before b.written))

  -- what sends has not ended
  still : status_at r sd.y j ≡ 15
  still = unfinished_in r w sd.y j sd.stands (go (aged_ready its (ok_at r w sd.y j) sd.ready.phase))
    where
      go : ((its.phase ≡ ready) × (aged its ≡ its)) ⊎ ReadyAgain its → (its.phase ≡ ready) ⊎ (its.phase ≡ waiting)
      go (inl p) = inl p.0
      go (inr p) = inr p.was.phase

  -- what has sent all its CMDs, and still sends, asks
  asks_now : AllWritten r sd.y j → asks its.kind ≡ true
  asks_now a = go (written_ends r w sd.y j sd.stands a)
    where
      go : (asks its.kind ≡ true) ⊎ (its.phase ≡ done) → asks its.kind ≡ true
      go (inl q) = q
      go (inr e) = absurd (omega (arith, still, (done_is r w sd.y j sd.stands).1 e))

  sent_for : SentFor r j f
  sent_for =
      let h : Held r sd.y j = held r w sd.y j sd.stands in
      record {
        asker = sd.y;
        stands = sd.stands;
        unfinished = still;
        served = sd.served;
        c = sd.ready.partway.chunk;
        chunk = omega (arith, sd.ready.partway.at, sd.ready.partway.below, (aged_same its).count, h.count);
        asks = λ q. as_request (asks_of sd.y.ask its.kind h.kind q);
        carries = λ q. as_command (carries_of sd.y.ask its.kind h.kind q);
        checks = λ q n. as_command (carries_yet (check_not_read sd.y.ask q) n);
        reads_back = λ q a. as_request (asks_now a);
      }

pub sends_for_transfers_lem : SendsForTransfers
sends_for_transfers_lem r w j f a e = sent_for r w j f (sender r w j f a e)

-- What a call answered 0 changes: openings, turns, frames, closings, resets, status and bytes.
use Prim.Native.Nat.{ℕ, suc, ◌+◌, ◌*◌, ◌≤◌, ◌<◌}
use mathlib.Core.Path.{◌≡◌, refl, sym, ◌∙◌, ap, subst}
use mathlib.Core.Logic.{◌⊎◌, inl, inr}
use mathlib.Core.List.{List}
use mathlib.Core.Option.{none, some}
use mathlib.Core.Bool.{true, false}
use native.Mathlib.Omega.{arith}
use lib.ListN.{length, get_or, set, drop, length-take, length-drop}
use lib.Seq.{sets, length-sets, get_or-take, get_or-drop, ext_get_or}
use borrow.Author.Tests.{ne_eqb, eq-eqb, eqb-true, eqb-false, lt-leb, lt-ltb, le-ltb, not-false, not-true}
use Rattle.wire.proofs.Orders.{if_zero, else_zero}
use Rattle.bus_rules.specs.Frames.{content}
use Rattle.bus_rules.specs.Ident.{id_offset}
use Rattle.bridge_rules.specs.State.{Frame, Bridge, Slot, free, ready, waiting, done, reads, writes, checks, reads_back, blank, slot, fresh, moved}
use Rattle.bridge_rules.specs.State.{with_slots, rest, givable, sound, asks, is_free, is_none, or_zero, lowest_givable, held_slot}
use Rattle.bridge_rules.specs.Answers.{Buffers, Result, both, right_lengths, plain}
use Rattle.bridge_rules.specs.Opening.{Ask, read, write, check, ask_given, to_first, to_second, opened, open_number, open_of}
use Rattle.bridge_rules.specs.Turn.{ticked, aged, aged_bridge, advanced, requested, read_back, carried, sent_slot, sent_frame, send_for, chunk_len}
use Rattle.bridge_rules.specs.Incoming.{awaits, awaiting, reply_number, differs, differed, take_for, frame_of}
use Rattle.bridge_rules.specs.Ending.{close_number, close_of, reset_of}
use Rattle.bridge_rules.specs.Call.{its_own, turn, close, step}
use Rattle.bridge_rules.specs.Changes.{MovesOn, Ages, Sends, Copied, Takes, OpenChanges, NextBytes, Turned, TurnChanges, Stored, NotStored, SameByte}
use Rattle.bridge_rules.specs.Changes.{TakenReply, FrameChanges, Frees, CloseChanges, ResetChanges, NothingChanged, Changes}
use Rattle.bridge_rules.proofs.KindTests.{kinds_ask, kinds_carry, carries_only, kind_checking, kind_compares, writes_not_checking, reads_not_compared}
use Rattle.bridge_rules.proofs.NumberLaws.{LawfulAsk, RightLengths, lent_ok, open_facts, open_lent}
use Rattle.bridge_rules.proofs.FrameLaws.{content_length}
use Rattle.bridge_rules.proofs.BufferParts.{get_d_sets_below, get_d_sets_above, get_d_sets_in}
use Rattle.bridge_rules.proofs.Comparing.{sent_there, differs_compares, differs_other, agrees_same}
use Rattle.bridge_rules.proofs.AwaitsTest.{AwaitsOk, awaits_ok}
use Rattle.bridge_rules.proofs.Search.{none_some, some_eq, cases, contradiction, option_cases, and-true, Found, Lowest, lowest_some}
use Rattle.bridge_rules.proofs.Search.{Outcome, through, refused, outcome}
use Rattle.bridge_rules.proofs.SlotOk.{WaitOk, ReadyOk, wait_ok}
use Rattle.bridge_rules.proofs.SlotChanges.{aged_other, sent_write, Carry, moves_on, turns_back, carry}
use Rattle.bridge_rules.proofs.SoundTest.{Sound, true_sound}
use Rattle.bridge_rules.proofs.SoundExactly.{blank_zero}
use Rattle.bridge_rules.proofs.SoundStates.{slot_set_same, slot_set_other, slot_aged, aged_sound, fresh_slot, rest_aged, sent_rest, kept_rest}
use Rattle.bridge_rules.proofs.SoundStates.{fresh_rest}
use Rattle.bridge_rules.proofs.CallCases.{CallCase, nothing, opens, sends, idles, takes, disagrees, closes, resets, call_case, other_call}
use Rattle.bridge_rules.proofs.CallCases.{open_result, take_result, differ_result, take_same, take_other, ready_at_lem, held_by_lem, givable_free, givable_rested}
use Rattle.bridge_rules.proofs.CallCases.{free_resting}
use Rattle.bridge_rules.proofs.TurnSends.{turn_lent, next_bytes_lem, found_bound, found_ready, found_first}

-- ── slots ──────────────────────────────────────────────────────────────────────────────────────────────────────────

-- n bytes are eight, or the last
advanced_moves : (x : Slot) (n : ℕ) → n ≤ 8 → (x.progress + n < x.count → n ≡ 8) → MovesOn x (advanced x) n
unfolding advanced
advanced_moves x n few eight = record {
  next = λ l. let e : n ≡ 8 = eight l in
      rw (lt-ltb (x.progress + 8) x.count (omega arith)) (ap (λ (p : ℕ). moved x ready p 0 0) (omega arith));
  whole = λ l. rw (le-ltb (x.progress + 8) x.count (omega arith)) (ap (λ (p : ℕ). moved x done p 0 0) (omega arith));
}

aged_ages : (x : Slot) → Ages x (aged x)
unfolding aged ticked
aged_ages x = record {
  others = λ d. aged_other x (ne_eqb x.phase waiting d);
  waits = λ e l. rw (eq-eqb x.phase waiting e, lt-leb x.left 1 l);
  again = λ e o s. rw (eq-eqb x.phase waiting e, o, lt-leb 3 x.sends (omega arith));
  gives_up = λ e o s. rw (eq-eqb x.phase waiting e, o, s);
}

sent_sends : (x : Slot) → x.phase ≡ ready → Sends x (sent_slot x)
unfolding sent_slot requested read_back
sent_sends x r = record {
  readied = r;
  asked = λ e. rw (kinds_ask x.kind e);
  carried = λ e. rw (sent_write x (kinds_carry x.kind (inl e))) (write e (carry x));
  checked = λ e l. sent_write x (kinds_carry x.kind (inr e)) ∙ next l (carry x);
  turns_back = λ e l. sent_write x (kinds_carry x.kind (inr e)) ∙ last e l (carry x);
}
  where
    eight : MovesOn x (advanced x) 8
    eight = advanced_moves x 8 (omega arith) (λ l. refl)

    write : x.kind ≡ writes → Carry x → MovesOn x (carried x) 8
    write e (moves_on q u) = rw q eight
    write e (turns_back q c l) = contradiction c (writes_not_checking x.kind e)

    next : x.progress + 8 < x.count → Carry x → carried x ≡ moved x ready (x.progress + 8) 0 0
    next l (moves_on q u) = q ∙ eight.next l
    next l (turns_back q c m) = absurd (omega arith)

    last : x.kind ≡ checks → x.count ≤ x.progress + 8 → Carry x → carried x ≡ read_back x
    last e l (moves_on q u) = absurd (omega (arith, u (kind_checking x.kind e)))
    last e l (turns_back q c m) = q

-- ── buffers ────────────────────────────────────────────────────────────────────────────────────────────────────────

sets_copied : (b : List ℕ) (p : ℕ) (bytes : List ℕ) → p + length bytes ≤ length b → Copied b (sets b p bytes) p (length bytes) bytes
sets_copied b p bytes l = record {
  copied = λ i m. get_d_sets_in b p bytes i l m;
  before = λ i m. get_d_sets_below b p bytes i m;
  after = λ i m. get_d_sets_above b p bytes i m;
  same_length = length-sets b p bytes;
}

-- ── openings ───────────────────────────────────────────────────────────────────────────────────────────────────────

-- the bytes given are few
given_short : (a : Ask) → LawfulAsk a → length (ask_given a) ≤ 128
given_short (read d t o n) w = omega arith
given_short (write d t o bs) w = w.few
given_short (check d t o bs) w = w.few

-- slot k is taken
module _ (s : Bridge) (b : Buffers) (a : Ask) (k : ℕ) (h : Sound s) (lb : RightLengths b) (w : Lowest (givable s) k) (law : LawfulAsk a) where
  given_copied : (l bytes : List ℕ) → length l ≡ 512 → bytes ≡ ask_given a
      → Copied l (sets l (128 * k) bytes) (128 * k) (length (ask_given a)) (ask_given a)
  given_copied l bytes ll e = rw e (sets_copied l (128 * k) (ask_given a) (omega (arith, ll, w.bound, given_short a law)))

  opened_takes : Takes s b a (open_result s b a k)
  unfolding opened
  opened_takes = record {
    ticket = refl;
    k = k;
    bound = w.bound;
    was_free = eqb-true (slot s k).phase free (givable_free s k w.passes);
    rested = givable_rested s k w.passes;
    lowest = λ j l e. free_resting s j (w.below j l) (ap is_free e);
    taken = slot_set_same s _ k _ h.four refl w.bound;
    others = λ j d. slot_set_other s _ k j _ refl d;
    own = refl;
    issued = refl;
    last = refl;
    rests = refl;
    written = λ e. given_copied b.first (to_first a) lb.0 (rw e);
    checked = λ e. given_copied b.second (to_second a) lb.1 (rw e);
    first_same = λ e. rw e;
    second_same = λ e. rw e;
  }

open_changes : OpenChanges
unfolding step open_of lowest_givable
open_changes s b a e = go (outcome (open_number s (right_lengths b) a) (open_result s b a (or_zero (lowest_givable s))) s b)
  where
    pick : open_number s (right_lengths b) a ≡ 0 → (lowest_givable s ≡ none) ⊎ ((k : ℕ) × (lowest_givable s ≡ some k))
        → Takes s b a (open_result s b a (or_zero (lowest_givable s)))
    pick z (inl w) = contradiction (ap is_none w) (open_facts s (right_lengths b) a z).slotted
    pick z (inr (k, w)) =
        let l = open_lent s b a z in
        rw w (opened_takes s b a k (true_sound s l.0) l.1 (lowest_some (givable s) k w) (open_facts s (right_lengths b) a z).law)

    go : Outcome (open_number s (right_lengths b) a) (open_result s b a (or_zero (lowest_givable s))) s b (open_of s b a) → Takes s b a (open_of s b a)
    go (refused z q) = absurd (z (sym (ap (λ (u : Result). u.answer.number) q) ∙ e))
    go (through z q) = subst (Takes s b a) (sym q) (pick z (option_cases (lowest_givable s)))

-- ── turns ──────────────────────────────────────────────────────────────────────────────────────────────────────────

module _ (s : Bridge) (b : Buffers) where
  -- a slot that is aged and no more
  ages_at : (k : ℕ) (y : Slot) → y ≡ slot (aged_bridge s) k → Ages (slot s k) y
  ages_at k y e = subst (Ages (slot s k)) (sym (e ∙ slot_aged s k)) (aged_ages (slot s k))

  idle_turned : Turned s b (send_for (aged_bridge s) b none)
  unfolding send_for aged_bridge
  idle_turned = record {
    numbers = (refl, refl);
    buffers = refl;
    silent = λ e. record { ages = λ k l. ages_at k _ refl; rests = λ k l. rest_aged s k; last = refl };
    serves = λ f e. none_some e;
  }

  sent_turned : Sound s → RightLengths b → (k : ℕ) → Found (ready_at_lem (aged_bridge s)) (suc s.last) 4 k
      → Turned s b (send_for (aged_bridge s) b (some k))
  unfolding send_for aged_bridge
  sent_turned h lb k found = record {
    numbers = (refl, refl);
    buffers = refl;
    silent = λ e. none_some (sym e);
    serves = λ f e. record {
      k = k;
      first = found_first s h k found;
      last = refl;
      ages = aged_ages (slot s k);
      bytes = subst (NextBytes s.own k (aged (slot s k)) b) (ap (λ (x : Slot). sent_frame s.own k x b) (sym (slot_aged s k)) ∙ some_eq e)
          (next_bytes_lem s.own k (aged (slot s k)) b l lb r);
      sends = subst (Sends (aged (slot s k)))
          (ap sent_slot (sym (slot_aged s k)) ∙ sym (slot_set_same (aged_bridge s) _ k _ (aged_sound s h).four refl l))
          (sent_sends (aged (slot s k)) r.phase);
      others = λ j m d. ages_at j _ (slot_set_other (aged_bridge s) _ k j _ refl d);
      asked = λ e. sent_rest (aged_bridge s) b k l (aged_sound s h) (ap (λ (x : Slot). asks x.kind) (slot_aged s k) ∙ kinds_ask _ e);
      carried = λ e. kept_rest (aged_bridge s) b k k (inr (ap (λ (x : Slot). asks x.kind) (slot_aged s k) ∙ carries_only _ (kinds_carry _ e)))
          ∙ rest_aged s k;
      rests_less = λ j m d. kept_rest (aged_bridge s) b k j (inl d) ∙ rest_aged s j;
    };
  }
    where
      l : k < 4
      l = found_bound s h k found

      r : ReadyOk (aged (slot s k))
      r = found_ready s h k found

  module _ (h : Sound s) (lb : RightLengths b) (e : (step s b (turn its_own)).answer.number ≡ 0) where
    case_turned : CallCase s b (turn its_own) → Turned s b (step s b (turn its_own))
    case_turned (nothing u) = contradiction (eq-eqb _ 0 e) u.no_turn
    case_turned (opens u) = other_call u.call refl refl
    case_turned (sends u) = subst (Turned s b) (sym u.result) (sent_turned h lb u.k u.found)
    case_turned (idles u) = subst (Turned s b) (sym u.result) idle_turned
    case_turned (takes u) = other_call u.call refl refl
    case_turned (disagrees u) = other_call u.call refl refl
    case_turned (closes u) = other_call u.call refl refl
    case_turned (resets u) = other_call u.call refl refl

turn_changes : TurnChanges
turn_changes s b e =
    let l = turn_lent s b e in
    let h : Sound s = true_sound s l.0 in
    case_turned s b h l.1 e (call_case s b h l.1 (turn its_own) tt)

-- ── frames ─────────────────────────────────────────────────────────────────────────────────────────────────────────

-- slot k takes frame f
module _ (s : Bridge) (b : Buffers) (f : Frame) (k : ℕ) (h : Sound s) (lb : RightLengths b) (lf : length f.bytes ≡ 8) (l : k < 4)
    (a : AwaitsOk s f k) where
  waits : WaitOk (slot s k)
  waits = wait_ok (slot s k) (h.each k l) a.waits

  brings : (f.len ≤ 8) × ((slot s k).progress + f.len ≤ (slot s k).count)
      × ((slot s k).progress + f.len < (slot s k).count → f.len ≡ 8)
  unfolding chunk_len
  brings =
      let m : (slot s k).progress < (slot s k).count = waits.partway.below in
      (omega (arith, a.len), omega (arith, a.len), λ n. omega (arith, a.len))

  long : length (content f) ≡ f.len
  long = content_length f lf brings.0

  abbrev place : ℕ
  place = 128 * k + (slot s k).progress

  fits : place + length (content f) ≤ length b.first
  fits = omega (arith, lb.0, long, brings.1, waits.held.args.few)

  -- it agrees exactly where each byte is what the second buffer has at the same place
  there_byte : (i : ℕ) → i < f.len → get_or (sent_there k (slot s k) b.second f) i 0 ≡ get_or b.second (id_offset f.id + i) 0
  there_byte i m = rw a.place (get_or-take f.len (drop place b.second) i 0 m ∙ get_or-drop place b.second i 0)

  content_byte : (i : ℕ) → i < f.len → get_or (content f) i 0 ≡ get_or f.bytes i 0
  unfolding content
  content_byte i m = get_or-take f.len f.bytes i 0 m

  agrees_bytes : content f ≡ sent_there k (slot s k) b.second f → (i : ℕ) → i < f.len → SameByte b f i
  agrees_bytes e i m = sym (content_byte i m) ∙ ap (λ (bs : List ℕ). get_or bs i 0) e ∙ there_byte i m

  bytes_agree : ((i : ℕ) → i < f.len → SameByte b f i) → content f ≡ sent_there k (slot s k) b.second f
  bytes_agree h = ext_get_or 0 (content f) (sent_there k (slot s k) b.second f) (long ∙ sym there_long)
      (λ i m. let m' : i < f.len = omega (arith, long) in content_byte i m' ∙ h i m' ∙ sym (there_byte i m'))
    where
      there_long : length (sent_there k (slot s k) b.second f) ≡ f.len
      there_long = length-take f.len (drop place b.second)
          ∙ omega (arith, length-drop place b.second, lb.1, brings.1, waits.held.args.few)

  -- what a reply leaves, stored or not
  abbrev after : Slot → List ℕ → Result
  after y first = record { answer = plain 0; state = with_slots s (set s.slots k y); buffers = both first b.second }

  set_here : (y : Slot) (first : List ℕ) → slot (after y first).state k ≡ y
  set_here y first = slot_set_same s _ k _ h.four refl l

  taken_stored : Stored s b f k (take_result s b f k)
  taken_stored = record {
    first = rw a.place (record {
      copied = λ i m. copied.copied i (omega (arith, long)) ∙ content_byte i m;
      before = copied.before;
      after = λ i m. copied.after i (omega (arith, long));
      same_length = copied.same_length;
    });
    moves = subst (λ (y : Slot). MovesOn (slot s k) y f.len) (sym (set_here _ (sets b.first place (content f))))
        (advanced_moves (slot s k) f.len brings.0 brings.2);
  }
    where
      copied : Copied b.first (sets b.first place (content f)) place (length (content f)) (content f)
      copied = sets_copied b.first place (content f) fits

  not_stored_lem : NotStored s b k (differ_result s b k)
  unfolding differed
  not_stored_lem = record { first = refl; ends = set_here _ b.first }

  taken_reply : (y : Slot) (first : List ℕ) → ((slot s k).kind ≡ reads → Stored s b f k (after y first))
      → ((slot s k).kind ≡ reads_back → ((i : ℕ) → i < f.len → SameByte b f i) → Stored s b f k (after y first))
      → ((slot s k).kind ≡ reads_back → (i : ℕ) → i < f.len → ¬ SameByte b f i → NotStored s b k (after y first))
      → TakenReply s b f (after y first)
  taken_reply y first r e o = record {
    k = k;
    bound = l;
    waited = waits.phase;
    from = omega (arith, a.place);
    to = omega (arith, a.place, brings.1, waits.held.args.few);
    read = r;
    equal = e;
    differs = o;
    second = refl;
    others = λ j d. slot_set_other s _ k j _ refl d;
    numbers = (refl, refl);
    last = refl;
    rests = refl;
  }

  judged : (differs k (slot s k) b.second f ≡ true) ⊎ (differs k (slot s k) b.second f ≡ false) → TakenReply s b f (take_for s b f k)
  judged (inl d) = rw (take_other s b f k d) (taken_reply (differed (slot s k)) b.first
      (λ e. contradiction (differs_compares k (slot s k) b.second f d) (reads_not_compared (slot s k).kind e))
      (λ e same. absurd (differs_other k (slot s k) b.second f d (bytes_agree same)))
      (λ e i m n. not_stored_lem))
  judged (inr d) = rw (take_same s b f k d) (taken_reply (advanced (slot s k)) (sets b.first place (content f))
      (λ e. taken_stored)
      (λ e same. taken_stored)
      (λ e i m n. absurd (n (agrees_bytes (agrees_same k (slot s k) b.second f (kind_compares (slot s k).kind e) d) i m))))

frame_changes : FrameChanges
unfolding step frame_of reply_number awaiting
frame_changes s b f lf e = go (outcome (reply_number s (right_lengths b) f) (take_for s b f (or_zero (awaiting s f))) s b)
  where
    taken : reply_number s (right_lengths b) f ≡ 0 → (k : ℕ) → awaiting s f ≡ some k → TakenReply s b f (take_for s b f k)
    taken z k w =
        let l = lent_ok s b (else_zero _ _ z).0 in
        let lowest : Lowest (awaits s f) k = lowest_some (awaits s f) k w in
        judged s b f k (true_sound s l.0) l.1 lf lowest.bound (awaits_ok s f k lowest.passes) (cases (differs k (slot s k) b.second f))

    pick : reply_number s (right_lengths b) f ≡ 0 → (awaiting s f ≡ none) ⊎ ((k : ℕ) × (awaiting s f ≡ some k))
        → TakenReply s b f (take_for s b f (or_zero (awaiting s f)))
    pick z (inl w) = contradiction (ap is_none w) (if_zero 16 _ _ (else_zero _ _ (else_zero _ _ z).1).1).0
    pick z (inr (k, w)) = rw w (taken z k w)

    go : Outcome (reply_number s (right_lengths b) f) (take_for s b f (or_zero (awaiting s f))) s b (frame_of s b f) → TakenReply s b f (frame_of s b f)
    go (refused z q) = absurd (z (sym (ap (λ (u : Result). u.answer.number) q) ∙ e))
    go (through z q) = subst (TakenReply s b f) (sym q) (pick z (option_cases (awaiting s f)))

-- ── closings and resets ────────────────────────────────────────────────────────────────────────────────────────────

close_changes : CloseChanges
unfolding step close_of close_number held_slot
close_changes s b t e = go (option_cases (held_slot s t))
  where
    known : (sound s ≡ true) × (is_none (held_slot s t) ≡ false)
    known =
        let z = if_zero 10 _ _ e in
        (not-false _ z.0, (if_zero 13 _ _ z.1).0)

    freed : (k : ℕ) → held_slot s t ≡ some k → Frees s b t (step s b (close t))
    freed k w =
        let lowest : Lowest (held_by_lem s t) k = lowest_some (held_by_lem s t) k w in
        let p = and-true _ _ lowest.passes in
        let h : Sound s = true_sound s known.0 in
        rw (e, w) (record {
          k = k;
          bound = lowest.bound;
          held = eqb-false _ free (not-true _ p.0);
          ticket = eqb-true _ t p.1;
          freed = blank_zero _ (slot_set_same s _ k blank h.four refl lowest.bound);
          others = λ j d. slot_set_other s _ k j blank refl d;
          numbers = (refl, refl);
          last = refl;
          rests = refl;
          buffers = refl;
        })

    go : (held_slot s t ≡ none) ⊎ ((k : ℕ) × (held_slot s t ≡ some k)) → Frees s b t (step s b (close t))
    go (inl w) = contradiction (ap is_none w) known.1
    go (inr (k, w)) = freed k w

reset_changes : ResetChanges
unfolding step reset_of fresh
reset_changes s b own e = rw e (record {
  is_fresh = record { number = refl; slots = λ k. blank_zero _ (fresh_slot own k); issued = refl; last = refl; rests = fresh_rest own };
  same = λ s'. rw e;
  buffers = refl;
})

nothing_changed : NothingChanged
unfolding step
nothing_changed s b l t = (refl, refl, refl, refl)

pub changes : Changes
changes = record {
  openings = open_changes;
  turns = turn_changes;
  frames = frame_changes;
  closings = close_changes;
  resets = reset_changes;
  others = nothing_changed;
}

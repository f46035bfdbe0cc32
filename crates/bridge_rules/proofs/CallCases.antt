-- What a call on a sound bridge does: one of eight cases.
use Prim.Native.Nat.{ℕ, suc, ◌+◌, ◌*◌, ◌%◌, ◌≤◌, ◌<◌}
use mathlib.Core.Path.{◌≡◌, refl, sym, ◌∙◌, ap}
use mathlib.Core.Logic.{◌⊎◌, inl, inr, ◌≢◌}
use mathlib.Core.List.{List, []}
use mathlib.Core.Option.{Option, none, some}
use mathlib.Core.Bool.{Bool, true, false, not, ◌&&◌, and-false}
use native.Mathlib.Omega.{arith}
use native.Mathlib.Decide.{dec_le}
use lib.ListN.{set}
use lib.Seq.{sets}
use lib.Dec.{eqb}
use borrow.Author.Tests.{eqb-true, eqb-false, eq-eqb, ne_eqb, lt-ltb, le-ltb, not-true}
use Rattle.bus_rules.specs.Frames.{content}
use Rattle.wire.specs.Order.{◌if◌else◌}
use Rattle.bridge_rules.specs.State.{Frame, Bridge, blank, slot, rest, fresh, sound, is_ready, is_free, is_none, or_zero, held_slot, next_ready}
use Rattle.bridge_rules.specs.State.{with_slots, givable, lowest_givable}
use Rattle.bridge_rules.specs.Answers.{Buffers, Result, both, right_lengths, plain}
use Rattle.bridge_rules.specs.Opening.{Ask, with_given, opened, open_number, open_of}
use Rattle.bridge_rules.specs.Turn.{advanced, aged_bridge, send_for, turn_of}
use Rattle.bridge_rules.specs.Incoming.{awaits, content_number, awaiting, reply_number, differs, differed, take_for, frame_of}
use Rattle.bridge_rules.specs.Ending.{close_number, close_of, reset_of, bytes_of, reset_number}
use Rattle.bridge_rules.specs.Call.{Call, its_own, other, opening, turn, frame, status, bytes, close, reset, step, lent_list}
use Rattle.bridge_rules.specs.Run.{Shaped, is_turn}
use Rattle.bridge_rules.proofs.NumberLaws.{else_first, else_second, LawfulAsk, OpenFacts, open_facts, lent_clear, lent_ten, open_ten, reply_later}
use Rattle.bridge_rules.proofs.NumberLaws.{reply_ten, RightLengths}
use Rattle.bridge_rules.proofs.Search.{option_cases, cases, and-true, and_intro, contradiction}
use Rattle.bridge_rules.proofs.Search.{Found, Lowest, search_some, search_none, lowest_some, lowest_none}
use Rattle.bridge_rules.proofs.Search.{Outcome, through, refused, outcome}
use Rattle.bridge_rules.proofs.SoundTest.{Sound, sound_true}

-- ── which call it is ───────────────────────────────────────────────────────────────────────────────────────────────

abbrev which_call : Call → ℕ
which_call (opening l a) = 0
which_call (turn l) = 1
which_call (frame l f) = 2
which_call (status t) = 3
which_call (bytes l t) = 4
which_call (close t) = 5
which_call (reset o) = 6

pub other_call : {A : Type 0} {c d e : Call} → c ≡ d → c ≡ e → eqb (which_call d) (which_call e) ≡ false → A
other_call {A} {c} {d} {e} p q n = absurd (eqb-false (which_call d) (which_call e) n (ap which_call (sym p ∙ q)))

abbrev pub is_frame : Call → Bool
is_frame c = eqb (which_call c) 2

-- the calls that change the ledger
abbrev pub is_noted : Call → Bool
is_noted (opening l a) = true
is_noted (turn l) = true
is_noted (frame l f) = false
is_noted (status t) = false
is_noted (bytes l t) = false
is_noted (close t) = true
is_noted (reset o) = true

-- those that take or free a slot
abbrev pub is_holding : Call → Bool
is_holding (opening l a) = true
is_holding (turn l) = false
is_holding (frame l f) = false
is_holding (status t) = false
is_holding (bytes l t) = false
is_holding (close t) = true
is_holding (reset o) = true

-- ── the cases ──────────────────────────────────────────────────────────────────────────────────────────────────────

abbrev pub free_at : Bridge → ℕ → Bool
free_at s k = is_free (slot s k).phase

-- a slot that an opening may take is free, and does not rest
pub givable_free : (s : Bridge) (k : ℕ) → givable s k ≡ true → free_at s k ≡ true
givable_free s k e = (and-true (free_at s k) (eqb (rest s k) 0) e).0

pub givable_rested : (s : Bridge) (k : ℕ) → givable s k ≡ true → rest s k ≡ 0
givable_rested s k e = eqb-true (rest s k) 0 (and-true (free_at s k) (eqb (rest s k) 0) e).1

-- a free slot that it may not take rests
pub free_resting : (s : Bridge) (k : ℕ) → givable s k ≡ false → free_at s k ≡ true → rest s k ≢ 0
free_resting s k e f z = contradiction (and_intro (free_at s k) (eqb (rest s k) 0) f (eq-eqb (rest s k) 0 z)) e

abbrev pub ready_at_lem : Bridge → ℕ → Bool
ready_at_lem s k = is_ready (slot s k).phase

abbrev pub held_by_lem : Bridge → ℕ → ℕ → Bool
held_by_lem s t k = not (is_free (slot s k).phase) && eqb (slot s k).ticket t

abbrev pub open_result : Bridge → Buffers → Ask → ℕ → Result
open_result s b a k = record {
  answer = record { number = 0; ticket = suc s.issued; sent = none; shown = [] };
  state = record {
    own = s.own;
    last = s.last;
    issued = suc s.issued;
    slots = set s.slots k (opened a (suc s.issued));
    rests = s.rests;
  };
  buffers = with_given b k a;
}

-- a reply is stored, or ends a checked write as different
abbrev pub take_result : Bridge → Buffers → Frame → ℕ → Result
take_result s b f k = record {
  answer = plain 0;
  state = with_slots s (set s.slots k (advanced (slot s k)));
  buffers = both (sets b.first (128 * k + (slot s k).progress) (content f)) b.second;
}

abbrev pub differ_result : Bridge → Buffers → ℕ → Result
differ_result s b k = record { answer = plain 0; state = with_slots s (set s.slots k (differed (slot s k))); buffers = b }

abbrev pub close_result : Bridge → Buffers → ℕ → Result
close_result s b k = record { answer = plain 0; state = with_slots s (set s.slots k blank); buffers = b }

module _ (s : Bridge) (b : Buffers) (c : Call) where
  -- nothing changes: it is refused, or status or bytes
  pub record Nothing : Type 0 where
    pub state : (step s b c).state ≡ s
    pub buffers : (step s b c).buffers ≡ b
    pub silent : (step s b c).answer.sent ≡ none
    pub no_turn : (is_turn c && eqb (step s b c).answer.number 0) ≡ false
    pub unnoted : (is_noted c && eqb (step s b c).answer.number 0) ≡ false
    pub unawaited : (f : Frame) → c ≡ frame its_own f → content_number s.own f ≡ 0 → (k : ℕ) → k < 4 → awaits s f k ≡ false

  -- an opening takes slot k
  pub record OpensSlot : Type 0 where
    pub ask : Ask
    pub k : ℕ
    pub call : c ≡ opening its_own ask
    pub found : lowest_givable s ≡ some k
    pub lowest : Lowest (givable s) k
    pub lawful : LawfulAsk ask
    pub room : s.issued < 4294967295
    pub result : step s b c ≡ open_result s b ask k

  -- a turn sends for slot k
  pub record SendsSlot : Type 0 where
    pub k : ℕ
    pub call : c ≡ turn its_own
    pub found : Found (ready_at_lem (aged_bridge s)) (suc s.last) 4 k
    pub result : step s b c ≡ send_for (aged_bridge s) b (some k)

  -- a turn sends nothing, for no slot is ready
  pub record SendsNone : Type 0 where
    pub call : c ≡ turn its_own
    pub unready : (e : ℕ) → e < 4 → ready_at_lem (aged_bridge s) ((suc s.last + e) % 4) ≡ false
    pub result : step s b c ≡ send_for (aged_bridge s) b none

  -- a frame is the reply that slot k awaits
  pub record TakesReply : Type 0 where
    pub f : Frame
    pub k : ℕ
    pub call : c ≡ frame its_own f
    pub passes : content_number s.own f ≡ 0
    pub bound : k < 4
    pub awaited : awaits s f k ≡ true
    pub agrees : differs k (slot s k) b.second f ≡ false
    pub result : step s b c ≡ take_result s b f k

  -- a frame is the reply that slot k awaits, and brings other bytes than it sent
  pub record Disagrees : Type 0 where
    pub f : Frame
    pub k : ℕ
    pub call : c ≡ frame its_own f
    pub passes : content_number s.own f ≡ 0
    pub bound : k < 4
    pub awaited : awaits s f k ≡ true
    pub other : differs k (slot s k) b.second f ≡ true
    pub result : step s b c ≡ differ_result s b k

  -- a closing frees slot k
  pub record ClosesSlot : Type 0 where
    pub t : ℕ
    pub k : ℕ
    pub call : c ≡ close t
    pub bound : k < 4
    pub held : is_free (slot s k).phase ≡ false
    pub ticket : (slot s k).ticket ≡ t
    pub result : step s b c ≡ close_result s b k

  pub record Resets : Type 0 where
    pub o : ℕ
    pub call : c ≡ reset o
    pub small : o ≤ 15
    pub result : step s b c ≡ record { answer = plain 0; state = fresh o; buffers = b }

pub data CallCase (s : Bridge) (b : Buffers) (c : Call) : Type 0 where
  nothing : Nothing s b c → CallCase s b c
  opens : OpensSlot s b c → CallCase s b c
  sends : SendsSlot s b c → CallCase s b c
  idles : SendsNone s b c → CallCase s b c
  takes : TakesReply s b c → CallCase s b c
  disagrees : Disagrees s b c → CallCase s b c
  closes : ClosesSlot s b c → CallCase s b c
  resets : Resets s b c → CallCase s b c

-- ── every call is one of them ──────────────────────────────────────────────────────────────────────────────────────

not_frame : (c : Call) → is_frame c ≡ false → (f : Frame) → c ≡ frame its_own f → ⊥
not_frame c p f e = contradiction (ap is_frame e) p

-- a refused call
refuses : (s : Bridge) (b : Buffers) (c : Call) (n : ℕ) → n ≢ 0 → is_frame c ≡ false
    → step s b c ≡ record { answer = plain n; state = s; buffers = b } → CallCase s b c
refuses s b c n z p e = nothing (record {
  state = ap (λ (r : Result). r.state) e;
  buffers = ap (λ (r : Result). r.buffers) e;
  silent = ap (λ (r : Result). r.answer.sent) e;
  no_turn = rw (e, ne_eqb n 0 z) (and-false (is_turn c));
  unnoted = rw (e, ne_eqb n 0 z) (and-false (is_noted c));
  unawaited = λ f q. absurd (not_frame c p f q);
})

bytes_silent : (s : Bridge) (b : List ℕ) (t : ℕ) → (bytes_of s b t).sent ≡ none
unfolding bytes_of
bytes_silent s b t = refl

pub take_same : (s : Bridge) (b : Buffers) (f : Frame) (k : ℕ) → differs k (slot s k) b.second f ≡ false → take_for s b f k ≡ take_result s b f k
unfolding take_for
take_same s b f k e = rw e

pub take_other : (s : Bridge) (b : Buffers) (f : Frame) (k : ℕ) → differs k (slot s k) b.second f ≡ true → take_for s b f k ≡ differ_result s b k
unfolding take_for
take_other s b f k e = rw e

module _ (s : Bridge) (b : Buffers) (h : Sound s) (lb : RightLengths b) where
  -- the test `sound` passes
  ss : sound s ≡ true
  ss = sound_true s h

  -- a refused call on other buffers, not both whole
  refuses_other : (c : Call) (l : Buffers) (n : ℕ) (r : Result) → n ≢ 0 → r ≡ record { answer = plain n; state = s; buffers = l }
      → is_frame c ≡ false
      → step s b c ≡ record { answer = r.answer; state = r.state; buffers = b } → CallCase s b c
  refuses_other c l n r z e p q = refuses s b c n z p (q
      ∙ ap (λ (u : Result). record { answer = u.answer; state = u.state; buffers = b }) e)

  opening_own : (a : Ask) → CallCase s b (opening its_own a)
  unfolding step open_of lowest_givable
  opening_own a = go (outcome (open_number s (right_lengths b) a) (open_result s b a (or_zero (lowest_givable s))) s b)
    where
      pick : OpenFacts s a → open_of s b a ≡ open_result s b a (or_zero (lowest_givable s))
          → (lowest_givable s ≡ none) ⊎ ((k : ℕ) × (lowest_givable s ≡ some k)) → CallCase s b (opening its_own a)
      pick o e (inl z) = contradiction (ap is_none z) o.slotted
      pick o e (inr z) = opens (record {
        ask = a;
        k = z.0;
        call = refl;
        found = z.1;
        lowest = lowest_some (givable s) z.0 z.1;
        lawful = o.law;
        room = o.ticketed;
        result = e ∙ ap (λ (o : Option ℕ). open_result s b a (or_zero o)) z.1;
      })

      go : Outcome (open_number s (right_lengths b) a) (open_result s b a (or_zero (lowest_givable s))) s b (open_of s b a)
          → CallCase s b (opening its_own a)
      go (refused n e) = refuses s b (opening its_own a) (open_number s (right_lengths b) a) n refl e
      go (through n e) = pick (open_facts s (right_lengths b) a n) e (option_cases (lowest_givable s))

  opening_other : (a : Ask) (l : Buffers) → ¬ RightLengths l → CallCase s b (opening (other l) a)
  unfolding step open_of
  opening_other a l d =
      refuses_other (opening (other l) a) l 10 (open_of s l a) (λ z. omega arith) (rw (open_ten s l a ss d)) refl refl

  turn_own : CallCase s b (turn its_own)
  unfolding step turn_of next_ready aged_bridge
  turn_own = go (option_cases (next_ready (aged_bridge s)))
    where
      e : turn_of s b ≡ send_for (aged_bridge s) b (next_ready (aged_bridge s))
      e = rw (lent_clear s b ss lb)

      go : (next_ready (aged_bridge s) ≡ none) ⊎ ((k : ℕ) × (next_ready (aged_bridge s) ≡ some k)) → CallCase s b (turn its_own)
      go (inl z) = idles (record {
        call = refl;
        unready = search_none (ready_at_lem (aged_bridge s)) (suc s.last) 4 z;
        result = e ∙ ap (send_for (aged_bridge s) b) z;
      })
      go (inr z) = sends (record {
        k = z.0;
        call = refl;
        found = search_some (ready_at_lem (aged_bridge s)) (suc s.last) 4 z.0 z.1;
        result = e ∙ ap (send_for (aged_bridge s) b) z.1;
      })

  turn_other : (l : Buffers) → ¬ RightLengths l → CallCase s b (turn (other l))
  unfolding step turn_of
  turn_other l d = refuses_other (turn (other l)) l 10 (turn_of s l) (λ z. omega arith) (rw (lent_ten s l ss d)) refl refl

  pub frame_own : (f : Frame) → CallCase s b (frame its_own f)
  unfolding step frame_of awaiting ◌if◌else◌
  frame_own f = go (cases (eqb (content_number s.own f) 0)) (option_cases (awaiting s f))
    where
      awaited : content_number s.own f ≡ 0 → reply_number s (right_lengths b) f ≡ (17 if is_none (awaiting s f) else 0)
      awaited z = reply_later s b f ss lb ∙ else_second _ _ z

      stopped : content_number s.own f ≢ 0 → reply_number s (right_lengths b) f ≡ content_number s.own f
      stopped z = reply_later s b f ss lb ∙ else_first _ _ z

      no_reply : (n : ℕ) → n ≢ 0 → frame_of s b f ≡ record { answer = plain n; state = s; buffers = b }
          → ((k : ℕ) → content_number s.own f ≡ 0 → k < 4 → awaits s f k ≡ false) → CallCase s b (frame its_own f)
      no_reply n z e w = nothing (record {
        state = ap (λ (r : Result). r.state) e;
        buffers = ap (λ (r : Result). r.buffers) e;
        silent = ap (λ (r : Result). r.answer.sent) e;
        no_turn = refl;
        unnoted = refl;
        unawaited = λ g q p k l. let q' : f ≡ g = cc in rw (← q') (w k (rw q' p) l);
      })

      judge : (k : ℕ) → Lowest (awaits s f) k → content_number s.own f ≡ 0 → frame_of s b f ≡ take_for s b f k
          → (differs k (slot s k) b.second f ≡ true) ⊎ (differs k (slot s k) b.second f ≡ false) → CallCase s b (frame its_own f)
      judge k w p e (inl d) = disagrees (record {
        f = f;
        k = k;
        call = refl;
        passes = p;
        bound = w.bound;
        awaited = w.passes;
        other = d;
        result = e ∙ take_other s b f k d;
      })
      judge k w p e (inr d) = takes (record {
        f = f;
        k = k;
        call = refl;
        passes = p;
        bound = w.bound;
        awaited = w.passes;
        agrees = d;
        result = e ∙ take_same s b f k d;
      })

      go : (eqb (content_number s.own f) 0 ≡ true) ⊎ (eqb (content_number s.own f) 0 ≡ false)
          → (awaiting s f ≡ none) ⊎ ((k : ℕ) × (awaiting s f ≡ some k)) → CallCase s b (frame its_own f)
      go (inl p) (inl z) = no_reply 17 (λ z. omega arith) (rw (awaited (eqb-true _ 0 p), z)) (λ k q l. lowest_none (awaits s f) z k l)
      go (inl p) (inr z) =
          let w : Lowest (awaits s f) z.0 = lowest_some (awaits s f) z.0 z.1 in
          judge z.0 w (eqb-true _ 0 p) (rw (awaited (eqb-true _ 0 p), z.1)) (cases (differs z.0 (slot s z.0) b.second f))
      go (inr p) z = no_reply (content_number s.own f) (eqb-false _ 0 p) (rw (stopped (eqb-false _ 0 p), p))
          (λ k q l. absurd (eqb-false _ 0 p q))

  pub frame_other : (f : Frame) (l : Buffers) → ¬ RightLengths l → CallCase s b (frame (other l) f)
  unfolding step frame_of
  frame_other f l d =
      let e : frame_of s l f ≡ record { answer = plain 10; state = s; buffers = l } = rw (reply_ten s l f ss d) in
      nothing (record {
        state = ap (λ (r : Result). r.state) e;
        buffers = refl;
        silent = ap (λ (r : Result). r.answer.sent) e;
        no_turn = refl;
        unnoted = refl;
        unawaited = λ g q. absurd (let z : ◌≡◌ {A = ℕ} 0 1 = cc in omega arith);
      })

  close_own : (t : ℕ) → CallCase s b (close t)
  unfolding step close_of close_number held_slot ◌if◌else◌
  close_own t = go (option_cases (held_slot s t))
    where
      go : (held_slot s t ≡ none) ⊎ ((k : ℕ) × (held_slot s t ≡ some k)) → CallCase s b (close t)
      go (inl z) = refuses s b (close t) 14 (λ z. omega arith) refl (rw (ss, z))
      go (inr z) =
          let w : Lowest (held_by_lem s t) z.0 = lowest_some (held_by_lem s t) z.0 z.1 in
          let p = and-true (not (is_free (slot s z.0).phase)) (eqb (slot s z.0).ticket t) w.passes in
          closes (record {
            t = t;
            k = z.0;
            call = refl;
            bound = w.bound;
            held = not-true _ p.0;
            ticket = eqb-true _ t p.1;
            result = rw (ss, z.1);
          })

  reset_own : (o : ℕ) → CallCase s b (reset o)
  unfolding step reset_of reset_number ◌if◌else◌
  reset_own o = go (dec_le o 15)
    where
      go : Dec (o ≤ 15) → CallCase s b (reset o)
      go (yes p) = resets (record { o = o; call = refl; small = p; result = rw (le-ltb 15 o p) })
      go (no p) = refuses s b (reset o) 11 (λ z. omega arith) refl (rw (lt-ltb 15 o (omega arith)))

  -- status and bytes
  reads_only : (c : Call) → (step s b c).state ≡ s → (step s b c).buffers ≡ b → (step s b c).answer.sent ≡ none → is_turn c ≡ false
      → is_noted c ≡ false → is_frame c ≡ false → CallCase s b c
  reads_only c p q r t o n = nothing (record {
    state = p;
    buffers = q;
    silent = r;
    no_turn = rw t;
    unnoted = rw o;
    unawaited = λ f e. absurd (not_frame c n f e);
  })

  pub call_case : (c : Call) → Shaped c → CallCase s b c
  unfolding step
  call_case (opening its_own a) d = opening_own a
  call_case (opening (other l) a) d = opening_other a l d
  call_case (turn its_own) d = turn_own
  call_case (turn (other l)) d = turn_other l d
  call_case (frame its_own f) d = frame_own f
  call_case (frame (other l) f) d = frame_other f l d.0
  call_case (status t) d = reads_only (status t) refl refl refl refl refl refl
  call_case (bytes l t) d = reads_only (bytes l t) refl refl (bytes_silent s (lent_list b.first l) t) refl refl refl
  call_case (close t) d = close_own t
  call_case (reset o) d = reset_own o

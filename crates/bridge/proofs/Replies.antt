-- Which number an incoming frame is refused with, which slot awaits it, and what the call is where it is not refused.
use Prim.Native.Nat.{ℕ, zero, suc, ◌+◌, ◌*◌, ◌/◌, ◌≤◌, ◌<◌}
use mathlib.Core.Path.{◌≡◌, refl, sym, ◌∙◌, ap}
use mathlib.Core.Bool.{Bool, true, false, cond, not, ◌&&◌, true≢false}
use mathlib.Core.Logic.{◌⊎◌, inl, inr}
use mathlib.Core.List.{List, [], ◌∷◌}
use mathlib.Core.Option.{none, some}
use native.Mathlib.Omega.{arith}
use lib.ListN.{length, set, length-take}
use lib.Seq.{sets}
use lib.Dec.{eqb}
use lib.Pointwise.{pointwise}
use borrow.Author.Tests.{le-ltb, ne_eqb, not-false}
use Rattle.std.specs.Prelude.{Ok, Err, None}
use Rattle.wire.specs.Order.{◌if◌else◌, ◌or_else◌}
use Rattle.wire.specs.declared.refusal.Refusal.{Refusal}
use Rattle.wire.specs.Refusals.{code, given}
use Rattle.wire.specs.Answer.{result_of}
use Rattle.wire.specs.Put.{put_of}
use Rattle.wire.proofs.Orders.{if_zero, else_zero, else_refused}
use Rattle.wire.proofs.Puts.{put_sets}
use Rattle.wire.proofs.RefusalLaws.{code_ne0, answered}
use Rattle.bus_rules.specs.Ident.{id_offset, id_kind, parts_of, no_parts}
use Rattle.bus_rules.specs.Frames.{rsp, content, head_number, receive_number, read_head_of}
use Rattle.bus_rules.specs.declared.Parts.{Parts}
use Rattle.bridge_rules.specs.declared.Bridge.{Bridge}
use Rattle.bridge_rules.specs.declared.Slot.{Slot}
use Rattle.bridge_rules.specs.State.{Frame, slot, sound, with_slots, is_waiting}
use Rattle.bridge_rules.specs.Answers.{Buffers, right_lengths, lent_number, stepped_of}
use Rattle.bridge_rules.specs.Views.{as_stepped}
use Rattle.bridge_rules.specs.Turn.{chunk_len, advanced}
use Rattle.bridge_rules.specs.Incoming.{awaits, awaiting, content_number, reply_number, same_bytes, differs, differed, take_for, frame_of}
use Rattle.bridge_rules.proofs.Search.{lowest_some, lowest_none, option_cases}
use Rattle.bridge_rules.proofs.SoundTest.{true_sound}
use Rattle.bridge_rules.proofs.AwaitsTest.{AwaitsOk, awaits_ok}
use Rattle.bridge_rules.proofs.SlotOk.{wait_ok}
use Rattle.bridge_rules.proofs.FrameLaws.{len_eight, len_inside}
use Rattle.bridge_rules.proofs.NumberLaws.{RightLengths, lent_ok}
use Rattle.bridge.proofs.Searches.{awaiting_small}

-- ── 1 to 5 ─────────────────────────────────────────────────────────────────────────────────────────────────────────

-- the parts of a frame that no receiver refuses, or the number that refuses it
module _ (own : ℕ) (f : Frame) (small : own ≤ 15) where
  -- an own number 0..15 is not refused
  receive_is : receive_number own f ≡ head_number own f
  unfolding receive_number ◌if◌else◌
  receive_is = rw (le-ltb 15 own small)

  pub head_is : (p : Parts) → Ok p ≡ read_head_of own f → (head_number own f ≡ 0) × (p ≡ parts_of f.id)
  unfolding read_head_of
  head_is p e = let h = answered (receive_number own f) (parts_of f.id) p (sym e) in (sym receive_is ∙ h.0, sym h.1)

  head_refused : (e : Refusal) → given no_parts (Err e) ≡ result_of no_parts (receive_number own f) (parts_of f.id) → code e ≡ head_number own f
  unfolding result_of
  head_refused e h = go (receive_number own f) h ∙ receive_is
    where
      go : (m : ℕ) → given no_parts (Err e) ≡ result_of no_parts m (parts_of f.id) → code e ≡ m
      go zero q = ap (λ (r : ℕ × Parts). r.0) q
      go (suc m) q = ap (λ (r : ℕ × Parts). r.0) q

  -- 1 to 4, before 5 and what follows
  pub content_refused : (e : Refusal) (next : ℕ) → given no_parts (Err e) ≡ result_of no_parts (receive_number own f) (parts_of f.id)
      → code e ≡ (content_number own f or_else next)
  unfolding content_number
  content_refused e next h = else_refused _ next e (else_refused _ _ e (head_refused e h))

  -- 5 and what follows
  pub content_parts : (p : Parts) (next : ℕ) → Ok p ≡ read_head_of own f
      → (5 if not (eqb p.kind rsp) else next) ≡ (content_number own f or_else next)
  unfolding content_number parts_of ◌if◌else◌ ◌or_else◌
  content_parts p next e = let h = head_is p e in rw (h.0, ap (λ (x : Parts). x.kind) h.1) (go (not (eqb (id_kind f.id) rsp)))
    where
      go : (b : Bool) → (5 if b else next) ≡ ((5 if b else 0) or_else next)
      go true = refl
      go false = refl

-- ── 17 ─────────────────────────────────────────────────────────────────────────────────────────────────────────────

-- the test of slot k with a frame's parts and length
abbrev pub takes : Slot → ℕ → Parts → ℕ → Bool
takes x k p len =
    is_waiting x.phase && eqb p.table 6 && eqb p.from x.device && eqb p.offset (128 * k + x.progress)
    && eqb len (chunk_len x.count x.progress)

takes_of : (s : Bridge) (f : Frame) (k : ℕ) (p : Parts) → p ≡ parts_of f.id → takes (slot s k) k p f.len ≡ awaits s f k
unfolding awaits parts_of
takes_of s f k p e = rw e

-- a reply's offset says which slot of a sound bridge may await it: slot k's part of the buffer begins at 128 k
module _ (s : Bridge) (f : Frame) (h : sound s ≡ true) (p : Parts) (e : p ≡ parts_of f.id) (k : ℕ) (q : k ≡ p.offset / 128) where
  whose : (j : ℕ) → j < 4 → awaits s f j ≡ true → j ≡ k
  unfolding parts_of
  whose j l z =
      let a = awaits_ok s f j z in
      let w = wait_ok (slot s j) ((true_sound s h).each j l) a.waits in
      let o : p.offset ≡ id_offset f.id = ap (λ (x : Parts). x.offset) e in
      omega (arith, a.place, w.partway.below, w.held.args.few)

  pub awaited_there : k < 4 → takes (slot s k) k p f.len ≡ true → awaiting s f ≡ some k
  unfolding awaiting
  awaited_there l t = go (option_cases (awaiting s f))
    where
      go : (awaiting s f ≡ none) ⊎ ((j : ℕ) × (awaiting s f ≡ some j)) → awaiting s f ≡ some k
      go (inl z) = absurd (true≢false (sym t ∙ takes_of s f k p e ∙ lowest_none (awaits s f) z k l))
      go (inr (j, z)) = let w = lowest_some (awaits s f) j z in z ∙ ap some (whose j w.bound w.passes)

  pub awaited_nowhere : (k < 4 → takes (slot s k) k p f.len ≡ false) → awaiting s f ≡ none
  unfolding awaiting
  awaited_nowhere n = go (option_cases (awaiting s f))
    where
      go : (awaiting s f ≡ none) ⊎ ((j : ℕ) × (awaiting s f ≡ some j)) → awaiting s f ≡ none
      go (inl z) = z
      go (inr (j, z)) =
          let w = lowest_some (awaits s f) j z in
          let g : j ≡ k = whose j w.bound w.passes in
          absurd (true≢false (sym w.passes ∙ ap (awaits s f) g ∙ sym (takes_of s f k p e) ∙ n (omega (arith, w.bound))))

-- an accepted bridge is sound, whatever the buffers
pub lent_sound : (s : Bridge) (ok : Bool) → lent_number s ok ≡ 0 → sound s ≡ true
unfolding lent_number
lent_sound s ok e = not-false _ (if_zero 10 _ _ e).0

-- ── A reply's bytes and a buffer's ─────────────────────────────────────────────────────────────────────────────────

pub same_is : (xs ys : List ℕ) → pointwise eqb xs ys ≡ same_bytes xs ys
unfolding same_bytes
same_is [] [] = refl
same_is [] (y ∷ ys) = refl
same_is (x ∷ xs) [] = refl
same_is (x ∷ xs) (y ∷ ys) = rw (same_is xs ys) refl

-- ── The call ───────────────────────────────────────────────────────────────────────────────────────────────────────

module _ (s : Bridge) (b : Buffers) (f : Frame) where
  pub frame_refused : (e : Refusal) → code e ≡ reply_number s (right_lengths b) f
      → (as_stepped (record { bridge = s; answer = Err e }) ≡ stepped_of (frame_of s b f)) × (b.first ≡ (frame_of s b f).buffers.first)
  unfolding frame_of stepped_of
  frame_refused e h = rw (← h, ne_eqb (code e) 0 (code_ne0 e)) (refl, refl)

  module _ (e : 0 ≡ reply_number s (right_lengths b) f) (k : ℕ) (q : awaiting s f ≡ some k) where
    reply_lent : (sound s ≡ true) × RightLengths b
    unfolding reply_number
    reply_lent = lent_ok s b (else_zero _ _ (sym e)).0

    reply_awaited : AwaitsOk s f k
    unfolding awaiting
    reply_awaited = awaits_ok s f k (lowest_some (awaits s f) k q).passes

    -- the reply's bytes lie within both buffers
    reply_fits : (f.len ≤ 8) × (128 * k + (slot s k).progress + f.len ≤ 512)
    reply_fits =
        let l = awaiting_small s f k q in
        let w = wait_ok (slot s k) ((true_sound s reply_lent.0).each k l) reply_awaited.waits in
        let n = len_eight (slot s k).count (slot s k).progress in
        let i = len_inside (slot s k).count (slot s k).progress w.partway.below in (
          omega (arith, reply_awaited.len, n),
          omega (arith, l, reply_awaited.len, w.held.args.few, w.partway.below, i),
        )

    -- what taking it asks for
    pub reply_taken : (k < 4) × (f.len ≤ 8) × (128 * k + (slot s k).progress + f.len ≤ length b.second)
    reply_taken = (awaiting_small s f k q, reply_fits.0, omega (arith, reply_fits.1, reply_lent.1.1))

    reply_puts : put_of b.first (128 * k + (slot s k).progress) (content f) ≡ sets b.first (128 * k + (slot s k).progress) (content f)
    unfolding content
    reply_puts =
        put_sets b.first (128 * k + (slot s k).progress) (content f)
        (omega (arith, reply_fits.1, reply_lent.1.0, length-take f.len f.bytes))

    -- the bridge and the first buffer after a frame that is not refused
    abbrev other : Bool
    other = differs k (slot s k) b.second f

    pub frame_is : (as_stepped (record {
      bridge = with_slots s (set s.slots k (cond other (differed (slot s k)) (advanced (slot s k))));
      answer = Ok None;
    }) ≡ stepped_of (frame_of s b f))
        × (cond other b.first (put_of b.first (128 * k + (slot s k).progress) (content f)) ≡ (frame_of s b f).buffers.first)
    unfolding frame_of take_for stepped_of
    frame_is = rw (reply_puts, ← e, q) (refl, refl)

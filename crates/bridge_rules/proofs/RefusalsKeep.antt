-- An unsound state gets 11 from every call but reset, and a refusal changes nothing.
use Prim.Native.Nat.{ℕ}
use mathlib.Core.Path.{◌≡◌, refl, sym, ◌∙◌, ap}
use mathlib.Core.Logic.{◌≢◌}
use mathlib.Core.List.{List}
use mathlib.Core.Option.{Option, none, some}
use mathlib.Core.Bool.{Bool, true, false, cond}
use lib.ListN.{length}
use lib.Dec.{eqb}
use borrow.Author.Tests.{ne_eqb}
use Rattle.wire.specs.Order.{◌if◌else◌, ◌or_else◌}
use Rattle.bridge_rules.specs.State.{Frame, Bridge, or_zero, held_slot, next_ready, sound}
use Rattle.bridge_rules.specs.Answers.{Buffers, Result, right_lengths, unless, changed_by, plain, lent_number}
use Rattle.bridge_rules.specs.Opening.{Ask, open_number, open_of}
use Rattle.bridge_rules.specs.Turn.{aged_bridge, send_for, turn_of}
use Rattle.bridge_rules.specs.Incoming.{reply_number, take_for, frame_of}
use Rattle.bridge_rules.specs.Ending.{close_number, close_of, reset_number, reset_of, bytes_of, bytes_number, no_span, slot_span, span_of, status_of}
use Rattle.bridge_rules.specs.Call.{its_own, other, opening, turn, frame, status, bytes, close, reset, step, keeping, lent_list}
use Rattle.bridge_rules.specs.Calls.{UnsoundRefused, RefusalsKeep}
use Rattle.bridge_rules.proofs.Status.{span_number}

-- ── unsound states ─────────────────────────────────────────────────────────────────────────────────────────────────

module _ (s : Bridge) (e : sound s ≡ false) where
  unsound_lent : (ok : Bool) → lent_number s ok ≡ 11
  unfolding lent_number ◌if◌else◌
  unsound_lent ok = rw e

  unsound_open : (b : Buffers) (a : Ask) → open_of s b a ≡ record { answer = plain 11; state = s; buffers = b }
  unfolding open_of open_number ◌or_else◌
  unsound_open b a = rw (unsound_lent (right_lengths b))

  unsound_turn : (b : Buffers) → turn_of s b ≡ record { answer = plain 11; state = s; buffers = b }
  unfolding turn_of
  unsound_turn b = rw (unsound_lent (right_lengths b))

  unsound_frame : (b : Buffers) (f : Frame) → frame_of s b f ≡ record { answer = plain 11; state = s; buffers = b }
  unfolding frame_of reply_number ◌or_else◌
  unsound_frame b f = rw (unsound_lent (right_lengths b))

pub unsound_refused_lem : UnsoundRefused
unfolding step status_of bytes_of span_of bytes_number close_of close_number ◌if◌else◌
unsound_refused_lem s b (opening its_own a) e d = unsound_open s e b a
unsound_refused_lem s b (opening (other l) a) e d = rw (unsound_open s e l a)
unsound_refused_lem s b (turn its_own) e d = unsound_turn s e b
unsound_refused_lem s b (turn (other l)) e d = rw (unsound_turn s e l)
unsound_refused_lem s b (frame its_own f) e d = unsound_frame s e b f
unsound_refused_lem s b (frame (other l) f) e d = rw (unsound_frame s e l f)
unsound_refused_lem s b (status t) e d = rw e
unsound_refused_lem s b (bytes l t) e d = rw e
unsound_refused_lem s b (close t) e d = rw e
unsound_refused_lem s b (reset o) e d = absurd (d o refl)

-- ── refusals ───────────────────────────────────────────────────────────────────────────────────────────────────────

abbrev Kept : Bridge → Buffers → ℕ → Result → Type 0
Kept s b n u = u.answer.number ≡ n → n ≢ 0 → (u.state ≡ s) × (u.buffers ≡ b) × (u.answer ≡ plain n)

-- a call that refuses by `unless` and else answers 0
kept : (m n : ℕ) (r : Result) (s : Bridge) (b : Buffers) → r.answer.number ≡ 0 → Kept s b n (unless m r s b)
kept m n r s b z e d = go (eqb m 0) e
  where
    go : (t : Bool) → (cond t r (record { answer = plain m; state = s; buffers = b })).answer.number ≡ n
        → ((cond t r (record { answer = plain m; state = s; buffers = b })).state ≡ s)
        × ((cond t r (record { answer = plain m; state = s; buffers = b })).buffers ≡ b)
        × ((cond t r (record { answer = plain m; state = s; buffers = b })).answer ≡ plain n)
    go true q = absurd (d (sym q ∙ z))
    go false q = (refl, refl, ap plain q)

pub sends_zero : (s : Bridge) (b : Buffers) (o : Option ℕ) → (send_for s b o).answer.number ≡ 0
unfolding send_for
sends_zero s b none = refl
sends_zero s b (some k) = refl

-- on another buffer
elsewhere : (s : Bridge) (b l : Buffers) (n : ℕ) (u : Result) → Kept s l n u
    → Kept s b n (record { answer = u.answer; state = u.state; buffers = b })
elsewhere s b l n u k e d = let z = k e d in (z.0, refl, z.2)

open_keeps : (s : Bridge) (b : Buffers) (a : Ask) (n : ℕ) → Kept s b n (open_of s b a)
unfolding open_of
open_keeps s b a n = kept (open_number s (right_lengths b) a) n _ s b refl

turn_keeps : (s : Bridge) (b : Buffers) (n : ℕ) → Kept s b n (turn_of s b)
unfolding turn_of
turn_keeps s b n = kept (lent_number s (right_lengths b)) n _ s b (sends_zero (aged_bridge s) b (next_ready (aged_bridge s)))

frame_keeps : (s : Bridge) (b : Buffers) (f : Frame) (n : ℕ) → Kept s b n (frame_of s b f)
unfolding frame_of take_for
frame_keeps s b f n = kept (reply_number s (right_lengths b) f) n _ s b refl

-- a call that takes no buffer
changed_keeps : (m n : ℕ) (after s : Bridge) (b : Buffers) → Kept s b n (keeping b (changed_by m after s))
changed_keeps m n after s b e d =
    let z : eqb m 0 ≡ false = ne_eqb m 0 (λ z. d (sym e ∙ z)) in
    (rw z, refl, ap plain e)

close_keeps : (s : Bridge) (b : Buffers) (t n : ℕ) → Kept s b n (keeping b (close_of s t))
unfolding close_of
close_keeps s b t n = changed_keeps (close_number s t) n _ s b

reset_keeps : (s : Bridge) (b : Buffers) (o n : ℕ) → Kept s b n (keeping b (reset_of s o))
unfolding reset_of
reset_keeps s b o n = changed_keeps (reset_number o) n _ s b

-- a refused span is empty
span_keeps : (s : Bridge) (m t n : ℕ) → (span_of s m t).number ≡ n → n ≢ 0 → span_of s m t ≡ no_span n
unfolding span_of
span_keeps s m t n e d = go (eqb (bytes_number s m t) 0) e
  where
    go : (c : Bool) → (cond c (slot_span s (or_zero (held_slot s t))) (no_span (bytes_number s m t))).number ≡ n
        → cond c (slot_span s (or_zero (held_slot s t))) (no_span (bytes_number s m t)) ≡ no_span n
    go true q = absurd (d (sym q ∙ span_number s (or_zero (held_slot s t))))
    go false q = ap no_span q

bytes_keeps : (s : Bridge) (b : List ℕ) (t n : ℕ) → (bytes_of s b t).number ≡ n → n ≢ 0 → bytes_of s b t ≡ plain n
unfolding bytes_of
bytes_keeps s b t n e d = rw (span_keeps s (length b) t n e d)

pub refusals_keep_lem : RefusalsKeep
unfolding step
refusals_keep_lem s b (opening its_own a) n e d = open_keeps s b a n e d
refusals_keep_lem s b (opening (other l) a) n e d = elsewhere s b l n (open_of s l a) (open_keeps s l a n) e d
refusals_keep_lem s b (turn its_own) n e d = turn_keeps s b n e d
refusals_keep_lem s b (turn (other l)) n e d = elsewhere s b l n (turn_of s l) (turn_keeps s l n) e d
refusals_keep_lem s b (frame its_own f) n e d = frame_keeps s b f n e d
refusals_keep_lem s b (frame (other l) f) n e d = elsewhere s b l n (frame_of s l f) (frame_keeps s l f n) e d
refusals_keep_lem s b (status t) n e d = (refl, refl, ap plain e)
refusals_keep_lem s b (bytes l t) n e d = (refl, refl, bytes_keeps s (lent_list b.first l) t n e d)
refusals_keep_lem s b (close t) n e d = close_keeps s b t n e d
refusals_keep_lem s b (reset o) n e d = reset_keeps s b o n e d

-- Every call keeps a sound state sound, and a reset makes any state fresh.
use Prim.Native.Nat.{ℕ, suc, ◌+◌, ◌*◌, ◌≤◌, ◌<◌}
use mathlib.Core.Path.{◌≡◌, refl, ◌∙◌}
use mathlib.Core.Logic.{◌⊎◌, inl, inr, ◌≢◌}
use mathlib.Core.Bool.{true, false}
use mathlib.Core.Option.{Option, none, some}
use native.Mathlib.Omega.{arith}
use lib.ListN.{set, replicate}
use lib.Seq.{length-sets}
use borrow.Author.Tests.{le-ltb}
use Rattle.bus_rules.specs.Frames.{content}
use Rattle.wire.specs.Order.{◌if◌else◌}
use Rattle.bridge_rules.specs.State.{Frame, Bridge, Slot, blank, slot, fresh, with_slots}
use Rattle.bridge_rules.specs.Answers.{Buffers, both, right_lengths}
use Rattle.bridge_rules.specs.Opening.{Ask, to_first, to_second, opened, open_of}
use Rattle.bridge_rules.specs.Turn.{advanced, aged_bridge, send_for, turn_of}
use Rattle.bridge_rules.specs.Incoming.{awaits, differed, frame_of}
use Rattle.bridge_rules.specs.Ending.{reset_number, reset_of}
use Rattle.bridge_rules.specs.Call.{Call, its_own, other, opening, turn, frame, status, bytes, close, reset, step}
use Rattle.bridge_rules.specs.Calls.{KeepsSound, ResetFresh}
use Rattle.bridge_rules.proofs.AwaitsTest.{awaits_ok}
use Rattle.bridge_rules.proofs.SlotOk.{SlotOk, WaitOk, wait_ok, ok_free}
use Rattle.bridge_rules.proofs.SlotChanges.{advanced_same, replied_ok, differed_is, differed_ok}
use Rattle.bridge_rules.proofs.SoundTest.{Sound, sound_true, true_sound}
use Rattle.bridge_rules.proofs.SoundStates.{set_sound, keeps_apart, aged_sound, sends_sound, fresh_sound, opened_ticket, opened_ok}
use Rattle.bridge_rules.proofs.CallCases.{CallCase, nothing, opens, sends, idles, takes, disagrees, closes, resets, call_case, frame_own, frame_other}
use Rattle.bridge_rules.proofs.NumberLaws.{RightLengths, lengths_true, true_lengths}
use Rattle.bridge_rules.proofs.Search.{cases, contradiction}
use Rattle.bridge_rules.proofs.Comparing.{differs_compares}

send_buffers : (s : Bridge) (b : Buffers) (o : Option ℕ) → RightLengths b → RightLengths (send_for s b o).buffers
unfolding send_for
send_buffers s b none l = l
send_buffers s b (some k) l = l

idle_sound : (s : Bridge) (b : Buffers) → Sound s → Sound (send_for s b none).state
unfolding send_for
idle_sound s b h = h

-- slot k becomes y, and nothing else changes
slot_sound : (s : Bridge) → Sound s → (k : ℕ) → k < 4 → (y : Slot) → SlotOk y → y.ticket ≤ s.issued
    → ((j : ℕ) → j < 4 → j ≢ k → 0 < y.ticket → y.ticket ≢ (slot s j).ticket) → Sound (with_slots s (set s.slots k y))
slot_sound s h k l y ok given apart = set_sound s _ k y h (record {
  bound = l;
  own = h.own;
  last = h.last;
  issued = h.issued;
  more = omega arith;
  slots = refl;
  rests = h.rests;
  ok = ok;
  given = given;
  apart = apart;
})

-- a reply that slot k awaits makes y of it
replied_sound : (s : Bridge) → Sound s → (f : Frame) (k : ℕ) → k < 4 → awaits s f k ≡ true → (y : Slot) → y.ticket ≡ (slot s k).ticket
    → (WaitOk (slot s k) → SlotOk y) → Sound (with_slots s (set s.slots k y))
replied_sound s h f k l a y t ok = slot_sound s h k l y (ok (wait_ok (slot s k) (h.each k l) (awaits_ok s f k a).waits))
    (omega (arith, t, h.given k l)) (keeps_apart s k y h l t)

pub case_sound : (s : Bridge) (b : Buffers) (c : Call) → Sound s → RightLengths b → CallCase s b c
    → Sound (step s b c).state × RightLengths (step s b c).buffers
case_sound s b c h lb (nothing u) = (rw u.state h, rw u.buffers lb)
case_sound s b c h lb (opens u) = (
  rw u.result (set_sound s _ u.k (opened u.ask (suc s.issued)) h (record {
    bound = u.lowest.bound;
    own = h.own;
    last = h.last;
    issued = omega (arith, u.room);
    more = omega arith;
    slots = refl;
    rests = h.rests;
    ok = opened_ok u.ask s.issued u.lawful;
    given = omega (arith, opened_ticket u.ask (suc s.issued));
    apart = λ j m d p q. omega (arith, h.given j m, opened_ticket u.ask (suc s.issued), q);
  })),
  rw u.result (
    length-sets b.first (128 * u.k) (to_first u.ask) ∙ lb.0,
    length-sets b.second (128 * u.k) (to_second u.ask) ∙ lb.1,
  ),
)
case_sound s b c h lb (sends u) = (
  rw u.result (sends_sound (aged_bridge s) b u.k (aged_sound s h) (omega (arith, u.found.is)) u.found.passes),
  rw u.result (send_buffers (aged_bridge s) b (some u.k) lb),
)
case_sound s b c h lb (idles u) =
    (rw u.result (idle_sound (aged_bridge s) b (aged_sound s h)), rw u.result (send_buffers (aged_bridge s) b none lb))
case_sound s b c h lb (takes u) = (
  rw u.result (replied_sound s h u.f u.k u.bound u.awaited (advanced (slot s u.k)) (advanced_same (slot s u.k)).ticket
      (replied_ok (slot s u.k))),
  rw u.result (length-sets b.first (128 * u.k + (slot s u.k).progress) (content u.f) ∙ lb.0, lb.1),
)
case_sound s b c h lb (disagrees u) = (
  rw u.result (replied_sound s h u.f u.k u.bound u.awaited (differed (slot s u.k)) (differed_is (slot s u.k)).same.ticket
      (λ w. differed_ok (slot s u.k) w (differs_compares u.k (slot s u.k) b.second u.f u.other))),
  rw u.result lb,
)
case_sound s b c h lb (closes u) = (
  rw u.result (slot_sound s h u.k u.bound blank (ok_free refl) (omega arith) (λ j m d p. absurd (omega arith))),
  rw u.result lb,
)
case_sound s b c h lb (resets u) = (rw u.result (fresh_sound u.o u.small), rw u.result lb)

-- whole buffers are the bridge's own to a call; others are refused, whatever the bridge's own are
module _ (s : Bridge) (h : Sound s) where
  any : Buffers
  any = both (replicate 512 0) (replicate 512 0)

  any_long : RightLengths any
  unfolding any
  any_long = (refl, refl)

  wrong : (l : Buffers) → right_lengths l ≡ false → ¬ RightLengths l
  wrong l p q = contradiction (lengths_true l q) p

  opens_sound : (l : Buffers) (a : Ask) → (right_lengths l ≡ true) ⊎ (right_lengths l ≡ false) → Sound (open_of s l a).state
  unfolding step
  opens_sound l a (inl p) = (case_sound s l (opening its_own a) h (true_lengths l p) (call_case s l h (true_lengths l p) (opening its_own a) tt)).0
  opens_sound l a (inr p) = (case_sound s any (opening (other l) a) h any_long (call_case s any h any_long (opening (other l) a) (wrong l p))).0

  turns_sound : (l : Buffers) → (right_lengths l ≡ true) ⊎ (right_lengths l ≡ false) → Sound (turn_of s l).state
  unfolding step
  turns_sound l (inl p) = (case_sound s l (turn its_own) h (true_lengths l p) (call_case s l h (true_lengths l p) (turn its_own) tt)).0
  turns_sound l (inr p) = (case_sound s any (turn (other l)) h any_long (call_case s any h any_long (turn (other l)) (wrong l p))).0

  frames_sound : (l : Buffers) (f : Frame) → (right_lengths l ≡ true) ⊎ (right_lengths l ≡ false) → Sound (frame_of s l f).state
  unfolding step
  frames_sound l f (inl p) = (case_sound s l (frame its_own f) h (true_lengths l p) (frame_own s l h (true_lengths l p) f)).0
  frames_sound l f (inr p) = (case_sound s any (frame (other l) f) h any_long (frame_other s any h any_long f l (wrong l p))).0

  step_sound : (b : Buffers) (c : Call) → Sound (step s b c).state
  unfolding step
  step_sound b (opening its_own a) = opens_sound b a (cases (right_lengths b))
  step_sound b (opening (other l) a) = opens_sound l a (cases (right_lengths l))
  step_sound b (turn its_own) = turns_sound b (cases (right_lengths b))
  step_sound b (turn (other l)) = turns_sound l (cases (right_lengths l))
  step_sound b (frame its_own f) = frames_sound b f (cases (right_lengths b))
  step_sound b (frame (other l) f) = frames_sound l f (cases (right_lengths l))
  step_sound b (status t) = h
  step_sound b (bytes l t) = h
  step_sound b (close t) = (case_sound s any (close t) h any_long (call_case s any h any_long (close t) tt)).0
  step_sound b (reset o) = (case_sound s any (reset o) h any_long (call_case s any h any_long (reset o) tt)).0

pub keeps_sound_lem : KeepsSound
keeps_sound_lem s b c e = sound_true (step s b c).state (step_sound s (true_sound s e) b c)

pub reset_fresh_lem : ResetFresh
unfolding step reset_of reset_number ◌if◌else◌
reset_fresh_lem s b o h = (rw (le-ltb 15 o h), sound_true (fresh o) (fresh_sound o h))

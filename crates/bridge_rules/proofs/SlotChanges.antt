-- What aging, advancing, sending and a reply that disagrees make of a sound slot: it stays sound, and its transfer the same.
use Prim.Native.Nat.{ℕ, suc, ◌+◌, ◌≤◌, ◌<◌, min}
use mathlib.Core.Path.{◌≡◌, refl, sym, ◌∙◌, ap}
use mathlib.Core.Logic.{◌⊎◌, inl, inr}
use mathlib.Core.Bool.{Bool, true, false, cond}
use native.Mathlib.Omega.{arith}
use native.Mathlib.Decide.{dec_lt, dec_le}
use lib.Dec.{leb, eqb}
use borrow.Author.Tests.{lt-ltb, le-ltb, le-leb, lt-leb}
use Rattle.bridge_rules.specs.State.{Slot, ready, waiting, done, gave_up, different, reads_back, is_waiting, asks, carries, checking, compares, moved}
use Rattle.bridge_rules.specs.Turn.{ticked, aged, advanced, requested, read_back, carried, sent_slot}
use Rattle.bridge_rules.specs.Incoming.{differed}
use Rattle.bridge_rules.proofs.KindTests.{KnownKind, KindGoes, carries_only, one_kind, kinds_ask, checking_kind, asks_not_checking}
use Rattle.bridge_rules.proofs.Search.{contradiction}
use Rattle.bridge_rules.proofs.SlotOk.{HeldOk, Partway, ReadyOk, WaitOk, SlotOk, ok_free, ok_ready, ok_waiting, ok_done, ok_gave_up, ok_different}
use Rattle.bridge_rules.proofs.SlotOk.{other_phase, phase_eq}

-- ── the transfer stays the same ────────────────────────────────────────────────────────────────────────────────────

-- but for the kind, which changes once in a checked write
pub record Same (x y : Slot) : Type 0 where
  pub ticket : y.ticket ≡ x.ticket
  pub device : y.device ≡ x.device
  pub table : y.table ≡ x.table
  pub offset : y.offset ≡ x.offset
  pub count : y.count ≡ x.count

abbrev pub same_refl : (x : Slot) → Same x x
same_refl x = record { ticket = refl; device = refl; table = refl; offset = refl; count = refl }

pub same_trans : {x y z : Slot} → Same x y → Same y z → Same x z
same_trans p q = record {
  ticket = q.ticket ∙ p.ticket;
  device = q.device ∙ p.device;
  table = q.table ∙ p.table;
  offset = q.offset ∙ p.offset;
  count = q.count ∙ p.count;
}

pub same_eq : {x y z : Slot} → Same x y → z ≡ y → Same x z
same_eq {x} p e = rw e p

moved_same : (x : Slot) (p q s l : ℕ) → Same x (moved x p q s l)
moved_same x p q s l = record { ticket = refl; device = refl; table = refl; offset = refl; count = refl }

held_same : {x y : Slot} → Same x y → KnownKind y.kind → HeldOk x → HeldOk y
held_same {x} {y} e k h = record {
  kind = k;
  ticket = omega (arith, e.ticket, h.ticket);
  args = record {
    device = omega (arith, e.device, h.args.device);
    table = omega (arith, e.table, h.args.table);
    some = omega (arith, e.count, h.args.some);
    few = omega (arith, e.count, h.args.few);
    inside = omega (arith, e.count, e.offset, h.args.inside);
  };
}

partway_same : {x y : Slot} → y.progress ≡ x.progress → y.count ≡ x.count → Partway x → Partway y
partway_same e f m = record { chunk = m.chunk; at = e ∙ m.at; below = omega (arith, e, f, m.below) }

-- ── aging ──────────────────────────────────────────────────────────────────────────────────────────────────────────

-- what a tick keeps, aging keeps
aged_keeps : {A : Type 0} (part : Slot → A) (x : Slot) → part (ticked x) ≡ part x → part (aged x) ≡ part x
unfolding aged
aged_keeps part x e = go (is_waiting x.phase)
  where
    go : (b : Bool) → part (cond b (ticked x) x) ≡ part x
    go true = e
    go false = refl

pub aged_same : (x : Slot) → Same x (aged x)
unfolding ticked
aged_same x = record {
  ticket = aged_keeps (λ y. y.ticket) x refl;
  device = aged_keeps (λ y. y.device) x refl;
  table = aged_keeps (λ y. y.table) x refl;
  offset = aged_keeps (λ y. y.offset) x refl;
  count = aged_keeps (λ y. y.count) x refl;
}

pub aged_kind : (x : Slot) → (aged x).kind ≡ x.kind
unfolding ticked
aged_kind x = aged_keeps (λ y. y.kind) x refl

pub aged_progress : (x : Slot) → (aged x).progress ≡ x.progress
unfolding ticked
aged_progress x = aged_keeps (λ y. y.progress) x refl

pub aged_sends : (x : Slot) → (aged x).sends ≡ x.sends
unfolding ticked
aged_sends x = aged_keeps (λ y. y.sends) x refl

pub aged_other : (x : Slot) → is_waiting x.phase ≡ false → aged x ≡ x
unfolding aged
aged_other x e = rw e

-- a waiting slot waits on, is ready again, or gives up
pub record WaitsOn (x : Slot) : Type 0 where
  pub was : WaitOk x
  pub more : 1 < x.left
  pub phase : (aged x).phase ≡ waiting
  pub left : (aged x).left + 1 ≡ x.left

pub record ReadyAgain (x : Slot) : Type 0 where
  pub was : WaitOk x
  pub over : x.left ≡ 1
  pub few : x.sends ≤ 2
  pub phase : (aged x).phase ≡ ready
  pub left : (aged x).left ≡ 0

pub record GivesUp (x : Slot) : Type 0 where
  pub was : WaitOk x
  pub over : x.left ≡ 1
  pub third : x.sends ≡ 3
  pub phase : (aged x).phase ≡ gave_up
  pub left : (aged x).left ≡ 0

pub data Aging (x : Slot) : Type 0 where
  unaged : aged x ≡ x → is_waiting x.phase ≡ false → Aging x
  waits_on : WaitsOn x → Aging x
  ready_again : ReadyAgain x → Aging x
  gives_up : GivesUp x → Aging x

module _ (x : Slot) (w : WaitOk x) where
  waits : is_waiting x.phase ≡ true
  waits = ap is_waiting w.phase

  waits_on_lem : 1 < x.left → WaitsOn x
  unfolding aged ticked
  waits_on_lem l =
      let h : is_waiting x.phase ≡ true = waits in
      let g : leb x.left 1 ≡ false = lt-leb x.left 1 l in
      record { was = w; more = l; phase = rw (h, g); left = rw h (omega arith) }

  ready_again_lem : x.left ≡ 1 → x.sends ≤ 2 → ReadyAgain x
  unfolding aged ticked
  ready_again_lem l s =
      let h : is_waiting x.phase ≡ true = waits in
      let g : leb x.left 1 ≡ true = le-leb x.left 1 (omega arith) in
      let t : leb 3 x.sends ≡ false = lt-leb 3 x.sends (omega arith) in
      record { was = w; over = l; few = s; phase = rw (h, g, t); left = rw h (omega arith) }

  gives_up_lem : x.left ≡ 1 → x.sends ≡ 3 → GivesUp x
  unfolding aged ticked
  gives_up_lem l s =
      let h : is_waiting x.phase ≡ true = waits in
      let g : leb x.left 1 ≡ true = le-leb x.left 1 (omega arith) in
      let t : leb 3 x.sends ≡ true = le-leb 3 x.sends (omega arith) in
      record { was = w; over = l; third = s; phase = rw (h, g, t); left = rw h (omega arith) }

pub aging : (x : Slot) → SlotOk x → Aging x
aging x (ok_free e) = let q = ap (λ (y : Slot). is_waiting y.phase) e in unaged (aged_other x q) q
aging x (ok_ready r) = unaged (aged_other x (ap is_waiting r.phase)) (ap is_waiting r.phase)
aging x (ok_waiting w) = go (dec_le x.left 1) (dec_le 3 x.sends)
  where
    go : Dec (x.left ≤ 1) → Dec (3 ≤ x.sends) → Aging x
    go (yes a) (yes b) = gives_up (gives_up_lem x w (omega (arith, w.some)) (omega (arith, w.thrice)))
    go (yes a) (no b) = ready_again (ready_again_lem x w (omega (arith, w.some)) (omega arith))
    go (no a) b = waits_on (waits_on_lem x w (omega arith))
aging x (ok_done d) = unaged (aged_other x (ap is_waiting d.phase)) (ap is_waiting d.phase)
aging x (ok_gave_up g) = unaged (aged_other x (ap is_waiting g.phase)) (ap is_waiting g.phase)
aging x (ok_different g) = unaged (aged_other x (ap is_waiting g.phase)) (ap is_waiting g.phase)

pub aged_ok : (x : Slot) → SlotOk x → SlotOk (aged x)
aged_ok x k = go (aging x k)
  where
    held : WaitOk x → HeldOk (aged x)
    held w = held_same (aged_same x) (rw (aged_kind x) w.held.kind) w.held

    partway : WaitOk x → Partway (aged x)
    partway w = partway_same (aged_progress x) (aged_same x).count w.partway

    asking : WaitOk x → asks (aged x).kind ≡ true
    asking w = ap asks (aged_kind x) ∙ w.asking

    go : Aging x → SlotOk (aged x)
    go (unaged e q) = rw e k
    go (waits_on a) = ok_waiting (record {
      phase = a.phase;
      held = held a.was;
      partway = partway a.was;
      asking = asking a.was;
      once = omega (arith, aged_sends x, a.was.once);
      thrice = omega (arith, aged_sends x, a.was.thrice);
      some = omega (arith, a.left, a.more);
      few = omega (arith, a.left, a.was.few);
    })
    go (ready_again a) = ok_ready (record {
      phase = a.phase;
      held = held a.was;
      partway = partway a.was;
      sends = omega (arith, aged_sends x, a.few);
      unsent = λ c. one_kind (aged x).kind c (asking a.was);
      left = a.left;
    })
    go (gives_up a) = ok_gave_up (record {
      phase = a.phase;
      held = held a.was;
      partway = partway a.was;
      asking = asking a.was;
      sends = aged_sends x ∙ a.third;
      left = a.left;
    })

-- what was ready after aging, and what still waits
pub aged_ready : (x : Slot) → SlotOk x → (aged x).phase ≡ ready → ((x.phase ≡ ready) × (aged x ≡ x)) ⊎ ReadyAgain x
aged_ready x k e = go (aging x k)
  where
    go : Aging x → ((x.phase ≡ ready) × (aged x ≡ x)) ⊎ ReadyAgain x
    go (unaged q z) = inl (phase_eq (sym q) ∙ e, q)
    go (waits_on a) = other_phase a.phase e refl
    go (ready_again a) = inr a
    go (gives_up a) = other_phase a.phase e refl

pub aged_waiting : (x : Slot) → SlotOk x → (aged x).phase ≡ waiting → WaitsOn x
aged_waiting x k e = go (aging x k)
  where
    go : Aging x → WaitsOn x
    go (unaged q z) = contradiction (ap is_waiting (phase_eq (sym q) ∙ e)) z
    go (waits_on a) = a
    go (ready_again a) = other_phase a.phase e refl
    go (gives_up a) = other_phase a.phase e refl

-- ── advancing ──────────────────────────────────────────────────────────────────────────────────────────────────────

pub advanced_same : (x : Slot) → Same x (advanced x)
unfolding advanced
advanced_same x = moved_same x _ _ _ _

pub advanced_kind : (x : Slot) → (advanced x).kind ≡ x.kind
unfolding advanced
advanced_kind x = refl

pub advanced_progress : (x : Slot) → (advanced x).progress ≡ min (x.progress + 8) x.count
unfolding advanced
advanced_progress x = refl

pub advanced_sends : (x : Slot) → (advanced x).sends ≡ 0
unfolding advanced
advanced_sends x = refl

advanced_left : (x : Slot) → (advanced x).left ≡ 0
unfolding advanced
advanced_left x = refl

-- it is ready for the next chunk, or done
pub data Advance (x : Slot) : Type 0 where
  ready_next : (advanced x).phase ≡ ready → (advanced x).progress ≡ x.progress + 8 → x.progress + 8 < x.count → Advance x
  done_with : (advanced x).phase ≡ done → (advanced x).progress ≡ x.count → x.count ≤ x.progress + 8 → Advance x

pub advance : (x : Slot) → Advance x
unfolding advanced
advance x = go (dec_lt (x.progress + 8) x.count)
  where
    go : Dec (x.progress + 8 < x.count) → Advance x
    go (yes p) = ready_next (rw (lt-ltb (x.progress + 8) x.count p)) (omega arith) p
    go (no p) = done_with (rw (le-ltb (x.progress + 8) x.count (omega arith))) (omega arith) (omega arith)

pub advanced_not : {A : Type 0} (x : Slot) (p : ℕ) → (advanced x).phase ≡ p → eqb ready p ≡ false → eqb done p ≡ false → A
advanced_not {A} x p e a b = go (advance x)
  where
    go : Advance x → A
    go (ready_next q z l) = other_phase q e a
    go (done_with q z l) = other_phase q e b

-- of a checked write that still sends, not the last chunk
pub advanced_ok : (x : Slot) → HeldOk x → Partway x → (checking x.kind ≡ true → x.progress + 8 < x.count) → SlotOk (advanced x)
advanced_ok x h m u = go (advance x)
  where
    held : HeldOk (advanced x)
    held = held_same (advanced_same x) (rw (advanced_kind x) h.kind) h

    not_checking : x.count ≤ x.progress + 8 → (b : Bool) → checking x.kind ≡ b → b ≡ false
    not_checking l true e = absurd (omega (arith, u e))
    not_checking l false e = refl

    go : Advance x → SlotOk (advanced x)
    go (ready_next p q l) = ok_ready (record {
      phase = p;
      held = held;
      partway = record {
        chunk = suc m.chunk;
        at = omega (arith, q, m.at);
        below = omega (arith, q, l, (advanced_same x).count);
      };
      sends = omega (arith, advanced_sends x);
      unsent = λ c. advanced_sends x;
      left = advanced_left x;
    })
    go (done_with p q l) = ok_done (record {
      phase = p;
      held = held;
      not_checking = ap checking (advanced_kind x) ∙ not_checking l (checking x.kind) refl;
      whole = q ∙ sym (advanced_same x).count;
      sends = advanced_sends x;
      left = advanced_left x;
    })

-- ── sending ────────────────────────────────────────────────────────────────────────────────────────────────────────

-- a slot that sent a CMD goes on, or begins to read back
pub data Carry (x : Slot) : Type 0 where
  moves_on : carried x ≡ advanced x → (checking x.kind ≡ true → x.progress + 8 < x.count) → Carry x
  turns_back : carried x ≡ read_back x → checking x.kind ≡ true → x.count ≤ x.progress + 8 → Carry x

pub carry : (x : Slot) → Carry x
unfolding carried
carry x = go (checking x.kind) refl (dec_le x.count (x.progress + 8))
  where
    go : (b : Bool) → checking x.kind ≡ b → Dec (x.count ≤ x.progress + 8) → Carry x
    go true e (yes l) = turns_back (rw (e, le-leb x.count (x.progress + 8) l)) e l
    go true e (no l) = moves_on (rw (e, lt-leb x.count (x.progress + 8) (omega arith))) (λ c. omega arith)
    go false e l = moves_on (rw e) (λ c. contradiction c e)

-- reading back begins at the first chunk
pub record BeginsBack (x : Slot) : Type 0 where
  pub same : Same x (read_back x)
  pub kind : (read_back x).kind ≡ reads_back
  pub phase : (read_back x).phase ≡ ready
  pub progress : (read_back x).progress ≡ 0
  pub sends : (read_back x).sends ≡ 0
  pub left : (read_back x).left ≡ 0

pub begins_back : (x : Slot) → BeginsBack x
unfolding read_back
begins_back x = record {
  same = record { ticket = refl; device = refl; table = refl; offset = refl; count = refl };
  kind = refl;
  phase = refl;
  progress = refl;
  sends = refl;
  left = refl;
}

carried_same : (x : Slot) → Same x (carried x)
carried_same x = go (carry x)
  where
    go : Carry x → Same x (carried x)
    go (moves_on e u) = same_eq (advanced_same x) e
    go (turns_back e c l) = same_eq (begins_back x).same e

pub sent_same : (x : Slot) → Same x (sent_slot x)
unfolding sent_slot requested
sent_same x = go (asks x.kind)
  where
    go : (b : Bool) → Same x (cond b (requested x) (carried x))
    go true = moved_same x _ _ _ _
    go false = carried_same x

pub sent_write : (x : Slot) → carries x.kind ≡ true → sent_slot x ≡ carried x
unfolding sent_slot
sent_write x e = rw (carries_only x.kind e)

-- a slot that asks waits after its send
pub record Requested (x : Slot) : Type 0 where
  pub kind : (sent_slot x).kind ≡ x.kind
  pub phase : (sent_slot x).phase ≡ waiting
  pub progress : (sent_slot x).progress ≡ x.progress
  pub sends : (sent_slot x).sends ≡ suc x.sends
  pub left : (sent_slot x).left ≡ 20

pub sent_read : (x : Slot) → asks x.kind ≡ true → Requested x
unfolding sent_slot requested
sent_read x e = record { kind = rw e; phase = rw e; progress = rw e; sends = rw e; left = rw e }

-- its kind stays, or turns to reading back
pub sent_kind : (x : Slot) → KnownKind x.kind → KindGoes x.kind (sent_slot x).kind
sent_kind x (inr a) = inl (sent_read x a).kind
sent_kind x (inl w) = go (carry x)
  where
    is : (sent_slot x).kind ≡ (carried x).kind
    is = ap (λ (y : Slot). y.kind) (sent_write x w)

    go : Carry x → KindGoes x.kind (sent_slot x).kind
    go (moves_on e u) = inl (is ∙ ap (λ (y : Slot). y.kind) e ∙ advanced_kind x)
    go (turns_back e c l) = inr (checking_kind x.kind c, is ∙ ap (λ (y : Slot). y.kind) e ∙ (begins_back x).kind)

carried_ok : (x : Slot) → HeldOk x → Partway x → SlotOk (carried x)
carried_ok x h m = go (carry x)
  where
    back : asks (read_back x).kind ≡ true
    back = kinds_ask (read_back x).kind (inr (begins_back x).kind)

    go : Carry x → SlotOk (carried x)
    go (moves_on e u) = rw e (advanced_ok x h m u)
    go (turns_back e c l) = rw e (ok_ready (record {
      phase = (begins_back x).phase;
      held = held_same (begins_back x).same (inr back) h;
      partway = record { chunk = 0; at = (begins_back x).progress; below = omega (arith, (begins_back x).progress, (begins_back x).same.count, h.args.some) };
      sends = omega (arith, (begins_back x).sends);
      unsent = λ u. (begins_back x).sends;
      left = (begins_back x).left;
    }))

pub sent_ok : (x : Slot) → ReadyOk x → SlotOk (sent_slot x)
sent_ok x r = go r.held.kind
  where
    go : KnownKind x.kind → SlotOk (sent_slot x)
    go (inl w) = rw (sent_write x w) (carried_ok x r.held r.partway)
    go (inr w) =
        let q : Requested x = sent_read x w in
        ok_waiting (record {
          phase = q.phase;
          held = held_same (sent_same x) (rw q.kind r.held.kind) r.held;
          partway = partway_same q.progress (sent_same x).count r.partway;
          asking = ap asks q.kind ∙ w;
          once = omega (arith, q.sends);
          thrice = omega (arith, q.sends, r.sends);
          some = omega (arith, q.left);
          few = omega (arith, q.left);
        })

-- ── a reply ────────────────────────────────────────────────────────────────────────────────────────────────────────

-- one that was awaited and stored
pub replied_ok : (x : Slot) → WaitOk x → SlotOk (advanced x)
replied_ok x w = advanced_ok x w.held w.partway (λ c. contradiction c (asks_not_checking x.kind w.asking))

-- one that disagrees
pub record Differed (x : Slot) : Type 0 where
  pub same : Same x (differed x)
  pub kind : (differed x).kind ≡ x.kind
  pub phase : (differed x).phase ≡ different
  pub progress : (differed x).progress ≡ x.progress
  pub sends : (differed x).sends ≡ 0
  pub left : (differed x).left ≡ 0

pub differed_is : (x : Slot) → Differed x
unfolding differed
differed_is x = record { same = moved_same x _ _ _ _; kind = refl; phase = refl; progress = refl; sends = refl; left = refl }

pub differed_ok : (x : Slot) → WaitOk x → compares x.kind ≡ true → SlotOk (differed x)
differed_ok x w c =
    let d : Differed x = differed_is x in
    ok_different (record {
      phase = d.phase;
      held = held_same d.same (rw d.kind w.held.kind) w.held;
      partway = partway_same d.progress d.same.count w.partway;
      comparing = ap compares d.kind ∙ c;
      sends = d.sends;
      left = d.left;
    })

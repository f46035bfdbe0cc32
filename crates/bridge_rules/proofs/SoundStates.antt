-- A sound state with one slot set, with every waiting read and every rest aged, or made fresh is sound.
use Prim.Native.Nat.{ℕ, zero, suc, ◌-◌, ◌≤◌, ◌<◌}
use mathlib.Core.Path.{◌≡◌, refl, sym, ◌∙◌, ap}
use mathlib.Core.Logic.{◌⊎◌, inl, inr, ◌≢◌}
use mathlib.Core.List.{List}
use mathlib.Core.Option.{some}
use mathlib.Core.Bool.{Bool, true, false, cond}
use native.Mathlib.Omega.{arith}
use native.Mathlib.Decide.{ℕ_discrete}
use lib.ListN.{length, get_or, set, replicate, length-set, length-map, get_or-map}
use lib.Seq.{get_or-set_same, get_or-set_other}
use Rattle.bridge_rules.specs.State.{Bridge, Slot, asks, blank, slot, rest, rest_turns, fresh, is_ready}
use Rattle.bridge_rules.specs.Answers.{Buffers}
use Rattle.bridge_rules.specs.Opening.{Ask, ask_kind, opened}
use Rattle.bridge_rules.specs.Turn.{aged, lowered, sent_slot, sent_rests, aged_bridge, send_for}
use Rattle.bridge_rules.proofs.KindTests.{fits_known, asked_fits}
use Rattle.bridge_rules.proofs.NumberLaws.{LawfulAsk}
use Rattle.bridge_rules.proofs.SlotOk.{SlotOk, ok_free, ok_ready, ready_ok, ticket_eq}
use Rattle.bridge_rules.proofs.SlotChanges.{aged_same, sent_same, aged_ok, sent_ok}
use Rattle.bridge_rules.proofs.SoundTest.{RestsOk, Sound}

-- ── one slot set ───────────────────────────────────────────────────────────────────────────────────────────────────

pub slot_set_same : (s s' : Bridge) (k : ℕ) (y : Slot) → length s.slots ≡ 4 → s'.slots ≡ set s.slots k y → k < 4 → slot s' k ≡ y
unfolding slot
slot_set_same s s' k y f e l = rw e (get_or-set_same s.slots k y blank (omega arith))

pub slot_set_other : (s s' : Bridge) (k j : ℕ) (y : Slot) → s'.slots ≡ set s.slots k y → j ≢ k → slot s' j ≡ slot s j
unfolding slot
slot_set_other s s' k j y e d = rw e (get_or-set_other s.slots k j y blank d)

-- s' is s with slot k set to y, which keeps its ticket or gets a new one or none
pub record SlotSet (s s' : Bridge) (k : ℕ) (y : Slot) : Type 0 where
  pub bound : k < 4
  pub own : s'.own ≤ 15
  pub last : s'.last ≤ 3
  pub issued : s'.issued ≤ 4294967295
  pub more : s.issued ≤ s'.issued
  pub slots : s'.slots ≡ set s.slots k y
  pub rests : RestsOk s'.rests
  pub ok : SlotOk y
  pub given : y.ticket ≤ s'.issued
  pub apart : (j : ℕ) → j < 4 → j ≢ k → 0 < y.ticket → y.ticket ≢ (slot s j).ticket

pub set_sound : (s s' : Bridge) (k : ℕ) (y : Slot) → Sound s → SlotSet s s' k y → Sound s'
set_sound s s' k y h n = record {
  own = n.own;
  last = n.last;
  issued = n.issued;
  four = ap length n.slots ∙ length-set s.slots k y ∙ h.four;
  rests = n.rests;
  each = λ j m. each j m (ℕ_discrete j k);
  given = λ j m. given j m (ℕ_discrete j k);
  apart = λ i j m m' q. apart i j m m' q (ℕ_discrete i k) (ℕ_discrete j k);
}
  where
    same : slot s' k ≡ y
    same = slot_set_same s s' k y h.four n.slots n.bound

    other : (j : ℕ) → j ≢ k → slot s' j ≡ slot s j
    other j p = slot_set_other s s' k j y n.slots p

    each : (j : ℕ) → j < 4 → Dec (j ≡ k) → SlotOk (slot s' j)
    each j m (yes p) = rw (p, same) n.ok
    each j m (no p) = rw (other j p) (h.each j m)

    given : (j : ℕ) → j < 4 → Dec (j ≡ k) → (slot s' j).ticket ≤ s'.issued
    given j m (yes p) = rw (p, same) n.given
    given j m (no p) = rw (other j p) (omega (arith, h.given j m, n.more))

    apart : (i j : ℕ) → i < 4 → j < 4 → i ≢ j → Dec (i ≡ k) → Dec (j ≡ k) → 0 < (slot s' i).ticket → (slot s' i).ticket ≢ (slot s' j).ticket
    apart i j m m' q (yes p) (yes p') = absurd (q (p ∙ sym p'))
    apart i j m m' q (yes p) (no p') = rw (p, same, other j p') (n.apart j m' p')
    apart i j m m' q (no p) (yes p') = rw (p', same, other i p) (λ u v. n.apart i m p (rw v at u) (sym v))
    apart i j m m' q (no p) (no p') = rw (other i p, other j p') (h.apart i j m m' q)

-- tickets stay apart where a slot keeps its own
pub keeps_apart : (s : Bridge) (k : ℕ) (y : Slot) → Sound s → k < 4 → y.ticket ≡ (slot s k).ticket → (j : ℕ) → j < 4 → j ≢ k
    → 0 < y.ticket → y.ticket ≢ (slot s j).ticket
keeps_apart s k y h l e j m d p = rw e (h.apart k j l m (λ z. d (sym z)) (rw e at p))

-- ── every waiting read aged, and one slot served ───────────────────────────────────────────────────────────────────

pub slot_aged : (s : Bridge) (k : ℕ) → slot (aged_bridge s) k ≡ aged (slot s k)
unfolding slot aged_bridge aged
slot_aged s k = get_or-map aged s.slots k blank

pub same_rest : (s s' : Bridge) → s'.rests ≡ s.rests → (k : ℕ) → rest s' k ≡ rest s k
unfolding rest
same_rest s s' e k = ap (λ (l : List ℕ). get_or l k 0) e

-- a rest one turn on
pub rest_aged : (s : Bridge) (k : ℕ) → rest (aged_bridge s) k ≡ rest s k - 1
unfolding rest aged_bridge
rest_aged s k = get_or-map lowered s.rests k 0

pub aged_sound : (s : Bridge) → Sound s → Sound (aged_bridge s)
unfolding aged_bridge
aged_sound s h = record {
  own = h.own;
  last = h.last;
  issued = h.issued;
  four = length-map s.slots aged ∙ h.four;
  rests = (
    length-map s.rests lowered ∙ h.rests.0,
    λ k l. rw (get_or-map lowered s.rests k 0) (omega (arith, h.rests.1 k l)),
  );
  each = λ k l. rw (slot_aged s k) (aged_ok (slot s k) (h.each k l));
  given = λ k l. rw (slot_aged s k, (aged_same (slot s k)).ticket) (h.given k l);
  apart = λ k j l m d. rw (slot_aged s k, slot_aged s j, (aged_same (slot s k)).ticket, (aged_same (slot s j)).ticket) (h.apart k j l m d);
}

-- a slot that sent
sent_rests_lem : (l : List ℕ) (k : ℕ) (x : Slot) → k < 4 → RestsOk l → RestsOk (sent_rests l k x)
unfolding sent_rests
sent_rests_lem l k x b h = go (asks x.kind)
  where
    go : (q : Bool) → RestsOk (cond q (set l k rest_turns) l)
    go false = h
    go true = (length-set l k rest_turns ∙ h.0, λ j m. pick j m (ℕ_discrete j k))
      where
        pick : (j : ℕ) → j < 4 → Dec (j ≡ k) → get_or (set l k rest_turns) j 0 ≤ 60
        pick j m (yes p) = rw p (omega (arith, get_or-set_same l k rest_turns 0 (omega (arith, h.0))))
        pick j m (no p) = omega (arith, get_or-set_other l k j rest_turns 0 p, h.1 j m)

pub sent_rest : (s : Bridge) (b : Buffers) (k : ℕ) → k < 4 → Sound s → asks (slot s k).kind ≡ true
    → rest (send_for s b (some k)).state k ≡ rest_turns
unfolding rest send_for sent_rests
sent_rest s b k l h a = rw a (get_or-set_same s.rests k rest_turns 0 (omega (arith, h.rests.0)))

-- another slot, or one that sent CMD, keeps its rest
pub kept_rest : (s : Bridge) (b : Buffers) (k j : ℕ) → (j ≢ k) ⊎ (asks (slot s k).kind ≡ false)
    → rest (send_for s b (some k)).state j ≡ rest s j
unfolding rest send_for sent_rests
kept_rest s b k j (inr a) = rw a
kept_rest s b k j (inl d) = go (asks (slot s k).kind)
  where
    go : (q : Bool) → get_or (cond q (set s.rests k rest_turns) s.rests) j 0 ≡ get_or s.rests j 0
    go true = get_or-set_other s.rests k j rest_turns 0 d
    go false = refl

pub sends_sound : (s : Bridge) (b : Buffers) (k : ℕ) → Sound s → k < 4 → is_ready (slot s k).phase ≡ true → Sound (send_for s b (some k)).state
unfolding send_for
sends_sound s b k h l r = set_sound s _ k (sent_slot (slot s k)) h (record {
  bound = l;
  own = h.own;
  last = omega arith;
  issued = h.issued;
  more = omega arith;
  slots = refl;
  rests = sent_rests_lem s.rests k (slot s k) l h.rests;
  ok = sent_ok (slot s k) (ready_ok (slot s k) (h.each k l) r);
  given = omega (arith, (sent_same (slot s k)).ticket, h.given k l);
  apart = keeps_apart s k (sent_slot (slot s k)) h l (sent_same (slot s k)).ticket;
})

-- ── fresh and opened slots ─────────────────────────────────────────────────────────────────────────────────────────

pub fresh_slot : (o k : ℕ) → slot (fresh o) k ≡ blank
unfolding slot fresh
fresh_slot o zero = refl
fresh_slot o (suc zero) = refl
fresh_slot o (suc (suc zero)) = refl
fresh_slot o (suc (suc (suc zero))) = refl
fresh_slot o (suc (suc (suc (suc k)))) = refl

pub zeros_at : (k : ℕ) → ◌≡◌ {A = ℕ} (get_or (replicate 4 0) k 0) 0
zeros_at zero = refl
zeros_at (suc zero) = refl
zeros_at (suc (suc zero)) = refl
zeros_at (suc (suc (suc zero))) = refl
zeros_at (suc (suc (suc (suc k)))) = refl

pub fresh_rest : (o k : ℕ) → rest (fresh o) k ≡ 0
unfolding rest fresh
fresh_rest o k = zeros_at k

pub fresh_sound : (o : ℕ) → o ≤ 15 → Sound (fresh o)
unfolding fresh
fresh_sound o h = record {
  own = h;
  last = omega arith;
  issued = omega arith;
  four = refl;
  rests = (refl, λ k l. omega (arith, zeros_at k));
  each = λ k l. ok_free (fresh_slot o k);
  given = λ k l. none k;
  apart = λ k j l m d p. absurd (omega (arith, p, unheld k));
}
  where
    unheld : (k : ℕ) → (slot (fresh o) k).ticket ≡ 0
    unheld k = ticket_eq (fresh_slot o k)

    none : (k : ℕ) → (slot (fresh o) k).ticket ≤ 0
    none k = omega (arith, unheld k)

pub opened_ticket : (a : Ask) (t : ℕ) → (opened a t).ticket ≡ t
unfolding opened
opened_ticket a t = refl

pub opened_ok : (a : Ask) (t : ℕ) → LawfulAsk a → SlotOk (opened a (suc t))
unfolding opened
opened_ok a t l = ok_ready (record {
  phase = refl;
  held = record { kind = fits_known a (ask_kind a) (asked_fits a); ticket = omega arith; args = l };
  partway = record { chunk = 0; at = refl; below = l.some };
  sends = omega arith;
  unsent = λ z. refl;
  left = refl;
})

-- A sound slot as facts: a record for each phase, and what follows from it.
use Prim.Native.Nat.{ℕ, zero, suc, ◌*◌, ◌≤◌, ◌<◌}
use mathlib.Core.Path.{◌≡◌, sym, ◌∙◌, ap, subst}
use mathlib.Core.Logic.{◌⊎◌, inl, inr}
use mathlib.Core.Bool.{true, false, false≢true}
use native.Mathlib.Omega.{arith}
use lib.Dec.{eqb}
use borrow.Author.Tests.{eqb-true, eqb-false}
use Rattle.bridge_rules.specs.State.{Slot, free, ready, waiting, done, gave_up, different, blank, is_ready, is_waiting, is_free}
use Rattle.bridge_rules.specs.State.{asks, carries, checking, compares}
use Rattle.bridge_rules.proofs.KindTests.{KnownKind, one_kind, checking_carries, compares_asks}
use Rattle.bridge_rules.proofs.NumberLaws.{LawfulArgs}
use Rattle.bridge_rules.proofs.Search.{contradiction}

-- equal slots have equal parts
pub phase_eq : {x y : Slot} → x ≡ y → x.phase ≡ y.phase
phase_eq e = ap (λ (z : Slot). z.phase) e

pub progress_eq : {x y : Slot} → x ≡ y → x.progress ≡ y.progress
progress_eq e = ap (λ (z : Slot). z.progress) e

pub sends_eq : {x y : Slot} → x ≡ y → x.sends ≡ y.sends
sends_eq e = ap (λ (z : Slot). z.sends) e

pub left_eq : {x y : Slot} → x ≡ y → x.left ≡ y.left
left_eq e = ap (λ (z : Slot). z.left) e

pub ticket_eq : {x y : Slot} → x ≡ y → x.ticket ≡ y.ticket
ticket_eq e = ap (λ (z : Slot). z.ticket) e

pub kind_eq : {x y : Slot} → x ≡ y → x.kind ≡ y.kind
kind_eq e = ap (λ (z : Slot). z.kind) e

pub count_eq : {x y : Slot} → x ≡ y → x.count ≡ y.count
count_eq e = ap (λ (z : Slot). z.count) e

-- every held slot has one of the kinds, a ticket and lawful opening arguments
pub record HeldOk (x : Slot) : Type 0 where
  pub kind : KnownKind x.kind
  pub ticket : 0 < x.ticket
  pub args : LawfulArgs x.device x.table x.offset x.count

-- partway: progress is at the current chunk
pub record Partway (x : Slot) : Type 0 where
  pub chunk : ℕ
  pub at : x.progress ≡ 8 * chunk
  pub below : x.progress < x.count

pub record ReadyOk (x : Slot) : Type 0 where
  pub phase : x.phase ≡ ready
  pub held : HeldOk x
  pub partway : Partway x
  pub sends : x.sends ≤ 2
  pub unsent : carries x.kind ≡ true → x.sends ≡ 0
  pub left : x.left ≡ 0

pub record WaitOk (x : Slot) : Type 0 where
  pub phase : x.phase ≡ waiting
  pub held : HeldOk x
  pub partway : Partway x
  pub asking : asks x.kind ≡ true
  pub once : 0 < x.sends
  pub thrice : x.sends ≤ 3
  pub some : 0 < x.left
  pub few : x.left ≤ 20

pub record DoneOk (x : Slot) : Type 0 where
  pub phase : x.phase ≡ done
  pub held : HeldOk x
  pub not_checking : checking x.kind ≡ false
  pub whole : x.progress ≡ x.count
  pub sends : x.sends ≡ 0
  pub left : x.left ≡ 0

pub record GaveUpOk (x : Slot) : Type 0 where
  pub phase : x.phase ≡ gave_up
  pub held : HeldOk x
  pub partway : Partway x
  pub asking : asks x.kind ≡ true
  pub sends : x.sends ≡ 3
  pub left : x.left ≡ 0

pub record DifferentOk (x : Slot) : Type 0 where
  pub phase : x.phase ≡ different
  pub held : HeldOk x
  pub partway : Partway x
  pub comparing : compares x.kind ≡ true
  pub sends : x.sends ≡ 0
  pub left : x.left ≡ 0

pub data SlotOk (x : Slot) : Type 0 where
  ok_free : x ≡ blank → SlotOk x
  ok_ready : ReadyOk x → SlotOk x
  ok_waiting : WaitOk x → SlotOk x
  ok_done : DoneOk x → SlotOk x
  ok_gave_up : GaveUpOk x → SlotOk x
  ok_different : DifferentOk x → SlotOk x

-- ── by the phase ───────────────────────────────────────────────────────────────────────────────────────────────────

-- a slot has one phase only
pub other_phase : {A : Type 0} {p q s : ℕ} → p ≡ q → p ≡ s → eqb q s ≡ false → A
other_phase {A} {p} {q} {s} a b n = absurd (eqb-false q s n (sym a ∙ b))

abbrev OkIn : Slot → ℕ → Type 0
OkIn x zero = x ≡ blank
OkIn x (suc zero) = ReadyOk x
OkIn x (suc (suc zero)) = WaitOk x
OkIn x (suc (suc (suc zero))) = DoneOk x
OkIn x (suc (suc (suc (suc zero)))) = GaveUpOk x
OkIn x (suc (suc (suc (suc (suc zero))))) = DifferentOk x
OkIn x (suc (suc (suc (suc (suc (suc p)))))) = ⊥

ok_in : (x : Slot) → SlotOk x → (p : ℕ) → x.phase ≡ p → OkIn x p
ok_in x (ok_free e) p q = subst (OkIn x) (sym (phase_eq e) ∙ q) e
ok_in x (ok_ready r) p q = subst (OkIn x) (sym r.phase ∙ q) r
ok_in x (ok_waiting w) p q = subst (OkIn x) (sym w.phase ∙ q) w
ok_in x (ok_done d) p q = subst (OkIn x) (sym d.phase ∙ q) d
ok_in x (ok_gave_up g) p q = subst (OkIn x) (sym g.phase ∙ q) g
ok_in x (ok_different g) p q = subst (OkIn x) (sym g.phase ∙ q) g

pub free_ok : (x : Slot) → SlotOk x → is_free x.phase ≡ true → x ≡ blank
free_ok x k h = ok_in x k free (eqb-true x.phase free h)

pub ready_ok : (x : Slot) → SlotOk x → is_ready x.phase ≡ true → ReadyOk x
ready_ok x k h = ok_in x k ready (eqb-true x.phase ready h)

pub wait_ok : (x : Slot) → SlotOk x → is_waiting x.phase ≡ true → WaitOk x
wait_ok x k h = ok_in x k waiting (eqb-true x.phase waiting h)

pub done_ok : (x : Slot) → SlotOk x → x.phase ≡ done → DoneOk x
done_ok x k h = ok_in x k done h

pub gave_up_ok : (x : Slot) → SlotOk x → x.phase ≡ gave_up → GaveUpOk x
gave_up_ok x k h = ok_in x k gave_up h

pub different_ok : (x : Slot) → SlotOk x → x.phase ≡ different → DifferentOk x
different_ok x k h = ok_in x k different h

-- a checked write that still sends is ready
pub checking_ready : (x : Slot) → SlotOk x → checking x.kind ≡ true → ReadyOk x
unfolding checking
checking_ready x (ok_free e) c = absurd (false≢true (ap (λ (y : Slot). checking y.kind) (sym e) ∙ c))
checking_ready x (ok_ready r) c = r
checking_ready x (ok_waiting w) c = one_kind x.kind (checking_carries x.kind c) w.asking
checking_ready x (ok_done d) c = contradiction c d.not_checking
checking_ready x (ok_gave_up g) c = one_kind x.kind (checking_carries x.kind c) g.asking
checking_ready x (ok_different g) c = one_kind x.kind (checking_carries x.kind c) (compares_asks x.kind g.comparing)

-- ── free or held ───────────────────────────────────────────────────────────────────────────────────────────────────

free_or_held : (x : Slot) → SlotOk x → (x ≡ blank) ⊎ ((is_free x.phase ≡ false) × HeldOk x)
free_or_held x (ok_free e) = inl e
free_or_held x (ok_ready r) = inr (ap is_free r.phase, r.held)
free_or_held x (ok_waiting w) = inr (ap is_free w.phase, w.held)
free_or_held x (ok_done d) = inr (ap is_free d.phase, d.held)
free_or_held x (ok_gave_up g) = inr (ap is_free g.phase, g.held)
free_or_held x (ok_different g) = inr (ap is_free g.phase, g.held)

pub held_ok : (x : Slot) → SlotOk x → is_free x.phase ≡ false → HeldOk x
held_ok x k p = go (free_or_held x k)
  where
    go : (x ≡ blank) ⊎ ((is_free x.phase ≡ false) × HeldOk x) → HeldOk x
    go (inl e) = contradiction (ap (λ (y : Slot). is_free y.phase) e) p
    go (inr h) = h.1

-- free slots are those of ticket 0
pub no_ticket_lem : (x : Slot) → SlotOk x → is_free x.phase ≡ true → x.ticket ≡ 0
no_ticket_lem x k p = ticket_eq (free_ok x k p)

pub has_ticket : (x : Slot) → SlotOk x → is_free x.phase ≡ false → 0 < x.ticket
has_ticket x k p = (held_ok x k p).ticket

pub held_free : (x : Slot) → SlotOk x → 0 < x.ticket → is_free x.phase ≡ false
held_free x k p = go (free_or_held x k)
  where
    go : (x ≡ blank) ⊎ ((is_free x.phase ≡ false) × HeldOk x) → is_free x.phase ≡ false
    go (inl e) = absurd (omega (arith, p, ticket_eq e))
    go (inr h) = h.0

pub count_few : (x : Slot) → SlotOk x → x.count ≤ 128
count_few x k = go (free_or_held x k)
  where
    go : (x ≡ blank) ⊎ ((is_free x.phase ≡ false) × HeldOk x) → x.count ≤ 128
    go (inl e) = omega (arith, count_eq e)
    go (inr h) = h.1.args.few

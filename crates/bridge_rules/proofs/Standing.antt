-- A standing transfer keeps its slot, from its opening on, whatever the calls.
use Prim.Native.Nat.{ℕ, zero, suc, ◌≤◌, ◌<◌}
use mathlib.Core.Path.{◌≡◌, refl, sym, ◌∙◌, ap, subst}
use mathlib.Core.Logic.{inl, inr}
use mathlib.Core.Bool.{Bool, false, ◌&&◌}
use native.Mathlib.Omega.{arith}
use native.Mathlib.Decide.{ℕ_discrete}
use lib.ListN.{set}
use lib.Dec.{eqb}
use borrow.Author.Tests.{eq-eqb}
use Rattle.bridge_rules.specs.State.{Slot, slot, ready, done, is_free, givable}
use Rattle.bridge_rules.specs.Answers.{Result}
use Rattle.bridge_rules.specs.Opening.{ask_device, ask_table, ask_offset, ask_count, with_given, opened}
use Rattle.bridge_rules.specs.Call.{close}
use Rattle.bridge_rules.specs.Run.{Run, storage, state, buffers, answer, Lawful, Transfer, ticket, slot_of, Closing, Stands, ledger}
use Rattle.bridge_rules.proofs.NumberLaws.{LawfulAsk}
use Rattle.bridge_rules.proofs.Search.{contradiction, Lowest}
use Rattle.bridge_rules.proofs.SlotOk.{SlotOk, ok_free, ok_ready, ok_waiting, ok_done, ok_gave_up, ok_different}
use Rattle.bridge_rules.proofs.SlotOk.{held_free, no_ticket_lem, ticket_eq}
use Rattle.bridge_rules.proofs.KindTests.{KindFits, KindGoes, asked_fits, fits_goes}
use Rattle.bridge_rules.proofs.SlotChanges.{Same, Aging, aging}
use Rattle.bridge_rules.proofs.SoundStates.{slot_set_same}
use Rattle.bridge_rules.proofs.CallCases.{CallCase, nothing, opens, sends, idles, takes, disagrees, closes, resets, is_noted, other_call}
use Rattle.bridge_rules.proofs.SlotEffects.{keeps, opens_here, closes_here, resets_here, change_same, change_kind}
use Rattle.bridge_rules.proofs.SoundRuns.{storage_sound, case_at, ChangeAt, EffectAt, effect_at}
use Rattle.bridge_rules.proofs.LedgerAgrees.{agrees, lowest_agrees}

-- ── a transfer's opening ───────────────────────────────────────────────────────────────────────────────────────────

pub record Opened (r : Run) (x : Transfer r) : Type 0 where
  pub bound : slot_of r x < 4
  pub law : LawfulAsk x.ask
  pub ticketed : ticket r x ≡ suc (state r x.at).issued
  pub lowest : Lowest (givable (state r x.at)) (slot_of r x)
  pub slot : slot (state r (suc x.at)) (slot_of r x) ≡ opened x.ask (ticket r x)
  pub given : buffers r (suc x.at) ≡ with_given (buffers r x.at) (slot_of r x) x.ask

module _ (r : Run) (w : Lawful r) (x : Transfer r) where
  pub opened_at : Opened r x
  unfolding storage slot_of
  opened_at = go (case_at r w x.at)
    where
      go : CallCase (state r x.at) (buffers r x.at) (r.calls x.at) → Opened r x
      go (nothing u) = contradiction (ap (λ (b : Bool). b && eqb (answer r x.at).number 0) (ap is_noted x.call)
          ∙ eq-eqb (answer r x.at).number 0 x.accepted) u.unnoted
      go (opens u) =
          let same : u.ask ≡ x.ask = cc (u.call, x.call) in
          let kk : slot_of r x ≡ u.k
          = lowest_agrees (ledger r x.at) (state r x.at) u.k (storage_sound r w x.at).0 (agrees r w x.at) u.lowest in
          let tk : ticket r x ≡ suc (state r x.at).issued = ap (λ (v : Result). v.answer.ticket) u.result in
          let slots : (state r (suc x.at)).slots ≡ set (state r x.at).slots u.k (opened u.ask (suc (state r x.at).issued))
          = ap (λ (v : Result). v.state.slots) u.result in
          record {
            bound = rw kk u.lowest.bound;
            law = rw (← same) u.lawful;
            ticketed = tk;
            lowest = rw kk u.lowest;
            slot = rw (kk, tk, ← same) (slot_set_same (state r x.at) (state r (suc x.at)) u.k
                (opened u.ask (suc (state r x.at).issued)) (storage_sound r w x.at).0.four slots u.lowest.bound);
            given = rw (kk, ← same) (ap (λ (v : Result). v.buffers) u.result);
          }
      go (sends u) = other_call x.call u.call refl
      go (idles u) = other_call x.call u.call refl
      go (takes u) = other_call x.call u.call refl
      go (disagrees u) = other_call x.call u.call refl
      go (closes u) = other_call x.call u.call refl
      go (resets u) = other_call x.call u.call refl

-- ── a standing transfer keeps its slot ─────────────────────────────────────────────────────────────────────────────

-- the slot of a transfer after n calls
abbrev pub slot_at : (r : Run) → Transfer r → ℕ → Slot
slot_at r x n = slot (state r n) (slot_of r x)

-- what call n does to it while its transfer stands
abbrev pub ChangesSlot : (r : Run) → Transfer r → ℕ → Type 0
ChangesSlot r x n = ChangeAt r n (slot_of r x)

pub record Held (r : Run) (x : Transfer r) (n : ℕ) : Type 0 where
  pub ticket : (slot_at r x n).ticket ≡ ticket r x
  pub kind : KindFits x.ask (slot_at r x n).kind
  pub device : (slot_at r x n).device ≡ ask_device x.ask
  pub table : (slot_at r x n).table ≡ ask_table x.ask
  pub offset : (slot_at r x n).offset ≡ ask_offset x.ask
  pub count : (slot_at r x n).count ≡ ask_count x.ask

-- at event b its slot begins at the first chunk
pub record Begins (r : Run) (x : Transfer r) (b : ℕ) : Type 0 where
  pub since : x.at < b
  pub phase : (slot_at r x b).phase ≡ ready
  pub progress : (slot_at r x b).progress ≡ 0
  pub sends : (slot_at r x b).sends ≡ 0

module _ (r : Run) (w : Lawful r) (x : Transfer r) where
  pub stands_back : (m n : ℕ) → Stands r x n → x.at < m → m ≤ n → Stands r x m
  stands_back m n s l h = (l, λ k p q. s.1 k p (omega arith))

  pub stands_before : (n : ℕ) → Stands r x (suc n) → x.at < n → Stands r x n
  stands_before n s l = stands_back n (suc n) s l (omega arith)

  -- its slot is sound
  pub ok_at : (n : ℕ) → SlotOk (slot_at r x n)
  ok_at n = (storage_sound r w n).0.each (slot_of r x) (opened_at r w x).bound

  pub aging_at : (n : ℕ) → Aging (slot_at r x n)
  aging_at n = aging (slot_at r x n) (ok_at n)

  changes_held : (n : ℕ) → Stands r x (suc n) → x.at < n → Held r x n → ChangesSlot r x n
  changes_held n s l h = go (effect_at r w n (slot_of r x) (opened_at r w x).bound)
    where
      ends : ¬ Closing r x n
      ends = s.1 n l (omega arith)

      go : EffectAt r n (slot_of r x) → ChangesSlot r x n
      go (keeps u) = u
      go (opens_here u) = absurd (omega (arith, no_ticket_lem (slot_at r x n) (ok_at n) u.free, h.ticket, (opened_at r w x).ticketed))
      go (closes_here u) = absurd (ends (u.number, inl (u.call ∙ ap close (sym u.has ∙ h.ticket))))
      go (resets_here u) = absurd (ends (u.number, inr (u.o, u.call)))

  opened_held : Held r x (suc x.at)
  unfolding opened
  opened_held =
      let e : slot_at r x (suc x.at) ≡ opened x.ask (ticket r x) = (opened_at r w x).slot in
      record { ticket = rw e; kind = rw e (asked_fits x.ask); device = rw e; table = rw e; offset = rw e; count = rw e }

  held_next : (n : ℕ) → Held r x n → Same (slot_at r x n) (slot_at r x (suc n)) → KindGoes (slot_at r x n).kind (slot_at r x (suc n)).kind
      → Held r x (suc n)
  held_next n h e g = record {
    ticket = e.ticket ∙ h.ticket;
    kind = fits_goes x.ask (slot_at r x n).kind (slot_at r x (suc n)).kind h.kind g;
    device = e.device ∙ h.device;
    table = e.table ∙ h.table;
    offset = e.offset ∙ h.offset;
    count = e.count ∙ h.count;
  }

  pub held : (n : ℕ) → Stands r x n → Held r x n
  held zero s = absurd (omega (arith, s.0))
  held (suc n) s = go (held n) (ℕ_discrete x.at n)
    where
      go : (Stands r x n → Held r x n) → Dec (x.at ≡ n) → Held r x (suc n)
      go ih (yes p) = subst (λ (m : ℕ). Held r x (suc m)) p opened_held
      go ih (no p) =
          let l : x.at < n = omega (arith, s.0) in
          let h : Held r x n = ih (stands_before n s l) in
          let v : ChangesSlot r x n = changes_held n s l h in
          held_next n h (change_same v) (change_kind v)

  pub changes : (n : ℕ) → Stands r x (suc n) → x.at < n → ChangesSlot r x n
  changes n s l = changes_held n s l (held n (stands_before n s l))

  pub held_slot_lem : (n : ℕ) → Stands r x n → is_free (slot_at r x n).phase ≡ false
  held_slot_lem n s = held_free (slot_at r x n) (ok_at n) (omega (arith, (held n s).ticket, (opened_at r w x).ticketed))

  pub opened_stands : Stands r x (suc x.at)
  opened_stands = (omega arith, λ m p q. absurd (omega arith))

  -- a standing transfer that got to its count is done
  pub full_done : (n : ℕ) → Stands r x n → ask_count x.ask ≤ (slot_at r x n).progress → (slot_at r x n).phase ≡ done
  full_done n s full = go (ok_at n)
    where
      h : Held r x n
      h = held n s

      go : SlotOk (slot_at r x n) → (slot_at r x n).phase ≡ done
      go (ok_free q) = absurd (omega (arith, ticket_eq q, h.ticket, (opened_at r w x).ticketed))
      go (ok_ready u) = absurd (omega (arith, u.partway.below, h.count))
      go (ok_waiting u) = absurd (omega (arith, u.partway.below, h.count))
      go (ok_done u) = u.phase
      go (ok_gave_up u) = absurd (omega (arith, u.partway.below, h.count))
      go (ok_different u) = absurd (omega (arith, u.partway.below, h.count))

  -- induction over a standing transfer's events, from any event b on
  pub along_from : (b : ℕ) → x.at < b → (P : ℕ → Type 0) → P b
      → ((n : ℕ) → Stands r x (suc n) → b ≤ n → Held r x n → ChangesSlot r x n → P n → P (suc n)) → (n : ℕ) → b ≤ n → Stands r x n → P n
  along_from b at P base step zero l s = absurd (omega arith)
  along_from b at P base step (suc n) l s = go (along_from b at P base step n) (ℕ_discrete b (suc n))
    where
      go : (b ≤ n → Stands r x n → P n) → Dec (b ≡ suc n) → P (suc n)
      go ih (yes p) = subst P p base
      go ih (no p) =
          let l' : b ≤ n = omega arith in
          let s' : Stands r x n = stands_before n s (omega arith) in
          step n s l' (held n s') (changes n s (omega arith)) (ih l' s')

  -- the opening does
  pub begins_open : Begins r x (suc x.at)
  unfolding opened
  begins_open =
      let e : slot_at r x (suc x.at) ≡ opened x.ask (ticket r x) = (opened_at r w x).slot in
      record { since = omega arith; phase = rw e; progress = rw e; sends = rw e }

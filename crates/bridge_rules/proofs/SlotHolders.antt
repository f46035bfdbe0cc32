-- A slot is held exactly by a transfer that stands; so a ticket and a sent frame are a standing transfer's.
use Prim.Native.Nat.{ℕ, zero, suc, ◌<◌}
use mathlib.Core.Path.{◌≡◌, refl, sym, ◌∙◌, ap, subst}
use mathlib.Core.Logic.{◌⊎◌, inl, inr, ◌≢◌}
use mathlib.Core.Option.{none, some}
use mathlib.Core.Bool.{Bool, true, false, cond, not, ◌&&◌}
use native.Mathlib.Omega.{arith}
use native.Mathlib.Decide.{ℕ_discrete, dec_lt}
use lib.Dec.{ltb, eqb}
use borrow.Author.Tests.{eqb-true, not-true}
use Rattle.wire.specs.Order.{◌if◌else◌}
use Rattle.bridge_rules.specs.State.{Frame, Bridge, Slot, free, blank, slot, fresh, is_free, is_waiting, givable, lowest_givable, held_slot, sound}
use Rattle.bridge_rules.specs.Answers.{Buffers, Result}
use Rattle.bridge_rules.specs.Turn.{aged, sent_frame, aged_bridge, send_for}
use Rattle.bridge_rules.specs.Ending.{close_number, close_of, reset_of, reset_number}
use Rattle.bridge_rules.specs.Call.{Call, its_own, close, reset, step}
use Rattle.bridge_rules.specs.Run.{ledger, Run, storage, state, buffers, answer, Lawful, Transfer, ticket, slot_of, Closing, Stands, accepted, is_turn}
use Rattle.bridge_rules.specs.Demand3.{HeldAt}
use Rattle.bridge_rules.proofs.Search.{some_eq, none_some, cases, contradiction, Lowest, lowest_some, and-true, option_cases}
use Rattle.bridge_rules.proofs.SlotOk.{ReadyOk, ready_ok, held_free}
use Rattle.bridge_rules.proofs.SlotChanges.{aged_other, aged_same}
use Rattle.bridge_rules.proofs.SoundTest.{Sound, sound_true}
use Rattle.bridge_rules.proofs.SoundStates.{slot_set_same, slot_aged, aged_sound, fresh_slot}
use Rattle.bridge_rules.proofs.CallCases.{CallCase, nothing, opens, sends, idles, takes, disagrees, closes, resets, held_by_lem, givable_free, close_result}
use Rattle.bridge_rules.proofs.SlotEffects.{unchanged, ages, served, taken, disagreed, keeps, opens_here, closes_here, resets_here}
use Rattle.bridge_rules.proofs.SoundRuns.{storage_sound, case_at, EffectAt, effect_at}
use Rattle.bridge_rules.proofs.LedgerAgrees.{agrees, lowest_agrees}
use Rattle.bridge_rules.proofs.Standing.{held_slot_lem, opened_at, slot_at, held}
use Rattle.bridge_rules.proofs.Status.{held_by}

close_is : (s : Bridge) (b : Buffers) (t k : ℕ) → sound s ≡ true → held_slot s t ≡ some k → step s b (close t) ≡ close_result s b k
unfolding step close_of close_number ◌if◌else◌
close_is s b t k p q = rw (p, q)

reset_is : (s : Bridge) (b : Buffers) (o : ℕ) → (step s b (reset o)).answer.number ≡ 0 → (step s b (reset o)).state ≡ fresh o
unfolding step reset_of reset_number ◌if◌else◌
reset_is s b o e = go (ltb 15 o) e
  where
    go : (c : Bool) → (11 if c else 0) ≡ 0
        → cond (eqb (11 if c else 0) 0) (fresh o) s ≡ fresh o
    go true q = absurd (omega (arith, q))
    go false q = refl

module _ (r : Run) (w : Lawful r) where
  -- a transfer that ends leaves its slot free
  ended_frees : (x : Transfer r) (n : ℕ) → Stands r x n → Closing r x n → is_free (slot_at r x (suc n)).phase ≡ true
  unfolding storage
  ended_frees x n s (e, inl c) =
      let st : step (state r n) (buffers r n) (r.calls n) ≡ close_result (state r n) (buffers r n) (slot_of r x)
      = ap (step (state r n) (buffers r n)) c ∙ close_is (state r n) (buffers r n) (ticket r x) (slot_of r x)
      (sound_true (state r n) (storage_sound r w n).0) (held_by r w x n s) in
      ap (λ (y : Slot). is_free y.phase) (slot_set_same (state r n) (state r (suc n)) (slot_of r x) blank (storage_sound r w n).0.four
      (ap (λ (u : Result). u.state.slots) st) (opened_at r w x).bound)
  ended_frees x n s (e, inr (o, c)) =
      let st : state r (suc n) ≡ fresh o = ap (λ (d : Call). (step (state r n) (buffers r n) d).state) c
      ∙ reset_is (state r n) (buffers r n) o (sym (ap (λ (d : Call). (step (state r n) (buffers r n) d).answer.number) c) ∙ e) in
      ap (λ (y : Slot). is_free y.phase) (ap (λ (z : Bridge). slot z (slot_of r x)) st ∙ fresh_slot o (slot_of r x))

  goes_on : (n k : ℕ) → is_free (slot (state r (suc n)) k).phase ≡ false → HeldAt r k n → HeldAt r k (suc n)
  goes_on n k f (y, s, e) = (y, (omega (arith, s.0), λ m a b. stay m a b (ℕ_discrete m n)), e)
    where
      stay : (m : ℕ) → y.at < m → m < suc n → Dec (m ≡ n) → ¬ Closing r y m
      stay m a b (yes p) d = contradiction (ended_frees y n s (subst (Closing r y) p d))
          (subst (λ (i : ℕ). is_free (slot (state r (suc n)) i).phase ≡ false) (sym e) f)
      stay m a b (no p) d = s.1 m a (omega arith) d

  free_ages : (y : Slot) → is_free y.phase ≡ true → aged y ≡ y
  free_ages y e = aged_other y (ap is_waiting (eqb-true y.phase free e))

  pub occupied : (n k : ℕ) → k < 4 → is_free (slot (state r n) k).phase ≡ false → HeldAt r k n
  unfolding storage slot_of lowest_givable
  occupied zero k l f = contradiction (ap (λ (y : Slot). is_free y.phase) (fresh_slot r.own k)) f
  occupied (suc n) k l f = go (occupied n k l) (effect_at r w n k l) (cases (is_free (slot (state r n) k).phase))
    where
      -- it was not free before
      was_free_lem : slot (state r (suc n)) k ≡ slot (state r n) k → is_free (slot (state r n) k).phase ≡ true → HeldAt r k (suc n)
      was_free_lem e q = contradiction (ap (λ (y : Slot). is_free y.phase) e ∙ q) f

      -- a call that leaves it free
      freed : slot (state r (suc n)) k ≡ blank → HeldAt r k (suc n)
      freed e = contradiction (ap (λ (y : Slot). is_free y.phase) e) f

      go : (is_free (slot (state r n) k).phase ≡ false → HeldAt r k n) → EffectAt r n k
          → (is_free (slot (state r n) k).phase ≡ true) ⊎ (is_free (slot (state r n) k).phase ≡ false) → HeldAt r k (suc n)
      go ih e (inr q) = goes_on n k f (ih q)
      go ih (keeps (unchanged u)) (inl q) = was_free_lem u.after q
      go ih (keeps (ages u)) (inl q) = was_free_lem (u.after ∙ free_ages (slot (state r n) k) q) q
      go ih (keeps (served u)) (inl q) = contradiction q
          (ap (λ (y : Slot). is_free y.phase) (sym (free_ages (slot (state r n) k) q)) ∙ ap is_free u.ready.phase)
      go ih (keeps (taken u)) (inl q) = contradiction q (ap is_free u.waits.phase)
      go ih (keeps (disagreed u)) (inl q) = contradiction q (ap is_free u.waits.phase)
      go ih (opens_here u) (inl q) = (
        record { at = n; lent = its_own; ask = u.ask; call = u.call; accepted = u.number },
        (omega arith, λ t a b. absurd (omega arith)),
        lowest_agrees (ledger r n) (state r n) k (storage_sound r w n).0 (agrees r w n) (lowest_some (givable (state r n)) k u.found),
      )
      go ih (closes_here u) (inl q) = freed u.after
      go ih (resets_here u) (inl q) = freed u.after

  -- no transfer that stood at an opening had the slot that it takes
  pub apart : (x y : Transfer r) → Stands r y x.at → slot_of r y ≢ slot_of r x
  apart x y s e = contradiction (givable_free (state r x.at) (slot_of r x) (opened_at r w x).lowest.passes)
      (subst (λ (k : ℕ). is_free (slot (state r x.at) k).phase ≡ false) e (held_slot_lem r w y x.at s))

  -- two transfers that stand at once in one slot were opened by one call
  pub same_slot : (x y : Transfer r) (n : ℕ) → Stands r x n → Stands r y n → slot_of r x ≡ slot_of r y → x.at ≡ y.at
  same_slot x y n s t e = go (dec_lt x.at y.at) (dec_lt y.at x.at)
    where
      before : (a b : Transfer r) → a.at < b.at → Stands r a n → Stands r b n → slot_of r a ≡ slot_of r b → ⊥
      before a b l sa sb q = apart b a (l, λ m u v. sa.1 m u (omega (arith, sb.0))) q

      go : Dec (x.at < y.at) → Dec (y.at < x.at) → x.at ≡ y.at
      go (yes p) q = absurd (before x y p s t e)
      go (no p) (yes q) = absurd (before y x q t s (sym e))
      go (no p) (no q) = omega arith

  -- two that stand at once have different tickets
  pub alone : (x y : Transfer r) (n : ℕ) → Stands r x n → Stands r y n → ticket r y ≡ ticket r x → y.at ≡ x.at
  alone x y n s t e = same_slot y x n t s (slots (ℕ_discrete (slot_of r y) (slot_of r x)))
    where
      h : Sound (state r n)
      h = (storage_sound r w n).0

      slots : Dec (slot_of r y ≡ slot_of r x) → slot_of r y ≡ slot_of r x
      slots (yes p) = p
      slots (no p) = absurd (h.apart (slot_of r y) (slot_of r x) (opened_at r w y).bound (opened_at r w x).bound p
          (omega (arith, (held r w y n t).ticket, (opened_at r w y).ticketed)) ((held r w y n t).ticket ∙ e ∙ sym (held r w x n s).ticket))

  -- a slot's ticket is a standing transfer's
  pub has_holder : (n t k : ℕ) → held_slot (state r n) t ≡ some k → (x : Transfer r) × Stands r x n × (ticket r x ≡ t)
  unfolding held_slot
  has_holder n t k z =
      let l : Lowest (held_by_lem (state r n) t) k = lowest_some (held_by_lem (state r n) t) k z in
      let p = and-true (not (is_free (slot (state r n) k).phase)) (eqb (slot (state r n) k).ticket t) l.passes in
      let o : HeldAt r k n = occupied n k l.bound (not-true _ p.0) in (
        o.0,
        o.1,
        sym (held r w o.0 n o.1).ticket ∙ ap (λ (i : ℕ). (slot (state r n) i).ticket) o.2 ∙ eqb-true _ t p.1,
      )

  -- a ticket that no standing transfer has is no slot's
  pub no_holder : (n t : ℕ) → ((x : Transfer r) → Stands r x n → ticket r x ≢ t) → held_slot (state r n) t ≡ none
  no_holder n t u = go (option_cases (held_slot (state r n) t))
    where
      go : (held_slot (state r n) t ≡ none) ⊎ ((k : ℕ) × (held_slot (state r n) t ≡ some k)) → held_slot (state r n) t ≡ none
      go (inl z) = z
      go (inr (k, z)) = let h = has_holder n t k z in absurd (u h.0 h.1 h.2)

  -- so a ticket that is some slot's is a standing transfer's
  pub known_holder : (n t : ℕ) → held_slot (state r n) t ≢ none → (x : Transfer r) × Stands r x n × (ticket r x ≡ t)
  known_holder n t u = go (option_cases (held_slot (state r n) t))
    where
      go : (held_slot (state r n) t ≡ none) ⊎ ((k : ℕ) × (held_slot (state r n) t ≡ some k))
          → (x : Transfer r) × Stands r x n × (ticket r x ≡ t)
      go (inl z) = absurd (u z)
      go (inr (k, z)) = has_holder n t k z

  -- a frame that a turn yields is sent for a standing transfer
  pub record Sender (j : ℕ) (f : Frame) : Type 0 where
    pub y : Transfer r
    pub stands : Stands r y j
    pub ready : ReadyOk (aged (slot_at r y j))
    pub served : (state r (suc j)).last ≡ slot_of r y
    pub is : f ≡ sent_frame (state r j).own (slot_of r y) (aged (slot_at r y j)) (buffers r j)

  pub sender : (j : ℕ) (f : Frame) → accepted r j ≡ true → (answer r j).sent ≡ some f → Sender j f
  unfolding storage accepted send_for aged_bridge
  sender j f a q = go (case_at r w j)
    where
      not_turn : {d : Call} → r.calls j ≡ d → is_turn d ≡ false → Sender j f
      not_turn {d} e p = contradiction a (ap (λ (b : Bool). b && eqb (answer r j).number 0) (ap is_turn e ∙ p))

      go : CallCase (state r j) (buffers r j) (r.calls j) → Sender j f
      go (nothing u) = none_some (sym u.silent ∙ q)
      go (opens u) = not_turn u.call refl
      go (sends u) = from_slot (occupied j u.k bound full)
        where
          bound : u.k < 4
          bound = omega (arith, u.found.is)

          ready : ReadyOk (aged (slot (state r j) u.k))
          ready = rw (slot_aged (state r j) u.k) at (ready_ok (slot (aged_bridge (state r j)) u.k)
              ((aged_sound (state r j) (storage_sound r w j).0).each u.k bound) u.found.passes)

          full : is_free (slot (state r j) u.k).phase ≡ false
          full = held_free (slot (state r j) u.k) ((storage_sound r w j).0.each u.k bound)
              (omega (arith, ready.held.ticket, (aged_same (slot (state r j) u.k)).ticket))

          sent : f ≡ sent_frame (state r j).own u.k (aged (slot (state r j) u.k)) (buffers r j)
          sent = some_eq (sym q ∙ ap (λ (v : Result). v.answer.sent) u.result)
              ∙ ap (λ (x : Slot). sent_frame (state r j).own u.k x (buffers r j)) (slot_aged (state r j) u.k)

          from_slot : HeldAt r u.k j → Sender j f
          from_slot (y, t, i) = record {
            y = y;
            stands = t;
            ready = rw (← i) at ready;
            served = ap (λ (v : Result). v.state.last) u.result ∙ sym i;
            is = rw (← i) at sent;
          }
      go (idles u) = none_some (sym (ap (λ (v : Result). v.answer.sent) u.result) ∙ q)
      go (takes u) = not_turn u.call refl
      go (disagrees u) = not_turn u.call refl
      go (closes u) = not_turn u.call refl
      go (resets u) = not_turn u.call refl

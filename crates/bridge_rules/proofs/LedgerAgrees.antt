-- The ledger says what the state holds: its own number, last ticket and slots are the state's.
use Prim.Native.Nat.{ℕ, zero, suc, ◌-◌, ◌<◌}
use mathlib.Core.Path.{◌≡◌, refl, sym, ◌∙◌, ap, subst}
use mathlib.Core.Logic.{◌⊎◌, inl, inr, ◌≢◌}
use mathlib.Core.List.{List, [], ◌∷◌, map}
use mathlib.Core.Option.{Option, none, some}
use mathlib.Core.Bool.{Bool, true, false, cond, not, ◌&&◌}
use native.Mathlib.Omega.{arith}
use native.Mathlib.Decide.{ℕ_discrete, dec_lt}
use lib.ListN.{length, get_or, set, replicate, length-set, length-map}
use lib.Seq.{get_or-set_same, get_or-set_other}
use lib.Dec.{ltb, eqb}
use borrow.Author.Tests.{ne_eqb, eq-eqb, lt-ltb, le-ltb}
use Rattle.bus_rules.specs.Frames.{req}
use Rattle.bridge_rules.specs.State.{Frame, Bridge, Slot, asks, carries, blank, slot, with_slots, rest, givable, fresh}
use Rattle.bridge_rules.specs.Answers.{Answer, Buffers, Result, plain}
use Rattle.bridge_rules.specs.Opening.{opened}
use Rattle.bridge_rules.specs.Turn.{aged_bridge, sent_frame, send_for}
use Rattle.bridge_rules.specs.Call.{Call, its_own, opening, turn, frame, status, bytes, close, reset, step}
use Rattle.bridge_rules.specs.Run.{Run, storage, state, buffers, answer, Lawful, Ledger, new_ledger, first_givable, noted, ledger}
use Rattle.bridge_rules.specs.Run.{Entry, no_entry, resting, givable_entry, ticketed, freed, later, turn_later, just_asked, change_at, noted_send}
use Rattle.bridge_rules.proofs.KindTests.{carries_only}
use Rattle.bridge_rules.proofs.Search.{cases, contradiction, Lowest}
use Rattle.bridge_rules.proofs.SlotOk.{ReadyOk, ready_ok, no_ticket_lem, has_ticket, ticket_eq}
use Rattle.bridge_rules.proofs.SoundTest.{Sound}
use Rattle.bridge_rules.proofs.SoundStates.{slot_set_same, slot_set_other, fresh_slot, opened_ticket, aged_sound, same_rest, rest_aged}
use Rattle.bridge_rules.proofs.SoundStates.{sent_rest, kept_rest, fresh_rest}
use Rattle.bridge_rules.proofs.RequestSlots.{asked_kind, asked_slot, carried_kind}
use Rattle.bridge_rules.proofs.CallCases.{CallCase, nothing, opens, sends, idles, takes, disagrees, closes, resets, free_at, is_noted, is_holding}
use Rattle.bridge_rules.proofs.CallCases.{open_result, close_result}
use Rattle.bridge_rules.proofs.SlotEffects.{keeps, opens_here, closes_here, resets_here, change_same}
use Rattle.bridge_rules.proofs.SoundRuns.{storage_sound, case_at, EffectAt, effect_at}

-- ── entries ────────────────────────────────────────────────────────────────────────────────────────────────────────

abbrev entry : List Entry → ℕ → Entry
entry l k = get_or l k no_entry

-- the first that an opening may take
first_givable_lem : (l : List Entry) (k : ℕ) → k < length l → givable_entry (entry l k) ≡ true
    → ((e : ℕ) → e < k → givable_entry (entry l e) ≡ false) → first_givable l ≡ k
unfolding first_givable
first_givable_lem [] k h e f = absurd (omega arith)
first_givable_lem (t ∷ ts) zero h e f = rw e
first_givable_lem (t ∷ ts) (suc k) h e f =
    rw (f 0 (omega arith)) (ap suc (first_givable_lem ts k (omega arith) e (λ i l. f (suc i) (omega arith))))

mapped_at : (g : Entry → Entry) (l : List Entry) (k : ℕ) → k < length l → entry (map g l) k ≡ g (entry l k)
mapped_at g [] k h = absurd (omega arith)
mapped_at g (e ∷ es) zero h = refl
mapped_at g (e ∷ es) (suc k) h = mapped_at g es k (omega arith)

changed_same : (l : List Entry) (k : ℕ) (g : Entry → Entry) → k < length l → entry (change_at l k g) k ≡ g (entry l k)
changed_same l k g h = get_or-set_same l k (g (entry l k)) no_entry h

changed_other : (l : List Entry) (k j : ℕ) (g : Entry → Entry) → j ≢ k → entry (change_at l k g) j ≡ entry l j
changed_other l k j g d = get_or-set_other l k j (g (entry l k)) no_entry d

-- the turns left to rest, so long after a request
abbrev rest_of : Option ℕ → ℕ
rest_of none = 0
rest_of (some n) = 60 - n

rest_later : (o : Option ℕ) → rest_of (later o) ≡ rest_of o - 1
rest_later none = refl
rest_later (some n) = omega arith

rested_zero : (o : Option ℕ) → not (resting o) ≡ eqb (rest_of o) 0
rested_zero none = refl
rested_zero (some n) = go (dec_lt n 60)
  where
    go : Dec (n < 60) → not (ltb n 60) ≡ eqb (60 - n) 0
    go (yes p) = rw (lt-ltb n 60 p, ne_eqb (60 - n) 0 (λ z. omega arith))
    go (no p) = rw (le-ltb n 60 (omega arith)) (sym (eq-eqb (60 - n) 0 (omega arith)))

-- the ledger's own number, last ticket, slots and rests are the state's
pub record Agrees (g : Ledger) (s : Bridge) : Type 0 where
  pub own : g.own ≡ s.own
  pub issued : g.issued ≡ s.issued
  pub four : length g.entries ≡ 4
  pub each : (k : ℕ) → k < 4 → (entry g.entries k).ticket ≡ (slot s k).ticket
  pub rests : (k : ℕ) → k < 4 → rest s k ≡ rest_of (entry g.entries k).turns_since

noted_same : (g : Ledger) (t : Answer) (c : Call) → is_noted c ≡ false → noted g t c ≡ g
noted_same g t (opening l a) e = contradiction refl e
noted_same g t (turn l) e = contradiction refl e
noted_same g t (frame l f) e = refl
noted_same g t (status u) e = refl
noted_same g t (bytes l u) e = refl
noted_same g t (close u) e = contradiction refl e
noted_same g t (reset o) e = contradiction refl e

none_at : (k : ℕ) → entry (replicate 4 no_entry) k ≡ no_entry
none_at zero = refl
none_at (suc zero) = refl
none_at (suc (suc zero)) = refl
none_at (suc (suc (suc zero))) = refl
none_at (suc (suc (suc (suc k)))) = refl

fresh_agrees : (o : ℕ) → Agrees (new_ledger o) (fresh o)
unfolding fresh
fresh_agrees o = record {
  own = refl;
  issued = refl;
  four = refl;
  each = λ k l. ap (λ (e : Entry). e.ticket) (none_at k) ∙ sym (ticket_eq (fresh_slot o k));
  rests = λ k l. fresh_rest o k ∙ sym (ap (λ (e : Entry). rest_of e.turns_since) (none_at k));
}

-- a slot that an opening may take, by the ledger
givable_agrees : (g : Ledger) (s : Bridge) (k : ℕ) → Sound s → Agrees g s → k < 4 → givable_entry (entry g.entries k) ≡ givable s k
givable_agrees g s k h a l = rw (a.each k l, a.rests k l, rested_zero (entry g.entries k).turns_since, free (cases (free_at s k)))
  where
    free : (free_at s k ≡ true) ⊎ (free_at s k ≡ false) → eqb (slot s k).ticket 0 ≡ free_at s k
    free (inl e) = rw e (eq-eqb (slot s k).ticket 0 (no_ticket_lem (slot s k) (h.each k l) e))
    free (inr e) = rw e (ne_eqb (slot s k).ticket 0 (λ z. omega (arith, has_ticket (slot s k) (h.each k l) e, z)))

-- the lowest of them
pub lowest_agrees : (g : Ledger) (s : Bridge) (k : ℕ) → Sound s → Agrees g s → Lowest (givable s) k → first_givable g.entries ≡ k
lowest_agrees g s k h a w =
    first_givable_lem g.entries k (omega (arith, a.four, w.bound)) (givable_agrees g s k h a w.bound ∙ w.passes)
    (λ e l. givable_agrees g s e h a (omega (arith, w.bound)) ∙ w.below e l)

-- ── turns ──────────────────────────────────────────────────────────────────────────────────────────────────────────

abbrev entries : Ledger → Option Frame → List Entry
entries g f = noted_send f (map turn_later g.entries)

later_at : (g : Ledger) (s : Bridge) → Agrees g s → (k : ℕ) → k < 4 → entry (map turn_later g.entries) k ≡ turn_later (entry g.entries k)
later_at g s a k l = mapped_at turn_later g.entries k (omega (arith, a.four))

-- every rest goes down by one
later_rest : (g : Ledger) (s : Bridge) → Agrees g s → (k : ℕ) → k < 4
    → rest (aged_bridge s) k ≡ rest_of (entry (map turn_later g.entries) k).turns_since
later_rest g s a k l = rest_aged s k ∙ ap (λ (n : ℕ). n - 1) (a.rests k l) ∙ sym (rest_later (entry g.entries k).turns_since)
    ∙ ap (λ (e : Entry). rest_of e.turns_since) (sym (later_at g s a k l))

-- what a turn that yields `sent` makes of the ledger's slots: each keeps its ticket, and s' has its rests
record TurnNoted (g : Ledger) (s s' : Bridge) (sent : Option Frame) : Type 0 where
  four : length (entries g sent) ≡ 4
  each : (k : ℕ) → k < 4 → (entry (entries g sent) k).ticket ≡ (entry g.entries k).ticket
  rests : (k : ℕ) → k < 4 → rest s' k ≡ rest_of (entry (entries g sent) k).turns_since

module _ (g : Ledger) (s : Bridge) (b : Buffers) (a : Agrees g s) where
  -- nothing sent, or a CMD
  plainly : (s' : Bridge) (sent : Option Frame) → entries g sent ≡ map turn_later g.entries
      → ((k : ℕ) → k < 4 → rest s' k ≡ rest (aged_bridge s) k) → TurnNoted g s s' sent
  plainly s' sent e h = record {
    four = rw e (length-map g.entries turn_later ∙ a.four);
    each = λ k l. rw e (ap (λ (x : Entry). x.ticket) (later_at g s a k l));
    rests = λ k l. rw e (h k l ∙ later_rest g s a k l);
  }

  -- what a turn that finds slot o ready hands back
  abbrev SendNoted : Option ℕ → Type 0
  SendNoted o = TurnNoted g s (send_for (aged_bridge s) b o).state (send_for (aged_bridge s) b o).answer.sent

  idle_noted : SendNoted none
  unfolding send_for
  idle_noted = plainly (aged_bridge s) none refl (λ k l. refl)

  module _ (h : Sound s) (k : ℕ) (l : k < 4) (y : ReadyOk (slot (aged_bridge s) k)) where
    abbrev yielded : Frame
    yielded = sent_frame (aged_bridge s).own k (slot (aged_bridge s) k) b

    abbrev after : Bridge
    after = (send_for (aged_bridge s) b (some k)).state

    abbrev es : List Entry
    es = map turn_later g.entries

    asked_noted : asks (slot (aged_bridge s) k).kind ≡ true → TurnNoted g s after (some yielded)
    asked_noted u = record {
      four = rw is (length-set es k (just_asked (entry es k)) ∙ length-map g.entries turn_later ∙ a.four);
      each = λ j m. rw is (ticket j m (ℕ_discrete j k) ∙ ap (λ (x : Entry). x.ticket) (later_at g s a j m));
      rests = λ j m. rw is (since j m (ℕ_discrete j k));
    }
      where
        is : entries g (some yielded) ≡ change_at es k just_asked
        is = rw (
          eq-eqb _ req (asked_kind (aged_bridge s).own k (slot (aged_bridge s) k) b y (aged_sound s h).own u),
          asked_slot (aged_bridge s).own k (slot (aged_bridge s) k) b y (aged_sound s h).own u,
        )

        here : entry (change_at es k just_asked) k ≡ just_asked (entry es k)
        here = changed_same es k just_asked (omega (arith, length-map g.entries turn_later, a.four))

        ticket : (j : ℕ) → j < 4 → Dec (j ≡ k) → (entry (change_at es k just_asked) j).ticket ≡ (entry es j).ticket
        ticket j m (yes p) = rw p (ap (λ (x : Entry). x.ticket) here)
        ticket j m (no p) = ap (λ (x : Entry). x.ticket) (changed_other es k j just_asked p)

        since : (j : ℕ) → j < 4 → Dec (j ≡ k) → rest after j ≡ rest_of (entry (change_at es k just_asked) j).turns_since
        since j m (yes p) = rw p (sent_rest (aged_bridge s) b k l (aged_sound s h) u ∙ sym (ap (λ (x : Entry). rest_of x.turns_since) here))
        since j m (no p) = kept_rest (aged_bridge s) b k j (inl p) ∙ later_rest g s a j m
            ∙ sym (ap (λ (x : Entry). rest_of x.turns_since) (changed_other es k j just_asked p))

    carried_noted : carries (slot (aged_bridge s) k).kind ≡ true → TurnNoted g s after (some yielded)
    carried_noted u = plainly after (some yielded)
        (rw (carried_kind (aged_bridge s).own k (slot (aged_bridge s) k) b y (aged_sound s h).own u))
        (λ j m. kept_rest (aged_bridge s) b k j (inr (carries_only (slot (aged_bridge s) k).kind u)))

    sent_noted : SendNoted (some k)
    unfolding send_for
    sent_noted = go y.held.kind
      where
        go : (carries (slot (aged_bridge s) k).kind ≡ true) ⊎ (asks (slot (aged_bridge s) k).kind ≡ true) → SendNoted (some k)
        go (inl u) = carried_noted u
        go (inr u) = asked_noted u

-- ── every call ─────────────────────────────────────────────────────────────────────────────────────────────────────

-- a send keeps the own number and the tickets
send_keeps : (s : Bridge) (b : Buffers) (o : Option ℕ)
    → ((send_for s b o).state.own ≡ s.own) × ((send_for s b o).state.issued ≡ s.issued) × ((send_for s b o).answer.number ≡ 0)
unfolding send_for
send_keeps s b none = (refl, refl, refl)
send_keeps s b (some k) = (refl, refl, refl)

aging_keeps : (s : Bridge) → ((aged_bridge s).own ≡ s.own) × ((aged_bridge s).issued ≡ s.issued)
unfolding aged_bridge
aging_keeps s = (refl, refl)

module _ (r : Run) (w : Lawful r) where
  -- a call that takes or frees no slot keeps every slot's ticket
  same_tickets : (n k : ℕ) → k < 4 → is_holding (r.calls n) ≡ false → (slot (state r (suc n)) k).ticket ≡ (slot (state r n) k).ticket
  same_tickets n k l u = go (effect_at r w n k l)
    where
      go : EffectAt r n k → (slot (state r (suc n)) k).ticket ≡ (slot (state r n) k).ticket
      go (keeps e) = (change_same e).ticket
      go (opens_here e) = contradiction (ap is_holding e.call) u
      go (closes_here e) = contradiction (ap is_holding e.call) u
      go (resets_here e) = contradiction (ap is_holding e.call) u

  unnoted : (n : ℕ) → is_noted (r.calls n) ≡ false → ledger r (suc n) ≡ ledger r n
  unfolding ledger
  unnoted n u = go (eqb (answer r n).number 0)
    where
      go : (b : Bool) → cond b (noted (ledger r n) (answer r n) (r.calls n)) (ledger r n) ≡ ledger r n
      go true = noted_same (ledger r n) (answer r n) (r.calls n) u
      go false = refl

  refused_same : (n : ℕ) → eqb (answer r n).number 0 ≡ false → ledger r (suc n) ≡ ledger r n
  unfolding ledger
  refused_same n e = rw e

  noted_is : (n : ℕ) (y : Answer) (c : Call) → y.number ≡ 0 → answer r n ≡ y → r.calls n ≡ c
      → ledger r (suc n) ≡ noted (ledger r n) y c
  unfolding ledger
  noted_is n y c e f g = rw (f, eq-eqb y.number 0 e, g)

  agrees_step : (n : ℕ) → Agrees (ledger r n) (state r n) → Agrees (ledger r (suc n)) (state r (suc n))
  unfolding storage
  agrees_step n a = go (case_at r w n)
    where
      h : Sound (state r n)
      h = (storage_sound r w n).0

      answer_is : {u : Result} → step (state r n) (buffers r n) (r.calls n) ≡ u → answer r n ≡ u.answer
      answer_is z = ap (λ (u : Result). u.answer) z

      to : {g : Ledger} {u : Result} → step (state r n) (buffers r n) (r.calls n) ≡ u → Agrees g u.state → Agrees g (state r (suc n))
      to {g} z b = subst (Agrees g) (sym (ap (λ (u : Result). u.state) z)) b

      -- a frame
      moves : (f : Frame) (slots : List Slot) (b : Buffers) → r.calls n ≡ frame its_own f → step (state r n) (buffers r n) (r.calls n)
          ≡ record { answer = plain 0; state = with_slots (state r n) slots; buffers = b } →
          Agrees (ledger r (suc n)) (state r (suc n))
      moves f slots b u z = rw (unnoted n (ap is_noted u)) (record {
        own = a.own ∙ sym (ap (λ (v : Result). v.state.own) z);
        issued = a.issued ∙ sym (ap (λ (v : Result). v.state.issued) z);
        four = a.four;
        each = λ k l. a.each k l ∙ sym (same_tickets n k l (ap is_holding u));
        rests = λ k l. same_rest (state r n) _ (ap (λ (v : Result). v.state.rests) z) k ∙ a.rests k l;
      })

      -- a turn
      turned : (o : Option ℕ) → r.calls n ≡ turn its_own
          → (z : step (state r n) (buffers r n) (r.calls n) ≡ send_for (aged_bridge (state r n)) (buffers r n) o)
          → SendNoted (ledger r n) (state r n) (buffers r n) a o
          → Agrees (ledger r (suc n)) (state r (suc n))
      turned o e z t =
          let k = send_keeps (aged_bridge (state r n)) (buffers r n) o in
          let g = aging_keeps (state r n) in
          rw (noted_is n (send_for (aged_bridge (state r n)) (buffers r n) o).answer (turn its_own) k.2 (answer_is z) e) (record {
            own = a.own ∙ sym (ap (λ (u : Result). u.state.own) z ∙ k.0 ∙ g.0);
            issued = a.issued ∙ sym (ap (λ (u : Result). u.state.issued) z ∙ k.1 ∙ g.1);
            four = t.four;
            each = λ j m. t.each j m ∙ a.each j m ∙ sym (same_tickets n j m (ap is_holding e));
            rests = λ j m. ap (λ (u : Result). rest u.state j) z ∙ t.rests j m;
          })

      go : CallCase (state r n) (buffers r n) (r.calls n) → Agrees (ledger r (suc n)) (state r (suc n))
      go (nothing u) = subst (Agrees (ledger r (suc n))) (sym u.state) (rw (same (cases (is_noted (r.calls n)))) a)
        where
          same : (is_noted (r.calls n) ≡ true) ⊎ (is_noted (r.calls n) ≡ false) → ledger r (suc n) ≡ ledger r n
          same (inl v) = refused_same n (ap (λ (b : Bool). b && eqb (answer r n).number 0) (sym v) ∙ u.unnoted)
          same (inr v) = unnoted n v
      go (opens u) =
          rw (noted_is n (open_result (state r n) (buffers r n) u.ask u.k).answer (opening its_own u.ask) refl
          (answer_is u.result) u.call) (to u.result (record {
            own = a.own;
            issued = refl;
            four = length-set es (first_givable es) _ ∙ a.four;
            each = each;
            rests = λ j m. same_rest (state r n) s' refl j ∙ a.rests j m ∙ sym (rw kk (since j m (ℕ_discrete j u.k)));
          }))
        where
          es : List Entry
          es = (ledger r n).entries

          kk : first_givable es ≡ u.k
          kk = lowest_agrees (ledger r n) (state r n) u.k h a u.lowest

          s' : Bridge
          s' = (open_result (state r n) (buffers r n) u.ask u.k).state

          new : Slot
          new = opened u.ask (suc (state r n).issued)

          new_entry : Entry → Entry
          new_entry = ticketed (suc (state r n).issued)

          here : entry (change_at es u.k new_entry) u.k ≡ new_entry (entry es u.k)
          here = changed_same es u.k new_entry (omega (arith, a.four, u.lowest.bound))

          since : (j : ℕ) → j < 4 → Dec (j ≡ u.k) → rest_of (entry (change_at es u.k new_entry) j).turns_since ≡ rest_of (entry es j).turns_since
          since j m (yes p) = rw p (ap (λ (e : Entry). rest_of e.turns_since) here)
          since j m (no p) = ap (λ (e : Entry). rest_of e.turns_since) (changed_other es u.k j new_entry p)

          each : (j : ℕ) → j < 4 → (entry (change_at es (first_givable es) new_entry) j).ticket ≡ (slot s' j).ticket
          each j m = rw kk (pick (ℕ_discrete j u.k))
            where
              pick : Dec (j ≡ u.k) → (entry (change_at es u.k new_entry) j).ticket ≡ (slot s' j).ticket
              pick (yes p) =
                  rw p (ap (λ (e : Entry). e.ticket) here
                  ∙ sym (ticket_eq (slot_set_same (state r n) s' u.k new h.four refl u.lowest.bound)
                  ∙ opened_ticket u.ask (suc (state r n).issued)))
              pick (no p) = ap (λ (e : Entry). e.ticket) (changed_other es u.k j new_entry p) ∙ a.each j m
                  ∙ sym (ticket_eq (slot_set_other (state r n) s' u.k j new refl p))
      go (sends u) = turned (some u.k) u.call u.result
          (sent_noted (ledger r n) (state r n) (buffers r n) a h u.k bound (ready_ok _ ((aged_sound (state r n) h).each u.k bound) u.found.passes))
        where
          bound : u.k < 4
          bound = omega (arith, u.found.is)
      go (idles u) = turned none u.call u.result (idle_noted (ledger r n) (state r n) (buffers r n) a)
      go (takes u) = moves u.f _ _ u.call u.result
      go (disagrees u) = moves u.f _ _ u.call u.result
      go (closes u) =
          rw (noted_is n (plain 0) (close u.t) refl (answer_is u.result) u.call) (to u.result (record {
            own = a.own;
            issued = a.issued;
            four = length-map (ledger r n).entries (freed u.t) ∙ a.four;
            each = λ j m. ap (λ (e : Entry). e.ticket) (freed_at j m) ∙ rw (a.each j m) (pick j m (ℕ_discrete j u.k));
            rests = λ j m. same_rest (state r n) s' refl j ∙ a.rests j m ∙ sym (ap (λ (e : Entry). rest_of e.turns_since) (freed_at j m));
          }))
        where
          freed_at : (j : ℕ) → j < 4 → entry (map (freed u.t) (ledger r n).entries) j ≡ freed u.t (entry (ledger r n).entries j)
          freed_at j m = mapped_at (freed u.t) (ledger r n).entries j (omega (arith, a.four))

          s' : Bridge
          s' = (close_result (state r n) (buffers r n) u.k).state

          pick : (j : ℕ) → j < 4 → Dec (j ≡ u.k) → cond (eqb (slot (state r n) j).ticket u.t) 0 (slot (state r n) j).ticket
              ≡ (slot s' j).ticket
          pick j m (yes p) = rw (p, eq-eqb (slot (state r n) u.k).ticket u.t u.ticket)
              (sym (ticket_eq (slot_set_same (state r n) s' u.k blank h.four refl u.bound)))
          pick j m (no p) =
              let d : (slot (state r n) j).ticket ≢ u.t = λ v. h.apart u.k j u.bound m (λ i. p (sym i))
              (has_ticket (slot (state r n) u.k) (h.each u.k u.bound) u.held) (u.ticket ∙ sym v) in
              rw (ne_eqb (slot (state r n) j).ticket u.t d) (sym (ticket_eq
              (slot_set_other (state r n) s' u.k j blank refl p)))
      go (resets u) = rw (noted_is n (plain 0) (reset u.o) refl (answer_is u.result) u.call) (to u.result (fresh_agrees u.o))

  pub agrees : (n : ℕ) → Agrees (ledger r n) (state r n)
  unfolding storage ledger
  agrees zero = fresh_agrees r.own
  agrees (suc n) = agrees_step n (agrees n)

  pub own_is : (n : ℕ) → (ledger r n).own ≡ (state r n).own
  own_is n = (agrees n).own

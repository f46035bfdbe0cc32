-- A slot's turns left to rest are 60 less the turns since its last request since the last reset: an opening takes the lowest slot that is
-- neither held nor resting, and a transfer whose request is answered in time is the one that awaits the answer.
use Prim.Native.Nat.{ℕ, zero, suc, ◌+◌, ◌-◌, ◌≤◌, ◌<◌}
use mathlib.Core.Path.{◌≡◌, refl, sym, ◌∙◌, ap, subst}
use mathlib.Core.Logic.{◌⊎◌, inl, inr, ◌≢◌}
use mathlib.Core.Option.{Option, none, some}
use mathlib.Core.Bool.{Bool, true, false, ◌&&◌}
use native.Mathlib.Omega.{arith}
use native.Mathlib.Decide.{ℕ_discrete, dec_lt}
use lib.Dec.{eqb}
use borrow.Author.Tests.{eq-eqb}
use Rattle.bridge_rules.specs.State.{Frame, Bridge, Slot, asks, carries, slot, rest, givable, rest_turns}
use Rattle.bridge_rules.specs.Answers.{Result}
use Rattle.bridge_rules.specs.Turn.{aged, aged_bridge, send_for, sent_frame}
use Rattle.bridge_rules.specs.Call.{Call, its_own, turn}
use Rattle.bridge_rules.specs.Run.{Run, storage, state, buffers, answer, Lawful, Transfer, slot_of, Resetting, Stands, is_turn, accepted, turns}
use Rattle.bridge_rules.specs.Replies.{Sent, Resting}
use Rattle.bridge_rules.specs.Demand3.{HeldAt, Places}
use Rattle.bridge_rules.proofs.KindTests.{carries_only, asks_not_write}
use Rattle.bridge_rules.proofs.Search.{none_some, cases, contradiction, and-true, Lowest}
use Rattle.bridge_rules.proofs.SlotOk.{ReadyOk, ready_ok}
use Rattle.bridge_rules.proofs.SlotChanges.{Same, aged_same, aged_kind}
use Rattle.bridge_rules.proofs.SoundTest.{Sound}
use Rattle.bridge_rules.proofs.SoundStates.{slot_aged, aged_sound, same_rest, rest_aged, sent_rest, kept_rest, fresh_rest}
use Rattle.bridge_rules.proofs.CallCases.{CallCase, nothing, opens, sends, idles, takes, disagrees, closes, resets, SendsSlot}
use Rattle.bridge_rules.proofs.CallCases.{free_at, is_noted, other_call, givable_free, givable_rested, free_resting}
use Rattle.bridge_rules.proofs.SoundRuns.{storage_sound, case_at}
use Rattle.bridge_rules.proofs.Standing.{opened_at, slot_at, Held, held, held_slot_lem}
use Rattle.bridge_rules.proofs.SentRequests.{sends_own, sends_request}
use Rattle.bridge_rules.proofs.TurnCounts.{turns_same, turns_more, turns_none, turns_mono}
use Rattle.bridge_rules.proofs.SlotHolders.{occupied, apart, Sender, sender}

module _ (r : Run) (w : Lawful r) where
  -- a REQ that a turn yields is sent for the transfer that it served
  pub sender_sent : (j : ℕ) (f : Frame) → accepted r j ≡ true → (answer r j).sent ≡ some f → (sd : Sender r w j f)
      → asks (aged (slot_at r sd.y j)).kind ≡ true → Sent r sd.y sd.ready.partway.chunk j
  sender_sent j f a e sd u = record {
    stands = sd.stands;
    asks = asks_not_write y.ask (slot_at r y j).kind h.kind (sym (ap asks (aged_kind (slot_at r y j))) ∙ u);
    chunk = omega (arith, k.partway.at, k.partway.below, sa.count, h.count);
    turned = a;
    yields = e ∙ ap some (sd.is ∙ sends_request r w y k.partway.chunk j (aged (slot_at r y j)) u k.partway.at
        (sa.device ∙ h.device) (sa.table ∙ h.table) (sa.offset ∙ h.offset) (sa.count ∙ h.count));
  }
    where
      y : Transfer r
      y = sd.y

      k : ReadyOk (aged (slot_at r y j))
      k = sd.ready

      h : Held r y j
      h = held r w y j sd.stands

      sa : Same (slot_at r y j) (aged (slot_at r y j))
      sa = aged_same (slot_at r y j)

  -- ── what event n does to slot k's rest ───────────────────────────────────────────────────────────────────────────

  abbrev rest_at : ℕ → ℕ → ℕ
  rest_at n k = rest (state r n) k

  -- event n is the request of a transfer in slot k
  record Asked (n k : ℕ) : Type 0 where
    y : Transfer r
    its : slot_of r y ≡ k
    c : ℕ
    sent : Sent r y c n

  turn_no_reset : (n : ℕ) → accepted r n ≡ true → ¬ Resetting r n
  unfolding accepted
  turn_no_reset n a (z, (o, c)) = contradiction (and-true _ _ a).0 (ap is_turn c)

  data RestChange (n k : ℕ) : Type 0 where
    keeps_rest : accepted r n ≡ false → ¬ Resetting r n → rest_at (suc n) k ≡ rest_at n k → RestChange n k
    lowers_rest : accepted r n ≡ true → rest_at (suc n) k ≡ rest_at n k - 1 → ¬ Asked n k → RestChange n k
    starts_rest : accepted r n ≡ true → rest_at (suc n) k ≡ rest_turns → Asked n k → RestChange n k
    clears_rest : accepted r n ≡ false → rest_at (suc n) k ≡ 0 → Resetting r n → RestChange n k

  -- a turn that sends for slot i
  module _ (n k : ℕ) (l : k < 4) (u : SendsSlot (state r n) (buffers r n) (r.calls n)) (a : accepted r n ≡ true) where
    h : Sound (state r n)
    h = (storage_sound r w n).0

    i : ℕ
    i = u.k

    bound : i < 4
    unfolding i
    bound = omega (arith, u.found.is)

    x : Slot
    x = slot (aged_bridge (state r n)) i

    ready : ReadyOk x
    unfolding i x
    ready = ready_ok x ((aged_sound (state r n) h).each i bound) u.found.passes

    after : (j : ℕ) → rest_at (suc n) j ≡ rest (send_for (aged_bridge (state r n)) (buffers r n) (some i)).state j
    unfolding storage i
    after j = ap (λ (v : Result). rest v.state j) u.result

    yields : (answer r n).sent ≡ some (sent_frame (state r n).own i x (buffers r n))
    unfolding send_for aged_bridge i x
    yields = ap (λ (v : Result). v.answer.sent) u.result

    -- it asks for the transfer that holds it, and for no other
    own_slot : (y : Transfer r) (c : ℕ) → Sent r y c n → (i ≡ slot_of r y) × (asks x.kind ≡ true)
    own_slot y c s = let o = sends_own r w y c n s.chunk i x ready (sym yields ∙ s.yields) bound in (o.0, o.2)

    kept : (k ≢ i) ⊎ (asks x.kind ≡ false) → rest_at (suc n) k ≡ rest_at n k - 1
    unfolding x
    kept e = after k ∙ kept_rest (aged_bridge (state r n)) (buffers r n) i k e ∙ rest_aged (state r n) k

    asked : k ≡ i → asks x.kind ≡ true → Asked n k
    unfolding x i storage send_for
    asked p q =
        let sd : Sender r w n (sent_frame (state r n).own i x (buffers r n)) = sender r w n _ a yields in
        let same : i ≡ slot_of r sd.y = sym (ap (λ (v : Result). v.state.last) u.result) ∙ sd.served in
        record {
          y = sd.y;
          its = sym same ∙ sym p;
          c = sd.ready.partway.chunk;
          sent = sender_sent n _ a yields sd (rw (← same) (ap (λ (z : Slot). asks z.kind) (sym (slot_aged (state r n) i)) ∙ q));
        }

    sends_rest : RestChange n k
    unfolding x
    sends_rest = go (ℕ_discrete k i) (cases (asks x.kind))
      where
        go : Dec (k ≡ i) → (asks x.kind ≡ true) ⊎ (asks x.kind ≡ false) → RestChange n k
        go (no p) q = lowers_rest a (kept (inl p)) (λ s. p (sym ((own_slot s.y s.c s.sent).0 ∙ s.its)))
        go (yes p) (inr q) = lowers_rest a (kept (inr q)) (λ s. contradiction (own_slot s.y s.c s.sent).1 q)
        go (yes p) (inl q) = starts_rest a
            (rw p (after i ∙ sent_rest (aged_bridge (state r n)) (buffers r n) i bound (aged_sound (state r n) h) q)) (asked p q)

  rest_change : (n k : ℕ) → k < 4 → RestChange n k
  unfolding storage accepted send_for aged_bridge
  rest_change n k l = go (case_at r w n)
    where
      -- a call that keeps the rests
      keeps : is_turn (r.calls n) ≡ false → ¬ Resetting r n → (state r (suc n)).rests ≡ (state r n).rests → RestChange n k
      keeps t z p = keeps_rest (ap (λ (b : Bool). b && eqb (answer r n).number 0) t) z (same_rest (state r n) (state r (suc n)) p k)

      turned : r.calls n ≡ turn its_own → (answer r n).number ≡ 0 → accepted r n ≡ true
      turned e z = ap (λ (b : Bool). b && eqb (answer r n).number 0) (ap is_turn e) ∙ eq-eqb _ 0 z

      go : CallCase (state r n) (buffers r n) (r.calls n) → RestChange n k
      go (nothing u) = keeps_rest u.no_turn
          (λ z. contradiction (ap (λ (b : Bool). b && eqb (answer r n).number 0) (ap is_noted z.1.1) ∙ eq-eqb _ 0 z.0) u.unnoted)
          (ap (λ (b : Bridge). rest b k) u.state)
      go (opens u) = keeps (ap is_turn u.call) (λ z. other_call u.call z.1.1 refl) (ap (λ (v : Result). v.state.rests) u.result)
      go (sends u) = sends_rest n k l u (turned u.call (ap (λ (v : Result). v.answer.number) u.result))
      go (idles u) = lowers_rest (turned u.call (ap (λ (v : Result). v.answer.number) u.result))
          (ap (λ (v : Result). rest v.state k) u.result ∙ rest_aged (state r n) k)
          (λ s. none_some (sym (ap (λ (v : Result). v.answer.sent) u.result) ∙ s.sent.yields))
      go (takes u) = keeps (ap is_turn u.call) (λ z. other_call u.call z.1.1 refl) (ap (λ (v : Result). v.state.rests) u.result)
      go (disagrees u) = keeps (ap is_turn u.call) (λ z. other_call u.call z.1.1 refl) (ap (λ (v : Result). v.state.rests) u.result)
      go (closes u) = keeps (ap is_turn u.call) (λ z. other_call u.call z.1.1 refl) (ap (λ (v : Result). v.state.rests) u.result)
      go (resets u) = clears_rest (rw u.call) (ap (λ (v : Result). rest v.state k) u.result ∙ fresh_rest u.o k)
          (ap (λ (v : Result). v.answer.number) u.result, (u.o, u.call))

  -- ── a rest that is not over ──────────────────────────────────────────────────────────────────────────────────────

  -- a reset between events j and n
  abbrev pub ResetBetween : ℕ → ℕ → Type 0
  ResetBetween j n = (q : ℕ) × (j < q) × (q < n) × Resetting r q

  -- a request's slot rests until 60 turns have followed, or a reset
  pub rests_on : (n k : ℕ) → k < 4 → (y : Transfer r) (c j : ℕ) → slot_of r y ≡ k → Sent r y c j → j < n
      → (60 ≤ rest_at n k + turns r j n) ⊎ ResetBetween j n
  rests_on zero k l y c j e s b = absurd (omega arith)
  rests_on (suc n) k l y c j e s b = go (rests_on n k l y c j e s) (ℕ_discrete j n) (rest_change n k l)
    where
      sent_now : j ≡ n → Sent r y c n
      sent_now p = subst (Sent r y c) p s

      go : (j < n → (60 ≤ rest_at n k + turns r j n) ⊎ ResetBetween j n) → Dec (j ≡ n) → RestChange n k
          → (60 ≤ rest_at (suc n) k + turns r j (suc n)) ⊎ ResetBetween j (suc n)
      go ih d (starts_rest a p q) = inl (omega (arith, p))
      go ih (yes p) (keeps_rest a z q) = contradiction (sent_now p).turned a
      go ih (yes p) (lowers_rest a q d) = absurd (d (record { y = y; its = e; c = c; sent = sent_now p }))
      go ih (yes p) (clears_rest a q z) = contradiction (sent_now p).turned a
      go ih (no p) (keeps_rest a z q) = later (ih (omega arith))
        where
          later : (60 ≤ rest_at n k + turns r j n) ⊎ ResetBetween j n → (60 ≤ rest_at (suc n) k + turns r j (suc n)) ⊎ ResetBetween j (suc n)
          later (inl m) = inl (omega (arith, m, q, turns_same r j n a))
          later (inr (t, x, z, v)) = inr (t, x, omega arith, v)
      go ih (no p) (lowers_rest a q d) = later (ih (omega arith))
        where
          later : (60 ≤ rest_at n k + turns r j n) ⊎ ResetBetween j n → (60 ≤ rest_at (suc n) k + turns r j (suc n)) ⊎ ResetBetween j (suc n)
          later (inl m) = inl (omega (arith, m, q, turns_more r j n a (omega arith)))
          later (inr (t, x, z, v)) = inr (t, x, omega arith, v)
      go ih (no p) (clears_rest a q z) = inr (n, omega arith, omega arith, z)

  -- ── a rest has its request ───────────────────────────────────────────────────────────────────────────────────────

  -- the request, with so many turns since
  record Exactly (n k : ℕ) : Type 0 where
    resting : Resting r k n
    exact : rest_at n k + turns r resting.j n ≡ 60

  exactly : (n k : ℕ) → k < 4 → 0 < rest_at n k → Exactly n k
  unfolding storage
  exactly zero k l p = absurd (omega (arith, p, fresh_rest r.own k))
  exactly (suc n) k l p = go (exactly n k l) (rest_change n k l)
    where
      -- the same request, one event on
      on : (e : Exactly n k) → ¬ Resetting r n → rest_at (suc n) k + turns r e.resting.j (suc n) ≡ 60 → Exactly (suc n) k
      on e nr q = record {
        resting = record {
          y = g.y;
          its = g.its;
          c = g.c;
          j = g.j;
          sent = g.sent;
          before = omega (arith, g.before);
          soon = omega (arith, p, q);
          kept = λ t a b. kept t a b (ℕ_discrete t n);
        };
        exact = q;
      }
        where
          g : Resting r k n
          g = e.resting

          kept : (t : ℕ) → g.j < t → t < suc n → Dec (t ≡ n) → ¬ Resetting r t
          kept t a b (yes z) = rw z nr
          kept t a b (no z) = g.kept t a (omega arith)

      go : (0 < rest_at n k → Exactly n k) → RestChange n k → Exactly (suc n) k
      go ih (keeps_rest a z q) =
          let e : Exactly n k = ih (omega (arith, p, q)) in
          on e z (omega (arith, e.exact, q, turns_same r e.resting.j n a))
      go ih (lowers_rest a q d) =
          let e : Exactly n k = ih (omega (arith, p, q)) in
          on e (turn_no_reset n a) (omega (arith, e.exact, p, q, turns_more r e.resting.j n a e.resting.before))
      go ih (starts_rest a q s) = record {
        resting = record {
          y = s.y;
          its = s.its;
          c = s.c;
          j = n;
          sent = s.sent;
          before = omega arith;
          soon = omega (arith, turns_none r n (suc n) (omega arith));
          kept = λ t u v. absurd (omega arith);
        };
        exact = omega (arith, q, turns_none r n (suc n) (omega arith));
      }
      go ih (clears_rest a q z) = absurd (omega (arith, p, q))

  -- ── a slot rests exactly where its rest is not 0 ─────────────────────────────────────────────────────────────────

  rests_resting : (n k : ℕ) → k < 4 → rest_at n k ≢ 0 → Resting r k n
  rests_resting n k l d = (exactly n k l (omega arith)).resting

  resting_rests : (n k : ℕ) → k < 4 → Resting r k n → rest_at n k ≢ 0
  resting_rests n k l g z = go (rests_on n k l g.y g.c g.j g.its g.sent g.before)
    where
      go : (60 ≤ rest_at n k + turns r g.j n) ⊎ ResetBetween g.j n → ⊥
      go (inl m) = omega (arith, m, z, g.soon)
      go (inr (q, a, b, s)) = g.kept q a b s

  -- a slot that an opening may not take is held or rests, and the other way round
  pub not_given_lem : (n k : ℕ) → k < 4 → givable (state r n) k ≡ false → HeldAt r k n ⊎ Resting r k n
  not_given_lem n k l e = go (cases (free_at (state r n) k))
    where
      go : (free_at (state r n) k ≡ true) ⊎ (free_at (state r n) k ≡ false) → HeldAt r k n ⊎ Resting r k n
      go (inl f) = inr (rests_resting n k l (free_resting (state r n) k e f))
      go (inr f) = inl (occupied r w n k l f)

  pub kept_back : (n k : ℕ) → k < 4 → HeldAt r k n ⊎ Resting r k n → givable (state r n) k ≡ false
  kept_back n k l (inl (x, s, e)) = rw e at (ap (λ (b : Bool). b && eqb (rest (state r n) (slot_of r x)) 0) (held_slot_lem r w x n s))
  kept_back n k l (inr g) = go (cases (givable (state r n) k))
    where
      go : (givable (state r n) k ≡ true) ⊎ (givable (state r n) k ≡ false) → givable (state r n) k ≡ false
      go (inl e) = absurd (resting_rests n k l g (givable_rested (state r n) k e))
      go (inr e) = e

  pub places : (x : Transfer r) → Places r x
  places x = record {
    bound = (opened_at r w x).bound;
    unheld = λ (y, s, e). apart r w x y s e;
    rested = λ g. resting_rests x.at (slot_of r x) (opened_at r w x).bound g (givable_rested (state r x.at) (slot_of r x) lw.passes);
    lowest = λ k l. not_given_lem x.at k (omega (arith, lw.bound)) (lw.below k l);
  }
    where
      lw : Lowest (givable (state r x.at)) (slot_of r x)
      lw = (opened_at r w x).lowest

  -- a request of the slot before the transfer took it: 60 turns have followed, or a reset
  pub before_opening : (x y : Transfer r) (c j : ℕ) → Sent r y c j → slot_of r y ≡ slot_of r x → j < x.at
      → (60 ≤ turns r j x.at) ⊎ ResetBetween j x.at
  before_opening x y c j s e b = go (rests_on x.at (slot_of r x) (opened_at r w x).bound y c j e s b)
    where
      rested : rest_at x.at (slot_of r x) ≡ 0
      rested = givable_rested (state r x.at) (slot_of r x) (opened_at r w x).lowest.passes

      go : (60 ≤ rest_at x.at (slot_of r x) + turns r j x.at) ⊎ ResetBetween j x.at
          → (60 ≤ turns r j x.at) ⊎ ResetBetween j x.at
      go (inl m) = inl (omega (arith, m, rested))
      go (inr q) = inr q

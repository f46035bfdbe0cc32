-- What has ended stays so; progress and sends grow. From a send on, while no reply comes:
-- the slot waits for twenty turns, and has given up after the third time.
use Prim.Native.Nat.{ℕ, suc, ◌+◌, ◌*◌, ◌≤◌, ◌<◌, min}
use mathlib.Core.Path.{◌≡◌, refl, sym, ◌∙◌, ap}
use mathlib.Core.Logic.{inl, inr, ◌≢◌}
use mathlib.Core.Bool.{true, false}
use lib.Dec.{eqb}
use native.Mathlib.Omega.{arith}
use native.Mathlib.Decide.{dec_lt}
use Rattle.bridge_rules.specs.State.{ready, waiting, gave_up, different, is_waiting, asks}
use Rattle.bridge_rules.specs.Turn.{aged}
use Rattle.bridge_rules.specs.Run.{Run, Lawful, Transfer, slot_of, Stands, turns}
use Rattle.bridge_rules.specs.Replies.{Sent, Matches}
use Rattle.bridge_rules.proofs.Search.{none_some, contradiction}
use Rattle.bridge_rules.proofs.SlotOk.{wait_ok, other_phase, kind_eq, left_eq, phase_eq, progress_eq, sends_eq}
use Rattle.bridge_rules.proofs.SlotChanges.{aged_kind, aged_progress, aged_sends, Aging, unaged, waits_on, ready_again, gives_up, Requested, sent_read}
use Rattle.bridge_rules.proofs.SlotChanges.{advanced_kind, advanced_progress, differed_is}
use Rattle.bridge_rules.proofs.SlotEffects.{unchanged, ages, served, taken, disagreed}
use Rattle.bridge_rules.proofs.TurnCounts.{turns_same, turns_more, turns_none, turns_step}
use Rattle.bridge_rules.proofs.SoundRuns.{UnservedAt}
use Rattle.bridge_rules.proofs.Standing.{ok_at, aging_at, opened_at, slot_at, ChangesSlot, changes, Held, held, along_from, stands_before, stands_back}
use Rattle.bridge_rules.proofs.Matching.{matches_true, awaited_matches}
use Rattle.bridge_rules.proofs.SentRequests.{sends_own}

module _ (r : Run) (w : Lawful r) (x : Transfer r) where
  -- ── what has ended stays so ──────────────────────────────────────────────────────────────────────────────────────

  -- aging leaves alone what does not wait
  unaged_ended : (n p : ℕ) → eqb waiting p ≡ false → (slot_at r x n).phase ≡ p → aged (slot_at r x n) ≡ slot_at r x n
  unaged_ended n p d e = go (aging_at r w x n)
    where
      go : Aging (slot_at r x n) → aged (slot_at r x n) ≡ slot_at r x n
      go (unaged q z) = q
      go (waits_on a) = other_phase a.was.phase e d
      go (ready_again a) = other_phase a.was.phase e d
      go (gives_up a) = other_phase a.was.phase e d

  -- a phase other than ready and waiting
  pub stays : (n p : ℕ) → eqb waiting p ≡ false → eqb ready p ≡ false → ChangesSlot r x n → (slot_at r x n).phase ≡ p
      → (slot_at r x (suc n)).phase ≡ p
  stays n p d f (unchanged v) e = phase_eq v.after ∙ e
  stays n p d f (ages v) e = phase_eq (v.after ∙ unaged_ended n p d e) ∙ e
  stays n p d f (served v) e = other_phase v.ready.phase (phase_eq (unaged_ended n p d e) ∙ e) f
  stays n p d f (taken v) e = other_phase v.waits.phase e d
  stays n p d f (disagreed v) e = other_phase v.waits.phase e d

  pub different_on : (m n : ℕ) → x.at < m → m ≤ n → Stands r x n → (slot_at r x m).phase ≡ different → (slot_at r x n).phase ≡ different
  different_on m n at l s e =
      along_from r w x m at (λ k. (slot_at r x k).phase ≡ different) e (λ k s l h v. stays k different refl refl v) n l s

  -- ── progress and sends only grow ─────────────────────────────────────────────────────────────────────────────────

  -- one step of a slot that asks: it asks on, progress grows, and sends grow while progress stays, but for a difference
  pub record Grows (m n : ℕ) : Type 0 where
    pub asking : asks (slot_at r x n).kind ≡ true
    pub progress : (slot_at r x m).progress ≤ (slot_at r x n).progress
    pub sends : (slot_at r x n).phase ≢ different → (slot_at r x m).progress ≡ (slot_at r x n).progress → (slot_at r x m).sends ≤ (slot_at r x n).sends

  grows : (n : ℕ) → ChangesSlot r x n → asks (slot_at r x n).kind ≡ true → Grows n (suc n)
  grows n (unchanged v) p = record {
    asking = ap asks (kind_eq v.after) ∙ p;
    progress = omega (arith, progress_eq v.after);
    sends = λ d q. omega (arith, sends_eq v.after);
  }
  grows n (ages v) p = record {
    asking = ap asks (kind_eq v.after ∙ aged_kind (slot_at r x n)) ∙ p;
    progress = omega (arith, progress_eq v.after, aged_progress (slot_at r x n));
    sends = λ d q. omega (arith, sends_eq v.after, aged_sends (slot_at r x n));
  }
  grows n (served v) p =
      let a : asks (aged (slot_at r x n)).kind ≡ true = ap asks (aged_kind (slot_at r x n)) ∙ p in
      let s : Requested (aged (slot_at r x n)) = sent_read (aged (slot_at r x n)) a in
      record {
        asking = ap asks (kind_eq v.after ∙ s.kind) ∙ a;
        progress = omega (arith, progress_eq v.after, s.progress, aged_progress (slot_at r x n));
        sends = λ d q. omega (arith, sends_eq v.after, s.sends, aged_sends (slot_at r x n));
      }
  grows n (taken v) p =
      let z : (slot_at r x (suc n)).progress ≡ min ((slot_at r x n).progress + 8) (slot_at r x n).count = progress_eq v.after
      ∙ advanced_progress (slot_at r x n) in
      record {
        asking = ap asks (kind_eq v.after ∙ advanced_kind (slot_at r x n)) ∙ p;
        progress = omega (arith, z, v.waits.partway.below);
        sends = λ d q. absurd (omega (arith, q, z, v.waits.partway.below));
      }
  grows n (disagreed v) p =
      let d = differed_is (slot_at r x n) in
      record {
        asking = ap asks (kind_eq v.after ∙ d.kind) ∙ p;
        progress = omega (arith, progress_eq v.after, d.progress);
        sends = λ u q. absurd (u (phase_eq v.after ∙ d.phase));
      }

  -- so it does from any event on at which the slot asks
  pub grown : (m n : ℕ) → x.at < m → asks (slot_at r x m).kind ≡ true → m ≤ n → Stands r x n → Grows m n
  grown m n at a = along_from r w x m at (Grows m) base step n
    where
      base : Grows m m
      base = record { asking = a; progress = omega arith; sends = λ d q. omega arith }

      step : (n : ℕ) → Stands r x (suc n) → m ≤ n → Held r x n → ChangesSlot r x n → Grows m n → Grows m (suc n)
      step n s l h v g =
          let k : Grows n (suc n) = grows n v g.asking in
          record {
            asking = k.asking;
            progress = omega (arith, k.progress, g.progress);
            sends = λ d q.
                let e : (slot_at r x m).progress ≡ (slot_at r x n).progress = omega (arith, q, k.progress, g.progress) in
                omega (arith, g.sends (λ z. d (stays n different refl refl v z)) e, k.sends d (sym e ∙ q));
          }

  -- a slot that waits asks
  pub waits_asks : (n : ℕ) → (slot_at r x n).phase ≡ waiting → asks (slot_at r x n).kind ≡ true
  waits_asks n e = (wait_ok (slot_at r x n) (ok_at r w x n) (ap is_waiting e)).asking

  -- ── a send, and what follows it ──────────────────────────────────────────────────────────────────────────────────

  -- a send leaves the slot waiting at that chunk, with twenty turns left and one send more
  pub record JustSent (c j : ℕ) : Type 0 where
    pub phase : (slot_at r x (suc j)).phase ≡ waiting
    pub progress : (slot_at r x (suc j)).progress ≡ 8 * c
    pub left : (slot_at r x (suc j)).left ≡ 20
    pub sends : (slot_at r x (suc j)).sends ≡ suc (slot_at r x j).sends
    pub before : (slot_at r x j).progress ≡ 8 * c
    pub asking : asks (slot_at r x j).kind ≡ true
    pub not_different : (slot_at r x j).phase ≢ different

  pub just_sent : (c j n : ℕ) → Sent r x c j → j < n → Stands r x n → JustSent c j
  just_sent c j n q l s = go (changes r w x j (stands_back r w x (suc j) n s (omega (arith, q.stands.0)) l) q.stands.0)
    where
      go : ChangesSlot r x j → JustSent c j
      go (unchanged v) = contradiction q.turned v.no_turn
      go (ages v) = unserved v.unserved
        where
          unserved : UnservedAt r j (slot_of r x) → JustSent c j
          unserved (inl u) = none_some (sym u.silent ∙ q.yields)
          unserved (inr u) = absurd (u.apart
              (sends_own r w x c j q.chunk u.j _ u.ready (sym u.yields ∙ q.yields) u.bound).0)
      go (served v) =
          let o = sends_own r w x c j q.chunk (slot_of r x) _ v.ready (sym v.yields ∙ q.yields) (opened_at r w x).bound in
          let z : Requested (aged (slot_at r x j)) = sent_read (aged (slot_at r x j)) o.2 in
          record {
            phase = phase_eq v.after ∙ z.phase;
            progress = progress_eq v.after ∙ z.progress ∙ o.1;
            left = left_eq v.after ∙ z.left;
            sends = sends_eq v.after ∙ z.sends ∙ ap suc (aged_sends (slot_at r x j));
            before = sym (aged_progress (slot_at r x j)) ∙ o.1;
            asking = sym (ap asks (aged_kind (slot_at r x j))) ∙ o.2;
            not_different = λ e. other_phase v.ready.phase (phase_eq (unaged_ended j different refl e) ∙ e) refl;
          }
      go (taken v) = contradiction q.turned v.no_turn
      go (disagreed v) = contradiction q.turned v.no_turn

  -- it waits for the reply to chunk c, sent at j
  pub record Waits (c j n : ℕ) : Type 0 where
    pub phase : (slot_at r x n).phase ≡ waiting
    pub progress : (slot_at r x n).progress ≡ 8 * c
    pub left : (slot_at r x n).left + turns r j n ≡ 20
    pub sends : (slot_at r x n).sends ≡ (slot_at r x (suc j)).sends

  -- n calls on, while no frame matches in the first twenty turns
  pub record WithoutReply (c j n : ℕ) : Type 0 where
    pub soon : turns r j n < 20 → Waits c j n
    pub over : 20 ≤ turns r j n → (slot_at r x (suc j)).sends ≡ 3 → (slot_at r x n).phase ≡ gave_up

  waits_step : (c j n : ℕ) → j < n → Stands r x n → ¬ Matches r x c n → turns r j n < 20 → Waits c j n → ChangesSlot r x n
      → WithoutReply c j (suc n)
  waits_step c j n l s u p t (unchanged v) =
      let e = turns_same r j n v.no_turn in
      record {
        soon = λ q. record {
          phase = phase_eq v.after ∙ t.phase;
          progress = progress_eq v.after ∙ t.progress;
          left = omega (arith, left_eq v.after, e, t.left);
          sends = sends_eq v.after ∙ t.sends;
        };
        over = λ q. absurd (omega (arith, q, e, p));
      }
  waits_step c j n l s u p t (ages v) = go (aging_at r w x n)
    where
      e : turns r j (suc n) ≡ suc (turns r j n)
      e = turns_more r j n v.turned l

      phase : (slot_at r x (suc n)).phase ≡ (aged (slot_at r x n)).phase
      phase = phase_eq v.after

      left : (slot_at r x (suc n)).left ≡ (aged (slot_at r x n)).left
      left = left_eq v.after

      go : Aging (slot_at r x n) → WithoutReply c j (suc n)
      go (unaged q z) = contradiction (ap is_waiting t.phase) z
      go (waits_on a) = record {
        soon = λ z. record {
          phase = phase ∙ a.phase;
          progress = progress_eq v.after ∙ aged_progress (slot_at r x n) ∙ t.progress;
          left = omega (arith, left, a.left, e, t.left);
          sends = sends_eq v.after ∙ aged_sends (slot_at r x n) ∙ t.sends;
        };
        over = λ z. absurd (omega (arith, z, e, t.left, a.more));
      }
      go (ready_again a) = record {
        soon = λ z. absurd (omega (arith, z, e, a.over, t.left));
        over = λ z z'. absurd (omega (arith, a.few, t.sends, z'));
      }
      go (gives_up a) = record {
        soon = λ z. absurd (omega (arith, z, e, a.over, t.left));
        over = λ z z'. phase ∙ a.phase;
      }
  waits_step c j n l s u p t (served v) = go (aging_at r w x n)
    where
      e : turns r j (suc n) ≡ suc (turns r j n)
      e = turns_more r j n v.turned l

      go : Aging (slot_at r x n) → WithoutReply c j (suc n)
      go (unaged q z) = contradiction (ap is_waiting t.phase) z
      go (waits_on a) = other_phase a.phase v.ready.phase refl
      go (ready_again a) = record {
        soon = λ z. absurd (omega (arith, z, e, a.over, t.left));
        over = λ z z'. absurd (omega (arith, a.few, t.sends, z'));
      }
      go (gives_up a) = other_phase a.phase v.ready.phase refl
  waits_step c j n l s u p t (taken v) = absurd (u (matches_true r w x c n v.f
      (awaited_matches r x c n (held r w x n s) t.progress v.f v.call v.passes v.awaited)))
  waits_step c j n l s u p t (disagreed v) = absurd (u (matches_true r w x c n v.f
      (awaited_matches r x c n (held r w x n s) t.progress v.f v.call v.passes v.awaited)))

  without_reply_step : (c j n : ℕ) → j < n → x.at < n → Stands r x (suc n) → (turns r j n < 20 → ¬ Matches r x c n) → WithoutReply c j n
      → WithoutReply c j (suc n)
  without_reply_step c j n l l' s u h = go (dec_lt (turns r j n) 20)
    where
      go : Dec (turns r j n < 20) → WithoutReply c j (suc n)
      go (no p) = record {
        soon = λ q. absurd (omega (arith, q, (turns_step r j n).0));
        over = λ q z. stays n gave_up refl refl (changes r w x n s l') (h.over (omega arith) z);
      }
      go (yes p) = waits_step c j n l (stands_before r w x n s l') (u p) p (h.soon p) (changes r w x n s l')

  pub without_reply : (c j n : ℕ) → Sent r x c j → j < n → Stands r x n
      → ((m : ℕ) → j < m → m < n → turns r j m < 20 → ¬ Matches r x c m) → WithoutReply c j n
  without_reply c j n q l s = along_from r w x (suc j) (omega (arith, q.stands.0)) (λ k. NoMatch k → WithoutReply c j k) base step n l s
    where
      NoMatch : ℕ → Type 0
      NoMatch n = (m : ℕ) → j < m → m < n → turns r j m < 20 → ¬ Matches r x c m

      base : NoMatch (suc j) → WithoutReply c j (suc j)
      base u =
          let a : JustSent c j = just_sent c j n q l s in
          let z : turns r j (suc j) ≡ 0 = turns_none r j (suc j) (omega arith) in
          record {
            soon = λ q. record { phase = a.phase; progress = a.progress; left = omega (arith, a.left, z); sends = refl };
            over = λ q. absurd (omega (arith, q, z));
          }

      step : (k : ℕ) → Stands r x (suc k) → j < k → Held r x k → ChangesSlot r x k → (NoMatch k → WithoutReply c j k) → NoMatch (suc k)
          → WithoutReply c j (suc k)
      step k s h g v ih u =
          without_reply_step c j k h (omega (arith, q.stands.0)) s (u k h (omega arith)) (ih (λ m a b. u m a (omega arith)))

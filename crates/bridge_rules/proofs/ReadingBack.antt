-- A checked write: when it asks, when it has ended, and as what.
use Prim.Native.Nat.{ℕ, suc, ◌+◌, ◌*◌, ◌-◌, ◌≤◌, ◌<◌}
use mathlib.Core.Path.{◌≡◌, refl, sym, ◌∙◌, ap}
use mathlib.Core.Logic.{◌⊎◌, inl, inr, ◌≢◌}
use mathlib.Core.Bool.{true, false, true≢false}
use native.Mathlib.Omega.{arith}
use native.Mathlib.Decide.{dec_lt}
use Rattle.bridge_rules.specs.State.{done, different, asks}
use Rattle.bridge_rules.specs.Opening.{Ask, read, write, check, is_read, is_check}
use Rattle.bridge_rules.specs.Call.{Call}
use Rattle.bridge_rules.specs.Run.{Run, Lawful, Transfer, Closing, Stands, is_turn, accepted, turns, chunks, turns_each}
use Rattle.bridge_rules.specs.Replies.{given, AllWritten, Sent, Replied}
use Rattle.bridge_rules.specs.Demand3.{brought}
use Rattle.bridge_rules.proofs.KindTests.{one_kind, asks_not_checking, compares_asks, checking_of, not_checking_of, compares_check}
use Rattle.bridge_rules.proofs.Search.{cases, contradiction, and-true}
use Rattle.bridge_rules.proofs.SlotOk.{ReadyOk, checking_ready, done_ok, different_ok}
use Rattle.bridge_rules.proofs.TurnCounts.{turns_split}
use Rattle.bridge_rules.proofs.Standing.{ok_at, opened_at, slot_at, Held, held, begins_open, opened_stands}
use Rattle.bridge_rules.proofs.EndsInBound.{Ended, ended}
use Rattle.bridge_rules.proofs.AskTests.{check_not_read}
use Rattle.bridge_rules.proofs.WrittenInOrder.{Stage, carrying, back, Back, stage_at, all_mono}
use Rattle.bridge_rules.proofs.AskedSoFar.{AskedSoFar, Other, asked_so_far, read_so_far}
use Rattle.bridge_rules.proofs.JustSent.{just_sent, different_on}
use Rattle.bridge_rules.proofs.RepliesInOrder.{Outcome, goes_on_lem, ends, outcome, reply_not_different, replied_once, replied_done}

module _ (r : Run) (w : Lawful r) (x : Transfer r) where
  -- ── when it asks ─────────────────────────────────────────────────────────────────────────────────────────────────

  -- what asks and is no read reads back
  reads_back_lem : is_read x.ask ≡ false → (n : ℕ) → Stands r x n → asks (slot_at r x n).kind ≡ true → Back r x n
  reads_back_lem ur n s a = go (stage_at r w x ur n s)
    where
      go : Stage r x n → Back r x n
      go (carrying p) = one_kind (slot_at r x n).kind p.carrying a
      go (back b) = b

  pub asked_so_far_at : (n : ℕ) → Stands r x n → asks (slot_at r x n).kind ≡ true → AskedSoFar r x n
  asked_so_far_at n s a = go (cases (is_read x.ask))
    where
      go : (is_read x.ask ≡ true) ⊎ (is_read x.ask ≡ false) → AskedSoFar r x n
      go (inl rd) = read_so_far r w x rd n s
      go (inr ur) = let b : Back r x n = reads_back_lem ur n s a in asked_so_far r w x (suc b.j) b.begins b.asking n b.before s

  -- it stands after a turn
  turn_stands : (j : ℕ) → Stands r x j → accepted r j ≡ true → Stands r x (suc j)
  unfolding accepted
  turn_stands j s a = (omega (arith, s.0), λ m p q. stay m p q (dec_lt m j))
    where
      no_turn_lem : {d : Call} → r.calls j ≡ d → is_turn d ≡ false → ⊥
      no_turn_lem e f = true≢false (sym (and-true _ _ a).0 ∙ ap is_turn e ∙ f)

      open_on : ¬ Closing r x j
      open_on (z, inl e) = no_turn_lem e refl
      open_on (z, inr (o, e)) = no_turn_lem e refl

      stay : (m : ℕ) → x.at < m → m < suc j → Dec (m < j) → ¬ Closing r x m
      stay m p q (yes l) = s.1 m p l
      stay m p q (no l) = let e : m ≡ j = omega arith in rw e open_on

  -- each request is sent after all its CMDs
  pub sent_after_lem : is_read x.ask ≡ false → (c j : ℕ) → Sent r x c j → AllWritten r x j
  sent_after_lem ur c j q =
      let a = just_sent r w x c j (suc j) q (omega arith) (turn_stands j q.stands q.turned) in
      let b : Back r x j = reads_back_lem ur j q.stands a.asking in
      all_mono r x (suc b.j) j b.before b.written

  -- ── when it has ended ────────────────────────────────────────────────────────────────────────────────────────────

  -- four turns for each chunk to send it, and 72 to read it back
  check_ended : is_check x.ask ≡ true → (n : ℕ) → Stands r x n → 4 * chunks r x + 72 * chunks r x ≤ turns r x.at n → Ended r w x n
  check_ended ck n s e = go (stage_at r w x (check_not_read x.ask ck) n s)
    where
      go : Stage r x n → Ended r w x n
      go (carrying p) =
          let h : Held r x n = held r w x n s in
          let u : ReadyOk (slot_at r x n) = checking_ready (slot_at r x n) (ok_at r w x n)
          (checking_of x.ask (slot_at r x n).kind h.kind p.carrying ∙ ck) in
          absurd (omega (arith, e, p.soon u.phase, u.partway.below, h.count))
      go (back b) = ended r w x b.j b.begins (asks_not_checking (slot_at r x (suc b.j)).kind b.asking) n b.before s
          (omega (arith, e, b.soon, turns_split r x.at b.j n (omega (arith, b.begins.since))))

  -- 72 from the opening of any other on
  other_ended : is_check x.ask ≡ false → (n : ℕ) → Stands r x n → 72 * chunks r x ≤ turns r x.at n → Ended r w x n
  other_ended uc n s e = ended r w x x.at (begins_open r w x) (not_checking_of x.ask (slot_at r x (suc x.at)).kind
      (held r w x (suc x.at) (opened_stands r w x)).kind uc) n s.0 s e

  pub ends_in : (n : ℕ) → Stands r x n → turns_each x.ask * chunks r x ≤ turns r x.at n → Ended r w x n
  ends_in n s = go x.ask refl
    where
      go : (a : Ask) → x.ask ≡ a → turns_each a * chunks r x ≤ turns r x.at n → Ended r w x n
      go (read d t o k) q e = other_ended (ap is_check q) n s (omega (arith, e))
      go (write d t o bs) q e = other_ended (ap is_check q) n s (omega (arith, e))
      go (check d t o bs) q e = check_ended (ap is_check q) n s (omega (arith, e))

  -- only a checked write ends as different
  different_check : (n : ℕ) → Stands r x n → (slot_at r x n).phase ≡ different → is_check x.ask ≡ true
  different_check n s e = compares_check x.ask (slot_at r x n).kind (held r w x n s).kind
      (different_ok (slot_at r x n) (ok_at r w x n) e).comparing

  pub not_different_lem : is_check x.ask ≡ false → (n : ℕ) → Stands r x n → (slot_at r x n).phase ≢ different
  not_different_lem uc n s e = contradiction (different_check n s e) uc

  -- ── as what ──────────────────────────────────────────────────────────────────────────────────────────────────────

  pub different_other : (n : ℕ) → Stands r x n → (slot_at r x n).phase ≡ different → Other r x n
  different_other n s e = (asked_so_far_at n s
      (compares_asks (slot_at r x n).kind (different_ok (slot_at r x n) (ok_at r w x n) e).comparing)).if_different e

  -- a reply that disagrees ends it
  pub other_different : is_check x.ask ≡ true → (n c m : ℕ) → Stands r x n → m < n → Replied r x c m → brought (r.calls m) ≢ given r x c
      → (slot_at r x n).phase ≡ different
  other_different ck n c m s l p d = go (outcome r w x c m n p l s)
    where
      go : Outcome r w x c m → (slot_at r x n).phase ≡ different
      go (goes_on_lem e a q) = absurd (d (q ck))
      go (ends e) = different_on r w x (suc m) n (omega (arith, p.awaits.stands.0)) l s e

  -- so none comes after it
  pub first_other_lem : is_check x.ask ≡ true → (c m c' m' : ℕ) → Replied r x c m → brought (r.calls m) ≢ given r x c → Replied r x c' m' → m' ≤ m
  first_other_lem ck c m c' m' p d p' = go (dec_lt m m')
    where
      go : Dec (m < m') → m' ≤ m
      go (yes l) = absurd (reply_not_different r w x c' m' p' (other_different ck m' c m p'.awaits.stands l p d))
      go (no l) = omega arith

  -- done: it wrote all and reads back
  pub done_back : is_check x.ask ≡ true → (n : ℕ) → Stands r x n → (slot_at r x n).phase ≡ done → AllWritten r x n × AskedSoFar r x n
  done_back ck n s e = go (stage_at r w x (check_not_read x.ask ck) n s)
    where
      go : Stage r x n → AllWritten r x n × AskedSoFar r x n
      go (carrying p) = contradiction (checking_of x.ask (slot_at r x n).kind (held r w x n s).kind p.carrying ∙ ck)
          (done_ok (slot_at r x n) (ok_at r w x n) e).not_checking
      go (back b) = (
        all_mono r x (suc b.j) n b.before b.written,
        asked_so_far r w x (suc b.j) b.begins b.asking n b.before s,
      )

  -- and all came back equal
  abbrev pub AllEqual : ℕ → Type 0
  AllEqual n = (c : ℕ) → c < chunks r x → (m : ℕ) × (m < n) × Replied r x c m × (brought (r.calls m) ≡ given r x c)

  pub equal_done : (n : ℕ) → Stands r x n → AllEqual n → (slot_at r x n).phase ≡ done
  equal_done n s h = go (replied_done r w x n z.0 s z.1 z.2)
    where
      z : (m : ℕ) × (m < n) × Replied r x (chunks r x - 1) m × (brought (r.calls m) ≡ given r x (chunks r x - 1))
      z = h (chunks r x - 1) (omega (arith, (opened_at r w x).law.some))

      go : ((slot_at r x n).phase ≡ done) ⊎ ((slot_at r x n).phase ≡ different) → (slot_at r x n).phase ≡ done
      go (inl e) = e
      go (inr e) =
          let o : Other r x n = different_other n s e in
          let y = h o.c o.replied.awaits.sent.chunk in
          absurd (o.other (ap (λ (k : ℕ). brought (r.calls k)) (replied_once r w x o.c o.m y.0 o.replied y.2) ∙ y.3))

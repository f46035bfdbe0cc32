-- The replies to a transfer that asks: each is taken once, in the chunks' order; the last makes it done, unless one disagrees; three failed
-- sends make it give up.
use Prim.Native.Nat.{ℕ, suc, ◌+◌, ◌*◌, ◌-◌, ◌≤◌, ◌<◌, min}
use mathlib.Core.Path.{◌≡◌, refl, sym, ◌∙◌, ap}
use mathlib.Core.Logic.{◌⊎◌, inl, inr}
use mathlib.Core.Bool.{true}
use native.Mathlib.Omega.{arith}
use native.Mathlib.Decide.{dec_lt}
use Rattle.bridge_rules.specs.State.{Frame, done, gave_up, different, is_waiting, asks}
use Rattle.bridge_rules.specs.Answers.{Result}
use Rattle.bridge_rules.specs.Opening.{is_check, ask_count}
use Rattle.bridge_rules.specs.Incoming.{awaits}
use Rattle.bridge_rules.specs.Run.{Run, state, buffers, answer, Lawful, Transfer, slot_of, Stands, chunks}
use Rattle.bridge_rules.specs.Replies.{given, Awaits, Replied, ThreeFailed}
use Rattle.bridge_rules.specs.Demand3.{brought}
use Rattle.bridge_rules.proofs.Search.{contradiction}
use Rattle.bridge_rules.proofs.KindTests.{compares_of}
use Rattle.bridge_rules.proofs.AwaitsTest.{awaits_true}
use Rattle.bridge_rules.proofs.Comparing.{agrees_same}
use Rattle.bridge_rules.proofs.AskedSoFar.{there_given}
use Rattle.bridge_rules.proofs.SlotOk.{WaitOk, wait_ok, other_phase, phase_eq, progress_eq}
use Rattle.bridge_rules.proofs.SlotChanges.{advanced_kind, advanced_progress, differed_is}
use Rattle.bridge_rules.proofs.CallCases.{CallCase, nothing, opens, sends, idles, takes, disagrees, closes, resets, other_call}
use Rattle.bridge_rules.proofs.SlotEffects.{unchanged, ages, served, taken, disagreed}
use Rattle.bridge_rules.proofs.TurnCounts.{turns_none}
use Rattle.bridge_rules.proofs.SoundRuns.{case_at}
use Rattle.bridge_rules.proofs.Standing.{full_done, ok_at, opened_at, slot_at, ChangesSlot, changes, Held, held, stands_back}
use Rattle.bridge_rules.proofs.Matching.{MatchesOk, matches_ok, turn_unmatched, matches_awaited}
use Rattle.bridge_rules.proofs.JustSent.{Waits, WithoutReply, without_reply, JustSent, just_sent, grown, waits_asks, different_on}

module _ (r : Run) (w : Lawful r) (x : Transfer r) where
  -- the slot waits for a reply when it comes
  waits_at : (c m : ℕ) (a : Awaits r x c m) → Waits r w x c a.j m
  waits_at c m a = (without_reply r w x c a.j m a.sent a.before a.stands (λ k b d q. a.unmatched k b d)).soon a.soon

  -- it awaits it
  pub reply_awaited : (c m : ℕ) (p : Replied r x c m) → awaits (state r m) (matches_ok r w x c m p.matches).0 (slot_of r x) ≡ true
  reply_awaited c m p =
      let t : Waits r w x c p.awaits.j m = waits_at c m p.awaits in
      let fo = matches_ok r w x c m p.matches in
      awaits_true (state r m) fo.0 (slot_of r x)
      (matches_awaited r x c m (held r w x m p.awaits.stands) t.progress fo.0 fo.1 t.phase)

  -- takes it, and goes on to the next chunk, or ends as different
  pub data Outcome (c m : ℕ) : Type 0 where
    goes_on_lem : (slot_at r x (suc m)).progress ≡ min (8 * c + 8) (ask_count x.ask) → asks (slot_at r x (suc m)).kind ≡ true
        → (is_check x.ask ≡ true → brought (r.calls m) ≡ given r x c) → Outcome c m
    ends : (slot_at r x (suc m)).phase ≡ different → Outcome c m

  pub outcome : (c m n : ℕ) → Replied r x c m → m < n → Stands r x n → Outcome c m
  outcome c m n p l s = go (changes r w x m (stands_back r w x (suc m) n s (omega (arith, p.awaits.stands.0)) l) p.awaits.stands.0)
    where
      t : Waits r w x c p.awaits.j m
      t = waits_at c m p.awaits

      h : Held r x m
      h = held r w x m p.awaits.stands

      go : ChangesSlot r x m → Outcome c m
      go (unchanged v) =
          let q = matches_ok r w x c m p.matches in
          contradiction (reply_awaited c m p) (v.unawaited q.0 q.1.is q.1.passes)
      go (ages v) = absurd (turn_unmatched r x c m v.call p.matches)
      go (served v) = absurd (turn_unmatched r x c m v.call p.matches)
      go (taken v) = goes_on_lem (progress_eq v.after ∙ advanced_progress (slot_at r x m) ∙ rw (t.progress, h.count))
          (rw (v.after, advanced_kind (slot_at r x m)) v.waits.asking) (λ ck. ap brought v.call
          ∙ agrees_same (slot_of r x) (slot_at r x m) (buffers r m).second v.f
          (compares_of x.ask (slot_at r x m).kind h.kind v.waits.asking ∙ ck) v.agrees
          ∙ there_given r w x m v.f p.awaits.stands h ck v.waits v.awaited
          ∙ ap (given r x) (omega (arith, v.waits.partway.at, t.progress)))
      go (disagreed v) = ends (phase_eq v.after ∙ (differed_is (slot_at r x m)).phase)

  -- and the frame call that brings it is answered 0
  pub reply_accepted : (c m : ℕ) → Replied r x c m → (answer r m).number ≡ 0
  reply_accepted c m p = go (case_at r w m)
    where
      fo : (f : Frame) × MatchesOk r x c m f
      fo = matches_ok r w x c m p.matches

      go : CallCase (state r m) (buffers r m) (r.calls m) → (answer r m).number ≡ 0
      go (nothing u) = contradiction (reply_awaited c m p)
          (u.unawaited fo.0 fo.1.is fo.1.passes (slot_of r x) (opened_at r w x).bound)
      go (opens u) = other_call fo.1.is u.call refl
      go (sends u) = other_call fo.1.is u.call refl
      go (idles u) = other_call fo.1.is u.call refl
      go (takes u) = ap (λ (v : Result). v.answer.number) u.result
      go (disagrees u) = ap (λ (v : Result). v.answer.number) u.result
      go (closes u) = other_call fo.1.is u.call refl
      go (resets u) = other_call fo.1.is u.call refl

  -- after a reply the progress is past its chunk, or it has ended as different
  past : (c m n : ℕ) → Replied r x c m → m < n → Stands r x n
      → (min (8 * c + 8) (ask_count x.ask) ≤ (slot_at r x n).progress) ⊎ ((slot_at r x n).phase ≡ different)
  past c m n p l s = go (outcome c m n p l s)
    where
      at : x.at < suc m
      at = omega (arith, p.awaits.stands.0)

      go : Outcome c m → (min (8 * c + 8) (ask_count x.ask) ≤ (slot_at r x n).progress) ⊎ ((slot_at r x n).phase ≡ different)
      go (goes_on_lem e a q) = inl (omega (arith, e, (grown r w x (suc m) n at a l s).progress))
      go (ends e) = inr (different_on r w x (suc m) n at l s e)

  -- a reply comes to a transfer that has not ended as different
  pub reply_not_different : (c m : ℕ) → Replied r x c m → (slot_at r x m).phase ≡ different → ⊥
  reply_not_different c m p e = other_phase (waits_at c m p.awaits).phase e refl

  -- no chunk is replied to twice
  not_twice : (c m m' : ℕ) → c < chunks r x → Replied r x c m → Replied r x c m' → m < m' → ⊥
  not_twice c m m' q p p' l = go (past c m m' p l p'.awaits.stands)
    where
      go : (min (8 * c + 8) (ask_count x.ask) ≤ (slot_at r x m').progress) ⊎ ((slot_at r x m').phase ≡ different) → ⊥
      go (inl e) = omega (arith, (waits_at c m' p'.awaits).progress, e, q)
      go (inr e) = reply_not_different c m' p' e

  pub replied_once : (c m m' : ℕ) → Replied r x c m → Replied r x c m' → m ≡ m'
  replied_once c m m' p p' = go (dec_lt m m') (dec_lt m' m)
    where
      q : c < chunks r x
      q = p.awaits.sent.chunk

      go : Dec (m < m') → Dec (m' < m) → m ≡ m'
      go (yes a) b = absurd (not_twice c m m' q p p' a)
      go (no a) (yes b) = absurd (not_twice c m' m q p' p b)
      go (no a) (no b) = omega arith

  -- replies come in the chunks' order
  pub replied_order : (c m m' : ℕ) → Replied r x c m → Replied r x (suc c) m' → m < m'
  replied_order c m m' p p' = go (dec_lt m m')
    where
      t : Waits r w x c p.awaits.j m
      t = waits_at c m p.awaits

      t' : Waits r w x (suc c) p'.awaits.j m'
      t' = waits_at (suc c) m' p'.awaits

      go : Dec (m < m') → m < m'
      go (yes q) = q
      go (no q) = absurd (omega (
        arith,
        t.progress,
        t'.progress,
        (grown r w x m' m p'.awaits.stands.0 (waits_asks r w x m' t'.phase) (omega arith) p.awaits.stands).progress,
      ))

  -- the last chunk's reply makes it done, unless it ended as different
  pub replied_done : (n m : ℕ) → Stands r x n → m < n → Replied r x (chunks r x - 1) m
      → ((slot_at r x n).phase ≡ done) ⊎ ((slot_at r x n).phase ≡ different)
  replied_done n m s l p = go (past (chunks r x - 1) m n p l s)
    where
      go : (min (8 * (chunks r x - 1) + 8) (ask_count x.ask) ≤ (slot_at r x n).progress) ⊎ ((slot_at r x n).phase ≡ different)
          → ((slot_at r x n).phase ≡ done) ⊎ ((slot_at r x n).phase ≡ different)
      go (inl e) = inl (full_done r w x n s (omega (arith, e, (opened_at r w x).law.some)))
      go (inr e) = inr e

  -- three failed sends make it give up
  pub failed_thrice : (n : ℕ) → Stands r x n → ThreeFailed r x n → (slot_at r x n).phase ≡ gave_up
  failed_thrice n s t = sm.over t.third.late three
    where
      l₃ : t.j₃ < n
      l₃ = go (dec_lt t.j₃ n)
        where
          go : Dec (t.j₃ < n) → t.j₃ < n
          go (yes p) = p
          go (no p) = absurd (omega (arith, t.third.late, turns_none r t.j₃ n (omega arith)))

      a₁ : JustSent r w x t.c t.j₁
      a₁ = just_sent r w x t.c t.j₁ n t.first.sent (omega (arith, t.order₁, t.order₂, l₃)) s

      a₂ : JustSent r w x t.c t.j₂
      a₂ = just_sent r w x t.c t.j₂ n t.second.sent (omega (arith, t.order₂, l₃)) s

      a₃ : JustSent r w x t.c t.j₃
      a₃ = just_sent r w x t.c t.j₃ n t.third.sent l₃ s

      b₁₂ : (slot_at r x (suc t.j₁)).sends ≤ (slot_at r x t.j₂).sends
      b₁₂ = (grown r w x (suc t.j₁) t.j₂ (omega (arith, t.first.sent.stands.0)) (waits_asks r w x (suc t.j₁) a₁.phase)
          t.order₁ t.second.sent.stands).sends a₂.not_different (a₁.progress ∙ sym a₂.before)

      b₂₃ : (slot_at r x (suc t.j₂)).sends ≤ (slot_at r x t.j₃).sends
      b₂₃ = (grown r w x (suc t.j₂) t.j₃ (omega (arith, t.second.sent.stands.0)) (waits_asks r w x (suc t.j₂) a₂.phase)
          t.order₂ t.third.sent.stands).sends a₃.not_different (a₂.progress ∙ sym a₃.before)

      wk : WaitOk (slot_at r x (suc t.j₃))
      wk = wait_ok (slot_at r x (suc t.j₃)) (ok_at r w x (suc t.j₃)) (ap is_waiting a₃.phase)

      three : (slot_at r x (suc t.j₃)).sends ≡ 3
      three = omega (arith, a₁.sends, a₂.sends, a₃.sends, b₁₂, b₂₃, wk.thrice)

      sm : WithoutReply r w x t.c t.j₃ n
      sm = without_reply r w x t.c t.j₃ n t.third.sent l₃ s (λ m a b q. t.third.unmatched m a q)

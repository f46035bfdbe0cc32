-- What a slot that asks says of the calls since it began: which chunks were replied to, and which sends failed.
use Prim.Native.Nat.{ℕ, zero, suc, ◌+◌, ◌*◌, ◌-◌, ◌≤◌, ◌<◌}
use mathlib.Core.Path.{◌≡◌, refl, sym, ◌∙◌, ap, subst}
use mathlib.Core.Logic.{◌≢◌}
use mathlib.Core.Option.{some}
use mathlib.Core.Bool.{true}
use native.Mathlib.Omega.{arith}
use native.Mathlib.Decide.{ℕ_discrete, dec_lt}
use lib.ListN.{length, get_or}
use lib.Seq.{sets}
use Rattle.bus_rules.specs.Frames.{content}
use Rattle.bridge_rules.specs.State.{Frame, ready, waiting, gave_up, different, asks, compares}
use Rattle.bridge_rules.specs.Answers.{Buffers}
use Rattle.bridge_rules.specs.Opening.{is_read, is_check, ask_count}
use Rattle.bridge_rules.specs.Turn.{aged, advanced}
use Rattle.bridge_rules.specs.Incoming.{content_number}
use Rattle.bridge_rules.specs.Call.{Call, its_own, turn, frame}
use Rattle.bridge_rules.specs.Run.{Run, state, buffers, Lawful, Shaped, Transfer, slot_of, Stands, accepted, turns, len_of}
use Rattle.bridge_rules.specs.Replies.{place, given, Sent, Matches, Replied, Failed}
use Rattle.bridge_rules.specs.Demand3.{brought}
use Rattle.bridge_rules.proofs.KindTests.{asks_of, asks_not_write, compares_of, compares_check}
use Rattle.bridge_rules.proofs.FrameLaws.{len_eight, len_inside, len_small, content_length}
use Rattle.bridge_rules.proofs.Search.{contradiction}
use Rattle.bridge_rules.proofs.BufferParts.{SamePart, same_part, get_d_sets_below, get_d_sets_in}
use Rattle.bridge_rules.proofs.Comparing.{sent_there, differs_compares, differs_other, agrees_same}
use Rattle.bridge_rules.proofs.AwaitsTest.{AwaitsOk, awaits_true}
use Rattle.bridge_rules.proofs.SlotOk.{WaitOk, other_phase, kind_eq, left_eq, phase_eq, progress_eq, sends_eq}
use Rattle.bridge_rules.proofs.SlotChanges.{Same, aged_same, aged_kind, aged_progress, aged_sends, aged_waiting}
use Rattle.bridge_rules.proofs.SlotChanges.{Aging, unaged, waits_on, ready_again, gives_up}
use Rattle.bridge_rules.proofs.SlotChanges.{Requested, sent_read, advanced_kind, advanced_sends, advanced_progress, advanced_not, differed_is}
use Rattle.bridge_rules.proofs.SlotEffects.{unchanged, ages, served, taken, disagreed}
use Rattle.bridge_rules.proofs.TurnCounts.{turns_same, turns_more, turns_none, turns_mono}
use Rattle.bridge_rules.proofs.SoundRuns.{storage_sound}
use Rattle.bridge_rules.proofs.Standing.{ok_at, aging_at, opened_at, slot_at, ChangesSlot, Held, held, opened_stands, Begins, begins_open, along_from}
use Rattle.bridge_rules.proofs.Standing.{stands_before}
use Rattle.bridge_rules.proofs.Matching.{matches_ok, matches_true, turn_unmatched, matches_awaited, awaited_matches}
use Rattle.bridge_rules.proofs.SentRequests.{sends_request}
use Rattle.bridge_rules.proofs.GivenBytes.{second_given}

-- s failed sends of chunk c, the latest before `top`
abbrev pub Fails : (r : Run) (x : Transfer r) → ℕ → ℕ → ℕ → ℕ → Type 0
Fails r x c zero n top = Unit {0}
Fails r x c (suc s) n top = (j : ℕ) × (j < top) × Failed r x c j n × Fails r x c s n j

-- the current send, and s failed ones before it
pub record Pending (r : Run) (x : Transfer r) (c s left n : ℕ) : Type 0 where
  pub j : ℕ
  pub before : j < n
  pub sent : Sent r x c j
  pub clock : turns r j n + left ≡ 20
  pub unmatched : (m : ℕ) → j < m → m < n → ¬ Matches r x c m
  pub earlier : Fails r x c s n j

-- a chunk that was replied to, with its bytes in the first buffer; of a checked write they are those that it was given
pub record Got (r : Run) (x : Transfer r) (c n : ℕ) : Type 0 where
  pub m : ℕ
  pub before : m < n
  pub replied : Replied r x c m
  pub kept : (i : ℕ) → i < len_of r x c → get_or (buffers r n).first (place r x c + i) 0 ≡ get_or (brought (r.calls m)) i 0
  pub equal : is_check x.ask ≡ true → brought (r.calls m) ≡ given r x c

-- a reply that disagrees with what a checked write was given
pub record Other (r : Run) (x : Transfer r) (n : ℕ) : Type 0 where
  pub c : ℕ
  pub m : ℕ
  pub before : m < n
  pub replied : Replied r x c m
  pub other : brought (r.calls m) ≢ given r x c

pub record AskedSoFar (r : Run) (x : Transfer r) (n : ℕ) : Type 0 where
  pub asking : asks (slot_at r x n).kind ≡ true
  pub got : (c : ℕ) → 8 * c < (slot_at r x n).progress → Got r x c n
  pub if_ready : (slot_at r x n).phase ≡ ready → (c : ℕ) → (slot_at r x n).progress ≡ 8 * c → Fails r x c (slot_at r x n).sends n n
  pub if_waiting : (slot_at r x n).phase ≡ waiting → (c s : ℕ) → (slot_at r x n).progress ≡ 8 * c → (slot_at r x n).sends ≡ suc s
      → Pending r x c s (slot_at r x n).left n
  pub if_gave_up : (slot_at r x n).phase ≡ gave_up → (c : ℕ) → (slot_at r x n).progress ≡ 8 * c → Fails r x c 3 n n
  pub if_different : (slot_at r x n).phase ≡ different → Other r x n

pub failed_mono : (r : Run) (x : Transfer r) (c j n n' : ℕ) → n ≤ n' → Failed r x c j n → Failed r x c j n'
failed_mono r x c j n n' h f = record { sent = f.sent; late = omega (arith, f.late, turns_mono r j n n' h); unmatched = f.unmatched }

pub fails_mono : (r : Run) (x : Transfer r) (c s n n' top top' : ℕ) → n ≤ n' → top ≤ top' → Fails r x c s n top → Fails r x c s n' top'
fails_mono r x c zero n n' top top' h l f = tt
fails_mono r x c (suc s) n n' top top' h l f = (
  f.0,
  omega (arith, f.1),
  failed_mono r x c f.0 n n' h f.2,
  fails_mono r x c s n n' f.0 f.0 h (omega arith) f.3,
)

-- the twentieth turn after a send ends it
expire : (r : Run) (x : Transfer r) (c s n : ℕ) → Pending r x c s 1 n → r.calls n ≡ turn its_own → accepted r n ≡ true
    → Fails r x c (suc s) (suc n) n
expire r x c s n p e a = (
  p.j,
  p.before,
  record { sent = p.sent; late = omega (arith, t, p.clock); unmatched = unmatched },
  fails_mono r x c s n (suc n) p.j p.j (omega arith) (omega arith) p.earlier,
)
  where
    t : turns r p.j (suc n) ≡ suc (turns r p.j n)
    t = turns_more r p.j n a p.before

    unmatched : (m : ℕ) → p.j < m → turns r p.j m < 20 → ¬ Matches r x c m
    unmatched m l q = go (dec_lt m n) (ℕ_discrete m n)
      where
        go : Dec (m < n) → Dec (m ≡ n) → ¬ Matches r x c m
        go (yes u) v = p.unmatched m l u
        go (no u) (yes v) = subst (λ (i : ℕ). ¬ Matches r x c i) (sym v) (turn_unmatched r x c n e)
        go (no u) (no v) = absurd (omega (arith, t, p.clock, turns_mono r p.j (suc n) m (omega arith)))

-- a longer wait
wait_on : (r : Run) (x : Transfer r) (c s l l' n : ℕ) → Pending r x c s l n → ((j : ℕ) → j < n → turns r j (suc n) + l' ≡ turns r j n + l)
    → ¬ Matches r x c n → Pending r x c s l' (suc n)
wait_on r x c s l l' n p t u = record {
  j = p.j;
  before = omega (arith, p.before);
  sent = p.sent;
  clock = t p.j p.before ∙ p.clock;
  unmatched = λ m a b. go m a b (ℕ_discrete m n);
  earlier = fails_mono r x c s n (suc n) p.j p.j (omega arith) (omega arith) p.earlier;
}
  where
    go : (m : ℕ) → p.j < m → m < suc n → Dec (m ≡ n) → ¬ Matches r x c m
    go m a b (yes v) = subst (λ (i : ℕ). ¬ Matches r x c i) (sym v) u
    go m a b (no v) = p.unmatched m a (omega arith)

module _ (r : Run) (w : Lawful r) (x : Transfer r) where
  few : ask_count x.ask ≤ 128
  few = (opened_at r w x).law.few

  part_got : (c n : ℕ) → SamePart (slot_of r x) (buffers r n).first (buffers r (suc n)).first → Got r x c n → Got r x c (suc n)
  part_got c n v g = record { m = g.m; before = omega (arith, g.before); replied = g.replied; kept = kept; equal = g.equal }
    where
      kept : (i : ℕ) → i < len_of r x c → get_or (buffers r (suc n)).first (place r x c + i) 0 ≡ get_or (brought (r.calls g.m)) i 0
      kept i l =
          let z : place r x c + i ≡ 128 * slot_of r x + (8 * c + i) = omega arith in
          let b = len_small (ask_count x.ask) c i few l in
          ap (λ (k : ℕ). get_or (buffers r (suc n)).first k 0) z ∙ v (8 * c + i) (omega (arith, b.0, few))
          ∙ ap (λ (k : ℕ). get_or (buffers r n).first k 0) (sym z) ∙ g.kept i l

  same_got : (c n : ℕ) → buffers r (suc n) ≡ buffers r n → Got r x c n → Got r x c (suc n)
  same_got c n e = part_got c n (same_part (slot_of r x) (ap (λ (b : Buffers). b.first) e))

  later_other : (n : ℕ) → Other r x n → Other r x (suc n)
  later_other n o = record { c = o.c; m = o.m; before = omega (arith, o.before); replied = o.replied; other = o.other }

  -- the second buffer has the given bytes where a reply to a waiting slot goes
  pub there_given : (n : ℕ) (f : Frame) → Stands r x n → Held r x n → is_check x.ask ≡ true → (wk : WaitOk (slot_at r x n))
      → AwaitsOk (state r n) f (slot_of r x)
      → sent_there (slot_of r x) (slot_at r x n) (buffers r n).second f ≡ given r x wk.partway.chunk
  there_given n f st h e wk aw = rw (aw.len, h.count, wk.partway.at) (second_given r w x n st e wk.partway.chunk
      (omega (arith, wk.partway.at, wk.partway.below, h.count)))

  -- the failed sends of a slot that is ready after aging, before this turn's send
  ready_fails : (n c : ℕ) → AskedSoFar r x n → r.calls n ≡ turn its_own → accepted r n ≡ true → (aged (slot_at r x n)).phase ≡ ready
      → (slot_at r x n).progress ≡ 8 * c → Fails r x c (slot_at r x n).sends (suc n) n
  ready_fails n c h e a p q = go (aging_at r w x n)
    where
      go : Aging (slot_at r x n) → Fails r x c (slot_at r x n).sends (suc n) n
      go (unaged u v) = fails_mono r x c (slot_at r x n).sends n (suc n) n n (omega arith) (omega arith)
          (h.if_ready (phase_eq (sym u) ∙ p) c q)
      go (waits_on u) = other_phase u.phase p refl
      go (ready_again u) =
          let sc : (slot_at r x n).sends ≡ suc ((slot_at r x n).sends - 1) = omega (arith, u.was.once) in
          let pd : Pending r x c ((slot_at r x n).sends - 1) (slot_at r x n).left n
          = h.if_waiting u.was.phase c ((slot_at r x n).sends - 1) q sc in
          let fl : Fails r x c (suc ((slot_at r x n).sends - 1)) (suc n) n = expire r x c ((slot_at r x n).sends - 1) n
          (subst (λ (l : ℕ). Pending r x c ((slot_at r x n).sends - 1) l n) u.over pd) e a in
          subst (λ (s : ℕ). Fails r x c s (suc n) n) (sym sc) fl
      go (gives_up u) = other_phase u.phase p refl

  -- a frame that the slot awaits is the reply to its chunk
  pub awaited_replied : (n : ℕ) (f : Frame) → Stands r x n → Held r x n → AskedSoFar r x n → r.calls n ≡ frame its_own f
      → content_number (state r n).own f ≡ 0 → AwaitsOk (state r n) f (slot_of r x) → (wk : WaitOk (slot_at r x n))
      → Replied r x wk.partway.chunk n
  awaited_replied n f st h p e cr aw wk = record {
    awaits = record {
      stands = st;
      j = pd.j;
      before = pd.before;
      sent = pd.sent;
      soon = omega (arith, pd.clock, wk.some);
      unmatched = pd.unmatched;
    };
    matches = matches_true r w x wk.partway.chunk n f (awaited_matches r x wk.partway.chunk n h wk.partway.at f e cr aw);
  }
    where
      pd : Pending r x wk.partway.chunk ((slot_at r x n).sends - 1) (slot_at r x n).left n
      pd = p.if_waiting wk.phase wk.partway.chunk ((slot_at r x n).sends - 1) wk.partway.at (omega (arith, wk.once))

  asked_begin : (b : ℕ) → Begins r x b → asks (slot_at r x b).kind ≡ true → AskedSoFar r x b
  asked_begin b g a = record {
    asking = a;
    got = λ c l. absurd (omega (arith, l, g.progress));
    if_ready = λ q c u. rw g.sends tt;
    if_waiting = λ q. other_phase g.phase q refl;
    if_gave_up = λ q. other_phase g.phase q refl;
    if_different = λ q. other_phase g.phase q refl;
  }

  asked_step : (n : ℕ) → Stands r x n → Held r x n → ChangesSlot r x n → AskedSoFar r x n → AskedSoFar r x (suc n)
  asked_step n st h (unchanged v) p = record {
    asking = rw v.after p.asking;
    got = λ c l. part_got c n v.parts.0 (p.got c (rw v.after at l));
    if_ready = λ q c u. rw v.after (fails_mono r x c (slot_at r x n).sends n (suc n) n (suc n) (omega arith) (omega arith)
        (p.if_ready (rw v.after at q) c (rw v.after at u)));
    if_waiting = λ q c s u z. rw v.after (wait_on r x c s (slot_at r x n).left (slot_at r x n).left n
        (p.if_waiting (rw v.after at q) c s (rw v.after at u) (rw v.after at z))
        (λ j l. ap (λ (k : ℕ). k + (slot_at r x n).left) (turns_same r j n v.no_turn)) (unmatched c (rw v.after at q) (rw v.after at u)));
    if_gave_up = λ q c u. fails_mono r x c 3 n (suc n) n (suc n) (omega arith) (omega arith)
        (p.if_gave_up (rw v.after at q) c (rw v.after at u));
    if_different = λ q. later_other n (p.if_different (rw v.after at q));
  }
    where
      unmatched : (c : ℕ) → (slot_at r x n).phase ≡ waiting → (slot_at r x n).progress ≡ 8 * c → ¬ Matches r x c n
      unmatched c q u t =
          let f = matches_ok r w x c n t in
          contradiction (awaits_true (state r n) f.0 (slot_of r x) (matches_awaited r x c n h u f.0 f.1 q))
          (v.unawaited f.0 f.1.is f.1.passes)
  asked_step n st h (ages v) p = record {
    asking = ap asks (kind_eq v.after ∙ aged_kind (slot_at r x n)) ∙ p.asking;
    got = λ c l. same_got c n v.kept (p.got c (rw progress at l));
    if_ready = λ q c u. subst (λ (s : ℕ). Fails r x c s (suc n) (suc n)) (sym sends)
        (fails_mono r x c (slot_at r x n).sends (suc n) (suc n) n (suc n) (omega arith) (omega arith)
        (ready_fails n c p v.call v.turned (sym phase ∙ q) (sym progress ∙ u)));
    if_waiting = if_waiting;
    if_gave_up = if_gave_up;
    if_different = λ q. later_other n (p.if_different (unaged_different (aging_at r w x n) (sym phase ∙ q)));
  }
    where
      unaged_different : Aging (slot_at r x n) → (aged (slot_at r x n)).phase ≡ different → (slot_at r x n).phase ≡ different
      unaged_different (unaged e f) q = phase_eq (sym e) ∙ q
      unaged_different (waits_on a) q = other_phase a.phase q refl
      unaged_different (ready_again a) q = other_phase a.phase q refl
      unaged_different (gives_up a) q = other_phase a.phase q refl

      phase : (slot_at r x (suc n)).phase ≡ (aged (slot_at r x n)).phase
      phase = phase_eq v.after

      progress : (slot_at r x (suc n)).progress ≡ (slot_at r x n).progress
      progress = progress_eq v.after ∙ aged_progress (slot_at r x n)

      sends : (slot_at r x (suc n)).sends ≡ (slot_at r x n).sends
      sends = sends_eq v.after ∙ aged_sends (slot_at r x n)

      if_waiting : (slot_at r x (suc n)).phase ≡ waiting → (c s : ℕ) → (slot_at r x (suc n)).progress ≡ 8 * c → (slot_at r x (suc n)).sends ≡ suc s
          → Pending r x c s (slot_at r x (suc n)).left (suc n)
      if_waiting q c s u z =
          let a = aged_waiting (slot_at r x n) (ok_at r w x n) (sym phase ∙ q) in
          wait_on r x c s (slot_at r x n).left (slot_at r x (suc n)).left n
          (p.if_waiting a.was.phase c s (sym progress ∙ u) (sym sends ∙ z))
          (λ j l. omega (arith, turns_more r j n v.turned l, a.left, left_eq v.after))
          (turn_unmatched r x c n v.call)

      if_gave_up : (slot_at r x (suc n)).phase ≡ gave_up → (c : ℕ) → (slot_at r x (suc n)).progress ≡ 8 * c → Fails r x c 3 (suc n) (suc n)
      if_gave_up q c u = go (aging_at r w x n)
        where
          go : Aging (slot_at r x n) → Fails r x c 3 (suc n) (suc n)
          go (unaged e f) = fails_mono r x c 3 n (suc n) n (suc n) (omega arith) (omega arith)
              (p.if_gave_up (phase_eq (sym e) ∙ sym phase ∙ q) c (sym progress ∙ u))
          go (waits_on a) = other_phase a.phase (sym phase ∙ q) refl
          go (ready_again a) = other_phase a.phase (sym phase ∙ q) refl
          go (gives_up a) =
              let pd : Pending r x c 2 (slot_at r x n).left n = p.if_waiting a.was.phase c 2 (sym progress ∙ u) a.third in
              fails_mono r x c 3 (suc n) (suc n) n (suc n) (omega arith) (omega arith)
              (expire r x c 2 n (subst (λ (l : ℕ). Pending r x c 2 l n) a.over pd) v.call v.turned)
  asked_step n st h (served v) p = record {
    asking = ap asks (kind_eq v.after ∙ sr.kind) ∙ asking;
    got = λ c l. same_got c n v.kept (p.got c (rw progress at l));
    if_ready = λ q. other_phase phase q refl;
    if_waiting = if_waiting;
    if_gave_up = λ q. other_phase phase q refl;
    if_different = λ q. other_phase phase q refl;
  }
    where
      same : Same (slot_at r x n) (aged (slot_at r x n))
      same = aged_same (slot_at r x n)

      asking : asks (aged (slot_at r x n)).kind ≡ true
      asking = ap asks (aged_kind (slot_at r x n)) ∙ p.asking

      sr : Requested (aged (slot_at r x n))
      sr = sent_read (aged (slot_at r x n)) asking

      phase : (slot_at r x (suc n)).phase ≡ waiting
      phase = phase_eq v.after ∙ sr.phase

      progress : (slot_at r x (suc n)).progress ≡ (slot_at r x n).progress
      progress = progress_eq v.after ∙ sr.progress ∙ aged_progress (slot_at r x n)

      if_waiting : (slot_at r x (suc n)).phase ≡ waiting → (c s : ℕ) → (slot_at r x (suc n)).progress ≡ 8 * c → (slot_at r x (suc n)).sends ≡ suc s
          → Pending r x c s (slot_at r x (suc n)).left (suc n)
      if_waiting q c s u z = record {
        j = n;
        before = omega arith;
        sent = record {
          stands = st;
          asks = asks_not_write x.ask (slot_at r x n).kind h.kind p.asking;
          chunk = omega (arith, at, v.ready.partway.below, same.count, h.count);
          turned = v.turned;
          yields = v.yields ∙ ap some (sends_request r w x c n (aged (slot_at r x n)) asking at (same.device ∙ h.device)
              (same.table ∙ h.table) (same.offset ∙ h.offset) (same.count ∙ h.count));
        };
        clock = omega (arith, turns_none r n (suc n) (omega arith), left_eq v.after, sr.left);
        unmatched = λ m l l'. absurd (omega arith);
        earlier = subst (λ (t : ℕ). Fails r x c t (suc n) n) same_sends
            (ready_fails n c p v.call v.turned v.ready.phase (sym progress ∙ u));
      }
        where
          at : (aged (slot_at r x n)).progress ≡ 8 * c
          at = aged_progress (slot_at r x n) ∙ sym progress ∙ u

          same_sends : (slot_at r x n).sends ≡ s
          same_sends = omega (arith, z, sends_eq v.after, sr.sends, aged_sends (slot_at r x n))
  asked_step n st h (taken v) p = record {
    asking = ap asks (kind_eq v.after ∙ advanced_kind (slot_at r x n)) ∙ p.asking;
    got = λ k l. got k l (dec_lt (8 * k) (slot_at r x n).progress);
    if_ready = λ q k u. subst (λ (s : ℕ). Fails r x k s (suc n) (suc n))
        (sym (sends_eq v.after ∙ advanced_sends (slot_at r x n))) tt;
    if_waiting = λ q. advanced_not (slot_at r x n) waiting (sym phase ∙ q) refl refl;
    if_gave_up = λ q. advanced_not (slot_at r x n) gave_up (sym phase ∙ q) refl refl;
    if_different = λ q. advanced_not (slot_at r x n) different (sym phase ∙ q) refl refl;
  }
    where
      phase : (slot_at r x (suc n)).phase ≡ (advanced (slot_at r x n)).phase
      phase = phase_eq v.after

      at : (slot_at r x n).progress ≡ 8 * v.waits.partway.chunk
      at = v.waits.partway.at

      replied : Replied r x v.waits.partway.chunk n
      replied = awaited_replied n v.f st h p v.call v.passes v.awaited v.waits

      len : length (content v.f) ≡ len_of r x v.waits.partway.chunk
      len = content_length v.f (subst Shaped v.call (w.shaped n)).1
          (omega (arith, v.awaited.len, len_eight (slot_at r x n).count (slot_at r x n).progress)) ∙ (rw (h.count, at) at v.awaited.len)

      got : (k : ℕ) → 8 * k < (slot_at r x (suc n)).progress → Dec (8 * k < (slot_at r x n).progress) → Got r x k (suc n)
      got k l (yes q) = record { m = g.m; before = omega (arith, g.before); replied = g.replied; kept = kept; equal = g.equal }
        where
          g : Got r x k n
          g = p.got k q

          kept : (j : ℕ) → j < len_of r x k → get_or (buffers r (suc n)).first (place r x k + j) 0 ≡ get_or (brought (r.calls g.m)) j 0
          kept j u = ap (λ (b : Buffers). get_or b.first (place r x k + j) 0) v.stored
              ∙ get_d_sets_below (buffers r n).first (128 * slot_of r x + (slot_at r x n).progress) (content v.f) (place r x k + j)
              (omega (arith, at, (len_small (ask_count x.ask) k j few u).1, q))
              ∙ g.kept j u
      got k l (no q) = record {
        m = n;
        before = omega arith;
        replied = subst (λ (t : ℕ). Replied r x t n) same replied;
        kept = kept;
        equal = λ e. rw (← same) (ap brought v.call ∙ agrees_same (slot_of r x) (slot_at r x n) (buffers r n).second v.f
            (compares_of x.ask (slot_at r x n).kind h.kind p.asking ∙ e) v.agrees ∙ there_given n v.f st h e v.waits v.awaited);
      }
        where
          same : v.waits.partway.chunk ≡ k
          same = omega (arith, at, l, progress_eq v.after, advanced_progress (slot_at r x n))

          pl : place r x k ≡ 128 * slot_of r x + (slot_at r x n).progress
          pl = ap (λ (t : ℕ). 128 * slot_of r x + t) (sym (at ∙ ap (λ (t : ℕ). 8 * t) same))

          kept : (j : ℕ) → j < len_of r x k → get_or (buffers r (suc n)).first (place r x k + j) 0 ≡ get_or (brought (r.calls n)) j 0
          kept j u =
              let ln : length (content v.f) ≡ len_of r x k = len ∙ ap (len_of r x) same in
              ap (λ (b : Buffers). get_or b.first (place r x k + j) 0) v.stored ∙ ap
              (λ (t : ℕ). get_or (sets (buffers r n).first (128 * slot_of r x + (slot_at r x n).progress) (content v.f)) (t + j) 0) pl
              ∙ get_d_sets_in (buffers r n).first (128 * slot_of r x + (slot_at r x n).progress) (content v.f) j
              (omega (
                arith,
                (storage_sound r w n).1.0,
                (opened_at r w x).bound,
                few,
                len,
                len_inside (ask_count x.ask) (8 * v.waits.partway.chunk) (omega (arith, at, v.waits.partway.below, h.count)),
                at,
              )) (omega (arith, ln))
              ∙ ap (λ (t : Call). get_or (brought t) j 0) (sym v.call)
  asked_step n st h (disagreed v) p =
      let d = differed_is (slot_at r x n) in
      let phase : (slot_at r x (suc n)).phase ≡ different = phase_eq v.after ∙ d.phase in
      let c : compares (slot_at r x n).kind ≡ true = differs_compares (slot_of r x) (slot_at r x n) (buffers r n).second v.f v.other in
      record {
        asking = ap asks (kind_eq v.after ∙ d.kind) ∙ p.asking;
        got = λ k l. same_got k n v.kept (p.got k (rw (progress_eq v.after ∙ d.progress) at l));
        if_ready = λ q. other_phase phase q refl;
        if_waiting = λ q. other_phase phase q refl;
        if_gave_up = λ q. other_phase phase q refl;
        if_different = λ q. record {
          c = v.waits.partway.chunk;
          m = n;
          before = omega arith;
          replied = awaited_replied n v.f st h p v.call v.passes v.awaited v.waits;
          other = λ e. differs_other (slot_of r x) (slot_at r x n) (buffers r n).second v.f v.other (sym (ap brought v.call) ∙ e
              ∙ sym (there_given n v.f st h (compares_check x.ask (slot_at r x n).kind h.kind c) v.waits v.awaited));
        };
      }

  pub asked_so_far : (b : ℕ) → Begins r x b → asks (slot_at r x b).kind ≡ true → (n : ℕ) → b ≤ n → Stands r x n → AskedSoFar r x n
  asked_so_far b g a = along_from r w x b g.since (AskedSoFar r x) (asked_begin b g a)
      (λ n s l. asked_step n (stands_before r w x n s (omega (arith, g.since))))

  -- a read begins to ask at its opening
  pub read_so_far : is_read x.ask ≡ true → (n : ℕ) → Stands r x n → AskedSoFar r x n
  read_so_far rd n s = asked_so_far (suc x.at) (begins_open r w x)
      (asks_of x.ask (slot_at r x (suc x.at)).kind (held r w x (suc x.at) (opened_stands r w x)).kind rd) n s.0 s

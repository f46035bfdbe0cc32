-- The test `sound` passes exactly where the facts of a sound state hold.
use Prim.Native.Nat.{ℕ, zero, suc, ◌/◌, ◌%◌, ◌≤◌, ◌<◌}
use mathlib.Core.Path.{◌≡◌, refl, sym, ap}
use mathlib.Core.Logic.{inl, inr, ◌≢◌}
use mathlib.Core.List.{List, [], ◌∷◌}
use mathlib.Core.Bool.{Bool, true, false, cond, not, ◌&&◌, ◌||◌, false≢true}
use native.Mathlib.Omega.{arith}
use native.Mathlib.Decide.{ℕ_discrete, dec_le}
use lib.ListN.{length, get_or}
use lib.Dec.{leb, ltb, eqb}
use borrow.Author.Tests.{not-true, eqb-true, eqb-false, ne_eqb, eq-eqb, lt-ltb, le-leb, ltb-true, leb-true}
use Rattle.bridge_rules.specs.State.{Bridge, Slot, free, ready, waiting, done, gave_up, different, is_zero, is_free, blank, slot, partway, ask_number}
use Rattle.bridge_rules.specs.State.{asks, carries, checking, compares}
use Rattle.bridge_rules.specs.State.{sound_phase, sound_slot, sound_slots, sound_rests, absent, distinct, sound}
use Rattle.bridge_rules.proofs.KindTests.{KnownKind, carries_only, known_tested, tested_known}
use Rattle.bridge_rules.proofs.NumberLaws.{args_lawful, args_clear}
use Rattle.bridge_rules.proofs.Search.{and_intro, and-true, contradiction}
use Rattle.bridge_rules.proofs.SlotOk.{HeldOk, Partway, SlotOk, ok_free, ok_ready, ok_waiting, ok_done, ok_gave_up, ok_different, ticket_eq}

-- four slots' turns left to rest, each at most 60
abbrev pub RestsOk : List ℕ → Type 0
RestsOk l = (length l ≡ 4) × ((k : ℕ) → k < 4 → get_or l k 0 ≤ 60)

pub record Sound (s : Bridge) : Type 0 where
  pub own : s.own ≤ 15
  pub last : s.last ≤ 3
  pub issued : s.issued ≤ 4294967295
  pub four : length s.slots ≡ 4
  pub rests : RestsOk s.rests
  pub each : (k : ℕ) → k < 4 → SlotOk (slot s k)
  pub given : (k : ℕ) → k < 4 → (slot s k).ticket ≤ s.issued
  pub apart : (k j : ℕ) → k < 4 → j < 4 → k ≢ j → 0 < (slot s k).ticket → (slot s k).ticket ≢ (slot s j).ticket

-- ── from the facts to the test ─────────────────────────────────────────────────────────────────────────────────────

partway_mod : (x : Slot) → Partway x → eqb (x.progress % 8) 0 ≡ true
partway_mod x m = eq-eqb (x.progress % 8) 0 (omega (arith, m.at))

partway_below : (x : Slot) → Partway x → ltb x.progress x.count ≡ true
partway_below x m = lt-ltb x.progress x.count m.below

held_true : (t : ℕ) (x : Slot) → HeldOk x → x.ticket ≤ t → is_free x.phase ≡ false
    → sound_phase x.phase x.kind x.count x.progress x.sends x.left ≡ true → sound_slot t x ≡ true
unfolding sound_slot
held_true t x h g e p =
    let args : is_zero (ask_number x.device x.table x.offset x.count) ≡ true = eq-eqb _ 0 (args_clear _ _ _ _ h.args) in
    rw (e, known_tested x.kind h.kind, lt-ltb 0 x.ticket h.ticket, le-leb x.ticket t g, args) p

free_true : (t : ℕ) → sound_slot t blank ≡ true
unfolding sound_slot
free_true t = refl

slot_true : (t : ℕ) (x : Slot) → SlotOk x → x.ticket ≤ t → sound_slot t x ≡ true
unfolding sound_phase
slot_true t x (ok_free e) g = rw e (free_true t)
slot_true t x (ok_ready r) g = held_true t x r.held g (ap is_free r.phase)
    (rw (r.phase, partway_mod x r.partway, partway_below x r.partway, eq-eqb x.left 0 r.left)
    (go (asks x.kind) refl r.held.kind))
  where
    go : (b : Bool) → asks x.kind ≡ b → KnownKind x.kind → (leb x.sends (cond b 2 0) && true) ≡ true
    go true e k = rw (le-leb x.sends 2 r.sends)
    go false e (inl k) = rw (le-leb x.sends 0 (omega (arith, r.unsent k)))
    go false e (inr k) = contradiction k e
slot_true t x (ok_waiting w) g = held_true t x w.held g (ap is_free w.phase)
    (rw (
      w.phase,
      w.asking,
      partway_mod x w.partway,
      partway_below x w.partway,
      lt-ltb 0 x.sends w.once,
      le-leb x.sends 3 w.thrice,
      lt-ltb 0 x.left w.some,
      le-leb x.left 20 w.few,
    ))
slot_true t x (ok_done d) g = held_true t x d.held g (ap is_free d.phase)
    (rw (
      d.phase,
      d.not_checking,
      eq-eqb x.progress x.count d.whole,
      eq-eqb x.sends 0 d.sends,
      eq-eqb x.left 0 d.left,
    ))
slot_true t x (ok_gave_up u) g = held_true t x u.held g (ap is_free u.phase)
    (rw (
      u.phase,
      u.asking,
      partway_mod x u.partway,
      partway_below x u.partway,
      eq-eqb x.sends 3 u.sends,
      eq-eqb x.left 0 u.left,
    ))
slot_true t x (ok_different u) g = held_true t x u.held g (ap is_free u.phase)
    (rw (
      u.phase,
      u.comparing,
      partway_mod x u.partway,
      partway_below x u.partway,
      eq-eqb x.sends 0 u.sends,
      eq-eqb x.left 0 u.left,
    ))

slots_true : (t : ℕ) (l : List Slot) → ((k : ℕ) → k < length l → SlotOk (get_or l k blank) × ((get_or l k blank).ticket ≤ t))
    → sound_slots t l ≡ true
unfolding sound_slots
slots_true t [] h = refl
slots_true t (x ∷ xs) h =
    let f = h 0 (omega arith) in
    and_intro (sound_slot t x) (sound_slots t xs) (slot_true t x f.0 f.1) (slots_true t xs (λ k l. h (suc k) (omega arith)))

absent_true : (t : ℕ) (l : List Slot) → 0 < t → ((k : ℕ) → k < length l → t ≢ (get_or l k blank).ticket) → absent t l ≡ true
unfolding absent
absent_true t [] p h = refl
absent_true t (x ∷ xs) p h =
    and_intro (eqb t 0 || not (eqb x.ticket t)) (absent t xs)
    (rw (ne_eqb t 0 (λ z. omega arith), ne_eqb x.ticket t (λ z. h 0 (omega arith) (sym z))))
    (absent_true t xs p (λ k l. h (suc k) (omega arith)))

absent_zero : (t : ℕ) (l : List Slot) → t ≡ 0 → absent t l ≡ true
unfolding absent
absent_zero t [] e = refl
absent_zero t (x ∷ xs) e = rw (eq-eqb t 0 e) (absent_zero t xs e)

distinct_true : (l : List Slot) → ((k j : ℕ) → k < length l → j < length l → k ≢ j → 0 < (get_or l k blank).ticket
    → (get_or l k blank).ticket ≢ (get_or l j blank).ticket) → distinct l ≡ true
unfolding distinct
distinct_true [] h = refl
distinct_true (x ∷ xs) h = and_intro (absent x.ticket xs) (distinct xs) (go (dec_le x.ticket 0))
    (distinct_true xs (λ k j l m d. h (suc k) (suc j) (omega arith) (omega arith) (λ z. d (omega arith))))
  where
    go : Dec (x.ticket ≤ 0) → absent x.ticket xs ≡ true
    go (yes p) = absent_zero x.ticket xs (omega arith)
    go (no p) = absent_true x.ticket xs (omega arith) (λ k l. h 0 (suc k) (omega arith) (omega arith) (λ z. omega arith) (omega arith))

rests_true : (l : List ℕ) → ((k : ℕ) → k < length l → get_or l k 0 ≤ 60) → sound_rests l ≡ true
unfolding sound_rests
rests_true [] h = refl
rests_true (n ∷ ns) h =
    and_intro (leb n 60) (sound_rests ns) (le-leb n 60 (h 0 (omega arith))) (rests_true ns (λ k l. h (suc k) (omega arith)))

pub sound_true : (s : Bridge) → Sound s → sound s ≡ true
unfolding sound slot
sound_true s h =
    rw (
      le-leb s.own 15 h.own,
      le-leb s.last 3 h.last,
      le-leb s.issued 4294967295 h.issued,
      eq-eqb (length s.slots) 4 h.four,
      eq-eqb (length s.rests) 4 h.rests.0,
      rests_true s.rests (λ k l. h.rests.1 k (omega (arith, h.rests.0))),
      slots_true s.issued s.slots (λ k l. (h.each k (omega (arith, h.four)), h.given k (omega (arith, h.four)))),
      distinct_true s.slots (λ k j l m. h.apart k j (omega (arith, h.four)) (omega (arith, h.four))),
    )

-- ── from the test to the facts ─────────────────────────────────────────────────────────────────────────────────────

zero_true : (n : ℕ) → is_zero n ≡ true → n ≡ 0
zero_true n e = eqb-true n 0 e

true_free : (t : ℕ) (x : Slot) → x.phase ≡ free → sound_slot t x ≡ true → x ≡ blank
unfolding sound_slot
true_free t x e h =
    let h0 : (is_zero x.kind && is_zero x.ticket && is_zero x.device && is_zero x.table && is_zero x.offset
    && is_zero x.count && is_zero x.progress && is_zero x.sends && is_zero x.left) ≡ true = rw (ap is_free e) at h in
    let a1 = and-true _ (is_zero x.left) h0 in
    let a2 = and-true _ (is_zero x.sends) a1.0 in
    let a3 = and-true _ (is_zero x.progress) a2.0 in
    let a4 = and-true _ (is_zero x.count) a3.0 in
    let a5 = and-true _ (is_zero x.offset) a4.0 in
    let a6 = and-true _ (is_zero x.table) a5.0 in
    let a7 = and-true _ (is_zero x.device) a6.0 in
    let a8 = and-true (is_zero x.kind) (is_zero x.ticket) a7.0 in
    let kind : x.kind ≡ 0 = zero_true _ a8.0 in
    let ticket : x.ticket ≡ 0 = zero_true _ a8.1 in
    let device : x.device ≡ 0 = zero_true _ a7.1 in
    let table : x.table ≡ 0 = zero_true _ a6.1 in
    let offset : x.offset ≡ 0 = zero_true _ a5.1 in
    let count : x.count ≡ 0 = zero_true _ a4.1 in
    let progress : x.progress ≡ 0 = zero_true _ a3.1 in
    let sends : x.sends ≡ 0 = zero_true _ a2.1 in
    let left : x.left ≡ 0 = zero_true _ a1.1 in
    let z : record {
      phase = x.phase;
      kind = x.kind;
      ticket = x.ticket;
      device = x.device;
      table = x.table;
      offset = x.offset;
      count = x.count;
      progress = x.progress;
      sends = x.sends;
      left = x.left;
    } ≡ blank = cc in
    z

-- a slot that is not free: what every held slot has, and the test of its phase
record HeldTrue (t : ℕ) (x : Slot) : Type 0 where
  held : HeldOk x
  given : x.ticket ≤ t
  phase : sound_phase x.phase x.kind x.count x.progress x.sends x.left ≡ true

true_held : (t : ℕ) (x : Slot) → is_free x.phase ≡ false → sound_slot t x ≡ true → HeldTrue t x
unfolding sound_slot
true_held t x e h =
    let h0 : ((asks x.kind || carries x.kind) && ltb 0 x.ticket && leb x.ticket t
    && is_zero (ask_number x.device x.table x.offset x.count)
    && sound_phase x.phase x.kind x.count x.progress x.sends x.left) ≡ true = rw e at h in
    let a1 = and-true _ (sound_phase x.phase x.kind x.count x.progress x.sends x.left) h0 in
    let a2 = and-true _ (is_zero (ask_number x.device x.table x.offset x.count)) a1.0 in
    let a3 = and-true _ (leb x.ticket t) a2.0 in
    let a4 = and-true (asks x.kind || carries x.kind) (ltb 0 x.ticket) a3.0 in
    record {
      held = record {
        kind = tested_known x.kind a4.0;
        ticket = ltb-true _ _ a4.1;
        args = args_lawful _ _ _ _ (eqb-true _ 0 a2.1);
      };
      given = leb-true _ _ a3.1;
      phase = a1.1;
    }

partway_true : (x : Slot) → partway x.count x.progress ≡ true → Partway x
partway_true x h =
    let a = and-true (eqb (x.progress % 8) 0) (ltb x.progress x.count) h in
    let z : x.progress % 8 ≡ 0 = eqb-true _ 0 a.0 in
    record { chunk = x.progress / 8; at = omega arith; below = ltb-true _ _ a.1 }

module _ (t : ℕ) (x : Slot) (h : HeldTrue t x) where
  true_ready : x.phase ≡ ready → SlotOk x
  unfolding sound_phase
  true_ready e =
      let h0 : (partway x.count x.progress && leb x.sends (cond (asks x.kind) 2 0) && is_zero x.left) ≡ true
      = rw e at h.phase in
      let a1 = and-true _ (is_zero x.left) h0 in
      let a2 = and-true _ (leb x.sends (cond (asks x.kind) 2 0)) a1.0 in
      let few = leb-true x.sends (cond (asks x.kind) 2 0) a2.1 in
      ok_ready (record {
        phase = e;
        held = h.held;
        partway = partway_true x a2.0;
        sends = two (asks x.kind) few;
        unsent = λ w. none (asks x.kind) (carries_only x.kind w) few;
        left = zero_true _ a1.1;
      })
    where
      two : (w : Bool) → x.sends ≤ cond w 2 0 → x.sends ≤ 2
      two true l = l
      two false l = omega arith

      none : (w : Bool) → w ≡ false → x.sends ≤ cond w 2 0 → x.sends ≡ 0
      none true q l = contradiction refl q
      none false q l = omega arith

  true_waiting : x.phase ≡ waiting → SlotOk x
  unfolding sound_phase
  true_waiting e =
      let h0 : (partway x.count x.progress && asks x.kind && ltb 0 x.sends && leb x.sends 3 && ltb 0 x.left
      && leb x.left 20) ≡ true = rw e at h.phase in
      let a1 = and-true _ (leb x.left 20) h0 in
      let a2 = and-true _ (ltb 0 x.left) a1.0 in
      let a3 = and-true _ (leb x.sends 3) a2.0 in
      let a4 = and-true _ (ltb 0 x.sends) a3.0 in
      let a5 = and-true _ (asks x.kind) a4.0 in
      ok_waiting (record {
        phase = e;
        held = h.held;
        partway = partway_true x a5.0;
        asking = a5.1;
        once = ltb-true _ _ a4.1;
        thrice = leb-true _ _ a3.1;
        some = ltb-true _ _ a2.1;
        few = leb-true _ _ a1.1;
      })

  true_done : x.phase ≡ done → SlotOk x
  unfolding sound_phase
  true_done e =
      let h0 : (not (checking x.kind) && eqb x.progress x.count && is_zero x.sends && is_zero x.left) ≡ true
      = rw e at h.phase in
      let a1 = and-true _ (is_zero x.left) h0 in
      let a2 = and-true _ (is_zero x.sends) a1.0 in
      let a3 = and-true (not (checking x.kind)) (eqb x.progress x.count) a2.0 in
      ok_done (record {
        phase = e;
        held = h.held;
        not_checking = not-true _ a3.0;
        whole = eqb-true _ _ a3.1;
        sends = zero_true _ a2.1;
        left = zero_true _ a1.1;
      })

  true_gave_up : x.phase ≡ gave_up → SlotOk x
  unfolding sound_phase
  true_gave_up e =
      let h0 : (partway x.count x.progress && asks x.kind && eqb x.sends 3 && is_zero x.left) ≡ true
      = rw e at h.phase in
      let a1 = and-true _ (is_zero x.left) h0 in
      let a2 = and-true _ (eqb x.sends 3) a1.0 in
      let a3 = and-true _ (asks x.kind) a2.0 in
      ok_gave_up (record {
        phase = e;
        held = h.held;
        partway = partway_true x a3.0;
        asking = a3.1;
        sends = eqb-true _ 3 a2.1;
        left = zero_true _ a1.1;
      })

  true_different : x.phase ≡ different → SlotOk x
  unfolding sound_phase
  true_different e =
      let h0 : (partway x.count x.progress && compares x.kind && is_zero x.sends && is_zero x.left) ≡ true
      = rw e at h.phase in
      let a1 = and-true _ (is_zero x.left) h0 in
      let a2 = and-true _ (is_zero x.sends) a1.0 in
      let a3 = and-true _ (compares x.kind) a2.0 in
      ok_different (record {
        phase = e;
        held = h.held;
        partway = partway_true x a3.0;
        comparing = a3.1;
        sends = zero_true _ a2.1;
        left = zero_true _ a1.1;
      })

  true_phase : x.phase ≢ free → SlotOk x
  unfolding sound_phase
  true_phase f = go (ℕ_discrete x.phase ready) (ℕ_discrete x.phase waiting) (ℕ_discrete x.phase done)
      (ℕ_discrete x.phase gave_up) (ℕ_discrete x.phase different)
    where
      go : Dec (x.phase ≡ ready) → Dec (x.phase ≡ waiting) → Dec (x.phase ≡ done) → Dec (x.phase ≡ gave_up) → Dec (x.phase ≡ different)
          → SlotOk x
      go (yes e) b c d f = true_ready e
      go (no a) (yes e) c d f = true_waiting e
      go (no a) (no b) (yes e) d f = true_done e
      go (no a) (no b) (no c) (yes e) f = true_gave_up e
      go (no a) (no b) (no c) (no d) (yes e) = true_different e
      go (no a) (no b) (no c) (no d) (no f) = absurd (false≢true (rw (
        ne_eqb x.phase ready a,
        ne_eqb x.phase waiting b,
        ne_eqb x.phase done c,
        ne_eqb x.phase gave_up d,
        ne_eqb x.phase different f,
      ) at h.phase))

true_slot : (t : ℕ) (x : Slot) → sound_slot t x ≡ true → SlotOk x × (x.ticket ≤ t)
true_slot t x h = go (ℕ_discrete x.phase free)
  where
    go : Dec (x.phase ≡ free) → SlotOk x × (x.ticket ≤ t)
    go (yes e) = let z : x ≡ blank = true_free t x e h in (ok_free z, omega (arith, ticket_eq z))
    go (no e) = let k : HeldTrue t x = true_held t x (ne_eqb x.phase free e) h in (true_phase t x k e, k.given)

true_slots : (t : ℕ) (l : List Slot) → sound_slots t l ≡ true → (k : ℕ) → k < length l
    → SlotOk (get_or l k blank) × ((get_or l k blank).ticket ≤ t)
unfolding sound_slots
true_slots t [] h k l = absurd (omega arith)
true_slots t (x ∷ xs) h zero l = true_slot t x (and-true (sound_slot t x) (sound_slots t xs) h).0
true_slots t (x ∷ xs) h (suc k) l = true_slots t xs (and-true (sound_slot t x) (sound_slots t xs) h).1 k (omega arith)

true_absent : (t : ℕ) (l : List Slot) → absent t l ≡ true → 0 < t → (k : ℕ) → k < length l → t ≢ (get_or l k blank).ticket
unfolding absent
true_absent t [] h p k l = absurd (omega arith)
true_absent t (x ∷ xs) h p zero l =
    let a = (and-true (eqb t 0 || not (eqb x.ticket t)) (absent t xs) h).0 in
    let b : not (eqb x.ticket t) ≡ true = rw (ne_eqb t 0 (λ z. omega arith)) at a in
    λ z. eqb-false x.ticket t (not-true _ b) (sym z)
true_absent t (x ∷ xs) h p (suc k) l = true_absent t xs (and-true (eqb t 0 || not (eqb x.ticket t)) (absent t xs) h).1 p k (omega arith)

true_distinct : (l : List Slot) → distinct l ≡ true → (k j : ℕ) → k < length l → j < length l → k ≢ j → 0 < (get_or l k blank).ticket
    → (get_or l k blank).ticket ≢ (get_or l j blank).ticket
unfolding distinct
true_distinct [] h k j a b d p = absurd (omega arith)
true_distinct (x ∷ xs) h zero zero a b d p = absurd (d refl)
true_distinct (x ∷ xs) h zero (suc j) a b d p = true_absent x.ticket xs (and-true (absent x.ticket xs) (distinct xs) h).0 p j
    (omega arith)
true_distinct (x ∷ xs) h (suc k) zero a b d p =
    λ z. true_absent x.ticket xs (and-true (absent x.ticket xs) (distinct xs) h).0 (omega (arith, p, z)) k (omega arith) (sym z)
true_distinct (x ∷ xs) h (suc k) (suc j) a b d p =
    true_distinct xs (and-true (absent x.ticket xs) (distinct xs) h).1 k j (omega arith) (omega arith) (λ z. d (ap suc z)) p

true_rests : (l : List ℕ) → sound_rests l ≡ true → (k : ℕ) → k < length l → get_or l k 0 ≤ 60
unfolding sound_rests
true_rests [] h k l = absurd (omega arith)
true_rests (n ∷ ns) h zero l = leb-true n 60 (and-true (leb n 60) (sound_rests ns) h).0
true_rests (n ∷ ns) h (suc k) l = true_rests ns (and-true (leb n 60) (sound_rests ns) h).1 k (omega arith)

pub true_sound : (s : Bridge) → sound s ≡ true → Sound s
unfolding sound slot
true_sound s h =
    let a1 = and-true _ (distinct s.slots) h in
    let a2 = and-true _ (sound_slots s.issued s.slots) a1.0 in
    let a3 = and-true _ (sound_rests s.rests) a2.0 in
    let a4 = and-true _ (eqb (length s.rests) 4) a3.0 in
    let a5 = and-true _ (eqb (length s.slots) 4) a4.0 in
    let a6 = and-true _ (leb s.issued 4294967295) a5.0 in
    let a7 = and-true (leb s.own 15) (leb s.last 3) a6.0 in
    let four : length s.slots ≡ 4 = eqb-true _ 4 a5.1 in
    let four_rests : length s.rests ≡ 4 = eqb-true _ 4 a4.1 in
    record {
      own = leb-true _ _ a7.0;
      last = leb-true _ _ a7.1;
      issued = leb-true _ _ a6.1;
      four = four;
      rests = (four_rests, λ k l. true_rests s.rests a3.1 k (omega arith));
      each = λ k l. (true_slots s.issued s.slots a2.1 k (omega arith)).0;
      given = λ k l. (true_slots s.issued s.slots a2.1 k (omega arith)).1;
      apart = λ k j l m d p. true_distinct s.slots a1.1 k j (omega arith) (omega arith) d p;
    }

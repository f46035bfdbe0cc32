-- In a run, each call's number is given exactly when the paper says, by the calls and their answers.
use Prim.Native.Nat.{ℕ, suc, ◌^◌, ◌≤◌, ◌<◌}
use mathlib.Core.Path.{◌≡◌, refl, sym, ◌∙◌, ap, subst}
use mathlib.Core.Logic.{◌↔◌, ◌⊎◌, inl, inr, ◌≢◌}
use mathlib.Core.List.{List}
use mathlib.Core.Option.{none, some}
use mathlib.Core.Bool.{true, false, not}
use native.Mathlib.Omega.{arith}
use lib.ListN.{length}
use lib.Dec.{leb, ltb, eqb}
use borrow.Author.Tests.{ne_eqb}
use Rattle.bus_rules.specs.Frames.{rsp, head_number}
use Rattle.bus_rules.specs.Ident.{id_spare, id_to, id_kind}
use Rattle.wire.specs.Order.{◌if◌else◌, ◌or_else◌}
use Rattle.wire.specs.First.{First, Zero}
use Rattle.wire.proofs.Orders.{if_zero, else_zero, if_or_else, zero_or_else, or_else_or_else}
use Rattle.bridge_rules.specs.State.{Frame, Bridge, waiting, next_ready, held_slot, slot, sound, is_free, is_none, lowest_free, lowest_givable}
use Rattle.bridge_rules.specs.Answers.{Buffers, right_lengths, lent_number, plain}
use Rattle.bridge_rules.specs.Opening.{Ask, open_of}
use Rattle.bridge_rules.specs.Turn.{turn_of, aged_bridge}
use Rattle.bridge_rules.specs.Incoming.{take_for, frame_of, reply_number, content_number, awaits, awaiting}
use Rattle.bridge_rules.specs.Ending.{reset_number, bytes_of, span_of, bytes_number, close_of, close_number, reset_of}
use Rattle.bridge_rules.specs.Call.{bytes, turn, frame, close, reset, Call, Lent, its_own, other, opening, step}
use Rattle.bridge_rules.specs.Run.{ticket, Run, Lawful, Shaped, Transfer, Stands, slot_of, state, buffers, answer, ledger}
use Rattle.bridge_rules.specs.Replies.{Replied, Resting}
use Rattle.bridge_rules.specs.Demand3.{HeldAt}
use Rattle.bridge_rules.specs.Calls.{FrameInRun, NumbersInRun, NumbersInRuns, OpeningInRun}
use Rattle.bridge_rules.proofs.NumberLaws.{RightLengths, lent_clear, lent_ten, open_later, open_ten, reply_later, reply_ten}
use Rattle.wire.proofs.RefusalChains.{first_if, not_test, leb_test, ltb_test, eqb_test}
use Rattle.bridge_rules.proofs.OpeningNumbers.{after_lent, AfterLent, chain, full, none_givable, unless_number, number_is}
use Rattle.bridge_rules.proofs.RefusalsKeep.{sends_zero}
use Rattle.bridge_rules.proofs.Search.{contradiction, Lowest, lowest_some, lowest_none, option_cases}
use Rattle.bridge_rules.proofs.AwaitsTest.{awaits_ok}
use Rattle.bridge_rules.proofs.SlotOk.{WaitOk, wait_ok}
use Rattle.bridge_rules.proofs.SoundTest.{sound_true}
use Rattle.bridge_rules.proofs.SoundRuns.{storage_sound}
use Rattle.bridge_rules.proofs.LedgerAgrees.{own_is, agrees}
use Rattle.bridge_rules.proofs.Standing.{slot_at, Held, held, ok_at, held_slot_lem, opened_at}
use Rattle.bridge_rules.proofs.Status.{held_by}
use Rattle.bridge_rules.proofs.Matching.{matches_ok}
use Rattle.bridge_rules.proofs.AskedSoFar.{awaited_replied}
use Rattle.bridge_rules.proofs.ReadingBack.{asked_so_far_at}
use Rattle.bridge_rules.proofs.RepliesInOrder.{reply_awaited}
use Rattle.bridge_rules.proofs.SlotHolders.{no_holder, known_holder, occupied}
use Rattle.bridge_rules.proofs.RestedSlots.{not_given_lem, kept_back}

-- 10 by the buffers lent
own_first : (k m : ℕ) (rest : ℕ → Type 0) → (k ≡ m) ↔ rest m → (k ≡ m) ↔ First (◌≢◌ {A = Lent Buffers} its_own its_own) 10 rest m
own_first k m rest c = (λ e. inr (λ f. f refl, c.0 e), back)
  where
    back : First (◌≢◌ {A = Lent Buffers} its_own its_own) 10 rest m → k ≡ m
    back (inl p) = absurd (p.0 refl)
    back (inr p) = c.1 p.1

other_first : (k m : ℕ) (b : Buffers) (rest : ℕ → Type 0) → k ≡ 10 → (k ≡ m) ↔ First (other b ≢ its_own) 10 rest m
other_first k m b rest q = (λ e. inl (apart, sym e ∙ q), back)
  where
    apart : other b ≢ its_own
    apart e = let z : ◌≡◌ {A = ℕ} 0 1 = cc in omega arith

    back : First (other b ≢ its_own) 10 rest m → k ≡ m
    back (inl p) = q ∙ sym p.1
    back (inr p) = absurd (p.0 apart)

-- the number of each call is its refusal
turn_number : (s : Bridge) (b : Buffers) → (turn_of s b).answer.number ≡ lent_number s (right_lengths b)
unfolding turn_of
turn_number s b = unless_number (lent_number s (right_lengths b)) _ s b (sends_zero (aged_bridge s) b (next_ready (aged_bridge s)))

frame_number : (s : Bridge) (b : Buffers) (f : Frame) → (frame_of s b f).answer.number ≡ reply_number s (right_lengths b) f
unfolding frame_of take_for
frame_number s b f = unless_number (reply_number s (right_lengths b) f) _ s b refl

close_number_lem : (s : Bridge) (t : ℕ) → sound s ≡ true → (close_of s t).number ≡ (14 if is_none (held_slot s t) else 0)
unfolding close_of close_number ◌if◌else◌
close_number_lem s t p = rw p

reset_number_lem : (s : Bridge) (o : ℕ) → (reset_of s o).number ≡ (11 if ltb 15 o else 0)
unfolding reset_of reset_number
reset_number_lem s o = refl

-- a frame's refusals as one chain
abbrev frame_chain : ℕ → Frame → ℕ → ℕ
frame_chain own f rest =
    1 if leb (2 ^ 29) f.id
    else 2 if not (eqb (id_spare f.id) 0)
    else 3 if ltb 8 f.len
    else 4 if not (eqb (id_to f.id) own)
    else 5 if not (eqb (id_kind f.id) rsp)
    else rest

head_chain : (own : ℕ) (f : Frame) (x : ℕ) → (head_number own f or_else x)
    ≡ (1 if leb (2 ^ 29) f.id else 2 if not (eqb (id_spare f.id) 0) else 3 if ltb 8 f.len
    else 4 if not (eqb (id_to f.id) own) else x)
unfolding head_number
head_chain own f x = rw (if_or_else, if_or_else, if_or_else, if_or_else, zero_or_else)

content_chain : (own : ℕ) (f : Frame) (rest : ℕ) → (content_number own f or_else rest) ≡ frame_chain own f rest
unfolding content_number
content_chain own f rest = rw (or_else_or_else, if_or_else 4 (not (eqb (id_kind f.id) rsp)) 0 rest, zero_or_else) (head_chain own f _)

content_clear : (own : ℕ) (f : Frame) → leb (2 ^ 29) f.id ≡ false → not (eqb (id_spare f.id) 0) ≡ false → ltb 8 f.len ≡ false
    → not (eqb (id_to f.id) own) ≡ false → not (eqb (id_kind f.id) rsp) ≡ false → content_number own f ≡ 0
unfolding content_number head_number ◌if◌else◌ ◌or_else◌
content_clear own f a b c d e = rw (a, b, c, d, e)

module _ (r : Run) (w : Lawful r) (n : ℕ) where
  ss : sound (state r n) ≡ true
  ss = sound_true (state r n) (storage_sound r w n).0

  lb : RightLengths (buffers r n)
  lb = (storage_sound r w n).1

  -- openings: a slot is held exactly by a transfer that stands
  held_slots : (is_none (lowest_free (state r n)) ≡ true) ↔ ((k : ℕ) → k < 4 → HeldAt r k n)
  held_slots = (λ e k l. occupied r w n k l ((full (state r n)).0 e k l), λ f. (full (state r n)).1 (λ k l. taken k l (f k l)))
    where
      taken : (k : ℕ) → k < 4 → HeldAt r k n → is_free (slot (state r n) k).phase ≡ false
      taken k l (x, s, e) = rw e at (held_slot_lem r w x n s)

  -- one that an opening may not take is held or rests
  given_slots : (is_none (lowest_givable (state r n)) ≡ true) ↔ ((k : ℕ) → k < 4 → HeldAt r k n ⊎ Resting r k n)
  given_slots = (
    λ e k l. not_given_lem r w n k l ((none_givable (state r n)).0 e k l),
    λ f. (none_givable (state r n)).1 (λ k l. kept_back r w n k l (f k l)),
  )

  tickets_used : (4294967295 ≤ (state r n).issued) ↔ (4294967295 ≤ (ledger r n).issued)
  tickets_used = (λ l. omega (arith, (agrees r w n).issued), λ l. omega (arith, (agrees r w n).issued))

  abbrev Full : Type 0
  Full = (k : ℕ) → k < 4 → HeldAt r k n

  abbrev Rests : Type 0
  Rests = (k : ℕ) → k < 4 → HeldAt r k n ⊎ Resting r k n

  abbrev Used : Type 0
  Used = 4294967295 ≤ (ledger r n).issued

  opening_number : (l : Lent Buffers) (a : Ask) → Shaped (opening l a) → (m : ℕ)
      → ((step (state r n) (buffers r n) (opening l a)).answer.number ≡ m) ↔ OpeningInRun r n l a m
  unfolding step
  opening_number its_own a d m = own_first _ m (AfterLent a Full Rests Used) (λ e. c.0 (sym q ∙ e), λ p. q ∙ c.1 p)
    where
      q : (open_of (state r n) (buffers r n) a).answer.number ≡ after_lent (state r n) a
      q = number_is (state r n) (buffers r n) a ∙ open_later (state r n) (buffers r n) a ss lb

      c : (after_lent (state r n) a ≡ m) ↔ AfterLent a Full Rests Used m
      c = chain (state r n) a m Full Rests Used held_slots given_slots tickets_used
  opening_number (other b) a d m = other_first _ m b (AfterLent a Full Rests Used) (number_is (state r n) b a ∙ open_ten (state r n) b a ss d)

  turns_number : (l : Lent Buffers) → Shaped (turn l) → (m : ℕ)
      → ((step (state r n) (buffers r n) (turn l)).answer.number ≡ m) ↔ First (l ≢ its_own) 10 Zero m
  unfolding step
  turns_number its_own d m =
      let q : (turn_of (state r n) (buffers r n)).answer.number ≡ 0 = turn_number (state r n) (buffers r n)
      ∙ lent_clear (state r n) (buffers r n) ss lb in
      own_first _ m Zero (λ e. sym e ∙ q, λ e. q ∙ sym e)
  turns_number (other b) d m = other_first _ m b Zero (turn_number (state r n) b ∙ lent_ten (state r n) b ss d)

  -- frames: a slot awaits a frame that 1 to 5 do not refuse exactly where it is a read's or a checked write's reply
  module _ (f : Frame) (e : r.calls n ≡ frame its_own f) (z : content_number (state r n).own f ≡ 0) where
    is_reply : (k : ℕ) → k < 4 → awaits (state r n) f k ≡ true → (x : Transfer r) × (c : ℕ) × Replied r x c n
    is_reply k l a = go (occupied r w n k l (not_free wk.phase))
      where
        wk : WaitOk (slot (state r n) k)
        wk = wait_ok (slot (state r n) k) ((storage_sound r w n).0.each k l) (awaits_ok (state r n) f k a).waits

        not_free : (slot (state r n) k).phase ≡ waiting → is_free (slot (state r n) k).phase ≡ false
        not_free p = ap is_free p

        go : (x : Transfer r) × Stands r x n × (slot_of r x ≡ k) → (x : Transfer r) × (c : ℕ) × Replied r x c n
        go (x, s, q) = (
          x,
          wx.partway.chunk,
          awaited_replied r w x n f s h (asked_so_far_at r w x n s wx.asking) e z
              (awaits_ok (state r n) f (slot_of r x) ax) wx,
        )
          where
            ax : awaits (state r n) f (slot_of r x) ≡ true
            ax = rw q a

            h : Held r x n
            h = held r w x n s

            wx : WaitOk (slot_at r x n)
            wx = wait_ok (slot_at r x n) (ok_at r w x n) (awaits_ok (state r n) f (slot_of r x) ax).waits

    no_reply : (is_none (awaiting (state r n) f) ≡ true) ↔ (¬ ((x : Transfer r) × (c : ℕ) × Replied r x c n))
    unfolding awaiting
    no_reply = go (option_cases (awaiting (state r n) f))
      where
        none_awaits : awaiting (state r n) f ≡ none → ¬ ((x : Transfer r) × (c : ℕ) × Replied r x c n)
        none_awaits q (x, c, p) =
            let fo = matches_ok r w x c n p.matches in
            let same : fo.0 ≡ f = let u : frame its_own fo.0 ≡ frame its_own f = sym fo.1.is ∙ e in cc in
            contradiction (reply_awaited r w x c n p) (ap (λ (g : Frame). awaits (state r n) g (slot_of r x)) same
            ∙ lowest_none (awaits (state r n) f) q (slot_of r x) (opened_at r w x).bound)

        go : (awaiting (state r n) f ≡ none) ⊎ ((k : ℕ) × (awaiting (state r n) f ≡ some k))
            → (is_none (awaiting (state r n) f) ≡ true) ↔ (¬ ((x : Transfer r) × (c : ℕ) × Replied r x c n))
        go (inl q) = (λ u. none_awaits q, λ u. ap is_none q)
        go (inr (k, q)) =
            let l : Lowest (awaits (state r n) f) k = lowest_some (awaits (state r n) f) k q in
            (λ u. contradiction u (ap is_none q), λ u. absurd (u (is_reply k l.bound l.passes)))

  abbrev NoReply : Type 0
  NoReply = ¬ ((x : Transfer r) × (c : ℕ) × Replied r x c n)

  -- the chain from 5, 4, 3, 2 and 1 on
  abbrev From5 : Frame → ℕ → Type 0
  From5 f = First (id_kind f.id ≢ rsp) 5 (First NoReply 17 Zero)

  abbrev From4 : Frame → ℕ → Type 0
  From4 f = First (id_to f.id ≢ (ledger r n).own) 4 (From5 f)

  abbrev From3 : Frame → ℕ → Type 0
  From3 f = First (8 < f.len) 3 (From4 f)

  abbrev From2 : Frame → ℕ → Type 0
  From2 f = First (id_spare f.id ≢ 0) 2 (From3 f)

  abbrev From1 : Frame → ℕ → Type 0
  From1 f = First (2 ^ 29 ≤ f.id) 1 (From2 f)

  frames_number : (l : Lent Buffers) (f : Frame) → r.calls n ≡ frame l f → Shaped (frame l f) → (m : ℕ)
      → ((step (state r n) (buffers r n) (frame l f)).answer.number ≡ m) ↔ FrameInRun r n l f m
  unfolding step
  frames_number its_own f e d m = own_first _ m (From1 f) (λ u. c.0 (sym q ∙ u), λ p. q ∙ c.1 p)
    where
      q : (frame_of (state r n) (buffers r n) f).answer.number ≡ frame_chain (state r n).own f (17 if is_none (awaiting (state r n) f) else 0)
      q = frame_number (state r n) (buffers r n) f ∙ reply_later (state r n) (buffers r n) f ss lb
          ∙ content_chain (state r n).own f (17 if is_none (awaiting (state r n) f) else 0)

      own_test : (not (eqb (id_to f.id) (state r n).own) ≡ true) ↔ (id_to f.id ≢ (ledger r n).own)
      own_test = subst (λ (o : ℕ). (not (eqb (id_to f.id) (state r n).own) ≡ true) ↔ (id_to f.id ≢ o)) (sym (own_is r w n))
          (not_test (eqb (id_to f.id) (state r n).own) (id_to f.id ≡ (state r n).own) (eqb_test (id_to f.id) (state r n).own))

      c : (frame_chain (state r n).own f (17 if is_none (awaiting (state r n) f) else 0) ≡ m) ↔ From1 f m
      c = first_if 1 (leb (2 ^ 29) f.id) _ m (2 ^ 29 ≤ f.id) (From2 f) (leb_test (2 ^ 29) f.id)
          (λ t1. first_if 2 (not (eqb (id_spare f.id) 0)) _ m (id_spare f.id ≢ 0) (From3 f)
          (not_test (eqb (id_spare f.id) 0) (id_spare f.id ≡ 0) (eqb_test (id_spare f.id) 0))
          (λ t2. first_if 3 (ltb 8 f.len) _ m (8 < f.len) (From4 f) (ltb_test 8 f.len)
          (λ t3. first_if 4 (not (eqb (id_to f.id) (state r n).own)) _ m (id_to f.id ≢ (ledger r n).own) (From5 f) own_test
          (λ t4. first_if 5 (not (eqb (id_kind f.id) rsp)) _ m (id_kind f.id ≢ rsp) (First NoReply 17 Zero)
          (not_test (eqb (id_kind f.id) rsp) (id_kind f.id ≡ rsp) (eqb_test (id_kind f.id) rsp))
          (λ t5. first_if 17 (is_none (awaiting (state r n) f)) 0 m NoReply Zero
          (no_reply f e (content_clear (state r n).own f t1 t2 t3 t4 t5)) (λ t6. (sym, sym)))))))
  frames_number (other b) f e d m = other_first _ m b (From1 f) (frame_number (state r n) b f ∙ reply_ten (state r n) b f ss d.0)

  -- so a frame answered 0 is such a reply
  reply_of_lem : (l : Lent Buffers) (f : Frame) → r.calls n ≡ frame l f → Shaped (frame l f)
      → (step (state r n) (buffers r n) (frame l f)).answer.number ≡ 0 → (x : Transfer r) × (c : ℕ) × Replied r x c n
  unfolding step awaiting
  reply_of_lem its_own f e d u = go (option_cases (awaiting (state r n) f))
    where
      h : (content_number (state r n).own f ≡ 0) × ((17 if is_none (awaiting (state r n) f) else 0) ≡ 0)
      h = else_zero _ _ (sym (frame_number (state r n) (buffers r n) f ∙ reply_later (state r n) (buffers r n) f ss lb) ∙ u)

      go : (awaiting (state r n) f ≡ none) ⊎ ((k : ℕ) × (awaiting (state r n) f ≡ some k)) → (x : Transfer r) × (c : ℕ) × Replied r x c n
      go (inl q) = contradiction (ap is_none q) (if_zero 16 _ _ h.1).0
      go (inr (k, q)) =
          let l : Lowest (awaits (state r n) f) k = lowest_some (awaits (state r n) f) k q in
          is_reply f e h.0 k l.bound l.passes
  reply_of_lem (other b) f e d u =
      absurd (omega (arith, sym u ∙ frame_number (state r n) b f ∙ reply_ten (state r n) b f ss d.0))

  closes_number : (t m : ℕ) → ((step (state r n) (buffers r n) (close t)).answer.number ≡ m)
      ↔ First ((x : Transfer r) → Stands r x n → ticket r x ≢ t) 14 Zero m
  unfolding step
  closes_number t m = (λ u. c.0 (sym q ∙ u), λ p. q ∙ c.1 p)
    where
      q : (close_of (state r n) t).number ≡ (14 if is_none (held_slot (state r n) t) else 0)
      q = close_number_lem (state r n) t ss

      unheld : (is_none (held_slot (state r n) t) ≡ true) ↔ ((x : Transfer r) → Stands r x n → ticket r x ≢ t)
      unheld = (
        λ u x s e. contradiction u (ap is_none (ap (held_slot (state r n)) (sym e) ∙ held_by r w x n s)),
        λ u. ap is_none (no_holder r w n t u),
      )

      c : ((14 if is_none (held_slot (state r n) t) else 0) ≡ m) ↔ First ((x : Transfer r) → Stands r x n → ticket r x ≢ t) 14 Zero m
      c = first_if 14 (is_none (held_slot (state r n) t)) 0 m ((x : Transfer r) → Stands r x n → ticket r x ≢ t) Zero unheld (λ z. (sym, sym))

  -- so a closing answered 0 is a standing transfer's
  closed_of : (t : ℕ) → (step (state r n) (buffers r n) (close t)).answer.number ≡ 0 → (x : Transfer r) × Stands r x n × (ticket r x ≡ t)
  unfolding step
  closed_of t u = known_holder r w n t (λ z. contradiction (ap is_none z)
      (if_zero 13 _ _ (sym (close_number_lem (state r n) t ss) ∙ u)).0)

  resets_number : (o m : ℕ) → ((step (state r n) (buffers r n) (reset o)).answer.number ≡ m) ↔ First (15 < o) 11 Zero m
  unfolding step
  resets_number o m =
      let q = reset_number_lem (state r n) o in
      let c = first_if 11 (ltb 15 o) 0 m (15 < o) Zero (ltb_test 15 o) (λ z. (sym, sym)) in
      (λ u. c.0 (sym q ∙ u), λ p. q ∙ c.1 p)

  other_bytes : (b : List ℕ) (t : ℕ) → length b ≢ 512 → (step (state r n) (buffers r n) (bytes (other b) t)).answer ≡ plain 10
  unfolding step bytes_of span_of bytes_number ◌if◌else◌
  other_bytes b t d = rw (ss, ne_eqb (length b) 512 d)

  -- for the call that is made
  made : (c : Call) (m : ℕ) (Q : Type 0) → r.calls n ≡ c → ((step (state r n) (buffers r n) c).answer.number ≡ m) ↔ Q
      → ((answer r n).number ≡ m) ↔ Q
  made c m Q e h = subst (λ (d : Call). ((step (state r n) (buffers r n) d).answer.number ≡ m) ↔ Q) (sym e) h

  zero_as : (c : Call) → r.calls n ≡ c → (answer r n).number ≡ 0 → (step (state r n) (buffers r n) c).answer.number ≡ 0
  zero_as c e z = ap (λ (d : Call). (step (state r n) (buffers r n) d).answer.number) (sym e) ∙ z

  shaped_as : (c : Call) → r.calls n ≡ c → Shaped c
  shaped_as c e = subst Shaped e (w.shaped n)

  numbers : NumbersInRun r n
  numbers = record {
    opens = λ l a e m. made (opening l a) m _ e (opening_number l a (shaped_as (opening l a) e) m);
    tickets = λ l a e z.
        (opened_at r w (record { at = n; lent = l; ask = a; call = e; accepted = z })).ticketed ∙ ap suc (sym (agrees r w n).issued);
    turns = λ l e m. made (turn l) m _ e (turns_number l (shaped_as (turn l) e) m);
    frames = λ l f e m. made (frame l f) m _ e (frames_number l f e (shaped_as (frame l f) e) m);
    replies = λ l f e z. reply_of_lem l f e (shaped_as (frame l f) e) (zero_as (frame l f) e z);
    others = λ b t e. ap (λ (c : Call). (step (state r n) (buffers r n) c).answer) e ∙ other_bytes b t (shaped_as (bytes (other b) t) e);
    closes = λ t e m. made (close t) m _ e (closes_number t m);
    closed = λ t e z. closed_of t (zero_as (close t) e z);
    resets = λ o e m. made (reset o) m _ e (resets_number o m);
  }

pub numbers_in_runs_lem : NumbersInRuns
numbers_in_runs_lem r w n = numbers r w n

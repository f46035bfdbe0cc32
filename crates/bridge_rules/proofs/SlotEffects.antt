-- What a call does to one slot and its parts of the buffers.
use Prim.Native.Nat.{ℕ, suc, ◌+◌, ◌*◌, ◌%◌, ◌-◌, ◌≤◌, ◌<◌}
use mathlib.Core.Path.{◌≡◌, refl, sym, ◌∙◌, ap, subst}
use mathlib.Core.Logic.{◌⊎◌, inl, inr, ◌≢◌}
use mathlib.Core.Option.{none, some}
use mathlib.Core.Bool.{Bool, true, false, cond, ◌&&◌}
use mathlib.Core.List.{[]}
use native.Mathlib.Omega.{arith}
use native.Mathlib.Decide.{ℕ_discrete, dec_lt}
use lib.ListN.{length, set}
use lib.Seq.{sets}
use lib.Dec.{eqb}
use Rattle.bus_rules.specs.Frames.{content}
use Rattle.bus_rules.specs.Ident.{id_offset}
use Rattle.bridge_rules.specs.State.{Frame, Bridge, Slot, blank, slot, is_ready, is_free, lowest_givable}
use Rattle.bridge_rules.specs.Answers.{Answer, Buffers, Result, both}
use Rattle.bridge_rules.specs.Opening.{Ask, read, write, check, is_write, is_check, ask_given, to_first, to_second, opened}
use Rattle.bridge_rules.specs.Turn.{aged, advanced, sent_slot, sent_frame, aged_bridge, send_for}
use Rattle.bridge_rules.specs.Incoming.{awaits, content_number, differs, differed}
use Rattle.bridge_rules.specs.Call.{Call, its_own, opening, turn, frame, close, reset, step}
use Rattle.bridge_rules.specs.Run.{is_turn}
use Rattle.bridge_rules.proofs.NumberLaws.{LawfulAsk}
use Rattle.bridge_rules.proofs.FrameLaws.{len_inside, content_short}
use Rattle.bridge_rules.proofs.Search.{cases, contradiction}
use Rattle.bridge_rules.proofs.BufferParts.{SameParts, same_part, same_parts, sets_elsewhere}
use Rattle.bridge_rules.proofs.AwaitsTest.{AwaitsOk, awaits_ok}
use Rattle.bridge_rules.proofs.SlotOk.{ReadyOk, ready_ok, WaitOk, wait_ok, kind_eq}
use Rattle.bridge_rules.proofs.SlotChanges.{Same, same_refl, same_trans, same_eq, aged_same, advanced_same, sent_same, differed_is}
use Rattle.bridge_rules.proofs.SlotChanges.{aged_kind, advanced_kind, sent_kind}
use Rattle.bridge_rules.proofs.KindTests.{KindGoes}
use Rattle.bridge_rules.proofs.SoundTest.{Sound}
use Rattle.bridge_rules.proofs.SoundStates.{slot_set_same, slot_set_other, slot_aged, aged_sound, fresh_slot}
use Rattle.bridge_rules.proofs.CallCases.{CallCase, nothing, opens, sends, idles, takes, disagrees, closes, resets, SendsSlot, other_call}
use Rattle.bridge_rules.proofs.CallCases.{ready_at_lem, free_at, givable_free, open_result, take_result, differ_result, close_result}

-- ── the search's order ─────────────────────────────────────────────────────────────────────────────────────────────

-- how many slots are looked at before slot k
unfoldable pub distance : ℕ → ℕ → ℕ
distance last k = (k + 3 - last) % 4

pub distance_small : (last k : ℕ) → distance last k ≤ 3
unfolding distance
distance_small last k = omega arith

pub distance_is : (last k : ℕ) → last ≤ 3 → k < 4 → (suc last + distance last k) % 4 ≡ k
unfolding distance
distance_is last k h l = omega arith

-- the slot served at distance d comes before k: then k is nearer
distance_less : (last k d : ℕ) → last ≤ 3 → k < 4 → d < distance last k → distance ((suc last + d) % 4) k < distance last k
unfolding distance
distance_less last k d h l e = omega arith

-- ── effects ────────────────────────────────────────────────────────────────────────────────────────────────────────

-- call c on state s and buffers b leaves s' and b' and answers a; t says whether it is an accepted turn. Of slot k:
module _ (s s' : Bridge) (b b' : Buffers) (c : Call) (a : Answer) (t : Bool) (k : ℕ) where
  -- nothing changed
  pub record Unchanged : Type 0 where
    pub after : slot s' k ≡ slot s k
    pub parts : SameParts k b b'
    pub last : s'.last ≡ s.last
    pub no_turn : t ≡ false
    pub silent : a.sent ≡ none
    pub unawaited : (f : Frame) → c ≡ frame its_own f → content_number s.own f ≡ 0 → awaits s f k ≡ false

  -- a turn that sent nothing
  pub record Silent : Type 0 where
    pub silent : a.sent ≡ none
    pub unready : is_ready (aged (slot s k)).phase ≡ false
    pub last : s'.last ≡ s.last

  -- a turn that served another slot
  pub record ServedOther : Type 0 where
    pub j : ℕ
    pub bound : j < 4
    pub apart : j ≢ k
    pub ready : ReadyOk (aged (slot s j))
    pub yields : a.sent ≡ some (sent_frame s.own j (aged (slot s j)) b)
    pub last : s'.last ≡ j
    pub nearer : is_ready (aged (slot s k)).phase ≡ true → distance j k < distance s.last k

  -- a turn aged it and did not serve it
  pub record Aged : Type 0 where
    pub call : c ≡ turn its_own
    pub turned : t ≡ true
    pub after : slot s' k ≡ aged (slot s k)
    pub kept : b' ≡ b
    pub unserved : Silent ⊎ ServedOther

  -- a turn served it
  pub record Served : Type 0 where
    pub call : c ≡ turn its_own
    pub turned : t ≡ true
    pub ready : ReadyOk (aged (slot s k))
    pub after : slot s' k ≡ sent_slot (aged (slot s k))
    pub kept : b' ≡ b
    pub last : s'.last ≡ k
    pub yields : a.sent ≡ some (sent_frame s.own k (aged (slot s k)) b)

  -- a frame was the reply that it awaited
  pub record Taken : Type 0 where
    pub f : Frame
    pub call : c ≡ frame its_own f
    pub passes : content_number s.own f ≡ 0
    pub awaited : AwaitsOk s f k
    pub waits : WaitOk (slot s k)
    pub agrees : differs k (slot s k) b.second f ≡ false
    pub after : slot s' k ≡ advanced (slot s k)
    pub stored : b' ≡ both (sets b.first (128 * k + (slot s k).progress) (content f)) b.second
    pub last : s'.last ≡ s.last
    pub no_turn : t ≡ false
    pub silent : a.sent ≡ none

  -- a frame was the reply that it awaited, and brought other bytes than it sent
  pub record Disagreed : Type 0 where
    pub f : Frame
    pub call : c ≡ frame its_own f
    pub passes : content_number s.own f ≡ 0
    pub awaited : AwaitsOk s f k
    pub waits : WaitOk (slot s k)
    pub other : differs k (slot s k) b.second f ≡ true
    pub after : slot s' k ≡ differed (slot s k)
    pub kept : b' ≡ b
    pub last : s'.last ≡ s.last
    pub no_turn : t ≡ false
    pub silent : a.sent ≡ none

  pub record OpensHere : Type 0 where
    pub ask : Ask
    pub call : c ≡ opening its_own ask
    pub found : lowest_givable s ≡ some k
    pub free : is_free (slot s k).phase ≡ true
    pub number : a.number ≡ 0

  pub record ClosesHere : Type 0 where
    pub ticket : ℕ
    pub call : c ≡ close ticket
    pub number : a.number ≡ 0
    pub has : (slot s k).ticket ≡ ticket
    pub after : slot s' k ≡ blank

  pub record ResetsHere : Type 0 where
    pub o : ℕ
    pub call : c ≡ reset o
    pub number : a.number ≡ 0
    pub after : slot s' k ≡ blank

-- its transfer stays
pub data Change (s s' : Bridge) (b b' : Buffers) (c : Call) (a : Answer) (t : Bool) (k : ℕ) : Type 0 where
  unchanged : Unchanged s s' b b' c a t k → Change s s' b b' c a t k
  ages : Aged s s' b b' c a t k → Change s s' b b' c a t k
  served : Served s s' b b' c a t k → Change s s' b b' c a t k
  taken : Taken s s' b b' c a t k → Change s s' b b' c a t k
  disagreed : Disagreed s s' b b' c a t k → Change s s' b b' c a t k

-- or it begins or ends
pub data Effect (s s' : Bridge) (b b' : Buffers) (c : Call) (a : Answer) (t : Bool) (k : ℕ) : Type 0 where
  keeps : Change s s' b b' c a t k → Effect s s' b b' c a t k
  opens_here : OpensHere s s' b b' c a t k → Effect s s' b b' c a t k
  closes_here : ClosesHere s s' b b' c a t k → Effect s s' b b' c a t k
  resets_here : ResetsHere s s' b b' c a t k → Effect s s' b b' c a t k

pub change_same : {s s' : Bridge} {b b' : Buffers} {c : Call} {a : Answer} {t : Bool} {k : ℕ} → Change s s' b b' c a t k
    → Same (slot s k) (slot s' k)
change_same {s} {s'} {b} {b'} {c} {a} {t} {k} (unchanged u) = same_eq (same_refl (slot s k)) u.after
change_same {s} {s'} {b} {b'} {c} {a} {t} {k} (ages u) = same_eq (aged_same (slot s k)) u.after
change_same {s} {s'} {b} {b'} {c} {a} {t} {k} (served u) =
    same_eq (same_trans (aged_same (slot s k)) (sent_same (aged (slot s k)))) u.after
change_same {s} {s'} {b} {b'} {c} {a} {t} {k} (taken u) = same_eq (advanced_same (slot s k)) u.after
change_same {s} {s'} {b} {b'} {c} {a} {t} {k} (disagreed u) = same_eq (differed_is (slot s k)).same u.after

-- a slot's kind stays, but a checked write's turns to reading back
pub change_kind : {s s' : Bridge} {b b' : Buffers} {c : Call} {a : Answer} {t : Bool} {k : ℕ} → Change s s' b b' c a t k
    → KindGoes (slot s k).kind (slot s' k).kind
change_kind {s} {s'} {b} {b'} {c} {a} {t} {k} (unchanged u) = inl (kind_eq u.after)
change_kind {s} {s'} {b} {b'} {c} {a} {t} {k} (ages u) = inl (kind_eq u.after ∙ aged_kind (slot s k))
change_kind {s} {s'} {b} {b'} {c} {a} {t} {k} (served u) =
    subst (λ (i : ℕ). KindGoes i (slot s' k).kind) (aged_kind (slot s k))
    (rw (kind_eq u.after) (sent_kind (aged (slot s k)) u.ready.held.kind))
change_kind {s} {s'} {b} {b'} {c} {a} {t} {k} (taken u) = inl (kind_eq u.after ∙ advanced_kind (slot s k))
change_kind {s} {s'} {b} {b'} {c} {a} {t} {k} (disagreed u) = inl (kind_eq u.after ∙ (differed_is (slot s k)).kind)

-- ── every call has one of them ─────────────────────────────────────────────────────────────────────────────────────

abbrev pub turned_by : Bridge → Buffers → Call → Bool
turned_by s b c = is_turn c && eqb (step s b c).answer.number 0

abbrev pub EffectOf : Bridge → Buffers → Call → ℕ → Type 0
EffectOf s b c k = Effect s (step s b c).state b (step s b c).buffers c (step s b c).answer (turned_by s b c) k

-- given bytes, or none, are few
given_short : (a : Ask) (t : Bool) → LawfulAsk a → 0 + length (cond t (ask_given a) []) ≤ 128
given_short (read d t o n) true w = omega arith
given_short (write d t o bs) true w = omega (arith, w.few)
given_short (check d t o bs) true w = omega (arith, w.few)
given_short a false w = omega arith

module _ (s : Bridge) (b : Buffers) (c : Call) (h : Sound s) (k : ℕ) (l : k < 4) where
  same_slot : (z : Result) (j : ℕ) (y : Slot) → step s b c ≡ z → z.state.slots ≡ set s.slots j y → j ≢ k
      → slot (step s b c).state k ≡ slot s k
  same_slot z j y e q d = rw e (slot_set_other s z.state j k y q (λ u. d (sym u)))

  ready_at : (i : ℕ) → i < 4 → ready_at_lem (aged_bridge s) i ≡ true → ReadyOk (aged (slot s i))
  ready_at i m r = rw (slot_aged s i) at (ready_ok (slot (aged_bridge s) i) ((aged_sound s h).each i m) r)

  -- slot k is looked at in a turn
  looked_at : ready_at_lem (aged_bridge s) ((suc s.last + distance s.last k) % 4) ≡ is_ready (aged (slot s k)).phase
  looked_at = rw (distance_is s.last k h.last l, slot_aged s k) refl

  -- a slot served before k: k is nearer
  nearer : (u : SendsSlot s b c) → u.k ≢ k → is_ready (aged (slot s k)).phase ≡ true → distance u.k k < distance s.last k
  nearer u p r = less (dec_lt u.found.d (distance s.last k)) (ℕ_discrete u.found.d (distance s.last k))
    where
      less : Dec (u.found.d < distance s.last k) → Dec (u.found.d ≡ distance s.last k) → distance u.k k < distance s.last k
      less (yes q) e = rw u.found.is (distance_less s.last k u.found.d h.last l q)
      less (no q) (yes e) =
          absurd (p (u.found.is ∙ ap (λ (n : ℕ). (suc s.last + n) % 4) e ∙ distance_is s.last k h.last l))
      less (no q) (no e) = contradiction (looked_at ∙ r) (u.found.skipped (distance s.last k) (omega arith))

  -- a frame that slot j awaits: the slot waits
  waits_at : (f : Frame) (j : ℕ) → j < 4 → awaits s f j ≡ true → WaitOk (slot s j)
  waits_at f j m a = wait_ok (slot s j) (h.each j m) (awaits_ok s f j a).waits

  -- and no other slot awaits it
  only_one : (f : Frame) (j : ℕ) → j < 4 → awaits s f j ≡ true → c ≡ frame its_own f → j ≢ k → (g : Frame) → c ≡ frame its_own g
      → awaits s g k ≡ false
  only_one f j m a e p g q = go (cases (awaits s g k))
    where
      go : (awaits s g k ≡ true) ⊎ (awaits s g k ≡ false) → awaits s g k ≡ false
      go (inr z) = z
      go (inl z) =
          let same : f ≡ g = let e : frame its_own f ≡ frame its_own g = sym e ∙ q in cc in
          let wj : WaitOk (slot s j) = waits_at f j m a in
          let wk : WaitOk (slot s k) = waits_at g k l z in
          let pl : 128 * j + (slot s j).progress ≡ 128 * k + (slot s k).progress = sym (awaits_ok s f j a).place
          ∙ ap (λ (x : Frame). id_offset x.id) same ∙ (awaits_ok s g k z).place in
          absurd (p (omega (arith, pl, wk.partway.below, wk.held.args.few, wj.partway.below, wj.held.args.few)))

  pub effect : CallCase s b c → EffectOf s b c k
  unfolding send_for aged_bridge
  effect (nothing u) = keeps (unchanged (record {
    after = ap (λ (x : Bridge). slot x k) u.state;
    parts = same_parts k u.buffers;
    last = ap (λ (x : Bridge). x.last) u.state;
    no_turn = u.no_turn;
    silent = u.silent;
    unawaited = λ f e g. u.unawaited f e g k l;
  }))
  effect (opens u) = go (ℕ_discrete u.k k)
    where
      go : Dec (u.k ≡ k) → EffectOf s b c k
      go (yes p) = opens_here (record {
        ask = u.ask;
        call = u.call;
        found = u.found ∙ ap some p;
        free = ap (free_at s) (sym p) ∙ givable_free s u.k u.lowest.passes;
        number = rw u.result;
      })
      go (no p) = keeps (unchanged (record {
        after = same_slot (open_result s b u.ask u.k) u.k (opened u.ask (suc s.issued)) u.result refl p;
        parts = rw u.result (let e : 128 * u.k ≡ 128 * u.k + 0 = omega arith in rw e (
          sets_elsewhere k u.k b.first (to_first u.ask) 0 (λ v. p (sym v)) (given_short u.ask (is_write u.ask) u.lawful),
          sets_elsewhere k u.k b.second (to_second u.ask) 0 (λ v. p (sym v)) (given_short u.ask (is_check u.ask) u.lawful),
        ));
        last = rw u.result;
        no_turn = rw u.call;
        silent = rw u.result;
        unawaited = λ f q. other_call u.call q refl;
      }))
  effect (sends u) = go (ℕ_discrete u.k k)
    where
      bound : u.k < 4
      bound = omega (arith, u.found.is)

      go : Dec (u.k ≡ k) → EffectOf s b c k
      go (yes p) = keeps (served (record {
        call = u.call;
        turned = rw (u.result, u.call);
        ready = ready_at k l (ap (ready_at_lem (aged_bridge s)) (sym p) ∙ u.found.passes);
        after = rw u.result (slot_set_same (aged_bridge s) _ k _ (aged_sound s h).four
            (ap (λ (i : ℕ). set (aged_bridge s).slots i (sent_slot (slot (aged_bridge s) i))) p) l) ∙ ap sent_slot (slot_aged s k);
        kept = rw u.result;
        last = rw u.result p;
        yields = rw (u.result, p, slot_aged s k);
      }))
      go (no p) = keeps (ages (record {
        call = u.call;
        turned = rw (u.result, u.call);
        after = rw u.result (slot_set_other (aged_bridge s) _ u.k k _ refl (λ e. p (sym e))) ∙ slot_aged s k;
        kept = rw u.result;
        unserved = inr (record {
          j = u.k;
          bound = bound;
          apart = p;
          ready = ready_at u.k bound u.found.passes;
          yields = rw (u.result, slot_aged s u.k);
          last = rw u.result;
          nearer = nearer u p;
        });
      }))
  effect (idles u) = keeps (ages (record {
    call = u.call;
    turned = rw (u.result, u.call);
    after = rw u.result (slot_aged s k);
    kept = rw u.result;
    unserved = inl (record {
      silent = rw u.result;
      unready = sym looked_at ∙ u.unready (distance s.last k) (omega (arith, distance_small s.last k));
      last = rw u.result;
    });
  }))
  effect (takes u) = go (ℕ_discrete u.k k)
    where
      aw : AwaitsOk s u.f u.k
      aw = awaits_ok s u.f u.k u.awaited

      w : WaitOk (slot s u.k)
      w = waits_at u.f u.k u.bound u.awaited

      short : (slot s u.k).progress + length (content u.f) ≤ 128
      short = omega (
        arith,
        content_short u.f,
        aw.len,
        len_inside (slot s u.k).count (slot s u.k).progress w.partway.below,
        w.held.args.few,
      )

      go : Dec (u.k ≡ k) → EffectOf s b c k
      go (yes p) = keeps (taken (record {
        f = u.f;
        call = u.call;
        passes = u.passes;
        awaited = rw p at aw;
        waits = rw p at w;
        agrees = rw p at u.agrees;
        after = rw u.result (slot_set_same s _ k _ h.four (ap (λ (i : ℕ). set s.slots i (advanced (slot s i))) p) l);
        stored = rw (u.result, p);
        last = rw u.result;
        no_turn = rw u.call;
        silent = rw u.result;
      }))
      go (no p) = keeps (unchanged (record {
        after = same_slot (take_result s b u.f u.k) u.k (advanced (slot s u.k)) u.result refl p;
        parts = rw u.result (
          sets_elsewhere k u.k b.first (content u.f) (slot s u.k).progress (λ v. p (sym v)) short,
          same_part k {b = b.second} refl,
        );
        last = rw u.result;
        no_turn = rw u.call;
        silent = rw u.result;
        unawaited = λ g q z. only_one u.f u.k u.bound u.awaited u.call p g q;
      }))
  effect (disagrees u) = go (ℕ_discrete u.k k)
    where
      go : Dec (u.k ≡ k) → EffectOf s b c k
      go (yes p) = keeps (disagreed (record {
        f = u.f;
        call = u.call;
        passes = u.passes;
        awaited = rw p at (awaits_ok s u.f u.k u.awaited);
        waits = rw p at (waits_at u.f u.k u.bound u.awaited);
        other = rw p at u.other;
        after = rw u.result (slot_set_same s _ k _ h.four (ap (λ (i : ℕ). set s.slots i (differed (slot s i))) p) l);
        kept = rw u.result;
        last = rw u.result;
        no_turn = rw u.call;
        silent = rw u.result;
      }))
      go (no p) = keeps (unchanged (record {
        after = same_slot (differ_result s b u.k) u.k (differed (slot s u.k)) u.result refl p;
        parts = same_parts k (ap (λ (r : Result). r.buffers) u.result);
        last = rw u.result;
        no_turn = rw u.call;
        silent = rw u.result;
        unawaited = λ g q z. only_one u.f u.k u.bound u.awaited u.call p g q;
      }))
  effect (closes u) = go (ℕ_discrete u.k k)
    where
      go : Dec (u.k ≡ k) → EffectOf s b c k
      go (yes p) = closes_here (record {
        ticket = u.t;
        call = u.call;
        number = rw u.result;
        has = ap (λ (i : ℕ). (slot s i).ticket) (sym p) ∙ u.ticket;
        after = rw u.result (slot_set_same s _ k _ h.four (ap (λ (i : ℕ). set s.slots i blank) p) l);
      })
      go (no p) = keeps (unchanged (record {
        after = same_slot (close_result s b u.k) u.k blank u.result refl p;
        parts = same_parts k (ap (λ (r : Result). r.buffers) u.result);
        last = rw u.result;
        no_turn = rw u.call;
        silent = rw u.result;
        unawaited = λ f q. other_call u.call q refl;
      }))
  effect (resets u) = resets_here (record {
    o = u.o;
    call = u.call;
    number = rw u.result;
    after = rw u.result (fresh_slot u.o k);
  })

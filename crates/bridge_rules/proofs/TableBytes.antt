-- If the device's replies are its own, the bytes that a done read shows, and those that a done checked write was given, are the table's.
use Prim.Native.Nat.{ℕ, ◌+◌, ◌*◌, ◌/◌, ◌≤◌, ◌<◌}
use mathlib.Core.Path.{◌≡◌, refl, sym, ◌∙◌, ap, ap₂, subst}
use mathlib.Core.Logic.{◌⊎◌, inl, inr, ◌≢◌}
use mathlib.Core.List.{List}
use mathlib.Core.Option.{some}
use mathlib.Core.Bool.{true, false}
use native.Mathlib.Omega.{arith}
use native.Mathlib.Decide.{ℕ_discrete, dec_lt}
use lib.ListN.{length, take, drop}
use lib.Seq.{take-length}
use Rattle.bus_rules.specs.Frames.{req, rsp, frame_with, content}
use Rattle.bus_rules.specs.Device.{Device, own_of, range_of}
use Rattle.bus_rules.specs.Holder.{request_at, table_of, device_after, Gives}
use Rattle.bus_rules.specs.Ident.{id_of, id_offset, id_kind, id_from, id_table}
use Rattle.bus_rules.specs.Request.{request}
use Rattle.bridge_rules.specs.State.{Frame, Slot, done, asks, carries}
use Rattle.bridge_rules.specs.Answers.{Buffers}
use Rattle.bridge_rules.specs.Opening.{is_read, is_check, ask_device, ask_table, ask_offset, ask_count, ask_given}
use Rattle.bridge_rules.specs.Turn.{aged, sent_frame, chunk_len}
use Rattle.bridge_rules.specs.Incoming.{content_number}
use Rattle.bridge_rules.specs.Call.{opening}
use Rattle.bridge_rules.specs.Run.{Run, state, buffers, Lawful, Transfer, slot_of, Stands}
use Rattle.bridge_rules.specs.Run.{chunks, len_of, is_turn, accepted, turns, Resetting, shown_at, Done}
use Rattle.bridge_rules.specs.Replies.{given, Sent, Replied}
use Rattle.bridge_rules.specs.Device.{Arrives, Timeline, range, Own, Prompt, NotAfter, Meanwhile, Arrivals, Unwritten, Premises}
use Rattle.bridge_rules.specs.Demand3.{join, brought, showing}
use Rattle.bridge_rules.specs.Corollaries.{SinceTaken}
use Rattle.bus_rules.proofs.IdentLaws.{offset_of_id, table_of_id, from_small}
use Rattle.bus_rules.proofs.Ranges.{range_part, range_whole, range_short}
use Rattle.bus_rules.proofs.Replies.{command_unanswered, request_answered, answerer_own, request_read}
use Rattle.bridge_rules.proofs.FrameLaws.{len_eight, len_inside, id_of_lem, content_of, read_is}
use Rattle.bridge_rules.proofs.RequestSlots.{asked_kind, carried_kind}
use Rattle.bridge_rules.proofs.Search.{contradiction, and-true}
use Rattle.bridge_rules.proofs.TurnCounts.{turns_mono}
use Rattle.bridge_rules.proofs.RestedSlots.{sender_sent, ResetBetween, before_opening}
use Rattle.bridge_rules.proofs.SlotOk.{ReadyOk}
use Rattle.bridge_rules.proofs.SlotChanges.{Same, aged_same}
use Rattle.bridge_rules.proofs.SoundRuns.{storage_sound}
use Rattle.bridge_rules.proofs.LedgerAgrees.{own_is}
use Rattle.bridge_rules.proofs.Standing.{slot_at, Held, held, opened_at, stands_back}
use Rattle.bridge_rules.proofs.Status.{done_is}
use Rattle.bridge_rules.proofs.SentRequests.{sends_request, same_place, chunk_small}
use Rattle.bridge_rules.proofs.Matching.{MatchesOk, matches_ok}
use Rattle.bridge_rules.proofs.AskedSoFar.{AskedSoFar, Got}
use Rattle.bridge_rules.proofs.ShownBytes.{join_all, shown_part, shown_done, all_got}
use Rattle.bridge_rules.proofs.SlotHolders.{same_slot, Sender, sender}
use Rattle.bridge_rules.proofs.AskTests.{given_count, check_not_read}

opening_no_turn : (r : Run) (x : Transfer r) → ¬ (accepted r x.at ≡ true)
unfolding accepted
opening_no_turn r x a = contradiction (and-true _ _ a).0 (ap is_turn x.call)

-- the frame that a request for a slot's chunk gets: its bytes are the range in the device after it
record Answered (d : Device) (own k : ℕ) (y : Slot) (g : Frame) : Type 0 where
  offset : id_offset g.id ≡ 128 * k + y.progress
  bytes : content g ≡ range_of d y.table (y.offset + y.progress) (chunk_len y.count y.progress)

answered : (d after : Device) (own k : ℕ) (y : Slot) (b : Buffers) (g : Frame) → k < 4 → own ≤ 15 → ReadyOk y
    → asks y.kind ≡ true → Gives d (sent_frame own k y b) g → after ≡ device_after d (sent_frame own k y b) → Answered after own k y g
answered d after own k y b g kb o r u e h = record {
  offset = ap (λ (f : Frame). id_offset f.id) gq ∙ ap id_offset (id_of_lem _ _)
      ∙ offset_of_id (request_at q 0).offset rsp (own_of d) (id_from q.id) (request_at q 0).table
      (omega (arith, fields.1, r.partway.below, r.held.args.few)) (omega arith) (omega (arith, answerer_own d q g eq))
      (omega (arith, from_small q.id)) (omega (arith, fields.0)) ∙ fields.1;
  bytes = ap content gq ∙ content_of _ _ short
      ∙ ap (range_of after (table_of q) (id_offset q.id)) fields.2
      ∙ ap₂ (λ (a c : ℕ). range_of after a c (chunk_len y.count y.progress)) (ap id_table (id_of_lem _ _)
      ∙ table_of_id (y.offset + y.progress) req own y.device y.table low (omega arith) own< device< table<)
      (ap id_offset (id_of_lem _ _) ∙ offset_of_id (y.offset + y.progress) req own y.device y.table low (omega arith) own< device< table<);
}
  where
    id : ℕ
    id = id_of (y.offset + y.progress) req own y.device y.table

    q : Frame
    q = frame_with id (request 6 (128 * k + y.progress) (chunk_len y.count y.progress))

    eq : Gives d q g
    eq = subst (λ (f : Frame). Gives d f g) (read_is own k y b u) e

    low : y.offset + y.progress < 2048
    low = omega (arith, r.partway.below, r.held.args.inside)

    own< : own < 16
    own< = omega arith

    device< : y.device < 16
    device< = omega (arith, r.held.args.device)

    table< : y.table < 32
    table< = omega (arith, r.held.args.table)

    fields : ((request_at q 0).table ≡ 6) × ((request_at q 0).offset ≡ 128 * k + y.progress)
        × ((request_at q 0).count ≡ chunk_len y.count y.progress)
    fields = request_read id (128 * k + y.progress) (chunk_len y.count y.progress) (16 * k + r.partway.chunk)
        (len_eight y.count y.progress) (omega (arith, r.partway.at))

    kind : id_kind q.id ≡ req
    kind = ap (λ (f : Frame). id_kind f.id) (sym (read_is own k y b u)) ∙ asked_kind own k y b r o u

    gq : g ≡ frame_with (id_of (request_at q 0).offset rsp (own_of d) (id_from q.id) (request_at q 0).table)
        (range_of after (table_of q) (id_offset q.id) (request_at q 0).count)
    gq = request_answered d q g eq after (h ∙ ap (device_after d) (read_is own k y b u)) kind

    short : length (range_of after (table_of q) (id_offset q.id) (request_at q 0).count) ≤ 8
    short = omega (arith, range_short after (table_of q) (id_offset q.id) (request_at q 0).count, fields.2, len_eight y.count y.progress)

range_chunk : (r : Run) (x : Transfer r) (d : Device) (c : ℕ) → 8 * c < ask_count x.ask
    → take (len_of r x c) (drop (8 * c) (range r x d)) ≡ range_of d (ask_table x.ask) (ask_offset x.ask + 8 * c) (len_of r x c)
unfolding range
range_chunk r x d c h = range_part d (ask_table x.ask) (ask_offset x.ask) (ask_count x.ask) (8 * c) (len_of r x c)
    (len_inside (ask_count x.ask) (8 * c) h)

whole_range : (r : Run) (x : Transfer r) (d : Device) → take (ask_count x.ask) (range r x d) ≡ range r x d
unfolding range
whole_range r x d = range_whole d (ask_table x.ask) (ask_offset x.ask) (ask_count x.ask)

-- what is used of the premises on what arrives: a reply is the device's own, in time, and no reset came between its request and its arrival
pub record Timely (r : Run) (x : Transfer r) (n : ℕ) (t : Timeline) : Type 0 where
  pub own : (m : ℕ) (f : Frame) → Arrives r x n m f → Own r t m f
  pub prompt : Prompt r x n t
  pub unreset : (m : ℕ) (f : Frame) → Arrives r x n m f → (y : Transfer r) (c : ℕ) → Sent r y c (t.asked m)
      → (q : ℕ) → t.asked m < q → q < m → ¬ Resetting r q

-- the premise on resets allows none between a request and a reply that comes in time
pub timely : (r : Run) (x : Transfer r) (n : ℕ) (t : Timeline) → Arrivals r x n t → Timely r x n t
timely r x n t a = record {
  own = a.own;
  prompt = a.prompt;
  unreset = λ m f h y c s q l b z. omega (
    arith,
    a.quiet q (omega (arith, b, h.until, h.before)) z y c (t.asked m) l s,
    a.prompt m f h,
    turns_mono r (t.asked m) q m (omega (arith, b)),
  );
}

-- a reply that was taken arrived under the device's number
pub arrives : (r : Run) (w : Lawful r) (x : Transfer r) (n c m : ℕ) → m < n → (p : Replied r x c m)
    → Arrives r x n m (matches_ok r w x c m p.matches).0
arrives r w x n c m l p =
    let f = matches_ok r w x c m p.matches in
    record {
      since = p.awaits.stands.0;
      c = c;
      m' = m;
      before = l;
      last = p;
      until = omega arith;
      call = f.1.is;
      passes = ap (λ (o : ℕ). content_number o f.0) (own_is r w m) ∙ f.1.passes;
      device = f.1.device;
    }

module _ (r : Run) (w : Lawful r) (x : Transfer r) (n : ℕ) (t : Timeline) (pre : Timely r x n t) where
  -- it answers a request of this read, and holds the bytes of its chunk in the device's memory when it answered
  record Answers (c m : ℕ) : Type 0 where
    sent : Sent r x c (t.asked m)
    bytes : brought (r.calls m) ≡ take (len_of r x c) (drop (8 * c) (range r x (t.device (t.answered m))))

  answers : (c m : ℕ) → m < n → Replied r x c m → Answers c m
  answers c m l p = kinds k.held.kind
    where
      sm : (8 * c < ask_count x.ask) × (c < 16)
      sm = chunk_small r w x c p.awaits.sent.chunk

      fo : (f : Frame) × MatchesOk r x c m f
      fo = matches_ok r w x c m p.matches

      ow : Own r t m fo.0
      ow = pre.own m fo.0 (arrives r w x n c m l p)

      j : ℕ
      j = t.asked m

      sd : Sender r w j ow.request
      sd = sender r w j ow.request ow.turned ow.yields

      y : Transfer r
      y = sd.y

      h : Held r y j
      h = held r w y j sd.stands

      k : ReadyOk (aged (slot_at r y j))
      k = sd.ready

      d : Device
      d = t.device (t.answered m)

      own_s : (state r j).own ≤ 15
      own_s = (storage_sound r w j).0.own

      sv : Gives ow.before (sent_frame (state r j).own (slot_of r y) (aged (slot_at r y j)) (buffers r j)) ow.reply
      sv = subst (λ (f : Frame). Gives ow.before f ow.reply) sd.is ow.gives

      sa : Same (slot_at r y j) (aged (slot_at r y j))
      sa = aged_same (slot_at r y j)

      kinds : (carries (aged (slot_at r y j)).kind ≡ true) ⊎ (asks (aged (slot_at r y j)).kind ≡ true)
          → Answers c m
      kinds (inl u) = absurd (command_unanswered ow.before (sent_frame (state r j).own (slot_of r y) (aged (slot_at r y j)) (buffers r j)) ow.reply
          sv (carried_kind (state r j).own (slot_of r y) (aged (slot_at r y j)) (buffers r j) k own_s u))
      kinds (inr u) = record {
        sent = record {
          stands = (omega (arith, at, sd.stands.0), λ i a b. p.awaits.stands.1 i a (omega (arith, ow.earlier)));
          asks = p.awaits.sent.asks;
          chunk = p.awaits.sent.chunk;
          turned = ow.turned;
          yields = ow.yields
              ∙ ap some (sd.is ∙ ap (λ (i : ℕ). sent_frame (state r j).own i (aged (slot_at r y j)) (buffers r j)) sp.0
              ∙ sends_request r w x c j (aged (slot_at r y j)) u progress (sa.device ∙ h.device ∙ ap ask_device ask) tab off cnt);
        };
        bytes = ap brought fo.1.is ∙ ow.same_bytes ∙ an.bytes ∙ same_range;
      }
        where
          an : Answered d (state r j).own (slot_of r y) (aged (slot_at r y j)) ow.reply
          an = answered ow.before d (state r j).own (slot_of r y) (aged (slot_at r y j)) (buffers r j) ow.reply
              (opened_at r w y).bound own_s k u sv (ow.after ∙ ap (device_after ow.before) sd.is)

          sent : Sent r y k.partway.chunk j
          sent = sender_sent r w j ow.request ow.turned ow.yields sd u

          sp : (slot_of r y ≡ slot_of r x) × (k.partway.chunk ≡ c)
          sp = same_place (slot_of r y) (aged (slot_at r y j)).progress k.partway.chunk (slot_of r x) c k.partway.at
              (omega (arith, k.partway.at, k.partway.below, k.held.args.few)) sm.1
              (ap (λ (b : ℕ). b / 8) (sym an.offset ∙ ap id_offset (sym ow.same_id) ∙ fo.1.place))

          -- a request that was sent before the read was opened is answered too late, or a reset came between
          too_late_lem : j < x.at → ⊥
          too_late_lem q = go (before_opening r w x y k.partway.chunk j sent sp.0 q)
            where
              go : (60 ≤ turns r j x.at) ⊎ ResetBetween r w j x.at → ⊥
              go (inl t) =
                  omega (arith, t, pre.prompt m fo.0 (arrives r w x n c m l p), turns_mono r j x.at m (omega (arith, p.awaits.stands.0)))
              go (inr (i, a, b, z)) =
                  pre.unreset m fo.0 (arrives r w x n c m l p) y k.partway.chunk sent i a (omega (arith, b, p.awaits.stands.0)) z

          progress : (aged (slot_at r y j)).progress ≡ 8 * c
          progress = k.partway.at ∙ ap (λ (b : ℕ). 8 * b) sp.1

          at : x.at ≡ y.at
          at = go (dec_lt x.at j) (ℕ_discrete x.at j)
            where
              go : Dec (x.at < j) → Dec (x.at ≡ j) → x.at ≡ y.at
              go (yes q) e = same_slot r w x y j (stands_back r w x j m p.awaits.stands q (omega (arith, ow.earlier))) sd.stands (sym sp.0)
              go (no q) (yes e) = absurd (opening_no_turn r x (rw e ow.turned))
              go (no q) (no e) = absurd (too_late_lem (omega arith))

          ask : y.ask ≡ x.ask
          ask = let z : opening y.lent y.ask ≡ opening x.lent x.ask = sym y.call ∙ ap r.calls (sym at) ∙ x.call in cc

          cnt : (aged (slot_at r y j)).count ≡ ask_count x.ask
          cnt = sa.count ∙ h.count ∙ ap ask_count ask

          tab : (aged (slot_at r y j)).table ≡ ask_table x.ask
          tab = sa.table ∙ h.table ∙ ap ask_table ask

          off : (aged (slot_at r y j)).offset ≡ ask_offset x.ask
          off = sa.offset ∙ h.offset ∙ ap ask_offset ask

          same_range : range_of d (aged (slot_at r y j)).table ((aged (slot_at r y j)).offset + (aged (slot_at r y j)).progress)
              (chunk_len (aged (slot_at r y j)).count (aged (slot_at r y j)).progress)
              ≡ take (len_of r x c) (drop (8 * c) (range r x (t.device (t.answered m))))
          same_range = rw (tab, off, progress, cnt) (sym (range_chunk r x (t.device (t.answered m)) c sm.0))

  -- the replies' bytes are the table's, at all moments of a set in which the range isn't written and which holds each answer that was
  -- taken
  abbrev Covers : (ℕ → Type 0) → Type 0
  Covers During = (c m : ℕ) → m < n → Replied r x c m → t.answered m ≤ t.when m → During (t.answered m)

  module _ (During : ℕ → Type 0) (un : Unwritten r x t During) (covers : Covers During) (s : Stands r x n) (p : AskedSoFar r x n)
      (e : Done r x n) (τ : ℕ) (mw : During τ) where
    dn : (slot_at r x n).phase ≡ done
    dn = (done_is r w x n s).0 e

    -- chunk c of the table
    chunk : ℕ → List ℕ
    chunk c = take (chunk_len (ask_count x.ask) (8 * c)) (drop (8 * c) (range r x (t.device τ)))

    chunks_joined : join chunk (chunks r x) ≡ range r x (t.device τ)
    unfolding chunk
    chunks_joined = join_all chunk (ask_count x.ask) (range r x (t.device τ)) (λ c q. refl) ∙ whole_range r x (t.device τ)

    same : (c : ℕ) (q : 8 * c < ask_count x.ask) → chunk c ≡ brought (r.calls (all_got r w x n s p dn c q).m)
    unfolding chunk
    same c q =
        let gt : Got r x c n = all_got r w x n s p dn c q in
        let ow : Own r t gt.m _ = pre.own gt.m _ (arrives r w x n c gt.m gt.before gt.replied) in
        ap (λ (l : List ℕ). take (len_of r x c) (drop (8 * c) l))
        (un.unchanged τ (t.answered gt.m) mw (covers c gt.m gt.before gt.replied ow.until_arrived))
        ∙ sym (answers c gt.m gt.before gt.replied).bytes

    -- those that a read shows
    table_shown : is_read x.ask ≡ true → shown_at r x n ≡ showing (range r x (t.device τ))
    table_shown rd = shown_done r w x n s p rd e ∙ ap showing (shown_part r w x n s p dn chunk same ∙ chunks_joined)

    -- those that a checked write was given
    table_given : is_check x.ask ≡ true → range r x (t.device τ) ≡ ask_given x.ask
    unfolding chunk
    table_given ck =
        let ur : is_read x.ask ≡ false = check_not_read x.ask ck in
        sym (whole_range r x (t.device τ)) ∙ sym (join_all (given r x) (ask_count x.ask) (range r x (t.device τ))
        (λ c q. sym (same c q ∙ (all_got r w x n s p dn c q).equal ck)))
        ∙ join_all (given r x) (ask_count x.ask) (ask_given x.ask) (λ c q. refl)
        ∙ ap (λ (k : ℕ). take k (ask_given x.ask)) (given_count x.ask ur) ∙ take-length (ask_given x.ask)

  -- an answer that was taken is meanwhile
  taken_meanwhile : (τ₀ : ℕ) → NotAfter r x n t τ₀ → (c m : ℕ) → m < n → Replied r x c m → t.answered m ≤ t.when m
      → Meanwhile r x n t τ₀ (t.answered m)
  taken_meanwhile τ₀ first c m l p u =
      record { since = omega (arith, first c m l p); c = c; m = m; before = l; last = p; until = omega arith }

  pub table_meanwhile : (τ₀ : ℕ) → Premises r x n t τ₀ → Stands r x n → AskedSoFar r x n → Done r x n → (τ : ℕ) → Meanwhile r x n t τ₀ τ
      → is_read x.ask ≡ true → shown_at r x n ≡ showing (range r x (t.device τ))
  table_meanwhile τ₀ h = table_shown (Meanwhile r x n t τ₀) h.unwritten (taken_meanwhile τ₀ h.first)

  pub given_meanwhile : (τ₀ : ℕ) → Premises r x n t τ₀ → Stands r x n → AskedSoFar r x n → Done r x n → (τ : ℕ) → Meanwhile r x n t τ₀ τ
      → is_check x.ask ≡ true → range r x (t.device τ) ≡ ask_given x.ask
  given_meanwhile τ₀ h = table_given (Meanwhile r x n t τ₀) h.unwritten (taken_meanwhile τ₀ h.first)

  -- a reply that disagrees says that the table's bytes were other when the device answered
  pub other_then : (c m : ℕ) → m < n → Replied r x c m → brought (r.calls m) ≢ given r x c
      → take (len_of r x c) (drop (8 * c) (range r x (t.device (t.answered m)))) ≢ given r x c
  other_then c m l p d e = d ((answers c m l p).bytes ∙ e)

  -- there is such a moment: the answer to the first request
  pub some_moment : (τ₀ : ℕ) → NotAfter r x n t τ₀ → Stands r x n → AskedSoFar r x n → Done r x n → (τ : ℕ) × Meanwhile r x n t τ₀ τ
  some_moment τ₀ first s p e =
      let g : Got r x 0 n = all_got r w x n s p ((done_is r w x n s).0 e) 0 (opened_at r w x).law.some in
      let o : Own r t g.m _ = pre.own g.m _ (arrives r w x n 0 g.m g.before g.replied) in
      (t.answered g.m, taken_meanwhile τ₀ first 0 g.m g.before g.replied o.until_arrived)

  -- from the first answer that was taken on
  pub table_since : Unwritten r x t (SinceTaken r x n t) → Stands r x n → AskedSoFar r x n → Done r x n → (τ : ℕ) → SinceTaken r x n t τ
      → is_read x.ask ≡ true → shown_at r x n ≡ showing (range r x (t.device τ))
  table_since un = table_shown (SinceTaken r x n t) un (λ c m l p u. record {
    c = c;
    m = m;
    first_before = l;
    first = p;
    since = omega arith;
    c' = c;
    m' = m;
    before = l;
    last = p;
    until = omega arith;
  })

  pub taken_answers_lem : (c m : ℕ) → m < n → Replied r x c m → Sent r x c (t.asked m)
  taken_answers_lem c m l p = (answers c m l p).sent

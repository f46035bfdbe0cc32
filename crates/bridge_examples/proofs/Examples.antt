-- The example runs, proved by computation, over many calls by laws; what is said of every event is tested over the list of calls.
use Prim.Native.Nat.{ℕ, zero, suc, ◌+◌, ◌*◌, ◌≤◌, ◌<◌}
use mathlib.Core.Path.{◌≡◌, refl, sym, ◌∙◌, ap, ap₂, subst}
use mathlib.Core.Logic.{◌⊎◌, inl, inr, ◌≢◌}
use mathlib.Core.List.{List, [], ◌∷◌}
use mathlib.Core.Option.{some}
use mathlib.Core.Bool.{Bool, true, false, cond, not, ◌&&◌, ◌||◌, false≢true, true≢false}
use native.Mathlib.Nat.{add-suc, suc-add, add-zero}
use native.Mathlib.Omega.{arith}
use native.Mathlib.Decide.{dec_lt}
use lib.ListN.{length, get_or, get_or-eq_default}
use lib.Dec.{eqb, ltb, leb}
use borrow.Author.Tests.{eqb-true, eqb-false, eq-eqb, lt-ltb, le-ltb, ltb-true, leb-true, not-true}
use Rattle.bus_rules.specs.Ident.{id_of, id_from, id_table, id_kind, id_offset}
use Rattle.bus_rules.specs.Frames.{frame_with, content, req, rsp}
use Rattle.bus_rules.specs.Request.{request}
use Rattle.bus_rules.specs.Holder.{request_at, table_of, answer_with, serve_of, device_after}
use Rattle.bus_rules.specs.declared.HolderState.{HolderState}
use Rattle.bus_rules.specs.declared.Served.{Served}
use Rattle.bus_rules.specs.Device.{Device, range_of}
use Rattle.bus_rules.proofs.Replies.{request_answered, answered_current}
use Rattle.bridge_rules.specs.State.{Frame, rest, lowest_givable}
use Rattle.bridge_rules.specs.Answers.{Buffers, plain, right_lengths}
use Rattle.bridge_rules.specs.Opening.{Ask, read, check, is_write, is_check, ask_device, ask_table, ask_offset, ask_count, ask_given}
use Rattle.bridge_rules.specs.Turn.{chunk_len}
use Rattle.bridge_rules.specs.Incoming.{content_number}
use Rattle.bridge_rules.specs.Call.{Lent, its_own, other, Call, opening, turn, frame, status, bytes, close, reset}
use Rattle.bridge_rules.specs.Run.{Run, state, Lawful, ShapedLent, Shaped, Transfer, slot_of, Closing, Resetting, Stands, is_turn, accepted, turns, chunks}
use Rattle.bridge_rules.specs.Run.{answer, ledger, Done, status_at, shown_at}
use Rattle.bridge_rules.specs.Replies.{request_frame, matches_frame, Matches, Sent, Replied}
use Rattle.bridge_rules.specs.Device.{Timeline, Arrives, Own, range, NotAfter, Meanwhile, Prompt, Quiet, Arrivals, Unwritten, Premises}
use Rattle.bridge_rules.specs.Demand3.{showing}
use Rattle.bridge_examples.specs.Examples.{directory_with, directory, memory, lower, upper, holding, after, run, reply, DoneRead, ShowsOther}
use Rattle.bridge_examples.specs.Examples.{answering, before}
use Rattle.bridge_examples.specs.Examples.{on_time, to_call_one, alone, two_apart, unchanging, AloneShows, burnt_table, burnt_between, BurntShows}
use Rattle.bridge_examples.specs.Examples.{older, reloaded, reloaded_first, ReloadedShows, still_older, StillOlderShows}
use Rattle.bridge_examples.specs.Examples.{unburnt, elsewhere, table_forgotten, forgetting, forgets, ForgetsShows}
use Rattle.bridge_examples.specs.Examples.{together, written, TogetherShows, restarted, written_once}
use Rattle.bridge_examples.specs.Examples.{RestartedShows, torn, overwritten, TornShows, forged}
use Rattle.bridge_examples.specs.Examples.{ForgedShows, late, late_then_own, LateShows, too_late, slow}
use Rattle.bridge_examples.specs.Examples.{TooLateShows, hasty, HastyShows, CheckedWrite, eight, ten, reading_back, stored, StoredShows, unplugged}
use Rattle.bridge_examples.specs.Examples.{UnpluggedShows, dropped, DroppedShows, after_closing, at_once, late_equal, LateEqualShows, late_other}
use Rattle.bridge_examples.specs.Examples.{LateOtherShows, reset_check, late_checked, LateCheckShows, Examples}
use Rattle.bridge_rules.proofs.Computing.{everything}
use Rattle.bridge_rules.proofs.NumberLaws.{lengths_true}
use Rattle.bridge_rules.proofs.Search.{and-true, some_eq, contradiction, lowest_some}
use Rattle.bridge_rules.proofs.CallCases.{is_frame}
use Rattle.bridge_rules.proofs.SoundRuns.{storage_sound}
use Rattle.bridge_rules.proofs.LedgerAgrees.{agrees, own_is, lowest_agrees}
use Rattle.bridge_rules.proofs.Matching.{matches_ok}
use Rattle.bridge_rules.proofs.TurnCounts.{turns_none}
use Rattle.bridge_rules.proofs.TableBytes.{arrives}
use Rattle.bridge_rules.proofs.NumbersInRuns.{numbers_in_runs_lem}
use Rattle.bridge_rules.proofs.Corollaries.{corollaries}

-- ── tests of every call of a list ──────────────────────────────────────────────────────────────────────────────────

every : (ℕ → Call → Bool) → ℕ → List Call → Bool
every p k [] = true
every p k (c ∷ cs) = p k c && every p (suc k) cs

every_at : (p : ℕ → Call → Bool) (k : ℕ) (cs : List Call) → every p k cs ≡ true → (i : ℕ) → i < length cs
    → p (k + i) (get_or cs i (status 0)) ≡ true
unfolding every
every_at p k [] e i l = absurd (omega arith)
every_at p k (c ∷ cs) e zero l = ap (λ (n : ℕ). p n c) (add-zero k) ∙ (and-true (p k c) (every p (suc k) cs) e).0
every_at p k (c ∷ cs) e (suc i) l =
    ap (λ (n : ℕ). p n (get_or cs i (status 0))) (add-suc k i ∙ sym (suc-add k i))
    ∙ every_at p (suc k) cs (and-true (p k c) (every p (suc k) cs) e).1 i (omega arith)

at_event : (p : ℕ → Call → Bool) (cs : List Call) → every p 0 cs ≡ true → (m : ℕ) → m < length cs → p m ((run cs).calls m) ≡ true
at_event p cs e m l = ap (λ (n : ℕ). p n (get_or cs m (status 0))) (sym (zero_plus m)) ∙ every_at p 0 cs e m l
  where
    zero_plus : (n : ℕ) → 0 + n ≡ n
    zero_plus n = omega arith

-- of every event, where the test holds of a status call, which stands past the end
all_events : (p : ℕ → Call → Bool) (cs : List Call) → every p 0 cs ≡ true → ((k : ℕ) → p k (status 0) ≡ true) → (m : ℕ)
    → p m ((run cs).calls m) ≡ true
all_events p cs e d m = go (dec_lt m (length cs))
  where
    go : Dec (m < length cs) → p m (get_or cs m (status 0)) ≡ true
    go (yes l) = at_event p cs e m l
    go (no l) = subst (λ (c : Call). p m c ≡ true) (sym (get_or-eq_default cs (status 0) {n = m} (omega arith))) (d m)

shaped_lent : Lent Buffers → Bool
shaped_lent its_own = true
shaped_lent (other l) = not (right_lengths l)

shaped_list : Lent (List ℕ) → Bool
shaped_list its_own = true
shaped_list (other l) = not (eqb (length l) 512)

shaped : Call → Bool
shaped (opening l a) = shaped_lent l
shaped (turn l) = shaped_lent l
shaped (frame l f) = shaped_lent l && eqb (length f.bytes) 8
shaped (status t) = true
shaped (bytes l t) = shaped_list l
shaped (close t) = true
shaped (reset o) = true

lent_shaped : (l : Lent Buffers) → shaped_lent l ≡ true → ShapedLent l
unfolding shaped_lent
lent_shaped its_own e = tt
lent_shaped (other l) e = λ h. true≢false (sym (lengths_true l h) ∙ not-true _ e)

call_shaped : (c : Call) → shaped c ≡ true → Shaped c
unfolding shaped shaped_list
call_shaped (opening l a) e = lent_shaped l e
call_shaped (turn l) e = lent_shaped l e
call_shaped (frame l f) e = let z = and-true (shaped_lent l) (eqb (length f.bytes) 8) e in (lent_shaped l z.0, eqb-true _ 8 z.1)
call_shaped (status t) e = tt
call_shaped (bytes its_own t) e = tt
call_shaped (bytes (other l) t) e = eqb-false (length l) 512 (not-true _ e)
call_shaped (close t) e = tt
call_shaped (reset o) e = tt

abbrev is_closing : Call → Bool
is_closing (opening l a) = false
is_closing (turn l) = false
is_closing (frame l f) = false
is_closing (status t) = false
is_closing (bytes l t) = false
is_closing (close t) = true
is_closing (reset o) = true

abbrev is_reset : Call → Bool
is_reset (opening l a) = false
is_reset (turn l) = false
is_reset (frame l f) = false
is_reset (status t) = false
is_reset (bytes l t) = false
is_reset (close t) = false
is_reset (reset o) = true

-- a turn with the bridge's own buffers, which is accepted
abbrev own_turn : Call → Bool
own_turn (opening l a) = false
own_turn (turn its_own) = true
own_turn (turn (other l)) = false
own_turn (frame l f) = false
own_turn (status t) = false
own_turn (bytes l t) = false
own_turn (close t) = false
own_turn (reset o) = false

-- a reply that arrives under device 5's number
under_five : Run → ℕ → Call → Bool
under_five r m (opening l a) = false
under_five r m (turn l) = false
under_five r m (frame l f) = eqb (id_from f.id) 5 && eqb (content_number (state r m).own f) 0
under_five r m (status t) = false
under_five r m (bytes l t) = false
under_five r m (close t) = false
under_five r m (reset o) = false

all_zero : List ℕ → Bool
all_zero [] = true
all_zero (n ∷ ns) = eqb n 0 && all_zero ns

zero_at : (ns : List ℕ) → all_zero ns ≡ true → (k : ℕ) → get_or ns k 0 ≡ 0
unfolding all_zero
zero_at [] e k = refl
zero_at (n ∷ ns) e zero = eqb-true n 0 (and-true (eqb n 0) (all_zero ns) e).0
zero_at (n ∷ ns) e (suc k) = zero_at ns (and-true (eqb n 0) (all_zero ns) e).1 k

or_either : (a b : Bool) → (a || b) ≡ true → (a ≡ true) ⊎ (b ≡ true)
or_either true b e = inl refl
or_either false b e = inr e

module _ (cs : List Call) where
  run_lawful : every (λ k c. shaped c) 0 cs ≡ true → Lawful (run cs)
  unfolding shaped
  run_lawful e = record {
    own = omega arith;
    first = refl;
    second = refl;
    shaped = λ k. call_shaped ((run cs).calls k) (all_events (λ k c. shaped c) cs e (λ k. refl) k);
  }

  -- what holds of each event at which there is such a call
  at_each : (a : ℕ → Call → Bool) (b : ℕ → Bool) → every (λ k c. not (a k c) || b k) 0 cs ≡ true → ((k : ℕ) → a k (status 0) ≡ false) → (m : ℕ)
      → a m ((run cs).calls m) ≡ true → b m ≡ true
  at_each a b e d m h = go (or_either (not (a m ((run cs).calls m))) (b m) (all_events (λ k c. not (a k c) || b k) cs e (λ k. rw (d k)) m))
    where
      go : (not (a m ((run cs).calls m)) ≡ true) ⊎ (b m ≡ true) → b m ≡ true
      go (inl q) = contradiction h (not-true _ q)
      go (inr q) = q

  -- a transfer stands where nothing is closed between its opening and event n
  still_stands : (y : Transfer (run cs)) (n : ℕ) → every (λ k c. not (is_closing c) || (leb k y.at || leb n k)) 0 cs ≡ true → y.at < n
      → Stands (run cs) y n
  still_stands y n e l = (l, never)
    where
      outside : (m : ℕ) → y.at < m → m < n → (leb m y.at ≡ true) ⊎ (leb n m ≡ true) → ⊥
      outside m a b (inl q) = omega (arith, leb-true m y.at q)
      outside m a b (inr q) = omega (arith, leb-true n m q)

      closed : (m : ℕ) → y.at < m → m < n → is_closing ((run cs).calls m) ≡ true → ⊥
      closed m a b c = outside m a b (or_either (leb m y.at) (leb n m)
          (at_each (λ k d. is_closing d) (λ k. leb k y.at || leb n k) e (λ k. refl) m c))

      never : (m : ℕ) → y.at < m → m < n → ¬ Closing (run cs) y m
      never m a b (z, inl c) = closed m a b (ap is_closing c)
      never m a b (z, inr (o, c)) = closed m a b (ap is_closing c)

  abbrev done_read : (x : Transfer (run cs)) (n : ℕ) (bs : List ℕ) → every (λ k c. shaped c) 0 cs ≡ true
      → every (λ k c. not (is_closing c) || (leb k x.at || leb n k)) 0 cs ≡ true → x.at < n → Done (run cs) x n
      → shown_at (run cs) x n ≡ showing bs → DoneRead cs x.at n bs
  done_read x n bs w s l d h = record { lawful = run_lawful w; x = x; opened = refl; stands = still_stands x n s l; done = d; shown = h }

-- a reply that is the device's own, as the holder's rules give it: the device is this before it, and at the moment of its answer what it is after it
own_from : (r : Run) (t : Timeline) (m : ℕ) (d : Device) (q g : Frame) → t.asked m < m → accepted r (t.asked m) ≡ true
    → (answer r (t.asked m)).sent ≡ some q → t.when (t.asked m) ≤ t.answered m → t.answered m ≤ t.when m
    → (serve_of d q ≡ answer_with 1 g) × (t.device (t.answered m) ≡ device_after d q) → Own r t m g
unfolding answer_with
own_from r t m d q g e a y s u h = record {
  request = q;
  reply = g;
  before = d;
  earlier = e;
  turned = a;
  yields = y;
  since_asked = s;
  until_arrived = u;
  gives = (ap (λ (v : Served). v.frames) h.0, ap (λ (v : Served). v.frame) h.0);
  after = h.1;
  same_id = refl;
  same_len = refl;
  same_bytes = refl;
}

-- a device gives this reply and stays as it was
abbrev Stays : Device → Frame → Frame → Type 0
Stays d q g = (serve_of d q ≡ answer_with 1 g) × (d ≡ device_after d q)

own_reply : (r : Run) (t : Timeline) (m : ℕ) (q g : Frame) → t.asked m < m → accepted r (t.asked m) ≡ true
    → (answer r (t.asked m)).sent ≡ some q → t.when (t.asked m) ≤ t.answered m → t.answered m ≤ t.when m
    → Stays (t.device (t.answered m)) q g → Own r t m g
own_reply r t m q g = own_from r t m (t.device (t.answered m)) q g

same_frame : (c : Call) (f g : Frame) → c ≡ frame its_own f → c ≡ frame its_own g → f ≡ g
same_frame c f g p q = let z : frame its_own f ≡ frame its_own g = sym p ∙ q in cc

-- a frame that a run brings at an event is the one of its list
its_own_lem : (r : Run) (t : Timeline) (k m : ℕ) (g f : Frame) → m ≡ k → r.calls k ≡ frame its_own g → Own r t k g → r.calls m ≡ frame its_own f
    → Own r t m f
its_own_lem r t k m g f e c o d =
    subst (λ (i : ℕ). Own r t i f) (sym e) (subst (Own r t k) (same_frame (r.calls k) g f c (ap r.calls (sym e) ∙ d)) o)

-- a moment until a reply
until : (r : Run) (x : Transfer r) (n : ℕ) (t : Timeline) (τ₀ τ c m : ℕ) → τ₀ ≤ τ → m < n → Replied r x c m → τ ≤ t.when m
    → Meanwhile r x n t τ₀ τ
until r x n t τ₀ τ c m a l p u = record { since = a; c = c; m = m; before = l; last = p; until = u }

-- where a byte of the range is another at moment τ, until a reply, than at τ₀
range_changes : (r : Run) (x : Transfer r) (n : ℕ) (t : Timeline) (τ₀ τ c m i : ℕ) → τ₀ ≤ τ → m < n → Replied r x c m → τ ≤ t.when m
    → get_or (range r x (t.device τ₀)) i 0 ≢ get_or (range r x (t.device τ)) i 0 → ¬ Unwritten r x t (Meanwhile r x n t τ₀)
range_changes r x n t τ₀ τ c m i a l p u d w = d (ap (λ (s : List ℕ). get_or s i 0)
    (w.unchanged τ₀ τ (until r x n t τ₀ τ₀ c m (omega arith) l p (omega arith)) (until r x n t τ₀ τ c m a l p u)))

-- where the device is the same all the while
steady : (r : Run) (x : Transfer r) (t : Timeline) (During : ℕ → Type 0) (d : Device) → ((τ : ℕ) → During τ → t.device τ ≡ d)
    → Unwritten r x t During
steady r x t During d h = record {
  same_tables = λ τ τ' a b. ap (λ (e : Device). e.directory) (h τ a ∙ sym (h τ' b));
  unchanged = λ τ τ' a b. ap (range r x) (h τ a ∙ sym (h τ' b));
}

-- a reply to the request of the call before
prompt_next : (r : Run) (x : Transfer r) (n : ℕ) (t : Timeline) → ((m : ℕ) → t.asked m ≡ before m) → Prompt r x n t
prompt_next r x n t e m f a = rw (e m) (omega (arith, turns_none r (before m) m (at_most m)))
  where
    at_most : (k : ℕ) → k ≤ suc (before k)
    at_most zero = omega arith
    at_most (suc k) = omega arith

-- the turns among the calls after event j and before event n
called : List Call → ℕ → ℕ → ℕ
called cs j zero = 0
called cs j (suc n) = called cs j n + cond (ltb j n && own_turn (get_or cs n (status 0))) 1 0

-- a REQ of a slot, and a reply to it
request_of : (own slot : ℕ) → Ask → ℕ → Frame
request_of own slot a c = frame_with (id_of (ask_offset a + 8 * c) req own (ask_device a) (ask_table a))
    (request 6 (128 * slot + 8 * c) (chunk_len (ask_count a) (8 * c)))

reply_of : (own slot : ℕ) → Ask → ℕ → Frame → Bool
reply_of own slot a c f =
    eqb (content_number own f) 0 && eqb (id_table f.id) 6 && eqb (id_from f.id) (ask_device a)
    && eqb (id_offset f.id) (128 * slot + 8 * c) && eqb f.len (chunk_len (ask_count a) (8 * c))

-- own number and slot by the state in place of the ledger, turns by the calls in place of the answers: over many calls these compute sooner
module _ (cs : List Call) (w : Lawful (run cs)) where
  slot_is : (x : Transfer (run cs)) (k : ℕ) → lowest_givable (state (run cs) x.at) ≡ some k → slot_of (run cs) x ≡ k
  unfolding slot_of lowest_givable
  slot_is x k e = lowest_agrees (ledger (run cs) x.at) (state (run cs) x.at) k (storage_sound (run cs) w x.at).0
      (agrees (run cs) w x.at) (lowest_some _ k e)

  accepted_own : (m : ℕ) → accepted (run cs) m ≡ own_turn ((run cs).calls m)
  unfolding accepted
  accepted_own m = go ((run cs).calls m) refl
    where
      other_lent : (l : Buffers) → other l ≢ its_own
      other_lent l p = let z : ◌≡◌ {A = ℕ} 0 1 = cc in omega arith

      go : (c : Call) → (run cs).calls m ≡ c → (is_turn c && eqb (answer (run cs) m).number 0) ≡ own_turn c
      go (opening l a) e = refl
      go (turn its_own) e = eq-eqb _ 0 (((numbers_in_runs_lem (run cs) w m).turns its_own e 0).1 (inr (λ d. d refl, refl)))
      go (turn (other l)) e = ap (λ (n : ℕ). eqb n 0) (((numbers_in_runs_lem (run cs) w m).turns (other l) e 10).1 (inl (other_lent l, refl)))
      go (frame l f) e = refl
      go (status t) e = refl
      go (bytes l t) e = refl
      go (close t) e = refl
      go (reset o) e = refl

  turns_called : (j n : ℕ) → turns (run cs) j n ≡ called cs j n
  unfolding turns called
  turns_called j zero = refl
  turns_called j (suc n) = ap₂ (λ (k : ℕ) (b : Bool). k + cond (ltb j n && b) 1 0) (turns_called j n) (accepted_own n)

  -- the events at which a reply arrives under device 5's number
  under_five_lem : (p : ℕ → Bool) → every (λ k c. not (under_five (run cs) k c) || p k) 0 cs ≡ true → (x : Transfer (run cs)) → ask_device x.ask ≡ 5
      → (n m : ℕ) (f : Frame) → Arrives (run cs) x n m f → p m ≡ true
  unfolding under_five
  under_five_lem p e x d n m f a = at_each cs (under_five (run cs)) p e (λ k. refl) m
      (ap (under_five (run cs) m) a.call ∙ rw (eq-eqb (id_from f.id) 5 (a.device ∙ d), ← own_is (run cs) w m, eq-eqb _ 0 a.passes))

  -- where frames come from event k on, and each is answered not before τ₀
  not_after : (k τ₀ : ℕ) (t : Timeline) → every (λ i c. not (is_frame c) || leb k i) 0 cs ≡ true
      → ((m : ℕ) → k ≤ m → τ₀ ≤ t.answered m) → (x : Transfer (run cs)) (n : ℕ) → NotAfter (run cs) x n t τ₀
  not_after k τ₀ t e h x n c m l p = h m (leb-true k m
      (at_each cs (λ i d. is_frame d) (leb k) e (λ i. refl) m (ap is_frame (matches_ok (run cs) w x c m p.matches).1.is)))

  -- a transfer that sent its request at turn j
  sent_at : (x : Transfer (run cs)) (c j k : ℕ) → Stands (run cs) x j → is_write x.ask ≡ false → c < chunks (run cs) x
      → lowest_givable (state (run cs) x.at) ≡ some k → accepted (run cs) j ≡ true
      → (answer (run cs) j).sent ≡ some (request_of (state (run cs) j).own k x.ask c) → Sent (run cs) x c j
  unfolding request_frame request_of
  sent_at x c j k s rd l e a y =
      record { stands = s; asks = rd; chunk = l; turned = a; yields = rw (own_is (run cs) w j, slot_is x k e) y }

  -- and got its reply at event m
  replied_at : (x : Transfer (run cs)) (n c j m k : ℕ) (f : Frame) → Stands (run cs) x n → x.at < j → j < m → m ≤ n → is_write x.ask ≡ false
      → c < chunks (run cs) x → lowest_givable (state (run cs) x.at) ≡ some k → accepted (run cs) j ≡ true
      → (answer (run cs) j).sent ≡ some (request_of (state (run cs) j).own k x.ask c) → (run cs).calls m ≡ frame its_own f
      → reply_of (state (run cs) m).own k x.ask c f ≡ true → turns (run cs) j m < 20
      → ((i : ℕ) → j < i → i < m → ¬ Matches (run cs) x c i) → Replied (run cs) x c m
  unfolding matches_frame reply_of
  replied_at x n c j m k f s g b l rd h e a y d q t u = record {
    awaits = record {
      stands = (omega arith, λ i v z. s.1 i v (omega arith));
      j = j;
      before = b;
      sent = sent_at x c j k (g, λ i v z. s.1 i v (omega arith)) rd h e a y;
      soon = t;
      unmatched = u;
    };
    matches = rw (d, own_is (run cs) w m, slot_is x k e) q;
  }

  -- right after it
  replied_next : (x : Transfer (run cs)) (n c j k : ℕ) (f : Frame) → Stands (run cs) x n → x.at < j → j < n → is_write x.ask ≡ false
      → c < chunks (run cs) x → lowest_givable (state (run cs) x.at) ≡ some k → accepted (run cs) j ≡ true
      → (answer (run cs) j).sent ≡ some (request_of (state (run cs) j).own k x.ask c) → (run cs).calls (suc j) ≡ frame its_own f
      → reply_of (state (run cs) (suc j)).own k x.ask c f ≡ true → Replied (run cs) x c (suc j)
  replied_next x n c j k f s g l rd h e a y d q = replied_at x n c j (suc j) k f s g (omega arith) l rd h e a y d q
      (omega (arith, turns_none (run cs) j (suc j) (omega arith))) (λ i u v. absurd (omega arith))

  -- ── C-19's two premises ──────────────────────────────────────────────────────────────────────────────────────────

  -- "every reply arrives before the 60th turn after its request was sent, or never": counted from each reply's request
  prompt_arrivals : (t : Timeline) → every (λ k c. not (under_five (run cs) k c) || ltb (called cs (t.asked k) k) 60) 0 cs ≡ true
      → (x : Transfer (run cs)) (n : ℕ) → ask_device x.ask ≡ 5 → Prompt (run cs) x n t
  prompt_arrivals t e x n d m f a =
      let l = ltb-true (called cs (t.asked m) m) 60 (under_five_lem (λ k. ltb (called cs (t.asked k) k) 60) e x d n m f a) in
      omega (arith, turns_called (t.asked m) m, l)

  -- not where one that was taken answers a request 60 or more turns ago
  not_prompt_lem : (t : Timeline) (x : Transfer (run cs)) (n c m : ℕ) → m < n → Replied (run cs) x c m → leb 60 (called cs (t.asked m) m) ≡ true
      → ¬ Prompt (run cs) x n t
  not_prompt_lem t x n c m l p e h =
      omega (
        arith,
        leb-true 60 (called cs (t.asked m) m) e,
        turns_called (t.asked m) m,
        h m _ (arrives (run cs) w x n c m l p),
      )

  -- "no request in the last 60 turns before a reset": where no slot rests at a reset
  quiet_resets_lem : every (λ k c. not (is_reset c) || all_zero (state (run cs) k).rests) 0 cs ≡ true → (n : ℕ) → Quiet (run cs) n
  unfolding rest
  quiet_resets_lem e n = corollaries.quiet_resets (run cs) w n (λ q l z k b. zero_at (state (run cs) q).rests
      (at_each cs (λ i c. is_reset c) (λ i. all_zero (state (run cs) i).rests) e (λ i. refl) q (ap is_reset z.1.1)) k)

  -- not where a reset comes fewer than 60 turns after a request
  not_quiet_lem : (y : Transfer (run cs)) (n c j q : ℕ) → q < n → Resetting (run cs) q → j < q → Sent (run cs) y c j
      → ltb (called cs j q) 60 ≡ true → ¬ Quiet (run cs) n
  not_quiet_lem y n c j q l z b s e h = omega (arith, ltb-true (called cs j q) 60 e, turns_called j q, h q l z y c j b s)

  -- where replies arrive under device 5's number at two events only, and each is its own
  two_own : (t : Timeline) (x : Transfer (run cs)) (n i j : ℕ) (g h : Frame) → ask_device x.ask ≡ 5
      → every (λ k c. not (under_five (run cs) k c) || (eqb k i || eqb k j)) 0 cs ≡ true
      → (run cs).calls i ≡ frame its_own g → Own (run cs) t i g → (run cs).calls j ≡ frame its_own h → Own (run cs) t j h
      → (m : ℕ) (f : Frame) → Arrives (run cs) x n m f → Own (run cs) t m f
  two_own t x n i j g h d e p o q u m f a =
      go (or_either (eqb m i) (eqb m j) (under_five_lem (λ k. eqb k i || eqb k j) e x d n m f a))
    where
      go : (eqb m i ≡ true) ⊎ (eqb m j ≡ true) → Own (run cs) t m f
      go (inl z) = its_own_lem (run cs) t i m g f (eqb-true m i z) p o a.call
      go (inr z) = its_own_lem (run cs) t j m h f (eqb-true m j z) q u a.call

  -- what arrives where each reply answers the request of the call before
  on_time_lem : (t : Timeline) (x : Transfer (run cs)) (n : ℕ) → ((m : ℕ) → t.asked m ≡ before m)
      → every (λ k c. not (is_reset c) || all_zero (state (run cs) k).rests) 0 cs ≡ true
      → ((m : ℕ) (f : Frame) → Arrives (run cs) x n m f → Own (run cs) t m f) → Arrivals (run cs) x n t
  on_time_lem t x n a e o = record { own = o; prompt = prompt_next (run cs) x n t a; quiet = quiet_resets_lem e n }

-- a done read that takes the one reply there is, the device's own to some request, at event m
abbrev shows_other : (cs : List Call) (at m : ℕ) (bs : List ℕ) (v : DoneRead cs at (suc m) bs) (asked : ℕ → ℕ) (d : Device) (g : Frame)
    → ask_device v.x.ask ≡ 5 → every (λ k c. not (under_five (run cs) k c) || (eqb k m || eqb k m)) 0 cs ≡ true
    → every (λ k c. not (is_frame c) || leb m k) 0 cs ≡ true → (run cs).calls m ≡ frame its_own g → Own (run cs) (answering asked (λ τ. d)) m g
    → range (run cs) v.x d ≡ upper → eqb (get_or bs 0 0) 108 ≡ false → ShowsOther cs at (suc m) bs (answering asked (λ τ. d)) m
shows_other cs at m bs v asked d g a u f c o q e = record {
  reader = v;
  own = two_own cs v.lawful (answering asked (λ τ. d)) v.x (suc m) m m g g a u c o c o;
  first = not_after cs v.lawful m m (answering asked (λ τ. d)) f (λ k l. l) v.x (suc m);
  unwritten = steady (run cs) v.x (answering asked (λ τ. d)) _ d (λ τ h. refl);
  asked = λ τ. q;
  other = λ z. eqb-false (get_or bs 0 0) 108 e (ap (λ (l : List ℕ). get_or l 0 0) z);
}

-- ── one asker ──────────────────────────────────────────────────────────────────────────────────────────────────────

alone_x : Transfer (run alone)
unfolding everything alone reply
alone_x = record { at = 0; lent = its_own; ask = read 5 7 6 10; call = refl; accepted = refl }

alone_read : DoneRead alone 0 5 (106 ∷ 107 ∷ 108 ∷ 109 ∷ 110 ∷ 111 ∷ 112 ∷ 113 ∷ 114 ∷ 115 ∷ [])
unfolding everything every shaped shaped_lent alone reply alone_x
alone_read = done_read alone alone_x 5 _ refl refl (omega arith) refl refl

-- where the device, which is d before it, answers the two requests so, the range unwritten, the premises hold
module _ (device : ℕ → Device) (d : Device) (g : (serve_of d (frame_with 0x1882B8 (6 ∷ 0 ∷ 8 ∷ []))
    ≡ answer_with 1 (reply 5 0 (106 ∷ 107 ∷ 108 ∷ 109 ∷ 110 ∷ 111 ∷ 112 ∷ 113 ∷ []))) × (device 3 ≡ device_after d (frame_with 0x1882B8 (6 ∷ 0 ∷ 8 ∷ []))))
    (h : Stays (device 7) (frame_with 0x3882B8 (6 ∷ 1 ∷ 2 ∷ [])) (reply 5 8 (114 ∷ 115 ∷ []))) where
  alone_own2 : Own (run alone) (two_apart device) 2 (reply 5 0 (106 ∷ 107 ∷ 108 ∷ 109 ∷ 110 ∷ 111 ∷ 112 ∷ 113 ∷ []))
  unfolding everything alone reply
  alone_own2 = own_from (run alone) (two_apart device) 2 d _ _ (omega arith) refl refl (omega arith) (omega arith) g

  alone_own4 : Own (run alone) (two_apart device) 4 (reply 5 8 (114 ∷ 115 ∷ []))
  unfolding everything alone reply
  alone_own4 = own_reply (run alone) (two_apart device) 4 _ _ (omega arith) refl refl (omega arith) (omega arith) h

  alone_premises : Unwritten (run alone) alone_x (two_apart device) (Meanwhile (run alone) alone_x 5 (two_apart device) 3)
      → Premises (run alone) alone_x 5 (two_apart device) 3
  unfolding everything every under_five all_zero alone reply alone_x alone_read
  alone_premises u = record {
    arrivals = on_time_lem alone alone_read.lawful (two_apart device) alone_x 5 (λ m. refl) refl
        (two_own alone alone_read.lawful (two_apart device) alone_x 5 2 4 _ _ refl refl refl alone_own2 refl alone_own4);
    first = not_after alone alone_read.lawful 2 3 (two_apart device) refl (λ m l. omega arith) alone_x 5;
    unwritten = u;
  }

alone_replied : Replied (run alone) alone_x 1 4
unfolding everything request_of reply_of alone reply alone_x alone_read
alone_replied = replied_next alone alone_read.lawful alone_x 5 1 3 _ _ alone_read.stands (omega arith) (omega arith) refl (omega arith)
    refl refl refl refl refl

alone_shows_lem : AloneShows
unfolding everything alone reply alone_x alone_read directory_with memory
alone_shows_lem = record {
  shows = record {
    reader = alone_read;
    premises = alone_premises (λ τ. holding) holding (refl, refl) (refl, refl) (steady (run alone) alone_x unchanging _ holding (λ τ a. refl));
    meanwhile = until (run alone) alone_x 5 unchanging 3 5 1 4 (omega arith) (omega arith) alone_replied (omega arith);
    same = refl;
  };
  asked = refl;
  answered = refl;
  arrived = refl;
}

-- ── a burn between its two answers ─────────────────────────────────────────────────────────────────────────────────

burnt_unwritten : (During : ℕ → Type 0) → Unwritten (run alone) alone_x burnt_between During
unfolding everything alone_x directory_with memory burnt_table
burnt_unwritten During = record {
  same_tables = λ τ τ' a b. tables (ltb τ 4) ∙ sym (tables (ltb τ' 4));
  unchanged = λ τ τ' a b. bytes (ltb τ 4) ∙ sym (bytes (ltb τ' 4));
}
  where
    tables : (b : Bool) → (cond b holding burnt_table).directory ≡ directory
    tables true = refl
    tables false = refl

    bytes : (b : Bool) → range (run alone) alone_x (cond b holding burnt_table) ≡ range (run alone) alone_x holding
    bytes true = refl
    bytes false = refl

burnt_shows_lem : BurntShows
unfolding everything alone reply alone_x alone_read directory_with memory burnt_table
burnt_shows_lem = record {
  shows = record {
    reader = alone_read;
    premises = alone_premises burnt_between.device holding (refl, refl) (refl, refl) (burnt_unwritten _);
    meanwhile = until (run alone) alone_x 5 burnt_between 3 5 1 4 (omega arith) (omega arith) alone_replied (omega arith);
    same = refl;
  };
  answered = (refl, refl);
  earlier = refl;
  later = refl;
}

-- ── reloaded ───────────────────────────────────────────────────────────────────────────────────────────────────────

reloaded_shows_lem : ReloadedShows
unfolding everything alone reply alone_x alone_read directory_with memory reloaded
reloaded_shows_lem = record {
  shows = record {
    reader = alone_read;
    premises = alone_premises reloaded_first.device older (refl, refl) (refl, refl)
        (steady (run alone) alone_x reloaded_first _ reloaded (λ τ a. rw (le-ltb τ 3 a.since)));
    meanwhile = until (run alone) alone_x 5 reloaded_first 3 5 1 4 (omega arith) (omega arith) alone_replied (omega arith);
    same = refl;
  };
  answered = refl;
  earlier = refl;
}

-- the device after an answer has a current table
still_not_own : ¬ Own (run alone) still_older 2 (reply 5 0 (106 ∷ 107 ∷ 108 ∷ 109 ∷ 110 ∷ 111 ∷ 112 ∷ 113 ∷ []))
unfolding everything alone reply
still_not_own o =
    let q : frame_with 0x1882B8 (6 ∷ 0 ∷ 8 ∷ []) ≡ o.request = some_eq o.yields in
    let c = answered_current o.before o.request o.reply o.gives (ap (λ (f : Frame). id_kind f.id) (sym q)) in
    let z : ◌≡◌ {A = ℕ} 0 1 = ap (λ (d : Device). d.state.has_current) o.after ∙ ap (λ (s : HolderState). s.has_current) c in
    omega arith

still_older_shows_lem : StillOlderShows
unfolding everything alone reply alone_x alone_read directory_with memory
still_older_shows_lem = record {
  reader = alone_read;
  first_reply = (refl, refl);
  second_reply = (refl, refl);
  zeros = λ τ. refl;
  not_own = still_not_own;
}

-- ── together ───────────────────────────────────────────────────────────────────────────────────────────────────────

together_x : Transfer (run together)
unfolding everything together reply
together_x = record { at = 1; lent = its_own; ask = read 5 7 6 10; call = refl; accepted = refl }

together_read : DoneRead together 1 33 (1 ∷ 2 ∷ 108 ∷ 109 ∷ 110 ∷ 111 ∷ 112 ∷ 113 ∷ 114 ∷ 115 ∷ [])
unfolding everything every shaped shaped_lent together reply together_x
together_read = done_read together together_x 33 _ refl refl (omega arith) refl refl

together_own28 : Own (run together) written 28 (reply 5 128 (1 ∷ 2 ∷ 108 ∷ 109 ∷ 110 ∷ 111 ∷ 112 ∷ 113 ∷ []))
unfolding everything together reply directory_with memory after
together_own28 = own_reply (run together) written 28 (frame_with 0x1882B8 (6 ∷ 16 ∷ 8 ∷ [])) _ (omega arith) refl refl (omega arith) (omega arith)
    (refl, refl)

together_own30 : Own (run together) written 30 (reply 5 136 (114 ∷ 115 ∷ []))
unfolding everything together reply directory_with memory after
together_own30 = own_reply (run together) written 30 (frame_with 0x3882B8 (6 ∷ 17 ∷ 2 ∷ [])) _ (omega arith) refl refl (omega arith) (omega arith)
    (refl, refl)

-- the device is the same all the while
together_same : (τ : ℕ) → Meanwhile (run together) together_x 33 written 5 τ → written.device τ ≡ after holding 6 (1 ∷ 2 ∷ [])
together_same τ w =
    let l : 4 ≤ τ = omega (arith, w.since) in
    let u : τ < 33 = omega (arith, w.until, w.before) in
    rw (le-ltb τ 4 l, lt-ltb τ 33 u)

together_replied : Replied (run together) together_x 1 30
unfolding everything request_of reply_of together reply together_x together_read
together_replied = replied_next together together_read.lawful together_x 33 1 29 _ _ together_read.stands (omega arith) (omega arith) refl
    (omega arith) refl refl refl refl refl

together_shows_lem : TogetherShows
unfolding everything every under_five all_zero together reply together_x together_read directory_with memory after
together_shows_lem = record {
  shows = record {
    reader = together_read;
    premises = record {
      arrivals = on_time_lem together together_read.lawful written together_x 33 (λ m. refl) refl
          (two_own together together_read.lawful written together_x 33 28 30 _ _ refl refl refl together_own28 refl together_own30);
      first = not_after together together_read.lawful 6 5 written refl (λ m l. omega arith) together_x 33;
      unwritten = steady (run together) together_x written _ _ together_same;
    };
    meanwhile = until (run together) together_x 33 written 5 29 1 30 (omega arith) (omega arith) together_replied (omega arith);
    same = refl;
  };
  earlier = refl;
  later = refl;
  other = refl;
  to_another = refl;
  from_another = refl;
}

-- ── restarted ──────────────────────────────────────────────────────────────────────────────────────────────────────

restarted_x : Transfer (run restarted)
unfolding everything restarted
restarted_x = record { at = 3; lent = its_own; ask = read 5 7 6 2; call = refl; accepted = refl }

restarted_read : DoneRead restarted 3 6 (1 ∷ 2 ∷ [])
unfolding everything every shaped shaped_lent restarted restarted_x
restarted_read = done_read restarted restarted_x 6 _ refl refl (omega arith) refl refl

restarted_own5 : Own (run restarted) written_once 5 (frame_with (id_of 0 rsp 5 3 6) (1 ∷ 2 ∷ []))
unfolding everything restarted directory_with memory after
restarted_own5 = own_reply (run restarted) written_once 5 (frame_with (id_of 6 req 3 5 7) (6 ∷ 0 ∷ 2 ∷ [])) _ (omega arith) refl refl (omega arith)
    (omega arith) (refl, refl)

restarted_replied : Replied (run restarted) restarted_x 0 5
unfolding everything request_of reply_of restarted restarted_x restarted_read
restarted_replied = replied_next restarted restarted_read.lawful restarted_x 6 0 4 _ _ restarted_read.stands (omega arith) (omega arith) refl
    (omega arith) refl refl refl refl refl

restarted_shows_lem : RestartedShows
unfolding everything every under_five all_zero restarted restarted_x restarted_read directory_with memory after
restarted_shows_lem = record {
  sent = refl;
  forgotten = refl;
  again = refl;
  shows = record {
    reader = restarted_read;
    premises = record {
      arrivals = on_time_lem restarted restarted_read.lawful written_once restarted_x 6 (λ m. refl) refl
          (two_own restarted restarted_read.lawful written_once restarted_x 6 5 5 _ _ refl refl refl restarted_own5 refl restarted_own5);
      first = not_after restarted restarted_read.lawful 5 5 written_once refl (λ m l. omega arith) restarted_x 6;
      unwritten = steady (run restarted) restarted_x written_once _ (after holding 6 (1 ∷ 2 ∷ [])) (λ τ a. rw (le-ltb τ 2 (omega (arith, a.since))));
    };
    meanwhile = until (run restarted) restarted_x 6 written_once 5 5 0 5 (omega arith) (omega arith) restarted_replied (omega arith);
    same = refl;
  };
}

-- ── torn ───────────────────────────────────────────────────────────────────────────────────────────────────────────

torn_x : Transfer (run torn)
unfolding everything torn reply
torn_x = record { at = 0; lent = its_own; ask = read 5 7 6 10; call = refl; accepted = refl }

torn_read : DoneRead torn 0 7 (106 ∷ 107 ∷ 108 ∷ 109 ∷ 110 ∷ 111 ∷ 112 ∷ 113 ∷ 3 ∷ 4 ∷ [])
unfolding everything every shaped shaped_lent torn reply torn_x
torn_read = done_read torn torn_x 7 _ refl refl (omega arith) refl refl

torn_own2 : Own (run torn) overwritten 2 (reply 5 0 (106 ∷ 107 ∷ 108 ∷ 109 ∷ 110 ∷ 111 ∷ 112 ∷ 113 ∷ []))
unfolding everything torn reply directory_with memory
torn_own2 = own_reply (run torn) overwritten 2 (frame_with 0x1882B8 (6 ∷ 0 ∷ 8 ∷ [])) _ (omega arith) refl refl (omega arith) (omega arith) (refl, refl)

torn_own6 : Own (run torn) overwritten 6 (reply 5 8 (3 ∷ 4 ∷ []))
unfolding everything torn reply directory_with memory after
torn_own6 = own_reply (run torn) overwritten 6 (frame_with 0x3882B8 (6 ∷ 1 ∷ 2 ∷ [])) _ (omega arith) refl refl (omega arith) (omega arith) (refl, refl)

torn_replied : Replied (run torn) torn_x 1 6
unfolding everything request_of reply_of torn reply torn_x torn_read
torn_replied = replied_next torn torn_read.lawful torn_x 7 1 5 _ _ torn_read.stands (omega arith) (omega arith) refl (omega arith)
    refl refl refl refl refl

-- the range's bytes before and after the write differ from those shown, at place 8 and at place 6
torn_never : (b : Bool) → range (run torn) torn_x (cond b holding (after holding 12 (1 ∷ 2 ∷ 3 ∷ 4 ∷ [])))
    ≢ 106 ∷ 107 ∷ 108 ∷ 109 ∷ 110 ∷ 111 ∷ 112 ∷ 113 ∷ 3 ∷ 4 ∷ []
unfolding everything torn reply torn_x directory_with memory after
torn_never true e = let z : ◌≡◌ {A = ℕ} 114 3 = ap (λ (l : List ℕ). get_or l 8 0) e in omega arith
torn_never false e = let z : ◌≡◌ {A = ℕ} 1 112 = ap (λ (l : List ℕ). get_or l 6 0) e in omega arith

torn_rewritten : ¬ Unwritten (run torn) torn_x overwritten (Meanwhile (run torn) torn_x 7 overwritten 2)
unfolding everything torn reply torn_x directory_with memory after
torn_rewritten = range_changes (run torn) torn_x 7 overwritten 2 6 1 6 6 (omega arith) (omega arith) torn_replied (omega arith) (λ e. omega (arith, e))

torn_shows_lem : TornShows
unfolding everything every under_five all_zero torn reply torn_x torn_read
torn_shows_lem = record {
  reader = torn_read;
  arrivals = on_time_lem torn torn_read.lawful overwritten torn_x 7 (λ m. refl) refl
      (two_own torn torn_read.lawful overwritten torn_x 7 2 6 _ _ refl refl refl torn_own2 refl torn_own6);
  first = not_after torn torn_read.lawful 2 2 overwritten refl (λ m l. omega arith) torn_x 7;
  never = λ τ. torn_never (ltb τ 5);
  rewritten = torn_rewritten;
}

-- ── forgets ────────────────────────────────────────────────────────────────────────────────────────────────────────

forgets_x : Transfer (run forged)
unfolding everything forgets reply
forgets_x = record { at = 0; lent = its_own; ask = read 5 7 6 10; call = refl; accepted = refl }

forgets_read : DoneRead forged 0 5 (106 ∷ 107 ∷ 108 ∷ 109 ∷ 110 ∷ 111 ∷ 112 ∷ 113 ∷ 0 ∷ 0 ∷ [])
unfolding everything every shaped shaped_lent forgets reply forgets_x
forgets_read = done_read forged forgets_x 5 _ refl refl (omega arith) refl refl

forgets_own2 : Own (run forgets) forgetting 2 (reply 5 0 (106 ∷ 107 ∷ 108 ∷ 109 ∷ 110 ∷ 111 ∷ 112 ∷ 113 ∷ []))
unfolding everything forgets reply directory_with memory unburnt
forgets_own2 = own_reply (run forgets) forgetting 2 (frame_with 0x1882B8 (6 ∷ 0 ∷ 8 ∷ [])) _ (omega arith) refl refl (omega arith) (omega arith) (refl, refl)

forgets_own4 : Own (run forgets) forgetting 4 (reply 5 8 (0 ∷ 0 ∷ []))
unfolding everything forgets reply directory_with memory unburnt elsewhere table_forgotten
forgets_own4 = own_from (run forgets) forgetting 4 elsewhere (frame_with 0x3882B8 (6 ∷ 1 ∷ 2 ∷ [])) _ (omega arith) refl refl (omega arith) (omega arith)
    (refl, refl)

-- the range's bytes before the reload and after it differ from those shown, at place 8 and at place 0
forgets_never : (a b : Bool) → range (run forgets) forgets_x (cond a unburnt (cond b elsewhere table_forgotten))
    ≢ 106 ∷ 107 ∷ 108 ∷ 109 ∷ 110 ∷ 111 ∷ 112 ∷ 113 ∷ 0 ∷ 0 ∷ []
unfolding everything forgets reply forgets_x directory_with memory unburnt elsewhere table_forgotten
forgets_never true b e = let z : ◌≡◌ {A = ℕ} 114 0 = ap (λ (l : List ℕ). get_or l 8 0) e in omega arith
forgets_never false true e = let z : ◌≡◌ {A = ℕ} 114 0 = ap (λ (l : List ℕ). get_or l 8 0) e in omega arith
forgets_never false false e = let z : ◌≡◌ {A = ℕ} 0 106 = ap (λ (l : List ℕ). get_or l 0 0) e in omega arith

forgets_replied : Replied (run forgets) forgets_x 1 4
unfolding everything request_of reply_of forgets reply forgets_x forgets_read
forgets_replied = replied_next forgets forgets_read.lawful forgets_x 5 1 3 _ _ forgets_read.stands (omega arith) (omega arith) refl (omega arith)
    refl refl refl refl refl

forgets_reloads : ¬ Unwritten (run forgets) forgets_x forgetting (Meanwhile (run forgets) forgets_x 5 forgetting 3)
unfolding everything forgets reply forgets_x directory_with memory unburnt elsewhere table_forgotten
forgets_reloads =
    range_changes (run forgets) forgets_x 5 forgetting 3 7 1 4 0 (omega arith) (omega arith) forgets_replied (omega arith) (λ e. omega (arith, e))

forgets_shows_lem : ForgetsShows
unfolding everything every under_five all_zero forgets reply forgets_x forgets_read directory_with memory unburnt elsewhere table_forgotten
forgets_shows_lem = record {
  reader = forgets_read;
  arrivals = on_time_lem forgets forgets_read.lawful forgetting forgets_x 5 (λ m. refl) refl
      (two_own forgets forgets_read.lawful forgetting forgets_x 5 2 4 _ _ refl refl refl forgets_own2 refl forgets_own4);
  first = not_after forgets forgets_read.lawful 2 3 forgetting refl (λ m l. omega arith) forgets_x 5;
  never = λ τ. forgets_never (ltb τ 4) (ltb τ 7);
  reloads = forgets_reloads;
  same = refl;
  zeros = refl;
}

-- ── forged, the same calls ─────────────────────────────────────────────────────────────────────────────────────────

forged_own2 : Own (run forged) unchanging 2 (reply 5 0 (106 ∷ 107 ∷ 108 ∷ 109 ∷ 110 ∷ 111 ∷ 112 ∷ 113 ∷ []))
unfolding everything forgets reply directory_with memory
forged_own2 = own_reply (run forged) unchanging 2 (frame_with 0x1882B8 (6 ∷ 0 ∷ 8 ∷ [])) _ (omega arith) refl refl (omega arith) (omega arith) (refl, refl)

forged_others : (m : ℕ) (f : Frame) → m ≢ 4 → Arrives (run forged) forgets_x 5 m f → Own (run forged) unchanging m f
unfolding everything every under_five forgets reply forgets_x
forged_others m f d a = go (or_either (eqb m 2) (eqb m 4)
    (under_five_lem forged forgets_read.lawful (λ k. eqb k 2 || eqb k 4) refl forgets_x refl 5 m f a))
  where
    go : (eqb m 2 ≡ true) ⊎ (eqb m 4 ≡ true) → Own (run forged) unchanging m f
    go (inl z) = its_own_lem (run forged) unchanging 2 m _ f (eqb-true m 2 z) refl forged_own2 a.call
    go (inr z) = absurd (d (eqb-true m 4 z))

-- the holder gives byte 114
forged_forgery : ¬ Own (run forged) unchanging 4 (reply 5 8 (0 ∷ 0 ∷ []))
unfolding everything forgets reply directory_with memory
forged_forgery o =
    let q : frame_with 0x3882B8 (6 ∷ 1 ∷ 2 ∷ []) ≡ o.request = some_eq o.yields in
    let g = request_answered o.before o.request o.reply o.gives holding o.after (ap (λ (f : Frame). id_kind f.id) (sym q)) in
    let h : range_of holding 7 14 2 ≡ range_of holding (table_of o.request) (id_offset o.request.id) (request_at o.request 0).count
    = ap (λ (f : Frame). range_of holding (table_of f) (id_offset f.id) (request_at f 0).count) q in
    let z : ◌≡◌ {A = ℕ} 0 114 = ap (λ (l : List ℕ). get_or l 0 0) (o.same_bytes ∙ ap content (g ∙ ap (frame_with _) (sym h))) in
    omega arith

forged_shows_lem : ForgedShows
unfolding everything every all_zero forgets reply forgets_x forgets_read directory_with memory
forged_shows_lem = record {
  reader = forgets_read;
  own = forged_others;
  prompt = prompt_next (run forged) forgets_x 5 unchanging (λ m. refl);
  quiet = quiet_resets_lem forged forgets_read.lawful refl 5;
  first = not_after forged forgets_read.lawful 2 3 unchanging refl (λ m l. omega arith) forgets_x 5;
  unwritten = steady (run forged) forgets_x unchanging _ holding (λ τ a. refl);
  asked = refl;
  forgery = forged_forgery;
}

-- ── late ───────────────────────────────────────────────────────────────────────────────────────────────────────────

late_x : Transfer (run late)
unfolding everything late reply
late_x = record { at = 3; lent = its_own; ask = read 5 7 8 8; call = refl; accepted = refl }

late_read : DoneRead late 3 7 upper
unfolding everything every shaped shaped_lent late reply late_x
late_read = done_read late late_x 7 _ refl refl (omega arith) refl refl

late_own5 : Own (run late) late_then_own 5 (reply 5 0 lower)
unfolding everything late reply directory_with memory
late_own5 = own_reply (run late) late_then_own 5 (frame_with (id_of 0 req 0 5 7) (6 ∷ 0 ∷ 8 ∷ [])) _ (omega arith) refl refl (omega arith) (omega arith)
    (refl, refl)

late_own6 : Own (run late) late_then_own 6 (reply 5 128 upper)
unfolding everything late reply directory_with memory
late_own6 = own_reply (run late) late_then_own 6 (frame_with (id_of 8 req 0 5 7) (6 ∷ 16 ∷ 8 ∷ [])) _ (omega arith) refl refl (omega arith) (omega arith)
    (refl, refl)

late_replied : Replied (run late) late_x 0 6
unfolding everything request_of reply_of late reply late_x late_read
late_replied = replied_at late late_read.lawful late_x 7 0 4 6 _ _ late_read.stands (omega arith) (omega arith) (omega arith) refl (omega arith)
    refl refl refl refl refl (omega arith) (λ i a b. unmatched i (omega arith))
  where
    unmatched : (i : ℕ) → i ≡ 5 → ¬ Matches (run late) late_x 0 i
    unmatched i e h = false≢true (subst (Matches (run late) late_x 0) e h)

late_shows_lem : LateShows
unfolding everything every under_five called all_zero late reply late_x late_read directory_with memory
late_shows_lem = record {
  shows = record {
    reader = late_read;
    premises = record {
      arrivals = record {
        own = two_own late late_read.lawful late_then_own late_x 7 5 6 _ _ refl refl refl late_own5 refl late_own6;
        prompt = prompt_arrivals late late_read.lawful late_then_own refl late_x 7 refl;
        quiet = quiet_resets_lem late late_read.lawful refl 7;
      };
      first = not_after late late_read.lawful 5 5 late_then_own refl (λ m l. l) late_x 7;
      unwritten = steady (run late) late_x late_then_own _ holding (λ τ a. refl);
    };
    meanwhile = until (run late) late_x 7 late_then_own 5 6 0 6 (omega arith) (omega arith) late_replied (omega arith);
    same = refl;
  };
  slot = refl;
  seventeen = refl;
  crowded = refl;
}

-- ── too late ───────────────────────────────────────────────────────────────────────────────────────────────────────

too_late_x : Transfer (run too_late)
unfolding everything too_late reply
too_late_x = record { at = 63; lent = its_own; ask = read 5 7 8 8; call = refl; accepted = refl }

too_late_read : DoneRead too_late 63 66 lower
unfolding everything every shaped shaped_lent too_late reply too_late_x
too_late_read = done_read too_late too_late_x 66 _ refl refl (omega arith) refl refl

too_late_own : Own (run too_late) slow 65 (reply 5 0 lower)
unfolding everything too_late reply directory_with memory
too_late_own = own_reply (run too_late) slow 65 _ _ (omega arith) refl refl (omega arith) (omega arith) (refl, refl)

too_late_replied : Replied (run too_late) too_late_x 0 65
unfolding everything request_of reply_of too_late reply too_late_x too_late_read
too_late_replied = replied_next too_late too_late_read.lawful too_late_x 66 0 64 _ _ too_late_read.stands (omega arith) (omega arith) refl
    (omega arith) refl refl refl refl refl

too_late_shows_lem : TooLateShows
unfolding everything every under_five called all_zero too_late reply too_late_x too_late_read directory_with memory
too_late_shows_lem = record {
  shows = shows_other too_late 63 65 lower too_late_read (λ m. 1) holding _ refl refl refl refl too_late_own refl refl;
  quiet = quiet_resets_lem too_late too_late_read.lawful refl 66;
  not_prompt = not_prompt_lem too_late too_late_read.lawful slow too_late_x 66 0 65 (omega arith) too_late_replied refl;
}

-- ── hasty ──────────────────────────────────────────────────────────────────────────────────────────────────────────

hasty_x : Transfer (run hasty)
unfolding everything hasty reply
hasty_x = record { at = 62; lent = its_own; ask = read 5 7 8 8; call = refl; accepted = refl }

-- the read that is reset
hasty_y : Transfer (run hasty)
unfolding everything hasty reply
hasty_y = record { at = 0; lent = its_own; ask = read 5 7 0 8; call = refl; accepted = refl }

hasty_read : DoneRead hasty 62 65 lower
unfolding everything every shaped shaped_lent hasty reply hasty_x
hasty_read = done_read hasty hasty_x 65 _ refl refl (omega arith) refl refl

hasty_own : Own (run hasty) slow 64 (reply 5 0 lower)
unfolding everything hasty reply directory_with memory
hasty_own = own_reply (run hasty) slow 64 _ _ (omega arith) refl refl (omega arith) (omega arith) (refl, refl)

hasty_sent : Sent (run hasty) hasty_y 0 1
unfolding everything every request_of hasty reply hasty_y
hasty_sent = sent_at hasty hasty_read.lawful hasty_y 0 1 _ (still_stands hasty hasty_y 1 refl (omega arith)) refl (omega arith)
    refl refl refl

hasty_shows_lem : HastyShows
unfolding everything every under_five called hasty reply hasty_x hasty_read directory_with memory
hasty_shows_lem = record {
  shows = shows_other hasty 62 64 lower hasty_read (λ m. 1) holding _ refl refl refl refl hasty_own refl refl;
  prompt = prompt_arrivals hasty hasty_read.lawful slow refl hasty_x 65 refl;
  not_quiet = not_quiet_lem hasty hasty_read.lawful hasty_y 65 0 1 61 (omega arith) (refl, (0, refl)) (omega arith) hasty_sent refl;
}

-- ── checked writes ─────────────────────────────────────────────────────────────────────────────────────────────────

abbrev checked_write : (cs : List Call) (x : Transfer (run cs)) (n number : ℕ) → Lawful (run cs) → is_check x.ask ≡ true
    → Stands (run cs) x n → status_at (run cs) x n ≡ number → shown_at (run cs) x n ≡ plain number
    → CheckedWrite cs x.at n (ask_given x.ask) number
checked_write cs x n number w c s a h =
    record { lawful = w; x = x; opened = refl; checks = c; given = refl; stands = s; answers = a; shown = h }

module _ (a b : ℕ) where
  back_x : Transfer (run (reading_back a b))
  unfolding everything reading_back reply
  back_x = record { at = 0; lent = its_own; ask = check 5 7 6 ten; call = refl; accepted = refl }

  back_lawful : Lawful (run (reading_back a b))
  unfolding everything every shaped shaped_lent reading_back reply
  back_lawful = run_lawful (reading_back a b) refl

  back_stands : Stands (run (reading_back a b)) back_x 7
  unfolding everything every reading_back reply back_x
  back_stands = still_stands (reading_back a b) back_x 7 refl (omega arith)

  back_replied : Replied (run (reading_back a b)) back_x 1 6
  unfolding everything request_of reply_of reading_back reply back_x
  back_replied = replied_next (reading_back a b) back_lawful back_x 7 1 5 _ _ back_stands (omega arith) (omega arith) refl (omega arith)
      refl refl refl refl refl

  -- where the device is the same from moment 4 on, and these are its replies
  back_premises : (device : ℕ → Device) (d : Device) → ((τ : ℕ) → 4 ≤ τ → device τ ≡ d)
      → Stays d (frame_with 0x1882B8 (6 ∷ 0 ∷ 8 ∷ [])) (reply 5 0 eight) → Stays d (frame_with 0x3882B8 (6 ∷ 1 ∷ 2 ∷ [])) (reply 5 8 (a ∷ b ∷ []))
      → Premises (run (reading_back a b)) back_x 7 (on_time device) 4
  unfolding everything every under_five all_zero reading_back reply back_x
  back_premises device d same g h = record {
    arrivals = on_time_lem (reading_back a b) back_lawful t back_x 7 (λ m. refl) refl
        (two_own (reading_back a b) back_lawful t back_x 7 4 6 _ _ refl refl refl own4 refl own6);
    first = not_after (reading_back a b) back_lawful 4 4 t refl (λ m l. l) back_x 7;
    unwritten = steady (run (reading_back a b)) back_x t _ d (λ τ u. same τ u.since);
  }
    where
      t : Timeline
      t = on_time device

      own4 : Own (run (reading_back a b)) t 4 (reply 5 0 eight)
      own4 = own_reply (run (reading_back a b)) t 4 _ _ (omega arith) refl refl (omega arith) (omega arith)
          (subst (λ (d : Device). Stays d (frame_with 0x1882B8 (6 ∷ 0 ∷ 8 ∷ [])) (reply 5 0 eight)) (sym (same 4 (omega arith))) g)

      own6 : Own (run (reading_back a b)) t 6 (reply 5 8 (a ∷ b ∷ []))
      own6 = own_reply (run (reading_back a b)) t 6 _ _ (omega arith) refl refl (omega arith) (omega arith)
          (subst (λ (d : Device). Stays d (frame_with 0x3882B8 (6 ∷ 1 ∷ 2 ∷ [])) (reply 5 8 (a ∷ b ∷ []))) (sym (same 6 (omega arith))) h)

-- ── done ───────────────────────────────────────────────────────────────────────────────────────────────────────────

stored_checker : CheckedWrite (reading_back 9 10) 0 7 ten 0
unfolding everything reading_back reply back_x
stored_checker = checked_write (reading_back 9 10) (back_x 9 10) 7 0 (back_lawful 9 10) refl (back_stands 9 10) refl refl

stored_shows_lem : StoredShows
unfolding everything reading_back reply back_x stored_checker directory_with memory after
stored_shows_lem = record {
  checker = stored_checker;
  premises = back_premises 9 10 stored.device (stored.device 4)
      (λ τ l. rw (le-ltb τ 2 (omega arith), le-ltb τ 3 (omega arith))) (refl, refl) (refl, refl);
  meanwhile = until (run (reading_back 9 10)) (back_x 9 10) 7 stored 4 5 1 6 (omega arith) (omega arith) (back_replied 9 10) (omega arith);
  same = refl;
  earlier = refl;
}

-- ── dropped ────────────────────────────────────────────────────────────────────────────────────────────────────────

dropped_checker : CheckedWrite (reading_back 114 115) 0 7 ten 18
unfolding everything reading_back reply back_x
dropped_checker = checked_write (reading_back 114 115) (back_x 114 115) 7 18 (back_lawful 114 115) refl (back_stands 114 115) refl refl

dropped_shows_lem : DroppedShows
unfolding everything reading_back reply back_x dropped_checker directory_with memory after
dropped_shows_lem = record {
  checker = dropped_checker;
  premises = back_premises 114 115 dropped.device (dropped.device 4) (λ τ l. rw (le-ltb τ 2 (omega arith))) (refl, refl) (refl, refl);
  replied = back_replied 114 115;
  other = refl;
}

-- ── unplugged ──────────────────────────────────────────────────────────────────────────────────────────────────────

unplugged_x : Transfer (run unplugged)
unfolding everything unplugged
unplugged_x = record { at = 0; lent = its_own; ask = check 5 7 6 ten; call = refl; accepted = refl }

unplugged_never : (n : ℕ) → n ≤ 64 → ¬ Done (run unplugged) unplugged_x n
unfolding everything every unplugged unplugged_x
unplugged_never n l d = eqb-false _ 0 (not-true _ (at_event (λ k c. not (eqb (status_at (run unplugged) unplugged_x k) 0)) unplugged refl n (omega arith))) d

unplugged_checker : CheckedWrite unplugged 0 64 ten 16
unfolding everything every shaped shaped_lent unplugged unplugged_x
unplugged_checker =
    checked_write unplugged unplugged_x 64 16 (run_lawful unplugged refl) refl
    (still_stands unplugged unplugged_x 64 refl (omega arith)) refl refl

unplugged_shows_lem : UnpluggedShows
unfolding everything unplugged unplugged_x unplugged_checker
unplugged_shows_lem = record { checker = unplugged_checker; never = unplugged_never; written = refl }

-- ── a late reply for a checked write ───────────────────────────────────────────────────────────────────────────────

module _ (bs : List ℕ) where
  abbrev last_reply : Frame
  last_reply = record { id = id_of 0 rsp 5 0 6; len = 8; bytes = bs }

  after_x : Transfer (run (after_closing bs))
  unfolding everything after_closing
  after_x = record { at = 63; lent = its_own; ask = check 5 7 8 eight; call = refl; accepted = refl }

  after_stands : Stands (run (after_closing bs)) after_x 67
  unfolding everything every after_closing after_x
  after_stands = still_stands (after_closing bs) after_x 67 refl (omega arith)

  -- the reply is the device's own, to the checked write's request and to the closed read's
  after_next : (device : ℕ → Device) → Stays (device 66) (frame_with (id_of 8 req 0 5 7) (6 ∷ 0 ∷ 8 ∷ [])) last_reply
      → Own (run (after_closing bs)) (on_time device) 66 last_reply
  unfolding everything after_closing
  after_next device g = own_reply (run (after_closing bs)) (on_time device) 66 _ _ (omega arith) refl refl (omega arith) (omega arith) g

  after_late : (device : ℕ → Device) → Stays (device 66) (frame_with (id_of 0 req 0 5 7) (6 ∷ 0 ∷ 8 ∷ [])) last_reply
      → Own (run (after_closing bs)) (to_call_one device) 66 last_reply
  unfolding everything after_closing
  after_late device g = own_reply (run (after_closing bs)) (to_call_one device) 66 _ _ (omega arith) refl refl (omega arith) (omega arith) g

  module _ (w : Lawful (run (after_closing bs))) where
    after_replied : Replied (run (after_closing bs)) after_x 0 66
    unfolding everything request_of reply_of after_closing after_x
    after_replied = replied_next (after_closing bs) w after_x 67 0 65 _ _ after_stands (omega arith) (omega arith) refl (omega arith)
        refl refl refl refl refl

    -- it is the one reply
    after_own : (t : Timeline) → Own (run (after_closing bs)) t 66 last_reply → (m : ℕ) (f : Frame) → Arrives (run (after_closing bs)) after_x 67 m f
        → Own (run (after_closing bs)) t m f
    unfolding everything every under_five after_closing after_x
    after_own t o = two_own (after_closing bs) w t after_x 67 66 66 _ _ refl refl refl o refl o

    after_not_prompt : (device : ℕ → Device) → ¬ Prompt (run (after_closing bs)) after_x 67 (to_call_one device)
    unfolding called after_closing
    after_not_prompt device = not_prompt_lem (after_closing bs) w (to_call_one device) after_x 67 0 66 (omega arith) after_replied refl

equal_checker : CheckedWrite (after_closing eight) 63 67 eight 0
unfolding everything every shaped shaped_lent after_closing after_x
equal_checker = checked_write (after_closing eight) (after_x eight) 67 0 (run_lawful (after_closing eight) refl) refl (after_stands eight) refl refl

equal_shows : LateEqualShows
unfolding everything every all_zero after_closing after_x equal_checker directory_with memory after
equal_shows = record {
  checker = equal_checker;
  premises = record {
    arrivals = on_time_lem (after_closing eight) w at_once (after_x eight) 67 (λ m. refl) refl
        (after_own eight w at_once (after_next eight at_once.device (refl, refl)));
    first = not_after (after_closing eight) w 66 66 at_once refl (λ m l. l) (after_x eight) 67;
    unwritten = steady (run (after_closing eight)) (after_x eight) at_once _ (after holding 8 eight)
        (λ τ a. rw (le-ltb τ 65 (omega (arith, a.since))));
  };
  meanwhile =
      until (run (after_closing eight)) (after_x eight) 67 at_once 66 66 0 66 (omega arith) (omega arith) (after_replied eight w) (omega arith);
  same = refl;
  own = after_own eight w late_equal (after_late eight late_equal.device (refl, refl));
  first = not_after (after_closing eight) w 66 66 late_equal refl (λ m l. l) (after_x eight) 67;
  unwritten = steady (run (after_closing eight)) (after_x eight) late_equal _ (after holding 0 eight) (λ τ a. refl);
  other = refl;
  not_prompt = after_not_prompt eight w late_equal.device;
}
  where
    w : Lawful (run (after_closing eight))
    w = equal_checker.lawful

other_checker : CheckedWrite (after_closing lower) 63 67 eight 18
unfolding everything every shaped shaped_lent after_closing after_x
other_checker = checked_write (after_closing lower) (after_x lower) 67 18 (run_lawful (after_closing lower) refl) refl (after_stands lower) refl refl

other_shows : LateOtherShows
unfolding everything every all_zero after_closing after_x other_checker directory_with memory after
other_shows = record {
  checker = other_checker;
  own = after_own lower w late_other (after_late lower late_other.device (refl, refl));
  quiet = quiet_resets_lem (after_closing lower) w refl 67;
  replied = after_replied lower w;
  same = refl;
  not_prompt = after_not_prompt lower w late_other.device;
}
  where
    w : Lawful (run (after_closing lower))
    w = other_checker.lawful

-- ── a late reply to a checked write ────────────────────────────────────────────────────────────────────────────────

check_x : Transfer (run reset_check)
unfolding everything reset_check reply
check_x = record { at = 4; lent = its_own; ask = read 5 7 8 8; call = refl; accepted = refl }

-- the checked write that is reset
check_y : Transfer (run reset_check)
unfolding everything reset_check reply
check_y = record { at = 0; lent = its_own; ask = check 5 7 0 eight; call = refl; accepted = refl }

check_read : DoneRead reset_check 4 7 eight
unfolding everything every shaped shaped_lent reset_check reply check_x
check_read = done_read reset_check check_x 7 _ refl refl (omega arith) refl refl

check_own : Own (run reset_check) late_checked 6 (reply 5 0 eight)
unfolding everything reset_check reply directory_with memory after
check_own = own_reply (run reset_check) late_checked 6 _ _ (omega arith) refl refl (omega arith) (omega arith) (refl, refl)

check_sent : Sent (run reset_check) check_y 0 2
unfolding everything every request_of reset_check reply check_y
check_sent = sent_at reset_check check_read.lawful check_y 0 2 _ (still_stands reset_check check_y 2 refl (omega arith)) refl (omega arith)
    refl refl refl

check_shows : LateCheckShows
unfolding everything every under_five called reset_check reply check_x check_read directory_with memory after
check_shows = record {
  shows = shows_other reset_check 4 6 eight check_read (λ m. 2) (after holding 0 eight) _ refl refl refl refl check_own refl refl;
  prompt = prompt_arrivals reset_check check_read.lawful late_checked refl check_x 7 refl;
  not_quiet = not_quiet_lem reset_check check_read.lawful check_y 7 0 2 3 (omega arith) (refl, (0, refl)) (omega arith) check_sent refl;
}

pub examples : Examples
examples = record {
  alone_shows = alone_shows_lem;
  burnt_shows = burnt_shows_lem;
  reloaded_shows = reloaded_shows_lem;
  still_older_shows = still_older_shows_lem;
  together_shows = together_shows_lem;
  restarted_shows = restarted_shows_lem;
  torn_shows = torn_shows_lem;
  forgets_shows = forgets_shows_lem;
  forged_shows = forged_shows_lem;
  late_shows = late_shows_lem;
  too_late_shows = too_late_shows_lem;
  hasty_shows = hasty_shows_lem;
  stored_shows = stored_shows_lem;
  unplugged_shows = unplugged_shows_lem;
  dropped_shows = dropped_shows_lem;
  late_equal_shows = equal_shows;
  late_other_shows = other_shows;
  late_check_shows = check_shows;
}

-- What a read shows: the bytes of its replies, in order.
use Prim.Native.Nat.{ℕ, zero, suc, ◌+◌, ◌*◌, ◌/◌, ◌≤◌, ◌<◌, min}
use mathlib.Core.Path.{◌≡◌, refl, sym, ◌∙◌, ap, ap₂, subst}
use mathlib.Core.Logic.{◌≢◌}
use mathlib.Core.List.{List, [], ◌++◌}
use mathlib.Core.Bool.{Bool, true, false, cond}
use native.Mathlib.Omega.{arith}
use lib.ListN.{length, take, drop, get_or, length-take, length-drop}
use lib.Seq.{take-add, get_or-take, get_or-drop, drop-drop, ext_get_or}
use lib.Dec.{eqb}
use borrow.Author.Tests.{eqb-true, eq-eqb, ne_eqb}
use Rattle.bridge_rules.specs.State.{Bridge, done, slot, shows}
use Rattle.bridge_rules.specs.Answers.{plain, Answer}
use Rattle.bridge_rules.specs.Opening.{is_read, ask_count}
use Rattle.bridge_rules.specs.Turn.{chunk_len}
use Rattle.wire.specs.Log.{part_of}
use Rattle.bridge_rules.specs.Ending.{slot_span}
use Rattle.bridge_rules.specs.Call.{Call, its_own, frame}
use Rattle.bridge_rules.specs.Run.{Run, state, buffers, Lawful, Shaped, Transfer, slot_of, Stands, chunks, len_of, status_at, shown_at}
use Rattle.bridge_rules.specs.Replies.{place, Matches, Replied}
use Rattle.bridge_rules.specs.Demand3.{brought, join, showing}
use Rattle.bridge_rules.proofs.KindTests.{shows_of}
use Rattle.bridge_rules.proofs.FrameLaws.{len_eight, len_inside, content_length}
use Rattle.bridge_rules.proofs.SlotOk.{done_ok}
use Rattle.bridge_rules.proofs.SoundRuns.{storage_sound}
use Rattle.bridge_rules.proofs.Standing.{ok_at, opened_at, slot_at, held}
use Rattle.bridge_rules.proofs.Status.{shown_is, done_is}
use Rattle.bridge_rules.proofs.Matching.{matches_ok}
use Rattle.bridge_rules.proofs.AskedSoFar.{AskedSoFar, Got}
use Rattle.bridge_rules.proofs.RepliesInOrder.{replied_once}

chunk_sum : (count p : ℕ) → 8 * p < count → (min (8 * suc p) count ≡ 8 * p + chunk_len count (8 * p)) × (min (8 * p) count ≡ 8 * p)
unfolding chunk_len
chunk_sum count p h = (omega arith, omega arith)

-- chunks joined in order
pub join_take : (g : ℕ → List ℕ) (count : ℕ) (l : List ℕ) → ((c : ℕ) → 8 * c < count → g c ≡ take (chunk_len count (8 * c)) (drop (8 * c) l))
    → (p : ℕ) → 8 * p < count + 8 → join g p ≡ take (min (8 * p) count) l
unfolding join
join_take g count l h zero q = let z : min (8 * 0) count ≡ 0 = omega arith in rw z
join_take g count l h (suc p) q =
    let e = chunk_sum count p (omega arith) in
    ap₂ (λ (a b : List ℕ). a ++ b) (join_take g count l h p (omega arith) ∙ ap (λ (k : ℕ). take k l) e.1) (h p (omega arith))
    ∙ sym (take-add (8 * p) (chunk_len count (8 * p)) l) ∙ ap (λ (k : ℕ). take k l) (sym e.0)

pub join_all : (g : ℕ → List ℕ) (count : ℕ) (l : List ℕ) → ((c : ℕ) → 8 * c < count → g c ≡ take (chunk_len count (8 * c)) (drop (8 * c) l))
    → join g ((count + 7) / 8) ≡ take count l
join_all g count l h =
    let z : min (8 * ((count + 7) / 8)) count ≡ count = omega arith in
    join_take g count l h ((count + 7) / 8) (omega arith) ∙ ap (λ (k : ℕ). take k l) z

-- a part that agrees byte by byte
pub part_is : (bs b : List ℕ) (base n : ℕ) → length bs ≡ n → base + n ≤ length b → ((i : ℕ) → i < n → get_or b (base + i) 0 ≡ get_or bs i 0)
    → bs ≡ take n (drop base b)
part_is bs b base n e l h = ext_get_or 0 bs (take n (drop base b)) (e ∙ sym (length-take n (drop base b) ∙ omega (arith, length-drop base b)))
    (λ i q. sym (get_or-take n (drop base b) i 0 (omega arith) ∙ get_or-drop base b i 0 ∙ h i (omega arith)))

pub drop_at : (a c : ℕ) (b : List ℕ) → drop c (drop a b) ≡ drop (a + c) b
drop_at a c b = drop-drop c a b

-- a fitting frame brings as many bytes as its chunk has
pub brought_length : (r : Run) (w : Lawful r) (x : Transfer r) (c m : ℕ) → Matches r x c m → length (brought (r.calls m)) ≡ len_of r x c
brought_length r w x c m h =
    let f = matches_ok r w x c m h in
    let sh : Shaped (frame its_own f.0) = subst Shaped f.1.is (w.shaped m) in
    ap (λ (d : Call). length (brought d)) f.1.is ∙ content_length f.0 sh.1
    (omega (arith, f.1.len, len_eight (ask_count x.ask) (8 * c))) ∙ f.1.len

part_of_lem : (s : Bridge) (b : List ℕ) (k n : ℕ) → shows (slot s k).kind ≡ true → (slot s k).count ≡ n
    → part_of b (slot_span s k) ≡ take n (drop (128 * k) b)
unfolding slot_span
part_of_lem s b k n e f = rw (e, f)

part_hidden : (s : Bridge) (b : List ℕ) (k : ℕ) → shows (slot s k).kind ≡ false → part_of b (slot_span s k) ≡ []
unfolding slot_span
part_hidden s b k e = rw e

module _ (r : Run) (w : Lawful r) (x : Transfer r) where
  pub hidden : (n : ℕ) → Stands r x n → status_at r x n ≢ 0 → shown_at r x n ≡ plain (status_at r x n)
  hidden n s h = shown_is r w x n s ∙ rw (ne_eqb (status_at r x n) 0 h)

  pub done_progress : (n : ℕ) → Stands r x n → (slot_at r x n).phase ≡ done → (slot_at r x n).progress ≡ ask_count x.ask
  done_progress n s e = (done_ok (slot_at r x n) (ok_at r w x n) e).whole ∙ (held r w x n s).count

  -- what is no read shows nothing
  pub not_read_hidden : (n : ℕ) → Stands r x n → is_read x.ask ≡ false → shown_at r x n ≡ plain (status_at r x n)
  not_read_hidden n s e = shown_is r w x n s ∙ go (eqb (status_at r x n) 0) refl
    where
      go : (b : Bool) → eqb (status_at r x n) 0 ≡ b
          → cond b (showing (part_of (buffers r n).first (slot_span (state r n) (slot_of r x)))) (plain (status_at r x n)) ≡ plain (status_at r x n)
      go true q = ap showing (part_hidden (state r n) (buffers r n).first (slot_of r x)
          (shows_of x.ask (slot_at r x n).kind (held r w x n s).kind ∙ e))
          ∙ ap plain (sym (eqb-true _ 0 q))
      go false q = refl

module _ (r : Run) (w : Lawful r) (x : Transfer r) (n : ℕ) (s : Stands r x n) (p : AskedSoFar r x n) where
  pub all_got : (slot_at r x n).phase ≡ done → (c : ℕ) → 8 * c < ask_count x.ask → Got r x c n
  all_got e c l = p.got c (omega (arith, l, done_progress r w x n s e))

  -- the part of the first buffer is the replies' bytes
  pub shown_part : (e : (slot_at r x n).phase ≡ done) (g : ℕ → List ℕ)
      → ((c : ℕ) → (q : 8 * c < ask_count x.ask) → g c ≡ brought (r.calls (all_got e c q).m))
      → take (ask_count x.ask) (drop (128 * slot_of r x) (buffers r n).first) ≡ join g (chunks r x)
  shown_part e g h = sym (join_all g (ask_count x.ask) (drop (128 * slot_of r x) (buffers r n).first) chunk)
    where
      few : ask_count x.ask ≤ 128
      few = (opened_at r w x).law.few

      chunk : (c : ℕ) → 8 * c < ask_count x.ask → g c ≡ take (chunk_len (ask_count x.ask) (8 * c))
          (drop (8 * c) (drop (128 * slot_of r x) (buffers r n).first))
      chunk c q =
          let gt : Got r x c n = all_got e c q in
          let ln : length (g c) ≡ len_of r x c = ap length (h c q) ∙ brought_length r w x c gt.m gt.replied.matches in
          part_is (g c) (buffers r n).first (place r x c) (len_of r x c) ln
          (omega (arith, (storage_sound r w n).1.0, (opened_at r w x).bound, few, len_inside (ask_count x.ask) (8 * c) q))
          (λ i l. gt.kept i l ∙ ap (λ (bs : List ℕ). get_or bs i 0) (sym (h c q)))
          ∙ ap (take (len_of r x c)) (sym (drop_at (128 * slot_of r x) (8 * c) (buffers r n).first))

  pub shown_done : is_read x.ask ≡ true → status_at r x n ≡ 0
      → shown_at r x n ≡ showing (take (ask_count x.ask) (drop (128 * slot_of r x) (buffers r n).first))
  shown_done rd e = shown_is r w x n s ∙ rw (eq-eqb (status_at r x n) 0 e)
      (ap showing (part_of_lem (state r n) (buffers r n).first (slot_of r x) (ask_count x.ask)
      (shows_of x.ask (slot_at r x n).kind (held r w x n s).kind ∙ rd) (held r w x n s).count))

  -- which has as many bytes as were asked for
  pub shown_whole : is_read x.ask ≡ true → status_at r x n ≡ 0 → length (shown_at r x n).shown ≡ ask_count x.ask
  shown_whole rd e =
      let b : List ℕ = drop (128 * slot_of r x) (buffers r n).first in
      ap (λ (a : Answer). length a.shown) (shown_done rd e) ∙ length-take (ask_count x.ask) b
      ∙ omega (arith, length-drop (128 * slot_of r x) (buffers r n).first, (storage_sound r w n).1.0, (opened_at r w x).bound, (opened_at r w x).law.few)

  pub shown_joined : is_read x.ask ≡ true → status_at r x n ≡ 0 → (m : ℕ → ℕ) → ((c : ℕ) → c < chunks r x → (m c < n) × Replied r x c (m c))
      → shown_at r x n ≡ showing (join (λ c. brought (r.calls (m c))) (chunks r x))
  shown_joined rd e m h =
      let d : (slot_at r x n).phase ≡ done = (done_is r w x n s).0 e in
      shown_done rd e ∙ ap showing (shown_part d (λ c. brought (r.calls (m c)))
      (λ c q. ap (λ (k : ℕ). brought (r.calls k)) (replied_once r w x c (m c) (all_got d c q).m (h c (omega arith)).1
      (all_got d c q).replied)))

-- A file in this layout with the expected counters, rewritten from what was read, gives the same bytes.
use Prim.Native.Nat.{ℕ, zero, suc, ◌+◌, ◌≤◌, ◌<◌, ◌^◌}
use mathlib.Core.Path.{◌≡◌, refl, sym, ap, ◌∙◌, subst}
use mathlib.Core.List.{List, [], ◌∷◌, ◌++◌}
use native.Mathlib.Omega.{arith}
use borrow.Author.Tests.{eqb-true}
use lib.ListN.{length, take, drop, length-drop, take-append-drop, drop_of_length-le}
use lib.Seq.{drop-drop, length-take-le}
use Rattle.wire.specs.BigEndian.{be_of, be_at, be_bytes}
use Rattle.wire.proofs.Numbers.{Bytes, bytes_take, bytes_drop, be_below, below_part, part_back}
use Rattle.frd_rules.specs.Header.{header_len, signature_place, signature_len, name, version, numbers_of, signature_in}
use Rattle.frd_rules.specs.Block.{counter_after, type_in, counter_in, time_in, read_block_of, block_answer, length_of}
use Rattle.frd_rules.specs.Log.{Log, log_from}
use Rattle.frd_rules.specs.Writing.{header_bytes, data_bytes, time_bytes}
use Rattle.frd_rules.specs.RoundTrip.{Entry, Writable, entries_bytes, log_bytes, entry_in, entries_in, AsExpected, AllAsExpected, LogSame}
use Rattle.frd_rules.specs.declared.Header.{Header}
use Rattle.frd_rules.specs.declared.Block.{Block}
use Rattle.frd_rules.specs.declared.Block.TheVariants.{End, Refused}
use Rattle.frd_rules.proofs.BlockLaws.{View, at_end_lem, of_data_lem, of_time, of_refusal, view, data_len, time_len}
use Rattle.frd_rules.proofs.LogLaws.{IsBlock, block_fits, log_more, log_ends, log_all}
use Rattle.frd_rules.proofs.HeaderLaws.{Known, head_given, known, signature_holds}
use Rattle.frd_rules.proofs.HeaderBack.{header_list}

-- a number read from a place, written again
number_same : (n at v : ℕ) (f : List ℕ) → Bytes f → at + n ≤ length f → be_at n f at ≡ v → be_bytes n v ≡ take n (drop at f)
number_same n at v f h k e = rw (← e) (part_back n f at k h)

-- a part and what follows it
join : (n at : ℕ) (f x y : List ℕ) → x ≡ take n (drop at f) → y ≡ drop (at + n) f → x ++ y ≡ drop at f
join n at f x y p q = rw (p, q, ← drop-drop n at f) (take-append-drop n (drop at f))

-- the header
header_same : (f : List ℕ) → Bytes f → Known f → header_bytes (numbers_of f).time (signature_in f) (numbers_of f).size ++ drop header_len f ≡ f
unfolding numbers_of signature_in
header_same f h k =
    let n = k.long in
    header_list _ _ _ (drop header_len f)
    ∙ join 6 0 f _ _ (number_same 6 0 (be_of name) f h (omega arith) k.named)
    (join 2 6 f _ _ (number_same 2 6 version f h (omega arith) k.served)
    (join 4 8 f _ _ (number_same 4 8 _ f h (omega arith) refl)
    (join signature_len signature_place f _ _ refl
    (join 4 75 f _ _ (number_same 4 75 header_len f h (omega arith) k.begins)
    (join 2 79 f _ _ (number_same 2 79 _ f h (omega arith) refl) refl)))))

-- a block of either kind
data_same : (l c : ℕ) (t : List ℕ) → type_in t ≡ 1 → l + 2 ≤ length t → counter_in t ≡ c → data_bytes c (take l (drop 2 t)) ++ drop (l + 2) t ≡ t
unfolding data_bytes
data_same l c [] e h k = absurd (omega arith)
data_same l c (a ∷ []) e h k = absurd (omega arith)
data_same l c (a ∷ b ∷ t) e h k =
    let z : l + 2 ≡ suc (suc l) = omega arith in
    rw (z, e, k, take-append-drop l t)

time_same : (c : ℕ) (t : List ℕ) → type_in t ≡ 2 → 6 ≤ length t → counter_in t ≡ c → Bytes t → time_bytes c (time_in t) ++ drop 6 t ≡ t
unfolding time_bytes
time_same c [] e h k w = absurd (omega arith)
time_same c (a ∷ []) e h k w = absurd (omega arith)
time_same c (a ∷ b ∷ t) e h k w =
    ap (λ (s : List ℕ). 2 ∷ c ∷ s) (join 4 2 (a ∷ b ∷ t) _ _ (number_same 4 2 _ (a ∷ b ∷ t) w h refl) refl) ∙ (cc)

-- the rest of the file from a place on
module _ (l : ℕ) (f : List ℕ) (small : Bytes f) where
  -- entries that are writable, and written after n blocks are these bytes
  abbrev Rewrites : ℕ → List ℕ → List Entry → Type 0
  Rewrites n t es = Writable l es × (entries_bytes n es ≡ t)

  -- so it is with what is read of a log to the file's end
  abbrev LogRewrites : (n at : ℕ) → Log → Type 0
  LogRewrites n at g = g.ending ≡ 0 → AllAsExpected g.blocks → Rewrites n (drop at f) (entries_in l f g.blocks)

  -- every log with this fuel
  abbrev AllRewrite : ℕ → Type 0
  AllRewrite k = (n at : ℕ) → at ≤ length f → length f < at + k → LogRewrites n at (log_from k l n f at)

  module _ (k n at : ℕ) (rest-same : AllRewrite k) (fuel : length f < at + suc k) where
    abbrev t : List ℕ
    t = drop at f

    -- a block and what follows it
    block_same : (b : Block) → read_block_of l n f at ≡ b → IsBlock b
        → ((es : List Entry) → AsExpected b → Rewrites (n + 1) (drop (at + length_of l b) f) es → Rewrites n t (entry_in l f b ++ es))
        → LogRewrites n at (log_from (suc k) l n f at)
    unfolding entries_in AllAsExpected
    block_same b e g one =
        let y = block_fits l n f at b e g in
        subst (LogRewrites n at) (sym (log_more k l n f at b e g))
        (λ x w. one _ w.0 (rest-same (n + 1) (at + length_of l b) y.1 (omega (arith, y.0)) x w.1))

    -- the end, or a refusal
    ending_same : (b : Block) → read_block_of l n f at ≡ b → (IsBlock b → ⊥) → ((block_answer b).number ≡ 0 → Rewrites n t [])
        → LogRewrites n at (log_from (suc k) l n f at)
    unfolding entries_in
    ending_same b e g none = subst (LogRewrites n at) (sym (log_ends k l n f at b e g)) (λ x w. none x)

    time_small : time_in t < 2 ^ 32
    time_small = below_part 4 (drop 2 t) (be_below (take 4 (drop 2 t)) (bytes_take 4 (drop 2 t) (bytes_drop 2 t (bytes_drop at f small)))) refl

    view_same : View l n f at t → LogRewrites n at (log_from (suc k) l n f at)
    unfolding block_answer entries_bytes length_of Writable
    view_same (at_end_lem z e) =
        let h : length f ≤ at = omega arith in
        ending_same End e (λ g. g) (λ x. (tt, sym (drop_of_length-le f h)))
    view_same (of_refusal m z e) = ending_same (Refused m at) e (λ g. g) (λ x. absurd (z x))
    view_same (of_data_lem z s e) =
        block_same _ e tt
        (λ es x r.
        let d = length-drop at f in
        rw (r.1, data_len l 1 refl, ← drop-drop 2 at f, ← drop-drop (l + 2) at f)
        ((length-take-le l (drop 2 t) (omega (arith, length-drop 2 t)), r.0), data_same l (counter_after n) t z (omega arith) (eqb-true _ _ x)))
    view_same (of_time z s e) =
        block_same _ e tt
        (λ es x r.
        let d = length-drop at f in
        rw (r.1, time_len l 2 refl, ← drop-drop 6 at f)
        ((time_small, r.0), time_same (counter_after n) t z (omega arith) (eqb-true _ _ x) (bytes_drop at f small)))

  log_rewrites : (k : ℕ) → AllRewrite k
  log_rewrites zero n at h i = absurd (omega arith)
  log_rewrites (suc k) n at h i = view_same k n at (log_rewrites k) i (view l n f at)

pub log_same : LogSame
unfolding log_bytes LogSame signature_in
log_same f h y x =
    let g = head_given f h y.header in
    let k = known f g.0 in
    let same = (signature_holds f _ g.0 refl).1 in
    let b : h.begin ≡ header_len = ap (λ (v : Header). v.begin) (sym g.1) ∙ k.begins in
    let s = log_rewrites h.size f y.bytes (suc (length f)) 0 h.begin (omega (arith, b, k.long)) (omega arith) in
    let w = subst (LogRewrites h.size f y.bytes 0 h.begin) (sym (log_all h.size f h.begin)) s y.blocks x in
    let head = subst (λ (v : Header). header_bytes v.time (signature_in f) v.size ++ drop header_len f ≡ f) g.1 (header_same f y.bytes k) in
    rw same (
      length-take-le signature_len (drop signature_place f) (omega (arith, k.long, length-drop signature_place f)),
      w.0,
      ap (λ (r : List ℕ). header_bytes h.time (signature_in f) h.size ++ r) (w.1 ∙ ap (λ (m : ℕ). drop m f) b) ∙ head,
    )

-- Laws of what a writer hands back and leaves: bytes put one after the other, and a refusal.
use Rattle.std.proofs.Common.{◌≡◌, ℕ, zero, suc, ◌+◌, ◌≤◌, List, [], ◌++◌, length, drop, refl, ◌∙◌, arith, length-append, length-drop, drop-drop, take_at}
use lib.Seq.{drop-append-add}
use Rattle.wire.specs.Put.{put_at, put_of}
use Rattle.wire.specs.Writer.{wrote, leaves}
use Rattle.wire.specs.declared.views.Written.{Written}
use Rattle.wire.proofs.Puts.{put_fits}

-- the output, once its first bytes are written
abbrev pub over : List ℕ → List ℕ → List ℕ
over pre out = pre ++ drop (length pre) out

over_length : (pre out : List ℕ) → length pre ≤ length out → length (over pre out) ≡ length out
over_length pre out h = omega (arith, length-append pre (drop (length pre) out), length-drop (length pre) out)

put_at_more : (out pre bs : List ℕ) → put_at (over pre out) (length pre) bs ≡ over (pre ++ bs) out
unfolding put_at
put_at_more out pre bs =
    let rest = drop (length pre) out in
    rw (
      take_at pre rest (length pre) refl,
      drop-append-add pre rest (length bs),
      drop-drop (length bs) (length pre) out,
      length-append pre bs,
    )

-- bytes put after bytes
pub put_more : {x y : List ℕ} (out pre bs : List ℕ) (at : ℕ) → at ≡ length pre → length pre + length bs ≤ length out
    → x ≡ over pre out → y ≡ put_of x at bs → y ≡ over (pre ++ bs) out
put_more out pre bs at e h p q =
    let k : length pre + length bs ≤ length (over pre out) = rw (over_length pre out (omega arith)) h in
    q ∙ rw (p, e) (put_fits (over pre out) (length pre) bs k ∙ put_at_more out pre bs)

-- the first bytes
pub put_first : {x : List ℕ} (out bs : List ℕ) → length bs ≤ length out → x ≡ put_of out 0 bs → x ≡ over bs out
put_first out bs h p = put_more out [] bs 0 refl (omega arith) refl p

-- what a writer that no number refuses leaves
pub left : (n : ℕ) (bs out : List ℕ) → n ≡ 0 → leaves n bs out ≡ over bs out
unfolding leaves
left zero bs out e = refl
left (suc n) bs out e = absurd (omega arith)

-- a refusal, as the two parts of a writer's promise
pub refuses : (k n : ℕ) (bs out : List ℕ) → k ≡ n → (k ≡ 0 → ⊥) → (◌≡◌ {A = Written} (record { number = k; len = 0 }) (wrote n bs)) × (out ≡ leaves n bs out)
unfolding wrote leaves
refuses k zero bs out e h = absurd (h e)
refuses k (suc n) bs out e h = (rw e, refl)

-- a writing
pub writes : (n : ℕ) (bs out x : List ℕ) (k : ℕ) → 0 ≡ n → k ≡ length bs → x ≡ over bs out
    → (◌≡◌ {A = Written} (record { number = 0; len = k }) (wrote n bs)) × (x ≡ leaves n bs out)
unfolding wrote leaves
writes zero bs out x k e l h = (rw l, h)
writes (suc n) bs out x k e l h = absurd (omega arith)

-- The bytes of a block, as they are put.
use Prim.Native.Nat.{ℕ, ◌+◌, ◌≤◌}
use mathlib.Core.Path.{◌≡◌, refl, sym, ap, ◌∙◌}
use mathlib.Core.List.{List, [], ◌∷◌, ◌++◌}
use native.Mathlib.Omega.{arith}
use borrow.Author.Tests.{ltb-false, eqb-true}
use lib.ListN.{length, drop, replicate, length-append, length-drop}
use Rattle.wire.specs.Put.{put_of}
use Rattle.wire.specs.Sum.{sum_of}
use Rattle.wire.specs.Text.{text_len}
use Rattle.wire.specs.Writer.{leaves}
use Rattle.wire.proofs.Orders.{if_zero, not-false}
use Rattle.wire.proofs.Texts.{text_most}
use Rattle.wire.proofs.Writes.{put_first, put_more, left}
use Rattle.mlg_rules.specs.Writing.{start_bytes, data_bytes, padded_text, mark_bytes, write_data_number, write_mark_number}

pub start_length : (k c t : ℕ) → length (start_bytes k c t) ≡ 4
unfolding start_bytes
start_length k c t = refl

pub data_length : (c t : ℕ) (rec : List ℕ) → length rec + 5 ≡ length (data_bytes c t rec)
unfolding data_bytes
data_length c t rec = simp (length-append, start_length) (omega arith)

pub data_put : {x y z : List ℕ} (c t : ℕ) (out rec h : List ℕ) (s : ℕ) → h ≡ start_bytes 0 c t → s ≡ sum_of rec → length rec + 5 ≤ length out
    → x ≡ put_of out 0 h → y ≡ put_of x 4 rec → z ≡ put_of y (length rec + 4) (s ∷ [])
    → z ≡ leaves 0 (data_bytes c t rec) out
unfolding data_bytes
data_put c t out rec h s eh es room p q r =
    let l : length h ≡ 4 = ap length eh ∙ start_length 0 c t in
    let m = length-append h rec in
    let a = put_first out h (omega arith) p in
    let b = put_more out h rec 4 (sym l) (omega arith) a q in
    let d = put_more out (h ++ rec) (s ∷ []) (length rec + 4) (omega arith) (omega arith) b r in
    rw (← eh, ← es) (d ∙ sym (left 0 _ out refl))

pub pad_put : {x : List ℕ} (t : List ℕ) → length t ≤ 50 → x ≡ put_of (replicate 50 0) 0 t → x ≡ padded_text t
unfolding padded_text
pad_put t h p = put_first (replicate 50 0) t h p

abbrev blank : List ℕ
blank = replicate 50 0

pub padded_length : (t : List ℕ) → length t ≤ 50 → length (padded_text t) ≡ 50
unfolding padded_text
padded_length t h = rw (length-append t (drop (length t) blank), length-drop (length t) blank) (omega arith)

pub mark_length : (c m : ℕ) (t : List ℕ) → length t ≤ 50 → 54 ≡ length (mark_bytes c m t)
unfolding mark_bytes
mark_length c m t h = rw (length-append (start_bytes 1 c m) (padded_text t), start_length, padded_length t h)

pub mark_put : {x y : List ℕ} (c m : ℕ) (out t h p : List ℕ) → h ≡ start_bytes 1 c m → p ≡ padded_text t → length t ≤ 49 → 54 ≤ length out
    → x ≡ put_of out 0 h → y ≡ put_of x 4 p → y ≡ leaves 0 (mark_bytes c m t) out
unfolding mark_bytes
mark_put c m out t h p eh ep short room a b =
    let l : length h ≡ 4 = ap length eh ∙ start_length 1 c m in
    let k : length p ≡ 50 = ap length ep ∙ padded_length t (omega arith) in
    let d = put_first out h (omega arith) a in
    let e = put_more out h p 4 (sym l) (omega arith) d b in
    rw (← eh, ← ep) (e ∙ sym (left 0 _ out refl))

-- what follows where no number refuses
pub data_fits : (l : ℕ) (rec : List ℕ) (room : ℕ) → write_data_number l rec room ≡ 0 → (length rec ≡ l) × (length rec + 5 ≤ room)
unfolding write_data_number
data_fits l rec room e =
    let a = if_zero 22 _ _ e in
    let b = if_zero 26 _ _ a.1 in
    (eqb-true _ _ (not-false _ a.0), ltb-false _ _ b.0)

pub mark_fits : (t : List ℕ) (room : ℕ) → write_mark_number t room ≡ 0 → (length t ≤ 49) × (text_len t ≡ length t) × (54 ≤ room)
unfolding write_mark_number
mark_fits t room e =
    let a = if_zero 27 _ _ e in
    let b = if_zero 27 _ _ a.1 in
    let d = if_zero 26 _ _ b.1 in
    (ltb-false _ _ a.0, omega (arith, text_most t, ltb-false (text_len t) (length t) b.0), ltb-false _ _ d.0)

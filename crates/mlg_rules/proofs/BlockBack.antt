-- A block that was written reads back as given.
use Prim.Native.Nat.{ℕ, suc, ◌+◌, ◌*◌, ◌/◌, ◌%◌, ◌^◌, ◌<◌}
use mathlib.Core.Path.{◌≡◌, refl, sym, ap, ◌∙◌}
use mathlib.Core.Bool.{true}
use mathlib.Core.List.{List, [], ◌∷◌, ◌++◌, append_assoc}
use native.Mathlib.Omega.{arith}
use borrow.Author.Tests.{eq-eqb}
use lib.ListN.{length, take, drop, replicate, length-append, get_or-replicate}
use lib.Seq.{take_at, drop_at, drop-cons, get_or-append_seam, take-append_seam, drop-drop}
use Rattle.wire.specs.Sum.{sum_of}
use Rattle.wire.specs.Text.{text_len}
use Rattle.wire.proofs.Texts.{text_back}
use Rattle.mlg_rules.specs.Block.{counter_after, read_block_of, block_of, record_in, sum_in, text_in}
use Rattle.mlg_rules.specs.Writing.{start_bytes, data_bytes, padded_text, mark_bytes}
use Rattle.mlg_rules.specs.RoundTrip.{DataBack, MarkBack}
use Rattle.mlg_rules.specs.declared.Block.TheVariants.{Data, Mark}
use Rattle.mlg_rules.proofs.BlockBytes.{data_fits, mark_fits, padded_length}
use Rattle.mlg_rules.proofs.BlockLaws.{at_within, here_stands, data_stands, mark_stands, parts_data, parts_mark}

-- what stands at a place of a file, as the rest of the file
abbrev file : List ℕ → List ℕ → List ℕ → List ℕ
file before block rest = before ++ (block ++ rest)

at_rest : (l n : ℕ) (before block rest : List ℕ)
    → read_block_of l n (file before block rest) (length before) ≡ block_of l (counter_after n) (length before) (block ++ rest)
at_rest l n before block rest =
    at_within l n (file before block rest) (length before) (omega (arith, length-append before (block ++ rest)))
    ∙ ap (block_of l (counter_after n) (length before)) (drop_at before (block ++ rest) (length before) refl)

part_rest : (n : ℕ) (before block rest : List ℕ) → take n (drop (length before + 4) (file before block rest)) ≡ take n (drop 4 (block ++ rest))
part_rest n before block rest =
    ap (take n) (sym (drop-drop 4 (length before) (file before block rest)) ∙ ap (drop 4) (drop_at before (block ++ rest) (length before) refl))

-- a time in its two bytes
time_back : (time : ℕ) → time < 2 ^ 16 → (0 * 256 + time / 256 % 256) * 256 + time % 256 ≡ time
time_back time h = omega arith

module _ (c time : ℕ) (rec rest : List ℕ) where
  abbrev data_whole : List ℕ
  data_whole = 0 ∷ c ∷ time / 256 % 256 ∷ time % 256 ∷ (rec ++ (sum_of rec ∷ rest))

  data_list : data_bytes c time rec ++ rest ≡ data_whole
  unfolding data_bytes start_bytes
  data_list = ap (λ (l : List ℕ). 0 ∷ c ∷ time / 256 % 256 ∷ time % 256 ∷ l) (append_assoc rec (sum_of rec ∷ []) rest)

  sum_back : sum_of (record_in (length rec) data_whole) ≡ sum_in (length rec) data_whole
  sum_back =
      let e : length rec + 4 ≡ suc (suc (suc (suc (length rec)))) = omega arith in
      rw (e, take-append_seam, get_or-append_seam)

  pub data_read : (at : ℕ) → time < 2 ^ 16 → block_of (length rec) c at data_whole ≡ Data c time (at + 4) true
  data_read at h =
      here_stands (length rec) c at data_whole (λ z. omega arith)
      (data_stands (length rec) data_whole refl (omega (arith, length-append rec (sum_of rec ∷ rest))) sum_back)
      ∙ parts_data 0 c at data_whole refl
      ∙ rw (time_back time h, eq-eqb c c refl)

pub data_back : DataBack
unfolding DataBack
data_back l n time rec before rest room z h =
    let e = (data_fits l rec room z).0 in
    rw (← e) (
      at_rest (length rec) n before (data_bytes (counter_after n) time rec) rest
          ∙ ap (block_of (length rec) (counter_after n) (length before)) (data_list (counter_after n) time rec rest)
          ∙ data_read (counter_after n) time rec rest (length before) h,
      part_rest (length rec) before (data_bytes (counter_after n) time rec) rest
          ∙ ap (λ (l : List ℕ). take (length rec) (drop 4 l)) (data_list (counter_after n) time rec rest)
          ∙ take-append_seam rec (sum_of rec ∷ rest),
    )

abbrev blank : List ℕ
blank = replicate 50 0

-- a text of fewer than 50 bytes with no zero stands before the padding's first zero
pub padded_text_lem : (t : List ℕ) → length t < 50 → text_len t ≡ length t → text_len (padded_text t) ≡ length t
unfolding padded_text
padded_text_lem t h e =
    let k : drop (length t) blank ≡ 0 ∷ drop (suc (length t)) blank
    = drop-cons blank (length t) 0 h ∙ ap (λ (b : ℕ). b ∷ drop (suc (length t)) blank) (get_or-replicate 50 (length t) 0 0 h) in
    ap (λ (l : List ℕ). text_len (t ++ l)) k ∙ text_back t (drop (suc (length t)) blank) e

pub padded_start : (t rest : List ℕ) → take (length t) (padded_text t ++ rest) ≡ t
unfolding padded_text
padded_start t rest =
    ap (take (length t)) (append_assoc t (drop (length t) blank) rest)
    ∙ take-append_seam t (drop (length t) blank ++ rest)

module _ (c time : ℕ) (t rest : List ℕ) (short : length t < 50) (plain : text_len t ≡ length t) where
  abbrev mark_whole : List ℕ
  mark_whole = 1 ∷ c ∷ time / 256 % 256 ∷ time % 256 ∷ (padded_text t ++ rest)

  mark_list : mark_bytes c time t ++ rest ≡ mark_whole
  unfolding mark_bytes start_bytes
  mark_list = refl

  text_is : text_len (text_in mark_whole) ≡ length t
  text_is = ap text_len (take_at (padded_text t) rest 50 (padded_length t (omega arith))) ∙ padded_text_lem t short plain

  pub mark_read : (l at : ℕ) → time < 2 ^ 16 → block_of l c at mark_whole ≡ Mark c time (at + 4) (length t) true
  mark_read l at h =
      here_stands l c at mark_whole (λ z. omega arith)
      (mark_stands l mark_whole refl (omega (arith, length-append (padded_text t) rest, padded_length t (omega arith))) (omega (arith, text_is)))
      ∙ parts_mark 1 c at mark_whole (λ z. omega arith)
      ∙ rw (time_back time h, text_is, eq-eqb c c refl)

pub mark_back : MarkBack
unfolding MarkBack
mark_back l n time t before rest room z h =
    let f = mark_fits t room z in (
      at_rest l n before (mark_bytes (counter_after n) time t) rest
          ∙ ap (block_of l (counter_after n) (length before)) (mark_list (counter_after n) time t rest (omega arith) f.1)
          ∙ mark_read (counter_after n) time t rest (omega arith) f.1 l (length before) h,
      part_rest (length t) before (mark_bytes (counter_after n) time t) rest
          ∙ ap (λ (l : List ℕ). take (length t) (drop 4 l)) (mark_list (counter_after n) time t rest (omega arith) f.1)
          ∙ padded_start t rest,
    )

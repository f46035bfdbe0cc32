-- Table k of one memory, copied to another, and back; and a burnt table lasts.
use Prim.Native.Nat.{ℕ, zero, suc, ◌+◌, ◌-◌, ◌≤◌, ◌<◌}
use mathlib.Core.Path.{◌≡◌, refl, sym, ◌∙◌, ap, subst}
use mathlib.Core.Logic.{◌⊎◌, inl, inr}
use mathlib.Core.Bool.{Bool, true, false}
use mathlib.Core.List.{List, [], ◌∷◌}
use native.Mathlib.Omega.{arith}
use native.Mathlib.Decide.{dec_lt}
use native.Mathlib.Nat.{add-zero}
use lib.Dec.{eqb}
use lib.ListN.{length, get_or, take, drop}
use lib.Seq.{length-sets, get_or-take, get_or-drop, ext_get_or}
use borrow.Author.Tests.{eqb-true, eqb-false}
use Rattle.wire.proofs.Puts.{sets_in, sets_outside}
use Rattle.bus_rules.specs.Ident.{id_kind}
use Rattle.bus_rules.specs.Frames.{Frame, burn}
use Rattle.bus_rules.specs.Device.{Directory, Device, start_of, size_of, total_of, copy_table, with_current}
use Rattle.bus_rules.specs.Holder.{table_of, serve_number, acting, burning, device_after}
use Rattle.bus_rules.specs.Demand2.{TableCopied, BurnOf, LentFrame, lent_with, after_all, NoBurn}
use Rattle.bus_rules.proofs.Directories.{table_within, table_apart}
use Rattle.bus_rules.proofs.FrameLaws.{part_length}
use Rattle.bus_rules.proofs.IdentLaws.{table_small}
use Rattle.bus_rules.proofs.Cases.{accepted, accepted_acting, act_burn, served_case, refused_case, same_flash_lem, same_directory, number_is}

module _ (d : Directory) (k : ℕ) (from to : List ℕ) (l : k < 32) (whole : length from ≡ total_of d) (fits : length to ≡ total_of d) where
  table : List ℕ
  table = take (size_of d k) (drop (start_of d k) from)

  table_length : length table ≡ size_of d k
  unfolding table
  table_length = part_length from (start_of d k) (size_of d k) (omega (arith, table_within d k l))

  within : start_of d k + length table ≤ length to
  within = omega (arith, table_length, table_within d k l)

  -- the bytes before the table and after it
  outside : (j : ℕ) → (j < start_of d k) ⊎ (start_of d k + size_of d k ≤ j) → get_or (copy_table d k from to) j 0 ≡ get_or to j 0
  unfolding copy_table table
  outside j o = sets_outside to (start_of d k) table within j (rw table_length o)

  pub table_copied : TableCopied d k from to (copy_table d k from to)
  unfolding copy_table table
  table_copied = record {
    within = (omega (arith, table_within d k l), omega (arith, table_within d k l));
    same_length = length-sets to (start_of d k) table;
    equal = λ i h. sets_in to (start_of d k) table within i (omega (arith, table_length))
        ∙ get_or-take (size_of d k) (drop (start_of d k) from) i 0 h ∙ get_or-drop (start_of d k) from i 0;
    others = outside;
    other_tables = λ t i b h n. outside (start_of d t + i) (rw add-zero at (table_apart d t k i 0 (size_of d k) h (omega arith) n));
  }

-- a table copied to another memory, and back from there: nothing changes
pub copied_back : (d : Directory) (k : ℕ) (from to mid after : List ℕ) → TableCopied d k from to mid → TableCopied d k mid from after → after ≡ from
copied_back d k from to mid after a b = ext_get_or 0 after from b.same_length (λ j l. at j (dec_lt j (start_of d k)) (dec_lt j (start_of d k + size_of d k)))
  where
    at : (j : ℕ) → Dec (j < start_of d k) → Dec (j < start_of d k + size_of d k) → get_or after j 0 ≡ get_or from j 0
    at j (yes p) q = b.others j (inl p)
    at j (no p) (no q) = b.others j (inr (omega arith))
    at j (no p) (yes q) =
        let i = j - start_of d k in
        let e : start_of d k + i ≡ j = omega arith in
        let l : i < size_of d k = omega arith in
        subst (λ (n : ℕ). get_or after n 0 ≡ get_or from n 0) e (b.equal i l ∙ a.equal i l)

-- ── A burnt table lasts ────────────────────────────────────────────────────────────────────────────────────────────

-- a served BURN copies its table
pub burn_copied : (e : Device) (f : Frame) → serve_number e f ≡ 0 → id_kind f.id ≡ burn
    → TableCopied e.directory (table_of f) (acting e f).memory e.flash (device_after e f).flash
unfolding burning with_current
burn_copied e f z k =
    let a = accepted_acting e f (accepted e f z) in
    rw ((served_case e f z).1 ∙ (act_burn e f k).1)
    (table_copied e.directory (table_of f) (acting e f).memory e.flash (omega (arith, table_small f.id)) a.memory a.flash)

-- any frame that is not a served BURN of the table leaves its flash bytes
module _ (e : Device) (f : Frame) (k i : ℕ) (b : k < 32) (l : i < size_of e.directory k) where
  abbrev place : ℕ
  place = start_of e.directory k + i

  kept_by : ¬ BurnOf e k f → get_or (device_after e f).flash place 0 ≡ get_or e.flash place 0
  kept_by n = go (serve_number e f) (eqb (id_kind f.id) burn) refl refl
    where
      go : (m : ℕ) (t : Bool) → serve_number e f ≡ m → eqb (id_kind f.id) burn ≡ t → get_or (device_after e f).flash place 0 ≡ get_or e.flash place 0
      go (suc m) t z u = ap (λ (v : Device). get_or v.flash place 0) (refused_case e f (suc m) z (λ q. omega arith)).1
      go zero false z u = ap (λ (x : List ℕ). get_or x place 0) (same_flash_lem e f (eqb-false _ _ u))
      go zero true z u =
          let h = eqb-true (id_kind f.id) burn u in
          (burn_copied e f z h).other_tables k i b l (λ q. n (number_is e f ∙ z, h, sym q))

-- and so any frames, one after the other
pub kept_by_all : (gs : List LentFrame) (e : Device) (d : Directory) (k i : ℕ) → e.directory ≡ d → k < 32 → i < size_of d k → NoBurn e k gs
    → get_or (after_all e gs).flash (start_of d k + i) 0 ≡ get_or e.flash (start_of d k + i) 0
unfolding after_all NoBurn
kept_by_all [] e d k i s b l n = refl
kept_by_all (g ∷ gs) e d k i s b l n =
    kept_by_all gs (device_after (lent_with e g) g.frame) d k i (same_directory (lent_with e g) g.frame ∙ s) b l n.1
    ∙ rw (← s) (kept_by (lent_with e g) g.frame k i b (rw s l) n.0)

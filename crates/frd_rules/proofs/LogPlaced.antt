-- Each block of a log stands at its place, after the blocks before it.
use Prim.Native.Nat.{ℕ, zero, suc, ◌+◌, ◌≤◌, ◌<◌}
use mathlib.Core.Path.{◌≡◌, refl, sym, ap, ◌∙◌, subst}
use mathlib.Core.Logic.{⊎_elim}
use mathlib.Core.List.{List, [], ◌∷◌, ◌++◌}
use native.Mathlib.Omega.{arith}
use native.Mathlib.Nat.{zero-add}
use lib.ListN.{length}
use Rattle.wire.specs.Log.{judged}
use Rattle.frd_rules.specs.Block.{read_block_of, block_answer, length_of}
use Rattle.frd_rules.specs.Log.{Placed, Log, ended, more, log_from}
use Rattle.frd_rules.specs.RoundTrip.{place_after, InPlace, LogPlaced}
use Rattle.frd_rules.specs.declared.Header.{Header}
use Rattle.frd_rules.specs.declared.Block.{Block}
use Rattle.frd_rules.specs.declared.Block.TheVariants.{End, Refused}
use Rattle.frd_rules.proofs.BlockLaws.{View, at_end_lem, of_data_lem, of_time, of_refusal, view}
use Rattle.frd_rules.proofs.LogLaws.{IsBlock, block_or_not, block_fits, log_more, log_ends, log_all}
use Rattle.frd_rules.proofs.HeaderLaws.{head_given, known}

module _ (l : ℕ) (f : List ℕ) where
  -- a block that stands at its place: the first of these begins at `at`, after n blocks
  abbrev Stands : (n at : ℕ) → List Placed → Placed → Type 0
  Stands n at before p = (p.place ≡ place_after l at before) × (read_block_of l (n + length before) f p.place ≡ p.block)

  -- the blocks from a place on, after n blocks
  record From (n at : ℕ) (g : Log) : Type 0 where
    each : (before : List Placed) (p : Placed) (after : List Placed) → g.blocks ≡ before ++ (p ∷ after) → Stands n at before p
    last : (g.place ≡ place_after l at g.blocks)
        × (read_block_of l (n + length g.blocks) f g.place ≡ judged Refused g.ending g.place End)

  module _ (n at : ℕ) (b : Block) (here : read_block_of l n f at ≡ b) where
    -- n blocks and none
    none_before : read_block_of l (n + 0) f at ≡ b
    none_before = let z : n + 0 ≡ n = omega arith in rw z here

    from_end : judged Refused (block_answer b).number at End ≡ b → From n at (ended (block_answer b).number at)
    unfolding place_after
    from_end stop = record { each = each; last = (refl, none_before ∙ sym stop) }
      where
        each : (before : List Placed) (p : Placed) (after : List Placed) → [] ≡ before ++ (p ∷ after) → Stands n at before p
        each [] p after e = absurd (let z : ◌≡◌ {A = ℕ} 0 1 = cc in omega arith)
        each (q ∷ qs) p after e = absurd (let z : ◌≡◌ {A = ℕ} 0 1 = cc in omega arith)

    -- one block and those after it
    one_more : (m : ℕ) → n + 1 + m ≡ n + suc m
    one_more m = omega arith

    from_more : (g : Log) → From (n + 1) (at + length_of l b) g → From n at (more at b g)
    unfolding place_after
    from_more g r = record { each = each; last = (r.last.0, rw (one_more (length g.blocks)) at r.last.1) }
      where
        each : (before : List Placed) (p : Placed) (after : List Placed) → record { place = at; block = b } ∷ g.blocks ≡ before ++ (p ∷ after)
            → Stands n at before p
        each [] p after e =
            let u : record { place = at; block = b } ≡ p = cc in
            subst (λ (x : Placed). (x.place ≡ at) × (read_block_of l (n + 0) f x.place ≡ x.block)) u (refl, none_before)
        each (q ∷ qs) p after e =
            let u : record { place = at; block = b } ≡ q = cc in
            let w : g.blocks ≡ qs ++ (p ∷ after) = cc in
            let z = r.each qs p after w in
            (z.0 ∙ ap (λ (x : Placed). place_after l (at + length_of l x.block) qs) u, rw (one_more (length qs)) at z.1)

  -- what ends a log is the end or a refusal at its place
  ends : {n at : ℕ} {t : List ℕ} → View l n f at t → (IsBlock (read_block_of l n f at) → ⊥)
      → judged Refused (block_answer (read_block_of l n f at)).number at End ≡ read_block_of l n f at
  unfolding judged block_answer
  ends (at_end_lem h e) g = rw e
  ends (of_data_lem k h e) g = absurd (g (subst IsBlock (sym e) tt))
  ends (of_time k h e) g = absurd (g (subst IsBlock (sym e) tt))
  ends (of_refusal zero h e) g = absurd (h refl)
  ends (of_refusal (suc m) h e) g = rw e

  from_log : (k n at : ℕ) → at ≤ length f → length f < at + k → From n at (log_from k l n f at)
  from_log zero n at h i = absurd (omega arith)
  from_log (suc k) n at h i =
      let b = read_block_of l n f at in
      ⊎_elim
      (λ g.
      let y = block_fits l n f at b refl g in
      subst (From n at) (sym (log_more k l n f at b refl g))
      (from_more n at b refl _ (from_log k (n + 1) (at + length_of l b) y.1 (omega (arith, y.0)))))
      (λ g. subst (From n at) (sym (log_ends k l n f at b refl g)) (from_end n at b refl (ends (view l n f at) g)))
      (block_or_not b)

  -- after no blocks
  in_place : (at : ℕ) (g : Log) → From 0 at g → InPlace l at f g
  in_place at g r =
      record {
        each = λ before p after e. let z = r.each before p after e in (z.0, rw (zero-add (length before)) at z.1);
        last = (r.last.0, rw (zero-add (length g.blocks)) at r.last.1);
      }

pub log_placed : (f : List ℕ) → LogPlaced f
unfolding LogPlaced
log_placed f h e =
    let g = head_given f h e in
    let k = known f g.0 in
    let at = h.begin in
    let within : at ≤ length f = omega (arith, ap (λ (x : Header). x.begin) g.1, k.begins, k.long) in
    rw (log_all h.size f at) (in_place h.size f at _ (from_log h.size f (suc (length f)) 0 at within (omega arith)))

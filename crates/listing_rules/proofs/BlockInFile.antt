-- A block that is read lies within its file, and its raw values are not refused.
use Prim.Native.Nat.{ℕ, zero, suc, ◌+◌, ◌≤◌}
use mathlib.Core.Path.{◌≡◌}
use mathlib.Core.List.{List}
use native.Mathlib.Omega.{arith}
use lib.ListN.{length, take, drop, length-drop}
use lib.Seq.{length-take-le}
use Rattle.wire.proofs.Texts.{text_most}
use Rattle.wire.proofs.Parts.{take_length_le}
use Rattle.wire.specs.Text.{text_len}
use Rattle.mlg_rules.specs.Header.{read_header_of}
use Rattle.mlg_rules.specs.Block.{counter_after, block_len, type_in, text_in, parts_of, read_block_of}
use Rattle.mlg_rules.specs.Log.{length_of}
use Rattle.mlg_rules.specs.declared.Header.{Header}
use Rattle.std.proofs.Common.{Ok}
use Rattle.mlg_rules.specs.declared.Block.{Block}
use Rattle.mlg_rules.proofs.LogLaws.{IsBlock, Stands, a_block, the_end, refused, stands_at, parts_block}
use Rattle.mlg_rules.proofs.TallyLaws.{at_fits}
use Rattle.listing_rules.specs.BlockInFile.{BlockInFile}
use Rattle.listing_rules.proofs.FieldsInFile.{fields_in}
use Rattle.listing_rules.proofs.ValuesNotRefused.{record_not_refused}

module _ (h : Header) (f : List ℕ) where
  parts_in_file : read_header_of f ≡ Ok h → (k c at : ℕ) (t : List ℕ) → at + length_of h.size (parts_of k c at t) ≤ length f
      → BlockInFile h f (parts_of k c at t)
  unfolding parts_of length_of block_len
  parts_in_file e zero c at t i =
      let l : length (take h.size (drop (at + 4) f)) ≡ h.size = length-take-le h.size (drop (at + 4) f) (rw (length-drop (at + 4) f) (omega arith)) in
      (omega (arith, fields_in f h e), omega arith, record_not_refused f h (take h.size (drop (at + 4) f)) e l)
  parts_in_file e (suc k) c at t i =
      let s : text_len (text_in t) ≤ 50 = omega (arith, text_most (text_in t), take_length_le 50 (drop 4 t)) in
      (omega arith, s)

  in_file_by : read_header_of f ≡ Ok h → (n at : ℕ) (b : Block) → Stands h.size n f at b → read_block_of h.size n f at ≡ b → BlockInFile h f b
  in_file_by e n at b (a_block p some num q) i =
      let go : IsBlock b = rw q (parts_block (type_in (drop at f)) (counter_after n) at (drop at f)) in
      rw q (parts_in_file e _ _ at _ (rw q at (at_fits h.size n f at b i go)))
  in_file_by e n at b (the_end p q) i = rw q tt
  in_file_by e n at b (refused m q) i = rw q tt

  pub block_in_file : read_header_of f ≡ Ok h → (n at : ℕ) (b : Block) → read_block_of h.size n f at ≡ b → BlockInFile h f b
  block_in_file e n at b q = in_file_by e n at b (rw q at (stands_at h.size n f at)) q

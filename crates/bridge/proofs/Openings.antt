-- What an opening is where it is refused, and where it takes a slot.
use Prim.Native.Nat.{ℕ, ◌+◌, ◌*◌, ◌≤◌, ◌<◌}
use mathlib.Core.Path.{◌≡◌, refl, sym, ◌∙◌}
use mathlib.Core.Bool.{Bool}
use mathlib.Core.List.{List}
use mathlib.Core.Option.{some}
use native.Mathlib.Omega.{arith}
use native.Mathlib.Numerals.{add-one}
use lib.ListN.{length, set}
use lib.Seq.{sets}
use borrow.Author.Tests.{ne_eqb}
use Rattle.std.specs.Prelude.{Ok, Err}
use Rattle.wire.specs.declared.refusal.Refusal.{Refusal}
use Rattle.wire.specs.Refusals.{code}
use Rattle.wire.specs.Put.{put_of}
use Rattle.wire.proofs.RefusalLaws.{code_ne0}
use Rattle.wire.proofs.Puts.{put_sets}
use Rattle.bridge_rules.specs.declared.Bridge.{Bridge}
use Rattle.bridge_rules.specs.State.{lowest_givable}
use Rattle.bridge_rules.specs.Answers.{Buffers, right_lengths, opened_of}
use Rattle.bridge_rules.specs.Views.{as_opened}
use Rattle.bridge_rules.specs.Opening.{Ask, ask_count, with_given, opened, open_number, open_of}
use Rattle.bridge_rules.proofs.NumberLaws.{RightLengths, open_facts, open_lent}
use Rattle.bridge.proofs.Searches.{givable_small}

-- what the number 0 says
pub open_allowed : (s : Bridge) (ok : Bool) (a : Ask) → 0 ≡ open_number s ok a → (s.issued < 4294967295) × (ask_count a ≤ 128)
open_allowed s ok a e = let f = open_facts s ok a (sym e) in (f.ticketed, f.law.few)

module _ (s : Bridge) (b : Buffers) (a : Ask) where
  -- a refusal, and the buffers after it
  pub open_refused : (e : Refusal) → code e ≡ open_number s (right_lengths b) a
      → (as_opened (record { bridge = s; answer = Err e }) ≡ opened_of (open_of s b a)) × (b ≡ (open_of s b a).buffers)
  unfolding open_of opened_of
  open_refused e h = rw (← h, ne_eqb (code e) 0 (code_ne0 e)) (refl, refl)

  module _ (e : 0 ≡ open_number s (right_lengths b) a) (k : ℕ) (q : lowest_givable s ≡ some k) where
    -- its answer
    pub open_begun : as_opened (record {
      bridge = record {
        slots = set s.slots k (opened a (s.issued + 1));
        issued = s.issued + 1;
        own = s.own;
        last = s.last;
        rests = s.rests;
      };
      answer = Ok (s.issued + 1);
    }) ≡ opened_of (open_of s b a)
    unfolding open_of opened_of
    open_begun = rw (← e, q, add-one s.issued)

    -- the bytes that it was given, in the one of the buffers that takes them
    pub open_copied : (part : Buffers → List ℕ) (bs : List ℕ) → (RightLengths b → length (part b) ≡ 512) → length bs ≡ ask_count a
        → part (with_given b k a) ≡ sets (part b) (128 * k) bs → put_of (part b) (128 * k) bs ≡ part (open_of s b a).buffers
    unfolding open_of
    open_copied part bs right l w =
        let few = (open_allowed s (right_lengths b) a e).1 in
        let fits = put_sets (part b) (128 * k) bs
        (omega (arith, right (open_lent s b a (sym e)).1, l, few, givable_small s k q)) in
        fits ∙ rw (← e, q, ← w)

-- The bytes that a write or a checked write was given stay in its slot's part of a buffer: of the first for a write, of the second for a
-- checked write.
use Prim.Native.Nat.{ℕ, suc, ◌+◌, ◌*◌, ◌≤◌, ◌<◌}
use mathlib.Core.Path.{◌≡◌, sym, ◌∙◌, ap, subst}
use mathlib.Core.List.{List}
use mathlib.Core.Bool.{true, false}
use native.Mathlib.Omega.{arith}
use lib.ListN.{length, take, drop, get_or, length-take, length-drop}
use lib.Seq.{sets, get_or-take, get_or-drop, ext_get_or}
use Rattle.bridge_rules.specs.State.{carries, checking}
use Rattle.bridge_rules.specs.Answers.{Buffers}
use Rattle.bridge_rules.specs.Opening.{is_read, is_write, is_check, ask_count, ask_given, to_first, to_second}
use Rattle.bridge_rules.specs.Turn.{carried_from}
use Rattle.bridge_rules.specs.Run.{Run, buffers, Lawful, Transfer, slot_of, Stands, len_of}
use Rattle.bridge_rules.specs.Replies.{given}
use Rattle.bridge_rules.proofs.KindTests.{KindFits, one_kind, carries_of, carries_not_read, checking_of}
use Rattle.bridge_rules.proofs.AskTests.{ask_cases, write_not_read, write_not_check, check_not_read, given_count}
use Rattle.bridge_rules.proofs.FrameLaws.{len_inside, from_first, from_second}
use Rattle.bridge_rules.proofs.Search.{contradiction}
use Rattle.bridge_rules.proofs.BufferParts.{SamePart, get_d_sets_in}
use Rattle.bridge_rules.proofs.SlotEffects.{unchanged, ages, served, taken, disagreed}
use Rattle.bridge_rules.proofs.SoundRuns.{storage_sound}
use Rattle.bridge_rules.proofs.Standing.{opened_at, slot_at, ChangesSlot, Held, held, along_from}

-- parts of two lists that agree byte by byte
take_same : (a b : List ℕ) (p q n : ℕ) → p + n ≤ length a → q + n ≤ length b → ((i : ℕ) → i < n → get_or a (p + i) 0 ≡ get_or b (q + i) 0)
    → take n (drop p a) ≡ take n (drop q b)
take_same a b p q n la lb h = ext_get_or 0 (take n (drop p a)) (take n (drop q b)) (len a p la ∙ sym (len b q lb))
    (λ i l. let l' : i < n = omega (arith, len a p la) in get_or-take n (drop p a) i 0 l' ∙ get_or-drop p a i 0 ∙ h i l'
    ∙ sym (get_or-take n (drop q b) i 0 l' ∙ get_or-drop q b i 0))
  where
    len : (c : List ℕ) (o : ℕ) → o + n ≤ length c → length (take n (drop o c)) ≡ n
    len c o l = length-take n (drop o c) ∙ omega (arith, length-drop o c)

module _ (r : Run) (w : Lawful r) (x : Transfer r) where
  few : ask_count x.ask ≤ 128
  few = (opened_at r w x).law.few

  -- its given bytes are in its slot's part of this buffer
  abbrev pub InBuffer : List ℕ → Type 0
  InBuffer b = (i : ℕ) → i < ask_count x.ask → get_or b (128 * slot_of r x + i) 0 ≡ get_or (ask_given x.ask) i 0

  -- they stay there while the part stays
  stay : (b b' : List ℕ) → SamePart (slot_of r x) b b' → InBuffer b → InBuffer b'
  stay b b' e h i l = e i (omega (arith, l, few)) ∙ h i l

  -- and an opening puts them there
  put : (b bs : List ℕ) → length b ≡ 512 → bs ≡ ask_given x.ask → ask_count x.ask ≡ length (ask_given x.ask) → (b' : List ℕ)
      → b' ≡ sets b (128 * slot_of r x) bs → InBuffer b'
  put b bs lb e lg b' q i l = ap (λ (a : List ℕ). get_or a (128 * slot_of r x + i) 0) (q ∙ ap (sets b (128 * slot_of r x)) e)
      ∙ get_d_sets_in b (128 * slot_of r x) (ask_given x.ask) i (omega (arith, lb, (opened_at r w x).bound, few, lg)) (omega (arith, lg, l))

  record Given (n : ℕ) : Type 0 where
    first : is_write x.ask ≡ true → InBuffer (buffers r n).first
    second : is_check x.ask ≡ true → InBuffer (buffers r n).second

  -- a call that leaves both buffers
  kept : (n : ℕ) → buffers r (suc n) ≡ buffers r n → Given n → Given (suc n)
  kept n e g = record {
    first = λ q. subst (λ (b : Buffers). InBuffer b.first) (sym e) (g.first q);
    second = λ q. subst (λ (b : Buffers). InBuffer b.second) (sym e) (g.second q);
  }

  given_step : (n : ℕ) → Stands r x (suc n) → suc x.at ≤ n → Held r x n → ChangesSlot r x n → Given n → Given (suc n)
  given_step n s l h (unchanged v) g = record {
    first = λ e. stay (buffers r n).first (buffers r (suc n)).first v.parts.0 (g.first e);
    second = λ e. stay (buffers r n).second (buffers r (suc n)).second v.parts.1 (g.second e);
  }
  given_step n s l h (ages v) g = kept n v.kept g
  given_step n s l h (served v) g = kept n v.kept g
  given_step n s l h (taken v) g = record {
    first = λ e. one_kind (slot_at r x n).kind (carries_of x.ask (slot_at r x n).kind h.kind e) v.waits.asking;
    second = λ e. subst InBuffer (sym (ap (λ (b : Buffers). b.second) v.stored)) (g.second e);
  }
  given_step n s l h (disagreed v) g = kept n v.kept g

  base : Given (suc x.at)
  base = record {
    first = λ e. put (buffers r x.at).first (to_first x.ask) (storage_sound r w x.at).1.0 (rw e)
        (given_count x.ask (write_not_read x.ask e)) (buffers r (suc x.at)).first (ap (λ (b : Buffers). b.first) (opened_at r w x).given);
    second = λ e. put (buffers r x.at).second (to_second x.ask) (storage_sound r w x.at).1.1 (rw e)
        (given_count x.ask (check_not_read x.ask e)) (buffers r (suc x.at)).second (ap (λ (b : Buffers). b.second) (opened_at r w x).given);
  }

  given_at : (n : ℕ) → Stands r x n → Given n
  given_at n s = along_from r w x (suc x.at) (omega arith) Given base given_step n s.0 s

  -- chunk c of a buffer that has them
  chunk_given : (b : List ℕ) → length b ≡ 512 → is_read x.ask ≡ false → InBuffer b → (c : ℕ) → 8 * c < ask_count x.ask
      → take (len_of r x c) (drop (128 * slot_of r x + 8 * c) b) ≡ given r x c
  chunk_given b lb ur h c l = take_same b (ask_given x.ask) (128 * slot_of r x + 8 * c) (8 * c) (len_of r x c)
      (omega (arith, lb, (opened_at r w x).bound, few, len_inside (ask_count x.ask) (8 * c) l))
      (omega (arith, given_count x.ask ur, len_inside (ask_count x.ask) (8 * c) l))
      (λ k q. let z : 128 * slot_of r x + 8 * c + k ≡ 128 * slot_of r x + (8 * c + k) = omega arith in
      ap (λ (u : ℕ). get_or b u 0) z ∙ h (8 * c + k) (omega (arith, q, len_inside (ask_count x.ask) (8 * c) l)))

  -- of the second buffer, for a checked write
  pub second_given : (n : ℕ) → Stands r x n → is_check x.ask ≡ true → (c : ℕ) → 8 * c < ask_count x.ask
      → take (len_of r x c) (drop (128 * slot_of r x + 8 * c) (buffers r n).second) ≡ given r x c
  second_given n s e = chunk_given (buffers r n).second (storage_sound r w n).1.1 (check_not_read x.ask e) ((given_at n s).second e)

  -- of the buffer whose bytes its slot carries
  pub carried_given : (n : ℕ) → Stands r x n → carries (slot_at r x n).kind ≡ true → (c : ℕ) → 8 * c < ask_count x.ask
      → take (len_of r x c) (drop (128 * slot_of r x + 8 * c) (carried_from (slot_at r x n).kind (buffers r n))) ≡ given r x c
  carried_given n s u c l = ask_cases x.ask
      (λ rd. contradiction rd (carries_not_read x.ask (slot_at r x n).kind fits u))
      (λ wr. rw (from_first (slot_at r x n).kind (buffers r n) (is ∙ write_not_check x.ask wr))
      (chunk_given (buffers r n).first (storage_sound r w n).1.0 (write_not_read x.ask wr) ((given_at n s).first wr) c l))
      (λ ck. rw (from_second (slot_at r x n).kind (buffers r n) (is ∙ ck)) (second_given n s ck c l))
    where
      fits : KindFits x.ask (slot_at r x n).kind
      fits = (held r w x n s).kind

      is : checking (slot_at r x n).kind ≡ is_check x.ask
      is = checking_of x.ask (slot_at r x n).kind fits u

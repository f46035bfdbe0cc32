-- The header reader gives each number exactly when the paper says.
use Prim.Native.Nat.{ℕ, zero, suc, ◌+◌, ◌*◌, ◌-◌, ◌≤◌, ◌<◌}
use mathlib.Core.Path.{◌≡◌, refl, sym, ap, ◌∙◌}
use mathlib.Core.Logic.{◌⊎◌, inl, inr, ◌≢◌}
use mathlib.Core.Bool.{Bool, true, false, not}
use mathlib.Core.List.{List, [], ◌∷◌}
use native.Mathlib.Omega.{arith}
use borrow.Author.Tests.{ltb-true, ltb-false, leb-true, leb-false, eqb-true, eqb-false}
use lib.Dec.{eqb, leb, ltb}
use lib.ListN.{length, take, drop, length-drop}
use lib.Seq.{length-take-le, drop-drop}
use Rattle.wire.specs.Answer.{result_of}
use Rattle.wire.specs.Order.{◌if◌else◌, ◌or_else◌}
use Rattle.wire.specs.First.{First, Unless, Zero}
use Rattle.wire.specs.Text.{text_len, zeros}
use Rattle.wire.proofs.Firsts.{neither}
use Rattle.wire.proofs.Orders.{not-false}
use Rattle.wire.proofs.RefusalChains.{sound_test}
use Rattle.mlg_rules.specs.Layout.{served, layout_of}
use Rattle.mlg_rules.specs.Types.{size_of, first_bit_type}
use Rattle.mlg_rules.specs.Field.{type_of, names_index, bits_of, type_number}
use Rattle.mlg_rules.specs.Fields.{unended, texts_number, names_number, field_number, fields_number, sizes}
use Rattle.mlg_rules.specs.Header.{numbers_of, fields_end, fields_from, area_in}
use Rattle.mlg_rules.specs.Header.{name_number, places_number, last_number, body_number, read_header_number, read_header_of, no_header, head_answer}
use Rattle.mlg_rules.specs.Numbers.{HasZero, Named, FieldNumber, InTurn, HeaderNumber}
use Rattle.mlg_rules.specs.declared.Header.{Header}
use Rattle.mlg_rules.specs.declared.Header.{Header}
use Rattle.std.specs.Prelude.{Result}
use Rattle.wire.specs.declared.refusal.Refusal.{Refusal}
use Rattle.wire.specs.Refusals.{checked}
use Rattle.mlg_rules.proofs.AreaLaws.{area_part}
use Rattle.mlg_rules.proofs.BlockNumbers.{has_zero, no_zero}
use Rattle.mlg_rules.proofs.HeaderLaws.{Placed, placed}

-- a test says P, or that P does not hold
abbrev Says : Bool → Type 0 → Type 0
Says b P = (b ≡ true → P) × (b ≡ false → ¬ P)

abbrev Denies : Bool → Type 0 → Type 0
Denies b P = (b ≡ true → ¬ P) × (b ≡ false → P)

says_less : (a b : ℕ) → Says (ltb a b) (a < b)
says_less a b = (ltb-true a b, λ e p. omega (arith, ltb-false a b e, p))

says_most : (a b : ℕ) → Says (leb a b) (a ≤ b)
says_most a b = (leb-true a b, λ e p. omega (arith, leb-false a b e, p))

says_same : (a b : ℕ) → Says (eqb a b) (a ≡ b)
says_same a b = (eqb-true a b, eqb-false a b)

denies_same : (a b : ℕ) → Denies (not (eqb a b)) (a ≡ b)
denies_same a b = (λ e. eqb-false a b ((sound_test _).0 e), λ e. eqb-true a b (not-false _ e))

-- the chains, by their tests
module _ {P Q R : Type 0} (r : ℕ) (rest : ℕ → Type 0) where
  name_chain : (a b c : Bool) → Says a P → Denies b Q → Denies c R → rest r
      → First P 20 (Unless Q 21 (Unless R 22 rest)) ((20 if a else 21 if b else 22 if c else 0) or_else r)
  unfolding ◌if◌else◌ ◌or_else◌
  name_chain true b c p q s h = inl (p.0 refl, refl)
  name_chain false true c p q s h = inr (p.1 refl, inl (q.0 refl, refl))
  name_chain false false true p q s h = inr (p.1 refl, inr (q.1 refl, inl (s.0 refl, refl)))
  name_chain false false false p q s h = inr (p.1 refl, inr (q.1 refl, inr (s.1 refl, h)))

  texts_chain : (a b c : Bool) → Denies a P → Denies b Q → Denies c R → rest r
      → Unless (P × Q × R) 28 rest ((28 if a else 28 if b else 28 if c else 0) or_else r)
  unfolding ◌if◌else◌ ◌or_else◌
  texts_chain true b c p q s h = inl (λ x. p.0 refl x.0, refl)
  texts_chain false true c p q s h = inl (λ x. q.0 refl x.1, refl)
  texts_chain false false true p q s h = inl (λ x. s.0 refl x.2, refl)
  texts_chain false false false p q s h = inr ((p.1 refl, q.1 refl, s.1 refl), h)

  type_chain : (a b c : Bool) → Says a P → Denies b Q → Says c R → rest r
      → First P 24 (First (Q × R) 24 rest) ((24 if a else 0 if b else 24 if c else 0) or_else r)
  unfolding ◌if◌else◌ ◌or_else◌
  type_chain true b c p q s h = inl (p.0 refl, refl)
  type_chain false true c p q s h = inr (p.1 refl, inr (λ x. q.0 refl x.0, h))
  type_chain false false true p q s h = inr (p.1 refl, inl ((q.1 refl, s.0 refl), refl))
  type_chain false false false p q s h = inr (p.1 refl, inr (λ x. s.1 refl x.1, h))

abbrev places : Bool → Bool → Bool → Bool → Bool → Bool → ℕ
places a b c d e g = 20 if a else 23 if b else 23 if c else 0 if d else 23 if e else 23 if g else 0

module _ {N M Q R S : Type 0} where
  names_chain : (a b c d e : Bool) → Denies a N → Denies b M → Says c Q → (c ≡ false → Says d R) → (c ≡ false → Says e S)
      → First ((N × M) × (Q ⊎ R)) 23 (First ((N × M) × S) 28 Zero) (0 if a else 0 if b else 23 if c else 23 if d else 28 if e else 0)
  unfolding ◌if◌else◌
  names_chain true b c d e n m p q s = inr (λ x. n.0 refl x.0.0, inr (λ x. n.0 refl x.0.0, refl))
  names_chain false true c d e n m p q s = inr (λ x. m.0 refl x.0.1, inr (λ x. m.0 refl x.0.1, refl))
  names_chain false false true d e n m p q s = inl (((n.1 refl, m.1 refl), inl (p.0 refl)), refl)
  names_chain false false false true e n m p q s = inl (((n.1 refl, m.1 refl), inr ((q refl).0 refl)), refl)
  names_chain false false false false true n m p q s =
      inr (λ x. neither (p.1 refl) ((q refl).1 refl) x.1, inl (((n.1 refl, m.1 refl), (s refl).0 refl), refl))
  names_chain false false false false false n m p q s =
      inr (λ x. neither (p.1 refl) ((q refl).1 refl) x.1, inr (λ x. (s refl).1 refl x.1, refl))

  places_chain : {I : Type 0} (a b c d e g : Bool) (r : ℕ) (rest : ℕ → Type 0)
      → Says a N → Says b M → Says c Q → Says d I → Says e R → Says g S → (places a b c d e g ≡ 0 → rest r)
      → First N 20 (First (M ⊎ Q) 23 (First ((¬ I) × (R ⊎ S)) 23 rest)) (places a b c d e g or_else r)
  unfolding ◌if◌else◌ ◌or_else◌
  places_chain true b c d e g r rest n m q i s t h = inl (n.0 refl, refl)
  places_chain false true c d e g r rest n m q i s t h = inr (n.1 refl, inl (inl (m.0 refl), refl))
  places_chain false false true d e g r rest n m q i s t h = inr (n.1 refl, inl (inr (q.0 refl), refl))
  places_chain false false false true e g r rest n m q i s t h =
      inr (n.1 refl, inr (neither (m.1 refl) (q.1 refl), inr (λ x. x.0 (i.0 refl), h refl)))
  places_chain false false false false true g r rest n m q i s t h =
      inr (n.1 refl, inr (neither (m.1 refl) (q.1 refl), inl ((i.1 refl, inl (s.0 refl)), refl)))
  places_chain false false false false false true r rest n m q i s t h =
      inr (n.1 refl, inr (neither (m.1 refl) (q.1 refl), inl ((i.1 refl, inr (t.0 refl)), refl)))
  places_chain false false false false false false r rest n m q i s t h =
      inr (n.1 refl, inr (neither (m.1 refl) (q.1 refl), inr (λ x. neither (s.1 refl) (t.1 refl) x.1, h refl)))

last_chain : {N I M : Type 0} (a b c : Bool) → Denies a N → Says b I → (¬ I → Says c M)
    → Unless N 23 (First ((¬ I) × M) 28 Zero) (23 if a else 0 if b else 28 if c else 0)
unfolding ◌if◌else◌
last_chain true b c n i m = inl (n.0 refl, refl)
last_chain false true c n i m = inr (n.1 refl, inr (λ x. x.0 (i.0 refl), refl))
last_chain false false true n i m = inr (n.1 refl, inl ((i.1 refl, (m (i.1 refl)).0 refl), refl))
last_chain false false false n i m = inr (n.1 refl, inr (λ x. (m (i.1 refl)).1 refl x.1, refl))

-- zeros, and where a text stops
zeros_none : (l : List ℕ) → zeros l ≡ 0 → length l ≤ text_len l
zeros_none [] e = omega arith
zeros_none (zero ∷ l) e = absurd (omega arith)
zeros_none (suc b ∷ l) e = omega (arith, zeros_none l e)

zeros_some : (l : List ℕ) → zeros l ≢ 0 → text_len l < length l
zeros_some [] e = absurd (e refl)
zeros_some (zero ∷ l) e = omega arith
zeros_some (suc b ∷ l) e = omega (arith, zeros_some l e)

-- one field
module _ (f : List ℕ) (h : Header) (p : Placed (length f) h) where
  abbrev end : ℕ
  end = fields_end h

  area_length : length (area_in f h) ≡ h.begin - end
  unfolding area_in
  area_length = length-take-le (h.begin - end) (drop end f) (rw (length-drop end f) (omega (arith, p.data_begins)))

  area_from : (i : ℕ) → end ≤ i → drop (i - end) (area_in f h) ≡ take (h.begin - i) (drop i f)
  unfolding area_in
  area_from i k = sym (area_part f end h.begin i k)

  text_test : (d : List ℕ) (at n : ℕ) → Denies (unended d at n) (HasZero d at n)
  unfolding unended
  text_test d at n = (λ e. no_zero d at n (leb-true _ _ e), λ e. has_zero d at n (leb-false _ _ e))

  field_number_lem : (d : List ℕ) → FieldNumber end h.begin f d (field_number end (area_in f h) d)
  unfolding field_number type_number texts_number names_number
  field_number_lem d =
      type_chain (texts_number d or_else names_number end (area_in f h) d) (Unless (HasZero d 1 34 × HasZero d 35 10 × HasZero d 55 34) 28 Names)
      (eqb (size_of (type_of d)) 0) (ltb (type_of d) first_bit_type) (ltb (8 * size_of (type_of d)) (bits_of d)) (says_same _ _) bit (says_less _ _)
      (texts_chain (names_number end (area_in f h) d) Names (unended d 1 34) (unended d 35 10) (unended d 55 34)
      (text_test d 1 34) (text_test d 35 10) (text_test d 55 34)
      (names_chain _ _ _ _ _ bit some (says_less i end) past short))
    where
      i : ℕ
      i = names_index d

      Names : ℕ → Type 0
      Names =
          First (Named d × ((i < end) ⊎ (h.begin ≤ i))) 23
          (First (Named d × (zeros (take (h.begin - i) (drop i f)) < bits_of d)) 28
          Zero)

      bit : Denies (ltb (type_of d) first_bit_type) (first_bit_type ≤ type_of d)
      bit = (λ e k. omega (arith, ltb-true (type_of d) first_bit_type e, k), ltb-false _ _)

      some : Denies (eqb (bits_of d) 0) (bits_of d ≢ 0)
      some = (λ e k. k (eqb-true _ _ e), eqb-false _ _)

      past : ltb i end ≡ false → Says (leb (length (area_in f h)) (i - end)) (h.begin ≤ i)
      past e =
          let k = ltb-false i end e in (
            λ w. omega (arith, leb-true (length (area_in f h)) (i - end) w, area_length, p.after_fields),
            λ w l. omega (arith, leb-false (length (area_in f h)) (i - end) w, area_length, p.after_fields, l),
          )

      short : ltb i end ≡ false
          → Says (ltb (zeros (drop (i - end) (area_in f h))) (bits_of d)) (zeros (take (h.begin - i) (drop i f)) < bits_of d)
      short e = rw (area_from i (ltb-false i end e)) (says_less _ _)

  -- info's zero, in the area from it on
  info_test : (h.info ≢ 0) → Says (eqb (zeros (drop (h.info - end) (area_in f h))) 0) (¬ (HasZero f h.info (h.begin - h.info)))
  info_test k =
      let n = h.begin - h.info in
      let t = take n (drop h.info f) in
      let len : length t ≡ n = length-take-le n (drop h.info f) (rw (length-drop h.info f) (omega (arith, p.data_begins))) in
      rw (area_from h.info (p.info_after k)) (
        λ e. no_zero f h.info n (omega (arith, zeros_none t (eqb-true _ _ e), len)),
        λ e w. w (has_zero f h.info n (omega (arith, zeros_some t (eqb-false _ _ e), len))),
      )

  last_number_lem : Unless (sizes h.version h.count (fields_from f h) ≡ h.size) 23
      (First ((h.info ≢ 0) × ¬ (HasZero f h.info (h.begin - h.info))) 28 Zero) (last_number h (fields_from f h) (area_in f h))
  unfolding last_number
  last_number_lem = last_chain _ _ _ (denies_same _ _) (says_same _ _) info_test

-- the fields in turn
module _ (v end : ℕ) (area : List ℕ) (G : List ℕ → ℕ → Type 0) (g : (d : List ℕ) → G d (field_number end area d)) (r : ℕ) (rest : ℕ → Type 0) where
  abbrev field : List ℕ → ℕ → ℕ → Type 0
  field t j = G (take 89 (drop (89 * j) t))

  next : (t : List ℕ) (j : ℕ) → drop (89 * j) (drop 89 t) ≡ drop (89 * suc j) t
  next t j = let e : 89 + 89 * j ≡ 89 * suc j = omega arith in drop-drop (89 * j) 89 t ∙ ap (λ (k : ℕ). drop k t) e

  one_on : (n : ℕ) (t : List ℕ) (m : ℕ) → field t 0 0 → InTurn (field (drop 89 t)) n rest m → InTurn (field t) (suc n) rest m
  one_on n t m z (inl (i, k, below, here, some)) = inl (suc i, omega arith, before, rw (← next t i) here, some)
    where
      before : (j : ℕ) → j < suc i → field t j 0
      before zero h = z
      before (suc j) h = rw (← next t j) (below j (omega arith))
  one_on n t m z (inr (all, k)) = inr (before, k)
    where
      before : (j : ℕ) → j < suc n → field t j 0
      before zero h = z
      before (suc j) h = rw (← next t j) (all j (omega arith))

  in_turn : (n : ℕ) (t : List ℕ) → rest r → InTurn (field t) n rest (fields_number v end area n t or_else r)
  unfolding ◌or_else◌ layout_of
  in_turn zero t h = inr (λ j k. absurd (omega arith), h)
  in_turn (suc n) t h = by (field_number end area (take 89 t)) (g (take 89 t)) (in_turn n (drop 89 t) h)
    where
      by : (x : ℕ) → G (take 89 t) x → InTurn (field (drop 89 t)) n rest (fields_number v end area n (drop 89 t) or_else r)
          → InTurn (field t) (suc n) rest ((x or_else fields_number v end area n (drop 89 t)) or_else r)
      by zero q ih = one_on n t _ q ih
      by (suc x) q ih = inl (0, omega arith, λ j k. absurd (omega arith), q, λ z. omega arith)

-- the whole header
end_is : (h : Header) → fields_end h ≡ 24 + 89 * h.count
unfolding fields_end layout_of
end_is h = refl

-- the same fields, by other places
same_turns : (F G : ℕ → ℕ → Type 0) (n : ℕ) (rest : ℕ → Type 0) (m : ℕ) → ((j k : ℕ) → F j k → G j k) → InTurn F n rest m → InTurn G n rest m
same_turns F G n rest m w (inl (i, k, below, here, some)) = inl (i, k, λ j h. w j 0 (below j h), w i m here, some)
same_turns F G n rest m w (inr (all, k)) = inr (λ j h. w j 0 (all j h), k)

module _ (f : List ℕ) (h : Header) where
  abbrev Field : ℕ → ℕ → Type 0
  Field i = FieldNumber (24 + 89 * h.count) h.begin f (take 89 (drop (24 + 89 * i) f))

  abbrev Last : ℕ → Type 0
  Last =
      Unless (sizes h.version h.count (drop 24 f) ≡ h.size) 23
      (First ((h.info ≢ 0) × ¬ (HasZero f h.info (h.begin - h.info))) 28
      Zero)

  body_number_lem : Placed (length f) h → InTurn Field h.count Last (body_number h (fields_from f h) (area_in f h))
  unfolding body_number layout_of
  body_number_lem p =
      same_turns _ Field h.count Last _ (λ j k z. rw (← drop-drop (89 * j) 24 f, ← end_is h) z)
      (in_turn h.version (fields_end h) (area_in f h) (FieldNumber (fields_end h) h.begin f) (field_number_lem f h p) _ Last h.count (drop 24 f)
      (last_number_lem f h p))

  abbrev Places : ℕ → Type 0
  Places =
      First (length f < 24 + 89 * h.count) 20
      (First ((h.begin < 24 + 89 * h.count) ⊎ (length f < h.begin)) 23
      (First ((h.info ≢ 0) × ((h.info < 24 + 89 * h.count) ⊎ (h.begin ≤ h.info))) 23
      (InTurn Field h.count Last)))

  places_number_lem : Places (places_number (length f) h or_else body_number h (fields_from f h) (area_in f h))
  unfolding places_number
  places_number_lem =
      rw (end_is h)
      (places_chain _ _ _ _ _ _ (body_number h (fields_from f h) (area_in f h)) (InTurn Field h.count Last)
      (says_less _ _) (says_less _ _) (says_less _ _) (says_same _ _) (says_less _ _) (says_most _ _)
      (λ z. body_number_lem (placed (length f) h (rw (end_is h) z))))

pub header_number : (f : List ℕ) → HeaderNumber f (read_header_number f)
unfolding read_header_number name_number served layout_of
header_number f =
    name_chain (places_number (length f) h or_else body_number h (fields_from f h) (area_in f h)) (Places f h) _ _ _
    (says_less _ _) (denies_same _ _) (denies_same _ _) (places_number_lem f h)
  where
    h : Header
    h = numbers_of f

-- what a header's answer says, and which number it has
given_number : (f : List ℕ) (n : ℕ) → HeaderNumber f n → HeaderNumber f (result_of no_header n (numbers_of f)).0
unfolding result_of
given_number f zero h = h
given_number f (suc n) h = h

pub head_told : (f : List ℕ) (r : Result Header Refusal)
    → (r ≡ checked (read_header_number f) (numbers_of f)) × (head_answer r ≡ result_of no_header (read_header_number f) (numbers_of f))
    → (r ≡ read_header_of f) × (head_answer r ≡ result_of no_header (read_header_number f) (numbers_of f)) × HeaderNumber f (head_answer r).0
unfolding read_header_of
head_told f r m = (m.0, m.1, rw m.1 (given_number f (read_header_number f) (header_number f)))

-- A bridge has four slots and four rests: the code's tests of them are those of a sound state.
use Prim.Native.Nat.{ℕ, ◌≤◌}
use mathlib.Core.Path.{◌≡◌, refl, sym, ◌∙◌, ap}
use mathlib.Core.Bool.{Bool, not, ◌&&◌, ◌||◌, and-true}
use mathlib.Core.List.{List, [], ◌∷◌}
use native.Mathlib.Omega.{arith}
use lib.ListN.{length, get_or}
use lib.Dec.{eqb, leb}
use Rattle.std.specs.List.{list_all}
use borrow.Author.Tests.{le-leb, eq-eqb}
use Rattle.bridge_rules.specs.declared.Bridge.{Bridge}
use Rattle.bridge_rules.specs.declared.Slot.{Slot}
use Rattle.bridge_rules.specs.State.{blank, sound_slot, sound_slots, absent, distinct, sound_rests, sound}

pub four : {A : Type 0} (d : A) (l : List A) → length l ≡ 4 → l ≡ get_or l 0 d ∷ get_or l 1 d ∷ get_or l 2 d ∷ get_or l 3 d ∷ []
four d [] h = absurd (omega arith)
four d (a ∷ []) h = absurd (omega arith)
four d (a ∷ b ∷ []) h = absurd (omega arith)
four d (a ∷ b ∷ c ∷ []) h = absurd (omega arith)
four d (a ∷ b ∷ c ∷ e ∷ []) h = refl
four d (a ∷ b ∷ c ∷ e ∷ f ∷ l) h = absurd (omega arith)

abbrev pub apart : Slot → Slot → Bool
apart x y = eqb x.ticket 0 || not (eqb y.ticket x.ticket)

-- of four, each pair
abbrev pub apart_all : (a b c d : Slot) → Bool
apart_all a b c d = (apart a b && (apart a c && apart a d)) && ((apart b c && apart b d) && apart c d)

module _ (a b c d : Slot) where
  distinct_of : apart_all a b c d ≡ distinct (a ∷ b ∷ c ∷ d ∷ [])
  unfolding distinct absent
  distinct_of = simp and-true

module _ (l : List Slot) (h : length l ≡ 4) where
  pub distinct_four : apart_all (get_or l 0 blank) (get_or l 1 blank) (get_or l 2 blank) (get_or l 3 blank) ≡ distinct l
  distinct_four = distinct_of _ _ _ _ ∙ ap distinct (sym (four blank l h))

pub sound_parts : (s : Bridge) → s.issued ≤ 4294967295 → length s.slots ≡ 4 → length s.rests ≡ 4
    → (leb s.own 15 && leb s.last 3 && sound_rests s.rests && sound_slots s.issued s.slots && distinct s.slots) ≡ sound s
unfolding sound
sound_parts s t h r =
    rw (le-leb s.issued 4294967295 t, eq-eqb (length s.slots) 4 h, eq-eqb (length s.rests) 4 r) (simp and-true)

-- the code's tests of all slots and all rests
pub slots_all : (t : ℕ) (l : List Slot) → list_all (sound_slot t) l ≡ sound_slots t l
unfolding sound_slots
slots_all t [] = refl
slots_all t (x ∷ l) = rw (slots_all t l) refl

pub rests_all : (l : List ℕ) → list_all (λ n. leb n 60) l ≡ sound_rests l
unfolding sound_rests
rests_all [] = refl
rests_all (n ∷ l) = rw (rests_all l) refl

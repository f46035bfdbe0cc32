-- Laws of the holder's state: what a sound one is, the first of a family, and when a table is reloaded.
use Prim.Native.Nat.{ℕ, ◌≤◌}
use mathlib.Core.Path.{◌≡◌, refl}
use mathlib.Core.Logic.{◌⊎◌, inl, inr, ◌≢◌}
use mathlib.Core.Bool.{Bool, true, false, not, cond, ◌&&◌, ◌||◌, and-false}
use native.Mathlib.Omega.{arith}
use lib.Dec.{leb, eqb}
use borrow.Author.Tests.{leb-true, le-leb, eqb-true, eqb-false, eq-eqb, ne_eqb, not-true, not-false}
use Rattle.wire.proofs.Orders.{if_zero}
use Rattle.bus_rules.specs.Device.{Directory, HolderState, FirstState, size_of, none_current, currently, is_current, known_family, sound_current, state_number}
use Rattle.bus_rules.specs.Device.{first_state_of, reloads}
use Rattle.bus_rules.specs.Demand2.{IsCurrent, KnownFamily, CurrentTable, SoundState, FirstOf}
use Rattle.bus_rules.proofs.Directories.{apart, both}

-- ── Tests ──────────────────────────────────────────────────────────────────────────────────────────────────────────

-- of two tests either holds
either : {P : Type 0} (a b : Bool) → (a || b) ≡ true → (a ≡ true → P) → (b ≡ true → P) → P
either true b e p q = p refl
either false b e p q = q e

-- ── Families ───────────────────────────────────────────────────────────────────────────────────────────────────────

known : (n : ℕ) → known_family n ≡ true → KnownFamily n
unfolding known_family
known n h = either (eqb n 2) (eqb n 3) h (λ e. inl (eqb-true n 2 e)) (λ e. inr (eqb-true n 3 e))

is_known : (n : ℕ) → KnownFamily n → known_family n ≡ true
unfolding known_family
is_known n (inl e) = rw e
is_known n (inr e) = rw e

-- ── Sound states ───────────────────────────────────────────────────────────────────────────────────────────────────

module _ (d : Directory) (s : HolderState) where
  current_says : sound_current d s ≡ true → CurrentTable d s
  unfolding sound_current
  current_says h = either _ _ h
      (λ n. let b = both (eqb s.has_current 0) (eqb s.current 0) n in inl (eqb-true _ _ b.0, eqb-true _ _ b.1))
      (λ n. let p = both (eqb s.has_current 1 && leb s.current 31) (not (eqb (size_of d s.current) 0)) n in
      let q = both (eqb s.has_current 1) (leb s.current 31) p.0 in
      inr (eqb-true _ _ q.0, leb-true _ _ q.1, eqb-false _ _ (not-true _ p.1)))

  says_current : CurrentTable d s → sound_current d s ≡ true
  unfolding sound_current
  says_current (inl h) = rw (h.0, h.1)
  says_current (inr h) = rw (h.0, le-leb _ _ h.1, ne_eqb _ _ h.2)

  -- the test of a state, and what it says
  pub state_says : (known_family s.family && sound_current d s) ≡ true → SoundState d s
  state_says h =
      let b = both (known_family s.family) (sound_current d s) h in
      record { family = known s.family b.0; current = current_says b.1 }

  pub says_state : SoundState d s → (known_family s.family && sound_current d s) ≡ true
  says_state h = rw (is_known s.family h.family, says_current h.current)

  pub sound_state_lem : state_number d s ≡ 0 → SoundState d s
  unfolding state_number
  sound_state_lem h = state_says (not-false _ (if_zero 10 _ _ h).0)

-- a state with a current table that is not empty
pub sound_currently : (d : Directory) (s : HolderState) (k : ℕ) → SoundState d s → k ≤ 31 → size_of d k ≢ 0 → SoundState d (currently s.family k)
unfolding currently
sound_currently d s k h l n = record { family = h.family; current = inr (refl, l, n) }

-- ── The first state of a family ────────────────────────────────────────────────────────────────────────────────────

abbrev first : ℕ → Bool → FirstState
first family b = cond b (record { number = 0; state = none_current family }) (record { number = 11; state = none_current 0 })

none_sound : (n : ℕ) → KnownFamily n → (d : Directory) → SoundState d (none_current n)
unfolding none_current
none_sound n k d = record { family = k; current = inl (refl, refl) }

pub first_of : (family : ℕ) → FirstOf family (first_state_of family)
unfolding first_state_of
first_of family = go (known_family family) refl
  where
    go : (b : Bool) → known_family family ≡ b → FirstOf family (first family b)
    go true h = record {
      number = inr (known family h, refl);
      first = λ z. refl;
      sound = λ z d. none_sound family (known family h) d;
      refused = λ z. absurd (z refl);
    }
    go false h = record {
      number = inl (λ k. apart (known_family family) (is_known family k) h, refl);
      first = λ z. absurd (omega arith);
      sound = λ z. absurd (omega arith);
      refused = λ z. refl;
    }

-- ── When a table is reloaded ───────────────────────────────────────────────────────────────────────────────────────

module _ (s : HolderState) (k : ℕ) where
  says_current_table : is_current s k ≡ true → IsCurrent s k
  unfolding is_current
  says_current_table h = let b = both (eqb s.has_current 1) (eqb s.current k) h in (eqb-true _ _ b.0, eqb-true _ _ b.1)

  is_current_lem : IsCurrent s k → is_current s k ≡ true
  unfolding is_current
  is_current_lem h = rw (eq-eqb _ _ h.0, eq-eqb _ _ h.1)

  pub reload_older : s.family ≡ 2 → ¬ IsCurrent s k → reloads s k ≡ true
  unfolding reloads
  reload_older e n = go (is_current s k) refl
    where
      go : (b : Bool) → is_current s k ≡ b → (eqb s.family 2 && not (is_current s k)) ≡ true
      go true h = absurd (n (says_current_table h))
      go false h = rw (eq-eqb _ _ e, h)

  pub no_reload_lem : (s.family ≡ 3) ⊎ IsCurrent s k → reloads s k ≡ false
  unfolding reloads
  no_reload_lem (inl e) = rw e
  no_reload_lem (inr h) = rw (is_current_lem h) (and-false (eqb s.family 2))

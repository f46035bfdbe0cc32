-- The corollaries of demand 3, proved from it.
use Prim.Native.Nat.{ℕ, zero, suc, ◌+◌, ◌≤◌, ◌<◌}
use mathlib.Core.Path.{◌≡◌, refl, sym, ◌∙◌, ap}
use mathlib.Core.Logic.{◌⊎◌, inl, inr}
use mathlib.Core.Bool.{true}
use native.Mathlib.Omega.{arith}
use native.Mathlib.Decide.{dec_lt}
use Rattle.bridge_rules.specs.Answers.{plain}
use Rattle.bridge_rules.specs.Opening.{is_read}
use Rattle.bridge_rules.specs.State.{rest}
use Rattle.bridge_rules.specs.Run.{Run, state, Lawful, Transfer, slot_of, Stands, turns, Done, Different, status_at, shown_at, chunks}
use Rattle.bridge_rules.specs.Replies.{Replied, ThreeFailed}
use Rattle.bridge_rules.specs.Device.{Quiet}
use Rattle.bridge_rules.specs.Demand3.{Claims}
use Rattle.bridge_rules.specs.Corollaries.{ShowsSince, QuietResets, Corollaries}
use Rattle.bridge_rules.proofs.AskedSoFar.{failed_mono, read_so_far}
use Rattle.bridge_rules.proofs.TableBytes.{Timely, timely, table_since, taken_answers_lem}
use Rattle.bridge_rules.proofs.Demand3.{claims}
use Rattle.bridge_rules.proofs.AskTests.{ask_cases, read_not_check, write_not_check}
use Rattle.bridge_rules.proofs.RestedSlots.{ResetBetween, rests_on}
use Rattle.bridge_rules.proofs.Standing.{opened_at}
use Rattle.bridge_rules.proofs.TurnCounts.{turns_mono}
use Rattle.bridge_rules.proofs.WrittenInOrder.{all_mono}

three_stays : (r : Run) (x : Transfer r) (n n' : ℕ) → n ≤ n' → ThreeFailed r x n → ThreeFailed r x n'
three_stays r x n n' l f = record {
  c = f.c;
  j₁ = f.j₁;
  j₂ = f.j₂;
  j₃ = f.j₃;
  order₁ = f.order₁;
  order₂ = f.order₂;
  first = failed_mono r x f.c f.j₁ n n' l f.first;
  second = failed_mono r x f.c f.j₂ n n' l f.second;
  third = failed_mono r x f.c f.j₃ n n' l f.third;
}

-- one of each, as a function
module _ (P : ℕ → ℕ → Type 0) (k : ℕ) (g : (c : ℕ) → c < k → (m : ℕ) × P c m) where
  pick : (c : ℕ) → Dec (c < k) → ℕ
  pick c (yes h) = (g c h).0
  pick c (no h) = 0

  picked : (c : ℕ) (d : Dec (c < k)) → c < k → P c (pick c d)
  unfolding pick
  picked c (yes q) h = (g c q).1
  picked c (no q) h = absurd (q h)

  choose : (f : ℕ → ℕ) × ((c : ℕ) → c < k → P c (f c))
  choose = (λ c. pick c (dec_lt c k), λ c. picked c (dec_lt c k))

module _ (r : Run) (w : Lawful r) (x : Transfer r) (n n' : ℕ) (l : n ≤ n') (s : Stands r x n) (s' : Stands r x n') where
  now : Claims r x n
  now = claims r w x n s

  later : Claims r x n'
  later = claims r w x n' s'

  got : is_read x.ask ≡ true → Done r x n → (c : ℕ) → c < chunks r x → (m : ℕ) × (m < n) × Replied r x c m
  got rd e = (now.read rd).done.0 e

  -- a reply that was there is there later
  done_stays : Done r x n → Done r x n'
  done_stays e = ask_cases x.ask
      (λ rd. (later.read rd).done.1 (λ c h. let g = got rd e c h in (g.0, omega (arith, g.1), g.2)))
      (λ wr. (later.written wr).1 (all_mono r x n n' l ((now.written wr).0 e)))
      (λ ck. let d = (now.checked ck).done.0 e in (later.checked ck).done.1 (
        all_mono r x n n' l d.0,
        λ c h. let g = d.1 c h in (g.0, omega (arith, g.1), g.2, g.3),
      ))

  different_stays : Different r x n → Different r x n'
  different_stays e = ask_cases x.ask
      (λ rd. absurd (now.not_different (read_not_check x.ask rd) e))
      (λ wr. absurd (now.not_different (write_not_check x.ask wr) e))
      (λ ck. let d = (now.checked ck).different.0 e in
      (later.checked ck).different.1 (d.0, d.1, omega (arith, d.2), d.3, d.4))

  -- what shows nothing but its status shows the same
  hidden_stays : Done r x n → shown_at r x n ≡ plain (status_at r x n) → shown_at r x n' ≡ plain (status_at r x n') → shown_at r x n' ≡ shown_at r x n
  hidden_stays e p q = q ∙ ap plain (done_stays e ∙ sym e) ∙ sym p

  shown_stays : Done r x n → shown_at r x n' ≡ shown_at r x n
  shown_stays e = ask_cases x.ask
      (λ rd. let g = choose (λ c m. (m < n) × Replied r x c m) (chunks r x) (λ c h. let z = got rd e c h in (z.0, (z.1, z.2))) in
      (later.read rd).shown g.0 (λ c h. (omega (arith, (g.1 c h).0), (g.1 c h).1)) ∙ sym ((now.read rd).shown g.0 g.1))
      (λ wr. hidden_stays e (now.shown_of_write wr) (later.shown_of_write wr))
      (λ ck. hidden_stays e (now.checked ck).shown (later.checked ck).shown)

since : ShowsSince Timely
since r w x n s rd e t a un τ m = table_since r w x n t a un s (read_so_far r w x rd n s) e τ m rd

-- a reset of a bridge no slot of which rests comes late enough
quiet_rested : QuietResets
quiet_rested r w zero h q b z y c j l s = absurd (omega arith)
quiet_rested r w (suc n) h q b z y c j l s = go (quiet_rested r w n (λ i a. h i (omega arith)))
    (rests_on r w q (slot_of r y) (opened_at r w y).bound y c j refl s l)
  where
    go : Quiet r n → (60 ≤ rest (state r q) (slot_of r y) + turns r j q) ⊎ ResetBetween r w j q → 60 ≤ turns r j q
    go ih (inl m) = omega (arith, m, h q b z (slot_of r y) (opened_at r w y).bound)
    go ih (inr (i, a, e, v)) = omega (arith, ih i (omega arith) v y c j a s, turns_mono r j i q (omega arith))

pub corollaries : Corollaries
corollaries = record {
  ended_stays = λ r w x n n' l s s'. record {
    done = done_stays r w x n n' l s s';
    given_up = λ e. (claims r w x n' s').gave_up.1 (three_stays r x n n' l ((claims r w x n s).gave_up.0 e));
    different = different_stays r w x n n' l s s';
    shown = shown_stays r w x n n' l s s';
  };
  narrow_meanwhile = λ r w x n s rd e t a. since r w x n s rd e t (timely r x n t a);
  narrow_resets = λ r w x n s rd e t a. since r w x n s rd e t (record {
    own = a.own;
    prompt = a.prompt;
    unreset = λ m f h y c v. a.unreset m f h;
  });
  taken_answers = λ r w x n t a. taken_answers_lem r w x n t (timely r x n t a);
  quiet_resets = quiet_rested;
}

-- Demand 3.
use Prim.Native.Nat.{ℕ, ◌*◌, ◌-◌, ◌≤◌, ◌<◌}
use mathlib.Core.Path.{◌≡◌, sym, ap, subst}
use mathlib.Core.Logic.{◌↔◌, ◌⊎◌, inl, inr}
use mathlib.Core.List.{List}
use mathlib.Core.Bool.{true, false}
use native.Mathlib.Omega.{arith}
use native.Mathlib.Decide.{dec_lt}
use lib.ListN.{length, get_or, get_or-eq_default}
use Rattle.bridge_rules.specs.State.{done, gave_up, different}
use Rattle.bridge_rules.specs.Answers.{Answer, Buffers}
use Rattle.bridge_rules.specs.Opening.{is_read, is_write, is_check}
use Rattle.bridge_rules.specs.Call.{Call, status}
use Rattle.bridge_rules.specs.Run.{Run, state, buffers, Lawful, Shaped, Transfer, Stands, turns, chunks, turns_each, Done, GivenUp, Different}
use Rattle.bridge_rules.specs.Replies.{Replied, ThreeFailed, AllWritten}
use Rattle.bridge_rules.specs.Demand3.{After, Claims, ReadClaims, CheckedClaims, run_of, Demand3}
use Rattle.bridge_rules.proofs.SlotOk.{GaveUpOk, gave_up_ok}
use Rattle.bridge_rules.proofs.SoundRuns.{storage_sound}
use Rattle.bridge_rules.proofs.Standing.{ok_at, opened_at, slot_at}
use Rattle.bridge_rules.proofs.Status.{done_is, gave_up_is, different_is, unfinished_is, unknown_ticket}
use Rattle.bridge_rules.proofs.EndsInBound.{Ended}
use Rattle.bridge_rules.proofs.AskTests.{write_not_read, check_not_read, read_not_check}
use Rattle.bridge_rules.proofs.AskedSoFar.{AskedSoFar, read_so_far, Got, Other, Fails}
use Rattle.bridge_rules.proofs.RepliesInOrder.{reply_accepted, replied_once, replied_order, replied_done, failed_thrice}
use Rattle.bridge_rules.proofs.ShownBytes.{done_progress, hidden, not_read_hidden, shown_joined, shown_whole, all_got}
use Rattle.bridge_rules.proofs.WrittenInOrder.{all_written_done, full_written}
use Rattle.bridge_rules.proofs.ReadingBack.{asked_so_far_at, sent_after_lem, ends_in, not_different_lem, different_other, other_different, first_other_lem}
use Rattle.bridge_rules.proofs.ReadingBack.{done_back, equal_done}
use Rattle.bridge_rules.proofs.SlotHolders.{alone, no_holder, known_holder}
use Rattle.bridge_rules.proofs.RestedSlots.{places}
use Rattle.bridge_rules.proofs.TableBytes.{timely, table_meanwhile, given_meanwhile, other_then, some_moment}

module _ (r : Run) (w : Lawful r) (x : Transfer r) (n : ℕ) (s : Stands r x n) where
  three_failed : (slot_at r x n).phase ≡ gave_up → ThreeFailed r x n
  three_failed e =
      let g : GaveUpOk (slot_at r x n) = gave_up_ok (slot_at r x n) (ok_at r w x n) e in
      let f : Fails r x g.partway.chunk 3 n n
      = (asked_so_far_at r w x n s g.asking).if_gave_up e g.partway.chunk g.partway.at in
      record {
        c = g.partway.chunk;
        j₁ = f.3.3.0;
        j₂ = f.3.0;
        j₃ = f.0;
        order₁ = f.3.3.1;
        order₂ = f.3.1;
        first = f.3.3.2;
        second = f.3.2;
        third = f.2;
      }

  ends : turns_each x.ask * chunks r x ≤ turns r x.at n → Done r x n ⊎ GivenUp r x n ⊎ Different r x n
  ends e = go (ends_in r w x n s e)
    where
      go : Ended r w x n → Done r x n ⊎ GivenUp r x n ⊎ Different r x n
      go (inl p) = inl ((done_is r w x n s).1 p)
      go (inr (inl p)) = inr (inl ((gave_up_is r w x n s).1 p))
      go (inr (inr p)) = inr (inr ((different_is r w x n s).1 p))

  -- the chunks that a done transfer has got
  got : (p : AskedSoFar r x n) → Done r x n → (c : ℕ) → c < chunks r x → Got r x c n
  got p e c l = all_got r w x n s p ((done_is r w x n s).0 e) c (omega arith)

  reading : is_read x.ask ≡ true → ReadClaims r x n
  reading rd = record {
    done = (λ e c l. let g : Got r x c n = got p e c l in (g.m, g.before, g.replied), back);
    shown = λ m h. shown_joined r w x n s p rd (back (λ c l. (m c, (h c l).0, (h c l).1))) m h;
    hidden = hidden r w x n s;
    whole = shown_whole r w x n s p rd;
    table = λ t τ₀ h e τ m. table_meanwhile r w x n t (timely r x n t h.arrivals) τ₀ h s p e τ m rd;
    during = λ t τ₀ a h. some_moment r w x n t (timely r x n t a) τ₀ h s p;
  }
    where
      p : AskedSoFar r x n
      p = read_so_far r w x rd n s

      back : ((c : ℕ) → c < chunks r x → (m : ℕ) × (m < n) × Replied r x c m) → Done r x n
      back h = go (replied_done r w x n z.0 s z.1 z.2)
        where
          z : (m : ℕ) × (m < n) × Replied r x (chunks r x - 1) m
          z = h (chunks r x - 1) (omega (arith, (opened_at r w x).law.some))

          go : ((slot_at r x n).phase ≡ done) ⊎ ((slot_at r x n).phase ≡ different) → Done r x n
          go (inl e) = (done_is r w x n s).1 e
          go (inr e) = absurd (not_different_lem r w x (read_not_check x.ask rd) n s e)

  writing : is_write x.ask ≡ true → Done r x n ↔ AllWritten r x n
  writing wr = (
    λ e. full_written r w x n s wr (done_progress r w x n s ((done_is r w x n s).0 e)),
    λ a. (done_is r w x n s).1 (all_written_done r w x n s wr a),
  )

  checking : is_check x.ask ≡ true → CheckedClaims r x n
  checking ck = record {
    done = (
      λ e. (
        (back e).0,
        λ c l. let g : Got r x c n = got (back e).1 e c l in (g.m, g.before, g.replied, g.equal ck),
      ),
      λ h. (done_is r w x n s).1 (equal_done r w x n s h.1),
    );
    different = (
      λ e. let o : Other r x n = different_other r w x n s ((different_is r w x n s).0 e) in (o.c, o.m, o.before, o.replied, o.other),
      λ h. (different_is r w x n s).1 (other_different r w x ck n h.0 h.1 s h.2 h.3 h.4),
    );
    sent_after = sent_after_lem r w x ur;
    first_other = first_other_lem r w x ck;
    shown = not_read_hidden r w x n s ur;
    table = λ t τ₀ h e τ m. given_meanwhile r w x n t (timely r x n t h.arrivals) τ₀ h s (back e).1 e τ m ck;
    during = λ t τ₀ a h e. some_moment r w x n t (timely r x n t a) τ₀ h s (back e).1 e;
    table_other = λ t a. other_then r w x n t (timely r x n t a);
  }
    where
      ur : is_read x.ask ≡ false
      ur = check_not_read x.ask ck

      back : Done r x n → AllWritten r x n × AskedSoFar r x n
      back e = done_back r w x ck n s ((done_is r w x n s).0 e)

  pub claims : Claims r x n
  claims = record {
    places = places r w x;
    alone = λ y t. alone r w x y n s t;
    ends = ends;
    otherwise = unfinished_is r w x n s;
    not_different = λ uc e. not_different_lem r w x uc n s ((different_is r w x n s).0 e);
    gave_up = (λ e. three_failed ((gave_up_is r w x n s).0 e), λ t. (gave_up_is r w x n s).1 (failed_thrice r w x n s t));
    replies = record { taken = reply_accepted r w x; once = replied_once r w x; ordered = replied_order r w x };
    read = reading;
    written = writing;
    shown_of_write = λ wr. not_read_hidden r w x n s (write_not_read x.ask wr);
    checked = checking;
  }

pub after : (r : Run) → Lawful r → (n : ℕ) → After r n
after r w n = record {
  standing = λ x s. claims r w x n s;
  unknown = λ t u. unknown_ticket (state r n) (buffers r n) t (storage_sound r w n).0 (storage_sound r w n).1.0 (no_holder r w n t u);
  known = λ t u. known_holder r w n t (λ z. u (ap (λ (a : Answer). a.number)
      (unknown_ticket (state r n) (buffers r n) t (storage_sound r w n).0 (storage_sound r w n).1.0 z).0));
}

-- the run of a list of calls is lawful
pub listed : (own : ℕ) → own ≤ 15 → (b : Buffers) → length b.first ≡ 512 → length b.second ≡ 512 → (cs : List Call)
    → ((k : ℕ) → k < length cs → Shaped (get_or cs k (status 0)))
    → Lawful (run_of own b cs)
listed own ho b lf ls cs sh = record { own = ho; first = lf; second = ls; shaped = λ k. go k (dec_lt k (length cs)) }
  where
    go : (k : ℕ) → Dec (k < length cs) → Shaped (get_or cs k (status 0))
    go k (yes p) = sh k p
    go k (no p) = subst Shaped (sym (get_or-eq_default cs (status 0) {n = k} (omega arith))) tt

pub demand3 : Demand3
demand3 own ho b lf ls cs sh n l = after (run_of own b cs) (listed own ho b lf ls cs sh) n

-- A frame that matches a chunk is the one that the waiting slot at that chunk awaits.
use Prim.Native.Nat.{ℕ, ◌+◌, ◌*◌}
use mathlib.Core.Path.{◌≡◌, refl, sym, ◌∙◌, ap}
use mathlib.Core.Bool.{true, false≢true}
use lib.Dec.{eqb}
use borrow.Author.Tests.{eqb-true, eq-eqb}
use Rattle.bus_rules.specs.Ident.{id_table, id_from, id_offset}
use Rattle.bridge_rules.specs.State.{Frame, waiting, is_waiting}
use Rattle.bridge_rules.specs.Opening.{ask_device}
use Rattle.bridge_rules.specs.Incoming.{content_number}
use Rattle.bridge_rules.specs.Call.{Call, its_own, other, opening, turn, frame, status, bytes, close, reset}
use Rattle.bridge_rules.specs.Run.{Run, state, Lawful, ledger, Transfer, slot_of, len_of}
use Rattle.bridge_rules.specs.Replies.{place, matches_frame, matches_call, Matches}
use Rattle.bridge_rules.proofs.Search.{and-true}
use Rattle.bridge_rules.proofs.AwaitsTest.{AwaitsOk}
use Rattle.bridge_rules.proofs.LedgerAgrees.{own_is}
use Rattle.bridge_rules.proofs.Standing.{slot_at, Held}

pub record MatchesOk (r : Run) (x : Transfer r) (c m : ℕ) (f : Frame) : Type 0 where
  pub is : r.calls m ≡ frame its_own f
  pub passes : content_number (state r m).own f ≡ 0
  pub table : id_table f.id ≡ 6
  pub device : id_from f.id ≡ ask_device x.ask
  pub place : id_offset f.id ≡ place r x c
  pub len : f.len ≡ len_of r x c

pub matches_ok : (r : Run) (w : Lawful r) (x : Transfer r) (c m : ℕ) → Matches r x c m → (f : Frame) × MatchesOk r x c m f
unfolding matches_frame
matches_ok r w x c m h = go (r.calls m) refl h
  where
    go : (d : Call) → r.calls m ≡ d → matches_call r x c m d ≡ true → (f : Frame) × MatchesOk r x c m f
    go (opening l a) e q = absurd (false≢true q)
    go (turn l) e q = absurd (false≢true q)
    go (frame its_own f) e q =
        let p1 = and-true _ (eqb f.len (len_of r x c)) q in
        let p2 = and-true _ (eqb (id_offset f.id) (place r x c)) p1.0 in
        let p3 = and-true _ (eqb (id_from f.id) (ask_device x.ask)) p2.0 in
        let p4 = and-true (eqb (content_number (ledger r m).own f) 0) (eqb (id_table f.id) 6) p3.0 in (
          f,
          record {
            is = e;
            passes = ap (λ (o : ℕ). content_number o f) (sym (own_is r w m)) ∙ eqb-true _ 0 p4.0;
            table = eqb-true _ 6 p4.1;
            device = eqb-true _ _ p3.1;
            place = eqb-true _ _ p2.1;
            len = eqb-true _ _ p1.1;
          },
        )
    go (frame (other l) f) e q = absurd (false≢true q)
    go (status t) e q = absurd (false≢true q)
    go (bytes l t) e q = absurd (false≢true q)
    go (close t) e q = absurd (false≢true q)
    go (reset o) e q = absurd (false≢true q)

pub matches_true : (r : Run) (w : Lawful r) (x : Transfer r) (c m : ℕ) (f : Frame) → MatchesOk r x c m f → Matches r x c m
unfolding matches_frame
matches_true r w x c m f h = rw (
  h.is,
  own_is r w m,
  eq-eqb _ 0 h.passes,
  eq-eqb _ 6 h.table,
  eq-eqb _ _ h.device,
  eq-eqb _ _ h.place,
  eq-eqb _ _ h.len,
)

-- a turn is no frame that matches
pub turn_unmatched : (r : Run) (x : Transfer r) (c m : ℕ) → r.calls m ≡ turn its_own → ¬ Matches r x c m
turn_unmatched r x c m e h = false≢true (sym (ap (matches_call r x c m) e) ∙ h)

module _ (r : Run) (x : Transfer r) (c m : ℕ) (h : Held r x m) (p : (slot_at r x m).progress ≡ 8 * c) where
  -- a waiting read at chunk c awaits what matches chunk c
  pub matches_awaited : (f : Frame) → MatchesOk r x c m f → (slot_at r x m).phase ≡ waiting → AwaitsOk (state r m) f (slot_of r x)
  matches_awaited f a q = record {
    waits = ap is_waiting q;
    table = a.table;
    device = a.device ∙ sym h.device;
    place = a.place ∙ ap (λ (n : ℕ). 128 * slot_of r x + n) (sym p);
    len = rw (h.count, p) a.len;
  }

  pub awaited_matches : (f : Frame) → r.calls m ≡ frame its_own f → content_number (state r m).own f ≡ 0 → AwaitsOk (state r m) f (slot_of r x)
      → MatchesOk r x c m f
  awaited_matches f e q a = record {
    is = e;
    passes = q;
    table = a.table;
    device = a.device ∙ h.device;
    place = a.place ∙ ap (λ (n : ℕ). 128 * slot_of r x + n) p;
    len = rw (h.count, p) at a.len;
  }

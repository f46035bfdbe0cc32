-- What the test `awaits` says of a slot and a frame.
use Prim.Native.Nat.{ℕ, ◌+◌, ◌*◌}
use mathlib.Core.Path.{◌≡◌}
use mathlib.Core.Bool.{true}
use borrow.Author.Tests.{eqb-true, eq-eqb}
use Rattle.bus_rules.specs.Ident.{id_table, id_from, id_offset}
use Rattle.bridge_rules.specs.State.{Frame, Bridge, slot, is_waiting}
use Rattle.bridge_rules.specs.Turn.{chunk_len}
use Rattle.bridge_rules.specs.Incoming.{awaits}
use Rattle.bridge_rules.proofs.Search.{and-true}

pub record AwaitsOk (s : Bridge) (f : Frame) (k : ℕ) : Type 0 where
  pub waits : is_waiting (slot s k).phase ≡ true
  pub table : id_table f.id ≡ 6
  pub device : id_from f.id ≡ (slot s k).device
  pub place : id_offset f.id ≡ 128 * k + (slot s k).progress
  pub len : f.len ≡ chunk_len (slot s k).count (slot s k).progress

pub awaits_ok : (s : Bridge) (f : Frame) (k : ℕ) → awaits s f k ≡ true → AwaitsOk s f k
unfolding awaits
awaits_ok s f k e =
    let p1 = and-true _ _ e in
    let p2 = and-true _ _ p1.0 in
    let p3 = and-true _ _ p2.0 in
    let p4 = and-true _ _ p3.0 in
    record {
      waits = p4.0;
      table = eqb-true _ 6 p4.1;
      device = eqb-true _ _ p3.1;
      place = eqb-true _ _ p2.1;
      len = eqb-true _ _ p1.1;
    }

pub awaits_true : (s : Bridge) (f : Frame) (k : ℕ) → AwaitsOk s f k → awaits s f k ≡ true
unfolding awaits
awaits_true s f k a = rw (a.waits, eq-eqb _ 6 a.table, eq-eqb _ _ a.device, eq-eqb _ _ a.place, eq-eqb _ _ a.len)

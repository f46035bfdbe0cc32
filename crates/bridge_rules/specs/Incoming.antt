-- 01 "Bridge": an incoming frame.
use Rattle.std.specs.Prelude.{ℕ, ◌+◌, ◌*◌, List, [], ◌∷◌, Bool, true, false, cond, not, ◌&&◌, take, drop, set, eqb}
use Rattle.std.proofs.Math.Option.{Option}
use Rattle.std.proofs.lemmas.List.Edits.{sets}
use Rattle.wire.specs.Order.{◌if◌else◌, ◌or_else◌}
use Rattle.bus_rules.specs.Ident.{id_offset, id_kind, id_from, id_table}
use Rattle.bus_rules.specs.Frames.{rsp, content, head_number}
use Rattle.bus_rules.specs.declared.Frame.{Frame}
use Rattle.bridge_rules.specs.declared.Bridge.{Bridge}
use Rattle.bridge_rules.specs.State.{Slot, different, is_waiting, compares, slot, with_slots, moved, first_slot, is_none, or_zero}
use Rattle.bridge_rules.specs.Answers.{Buffers, Result, plain, unless, lent_number, right_lengths}
use Rattle.bridge_rules.specs.Turn.{chunk_len, advanced}

-- of an incoming frame: 1, 2, 3, 4, 5 (only RSP served)
unfoldable pub content_number : ℕ → Frame → ℕ
content_number own f = head_number own f or_else (5 if not (eqb (id_kind f.id) rsp) else 0)

-- it MATCHES if its table is 6 and it has the device, reply offset and length that a waiting read awaits
unfoldable pub awaits : Bridge → Frame → ℕ → Bool
awaits s f k =
    is_waiting (slot s k).phase && eqb (id_table f.id) 6 && eqb (id_from f.id) (slot s k).device
    && eqb (id_offset f.id) (128 * k + (slot s k).progress) && eqb f.len (chunk_len (slot s k).count (slot s k).progress)

-- the slot of that read
unfoldable pub awaiting : Bridge → Frame → Option ℕ
awaiting s f = first_slot (awaits s f) 0 4

-- an incoming frame: 11, 10, 1, 2, 3, 4, 5, 17 (reply matches no waiting read)
unfoldable pub reply_number : Bridge → Bool → Frame → ℕ
reply_number s ok f = lent_number s ok or_else content_number s.own f or_else (17 if is_none (awaiting s f) else 0)

-- two lists of bytes are the same
unfoldable pub same_bytes : List ℕ → List ℕ → Bool
same_bytes [] [] = true
same_bytes [] (y ∷ ys) = false
same_bytes (x ∷ xs) [] = false
same_bytes (x ∷ xs) (y ∷ ys) = eqb x y && same_bytes xs ys

-- a checked write "compares each with what it sent": slot k's reply brings other bytes than the second buffer has at the same place
unfoldable pub differs : ℕ → Slot → List ℕ → Frame → Bool
differs k x second f = compares x.kind && not (same_bytes (content f) (take f.len (drop (128 * k + x.progress) second)))

-- it "ends as different at the first reply that disagrees"
unfoldable pub differed : Slot → Slot
differed x = moved x different x.progress 0 0

-- it is stored; the next eight bytes are ready with no sends counted, or the read is done. One that disagrees "is answered 0 and not
-- stored"
unfoldable pub take_for : Bridge → Buffers → Frame → ℕ → Result
take_for s b f k = record {
  answer = plain 0;
  state = with_slots s (set s.slots k (cond other (differed (slot s k)) (advanced (slot s k))));
  buffers = record { first = cond other b.first (sets b.first (128 * k + (slot s k).progress) (content f)); second = b.second };
}
  where
    other : Bool
    other = differs k (slot s k) b.second f

unfoldable pub frame_of : Bridge → Buffers → Frame → Result
frame_of s b f = unless (reply_number s (right_lengths b) f) (take_for s b f (or_zero (awaiting s f))) s b

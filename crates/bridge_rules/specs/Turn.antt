-- 01 "Bridge": a turn.
use Rattle.std.specs.Prelude.{ℕ, suc, ◌+◌, ◌*◌, ◌-◌, min, List, [], map, cond, ◌&&◌, take, drop, set, leb, ltb}
use Rattle.std.proofs.Math.Option.{Option, none, some}
use Rattle.bus_rules.specs.Ident.{id_of}
use Rattle.bus_rules.specs.Frames.{cmd, req, frame_with}
use Rattle.bus_rules.specs.Request.{request}
use Rattle.bus_rules.specs.declared.Frame.{Frame}
use Rattle.bridge_rules.specs.declared.Bridge.{Bridge}
use Rattle.bridge_rules.specs.declared.Slot.{Slot}
use Rattle.bridge_rules.specs.State.{ready, waiting, done, gave_up, reads_back, is_waiting, asks, carries, checking}
use Rattle.bridge_rules.specs.State.{slot, of_kind, moved, next_ready, rest_turns}
use Rattle.bridge_rules.specs.Answers.{Buffers, Result, plain, unless, lent_number, right_lengths}

-- a waiting read one turn on: 20 turns after a send it is ready again, or after its third send has given up
unfoldable pub ticked : Slot → Slot
ticked x =
    moved x (cond (leb x.left 1) (cond (leb 3 x.sends) gave_up ready) waiting) x.progress x.sends (x.left - 1)

unfoldable pub aged : Slot → Slot
aged x = cond (is_waiting x.phase) (ticked x) x

-- a slot's turns left to rest, one turn on
abbrev pub lowered : ℕ → ℕ
lowered n = n - 1

-- of all slots: waiting ones alone change. Every rest above 0 goes down by one, of free and of held slots
unfoldable pub aged_bridge : Bridge → Bridge
aged_bridge s = record {
  slots = map aged s.slots;
  issued = s.issued;
  own = s.own;
  last = s.last;
  rests = map lowered s.rests;
}

-- a transfer goes in order, eight bytes a frame, the last shorter: the length of the part that starts at `progress`
unfoldable pub chunk_len : ℕ → ℕ → ℕ
chunk_len count progress = min 8 (count - progress)

-- a read sends REQ with reply table 6 and reply offset its place in the buffer
unfoldable pub read_frame : ℕ → ℕ → Slot → Frame
read_frame own k x =
    frame_with (id_of (x.offset + x.progress) req own x.device x.table)
    (request 6 (128 * k + x.progress) (chunk_len x.count x.progress))

-- a write sends CMD with the next of its bytes
unfoldable pub outgoing : ℕ → Slot → List ℕ → List ℕ
outgoing k x b = take (chunk_len x.count x.progress) (drop (128 * k + x.progress) b)

unfoldable pub write_frame : ℕ → ℕ → Slot → List ℕ → Frame
write_frame own k x b = frame_with (id_of (x.offset + x.progress) cmd own x.device x.table) (outgoing k x b)

-- the buffer whose bytes a slot of this kind carries: a checked write's are in the second
unfoldable pub carried_from : ℕ → Buffers → List ℕ
carried_from kind b = cond (checking kind) b.second b.first

unfoldable pub sent_frame : ℕ → ℕ → Slot → Buffers → Frame
sent_frame own k x b = cond (carries x.kind) (write_frame own k x (carried_from x.kind b)) (read_frame own k x)

-- past the current eight bytes: the next are ready with no sends counted, or the transfer is done
unfoldable pub advanced : Slot → Slot
advanced x = moved x (cond (ltb (x.progress + 8) x.count) ready done) (min (x.progress + 8) x.count) 0 0

-- a read that sent its REQ waits
unfoldable pub requested : Slot → Slot
requested x = moved x waiting x.progress (suc x.sends) 20

-- a checked write that sent its last CMD is ready to read "the same range back"
unfoldable pub read_back : Slot → Slot
read_back x = moved (of_kind reads_back x) ready 0 0 0

-- a write that sent its CMD is ready at once for the next, or done; a checked write is ready for the next, or to read back
unfoldable pub carried : Slot → Slot
carried x = cond (checking x.kind && leb x.count (x.progress + 8)) (read_back x) (advanced x)

unfoldable pub sent_slot : Slot → Slot
sent_slot x = cond (asks x.kind) (requested x) (carried x)

-- a slot that sent REQ, for the first time or again, rests 60 turns; CMD leaves its rest
unfoldable pub sent_rests : List ℕ → ℕ → Slot → List ℕ
sent_rests rests k x = cond (asks x.kind) (set rests k rest_turns) rests

-- it sends for one ready slot, or answers 0 with no frame if none is ready
unfoldable pub send_for : Bridge → Buffers → Option ℕ → Result
send_for s b none = record { answer = plain 0; state = s; buffers = b }
send_for s b (some k) = record {
  answer = record { number = 0; ticket = 0; sent = some (sent_frame s.own k (slot s k) b); shown = [] };
  state = record {
    slots = set s.slots k (sent_slot (slot s k));
    issued = s.issued;
    own = s.own;
    last = k;
    rests = sent_rests s.rests k (slot s k);
  };
  buffers = b;
}

-- a turn (refusals 11, 10) first ages each waiting read and each rest, then sends
unfoldable pub turn_of : Bridge → Buffers → Result
turn_of s b = unless (lent_number s (right_lengths b)) (send_for (aged_bridge s) b (next_ready (aged_bridge s))) s b

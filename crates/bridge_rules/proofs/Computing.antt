-- What a proof by computation may open: it says `unfolding everything`, and so opens every definition of the bridge's rules, of runs and of
-- the bus.
use Rattle.bus_rules.proofs.Computing.{bus}
use Rattle.bridge_rules.specs.State.{asks, carries, checking, compares, shows, ask_number, slot, fresh, sound_phase, sound_slot, sound_slots}
use Rattle.bridge_rules.specs.State.{rest, sound_rests, absent, distinct, sound, first_slot, lowest_free, lowest_givable, held_slot, next_ready}
use Rattle.bridge_rules.specs.Answers.{lent_number}
use Rattle.bridge_rules.specs.Opening.{room_number, open_number, opened, open_of}
use Rattle.bridge_rules.specs.Turn.{ticked, aged, aged_bridge, chunk_len, read_frame, outgoing, write_frame, carried_from, sent_frame, advanced}
use Rattle.bridge_rules.specs.Turn.{requested, read_back, carried, sent_slot, sent_rests, send_for, turn_of}
use Rattle.bridge_rules.specs.Incoming.{content_number, awaits, awaiting, reply_number, same_bytes, differs, differed, take_for, frame_of}
use Rattle.bridge_rules.specs.Ending.{phase_number, ticket_number, status_of, bytes_number, slot_span, span_of, bytes_of, close_number}
use Rattle.bridge_rules.specs.Ending.{close_of, reset_number, reset_of}
use Rattle.bridge_rules.specs.Call.{step}
use Rattle.bridge_rules.specs.Run.{storage, accepted, turns, slot_of, ledger, first_givable, slot_asked}
use Rattle.bridge_rules.specs.Replies.{command_frame, request_frame, matches_frame}
use Rattle.bridge_rules.specs.Device.{range}
use Rattle.bridge_rules.specs.Demand3.{join}

unfoldable kinds : Unit {0}
unfolding asks carries checking compares shows
kinds = tt

unfoldable state : Unit {0}
unfolding kinds ask_number slot rest fresh sound_phase sound_slot sound_slots sound_rests absent distinct sound first_slot lowest_free lowest_givable
    held_slot next_ready
state = tt

unfoldable openings : Unit {0}
unfolding lent_number room_number open_number opened open_of
openings = tt

unfoldable sending : Unit {0}
unfolding chunk_len read_frame outgoing write_frame carried_from sent_frame advanced requested read_back carried sent_slot sent_rests send_for
sending = tt

unfoldable turning : Unit {0}
unfolding ticked aged aged_bridge sending turn_of
turning = tt

unfoldable incoming : Unit {0}
unfolding content_number awaits awaiting reply_number same_bytes differs differed take_for frame_of
incoming = tt

unfoldable ending : Unit {0}
unfolding phase_number ticket_number status_of bytes_number slot_span span_of bytes_of close_number close_of reset_number reset_of
ending = tt

unfoldable calls : Unit {0}
unfolding openings turning incoming ending step
calls = tt

unfoldable runs : Unit {0}
unfolding storage accepted turns slot_of command_frame request_frame matches_frame range join ledger first_givable slot_asked
runs = tt

unfoldable pub everything : Unit {0}
unfolding bus state calls runs
everything = tt

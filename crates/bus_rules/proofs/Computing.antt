-- A proof by computation says `unfolding bus`, and so opens every definition of the bus, and those of wire that they stand on.
use Rattle.wire.specs.Order.{◌if◌else◌, ◌or_else◌}
use Rattle.wire.specs.Refusals.{checked, refusal_of}
use Rattle.bus_rules.specs.Ident.{id_spare, id_table, id_to, id_from, id_kind, id_offset, by_row, sum_of_rows, id_in, parts_of, in_rows, pack_number, pack_of}
use Rattle.bus_rules.specs.Ident.{unpack_number, unpack_of}
use Rattle.bus_rules.specs.Frames.{content, padded, frame_with, build_of, no_frame, head_number, receive_number, read_head_of}
use Rattle.bus_rules.specs.Request.{request_of, clear_of, read_request_of, request, request_bytes_number, wrote_request, request_bytes_of}
use Rattle.bus_rules.specs.Device.{size_of, right_of, start_of, total_of, sound_tables, sound_directory, directory_number, length_number}
use Rattle.bus_rules.specs.Device.{memory_number, range_of, copy_table, none_current, currently, is_current, known_family, sound_current, state_number}
use Rattle.bus_rules.specs.Device.{first_state_of, reloads, with_current}
use Rattle.bus_rules.specs.Holder.{command_number, request_number, burn_number, query_number, byte_of, read_at, request_at, by_kind, kind_number, device_number}
use Rattle.bus_rules.specs.Holder.{no_answer, answer_with, reply_to, acknowledgement, place_of, protocol, act_of, storing, burning, act_after}
use Rattle.bus_rules.specs.Holder.{serve_number, served_by, after_by, serve_of, device_after}

unfoldable pub orders : Unit {0}
unfolding ◌if◌else◌ ◌or_else◌ checked refusal_of
orders = tt

unfoldable pub identifiers : Unit {0}
unfolding id_spare id_table id_to id_from id_kind id_offset by_row sum_of_rows id_in parts_of in_rows pack_number pack_of unpack_number unpack_of
identifiers = tt

unfoldable pub frames : Unit {0}
unfolding content padded frame_with build_of no_frame head_number receive_number read_head_of
frames = tt

unfoldable pub requests : Unit {0}
unfolding request_of clear_of read_request_of request request_bytes_number wrote_request request_bytes_of
requests = tt

unfoldable pub devices : Unit {0}
unfolding size_of right_of start_of total_of sound_tables sound_directory directory_number length_number memory_number range_of copy_table
devices = tt

unfoldable pub states : Unit {0}
unfolding none_current currently is_current known_family sound_current state_number first_state_of reloads with_current
states = tt

unfoldable pub numbers : Unit {0}
unfolding command_number request_number burn_number query_number byte_of read_at request_at by_kind kind_number device_number serve_number
numbers = tt

unfoldable pub answers : Unit {0}
unfolding no_answer answer_with reply_to acknowledgement place_of protocol act_of storing burning act_after served_by after_by serve_of device_after
answers = tt

unfoldable pub bus : Unit {0}
unfolding orders identifiers frames requests devices states numbers answers
bus = tt

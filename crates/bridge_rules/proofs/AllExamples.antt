-- The examples, by computing them. It stands on no law, and its name comes first: a wrong definition is refused here, by what it makes of an
-- example, before it is by a law.
use mathlib.Core.Path.{refl}
use Rattle.bridge_rules.specs.Examples.{reply, numbers_of, sends_of, frames_of, statuses_of, silence, fetching, taking, reading_back, unplugged}
use Rattle.bridge_rules.specs.Examples.{dropping, three_kinds, closing, in_order, Unstarred, Fetched, ByTurns, Checked, Unplugged, Dropped}
use Rattle.bridge_rules.specs.Examples.{held_up, slowly, turns_among, SlowRead, SlowCheck, OwnBuffers, Ended, Limits, CheckedLimits}
use Rattle.bridge_rules.specs.Examples.{answered_late, four_closed, AnsweredLate, RestBegins, AllRest, RestLimits, Openings, ShortBuffers, Examples}
use Rattle.bridge_rules.proofs.Computing.{everything}

reckoned : Unstarred
unfolding everything silence sends_of
reckoned = record { sends = refl; not_yet = refl; given_up = refl; stays = refl; most = refl; too_many = refl; none = refl }

is_fetched : Fetched
unfolding everything fetching reply numbers_of frames_of
is_fetched = record { numbers = refl; requests = refl; kept = refl; hidden = refl; shown = refl; stored = refl; beside = refl }

by_turns_lem : ByTurns
unfolding everything taking frames_of
by_turns_lem = record { commands = refl }

is_checked : Checked
unfolding everything reading_back reply numbers_of sends_of frames_of statuses_of
is_checked = record {
  kept = refl;
  copied = refl;
  statuses = refl;
  sends = refl;
  frames = refl;
  numbers = refl;
  stored = refl;
  opened = refl;
  ended = refl;
  hidden = refl;
  shown = refl;
}

answered_late_lem : AnsweredLate
unfolding everything answered_late reply numbers_of frames_of
answered_late_lem = record {
  numbers = refl;
  requests = refl;
  shown = refl;
  closed = refl;
  asked = refl;
  replied = refl;
  again = refl;
  noted = refl;
  renoted = refl;
}

rest_begins_lem : RestBegins
unfolding everything silence taking reading_back reply
rest_begins_lem = record {
  asked = refl;
  held = refl;
  waited = refl;
  again = refl;
  written = refl;
  sending = refl;
  reads_back = refl;
  noted = refl;
  write_noted = refl;
}

all_rest_lem : AllRest
unfolding everything four_closed
all_rest_lem = record {
  held = refl;
  reads = refl;
  writes = refl;
  checks = refl;
  rests = refl;
  given = refl;
  found = refl;
}

is_unplugged : Unplugged
unfolding everything unplugged sends_of statuses_of
is_unplugged = record { sends = refl; statuses = refl; kept = refl; shown = refl }

is_dropped : Dropped
unfolding everything dropping reply numbers_of sends_of statuses_of
is_dropped = record {
  eighteen = refl;
  statuses = refl;
  numbers = refl;
  sends = refl;
  not_stored = refl;
  stored = refl;
  ended = refl;
  shown = refl;
}

slow_read_lem : SlowRead
unfolding everything slowly held_up turns_among
slow_read_lem = record { bound = refl; elapsed = refl; unfinished = refl; given_up = refl }

slow_check_lem : SlowCheck
unfolding everything slowly held_up turns_among
slow_check_lem = record { bound = refl; elapsed = refl; unfinished = refl; given_up = refl }

own_buffers_lem : OwnBuffers
unfolding everything three_kinds reply frames_of
own_buffers_lem = record {
  first = refl;
  slot_zero = refl;
  slot_one = refl;
  copied = refl;
  frames = refl;
  stored = refl;
  written = refl;
  checked = refl;
  shown = refl;
}

is_ended : Ended
unfolding everything closing numbers_of frames_of
is_ended = record { numbers = refl; next = refl; again = refl; requests = refl }

limits : Limits
unfolding everything
limits = record {
  waits = refl;
  readied = refl;
  whole = refl;
  given_up = refl;
  written = refl;
  unheld = refl;
  own_number = refl;
  last_served = refl;
  same_ticket = refl;
  no_ticket = refl;
  not_given = refl;
  no_device = refl;
  no_table = refl;
  past_table = refl;
  no_multiple = refl;
  not_done = refl;
  not_whole = refl;
  ready_sends = refl;
  no_sends = refl;
  many_sends = refl;
  no_turns = refl;
  many_turns = refl;
  gave_up_sends = refl;
  write_sends = refl;
  done_sends = refl;
  write_waits = refl;
  write_gives_up = refl;
  ready_turns = refl;
  free_turns = refl;
  no_phase = refl;
  no_kind = refl;
}

checked_limits_lem : CheckedLimits
unfolding everything
checked_limits_lem = record {
  sending = refl;
  readied = refl;
  waits = refl;
  whole = refl;
  given_up = refl;
  differs = refl;
  sending_done = refl;
  sending_ended = refl;
  sending_whole = refl;
  sending_waits = refl;
  sending_gives_up = refl;
  sending_differs = refl;
  sending_sends = refl;
  ready_whole = refl;
  ready_sends = refl;
  no_sends = refl;
  many_turns = refl;
  gave_up_sends = refl;
  done_sends = refl;
  read_differs = refl;
  write_differs = refl;
  differs_sends = refl;
  differs_turns = refl;
  differs_whole = refl;
  differs_within = refl;
}

rest_limits_lem : RestLimits
unfolding everything
rest_limits_lem = record { none = refl; most = refl; first = refl; second = refl; third = refl; fourth = refl }

openings : Openings
unfolding everything in_order
openings = record { reads = refl; writes = refl; checks = refl }

short_buffers_lem : ShortBuffers
unfolding everything
short_buffers_lem = record { whole = refl; first = refl; second = refl; kept_first = refl; kept_second = refl }

pub examples : Examples
examples = record {
  unstarred = reckoned;
  fetched = is_fetched;
  by_turns = by_turns_lem;
  checked = is_checked;
  unplugged = is_unplugged;
  dropped = is_dropped;
  slow_read = slow_read_lem;
  slow_check = slow_check_lem;
  own_buffers = own_buffers_lem;
  ended = is_ended;
  answered_late = answered_late_lem;
  rest_begins = rest_begins_lem;
  all_rest = all_rest_lem;
  limits = limits;
  checked_limits = checked_limits_lem;
  rest_limits = rest_limits_lem;
  openings = openings;
  short_buffers = short_buffers_lem;
}

use Rattle.std.proofs.Common.{◌≤◌, ◌*◌, ◌≡◌}
use Rattle.bus_rules.specs.Device.{start_of, sound_tables}
use Rattle.bus.proofs.holder.check_directory.Given as goal

abbrev pub invariant-loop-i : goal.invariant-loop-i
invariant-loop-i l = (l.total ≤ 65535 * l.i) × (l.sound ≡ sound_tables l.d l.i) × (l.total ≡ start_of l.d l.i)

use Rattle.std.proofs.Common.{◌≤◌, ◌*◌, ◌≡◌}
use Rattle.bus_rules.specs.Device.{start_of}
use Rattle.bus.proofs.holder.table_at.Given as goal

abbrev pub invariant-loop-size : goal.invariant-loop-size
invariant-loop-size l = (l.start ≤ 65535 * l.size-index) × (l.start ≡ start_of l.fn.d l.size-index)

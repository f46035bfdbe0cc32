-- What a frame addresses.
use Rattle.std.specs.Prelude.{◌≡◌}
use Rattle.bus_rules.specs.declared.Directory.{Directory}
use Rattle.bus_rules.specs.Device.{start_of, size_of}
use Rattle.bus_rules.specs.declared.Frame.{Frame}
use Rattle.bus_rules.specs.Holder.{table_of}
use Rattle.bus.specs.declared.holder.Addressed.{Addressed}

-- a table of this directory, and this frame
pub record Addresses (d : Directory) (f : Frame) (a : Addressed) : Type 0 where
  pub frame : a.received.frame ≡ f
  pub start : a.table.start ≡ start_of d (table_of f)
  pub size : a.table.size ≡ size_of d (table_of f)

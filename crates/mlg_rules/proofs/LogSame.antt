-- A file in the writer's layout, rewritten from what was read.
use Prim.Native.Nat.{suc}
use mathlib.Core.Path.{◌∙◌}
use native.Mathlib.Omega.{arith}
use lib.ListN.{length, take-append-drop}
use Rattle.mlg_rules.specs.Log.{log_of}
use Rattle.mlg_rules.specs.RoundTrip.{LogSame, log_bytes}
use Rattle.mlg_rules.proofs.HeaderSame.{accepted, fields_read, names_read, info_read, header_accepted, header_same, join}
use Rattle.mlg_rules.proofs.EntriesSame.{same_from}

pub log_same : LogSame
unfolding LogSame log_bytes log_of
log_same f h bytes e lay z r p =
    let ok = accepted f h e in
    let s = same_from h.size f bytes (suc (length f)) 0 h.begin ok.places.data_begins (omega arith) z r p in
    rw (fields_read f h ok, names_read f h ok, info_read f h ok)
    (header_accepted f h bytes ok lay, s.0, join (header_same f h bytes ok lay) s.1 ∙ take-append-drop h.begin f)

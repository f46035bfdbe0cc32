-- The header that is written from parts, by the definitions.
use Rattle.std.specs.Prelude.{ℕ, List}
use Rattle.mlg_rules.specs.Area.{area_of}
use Rattle.mlg_rules.specs.Writing.{header_for, header_bytes, lengths_number, write_header_number}
use Rattle.mlg_rules.specs.declared.Header.{Header}
use Rattle.mlg.specs.declared.header_writing.Parts.{Parts}

abbrev pub lengths_of : Parts → ℕ
lengths_of p = lengths_number p.version p.fields.now p.names.now p.info.now

abbrev pub number_of_parts : Parts → ℕ → ℕ
number_of_parts p room = write_header_number p.version p.time p.fields.now p.names.now p.info.now room

abbrev pub header_of : Parts → Header
header_of p = header_for p.version p.time p.fields.now p.names.now p.info.now

abbrev pub bytes_of : Parts → List ℕ
bytes_of p = header_bytes p.version p.time p.fields.now p.names.now p.info.now

abbrev pub area_of_parts : Parts → List ℕ
area_of_parts p = area_of p.names.now p.info.now

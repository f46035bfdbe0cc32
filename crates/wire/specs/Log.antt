-- What the logs MLG and FRD share: a block's counter, and what is handed out of a block; and parts of a file or a buffer.
use Rattle.std.specs.Prelude.{◌≡◌, ℕ, zero, suc, ◌%◌, List, take, drop, Result, Ok, Err}
pub use Rattle.wire.specs.declared.views.Span.{Span}
pub use Rattle.wire.specs.declared.views.Tally.{Tally}
use Rattle.wire.specs.declared.Extent.{Extent}
use Rattle.wire.specs.declared.Blocks.{Blocks}
use Rattle.wire.specs.declared.refusal.Refusal.{Refusal}
use Rattle.wire.specs.Refusals.{code, number_of}

-- the counter of a block after n earlier ones. 01 of FRD: "The counter is the number of earlier blocks, modulo 256"; of MLG it says "of both
-- kinds, modulo 255", but 02, C-12: "In 01 the MLG counter is now modulo 256, for reader, writer and listing."
unfoldable pub counter_after : ℕ → ℕ
counter_after n = n % 256

-- "A block is either data, a mark, the end, or a refusal", and of an FRD a time in place of a mark: the kind of an answer
abbrev pub data_kind : ℕ
data_kind = 0

abbrev pub mark_kind : ℕ
mark_kind = 1

abbrev pub time_kind : ℕ
time_kind = 1

abbrev pub end_kind : ℕ
end_kind = 2

abbrev pub refused_kind : ℕ
refused_kind = 3

-- what is found where the number is 0, else a refusal, which holds the number and the block's place
unfoldable pub judged : {A : Type 0} → (ℕ → ℕ → A) → ℕ → ℕ → A → A
judged refused zero place x = x
judged refused (suc n) place x = refused (suc n) place

-- a part's place and length, or a refusal: every other number in it is 0
unfoldable pub span_with : (number start len : ℕ) → Span
span_with zero start len = record { number = 0; start = start; len = len }
span_with (suc n) start len = record { number = suc n; start = 0; len = 0 }

-- a part's bytes
abbrev pub part_of : List ℕ → Span → List ℕ
part_of f s = take s.len (drop s.start f)

-- a part that is not refused, and whose bytes are these
abbrev pub Holds : List ℕ → Span → List ℕ → Type 0
Holds f s bytes = (s.number ≡ 0) × (part_of f s ≡ bytes)

-- the same as C sees it: the paper's number and values; in a refusal every other number is 0
abbrev pub as_span : Result Extent Refusal → Span
as_span (Ok p) = record { number = 0; start = p.start; len = p.len }
as_span (Err e) = record { number = code e; start = 0; len = 0 }

-- how many blocks, the number that ends them, and where
abbrev pub as_tally : Blocks → Tally
as_tally b = record { blocks = b.count; ending = number_of b.ending; place = b.place }

-- Where the parts of a template's text stand in its source.
use Rattle.std.specs.Prelude.{◌≤◌, ◌-◌, ℕ, List, length, slice_index}
use Rattle.lf_base.specs.declared.place.Span.{Span}

-- Entry k of `from` is the offset in the source of byte k of the text, and its last entry that of the text's end. So the bytes from `start` up to `end` of the text
-- stand there in the source:
abbrev pub in_source : List ℕ → ℕ → ℕ → Span
in_source from start end = record { start = slice_index from start; end = slice_index from end }

-- A span lies between the source of the text's first byte and that of its end.
abbrev pub LiesInSource : List ℕ → Span → Type 0
LiesInSource from span = (slice_index from 0 ≤ span.start) × (span.start ≤ span.end) × (span.end ≤ slice_index from (length from - 1))

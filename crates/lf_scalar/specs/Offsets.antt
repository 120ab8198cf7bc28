-- The offsets of a scalar's text.
use Rattle.std.specs.Prelude.{◌≡◌, ℕ, ◌+◌, ◌≤◌, List, length, get_or}
use Rattle.std.specs.List.Sorted.{IsNonDecreasing}
use Rattle.lf_base.specs.declared.place.Span.{Span}

-- One offset for each byte of a text and one for its end. None is less than one before it, and they lie in the scalar's place.
abbrev pub AreOffsets : List ℕ → List ℕ → Span → Type 0
AreOffsets text from place = (length from ≡ length text + 1) × IsNonDecreasing from × (place.start ≤ get_or from 0 0) × (get_or from (length text) 0 ≤ place.end)

-- What a replacement stands for at the text of a source, before it is set.
use Rattle.std.specs.Prelude.{Option, Some, None}
use Rattle.lf_ast.specs.Labels.{Bytes}
use Rattle.lf_pattern.specs.Matching.{Matches}
use Rattle.lf_semantics.specs.Strings.{Expands, Replacing}

-- the text that it stands for where the pattern matches the value, and None where it doesn't
abbrev pub IsExpanded : Replacing → Bytes → Option Bytes → Type 0
IsExpanded p value None = Matches p.pattern value → ⊥
IsExpanded p value (Some text) = Matches p.pattern value × Expands p value text

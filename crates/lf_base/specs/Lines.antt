-- Texts made of lines.
use Rattle.std.specs.Prelude.{List, [], ◌∷◌, ◌++◌}
use Rattle.std.specs.List.{flat_map}
use Rattle.lf_base.specs.Names.{Bytes}

-- each line ended by a line feed
abbrev pub lines_text : List Bytes → Bytes
lines_text lines = flat_map (λ line. line ++ 10 ∷ []) lines

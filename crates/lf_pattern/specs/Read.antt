-- Patterns as `regex` reads them.
use Rattle.std.specs.Prelude.{ℕ, Bool, false, List, [], ◌++◌, nat_le, Option, Some, None, is_some, option_and_then, if◌then◌else◌, codes, ◌==◌}
use Rattle.std.specs.Option.{option_map_or}
use Rattle.std.specs.Str.{chars}
use Rattle.regex.specs.Patterns.{Re, find_str, default_config}
use Rattle.regex.specs.Replace.{group_bytes}
use Rattle.regex_syntax.specs.Grammar.{read, Names}
use Rattle.regex_syntax.specs.Brackets.{Nested}

-- the text of a pattern that matches the whole value
abbrev pub anchored : List ℕ → List ℕ
anchored p = codes "^(?:" ++ p ++ codes ")$"

-- what was read, where it isn't nested too deep
abbrev pub within_limit : Nested Re × Names → Option Re
within_limit r = if nat_le r.0.depth 250 then Some r.0.value else None

-- what regex's grammar reads in `^(?:p)$`, or None where it refuses it for its syntax: it is no pattern, or nested too deep
unfoldable pub reading : List ℕ → Option Re
reading p = option_and_then within_limit (read default_config (chars (anchored p)))

-- regex's definition finds a match of `^(?:p)$` in the value
abbrev pub finds : List ℕ → List ℕ → Bool
finds p value = option_map_or (λ re. is_some (find_str re value 0)) (reading p) false

-- The text of group n where regex's definition finds a match: group 0 is the whole value, also where a pattern such as `a)|(b` breaks out of its parentheses
-- and matches a part alone. Any other group is nothing where there is no such group, and where it took no part.
abbrev pub found_group : List ℕ → List ℕ → ℕ → List ℕ
found_group p value n = if n == 0 then value else option_map_or (λ m. group_bytes value m n) (option_and_then (λ re. find_str re value 0) (reading p)) []

-- A way of reading strings in quotes, which defines nothing: where they close.
use Rattle.std.specs.Prelude.{ℕ, suc, List, [], ◌∷◌, Bool, false, not, ◌==◌, ◌&&◌, Option, Some, None, option_map, if◌then◌else◌}

-- whether a byte is the one before which a string has to close, where there is one
abbrev pub stops : Option ℕ → ℕ → Bool
stops None b = false
stops (Some stop) b = b == stop

-- How many bytes stand before the quote that closes, where one does before a byte that stops. `skip` says that a backslash stands before the first byte. A backslash takes the
-- byte behind it with it, so that this one closes nothing; but it may stop.
unfoldable pub closing : Option ℕ → ℕ → Bool → List ℕ → Option ℕ
closing stop quote skip [] = None
closing stop quote skip (b ∷ src) = if not skip && b == quote then Some 0 else if stops stop b then None else option_map suc (closing stop quote (not skip && b == 92) src)

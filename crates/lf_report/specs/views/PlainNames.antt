-- Bytes that a text shows as they are: how contracts see the code. It defines nothing.
use Rattle.std.specs.Prelude.{ℕ, Bool, not, nat_lt, ◌==◌, ◌||◌}

-- a byte that is no control character
abbrev pub is_plain : ℕ → Bool
is_plain b = not (nat_lt b 32 || b == 127)

-- The texts that the keys of a rule file take.
use Rattle.std.specs.Prelude.{◌≡◌, true, length, codes, ◌⊎◌, ◌≤◌}
use Rattle.std.specs.List.{list_all}
use Rattle.lf_base.specs.Names.{Bytes, is_digit}
use Rattle.lf_lex.specs.Durations.{IsDuration}

-- a length of time: a duration as expressions have them, or a single 0
abbrev pub IsTime : Bytes → Type 0
IsTime t = IsDuration t ⊎ (t ≡ codes "0")

-- a limit: one to nine digits
abbrev pub IsLimit : Bytes → Type 0
IsLimit t = (list_all is_digit t ≡ true) × (1 ≤ length t) × (length t ≤ 9)

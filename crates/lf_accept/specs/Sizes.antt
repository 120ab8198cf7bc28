-- Patterns that are too large to be read: it would take gigabytes, or minutes.
use Rattle.std.specs.Prelude.{ℕ, ◌+◌, ◌==◌, nat_lt, Bool, false, not, ◌&&◌, ◌||◌, cond, [], ◌∷◌, length}
use Rattle.std.specs.List.{list_any}
use Rattle.lf_ast.specs.Labels.{Bytes}
use Rattle.lf_ast.specs.Tree.{Tree}
use Rattle.lf_semantics.specs.Passing.{is_plain}
use Rattle.lf_accept.specs.Patterns.{patterns_in}

-- ---- what is counted of a pattern

-- behind a backslash one of `dDpPsSwW` names a class of Unicode's characters
unfoldable pub names_class : ℕ → Bool
names_class b = list_any (λ c. b == c) (100 ∷ 68 ∷ 112 ∷ 80 ∷ 115 ∷ 83 ∷ 119 ∷ 87 ∷ [])

-- how many classes a pattern names so. A backslash and the byte behind it belong together
abbrev pub class_count : Bytes → ℕ
class_count [] = 0
class_count (b ∷ []) = 0
class_count (b ∷ c ∷ cs) = cond (b == 92) (cond (names_class c) 1 0 + class_count cs) (class_count (c ∷ cs))

-- `(?` and a byte other than `:` begin a group with a name or with flags
abbrev pub begins_marked : Bytes → Bool
begins_marked [] = false
begins_marked (a ∷ []) = false
begins_marked (a ∷ b ∷ []) = false
begins_marked (a ∷ b ∷ c ∷ cs) = a == 40 && (b == 63 && not (c == 58))

-- how many such groups begin in a pattern
abbrev pub marked_count : Bytes → ℕ
marked_count [] = 0
marked_count (b ∷ bs) = cond (begins_marked (b ∷ bs)) 1 0 + marked_count bs

-- ---- the bounds

-- more than 4,096 classes, more than 1,024 groups with a name or flags, or more than 524,288 bytes of a pattern that isn't plain
abbrev pub is_too_large : Bytes → Bool
is_too_large pattern =
    nat_lt 4096 (class_count pattern) || (nat_lt 1024 (marked_count pattern) || (nat_lt 524288 (length pattern) && not (is_plain pattern)))

-- ---- the patterns of an expression

-- one of them is too large
abbrev pub has_large_pattern : Tree → Bool
has_large_pattern e = list_any is_too_large (patterns_in e)

-- The names of labels and metrics, and the bytes that they are made of. Letters and digits are those of ASCII.
use Rattle.std.specs.Prelude.{ℕ, ◌-◌, Bool, false, Option, Some, None, if◌then◌else◌, ◌&&◌, ◌||◌, ◌==◌, nat_le, List, [], ◌∷◌, codes}
use Rattle.std.specs.List.{list_all, list_any}

abbrev pub Bytes : Type 0
Bytes = List ℕ

-- 0 to 9
unfoldable pub is_digit : ℕ → Bool
is_digit b = nat_le 48 b && nat_le b 57

-- A to Z and a to z
unfoldable pub is_letter : ℕ → Bool
is_letter b = (nat_le 65 b && nat_le b 90) || (nat_le 97 b && nat_le b 122)

-- a digit, A to F, a to f
unfoldable pub is_hexadecimal : ℕ → Bool
is_hexadecimal b = is_digit b || (nat_le 65 b && nat_le b 70) || (nat_le 97 b && nat_le b 102)

-- what a digit of a hexadecimal number is worth
unfoldable pub hexadecimal_value : ℕ → Option ℕ
hexadecimal_value b =
    if nat_le 48 b && nat_le b 57 then Some (b - 48) else if nat_le 65 b && nat_le b 70 then Some (b - 55) else if nat_le 97 b && nat_le b 102 then Some (b - 87) else None

-- a letter or an underscore
unfoldable pub begins_label : ℕ → Bool
begins_label b = is_letter b || b == 95

-- the same, or a colon
unfoldable pub begins_metric : ℕ → Bool
begins_metric b = begins_label b || b == 58

-- behind the first a digit may stand too
unfoldable pub is_in_label : ℕ → Bool
is_in_label b = begins_label b || is_digit b

unfoldable pub is_in_metric : ℕ → Bool
is_in_metric b = begins_metric b || is_digit b

-- a label name, [a-zA-Z_][a-zA-Z0-9_]*
unfoldable pub is_label_name : Bytes → Bool
is_label_name [] = false
is_label_name (b ∷ bs) = begins_label b && list_all is_in_label bs

-- a metric name, [a-zA-Z_:][a-zA-Z0-9_:]*
unfoldable pub is_metric_name : Bytes → Bool
is_metric_name [] = false
is_metric_name (b ∷ bs) = begins_metric b && list_all is_in_metric bs

-- the label that holds the metric name
abbrev pub metric : Bytes
metric = codes "__name__"

-- there is a colon in a name, as recorded names have one by convention
abbrev pub has_colon : Bytes → Bool
has_colon name = list_any (λ b. b == 58) name

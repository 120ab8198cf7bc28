-- A way of reading runs, which defines nothing.
use Rattle.std.specs.Prelude.{ℕ, suc, ◌+◌, List, [], ◌∷◌, Bool, true, false, ◌==◌, ◌&&◌, ◌||◌, nat_le, take, drop, Option, Some, None, count_by, if◌then◌else◌}
use Rattle.std.specs.Option.{option_map_or}
use Rattle.std.specs.List.{prefix_len, list_any}
use Rattle.lf_lex.specs.Bytes.{are_some, is_dot, is_exponent, is_plus_minus, is_in_run, is_in_mantissa}
use Rattle.lf_base.specs.Names.{is_digit, is_hexadecimal}

-- e or E, and a sign
abbrev pub begins_signed : List ℕ → Bool
begins_signed [] = false
begins_signed (e ∷ []) = false
begins_signed (e ∷ s ∷ more) = is_exponent e && is_plus_minus s

-- How many bytes the run has: the longest row of digits, letters, underscores and dots; a sign right behind an e or E that follows only digits and dots is
-- one of the row.
unfoldable pub run_len : List ℕ → ℕ
run_len src =
    let front = prefix_len is_in_mantissa src in
    if begins_signed (drop front src) then front + 2 + prefix_len is_in_run (drop (front + 2) src) else prefix_len is_in_run src

-- ---- numbers

-- 0x or 0X and hexadecimal digits
unfoldable pub is_hexadecimal_number : List ℕ → Bool
is_hexadecimal_number [] = false
is_hexadecimal_number (z ∷ []) = false
is_hexadecimal_number (z ∷ x ∷ digits) = z == 48 && (x == 120 || x == 88) && are_some is_hexadecimal digits

-- digits with at most one dot, and at least one digit
unfoldable pub is_mantissa : List ℕ → Bool
is_mantissa front = list_any is_digit front && nat_le (count_by is_dot front) 1

-- digits, and perhaps a sign before them
abbrev pub are_signed : List ℕ → Bool
are_signed [] = false
are_signed (s ∷ digits) = if is_plus_minus s then are_some is_digit digits else are_some is_digit (s ∷ digits)

-- nothing, or an e or E and digits that perhaps have a sign
unfoldable pub is_exponent_part : List ℕ → Bool
is_exponent_part [] = true
is_exponent_part (e ∷ more) = is_exponent e && are_signed more

unfoldable pub is_decimal_number : List ℕ → Bool
is_decimal_number run = let front = prefix_len is_in_mantissa run in is_mantissa (take front run) && is_exponent_part (drop front run)

unfoldable pub is_number : List ℕ → Bool
is_number run = is_hexadecimal_number run || is_decimal_number run

-- ---- durations

-- the place of a unit of one letter in the order y w d h m s ms
unfoldable pub place_of_letter : ℕ → Option ℕ
place_of_letter b =
    if b == 121 then Some 0 else if b == 119 then Some 1 else if b == 100 then Some 2 else if b == 104 then Some 3 else if b == 109 then Some 4 else if b == 115 then Some 5 else None

abbrev pub one_letter : Option ℕ → Option (ℕ × ℕ)
one_letter None = None
one_letter (Some place) = Some (place, 1)

-- the unit at the front: its place in that order, and how many letters it has
unfoldable pub unit_at : List ℕ → Option (ℕ × ℕ)
unit_at [] = None
unit_at (b ∷ []) = one_letter (place_of_letter b)
unit_at (b ∷ c ∷ more) = if b == 109 && c == 115 then Some (6, 2) else one_letter (place_of_letter b)

abbrev pub before : ℕ → Option (List ℕ) → Option (List ℕ)
before place None = None
before place (Some places) = Some (place ∷ places)

abbrev pub with_unit : Option ℕ → Option (List ℕ) → Option (List ℕ)
with_unit None places = None
with_unit (Some place) places = before place places

-- The places of the units, where the text is parts, each digits and a unit. `begun` says that digits of its first part stand before it.
unfoldable pub units : Bool → List ℕ → Option (List ℕ)
units begun [] = if begun then None else Some []
units begun (b ∷ []) = if is_digit b then None else if begun then with_unit (place_of_letter b) (Some []) else None
units begun (b ∷ c ∷ more) =
    if is_digit b then units true (c ∷ more) else if begun then (if b == 109 && c == 115 then before 6 (units false more) else with_unit (place_of_letter b) (units false (c ∷ more))) else None

-- each place is above those before it, and none is below the least
abbrev pub rise : ℕ → List ℕ → Bool
rise least [] = true
rise least (place ∷ places) = nat_le least place && rise (suc place) places

-- Where a run is parts of digits and units: whether the units stand in their order, each at most once.
abbrev pub duration_order : List ℕ → Option Bool
duration_order run = option_map_or (λ places. Some (rise 0 places)) (units false run) None

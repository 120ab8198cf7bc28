-- The reading of numbers is the grammar of numbers.
use Rattle.std.proofs.Common.{◌≡◌, ℕ, ◌+◌, ◌<◌, ◌≤◌, Bool, true, false, ◌&&◌, ◌||◌, cond, eqb, List, [], ◌∷◌, ◌++◌, length, take, drop, Some, None, refl, ap, arith, sym, ◌∙◌, inl, inr, take-append-drop}
use Rattle.std.proofs.lemmas.List.{take_at, drop_at}
use Rattle.std.specs.Prelude.{count_by}
use Rattle.std.proofs.lemmas.Bool.{and_parts, and_from, or_cases, or_left, or_right, false≢true, ne_eqb, eqb-true, leb-true}
use Rattle.std.proofs.lemmas.Bool.Decides.{nat_tests}
use Rattle.std.proofs.lemmas.List.Sums.{sum_by-cons}
use Rattle.std.proofs.lemmas.List.Folds.{list_all-append}
use Rattle.std.specs.List.{prefix_len, list_all, list_any}
use Rattle.lf_lex.specs.Bytes.{are_some, is_dot, is_exponent, is_plus_minus, is_in_mantissa}
use Rattle.lf_base.specs.Names.{is_digit, is_hexadecimal}
use Rattle.lf_lex.specs.Runs.{IsHexadecimal, lower_x, upper_x, IsMantissa, no_dot, one_dot, IsExponent, no_exponent, unsigned_exponent, signed_exponent, IsNumberRun, hexadecimal_number, decimal_number}
use Rattle.lf_lex.specs.reading.Runs.{is_hexadecimal_number, is_mantissa, are_signed, is_exponent_part, is_decimal_number, is_number, place_of_letter, before, with_unit, units}
use Rattle.lf_base.proofs.Rows.{row_all, row_is}
use Rattle.lf_base.specs.Rows.{Stops}
use Rattle.lf_lex.proofs.RunLaws.{all_are, exponent_ends_mantissa}

digit_in_mantissa : (b : ℕ) → is_digit b ≡ true → is_in_mantissa b ≡ true
unfolding is_in_mantissa
digit_in_mantissa b h = rw h refl

digit_no_dot : (b : ℕ) → is_digit b ≡ true → is_dot b ≡ false
unfolding is_digit is_dot
digit_no_dot b h = grind (arith, nat_tests)

digit_no_sign : (b : ℕ) → is_digit b ≡ true → is_plus_minus b ≡ false
unfolding is_digit is_plus_minus
digit_no_sign b h = grind (arith, nat_tests)

some_all : (p : ℕ → Bool) (bs : List ℕ) → are_some p bs ≡ true → list_all p bs ≡ true
some_all p [] h = absurd (false≢true h)
some_all p (b ∷ bs) h = h

-- ---- mantissas

one_more_dot : (b : ℕ) (bs : List ℕ) → is_dot b ≡ true → count_by is_dot (b ∷ bs) ≡ 1 + count_by is_dot bs
one_more_dot b bs e =
    let one : cond (is_dot b) 1 0 ≡ 1 = rw e refl in
    sum_by-cons (λ (x : ℕ). cond (is_dot x) 1 0) b bs ∙ ap (λ (n : ℕ). n + count_by is_dot bs) one

no_more_dot : (b : ℕ) (bs : List ℕ) → is_dot b ≡ false → count_by is_dot (b ∷ bs) ≡ count_by is_dot bs
no_more_dot b bs e =
    let none : cond (is_dot b) 1 0 ≡ 0 = rw e refl in
    sum_by-cons (λ (x : ℕ). cond (is_dot x) 1 0) b bs ∙ ap (λ (n : ℕ). n + count_by is_dot bs) none ∙ omega arith

no_dots : (bs : List ℕ) → list_all is_digit bs ≡ true → count_by is_dot bs ≡ 0
no_dots [] h = refl
no_dots (b ∷ bs) h = let a = and_parts (is_digit b) (list_all is_digit bs) h in no_more_dot b bs (digit_no_dot b a.0) ∙ no_dots bs a.1

one_dot_count : (before behind : List ℕ) → list_all is_digit before ≡ true → list_all is_digit behind ≡ true → count_by is_dot (before ++ 46 ∷ behind) ≡ 1
unfolding is_dot
one_dot_count [] behind h k = one_more_dot 46 behind refl ∙ ap (λ (n : ℕ). 1 + n) (no_dots behind k)
one_dot_count (b ∷ before) behind h k = let a = and_parts (is_digit b) (list_all is_digit before) h in no_more_dot b (before ++ 46 ∷ behind) (digit_no_dot b a.0) ∙ one_dot_count before behind a.1 k

any_digit : (bs : List ℕ) → are_some is_digit bs ≡ true → list_any is_digit bs ≡ true
any_digit [] h = absurd (false≢true h)
any_digit (b ∷ bs) h = let a = and_parts (is_digit b) (list_all is_digit bs) h in rw a.0 refl

any_behind : (before behind : List ℕ) → list_all is_digit before ≡ true → list_all is_digit behind ≡ true → 0 < length before + length behind → list_any is_digit (before ++ 46 ∷ behind) ≡ true
unfolding is_digit
any_behind [] [] h k lt = absurd (omega arith)
any_behind [] (c ∷ behind) h k lt = let a = and_parts (is_digit c) (list_all is_digit behind) k in rw a.0 refl
any_behind (b ∷ before) behind h k lt = let a = and_parts (is_digit b) (list_all is_digit before) h in rw a.0 refl

dot_all : (before behind : List ℕ) → list_all is_digit before ≡ true → list_all is_digit behind ≡ true → list_all is_in_mantissa (before ++ 46 ∷ behind) ≡ true
unfolding is_in_mantissa is_dot is_digit
dot_all [] behind h k = all_are is_digit is_in_mantissa digit_in_mantissa behind k
dot_all (b ∷ before) behind h k = let a = and_parts (is_digit b) (list_all is_digit before) h in and_from (is_in_mantissa b) _ (digit_in_mantissa b a.0) (dot_all before behind a.1 k)

mantissa_all : (front : List ℕ) → IsMantissa front → list_all is_in_mantissa front ≡ true
mantissa_all front (no_dot h) = all_are is_digit is_in_mantissa digit_in_mantissa front (some_all is_digit front h)
mantissa_all front (one_dot before behind e h k lt) = rw e (dot_all before behind h k)

pub mantissa_read : (front : List ℕ) → IsMantissa front → is_mantissa front ≡ true
unfolding is_mantissa
mantissa_read front (no_dot h) = rw (any_digit front h, no_dots front (some_all is_digit front h)) refl
mantissa_read front (one_dot before behind e h k lt) = rw (e, any_behind before behind h k lt, one_dot_count before behind h k) refl

digit_or_dot : (b : ℕ) → is_in_mantissa b ≡ true → is_dot b ≡ false → is_digit b ≡ true
unfolding is_in_mantissa
digit_or_dot b h e = by (is_digit b) h
  where
    by : (t : Bool) → (t || is_dot b) ≡ true → t ≡ true
    by true h = refl
    by false h = absurd (false≢true (sym e ∙ h))

dot_is : (b : ℕ) → is_dot b ≡ true → b ≡ 46
unfolding is_dot
dot_is b h = eqb-true b 46 h

no_dot_digits : (bs : List ℕ) → list_all is_in_mantissa bs ≡ true → count_by is_dot bs ≤ 0 → list_all is_digit bs ≡ true
no_dot_digits [] h le = refl
no_dot_digits (b ∷ bs) h le = by (is_dot b) refl (λ k l. no_dot_digits bs k l)
  where
    a : (is_in_mantissa b ≡ true) × (list_all is_in_mantissa bs ≡ true)
    a = and_parts (is_in_mantissa b) (list_all is_in_mantissa bs) h

    by : (t : Bool) → is_dot b ≡ t → (list_all is_in_mantissa bs ≡ true → count_by is_dot bs ≤ 0 → list_all is_digit bs ≡ true) → list_all is_digit (b ∷ bs) ≡ true
    by true e again = let k = one_more_dot b bs e in absurd (omega arith)
    by false e again = let k = no_more_dot b bs e in and_from (is_digit b) (list_all is_digit bs) (digit_or_dot b a.0 e) (again a.1 (omega arith))

-- digits, or digits round one dot
pub data Split (front : List ℕ) : Type 0 where
  all_digits : list_all is_digit front ≡ true → Split front
  round_dot : (before behind : List ℕ) → front ≡ before ++ 46 ∷ behind → list_all is_digit before ≡ true → list_all is_digit behind ≡ true → Split front

split_more : (b : ℕ) (bs : List ℕ) → is_digit b ≡ true → Split bs → Split (b ∷ bs)
split_more b bs d (all_digits h) = all_digits (and_from (is_digit b) (list_all is_digit bs) d h)
split_more b bs d (round_dot before behind e h k) = round_dot (b ∷ before) behind (ap (λ (x : List ℕ). b ∷ x) e) (and_from (is_digit b) (list_all is_digit before) d h) k

split : (front : List ℕ) → list_all is_in_mantissa front ≡ true → count_by is_dot front ≤ 1 → Split front
split [] h le = all_digits refl
split (b ∷ bs) h le = by (is_dot b) refl (λ k l. split bs k l)
  where
    a : (is_in_mantissa b ≡ true) × (list_all is_in_mantissa bs ≡ true)
    a = and_parts (is_in_mantissa b) (list_all is_in_mantissa bs) h

    by : (t : Bool) → is_dot b ≡ t → (list_all is_in_mantissa bs ≡ true → count_by is_dot bs ≤ 1 → Split bs) → Split (b ∷ bs)
    by true e again = let k = one_more_dot b bs e in round_dot [] bs (ap (λ (x : ℕ). x ∷ bs) (dot_is b e)) refl (no_dot_digits bs a.1 (omega arith))
    by false e again = let k = no_more_dot b bs e in split_more b bs (digit_or_dot b a.0 e) (again a.1 (omega arith))

any_some : (p : ℕ → Bool) (bs : List ℕ) → list_all p bs ≡ true → list_any p bs ≡ true → are_some p bs ≡ true
any_some p [] h k = absurd (false≢true k)
any_some p (b ∷ bs) h k = h

some_side : (before behind : List ℕ) → list_any is_digit (before ++ 46 ∷ behind) ≡ true → 0 < length before + length behind
unfolding is_digit
some_side [] [] h = absurd (false≢true h)
some_side [] (c ∷ behind) h = omega arith
some_side (b ∷ before) behind h = omega arith

mantissa_by : (front : List ℕ) → list_any is_digit front ≡ true → Split front → IsMantissa front
mantissa_by front h (all_digits k) = no_dot (any_some is_digit front k h)
mantissa_by front h (round_dot before behind e k l) = one_dot before behind e k l (some_side before behind (rw e at h))

pub mantissa_is : (front : List ℕ) → list_all is_in_mantissa front ≡ true → is_mantissa front ≡ true → IsMantissa front
unfolding is_mantissa
mantissa_is front all h = let a = and_parts (list_any is_digit front) _ h in mantissa_by front a.0 (split front all (leb-true _ 1 a.1))

-- ---- exponents

signed_digits : (digits : List ℕ) → are_some is_digit digits ≡ true → are_signed digits ≡ true
signed_digits [] h = absurd (false≢true h)
signed_digits (d ∷ digits) h = let a = and_parts (is_digit d) (list_all is_digit digits) h in rw (digit_no_sign d a.0) h

pub exponent_read : (back : List ℕ) → IsExponent back → is_exponent_part back ≡ true
unfolding is_exponent_part
exponent_read back (no_exponent e) = rw e refl
exponent_read back (unsigned_exponent e digits s h k) = rw (s, h) (signed_digits digits k)
exponent_read back (signed_exponent e sign digits s h g k) = rw (s, h, g) k

exponent_stops : (back : List ℕ) → IsExponent back → Stops is_in_mantissa back
exponent_stops back (no_exponent e) = rw e refl
exponent_stops back (unsigned_exponent e digits s h k) = rw s (exponent_ends_mantissa e h)
exponent_stops back (signed_exponent e sign digits s h g k) = rw s (exponent_ends_mantissa e h)

signed_is : (e : ℕ) (more : List ℕ) → is_exponent e ≡ true → are_signed more ≡ true → IsExponent (e ∷ more)
signed_is e [] h k = absurd (false≢true k)
signed_is e (s ∷ digits) h k = by (is_plus_minus s) refl k
  where
    by : (t : Bool) → is_plus_minus s ≡ t → cond t (are_some is_digit digits) (are_some is_digit (s ∷ digits)) ≡ true → IsExponent (e ∷ s ∷ digits)
    by true g k = signed_exponent e s digits refl h g k
    by false g k = unsigned_exponent e (s ∷ digits) refl h k

pub exponent_is : (back : List ℕ) → is_exponent_part back ≡ true → IsExponent back
unfolding is_exponent_part
exponent_is [] h = no_exponent refl
exponent_is (e ∷ more) h = let a = and_parts (is_exponent e) (are_signed more) h in signed_is e more a.0 a.1

-- ---- numbers

decimal_read : (front back : List ℕ) → IsMantissa front → IsExponent back → is_decimal_number (front ++ back) ≡ true
unfolding is_decimal_number
decimal_read front back m e =
    let n : prefix_len is_in_mantissa (front ++ back) ≡ length front = row_is is_in_mantissa front back (mantissa_all front m) (exponent_stops back e) in
    rw (n, take_at front back (length front) refl, drop_at front back (length front) refl, mantissa_read front m, exponent_read back e) refl

hexadecimal_read : (run : List ℕ) → IsHexadecimal run → is_hexadecimal_number run ≡ true
unfolding is_hexadecimal_number
hexadecimal_read run (lower_x digits e h) = rw e h
hexadecimal_read run (upper_x digits e h) = rw e h

pub number_read : (run : List ℕ) → IsNumberRun run → is_number run ≡ true
unfolding is_number
number_read run (hexadecimal_number h) = or_left (is_hexadecimal_number run) (is_decimal_number run) (hexadecimal_read run h)
number_read run (decimal_number front back e m x) = or_right (is_hexadecimal_number run) (is_decimal_number run) (rw e (decimal_read front back m x))

hexadecimal_is : (run : List ℕ) → is_hexadecimal_number run ≡ true → IsHexadecimal run
unfolding is_hexadecimal_number
hexadecimal_is [] h = absurd (false≢true h)
hexadecimal_is (z ∷ []) h = absurd (false≢true h)
hexadecimal_is (z ∷ x ∷ digits) h =
    let a = and_parts (eqb z 48 && (eqb x 120 || eqb x 88)) (are_some is_hexadecimal digits) h in
    let b = and_parts (eqb z 48) (eqb x 120 || eqb x 88) a.0 in
    let zero_is : z ≡ 48 = eqb-true z 48 b.0 in
    elim (or_cases (eqb x 120) (eqb x 88) b.1) [
      | inl l ↦ lower_x digits (rw (zero_is, eqb-true x 120 l) refl) a.1
      | inr u ↦ upper_x digits (rw (zero_is, eqb-true x 88 u) refl) a.1
    ]

pub number_is : (run : List ℕ) → is_number run ≡ true → IsNumberRun run
unfolding is_number is_decimal_number
number_is run h = elim (or_cases (is_hexadecimal_number run) (is_decimal_number run) h) [
  | inl x ↦ hexadecimal_number (hexadecimal_is run x)
  | inr d ↦
      let n = prefix_len is_in_mantissa run in
      let a = and_parts (is_mantissa (take n run)) (is_exponent_part (drop n run)) d in
      decimal_number (take n run) (drop n run) (sym (take-append-drop n run)) (mantissa_is (take n run) (row_all is_in_mantissa run) a.0) (exponent_is (drop n run) a.1)
]

-- ---- no number is a duration

is_number_byte : ℕ → Bool
is_number_byte b = is_in_mantissa b || (is_exponent b || is_plus_minus b)

no_unit : (b : ℕ) → is_number_byte b ≡ true → place_of_letter b ≡ None
unfolding is_number_byte is_in_mantissa is_digit is_dot is_exponent is_plus_minus place_of_letter
no_unit b h =
    let y : b ≡ 121 → ⊥ = λ e. absurd (let k = rw e at h in false≢true k) in
    let w : b ≡ 119 → ⊥ = λ e. absurd (let k = rw e at h in false≢true k) in
    let d : b ≡ 100 → ⊥ = λ e. absurd (let k = rw e at h in false≢true k) in
    let u : b ≡ 104 → ⊥ = λ e. absurd (let k = rw e at h in false≢true k) in
    let m : b ≡ 109 → ⊥ = λ e. absurd (let k = rw e at h in false≢true k) in
    let s : b ≡ 115 → ⊥ = λ e. absurd (let k = rw e at h in false≢true k) in
    rw (ne_eqb b 121 y, ne_eqb b 119 w, ne_eqb b 100 d, ne_eqb b 104 u, ne_eqb b 109 m, ne_eqb b 115 s) refl

no_minutes : (b : ℕ) → is_number_byte b ≡ true → eqb b 109 ≡ false
unfolding is_number_byte is_in_mantissa is_digit is_dot is_exponent is_plus_minus
no_minutes b h = ne_eqb b 109 (λ e. let k = rw e at h in false≢true k)

no_units : (begun : Bool) (b : ℕ) (bs : List ℕ) → list_all is_number_byte (b ∷ bs) ≡ true → units begun (b ∷ bs) ≡ None
unfolding units
no_units begun b [] h = by (is_digit b) begun
  where
    n : place_of_letter b ≡ None
    n = no_unit b (and_parts (is_number_byte b) true h).0

    by : (t begun : Bool) → cond t None (cond begun (with_unit (place_of_letter b) (Some [])) None) ≡ None
    by true begun = refl
    by false true = rw n refl
    by false false = refl
no_units begun b (c ∷ more) h = by (is_digit b) begun (no_units true c more a.1)
  where
    a : (is_number_byte b ≡ true) × (list_all is_number_byte (c ∷ more) ≡ true)
    a = and_parts (is_number_byte b) (list_all is_number_byte (c ∷ more)) h

    n : place_of_letter b ≡ None
    n = no_unit b a.0

    by : (t begun : Bool) → units true (c ∷ more) ≡ None → cond t (units true (c ∷ more)) (cond begun (cond (eqb b 109 && eqb c 115) (before 6 (units false more)) (with_unit (place_of_letter b) (units false (c ∷ more)))) None) ≡ None
    by true begun again = again
    by false true again = rw (no_minutes b a.0, n) refl
    by false false again = refl

mantissa_byte : (b : ℕ) → is_in_mantissa b ≡ true → is_number_byte b ≡ true
unfolding is_number_byte
mantissa_byte b h = rw h refl

digit_byte : (b : ℕ) → is_digit b ≡ true → is_number_byte b ≡ true
digit_byte b h = mantissa_byte b (digit_in_mantissa b h)

exponent_byte : (b : ℕ) → is_exponent b ≡ true → is_number_byte b ≡ true
unfolding is_number_byte
exponent_byte b h = or_right (is_in_mantissa b) _ (or_left (is_exponent b) (is_plus_minus b) h)

sign_byte : (b : ℕ) → is_plus_minus b ≡ true → is_number_byte b ≡ true
unfolding is_number_byte
sign_byte b h = or_right (is_in_mantissa b) _ (or_right (is_exponent b) (is_plus_minus b) h)

exponent_bytes : (back : List ℕ) → IsExponent back → list_all is_number_byte back ≡ true
exponent_bytes back (no_exponent e) = rw e refl
exponent_bytes back (unsigned_exponent e digits s h k) = rw (s, exponent_byte e h) (all_are is_digit is_number_byte digit_byte digits (some_all is_digit digits k))
exponent_bytes back (signed_exponent e sign digits s h g k) = rw (s, exponent_byte e h, sign_byte sign g) (all_are is_digit is_number_byte digit_byte digits (some_all is_digit digits k))

some_bytes : (run : List ℕ) → list_all is_number_byte run ≡ true → 0 < length run → units false run ≡ None
some_bytes [] h lt = absurd (omega arith)
some_bytes (b ∷ bs) h lt = no_units false b bs h

no_x : (digits : List ℕ) → units false (48 ∷ 120 ∷ digits) ≡ None
unfolding units is_digit place_of_letter
no_x [] = refl
no_x (d ∷ digits) = refl

no_upper_x : (digits : List ℕ) → units false (48 ∷ 88 ∷ digits) ≡ None
unfolding units is_digit place_of_letter
no_upper_x [] = refl
no_upper_x (d ∷ digits) = refl

pub number_no_units : (run : List ℕ) → IsNumberRun run → 0 < length run → units false run ≡ None
number_no_units run (hexadecimal_number (lower_x digits e h)) lt = rw e (no_x digits)
number_no_units run (hexadecimal_number (upper_x digits e h)) lt = rw e (no_upper_x digits)
number_no_units run (decimal_number front back e m x) lt =
    let f = all_are is_in_mantissa is_number_byte mantissa_byte front (mantissa_all front m) in
    some_bytes run (rw e (list_all-append is_number_byte front back ∙ and_from _ _ f (exponent_bytes back x))) lt

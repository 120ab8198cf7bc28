-- Numbers, as they are parsed and written.
use Rattle.std.proofs.Common.{rules, inl, inr, ◌==◌, ◌≡◌, ◌≢◌, ◌≤◌, ◌<◌, ◌^◌, ℕ, zero, suc, Bool, true, false, List, [], ◌∷◌, length, get_or, Result, Ok, Err, refl, ◌∙◌, ap, sym, subst, arith, true≢false}
use Rattle.std.specs.Prelude.{decimal}
use Rattle.std.specs.Bool.{nat_eq}
use Rattle.std.specs.List.{starts_with}
use Rattle.std.specs.Str.Parse.{AllDigits, ParsesUnsigned, digits_value}
use Rattle.std.proofs.lemmas.Fmt.{decimal_digit, decimal-digits_value, decimal_injective, first_decimal, parse-decimal}
use Rattle.std.proofs.lemmas.Str.Parse.{IsNumeralModel, numerals_by_value, tells_digits, parse_plain}
use Rattle.std.proofs.lemmas.Bool.{and_left, cases_Bool, eqb-true}
use Rattle.lf_words.specs.Lint.{IsOperand}
use Rattle.lf_words.specs.Grammar.{IsDecimal}

own : IsNumeralModel (AllDigits 10) (digits_value 10)
own = numerals_by_value (AllDigits 10) tells_digits

abbrev Begins : List ℕ → ℕ → Bool
Begins w byte = starts_with nat_eq w (byte ∷ [])

first_other : (w : List ℕ) (byte : ℕ) → 0 < byte → Begins w byte ≡ false → get_or w 0 0 ≢ byte
first_other [] byte some f e = absurd (omega (arith, e))
first_other (x ∷ xs) byte some f e =
    let P : ℕ → Type 0 = λ b. Begins (b ∷ xs) byte ≡ false in let bad : Begins (byte ∷ xs) byte ≡ false = subst P e f in
    absurd (true≢false (sym (itself byte xs) ∙ bad))
  where
    itself : (b : ℕ) (xs : List ℕ) → Begins (b ∷ xs) b ≡ true
    itself b xs = search rules

begins_not : (w : List ℕ) (byte : ℕ) → get_or w 0 0 ≢ byte → Begins w byte ≡ false
begins_not [] byte n = refl
begins_not (x ∷ xs) byte n = elim (cases_Bool (byte == x)) [
  | inl t ↦ absurd (n (sym (eqb-true byte x t)))
  | inr f ↦ and_left (byte == x) _ f
]

-- what is parsed is written so
pub parsed_number : (highest : ℕ) (w : List ℕ) (n : ℕ) {E : Type 0} (r : Result ℕ E) → Begins w 43 ≡ false → Begins w 48 ≡ false → ParsesUnsigned 32 10 w r → r ≡ Ok n → n ≤ highest →
    IsDecimal highest w n
parsed_number highest w n {E} r plus lead_zero p ok le =
    let R : Result ℕ E → Type 0 = λ s. ParsesUnsigned 32 10 w s in
    let read = parse_plain own {E = E} 32 w (Ok n) (subst R ok p) (first_other w 43 (omega arith) plus) in
    let lead : get_or w 0 0 ≡ 48 → length w ≡ 1 = λ e. absurd (first_other w 48 (omega arith) lead_zero e) in
    let small : digits_value 10 w < 2 ^ 64 = omega (arith, read.0.2) in
    let is : w ≡ decimal n = sym (ap decimal read.1 ∙ decimal-digits_value own w read.0.0 read.0.1 lead small) in
    record { least = positive n is; most = le; written = is }
  where
    positive : (n : ℕ) → w ≡ decimal n → 1 ≤ n
    positive zero e = absurd (first_other w 48 (omega arith) lead_zero (ap (λ l. get_or l 0 0) (e ∙ decimal_digit 0 (omega arith))))
    positive (suc n) e = omega arith

-- a number in decimal begins with a digit other than 0
pub first_digit : {highest : ℕ} {w : List ℕ} {n : ℕ} → highest < 2 ^ 32 → IsDecimal highest w n → 48 < get_or w 0 0
first_digit {w} {n} fits i = let P : List ℕ → Type 0 = λ l. 48 < get_or l 0 0 in subst P (sym i.written) (first_decimal n i.least (omega (arith, i.most)))

pub number_begins : {highest : ℕ} {w : List ℕ} {n : ℕ} → highest < 2 ^ 32 → IsDecimal highest w n → (byte : ℕ) → byte ≤ 48 → Begins w byte ≡ false
number_begins {w} fits i byte low = begins_not w byte (λ e. absurd (omega (arith, first_digit fits i)))

-- so it is no option
pub number_operand : {highest : ℕ} {w : List ℕ} {n : ℕ} → highest < 2 ^ 32 → IsDecimal highest w n → IsOperand w
number_operand fits i = inl (number_begins fits i 45 (omega arith))

-- what is written so is parsed
pub number_parsed : (highest : ℕ) (w : List ℕ) (n : ℕ) {E : Type 0} (r : Result ℕ E) → highest < 2 ^ 32 → IsDecimal highest w n → ParsesUnsigned 32 10 w r → r ≡ Ok n
number_parsed highest w n r fits i p = parse-decimal 32 n w r (omega (arith, i.most)) (omega (arith, i.most)) i.written p

-- and is one number
pub one_number : {highest : ℕ} {w : List ℕ} {m n : ℕ} → highest < 2 ^ 32 → IsDecimal highest w m → IsDecimal highest w n → m ≡ n
one_number {m} {n} fits i j = decimal_injective m n (omega (arith, i.most)) (omega (arith, j.most)) (sym i.written ∙ j.written)

abbrev value_or_zero : {E : Type 0} → Result ℕ E → ℕ
value_or_zero (Ok n) = n
value_or_zero (Err e) = 0

pub parsed_one : {highest : ℕ} {w : List ℕ} {n : ℕ} {E : Type 0} (r : Result ℕ E) (m : ℕ) → highest < 2 ^ 32 → IsDecimal highest w n → ParsesUnsigned 32 10 w r → r ≡ Ok m → m ≡ n
parsed_one {highest} {w} {n} r m fits i p ok = ap value_or_zero (sym ok ∙ number_parsed highest w n r fits i p)

pub parsed_none : {highest : ℕ} {w : List ℕ} {n : ℕ} {E : Type 0} (r : Result ℕ E) (e : E) → highest < 2 ^ 32 → IsDecimal highest w n → ParsesUnsigned 32 10 w r → r ≡ Err e → ⊥
parsed_none {highest} {w} {n} r e fits i p q = absurd (other (sym q ∙ number_parsed highest w n r fits i p))
  where
    other : Err e ≡ Ok n → ⊥
    other q = cc

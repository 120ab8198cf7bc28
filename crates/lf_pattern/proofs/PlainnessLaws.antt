-- `passes` passes exactly the plain replacements.
use Rattle.std.proofs.Common.{◌≡◌, ◌≢◌, ℕ, ◌<◌, Bool, true, false, cond, ◌==◌, List, [], ◌∷◌, ◌++◌, refl, sym, ap, subst, ◌∙◌, arith, inl, inr, ◌⊎◌, true≢false, append_assoc, length-append}
use Rattle.std.specs.Prelude.{slice_index}
use Rattle.std.specs.Char.{digit_value}
use Rattle.std.specs.Str.Parse.{AllDigits, IsNumeral, digits_value}
use Rattle.std.proofs.lemmas.Bool.Decides.{nat_tests}
use Rattle.std.proofs.lemmas.Bool.{cond-true, cond-false, eqb-true}
use Rattle.std.proofs.lemmas.Int.Digits.{digits_push}
use Rattle.lf_pattern.specs.declared.replacement.ReplacementPiece.{ReplacementPiece}
use Rattle.lf_pattern.specs.declared.replacement.ReplacementPiece.TheVariants.{Char, Group}
use Rattle.lf_pattern.specs.declared.plainness.Check.{Check}
use Rattle.lf_pattern.specs.declared.plainness.Check.TheVariants.{Text, Dollar, Zero, Number, Brace, BracedZero, Braced, Wrong}
use Rattle.lf_pattern.specs.Replacement.{IsGroupNumber, BeginsApart, ReadsReplacement, end, other, dollar, number, braced}
use Rattle.lf_pattern.specs.reading.Plainness.{is_word, checked, may_end, passes}
use Rattle.lf_pattern.specs.ShapeScan.{is_digit}
use Rattle.lf_pattern.proofs.Digits.{digit-is, digit-below}

-- ---- what is plain passes

at_step : (m n : Check) (c : ℕ) (cs : List ℕ) → checked m c ≡ n → passes n cs ≡ true → passes m (c ∷ cs) ≡ true
at_step m n c cs e h = ap (λ (k : Check). passes k cs) e ∙ h

text-other : (c : ℕ) → c ≢ 36 → checked Text c ≡ Text
unfolding checked
text-other c h = cond-false (c == 36) _ _ (grind (arith, nat_tests))

dollar-digit : (c : ℕ) → digit_value c < 10 → checked Dollar c ≡ cond (c == 48) Zero Number
unfolding checked
dollar-digit c h = cond-false (c == 36) _ _ (grind (arith, nat_tests)) ∙ cond-false (c == 123) _ _ (grind (arith, nat_tests)) ∙ cond-true (is_digit c) _ _ (digit-is c h)

brace-digit : (c : ℕ) → digit_value c < 10 → checked Brace c ≡ cond (c == 48) BracedZero Braced
unfolding checked
brace-digit c h = cond-true (is_digit c) _ _ (digit-is c h)

number-digit : (c : ℕ) → digit_value c < 10 → checked Number c ≡ Number
unfolding checked
number-digit c h = cond-true (is_digit c) _ _ (digit-is c h)

braced-digit : (c : ℕ) → digit_value c < 10 → checked Braced c ≡ Braced
unfolding checked
braced-digit c h = cond-true (is_digit c) _ _ (digit-is c h)

not-digit : (c : ℕ) → is_word c ≡ false → is_digit c ≡ false
not-digit c h = grind (arith, nat_tests)

-- behind a number what isn't of a word is read as behind nothing
number-apart : (zero : Bool) (c : ℕ) → is_word c ≡ false → checked (cond zero Zero Number) c ≡ checked Text c
unfolding checked
number-apart true c h = cond-false (is_word c) _ _ h
number-apart false c h = cond-false (is_digit c) _ _ (not-digit c h) ∙ cond-false (is_word c) _ _ h

number-over : (zero : Bool) (cs : List ℕ) → BeginsApart cs → passes Text cs ≡ true → passes (cond zero Zero Number) cs ≡ true
number-over true [] apart h = refl
number-over false [] apart h = refl
number-over zero (c ∷ cs) apart h = ap (λ (k : Check). passes k cs) (number-apart zero c apart) ∙ h

number-digits : (ds cs : List ℕ) → AllDigits 10 ds → passes Number cs ≡ true → passes Number (ds ++ cs) ≡ true
number-digits [] cs h t = t
number-digits (d ∷ ds) cs h t = at_step Number Number d (ds ++ cs) (number-digit d h.0) (number-digits ds cs h.1 t)

braced-digits : (ds cs : List ℕ) → AllDigits 10 ds → passes Text cs ≡ true → passes Braced (ds ++ 125 ∷ cs) ≡ true
unfolding checked
braced-digits [] cs h t = t
braced-digits (d ∷ ds) cs h t = at_step Braced Braced d (ds ++ 125 ∷ cs) (braced-digit d h.0) (braced-digits ds cs h.1 t)

braced-over : (zero : Bool) (cs : List ℕ) → passes Text cs ≡ true → passes (cond zero BracedZero Braced) (125 ∷ cs) ≡ true
unfolding checked
braced-over true cs t = t
braced-over false cs t = t

-- a number that begins with 0 is 0
zero-alone : (d : ℕ) (ds : List ℕ) → (slice_index (d ∷ ds) 0 ≢ 48) ⊎ (d ∷ ds ≡ 48 ∷ []) → (ds ≡ []) ⊎ ((d == 48) ≡ false)
zero-alone d ds (inl h) = inr (let ne : d ≢ 48 = h in grind (arith, nat_tests))
zero-alone d ds (inr h) = inl cc

number-passes : (digits cs : List ℕ) (n : ℕ) → IsGroupNumber digits n → BeginsApart cs → passes Text cs ≡ true → passes Dollar (digits ++ cs) ≡ true
number-passes [] cs n is apart h = absurd (omega (arith, is.0.0))
number-passes (d ∷ ds) cs n is apart h = elim (zero-alone d ds is.1) [
  | inl e ↦
      let P : List ℕ → Type 0 = λ l. passes Dollar (d ∷ l ++ cs) ≡ true in
      subst P (sym e) (at_step Dollar (cond (d == 48) Zero Number) d cs (dollar-digit d is.0.1.0) (number-over (d == 48) cs apart h))
  | inr e ↦
      at_step Dollar Number d (ds ++ cs) (dollar-digit d is.0.1.0 ∙ ap (λ (b : Bool). cond b Zero Number) e) (number-digits ds cs is.0.1.1 (number-over false cs apart h))
]

braced-passes : (digits cs : List ℕ) (n : ℕ) → IsGroupNumber digits n → passes Text cs ≡ true → passes Brace (digits ++ 125 ∷ cs) ≡ true
braced-passes [] cs n is h = absurd (omega (arith, is.0.0))
braced-passes (d ∷ ds) cs n is h = elim (zero-alone d ds is.1) [
  | inl e ↦
      let P : List ℕ → Type 0 = λ l. passes Brace (d ∷ l ++ 125 ∷ cs) ≡ true in
      subst P (sym e) (at_step Brace (cond (d == 48) BracedZero Braced) d (125 ∷ cs) (brace-digit d is.0.1.0) (braced-over (d == 48) cs h))
  | inr e ↦
      at_step Brace Braced d (ds ++ 125 ∷ cs) (brace-digit d is.0.1.0 ∙ ap (λ (b : Bool). cond b BracedZero Braced) e) (braced-digits ds cs is.0.1.1 h)
]

pub plain-passes : {cs : List ℕ} {ps : List ReplacementPiece} → ReadsReplacement cs ps → passes Text cs ≡ true
unfolding checked
plain-passes end = refl
plain-passes (other {c} {cs} ne r) = at_step Text Text c cs (text-other c ne) (plain-passes r)
plain-passes (dollar r) = plain-passes r
plain-passes (number digits {cs} {n} is apart r) = number-passes digits cs n is apart (plain-passes r)
plain-passes (braced digits {cs} {n} is r) = braced-passes digits cs n is (plain-passes r)

-- ---- what passes is plain

abbrev IsPlainText : List ℕ → Type 0
IsPlainText cs = (ps : List ReplacementPiece) × ReadsReplacement cs ps

-- the digits of a number that doesn't begin with 0
abbrev IsLong : List ℕ → Type 0
IsLong digits = IsNumeral 10 digits × (slice_index digits 0 ≢ 48)

-- what is left in a mode
abbrev Left : Check → List ℕ → Type 0
Left Text cs = IsPlainText cs
Left Dollar cs = IsPlainText (36 ∷ cs)
Left Zero cs = IsPlainText (36 ∷ 48 ∷ cs)
Left Number cs = (digits : List ℕ) → IsLong digits → IsPlainText (36 ∷ digits ++ cs)
Left Brace cs = IsPlainText (36 ∷ 123 ∷ cs)
Left BracedZero cs = IsPlainText (36 ∷ 123 ∷ 48 ∷ cs)
Left Braced cs = (digits : List ℕ) → IsLong digits → IsPlainText (36 ∷ 123 ∷ digits ++ cs)
Left Wrong cs = ⊥

is_zero : IsGroupNumber (48 ∷ []) 0
is_zero = ((omega arith, (omega arith, tt)), inr refl, refl)

long-number : (digits : List ℕ) → IsLong digits → IsGroupNumber digits (digits_value 10 digits)
long-number digits h = (h.0, inl h.1, refl)

long-one : (c : ℕ) → is_digit c ≡ true → (c == 48) ≡ false → IsLong (c ∷ [])
long-one c h e = ((omega arith, (digit-below c h, tt)), λ (f : c ≡ 48). absurd (grind (arith, nat_tests)))

long-push : (digits : List ℕ) (c : ℕ) → IsLong digits → is_digit c ≡ true → IsLong (digits ++ c ∷ [])
long-push [] c h e = absurd (omega (arith, h.0.0))
long-push (d ∷ ds) c h e = ((omega (arith, length-append (d ∷ ds) (c ∷ [])), digits_push 10 (d ∷ ds) c h.0.1 (digit-below c e)), h.1)

module _ (cs : List ℕ) (later : (m : Check) → passes m cs ≡ true → Left m cs) where
  split : (T : Type 0) (b : Bool) (x y : Check) → (b ≡ true → passes x cs ≡ true → T) → (b ≡ false → passes y cs ≡ true → T) → passes (cond b x y) cs ≡ true → T
  split T true x y f g h = f refl h
  split T false x y f g h = g refl h

  left_text : (c : ℕ) → passes (checked Text c) cs ≡ true → IsPlainText (c ∷ cs)
  unfolding checked
  left_text c h =
      split (IsPlainText (c ∷ cs)) (c == 36) Dollar Text
      (λ e h. let D : ℕ → Type 0 = λ d. IsPlainText (d ∷ cs) in subst D (sym (eqb-true c 36 e)) (later Dollar h))
      (λ e h. let (ps, r) = later Text h in let ne : c ≢ 36 = λ (f : c ≡ 36). absurd (grind (arith, nat_tests)) in (Char c ∷ ps, other ne r)) h

  -- a number, and behind it what isn't of a word
  behind_number : (digits : List ℕ) (n c : ℕ) → IsGroupNumber digits n → is_word c ≡ false → passes (checked Text c) cs ≡ true → IsPlainText (36 ∷ digits ++ (c ∷ cs))
  behind_number digits n c is apart h = let (ps, r) = left_text c h in (Group n ∷ ps, number digits is apart r)

  left_dollar : (c : ℕ) → passes (checked Dollar c) cs ≡ true → IsPlainText (36 ∷ c ∷ cs)
  unfolding checked
  left_dollar c h =
      let T = IsPlainText (36 ∷ c ∷ cs) in
      let D : ℕ → Type 0 = λ d. IsPlainText (36 ∷ d ∷ cs) in
      split T (c == 36) _ _ (λ e h. let (ps, r) = later Text h in subst D (sym (eqb-true c 36 e)) (Char 36 ∷ ps, dollar r))
      (λ _ h. split T (c == 123) _ _ (λ e h. subst D (sym (eqb-true c 123 e)) (later Brace h))
      (λ _ h. split T (is_digit c) _ _
      (λ d h. split T (c == 48) _ _
      (λ e h. subst D (sym (eqb-true c 48 e)) (later Zero h))
      (λ e h. later Number h (c ∷ []) (long-one c d e)) h)
      (λ _ h. absurd (later Wrong h)) h) h) h

  left_zero : (c : ℕ) → passes (checked Zero c) cs ≡ true → IsPlainText (36 ∷ 48 ∷ c ∷ cs)
  unfolding checked
  left_zero c h =
      split (IsPlainText (36 ∷ 48 ∷ c ∷ cs)) (is_word c) _ _
      (λ _ h. absurd (later Wrong h))
      (λ e h. behind_number (48 ∷ []) 0 c is_zero e h) h

  left_number : (c : ℕ) → passes (checked Number c) cs ≡ true → (digits : List ℕ) → IsLong digits → IsPlainText (36 ∷ digits ++ (c ∷ cs))
  unfolding checked
  left_number c h digits long =
      let T = IsPlainText (36 ∷ digits ++ (c ∷ cs)) in
      split T (is_digit c) _ _
      (λ e h. let L : List ℕ → Type 0 = λ l. IsPlainText (36 ∷ l) in subst L (append_assoc digits (c ∷ []) cs) (later Number h (digits ++ c ∷ []) (long-push digits c long e)))
      (λ _ h. split T (is_word c) _ _
      (λ _ h. absurd (later Wrong h))
      (λ e h. behind_number digits (digits_value 10 digits) c (long-number digits long) e h) h) h

  left_brace : (c : ℕ) → passes (checked Brace c) cs ≡ true → IsPlainText (36 ∷ 123 ∷ c ∷ cs)
  unfolding checked
  left_brace c h =
      let T = IsPlainText (36 ∷ 123 ∷ c ∷ cs) in
      let D : ℕ → Type 0 = λ d. IsPlainText (36 ∷ 123 ∷ d ∷ cs) in
      split T (is_digit c) _ _
      (λ d h. split T (c == 48) _ _
      (λ e h. subst D (sym (eqb-true c 48 e)) (later BracedZero h))
      (λ e h. later Braced h (c ∷ []) (long-one c d e)) h)
      (λ _ h. absurd (later Wrong h)) h

  left_braced_zero : (c : ℕ) → passes (checked BracedZero c) cs ≡ true → IsPlainText (36 ∷ 123 ∷ 48 ∷ c ∷ cs)
  unfolding checked
  left_braced_zero c h =
      split (IsPlainText (36 ∷ 123 ∷ 48 ∷ c ∷ cs)) (c == 125) _ _
      (λ e h. let D : ℕ → Type 0 = λ d. IsPlainText (36 ∷ 123 ∷ 48 ∷ d ∷ cs) in let (ps, r) = later Text h in subst D (sym (eqb-true c 125 e)) (Group 0 ∷ ps, braced (48 ∷ []) is_zero r))
      (λ _ h. absurd (later Wrong h)) h

  left_braced : (c : ℕ) → passes (checked Braced c) cs ≡ true → (digits : List ℕ) → IsLong digits → IsPlainText (36 ∷ 123 ∷ digits ++ (c ∷ cs))
  unfolding checked
  left_braced c h digits long =
      let T = IsPlainText (36 ∷ 123 ∷ digits ++ (c ∷ cs)) in
      split T (is_digit c) _ _
      (λ e h. let L : List ℕ → Type 0 = λ l. IsPlainText (36 ∷ 123 ∷ l) in subst L (append_assoc digits (c ∷ []) cs) (later Braced h (digits ++ c ∷ []) (long-push digits c long e)))
      (λ _ h. split T (c == 125) _ _
      (λ e h. let D : ℕ → Type 0 = λ d. IsPlainText (36 ∷ 123 ∷ digits ++ (d ∷ cs)) in let (ps, r) = later Text h in
      subst D (sym (eqb-true c 125 e)) (Group (digits_value 10 digits) ∷ ps, braced digits (long-number digits long) r))
      (λ _ h. absurd (later Wrong h)) h) h

  wrong-stays : (c : ℕ) → passes (checked Wrong c) cs ≡ true → passes Wrong cs ≡ true
  unfolding checked
  wrong-stays c h = h

  left_step : (c : ℕ) (m : Check) → passes (checked m c) cs ≡ true → Left m (c ∷ cs)
  left_step c Text h = left_text c h
  left_step c Dollar h = left_dollar c h
  left_step c Zero h = left_zero c h
  left_step c Number h = left_number c h
  left_step c Brace h = left_brace c h
  left_step c BracedZero h = left_braced_zero c h
  left_step c Braced h = left_braced c h
  left_step c Wrong h = later Wrong (wrong-stays c h)

left_end : (m : Check) → may_end m ≡ true → Left m []
left_end Text h = ([], end)
left_end Zero h = (Group 0 ∷ [], number (48 ∷ []) is_zero tt end)
left_end Number h = λ digits long. (Group (digits_value 10 digits) ∷ [], number digits (long-number digits long) tt end)
left_end Dollar h = absurd (true≢false (sym h))
left_end Brace h = absurd (true≢false (sym h))
left_end BracedZero h = absurd (true≢false (sym h))
left_end Braced h = absurd (true≢false (sym h))
left_end Wrong h = absurd (true≢false (sym h))

left : (cs : List ℕ) (m : Check) → passes m cs ≡ true → Left m cs
left [] m h = left_end m h
left (c ∷ cs) m h = left_step cs (λ m. left cs m) c m h

pub passes-plain : (cs : List ℕ) → passes Text cs ≡ true → (ps : List ReplacementPiece) × ReadsReplacement cs ps
passes-plain cs h = left cs Text h

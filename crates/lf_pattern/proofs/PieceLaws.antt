-- `pieces_of` finds the pieces of a plain replacement.
use Rattle.std.proofs.Common.{◌≡◌, ℕ, ◌+◌, ◌*◌, ◌<◌, ◌≤◌, min, false, nat_lt, ◌==◌, List, [], ◌∷◌, ◌++◌, map, refl, sym, ap, ◌∙◌, arith}
use Rattle.std.specs.Char.{digit_value}
use Rattle.std.specs.Str.Parse.{AllDigits, digits_value_after}
use Rattle.std.proofs.lemmas.Bool.Decides.{nat_tests}
use Rattle.std.proofs.lemmas.Bool.{cond-true, cond-false}
use Rattle.lf_pattern.specs.declared.replacement.ReplacementPiece.{ReplacementPiece}
use Rattle.lf_pattern.specs.declared.replacement.ReplacementPiece.TheVariants.{Char, Group}
use Rattle.lf_pattern.specs.declared.replacement.ReplacementMode.{ReplacementMode}
use Rattle.lf_pattern.specs.declared.replacement.ReplacementMode.TheVariants.{Text, Dollar, Number, Braced}
use Rattle.lf_pattern.specs.Replacement.{IsGroupNumber, is_word, BeginsApart, ReadsReplacement, end, other, dollar, number, braced}
use Rattle.lf_pattern.specs.reading.Replacement.{greatest, with_digit, pieces_of, bounded}

-- a number ends at what is no digit
pub number-apart : (n c : ℕ) (cs : List ℕ) → nat_lt (digit_value c) 10 ≡ false → pieces_of (Number n) (c ∷ cs) ≡ Group n ∷ pieces_of Text (c ∷ cs)
unfolding pieces_of
number-apart n c cs h = cond-false (nat_lt (digit_value c) 10) _ _ h

pub number-digit : (n c : ℕ) (cs : List ℕ) → digit_value c < 10 → pieces_of (Number n) (c ∷ cs) ≡ pieces_of (Number (with_digit n c)) cs
unfolding pieces_of
number-digit n c cs h = cond-true (nat_lt (digit_value c) 10) _ _ (grind (arith, nat_tests))

pub number-end : (n : ℕ) → pieces_of (Number n) [] ≡ Group n ∷ []
unfolding pieces_of
number-end n = refl

-- at the end nothing but a number gives a piece
pub end-apart : (m : ReplacementMode) → ((n : ℕ) → m ≡ Number n → ⊥) → pieces_of m [] ≡ []
unfolding pieces_of
end-apart Text h = refl
end-apart Dollar h = refl
end-apart (Number n) h = absurd (h n refl)
end-apart (Braced n) h = refl

digit-range : (c : ℕ) → digit_value c < 10 → (48 ≤ c) × (c < 58)
digit-range c h = (grind (arith, nat_tests), grind (arith, nat_tests))

dollar-digit : (c : ℕ) (cs : List ℕ) → digit_value c < 10 → pieces_of Dollar (c ∷ cs) ≡ pieces_of (Number (digit_value c)) cs
unfolding pieces_of
dollar-digit c cs h =
    let (low, high) = digit-range c h in
    cond-false (c == 36) _ _ (grind (arith, nat_tests)) ∙ cond-false (c == 123) _ _ (grind (arith, nat_tests)) ∙ cond-true (nat_lt (digit_value c) 10) _ _ (grind (arith, nat_tests))

bounded-digit : (k v : ℕ) → min (min k greatest * 10 + v) greatest ≡ min (k * 10 + v) greatest
bounded-digit k v = omega arith

number-digits : (k : ℕ) (ds cs : List ℕ) → AllDigits 10 ds → pieces_of (Number (min k greatest)) (ds ++ cs) ≡ pieces_of (Number (min (digits_value_after 10 k ds) greatest)) cs
number-digits k [] cs h = refl
number-digits k (d ∷ ds) cs h =
    number-digit (min k greatest) d (ds ++ cs) h.0
    ∙ ap (λ (n : ℕ). pieces_of (Number n) (ds ++ cs)) (bounded-digit k (digit_value d))
    ∙ number-digits (k * 10 + digit_value d) ds cs h.1

braced-digits : (k : ℕ) (ds cs : List ℕ) → AllDigits 10 ds →
    pieces_of (Braced (min k greatest)) (ds ++ 125 ∷ cs) ≡ Group (min (digits_value_after 10 k ds) greatest) ∷ pieces_of Text cs
unfolding pieces_of
braced-digits k [] cs h = refl
braced-digits k (d ∷ ds) cs h =
    cond-true (nat_lt (digit_value d) 10) _ _ (let lt : digit_value d < 10 = h.0 in grind (arith, nat_tests))
    ∙ ap (λ (n : ℕ). pieces_of (Braced n) (ds ++ 125 ∷ cs)) (bounded-digit k (digit_value d))
    ∙ braced-digits (k * 10 + digit_value d) ds cs h.1

not-digit : (c : ℕ) → is_word c ≡ false → nat_lt (digit_value c) 10 ≡ false
not-digit c h = grind (arith, nat_tests)

number-over : (n : ℕ) (cs : List ℕ) → BeginsApart cs → pieces_of (Number n) cs ≡ Group n ∷ pieces_of Text cs
unfolding pieces_of
number-over n [] h = refl
number-over n (c ∷ cs) h = number-apart n c cs (not-digit c h)

small : (v : ℕ) → v < 10 → v ≡ min v greatest
small v h = omega arith

number-read : (digits cs : List ℕ) (n : ℕ) → IsGroupNumber digits n → BeginsApart cs → pieces_of Dollar (digits ++ cs) ≡ Group (min n greatest) ∷ pieces_of Text cs
number-read [] cs n h apart = absurd (omega (arith, h.0.0))
number-read (d ∷ ds) cs n h apart =
    let all = h.0.1 in
    let v = digit_value d in
    dollar-digit d (ds ++ cs) all.0
    ∙ ap (λ (k : ℕ). pieces_of (Number k) (ds ++ cs)) (small v all.0)
    ∙ number-digits v ds cs all.1
    ∙ number-over _ cs apart
    ∙ ap (λ (k : ℕ). Group (min k greatest) ∷ pieces_of Text cs) (ap (λ (k : ℕ). digits_value_after 10 k ds) (let e : v ≡ 0 * 10 + v = omega arith in e) ∙ sym h.2)

pub found_pieces : {cs : List ℕ} {ps : List ReplacementPiece} → ReadsReplacement cs ps → pieces_of Text cs ≡ map bounded ps
unfolding pieces_of
found_pieces end = refl
found_pieces (other {c} {cs} {ps} ne r) = cond-false (c == 36) _ _ (grind (arith, nat_tests)) ∙ ap (λ (l : List ReplacementPiece). Char c ∷ l) (found_pieces r)
found_pieces (dollar r) = ap (λ (l : List ReplacementPiece). Char 36 ∷ l) (found_pieces r)
found_pieces (number digits {cs} {n} {ps} is apart r) = number-read digits cs n is apart ∙ ap (λ (l : List ReplacementPiece). Group (min n greatest) ∷ l) (found_pieces r)
found_pieces (braced digits {cs} {n} {ps} is r) =
    braced-digits 0 digits cs is.0.1
    ∙ ap (λ (k : ℕ). Group (min k greatest) ∷ pieces_of Text cs) (sym is.2)
    ∙ ap (λ (l : List ReplacementPiece). Group (min n greatest) ∷ l) (found_pieces r)

-- A replacement has one list of pieces.
use Rattle.std.proofs.Common.{◌≡◌, ◌<◌, ℕ, false, nat_lt, List, [], ◌∷◌, ◌++◌, drop, get_or, refl, sym, ap, ap₂, ◌∙◌, subst, arith}
use Rattle.std.proofs.lemmas.Bool.Decides.{nat_tests}
use Rattle.std.specs.Char.{digit_value}
use Rattle.std.specs.Str.Parse.{AllDigits, digits_value}
use Rattle.lf_pattern.specs.declared.replacement.ReplacementPiece.{ReplacementPiece}
use Rattle.lf_pattern.specs.declared.replacement.ReplacementPiece.TheVariants.{Char, Group}
use Rattle.lf_pattern.specs.Replacement.{BeginsApart, HasPieces, IsGroupNumber, ReadsReplacement, end, other, dollar, number, braced}

same_first : (a b : ℕ) (xs ys : List ℕ) → a ∷ xs ≡ b ∷ ys → a ≡ b
same_first a b xs ys e = ap (λ (l : List ℕ). get_or l 0 0) e

same_rest : (a b : ℕ) (xs ys : List ℕ) → a ∷ xs ≡ b ∷ ys → xs ≡ ys
same_rest a b xs ys e = ap (λ (l : List ℕ). drop 1 l) e

-- no digit goes on
abbrev NoDigit : List ℕ → Type 0
NoDigit [] = Unit {0}
NoDigit (c ∷ cs) = nat_lt (digit_value c) 10 ≡ false

apart_no_digit : (cs : List ℕ) → BeginsApart cs → NoDigit cs
apart_no_digit [] h = tt
apart_no_digit (c ∷ cs) h = grind (arith, nat_tests)

digit_clash : (c : ℕ) → digit_value c < 10 → nat_lt (digit_value c) 10 ≡ false → ⊥
digit_clash c low high = grind (arith, nat_tests)

-- digits end where they end
digits_same : (xs ys us vs : List ℕ) → AllDigits 10 xs → AllDigits 10 ys → NoDigit us → NoDigit vs → xs ++ us ≡ ys ++ vs → (xs ≡ ys) × (us ≡ vs)
digits_same [] [] us vs dx dy na nb e = (refl, e)
digits_same [] (y ∷ ys) [] vs dx dy na nb e = absurd (cc)
digits_same [] (y ∷ ys) (u ∷ us) vs dx dy na nb e = absurd (digit_clash y dy.0 (subst (λ z. nat_lt (digit_value z) 10 ≡ false) (same_first u y us (ys ++ vs) e) na))
digits_same (x ∷ xs) [] us [] dx dy na nb e = absurd (cc)
digits_same (x ∷ xs) [] us (v ∷ vs) dx dy na nb e = absurd (digit_clash x dx.0 (subst (λ z. nat_lt (digit_value z) 10 ≡ false) (sym (same_first x v (xs ++ us) vs e)) nb))
digits_same (x ∷ xs) (y ∷ ys) us vs dx dy na nb e =
    let rest = digits_same xs ys us vs dx.1 dy.1 na nb (same_rest x y (xs ++ us) (ys ++ vs) e) in
    (ap₂ (λ (z : ℕ) (l : List ℕ). z ∷ l) (same_first x y (xs ++ us) (ys ++ vs) e) rest.0, rest.1)

-- a number begins with a digit, and so with no other character
begins_with_digit : (digits cs : List ℕ) (n c : ℕ) (ds : List ℕ) → IsGroupNumber digits n → digits ++ cs ≡ c ∷ ds → digit_value c < 10
begins_with_digit [] cs n c ds is e = absurd (omega (arith, is.0.0))
begins_with_digit (d ∷ digits) cs n c ds is e = subst (λ z. digit_value z < 10) (same_first d c (digits ++ cs) ds e) is.0.1.0

no_dollar : digit_value 36 < 10 → ⊥
no_dollar low = grind (arith, nat_tests)

no_brace : digit_value 123 < 10 → ⊥
no_brace low = grind (arith, nat_tests)

same_number : (xs ys : List ℕ) (n k : ℕ) → IsGroupNumber xs n → IsGroupNumber ys k → xs ≡ ys → n ≡ k
same_number xs ys n k one another e = one.2 ∙ ap (digits_value 10) e ∙ sym another.2

read_alike : {cs ds : List ℕ} {ps qs : List ReplacementPiece} → ReadsReplacement cs ps → ReadsReplacement ds qs → cs ≡ ds → ps ≡ qs
read_alike end end e = refl
read_alike end (other ne r) e = absurd (cc)
read_alike end (dollar r) e = absurd (cc)
read_alike end (number digits is apart r) e = absurd (cc)
read_alike end (braced digits is r) e = absurd (cc)
read_alike (other ne r) end e = absurd (cc)
read_alike (other {c} {cs} ne r) (other {c = d} {cs = ds} apart_too s) e = ap₂ (λ (z : ℕ) (l : List ReplacementPiece). Char z ∷ l) (same_first c d cs ds e) (read_alike r s (same_rest c d cs ds e))
read_alike (other {c} {cs} ne r) (dollar {cs = ds} s) e = absurd (ne (same_first c 36 cs (36 ∷ ds) e))
read_alike (other {c} {cs} ne r) (number digits {cs = ds} is apart s) e = absurd (ne (same_first c 36 cs (digits ++ ds) e))
read_alike (other {c} {cs} ne r) (braced digits {cs = ds} is s) e = absurd (ne (same_first c 36 cs (123 ∷ digits ++ 125 ∷ ds) e))
read_alike (dollar r) end e = absurd (cc)
read_alike (dollar {cs} r) (other {c = d} {cs = ds} apart_too s) e = absurd (apart_too (sym (same_first 36 d (36 ∷ cs) ds e)))
read_alike (dollar {cs} r) (dollar {cs = ds} s) e = ap (λ (l : List ReplacementPiece). Char 36 ∷ l) (read_alike r s (same_rest 36 36 cs ds (same_rest 36 36 (36 ∷ cs) (36 ∷ ds) e)))
read_alike (dollar {cs} r) (number digits {cs = ds} {n} is apart s) e = absurd (no_dollar (begins_with_digit digits ds n 36 cs is (sym (same_rest 36 36 (36 ∷ cs) (digits ++ ds) e))))
read_alike (dollar {cs} r) (braced digits {cs = ds} is s) e = absurd (let f : 36 ≡ 123 = same_first 36 123 cs (digits ++ 125 ∷ ds) (same_rest 36 36 (36 ∷ cs) (123 ∷ digits ++ 125 ∷ ds) e) in omega (arith, f))
read_alike (number digits is apart r) end e = absurd (cc)
read_alike (number digits {cs} is apart r) (other {c = d} {cs = ds} apart_too s) e = absurd (apart_too (sym (same_first 36 d (digits ++ cs) ds e)))
read_alike (number digits {cs} {n} is apart r) (dollar {cs = ds} s) e = absurd (no_dollar (begins_with_digit digits cs n 36 ds is (same_rest 36 36 (digits ++ cs) (36 ∷ ds) e)))
read_alike (number digits {cs} {n} {ps} is apart r) (number more {cs = ds} {n = k} also too s) e =
    let same = digits_same digits more cs ds is.0.1 also.0.1 (apart_no_digit cs apart) (apart_no_digit ds too) (same_rest 36 36 (digits ++ cs) (more ++ ds) e) in
    ap₂ (λ (z : ℕ) (l : List ReplacementPiece). Group z ∷ l) (same_number digits more n k is also same.0) (read_alike r s same.1)
read_alike (number digits {cs} {n} is apart r) (braced more {cs = ds} also s) e = absurd (no_brace (begins_with_digit digits cs n 123 (more ++ 125 ∷ ds) is (same_rest 36 36 (digits ++ cs) (123 ∷ more ++ 125 ∷ ds) e)))
read_alike (braced digits is r) end e = absurd (cc)
read_alike (braced digits {cs} is r) (other {c = d} {cs = ds} apart_too s) e = absurd (apart_too (sym (same_first 36 d (123 ∷ digits ++ 125 ∷ cs) ds e)))
read_alike (braced digits {cs} is r) (dollar {cs = ds} s) e = absurd (let f : 123 ≡ 36 = same_first 123 36 (digits ++ 125 ∷ cs) ds (same_rest 36 36 (123 ∷ digits ++ 125 ∷ cs) (36 ∷ ds) e) in omega (arith, f))
read_alike (braced digits {cs} is r) (number more {cs = ds} {n = k} also too s) e = absurd (no_brace (begins_with_digit more ds k 123 (digits ++ 125 ∷ cs) also (sym (same_rest 36 36 (123 ∷ digits ++ 125 ∷ cs) (more ++ ds) e))))
read_alike (braced digits {cs} {n} is r) (braced more {cs = ds} {n = k} also s) e =
    let inner = same_rest 123 123 (digits ++ 125 ∷ cs) (more ++ 125 ∷ ds) (same_rest 36 36 (123 ∷ digits ++ 125 ∷ cs) (123 ∷ more ++ 125 ∷ ds) e) in
    let same = digits_same digits more (125 ∷ cs) (125 ∷ ds) is.0.1 also.0.1 (grind (arith, nat_tests)) (grind (arith, nat_tests)) inner in
    ap₂ (λ (z : ℕ) (l : List ReplacementPiece). Group z ∷ l) (same_number digits more n k is also same.0) (read_alike r s (same_rest 125 125 cs ds same.1))

-- the pieces of a plain replacement are one list
pub one_list_of_pieces : (replacement : List ℕ) (ps qs : List ReplacementPiece) → HasPieces replacement ps → HasPieces replacement qs → ps ≡ qs
one_list_of_pieces replacement ps qs one another = read_alike one another refl

-- Plain replacements and what they expand to. A replacement is a list of characters.
use Rattle.std.specs.Prelude.{◌≡◌, ◌≢◌, ℕ, Bool, false, not, ◌||◌, ◌==◌, List, [], ◌∷◌, ◌++◌, Option, Some, None, encode_utf8, slice_index, ◌⊎◌}
use Rattle.std.specs.Char.{is_ascii, is_ascii_alphanumeric}
use Rattle.std.specs.Str.{chars}
use Rattle.std.specs.Str.Parse.{IsNumeral, digits_value}
use Rattle.lf_pattern.specs.Matching.{Matches, IsGroupText}
use Rattle.lf_pattern.specs.declared.replacement.ReplacementPiece.{ReplacementPiece}
use Rattle.lf_pattern.specs.declared.replacement.ReplacementPiece.TheVariants.{Char, Group}

-- these are the digits 0 to 9 of the number n, at least one: `0` alone, or digits of which the first isn't 0
abbrev pub IsGroupNumber : List ℕ → ℕ → Type 0
IsGroupNumber digits n = IsNumeral 10 digits × ((slice_index digits 0 ≢ 48) ⊎ (digits ≡ 48 ∷ [])) × (n ≡ digits_value 10 digits)

-- A group's name goes on with it: an ASCII letter or digit, `_`, or a character beyond ASCII, of which Prometheus takes the letters and digits into the name.
abbrev pub is_word : ℕ → Bool
is_word c = is_ascii_alphanumeric c || (c == 95 || not (is_ascii c))

-- the characters don't begin with one of these
abbrev pub BeginsApart : List ℕ → Type 0
BeginsApart [] = Unit {0}
BeginsApart (c ∷ cs) = is_word c ≡ false

-- `ReadsReplacement cs pieces`: a plain replacement holds `$` only as `$$`, which stands for `$`, and as `$n` and `${n}`, which stand for a group; `$n` isn't followed by a character
-- with which a name goes on. Every other character stands for itself.
pub data ReadsReplacement : List ℕ → List ReplacementPiece → Type 0 where
  end : ReadsReplacement [] []
  other : {c : ℕ} {cs : List ℕ} {ps : List ReplacementPiece} → c ≢ 36 → ReadsReplacement cs ps → ReadsReplacement (c ∷ cs) (Char c ∷ ps)
  dollar : {cs : List ℕ} {ps : List ReplacementPiece} → ReadsReplacement cs ps → ReadsReplacement (36 ∷ 36 ∷ cs) (Char 36 ∷ ps)
  number : (digits : List ℕ) {cs : List ℕ} {n : ℕ} {ps : List ReplacementPiece} → IsGroupNumber digits n → BeginsApart cs → ReadsReplacement cs ps → ReadsReplacement (36 ∷ digits ++ cs) (Group n ∷ ps)
  braced : (digits : List ℕ) {cs : List ℕ} {n : ℕ} {ps : List ReplacementPiece} → IsGroupNumber digits n → ReadsReplacement cs ps → ReadsReplacement (36 ∷ 123 ∷ digits ++ 125 ∷ cs) (Group n ∷ ps)

-- a text is a plain replacement of these pieces
abbrev pub HasPieces : List ℕ → List ReplacementPiece → Type 0
HasPieces replacement ps = ReadsReplacement (chars replacement) ps

-- a text is a plain replacement
abbrev pub IsPlainReplacement : List ℕ → Type 0
IsPlainReplacement replacement = (ps : List ReplacementPiece) × HasPieces replacement ps

-- what a piece stands for where the pattern matches the value
abbrev pub IsPieceText : List ℕ → List ℕ → ReplacementPiece → List ℕ → Type 0
IsPieceText p value (Char c) text = text ≡ encode_utf8 c
IsPieceText p value (Group n) text = IsGroupText p value n text

-- what pieces stand for, one behind the other
abbrev pub IsTextOf : List ℕ → List ℕ → List ReplacementPiece → List ℕ → Type 0
IsTextOf p value [] text = text ≡ []
IsTextOf p value (piece ∷ ps) text =
    (first rest : List ℕ) × IsPieceText p value piece first × IsTextOf p value ps rest × (text ≡ first ++ rest)

-- the expansion of a replacement's pieces: their text where the pattern matches the value, and None where it doesn't
abbrev pub IsExpansion : List ℕ → List ℕ → List ReplacementPiece → Option (List ℕ) → Type 0
IsExpansion p value ps None = Matches p value → ⊥
IsExpansion p value ps (Some text) = Matches p value × IsTextOf p value ps text

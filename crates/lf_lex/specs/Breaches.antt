-- What can't stand at the front of a text.
use Rattle.std.specs.Prelude.{◌≡◌, ◌⊎◌, ℕ, ◌+◌, List, [], ◌∷◌, ◌++◌, length, Bool, true}
use Rattle.std.specs.List.{flat_map, AllByRecursion}
use Rattle.std.specs.Str.{IsUtf8}
use Rattle.lf_base.specs.declared.kind.Kind.{Kind}
use Rattle.lf_base.specs.declared.kind.Kind.TheVariants.{BadByte, OpenString, BadEscape, BadNumber, BadDuration}
use Rattle.lf_lex.specs.declared.token.Sign.{Sign}
use Rattle.lf_base.specs.Rows.{is_no_back_quote, Each}
use Rattle.lf_lex.specs.Bytes.{is_blank, is_continuation}
use Rattle.lf_lex.specs.Signs.{spelling}
use Rattle.lf_lex.specs.Runs.{IsRun, IsNumberRun}
use Rattle.lf_lex.specs.Durations.{Amount, AreAmounts, IsDisordered}
use Rattle.lf_lex.specs.Strings.{IsQuote, StringRaw, raw, IsStringRaw, IsStringInner, IsEscape, StringPiece, piece_text, meant, IsStringPiece}
use Rattle.lf_lex.specs.Lexemes.{IsLongest, IsWord, EndsLine}

-- ---- a character that begins nothing

-- what lexemes begin with
pub data IsBeginning (inside : Bool) (text : List ℕ) : Type 0 where
  a_blank : (b : ℕ) → text ≡ b ∷ [] → is_blank b ≡ true → IsBeginning inside text
  a_comment : text ≡ 35 ∷ [] → IsBeginning inside text
  a_word : IsWord inside text → IsBeginning inside text
  a_run : IsRun text → IsBeginning inside text
  a_quote : (q : ℕ) → text ≡ q ∷ [] → IsQuote q → IsBeginning inside text
  a_back_quote : text ≡ 96 ∷ [] → IsBeginning inside text
  a_sign : (s : Sign) → text ≡ spelling s → IsBeginning inside text

-- a character of UTF-8: a byte and those that continue it
abbrev pub IsCharacter : List ℕ → Type 0
IsCharacter [] = ⊥
IsCharacter (b ∷ more) = Each is_continuation more

-- The text begins with a character of `len` bytes, and with nothing that a lexeme begins with.
pub record BeginsNothing (inside : Bool) (src : List ℕ) (len : ℕ) : Type 0 where
  pub nothing : (text rest : List ℕ) → src ≡ text ++ rest → IsBeginning inside text → ⊥
  pub character : List ℕ
  pub rest : List ℕ
  pub source : src ≡ character ++ rest
  pub whole : IsLongest IsCharacter character rest
  pub len_is : len ≡ length character

-- ---- a string that doesn't close

-- the end or a line feed, perhaps behind a backslash
pub data StopsString (rest : List ℕ) : Type 0 where
  line_ends : EndsLine rest → StopsString rest
  backslash_first : (more : List ℕ) → rest ≡ 92 ∷ more → EndsLine more → StopsString rest

-- The text begins with a quote, and its string meets the line's end or, in back quotes, the text's.
pub data StaysOpen (src : List ℕ) : Type 0 where
  in_quotes : (quote : ℕ) (raws : List StringRaw) (rest : List ℕ) →
      IsQuote quote → src ≡ quote ∷ (flat_map raw raws ++ rest) → AllByRecursion (IsStringRaw quote) raws → StopsString rest →
      StaysOpen src
  in_back_quotes : (rest : List ℕ) → src ≡ 96 ∷ rest → Each is_no_back_quote rest → StaysOpen src

-- ---- an escape that is wrong

-- a backslash with which no escape begins
abbrev pub BeginsNoEscape : ℕ → List ℕ → Type 0
BeginsNoEscape quote [] = ⊥
BeginsNoEscape quote (b ∷ src) = (b ≡ 92) × ((tail bytes rest : List ℕ) → src ≡ tail ++ rest → IsEscape quote tail bytes → ⊥)

-- Between the quotes stand pieces up to `rest`: the end, or a backslash with which no escape begins.
pub record ReadsUpTo (quote : ℕ) (inner : List ℕ) (pieces : List StringPiece) (rest : List ℕ) : Type 0 where
  pub each : AllByRecursion (IsStringPiece quote) pieces
  pub source : inner ≡ flat_map piece_text pieces ++ rest
  pub stops : (rest ≡ []) ⊎ BeginsNoEscape quote rest

-- The place of the first thing between the quotes that is wrong.
pub data IsWrongAt (quote : ℕ) (inner : List ℕ) (place : ℕ) : Type 0 where
  -- A backslash with which no escape begins, where what stands before it stands for UTF-8.
  no_escape : (pieces : List StringPiece) (rest : List ℕ) →
      ReadsUpTo quote inner pieces rest → BeginsNoEscape quote rest → IsUtf8 (flat_map meant pieces) → place ≡ length (flat_map piece_text pieces) →
      IsWrongAt quote inner place
  -- The piece that gives the byte with which the value ceases to be UTF-8: up to `byte` it is UTF-8, and no longer beginning of it is. (In a text that is UTF-8
  -- this piece is an escape, as the law `wrong_escapes` says.)
  no_utf8 : (before : List StringPiece) (piece : StringPiece) (later : List StringPiece) (rest front : List ℕ) (byte : ℕ) (back : List ℕ) →
      ReadsUpTo quote inner (before ++ piece ∷ later) rest → meant piece ≡ front ++ byte ∷ back →
      IsLongest IsUtf8 (flat_map meant before ++ front) (byte ∷ (back ++ flat_map meant later)) → place ≡ length (flat_map piece_text before) →
      IsWrongAt quote inner place

-- The text begins with a string that closes, and in which the escape at this place of the text is wrong.
pub record HasWrongEscape (src : List ℕ) (place : ℕ) : Type 0 where
  pub quote : ℕ
  pub inner : List ℕ
  pub rest : List ℕ
  pub is_quote : IsQuote quote
  pub source : src ≡ quote ∷ (inner ++ quote ∷ rest)
  pub closes : IsStringInner quote inner
  pub between : ℕ
  pub wrong : IsWrongAt quote inner between
  pub place_is : place ≡ 1 + between

-- ---- a run that is neither a number nor a duration

pub record BeginsRun (src run : List ℕ) : Type 0 where
  pub rest : List ℕ
  pub source : src ≡ run ++ rest
  pub longest : IsLongest IsRun run rest

abbrev pub HasBadNumber : List ℕ → ℕ → Type 0
HasBadNumber src len =
    (run : List ℕ) × BeginsRun src run × (len ≡ length run) × (IsNumberRun run → ⊥) × ((amounts : List Amount) → AreAmounts run amounts → ⊥)

abbrev pub HasBadDuration : List ℕ → ℕ → Type 0
HasBadDuration src len = (run : List ℕ) × BeginsRun src run × (len ≡ length run) × IsDisordered run

-- ---- breaches

-- `IsBreach inside src kind start end`: what stands at the front of the text breaks a rule, and the breach is told of the bytes from `start` up to `end`.
abbrev pub IsBreach : Bool → List ℕ → Kind → ℕ → ℕ → Type 0
IsBreach inside src BadByte start end = (start ≡ 0) × BeginsNothing inside src end
IsBreach inside src OpenString start end = (start ≡ 0) × (end ≡ 1) × StaysOpen src
IsBreach inside src BadEscape start end = (end ≡ start + 1) × HasWrongEscape src start
IsBreach inside src BadNumber start end = (start ≡ 0) × HasBadNumber src end
IsBreach inside src BadDuration start end = (start ≡ 0) × HasBadDuration src end
IsBreach inside src _ start end = ⊥

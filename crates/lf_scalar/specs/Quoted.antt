-- Scalars between single or double quotes, over one line or several.
use Rattle.std.specs.Prelude.{◌≡◌, ◌≢◌, ℕ, ◌+◌, ◌*◌, List, [], ◌∷◌, ◌++◌, map, length, Bool, true, false, Option, Some, None, ◌==◌, if◌then◌else◌}
use Rattle.std.specs.List.{flat_map, AllByRecursion}
use Rattle.std.specs.Char.{IsScalar, encode_utf8}
use Rattle.lf_base.specs.declared.kind.Kind.TheVariants.{BadEscape, OpenQuote, LeftOut, NotANode}
pub use Rattle.lf_scalar.specs.declared.quotes.Quotes.{Quotes}
pub use Rattle.lf_scalar.specs.declared.quotes.Quotes.TheVariants.{Single, Double}
use Rattle.lf_base.specs.declared.fault.Fault.{Fault}
use Rattle.lf_base.specs.Faults.{span}
use Rattle.lf_scalar.specs.Cells.{Cell, cell, Value, made, byte_fault, character_fault}
use Rattle.lf_scalar.specs.Lines.{Line, line, lines, start_of, first_text, begins_with, is_blank, after_blanks, is_blank_line, AreBlank, is_tail}
use Rattle.lf_scalar.specs.Markers.{is_marker}
use Rattle.lf_scalar.specs.Folding.{fold, feeds, trimmed}
use Rattle.lf_base.specs.Names.{hexadecimal_value}

abbrev pub quote_of : Quotes → ℕ
quote_of Single = 39
quote_of Double = 34

-- ---- escapes

-- what a backslash and a letter stand for: \0 \a \b \t \n \v \f \r \e \" \' \\ \N \_ \L \P, backslash and space, backslash and tab
abbrev pub letters : List (ℕ × ℕ)
letters =
    (48, 0) ∷ (97, 7) ∷ (98, 8) ∷ (116, 9) ∷ (110, 10) ∷ (118, 11) ∷ (102, 12) ∷ (114, 13) ∷ (101, 27) ∷ (34, 34) ∷ (39, 39) ∷ (92, 92)
    ∷ (78, 0x85) ∷ (95, 0xA0) ∷ (76, 0x2028) ∷ (80, 0x2029) ∷ (32, 32) ∷ (9, 9) ∷ []

abbrev pub looked_up : ℕ → List (ℕ × ℕ) → Option ℕ
looked_up byte [] = None
looked_up byte (pair ∷ pairs) = if byte == pair.0 then Some pair.1 else looked_up byte pairs

unfoldable pub letter_of : ℕ → Option ℕ
letter_of byte = looked_up byte letters

-- how many hexadecimal digits follow \x, \u and \U
abbrev pub width_of : ℕ → Option ℕ
width_of byte = if byte == 120 then Some 2 else if byte == 117 then Some 4 else if byte == 85 then Some 8 else None

-- the number that digits tell, behind those that told a number before
abbrev pub TellsNumber : ℕ → List Cell → ℕ → Type 0
TellsNumber before [] n = n ≡ before
TellsNumber before (c ∷ cs) n = (d : ℕ) × (hexadecimal_value c.byte ≡ Some d) × TellsNumber (16 * before + d) cs n

-- ---- what stands between quotes

-- a byte for itself; two single quotes; a backslash and a letter; a backslash, x, u or U, and hexadecimal digits
pub data QuotedPiece : Type 0 where
  Bare : Cell → QuotedPiece
  Twice : Cell → Cell → QuotedPiece
  Letter : Cell → Cell → ℕ → QuotedPiece
  Number : Cell → Cell → List Cell → ℕ → QuotedPiece

abbrev pub spelled : QuotedPiece → List Cell
spelled (Bare c) = c ∷ []
spelled (Twice c d) = c ∷ d ∷ []
spelled (Letter b e n) = b ∷ e ∷ []
spelled (Number b e digits n) = b ∷ e ∷ digits

-- the UTF-8 of a character, each byte with one offset
abbrev pub char_cells : ℕ → ℕ → List Cell
char_cells at n = map (λ byte. cell byte at) (encode_utf8 n)

-- two quotes give the first of them, and each byte of an escape's character has the offset of the backslash
abbrev pub given : QuotedPiece → List Cell
given (Bare c) = c ∷ []
given (Twice c d) = c ∷ []
given (Letter b e n) = char_cells b.at n
given (Number b e digits n) = char_cells b.at n

abbrev pub IsQuotedPiece : Quotes → QuotedPiece → Type 0
IsQuotedPiece Single (Bare c) = c.byte ≢ 39
IsQuotedPiece Single (Twice c d) = (c.byte ≡ 39) × (d.byte ≡ 39)
IsQuotedPiece Double (Bare c) = (c.byte ≢ 34) × (c.byte ≢ 92)
IsQuotedPiece Double (Letter b e n) = (b.byte ≡ 92) × (letter_of e.byte ≡ Some n)
IsQuotedPiece Double (Number b e digits n) = (b.byte ≡ 92) × (width_of e.byte ≡ Some (length digits)) × TellsNumber 0 digits n × IsScalar n
IsQuotedPiece kind piece = ⊥

-- a byte for itself that is a blank
abbrev pub is_bare_blank : QuotedPiece → Bool
is_bare_blank (Bare c) = is_blank c
is_bare_blank piece = false

-- ---- what closes

-- Between the quotes a single quote stands only twice, and a backslash takes the byte behind it.
pub data QuotedRaw : Type 0 where
  One : Cell → QuotedRaw
  Pair : Cell → Cell → QuotedRaw

abbrev pub raw : QuotedRaw → List Cell
raw (One c) = c ∷ []
raw (Pair c d) = c ∷ d ∷ []

abbrev pub IsQuotedRaw : Quotes → QuotedRaw → Type 0
IsQuotedRaw Single (One c) = c.byte ≢ 39
IsQuotedRaw Single (Pair c d) = (c.byte ≡ 39) × (d.byte ≡ 39)
IsQuotedRaw Double (One c) = (c.byte ≢ 34) × (c.byte ≢ 92)
IsQuotedRaw Double (Pair c d) = c.byte ≡ 92

-- the quote that closes isn't one of two single quotes
abbrev pub ClosesBefore : Quotes → List Cell → Type 0
ClosesBefore Single rest = begins_with 39 rest ≡ false
ClosesBefore Double rest = Unit {0}

pub record Closes (kind : Quotes) (src : List Cell) : Type 0 where
  pub raws : List QuotedRaw
  pub each : AllByRecursion (IsQuotedRaw kind) raws
  pub closing : Cell
  pub rest : List Cell
  pub source : src ≡ flat_map raw raws ++ closing ∷ rest
  pub closes : closing.byte ≡ quote_of kind
  pub alone : ClosesBefore kind rest

-- the lines of what stands between the quotes, with the closing quote as the end of the last
abbrev pub inner_lines : {kind : Quotes} {src : List Cell} → Closes kind src → List Line
inner_lines c = lines (c.closing.at + 1) (flat_map raw c.raws ++ c.closing ∷ [])

-- ---- the lines between the quotes, each of any indent

-- the line break at an offset is folded, or dropped
pub data Break : Type 0 where
  Folds : ℕ → Break
  Drops : ℕ → Break

-- what it gives with so many blank lines behind it
abbrev pub filled : Break → ℕ → List Cell
filled (Folds at) k = fold at k
filled (Drops at) k = feeds k at

-- A line before the last, without the blanks at its start if it isn't the first: its text and its line break. The blanks at its end are dropped, and its line break is
-- folded. A backslash at its end drops the line break and keeps the blanks before it. So where a line behind the first has only blanks and a backslash, these blanks are
-- dropped, since they stand at the line's start, and the line gives nothing (proofs/MoreWorked, blanks_and_backslash).
abbrev pub IsBroken : Quotes → Line → List Cell → Break → Type 0
IsBroken kind l text (Folds at) = (pieces : List QuotedPiece) × AllByRecursion (IsQuotedPiece kind) pieces × (l.text ≡ flat_map spelled pieces) × (text ≡ flat_map given (trimmed is_bare_blank pieces)) × (at ≡ l.break)
IsBroken Double l text (Drops at) =
    (pieces : List QuotedPiece) × (backslash : Cell) × AllByRecursion (IsQuotedPiece Double) pieces × (backslash.byte ≡ 92) × (l.text ≡ flat_map spelled pieces ++ backslash ∷ []) × (text ≡ flat_map given pieces) × (at ≡ l.break)
IsBroken Single l text (Drops at) = ⊥

-- behind a line stand blank lines, and then one that isn't
pub record Follows (blank : List Line) (next : Line) : Type 0 where
  pub are_blank : AreBlank blank
  pub is_full : is_blank_line next ≡ false

-- without the blanks at its start
abbrev pub unindented : Line → Line
unindented l = line (after_blanks l.text) l.break

-- `QuotedFrom kind l ls text`: the line l and the lines ls behind it, the last of which ends with the closing quote, give this text. `last` is the line with the quote,
-- `more` one before it.
pub data QuotedFrom (kind : Quotes) : Line → List Line → List Cell → Type 0 where
  last : {l : Line} (pieces : List QuotedPiece) (closing : Cell) → AllByRecursion (IsQuotedPiece kind) pieces → closing.byte ≡ quote_of kind → l.text ≡ flat_map spelled pieces ++ closing ∷ [] → QuotedFrom kind l [] (flat_map given pieces)
  more : {l next : Line} {ls : List Line} {text : List Cell} (part : List Cell) (break : Break) (blank : List Line) → IsBroken kind l part break → Follows blank next → is_marker next ≡ false
      → QuotedFrom kind (unindented next) ls text → QuotedFrom kind l (blank ++ next ∷ ls) (part ++ (filled break (length blank) ++ text))

-- A wrong escape: a backslash with which no piece begins, and the rest of its line, which isn't empty. (A backslash that ends its line is none of these.)
pub record IsBadEscape (kind : Quotes) (backslash : Cell) (more : List Cell) : Type 0 where
  pub is_backslash : backslash.byte ≡ 92
  pub inside : more ≢ []
  pub none : (p : QuotedPiece) (rest : List Cell) → IsQuotedPiece kind p → backslash ∷ more ≡ spelled p ++ rest → ⊥

-- a line's text is pieces, and then a wrong escape's backslash and more
pub record HasBadEscape (kind : Quotes) (text : List Cell) (backslash : Cell) : Type 0 where
  pub pieces : List QuotedPiece
  pub each : AllByRecursion (IsQuotedPiece kind) pieces
  pub more : List Cell
  pub source : text ≡ flat_map spelled pieces ++ backslash ∷ more
  pub is_bad : IsBadEscape kind backslash more

-- What breaks the lines from l on: a wrong escape, a line that begins with the marker of a document, or what breaks a later line.
pub data QuotedBreaks (kind : Quotes) : Line → List Line → Fault → Type 0 where
  escape : {l : Line} {backslash : Cell} (ls : List Line) → HasBadEscape kind l.text backslash → QuotedBreaks kind l ls (byte_fault BadEscape backslash.at)
  marker : {l next : Line} (part : List Cell) (break : Break) (blank ls : List Line) → IsBroken kind l part break → Follows blank next → is_marker next ≡ true
      → QuotedBreaks kind l (blank ++ next ∷ ls) (byte_fault LeftOut (start_of next))
  later : {l next : Line} {ls : List Line} {f : Fault} (part : List Cell) (break : Break) (blank : List Line) → IsBroken kind l part break → Follows blank next → is_marker next ≡ false
      → QuotedBreaks kind (unindented next) ls f → QuotedBreaks kind l (blank ++ next ∷ ls) f

-- ---- the scalar

-- a scalar between quotes, whatever stands behind it
pub record IsClosedScalar (kind : Quotes) (opening : Cell) (src : List Cell) (v : Value) : Type 0 where
  pub between : Closes kind src
  pub first : Line
  pub following : List Line
  pub source : inner_lines between ≡ first ∷ following
  pub text : List Cell
  pub from : QuotedFrom kind first following text
  pub value : v ≡ made text between.closing.at (span opening.at (between.closing.at + 1))

-- what stands behind the closing quote on its line (behind, as everywhere here, is what comes later in the file)
abbrev pub behind : {kind : Quotes} {src : List Cell} → ℕ → Closes kind src → List Cell
behind end c = first_text (lines end c.rest)

pub record IsQuoted (kind : Quotes) (end : ℕ) (opening : Cell) (src : List Cell) (v : Value) : Type 0 where
  pub closed : IsClosedScalar kind opening src v
  pub alone : is_tail false (behind end closed.between) ≡ true

-- the first character of some cells that no blanks and no comment have there
pub record WrongBehind (cs : List Cell) (wrong : Cell) : Type 0 where
  pub front : List Cell
  pub more : List Cell
  pub source : cs ≡ front ++ wrong ∷ more
  pub before : is_tail false front ≡ true
  pub here : is_tail false (front ++ wrong ∷ []) ≡ false

-- what breaks a scalar between quotes: nothing closes it, its lines are broken, or something stands behind it
pub data BreaksQuoted (kind : Quotes) (end : ℕ) (opening : Cell) (src : List Cell) : Fault → Type 0 where
  open_quote : (Closes kind src → ⊥) → BreaksQuoted kind end opening src (byte_fault OpenQuote opening.at)
  inside : {first : Line} {following : List Line} {f : Fault} (c : Closes kind src) → inner_lines c ≡ first ∷ following → QuotedBreaks kind first following f → BreaksQuoted kind end opening src f
  outside : {v : Value} {wrong : Cell} (closed : IsClosedScalar kind opening src v) → WrongBehind (behind end closed.between) wrong → BreaksQuoted kind end opening src (character_fault NotANode wrong)

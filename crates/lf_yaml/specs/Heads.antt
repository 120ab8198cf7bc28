-- How a row begins: an item, an entry with its key, or a scalar of some style.
use Rattle.std.specs.Prelude.{◌≡◌, ◌+◌, List, [], ◌∷◌, ◌++◌, Bool, true, false, not, Some, ◌⊎◌, ◌==◌, ◌&&◌, if◌then◌else◌}
use Rattle.lf_scalar.specs.declared.scalar.Style.{Style}
use Rattle.lf_scalar.specs.declared.scalar.Style.TheVariants as style
use Rattle.std.specs.List.{flat_map}
use Rattle.lf_base.specs.declared.fault.Fault.{Fault}
use Rattle.lf_base.specs.Faults.{span}
use Rattle.lf_scalar.specs.Cells.{Cell, Value, made, end_of}
use Rattle.lf_scalar.specs.Lines.{is_blank, after_blanks}
use Rattle.lf_scalar.specs.Folding.{trimmed}
use Rattle.lf_scalar.specs.Plain.{before_blank, begins_plain}
use Rattle.lf_scalar.specs.declared.quotes.Quotes.{Quotes}
use Rattle.lf_scalar.specs.Quoted.{quote_of, raw, Closes, IsQuoted, BreaksQuoted}
use Rattle.lf_scalar.specs.Scalars.{begins}
pub use Rattle.lf_yaml.specs.Keys.{never}
unfoldable pub use Rattle.lf_yaml.specs.Keys.{key_in}
use Rattle.lf_yaml.specs.Rows.{ContentRow, text_of, is_left_out}

-- a `-` before a blank or the line's end
abbrev pub is_item : ContentRow → Bool
is_item r = (r.first.byte == 45) && before_blank r.rest

-- ---- keys

-- a key without quotes, which has these cells, or one between quotes
pub data Key : Type 0 where
  Bare : List Cell → Key
  Between : Quotes → Key

-- A scalar between quotes that closes in some cells, those of its line or of the file: as it stands alone, these cells cut right behind the quote that closes.
abbrev pub up_to : {kind : Quotes} {cs : List Cell} → Closes kind cs → List Cell
up_to between = flat_map raw between.raws ++ between.closing ∷ []

abbrev pub IsBetween : (kind : Quotes) → Cell → (cs : List Cell) → Closes kind cs → Value → Type 0
IsBetween kind c cs between v = IsQuoted kind (between.closing.at + 1) c (up_to between) v

-- what breaks it: an escape that isn't one, or over several lines a mark
abbrev pub BetweenBreaks : Quotes → Cell → List Cell → Fault → Type 0
BetweenBreaks kind c cs f = (between : Closes kind cs) × BreaksQuoted kind (between.closing.at + 1) c (up_to between) f

-- What a key is that begins with a cell, with these cells behind it on the line. A key without quotes is its text.
abbrev pub IsKey : Cell → List Cell → Key → Value → Type 0
IsKey c cs (Bare text) v = v ≡ made text (end_of c.at text) (span c.at (end_of c.at text))
IsKey c cs (Between kind) v = (between : Closes kind cs) × IsBetween kind c cs between v

abbrev pub KeyBreaks : Cell → List Cell → Key → Fault → Type 0
KeyBreaks c cs (Bare text) f = ⊥
KeyBreaks c cs (Between kind) f = BetweenBreaks kind c cs f

-- behind blanks stands a `:`, and this behind it
abbrev pub IsSignBehind : List Cell → Cell → List Cell → Type 0
IsSignBehind cs colon rest = (after_blanks cs ≡ colon ∷ rest) × (colon.byte ≡ 58)

-- A row begins an entry: a key that isn't left out, blanks, a `:` and a blank or the line's end. A key without quotes begins as a plain scalar does, and one between quotes
-- closes on the line.
pub data BeginsEntry (r : ContentRow) : Key → Cell → List Cell → Type 0 where
  bare : {front rest : List Cell} {colon : Cell} → begins_plain (text_of r) ≡ true → is_left_out r ≡ false → key_in never before_blank (text_of r) ≡ Some (front, (colon, rest))
      → BeginsEntry r (Bare (trimmed is_blank front)) colon rest
  quoted : {rest : List Cell} {colon : Cell} (kind : Quotes) (c : Closes kind r.rest) → r.first.byte ≡ quote_of kind → is_left_out r ≡ false → IsSignBehind c.rest colon rest → before_blank rest ≡ true
      → BeginsEntry r (Between kind) colon rest

abbrev pub NoEntry : ContentRow → Type 0
NoEntry r = (k : Key) (colon : Cell) (rest : List Cell) → BeginsEntry r k colon rest → ⊥

-- a row begins a block sequence or a block mapping, or neither
abbrev pub BeginsBlock : ContentRow → Type 0
BeginsBlock r = (is_item r ≡ true) ⊎ ((k : Key) × (colon : Cell) × (rest : List Cell) × BeginsEntry r k colon rest)

abbrev pub BeginsNoBlock : ContentRow → Type 0
BeginsNoBlock r = (is_item r ≡ false) × NoEntry r

-- a cell is a quote, and on its line nothing closes behind it
pub record OpensQuote (c : Cell) (cs : List Cell) : Type 0 where
  pub kind : Quotes
  pub is_quote : c.byte ≡ quote_of kind
  pub unclosed : Closes kind cs → ⊥

-- ---- scalars

-- the style of a scalar by its first character
abbrev pub style_of : Cell → Style
style_of c =
    if c.byte == 124 then style.Literal
    else if c.byte == 62 then style.Folded
    else if c.byte == 39 then style.Single
    else if c.byte == 34 then style.Double
    else style.Plain

abbrev pub begins_scalar : ContentRow → Bool
begins_scalar r = begins (style_of r.first) (text_of r) && not (is_left_out r)

-- A plain scalar, over one line or several.
use Rattle.std.specs.Prelude.{◌≡◌, ℕ, leb, List, [], ◌∷◌, ◌++◌, length, Bool, true, false, not, Option, Some, None, ◌⊎◌, ◌==◌, ◌&&◌, ◌||◌, bytes_eq, codes, if◌then◌else◌}
use Rattle.std.specs.List.{list_any}
use Rattle.lf_base.specs.declared.kind.Kind.TheVariants.{BadIndent, NotANode}
use Rattle.lf_base.specs.declared.fault.Fault.{Fault}
use Rattle.lf_base.specs.Faults.{span}
use Rattle.lf_scalar.specs.Cells.{Cell, Value, made, bytes_of, end_of, byte_fault}
use Rattle.lf_scalar.specs.Lines.{Line, lines, start_of, begins_with, is_blank, after_blanks, after_spaces, indent_of, is_blank_line, AreBlank, is_content}
use Rattle.lf_scalar.specs.Folding.{fold, trimmed}

-- ---- one line

-- the cells before a comment, whose `#` stands behind a blank
abbrev pub before_comment : List Cell → List Cell
before_comment [] = []
before_comment (c ∷ cs) = if is_blank c && begins_with 35 cs then [] else c ∷ before_comment cs

abbrev pub has_comment : List Cell → Bool
has_comment [] = false
has_comment (c ∷ cs) = (is_blank c && begins_with 35 cs) || has_comment cs

-- what a line gives: what stands before a comment, without the blanks round it
abbrev pub plain_text : Line → List Cell
plain_text l = trimmed is_blank (before_comment (after_blanks l.text))

-- the line ends in a comment
abbrev pub is_commented : Line → Bool
is_commented l = has_comment (after_blanks l.text)

abbrev pub before_blank : List Cell → Bool
before_blank [] = true
before_blank (c ∷ cs) = is_blank c

-- the first `:` of a text before a blank or the text's end
abbrev pub key_sign : List Cell → Option Cell
key_sign [] = None
key_sign (c ∷ cs) = if (c.byte == 58) && before_blank cs then Some c else key_sign cs

-- ---- several lines. An indent is above the parent's where it has at least `above` spaces.

-- a content line with such an indent goes on with the scalar
abbrev pub continues : ℕ → Line → Bool
continues above l = is_content l && leb above (indent_of l.text)

-- a tab stands right behind the spaces at the front
abbrev pub has_tab : Line → Bool
has_tab l = begins_with 9 (after_spaces l.text)

-- where the first of some lines begins that has one
abbrev pub first_tab : List Line → Option ℕ
first_tab [] = None
first_tab (l ∷ ls) = if has_tab l then Some (start_of l) else first_tab ls

abbrev pub StopsAt : ℕ → List Line → Type 0
StopsAt above [] = Unit {0}
StopsAt above (l ∷ ls) = (is_blank_line l ≡ false) × (continues above l ≡ false)

-- A line is the scalar's last: it ends in a comment, or behind it and perhaps blank lines stands no line that goes on.
abbrev pub IsLast : ℕ → Line → List Line → Type 0
IsLast above l ls = (is_commented l ≡ true) ⊎ ((blank : List Line) × (rest : List Line) × (ls ≡ blank ++ rest) × AreBlank blank × StopsAt above rest)

-- behind a line without a comment (a bare one) stand blank lines, and then one that goes on with the scalar
pub record GoesOn (above : ℕ) (l : Line) (blank : List Line) (next : Line) : Type 0 where
  pub bare : is_commented l ≡ false
  pub are_blank : AreBlank blank
  pub goes_on : continues above next ≡ true

-- `PlainFrom above l ls text`: a plain scalar whose line l stands before the lines ls has this text from l on. `last` is its last line, `more` one before it.
pub data PlainFrom (above : ℕ) : Line → List Line → List Cell → Type 0 where
  last : {l : Line} {ls : List Line} → key_sign (plain_text l) ≡ None → IsLast above l ls → PlainFrom above l ls (plain_text l)
  more : {l next : Line} {ls : List Line} {text : List Cell} (blank : List Line) → key_sign (plain_text l) ≡ None → GoesOn above l blank next → first_tab (blank ++ next ∷ []) ≡ None
      → PlainFrom above next ls text → PlainFrom above l (blank ++ next ∷ ls) (plain_text l ++ (fold l.break (length blank) ++ text))

-- What breaks such a scalar from l on: a `:` before a blank or the line's end, a tab behind the spaces of a line that goes on or of a blank one before it, or what breaks a later line.
pub data PlainBreaks (above : ℕ) : Line → List Line → Fault → Type 0 where
  key : {l : Line} {c : Cell} (ls : List Line) → key_sign (plain_text l) ≡ Some c → PlainBreaks above l ls (byte_fault NotANode c.at)
  tab : {l next : Line} {at : ℕ} (blank ls : List Line) → key_sign (plain_text l) ≡ None → GoesOn above l blank next → first_tab (blank ++ next ∷ []) ≡ Some at
      → PlainBreaks above l (blank ++ next ∷ ls) (byte_fault BadIndent at)
  later : {l next : Line} {ls : List Line} {f : Fault} (blank : List Line) → key_sign (plain_text l) ≡ None → GoesOn above l blank next → first_tab (blank ++ next ∷ []) ≡ None
      → PlainBreaks above next ls f → PlainBreaks above l (blank ++ next ∷ ls) f

-- ---- the scalar

-- `null`, `Null`, `NULL` and `~` are the empty text
abbrev pub nulls : List (List ℕ)
nulls = codes "null" ∷ codes "Null" ∷ codes "NULL" ∷ codes "~" ∷ []

abbrev pub is_null : List Cell → Bool
is_null text = list_any (bytes_eq (bytes_of text)) nulls

abbrev pub value_of : Cell → List Cell → Value
value_of c text = made (if is_null text then [] else text) (end_of c.at text) (span c.at (end_of c.at text))

-- none of - ? : , [ ] { } # & * ! | > ' " % @ `, and no blank
abbrev pub is_plain_byte : Cell → Bool
is_plain_byte c = not (is_blank c) && not (list_any (λ sign. c.byte == sign) (codes "-?:,[]{}#&*!|>'\"%@`"))

-- one of - ? :
abbrev pub is_sign : Cell → Bool
is_sign c = (c.byte == 45) || (c.byte == 63) || (c.byte == 58)

-- how a plain scalar begins on its line: `-`, `?` and `:` before a character that isn't a blank
abbrev pub begins_plain : List Cell → Bool
begins_plain [] = false
begins_plain (c ∷ cs) = is_plain_byte c || (is_sign c && not (before_blank cs))

-- the lines of a source that begins with a scalar, and the scalar's first cell
pub record Begun (end : ℕ) (src : List Cell) : Type 0 where
  pub first : Line
  pub following : List Line
  pub opening : Cell
  pub rest : List Cell
  pub source : lines end src ≡ first ∷ following
  pub text : first.text ≡ opening ∷ rest

pub record IsPlainScalar (above end : ℕ) (src : List Cell) (v : Value) : Type 0 where
  pub begun : Begun end src
  pub text : List Cell
  pub from : PlainFrom above begun.first begun.following text
  pub value : v ≡ value_of begun.opening text

abbrev pub BreaksPlain : ℕ → ℕ → List Cell → Fault → Type 0
BreaksPlain above end src f = (begun : Begun end src) × PlainBreaks above begun.first begun.following f

-- Reading a block scalar's header byte by byte and its body line by line, as the code does. A way of reading, it defines nothing: proofs tell that it gives what the definitions have.
use Rattle.std.specs.Prelude.{◌≡◌, ℕ, suc, ◌+◌, ◌≤◌, List, [], ◌∷◌, ◌++◌, length, map, take, drop, Bool, true, false, Option, Some, None, Result, Ok, Err, get_or, ◌||◌, if◌then◌else◌}
use Rattle.lf_base.specs.declared.refusal.Refusal.{Refusal}
use Rattle.lf_base.specs.Answers.{IfAt}
use Rattle.lf_scalar.specs.declared.body.BlockBody.{BlockBody}
use Rattle.lf_scalar.specs.declared.body.Role.{Role}
use Rattle.lf_scalar.specs.declared.body.Role.TheVariants as role
use Rattle.lf_scalar.specs.declared.joined.LastLine.{LastLine}
use Rattle.lf_scalar.specs.declared.header.Header.{Header}
use Rattle.lf_scalar.specs.declared.header.HeaderByte.{HeaderByte}
use Rattle.lf_scalar.specs.declared.header.HeaderByte.TheVariants as mark
use Rattle.lf_scalar.specs.declared.block.Chomp.{Chomp}
use Rattle.lf_scalar.specs.declared.joined.Joining.{Joining}
use Rattle.lf_scalar.specs.declared.joined.Joining.TheVariants as joining_of
use Rattle.lf_scalar.specs.declared.block.Chomp.TheVariants.{Strip, Clip, Keep}
use Rattle.lf_scalar.specs.declared.scalar.Style.{Style}
use Rattle.lf_scalar.specs.declared.scalar.Style.TheVariants as style
use Rattle.lf_scalar.specs.Cells.{Cell, cell}
use Rattle.lf_scalar.specs.Lines.{Line, lines_at}
use Rattle.lf_scalar.specs.Folding.{fold, feeds, trimmed}
use Rattle.lf_scalar.specs.Block.{joined, line_ends, last_end, in_body, content, body_of, body_fault, begins_blank}
use Rattle.lf_scalar.specs.reading.Block.{chomp_of, mark_digit, chomp_or, Header as HeaderRead, is_empty, empties, stretch_of, folded_of}

-- ---- the header

-- what a byte of a header is
abbrev pub IsMark : ℕ → HeaderByte → Type 0
IsMark byte (mark.Sign chomp) = chomp_of byte ≡ Some chomp
IsMark byte (mark.Digit d) = (chomp_of byte ≡ None) × (mark_digit byte ≡ Some d)
IsMark byte mark.Neither = (chomp_of byte ≡ None) × (mark_digit byte ≡ None)

abbrev pub header_with : Option Chomp → Option ℕ → Header
header_with chomp digit = record { chomp = chomp_or chomp; digit = digit }

-- what the code says of a header that stands at an offset, where it tells a wrong byte by its place
abbrev pub header_told : ℕ → List ℕ → Result Header ℕ → HeaderRead
header_told at bytes (Ok h) = Ok (h.chomp, h.digit)
header_told at bytes (Err k) = Err (cell (get_or bytes k 0) (at + k))

-- ---- the body

-- how the code joins the lines
abbrev pub joins_of : Joining → List Line → List Cell
joins_of joining_of.Literal ls = joined ls
joins_of joining_of.Folded ls = folded_of ls

-- what lines give: what follows the content indent
abbrev pub contents : ℕ → List Line → List Line
contents k ls = map (content k) ls

-- the style whose scalars are joined so
abbrev pub style_of : Joining → Style
style_of joining_of.Literal = style.Literal
style_of joining_of.Folded = style.Folded

-- the line break of the line before, if there is one
abbrev pub break_of : Option ℕ → List Cell
break_of None = []
break_of (Some at) = cell 10 at ∷ []

-- lines that are joined by their line breaks behind the last
abbrev pub literal_behind : Option LastLine → List Line → List Cell
literal_behind None ls = joined ls
literal_behind (Some o) [] = []
literal_behind (Some o) (l ∷ ls) = cell 10 o.feed ∷ joined (l ∷ ls)

-- what stands between the last line that isn't empty and the next such
abbrev pub between_last : LastLine → Bool → List Cell
between_last o blank = if o.blank || blank then feeds (suc o.empty) o.feed else fold o.feed o.empty

-- the same with an empty line more
abbrev pub one_more : LastLine → LastLine
one_more o = record { feed = o.feed; blank = o.blank; empty = o.empty + 1 }

-- lines that are folded behind a line that isn't empty
abbrev pub last_behind : LastLine → List Line → List Cell
last_behind o [] = []
last_behind o (l ∷ ls) = if is_empty l then last_behind (one_more o) ls else between_last o (begins_blank l.text) ++ stretch_of l 0 ls

abbrev pub folded_behind : Option LastLine → List Line → List Cell
folded_behind None ls = folded_of ls
folded_behind (Some o) ls = last_behind o ls

-- lines that are joined behind the last, if there is one
abbrev pub joined_behind : Joining → Option LastLine → List Line → List Cell
joined_behind joining_of.Literal last ls = literal_behind last ls
joined_behind joining_of.Folded last ls = folded_behind last ls

-- so many empty lines stand behind the last that isn't empty, at most
abbrev pub FewBehind : Option LastLine → ℕ → Type 0
FewBehind None n = Unit {0}
FewBehind (Some o) n = o.empty ≤ n

-- what a line is to a body, and what breaks the body there, whatever the lines behind it are
abbrev pub IsRole : Bool → ℕ → ℕ → Line → Role → Type 0
IsRole leads above k l role.Behind = (in_body k l ≡ false) × ((ls : List Line) → body_fault leads above k (l ∷ ls) ≡ None)
IsRole leads above k l role.Spaces = (in_body k l ≡ true) × ((ls : List Line) → body_fault leads above k (l ∷ ls) ≡ body_fault leads above k ls)
IsRole leads above k l role.Text = (in_body k l ≡ true) × ((ls : List Line) → body_fault leads above k (l ∷ ls) ≡ body_fault false above k ls)

abbrev pub TellsRole : Bool → ℕ → ℕ → Line → Result Role Refusal → Type 0
TellsRole leads above k l (Ok role) = IsRole leads above k l role
TellsRole leads above k l (Err e) = IfAt e (λ f. (ls : List Line) → body_fault leads above k (l ∷ ls) ≡ Some f)

-- what is found with a line more, whose line break stands at a place, if it has one
abbrev pub body_with : BlockBody → Bool → ℕ → Option ℕ → BlockBody
body_with b true feed break = record { full = b.full + b.empty + 1; last = break; behind = feed + 1; empty = 0 }
body_with b false feed break = record { full = b.full; last = b.last; behind = b.behind; empty = b.empty + 1 }

-- What the code finds of the lines of a body, whose first bytes are the lines up to the last that isn't empty.
pub record IsBody (k at : ℕ) (bytes : List ℕ) (b : BlockBody) : Type 0 where
  pub full : List Line
  pub empty : List Line
  pub left : List Line
  pub source : lines_at at bytes ≡ full ++ (empty ++ left)
  pub full_is : b.full ≡ length full
  pub empty_is : b.empty ≡ length empty
  pub last_is : last_end (at + length bytes) full ≡ break_of b.last
  pub behind : lines_at (at + b.behind) (drop b.behind bytes) ≡ empty ++ left
  pub within : b.behind ≤ length bytes + 1
  pub texts : trimmed is_empty (body_of k (lines_at at bytes)) ≡ contents k full
  pub empties_are : empties (body_of k (lines_at at bytes)) ≡ contents k empty

-- the same, or what breaks the body
abbrev pub FindsBody : Bool → ℕ → ℕ → ℕ → List ℕ → Result BlockBody Refusal → Type 0
FindsBody leads above k at bytes (Ok b) = IsBody k at bytes b × (body_fault leads above k (lines_at at bytes) ≡ None)
FindsBody leads above k at bytes (Err e) = IfAt e (λ f. body_fault leads above k (lines_at at bytes) ≡ Some f)

-- what stands at the end of a body, whose last empty lines begin these bytes
abbrev pub chomped_behind : Chomp → BlockBody → ℕ → List ℕ → List Cell
chomped_behind Strip b at bytes = []
chomped_behind Clip b at bytes = break_of b.last
chomped_behind Keep b at bytes = break_of b.last ++ line_ends (at + length bytes) (take b.empty (lines_at at bytes))

-- Literal and folded block scalars: a header, and a body of lines.
use Rattle.std.specs.Prelude.{◌≡◌, ◌≢◌, ℕ, suc, ◌+◌, ◌-◌, ◌≤◌, min, max, leb, nat_lt, is_none, List, [], ◌∷◌, ◌++◌, length, map, drop, take_while, Bool, true, false, Option, Some, None, ◌⊎◌, ◌&&◌, ◌||◌, if◌then◌else◌}
use Rattle.std.specs.List.{flat_map, AllByRecursion}
use Rattle.lf_base.specs.declared.kind.Kind.TheVariants.{BadHeader, BadIndent}
use Rattle.lf_scalar.specs.declared.block.Chomp.{Chomp}
use Rattle.lf_scalar.specs.declared.block.Chomp.TheVariants.{Strip, Clip, Keep}
use Rattle.lf_base.specs.declared.fault.Fault.{Fault}
use Rattle.lf_base.specs.Faults.{span, fault}
use Rattle.lf_scalar.specs.Cells.{Cell, cell, Value, made, end_of, byte_fault, character_fault}
use Rattle.lf_scalar.specs.Lines.{Line, line, lines, start_of, is_blank, indent_of, is_spaces, is_tail}
use Rattle.lf_scalar.specs.Folding.{fold, feeds}
use Rattle.lf_scalar.specs.Plain.{has_tab}

-- ---- the header, which stands behind the sign `|` or `>`

-- `-` and `+`
abbrev pub IsChomp : Cell → Chomp → Type 0
IsChomp c Strip = c.byte ≡ 45
IsChomp c Clip = ⊥
IsChomp c Keep = c.byte ≡ 43

-- 1 to 9
abbrev pub IsDigit : Cell → ℕ → Type 0
IsDigit c d = (1 ≤ d) × (d ≤ 9) × (c.byte ≡ 48 + d)

-- at most one digit and at most one of `-` and `+`, in any order
abbrev pub AreMarks : List Cell → Chomp → Option ℕ → Type 0
AreMarks [] Clip None = Unit {0}
AreMarks (c ∷ []) chomp None = IsChomp c chomp
AreMarks (c ∷ []) Clip (Some d) = IsDigit c d
AreMarks (c ∷ e ∷ []) chomp (Some d) = (IsChomp c chomp × IsDigit e d) ⊎ (IsDigit c d × IsChomp e chomp)
AreMarks marks chomp digit = ⊥

-- marks, then blanks and perhaps a comment
pub record IsHeader (header : List Cell) (chomp : Chomp) (digit : Option ℕ) : Type 0 where
  pub marks : List Cell
  pub tail : List Cell
  pub source : header ≡ marks ++ tail
  pub are_marks : AreMarks marks chomp digit
  pub is_tail : is_tail false tail ≡ true

abbrev pub SomeHeader : List Cell → Type 0
SomeHeader header = (chomp : Chomp) × (digit : Option ℕ) × IsHeader header chomp digit

-- A wrong character of a header: what stands before it is a header, and with it it is none.
pub record WrongIn (header : List Cell) (wrong : Cell) : Type 0 where
  pub front : List Cell
  pub more : List Cell
  pub source : header ≡ front ++ wrong ∷ more
  pub before : SomeHeader front
  pub here : SomeHeader (front ++ wrong ∷ []) → ⊥

-- ---- the body, with `above` the least number of spaces of an indent above the parent's

-- What the lines tell of the content indent: the indent of the first with a character other than a space, if that is above the parent's. Else it is the length of the
-- longest line of spaces alone before it, which is `longest` so far.
abbrev pub told_indent : ℕ → ℕ → List Line → ℕ
told_indent above longest [] = longest
told_indent above longest (l ∷ ls) =
    if is_spaces l then told_indent above (max longest (length l.text)) ls
    else if leb above (indent_of l.text) then indent_of l.text
    else longest

-- With a digit the parent's indent, or 0 if it is -1, plus the digit; without one the lines tell it.
abbrev pub content_indent : ℕ → Option ℕ → List Line → ℕ
content_indent above (Some d) following = (above - 1) + d
content_indent above None following = told_indent above above following

-- spaces alone, or an indent of at least the content indent
abbrev pub in_body : ℕ → Line → Bool
in_body k l = is_spaces l || leb k (indent_of l.text)

-- what a line of the body gives: what follows the content indent
abbrev pub content : ℕ → Line → Line
content k l = line (drop k l.text) l.break

-- the body is the lines up to the first that is not of it
abbrev pub body_of : ℕ → List Line → List Line
body_of k following = map (content k) (take_while (in_body k) following)

-- right behind the last space of a line
abbrev pub spaces_fault : Line → Fault
spaces_fault l = fault BadIndent (span (end_of l.break l.text) (end_of l.break l.text))

-- a tab behind the spaces of a line is told at the line's first byte
abbrev pub tab_fault : Line → Fault
tab_fault l = byte_fault BadIndent (start_of l)

-- What breaks a body with a content indent, if anything does. Where the lines tell the indent, no line of spaces alone is longer before the one that tells it, and no tab
-- stands behind the spaces of that one: `leads` is true up to there. Nor does a tab stand behind the spaces of the line that ends the body, if they are above the parent's indent.
unfoldable pub body_fault : Bool → ℕ → ℕ → List Line → Option Fault
body_fault leads above k [] = None
body_fault leads above k (l ∷ ls) =
    if is_spaces l then (if leads && nat_lt k (length l.text) then Some (spaces_fault l) else body_fault leads above k ls)
    else if leb k (indent_of l.text) then (if leads && has_tab l then Some (tab_fault l) else body_fault false above k ls)
    else if leb above (indent_of l.text) && has_tab l then Some (tab_fault l)
    else None

-- ---- the text of a body

-- no line, or a last one that isn't empty
abbrev pub EndsFull : List Line → Type 0
EndsFull [] = Unit {0}
EndsFull (l ∷ []) = l.text ≢ []
EndsFull (l ∷ m ∷ ls) = EndsFull (m ∷ ls)

abbrev pub AreEmpty : List Line → Type 0
AreEmpty ls = AllByRecursion (λ l. l.text ≡ []) ls

-- the line break of each line
abbrev pub breaks : List Line → List Cell
breaks ls = map (λ l. cell 10 l.break) ls

-- the line break of a line, which the last line of a source that ends at `end` may lack
abbrev pub line_end : ℕ → Line → List Cell
line_end end l = if nat_lt l.break end then cell 10 l.break ∷ [] else []

abbrev pub line_ends : ℕ → List Line → List Cell
line_ends end [] = []
line_ends end (l ∷ ls) = line_end end l ++ line_ends end ls

-- that of the last line, if there is one
abbrev pub last_end : ℕ → List Line → List Cell
last_end end [] = []
last_end end (l ∷ []) = line_end end l
last_end end (l ∷ m ∷ ls) = last_end end (m ∷ ls)

-- what stands at the end: nothing by `-`, else the last line's break, and by `+` those of the empty lines behind it
abbrev pub chomped : ℕ → Chomp → List Line → List Line → List Cell
chomped end Strip full empty = []
chomped end Clip full empty = last_end end full
chomped end Keep full empty = last_end end full ++ line_ends end empty

-- a literal scalar's lines are joined by their line breaks
abbrev pub joined : List Line → List Cell
joined [] = []
joined (l ∷ []) = l.text
joined (l ∷ m ∷ ls) = l.text ++ cell 10 l.break ∷ joined (m ∷ ls)

-- a line that isn't empty, and the empty lines behind it
pub record Stretch : Type 0 where
  pub full : Line
  pub behind : List Line

abbrev pub IsStretch : Stretch → Type 0
IsStretch s = (s.full.text ≢ []) × AreEmpty s.behind

abbrev pub whole : Stretch → List Line
whole s = s.full ∷ s.behind

abbrev pub begins_blank : List Cell → Bool
begins_blank [] = false
begins_blank (c ∷ cs) = is_blank c

-- between two lines that aren't empty: as folding has it, but one line feed more than there are empty lines where one of the two begins with a blank
abbrev pub between : Stretch → Line → List Cell
between s next =
    if begins_blank s.full.text || begins_blank next.text then feeds (suc (length s.behind)) s.full.break
    else fold s.full.break (length s.behind)

abbrev pub folded : List Stretch → List Cell
folded [] = []
folded (s ∷ []) = s.full.text
folded (s ∷ t ∷ ss) = s.full.text ++ (between s t.full ++ folded (t ∷ ss))

-- each empty line before the first that isn't gives its line break, and the lines from there on are folded
pub record IsFolded (ls : List Line) (text : List Cell) : Type 0 where
  pub empty : List Line
  pub stretches : List Stretch
  pub source : ls ≡ empty ++ flat_map whole stretches
  pub are_empty : AreEmpty empty
  pub are_stretches : AllByRecursion IsStretch stretches
  pub text_is : text ≡ breaks empty ++ folded stretches

abbrev pub AreJoinedLines : List Line → List Cell → Type 0
AreJoinedLines ls text = text ≡ joined ls

-- The body is lines up to the last that isn't empty, and then empty ones. The first are joined or folded.
pub record IsBlockText (Joins : List Line → List Cell → Type 0) (end : ℕ) (chomp : Chomp) (body : List Line) (text : List Cell) : Type 0 where
  pub full : List Line
  pub empty : List Line
  pub source : body ≡ full ++ empty
  pub ends_full : EndsFull full
  pub are_empty : AreEmpty empty
  pub inner : List Cell
  pub joins : Joins full inner
  pub text_is : text ≡ inner ++ chomped end chomp full empty

-- ---- the scalar

-- the sign, the header and the lines behind it of a source that begins with a block scalar
pub record Headed (end : ℕ) (src : List Cell) : Type 0 where
  pub sign : Cell
  pub header : List Cell
  pub break : ℕ
  pub following : List Line
  pub source : lines end src ≡ line (sign ∷ header) break ∷ following

-- The scalar ends with the source of its text's last byte, at most at the source's end, and an empty one behind the sign.
pub record IsBlock (Joins : List Line → List Cell → Type 0) (above end : ℕ) (src : List Cell) (v : Value) : Type 0 where
  pub headed : Headed end src
  pub chomp : Chomp
  pub digit : Option ℕ
  pub header : IsHeader headed.header chomp digit
  pub sound : body_fault (is_none digit) above (content_indent above digit headed.following) headed.following ≡ None
  pub text : List Cell
  pub is_text : IsBlockText Joins end chomp (body_of (content_indent above digit headed.following) headed.following) text
  pub last : ℕ
  pub last_is : last ≡ min (end_of (suc headed.sign.at) text) end
  pub value : v ≡ made text last (span headed.sign.at last)

-- a wrong character of the header, or what breaks the body
pub data BreaksBlock (above end : ℕ) (src : List Cell) : Fault → Type 0 where
  header : {wrong : Cell} (headed : Headed end src) → WrongIn headed.header wrong → BreaksBlock above end src (character_fault BadHeader wrong)
  body : {chomp : Chomp} {digit : Option ℕ} {f : Fault} (headed : Headed end src) → IsHeader headed.header chomp digit
      → body_fault (is_none digit) above (content_indent above digit headed.following) headed.following ≡ Some f → BreaksBlock above end src f

-- Reading a block scalar: its header, and its body line by line. A way of reading, which defines nothing: it is proved equal to what specs/Block defines.
use Rattle.std.specs.Prelude.{ℕ, suc, ◌-◌, min, nat_lt, List, [], ◌∷◌, ◌++◌, Bool, false, Option, Some, None, is_none, Result, Ok, Err, ◌==◌, ◌&&◌, ◌||◌, if◌then◌else◌}
use Rattle.std.specs.List.{list_all}
use Rattle.lf_base.specs.declared.kind.Kind.TheVariants.{BadHeader}
use Rattle.lf_scalar.specs.declared.block.Chomp.{Chomp}
use Rattle.lf_scalar.specs.declared.block.Chomp.TheVariants.{Strip, Clip, Keep}
use Rattle.lf_base.specs.declared.fault.Fault.{Fault}
use Rattle.lf_base.specs.Faults.{span, fault}
use Rattle.lf_scalar.specs.Cells.{Cell, cell, Value, made, end_of, character_fault, ◌>>=◌}
use Rattle.lf_scalar.specs.Lines.{Line, lines, is_empty_text}
use Rattle.lf_scalar.specs.Folding.{fold, feeds, trimmed}
use Rattle.lf_scalar.specs.Block.{content_indent, body_of, body_fault, chomped, begins_blank}
use Rattle.lf_scalar.specs.reading.Quoted.{wrong_behind}

-- ---- the header

abbrev pub chomp_of : ℕ → Option Chomp
chomp_of byte = if byte == 45 then Some Strip else if byte == 43 then Some Keep else None

abbrev pub mark_digit : ℕ → Option ℕ
mark_digit byte = if nat_lt byte 49 then None else if nat_lt byte 58 then Some (byte - 48) else None

abbrev pub chomp_or : Option Chomp → Chomp
chomp_or None = Clip
chomp_or (Some chomp) = chomp

-- the marks of a header, or its first wrong cell
abbrev pub Header : Type 0
Header = Result (Chomp × Option ℕ) Cell

abbrev pub ends_header : Option Chomp → Option ℕ → Option Cell → Header
ends_header chomp digit None = Ok (chomp_or chomp, digit)
ends_header chomp digit (Some wrong) = Err wrong

abbrev pub once : {X : Type 0} → Cell → Option X → Header → Header
once c None later = later
once c (Some x) later = Err c

-- by what a cell is: `-` or `+`, a digit, or neither
abbrev pub header_step : Option Chomp → Option ℕ → Cell → List Cell → Option Chomp → Option ℕ → (Option Chomp → Option ℕ → Header) → Header
header_step chomp digit c cs (Some sign) d later = once c chomp (later (Some sign) digit)
header_step chomp digit c cs None (Some d) later = once c digit (later chomp (Some d))
header_step chomp digit c cs None None later = ends_header chomp digit (wrong_behind false (c ∷ cs))

-- what is left of a header behind the marks that were read
unfoldable pub header_from : Option Chomp → Option ℕ → List Cell → Header
header_from chomp digit [] = Ok (chomp_or chomp, digit)
header_from chomp digit (c ∷ cs) = header_step chomp digit c cs (chomp_of c.byte) (mark_digit c.byte) (λ chomp digit. header_from chomp digit cs)

-- ---- the body

abbrev pub is_empty : Line → Bool
is_empty l = is_empty_text l.text

-- the empty lines at the end
abbrev pub empties : List Line → List Line
empties [] = []
empties (l ∷ ls) = if is_empty l && list_all is_empty ls then l ∷ ls else empties ls

-- between a line that isn't empty and the next such, with k empty lines between them
abbrev pub between_of : Line → ℕ → Line → List Cell
between_of l k next = if begins_blank l.text || begins_blank next.text then feeds (suc k) l.break else fold l.break k

-- a line that isn't empty with so many empty lines behind it so far, and what follows
unfoldable pub stretch_of : Line → ℕ → List Line → List Cell
stretch_of l k [] = l.text
stretch_of l k (m ∷ ls) = if is_empty m then stretch_of l (suc k) ls else l.text ++ (between_of l k m ++ stretch_of m 0 ls)

unfoldable pub folded_of : List Line → List Cell
folded_of [] = []
folded_of (l ∷ ls) = if is_empty l then cell 10 l.break ∷ folded_of ls else stretch_of l 0 ls

-- the text of a body whose lines are joined or folded, of a source that ends at an offset
abbrev pub block_text : (List Line → List Cell) → ℕ → Chomp → List Line → List Cell
block_text joins end chomp body = joins (trimmed is_empty body) ++ chomped end chomp (trimmed is_empty body) (empties body)

-- a text, unless something breaks it
abbrev pub unless_broken : Option Fault → List Cell → Result (List Cell) Fault
unless_broken None text = Ok text
unless_broken (Some f) text = Err f

-- the text of the body that some lines begin with
abbrev pub body_read : (List Line → List Cell) → ℕ → ℕ → Chomp → Option ℕ → List Line → Result (List Cell) Fault
body_read joins above end chomp digit following =
    let k = content_indent above digit following in
    unless_broken (body_fault (is_none digit) above k following) (block_text joins end chomp (body_of k following))

-- ---- the scalar

abbrev pub block_value : ℕ → Cell → List Cell → Value
block_value end sign text = made text (min (end_of (suc sign.at) text) end) (span sign.at (min (end_of (suc sign.at) text) end))

abbrev pub block_read : (List Line → List Cell) → ℕ → ℕ → Cell → List Line → Header → Result Value Fault
block_read joins above end sign following (Ok header) = body_read joins above end header.0 header.1 following >>= λ text. Ok (block_value end sign text)
block_read joins above end sign following (Err wrong) = Err (character_fault BadHeader wrong)

abbrev pub block_begun : (List Line → List Cell) → ℕ → ℕ → ℕ → List Cell → List Line → Result Value Fault
block_begun joins above end break [] following = Err (fault BadHeader (span break break))
block_begun joins above end break (sign ∷ header) following = block_read joins above end sign following (header_from None None header)

abbrev pub block_lines : (List Line → List Cell) → ℕ → ℕ → List Line → Result Value Fault
block_lines joins above end [] = Err (fault BadHeader (span end end))
block_lines joins above end (l ∷ ls) = block_begun joins above end l.break l.text ls

unfoldable pub block_of : (List Line → List Cell) → ℕ → ℕ → List Cell → Result Value Fault
block_of joins above end src = block_lines joins above end (lines end src)

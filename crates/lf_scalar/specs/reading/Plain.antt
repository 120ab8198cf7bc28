-- Reading a plain scalar line by line. A way of reading, which defines nothing: it is proved equal to what specs/Plain defines.
use Rattle.std.specs.Prelude.{◌≡◌, ℕ, zero, suc, ◌+◌, ◌<◌, ◌^◌, IfSome, Bool, true, false, get_or, ◌==◌, ◌&&◌, List, [], ◌∷◌, ◌++◌, Option, Some, None, Result, Ok, Err, if◌then◌else◌}
use Rattle.lf_base.specs.declared.kind.Kind.TheVariants.{BadIndent, NotANode}
use Rattle.lf_base.specs.declared.refusal.Refusal.{Refusal}
use Rattle.lf_scalar.specs.declared.plain.PendingPlainBreak.{PendingPlainBreak}
use Rattle.lf_scalar.specs.declared.plain.Onward.{Onward}
use Rattle.lf_scalar.specs.declared.plain.Onward.TheVariants as onward
use Rattle.lf_base.specs.declared.fault.Fault.{Fault}
use Rattle.lf_scalar.specs.Cells.{Cell, cell, cells, Value, Fails, byte_fault, front, ◌>>=◌}
use Rattle.lf_scalar.specs.Lines.{Line, lines, start_of, is_blank, is_blank_line}
use Rattle.lf_scalar.specs.Folding.{fold}
use Rattle.lf_scalar.specs.Plain.{plain_text, is_commented, before_blank, key_sign, continues, has_tab, value_of}

abbrev pub unless_key : List Cell → Option Cell → Result (List Cell) Fault
unless_key text None = Ok text
unless_key text (Some c) = Err (byte_fault NotANode c.at)

abbrev pub plain_line : Line → Result (List Cell) Fault
plain_line l = unless_key (plain_text l) (key_sign (plain_text l))

-- where the first line with a tab behind its spaces begins, with a line more
abbrev pub tab_with : Option ℕ → Line → Option ℕ
tab_with None l = if has_tab l then Some (start_of l) else None
tab_with (Some at) l = Some at

-- what is read of a line that goes on, unless there is such a tab
abbrev pub unless_tab : Option ℕ → Result (List Cell) Fault → Result (List Cell) Fault
unless_tab None read = read
unless_tab (Some at) read = Err (byte_fault BadIndent at)

-- what follows a line break at an offset with so many blank lines so far, and where the first of these begins that has a tab behind its spaces
unfoldable pub plain_behind : ℕ → ℕ → ℕ → Option ℕ → List Line → Result (List Cell) Fault
plain_behind above break k tab [] = Ok []
plain_behind above break k tab (l ∷ ls) =
    if is_blank_line l then plain_behind above break (suc k) (tab_with tab l) ls
    else if continues above l then
    unless_tab (tab_with tab l) (front (fold break k) (plain_line l >>= λ text. front text (if is_commented l then Ok [] else plain_behind above l.break 0 None ls)))
    else Ok []

abbrev pub plain_from : ℕ → Line → List Line → Result (List Cell) Fault
plain_from above l ls = plain_line l >>= λ text. front text (if is_commented l then Ok [] else plain_behind above l.break 0 None ls)

abbrev pub plain_lines_text : ℕ → List Line → Result (List Cell) Fault
plain_lines_text above [] = Ok []
plain_lines_text above (l ∷ ls) = plain_from above l ls

abbrev pub begun_with : Line → List Cell → Result (List Cell) Fault → Result Value Fault
begun_with l [] read = Err (byte_fault NotANode l.break)
begun_with l (c ∷ cs) read = read >>= λ text. Ok (value_of c text)

abbrev pub plain_lines : ℕ → ℕ → List Line → Result Value Fault
plain_lines above end [] = Err (byte_fault NotANode end)
plain_lines above end (l ∷ ls) = begun_with l l.text (plain_from above l ls)

unfoldable pub plain_of : ℕ → ℕ → List Cell → Result Value Fault
plain_of above end src = plain_lines above end (lines end src)

-- ---- what the code does

-- a blank stands at a place and the `#` of a comment behind it
abbrev pub comment_at : List ℕ → ℕ → Bool
comment_at [] n = false
comment_at (b ∷ bytes) zero = is_blank (cell b 0) && (get_or bytes 0 0 == 35)
comment_at (b ∷ bytes) (suc n) = comment_at bytes n

-- a `:` stands at a place and a blank or the text's end behind it
abbrev pub key_at : List ℕ → ℕ → Bool
key_at [] n = false
key_at (b ∷ bytes) zero = (b == 58) && before_blank (cells 0 bytes)
key_at (b ∷ bytes) (suc n) = key_at bytes n

-- what the code tells of a line behind a line of the scalar
abbrev pub IsOnward : ℕ → Line → Onward → Type 0
IsOnward above l onward.Blank = is_blank_line l ≡ true
IsOnward above l onward.Continues = (is_blank_line l ≡ false) × (continues above l ≡ true)
IsOnward above l onward.Ends = (is_blank_line l ≡ false) × (continues above l ≡ false)

-- an offset behind which there is room for one byte
abbrev pub HasRoom : Option ℕ → Type 0
HasRoom tab = IfSome tab (λ at. at + 1 < 2 ^ 32)

-- What a step over the line behind a line break returned, and what it did to a text: another line break waits, the scalar has ended, or the line breaks it. What follows
-- that line doesn't matter.
abbrev pub Steps : ℕ → PendingPlainBreak → Line → Result (Option PendingPlainBreak) Refusal → List Cell → List Cell → Type 0
Steps above folded l (Ok (Some next)) old now =
    (part : List Cell) × (now ≡ old ++ part) × ((ls : List Line) → plain_behind above folded.at folded.blank folded.tab (l ∷ ls) ≡ front part (plain_behind above next.at next.blank next.tab ls))
Steps above folded l (Ok None) old now = (part : List Cell) × (now ≡ old ++ part) × ((ls : List Line) → plain_behind above folded.at folded.blank folded.tab (l ∷ ls) ≡ Ok part)
Steps above folded l (Err e) old now = (ls : List Line) → Fails e (plain_behind above folded.at folded.blank folded.tab (l ∷ ls))

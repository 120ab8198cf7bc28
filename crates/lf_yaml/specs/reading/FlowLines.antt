-- What the code found in one turn over the lines of a plain scalar of a flow collection, as what is read there. It defines nothing of trees.
use Rattle.std.specs.Prelude.{◌≡◌, ℕ, ◌+◌, ◌≤◌, List, ◌∷◌, ◌++◌, true, false, Option, Some, None, Result, Ok, Err}
use Rattle.lf_base.specs.declared.refusal.Refusal.{Refusal}
use Rattle.lf_scalar.specs.Cells.{Cell, Fails}
use Rattle.lf_scalar.specs.Lines.{Line}
use Rattle.lf_yaml.specs.Flow.{is_bare, left_on}
use Rattle.lf_yaml.specs.reading.Trees.{before_text, plain_behind}
use Rattle.lf_yaml.specs.reading.Trees as trees
use Rattle.lf_yaml.specs.declared.flow_plain.PendingFlowBreak.{PendingFlowBreak}
use Rattle.lf_yaml.specs.declared.flow_plain.LineStep.{LineStep}
use Rattle.lf_yaml.specs.declared.flow_plain.LineStep.TheVariants as step

-- where something other than blanks is left of a line behind its text, if something is
abbrev pub IsLeft : Line → Option ℕ → Type 0
IsLeft l None = is_bare l ≡ true
IsLeft l (Some after) = (is_bare l ≡ false) × (left_on l ≡ after)

-- What a step over the line behind a line break returned, and what it did to a text: another line break waits, the scalar has ended, or the line breaks it. What follows
-- that line doesn't matter.
abbrev pub Steps : PendingFlowBreak → Line → Result LineStep Refusal → List Cell → List Cell → Type 0
Steps folded l (Ok (step.On next)) old now =
    (part : List Cell) × (now ≡ old ++ part) × ((ls : List Line) → plain_behind folded.at folded.blank (l ∷ ls) ≡ before_text part (plain_behind next.at next.blank ls))
Steps folded l (Ok (step.Ends after)) old now = (part : List Cell) × (now ≡ old ++ part) × ((ls : List Line) → plain_behind folded.at folded.blank (l ∷ ls) ≡ Ok (part, after))
Steps folded l (Err e) old now = (ls : List Line) → Fails e (plain_behind folded.at folded.blank (l ∷ ls))

-- at most one line of spaces more waits
abbrev pub IsFew : ℕ → LineStep → Type 0
IsFew blank (step.On next) = next.blank ≤ blank + 1
IsFew blank (step.Ends after) = Unit {0}

-- what a function that appends to a text returned, and what it did to the text, is what is read, unless memory ran out
abbrev pub FoldsAs : Result ℕ Refusal → List Cell → List Cell → trees.Folded → Type 0
FoldsAs (Ok after) old now read = (part : List Cell) × (read ≡ Ok (part, after)) × (now ≡ old ++ part)
FoldsAs (Err e) old now read = Fails e read

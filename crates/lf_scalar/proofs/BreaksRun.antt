-- The line breaks of a body's lines, one after the other.
use Rattle.std.proofs.Common.{◌≡◌, ℕ, ◌+◌, ◌≤◌, Option, List, [], ◌∷◌, ◌++◌, length, take, ap, sym, ◌∙◌, append_assoc}
use Rattle.std.proofs.lemmas.List.{append-nil}
use Rattle.lf_scalar.specs.Cells.{Cell}
use Rattle.lf_scalar.specs.Lines.{Line, line, lines_at}
use Rattle.lf_scalar.specs.Block.{line_end, line_ends}
use Rattle.lf_scalar.specs.reading.Body.{break_of}
use Rattle.lf_scalar.proofs.BodyRun.{line_there}
use Rattle.lf_scalar.proofs.Walk.{lines_left, left-start, left-end}

abbrev pub Ends : List Cell → List Cell → ℕ → List ℕ → ℕ → ℕ → ℕ → Type 0
Ends old now at bytes count i place = now ++ line_ends (at + length bytes) (lines_left at bytes count i place) ≡ old ++ line_ends (at + length bytes) (take count (lines_at at bytes))

pub ends-start : (old : List Cell) (at : ℕ) (bytes : List ℕ) (count : ℕ) → Ends old old at bytes count 0 0
ends-start old at bytes count = ap (λ (ls : List Line). old ++ line_ends (at + length bytes) ls) (left-start at bytes count)

pub ends-end : (old now : List Cell) (at : ℕ) (bytes : List ℕ) (count i place : ℕ) → Ends old now at bytes count i place → count ≤ i → now ≡ old ++ line_ends (at + length bytes) (take count (lines_at at bytes))
ends-end old now at bytes count i place b h = sym (append-nil now) ∙ ap (λ (ls : List Line). now ++ line_ends (at + length bytes) ls) (sym (left-end at bytes count i place h)) ∙ b

pub ends-next : (old now after : List Cell) (at : ℕ) (bytes : List ℕ) (count i place next text stop : ℕ) (break : Option ℕ)
    → lines_left at bytes count i place ≡ line_there at bytes place text stop ∷ lines_left at bytes count (i + 1) next
    → break_of break ≡ line_end (at + length bytes) (line [] (at + stop)) → after ≡ now ++ break_of break → Ends old now at bytes count i place → Ends old after at bytes count (i + 1) next
ends-next old now after at bytes count i place next text stop break left e a b =
    ap (λ (x : List Cell). x ++ line_ends (at + length bytes) (lines_left at bytes count (i + 1) next)) (a ∙ ap (λ (x : List Cell). now ++ x) e)
    ∙ append_assoc now (line_end (at + length bytes) (line [] (at + stop))) (line_ends (at + length bytes) (lines_left at bytes count (i + 1) next))
    ∙ ap (λ (x : List Line). now ++ line_ends (at + length bytes) x) (sym left) ∙ b

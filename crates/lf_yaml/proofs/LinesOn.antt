-- The line at an offset of a file and the lines behind it, as the code finds them.
use Rattle.std.proofs.Common.{◌≡◌, ℕ, ◌+◌, ◌<◌, List, [], ◌∷◌, length, take, drop, ap, arith, sym, ◌∙◌, length-drop, inl, inr}
use Rattle.std.proofs.lemmas.List.{drop_all, drop-drop}
use Rattle.lf_scalar.specs.Cells.{cells}
use Rattle.lf_scalar.specs.Lines.{Line, line, lines, lines_at}
use Rattle.lf_scalar.specs.Scalars.{source_at}
use Rattle.lf_scalar.proofs.LineSteps.{lines-nil}
use Rattle.lf_yaml.specs.Rows.{rows_of}
use Rattle.lf_yaml.specs.Flow.{first_line, later_lines, lines_on, line_on, lines_below}
use Rattle.lf_yaml.specs.views.Cursor.{rows_after}
use Rattle.lf_yaml.proofs.RowsAfter.{Behind, lines-from}

abbrev IsFirst : ℕ → ℕ → ℕ → List ℕ → Type 0
IsFirst from t f rest = lines_at from rest ≡ line (cells from (take t rest)) (from + f) ∷ lines_at (from + (f + 1)) (drop (f + 1) rest)

pub first-on : (bytes : List ℕ) (from t f : ℕ) (rest : List ℕ) → from < length bytes → rest ≡ drop from bytes → IsFirst from t f rest → lines_on bytes from ≡ line (cells from (take t rest)) (from + f) ∷ lines_at (from + (f + 1)) (drop (f + 1) rest)
first-on bytes from t f rest lt e first = sym (lines-from bytes from (omega (arith, lt))) ∙ ap (lines_at from) (sym e) ∙ first

pub line-rest : (bytes : List ℕ) (from t f : ℕ) (text rest : List ℕ) → from < length bytes → rest ≡ drop from bytes → text ≡ take t rest → IsFirst from t f rest → cells from text ≡ (line_on bytes from).text
line-rest bytes from t f text rest lt e k first = ap (cells from) k ∙ sym (ap (λ (ls : List Line). (first_line (length bytes) ls).text) (first-on bytes from t f rest lt e first))

pub line-break : (bytes : List ℕ) (from t f : ℕ) (rest : List ℕ) → from < length bytes → rest ≡ drop from bytes → IsFirst from t f rest → (line_on bytes from).break ≡ from + f
line-break bytes from t f rest lt e first = ap (λ (ls : List Line). (first_line (length bytes) ls).break) (first-on bytes from t f rest lt e first)

pub lines-below-at : (bytes : List ℕ) (from t f : ℕ) (rest : List ℕ) → from < length bytes → rest ≡ drop from bytes → IsFirst from t f rest → lines_below bytes from ≡ lines_at (from + (f + 1)) (drop (f + 1) rest)
lines-below-at bytes from t f rest lt e first = ap later_lines (first-on bytes from t f rest lt e first)

-- the lines behind it begin where the code says
behind-lines : (bytes : List ℕ) (from f behind : ℕ) (rest : List ℕ) → from < length bytes → rest ≡ drop from bytes → Behind bytes from rest f behind → lines_at (from + (f + 1)) (drop (f + 1) rest) ≡ lines (length bytes) (source_at bytes behind)
behind-lines bytes from f behind rest lt e (inl (within, p)) =
    let d : drop (f + 1) rest ≡ drop behind bytes = ap (drop (f + 1)) e ∙ drop-drop (f + 1) from bytes ∙ ap (λ (n : ℕ). drop n bytes) (omega (arith, p)) in
    let z : from + (f + 1) ≡ behind = omega (arith, p) in
    ap (λ (xs : List ℕ). lines_at (from + (f + 1)) xs) d ∙ ap (λ (n : ℕ). lines_at n (drop behind bytes)) z ∙ lines-from bytes behind (omega (arith, p, within, ap length e, length-drop from bytes))
behind-lines bytes from f behind rest lt e (inr (within, p)) =
    let n : drop (f + 1) rest ≡ [] = drop_all (f + 1) rest (omega (arith, within)) in
    let nothing : lines_at (from + (f + 1)) (drop (f + 1) rest) ≡ [] = ap (λ (xs : List ℕ). lines_at (from + (f + 1)) xs) n ∙ lines-nil _ in
    let none : lines (length bytes) (source_at bytes behind) ≡ [] = ap (λ (xs : List ℕ). lines (length bytes) (cells behind xs)) (drop_all behind bytes (omega (arith, p))) ∙ lines-nil (length bytes) in
    nothing ∙ sym none

pub line-below : (bytes : List ℕ) (from t f behind : ℕ) (rest : List ℕ) → from < length bytes → rest ≡ drop from bytes → Behind bytes from rest f behind → IsFirst from t f rest → rows_after bytes behind ≡ rows_of (lines_below bytes from)
unfolding rows_after
line-below bytes from t f behind rest lt e b first = sym (ap rows_of (lines-below-at bytes from t f rest lt e first ∙ behind-lines bytes from f behind rest lt e b))

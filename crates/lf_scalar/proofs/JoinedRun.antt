-- Joining a body's lines one after the other.
use Rattle.std.proofs.Common.{◌≡◌, ℕ, ◌+◌, ◌≤◌, List, [], ◌∷◌, ◌++◌, length, take, drop, Option, Some, None, refl, ap, arith, sym, ◌∙◌, append_assoc, inl, inr, min}
use Rattle.std.proofs.lemmas.List.{append-nil, drop_all}
use Rattle.std.proofs.lemmas.Bool.Decides.{leb_tells}
use Rattle.lf_scalar.specs.declared.joined.Joining.{Joining}
use Rattle.lf_scalar.specs.declared.joined.Joining.TheVariants.{Literal, Folded}
use Rattle.lf_scalar.specs.declared.joined.LastLine.{LastLine}
use Rattle.lf_scalar.specs.Cells.{Cell, cell, cells}
use Rattle.lf_scalar.specs.Lines.{Line, line, lines_at}
use Rattle.lf_scalar.specs.Block.{joined}
use Rattle.lf_scalar.specs.reading.Block.{folded_of}
use Rattle.lf_scalar.specs.reading.Body.{contents, joins_of, literal_behind, joined_behind}
use Rattle.lf_scalar.proofs.BodyRun.{line_there}
use Rattle.lf_scalar.proofs.Walk.{lines_left, left-start, left-end}
use Rattle.lf_scalar.proofs.Reaching.{drop-cells}
use Rattle.lf_scalar.proofs.Cells.{cells-length}

-- ---- one line of a literal scalar

joined-step : (l : Line) (o : LastLine) (ls : List Line) → o.feed ≡ l.break → joined (l ∷ ls) ≡ l.text ++ literal_behind (Some o) ls
joined-step l o [] e = sym (append-nil l.text)
joined-step l o (m ∷ ls) e = rw e refl

module _ (old now : List Cell) (at feed : ℕ) (text : List ℕ) (after : LastLine) (is : after.feed ≡ feed) where
  pub literal-first : (ls : List Line) → now ≡ old ++ cells at text → now ++ literal_behind (Some after) ls ≡ old ++ literal_behind None (line (cells at text) feed ∷ ls)
  literal-first ls h =
      ap (λ (cs : List Cell). cs ++ literal_behind (Some after) ls) h ∙ append_assoc old (cells at text) (literal_behind (Some after) ls) ∙ ap (λ (cs : List Cell). old ++ cs) (sym (joined-step (line (cells at text) feed) after ls is))

  pub literal-next : (o : LastLine) (broken : List Cell) (ls : List Line) → broken ≡ old ++ cell 10 o.feed ∷ [] → now ≡ broken ++ cells at text
      → now ++ literal_behind (Some after) ls ≡ old ++ literal_behind (Some o) (line (cells at text) feed ∷ ls)
  literal-next o broken ls b h =
      ap (λ (cs : List Cell). cs ++ literal_behind (Some after) ls) (h ∙ ap (λ (cs : List Cell). cs ++ cells at text) b)
      ∙ append_assoc (old ++ cell 10 o.feed ∷ []) (cells at text) (literal_behind (Some after) ls) ∙ append_assoc old (cell 10 o.feed ∷ []) (cells at text ++ literal_behind (Some after) ls)
      ∙ ap (λ (cs : List Cell). old ++ cell 10 o.feed ∷ cs) (sym (joined-step (line (cells at text) feed) after ls is))

-- ---- so many lines

abbrev pub Joins : Joining → ℕ → List Cell → List Cell → ℕ → List ℕ → ℕ → Option LastLine → ℕ → ℕ → Type 0
Joins j k old now at bytes count last i place = now ++ joined_behind j last (contents k (lines_left at bytes count i place)) ≡ old ++ joins_of j (contents k (take count (lines_at at bytes)))

none-before : (j : Joining) (ls : List Line) → joined_behind j None ls ≡ joins_of j ls
none-before Literal ls = refl
none-before Folded ls = refl

pub joins-start : (j : Joining) (k : ℕ) (old : List Cell) (at : ℕ) (bytes : List ℕ) (count : ℕ) → Joins j k old old at bytes count None 0 0
joins-start j k old at bytes count =
    ap (λ (cs : List Cell). old ++ cs) (none-before j (contents k (lines_left at bytes count 0 0)) ∙ ap (λ (ls : List Line). joins_of j (contents k ls)) (left-start at bytes count))

nothing-behind : (j : Joining) (last : Option LastLine) → joined_behind j last [] ≡ []
unfolding folded_of
nothing-behind Literal None = refl
nothing-behind Literal (Some o) = refl
nothing-behind Folded None = refl
nothing-behind Folded (Some o) = refl

pub joins-end : (j : Joining) (k : ℕ) (old now : List Cell) (at : ℕ) (bytes : List ℕ) (count : ℕ) (last : Option LastLine) (i place : ℕ) → Joins j k old now at bytes count last i place → count ≤ i → now ≡ old ++ joins_of j (contents k (take count (lines_at at bytes)))
joins-end j k old now at bytes count last i place f h =
    sym (append-nil now) ∙ ap (λ (cs : List Cell). now ++ cs) (sym (nothing-behind j last)) ∙ ap (λ (ls : List Line). now ++ joined_behind j last (contents k ls)) (sym (left-end at bytes count i place h)) ∙ f

-- what follows the content indent, as the code finds it
content-there : (k at : ℕ) (line : List ℕ) → cells (at + min k (length line)) (drop (min k (length line)) line) ≡ drop k (cells at line)
content-there k at line =
    elim (leb_tells k (length line)) [
      | inl a ↦ let m : min k (length line) ≡ k = omega (arith, a.1) in rw m (sym (drop-cells k at line))
      | inr a ↦
          let m : min k (length line) ≡ length line = omega (arith, a.1) in
          rw m (ap (cells (at + length line)) (drop_all (length line) line (omega arith)) ∙ sym (drop_all k (cells at line) (omega (arith, a.1, cells-length at line))))
    ]

pub joins-next : (j : Joining) (k : ℕ) (old now after : List Cell) (at : ℕ) (bytes : List ℕ) (count : ℕ) (last behind : Option LastLine) (i place next text stop skipped : ℕ) (content_text : List ℕ)
    → lines_left at bytes count i place ≡ line_there at bytes place text stop ∷ lines_left at bytes count (i + 1) next
    → skipped ≡ min k (length (take text (drop place bytes))) → content_text ≡ drop skipped (take text (drop place bytes))
    → ((ls : List Line) → after ++ joined_behind j behind ls ≡ now ++ joined_behind j last (line (cells (at + (place + skipped)) content_text) (at + stop) ∷ ls))
    → Joins j k old now at bytes count last i place → Joins j k old after at bytes count behind (i + 1) next
joins-next j k old now after at bytes count last behind i place next text stop skipped content_text left s t gave f =
    let a : at + (place + skipped) ≡ at + place + skipped = omega arith in
    let c : cells (at + (place + skipped)) content_text ≡ drop k (cells (at + place) (take text (drop place bytes))) = rw (a, t, s) (content-there k (at + place) (take text (drop place bytes))) in
    gave (contents k (lines_left at bytes count (i + 1) next))
    ∙ ap (λ (cs : List Cell). now ++ joined_behind j last (line cs (at + stop) ∷ contents k (lines_left at bytes count (i + 1) next))) c
    ∙ ap (λ (x : List Line). now ++ joined_behind j last (contents k x)) (sym left) ∙ f

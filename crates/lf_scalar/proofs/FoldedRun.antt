-- Folding a body's lines one after the other.
use Rattle.std.proofs.Common.{◌≡◌, ℕ, suc, ◌<◌, Bool, List, [], ◌∷◌, ◌++◌, length, get_or, Option, Some, None, refl, ap, arith, sym, ◌∙◌, append_assoc, add-one, inl, inr}
use Rattle.std.specs.Prelude.{IfSome}
use Rattle.std.proofs.lemmas.List.{append-nil}
use Rattle.std.proofs.lemmas.Bool.{cases_Bool}
use Rattle.lf_scalar.specs.declared.joined.LastLine.{LastLine}
use Rattle.lf_scalar.specs.Cells.{Cell, cell, cells}
use Rattle.lf_scalar.specs.Lines.{Line, line, is_blank}
use Rattle.lf_scalar.specs.Block.{begins_blank}
use Rattle.lf_scalar.specs.reading.Block.{is_empty, stretch_of, folded_of}
use Rattle.lf_scalar.specs.reading.Body.{between_last, last_behind, folded_behind, FewBehind}

-- a line that isn't empty, with k empty ones behind it
abbrev last_of : Line → ℕ → LastLine
last_of l k = record { feed = l.break; blank = begins_blank l.text; empty = k }

stretch-step : (l : Line) (k : ℕ) (ls : List Line) → stretch_of l k ls ≡ l.text ++ last_behind (last_of l k) ls
unfolding stretch_of
stretch-step l k [] = sym (append-nil l.text)
stretch-step l k (m ∷ ls) =
    elim (cases_Bool (is_empty m)) [
      | inl a ↦ rw a (stretch-step l (suc k) ls ∙ ap (λ (n : ℕ). l.text ++ last_behind (last_of l n) ls) (sym (add-one k)))
      | inr a ↦ rw a refl
    ]

-- ---- one line

abbrev Gave : List Cell → List Cell → Option LastLine → Option LastLine → ℕ → List ℕ → ℕ → List Line → Type 0
Gave old now last after at text feed ls = now ++ folded_behind after ls ≡ old ++ folded_behind last (line (cells at text) feed ∷ ls)

module _ (old now : List Cell) (at feed : ℕ) where
  pub empty-first : (text : List ℕ) (ls : List Line) → length text ≡ 0 → now ≡ old ++ cell 10 feed ∷ [] → Gave old now None None at text feed ls
  unfolding folded_of
  empty-first [] ls e h = ap (λ (cs : List Cell). cs ++ folded_of ls) h ∙ append_assoc old (cell 10 feed ∷ []) (folded_of ls)
  empty-first (x ∷ xs) ls e h = absurd (omega (arith, e))

  pub full-open : (text : List ℕ) (o : LastLine) (b : Bool) (between : List Cell) (ls : List Line) → 0 < length text → b ≡ is_blank (cell (get_or text 0 0) 0) → between ≡ old ++ between_last o b → now ≡ between ++ cells at text
      → Gave old now (Some o) (Some (record { feed = feed; blank = b; empty = 0 })) at text feed ls
  full-open [] o b between ls lt e f g = absurd (omega arith)
  full-open (x ∷ xs) o b between ls lt e f g =
      let l : Line = line (cells at (x ∷ xs)) feed in
      let more : List Cell = last_behind (last_of l 0) ls in
      rw e (ap (λ (cs : List Cell). cs ++ more) (g ∙ ap (λ (cs : List Cell). cs ++ cells at (x ∷ xs)) (f ∙ ap (λ (t : Bool). old ++ between_last o t) e))
      ∙ append_assoc (old ++ between_last o (is_blank (cell x 0))) (cells at (x ∷ xs)) more ∙ append_assoc old (between_last o (is_blank (cell x 0))) (cells at (x ∷ xs) ++ more)
      ∙ ap (λ (cs : List Cell). old ++ (between_last o (is_blank (cell x 0)) ++ cs)) (sym (stretch-step l 0 ls)))

  pub full-first : (text : List ℕ) (b : Bool) (ls : List Line) → 0 < length text → b ≡ is_blank (cell (get_or text 0 0) 0) → now ≡ old ++ cells at text
      → Gave old now None (Some (record { feed = feed; blank = b; empty = 0 })) at text feed ls
  unfolding folded_of
  full-first [] b ls lt e g = absurd (omega arith)
  full-first (x ∷ xs) b ls lt e g =
      let l : Line = line (cells at (x ∷ xs)) feed in
      rw e (ap (λ (cs : List Cell). cs ++ last_behind (last_of l 0) ls) g ∙ append_assoc old (cells at (x ∷ xs)) (last_behind (last_of l 0) ls) ∙ ap (λ (cs : List Cell). old ++ cs) (sym (stretch-step l 0 ls)))

pub few-below : (last : Option LastLine) (n m : ℕ) → FewBehind last n → n < m → IfSome last (λ o. o.empty < m)
few-below None n m h lt = tt
few-below (Some o) n m h lt = omega arith

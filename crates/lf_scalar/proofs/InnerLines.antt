-- The lines between quotes: nothing closes in a line before the last, and the last ends with the quote that closes.
use Rattle.std.proofs.Common.{◌≡◌, ◌≢◌, ℕ, zero, suc, ◌<◌, true, false, eqb, List, [], ◌∷◌, Option, Some, None, length, eq-eqb, refl, ap, arith, sym, ◌∙◌, subst, ◌⊎◌, inl, inr}
use Rattle.std.proofs.lemmas.Bool.{ne_eqb, cases_Bool}
use Rattle.std.proofs.lemmas.Bool.Decides.{eqb_tells}
use Rattle.lf_scalar.specs.Cells.{Cell}
use Rattle.lf_scalar.specs.Lines.{Line, line, begins_with, lengthen, lines}
use Rattle.lf_scalar.proofs.LineSteps.{IsOther, line-step, lines-nil, lines-feed, lines-return, lines-other}
use Rattle.lf_scalar.specs.Quoted.{Quotes, Single, Double}
use Rattle.lf_scalar.specs.reading.Quoted.{closing_of}
use Rattle.lf_scalar.specs.Splits.{Split, behind_cell}

-- in these lines, the first of them read behind so many skipped cells, only the last has a quote that closes, and it ends with it
abbrev pub LinesOk : Quotes → ℕ → Cell → List Line → Type 0
LinesOk kind k closing [] = ⊥
LinesOk kind k closing (l ∷ []) = (inside : List Cell) × (closing_of kind k l.text ≡ Some (inside, (closing, [])))
LinesOk kind k closing (l ∷ m ∷ ls) = (closing_of kind k l.text ≡ None) × LinesOk kind 0 closing (m ∷ ls)

-- a typed Some
abbrev found : Split → Option Split
found x = Some x

found-is : (x y : Split) → found x ≡ found y → x ≡ y
found-is x y e = cc

pub behind-none : (c : Cell) (o : Option Split) → o ≡ None → behind_cell c o ≡ None
behind-none c o e = rw e refl

behind-some : (c : Cell) (o : Option Split) (inside : List Cell) (x : Cell × List Cell) → o ≡ Some (inside, x) → behind_cell c o ≡ Some (c ∷ inside, x)
behind-some c o inside x e = rw e refl

-- what is found behind a cell is found
pub behind-was : (c : Cell) (o : Option Split) (inside : List Cell) (x : Cell × List Cell) → behind_cell c o ≡ Some (inside, x) → (more : List Cell) × (o ≡ Some (more, x))
behind-was c None inside x e = absurd (none e)
  where
    none : None ≡ found (inside, x) → ⊥
    none e = cc
behind-was c (Some y) inside x e =
    let j : y.1 ≡ x = ap (λ (z : Split). z.1) (found-is (c ∷ y.0, y.1) (inside, x) e) in
    (y.0, ap (λ (z : Cell × List Cell). found (y.0, z)) j)

-- a cell more at the front of the first line: how the step from it skips
abbrev Steps : Quotes → ℕ → ℕ → Cell → List Cell → Type 0
Steps kind k j c src = (t : List Cell) → begins_with 39 t ≡ begins_with 39 src → closing_of kind k (c ∷ t) ≡ behind_cell c (closing_of kind j t)

lengthened : (kind : Quotes) (k j end : ℕ) (c closing : Cell) (src : List Cell) (ls : List Line) → ((l : Line) (ms : List Line) → ls ≡ l ∷ ms → begins_with 39 l.text ≡ begins_with 39 src) → Steps kind k j c src → LinesOk kind j closing ls → LinesOk kind k closing (lengthen end c ls)
lengthened kind k j end c closing src [] same steps ok = absurd ok
lengthened kind k j end c closing src (l ∷ []) same steps (inside, e) = (c ∷ inside, steps l.text (same l [] refl) ∙ behind-some c _ inside (closing, []) e)
lengthened kind k j end c closing src (l ∷ m ∷ ls) same steps (e, ok) = (steps l.text (same l (m ∷ ls) refl) ∙ behind-none c _ e, ok)

-- the first line begins as the source does
first-begins : (end : ℕ) (src : List Cell) (l : Line) (ms : List Line) → lines end src ≡ l ∷ ms → begins_with 39 l.text ≡ begins_with 39 src
first-begins end [] l ms e = absurd (none (sym (lines-nil end) ∙ e))
  where
    none : [] ≡ l ∷ ms → ⊥
    none e = cc
first-begins end (c ∷ src) l ms e =
    elim (line-step c src) [
      | inl a ↦
          let h : line [] c.at ∷ lines end src ≡ l ∷ ms = sym (lines-feed end c src a) ∙ e in
          let i : line [] c.at ≡ l = cc in
          rw (← i, a) refl
      | inr (inl r) ↦
          let h : line [] r.feed.at ∷ lines end r.rest ≡ l ∷ ms = sym (lines-return end c src r) ∙ e in
          let i : line [] r.feed.at ≡ l = cc in
          rw (← i, r.return) refl
      | inr (inr o) ↦ longer (lines end src) (sym (lines-other end c src o) ∙ e)
    ]
  where
    longer : (ls : List Line) → lengthen end c ls ≡ l ∷ ms → begins_with 39 l.text ≡ eqb c.byte 39
    longer [] e = let i : line (c ∷ []) end ≡ l = cc in rw (← i) refl
    longer (m ∷ ls) e = let i : line (c ∷ m.text) m.break ≡ l = cc in rw (← i) refl

-- an empty first line that ends before other lines
empty-first : (kind : Quotes) (k at : ℕ) (closing : Cell) (ls : List Line) → LinesOk kind 0 closing ls → LinesOk kind k closing (line [] at ∷ ls)
unfolding closing_of
empty-first kind k at closing [] ok = absurd ok
empty-first kind k at closing (l ∷ ls) ok = (refl, ok)

-- a cell that is neither a quote nor a backslash is passed
pub passed : (kind : Quotes) (k : ℕ) (c : Cell) (src : List Cell) → k < 2 → c.byte ≢ 39 → c.byte ≢ 34 → c.byte ≢ 92 → closing_of kind k (c ∷ src) ≡ behind_cell c (closing_of kind 0 src)
unfolding closing_of
passed kind (suc zero) c src lt a b d = refl
passed kind (suc (suc k)) c src lt a b d = absurd (omega arith)
passed Single zero c src lt a b d = rw (ne_eqb c.byte 39 a) refl
passed Double zero c src lt a b d = rw (ne_eqb c.byte 34 b, ne_eqb c.byte 92 d) refl

one-of : (b : ℕ) → (b ≡ 10) ⊎ (b ≡ 13) → (b ≢ 39) × (b ≢ 34) × (b ≢ 92)
one-of b (inl h) = (λ e. omega arith, λ e. omega arith, λ e. omega arith)
one-of b (inr h) = (λ e. omega arith, λ e. omega arith, λ e. omega arith)

passed-end : (kind : Quotes) (k : ℕ) (c : Cell) (src : List Cell) → k < 2 → (c.byte ≡ 10) ⊎ (c.byte ≡ 13) → closing_of kind k (c ∷ src) ≡ behind_cell c (closing_of kind 0 src)
passed-end kind k c src lt h = let n = one-of c.byte h in passed kind k c src lt n.0 n.1 n.2

abbrev Inner : Quotes → ℕ → ℕ → Cell → List Cell → Type 0
Inner kind end k closing src = (inside : List Cell) → closing_of kind k src ≡ Some (inside, (closing, [])) → LinesOk kind k closing (lines end src)

-- a cell more before the first line, from which reading goes on behind j skipped cells
longer : (kind : Quotes) (end k j : ℕ) (c closing : Cell) (src inside : List Cell) → IsOther c src → Steps kind k j c src → closing_of kind k (c ∷ src) ≡ Some (inside, (closing, [])) → Inner kind end j closing src → LinesOk kind k closing (lines end (c ∷ src))
longer kind end k j c closing src inside o steps e later =
    let was = behind-was c (closing_of kind j src) inside (closing, []) (sym (steps src refl) ∙ e) in
    subst (LinesOk kind k closing) (sym (lines-other end c src o)) (lengthened kind k j end c closing src (lines end src) (first-begins end src) steps (later was.0 was.1))

-- the quote that closes stands there, and nothing behind it
ends-here : (kind : Quotes) (end : ℕ) (c closing : Cell) (src inside : List Cell) → IsOther c src → closing_of kind 0 (c ∷ src) ≡ Some ([], (c, src)) → closing_of kind 0 (c ∷ src) ≡ Some (inside, (closing, [])) → LinesOk kind 0 closing (lines end (c ∷ src))
ends-here kind end c closing src inside o f e =
    let h = found-is ([], (c, src)) (inside, (closing, [])) (sym f ∙ e) in
    let i : src ≡ [] = ap (λ (x : Split). x.1.1) h in
    subst (LinesOk kind 0 closing) (sym (lines-other end c src o ∙ ap (lengthen end c) (ap (lines end) i ∙ lines-nil end))) (inside, sym (ap (λ (x : List Cell). closing_of kind 0 (c ∷ x)) i) ∙ e)

steps-skip : (kind : Quotes) (c : Cell) (src : List Cell) → Steps kind 1 0 c src
unfolding closing_of
steps-skip kind c src = λ t same. refl

steps-bare : (c : Cell) (src : List Cell) → c.byte ≢ 39 → Steps Single 0 0 c src
unfolding closing_of
steps-bare c src n = λ t same. rw (ne_eqb c.byte 39 n) refl

steps-twice : (c : Cell) (src : List Cell) → c.byte ≡ 39 → begins_with 39 src ≡ true → Steps Single 0 1 c src
unfolding closing_of
steps-twice c src e b = λ t same. rw (eq-eqb c.byte 39 e, same ∙ b) refl

steps-double : (c : Cell) (src : List Cell) → c.byte ≢ 34 → c.byte ≢ 92 → Steps Double 0 0 c src
unfolding closing_of
steps-double c src n m = λ t same. rw (ne_eqb c.byte 34 n, ne_eqb c.byte 92 m) refl

steps-escape : (c : Cell) (src : List Cell) → eqb c.byte 34 ≡ false → c.byte ≡ 92 → Steps Double 0 1 c src
unfolding closing_of
steps-escape c src n e = λ t same. rw (n, eq-eqb c.byte 92 e) refl

closes-single : (c : Cell) (src : List Cell) → c.byte ≡ 39 → begins_with 39 src ≡ false → closing_of Single 0 (c ∷ src) ≡ Some ([], (c, src))
unfolding closing_of
closes-single c src e b = rw (eq-eqb c.byte 39 e, b) refl

closes-double : (c : Cell) (src : List Cell) → c.byte ≡ 34 → closing_of Double 0 (c ∷ src) ≡ Some ([], (c, src))
unfolding closing_of
closes-double c src e = rw (eq-eqb c.byte 34 e) refl

nothing-found : (kind : Quotes) (k : ℕ) → closing_of kind k [] ≡ None
unfolding closing_of
nothing-found kind k = refl

other-lines : (kind : Quotes) (end k : ℕ) (c closing : Cell) (src inside : List Cell) → k < 2 → IsOther c src → closing_of kind k (c ∷ src) ≡ Some (inside, (closing, [])) → ((j : ℕ) → j < 2 → Inner kind end j closing src) → LinesOk kind k closing (lines end (c ∷ src))
other-lines kind end (suc zero) c closing src inside small o e later = longer kind end 1 0 c closing src inside o (steps-skip kind c src) e (later 0 (omega arith))
other-lines kind end (suc (suc k)) c closing src inside small o e later = absurd (omega arith)
other-lines Single end zero c closing src inside small o e later =
    elim (eqb_tells c.byte 39) [
      | inl a ↦ elim (cases_Bool (begins_with 39 src)) [
        | inl b ↦ longer Single end 0 1 c closing src inside o (steps-twice c src a.1 b) e (later 1 (omega arith))
        | inr b ↦ ends-here Single end c closing src inside o (closes-single c src a.1 b) e
      ]
      | inr a ↦ longer Single end 0 0 c closing src inside o (steps-bare c src a.1) e (later 0 (omega arith))
    ]
other-lines Double end zero c closing src inside small o e later =
    elim (eqb_tells c.byte 34) [
      | inl a ↦ ends-here Double end c closing src inside o (closes-double c src a.1) e
      | inr a ↦ elim (eqb_tells c.byte 92) [
        | inl b ↦ longer Double end 0 1 c closing src inside o (steps-escape c src a.0 b.1) e (later 1 (omega arith))
        | inr b ↦ longer Double end 0 0 c closing src inside o (steps-double c src a.1 b.1) e (later 0 (omega arith))
      ]
    ]

pub inner-lines : (kind : Quotes) (end n k : ℕ) (closing : Cell) (src inside : List Cell) → length src < n → k < 2 → closing_of kind k src ≡ Some (inside, (closing, [])) → LinesOk kind k closing (lines end src)
inner-lines kind end zero k closing src inside lt small e = absurd (omega arith)
inner-lines kind end (suc n) k closing [] inside lt small e = absurd (none (sym (nothing-found kind k) ∙ e))
  where
    none : None ≡ found (inside, (closing, [])) → ⊥
    none e = cc
inner-lines kind end (suc n) k closing (c ∷ src) inside lt small e =
    elim (line-step c src) [
      | inl a ↦
          let was = behind-was c (closing_of kind 0 src) inside (closing, []) (sym (passed-end kind k c src small (inl a)) ∙ e) in
          subst (LinesOk kind k closing) (sym (lines-feed end c src a)) (empty-first kind k c.at closing (lines end src) (inner-lines kind end n 0 closing src was.0 (omega arith) (omega arith) was.1))
      | inr (inl r) ↦
          let shorter : length src ≡ suc (length r.rest) = ap length r.source in
          let was = behind-was c (closing_of kind 0 src) inside (closing, []) (sym (passed-end kind k c src small (inr r.return)) ∙ e) in
          let again = behind-was r.feed (closing_of kind 0 r.rest) was.0 (closing, []) (sym (ap (closing_of kind 0) r.source ∙ passed-end kind 0 r.feed r.rest (omega arith) (inl r.is_feed)) ∙ was.1) in
          subst (LinesOk kind k closing) (sym (lines-return end c src r)) (empty-first kind k r.feed.at closing (lines end r.rest) (inner-lines kind end n 0 closing r.rest again.0 (omega (arith, shorter)) (omega arith) again.1))
      | inr (inr o) ↦ other-lines kind end k c closing src inside small o e (λ j small inside e. inner-lines kind end n j closing src inside (omega arith) small e)
    ]

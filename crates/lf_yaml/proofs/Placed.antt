-- The rows of a file stand where they say: from a row's first cell on, its text is the rest of a line of the file.
use Rattle.std.proofs.Common.{◌≡◌, ℕ, suc, ◌+◌, Bool, true, false, eqb, cond, List, [], ◌∷◌, ◌++◌, length, drop, Some, None, refl, ap, arith, sym, ◌∙◌, subst, append_assoc, inl, inr}
use Rattle.std.specs.List.{AllByRecursion}
use Rattle.std.proofs.lemmas.Bool.{cases_Bool}
use Rattle.std.proofs.lemmas.List.{drop-drop}
use Rattle.std.proofs.lemmas.Option.{same_Some}
use Rattle.lf_scalar.specs.Cells.{Cell, cell, cells}
use Rattle.lf_scalar.specs.Lines.{Line, line, lengthen, lines, first_text, begins_with, is_blank, after_spaces}
use Rattle.lf_scalar.specs.Scalars.{source_at}
use Rattle.lf_scalar.proofs.LineSteps.{line-step, lines-nil, lines-feed, lines-return, lines-other, first-lengthen}
use Rattle.lf_scalar.specs.Lines.{start_of}
use Rattle.lf_yaml.specs.Rows.{ContentRow, row, text_of, headed, content_row, rows_of, left_of}
pub use Rattle.lf_yaml.specs.views.Cursor.{IsPlaced}
use Rattle.lf_laws.proofs.Members.{all_append}

abbrev pub ArePlaced : List ℕ → List ContentRow → Type 0
ArePlaced bytes rs = AllByRecursion (IsPlaced bytes) rs

-- ---- the first line of a source, cell by cell

pub nil-cons : {X : Type 0} {Y : Type 0} (x : X) (xs : List X) → [] ≡ x ∷ xs → Y
nil-cons x xs e = absurd cc

pub cons-cells : (x y : Cell) (xs ys : List Cell) → x ∷ xs ≡ y ∷ ys → (x ≡ y) × (xs ≡ ys)
cons-cells x y xs ys e = (cc, cc)

pub record FirstCell (end at : ℕ) (bs : List ℕ) (x : Cell) (more : List Cell) : Type 0 where
  pub later : List ℕ
  pub bytes : bs ≡ x.byte ∷ later
  pub place : x.at ≡ at
  pub text : first_text (lines end (cells (suc at) later)) ≡ more

pub first-cell : (end at : ℕ) (bs : List ℕ) (x : Cell) (more : List Cell) → first_text (lines end (cells at bs)) ≡ x ∷ more → FirstCell end at bs x more
first-cell end at [] x more e = nil-cons x more (sym (ap first_text (lines-nil end)) ∙ e)
first-cell end at (b ∷ bs) x more e =
    elim (line-step (cell b at) (cells (suc at) bs)) [
      | inl f ↦ nil-cons x more (sym (ap first_text (lines-feed end (cell b at) (cells (suc at) bs) f)) ∙ e)
      | inr (inl r) ↦ nil-cons x more (sym (ap first_text (lines-return end (cell b at) (cells (suc at) bs) r)) ∙ e)
      | inr (inr o) ↦
          let text : cell b at ∷ first_text (lines end (cells (suc at) bs)) ≡ x ∷ more =
          sym (first-lengthen end (cell b at) (lines end (cells (suc at) bs))) ∙ sym (ap first_text (lines-other end (cell b at) (cells (suc at) bs) o)) ∙ e in
          let h = cons-cells (cell b at) x (first_text (lines end (cells (suc at) bs))) more text in
          record { later = bs; bytes = ap (λ (c : Cell). c.byte ∷ bs) h.0; place = sym (ap (λ (c : Cell). c.at) h.0); text = h.1 }
    ]

pub record Behind (end at : ℕ) (bs : List ℕ) (n : ℕ) (c : Cell) (rest : List Cell) : Type 0 where
  pub place : c.at ≡ at + n
  pub text : first_text (lines end (cells (at + n) (drop n bs))) ≡ c ∷ rest

suffix : (end at : ℕ) (bs : List ℕ) (front : List Cell) (c : Cell) (rest : List Cell) → first_text (lines end (cells at bs)) ≡ front ++ c ∷ rest → Behind end at bs (length front) c rest
suffix end at bs [] c rest e =
    let h = first-cell end at bs c rest e in
    let z : at ≡ at + 0 = omega arith in
    record { place = h.place ∙ z; text = subst (λ (n : ℕ). first_text (lines end (cells n bs)) ≡ c ∷ rest) z e }
suffix end at bs (x ∷ front) c rest e =
    let h = first-cell end at bs x (front ++ c ∷ rest) e in
    let k = suffix end (suc at) h.later front c rest h.text in
    let z : suc at + length front ≡ at + suc (length front) = omega arith in
    let d : drop (suc (length front)) bs ≡ drop (length front) h.later = ap (λ (xs : List ℕ). drop (suc (length front)) xs) h.bytes in
    let t : first_text (lines end (cells (at + suc (length front)) (drop (length front) h.later))) ≡ c ∷ rest = subst (λ (n : ℕ). first_text (lines end (cells n (drop (length front) h.later))) ≡ c ∷ rest) z k.text in
    record { place = k.place ∙ z; text = ap (λ (xs : List ℕ). first_text (lines end (cells (at + suc (length front)) xs))) d ∙ t }

-- ---- what stands further on in a row

pub placed-behind : (bytes : List ℕ) (r : ContentRow) (begin : ℕ) (front : List Cell) (c : Cell) (rest : List Cell) → IsPlaced bytes r → text_of r ≡ front ++ c ∷ rest → IsPlaced bytes (row begin c rest)
placed-behind bytes r begin front c rest h e =
    let k = suffix (length bytes) r.first.at (drop r.first.at bytes) front c rest (h ∙ e) in
    let d : source_at bytes c.at ≡ cells (r.first.at + length front) (drop (length front) (drop r.first.at bytes)) =
    ap (λ (n : ℕ). cells n (drop n bytes)) k.place ∙ ap (λ (xs : List ℕ). cells (r.first.at + length front) xs) (sym (drop-drop (length front) r.first.at bytes)) in
    ap (λ (xs : List Cell). first_text (lines (length bytes) xs)) d ∙ k.text

pub record Left (begin : ℕ) (cs : List Cell) (left : ContentRow) : Type 0 where
  pub front : List Cell
  pub source : cs ≡ front ++ text_of left
  pub same_begin : left.begin ≡ begin

pub none-row : {X : Type 0} (s : ContentRow) → None ≡ Some s → X
none-row s e = absurd cc

pub left-suffix : (begin : ℕ) (cs : List Cell) (left : ContentRow) → left_of begin cs ≡ Some left → Left begin cs left
left-suffix begin [] left e = none-row left e
left-suffix begin (c ∷ cs) left e =
    elim (cases_Bool (is_blank c)) [
      | inl a ↦
          let k = left-suffix begin cs left (rw a at e) in
          record { front = c ∷ k.front; source = ap (λ (xs : List Cell). c ∷ xs) k.source; same_begin = k.same_begin }
      | inr a ↦ elim (cases_Bool (eqb c.byte 35)) [
        | inl b ↦ none-row left (rw (a, b) at e)
        | inr b ↦
            let same : row begin c cs ≡ left = same_Some (row begin c cs) left (rw (a, b) at e) in
            record { front = []; source = ap text_of same; same_begin = ap (λ (x : ContentRow). x.begin) (sym same) }
      ]
    ]

-- what is left of a row behind some of its cells is a row of the file
pub placed-left : (bytes : List ℕ) (r left : ContentRow) (front cs : List Cell) (begin : ℕ) → IsPlaced bytes r → text_of r ≡ front ++ cs → left_of begin cs ≡ Some left → IsPlaced bytes left
placed-left bytes r left front cs begin h e l =
    let k = left-suffix begin cs left l in
    placed-behind bytes r left.begin (front ++ k.front) left.first left.rest h (e ∙ ap (λ (xs : List Cell). front ++ xs) k.source ∙ sym (append_assoc front k.front (text_of left)))

-- ---- all rows of a file

abbrev pub Stands : ℕ → ℕ → List ℕ → Line → Type 0
Stands end at bs l = (c : Cell) (cs : List Cell) → l.text ≡ c ∷ cs → (k : ℕ) × (c.at ≡ at + k) × (first_text (lines end (cells (at + k) (drop k bs))) ≡ c ∷ cs)

abbrev pub AllStand : ℕ → ℕ → List ℕ → List Line → Type 0
AllStand end at bs ls = AllByRecursion (Stands end at bs) ls

one-more : (end at b : ℕ) (bs : List ℕ) (l : Line) → Stands end (suc at) bs l → Stands end at (b ∷ bs) l
one-more end at b bs l h c cs e =
    let x = h c cs e in
    let z : suc at + x.0 ≡ at + suc x.0 = omega arith in
    (suc x.0, x.1 ∙ z, subst (λ (n : ℕ). first_text (lines end (cells n (drop x.0 bs))) ≡ c ∷ cs) z x.2)

all-more : (end at b : ℕ) (bs : List ℕ) (ls : List Line) → AllStand end (suc at) bs ls → AllStand end at (b ∷ bs) ls
all-more end at b bs [] h = tt
all-more end at b bs (l ∷ ls) h = (one-more end at b bs l h.0, all-more end at b bs ls h.1)

-- the first line stands at the source's start
first-stands : (end at : ℕ) (bs : List ℕ) (l : Line) (ls : List Line) → lines end (cells at bs) ≡ l ∷ ls → Stands end at bs l
first-stands end at bs l ls e c cs t =
    let z : at ≡ at + 0 = omega arith in
    let h : first_text (lines end (cells at bs)) ≡ c ∷ cs = ap first_text e ∙ t in
    (0, (first-cell end at bs c cs h).place ∙ z, subst (λ (n : ℕ). first_text (lines end (cells n bs)) ≡ c ∷ cs) z h)

tail-stands : (end at b : ℕ) (bs : List ℕ) (c : Cell) (ls : List Line) → AllStand end (suc at) bs ls → lines end (cells at (b ∷ bs)) ≡ lengthen end c ls → AllStand end at (b ∷ bs) (lengthen end c ls)
tail-stands end at b bs c [] h e = (first-stands end at (b ∷ bs) (line (c ∷ []) end) [] e, tt)
tail-stands end at b bs c (l ∷ ls) h e = (first-stands end at (b ∷ bs) (line (c ∷ l.text) l.break) ls e, all-more end at b bs ls h.1)

pub lines-stand : (end at : ℕ) (bs : List ℕ) → AllStand end at bs (lines end (cells at bs))
lines-stand end at [] = subst (AllStand end at []) (sym (lines-nil end)) tt
lines-stand end at (b ∷ bs) =
    let later = lines-stand end (suc at) bs in
    elim (line-step (cell b at) (cells (suc at) bs)) [
      | inl f ↦ subst (AllStand end at (b ∷ bs)) (sym (lines-feed end (cell b at) (cells (suc at) bs) f)) ((λ c cs e. nil-cons c cs e), all-more end at b bs _ later)
      | inr (inl r) ↦
          let same : lines end (cells at (b ∷ bs)) ≡ lines end (cells (suc at) bs) =
          lines-return end (cell b at) (cells (suc at) bs) r ∙ sym (ap (λ (xs : List Cell). lines end xs) r.source ∙ lines-feed end r.feed r.rest r.is_feed) in
          subst (AllStand end at (b ∷ bs)) (sym same) (all-more end at b bs _ later)
      | inr (inr o) ↦
          let e : lines end (cells at (b ∷ bs)) ≡ lengthen end (cell b at) (lines end (cells (suc at) bs)) = lines-other end (cell b at) (cells (suc at) bs) o in
          subst (AllStand end at (b ∷ bs)) (sym e) (tail-stands end at b bs (cell b at) (lines end (cells (suc at) bs)) later e)
    ]

pub after-suffix : (cs : List Cell) → (front : List Cell) × (cs ≡ front ++ after_spaces cs)
after-suffix [] = ([], refl)
after-suffix (c ∷ cs) =
    elim (cases_Bool (eqb c.byte 32)) [
      | inl a ↦ let k = after-suffix cs in (c ∷ k.0, rw a (ap (λ (xs : List Cell). c ∷ xs) k.1))
      | inr a ↦ ([], rw a refl)
    ]

-- a line's row stands in the file
row-placed : (bytes : List ℕ) (at : ℕ) (l : Line) → Stands (length bytes) at (drop at bytes) l → ArePlaced bytes (content_row l)
row-placed bytes at l h = by (begins_with 35 (after_spaces l.text)) (after_spaces l.text) (after-suffix l.text)
  where
    text : (cs : List Cell) → (front : List Cell) × (l.text ≡ front ++ cs) → ArePlaced bytes (headed (start_of l) cs)
    text [] f = tt
    text (c ∷ cs) (front, e) = (first front e, tt)
      where
        first : (front : List Cell) → l.text ≡ front ++ c ∷ cs → IsPlaced bytes (row (start_of l) c cs)
        first [] e =
            let k = h c cs e in
            let d : source_at bytes c.at ≡ cells (at + k.0) (drop k.0 (drop at bytes)) = ap (λ (n : ℕ). cells n (drop n bytes)) k.1 ∙ ap (λ (xs : List ℕ). cells (at + k.0) xs) (sym (drop-drop k.0 at bytes)) in
            ap (λ (xs : List Cell). first_text (lines (length bytes) xs)) d ∙ k.2
        first (x ∷ front) e =
            let k = h x (front ++ c ∷ cs) e in
            let d : source_at bytes x.at ≡ cells (at + k.0) (drop k.0 (drop at bytes)) = ap (λ (n : ℕ). cells n (drop n bytes)) k.1 ∙ ap (λ (xs : List ℕ). cells (at + k.0) xs) (sym (drop-drop k.0 at bytes)) in
            let whole : IsPlaced bytes (row 0 x (front ++ c ∷ cs)) = ap (λ (xs : List Cell). first_text (lines (length bytes) xs)) d ∙ k.2 in
            placed-behind bytes (row 0 x (front ++ c ∷ cs)) (start_of l) (x ∷ front) c cs whole refl

    by : (b : Bool) (cs : List Cell) → (front : List Cell) × (l.text ≡ front ++ cs) → ArePlaced bytes (cond b [] (headed (start_of l) cs))
    by true cs f = tt
    by false cs f = text cs f

pub rows-placed : (bytes : List ℕ) (at : ℕ) (ls : List Line) → AllStand (length bytes) at (drop at bytes) ls → ArePlaced bytes (rows_of ls)
unfolding rows_of
rows-placed bytes at [] h = tt
rows-placed bytes at (l ∷ ls) h = all_append (IsPlaced bytes) (content_row l) (rows_of ls) (row-placed bytes at l h.0) (rows-placed bytes at ls h.1)

-- the rows of a file's lines from an offset on
pub file-placed : (bytes : List ℕ) (at : ℕ) → ArePlaced bytes (rows_of (lines (length bytes) (source_at bytes at)))
file-placed bytes at = rows-placed bytes at (lines (length bytes) (source_at bytes at)) (lines-stand (length bytes) at (drop at bytes))

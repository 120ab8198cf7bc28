-- The first line of some bytes, and its indent.
use Rattle.std.proofs.Common.{true, false, ◌≡◌, ◌≢◌, ℕ, zero, suc, ◌+◌, ◌-◌, ◌<◌, ◌≤◌, eqb, List, [], ◌∷◌, length, get_or, take, drop, refl, ap, arith, sym, ◌∙◌, eq-eqb, add-one, ◌⊎◌, inl, inr}
use Rattle.std.specs.List.{list_all}
use Rattle.std.proofs.lemmas.Bool.{ne_eqb}
use Rattle.std.proofs.lemmas.Bool.Decides.{eqb_tells}
use Rattle.std.proofs.lemmas.List.{take_all, drop_all, length-drop}
use Rattle.lf_scalar.specs.Cells.{cell, cells}
use Rattle.lf_scalar.specs.Lines.{Line, line, begins_with, lines, lines_at, IsTextBefore, indent_of, is_blank, after_blanks, after_spaces}
use Rattle.lf_scalar.proofs.LineSteps.{IsOther, lines-nil, lines-feed, lines-return, lines-other}

-- no line feed before n
abbrev pub NoBreak : List ℕ → ℕ → Type 0
NoBreak rest n = (k : ℕ) → k < n → get_or rest k 0 ≡ 10 → ⊥

-- a carriage return whose line feed follows, or a cell of the line's text
after-return : (at : ℕ) (rest : List ℕ) → 0 < length rest → get_or rest 0 0 ≡ 10 → cells at rest ≡ cell 10 at ∷ cells (suc at) (drop 1 rest)
after-return at [] lt e = absurd (omega arith)
after-return at (x ∷ xs) lt e = ap (λ (b : ℕ). cell b at ∷ cells (suc at) xs) e

pub begins-at : (at : ℕ) (rest : List ℕ) → begins_with 10 (cells at rest) ≡ eqb (get_or rest 0 0) 10
begins-at at [] = refl
begins-at at (x ∷ xs) = refl

other-cell : (at b : ℕ) (rest : List ℕ) → b ≢ 10 → (b ≡ 13 → get_or rest 0 0 ≢ 10) → IsOther (cell b at) (cells (suc at) rest)
other-cell at b rest n r = record { no_feed = ne_eqb b 10 n; no_return = elim (eqb_tells b 13) [ inl a ↦ rw (a.0, begins-at (suc at) rest) (ne_eqb (get_or rest 0 0) 10 (r a.1)) | inr a ↦ rw a.0 refl ] }

-- the text of a line whose line feed stands at n
abbrev TextIs : List ℕ → ℕ → ℕ → Type 0
TextIs rest n t = ((t ≡ n) × (0 < n → get_or rest (n - 1) 0 ≢ 13)) ⊎ ((suc t ≡ n) × (get_or rest t 0 ≡ 13))

less : (x : ℕ) (xs : List ℕ) (n t : ℕ) → 0 < n → TextIs (x ∷ xs) (suc n) (suc t) → TextIs xs n t
less x xs zero t pos h = absurd (omega arith)
less x xs (suc n) t pos (inl (e, h)) =
    let p : suc (suc n) - 1 ≡ suc n = omega arith in
    let q : suc n - 1 ≡ n = omega arith in
    inl (omega (arith, e), λ lt. λ f. h (omega arith) (rw p (rw q at f)))
less x xs (suc n) t pos (inr (e, h)) = inr (omega (arith, e), h)

one-less : (x : ℕ) (xs : List ℕ) (n t : ℕ) → TextIs (x ∷ xs) (suc n) (suc t) → TextIs xs n t
one-less x xs zero t (inl (e, h)) = inl (omega (arith, e), λ lt. absurd (omega (arith, lt)))
one-less x xs zero t (inr (e, h)) = absurd (omega (arith, e))
one-less x xs (suc n) t h = less x xs (suc n) t (omega arith) h

-- the first byte of a line before its line feed
is-other : (at x : ℕ) (xs : List ℕ) (n t : ℕ) → NoBreak (x ∷ xs) (suc n) → TextIs (x ∷ xs) (suc n) (suc t) → IsOther (cell x at) (cells (suc at) xs)
is-other at x xs zero t none (inl (e, h)) = other-cell at x xs (none 0 (omega arith)) (λ r. absurd (h (omega arith) r))
is-other at x xs zero t none (inr (e, h)) = absurd (omega (arith, e))
is-other at x xs (suc n) t none h = other-cell at x xs (none 0 (omega arith)) (λ r. none 1 (omega arith))

return-first : (end at x : ℕ) (xs : List ℕ) → x ≡ 13 → 0 < length xs → get_or xs 0 0 ≡ 10 → lines end (cells at (x ∷ xs)) ≡ line [] (at + 1) ∷ lines end (cells (at + 2) (drop 1 xs))
return-first end at x xs r lt e =
    let p : at + 1 ≡ suc at = omega arith in
    let q : at + 2 ≡ suc (suc at) = omega arith in
    lines-return end (cell x at) (cells (suc at) xs) (record { return = r; feed = cell 10 (suc at); rest = cells (suc (suc at)) (drop 1 xs); source = after-return (suc at) xs lt e; is_feed = refl }) ∙ rw (p, q) refl

first-line : (end at : ℕ) (rest : List ℕ) (n t : ℕ) → n < length rest → NoBreak rest n → get_or rest n 0 ≡ 10 → TextIs rest n t
    → lines end (cells at rest) ≡ line (cells at (take t rest)) (at + n) ∷ lines end (cells (at + suc n) (drop (suc n) rest))
first-line end at [] n t lt none e text = absurd (omega arith)
first-line end at (x ∷ xs) zero zero lt none e text =
    let p : at + 0 ≡ at = omega arith in
    let q : at + 1 ≡ suc at = omega arith in
    lines-feed end (cell x at) (cells (suc at) xs) e ∙ rw (p, q) refl
first-line end at (x ∷ xs) zero (suc t) lt none e (inl (h, k)) = absurd (omega (arith, h))
first-line end at (x ∷ xs) zero (suc t) lt none e (inr (h, k)) = absurd (omega (arith, h))
first-line end at (x ∷ xs) (suc n) zero lt none e (inl (h, k)) = absurd (omega (arith, h))
first-line end at (x ∷ xs) (suc zero) zero lt none e (inr (h, k)) = return-first end at x xs k (omega arith) e
first-line end at (x ∷ xs) (suc (suc n)) zero lt none e (inr (h, k)) = absurd (omega (arith, h))
first-line end at (x ∷ xs) (suc n) (suc t) lt none e text =
    let p : suc at + n ≡ at + suc n = omega arith in
    let q : suc at + suc n ≡ at + suc (suc n) = omega arith in
    let later : lines end (cells (suc at) xs) ≡ line (cells (suc at) (take t xs)) (at + suc n) ∷ lines end (cells (at + suc (suc n)) (drop (suc n) xs)) =
    rw (← p, ← q) (first-line end (suc at) xs n t (omega arith) (λ k lt. none (suc k) (omega arith)) e (one-less x xs n t text)) in
    lines-other end (cell x at) (cells (suc at) xs) (is-other at x xs n t none text) ∙ rw later refl

last-line : (end at : ℕ) (rest : List ℕ) → 0 < length rest → NoBreak rest (length rest) → lines end (cells at rest) ≡ line (cells at rest) end ∷ []
last-line end at [] lt none = absurd (omega arith)
last-line end at (x ∷ []) lt none = lines-other end (cell x at) [] (other-cell at x [] (none 0 (omega arith)) (λ r e. (absurd (omega (arith, e))))) ∙ rw (lines-nil end) refl
last-line end at (x ∷ y ∷ xs) lt none =
    let later : lines end (cells (suc at) (y ∷ xs)) ≡ line (cells (suc at) (y ∷ xs)) end ∷ [] = last-line end (suc at) (y ∷ xs) (omega arith) (λ k lt. none (suc k) (omega arith)) in
    lines-other end (cell x at) (cells (suc at) (y ∷ xs)) (other-cell at x (y ∷ xs) (none 0 (omega arith)) (λ r. none 1 (omega arith))) ∙ rw later refl

-- behind the last byte there is no line
lines-past : (at end : ℕ) (rest : List ℕ) (n : ℕ) → n ≤ length rest → end ≡ at + length rest → lines end (cells (at + n) (drop n rest)) ≡ lines_at (at + n) (drop n rest)
lines-past at end rest n le e =
    let k : end ≡ (at + n) + length (drop n rest) = omega (arith, length-drop n rest) in
    ap (λ (x : ℕ). lines x (cells (at + n) (drop n rest))) k

pub line-found : (at : ℕ) (rest : List ℕ) (n t : ℕ) → n < length rest → NoBreak rest n → get_or rest n 0 ≡ 10 → IsTextBefore rest n t
    → lines_at at rest ≡ line (cells at (take t rest)) (at + n) ∷ lines_at (at + (n + 1)) (drop (n + 1) rest)
line-found at rest n t lt none e text =
    let p : at + suc n ≡ at + (n + 1) = omega arith in
    let later : lines (at + length rest) (cells (at + suc n) (drop (suc n) rest)) ≡ lines_at (at + (n + 1)) (drop (n + 1) rest) =
    lines-past at (at + length rest) rest (suc n) lt refl ∙ ap (λ (x : ℕ). lines_at x (drop (suc n) rest)) p ∙ ap (λ (x : ℕ). lines_at (at + (n + 1)) (drop x rest)) (sym (add-one n)) in
    first-line (at + length rest) at rest n t lt none e text ∙ ap (λ (ls : List Line). line (cells at (take t rest)) (at + n) ∷ ls) later

pub line-end : (at : ℕ) (rest : List ℕ) → 0 < length rest → NoBreak rest (length rest)
    → lines_at at rest ≡ line (cells at (take (length rest) rest)) (at + length rest) ∷ lines_at (at + (length rest + 1)) (drop (length rest + 1) rest)
line-end at rest lt none =
    let n : lines_at (at + (length rest + 1)) [] ≡ [] = lines-nil _ in
    last-line (at + length rest) at rest lt none ∙ rw (take_all (length rest) rest (omega arith), drop_all (length rest + 1) rest (omega arith), n) refl

pub spaces-suc : (at : ℕ) (text : List ℕ) (n : ℕ) → n ≤ length text → ((k : ℕ) → k < n → get_or text k 0 ≡ 32) → (n < length text → get_or text n 0 ≢ 32) → n ≡ indent_of (cells at text)
spaces-suc at [] n le all stop = omega arith
spaces-suc at (x ∷ xs) zero le all stop = rw (ne_eqb x 32 (stop (omega arith))) refl
spaces-suc at (x ∷ xs) (suc n) le all stop = rw (eq-eqb x 32 (all 0 (omega arith))) (ap suc (spaces-suc (suc at) xs n (omega arith) (λ k lt. all (suc k) (omega arith)) (λ lt. stop (omega arith))))

-- ---- blanks at the front

pub blanks-after : (at : ℕ) (text : List ℕ) (n : ℕ) → n ≤ length text → ((k : ℕ) → k < n → is_blank (cell (get_or text k 0) 0) ≡ true) → (n < length text → is_blank (cell (get_or text n 0) 0) ≡ false) → after_blanks (cells at text) ≡ cells (at + n) (drop n text)
blanks-after at [] zero le all stop = refl
blanks-after at [] (suc n) le all stop = absurd (omega arith)
blanks-after at (x ∷ xs) zero le all stop = let p : at + 0 ≡ at = omega arith in rw (p, stop (omega arith)) refl
blanks-after at (x ∷ xs) (suc n) le all stop =
    let p : suc at + n ≡ at + suc n = omega arith in
    rw (all 0 (omega arith)) (blanks-after (suc at) xs n (omega arith) (λ k lt. all (suc k) (omega arith)) (λ lt. stop (omega arith)) ∙ ap (λ (m : ℕ). cells m (drop n xs)) p)

pub blanks-all : (at : ℕ) (text : List ℕ) (n : ℕ) → n ≤ length text → ((k : ℕ) → k < n → is_blank (cell (get_or text k 0) 0) ≡ true) → (n < length text → is_blank (cell (get_or text n 0) 0) ≡ false) → list_all is_blank (cells at text) ≡ eqb n (length text)
blanks-all at [] zero le all stop = refl
blanks-all at [] (suc n) le all stop = absurd (omega arith)
blanks-all at (x ∷ xs) zero le all stop = rw (stop (omega arith)) (sym (ne_eqb 0 (suc (length xs)) (λ e. omega (arith, e))))
blanks-all at (x ∷ xs) (suc n) le all stop =
    rw (all 0 (omega arith)) (blanks-all (suc at) xs n (omega arith) (λ k lt. all (suc k) (omega arith)) (λ lt. stop (omega arith)) ∙ same n (length xs))
  where
    same : (m k : ℕ) → eqb m k ≡ eqb (suc m) (suc k)
    same m k = elim (eqb_tells m k) [ inl a ↦ a.0 ∙ sym (eq-eqb (suc m) (suc k) (ap suc a.1)) | inr a ↦ a.0 ∙ sym (ne_eqb (suc m) (suc k) (λ e. a.1 (omega (arith, e)))) ]

pub spaces-after : (at : ℕ) (text : List ℕ) (n : ℕ) → n ≤ length text → ((k : ℕ) → k < n → get_or text k 0 ≡ 32) → (n < length text → get_or text n 0 ≢ 32) → after_spaces (cells at text) ≡ cells (at + n) (drop n text)
spaces-after at [] zero le all stop = refl
spaces-after at [] (suc n) le all stop = absurd (omega arith)
spaces-after at (x ∷ xs) zero le all stop = let p : at + 0 ≡ at = omega arith in rw (p, ne_eqb x 32 (stop (omega arith))) refl
spaces-after at (x ∷ xs) (suc n) le all stop =
    let p : suc at + n ≡ at + suc n = omega arith in
    rw (eq-eqb x 32 (all 0 (omega arith))) (spaces-after (suc at) xs n (omega arith) (λ k lt. all (suc k) (omega arith)) (λ lt. stop (omega arith)) ∙ ap (λ (m : ℕ). cells m (drop n xs)) p)

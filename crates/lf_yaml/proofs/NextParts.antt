-- The next part of a flow collection, as the code finds it: behind the blanks.
use Rattle.std.proofs.Common.{◌≡◌, ◌≢◌, ℕ, suc, ◌+◌, ◌-◌, ◌<◌, ◌≤◌, Bool, true, false, cond, eqb, ltb, List, [], ◌∷◌, length, get_or, drop, refl, ap, arith, sym, ◌∙◌, length-drop, ◌&&◌, ◌||◌, eq-eqb, ne_eqb, ◌⊎◌, inl, inr}
use Rattle.std.proofs.lemmas.Bool.{le-ltb, lt-ltb, cases_Bool}
use Rattle.std.proofs.Math.Bool.{and-false, or-true}
use Rattle.lf_scalar.specs.Cells.{Cell, cell, cells}
use Rattle.lf_scalar.specs.Lines.{is_blank, after_blanks}
use Rattle.lf_scalar.proofs.Cells.{cells-length}
use Rattle.lf_scalar.specs.Block.{begins_blank}
use Rattle.lf_yaml.specs.Rows.{ContentRow}
use Rattle.lf_yaml.specs.Flow.{Next, at_part, on_line, next_part}

-- behind the blanks, by whether there were some
abbrev pub part_after : ℕ → Bool → List Cell → List ContentRow → Next
part_after end blank [] rs = on_line end rs
part_after end blank (c ∷ cs) rs = cond (blank && eqb c.byte 35) (on_line end rs) (at_part c cs)

or-false : (b : Bool) → b ≡ (b || false)
or-false true = refl
or-false false = refl

pub next-is : (end : ℕ) (blank : Bool) (cs : List Cell) (rs : List ContentRow) → next_part end blank cs rs ≡ part_after end (blank || begins_blank cs) (after_blanks cs) rs
unfolding next_part
next-is end blank [] rs = refl
next-is end blank (c ∷ cs) rs =
    elim (cases_Bool (is_blank c)) [
      | inl a ↦ rw a (next-is end true cs rs ∙ ap (λ (b : Bool). part_after end b (after_blanks cs) rs) (sym (or-true blank)))
      | inr a ↦ rw a (ap (λ (b : Bool). part_after end b (c ∷ cs) rs) (or-false blank))
    ]

after-length : (cs : List Cell) → length (after_blanks cs) ≤ length cs
after-length [] = omega arith
after-length (c ∷ cs) =
    elim (cases_Bool (is_blank c)) [
      | inl a ↦ rw a (omega (arith, after-length cs))
      | inr a ↦ rw a (omega arith)
    ]

-- blanks were skipped where the text begins with one
pub skipped-blank : (at k : ℕ) (text : List ℕ) → k ≤ length text → after_blanks (cells at text) ≡ cells (at + k) (drop k text) → begins_blank (cells at text) ≡ ltb 0 k
skipped-blank at k [] le e = sym (le-ltb 0 k (omega arith))
skipped-blank at k (x ∷ xs) le e =
    let n : length (cells (at + k) (drop k (x ∷ xs))) ≡ suc (length xs) - k = cells-length (at + k) (drop k (x ∷ xs)) ∙ length-drop k (x ∷ xs) in
    elim (cases_Bool (is_blank (cell x at))) [
      | inl a ↦
          let f : after_blanks (cells (suc at) xs) ≡ cells (at + k) (drop k (x ∷ xs)) = rw a at e in
          let m : length (cells (suc at) xs) ≡ length xs = cells-length (suc at) xs in
          a ∙ sym (lt-ltb 0 k (omega (arith, ap length f, n, m, after-length (cells (suc at) xs))))
      | inr a ↦
          let f : cell x at ∷ cells (suc at) xs ≡ cells (at + k) (drop k (x ∷ xs)) = rw a at e in
          let m : length (cells (suc at) xs) ≡ length xs = cells-length (suc at) xs in
          a ∙ sym (le-ltb 0 k (omega (arith, ap length f, n, m, le)))
    ]

module _ (end at k : ℕ) (text part : List ℕ) (rs : List ContentRow) (le : k ≤ length text) (after : after_blanks (cells at text) ≡ cells (at + k) (drop k text)) (is : part ≡ drop k text) where
  whole : next_part end false (cells at text) rs ≡ part_after end (ltb 0 k) (cells (at + k) part) rs
  whole =
      next-is end false (cells at text) rs ∙ ap (λ (b : Bool). part_after end b (after_blanks (cells at text)) rs) (skipped-blank at k text le after)
      ∙ ap (λ (cs : List Cell). part_after end (ltb 0 k) cs rs) (after ∙ ap (cells (at + k)) (sym is))

  pub next-empty : length part < 1 → next_part end false (cells at text) rs ≡ on_line end rs
  next-empty lt = whole ∙ by part lt
    where
      by : (xs : List ℕ) → length xs < 1 → part_after end (ltb 0 k) (cells (at + k) xs) rs ≡ on_line end rs
      by [] lt = refl
      by (x ∷ xs) lt = absurd (omega arith)

  pub next-comment : 0 < length part → 0 < k → get_or part 0 0 ≡ 35 → next_part end false (cells at text) rs ≡ on_line end rs
  next-comment lt pos e = whole ∙ by part lt e
    where
      by : (xs : List ℕ) → 0 < length xs → get_or xs 0 0 ≡ 35 → part_after end (ltb 0 k) (cells (at + k) xs) rs ≡ on_line end rs
      by [] lt e = absurd (omega arith)
      by (x ∷ xs) lt e = rw (lt-ltb 0 k pos, eq-eqb x 35 e) refl

  pub next-here : 0 < length part → (k ≤ 0) ⊎ (get_or part 0 0 ≢ 35) → next_part end false (cells at text) rs ≡ at_part (cell (get_or part 0 0) (at + k)) (cells (suc (at + k)) (drop 1 part))
  next-here lt h = whole ∙ by part lt h
    where
      by : (xs : List ℕ) → 0 < length xs → (k ≤ 0) ⊎ (get_or xs 0 0 ≢ 35) → part_after end (ltb 0 k) (cells (at + k) xs) rs ≡ at_part (cell (get_or xs 0 0) (at + k)) (cells (suc (at + k)) (drop 1 xs))
      by [] lt h = absurd (omega arith)
      by (x ∷ xs) lt (inl none) = rw (le-ltb 0 k none) refl
      by (x ∷ xs) lt (inr ne) = rw (ne_eqb x 35 ne, and-false (ltb 0 k)) refl

-- What may stand behind a scalar on its line, by the blanks that come first.
use Rattle.std.proofs.Common.{◌≡◌, ◌≢◌, ℕ, zero, suc, ◌+◌, ◌<◌, ◌≤◌, Bool, true, false, List, [], ◌∷◌, Some, None, length, get_or, drop, refl, ap, arith, ◌∙◌, eq-eqb, ◌⊎◌, inl, inr}
use Rattle.std.proofs.lemmas.Bool.{ne_eqb}
use Rattle.std.proofs.lemmas.Bool.Decides.{eqb_tells}
use Rattle.std.proofs.lemmas.List.{drop_all, length-drop}
use Rattle.std.proofs.Math.Bool.{and-false}
use Rattle.lf_scalar.specs.Cells.{Cell, cell, cells}
use Rattle.lf_scalar.specs.Lines.{is_blank, after_blanks}
use Rattle.lf_scalar.specs.reading.Quoted.{wrong_behind}
use Rattle.lf_scalar.proofs.Cells.{cells-drop, cells-length}

nothing-blank : (b : Bool) (cs : List Cell) → after_blanks cs ≡ [] → wrong_behind b cs ≡ None
nothing-blank b [] e = refl
nothing-blank b (c ∷ cs) e = by (is_blank c) refl (nothing-blank true cs)
  where
    no-cells : c ∷ cs ≡ [] → ⊥
    no-cells f = cc

    by : (t : Bool) → is_blank c ≡ t → (after_blanks cs ≡ [] → wrong_behind true cs ≡ None) → wrong_behind b (c ∷ cs) ≡ None
    by true t later = rw t (later (rw t at e))
    by false t later = absurd (no-cells (rw t at e))

not-comment : (b : Bool) (cs : List Cell) (c : Cell) (more : List Cell) → after_blanks cs ≡ c ∷ more → c.byte ≢ 35 → wrong_behind b cs ≡ Some c
not-comment b [] c more e n = absurd cc
not-comment b (d ∷ cs) c more e n = by (is_blank d) refl (λ f. not-comment true cs c more f n)
  where
    by : (t : Bool) → is_blank d ≡ t → (after_blanks cs ≡ c ∷ more → wrong_behind true cs ≡ Some c) → wrong_behind b (d ∷ cs) ≡ Some c
    by true t later = rw t (later (rw t at e))
    by false t later =
        let f : d ∷ cs ≡ c ∷ more = rw t at e in
        let g : d ≡ c = cc in
        rw (t, g, ne_eqb c.byte 35 n, and-false b) refl

-- a `#` behind a blank
comment : (b : Bool) (cs : List Cell) (c : Cell) (more : List Cell) → after_blanks cs ≡ c ∷ more → c.byte ≡ 35 → (b ≡ true) ⊎ (suc (length more) < length cs) → wrong_behind b cs ≡ None
comment b [] c more e h s = absurd cc
comment b (d ∷ cs) c more e h s = by (is_blank d) refl (λ f. comment true cs c more f h (inl refl))
  where
    short : (d ∷ cs ≡ c ∷ more) → suc (length more) < length (d ∷ cs) → ⊥
    short f lt = omega (arith, lt, ap length f)

    begun : d ∷ cs ≡ c ∷ more → (b ≡ true) ⊎ (suc (length more) < length (d ∷ cs)) → b ≡ true
    begun f (inl e) = e
    begun f (inr lt) = absurd (short f lt)

    by : (t : Bool) → is_blank d ≡ t → (after_blanks cs ≡ c ∷ more → wrong_behind true cs ≡ None) → wrong_behind b (d ∷ cs) ≡ None
    by true t later = rw t (later (rw t at e))
    by false t later =
        let f : d ∷ cs ≡ c ∷ more = rw t at e in
        let g : d ≡ c = cc in
        rw (t, begun f s, g, eq-eqb c.byte 35 h) refl

-- a `#` that no blank stands before
bare : (c : Cell) (more : List Cell) → c.byte ≡ 35 → wrong_behind false (c ∷ more) ≡ Some c
bare c more h =
    let a : is_blank c ≡ false = not-blank c.byte h in
    rw a refl
  where
    not-blank : (x : ℕ) → x ≡ 35 → is_blank (cell x 0) ≡ false
    not-blank x e = rw e refl

module _ (at : ℕ) (line : List ℕ) (n : ℕ) (after : after_blanks (cells at line) ≡ cells (at + n) (drop n line)) where
  first : n < length line → after_blanks (cells at line) ≡ cell (get_or line n 0) (at + n) ∷ cells (at + (n + 1)) (drop (n + 1) line)
  first lt = after ∙ cells-drop at line n lt

  pub all-blank : length line ≤ n → wrong_behind false (cells at line) ≡ None
  all-blank le = nothing-blank false (cells at line) (after ∙ ap (cells (at + n)) (drop_all n line le))

  pub is-comment : n < length line → 0 < n → get_or line n 0 ≡ 35 → wrong_behind false (cells at line) ≡ None
  is-comment lt pos h =
      let size : length (cells (at + (n + 1)) (drop (n + 1) line)) ≡ length (drop (n + 1) line) = cells-length (at + (n + 1)) (drop (n + 1) line) in
      let s : suc (length (cells (at + (n + 1)) (drop (n + 1) line))) < length (cells at line) = omega (arith, lt, pos, size, length-drop (n + 1) line, cells-length at line) in
      comment false (cells at line) _ _ (first lt) h (inr s)

  pub is-other : n < length line → get_or line n 0 ≢ 35 → wrong_behind false (cells at line) ≡ Some (cell (get_or line n 0) (at + n))
  is-other lt h = not-comment false (cells at line) _ _ (first lt) h

is-bare : (at : ℕ) (line : List ℕ) → 0 < length line → get_or line 0 0 ≡ 35 → wrong_behind false (cells at line) ≡ Some (cell (get_or line 0 0) (at + 0))
is-bare at [] lt h = absurd (omega arith)
is-bare at (x ∷ xs) lt h = bare (cell x at) (cells (suc at) xs) h ∙ ap (λ (k : ℕ). Some (cell x k)) (omega arith)

-- without a blank before it
pub at-front : (at : ℕ) (line : List ℕ) (n : ℕ) → after_blanks (cells at line) ≡ cells (at + n) (drop n line) → n < length line → n ≤ 0 → wrong_behind false (cells at line) ≡ Some (cell (get_or line n 0) (at + n))
at-front at line (suc n) after lt le = absurd (omega arith)
at-front at line zero after lt le = elim (eqb_tells (get_or line 0 0) 35) [ inl a ↦ is-bare at line lt a.1 | inr a ↦ is-other at line 0 after lt a.1 ]

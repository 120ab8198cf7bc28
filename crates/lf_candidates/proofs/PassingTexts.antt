-- What is cached of a matcher tells of each class whether its text passes.
use Rattle.std.proofs.Common.{◌≡◌, ℕ, ◌+◌, ◌<◌, Bool, true, false, not, ◌&&◌, ◌||◌, cond, eqb, map, length, nat_lt, refl, sym, ◌∙◌, ap, subst, arith}
use Rattle.std.proofs.lemmas.Bool.{false_from_ne_true}
use Rattle.std.proofs.lemmas.Bool.Decides.{Decides-eqb, nat_tests}
use Rattle.lf_laws.proofs.Booleans.{clash}
use Rattle.lf_ast.specs.Labels.{Bytes}
use Rattle.lf_ast.specs.declared.expr.MatchOp.{MatchOp}
use Rattle.lf_semantics.specs.ClassRows.{HasShape, Sets, emptied, holds, is_live, normalized, remade, top}
use Rattle.lf_semantics.specs.Listing.{Listing, class_of, class_texts, named_at, other_class}
use Rattle.lf_semantics.specs.Passing.{passes, passes_other}
use Rattle.lf_semantics.specs.RowTable.{passes_class, text_of}
use Rattle.lf_semantics.proofs.Places.{at_place}
use Rattle.lf_semantics.proofs.RowLaws.{full_at, holds-remade, live_when, shape_narrowed, shape_remade, shape_top}
use Rattle.lf_semantics.proofs.RowSets.{emptied_holds}
use Rattle.lf_classes.specs.views.PatternCache.{passing_row}
use Rattle.lf_candidates.proofs.FirstClass.{row_length, set_length}

module _ (u : Listing) (label : ℕ) (op : MatchOp) (value : Bytes) (within : label < length u.named) where
  abbrev pass : ℕ → ℕ → Bool
  pass l c = passes_class u op value l c

  abbrev test : ℕ → ℕ → Bool
  test l c = not (eqb label l) || pass l c

  abbrev made : Sets
  made = remade (λ l c on. on && test l c) (top u)

  shape_made : HasShape u made
  shape_made = shape_remade (λ l c on. on && test l c) 0 (top u) ∙ shape_top u

  at : (l c : ℕ) → l < length u.named → c < length (named_at u l) + 2 → holds made l c ≡ test l c
  at l c h k =
      holds-remade (λ l c on. on && test l c) (top u) l c (omega (arith, h, row_length u (top u) (shape_top u))) (omega (arith, k, set_length u (top u) (shape_top u) l h))
      ∙ ap (λ on. on && test l c) (full_at u l c h k)

  own : (c : ℕ) → c < length (named_at u label) + 2 → holds made label c ≡ pass label c
  own c k = at label c within k ∙ ap (λ b. not b || pass label c) ((Decides-eqb label label).1 refl)

  -- where a class passes, each label has a class, and the row isn't empty
  each : (c : ℕ) → c < length (named_at u label) + 2 → pass label c ≡ true → (l : ℕ) → l < length made → (d : ℕ) × (holds made l d ≡ true)
  each c k p l h = by (eqb label l) refl
    where
      by : (b : Bool) → eqb label l ≡ b → (d : ℕ) × (holds made l d ≡ true)
      by true e = let P : ℕ → Type 0 = λ m. (d : ℕ) × (holds made m d ≡ true) in subst P ((Decides-eqb label l).0 e) (c, own c k ∙ p)
      by false e = (0, at l 0 (omega (arith, h, row_length u made shape_made)) (omega arith) ∙ ap (λ b. not b || pass l 0) e)

  holds_own : (c : ℕ) → c < length (named_at u label) + 2 → holds (normalized made) label c ≡ pass label c
  holds_own c k = by (is_live made) refl
    where
      by : (b : Bool) → is_live made ≡ b → holds (cond b made (emptied made)) label c ≡ pass label c
      by true e = own c k
      by false e = emptied_holds made label c ∙ sym (false_from_ne_true (pass label c) (λ p. clash (is_live made) (live_when made (each c k p)) e))

  -- the row tells of a class, but 'any other text', whether its text passes
  pub cached_class : (row : Sets) (c : ℕ) → row ≡ passing_row u label op value → c < other_class u label → holds row label c ≡ passes op value (text_of u label c)
  cached_class row c is less =
      let mine : nat_lt c (other_class u label) ≡ true = grind (arith, nat_tests, less) in
      ap (λ r. holds r label c) is ∙ holds_own c (omega (arith, less)) ∙ ap (λ (b : Bool). cond (not b) (passes_other op value) (passes op value (text_of u label c))) mine

  -- and of a text that is a class whether it passes
  pub cached_passes : (row : Sets) (text : Bytes) → row ≡ passing_row u label op value → class_of u label text < other_class u label → holds row label (class_of u label text) ≡ passes op value text
  cached_passes row text is less =
      cached_class row (class_of u label text) is less ∙ ap (passes op value) (at_place (class_texts u label) text (omega (arith, less)))

  -- it has a place for each class
  pub cached_shape : (row : Sets) → row ≡ passing_row u label op value → HasShape u row
  cached_shape row is = ap (map length) is ∙ shape_narrowed test (top u) ∙ shape_top u

-- Rows of a universe in which each label has the classes that pass a test.
use Rattle.std.proofs.Common.{◌≡◌, ℕ, ◌+◌, ◌<◌, Bool, true, ◌&&◌, cond, eqb, List, [], length, map, get_or, sym, ◌∙◌, ap, arith}
use Rattle.std.proofs.lemmas.List.{get_or-map, length-map}
use Rattle.lf_ast.specs.Labels.{Bytes}
use Rattle.lf_semantics.specs.ClassRows.{HasShape, Sets, top, holds, is_live, kept, remade, replaced, normalized}
use Rattle.lf_semantics.specs.Listing.{Listing, class_counts, named_at}
use Rattle.lf_semantics.proofs.RowLaws.{holds-remade, live_when, shape_remade, shape_replaced, shape_top}
use Rattle.lf_semantics.proofs.RowSets.{label_in}
use Rattle.lf_classes.proofs.Cutting.{full_live}
use Rattle.lf_flow.proofs.ClassSets.{row_length, set_length}
use Rattle.lf_semantics.proofs.LeqLaws.{normalized_live}
use Rattle.lf_flow.proofs.Layered.{replaced_live, same_remade, twice_remade}

module _ (u : Listing) where
  abbrev pub made : (ℕ → ℕ → Bool) → Sets
  made test = replaced (λ l. true) test (top u)

  -- each label has a class that passes
  abbrev pub HasSome : (ℕ → ℕ → Bool) → Type 0
  HasSome test = (l : ℕ) → l < length u.named → (c : ℕ) × (c < length (named_at u l) + 2) × (test l c ≡ true)

  pub shape_made : (test : ℕ → ℕ → Bool) → HasShape u (made test)
  shape_made test = shape_replaced (λ l. true) test (top u) ∙ shape_top u

  count_some : (l : ℕ) → l < length (class_counts u) → 0 < get_or (class_counts u) l 0
  count_some l h =
      let b : l < length u.named = omega (arith, h, length-map u.named (λ (named : List Bytes). length named + 2)) in
      omega (arith, get_or-map (λ (named : List Bytes). length named + 2) u.named l [] 0 b)

  full_is_live : is_live (top u) ≡ true
  full_is_live = full_live (class_counts u) count_some

  abbrev passing : (ℕ → ℕ → Bool) → Sets
  passing test = remade (λ l c on. test l c) (top u)

  whole : (test : ℕ → ℕ → Bool) → made test ≡ normalized (passing test)
  whole test = replaced_live (λ l. true) test (top u) full_is_live

  at_label : (l : ℕ) → l < length (top u) → l < length u.named
  at_label l h = omega (arith, h, row_length u (top u) (shape_top u))

  module _ (test : ℕ → ℕ → Bool) where
    held : (l c : ℕ) → l < length u.named → c < length (named_at u l) + 2 → holds (passing test) l c ≡ test l c
    held l c h k =
        holds-remade (λ l c on. test l c) (top u) l c (omega (arith, h, row_length u (top u) (shape_top u))) (omega (arith, k, set_length u (top u) (shape_top u) l h))

    pub made_same : (other : ℕ → ℕ → Bool) → ((l c : ℕ) → l < length u.named → test l c ≡ other l c) → made test ≡ made other
    made_same other same =
        whole test ∙ ap normalized (same_remade (λ l c on. test l c) (λ l c on. other l c) (top u) (λ l c h. same l c (at_label l h))) ∙ sym (whole other)

    module _ (some : HasSome test) where
      passing_live : is_live (passing test) ≡ true
      passing_live =
          live_when (passing test) (λ l h.
          let size : length (passing test) ≡ length (top u) =
          label_in (passing test) (map length (top u)) (shape_remade (λ l c on. test l c) 0 (top u)) ∙ length-map (top u) length in
          let b : l < length u.named = at_label l (omega (arith, h, size)) in
          let r = some l b in
          (r.0, held l r.0 b r.1 ∙ r.2))

      made_is : made test ≡ passing test
      made_is = whole test ∙ normalized_live (passing test) passing_live

      pub made_holds : (l c : ℕ) → l < length u.named → c < length (named_at u l) + 2 → holds (made test) l c ≡ test l c
      made_holds l c h k = ap (λ x. holds x l c) made_is ∙ held l c h k

      -- one class is put in or taken out
      pub made_kept : (other : ℕ → ℕ → Bool) (label class : ℕ) (on : Bool) → ((l c : ℕ) → l < length u.named → other l c ≡ cond (eqb l label && eqb c class) on (test l c))
          → kept label class on (made test) ≡ made other
      made_kept other label class on same =
          let one : ℕ → ℕ → Bool → Bool = λ l c before. cond (eqb l label && eqb c class) on before in
          ap (λ x. cond (is_live x) (normalized (remade one x)) x) made_is
          ∙ ap (λ b. cond b (normalized (remade one (passing test))) (passing test)) passing_live
          ∙ ap normalized (twice_remade (λ l c before. test l c) one (top u)
          ∙ same_remade (λ l c before. one l c (test l c)) (λ l c before. other l c) (top u) (λ l c h. sym (same l c (at_label l h))))
          ∙ sym (whole other)

-- Signatures as label sets: they are one exactly where the samples have the same signature, since no text is empty.
use Rattle.std.proofs.Common.{◌≡◌, ◌<◌, ◌+◌, ◌⊎◌, inl, inr, ℕ, zero, suc, Bool, true, false, true≢false, cond, not, List, [], ◌∷◌, Option, Some, None, refl, sym, ap, ap₂, ◌∙◌, subst, arith}
use Rattle.std.specs.Prelude.{slice_get}
use Rattle.std.specs.Option.{unwrap_or}
use Rattle.std.specs.Ordering.{eq_by_cmp, nat_cmp}
use Rattle.std.specs.Str.{bytes_eq}
use Rattle.std.specs.Cmp.Lexicographic.{nat_list_cmp_total, slice_cmp}
use Rattle.std.proofs.lemmas.Map.Text.{is_eq-slice_cmp}
use Rattle.std.specs.FinMap.{entries, find, get, get-entries, get-retain_keys, nat_cmp-IsAntisymmetric, same_map, slice_cmp-IsAntisymmetric}
use Rattle.lf_ast.specs.Labels.{Bytes, HasNoEmptyText, Labels}
use Rattle.lf_ast.proofs.LabelSets.{found_is_not_empty}
use Rattle.lf_ast.specs.declared.expr.Matching.{Matching}
use Rattle.lf_semantics.specs.Grouped.{SameSignature, signs}
use Rattle.lf_semantics.specs.Texts.{HasTexts, restricted, value_of}
use Rattle.lf_semantics.proofs.Restricted.{value-restricted}
use Rattle.lf_semantics.proofs.Members.{true_same}
use Rattle.lf_witness.specs.Ascending.{labels_cmp}
use Rattle.lf_witness.proofs.Decided.{same_told, told_same}
use Rattle.lf_witness.proofs.OneSample.{same_text}

pub has_texts : (s : Labels) → HasNoEmptyText (entries s) → HasTexts s
has_texts s h name text e = found_is_not_empty name (entries s) h text (sym e ∙ get-entries s name)

module _ (m : Matching) (s t : Labels) where
  pub one_signature : HasTexts s → HasTexts t → SameSignature m s t → restricted (signs m) s ≡ restricted (signs m) t
  one_signature full too same = same_map nat_list_cmp_total (slice_cmp-IsAntisymmetric nat_cmp-IsAntisymmetric) _ _ (λ q.
      at s q ∙ by q (signs m q) refl ∙ sym (at t q))
    where
      at : (u : Labels) (q : Bytes) → get (restricted (signs m) u) q ≡ cond (signs m q) (get u q) None
      at u q = get-retain_keys u (signs m) q (λ x tied. ap (signs m) (sym (slice_cmp-IsAntisymmetric nat_cmp-IsAntisymmetric q x tied)))

      by : (q : Bytes) (b : Bool) → signs m q ≡ b → cond b (get s q) None ≡ cond b (get t q) None
      by q true e = same_text (get s q) (get t q) (λ x f. full q x f) (λ x f. too q x f) (same q e)
      by q false e = refl

  pub same_signature : restricted (signs m) s ≡ restricted (signs m) t → SameSignature m s t
  same_signature e label signed =
      sym (value-restricted (signs m) s label ∙ ap (λ b. cond b (value_of s label) []) signed)
      ∙ ap (λ u. value_of u label) e
      ∙ (value-restricted (signs m) t label ∙ ap (λ b. cond b (value_of t label) []) signed)

-- two samples have the same signature where either has the text of each label of the other that is matched

-- at some place stands what a look-up finds
found_at : (q text : Bytes) (es : List (Bytes × Bytes)) → find (slice_cmp nat_cmp) q es ≡ Some text → (k : ℕ) × (slice_get es k ≡ Some (q, text))
found_at q text [] e = cc
found_at q text (x ∷ es) e = by (eq_by_cmp (slice_cmp nat_cmp) q x.0) refl (found_at q text es) e
  where
    by : (b : Bool) → eq_by_cmp (slice_cmp nat_cmp) q x.0 ≡ b → (find (slice_cmp nat_cmp) q es ≡ Some text → (k : ℕ) × (slice_get es k ≡ Some (q, text)))
        → cond b (Some x.1) (find (slice_cmp nat_cmp) q es) ≡ Some text → (k : ℕ) × (slice_get (x ∷ es) k ≡ Some (q, text))
    by true tied _ f =
        let label : x.0 ≡ q = sym (true_same q x.0 (sym (is_eq-slice_cmp q x.0) ∙ tied)) in
        let same : x.1 ≡ text = cc in
        (zero, ap₂ (λ (a b : Bytes). Some (a, b)) label same)
    by false _ later f = let at = later f in (suc at.0, at.1)

pub same_texts : (a b : Bytes) (differ : Bool) → differ ≡ not (bytes_eq a b) → differ ≡ false → a ≡ b
same_texts a b differ is other = true_same a b (by (bytes_eq a b) (sym is ∙ other))
  where
    by : (v : Bool) → not v ≡ false → v ≡ true
    by true e = refl
    by false e = absurd (true≢false e)

below_or_at : (j k : ℕ) → j < k + 1 → (j < k) ⊎ (j ≡ k)
below_or_at j zero lt = inr (omega (arith, lt))
below_or_at zero (suc k) lt = inl (omega arith)
below_or_at (suc j) (suc k) lt = elim (below_or_at j k (omega (arith, lt))) [
  | inl below ↦ inl (omega (arith, below))
  | inr at ↦ inr (ap suc at)
]

module _ (m : Matching) where
  -- so it has at the labels before a place
  abbrev pub AgreesBefore : Labels → Labels → ℕ → Type 0
  AgreesBefore s t k = (j : ℕ) (e : Bytes × Bytes) → j < k → slice_get (entries s) j ≡ Some e → signs m e.0 ≡ true → value_of s e.0 ≡ value_of t e.0

  pub agrees_further : (s t : Labels) (k : ℕ) (x : Bytes × Bytes) → slice_get (entries s) k ≡ Some x → (signs m x.0 ≡ true → value_of s x.0 ≡ value_of t x.0) → AgreesBefore s t k → AgreesBefore s t (k + 1)
  agrees_further s t k x here agrees before j e lt at signed = elim (below_or_at j k lt) [
    | inl below ↦ before j e below at signed
    | inr same ↦
        let is : x ≡ e = (let both : Some x ≡ Some e = sym here ∙ ap (slice_get (entries s)) (sym same) ∙ at in cc) in
        subst (λ (y : Bytes × Bytes). value_of s y.0 ≡ value_of t y.0) is (agrees (subst (λ (y : Bytes × Bytes). signs m y.0 ≡ true) (sym is) signed))
  ]

  -- at each label of a sample that is matched another has its text
  abbrev pub Agrees : Labels → Labels → Type 0
  Agrees s t = (k : ℕ) (e : Bytes × Bytes) → slice_get (entries s) k ≡ Some e → signs m e.0 ≡ true → value_of s e.0 ≡ value_of t e.0

  agree_at : (s t : Labels) → Agrees s t → (label text : Bytes) → signs m label ≡ true → get s label ≡ Some text → value_of s label ≡ value_of t label
  agree_at s t agrees label text signed e = let at = found_at label text (entries s) (sym (get-entries s label) ∙ e) in agrees at.0 (label, text) at.1 signed

  pub both_agree : (s t : Labels) → Agrees s t → Agrees t s → SameSignature m s t
  both_agree s t one other label signed = by (get s label) refl (get t label) refl
    where
      by : (o : Option Bytes) → get s label ≡ o → (p : Option Bytes) → get t label ≡ p → value_of s label ≡ value_of t label
      by (Some text) e p f = agree_at s t one label text signed e
      by None e (Some text) f = sym (agree_at t s other label text signed f)
      by None e None f = ap (λ (o : Option Bytes). unwrap_or o []) (e ∙ sym f)

  pub told_signature : (s t : Labels) (b : Bool) → (b ≡ true → HasTexts s × HasTexts t × SameSignature m s t) → (b ≡ false → SameSignature m s t → ⊥)
      → b ≡ eq_by_cmp labels_cmp (restricted (signs m) s) (restricted (signs m) t)
  told_signature s t true same other = let is = same refl in sym (same_told _ _ (one_signature m s t is.0 is.1 is.2))
  told_signature s t false same other = by (eq_by_cmp labels_cmp (restricted (signs m) s) (restricted (signs m) t)) refl
    where
      by : (b : Bool) → eq_by_cmp labels_cmp (restricted (signs m) s) (restricted (signs m) t) ≡ b → false ≡ b
      by true e = absurd (other refl (same_signature m s t (told_same _ _ e)))
      by false e = refl

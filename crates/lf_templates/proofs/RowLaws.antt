-- The references in an action, found one by one.
use Rattle.std.proofs.Common.{◌≡◌, ℕ, ◌+◌, ◌-◌, ◌<◌, ◌≤◌, Bool, true, false, cond, ◌&&◌, List, [], ◌∷◌, map, Some, length, take, drop, refl, arith, subst}
use Rattle.std.specs.Str.{IsAscii}
use Rattle.std.proofs.lemmas.Bool.{and_parts}
use Rattle.std.proofs.lemmas.Option.{cond_some}
use Rattle.lf_templates.specs.declared.token.Lexeme.{Lexeme}
use Rattle.lf_templates.specs.declared.token.ReferenceSpan.{ReferenceSpan}
use Rattle.lf_templates.specs.declared.reference.Reference.{Reference}
use Rattle.lf_templates.specs.Actions.{is_field, is_root, is_labels_field, begins_row, row_to, row_of_two, row_here}
use Rattle.lf_templates.specs.Templates.{reference}
use Rattle.lf_templates.specs.reading.Templates.{total, Named, IsRowIn}

-- ---- where they stand

-- a field that stands behind some bytes, and the row that ends with it
field_row : (text : List ℕ) (at before len : ℕ) → 0 < len → at + before + len ≤ length text → IsAscii (take (len - 1) (drop (at + before + 1) text)) → IsRowIn text (row_to at before len)
field_row text at before len lt le a =
    let e : at + before + len - (at + before + 1) ≡ len - 1 = omega arith in
    record { order = omega arith; name = omega arith; within = le; ascii = rw e a }

module _ (text : List ℕ) (inside : Bool) (at : ℕ) where
  two_known : (l m : Lexeme) (ls : List Lexeme) (r : ReferenceSpan) → row_of_two inside at l m ≡ Some r → Named text at (l ∷ m ∷ ls) → at + total (l ∷ m ∷ ls) ≤ length text → IsRowIn text r
  two_known l m ls r e n le =
      let g = cond_some (begins_row inside l.token && is_field m.token) (row_to at l.len m.len) r e in
      let f = (and_parts (begins_row inside l.token) (is_field m.token) g.0).1 in
      subst (IsRowIn text) g.1 (field_row text at l.len m.len n.2.0 (omega arith) (n.2.1 f))

  pub row_known : (ls : List Lexeme) (r : ReferenceSpan) → row_here inside at ls ≡ Some r → Named text at ls → at + total ls ≤ length text → IsRowIn text r
  row_known [] r e n le = cc
  row_known (l ∷ []) r e n le = cc
  row_known (l ∷ m ∷ []) r e n le = two_known l m [] r e n le
  row_known (l ∷ m ∷ o ∷ ls) r e n le = by (is_root l.token && is_labels_field m.token && is_field o.token) refl e
    where
      third : is_field o.token ≡ true → IsRowIn text (row_to at (l.len + m.len) o.len)
      third f =
          let k : at + l.len + m.len ≡ at + (l.len + m.len) = omega arith in
          field_row text at (l.len + m.len) o.len n.2.2.0 (omega arith) (subst (λ (x : ℕ). IsAscii (take (o.len - 1) (drop (x + 1) text))) k (n.2.2.1 f))

      by : (t : Bool) → (is_root l.token && is_labels_field m.token && is_field o.token) ≡ t → cond t (Some (row_to at (l.len + m.len) o.len)) (row_of_two inside at l m) ≡ Some r → IsRowIn text r
      by true is e =
          let p = and_parts (is_root l.token && is_labels_field m.token) (is_field o.token) is in
          let same : row_to at (l.len + m.len) o.len ≡ r = cc in
          subst (IsRowIn text) same (third p.1)
      by false is e = two_known l m (o ∷ ls) r e n le

-- ---- the loop

abbrev pub told : List ℕ → List ℕ → List ReferenceSpan → List Reference
told from text rs = map (reference from text) rs

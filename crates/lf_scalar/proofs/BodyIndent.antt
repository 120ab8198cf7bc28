-- What the lines of a body tell of its content indent, one after the other.
use Rattle.std.proofs.Common.{◌≡◌, ℕ, ◌+◌, ◌<◌, ◌≤◌, List, ◌∷◌, length, take, drop, refl, ap, arith, sym, ◌∙◌, ◌⊎◌, inl, inr}
use Rattle.std.specs.Prelude.{max}
use Rattle.std.proofs.lemmas.List.{length-drop, length-take, drop_all}
use Rattle.std.proofs.lemmas.Bool.Decides.{leb_tells}
use Rattle.lf_scalar.specs.Cells.{cells}
use Rattle.lf_scalar.specs.Lines.{line, lines, lines_at, indent_of}
use Rattle.lf_scalar.specs.Block.{told_indent}
use Rattle.lf_scalar.proofs.BodyLines.{are-spaces, have-text}
use Rattle.lf_scalar.proofs.Cells.{cells-length}

module _ (above longest at : ℕ) (bytes : List ℕ) (place text feed n : ℕ) (so_far : told_indent above above (lines_at at bytes) ≡ told_indent above longest (lines_at (at + place) (drop place bytes)))
    (first : lines_at (at + place) (drop place bytes) ≡ line (cells (at + place) (take text (drop place bytes))) (at + (place + feed)) ∷ lines_at (at + (place + (feed + 1))) (drop (place + (feed + 1)) bytes))
    (within : place + text ≤ length bytes) (count : n ≡ indent_of (cells (at + place) (take text (drop place bytes)))) where
  long : length (take text (drop place bytes)) ≡ text
  long = omega (arith, length-take text (drop place bytes), length-drop place bytes)

  pub indent-low : n < text → n < above → longest ≡ told_indent above above (lines_at at bytes)
  indent-low lt low =
      let h = have-text (at + place) (take text (drop place bytes)) n (at + (place + feed)) count (omega (arith, long)) in
      elim (leb_tells above (indent_of (cells (at + place) (take text (drop place bytes))))) [
        | inl a ↦ absurd (omega (arith, a.1, count, low))
        | inr a ↦ sym (so_far ∙ ap (told_indent above longest) first ∙ rw (h, a.0) refl)
      ]

  pub indent-here : n < text → above ≤ n → n ≡ told_indent above above (lines_at at bytes)
  indent-here lt high =
      let h = have-text (at + place) (take text (drop place bytes)) n (at + (place + feed)) count (omega (arith, long)) in
      elim (leb_tells above (indent_of (cells (at + place) (take text (drop place bytes))))) [
        | inl a ↦ count ∙ sym (so_far ∙ ap (told_indent above longest) first ∙ rw (h, a.0) refl)
        | inr a ↦ absurd (omega (arith, a.1, count, high))
      ]

  pub indent-later : text ≤ n → told_indent above above (lines_at at bytes) ≡ told_indent above (max longest text) (lines_at (at + (place + (feed + 1))) (drop (place + (feed + 1)) bytes))
  indent-later le =
      let h = are-spaces (at + place) (take text (drop place bytes)) n (at + (place + feed)) count (omega (arith, long)) in
      let m : length (cells (at + place) (take text (drop place bytes))) ≡ text = cells-length (at + place) (take text (drop place bytes)) ∙ long in
      so_far ∙ ap (told_indent above longest) first ∙ rw (h, m) refl

pub indent-none : (above longest at : ℕ) (bytes : List ℕ) (place : ℕ) → told_indent above above (lines_at at bytes) ≡ told_indent above longest (lines_at (at + place) (drop place bytes)) → length bytes ≤ place → longest ≡ told_indent above above (lines_at at bytes)
unfolding lines
indent-none above longest at bytes place e le = sym (e ∙ rw (drop_all place bytes le) refl)

pub longer : (longest text len above : ℕ) → text ≤ len → (longest ≤ len) ⊎ (longest ≤ above) → (max longest text ≤ len) ⊎ (max longest text ≤ above)
longer longest text len above t (inl h) = inl (omega (arith, t, h))
longer longest text len above t (inr h) = elim (leb_tells text above) [ inl a ↦ inr (omega (arith, a.1, h)) | inr a ↦ inl (omega (arith, a.1, h, t)) ]

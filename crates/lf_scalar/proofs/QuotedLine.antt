-- One line between quotes, by where its pieces stop.
use Rattle.std.proofs.Common.{◌≡◌, ◌≢◌, ℕ, ◌+◌, ◌<◌, ◌≤◌, Bool, true, false, cond, List, [], ◌∷◌, ◌++◌, Result, Ok, Err, length, get_or, take, drop, refl, ap, arith, append_assoc, sym, ◌∙◌, eq-eqb, ◌&&◌}
use Rattle.std.specs.List.{flat_map, list_all}
use Rattle.std.proofs.lemmas.List.{length-append, drop_all}
use Rattle.std.proofs.lemmas.Bool.{ne_eqb}
use Rattle.std.proofs.lemmas.Grind.{flat_map-append}
use Rattle.std.proofs.Math.Seq.{take-append_seam}
use Rattle.lf_base.specs.declared.kind.Kind.TheVariants.{BadEscape}
use Rattle.lf_base.specs.declared.fault.Fault.{Fault}
use Rattle.lf_scalar.specs.Cells.{Cell, cell, cells, byte_fault}
use Rattle.lf_scalar.specs.Folding.{trimmed}
use Rattle.lf_scalar.specs.Quoted.{Quotes, QuotedPiece, given, is_bare_blank, Break, Folds, Drops}
use Rattle.lf_scalar.specs.reading.Quoted.{scan, Reaches, ended, line_of, line_at}
use Rattle.lf_scalar.proofs.Cells.{cells-drop}

abbrev pub good : List Cell → Break → Result (List Cell × Break) Fault
good part break = Ok (part, break)

trimmed-front : {X : Type 0} (t : X → Bool) (xs : List X) → (rest : List X) × (xs ≡ trimmed t xs ++ rest)
trimmed-front t [] = ([], refl)
trimmed-front {X = X} t (x ∷ xs) = by (t x && list_all t xs) (trimmed-front t xs)
  where
    by : (b : Bool) → (rest : List X) × (xs ≡ trimmed t xs ++ rest) → (rest : List X) × (x ∷ xs ≡ cond b [] (x ∷ trimmed t xs) ++ rest)
    by true r = (x ∷ xs, refl)
    by false r = (r.0, ap (λ ys. x ∷ ys) r.1)

-- what is kept of a line whose break is folded
kept-front : (old now : List Cell) (kept : ℕ) (ps : List QuotedPiece) → now ≡ old ++ flat_map given ps → kept ≡ length old + length (flat_map given (trimmed is_bare_blank ps)) → take kept now ≡ old ++ flat_map given (trimmed is_bare_blank ps)
kept-front old now kept ps e k =
    let f = trimmed-front is_bare_blank ps in
    let x : List Cell = flat_map given (trimmed is_bare_blank ps) in
    let whole : now ≡ (old ++ x) ++ flat_map given f.0 =
    e ∙ ap (λ (qs : List QuotedPiece). old ++ flat_map given qs) f.1 ∙ ap (λ (cs : List Cell). old ++ cs) (flat_map-append given (trimmed is_bare_blank ps) f.0) ∙ sym (append_assoc old x (flat_map given f.0)) in
    let size : kept ≡ length (old ++ x) = k ∙ sym (length-append old x) in
    ap (λ (n : ℕ). take n now) size ∙ ap (take (length (old ++ x))) whole ∙ take-append_seam (old ++ x) (flat_map given f.0)

module _ (kind : Quotes) (at : ℕ) (line : List ℕ) (old now : List Cell) (kept stop : ℕ) (r : Reaches kind (cells at line) old now kept (cells (at + stop) (drop stop line))) (break : ℕ) where
  line-is : (left : List Cell) → cells (at + stop) (drop stop line) ≡ left → line_of kind (line_at at line break) ≡ ended break ((scan kind 0 (cells at line)).0, left)
  line-is left e = ap (λ (x : List Cell). ended break ((scan kind 0 (cells at line)).0, x)) (sym r.left_is ∙ e)

  pub ends-line : (after : List Cell) → length line ≤ stop → after ≡ take kept now → (part : List Cell) × (line_of kind (line_at at line break) ≡ good part (Folds break)) × (after ≡ old ++ part)
  ends-line after le a =
      (flat_map given (trimmed is_bare_blank (scan kind 0 (cells at line)).0), line-is [] (rw (drop_all stop line le) refl), a ∙ kept-front old now kept (scan kind 0 (cells at line)).0 r.text r.kept_is)

  pub ends-quote : stop < length line → get_or line stop 0 ≢ 92 → (part : List Cell) × (line_of kind (line_at at line break) ≡ good part (Folds break)) × (now ≡ old ++ part)
  ends-quote lt n = (flat_map given (scan kind 0 (cells at line)).0, line-is (cell (get_or line stop 0) (at + stop) ∷ cells (at + (stop + 1)) (drop (stop + 1) line)) (cells-drop at line stop lt) ∙ rw (ne_eqb (get_or line stop 0) 92 n) refl, r.text)

  pub ends-backslash : stop < length line → get_or line stop 0 ≡ 92 → length line ≤ stop + 1 → (part : List Cell) × (line_of kind (line_at at line break) ≡ good part (Drops break)) × (now ≡ old ++ part)
  ends-backslash lt e le =
      let left : cells (at + stop) (drop stop line) ≡ cell (get_or line stop 0) (at + stop) ∷ [] = cells-drop at line stop lt ∙ rw (drop_all (stop + 1) line le) refl in
      (flat_map given (scan kind 0 (cells at line)).0, line-is (cell (get_or line stop 0) (at + stop) ∷ []) left ∙ rw (eq-eqb (get_or line stop 0) 92 e) refl, r.text)

  pub ends-bad : stop + 1 < length line → get_or line stop 0 ≡ 92 → line_of kind (line_at at line break) ≡ Err (byte_fault BadEscape (at + stop))
  ends-bad lt e =
      let left : cells (at + stop) (drop stop line) ≡ cell (get_or line stop 0) (at + stop) ∷ cell (get_or line (stop + 1) 0) (at + (stop + 1)) ∷ cells (at + (stop + 1 + 1)) (drop (stop + 1 + 1) line) =
      cells-drop at line stop (omega arith) ∙ ap (λ (cs : List Cell). cell (get_or line stop 0) (at + stop) ∷ cs) (cells-drop at line (stop + 1) lt) in
      line-is _ left ∙ rw (eq-eqb (get_or line stop 0) 92 e) refl

-- A quoted scalar by its bytes: where it closes, what its lines give, and what stands behind it.
use Rattle.std.proofs.Common.{◌≡◌, false, ℕ, suc, ◌+◌, ◌<◌, ◌≤◌, List, [], ◌∷◌, ◌++◌, Option, Some, None, Result, Ok, Err, length, get_or, take, drop, ap, arith, sym, ◌∙◌, subst}
use Rattle.std.proofs.lemmas.List.{length-take, length-drop, take_all}
use Rattle.lf_base.specs.declared.kind.Kind.TheVariants.{OpenQuote, NotANode}
use Rattle.lf_base.specs.declared.refusal.Refusal.{Refusal}
use Rattle.lf_base.specs.declared.refusal.Refusal.TheVariants as refusal_of
use Rattle.lf_base.specs.declared.fault.Fault.{Fault}
use Rattle.lf_base.specs.Faults.{span}
use Rattle.lf_scalar.specs.Cells.{Cell, cell, cells, Value, made, byte_fault, character_fault, Fails, ◌>>=◌}
use Rattle.lf_scalar.specs.Lines.{Line, line as one_line, lines, lines_at, first_text}
use Rattle.lf_scalar.specs.Quoted.{Quotes}
use Rattle.lf_scalar.specs.Splits.{split_of}
use Rattle.lf_scalar.specs.reading.Quoted.{closing_of, lines_of, wrong_behind, alone, closed, quoted_of}
use Rattle.lf_scalar.specs.views.Built.{refused}
use Rattle.lf_scalar.specs.reading.Styles.{quoted_at}
use Rattle.lf_scalar.proofs.Cells.{cells-take}
use Rattle.lf_scalar.proofs.LineSteps.{lines-nil}

-- ---- the first line

pub first-text : (at t f : ℕ) (rest line : List ℕ) → t ≤ length rest → line ≡ take t rest → (0 < length rest → lines_at at rest ≡ one_line (cells at (take t rest)) (at + f) ∷ lines_at (at + (f + 1)) (drop (f + 1) rest)) → cells at line ≡ first_text (lines_at at rest)
first-text at t f [] line le e h = ap (cells at) (e ∙ take_all t [] (omega arith)) ∙ sym (ap first_text (lines-nil (at + 0)))
first-text at t f (x ∷ xs) line le e h = ap (cells at) e ∙ sym (ap first_text (h (omega arith)))

-- ---- the scalar

pub opened : (kind : Quotes) (end at : ℕ) (rest inner : List ℕ) → 0 < length rest → inner ≡ drop 1 rest → quoted_at kind end (cells at rest) ≡ quoted_of kind end (cell (get_or rest 0 0) at) (cells (at + 1) inner)
opened kind end at [] inner lt e = absurd (omega arith)
opened kind end at (x ∷ xs) inner lt e = let p : suc at ≡ at + 1 = omega arith in ap (λ (n : ℕ). quoted_of kind end (cell x at) (cells n xs)) p ∙ ap (λ (bytes : List ℕ). quoted_of kind end (cell x at) (cells (at + 1) bytes)) (sym e)

module _ (kind : Quotes) (end at : ℕ) (opening : Cell) (inner : List ℕ) where
  pub nothing-closes : closing_of kind 0 (cells at inner) ≡ None → quoted_of kind end opening (cells at inner) ≡ Err (byte_fault OpenQuote opening.at)
  unfolding quoted_of
  nothing-closes e = ap (closed kind end opening) e

  module _ (k : ℕ) (lt : k < length inner) (found : closing_of kind 0 (cells at inner) ≡ Some (split_of at inner k)) (end_is : end ≡ at + length inner) where
    inner-is : lines (at + k + 1) (cells at (take k inner) ++ cell (get_or inner k 0) (at + k) ∷ []) ≡ lines_at at (take (k + 1) inner)
    inner-is =
        let n : at + k + 1 ≡ at + length (take (k + 1) inner) = omega (arith, length-take (k + 1) inner, lt) in
        ap (lines (at + k + 1)) (sym (cells-take at inner k lt)) ∙ ap (λ (m : ℕ). lines m (cells at (take (k + 1) inner))) n

    behind-is : lines end (cells (at + (k + 1)) (drop (k + 1) inner)) ≡ lines_at (at + k + 1) (drop (k + 1) inner)
    behind-is =
        let p : at + (k + 1) ≡ at + k + 1 = omega arith in
        let n : end ≡ at + k + 1 + length (drop (k + 1) inner) = omega (arith, end_is, length-drop (k + 1) inner, lt) in
        ap (λ (m : ℕ). lines end (cells m (drop (k + 1) inner))) p ∙ ap (λ (m : ℕ). lines m (cells (at + k + 1) (drop (k + 1) inner))) n

    abbrev judged : Option Cell → List Cell → Result Value Fault
    judged o text = alone (made text (at + k) (span opening.at (at + k + 1))) o

    quoted-is : quoted_of kind end opening (cells at inner) ≡ lines_of kind (lines_at at (take (k + 1) inner)) >>= judged (wrong_behind false (first_text (lines_at (at + k + 1) (drop (k + 1) inner))))
    unfolding quoted_of
    quoted-is = ap (closed kind end opening) found
        ∙ ap (λ (ls : List Line). lines_of kind ls >>= judged (wrong_behind false (first_text (lines end (cells (at + (k + 1)) (drop (k + 1) inner)))))) inner-is
        ∙ ap (λ (ls : List Line). lines_of kind (lines_at at (take (k + 1) inner)) >>= judged (wrong_behind false (first_text ls))) behind-is

    pub bad-lines : (e : Refusal) → Fails e (lines_of kind (lines_at at (take (k + 1) inner))) → Fails e (quoted_of kind end opening (cells at inner))
    bad-lines refusal_of.Memory h = tt
    bad-lines (refusal_of.At kd s) h = quoted-is ∙ ap (λ (read : Result (List Cell) Fault). read >>= judged (wrong_behind false (first_text (lines_at (at + k + 1) (drop (k + 1) inner))))) h

    pub with-text : (old now : List Cell) (o : Option Cell) → old ≡ [] → (part : List Cell) × (lines_of kind (lines_at at (take (k + 1) inner)) ≡ Ok part) × (now ≡ old ++ part) → wrong_behind false (first_text (lines_at (at + k + 1) (drop (k + 1) inner))) ≡ o
        → quoted_of kind end opening (cells at inner) ≡ judged o now
    with-text old now o n (part, e, t) w =
        let whole_text : now ≡ part = t ∙ ap (λ (cs : List Cell). cs ++ part) n in
        quoted-is ∙ ap (λ (read : Result (List Cell) Fault). read >>= judged (wrong_behind false (first_text (lines_at (at + k + 1) (drop (k + 1) inner))))) e ∙ ap (λ (x : Option Cell). judged x part) w ∙ ap (judged o) (sym whole_text)

-- ---- what the code returns

module _ (kind : Quotes) (at : ℕ) (rest inner : List ℕ) (lt : 0 < length rest) (inner_is : inner ≡ drop 1 rest) where
  abbrev whole : Result Value Fault
  whole = quoted_at kind (at + length rest) (cells at rest)

  whole-is : whole ≡ quoted_of kind (at + length rest) (cell (get_or rest 0 0) at) (cells (at + 1) inner)
  whole-is = opened kind (at + length rest) at rest inner lt inner_is

  pub told-open : (e : Refusal) → e ≡ refused (byte_fault OpenQuote at) → None ≡ closing_of kind 0 (cells (at + 1) inner) → Fails e whole
  told-open e e_is none = subst (λ (x : Refusal). Fails x whole) (sym e_is) (whole-is ∙ nothing-closes kind (at + length rest) (at + 1) (cell (get_or rest 0 0) at) inner (sym none))

  module _ (k : ℕ) (within : k < length inner) (found : Some (split_of (at + 1) inner k) ≡ closing_of kind 0 (cells (at + 1) inner)) (taken : List ℕ) (taken_is : taken ≡ take (k + 1) inner) where
    end-is : at + length rest ≡ at + 1 + length inner
    end-is = omega (arith, lt, ap length inner_is, length-drop 1 rest)

    pub told-lines : (e : Refusal) → Fails e (lines_of kind (lines_at (at + 1) taken)) → Fails e whole
    told-lines e h =
        let g : Fails e (lines_of kind (lines_at (at + 1) (take (k + 1) inner))) = subst (λ (bytes : List ℕ). Fails e (lines_of kind (lines_at (at + 1) bytes))) taken_is h in
        subst (Fails e) (sym whole-is) (bad-lines kind (at + length rest) (at + 1) (cell (get_or rest 0 0) at) inner k within (sym found) end-is e g)

    module _ (old now : List Cell) (behind line : List ℕ) (new : old ≡ []) (text : (part : List Cell) × (lines_of kind (lines_at (at + 1) taken) ≡ Ok part) × (now ≡ old ++ part)) (behind_is : behind ≡ drop (k + 1) inner)
        (line_is : cells (at + 1 + k + 1) line ≡ first_text (lines_at (at + 1 + k + 1) behind)) where
      judges : (o : Option Cell) → o ≡ wrong_behind false (cells (at + 1 + k + 1) line) → whole ≡ alone (made now (at + 1 + k) (span at (at + 1 + k + 1))) o
      judges o w =
          let text' = subst (λ (bytes : List ℕ). (part : List Cell) × (lines_of kind (lines_at (at + 1) bytes) ≡ Ok part) × (now ≡ old ++ part)) taken_is text in
          let l : wrong_behind false (cells (at + 1 + k + 1) line) ≡ wrong_behind false (first_text (lines_at (at + 1 + k + 1) (drop (k + 1) inner))) =
          ap (wrong_behind false) line_is ∙ ap (λ (bytes : List ℕ). wrong_behind false (first_text (lines_at (at + 1 + k + 1) bytes))) behind_is in
          whole-is ∙ with-text kind (at + length rest) (at + 1) (cell (get_or rest 0 0) at) inner k within (sym found) end-is old now o new text' (sym (w ∙ l))

      pub told-value : None ≡ wrong_behind false (cells (at + 1 + k + 1) line) → whole ≡ Ok (made now (at + 1 + k) (span at (at + 1 + k + 1)))
      told-value w = judges None w

      pub told-wrong : (e : Refusal) (c : Cell) → e ≡ refused (character_fault NotANode c) → Some c ≡ wrong_behind false (cells (at + 1 + k + 1) line) → Fails e whole
      told-wrong e c e_is w = subst (λ (x : Refusal). Fails x whole) (sym e_is) (judges (Some c) w)

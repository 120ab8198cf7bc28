-- Reading a scalar in a file: from what the readers of the styles return to what the file has.
use Rattle.std.proofs.Common.{◌≡◌, true, ℕ, zero, suc, SFits, to_z, of_z, w32, ◌+◌, ◌<◌, ◌≤◌, List, [], ◌∷◌, Result, Ok, Err, length, drop, refl, ap, arith, sym, ◌∙◌, subst}
use Rattle.std.specs.Prelude.{ℤ, pos, negsuc, IfOk}
use Rattle.std.specs.Str.{IsUtf8}
use Rattle.std.proofs.lemmas.List.{length-drop}
use Rattle.std.proofs.lemmas.Int.{to_z-of_z}
use Rattle.lf_base.specs.declared.refusal.Refusal.{Refusal}
use Rattle.lf_scalar.specs.declared.raw_scalar.RawScalar.{RawScalar}
use Rattle.lf_scalar.specs.declared.scalar.Scalar.{Scalar}
use Rattle.lf_scalar.specs.declared.scalar.Style.{Style}
use Rattle.lf_base.specs.Answers.{AnswersAs, Found, Only, Refused, Breach}
use Rattle.lf_base.proofs.Answering.{Decides}
use Rattle.lf_base.proofs.Answering as answering
use Rattle.lf_scalar.specs.Cells.{Cell, cells, Value, Fails}
use Rattle.lf_scalar.specs.Lines.{Line, lines, lines_at, first_text}
use Rattle.lf_scalar.specs.Scalars.{least_above, begins, source_at, IsOfStyle, BeginsAt, IsScalarAt, BreaksAt, value}
use Rattle.lf_scalar.specs.Offsets.{AreOffsets}
use Rattle.lf_scalar.specs.views.Built.{built}
use Rattle.lf_scalar.specs.reading.Styles.{reading}
use Rattle.lf_scalar.proofs.LineSteps.{lines-nil}
use Rattle.lf_scalar.proofs.Tails.{true-false}
use Rattle.lf_scalar.proofs.Laws.{decides, begins-nothing}
use Rattle.lf_scalar.proofs.TextLaws.{utf8-text, offsets}

pub some-rest : (s : Style) (end at : ℕ) (rest : List ℕ) → begins s (first_text (lines end (cells at rest))) ≡ true → 0 < length rest
some-rest s end at [] h = true-false _ h (ap (λ (ls : List Line). begins s (first_text ls)) (lines-nil end) ∙ begins-nothing s)
some-rest s end at (x ∷ xs) h = omega arith

module _ (s : Style) (bytes : List ℕ) (at : ℕ) (begun : begins s (first_text (lines (length bytes) (source_at bytes at))) ≡ true) where
  -- it begins in the file
  pub begins-within : at < length bytes
  begins-within = omega (arith, some-rest s (length bytes) at (drop at bytes) begun, length-drop at bytes)

  module _ (rest : List ℕ) (rest_is : rest ≡ drop at bytes) where
    pub end-is : at + length rest ≡ length bytes
    end-is = omega (arith, begins-within, ap length rest_is, length-drop at bytes)

    pub begins-rest : begins s (first_text (lines_at at rest)) ≡ true
    begins-rest = ap (λ (n : ℕ). begins s (first_text (lines n (cells at rest)))) end-is ∙ ap (λ (bs : List ℕ). begins s (first_text (lines (length bytes) (cells at bs)))) rest_is ∙ begun

    module _ (above : ℕ) where
      reading-is : reading s above (at + length rest) (cells at rest) ≡ reading s above (length bytes) (source_at bytes at)
      reading-is = ap (λ (n : ℕ). reading s above n (cells at rest)) end-is ∙ ap (λ (bs : List ℕ). reading s above (length bytes) (cells at bs)) rest_is

      pub whole-fails : (e : Refusal) → Fails e (reading s above (at + length rest) (cells at rest)) → Fails e (reading s above (length bytes) (source_at bytes at))
      whole-fails e h = subst (Fails e) reading-is h

      module _ (d : RawScalar) (given : reading s above (at + length rest) (cells at rest) ≡ Ok (built d)) where
        whole-is : reading s above (length bytes) (source_at bytes at) ≡ Ok (built d)
        whole-is = sym reading-is ∙ given

        pub whole-gives : (r : Result Scalar Refusal) → AnswersAs value r (Ok (built d)) → AnswersAs value r (reading s above (length bytes) (source_at bytes at))
        whole-gives r h = subst (AnswersAs value r) (sym whole-is) h

        pub whole-scalar : IsOfStyle s above (length bytes) (source_at bytes at) (built d)
        whole-scalar = (decides s above (length bytes) (source_at bytes at) begun).stands (built d) whole-is

-- by the least number of spaces of an indent above a parent's
pub by-indent : (s : Style) (end above : ℕ) (indent : ℤ) (src : List Cell) (r : Result Scalar Refusal) → SFits w32 indent → above ≡ least_above (to_z w32 (of_z w32 indent)) → AnswersAs value r (reading s above end src) → AnswersAs value r (reading s (least_above indent) end src)
by-indent s end above indent src r fits e h =
    subst (λ (n : ℕ). AnswersAs value r (reading s n end src)) (e ∙ ap least_above (to_z-of_z w32 indent fits)) h

-- ---- the four clauses

module _ (bytes : List ℕ) (at : ℕ) (indent : ℤ) (s : Style) (begun : BeginsAt bytes at s) (above : ℕ) (r : Result Scalar Refusal) (fits : SFits w32 indent) (above_is : above ≡ least_above (to_z w32 (of_z w32 indent)))
    (given : AnswersAs value r (reading s above (length bytes) (source_at bytes at))) where
  decided : Decides (IsScalarAt bytes at indent s) (BreaksAt bytes at indent s) (reading s (least_above indent) (length bytes) (source_at bytes at))
  decided = decides s (least_above indent) (length bytes) (source_at bytes at) begun.1

  gives : AnswersAs value r (reading s (least_above indent) (length bytes) (source_at bytes at))
  gives = by-indent s (length bytes) above indent (source_at bytes at) r fits above_is given

  pub is-found : Found value (IsScalarAt bytes at indent s) r
  is-found = answering.found value (IsScalarAt bytes at indent s) (BreaksAt bytes at indent s) (reading s (least_above indent) (length bytes) (source_at bytes at)) decided r gives

  pub is-only : Only value (IsScalarAt bytes at indent s) r
  is-only = answering.only value (IsScalarAt bytes at indent s) (BreaksAt bytes at indent s) (reading s (least_above indent) (length bytes) (source_at bytes at)) decided r gives

  pub is-refused : Refused (BreaksAt bytes at indent s) r
  is-refused = answering.refused value (IsScalarAt bytes at indent s) (BreaksAt bytes at indent s) (reading s (least_above indent) (length bytes) (source_at bytes at)) decided r gives

  pub is-breach : Breach value (BreaksAt bytes at indent s) r
  is-breach = answering.breach value (IsScalarAt bytes at indent s) (BreaksAt bytes at indent s) (reading s (least_above indent) (length bytes) (source_at bytes at)) decided r gives

-- what holds of each value of some kind holds of the one that was found
pub of-found : {P Q : Value → Type 0} → ((v : Value) → P v → Q v) → (r : Result Scalar Refusal) → IfOk r (λ s. P (value s)) → IfOk r (λ s. Q (value s))
of-found law (Ok s) h = law (value s) h
of-found law (Err e) h = tt

-- ---- the laws of texts and offsets, by the least number of spaces of an indent above the parent's

as-indent : (above : ℕ) → (z : ℤ) × (least_above z ≡ above)
as-indent zero = (negsuc 0, refl)
as-indent (suc n) = (pos n, refl)

module _ (bytes : List ℕ) (at above : ℕ) (s : Style) (v : Value) (begun : BeginsAt bytes at s) (scalar : IsOfStyle s above (length bytes) (source_at bytes at) v) where
  scalar-at : IsScalarAt bytes at (as-indent above).0 s v
  scalar-at = subst (λ (n : ℕ). IsOfStyle s n (length bytes) (source_at bytes at) v) (sym (as-indent above).1) scalar

  pub text-law : IsUtf8 bytes → IsUtf8 v.text
  text-law u = utf8-text bytes at (as-indent above).0 s v u begun scalar-at

  pub offsets-law : AreOffsets v.text v.from v.span × (v.span.end ≤ length bytes)
  offsets-law = offsets bytes at (as-indent above).0 s v begun scalar-at

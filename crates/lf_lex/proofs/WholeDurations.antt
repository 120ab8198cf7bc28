-- Which texts are durations as a whole.
use Rattle.std.proofs.Common.{◌≡◌, ℕ, ◌<◌, ◌≤◌, ◌↔◌, Bool, true, false, List, [], ◌∷◌, ◌++◌, Some, None, IsTrue, length, arith, append_assoc, refl, sym, ◌∙◌, subst}
use Rattle.std.proofs.lemmas.Bool.{false≢true}
use Rattle.std.proofs.lemmas.List.Concat.{flat_map-cons}
use Rattle.std.specs.List.{flat_map, AllByRecursion}
use Rattle.lf_lex.specs.Bytes.{are_some}
use Rattle.lf_base.specs.Names.{is_digit}
use Rattle.lf_lex.specs.Durations.{letters, Amount, amount_text, IsDuration}
use Rattle.lf_lex.specs.reading.Runs.{duration_order}
use Rattle.lf_lex.proofs.DurationLaws.{ordered, only_ordered}

some_digits : (ds more : List ℕ) → are_some is_digit ds ≡ true → 0 < length (ds ++ more)
some_digits [] more h = absurd (false≢true h)
some_digits (d ∷ ds) more h = omega arith

-- a duration isn't empty
pub duration_some : (run : List ℕ) → IsDuration run → 0 < length run
duration_some run (amounts, parts, climb) = by amounts parts.some parts.each parts.source
  where
    by : (amounts : List Amount) → 0 < length amounts → AllByRecursion (λ a. are_some is_digit a.digits ≡ true) amounts → run ≡ flat_map amount_text amounts → 0 < length run
    by [] l each e = absurd (omega arith)
    by (a ∷ more) l each e =
        subst (λ (x : List ℕ). 0 < length x) (sym (e ∙ flat_map-cons amount_text a more ∙ append_assoc a.digits (letters a.measure) (flat_map amount_text more))) (some_digits a.digits (letters a.measure ++ flat_map amount_text more) each.0)

pub whole_none : (run : List ℕ) → length run ≤ 0 → IsTrue false ↔ IsDuration run
whole_none run none = ((λ h. absurd (false≢true h)), (λ d. let l : 0 < length run = duration_some run d in absurd (omega arith)))

pub whole_some : (run : List ℕ) (b : Bool) → 0 < length run → duration_order run ≡ Some b → IsTrue b ↔ IsDuration run
whole_some run true lt e = ((λ h. only_ordered run lt e), (λ d. refl))
whole_some run false lt e = ((λ h. absurd (false≢true h)), (λ d. let f : duration_order run ≡ Some true = ordered run d in absurd (cc)))

pub whole_other : (run : List ℕ) → duration_order run ≡ None → IsTrue false ↔ IsDuration run
whole_other run e = ((λ h. absurd (false≢true h)), (λ d. let f : duration_order run ≡ Some true = ordered run d in absurd (cc)))

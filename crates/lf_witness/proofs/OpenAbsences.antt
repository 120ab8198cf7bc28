-- An `absent` is open where its sample may be bare, or two matchers are on one label.
use Rattle.std.proofs.Common.{◌≡◌, inl, inr, ◌<◌, Bool, true, false, not, ◌&&◌, ◌||◌, nat_lt, List, [], ◌∷◌, length, Some, refl, sym, ap, ◌∙◌, subst, true≢false, arith}
use Rattle.std.specs.Prelude.{◌↔◌, IsTrue}
use Rattle.std.proofs.lemmas.Bool.{or_cases, or_left, or_right}
use Rattle.std.proofs.lemmas.Bool.Decides.{nat_tests}
use Rattle.std.specs.List.{Contains, filter}
use Rattle.std.specs.Str.{bytes_eq}
use Rattle.lf_laws.proofs.Members.{any_has, here, some_has}
use Rattle.lf_ast.specs.Labels.{Bytes}
use Rattle.lf_ast.specs.declared.expr.Matcher.{Matcher}
use Rattle.lf_semantics.proofs.Members.{of_filter, true_same}
use Rattle.lf_semantics.specs.Grouped.{is_metric}
use Rattle.lf_semantics.specs.Parts.{Sought}
use Rattle.lf_witness.specs.Strict.{IsOpenAbsent}
use Rattle.lf_witness.specs.views.Absence.{has_two, is_twice}

-- the matchers on a label
abbrev on : Bytes → List Matcher → List Matcher
on label matchers = filter (λ m. bytes_eq m.label label) matchers

twice_is : (b : Bool) (n : _) → (not b && nat_lt 1 n) ≡ true → (b ≡ false) × (1 < n)
twice_is true n e = absurd (true≢false (sym e))
twice_is false n e = (refl, grind (arith, nat_tests, e))

twice : (b : Bool) (n : _) → b ≡ false → 1 < n → (not b && nat_lt 1 n) ≡ true
twice true n e lt = absurd (true≢false e)
twice false n e lt = grind (arith, nat_tests, lt)

-- some matcher is on a label that has two
on_one : (matchers : List Matcher) (label : Bytes) → 1 < length (on label matchers) → (m : Matcher) × Contains matchers m × (m.label ≡ label)
on_one matchers label two = by (on label matchers) two (λ m c. of_filter (λ m. bytes_eq m.label label) matchers m c)
  where
    by : (found : List Matcher) → 1 < length found → ((m : Matcher) → Contains found m → Contains matchers m × (bytes_eq m.label label ≡ true)) → (m : Matcher) × Contains matchers m × (m.label ≡ label)
    by [] more of = absurd (omega (arith, more))
    by (m ∷ found) more of = let is = of m (here m found) in (m, is.0, true_same m.label label is.1)

pub opens : (matchers : List Matcher) (bare : Bool) → IsTrue (bare || has_two matchers) ↔ IsOpenAbsent (Some (record { matchers = matchers; may_be_bare = bare }))
opens matchers bare = (
  λ e. elim (or_cases bare (has_two matchers) e) [
    | inl may ↦ inl may
    | inr two ↦ (
        let found = some_has (λ m. is_twice matchers m.label) matchers two in
        let is = twice_is (is_metric found.0.label) (length (on found.0.label matchers)) found.2 in
        inr (found.0.label, is.0, is.1)
        )
  ],
  λ is_open. elim is_open [
    | inl may ↦ or_left bare (has_two matchers) may
    | inr two ↦ (
        let at = on_one matchers two.0 two.2 in
        let same = subst (λ label. is_twice matchers label ≡ true) (sym at.2) (twice (is_metric two.0) (length (on two.0 matchers)) two.1 two.2) in
        or_right bare (has_two matchers) (any_has (λ m. is_twice matchers m.label) matchers at.0 at.1 same)
        )
  ],
)

-- of one that isn't open for its parentheses or its `@`
pub opens_by : (sought : Sought) (bare found : Bool) → bare ≡ sought.may_be_bare → bare ≡ false → found ≡ has_two sought.matchers → IsTrue found ↔ IsOpenAbsent (Some sought)
opens_by sought bare found is not two =
    subst (λ b. IsTrue b ↔ IsOpenAbsent (Some sought)) (ap (λ b. b || has_two sought.matchers) (sym is ∙ not) ∙ sym two) (opens sought.matchers sought.may_be_bare)

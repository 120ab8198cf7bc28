-- Breaches of patterns and selectors: the functions that find them agree with the relations, and of several breaches one is told.
use Rattle.std.proofs.Common.{◌≡◌, ◌↔◌, ◌⊎◌, inl, inr, true, false, ◌||◌, List, [], ◌∷◌, Option, refl}
use Rattle.std.specs.List.{AllByRecursion, list_all}
use Rattle.std.proofs.lemmas.Bool.{and_from, and_parts, false_from_ne_true, or_cases, or_left, or_right}
use Rattle.lf_ast.specs.Labels.{Bytes}
use Rattle.lf_ast.specs.Tree.{Tree}
use Rattle.lf_ast.specs.declared.expr.Matcher.{Matcher}
use Rattle.lf_base.specs.declared.fault.Fault.{Fault}
use Rattle.lf_base.proofs.Least.{only_one}
use Rattle.lf_pattern.specs.Matching.{IsRead, is_read}
use Rattle.lf_pattern.proofs.GroupLaws.{read_is}
use Rattle.lf_semantics.specs.Passing.{Passes, passes}
use Rattle.lf_semantics.specs.PatternBreaches.{NamesNoMetric, TellsPattern, is_empty_name, names_twice}
use Rattle.lf_semantics.specs.reading.Selectors.{passes_empty}
use Rattle.lf_laws.proofs.Booleans.{clash}
use Rattle.lf_semantics.proofs.PatternTexts.{passes_is}

pub unread_is : (pattern : Bytes) → (is_read pattern ≡ false) ↔ (IsRead pattern → ⊥)
unread_is pattern = (λ e read. clash _ ((read_is pattern).1 read) e, λ none. false_from_ne_true (is_read pattern) (λ e. none ((read_is pattern).0 e)))

each_passes_empty : (matchers : List Matcher) → (list_all (λ (m : Matcher). passes m.op m.value []) matchers ≡ true) ↔ AllByRecursion (λ (m : Matcher). Passes m.op m.value []) matchers
each_passes_empty [] = (λ e. tt, λ all. refl)
each_passes_empty (m ∷ matchers) = (
  λ e. let both = and_parts _ _ e in ((passes_is m.op m.value []).0 both.0, (each_passes_empty matchers).0 both.1),
  λ all. and_from _ _ ((passes_is m.op m.value []).1 all.0) ((each_passes_empty matchers).1 all.1),
)

pub passes_empty_is : (name : Option Bytes) (matchers : List Matcher) → (passes_empty name matchers ≡ true) ↔ NamesNoMetric name matchers
passes_empty_is name matchers = (
  λ e. let both = and_parts (is_empty_name name) _ e in (both.0, (each_passes_empty matchers).0 both.1),
  λ none. and_from (is_empty_name name) _ none.0 ((each_passes_empty matchers).1 none.1),
)

-- a selector names no metric, or names it twice
pub bad_selector_is : (name : Option Bytes) (matchers : List Matcher) → ((names_twice name matchers || passes_empty name matchers) ≡ true) ↔ (NamesNoMetric name matchers ⊎ (names_twice name matchers ≡ true))
bad_selector_is name matchers = (
  λ e. elim (or_cases (names_twice name matchers) (passes_empty name matchers) e) [ inl twice ↦ inr twice | inr none ↦ inl ((passes_empty_is name matchers).0 none) ],
  λ bad. elim bad [
    | inl none ↦ or_right (names_twice name matchers) (passes_empty name matchers) ((passes_empty_is name matchers).1 none)
    | inr twice ↦ or_left (names_twice name matchers) (passes_empty name matchers) twice
  ],
)

-- an expression tells one breach at most
pub tells_one : (e : Tree) (f g : Fault) → TellsPattern e f → TellsPattern e g → f ≡ g
tells_one e f g a b = only_one f g (b.1 f a.0) (a.1 g b.0)

-- Names that were sought for selectors, each in the place of its selector.
use Rattle.std.proofs.Common.{◌≡◌, zero, suc, List, [], ◌∷◌, Option, Some, None, IfSome, sym, ◌∙◌, ap, subst}
use Rattle.std.specs.List.{AllZip}
use Rattle.lf_ast.specs.Labels.{Bytes}
use Rattle.lf_ast.specs.Rules.{RuleTree}
use Rattle.lf_ast.specs.Tree.{Tree, Selector}
use Rattle.lf_ast.specs.declared.expr.Matcher.{Matcher}
use Rattle.lf_semantics.specs.Listing.{Listing}
use Rattle.lf_candidates.specs.views.ClassTexts.{IsClass}
use Rattle.lf_built.specs.declared.unsaid.SoughtName.{SoughtName}
use Rattle.lf_built.specs.views.Spots.{IsSelector}
use Rattle.lf_built.specs.views.Unsaid.{AreSought, IsNameFor, IsSought, IsUnnamed}

-- a selector has one list of matchers

matchers_in : Tree → List Matcher
matchers_in (Selector name matchers sight span) = matchers
matchers_in _ = []

pub same_matchers : (e : Tree) (name : Option Bytes) (matchers others : List Matcher) → IsSelector e name matchers → IsUnnamed e others → matchers ≡ others
unfolding matchers_in
same_matchers e name matchers others is unnamed = sym (ap matchers_in is.2) ∙ ap matchers_in unnamed.1.2

module _ (u : Listing) (rules : List RuleTree) where
  -- what stands side by side with expressions is found in their places
  pub in_place : (all : List Tree) (found : List (Option SoughtName)) → AllZip (IsSought u rules) all found → AreSought u rules all found
  in_place [] found zip place e at = absurd (cc)
  in_place (x ∷ all) [] zip place e at = absurd zip
  in_place (x ∷ all) (y ∷ found) zip zero e at = let one : x ≡ e = cc in subst (λ (t : Tree). IsSought u rules t y) one zip.0
  in_place (x ∷ all) (y ∷ found) zip (suc place) e at = in_place all found zip.1 place e at

  pub none_sought : (all : List Tree) → AreSought u rules all []
  none_sought all zero e at = tt
  none_sought all (suc place) e at = tt

  -- what was sought is a class, and the name for the selector
  pub class_of_sought : (e : Tree) (found : Option SoughtName) → IsSought u rules e found → IfSome found (λ (f : SoughtName). IsClass u 0 f.class)
  class_of_sought e None sought = tt
  class_of_sought e (Some found) sought = sought.0

  pub name_of_sought : (e : Tree) (found : Option SoughtName) (matchers : List Matcher) → IsSought u rules e found → IsUnnamed e matchers → IfSome found (IsNameFor u rules matchers)
  name_of_sought e None matchers sought unnamed = tt
  name_of_sought e (Some found) matchers sought unnamed = sought.1 matchers unnamed

-- The name of the series for a selector: the text of the label of number 0.
use Rattle.std.proofs.Common.{◌≡◌, ◌<◌, ℕ, Bool, cond, List, Option, Some, None, sym, ◌∙◌, ap, subst, length, arith}
use Rattle.std.specs.Prelude.{option_and_then, option_map}
use Rattle.lf_ast.specs.Labels.{Bytes}
use Rattle.lf_ast.specs.Rules.{RuleTree}
use Rattle.lf_ast.specs.Selectors.{metric}
use Rattle.lf_classes.specs.Limits.{IsWithin}
use Rattle.lf_semantics.specs.Listing.{Listing}
use Rattle.lf_trials.specs.Given.{Given}
use Rattle.lf_trials.specs.Names.{is_scraped_name}
use Rattle.lf_candidates.specs.views.ClassTexts.{IsClass, Stands, class_at, text_at}
use Rattle.lf_candidates.proofs.Labelled.{metric_first, some_label}

module _ (u : Listing) (within : IsWithin u) where
  pub has_first : (texts : List (Option ℕ)) (D : Given) → Stands u texts D → 0 < length texts
  has_first texts D stands = let some = some_label u within in omega (arith, some, stands.count)

  -- the class that is said of the metric name stands for the text that is given of it
  pub first_stands : (texts : List (Option ℕ)) (D : Given) (class : Option ℕ) → Stands u texts D → class ≡ class_at texts 0 → IsClass u 0 class × (D metric ≡ option_map (text_at u 0) class)
  first_stands texts D class stands is =
      let at = stands.each 0 (some_label u within) in
      subst (λ o. IsClass u 0 o × (D metric ≡ option_map (text_at u 0) o)) (sym is) (at.0, ap D (sym (metric_first u within)) ∙ at.1)

-- a name that is said, where scraped series may have it
pub said_name : (rules : List RuleTree) (D : Given) (text : Bytes) (scraped : Bool) → D metric ≡ Some text → scraped ≡ is_scraped_name rules text
    → cond scraped (Some text) None ≡ option_and_then (λ name. cond (is_scraped_name rules name) (Some name) None) (D metric)
said_name rules D text scraped says is = ap (λ (b : Bool). cond b (Some text) None) is ∙ sym (ap (option_and_then (λ name. cond (is_scraped_name rules name) (Some name) None)) says)

-- What `absent` gives a label.
use Rattle.std.proofs.Common.{◌≡◌, Bool, true, false, ◌&&◌, cond, List, [], ◌∷◌, refl, sym, ◌∙◌, ap, map}
use Rattle.std.specs.List.{filter}
use Rattle.std.specs.Option.{option_map_or}
use Rattle.std.specs.Str.{bytes_eq}
use Rattle.lf_ast.specs.Labels.{Bytes}
use Rattle.lf_ast.specs.Selectors.{is_equal}
use Rattle.lf_ast.specs.declared.expr.Matcher.{Matcher}
use Rattle.lf_semantics.specs.Strings.{equal_texts}
use Rattle.lf_trials.specs.Candidates.{first}
use Rattle.lf_uniform.specs.views.Following.{first_equal}

-- the first `=` among the matchers on the label
pub equal_is : (label : Bytes) (matchers : List Matcher) → first_equal label matchers ≡ option_map_or (λ text. text) (first (equal_texts (filter (λ m. bytes_eq m.label label) matchers))) []
equal_is label [] = refl
equal_is label (m ∷ matchers) = by (is_equal m.op) (bytes_eq m.label label) refl (equal_is label matchers)
  where
    by : (a b : Bool) → is_equal m.op ≡ a → first_equal label matchers ≡ option_map_or (λ text. text) (first (equal_texts (filter (λ n. bytes_eq n.label label) matchers))) []
        → cond (a && b) m.value (first_equal label matchers) ≡ option_map_or (λ text. text) (first (equal_texts (cond b (m ∷ filter (λ n. bytes_eq n.label label) matchers) (filter (λ n. bytes_eq n.label label) matchers)))) []
    by true true is later = sym (ap (λ (z : Bool). option_map_or (λ text. text) (first (map (λ (n : Matcher). n.value) (cond z (m ∷ filter (λ n. is_equal n.op) (filter (λ n. bytes_eq n.label label) matchers)) (filter (λ n. is_equal n.op) (filter (λ n. bytes_eq n.label label) matchers))))) []) is)
    by true false is later = later
    by false false is later = later
    by false true is later = later ∙ sym (ap (λ (z : Bool). option_map_or (λ text. text) (first (map (λ (n : Matcher). n.value) (cond z (m ∷ filter (λ n. is_equal n.op) (filter (λ n. bytes_eq n.label label) matchers)) (filter (λ n. is_equal n.op) (filter (λ n. bytes_eq n.label label) matchers))))) []) is)

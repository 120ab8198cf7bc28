-- What is followed of the metric name goes by no text that all series have, since each has a name of its own.
use Rattle.std.proofs.Common.{◌≡◌, ◌<◌, ℕ, zero, suc, Bool, true, false, cond, [], ◌∷◌, Option, Some, None, length, refl, sym, ◌∙◌, ap, ap₂, arith}
use Rattle.std.specs.Prelude.{not, ◌&&◌, List, option_and_then}
use Rattle.std.specs.Option.{option_map}
use Rattle.lf_ast.specs.Functions.{Signature, aggregation, function_named}
use Rattle.lf_ast.specs.Labels.{Bytes}
use Rattle.lf_ast.specs.Rules.{RuleTree}
use Rattle.lf_ast.specs.Selectors.{selected_name}
use Rattle.lf_ast.specs.Tree.{Tree, Trees, Number, Str, Selector, Subquery, Paren, Unary, Binary, Call, Aggregate, Nil, Next}
use Rattle.lf_ast.specs.declared.expr.Grouping.{Grouping}
use Rattle.lf_ast.specs.declared.expr.Grouping.TheVariants.{None as Ungrouped}
use Rattle.lf_ast.specs.declared.expr.Matcher.{Matcher}
use Rattle.lf_semantics.specs.Environments.{records}
use Rattle.lf_semantics.specs.Grouped.{is_metric}
use Rattle.lf_semantics.specs.Listing.{Listing}
use Rattle.lf_semantics.specs.Parts.{is_scalar_part, operand_place}
use Rattle.lf_trials.specs.Follow.{Followed, follow, follow_argument, follow_binary, follow_by_rule, follow_call, follow_effect, follow_from, follow_name, if_it_passes, nameless_if, on_series, recorded_text}
use Rattle.lf_trials.specs.Names.{name_for}
use Rattle.lf_trials.specs.Reached.{first_rule, is_marked, is_recorded}
use Rattle.lf_uniform.specs.declared.texts.WantedPresence.{WantedPresence}
use Rattle.lf_uniform.specs.views.Texts.{comes_out, is_followed}

module _ (u : Listing) (rules : List RuleTree) (label : Bytes) (is : is_metric label ≡ true) (one other : Bytes) where
  on_each : (name : Followed) → on_series u rules label one name ≡ on_series u rules label other name
  on_each name = ap (λ (b : Bool). cond b name (Some one)) is ∙ sym (ap (λ (b : Bool). cond b name (Some other)) is)

  module _ (f g : Bytes → Followed) (same : (name : Bytes) → f name ≡ g name) where
    of_name : (o : Option Bytes) (matchers : List Matcher) → follow_name u rules label one f o matchers ≡ follow_name u rules label other g o matchers
    of_name None matchers = on_each (name_for u rules matchers)
    of_name (Some name) matchers = ap₂ (cond (is_recorded rules name)) (same name) (on_each (Some name))

    of_call : (o : Option Signature) (grouping : Grouping) (args : Trees) (x y : ℕ → Followed) → ((k : ℕ) → x k ≡ y k) → follow_call label o grouping args x ≡ follow_call label o grouping args y
    of_call None grouping args x y each = refl
    of_call (Some s) grouping args x y each = ap (follow_effect label s.labels grouping args) (each (operand_place s))

    mutual
      of_tree : (e : Tree) → follow u rules label one f e ≡ follow u rules label other g e
      of_tree (Number text span) = refl
      of_tree (Str text span) = refl
      of_tree (Selector name matchers sight span) = ap (if_it_passes label matchers) (of_name (selected_name name matchers) matchers)
      of_tree (Subquery of sight span) = of_tree of
      of_tree (Paren of span) = of_tree of
      of_tree (Unary minus of span) = ap (nameless_if label minus) (of_tree of)
      of_tree (Binary op m left right span) = ap₂ (follow_binary label op m (is_scalar_part left) (is_scalar_part right)) (of_tree left) (of_tree right)
      of_tree (Call name args span) = of_call (function_named name) Ungrouped args _ _ (of_argument args)
      of_tree (Aggregate op grouping args span) = of_call (Some (aggregation op)) grouping args _ _ (of_argument args)

      of_argument : (args : Trees) (k : ℕ) → follow_argument u rules label one f args k ≡ follow_argument u rules label other g args k
      of_argument Nil k = refl
      of_argument (Next x xs) zero = of_tree x
      of_argument (Next x xs) (suc k) = of_argument xs k

  -- recorded names

  -- what the first rule of a name gives, and as it stores it, if there is one
  of_found : (f g : List ℕ → Bytes → Followed) (marked : List ℕ) → ((marks : List ℕ) (name : Bytes) → f marks name ≡ g marks name) → (found : Option (ℕ × RuleTree)) →
      option_and_then (λ at. option_map (recorded_text label at.1) (follow u rules label one (f (at.0 ∷ marked)) at.1.expr)) found
      ≡ option_and_then (λ at. option_map (recorded_text label at.1) (follow u rules label other (g (at.0 ∷ marked)) at.1.expr)) found
  of_found f g marked same None = refl
  of_found f g marked same (Some at) = ap (option_map (recorded_text label at.1)) (of_tree (f (at.0 ∷ marked)) (g (at.0 ∷ marked)) (same (at.0 ∷ marked)) at.1.expr)

  of_rule : (unmarked : ℕ) (marked : List ℕ) (name : Bytes) → follow_by_rule u rules label one unmarked marked name ≡ follow_by_rule u rules label other unmarked marked name
  of_rule zero marked name = refl
  of_rule (suc unmarked) marked name =
      of_found (follow_by_rule u rules label one unmarked) (follow_by_rule u rules label other unmarked) marked (of_rule unmarked) (first_rule (λ k r. records name r && not (is_marked marked k)) 0 rules)

  pub same_for_each : (i : ℕ) (own : RuleTree) → follow_from u rules label one i own ≡ follow_from u rules label other i own
  same_for_each i own = of_tree (follow_by_rule u rules label one (length rules) (i ∷ [])) (follow_by_rule u rules label other (length rules) (i ∷ [])) (of_rule (length rules) (i ∷ [])) own.expr

-- so of these texts it is enough to ask the first, where the label is the metric name
pub none_of_any : (u : Listing) (rules : List RuleTree) (name : Bytes) (i : ℕ) (own : RuleTree) (wanted : WantedPresence) (text : ℕ → Bytes) (all asked : ℕ) → (is_metric name ≡ true → asked ≡ 1) → (is_metric name ≡ false → asked ≡ all)
    → ((j : ℕ) → j < asked → is_followed u rules i own wanted name (text j) ≡ false) → (j : ℕ) → j < all → is_followed u rules i own wanted name (text j) ≡ false
none_of_any u rules name i own wanted text all asked one each none j less = by (is_metric name) refl
  where
    by : (b : Bool) → is_metric name ≡ b → is_followed u rules i own wanted name (text j) ≡ false
    by true is = ap (comes_out wanted) (same_for_each u rules name is (text j) (text 0) i own) ∙ none 0 (let first = one is in omega (arith, first))
    by false is = none j (let whole = each is in omega (arith, whole, less))

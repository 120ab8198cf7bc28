-- The row of an expression stays the same where the rows that it selects do.
use Rattle.std.proofs.Common.{◌≡◌, ℕ, zero, suc, Bool, true, false, cond, List, [], Option, Some, None, refl, ◌∙◌, ap}
use Rattle.std.specs.List.{AllByRecursion}
use Rattle.lf_ast.specs.Functions.{Signature, aggregation, function_named}
use Rattle.lf_ast.specs.Labels.{Bytes}
use Rattle.lf_ast.specs.Rules.{RuleTree}
use Rattle.lf_ast.specs.Tree.{Tree, Trees, Number, Str, Selector, Subquery, Paren, Unary, Binary, Call, Aggregate, Nil, Next}
use Rattle.lf_ast.specs.declared.expr.Grouping.{Grouping}
use Rattle.lf_ast.specs.declared.expr.Grouping.TheVariants.{None as Ungrouped}
use Rattle.lf_ast.specs.declared.expr.Matcher.{Matcher}
use Rattle.lf_semantics.specs.ClassRows.{Sets, narrowed, bottom}
use Rattle.lf_semantics.specs.Environments.{recorded_row, with_text, with_texts}
use Rattle.lf_semantics.specs.Listing.{Listing}
use Rattle.lf_semantics.specs.Parts.{is_evaluated, is_scalar_part, operand_place, type_by_form}
use Rattle.lf_ast.specs.Selectors.{selected_name, metric}
use Rattle.lf_semantics.specs.RowTable.{Environment, binary_row, call_row, effect_row, passes_matchers, row_at, row_named, row_of, row_or_series, seen_row, selector_row, sign_row}
use Rattle.lf_semantics.proofs.Members.{all_back, all_front}
use Rattle.lf_deps.specs.Reading.{arguments_selectors, selectors, selectors_in}
use Rattle.lf_flow.proofs.ScalarRows.{scalar_same}

module _ (u : Listing) (env other : Environment) where
  abbrev pub SameAt : Option Bytes → Type 0
  SameAt None = env ≡ other
  SameAt (Some name) = row_named env name ≡ row_named other name

  seen_same : (o : Option Bytes) → SameAt o → seen_row u env o ≡ seen_row u other o
  seen_same None h = ap (λ (x : Environment). seen_row u x None) h
  seen_same (Some name) h = ap (λ (o : Option Sets). row_or_series u o name) h

  selector_same : (name : Option Bytes) (matchers : List Matcher) → SameAt (selected_name name matchers) → selector_row u env name matchers ≡ selector_row u other name matchers
  selector_same name matchers h = ap (λ (x : Sets). narrowed (passes_matchers u matchers) x) (seen_same (selected_name name matchers) h)

  call_same : (o : Option Signature) (grouping : Grouping) (args : Trees) (rows others : ℕ → Sets) → ((k : ℕ) → rows k ≡ others k) → call_row u o grouping args rows ≡ call_row u o grouping args others
  call_same None grouping args rows others h = refl
  call_same (Some s) grouping args rows others h = ap (λ (x : Sets). effect_row u s.labels grouping args x) (h (operand_place s))

  -- a scalar has the same row anyhow
  outside_same : (e : Tree) → (AllByRecursion SameAt (selectors_in e) → row_of u env e ≡ row_of u other e) → AllByRecursion SameAt (selectors e) → row_of u env e ≡ row_of u other e
  outside_same e inside all = by (is_scalar_part e) refl all
    where
      by : (scalar : Bool) → is_scalar_part e ≡ scalar → AllByRecursion SameAt (cond scalar [] (selectors_in e)) → row_of u env e ≡ row_of u other e
      by true is found = scalar_same u env other e is
      by false is found = inside found

  mutual
    inside_same : (e : Tree) → AllByRecursion SameAt (selectors_in e) → row_of u env e ≡ row_of u other e
    inside_same (Number text span) all = refl
    inside_same (Str text span) all = refl
    inside_same (Selector name matchers sight span) all = selector_same name matchers all.0
    inside_same (Subquery of sight span) all = outside_same of (inside_same of) all
    inside_same (Paren of span) all = outside_same of (inside_same of) all
    inside_same (Unary minus of span) all = ap (λ (x : Sets). sign_row u minus x) (outside_same of (inside_same of) all)
    inside_same (Binary op m left right span) all =
        ap (λ (x : Sets). binary_row u op m (is_scalar_part left) (is_scalar_part right) x (row_of u env right)) (outside_same left (inside_same left) (all_front SameAt (selectors left) (selectors right) all))
        ∙ ap (λ (x : Sets). binary_row u op m (is_scalar_part left) (is_scalar_part right) (row_of u other left) x) (outside_same right (inside_same right) (all_back SameAt (selectors left) (selectors right) all))
    inside_same (Call name args span) all = call_same (function_named name) Ungrouped args (row_at u env args) (row_at u other args) (arguments_same args all)
    inside_same (Aggregate op grouping args span) all = call_same (Some (aggregation op)) grouping args (row_at u env args) (row_at u other args) (arguments_same args all)

    arguments_same : (args : Trees) → AllByRecursion SameAt (arguments_selectors args) → (k : ℕ) → row_at u env args k ≡ row_at u other args k
    arguments_same Nil all k = refl
    arguments_same (Next x xs) all zero = outside_same x (inside_same x) (all_front SameAt (selectors x) (arguments_selectors xs) all)
    arguments_same (Next x xs) all (suc k) = arguments_same xs (all_back SameAt (selectors x) (arguments_selectors xs) all) k

  pub row_same : (e : Tree) → AllByRecursion SameAt (selectors e) → row_of u env e ≡ row_of u other e
  row_same e all = outside_same e (inside_same e) all

  pub recorded_same : (r : RuleTree) → AllByRecursion SameAt (selectors r.expr) → recorded_row u env r ≡ recorded_row u other r
  recorded_same r all =
      ap (λ (x : Sets). with_texts u r.labels (with_text u metric r.name (cond (is_evaluated (type_by_form r.expr)) x (bottom u)))) (row_same r.expr all)

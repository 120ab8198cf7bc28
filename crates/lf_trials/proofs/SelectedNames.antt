-- Selectors with their matchers are the selectors that are read, in the same order.
use Rattle.std.proofs.Common.{◌≡◌, Bool, true, false, cond, List, [], ◌++◌, map, Option, refl, ap₂, ◌∙◌}
use Rattle.std.proofs.lemmas.List.{map-append}
use Rattle.lf_ast.specs.Labels.{Bytes}
use Rattle.lf_ast.specs.Tree.{Tree, Trees, Number, Str, Selector, Subquery, Paren, Unary, Binary, Call, Aggregate, Nil, Next}
use Rattle.lf_deps.specs.Reading.{arguments_selectors, selectors, selectors_in}
use Rattle.lf_semantics.specs.Parts.{is_scalar_part, outside_scalars}
use Rattle.lf_trials.specs.Selected.{Selected, selected_in, selected_in_arguments, selectors_of}

abbrev said : List Selected → List (Option Bytes)
said selected = map (λ s. s.name) selected

unless_same : (e : Tree) (xs : List Selected) (ys : List (Option Bytes)) → said xs ≡ ys → said (outside_scalars e xs) ≡ outside_scalars e ys
unless_same e xs ys same = by (is_scalar_part e)
  where
    by : (b : Bool) → said (cond b [] xs) ≡ cond b [] ys
    by true = refl
    by false = same

both_same : (xs vs : List Selected) (ys ws : List (Option Bytes)) → said xs ≡ ys → said vs ≡ ws → said (xs ++ vs) ≡ ys ++ ws
both_same xs vs ys ws one other = map-append (λ (s : Selected). s.name) xs vs ∙ ap₂ (λ (a b : List (Option Bytes)). a ++ b) one other

mutual
  in_same : (e : Tree) → said (selected_in e) ≡ selectors_in e
  in_same (Number text span) = refl
  in_same (Str text span) = refl
  in_same (Selector name matchers sight span) = refl
  in_same (Subquery of sight span) = unless_same of _ _ (in_same of)
  in_same (Paren of span) = unless_same of _ _ (in_same of)
  in_same (Unary minus of span) = unless_same of _ _ (in_same of)
  in_same (Binary op m left right span) = both_same _ _ _ _ (unless_same left _ _ (in_same left)) (unless_same right _ _ (in_same right))
  in_same (Call name args span) = arguments_same args
  in_same (Aggregate op grouping args span) = arguments_same args

  arguments_same : (args : Trees) → said (selected_in_arguments args) ≡ arguments_selectors args
  arguments_same Nil = refl
  arguments_same (Next x xs) = both_same _ _ _ _ (unless_same x _ _ (in_same x)) (arguments_same xs)

pub same_selectors : (e : Tree) → map (λ s. s.name) (selectors_of e) ≡ selectors e
same_selectors e = unless_same e (selected_in e) (selectors_in e) (in_same e)

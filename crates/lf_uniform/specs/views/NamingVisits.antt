-- The law of the visit that names series: an expression has its own name, and those of its parts. It defines nothing.
use Rattle.std.proofs.Common.{◌≡◌, Bool, true, false, ◌&&◌, cond, List, [], ◌∷◌, ◌++◌, Option, Some, None, refl, sym, ◌∙◌, ap, true≢false, option_to_list}
use Rattle.std.specs.List.{flat_map}
use Rattle.std.proofs.lemmas.List.{append-nil, append_assoc}
use Rattle.lf_ast.specs.Labels.{Bytes}
use Rattle.lf_ast.specs.Rules.{RuleTree, rule_trees}
use Rattle.lf_ast.specs.Tree.{Tree, Trees, Number, Str, Selector, Subquery, Paren, Unary, Binary, Call, Aggregate, Nil, Next, list, parts_of}
use Rattle.lf_ast.specs.Types.{is_scalar, joined, selected}
use Rattle.lf_ast.specs.declared.expr.ExprType.{ExprType}
use Rattle.lf_ast.specs.declared.expr.ExprType.TheVariants.{Scalar, Vector}
use Rattle.lf_ast.specs.declared.walk.choosing.Parts.TheVariants.{All, Nothing}
use Rattle.lf_ast.specs.views.Walks.{along, chosen, further}
use Rattle.lf_classes.specs.views.TextSets.{with_text}
use Rattle.lf_deps.specs.views.Selecting.{is_scalar_call, parts_read}
use Rattle.lf_semantics.specs.Listing.{Listing}
use Rattle.lf_semantics.specs.Parts.{is_scalar_part, type_by_form}
use Rattle.lf_trials.specs.Selected.{Selected, selected_in, selected_in_arguments, selectors_of}
use Rattle.lf_trials.specs.Uniform.{name_unsaid}
use Rattle.lf_uniform.specs.declared.naming.NameCollector.{NameCollector}
use Rattle.lf_uniform.specs.views.Naming.{own_unsaid, unsaid_by, unsaid_in, with_each}

-- texts one behind the other
pub each_append : (xs names ys : List Bytes) → with_each names (xs ++ ys) ≡ with_each (with_each names xs) ys
each_append [] names ys = refl
each_append (x ∷ xs) names ys = each_append xs (with_text names x) ys

module _ (u : Listing) (rules : List RuleTree) where
  abbrev named : Selected → List Bytes
  named s = option_to_list (name_unsaid u rules s)

  abbrev unsaid : Tree → List Bytes
  unsaid e = unsaid_in u rules e

  unsaid_append : (xs ys : List Selected) → unsaid_by u rules (xs ++ ys) ≡ unsaid_by u rules xs ++ unsaid_by u rules ys
  unsaid_append [] ys = refl
  unsaid_append (x ∷ xs) ys = ap (λ (l : List Bytes). named x ++ l) (unsaid_append xs ys) ∙ sym (append_assoc (named x) (unsaid_by u rules xs) (unsaid_by u rules ys))

  -- a selector is no scalar
  of_selector : (range : Option Bytes) (x : List Selected) → cond (is_scalar (selected range)) [] x ≡ x
  of_selector None x = refl
  of_selector (Some duration) x = refl

  -- what has the type of its part has its selectors
  of_same : (scalar : Bool) (x : List Selected) → cond scalar [] (cond scalar [] x) ≡ cond scalar [] x
  of_same true x = refl
  of_same false x = refl

  -- an operator is a scalar only between scalars, which have no selectors
  of_sides : (l r : ExprType) (x y : List Selected) → cond (is_scalar (joined l r)) [] (cond (is_scalar l) [] x ++ cond (is_scalar r) [] y) ≡ cond (is_scalar l) [] x ++ cond (is_scalar r) [] y
  of_sides l r x y = by (is_scalar l) (is_scalar r)
    where
      by : (p q : Bool) → cond (is_scalar (cond (p && q) Scalar Vector)) [] (cond p [] x ++ cond q [] y) ≡ cond p [] x ++ cond q [] y
      by true true = refl
      by true false = refl
      by false true = refl
      by false false = refl

  of_arguments : (args : Trees) → unsaid_by u rules (selected_in_arguments args) ≡ flat_map unsaid (list args)
  of_arguments Nil = refl
  of_arguments (Next x xs) = unsaid_append (selectors_of x) (selected_in_arguments xs) ∙ ap (λ (l : List Bytes). unsaid x ++ l) (of_arguments xs)

  of_only : (e : Tree) → unsaid e ≡ flat_map unsaid (e ∷ [])
  of_only e = sym (append-nil (unsaid e))

  of_scalar_call : (e : Tree) → is_scalar_call e ≡ true → unsaid e ≡ own_unsaid u rules e
  of_scalar_call (Call name args span) is = ap (λ (b : Bool). unsaid_by u rules (cond b [] (selected_in_arguments args))) is
  of_scalar_call (Number text span) is = absurd (true≢false (sym is))
  of_scalar_call (Str text span) is = absurd (true≢false (sym is))
  of_scalar_call (Selector name matchers sight span) is = absurd (true≢false (sym is))
  of_scalar_call (Subquery of sight span) is = absurd (true≢false (sym is))
  of_scalar_call (Paren of span) is = absurd (true≢false (sym is))
  of_scalar_call (Unary minus of span) is = absurd (true≢false (sym is))
  of_scalar_call (Binary op m left right span) is = absurd (true≢false (sym is))
  of_scalar_call (Aggregate op grouping args span) is = absurd (true≢false (sym is))

  -- any other expression has its own and those of its parts
  of_parts : (e : Tree) → is_scalar_call e ≡ false → unsaid e ≡ own_unsaid u rules e ++ flat_map unsaid (parts_of e)
  of_parts (Number text span) is = refl
  of_parts (Str text span) is = refl
  of_parts (Selector name matchers sight span) is = ap (unsaid_by u rules) (of_selector sight.range (selected_in (Selector name matchers sight span)))
  of_parts (Subquery of sight span) is = of_only of
  of_parts (Paren of span) is = ap (unsaid_by u rules) (of_same (is_scalar_part of) (selected_in of)) ∙ of_only of
  of_parts (Unary minus of span) is = ap (unsaid_by u rules) (of_same (is_scalar_part of) (selected_in of)) ∙ of_only of
  of_parts (Binary op m left right span) is =
      ap (unsaid_by u rules) (of_sides (type_by_form left) (type_by_form right) (selected_in left) (selected_in right))
      ∙ unsaid_append (selectors_of left) (selectors_of right) ∙ ap (λ (l : List Bytes). unsaid left ++ l) (of_only right)
  of_parts (Call name args span) is = ap (λ (b : Bool). unsaid_by u rules (cond b [] (selected_in_arguments args))) is ∙ of_arguments args
  of_parts (Aggregate op grouping args span) is = of_arguments args

-- a visit of an expression puts its names behind the others

abbrev after : NameCollector → List Bytes → NameCollector
after s found = record s { names = with_each s.names found }

abbrev unsaid_of : NameCollector → Tree → List Bytes
unsaid_of s e = unsaid_in s.setting.now.universe (rule_trees s.setting.now.rules) e

abbrev Visited : NameCollector → Tree → NameCollector
Visited s e = after s (unsaid_of s e)

abbrev Stays : NameCollector → Tree → NameCollector
Stays s e = s

after_both : (s : NameCollector) (xs ys : List Bytes) → after (after s xs) ys ≡ after s (xs ++ ys)
after_both s xs ys = ap (λ (l : List Bytes). record s { names = l }) (sym (each_append xs s.names ys))

further_parts : (x : Tree) (parts : List Tree) (s : NameCollector) → further Visited Stays x parts s ≡ after s (flat_map (unsaid_of s) parts)
further_parts x [] s = refl
further_parts x (p ∷ parts) s = further_parts x parts (Visited s p) ∙ after_both s (unsaid_of s p) (flat_map (unsaid_of s) parts)

along_parts : (x : Tree) (parts : List Tree) (s : NameCollector) → along Visited Stays x parts s ≡ after s (flat_map (unsaid_of s) parts)
along_parts x [] s = refl
along_parts x (p ∷ parts) s = further_parts x (p ∷ parts) s

pub visits : (s : NameCollector) (x : Tree) → after s (unsaid_of s x) ≡ along Visited Stays x (chosen (parts_read x) (parts_of x)) (after s (own_unsaid s.setting.now.universe (rule_trees s.setting.now.rules) x))
visits s x = by (is_scalar_call x) refl
  where
    own : List Bytes
    own = own_unsaid s.setting.now.universe (rule_trees s.setting.now.rules) x

    by : (b : Bool) → is_scalar_call x ≡ b → after s (unsaid_of s x) ≡ along Visited Stays x (chosen (cond b Nothing All) (parts_of x)) (after s own)
    by true is = ap (after s) (of_scalar_call s.setting.now.universe (rule_trees s.setting.now.rules) x is)
    by false is =
        ap (after s) (of_parts s.setting.now.universe (rule_trees s.setting.now.rules) x is)
        ∙ sym (after_both s own (flat_map (unsaid_of s) (parts_of x)))
        ∙ sym (along_parts x (parts_of x) (after s own))

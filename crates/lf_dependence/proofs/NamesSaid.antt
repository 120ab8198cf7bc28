-- Where no selector of an expression leaves the metric name open, each says a name.
use Rattle.std.proofs.Common.{inl, inr, Bool, true, false, cond, List, [], ◌∷◌, ◌++◌, None}
use Rattle.std.proofs.lemmas.List.Elements.{Contains-append_left, Contains-append_right, Contains-append_cases}
use Rattle.std.specs.List.{Contains}
use Rattle.lf_laws.proofs.Members.{behind, here, none_in, only_one}
use Rattle.lf_ast.specs.Rules.{RuleTree}
use Rattle.lf_ast.specs.Selectors.{selected_name}
use Rattle.lf_ast.specs.Tree.{Tree, Trees, Number, Str, Selector, Subquery, Paren, Unary, Binary, Call, Aggregate, Nil, Next}
use Rattle.lf_semantics.specs.Parts.{is_scalar_part}
use Rattle.lf_deps.specs.Reading.{selectors, selectors_in, arguments_selectors}
use Rattle.lf_open.specs.Constructs.{SaysNoName}
use Rattle.lf_semantics.specs.Standing.{standing, standing_in, arguments_standing}
use Rattle.lf_dependence.specs.Dependence.{EachSaysName}

module _ (rules : List RuleTree) where
  -- one of these says no name
  abbrev IsUnsaidIn : List Tree → Type 0
  IsUnsaidIn parts = (part : Tree) × Contains parts part × SaysNoName rules part

  later : (first : Tree) (parts : List Tree) → IsUnsaidIn parts → IsUnsaidIn (first ∷ parts)
  later first parts unsaid = (unsaid.0, behind first parts unsaid.0 unsaid.1, unsaid.2)

  in_front : (front back : List Tree) → IsUnsaidIn front → IsUnsaidIn (front ++ back)
  in_front front back unsaid = (unsaid.0, Contains-append_left front back unsaid.0 unsaid.1, unsaid.2)

  in_back : (front back : List Tree) → IsUnsaidIn back → IsUnsaidIn (front ++ back)
  in_back front back unsaid = (unsaid.0, Contains-append_right front back unsaid.0 unsaid.1, unsaid.2)

  -- of a part, if it is no scalar
  of_part : (e : Tree) → (Contains (selectors_in e) None → IsUnsaidIn (standing_in e)) → Contains (selectors e) None → IsUnsaidIn (standing e)
  of_part e within = by (is_scalar_part e)
    where
      by : (b : Bool) → Contains (cond b [] (selectors_in e)) None → IsUnsaidIn (cond b [] (standing_in e))
      by true c = absurd (none_in None c)
      by false c = within c

  mutual
    unsaid_in : (e : Tree) → Contains (selectors_in e) None → IsUnsaidIn (standing_in e)
    unsaid_in (Number text span) c = absurd (none_in None c)
    unsaid_in (Str text span) c = absurd (none_in None c)
    unsaid_in (Selector name matchers sight span) c = (Selector name matchers sight span, here (Selector name matchers sight span) [], only_one (selected_name name matchers) None c)
    unsaid_in (Subquery of sight span) c = later (Subquery of sight span) (standing of) (of_part of (unsaid_in of) c)
    unsaid_in (Paren of span) c = later (Paren of span) (standing of) (of_part of (unsaid_in of) c)
    unsaid_in (Unary minus of span) c = later (Unary minus of span) (standing of) (of_part of (unsaid_in of) c)
    unsaid_in (Binary op m left right span) c =
        later (Binary op m left right span) (standing left ++ standing right) (elim (Contains-append_cases (selectors left) (selectors right) None c) [
          | inl d ↦ in_front (standing left) (standing right) (of_part left (unsaid_in left) d)
          | inr d ↦ in_back (standing left) (standing right) (of_part right (unsaid_in right) d)
        ])
    unsaid_in (Call name args span) c = later (Call name args span) (arguments_standing args) (unsaid_in_arguments args c)
    unsaid_in (Aggregate op grouping args span) c = later (Aggregate op grouping args span) (arguments_standing args) (unsaid_in_arguments args c)

    unsaid_in_arguments : (args : Trees) → Contains (arguments_selectors args) None → IsUnsaidIn (arguments_standing args)
    unsaid_in_arguments Nil c = absurd (none_in None c)
    unsaid_in_arguments (Next x xs) c = elim (Contains-append_cases (selectors x) (arguments_selectors xs) None c) [
      | inl d ↦ in_front (standing x) (arguments_standing xs) (of_part x (unsaid_in x) d)
      | inr d ↦ in_back (standing x) (arguments_standing xs) (unsaid_in_arguments xs d)
    ]

  pub each_says : (e : Tree) → EachSaysName rules e → Contains (selectors e) None → ⊥
  each_says e says c = let unsaid = of_part e (unsaid_in e) c in says unsaid.0 unsaid.1 unsaid.2

-- What is followed depends on recorded names only as far as selectors say them, and a scalar has no label whatever they are.
use Rattle.std.proofs.Common.{◌≡◌, ℕ, zero, suc, Bool, true, false, ◌&&◌, cond, List, [], ◌∷◌, ◌++◌, Option, Some, None, refl, sym, ◌∙◌, ap, ap₂, true≢false}
use Rattle.std.specs.List.{Contains}
use Rattle.std.proofs.lemmas.List.Elements.{Contains-append_left, Contains-append_right}
use Rattle.lf_laws.proofs.Members.{here}
use Rattle.lf_ast.specs.Functions.{Signature, aggregation, function_named}
use Rattle.lf_ast.specs.Labels.{Bytes}
use Rattle.lf_ast.specs.Rules.{RuleTree}
use Rattle.lf_ast.specs.Selectors.{selected_name}
use Rattle.lf_ast.specs.Tree.{Tree, Trees, Number, Str, Selector, Subquery, Paren, Unary, Binary, Call, Aggregate, Nil, Next}
use Rattle.lf_ast.specs.Types.{is_scalar, selected}
use Rattle.lf_ast.specs.declared.expr.ExprType.TheVariants.{Scalar, Vector}
use Rattle.lf_ast.specs.declared.expr.Grouping.{Grouping}
use Rattle.lf_ast.specs.declared.expr.Grouping.TheVariants.{None as Ungrouped}
use Rattle.lf_ast.specs.declared.expr.Matcher.{Matcher}
use Rattle.lf_ast.specs.declared.expr.Matching.{Matching}
use Rattle.lf_ast.specs.declared.expr.Op.{Op}
use Rattle.lf_ast.specs.declared.functions.LabelEffect.{LabelEffect}
use Rattle.lf_deps.specs.Reading.{arguments_selectors, selectors, selectors_in}
use Rattle.lf_semantics.specs.Grouped.{is_metric}
use Rattle.lf_semantics.specs.Listing.{Listing}
use Rattle.lf_semantics.specs.Parts.{given_by, is_scalar_part, operand_place, outside_scalars}
use Rattle.lf_semantics.proofs.ScalarCalls.{IsBareIfScalar, named_is_bare}
use Rattle.lf_trials.specs.Follow.{Followed, follow, follow_argument, follow_binary, follow_call, follow_effect, follow_name, if_it_passes, lost, nameless_if, on_series}
use Rattle.lf_trials.specs.Reached.{is_recorded}

module _ (u : Listing) (rules : List RuleTree) (label given : Bytes) where
  lost_still : (minus : Bool) → nameless_if label minus lost ≡ lost
  lost_still false = refl
  lost_still true = by (is_metric label)
    where
      by : (b : Bool) → Some (cond b [] []) ≡ lost
      by true = refl
      by false = refl

  no_selector : (range : Option Bytes) → is_scalar (selected range) ≡ true → ⊥
  no_selector None e = true≢false (sym e)
  no_selector (Some duration) e = true≢false (sym e)

  of_sides : (op : Op) (m : Matching) (l r : Bool) (left right : Followed) → is_scalar (cond (l && r) Scalar Vector) ≡ true → follow_binary label op m l r left right ≡ lost
  of_sides op m true true left right e = refl
  of_sides op m true false left right e = absurd (true≢false (sym e))
  of_sides op m false true left right e = absurd (true≢false (sym e))
  of_sides op m false false left right e = absurd (true≢false (sym e))

  bare_call : (o : Option Signature) (args : Trees) (argument : ℕ → Followed) → is_scalar (given_by o) ≡ true → ((s : Signature) → o ≡ Some s → IsBareIfScalar s) → follow_call label o Ungrouped args argument ≡ lost
  bare_call None args argument e bare = absurd (true≢false (sym e))
  bare_call (Some s) args argument e bare = ap (λ (effect : LabelEffect). follow_effect label effect Ungrouped args (argument (operand_place s))) (bare s refl e)

  -- a scalar
  pub scalar_lost : (known : Bytes → Followed) (e : Tree) → is_scalar_part e ≡ true → follow u rules label given known e ≡ lost
  scalar_lost known (Number text span) is = refl
  scalar_lost known (Str text span) is = absurd (true≢false (sym is))
  scalar_lost known (Selector name matchers sight span) is = absurd (no_selector sight.range is)
  scalar_lost known (Subquery of sight span) is = absurd (true≢false (sym is))
  scalar_lost known (Paren of span) is = scalar_lost known of is
  scalar_lost known (Unary minus of span) is = ap (nameless_if label minus) (scalar_lost known of is) ∙ lost_still minus
  scalar_lost known (Binary op m left right span) is =
      of_sides op m (is_scalar_part left) (is_scalar_part right) (follow u rules label given known left) (follow u rules label given known right) is
  scalar_lost known (Call name args span) is = bare_call (function_named name) args (follow_argument u rules label given known args) is (named_is_bare name)
  scalar_lost known (Aggregate op grouping args span) is = absurd (true≢false (sym is))

  module _ (f g : Bytes → Followed) where
    -- what is known of each recorded name that these selectors say is the same
    abbrev pub Agree : List (Option Bytes) → Type 0
    Agree found = (name : Bytes) → Contains found (Some name) → is_recorded rules name ≡ true → f name ≡ g name

    front : (xs ys : List (Option Bytes)) → Agree (xs ++ ys) → Agree xs
    front xs ys same name c = same name (Contains-append_left xs ys (Some name) c)

    back : (xs ys : List (Option Bytes)) → Agree (xs ++ ys) → Agree ys
    back xs ys same name c = same name (Contains-append_right xs ys (Some name) c)

    of_name : (o : Option Bytes) (matchers : List Matcher) → Agree (o ∷ []) → follow_name u rules label given f o matchers ≡ follow_name u rules label given g o matchers
    of_name None matchers same = refl
    of_name (Some name) matchers same = by (is_recorded rules name) (same name (here (Some name) []))
      where
        by : (b : Bool) → (b ≡ true → f name ≡ g name) → cond b (f name) (on_series u rules label given (Some name)) ≡ cond b (g name) (on_series u rules label given (Some name))
        by true equal = equal refl
        by false equal = refl

    of_call : (o : Option Signature) (grouping : Grouping) (args : Trees) (x y : ℕ → Followed) → ((k : ℕ) → x k ≡ y k) → follow_call label o grouping args x ≡ follow_call label o grouping args y
    of_call None grouping args x y same = refl
    of_call (Some s) grouping args x y same = ap (follow_effect label s.labels grouping args) (same (operand_place s))

    abbrev AreSame : Tree → Type 0
    AreSame e = follow u rules label given f e ≡ follow u rules label given g e

    part : (e : Tree) → (Agree (selectors_in e) → AreSame e) → Agree (outside_scalars e (selectors_in e)) → AreSame e
    part e inside same = by (is_scalar_part e) refl same
      where
        by : (b : Bool) → is_scalar_part e ≡ b → Agree (cond b [] (selectors_in e)) → AreSame e
        by true is _ = scalar_lost f e is ∙ sym (scalar_lost g e is)
        by false is within = inside within

    abbrev SameAt : Trees → ℕ → Type 0
    SameAt args k = follow_argument u rules label given f args k ≡ follow_argument u rules label given g args k

    mutual
      same_in : (e : Tree) → Agree (selectors_in e) → AreSame e
      same_in (Number text span) same = refl
      same_in (Str text span) same = refl
      same_in (Selector name matchers sight span) same = ap (if_it_passes label matchers) (of_name (selected_name name matchers) matchers same)
      same_in (Subquery of sight span) same = part of (same_in of) same
      same_in (Paren of span) same = part of (same_in of) same
      same_in (Unary minus of span) same = ap (nameless_if label minus) (part of (same_in of) same)
      same_in (Binary op m left right span) same =
          ap₂ (follow_binary label op m (is_scalar_part left) (is_scalar_part right))
          (part left (same_in left) (front (outside_scalars left (selectors_in left)) (outside_scalars right (selectors_in right)) same))
          (part right (same_in right) (back (outside_scalars left (selectors_in left)) (outside_scalars right (selectors_in right)) same))
      same_in (Call name args span) same = of_call (function_named name) Ungrouped args _ _ (λ k. same_at args k same)
      same_in (Aggregate op grouping args span) same = of_call (Some (aggregation op)) grouping args _ _ (λ k. same_at args k same)

      same_at : (args : Trees) (k : ℕ) → Agree (arguments_selectors args) → SameAt args k
      same_at Nil k same = refl
      same_at (Next x xs) zero same = part x (same_in x) (front (outside_scalars x (selectors_in x)) (arguments_selectors xs) same)
      same_at (Next x xs) (suc k) same = same_at xs k (back (outside_scalars x (selectors_in x)) (arguments_selectors xs) same)

    pub agrees : (e : Tree) → Agree (selectors e) → AreSame e
    agrees e = part e (same_in e)

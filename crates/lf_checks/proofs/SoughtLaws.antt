-- What is told of labels that are sought on operands: of one label, of a grouping, of a match and of a whole rule.
use Rattle.std.proofs.Common.{◌≡◌, ◌↔◌, ◌⊎◌, inl, inr, ℕ, zero, suc, ◌==◌, Bool, true, false, not, ◌&&◌, List, [], ◌∷◌, length, map, Some, None, refl, sym, subst, ap, ◌∙◌, IsTrue, true≢false}
use Rattle.std.proofs.Math.Dec.{eqb-suc-zero}
use Rattle.std.proofs.lemmas.Bool.{or_left, or_right}
use Rattle.std.specs.Borrow.{Bor}
use Rattle.std.specs.Prelude.{slice_get}
use Rattle.std.specs.List.{Contains, list_any}
use Rattle.lf_laws.specs.Gaining.{OfSome}
use Rattle.lf_laws.proofs.Booleans.{and_left, and_right}
use Rattle.lf_laws.proofs.Slices.{to_map_at}
use Rattle.lf_laws.proofs.Options.{same_option}
use Rattle.lf_ast.specs.Types.{is_vector, names_at}
use Rattle.lf_laws.proofs.Members.{any_has, map_member, none_in}
use Rattle.lf_base.specs.declared.place.Span.{Span}
use Rattle.lf_ast.specs.Functions.{aggregation}
use Rattle.lf_ast.specs.Labels.{Bytes}
use Rattle.lf_ast.specs.Rules.{RuleTree}
use Rattle.lf_ast.specs.Tree.{Aggregate, Binary, Call, Next, Nil, Number, Paren, Selector, Str, Subquery, Tree, Trees, Unary, list, nodes, parts_of, tree}
use Rattle.lf_ast.specs.declared.expr.Agg.{Agg}
use Rattle.lf_ast.specs.declared.expr.Expr.{Expr}
use Rattle.lf_ast.specs.declared.expr.Group.{Group}
use Rattle.lf_ast.specs.declared.expr.Group.TheVariants.{One, Left, Right}
use Rattle.lf_ast.specs.declared.expr.Grouping.{Grouping}
use Rattle.lf_ast.specs.declared.expr.Grouping.TheVariants.{None as Ungrouped, By, Without}
use Rattle.lf_ast.specs.declared.expr.Matching.{Matching}
use Rattle.lf_ast.specs.declared.expr.Name.{Name}
use Rattle.lf_ast.specs.declared.expr.Op.{Op}
use Rattle.lf_ast.specs.declared.verdict.Finding.{Finding as Row}
use Rattle.lf_ast.specs.views.Walks.{trees_at}
use Rattle.lf_semantics.specs.ClassRows.{Sets}
use Rattle.lf_semantics.specs.Listing.{Listing}
use Rattle.lf_semantics.specs.Parts.{argument_at, operand_place, type_by_form}
use Rattle.lf_semantics.specs.RowTable.{Environment, row_of}
use Rattle.lf_checks.specs.Finding.{Finding, MatchLabel, finding}
use Rattle.lf_checks.specs.Judged.{IsImpossible}
use Rattle.lf_checks.specs.MatchLabel.{IsFound, Seeks, one_side, says_never}
use Rattle.lf_checks.specs.views.Adding.{Adds}
use Rattle.lf_checks.specs.views.Sought.{IsNever, IsOfMatch, IsOfPart, IsOfRow, for_left, for_right, labels_by, seeks_labels}
use Rattle.lf_checks.proofs.Added.{adds_as, adds_none}

-- ---- arguments by their places

argument_there : (args : Trees) (k : ℕ) (x : Tree) → slice_get (list args) k ≡ Some x → argument_at args k ≡ Some x
argument_there Nil k x e = let no_way : None ≡ Some x = e in absurd (cc)
argument_there (Next y ys) zero x e = e
argument_there (Next y ys) (suc k) x e = argument_there ys k x e

argument_lacking : (args : Trees) (k : ℕ) → slice_get (list args) k ≡ None → argument_at args k ≡ None
argument_lacking Nil k e = refl
argument_lacking (Next y ys) zero e = e
argument_lacking (Next y ys) (suc k) e = argument_lacking ys k e

-- where nothing stands in the image of a list, nothing stands in the list
pub none_of_map : {X Y : Type 0} (f : X → Y) (xs : List X) (k : ℕ) → slice_get (map f xs) k ≡ None → slice_get xs k ≡ None
none_of_map f [] k e = refl
none_of_map f (x ∷ xs) zero e = let no_way : Some (f x) ≡ None = e in absurd (cc)
none_of_map f (x ∷ xs) (suc k) e = none_of_map f xs k e

-- what is told of an expression at a number
pub told_at : {X : Type 0} (f : Tree → X) (all : List Tree) (groups : List X) (k : ℕ) (x : Tree) (group : X) → groups ≡ map f all → slice_get all k ≡ Some x → slice_get groups k ≡ Some group → group ≡ f x
told_at f all groups k x group are at is = same_option (slice_get groups k) group (f x) is (ap (λ l. slice_get l k) are ∙ to_map_at f all k x at)

-- ---- a part that seeks a label

is_filled : (names : List Name) (label : Name) → Contains names label → not (length names == 0) ≡ true
is_filled [] label c = absurd (none_in label c)
is_filled (name ∷ names) label c = ap not (eqb-suc-zero (length names))

is_seeking : (x : Tree) (label : Name) (operand : Tree) → Seeks x label operand → seeks_labels x ≡ true
is_seeking (Number text span) label operand seeks = absurd seeks
is_seeking (Str text span) label operand seeks = absurd seeks
is_seeking (Selector name matchers sight span) label operand seeks = absurd seeks
is_seeking (Subquery of sight span) label operand seeks = absurd seeks
is_seeking (Paren of span) label operand seeks = absurd seeks
is_seeking (Unary minus of span) label operand seeks = absurd seeks
is_seeking (Call name args span) label operand seeks = absurd seeks
is_seeking (Aggregate op Ungrouped args span) label operand seeks = absurd seeks
is_seeking (Aggregate op (Without labels) args span) label operand seeks = absurd seeks
is_seeking (Aggregate op (By labels) args span) label operand seeks = is_filled labels label seeks.0
is_seeking (Binary op m left right span) label operand (_, _, inl (c, side)) = or_left (not (length (names_at m.on) == 0)) (not (length m.include == 0)) (is_filled (names_at m.on) label c)
is_seeking (Binary op m left right span) label operand (_, _, inr (c, side)) = or_right (not (length (names_at m.on) == 0)) (not (length m.include == 0)) (is_filled m.include label c)

module _ (u : Listing) where
  pub of_label : (row : Sets) (label : Name) (name : Bytes) (never : Bool) (old new : List Row) → name ≡ label.text → IsTrue never ↔ IsImpossible u row name
      → Adds (λ f. IsTrue never × (f ≡ finding MatchLabel label.span (says_never name))) old new → Adds (IsNever u row label) old new
  of_label row label name never old new e is a = adds_as _ (IsNever u row label) old new a
      (λ f h. (subst (λ (n : Bytes). IsImpossible u row n) e (is.0 h.0), subst (λ (n : Bytes). f ≡ finding MatchLabel label.span (says_never n)) e h.1))
      (λ f h. (is.1 (subst (λ (n : Bytes). IsImpossible u row n) (sym e) h.0), subst (λ (n : Bytes). f ≡ finding MatchLabel label.span (says_never n)) (sym e) h.1))

  module _ (env : Environment) where
    -- ---- a grouping

    by_seeks : (op : Agg) (grouping : Grouping) (args : Trees) (span : Span) (label : Name) (x : Tree) → Seeks (Aggregate op grouping args span) label x
        → Contains (labels_by grouping) label × (argument_at args (operand_place (aggregation op)) ≡ Some x)
    by_seeks op Ungrouped args span label x seeks = absurd seeks
    by_seeks op (By labels) args span label x seeks = (seeks.0, seeks.1)
    by_seeks op (Without labels) args span label x seeks = absurd seeks

    seeks_by : (op : Agg) (grouping : Grouping) (args : Trees) (span : Span) (label : Name) (x : Tree) → Contains (labels_by grouping) label → argument_at args (operand_place (aggregation op)) ≡ Some x
        → Seeks (Aggregate op grouping args span) label x
    seeks_by op Ungrouped args span label x c at = absurd (none_in label c)
    seeks_by op (By labels) args span label x c at = (c, at)
    seeks_by op (Without labels) args span label x c at = absurd (none_in label c)

    pub of_grouping : (t : Tree) (op : Agg) (grouping : Grouping) (args : Trees) (span : Span) (x : Tree) (k : ℕ) (old new : List Row) → t ≡ Aggregate op grouping args span
        → k ≡ operand_place (aggregation op) → slice_get (parts_of t) k ≡ Some x → Adds (IsOfRow u (row_of u env x) (labels_by grouping) []) old new → Adds (IsOfPart u env t) old new
    of_grouping t op grouping args span x k old new is e there a = subst (λ (z : Tree). Adds (IsOfPart u env z) old new) (sym is) (adds_as (IsOfRow u (row_of u env x) (labels_by grouping) []) (IsOfPart u env (Aggregate op grouping args span)) old new a to from)
      where
        at : argument_at args (operand_place (aggregation op)) ≡ Some x
        at = argument_there args (operand_place (aggregation op)) x (subst (λ (z : Tree). slice_get (parts_of z) (operand_place (aggregation op)) ≡ Some x) is (subst (λ (n : ℕ). slice_get (parts_of t) n ≡ Some x) e there))

        to : (f : Finding) → IsOfRow u (row_of u env x) (labels_by grouping) [] f → IsOfPart u env (Aggregate op grouping args span) f
        to f (inl (label, c, never)) = (label, x, seeks_by op grouping args span label x c at, never)
        to f (inr (label, c, never)) = absurd (none_in label c)

        from : (f : Finding) → IsOfPart u env (Aggregate op grouping args span) f → IsOfRow u (row_of u env x) (labels_by grouping) [] f
        from f (label, y, seeks, never) =
            let s = by_seeks op grouping args span label y seeks in
            let same : y ≡ x = (let e : Some y ≡ Some x = sym s.1 ∙ at in cc) in
            inl (label, s.0, subst (λ (z : Tree). IsNever u (row_of u env z) label f) same never)

    pub of_no_operand : (t : Tree) (op : Agg) (grouping : Grouping) (args : Trees) (span : Span) (old : List Row) → t ≡ Aggregate op grouping args span → slice_get (parts_of t) (operand_place (aggregation op)) ≡ None
        → Adds (IsOfPart u env t) old old
    of_no_operand t op grouping args span old is there = subst (λ (z : Tree). Adds (IsOfPart u env z) old old) (sym is) (adds_none (IsOfPart u env (Aggregate op grouping args span)) old none)
      where
        none : (f : Finding) → IsOfPart u env (Aggregate op grouping args span) f → ⊥
        none f (label, y, seeks, never) =
            let e : Some y ≡ None = sym (by_seeks op grouping args span label y seeks).1 ∙ argument_lacking args (operand_place (aggregation op)) (subst (λ (z : Tree). slice_get (parts_of z) (operand_place (aggregation op)) ≡ None) is there) in
            cc

    -- ---- a match

    left_seeks : (group : Group) (names : List Name) (left right : Tree) (label : Name) → Contains (for_left group names) label → Contains names label × (one_side group left right ≡ Some left)
    left_seeks One names left right label c = absurd (none_in label c)
    left_seeks Left names left right label c = absurd (none_in label c)
    left_seeks Right names left right label c = (c, refl)

    right_seeks : (group : Group) (names : List Name) (left right : Tree) (label : Name) → Contains (for_right group names) label → Contains names label × (one_side group left right ≡ Some right)
    right_seeks One names left right label c = absurd (none_in label c)
    right_seeks Left names left right label c = (c, refl)
    right_seeks Right names left right label c = absurd (none_in label c)

    one_sides : (group : Group) (names : List Name) (left right x : Tree) (label : Name) → Contains names label → one_side group left right ≡ Some x
        → ((x ≡ left) × Contains (for_left group names) label) ⊎ ((x ≡ right) × Contains (for_right group names) label)
    one_sides One names left right x label c e = let no_way : None ≡ Some x = e in absurd (cc)
    one_sides Left names left right x label c e = inr ((let same : Some right ≡ Some x = e in cc), c)
    one_sides Right names left right x label c e = inl ((let same : Some left ≡ Some x = e in cc), c)

    pub of_match : (op : Op) (m : Matching) (left right : Tree) (span : Span) (vectors : Bool) (old new : List Row) → vectors ≡ (is_vector (type_by_form left) && is_vector (type_by_form right))
        → Adds (IsOfMatch u vectors m (row_of u env left) (row_of u env right)) old new → Adds (IsOfPart u env (Binary op m left right span)) old new
    of_match op m left right span vectors old new is a = adds_as (IsOfMatch u vectors m (row_of u env left) (row_of u env right)) (IsOfPart u env (Binary op m left right span)) old new a to from
      where
        first : vectors ≡ true → is_vector (type_by_form left) ≡ true
        first e = and_left (is_vector (type_by_form left)) (is_vector (type_by_form right)) (sym is ∙ e)

        second : vectors ≡ true → is_vector (type_by_form right) ≡ true
        second e = and_right (is_vector (type_by_form left)) (is_vector (type_by_form right)) (sym is ∙ e)

        both : is_vector (type_by_form left) ≡ true → is_vector (type_by_form right) ≡ true → vectors ≡ true
        both l r = is ∙ ap (λ (b : Bool). b && is_vector (type_by_form right)) l ∙ r

        to : (f : Finding) → IsOfMatch u vectors m (row_of u env left) (row_of u env right) f → IsOfPart u env (Binary op m left right span) f
        to f (v, inl (inl (label, c, never))) = (label, left, (first v, second v, inl (c, inl refl)), never)
        to f (v, inl (inr (label, c, never))) = (label, left, (first v, second v, inr (left_seeks m.group m.include left right label c)), never)
        to f (v, inr (inl (label, c, never))) = (label, right, (first v, second v, inl (c, inr refl)), never)
        to f (v, inr (inr (label, c, never))) = (label, right, (first v, second v, inr (right_seeks m.group m.include left right label c)), never)

        on : (label : Name) (x y : Tree) (f : Finding) → x ≡ y → IsNever u (row_of u env x) label f → IsNever u (row_of u env y) label f
        on label x y f e never = subst (λ (z : Tree). IsNever u (row_of u env z) label f) e never

        from : (f : Finding) → IsOfPart u env (Binary op m left right span) f → IsOfMatch u vectors m (row_of u env left) (row_of u env right) f
        from f (label, x, (l, r, inl (c, inl e)), never) = (both l r, inl (inl (label, c, on label x left f e never)))
        from f (label, x, (l, r, inl (c, inr e)), never) = (both l r, inr (inl (label, c, on label x right f e never)))
        from f (label, x, (l, r, inr (c, e)), never) = elim (one_sides m.group m.include left right x label c e) [
          | inl h ↦ (both l r, inl (inr (label, h.1, on label x left f h.0 never)))
          | inr h ↦ (both l r, inr (inr (label, h.1, on label x right f h.0 never)))
        ]

    -- ---- a whole rule

    pub of_rule : (r : RuleTree) (new : List Row) → Adds (OfSome (IsOfPart u env) (nodes r.expr)) [] new → Adds (IsFound u env r) [] new
    of_rule r new a = adds_as (OfSome (IsOfPart u env) (nodes r.expr)) (IsFound u env r) [] new a to from
      where
        to : (f : Finding) → OfSome (IsOfPart u env) (nodes r.expr) f → IsFound u env r f
        to f (x, c, (label, operand, seeks, never)) = (x, label, operand, c, seeks, never.0, never.1)

        from : (f : Finding) → IsFound u env r f → OfSome (IsOfPart u env) (nodes r.expr) f
        from f (x, label, operand, c, seeks, never, e) = (x, c, (label, operand, seeks, (never, e)))

    -- where no part seeks a label nothing is found
    pub of_none : (r : RuleTree) (parts : List (Bor Expr)) → list_any (λ part. seeks_labels (tree part.now)) parts ≡ false → trees_at parts ≡ nodes r.expr → Adds (IsFound u env r) [] []
    of_none r parts lacking are = of_rule r [] (adds_none (OfSome (IsOfPart u env) (nodes r.expr)) [] none)
      where
        none : (f : Finding) → OfSome (IsOfPart u env) (nodes r.expr) f → ⊥
        none f (x, c, (label, operand, seeks, never)) =
            let at = map_member (λ (part : Bor Expr). tree part.now) parts x (subst (λ (xs : List Tree). Contains xs x) (sym are) c) in
            true≢false (sym (any_has (λ (part : Bor Expr). seeks_labels (tree part.now)) parts at.0 at.1 (ap seeks_labels (sym at.2) ∙ is_seeking x label operand seeks)) ∙ lacking)

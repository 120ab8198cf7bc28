-- The row of an expression, and that of what a rule records, is a row of the universe: where some label has no class it is the empty row.
use Rattle.std.proofs.Common.{◌≡◌, ℕ, zero, suc, Bool, true, false, not, ◌&&◌, ◌||◌, cond, eqb, List, [], ◌∷◌, codes, Option, Some, None, refl, sym, ap, subst}
use Rattle.lf_ast.specs.Functions.{Signature, aggregation, function_named}
use Rattle.lf_ast.specs.Labels.{Bytes}
use Rattle.lf_ast.specs.Rules.{RuleTree}
use Rattle.lf_ast.specs.Tree.{Tree, Trees, Number, Str, Selector, Subquery, Paren, Unary, Binary, Call, Aggregate, Nil, Next}
use Rattle.lf_ast.specs.declared.expr.Group.{Group}
use Rattle.lf_ast.specs.declared.expr.Group.TheVariants.{One, Left, Right}
use Rattle.lf_ast.specs.declared.expr.Grouping.{Grouping}
use Rattle.lf_ast.specs.declared.expr.Grouping.TheVariants.{None as Ungrouped}
use Rattle.lf_ast.specs.declared.expr.Matching.{Matching}
use Rattle.lf_ast.specs.declared.expr.Name.{Name}
use Rattle.lf_ast.specs.declared.expr.Op.{Op}
use Rattle.lf_ast.specs.declared.expr.Op.TheVariants.{Add, Subtract, Multiply, Divide, Modulo, Power, Atan2, Equal, NotEqual, LessOrEqual, Less, GreaterOrEqual, Greater, And, Or, Unless}
use Rattle.lf_ast.specs.declared.functions.LabelEffect.{LabelEffect}
use Rattle.lf_ast.specs.declared.functions.LabelEffect.TheVariants.{Maps, Keeps, Groups, CountValues, Date, Absent, LabelReplace, LabelJoin, HistogramQuantile, Bare}
use Rattle.lf_ast.specs.declared.rule.RuleLabel.{RuleLabel}
use Rattle.lf_ast.specs.Arguments.{text_at, texts_of}
use Rattle.lf_ast.specs.Selectors.{selected_name, metric}
use Rattle.lf_semantics.specs.ClassRows.{HasShape, Sets, bottom, emptied, holds, is_live, join, narrowed, normalized, only_empty, remade, replaced, top}
use Rattle.lf_semantics.specs.Environments.{IsEnvironment, IsRow, recorded_row, rule_row, with_text, with_texts}
use Rattle.lf_semantics.specs.Grouped.{is_arithmetic, is_filter, may_be_lacked}
use Rattle.lf_semantics.specs.Listing.{IsListing, Listing, class_of, label_of}
use Rattle.lf_semantics.specs.Parts.{Sought, is_evaluated, is_scalar_part, operand_place, sought_in, type_by_form}
use Rattle.lf_semantics.specs.RowTable.{Environment, absent_row, bare_row, beside_scalar_row, binary_row, call_row, combined_row, counted_row, date_row, effect_row, grouped_row, has_class, is_expansion, is_group_label, is_join, is_label, is_label_among, is_metric_label, is_sought, joining_row, keeps_label, many_to_one_row, matched_row, may_be_present, may_fail, may_match, nameless, nameless_if, paired_row, passes_matchers, quantile_row, replacing_row, row_at, row_of, seen_row, sign_row, signs_label, source_set, taken_row}
use Rattle.lf_semantics.specs.Strings.{Joining, Replacing, joining, replacing}
use Rattle.lf_semantics.specs.Evaluation.{bare}
use Rattle.lf_semantics.proofs.SamplesRepresented.{shape_with_text}
use Rattle.lf_semantics.proofs.RowLaws.{represents_top, shape_bottom}
use Rattle.lf_semantics.proofs.RowSets.{emptied_twice}
use Rattle.lf_semantics.proofs.Soundness.{shape_of_row}
use Rattle.lf_semantics.proofs.LeqLaws.{leq_join_left, normalized_live}

abbrev pub IsNormalized : Sets → Type 0
IsNormalized row = normalized row ≡ row

pub normalized_emptied : (row : Sets) → IsNormalized (emptied row)
normalized_emptied row = elim (is_live (emptied row)) as (λ b. cond b (emptied row) (emptied (emptied row)) ≡ emptied row) [ true ↦ refl | false ↦ emptied_twice row ]

pub normalized_twice : (row : Sets) → IsNormalized (normalized row)
normalized_twice row = by (is_live row) refl
  where
    by : (b : Bool) → is_live row ≡ b → normalized (cond b row (emptied row)) ≡ cond b row (emptied row)
    by true e = normalized_live row e
    by false e = normalized_emptied row

pub normalized_narrowed : (test : ℕ → ℕ → Bool) (row : Sets) → IsNormalized (narrowed test row)
normalized_narrowed test row = normalized_twice (remade (λ l c on. on && test l c) row)

pub normalized_replaced : (chosen : ℕ → Bool) (test : ℕ → ℕ → Bool) (row : Sets) → IsNormalized row → IsNormalized (replaced chosen test row)
normalized_replaced chosen test row h =
    let new : Sets = remade (λ l c on. cond (chosen l) (test l c) on) row in
    elim (is_live row) as (λ b. normalized (cond b (normalized new) row) ≡ cond b (normalized new) row) [ true ↦ normalized_twice new | false ↦ h ]

pub normalized_join : (u : Listing) (row other : Sets) → HasShape u row → HasShape u other → IsNormalized other → IsNormalized (join row other)
normalized_join u row other s t k = by (is_live row) refl
  where
    by : (b : Bool) → is_live row ≡ b → IsNormalized (join row other)
    by true e = normalized_live (join row other) (leq_join_left u row other s t e).0
    by false e =
        let same : join row other ≡ other = ap (λ b. cond b (cond (is_live other) (remade (λ l c on. on || holds other l c) row) row) other) e in
        let P : Sets → Type 0 = λ x. IsNormalized x in
        subst P (sym same) k

pub normalized_bottom : (u : Listing) → IsNormalized (bottom u)
normalized_bottom u = normalized_emptied (top u)

module _ (u : Listing) (p : IsListing u) where
  pub normalized_top : IsNormalized (top u)
  normalized_top = normalized_live (top u) (represents_top u p bare).0

  normalized_if : (b : Bool) (row other : Sets) → IsNormalized row → IsNormalized other → IsNormalized (cond b row other)
  normalized_if true row other h k = h
  normalized_if false row other h k = k

  -- functions and aggregations

  normalized_bare : IsNormalized (bare_row u)
  normalized_bare = normalized_replaced (λ l. true) (λ l c. eqb c 0) (top u) normalized_top

  normalized_nameless : (row : Sets) → IsNormalized row → IsNormalized (nameless u row)
  normalized_nameless row h = normalized_replaced (is_metric_label u) (λ l c. eqb c 0) row h

  normalized_only : (chosen : ℕ → Bool) (row : Sets) → IsNormalized row → IsNormalized (only_empty chosen row)
  normalized_only chosen row h = normalized_replaced chosen (λ l c. eqb c 0) row h

  normalized_absent : (sought : Option Sought) → IsNormalized (absent_row u sought)
  normalized_absent None = normalized_bare
  normalized_absent (Some sought) = normalized_replaced (λ label. true) (is_sought u sought) (top u) normalized_top

  normalized_date : (args : Trees) (row : Sets) → IsNormalized row → IsNormalized (date_row u args row)
  normalized_date Nil row h = normalized_bare
  normalized_date (Next x xs) row h = normalized_nameless row h

  normalized_quantile : (row : Sets) → IsNormalized row → IsNormalized (quantile_row u row)
  normalized_quantile row h =
      let new : Sets = only_empty (λ label. is_metric_label u label || is_label u (codes "le") label) row in
      normalized_if (may_be_present u row (codes "le")) new (bottom u) (normalized_only (λ label. is_metric_label u label || is_label u (codes "le") label) row h) (normalized_bottom u)

  normalized_grouped : (grouping : Grouping) (row : Sets) → IsNormalized row → IsNormalized (grouped_row u grouping row)
  normalized_grouped grouping row h = normalized_only (λ label. not (is_group_label u grouping label)) row h

  normalized_counted : (grouping : Grouping) (x : Bytes) (row : Sets) → IsNormalized row → IsNormalized (counted_row u grouping x row)
  normalized_counted grouping x row h = normalized_replaced (is_label u x) (λ label class. not (eqb class 0) || may_be_lacked grouping x) (grouped_row u grouping row) (normalized_grouped grouping row h)

  normalized_replacing : (r : Replacing) (row : Sets) → IsNormalized row → IsNormalized (replacing_row u r row)
  normalized_replacing r row h =
      let source : ℕ = label_of u r.source in
      let set : List Bool = source_set u row r.source in
      normalized_replaced (is_label u r.target)
      (λ label class. (has_class u (may_match u r.pattern source) set && is_expansion u r.replacement label class) || (has_class u (may_fail u r.pattern source) set && holds row label class)) row h

  normalized_joining : (j : Joining) (row : Sets) → IsNormalized row → IsNormalized (joining_row u j row)
  normalized_joining j row h = normalized_replaced (is_label u j.target) (λ label class. is_join u j row class) row h

  normalized_effect : (effect : LabelEffect) (grouping : Grouping) (args : Trees) (row : Sets) → IsNormalized row → IsNormalized (effect_row u effect grouping args row)
  normalized_effect Maps grouping args row h = normalized_nameless row h
  normalized_effect Keeps grouping args row h = h
  normalized_effect Groups grouping args row h = normalized_grouped grouping row h
  normalized_effect CountValues grouping args row h = normalized_counted grouping (text_at (texts_of args) 0) row h
  normalized_effect Date grouping args row h = normalized_date args row h
  normalized_effect Absent grouping args row h = normalized_absent (sought_in args)
  normalized_effect LabelReplace grouping args row h = normalized_replacing (replacing (texts_of args)) row h
  normalized_effect LabelJoin grouping args row h = normalized_joining (joining (texts_of args)) row h
  normalized_effect HistogramQuantile grouping args row h = normalized_quantile row h
  normalized_effect Bare grouping args row h = normalized_bare

  -- operators

  normalized_beside : (filters : Bool) (row : Sets) → IsNormalized row → IsNormalized (beside_scalar_row u filters row)
  normalized_beside true row h = h
  normalized_beside false row h = normalized_nameless row h

  normalized_sign : (minus : Bool) (row : Sets) → IsNormalized row → IsNormalized (sign_row u minus row)
  normalized_sign true row h = normalized_nameless row h
  normalized_sign false row h = h

  normalized_matched : (m : Matching) (row other : Sets) → IsNormalized (matched_row u m row other)
  normalized_matched m row other =
      let test : ℕ → ℕ → Bool = λ label class. not (signs_label u m label) || holds other label class in
      normalized_if (is_live other) (narrowed test row) (bottom u) (normalized_narrowed test row) (normalized_bottom u)

  normalized_nameless_if : (drops : Bool) (row : Sets) → IsNormalized row → IsNormalized (nameless_if u drops row)
  normalized_nameless_if drops row h = normalized_if drops (nameless u row) row (normalized_nameless row h) h

  normalized_taken : (one : Sets) (names : List Name) (row : Sets) → IsNormalized row → IsNormalized (taken_row u one names row)
  normalized_taken one names row h =
      let new : Sets = replaced (is_label_among u names) (holds one) row in
      normalized_if (is_live one) new (bottom u) (normalized_replaced (is_label_among u names) (holds one) row h) (normalized_bottom u)

  normalized_many : (op : Op) (m : Matching) (many one : Sets) → IsNormalized many → IsNormalized (many_to_one_row u op m many one)
  normalized_many op m many one h =
      normalized_nameless_if m.bool_mod (taken_row u one m.include (nameless_if u (is_arithmetic op) many)) (normalized_taken one m.include (nameless_if u (is_arithmetic op) many) (normalized_nameless_if (is_arithmetic op) many h))

  normalized_paired : (g : Group) (op : Op) (m : Matching) (left right : Sets) → IsNormalized left → IsNormalized right → IsNormalized (paired_row u g op m left right)
  normalized_paired One op m left right h k = normalized_only (λ label. not (keeps_label u op m label)) left h
  normalized_paired Left op m left right h k = normalized_many op m left right h
  normalized_paired Right op m left right h k = normalized_many op m right left k

  normalized_pairs : (op : Op) (m : Matching) (left right : Sets) → IsNormalized (paired_row u m.group op m (matched_row u m left right) (matched_row u m right left))
  normalized_pairs op m left right = normalized_paired m.group op m (matched_row u m left right) (matched_row u m right left) (normalized_matched m left right) (normalized_matched m right left)

  normalized_combined : (op : Op) (m : Matching) (left right : Sets) → HasShape u left → HasShape u right → IsNormalized left → IsNormalized right → IsNormalized (combined_row u op m left right)
  normalized_combined And m left right s t h k = normalized_matched m left right
  normalized_combined Or m left right s t h k = normalized_join u left right s t k
  normalized_combined Unless m left right s t h k = h
  normalized_combined Add m left right s t h k = normalized_pairs Add m left right
  normalized_combined Subtract m left right s t h k = normalized_pairs Subtract m left right
  normalized_combined Multiply m left right s t h k = normalized_pairs Multiply m left right
  normalized_combined Divide m left right s t h k = normalized_pairs Divide m left right
  normalized_combined Modulo m left right s t h k = normalized_pairs Modulo m left right
  normalized_combined Power m left right s t h k = normalized_pairs Power m left right
  normalized_combined Atan2 m left right s t h k = normalized_pairs Atan2 m left right
  normalized_combined Equal m left right s t h k = normalized_pairs Equal m left right
  normalized_combined NotEqual m left right s t h k = normalized_pairs NotEqual m left right
  normalized_combined LessOrEqual m left right s t h k = normalized_pairs LessOrEqual m left right
  normalized_combined Less m left right s t h k = normalized_pairs Less m left right
  normalized_combined GreaterOrEqual m left right s t h k = normalized_pairs GreaterOrEqual m left right
  normalized_combined Greater m left right s t h k = normalized_pairs Greater m left right

  normalized_binary : (op : Op) (m : Matching) (a b : Bool) (left right : Sets) → HasShape u left → HasShape u right → IsNormalized left → IsNormalized right → IsNormalized (binary_row u op m a b left right)
  normalized_binary op m true true left right s t h k = normalized_bare
  normalized_binary op m false true left right s t h k = normalized_beside (is_filter op m) left h
  normalized_binary op m true false left right s t h k = normalized_beside (is_filter op m) right k
  normalized_binary op m false false left right s t h k = normalized_combined op m left right s t h k

  -- expressions

  module _ (env : Environment) (ok : IsEnvironment u env) where
    normalized_call : (o : Option Signature) (grouping : Grouping) (args : Trees) → ((k : ℕ) → IsNormalized (row_at u env args k)) → IsNormalized (call_row u o grouping args (row_at u env args))
    normalized_call None grouping args each = normalized_bottom u
    normalized_call (Some s) grouping args each = normalized_effect s.labels grouping args (row_at u env args (operand_place s)) (each (operand_place s))

    mutual
      pub normalized_row : (e : Tree) → normalized (row_of u env e) ≡ row_of u env e
      normalized_row (Number text span) = normalized_bare
      normalized_row (Str text span) = normalized_bottom u
      normalized_row (Selector name matchers sight span) = normalized_narrowed (passes_matchers u matchers) (seen_row u env (selected_name name matchers))
      normalized_row (Subquery of sight span) = normalized_row of
      normalized_row (Paren of span) = normalized_row of
      normalized_row (Unary minus of span) = normalized_sign minus (row_of u env of) (normalized_row of)
      normalized_row (Binary op m left right span) =
          normalized_binary op m (is_scalar_part left) (is_scalar_part right) (row_of u env left) (row_of u env right) (shape_of_row u p env ok left) (shape_of_row u p env ok right) (normalized_row left) (normalized_row right)
      normalized_row (Call name args span) = normalized_call (function_named name) Ungrouped args (normalized_row_at args)
      normalized_row (Aggregate op grouping args span) = normalized_call (Some (aggregation op)) grouping args (normalized_row_at args)

      normalized_row_at : (args : Trees) (k : ℕ) → normalized (row_at u env args k) ≡ row_at u env args k
      normalized_row_at Nil k = normalized_bottom u
      normalized_row_at (Next x xs) zero = normalized_row x
      normalized_row_at (Next x xs) (suc k) = normalized_row_at xs k

    pub row_is : (e : Tree) → IsRow u (row_of u env e)
    row_is e = (shape_of_row u p env ok e, normalized_row e)

    -- rules

    pub rule_row_is : (r : RuleTree) → IsRow u (rule_row u env r)
    rule_row_is r = elim (is_evaluated (type_by_form r.expr)) as (λ b. IsRow u (cond b (row_of u env r.expr) (bottom u))) [ true ↦ row_is r.expr | false ↦ (shape_bottom u, normalized_bottom u) ]

    with_text_is : (name text : Bytes) (row : Sets) → IsRow u row → IsRow u (with_text u name text row)
    with_text_is name text row h = (shape_with_text u p name text row h.0, normalized_replaced (is_label u name) (λ l c. eqb c (class_of u (label_of u name) text)) row h.1)

    with_texts_is : (labels : List RuleLabel) (row : Sets) → IsRow u row → IsRow u (with_texts u labels row)
    with_texts_is [] row h = h
    with_texts_is (l ∷ labels) row h = with_text_is l.key l.value (with_texts u labels row) (with_texts_is labels row h)

    pub recorded_row_is : (r : RuleTree) → IsRow u (recorded_row u env r)
    recorded_row_is r = with_texts_is r.labels (with_text u metric r.name (rule_row u env r)) (with_text_is metric r.name (rule_row u env r) (rule_row_is r))

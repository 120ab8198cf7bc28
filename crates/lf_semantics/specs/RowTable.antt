-- The row of an expression, by the table of constructs: for each label the classes that the evaluation allows when the labels of the operands take classes from their
-- sets independently of one another, but for choices about 'any other text' at patterns, and at `label_replace` and `label_join`, that are told there. By these a row may
-- hold more classes than are so, and never fewer.
use Rattle.std.specs.Prelude.{ℕ, zero, suc, nat_lt, Bool, true, false, not, ◌&&◌, ◌||◌, cond, eqb, List, [], ◌∷◌, Option, Some, None, codes, slice_index_or}
use Rattle.std.specs.List.{filter, list_all, list_any}
use Rattle.std.specs.Str.{bytes_eq}
use Rattle.lf_ast.specs.Functions.{Signature, aggregation, function_named}
use Rattle.lf_ast.specs.Labels.{Bytes}
use Rattle.lf_ast.specs.Tree.{Tree, Trees, Number, Str, Selector, Subquery, Paren, Unary, Binary, Call, Aggregate, Nil, Next}
use Rattle.lf_ast.specs.Types.{names_at}
use Rattle.lf_base.specs.Names.{is_label_name}
use Rattle.lf_ast.specs.declared.expr.Group.{Group}
use Rattle.lf_ast.specs.declared.expr.Group.TheVariants.{One, Left, Right}
use Rattle.lf_ast.specs.declared.expr.Grouping.{Grouping}
use Rattle.lf_ast.specs.declared.expr.Grouping.TheVariants.{None as Ungrouped, By, Without}
use Rattle.lf_ast.specs.declared.expr.Matcher.{Matcher}
use Rattle.lf_ast.specs.declared.expr.Matching.{Matching}
use Rattle.lf_ast.specs.declared.expr.MatchOp.{MatchOp}
use Rattle.lf_ast.specs.declared.expr.Name.{Name}
use Rattle.lf_ast.specs.declared.expr.Op.{Op}
use Rattle.lf_ast.specs.declared.expr.Op.TheVariants.{And, Or, Unless}
use Rattle.lf_ast.specs.declared.functions.LabelEffect.{LabelEffect}
use Rattle.lf_ast.specs.declared.functions.LabelEffect.TheVariants.{Maps, Keeps, Groups, CountValues, Date, Absent, LabelReplace, LabelJoin, HistogramQuantile, Bare}
use Rattle.lf_ast.specs.Arguments.{text_at, texts_of, has_dollar}
use Rattle.lf_ast.specs.Selectors.{selected_name, metric}
use Rattle.lf_pattern.specs.Matching.{matches}
use Rattle.lf_semantics.specs.ClassRows.{Sets, bottom, holds, indexed_from, is_live, join, narrowed, only_empty, replaced, top}
use Rattle.lf_semantics.specs.Grouped.{is_arithmetic, is_filter, may_be_lacked}
use Rattle.lf_semantics.specs.Listing.{Listing, class_of, class_texts, label_of, other_class}
use Rattle.lf_semantics.specs.Parts.{Sought, is_scalar_part, operand_place, sought_in}
use Rattle.lf_semantics.specs.Passing.{is_plain, passes, passes_other}
use Rattle.lf_semantics.specs.Strings.{Joining, Replacing, absent_texts, joining, replacing, shows}

-- the row of each recorded name
abbrev pub Environment : Type 0
Environment = List (Bytes × Sets)

abbrev pub row_named : Environment → Bytes → Option Sets
row_named [] name = None
row_named (entry ∷ env) name = cond (bytes_eq entry.0 name) (Some entry.1) (row_named env name)

module _ (u : Listing) where
  -- labels by their numbers

  abbrev pub is_label : Bytes → ℕ → Bool
  is_label name label = eqb (label_of u name) label

  abbrev pub is_metric_label : ℕ → Bool
  is_metric_label label = is_label metric label

  abbrev pub is_label_among : List Name → ℕ → Bool
  is_label_among names label = list_any (λ n. is_label n.text label) names

  -- a text of a class other than 'any other text'
  abbrev pub text_of : ℕ → ℕ → Bytes
  text_of label class = slice_index_or (class_texts u label) class []

  abbrev pub is_other : ℕ → ℕ → Bool
  is_other label class = not (nat_lt class (other_class u label))

  -- the one sample without labels
  abbrev pub bare_row : Sets
  bare_row = only_empty (λ label. true) (top u)

  abbrev pub nameless : Sets → Sets
  nameless row = only_empty is_metric_label row

  -- selectors

  abbrev pub passes_class : MatchOp → Bytes → ℕ → ℕ → Bool
  passes_class op value label class = cond (is_other label class) (passes_other op value) (passes op value (text_of label class))

  -- a class of a label passes the matchers on this label
  abbrev pub passes_matchers : List Matcher → ℕ → ℕ → Bool
  passes_matchers matchers label class = list_all (λ m. not (is_label m.label label) || passes_class m.op m.value label class) matchers

  -- the series of a name that no rule records: every class of each other label. No series has the empty name
  abbrev pub series_row : Bytes → Sets
  series_row name = cond (bytes_eq name []) (bottom u) (replaced is_metric_label (λ label class. eqb class (class_of u label name)) (top u))

  abbrev pub is_recorded : Environment → ℕ → ℕ → Bool
  is_recorded env label class = list_any (λ entry. eqb (class_of u label entry.0) class) env

  -- all series: each name but the empty one and the recorded ones
  abbrev pub scraped_row : Environment → Sets
  scraped_row env = replaced is_metric_label (λ label class. not (eqb class 0) && not (is_recorded env label class)) (top u)

  abbrev pub with_recorded : Environment → Sets → Sets
  with_recorded [] row = row
  with_recorded (entry ∷ env) row = join (with_recorded env row) entry.1

  abbrev pub row_or_series : Option Sets → Bytes → Sets
  row_or_series (Some row) name = row
  row_or_series None name = series_row name

  -- what a selector sees before its matchers: of a name what is recorded or else scraped, and without one all of both
  abbrev pub seen_row : Environment → Option Bytes → Sets
  seen_row env (Some name) = row_or_series (row_named env name) name
  seen_row env None = with_recorded env (scraped_row env)

  abbrev pub selector_row : Environment → Option Bytes → List Matcher → Sets
  selector_row env name matchers = narrowed (passes_matchers matchers) (seen_row env (selected_name name matchers))

  -- groupings

  abbrev pub is_group_label : Grouping → ℕ → Bool
  is_group_label Ungrouped label = false
  is_group_label (By names) label = is_label_among names label
  is_group_label (Without names) label = not (is_label_among names label || is_metric_label label)

  abbrev pub grouped_row : Grouping → Sets → Sets
  grouped_row grouping row = only_empty (λ label. not (is_group_label grouping label)) row

  -- every class of the label x but the empty text, which is added where x may be lacked
  abbrev pub counted_row : Grouping → Bytes → Sets → Sets
  counted_row grouping x row = replaced (is_label x) (λ label class. not (eqb class 0) || may_be_lacked grouping x) (grouped_row grouping row)

  -- functions of labels

  -- the texts that the matchers on a label let it take; of a selector in parentheses or with an `@` also none
  abbrev pub is_sought : Sought → ℕ → ℕ → Bool
  is_sought sought label class =
      (sought.may_be_bare && eqb class 0)
      || list_any (λ text. eqb (class_of u label text) class) (cond (is_metric_label label) ([] ∷ []) (absent_texts (filter (λ m. is_label m.label label) sought.matchers)))

  abbrev pub absent_row : Option Sought → Sets
  absent_row None = bare_row
  absent_row (Some sought) = replaced (λ label. true) (is_sought sought) (top u)

  -- some class in the set passes
  abbrev pub has_class : (ℕ → Bool) → List Bool → Bool
  has_class test set = list_any (λ on. on) (indexed_from (λ class on. on && test class) 0 set)

  abbrev pub set_at : Sets → ℕ → List Bool
  set_at row label = slice_index_or row label []

  -- 'any other text' may match a pattern that isn't plain, and may fail any
  abbrev pub may_match : Bytes → ℕ → ℕ → Bool
  may_match pattern label class = cond (is_other label class) (not (is_plain pattern)) (matches pattern (text_of label class))

  abbrev pub may_fail : Bytes → ℕ → ℕ → Bool
  may_fail pattern label class = cond (is_other label class) true (not (matches pattern (text_of label class)))

  -- of a source that is no label name, only the empty text
  abbrev pub source_set : Sets → Bytes → List Bool
  source_set row source = cond (is_label_name source) (set_at row (label_of u source)) (true ∷ [])

  -- a replacement with `$` counts as any text
  abbrev pub is_expansion : Bytes → ℕ → ℕ → Bool
  is_expansion replacement label class = has_dollar replacement || eqb class (class_of u label replacement)

  -- the target has the replacement's class where a class of the source may match, and keeps its own where one may fail
  abbrev pub replacing_row : Replacing → Sets → Sets
  replacing_row p row =
      let source = label_of u p.source in
      let set = source_set row p.source in
      replaced (is_label p.target)
      (λ label class. (has_class (may_match p.pattern source) set && is_expansion p.replacement label class) || (has_class (may_fail p.pattern source) set && holds row label class))
      row

  abbrev pub may_be_absent : Sets → Bytes → Bool
  may_be_absent row name = holds row (label_of u name) 0

  abbrev pub may_be_present : Sets → Bytes → Bool
  may_be_present row name = has_class (λ class. not (eqb class 0)) (set_at row (label_of u name))

  -- without a separator sources that are always absent join to nothing. A separator or a source that is never absent joins to a text. Else both may be
  abbrev pub is_join : Joining → Sets → ℕ → Bool
  is_join p row class =
      cond (not (shows p) && list_all (λ source. not (may_be_present row source)) p.sources) (eqb class 0)
      (cond (shows p || list_any (λ source. not (may_be_absent row source)) p.sources) (not (eqb class 0)) true)

  abbrev pub joining_row : Joining → Sets → Sets
  joining_row p row = replaced (is_label p.target) (λ label class. is_join p row class) row

  -- `histogram_quantile` sees no sample without `le`
  abbrev pub quantile_row : Sets → Sets
  quantile_row row = cond (may_be_present row (codes "le")) (only_empty (λ label. is_metric_label label || is_label (codes "le") label) row) (bottom u)

  -- a function of dates without an argument speaks of now
  abbrev pub date_row : Trees → Sets → Sets
  date_row Nil row = bare_row
  date_row (Next x xs) row = nameless row

  abbrev pub effect_row : LabelEffect → Grouping → Trees → Sets → Sets
  effect_row Maps grouping args row = nameless row
  effect_row Keeps grouping args row = row
  effect_row Groups grouping args row = grouped_row grouping row
  effect_row CountValues grouping args row = counted_row grouping (text_at (texts_of args) 0) row
  effect_row Date grouping args row = date_row args row
  effect_row Absent grouping args row = absent_row (sought_in args)
  effect_row LabelReplace grouping args row = replacing_row (replacing (texts_of args)) row
  effect_row LabelJoin grouping args row = joining_row (joining (texts_of args)) row
  effect_row HistogramQuantile grouping args row = quantile_row row
  effect_row Bare grouping args row = bare_row

  -- operators

  abbrev pub beside_scalar_row : Bool → Sets → Sets
  beside_scalar_row true row = row
  beside_scalar_row false row = nameless row

  abbrev pub signs_label_by : Option (List Name) → Option (List Name) → ℕ → Bool
  signs_label_by (Some on) ignoring label = is_label_among on label
  signs_label_by None ignoring label = not (is_label_among (names_at ignoring) label || is_metric_label label)

  abbrev pub signs_label : Matching → ℕ → Bool
  signs_label m label = signs_label_by m.on m.ignoring label

  -- a side of a match: each label of the signature has the classes that both sides have
  abbrev pub matched_row : Matching → Sets → Sets → Sets
  matched_row m row other = cond (is_live other) (narrowed (λ label class. not (signs_label m label) || holds other label class) row) (bottom u)

  abbrev pub keeps_label_by : Option (List Name) → Option (List Name) → ℕ → Bool
  keeps_label_by (Some on) ignoring label = is_label_among on label
  keeps_label_by None ignoring label = not (is_label_among (names_at ignoring) label)

  abbrev pub keeps_label : Op → Matching → ℕ → Bool
  keeps_label op m label = keeps_label_by m.on m.ignoring label && not ((is_arithmetic op || m.bool_mod) && is_metric_label label)

  abbrev pub nameless_if : Bool → Sets → Sets
  nameless_if drops row = cond drops (nameless row) row

  abbrev pub taken_row : Sets → List Name → Sets → Sets
  taken_row one names row = cond (is_live one) (replaced (is_label_among names) (holds one) row) (bottom u)

  abbrev pub many_to_one_row : Op → Matching → Sets → Sets → Sets
  many_to_one_row op m many one = nameless_if m.bool_mod (taken_row one m.include (nameless_if (is_arithmetic op) many))

  -- the result of a match, by its two sides
  abbrev pub paired_row : Group → Op → Matching → Sets → Sets → Sets
  paired_row One op m left right = only_empty (λ label. not (keeps_label op m label)) left
  paired_row Left op m left right = many_to_one_row op m left right
  paired_row Right op m left right = many_to_one_row op m right left

  abbrev pub combined_row : Op → Matching → Sets → Sets → Sets
  combined_row And m left right = matched_row m left right
  combined_row Or m left right = join left right
  combined_row Unless m left right = left
  combined_row op m left right = paired_row m.group op m (matched_row m left right) (matched_row m right left)

  -- by whether the left and the right side are scalars
  abbrev pub binary_row : Op → Matching → Bool → Bool → Sets → Sets → Sets
  binary_row op m true true left right = bare_row
  binary_row op m false true left right = beside_scalar_row (is_filter op m) left
  binary_row op m true false left right = beside_scalar_row (is_filter op m) right
  binary_row op m false false left right = combined_row op m left right

  abbrev pub sign_row : Bool → Sets → Sets
  sign_row true row = nameless row
  sign_row false row = row

  -- a call by its signature: `argument` has the row of each argument
  abbrev pub call_row : Option Signature → Grouping → Trees → (ℕ → Sets) → Sets
  call_row None grouping args argument = bottom u
  call_row (Some s) grouping args argument = effect_row s.labels grouping args (argument (operand_place s))

  -- expressions

  module _ (env : Environment) where
    abbrev mutual
      -- the row of an expression in an environment
      pub row_of : Tree → Sets
      row_of (Number text span) = bare_row
      row_of (Str text span) = bottom u
      row_of (Selector name matchers sight span) = selector_row env name matchers
      row_of (Subquery of sight span) = row_of of
      row_of (Paren of span) = row_of of
      row_of (Unary minus of span) = sign_row minus (row_of of)
      row_of (Binary op m left right span) = binary_row op m (is_scalar_part left) (is_scalar_part right) (row_of left) (row_of right)
      row_of (Call name args span) = call_row (function_named name) Ungrouped args (row_at args)
      row_of (Aggregate op grouping args span) = call_row (Some (aggregation op)) grouping args (row_at args)

      -- the row of argument k, counted from 0, and the empty row where there is none
      pub row_at : Trees → ℕ → Sets
      row_at Nil k = bottom u
      row_at (Next x xs) zero = row_of x
      row_at (Next x xs) (suc k) = row_at xs k

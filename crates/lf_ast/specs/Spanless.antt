-- Expressions up to where they stand in the source: without spans, and which are the same then.
use Rattle.std.specs.Prelude.{Bool, true, false, ◌&&◌, List, map, Option, option_map}
use Rattle.std.specs.Bool.{beq}
use Rattle.std.specs.Cmp.Lexicographic.{pointwise}
use Rattle.std.specs.Option.{option_eq}
use Rattle.std.specs.Str.{bytes_eq}
use Rattle.lf_base.specs.declared.place.Span.{Span}
use Rattle.lf_ast.specs.Labels.{Bytes}
use Rattle.lf_ast.specs.Tree.{Tree, Trees, Number, Str, Selector, Subquery, Paren, Unary, Binary, Call, Aggregate, Nil, Next}
use Rattle.lf_ast.specs.declared.expr.Agg.{Agg}
use Rattle.lf_ast.specs.declared.expr.Agg.TheVariants as A
use Rattle.lf_ast.specs.declared.expr.Group.{Group}
use Rattle.lf_ast.specs.declared.expr.Group.TheVariants.{One, Left, Right}
use Rattle.lf_ast.specs.declared.expr.Grouping.{Grouping}
use Rattle.lf_ast.specs.declared.expr.Grouping.TheVariants.{None as Ungrouped, By, Without}
use Rattle.lf_ast.specs.declared.expr.Matcher.{Matcher}
use Rattle.lf_ast.specs.declared.expr.Matching.{Matching}
use Rattle.lf_ast.specs.declared.expr.MatchOp.{MatchOp}
use Rattle.lf_ast.specs.declared.expr.MatchOp.TheVariants as M
use Rattle.lf_ast.specs.declared.expr.Name.{Name}
use Rattle.lf_ast.specs.declared.expr.Op.{Op}
use Rattle.lf_ast.specs.declared.expr.Op.TheVariants as O
use Rattle.lf_ast.specs.declared.expr.Sight.{Sight}

-- what an expression says, with each span left out

abbrev pub nowhere : Span
nowhere = record { start = 0; end = 0 }

abbrev pub spanless_name : Name → Name
spanless_name name = record { text = name.text; span = nowhere }

abbrev pub spanless_names : List Name → List Name
spanless_names names = map spanless_name names

abbrev pub spanless_matcher : Matcher → Matcher
spanless_matcher m = record { label = m.label; op = m.op; value = m.value; label_span = nowhere; value_span = nowhere }

abbrev pub spanless_sight : Sight → Sight
spanless_sight s = record { range = s.range; step = s.step; offset = s.offset; at = s.at; range_span = nowhere }

abbrev pub spanless_matching : Matching → Matching
spanless_matching m = record {
  bool_mod = m.bool_mod;
  on = option_map spanless_names m.on;
  ignoring = option_map spanless_names m.ignoring;
  group = m.group;
  include = spanless_names m.include;
  span = nowhere;
}

abbrev pub spanless_grouping : Grouping → Grouping
spanless_grouping Ungrouped = Ungrouped
spanless_grouping (By labels) = By (spanless_names labels)
spanless_grouping (Without labels) = Without (spanless_names labels)

abbrev mutual
  pub spanless : Tree → Tree
  spanless (Number text span) = Number text nowhere
  spanless (Str text span) = Str text nowhere
  spanless (Selector name matchers sight span) = Selector name (map spanless_matcher matchers) (spanless_sight sight) nowhere
  spanless (Subquery of sight span) = Subquery (spanless of) (spanless_sight sight) nowhere
  spanless (Paren of span) = Paren (spanless of) nowhere
  spanless (Unary minus of span) = Unary minus (spanless of) nowhere
  spanless (Binary op m left right span) = Binary op (spanless_matching m) (spanless left) (spanless right) nowhere
  spanless (Call name args span) = Call name (spanless_each args) nowhere
  spanless (Aggregate op grouping args span) = Aggregate op (spanless_grouping grouping) (spanless_each args) nowhere

  pub spanless_each : Trees → Trees
  spanless_each Nil = Nil
  spanless_each (Next x xs) = Next (spanless x) (spanless_each xs)

-- which expressions are the same but for their spans, as a test: the law `same_without_spans` says that it is true exactly where `spanless` gives equal trees

abbrev pub same_op : Op → Op → Bool
same_op O.Add O.Add = true
same_op O.Subtract O.Subtract = true
same_op O.Multiply O.Multiply = true
same_op O.Divide O.Divide = true
same_op O.Modulo O.Modulo = true
same_op O.Power O.Power = true
same_op O.Atan2 O.Atan2 = true
same_op O.Equal O.Equal = true
same_op O.NotEqual O.NotEqual = true
same_op O.LessOrEqual O.LessOrEqual = true
same_op O.Less O.Less = true
same_op O.GreaterOrEqual O.GreaterOrEqual = true
same_op O.Greater O.Greater = true
same_op O.And O.And = true
same_op O.Or O.Or = true
same_op O.Unless O.Unless = true
same_op _ _ = false

abbrev pub same_agg : Agg → Agg → Bool
same_agg A.Sum A.Sum = true
same_agg A.Min A.Min = true
same_agg A.Max A.Max = true
same_agg A.Avg A.Avg = true
same_agg A.Group A.Group = true
same_agg A.Stddev A.Stddev = true
same_agg A.Stdvar A.Stdvar = true
same_agg A.Count A.Count = true
same_agg A.Quantile A.Quantile = true
same_agg A.CountValues A.CountValues = true
same_agg A.Topk A.Topk = true
same_agg A.Bottomk A.Bottomk = true
same_agg _ _ = false

abbrev pub same_match_op : MatchOp → MatchOp → Bool
same_match_op M.Equal M.Equal = true
same_match_op M.NotEqual M.NotEqual = true
same_match_op M.Matches M.Matches = true
same_match_op M.NotMatches M.NotMatches = true
same_match_op _ _ = false

abbrev pub same_group : Group → Group → Bool
same_group One One = true
same_group Left Left = true
same_group Right Right = true
same_group _ _ = false

abbrev pub same_text : Option Bytes → Option Bytes → Bool
same_text a b = option_eq bytes_eq a b

abbrev pub same_names : List Name → List Name → Bool
same_names names others = pointwise (λ name other. bytes_eq name.text other.text) names others

abbrev pub same_matcher : Matcher → Matcher → Bool
same_matcher m n = bytes_eq m.label n.label && (same_match_op m.op n.op && bytes_eq m.value n.value)

abbrev pub same_sight : Sight → Sight → Bool
same_sight s t = same_text s.range t.range && (same_text s.step t.step && (same_text s.offset t.offset && same_text s.at t.at))

abbrev pub same_matching : Matching → Matching → Bool
same_matching m n =
    beq m.bool_mod n.bool_mod && (option_eq same_names m.on n.on && (option_eq same_names m.ignoring n.ignoring && (same_group m.group n.group && same_names m.include n.include)))

abbrev pub same_grouping : Grouping → Grouping → Bool
same_grouping Ungrouped Ungrouped = true
same_grouping (By labels) (By others) = same_names labels others
same_grouping (Without labels) (Without others) = same_names labels others
same_grouping _ _ = false

abbrev mutual
  -- the two are the same but for their spans: `spanless x ≡ spanless y`
  pub same : Tree → Tree → Bool
  same (Number text _) (Number other _) = bytes_eq text other
  same (Str text _) (Str other _) = bytes_eq text other
  same (Selector name matchers sight _) (Selector other others seen _) = same_text name other && (pointwise same_matcher matchers others && same_sight sight seen)
  same (Subquery of sight _) (Subquery other seen _) = same of other && same_sight sight seen
  same (Paren of _) (Paren other _) = same of other
  same (Unary minus of _) (Unary sign other _) = beq minus sign && same of other
  same (Binary op m left right _) (Binary other n x y _) = same_op op other && (same_matching m n && (same left x && same right y))
  same (Call name args _) (Call other others _) = bytes_eq name other && same_each args others
  same (Aggregate op grouping args _) (Aggregate other grouped others _) = same_agg op other && (same_grouping grouping grouped && same_each args others)
  same _ _ = false

  pub same_each : Trees → Trees → Bool
  same_each Nil Nil = true
  same_each (Next x xs) (Next y ys) = same x y && same_each xs ys
  same_each _ _ = false

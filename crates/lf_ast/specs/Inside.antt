-- Which expressions have each of their spans in a source.
use Rattle.std.specs.Prelude.{ℕ, List}
use Rattle.std.specs.List.{AllByRecursion}
use Rattle.lf_base.specs.Faults.{LiesIn}
use Rattle.lf_ast.specs.Tree.{Tree, Trees, Number, Str, Selector, Subquery, Paren, Unary, Binary, Call, Aggregate, Nil, Next}
use Rattle.lf_ast.specs.Types.{names_at}
use Rattle.lf_ast.specs.declared.expr.Grouping.{Grouping}
use Rattle.lf_ast.specs.declared.expr.Grouping.TheVariants.{None as Ungrouped, By, Without}
use Rattle.lf_ast.specs.declared.expr.Matcher.{Matcher}
use Rattle.lf_ast.specs.declared.expr.Matching.{Matching}
use Rattle.lf_ast.specs.declared.expr.Name.{Name}
use Rattle.lf_ast.specs.declared.expr.Sight.{Sight}

abbrev pub NamesInside : ℕ → List Name → Type 0
NamesInside n names = AllByRecursion (λ name. LiesIn n name.span) names

abbrev pub MatchersInside : ℕ → List Matcher → Type 0
MatchersInside n matchers = AllByRecursion (λ m. LiesIn n m.label_span × LiesIn n m.value_span) matchers

abbrev pub SightInside : ℕ → Sight → Type 0
SightInside n sight = LiesIn n sight.range_span

abbrev pub MatchingInside : ℕ → Matching → Type 0
MatchingInside n m = LiesIn n m.span × NamesInside n (names_at m.on) × NamesInside n (names_at m.ignoring) × NamesInside n m.include

abbrev pub GroupingInside : ℕ → Grouping → Type 0
GroupingInside n Ungrouped = Unit {0}
GroupingInside n (By labels) = NamesInside n labels
GroupingInside n (Without labels) = NamesInside n labels

abbrev mutual
  -- each span of the expression lies in a source of n bytes
  pub Inside : ℕ → Tree → Type 0
  Inside n (Number text span) = LiesIn n span
  Inside n (Str text span) = LiesIn n span
  Inside n (Selector name matchers sight span) = LiesIn n span × MatchersInside n matchers × SightInside n sight
  Inside n (Subquery of sight span) = LiesIn n span × Inside n of × SightInside n sight
  Inside n (Paren of span) = LiesIn n span × Inside n of
  Inside n (Unary minus of span) = LiesIn n span × Inside n of
  Inside n (Binary op m left right span) = LiesIn n span × MatchingInside n m × Inside n left × Inside n right
  Inside n (Call name args span) = LiesIn n span × EachInside n args
  Inside n (Aggregate op grouping args span) = LiesIn n span × GroupingInside n grouping × EachInside n args

  pub EachInside : ℕ → Trees → Type 0
  EachInside n Nil = Unit {0}
  EachInside n (Next x xs) = Inside n x × EachInside n xs

-- Expressions as trees: without the addresses that the code's boxes have.
use Rattle.std.specs.Prelude.{ℕ, ◌+◌, Bool, List, [], ◌∷◌, ◌++◌, Option}
use Rattle.lf_base.specs.declared.place.Span.{Span}
use Rattle.lf_ast.specs.Labels.{Bytes}
use Rattle.lf_ast.specs.declared.expr.Agg.{Agg}
use Rattle.lf_ast.specs.declared.expr.Expr.{Expr}
use Rattle.lf_ast.specs.declared.expr.Expr as E
use Rattle.lf_ast.specs.declared.expr.Grouping.{Grouping}
use Rattle.lf_ast.specs.declared.expr.Matcher.{Matcher}
use Rattle.lf_ast.specs.declared.expr.Matching.{Matching}
use Rattle.lf_ast.specs.declared.expr.Op.{Op}
use Rattle.lf_ast.specs.declared.expr.Sight.{Sight}

mutual
  pub data Tree : Type 0 where
    Number : Bytes → Span → Tree
    Str : Bytes → Span → Tree
    Selector : Option Bytes → List Matcher → Sight → Span → Tree
    Subquery : Tree → Sight → Span → Tree
    Paren : Tree → Span → Tree
    -- a minus sign, or else a plus sign, and its operand
    Unary : Bool → Tree → Span → Tree
    Binary : Op → Matching → Tree → Tree → Span → Tree
    Call : Bytes → Trees → Span → Tree
    Aggregate : Agg → Grouping → Trees → Span → Tree

  -- the arguments of a call, in their order
  pub data Trees : Type 0 where
    Nil : Trees
    Next : Tree → Trees → Trees

-- the span that an expression carries: of an operator, a call and an aggregation that of the operator or word
abbrev pub span_of : Tree → Span
span_of (Number text span) = span
span_of (Str text span) = span
span_of (Selector name matchers sight span) = span
span_of (Subquery of sight span) = span
span_of (Paren of span) = span
span_of (Unary minus of span) = span
span_of (Binary op m left right span) = span
span_of (Call name args span) = span
span_of (Aggregate op grouping args span) = span

-- how many arguments there are
abbrev pub count : Trees → ℕ
count Nil = 0
count (Next x xs) = count xs + 1

-- the same arguments with one more behind them
abbrev pub with_last : Trees → Tree → Trees
with_last Nil y = Next y Nil
with_last (Next x xs) y = Next x (with_last xs y)

-- arguments as a list
abbrev pub list : Trees → List Tree
list Nil = []
list (Next x xs) = x ∷ list xs

-- the parts of an expression, in their order
abbrev pub parts_of : Tree → List Tree
parts_of (Number text span) = []
parts_of (Str text span) = []
parts_of (Selector name matchers sight span) = []
parts_of (Subquery of sight span) = of ∷ []
parts_of (Paren of span) = of ∷ []
parts_of (Unary minus of span) = of ∷ []
parts_of (Binary op m left right span) = left ∷ right ∷ []
parts_of (Call name args span) = list args
parts_of (Aggregate op grouping args span) = list args

abbrev mutual
  -- an expression and all parts in it, each before its own
  pub nodes : Tree → List Tree
  nodes (Number text span) = Number text span ∷ []
  nodes (Str text span) = Str text span ∷ []
  nodes (Selector name matchers sight span) = Selector name matchers sight span ∷ []
  nodes (Subquery of sight span) = Subquery of sight span ∷ nodes of
  nodes (Paren of span) = Paren of span ∷ nodes of
  nodes (Unary minus of span) = Unary minus of span ∷ nodes of
  nodes (Binary op m left right span) = Binary op m left right span ∷ (nodes left ++ nodes right)
  nodes (Call name args span) = Call name args span ∷ nodes_in args
  nodes (Aggregate op grouping args span) = Aggregate op grouping args span ∷ nodes_in args

  pub nodes_in : Trees → List Tree
  nodes_in Nil = []
  nodes_in (Next x xs) = nodes x ++ nodes_in xs

-- ---- what the code's expressions stand for: the addresses of boxes, and the form that lists of arguments have in memory, are left out

abbrev mutual
  -- the tree of an expression
  pub tree : Expr → Tree
  tree (E.Number text span) = Number text span
  tree (E.Str text span) = Str text span
  tree (E.Selector name matchers sight span) = Selector name matchers sight span
  tree (E.Subquery' at of sight span) = Subquery (tree of) sight span
  tree (E.Paren' at of span) = Paren (tree of) span
  tree (E.Unary' minus at of span) = Unary minus (tree of) span
  tree (E.Binary' op m at left there right span) = Binary op m (tree left) (tree right) span
  tree (E.Call' name shape args span) = Call name (row args) span
  tree (E.Aggregate' op grouping shape args span) = Aggregate op grouping (row args) span

  -- the trees of arguments as they lie in an expression
  pub row : {n : _} → E.Row_of-Expr n → Trees
  row E.end_of-Expr = Nil
  row (E.more_of-Expr e rest) = Next (tree e) (row rest)

-- the trees of some expressions
abbrev pub trees : List Expr → Trees
trees [] = Nil
trees (e ∷ es) = Next (tree e) (trees es)

-- What is told of an expression from what is told of its parts: how contracts see the code. It defines nothing.
use Rattle.std.specs.Prelude.{ℕ, Bool, true, false, cond, not, nat_lt, ◌&&◌, ◌||◌, List, [], ◌∷◌, ◌++◌, Option, Some, None, length, slice_index_or}
use Rattle.std.specs.BTreeMap.{is_at}
use Rattle.std.specs.BTreeSet.{insert_key}
use Rattle.std.specs.List.{list_all, list_any}
use Rattle.std.specs.Ordering.{nat_cmp}
use Rattle.lf_base.specs.declared.place.Span.{Span}
use Rattle.lf_ast.specs.Functions.{function_named}
use Rattle.lf_ast.specs.Labels.{Bytes}
use Rattle.lf_ast.specs.Selectors.{selected_name}
use Rattle.lf_ast.specs.Tree.{Tree, Trees, Number, Str, Selector, Subquery, Paren, Unary, Binary, Call, Aggregate, Nil, Next}
use Rattle.lf_ast.specs.Types.{is_scalar}
use Rattle.lf_ast.specs.declared.expr.Op.{Op}
use Rattle.lf_ast.specs.declared.functions.LabelEffect.{LabelEffect}
use Rattle.lf_ast.specs.declared.functions.LabelEffect.TheVariants.{Absent, HistogramQuantile}
use Rattle.lf_forks.specs.views.Holding.{Forks, test_of}
use Rattle.lf_forks.specs.views.NameMarks.{NameMarks}
use Rattle.lf_semantics.specs.Listing.{place}
use Rattle.lf_semantics.specs.Parts.{given_by}
use Rattle.lf_trials.specs.Forks.{has_passing, is_or}
use Rattle.lf_open.specs.Constructs.{effect_of}
use Rattle.lf_open.specs.Holding.{is_source, matches_le}
use Rattle.lf_open.specs.declared.construct.Construct.{Construct}
use Rattle.lf_open.specs.declared.construct.Construct.TheVariants.{SharedMetric, Forked, LoudUnless, NamedBucket, OpenAbsent}
use Rattle.lf_open.specs.declared.open_at.OpenAt.{OpenAt}
use Rattle.lf_open.specs.declared.read_table.ReadTable.{ReadTable}
use Rattle.lf_open.specs.declared.told.ExpressionFacts.{ExpressionFacts}
use Rattle.lf_open.specs.views.Marks.{marks_tree}
use Rattle.lf_open.specs.views.Sides.{is_unless}

-- sets of numbers, in ascending order

-- numbers are put among others
abbrev pub put_all : List ℕ → List ℕ → List ℕ
put_all [] into = into
put_all (k ∷ numbers) into = put_all numbers (insert_key nat_cmp into k)

-- the fewer are put among the more
abbrev pub joined : List ℕ → List ℕ → List ℕ
joined a b = cond (nat_lt (length a) (length b)) (put_all a b) (put_all b a)

-- one of the few is among the many
abbrev pub has_any : List ℕ → List ℕ → Bool
has_any many few = list_any (λ k. list_any (is_at (nat_cmp k)) many) few

-- a number is in both
abbrev pub shares : List ℕ → List ℕ → Bool
shares a b = cond (nat_lt (length a) (length b)) (has_any b a) (has_any a b)

-- what is told of several expressions at once

-- the fewer go behind the more
abbrev pub appended : List OpenAt → List OpenAt → List OpenAt
appended a b = cond (nat_lt (length a) (length b)) (b ++ a) (a ++ b)

abbrev pub beside : ExpressionFacts → ExpressionFacts → ExpressionFacts
beside a b = record {
  scalar = a.scalar;
  fork = a.fork || b.fork;
  loud = a.loud || b.loud;
  bucket = a.bucket || b.bucket;
  reads = joined a.reads b.reads;
  found = appended a.found b.found;
}

abbrev pub gathered : ExpressionFacts → List ExpressionFacts → ExpressionFacts
gathered a [] = a
gathered a (t ∷ ts) = gathered (beside a t) ts

-- nothing is told, but perhaps that it is a scalar
abbrev pub nothing : Bool → ExpressionFacts
nothing scalar = record { scalar = scalar; fork = false; loud = false; bucket = false; reads = []; found = [] }

-- what is told of the part at a place
abbrev pub told_at : List ExpressionFacts → ℕ → ExpressionFacts
told_at parts k = slice_index_or parts k (nothing false)

-- an open construct, if it is one
abbrev pub opened : Bool → Construct → ℕ → Span → List OpenAt
opened holds construct rule span = cond holds (record { construct = construct; rule = rule; span = span } ∷ []) []

-- what is open at an operator, by what is told of its sides
abbrev pub are_vectors : ExpressionFacts → ExpressionFacts → Bool
are_vectors l r = not l.scalar && not r.scalar

abbrev pub joins : Op → ExpressionFacts → ExpressionFacts → Bool
joins op l r = cond (is_or op) (l.loud || r.loud) (l.fork || r.fork)

abbrev pub operator_opens : ℕ → Op → Span → ExpressionFacts → ExpressionFacts → List OpenAt
operator_opens rule op span l r =
    (opened (are_vectors l r && shares l.reads r.reads) SharedMetric rule span
    ++ opened (are_vectors l r && joins op l r) Forked rule span)
    ++ opened (are_vectors l r && (is_unless op && r.loud)) LoudUnless rule span

-- what is open at a call, by what is told of its arguments
abbrev pub call_opens : ℕ → Option LabelEffect → Span → List ExpressionFacts → List OpenAt
call_opens rule (Some HistogramQuantile) span parts = opened (list_any (λ t. t.fork) parts) Forked rule span ++ opened (list_any (λ t. t.bucket) parts) NamedBucket rule span
call_opens rule (Some Absent) span parts = opened (list_any (λ t. t.loud) parts) OpenAbsent rule span
call_opens rule _ span parts = []

-- whether an expression is a scalar, by whether its parts are
abbrev pub scalar_by : Tree → List ExpressionFacts → Bool
scalar_by (Number text span) parts = true
scalar_by (Str text span) parts = false
scalar_by (Selector name matchers sight span) parts = false
scalar_by (Subquery of sight span) parts = false
scalar_by (Paren of span) parts = list_all (λ t. t.scalar) parts
scalar_by (Unary minus of span) parts = list_all (λ t. t.scalar) parts
scalar_by (Binary op m left right span) parts = list_all (λ t. t.scalar) parts
scalar_by (Call name args span) parts = is_scalar (given_by (function_named name))
scalar_by (Aggregate op grouping args span) parts = false

-- what is known where an expression of a rule is gone over
pub record Facts : Type 0 where
  pub forks : Forks
  pub loud : NameMarks
  pub on_le : NameMarks
  pub table : ReadTable
  pub all : List ℕ
  pub rule : ℕ

module _ (f : Facts) where
  -- the numbers of the names that a selector reads
  abbrev pub numbers_by : Option Bytes → List ℕ
  numbers_by (Some name) = slice_index_or f.table.reads (place f.table.names name) []
  numbers_by None = f.all

  -- what an expression has by itself, and not by a part

  abbrev pub own_numbers : Tree → List ℕ
  own_numbers (Selector name matchers sight span) = numbers_by (selected_name name matchers)
  own_numbers _ = []

  abbrev pub own_fork : Tree → Bool
  own_fork (Selector name matchers sight span) = has_passing (test_of f.forks) (Selector name matchers sight span)
  own_fork (Binary op m left right span) = is_or op
  own_fork _ = false

  abbrev pub own_loud : Tree → Bool
  own_loud e = is_source e || marks_tree f.loud e

  abbrev pub own_bucket : Tree → Bool
  own_bucket e = matches_le e || marks_tree f.on_le e

  abbrev pub own_opens : Tree → List ExpressionFacts → List OpenAt
  own_opens (Binary op m left right span) parts = operator_opens f.rule op span (told_at parts 0) (told_at parts 1)
  own_opens (Call name args span) parts = call_opens f.rule (effect_of (Call name args span)) span parts
  own_opens _ parts = []

  abbrev pub own : Tree → List ExpressionFacts → ExpressionFacts
  own e parts = record { scalar = false; fork = own_fork e; loud = own_loud e; bucket = own_bucket e; reads = put_all (own_numbers e) []; found = own_opens e parts }

  -- what is told of an expression, from what is told of its parts
  abbrev pub made : Tree → List ExpressionFacts → ExpressionFacts
  made e parts = cond (scalar_by e parts) (nothing true) (gathered (own e parts) parts)

  abbrev mutual
    pub told : Tree → ExpressionFacts
    told (Number text span) = made (Number text span) []
    told (Str text span) = made (Str text span) []
    told (Selector name matchers sight span) = made (Selector name matchers sight span) []
    told (Subquery of sight span) = made (Subquery of sight span) (told of ∷ [])
    told (Paren of span) = made (Paren of span) (told of ∷ [])
    told (Unary minus of span) = made (Unary minus of span) (told of ∷ [])
    told (Binary op m left right span) = made (Binary op m left right span) (told left ∷ told right ∷ [])
    told (Call name args span) = made (Call name args span) (told_each args)
    told (Aggregate op grouping args span) = made (Aggregate op grouping args span) (told_each args)

    pub told_each : Trees → List ExpressionFacts
    told_each Nil = []
    told_each (Next x xs) = told x ∷ told_each xs

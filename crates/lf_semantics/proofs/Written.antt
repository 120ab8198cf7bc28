-- Words to write expressions and rules with, and to read rows by, for the worked ones.
use Rattle.std.proofs.Common.{ℕ, Bool, true, false, cond, List, [], ◌∷◌, map, Option, Some, None, codes}
use Rattle.std.specs.List.{list_any}
use Rattle.lf_base.specs.declared.place.Span.{Span}
use Rattle.lf_ast.specs.Labels.{Bytes}
use Rattle.lf_ast.specs.Rules.{RuleTree}
use Rattle.lf_ast.specs.Tree.{Tree, Trees, Number, Str, Selector, Paren, Unary, Binary, Call, Aggregate, Nil, Next}
use Rattle.lf_ast.specs.declared.expr.Agg.{Agg}
use Rattle.lf_ast.specs.declared.expr.Agg.TheVariants.{Sum}
use Rattle.lf_ast.specs.declared.expr.Group.{Group}
use Rattle.lf_ast.specs.declared.expr.Group.TheVariants.{One}
use Rattle.lf_ast.specs.declared.expr.Grouping.{Grouping}
use Rattle.lf_ast.specs.declared.expr.Grouping.TheVariants.{By, Without}
use Rattle.lf_ast.specs.declared.expr.Matcher.{Matcher}
use Rattle.lf_ast.specs.declared.expr.Matching.{Matching}
use Rattle.lf_ast.specs.declared.expr.MatchOp.{MatchOp}
use Rattle.lf_ast.specs.declared.expr.Name.{Name}
use Rattle.lf_ast.specs.declared.expr.Op.{Op}
use Rattle.lf_ast.specs.declared.expr.Sight.{Sight}
use Rattle.lf_ast.specs.Rules.{RuleTree}
use Rattle.lf_semantics.specs.ClassRows.{Sets, is_live}
use Rattle.lf_semantics.specs.Environments.{rule_row}
use Rattle.lf_semantics.specs.Listing.{universe_of}

-- how a set of classes is read

pub data Said : Type 0 where
  Guaranteed : Said
  Impossible : Said
  Possible : Said

abbrev pub said : List Bool → Said
said [] = Impossible
said (false ∷ others) = Guaranteed
said (true ∷ others) = cond (list_any (λ on. on) others) Possible Impossible

-- of each label, `*` last; nothing is said of the empty row
abbrev pub verdicts : Sets → List Said
verdicts row = cond (is_live row) (map said row) []

-- expressions. Arguments stand at 20, and the labels of a grouping before or behind them

abbrev pub place_at : ℕ → Span
place_at start = record { start = start; end = start }

abbrev pub asks : Bytes → MatchOp → Bytes → Matcher
asks label op value = record { label = label; op = op; value = value; label_span = place_at 0; value_span = place_at 0 }

abbrev pub names : ℕ → List Bytes → List Name
names at texts = map (λ text. record { text = text; span = place_at at }) texts

abbrev pub sight : Option Bytes → Option Bytes → Sight
sight range at = record { range = range; step = None; offset = None; at = at; range_span = place_at 0 }

-- any selector
abbrev pub selects : Option Bytes → List Matcher → Sight → Tree
selects name matchers sight = Selector name matchers sight (place_at 20)

abbrev pub selector : Bytes → List Matcher → Tree
selector name matchers = selects (Some name) matchers (sight None None)

-- with the range `[5m]`
abbrev pub over_time : Bytes → List Matcher → Tree
over_time name matchers = selects (Some name) matchers (sight (Some (codes "5m")) None)

abbrev pub number : Tree
number = Number (codes "1") (place_at 20)

abbrev pub text : Bytes → Tree
text t = Str t (place_at 20)

abbrev pub arguments : List Tree → Trees
arguments [] = Nil
arguments (x ∷ xs) = Next x (arguments xs)

abbrev pub call : Bytes → List Tree → Tree
call name args = Call name (arguments args) (place_at 0)

abbrev pub aggregate : Agg → Grouping → List Tree → Tree
aggregate op grouping args = Aggregate op grouping (arguments args) (place_at 0)

-- `sum by (labels) (of)`
abbrev pub sum_by : List Bytes → Tree → Tree
sum_by labels of = aggregate Sum (By (names 8 labels)) (of ∷ [])

-- `sum (of) by (labels)`
abbrev pub sum_of_by : Tree → List Bytes → Tree
sum_of_by of labels = aggregate Sum (By (names 28 labels)) (of ∷ [])

-- `sum without (labels) (of)`
abbrev pub sum_without : List Bytes → Tree → Tree
sum_without labels of = aggregate Sum (Without (names 8 labels)) (of ∷ [])

abbrev pub some_names : Option (List Bytes) → Option (List Name)
some_names None = None
some_names (Some texts) = Some (names 0 texts)

abbrev pub matching : Bool → Option (List Bytes) → Option (List Bytes) → Group → List Bytes → Matching
matching bool_mod on ignoring group include = record {
  bool_mod = bool_mod;
  on = some_names on;
  ignoring = some_names ignoring;
  group = group;
  include = names 0 include;
  span = place_at 0;
}

-- no modifier
abbrev pub unmodified : Matching
unmodified = matching false None None One []

abbrev pub between : Op → Matching → Tree → Tree → Tree
between op m left right = Binary op m left right (place_at 20)

abbrev pub paren : Tree → Tree
paren e = Paren e (place_at 20)

abbrev pub minus : Tree → Tree
minus e = Unary true e (place_at 20)

-- rules

abbrev pub record_rule : Bytes → List (Bytes × Bytes) → Tree → RuleTree
record_rule name labels expr = record {
  file = 0;
  alert = false;
  name = name;
  name_span = place_at 0;
  expr = expr;
  expr_span = place_at 0;
  labels = map (λ l. record { key = l.0; key_span = place_at 0; value = l.1 }) labels;
  templates = [];
}

abbrev pub alone : Tree → RuleTree
alone e = record_rule (codes "r:r") [] e

-- what is said of the labels of an expression that is recorded as `r:r` and reads no recorded name
abbrev pub verdicts_of : Tree → List Said
verdicts_of e = verdicts (rule_row (universe_of (alone e ∷ [])) [] (alone e))

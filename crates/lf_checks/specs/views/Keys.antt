-- Recording rules written out without spans, so that two are written alike exactly where they are the same. Each part tells where it ends, by its length or by marks.
use Rattle.std.specs.Prelude.{ℕ, Bool, cond, List, [], ◌∷◌, ◌++◌, Option, Some, None, length, replicate}
use Rattle.std.specs.List.{flat_map}
use Rattle.lf_ast.specs.Labels.{Bytes}
use Rattle.lf_ast.specs.Rules.{RuleTree}
use Rattle.lf_ast.specs.Tree.{Tree, Number, Str, Selector, Subquery, Paren, Unary, Binary, Call, Aggregate, count, nodes}
use Rattle.lf_ast.specs.declared.expr.Agg.{Agg}
use Rattle.lf_ast.specs.declared.expr.Agg.TheVariants as A
use Rattle.lf_ast.specs.declared.expr.Group.{Group}
use Rattle.lf_ast.specs.declared.expr.Group.TheVariants.{One, Left, Right}
use Rattle.lf_ast.specs.declared.expr.Grouping.{Grouping}
use Rattle.lf_ast.specs.declared.expr.Grouping.TheVariants.{None as Ungrouped, By, Without}
use Rattle.lf_ast.specs.declared.expr.Matcher.{Matcher}
use Rattle.lf_ast.specs.declared.expr.Matching.{Matching}
use Rattle.lf_ast.specs.declared.expr.MatchOp.{MatchOp}
use Rattle.lf_ast.specs.declared.expr.MatchOp.TheVariants as M
use Rattle.lf_ast.specs.declared.expr.Name.{Name}
use Rattle.lf_ast.specs.declared.expr.Op.{Op}
use Rattle.lf_ast.specs.declared.expr.Op.TheVariants as O
use Rattle.lf_ast.specs.declared.expr.Sight.{Sight}
use Rattle.lf_ast.specs.declared.rule.RuleLabel.{RuleLabel}

-- `1` as often, and `0`
abbrev pub count_code : ℕ → Bytes
count_code n = replicate n 49 ++ 48 ∷ []

-- the length and the text
abbrev pub text_code : Bytes → Bytes
text_code text = count_code (length text) ++ text

abbrev pub flag_code : Bool → Bytes
flag_code b = cond b (49 ∷ []) (48 ∷ [])

abbrev pub option_code : {X : Type 0} → (X → Bytes) → Option X → Bytes
option_code {X} code None = 48 ∷ []
option_code {X} code (Some x) = 49 ∷ code x

-- each behind a `1`, and a `0` behind them
abbrev pub list_code : {X : Type 0} → (X → Bytes) → List X → Bytes
list_code {X} code xs = flat_map (λ x. 49 ∷ code x) xs ++ 48 ∷ []

abbrev pub name_code : Name → Bytes
name_code name = text_code name.text

abbrev pub names_code : List Name → Bytes
names_code names = list_code name_code names

-- operators and aggregations by a letter

abbrev pub op_mark : Op → ℕ
op_mark O.Add = 97
op_mark O.Subtract = 98
op_mark O.Multiply = 99
op_mark O.Divide = 100
op_mark O.Modulo = 101
op_mark O.Power = 102
op_mark O.Atan2 = 103
op_mark O.Equal = 104
op_mark O.NotEqual = 105
op_mark O.LessOrEqual = 106
op_mark O.Less = 107
op_mark O.GreaterOrEqual = 108
op_mark O.Greater = 109
op_mark O.And = 110
op_mark O.Or = 111
op_mark O.Unless = 112

abbrev pub agg_mark : Agg → ℕ
agg_mark A.Sum = 97
agg_mark A.Min = 98
agg_mark A.Max = 99
agg_mark A.Avg = 100
agg_mark A.Group = 101
agg_mark A.Stddev = 102
agg_mark A.Stdvar = 103
agg_mark A.Count = 104
agg_mark A.Quantile = 105
agg_mark A.CountValues = 106
agg_mark A.Topk = 107
agg_mark A.Bottomk = 108

abbrev pub match_mark : MatchOp → ℕ
match_mark M.Equal = 97
match_mark M.NotEqual = 98
match_mark M.Matches = 99
match_mark M.NotMatches = 100

abbrev pub group_mark : Group → ℕ
group_mark One = 97
group_mark Left = 98
group_mark Right = 99

-- parts of an expression

abbrev pub matcher_code : Matcher → Bytes
matcher_code m = match_mark m.op ∷ (text_code m.label ++ text_code m.value)

abbrev pub sight_code : Sight → Bytes
sight_code s = option_code text_code s.range ++ (option_code text_code s.step ++ (option_code text_code s.offset ++ option_code text_code s.at))

abbrev pub matching_code : Matching → Bytes
matching_code m = flag_code m.bool_mod ++ (group_mark m.group ∷ (option_code names_code m.on ++ (option_code names_code m.ignoring ++ names_code m.include)))

abbrev pub grouping_code : Grouping → Bytes
grouping_code Ungrouped = 97 ∷ []
grouping_code (By labels) = 98 ∷ names_code labels
grouping_code (Without labels) = 99 ∷ names_code labels

-- an expression without its parts: what it is, what it says, and how many arguments it has
abbrev pub node_code : Tree → Bytes
node_code (Number text span) = 97 ∷ text_code text
node_code (Str text span) = 98 ∷ text_code text
node_code (Selector name matchers sight span) = 99 ∷ (option_code text_code name ++ (list_code matcher_code matchers ++ sight_code sight))
node_code (Subquery of sight span) = 100 ∷ sight_code sight
node_code (Paren of span) = 101 ∷ []
node_code (Unary minus of span) = 102 ∷ flag_code minus
node_code (Binary op m left right span) = 103 ∷ op_mark op ∷ matching_code m
node_code (Call name args span) = 104 ∷ (text_code name ++ count_code (count args))
node_code (Aggregate op grouping args span) = 105 ∷ agg_mark op ∷ (grouping_code grouping ++ count_code (count args))

-- an expression: each before its parts
abbrev pub expr_code : Tree → Bytes
expr_code e = flat_map node_code (nodes e)

-- a label of a rule and its text
abbrev pub label_code : RuleLabel → Bytes
label_code l = text_code l.key ++ text_code l.value

-- the name, the labels and the expression of a rule
abbrev pub key_of : RuleTree → Bytes
key_of r = text_code r.name ++ (list_code label_code r.labels ++ expr_code r.expr)

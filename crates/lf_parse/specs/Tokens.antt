-- Tokens as the grammar sees them.
use Rattle.std.specs.Prelude.{ℕ, List, [], ◌∷◌, map, Option, Some, None, if◌then◌else◌, codes}
use Rattle.std.specs.Char.{to_ascii_lowercase}
use Rattle.std.specs.Str.{bytes_eq}
use Rattle.lf_base.specs.declared.place.Span.{Span}
use Rattle.lf_base.specs.Names.{has_colon}
use Rattle.lf_ast.specs.declared.expr.Agg.TheVariants as agg
use Rattle.lf_ast.specs.declared.expr.Op.{Op}
use Rattle.lf_ast.specs.declared.expr.Op.TheVariants as op
use Rattle.lf_lex.specs.declared.token.Token.{Token}
use Rattle.lf_lex.specs.declared.token.TokenKind.{TokenKind}
use Rattle.lf_lex.specs.declared.token.TokenKind.TheVariants as kinds
use Rattle.lf_lex.specs.declared.token.Sign.{Sign as SignOf}
use Rattle.lf_lex.specs.declared.token.Sign.TheVariants as signs
use Rattle.lf_parse.specs.declared.class.WordClass.{WordClass}
use Rattle.lf_parse.specs.declared.class.WordClass.TheVariants.{Plain, Edge, Numeric, Operator, Aggregation, Grouping, Matching, Group, Offset, Bool as BoolWord}
use Rattle.lf_parse.specs.declared.class.RangeEnd.TheVariants.{Start, End}
use Rattle.lf_parse.specs.declared.class.Clause.TheVariants.{By, Without}
use Rattle.lf_parse.specs.declared.class.Scope.TheVariants.{On, Ignoring}
use Rattle.lf_parse.specs.declared.class.Side.TheVariants.{Left, Right}

-- what a token is
pub data Mark : Type 0 where
  -- a word without a colon, and its class
  Word : WordClass → List ℕ → Mark
  -- a word with a colon: no keyword, and no label
  Metric : List ℕ → Mark
  Num : List ℕ → Mark
  Dur : List ℕ → Mark
  Quoted : List ℕ → Mark
  Sign : SignOf → Mark

-- and where it stands
infix 20 ◌at◌
pub data MarkedToken : Type 0 where
  ◌at◌ : Mark → Span → MarkedToken

-- ---- words

-- the words that are more than names
abbrev pub words : List (List ℕ × WordClass)
words =
    (codes "and", Operator op.And)
    ∷ (codes "or", Operator op.Or)
    ∷ (codes "unless", Operator op.Unless)
    ∷ (codes "atan2", Operator op.Atan2)
    ∷ (codes "by", Grouping By)
    ∷ (codes "without", Grouping Without)
    ∷ (codes "on", Matching On)
    ∷ (codes "ignoring", Matching Ignoring)
    ∷ (codes "group_left", Group Left)
    ∷ (codes "group_right", Group Right)
    ∷ (codes "offset", Offset)
    ∷ (codes "bool", BoolWord)
    ∷ (codes "inf", Numeric)
    ∷ (codes "nan", Numeric)
    ∷ (codes "start", Edge Start)
    ∷ (codes "end", Edge End)
    ∷ (codes "sum", Aggregation agg.Sum)
    ∷ (codes "min", Aggregation agg.Min)
    ∷ (codes "max", Aggregation agg.Max)
    ∷ (codes "avg", Aggregation agg.Avg)
    ∷ (codes "group", Aggregation agg.Group)
    ∷ (codes "stddev", Aggregation agg.Stddev)
    ∷ (codes "stdvar", Aggregation agg.Stdvar)
    ∷ (codes "count", Aggregation agg.Count)
    ∷ (codes "quantile", Aggregation agg.Quantile)
    ∷ (codes "count_values", Aggregation agg.CountValues)
    ∷ (codes "topk", Aggregation agg.Topk)
    ∷ (codes "bottomk", Aggregation agg.Bottomk)
    ∷ []

-- the class that a list of words gives to a word in lower case, or else `Plain`
abbrev pub class_in : List ℕ → List (List ℕ × WordClass) → WordClass
class_in w [] = Plain
class_in w (entry ∷ rest) = if bytes_eq w entry.0 then entry.1 else class_in w rest

-- the class of a word without a colon, in any case of letters
unfoldable pub class_of : List ℕ → WordClass
class_of w = class_in (map to_ascii_lowercase w) words

abbrev pub word_mark : List ℕ → Mark
word_mark w = if has_colon w then Metric w else Word (class_of w) w

abbrev pub mark : TokenKind → Mark
mark (kinds.Word w) = word_mark w
mark (kinds.Number x) = Num x
mark (kinds.Duration d) = Dur d
mark (kinds.Str x) = Quoted x
mark (kinds.Sign s) = Sign s

-- a token, as the grammar sees it
abbrev pub marked : Token → MarkedToken
marked t = mark t.kind at t.span

-- ---- operators

abbrev pub op_of_sign : SignOf → Option Op
op_of_sign signs.Plus = Some op.Add
op_of_sign signs.Minus = Some op.Subtract
op_of_sign signs.Times = Some op.Multiply
op_of_sign signs.Over = Some op.Divide
op_of_sign signs.Modulo = Some op.Modulo
op_of_sign signs.Power = Some op.Power
op_of_sign signs.Equal = Some op.Equal
op_of_sign signs.NotEqual = Some op.NotEqual
op_of_sign signs.LessOrEqual = Some op.LessOrEqual
op_of_sign signs.Less = Some op.Less
op_of_sign signs.GreaterOrEqual = Some op.GreaterOrEqual
op_of_sign signs.Greater = Some op.Greater
op_of_sign _ = None

-- the binary operator that a token is
abbrev pub op_of : Mark → Option Op
op_of (Sign s) = op_of_sign s
op_of (Word (Operator o) w) = Some o
op_of _ = None

-- The grammar of expressions, one constructor a production.
--
-- Each family speaks of tokens `ts` and `rest`: a part stands at the front of `ts`, and `rest` is what follows it.
use Rattle.std.specs.Prelude.{◌≡◌, ℕ, Bool, true, false, ◌+◌, ◌≤◌, List, [], ◌∷◌, ◌++◌, map, Option, Some, None, codes}
use Rattle.lf_base.specs.declared.place.Span.{Span}
use Rattle.lf_ast.specs.declared.expr.Agg.{Agg}
use Rattle.lf_ast.specs.declared.expr.Group.{Group as GroupOf}
use Rattle.lf_ast.specs.declared.expr.Group.TheVariants as group_of
use Rattle.lf_ast.specs.declared.expr.Grouping.{Grouping as GroupingOf}
use Rattle.lf_ast.specs.declared.expr.Grouping.TheVariants as grouping_of
use Rattle.lf_ast.specs.declared.expr.MatchOp.{MatchOp}
use Rattle.lf_ast.specs.declared.expr.MatchOp.TheVariants as match_op
use Rattle.lf_ast.specs.declared.expr.Matcher.{Matcher}
use Rattle.lf_ast.specs.declared.expr.Matching.{Matching as MatchingOf}
use Rattle.lf_ast.specs.declared.expr.Name.{Name}
use Rattle.lf_ast.specs.declared.expr.Op.{Op}
use Rattle.lf_ast.specs.declared.expr.Op.TheVariants as op
use Rattle.lf_ast.specs.declared.expr.Sight.{Sight}
use Rattle.lf_lex.specs.declared.token.Token.{Token}
use Rattle.lf_lex.specs.declared.token.Sign.{Sign as SignOf}
use Rattle.lf_lex.specs.declared.token.Sign.TheVariants.{OpenParen, CloseParen, OpenBrace, CloseBrace, OpenBracket, CloseBracket, Comma, Colon, Plus, Minus, Is, NotEqual, Matches, MatchesNot, At as AtSign}
use Rattle.lf_parse.specs.declared.class.WordClass.{WordClass}
use Rattle.lf_parse.specs.declared.class.WordClass.TheVariants.{Plain, Edge, Numeric, Aggregation, Grouping, Matching, Group, Offset, Bool as BoolWord}
use Rattle.lf_parse.specs.declared.class.RangeEnd.{RangeEnd}
use Rattle.lf_parse.specs.declared.class.RangeEnd.TheVariants.{Start, End}
use Rattle.lf_parse.specs.declared.class.Clause.{Clause}
use Rattle.lf_parse.specs.declared.class.Clause.TheVariants.{By, Without}
use Rattle.lf_parse.specs.declared.class.Scope.{Scope}
use Rattle.lf_parse.specs.declared.class.Scope.TheVariants.{On, Ignoring}
use Rattle.lf_parse.specs.declared.class.Side.{Side}
use Rattle.lf_parse.specs.declared.class.Side.TheVariants.{Left, Right}
use Rattle.lf_parse.specs.Tokens.{Mark, Word, Metric, Num, Dur, Quoted, Sign, MarkedToken, ◌at◌, op_of, marked}
use Rattle.lf_ast.specs.Tree.{Tree, Number, Str, Selector, Subquery, Paren, Unary, Binary, Call, Aggregate, Trees, Nil, Next, span_of, with_last}

-- ---- spans

-- from where one begins to where the other ends
abbrev pub to : Span → Span → Span
to p q = record { start = p.start; end = q.end }

-- from where one begins up to an offset
abbrev pub up_to : Span → ℕ → Span
up_to p n = record { start = p.start; end = n }

-- the empty span at the end of one
abbrev pub behind : Span → Span
behind p = record { start = p.end; end = p.end }

-- ---- lists of labels

abbrev pub name : List ℕ → Span → Name
name w p = record { text = w; span = p }

-- a label {',' a label}, where a label is any word without a colon
pub data LabelsAt : List Name → List MarkedToken → List MarkedToken → Type 0 where
  one_label : {c : WordClass} {w : List ℕ} {p : Span} {rest : List MarkedToken} →
      LabelsAt (name w p ∷ []) ((Word c w at p) ∷ rest) rest
  next_label : {c : WordClass} {w : List ℕ} {xs : List Name} {p q : Span} {ts rest : List MarkedToken} →
      LabelsAt xs ts ((Sign Comma at q) ∷ (Word c w at p) ∷ rest) → LabelsAt (xs ++ name w p ∷ []) ts rest

-- Names = '(' [labels [',']] ')'. The span is that of the `)`.
pub data NamesAt : List Name → Span → List MarkedToken → List MarkedToken → Type 0 where
  no_names : {o c : Span} {rest : List MarkedToken} →
      NamesAt [] c ((Sign OpenParen at o) ∷ (Sign CloseParen at c) ∷ rest) rest
  names : {xs : List Name} {o c : Span} {ts rest : List MarkedToken} →
      LabelsAt xs ts ((Sign CloseParen at c) ∷ rest) → NamesAt xs c ((Sign OpenParen at o) ∷ ts) rest
  names_comma : {xs : List Name} {o q c : Span} {ts rest : List MarkedToken} →
      LabelsAt xs ts ((Sign Comma at q) ∷ (Sign CloseParen at c) ∷ rest) → NamesAt xs c ((Sign OpenParen at o) ∷ ts) rest

-- ---- the modifier of an operator

abbrev pub labels_of : Scope → Scope → List Name → Option (List Name)
labels_of On On xs = Some xs
labels_of Ignoring Ignoring xs = Some xs
labels_of _ _ xs = None

abbrev pub many_of : Side → GroupOf
many_of Left = group_of.Left
many_of Right = group_of.Right

-- one without `on` and `ignoring`
abbrev pub unmatched : Bool → Span → MatchingOf
unmatched with_bool p = record { bool_mod = with_bool; on = None; ignoring = None; group = group_of.One; include = []; span = p }

abbrev pub matched : Bool → Scope → List Name → GroupOf → List Name → Span → MatchingOf
matched with_bool k xs g ys p = record { bool_mod = with_bool; on = labels_of On k xs; ignoring = labels_of Ignoring k xs; group = g; include = ys; span = p }

-- the tokens don't begin with `(`
abbrev pub NotOpen : List MarkedToken → Type 0
NotOpen [] = Unit {0}
NotOpen ((Sign OpenParen at p) ∷ ts) = ⊥
NotOpen (t ∷ ts) = Unit {0}

-- What stands behind `on` or `ignoring`: Names [('group_left' | 'group_right') [Names]], where a `(` right behind the group modifier opens its list.
-- The modifier has `bool` or not, and begins with a span.
pub data ScopedAt : Bool → Span → Scope → MatchingOf → List MarkedToken → List MarkedToken → Type 0 where
  alone : {b : Bool} {f c : Span} {k : Scope} {xs : List Name} {ts rest : List MarkedToken} →
      NamesAt xs c ts rest → ScopedAt b f k (matched b k xs group_of.One [] (to f c)) ts rest
  group : {b : Bool} {f c q : Span} {k : Scope} {s : Side} {w : List ℕ} {xs : List Name} {ts rest : List MarkedToken} →
      NamesAt xs c ts ((Word (Group s) w at q) ∷ rest) → NotOpen rest → ScopedAt b f k (matched b k xs (many_of s) [] (to f q)) ts rest
  group_names : {b : Bool} {f c q d : Span} {k : Scope} {s : Side} {w : List ℕ} {xs ys : List Name} {ts us rest : List MarkedToken} →
      NamesAt xs c ts ((Word (Group s) w at q) ∷ us) → NamesAt ys d us rest → ScopedAt b f k (matched b k xs (many_of s) ys (to f d)) ts rest

-- M = ['bool'] [('on' | 'ignoring') Names [('group_left' | 'group_right') [Names]]], behind an operator with a span
pub data ModifierAt : Span → MatchingOf → List MarkedToken → List MarkedToken → Type 0 where
  no_modifier : {o : Span} {ts : List MarkedToken} →
      ModifierAt o (unmatched false (behind o)) ts ts
  bool : {o p : Span} {w : List ℕ} {ts : List MarkedToken} →
      ModifierAt o (unmatched true p) ((Word BoolWord w at p) ∷ ts) ts
  scoped : {o p : Span} {k : Scope} {w : List ℕ} {m : MatchingOf} {ts rest : List MarkedToken} →
      ScopedAt false p k m ts rest → ModifierAt o m ((Word (Matching k) w at p) ∷ ts) rest
  bool_scoped : {o p q : Span} {k : Scope} {w v : List ℕ} {m : MatchingOf} {ts rest : List MarkedToken} →
      ScopedAt true p k m ts rest → ModifierAt o m ((Word BoolWord w at p) ∷ (Word (Matching k) v at q) ∷ ts) rest

-- ---- selectors

abbrev pub matcher : Name → MatchOp → List ℕ → Span → Matcher
matcher n o v p = record { label = n.text; op = o; value = v; label_span = n.span; value_span = p }

-- = != =~ !~
abbrev pub match_of : SignOf → Option MatchOp
match_of Is = Some match_op.Equal
match_of NotEqual = Some match_op.NotEqual
match_of Matches = Some match_op.Matches
match_of MatchesNot = Some match_op.NotMatches
match_of _ = None

-- a matcher {',' a matcher}, a matcher being a label, a sign and a string
pub data MatchersAt : List Matcher → List MarkedToken → List MarkedToken → Type 0 where
  one_matcher : {c : WordClass} {w v : List ℕ} {s : SignOf} {o : MatchOp} {p q r : Span} {rest : List MarkedToken} →
      match_of s ≡ Some o → MatchersAt (matcher (name w p) o v r ∷ []) ((Word c w at p) ∷ (Sign s at q) ∷ (Quoted v at r) ∷ rest) rest
  next_matcher : {c : WordClass} {w v : List ℕ} {s : SignOf} {o : MatchOp} {xs : List Matcher} {p q r k : Span} {ts rest : List MarkedToken} →
      match_of s ≡ Some o → MatchersAt xs ts ((Sign Comma at k) ∷ (Word c w at p) ∷ (Sign s at q) ∷ (Quoted v at r) ∷ rest) → MatchersAt (xs ++ matcher (name w p) o v r ∷ []) ts rest

-- What stands behind a `{`: [matchers [',']] '}'. The span is that of the `}`.
pub data BracesAt : List Matcher → Span → List MarkedToken → List MarkedToken → Type 0 where
  no_matchers : {c : Span} {rest : List MarkedToken} →
      BracesAt [] c ((Sign CloseBrace at c) ∷ rest) rest
  matchers : {xs : List Matcher} {c : Span} {ts rest : List MarkedToken} →
      MatchersAt xs ts ((Sign CloseBrace at c) ∷ rest) → BracesAt xs c ts rest
  matchers_comma : {xs : List Matcher} {q c : Span} {ts rest : List MarkedToken} →
      MatchersAt xs ts ((Sign Comma at q) ∷ (Sign CloseBrace at c) ∷ rest) → BracesAt xs c ts rest

-- a word that names a metric or a function: no keyword and no name of an aggregation
pub data IsMetric : List ℕ → Mark → Type 0 where
  plain : {w : List ℕ} → IsMetric w (Word Plain w)
  edge : {e : RangeEnd} {w : List ℕ} → IsMetric w (Word (Edge e) w)
  with_colon : {w : List ℕ} → IsMetric w (Metric w)

-- Select = word ['{' matchers '}'] | '{' matchers '}', and its span
pub data SelectAt : Option (List ℕ) → List Matcher → Span → List MarkedToken → List MarkedToken → Type 0 where
  word : {w : List ℕ} {m : Mark} {p : Span} {rest : List MarkedToken} →
      IsMetric w m → SelectAt (Some w) [] p ((m at p) ∷ rest) rest
  word_braces : {w : List ℕ} {m : Mark} {xs : List Matcher} {p o c : Span} {ts rest : List MarkedToken} →
      IsMetric w m → BracesAt xs c ts rest → SelectAt (Some w) xs (to p c) ((m at p) ∷ (Sign OpenBrace at o) ∷ ts) rest
  braces : {xs : List Matcher} {o c : Span} {ts rest : List MarkedToken} →
      BracesAt xs c ts rest → SelectAt None xs (to o c) ((Sign OpenBrace at o) ∷ ts) rest

-- ---- ranges, offsets and times

-- nothing behind a selector with this span
abbrev pub blank : Span → Sight
blank p = record { range = None; step = None; offset = None; at = None; range_span = behind p }

abbrev pub ranged : List ℕ → Span → Sight
ranged d q = record { range = Some d; step = None; offset = None; at = None; range_span = q }

abbrev pub stepped : List ℕ → Span → Option (List ℕ) → Sight
stepped d q step = record { range = Some d; step = step; offset = None; at = None; range_span = q }

-- `start()` and `end()`, as the tree has them
abbrev pub edge_text : RangeEnd → List ℕ
edge_text Start = codes "start()"
edge_text End = codes "end()"

-- an offset or a time, as its text
pub data Mod : Type 0 where
  OffsetBy : List ℕ → Mod
  AtTime : List ℕ → Mod

-- 'offset' ['-'] dur, or '@' Time with Time = ['+' | '-'] number | ('start' | 'end') '(' ')'. The number is the offset where it ends.
pub data ModAt : Mod → ℕ → List MarkedToken → List MarkedToken → Type 0 where
  offset : {w d : List ℕ} {p q : Span} {rest : List MarkedToken} →
      ModAt (OffsetBy d) q.end ((Word Offset w at p) ∷ (Dur d at q) ∷ rest) rest
  offset_minus : {w d : List ℕ} {p o q : Span} {rest : List MarkedToken} →
      ModAt (OffsetBy (45 ∷ d)) q.end ((Word Offset w at p) ∷ (Sign Minus at o) ∷ (Dur d at q) ∷ rest) rest
  time : {x : List ℕ} {p q : Span} {rest : List MarkedToken} →
      ModAt (AtTime x) q.end ((Sign AtSign at p) ∷ (Num x at q) ∷ rest) rest
  time_plus : {x : List ℕ} {p o q : Span} {rest : List MarkedToken} →
      ModAt (AtTime (43 ∷ x)) q.end ((Sign AtSign at p) ∷ (Sign Plus at o) ∷ (Num x at q) ∷ rest) rest
  time_minus : {x : List ℕ} {p o q : Span} {rest : List MarkedToken} →
      ModAt (AtTime (45 ∷ x)) q.end ((Sign AtSign at p) ∷ (Sign Minus at o) ∷ (Num x at q) ∷ rest) rest
  time_edge : {e : RangeEnd} {w : List ℕ} {p q o c : Span} {rest : List MarkedToken} →
      ModAt (AtTime (edge_text e)) c.end ((Sign AtSign at p) ∷ (Word (Edge e) w at q) ∷ (Sign OpenParen at o) ∷ (Sign CloseParen at c) ∷ rest) rest

-- there is no modifier of this kind yet
abbrev pub HasRoom : Sight → Mod → Type 0
HasRoom s (OffsetBy d) = s.offset ≡ None
HasRoom s (AtTime x) = s.at ≡ None

abbrev pub with_mod : Sight → Mod → Sight
with_mod s (OffsetBy d) = record { range = s.range; step = s.step; offset = Some d; at = s.at; range_span = s.range_span }
with_mod s (AtTime x) = record { range = s.range; step = s.step; offset = s.offset; at = Some x; range_span = s.range_span }

-- At most one offset and at most one time, in any order: they make r of s, and m of the offset n where the tokens before them end.
pub data ModsAt : Sight → Sight → ℕ → ℕ → List MarkedToken → List MarkedToken → Type 0 where
  no_mods : {s : Sight} {n : ℕ} {ts : List MarkedToken} →
      ModsAt s s n n ts ts
  mods : {s r : Sight} {x : Mod} {n k m : ℕ} {ts us rest : List MarkedToken} →
      HasRoom s x → ModAt x k ts us → ModsAt (with_mod s x) r k m us rest → ModsAt s r n m ts rest

-- [dur]
pub data StepAt : Option (List ℕ) → List MarkedToken → List MarkedToken → Type 0 where
  no_step : {ts : List MarkedToken} → StepAt None ts ts
  step : {d : List ℕ} {p : Span} {ts : List MarkedToken} → StepAt (Some d) ((Dur d at p) ∷ ts) ts

-- ---- aggregations

abbrev pub grouping : Clause → List Name → GroupingOf
grouping By xs = grouping_of.By xs
grouping Without xs = grouping_of.Without xs

-- ---- levels

-- Or is level 1, And 2, Cmp 3, Add 4, Mul 5, Unary and Pow 6, Post 7. The level of what an operator makes:
abbrev pub level : Op → ℕ
level op.Or = 1
level op.And = 2
level op.Unless = 2
level op.Equal = 3
level op.NotEqual = 3
level op.LessOrEqual = 3
level op.Less = 3
level op.GreaterOrEqual = 3
level op.Greater = 3
level op.Add = 4
level op.Subtract = 4
level op.Multiply = 5
level op.Divide = 5
level op.Modulo = 5
level op.Atan2 = 5
level op.Power = 6

-- of its left operand: the same, so that operators group to the left, but Post for the power
abbrev pub left_level : Op → ℕ
left_level op.Power = 7
left_level o = level o

-- of its right operand: the next, but Unary for the power
abbrev pub right_level : Op → ℕ
right_level op.Power = 6
right_level o = level o + 1

-- ---- expressions

-- `At l e n ts rest`: an expression of level l, whose tree is e and whose last token ends at offset n. A level holds all that are higher.
mutual
  pub data At : ℕ → Tree → ℕ → List MarkedToken → List MarkedToken → Type 0 where
    number : {l : ℕ} {x : List ℕ} {p : Span} {rest : List MarkedToken} →
        At l (Number x p) p.end ((Num x at p) ∷ rest) rest
    -- inf and nan
    numeric : {l : ℕ} {w : List ℕ} {p : Span} {rest : List MarkedToken} →
        At l (Number w p) p.end ((Word Numeric w at p) ∷ rest) rest
    string : {l : ℕ} {x : List ℕ} {p : Span} {rest : List MarkedToken} →
        At l (Str x p) p.end ((Quoted x at p) ∷ rest) rest
    -- '(' Expr ')'
    paren : {l m : ℕ} {e : Tree} {o c : Span} {ts rest : List MarkedToken} →
        At 1 e m ts ((Sign CloseParen at c) ∷ rest) → At l (Paren e (to o c)) c.end ((Sign OpenParen at o) ∷ ts) rest
    -- Select Mods
    selector : {l n : ℕ} {nm : Option (List ℕ)} {ms : List Matcher} {r : Sight} {p : Span} {ts us rest : List MarkedToken} →
        SelectAt nm ms p ts us → ModsAt (blank p) r p.end n us rest → At l (Selector nm ms r p) n ts rest
    -- Select '[' dur ']' Mods
    range : {l n : ℕ} {nm : Option (List ℕ)} {ms : List Matcher} {d : List ℕ} {r : Sight} {p o q c : Span} {ts us rest : List MarkedToken} →
        SelectAt nm ms p ts ((Sign OpenBracket at o) ∷ (Dur d at q) ∷ (Sign CloseBracket at c) ∷ us) → ModsAt (ranged d q) r c.end n us rest → At l (Selector nm ms r (to p c)) n ts rest
    -- Post '[' dur ':' [dur] ']' Mods
    subquery : {l m n : ℕ} {e : Tree} {d : List ℕ} {x : Option (List ℕ)} {r : Sight} {o q k c : Span} {ts us vs rest : List MarkedToken} →
        At 7 e m ts ((Sign OpenBracket at o) ∷ (Dur d at q) ∷ (Sign Colon at k) ∷ us) → StepAt x us ((Sign CloseBracket at c) ∷ vs) → ModsAt (stepped d q x) r c.end n vs rest → At l (Subquery e r (to (span_of e) c)) n ts rest
    -- word Args
    call : {l : ℕ} {w : List ℕ} {m : Mark} {xs : Trees} {p c : Span} {ts rest : List MarkedToken} →
        IsMetric w m → ArgsAt xs c ts rest → At l (Call w xs p) c.end ((m at p) ∷ ts) rest
    -- agg Args
    aggregate : {l : ℕ} {a : Agg} {w : List ℕ} {xs : Trees} {p c : Span} {ts rest : List MarkedToken} →
        ArgsAt xs c ts rest → At l (Aggregate a grouping_of.None xs p) c.end ((Word (Aggregation a) w at p) ∷ ts) rest
    -- agg By Args, with By = ('by' | 'without') Names
    aggregate_by : {l : ℕ} {a : Agg} {k : Clause} {w v : List ℕ} {xs : Trees} {ys : List Name} {p q d c : Span} {ts us rest : List MarkedToken} →
        NamesAt ys d ts us → ArgsAt xs c us rest → At l (Aggregate a (grouping k ys) xs p) c.end ((Word (Aggregation a) w at p) ∷ (Word (Grouping k) v at q) ∷ ts) rest
    -- agg Args By, with By = ('by' | 'without') Names
    aggregate_args_by : {l : ℕ} {a : Agg} {k : Clause} {w v : List ℕ} {xs : Trees} {ys : List Name} {p c q d : Span} {ts us rest : List MarkedToken} →
        ArgsAt xs c ts ((Word (Grouping k) v at q) ∷ us) → NamesAt ys d us rest → At l (Aggregate a (grouping k ys) xs p) d.end ((Word (Aggregation a) w at p) ∷ ts) rest
    -- '+' Unary
    plus : {l n : ℕ} {e : Tree} {p : Span} {ts rest : List MarkedToken} →
        l ≤ 6 → At 6 e n ts rest → At l (Unary false e (up_to p n)) n ((Sign Plus at p) ∷ ts) rest
    -- '-' Unary
    minus : {l n : ℕ} {e : Tree} {p : Span} {ts rest : List MarkedToken} →
        l ≤ 6 → At 6 e n ts rest → At l (Unary true e (up_to p n)) n ((Sign Minus at p) ∷ ts) rest
    -- an operand, an operator, M and an operand, each of its level
    binary : {l k n : ℕ} {o : Op} {m : Mark} {x : MatchingOf} {a b : Tree} {p : Span} {ts us vs rest : List MarkedToken} →
        l ≤ level o → op_of m ≡ Some o → At (left_level o) a k ts ((m at p) ∷ us) → ModifierAt p x us vs → At (right_level o) b n vs rest → At l (Binary o x a b p) n ts rest

  -- Expr {',' Expr}
  pub data SomeAt : Trees → List MarkedToken → List MarkedToken → Type 0 where
    one : {n : ℕ} {e : Tree} {ts rest : List MarkedToken} →
        At 1 e n ts rest → SomeAt (Next e Nil) ts rest
    also : {n : ℕ} {xs : Trees} {e : Tree} {q : Span} {ts us rest : List MarkedToken} →
        SomeAt xs ts ((Sign Comma at q) ∷ us) → At 1 e n us rest → SomeAt (with_last xs e) ts rest

  -- Args = '(' [Expr {',' Expr}] ')'. The span is that of the `)`.
  pub data ArgsAt : Trees → Span → List MarkedToken → List MarkedToken → Type 0 where
    no_args : {o c : Span} {rest : List MarkedToken} →
        ArgsAt Nil c ((Sign OpenParen at o) ∷ (Sign CloseParen at c) ∷ rest) rest
    args : {xs : Trees} {o c : Span} {ts rest : List MarkedToken} →
        SomeAt xs ts ((Sign CloseParen at c) ∷ rest) → ArgsAt xs c ((Sign OpenParen at o) ∷ ts) rest

-- the tokens are an expression, whose tree is e and whose last token ends at n
abbrev pub Derives : List MarkedToken → Tree → Type 0
Derives ts e = (n : ℕ) × At 1 e n ts []

-- tokens of a text are an expression, whose tree is e
abbrev pub Parses : List Token → Tree → Type 0
Parses ts e = Derives (map marked ts) e

-- some expression begins with the tokens
abbrev pub IsViable : List Token → Type 0
IsViable ts = (more : List Token) × (e : Tree) × Parses (ts ++ more) e

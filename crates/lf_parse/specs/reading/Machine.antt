-- The parser as a machine that takes one token at a time. It is a way of reading, and defines nothing: the laws in proofs/ say that it takes what the grammar
-- derives, and gives its tree.
use Rattle.std.specs.Prelude.{ℕ, ◌+◌, Result, Ok, Err, Bool, true, false, nat_le, if◌then◌else◌, List, [], ◌∷◌, ◌++◌, Option, Some, None, option_and_then}
use Rattle.lf_base.specs.declared.place.Span.{Span}
use Rattle.lf_ast.specs.declared.expr.Agg.{Agg}
use Rattle.lf_ast.specs.declared.expr.Group.TheVariants as group_of
use Rattle.lf_ast.specs.declared.expr.Grouping.{Grouping as GroupingOf}
use Rattle.lf_ast.specs.declared.expr.Grouping.TheVariants as grouping_of
use Rattle.lf_ast.specs.declared.expr.MatchOp.{MatchOp}
use Rattle.lf_ast.specs.declared.expr.Matcher.{Matcher}
use Rattle.lf_ast.specs.declared.expr.Matching.{Matching as MatchingOf}
use Rattle.lf_ast.specs.declared.expr.Name.{Name as NameOf}
use Rattle.lf_ast.specs.declared.expr.Op.{Op}
use Rattle.lf_ast.specs.declared.expr.Sight.{Sight}
use Rattle.lf_lex.specs.declared.token.Sign.TheVariants.{OpenParen, CloseParen, OpenBrace, CloseBrace, OpenBracket, CloseBracket, Comma, Colon, Plus, Minus, At as AtSign}
use Rattle.lf_parse.specs.declared.class.WordClass.TheVariants.{Plain, Edge, Numeric, Aggregation, Grouping, Matching, Group, Offset, Bool as BoolWord}
use Rattle.lf_parse.specs.declared.class.RangeEnd.{RangeEnd}
use Rattle.lf_parse.specs.declared.class.Clause.{Clause}
use Rattle.lf_parse.specs.declared.class.Scope.{Scope}
use Rattle.lf_parse.specs.declared.class.Side.{Side}
use Rattle.lf_parse.specs.declared.follower.Follower.{Follower}
use Rattle.lf_parse.specs.declared.follower.Follower.TheVariants as followers
use Rattle.lf_parse.specs.Tokens.{Mark, Word, Metric, Num, Dur, Quoted, Sign, MarkedToken, ◌at◌, op_of}
use Rattle.lf_ast.specs.Tree.{Tree, Number, Str, Selector, Subquery, Paren, Unary, Binary, Call, Aggregate, Trees, Nil, span_of, with_last}
use Rattle.lf_parse.specs.Grammar.{to, up_to, behind, name, matched, unmatched, many_of, matcher, match_of, blank, ranged, stepped, edge_text, Mod, OffsetBy, AtTime, with_mod, grouping, level, left_level}

-- what a part does with a token: it goes on, is done with it, was done before it, or can't take it
pub data ParserStep (S V : Type 0) : Type 0 where
  More : S → ParserStep S V
  Done : V → ParserStep S V
  DoneBefore : V → ParserStep S V
  Reject : ParserStep S V

-- ---- a list of labels in parentheses

pub data Names : Type 0 where
  -- its `(` comes
  Opening : Names
  -- a label or the `)` comes
  NextName : List NameOf → Names
  -- a `,` or the `)` comes
  AfterName : List NameOf → Names

abbrev pub names_step : Names → MarkedToken → ParserStep Names (List NameOf × Span)
names_step Opening (Sign OpenParen at p) = More (NextName [])
names_step Opening (m at p) = Reject
names_step (NextName xs) (Word c w at p) = More (AfterName (xs ++ name w p ∷ []))
names_step (NextName xs) (Sign CloseParen at p) = Done (xs, p)
names_step (NextName xs) (m at p) = Reject
names_step (AfterName xs) (Sign Comma at p) = More (NextName xs)
names_step (AfterName xs) (Sign CloseParen at p) = Done (xs, p)
names_step (AfterName xs) (m at p) = Reject

-- ---- matchers behind a `{`

pub data Braces : Type 0 where
  -- a label or the `}` comes
  NextMatcher : List Matcher → Braces
  -- a match sign comes
  AfterLabel : List Matcher → NameOf → Braces
  -- a string comes
  AfterSign : List Matcher → NameOf → MatchOp → Braces
  -- a `,` or the `}` comes
  AfterMatcher : List Matcher → Braces

abbrev pub compared : List Matcher → NameOf → Option MatchOp → ParserStep Braces (List Matcher × Span)
compared xs n (Some o) = More (AfterSign xs n o)
compared xs n None = Reject

abbrev pub braces_step : Braces → MarkedToken → ParserStep Braces (List Matcher × Span)
braces_step (NextMatcher xs) (Word c w at p) = More (AfterLabel xs (name w p))
braces_step (NextMatcher xs) (Sign CloseBrace at p) = Done (xs, p)
braces_step (NextMatcher xs) (m at p) = Reject
braces_step (AfterLabel xs n) (Sign s at p) = compared xs n (match_of s)
braces_step (AfterLabel xs n) (m at p) = Reject
braces_step (AfterSign xs n o) (Quoted v at p) = More (AfterMatcher (xs ++ matcher n o v p ∷ []))
braces_step (AfterSign xs n o) (m at p) = Reject
braces_step (AfterMatcher xs) (Sign Comma at p) = More (NextMatcher xs)
braces_step (AfterMatcher xs) (Sign CloseBrace at p) = Done (xs, p)
braces_step (AfterMatcher xs) (m at p) = Reject

-- ---- the modifier of an operator

-- A modifier with `bool` or without, its first token's span, and whether it says `on` or `ignoring`.
pub record Front : Type 0 where
  pub with_bool : Bool
  pub first : Span
  pub scope : Scope

pub data Stage : Type 0 where
  -- behind the operator
  Begin : Stage
  -- behind `bool`
  AfterBool : Span → Stage
  -- behind `on` or `ignoring`
  InLabels : Front → Names → Stage
  AfterLabels : Front → List NameOf → Span → Stage
  -- behind the group modifier
  AfterGroup : Front → List NameOf → Side → Span → Stage
  InInclude : Front → List NameOf → Side → Names → Stage

abbrev pub front : Bool → Span → Scope → Front
front b p k = record { with_bool = b; first = p; scope = k }

abbrev pub modifier : Front → List NameOf → Span → MatchingOf
modifier f xs c = matched f.with_bool f.scope xs group_of.One [] (to f.first c)

abbrev pub group_modifier : Front → List NameOf → Side → List NameOf → Span → MatchingOf
group_modifier f xs s ys c = matched f.with_bool f.scope xs (many_of s) ys (to f.first c)

abbrev pub in_labels : Front → ParserStep Names (List NameOf × Span) → ParserStep Stage MatchingOf
in_labels f (More n) = More (InLabels f n)
in_labels f (Done (xs, c)) = More (AfterLabels f xs c)
in_labels f _ = Reject

abbrev pub in_include : Front → List NameOf → Side → ParserStep Names (List NameOf × Span) → ParserStep Stage MatchingOf
in_include f xs s (More n) = More (InInclude f xs s n)
in_include f xs s (Done (ys, c)) = Done (group_modifier f xs s ys c)
in_include f xs s _ = Reject

-- a token behind an operator with a span
abbrev pub stage_step : Span → Stage → MarkedToken → ParserStep Stage MatchingOf
stage_step o Begin (Word BoolWord w at p) = More (AfterBool p)
stage_step o Begin (Word (Matching k) w at p) = More (InLabels (front false p k) Opening)
stage_step o Begin t = DoneBefore (unmatched false (behind o))
stage_step o (AfterBool b) (Word (Matching k) w at p) = More (InLabels (front true b k) Opening)
stage_step o (AfterBool b) t = DoneBefore (unmatched true b)
stage_step o (InLabels f n) t = in_labels f (names_step n t)
stage_step o (AfterLabels f xs c) (Word (Group s) w at p) = More (AfterGroup f xs s p)
stage_step o (AfterLabels f xs c) t = DoneBefore (modifier f xs c)
stage_step o (AfterGroup f xs s q) (Sign OpenParen at p) = More (InInclude f xs s (NextName []))
stage_step o (AfterGroup f xs s q) t = DoneBefore (group_modifier f xs s [] q)
stage_step o (InInclude f xs s n) t = in_include f xs s (names_step n t)

-- ---- an offset or a time

pub data ModStage : Type 0 where
  AfterOffset : ModStage
  AfterOffsetMinus : ModStage
  AfterAt : ModStage
  -- behind the `+` or `-` of a time, a byte
  AfterAtSign : ℕ → ModStage
  AfterEdge : RangeEnd → ModStage
  InEdge : RangeEnd → ModStage

abbrev pub mod_step : ModStage → MarkedToken → ParserStep ModStage (Mod × ℕ)
mod_step AfterOffset (Dur d at p) = Done (OffsetBy d, p.end)
mod_step AfterOffset (Sign Minus at p) = More AfterOffsetMinus
mod_step AfterOffset (m at p) = Reject
mod_step AfterOffsetMinus (Dur d at p) = Done (OffsetBy (45 ∷ d), p.end)
mod_step AfterOffsetMinus (m at p) = Reject
mod_step AfterAt (Num x at p) = Done (AtTime x, p.end)
mod_step AfterAt (Sign Plus at p) = More (AfterAtSign 43)
mod_step AfterAt (Sign Minus at p) = More (AfterAtSign 45)
mod_step AfterAt (Word (Edge e) w at p) = More (AfterEdge e)
mod_step AfterAt (m at p) = Reject
mod_step (AfterAtSign b) (Num x at p) = Done (AtTime (b ∷ x), p.end)
mod_step (AfterAtSign b) (m at p) = Reject
mod_step (AfterEdge e) (Sign OpenParen at p) = More (InEdge e)
mod_step (AfterEdge e) (m at p) = Reject
mod_step (InEdge e) (Sign CloseParen at p) = Done (AtTime (edge_text e), p.end)
mod_step (InEdge e) (m at p) = Reject

-- ---- the machine

-- whose arguments they are: a function's, an aggregation's, or those of one whose grouping came before
pub data Callee : Type 0 where
  OfCall : List ℕ → Span → Callee
  OfAggregate : Agg → Span → Callee
  OfGrouped : Agg → GroupingOf → Span → Callee

-- a frame of the stack: what was begun and is not at its end
pub data ParserFrame : Type 0 where
  -- an operator, its place and modifier, and its left operand
  LeftOf : Op → Span → MatchingOf → Tree → ParserFrame
  -- a sign before an operand: a minus sign, or else a plus sign
  Signed : Bool → Span → ParserFrame
  InParen : Span → ParserFrame
  -- arguments that have a comma behind them
  InArgs : Callee → Trees → ParserFrame

-- what modifiers come to
pub data Subject : Type 0 where
  OfSelector : Option (List ℕ) → List Matcher → Subject
  OfSubquery : Tree → Subject

-- an operand
pub data Operand : Type 0 where
  -- one to which only a bracket comes, and the offset of its end
  Whole : Tree → ℕ → Operand
  -- a word alone
  Bare : List ℕ → Span → Operand
  -- a selector with braces
  Selected : Option (List ℕ) → List Matcher → Span → Operand
  -- an aggregation without a grouping
  Aggregated : Agg → Trees → Span → ℕ → Operand
  -- a selector or a subquery with a range or modifiers
  Sighted : Subject → Sight → Span → ℕ → Operand

abbrev pub subject_tree : Subject → Sight → Span → Tree
subject_tree (OfSelector nm ms) s p = Selector nm ms s p
subject_tree (OfSubquery e) s p = Subquery e s p

abbrev pub operand_tree : Operand → Tree
operand_tree (Whole e n) = e
operand_tree (Bare w p) = Selector (Some w) [] (blank p) p
operand_tree (Selected nm ms p) = Selector nm ms (blank p) p
operand_tree (Aggregated a xs p n) = Aggregate a grouping_of.None xs p
operand_tree (Sighted x s p n) = subject_tree x s p

abbrev pub operand_end : Operand → ℕ
operand_end (Whole e n) = n
operand_end (Bare w p) = p.end
operand_end (Selected nm ms p) = p.end
operand_end (Aggregated a xs p n) = n
operand_end (Sighted x s p n) = n

-- what is expected next, by what was read last
pub data ParserMode : Type 0 where
  -- an operand
  ExpectOperand : ParserMode
  -- the first argument or `)`
  First : Callee → ParserMode
  -- an operator, or what else may stand behind an operand
  ExpectOperator : Operand → ParserMode
  Modifying : Op → Span → Tree → Stage → ParserMode
  -- inside the braces of a selector that began with a span
  InBraces : Option (List ℕ) → Span → Braces → ParserMode
  InMod : Subject → Sight → Span → ModStage → ParserMode
  -- behind `[`, behind the duration, behind `:`, behind the step
  AfterBracket : Operand → ParserMode
  AfterRange : Operand → List ℕ → Span → ParserMode
  AfterColon : Tree → List ℕ → Span → ParserMode
  AfterStep : Tree → List ℕ → Span → List ℕ → ParserMode
  -- behind the name of an aggregation
  AfterAggregation : Agg → Span → ParserMode
  -- in the labels of a grouping before the arguments, and behind them
  InGrouping : Agg → Span → Clause → Names → ParserMode
  AfterGrouping : Agg → Span → GroupingOf → ParserMode
  -- in the labels of a grouping behind the arguments
  InGroupingBehind : Agg → Span → Trees → Clause → Names → ParserMode

pub record ParserState : Type 0 where
  pub frames : List ParserFrame
  pub mode : ParserMode

-- an operand, and the frames below it
pub record Held : Type 0 where
  pub frames : List ParserFrame
  pub tree : Tree

abbrev pub state : List ParserFrame → ParserMode → ParserState
state fs m = record { frames = fs; mode = m }

abbrev pub held : List ParserFrame → Tree → Held
held fs e = record { frames = fs; tree = e }

-- makes trees of the operators from level l on, whose last token ends at n
abbrev pub reduce : ℕ → ℕ → List ParserFrame → Tree → Held
reduce l n [] e = held [] e
reduce l n (LeftOf o p m a ∷ fs) e = if nat_le l (level o) then reduce l n fs (Binary o m a e p) else held (LeftOf o p m a ∷ fs) e
reduce l n (Signed minus p ∷ fs) e = if nat_le l 6 then reduce l n fs (Unary minus e (up_to p n)) else held (Signed minus p ∷ fs) e
reduce l n (InParen p ∷ fs) e = held (InParen p ∷ fs) e
reduce l n (InArgs h xs ∷ fs) e = held (InArgs h xs ∷ fs) e

abbrev pub operand_read : List ParserFrame → Operand → Option ParserState
operand_read fs x = Some (state fs (ExpectOperator x))

-- a call or an aggregation with its arguments, whose `)` has a span
abbrev pub applied : Callee → Trees → Span → Operand
applied (OfCall w p) xs c = Whole (Call w xs p) c.end
applied (OfAggregate a p) xs c = Aggregated a xs p c.end
applied (OfGrouped a g p) xs c = Whole (Aggregate a g xs p) c.end

abbrev pub close : Span → List ParserFrame → Tree → Option ParserState
close c (InParen o ∷ fs) e = operand_read fs (Whole (Paren e (to o c)) c.end)
close c (InArgs h xs ∷ fs) e = operand_read fs (applied h (with_last xs e) c)
close c _ e = None

abbrev pub comma : List ParserFrame → Tree → Option ParserState
comma (InArgs h xs ∷ fs) e = Some (state (InArgs h (with_last xs e) ∷ fs) ExpectOperand)
comma _ e = None

abbrev pub ended : List ParserFrame → Tree → Option Tree
ended [] e = Some e
ended _ e = None

abbrev pub operator : Op → Span → Held → Option ParserState
operator o p h = Some (state h.frames (Modifying o p h.tree Begin))

abbrev pub joined : List ParserFrame → Tree → ℕ → Span → Option Op → Option ParserState
joined fs e n p None = None
joined fs e n p (Some o) = operator o p (reduce (left_level o) n fs e)

-- after an operand whose last token ends at n
abbrev pub after : List ParserFrame → Tree → ℕ → MarkedToken → Option ParserState
after fs e n (Sign CloseParen at p) = close p (reduce 1 n fs e).frames (reduce 1 n fs e).tree
after fs e n (Sign Comma at p) = comma (reduce 1 n fs e).frames (reduce 1 n fs e).tree
after fs e n (m at p) = joined fs e n p (op_of m)

-- where an operand is expected
abbrev pub expect_operand : List ParserFrame → MarkedToken → Option ParserState
expect_operand fs (Num x at p) = operand_read fs (Whole (Number x p) p.end)
expect_operand fs (Word Numeric w at p) = operand_read fs (Whole (Number w p) p.end)
expect_operand fs (Quoted x at p) = operand_read fs (Whole (Str x p) p.end)
expect_operand fs (Word Plain w at p) = operand_read fs (Bare w p)
expect_operand fs (Word (Edge e) w at p) = operand_read fs (Bare w p)
expect_operand fs (Metric w at p) = operand_read fs (Bare w p)
expect_operand fs (Word (Aggregation a) w at p) = Some (state fs (AfterAggregation a p))
expect_operand fs (Sign OpenBrace at p) = Some (state fs (InBraces None p (NextMatcher [])))
expect_operand fs (Sign OpenParen at p) = Some (state (InParen p ∷ fs) ExpectOperand)
expect_operand fs (Sign Plus at p) = Some (state (Signed false p ∷ fs) ExpectOperand)
expect_operand fs (Sign Minus at p) = Some (state (Signed true p ∷ fs) ExpectOperand)
expect_operand fs _ = None

abbrev pub room : {A : Type 0} → Option A → ParserState → Option ParserState
room None s = Some s
room (Some x) s = None

-- what a token begins right behind an operand
abbrev pub follower : Mark → Follower
follower (Sign OpenBracket) = followers.Bracket
follower (Sign OpenParen) = followers.Paren
follower (Sign OpenBrace) = followers.Brace
follower (Sign AtSign) = followers.At
follower (Word Offset w) = followers.Offset
follower (Word (Grouping k) w) = followers.Grouping k
follower _ = followers.Other

abbrev pub follower_of : MarkedToken → Follower
follower_of (m at p) = follower m

-- the token behind an operand of each sort, by what it begins there

abbrev pub whole_step : List ParserFrame → Tree → ℕ → Follower → MarkedToken → Option ParserState
whole_step fs e n followers.Bracket t = Some (state fs (AfterBracket (Whole e n)))
whole_step fs e n _ t = after fs e n t

abbrev pub bare_step : List ParserFrame → List ℕ → Span → Follower → MarkedToken → Option ParserState
bare_step fs w p followers.Bracket t = Some (state fs (AfterBracket (Bare w p)))
bare_step fs w p followers.Paren t = Some (state fs (First (OfCall w p)))
bare_step fs w p followers.Brace t = Some (state fs (InBraces (Some w) p (NextMatcher [])))
bare_step fs w p followers.Offset t = Some (state fs (InMod (OfSelector (Some w) []) (blank p) p AfterOffset))
bare_step fs w p followers.At t = Some (state fs (InMod (OfSelector (Some w) []) (blank p) p AfterAt))
bare_step fs w p _ t = after fs (Selector (Some w) [] (blank p) p) p.end t

abbrev pub selected_step : List ParserFrame → Option (List ℕ) → List Matcher → Span → Follower → MarkedToken → Option ParserState
selected_step fs nm ms p followers.Bracket t = Some (state fs (AfterBracket (Selected nm ms p)))
selected_step fs nm ms p followers.Offset t = Some (state fs (InMod (OfSelector nm ms) (blank p) p AfterOffset))
selected_step fs nm ms p followers.At t = Some (state fs (InMod (OfSelector nm ms) (blank p) p AfterAt))
selected_step fs nm ms p _ t = after fs (Selector nm ms (blank p) p) p.end t

abbrev pub aggregated_step : List ParserFrame → Agg → Trees → Span → ℕ → Follower → MarkedToken → Option ParserState
aggregated_step fs a xs p n followers.Bracket t = Some (state fs (AfterBracket (Aggregated a xs p n)))
aggregated_step fs a xs p n (followers.Grouping k) t = Some (state fs (InGroupingBehind a p xs k Opening))
aggregated_step fs a xs p n _ t = after fs (Aggregate a grouping_of.None xs p) n t

abbrev pub sighted_step : List ParserFrame → Subject → Sight → Span → ℕ → Follower → MarkedToken → Option ParserState
sighted_step fs x s p n followers.Bracket t = Some (state fs (AfterBracket (Sighted x s p n)))
sighted_step fs x s p n followers.Offset t = room s.offset (state fs (InMod x s p AfterOffset))
sighted_step fs x s p n followers.At t = room s.at (state fs (InMod x s p AfterAt))
sighted_step fs x s p n _ t = after fs (subject_tree x s p) n t

abbrev pub expect_operator : List ParserFrame → Operand → MarkedToken → Option ParserState
expect_operator fs (Whole e n) t = whole_step fs e n (follower_of t) t
expect_operator fs (Bare w p) t = bare_step fs w p (follower_of t) t
expect_operator fs (Selected nm ms p) t = selected_step fs nm ms p (follower_of t) t
expect_operator fs (Aggregated a xs p n) t = aggregated_step fs a xs p n (follower_of t) t
expect_operator fs (Sighted x s p n) t = sighted_step fs x s p n (follower_of t) t

abbrev pub first : List ParserFrame → Callee → MarkedToken → Option ParserState
first fs h (Sign CloseParen at c) = operand_read fs (applied h Nil c)
first fs h t = expect_operand (InArgs h Nil ∷ fs) t

abbrev pub modified : List ParserFrame → Op → Span → Tree → MarkedToken → ParserStep Stage MatchingOf → Option ParserState
modified fs o p a t (More st) = Some (state fs (Modifying o p a st))
modified fs o p a t (Done m) = Some (state (LeftOf o p m a ∷ fs) ExpectOperand)
modified fs o p a t (DoneBefore m) = expect_operand (LeftOf o p m a ∷ fs) t
modified fs o p a t Reject = None

abbrev pub in_braces : List ParserFrame → Option (List ℕ) → Span → ParserStep Braces (List Matcher × Span) → Option ParserState
in_braces fs nm p (More b) = Some (state fs (InBraces nm p b))
in_braces fs nm p (Done (ms, c)) = operand_read fs (Selected nm ms (to p c))
in_braces fs nm p _ = None

abbrev pub in_mod : List ParserFrame → Subject → Sight → Span → ParserStep ModStage (Mod × ℕ) → Option ParserState
in_mod fs x s p (More stage) = Some (state fs (InMod x s p stage))
in_mod fs x s p (Done (m, n)) = operand_read fs (Sighted x (with_mod s m) p n)
in_mod fs x s p _ = None

abbrev pub after_bracket : List ParserFrame → Operand → MarkedToken → Option ParserState
after_bracket fs x (Dur d at q) = Some (state fs (AfterRange x d q))
after_bracket fs x _ = None

abbrev pub range_of : List ParserFrame → Operand → List ℕ → Span → Span → Option ParserState
range_of fs (Bare w p) d q c = operand_read fs (Sighted (OfSelector (Some w) []) (ranged d q) (to p c) c.end)
range_of fs (Selected nm ms p) d q c = operand_read fs (Sighted (OfSelector nm ms) (ranged d q) (to p c) c.end)
range_of fs _ d q c = None

abbrev pub after_range : List ParserFrame → Operand → List ℕ → Span → MarkedToken → Option ParserState
after_range fs x d q (Sign CloseBracket at c) = range_of fs x d q c
after_range fs x d q (Sign Colon at k) = Some (state fs (AfterColon (operand_tree x) d q))
after_range fs x d q _ = None

abbrev pub subquery_of : List ParserFrame → Tree → List ℕ → Span → Option (List ℕ) → Span → Option ParserState
subquery_of fs e d q x c = operand_read fs (Sighted (OfSubquery e) (stepped d q x) (to (span_of e) c) c.end)

abbrev pub after_colon : List ParserFrame → Tree → List ℕ → Span → MarkedToken → Option ParserState
after_colon fs e d q (Dur x at p) = Some (state fs (AfterStep e d q x))
after_colon fs e d q (Sign CloseBracket at c) = subquery_of fs e d q None c
after_colon fs e d q _ = None

abbrev pub after_step : List ParserFrame → Tree → List ℕ → Span → List ℕ → MarkedToken → Option ParserState
after_step fs e d q x (Sign CloseBracket at c) = subquery_of fs e d q (Some x) c
after_step fs e d q x _ = None

abbrev pub after_aggregation : List ParserFrame → Agg → Span → MarkedToken → Option ParserState
after_aggregation fs a p (Sign OpenParen at o) = Some (state fs (First (OfAggregate a p)))
after_aggregation fs a p (Word (Grouping k) w at q) = Some (state fs (InGrouping a p k Opening))
after_aggregation fs a p _ = None

abbrev pub in_grouping : List ParserFrame → Agg → Span → Clause → ParserStep Names (List NameOf × Span) → Option ParserState
in_grouping fs a p k (More n) = Some (state fs (InGrouping a p k n))
in_grouping fs a p k (Done (xs, c)) = Some (state fs (AfterGrouping a p (grouping k xs)))
in_grouping fs a p k _ = None

abbrev pub after_grouping : List ParserFrame → Agg → Span → GroupingOf → MarkedToken → Option ParserState
after_grouping fs a p g (Sign OpenParen at o) = Some (state fs (First (OfGrouped a g p)))
after_grouping fs a p g _ = None

abbrev pub in_grouping_behind : List ParserFrame → Agg → Span → Trees → Clause → ParserStep Names (List NameOf × Span) → Option ParserState
in_grouping_behind fs a p xs k (More n) = Some (state fs (InGroupingBehind a p xs k n))
in_grouping_behind fs a p xs k (Done (ys, c)) = operand_read fs (Whole (Aggregate a (grouping k ys) xs p) c.end)
in_grouping_behind fs a p xs k _ = None

abbrev pub step_in : List ParserFrame → ParserMode → MarkedToken → Option ParserState
step_in fs ExpectOperand t = expect_operand fs t
step_in fs (First h) t = first fs h t
step_in fs (ExpectOperator x) t = expect_operator fs x t
step_in fs (Modifying o p a st) t = modified fs o p a t (stage_step p st t)
step_in fs (InBraces nm p b) t = in_braces fs nm p (braces_step b t)
step_in fs (InMod x s p stage) t = in_mod fs x s p (mod_step stage t)
step_in fs (AfterBracket x) t = after_bracket fs x t
step_in fs (AfterRange x d q) t = after_range fs x d q t
step_in fs (AfterColon e d q) t = after_colon fs e d q t
step_in fs (AfterStep e d q x) t = after_step fs e d q x t
step_in fs (AfterAggregation a p) t = after_aggregation fs a p t
step_in fs (InGrouping a p k n) t = in_grouping fs a p k (names_step n t)
step_in fs (AfterGrouping a p g) t = after_grouping fs a p g t
step_in fs (InGroupingBehind a p xs k n) t = in_grouping_behind fs a p xs k (names_step n t)

abbrev pub step : ParserState → MarkedToken → Option ParserState
step s t = step_in s.frames s.mode t

-- the operand that was read last, if one was
abbrev pub last_operand : ParserMode → Option Operand
last_operand (ExpectOperator x) = Some x
last_operand _ = None

abbrev pub finish_operand : List ParserFrame → Option Operand → Option Tree
finish_operand fs None = None
finish_operand fs (Some x) = ended (reduce 1 (operand_end x) fs (operand_tree x)).frames (reduce 1 (operand_end x) fs (operand_tree x)).tree

abbrev pub finish_in : List ParserFrame → ParserMode → Option Tree
finish_in fs m = finish_operand fs (last_operand m)

abbrev pub finish : ParserState → Option Tree
finish s = finish_in s.frames s.mode

abbrev pub start : ParserState
start = state [] ExpectOperand

abbrev pub run : ParserState → List MarkedToken → Option ParserState
run s [] = Some s
run s (t ∷ ts) = option_and_then (λ s'. run s' ts) (step s t)

abbrev pub accept : ParserState → List MarkedToken → Option Tree
accept s [] = finish s
accept s (t ∷ ts) = option_and_then (λ s'. accept s' ts) (step s t)

-- an end where there has to be one, or the place where no expression goes on
abbrev pub at_end : ℕ → Option Tree → Result Tree ℕ
at_end k None = Err k
at_end k (Some e) = Ok e

-- the tree of tokens that stand from place k on, or the place where no expression goes on
abbrev pub reading_from : ℕ → ParserState → List MarkedToken → Result Tree ℕ
reading_from k s [] = at_end k (finish s)
reading_from k s (t ∷ ts) = elim (step s t) [ None ↦ Err k | Some s' ↦ reading_from (k + 1) s' ts ]

abbrev pub reading : List MarkedToken → Result Tree ℕ
reading ts = reading_from 0 start ts

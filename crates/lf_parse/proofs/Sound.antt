-- What the machine takes is an expression of the grammar.
use Rattle.std.proofs.Common.{◌≡◌, ℕ, true, false, ◌≤◌, ◌<◌, List, [], ◌∷◌, ◌++◌, ◌⊎◌, inl, inr, Option, Some, None, IfSome, refl, arith}
use Rattle.std.specs.Option.{option_and_then}
use Rattle.std.proofs.lemmas.Bool.Decides.{leb_tells}
use Rattle.lf_base.specs.declared.place.Span.{Span}
use Rattle.lf_ast.specs.declared.expr.Agg.{Agg}
use Rattle.lf_ast.specs.declared.expr.Grouping.{Grouping as GroupingOf}
use Rattle.lf_ast.specs.declared.expr.Grouping.TheVariants as grouping_of
use Rattle.lf_ast.specs.declared.expr.Matcher.{Matcher}
use Rattle.lf_ast.specs.declared.expr.MatchOp.{MatchOp}
use Rattle.lf_ast.specs.declared.expr.Matching.{Matching as MatchingOf}
use Rattle.lf_ast.specs.declared.expr.Name.{Name as NameOf}
use Rattle.lf_ast.specs.declared.expr.Op.{Op}
use Rattle.lf_ast.specs.declared.expr.Sight.{Sight}
use Rattle.lf_lex.specs.declared.token.Sign.{Sign as SignOf}
use Rattle.lf_lex.specs.declared.token.Sign.TheVariants.{OpenParen, CloseParen, OpenBrace, CloseBrace, OpenBracket, CloseBracket, Comma, Colon, Plus, Minus, At as AtSign}
use Rattle.lf_parse.specs.declared.class.WordClass.{WordClass}
use Rattle.lf_parse.specs.declared.class.WordClass.TheVariants.{Plain, Edge, Numeric, Aggregation, Grouping, Matching, Group, Offset, Bool as BoolWord}
use Rattle.lf_parse.specs.declared.class.RangeEnd.{RangeEnd}
use Rattle.lf_parse.specs.declared.class.Clause.{Clause}
use Rattle.lf_parse.specs.declared.class.Scope.{Scope}
use Rattle.lf_parse.specs.declared.class.Side.{Side}
use Rattle.lf_parse.specs.Tokens.{Mark, Word, Metric, Num, Dur, Quoted, Sign, MarkedToken, ◌at◌, op_of}
use Rattle.lf_ast.specs.Tree.{Tree, Selector, Unary, Binary, Aggregate, Trees, Nil, with_last}
use Rattle.lf_parse.specs.Grammar.{to, up_to, name, LabelsAt, one_label, next_label, NamesAt, no_names, names, names_comma, ScopedAt, alone, group, group_names, ModifierAt, no_modifier, bool, scoped, bool_scoped, match_of, MatchersAt, one_matcher, next_matcher, BracesAt, no_matchers, matchers, matchers_comma, IsMetric, plain, edge, with_colon, SelectAt, word, word_braces, braces, blank, Mod, AtTime, ModAt, offset, offset_minus, time, time_plus, time_minus, time_edge, HasRoom, with_mod, ModsAt, no_mods, mods, no_step, step as step_dur, grouping, level, left_level, right_level, At, number, numeric, string, paren, selector, range, subquery, call, aggregate, aggregate_by, aggregate_args_by, plus, minus, binary, SomeAt, one, also, ArgsAt, no_args, args, Derives}
use Rattle.lf_parse.specs.reading.Machine.{ParserStep, More, Done, DoneBefore, Reject, Names, Opening, NextName, AfterName, names_step, Braces, NextMatcher, AfterLabel, AfterSign, AfterMatcher, compared, braces_step, Front, front, Stage, Begin, AfterBool, InLabels, AfterLabels, AfterGroup, InInclude, in_labels, in_include, stage_step, ModStage, AfterOffset, AfterOffsetMinus, AfterAt, AfterAtSign, AfterEdge, InEdge, mod_step, Callee, OfCall, OfAggregate, OfGrouped, ParserFrame, LeftOf, Signed, InParen, InArgs, Subject, OfSelector, Operand, Whole, Bare, Selected, Aggregated, Sighted, subject_tree, operand_tree, operand_end, ParserMode, ExpectOperand, First, ExpectOperator, Modifying, InBraces, InMod, AfterBracket, AfterRange, AfterColon, AfterStep, AfterAggregation, InGrouping, AfterGrouping, InGroupingBehind, ParserState, Held, state, reduce, applied, close, comma, ended, operator, joined, after, expect_operand, room, expect_operator, first, modified, in_braces, in_mod, range_of, in_grouping, in_grouping_behind, step_in, finish_in, start, accept}
use Rattle.lf_parse.proofs.Levels.{level-ge, left-le, right-le, left_cases, sign_under}

abbrev Listed : Type 0
Listed = List NameOf × Span

-- ---- lists of labels

-- the tokens ts begin with a part of a list of labels, and rest is what follows it
data NamesIn : Names → List MarkedToken → List MarkedToken → Type 0 where
  opening : {ts : List MarkedToken} → NamesIn Opening ts ts
  opened : {p : Span} {ts : List MarkedToken} → NamesIn (NextName []) ((Sign OpenParen at p) ∷ ts) ts
  in_comma : {xs : List NameOf} {p q : Span} {ts rest : List MarkedToken} → LabelsAt xs ts ((Sign Comma at q) ∷ rest) → NamesIn (NextName xs) ((Sign OpenParen at p) ∷ ts) rest
  in_name : {xs : List NameOf} {p : Span} {ts rest : List MarkedToken} → LabelsAt xs ts rest → NamesIn (AfterName xs) ((Sign OpenParen at p) ∷ ts) rest

abbrev NamesTold : ParserStep Names Listed → List MarkedToken → List MarkedToken → Type 0
NamesTold (More n) ts rest = NamesIn n ts rest
NamesTold (Done (xs, c)) ts rest = NamesAt xs c ts rest
NamesTold _ ts rest = Unit {0}

next_name_sound : {xs : List NameOf} {c : WordClass} {w : List ℕ} {p : Span} {ts rest : List MarkedToken} → NamesIn (NextName xs) ts ((Word c w at p) ∷ rest) → NamesIn (AfterName (xs ++ name w p ∷ [])) ts rest
next_name_sound opened = in_name one_label
next_name_sound (in_comma l) = in_name (next_label l)

close_name_sound : {xs : List NameOf} {p : Span} {ts rest : List MarkedToken} → NamesIn (NextName xs) ts ((Sign CloseParen at p) ∷ rest) → NamesAt xs p ts rest
close_name_sound opened = no_names
close_name_sound (in_comma l) = names_comma l

names_sound : {ts rest : List MarkedToken} (n : Names) (t : MarkedToken) → NamesIn n ts (t ∷ rest) → NamesTold (names_step n t) ts rest
names_sound Opening (Sign OpenParen at p) opening = opened
names_sound Opening (m at p) i = tt
names_sound (NextName xs) (Word c w at p) i = next_name_sound i
names_sound (NextName xs) (Sign CloseParen at p) i = close_name_sound i
names_sound (NextName xs) (m at p) i = tt
names_sound (AfterName xs) (Sign Comma at p) (in_name l) = in_comma l
names_sound (AfterName xs) (Sign CloseParen at p) (in_name l) = names l
names_sound (AfterName xs) (m at p) i = tt

-- ---- matchers

data NextIn : List Matcher → List MarkedToken → List MarkedToken → Type 0 where
  begun : {ts : List MarkedToken} → NextIn [] ts ts
  behind_comma : {xs : List Matcher} {q : Span} {ts rest : List MarkedToken} → MatchersAt xs ts ((Sign Comma at q) ∷ rest) → NextIn xs ts rest

data BracesIn : Braces → List MarkedToken → List MarkedToken → Type 0 where
  in_next : {xs : List Matcher} {ts rest : List MarkedToken} → NextIn xs ts rest → BracesIn (NextMatcher xs) ts rest
  in_label : {xs : List Matcher} {c : WordClass} {w : List ℕ} {p : Span} {ts rest : List MarkedToken} → NextIn xs ts ((Word c w at p) ∷ rest) → BracesIn (AfterLabel xs (name w p)) ts rest
  in_sign : {xs : List Matcher} {c : WordClass} {w : List ℕ} {s : SignOf} {o : MatchOp} {p q : Span} {ts rest : List MarkedToken} → match_of s ≡ Some o → NextIn xs ts ((Word c w at p) ∷ (Sign s at q) ∷ rest) → BracesIn (AfterSign xs (name w p) o) ts rest
  in_matcher : {xs : List Matcher} {ts rest : List MarkedToken} → MatchersAt xs ts rest → BracesIn (AfterMatcher xs) ts rest

abbrev BracesTold : ParserStep Braces (List Matcher × Span) → List MarkedToken → List MarkedToken → Type 0
BracesTold (More b) ts rest = BracesIn b ts rest
BracesTold (Done (xs, c)) ts rest = BracesAt xs c ts rest
BracesTold _ ts rest = Unit {0}

compared_sound : {xs : List Matcher} {n : NameOf} {s : SignOf} {p : Span} {ts rest : List MarkedToken} (r : Option MatchOp) → match_of s ≡ r → BracesIn (AfterLabel xs n) ts ((Sign s at p) ∷ rest) → BracesTold (compared xs n r) ts rest
compared_sound (Some o) h (in_label i) = in_sign h i
compared_sound None h i = tt

close_brace_sound : {xs : List Matcher} {p : Span} {ts rest : List MarkedToken} → NextIn xs ts ((Sign CloseBrace at p) ∷ rest) → BracesAt xs p ts rest
close_brace_sound begun = no_matchers
close_brace_sound (behind_comma l) = matchers_comma l

value_sound : {xs : List Matcher} {c : WordClass} {w v : List ℕ} {s : SignOf} {o : MatchOp} {p q r : Span} {ts rest : List MarkedToken} → match_of s ≡ Some o → NextIn xs ts ((Word c w at p) ∷ (Sign s at q) ∷ (Quoted v at r) ∷ rest) → BracesTold (braces_step (AfterSign xs (name w p) o) (Quoted v at r)) ts rest
value_sound h begun = in_matcher (one_matcher h)
value_sound h (behind_comma l) = in_matcher (next_matcher h l)

braces_sound : {ts rest : List MarkedToken} (b : Braces) (t : MarkedToken) → BracesIn b ts (t ∷ rest) → BracesTold (braces_step b t) ts rest
braces_sound (NextMatcher xs) (Word c w at p) (in_next i) = in_label i
braces_sound (NextMatcher xs) (Sign CloseBrace at p) (in_next i) = close_brace_sound i
braces_sound (NextMatcher xs) (m at p) i = tt
braces_sound (AfterLabel xs n) (Sign s at p) i = compared_sound (match_of s) refl i
braces_sound (AfterLabel xs n) (m at p) i = tt
braces_sound (AfterSign xs n o) (Quoted v at p) (in_sign h i) = value_sound h i
braces_sound (AfterSign xs n o) (m at p) i = tt
braces_sound (AfterMatcher xs) (Sign Comma at p) (in_matcher l) = in_next (behind_comma l)
braces_sound (AfterMatcher xs) (Sign CloseBrace at p) (in_matcher l) = matchers l
braces_sound (AfterMatcher xs) (m at p) i = tt

-- ---- the modifier of an operator

data FrontIn : Front → List MarkedToken → List MarkedToken → Type 0 where
  no_bool : {k : Scope} {w : List ℕ} {p : Span} {ts : List MarkedToken} → FrontIn (front false p k) ((Word (Matching k) w at p) ∷ ts) ts
  with_bool : {k : Scope} {w v : List ℕ} {p q : Span} {ts : List MarkedToken} → FrontIn (front true p k) ((Word BoolWord w at p) ∷ (Word (Matching k) v at q) ∷ ts) ts

modifier_at : {o : Span} {f : Front} {m : MatchingOf} {ts us rest : List MarkedToken} → FrontIn f ts us → ScopedAt f.with_bool f.first f.scope m us rest → ModifierAt o m ts rest
modifier_at no_bool d = scoped d
modifier_at with_bool d = bool_scoped d

data StageIn : Stage → List MarkedToken → List MarkedToken → Type 0 where
  begin : {ts : List MarkedToken} → StageIn Begin ts ts
  after_bool : {w : List ℕ} {p : Span} {ts : List MarkedToken} → StageIn (AfterBool p) ((Word BoolWord w at p) ∷ ts) ts
  labels_in : {f : Front} {n : Names} {ts us rest : List MarkedToken} → FrontIn f ts us → NamesIn n us rest → StageIn (InLabels f n) ts rest
  after_labels : {f : Front} {xs : List NameOf} {c : Span} {ts us rest : List MarkedToken} → FrontIn f ts us → NamesAt xs c us rest → StageIn (AfterLabels f xs c) ts rest
  after_group : {f : Front} {xs : List NameOf} {c : Span} {s : Side} {w : List ℕ} {q : Span} {ts us rest : List MarkedToken} → FrontIn f ts us → NamesAt xs c us ((Word (Group s) w at q) ∷ rest) → StageIn (AfterGroup f xs s q) ts rest
  include_in : {f : Front} {xs : List NameOf} {c : Span} {s : Side} {n : Names} {w : List ℕ} {q : Span} {ts us vs rest : List MarkedToken} → FrontIn f ts us → NamesAt xs c us ((Word (Group s) w at q) ∷ vs) → NamesIn n vs rest → StageIn (InInclude f xs s n) ts rest

abbrev StageTold : Span → ParserStep Stage MatchingOf → MarkedToken → List MarkedToken → List MarkedToken → Type 0
StageTold o (More st) t ts rest = StageIn st ts rest
StageTold o (Done m) t ts rest = ModifierAt o m ts rest
StageTold o (DoneBefore m) t ts rest = ModifierAt o m ts (t ∷ rest)
StageTold o Reject t ts rest = Unit {0}

labels_sound : {f : Front} {ts us : List MarkedToken} (o : Span) (rest : List MarkedToken) (t : MarkedToken) (r : ParserStep Names Listed) → FrontIn f ts us → NamesTold r us rest → StageTold o (in_labels f r) t ts rest
labels_sound o rest t (More n) i d = labels_in i d
labels_sound o rest t (Done (xs, c)) i d = after_labels i d
labels_sound o rest t (DoneBefore v) i d = tt
labels_sound o rest t Reject i d = tt

include_sound : {f : Front} {xs : List NameOf} {c : Span} {s : Side} {w : List ℕ} {q : Span} {ts us vs : List MarkedToken} (o : Span) (rest : List MarkedToken) (t : MarkedToken) (r : ParserStep Names Listed) → FrontIn f ts us → NamesAt xs c us ((Word (Group s) w at q) ∷ vs) → NamesTold r vs rest → StageTold o (in_include f xs s r) t ts rest
include_sound o rest t (More n) i e d = include_in i e d
include_sound o rest t (Done (ys, c)) i e d = modifier_at i (group_names e d)
include_sound o rest t (DoneBefore v) i e d = tt
include_sound o rest t Reject i e d = tt

stage_sound : {ts rest : List MarkedToken} (o : Span) (st : Stage) (t : MarkedToken) → StageIn st ts (t ∷ rest) → StageTold o (stage_step o st t) t ts rest
stage_sound o Begin (Word BoolWord w at p) begin = after_bool
stage_sound o Begin (Word (Matching k) w at p) begin = labels_in no_bool opening
stage_sound o Begin t begin = no_modifier
stage_sound o (AfterBool b) (Word (Matching k) w at p) after_bool = labels_in with_bool opening
stage_sound o (AfterBool b) t after_bool = bool
stage_sound o (InLabels f n) t (labels_in i d) = labels_sound o _ t (names_step n t) i (names_sound n t d)
stage_sound o (AfterLabels f xs c) (Word (Group s) w at p) (after_labels i d) = after_group i d
stage_sound o (AfterLabels f xs c) t (after_labels i d) = modifier_at i (alone d)
stage_sound o (AfterGroup f xs s q) (Sign OpenParen at p) (after_group i d) = include_in i d opened
stage_sound o (AfterGroup f xs s q) t (after_group i d) = modifier_at i (group d tt)
stage_sound o (InInclude f xs s n) t (include_in i e d) = include_sound o _ t (names_step n t) i e (names_sound n t d)

-- ---- offsets and times

data ModStageIn : ModStage → List MarkedToken → List MarkedToken → Type 0 where
  after_offset : {w : List ℕ} {p : Span} {ts : List MarkedToken} → ModStageIn AfterOffset ((Word Offset w at p) ∷ ts) ts
  after_offset_minus : {w : List ℕ} {p q : Span} {ts : List MarkedToken} → ModStageIn AfterOffsetMinus ((Word Offset w at p) ∷ (Sign Minus at q) ∷ ts) ts
  after_at : {p : Span} {ts : List MarkedToken} → ModStageIn AfterAt ((Sign AtSign at p) ∷ ts) ts
  after_at_plus : {p q : Span} {ts : List MarkedToken} → ModStageIn (AfterAtSign 43) ((Sign AtSign at p) ∷ (Sign Plus at q) ∷ ts) ts
  after_at_minus : {p q : Span} {ts : List MarkedToken} → ModStageIn (AfterAtSign 45) ((Sign AtSign at p) ∷ (Sign Minus at q) ∷ ts) ts
  after_edge : {e : RangeEnd} {w : List ℕ} {p q : Span} {ts : List MarkedToken} → ModStageIn (AfterEdge e) ((Sign AtSign at p) ∷ (Word (Edge e) w at q) ∷ ts) ts
  in_edge : {e : RangeEnd} {w : List ℕ} {p q o : Span} {ts : List MarkedToken} → ModStageIn (InEdge e) ((Sign AtSign at p) ∷ (Word (Edge e) w at q) ∷ (Sign OpenParen at o) ∷ ts) ts

abbrev RoomFor : Sight → ModStage → Type 0
RoomFor s AfterOffset = s.offset ≡ None
RoomFor s AfterOffsetMinus = s.offset ≡ None
RoomFor s AfterAt = s.at ≡ None
RoomFor s (AfterAtSign b) = s.at ≡ None
RoomFor s (AfterEdge e) = s.at ≡ None
RoomFor s (InEdge e) = s.at ≡ None

abbrev ModStageTold : Sight → ParserStep ModStage (Mod × ℕ) → List MarkedToken → List MarkedToken → Type 0
ModStageTold s (More stage) ts rest = RoomFor s stage × ModStageIn stage ts rest
ModStageTold s (Done (m, n)) ts rest = HasRoom s m × ModAt m n ts rest
ModStageTold s _ ts rest = Unit {0}

signed_sound : (s : Sight) {b : ℕ} {x : List ℕ} {p : Span} {ts rest : List MarkedToken} → s.at ≡ None → ModStageIn (AfterAtSign b) ts ((Num x at p) ∷ rest) → ModStageTold s (Done (AtTime (b ∷ x), p.end)) ts rest
signed_sound s h after_at_plus = (h, time_plus)
signed_sound s h after_at_minus = (h, time_minus)

mod_sound : {ts rest : List MarkedToken} (s : Sight) (stage : ModStage) (t : MarkedToken) → RoomFor s stage → ModStageIn stage ts (t ∷ rest) → ModStageTold s (mod_step stage t) ts rest
mod_sound s AfterOffset (Dur d at p) h after_offset = (h, offset)
mod_sound s AfterOffset (Sign Minus at p) h after_offset = (h, after_offset_minus)
mod_sound s AfterOffset (m at p) h i = tt
mod_sound s AfterOffsetMinus (Dur d at p) h after_offset_minus = (h, offset_minus)
mod_sound s AfterOffsetMinus (m at p) h i = tt
mod_sound s AfterAt (Num x at p) h after_at = (h, time)
mod_sound s AfterAt (Sign Plus at p) h after_at = (h, after_at_plus)
mod_sound s AfterAt (Sign Minus at p) h after_at = (h, after_at_minus)
mod_sound s AfterAt (Word (Edge e) w at p) h after_at = (h, after_edge)
mod_sound s AfterAt (m at p) h i = tt
mod_sound s (AfterAtSign b) (Num x at p) h i = signed_sound s h i
mod_sound s (AfterAtSign b) (m at p) h i = tt
mod_sound s (AfterEdge e) (Sign OpenParen at p) h after_edge = (h, in_edge)
mod_sound s (AfterEdge e) (m at p) h i = tt
mod_sound s (InEdge e) (Sign CloseParen at p) h in_edge = (h, time_edge)
mod_sound s (InEdge e) (m at p) h i = tt

-- ---- what was begun

-- what arguments belong to
data CalleeIn : Callee → List MarkedToken → List MarkedToken → Type 0 where
  of_call : {w : List ℕ} {m : Mark} {p : Span} {ts : List MarkedToken} → IsMetric w m → CalleeIn (OfCall w p) ((m at p) ∷ ts) ts
  of_aggregate : {a : Agg} {w : List ℕ} {p : Span} {ts : List MarkedToken} → CalleeIn (OfAggregate a p) ((Word (Aggregation a) w at p) ∷ ts) ts
  of_grouped : {a : Agg} {k : Clause} {w v : List ℕ} {ys : List NameOf} {p q d : Span} {ts rest : List MarkedToken} → NamesAt ys d ts rest → CalleeIn (OfGrouped a (grouping k ys) p) ((Word (Aggregation a) w at p) ∷ (Word (Grouping k) v at q) ∷ ts) rest

-- the level of the operand that comes on these frames
abbrev need : List ParserFrame → ℕ
need [] = 1
need (LeftOf o p m a ∷ fs) = right_level o
need (Signed neg p ∷ fs) = 6
need (InParen p ∷ fs) = 1
need (InArgs h xs ∷ fs) = 1

need-le : (fs : List ParserFrame) → need fs ≤ 6
need-le [] = omega arith
need-le (LeftOf o p m a ∷ fs) = right-le o
need-le (Signed neg p ∷ fs) = omega arith
need-le (InParen p ∷ fs) = omega arith
need-le (InArgs h xs ∷ fs) = omega arith

-- expressions, each with a comma after it
data Before : Trees → List MarkedToken → List MarkedToken → Type 0 where
  nothing : {ts : List MarkedToken} → Before Nil ts ts
  some : {xs : Trees} {p : Span} {ts us : List MarkedToken} → SomeAt xs ts ((Sign Comma at p) ∷ us) → Before xs ts us

last_arg : {xs : Trees} {e : Tree} {n : ℕ} {ts us rest : List MarkedToken} → Before xs ts us → At 1 e n us rest → SomeAt (with_last xs e) ts rest
last_arg nothing d = one d
last_arg (some s) d = also s d

-- the tokens ts begin with what the frames say, and rest is what follows it
data Opens : List ParserFrame → List MarkedToken → List MarkedToken → Type 0 where
  none : {ts : List MarkedToken} → Opens [] ts ts
  left : {fs : List ParserFrame} {o : Op} {m : Mark} {x : MatchingOf} {a : Tree} {k : ℕ} {p : Span} {ts us vs ws : List MarkedToken} → need fs ≤ level o → op_of m ≡ Some o → Opens fs ts us → At (left_level o) a k us ((m at p) ∷ vs) → ModifierAt p x vs ws → Opens (LeftOf o p x a ∷ fs) ts ws
  sign_plus : {fs : List ParserFrame} {p : Span} {ts us : List MarkedToken} → Opens fs ts ((Sign Plus at p) ∷ us) → Opens (Signed false p ∷ fs) ts us
  sign_minus : {fs : List ParserFrame} {p : Span} {ts us : List MarkedToken} → Opens fs ts ((Sign Minus at p) ∷ us) → Opens (Signed true p ∷ fs) ts us
  in_paren : {fs : List ParserFrame} {p : Span} {ts us : List MarkedToken} → Opens fs ts ((Sign OpenParen at p) ∷ us) → Opens (InParen p ∷ fs) ts us
  in_args : {fs : List ParserFrame} {h : Callee} {xs : Trees} {o : Span} {ts us vs ws : List MarkedToken} → Opens fs ts us → CalleeIn h us ((Sign OpenParen at o) ∷ vs) → Before xs vs ws → Opens (InArgs h xs ∷ fs) ts ws

-- an expression of a level is one of each lower level
lower : {l m n : ℕ} {e : Tree} {ts rest : List MarkedToken} → l ≤ m → At m e n ts rest → At l e n ts rest
lower h number = number
lower h numeric = numeric
lower h string = string
lower h (paren d) = paren d
lower h (selector s m) = selector s m
lower h (range s m) = range s m
lower h (subquery d k m) = subquery d k m
lower h (call i a) = call i a
lower h (aggregate a) = aggregate a
lower h (aggregate_by b a) = aggregate_by b a
lower h (aggregate_args_by a b) = aggregate_args_by a b
lower h (plus k d) = plus (omega arith) d
lower h (minus k d) = minus (omega arith) d
lower h (binary k i p m q) = binary (omega arith) i p m q

-- no operator on top is of level l or above
abbrev Under : ℕ → List ParserFrame → Type 0
Under l [] = Unit {0}
Under l (LeftOf o p m a ∷ fs) = level o < l
Under l (Signed neg p ∷ fs) = 6 < l
Under l (InParen p ∷ fs) = Unit {0}
Under l (InArgs h xs ∷ fs) = Unit {0}

record Holds (l n : ℕ) (h : Held) (ts rest : List MarkedToken) : Type 0 where
  between : List MarkedToken
  opens : Opens h.frames ts between
  tree : At l h.tree n between rest
  under : Under l h.frames

reduce_holds : {fs : List ParserFrame} {ts us : List MarkedToken} → Opens fs ts us → (l m n : ℕ) (e : Tree) (rest : List MarkedToken) → At m e n us rest → l ≤ m → need fs ≤ m → Holds l n (reduce l n fs e) ts rest
reduce_holds (none {ts = ts}) l m n e rest d h k = record { between = ts; opens = none; tree = lower h d; under = tt }
reduce_holds (left {fs = fs} {o = o} {x = x} {a = a} {p = sp} {ts = ts} {ws = ws} b i p q y) l m n e rest d h k =
    let w : ((_ ≡ _) × (l ≤ level o)) ⊎ ((_ ≡ _) × (level o < l)) = leb_tells l (level o) in
    elim w [
      | inl z ↦ rw (z.0) (reduce_holds p l (level o) n (Binary o x a e sp) rest (binary (omega arith) i q y (lower k d)) z.1 b)
      | inr z ↦ rw (z.0) (record { between = ws; opens = left b i p q y; tree = lower h d; under = z.1 })
    ]
reduce_holds (sign_plus {fs = fs} {p = sp} {us = us} p) l m n e rest d h k =
    let w : ((_ ≡ _) × (l ≤ 6)) ⊎ ((_ ≡ _) × (6 < l)) = leb_tells l 6 in
    elim w [
      | inl y ↦ rw (y.0) (reduce_holds p l 6 n (Unary false e (up_to sp n)) rest (plus (omega arith) (lower k d)) y.1 (need-le fs))
      | inr z ↦ rw (z.0) (record { between = us; opens = sign_plus p; tree = lower h d; under = z.1 })
    ]
reduce_holds (sign_minus {fs = fs} {p = sp} {us = us} p) l m n e rest d h k =
    let w : ((_ ≡ _) × (l ≤ 6)) ⊎ ((_ ≡ _) × (6 < l)) = leb_tells l 6 in
    elim w [
      | inl y ↦ rw (y.0) (reduce_holds p l 6 n (Unary true e (up_to sp n)) rest (minus (omega arith) (lower k d)) y.1 (need-le fs))
      | inr z ↦ rw (z.0) (record { between = us; opens = sign_minus p; tree = lower h d; under = z.1 })
    ]
reduce_holds (in_paren {us = us} p) l m n e rest d h k = record { between = us; opens = in_paren p; tree = lower h d; under = tt }
reduce_holds (in_args {ws = ws} p i b) l m n e rest d h k = record { between = ws; opens = in_args p i b; tree = lower h d; under = tt }

need_under : (o : Op) (fs : List ParserFrame) → Under (left_level o) fs → need fs ≤ level o
need_under o [] h = level-ge o
need_under o (LeftOf q p m a ∷ fs) h = left_cases o q h
need_under o (Signed neg p ∷ fs) h = sign_under o h
need_under o (InParen p ∷ fs) h = level-ge o
need_under o (InArgs i xs ∷ fs) h = level-ge o

-- ---- operands

-- an operand: whatever modifiers still come make a Post of it
data OperandIn : Operand → List MarkedToken → List MarkedToken → Type 0 where
  is_whole : {e : Tree} {n : ℕ} {ts rest : List MarkedToken} → At 7 e n ts rest → OperandIn (Whole e n) ts rest
  is_bare : {w : List ℕ} {m : Mark} {p : Span} {ts : List MarkedToken} → IsMetric w m → OperandIn (Bare w p) ((m at p) ∷ ts) ts
  is_selected : {nm : Option (List ℕ)} {ms : List Matcher} {p : Span} {ts rest : List MarkedToken} → SelectAt nm ms p ts rest → OperandIn (Selected nm ms p) ts rest
  is_aggregated : {a : Agg} {w : List ℕ} {xs : Trees} {p c : Span} {ts rest : List MarkedToken} → ArgsAt xs c ts rest → OperandIn (Aggregated a xs p c.end) ((Word (Aggregation a) w at p) ∷ ts) rest
  is_sighted : {x : Subject} {s : Sight} {p : Span} {n : ℕ} {ts rest : List MarkedToken} → ((r : Sight) (m : ℕ) (more : List MarkedToken) → ModsAt s r n m rest more → At 7 (subject_tree x r p) m ts more) → OperandIn (Sighted x s p n) ts rest

operand_at : {x : Operand} {ts rest : List MarkedToken} → OperandIn x ts rest → At 7 (operand_tree x) (operand_end x) ts rest
operand_at (is_whole d) = d
operand_at (is_bare i) = selector (word i) no_mods
operand_at (is_selected s) = selector s no_mods
operand_at (is_aggregated a) = aggregate a
operand_at (is_sighted {s = s} {n = n} {rest = rest} f) = f s n rest no_mods

applied_in : {h : Callee} {xs : Trees} {c : Span} {ts us rest : List MarkedToken} → CalleeIn h ts us → ArgsAt xs c us rest → OperandIn (applied h xs c) ts rest
applied_in (of_call i) a = is_whole (call i a)
applied_in of_aggregate a = is_aggregated a
applied_in (of_grouped b) a = is_whole (aggregate_by b a)

-- a selector whose braces are open
data SelectIn : Option (List ℕ) → Span → List MarkedToken → List MarkedToken → Type 0 where
  of_word : {w : List ℕ} {m : Mark} {p o : Span} {ts : List MarkedToken} → IsMetric w m → SelectIn (Some w) p ((m at p) ∷ (Sign OpenBrace at o) ∷ ts) ts
  of_none : {o : Span} {ts : List MarkedToken} → SelectIn None o ((Sign OpenBrace at o) ∷ ts) ts

select_at : {nm : Option (List ℕ)} {ms : List Matcher} {p c : Span} {ts us rest : List MarkedToken} → SelectIn nm p ts us → BracesAt ms c us rest → SelectAt nm ms (to p c) ts rest
select_at (of_word i) b = word_braces i b
select_at of_none b = braces b

-- ---- the modes

-- what the tokens before rest are, in each mode
data Stands : List ParserFrame → ParserMode → List MarkedToken → List MarkedToken → Type 0 where
  s_operand : {fs : List ParserFrame} {ts rest : List MarkedToken} → Opens fs ts rest → Stands fs ExpectOperand ts rest
  s_first : {fs : List ParserFrame} {h : Callee} {o : Span} {ts us rest : List MarkedToken} → Opens fs ts us → CalleeIn h us ((Sign OpenParen at o) ∷ rest) → Stands fs (First h) ts rest
  s_operator : {fs : List ParserFrame} {x : Operand} {ts us rest : List MarkedToken} → Opens fs ts us → OperandIn x us rest → Stands fs (ExpectOperator x) ts rest
  s_modifying : {fs : List ParserFrame} {o : Op} {m : Mark} {a : Tree} {k : ℕ} {st : Stage} {p : Span} {ts us vs rest : List MarkedToken} → need fs ≤ level o → op_of m ≡ Some o → Opens fs ts us → At (left_level o) a k us ((m at p) ∷ vs) → StageIn st vs rest → Stands fs (Modifying o p a st) ts rest
  s_braces : {fs : List ParserFrame} {nm : Option (List ℕ)} {p : Span} {b : Braces} {ts us vs rest : List MarkedToken} → Opens fs ts us → SelectIn nm p us vs → BracesIn b vs rest → Stands fs (InBraces nm p b) ts rest
  s_mod : {fs : List ParserFrame} {x : Subject} {s : Sight} {p : Span} {n : ℕ} {stage : ModStage} {ts us vs rest : List MarkedToken} → Opens fs ts us → OperandIn (Sighted x s p n) us vs → RoomFor s stage → ModStageIn stage vs rest → Stands fs (InMod x s p stage) ts rest
  s_bracket : {fs : List ParserFrame} {x : Operand} {o : Span} {ts us rest : List MarkedToken} → Opens fs ts us → OperandIn x us ((Sign OpenBracket at o) ∷ rest) → Stands fs (AfterBracket x) ts rest
  s_range : {fs : List ParserFrame} {x : Operand} {d : List ℕ} {o q : Span} {ts us rest : List MarkedToken} → Opens fs ts us → OperandIn x us ((Sign OpenBracket at o) ∷ (Dur d at q) ∷ rest) → Stands fs (AfterRange x d q) ts rest
  s_colon : {fs : List ParserFrame} {e : Tree} {n : ℕ} {d : List ℕ} {o q c : Span} {ts us rest : List MarkedToken} → Opens fs ts us → At 7 e n us ((Sign OpenBracket at o) ∷ (Dur d at q) ∷ (Sign Colon at c) ∷ rest) → Stands fs (AfterColon e d q) ts rest
  s_step : {fs : List ParserFrame} {e : Tree} {n : ℕ} {d x : List ℕ} {o q c p : Span} {ts us rest : List MarkedToken} → Opens fs ts us → At 7 e n us ((Sign OpenBracket at o) ∷ (Dur d at q) ∷ (Sign Colon at c) ∷ (Dur x at p) ∷ rest) → Stands fs (AfterStep e d q x) ts rest
  s_aggregation : {fs : List ParserFrame} {a : Agg} {w : List ℕ} {p : Span} {ts rest : List MarkedToken} → Opens fs ts ((Word (Aggregation a) w at p) ∷ rest) → Stands fs (AfterAggregation a p) ts rest
  s_grouping : {fs : List ParserFrame} {a : Agg} {k : Clause} {n : Names} {w v : List ℕ} {p q : Span} {ts us rest : List MarkedToken} → Opens fs ts ((Word (Aggregation a) w at p) ∷ (Word (Grouping k) v at q) ∷ us) → NamesIn n us rest → Stands fs (InGrouping a p k n) ts rest
  s_grouped : {fs : List ParserFrame} {a : Agg} {g : GroupingOf} {p : Span} {ts us rest : List MarkedToken} → Opens fs ts us → CalleeIn (OfGrouped a g p) us rest → Stands fs (AfterGrouping a p g) ts rest
  s_behind : {fs : List ParserFrame} {a : Agg} {xs : Trees} {k : Clause} {n : Names} {w v : List ℕ} {p c q : Span} {ts us vs rest : List MarkedToken} → Opens fs ts ((Word (Aggregation a) w at p) ∷ us) → ArgsAt xs c us ((Word (Grouping k) v at q) ∷ vs) → NamesIn n vs rest → Stands fs (InGroupingBehind a p xs k n) ts rest

go_on : {A B : Type 0} (P : A → Type 0) (Q : B → Type 0) (f : A → Option B) (x : Option A) → IfSome x P → ((a : A) → P a → IfSome (f a) Q) → IfSome (option_and_then f x) Q
go_on P Q f None h g = tt
go_on P Q f (Some a) h g = g a h

module _ (ts rest : List MarkedToken) where
  abbrev Then_stands : ParserState → Type 0
  Then_stands s = Stands s.frames s.mode ts rest

  operator_sound : (o : Op) (m : Mark) (i : op_of m ≡ Some o) (n : ℕ) (p : Span) (h : Held) → Holds (left_level o) n h ts ((m at p) ∷ rest) → IfSome (operator o p h) Then_stands
  operator_sound o m i n p h y = s_modifying (need_under o h.frames y.under) i y.opens y.tree begin

  close_sound : (c : Span) (gs : List ParserFrame) (e : Tree) (n : ℕ) (between : List MarkedToken) → Opens gs ts between → At 1 e n between ((Sign CloseParen at c) ∷ rest) → IfSome (close c gs e) Then_stands
  close_sound c [] e n between o d = tt
  close_sound c (LeftOf q p m a ∷ gs) e n between o d = tt
  close_sound c (Signed neg p ∷ gs) e n between o d = tt
  close_sound c (InParen p ∷ gs) e n between (in_paren o) d = s_operator o (is_whole (paren d))
  close_sound c (InArgs h xs ∷ gs) e n between (in_args o i b) d = s_operator o (applied_in i (args (last_arg b d)))

  comma_sound : (c : Span) (gs : List ParserFrame) (e : Tree) (n : ℕ) (between : List MarkedToken) → Opens gs ts between → At 1 e n between ((Sign Comma at c) ∷ rest) → IfSome (comma gs e) Then_stands
  comma_sound c [] e n between o d = tt
  comma_sound c (LeftOf q p m a ∷ gs) e n between o d = tt
  comma_sound c (Signed neg p ∷ gs) e n between o d = tt
  comma_sound c (InParen p ∷ gs) e n between o d = tt
  comma_sound c (InArgs h xs ∷ gs) e n between (in_args o i b) d = s_operand (in_args o i (some (last_arg b d)))

  joined_sound : {us : List MarkedToken} (fs : List ParserFrame) (e : Tree) (n : ℕ) (m : Mark) (p : Span) (r : Option Op) → op_of m ≡ r → Opens fs ts us → At 7 e n us ((m at p) ∷ rest) → IfSome (joined fs e n p r) Then_stands
  joined_sound fs e n m p None i o d = tt
  joined_sound fs e n m p (Some q) i o d = operator_sound q m i n p (reduce (left_level q) n fs e) (reduce_holds o (left_level q) 7 n e ((m at p) ∷ rest) d (left-le q) (omega (arith, need-le fs)))

  after_sound : {us : List MarkedToken} (fs : List ParserFrame) (e : Tree) (n : ℕ) (t : MarkedToken) → Opens fs ts us → At 7 e n us (t ∷ rest) → IfSome (after fs e n t) Then_stands
  after_sound fs e n (Sign CloseParen at p) o d = let y = reduce_holds o 1 7 n e ((Sign CloseParen at p) ∷ rest) d (omega arith) (omega (arith, need-le fs)) in close_sound p (reduce 1 n fs e).frames (reduce 1 n fs e).tree n y.between y.opens y.tree
  after_sound fs e n (Sign Comma at p) o d = let y = reduce_holds o 1 7 n e ((Sign Comma at p) ∷ rest) d (omega arith) (omega (arith, need-le fs)) in comma_sound p (reduce 1 n fs e).frames (reduce 1 n fs e).tree n y.between y.opens y.tree
  after_sound fs e n (m at p) o d = joined_sound fs e n m p (op_of m) refl o d

  operand_sound : (fs : List ParserFrame) (t : MarkedToken) → Opens fs ts (t ∷ rest) → IfSome (expect_operand fs t) Then_stands
  operand_sound fs (Num x at p) o = s_operator o (is_whole number)
  operand_sound fs (Word Numeric w at p) o = s_operator o (is_whole numeric)
  operand_sound fs (Quoted x at p) o = s_operator o (is_whole string)
  operand_sound fs (Word Plain w at p) o = s_operator o (is_bare plain)
  operand_sound fs (Word (Edge e) w at p) o = s_operator o (is_bare edge)
  operand_sound fs (Metric w at p) o = s_operator o (is_bare with_colon)
  operand_sound fs (Word (Aggregation a) w at p) o = s_aggregation o
  operand_sound fs (Sign OpenBrace at p) o = s_braces o of_none (in_next begun)
  operand_sound fs (Sign OpenParen at p) o = s_operand (in_paren o)
  operand_sound fs (Sign Plus at p) o = s_operand (sign_plus o)
  operand_sound fs (Sign Minus at p) o = s_operand (sign_minus o)
  operand_sound fs _ o = tt

  room_sound : {A : Type 0} (y z : Option A) (s : ParserState) → y ≡ z → (y ≡ None → Then_stands s) → IfSome (room z s) Then_stands
  room_sound y None s h f = f h
  room_sound y (Some a) s h f = tt

  -- a selector alone, as one that is looked at
  bare_sighted : {w : List ℕ} {p : Span} {us vs : List MarkedToken} → OperandIn (Bare w p) us vs → OperandIn (Sighted (OfSelector (Some w) []) (blank p) p p.end) us vs
  bare_sighted (is_bare i) = is_sighted (λ r m more y. selector (word i) y)

  selected_sighted : {nm : Option (List ℕ)} {ms : List Matcher} {p : Span} {us vs : List MarkedToken} → OperandIn (Selected nm ms p) us vs → OperandIn (Sighted (OfSelector nm ms) (blank p) p p.end) us vs
  selected_sighted (is_selected s) = is_sighted (λ r m more y. selector s y)

  operator_step_sound : {us : List MarkedToken} (fs : List ParserFrame) (x : Operand) (t : MarkedToken) → Opens fs ts us → OperandIn x us (t ∷ rest) → IfSome (expect_operator fs x t) Then_stands
  operator_step_sound fs (Whole e n) (Sign OpenBracket at q) o d = s_bracket o d
  -- (named, so that the classes of words are told apart below)
  operator_step_sound fs (Whole e n) (Word Offset v at q) o d = after_sound fs e n (Word Offset v at q) o (operand_at d)
  operator_step_sound fs (Whole e n) t o d = after_sound fs e n t o (operand_at d)
  operator_step_sound fs (Bare w p) (Sign OpenBracket at q) o d = s_bracket o d
  operator_step_sound fs (Bare w p) (Sign OpenParen at q) o (is_bare i) = s_first o (of_call i)
  operator_step_sound fs (Bare w p) (Sign OpenBrace at q) o (is_bare i) = s_braces o (of_word i) (in_next begun)
  operator_step_sound fs (Bare w p) (Word Offset v at q) o d = s_mod o (bare_sighted d) refl after_offset
  operator_step_sound fs (Bare w p) (Sign AtSign at q) o d = s_mod o (bare_sighted d) refl after_at
  operator_step_sound fs (Bare w p) t o d = after_sound fs (Selector (Some w) [] (blank p) p) p.end t o (operand_at d)
  operator_step_sound fs (Selected nm ms p) (Sign OpenBracket at q) o d = s_bracket o d
  operator_step_sound fs (Selected nm ms p) (Word Offset v at q) o d = s_mod o (selected_sighted d) refl after_offset
  operator_step_sound fs (Selected nm ms p) (Sign AtSign at q) o d = s_mod o (selected_sighted d) refl after_at
  operator_step_sound fs (Selected nm ms p) t o d = after_sound fs (Selector nm ms (blank p) p) p.end t o (operand_at d)
  operator_step_sound fs (Aggregated a xs p n) (Sign OpenBracket at q) o d = s_bracket o d
  operator_step_sound fs (Aggregated a xs p n) (Word (Grouping k) v at q) o (is_aggregated y) = s_behind o y opening
  operator_step_sound fs (Aggregated a xs p n) t o d = after_sound fs (Aggregate a grouping_of.None xs p) n t o (operand_at d)
  operator_step_sound fs (Sighted x s p n) (Sign OpenBracket at q) o d = s_bracket o d
  operator_step_sound fs (Sighted x s p n) (Word Offset v at q) o d = room_sound s.offset s.offset (state fs (InMod x s p AfterOffset)) refl (λ h. s_mod o d h after_offset)
  operator_step_sound fs (Sighted x s p n) (Sign AtSign at q) o d = room_sound s.at s.at (state fs (InMod x s p AfterAt)) refl (λ h. s_mod o d h after_at)
  operator_step_sound fs (Sighted x s p n) t o d = after_sound fs (subject_tree x s p) n t o (operand_at d)

  first_sound : {o : Span} {us : List MarkedToken} (fs : List ParserFrame) (h : Callee) (t : MarkedToken) → Opens fs ts us → CalleeIn h us ((Sign OpenParen at o) ∷ t ∷ rest) → IfSome (first fs h t) Then_stands
  first_sound fs h (Sign CloseParen at c) o i = s_operator o (applied_in i no_args)
  first_sound fs h t o i = operand_sound (InArgs h Nil ∷ fs) t (in_args o i nothing)

  modified_sound : {us vs : List MarkedToken} {k : ℕ} (fs : List ParserFrame) (o : Op) (m : Mark) (p : Span) (a : Tree) (t : MarkedToken) (r : ParserStep Stage MatchingOf) → need fs ≤ level o → op_of m ≡ Some o → Opens fs ts us → At (left_level o) a k us ((m at p) ∷ vs) → StageTold p r t vs rest → IfSome (modified fs o p a t r) Then_stands
  modified_sound fs o m p a t (More st) b i y d k = s_modifying b i y d k
  modified_sound fs o m p a t (Done x) b i y d k = s_operand (left b i y d k)
  modified_sound fs o m p a t (DoneBefore x) b i y d k = operand_sound (LeftOf o p x a ∷ fs) t (left b i y d k)
  modified_sound fs o m p a t Reject b i y d k = tt

  in_braces_sound : {us vs : List MarkedToken} (fs : List ParserFrame) (nm : Option (List ℕ)) (p : Span) (r : ParserStep Braces (List Matcher × Span)) → Opens fs ts us → SelectIn nm p us vs → BracesTold r vs rest → IfSome (in_braces fs nm p r) Then_stands
  in_braces_sound fs nm p (More b) o i d = s_braces o i d
  in_braces_sound fs nm p (Done (ms, c)) o i d = s_operator o (is_selected (select_at i d))
  in_braces_sound fs nm p (DoneBefore v) o i d = tt
  in_braces_sound fs nm p Reject o i d = tt

  -- one more modifier
  more_mod : {x : Subject} {s : Sight} {p : Span} {n k : ℕ} {m : Mod} {us vs : List MarkedToken} → OperandIn (Sighted x s p n) us vs → HasRoom s m → ModAt m k vs rest → OperandIn (Sighted x (with_mod s m) p k) us rest
  more_mod (is_sighted f) h d = is_sighted (λ r m more y. f r m more (mods h d y))

  in_mod_sound : {us vs : List MarkedToken} {n : ℕ} (fs : List ParserFrame) (x : Subject) (s : Sight) (p : Span) (r : ParserStep ModStage (Mod × ℕ)) → Opens fs ts us → OperandIn (Sighted x s p n) us vs → ModStageTold s r vs rest → IfSome (in_mod fs x s p r) Then_stands
  in_mod_sound fs x s p (More stage) o i d = s_mod o i d.0 d.1
  in_mod_sound fs x s p (Done (m, k)) o i d = s_operator o (more_mod i d.0 d.1)
  in_mod_sound fs x s p (DoneBefore v) o i d = tt
  in_mod_sound fs x s p Reject o i d = tt

  range_sound : {us : List MarkedToken} {o q : Span} (fs : List ParserFrame) (x : Operand) (d : List ℕ) (c : Span) → Opens fs ts us → OperandIn x us ((Sign OpenBracket at o) ∷ (Dur d at q) ∷ (Sign CloseBracket at c) ∷ rest) → IfSome (range_of fs x d q c) Then_stands
  range_sound fs (Bare w p) d c o (is_bare i) = s_operator o (is_sighted (λ r m more y. range (word i) y))
  range_sound fs (Selected nm ms p) d c o (is_selected s) = s_operator o (is_sighted (λ r m more y. range s y))
  range_sound fs (Whole e n) d c o i = tt
  range_sound fs (Aggregated a xs p n) d c o i = tt
  range_sound fs (Sighted x s p n) d c o i = tt

  in_grouping_sound : {us : List MarkedToken} {w v : List ℕ} {q : Span} (fs : List ParserFrame) (a : Agg) (p : Span) (k : Clause) (r : ParserStep Names Listed) → Opens fs ts ((Word (Aggregation a) w at p) ∷ (Word (Grouping k) v at q) ∷ us) → NamesTold r us rest → IfSome (in_grouping fs a p k r) Then_stands
  in_grouping_sound fs a p k (More n) o d = s_grouping o d
  in_grouping_sound fs a p k (Done (xs, c)) o d = s_grouped o (of_grouped d)
  in_grouping_sound fs a p k (DoneBefore y) o d = tt
  in_grouping_sound fs a p k Reject o d = tt

  behind_sound : {us vs : List MarkedToken} {w v : List ℕ} {c q : Span} (fs : List ParserFrame) (a : Agg) (p : Span) (xs : Trees) (k : Clause) (r : ParserStep Names Listed) → Opens fs ts ((Word (Aggregation a) w at p) ∷ us) → ArgsAt xs c us ((Word (Grouping k) v at q) ∷ vs) → NamesTold r vs rest → IfSome (in_grouping_behind fs a p xs k r) Then_stands
  behind_sound fs a p xs k (More n) o y d = s_behind o y d
  behind_sound fs a p xs k (Done (ys, c)) o y d = s_operator o (is_whole (aggregate_args_by y d))
  behind_sound fs a p xs k (DoneBefore z) o y d = tt
  behind_sound fs a p xs k Reject o y d = tt

  bracket_sound : (fs : List ParserFrame) (x : Operand) (t : MarkedToken) → Stands fs (AfterBracket x) ts (t ∷ rest) → IfSome (step_in fs (AfterBracket x) t) Then_stands
  bracket_sound fs x (Dur d at q) (s_bracket o i) = s_range o i
  bracket_sound fs x _ i = tt

  range_step_sound : (fs : List ParserFrame) (x : Operand) (d : List ℕ) (q : Span) (t : MarkedToken) → Stands fs (AfterRange x d q) ts (t ∷ rest) → IfSome (step_in fs (AfterRange x d q) t) Then_stands
  range_step_sound fs x d q (Sign CloseBracket at c) (s_range o i) = range_sound fs x d c o i
  range_step_sound fs x d q (Sign Colon at c) (s_range o i) = s_colon o (operand_at i)
  range_step_sound fs x d q _ i = tt

  colon_sound : (fs : List ParserFrame) (e : Tree) (d : List ℕ) (q : Span) (t : MarkedToken) → Stands fs (AfterColon e d q) ts (t ∷ rest) → IfSome (step_in fs (AfterColon e d q) t) Then_stands
  colon_sound fs e d q (Dur x at p) (s_colon o i) = s_step o i
  colon_sound fs e d q (Sign CloseBracket at c) (s_colon o i) = s_operator o (is_sighted (λ r m more y. subquery i no_step y))
  colon_sound fs e d q _ i = tt

  step_step_sound : (fs : List ParserFrame) (e : Tree) (d : List ℕ) (q : Span) (x : List ℕ) (t : MarkedToken) → Stands fs (AfterStep e d q x) ts (t ∷ rest) → IfSome (step_in fs (AfterStep e d q x) t) Then_stands
  step_step_sound fs e d q x (Sign CloseBracket at c) (s_step o i) = s_operator o (is_sighted (λ r m more y. subquery i step_dur y))
  step_step_sound fs e d q x _ i = tt

  aggregation_sound : (fs : List ParserFrame) (a : Agg) (p : Span) (t : MarkedToken) → Stands fs (AfterAggregation a p) ts (t ∷ rest) → IfSome (step_in fs (AfterAggregation a p) t) Then_stands
  aggregation_sound fs a p (Sign OpenParen at o) (s_aggregation i) = s_first i of_aggregate
  aggregation_sound fs a p (Word (Grouping k) w at q) (s_aggregation i) = s_grouping i opening
  aggregation_sound fs a p _ i = tt

  grouped_sound : (fs : List ParserFrame) (a : Agg) (p : Span) (g : GroupingOf) (t : MarkedToken) → Stands fs (AfterGrouping a p g) ts (t ∷ rest) → IfSome (step_in fs (AfterGrouping a p g) t) Then_stands
  grouped_sound fs a p g (Sign OpenParen at o) (s_grouped i h) = s_first i h
  grouped_sound fs a p g _ i = tt

  step_sound : (fs : List ParserFrame) (m : ParserMode) (t : MarkedToken) → Stands fs m ts (t ∷ rest) → IfSome (step_in fs m t) Then_stands
  step_sound fs ExpectOperand t (s_operand o) = operand_sound fs t o
  step_sound fs (First h) t (s_first o i) = first_sound fs h t o i
  step_sound fs (ExpectOperator x) t (s_operator o d) = operator_step_sound fs x t o d
  step_sound fs (Modifying o p a st) t (s_modifying {m = m} b i y d k) = modified_sound fs o m p a t (stage_step p st t) b i y d (stage_sound p st t k)
  step_sound fs (InBraces nm p b) t (s_braces o i d) = in_braces_sound fs nm p (braces_step b t) o i (braces_sound b t d)
  step_sound fs (InMod x s p stage) t (s_mod o i h d) = in_mod_sound fs x s p (mod_step stage t) o i (mod_sound s stage t h d)
  step_sound fs (AfterBracket x) t i = bracket_sound fs x t i
  step_sound fs (AfterRange x d q) t i = range_step_sound fs x d q t i
  step_sound fs (AfterColon e d q) t i = colon_sound fs e d q t i
  step_sound fs (AfterStep e d q x) t i = step_step_sound fs e d q x t i
  step_sound fs (AfterAggregation a p) t i = aggregation_sound fs a p t i
  step_sound fs (InGrouping a p k n) t (s_grouping o d) = in_grouping_sound fs a p k (names_step n t) o (names_sound n t d)
  step_sound fs (AfterGrouping a p g) t i = grouped_sound fs a p g t i
  step_sound fs (InGroupingBehind a p xs k n) t (s_behind o y d) = behind_sound fs a p xs k (names_step n t) o y (names_sound n t d)

-- ---- the whole

ended_sound : (gs : List ParserFrame) (e : Tree) (n : ℕ) (ts between : List MarkedToken) → Opens gs ts between → At 1 e n between [] → IfSome (ended gs e) (Derives ts)
ended_sound [] e n ts between none d = (n, d)
ended_sound (f ∷ gs) e n ts between o d = tt

finish_sound : (fs : List ParserFrame) (m : ParserMode) (ts : List MarkedToken) → Stands fs m ts [] → IfSome (finish_in fs m) (Derives ts)
finish_sound fs (ExpectOperator x) ts (s_operator o d) =
    let y = reduce_holds o 1 7 (operand_end x) (operand_tree x) [] (operand_at d) (omega arith) (omega (arith, need-le fs)) in
    ended_sound (reduce 1 (operand_end x) fs (operand_tree x)).frames (reduce 1 (operand_end x) fs (operand_tree x)).tree (operand_end x) ts y.between y.opens y.tree
finish_sound fs _ ts i = tt

accept_sound : (us : List MarkedToken) (fs : List ParserFrame) (m : ParserMode) (ts : List MarkedToken) → Stands fs m ts us → IfSome (accept (state fs m) us) (Derives ts)
accept_sound [] fs m ts i = finish_sound fs m ts i
accept_sound (t ∷ us) fs m ts i = go_on (λ s. Stands s.frames s.mode ts us) (Derives ts) (λ s. accept s us) (step_in fs m t) (step_sound ts us fs m t i) (λ s y. accept_sound us s.frames s.mode ts y)

-- what is taken is derived, with that tree
pub sound : (ts : List MarkedToken) (e : Tree) → accept start ts ≡ Some e → Derives ts e
sound ts e h = rw h at (accept_sound ts [] ExpectOperand ts (s_operand none))

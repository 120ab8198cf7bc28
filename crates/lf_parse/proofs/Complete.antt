-- Each expression of the grammar is taken, and gives its tree.
use Rattle.std.proofs.Common.{◌≡◌, ℕ, Bool, true, false, ◌≤◌, ◌<◌, List, [], ◌∷◌, ◌++◌, Option, Some, None, refl, ◌∙◌, ap, arith}
use Rattle.std.specs.Option.{option_and_then}
use Rattle.std.proofs.lemmas.Bool.{le-leb}
use Rattle.std.proofs.lemmas.Bool.Decides.{nat_tests}
use Rattle.lf_base.specs.declared.place.Span.{Span}
use Rattle.lf_ast.specs.declared.expr.Agg.{Agg}
use Rattle.lf_ast.specs.declared.expr.Grouping.TheVariants as grouping_of
use Rattle.lf_ast.specs.declared.expr.Matcher.{Matcher}
use Rattle.lf_ast.specs.declared.expr.MatchOp.{MatchOp}
use Rattle.lf_ast.specs.declared.expr.Matching.{Matching as MatchingOf}
use Rattle.lf_ast.specs.declared.expr.Name.{Name as NameOf}
use Rattle.lf_ast.specs.declared.expr.Op.{Op}
use Rattle.lf_ast.specs.declared.expr.Sight.{Sight}
use Rattle.lf_lex.specs.declared.token.Sign.{Sign as SignOf}
use Rattle.lf_lex.specs.declared.token.Sign.TheVariants.{OpenParen, CloseParen, OpenBrace, OpenBracket, CloseBracket, Comma, Colon, Plus, Minus, At as AtSign}
use Rattle.lf_parse.specs.declared.class.WordClass.TheVariants.{Plain, Edge, Numeric, Aggregation, Grouping, Offset}
use Rattle.lf_parse.specs.declared.class.RangeEnd.{RangeEnd}
use Rattle.lf_parse.specs.declared.class.Clause.{Clause}
use Rattle.lf_parse.specs.declared.class.Scope.{Scope}
use Rattle.lf_parse.specs.declared.class.Side.{Side}
use Rattle.lf_parse.specs.Tokens.{Mark, Word, Metric, Num, Dur, Quoted, Sign, MarkedToken, ◌at◌, op_of}
use Rattle.lf_ast.specs.Tree.{Tree, Number, Str, Selector, Paren, Unary, Binary, Call, Aggregate, Trees, Nil, span_of}
use Rattle.lf_parse.specs.Grammar.{to, up_to, behind, name, LabelsAt, one_label, next_label, NamesAt, no_names, names, names_comma, unmatched, NotOpen, ScopedAt, alone, group, group_names, ModifierAt, no_modifier, bool, scoped, bool_scoped, match_of, MatchersAt, one_matcher, next_matcher, BracesAt, no_matchers, matchers, matchers_comma, IsMetric, plain, edge, with_colon, SelectAt, word, word_braces, braces, blank, ranged, stepped, Mod, ModAt, offset, offset_minus, time, time_plus, time_minus, time_edge, HasRoom, with_mod, ModsAt, no_mods, mods, StepAt, no_step, step as step_dur, grouping, level, left_level, right_level, At, number, numeric, string, paren, selector, range, subquery, call, aggregate, aggregate_by, aggregate_args_by, plus, minus, binary, SomeAt, one, also, ArgsAt, no_args, args, Derives}
use Rattle.lf_parse.specs.reading.Machine.{ParserStep, More, Done, DoneBefore, Reject, Names, Opening, NextName, AfterName, names_step, Braces, NextMatcher, AfterLabel, AfterSign, AfterMatcher, compared, Front, front, Stage, Begin, AfterBool, InLabels, AfterLabels, AfterGroup, InInclude, modifier, group_modifier, in_labels, in_include, AfterOffset, AfterAt, Callee, OfCall, OfAggregate, OfGrouped, ParserFrame, LeftOf, Signed, InParen, InArgs, Subject, OfSelector, OfSubquery, Operand, Whole, Bare, Selected, Aggregated, Sighted, operand_tree, operand_end, ExpectOperand, First, ExpectOperator, Modifying, InBraces, InMod, AfterBracket, AfterColon, AfterAggregation, InGrouping, AfterGrouping, InGroupingBehind, ParserState, Held, state, held, reduce, applied, close, comma, ended, operator, joined, after, room, expect_operator, modified, in_braces, in_grouping, in_grouping_behind, step, finish, start, accept}
use Rattle.lf_parse.proofs.Levels.{level-le, level-le_right, level-le_left, right_tighter, sign_tighter}

-- going on from where a step leads
pub accept_step : (s s' : ParserState) (t : MarkedToken) (ts : List MarkedToken) → step s t ≡ Some s' → accept s (t ∷ ts) ≡ accept s' ts
accept_step s s' t ts h = ap (option_and_then (λ x. accept x ts)) h

-- ---- lists of labels, wherever they stand

abbrev pub Listed : Type 0
Listed = List NameOf × Span

abbrev pub told : (Names → ParserState) → (List NameOf → Span → ParserState) → ParserStep Names Listed → Option ParserState
told inside done (More n) = Some (inside n)
told inside done (Done (xs, c)) = Some (done xs c)
told inside done _ = None

module _ (inside : Names → ParserState) (done : List NameOf → Span → ParserState) (law : (n : Names) (t : MarkedToken) → step (inside n) t ≡ told inside done (names_step n t)) where
  complete_labels : {xs : List NameOf} {ts rest : List MarkedToken} → LabelsAt xs ts rest → accept (inside (NextName [])) ts ≡ accept (inside (AfterName xs)) rest
  complete_labels (one_label {c = c} {w = w} {p = p} {rest = rest}) = accept_step (inside (NextName [])) (inside (AfterName (name w p ∷ []))) (Word c w at p) rest (law (NextName []) (Word c w at p))
  complete_labels (next_label {c = c} {w = w} {xs = xs} {p = p} {q = q} {rest = rest} l) =
      complete_labels l
      ∙ accept_step (inside (AfterName xs)) (inside (NextName xs)) (Sign Comma at q) ((Word c w at p) ∷ rest) (law (AfterName xs) (Sign Comma at q))
      ∙ accept_step (inside (NextName xs)) (inside (AfterName (xs ++ name w p ∷ []))) (Word c w at p) rest (law (NextName xs) (Word c w at p))

  complete_names : {xs : List NameOf} {c : Span} {ts rest : List MarkedToken} → NamesAt xs c ts rest → accept (inside Opening) ts ≡ accept (done xs c) rest
  complete_names (no_names {o = o} {c = c} {rest = rest}) =
      accept_step (inside Opening) (inside (NextName [])) (Sign OpenParen at o) ((Sign CloseParen at c) ∷ rest) (law Opening (Sign OpenParen at o))
      ∙ accept_step (inside (NextName [])) (done [] c) (Sign CloseParen at c) rest (law (NextName []) (Sign CloseParen at c))
  complete_names (names {xs = xs} {o = o} {c = c} {ts = ts} {rest = rest} l) =
      accept_step (inside Opening) (inside (NextName [])) (Sign OpenParen at o) ts (law Opening (Sign OpenParen at o))
      ∙ complete_labels l
      ∙ accept_step (inside (AfterName xs)) (done xs c) (Sign CloseParen at c) rest (law (AfterName xs) (Sign CloseParen at c))
  complete_names (names_comma {xs = xs} {o = o} {q = q} {c = c} {ts = ts} {rest = rest} l) =
      accept_step (inside Opening) (inside (NextName [])) (Sign OpenParen at o) ts (law Opening (Sign OpenParen at o))
      ∙ complete_labels l
      ∙ accept_step (inside (AfterName xs)) (inside (NextName xs)) (Sign Comma at q) ((Sign CloseParen at c) ∷ rest) (law (AfterName xs) (Sign Comma at q))
      ∙ accept_step (inside (NextName xs)) (done xs c) (Sign CloseParen at c) rest (law (NextName xs) (Sign CloseParen at c))

-- ---- what an operand begins with

data Starts : List MarkedToken → Type 0 where
  at_number : {x : List ℕ} {p : Span} {ts : List MarkedToken} → Starts ((Num x at p) ∷ ts)
  at_numeric : {w : List ℕ} {p : Span} {ts : List MarkedToken} → Starts ((Word Numeric w at p) ∷ ts)
  at_string : {x : List ℕ} {p : Span} {ts : List MarkedToken} → Starts ((Quoted x at p) ∷ ts)
  at_plain : {w : List ℕ} {p : Span} {ts : List MarkedToken} → Starts ((Word Plain w at p) ∷ ts)
  at_edge : {e : RangeEnd} {w : List ℕ} {p : Span} {ts : List MarkedToken} → Starts ((Word (Edge e) w at p) ∷ ts)
  at_metric : {w : List ℕ} {p : Span} {ts : List MarkedToken} → Starts ((Metric w at p) ∷ ts)
  at_aggregation : {a : Agg} {w : List ℕ} {p : Span} {ts : List MarkedToken} → Starts ((Word (Aggregation a) w at p) ∷ ts)
  at_brace : {p : Span} {ts : List MarkedToken} → Starts ((Sign OpenBrace at p) ∷ ts)
  at_paren : {p : Span} {ts : List MarkedToken} → Starts ((Sign OpenParen at p) ∷ ts)
  at_plus : {p : Span} {ts : List MarkedToken} → Starts ((Sign Plus at p) ∷ ts)
  at_minus : {p : Span} {ts : List MarkedToken} → Starts ((Sign Minus at p) ∷ ts)

starts_metric : {w : List ℕ} {m : Mark} {p : Span} {ts : List MarkedToken} → IsMetric w m → Starts ((m at p) ∷ ts)
starts_metric plain = at_plain
starts_metric edge = at_edge
starts_metric with_colon = at_metric

starts_select : {nm : Option (List ℕ)} {ms : List Matcher} {p : Span} {ts rest : List MarkedToken} → SelectAt nm ms p ts rest → Starts ts
starts_select (word i) = starts_metric i
starts_select (word_braces i b) = starts_metric i
starts_select (braces b) = at_brace

starts : {l n : ℕ} {e : Tree} {ts rest : List MarkedToken} → At l e n ts rest → Starts ts
starts number = at_number
starts numeric = at_numeric
starts string = at_string
starts (paren d) = at_paren
starts (selector s m) = starts_select s
starts (range s m) = starts_select s
starts (subquery d k m) = starts d
starts (call i a) = starts_metric i
starts (aggregate a) = at_aggregation
starts (aggregate_by b a) = at_aggregation
starts (aggregate_args_by a b) = at_aggregation
starts (plus h d) = at_plus
starts (minus h d) = at_minus
starts (binary h i p m q) = starts p

-- ---- the modifier of an operator

module _ (fs : List ParserFrame) (o : Op) (p : Span) (a : Tree) where
  abbrev pub at_stage : Stage → ParserState
  at_stage st = state fs (Modifying o p a st)

  abbrev pub at_operand : MatchingOf → ParserState
  at_operand m = state (LeftOf o p m a ∷ fs) ExpectOperand

  pub labels_told : (f : Front) (t : MarkedToken) (r : ParserStep Names Listed) → modified fs o p a t (in_labels f r) ≡ told (λ n. at_stage (InLabels f n)) (λ xs c. at_stage (AfterLabels f xs c)) r
  labels_told f t (More n) = refl
  labels_told f t (Done (xs, c)) = refl
  labels_told f t (DoneBefore v) = refl
  labels_told f t Reject = refl

  pub include_told : (f : Front) (xs : List NameOf) (s : Side) (t : MarkedToken) (r : ParserStep Names Listed) → modified fs o p a t (in_include f xs s r) ≡ told (λ n. at_stage (InInclude f xs s n)) (λ ys c. at_operand (group_modifier f xs s ys c)) r
  include_told f xs s t (More n) = refl
  include_told f xs s t (Done (ys, c)) = refl
  include_told f xs s t (DoneBefore v) = refl
  include_told f xs s t Reject = refl

  complete_in_labels : {xs : List NameOf} {c : Span} {ts rest : List MarkedToken} (f : Front) → NamesAt xs c ts rest → accept (at_stage (InLabels f Opening)) ts ≡ accept (at_stage (AfterLabels f xs c)) rest
  complete_in_labels f d = complete_names (λ n. at_stage (InLabels f n)) (λ xs c. at_stage (AfterLabels f xs c)) (λ n t. labels_told f t (names_step n t)) d

  complete_include : {ys : List NameOf} {c : Span} {ts rest : List MarkedToken} (f : Front) (xs : List NameOf) (s : Side) → NamesAt ys c ts rest → accept (at_stage (InInclude f xs s Opening)) ts ≡ accept (at_operand (group_modifier f xs s ys c)) rest
  complete_include f xs s d = complete_names (λ n. at_stage (InInclude f xs s n)) (λ ys c. at_operand (group_modifier f xs s ys c)) (λ n t. include_told f xs s t (names_step n t)) d

  pass_begin : {ts : List MarkedToken} → Starts ts → accept (at_stage Begin) ts ≡ accept (at_operand (unmatched false (behind p))) ts
  pass_begin at_number = refl
  pass_begin at_numeric = refl
  pass_begin at_string = refl
  pass_begin at_plain = refl
  pass_begin at_edge = refl
  pass_begin at_metric = refl
  pass_begin at_aggregation = refl
  pass_begin at_brace = refl
  pass_begin at_paren = refl
  pass_begin at_plus = refl
  pass_begin at_minus = refl

  pass_bool : {ts : List MarkedToken} (b : Span) → Starts ts → accept (at_stage (AfterBool b)) ts ≡ accept (at_operand (unmatched true b)) ts
  pass_bool b at_number = refl
  pass_bool b at_numeric = refl
  pass_bool b at_string = refl
  pass_bool b at_plain = refl
  pass_bool b at_edge = refl
  pass_bool b at_metric = refl
  pass_bool b at_aggregation = refl
  pass_bool b at_brace = refl
  pass_bool b at_paren = refl
  pass_bool b at_plus = refl
  pass_bool b at_minus = refl

  pass_labels : {ts : List MarkedToken} (f : Front) (xs : List NameOf) (c : Span) → Starts ts → accept (at_stage (AfterLabels f xs c)) ts ≡ accept (at_operand (modifier f xs c)) ts
  pass_labels f xs c at_number = refl
  pass_labels f xs c at_numeric = refl
  pass_labels f xs c at_string = refl
  pass_labels f xs c at_plain = refl
  pass_labels f xs c at_edge = refl
  pass_labels f xs c at_metric = refl
  pass_labels f xs c at_aggregation = refl
  pass_labels f xs c at_brace = refl
  pass_labels f xs c at_paren = refl
  pass_labels f xs c at_plus = refl
  pass_labels f xs c at_minus = refl

  pass_group : {ts : List MarkedToken} (f : Front) (xs : List NameOf) (s : Side) (q : Span) → Starts ts → NotOpen ts → accept (at_stage (AfterGroup f xs s q)) ts ≡ accept (at_operand (group_modifier f xs s [] q)) ts
  pass_group f xs s q at_number n = refl
  pass_group f xs s q at_numeric n = refl
  pass_group f xs s q at_string n = refl
  pass_group f xs s q at_plain n = refl
  pass_group f xs s q at_edge n = refl
  pass_group f xs s q at_metric n = refl
  pass_group f xs s q at_aggregation n = refl
  pass_group f xs s q at_brace n = refl
  pass_group f xs s q at_paren n = absurd n
  pass_group f xs s q at_plus n = refl
  pass_group f xs s q at_minus n = refl

  open_group : {ys : List NameOf} {c : Span} {ts rest : List MarkedToken} (f : Front) (xs : List NameOf) (s : Side) (q : Span) → NamesAt ys c ts rest → accept (at_stage (AfterGroup f xs s q)) ts ≡ accept (at_stage (InInclude f xs s Opening)) ts
  open_group f xs s q no_names = refl
  open_group f xs s q (names l) = refl
  open_group f xs s q (names_comma l) = refl

  complete_scoped : {b : Bool} {f : Span} {k : Scope} {m : MatchingOf} {ts rest : List MarkedToken} → ScopedAt b f k m ts rest → Starts rest → accept (at_stage (InLabels (front b f k) Opening)) ts ≡ accept (at_operand m) rest
  complete_scoped {b} {f} {k} (alone {c = c} {xs = xs} d) h = complete_in_labels (front b f k) d ∙ pass_labels (front b f k) xs c h
  complete_scoped {b} {f} {k} (group {q = q} {s = s} {xs = xs} d n) h = complete_in_labels (front b f k) d ∙ pass_group (front b f k) xs s q h n
  complete_scoped {b} {f} {k} (group_names {q = q} {s = s} {xs = xs} d e) h = complete_in_labels (front b f k) d ∙ open_group (front b f k) xs s q e ∙ complete_include (front b f k) xs s e

  complete_modifier : {m : MatchingOf} {ts rest : List MarkedToken} → ModifierAt p m ts rest → Starts rest → accept (at_stage Begin) ts ≡ accept (at_operand m) rest
  complete_modifier no_modifier h = pass_begin h
  complete_modifier (bool {p = q}) h = pass_bool q h
  complete_modifier (scoped d) h = complete_scoped d h
  complete_modifier (bool_scoped d) h = complete_scoped d h

-- ---- selectors

module _ (fs : List ParserFrame) (nm : Option (List ℕ)) (p : Span) where
  abbrev at_braces : Braces → ParserState
  at_braces b = state fs (InBraces nm p b)

  complete_sign : (s : SignOf) {o : MatchOp} (xs : List Matcher) (n : NameOf) (q : Span) (ts : List MarkedToken) → match_of s ≡ Some o → accept (at_braces (AfterLabel xs n)) ((Sign s at q) ∷ ts) ≡ accept (at_braces (AfterSign xs n o)) ts
  complete_sign s {o} xs n q ts h = accept_step (at_braces (AfterLabel xs n)) (at_braces (AfterSign xs n o)) (Sign s at q) ts (ap (λ y. in_braces fs nm p (compared xs n y)) h)

  complete_matchers : {xs : List Matcher} {ts rest : List MarkedToken} → MatchersAt xs ts rest → accept (at_braces (NextMatcher [])) ts ≡ accept (at_braces (AfterMatcher xs)) rest
  complete_matchers (one_matcher {w = w} {v = v} {s = s} {p = p'} {q = q} {r = r} {rest = rest} h) = complete_sign s [] (name w p') q ((Quoted v at r) ∷ rest) h
  complete_matchers (next_matcher {w = w} {v = v} {s = s} {xs = xs} {p = p'} {q = q} {r = r} {rest = rest} h l) = complete_matchers l ∙ complete_sign s xs (name w p') q ((Quoted v at r) ∷ rest) h

  complete_braces : {ms : List Matcher} {c : Span} {ts rest : List MarkedToken} → BracesAt ms c ts rest → accept (at_braces (NextMatcher [])) ts ≡ accept (state fs (ExpectOperator (Selected nm ms (to p c)))) rest
  complete_braces no_matchers = refl
  complete_braces (matchers l) = complete_matchers l
  complete_braces (matchers_comma l) = complete_matchers l

complete_metric : {w : List ℕ} {m : Mark} → IsMetric w m → (fs : List ParserFrame) (p : Span) (ts : List MarkedToken) → accept (state fs ExpectOperand) ((m at p) ∷ ts) ≡ accept (state fs (ExpectOperator (Bare w p))) ts
complete_metric plain fs p ts = refl
complete_metric edge fs p ts = refl
complete_metric with_colon fs p ts = refl

abbrev select_operand : {nm : Option (List ℕ)} {ms : List Matcher} {p : Span} {ts rest : List MarkedToken} → SelectAt nm ms p ts rest → Operand
select_operand (word {w = w} {p = p} i) = Bare w p
select_operand (word_braces {w = w} {xs = xs} {p = p} {c = c} i b) = Selected (Some w) xs (to p c)
select_operand (braces {xs = xs} {o = o} {c = c} b) = Selected None xs (to o c)

select_tree : {nm : Option (List ℕ)} {ms : List Matcher} {p : Span} {ts rest : List MarkedToken} (s : SelectAt nm ms p ts rest) → operand_tree (select_operand s) ≡ Selector nm ms (blank p) p
select_tree (word i) = refl
select_tree (word_braces i b) = refl
select_tree (braces b) = refl

select_end : {nm : Option (List ℕ)} {ms : List Matcher} {p : Span} {ts rest : List MarkedToken} (s : SelectAt nm ms p ts rest) → operand_end (select_operand s) ≡ p.end
select_end (word i) = refl
select_end (word_braces i b) = refl
select_end (braces b) = refl

complete_select : {nm : Option (List ℕ)} {ms : List Matcher} {p : Span} {ts rest : List MarkedToken} (s : SelectAt nm ms p ts rest) (fs : List ParserFrame) → accept (state fs ExpectOperand) ts ≡ accept (state fs (ExpectOperator (select_operand s))) rest
complete_select (word {p = p} {rest = rest} i) fs = complete_metric i fs p rest
complete_select (word_braces {w = w} {p = p} {o = o} {ts = ts} i b) fs = complete_metric i fs p ((Sign OpenBrace at o) ∷ ts) ∙ complete_braces fs (Some w) p b
complete_select (braces {o = o} b) fs = complete_braces fs None o b

-- ---- modifiers of selectors and subqueries

complete_mod : (s : Sight) {x : Mod} {k : ℕ} {ts rest : List MarkedToken} → HasRoom s x → ModAt x k ts rest → (fs : List ParserFrame) (y : Subject) (p : Span) (n : ℕ) → accept (state fs (ExpectOperator (Sighted y s p n))) ts ≡ accept (state fs (ExpectOperator (Sighted y (with_mod s x) p k))) rest
complete_mod s h (offset {w = w} {d = d} {p = p'} {q = q} {rest = rest}) fs y p n =
    accept_step (state fs (ExpectOperator (Sighted y s p n))) (state fs (InMod y s p AfterOffset)) (Word Offset w at p') ((Dur d at q) ∷ rest) (ap (λ z. room z (state fs (InMod y s p AfterOffset))) h)
complete_mod s h (offset_minus {w = w} {d = d} {p = p'} {o = o} {q = q} {rest = rest}) fs y p n =
    accept_step (state fs (ExpectOperator (Sighted y s p n))) (state fs (InMod y s p AfterOffset)) (Word Offset w at p') ((Sign Minus at o) ∷ (Dur d at q) ∷ rest) (ap (λ z. room z (state fs (InMod y s p AfterOffset))) h)
complete_mod s h (time {x = x} {p = p'} {q = q} {rest = rest}) fs y p n =
    accept_step (state fs (ExpectOperator (Sighted y s p n))) (state fs (InMod y s p AfterAt)) (Sign AtSign at p') ((Num x at q) ∷ rest) (ap (λ z. room z (state fs (InMod y s p AfterAt))) h)
complete_mod s h (time_plus {x = x} {p = p'} {o = o} {q = q} {rest = rest}) fs y p n =
    accept_step (state fs (ExpectOperator (Sighted y s p n))) (state fs (InMod y s p AfterAt)) (Sign AtSign at p') ((Sign Plus at o) ∷ (Num x at q) ∷ rest) (ap (λ z. room z (state fs (InMod y s p AfterAt))) h)
complete_mod s h (time_minus {x = x} {p = p'} {o = o} {q = q} {rest = rest}) fs y p n =
    accept_step (state fs (ExpectOperator (Sighted y s p n))) (state fs (InMod y s p AfterAt)) (Sign AtSign at p') ((Sign Minus at o) ∷ (Num x at q) ∷ rest) (ap (λ z. room z (state fs (InMod y s p AfterAt))) h)
complete_mod s h (time_edge {e = e} {w = w} {p = p'} {q = q} {o = o} {c = c} {rest = rest}) fs y p n =
    accept_step (state fs (ExpectOperator (Sighted y s p n))) (state fs (InMod y s p AfterAt)) (Sign AtSign at p') ((Word (Edge e) w at q) ∷ (Sign OpenParen at o) ∷ (Sign CloseParen at c) ∷ rest) (ap (λ z. room z (state fs (InMod y s p AfterAt))) h)

complete_mods : {s r : Sight} {n m : ℕ} {ts rest : List MarkedToken} → ModsAt s r n m ts rest → (fs : List ParserFrame) (y : Subject) (p : Span) → accept (state fs (ExpectOperator (Sighted y s p n))) ts ≡ accept (state fs (ExpectOperator (Sighted y r p m))) rest
complete_mods no_mods fs y p = refl
complete_mods (mods {s = s} {n = n} h x m) fs y p = complete_mod s h x fs y p n ∙ complete_mods m fs y p

-- a modifier comes to a selector alone as to one that is looked at already
bare_mod : {x : Mod} {k : ℕ} {ts rest : List MarkedToken} → ModAt x k ts rest → (fs : List ParserFrame) (w : List ℕ) (p : Span) → accept (state fs (ExpectOperator (Bare w p))) ts ≡ accept (state fs (ExpectOperator (Sighted (OfSelector (Some w) []) (blank p) p p.end))) ts
bare_mod offset fs w p = refl
bare_mod offset_minus fs w p = refl
bare_mod time fs w p = refl
bare_mod time_plus fs w p = refl
bare_mod time_minus fs w p = refl
bare_mod time_edge fs w p = refl

selected_mod : {x : Mod} {k : ℕ} {ts rest : List MarkedToken} → ModAt x k ts rest → (fs : List ParserFrame) (nm : Option (List ℕ)) (ms : List Matcher) (p : Span) → accept (state fs (ExpectOperator (Selected nm ms p))) ts ≡ accept (state fs (ExpectOperator (Sighted (OfSelector nm ms) (blank p) p p.end))) ts
selected_mod offset fs nm ms p = refl
selected_mod offset_minus fs nm ms p = refl
selected_mod time fs nm ms p = refl
selected_mod time_plus fs nm ms p = refl
selected_mod time_minus fs nm ms p = refl
selected_mod time_edge fs nm ms p = refl

select_mod : {nm : Option (List ℕ)} {ms : List Matcher} {p : Span} {us vs : List MarkedToken} (s : SelectAt nm ms p us vs) {x : Mod} {k : ℕ} {ts rest : List MarkedToken} → ModAt x k ts rest → (fs : List ParserFrame) → accept (state fs (ExpectOperator (select_operand s))) ts ≡ accept (state fs (ExpectOperator (Sighted (OfSelector nm ms) (blank p) p p.end))) ts
select_mod (word {w = w} {p = p} i) m fs = bare_mod m fs w p
select_mod (word_braces {w = w} {xs = xs} {p = p} {c = c} i b) m fs = selected_mod m fs (Some w) xs (to p c)
select_mod (braces {xs = xs} {o = o} {c = c} b) m fs = selected_mod m fs None xs (to o c)

abbrev modded_operand : {nm : Option (List ℕ)} {ms : List Matcher} {r : Sight} {p : Span} {n : ℕ} {ts us rest : List MarkedToken} → SelectAt nm ms p ts us → ModsAt (blank p) r p.end n us rest → Operand
modded_operand s no_mods = select_operand s
modded_operand {nm} {ms} {r} {p} {n} s (mods h x m) = Sighted (OfSelector nm ms) r p n

modded_tree : {nm : Option (List ℕ)} {ms : List Matcher} {r : Sight} {p : Span} {n : ℕ} {ts us rest : List MarkedToken} (s : SelectAt nm ms p ts us) (m : ModsAt (blank p) r p.end n us rest) → operand_tree (modded_operand s m) ≡ Selector nm ms r p
modded_tree s no_mods = select_tree s
modded_tree s (mods h x m) = refl

modded_end : {nm : Option (List ℕ)} {ms : List Matcher} {r : Sight} {p : Span} {n : ℕ} {ts us rest : List MarkedToken} (s : SelectAt nm ms p ts us) (m : ModsAt (blank p) r p.end n us rest) → operand_end (modded_operand s m) ≡ n
modded_end s no_mods = select_end s
modded_end s (mods h x m) = refl

complete_modded : {nm : Option (List ℕ)} {ms : List Matcher} {r : Sight} {p : Span} {n : ℕ} {ts us rest : List MarkedToken} (s : SelectAt nm ms p ts us) (m : ModsAt (blank p) r p.end n us rest) (fs : List ParserFrame) → accept (state fs (ExpectOperator (select_operand s))) us ≡ accept (state fs (ExpectOperator (modded_operand s m))) rest
complete_modded s no_mods fs = refl
complete_modded {nm} {ms} {r} {p} s (mods h x m) fs = select_mod s x fs ∙ complete_mods (mods h x m) fs (OfSelector nm ms) p

-- a range behind a selector
select_range : {nm : Option (List ℕ)} {ms : List Matcher} {p : Span} {us vs : List MarkedToken} (s : SelectAt nm ms p us vs) (fs : List ParserFrame) (d : List ℕ) (o q c : Span) (ts : List MarkedToken) → accept (state fs (ExpectOperator (select_operand s))) ((Sign OpenBracket at o) ∷ (Dur d at q) ∷ (Sign CloseBracket at c) ∷ ts) ≡ accept (state fs (ExpectOperator (Sighted (OfSelector nm ms) (ranged d q) (to p c) c.end))) ts
select_range (word i) fs d o q c ts = refl
select_range (word_braces i b) fs d o q c ts = refl
select_range (braces b) fs d o q c ts = refl

-- ---- expressions

-- where the machine is once it has taken an expression on these frames
abbrev spine : {l n : ℕ} {e : Tree} {ts rest : List MarkedToken} → At l e n ts rest → List ParserFrame → ParserState
spine (number {x = x} {p = p}) fs = state fs (ExpectOperator (Whole (Number x p) p.end))
spine (numeric {w = w} {p = p}) fs = state fs (ExpectOperator (Whole (Number w p) p.end))
spine (string {x = x} {p = p}) fs = state fs (ExpectOperator (Whole (Str x p) p.end))
spine (paren {e = e} {o = o} {c = c} d) fs = state fs (ExpectOperator (Whole (Paren e (to o c)) c.end))
spine (selector s m) fs = state fs (ExpectOperator (modded_operand s m))
spine (range {n = n} {nm = nm} {ms = ms} {r = r} {p = p} {c = c} s m) fs = state fs (ExpectOperator (Sighted (OfSelector nm ms) r (to p c) n))
spine (subquery {n = n} {e = e} {r = r} {c = c} d k m) fs = state fs (ExpectOperator (Sighted (OfSubquery e) r (to (span_of e) c) n))
spine (call {w = w} {xs = xs} {p = p} {c = c} i a) fs = state fs (ExpectOperator (Whole (Call w xs p) c.end))
spine (aggregate {a = a} {xs = xs} {p = p} {c = c} d) fs = state fs (ExpectOperator (Aggregated a xs p c.end))
spine (aggregate_by {a = a} {k = k} {xs = xs} {ys = ys} {p = p} {c = c} b d) fs = state fs (ExpectOperator (Whole (Aggregate a (grouping k ys) xs p) c.end))
spine (aggregate_args_by {a = a} {k = k} {xs = xs} {ys = ys} {p = p} {d = d} i b) fs = state fs (ExpectOperator (Whole (Aggregate a (grouping k ys) xs p) d.end))
spine (plus {p = p} h d) fs = spine d (Signed false p ∷ fs)
spine (minus {p = p} h d) fs = spine d (Signed true p ∷ fs)
spine (binary {o = o} {x = x} {a = a} {p = p} h i d m q) fs = spine q (LeftOf o p x a ∷ fs)

pub reduce_left : (l n : ℕ) (o : Op) (p : Span) (m : MatchingOf) (a : Tree) (fs : List ParserFrame) (e : Tree) → l ≤ level o → reduce l n (LeftOf o p m a ∷ fs) e ≡ reduce l n fs (Binary o m a e p)
reduce_left l n o p m a fs e h = rw (le-leb l (level o) h) refl

pub reduce_sign : (l n : ℕ) (neg : Bool) (p : Span) (fs : List ParserFrame) (e : Tree) → l ≤ 6 → reduce l n (Signed neg p ∷ fs) e ≡ reduce l n fs (Unary neg e (up_to p n))
reduce_sign l n neg p fs e h = rw (le-leb l 6 h) refl

-- what looks at an operand, after the operators of level l, sees an expression of that level whole
module _ (A : Type 0) (look : ParserState → A) (f : Held → A) (l : ℕ) (law : (fs : List ParserFrame) (x : Operand) → look (state fs (ExpectOperator x)) ≡ f (reduce l (operand_end x) fs (operand_tree x))) where
  look_operand : (fs : List ParserFrame) (x : Operand) (e : Tree) (n : ℕ) → operand_tree x ≡ e → operand_end x ≡ n → look (state fs (ExpectOperator x)) ≡ f (reduce l n fs e)
  look_operand fs x e n t k = law fs x ∙ ap (λ y. f (reduce l (operand_end x) fs y)) t ∙ ap (λ y. f (reduce l y fs e)) k

  look_spine : {m n : ℕ} {e : Tree} {ts rest : List MarkedToken} (d : At m e n ts rest) (fs : List ParserFrame) → l ≤ m → look (spine d fs) ≡ f (reduce l n fs e)
  look_spine (number {x = x} {p = p}) fs k = law fs (Whole (Number x p) p.end)
  look_spine (numeric {w = w} {p = p}) fs k = law fs (Whole (Number w p) p.end)
  look_spine (string {x = x} {p = p}) fs k = law fs (Whole (Str x p) p.end)
  look_spine (paren {e = e} {o = o} {c = c} d) fs k = law fs (Whole (Paren e (to o c)) c.end)
  look_spine (selector {n = n} {nm = nm} {ms = ms} {r = r} {p = p} s m) fs k = look_operand fs (modded_operand s m) (Selector nm ms r p) n (modded_tree s m) (modded_end s m)
  look_spine (range {n = n} {nm = nm} {ms = ms} {r = r} {p = p} {c = c} s m) fs k = law fs (Sighted (OfSelector nm ms) r (to p c) n)
  look_spine (subquery {n = n} {e = e} {r = r} {c = c} d i m) fs k = law fs (Sighted (OfSubquery e) r (to (span_of e) c) n)
  look_spine (call {w = w} {xs = xs} {p = p} {c = c} i a) fs k = law fs (Whole (Call w xs p) c.end)
  look_spine (aggregate {a = a} {xs = xs} {p = p} {c = c} d) fs k = law fs (Aggregated a xs p c.end)
  look_spine (aggregate_by {a = a} {k = k} {xs = xs} {ys = ys} {p = p} {c = c} b d) fs h = law fs (Whole (Aggregate a (grouping k ys) xs p) c.end)
  look_spine (aggregate_args_by {a = a} {k = k} {xs = xs} {ys = ys} {p = p} {d = d} i b) fs h = law fs (Whole (Aggregate a (grouping k ys) xs p) d.end)
  look_spine (plus {n = n} {e = e} {p = p} h d) fs k = look_spine d (Signed false p ∷ fs) (omega arith) ∙ ap f (reduce_sign l n false p fs e (omega arith))
  look_spine (minus {n = n} {e = e} {p = p} h d) fs k = look_spine d (Signed true p ∷ fs) (omega arith) ∙ ap f (reduce_sign l n true p fs e (omega arith))
  look_spine (binary {n = n} {o = o} {x = x} {a = a} {b = b} {p = p} h i d m q) fs k =
      look_spine q (LeftOf o p x a ∷ fs) (omega (arith, level-le_right o)) ∙ ap f (reduce_left l n o p x a fs b (omega arith))

-- ---- what comes behind an operand

after_op : {o : Op} (m : Mark) → op_of m ≡ Some o → (fs : List ParserFrame) (e : Tree) (n : ℕ) (p : Span) → after fs e n (m at p) ≡ operator o p (reduce (left_level o) n fs e)
after_op (Sign CloseParen) h fs e n p = cc
after_op (Sign Comma) h fs e n p = cc
after_op m h fs e n p = ap (joined fs e n p) h

operator_law : {o : Op} (m : Mark) → op_of m ≡ Some o → (p : Span) (fs : List ParserFrame) (x : Operand) → expect_operator fs x (m at p) ≡ operator o p (reduce (left_level o) (operand_end x) fs (operand_tree x))
operator_law (Sign OpenBracket) h p fs x = cc
operator_law (Sign OpenParen) h p fs x = cc
operator_law (Sign OpenBrace) h p fs x = cc
operator_law (Sign AtSign) h p fs x = cc
operator_law (Word Offset w) h p fs x = cc
operator_law (Word (Grouping k) w) h p fs x = cc
operator_law m h p fs (Whole e n) = after_op m h fs e n p
operator_law m h p fs (Bare w q) = after_op m h fs (Selector (Some w) [] (blank q) q) q.end p
operator_law m h p fs (Selected nm ms q) = after_op m h fs (Selector nm ms (blank q) q) q.end p
operator_law m h p fs (Aggregated a xs q n) = after_op m h fs (Aggregate a grouping_of.None xs q) n p
operator_law m h p fs (Sighted y s q n) = after_op m h fs (operand_tree (Sighted y s q n)) n p

pub close_law : (p : Span) (fs : List ParserFrame) (x : Operand) → expect_operator fs x (Sign CloseParen at p) ≡ close p (reduce 1 (operand_end x) fs (operand_tree x)).frames (reduce 1 (operand_end x) fs (operand_tree x)).tree
close_law p fs (Whole e n) = refl
close_law p fs (Bare w q) = refl
close_law p fs (Selected nm ms q) = refl
close_law p fs (Aggregated a xs q n) = refl
close_law p fs (Sighted y s q n) = refl

comma_law : (p : Span) (fs : List ParserFrame) (x : Operand) → expect_operator fs x (Sign Comma at p) ≡ comma (reduce 1 (operand_end x) fs (operand_tree x)).frames (reduce 1 (operand_end x) fs (operand_tree x)).tree
comma_law p fs (Whole e n) = refl
comma_law p fs (Bare w q) = refl
comma_law p fs (Selected nm ms q) = refl
comma_law p fs (Aggregated a xs q n) = refl
comma_law p fs (Sighted y s q n) = refl

bracket_law : (o : Span) (fs : List ParserFrame) (x : Operand) → expect_operator fs x (Sign OpenBracket at o) ≡ Some (state fs (AfterBracket x))
bracket_law o fs (Whole e n) = refl
bracket_law o fs (Bare w q) = refl
bracket_law o fs (Selected nm ms q) = refl
bracket_law o fs (Aggregated a xs q n) = refl
bracket_law o fs (Sighted y s q n) = refl

-- no operator of level l or above takes from these frames
abbrev Low : ℕ → List ParserFrame → Type 0
Low l fs = (o : Op) → l ≤ level o → (n : ℕ) (x : Tree) → reduce (left_level o) n fs x ≡ held fs x

low_left : (o : Op) (p : Span) (m : MatchingOf) (a : Tree) (fs : List ParserFrame) → Low (right_level o) (LeftOf o p m a ∷ fs)
low_left o q m a fs p h n x = let k : level o < left_level p = right_tighter o p h in grind (arith, nat_tests)

low_sign : (neg : Bool) (q : Span) (fs : List ParserFrame) → Low 6 (Signed neg q ∷ fs)
low_sign neg q fs p h n x = let k : 6 < left_level p = sign_tighter p h in grind (arith, nat_tests)

step_operator : {ts rest : List MarkedToken} {n : ℕ} (o : Op) (m : Mark) (i : op_of m ≡ Some o) (p : Span) (a : Tree) (fs : List ParserFrame) (d : At (left_level o) a n ts rest) → reduce (left_level o) n fs a ≡ held fs a → step (spine d fs) (m at p) ≡ Some (state fs (Modifying o p a Begin))
step_operator o m i p a fs d h =
    look_spine (Option ParserState) (λ s. step s (m at p)) (operator o p) (left_level o) (operator_law m i p) d fs (omega arith) ∙ ap (operator o p) h

step_close : {e : Tree} {n : ℕ} {ts rest : List MarkedToken} (p : Span) (fs : List ParserFrame) (d : At 1 e n ts rest) → step (spine d fs) (Sign CloseParen at p) ≡ close p (reduce 1 n fs e).frames (reduce 1 n fs e).tree
step_close p fs d = look_spine (Option ParserState) (λ s. step s (Sign CloseParen at p)) (λ h. close p h.frames h.tree) 1 (close_law p) d fs (omega arith)

step_comma : {e : Tree} {n : ℕ} {ts rest : List MarkedToken} (p : Span) (fs : List ParserFrame) (d : At 1 e n ts rest) → step (spine d fs) (Sign Comma at p) ≡ comma (reduce 1 n fs e).frames (reduce 1 n fs e).tree
step_comma p fs d = look_spine (Option ParserState) (λ s. step s (Sign Comma at p)) (λ h. comma h.frames h.tree) 1 (comma_law p) d fs (omega arith)

-- an operand
record Alone (e : Tree) (s : ParserState) (fs : List ParserFrame) : Type 0 where
  operand : Operand
  tree : operand_tree operand ≡ e
  here : s ≡ state fs (ExpectOperator operand)

alone_at : {e : Tree} {n : ℕ} {ts rest : List MarkedToken} (d : At 7 e n ts rest) (fs : List ParserFrame) → Alone e (spine d fs) fs
alone_at (number {x = x} {p = p}) fs = record { operand = Whole (Number x p) p.end; tree = refl; here = refl }
alone_at (numeric {w = w} {p = p}) fs = record { operand = Whole (Number w p) p.end; tree = refl; here = refl }
alone_at (string {x = x} {p = p}) fs = record { operand = Whole (Str x p) p.end; tree = refl; here = refl }
alone_at (paren {e = e} {o = o} {c = c} d) fs = record { operand = Whole (Paren e (to o c)) c.end; tree = refl; here = refl }
alone_at (selector s m) fs = record { operand = modded_operand s m; tree = modded_tree s m; here = refl }
alone_at (range {n = n} {nm = nm} {ms = ms} {r = r} {p = p} {c = c} s m) fs = record { operand = Sighted (OfSelector nm ms) r (to p c) n; tree = refl; here = refl }
alone_at (subquery {n = n} {e = e} {r = r} {c = c} d k m) fs = record { operand = Sighted (OfSubquery e) r (to (span_of e) c) n; tree = refl; here = refl }
alone_at (call {w = w} {xs = xs} {p = p} {c = c} i a) fs = record { operand = Whole (Call w xs p) c.end; tree = refl; here = refl }
alone_at (aggregate {a = a} {xs = xs} {p = p} {c = c} d) fs = record { operand = Aggregated a xs p c.end; tree = refl; here = refl }
alone_at (aggregate_by {a = a} {k = k} {xs = xs} {ys = ys} {p = p} {c = c} b d) fs = record { operand = Whole (Aggregate a (grouping k ys) xs p) c.end; tree = refl; here = refl }
alone_at (aggregate_args_by {a = a} {k = k} {xs = xs} {ys = ys} {p = p} {d = d} i b) fs = record { operand = Whole (Aggregate a (grouping k ys) xs p) d.end; tree = refl; here = refl }
alone_at (plus h d) fs = absurd (omega arith)
alone_at (minus h d) fs = absurd (omega arith)
alone_at (binary {o = o} h i d m q) fs = absurd (omega (arith, level-le o))

-- '[' dur ':' after an operand
bracket_colon : {e : Tree} {n : ℕ} {ts rest : List MarkedToken} (d : At 7 e n ts rest) (fs : List ParserFrame) (x : List ℕ) (o q k : Span) (us : List MarkedToken) → accept (spine d fs) ((Sign OpenBracket at o) ∷ (Dur x at q) ∷ (Sign Colon at k) ∷ us) ≡ accept (state fs (AfterColon e x q)) us
bracket_colon {e} d fs x o q k us =
    let y = alone_at d fs in
    accept_step (spine d fs) (state fs (AfterBracket y.operand)) (Sign OpenBracket at o) ((Dur x at q) ∷ (Sign Colon at k) ∷ us) (ap (λ s. step s (Sign OpenBracket at o)) y.here ∙ bracket_law o fs y.operand)
    ∙ ap (λ z. accept (state fs (AfterColon z x q)) us) y.tree

complete_step : {x : Option (List ℕ)} {us vs : List MarkedToken} {c : Span} → StepAt x us ((Sign CloseBracket at c) ∷ vs) → (fs : List ParserFrame) (e : Tree) (d : List ℕ) (q : Span) → accept (state fs (AfterColon e d q)) us ≡ accept (state fs (ExpectOperator (Sighted (OfSubquery e) (stepped d q x) (to (span_of e) c) c.end))) vs
complete_step no_step fs e d q = refl
complete_step step_dur fs e d q = refl

-- ---- arguments

abbrev args_spine : {xs : Trees} {ts rest : List MarkedToken} → SomeAt xs ts rest → Callee → List ParserFrame → ParserState
args_spine (one d) h fs = spine d (InArgs h Nil ∷ fs)
args_spine (also {xs = xs} s d) h fs = spine d (InArgs h xs ∷ fs)

step_close_args : {xs : Trees} {ts rest : List MarkedToken} (h : Callee) (c : Span) (fs : List ParserFrame) (s : SomeAt xs ts rest) → step (args_spine s h fs) (Sign CloseParen at c) ≡ Some (state fs (ExpectOperator (applied h xs c)))
step_close_args h c fs (one d) = step_close c (InArgs h Nil ∷ fs) d
step_close_args h c fs (also {xs = xs} s d) = step_close c (InArgs h xs ∷ fs) d

step_comma_args : {xs : Trees} {ts rest : List MarkedToken} (h : Callee) (c : Span) (fs : List ParserFrame) (s : SomeAt xs ts rest) → step (args_spine s h fs) (Sign Comma at c) ≡ Some (state (InArgs h xs ∷ fs) ExpectOperand)
step_comma_args h c fs (one d) = step_comma c (InArgs h Nil ∷ fs) d
step_comma_args h c fs (also {xs = xs} s d) = step_comma c (InArgs h xs ∷ fs) d

-- no expression begins with `)`
first_operand : {ts : List MarkedToken} → Starts ts → (h : Callee) (fs : List ParserFrame) → accept (state fs (First h)) ts ≡ accept (state (InArgs h Nil ∷ fs) ExpectOperand) ts
first_operand at_number h fs = refl
first_operand at_numeric h fs = refl
first_operand at_string h fs = refl
first_operand at_plain h fs = refl
first_operand at_edge h fs = refl
first_operand at_metric h fs = refl
first_operand at_aggregation h fs = refl
first_operand at_brace h fs = refl
first_operand at_paren h fs = refl
first_operand at_plus h fs = refl
first_operand at_minus h fs = refl

starts_some : {xs : Trees} {ts rest : List MarkedToken} → SomeAt xs ts rest → Starts ts
starts_some (one d) = starts d
starts_some (also s d) = starts_some s

-- ---- the labels of a grouping

module _ (fs : List ParserFrame) (a : Agg) (p : Span) (k : Clause) where
  pub grouping_told : (r : ParserStep Names Listed) → in_grouping fs a p k r ≡ told (λ n. state fs (InGrouping a p k n)) (λ xs c. state fs (AfterGrouping a p (grouping k xs))) r
  grouping_told (More n) = refl
  grouping_told (Done (xs, c)) = refl
  grouping_told (DoneBefore v) = refl
  grouping_told Reject = refl

  complete_grouping : {ys : List NameOf} {c : Span} {ts rest : List MarkedToken} → NamesAt ys c ts rest → accept (state fs (InGrouping a p k Opening)) ts ≡ accept (state fs (AfterGrouping a p (grouping k ys))) rest
  complete_grouping d = complete_names (λ n. state fs (InGrouping a p k n)) (λ xs c. state fs (AfterGrouping a p (grouping k xs))) (λ n t. grouping_told (names_step n t)) d

  pub behind_told : (xs : Trees) (r : ParserStep Names Listed) → in_grouping_behind fs a p xs k r ≡ told (λ n. state fs (InGroupingBehind a p xs k n)) (λ ys c. state fs (ExpectOperator (Whole (Aggregate a (grouping k ys) xs p) c.end))) r
  behind_told xs (More n) = refl
  behind_told xs (Done (ys, c)) = refl
  behind_told xs (DoneBefore v) = refl
  behind_told xs Reject = refl

  complete_behind : {ys : List NameOf} {c : Span} {ts rest : List MarkedToken} (xs : Trees) → NamesAt ys c ts rest → accept (state fs (InGroupingBehind a p xs k Opening)) ts ≡ accept (state fs (ExpectOperator (Whole (Aggregate a (grouping k ys) xs p) c.end))) rest
  complete_behind xs d = complete_names (λ n. state fs (InGroupingBehind a p xs k n)) (λ ys c. state fs (ExpectOperator (Whole (Aggregate a (grouping k ys) xs p) c.end))) (λ n t. behind_told xs (names_step n t)) d

-- ---- the whole

mutual
  complete_at : {l n : ℕ} {e : Tree} {ts rest : List MarkedToken} (d : At l e n ts rest) (fs : List ParserFrame) → Low l fs → accept (state fs ExpectOperand) ts ≡ accept (spine d fs) rest
  complete_at number fs low = refl
  complete_at numeric fs low = refl
  complete_at string fs low = refl
  complete_at (paren {e = e} {o = o} {c = c} {rest = rest} d) fs low =
      complete_at d (InParen o ∷ fs) (λ o' h n x. refl) ∙ accept_step (spine d (InParen o ∷ fs)) (state fs (ExpectOperator (Whole (Paren e (to o c)) c.end))) (Sign CloseParen at c) rest (step_close c (InParen o ∷ fs) d)
  complete_at (selector s m) fs low = complete_select s fs ∙ complete_modded s m fs
  complete_at (range {nm = nm} {ms = ms} {d = d} {p = p} {o = o} {q = q} {c = c} {us = us} s m) fs low =
      complete_select s fs ∙ select_range s fs d o q c us ∙ complete_mods m fs (OfSelector nm ms) (to p c)
  complete_at (subquery {e = e} {d = x} {o = o} {q = q} {k = k} {c = c} {us = us} d i m) fs low =
      complete_at d fs (λ o' h n y. absurd (omega (arith, level-le o')))
      ∙ bracket_colon d fs x o q k us
      ∙ complete_step i fs e x q
      ∙ complete_mods m fs (OfSubquery e) (to (span_of e) c)
  complete_at (call {w = w} {p = p} {ts = ts} i a) fs low = complete_metric i fs p ts ∙ complete_args a (state fs (ExpectOperator (Bare w p))) fs (OfCall w p) (λ o. refl)
  complete_at (aggregate {a = a} {p = p} d) fs low = complete_args d (state fs (AfterAggregation a p)) fs (OfAggregate a p) (λ o. refl)
  complete_at (aggregate_by {a = a} {k = k} {ys = ys} {p = p} b d) fs low = complete_grouping fs a p k b ∙ complete_args d (state fs (AfterGrouping a p (grouping k ys))) fs (OfGrouped a (grouping k ys) p) (λ o. refl)
  complete_at (aggregate_args_by {a = a} {k = k} {xs = xs} {p = p} d b) fs low = complete_args d (state fs (AfterAggregation a p)) fs (OfAggregate a p) (λ o. refl) ∙ complete_behind fs a p k xs b
  complete_at (plus {p = p} h d) fs low = complete_at d (Signed false p ∷ fs) (low_sign false p fs)
  complete_at (minus {p = p} h d) fs low = complete_at d (Signed true p ∷ fs) (low_sign true p fs)
  complete_at (binary {k = k} {o = o} {m = m} {x = x} {a = a} {p = p} {us = us} h i d y q) fs low =
      complete_at d fs (λ o' h' n z. low o' (omega (arith, level-le_left o)) n z)
      ∙ accept_step (spine d fs) (state fs (Modifying o p a Begin)) (m at p) us (step_operator o m i p a fs d (low o h k a))
      ∙ complete_modifier fs o p a y (starts q)
      ∙ complete_at q (LeftOf o p x a ∷ fs) (low_left o p x a fs)

  complete_some : {xs : Trees} {ts rest : List MarkedToken} (s : SomeAt xs ts rest) (h : Callee) (fs : List ParserFrame) → accept (state (InArgs h Nil ∷ fs) ExpectOperand) ts ≡ accept (args_spine s h fs) rest
  complete_some (one d) h fs = complete_at d (InArgs h Nil ∷ fs) (λ o i n x. refl)
  complete_some (also {xs = xs} {q = q} {us = us} s d) h fs =
      complete_some s h fs ∙ accept_step (args_spine s h fs) (state (InArgs h xs ∷ fs) ExpectOperand) (Sign Comma at q) us (step_comma_args h q fs s) ∙ complete_at d (InArgs h xs ∷ fs) (λ o i n x. refl)

  complete_args : {xs : Trees} {c : Span} {ts rest : List MarkedToken} (a : ArgsAt xs c ts rest) (s : ParserState) (fs : List ParserFrame) (h : Callee) → ((o : Span) → step s (Sign OpenParen at o) ≡ Some (state fs (First h))) → accept s ts ≡ accept (state fs (ExpectOperator (applied h xs c))) rest
  complete_args (no_args {o = o} {c = c} {rest = rest}) s fs h f = accept_step s (state fs (First h)) (Sign OpenParen at o) ((Sign CloseParen at c) ∷ rest) (f o)
  complete_args (args {xs = xs} {o = o} {c = c} {ts = ts} {rest = rest} d) s fs h f =
      accept_step s (state fs (First h)) (Sign OpenParen at o) ts (f o)
      ∙ first_operand (starts_some d) h fs
      ∙ complete_some d h fs
      ∙ accept_step (args_spine d h fs) (state fs (ExpectOperator (applied h xs c))) (Sign CloseParen at c) rest (step_close_args h c fs d)

-- what the grammar derives is taken, with its tree
pub complete : (ts : List MarkedToken) (e : Tree) → Derives ts e → accept start ts ≡ Some e
complete ts e (n, d) =
    complete_at d [] (λ o h n x. refl)
    ∙ look_spine (Option Tree) finish (λ h. ended h.frames h.tree) 1 (λ fs x. refl) d [] (omega arith)

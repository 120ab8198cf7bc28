-- The machine goes on exactly as long as some expression begins with the tokens.
use Rattle.std.proofs.Common.{◌≡◌, ℕ, true, false, List, [], ◌∷◌, ◌++◌, map, Option, Some, None, refl, sym, ◌∙◌, ap, arith}
use Rattle.std.specs.Option.{option_and_then}
use Rattle.std.proofs.lemmas.List.{map-append}
use Rattle.lf_base.specs.declared.place.Span.{Span}
use Rattle.lf_ast.specs.declared.expr.Agg.{Agg}
use Rattle.lf_ast.specs.declared.expr.Grouping.{Grouping as GroupingOf}
use Rattle.lf_ast.specs.declared.expr.Matcher.{Matcher}
use Rattle.lf_ast.specs.declared.expr.MatchOp.{MatchOp}
use Rattle.lf_ast.specs.declared.expr.MatchOp.TheVariants as match_op
use Rattle.lf_ast.specs.declared.expr.Matching.{Matching as MatchingOf}
use Rattle.lf_ast.specs.declared.expr.Name.{Name as NameOf}
use Rattle.lf_ast.specs.declared.expr.Op.{Op}
use Rattle.lf_ast.specs.declared.expr.Sight.{Sight}
use Rattle.lf_lex.specs.declared.token.Sign.{Sign as SignOf}
use Rattle.lf_lex.specs.declared.token.Sign.TheVariants.{OpenParen, CloseParen, CloseBrace, CloseBracket, Colon, Is}
use Rattle.lf_lex.specs.declared.token.Token.{Token}
use Rattle.lf_lex.specs.declared.token.TokenKind.TheVariants as kinds
use Rattle.lf_parse.specs.declared.class.RangeEnd.{RangeEnd}
use Rattle.lf_parse.specs.declared.class.Clause.{Clause}
use Rattle.lf_parse.specs.Tokens.{Sign, MarkedToken, ◌at◌, marked}
use Rattle.lf_ast.specs.Tree.{Tree, Number, Paren, Unary, Binary, Aggregate, Trees, Nil, span_of, with_last}
use Rattle.lf_parse.specs.Grammar.{to, up_to, behind, unmatched, matcher, stepped, edge_text, OffsetBy, AtTime, with_mod, grouping, IsViable}
use Rattle.lf_parse.specs.reading.Machine.{Names, Opening, NextName, AfterName, names_step, Braces, NextMatcher, AfterLabel, AfterSign, AfterMatcher, Stage, Begin, AfterBool, InLabels, AfterLabels, AfterGroup, InInclude, modifier, group_modifier, ModStage, AfterOffset, AfterOffsetMinus, AfterAt, AfterAtSign, AfterEdge, InEdge, Callee, OfAggregate, OfGrouped, ParserFrame, LeftOf, Signed, InParen, InArgs, Subject, OfSubquery, Operand, Whole, Selected, Sighted, operand_tree, operand_end, ParserMode, ExpectOperand, First, ExpectOperator, Modifying, InBraces, InMod, AfterBracket, AfterRange, AfterColon, AfterStep, AfterAggregation, InGrouping, AfterGrouping, InGroupingBehind, ParserState, Held, state, reduce, applied, close, ended, run, step, start, accept}
use Rattle.lf_parse.proofs.Levels.{level-ge}
use Rattle.lf_parse.proofs.Complete.{complete, accept_step, reduce_left, reduce_sign, close_law, told, labels_told, include_told, grouping_told, behind_told}
use Rattle.lf_parse.proofs.Sound.{sound}

-- ---- tokens that lead to the end

abbrev z : Span
z = record { start = 0; end = 0 }

abbrev a_sign : SignOf → Token
a_sign s = record { kind = kinds.Sign s; span = z }

-- 0, 0s and ""
abbrev zero_text : List ℕ
zero_text = 48 ∷ []

abbrev no_time : List ℕ
no_time = 48 ∷ 115 ∷ []

abbrev a_number : Token
a_number = record { kind = kinds.Number zero_text; span = z }

abbrev a_duration : Token
a_duration = record { kind = kinds.Duration no_time; span = z }

abbrev a_string : Token
a_string = record { kind = kinds.Str []; span = z }

-- what closes the parentheses that are open
abbrev closers : List ParserFrame → List Token
closers [] = []
closers (LeftOf o p m a ∷ fs) = closers fs
closers (Signed neg p ∷ fs) = closers fs
closers (InParen p ∷ fs) = a_sign CloseParen ∷ closers fs
closers (InArgs h xs ∷ fs) = a_sign CloseParen ∷ closers fs

-- some tokens lead from the state to the end
abbrev Done : ParserState → Type 0
Done s = (more : List Token) × (e : Tree) × (accept s (map marked more) ≡ Some e)

ends_step : (s s' : ParserState) (t : Token) → step s (marked t) ≡ Some s' → Done s' → Done s
ends_step s s' t h (more, e, g) = (t ∷ more, e, accept_step s s' (marked t) (map marked more) h ∙ g)

-- what `)` and the end do once the operators are trees
abbrev settle : Held → List MarkedToken → Option Tree
settle h [] = ended h.frames h.tree
settle h ((m at p) ∷ ts) = option_and_then (λ s. accept s ts) (close p h.frames h.tree)

accept_closers : (fs : List ParserFrame) (x : Operand) (gs : List ParserFrame) → accept (state fs (ExpectOperator x)) (map marked (closers gs)) ≡ settle (reduce 1 (operand_end x) fs (operand_tree x)) (map marked (closers gs))
accept_closers fs x [] = refl
accept_closers fs x (LeftOf o p m a ∷ gs) = accept_closers fs x gs
accept_closers fs x (Signed neg p ∷ gs) = accept_closers fs x gs
accept_closers fs x (InParen p ∷ gs) = ap (option_and_then (λ s. accept s (map marked (closers gs)))) (close_law z fs x)
accept_closers fs x (InArgs h xs ∷ gs) = ap (option_and_then (λ s. accept s (map marked (closers gs)))) (close_law z fs x)

ends_settle : (fs : List ParserFrame) (n : ℕ) (e : Tree) → (x : Tree) × (settle (reduce 1 n fs e) (map marked (closers fs)) ≡ Some x)
ends_settle [] n e = (e, refl)
ends_settle (LeftOf o p m a ∷ fs) n e = let y = ends_settle fs n (Binary o m a e p) in (y.0, ap (λ h. settle h (map marked (closers fs))) (reduce_left 1 n o p m a fs e (level-ge o)) ∙ y.1)
ends_settle (Signed neg p ∷ fs) n e = let y = ends_settle fs n (Unary neg e (up_to p n)) in (y.0, ap (λ h. settle h (map marked (closers fs))) (reduce_sign 1 n neg p fs e (omega arith)) ∙ y.1)
ends_settle (InParen p ∷ fs) n e = let x = Paren e (to p z) in let y = ends_settle fs 0 x in (y.0, accept_closers fs (Whole x 0) fs ∙ y.1)
ends_settle (InArgs h xs ∷ fs) n e = let x = applied h (with_last xs e) z in let y = ends_settle fs (operand_end x) (operand_tree x) in (y.0, accept_closers fs x fs ∙ y.1)

ends_have : (fs : List ParserFrame) (x : Operand) → Done (state fs (ExpectOperator x))
ends_have fs x = let y = ends_settle fs (operand_end x) (operand_tree x) in (closers fs, y.0, accept_closers fs x fs ∙ y.1)

ends_want : (fs : List ParserFrame) → Done (state fs ExpectOperand)
ends_want fs = let x = Whole (Number zero_text z) 0 in ends_step (state fs ExpectOperand) (state fs (ExpectOperator x)) a_number refl (ends_have fs x)

ends_first : (fs : List ParserFrame) (h : Callee) → Done (state fs (First h))
ends_first fs h = ends_step (state fs (First h)) (state fs (ExpectOperator (applied h Nil z))) (a_sign CloseParen) refl (ends_have fs (applied h Nil z))

-- ---- lists of labels

module _ (inside : Names → ParserState) (done : List NameOf → Span → ParserState) (law : (n : Names) (t : MarkedToken) → step (inside n) t ≡ told inside done (names_step n t)) (after : (xs : List NameOf) (c : Span) → Done (done xs c)) where
  ends_next_name : (xs : List NameOf) → Done (inside (NextName xs))
  ends_next_name xs = ends_step (inside (NextName xs)) (done xs z) (a_sign CloseParen) (law (NextName xs) (Sign CloseParen at z)) (after xs z)

  ends_names : (n : Names) → Done (inside n)
  ends_names Opening = ends_step (inside Opening) (inside (NextName [])) (a_sign OpenParen) (law Opening (Sign OpenParen at z)) (ends_next_name [])
  ends_names (NextName xs) = ends_next_name xs
  ends_names (AfterName xs) = ends_step (inside (AfterName xs)) (done xs z) (a_sign CloseParen) (law (AfterName xs) (Sign CloseParen at z)) (after xs z)

-- ---- the modifier of an operator

module _ (fs : List ParserFrame) (o : Op) (p : Span) (a : Tree) where
  abbrev here : Stage → ParserState
  here st = state fs (Modifying o p a st)

  ends_operand : (m : MatchingOf) → Done (state (LeftOf o p m a ∷ fs) ExpectOperand)
  ends_operand m = ends_want (LeftOf o p m a ∷ fs)

  -- a number is an operand
  ends_pass : (st : Stage) (m : MatchingOf) → step (here st) (marked a_number) ≡ Some (state (LeftOf o p m a ∷ fs) (ExpectOperator (Whole (Number zero_text z) 0))) → Done (here st)
  ends_pass st m h = ends_step (here st) (state (LeftOf o p m a ∷ fs) (ExpectOperator (Whole (Number zero_text z) 0))) a_number h (ends_have (LeftOf o p m a ∷ fs) (Whole (Number zero_text z) 0))

  ends_stage : (st : Stage) → Done (here st)
  ends_stage Begin = ends_pass Begin (unmatched false (behind p)) refl
  ends_stage (AfterBool b) = ends_pass (AfterBool b) (unmatched true b) refl
  ends_stage (InLabels f n) =
      ends_names (λ m. here (InLabels f m)) (λ xs c. here (AfterLabels f xs c)) (λ m t. labels_told fs o p a f t (names_step m t)) (λ xs c. ends_pass (AfterLabels f xs c) (modifier f xs c) refl) n
  ends_stage (AfterLabels f xs c) = ends_pass (AfterLabels f xs c) (modifier f xs c) refl
  ends_stage (AfterGroup f xs s q) = ends_pass (AfterGroup f xs s q) (group_modifier f xs s [] q) refl
  ends_stage (InInclude f xs s n) =
      ends_names (λ m. here (InInclude f xs s m)) (λ ys c. state (LeftOf o p (group_modifier f xs s ys c) a ∷ fs) ExpectOperand) (λ m t. include_told fs o p a f xs s t (names_step m t)) (λ ys c. ends_operand (group_modifier f xs s ys c)) n

-- ---- selectors and what comes behind them

module _ (fs : List ParserFrame) (nm : Option (List ℕ)) (p : Span) where
  abbrev braces : Braces → ParserState
  braces b = state fs (InBraces nm p b)

  ends_selected : (xs : List Matcher) → Done (state fs (ExpectOperator (Selected nm xs (to p z))))
  ends_selected xs = ends_have fs (Selected nm xs (to p z))

  ends_after_matcher : (xs : List Matcher) → Done (braces (AfterMatcher xs))
  ends_after_matcher xs = ends_step (braces (AfterMatcher xs)) (state fs (ExpectOperator (Selected nm xs (to p z)))) (a_sign CloseBrace) refl (ends_selected xs)

  ends_after_sign : (xs : List Matcher) (n : NameOf) (o : MatchOp) → Done (braces (AfterSign xs n o))
  ends_after_sign xs n o = let ys = xs ++ matcher n o [] z ∷ [] in ends_step (braces (AfterSign xs n o)) (braces (AfterMatcher ys)) a_string refl (ends_after_matcher ys)

  ends_braces : (b : Braces) → Done (braces b)
  ends_braces (NextMatcher xs) = ends_step (braces (NextMatcher xs)) (state fs (ExpectOperator (Selected nm xs (to p z)))) (a_sign CloseBrace) refl (ends_selected xs)
  ends_braces (AfterLabel xs n) = ends_step (braces (AfterLabel xs n)) (braces (AfterSign xs n match_op.Equal)) (a_sign Is) refl (ends_after_sign xs n match_op.Equal)
  ends_braces (AfterSign xs n o) = ends_after_sign xs n o
  ends_braces (AfterMatcher xs) = ends_after_matcher xs

module _ (fs : List ParserFrame) (x : Subject) (s : Sight) (p : Span) where
  abbrev mod_state : ModStage → ParserState
  mod_state stage = state fs (InMod x s p stage)

  ends_in_edge : (e : RangeEnd) → Done (mod_state (InEdge e))
  ends_in_edge e = let y = Sighted x (with_mod s (AtTime (edge_text e))) p 0 in ends_step (mod_state (InEdge e)) (state fs (ExpectOperator y)) (a_sign CloseParen) refl (ends_have fs y)

  ends_mod : (stage : ModStage) → Done (mod_state stage)
  ends_mod AfterOffset = let y = Sighted x (with_mod s (OffsetBy no_time)) p 0 in ends_step (mod_state AfterOffset) (state fs (ExpectOperator y)) a_duration refl (ends_have fs y)
  ends_mod AfterOffsetMinus = let y = Sighted x (with_mod s (OffsetBy (45 ∷ no_time))) p 0 in ends_step (mod_state AfterOffsetMinus) (state fs (ExpectOperator y)) a_duration refl (ends_have fs y)
  ends_mod AfterAt = let y = Sighted x (with_mod s (AtTime zero_text)) p 0 in ends_step (mod_state AfterAt) (state fs (ExpectOperator y)) a_number refl (ends_have fs y)
  ends_mod (AfterAtSign b) = let y = Sighted x (with_mod s (AtTime (b ∷ zero_text))) p 0 in ends_step (mod_state (AfterAtSign b)) (state fs (ExpectOperator y)) a_number refl (ends_have fs y)
  ends_mod (AfterEdge e) = ends_step (mod_state (AfterEdge e)) (mod_state (InEdge e)) (a_sign OpenParen) refl (ends_in_edge e)
  ends_mod (InEdge e) = ends_in_edge e

ends_colon : (fs : List ParserFrame) (e : Tree) (d : List ℕ) (q : Span) → Done (state fs (AfterColon e d q))
ends_colon fs e d q = let x = Sighted (OfSubquery e) (stepped d q None) (to (span_of e) z) 0 in ends_step (state fs (AfterColon e d q)) (state fs (ExpectOperator x)) (a_sign CloseBracket) refl (ends_have fs x)

ends_range : (fs : List ParserFrame) (x : Operand) (d : List ℕ) (q : Span) → Done (state fs (AfterRange x d q))
ends_range fs x d q = ends_step (state fs (AfterRange x d q)) (state fs (AfterColon (operand_tree x) d q)) (a_sign Colon) refl (ends_colon fs (operand_tree x) d q)

-- ---- groupings

module _ (fs : List ParserFrame) (a : Agg) (p : Span) (k : Clause) where
  ends_grouped : (g : GroupingOf) → Done (state fs (AfterGrouping a p g))
  ends_grouped g = ends_step (state fs (AfterGrouping a p g)) (state fs (First (OfGrouped a g p))) (a_sign OpenParen) refl (ends_first fs (OfGrouped a g p))

  ends_grouping : (n : Names) → Done (state fs (InGrouping a p k n))
  ends_grouping n = ends_names (λ m. state fs (InGrouping a p k m)) (λ xs c. state fs (AfterGrouping a p (grouping k xs))) (λ m t. grouping_told fs a p k (names_step m t)) (λ xs c. ends_grouped (grouping k xs)) n

  ends_behind : (xs : Trees) (n : Names) → Done (state fs (InGroupingBehind a p xs k n))
  ends_behind xs n = ends_names (λ m. state fs (InGroupingBehind a p xs k m)) (λ ys c. state fs (ExpectOperator (Whole (Aggregate a (grouping k ys) xs p) c.end))) (λ m t. behind_told fs a p k xs (names_step m t)) (λ ys c. ends_have fs (Whole (Aggregate a (grouping k ys) xs p) c.end)) n

-- ---- the whole

-- from each state some tokens lead to the end
ends : (fs : List ParserFrame) (m : ParserMode) → Done (state fs m)
ends fs ExpectOperand = ends_want fs
ends fs (First h) = ends_first fs h
ends fs (ExpectOperator x) = ends_have fs x
ends fs (Modifying o p a st) = ends_stage fs o p a st
ends fs (InBraces nm p b) = ends_braces fs nm p b
ends fs (InMod x s p stage) = ends_mod fs x s p stage
ends fs (AfterBracket x) = ends_step (state fs (AfterBracket x)) (state fs (AfterRange x no_time z)) a_duration refl (ends_range fs x no_time z)
ends fs (AfterRange x d q) = ends_range fs x d q
ends fs (AfterColon e d q) = ends_colon fs e d q
ends fs (AfterStep e d q x) = let y = Sighted (OfSubquery e) (stepped d q (Some x)) (to (span_of e) z) 0 in ends_step (state fs (AfterStep e d q x)) (state fs (ExpectOperator y)) (a_sign CloseBracket) refl (ends_have fs y)
ends fs (AfterAggregation a p) = ends_step (state fs (AfterAggregation a p)) (state fs (First (OfAggregate a p))) (a_sign OpenParen) refl (ends_first fs (OfAggregate a p))
ends fs (InGrouping a p k n) = ends_grouping fs a p k n
ends fs (AfterGrouping a p g) = ends_step (state fs (AfterGrouping a p g)) (state fs (First (OfGrouped a g p))) (a_sign OpenParen) refl (ends_first fs (OfGrouped a g p))
ends fs (InGroupingBehind a p xs k n) = ends_behind fs a p k xs n

through : {A B C : Type 0} (f : A → Option C) (g : A → Option B) (h : B → Option C) → ((a : A) → f a ≡ option_and_then h (g a)) → (o : Option A) → option_and_then f o ≡ option_and_then h (option_and_then g o)
through f g h e None = refl
through f g h e (Some a) = e a

-- a run goes on from where a run ends
accept_append : (xs ys : List MarkedToken) (s : ParserState) → accept s (xs ++ ys) ≡ option_and_then (λ s'. accept s' ys) (run s xs)
accept_append [] ys s = refl
accept_append (x ∷ xs) ys s = through (λ s'. accept s' (xs ++ ys)) (λ s'. run s' xs) (λ s'. accept s' ys) (λ s'. accept_append xs ys s') (step s x)

-- tokens that the machine takes are viable
pub viable_run : (ts : List Token) (s : ParserState) → run start (map marked ts) ≡ Some s → IsViable ts
viable_run ts s h =
    let y = ends s.frames s.mode in
    let taken : accept start (map marked (ts ++ y.0)) ≡ Some y.1 = ap (accept start) (map-append marked ts y.0) ∙ accept_append (map marked ts) (map marked y.0) start ∙ ap (option_and_then (λ s'. accept s' (map marked y.0))) h ∙ y.2 in
    (y.0, y.1, sound (map marked (ts ++ y.0)) y.1 taken)

-- tokens that it doesn't take are not
pub stuck_run : (ts : List Token) → run start (map marked ts) ≡ None → IsViable ts → ⊥
stuck_run ts h v =
    let e = sym (complete (map marked (ts ++ v.0)) v.1 v.2) ∙ ap (accept start) (map-append marked ts v.0) ∙ accept_append (map marked ts) (map marked v.0) start ∙ ap (option_and_then (λ s'. accept s' (map marked v.0))) h in
    cc

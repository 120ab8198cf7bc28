-- Each breach of patterns and selectors stands where the expression does.
use Rattle.std.proofs.Common.{ℕ, zero, suc, List, inl, inr, Option, Some, None}
use Rattle.std.specs.Prelude.{option_and_then}
use Rattle.lf_base.specs.Faults.{LiesIn}
use Rattle.lf_ast.specs.Functions.{Signature, function_named}
use Rattle.lf_ast.specs.Inside.{EachInside, Inside, MatchersInside}
use Rattle.lf_ast.specs.Tree.{Tree, Trees, Number, Str, Selector, Subquery, Paren, Unary, Binary, Call, Aggregate, Nil, Next}
use Rattle.lf_ast.specs.declared.expr.Matcher.{Matcher}
use Rattle.lf_base.specs.declared.fault.Fault.{Fault}
use Rattle.lf_ast.specs.declared.functions.LabelEffect.{LabelEffect}
use Rattle.lf_ast.specs.declared.functions.LabelEffect.TheVariants.{LabelReplace}
use Rattle.lf_semantics.specs.Parts.{argument_at}
use Rattle.lf_semantics.specs.PatternBreaches.{AnyBreaksPatterns, BreaksPatterns, HasUnread, IsUnreadString, called_with, pattern_argument, placed_string}
use Rattle.lf_ast.proofs.BreachesInside.{at_span}
use Rattle.lf_semantics.proofs.Members.{one_of}

module _ (n : ℕ) where
  at_matcher : (matchers : List Matcher) (f : Fault) → MatchersInside n matchers → HasUnread matchers f → LiesIn n f.span
  at_matcher matchers f h unread =
      at_span n _ unread.0.value_span f (one_of (λ (m : Matcher). LiesIn n m.label_span × LiesIn n m.value_span) matchers unread.0 h unread.1).1 unread.3.1

  at_string : (e : Tree) (f : Fault) → Inside n e → IsUnreadString (placed_string e) f → LiesIn n f.span
  at_string (Str text span) f h unread = at_span n _ span f h unread.1
  at_string (Paren of span) f h unread = at_string of f h.1 unread
  at_string (Number text span) f h unread = absurd unread
  at_string (Selector name matchers sight span) f h unread = absurd unread
  at_string (Subquery of sight span) f h unread = absurd unread
  at_string (Unary minus of span) f h unread = absurd unread
  at_string (Binary op m left right span) f h unread = absurd unread
  at_string (Call name args span) f h unread = absurd unread
  at_string (Aggregate op grouping args span) f h unread = absurd unread

  at_argument : (args : Trees) (k : ℕ) (f : Fault) → EachInside n args → IsUnreadString (option_and_then placed_string (argument_at args k)) f → LiesIn n f.span
  at_argument Nil k f h unread = absurd unread
  at_argument (Next x xs) zero f h unread = at_string x f h.0 unread
  at_argument (Next x xs) (suc k) f h unread = at_argument xs k f h.1 unread

  at_pattern : (effect : LabelEffect) (args : Trees) (f : Fault) → EachInside n args → IsUnreadString (pattern_argument effect args) f → LiesIn n f.span
  at_pattern LabelReplace args f h unread = at_argument args 4 f h unread
  at_pattern _ args f h unread = absurd unread

  at_call : (o : Option Signature) (args : Trees) (f : Fault) → EachInside n args → IsUnreadString (called_with o args) f → LiesIn n f.span
  at_call None args f h unread = absurd unread
  at_call (Some s) args f h unread = at_pattern s.labels args f h unread

  mutual
    pub pattern_within : (e : Tree) (f : Fault) → Inside n e → BreaksPatterns e f → LiesIn n f.span
    pattern_within (Number text span) f h b = absurd b
    pattern_within (Str text span) f h b = absurd b
    pattern_within (Selector name matchers sight span) f h (inl b) = at_matcher matchers f h.1 b
    pattern_within (Selector name matchers sight span) f h (inr b) = at_span n _ span f h.0 b.1
    pattern_within (Subquery of sight span) f h b = pattern_within of f h.1 b
    pattern_within (Paren of span) f h b = pattern_within of f h.1 b
    pattern_within (Unary minus of span) f h b = pattern_within of f h.1 b
    pattern_within (Binary op m left right span) f h (inl b) = pattern_within left f h.2 b
    pattern_within (Binary op m left right span) f h (inr b) = pattern_within right f h.3 b
    pattern_within (Call name args span) f h (inl b) = patterns_within args f h.1 b
    pattern_within (Call name args span) f h (inr b) = at_call (function_named name) args f h.1 b
    pattern_within (Aggregate op grouping args span) f h b = patterns_within args f h.2 b

    patterns_within : (args : Trees) (f : Fault) → EachInside n args → AnyBreaksPatterns args f → LiesIn n f.span
    patterns_within Nil f h b = absurd b
    patterns_within (Next x xs) f h (inl b) = pattern_within x f h.0 b
    patterns_within (Next x xs) f h (inr b) = patterns_within xs f h.1 b

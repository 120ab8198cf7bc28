-- Each breach of an expression stands where the expression does.
use Rattle.std.proofs.Common.{◌≡◌, inl, inr, ℕ, ◌+◌, Bool, sym, subst}
use Rattle.lf_base.specs.declared.kind.Kind.{Kind}
use Rattle.lf_base.specs.declared.place.Span.{Span}
use Rattle.lf_base.specs.Faults.{LiesIn, fault}
use Rattle.lf_ast.specs.Breaches.{Breaks, BreaksAny, HasBadArgument, IsBadArgument, IsBadCall, IsEmptyRange, IsOther}
use Rattle.lf_ast.specs.Functions.{Signature, aggregation}
use Rattle.lf_ast.specs.Inside.{EachInside, Inside}
use Rattle.lf_ast.specs.Tree.{Tree, Trees, Number, Str, Selector, Subquery, Paren, Unary, Binary, Call, Aggregate, Nil, Next, span_of}
use Rattle.lf_ast.specs.declared.expr.ExprType.{ExprType}
use Rattle.lf_ast.specs.declared.expr.Sight.{Sight}
use Rattle.lf_base.specs.declared.fault.Fault.{Fault}

module _ (n : ℕ) where
  pub at_span : (kind : Kind) (span : Span) (f : Fault) → LiesIn n span → f ≡ fault kind span → LiesIn n f.span
  at_span kind span f within is = subst (λ (g : Fault). LiesIn n g.span) (sym is) within

  pub span_lies : (e : Tree) → Inside n e → LiesIn n (span_of e)
  span_lies (Number text span) h = h
  span_lies (Str text span) h = h
  span_lies (Selector name matchers sight span) h = h.0
  span_lies (Subquery of sight span) h = h.0
  span_lies (Paren of span) h = h.0
  span_lies (Unary minus of span) h = h.0
  span_lies (Binary op m left right span) h = h.0
  span_lies (Call name args span) h = h.0
  span_lies (Aggregate op grouping args span) h = h.0

  at_range : (sight : Sight) (f : Fault) → LiesIn n sight.range_span → IsEmptyRange sight f → LiesIn n f.span
  at_range sight f h breach = at_span _ sight.range_span f h breach.1

  at_operand : (takes : ExprType → Bool) (e : Tree) (f : Fault) → Inside n e → IsOther takes e f → LiesIn n f.span
  at_operand takes e f h other = at_span _ (span_of e) f (span_lies e h) other.3

  at_argument : (s : Signature) (k : ℕ) (e : Tree) (f : Fault) → Inside n e → IsBadArgument s k e f → LiesIn n f.span
  at_argument s k e f h bad = elim bad.2 [ inl b ↦ at_span _ (span_of e) f (span_lies e h) b.1 | inr b ↦ at_span _ (span_of e) f (span_lies e h) b.2 ]

  at_arguments : (args : Trees) (s : Signature) (k : ℕ) (f : Fault) → EachInside n args → HasBadArgument args s k f → LiesIn n f.span
  at_arguments Nil s k f h bad = absurd bad
  at_arguments (Next x xs) s k f h (inl bad) = at_argument s k x f h.0 bad
  at_arguments (Next x xs) s k f h (inr bad) = at_arguments xs s (k + 1) f h.1 bad

  at_call : (args : Trees) (span : Span) (s : Signature) (f : Fault) → LiesIn n span → EachInside n args → IsBadCall args span s f → LiesIn n f.span
  at_call args span s f within h (inl bad) = at_span _ span f within bad.1
  at_call args span s f within h (inr bad) = at_arguments args s 0 f h bad.1

  mutual
    pub breach_lies : (e : Tree) (f : Fault) → Inside n e → Breaks e f → LiesIn n f.span
    breach_lies (Number text span) f h b = absurd b
    breach_lies (Str text span) f h b = absurd b
    breach_lies (Selector name matchers sight span) f h b = at_range sight f h.2 b
    breach_lies (Subquery of sight span) f h (inl b) = breach_lies of f h.1 b
    breach_lies (Subquery of sight span) f h (inr (inl b)) = at_operand _ of f h.1 b
    breach_lies (Subquery of sight span) f h (inr (inr b)) = at_range sight f h.2 b
    breach_lies (Paren of span) f h b = breach_lies of f h.1 b
    breach_lies (Unary minus of span) f h (inl b) = breach_lies of f h.1 b
    breach_lies (Unary minus of span) f h (inr b) = at_operand _ of f h.1 b
    breach_lies (Binary op m left right span) f h (inl b) = breach_lies left f h.2 b
    breach_lies (Binary op m left right span) f h (inr (inl b)) = at_operand _ left f h.2 b
    breach_lies (Binary op m left right span) f h (inr (inr (inl b))) = breach_lies right f h.3 b
    breach_lies (Binary op m left right span) f h (inr (inr (inr (inl b)))) = at_operand _ right f h.3 b
    breach_lies (Binary op m left right span) f h (inr (inr (inr (inr b)))) = at_span _ span f h.0 b.1
    breach_lies (Call name args span) f h (inl b) = breaches_lie args f h.1 b
    breach_lies (Call name args span) f h (inr (inl b)) = at_span _ span f h.0 b.1
    breach_lies (Call name args span) f h (inr (inr b)) = at_call args span b.0 f h.0 h.1 b.2
    breach_lies (Aggregate op grouping args span) f h (inl b) = breaches_lie args f h.2 b
    breach_lies (Aggregate op grouping args span) f h (inr b) = at_call args span (aggregation op) f h.0 h.2 b

    breaches_lie : (args : Trees) (f : Fault) → EachInside n args → BreaksAny args f → LiesIn n f.span
    breaches_lie Nil f h b = absurd b
    breaches_lie (Next x xs) f h (inl b) = breach_lies x f h.0 b
    breaches_lie (Next x xs) f h (inr b) = breaches_lie xs f h.1 b

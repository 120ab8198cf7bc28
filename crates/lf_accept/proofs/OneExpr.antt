-- A scalar's text is one expression or breaks with one breach, and never both.
use Rattle.std.proofs.Common.{◌≡◌, ◌⊎◌, inl, inr, ◌∙◌, ℕ, List, refl, sym, subst}
use Rattle.lf_base.specs.declared.fault.Fault.{Fault}
use Rattle.lf_base.specs.Answers.{OneAnswer}
use Rattle.lf_ast.specs.Breaches.{Tells}
use Rattle.lf_ast.specs.Tree.{Tree}
use Rattle.lf_ast.specs.Types.{HasType}
use Rattle.lf_ast.specs.declared.expr.ExprType.{ExprType}
use Rattle.lf_base.proofs.Answering.{one_answer}
use Rattle.lf_ast.specs.reading.Judging.{judged}
use Rattle.lf_ast.proofs.Judged.{decides}
use Rattle.lf_classes.proofs.FaultsFound.{passes_or_tells}
use Rattle.lf_lex.specs.Tokens.{Tokens, Breaks}
use Rattle.lf_lex.specs.declared.token.Token.{Token}
use Rattle.lf_lex.proofs.TokenLaws.{one_answer as one_lexing}
use Rattle.lf_parse.specs.Answer.{IsExpression, Refuses}
use Rattle.lf_parse.proofs.Answering.{one_reading as one_parsing}
use Rattle.lf_scalar.specs.Cells.{Value}
use Rattle.lf_semantics.specs.PatternBreaches.{BreaksPatterns, TellsPattern}
use Rattle.lf_semantics.proofs.PatternFaults.{tells_one}
use Rattle.lf_accept.specs.Accepted.{BreaksExpr, IsExpr, IsJudged, bad_pattern, bad_tokens, end_of, no_expression, no_type}
use Rattle.lf_accept.specs.views.Checked.{BreaksJudged}
use Rattle.lf_accept.proofs.Chained.{Both, BreaksEither, chained, in_other_words}

-- ---- an expression stands as judged, or breaks something

pub one_type : (e : Tree) → OneAnswer (HasType e) (Tells e)
one_type e = one_answer (HasType e) (Tells e) (judged e) (decides e)

-- it is this one, and it stands
abbrev Stands : Tree → Tree → Type 0
Stands e d = (d ≡ e) × IsJudged e

one_breach : (e : Tree) (f g : Fault) → BreaksJudged e f → BreaksJudged e g → f ≡ g
one_breach e f g (inl h) (inl k) = (one_type e).breach f g h k
one_breach e f g (inl h) (inr k) = absurd ((one_type e).one k.0 f k.1 h)
one_breach e f g (inr h) (inl k) = absurd ((one_type e).one h.0 g h.1 k)
one_breach e f g (inr h) (inr k) = tells_one e f g h.2 k.2

stands_or : (e : Tree) (f : Fault) → IsJudged e → BreaksJudged e f → ⊥
stands_or e f h (inl k) = (one_type e).one h.type f h.has_type k
stands_or e f h (inr k) = h.unbroken f k.2.0

some_judged : (e : Tree) → ((d : Tree) × Stands e d) ⊎ ((f : Fault) × BreaksJudged e f)
some_judged e = by (one_type e).some
  where
    typed : (t : ExprType) → HasType e t → ((f : Fault) → BreaksPatterns e f → ⊥) ⊎ ((f : Fault) × TellsPattern e f) → ((d : Tree) × Stands e d) ⊎ ((f : Fault) × BreaksJudged e f)
    typed t h (inl unbroken) = inl (e, (refl, record { type = t; has_type = h; unbroken = unbroken }))
    typed t h (inr f) = inr (f.0, inr (t, h, f.1))

    by : ((t : ExprType) × HasType e t) ⊎ ((f : Fault) × Tells e f) → ((d : Tree) × Stands e d) ⊎ ((f : Fault) × BreaksJudged e f)
    by (inl t) = typed t.0 t.1 (passes_or_tells e)
    by (inr f) = inr (f.0, inl f.1)

one_judged : (e : Tree) → OneAnswer (Stands e) (BreaksJudged e)
one_judged e = record { value = λ x y h k. h.0 ∙ sym k.0; breach = one_breach e; one = λ x f h k. stands_or e f h.1 k; some = some_judged e }

-- ---- so a scalar has one expression or one breach

module _ (v : Value) where
  abbrev end : ℕ
  end = end_of v

  abbrev Read : List Token → Tree → Type 0
  Read ts = Both (IsExpression ts) (Refuses ts end) Stands BreaksJudged

  abbrev BreaksRead : List Token → Fault → Type 0
  BreaksRead ts = BreaksEither (IsExpression ts) (Refuses ts end) Stands BreaksJudged

  abbrev Reads : Tree → Type 0
  Reads = Both (Tokens v.from v.text) (Breaks v.from v.text) Read BreaksRead

  abbrev BreaksReads : Fault → Type 0
  BreaksReads = BreaksEither (Tokens v.from v.text) (Breaks v.from v.text) Read BreaksRead

  to : (e : Tree) → Reads e → IsExpr v e
  to e h =
      let is : e ≡ h.2.0 = h.2.2.0 in
      subst (IsExpr v) (sym is) (record { tokens = h.0; are_tokens = h.1; expression = h.2.1; judged = h.2.2.1 })

  from : (e : Tree) → IsExpr v e → Reads e
  from e h = (h.tokens, h.are_tokens, (e, h.expression, (refl, h.judged)))

  breaks : (f : Fault) → BreaksReads f → BreaksExpr v f
  breaks f (inl h) = bad_tokens h
  breaks f (inr (ts, h, inl r)) = no_expression h r
  breaks f (inr (ts, h, inr (e, x, inl t))) = no_type e h x t
  breaks f (inr (ts, h, inr (e, x, inr t))) = bad_pattern e t.0 h x t.1 t.2

  back : (f : Fault) → BreaksExpr v f → BreaksReads f
  back f (bad_tokens h) = inl h
  back f (no_expression {tokens = ts} h r) = inr (ts, h, inl r)
  back f (no_type {tokens = ts} e h x t) = inr (ts, h, inr (e, x, inl t))
  back f (bad_pattern {tokens = ts} e t h x typed told) = inr (ts, h, inr (e, x, inr (t, typed, told)))

  pub one_expr : OneAnswer (IsExpr v) (BreaksExpr v)
  one_expr =
      in_other_words Reads (IsExpr v) BreaksReads (BreaksExpr v) to from breaks back
      (chained (Tokens v.from v.text) (Breaks v.from v.text) Read BreaksRead (one_lexing v.from v.text)
      (λ ts. chained (IsExpression ts) (Refuses ts end) Stands BreaksJudged (one_parsing ts end) one_judged))

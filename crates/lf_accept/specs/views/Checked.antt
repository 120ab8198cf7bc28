-- What the steps of the code have found of rules. It defines nothing of files.
use mathlib.Core.Logic.{inl, inr}
use Rattle.std.specs.Prelude.{◌⊎◌, ℕ, List}
use Rattle.lf_base.specs.declared.fault.Fault.{Fault}
use Rattle.lf_ast.specs.Breaches.{Tells}
use Rattle.lf_ast.specs.Tree.{Tree}
use Rattle.lf_ast.specs.Types.{HasType}
use Rattle.lf_ast.specs.declared.expr.ExprType.{ExprType}
use Rattle.lf_lex.specs.declared.token.Token.{Token}
use Rattle.lf_parse.specs.Answer.{IsExpression, Refuses}
use Rattle.lf_rules.specs.Sources.{Source}
use Rattle.lf_semantics.specs.PatternBreaches.{TellsPattern}
use Rattle.lf_accept.specs.Accepted.{BreaksExpr, HasExpr, IsFirst, IsJudged}
use Rattle.lf_accept.specs.Allowance.{count_in}

-- it has no type, or it has one, and breaks something by its patterns and its selectors
abbrev pub BreaksJudged : Tree → Fault → Type 0
BreaksJudged e f = Tells e f ⊎ ((t : ExprType) × HasType e t × TellsPattern e f)

-- the tokens are this expression within the bounds, and it stands as judged
abbrev pub AreJudged : List Token → Tree → Type 0
AreJudged tokens e = IsExpression tokens e × IsJudged e

-- the tokens aren't an expression within the bounds, or it breaks something as judged
abbrev pub BreakJudged : List Token → ℕ → Fault → Type 0
BreakJudged tokens end f = Refuses tokens end f ⊎ ((e : Tree) × IsExpression tokens e × BreaksJudged e f)

-- what is taken of the patterns before such a breach is told
abbrev pub judged_taken : (e : Tree) (f : Fault) → BreaksJudged e f → ℕ
judged_taken e f (inl told) = 0
judged_taken e f (inr told) = count_in e

abbrev pub read_taken : (tokens : List Token) (end : ℕ) (f : Fault) → BreakJudged tokens end f → ℕ
read_taken tokens end f (inl refused) = 0
read_taken tokens end f (inr told) = judged_taken told.0 f told.2

-- the breach is one of the first expression that has any
abbrev pub HasBreach : List Source → Fault → Type 0
HasBreach sources f = (s : Source) × IsFirst HasExpr (λ s. BreaksExpr s.expr f) sources s

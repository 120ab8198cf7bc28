-- What is open at an operator, by which operator it is.
use Rattle.std.proofs.Common.{◌⊎◌, ◌↔◌, true, false, true≢false, not, IsTrue, List, refl, sym}
use Rattle.std.proofs.lemmas.Bool.{not-true, not_from_false}
use Rattle.lf_base.specs.declared.place.Span.{Span}
use Rattle.lf_ast.specs.Rules.{RuleTree}
use Rattle.lf_ast.specs.Tree.{Tree, Binary}
use Rattle.lf_ast.specs.declared.expr.Matching.{Matching}
use Rattle.lf_ast.specs.declared.expr.Op.{Op}
use Rattle.lf_ast.specs.declared.expr.Op.TheVariants.{Add, Subtract, Multiply, Divide, Modulo, Power, Atan2, Equal, NotEqual, LessOrEqual, Less, GreaterOrEqual, Greater, And, Or, Unless}
use Rattle.lf_trials.specs.Forks.{HoldsFork, is_or}
use Rattle.lf_open.specs.Constructs.{AreVectors, IsLoudOr, IsLoudUnless, JoinsFork}
use Rattle.lf_open.specs.Holding.{CannotBeSilent}
use Rattle.lf_open.specs.views.Sides.{is_unless}

pub never : {P : Type 0} → IsTrue false → P
never e = absurd (true≢false (sym e))

module _ (rules : List RuleTree) (m : Matching) (l r : Tree) (span : Span) where
  pub joins_by : (op : Op) → (IsTrue (not (is_or op)) × AreVectors l r × (HoldsFork rules l ⊎ HoldsFork rules r)) ↔ JoinsFork rules (Binary op m l r span)
  joins_by op = (λ h. (not-true (is_or op) h.0, h.1, h.2), λ h. (not_from_false (is_or op) h.0, h.1, h.2))

  pub or_by : (op : Op) → (IsTrue (is_or op) × AreVectors l r × (CannotBeSilent rules l ⊎ CannotBeSilent rules r)) ↔ IsLoudOr rules (Binary op m l r span)
  or_by Or = (λ h. (h.1, h.2), λ h. (refl, h.0, h.1))
  or_by Add = (λ h. never h.0, λ h. absurd h)
  or_by Subtract = (λ h. never h.0, λ h. absurd h)
  or_by Multiply = (λ h. never h.0, λ h. absurd h)
  or_by Divide = (λ h. never h.0, λ h. absurd h)
  or_by Modulo = (λ h. never h.0, λ h. absurd h)
  or_by Power = (λ h. never h.0, λ h. absurd h)
  or_by Atan2 = (λ h. never h.0, λ h. absurd h)
  or_by Equal = (λ h. never h.0, λ h. absurd h)
  or_by NotEqual = (λ h. never h.0, λ h. absurd h)
  or_by LessOrEqual = (λ h. never h.0, λ h. absurd h)
  or_by Less = (λ h. never h.0, λ h. absurd h)
  or_by GreaterOrEqual = (λ h. never h.0, λ h. absurd h)
  or_by Greater = (λ h. never h.0, λ h. absurd h)
  or_by And = (λ h. never h.0, λ h. absurd h)
  or_by Unless = (λ h. never h.0, λ h. absurd h)

  pub unless_by : (op : Op) → (IsTrue (is_unless op) × AreVectors l r × CannotBeSilent rules r) ↔ IsLoudUnless rules (Binary op m l r span)
  unless_by Unless = (λ h. (h.1, h.2), λ h. (refl, h.0, h.1))
  unless_by Add = (λ h. never h.0, λ h. absurd h)
  unless_by Subtract = (λ h. never h.0, λ h. absurd h)
  unless_by Multiply = (λ h. never h.0, λ h. absurd h)
  unless_by Divide = (λ h. never h.0, λ h. absurd h)
  unless_by Modulo = (λ h. never h.0, λ h. absurd h)
  unless_by Power = (λ h. never h.0, λ h. absurd h)
  unless_by Atan2 = (λ h. never h.0, λ h. absurd h)
  unless_by Equal = (λ h. never h.0, λ h. absurd h)
  unless_by NotEqual = (λ h. never h.0, λ h. absurd h)
  unless_by LessOrEqual = (λ h. never h.0, λ h. absurd h)
  unless_by Less = (λ h. never h.0, λ h. absurd h)
  unless_by GreaterOrEqual = (λ h. never h.0, λ h. absurd h)
  unless_by Greater = (λ h. never h.0, λ h. absurd h)
  unless_by And = (λ h. never h.0, λ h. absurd h)
  unless_by Or = (λ h. never h.0, λ h. absurd h)

-- The levels of the operators.
use Rattle.std.proofs.Common.{◌≡◌, ◌+◌, ◌≤◌, ◌<◌, ◌⊎◌, inl, inr, refl, arith}
use Rattle.lf_ast.specs.declared.expr.Op.{Op}
use Rattle.lf_ast.specs.declared.expr.Op.TheVariants.{Add, Subtract, Multiply, Divide, Modulo, Power, Atan2, Equal, NotEqual, LessOrEqual, Less, GreaterOrEqual, Greater, And, Or, Unless}
use Rattle.lf_parse.specs.Grammar.{level, left_level, right_level}

-- an operator groups to the left, or is the power
abbrev Levels : Op → Type 0
Levels o = ((left_level o ≡ level o) × (right_level o ≡ level o + 1) × (1 ≤ level o) × (level o ≤ 5)) ⊎ ((level o ≡ 6) × (left_level o ≡ 7) × (right_level o ≡ 6))

pub levels : (o : Op) → Levels o
levels Add = inl (refl, refl, omega arith, omega arith)
levels Subtract = inl (refl, refl, omega arith, omega arith)
levels Multiply = inl (refl, refl, omega arith, omega arith)
levels Divide = inl (refl, refl, omega arith, omega arith)
levels Modulo = inl (refl, refl, omega arith, omega arith)
levels Atan2 = inl (refl, refl, omega arith, omega arith)
levels Equal = inl (refl, refl, omega arith, omega arith)
levels NotEqual = inl (refl, refl, omega arith, omega arith)
levels LessOrEqual = inl (refl, refl, omega arith, omega arith)
levels Less = inl (refl, refl, omega arith, omega arith)
levels GreaterOrEqual = inl (refl, refl, omega arith, omega arith)
levels Greater = inl (refl, refl, omega arith, omega arith)
levels And = inl (refl, refl, omega arith, omega arith)
levels Or = inl (refl, refl, omega arith, omega arith)
levels Unless = inl (refl, refl, omega arith, omega arith)
levels Power = inr (refl, refl, refl)

pub level-ge : (o : Op) → 1 ≤ level o
level-ge o = omega (arith, levels o)

pub level-le : (o : Op) → level o ≤ 6
level-le o = omega (arith, levels o)

pub level-le_right : (o : Op) → level o ≤ right_level o
level-le_right o = omega (arith, levels o)

pub level-le_left : (o : Op) → level o ≤ left_level o
level-le_left o = omega (arith, levels o)

pub left-le : (o : Op) → left_level o ≤ 7
left-le o = omega (arith, levels o)

pub right-le : (o : Op) → right_level o ≤ 6
right-le o = omega (arith, levels o)

-- a left operand's level is the operator's, or none that an operator makes
pub left_cases : (o p : Op) → level p < left_level o → right_level p ≤ level o
left_cases o p h = omega (arith, levels o, levels p)

-- an operator in a right operand binds tighter than the operator before
pub right_tighter : (o p : Op) → right_level o ≤ level p → level o < left_level p
right_tighter o p h = omega (arith, levels o, levels p)

pub sign_tighter : (p : Op) → 6 ≤ level p → 6 < left_level p
sign_tighter p h = omega (arith, levels p)

pub sign_under : (o : Op) → 6 < left_level o → 6 ≤ level o
sign_under o h = omega (arith, levels o)

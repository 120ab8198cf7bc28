-- Which tokens are an expression, and why others are refused.
use Rattle.std.specs.Prelude.{◌≡◌, ℕ, zero, suc, ◌+◌, ◌<◌, ◌≤◌, List, [], ◌∷◌, length, take}
use Rattle.lf_base.specs.declared.kind.Kind.TheVariants.{TooDeep, Syntax}
use Rattle.lf_base.specs.declared.place.Span.{Span}
use Rattle.lf_base.specs.Faults.{fault}
use Rattle.lf_lex.specs.declared.token.Token.{Token}
use Rattle.lf_base.specs.declared.fault.Fault.{Fault}
use Rattle.lf_ast.specs.Tree.{Tree}
use Rattle.lf_parse.specs.Grammar.{Parses, IsViable}
use Rattle.lf_parse.specs.Depth.{TooDeepAt, IsBounded}

-- the tokens are an expression within the bounds, whose tree is e
abbrev pub IsExpression : List Token → Tree → Type 0
IsExpression ts e = IsBounded ts × Parses ts e

-- the first k tokens are viable, and the first k + 1 aren't; at the end they are no expression
pub record SyntaxAt (ts : List Token) (k : ℕ) : Type 0 where
  pub within : k ≤ length ts
  pub before : IsViable (take k ts)
  pub here : k < length ts → IsViable (take (k + 1) ts) → ⊥
  pub end : k ≡ length ts → (e : Tree) → Parses ts e → ⊥

-- the span of token k, or the empty one at the text's end
abbrev pub place : List Token → ℕ → ℕ → Span
place [] end k = record { start = end; end = end }
place (t ∷ ts) end zero = t.span
place (t ∷ ts) end (suc k) = place ts end k

-- why tokens of a text that ends at an offset are no expression within the bounds: the depth is judged first
pub data Refuses (ts : List Token) (end : ℕ) : Fault → Type 0 where
  too_deep : (k : ℕ) → TooDeepAt ts k → Refuses ts end (fault TooDeep (place ts end k))
  syntax : (k : ℕ) → IsBounded ts → SyntaxAt ts k → Refuses ts end (fault Syntax (place ts end k))

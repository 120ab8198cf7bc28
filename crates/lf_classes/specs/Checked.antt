-- Which expressions have nothing wrong with their patterns and selectors.
use Rattle.lf_base.specs.declared.fault.Fault.{Fault}
use Rattle.lf_ast.specs.Tree.{Tree}
use Rattle.lf_semantics.specs.PatternBreaches.{BreaksPatterns}

-- the expression has no breach of patterns or selectors; nothing more is said of it
abbrev pub HasNoBreach : Tree → Unit {0} → Type 0
HasNoBreach e nothing = (f : Fault) → BreaksPatterns e f → ⊥

-- What a visit of an expression keeps.
use Rattle.std.proofs.Common.{◌≡◌, Bool, true, false, List, [], ◌∷◌}
use Rattle.lf_ast.specs.Tree.{Tree, tree}
use Rattle.lf_ast.specs.declared.walk.choosing.Frame.{Frame}
use Rattle.lf_ast.specs.views.Walks.{along, further}
use Rattle.lf_ast.proofs.Walks.{left_of}

module _ {S : Type 0} (visited between behind : S → Tree → S) where
  -- what is left by visits of parts, of which one was visited before or none
  abbrev pub gone_on : Bool → Tree → List Tree → S → S
  gone_on true x ps s = further visited between x ps s
  gone_on false x ps s = along visited between x ps s

  -- what is left to do, the last frame first, leaves this in the end; each frame has a note of its expression
  abbrev pub Leaves : {N : Type 0} → (Tree → N → Type 0) → S → List (Frame Bool N) → S → Type 0
  Leaves notes end [] s = s ≡ end
  Leaves notes end (f ∷ fs) s = notes (tree f.expr.now) f.note × Leaves notes end fs (behind (gone_on f.mark (tree f.expr.now) (left_of f) s) (tree f.expr.now))

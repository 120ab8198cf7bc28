-- What is told of an expression from its parts: how contracts see the code. It defines nothing.
use Rattle.std.specs.Prelude.{Bool, not, ◌&&◌, ◌||◌, List, Option}
use Rattle.std.specs.List.{list_any}
use Rattle.lf_ast.specs.Labels.{Bytes}
use Rattle.lf_ast.specs.Tree.{Tree}
use Rattle.lf_ast.specs.declared.expr.Op.{Op}
use Rattle.lf_semantics.specs.Parts.{is_scalar_part}
use Rattle.lf_trials.specs.Forks.{has_passing, is_or}
use Rattle.lf_forks.specs.views.NameMarks.{NameMarks, has_mark}
use Rattle.lf_forks.specs.declared.holding.Held.{Held}

pub record Forks : Type 0 where
  pub marks : NameMarks

-- whether a selector is a fork, or is made by one, by the name that it says
abbrev pub test_of : Forks → Option Bytes → Bool
test_of s = has_mark s.marks

abbrev pub holds : NameMarks → Tree → Held
holds m e = record { scalar = is_scalar_part e; found = has_passing (has_mark m) e }

abbrev pub beside : Op → Held → Held → Held
beside op l r = record { scalar = l.scalar && r.scalar; found = not (l.scalar && r.scalar) && (is_or op || (l.found || r.found)) }

abbrev pub called : Bool → List Held → Held
called scalar args = record { scalar = scalar; found = not scalar && list_any (λ h. h.found) args }

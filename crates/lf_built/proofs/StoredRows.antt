-- What is told of the row of what a rule stores.
use Rattle.std.proofs.Common.{◌≡◌, Option, Some, None, IfSome, IfNone, refl, sym, ◌∙◌, ap}
use Rattle.std.specs.Option.{IsSome, option_map_or}
use Rattle.lf_ast.specs.Labels.{Bytes}
use Rattle.lf_semantics.specs.ClassRows.{Sets}
use Rattle.lf_semantics.specs.RowTable.{Environment, row_named}
use Rattle.lf_built.specs.views.RuleRows.{IsStored}

-- a row that another one has the name of, unless they are the same
pub unless_named : (e : Environment) (name : Bytes) (row other : Sets) (kept : Option Sets) → row_named e name ≡ Some other → IfSome kept (λ (r : Sets). r ≡ row) → IfNone kept (other ≡ row) → IsStored e name row kept
unless_named e name row other (Some r) at own same = own
unless_named e name row other None at own same = at ∙ ap Some same

-- a row that has a name is found by it
pub found_some : {X : Type 0} (found : Option X) (e : Environment) (name : Bytes) (stored : Sets) → IfNone found (row_named e name ≡ None) → row_named e name ≡ Some stored → IsSome found
found_some (Some x) e name stored none is = refl
found_some None e name stored none is = absurd (let never : None ≡ Some stored = sym none ∙ is in cc)

pub found_same : (e : Environment) (name : Bytes) (row stored : Sets) → row_named e name ≡ Some row → row_named e name ≡ Some stored → row ≡ stored
found_same e name row stored found is = ap (λ (o : Option Sets). option_map_or (λ (r : Sets). r) o row) (sym found ∙ is)

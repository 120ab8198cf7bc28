use Rattle.std.proofs.Common.{◌≡◌, ◌<◌, ℕ, true, Some}
use Rattle.std.specs.Prelude.{slice_get}
use Rattle.std.specs.FinMap.{entries}
use Rattle.lf_ast.specs.Labels.{Bytes}
use Rattle.lf_semantics.specs.Grouped.{signs}
use Rattle.lf_semantics.specs.Texts.{value_of}
use Rattle.lf_strict.proofs.same_signature.agrees.Given as goal

abbrev pub invariant-loop-k : goal.invariant-loop-k
invariant-loop-k l = (j : ℕ) (e : Bytes × Bytes) → j < l.k → slice_get (entries l.sample) j ≡ Some e → signs l.matching e.0 ≡ true → value_of l.sample e.0 ≡ value_of l.other e.0

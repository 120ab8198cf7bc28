use Rattle.std.proofs.Common.{◌≡◌, ◌≤◌, take}
use Rattle.lf_parse.specs.Depth.{nesting}
use Rattle.lf_parse.specs.views.Values.{nesting_of}
use Rattle.lf_parse.proofs.Nestings.{IsShallow}
use Rattle.lf_parse.proofs.nesting.first_too_deep.Given as goal

abbrev pub invariant-loop-index : goal.invariant-loop-index
invariant-loop-index l = record { so_far : nesting_of l.nesting ≡ nesting (take l.index l.tokens); shallow : IsShallow l.tokens l.index; braces : l.nesting.braces ≤ l.index }

use Rattle.std.proofs.Common.{◌-◌, ◌≤◌, length, get_or}
use Rattle.std.specs.List.Sorted.{IsNonDecreasingBy}
use Rattle.lf_lex.proofs.Reading.{SoFar, LastBefore, start_of}
use Rattle.lf_lex.proofs.lexing.read.Given as goal

abbrev pub invariant-loop-at : goal.invariant-loop-at
invariant-loop-at l = record {
  so_far : SoFar l.from l.text l.inside l.at l.tokens;
  within : l.at ≤ length l.text;
  ordered : IsNonDecreasingBy start_of l.tokens;
  last : LastBefore (get_or l.from l.at 0) l.tokens;
}

abbrev pub decreases-loop-at : goal.decreases-loop-at
decreases-loop-at l = length l.initial.text - l.at

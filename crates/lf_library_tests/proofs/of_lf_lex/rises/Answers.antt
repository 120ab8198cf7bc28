use Rattle.std.proofs.Common.{arith}
use Rattle.std.proofs.lemmas.List.Sorted.{IsNonDecreasingBy-from_all_adjacent}
use Rattle.lf_library_tests.proofs.of_lf_lex.rises.Goals as goal

pub returns : goal.returns
returns c = λ _. IsNonDecreasingBy-from_all_adjacent (λ x. x) c.args.from.now (λ k d lt. c.loop-i.invariant k d (omega arith))

use Rattle.lf_parse.specs.reading.Machine.{state}
use Rattle.lf_parse.specs.views.Values.{frames_of, mode_of}
use Rattle.lf_parse.proofs.Answering.{ReadsFrom}
use Rattle.lf_parse.proofs.parsing.read.Given as goal

abbrev pub invariant-loop-token : goal.invariant-loop-token
invariant-loop-token l = ReadsFrom l.tokens l.token-index (state (frames_of l.stack.items) (mode_of l.mode))

-- The exit codes.
use Rattle.std.specs.Prelude.{ℕ}
use Rattle.lf_lint.specs.declared.status.Status.{Status}
use Rattle.lf_lint.specs.declared.status.Status.TheVariants.{Clean, Problems, Words, Refused, Read, Write, Memory, Limit}

-- the exit code of the program for each end of a run
abbrev pub code_of : Status → ℕ
code_of Clean = 0
code_of Problems = 1
code_of Words = 2
code_of Refused = 3
code_of (Read file) = 4
code_of Write = 5
code_of Memory = 6
code_of (Limit quantity found) = 7

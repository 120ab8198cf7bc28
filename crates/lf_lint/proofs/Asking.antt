-- Words ask for 1 to 64 workers.
use Rattle.std.proofs.Common.{ℕ, ◌<◌, ◌≤◌, List, Option, Some, None, arith}
use Rattle.lf_words.specs.Grammar.{Asks, IsWorkers, lint, gen}
use Rattle.lf_words.specs.Lint.{Word}
use Rattle.lf_words.specs.declared.options.Options.{Options}
use Rattle.lf_lint.specs.Asked.{workers_of}

given_workers : (word : Option Word) (n : ℕ) → IsWorkers word n → (0 < n) × (n ≤ 64)
given_workers None n is = (omega (arith, is), omega (arith, is))
given_workers (Some word) n is = (omega (arith, is.least), is.most)

asked_workers : {words : List Word} {options : Options} → Asks words options → (0 < workers_of options) × (workers_of options ≤ 64)
asked_workers (lint {given = given} {workers = workers} gives some is format) = given_workers given.workers workers is
asked_workers (gen number) = (omega arith, omega arith)

pub some_workers : (words : List Word) (options : Options) → Asks words options → (0 < workers_of options) × (workers_of options ≤ 64)
some_workers words options asks = asked_workers asks

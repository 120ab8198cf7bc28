-- How contracts see what words gave.
use Rattle.std.specs.Prelude.{option_map}
use Rattle.lf_words.specs.Lint.{LintArguments}
use Rattle.lf_words.specs.declared.lint.FoundArguments.{FoundArguments}

-- What was found, by its bytes.
abbrev pub arguments_of : FoundArguments → LintArguments
arguments_of found = record { workers = option_map (λ w. w.now) found.workers; format = option_map (λ w. w.now) found.format; labels = found.labels; files = found.files }

use Rattle.std.proofs.Common.{◌≡◌, take}
use Rattle.std.specs.Prelude.{fold}
use Rattle.lf_classes.specs.views.TextSets.{with_text}
use Rattle.lf_classes.proofs.read_patterns.ReadPatterns.learn.Given as goal

abbrev pub invariant-loop-pattern : goal.invariant-loop-pattern
invariant-loop-pattern l = l.self ≡ fold (λ texts pattern. with_text texts pattern.now) l.initial.self (take l.pattern-index l.patterns)

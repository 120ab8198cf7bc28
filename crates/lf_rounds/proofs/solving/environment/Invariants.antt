use Rattle.std.proofs.Common.{◌≡◌, length}
use Rattle.lf_classes.specs.RowWords.{word_count}
use Rattle.lf_flow.specs.Reads.{names_of}
use Rattle.lf_semantics.specs.Environments.{IsEnvironment}
use Rattle.lf_rounds.specs.views.Working.{IsMade}
use Rattle.lf_rounds.proofs.solving.environment.Given as goal

abbrev pub invariant-loop-name : goal.invariant-loop-name
invariant-loop-name l = record {
  made : IsMade l.universe (names_of l.initial.env) l.words l.name l.env;
  env : IsEnvironment l.universe l.env;
  room : length l.own.items ≡ word_count l.universe;
}

-- The worlds and verdicts that the code tells, as the definitions have them: how contracts see the code. It defines nothing.
use Rattle.std.specs.Prelude.{map}
use Rattle.lf_ast.specs.declared.verdict.World.{World}
use Rattle.lf_trials.specs.Trials.{Shown}
use Rattle.lf_trials.specs.Verdicts.{LabelVerdict, RuleVerdict}
use Rattle.lf_trials.specs.Verdicts as verdict
use Rattle.lf_worlds.specs.declared.verdict.RuleKnowledge.{RuleKnowledge}
use Rattle.lf_worlds.specs.declared.verdict.RuleKnowledge.TheVariants.{Empty, Labels}
use Rattle.lf_worlds.specs.declared.verdict.LabelKnowledge.{LabelKnowledge}
use Rattle.lf_worlds.specs.declared.verdict.LabelKnowledge.TheVariants.{Guaranteed, Impossible, Possible, Unresolved}

abbrev pub shown_by : World → Shown
shown_by world = record { trial = record { series = world.series; steps = world.steps }; sample = world.sample }

abbrev pub label_verdict : LabelKnowledge → LabelVerdict
label_verdict Guaranteed = verdict.Guaranteed
label_verdict Impossible = verdict.Impossible
label_verdict (Possible shown) = verdict.Possible (shown_by shown.value.with) (shown_by shown.value.without)
label_verdict Unresolved = verdict.Unresolved

abbrev pub rule_verdict : RuleKnowledge → RuleVerdict
rule_verdict Empty = verdict.Empty
rule_verdict (Labels verdicts) = verdict.Labels (map label_verdict verdicts)

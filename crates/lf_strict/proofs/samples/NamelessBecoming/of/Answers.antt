use Rattle.std.proofs.Common.{ap₂, ◌∙◌}
use Rattle.lf_ast.specs.Labels.{Bytes}
use Rattle.lf_semantics.specs.Texts.{with_label}
use Rattle.lf_strict.proofs.LosingNames.{name_taken_out}
use Rattle.lf_strict.proofs.samples.NamelessBecoming.of.Goals as goal

pub returns : goal.returns
returns c = c.in_ok-set.ensures.ok ∙ ap₂ (λ (text name : Bytes). with_label name text c.args.sample) c.in_ok-of.ensures c.in_ok-metric.ensures ∙ name_taken_out c.args.sample

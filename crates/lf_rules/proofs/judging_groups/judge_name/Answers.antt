use Rattle.std.proofs.Common.{not, ap, ◌∙◌}
use Rattle.lf_base.specs.views.NameSets.{has}
use Rattle.lf_scalar.specs.Scalars.{value}
use Rattle.lf_yaml.specs.Tree.{tree}
use Rattle.lf_rules.specs.reading.Files.{name_of}
use Rattle.lf_rules.proofs.NameSets.{again_noted, again_new, again_none}
use Rattle.lf_rules.proofs.judging_groups.judge_name.Goals as goal

pub returns-then-not-branch-clause-first : goal.returns-then-not-branch-clause-first
returns-then-not-branch-clause-first c = λ names h. again_noted c.args.seen.now names (value c.in-Some.name.now) (name_of (tree c.args.group.now)) c.in_ok-add.field-0 c.args.first.now _ c.in-Some.ensures h (c.in_ok-add.ensures.new ∙ ap (λ x. not (has c.args.seen.now x)) c.as_str.ensures) c.if-not-branch.true c.note.ensures

pub returns-else-not-branch-clause-first : goal.returns-else-not-branch-clause-first
returns-else-not-branch-clause-first c = λ names h. again_new c.args.seen.now names (value c.in-Some.name.now) (name_of (tree c.args.group.now)) c.in_ok-add.field-0 c.args.first.now c.in-Some.ensures h (c.in_ok-add.ensures.new ∙ ap (λ x. not (has c.args.seen.now x)) c.as_str.ensures) c.if-not-branch.false

pub returns-in_default-clause-first : goal.returns-in_default-clause-first
returns-in_default-clause-first c = λ names h. again_none names (name_of (tree c.args.group.now)) c.args.first.now c.in_default.ensures

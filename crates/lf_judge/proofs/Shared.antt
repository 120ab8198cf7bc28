-- Workers may share the rules, what is at hand to tell of them, and their trials. Each is shown by itself, since a search through all that workers share at once runs out of steps.
use denote.Param.Send.{IsSync, sendable}
use denote.Ref.{NamedLft}
use Rattle.std.proofs.Crossing.{crosses}
use Rattle.lf_ast.proofs.rule.RuleLabel.TheSendSync as rule_label
use Rattle.lf_ast.proofs.rule.Template.TheSendSync as template
use Rattle.lf_base.proofs.place.Span.TheSendSync as span
use Rattle.lf_base.proofs.seq.Seq.TheSendSync as seq
use Rattle.lf_base.proofs.text.Text.TheSendSync as text
use Rattle.lf_ast.proofs.expr.Expr.TheLaws.TheKnot as knot
use Rattle.lf_ast.specs.contracts.rule.Rule as Rule
use Rattle.std.proofs.option.Option.TheSendSync as option
use Rattle.lf_deps.proofs.name_graph.NameGraph.TheSendSync as graph
use Rattle.lf_deps.proofs.sources.Sources.TheSendSync as sources
use Rattle.lf_classes.proofs.row.Row.TheSendSync as row
use Rattle.lf_classes.proofs.universe.Universe.TheSendSync as universe
use Rattle.lf_flow.proofs.env.Env.TheSendSync as env
use Rattle.lf_forks.proofs.forks.Forks.TheSendSync as forks
use Rattle.lf_built.proofs.marking.NodeMarks.TheSendSync as node_marks
use Rattle.lf_built.proofs.part_rows.PartRows.TheSendSync as part_rows
use Rattle.lf_built.proofs.unsaid.SoughtNames.TheSendSync as sought_names
use Rattle.lf_worlds.specs.contracts.each_rule.Trials as Trials
use Rattle.lf_checks.proofs.rule_dependency.RecordedNames.TheSendSync as recorded
use Rattle.lf_report.proofs.line_index.Position.TheSendSync as position
use Rattle.lf_judge.proofs.source.Source.TheSendSync as source
use Rattle.lf_judge.specs.contracts.at_hand.AtHand as AtHand

pub rule_sync : IsSync Rule.the_row
rule_sync =
    search (sendable, knot.sync-Expr, rule_label.the_sync, rule_label.the_field_sync, template.the_sync, template.the_field_sync, span.the_sync, span.the_field_sync, seq.the_sync, text.the_sync, crosses) depth 40 fits 200000

pub hand_sync : (κ : NamedLft) → IsSync (AtHand.the_row κ)
hand_sync κ =
    search (sendable, rule_sync, env.the_sync, recorded.the_field_sync, seq.the_sync, source.the_sync, position.the_sync, universe.the_sync, row.the_sync, option.the_sync, crosses) depth 40 fits 200000

pub trials_sync : (κ : NamedLft) → IsSync (Trials.the_row κ)
trials_sync κ =
    search (sendable, rule_sync, env.the_sync, seq.the_sync, universe.the_sync, node_marks.the_sync, part_rows.the_sync, sought_names.the_sync, graph.the_sync, row.the_sync, text.the_sync, sources.the_sync, forks.the_sync, crosses) depth 40 fits 200000

use Rattle.std.proofs.Common.{[], ◌++◌, List, refl, sym, ◌∙◌, ap, subst, arith}
use Rattle.lf_ast.specs.Labels.{Bytes}
use Rattle.lf_ast.specs.Rules.{rule_trees}
use Rattle.lf_deps.specs.views.Search.{Grows}
use Rattle.lf_deps.proofs.Followed.{grows_more, grows_none, grows_whole}
use Rattle.lf_semantics.specs.Environments.{recorded_names}
use Rattle.lf_open.specs.views.ReadNames.{said_names}
use Rattle.lf_open.proofs.ReadTables.{have_names}
use Rattle.lf_open.proofs.read_graph.names_of.Goals as goal

pub loop-k-init : goal.loop-k-init
loop-k-init c = subst (Grows [] (recorded_names (rule_trees c.args.rules.now))) (sym (c.in_ok-names.ensures.names ∙ ap (λ rules. recorded_names (rule_trees rules)) c.as_slice.ensures)) (grows_none (recorded_names (rule_trees c.args.rules.now)))

pub loop-k-preserved : goal.loop-k-preserved
loop-k-preserved c =
    grows_more said_names c.args.sources.now.selected c.loop-k.k [] c.selected_by.result.now (recorded_names (rule_trees c.args.rules.now)) c.loop-k.names c.add_selected.new.names (omega (arith, c.loop-k-test.true, c.loop-k.auto.k-end, c.rule_count-k-end.ensures)) c.selected_by.ensures c.loop-k.invariant c.in_ok-add_selected.ensures

pub returns-clause-have : goal.returns-clause-have
returns-clause-have c =
    have_names (rule_trees c.args.rules.now) c.args.sources.now c.requires (recorded_names (rule_trees c.args.rules.now)) c.loop-k.names refl
    (grows_whole said_names c.args.sources.now.selected c.loop-k.k (recorded_names (rule_trees c.args.rules.now)) c.loop-k.names (omega (arith, c.loop-k-test.false, c.loop-k.auto.k-end, c.rule_count-k-end.ensures)) c.loop-k.invariant)

pub returns-clause-begin : goal.returns-clause-begin
returns-clause-begin c = let more : List Bytes = c.loop-k.invariant.0 in (more, c.loop-k.invariant.1 ∙ ap (λ (l : List Bytes). l ++ more) (sym c.requires.names))

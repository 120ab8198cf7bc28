use Rattle.std.proofs.Common.{◌≡◌, false, List, Option, map, refl, sym, ap, ◌∙◌, subst}
use Rattle.std.specs.List.{AllZip}
use Rattle.lf_ast.specs.Labels.{Bytes}
use Rattle.lf_ast.specs.Tree.{nodes}
use Rattle.lf_ast.specs.Rules.{RuleTree, rule_trees}
use Rattle.lf_ast.specs.declared.rule.Rule.{Rule}
use Rattle.lf_semantics.specs.ClassRows.{Sets}
use Rattle.lf_semantics.specs.Environments.{recorded_row, rule_row}
use Rattle.lf_semantics.specs.RowTable.{row_of}
use Rattle.lf_trials.specs.Candidates.{labels_in}
use Rattle.lf_trials.specs.Forks.{has_passing}
use Rattle.lf_forks.specs.views.Holding.{test_of}
use Rattle.lf_built.specs.declared.row_making.RuleRow.{RuleRow}
use Rattle.lf_built.specs.views.Marking.{marks_at, set_by}
use Rattle.lf_built.specs.views.PartRows.{part_rows}
use Rattle.lf_built.specs.views.RuleRows.{IsStored, own_or}
use Rattle.lf_built.specs.declared.unsaid.SoughtName.{SoughtName}
use Rattle.lf_built.specs.views.Unsaid.{AreSought}
use Rattle.lf_built.proofs.RowsApart.{along, images}
use Rattle.lf_built.proofs.prepared.Prepared.by.Goals as goal

pub returns : goal.returns
returns c =
    let u = c.args.universe.now in
    let env = c.args.env.now in
    let forks = c.args.forks.now in
    let trees : List RuleTree = rule_trees c.args.rules.now in
    let IsOwn : RuleTree → Option Sets → Type 0 = λ (r : RuleTree) (own : Option Sets). own_or own (row_of u env r.expr) ≡ rule_row u env r in
    let Stored : RuleTree → Option Sets → Type 0 = λ (r : RuleTree) (kept : Option Sets). r.alert ≡ false → IsStored env r.name (recorded_row u env r) kept in
    let Found : RuleTree → List (Option SoughtName) → Type 0 = λ (r : RuleTree) (found : List (Option SoughtName)). AreSought u trees (nodes r.expr) found in
    record {
      universe = refl;
      env = refl;
      rules = refl;
      forks = refl;
      prepared = record {
        within = c.labels-labels.ensures.within;
        environment = c.requires.environment;
        covers = c.requires.covers;
        sources = c.requires.sources;
        names = c.in_ok-names.ensures;
        parts = c.in_ok-parts.ensures.parts ∙ along (λ (row : RuleRow). row.parts) (λ (r : RuleTree). part_rows u env (has_passing (test_of forks)) (nodes r.expr)) trees c.args.rows c.requires.rows (λ r row is. is.parts);
        sought = subst (AllZip Found trees) (sym c.in_ok-parts.ensures.sought) (images Found (λ (row : RuleRow). row.names) trees c.args.rows c.requires.rows (λ r row is. is.names));
        marks =
            c.in_ok-marks.ensures
            ∙ ap (λ (names : List Bytes). map (λ (r : RuleTree). map (marks_at names) (nodes r.expr)) (rule_trees c.as_slice-all.result.now)) (c.as_slice-labels.ensures.value ∙ c.in_ok-names.ensures)
            ∙ ap (λ (rs : List Rule). map (λ (r : RuleTree). map (marks_at (labels_in u)) (nodes r.expr)) (rule_trees rs)) c.as_slice-all.ensures;
        set =
            c.in_ok-set.ensures
            ∙ ap (λ (names : List Bytes). map (set_by names) (rule_trees c.as_slice-all.result.now)) (c.as_slice-labels.ensures.value ∙ c.in_ok-names.ensures)
            ∙ ap (λ (rs : List Rule). map (set_by (labels_in u)) (rule_trees rs)) c.as_slice-all.ensures;
        rows = subst (AllZip IsOwn trees) (sym c.in_ok-parts.ensures.own) (images IsOwn (λ (row : RuleRow). row.own) trees c.args.rows c.requires.rows (λ r row is. is.own));
        recorded = subst (AllZip Stored trees) (sym c.in_ok-parts.ensures.recorded) (images Stored (λ (row : RuleRow). row.recorded) trees c.args.rows c.requires.rows (λ r row is. is.recorded));
      };
    }

use Rattle.std.proofs.Common.{◌∙◌, List, length, ap, subst, sym}
use Rattle.std.proofs.lemmas.List.{length-map}
use Rattle.lf_ast.specs.Rules.{rule_trees}
use Rattle.lf_checks.specs.declared.rule_dependency.RecordedNames.{RecordedNames}
use Rattle.lf_checks.specs.views.Checked.{CheckerView}
use Rattle.lf_checks.specs.views.Recorded.{AreOf}
use Rattle.lf_deps.specs.views.Sources.{IsSourcesOf, Sources}
use Rattle.lf_judge.specs.declared.at_hand.AtHand.{AtHand}
use Rattle.lf_judge.specs.views.AtHand.{IsReady, rules_of_hand}
use Rattle.lf_built.specs.declared.row_making.RuleRow.{RuleRow}
use Rattle.lf_built.specs.views.RuleRows.{AreRowsOf}
use Rattle.lf_judge.proofs.FoundTogether.{findings_read, found_together, rows_read}
use Rattle.lf_judge.proofs.rule_found.find_rules.Goals as goal

-- the names that the checker has are those of the rules
are_of : (h : AtHand) (recorded : RecordedNames) → IsReady h → AreOf (rule_trees h.checker.now.rules) recorded → AreOf (rules_of_hand h) recorded
are_of h recorded ready are = subst (λ (k : CheckerView). AreOf (rule_trees k.rules) recorded) ready.checker are

pub of-requires : goal.of-requires
of-requires g c =
    let are = are_of c.args.hand.now c.recorded-recorded.result.now c.requires.ready c.recorded-recorded.ensures in
    subst (λ (s : Sources). IsSourcesOf (rules_of_hand c.args.hand.now) s) (sym c.sources.ensures) are.sources

pub read_rules-requires-clause-readings : goal.read_rules-requires-clause-readings
read_rules-requires-clause-readings g c κs within =
    let are = are_of c.args.hand.now c.recorded-recorded.result.now c.requires.ready c.recorded-recorded.ensures in
    record { sources = are.sources; graph = are.graph; forks = c.in_ok-forks.ensures }

pub know_read-requires-clause-readings : goal.know_read-requires-clause-readings
know_read-requires-clause-readings g c κs within =
    let are = are_of c.args.hand.now c.recorded-recorded.result.now c.requires.ready c.recorded-recorded.ensures in
    record { sources = are.sources; graph = are.graph; forks = c.in_ok-forks.ensures }

pub know_read-requires-clause-rows : goal.know_read-requires-clause-rows
know_read-requires-clause-rows g c κs within =
    let hand = c.args.hand.now in
    subst (λ (rows : List RuleRow). AreRowsOf hand.universe.now hand.env.now c.in_ok-forks.forks (rules_of_hand hand) rows) (sym c.in_ok-rows.ensures.rows)
    (rows_read hand c.in_ok-forks.forks c.in_ok-read.read c.in_ok-read.ensures)

pub together-requires : goal.together-requires
together-requires g c =
    record { count = ap length c.in_ok-rows.ensures.findings ∙ length-map c.in_ok-read.read findings_read ∙ c.in_ok-read.ensures.count ∙ sym c.in_ok-known.ensures.count }

pub returns : goal.returns
returns g c =
    found_together c.args.hand.now c.in_ok-forks.forks c.in_ok-read.read c.in_ok-read.ensures c.in_ok-known.known c.in_ok-found.found c.in_ok-known.ensures c.in_ok-found.ensures.known (c.in_ok-found.ensures.findings ∙ c.in_ok-rows.ensures.findings)

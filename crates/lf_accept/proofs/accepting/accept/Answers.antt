use Rattle.lf_ast.specs.Rules.{rule_trees}
use Rattle.lf_accept.specs.Accepted.{IsAccepted, RefusesFile}
use Rattle.lf_accept.proofs.Chained.{breach_so, only_so}
use Rattle.lf_accept.proofs.OneFile.{one_file}
use Rattle.lf_accept.proofs.accepting.accept.Goals as goal

pub returns-clause-only : goal.returns-clause-only
returns-clause-only c =
    only_so rule_trees (IsAccepted c.args.bytes.now c.args.file) (RefusesFile c.args.bytes.now) (one_file c.args.bytes.now c.args.file) c.accept_counted-answer.result.answer c.accept_counted-answer.ensures.found c.accept_counted-answer.ensures.refused

pub returns-clause-breach : goal.returns-clause-breach
returns-clause-breach c =
    breach_so rule_trees (IsAccepted c.args.bytes.now c.args.file) (RefusesFile c.args.bytes.now) (one_file c.args.bytes.now c.args.file) c.accept_counted-answer.result.answer c.accept_counted-answer.ensures.found c.accept_counted-answer.ensures.refused

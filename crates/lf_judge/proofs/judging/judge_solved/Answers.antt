use Rattle.std.proofs.Common.{sym, subst}
use Rattle.std.proofs.lemmas.Result.{IfOk-weaker}
use Rattle.lf_ast.specs.Rules.{rule_trees}
use Rattle.lf_checks.specs.AlertTemplate.{HaveSources}
use Rattle.lf_checks.specs.Files.{StandIn}
use Rattle.lf_judge.specs.Judged.{files_of}
use Rattle.lf_judge.proofs.Contents.{have_sources, stand_in}
use Rattle.lf_judge.proofs.Reported.{reported}
use Rattle.lf_judge.proofs.judging.judge_solved.Goals as goal

pub tell_rules-requires-clause-sources : goal.tell_rules-requires-clause-sources
tell_rules-requires-clause-sources g c κs within =
    let a = c.requires.accepted in
    subst HaveSources (sym a.2.1) (have_sources (files_of c.args.files.now) a.0 a.1)

pub tell_rules-requires-clause-stand : goal.tell_rules-requires-clause-stand
tell_rules-requires-clause-stand g c κs within =
    let a = c.requires.accepted in
    subst (StandIn (files_of c.args.files.now)) (sym a.2.1) (stand_in (files_of c.args.files.now) a.0 a.1)

pub returns : goal.returns
returns g c =
    let files = files_of c.args.files.now in
    let a = c.requires.accepted in
    IfOk-weaker c.report_of.result _ _
    (λ report put. reported files c.args.labels a.0 a.1 c.args.env.now c.in_ok-rules.rules report (rule_trees c.args.accepted.now.rules) c.args.universe.now a.2.1 c.requires.universe c.requires.least c.in_ok-rules.ensures put)
    (c.report_of.ensures a.0 a.2.0)

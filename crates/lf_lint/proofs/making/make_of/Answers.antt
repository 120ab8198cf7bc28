use Rattle.std.proofs.Common.{arith}
use Rattle.lf_judge.specs.Judged.{files_of}
use Rattle.lf_lint.proofs.Gathered.{short_each}
use Rattle.lf_lint.proofs.Standing.{name_rules, stand_in_files}
use Rattle.lf_lint.proofs.making.make_of.Goals as goal

pub judge-requires-clause-room : goal.judge-requires-clause-room
judge-requires-clause-room g c κs within = λ k file at. omega (arith, short_each c.args.sources.now c.requires.short k file at)

pub of-requires-2-clause-files : goal.of-requires-2-clause-files
of-requires-2-clause-files g c = stand_in_files (files_of c.args.sources.now) c.with_labels-labels.result c.in_ok-report.report c.in_ok-report.ensures.report

pub of-requires-2-clause-rules : goal.of-requires-2-clause-rules
of-requires-2-clause-rules g c = name_rules (files_of c.args.sources.now) c.with_labels-labels.result c.in_ok-report.report c.in_ok-report.ensures.report

pub judge-requires-clause-workers : goal.judge-requires-clause-workers
judge-requires-clause-workers g c κs within = (omega (arith, c.worker_count.ensures, c.requires.workers.0), omega (arith, c.worker_count.ensures, c.requires.workers.1))

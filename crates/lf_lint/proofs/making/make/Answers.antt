use Rattle.lf_lint.proofs.Asking.{some_workers}
use Rattle.lf_lint.proofs.Gathered.{few_sources}
use Rattle.lf_lint.proofs.making.make.Goals as goal

pub make_of-requires-clause-few : goal.make_of-requires-clause-few
make_of-requires-clause-few g c κs within = few_sources (g.F.Files.held c.args.files.now) c.args.options.now c.in_ok-sources.sources c.in_ok-sources.ensures.gathered

pub make_of-requires-clause-workers : goal.make_of-requires-clause-workers
make_of-requires-clause-workers g c κs within = some_workers c.requires.asked.0 c.args.options.now c.requires.asked.1

use Rattle.lf_worlds.proofs.PreparedFor.{own_forks, own_readings}
use Rattle.lf_worlds.proofs.each_rule.Trials.by.Goals as goal

pub invariant_of-result : goal.invariant_of-result
invariant_of-result c =
    let u = c.args.universe.now in
    let env = c.args.env.now in
    let rules = c.args.rules.now in
    let forks = c.args.forks.now in
    let prepared = c.in_ok-prepared.prepared in
    let is = c.in_ok-prepared.ensures in (
      c.requires.covers,
      c.requires.least.of_rules.environment,
      own_readings u env rules forks prepared is c.args.sources.now c.args.graph.now c.requires.readings,
      own_forks u env rules forks prepared is,
      c.in_ok-names.ensures,
      c.labels-labels.ensures.within,
      c.requires.least,
      c.requires.readings.forks,
    )

use Rattle.std.proofs.Common.{◌≡◌}
use Rattle.lf_open.specs.views.Firsts.{AreFirstsReady, rules_in}
use Rattle.lf_judge.proofs.Named.{NameUpTo}
use Rattle.lf_judge.proofs.firsts.firsts_by.Given as goal

abbrev pub invariant-loop-k : goal.invariant-loop-k
invariant-loop-k l = record {
  named : NameUpTo (rules_in l.fn.open_firsts) l.found l.k l.firsts;
  ready : AreFirstsReady l.open_firsts;
  same : rules_in l.open_firsts ≡ rules_in l.fn.open_firsts;
}

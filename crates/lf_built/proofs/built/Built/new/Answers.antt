use Rattle.std.proofs.Common.{◌<◌, sym, subst}
use Rattle.std.proofs.lemmas.List.{length-map}
use Rattle.lf_laws.proofs.Slices.{some_at}
use Rattle.lf_ast.specs.Rules.{rule_tree}
use Rattle.lf_forks.specs.views.Holding.{test_of}
use Rattle.lf_forks.proofs.ForkTests.{tells_forks}
use Rattle.lf_built.specs.views.Indexed.{trees_of}
use Rattle.lf_built.proofs.built.Built.new.Goals as goal

pub invariant_of-result : goal.invariant_of-result
invariant_of-result c =
    let p = c.args.prepared.now in
    let own = some_at (trees_of p) c.args.i (subst (λ n. c.args.i < n) (sym (length-map p.rules.now rule_tree)) c.requires.rule) in
    record {
      prepared = c.requires.prepared;
      forks = tells_forks (trees_of p) (test_of p.forks.now) c.requires.forks;
      rule = own.0;
      is_rule = own.1;
      reach = c.args.reach.now;
      is_reach = c.requires.reach own.0 own.1;
      is_row = c.requires.row own.0 own.1;
      is_most = c.in_ok-most.ensures (trees_of p) c.requires.prepared.sources;
    }

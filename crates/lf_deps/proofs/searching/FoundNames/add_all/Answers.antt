use Rattle.std.proofs.Common.{arith}
use Rattle.lf_deps.specs.views.Search.{chosen}
use Rattle.lf_deps.proofs.Followed.{grows_more, grows_none, grows_whole}
use Rattle.lf_deps.proofs.searching.FoundNames.add_all.Goals as goal

pub loop-k-init : goal.loop-k-init
loop-k-init c = record { has_all = c.requires.all; grows = grows_none c.args.self.now.texts }

pub loop-k-preserved : goal.loop-k-preserved
loop-k-preserved c = record {
  has_all = c.in_ok-add.ensures.all;
  grows = grows_more (chosen c.args.sources.now.names) c.args.found.now c.loop-k.k c.index-found-k.result c.index-found-k.result c.args.self.now.texts c.loop-k.self.texts c.add.new.self.texts c.loop-k-test.true c.index-found-k.is
      c.loop-k.invariant.grows c.in_ok-add.ensures.grows;
}

pub returns-clause-grows : goal.returns-clause-grows
returns-clause-grows c =
    grows_whole (chosen c.args.sources.now.names) c.args.found.now c.loop-k.k c.args.self.now.texts c.loop-k.self.texts (omega (arith, c.loop-k-test.false)) c.loop-k.invariant.grows

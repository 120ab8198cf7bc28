use Rattle.std.proofs.Common.{[], List, get_or, arith}
use Rattle.lf_ast.specs.Labels.{Bytes}
use Rattle.lf_deps.specs.views.Index.{chosen_by, makers_of}
use Rattle.lf_deps.specs.views.Sources.{Sources}
use Rattle.lf_deps.proofs.Followed.{search_ends, search_goes_on}
use Rattle.lf_deps.proofs.LookedUp.{made_from, made_to}
use Rattle.lf_deps.proofs.searching.FoundNames.follow_all.Goals as goal

pub loop-next-preserved : goal.loop-next-preserved
loop-next-preserved c = record {
  has_all = c.in_ok-follow.ensures.all;
  search = λ rules start is begun.
      let s : Sources = c.args.sources.now in
      let old : List Bytes = c.loop-next.self.texts in
      let name : Bytes = get_or old c.loop-next.next [] in
      search_goes_on rules start old c.loop-next.next (c.loop-next.invariant.search rules start is begun) (omega arith) (chosen_by s (makers_of s name)) c.follow.new.self.texts c.in_ok-follow.ensures.grows (made_to rules s is name)
      (made_from rules s is name);
}

pub returns : goal.returns
returns c rules start is begun = search_ends rules start c.loop-next.self.texts c.loop-next.next (c.loop-next.invariant.search rules start is begun) (omega arith)

use Rattle.std.proofs.Common.{ℕ, List, OnOk, ◌∙◌, ap, subst}
use Rattle.std.specs.List.{Contains}
use Rattle.lf_deps.specs.views.Index.{chosen_by, makers_of}
use Rattle.lf_deps.specs.views.Search.{Grows}
use Rattle.lf_deps.specs.views.Sources.{Sources}
use Rattle.lf_deps.proofs.LookedUp.{makers_within}
use Rattle.lf_deps.proofs.searching.FoundNames.follow.Goals as goal

pub add_made-requires : goal.add_made-requires
add_made-requires c = record {
  makers = λ k there.
      let P : List ℕ → Type 0 = λ l. Contains l k in
      makers_within c.args.sources.now c.requires.index c.as_str.result.now k (subst P c.makers_of-makers.ensures there);
  all = c.requires.all;
}

pub returns-clause-grows : goal.returns-clause-grows
returns-clause-grows c =
    let s : Sources = c.args.sources.now in
    let P : List ℕ → Type 0 = λ l. OnOk c.add_made.result (Grows (chosen_by s l) c.args.self.now.texts c.add_made.new.self.texts) in
    subst P (c.makers_of-makers.ensures ∙ ap (makers_of s) (c.as_str.ensures ∙ c.get.ensures)) c.add_made.ensures.grows

use Rattle.std.proofs.Common.{ℕ, List, [], get_or, Option, refl, subst}
use Rattle.std.proofs.lemmas.List.Elements.{Contains-get_or}
use Rattle.lf_ast.specs.Labels.{Bytes}
use Rattle.lf_deps.specs.views.Search.{Grows, chosen_all}
use Rattle.lf_deps.specs.views.Sources.{Sources}
use Rattle.lf_deps.proofs.Followed.{grows_more, grows_none, grows_whole}
use Rattle.lf_deps.proofs.searching.FoundNames.add_made.Goals as goal

abbrev chosen_at : Sources → ℕ → List Bytes
chosen_at s k = chosen_all s.names (get_or s.selected k [])

pub loop-k-init : goal.loop-k-init
loop-k-init c = record { has_all = c.requires.all; grows = grows_none c.args.self.now.texts }

pub selected_by-requires : goal.selected_by-requires
selected_by-requires c = c.requires.makers (get_or c.args.makers.now c.loop-k.k 0) (Contains-get_or c.args.makers.now c.loop-k.k 0 c.loop-k-test.true)

pub loop-k-preserved : goal.loop-k-preserved
loop-k-preserved c =
    let s : Sources = c.args.sources.now in
    let number : ℕ = get_or c.args.makers.now c.loop-k.k 0 in
    let P : List (Option Bytes) → Type 0 = λ l. Grows (chosen_all s.names l) c.loop-k.self.texts c.add_all.new.self.texts in
    record {
      has_all = c.in_ok-add_all.ensures.all;
      grows = grows_more (chosen_at s) c.args.makers.now c.loop-k.k 0 number c.args.self.now.texts c.loop-k.self.texts c.add_all.new.self.texts c.loop-k-test.true refl c.loop-k.invariant.grows (subst P c.selected_by.ensures c.in_ok-add_all.ensures.grows);
    }

pub returns-clause-grows : goal.returns-clause-grows
returns-clause-grows c =
    grows_whole (chosen_at c.args.sources.now) c.args.makers.now c.loop-k.k c.args.self.now.texts c.loop-k.self.texts c.loop-k-test.false c.loop-k.invariant.grows

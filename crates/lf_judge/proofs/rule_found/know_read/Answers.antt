use Rattle.std.proofs.Common.{◌∙◌, ap, sym, subst}
use Rattle.lf_deps.specs.views.Names.{IsNameGraphOf}
use Rattle.lf_deps.specs.views.Sources.{IsSourcesOf, Sources}
use Rattle.lf_graph.specs.Components.{Components}
use Rattle.lf_semantics.specs.Environments.{CoversRules, IsLeast}
use Rattle.lf_semantics.specs.Listing.{Listing}
use Rattle.lf_semantics.proofs.ListingLaws.{universe_covers}
use Rattle.lf_worlds.specs.views.Tried.{Tried}
use Rattle.lf_judge.specs.views.AtHand.{rules_of_hand}
use Rattle.lf_judge.proofs.rule_found.know_read.Goals as goal

pub by-requires-clause-covers : goal.by-requires-clause-covers
by-requires-clause-covers g c =
    let rules = rules_of_hand c.args.hand.now in
    let P : Listing → Type 0 = λ u. CoversRules u rules in subst P (sym c.requires.ready.universe) (universe_covers rules)

pub by-requires-clause-least : goal.by-requires-clause-least
by-requires-clause-least g c =
    let hand = c.args.hand.now in
    let P : Listing → Type 0 = λ u. IsLeast u (rules_of_hand hand) hand.env.now in subst P (sym c.requires.ready.universe) c.requires.ready.least

pub know_each-requires-clause-trials : goal.know_each-requires-clause-trials
know_each-requires-clause-trials g c κs within =
    let hand = c.args.hand.now in
    let tried : Listing → Tried = λ u. record { universe = u; env = hand.env.now; rules = hand.rules.now } in c.in_ok-trials.ensures ∙ ap tried c.requires.ready.universe

pub by-requires-clause-readings : goal.by-requires-clause-readings
by-requires-clause-readings g c =
    let rules = rules_of_hand c.args.hand.now in
    let r = c.requires.readings in
    let S : Sources → Type 0 = λ s. IsSourcesOf rules s in
    let N : Sources → Type 0 = λ s. IsNameGraphOf s c.args.recorded.now.graph in
    let G : Components → Type 0 = λ x. IsNameGraphOf c.sources.result.now x in
    record { sources = subst S (sym c.sources.ensures) r.sources; graph = subst G (sym c.graph.ensures) (subst N (sym c.sources.ensures) r.graph); forks = r.forks }

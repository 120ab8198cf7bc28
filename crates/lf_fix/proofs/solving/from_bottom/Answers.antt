use Rattle.std.proofs.Common.{◌≡◌, ℕ, zero, suc, Bool, true, false, List, get_or, refl, sym, ◌∙◌, subst}
use Rattle.std.specs.Prelude.{replicate}
use Rattle.std.proofs.lemmas.Option.{IfSome_then}
use Rattle.lf_ast.specs.Rules.{rule_trees}
use Rattle.lf_laws.proofs.Booleans.{clash}
use Rattle.lf_flow.proofs.ScrapedSeries.{scraped_same, when_lent}
use Rattle.lf_fix.specs.views.Rounds.{IsSeriesRow}
use Rattle.lf_fix.proofs.Rounds.{rises_start}
use Rattle.lf_fix.proofs.solving.from_bottom.Goals as goal

-- at first each rule is dirty
all_dirty : (n k : ℕ) → get_or (replicate n true) k true ≡ true
all_dirty zero k = refl
all_dirty (suc n) zero = refl
all_dirty (suc n) (suc k) = all_dirty n k

pub rounds-requires-clause-hold : goal.rounds-requires-clause-hold
rounds-requires-clause-hold c k r is free =
    let P : List Bool → Type 0 = λ marks. get_or marks k true ≡ false in
    absurd (clash _ (all_dirty c.len.result k) (subst P (c.deref_mut.ensures.value ∙ c.in_ok-dirty.ensures.items_if_clones_equal (λ y e. e)) free))

pub rounds-requires-clause-rises : goal.rounds-requires-clause-rises
rounds-requires-clause-rises c = rises_start c.args.universe.now c.labels-labels.ensures.within.listing (rule_trees c.args.rules.now) c.in_ok-env.env c.requires.covers c.in_ok-env.ensures

pub rounds-requires-clause-scraped : goal.rounds-requires-clause-scraped
rounds-requires-clause-scraped c =
    let u = c.args.universe.now in
    let rules = rule_trees c.args.rules.now in
    let env = c.in_ok-env.env in
    let names = (rises_start u c.labels-labels.ensures.within.listing rules env c.requires.covers c.in_ok-env.ensures).of_rules.names in
    when_lent (IsSeriesRow u rules) c.in_ok-scraped.scraped c.as_ref.result c.as_ref.ensures.value
    (IfSome_then c.in_ok-scraped.scraped c.in_ok-scraped.ensures (λ row is other of. is ∙ scraped_same u env other (names ∙ sym of.names)))

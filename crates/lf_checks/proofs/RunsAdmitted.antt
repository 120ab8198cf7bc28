-- At each point of the run of a world the least environment admits its series and what was recorded up to there.
use Rattle.std.proofs.Common.{◌≡◌, List, [], ◌∷◌, ◌++◌, sym, subst, append_assoc, append-nil}
use Rattle.lf_laws.proofs.Members.{none_in}
use Rattle.lf_ast.specs.Labels.{Labels}
use Rattle.lf_ast.specs.Rules.{RuleTree}
use Rattle.lf_semantics.specs.Environments.{Admits, CoversRules, IsLeast}
use Rattle.lf_semantics.specs.Laws.{SetNoNames}
use Rattle.lf_semantics.specs.Listing.{IsListing, Listing}
use Rattle.lf_semantics.specs.RowTable.{Environment}
use Rattle.lf_semantics.specs.Worlds.{AreScraped, IsRunFrom, Step, World, added}
use Rattle.lf_semantics.proofs.SamplesRepresented.{AllRepresented, added_represented, admits, both_represented}
use Rattle.lf_checks.specs.Truths.{recorded}

module _ (u : Listing) (listing : IsListing u) (rules : List RuleTree) (covers : CoversRules u rules) (named : SetNoNames rules) (env : Environment) (least : IsLeast u rules env) where
  -- what was recorded is represented by the rows of its names
  abbrev AreIn : List Labels → Type 0
  AreIn = AllRepresented u listing rules covers named env least.of_rules least.closed

  run_represented : (S : List Labels) → AreScraped rules S → (N : List Labels) (before after : List Step) → AreIn N → IsRunFrom rules S N (before ++ after) → AreIn (N ++ recorded before)
  run_represented S scraped N [] after each run = subst AreIn (sym (append-nil N)) each
  run_represented S scraped N (step ∷ before) after each run =
      let one : AreIn (added step) = added_represented u listing rules covers named env least.of_rules least.closed S scraped N each step run.0 run.1 in
      subst AreIn (append_assoc N (added step) (recorded before))
      (run_represented S scraped (N ++ added step) before after (both_represented u listing rules covers named env least.of_rules least.closed S scraped N (added step) each one) run.2)

  -- behind the first steps of a world
  pub world_admitted : (world : World rules) (before after : List Step) → world.steps ≡ before ++ after → Admits u env world.series (recorded before)
  world_admitted world before after e =
      admits u listing rules covers named env least.of_rules least.closed world.series world.scraped (recorded before)
      (run_represented world.series world.scraped [] before after (λ s c. absurd (none_in s c)) (subst (IsRunFrom rules world.series []) e world.run))

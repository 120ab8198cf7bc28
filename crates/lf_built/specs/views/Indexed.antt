-- What the built worlds of rules share: how contracts see the code. It defines nothing.
use Rattle.std.specs.Prelude.{◌≡◌, false, Bool, List, Option, map}
use Rattle.std.specs.List.{AllZip}
use Rattle.lf_ast.specs.Rules.{RuleTree, rule_trees}
use Rattle.lf_ast.specs.Tree.{Tree, nodes}
use Rattle.lf_ast.specs.declared.rule.Rule.{Rule}
use Rattle.lf_classes.specs.Limits.{IsWithin}
use Rattle.lf_deps.specs.views.Sources.{IsSourcesOf}
use Rattle.lf_semantics.specs.Environments.{CoversRules, IsEnvironment, recorded_row, rule_row}
use Rattle.lf_semantics.specs.Listing.{Listing}
use Rattle.lf_semantics.specs.ClassRows.{Sets}
use Rattle.lf_semantics.specs.RowTable.{Environment, row_of}
use Rattle.lf_trials.specs.Candidates.{labels_in}
use Rattle.lf_trials.specs.Forks.{has_passing}
use Rattle.lf_forks.specs.views.Holding.{Forks, test_of}
use Rattle.lf_built.specs.declared.prepared.Prepared.{Prepared}
use Rattle.lf_built.specs.views.Marking.{marks_at, set_by}
use Rattle.lf_built.specs.views.PartRows.{part_rows}
use Rattle.lf_built.specs.declared.unsaid.SoughtName.{SoughtName}
use Rattle.lf_built.specs.views.RuleRows.{IsStored, own_or}
use Rattle.lf_built.specs.views.Unsaid.{AreSought}

-- what it is of

abbrev pub universe_of : Prepared → Listing
universe_of p = p.universe.now

abbrev pub env_of : Prepared → Environment
env_of p = p.env.now

abbrev pub trees_of : Prepared → List RuleTree
trees_of p = rule_trees p.rules.now

-- which expressions hold a fork
abbrev pub forks_of : Prepared → Tree → Bool
forks_of p = has_passing (test_of p.forks.now)

-- all is as it is to be
pub record IsPrepared (p : Prepared) : Type 0 where
  pub within : IsWithin (universe_of p)
  pub environment : IsEnvironment (universe_of p) (env_of p)
  pub covers : CoversRules (universe_of p) (trees_of p)
  pub sources : IsSourcesOf (trees_of p) p.sources.now
  pub names : p.names.items ≡ labels_in (universe_of p)
  pub parts : p.parts.items ≡ map (λ (r : RuleTree). part_rows (universe_of p) (env_of p) (forks_of p) (nodes r.expr)) (trees_of p)
  pub sought : AllZip (λ (r : RuleTree) (found : List (Option SoughtName)). AreSought (universe_of p) (trees_of p) (nodes r.expr) found) (trees_of p) p.sought.items
  pub marks : p.marks.items ≡ map (λ (r : RuleTree). map (marks_at (labels_in (universe_of p))) (nodes r.expr)) (trees_of p)
  pub set : p.set.items ≡ map (set_by (labels_in (universe_of p))) (trees_of p)
  pub rows : AllZip (λ (r : RuleTree) (own : Option Sets). own_or own (row_of (universe_of p) (env_of p) r.expr) ≡ rule_row (universe_of p) (env_of p) r) (trees_of p) p.rows.items
  pub recorded : AllZip (λ (r : RuleTree) (kept : Option Sets). r.alert ≡ false → IsStored (env_of p) r.name (recorded_row (universe_of p) (env_of p) r) kept) (trees_of p) p.recorded.items

-- it is prepared for these
pub record IsPreparedFor (u : Listing) (e : Environment) (rs : List Rule) (fs : Forks) (p : Prepared) : Type 0 where
  pub universe : p.universe.now ≡ u
  pub env : p.env.now ≡ e
  pub rules : p.rules.now ≡ rs
  pub forks : p.forks.now ≡ fs
  pub prepared : IsPrepared p

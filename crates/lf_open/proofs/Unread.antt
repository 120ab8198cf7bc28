-- What expressions read that read no recorded name.
use Rattle.std.proofs.Common.{List, [], arith}
use Rattle.std.specs.List.{Contains}
use Rattle.std.proofs.lemmas.Option.{get_or_from_slice_get, slice_get_within}
use Rattle.lf_laws.proofs.Members.{none_in}
use Rattle.lf_ast.specs.Labels.{Bytes}
use Rattle.lf_ast.specs.Rules.{RuleTree}
use Rattle.lf_ast.specs.Tree.{Tree}
use Rattle.lf_deps.specs.Reading.{Reads, Reaches, Selects}
use Rattle.lf_deps.specs.Reading.Reads.{selected, through}
use Rattle.lf_semantics.specs.Environments.{names_recorded}
use Rattle.lf_trials.specs.Reached.{IsReach}
use Rattle.lf_semantics.proofs.Recorded.{recorded}

-- no name that the expression selects is recorded
abbrev pub SelectsScraped : List RuleTree → Tree → Type 0
SelectsScraped rules e = (name : Bytes) → Selects rules e name → Contains (names_recorded rules) name → ⊥

module _ (rules : List RuleTree) (e : Tree) (scraped : SelectsScraped rules e) where
  -- so it reads what it selects
  pub reads_selected : (name : Bytes) → Reads rules e name → Selects rules e name
  reads_selected name (selected s) = s
  reads_selected name (through r there recording s rest) = absurd (scraped r.name s (recorded rules r there recording))

  pub reaches_none : (r : RuleTree) → Contains rules r → Reaches rules e r → ⊥
  reaches_none r there (recording, reads) = scraped r.name (reads_selected r.name reads) (recorded rules r there recording)

  pub has_no_reach : IsReach rules e []
  has_no_reach = record {
    ascending = λ k l less within. absurd (omega (arith, within));
    members = λ k. (λ c. absurd (none_in k c), λ (r, at, reaches). absurd (reaches_none r (k, slice_get_within rules k r at, get_or_from_slice_get rules k r r at) reaches));
  }

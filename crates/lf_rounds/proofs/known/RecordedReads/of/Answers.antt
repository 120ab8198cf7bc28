use Rattle.std.proofs.Common.{ℕ, List, ◌∙◌, subst}
use Rattle.lf_ast.specs.Labels.{Bytes}
use Rattle.lf_ast.specs.Rules.{rule_trees}
use Rattle.lf_rounds.specs.views.Noting.{ArePlaced}
use Rattle.lf_rounds.proofs.ReadLists.{all_read_by}
use Rattle.lf_rounds.proofs.known.RecordedReads.of.Goals as goal

pub returns : goal.returns
returns c =
    let rules = rule_trees c.args.rules.now in
    let names : List ℕ = c.in_ok-names.names in
    let N : List Bytes → Type 0 = λ recorded. ArePlaced recorded rules names in
    record {
      names = subst N (c.recorded.ensures ∙ c.requires.names) c.in_ok-names.ensures;
      reads = all_read_by rules c.args.sources.now c.in_ok-reads.reads c.requires c.in_ok-reads.ensures;
    }

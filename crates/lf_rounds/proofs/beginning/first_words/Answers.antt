use Rattle.std.proofs.Common.{ℕ, ◌*◌, List, length, ap, ◌∙◌}
use Rattle.lf_ast.specs.Rules.{rule_trees}
use Rattle.lf_ast.specs.declared.rule.Rule.{Rule}
use Rattle.lf_classes.specs.RowWords.{word_count}
use Rattle.lf_semantics.specs.Environments.{recorded_names}
use Rattle.lf_rounds.proofs.Looping.{zeros_are, zeros_below, zeros_count}
use Rattle.lf_rounds.proofs.beginning.first_words.Goals as goal

pub returns-clause-zeros : goal.returns-clause-zeros
returns-clause-zeros c = zeros_count c.in_ok-words.words (c.len.result * word_count c.args.universe.now) c.in_ok-words.ensures

pub returns-clause-count : goal.returns-clause-count
returns-clause-count c =
    let wide = word_count c.args.universe.now in
    (zeros_are c.in_ok-words.words (c.len.result * wide) c.in_ok-words.ensures).0 ∙ ap (λ (n : ℕ). n * wide) (c.len.ensures.count ∙ ap length c.in_ok-names.ensures.names ∙ ap (λ (rules : List Rule). length (recorded_names (rule_trees rules))) c.as_slice.ensures)

pub returns-clause-fit : goal.returns-clause-fit
returns-clause-fit c = (zeros_are c.in_ok-words.words (c.len.result * word_count c.args.universe.now) c.in_ok-words.ensures).1

pub returns-clause-below : goal.returns-clause-below
returns-clause-below c = zeros_below c.args.universe.now (rule_trees c.args.rules.now) c.in_ok-words.words (c.len.result * word_count c.args.universe.now) c.in_ok-words.ensures

use Rattle.std.proofs.Common.{◌≡◌, List, ℕ, inl, inr, sym, ◌∙◌, ap, subst, arith}
use Rattle.std.proofs.lemmas.Bool.{cases_eq}
use Rattle.std.proofs.lemmas.Bool.Decides.{nat_tests}
use Rattle.std.specs.List.{sum}
use Rattle.lf_ast.specs.Rules.{rule_trees}
use Rattle.lf_rounds.specs.Facts.{task}
use Rattle.lf_rounds.specs.Tasks.{HoldRules, IsBelowLeast}
use Rattle.lf_rounds.proofs.Pieces.{least_words}
use Rattle.lf_rounds.proofs.SumLaws.{same_by_sum}
use Rattle.lf_rounds.proofs.round.Round.close.Goals as goal

pub returns-clause-rules : goal.returns-clause-rules
returns-clause-rules c =
    let round = c.args.self in
    let H : List ℕ → Type 0 = λ words. HoldRules round.universe (rule_trees round.rules) words round.start in
    subst H (sym (c.in_ok-words-2.ensures ∙ c.row_words.ensures)) c.in_ok-words.ensures.ends.held

pub returns-clause-changed : goal.returns-clause-changed
returns-clause-changed c =
    let start : List ℕ = c.args.self.start in
    let end = c.in_ok-words.ensures.ends in
    let words : List ℕ = c.in_ok-words.field-0.words in
    let told : c.in_ok-words-2.words ≡ words = c.in_ok-words-2.ensures ∙ c.row_words.ensures in
    let before : c.total_before-before.result ≡ sum start = c.total_before-before.ensures in
    let after : c.total.result ≡ sum words = c.total.ensures in (
      (λ changed e. let same : c.total.result ≡ c.total_before-before.result = after ∙ ap sum (sym told ∙ e) ∙ sym before in absurd (grind (arith, nat_tests, same, changed))),
      λ others. elim (cases_eq c.total.result c.total_before-before.result) [
        | inl same ↦ absurd (others (told ∙ sym (same_by_sum start words (sym end.wide) end.above (sym before ∙ sym same ∙ after))))
        | inr apart ↦ grind (arith, nat_tests, apart)
      ],
    )

pub returns-clause-least : goal.returns-clause-least
returns-clause-least c still =
    let round = c.args.self in
    let end = c.in_ok-words.ensures.ends in
    let words : List ℕ = c.in_ok-words-2.words in
    let told : words ≡ c.in_ok-words.field-0.words = c.in_ok-words-2.ensures ∙ c.row_words.ensures in
    let equal : c.total.result ≡ c.total_before-before.result = grind (arith, nat_tests, still) in
    let same : c.in_ok-words.field-0.words ≡ round.start =
    sym (same_by_sum round.start c.in_ok-words.field-0.words (sym end.wide) end.above (sym c.total_before-before.ensures ∙ sym equal ∙ c.total.ensures)) in
    let O : List ℕ × List ℕ → Type 0 = λ x. HoldRules round.universe (rule_trees round.rules) x.0 x.1 in
    let B : List ℕ → Type 0 = λ ws. IsBelowLeast round.universe (rule_trees round.rules) ws in
    least_words (task round) end.task words (subst O (λ i. (sym told i, sym (told ∙ same) i)) end.held) (subst B (sym told) end.below)

use Rattle.std.proofs.Common.{sym, ◌∙◌, ap}
use Rattle.lf_ast.specs.Arguments.{has_dollar}
use Rattle.lf_semantics.specs.Strings.{Replacing}
use Rattle.lf_strict.proofs.Replacements.{expanded_by, fails, stands_for_itself}
use Rattle.lf_strict.proofs.replacing.Replacing.expanded.Goals as goal

pub returns-then-has_dollar-clause-made : goal.returns-then-has_dollar-clause-made
returns-then-has_dollar-clause-made c =
    expanded_by c.args.self.now c.args.value.now c.args.pattern.now c.self.inside.replacement c.expand.result c.requires.pattern (ap (λ (p : Replacing). p.replacement) c.self.view_is) c.requires.plain
    (sym (c.has_dollar.ensures ∙ ap has_dollar c.as_str.ensures) ∙ c.if-has_dollar.true)
    c.expand.ensures.meaning

pub returns-in_ok-copy-clause-made : goal.returns-in_ok-copy-clause-made
returns-in_ok-copy-clause-made c =
    stands_for_itself c.args.self.now c.args.value.now c.args.pattern.now c.self.inside.replacement c.in_ok-copy.field-0 c.requires.pattern (ap (λ (p : Replacing). p.replacement) c.self.view_is)
    (c.in_ok-matches.ensures.meaning.0 c.if-branch.true)
    (sym (c.has_dollar.ensures ∙ ap has_dollar c.as_str.ensures) ∙ c.if-has_dollar.false)
    c.in_ok-copy.ensures

pub returns-else-branch-clause-made : goal.returns-else-branch-clause-made
returns-else-branch-clause-made c =
    fails c.args.self.now c.args.value.now c.args.pattern.now c.requires.pattern (λ matched. let yes = c.in_ok-matches.ensures.meaning.1 matched in let no = c.if-branch.false in cc)

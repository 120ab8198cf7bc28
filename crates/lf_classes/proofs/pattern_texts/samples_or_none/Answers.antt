use Rattle.std.proofs.Common.{sym, ap, ◌∙◌}
use Rattle.lf_semantics.proofs.PatternTexts.{samples_are_only}
use Rattle.lf_semantics.specs.Mentions.{alternatives_or_samples}
use Rattle.lf_classes.proofs.pattern_texts.samples_or_none.Goals as goal

pub returns-in-Ok : goal.returns-in-Ok
returns-in-Ok c =
    samples_are_only c.args.pattern.now c.in-Ok.samples c.in-Ok.ensures.samples
    ∙ ap (λ o. alternatives_or_samples o c.args.pattern.now) (sym c.requires)

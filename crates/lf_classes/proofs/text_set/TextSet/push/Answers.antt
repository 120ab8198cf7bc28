use Rattle.std.proofs.Common.{length, sym, ap, ◌∙◌}
use Rattle.lf_classes.proofs.Keys.{no_place}
use Rattle.lf_classes.proofs.text_set.TextSet.push.Goals as goal

pub returns-clause-place : goal.returns-clause-place
returns-clause-place c = c.len-place.ensures ∙ c.self.inside.texts.ok.0 ∙ ap length c.self.view_is ∙ sym (no_place c.args.self.now c.args.text.now c.requires)

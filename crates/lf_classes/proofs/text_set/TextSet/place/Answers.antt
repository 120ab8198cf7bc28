use Rattle.std.proofs.Common.{length, sym, ap, ◌∙◌}
use Rattle.lf_classes.proofs.Keys.{no_place}
use Rattle.lf_classes.proofs.text_set.TextSet.place.Goals as goal

pub returns-in-None-clause-place : goal.returns-in-None-clause-place
returns-in-None-clause-place c =
    let none = no_place c.args.self.now c.args.text.now (sym c.find.ensures ∙ c.in-None.is) in
    c.len.ensures ∙ c.self.inside.texts.ok.0 ∙ ap length c.self.view_is ∙ sym none

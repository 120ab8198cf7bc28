use Rattle.std.proofs.Common.{◌∙◌}
use Rattle.lf_classes.proofs.TextValues.{value_found}
use Rattle.lf_classes.proofs.text_map.TextMap.get.Goals as goal

pub returns : goal.returns
returns g c of are =
    let found = c.get.ensures.lookup in
    value_found of c.args.self.now.texts c.deref.result.now c.args.text.now (c.deref.ensures.value ∙ are) (λ value. value.now) c.place.result c.get.result c.place.ensures.place found.0 found.1

use Rattle.std.proofs.Common.{◌≤◌, length, None, sym, ap, ◌∙◌, arith}
use Rattle.std.proofs.lemmas.List.{get_or_past}
use Rattle.lf_classes.specs.views.TextSets.{seen, slot_of}
use Rattle.lf_classes.proofs.text_places.TextPlaces.find.Goals as goal

pub returns-then-count-eq0 : goal.returns-then-count-eq0
returns-then-count-eq0 c =
    let slots = c.args.self.now.slots.items in
    let t = c.args.text.now in
    let past : length slots ≤ slot_of t (length slots) = omega (arith, c.len-count.ensures, c.if-count-eq0.true, c.args.self.now.slots.ok.0) in
    ap (seen c.args.self.now.others c.args.texts.now t) (sym (get_or_past slots (slot_of t (length slots)) None past)) ∙ c.requires.each t

use Rattle.std.proofs.Common.{◌≡◌, ◌<◌, length, sym, ap, ◌∙◌, arith}
use Rattle.lf_classes.specs.views.TextSets.{in_slot, slot_of}
use Rattle.lf_classes.proofs.TextSlots.{free_absent, none_held, put_free, slot_is}
use Rattle.lf_classes.proofs.text_places.TextPlaces.settle.Goals as goal

pub returns-clause-places : goal.returns-clause-places
returns-clause-places c =
    let t = c.args.text.now in
    let texts = c.args.texts.now in
    let slots = c.args.self.now.slots in
    let others = c.args.self.now.others in
    let slot = c.slot_of-slot.result in
    let inside : slot < length slots.items = omega (arith, c.slot_of-slot.ensures.within, c.len.ensures, slots.ok.0) in
    let is : slot ≡ slot_of t (length slots.items) = c.slot_of-slot.ensures.slot ∙ ap (slot_of t) (c.len.ensures ∙ slots.ok.0) in
    let free = slot_is slots.items slot c.index.result.now inside c.index.ensures ∙ none_held c.index.result.now (sym c.is_some.ensures ∙ c.if-is_some.false) in
    put_free slots.items others texts t slot c.requires.places c.requires.few (free_absent slots.items others texts t c.requires.places (ap (in_slot slots.items) (sym is) ∙ free)) is inside free

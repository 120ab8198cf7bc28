use Rattle.std.proofs.Common.{sym}
use Rattle.lf_classes.proofs.TextSlots.{put_again}
use Rattle.lf_classes.proofs.text_places.TextPlaces.settle_beside.Goals as goal

pub returns-in-Some-clause-places : goal.returns-in-Some-clause-places
returns-in-Some-clause-places c =
    put_again c.args.self.now.slots.items c.args.self.now.others c.args.texts.now c.args.text.now c.in-Some.field-0 c.requires.places c.requires.few (sym c.in-Some.ensures)

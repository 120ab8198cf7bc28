use Rattle.std.proofs.Common.{rules}
use Rattle.lf_classes.specs.views.TextSets.{slot_of}
use Rattle.lf_classes.proofs.text_places.slot_of.Goals as goal

pub returns-clause-slot : goal.returns-clause-slot
unfolding slot_of
returns-clause-slot c = search rules

use Rattle.std.proofs.Common.{◌≡◌, length, take}
use Rattle.lf_classes.specs.views.TextSets.{HasPlaces}
use Rattle.lf_classes.proofs.text_places.TextPlaces.of.Given as goal

abbrev pub invariant-loop-place : goal.invariant-loop-place
invariant-loop-place l = record {
  slots : length l.places.slots.items ≡ l.slots;
  places : HasPlaces l.places (take l.place l.texts);
}

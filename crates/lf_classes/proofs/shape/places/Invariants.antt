use Rattle.lf_classes.proofs.Places.{ArePlaces}
use Rattle.lf_classes.proofs.shape.places.Given as goal

abbrev pub invariant-loop-count : goal.invariant-loop-count
invariant-loop-count l = ArePlaces l.counts l.starts.items l.place l.count-index

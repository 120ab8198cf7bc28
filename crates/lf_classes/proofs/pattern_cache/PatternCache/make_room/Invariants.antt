use Rattle.std.proofs.Common.{◌+◌, ◌-◌, length}
use Rattle.lf_semantics.specs.Listing.{Listing}
use Rattle.lf_classes.specs.views.PatternCache.{IsPatternCache}
use Rattle.lf_classes.proofs.pattern_cache.PatternCache.make_room.Given as goal

abbrev pub invariant-loop-alloc : goal.invariant-loop-alloc
invariant-loop-alloc l = (u : Listing) → IsPatternCache u l.initial.self → IsPatternCache u l.self

abbrev pub decreases-loop-alloc : goal.decreases-loop-alloc
decreases-loop-alloc l = l.label + 1 - length l.self.labels.items

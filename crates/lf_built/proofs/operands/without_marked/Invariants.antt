use Rattle.std.proofs.Common.{◌≡◌, Bool, length, map}
use Rattle.lf_ast.specs.Labels.{Bytes}
use Rattle.lf_classes.specs.Limits.{IsWithin}
use Rattle.lf_semantics.specs.Listing.{Listing}
use Rattle.lf_trials.specs.Candidates.{labels_in}
use Rattle.lf_trials.specs.Given.{Given, losing}
use Rattle.lf_candidates.specs.views.ClassTexts.{Stands, StandsBefore}
use Rattle.lf_built.proofs.operands.without_marked.Given as goal

abbrev pub invariant-loop-label : goal.invariant-loop-label
invariant-loop-label l = record {
  count : length l.texts ≡ length l.initial.texts;
  stands : (u : Listing) (lost : Bytes → Bool) (D : Given) → IsWithin u → l.marks ≡ map lost (labels_in u) → Stands u l.initial.texts D → StandsBefore u l.initial.texts l.label l.texts (losing lost D);
}

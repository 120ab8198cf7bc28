-- How many labels and classes a universe may have.
use Rattle.std.specs.Prelude.{◌≡◌, ◌<◌, ◌≤◌, ℕ, List}
use Rattle.lf_ast.specs.Rules.{RuleTree}
use Rattle.lf_semantics.specs.Listing.{IsListing, Listing, class_count, label_count, universe_of}
use Rattle.lf_classes.specs.declared.class_error.ClassError.{ClassError}
use Rattle.lf_classes.specs.declared.class_error.ClassError.TheVariants.{Memory, TooManyLabels, TooManyClasses}

-- the most labels, without `*`
abbrev pub most_labels : ℕ
most_labels = 4096

-- the most classes of all labels together
abbrev pub most_classes : ℕ
most_classes = 65536

-- a universe within the limits
pub record IsWithin (u : Listing) : Type 0 where
  pub listing : IsListing u
  pub labels : label_count u ≤ most_labels
  pub classes : class_count u ≤ most_classes

-- why a universe isn't built: it has too many labels; or no more labels than may be, and too many classes. Memory has no cause in it
abbrev pub ExceedsUniverseLimit : Listing → ClassError → Type 0
ExceedsUniverseLimit u Memory = Unit {0}
ExceedsUniverseLimit u (TooManyLabels found) = (found ≡ label_count u) × (most_labels < found)
ExceedsUniverseLimit u (TooManyClasses found) = (label_count u ≤ most_labels) × (found ≡ class_count u) × (most_classes < found)

-- why rules have no universe
abbrev pub PassesUniverseLimit : List RuleTree → ClassError → Type 0
PassesUniverseLimit rules = ExceedsUniverseLimit (universe_of rules)

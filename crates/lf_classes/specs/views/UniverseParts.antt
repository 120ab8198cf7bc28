-- How a universe is kept in the code. It defines nothing.
use Rattle.std.specs.Prelude.{◌≡◌, ℕ, List, [], codes}
use Rattle.lf_ast.specs.Labels.{Bytes}
use Rattle.lf_semantics.specs.Listing.{Listing, class_counts}
use Rattle.lf_classes.specs.Limits.{IsWithin}
use Rattle.lf_classes.specs.views.PatternCache.{IsPatternCache}
use Rattle.lf_classes.specs.declared.pattern_cache.PatternCache.{PatternCache}

-- a universe beside what is kept with it: the name of `*`, the empty text, how many classes each label has, and rows of patterns
pub record HasParts (u : Listing) (other_name no_text : Bytes) (counts : List ℕ) (rows : PatternCache) : Type 0 where
  pub within : IsWithin u
  pub star : other_name ≡ codes "*"
  pub empty : no_text ≡ []
  pub shape : counts ≡ class_counts u
  pub patterns : IsPatternCache u rows

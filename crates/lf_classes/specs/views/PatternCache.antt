-- Rows of the classes that pass patterns, as they are cached.
use Rattle.std.specs.Prelude.{◌≡◌, ℕ, ◌||◌, not, eqb, Some, slice_get}
use Rattle.lf_ast.specs.Labels.{Bytes}
use Rattle.lf_ast.specs.declared.expr.MatchOp.{MatchOp}
use Rattle.lf_ast.specs.declared.expr.MatchOp.TheVariants.{Matches, NotMatches}
use Rattle.lf_semantics.specs.ClassRows.{Sets, top, narrowed}
use Rattle.lf_semantics.specs.Listing.{Listing}
use Rattle.lf_semantics.specs.RowTable.{passes_class}
use Rattle.lf_classes.specs.declared.pattern_cache.LabelRows.{LabelRows}
use Rattle.lf_classes.specs.declared.pattern_cache.PatternCache.{PatternCache}
use Rattle.lf_classes.specs.views.TextMaps.{HasValues}

-- the classes of a label that pass a matcher, beside every class of each other label
abbrev pub passing_row : Listing → ℕ → MatchOp → Bytes → Sets
passing_row u label op pattern = narrowed (λ l c. not (eqb label l) || passes_class u op pattern l c) (top u)

-- the rows of a label's patterns, by their operators
pub record HasRows (u : Listing) (label : ℕ) (rows : LabelRows) : Type 0 where
  pub matching : HasValues (passing_row u label Matches) rows.matching
  pub failing : HasValues (passing_row u label NotMatches) rows.failing

-- each label has rows of its own patterns
abbrev pub IsPatternCache : Listing → PatternCache → Type 0
IsPatternCache u r = (label : ℕ) (rows : LabelRows) → slice_get r.labels.items label ≡ Some rows → HasRows u label rows

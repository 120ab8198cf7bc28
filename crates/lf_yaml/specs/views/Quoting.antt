-- The code's styles of scalars between quotes. It defines nothing of trees.
use Rattle.lf_scalar.specs.declared.quotes.Quotes.{Quotes}
use Rattle.lf_scalar.specs.declared.quotes.Quotes.TheVariants.{Single, Double}
use Rattle.lf_scalar.specs.declared.scalar.Style.{Style}
use Rattle.lf_scalar.specs.declared.scalar.Style.TheVariants as style

abbrev pub style_of_quotes : Quotes → Style
style_of_quotes Single = style.Single
style_of_quotes Double = style.Double

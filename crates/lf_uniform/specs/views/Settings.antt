-- Rules and their universe, as the code has them together.
use Rattle.std.specs.Prelude.{List}
use Rattle.lf_ast.specs.declared.rule.Rule.{Rule}
use Rattle.lf_semantics.specs.Listing.{Listing}

pub record Setting : Type 0 where
  pub universe : Listing
  pub rules : List Rule

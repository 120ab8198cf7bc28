-- The stored samples, as they are kept under their metric names.
use Rattle.std.specs.Prelude.{◌≡◌, List, [], ◌∷◌, ◌++◌, string_bytes}
use Rattle.std.specs.List.{AllByRecursion, Contains}
use Rattle.std.specs.declared.string.String.{String}
use Rattle.lf_ast.specs.Labels.{Labels}
use Rattle.lf_ast.specs.Selectors.{metric}
use Rattle.lf_semantics.specs.Texts.{value_of}

module _ {A : Type 0} where
  -- the samples under all names
  abbrev pub samples_of : List (String A × List Labels) → List Labels
  samples_of [] = []
  samples_of (e ∷ es) = e.1 ++ samples_of es

  -- each sample stands under its metric name
  abbrev pub AreUnderNames : List (String A × List Labels) → Type 0
  AreUnderNames es = AllByRecursion (λ e. (s : Labels) → Contains e.1 s → value_of s metric ≡ string_bytes e.0) es

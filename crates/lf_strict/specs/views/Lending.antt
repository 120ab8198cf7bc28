-- Samples that are lent or made. It defines nothing.
use Rattle.std.specs.Prelude.{List, [], ◌∷◌}
use Rattle.lf_ast.specs.Labels.{Labels}
use Rattle.lf_strict.specs.declared.lending.Held.{Held}
use Rattle.lf_strict.specs.declared.lending.Held.TheVariants.{Nothing, Lent, Alone, Listed}

-- the samples, wherever they are
abbrev pub samples_held : Held → List Labels
samples_held Nothing = []
samples_held (Lent sample) = sample.now ∷ []
samples_held (Alone sample) = sample ∷ []
samples_held (Listed samples) = samples.items

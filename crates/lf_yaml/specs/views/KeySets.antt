-- The texts of keys, as the code holds them in a set. It defines nothing of trees.
use Rattle.std.specs.Prelude.{◌≡◌, ℕ, List, ◌||◌}
use Rattle.std.specs.BTreeSet.{contains_text}
use Rattle.lf_yaml.specs.reading.Trees.{Keys, has}
use Rattle.lf_yaml.specs.declared.key_set.KeySet.{KeySet}

-- the set has the texts of some keys, and no other
abbrev pub HasKeys : KeySet → Keys → Type 0
HasKeys set keys = (text : List ℕ) → (has set.few text || contains_text set.many text) ≡ has keys text

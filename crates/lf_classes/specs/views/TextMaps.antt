-- Values of texts, as the code keeps them.
use Rattle.std.specs.Prelude.{◌≡◌, map}
use Rattle.lf_ast.specs.Labels.{Bytes}
use Rattle.lf_classes.specs.declared.text_map.TextMap.{TextMap}

-- the value of each text stands at the text's place
abbrev pub HasValues : {V : Type 0} → (Bytes → V) → TextMap V → Type 0
HasValues of m = m.values.items ≡ map of m.texts

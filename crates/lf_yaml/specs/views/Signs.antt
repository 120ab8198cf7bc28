-- Which signs stop a key, in a block mapping and in a flow mapping, as the code tells them apart. It defines nothing of trees.
use Rattle.std.specs.Prelude.{ℕ, List, [], ◌∷◌, Bool, true, false, ◌==◌, ◌||◌}
use Rattle.lf_scalar.specs.Cells.{Cell}
use Rattle.lf_yaml.specs.Heads.{never}
use Rattle.lf_yaml.specs.Flow.{is_flow_sign}

abbrev pub stops_of : Bool → Cell → Bool
stops_of true c = is_flow_sign c
stops_of false c = never c

-- a text begins with the first byte of `null`, `Null`, `NULL` or `~`
abbrev pub begins_null : List ℕ → Bool
begins_null [] = false
begins_null (b ∷ bs) = (b == 110) || ((b == 78) || (b == 126))

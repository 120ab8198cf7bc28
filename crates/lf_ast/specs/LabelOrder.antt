-- The order of label sets.
use Rattle.std.specs.Prelude.{List, [], ◌∷◌, map}
use Rattle.std.specs.declared.cmp.Ordering.{Ordering}
use Rattle.std.specs.Ordering.{nat_cmp}
use Rattle.std.specs.Cmp.Lexicographic.{slice_cmp}
use Rattle.std.specs.FinMap.{entries}
use Rattle.lf_ast.specs.Labels.{Bytes, Labels}

-- a label and its text
abbrev pub pair_of : Bytes × Bytes → List Bytes
pair_of entry = entry.0 ∷ entry.1 ∷ []

-- the pairs of a label and its text, in ascending order of the labels
abbrev pub pairs_of : Labels → List (List Bytes)
pairs_of s = map pair_of (entries s)

-- by the first pair that differs, of pairs by the label and then by the text, of texts by their bytes; a list of pairs that ends comes before one that goes on
abbrev pub pairs_cmp : List (List Bytes) → List (List Bytes) → Ordering
pairs_cmp = slice_cmp (slice_cmp (slice_cmp nat_cmp))

-- the order of label sets
abbrev pub labels_cmp : Labels → Labels → Ordering
labels_cmp s t = pairs_cmp (pairs_of s) (pairs_of t)

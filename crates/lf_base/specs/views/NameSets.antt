-- What a set of names has.
use Rattle.std.specs.Prelude.{◌≡◌, ℕ, Bool, List}
use Rattle.std.specs.List.{list_any}
use Rattle.std.specs.BTreeSet.{contains_by}
use Rattle.std.specs.Str.{bytes_eq}
use Rattle.std.specs.Ordering.{nat_cmp}
use Rattle.std.specs.Cmp.Lexicographic.{slice_cmp}
use Rattle.lf_base.specs.declared.name_set.NameSet.{NameSet}

-- the set has the name
abbrev pub has : NameSet → List ℕ → Bool
has set name = contains_by (λ other. slice_cmp nat_cmp name other.now) set.names

-- the set has these names and no others
abbrev pub HasNames : NameSet → List (List ℕ) → Type 0
HasNames set names = (other : List ℕ) → has set other ≡ list_any (bytes_eq other) names

-- Values with the numbers that they are ordered by.
use Rattle.std.specs.Prelude.{ℕ, List}
use Rattle.std.specs.Cmp.Lexicographic.{slice_cmp}
use Rattle.std.specs.Ordering.{nat_cmp}
use Rattle.std.specs.declared.cmp.Ordering.{Ordering}
use Rattle.lf_base.specs.declared.keyed.Keyed.{Keyed}

module _ {T : Type 0} where
  abbrev pub items_of : Keyed T → List ℕ
  items_of k = k.key

  -- the order of their keys, of which the first numbers that differ decide
  abbrev pub keyed_cmp : Keyed T → Keyed T → Ordering
  keyed_cmp k l = slice_cmp nat_cmp (items_of k) (items_of l)

-- What a row says of a label: on each sample, or on none. A label that is no label of the universe is judged as `*`, which stands for it.
use Rattle.std.specs.Prelude.{◌≡◌, true, false}
use Rattle.lf_ast.specs.Labels.{Bytes}
use Rattle.lf_semantics.specs.ClassRows.{Sets, is_live}
use Rattle.lf_semantics.specs.Listing.{Listing}
use Rattle.lf_semantics.specs.RowTable.{may_be_absent, may_be_present}

-- the row isn't empty, and in the set of the label is nothing but the empty text
abbrev pub IsImpossible : Listing → Sets → Bytes → Type 0
IsImpossible u row label = (is_live row ≡ true) × (may_be_present u row label ≡ false)

-- the row isn't empty, and in the set of the label the empty text is lacking
abbrev pub IsGuaranteed : Listing → Sets → Bytes → Type 0
IsGuaranteed u row label = (is_live row ≡ true) × (may_be_absent u row label ≡ false)

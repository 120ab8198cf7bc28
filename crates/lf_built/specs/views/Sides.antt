-- The texts of the sides of a match: how contracts see the code. It defines nothing.
use Rattle.std.specs.Prelude.{◌≡◌, Bool, true, false, Option, Some, None}
use Rattle.lf_semantics.specs.ClassRows.{Sets}
use Rattle.lf_semantics.specs.Environments.{IsRow}
use Rattle.lf_semantics.specs.Listing.{Listing}
use Rattle.lf_trials.specs.Given.{Given}
use Rattle.lf_candidates.specs.views.ClassTexts.{Stands}
use Rattle.lf_candidates.specs.views.Packed.{PackedRow, packed}
use Rattle.lf_built.specs.declared.sides.SideRows.{SideRows}
use Rattle.lf_built.specs.declared.sides.Sides.{Sides}
use Rattle.lf_built.specs.declared.sides.WholeRows.{WholeRows}

-- the sides get these texts, if each label of the signature has one
abbrev pub AreSides : Listing → Bool → Given → Given → Option Sides → Type 0
AreSides u has L R (Some sides) = (has ≡ true) × Stands u sides.left L × Stands u sides.right R
AreSides u has L R None = has ≡ false

-- where the rows are whole, they are these
abbrev pub AreWhole : Sets → Sets → Option WholeRows → Type 0
AreWhole l r (Some rows) = (rows.left ≡ l) × (rows.right ≡ r)
AreWhole l r None = Unit {0}

-- they are these rows of the universe, packed
abbrev pub ArePacked : Listing → Sets → Sets → PackedRow → PackedRow → Type 0
ArePacked u l r left right = IsRow u l × IsRow u r × (left ≡ packed u l) × (right ≡ packed u r)

-- they are these rows of the universe, packed, and maybe whole
abbrev pub AreRows : Listing → Sets → Sets → SideRows → Type 0
AreRows u l r rows = ArePacked u l r rows.left.now rows.right.now × AreWhole l r rows.whole

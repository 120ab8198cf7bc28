-- Open constructs with what they are ordered by: how contracts see the code. It defines nothing.
use Rattle.std.specs.Prelude.{◌≡◌, ℕ, List}
use Rattle.std.specs.List.{Contains}
use Rattle.lf_open.specs.OpenList.{key_of}
use Rattle.lf_open.specs.declared.open_at.OpenAt.{OpenAt}
use Rattle.lf_base.specs.declared.keyed.Keyed.{Keyed}

abbrev pub keyed : OpenAt → Keyed OpenAt
keyed o = record { key = key_of o; item = o }

-- each is of the rule of this number
abbrev pub AreOfRule : ℕ → List OpenAt → Type 0
AreOfRule rule found = (o : OpenAt) → Contains found o → o.rule ≡ rule

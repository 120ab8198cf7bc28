-- Findings with what they are ordered by.
use Rattle.std.specs.Prelude.{◌≡◌, ℕ, List, []}
use Rattle.std.specs.List.{Contains}
use Rattle.lf_ast.specs.declared.verdict.Finding.{Finding as Row}
use Rattle.lf_checks.specs.Finding.{Finding, RuleDuplicate, key_of}
use Rattle.lf_base.specs.declared.keyed.Keyed.{Keyed}
use Rattle.lf_checks.specs.views.Shown.{shown}

-- what a finding is ordered by, but for the place of the rule that it names
abbrev pub row_key : Row → List ℕ
row_key f = key_of (shown [] [] f)

abbrev pub keyed : Row → Keyed Row
keyed f = record { key = row_key f; item = f }

-- of the findings there is one at most that says where the same rule stands
abbrev pub OneDuplicate : List Finding → Type 0
OneDuplicate found = (f g : Finding) → Contains found f → Contains found g → f.check ≡ RuleDuplicate → g.check ≡ RuleDuplicate → f ≡ g

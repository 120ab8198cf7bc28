-- What is found of one label of a recording rule.
use Rattle.std.specs.Prelude.{◌≡◌, ◌≢◌, ◌⊎◌, []}
use Rattle.lf_ast.specs.declared.rule.RuleLabel.{RuleLabel as Label}
use Rattle.lf_semantics.specs.ClassRows.{Sets}
use Rattle.lf_semantics.specs.Listing.{Listing}
use Rattle.lf_checks.specs.Finding.{Finding, RuleLabel, finding}
use Rattle.lf_checks.specs.Judged.{IsGuaranteed, IsImpossible}
use Rattle.lf_checks.specs.RuleLabel.{says_removed, says_replaced}

-- at its key: that it replaces a label, or that it removes nothing
abbrev pub IsOfLabel : Listing → Sets → Label → Finding → Type 0
IsOfLabel u row l f =
    ((l.value ≢ []) × IsGuaranteed u row l.key × (f ≡ finding RuleLabel l.key_span (says_replaced l.key)))
    ⊎ ((l.value ≡ []) × IsImpossible u row l.key × (f ≡ finding RuleLabel l.key_span (says_removed l.key)))

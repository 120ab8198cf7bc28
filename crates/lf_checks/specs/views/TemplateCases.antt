-- What is found of one template of an alert.
use Rattle.std.specs.Prelude.{◌≡◌, ◌⊎◌}
use Rattle.lf_base.specs.declared.fault.Fault.{Fault}
use Rattle.lf_ast.specs.declared.rule.Template.{Template}
use Rattle.lf_semantics.specs.ClassRows.{Sets}
use Rattle.lf_semantics.specs.Listing.{Listing}
use Rattle.lf_templates.specs.Templates.{Breaks}
use Rattle.lf_templates.specs.declared.reference.Reference.{Reference}
use Rattle.lf_checks.specs.AlertTemplate.{HasReference, says_never, says_unreadable}
use Rattle.lf_checks.specs.Finding.{AlertTemplate, Finding, finding}
use Rattle.lf_checks.specs.Judged.{IsImpossible}

-- that no sample has the label of a reference
abbrev pub IsOfReference : Listing → Sets → Reference → Finding → Type 0
IsOfReference u row reference f = IsImpossible u row reference.label × (f ≡ finding AlertTemplate reference.span (says_never reference.label))

-- that it can't be read
abbrev pub IsOfBreach : Template → Finding → Type 0
IsOfBreach t f = (breach : Fault) × Breaks t.from t.text breach × (f ≡ finding AlertTemplate breach.span says_unreadable)

-- either of these
abbrev pub IsOfTemplate : Listing → Sets → Template → Finding → Type 0
IsOfTemplate u row t f = ((reference : Reference) × HasReference t reference × IsOfReference u row reference f) ⊎ IsOfBreach t f

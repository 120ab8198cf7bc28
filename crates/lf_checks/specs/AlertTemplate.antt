-- alert/template: a template of an alert that names a label which none of its samples has, or that can't be read.
use Rattle.std.specs.Prelude.{◌≡◌, ◌⊎◌, ◌+◌, true, List, ◌++◌, codes, length}
use Rattle.std.specs.List.{Contains}
use Rattle.std.specs.List.Sorted.{IsNonDecreasing}
use Rattle.lf_base.specs.declared.fault.Fault.{Fault}
use Rattle.lf_ast.specs.Labels.{Bytes}
use Rattle.lf_ast.specs.Rules.{RuleTree}
use Rattle.lf_ast.specs.declared.rule.Template.{Template}
use Rattle.lf_semantics.specs.ClassRows.{Sets}
use Rattle.lf_semantics.specs.Listing.{Listing}
use Rattle.lf_templates.specs.Templates.{Breaks, References}
use Rattle.lf_templates.specs.declared.reference.Reference.{Reference}
use Rattle.lf_checks.specs.Finding.{AlertTemplate, Finding, Problem, Severity, finding}
use Rattle.lf_checks.specs.Judged.{IsImpossible}

-- how grave it is
abbrev pub severity : Severity
severity = Problem

-- what it says of a label that is never there
abbrev pub says_never : Bytes → Bytes
says_never label = codes "label " ++ (label ++ codes " is never on the alert's sample")

-- what it says of a template that is refused
abbrev pub says_unreadable : Bytes
says_unreadable = codes "the template can't be read"

-- the alert has this template
abbrev pub HasTemplate : RuleTree → Template → Type 0
HasTemplate r t = (r.alert ≡ true) × Contains r.templates t

-- the template refers to a label there
abbrev pub HasReference : Template → Reference → Type 0
HasReference t reference = (found : List Reference) × References t.from t.text found × Contains found reference

-- a reference to a label that is impossible by the row of the alert, which isn't empty; at the reference
abbrev pub IsNeverThere : Listing → Sets → RuleTree → Finding → Type 0
IsNeverThere u row r f =
    (t : Template) × (reference : Reference) × HasTemplate r t × HasReference t reference × IsImpossible u row reference.label
    × (f ≡ finding AlertTemplate reference.span (says_never reference.label))

-- a template that is refused, at the breach that is told; of an alert whose row is empty too
abbrev pub IsUnreadable : RuleTree → Finding → Type 0
IsUnreadable r f = (t : Template) × (breach : Fault) × HasTemplate r t × Breaks t.from t.text breach × (f ≡ finding AlertTemplate breach.span says_unreadable)

-- what the check finds: either of these
abbrev pub IsFound : Listing → Sets → RuleTree → Finding → Type 0
IsFound u row r f = IsNeverThere u row r f ⊎ IsUnreadable r f

-- each template has an offset in its source for each byte of its text and for the end, none less than one before it: so do those of the rules of files
abbrev pub HaveSources : List RuleTree → Type 0
HaveSources rules = (r : RuleTree) → Contains rules r → (t : Template) → Contains r.templates t → (length t.from ≡ length t.text + 1) × IsNonDecreasing t.from

-- Findings: what a check says of a rule, and where it stands in the rule's file.
use Rattle.std.specs.Prelude.{ℕ, List, ◌∷◌, codes}
use Rattle.std.specs.declared.cmp.Ordering.{Ordering}
use Rattle.std.specs.Ordering.{nat_cmp}
use Rattle.std.specs.Cmp.Lexicographic.{slice_cmp}
use Rattle.lf_base.specs.declared.place.Span.{Span}
use Rattle.lf_ast.specs.Labels.{Bytes}

-- the checks
pub data Check : Type 0 where
  AlertComparison : Check
  AlertTemplate : Check
  RuleDuplicate : Check
  RuleDependency : Check
  PromqlRegexp : Check
  MatchLabel : Check
  ExprEmpty : Check
  ExprType : Check
  RuleLabel : Check

-- the name of a check, as reports write it
abbrev pub name_of : Check → Bytes
name_of AlertComparison = codes "alert/comparison"
name_of AlertTemplate = codes "alert/template"
name_of RuleDuplicate = codes "rule/duplicate"
name_of RuleDependency = codes "rule/dependency"
name_of PromqlRegexp = codes "promql/regexp"
name_of MatchLabel = codes "match/label"
name_of ExprEmpty = codes "expr/empty"
name_of ExprType = codes "expr/type"
name_of RuleLabel = codes "rule/label"

-- the number of a check in the table of checks, counted from 1
abbrev pub rank : Check → ℕ
rank AlertComparison = 1
rank AlertTemplate = 2
rank RuleDuplicate = 3
rank RuleDependency = 4
rank PromqlRegexp = 5
rank MatchLabel = 6
rank ExprEmpty = 7
rank ExprType = 8
rank RuleLabel = 9

-- how grave a finding is: a problem, or a note, which asks for a look and no more
pub data Severity : Type 0 where
  Problem : Severity
  Note : Severity

-- a finding: the check, the part of the source that it is about, and what it says. The check has the severity
pub record Finding : Type 0 where
  pub check : Check
  pub span : Span
  pub text : Bytes

-- the finding of a check at a span, with a text
abbrev pub finding : Check → Span → Bytes → Finding
finding check span text = record { check = check; span = span; text = text }

-- by what findings are ordered: the check, then the start, the end and the text
abbrev pub key_of : Finding → List ℕ
key_of f = rank f.check ∷ f.span.start ∷ f.span.end ∷ f.text

-- the order of findings: by the first of these that differs; of texts by their bytes, and a text that ends comes before one that goes on
abbrev pub finding_cmp : Finding → Finding → Ordering
finding_cmp f g = slice_cmp nat_cmp (key_of f) (key_of g)

-- rule/label: a label of a recording rule that replaces one which each sample has, or that removes one which no sample has.
use Rattle.std.specs.Prelude.{◌≡◌, ◌≢◌, ◌⊎◌, false, [], ◌++◌, codes}
use Rattle.std.specs.List.{Contains}
use Rattle.lf_ast.specs.Labels.{Bytes}
use Rattle.lf_ast.specs.Rules.{RuleTree}
use Rattle.lf_ast.specs.declared.rule.RuleLabel.{RuleLabel as Label}
use Rattle.lf_semantics.specs.ClassRows.{Sets}
use Rattle.lf_semantics.specs.Listing.{Listing}
use Rattle.lf_checks.specs.Finding.{Finding, Note, RuleLabel, Severity, finding}
use Rattle.lf_checks.specs.Judged.{IsGuaranteed, IsImpossible}

-- how grave it is
abbrev pub severity : Severity
severity = Note

-- what it says of a label that replaces another
abbrev pub says_replaced : Bytes → Bytes
says_replaced label = codes "label " ++ (label ++ codes " replaces one that each sample has")

-- what it says of a label that removes nothing
abbrev pub says_removed : Bytes → Bytes
says_removed label = codes "label " ++ (label ++ codes " is removed but on no sample")

-- the recording rule sets this label
abbrev pub HasLabel : RuleTree → Label → Type 0
HasLabel r l = (r.alert ≡ false) × Contains r.labels l

-- a label with a text, which is guaranteed on the samples of the rule's expression; at the key
abbrev pub IsReplacing : Listing → Sets → RuleTree → Finding → Type 0
IsReplacing u row r f = (l : Label) × HasLabel r l × (l.value ≢ []) × IsGuaranteed u row l.key × (f ≡ finding RuleLabel l.key_span (says_replaced l.key))

-- a label without a text, which is impossible on the samples of the rule's expression, whose row isn't empty; at the key
abbrev pub IsRemoving : Listing → Sets → RuleTree → Finding → Type 0
IsRemoving u row r f = (l : Label) × HasLabel r l × (l.value ≡ []) × IsImpossible u row l.key × (f ≡ finding RuleLabel l.key_span (says_removed l.key))

-- what the check finds: either of these
abbrev pub IsFound : Listing → Sets → RuleTree → Finding → Type 0
IsFound u row r f = IsReplacing u row r f ⊎ IsRemoving u row r f

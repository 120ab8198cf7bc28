-- What stands in files: the rules of each, or what refuses it.
use Rattle.std.specs.Prelude.{◌≡◌, ℕ, List, [], length, Some, slice_get}
use Rattle.std.specs.List.{flat_map}
use Rattle.lf_ast.specs.Rules.{RuleTree}
use Rattle.lf_base.specs.Faults.{fault}
use Rattle.lf_base.specs.declared.kind.Kind.{Kind}
use Rattle.lf_base.specs.declared.place.Span.{Span}
use Rattle.lf_accept.specs.Accepted.{IsAccepted, RefusesFile}
use Rattle.lf_checks.specs.Files.{File}

-- what stands in a file: rules, in its order, or a breach by which it is refused
pub data Content : Type 0 where
  Rules : List RuleTree → Content
  Refused : Kind → Span → Content

-- the file with this number is accepted with these rules, or it is refused there
abbrev pub HasContent : ℕ → File → Content → Type 0
HasContent k file (Rules rules) = IsAccepted file.bytes k rules
HasContent k file (Refused kind span) = RefusesFile file.bytes (fault kind span)

-- what stands in each of the files, which are numbered from 0
pub record AreContents (files : List File) (contents : List Content) : Type 0 where
  pub count : length contents ≡ length files
  pub each : (k : ℕ) (file : File) (content : Content) → slice_get files k ≡ Some file → slice_get contents k ≡ Some content → HasContent k file content

abbrev pub rules_in : Content → List RuleTree
rules_in (Rules rules) = rules
rules_in (Refused kind span) = []

-- the rules of all files that aren't refused, file by file
abbrev pub accepted : List Content → List RuleTree
accepted contents = flat_map rules_in contents

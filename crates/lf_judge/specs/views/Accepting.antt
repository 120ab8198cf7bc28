-- What the code finds in files, and what it keeps of them.
use Rattle.std.specs.Prelude.{◌≡◌, ℕ, List, Option, Some, None, map, slice_get}
use Rattle.lf_ast.specs.Rules.{rule_trees}
use Rattle.lf_accept.specs.Taken.{FileTakes}
use Rattle.lf_checks.specs.Files.{File}
use Rattle.lf_report.specs.declared.report.Refused.{Refused as Refusal}
use Rattle.lf_judge.specs.Founds.{AreContents, Content, HasContent, Rules, Refused, accepted}
use Rattle.lf_judge.specs.declared.accepting.Accepted.{Accepted}
use Rattle.lf_judge.specs.declared.accepting.Counted.{Counted}
use Rattle.lf_judge.specs.declared.accepting.FileContent.{FileContent}
use Rattle.lf_judge.specs.declared.accepting.FileContent.TheVariants as kept

-- what was found in a file
abbrev pub content_of : FileContent → Content
content_of (kept.Rules rules) = Rules (rule_trees rules)
content_of (kept.Refused why) = Refused why.kind why.span

abbrev pub content_in : Counted → Content
content_in counted = content_of counted.found

-- what was taken for it
abbrev pub taken_in : Counted → ℕ
taken_in counted = counted.taken

-- this was found in the file with a number, and so much was taken for it
abbrev pub IsFoundIn : List File → ℕ → Counted → Type 0
IsFoundIn files k counted = (file : File) → slice_get files k ≡ Some file → HasContent k file (content_in counted) × FileTakes file.bytes counted.taken

-- why a file is refused, if it is
abbrev pub refusal_in : Content → Option Refusal
refusal_in (Rules rules) = None
refusal_in (Refused kind span) = Some (record { kind = kind; span = span })

-- what stands in files
abbrev pub IsOfContents : List Content → Accepted → Type 0
IsOfContents contents a = (a.refusals ≡ map refusal_in contents) × (rule_trees a.rules ≡ accepted contents)

abbrev pub IsOfFiles : List File → Accepted → Type 0
IsOfFiles files a = (contents : List Content) × AreContents files contents × IsOfContents contents a

-- What the code's findings say, in the words of the definitions.
use Rattle.std.specs.Prelude.{ℕ, List, [], Option, map, slice_get}
use Rattle.std.specs.List.{All, Contains}
use Rattle.std.specs.Option.{option_and_then, option_map_or}
use Rattle.lf_ast.specs.Labels.{Bytes}
use Rattle.lf_ast.specs.Rules.{RuleTree}
use Rattle.lf_ast.specs.declared.verdict.Finding.{Finding as Row}
use Rattle.lf_checks.specs.Files.{File, place_in}
use Rattle.lf_checks.specs.Finding.{Finding, finding}
use Rattle.lf_checks.specs.Numbers.{HasNumbers}
use Rattle.lf_checks.specs.views.Cases.{check_at, said}

-- over the files and the rules, of which a finding may name one by its number
module _ (files : List File) (rules : List RuleTree) where
  -- where the name of the rule stands in its file
  abbrev pub name_place : RuleTree → Bytes
  name_place r = option_map_or (λ file. place_in file r.name_span.start) (slice_get files r.file) []

  -- where the name of the rule with this number stands
  abbrev pub place_of : Option ℕ → Bytes
  place_of other = option_map_or name_place (option_and_then (slice_get rules) other) []

  -- what a finding of the code is
  abbrev pub shown : Row → Finding
  shown f = finding (check_at f.check) f.span (said (check_at f.check) f.case f.label (place_of f.other))

  abbrev pub all_shown : List Row → List Finding
  all_shown found = map shown found

  -- the list holds exactly these findings
  pub record Lists (is : Finding → Type 0) (found : List Row) : Type 0 where
    pub each : (f : Finding) → Contains (all_shown found) f → is f
    pub all : (f : Finding) → is f → Contains (all_shown found) f

  -- each has the numbers of what it says of rule i
  abbrev pub AreNumbered : ℕ → List Row → Type 0
  AreNumbered i found = All (λ f. HasNumbers rules i (shown f) f) found

-- the same of findings that name no other rule, so that neither files nor rules matter

abbrev pub NumberedAlone : List Row → Type 0
NumberedAlone found = (files : List File) (rules : List RuleTree) (i : ℕ) → AreNumbered files rules i found

-- the list holds exactly these findings, with the numbers of what they say
pub record ListsAlone (is : Finding → Type 0) (found : List Row) : Type 0 where
  pub lists : (files : List File) (rules : List RuleTree) → Lists files rules is found
  pub numbers : NumberedAlone found

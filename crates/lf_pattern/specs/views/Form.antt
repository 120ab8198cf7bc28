-- How a pattern is matched, and how it is tried.
use Rattle.std.specs.Prelude.{◌≡◌, ◌<◌, ℕ, List, Some, None, is_some, slice_index_or}
use Rattle.regex.specs.Patterns.{default_config, find_str}
use Rattle.regex.specs.Strings.{regex_source, regex_config, matcher_pattern, IsReadFromSource}
use Rattle.regex.specs.declared.string.matcher.Matcher.{Matcher}
use Rattle.lf_pattern.specs.Scan.{alternatives_of}
use Rattle.lf_pattern.specs.reading.Expansion.{captures}
use Rattle.lf_pattern.specs.Read.{anchored, finds}
use Rattle.lf_pattern.specs.declared.pattern.Form.{Form}
use Rattle.lf_pattern.specs.declared.pattern.Form.TheVariants.{Plain, Other}
use Rattle.lf_pattern.specs.declared.probe.Way.{Way}
use Rattle.lf_pattern.specs.declared.probe.Way.TheVariants as way

-- the form fits the pattern's text
abbrev pub IsFormOf : List ℕ → Form → Type 0
IsFormOf text (Plain alternatives pair) = (alternatives_of text ≡ Some alternatives) × (pair ≡ captures text)
IsFormOf text (Other regex) =
    (alternatives_of text ≡ None) × (regex_source regex ≡ anchored text) × (regex_config regex ≡ default_config) × IsReadFromSource regex

-- the matcher has a match in the same values as the pattern
abbrev pub FindsAs : List ℕ → Matcher → Type 0
FindsAs p m = (value : List ℕ) → ((k : ℕ) → slice_index_or value k 0 < 256) → is_some (find_str (matcher_pattern m) value 0) ≡ finds p value

-- the way fits the pattern's text
abbrev pub IsWayOf : List ℕ → Way → Type 0
IsWayOf text (way.Plain alternatives) = alternatives_of text ≡ Some alternatives.now
IsWayOf text (way.Other matcher) = (alternatives_of text ≡ None) × FindsAs text matcher

-- When a matcher passes a text.
use Rattle.std.specs.Prelude.{◌≡◌, ◌≢◌, Bool, true, false, not, ◌&&◌, List, Option, Some, None, is_some}
use Rattle.std.specs.List.{AllByRecursion}
use Rattle.std.specs.Str.{bytes_eq}
use Rattle.lf_ast.specs.Labels.{Bytes, Labels}
use Rattle.lf_ast.specs.declared.expr.Matcher.{Matcher}
use Rattle.lf_ast.specs.declared.expr.MatchOp.{MatchOp}
use Rattle.lf_ast.specs.declared.expr.MatchOp.TheVariants.{Equal, NotEqual, Matches, NotMatches}
use Rattle.lf_ast.specs.Selectors.{metric}
use Rattle.lf_pattern.specs.Matching.{IsRead, Matches as IsMatch, is_read, matches}
use Rattle.lf_pattern.specs.Scan.{alternatives_of}
use Rattle.lf_semantics.specs.Texts.{value_of}

-- `=` and `!=` compare texts; `=~` and `!~` say whether the pattern matches the whole text. What is no pattern passes nothing
abbrev pub Passes : MatchOp → Bytes → Bytes → Type 0
Passes Equal value text = text ≡ value
Passes NotEqual value text = text ≢ value
Passes Matches value text = IsMatch value text
Passes NotMatches value text = IsRead value × (IsMatch value text → ⊥)

-- a label set passes each matcher, by its text of the matcher's label
abbrev pub PassesEach : List Matcher → Labels → Type 0
PassesEach matchers s = AllByRecursion (λ m. Passes m.op m.value (value_of s m.label)) matchers

-- a name before the braces is a matcher `=` on the metric name
abbrev pub HasName : Option Bytes → Labels → Type 0
HasName None s = Unit {0}
HasName (Some name) s = value_of s metric ≡ name

-- The same as a function, for rows to be computed with: `passes_is` of proofs/PatternTexts says that it agrees, both ways.
abbrev pub passes : MatchOp → Bytes → Bytes → Bool
passes Equal value text = bytes_eq text value
passes NotEqual value text = not (bytes_eq text value)
passes Matches value text = matches value text
passes NotMatches value text = is_read value && not (matches value text)

-- 'any other text': a text that isn't named with the label

-- the pattern is plain: by `plain_is` of proofs/PatternTexts it is so exactly for `IsPlainPattern`
abbrev pub is_plain : Bytes → Bool
is_plain pattern = is_some (alternatives_of pattern)

-- it fails `=` and a plain `=~`, and passes `!=`, `!~` and every pattern that isn't plain
abbrev pub passes_other : MatchOp → Bytes → Bool
passes_other Equal value = false
passes_other NotEqual value = true
passes_other Matches value = not (is_plain value)
passes_other NotMatches value = true

-- promql/regexp: a pattern of a matcher that is one plain text, or that anchors itself, as patterns of matchers are anchored anyway.
use Rattle.std.specs.Prelude.{◌≡◌, ◌≢◌, ◌⊎◌, true, List, [], ◌∷◌, ◌++◌, Option, codes}
use Rattle.std.specs.List.{Contains}
use Rattle.lf_base.specs.declared.place.Span.{Span}
use Rattle.lf_ast.specs.Labels.{Bytes}
use Rattle.lf_ast.specs.Rules.{RuleTree}
use Rattle.lf_ast.specs.Tree.{Selector, Tree, nodes}
use Rattle.lf_ast.specs.declared.expr.Matcher.{Matcher}
use Rattle.lf_ast.specs.declared.expr.Sight.{Sight}
use Rattle.lf_pattern.specs.Plain.{HasAlternatives}
use Rattle.lf_semantics.specs.PatternBreaches.{takes_pattern}
use Rattle.lf_checks.specs.Finding.{Finding, Note, PromqlRegexp, Severity, finding}

-- how grave it is
abbrev pub severity : Severity
severity = Note

-- what it says of a plain pattern
abbrev pub says_plain : Bytes
says_plain = codes "the pattern is one plain text"

-- what it says of one that anchors itself
abbrev pub says_anchored : Bytes
says_anchored = codes "the pattern is anchored already"

-- a selector in the expression has this matcher, which takes a pattern
abbrev pub MatchesBy : Tree → Matcher → Type 0
MatchesBy e m =
    (name : Option Bytes) × (matchers : List Matcher) × (sight : Sight) × (span : Span) × Contains (nodes e) (Selector name matchers sight span)
    × Contains matchers m × (takes_pattern m.op ≡ true)

-- a plain pattern with one alternative
abbrev pub IsOneText : Bytes → Type 0
IsOneText pattern = (alternative : Bytes) × HasAlternatives pattern (alternative ∷ [])

-- it begins with `^`
abbrev pub BeginsAnchored : Bytes → Type 0
BeginsAnchored pattern = (rest : Bytes) × (pattern ≡ 94 ∷ rest)

-- it ends with `$`, before which no backslash stands
abbrev pub EndsAnchored : Bytes → Type 0
EndsAnchored pattern = (front : Bytes) × (pattern ≡ front ++ 36 ∷ []) × ((more : Bytes) → front ≢ more ++ 92 ∷ [])

-- a matcher by one plain text, at the string
abbrev pub FindsPlain : RuleTree → Finding → Type 0
FindsPlain r f = (m : Matcher) × MatchesBy r.expr m × IsOneText m.value × (f ≡ finding PromqlRegexp m.value_span says_plain)

-- a matcher by a pattern that anchors itself, at the string
abbrev pub IsAnchored : RuleTree → Finding → Type 0
IsAnchored r f = (m : Matcher) × MatchesBy r.expr m × (BeginsAnchored m.value ⊎ EndsAnchored m.value) × (f ≡ finding PromqlRegexp m.value_span says_anchored)

-- what the check finds: either of these
abbrev pub IsFound : RuleTree → Finding → Type 0
IsFound r f = FindsPlain r f ⊎ IsAnchored r f

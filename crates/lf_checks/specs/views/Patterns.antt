-- What promql/regexp tells of one matcher, and of one part of an expression.
use Rattle.std.specs.Prelude.{◌≡◌, ◌⊎◌, true}
use Rattle.lf_laws.specs.Gaining.{OfSome}
use Rattle.lf_ast.specs.Tree.{Tree, Selector}
use Rattle.lf_ast.specs.declared.expr.Matcher.{Matcher}
use Rattle.lf_semantics.specs.PatternBreaches.{takes_pattern}
use Rattle.lf_checks.specs.Finding.{Finding, PromqlRegexp, finding}
use Rattle.lf_checks.specs.PromqlRegexp.{BeginsAnchored, EndsAnchored, IsOneText, says_anchored, says_plain}

-- its pattern is one plain text
abbrev pub IsPlainAt : Matcher → Finding → Type 0
IsPlainAt m f = IsOneText m.value × (f ≡ finding PromqlRegexp m.value_span says_plain)

-- its pattern anchors itself
abbrev pub IsAnchoredAt : Matcher → Finding → Type 0
IsAnchoredAt m f = (BeginsAnchored m.value ⊎ EndsAnchored m.value) × (f ≡ finding PromqlRegexp m.value_span says_anchored)

-- it takes a pattern, of which something is told
abbrev pub IsOfMatcher : Matcher → Finding → Type 0
IsOfMatcher m f = (takes_pattern m.op ≡ true) × (IsPlainAt m f ⊎ IsAnchoredAt m f)

-- what is told of the matchers of a selector, and nothing of any other part
abbrev pub IsOfPart : Tree → Finding → Type 0
IsOfPart (Selector name matchers sight span) f = OfSome IsOfMatcher matchers f
IsOfPart _ f = ⊥

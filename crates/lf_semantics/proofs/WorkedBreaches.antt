-- What is wrong with the patterns and selectors of worked expressions.
use Rattle.std.proofs.Common.{◌≡◌, true, false, [], ◌∷◌, Some, None, codes, inl, inr, refl, sym, ◌∙◌, ap}
use Rattle.std.specs.Char.{encode_utf8}
use Rattle.std.specs.Str.{chars}
use Rattle.lf_base.specs.declared.kind.Kind.TheVariants.{BadPattern, BadSelector}
use Rattle.lf_base.specs.Faults.{fault, told_order}
use Rattle.lf_ast.specs.Functions.{function_named, functions}
use Rattle.lf_ast.specs.Labels.{Bytes}
use Rattle.lf_ast.specs.Tree.{Tree}
use Rattle.lf_ast.specs.declared.expr.Matcher.{Matcher}
use Rattle.lf_ast.specs.declared.expr.MatchOp.TheVariants.{Equal, NotEqual, Matches, NotMatches}
use Rattle.lf_base.proofs.Least.{not_itself}
use Rattle.lf_ast.specs.Selectors.{metric}
use Rattle.lf_pattern.specs.Matching.{is_read, matches}
use Rattle.lf_pattern.specs.Plain.{is_escapable, is_special}
use Rattle.lf_pattern.specs.Scan.{scanned}
use Rattle.lf_semantics.specs.PatternBreaches.{BreaksPatterns, TellsPattern, names_twice}
use Rattle.lf_semantics.specs.reading.Selectors.{passes_empty}
use Rattle.lf_semantics.proofs.Members.{first_or_behind, here, none_in}
use Rattle.lf_semantics.proofs.PatternFaults.{unread_is}
use Rattle.lf_semantics.proofs.Written.{asks, call, paren, place_at, selector, selects, sight, text}

-- which selectors name no metric

-- `{}`, `{a=""}`, `{a!="x"}` and `{a=~"|x"}`
no_matcher : passes_empty None [] ≡ true
no_matcher = refl

empty_text : passes_empty None (asks (codes "a") Equal [] ∷ []) ≡ true
empty_text = refl

other_text : passes_empty None (asks (codes "a") NotEqual (codes "x") ∷ []) ≡ true
other_text = refl

empty_alternative : passes_empty None (asks (codes "a") Matches (codes "|x") ∷ []) ≡ true
unfolding chars scanned is_special is_escapable encode_utf8
empty_alternative = refl

-- `{a=~".*"}`, since this pattern matches the empty text
by_match : (pattern : Bytes) → matches pattern [] ≡ true → passes_empty None (asks (codes "a") Matches pattern ∷ []) ≡ true
by_match pattern e = rw e refl

-- `foo{a=""}`, `{a="",b="x"}`, `{a=~"x|y"}` and `{a!~"|x"}` name one
by_name : passes_empty (Some (codes "foo")) (asks (codes "a") Equal [] ∷ []) ≡ false
by_name = refl

by_another : passes_empty None (asks (codes "a") Equal [] ∷ asks (codes "b") Equal (codes "x") ∷ []) ≡ false
by_another = refl

by_pattern : passes_empty None (asks (codes "a") Matches (codes "x|y") ∷ []) ≡ false
unfolding chars scanned is_special is_escapable encode_utf8
by_pattern = refl

by_failing : passes_empty None (asks (codes "a") NotMatches (codes "|x") ∷ []) ≡ false
unfolding chars scanned is_special is_escapable encode_utf8
by_failing = refl

-- a pattern that can't be read makes no selector without a metric
unread_passes_nothing : (pattern : Bytes) → is_read pattern ≡ false → passes_empty None (asks (codes "b") NotMatches pattern ∷ []) ≡ false
unread_passes_nothing pattern e = rw e refl

-- which name it twice

-- `foo{__name__=~"bar"}`, and `{__name__="foo"}`
twice : names_twice (Some (codes "foo")) (asks metric Matches (codes "bar") ∷ []) ≡ true
twice = refl

once : names_twice None (asks metric Equal (codes "foo") ∷ []) ≡ false
once = refl

-- what is told

false_true : false ≡ true → ⊥
false_true e = cc

abbrev everything : Tree
everything = selects None [] (sight None None)

-- `{}` is refused at the selector
everything_is_told : TellsPattern everything (fault BadSelector (place_at 20))
unfolding told_order
everything_is_told = (
  inr (inl (refl, tt), refl),
  λ g b. elim b [
    | inl u ↦ absurd (none_in u.0 u.1)
    | inr s ↦ not_itself (fault BadSelector (place_at 20)) g s.1
  ],
)

-- `foo{a=~"("}` is refused at the string
abbrev asks_pattern : Bytes → Matcher
asks_pattern pattern = asks (codes "a") Matches pattern

unread_is_told : (pattern : Bytes) → is_read pattern ≡ false → TellsPattern (selector (codes "foo") (asks_pattern pattern ∷ [])) (fault BadPattern (place_at 0))
unfolding told_order
unread_is_told pattern e = (
  inl (asks_pattern pattern, here (asks_pattern pattern) [], refl, ((unread_is pattern).0 e, refl)),
  λ g b. elim b [
    | inl u ↦ elim (first_or_behind (asks_pattern pattern) [] u.0 u.1) [
      | inl same ↦ not_itself (fault BadPattern (place_at 0)) g (u.3.1 ∙ ap (λ (m : Matcher). fault BadPattern m.value_span) (sym same))
      | inr d ↦ absurd (none_in u.0 d)
    ]
    | inr s ↦ elim s.0 [ inl none ↦ absurd (false_true none.0) | inr named ↦ absurd (false_true named) ]
  ],
)

-- the pattern of `label_replace` is its fifth argument, also in parentheses

abbrev replace : Tree → Tree
replace pattern = call (codes "label_replace") (selector (codes "foo") [] ∷ text (codes "a") ∷ text (codes "x") ∷ text (codes "b") ∷ pattern ∷ [])

unread_is_broken : (pattern : Bytes) → is_read pattern ≡ false → BreaksPatterns (replace (text pattern)) (fault BadPattern (place_at 20))
unfolding function_named functions
unread_is_broken pattern e = inr ((unread_is pattern).0 e, refl)

unread_within : (pattern : Bytes) → is_read pattern ≡ false → BreaksPatterns (replace (paren (text pattern))) (fault BadPattern (place_at 20))
unfolding function_named functions
unread_within pattern e = inr ((unread_is pattern).0 e, refl)

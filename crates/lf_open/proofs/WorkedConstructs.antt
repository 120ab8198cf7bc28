-- Of each open construct an expression in which it stands, and one near it in which it doesn't.
use Rattle.std.proofs.Common.{◌≡◌, inl, inr, ℕ, Bool, true, false, List, [], ◌∷◌, Option, Some, None, codes, refl, sym, ap, ◌∙◌, subst, true≢false, arith, drop}
use Rattle.std.specs.Char.{encode_utf8}
use Rattle.std.specs.List.{Contains}
use Rattle.std.specs.Str.{chars}
use Rattle.lf_laws.proofs.Members.{behind, each_member, here, none_in, only_one, same_true}
use Rattle.lf_base.specs.declared.place.Span.{Span}
use Rattle.lf_ast.specs.Functions.{function_named, functions}
use Rattle.lf_ast.specs.Labels.{Bytes}
use Rattle.lf_ast.specs.Rules.{RuleTree}
use Rattle.lf_ast.specs.Selectors.{metric}
use Rattle.lf_ast.specs.Tree.{Tree}
use Rattle.lf_ast.specs.declared.expr.MatchOp.TheVariants.{Equal, Matches}
use Rattle.lf_ast.specs.declared.expr.Matcher.{Matcher}
use Rattle.lf_ast.specs.declared.expr.Op.TheVariants.{Add, Multiply, Or, Unless}
use Rattle.lf_ast.specs.declared.functions.LabelEffect.{LabelEffect}
use Rattle.lf_ast.specs.declared.functions.LabelEffect.TheVariants.{Bare}
use Rattle.lf_deps.specs.Reading.{AreApart, IsCyclic, Reads, SelectsBy}
use Rattle.lf_deps.specs.Reading.Reads.{selected, through}
use Rattle.lf_pattern.specs.Plain.{is_escapable, is_special}
use Rattle.lf_pattern.specs.Scan.{scanned}
use Rattle.lf_semantics.specs.Passing.{is_plain}
use Rattle.lf_semantics.specs.PatternBreaches.{takes_pattern}
use Rattle.lf_semantics.proofs.Written.{asks, between, call, number, paren, place_at, record_rule, selector, selects, sight, text, unmodified}
use Rattle.lf_open.specs.Constructs.{IsOpenAt}
use Rattle.lf_open.specs.Holding.{CannotBeSilent, NamesLe, has_own_le, has_own_source}
use Rattle.lf_open.specs.OpenList.{IsOpenIn}
use Rattle.lf_semantics.specs.Standing.{standing}
use Rattle.lf_open.specs.declared.construct.Construct.{Construct}
use Rattle.lf_open.specs.declared.construct.Construct.TheVariants.{SharedMetric, UnnamedSelector, ComplexPattern, MadeLabel, Forked, LoudUnless, CyclicName, NamedBucket, OpenAbsent}
use Rattle.lf_open.proofs.Unread.{SelectsScraped, reads_selected}

-- expressions: operators stand at 20 and calls at 0

abbrev foo : Tree
foo = selector (codes "foo") []

abbrev bar : Tree
bar = selector (codes "bar") []

abbrev foo_where : List Matcher → Tree
foo_where matchers = selector (codes "foo") matchers

-- rules: none; and `a:x` as some expression
abbrev none : List RuleTree
none = []

abbrev a_x : Bytes
a_x = codes "a:x"

abbrev only : Tree → List RuleTree
only e = record_rule a_x [] e ∷ []

abbrev of_a_x : Tree
of_a_x = selector a_x []

-- what is told of an expression and of no other place in it

abbrev Stands : List RuleTree → Tree → Construct → ℕ → Type 0
Stands rules e construct at = IsOpenIn rules e construct (place_at at)

abbrev Lacks : List RuleTree → Tree → Construct → Type 0
Lacks rules e construct = (span : Span) → IsOpenIn rules e construct span → ⊥

abbrev HoldsNoSource : Tree → Type 0
HoldsNoSource e = has_own_source e ≡ false

-- what is no call has no effect
pub is_no_effect : {effect : LabelEffect} → None ≡ Some effect → ⊥
is_no_effect e = true≢false (sym (ap (λ (o : Option LabelEffect). elim o [ None ↦ false | Some z ↦ true ]) e))

-- it stands at the expression itself
itself : (e : Tree) → standing e ≡ e ∷ drop 1 (standing e) → Contains (standing e) e
itself e same = subst (λ (l : List Tree). Contains l e) (sym same) (here e (drop 1 (standing e)))

reads : (rules : List RuleTree) (name : Bytes) (matchers : List Matcher) → Reads rules (selector name matchers) name
reads rules name matchers = selected (inl (here (Some name) []))

-- the one name that a selector says
said : (name other : Bytes) (rest : List (Option Bytes)) → SelectsBy none (Some name ∷ []) other → name ≡ other
said name other rest (inl c) = ap (λ (o : Option Bytes). elim o [ None ↦ name | Some z ↦ z ]) (only_one (Some name) (Some other) c)
said name other rest (inr (c, recorded)) = absurd (none_in other recorded)

scraped : (e : Tree) → SelectsScraped none e
scraped e name s c = none_in name c

reads_one : (name other : Bytes) (matchers : List Matcher) → Reads none (selector name matchers) other → name ≡ other
reads_one name other matchers r = said name other [] (reads_selected none (selector name matchers) (scraped (selector name matchers)) other r)

-- ---- O1: `foo + foo`, and `a:x + foo` where `a:x` is `foo`; but not `foo + bar`

shares : Stands none (between Add unmodified foo foo) SharedMetric 20
shares = (between Add unmodified foo foo, itself (between Add unmodified foo foo) refl, (((refl, refl), λ apart. apart (codes "foo") (reads none (codes "foo") []) (reads none (codes "foo") [])), refl))

through_a_x : Reads (only foo) of_a_x (codes "foo")
through_a_x = through (record_rule a_x [] foo) (here _ []) refl (inl (here (Some a_x) [])) (reads (only foo) (codes "foo") [])

shares_through : Stands (only foo) (between Add unmodified of_a_x foo) SharedMetric 20
shares_through = (between Add unmodified of_a_x foo, itself (between Add unmodified of_a_x foo) refl, (((refl, refl), λ apart. apart (codes "foo") through_a_x (reads (only foo) (codes "foo") [])), refl))

foo_is_not_bar : codes "foo" ≡ codes "bar" → ⊥
foo_is_not_bar e = true≢false (sym (same_true (codes "foo") (codes "bar") e))

foo_and_bar : AreApart none foo bar
foo_and_bar name of_foo of_bar = foo_is_not_bar (reads_one (codes "foo") name [] of_foo ∙ sym (reads_one (codes "bar") name [] of_bar))

apart : Lacks none (between Add unmodified foo bar) SharedMetric
apart span (x, c, at) = each_member (λ e. IsOpenAt none SharedMetric e span → ⊥) (standing (between Add unmodified foo bar)) x
    (λ h. h.0.1 foo_and_bar, (λ h. h.0, (λ h. h.0, tt))) c at

-- ---- O2: `{job="a"}`, but not `{__name__="foo"}`

abbrev unnamed : List Matcher → Tree
unnamed matchers = selects None matchers (sight None None)

says_none : Stands none (unnamed (asks (codes "job") Equal (codes "a") ∷ [])) UnnamedSelector 20
says_none = (unnamed (asks (codes "job") Equal (codes "a") ∷ []), itself (unnamed (asks (codes "job") Equal (codes "a") ∷ [])) refl, (refl, refl))

is_no_name : {name : Bytes} → Some name ≡ None → ⊥
is_no_name e = true≢false (ap (λ (o : Option Bytes). elim o [ None ↦ false | Some z ↦ true ]) e)

says_one : Lacks none (unnamed (asks metric Equal (codes "foo") ∷ [])) UnnamedSelector
says_one span (x, c, at) = each_member (λ e. IsOpenAt none UnnamedSelector e span → ⊥) (standing (unnamed (asks metric Equal (codes "foo") ∷ []))) x (λ h. is_no_name h.0, tt) c at

-- ---- O3: `foo{a=~"x.*"}`, but neither `foo{a=~"x|y"}` nor `foo{a="x.*"}`

abbrev by_pattern : Bytes → Tree
by_pattern pattern = foo_where (asks (codes "a") Matches pattern ∷ [])

complex : Stands none (by_pattern (codes "x.*")) ComplexPattern 0
unfolding scanned is_special is_escapable encode_utf8 chars
complex = (by_pattern (codes "x.*"), itself (by_pattern (codes "x.*")) refl, (asks (codes "a") Matches (codes "x.*"), (here _ [], refl, refl), refl))

plain : Lacks none (by_pattern (codes "x|y")) ComplexPattern
unfolding scanned is_special is_escapable encode_utf8 chars
plain span (x, c, at) = each_member (λ e. IsOpenAt none ComplexPattern e span → ⊥) (standing (by_pattern (codes "x|y"))) x
    (λ h. true≢false (ap (λ (m : Matcher). is_plain m.value) (only_one (asks (codes "a") Matches (codes "x|y")) h.0 h.1.0) ∙ h.1.2), tt) c at

asks_text : Lacks none (foo_where (asks (codes "a") Equal (codes "x.*") ∷ [])) ComplexPattern
asks_text span (x, c, at) = each_member (λ e. IsOpenAt none ComplexPattern e span → ⊥) (standing (foo_where (asks (codes "a") Equal (codes "x.*") ∷ []))) x
    (λ h. true≢false (sym (ap (λ (m : Matcher). takes_pattern m.op) (only_one (asks (codes "a") Equal (codes "x.*")) h.0 h.1.0) ∙ h.1.1)), tt) c at

-- ---- O4: `label_replace(foo, "a", "$1", "b", "(.*)")`, but nothing of it in `vector(scalar(..))`

abbrev replaced : Tree
replaced = call (codes "label_replace") (foo ∷ text (codes "a") ∷ text (codes "$1") ∷ text (codes "b") ∷ text (codes "(.*)") ∷ [])

makes_label : Stands none replaced MadeLabel 0
unfolding function_named functions
makes_label = (replaced, itself (replaced) refl, (inl refl, refl))

abbrev in_scalar : Tree → Tree
in_scalar e = call (codes "vector") (call (codes "scalar") (e ∷ []) ∷ [])

is_other : {x y : LabelEffect} → (rank : LabelEffect → Bool) → rank x ≡ true → rank y ≡ false → Some x ≡ Some y → ⊥
is_other {x = x} rank of_x of_y e = true≢false (sym of_x ∙ ap (λ (o : Option LabelEffect). elim o [ None ↦ true | Some z ↦ rank z ]) e ∙ of_y)

abbrev is_bare : LabelEffect → Bool
is_bare Bare = true
is_bare _ = false

only_vector : Lacks none (in_scalar replaced) MadeLabel
unfolding function_named functions
only_vector span (x, c, at) = each_member (λ e. IsOpenAt none MadeLabel e span → ⊥) (standing (in_scalar replaced)) x
    (λ h. elim h.0 [ inl e ↦ is_other is_bare refl refl e | inr (inl e) ↦ is_other is_bare refl refl e | inr (inr e) ↦ is_other is_bare refl refl e ], tt) c at

-- an operator in a scalar argument isn't looked at either: `vector(scalar(foo + foo))`
nothing_shared : Lacks none (in_scalar (between Add unmodified foo foo)) SharedMetric
unfolding function_named functions
nothing_shared span (x, c, at) = each_member (λ e. IsOpenAt none SharedMetric e span → ⊥) (standing (in_scalar (between Add unmodified foo foo))) x (λ h. h.0, tt) c at

-- ---- O5: `(foo or bar) * foo`, but not `foo or bar`

abbrev either : Tree
either = between Or unmodified foo bar

joins_fork : Stands none (between Multiply unmodified (paren either) foo) Forked 20
joins_fork = (between Multiply unmodified (paren either) foo, itself (between Multiply unmodified (paren either) foo) refl, (inl (refl, (refl, refl), inl (inl refl)), refl))

-- of a selector alone, by the rules: it is no operator and no call, and it has no matcher
bare_selector : (rules : List RuleTree) (name : Bytes) (span : Span) → IsOpenAt rules Forked (selector name []) span → ⊥
bare_selector rules name span (inl h, e) = h
bare_selector rules name span (inr (inl h), e) = is_no_effect h.0
bare_selector rules name span (inr (inr (inl h)), e) = none_in h.0.0 h.0.1
bare_selector rules name span (inr (inr (inr h)), e) = h

own_source_of : (e : Tree) → HoldsNoSource e → CannotBeSilent none e → ⊥
own_source_of e h (inl own) = true≢false (sym own ∙ h)
own_source_of e h (inr (r, there, reaches, rest)) = none_in r there

not_joined : Lacks none either Forked
not_joined span (x, c, at) = each_member (λ e. IsOpenAt none Forked e span → ⊥) (standing either) x (of_or, (bare_selector none (codes "foo") span, (bare_selector none (codes "bar") span, tt))) c at
  where
    of_or : IsOpenAt none Forked either span → ⊥
    of_or (inl h, e) = true≢false h.0
    of_or (inr (inl h), e) = is_no_effect h.0
    of_or (inr (inr (inl h)), e) = h.0.1
    of_or (inr (inr (inr h)), e) = elim h.1 [ inl l ↦ own_source_of foo refl l | inr r ↦ own_source_of bar refl r ]

-- a `histogram_quantile` of a fork
abbrev quantile : Tree → Tree
quantile e = call (codes "histogram_quantile") (number ∷ e ∷ [])

quantile_of_fork : Stands none (quantile either) Forked 0
unfolding function_named functions
quantile_of_fork = (quantile either, itself (quantile either) refl, (inr (inl (refl, (either, behind number (either ∷ []) either (here either []), inl refl))), refl))

-- `a:x{job="p"}` of two rules; but not `a:x`, nor either of one rule without a fork
abbrev narrowed : Tree
narrowed = selector a_x (asks (codes "job") Equal (codes "p") ∷ [])

abbrev two : List RuleTree
two = record_rule a_x [] foo ∷ record_rule a_x [] bar ∷ []

abbrev of_job : Matcher
of_job = asks (codes "job") Equal (codes "p")

narrows : Stands two narrowed Forked 20
narrows = (narrowed, itself (narrowed) refl, (inr (inr (inl ((of_job, here of_job [], refl), (a_x, refl, inl refl)))), refl))

narrows_in_making : Stands (only either) narrowed Forked 20
narrows_in_making = (narrowed, itself (narrowed) refl, (inr (inr (inl ((of_job, here of_job [], refl), (a_x, refl, inr (record_rule a_x [] either, here _ [], (refl, refl), inl refl))))), refl))

not_narrowed : Lacks two of_a_x Forked
not_narrowed span (x, c, at) = each_member (λ e. IsOpenAt two Forked e span → ⊥) (standing of_a_x) x (bare_selector two a_x span, tt) c at

-- an `or` with a side that can't be silent
abbrev one : Tree
one = call (codes "vector") (number ∷ [])

loud_or : Stands none (between Or unmodified foo one) Forked 20
unfolding function_named functions
loud_or = (between Or unmodified foo one, itself (between Or unmodified foo one) refl, (inr (inr (inr ((refl, refl), inr (inl refl)))), refl))

-- ---- O6: `foo unless vector(1)`, but not `vector(1) unless foo`

loud_unless : Stands none (between Unless unmodified foo one) LoudUnless 20
unfolding function_named functions
loud_unless = (between Unless unmodified foo one, itself (between Unless unmodified foo one) refl, (((refl, refl), inl refl), refl))

silent_unless : Lacks none (between Unless unmodified one foo) LoudUnless
unfolding function_named functions
silent_unless span (x, c, at) = each_member (λ e. IsOpenAt none LoudUnless e span → ⊥) (standing (between Unless unmodified one foo)) x
    (λ h. own_source_of foo refl h.0.1, (λ h. h.0, (λ h. h.0, tt))) c at

-- ---- O7: `a:x` where `a:x` is `a:x + foo`, but not where it is `foo`

abbrev itself_and_foo : Tree
itself_and_foo = between Add unmodified of_a_x foo

is_cyclic : IsCyclic (only itself_and_foo) a_x
is_cyclic = (record_rule a_x [] itself_and_foo, here _ [], (refl, refl), selected (inl (here (Some a_x) (Some (codes "foo") ∷ []))))

cyclic : Stands (only itself_and_foo) of_a_x CyclicName 20
cyclic = (of_a_x, itself (of_a_x) refl, ((a_x, refl, is_cyclic), refl))

other_name : a_x ≡ codes "foo" → ⊥
other_name e = true≢false (sym (same_true a_x (codes "foo") e))

some_is_none : {name : Bytes} → Some name ≡ None → ⊥
some_is_none e = true≢false (ap (λ (o : Option Bytes). elim o [ None ↦ false | Some z ↦ true ]) e)

foo_is_scraped : SelectsScraped (only foo) foo
foo_is_scraped name (inl c) recorded = other_name (only_one a_x name recorded ∙ sym (ap (λ (o : Option Bytes). elim o [ None ↦ codes "foo" | Some z ↦ z ]) (only_one (Some (codes "foo")) (Some name) c)))
foo_is_scraped name (inr (c, some)) recorded = some_is_none (only_one (Some (codes "foo")) None c)

not_in_foo : Reads (only foo) foo a_x → ⊥
not_in_foo r = by (reads_selected (only foo) foo foo_is_scraped a_x r)
  where
    by : SelectsBy (only foo) (Some (codes "foo") ∷ []) a_x → ⊥
    by (inl c) = other_name (sym (ap (λ (o : Option Bytes). elim o [ None ↦ codes "foo" | Some z ↦ z ]) (only_one (Some (codes "foo")) (Some a_x) c)))
    by (inr (c, some)) = some_is_none (only_one (Some (codes "foo")) None c)

not_cyclic : Lacks (only foo) of_a_x CyclicName
not_cyclic span (x, c, at) = each_member (λ e. IsOpenAt (only foo) CyclicName e span → ⊥) (standing of_a_x) x (of_name, tt) c at
  where
    of_name : IsOpenAt (only foo) CyclicName of_a_x span → ⊥
    of_name ((name, says, (r, there, records, reads)), e) =
        let is : a_x ≡ name = ap (λ (o : Option Bytes). elim o [ None ↦ a_x | Some z ↦ z ]) says in
        let rule : record_rule a_x [] foo ≡ r = only_one (record_rule a_x [] foo) r there in
        not_in_foo (subst (λ (n : Bytes). Reads (only foo) foo n) (sym is) (subst (λ (z : RuleTree). Reads (only foo) z.expr name) (sym rule) reads))

-- ---- O8: a `histogram_quantile` of `foo{le="1"}`, or of `a:x` where the rule sets `le`; but not of `foo`

abbrev on_le : Tree
on_le = foo_where (asks (codes "le") Equal (codes "1") ∷ [])

named_le : Stands none (quantile on_le) NamedBucket 0
unfolding function_named functions
named_le = (quantile on_le, itself (quantile on_le) refl, ((refl, (on_le, behind number (on_le ∷ []) on_le (here on_le []), inl refl)), refl))

abbrev sets_le : List RuleTree
sets_le = record_rule a_x ((codes "le", []) ∷ []) foo ∷ []

set_le : Stands sets_le (quantile of_a_x) NamedBucket 0
unfolding function_named functions
set_le = (
  quantile of_a_x,
  itself (quantile of_a_x) refl,
  (
    (refl, (of_a_x, behind number (of_a_x ∷ []) of_a_x (here of_a_x []), inr (record_rule a_x ((codes "le", []) ∷ []) foo, here _ [], (refl, reads sets_le a_x []), refl))),
    refl,
  ),
)

unnamed_le : Lacks none (quantile foo) NamedBucket
unfolding function_named functions
unnamed_le span (x, c, at) = each_member (λ e. IsOpenAt none NamedBucket e span → ⊥) (standing (quantile foo)) x
    (λ h. each_member (λ a. NamesLe none a → ⊥) (number ∷ foo ∷ []) h.0.1.0 (unset number refl, (unset foo refl, tt)) h.0.1.1 h.0.1.2, (λ h. is_no_effect h.0.0, tt)) c at
  where
    unset : (a : Tree) → has_own_le a ≡ false → NamesLe none a → ⊥
    unset a h (inl own) = true≢false (sym own ∙ h)
    unset a h (inr (r, there, reaches, rest)) = none_in r there

-- ---- O9: `absent((foo))`, `absent(vector(1))`, but not `absent(foo)`

abbrev absent_of : Tree → Tree
absent_of e = call (codes "absent") (e ∷ [])

in_parentheses : Stands none (absent_of (paren foo)) OpenAbsent 0
unfolding function_named functions
in_parentheses = (absent_of (paren foo), itself (absent_of (paren foo)) refl, ((refl, inl (inl refl)), refl))

of_loud : Stands none (absent_of one) OpenAbsent 0
unfolding function_named functions
of_loud = (absent_of one, itself (absent_of one) refl, ((refl, inr (one, here one [], inl refl)), refl))

of_selector : Lacks none (absent_of foo) OpenAbsent
unfolding function_named functions
of_selector span (x, c, at) = each_member (λ e. IsOpenAt none OpenAbsent e span → ⊥) (standing (absent_of foo)) x (of_call, (λ h. is_no_effect h.0.0, tt)) c at
  where
    of_call : IsOpenAt none OpenAbsent (absent_of foo) span → ⊥
    of_call ((e, inl (inl bare)), same) = true≢false (sym bare)
    of_call ((e, inl (inr (label, other, several))), same) = omega (arith, several)
    of_call ((e, inr (a, argument, loud)), same) = own_source_of foo refl (subst (CannotBeSilent none) (sym (only_one foo a argument)) loud)

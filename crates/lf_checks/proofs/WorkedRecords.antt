-- Worked recording rules: of each check but those of alerts one that it finds something of, and one near it that it finds nothing of. And the whole list of one rule.
use Rattle.std.proofs.Common.{◌≡◌, ◌<◌, inl, inr, ℕ, zero, suc, Bool, true, false, List, [], ◌∷◌, length, Option, Some, None, codes, refl, sym, ap, ◌∙◌, subst, true≢false, arith}
use Rattle.std.specs.Prelude.{slice_get, slice_index_or}
use Rattle.std.specs.Char.{encode_utf8}
use Rattle.std.specs.Fmt.{digits}
use Rattle.std.specs.List.{Contains}
use Rattle.std.specs.declared.cmp.Ordering.TheVariants.{Less}
use Rattle.std.specs.Str.{chars}
use Rattle.std.proofs.lemmas.List.{append_cancel_right}
use Rattle.lf_laws.proofs.Members.{behind, first_or_behind, here, none_in, only_one, same_true}
use Rattle.lf_base.specs.Faults.{span}
use Rattle.lf_base.specs.declared.place.Span.{Span}
use Rattle.lf_ast.specs.Labels.{Bytes}
use Rattle.lf_ast.specs.Rules.{RuleTree}
use Rattle.lf_ast.specs.Selectors.{selected_name}
use Rattle.lf_ast.specs.Tree.{Selector, Tree, nodes}
use Rattle.lf_ast.specs.declared.expr.Group.TheVariants.{Left, One}
use Rattle.lf_ast.specs.declared.expr.Matcher.{Matcher}
use Rattle.lf_ast.specs.declared.expr.MatchOp.TheVariants.{Equal, Matches}
use Rattle.lf_ast.specs.declared.expr.Name.{Name}
use Rattle.lf_ast.specs.declared.expr.Op.TheVariants.{Multiply}
use Rattle.lf_ast.specs.declared.rule.RuleLabel.{RuleLabel as Label}
use Rattle.lf_deps.specs.Reading.{IsCyclic, selected}
use Rattle.lf_pattern.specs.Plain.{is_escapable, is_special}
use Rattle.lf_pattern.specs.Scan.{alternatives_of, scanned}
use Rattle.lf_pattern.proofs.PlainLaws.{found, is_found}
use Rattle.lf_semantics.specs.ClassRows.{Sets}
use Rattle.lf_semantics.specs.Environments.{rule_row}
use Rattle.lf_semantics.specs.Listing.{Listing, universe_of}
use Rattle.lf_semantics.specs.RowTable.{may_be_absent, may_be_present, row_of}
use Rattle.lf_semantics.proofs.Written.{asks, between, matching, over_time, place_at, record_rule, selector, sight, sum_by}
use Rattle.lf_checks.specs.ExprEmpty as expr_empty
use Rattle.lf_checks.specs.ExprType as expr_type
use Rattle.lf_checks.specs.Files.{File}
use Rattle.lf_checks.specs.Finding.{Check, AlertComparison, AlertTemplate, RuleDuplicate, RuleDependency, PromqlRegexp, MatchLabel, ExprEmpty, ExprType, RuleLabel, Finding, finding, finding_cmp}
use Rattle.lf_checks.specs.Findings.{AreFindingsIn, FindsIn}
use Rattle.lf_checks.specs.Judged.{IsImpossible}
use Rattle.lf_checks.specs.MatchLabel as match_label
use Rattle.lf_checks.specs.MatchLabel.{Seeks}
use Rattle.lf_checks.specs.Numbers.{HasNumbers, CaseSays}
use Rattle.lf_checks.specs.PromqlRegexp as promql_regexp
use Rattle.lf_checks.specs.PromqlRegexp.{IsAnchored, MatchesBy}
use Rattle.lf_checks.specs.RuleDependency as rule_dependency
use Rattle.lf_base.specs.Names.{has_colon}
use Rattle.lf_checks.specs.RuleDependency.{SelectsAt}
use Rattle.lf_checks.specs.RuleDuplicate as rule_duplicate
use Rattle.lf_checks.specs.RuleLabel as rule_label
use Rattle.lf_checks.proofs.TrueFindings.{last_behind, last_of}

-- a rule named `r:r`, alone, and its row, as it reads no recorded name
abbrev plain : Tree → RuleTree
plain e = record_rule (codes "r:r") [] e

abbrev u : RuleTree → Listing
u r = universe_of (r ∷ [])

abbrev row : RuleTree → Sets
row r = rule_row (u r) [] r

abbrev foo : List Matcher → Tree
foo matchers = selector (codes "foo") matchers

abbrev a_is : Bytes → Matcher
a_is value = asks (codes "a") Equal value

-- ---- expr/empty

-- `foo{a="x",a="y"}` has no sample, and `foo{a="x"}` may have
abbrev contradiction : RuleTree
contradiction = plain (foo (a_is (codes "x") ∷ a_is (codes "y") ∷ []))

abbrev with_x : RuleTree
with_x = plain (foo (a_is (codes "x") ∷ []))

has_no_sample : expr_empty.IsFound (row contradiction) contradiction (finding ExprEmpty (place_at 0) (codes "the expression has no sample in any run"))
has_no_sample = (refl, refl, refl)

may_have_samples : (f : Finding) → expr_empty.IsFound (row with_x) with_x f → ⊥
may_have_samples f h = true≢false h.1

-- `up{env="prod"} * on (env, job) target_info{env="dev"}` has none, as no pair agrees on `env`; with `on (job)` it may
abbrev joined_on : List Bytes → RuleTree
joined_on labels = plain (between Multiply (matching false (Some labels) None One []) (selector (codes "up") (asks (codes "env") Equal (codes "prod") ∷ [])) (selector (codes "target_info") (asks (codes "env") Equal (codes "dev") ∷ [])))

matched_apart : expr_empty.IsFound (row (joined_on (codes "env" ∷ codes "job" ∷ []))) (joined_on (codes "env" ∷ codes "job" ∷ [])) (finding ExprEmpty (place_at 0) (codes "the expression has no sample in any run"))
matched_apart = (refl, refl, refl)

matched_together : (f : Finding) → expr_empty.IsFound (row (joined_on (codes "job" ∷ []))) (joined_on (codes "job" ∷ [])) f → ⊥
matched_together f h = true≢false h.1

-- of a range vector, which has none either, it is the type that is told
abbrev range : RuleTree
range = plain (over_time (codes "foo") [])

is_no_rule : (f : Finding) → expr_empty.IsFound (row range) range f → ⊥
is_no_rule f h = true≢false (sym h.0)

-- ---- expr/type

-- `foo[5m]`, and `foo`
is_a_range : expr_type.IsFound range (finding ExprType (place_at 0) (codes "a rule needs a scalar or an instant vector"))
is_a_range = (refl, refl)

is_a_vector : (f : Finding) → expr_type.IsFound (plain (foo [])) f → ⊥
is_a_vector f h = true≢false h.0

-- ---- rule/label

-- an expression with the label `a` set to a text
abbrev sets : Bytes → Tree → RuleTree
sets value e = record_rule (codes "r:r") ((codes "a", value) ∷ []) e

abbrev set_to : Bytes → Label
set_to value = record { key = codes "a"; key_span = place_at 0; value = value }

abbrev Labelled : RuleTree → Finding → Type 0
Labelled r f = rule_label.IsFound (u r) (row r) r f

y_is_some : codes "y" ≡ [] → ⊥
y_is_some e = true≢false (sym (same_true (codes "y") [] e))

-- `foo{a="x"}` with `a: y`, and `foo` with it
replaces : Labelled (sets (codes "y") (foo (a_is (codes "x") ∷ []))) (finding RuleLabel (place_at 0) (codes "label a replaces one that each sample has"))
replaces = inl (set_to (codes "y"), (refl, here (set_to (codes "y")) []), y_is_some, (refl, refl), refl)

replaces_some : (f : Finding) → Labelled (sets (codes "y") (foo [])) f → ⊥
replaces_some f (inl (l, has, some, guaranteed, e)) =
    let r : RuleTree = sets (codes "y") (foo []) in
    let never : may_be_absent (u r) (row r) (codes "a") ≡ false = ap (λ (z : Label). may_be_absent (u r) (row r) z.key) (only_one (set_to (codes "y")) l has.1) ∙ guaranteed.1 in
    true≢false never
replaces_some f (inr (l, has, none, impossible, e)) = y_is_some (ap (λ (z : Label). z.value) (only_one (set_to (codes "y")) l has.1) ∙ none)

-- `sum by (b) (foo)` with `a: ""`, and `foo` with it
removes : Labelled (sets [] (sum_by (codes "b" ∷ []) (foo []))) (finding RuleLabel (place_at 0) (codes "label a is removed but on no sample"))
removes = inr (set_to [], (refl, here (set_to []) []), refl, (refl, refl), refl)

removes_some : (f : Finding) → Labelled (sets [] (foo [])) f → ⊥
removes_some f (inl (l, has, some, guaranteed, e)) = some (sym (ap (λ (z : Label). z.value) (only_one (set_to []) l has.1)))
removes_some f (inr (l, has, none, impossible, e)) =
    let r : RuleTree = sets [] (foo []) in
    let never : may_be_present (u r) (row r) (codes "a") ≡ false = ap (λ (z : Label). may_be_present (u r) (row r) z.key) (only_one (set_to []) l has.1) ∙ impossible.1 in
    true≢false never

-- of an alert nothing is told: its labels don't take part in its expression
abbrev alert_of : RuleTree → RuleTree
alert_of r = record { file = r.file; alert = true; name = r.name; name_span = r.name_span; expr = r.expr; expr_span = r.expr_span; labels = r.labels; templates = [] }

of_an_alert : (f : Finding) → Labelled (alert_of (sets (codes "y") (foo (a_is (codes "x") ∷ [])))) f → ⊥
of_an_alert f (inl (l, has, some, guaranteed, e)) = true≢false has.0
of_an_alert f (inr (l, has, none, impossible, e)) = true≢false has.0

-- ---- match/label

abbrev Unmatched : RuleTree → Finding → Type 0
Unmatched r f = match_label.IsFound (u r) [] r f

abbrev name_at : ℕ → Bytes → Name
name_at start text = record { text = text; span = place_at start }

abbrev bar : Tree
bar = selector (codes "bar") []

abbrev foo_by_job : Tree
foo_by_job = sum_by (codes "job" ∷ []) (foo [])

-- `sum by (env) (sum by (job) (foo))`
dropped_before : Unmatched (plain (sum_by (codes "env" ∷ []) foo_by_job)) (finding MatchLabel (place_at 8) (codes "label env is never on the operand"))
dropped_before = (sum_by (codes "env" ∷ []) foo_by_job, name_at 8 (codes "env"), foo_by_job, here (sum_by (codes "env" ∷ []) foo_by_job) (foo_by_job ∷ foo [] ∷ []), (here (name_at 8 (codes "env")) [], refl), (refl, refl), refl)

-- `bar * on (env) sum by (job) (foo)`: one side is enough
abbrev on_env : Tree
on_env = between Multiply (matching false (Some (codes "env" ∷ [])) None One []) bar foo_by_job

on_one_side : Unmatched (plain on_env) (finding MatchLabel (place_at 0) (codes "label env is never on the operand"))
on_one_side = (on_env, name_at 0 (codes "env"), foo_by_job, here on_env (bar ∷ foo_by_job ∷ foo [] ∷ []), (refl, refl, inl (here (name_at 0 (codes "env")) [], inr refl)), (refl, refl), refl)

-- `sum by (job) (foo) * on (env) bar`
abbrev env_on_right : Tree
env_on_right = between Multiply (matching false (Some (codes "env" ∷ [])) None One []) foo_by_job bar

on_the_other : Unmatched (plain env_on_right) (finding MatchLabel (place_at 0) (codes "label env is never on the operand"))
on_the_other = (env_on_right, name_at 0 (codes "env"), foo_by_job, here env_on_right (foo_by_job ∷ foo [] ∷ bar ∷ []), (refl, refl, inl (here (name_at 0 (codes "env")) [], inl refl)), (refl, refl), refl)

-- `bar * on (job) group_left (env) sum by (job) (foo)`: the one side is the right one
abbrev with_env : Tree → Tree → Tree
with_env many one = between Multiply (matching false (Some (codes "job" ∷ [])) None Left (codes "env" ∷ [])) many one

from_the_one_side : Unmatched (plain (with_env bar foo_by_job)) (finding MatchLabel (place_at 0) (codes "label env is never on the operand"))
from_the_one_side = (with_env bar foo_by_job, name_at 0 (codes "env"), foo_by_job, here (with_env bar foo_by_job) (bar ∷ foo_by_job ∷ foo [] ∷ []), (refl, refl, inr (here (name_at 0 (codes "env")) [], refl)), (refl, refl), refl)

-- `sum by (job) (foo) * on (job) group_left (env) bar`: the many side needn't have it
abbrev group_list : RuleTree
group_list = plain (with_env foo_by_job bar)

-- an operand that is sought is one of two, each of which may have the label
abbrev MayHave : Tree → Bytes → Type 0
MayHave operand label = may_be_present (u group_list) (row_of (u group_list) [] operand) label ≡ true

not_impossible : (operand : Tree) (label : Bytes) → MayHave operand label → IsImpossible (u group_list) (row_of (u group_list) [] operand) label → ⊥
not_impossible operand label may impossible = true≢false (sym may ∙ impossible.1)

named : (start : ℕ) (text : Bytes) (operand : Tree) (label : Name) → Contains (name_at start text ∷ []) label → MayHave operand text → MayHave operand label.text
named start text operand label c may = subst (λ (z : Name). MayHave operand z.text) (only_one (name_at start text) label c) may

some_operand : (x operand : Tree) (label : Bytes) → Some x ≡ Some operand → MayHave x label → MayHave operand label
some_operand x operand label e may = let is : x ≡ operand = cc in subst (λ z. MayHave z label) is may

from_either : (label : Name) (operand : Tree) → Seeks (with_env foo_by_job bar) label operand → MayHave operand label.text
from_either label operand (_, _, inl (c, inl e)) = named 0 (codes "job") operand label c (subst (λ z. MayHave z (codes "job")) (sym e) refl)
from_either label operand (_, _, inl (c, inr e)) = named 0 (codes "job") operand label c (subst (λ z. MayHave z (codes "job")) (sym e) refl)
from_either label operand (_, _, inr (c, e)) = named 0 (codes "env") operand label c (some_operand bar operand (codes "env") e refl)

of_grouping : (label : Name) (operand : Tree) → Seeks foo_by_job label operand → MayHave operand label.text
of_grouping label operand (c, e) = named 8 (codes "job") operand label c (some_operand (foo []) operand (codes "job") e refl)

each_may : (e : Tree) (label : Name) (operand : Tree) → Contains (nodes (with_env foo_by_job bar)) e → Seeks e label operand → MayHave operand label.text
each_may e label operand c seeks = elim (first_or_behind (with_env foo_by_job bar) (foo_by_job ∷ foo [] ∷ bar ∷ []) e c) [
  | inl is ↦ from_either label operand (subst (λ z. Seeks z label operand) (sym is) seeks)
  | inr c ↦ elim (first_or_behind foo_by_job (foo [] ∷ bar ∷ []) e c) [
    | inl is ↦ of_grouping label operand (subst (λ z. Seeks z label operand) (sym is) seeks)
    | inr c ↦ elim (first_or_behind (foo []) (bar ∷ []) e c) [
      | inl is ↦ absurd (subst (λ z. Seeks z label operand) (sym is) seeks)
      | inr c ↦ absurd (subst (λ z. Seeks z label operand) (sym (only_one bar e c)) seeks)
    ]
  ]
]

all_matched : (f : Finding) → Unmatched group_list f → ⊥
all_matched f (e, label, operand, c, seeks, impossible, is) = not_impossible operand label.text (each_may e label operand c seeks) impossible

-- ---- rule/dependency

-- what is read off a selector and an optional name
abbrev selected_by : Tree → Option Bytes
selected_by (Selector name matchers sight span) = selected_name name matchers
selected_by _ = None

abbrev colon_in : Option Bytes → Bool
colon_in None = false
colon_in (Some name) = has_colon name

-- a selector in an expression that is one selector is of its name
one_name : (e : Tree) (name : Bytes) (span : Span) → nodes e ≡ e ∷ [] → SelectsAt e name span → selected_by e ≡ Some name
one_name e name span alone (before, matchers, sight, c, is) = ap selected_by (only_one e _ (subst (λ (l : List Tree). Contains l (Selector before matchers sight span)) alone c)) ∙ is

-- `a:x` is `b:x`, which no rule records
abbrev of_b : RuleTree
of_b = record_rule (codes "a:x") [] (selector (codes "b:x") [])

not_recorded : rule_dependency.IsFound (of_b ∷ []) of_b (finding RuleDependency (place_at 20) (codes "b:x is recorded by no accepted rule"))
not_recorded = inl (
  codes "b:x",
  place_at 20,
  (Some (codes "b:x"), [], sight None None, here of_b.expr [], refl),
  refl,
  (λ c. true≢false (sym (same_true (codes "a:x") (codes "b:x") (only_one (codes "a:x") (codes "b:x") c)))),
  refl,
)

-- `a:a` is `a:a`
abbrev of_itself : RuleTree
of_itself = record_rule (codes "a:a") [] (selector (codes "a:a") [])

reads_itself : IsCyclic (of_itself ∷ []) (codes "a:a")
reads_itself = (of_itself, here of_itself [], (refl, refl), selected (inl (here (Some (codes "a:a")) [])))

read_in_its_making : rule_dependency.IsFound (of_itself ∷ []) of_itself (finding RuleDependency (place_at 20) (codes "a:a is read in its own making"))
read_in_its_making = inr (codes "a:a", place_at 20, (Some (codes "a:a"), [], sight None None, here of_itself.expr [], refl), reads_itself, refl)

-- `a:x` is `foo`, or `foo[5m]`: a name without a colon, that no rule records
scraped : (e : Tree) → nodes e ≡ e ∷ [] → selected_by e ≡ Some (codes "foo") → (f : Finding) → rule_dependency.IsFound (record_rule (codes "a:x") [] e ∷ []) (record_rule (codes "a:x") [] e) f → ⊥
scraped e alone selects f (inl (name, span, at, colon, none, is)) = true≢false (sym colon ∙ ap colon_in (sym (one_name e name span alone at) ∙ selects))
scraped e alone selects f (inr (name, span, at, (r, c, (recording, records), reads), is)) =
    let r_is : record_rule (codes "a:x") [] e ≡ r = only_one (record_rule (codes "a:x") [] e) r c in
    let name_is : codes "a:x" ≡ name = ap (λ (z : RuleTree). z.name) r_is ∙ records in
    true≢false (ap has_colon name_is ∙ ap colon_in (sym (one_name e name span alone at) ∙ selects))

foo_is_scraped : (f : Finding) → rule_dependency.IsFound (record_rule (codes "a:x") [] (foo []) ∷ []) (record_rule (codes "a:x") [] (foo [])) f → ⊥
foo_is_scraped = scraped (foo []) refl refl

-- ---- promql/regexp

abbrev matches_a : Bytes → RuleTree
matches_a pattern = plain (foo (asks (codes "a") Matches pattern ∷ []))

matched_by : (pattern : Bytes) → MatchesBy (foo (asks (codes "a") Matches pattern ∷ [])) (asks (codes "a") Matches pattern)
matched_by pattern = (Some (codes "foo"), asks (codes "a") Matches pattern ∷ [], sight None None, place_at 20, here (foo (asks (codes "a") Matches pattern ∷ [])) [], here (asks (codes "a") Matches pattern) [], refl)

abbrev matchers_of : Tree → List Matcher
matchers_of (Selector name matchers sight span) = matchers
matchers_of _ = []

only_pattern : (pattern : Bytes) (m : Matcher) → MatchesBy (foo (asks (codes "a") Matches pattern ∷ [])) m → pattern ≡ m.value
only_pattern pattern m (name, matchers, seen, span, c, has, takes) =
    let same : asks (codes "a") Matches pattern ∷ [] ≡ matchers = ap matchers_of (only_one (foo (asks (codes "a") Matches pattern ∷ [])) (Selector name matchers seen span) c) in
    ap (λ (z : Matcher). z.value) (only_one (asks (codes "a") Matches pattern) m (subst (λ (l : List Matcher). Contains l m) (sym same) has))

-- `foo{a=~"x"}`
x_is_plain : alternatives_of (codes "x") ≡ Some (codes "x" ∷ [])
unfolding chars scanned is_special is_escapable encode_utf8
x_is_plain = refl

one_text : promql_regexp.IsFound (matches_a (codes "x")) (finding PromqlRegexp (place_at 0) (codes "the pattern is one plain text"))
one_text = inl (asks (codes "a") Matches (codes "x"), matched_by (codes "x"), (codes "x", is_found (codes "x") (codes "x" ∷ []) x_is_plain), refl)

-- `foo{a=~"^x"}`, `foo{a=~"x$"}`
begins_anchored : promql_regexp.IsFound (matches_a (codes "^x")) (finding PromqlRegexp (place_at 0) (codes "the pattern is anchored already"))
begins_anchored = inr (asks (codes "a") Matches (codes "^x"), matched_by (codes "^x"), inl (codes "x", refl), refl)

ends_anchored : promql_regexp.IsFound (matches_a (codes "x$")) (finding PromqlRegexp (place_at 0) (codes "the pattern is anchored already"))
ends_anchored = inr (
  asks (codes "a") Matches (codes "x$"),
  matched_by (codes "x$"),
  inr (codes "x", refl, λ more e. let clash : 120 ≡ 92 = ap (last_of 0) e ∙ last_behind 0 92 more [] in absurd (omega (arith, clash))),
  refl,
)

-- `foo{a=~"x|y"}`
abbrev count : Option (List Bytes) → ℕ
count None = 0
count (Some alternatives) = length alternatives

two_texts_are_plain : alternatives_of (codes "x|y") ≡ Some (codes "x" ∷ codes "y" ∷ [])
unfolding chars scanned is_special is_escapable encode_utf8
two_texts_are_plain = refl

two_texts : (f : Finding) → promql_regexp.IsFound (matches_a (codes "x|y")) f → ⊥
two_texts f (inl (m, by, (one, alternatives), e)) =
    let some : alternatives_of (codes "x|y") ≡ Some (one ∷ []) = ap alternatives_of (only_pattern (codes "x|y") m by) ∙ found m.value (one ∷ []) alternatives in
    let clash : 2 ≡ 1 = ap count (sym two_texts_are_plain ∙ some) in omega (arith, clash)
two_texts f (inr (m, by, inl (rest, begins), e)) =
    let clash : 120 ≡ 94 = ap (λ (t : Bytes). slice_index_or t 0 0) (only_pattern (codes "x|y") m by ∙ begins) in omega (arith, clash)
two_texts f (inr (m, by, inr (front, ends, none), e)) =
    let clash : 121 ≡ 36 = ap (last_of 0) (only_pattern (codes "x|y") m by ∙ ends) ∙ last_behind 0 36 front [] in omega (arith, clash)

-- in `foo{a=~"x\$"}` the `$` is no anchor
no_anchor : (f : Finding) → IsAnchored (matches_a (codes "x\\$")) f → ⊥
no_anchor f (m, by, inl (rest, begins), e) =
    let clash : 120 ≡ 94 = ap (λ (t : Bytes). slice_index_or t 0 0) (only_pattern (codes "x\\$") m by ∙ begins) in omega (arith, clash)
no_anchor f (m, by, inr (front, ends, none), e) = none (codes "x") (sym (append_cancel_right (codes "x\\") front (codes "$") (only_pattern (codes "x\\$") m by ∙ ends)))

-- ---- rule/duplicate

-- `foo`, recorded as `a:b`, with its name and its expression at these places
abbrev stands_at : ℕ → ℕ → List Label → RuleTree
stands_at start behind labels = record {
  file = 0;
  alert = false;
  name = codes "a:b";
  name_span = place_at start;
  expr = Selector (Some (codes "foo")) [] (sight None None) (place_at behind);
  expr_span = place_at behind;
  labels = labels;
  templates = [];
}

abbrev file : File
file = record { name = codes "r.yml"; bytes = codes "#\n  a:b foo a:b foo" }

-- the name of the first stands in line 2, column 3
again : rule_duplicate.IsFound (file ∷ []) (stands_at 4 8 [] ∷ stands_at 12 16 [] ∷ []) 1 (stands_at 12 16 []) (finding RuleDuplicate (place_at 12) (codes "the same rule stands at r.yml:2:3"))
unfolding digits
again = (
  stands_at 4 8 [],
  codes "r.yml:2:3",
  (0, (omega arith, refl, (refl, refl, refl, refl, refl), λ k t less at same. absurd (omega (arith, less)))),
  (file, refl, refl),
  refl,
)

-- a third one says where the first stands
third_time : rule_duplicate.IsFound (file ∷ []) (stands_at 4 8 [] ∷ stands_at 12 16 [] ∷ stands_at 20 24 [] ∷ []) 2 (stands_at 20 24 []) (finding RuleDuplicate (place_at 20) (codes "the same rule stands at r.yml:2:3"))
unfolding digits
third_time = (
  stands_at 4 8 [],
  codes "r.yml:2:3",
  (0, (omega arith, refl, (refl, refl, refl, refl, refl), λ k t less at same. absurd (omega (arith, less)))),
  (file, refl, refl),
  refl,
)

-- it is answered by the numbers of the check, of its one case and of the first rule
in_numbers : HasNumbers (stands_at 4 8 [] ∷ stands_at 12 16 [] ∷ stands_at 20 24 [] ∷ []) 2 (finding RuleDuplicate (place_at 20) (codes "the same rule stands at r.yml:2:3"))
    (record { check = 3; case = 0; span = place_at 20; label = []; other = Some 0 })
in_numbers = record {
  check = refl;
  span = refl;
  case = (refl, (codes "r.yml:2:3", refl));
  other = (stands_at 20 24 [], stands_at 4 8 [], 0, refl, (omega arith, refl, (refl, refl, refl, refl, refl), λ k t less at same. absurd (omega (arith, less))), refl);
}

-- there is no other case of the check, and rule/label has two
one_case : (case : ℕ) (label text : Bytes) → CaseSays RuleDuplicate (suc case) label text → ⊥
one_case case label text h = h

two_cases : (label text : Bytes) → CaseSays RuleLabel 9 label text → ⊥
two_cases label text h = h

-- and the first one has none before it
first_time : (f : Finding) → rule_duplicate.IsFound (file ∷ []) (stands_at 4 8 [] ∷ stands_at 12 16 [] ∷ []) 0 (stands_at 4 8 []) f → ⊥
first_time f (s, place, (j, (less, at, same, first)), named_at, e) = omega (arith, less)

-- with a label it is another rule
abbrev labels_at : Option RuleTree → ℕ
labels_at None = 0
labels_at (Some r) = length (rule_duplicate.pairs_of r.labels)

other_labels : (f : Finding) → rule_duplicate.IsFound (file ∷ []) (stands_at 4 8 [] ∷ stands_at 12 16 (set_to (codes "y") ∷ []) ∷ []) 1 (stands_at 12 16 (set_to (codes "y") ∷ [])) f → ⊥
other_labels f (s, place, (j, (less, at, same, first)), named_at, e) = by j less at
  where
    by : (j : ℕ) → j < 1 → slice_get (stands_at 4 8 [] ∷ stands_at 12 16 (set_to (codes "y") ∷ []) ∷ []) j ≡ Some s → ⊥
    by zero less at = let clash : 1 ≡ 0 = ap length same.3 ∙ sym (ap labels_at at) in omega (arith, clash)
    by (suc j) less at = omega (arith, less)

-- ---- the order

-- the check comes first, then the start, the end and the text
by_check : finding_cmp (finding AlertTemplate (span 9 9) (codes "b")) (finding RuleDuplicate (span 1 2) (codes "a")) ≡ Less
by_check = refl

by_start : finding_cmp (finding MatchLabel (span 1 9) (codes "b")) (finding MatchLabel (span 2 2) (codes "a")) ≡ Less
by_start = refl

by_end : finding_cmp (finding MatchLabel (span 1 2) (codes "b")) (finding MatchLabel (span 1 3) (codes "a")) ≡ Less
by_end = refl

by_text : finding_cmp (finding MatchLabel (span 1 2) (codes "a")) (finding MatchLabel (span 1 2) (codes "ab")) ≡ Less
by_text = refl

-- ---- all checks

-- of `foo[5m]`, recorded as `a:x`, it is all that is found that it is a range vector, in whatever universe
abbrev lone : RuleTree
lone = record_rule (codes "a:x") [] (over_time (codes "foo") [])

abbrev the_type : Finding
the_type = finding ExprType (place_at 0) (codes "a rule needs a scalar or an instant vector")

only_the_type : (w : Listing) (check : Check) (f : Finding) → FindsIn (file ∷ []) w (lone ∷ []) [] check 0 lone f → Contains (the_type ∷ []) f
only_the_type w AlertComparison f h = absurd (true≢false (sym h.0))
only_the_type w AlertTemplate f (inl (t, reference, has, refers, impossible, e)) = absurd (true≢false (sym has.0))
only_the_type w AlertTemplate f (inr (t, breach, has, breaks, e)) = absurd (true≢false (sym has.0))
only_the_type w RuleDuplicate f (s, place, (j, (less, at, same, first)), named_at, e) = absurd (omega (arith, less))
only_the_type w RuleDependency f h = absurd (scraped (over_time (codes "foo") []) refl refl f h)
only_the_type w PromqlRegexp f (inl (m, (name, matchers, seen, span, c, has, takes), one, e)) =
    let same : [] ≡ matchers = ap matchers_of (only_one (over_time (codes "foo") []) (Selector name matchers seen span) c) in
    absurd (none_in m (subst (λ (l : List Matcher). Contains l m) (sym same) has))
only_the_type w PromqlRegexp f (inr (m, (name, matchers, seen, span, c, has, takes), anchored, e)) =
    let same : [] ≡ matchers = ap matchers_of (only_one (over_time (codes "foo") []) (Selector name matchers seen span) c) in
    absurd (none_in m (subst (λ (l : List Matcher). Contains l m) (sym same) has))
only_the_type w MatchLabel f (e, label, operand, c, seeks, impossible, is) = absurd (subst (λ z. Seeks z label operand) (sym (only_one (over_time (codes "foo") []) e c)) seeks)
only_the_type w ExprEmpty f h = absurd (true≢false (sym h.0))
only_the_type w ExprType f h = subst (Contains (the_type ∷ [])) (sym h.1) (here the_type [])
only_the_type w RuleLabel f (inl (l, has, some, guaranteed, e)) = absurd (none_in l has.1)
only_the_type w RuleLabel f (inr (l, has, none, impossible, e)) = absurd (none_in l has.1)

the_findings : (w : Listing) → AreFindingsIn (file ∷ []) w (lone ∷ []) [] 0 (the_type ∷ [])
the_findings w = record {
  each = λ f c. (lone, refl, ExprType, (refl, sym (only_one the_type f c)));
  all = λ f (r, at, check, finds). only_the_type w check f (subst (λ (z : RuleTree). FindsIn (file ∷ []) w (lone ∷ []) [] check 0 z f) (sym (same_rule r at)) finds);
  ascending = λ j k f g less at before. absurd (none_behind j k g less before);
}
  where
    same_rule : (r : RuleTree) → Some lone ≡ Some r → lone ≡ r
    same_rule r e = cc

    none_behind : (j k : ℕ) (g : Finding) → j < k → slice_get (the_type ∷ []) k ≡ Some g → ⊥
    none_behind j zero g less at = omega (arith, less)
    none_behind j (suc k) g less at = cc

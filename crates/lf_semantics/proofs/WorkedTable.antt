-- The universe and the rows of worked rules, by computation: selectors, aggregations and functions.
use Rattle.std.proofs.Common.{◌≡◌, true, false, [], ◌∷◌, Some, None, codes, refl}
use Rattle.std.specs.Char.{encode_utf8}
use Rattle.std.specs.Str.{chars}
use Rattle.lf_base.specs.Names.{begins_label, is_in_label, is_label_name, is_letter}
use Rattle.lf_ast.specs.Functions.{function_named, functions}
use Rattle.lf_ast.specs.Tree.{Tree}
use Rattle.lf_ast.specs.declared.expr.Agg.TheVariants.{CountValues, Topk}
use Rattle.lf_ast.specs.declared.expr.Grouping.TheVariants.{None as Ungrouped, By, Without}
use Rattle.lf_ast.specs.declared.expr.MatchOp.TheVariants.{Equal, NotEqual, Matches}
use Rattle.lf_ast.specs.Selectors.{metric}
use Rattle.lf_pattern.specs.Matching.{matches}
use Rattle.lf_pattern.specs.Plain.{is_escapable, is_special}
use Rattle.lf_pattern.specs.Scan.{scanned}
use Rattle.lf_pattern.specs.ShapeScan.{stepped}
use Rattle.lf_semantics.specs.Listing.{universe_of}
use Rattle.lf_semantics.specs.RowTable.{row_of}
use Rattle.lf_semantics.specs.Mentions.{mention, mentions}
use Rattle.lf_semantics.proofs.Written.{Guaranteed, Impossible, Possible, aggregate, alone, asks, call, names, number, over_time, record_rule, selector, selects, sight, sum_by, sum_of_by, sum_without, text, verdicts_of}

-- `sum by (job) (foo{env="p"})`, recorded as `job:foo:sum`

abbrev sum_of_foo : Tree
sum_of_foo = sum_by (codes "job" ∷ []) (selector (codes "foo") (asks (codes "env") Equal (codes "p") ∷ []))

mentions_of_sum : mentions sum_of_foo ≡ mention (codes "job") [] ∷ mention metric (codes "foo" ∷ []) ∷ mention (codes "env") (codes "p" ∷ []) ∷ []
mentions_of_sum = refl

universe_of_sum : universe_of (record_rule (codes "job:foo:sum") [] sum_of_foo ∷ [])
    ≡ record { names = metric ∷ codes "job" ∷ codes "env" ∷ []; named = (codes "foo" ∷ codes "job:foo:sum" ∷ []) ∷ [] ∷ (codes "p" ∷ []) ∷ [] ∷ [] }
universe_of_sum = refl

-- of `job` both classes are in the set, and of each other label, `*` last, only the empty text
row_of_sum : row_of (universe_of (record_rule (codes "job:foo:sum") [] sum_of_foo ∷ [])) [] sum_of_foo
    ≡ (true ∷ false ∷ false ∷ false ∷ []) ∷ (true ∷ true ∷ []) ∷ (true ∷ false ∷ false ∷ []) ∷ (true ∷ false ∷ []) ∷ []
row_of_sum = refl

says_of_sum : verdicts_of sum_of_foo ≡ Impossible ∷ Possible ∷ Impossible ∷ Impossible ∷ []
says_of_sum = refl

-- behind its argument a grouping is named after it
mentions_of_grouping_behind : mentions (sum_of_by (selector (codes "foo") (asks (codes "env") Equal (codes "p") ∷ [])) (codes "job" ∷ [])) ≡ mention metric (codes "foo" ∷ []) ∷ mention (codes "env") (codes "p" ∷ []) ∷ mention (codes "job") [] ∷ []
mentions_of_grouping_behind = refl

-- selectors

-- `foo{a=""}`, `foo{a!=""}` and `foo{a="x",a="y"}`
without_a : verdicts_of (selector (codes "foo") (asks (codes "a") Equal [] ∷ [])) ≡ Guaranteed ∷ Impossible ∷ Possible ∷ []
without_a = refl

with_a : verdicts_of (selector (codes "foo") (asks (codes "a") NotEqual [] ∷ [])) ≡ Guaranteed ∷ Guaranteed ∷ Possible ∷ []
with_a = refl

two_texts : verdicts_of (selector (codes "foo") (asks (codes "a") Equal (codes "x") ∷ asks (codes "a") Equal (codes "y") ∷ [])) ≡ []
two_texts = refl

-- `foo{a=~"x|y"}`: neither the empty text nor any other passes
plain_pattern : row_of (universe_of (alone (selector (codes "foo") (asks (codes "a") Matches (codes "x|y") ∷ [])) ∷ [])) [] (selector (codes "foo") (asks (codes "a") Matches (codes "x|y") ∷ []))
    ≡ (false ∷ true ∷ false ∷ false ∷ []) ∷ (false ∷ true ∷ true ∷ false ∷ []) ∷ (true ∷ true ∷ []) ∷ []
unfolding chars scanned is_special is_escapable encode_utf8
plain_pattern = refl

-- `{a="x"}` names no metric: its series have any name but the recorded one, `r:r`
nameless : row_of (universe_of (alone (selects None (asks (codes "a") Equal (codes "x") ∷ []) (sight None None)) ∷ [])) ((codes "r:r", (false ∷ true ∷ false ∷ []) ∷ (true ∷ false ∷ false ∷ []) ∷ (true ∷ false ∷ []) ∷ []) ∷ []) (selects None (asks (codes "a") Equal (codes "x") ∷ []) (sight None None))
    ≡ (false ∷ true ∷ true ∷ []) ∷ (false ∷ true ∷ false ∷ []) ∷ (true ∷ true ∷ []) ∷ []
nameless = refl

-- `{__name__="", a="x"}`: no series has the empty name
empty_name : verdicts_of (selects None (asks metric Equal [] ∷ asks (codes "a") Equal (codes "x") ∷ []) (sight None None)) ≡ []
empty_name = refl

-- aggregations

-- `sum without (env) (foo)`
without_env : verdicts_of (sum_without (codes "env" ∷ []) (selector (codes "foo") [])) ≡ Impossible ∷ Impossible ∷ Possible ∷ []
without_env = refl

-- `topk(1, foo)`
topk_keeps : verdicts_of (aggregate Topk Ungrouped (number ∷ selector (codes "foo") [] ∷ [])) ≡ Guaranteed ∷ Possible ∷ []
topk_keeps = refl

-- `count_values by (job) ("v", foo)`, `count_values without (v) ("v", foo)`
counted_by : verdicts_of (aggregate CountValues (By (names 8 (codes "job" ∷ []))) (text (codes "v") ∷ selector (codes "foo") [] ∷ [])) ≡ Impossible ∷ Possible ∷ Guaranteed ∷ Impossible ∷ []
counted_by = refl

counted_without : verdicts_of (aggregate CountValues (Without (names 8 (codes "v" ∷ []))) (text (codes "v") ∷ selector (codes "foo") [] ∷ [])) ≡ Impossible ∷ Possible ∷ Possible ∷ []
counted_without = refl

-- functions

-- `rate(foo[5m])`, and the range alone, which is no rule
rated : verdicts_of (call (codes "rate") (over_time (codes "foo") [] ∷ [])) ≡ Impossible ∷ Possible ∷ []
unfolding function_named functions
rated = refl

range_alone : verdicts_of (over_time (codes "foo") []) ≡ []
range_alone = refl

-- `vector(1)`, `hour()`, and a number
bare_vector : verdicts_of (call (codes "vector") (number ∷ [])) ≡ Impossible ∷ Impossible ∷ []
unfolding function_named functions
bare_vector = refl

hour_of_now : verdicts_of (call (codes "hour") []) ≡ Impossible ∷ Impossible ∷ []
unfolding function_named functions
hour_of_now = refl

hour_of_foo : verdicts_of (call (codes "hour") (selector (codes "foo") [] ∷ [])) ≡ Impossible ∷ Possible ∷ []
unfolding function_named functions
hour_of_foo = refl

number_alone : verdicts_of number ≡ Impossible ∷ Impossible ∷ []
number_alone = refl

-- `histogram_quantile(1, sum by (job) (rate(h_bucket[5m])))` has no sample, since `le` was dropped; with `by (le, job)` it has
without_le : verdicts_of (call (codes "histogram_quantile") (number ∷ sum_by (codes "job" ∷ []) (call (codes "rate") (over_time (codes "h_bucket") [] ∷ [])) ∷ [])) ≡ []
unfolding function_named functions
without_le = refl

with_le : verdicts_of (call (codes "histogram_quantile") (number ∷ sum_by (codes "le" ∷ codes "job" ∷ []) (call (codes "rate") (over_time (codes "h_bucket") [] ∷ [])) ∷ [])) ≡ Impossible ∷ Impossible ∷ Possible ∷ Impossible ∷ []
unfolding function_named functions
with_le = refl

-- `label_replace(up, "foo", "bar", "", "")`: the source is no label, and the pattern matches its empty text
replaced_by_bar : verdicts_of (call (codes "label_replace") (selector (codes "up") [] ∷ text (codes "foo") ∷ text (codes "bar") ∷ text [] ∷ text [] ∷ [])) ≡ Guaranteed ∷ Guaranteed ∷ Possible ∷ []
unfolding function_named functions chars scanned is_label_name
replaced_by_bar = refl

-- `label_replace(up, "foo", "bar", "job", "a")`: where `job` isn't `a`, `foo` stays as it was
replaced_for_a : verdicts_of (call (codes "label_replace") (selector (codes "up") [] ∷ text (codes "foo") ∷ text (codes "bar") ∷ text (codes "job") ∷ text (codes "a") ∷ [])) ≡ Guaranteed ∷ Possible ∷ Possible ∷ Possible ∷ []
unfolding function_named functions chars scanned is_special is_escapable encode_utf8 is_label_name begins_label is_letter is_in_label
replaced_for_a = refl

-- `label_join(foo, "d", "-", "a", "b")` always has `d`, and `label_join(foo{a=""}, "d", "-", "a")` never
joined_two : verdicts_of (call (codes "label_join") (selector (codes "foo") [] ∷ text (codes "d") ∷ text (codes "-") ∷ text (codes "a") ∷ text (codes "b") ∷ [])) ≡ Guaranteed ∷ Guaranteed ∷ Possible ∷ Possible ∷ Possible ∷ []
unfolding function_named functions
joined_two = refl

joined_none : verdicts_of (call (codes "label_join") (selector (codes "foo") (asks (codes "a") Equal [] ∷ []) ∷ text (codes "d") ∷ text (codes "-") ∷ text (codes "a") ∷ [])) ≡ Guaranteed ∷ Impossible ∷ Impossible ∷ Possible ∷ []
unfolding function_named functions
joined_none = refl

-- `absent(foo{job="a", i=~".*"})`: of `i` nothing is asked that has a text
absent_labels : verdicts_of (call (codes "absent") (selector (codes "foo") (asks (codes "job") Equal (codes "a") ∷ asks (codes "i") NotEqual (codes "b") ∷ []) ∷ [])) ≡ Impossible ∷ Guaranteed ∷ Impossible ∷ Impossible ∷ []
unfolding function_named functions
absent_labels = refl

-- with an `@`, or two matchers on the label, it may lack it
absent_at : verdicts_of (call (codes "absent") (selects (Some (codes "foo")) (asks (codes "job") Equal (codes "a") ∷ []) (sight None (Some (codes "1"))) ∷ [])) ≡ Impossible ∷ Possible ∷ Impossible ∷ []
unfolding function_named functions
absent_at = refl

absent_twice : verdicts_of (call (codes "absent") (selector (codes "foo") (asks (codes "job") Equal (codes "a") ∷ asks (codes "job") NotEqual (codes "b") ∷ []) ∷ [])) ≡ Impossible ∷ Possible ∷ Impossible ∷ []
unfolding function_named functions
absent_twice = refl

absent_of_sum : verdicts_of (call (codes "absent") (sum_by (codes "job" ∷ []) (selector (codes "foo") (asks (codes "job") Equal (codes "a") ∷ [])) ∷ [])) ≡ Impossible ∷ Impossible ∷ Impossible ∷ []
unfolding function_named functions
absent_of_sum = refl

-- A pattern that isn't plain: `foo{a=~".+"}`. What it matches is taken from regex's definition.
module _ (nothing : matches (codes ".+") [] ≡ false) (low : matches (codes ".+") (codes "0") ≡ true) (high : matches (codes ".+") (codes "a") ≡ true) where
  mentions_of_any : mentions (selector (codes "foo") (asks (codes "a") Matches (codes ".+") ∷ [])) ≡ mention metric (codes "foo" ∷ []) ∷ mention (codes "a") (codes "0" ∷ codes "a" ∷ []) ∷ []
  unfolding chars scanned is_special is_escapable encode_utf8 stepped
  mentions_of_any = simp (low, high) refl

  abbrev any_of_a : Tree
  any_of_a = selector (codes "foo") (asks (codes "a") Matches (codes ".+") ∷ [])

  -- the classes of `a` are the empty text, `0`, `a` and any other, and all but the first may pass
  row_of_any : row_of (universe_of (alone any_of_a ∷ [])) [] any_of_a ≡ (false ∷ true ∷ false ∷ false ∷ []) ∷ (false ∷ true ∷ true ∷ true ∷ []) ∷ (true ∷ true ∷ []) ∷ []
  unfolding chars scanned is_special is_escapable encode_utf8 stepped
  row_of_any = simp (nothing, low, high) refl

-- The rows of worked operators, by computation.
use Rattle.std.proofs.Common.{◌≡◌, true, false, [], ◌∷◌, Some, None, codes, refl}
use Rattle.lf_ast.specs.Functions.{function_named, functions}
use Rattle.lf_ast.specs.declared.expr.Group.TheVariants.{One, Left, Right}
use Rattle.lf_ast.specs.declared.expr.MatchOp.TheVariants.{Equal, NotEqual}
use Rattle.lf_ast.specs.declared.expr.Op.TheVariants.{Add, Multiply, Greater, And, Or, Unless}
use Rattle.lf_ast.specs.Selectors.{metric}
use Rattle.lf_semantics.proofs.Written.{Guaranteed, Impossible, Possible, asks, between, call, matching, minus, number, paren, selector, unmodified, verdicts_of}

-- `-foo`, `-(1)` and `absent((foo{job="a"}))`
negated : verdicts_of (minus (selector (codes "foo") [])) ≡ Impossible ∷ Possible ∷ []
negated = refl

negated_number : verdicts_of (minus (paren number)) ≡ Impossible ∷ Impossible ∷ []
negated_number = refl

absent_in_parentheses : verdicts_of (call (codes "absent") (paren (selector (codes "foo") (asks (codes "job") Equal (codes "a") ∷ [])) ∷ [])) ≡ Impossible ∷ Possible ∷ Impossible ∷ []
unfolding function_named functions
absent_in_parentheses = refl

-- with a scalar: `foo + 1`, `1 > foo`, `foo > bool 1`, and `1 + 1`
plus_one : verdicts_of (between Add unmodified (selector (codes "foo") []) number) ≡ Impossible ∷ Possible ∷ []
plus_one = refl

one_greater : verdicts_of (between Greater unmodified number (selector (codes "foo") [])) ≡ Guaranteed ∷ Possible ∷ []
one_greater = refl

greater_bool : verdicts_of (between Greater (matching true None None One []) (selector (codes "foo") []) number) ≡ Impossible ∷ Possible ∷ []
greater_bool = refl

two : verdicts_of (between Add unmodified number number) ≡ Impossible ∷ Impossible ∷ []
two = refl

-- `foo{a="x"} + bar{a="y"}`: no text of `a` is on both sides
apart : verdicts_of (between Add unmodified (selector (codes "foo") (asks (codes "a") Equal (codes "x") ∷ [])) (selector (codes "bar") (asks (codes "a") Equal (codes "y") ∷ []))) ≡ []
apart = refl

-- the same with `or`, whose labels are those of either
either : verdicts_of (between Or unmodified (selector (codes "foo") (asks (codes "a") Equal (codes "x") ∷ [])) (selector (codes "bar") (asks (codes "a") Equal (codes "y") ∷ []))) ≡ Guaranteed ∷ Guaranteed ∷ Possible ∷ []
either = refl

-- `foo > ignoring (x) bar` and `foo > bar`
greater_ignoring : verdicts_of (between Greater (matching false None (Some (codes "x" ∷ [])) One []) (selector (codes "foo") []) (selector (codes "bar") [])) ≡ Guaranteed ∷ Impossible ∷ Possible ∷ []
greater_ignoring = refl

greater_plain : verdicts_of (between Greater unmodified (selector (codes "foo") (asks (codes "x") NotEqual (codes "y") ∷ [])) (selector (codes "bar") [])) ≡ Guaranteed ∷ Possible ∷ Possible ∷ []
greater_plain = refl

-- `foo > on (job) bar` keeps `job` alone
greater_on : verdicts_of (between Greater (matching false (Some (codes "job" ∷ [])) None One []) (selector (codes "foo") []) (selector (codes "bar") (asks (codes "job") NotEqual [] ∷ []))) ≡ Impossible ∷ Guaranteed ∷ Impossible ∷ []
greater_on = refl

-- `foo + on (__name__) foo` drops the name, and `foo + on (__name__) bar` has no pair
sum_on_name : verdicts_of (between Add (matching false (Some (metric ∷ [])) None One []) (selector (codes "foo") []) (selector (codes "foo") [])) ≡ Impossible ∷ Impossible ∷ []
sum_on_name = refl

sum_on_other_name : verdicts_of (between Add (matching false (Some (metric ∷ [])) None One []) (selector (codes "foo") []) (selector (codes "bar") [])) ≡ []
sum_on_other_name = refl

-- `a * on (instance) group_left (version) b{version!=""}`
many_to_one : verdicts_of (between Multiply (matching false (Some (codes "instance" ∷ [])) None Left (codes "version" ∷ [])) (selector (codes "a") []) (selector (codes "b") (asks (codes "version") NotEqual [] ∷ [])))
    ≡ Impossible ∷ Possible ∷ Guaranteed ∷ Possible ∷ []
many_to_one = refl

-- the mirror image: the labels of the right side, and `version` of the left
one_to_many : verdicts_of (between Multiply (matching false (Some (codes "instance" ∷ [])) None Right (codes "version" ∷ [])) (selector (codes "b") (asks (codes "version") Equal [] ∷ [])) (selector (codes "a") (asks (codes "env") NotEqual [] ∷ [])))
    ≡ Impossible ∷ Impossible ∷ Possible ∷ Guaranteed ∷ Possible ∷ []
one_to_many = refl

-- `a * on () group_left (__name__) b` has the name of `b`, but not with `bool`
name_of_one : verdicts_of (between Multiply (matching false (Some []) None Left (metric ∷ [])) (selector (codes "a") []) (selector (codes "b") [])) ≡ Guaranteed ∷ Possible ∷ []
name_of_one = refl

no_name_of_one : verdicts_of (between Greater (matching true (Some []) None Left (metric ∷ [])) (selector (codes "a") []) (selector (codes "b") [])) ≡ Impossible ∷ Possible ∷ []
no_name_of_one = refl

-- `foo and on (job) bar{job="x"}`, `foo unless on (job) bar{job="x"}`, `foo unless (foo > 5)`
matched : verdicts_of (between And (matching false (Some (codes "job" ∷ [])) None One []) (selector (codes "foo") []) (selector (codes "bar") (asks (codes "job") Equal (codes "x") ∷ []))) ≡ Guaranteed ∷ Guaranteed ∷ Possible ∷ []
matched = refl

unmatched : verdicts_of (between Unless (matching false (Some (codes "job" ∷ [])) None One []) (selector (codes "foo") []) (selector (codes "bar") (asks (codes "job") Equal (codes "x") ∷ []))) ≡ Guaranteed ∷ Possible ∷ Possible ∷ []
unmatched = refl

unless_greater : verdicts_of (between Unless unmodified (selector (codes "foo") []) (paren (between Greater unmodified (selector (codes "foo") []) number))) ≡ Guaranteed ∷ Possible ∷ []
unless_greater = refl

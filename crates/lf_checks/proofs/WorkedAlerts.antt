-- Worked alerts: which expressions are conditional, and which templates name a label that is never there.
use Rattle.std.proofs.Common.{◌≡◌, inl, inr, ℕ, true, false, List, [], ◌∷◌, Some, None, codes, refl, sym, ap, ◌∙◌, subst, true≢false}
use Rattle.std.specs.List.{Contains}
use Rattle.lf_laws.proofs.Members.{here, only_one}
use Rattle.lf_base.specs.Names.{begins_label, is_digit, is_in_label, is_letter}
use Rattle.lf_ast.specs.Functions.{function_named, functions}
use Rattle.lf_ast.specs.Labels.{Bytes}
use Rattle.lf_ast.specs.Rules.{RuleTree}
use Rattle.lf_ast.specs.Tree.{Tree, Subquery, Unary}
use Rattle.lf_ast.specs.declared.expr.Group.TheVariants.{One}
use Rattle.lf_ast.specs.declared.expr.Grouping.TheVariants.{None as Ungrouped}
use Rattle.lf_ast.specs.declared.expr.Agg.TheVariants.{Sum}
use Rattle.lf_ast.specs.declared.expr.MatchOp.TheVariants.{Equal as Matched}
use Rattle.lf_ast.specs.declared.expr.Op.TheVariants.{Add, And, Equal, Greater, Or, Unless}
use Rattle.lf_ast.specs.declared.rule.Template.{Template}
use Rattle.lf_semantics.specs.ClassRows.{Sets}
use Rattle.lf_semantics.specs.Environments.{rule_row}
use Rattle.lf_semantics.specs.Listing.{Listing, label_of, universe_of}
use Rattle.lf_semantics.specs.RowTable.{may_be_present}
use Rattle.lf_semantics.proofs.Written.{aggregate, asks, between, call, matching, number, over_time, paren, place_at, record_rule, selector, sight, sum_by, unmodified}
use Rattle.lf_templates.specs.Templates.{Braced, Breaks, TemplatePiece, References, flawed}
use Rattle.lf_templates.specs.Tokens.{a_field, a_variable, a_word, field_of, variable_of, word_of}
use Rattle.lf_templates.specs.declared.reference.Reference.{Reference}
use Rattle.lf_templates.specs.declared.token.ActionToken.TheVariants as tokens
use Rattle.lf_templates.specs.declared.token.Variable.TheVariants as variables
use Rattle.lf_templates.specs.declared.token.Word.TheVariants as words
use Rattle.lf_templates.proofs.Deciding.{one_list}
use Rattle.lf_base.specs.Faults.{fault, span}
use Rattle.lf_base.specs.declared.kind.Kind.TheVariants.{BadAction}
use Rattle.lf_checks.specs.AlertComparison as alert_comparison
use Rattle.lf_checks.specs.AlertComparison.{is_conditional}
use Rattle.lf_checks.specs.AlertTemplate as alert_template
use Rattle.lf_checks.specs.Finding.{AlertComparison, AlertTemplate, Finding, finding}

abbrev up : Tree
up = selector (codes "up") []

abbrev foo : Tree
foo = selector (codes "foo") []

abbrev high : Tree → Tree
high e = between Greater unmodified e number

-- an alert whose expression stands at 7
abbrev pub alert : Tree → List Template → RuleTree
alert e templates = record { file = 0; alert = true; name = codes "A"; name_span = place_at 3; expr = e; expr_span = place_at 7; labels = []; templates = templates }

-- ---- alert/comparison

-- `up`
compares_nothing : alert_comparison.IsFound (alert up []) (finding AlertComparison (place_at 7) (codes "the alert's expression compares nothing"))
compares_nothing = (refl, refl, refl)

-- `up == 1`
compares : (f : Finding) → alert_comparison.IsFound (alert (between Equal unmodified up number) []) f → ⊥
compares f h = true≢false h.1

-- and a recording rule isn't asked
records : (f : Finding) → alert_comparison.IsFound (record { file = 0; alert = false; name = codes "a:b"; name_span = place_at 3; expr = up; expr_span = place_at 7; labels = []; templates = [] }) f → ⊥
records f h = true≢false (sym h.0)

-- conditional: `(up > 1)`, `-(up > 1)`, `(up > 1)[5m:]`, `up > 1 + foo`, `up and foo > 1`, `up unless foo`, `up > 1 or foo > 1`, `absent(up)`, `sum(up > 1)`, `scalar(up > 1)`
in_parentheses : is_conditional (paren (high up)) ≡ true
in_parentheses = refl

negative : is_conditional (Unary true (paren (high up)) (place_at 20)) ≡ true
negative = refl

over_subquery : is_conditional (Subquery (paren (high up)) (sight (Some (codes "5m")) None) (place_at 20)) ≡ true
over_subquery = refl

in_a_sum : is_conditional (between Add unmodified (paren (high up)) foo) ≡ true
in_a_sum = refl

on_one_side : is_conditional (between And unmodified up (high foo)) ≡ true
on_one_side = refl

without_any : is_conditional (between Unless unmodified up foo) ≡ true
without_any = refl

on_both_sides : is_conditional (between Or unmodified (high up) (high foo)) ≡ true
on_both_sides = refl

absence : is_conditional (call (codes "absent") (up ∷ [])) ≡ true
unfolding function_named functions
absence = refl

aggregated : is_conditional (aggregate Sum Ungrouped (high up ∷ [])) ≡ true
aggregated = refl

as_scalar : is_conditional (call (codes "scalar") (high up ∷ [])) ≡ true
unfolding function_named functions
as_scalar = refl

-- not conditional: `up == bool 1`, `up and foo`, `up > 1 or foo`, `up + scalar(foo > 1)`, `rate(up[5m])`
as_bool : is_conditional (between Equal (matching true None None One []) up number) ≡ false
as_bool = refl

both : is_conditional (between And unmodified up foo) ≡ false
both = refl

or_any : is_conditional (between Or unmodified (high up) foo) ≡ false
or_any = refl

beside_scalar : is_conditional (between Add unmodified up (call (codes "scalar") (high foo ∷ []))) ≡ false
unfolding function_named functions
beside_scalar = refl

rated : is_conditional (call (codes "rate") (over_time (codes "up") [] ∷ [])) ≡ false
unfolding function_named functions
rated = refl

-- ---- alert/template

-- `sum by (job) (up) > 1` with one template, which stands at 0
abbrev by_job : List Template → RuleTree
by_job templates = alert (high (sum_by (codes "job" ∷ []) up)) templates

abbrev u : List Template → Listing
u templates = universe_of (by_job templates ∷ [])

abbrev row : List Template → Sets
row templates = rule_row (u templates) [] (by_job templates)

abbrev Found : Template → Finding → Type 0
Found t f = alert_template.IsFound (u (t ∷ [])) (row (t ∷ [])) (by_job (t ∷ [])) f

-- `{{$labels.env}}` and `{{$labels.job}}`
abbrev offsets : List ℕ
offsets = 0 ∷ 1 ∷ 2 ∷ 3 ∷ 4 ∷ 5 ∷ 6 ∷ 7 ∷ 8 ∷ 9 ∷ 10 ∷ 11 ∷ 12 ∷ 13 ∷ 14 ∷ 15 ∷ []

abbrev tells : Bytes → Template
tells text = record { text = text; from = offsets }

abbrev refers : Bytes → Reference
refers label = record { label = label; span = span 2 13 }

abbrev pieces : Bytes → List TemplatePiece
pieces field = Braced (record { token = tokens.Variable variables.Labels; text = codes "$labels" } ∷ record { token = tokens.Field false; text = field } ∷ []) ∷ []

env_is_named : References offsets (codes "{{$labels.env}}") (refers (codes "env") ∷ [])
unfolding begins_label is_digit is_in_label is_letter field_of variable_of
env_is_named = record {
  pieces = pieces (codes ".env");
  source = refl;
  are_pieces = ((refl, a_variable (codes "labels") refl (refl, refl, refl) refl, (refl, a_field (codes "env") refl (refl, refl, refl) refl, tt)), tt);
  sound = refl;
  found_are = refl;
}

job_is_named : References offsets (codes "{{$labels.job}}") (refers (codes "job") ∷ [])
unfolding begins_label is_digit is_in_label is_letter field_of variable_of
job_is_named = record {
  pieces = pieces (codes ".job");
  source = refl;
  are_pieces = ((refl, a_variable (codes "labels") refl (refl, refl, refl) refl, (refl, a_field (codes "job") refl (refl, refl, refl) refl, tt)), tt);
  sound = refl;
  found_are = refl;
}

never_there : Found (tells (codes "{{$labels.env}}")) (finding AlertTemplate (span 2 13) (codes "label env is never on the alert's sample"))
never_there = inl (tells (codes "{{$labels.env}}"), refers (codes "env"), (refl, here (tells (codes "{{$labels.env}}")) []), (refers (codes "env") ∷ [], env_is_named, here (refers (codes "env")) []), (refl, refl), refl)

-- so it is in the universe of more rules, where one behind it names the label
abbrev names_env : RuleTree
names_env = record_rule (codes "env:up") [] (sum_by (codes "env" ∷ []) up)

abbrev wider : List Template → Listing
wider templates = universe_of (by_job templates ∷ names_env ∷ [])

abbrev FoundInMore : Template → Finding → Type 0
FoundInMore t f = alert_template.IsFound (wider (t ∷ [])) (rule_row (wider (t ∷ [])) [] (by_job (t ∷ []))) (by_job (t ∷ [])) f

env_is_named_by_another : label_of (wider (tells (codes "{{$labels.env}}") ∷ [])) (codes "env") ≡ 2
env_is_named_by_another = refl

never_there_among_more : FoundInMore (tells (codes "{{$labels.env}}")) (finding AlertTemplate (span 2 13) (codes "label env is never on the alert's sample"))
never_there_among_more =
    inl (tells (codes "{{$labels.env}}"), refers (codes "env"), (refl, here (tells (codes "{{$labels.env}}")) []), (refers (codes "env") ∷ [], env_is_named, here (refers (codes "env")) []), (refl, refl), refl)

may_be_there : (f : Finding) → Found (tells (codes "{{$labels.job}}")) f → ⊥
may_be_there f (inl (t, reference, has, (found, refers_to, is_in), impossible, e)) =
    let one : tells (codes "{{$labels.job}}") ≡ t = only_one (tells (codes "{{$labels.job}}")) t has.1 in
    let same : found ≡ refers (codes "job") ∷ [] =
    (one_list offsets (codes "{{$labels.job}}")).value found (refers (codes "job") ∷ []) (subst (λ (z : Template). References z.from z.text found) (sym one) refers_to) job_is_named in
    let is : refers (codes "job") ≡ reference = only_one (refers (codes "job")) reference (subst (λ (l : List Reference). Contains l reference) same is_in) in
    let none : may_be_present (u (tells (codes "{{$labels.job}}") ∷ [])) (row (tells (codes "{{$labels.job}}") ∷ [])) (codes "job") ≡ false =
    ap (λ (z : Reference). may_be_present (u (tells (codes "{{$labels.job}}") ∷ [])) (row (tells (codes "{{$labels.job}}") ∷ [])) z.label) is ∙ impossible.1 in
    true≢false none
may_be_there f (inr (t, breach, has, breaks, e)) =
    let one : tells (codes "{{$labels.job}}") ≡ t = only_one (tells (codes "{{$labels.job}}")) t has.1 in
    (one_list offsets (codes "{{$labels.job}}")).one (refers (codes "job") ∷ []) breach job_is_named (subst (λ (z : Template). Breaks z.from z.text breach) (sym one) breaks)

-- an alert that never has a sample: `foo{a="x",a="y"} > 1`. Nothing is said of the labels that its templates name
abbrev never : List Template → RuleTree
never templates = alert (high (selector (codes "foo") (asks (codes "a") Matched (codes "x") ∷ asks (codes "a") Matched (codes "y") ∷ []))) templates

abbrev FoundOfNever : Template → Finding → Type 0
FoundOfNever t f = alert_template.IsFound (universe_of (never (t ∷ []) ∷ [])) (rule_row (universe_of (never (t ∷ []) ∷ [])) [] (never (t ∷ []))) (never (t ∷ [])) f

nothing_of_never : (f : Finding) → FoundOfNever (tells (codes "{{$labels.job}}")) f → ⊥
nothing_of_never f (inl (t, reference, has, refers_to, impossible, e)) = true≢false (sym impossible.0)
nothing_of_never f (inr (t, breach, has, breaks, e)) =
    let one : tells (codes "{{$labels.job}}") ≡ t = only_one (tells (codes "{{$labels.job}}")) t has.1 in
    (one_list offsets (codes "{{$labels.job}}")).one (refers (codes "job") ∷ []) breach job_is_named (subst (λ (z : Template). Breaks z.from z.text breach) (sym one) breaks)

-- but `{{end}}`, which ends no body, is told of it too
abbrev end_alone : List TemplatePiece
end_alone = Braced (record { token = tokens.Word words.End; text = codes "end" } ∷ []) ∷ []

ends_nothing : Breaks offsets (codes "{{end}}") (fault BadAction (span 0 7))
unfolding begins_label is_digit is_in_label is_letter word_of
ends_nothing = record {
  pieces = end_alone;
  rest = [];
  source = refl;
  are_pieces = ((refl, a_word 101 (codes "nd") refl (refl, refl, refl) refl, tt), tt);
  stops = inl refl;
  breach = flawed (record { lexemes = record { token = tokens.Word words.End; len = 3 } ∷ []; start = 0; end = 7 }) refl refl;
}

unreadable : FoundOfNever (tells (codes "{{end}}")) (finding AlertTemplate (span 0 7) (codes "the template can't be read"))
unreadable = inr (tells (codes "{{end}}"), fault BadAction (span 0 7), (refl, here (tells (codes "{{end}}")) []), ends_nothing, refl)

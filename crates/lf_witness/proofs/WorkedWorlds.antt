-- A run and a whole world by hand: two series `foo`, with `a` and `b` as `job`, and one `bar`; and three rules that read one another.
use Rattle.std.proofs.Common.{◌≡◌, ◌≢◌, inl, inr, false, List, [], ◌∷◌, ◌++◌, map, Some, codes, refl, sym, ap, ◌∙◌, subst, true≢false}
use Rattle.std.proofs.lemmas.List.Elements.{Contains-append_cases, Contains-append_right}
use Rattle.std.specs.List.{Contains}
use Rattle.std.specs.Str.{bytes_eq}
use Rattle.lf_laws.proofs.Members.{behind, first_or_behind, here, in_map, map_member, only_one, same_true}
use Rattle.lf_ast.specs.Labels.{Bytes, Labels}
use Rattle.lf_ast.specs.Rules.{RuleTree}
use Rattle.lf_ast.specs.Selectors.{metric}
use Rattle.lf_ast.specs.declared.expr.Matching.{Matching}
use Rattle.lf_ast.specs.declared.expr.Op.TheVariants.{Add}
use Rattle.lf_semantics.specs.Evaluation.{bare}
use Rattle.lf_semantics.specs.Grouped.{out, without_name}
use Rattle.lf_semantics.specs.Texts.{HasTexts, value_of, with_label}
use Rattle.lf_semantics.specs.Worlds.{AreScraped, IsSample, Step, World, stored}
use Rattle.lf_semantics.proofs.GivenTexts.{bare_has_texts}
use Rattle.lf_semantics.proofs.Kept.{with_label_has_texts}
use Rattle.lf_semantics.proofs.LabelTexts.{value-with_label, value-without_name}
use Rattle.lf_semantics.proofs.Written.{between, call, record_rule, selector, text}
use Rattle.lf_witness.specs.Strict.{Coincide, StrictlyEvaluates}
use Rattle.lf_witness.specs.StrictRuns.{AreStrictSteps, StrictlyStored}
use Rattle.lf_witness.proofs.SameSets.{same_itself}
use Rattle.lf_witness.proofs.StrictRunIsRun.{step_of, strict_steps_run}
use Rattle.lf_witness.proofs.WorkedStrict.{apart, gives_abs, gives_foo, gives_joined, gives_sum, joined, made, many}

-- the series

abbrev job : Bytes
job = codes "job"

abbrev of_job : Bytes → Labels
of_job j = with_label metric (codes "foo") (with_label job j bare)

abbrev first : Labels
first = of_job (codes "a")

abbrev second : Labels
second = of_job (codes "b")

abbrev other : Labels
other = with_label metric (codes "bar") bare

abbrev foos : List Labels
foos = first ∷ second ∷ []

abbrev series : List Labels
series = first ∷ second ∷ other ∷ []

is_foo : (j : Bytes) → value_of (of_job j) metric ≡ codes "foo"
is_foo j = value-with_label metric (codes "foo") (with_label job j bare) metric

is_bar : value_of other metric ≡ codes "bar"
is_bar = value-with_label metric (codes "bar") bare metric

has_job : (j : Bytes) → value_of (of_job j) job ≡ j
has_job j = value-with_label metric (codes "foo") (with_label job j bare) job ∙ value-with_label job j bare job

a_is_no_b : codes "a" ≢ codes "b"
a_is_no_b e = true≢false (sym (same_true (codes "a") (codes "b") e))

-- what keeps the job keeps both apart
still_two : (f : Labels → Labels) → ((s : Labels) → value_of (f s) job ≡ value_of s job) → f first ≢ f second
still_two f keeps e = a_is_no_b (sym (has_job (codes "a")) ∙ sym (keeps first) ∙ ap (λ s. value_of s job) e ∙ keeps second ∙ has_job (codes "b"))

two : first ≢ second
two = still_two (λ s. s) (λ s. refl)

gives_series : StrictlyEvaluates series (selector (codes "foo") []) (Some foos)
gives_series = gives_foo first second other (is_foo (codes "a")) (is_foo (codes "b")) is_bar two

-- what a case of `WorkedStrict` asks of two samples is true of these: their results differ as their jobs do
abs_differs : without_name first ≢ without_name second
abs_differs = still_two without_name (λ s. value-without_name s job)

abs_here : StrictlyEvaluates series (call (codes "abs") (selector (codes "foo") [] ∷ [])) (Some (map without_name foos))
abs_here = gives_abs first second other (is_foo (codes "a")) (is_foo (codes "b")) is_bar two abs_differs

abbrev joined_here : Labels → Labels
joined_here = joined first second other (is_foo (codes "a")) (is_foo (codes "b")) is_bar two

joined_differs : joined_here first ≢ joined_here second
joined_differs = still_two joined_here (λ s. value-with_label (codes "d") _ s job)

label_join_here : StrictlyEvaluates series (call (codes "label_join") (selector (codes "foo") [] ∷ text (codes "d") ∷ text (codes "-") ∷ text (codes "a") ∷ text (codes "b") ∷ [])) (Some (map joined_here foos))
label_join_here = gives_joined first second other (is_foo (codes "a")) (is_foo (codes "b")) is_bar two joined_differs

abbrev many_here : Matching
many_here = many first second other (is_foo (codes "a")) (is_foo (codes "b")) is_bar two []

sum_here : StrictlyEvaluates series (between Add many_here (selector (codes "foo") []) (selector (codes "bar") [])) (Some (map (λ s. out Add many_here s other) foos))
sum_here = gives_sum first second other (is_foo (codes "a")) (is_foo (codes "b")) is_bar two (still_two (λ s. out Add many_here s other) (λ s. value-without_name s job))

-- the rules

abbrev records : Bytes → Bytes → RuleTree
records name reads = record_rule name [] (selector reads [])

abbrev rule_a : RuleTree
rule_a = records (codes "a:foo") (codes "foo")

abbrev rule_b : RuleTree
rule_b = records (codes "b:foo") (codes "a:foo")

abbrev rule_c : RuleTree
rule_c = records (codes "c:foo") (codes "b:foo")

abbrev rules : List RuleTree
rules = rule_a ∷ rule_b ∷ rule_c ∷ []

-- what they store
abbrev stored_a : List Labels
stored_a = map (stored rule_a) foos

abbrev stored_b : List Labels
stored_b = map (stored rule_b) stored_a

-- names that are told apart

name_stored : (name reads : Bytes) (s : Labels) → value_of (stored (records name reads) s) metric ≡ name
name_stored name reads s = value-with_label metric name s metric

job_stored : (name reads : Bytes) (s : Labels) → value_of (stored (records name reads) s) job ≡ value_of s job
job_stored name reads s = value-with_label metric name s job

abbrev Nowhere : List Labels → Bytes → Type 0
Nowhere U name = (s : Labels) → Contains U s → value_of s metric ≢ name

not_scraped : (name : Bytes) → codes "foo" ≢ name → codes "bar" ≢ name → Nowhere series name
not_scraped name no_foo no_bar s c is = elim (first_or_behind first (second ∷ other ∷ []) s c) [
  | inl e ↦ no_foo (sym (is_foo (codes "a")) ∙ ap (λ z. value_of z metric) e ∙ is)
  | inr later ↦ elim (first_or_behind second (other ∷ []) s later) [
    | inl e ↦ no_foo (sym (is_foo (codes "b")) ∙ ap (λ z. value_of z metric) e ∙ is)
    | inr last ↦ no_bar (sym is_bar ∙ ap (λ z. value_of z metric) (only_one other s last) ∙ is)
  ]
]

not_stored : (under reads name : Bytes) (P : List Labels) → under ≢ name → Nowhere (map (stored (records under reads)) P) name
not_stored under reads name P differs s c is =
    let from = map_member (stored (records under reads)) P s c in
    differs (sym (name_stored under reads from.0) ∙ ap (λ z. value_of z metric) (sym from.2) ∙ is)

nowhere_in_both : (U V : List Labels) (name : Bytes) → Nowhere U name → Nowhere V name → Nowhere (U ++ V) name
nowhere_in_both U V name left right s c is = elim (Contains-append_cases U V s c) [ inl old ↦ left s old is | inr new ↦ right s new is ]

-- a selector of a recorded name gives what was stored under it
gives_stored : (name reads : Bytes) (U P : List Labels) → Nowhere U name → StrictlyEvaluates (U ++ map (stored (records name reads)) P) (selector name []) (Some (map (stored (records name reads)) P))
gives_stored name reads U P nowhere = (
  λ s c named _. elim (Contains-append_cases U (map (stored (records name reads)) P) s c) [
    | inl old ↦ absurd (nowhere s old named)
    | inr new ↦ new
  ],
  λ s c. (
      let from = map_member (stored (records name reads)) P s c in
      (Contains-append_right U (map (stored (records name reads)) P) s c, ap (λ z. value_of z metric) from.2 ∙ name_stored name reads from.0, tt)
      ),
)

different : (x y : Bytes) → bytes_eq x y ≡ false → x ≢ y
different x y other e = true≢false (sym (same_true x y e) ∙ other)

no_a : Nowhere series (codes "a:foo")
no_a = not_scraped (codes "a:foo") (different _ _ refl) (different _ _ refl)

no_b : Nowhere (series ++ stored_a) (codes "b:foo")
no_b = nowhere_in_both series stored_a (codes "b:foo") (not_scraped (codes "b:foo") (different _ _ refl) (different _ _ refl)) (not_stored (codes "a:foo") (codes "foo") (codes "b:foo") foos (different _ _ refl))

gives_a : StrictlyEvaluates (series ++ stored_a) (selector (codes "a:foo") []) (Some stored_a)
gives_a = gives_stored (codes "a:foo") (codes "foo") series foos no_a

gives_b : StrictlyEvaluates ((series ++ stored_a) ++ stored_b) (selector (codes "b:foo") []) (Some stored_b)
gives_b = gives_stored (codes "b:foo") (codes "a:foo") (series ++ stored_a) stored_a no_b

-- a run of two steps

apart_foos : (f : Labels → Labels) → f first ≢ f second → Coincide (λ s r. r ≡ f s) foos → ⊥
apart_foos f differ = apart first second other (is_foo (codes "a")) (is_foo (codes "b")) is_bar two f differ

stores_a : Coincide (λ s r. r ≡ stored rule_a s) foos → ⊥
stores_a = apart_foos (stored rule_a) (still_two (stored rule_a) (job_stored (codes "a:foo") (codes "foo")))

stores_b : Coincide (λ s r. r ≡ stored rule_b s) stored_a → ⊥
stores_b (s, t, r, of_s, of_t, differ, from_s, from_t) =
    let u = map_member (stored rule_a) foos s of_s in
    let v = map_member (stored rule_a) foos t of_t in
    apart_foos both (still_two both (λ z. job_stored (codes "b:foo") (codes "a:foo") (stored rule_a z) ∙ job_stored (codes "a:foo") (codes "foo") z))
    (u.0, v.0, r, u.1, v.1, (λ same. differ (u.2 ∙ ap (stored rule_a) same ∙ sym v.2)), from_s ∙ ap (stored rule_b) u.2, from_t ∙ ap (stored rule_b) v.2)
  where
    both : Labels → Labels
    both z = stored rule_b (stored rule_a z)

gives_run : StrictlyStored series (rule_a ∷ rule_b ∷ []) (Some ((series ++ stored_a) ++ stored_b))
gives_run = inr (
  stored_a,
  inr (foos, inr (refl, gives_series), (made (stored rule_a) foos, stores_a)),
  inr (stored_b, inr (stored_a, inr (refl, gives_a), (made (stored rule_b) stored_a, stores_b)), same_itself ((series ++ stored_a) ++ stored_b)),
)

-- a world

each_series : (P : Labels → Type 0) → P first → P second → P other → (s : Labels) → Contains series s → P s
each_series P of_first of_second of_other s c = elim (first_or_behind first (second ∷ other ∷ []) s c) [
  | inl e ↦ subst P e of_first
  | inr later ↦ elim (first_or_behind second (other ∷ []) s later) [
    | inl e ↦ subst P e of_second
    | inr last ↦ subst P (only_one other s last) of_other
  ]
]

each_rule : (P : RuleTree → Type 0) → P rule_a → P rule_b → P rule_c → (r : RuleTree) → Contains rules r → P r
each_rule P of_a of_b of_c r c = elim (first_or_behind rule_a (rule_b ∷ rule_c ∷ []) r c) [
  | inl e ↦ subst P e of_a
  | inr later ↦ elim (first_or_behind rule_b (rule_c ∷ []) r later) [
    | inl e ↦ subst P e of_b
    | inr last ↦ subst P (only_one rule_c r last) of_c
  ]
]

full_job : (j : Bytes) → HasTexts (of_job j)
full_job j = with_label_has_texts metric (codes "foo") (with_label job j bare) (with_label_has_texts job j bare bare_has_texts)

full_series : (s : Labels) → Contains series s → HasTexts s
full_series = each_series HasTexts (full_job (codes "a")) (full_job (codes "b")) (with_label_has_texts metric (codes "bar") bare bare_has_texts)

no_c : Nowhere series (codes "c:foo")
no_c = not_scraped (codes "c:foo") (different _ _ refl) (different _ _ refl)

no_b_scraped : Nowhere series (codes "b:foo")
no_b_scraped = not_scraped (codes "b:foo") (different _ _ refl) (different _ _ refl)

scraped : AreScraped rules series
scraped s c = (
  full_series s c,
  not_scraped [] (different _ _ refl) (different _ _ refl) s c,
  λ r known recording. each_rule (λ r. value_of s metric ≢ r.name) (no_a s c) (no_b_scraped s c) (no_c s c) r known,
)

abbrev steps : List Step
steps = step_of rule_a foos ∷ step_of rule_b stored_a ∷ step_of rule_c stored_b ∷ []

strict : AreStrictSteps series steps
strict = (inr (refl, gives_series), (inr (refl, gives_a), (inr (refl, gives_b), tt)))

in_a : Contains rules rule_a
in_a = here rule_a (rule_b ∷ rule_c ∷ [])

in_b : Contains rules rule_b
in_b = behind rule_a (rule_b ∷ rule_c ∷ []) rule_b (here rule_b (rule_c ∷ []))

in_c : Contains rules rule_c
in_c = behind rule_a (rule_b ∷ rule_c ∷ []) rule_c (behind rule_b (rule_c ∷ []) rule_c (here rule_c []))

each_step : (step : Step) → Contains steps step → Contains rules step.rule
each_step step c = elim (first_or_behind (step_of rule_a foos) (step_of rule_b stored_a ∷ step_of rule_c stored_b ∷ []) step c) [
  | inl e ↦ subst (λ (z : Step). Contains rules z.rule) e in_a
  | inr later ↦ elim (first_or_behind (step_of rule_b stored_a) (step_of rule_c stored_b ∷ []) step later) [
    | inl e ↦ subst (λ (z : Step). Contains rules z.rule) e in_b
    | inr last ↦ subst (λ (z : Step). Contains rules z.rule) (only_one (step_of rule_c stored_b) step last) in_c
  ]
]

abbrev world : World rules
world = record {
  series = series;
  steps = steps;
  scraped = scraped;
  run = strict_steps_run rules steps series series [] each_step (λ s c. inl c) strict;
}

-- each rule has a sample there, made of the first series
sample_of_a : IsSample world rule_a first
sample_of_a = (step_of rule_a foos, here (step_of rule_a foos) (step_of rule_b stored_a ∷ step_of rule_c stored_b ∷ []), refl, here first (second ∷ []))

sample_of_b : IsSample world rule_b (stored rule_a first)
sample_of_b = (
  step_of rule_b stored_a,
  behind (step_of rule_a foos) (step_of rule_b stored_a ∷ step_of rule_c stored_b ∷ []) (step_of rule_b stored_a) (here (step_of rule_b stored_a) (step_of rule_c stored_b ∷ [])),
  refl,
  in_map (stored rule_a) foos first (here first (second ∷ [])),
)

sample_of_c : IsSample world rule_c (stored rule_b (stored rule_a first))
sample_of_c = (
  step_of rule_c stored_b,
  behind (step_of rule_a foos) (step_of rule_b stored_a ∷ step_of rule_c stored_b ∷ []) (step_of rule_c stored_b)
      (behind (step_of rule_b stored_a) (step_of rule_c stored_b ∷ []) (step_of rule_c stored_b) (here (step_of rule_c stored_b) [])),
  refl,
  in_map (stored rule_b) stored_a (stored rule_a first) (in_map (stored rule_a) foos first (here first (second ∷ []))),
)

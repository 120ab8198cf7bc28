-- The law of dependence at worked expressions, and that it needs its premise.
use Rattle.std.proofs.Common.{◌≡◌, ◌≢◌, inl, inr, false, true≢false, List, [], ◌∷◌, Some, None, codes, refl, sym, ◌∙◌, subst}
use Rattle.std.specs.List.{Contains}
use Rattle.lf_laws.proofs.Members.{behind, each_member, first_or_behind, here, none_in, only_one, same_true}
use Rattle.lf_ast.specs.Functions.{function_named, functions}
use Rattle.lf_ast.specs.Labels.{Bytes, Labels}
use Rattle.lf_ast.specs.Rules.{RuleTree}
use Rattle.lf_ast.specs.Selectors.{metric}
use Rattle.lf_ast.specs.Tree.{Tree}
use Rattle.lf_ast.specs.declared.expr.Group.TheVariants.{One}
use Rattle.lf_ast.specs.declared.expr.MatchOp.TheVariants.{Equal}
use Rattle.lf_ast.specs.declared.expr.Matching.{Matching}
use Rattle.lf_ast.specs.declared.expr.Op.TheVariants.{And, Greater}
use Rattle.lf_semantics.specs.Evaluation.{bare}
use Rattle.lf_semantics.specs.Grouped.{SameSignature}
use Rattle.lf_semantics.specs.Texts.{value_of, with_label}
use Rattle.lf_semantics.proofs.LabelTexts.{value-with_label}
use Rattle.lf_semantics.proofs.Written.{asks, between, call, matching, record_rule, selector, selects, sight, unmodified}
use Rattle.lf_witness.specs.Strict.{StrictlyEvaluates}
use Rattle.lf_witness.specs.StrictRuns.{IsStrictAnswer}
use Rattle.lf_witness.proofs.AscendingLists.{alone_ascends}
use Rattle.lf_deps.specs.Reading.{Reads}
use Rattle.lf_open.specs.Constructs.{SaysNoName}
use Rattle.lf_semantics.specs.Standing.{standing}
use Rattle.lf_shown.specs.Agreement.{AgreeOn}
use Rattle.lf_dependence.specs.Dependence.{DependsOnlyOn, EachSaysName, OwnNames}
use Rattle.lf_dependence.proofs.Dependence.{depends_on_own}

abbrev foo : Tree
foo = selector (codes "foo") []

abbrev bar : Tree
bar = selector (codes "bar") []

abbrev baz : Tree
baz = selector (codes "baz") []

abbrev job : Bytes
job = codes "job"

-- `{job="a"}`, which leaves the metric name open
abbrev nameless : Tree
nameless = selects None (asks job Equal (codes "a") ∷ []) (sight None None)

foo_is_no_bar : codes "foo" ≢ codes "bar"
foo_is_no_bar e = true≢false (sym (same_true (codes "foo") (codes "bar") e))

foo_is_no_baz : codes "foo" ≢ codes "baz"
foo_is_no_baz e = true≢false (sym (same_true (codes "foo") (codes "baz") e))

bar_is_no_baz : codes "bar" ≢ codes "baz"
bar_is_no_baz e = true≢false (sym (same_true (codes "bar") (codes "baz") e))

recorded_is_no_baz : codes "a:foo" ≢ codes "baz"
recorded_is_no_baz e = true≢false (sym (same_true (codes "a:foo") (codes "baz") e))

-- `foo > scalar({job="a"}) and on () bar` reads foo and bar: what stands in the scalar counts for nothing, not even that it says no name

abbrev on_none : Matching
on_none = matching false (Some []) None One []

abbrev guarded : Tree
guarded = between And on_none (between Greater unmodified foo (call (codes "scalar") (nameless ∷ []))) bar

guarded_says : EachSaysName [] guarded
unfolding function_named functions
guarded_says part c =
    each_member (λ (p : Tree). SaysNoName [] p → ⊥) (standing guarded) part
    ((λ no. no), ((λ no. no), ((λ (none : Some (codes "foo") ≡ None). absurd (cc)), ((λ (none : Some (codes "bar") ≡ None). absurd (cc)), tt)))) c

only_foo_and_bar : (name : Bytes) → OwnNames guarded name → name ≢ codes "baz"
unfolding function_named functions
only_foo_and_bar name c baz = elim (first_or_behind (Some (codes "foo")) (Some (codes "bar") ∷ []) (Some name) c) [
  | inl e ↦ let is : codes "foo" ≡ name = cc in foo_is_no_baz (is ∙ baz)
  | inr later ↦ let e = only_one (Some (codes "bar")) (Some name) later in let is : codes "bar" ≡ name = cc in bar_is_no_baz (is ∙ baz)
]

module _ (x b z : Labels) (x_is : value_of x metric ≡ codes "foo") (b_is : value_of b metric ≡ codes "bar") (z_is : value_of z metric ≡ codes "baz") where
  abbrev W : List Labels
  W = x ∷ b ∷ []

  -- the same in another order, and a sample of baz
  abbrev V : List Labels
  V = z ∷ b ∷ x ∷ []

  of_W : (P : Labels → Type 0) → P x → P b → (s : Labels) → Contains W s → P s
  of_W P of_x of_b s c = elim (first_or_behind x (b ∷ []) s c) [
    | inl e ↦ subst P e of_x
    | inr later ↦ subst P (only_one b s later) of_b
  ]

  of_V : (P : Labels → Type 0) → P z → P b → P x → (s : Labels) → Contains V s → P s
  of_V P of_z of_b of_x s c = elim (first_or_behind z (b ∷ x ∷ []) s c) [
    | inl e ↦ subst P e of_z
    | inr later ↦ elim (first_or_behind b (x ∷ []) s later) [
      | inl e ↦ subst P e of_b
      | inr last ↦ subst P (only_one x s last) of_x
    ]
  ]

  agree : AgreeOn (OwnNames guarded) W V
  agree s own = (
    of_W (Contains V) (behind z (b ∷ x ∷ []) x (behind b (x ∷ []) x (here x []))) (behind z (b ∷ x ∷ []) b (here b (x ∷ []))) s,
    λ c. of_V (λ t. OwnNames guarded (value_of t metric) → Contains W t) (λ read. absurd (only_foo_and_bar (value_of z metric) read z_is)) (λ _. behind x (b ∷ []) b (here b [])) (λ _. here x (b ∷ [])) s c own,
  )

  gives_foo : StrictlyEvaluates W foo (Some (x ∷ []))
  gives_foo = (
    of_W (λ s. value_of s metric ≡ codes "foo" → Unit {0} → Contains (x ∷ []) s) (λ _ _. here x []) (λ is _. absurd (foo_is_no_bar (sym is ∙ b_is))),
    λ s c. subst (λ t. Contains W t × (value_of t metric ≡ codes "foo") × Unit {0}) (only_one x s c) (here x (b ∷ []), x_is, tt),
  )

  gives_bar : StrictlyEvaluates W bar (Some (b ∷ []))
  gives_bar = (
    of_W (λ s. value_of s metric ≡ codes "bar" → Unit {0} → Contains (b ∷ []) s) (λ is _. absurd (foo_is_no_bar (sym x_is ∙ is))) (λ _ _. here b []),
    λ s c. subst (λ t. Contains W t × (value_of t metric ≡ codes "bar") × Unit {0}) (only_one b s c) (behind x (b ∷ []) b (here b []), b_is, tt),
  )

  alike : (s t : Labels) → SameSignature on_none s t
  alike s t label signs = absurd (true≢false (sym signs))

  -- over the one samples the answer is the sample of foo
  gives_guarded : IsStrictAnswer W guarded (Some (x ∷ []))
  unfolding function_named functions
  gives_guarded = (inr (x ∷ [], gives_foo, inr (b ∷ [], gives_bar, (λ s c partner. c, λ s c. (c, (b, here b [], alike s b))))), alone_ascends x)

  -- and so it is over the other, by the law
  gives_guarded_too : IsStrictAnswer V guarded (Some (x ∷ []))
  gives_guarded_too = (depends_on_own [] guarded guarded_says W V agree (Some (x ∷ []))).0 gives_guarded

-- `a:foo`, where a rule records it of baz: the expression reads baz through the rule, and yet samples of baz change nothing beside what is stored as `a:foo`

abbrev recorded : Tree
recorded = selector (codes "a:foo") []

abbrev recording_rule : RuleTree
recording_rule = record_rule (codes "a:foo") [] baz

reads_baz : Reads (recording_rule ∷ []) recorded (codes "baz")
reads_baz = Reads.through recording_rule (here recording_rule []) refl (inl (here (Some (codes "a:foo")) [])) (Reads.selected (inl (here (Some (codes "baz")) [])))

recorded_says : EachSaysName (recording_rule ∷ []) recorded
recorded_says part c = each_member (λ (p : Tree). SaysNoName (recording_rule ∷ []) p → ⊥) (standing recorded) part ((λ (none : Some (codes "a:foo") ≡ None). absurd (cc)), tt) c

module _ (x z : Labels) (x_is : value_of x metric ≡ codes "a:foo") (z_is : value_of z metric ≡ codes "baz") where
  agree_on_recorded : AgreeOn (OwnNames recorded) (x ∷ []) (x ∷ z ∷ [])
  agree_on_recorded s own = (
    λ c. subst (Contains (x ∷ z ∷ [])) (only_one x s c) (here x (z ∷ [])),
    λ c. elim (first_or_behind x (z ∷ []) s c) [
      | inl e ↦ subst (Contains (x ∷ [])) e (here x [])
      | inr later ↦
          let e = only_one (Some (codes "a:foo")) (Some (value_of s metric)) own in
          let is : codes "a:foo" ≡ value_of s metric = cc in
          absurd (recorded_is_no_baz (is ∙ subst (λ t. value_of t metric ≡ codes "baz") (only_one z s later) z_is))
    ],
  )

  gives_recorded : IsStrictAnswer (x ∷ []) recorded (Some (x ∷ []))
  gives_recorded = ((λ s c named passes. c, λ s c. (c, subst (λ t. value_of t metric ≡ codes "a:foo") (only_one x s c) x_is, tt)), alone_ascends x)

  gives_recorded_too : IsStrictAnswer (x ∷ z ∷ []) recorded (Some (x ∷ []))
  gives_recorded_too = (depends_on_own (recording_rule ∷ []) recorded recorded_says (x ∷ []) (x ∷ z ∷ []) agree_on_recorded (Some (x ∷ []))).0 gives_recorded

-- `{job="a"}` where no scalar is around it: it reads no name, and its answer is another where one sample more is stored. So the law needs its premise

reads_nothing : (name : Bytes) → Reads [] nameless name → ⊥
reads_nothing name (Reads.selected (inl c)) = let e = only_one None (Some name) c in absurd (cc)
reads_nothing name (Reads.selected (inr (c, d))) = none_in name d
reads_nothing name (Reads.through r c recording selects reads) = none_in r c

abbrev of_name : Bytes → Labels
of_name name = with_label metric name (with_label job (codes "a") bare)

has_name : (name : Bytes) → value_of (of_name name) metric ≡ name
has_name name = value-with_label metric name (with_label job (codes "a") bare) metric

has_job : (name : Bytes) → value_of (of_name name) job ≡ codes "a"
has_job name = value-with_label metric name (with_label job (codes "a") bare) job ∙ value-with_label job (codes "a") bare job

abbrev one : Labels
one = of_name (codes "foo")

abbrev more : Labels
more = of_name (codes "bar")

gives_nameless : IsStrictAnswer (one ∷ []) nameless (Some (one ∷ []))
gives_nameless = ((λ s c named passes. c, λ s c. (c, tt, (subst (λ t. value_of t job ≡ codes "a") (only_one one s c) (has_job (codes "foo")), tt))), alone_ascends one)

needs_names : DependsOnlyOn (Reads [] nameless) nameless → ⊥
needs_names depends =
    let too = (depends (one ∷ []) (one ∷ more ∷ []) (λ s read. absurd (reads_nothing (value_of s metric) read)) (Some (one ∷ []))).0 gives_nameless in
    let c : Contains (one ∷ []) more = too.0.0 more (behind one (more ∷ []) more (here more [])) tt (has_job (codes "bar"), tt) in
    foo_is_no_bar (sym (has_name (codes "foo")) ∙ subst (λ t. value_of t metric ≡ codes "bar") (sym (only_one one more c)) (has_name (codes "bar")))

-- The metric name is unresolved of the rule of `WorkedEmptyRow`: its row leaves both presences, no world is built for a name, and in the uniform world no sample has one. As the
-- rule reads no recorded name, the environment may be empty.
use Rattle.std.proofs.Common.{◌≡◌, ◌∙◌, inl, inr, ℕ, Bool, true, false, List, [], ◌∷◌, Option, Some, None, codes, is_some, refl, sym, ap, ap₂, subst, true≢false, slice_get}
use Rattle.std.specs.Fmt.{digits}
use Rattle.std.specs.List.{Contains, list_any}
use Rattle.std.specs.Str.{bytes_eq}
use Rattle.lf_laws.proofs.Booleans.{clash}
use Rattle.lf_laws.proofs.Members.{any_has, first_or_behind, here, only_one, same_true}
use Rattle.lf_laws.proofs.Slices.{member_at}
use Rattle.lf_laws.proofs.Options.{same_option}
use Rattle.lf_ast.specs.Labels.{Bytes, Labels}
use Rattle.lf_ast.specs.Rules.{RuleTree}
use Rattle.lf_ast.specs.Selectors.{metric}
use Rattle.lf_ast.specs.Tree.{Tree}
use Rattle.lf_ast.specs.declared.expr.Grouping.TheVariants.{None as Ungrouped}
use Rattle.lf_deps.specs.Reading.{Reads, Reaches, SelectsBy, selectors}
use Rattle.lf_semantics.specs.Environments.{rule_row}
use Rattle.lf_semantics.specs.Evaluation.{bare}
use Rattle.lf_semantics.specs.Grouped.{is_grouped_by}
use Rattle.lf_semantics.specs.Texts.{value_of}
use Rattle.lf_semantics.proofs.LabelTexts.{value-bare, value-with_label}
use Rattle.lf_semantics.proofs.Restricted.{value-restricted}
use Rattle.lf_semantics.proofs.Written.{paren}
use Rattle.lf_trials.specs.Built.{building_of}
use Rattle.lf_trials.specs.Candidates.{has_presence}
use Rattle.lf_trials.specs.Forks.{HoldsFork, TellsForks, has_own_fork}
use Rattle.lf_trials.specs.Reached.{IsReach, Trial}
use Rattle.lf_trials.specs.Trials.{IsNotShown, Shown, ShowsBuilt, ShowsUniform}
use Rattle.lf_trials.specs.Uniform.{IsUniform}
use Rattle.lf_trials.specs.Verdicts.{IsLabelVerdict, Unresolved}
use Rattle.lf_trials.proofs.OneVerdict.{uniform_trial}
use Rattle.lf_trials.proofs.ShownInWorlds.{found_in}
use Rattle.lf_trials.proofs.WorkedBuilt.{labelled}
use Rattle.lf_trials.proofs.WorkedEmptyRow.{conjoined, either, left, never, rule, u}
use Rattle.lf_witness.specs.Strict.{AreSame}
use Rattle.lf_witness.specs.StrictRuns.{IsRuleAnswer, IsRunAnswer, RuleStrictlyGives, rules_at}

abbrev rules : List RuleTree
rules = rule ∷ []

-- an expression with selectors of other names alone reads nothing that is recorded

abbrev is_recording : Option Bytes → Bool
is_recording None = true
is_recording (Some name) = bytes_eq name (codes "r:r")

name_of : (r : RuleTree) → Contains rules r → r.name ≡ codes "r:r"
name_of r c = sym (ap (λ (z : RuleTree). z.name) (only_one rule r c))

selects_none : (found : List (Option Bytes)) → list_any is_recording found ≡ false → SelectsBy rules found (codes "r:r") → ⊥
selects_none found none (inl said) = clash (list_any is_recording found) (any_has is_recording found (Some (codes "r:r")) said refl) none
selects_none found none (inr unsaid) = clash (list_any is_recording found) (any_has is_recording found None unsaid.0 refl) none

reads_none : (e : Tree) → list_any is_recording (selectors e) ≡ false → Reads rules e (codes "r:r") → ⊥
reads_none e none (Reads.selected s) = selects_none (selectors e) none s
reads_none e none (Reads.through r c recording s reads) = selects_none (selectors e) none (subst (SelectsBy rules (selectors e)) (name_of r c) s)

reaches_none : (e : Tree) → list_any is_recording (selectors e) ≡ false → (r : RuleTree) → Contains rules r → Reaches rules e r → ⊥
reaches_none e none r c reaches = reads_none e none (subst (Reads rules e) (name_of r c) reaches.1)

reach_is : (reach : List ℕ) → IsReach rules rule.expr reach → reach ≡ []
reach_is [] is = refl
reach_is (k ∷ reach) is = let m = (is.members k).0 (here k reach) in absurd (reaches_none rule.expr refl m.0 (member_at rules k m.0 m.1) m.2)

-- the uniform world

abbrev series : List Labels
series = labelled ((metric, codes "foo") ∷ []) ∷ labelled ((metric, codes "bar") ∷ []) ∷ labelled ((metric, codes "zzz") ∷ []) ∷ []

abbrev three : Trial
three = record { series = series; steps = [] }

three_is : uniform_trial u [] rules 0 metric true rule [] ≡ three
unfolding digits
three_is = refl

trial_is : (t : Trial) → IsUniform u rules 0 metric true t → t ≡ three
trial_is t is =
    let same = same_option (slice_get rules 0) is.rule rule is.is_rule refl in
    let reach = reach_is is.reach (subst (λ (r : RuleTree). IsReach rules r.expr is.reach) same is.is_reach) in
    is.is_trial ∙ ap₂ (uniform_trial u [] rules 0 metric true) same reach ∙ three_is

-- its series have no `a`
lacks : (name : Bytes) (s : Labels) → labelled ((metric, name) ∷ []) ≡ s → value_of s (codes "a") ≡ []
lacks name s e = ap (λ (z : Labels). value_of z (codes "a")) (sym e) ∙ value-with_label metric name bare (codes "a") ∙ value-bare (codes "a")

all_lack : (s : Labels) → Contains series s → value_of s (codes "a") ≡ []
all_lack s there = elim (first_or_behind (labelled ((metric, codes "foo") ∷ [])) (labelled ((metric, codes "bar") ∷ []) ∷ labelled ((metric, codes "zzz") ∷ []) ∷ []) s there) [
  | inl e ↦ lacks (codes "foo") s e
  | inr later ↦ elim (first_or_behind (labelled ((metric, codes "bar") ∷ [])) (labelled ((metric, codes "zzz") ∷ []) ∷ []) s later) [
    | inl e ↦ lacks (codes "bar") s e
    | inr last ↦ lacks (codes "zzz") s (only_one _ s last)
  ]
]

no_one : (text : Bytes) → text ≡ [] → text ≡ codes "1" → ⊥
no_one text empty one = true≢false (sym (same_true (codes "1") [] (sym one ∙ empty)))

-- so `and` gives nothing, and what `sum` gives has no name
nameless : (W : List Labels) → AreSame series W → (R : List Labels) → RuleStrictlyGives W rule (Some R) → (s : Labels) → Contains R s → value_of s metric ≡ []
nameless W same R (inl (other, none)) s there = absurd none
nameless W same R (inr (evaluated, inl (of, none))) s there = absurd none
nameless W same R (inr (evaluated, inr (P, of_left, inl (of, none)))) s there = absurd none
nameless W same R (inr (evaluated, inr (P, inl (of, none), inr rest))) s there = absurd none
nameless W same R (inr (evaluated, inr (P, inr (A, of_a, inl (of, none)), inr rest))) s there = absurd none
nameless W same R (inr (evaluated, inr (P, inr (A, of_a, inr (B, of_b, matched)), inr (Q, inl (of, none), combined)))) s there = absurd none
nameless W same R (inr (evaluated, inr (P, inr (A, of_a, inr (B, of_b, matched)), inr (Q, inr (Z, of_z, made), combined)))) s there = elim (combined.2 s there) [
  | inl among_left ↦ let (in_a, (partner, in_b, alike)) = matched.1 s among_left in
      let (stored, name, (one, more)) = of_b.1 partner in_b in
      absurd (no_one (value_of partner (codes "a")) (all_lack partner (same.1 partner stored)) one)
  | inr (among_right, alone) ↦ let (from, in_z, is) = made.1 s among_right in ap (λ (z : Labels). value_of z metric) is ∙ value-restricted (is_grouped_by Ungrouped) from metric
]

not_uniform : (shown : Shown) → ShowsUniform u [] rules 0 metric true shown → ⊥
not_uniform shown (is, shows) =
    let same_rule = same_option (slice_get rules 0) shows.rule rule shows.is_rule refl in
    let run : IsRunAnswer series [] (Some shows.stored) = subst (λ (t : Trial). IsRunAnswer t.series (rules_at rules t.steps) (Some shows.stored)) (trial_is shown.trial is) shows.is_stored in
    let gives : IsRuleAnswer shows.stored rule (Some shows.samples) = subst (λ (r : RuleTree). IsRuleAnswer shows.stored r (Some shows.samples)) same_rule shows.are_samples in
    let found = found_in (λ s. has_presence true (value_of s metric)) shows.samples shown.sample shows.is_sample in
    true≢false (sym found.1 ∙ ap (has_presence true) (nameless shows.stored run.0 shows.samples gives.0 shown.sample found.0))

-- no world is built, by any test of forks

module _ (holds_fork : Tree → Bool) (tells : TellsForks rules holds_fork) where
  same_test : (e : Tree) → list_any is_recording (selectors e) ≡ false → holds_fork e ≡ has_own_fork rules e
  same_test e none = by (holds_fork e) (has_own_fork rules e) refl refl
    where
      own : HoldsFork rules e → has_own_fork rules e ≡ true
      own (inl is) = is
      own (inr (r, c, reaches, is)) = absurd (reaches_none e none r c reaches)

      by : (a b : Bool) → holds_fork e ≡ a → has_own_fork rules e ≡ b → a ≡ b
      by true true of_a of_b = refl
      by false false of_a of_b = refl
      by true false of_a of_b = absurd (clash _ (own ((tells e).0 of_a)) of_b)
      by false true of_a of_b = absurd (clash _ ((tells e).1 (inl of_b)) of_a)

  none_built : building_of u [] rules holds_fork 0 rule metric true ≡ None
  unfolding digits
  none_built =
      simp (
        same_test rule.expr refl,
        same_test conjoined refl,
        same_test (paren conjoined) refl,
        same_test left refl,
        same_test (paren left) refl,
        same_test either refl,
        same_test (paren either) refl,
        same_test never refl,
      ) refl

not_built : (shown : Shown) → ShowsBuilt u [] rules 0 metric true shown → ⊥
not_built shown (is, shows) =
    let same = same_option (slice_get rules 0) is.rule rule is.is_rule refl in
    let at_rule : building_of u [] rules is.holds_fork 0 rule metric true ≡ Some is.built = subst (λ (r : RuleTree). building_of u [] rules is.holds_fork 0 r metric true ≡ Some is.built) same is.is_built in
    true≢false (sym (ap is_some (sym (none_built is.holds_fork is.tells_forks) ∙ at_rule)))

-- so both presences are left, and no trial shows that a sample has a name

name_not_shown : IsNotShown u [] rules 0 metric true
name_not_shown shown (inl built) = not_built shown built
name_not_shown shown (inr (none, uniform)) = not_uniform shown uniform

pub name_unresolved : IsLabelVerdict u [] rules 0 (rule_row u [] rule) metric Unresolved
name_unresolved = ((refl, refl), inl name_not_shown)

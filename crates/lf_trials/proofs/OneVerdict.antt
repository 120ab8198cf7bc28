-- A rule has one verdict at most: one built world, one uniform world, and one sample that each of them shows.
use Rattle.std.proofs.Common.{◌≡◌, ◌↔◌, inl, inr, ℕ, Bool, true, false, List, [], ◌∷◌, Some, refl, sym, ap, ap₂, ◌∙◌, subst, slice_get}
use Rattle.std.specs.List.{find}
use Rattle.std.proofs.lemmas.Option.{same_Some}
use Rattle.lf_laws.proofs.Ascending.{same_numbers}
use Rattle.lf_laws.proofs.Booleans.{clash}
use Rattle.lf_laws.proofs.Options.{same_option}
use Rattle.lf_ast.specs.Labels.{Bytes, Labels}
use Rattle.lf_ast.specs.Rules.{RuleTree}
use Rattle.lf_ast.specs.Tree.{Tree}
use Rattle.lf_semantics.specs.ClassRows.{Sets}
use Rattle.lf_semantics.specs.Environments.{rule_row}
use Rattle.lf_semantics.specs.Listing.{Listing}
use Rattle.lf_semantics.specs.RowTable.{Environment}
use Rattle.lf_semantics.specs.Texts.{value_of}
use Rattle.lf_trials.specs.Built.{IsBuilt, building_of, built_trial}
use Rattle.lf_trials.specs.Candidates.{has_presence, labels_in}
use Rattle.lf_trials.specs.Forks.{TellsForks}
use Rattle.lf_trials.specs.Reached.{IsReach, Trial, with_reach}
use Rattle.lf_trials.specs.Trials.{IsFirstShown, Shown, Shows}
use Rattle.lf_trials.specs.Selected.{selected_by}
use Rattle.lf_trials.specs.Uniform.{IsUniform, passes_over, uniform_series, uniform_texts}
use Rattle.lf_trials.specs.Verdicts.{Empty, Guaranteed, Impossible, IsLabelVerdict, IsRuleVerdict, AreLabelVerdicts, LabelVerdict, Possible, RuleVerdict, Unresolved}
use Rattle.lf_trials.specs.Verdicts as verdict
use Rattle.lf_witness.specs.StrictRuns.{IsRuleAnswer, rules_at}
use Rattle.lf_witness.proofs.Answers.{one_rule_answer, one_run_answer}

-- tests of one thing

one_bool : (P : Type 0) (a b : Bool) → (a ≡ true) ↔ P → (b ≡ true) ↔ P → a ≡ b
one_bool P true b one other = sym (other.1 (one.0 refl))
one_bool P false false one other = refl
one_bool P false true one other = one.1 (other.0 refl)

pub one_test : (rules : List RuleTree) (f g : Tree → Bool) → TellsForks rules f → TellsForks rules g → f ≡ g
one_test rules f g one other = λ i e. one_bool _ (f e) (g e) (one e) (other e) i

pub one_reach : (rules : List RuleTree) (e : Tree) (js ks : List ℕ) → IsReach rules e js → IsReach rules e ks → js ≡ ks
one_reach rules e js ks one other = same_numbers js ks one.ascending other.ascending (λ k c. (other.members k).1 ((one.members k).0 c)) (λ k c. (one.members k).1 ((other.members k).0 c))

-- worlds

module _ (u : Listing) (env : Environment) (rules : List RuleTree) (i : ℕ) (label : Bytes) (presence : Bool) where
  pub one_built : (t v : Trial) → IsBuilt u env rules i label presence t → IsBuilt u env rules i label presence v → t ≡ v
  one_built t v a b =
      let rule = same_option (slice_get rules i) a.rule b.rule a.is_rule b.is_rule in
      let test = one_test rules a.holds_fork b.holds_fork a.tells_forks b.tells_forks in
      let same : building_of u env rules a.holds_fork i a.rule label presence ≡ building_of u env rules b.holds_fork i b.rule label presence =
      ap₂ (λ (holds_fork : Tree → Bool) (r : RuleTree). building_of u env rules holds_fork i r label presence) test rule in
      a.is_trial ∙ ap built_trial (same_Some a.built b.built (sym a.is_built ∙ same ∙ b.is_built)) ∙ sym b.is_trial

  abbrev pub uniform_trial : RuleTree → List ℕ → Trial
  uniform_trial r reach = record { series = uniform_series u rules (selected_by rules (with_reach i reach)) (uniform_texts u rules i r label presence); steps = passes_over reach }

  pub one_uniform : (t v : Trial) → IsUniform u rules i label presence t → IsUniform u rules i label presence v → t ≡ v
  one_uniform t v a b =
      let rule = same_option (slice_get rules i) a.rule b.rule a.is_rule b.is_rule in
      let reach = one_reach rules b.rule.expr a.reach b.reach (subst (λ (r : RuleTree). IsReach rules r.expr a.reach) rule a.is_reach) b.is_reach in
      a.is_trial ∙ ap₂ uniform_trial rule reach ∙ sym b.is_trial

  -- samples

  abbrev ShowsBy : Trial → Labels → Type 0
  ShowsBy t s = Shows rules i label presence (record { trial = t; sample = s })

  one_sample : (t : Trial) (x y : Labels) → ShowsBy t x → ShowsBy t y → x ≡ y
  one_sample t x y a b =
      let rule = same_option (slice_get rules i) a.rule b.rule a.is_rule b.is_rule in
      let stored = same_Some a.stored b.stored (one_run_answer t.series (rules_at rules t.steps) (Some a.stored) (Some b.stored) a.is_stored b.is_stored) in
      let there : IsRuleAnswer b.stored b.rule (Some a.samples) =
      subst (λ (r : RuleTree). IsRuleAnswer b.stored r (Some a.samples)) rule (subst (λ (W : List Labels). IsRuleAnswer W a.rule (Some a.samples)) stored a.are_samples) in
      let samples = same_Some a.samples b.samples (one_rule_answer b.stored b.rule (Some a.samples) (Some b.samples) there b.are_samples) in
      same_Some x y (sym a.is_sample ∙ ap (λ (P : List Labels). find (λ s. has_presence presence (value_of s label)) P) samples ∙ b.is_sample)

  by_one_trial : (s t : Shown) → s.trial ≡ t.trial → Shows rules i label presence s → Shows rules i label presence t → s ≡ t
  by_one_trial s t same a b =
      let sample = one_sample t.trial s.sample t.sample (subst (λ (v : Trial). ShowsBy v s.sample) same a) b in
      ap₂ (λ (v : Trial) (x : Labels). shown_by v x) same sample
    where
      shown_by : Trial → Labels → Shown
      shown_by v x = record { trial = v; sample = x }

  -- the first trial that shows is one
  pub one_shown : (s t : Shown) → IsFirstShown u env rules i label presence s → IsFirstShown u env rules i label presence t → s ≡ t
  one_shown s t (inl a) (inl b) = by_one_trial s t (one_built s.trial t.trial a.0 b.0) a.1 b.1
  one_shown s t (inl a) (inr b) = absurd (b.0 s a)
  one_shown s t (inr a) (inl b) = absurd (a.0 t b)
  one_shown s t (inr a) (inr b) = by_one_trial s t (one_uniform s.trial t.trial a.1.0 b.1.0) a.1.1 b.1.1

-- verdicts

module _ (u : Listing) (env : Environment) (rules : List RuleTree) (i : ℕ) where
  module _ (row : Sets) (label : Bytes) where
    abbrev Is : LabelVerdict → Type 0
    Is v = IsLabelVerdict u env rules i row label v

    not_both : (present absent : Shown) → Is (Possible present absent) → Is Unresolved → ⊥
    not_both present absent a (both, inl none) = none present a.1
    not_both present absent a (both, inr none) = none absent a.2

    one_label_verdict : (v w : LabelVerdict) → Is v → Is w → v ≡ w
    one_label_verdict Guaranteed Guaranteed a b = refl
    one_label_verdict Guaranteed Impossible a b = absurd (clash _ b.1 a)
    one_label_verdict Guaranteed (Possible x y) a b = absurd (clash _ b.0.1 a)
    one_label_verdict Guaranteed Unresolved a b = absurd (clash _ b.0.1 a)
    one_label_verdict Impossible Guaranteed a b = absurd (clash _ a.1 b)
    one_label_verdict Impossible Impossible a b = refl
    one_label_verdict Impossible (Possible x y) a b = absurd (clash _ b.0.0 a.0)
    one_label_verdict Impossible Unresolved a b = absurd (clash _ b.0.0 a.0)
    one_label_verdict (Possible x y) Guaranteed a b = absurd (clash _ a.0.1 b)
    one_label_verdict (Possible x y) Impossible a b = absurd (clash _ a.0.0 b.0)
    one_label_verdict (Possible x y) (Possible z w) a b = ap₂ Possible (one_shown u env rules i label true x z a.1 b.1) (one_shown u env rules i label false y w a.2 b.2)
    one_label_verdict (Possible x y) Unresolved a b = absurd (not_both x y a b)
    one_label_verdict Unresolved Guaranteed a b = absurd (clash _ a.0.1 b)
    one_label_verdict Unresolved Impossible a b = absurd (clash _ a.0.0 b.0)
    one_label_verdict Unresolved (Possible x y) a b = absurd (not_both x y b a)
    one_label_verdict Unresolved Unresolved a b = refl

  one_list : (row : Sets) (labels : List Bytes) (vs ws : List LabelVerdict) → AreLabelVerdicts u env rules i row labels vs → AreLabelVerdicts u env rules i row labels ws → vs ≡ ws
  one_list row [] [] [] a b = refl
  one_list row [] [] (w ∷ ws) a b = absurd b
  one_list row [] (v ∷ vs) ws a b = absurd a
  one_list row (l ∷ labels) [] ws a b = absurd a
  one_list row (l ∷ labels) (v ∷ vs) [] a b = absurd b
  one_list row (l ∷ labels) (v ∷ vs) (w ∷ ws) a b = ap₂ (λ (x : LabelVerdict) (xs : List LabelVerdict). x ∷ xs) (one_label_verdict row l v w a.0 b.0) (one_list row labels vs ws a.1 b.1)

  -- a rule has one verdict at most, and with it at most one world for each label and presence
  pub one_verdict : (r : RuleTree) (v w : RuleVerdict) → IsRuleVerdict u env rules i r v → IsRuleVerdict u env rules i r w → v ≡ w
  one_verdict r Empty Empty a b = refl
  one_verdict r Empty (verdict.Labels ws) a b = absurd (clash _ b.0 a)
  one_verdict r (verdict.Labels vs) Empty a b = absurd (clash _ a.0 b)
  one_verdict r (verdict.Labels vs) (verdict.Labels ws) a b = ap verdict.Labels (one_list (rule_row u env r) (labels_in u) vs ws a.1 b.1)

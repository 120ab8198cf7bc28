-- Each rule has a verdict: whether a trial is made, and what it shows, can be decided.
use Rattle.std.proofs.Common.{◌≡◌, ◌≤◌, ◌*◌, ◌↔◌, ◌⊎◌, inl, inr, ℕ, Bool, true, false, not, ◌&&◌, List, [], ◌∷◌, length, Option, Some, None, is_some, refl, sym, ap, ap₂, ◌∙◌, subst, true≢false, slice_get, arith}
use Rattle.std.specs.List.{Contains, find}
use Rattle.std.specs.Str.{bytes_eq}
use Rattle.std.proofs.lemmas.Bool.{cases_lt, not-true}
use Rattle.lf_laws.proofs.Booleans.{and_left, and_right}
use Rattle.lf_laws.proofs.Members.{same_true, true_same}
use Rattle.std.proofs.lemmas.Option.{same_Some}
use Rattle.lf_laws.proofs.Options.{same_option}
use Rattle.lf_laws.proofs.Slices.{number_of}
use Rattle.lf_ast.specs.Labels.{Bytes, Labels}
use Rattle.lf_ast.specs.Rules.{RuleTree}
use Rattle.lf_ast.specs.Tree.{Tree}
use Rattle.lf_deps.specs.Reading.{IsCyclic, Reads, Records}
use Rattle.lf_semantics.specs.ClassRows.{Sets, is_live}
use Rattle.lf_semantics.specs.Environments.{records, rule_row}
use Rattle.lf_semantics.specs.Listing.{Listing}
use Rattle.lf_semantics.specs.RowTable.{Environment}
use Rattle.lf_semantics.specs.Texts.{value_of}
use Rattle.lf_trials.specs.Building.{Building}
use Rattle.lf_trials.specs.Built.{IsBuilt, building_of, built_trial, selector_count}
use Rattle.lf_trials.specs.Candidates.{has_presence, labels_in}
use Rattle.lf_trials.specs.Reached.{IsReach, Trial, with_reach}
use Rattle.lf_trials.specs.Trials.{IsFirstShown, IsNotShown, Shown, Shows, ShowsBuilt, ShowsUniform}
use Rattle.lf_trials.specs.Selected.{Selected, selected_by}
use Rattle.lf_trials.specs.Uniform.{IsUniform, SelectsCyclic, has_texts, uniform_texts}
use Rattle.lf_trials.specs.Verdicts.{AreLabelVerdicts, Empty, Guaranteed, Impossible, IsLabelVerdict, IsRuleVerdict, LabelVerdict, Possible, RuleVerdict, Unresolved, leaves}
use Rattle.lf_trials.specs.Verdicts as verdict
use Rattle.lf_trials.proofs.OneVerdict.{one_built, one_reach, one_test, one_uniform, uniform_trial}
use Rattle.lf_trials.proofs.Reachable.{fork_test, is_reach_of, reach_of, reaches, reaches_is, tells_forks}
use Rattle.lf_witness.proofs.Answers.{one_rule_answer, one_run_answer, some_rule_answer, some_run_answer}
use Rattle.lf_witness.proofs.Decided.{Decided, by_test, decided_both, decided_map, some_member}
use Rattle.lf_witness.specs.StrictRuns.{IsRuleAnswer, IsRunAnswer, rules_at}

at_most : (m n : ℕ) → Decided (m ≤ n)
at_most m n = elim (cases_lt n m) [ inl more ↦ inr (λ h. omega (arith, h, more)) | inr most ↦ inl most ]

-- cyclic names

module _ (rules : List RuleTree) where
  records_is : (name : Bytes) (r : RuleTree) → (records name r ≡ true) ↔ Records r name
  records_is name r = (
    λ h. (not-true r.alert (and_left (not r.alert) (bytes_eq r.name name) h), true_same r.name name (and_right (not r.alert) (bytes_eq r.name name) h)),
    λ (recording, e). ap (λ (b : Bool). not b && bytes_eq r.name name) recording ∙ same_true r.name name e,
  )

  abbrev by_name : Bytes → ℕ → RuleTree → Bool
  by_name name k r = records name r

  -- a recorded name is read
  reads_decided : (name : Bytes) (r : RuleTree) → Contains rules r → Records r name → (e : Tree) → Decided (Reads rules e name)
  reads_decided name r c recorded e =
      by_test (Reads rules e name) (reaches rules (by_name name) e)
      (λ h. let found = (reaches_is rules (by_name name) e).0 h in subst (Reads rules e) ((records_is name found.1).0 found.4).1 found.3.1)
      (λ reads. let there = number_of rules r c in (reaches_is rules (by_name name) e).1 (there.0, r, there.2, (recorded.0, subst (Reads rules e) (sym recorded.1) reads), (records_is name r).1 recorded))

  abbrev InItsMaking : Bytes → RuleTree → Type 0
  InItsMaking name r = Records r name × Reads rules r.expr name

  cyclic_decided : (name : Bytes) → Decided (IsCyclic rules name)
  cyclic_decided name = elim (some_member (λ r. Records r name) rules (λ r. by_test (Records r name) (records name r) (records_is name r).0 (records_is name r).1)) [
    | inl found ↦ decided_map ((r : RuleTree) × Contains rules r × InItsMaking name r) (IsCyclic rules name) (λ (r, c, making). (r, c, making.0, making.1)) (λ (r, c, recorded, reads). (r, c, (recorded, reads)))
        (some_member (InItsMaking name) rules (λ r. decided_both (Records r name) (Reads rules r.expr name) (by_test (Records r name) (records name r) (records_is name r).0 (records_is name r).1) (reads_decided name found.0 found.1 found.2 r.expr)))
    | inr none ↦ inr (λ (r, c, recorded, reads). none (r, c, recorded))
  ]

  abbrev OfCyclic : Option Bytes → Type 0
  OfCyclic said = (name : Bytes) × (said ≡ Some name) × IsCyclic rules name

  said_decided : (said : Option Bytes) → Decided (OfCyclic said)
  said_decided None = inr (λ (name, e, cyclic). true≢false (sym (ap is_some e)))
  said_decided (Some n) = decided_map (IsCyclic rules n) (OfCyclic (Some n)) (λ cyclic. (n, refl, cyclic)) (λ (name, e, cyclic). subst (IsCyclic rules) (sym (same_Some n name e)) cyclic) (cyclic_decided n)

  selects_decided : (numbers : List ℕ) → Decided (SelectsCyclic rules numbers)
  selects_decided numbers =
      decided_map ((s : Selected) × Contains (selected_by rules numbers) s × OfCyclic s.name) (SelectsCyclic rules numbers) (λ (s, c, of). (s, c, of.0, of.1, of.2)) (λ (s, c, name, e, cyclic). (s, c, (name, e, cyclic)))
      (some_member (λ s. OfCyclic s.name) (selected_by rules numbers) (λ s. said_decided s.name))

-- trials

module _ (u : Listing) (env : Environment) (rules : List RuleTree) (i : ℕ) (r : RuleTree) (at : slice_get rules i ≡ Some r) (label : Bytes) (presence : Bool) where
  abbrev reach : List ℕ
  reach = reach_of rules r.expr

  abbrev building : Option Building
  building = building_of u env rules (fork_test rules) i r label presence

  abbrev Made : Type 0
  Made = (t : Trial) × IsBuilt u env rules i label presence t

  -- what any built world is built from
  of_built : (t : Trial) (is : IsBuilt u env rules i label presence t) → building ≡ Some is.built
  of_built t is =
      ap₂ (λ (test : Tree → Bool) (q : RuleTree). building_of u env rules test i q label presence) (one_test rules (fork_test rules) is.holds_fork (tells_forks rules) is.tells_forks) (same_option (slice_get rules i) r is.rule at is.is_rule) ∙ is.is_built

  reach_is : (q : RuleTree) (js : List ℕ) → slice_get rules i ≡ Some q → IsReach rules q.expr js → js ≡ reach
  reach_is q js is of = one_reach rules r.expr js reach (subst (λ (z : RuleTree). IsReach rules z.expr js) (same_option (slice_get rules i) q r is at) of) (is_reach_of rules r.expr)

  built_decided : Decided Made
  built_decided = by building refl
    where
      within : (b : Building) → building ≡ Some b → Decided (b.selectors ≤ 4 * selector_count rules (with_reach i reach)) → Decided Made
      within b is (inl few) = inl (
        built_trial b,
        record { holds_fork = fork_test rules; tells_forks = tells_forks rules; rule = r; is_rule = at; reach = reach; is_reach = is_reach_of rules r.expr; built = b; is_built = is; bounded = few; is_trial = refl },
      )
      within b is (inr many) = inr (λ (t, other).
          let same : other.built ≡ b = same_Some other.built b (sym (of_built t other) ∙ is) in
          many (subst (λ (js : List ℕ). b.selectors ≤ 4 * selector_count rules (with_reach i js)) (reach_is other.rule other.reach other.is_rule other.is_reach) (subst (λ (z : Building). z.selectors ≤ 4 * selector_count rules (with_reach i other.reach)) same other.bounded)))

      by : (o : Option Building) → building ≡ o → Decided Made
      by None is = inr (λ (t, other). true≢false (sym (ap is_some (sym is ∙ of_built t other))))
      by (Some b) is = within b is (at_most b.selectors (4 * selector_count rules (with_reach i reach)))

  abbrev Uniform : Type 0
  Uniform = (t : Trial) × IsUniform u rules i label presence t

  uniform_decided : Decided Uniform
  uniform_decided = by (at_most (length reach) 256) (selects_decided rules (with_reach i reach)) (has_texts u (uniform_texts u rules i r label presence)) refl
    where
      by : Decided (length reach ≤ 256) → Decided (SelectsCyclic rules (with_reach i reach)) → (b : Bool) → has_texts u (uniform_texts u rules i r label presence) ≡ b → Decided Uniform
      by (inr many) cyclic b is = inr (λ (t, other). many (subst (λ (js : List ℕ). length js ≤ 256) (reach_is other.rule other.reach other.is_rule other.is_reach) other.few))
      by (inl few) (inl cyclic) b is = inr (λ (t, other). other.no_cycle (subst (λ (js : List ℕ). SelectsCyclic rules (with_reach i js)) (sym (reach_is other.rule other.reach other.is_rule other.is_reach)) cyclic))
      by (inl few) (inr none) false is = inr (λ (t, other). true≢false (sym other.texts ∙ ap (λ (q : RuleTree). has_texts u (uniform_texts u rules i q label presence)) (same_option (slice_get rules i) other.rule r other.is_rule at) ∙ is))
      by (inl few) (inr none) true is = inl (
        uniform_trial u env rules i label presence r reach,
        record { rule = r; is_rule = at; reach = reach; is_reach = is_reach_of rules r.expr; few = few; no_cycle = none; texts = is; is_trial = refl },
      )

  -- what a trial shows

  abbrev ShowsSome : Trial → Type 0
  ShowsSome t = (s : Labels) × Shows rules i label presence (record { trial = t; sample = s })

  shows_decided : (t : Trial) → Decided (ShowsSome t)
  shows_decided t = by_run run.0 run.1
    where
      run : (o : Option (List Labels)) × IsRunAnswer t.series (rules_at rules t.steps) o
      run = some_run_answer t.series (rules_at rules t.steps)

      same_stored : (o : Option (List Labels)) → IsRunAnswer t.series (rules_at rules t.steps) o → (found : ShowsSome t) → o ≡ Some found.1.stored
      same_stored o is found = one_run_answer t.series (rules_at rules t.steps) o (Some found.1.stored) is found.1.is_stored

      same_given : (V : List Labels) (o : Option (List Labels)) → IsRunAnswer t.series (rules_at rules t.steps) (Some V) → IsRuleAnswer V r o → (found : ShowsSome t) → o ≡ Some found.1.samples
      same_given V o is gives found =
          one_rule_answer V r o (Some found.1.samples) gives
          (subst (λ (W : List Labels). IsRuleAnswer W r (Some found.1.samples)) (sym (same_Some V found.1.stored (same_stored (Some V) is found))) (subst (λ (q : RuleTree). IsRuleAnswer found.1.stored q (Some found.1.samples)) (same_option (slice_get rules i) found.1.rule r found.1.is_rule at) found.1.are_samples))

      by_sample : (V P : List Labels) → IsRunAnswer t.series (rules_at rules t.steps) (Some V) → IsRuleAnswer V r (Some P) → (o : Option Labels) → find (λ s. has_presence presence (value_of s label)) P ≡ o → Decided (ShowsSome t)
      by_sample V P is gives None none =
          inr (λ found. true≢false (sym (ap is_some (sym none ∙ ap (λ (l : List Labels). find (λ s. has_presence presence (value_of s label)) l) (same_Some P found.1.samples (same_given V (Some P) is gives found)) ∙ found.1.is_sample))))
      by_sample V P is gives (Some s) there = inl (s, record { rule = r; is_rule = at; stored = V; is_stored = is; samples = P; are_samples = gives; is_sample = there })

      by_rule : (V : List Labels) → IsRunAnswer t.series (rules_at rules t.steps) (Some V) → (o : Option (List Labels)) → IsRuleAnswer V r o → Decided (ShowsSome t)
      by_rule V is None gives = inr (λ found. true≢false (sym (ap is_some (same_given V None is gives found))))
      by_rule V is (Some P) gives = by_sample V P is gives (find (λ s. has_presence presence (value_of s label)) P) refl

      by_run : (o : Option (List Labels)) → IsRunAnswer t.series (rules_at rules t.steps) o → Decided (ShowsSome t)
      by_run None is = inr (λ found. true≢false (sym (ap is_some (same_stored None is found))))
      by_run (Some V) is = let gives = some_rule_answer V r in by_rule V is gives.0 gives.1

  -- the first trial that shows

  abbrev ShownBuilt : Type 0
  ShownBuilt = (s : Shown) × ShowsBuilt u env rules i label presence s

  shown_built : Decided ShownBuilt
  shown_built = elim built_decided [
    | inl (t, made) ↦ decided_map (ShowsSome t) ShownBuilt (λ (s, shows). (record { trial = t; sample = s }, (made, shows)))
        (λ (other, shows). (other.sample, subst (λ (v : Trial). Shows rules i label presence (record { trial = v; sample = other.sample })) (one_built u env rules i label presence other.trial t shows.0 made) shows.1)) (shows_decided t)
    | inr none ↦ inr (λ (other, shows). none (other.trial, shows.0))
  ]

  abbrev ShownUniform : Type 0
  ShownUniform = (s : Shown) × ShowsUniform u env rules i label presence s

  shown_uniform : Decided ShownUniform
  shown_uniform = elim uniform_decided [
    | inl (t, made) ↦ decided_map (ShowsSome t) ShownUniform (λ (s, shows). (record { trial = t; sample = s }, (made, shows)))
        (λ (other, shows). (other.sample, subst (λ (v : Trial). Shows rules i label presence (record { trial = v; sample = other.sample })) (one_uniform u env rules i label presence other.trial t shows.0 made) shows.1)) (shows_decided t)
    | inr none ↦ inr (λ (other, shows). none (other.trial, shows.0))
  ]

  pub first_decided : ((s : Shown) × IsFirstShown u env rules i label presence s) ⊎ IsNotShown u env rules i label presence
  first_decided = by shown_built shown_uniform
    where
      by : Decided ShownBuilt → Decided ShownUniform → ((s : Shown) × IsFirstShown u env rules i label presence s) ⊎ IsNotShown u env rules i label presence
      by (inl (s, shows)) later = inl (s, inl shows)
      by (inr none) (inl (s, shows)) = inl (s, inr (λ other shown. none (other, shown), shows))
      by (inr none) (inr nor) = inr (λ s first. elim first [ inl shows ↦ none (s, shows) | inr shows ↦ nor (s, shows.1) ])

-- verdicts

module _ (u : Listing) (env : Environment) (rules : List RuleTree) (i : ℕ) (r : RuleTree) (at : slice_get rules i ≡ Some r) where
  abbrev FirstShown : Bytes → Bool → Type 0
  FirstShown label presence = ((s : Shown) × IsFirstShown u env rules i label presence s) ⊎ IsNotShown u env rules i label presence

  label_verdict : (row : Sets) (label : Bytes) → (v : LabelVerdict) × IsLabelVerdict u env rules i row label v
  label_verdict row label = by (leaves u row label true) (leaves u row label false) refl refl
    where
      by_trials : (leaves u row label true ≡ true) → (leaves u row label false ≡ true) → FirstShown label true → FirstShown label false → (v : LabelVerdict) × IsLabelVerdict u env rules i row label v
      by_trials there lacking (inl (s, present)) (inl (t, absent)) = (Possible s t, ((there, lacking), present, absent))
      by_trials there lacking (inr none) absent = (Unresolved, ((there, lacking), inl none))
      by_trials there lacking (inl present) (inr none) = (Unresolved, ((there, lacking), inr none))

      by : (present absent : Bool) → leaves u row label true ≡ present → leaves u row label false ≡ absent → (v : LabelVerdict) × IsLabelVerdict u env rules i row label v
      by present false there lacking = (Guaranteed, lacking)
      by false true there lacking = (Impossible, (there, lacking))
      by true true there lacking = by_trials there lacking (first_decided u env rules i r at label true) (first_decided u env rules i r at label false)

  label_verdicts : (row : Sets) (labels : List Bytes) → (vs : List LabelVerdict) × AreLabelVerdicts u env rules i row labels vs
  label_verdicts row [] = ([], tt)
  label_verdicts row (label ∷ labels) = let v = label_verdict row label in let vs = label_verdicts row labels in (v.0 ∷ vs.0, (v.1, vs.1))

  -- a rule has a verdict
  pub some_verdict : (v : RuleVerdict) × IsRuleVerdict u env rules i r v
  some_verdict = by (is_live (rule_row u env r)) refl
    where
      by : (b : Bool) → is_live (rule_row u env r) ≡ b → (v : RuleVerdict) × IsRuleVerdict u env rules i r v
      by false is = (Empty, is)
      by true is = let vs = label_verdicts (rule_row u env r) (labels_in u) in (verdict.Labels vs.0, (is, vs.1))

-- In the least environment: where no construct is open, each choice of texts that the row of an expression without forks holds is given alone by the world that is built for it, and the
-- built world of a rule shows each presence that the row leaves to a label.
use Rattle.std.proofs.Common.{◌≡◌, ◌≤◌, inl, inr, ℕ, ◌+◌, ◌*◌, Bool, true, false, not, cond, List, [], ◌∷◌, ◌++◌, map, length, Option, Some, None, refl, sym, ◌∙◌, ap, subst, arith, option_and_then, slice_get, option_to_list}
use Rattle.std.specs.Prelude.{is_some, nat_lt, unwrap_or}
use Rattle.std.specs.List.{Contains, filter, sum}
use Rattle.std.specs.Ordering.{is_eq}
use Rattle.std.specs.Str.{bytes_eq}
use Rattle.std.proofs.lemmas.Bool.{cases_lt}
use Rattle.std.proofs.lemmas.Bool.Decides.{nat_tests}
use Rattle.std.proofs.lemmas.List.Elements.{Contains-append_left, Contains-append_right, Contains-append_cases}
use Rattle.lf_laws.proofs.Booleans.{clash}
use Rattle.lf_laws.proofs.Members.{any_in, any_out, behind, first_or_behind, here, none_in, true_same}
use Rattle.lf_laws.proofs.Slices.{member_at}
use Rattle.lf_ast.specs.Labels.{Bytes, Labels}
use Rattle.lf_ast.specs.LabelOrder.{labels_cmp}
use Rattle.lf_ast.specs.Rules.{RuleTree}
use Rattle.lf_ast.specs.Tree.{Tree}
use Rattle.lf_semantics.specs.ClassRows.{HoldsText, bottom, is_live}
use Rattle.lf_semantics.specs.Environments.{Covers, CoversRules, IsLeast, rule_row}
use Rattle.lf_semantics.specs.Laws.{SetNoNames}
use Rattle.lf_semantics.specs.Listing.{AreDistinct, IsListing, Listing, label_of}
use Rattle.lf_semantics.specs.Parts.{is_evaluated, type_by_form}
use Rattle.lf_semantics.specs.RowTable.{Environment, row_of}
use Rattle.lf_semantics.specs.Texts.{value_of}
use Rattle.lf_semantics.proofs.LeqLaws.{bottom_dead}
use Rattle.lf_semantics.proofs.Members.{in_filter}
use Rattle.lf_witness.specs.Strict.{StrictlyEvaluates}
use Rattle.lf_witness.proofs.AscendingLists.{alone_ascends, in_order}
use Rattle.lf_witness.proofs.Decided.{told_same}
use Rattle.lf_witness.proofs.OneSample.{same_texts}
use Rattle.lf_witness.proofs.SameResults.{run_same}
use Rattle.lf_deps.specs.Reading.{Reads, selectors}
use Rattle.lf_trials.specs.Building.{Building, each_once}
use Rattle.lf_trials.specs.Built.{build, build_by_rule, builder, built_trial, selector_count, start_text}
use Rattle.lf_trials.specs.Candidates.{candidates_in, has_presence, in_row, labels_in}
use Rattle.lf_trials.specs.Forks.{HoldsFork, TellsForks}
use Rattle.lf_trials.specs.Given.{Given, giving, label_set, nothing_given}
use Rattle.lf_witness.specs.StrictRuns.{rules_at}
use Rattle.lf_trials.specs.Reached.{Trial, with_reach}
use Rattle.lf_trials.specs.Trials.{Shown, ShowsBuilt}
use Rattle.lf_trials.specs.Verdicts.{leaves}
use Rattle.lf_trials.proofs.BuiltSeries.{once_there}
use Rattle.lf_trials.proofs.Reachable.{fork_test, is_reach_of, reach_of, shorter, tells_forks}
use Rattle.lf_trials.proofs.ShownInWorlds.{found_in}
use Rattle.lf_trials.proofs.MadeSeries.{full_set}
use Rattle.lf_shown.specs.Agreement.{AgreeOn, Gives}
use Rattle.lf_shown.specs.Alone.{GivesAlone, ReadsUnmarked}
use Rattle.lf_shown.specs.Laws.{GivesEachAlone, ResolvesEach, ShowsAllLeft}
use Rattle.lf_shown.specs.NoneOpen.{HasNoneOpen}
use Rattle.lf_shown.proofs.Choices.{Gave, HoldsGiven, In, IsSmall, IsTotal, holds_by_test}
use Rattle.lf_shown.proofs.LastRows.{last_is}
use Rattle.lf_shown.proofs.Least.{is_union}
use Rattle.lf_shown.proofs.Made.{Answers}
use Rattle.lf_shown.proofs.Marks.{made_by, made_of_rule}
use Rattle.lf_shown.proofs.Reached.{read_acyclic}
use Rattle.lf_shown.proofs.Reading.{no_fork}
use Rattle.lf_shown.proofs.Texts.{of_candidates, set_has, set_lacks}
use Rattle.lf_classes.proofs.Cutting.{sum_cons}
use Rattle.lf_shown.proofs.Worlds.{count_both}

-- ---- each series once

pub once_in : (xs : List Labels) (s : Labels) → Contains xs s → Contains (each_once xs) s
once_in [] s c = c
once_in (x ∷ xs) s c = elim (first_or_behind x xs s c) [
  | inl e ↦ subst (Contains (each_once (x ∷ xs))) e (here x _)
  | inr d ↦ by (is_eq (labels_cmp s x)) refl (once_in xs s d)
]
  where
    by : (b : Bool) → is_eq (labels_cmp s x) ≡ b → Contains (each_once xs) s → Contains (x ∷ filter (λ t. not (is_eq (labels_cmp t x))) (each_once xs)) s
    by true e rest = subst (Contains (x ∷ filter (λ t. not (is_eq (labels_cmp t x))) (each_once xs))) (sym (told_same s x e)) (here x _)
    by false e rest = behind x _ s (in_filter (λ t. not (is_eq (labels_cmp t x))) (each_once xs) s rest (ap not e))

-- ---- how many selectors there are

module _ (rules : List RuleTree) where
  count_front : (k : ℕ) (ks : List ℕ) → selector_count rules (k ∷ ks) ≡ selector_count rules (k ∷ []) + selector_count rules ks
  count_front k ks = count_both rules (k ∷ []) ks

  -- a number that stands in a list, with what is before and behind it
  split_at : (js : List ℕ) (k : ℕ) → Contains js k → (before : List ℕ) × (after : List ℕ) × (js ≡ before ++ k ∷ after)
  split_at [] k c = absurd (none_in k c)
  split_at (j ∷ js) k c = elim (first_or_behind j js k c) [
    | inl e ↦ ([], js, ap (λ x. x ∷ js) e)
    | inr d ↦ let r = split_at js k d in (j ∷ r.0, r.1, ap (λ xs. j ∷ xs) r.2)
  ]

  -- numbers that stand once have no more selectors than a list that has them all
  count_most : (ks js : List ℕ) → AreDistinct ks → ((k : ℕ) → Contains ks k → Contains js k) → selector_count rules ks ≤ selector_count rules js
  count_most [] js once within = omega arith
  count_most (k ∷ ks) js once within =
      let at = split_at js k (within k (here k ks)) in
      let rest = count_most ks (at.0 ++ at.1) once.1 (λ j c. left at.0 at.1 j (subst (λ xs. Contains xs j) at.2 (within j (behind k ks j c))) (λ e. once.0 (subst (Contains ks) (sym e) c))) in
      let a = count_front k ks in
      let b = count_both rules at.0 (k ∷ at.1) in
      let c = count_front k at.1 in
      let d = count_both rules at.0 at.1 in
      let e : selector_count rules js ≡ selector_count rules (at.0 ++ k ∷ at.1) = ap (selector_count rules) at.2 in
      omega (arith, rest, a, b, c, d, e)
    where
      left : (before after : List ℕ) (j : ℕ) → Contains (before ++ k ∷ after) j → (k ≡ j → ⊥) → Contains (before ++ after) j
      left before after j c other = elim (Contains-append_cases before (k ∷ after) j c) [
        | inl d ↦ Contains-append_left before after j d
        | inr d ↦ elim (first_or_behind k after j d) [ inl e ↦ absurd (other e) | inr f ↦ Contains-append_right before after j f ]
      ]

  -- a rule and its reach
  in_reach : (i : ℕ) (reach : List ℕ) (k : ℕ) → Contains reach k → Contains (with_reach i reach) k
  in_reach i reach k c = elim (cases_lt k i) [
    | inl less ↦ Contains-append_left (filter (λ j. nat_lt j i) reach) _ k (in_filter (λ j. nat_lt j i) reach k c (grind (arith, nat_tests)))
    | inr more ↦ Contains-append_right (filter (λ j. nat_lt j i) reach) _ k (elim (cases_lt i k) [
      | inl less ↦ behind i _ k (in_filter (λ j. nat_lt i j) reach k c (grind (arith, nat_tests)))
      | inr most ↦ let e : i ≡ k = omega (arith, more, most) in subst (Contains (i ∷ filter (λ j. nat_lt i j) reach)) e (here i _)
    ])
  ]

  self_in_reach : (i : ℕ) (reach : List ℕ) → Contains (with_reach i reach) i
  self_in_reach i reach = Contains-append_right (filter (λ j. nat_lt j i) reach) _ i (here i _)

module _ (u : Listing) (p : IsListing u) (small : IsSmall u) (rules : List RuleTree) (covers : CoversRules u rules) (unnamed : SetNoNames rules) (env : Environment) (least : IsLeast u rules env) where
  -- ---- what is built runs strictly, and gives the sample over all samples that agree

  module _ (e : Tree) (count : ℕ) (b : Building) (one : Labels) (gives : Gives rules (Reads rules e) count b (λ X. StrictlyEvaluates X e) one) where
    once_agrees : AgreeOn (Reads rules e) (each_once b.series) b.series
    once_agrees s read = (once_there u env rules p b.series s, once_in b.series s)

    pub gives_alone : GivesAlone rules e b one
    gives_alone =
        let run = gives.runs (each_once b.series) once_agrees in
        let listed = in_order run.0 in (
          listed.0,
          (run_same (rules_at rules b.steps) (each_once b.series) run.0 listed.0 listed.1 run.1, listed.2),
          λ X agrees. (run.3 X (λ s read. let both = agrees s read in ((λ c. listed.1.1 s (both.0 c)), λ c. both.1 (listed.1.0 s c))), alone_ascends one),
        )

  -- ---- a choice of texts is given alone

  module _ (holds_fork : Tree → Bool) (tells : TellsForks rules holds_fork) where
    union_is : Rattle.lf_shown.proofs.Recorded.IsUnion u rules p small env holds_fork tells covers unnamed least.of_rules
    union_is = is_union u p rules env least

    -- the sample has each text that is given, and no other
    is_choice : (D : Given) → IsTotal u D → (one : Labels) → Rattle.lf_semantics.specs.Texts.HasTexts one → ((name : Bytes) → (In u name → ⊥) → value_of one name ≡ []) → ((name text : Bytes) → In u name → Gave D name text → value_of one name ≡ text)
        → one ≡ label_set (labels_in u) D
    is_choice D total one full within agrees = same_texts one (label_set (labels_in u) D) full (full_set (labels_in u) D) (λ name. by name (Rattle.lf_trials.specs.Candidates.is_one_of (labels_in u) name) refl)
      where
        by : (name : Bytes) (b : Bool) → Rattle.lf_trials.specs.Candidates.is_one_of (labels_in u) name ≡ b → value_of one name ≡ value_of (label_set (labels_in u) D) name
        by name true e =
            let there : In u name = any_out name (labels_in u) e in
            let t = total name there in
            agrees name t.0 there t.1 ∙ sym (set_has (labels_in u) D name there ∙ ap (λ o. unwrap_or o []) t.1)
        by name false e = let out : In u name → ⊥ = λ c. clash _ (any_in name (labels_in u) c) e in within name out ∙ sym (set_lacks (labels_in u) D name out)

    -- For an expression without forks and without open constructs, whose row holds a text of each label: what is built for it exists, and gives the label set of these texts alone, in the
    -- built world and over all samples that agree with it on the names that the expression reads.
    pub alone : (marked : List ℕ) (e : Tree) → Covers u e → HasNoneOpen rules e → (HoldsFork rules e → ⊥) → ReadsUnmarked rules marked e → GivesEachAlone u env rules holds_fork marked e
    alone marked e known none no_forks free D total held =
        let made = made_by u rules p small env holds_fork tells covers unnamed least.of_rules union_is least.closed (last_is u p rules covers env least) (length rules) marked e known none (room marked) free in
        let a = made.answers D (holds_by_test u (row_of u env e) D held) (inl (no_fork rules holds_fork tells e no_forks)) in
        (a.building, a.is_built, subst (GivesAlone rules e a.building) (is_choice D total a.one a.full a.within a.agrees) (gives_alone e (length (selectors e)) a.building a.one a.gives))
      where
        room : (marked : List ℕ) → length (filter (λ k. not (Rattle.lf_trials.specs.Reached.is_marked marked k)) (Rattle.std.specs.List.range_with_len 0 (length rules))) ≤ length rules
        room marked =
            let h = shorter (λ (k : ℕ). not (Rattle.lf_trials.specs.Reached.is_marked marked k)) (Rattle.std.specs.List.range_with_len 0 (length rules)) in
            let g = Rattle.std.proofs.lemmas.List.FromFn.length-range_with_len 0 (length rules) in
            omega (arith, h, g)

  -- ---- each presence that the row leaves is shown

  module _ (i : ℕ) (r : RuleTree) (at : slice_get rules i ≡ Some r) (none : HasNoneOpen rules r.expr) (live : is_live (rule_row u env r) ≡ true) where
    evaluated : is_evaluated (type_by_form r.expr) ≡ true
    evaluated = by (is_evaluated (type_by_form r.expr)) refl live
      where
        by : (b : Bool) → is_evaluated (type_by_form r.expr) ≡ b → is_live (cond b (row_of u env r.expr) (bottom u)) ≡ true → is_evaluated (type_by_form r.expr) ≡ true
        by true e live = e
        by false e live = absurd (clash _ live (bottom_dead u p))

    row_is : rule_row u env r ≡ row_of u env r.expr
    row_is = ap (λ b. cond b (row_of u env r.expr) (bottom u)) evaluated

    one_rule : (k : ℕ) (q : RuleTree) → k ≡ i → slice_get rules k ≡ Some q → q ≡ r
    one_rule k q e is = let same : slice_get rules i ≡ Some q = subst (λ j. slice_get rules j ≡ Some q) e is in ap (λ (o : Option RuleTree). elim o [ None ↦ q | Some z ↦ z ]) (sym same ∙ at)

    module _ (label : Bytes) (listed : Contains (labels_in u) label) (presence : Bool) where
      abbrev holds_fork : Tree → Bool
      holds_fork = fork_test rules

      abbrev tells : TellsForks rules holds_fork
      tells = tells_forks rules

      module _ (text : Bytes) (found : start_text u env rules holds_fork r label presence ≡ Some text) where
        abbrev D : Given
        D = giving label text nothing_given

        start_there : Contains (candidates_in u (rule_row u env r) label) text × (has_presence presence text ≡ true)
        start_there = found_in (has_presence presence) (candidates_in u (rule_row u env r) label) text found

        only_label : (name t : Bytes) → Gave D name t → (name ≡ label) × (text ≡ t)
        only_label name t e = by (bytes_eq name label) refl e
          where
            by : (b : Bool) → bytes_eq name label ≡ b → cond b (Some text) None ≡ Some t → (name ≡ label) × (text ≡ t)
            by true is e = let q : text ≡ t = cc in (true_same name label is, q)
            by false is e = absurd (cc)

        given : Gave D label text
        given = ap (λ b. cond b (Some text) None) (Rattle.lf_laws.proofs.Members.same_true label label refl)

        held : HoldsGiven u (row_of u env r.expr) D
        held = record {
          live = ap is_live (sym row_is) ∙ live;
          held = λ name t there e.
              let only = only_label name t e in
              let h : HoldsText u (rule_row u env r) label text = of_candidates u p label (small (label_of u label)) (in_row u (rule_row u env r) label) text start_there.0 in
              subst (λ row. HoldsText u row name t) row_is (subst (λ x. HoldsText u (rule_row u env r) x t) (sym only.0) (subst (λ x. HoldsText u (rule_row u env r) label x) only.1 h));
        }

        answers : Answers u rules (row_of u env r.expr) (Reads rules r.expr) (length (selectors r.expr)) (λ X. StrictlyEvaluates X r.expr)
            (build u env rules holds_fork r.expr (builder u env rules holds_fork (build_by_rule u env rules holds_fork (length rules) (i ∷ [])) r.expr) D) D
        answers =
            (made_of_rule u rules p small env holds_fork tells covers unnamed least.of_rules (union_is holds_fork tells) least.closed (last_is u p rules covers env least) i r at none).answers D held
            (inr (label, λ name t there e. (only_label name t e).0))

        -- the steps are rules of the reach, and none of them is the rule itself
        not_itself : (b : Building) (one : Labels) → Gives rules (Reads rules r.expr) (length (selectors r.expr)) b (λ X. StrictlyEvaluates X r.expr) one → Contains b.steps i → ⊥
        not_itself b one gives c =
            let q = gives.steps_read i c in
            let same : q.0 ≡ r = one_rule i q.0 refl q.1 in
            let reads : Reads rules r.expr r.name = subst (λ (x : RuleTree). Reads rules r.expr x.name) same q.3 in
            read_acyclic rules r.expr none r.name reads (r, member_at rules i r at, (subst (λ (x : RuleTree). x.alert ≡ false) same q.2, refl), reads)

        bounded : (b : Building) (one : Labels) → Gives rules (Reads rules r.expr) (length (selectors r.expr)) b (λ X. StrictlyEvaluates X r.expr) one → b.selectors ≤ 4 * selector_count rules (with_reach i (reach_of rules r.expr))
        bounded b one gives =
            let reach = is_reach_of rules r.expr in
            let most = count_most rules (i ∷ b.steps) (with_reach i (reach_of rules r.expr)) (not_itself b one gives, gives.steps_once) (λ k c. inside k c) in
            let front = count_front rules i b.steps in
            let own : selector_count rules (i ∷ []) ≡ length (selectors r.expr) =
            ap (λ (o : Option RuleTree). sum (map (λ r. length (selectors r.expr)) (option_to_list o ++ []))) at ∙ (let f = sum_cons (length (selectors r.expr)) [] in omega (arith, f)) in
            let few = gives.few in
            omega (arith, most, front, own, few)
          where
            inside : (k : ℕ) → Contains (i ∷ b.steps) k → Contains (with_reach i (reach_of rules r.expr)) k
            inside k c = elim (first_or_behind i b.steps k c) [
              | inl e ↦ subst (Contains (with_reach i (reach_of rules r.expr))) e (self_in_reach rules i (reach_of rules r.expr))
              | inr d ↦
                  let q = gives.steps_read k d in
                  in_reach rules i (reach_of rules r.expr) k (((is_reach_of rules r.expr).members k).1 (q.0, q.1, (q.2, q.3)))
            ]

        shown_text : (shown : Shown) × ShowsBuilt u env rules i label presence shown
        shown_text =
            let a = answers in
            let alone = gives_alone r.expr (length (selectors r.expr)) a.building a.one a.gives in
            let value : value_of a.one label ≡ text = a.agrees label text listed given in
            let trial : Trial = built_trial a.building in (
              record { trial = trial; sample = a.one },
              (
                record {
                  holds_fork = holds_fork;
                  tells_forks = tells;
                  rule = r;
                  is_rule = at;
                  reach = reach_of rules r.expr;
                  is_reach = is_reach_of rules r.expr;
                  built = a.building;
                  is_built = ap (option_and_then (λ text. build u env rules holds_fork r.expr (builder u env rules holds_fork (build_by_rule u env rules holds_fork (length rules) (i ∷ [])) r.expr) (giving label text nothing_given))) found ∙ a.is_built;
                  bounded = bounded a.building a.one a.gives;
                  is_trial = refl;
                },
                record {
                  rule = r;
                  is_rule = at;
                  stored = alone.0;
                  is_stored = alone.1;
                  samples = a.one ∷ [];
                  are_samples = (inr (evaluated, (alone.2 alone.0 (λ s read. ((λ c. c), λ c. c))).0), alone_ascends a.one);
                  is_sample = ap (λ b. cond b (Some a.one) None) (ap (has_presence presence) value ∙ start_there.1);
                },
              ),
            )

      -- For each label and presence that the row leaves, the built world exists and shows it.
      pub shown : leaves u (rule_row u env r) label presence ≡ true → (shown : Shown) × ShowsBuilt u env rules i label presence shown
      shown left = by (start_text u env rules holds_fork r label presence) refl left
        where
          by : (o : Option Bytes) → start_text u env rules holds_fork r label presence ≡ o → is_some o ≡ true → (shown : Shown) × ShowsBuilt u env rules i label presence shown
          by None e is = absurd (cc)
          by (Some text) e is = shown_text text e

    pub all_shown : ShowsAllLeft u env rules i r
    all_shown label listed presence left = shown label listed presence left

    -- so no label stays unresolved
    pub never_unresolved : ResolvesEach u env rules i r
    never_unresolved label listed (left, inl unshown) = let s = shown label listed true left.0 in unshown s.0 (inl s.1)
    never_unresolved label listed (left, inr unshown) = let s = shown label listed false left.1 in unshown s.0 (inl s.1)

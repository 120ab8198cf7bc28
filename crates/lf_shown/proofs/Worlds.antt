-- Steps one after the other, and what is given by worlds that are put together.
use Rattle.std.proofs.Common.{◌≡◌, inl, inr, ◌≤◌, ◌+◌, ℕ, List, [], ◌∷◌, ◌++◌, length, map, Option, Some, None, sym, ◌∙◌, ap, subst, arith, slice_get}
use Rattle.std.specs.List.{Contains, sum}
use Rattle.std.proofs.lemmas.List.Elements.{Contains-append_left, Contains-append_right, Contains-append_cases}
use Rattle.std.proofs.lemmas.List.Sums.{sum_by-append}
use Rattle.lf_laws.proofs.Members.{behind, here}
use Rattle.lf_ast.specs.Labels.{Bytes, Labels}
use Rattle.lf_ast.specs.Rules.{RuleTree}
use Rattle.lf_ast.specs.Selectors.{metric}
use Rattle.lf_semantics.specs.Listing.{AreDistinct}
use Rattle.lf_semantics.specs.Texts.{value_of}
use Rattle.lf_deps.specs.Reading.{selectors}
use Rattle.lf_witness.specs.Strict.{Outcomes}
use Rattle.lf_witness.specs.StrictRuns.{StrictlyStored, rules_at}
use Rattle.lf_witness.proofs.SameSets.{turned}
use Rattle.lf_witness.proofs.Answers.{stored_into}
use Rattle.lf_witness.proofs.RulesAt.{rules_both}
use Rattle.lf_trials.specs.Building.{Building, both}
use Rattle.lf_trials.specs.Built.{selector_count}
use Rattle.lf_shown.specs.Agreement.{AgreeOn, Extends, Gives, MetricNames}

-- ---- stored samples

pub stored_then : (rules later : List RuleTree) (W V T : List Labels) → StrictlyStored W rules (Some V) → StrictlyStored V later (Some T) → StrictlyStored W (rules ++ later) (Some T)
stored_then [] later W V T is then = stored_into later V W (turned W V is) (Some T) then
stored_then (r ∷ rules) later W V T (inl none) then = absurd none.1
stored_then (r ∷ rules) later W V T (inr some) then = inr (some.0, some.1, stored_then rules later (W ++ some.0) V T some.2 then)

-- ---- numbers

pub count_both : (rules : List RuleTree) (ks js : List ℕ) → selector_count rules (ks ++ js) ≡ selector_count rules ks + selector_count rules js
count_both rules ks js =
    ap (λ rs. sum (map (λ r. length (selectors r.expr)) rs)) (rules_both rules ks js)
    ∙ ap sum (Rattle.std.proofs.lemmas.List.map-append (λ r. length (selectors r.expr)) (rules_at rules ks) (rules_at rules js))
    ∙ sum_by-append (λ n. n) (map (λ r. length (selectors r.expr)) (rules_at rules ks)) (map (λ r. length (selectors r.expr)) (rules_at rules js))

pub once_both : (ks js : List ℕ) → AreDistinct ks → AreDistinct js → ((k : ℕ) → Contains ks k → Contains js k → ⊥) → AreDistinct (ks ++ js)
once_both [] js a b apart = b
once_both (k ∷ ks) js a b apart = (
  λ c. elim (Contains-append_cases ks js k c) [ inl d ↦ a.0 d | inr d ↦ apart k (here k ks) d ],
  once_both ks js a.1 b (λ j c d. apart j (behind k ks j c) d),
)

-- ---- agreement

pub agree_less : (Read Less : MetricNames) (W V : List Labels) → ((n : Bytes) → Less n → Read n) → AgreeOn Read W V → AgreeOn Less W V
agree_less Read Less W V into agree s less = agree s (into (value_of s metric) less)

module _ (rules : List RuleTree) where
  -- more names, more selectors
  pub gives_more : (Read More : MetricNames) (count most : ℕ) (b : Building) (f : List Labels → Outcomes) (one : Labels) → ((n : Bytes) → Read n → More n) → count ≤ most → Gives rules Read count b f one → Gives rules More most b f one
  gives_more Read More count most b f one into less g = record {
    series_read = λ s c. into (value_of s metric) (g.series_read s c);
    steps_read = λ k c. let r = g.steps_read k c in (r.0, r.1, r.2, into r.0.name r.3);
    steps_once = g.steps_once;
    few = let h = g.few in omega (arith, h, less);
    runs = λ W agree.
        let run = g.runs W (agree_less More Read W b.series into agree) in (
          run.0,
          run.1,
          record { kept = run.2.kept; further = λ s c. elim (run.2.further s c) [ inl d ↦ inl d | inr d ↦ inr (into (value_of s metric) d) ] },
          λ X agree. run.3 X (agree_less More Read X run.0 into agree),
        );
  }

  -- what is made of the one sample
  pub gives_mapped : (Read : MetricNames) (count : ℕ) (b : Building) (f g : List Labels → Outcomes) (one other : Labels) → ((X : List Labels) → f X (Some (one ∷ [])) → g X (Some (other ∷ []))) → Gives rules Read count b f one
      → Gives rules Read count b g other
  gives_mapped Read count b f g one other into is = record {
    series_read = is.series_read;
    steps_read = is.steps_read;
    steps_once = is.steps_once;
    few = is.few;
    runs = λ W agree. let run = is.runs W agree in (run.0, run.1, run.2, λ X agree. into X (run.3 X agree));
  }

  same_rule : (k : ℕ) (r q : RuleTree) → slice_get rules k ≡ Some r → slice_get rules k ≡ Some q → r ≡ q
  same_rule k r q a b = ap (λ (o : Option RuleTree). elim o [ None ↦ r | Some z ↦ z ]) (sym a ∙ b)

  -- two sides whose names are apart
  module _ (Left Right Read : MetricNames) (into_left : (n : Bytes) → Left n → Read n) (into_right : (n : Bytes) → Right n → Read n) (apart : (n : Bytes) → Left n → Right n → ⊥) where
    module _ (count most : ℕ) (b c : Building) (f g h : List Labels → Outcomes) (one other third : Labels) (of_left : Gives rules Left count b f one) (of_right : Gives rules Right most c g other)
        (pair : (X : List Labels) → f X (Some (one ∷ [])) → g X (Some (other ∷ [])) → h X (Some (third ∷ []))) where
      left_agrees : (W : List Labels) → AgreeOn Read W (b.series ++ c.series) → AgreeOn Left W b.series
      left_agrees W agree s l =
          let both_ways = agree s (into_left (value_of s metric) l) in (
            λ d. elim (Contains-append_cases b.series c.series s (both_ways.0 d)) [ inl e ↦ e | inr e ↦ absurd (apart (value_of s metric) l (of_right.series_read s e)) ],
            λ d. both_ways.1 (Contains-append_left b.series c.series s d),
          )

      right_agrees : (W V : List Labels) → AgreeOn Read W (b.series ++ c.series) → Extends Left W V → AgreeOn Right V c.series
      right_agrees W V agree more s r =
          let both_ways = agree s (into_right (value_of s metric) r) in (
            λ d. elim (more.further s d) [
              | inl e ↦ elim (Contains-append_cases b.series c.series s (both_ways.0 e)) [ inl e ↦ absurd (apart (value_of s metric) (of_left.series_read s e) r) | inr e ↦ e ]
              | inr l ↦ absurd (apart (value_of s metric) l r)
            ],
            λ d. more.kept s (both_ways.1 (Contains-append_right b.series c.series s d)),
          )

      pub gives_both : Gives rules Read (count + most) (both b c) h third
      gives_both = record {
        series_read = λ s d. elim (Contains-append_cases b.series c.series s d) [ inl e ↦ into_left (value_of s metric) (of_left.series_read s e) | inr e ↦ into_right (value_of s metric) (of_right.series_read s e) ];
        steps_read = λ k d. elim (Contains-append_cases b.steps c.steps k d) [
          | inl e ↦ let r = of_left.steps_read k e in (r.0, r.1, r.2, into_left r.0.name r.3)
          | inr e ↦ let r = of_right.steps_read k e in (r.0, r.1, r.2, into_right r.0.name r.3)
        ];
        steps_once = once_both b.steps c.steps of_left.steps_once of_right.steps_once (λ k d e.
            let r = of_left.steps_read k d in
            let q = of_right.steps_read k e in
            apart r.0.name r.3 (subst (λ (x : RuleTree). Right x.name) (same_rule k q.0 r.0 q.1 r.1) q.3));
        few = let h = of_left.few in let k = of_right.few in let n = count_both rules b.steps c.steps in omega (arith, h, k, n);
        runs = λ W agree.
            let first = of_left.runs W (left_agrees W agree) in
            let then = of_right.runs first.0 (right_agrees W first.0 agree first.2) in (
              then.0,
              subst (λ rs. StrictlyStored W rs (Some then.0)) (sym (rules_both rules b.steps c.steps)) (stored_then (rules_at rules b.steps) (rules_at rules c.steps) W first.0 then.0 first.1 then.1),
              record {
                kept = λ s d. then.2.kept s (first.2.kept s d);
                further = λ s d. elim (then.2.further s d) [
                  | inl e ↦ elim (first.2.further s e) [ inl e ↦ inl e | inr l ↦ inr (into_left (value_of s metric) l) ]
                  | inr r ↦ inr (into_right (value_of s metric) r)
                ];
              },
              λ X agrees. pair X
                  (first.3 X (λ s l. let two = agrees s (into_left (value_of s metric) l) in (
                    λ d. elim (then.2.further s (two.0 d)) [ inl e ↦ e | inr r ↦ absurd (apart (value_of s metric) l r) ],
                    λ d. two.1 (then.2.kept s d),
                  )))
                  (then.3 X (agree_less Read Right X then.0 into_right agrees)),
            );
      }

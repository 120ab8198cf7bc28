-- The definitions of reports on files on worked cases, by computation.
use Rattle.std.proofs.Common.{◌≡◌, inl, inr, ℕ, Bool, false, true, List, [], ◌∷◌, codes, length, Some, None, refl, sym, arith}
use Rattle.lf_ast.specs.Rules.{RuleTree}
use Rattle.lf_ast.specs.Tree.{Tree}
use Rattle.lf_ast.specs.declared.verdict.RuleVerdicts.TheVariants as told_rule
use Rattle.lf_ast.specs.declared.verdict.Verdict.TheVariants as told
use Rattle.lf_base.specs.declared.kind.Kind.TheVariants.{BadUtf8}
use Rattle.lf_base.specs.declared.place.Span.{Span}
use Rattle.lf_checks.specs.Finding.{ExprEmpty, PromqlRegexp, finding}
use Rattle.lf_open.specs.declared.construct.Construct.TheVariants.{CyclicName, SharedMetric}
use Rattle.lf_open.specs.declared.open_at.OpenAt.{OpenAt}
use Rattle.lf_report.specs.declared.report.Severity.TheVariants as grave
use Rattle.lf_trials.specs.Trials.{Shown}
use Rattle.lf_trials.specs.Verdicts.{Empty, Guaranteed, Labels as Each, LabelVerdict, Possible, Unresolved}
use Rattle.lf_judge.specs.Founds.{Refused, Rules, accepted}
use Rattle.lf_judge.specs.Judged.{Checked, files_told, has_unresolved, rules_told, verdicts_told}
use Rattle.lf_judge.specs.Limits.{Exceeds, word_count}

abbrev at : ℕ → Span
at start = record { start = start; end = start }

-- of a file that is refused the cause is told
told_files : (x y : List ℕ) → files_told (record { name = codes "a.yml"; bytes = x } ∷ record { name = codes "b.yml"; bytes = y } ∷ []) (Rules [] ∷ Refused BadUtf8 (at 3) ∷ [])
    ≡ record { name = codes "a.yml"; source = x; refusal = None } ∷ record { name = codes "b.yml"; source = y; refusal = Some (record { kind = BadUtf8; span = at 3 }) } ∷ []
told_files x y = refl

module _ (expr : Tree) where
  abbrev rule : ℕ → RuleTree
  rule file = record { file = file; alert = false; name = codes "a"; name_span = at 3; expr = expr; expr_span = at 8; labels = []; templates = [] }

  -- a refused file has no rules, and those of the files behind it follow
  those_accepted : accepted (Rules (rule 0 ∷ []) ∷ Refused BadUtf8 (at 2) ∷ Rules (rule 2 ∷ rule 2 ∷ []) ∷ []) ≡ rule 0 ∷ rule 2 ∷ rule 2 ∷ []
  those_accepted = refl

  module _ (present absent : Shown) where
    -- an operator of the first rule, between sides that read a common metric
    abbrev shared : OpenAt
    shared = record { construct = SharedMetric; rule = 0; span = at 5 }

    -- an empty rule, and one whose first label is on every sample, whose second one may be there and may be lacking, and of whose third one nothing is known, for what the first rule
    -- holds
    abbrev those : List Checked
    those =
        record { rule = rule 0; verdict = Empty; first = None; found = [] }
        ∷ record { rule = rule 2; verdict = Each (Guaranteed ∷ Possible present absent ∷ Unresolved ∷ []); first = Some shared; found = finding ExprEmpty (at 8) (codes "x") ∷ finding PromqlRegexp (at 9) (codes "y") ∷ [] } ∷ []

    -- where the verdicts on labels are asked for, what stays unresolved names the construct, and the rule that holds it by its number, counted over all files
    told_with : rules_told true 0 those
        ≡ record { file = 0; alert = false; name = codes "a"; name_span = at 3; verdicts = Some told_rule.Empty; empty = true; findings = [] }
        ∷ record {
          file = 2;
          alert = false;
          name = codes "a";
          name_span = at 3;
          verdicts = Some (told_rule.Labels (told.Guaranteed ∷ told.Possible (record { series = present.trial.series; steps = present.trial.steps; sample = present.sample })
              (record { series = absent.trial.series; steps = absent.trial.steps; sample = absent.sample }) ∷ told.Unresolved 1 0 (at 5) ∷ []));
          empty = false;
          findings = record { check = codes "expr/empty"; severity = grave.Problem; span = at 8; text = codes "x" } ∷ record { check = codes "promql/regexp"; severity = grave.Note; span = at 9; text = codes "y" } ∷ [];
        } ∷ []
    told_with = refl

    -- where they aren't, it is told all the same that a rule is empty
    told_without : rules_told false 0 those
        ≡ record { file = 0; alert = false; name = codes "a"; name_span = at 3; verdicts = None; empty = true; findings = [] }
        ∷ record {
          file = 2;
          alert = false;
          name = codes "a";
          name_span = at 3;
          verdicts = None;
          empty = false;
          findings = record { check = codes "expr/empty"; severity = grave.Problem; span = at 8; text = codes "x" } ∷ record { check = codes "promql/regexp"; severity = grave.Note; span = at 9; text = codes "y" } ∷ [];
        } ∷ []
    told_without = refl

  -- each label that stays unresolved names the same construct, and no other verdict names it
  told_open : verdicts_told (Some (record { construct = CyclicName; rule = 4; span = at 6 })) 2 (rule 1) (Each (Unresolved ∷ Guaranteed ∷ Unresolved ∷ []))
      ≡ told_rule.Labels (told.Unresolved 7 4 (at 6) ∷ told.Guaranteed ∷ told.Unresolved 7 4 (at 6) ∷ [])
  told_open = refl

  -- where nothing stood open, the rule's own expression would be named
  told_closed : verdicts_told None 2 (rule 1) (Each (Unresolved ∷ [])) ≡ told_rule.Labels (told.Unresolved 0 2 (at 8) ∷ [])
  told_closed = refl

-- a rule stays unresolved by any of its labels, and an empty one never does
some_unresolved : (verdict : LabelVerdict) → has_unresolved (Each (Guaranteed ∷ Unresolved ∷ verdict ∷ [])) ≡ true
some_unresolved verdict = refl

none_unresolved : (present absent : Shown) → has_unresolved (Each (Guaranteed ∷ Possible present absent ∷ [])) ≡ false
none_unresolved present absent = refl

none_of_empty : has_unresolved Empty ≡ false
none_of_empty = refl

-- ---- limits

-- no rule has no word
no_words : word_count [] ≡ 0
no_words = refl

-- 20001 rules are too many
too_many : (labels : Bool) (rules : List RuleTree) → length rules ≡ 20001 → Exceeds labels rules 4 20001
too_many labels rules n = inl (refl, sym n, omega (arith, n))

-- and 20000 aren't, whichever other limit they pass
not_too_many : (labels : Bool) (rules : List RuleTree) (count : ℕ) → length rules ≡ 20000 → Exceeds labels rules 4 count → ⊥
not_too_many labels rules count n (inl (quantity, is, more)) = omega (arith, n, is, more)
not_too_many labels rules count n (inr (fit, inl (quantity, is, more))) = omega (arith, quantity)
not_too_many labels rules count n (inr (fit, inr (labels_fit, inl (quantity, is, more)))) = omega (arith, quantity)
not_too_many labels rules count n (inr (fit, inr (labels_fit, inr (classes_fit, inl (quantity, is, more))))) = omega (arith, quantity)
not_too_many labels rules count n (inr (fit, inr (labels_fit, inr (classes_fit, inr (words_fit, asked, quantity, much))))) = omega (arith, quantity)

-- where no verdicts on labels are asked for, there is no limit on trials
never_tried : (rules : List RuleTree) (count : ℕ) → Exceeds false rules 8 count → ⊥
never_tried rules count (inl (quantity, is, more)) = omega (arith, quantity)
never_tried rules count (inr (fit, inl (quantity, is, more))) = omega (arith, quantity)
never_tried rules count (inr (fit, inr (labels_fit, inl (quantity, is, more)))) = omega (arith, quantity)
never_tried rules count (inr (fit, inr (labels_fit, inr (classes_fit, inl (quantity, is, more))))) = omega (arith, quantity)
never_tried rules count (inr (fit, inr (labels_fit, inr (classes_fit, inr (words_fit, asked, quantity, much))))) = cc

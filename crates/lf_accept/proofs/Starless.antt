-- No label of the universe of accepted rules is `*`: so in a report `*` stands for every other label, and for nothing else.
use Rattle.std.proofs.Common.{◌≡◌, ◌≢◌, ℕ, Bool, true, false, List, [], ◌∷◌, map, subst}
use Rattle.std.specs.Prelude.{cond}
use Rattle.std.specs.List.{AllByRecursion, AllZip, Contains}
use Rattle.lf_ast.specs.Labels.{Bytes}
use Rattle.lf_ast.specs.Rules.{RuleTree}
use Rattle.lf_ast.specs.declared.rule.RuleLabel.{RuleLabel}
use Rattle.lf_rules.specs.Sources.{Source}
use Rattle.lf_base.specs.Names.{is_label_name}
use Rattle.lf_semantics.specs.Listing.{universe_of}
use Rattle.lf_ast.specs.Selectors.{metric}
use Rattle.lf_semantics.specs.Mentions.{Mention, mention, rule_mentions, rules_mentions, mentions}
use Rattle.lf_semantics.proofs.ListingLaws.{of_first_seen}
use Rattle.lf_semantics.proofs.Members.{one_of, here, behind}
use Rattle.lf_accept.specs.Accepted.{IsAccepted, IsAcceptedRule}
use Rattle.lf_accept.proofs.AcceptedRules.{accepted_rule}
use Rattle.lf_accept.proofs.StarlessTrees.{NoneStar, none_star_append, metric_differs, star, starless, star_is_none}

set_labels_free : (ls : List RuleLabel) → AllByRecursion (λ l. is_label_name l.key ≡ true) ls → NoneStar (map (λ l. mention l.key (l.value ∷ [])) ls)
set_labels_free [] h = tt
set_labels_free (l ∷ ls) h = ((λ e. star_is_none (subst (λ t. is_label_name t ≡ true) e h.0)), set_labels_free ls h.1)

recorded_free : (r : RuleTree) (alert : Bool) → AllByRecursion (λ l. is_label_name l.key ≡ true) r.labels → NoneStar (cond alert [] (mention metric (r.name ∷ []) ∷ map (λ l. mention l.key (l.value ∷ [])) r.labels))
recorded_free r true h = tt
recorded_free r false h = (metric_differs, set_labels_free r.labels h)

-- the expressions of rules

abbrev IsWalkedFree : RuleTree → Type 0
IsWalkedFree r = NoneStar (mentions r.expr)

module _ (file : ℕ) where
  each_expr_free : (sources : List Source) (rules : List RuleTree) → AllZip (IsAcceptedRule file) sources rules → AllByRecursion IsWalkedFree rules
  each_expr_free [] [] all = tt
  each_expr_free [] (r ∷ rules) all = absurd all
  each_expr_free (s ∷ sources) [] all = absurd all
  each_expr_free (s ∷ sources) (r ∷ rules) all =
      let is = all.0.0 in
      (starless s.expr.from s.expr.text is.tokens r.expr is.judged.type is.are_tokens is.expression.1 is.judged.has_type, each_expr_free sources rules all.1)

  rules_free : (rules : List RuleTree) → AllByRecursion IsWalkedFree rules → ((r : RuleTree) → Contains rules r → AllByRecursion (λ l. is_label_name l.key ≡ true) r.labels) → NoneStar (rules_mentions rules)
  rules_free [] walked labels = tt
  rules_free (r ∷ rules) walked labels =
      none_star_append (rule_mentions r) (rules_mentions rules) (none_star_append (mentions r.expr) _ walked.0 (recorded_free r r.alert (labels r (here r rules))))
      (rules_free rules walked.1 (λ x c. labels x (behind r rules x c)))

labels_differ : (items : List Mention) → NoneStar items → AllByRecursion (λ label. label ≢ star) (map (λ m. m.label) items)
labels_differ [] h = tt
labels_differ (m ∷ items) h = (h.0, labels_differ items h.1)

pub no_star : (bytes : Bytes) (file : ℕ) (rules : List RuleTree) → IsAccepted bytes file rules → (name : Bytes) → Contains (universe_of rules).names name → name ≢ star
no_star bytes file rules a name c =
    let walked : NoneStar (rules_mentions rules) = rules_free file rules (each_expr_free file a.sources rules a.are_rules) (λ r d. (accepted_rule bytes file rules a r d).labels) in
    one_of (λ label. label ≢ star) (metric ∷ map (λ m. m.label) (rules_mentions rules)) name (metric_differs, labels_differ (rules_mentions rules) walked) (of_first_seen (metric ∷ map (λ m. m.label) (rules_mentions rules)) name c)

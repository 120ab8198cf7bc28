-- Which selectors narrow what a fork gives.
use Rattle.std.proofs.Common.{◌≡◌, ◌⊎◌, ◌↔◌, inl, inr, Bool, true, false, true≢false, not, ◌&&◌, IsTrue, List, Option, Some, None, is_some, refl, sym, ap, ◌∙◌, subst}
use Rattle.std.specs.List.{list_any}
use Rattle.std.proofs.lemmas.Bool.{and_from, not-true}
use Rattle.lf_laws.proofs.Members.{any_has, some_has}
use Rattle.lf_laws.proofs.Booleans.{and_left, and_right}
use Rattle.lf_ast.specs.Labels.{Bytes}
use Rattle.lf_ast.specs.Rules.{RuleTree}
use Rattle.lf_ast.specs.Selectors.{selected_name}
use Rattle.lf_ast.specs.Tree.{Tree, Number, Str, Selector, Subquery, Paren, Unary, Binary, Call, Aggregate}
use Rattle.lf_semantics.specs.Grouped.{is_metric}
use Rattle.lf_semantics.proofs.ScalarCalls.{selector_is_no_scalar}
use Rattle.lf_trials.specs.Reached.{has_several_rules}
use Rattle.lf_trials.specs.Forks.{has_passing}
use Rattle.lf_forks.specs.views.ForkTests.{SelectsFork, TellsSelectors}
use Rattle.lf_open.specs.Constructs.{HasForkInMaking, NarrowsFork}
use Rattle.lf_open.specs.views.Names.{narrows}
use Rattle.lf_open.proofs.ByOperator.{never}

module _ (rules : List RuleTree) where
  -- a name with a fork in its making
  forth : (name : Bytes) → SelectsFork rules (Some name) → (has_several_rules rules name ≡ true) ⊎ HasForkInMaking rules name
  forth name (inl several) = inl several
  forth name (inr (r, fork, inl same)) = inr (r, fork.rule, (fork.recording, same), inl fork.fork)
  forth name (inr (r, fork, inr (s, there, records, reads))) = inr (s, there, records, inr (r, fork.rule, (fork.recording, reads), fork.fork))

  back : (name : Bytes) → (has_several_rules rules name ≡ true) ⊎ HasForkInMaking rules name → SelectsFork rules (Some name)
  back name (inl several) = inl several
  back name (inr (r, there, records, inl own)) = inr (r, record { rule = there; recording = records.0; fork = own }, inl records.1)
  back name (inr (r, there, records, inr (q, c, reaches, own))) = inr (q, record { rule = c; recording = reaches.0; fork = own }, inr (r, there, records, reaches.1))

  pub narrowing : (test : Option Bytes → Bool) → TellsSelectors rules test → (e : Tree) → IsTrue (narrows e && has_passing test e) ↔ NarrowsFork rules e
  narrowing test tells (Number text span) = (λ h. never h, λ h. absurd h.0.1)
  narrowing test tells (Str text span) = (λ h. never h, λ h. absurd h.0.1)
  narrowing test tells (Selector name matchers sight span) =
      subst (λ (b : Bool). IsTrue ((is_some (selected_name name matchers) && list_any (λ m. not (is_metric m.label)) matchers) && (not b && test (selected_name name matchers))) ↔ NarrowsFork rules (Selector name matchers sight span)) (sym (selector_is_no_scalar sight.range))
      (by (selected_name name matchers) refl)
    where
      by : (o : Option Bytes) → selected_name name matchers ≡ o → IsTrue ((is_some o && list_any (λ m. not (is_metric m.label)) matchers) && test o) ↔ NarrowsFork rules (Selector name matchers sight span)
      by None is = (λ h. never h, λ h. absurd (true≢false (sym (ap is_some (sym is ∙ h.1.1)))))
      by (Some n) is = (to, from)
        where
          to : (list_any (λ m. not (is_metric m.label)) matchers && test (Some n)) ≡ true → NarrowsFork rules (Selector name matchers sight span)
          to h =
              let any = list_any (λ m. not (is_metric m.label)) matchers in
              let m = some_has (λ m. not (is_metric m.label)) matchers (and_left any (test (Some n)) h) in
              ((m.0, m.1, not-true (is_metric m.0.label) m.2), (n, is, forth n ((tells (Some n)).0 (and_right any (test (Some n)) h))))

          from : NarrowsFork rules (Selector name matchers sight span) → (list_any (λ m. not (is_metric m.label)) matchers && test (Some n)) ≡ true
          from ((m, c, other), (said, says, fork)) =
              and_from (list_any (λ m. not (is_metric m.label)) matchers) (test (Some n)) (any_has (λ m. not (is_metric m.label)) matchers m c (ap not other)) (ap test (sym is ∙ says) ∙ (tells (Some said)).1 (back said fork))
  narrowing test tells (Subquery of sight span) = (λ h. never h, λ h. absurd h.0.1)
  narrowing test tells (Paren of span) = (λ h. never h, λ h. absurd h.0.1)
  narrowing test tells (Unary minus of span) = (λ h. never h, λ h. absurd h.0.1)
  narrowing test tells (Binary op m left right span) = (λ h. never h, λ h. absurd h.0.1)
  narrowing test tells (Call name args span) = (λ h. never h, λ h. absurd h.0.1)
  narrowing test tells (Aggregate op grouping args span) = (λ h. never h, λ h. absurd h.0.1)

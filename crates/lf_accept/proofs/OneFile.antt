-- A file has one list of rules or one refusal, and never both.
use Rattle.std.proofs.Common.{◌≡◌, ◌⊎◌, inl, inr, ◌∙◌, ℕ, List, [], ◌∷◌, ◌++◌, refl, sym, ap, subst}
use Rattle.std.specs.List.{AllByRecursion, AllZip}
use Rattle.lf_base.specs.declared.fault.Fault.{Fault}
use Rattle.lf_base.specs.Answers.{OneAnswer}
use Rattle.lf_ast.specs.Labels.{Bytes}
use Rattle.lf_ast.specs.Rules.{RuleTree}
use Rattle.lf_ast.specs.Tree.{Tree}
use Rattle.lf_rules.specs.Breaches.{FirstBreak}
use Rattle.lf_rules.specs.Rules.{IsRules}
use Rattle.lf_rules.specs.Sources.{Source}
use Rattle.lf_rules.proofs.Answering.{one_answer as one_list}
use Rattle.lf_yaml.specs.Document.{IsTree, TreeBreaks}
use Rattle.lf_yaml.proofs.Whole.{one-answer}
use Rattle.lf_accept.specs.Accepted.{BreaksExpr, HasExpr, IsAccepted, IsExpr, IsFirst, IsAcceptedRule, RefusesFile, Says, bad_expression, no_rules, no_tree, rule_of}
use Rattle.lf_accept.proofs.Chained.{Both, BreaksEither, FirstBreaks, chained, each_in_turn, in_other_words}
use Rattle.lf_accept.proofs.OneExpr.{one_expr}

-- ---- rules

abbrev BreaksSource : Source → Fault → Type 0
BreaksSource s = BreaksExpr s.expr

module _ (file : ℕ) where
  one_rule_of : (s : Source) (r p : RuleTree) → IsAcceptedRule file s r → IsAcceptedRule file s p → r ≡ p
  one_rule_of s r p h k = h.1 ∙ ap (rule_of file s) ((one_expr s.expr).value r.expr p.expr h.0 k.0) ∙ sym k.1

  some_rule : (s : Source) → ((e : Tree) × IsExpr s.expr e) ⊎ ((f : Fault) × BreaksSource s f) → ((r : RuleTree) × IsAcceptedRule file s r) ⊎ ((f : Fault) × BreaksSource s f)
  some_rule s (inl e) = inl (rule_of file s e.0, (e.1, refl))
  some_rule s (inr f) = inr f

  one_rule : (s : Source) → OneAnswer (IsAcceptedRule file s) (BreaksSource s)
  one_rule s = record {
    value = one_rule_of s;
    breach = (one_expr s.expr).breach;
    one = λ r f h k. (one_expr s.expr).one r.expr f h.0 k;
    some = some_rule s (one_expr s.expr).some;
  }

  -- the first rule that breaks something, in the words of the definition

  abbrev HasFirst : List Source → Fault → Type 0
  HasFirst ss f = (s : Source) × IsFirst HasExpr (λ s. BreaksSource s f) ss s

  first_of : (ss : List Source) (f : Fault) → FirstBreaks (IsAcceptedRule file) BreaksSource one_rule ss f → HasFirst ss f
  first_of [] f h = absurd h
  first_of (s ∷ ss) f (inl h) = (s, record { front = []; back = ss; list = refl; all_before = tt; is_here = h })
  first_of (s ∷ ss) f (inr h) =
      let later = first_of ss f h.1 in
      let i = later.1 in
      (later.0, record { front = s ∷ i.front; back = i.back; list = ap (λ ys. s ∷ ys) i.list; all_before = ((h.0.0.expr, h.0.1.0), i.all_before); is_here = i.is_here })

  of_front : (front back : List Source) (s : Source) (f : Fault) → AllByRecursion HasExpr front → BreaksSource s f → FirstBreaks (IsAcceptedRule file) BreaksSource one_rule (front ++ s ∷ back) f
  of_front [] back s f h k = inl k
  of_front (x ∷ front) back s f h k = inr ((rule_of file x h.0.0, (h.0.1, refl)), of_front front back s f h.1 k)

  of_first : (ss : List Source) (f : Fault) → HasFirst ss f → FirstBreaks (IsAcceptedRule file) BreaksSource one_rule ss f
  of_first ss f h =
      let i = h.1 in
      let P : List Source → Type 0 = λ xs. FirstBreaks (IsAcceptedRule file) BreaksSource one_rule xs f in
      subst P (sym i.list) (of_front i.front i.back h.0 f i.all_before i.is_here)

  one_rules : (ss : List Source) → OneAnswer (AllZip (IsAcceptedRule file) ss) (HasFirst ss)
  one_rules ss =
      in_other_words (AllZip (IsAcceptedRule file) ss) (AllZip (IsAcceptedRule file) ss) (FirstBreaks (IsAcceptedRule file) BreaksSource one_rule ss) (HasFirst ss) (λ rs h. h) (λ rs h. h) (first_of ss) (of_first ss)
      (each_in_turn (IsAcceptedRule file) BreaksSource one_rule ss)

  pub all_have : (ss : List Source) (rs : List RuleTree) → AllZip (IsAcceptedRule file) ss rs → AllByRecursion HasExpr ss
  all_have [] rs a = tt
  all_have (s ∷ ss) [] a = absurd a
  all_have (s ∷ ss) (r ∷ rs) a = ((r.expr, a.0.0), all_have ss rs a.1)

-- ---- files

module _ (bytes : Bytes) where
  abbrev pub BreaksSays : Fault → Type 0
  BreaksSays = BreaksEither (IsTree bytes) (TreeBreaks bytes) IsRules FirstBreak

  pub one_says : OneAnswer (Says bytes) BreaksSays
  one_says = chained (IsTree bytes) (TreeBreaks bytes) IsRules FirstBreak (one-answer bytes) one_list

  module _ (file : ℕ) where
    abbrev Accepts : List RuleTree → Type 0
    Accepts = Both (Says bytes) BreaksSays (λ ss. AllZip (IsAcceptedRule file) ss) (HasFirst file)

    abbrev BreaksAccepts : Fault → Type 0
    BreaksAccepts = BreaksEither (Says bytes) BreaksSays (λ ss. AllZip (IsAcceptedRule file) ss) (HasFirst file)

    to : (rules : List RuleTree) → Accepts rules → IsAccepted bytes file rules
    to rules h = record { sources = h.0; says = h.1; are_rules = h.2 }

    from : (rules : List RuleTree) → IsAccepted bytes file rules → Accepts rules
    from rules h = (h.sources, h.says, h.are_rules)

    breaks : (f : Fault) → BreaksAccepts f → RefusesFile bytes f
    breaks f (inl (inl h)) = no_tree h
    breaks f (inl (inr h)) = no_rules h.1 h.2
    breaks f (inr h) = bad_expression h.1 h.2.1

    back : (f : Fault) → RefusesFile bytes f → BreaksAccepts f
    back f (no_tree h) = inl (inl h)
    back f (no_rules {t = t} is h) = inl (inr (t, is, h))
    back f (bad_expression {sources = ss} {s = s} says first) = inr (ss, says, (s, first))

    pub one_file : OneAnswer (IsAccepted bytes file) (RefusesFile bytes)
    one_file =
        in_other_words Accepts (IsAccepted bytes file) BreaksAccepts (RefusesFile bytes) to from breaks back
        (chained (Says bytes) BreaksSays (λ ss. AllZip (IsAcceptedRule file) ss) (HasFirst file) one_says (one_rules file))

-- Each step of the code finds what the definitions say.
use Rattle.std.proofs.Common.{◌≡◌, ◌∙◌, inl, inr, ◌+◌, ◌<◌, ◌≤◌, ℕ, suc, List, [], ◌∷◌, ◌++◌, map, length, take, drop, get_or, Result, Ok, Err, arith, sym, ap, subst}
use Rattle.std.specs.List.{AllZip, sum_by}
use Rattle.std.proofs.Math.Seq.{split_at}
use Rattle.std.proofs.lemmas.List.{map-append, take_more}
use Rattle.std.proofs.lemmas.List.Sums.{sum_by_push}
use Rattle.lf_laws.proofs.Slices.{zip_push}
use Rattle.lf_laws.proofs.Members.{each_member, in_map}
use Rattle.lf_base.specs.declared.fault.Fault.{Fault}
use Rattle.lf_base.specs.declared.refusal.Refusal.{Refusal}
use Rattle.lf_base.specs.declared.refusal.Refusal.TheVariants.{At, Memory}
use Rattle.lf_base.specs.Faults.{fault}
use Rattle.lf_base.specs.Answers.{Found, IfAt, Refused}
use Rattle.lf_ast.specs.Labels.{Bytes}
use Rattle.lf_ast.specs.Rules.{RuleTree, rule_tree, rule_trees}
use Rattle.lf_ast.specs.Tree.{Tree, tree}
use Rattle.lf_ast.specs.Types.{HasType}
use Rattle.lf_ast.specs.declared.expr.Expr.{Expr}
use Rattle.lf_ast.specs.declared.expr.ExprType.{ExprType}
use Rattle.lf_ast.specs.declared.rule.Rule.{Rule}
use Rattle.lf_lex.specs.Tokens.{Tokens, Breaks}
use Rattle.lf_lex.specs.declared.token.Token.{Token}
use Rattle.lf_parse.specs.Answer.{IsExpression, Refuses}
use Rattle.lf_rules.specs.Breaches.{FirstBreak}
use Rattle.lf_rules.specs.Sources.{Source, SourceInside, SourcesInside, source_in}
use Rattle.lf_rules.specs.declared.source.RuleInTree.{RuleInTree}
use Rattle.lf_scalar.specs.Cells.{Value}
use Rattle.lf_semantics.specs.PatternBreaches.{TellsPattern}
use Rattle.lf_yaml.specs.Document.{IsTree, TreeBreaks}
use Rattle.lf_yaml.specs.Tree.{Tree as FileTree}
use Rattle.lf_accept.specs.Accepted.{BreaksExpr, IsAccepted, IsExpr, IsAcceptedRule, RefusesFile, Says, bad_expression, bad_pattern, bad_tokens, end_of, no_expression, no_rules, no_tree, no_type}
use Rattle.lf_accept.specs.Allowance.{count_of_rule}
use Rattle.lf_accept.specs.Taken.{FileTakes}
use Rattle.lf_accept.specs.Taken as takes
use Rattle.lf_accept.specs.views.Checked.{AreJudged, BreakJudged, BreaksJudged, HasBreach}
use Rattle.lf_accept.proofs.OneFile.{all_have}

-- ---- a breach that follows from another

module _ (P Q : Fault → Type 0) (follows : (f : Fault) → P f → Q f) where
  pub at_by : (e : Refusal) → IfAt e P → IfAt e Q
  at_by Memory h = tt
  at_by (At kind span) h = follows (fault kind span) h

  pub refused_by : {X : Type 0} (r : Result X Refusal) → Refused P r → Refused Q r
  refused_by (Ok x) h = tt
  refused_by (Err e) h = at_by e h

-- ---- expressions

pub at_tokens : (v : Value) (e : Refusal) → IfAt e (Breaks v.from v.text) → IfAt e (BreaksExpr v)
at_tokens v = at_by (Breaks v.from v.text) (BreaksExpr v) (λ f h. bad_tokens h)

pub judged_at : (e : Tree) (t : ExprType) → HasType e t → {X : Type 0} (r : Result X Refusal) → Refused (TellsPattern e) r → Refused (BreaksJudged e) r
judged_at e t typed = refused_by (TellsPattern e) (BreaksJudged e) (λ f h. inr (t, typed, h))

pub at_syntax : (ts : List Token) (end : ℕ) (e : Refusal) → IfAt e (Refuses ts end) → IfAt e (BreakJudged ts end)
at_syntax ts end = at_by (Refuses ts end) (BreakJudged ts end) (λ f h. inl h)

pub at_judged : (ts : List Token) (end : ℕ) (expr : Tree) (e : Refusal) → IsExpression ts expr → IfAt e (BreaksJudged expr) → IfAt e (BreakJudged ts end)
at_judged ts end expr e x = at_by (BreaksJudged expr) (BreakJudged ts end) (λ f h. inr (expr, x, h)) e

pub is_expr : (v : Value) (ts : List Token) (r : Result Expr Refusal) → Tokens v.from v.text ts → Found tree (AreJudged ts) r → Found tree (IsExpr v) r
is_expr v ts (Ok e) h k = record { tokens = ts; are_tokens = h; expression = k.0; judged = k.1 }
is_expr v ts (Err e) h k = tt

module _ (v : Value) (ts : List Token) (end : ℕ) (is : end ≡ end_of v) (h : Tokens v.from v.text ts) where
  breaks_judged : (e : Tree) (f : Fault) → IsExpression ts e → BreaksJudged e f → BreaksExpr v f
  breaks_judged e f x (inl t) = no_type e h x t
  breaks_judged e f x (inr t) = bad_pattern e t.0 h x t.1 t.2

  breaks_read : (f : Fault) → BreakJudged ts end f → BreaksExpr v f
  breaks_read f (inl r) = no_expression h (subst (λ n. Refuses ts n f) is r)
  breaks_read f (inr t) = breaks_judged t.0 f t.1 t.2

  pub refuses_expr : {X : Type 0} (r : Result X Refusal) → Refused (BreakJudged ts end) r → Refused (BreaksExpr v) r
  refuses_expr = refused_by (BreakJudged ts end) (BreaksExpr v) breaks_read

-- ---- rules

module _ (file : ℕ) (sources : List RuleInTree) (i : ℕ) (s : RuleInTree) (inside : i < length sources) (is : s ≡ get_or sources i s) (rules : List Rule)
    (h : AllZip (IsAcceptedRule file) (map source_in (take i sources)) (rule_trees rules)) where
  more : map source_in (take (i + 1) sources) ≡ map source_in (take i sources) ++ source_in s ∷ []
  more = ap (map source_in) (take_more sources i s inside) ∙ map-append source_in (take i sources) (get_or sources i s ∷ []) ∙ ap (λ (x : RuleInTree). map source_in (take i sources) ++ source_in x ∷ []) (sym is)

  pub rules_more : (r : Rule) → IsAcceptedRule file (source_in s) (rule_tree r) → AllZip (IsAcceptedRule file) (map source_in (take (i + 1) sources)) (rule_trees (rules ++ r ∷ []))
  rules_more r k =
      let P : List RuleTree → Type 0 = λ rs. AllZip (IsAcceptedRule file) (map source_in (take (i + 1) sources)) rs in
      subst P (sym (map-append rule_tree rules (r ∷ [])))
      (subst (λ ss. AllZip (IsAcceptedRule file) ss (rule_trees rules ++ rule_tree r ∷ [])) (sym more) (zip_push (IsAcceptedRule file) (map source_in (take i sources)) (rule_trees rules) (source_in s) (rule_tree r) h k))

  pub cut : map source_in sources ≡ map source_in (take i sources) ++ source_in s ∷ map source_in (drop (suc i) sources)
  cut = ap (map source_in) (split_at sources i s inside) ∙ map-append source_in (take i sources) (get_or sources i s ∷ drop (suc i) sources)
      ∙ ap (λ (x : RuleInTree). map source_in (take i sources) ++ source_in x ∷ map source_in (drop (suc i) sources)) (sym is)

  pub first_breach : (e : Refusal) → IfAt e (BreaksExpr (source_in s).expr) → IfAt e (HasBreach (map source_in sources))
  first_breach = at_by (BreaksExpr (source_in s).expr) (HasBreach (map source_in sources)) (λ f k. (
    source_in s,
    record {
      front = map source_in (take i sources);
      back = map source_in (drop (suc i) sources);
      list = cut;
      all_before = all_have file (map source_in (take i sources)) (rule_trees rules) h;
      is_here = k;
    },
  ))

-- what the patterns of rules count, and what is left of the allowance, where a rule is read
pub counted_more : (rules : List Rule) (r : Rule) (start left now : ℕ) → start ≡ sum_by count_of_rule (rule_trees rules) + left → left ≡ count_of_rule (rule_tree r) + now → start ≡ sum_by count_of_rule (rule_trees (rules ++ r ∷ [])) + now
counted_more rules r start left now h k =
    let more = ap (sum_by count_of_rule) (map-append rule_tree rules (r ∷ [])) ∙ sum_by_push count_of_rule (rule_trees rules) (rule_tree r) in
    omega (arith, more, h, k)

-- the scalar of a rule's expression ends in the file
pub ends_inside : (n : ℕ) (sources : List RuleInTree) (i : ℕ) (s : RuleInTree) → i < length sources → s ≡ get_or sources i s → SourcesInside n (map source_in sources) → s.expr.now.span.end ≤ n
ends_inside n sources i s h is all = (each_member (SourceInside n) (map source_in sources) (source_in s) all (in_map source_in sources s (i, h, sym is))).expr.0.1

-- ---- files

pub at_tree : (bytes : Bytes) (e : Refusal) → IfAt e (TreeBreaks bytes) → IfAt e (RefusesFile bytes)
at_tree bytes = at_by (TreeBreaks bytes) (RefusesFile bytes) (λ f h. no_tree h)

pub none_at_tree : (bytes : Bytes) (e : Refusal) → IfAt e (TreeBreaks bytes) → IfAt e (λ f. FileTakes bytes 0)
none_at_tree bytes = at_by (TreeBreaks bytes) (λ f. FileTakes bytes 0) (λ f h. takes.no_tree h)

pub accepts : (file : ℕ) (bytes : Bytes) (ss : List Source) → Says bytes ss → {X : Type 0} (view : X → List RuleTree) (r : Result X Refusal) → Found view (AllZip (IsAcceptedRule file) ss) r → Found view (IsAccepted bytes file) r
accepts file bytes ss says view (Ok rules) h = record { sources = ss; says = says; are_rules = h }
accepts file bytes ss says view (Err e) h = tt

pub refuses_rule : (bytes : Bytes) (ss : List Source) → Says bytes ss → {X : Type 0} (r : Result X Refusal) → Refused (HasBreach ss) r → Refused (RefusesFile bytes) r
refuses_rule bytes ss says = refused_by (HasBreach ss) (RefusesFile bytes) (λ f h. bad_expression says h.1)

module _ (bytes : Bytes) (t : FileTree) (is : IsTree bytes t) where
  pub at_rules : (e : Refusal) → IfAt e (FirstBreak t) → IfAt e (RefusesFile bytes)
  at_rules = at_by (FirstBreak t) (RefusesFile bytes) (λ f h. no_rules is h)

  pub none_at_rules : (e : Refusal) → IfAt e (FirstBreak t) → IfAt e (λ f. FileTakes bytes 0)
  none_at_rules = at_by (FirstBreak t) (λ f. FileTakes bytes 0) (λ f h. takes.no_rules is h)

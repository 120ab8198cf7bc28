-- What is taken of an allowance for the patterns of a file: what the code takes is that, and there is one such count.
use Rattle.std.proofs.Common.{◌≡◌, ◌⊎◌, inl, inr, ◌+◌, ◌-◌, ◌<◌, ℕ, suc, List, [], ◌∷◌, ◌++◌, Result, Ok, Err, IfOk, map, length, take, drop, get_or, arith, refl, sym, ap, ap₂, subst, zero-add}
use Rattle.std.specs.List.{AllZip, sum_by}
use Rattle.std.proofs.lemmas.List.Sums.{sum_by-cons}
use Rattle.lf_base.specs.declared.fault.Fault.{Fault}
use Rattle.lf_base.specs.declared.refusal.Refusal.{Refusal}
use Rattle.lf_base.specs.Answers.{Found, IfAt, Refused}
use Rattle.lf_ast.specs.Breaches.{Tells}
use Rattle.lf_ast.specs.Labels.{Bytes}
use Rattle.lf_ast.specs.Rules.{RuleTree, rule_trees}
use Rattle.lf_ast.specs.Tree.{Tree}
use Rattle.lf_ast.specs.Types.{HasType}
use Rattle.lf_ast.specs.declared.expr.ExprType.{ExprType}
use Rattle.lf_ast.specs.declared.rule.Rule.{Rule}
use Rattle.lf_lex.specs.Tokens.{Tokens, Breaks}
use Rattle.lf_lex.specs.declared.token.Token.{Token}
use Rattle.lf_lex.proofs.TokenLaws.{one_answer as one_lexing}
use Rattle.lf_parse.specs.Answer.{IsExpression, Refuses}
use Rattle.lf_parse.proofs.Answering.{one_reading as one_parsing}
use Rattle.lf_rules.specs.Sources.{Source, source_in}
use Rattle.lf_rules.specs.declared.source.RuleInTree.{RuleInTree}
use Rattle.lf_scalar.specs.Cells.{Value}
use Rattle.lf_semantics.specs.PatternBreaches.{TellsPattern}
use Rattle.lf_accept.specs.Accepted.{BreaksExpr, IsExpr, IsAcceptedRule, Says, bad_pattern, bad_tokens, end_of, no_expression, no_type}
use Rattle.lf_accept.specs.Allowance.{count_in, count_of_rule}
use Rattle.lf_accept.specs.Taken.{FileTakes, IfTold, RulesTake, accepted, all_read, no_rules, no_tree, of_rules, refused, taken_at}
use Rattle.lf_accept.specs.views.Checked.{BreakJudged, BreaksJudged, judged_taken, read_taken}
use Rattle.lf_accept.proofs.OneExpr.{one_expr, one_type}
use Rattle.lf_accept.proofs.OneFile.{BreaksSays, one_says}
use Rattle.lf_accept.proofs.Steps.{at_by, cut, refused_by}

-- ---- an expression that is refused; so much was left before it is read, and so much is now

-- of a breach this is taken
abbrev pub JudgedFor : Tree → ℕ → ℕ → Fault → Type 0
JudgedFor e start now f = (breach : BreaksJudged e f) × (start ≡ judged_taken e f breach + now)

abbrev pub ReadFor : List Token → ℕ → ℕ → ℕ → Fault → Type 0
ReadFor ts end start now f = (breach : BreakJudged ts end f) × (start ≡ read_taken ts end f breach + now)

abbrev pub RefusedFor : Value → ℕ → ℕ → Fault → Type 0
RefusedFor v start now f = (breach : BreaksExpr v f) × (start ≡ taken_at breach + now)

pub no_type_taken : (e : Tree) (start : ℕ) (r : Refusal) → IfAt r (Tells e) → IfAt r (JudgedFor e start start)
no_type_taken e start = at_by (Tells e) (JudgedFor e start start) (λ f h. (inl h, sym (zero-add start)))

pub patterns_taken : (e : Tree) (t : ExprType) → HasType e t → (start now : ℕ) → start ≡ count_in e + now → {X : Type 0} (r : Result X Refusal) → Refused (TellsPattern e) r → Refused (JudgedFor e start now) r
patterns_taken e t typed start now is = refused_by (TellsPattern e) (JudgedFor e start now) (λ f h. (inr (t, typed, h), is))

pub no_syntax_taken : (ts : List Token) (end start : ℕ) (r : Refusal) → IfAt r (Refuses ts end) → IfAt r (ReadFor ts end start start)
no_syntax_taken ts end start = at_by (Refuses ts end) (ReadFor ts end start start) (λ f h. (inl h, sym (zero-add start)))

pub judged_so : (ts : List Token) (end : ℕ) (e : Tree) (start now : ℕ) (r : Refusal) → IsExpression ts e → IfAt r (JudgedFor e start now) → IfAt r (ReadFor ts end start now)
judged_so ts end e start now r is = at_by (JudgedFor e start now) (ReadFor ts end start now) (λ f h. (inr (e, is, h.0), h.1)) r

pub no_tokens_taken : (v : Value) (start : ℕ) (r : Refusal) → IfAt r (Breaks v.from v.text) → IfAt r (RefusedFor v start start)
no_tokens_taken v start = at_by (Breaks v.from v.text) (RefusedFor v start start) (λ f h. (bad_tokens h, sym (zero-add start)))

module _ (v : Value) (ts : List Token) (end : ℕ) (is : end ≡ end_of v) (h : Tokens v.from v.text ts) (start now : ℕ) where
  read_for : (f : Fault) → ReadFor ts end start now f → RefusedFor v start now f
  read_for f (inl r, taken) = (no_expression h (subst (λ n. Refuses ts n f) is r), taken)
  read_for f (inr (e, x, inl t), taken) = (no_type e h x t, taken)
  read_for f (inr (e, x, inr t), taken) = (bad_pattern e t.0 h x t.1 t.2, taken)

  pub read_so : {X : Type 0} (r : Result X Refusal) → Refused (ReadFor ts end start now) r → Refused (RefusedFor v start now) r
  read_so = refused_by (ReadFor ts end start now) (RefusedFor v start now) read_for

-- ---- rules

-- so much was left before, and so much is now
abbrev pub TakenOf : (ℕ → Type 0) → ℕ → ℕ → Type 0
TakenOf P start now = (n : ℕ) × P n × (start ≡ n + now)

module _ (file : ℕ) where
  pub all_taken : (ss : List Source) (rs : List RuleTree) → AllZip (IsAcceptedRule file) ss rs → RulesTake ss (sum_by count_of_rule rs)
  all_taken [] [] h = all_read
  all_taken [] (r ∷ rs) h = absurd h
  all_taken (s ∷ ss) [] h = absurd h
  all_taken (s ∷ ss) (r ∷ rs) h = subst (RulesTake (s ∷ ss)) (sym (sum_by-cons count_of_rule r rs)) (accepted r.expr h.0.0 (all_taken ss rs h.1))

  pub taken_before : (ss rest : List Source) (rs : List RuleTree) (n : ℕ) → AllZip (IsAcceptedRule file) ss rs → RulesTake rest n → RulesTake (ss ++ rest) (sum_by count_of_rule rs + n)
  taken_before [] rest [] n h k = subst (RulesTake rest) (sym (zero-add n)) k
  taken_before [] rest (r ∷ rs) n h k = absurd h
  taken_before (s ∷ ss) rest [] n h k = absurd h
  taken_before (s ∷ ss) rest (r ∷ rs) n h k =
      let more = sum_by-cons count_of_rule r rs in
      let sum : count_of_rule r + (sum_by count_of_rule rs + n) ≡ sum_by count_of_rule (r ∷ rs) + n = omega (arith, more) in
      subst (RulesTake (s ∷ (ss ++ rest))) sum (accepted r.expr h.0.0 (taken_before ss rest rs n h.1 k))

-- where a rule is refused
module _ (file : ℕ) (sources : List RuleInTree) (i : ℕ) (s : RuleInTree) (inside : i < length sources) (is : s ≡ get_or sources i s) (rules : List Rule)
    (h : AllZip (IsAcceptedRule file) (map source_in (take i sources)) (rule_trees rules)) (start left now : ℕ) (before : start ≡ sum_by count_of_rule (rule_trees rules) + left) where
  rules_for : (f : Fault) → RefusedFor (source_in s).expr left now f → TakenOf (RulesTake (map source_in sources)) start now
  rules_for f b =
      let n : ℕ = sum_by count_of_rule (rule_trees rules) + taken_at b.0 in
      let all : RulesTake (map source_in (take i sources) ++ source_in s ∷ map source_in (drop (suc i) sources)) n =
      taken_before file (map source_in (take i sources)) (source_in s ∷ map source_in (drop (suc i) sources)) (rule_trees rules) (taken_at b.0) h (refused b.0) in
      let e = b.1 in
      let sum : start ≡ n + now = omega (arith, before, e) in
      (n, subst (λ ss. RulesTake ss n) (sym (cut file sources i s inside is rules h)) all, sum)

  pub rules_so : (r : Refusal) → IfAt r (RefusedFor (source_in s).expr left now) → IfAt r (λ f. TakenOf (RulesTake (map source_in sources)) start now)
  rules_so = at_by (RefusedFor (source_in s).expr left now) (λ f. TakenOf (RulesTake (map source_in sources)) start now) rules_for

-- ---- files

pub none_taken : (bytes : Bytes) (start : ℕ) (r : Refusal) → IfAt r (λ f. FileTakes bytes 0) → IfAt r (λ f. TakenOf (FileTakes bytes) start start)
none_taken bytes start = at_by (λ f. FileTakes bytes 0) (λ f. TakenOf (FileTakes bytes) start start) (λ f h. (0, h, sym (zero-add start)))

pub file_taken : (file : ℕ) (bytes : Bytes) (ss : List Source) → Says bytes ss → (start now : ℕ) → {X : Type 0} (view : X → List RuleTree) (r : Result X Refusal)
    → Found view (AllZip (IsAcceptedRule file) ss) r → IfOk r (λ rules. start ≡ sum_by count_of_rule (view rules) + now) → Refused (λ f. TakenOf (RulesTake ss) start now) r → IfTold r (TakenOf (FileTakes bytes) start now)
file_taken file bytes ss says start now view (Ok rules) h is k = (sum_by count_of_rule (view rules), of_rules says (all_taken file ss (view rules) h), is)
file_taken file bytes ss says start now view (Err r) h is k =
    at_by (λ f. TakenOf (RulesTake ss) start now) (λ f. TakenOf (FileTakes bytes) start now) (λ f t. (t.0, of_rules says t.1, t.2)) r k

pub told_taken : (bytes : Bytes) (start now taken : ℕ) → taken ≡ start - now → {X : Type 0} (r : Result X Refusal) → IfTold r (TakenOf (FileTakes bytes) start now) → IfTold r (FileTakes bytes taken)
told_taken bytes start now taken is r = by r
  where
    so : TakenOf (FileTakes bytes) start now → FileTakes bytes taken
    so t = let e = t.2 in let same : t.0 ≡ taken = omega (arith, e, is) in subst (FileTakes bytes) same t.1

    by : {X : Type 0} (r : Result X Refusal) → IfTold r (TakenOf (FileTakes bytes) start now) → IfTold r (FileTakes bytes taken)
    by (Ok x) t = so t
    by (Err r) t = at_by (λ f. TakenOf (FileTakes bytes) start now) (λ f. FileTakes bytes taken) (λ f. so) r t

-- ---- one count

module _ (v : Value) where
  one_tree : {ts us : List Token} (d e : Tree) → Tokens v.from v.text ts → Tokens v.from v.text us → IsExpression ts d → IsExpression us e → d ≡ e
  one_tree {ts} {us} d e h k x y = (one_parsing us (end_of v)).value d e (subst (λ xs. IsExpression xs d) ((one_lexing v.from v.text).value ts us h k) x) y

  -- where the expression has a type, only its patterns and selectors are left to break anything
  typed_taken : {ts : List Token} {g : Fault} (e : Tree) (t : ExprType) → Tokens v.from v.text ts → IsExpression ts e → HasType e t → (b : BreaksExpr v g) → count_in e ≡ taken_at b
  typed_taken {ts} {g} e t h x typed (bad_tokens k) = absurd ((one_lexing v.from v.text).one ts g h k)
  typed_taken {ts} {g} e t h x typed (no_expression {tokens = us} k r) =
      absurd ((one_parsing us (end_of v)).one e g (subst (λ xs. IsExpression xs e) ((one_lexing v.from v.text).value ts us h k) x) r)
  typed_taken {ts} {g} e t h x typed (no_type d k y told) = absurd ((one_type d).one t g (subst (λ z. HasType z t) (one_tree e d h k x y) typed) told)
  typed_taken e t h x typed (bad_pattern d u k y other told) = ap count_in (one_tree e d h k x y)

  one_taken : {f g : Fault} (a : BreaksExpr v f) (b : BreaksExpr v g) → taken_at a ≡ taken_at b
  one_taken (bad_pattern e t h x typed told) b = typed_taken e t h x typed b
  one_taken (bad_tokens h) (bad_pattern e t k y typed told) = sym (typed_taken e t k y typed (bad_tokens h))
  one_taken (no_expression h r) (bad_pattern e t k y typed told) = sym (typed_taken e t k y typed (no_expression h r))
  one_taken (no_type d h x told) (bad_pattern e t k y typed other) = sym (typed_taken e t k y typed (no_type d h x told))
  one_taken (bad_tokens h) (bad_tokens k) = refl
  one_taken (bad_tokens h) (no_expression k r) = refl
  one_taken (bad_tokens h) (no_type d k y told) = refl
  one_taken (no_expression h r) (bad_tokens k) = refl
  one_taken (no_expression h r) (no_expression k q) = refl
  one_taken (no_expression h r) (no_type d k y told) = refl
  one_taken (no_type e h x told) (bad_tokens k) = refl
  one_taken (no_type e h x told) (no_expression k r) = refl
  one_taken (no_type e h x told) (no_type d k y other) = refl

one_of_rules : (ss : List Source) (n m : ℕ) → RulesTake ss n → RulesTake ss m → n ≡ m
one_of_rules [] n m all_read all_read = refl
one_of_rules (s ∷ ss) n m (accepted {n = k} e h later) (accepted {n = l} d g others) =
    ap₂ (λ (a b : ℕ). a + b) (ap count_in ((one_expr s.expr).value e d h g)) (one_of_rules ss k l later others)
one_of_rules (s ∷ ss) n m (accepted e h later) (refused {f = f} b) = absurd ((one_expr s.expr).one e f h b)
one_of_rules (s ∷ ss) n m (refused {f = f} b) (accepted e h later) = absurd ((one_expr s.expr).one e f h b)
one_of_rules (s ∷ ss) n m (refused a) (refused b) = one_taken s.expr a b

some_of_rules : (ss : List Source) → (n : ℕ) × RulesTake ss n
some_of_rules [] = (0, all_read)
some_of_rules (s ∷ ss) = by (one_expr s.expr).some (some_of_rules ss)
  where
    by : ((e : Tree) × IsExpr s.expr e) ⊎ ((f : Fault) × BreaksExpr s.expr f) → (n : ℕ) × RulesTake ss n → (n : ℕ) × RulesTake (s ∷ ss) n
    by (inl e) later = (count_in e.0 + later.0, accepted e.0 e.1 later.1)
    by (inr b) later = (taken_at b.1, refused b.1)

module _ (bytes : Bytes) where
  one_of_file : (n m : ℕ) → FileTakes bytes n → FileTakes bytes m → n ≡ m
  one_of_file n m (no_tree h) (no_tree k) = refl
  one_of_file n m (no_tree h) (no_rules is k) = refl
  one_of_file n m (no_rules is h) (no_tree k) = refl
  one_of_file n m (no_rules is h) (no_rules at k) = refl
  one_of_file n m (no_tree {f = f} h) (of_rules {sources = ss} says k) = absurd ((one_says bytes).one ss f says (inl h))
  one_of_file n m (no_rules {t = t} {f = f} is h) (of_rules {sources = ss} says k) = absurd ((one_says bytes).one ss f says (inr (t, is, h)))
  one_of_file n m (of_rules {sources = ss} says h) (no_tree {f = f} k) = absurd ((one_says bytes).one ss f says (inl k))
  one_of_file n m (of_rules {sources = ss} says h) (no_rules {t = t} {f = f} is k) = absurd ((one_says bytes).one ss f says (inr (t, is, k)))
  one_of_file n m (of_rules {sources = ss} says h) (of_rules {sources = us} others k) =
      one_of_rules us n m (subst (λ xs. RulesTake xs n) ((one_says bytes).value ss us says others) h) k

  some_of_file : (n : ℕ) × FileTakes bytes n
  some_of_file = by (one_says bytes).some
    where
      by : ((ss : List Source) × Says bytes ss) ⊎ ((f : Fault) × BreaksSays bytes f) → (n : ℕ) × FileTakes bytes n
      by (inl s) = let taken = some_of_rules s.0 in (taken.0, of_rules s.1 taken.1)
      by (inr (f, inl h)) = (0, no_tree h)
      by (inr (f, inr h)) = (0, no_rules h.1 h.2)

  pub one_count : (n : ℕ) × FileTakes bytes n × ((m : ℕ) → FileTakes bytes m → m ≡ n)
  one_count = let some = some_of_file in (some.0, some.1, λ m h. one_of_file m some.0 h some.1)

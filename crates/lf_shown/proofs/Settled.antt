-- Where nothing stands open in an expression with a type and in the rules that it reads, it has no open construct as the laws of built worlds have it.
use Rattle.std.proofs.Common.{◌≡◌, ◌⊎◌, inl, inr, ℕ, ◌+◌, Bool, true, false, not, ◌&&◌, ◌||◌, cond, List, [], ◌∷◌, ◌++◌, Option, Some, None, refl, sym, ◌∙◌, ap, subst, codes}
use Rattle.std.specs.List.{Contains, list_any}
use Rattle.std.specs.Str.{bytes_eq}
use Rattle.std.proofs.lemmas.Bool.{or_parts, false_from_ne_true}
use Rattle.std.proofs.lemmas.List.Elements.{Contains-append_left, Contains-append_right, Contains-append_cases}
use Rattle.lf_laws.proofs.Booleans.{clash}
use Rattle.lf_laws.proofs.Members.{behind, first_or_behind, here, none_in, only_one}
use Rattle.lf_base.specs.declared.place.Span.{Span}
use Rattle.lf_ast.specs.Functions.{Signature, aggregation, function_named}
use Rattle.lf_ast.specs.Labels.{Bytes}
use Rattle.lf_ast.specs.Rules.{RuleTree}
use Rattle.lf_ast.specs.Selectors.{selected_name}
use Rattle.lf_ast.specs.Tree.{Tree, Trees, Number, Str, Selector, Subquery, Paren, Unary, Binary, Call, Aggregate, Nil, Next, list, span_of}
use Rattle.lf_ast.specs.Types.{Fit, HasType, takes_side}
use Rattle.lf_ast.specs.declared.expr.Agg.{Agg}
use Rattle.lf_ast.specs.declared.expr.Agg.TheVariants.{Sum, Min, Max, Avg, Group, Stddev, Stdvar, Count, Quantile, CountValues as CountingValues, Topk, Bottomk}
use Rattle.lf_ast.specs.declared.expr.ExprType.{ExprType}
use Rattle.lf_ast.specs.declared.expr.ExprType.TheVariants.{Vector}
use Rattle.lf_ast.specs.declared.expr.Matcher.{Matcher}
use Rattle.lf_ast.specs.declared.expr.MatchOp.{MatchOp}
use Rattle.lf_ast.specs.declared.expr.MatchOp.TheVariants.{Equal as Equals, NotEqual as Differs, Matches, NotMatches}
use Rattle.lf_ast.specs.declared.expr.Matching.{Matching}
use Rattle.lf_ast.specs.declared.expr.Op.{Op}
use Rattle.lf_ast.specs.declared.expr.Sight.{Sight}
use Rattle.lf_ast.specs.declared.expr.Op.TheVariants.{Add, Subtract, Multiply, Divide, Modulo, Power, Atan2, Equal, NotEqual, LessOrEqual, Less, GreaterOrEqual, Greater, And, Or, Unless}
use Rattle.lf_ast.specs.declared.functions.LabelEffect.{LabelEffect}
use Rattle.lf_ast.specs.declared.functions.LabelEffect.TheVariants.{Maps, Keeps, Groups, CountValues, Date, Absent, LabelReplace, LabelJoin, HistogramQuantile, Bare}
use Rattle.lf_semantics.specs.Grouped.{is_metric}
use Rattle.lf_semantics.specs.Parts.{is_scalar_part, operand_place, outside_scalars}
use Rattle.lf_semantics.specs.Passing.{is_plain}
use Rattle.lf_semantics.specs.PatternBreaches.{takes_pattern}
use Rattle.lf_semantics.proofs.Members.{all_of}
use Rattle.lf_deps.specs.Reading.{AreApart, Reads, Records, arguments_selectors, selectors}
use Rattle.lf_trials.specs.Built.{sets_label}
use Rattle.lf_trials.specs.Forks.{HoldsFork, fork_in_arguments, has_own_fork, is_or}
use Rattle.lf_trials.specs.Selected.{Selected, selected_in, selected_in_arguments, selectors_of}
use Rattle.lf_open.specs.Constructs.{IsOpenAt}
use Rattle.lf_open.specs.Holding.{CannotBeSilent, NamesLe, has_own_le, has_own_source, is_source, matches_le}
use Rattle.lf_open.specs.OpenList.{IsSettled}
use Rattle.lf_semantics.specs.Standing.{arguments_standing, standing, standing_in}
use Rattle.lf_open.specs.declared.construct.Construct.{Construct}
use Rattle.lf_open.specs.declared.construct.Construct.TheVariants.{SharedMetric, UnnamedSelector, ComplexPattern, MadeLabel, Forked, LoudUnless, CyclicName, NamedBucket, OpenAbsent}
use Rattle.lf_open.proofs.Settled.{settled}
use Rattle.lf_shown.specs.NoneOpen.{ArgumentsAreClosed, CallIsClosed, EffectIsClosed, HasNoneOpen, IsClosed, IsClosedIn, IsPlainMatcher, MatchesBucket, NamesBucket, SelectorIsClosed, SidesAreClosed, UnlessScalar}
use Rattle.lf_shown.specs.Silence.{argument_can_be_silent, can_be_silent}
use Rattle.lf_shown.proofs.Silent.{silent_by_type}

-- ---- what is read, by one of the arguments

module _ (rules : List RuleTree) where
  -- one of some expressions reads the name
  abbrev OneReads : List Tree → Bytes → Type 0
  OneReads xs n = (x : Tree) × Contains xs x × Reads rules x n

  one_selects : (args : Trees) (o : Option Bytes) → Contains (arguments_selectors args) o → (x : Tree) × Contains (list args) x × Contains (selectors x) o
  one_selects Nil o c = absurd (none_in o c)
  one_selects (Next x xs) o c = elim (Contains-append_cases (selectors x) (arguments_selectors xs) o c) [
    | inl d ↦ (x, here x (list xs), d)
    | inr d ↦ let r = one_selects xs o d in (r.0, behind x (list xs) r.0 r.1, r.2)
  ]

  -- an expression whose selectors are those of some parts reads what one of them reads
  part_reads : (e : Tree) (xs : List Tree) → ((o : Option Bytes) → Contains (selectors e) o → (x : Tree) × Contains xs x × Contains (selectors x) o) → (n : Bytes) → Reads rules e n → OneReads xs n
  part_reads e xs parts n (Reads.selected (inl c)) = let p = parts (Some n) c in (p.0, p.1, Reads.selected (inl p.2))
  part_reads e xs parts n (Reads.selected (inr c)) = let p = parts None c.0 in (p.0, p.1, Reads.selected (inr (p.2, c.1)))
  part_reads e xs parts n (Reads.through r d recording (inl c) reads) = let p = parts (Some r.name) c in (p.0, p.1, Reads.through r d recording (inl p.2) reads)
  part_reads e xs parts n (Reads.through r d recording (inr c) reads) = let p = parts None c.0 in (p.0, p.1, Reads.through r d recording (inr (p.2, c.1)) reads)

  one_forks : (args : Trees) → fork_in_arguments rules args ≡ true → (x : Tree) × Contains (list args) x × (has_own_fork rules x ≡ true)
  one_forks Nil e = absurd (cc)
  one_forks (Next x xs) e = by (has_own_fork rules x) refl e (one_forks xs)
    where
      by : (b : Bool) → has_own_fork rules x ≡ b → (b || fork_in_arguments rules xs) ≡ true → (fork_in_arguments rules xs ≡ true → (y : Tree) × Contains (list xs) y × (has_own_fork rules y ≡ true))
          → (y : Tree) × Contains (x ∷ list xs) y × (has_own_fork rules y ≡ true)
      by true is e rest = (x, here x (list xs), is)
      by false is e rest = let r = rest e in (r.0, behind x (list xs) r.0 r.1, r.2)

  part_forks : (e : Tree) (xs : List Tree) → ((o : Option Bytes) → Contains (selectors e) o → (x : Tree) × Contains xs x × Contains (selectors x) o) → (has_own_fork rules e ≡ true → (x : Tree) × Contains xs x × (has_own_fork rules x ≡ true)) → HoldsFork rules e
      → (x : Tree) × Contains xs x × HoldsFork rules x
  part_forks e xs parts own (inl is) = let p = own is in (p.0, p.1, inl p.2)
  part_forks e xs parts own (inr (r, c, reach, is)) = let p = part_reads e xs parts r.name reach.1 in (p.0, p.1, inr (r, c, (reach.0, p.2), is))

-- ---- matchers on `le`

any_front : (xs ys : List Tree) → list_any matches_le xs ≡ true → list_any matches_le (xs ++ ys) ≡ true
any_front [] ys e = absurd (cc)
any_front (x ∷ xs) ys e = by (matches_le x) e (any_front xs ys)
  where
    by : (b : Bool) → (b || list_any matches_le xs) ≡ true → (list_any matches_le xs ≡ true → list_any matches_le (xs ++ ys) ≡ true) → (b || list_any matches_le (xs ++ ys)) ≡ true
    by true e rest = refl
    by false e rest = rest e

any_back : (xs ys : List Tree) → list_any matches_le ys ≡ true → list_any matches_le (xs ++ ys) ≡ true
any_back [] ys e = e
any_back (x ∷ xs) ys e = by (matches_le x) (any_back xs ys e)
  where
    by : (b : Bool) → list_any matches_le (xs ++ ys) ≡ true → (b || list_any matches_le (xs ++ ys)) ≡ true
    by true e = refl
    by false e = e

le_sub : (x : Tree) (s : Selected) → (Contains (selected_in x) s → list_any matches_le (standing_in x) ≡ true) → Contains (selectors_of x) s → list_any matches_le (standing x) ≡ true
le_sub x s each c = by (is_scalar_part x) c
  where
    by : (b : Bool) → Contains (cond b [] (selected_in x)) s → list_any matches_le (cond b [] (standing_in x)) ≡ true
    by true c = absurd (none_in s c)
    by false c = each c

mutual
  le_in : (e : Tree) (s : Selected) → Contains (selected_in e) s → list_any (λ (m : Matcher). bytes_eq m.label (codes "le")) s.matchers ≡ true → list_any matches_le (standing_in e) ≡ true
  le_in (Number text span) s c is = absurd (none_in s c)
  le_in (Str text span) s c is = absurd (none_in s c)
  le_in (Selector name matchers sight span) s c is =
      rw (subst (λ (x : Selected). list_any (λ (m : Matcher). bytes_eq m.label (codes "le")) x.matchers ≡ true) (sym (only_one _ s c)) is) refl
  le_in (Subquery of sight span) s c is = le_sub of s (λ d. le_in of s d is) c
  le_in (Paren of span) s c is = le_sub of s (λ d. le_in of s d is) c
  le_in (Unary minus of span) s c is = le_sub of s (λ d. le_in of s d is) c
  le_in (Binary op m left right span) s c is = elim (Contains-append_cases (selectors_of left) (selectors_of right) s c) [
    | inl d ↦ any_front (outside_scalars left (standing_in left)) (outside_scalars right (standing_in right)) (le_sub left s (λ d. le_in left s d is) d)
    | inr d ↦ any_back (outside_scalars left (standing_in left)) (outside_scalars right (standing_in right)) (le_sub right s (λ d. le_in right s d is) d)
  ]
  le_in (Call name args span) s c is = le_arguments args s c is
  le_in (Aggregate op grouping args span) s c is = le_arguments args s c is

  le_arguments : (args : Trees) (s : Selected) → Contains (selected_in_arguments args) s → list_any (λ (m : Matcher). bytes_eq m.label (codes "le")) s.matchers ≡ true → list_any matches_le (arguments_standing args) ≡ true
  le_arguments Nil s c is = absurd (none_in s c)
  le_arguments (Next x xs) s c is = elim (Contains-append_cases (selectors_of x) (selected_in_arguments xs) s c) [
    | inl d ↦ any_front (outside_scalars x (standing_in x)) (arguments_standing xs) (le_sub x s (λ d. le_in x s d is) d)
    | inr d ↦ any_back (outside_scalars x (standing_in x)) (arguments_standing xs) (le_arguments xs s d is)
  ]

own_le : (e : Tree) → MatchesBucket e → has_own_le e ≡ true
own_le e (s, c, is) = le_sub e s (λ d. le_in e s d is) c

one_matches : (args : Trees) (s : Selected) → Contains (selected_in_arguments args) s → (x : Tree) × Contains (list args) x × Contains (selectors_of x) s
one_matches Nil s c = absurd (none_in s c)
one_matches (Next x xs) s c = elim (Contains-append_cases (selectors_of x) (selected_in_arguments xs) s c) [
  | inl d ↦ (x, here x (list xs), d)
  | inr d ↦ let r = one_matches xs s d in (r.0, behind x (list xs) r.0 r.1, r.2)
]

-- ---- expressions

module _ (rules : List RuleTree) where
  -- nothing stands open in these
  abbrev AreShut : List Tree → Type 0
  AreShut xs = (x : Tree) → Contains xs x → (construct : Construct) (span : Span) → IsOpenAt rules construct x span → ⊥

  shut_front : (xs ys : List Tree) → AreShut (xs ++ ys) → AreShut xs
  shut_front xs ys shut x c = shut x (Contains-append_left xs ys x c)

  shut_back : (xs ys : List Tree) → AreShut (xs ++ ys) → AreShut ys
  shut_back xs ys shut x c = shut x (Contains-append_right xs ys x c)

  shut_later : (x : Tree) (xs : List Tree) → AreShut (x ∷ xs) → AreShut xs
  shut_later x xs shut y c = shut y (behind x xs y c)

  -- ---- selectors

  name_said : (o : Option Bytes) → (o ≡ None → ⊥) → (n : Bytes) × (o ≡ Some n)
  name_said None none = absurd (none refl)
  name_said (Some n) none = (n, refl)

  plain_matcher : (m : Matcher) → ((takes_pattern m.op ≡ true) → is_plain m.value ≡ false → ⊥) → IsPlainMatcher m
  plain_matcher m open_not = by m.op refl (is_plain m.value) refl
    where
      by : (op : MatchOp) → m.op ≡ op → (b : Bool) → is_plain m.value ≡ b → IsPlainMatcher m
      by Equals e b is = inl e
      by Differs e b is = inr (inl e)
      by Matches e true is = inr (inr is)
      by NotMatches e true is = inr (inr is)
      by Matches e false is = absurd (open_not (ap takes_pattern e) is)
      by NotMatches e false is = absurd (open_not (ap takes_pattern e) is)

  -- a fork beneath a selector is in the making of its name
  selector_forks : (name : Option Bytes) (matchers : List Matcher) (sight : Sight) (span : Span) (n : Bytes) → selected_name name matchers ≡ Some n → HoldsFork rules (Selector name matchers sight span)
      → (Rattle.lf_trials.specs.Reached.has_several_rules rules n ≡ true) ⊎ ((r : RuleTree) × Contains rules r × Records r n × HoldsFork rules r.expr)
  selector_forks name matchers sight span n says (inl own) = inl (by (is_scalar_part (Selector name matchers sight span)) own)
    where
      by : (b : Bool) → (not b && Rattle.lf_trials.specs.Forks.is_forked_selector rules (selected_name name matchers)) ≡ true → Rattle.lf_trials.specs.Reached.has_several_rules rules n ≡ true
      by true e = absurd (cc)
      by false e = sym (ap (Rattle.lf_trials.specs.Forks.is_forked_selector rules) says) ∙ e
  selector_forks name matchers sight span n says (inr (r, c, (recording, reads), own)) = inr (by r.name refl reads)
    where
      said : (o : Option Bytes) → Contains (selectors (Selector name matchers sight span)) o → o ≡ Some n
      said o c = within (is_scalar_part (Selector name matchers sight span)) c
        where
          within : (b : Bool) → Contains (cond b [] (selected_name name matchers ∷ [])) o → o ≡ Some n
          within true c = absurd (none_in o c)
          within false c = sym (only_one (selected_name name matchers) o c) ∙ says

      same : (x : Bytes) → Some x ≡ Some n → x ≡ n
      same x e = cc

      never : None ≡ Some n → ⊥
      never e = cc

      by : (m : Bytes) → r.name ≡ m → Reads rules (Selector name matchers sight span) m → (q : RuleTree) × Contains rules q × Records q n × HoldsFork rules q.expr
      by m e (Reads.selected (inl d)) = (r, c, (recording, e ∙ same m (said (Some m) d)), inl own)
      by m e (Reads.selected (inr d)) = absurd (never (said None d.0))
      by m e (Reads.through q d records (inl s) later) = (q, d, (records, same q.name (said (Some q.name) s)), inr (r, c, (recording, subst (Reads rules q.expr) (sym e) later), own))
      by m e (Reads.through q d records (inr s) later) = absurd (never (said None s.0))

  closed_selector : (name : Option Bytes) (matchers : List Matcher) (sight : Sight) (span : Span) → ((construct : Construct) (at : Span) → IsOpenAt rules construct (Selector name matchers sight span) at → ⊥)
      → SelectorIsClosed rules (Selector name matchers sight span) (selected_name name matchers) matchers
  closed_selector name matchers sight span shut =
      let n = name_said (selected_name name matchers) (λ none. shut UnnamedSelector span (none, refl)) in
      record {
        name = n.0;
        says = n.1;
        acyclic = λ cyclic. shut CyclicName span ((n.0, n.1, cyclic), refl);
        plain = all_of IsPlainMatcher matchers (λ m c. plain_matcher m (λ takes complex. shut ComplexPattern m.value_span (m, (c, takes, complex), refl)));
        unmatched = λ fork. all_of (λ m. is_metric m.label ≡ true) matchers (λ m c. by n.0 n.1 (selector_forks name matchers sight span n.0 n.1 fork) m c (is_metric m.label) refl);
      }
    where
      by : (n : Bytes) → selected_name name matchers ≡ Some n → (Rattle.lf_trials.specs.Reached.has_several_rules rules n ≡ true) ⊎ ((r : RuleTree) × Contains rules r × Records r n × HoldsFork rules r.expr) → (m : Matcher) → Contains matchers m → (b : Bool)
          → is_metric m.label ≡ b → is_metric m.label ≡ true
      by n says fork m c true is = is
      by n says fork m c false is = absurd (shut Forked span (inr (inr (inl ((m, c, is), (n, says, fork)))), refl))

  -- ---- operators

  side_selects : (op : Op) (m : Matching) (left right : Tree) (span : Span) (o : Option Bytes) → Contains (selectors (Binary op m left right span)) o → (x : Tree) × Contains (left ∷ right ∷ []) x × Contains (selectors x) o
  side_selects op m left right span o c = within (is_scalar_part (Binary op m left right span)) c
    where
      within : (b : Bool) → Contains (cond b [] (selectors left ++ selectors right)) o → (x : Tree) × Contains (left ∷ right ∷ []) x × Contains (selectors x) o
      within true c = absurd (none_in o c)
      within false c = elim (Contains-append_cases (selectors left) (selectors right) o c) [
        | inl d ↦ (left, here left (right ∷ []), d)
        | inr d ↦ (right, behind left (right ∷ []) right (here right []), d)
      ]

  side_forks : (op : Op) (m : Matching) (left right : Tree) (span : Span) → is_or op ≡ false → has_own_fork rules (Binary op m left right span) ≡ true → (x : Tree) × Contains (left ∷ right ∷ []) x × (has_own_fork rules x ≡ true)
  side_forks op m left right span no_or own = within (is_scalar_part (Binary op m left right span)) (is_or op) no_or (has_own_fork rules left) refl own
    where
      within : (b o : Bool) → o ≡ false → (l : Bool) → has_own_fork rules left ≡ l → (not b && (o || (l || has_own_fork rules right))) ≡ true → (x : Tree) × Contains (left ∷ right ∷ []) x × (has_own_fork rules x ≡ true)
      within true o e l is h = absurd (cc)
      within false true e l is h = absurd (cc)
      within false false e true is h = (left, here left (right ∷ []), is)
      within false false e false is h = (right, behind left (right ∷ []) right (here right []), h)

  module _ (op : Op) (m : Matching) (left right : Tree) (span : Span) (shut : (construct : Construct) (at : Span) → IsOpenAt rules construct (Binary op m left right span) at → ⊥)
      (no_left : is_scalar_part left ≡ false) (no_right : is_scalar_part right ≡ false) where
    abbrev whole : Tree
    whole = Binary op m left right span

    sides_apart : AreApart rules left right
    sides_apart name a b = shut SharedMetric span (((no_left, no_right), (λ apart. apart name a b)), refl)

    no_fork : is_or op ≡ false → HoldsFork rules whole → ⊥
    no_fork no_or fork =
        let p = part_forks rules whole (left ∷ right ∷ []) (side_selects op m left right span) (side_forks op m left right span no_or) fork in
        shut Forked span (inl (no_or, (no_left, no_right), side p.0 p.1 p.2), refl)
      where
        side : (x : Tree) → Contains (left ∷ right ∷ []) x → HoldsFork rules x → HoldsFork rules left ⊎ HoldsFork rules right
        side x c fork = elim (first_or_behind left (right ∷ []) x c) [
          | inl e ↦ inl (subst (HoldsFork rules) (sym e) fork)
          | inr d ↦ inr (subst (HoldsFork rules) (sym (only_one right x d)) fork)
        ]

  no_source : (x : Tree) → is_scalar_part x ≡ false → (CannotBeSilent rules x → ⊥) → list_any is_source (standing_in x) ≡ false
  no_source x is silent =
      sym (ap (λ b. list_any is_source (cond b [] (standing_in x))) is) ∙ false_from_ne_true (has_own_source x) (λ e. silent (inl e))

  -- a side of an operator between vectors is silent, by its type
  side_silent : (op : Op) (x : Tree) (t : ExprType) → HasType x t → takes_side op t ≡ true → is_scalar_part x ≡ false → (CannotBeSilent rules x → ⊥) → can_be_silent x ≡ true
  side_silent op x t typed takes is silent =
      silent_by_type x t typed (Rattle.lf_shown.proofs.Silent.number_is_sampled t (Rattle.lf_shown.proofs.Silent.side_is_number (Rattle.lf_ast.specs.Types.operands_of op) t takes) (sym (Rattle.lf_shown.proofs.Silent.scalar_by_type x t typed) ∙ is))
      (no_source x is silent)

  closed_sides : (op : Op) (m : Matching) (left right : Tree) (span : Span) → ((construct : Construct) (at : Span) → IsOpenAt rules construct (Binary op m left right span) at → ⊥) → (a : is_scalar_part left ≡ false) → (b : is_scalar_part right ≡ false)
      → (l : ExprType) → HasType left l → takes_side op l ≡ true → (r : ExprType) → HasType right r → takes_side op r ≡ true → SidesAreClosed rules op (Binary op m left right span) left right
  closed_sides Or m left right span shut a b l tl kl r tr kr = (
    side_silent Or left l tl kl a (λ loud. shut Forked span (inr (inr (inr ((a, b), inl loud))), refl)),
    side_silent Or right r tr kr b (λ loud. shut Forked span (inr (inr (inr ((a, b), inr loud))), refl)),
  )
  closed_sides Unless m left right span shut a b l tl kl r tr kr = (no_fork Unless m left right span shut a b refl, side_silent Unless right r tr kr b (λ loud. shut LoudUnless span (((a, b), loud), refl)))
  closed_sides And m left right span shut a b l tl kl r tr kr = no_fork And m left right span shut a b refl
  closed_sides Add m left right span shut a b l tl kl r tr kr = no_fork Add m left right span shut a b refl
  closed_sides Subtract m left right span shut a b l tl kl r tr kr = no_fork Subtract m left right span shut a b refl
  closed_sides Multiply m left right span shut a b l tl kl r tr kr = no_fork Multiply m left right span shut a b refl
  closed_sides Divide m left right span shut a b l tl kl r tr kr = no_fork Divide m left right span shut a b refl
  closed_sides Modulo m left right span shut a b l tl kl r tr kr = no_fork Modulo m left right span shut a b refl
  closed_sides Power m left right span shut a b l tl kl r tr kr = no_fork Power m left right span shut a b refl
  closed_sides Atan2 m left right span shut a b l tl kl r tr kr = no_fork Atan2 m left right span shut a b refl
  closed_sides Equal m left right span shut a b l tl kl r tr kr = no_fork Equal m left right span shut a b refl
  closed_sides NotEqual m left right span shut a b l tl kl r tr kr = no_fork NotEqual m left right span shut a b refl
  closed_sides LessOrEqual m left right span shut a b l tl kl r tr kr = no_fork LessOrEqual m left right span shut a b refl
  closed_sides Less m left right span shut a b l tl kl r tr kr = no_fork Less m left right span shut a b refl
  closed_sides GreaterOrEqual m left right span shut a b l tl kl r tr kr = no_fork GreaterOrEqual m left right span shut a b refl
  closed_sides Greater m left right span shut a b l tl kl r tr kr = no_fork Greater m left right span shut a b refl

  -- ---- calls

  argument_selects : (name : Bytes) (args : Trees) (span : Span) (o : Option Bytes) → Contains (selectors (Call name args span)) o → (x : Tree) × Contains (list args) x × Contains (selectors x) o
  argument_selects name args span o c = within (is_scalar_part (Call name args span)) c
    where
      within : (b : Bool) → Contains (cond b [] (arguments_selectors args)) o → (x : Tree) × Contains (list args) x × Contains (selectors x) o
      within true c = absurd (none_in o c)
      within false c = one_selects rules args o c

  argument_forks : (name : Bytes) (args : Trees) (span : Span) → has_own_fork rules (Call name args span) ≡ true → (x : Tree) × Contains (list args) x × (has_own_fork rules x ≡ true)
  argument_forks name args span own = within (is_scalar_part (Call name args span)) own
    where
      within : (b : Bool) → (not b && fork_in_arguments rules args) ≡ true → (x : Tree) × Contains (list args) x × (has_own_fork rules x ≡ true)
      within true e = absurd (cc)
      within false e = one_forks rules args e

  argument_names : (name : Bytes) (args : Trees) (span : Span) → NamesBucket rules (Call name args span) → (x : Tree) × Contains (list args) x × NamesLe rules x
  argument_names name args span (inl (s, c, is)) = within (is_scalar_part (Call name args span)) c
    where
      within : (b : Bool) → Contains (cond b [] (selected_in_arguments args)) s → (x : Tree) × Contains (list args) x × NamesLe rules x
      within true c = absurd (none_in s c)
      within false c = let r = one_matches args s c in (r.0, r.1, inl (own_le r.0 (s, r.2, is)))
  argument_names name args span (inr (r, c, reach, named)) =
      let p = part_reads rules (Call name args span) (list args) (argument_selects name args span) r.name reach.1 in
      (p.0, p.1, inr (r, c, (reach.0, p.2), by (has_own_le r.expr) refl named))
    where
      by : (b : Bool) → has_own_le r.expr ≡ b → MatchesBucket r.expr ⊎ (sets_label r (codes "le") ≡ true) → (has_own_le r.expr || list_any (λ l. bytes_eq l.key (codes "le")) r.labels) ≡ true
      by true is named = ap (λ k. k || list_any (λ l. bytes_eq l.key (codes "le")) r.labels) is
      by false is (inl m) = absurd (clash _ (own_le r.expr m) is)
      by false is (inr sets) = ap (λ k. k || list_any (λ l. bytes_eq l.key (codes "le")) r.labels) is ∙ sets

  arguments_silent : (args : Trees) → ((x : Tree) → Contains (list args) x → CannotBeSilent rules x → ⊥) → list_any is_source (arguments_standing args) ≡ false
  arguments_silent Nil none = refl
  arguments_silent (Next x xs) none =
      none_both (outside_scalars x (standing_in x)) (arguments_standing xs) (false_from_ne_true (has_own_source x) (λ e. none x (here x (list xs)) (inl e))) (arguments_silent xs (λ y c. none y (behind x (list xs) y c)))
    where
      none_both : (ys zs : List Tree) → list_any is_source ys ≡ false → list_any is_source zs ≡ false → list_any is_source (ys ++ zs) ≡ false
      none_both [] zs e f = f
      none_both (y ∷ ys) zs e f = let b = or_parts (is_source y) (list_any is_source ys) e in rw (b.0, none_both ys zs b.1 f) refl

  closed_effect : (name : Bytes) (args : Trees) (span : Span) (s : Signature) → function_named name ≡ Some s → ((construct : Construct) (at : Span) → IsOpenAt rules construct (Call name args span) at → ⊥) → Fit args s 0 → Rattle.lf_ast.specs.Types.takes_count s (Rattle.lf_ast.specs.Tree.count args) ≡ true
      → EffectIsClosed rules s.labels (Call name args span) args (operand_place s)
  closed_effect name args span s is shut fit counted = by s.labels refl
    where
      effect_is : (effect : LabelEffect) → s.labels ≡ effect → Rattle.lf_open.specs.Constructs.effect_of (Call name args span) ≡ Some effect
      effect_is effect e = ap Rattle.lf_open.specs.Constructs.labels_by is ∙ ap Some e

      silent : s.labels ≡ Absent → ((x : Tree) → Contains (list args) x → CannotBeSilent rules x → ⊥) → argument_can_be_silent args (operand_place s) ≡ true
      silent e none = Rattle.lf_shown.proofs.Silent.operand_silent s args (Rattle.lf_shown.proofs.Silent.function_fits name s is) counted fit (ap Rattle.lf_shown.proofs.Silent.needs_none e) (ap Rattle.lf_shown.proofs.Silent.is_date e) (arguments_silent args none)

      by : (effect : LabelEffect) → s.labels ≡ effect → EffectIsClosed rules effect (Call name args span) args (operand_place s)
      by CountValues e = shut MadeLabel span (inr (inr (effect_is CountValues e)), refl)
      by LabelReplace e = shut MadeLabel span (inl (effect_is LabelReplace e), refl)
      by LabelJoin e = shut MadeLabel span (inr (inl (effect_is LabelJoin e)), refl)
      by HistogramQuantile e = (
        λ fork. let p = part_forks rules (Call name args span) (list args) (argument_selects name args span) (argument_forks name args span) fork in shut Forked span (inr (inl (effect_is HistogramQuantile e, p)), refl),
        λ named. shut NamedBucket span ((effect_is HistogramQuantile e, argument_names name args span named), refl),
      )
      by Absent e = (
        λ open_sought. shut OpenAbsent span ((effect_is Absent e, inl open_sought), refl),
        silent e (λ x c loud. shut OpenAbsent span ((effect_is Absent e, inr (x, c, loud)), refl)),
      )
      by Maps e = tt
      by Keeps e = tt
      by Groups e = tt
      by Date e = tt
      by Bare e = tt

  closed_aggregation : (op : Agg) (e : Tree) (args : Trees) → ((construct : Construct) (at : Span) → IsOpenAt rules construct e at → ⊥) → Rattle.lf_open.specs.Constructs.effect_of e ≡ Some (aggregation op).labels → EffectIsClosed rules (aggregation op).labels e args (operand_place (aggregation op))
  closed_aggregation CountingValues e args shut is = shut MadeLabel (span_of e) (inr (inr is), refl)
  closed_aggregation Sum e args shut is = tt
  closed_aggregation Min e args shut is = tt
  closed_aggregation Max e args shut is = tt
  closed_aggregation Avg e args shut is = tt
  closed_aggregation Group e args shut is = tt
  closed_aggregation Stddev e args shut is = tt
  closed_aggregation Stdvar e args shut is = tt
  closed_aggregation Count e args shut is = tt
  closed_aggregation Quantile e args shut is = tt
  closed_aggregation Topk e args shut is = tt
  closed_aggregation Bottomk e args shut is = tt

  -- ---- each expression

  sub : (x : Tree) → (AreShut (standing_in x) → IsClosedIn rules x) → AreShut (outside_scalars x (standing_in x)) → IsClosed rules x
  sub x each shut = by (is_scalar_part x) refl shut
    where
      by : (b : Bool) → is_scalar_part x ≡ b → AreShut (cond b [] (standing_in x)) → IsClosed rules x
      by true is shut = inl is
      by false is shut = inr (each shut)

  both_vectors : (op : Op) (m : Matching) (left right : Tree) (span : Span) → ((construct : Construct) (at : Span) → IsOpenAt rules construct (Binary op m left right span) at → ⊥) → (l : ExprType) → HasType left l → takes_side op l ≡ true → (r : ExprType) → HasType right r → takes_side op r ≡ true
      → UnlessScalar left (UnlessScalar right (AreApart rules left right × SidesAreClosed rules op (Binary op m left right span) left right))
  both_vectors op m left right span shut l tl kl r tr kr = by (is_scalar_part left) refl (is_scalar_part right) refl
    where
      by : (a : Bool) → is_scalar_part left ≡ a → (b : Bool) → is_scalar_part right ≡ b → UnlessScalar left (UnlessScalar right (AreApart rules left right × SidesAreClosed rules op (Binary op m left right span) left right))
      by true a b is = inl a
      by false a true b = inr (inl b)
      by false a false b = inr (inr (sides_apart op m left right span shut a b, closed_sides op m left right span shut a b l tl kl r tr kr))

  mutual
    closed_in : (e : Tree) (t : ExprType) → HasType e t → AreShut (standing_in e) → IsClosedIn rules e
    closed_in (Number text span) t typed shut = tt
    closed_in (Str text span) t typed shut = tt
    closed_in (Selector name matchers sight span) t typed shut = closed_selector name matchers sight span (shut (Selector name matchers sight span) (here (Selector name matchers sight span) []))
    closed_in (Subquery of sight span) t typed shut = sub of (λ s. closed_in of Vector typed.0 s) (shut_later (Subquery of sight span) (outside_scalars of (standing_in of)) shut)
    closed_in (Paren of span) t typed shut = sub of (λ s. closed_in of t typed s) (shut_later (Paren of span) (outside_scalars of (standing_in of)) shut)
    closed_in (Unary minus of span) t typed shut = sub of (λ s. closed_in of t typed.0 s) (shut_later (Unary minus of span) (outside_scalars of (standing_in of)) shut)
    closed_in (Binary op m left right span) t (l, r, tl, tr, kl, kr, placed, fit, is) shut =
        let e = Binary op m left right span in
        let inner = shut_later e (outside_scalars left (standing_in left) ++ outside_scalars right (standing_in right)) shut in
        let own = shut e (here e (outside_scalars left (standing_in left) ++ outside_scalars right (standing_in right))) in (
          sub left (λ s. closed_in left l tl s) (shut_front (outside_scalars left (standing_in left)) (outside_scalars right (standing_in right)) inner),
          sub right (λ s. closed_in right r tr s) (shut_back (outside_scalars left (standing_in left)) (outside_scalars right (standing_in right)) inner),
          both_vectors op m left right span own l tl kl r tr kr,
        )
    closed_in (Call name args span) t (s, is, (counted, fit, gives)) shut =
        let e = Call name args span in (
          closed_arguments args s 0 fit (shut_later e (arguments_standing args) shut),
          subst (λ o. CallIsClosed rules o e args) (sym is) (closed_effect name args span s is (shut e (here e (arguments_standing args))) fit counted),
        )
    closed_in (Aggregate op grouping args span) t (counted, fit, gives) shut =
        let e = Aggregate op grouping args span in (
          closed_arguments args (aggregation op) 0 fit (shut_later e (arguments_standing args) shut),
          closed_aggregation op e args (shut e (here e (arguments_standing args))) refl,
        )

    closed_arguments : (args : Trees) (s : Signature) (k : ℕ) → Fit args s k → AreShut (arguments_standing args) → ArgumentsAreClosed rules args
    closed_arguments Nil s k fit shut = tt
    closed_arguments (Next x xs) s k ((t, wanted, typed, named), later) shut = (
      sub x (λ h. closed_in x t typed h) (shut_front (outside_scalars x (standing_in x)) (arguments_standing xs) shut),
      closed_arguments xs s (k + 1) later (shut_back (outside_scalars x (standing_in x)) (arguments_standing xs) shut),
    )

  -- each rule has a type
  abbrev pub AreTyped : Type 0
  AreTyped = (r : RuleTree) → Contains rules r → (t : ExprType) × HasType r.expr t

  closed : (e : Tree) (t : ExprType) → HasType e t → ((construct : Construct) (span : Span) → Rattle.lf_open.specs.OpenList.IsOpenIn rules e construct span → ⊥) → IsClosed rules e
  closed e t typed none = sub e (λ s. closed_in e t typed s) (λ x c construct span is. none construct span (x, c, is))

  pub none_open : AreTyped → (e : Tree) (t : ExprType) → HasType e t → IsSettled rules e → HasNoneOpen rules e
  none_open typed e t is settled = record {
    own = closed e t is settled.own;
    read = λ r c reach. let q = typed r c in closed r.expr q.0 q.1 (settled.read r c reach);
  }

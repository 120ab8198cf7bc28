-- A test of selectors tells which expressions hold a fork.
use Rattle.std.proofs.Common.{inl, inr, ◌≡◌, Bool, true, false, not, ◌&&◌, ◌||◌, cond, List, [], ◌++◌, Option, Some, None, refl, sym, ◌∙◌, ap, subst, true≢false}
use Rattle.std.specs.List.{Contains, list_any}
use Rattle.std.proofs.Math.Bool.{or_assoc, or-false}
use Rattle.std.proofs.lemmas.Bool.{or_right}
use Rattle.std.proofs.lemmas.List.Folds.{list_any-append}
use Rattle.lf_laws.proofs.Members.{any_has, some_has}
use Rattle.lf_ast.specs.Labels.{Bytes}
use Rattle.lf_ast.specs.Rules.{RuleTree}
use Rattle.lf_ast.specs.Tree.{Tree, Trees, Number, Str, Selector, Subquery, Paren, Unary, Binary, Call, Aggregate, Nil, Next}
use Rattle.lf_semantics.specs.Parts.{is_scalar_part, outside_scalars}
use Rattle.lf_semantics.proofs.Recorded.{recorded}
use Rattle.lf_deps.specs.Reading.{Reads, arguments_selectors, selectors, selectors_in}
use Rattle.lf_deps.specs.Reading.Reads.{selected, through}
use Rattle.lf_trials.specs.Forks.{HoldsFork, TellsForks, has_own_fork, has_passing, is_forked_selector, is_or, passes_in, passes_in_arguments, unless_scalar}
use Rattle.lf_forks.specs.views.ForkTests.{IsForkRule, SelectsFork, TellsSelectors}

-- what passes: an `or`, whatever the test, or a selector

abbrev none : Option Bytes → Bool
none o = false

module _ (test : Option Bytes → Bool) where
  abbrev Passes : Tree → Type 0
  Passes e = passes_in test e ≡ (passes_in none e || list_any test (selectors_in e))

  or_split : (a b c d : Bool) → ((a || b) || (c || d)) ≡ ((a || c) || (b || d))
  or_split true b c d = refl
  or_split false true true d = refl
  or_split false true false d = refl
  or_split false false c d = refl

  part : (e : Tree) → Passes e → unless_scalar e (passes_in test e) ≡ (unless_scalar e (passes_in none e) || list_any test (outside_scalars e (selectors_in e)))
  part e is = by (is_scalar_part e)
    where
      by : (b : Bool) → (not b && passes_in test e) ≡ ((not b && passes_in none e) || list_any test (cond b [] (selectors_in e)))
      by true = refl
      by false = is

  both : (o : Bool) (x y : Tree) (xs ys : List (Option Bytes)) (a b : Bool) → (a ≡ (unless_scalar x (passes_in none x) || list_any test xs)) → (b ≡ (unless_scalar y (passes_in none y) || list_any test ys))
      → (o || (a || b)) ≡ ((o || (unless_scalar x (passes_in none x) || unless_scalar y (passes_in none y))) || list_any test (xs ++ ys))
  both o x y xs ys a b p q =
      ap (λ (z : Bool). o || (z || b)) p
      ∙ ap (λ (z : Bool). o || ((unless_scalar x (passes_in none x) || list_any test xs) || z)) q
      ∙ ap (λ (z : Bool). o || z) (or_split (unless_scalar x (passes_in none x)) (list_any test xs) (unless_scalar y (passes_in none y)) (list_any test ys))
      ∙ sym (or_assoc o (unless_scalar x (passes_in none x) || unless_scalar y (passes_in none y)) (list_any test xs || list_any test ys))
      ∙ ap (λ (z : Bool). (o || (unless_scalar x (passes_in none x) || unless_scalar y (passes_in none y))) || z) (sym (list_any-append test xs ys))

  one_more : (x : Tree) (xs : List (Option Bytes)) (a b c : Bool) → (a ≡ (unless_scalar x (passes_in none x) || list_any test (outside_scalars x (selectors_in x)))) → (b ≡ (c || list_any test xs))
      → (a || b) ≡ ((unless_scalar x (passes_in none x) || c) || list_any test (outside_scalars x (selectors_in x) ++ xs))
  one_more x xs a b c p q =
      ap (λ (z : Bool). z || b) p
      ∙ ap (λ (z : Bool). (unless_scalar x (passes_in none x) || list_any test (outside_scalars x (selectors_in x))) || z) q
      ∙ or_split (unless_scalar x (passes_in none x)) (list_any test (outside_scalars x (selectors_in x))) c (list_any test xs)
      ∙ ap (λ (z : Bool). (unless_scalar x (passes_in none x) || c) || z) (sym (list_any-append test (outside_scalars x (selectors_in x)) xs))

  mutual
    split_in : (e : Tree) → Passes e
    split_in (Number text span) = refl
    split_in (Str text span) = refl
    split_in (Selector name matchers sight span) = sym (or-false _)
    split_in (Subquery of sight span) = part of (split_in of)
    split_in (Paren of span) = part of (split_in of)
    split_in (Unary minus of span) = part of (split_in of)
    split_in (Binary op m left right span) =
        both (is_or op) left right (outside_scalars left (selectors_in left)) (outside_scalars right (selectors_in right)) (unless_scalar left (passes_in test left)) (unless_scalar right (passes_in test right))
        (part left (split_in left)) (part right (split_in right))
    split_in (Call name args span) = split_in_arguments args
    split_in (Aggregate op grouping args span) = split_in_arguments args

    split_in_arguments : (args : Trees) → passes_in_arguments test args ≡ (passes_in_arguments none args || list_any test (arguments_selectors args))
    split_in_arguments Nil = refl
    split_in_arguments (Next x xs) =
        one_more x (arguments_selectors xs) (unless_scalar x (passes_in test x)) (passes_in_arguments test xs) (passes_in_arguments none xs) (part x (split_in x)) (split_in_arguments xs)

  pub split : (e : Tree) → has_passing test e ≡ (has_passing none e || list_any test (selectors e))
  split e = part e (split_in e)

-- so a test of selectors that tells forks tells which expressions hold one

module _ (rules : List RuleTree) (test : Option Bytes → Bool) (tells : TellsSelectors rules test) where
  abbrev own : Option Bytes → Bool
  own = is_forked_selector rules

  has : (e : Tree) → (has_passing none e || list_any test (selectors e)) ≡ true → has_passing test e ≡ true
  has e h = split test e ∙ h

  a_selector : (e : Tree) (o : Option Bytes) → Contains (selectors e) o → SelectsFork rules o → has_passing test e ≡ true
  a_selector e o c is = has e (or_right (has_passing none e) (list_any test (selectors e)) (any_has test (selectors e) o c ((tells o).1 is)))

  -- an expression that holds a fork passes

  of_own : (o : Option Bytes) → own o ≡ true → SelectsFork rules o
  of_own None e = absurd (true≢false (sym e))
  of_own (Some name) e = inl e

  own_passes : (e : Tree) → has_own_fork rules e ≡ true → has_passing test e ≡ true
  own_passes e h = by (has_passing none e) refl (sym (split own e) ∙ h)
    where
      by : (b : Bool) → has_passing none e ≡ b → (has_passing none e || list_any own (selectors e)) ≡ true → has_passing test e ≡ true
      by true is either = has e (ap (λ (z : Bool). z || list_any test (selectors e)) is)
      by false is either = let found = some_has own (selectors e) (sym (ap (λ (z : Bool). z || list_any own (selectors e)) is) ∙ either) in a_selector e found.0 found.1 (of_own found.0 found.2)

  read_passes : (e : Tree) (r : RuleTree) → IsForkRule rules r → Reads rules e r.name → has_passing test e ≡ true
  read_passes e r fork (selected (inl c)) = a_selector e (Some r.name) c (inr (r, fork, inl refl))
  read_passes e r fork (selected (inr (c, recorded))) = a_selector e None c (r, fork)
  read_passes e r fork (through s there recording (inl c) rest) = a_selector e (Some s.name) c (inr (r, fork, inr (s, there, (recording, refl), rest)))
  read_passes e r fork (through s there recording (inr (c, recorded)) rest) = a_selector e None c (r, fork)

  -- and one that passes holds a fork

  selected_fork : (e : Tree) (o : Option Bytes) → Contains (selectors e) o → SelectsFork rules o → HoldsFork rules e
  selected_fork e None c (r, fork) = inr (r, fork.rule, (fork.recording, selected (inr (c, recorded rules r fork.rule fork.recording))), fork.fork)
  selected_fork e (Some name) c (inl several) = inl (split own e ∙ or_right (has_passing none e) (list_any own (selectors e)) (any_has own (selectors e) (Some name) c several))
  selected_fork e (Some name) c (inr (r, fork, inl same)) = inr (r, fork.rule, (fork.recording, selected (inl (subst (λ n. Contains (selectors e) (Some n)) (sym same) c))), fork.fork)
  selected_fork e (Some name) c (inr (r, fork, inr (s, there, (recording, same), reads))) =
      inr (r, fork.rule, (fork.recording, through s there recording (inl (subst (λ n. Contains (selectors e) (Some n)) (sym same) c)) reads), fork.fork)

  passes_hold : (e : Tree) → has_passing test e ≡ true → HoldsFork rules e
  passes_hold e h = by (has_passing none e) refl (sym (split test e) ∙ h)
    where
      by : (b : Bool) → has_passing none e ≡ b → (has_passing none e || list_any test (selectors e)) ≡ true → HoldsFork rules e
      by true is either = inl (split own e ∙ ap (λ (z : Bool). z || list_any own (selectors e)) is)
      by false is either = let found = some_has test (selectors e) (sym (ap (λ (z : Bool). z || list_any test (selectors e)) is) ∙ either) in selected_fork e found.0 found.1 ((tells found.0).0 found.2)

  pub tells_forks : TellsForks rules (has_passing test)
  tells_forks e = (passes_hold e, held e)
    where
      held : (e : Tree) → HoldsFork rules e → has_passing test e ≡ true
      held e (inl own_one) = own_passes e own_one
      held e (inr (r, there, (recording, reads), fork)) = read_passes e r (record { rule = there; recording = recording; fork = fork }) reads

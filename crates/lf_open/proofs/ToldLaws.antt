-- What is told of an expression is what is told of its parts and of itself; so of all that stands in it.
use Rattle.std.proofs.Common.{◌≡◌, ◌⊎◌, ◌↔◌, inl, inr, ℕ, Bool, true, false, true≢false, cond, not, nat_lt, ◌&&◌, ◌||◌, List, [], ◌∷◌, ◌++◌, length, map, Option, Some, None, refl, sym, ap, ap₂, ◌∙◌, subst}
use Rattle.std.proofs.lemmas.List.Elements.{Contains-append_cases, Contains-append_left, Contains-append_right}
use Rattle.std.specs.BTreeSet.{insert_key}
use Rattle.std.specs.List.{Contains, flat_map, list_any}
use Rattle.std.specs.Ordering.{nat_cmp}
use Rattle.std.proofs.Math.Logic.{⊎_swap}
use Rattle.std.proofs.Math.Bool.{or_assoc, or-false}
use Rattle.std.proofs.lemmas.List.Folds.{list_any-append}
use Rattle.lf_graph.proofs.Inserting.{comes_in, put_in, stays_in}
use Rattle.lf_laws.proofs.Members.{behind, first_or_behind, here, in_flat_map, in_map, map_member, none_in, of_flat_map, only_one}
use Rattle.lf_ast.specs.Labels.{Bytes}
use Rattle.lf_ast.specs.Tree.{Tree, Trees, Number, Str, Selector, Subquery, Paren, Unary, Binary, Call, Aggregate, Nil, Next, list, parts_of}
use Rattle.lf_ast.specs.Types.{is_scalar, selected}
use Rattle.lf_ast.specs.declared.expr.ExprType.TheVariants.{Scalar, Vector}
use Rattle.lf_forks.specs.views.Holding.{test_of}
use Rattle.lf_semantics.specs.Parts.{is_scalar_part}
use Rattle.lf_trials.specs.Forks.{has_passing, is_or, passes_in, passes_in_arguments}
use Rattle.lf_semantics.specs.Standing.{standing}
use Rattle.lf_open.specs.declared.open_at.OpenAt.{OpenAt}
use Rattle.lf_open.specs.declared.told.ExpressionFacts.{ExpressionFacts}
use Rattle.lf_open.specs.views.Told.{Facts, appended, beside, gathered, joined, made, nothing, own, own_bucket, own_fork, own_loud, own_numbers, own_opens, put_all, scalar_by, told, told_each}
use Rattle.lf_open.proofs.StandingParts.{of_other, of_scalar}

-- members of sets that are joined

pub of_put : (xs into : List ℕ) (k : ℕ) → Contains (put_all xs into) k → Contains xs k ⊎ Contains into k
of_put [] into k c = inr c
of_put (x ∷ xs) into k c = elim (of_put xs (insert_key nat_cmp into x) k c) [
  | inl d ↦ inl (behind x xs k d)
  | inr d ↦ elim (put_in into (insert_key nat_cmp into x) x k refl d) [ inl e ↦ inr e | inr e ↦ inl (subst (Contains (x ∷ xs)) e (here x xs)) ]
]

put_old : (xs into : List ℕ) (k : ℕ) → Contains into k → Contains (put_all xs into) k
put_old [] into k c = c
put_old (x ∷ xs) into k c = put_old xs (insert_key nat_cmp into x) k (stays_in into (insert_key nat_cmp into x) x k refl c)

pub in_put : (xs into : List ℕ) (k : ℕ) → Contains xs k ⊎ Contains into k → Contains (put_all xs into) k
in_put xs into k (inr c) = put_old xs into k c
in_put [] into k (inl c) = absurd (none_in k c)
in_put (x ∷ xs) into k (inl c) = elim (first_or_behind x xs k c) [
  | inl e ↦ put_old xs (insert_key nat_cmp into x) k (comes_in into (insert_key nat_cmp into x) x k refl e)
  | inr d ↦ in_put xs (insert_key nat_cmp into x) k (inl d)
]

in_joined : (a b : List ℕ) (k : ℕ) → Contains (joined a b) k ↔ (Contains a k ⊎ Contains b k)
in_joined a b k = by (nat_lt (length a) (length b))
  where
    by : (t : Bool) → Contains (cond t (put_all a b) (put_all b a)) k ↔ (Contains a k ⊎ Contains b k)
    by true = (of_put a b k, in_put a b k)
    by false = (λ c. ⊎_swap (of_put b a k c), λ h. in_put b a k (⊎_swap h))

in_both : (a b : List OpenAt) (o : OpenAt) → Contains (a ++ b) o ↔ (Contains a o ⊎ Contains b o)
in_both a b o = (Contains-append_cases a b o, λ h. elim h [ inl c ↦ Contains-append_left a b o c | inr c ↦ Contains-append_right a b o c ])

in_appended : (a b : List OpenAt) (o : OpenAt) → Contains (appended a b) o ↔ (Contains a o ⊎ Contains b o)
in_appended a b o = by (nat_lt (length a) (length b))
  where
    by : (t : Bool) → Contains (cond t (b ++ a) (a ++ b)) o ↔ (Contains a o ⊎ Contains b o)
    by true = (λ c. ⊎_swap ((in_both b a o).0 c), λ h. (in_both b a o).1 (⊎_swap h))
    by false = in_both a b o

-- of what is told at once

module _ (field : ExpressionFacts → Bool) (law : (a b : ExpressionFacts) → field (beside a b) ≡ (field a || field b)) where
  pub gathered_any : (a : ExpressionFacts) (ts : List ExpressionFacts) → field (gathered a ts) ≡ (field a || list_any field ts)
  gathered_any a [] = sym (or-false (field a))
  gathered_any a (t ∷ ts) = gathered_any (beside a t) ts ∙ ap (λ (b : Bool). b || list_any field ts) (law a t) ∙ or_assoc (field a) (field t) (list_any field ts)

pub gathered_push : (a : ExpressionFacts) (ts : List ExpressionFacts) (t : ExpressionFacts) → gathered a (ts ++ t ∷ []) ≡ beside (gathered a ts) t
gathered_push a [] t = refl
gathered_push a (x ∷ ts) t = gathered_push (beside a x) ts t

-- it has a member, or one of these has it
abbrev HasSome : {X : Type 0} → (ExpressionFacts → List X) → ExpressionFacts → List ExpressionFacts → X → Type 0
HasSome {X} field a ts x = Contains (field a) x ⊎ ((t : ExpressionFacts) × Contains ts t × Contains (field t) x)

module _ {X : Type 0} (field : ExpressionFacts → List X) (law : (a b : ExpressionFacts) (x : X) → Contains (field (beside a b)) x ↔ (Contains (field a) x ⊎ Contains (field b) x)) where
  pub gathered_has : (a : ExpressionFacts) (ts : List ExpressionFacts) (x : X) → Contains (field (gathered a ts)) x ↔ HasSome field a ts x
  gathered_has a [] x = (λ c. inl c, λ h. elim h [ inl c ↦ c | inr s ↦ absurd (none_in s.0 s.1) ])
  gathered_has a (t ∷ ts) x = (to (gathered_has (beside a t) ts x), from (gathered_has (beside a t) ts x))
    where
      to : (Contains (field (gathered (beside a t) ts)) x ↔ HasSome field (beside a t) ts x) → Contains (field (gathered (beside a t) ts)) x → HasSome field a (t ∷ ts) x
      to rest c = elim (rest.0 c) [
        | inl d ↦ elim ((law a t x).0 d) [ inl e ↦ inl e | inr e ↦ inr (t, here t ts, e) ]
        | inr s ↦ inr (s.0, behind t ts s.0 s.1, s.2)
      ]

      from : (Contains (field (gathered (beside a t) ts)) x ↔ HasSome field (beside a t) ts x) → HasSome field a (t ∷ ts) x → Contains (field (gathered (beside a t) ts)) x
      from rest (inl c) = rest.1 (inl ((law a t x).1 (inl c)))
      from rest (inr (s, there, c)) = rest.1 (elim (first_or_behind t ts s there) [ inl e ↦ inl ((law a t x).1 (inr (subst (λ (z : ExpressionFacts). Contains (field z) x) (sym e) c))) | inr d ↦ inr (s, d, c) ])

any_flat : (test : Tree → Bool) (ps : List Tree) → list_any test (flat_map standing ps) ≡ list_any (λ p. list_any test (standing p)) ps
any_flat test [] = refl
any_flat test (p ∷ ps) = list_any-append test (standing p) (flat_map standing ps) ∙ ap (λ (b : Bool). list_any test (standing p) || b) (any_flat test ps)

any_told : (value : Tree → ExpressionFacts) (field : ExpressionFacts → Bool) (test : Tree → Bool) (ps : List Tree) → ((p : Tree) → Contains ps p → field (value p) ≡ test p) → list_any field (map value ps) ≡ list_any test ps
any_told value field test [] each = refl
any_told value field test (p ∷ ps) each = ap₂ (λ (a b : Bool). a || b) (each p (here p ps)) (any_told value field test ps (λ q c. each q (behind p ps q c)))

-- ---- what is told of an expression

module _ (f : Facts) where
  each_is : (args : Trees) → told_each f args ≡ map (told f) (list args)
  each_is Nil = refl
  each_is (Next x xs) = ap (λ (l : List ExpressionFacts). told f x ∷ l) (each_is xs)

  -- it is made of what is told of its parts
  pub told_is : (e : Tree) → told f e ≡ made f e (map (told f) (parts_of e))
  told_is (Number text span) = refl
  told_is (Str text span) = refl
  told_is (Selector name matchers sight span) = refl
  told_is (Subquery of sight span) = refl
  told_is (Paren of span) = refl
  told_is (Unary minus of span) = refl
  told_is (Binary op m left right span) = refl
  told_is (Call name args span) = ap (made f (Call name args span)) (each_is args)
  told_is (Aggregate op grouping args span) = ap (made f (Aggregate op grouping args span)) (each_is args)

  abbrev pub parts_told : Tree → List ExpressionFacts
  parts_told e = map (told f) (parts_of e)

  -- what is told of all that stands in an expression
  pub record IsTold (e : Tree) : Type 0 where
    pub scalar : (told f e).scalar ≡ is_scalar_part e
    pub fork : (told f e).fork ≡ has_passing (test_of f.forks) e
    pub loud : (told f e).loud ≡ list_any (own_loud f) (standing e)
    pub bucket : (told f e).bucket ≡ list_any (own_bucket f) (standing e)
    pub reads : (k : ℕ) → Contains (told f e).reads k ↔ ((x : Tree) × Contains (standing e) x × Contains (own_numbers f x) k)
    pub found : (o : OpenAt) → Contains (told f e).found o ↔ ((x : Tree) × Contains (standing e) x × Contains (own_opens f x (parts_told x)) o)

  selector_scalar : (range : Option Bytes) → false ≡ is_scalar (selected range)
  selector_scalar None = refl
  selector_scalar (Some duration) = refl

  both_scalar : (p q : Bool) → (p && (q && true)) ≡ is_scalar (cond (p && q) Scalar Vector)
  both_scalar true true = refl
  both_scalar true false = refl
  both_scalar false q = refl

  one_scalar : (p : Bool) → (p && true) ≡ p
  one_scalar true = refl
  one_scalar false = refl

  -- whether it is a scalar
  scalar_is : (e : Tree) → ((p : Tree) → Contains (parts_of e) p → IsTold p) → scalar_by e (parts_told e) ≡ is_scalar_part e
  scalar_is (Number text span) each = refl
  scalar_is (Str text span) each = refl
  scalar_is (Selector name matchers sight span) each = selector_scalar sight.range
  scalar_is (Subquery of sight span) each = refl
  scalar_is (Paren of span) each = one_scalar (told f of).scalar ∙ (each of (here of [])).scalar
  scalar_is (Unary minus of span) each = one_scalar (told f of).scalar ∙ (each of (here of [])).scalar
  scalar_is (Binary op m left right span) each =
      ap₂ (λ (p q : Bool). p && (q && true)) (each left (here left (right ∷ []))).scalar (each right (behind left (right ∷ []) right (here right []))).scalar ∙ both_scalar (is_scalar_part left) (is_scalar_part right)
  scalar_is (Call name args span) each = refl
  scalar_is (Aggregate op grouping args span) each = refl

  -- forks, where it is no scalar
  unless_not : (e : Tree) → is_scalar_part e ≡ false → has_passing (test_of f.forks) e ≡ passes_in (test_of f.forks) e
  unless_not e is = ap (λ (b : Bool). not b && passes_in (test_of f.forks) e) is

  any_passing : (args : Trees) → passes_in_arguments (test_of f.forks) args ≡ list_any (has_passing (test_of f.forks)) (list args)
  any_passing Nil = refl
  any_passing (Next x xs) = ap (λ (b : Bool). has_passing (test_of f.forks) x || b) (any_passing xs)

  fork_parts : (e : Tree) → is_scalar_part e ≡ false → has_passing (test_of f.forks) e ≡ (own_fork f e || list_any (has_passing (test_of f.forks)) (parts_of e))
  fork_parts (Number text span) is = absurd (true≢false is)
  fork_parts (Str text span) is = refl
  fork_parts (Selector name matchers sight span) is = sym (or-false (has_passing (test_of f.forks) (Selector name matchers sight span)))
  fork_parts (Subquery of sight span) is = sym (or-false (has_passing (test_of f.forks) of))
  fork_parts (Paren of span) is = unless_not (Paren of span) is ∙ sym (or-false (has_passing (test_of f.forks) of))
  fork_parts (Unary minus of span) is = unless_not (Unary minus of span) is ∙ sym (or-false (has_passing (test_of f.forks) of))
  fork_parts (Binary op m left right span) is =
      unless_not (Binary op m left right span) is ∙ ap (λ (b : Bool). is_or op || (has_passing (test_of f.forks) left || b)) (sym (or-false (has_passing (test_of f.forks) right)))
  fork_parts (Call name args span) is = unless_not (Call name args span) is ∙ any_passing args
  fork_parts (Aggregate op grouping args span) is = any_passing args

  module _ (e : Tree) (each : (p : Tree) → Contains (parts_of e) p → IsTold p) where
    abbrev ps : List ExpressionFacts
    ps = parts_told e

    -- of a scalar nothing
    of_scalars : is_scalar_part e ≡ true → IsTold e
    of_scalars is = record {
      scalar = ap (λ (t : ExpressionFacts). t.scalar) t ∙ sym is;
      fork = ap (λ (t : ExpressionFacts). t.fork) t ∙ ap (λ (b : Bool). not b && passes_in (test_of f.forks) e) (sym is);
      loud = ap (λ (t : ExpressionFacts). t.loud) t ∙ ap (list_any (own_loud f)) (sym none);
      bucket = ap (λ (t : ExpressionFacts). t.bucket) t ∙ ap (list_any (own_bucket f)) (sym none);
      reads = λ k. (
        λ c. absurd (none_in k (subst (λ (l : List ℕ). Contains l k) (ap (λ (t : ExpressionFacts). t.reads) t) c)),
        λ h. absurd (none_in h.0 (subst (λ (l : List Tree). Contains l h.0) none h.1)),
      );
      found = λ o. (
        λ c. absurd (none_in o (subst (λ (l : List OpenAt). Contains l o) (ap (λ (t : ExpressionFacts). t.found) t) c)),
        λ h. absurd (none_in h.0 (subst (λ (l : List Tree). Contains l h.0) none h.1)),
      );
    }
      where
        none : standing e ≡ []
        none = of_scalar e is

        t : told f e ≡ nothing true
        t = told_is e ∙ ap (λ (b : Bool). cond b (nothing true) (gathered (own f e ps) ps)) (scalar_is e each ∙ is)

    -- of any other what is told of itself and of its parts
    of_others : is_scalar_part e ≡ false → IsTold e
    of_others is = record {
      scalar = ap (λ (t : ExpressionFacts). t.scalar) t ∙ gathered_scalar (own f e ps) ps ∙ sym is;
      fork =
          ap (λ (t : ExpressionFacts). t.fork) t ∙ gathered_any (λ t. t.fork) (λ a b. refl) (own f e ps) ps
          ∙ ap (λ (b : Bool). own_fork f e || b) (any_told (told f) (λ t. t.fork) (has_passing (test_of f.forks)) (parts_of e) (λ p c. (each p c).fork)) ∙ sym (fork_parts e is);
      loud = ap (λ (t : ExpressionFacts). t.loud) t ∙ gathered_any (λ t. t.loud) (λ a b. refl) (own f e ps) ps ∙ any_parts (λ t. t.loud) (own_loud f) (λ p c. (each p c).loud);
      bucket = ap (λ (t : ExpressionFacts). t.bucket) t ∙ gathered_any (λ t. t.bucket) (λ a b. refl) (own f e ps) ps ∙ any_parts (λ t. t.bucket) (own_bucket f) (λ p c. (each p c).bucket);
      reads = λ k. all (λ t. t.reads) (λ a b. in_joined a.reads b.reads) (own_numbers f) k (λ c. elim (of_put (own_numbers f e) [] k c) [ inl d ↦ d | inr d ↦ absurd (none_in k d) ]) (λ c. in_put (own_numbers f e) [] k (inl c)) (λ p c. (each p c).reads k);
      found = λ o. all (λ t. t.found) (λ a b. in_appended a.found b.found) (λ x. own_opens f x (parts_told x)) o (λ c. c) (λ c. c) (λ p c. (each p c).found o);
    }
      where
        stands : standing e ≡ e ∷ flat_map standing (parts_of e)
        stands = of_other e is

        t : told f e ≡ gathered (own f e ps) ps
        t = told_is e ∙ ap (λ (b : Bool). cond b (nothing true) (gathered (own f e ps) ps)) (scalar_is e each ∙ is)

        gathered_scalar : (a : ExpressionFacts) (ts : List ExpressionFacts) → (gathered a ts).scalar ≡ a.scalar
        gathered_scalar a [] = refl
        gathered_scalar a (x ∷ ts) = gathered_scalar (beside a x) ts

        any_parts : (field : ExpressionFacts → Bool) (test : Tree → Bool) → ((p : Tree) → Contains (parts_of e) p → field (told f p) ≡ list_any test (standing p)) → (test e || list_any field ps) ≡ list_any test (standing e)
        any_parts field test same =
            ap (λ (b : Bool). test e || b) (any_told (told f) field (λ p. list_any test (standing p)) (parts_of e) same ∙ sym (any_flat test (parts_of e))) ∙ ap (list_any test) (sym stands)

        all : {X : Type 0} (field : ExpressionFacts → List X) → ((a b : ExpressionFacts) (x : X) → Contains (field (beside a b)) x ↔ (Contains (field a) x ⊎ Contains (field b) x)) → (its : Tree → List X) (x : X)
            → (Contains (field (own f e ps)) x → Contains (its e) x) → (Contains (its e) x → Contains (field (own f e ps)) x)
            → ((p : Tree) → Contains (parts_of e) p → Contains (field (told f p)) x ↔ ((y : Tree) × Contains (standing p) y × Contains (its y) x)) → Contains (field (told f e)) x ↔ ((y : Tree) × Contains (standing e) y × Contains (its y) x)
        all {X} field law its x own_to own_from parts = (
          λ c. elim ((gathered_has field law (own f e ps) ps x).0 (subst (λ (z : ExpressionFacts). Contains (field z) x) t c)) [
            | inl d ↦ (e, subst (λ (l : List Tree). Contains l e) (sym stands) (here e (flat_map standing (parts_of e))), own_to d)
            | inr s ↦ (
                let m = map_member (told f) (parts_of e) s.0 s.1 in
                let y = (parts m.0 m.1).0 (subst (λ (z : ExpressionFacts). Contains (field z) x) m.2 s.2) in
                (y.0, subst (λ (l : List Tree). Contains l y.0) (sym stands) (behind e (flat_map standing (parts_of e)) y.0 (in_flat_map standing (parts_of e) m.0 y.0 m.1 y.1)), y.2)
                )
          ],
          λ h. subst (λ (z : ExpressionFacts). Contains (field z) x) (sym t) ((gathered_has field law (own f e ps) ps x).1 (elim (first_or_behind e (flat_map standing (parts_of e)) h.0 (subst (λ (l : List Tree). Contains l h.0) stands h.1)) [
            | inl same ↦ inl (own_from (subst (λ (z : Tree). Contains (its z) x) (sym same) h.2))
            | inr d ↦ (
                let p = of_flat_map standing (parts_of e) h.0 d in
                inr (told f p.0, in_map (told f) (parts_of e) p.0 p.1, (parts p.0 p.1).1 (h.0, p.2, h.2))
                )
          ])),
        )

    step : IsTold e
    step = by (is_scalar_part e) refl
      where
        by : (b : Bool) → is_scalar_part e ≡ b → IsTold e
        by true is = of_scalars is
        by false is = of_others is

  mutual
    pub is_told : (e : Tree) → IsTold e
    is_told (Number text span) = step (Number text span) (λ p c. absurd (none_in p c))
    is_told (Str text span) = step (Str text span) (λ p c. absurd (none_in p c))
    is_told (Selector name matchers sight span) = step (Selector name matchers sight span) (λ p c. absurd (none_in p c))
    is_told (Subquery of sight span) = step (Subquery of sight span) (λ p c. subst IsTold (only_one of p c) (is_told of))
    is_told (Paren of span) = step (Paren of span) (λ p c. subst IsTold (only_one of p c) (is_told of))
    is_told (Unary minus of span) = step (Unary minus of span) (λ p c. subst IsTold (only_one of p c) (is_told of))
    is_told (Binary op m left right span) =
        step (Binary op m left right span) (λ p c. elim (first_or_behind left (right ∷ []) p c) [ inl e ↦ subst IsTold e (is_told left) | inr d ↦ subst IsTold (only_one right p d) (is_told right) ])
    is_told (Call name args span) = step (Call name args span) (are_told args)
    is_told (Aggregate op grouping args span) = step (Aggregate op grouping args span) (are_told args)

    are_told : (args : Trees) (p : Tree) → Contains (list args) p → IsTold p
    are_told Nil p c = absurd (none_in p c)
    are_told (Next x xs) p c = elim (first_or_behind x (list xs) p c) [ inl e ↦ subst IsTold e (is_told x) | inr d ↦ are_told xs p d ]

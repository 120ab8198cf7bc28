-- The selectors of a rule and its reach are no more than its own, with those of the rules that it selects and of their reaches.
use Rattle.std.proofs.Common.{◌≡◌, ◌<◌, ◌≤◌, ℕ, zero, suc, ◌+◌, ◌*◌, ◌-◌, ◌^◌, min, false, Bool, true, cond, eqb, List, [], ◌∷◌, ◌++◌, length, map, get_or, Option, Some, None, inl, inr, refl, sym, ◌∙◌, ap, subst, true≢false, arith, length-append, slice_get}
use Rattle.std.specs.List.{Contains, flat_map, range_with_len, sum_by}
use Rattle.std.proofs.lemmas.Bool.{cases_lt, eq-eqb, eqb-true}
use Rattle.std.proofs.lemmas.List.{get_or_append_left, get_or_past}
use Rattle.std.proofs.Math.Seq.{get_or-append_seam}
use Rattle.std.proofs.lemmas.List.Sums.{sum_by-append, sum_by-cons, sum_by_push}
use Rattle.lf_laws.specs.Ascending.{AreAscending}
use Rattle.lf_laws.proofs.Members.{behind, first_or_behind, here, in_flat_map, none_in}
use Rattle.lf_laws.proofs.Slices.{number_of}
use Rattle.lf_ast.specs.Labels.{Bytes}
use Rattle.lf_ast.specs.Rules.{RuleTree}
use Rattle.lf_ast.specs.Tree.{Tree}
use Rattle.lf_deps.specs.Reading.{Reads, selectors}
use Rattle.lf_deps.specs.Reading.Reads.{selected, through}
use Rattle.lf_deps.specs.views.Index.{makers_of}
use Rattle.lf_deps.specs.views.Sources.{IsSourcesOf, Sources}
use Rattle.lf_deps.proofs.LookedUp.{recorded_from}
use Rattle.lf_forks.specs.Selectors.{selector_total}
use Rattle.lf_trials.specs.Reached.{with_reach}
use Rattle.lf_worlds.specs.Measure.{AreReaches, selectors_at}
use Rattle.lf_worlds.specs.views.AtMost.{most_at, most_by}
use Rattle.lf_worlds.proofs.Measured.{counts_at, product_up_to}
use Rattle.lf_worlds.proofs.Reaches.{less_behind, tail_ascends, with_all, with_ascends, with_itself, with_members}

-- ---- sums

-- a list without the first of an element
without_first : ℕ → List ℕ → List ℕ
without_first x [] = []
without_first x (z ∷ zs) = cond (eqb x z) zs (z ∷ without_first x zs)

still_in : (x y : ℕ) (zs : List ℕ) → Contains zs y → (x ≡ y → ⊥) → Contains (without_first x zs) y
unfolding without_first
still_in x y [] c other = absurd (none_in y c)
still_in x y (z ∷ zs) c other = by (eqb x z) refl (λ d. still_in x y zs d other)
  where
    by : (b : Bool) → eqb x z ≡ b → (Contains zs y → Contains (without_first x zs) y) → Contains (cond b zs (z ∷ without_first x zs)) y
    by true e later = elim (first_or_behind z zs y c) [ inl same ↦ absurd (other (eqb-true x z e ∙ same)) | inr d ↦ d ]
    by false e later = elim (first_or_behind z zs y c) [ inl same ↦ subst (Contains (z ∷ without_first x zs)) same (here z (without_first x zs)) | inr d ↦ behind z (without_first x zs) y (later d) ]

sum_of_least : {X : Type 0} (f g : X → ℕ) (xs : List X) → ((x : X) → Contains xs x → f x ≤ g x) → sum_by f xs ≤ sum_by g xs
sum_of_least f g [] less = omega arith
sum_of_least f g (x ∷ xs) less =
    let one = less x (here x xs) in
    let rest = sum_of_least f g xs (λ y c. less y (behind x xs y c)) in
    let left = sum_by-cons f x xs in
    let right = sum_by-cons g x xs in
    omega (arith, one, rest, left, right)

one_of_sum : {X : Type 0} (f : X → ℕ) (xs : List X) (x : X) → Contains xs x → f x ≤ sum_by f xs
one_of_sum f [] x c = absurd (none_in x c)
one_of_sum f (y ∷ ys) x c = let all = sum_by-cons f y ys in elim (first_or_behind y ys x c) [
  | inl same ↦ let e = ap f same in omega (arith, e, all)
  | inr d ↦ let rest = one_of_sum f ys x d in omega (arith, rest, all)
]

module _ (f : ℕ → ℕ) where
  taken_out : (x : ℕ) (zs : List ℕ) → Contains zs x → sum_by f zs ≡ f x + sum_by f (without_first x zs)
  unfolding without_first
  taken_out x [] c = absurd (none_in x c)
  taken_out x (z ∷ zs) c = by (eqb x z) refl (taken_out x zs)
    where
      by : (b : Bool) → eqb x z ≡ b → (Contains zs x → sum_by f zs ≡ f x + sum_by f (without_first x zs)) → sum_by f (z ∷ zs) ≡ f x + sum_by f (cond b zs (z ∷ without_first x zs))
      by true e later = let all = sum_by-cons f z zs in let same = ap f (eqb-true x z e) in omega (arith, all, same)
      by false e later =
          let all = sum_by-cons f z zs in
          let left = sum_by-cons f z (without_first x zs) in
          elim (first_or_behind z zs x c) [
            | inl same ↦ absurd (true≢false (sym (eq-eqb x z (sym same)) ∙ e))
            | inr d ↦ let rest = later d in omega (arith, all, left, rest)
          ]

  -- what stands once in a list, and all of it in another
  pub sum_within : (xs zs : List ℕ) → AreAscending xs → ((x : ℕ) → Contains xs x → Contains zs x) → sum_by f xs ≤ sum_by f zs
  sum_within [] zs ascending into = omega arith
  sum_within (x ∷ xs) zs ascending into =
      let rest = sum_within xs (without_first x zs) (tail_ascends x xs ascending) (λ y c. still_in x y zs (into y (behind x xs y c)) (λ same. let less = less_behind x xs ascending y c in absurd (omega (arith, less, same)))) in
      let one = sum_by-cons f x xs in
      let all = taken_out x zs (into x (here x xs)) in
      omega (arith, rest, one, all)

  sum_of_lists : {X : Type 0} (g : X → List ℕ) (xs : List X) → sum_by f (flat_map g xs) ≡ sum_by (λ x. sum_by f (g x)) xs
  sum_of_lists g [] = refl
  sum_of_lists g (x ∷ xs) =
      let first = sum_by-append f (g x) (flat_map g xs) in
      let rest = sum_of_lists g xs in
      let all = sum_by-cons (λ y. sum_by f (g y)) x xs in
      omega (arith, first, rest, all)

-- ---- up to a greatest number

enough : (a b c m : ℕ) → m ≤ b → min a m ≤ min (c + min b m) m
enough a b c m h = grind arith

less_so : (a b m : ℕ) → min a m ≤ b → b < m → a ≤ b
less_so a b m h less = grind arith

both_so : (a b c m : ℕ) → a ≤ c + b → min a m ≤ min (c + min b m) m
both_so a b c m h = grind arith

whole : (a m : ℕ) → min a m < m → min a m ≡ a
whole a m h = grind arith

pub one_up_to : (a b most total next : ℕ) → total ≡ min a most → next ≡ min (total + b) most → next ≡ min (a + b) most
one_up_to a b most total next e f = grind arith

-- ---- the rules that are tried with a rule

abbrev pub tried_by : List RuleTree → (ℕ → List ℕ) → ℕ → ℕ
tried_by rules reach k = selectors_at rules (with_reach k (reach k))

-- what is told of each of the first rules
abbrev pub AreTold : List RuleTree → (ℕ → List ℕ) → List ℕ → Type 0
AreTold rules reach each = (j : ℕ) → j < length each → min (tried_by rules reach j) (2 ^ 64 - 1) ≤ get_or each j (2 ^ 64 - 1)

module _ (rules : List RuleTree) (s : Sources) (is : IsSourcesOf rules s) (reach : ℕ → List ℕ) (are : AreReaches rules reach) where
  abbrev with_it : ℕ → List ℕ
  with_it k = with_reach k (reach k)

  abbrev tried_at : ℕ → ℕ
  tried_at = tried_by rules reach

  abbrev makers_by : Option Bytes → List ℕ
  makers_by None = []
  makers_by (Some name) = makers_of s name

  -- each rule that is read is one that is selected, or read by it
  abbrev Met : Tree → ℕ → Type 0
  Met e l = (o : Option Bytes) × Contains (selectors e) o × ((m : ℕ) × Contains (makers_by o) m × Contains (with_it m) l)

  met : (e : Tree) (name : Bytes) → Reads rules e name → (Contains (selectors e) None → ⊥) → (l : ℕ) (q : RuleTree) → slice_get rules l ≡ Some q → q.alert ≡ false → q.name ≡ name → Met e l
  met e name (selected (inl c)) named l q at a same =
      let P : Bytes → Type 0 = λ n. Contains (makers_of s n) l in
      (Some name, c, (l, subst P same (recorded_from rules s is q l at a), with_itself l (reach l)))
  met e name (selected (inr c)) named l q at a same = absurd (named c.0)
  met e name (through o c b (inl d) rest) named l q at a same =
      let j = number_of rules o c in
      let R : Bytes → Type 0 = λ n. Reads rules o.expr n in
      (Some o.name, d, (j.0, recorded_from rules s is o j.0 j.2 b, with_all j.0 (reach j.0) l (((are j.0 o j.2).members l).1 (q, at, (a, subst R (sym same) rest)))))
  met e name (through o c b (inr d) rest) named l q at a same = absurd (named d.0)

  abbrev count_at : ℕ → ℕ
  count_at k = get_or (map (λ (r : RuleTree). selector_total r.expr) rules) k 0

  tried_is : (k : ℕ) → tried_at k ≡ sum_by count_at (with_it k)
  tried_is k = counts_at (λ (r : RuleTree). selector_total r.expr) rules (with_it k)

  -- where something is told of each of the first rules
  module _ (each : List ℕ) (told : AreTold rules reach each) where
    of_one : (m : ℕ) → most_at each m < 2 ^ 64 - 1 → tried_at m ≤ most_at each m
    of_one m less = elim (cases_lt m (length each)) [
      | inl h ↦ less_so (tried_at m) (most_at each m) (2 ^ 64 - 1) (told m h) less
      | inr h ↦ let past = get_or_past each m (2 ^ 64 - 1) h in absurd (omega (arith, past, less))
    ]

    of_selector : (o : Option Bytes) → most_by s each o < 2 ^ 64 - 1 → sum_by tried_at (makers_by o) ≤ most_by s each o
    of_selector None less = omega arith
    of_selector (Some name) less =
        let makers : List ℕ = makers_of s name in
        let all : ℕ = sum_by (most_at each) makers in
        let is_all : most_by s each (Some name) ≡ all = whole all (2 ^ 64 - 1) less in
        let sums = sum_of_least tried_at (most_at each) makers (λ m c. let one = one_of_sum (most_at each) makers m c in of_one m (omega (arith, one, is_all, less))) in
        omega (arith, sums, is_all)

    few_by : (k : ℕ) (r : RuleTree) → slice_get rules k ≡ Some r → sum_by (most_by s each) (selectors r.expr) < 2 ^ 64 - 1 → tried_at k ≤ count_at k + sum_by (most_by s each) (selectors r.expr)
    few_by k r at few =
        let found : List (Option Bytes) = selectors r.expr in
        let by_one : Option Bytes → List ℕ = λ o. flat_map with_it (makers_by o) in
        let all : List ℕ = k ∷ flat_map by_one found in
        let small : (o : Option Bytes) → Contains found o → most_by s each o < 2 ^ 64 - 1 = λ o c. let one = one_of_sum (most_by s each) found o c in omega (arith, one, few) in
        let named : Contains found None → ⊥ = λ c. let one = small None c in absurd (omega (arith, one)) in
        let of = are k r at in
        let into : (l : ℕ) → Contains (with_it k) l → Contains all l = λ l c. elim (with_members k (reach k) l c) [
          | inl same ↦ subst (Contains all) same (here k (flat_map by_one found))
          | inr there ↦
              let q = (of.members l).0 there in
              let m = met r.expr q.0.name q.2.1 named l q.0 q.1 q.2.0 refl in
              behind k (flat_map by_one found) l (in_flat_map by_one found m.0 l m.1 (in_flat_map with_it (makers_by m.0) m.2.0 l m.2.1 m.2.2))
        ] in
        let within = sum_within count_at (with_it k) all (with_ascends k (reach k) of.ascending) into in
        let first = sum_by-cons count_at k (flat_map by_one found) in
        let lists = sum_of_lists count_at by_one found in
        let each_of = sum_of_least (λ o. sum_by count_at (by_one o)) (most_by s each) found (λ o c.
        let one = of_selector o (small o c) in
        let parts = sum_of_lists count_at with_it (makers_by o) in
        let same = sum_of_least (λ m. sum_by count_at (with_it m)) tried_at (makers_by o) (λ m d. let e = tried_is m in omega (arith, e)) in
        omega (arith, one, parts, same)) in
        let own = tried_is k in
        omega (arith, within, first, lists, each_of, own)

    pub no_more : (k : ℕ) (r : RuleTree) → slice_get rules k ≡ Some r → min (tried_at k) (2 ^ 64 - 1) ≤ min (count_at k + min (sum_by (most_by s each) (selectors r.expr)) (2 ^ 64 - 1)) (2 ^ 64 - 1)
    no_more k r at =
        let sum : ℕ = sum_by (most_by s each) (selectors r.expr) in
        elim (cases_lt sum (2 ^ 64 - 1)) [
          | inl few ↦ both_so (tried_at k) sum (count_at k) (2 ^ 64 - 1) (few_by k r at few)
          | inr many ↦ enough (tried_at k) sum (count_at k) (2 ^ 64 - 1) many
        ]

-- with one rule more

pub one_more_told : (rules : List RuleTree) (reach : ℕ → List ℕ) (each : List ℕ) (n : ℕ) → AreTold rules reach each → min (tried_by rules reach (length each)) (2 ^ 64 - 1) ≤ n → AreTold rules reach (each ++ n ∷ [])
one_more_told rules reach each n told more j less = elim (cases_lt j (length each)) [
  | inl h ↦ let same = get_or_append_left each (n ∷ []) (2 ^ 64 - 1) j h in let one = told j h in omega (arith, same, one)
  | inr h ↦
      let long = length-append each (n ∷ []) in
      let e : j ≡ length each = omega (arith, h, less, long) in
      let same : get_or (each ++ n ∷ []) j (2 ^ 64 - 1) ≡ n = ap (λ (i : ℕ). get_or (each ++ n ∷ []) i (2 ^ 64 - 1)) e ∙ get_or-append_seam each n [] (2 ^ 64 - 1) in
      let tried = ap (tried_by rules reach) e in
      omega (arith, same, tried, more)
]

pub both_up_to : (a b x y m : ℕ) → min a m ≤ x → min b m ≤ y → min (a + b) m ≤ min (x + y) m
both_up_to a b x y m h k = grind arith

pub product_least : (n a b m : ℕ) → min a m ≤ b → min (n * a) m ≤ min (n * b) m
product_least n a b m h = let less = times n (min a m) b h in let e = product_up_to n a m in least_of (n * min a m) (n * b) (n * a) less e
  where
    times : (k x y : ℕ) → x ≤ y → k * x ≤ k * y
    times zero x y h = omega arith
    times (suc k) x y h =
        let rest = times k x y h in
        let left : suc k * x ≡ x + k * x = omega arith in
        let right : suc k * y ≡ y + k * y = omega arith in
        omega (arith, rest, left, right, h)

    least_of : (x y z : ℕ) → x ≤ y → min x m ≡ min z m → min z m ≤ min y m
    least_of x y z h e = grind arith

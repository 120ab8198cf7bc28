-- What is open at an expression by what is told of its parts.
use Rattle.std.proofs.Common.{◌≡◌, ◌<◌, ◌↔◌, inl, inr, ℕ, Bool, true, false, true≢false, cond, not, nat_lt, ◌&&◌, IsTrue, List, [], ◌∷◌, length, Option, Some, refl, sym, ◌∙◌, subst, arith}
use Rattle.std.specs.BTreeMap.{is_at}
use Rattle.std.specs.List.{Contains, flat_map, list_any}
use Rattle.std.specs.Ordering.{nat_cmp}
use Rattle.lf_laws.proofs.Members.{any_has, behind, first_or_behind, here, in_flat_map, none_in, of_flat_map, only_one, some_has}
use Rattle.lf_ast.specs.Labels.{Bytes}
use Rattle.lf_ast.specs.Rules.{RuleTree}
use Rattle.lf_ast.specs.Selectors.{selected_name}
use Rattle.lf_ast.specs.Tree.{Tree, Trees, Number, Str, Selector, Subquery, Paren, Unary, Binary, Call, Aggregate, Nil, Next, list, parts_of}
use Rattle.lf_deps.specs.Reading.{Reads, SelectsBy, own_selectors, selectors}
use Rattle.lf_deps.specs.Reading.Reads.{selected, through}
use Rattle.lf_deps.specs.views.Names.{AreNumbersBy, IsPlaced}
use Rattle.lf_forks.proofs.ForkTests.{tells_forks}
use Rattle.lf_forks.specs.views.ForkTests.{TellsSelectors}
use Rattle.lf_forks.specs.views.Holding.{test_of}
use Rattle.lf_semantics.specs.Listing.{place}
use Rattle.lf_semantics.specs.Parts.{is_scalar_part}
use Rattle.lf_semantics.proofs.Places.{same_text}
use Rattle.lf_trials.specs.Forks.{HoldsFork}
use Rattle.lf_open.specs.Constructs.{AreVectors, ReadInCommon}
use Rattle.lf_open.specs.Holding.{CannotBeSilent, NamesLe, has_own_source, is_source, matches_le, names_le}
use Rattle.lf_semantics.specs.Standing.{standing}
use Rattle.lf_open.specs.views.Marks.{TellsReading}
use Rattle.lf_open.specs.views.ReadNames.{HaveNames}
use Rattle.lf_open.specs.views.Told.{Facts, are_vectors, has_any, numbers_by, own_numbers, shares, told}
use Rattle.lf_open.proofs.Held.{by_selector, holds_by, reads_by, selectors_stand}
use Rattle.lf_open.proofs.StandingParts.{of_other, of_scalar}
use Rattle.lf_open.proofs.ToldLaws.{is_told}
use Rattle.lf_graph.proofs.Held.{held, holds}

-- what stands in an expression that stands in another stands in that

abbrev pub StandsWithin : Tree → Type 0
StandsWithin e = (x : Tree) → Contains (standing e) x → (p : Tree) → Contains (parts_of x) p → (y : Tree) → Contains (standing p) y → Contains (standing e) y

module _ (e : Tree) (each : (p : Tree) → Contains (parts_of e) p → StandsWithin p) where
  step : StandsWithin e
  step x c p d y s = by (is_scalar_part e) refl
    where
      by : (b : Bool) → is_scalar_part e ≡ b → Contains (standing e) y
      by true is = absurd (none_in x (subst (λ (l : List Tree). Contains l x) (of_scalar e is) c))
      by false is = subst (λ (l : List Tree). Contains l y) (sym stands) (behind e (flat_map standing (parts_of e)) y (elim (first_or_behind e (flat_map standing (parts_of e)) x (subst (λ (l : List Tree). Contains l x) stands c)) [
        | inl same ↦ in_flat_map standing (parts_of e) p y (subst (λ (z : Tree). Contains (parts_of z) p) (sym same) d) s
        | inr f ↦ let q = of_flat_map standing (parts_of e) x f in in_flat_map standing (parts_of e) q.0 y q.1 (each q.0 q.1 x q.2 p d y s)
      ]))
        where
          stands : standing e ≡ e ∷ flat_map standing (parts_of e)
          stands = of_other e is

mutual
  pub stands_within : (e : Tree) → StandsWithin e
  stands_within (Number text span) = step (Number text span) (λ p c. absurd (none_in p c))
  stands_within (Str text span) = step (Str text span) (λ p c. absurd (none_in p c))
  stands_within (Selector name matchers sight span) = step (Selector name matchers sight span) (λ p c. absurd (none_in p c))
  stands_within (Subquery of sight span) = step (Subquery of sight span) (λ p c. subst StandsWithin (only_one of p c) (stands_within of))
  stands_within (Paren of span) = step (Paren of span) (λ p c. subst StandsWithin (only_one of p c) (stands_within of))
  stands_within (Unary minus of span) = step (Unary minus of span) (λ p c. subst StandsWithin (only_one of p c) (stands_within of))
  stands_within (Binary op m left right span) =
      step (Binary op m left right span) (λ p c. elim (first_or_behind left (right ∷ []) p c) [ inl e ↦ subst StandsWithin e (stands_within left) | inr d ↦ subst StandsWithin (only_one right p d) (stands_within right) ])
  stands_within (Call name args span) = step (Call name args span) (each_within args)
  stands_within (Aggregate op grouping args span) = step (Aggregate op grouping args span) (each_within args)

  each_within : (args : Trees) (p : Tree) → Contains (list args) p → StandsWithin p
  each_within Nil p c = absurd (none_in p c)
  each_within (Next x xs) p c = elim (first_or_behind x (list xs) p c) [ inl e ↦ subst StandsWithin e (stands_within x) | inr d ↦ each_within xs p d ]

-- numbers in common

common_in : (many few : List ℕ) → has_any many few ≡ true → (k : ℕ) × Contains many k × Contains few k
common_in many few e = let k = some_has (λ (n : ℕ). list_any (is_at (nat_cmp n)) many) few e in (k.0, held k.0 many k.2, k.1)

in_common : (many few : List ℕ) (k : ℕ) → Contains many k → Contains few k → has_any many few ≡ true
in_common many few k c d = any_has (λ (n : ℕ). list_any (is_at (nat_cmp n)) many) few k d (holds k many c)

pub shared : (a b : List ℕ) → IsTrue (shares a b) ↔ ((k : ℕ) × Contains a k × Contains b k)
shared a b = by (nat_lt (length a) (length b))
  where
    by : (t : Bool) → IsTrue (cond t (has_any b a) (has_any a b)) ↔ ((k : ℕ) × Contains a k × Contains b k)
    by true = (λ e. let k = common_in b a e in (k.0, k.2, k.1), λ h. in_common b a h.0 h.2 h.1)
    by false = (λ e. common_in a b e, λ h. in_common a b h.0 h.1 h.2)

-- what is read has a place

module _ (rules : List RuleTree) (names : List Bytes) (have : HaveNames rules names) where
  selects_placed : (found : List (Option Bytes)) → ((m : Bytes) → Contains found (Some m) → IsPlaced names m) → (n : Bytes) → SelectsBy rules found n → IsPlaced names n
  selects_placed found placed n (inl c) = placed n c
  selects_placed found placed n (inr c) = have.recorded n c.1

  pub reads_placed : (e : Tree) → ((m : Bytes) → Contains (selectors e) (Some m) → IsPlaced names m) → (n : Bytes) → Reads rules e n → IsPlaced names n
  reads_placed e placed n (selected s) = selects_placed (selectors e) placed n s
  reads_placed e placed n (through r there recording s rest) = reads_placed r.expr (λ m c. have.selected r m there c) n rest

-- what is told of an expression

module _ (rules : List RuleTree) (f : Facts) where
  module _ (forks : TellsSelectors rules (test_of f.forks)) where
    pub fork_is : (e : Tree) → IsTrue (told f e).fork ↔ HoldsFork rules e
    fork_is e = subst (λ (b : Bool). IsTrue b ↔ HoldsFork rules e) (sym (is_told f e).fork) (tells_forks rules (test_of f.forks) forks e)

  module _ (loud : TellsReading rules (λ r. has_own_source r.expr) f.loud) where
    pub loud_is : (e : Tree) → IsTrue (told f e).loud ↔ CannotBeSilent rules e
    loud_is e = subst (λ (b : Bool). IsTrue b ↔ CannotBeSilent rules e) (sym (is_told f e).loud) (holds_by rules is_source (λ r. has_own_source r.expr) f.loud loud e)

  module _ (on_le : TellsReading rules names_le f.on_le) where
    pub bucket_is : (e : Tree) → IsTrue (told f e).bucket ↔ NamesLe rules e
    bucket_is e = subst (λ (b : Bool). IsTrue b ↔ NamesLe rules e) (sym (is_told f e).bucket) (holds_by rules matches_le names_le f.on_le on_le e)

  pub vectors_are : (l r : Tree) → IsTrue (are_vectors (told f l) (told f r)) ↔ AreVectors l r
  vectors_are l r = by (told f l).scalar (told f r).scalar (is_told f l).scalar (is_told f r).scalar
    where
      by : (p q : Bool) → p ≡ is_scalar_part l → q ≡ is_scalar_part r → IsTrue (not p && not q) ↔ AreVectors l r
      by false false d e = (λ h. (sym d, sym e), λ h. refl)
      by true q d e = (λ h. absurd (true≢false (sym h)), λ h. absurd (true≢false (d ∙ h.0)))
      by false true d e = (λ h. absurd (true≢false (sym h)), λ h. absurd (true≢false (e ∙ h.1)))

  -- of the parts of what stands in an expression whose selectors have their numbers
  module _ (root : Tree) (names : List Bytes) (numbers : (o : Option Bytes) → Contains (selectors root) o → AreNumbersBy rules names o (numbers_by f o)) (placed : (n : Bytes) → Reads rules root n → IsPlaced names n) where
    -- the expression has what stands in this one
    abbrev pub IsIn : Tree → Type 0
    IsIn e = (x : Tree) → Contains (standing e) x → Contains (standing root) x

    select_root : (e : Tree) → IsIn e → (o : Option Bytes) → Contains (selectors e) o → Contains (selectors root) o
    select_root e is o c =
        let x = of_flat_map own_selectors (standing e) o (subst (λ (l : List (Option Bytes)). Contains l o) (selectors_stand e) c) in
        subst (λ (l : List (Option Bytes)). Contains l o) (sym (selectors_stand root)) (in_flat_map own_selectors (standing root) x.0 o (is x.0 x.1) x.2)

    of_numbers : (x : Tree) (k : ℕ) → Contains (own_numbers f x) k → (o : Option Bytes) × Contains (own_selectors x) o × Contains (numbers_by f o) k
    of_numbers (Selector name matchers sight span) k c = (selected_name name matchers, here (selected_name name matchers) [], c)
    of_numbers (Number text span) k c = absurd (none_in k c)
    of_numbers (Str text span) k c = absurd (none_in k c)
    of_numbers (Subquery of sight span) k c = absurd (none_in k c)
    of_numbers (Paren of span) k c = absurd (none_in k c)
    of_numbers (Unary minus of span) k c = absurd (none_in k c)
    of_numbers (Binary op m left right span) k c = absurd (none_in k c)
    of_numbers (Call name args span) k c = absurd (none_in k c)
    of_numbers (Aggregate op grouping args span) k c = absurd (none_in k c)

    in_numbers : (x : Tree) (o : Option Bytes) (k : ℕ) → Contains (own_selectors x) o → Contains (numbers_by f o) k → Contains (own_numbers f x) k
    in_numbers (Selector name matchers sight span) o k c d = subst (λ (z : Option Bytes). Contains (numbers_by f z) k) (sym (only_one (selected_name name matchers) o c)) d
    in_numbers (Number text span) o k c d = absurd (none_in o c)
    in_numbers (Str text span) o k c d = absurd (none_in o c)
    in_numbers (Subquery of sight span) o k c d = absurd (none_in o c)
    in_numbers (Paren of span) o k c d = absurd (none_in o c)
    in_numbers (Unary minus of span) o k c d = absurd (none_in o c)
    in_numbers (Binary op m left right span) o k c d = absurd (none_in o c)
    in_numbers (Call name args span) o k c d = absurd (none_in o c)
    in_numbers (Aggregate op grouping args span) o k c d = absurd (none_in o c)

    -- a number is that of a name that is read
    number_read : (e : Tree) → IsIn e → (k : ℕ) → Contains (told f e).reads k → (k < length names) × ((n : Bytes) × Reads rules e n × (place names n ≡ k))
    number_read e is k c =
        let x = ((is_told f e).reads k).0 c in
        let o = of_numbers x.0 k x.2 in
        let own : Contains (selectors e) o.0 = subst (λ (l : List (Option Bytes)). Contains l o.0) (sym (selectors_stand e)) (in_flat_map own_selectors (standing e) x.0 o.0 x.1 o.1) in
        let h = (numbers o.0 (select_root e is o.0 own) k).0 o.2 in
        (h.0, (h.1.0, reads_by rules e o.0 h.1.0 own h.1.1, h.1.2))

    root_reads : (e : Tree) → IsIn e → (n : Bytes) → Reads rules e n → Reads rules root n
    root_reads e is n reads = let o = by_selector rules e n reads in reads_by rules root o.0 n (select_root e is o.0 o.1) o.2

    read_number : (e : Tree) → IsIn e → (n : Bytes) → Reads rules e n → Contains (told f e).reads (place names n)
    read_number e is n reads =
        let o = by_selector rules e n reads in
        let x = of_flat_map own_selectors (standing e) o.0 (subst (λ (l : List (Option Bytes)). Contains l o.0) (selectors_stand e) o.1) in
        let k = (numbers o.0 (select_root e is o.0 o.1) (place names n)).1 (placed n (root_reads e is n reads), (n, o.2, refl)) in
        ((is_told f e).reads (place names n)).1 (x.0, x.1, in_numbers x.0 o.0 (place names n) x.2 k)

    pub common_is : (l r : Tree) → IsIn l → IsIn r → IsTrue (shares (told f l).reads (told f r).reads) ↔ ReadInCommon rules l r
    common_is l r in_l in_r = (to, from)
      where
        to : IsTrue (shares (told f l).reads (told f r).reads) → ReadInCommon rules l r
        to e apart =
            let k = (shared (told f l).reads (told f r).reads).0 e in
            let a = number_read l in_l k.0 k.1 in
            let b = number_read r in_r k.0 k.2 in
            let same : a.1.0 ≡ b.1.0 = same_text names a.1.0 b.1.0 (omega (arith, a.0, a.1.2)) (a.1.2 ∙ sym b.1.2) in
            apart b.1.0 (subst (Reads rules l) same a.1.1) b.1.1

        by : (b : Bool) → shares (told f l).reads (told f r).reads ≡ b → ReadInCommon rules l r → b ≡ true
        by true is common = refl
        by false is common = absurd (common (λ n x y. true≢false (sym ((shared (told f l).reads (told f r).reads).1 (place names n, read_number l in_l n x, read_number r in_r n y)) ∙ is)))

        from : ReadInCommon rules l r → IsTrue (shares (told f l).reads (told f r).reads)
        from common = by (shares (told f l).reads (told f r).reads) refl common

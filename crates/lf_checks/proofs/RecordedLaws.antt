-- What is told of recorded names: of one name, of a selector and of a whole rule.
use Rattle.std.proofs.Common.{◌≡◌, ◌↔◌, ◌<◌, ◌≤◌, ◌⊎◌, ◌+◌, inl, inr, ℕ, Bool, true, false, cond, eqb, not, List, [], ◌∷◌, length, Some, None, refl, sym, subst, ap, ◌∙◌, IsTrue, arith}
use Rattle.std.proofs.Math.Nat.{eq-or-lt_of_le}
use Rattle.std.proofs.lemmas.Bool.{eq-eqb, eqb-true}
use Rattle.std.proofs.lemmas.List.Elements.{Contains-get_or}
use Rattle.std.proofs.lemmas.List.Filters.{length-filter_both}
use Rattle.std.specs.List.{Contains}
use Rattle.std.specs.Str.{bytes_eq}
use Rattle.lf_laws.specs.Gaining.{OfSome}
use Rattle.lf_base.specs.declared.place.Span.{Span}
use Rattle.lf_ast.specs.Labels.{Bytes}
use Rattle.lf_ast.specs.Rules.{RuleTree}
use Rattle.lf_ast.specs.Selectors.{selected_name}
use Rattle.lf_ast.specs.Tree.{Aggregate, Binary, Call, Number, Paren, Selector, Str, Subquery, Tree, Unary, nodes}
use Rattle.lf_ast.specs.declared.expr.Matcher.{Matcher}
use Rattle.lf_ast.specs.declared.expr.Sight.{Sight}
use Rattle.lf_ast.specs.declared.verdict.Finding.{Finding as Row}
use Rattle.lf_deps.specs.Reading.{IsCyclic}
use Rattle.lf_semantics.specs.Environments.{names_recorded, recorded_names}
use Rattle.lf_semantics.specs.Listing.{first_seen, place}
use Rattle.lf_semantics.proofs.ListingLaws.{in_first_seen, of_first_seen, place_within}
use Rattle.lf_semantics.proofs.Places.{at_place}
use Rattle.lf_checks.specs.Finding.{Finding, RuleDependency, finding}
use Rattle.lf_base.specs.Names.{has_colon}
use Rattle.lf_checks.specs.RuleDependency.{IsFound, says_cyclic, says_unrecorded}
use Rattle.lf_checks.specs.views.Adding.{Adds}
use Rattle.lf_checks.specs.views.Recorded.{IsLacking, IsOfName, IsOfSelector}
use Rattle.lf_checks.proofs.Added.{adds_as, adds_both, adds_none}

-- ---- how many there are

named_one : (alert : Bool) (name : Bytes) (names : List Bytes) (n : ℕ) → length names ≤ n → length (cond alert names (name ∷ names)) ≤ n + 1
named_one true name names n few = omega (arith, few)
named_one false name names n few = omega (arith, few)

named_few : (rules : List RuleTree) → length (names_recorded rules) ≤ length rules
named_few [] = omega arith
named_few (r ∷ rules) = omega (arith, named_one r.alert r.name (names_recorded rules) (length rules) (named_few rules))

seen_few : (xs : List Bytes) → length (first_seen xs) ≤ length xs
seen_few [] = omega arith
seen_few (x ∷ xs) = omega (arith, length-filter_both (λ y. not (bytes_eq y x)) (λ y. not (not (bytes_eq y x))) (λ y. refl) (first_seen xs), seen_few xs)

-- no more names are recorded than there are rules
pub few_recorded : (rules : List RuleTree) → length (recorded_names rules) ≤ length rules
few_recorded rules = omega (arith, seen_few (names_recorded rules), named_few rules)

module _ (rules : List RuleTree) where
  -- ---- one name

  -- a name stands behind the recorded ones exactly where no rule records it
  pub lacking : (names : List Bytes) (name : Bytes) → names ≡ recorded_names rules → place names name ≤ length names → (place names name ≡ length names) ↔ (Contains (names_recorded rules) name → ⊥)
  lacking names name e within = (to, from)
    where
      to : place names name ≡ length names → Contains (names_recorded rules) name → ⊥
      to behind c =
          let there : place names name < length names = subst (λ (l : List Bytes). place l name < length l) (sym e) (place_within (recorded_names rules) name (in_first_seen (names_recorded rules) name c)) in
          omega (arith, there, behind)

      from : (Contains (names_recorded rules) name → ⊥) → place names name ≡ length names
      from none = elim (eq-or-lt_of_le within) [
        | inr lt ↦ absurd (none (of_first_seen (names_recorded rules) name (subst (λ (l : List Bytes). Contains l name) e (subst (λ z. Contains names z) (at_place names name lt) (Contains-get_or names (place names name) [] lt)))))
        | inl same ↦ same
      ]

  pub lacks_by : (names : List Bytes) (name text : Bytes) (at count : ℕ) → names ≡ recorded_names rules → text ≡ name → at ≡ place names text → at ≤ length names → count ≡ length names → has_colon name ≡ true
      → IsTrue (eqb at count) ↔ IsLacking rules name
  lacks_by names name text at count e same is within all colon = (to, from)
    where
      there : at ≡ place names name
      there = is ∙ ap (place names) same

      law : (place names name ≡ length names) ↔ (Contains (names_recorded rules) name → ⊥)
      law = lacking names name e (subst (λ (k : ℕ). k ≤ length names) there within)

      to : IsTrue (eqb at count) → IsLacking rules name
      to t = (colon, law.0 (sym there ∙ eqb-true at count t ∙ all))

      from : IsLacking rules name → IsTrue (eqb at count)
      from h = eq-eqb at count (there ∙ law.1 h.1 ∙ sym all)

  pub of_name : (name text other : Bytes) (span : Span) (lack cyclic : Bool) (old mid new : List Row) → text ≡ name → other ≡ name → IsTrue lack ↔ IsLacking rules name → IsTrue cyclic ↔ IsCyclic rules name
      → Adds (λ f. IsTrue lack × (f ≡ finding RuleDependency span (says_unrecorded text))) old mid → Adds (λ f. IsTrue cyclic × (f ≡ finding RuleDependency span (says_cyclic other))) mid new → Adds (IsOfName rules name span) old new
  of_name name text other span lack cyclic old mid new e o lacks reads a b = adds_as _ (IsOfName rules name span) old new (adds_both _ _ old mid new a b) to from
    where
      to : (f : Finding) → (IsTrue lack × (f ≡ finding RuleDependency span (says_unrecorded text))) ⊎ (IsTrue cyclic × (f ≡ finding RuleDependency span (says_cyclic other))) → IsOfName rules name span f
      to f (inl (t, s)) = inl (lacks.0 t, subst (λ (n : Bytes). f ≡ finding RuleDependency span (says_unrecorded n)) e s)
      to f (inr (t, s)) = inr (reads.0 t, subst (λ (n : Bytes). f ≡ finding RuleDependency span (says_cyclic n)) o s)

      from : (f : Finding) → IsOfName rules name span f → (IsTrue lack × (f ≡ finding RuleDependency span (says_unrecorded text))) ⊎ (IsTrue cyclic × (f ≡ finding RuleDependency span (says_cyclic other)))
      from f (inl (t, s)) = inl (lacks.1 t, subst (λ (n : Bytes). f ≡ finding RuleDependency span (says_unrecorded n)) (sym e) s)
      from f (inr (t, s)) = inr (reads.1 t, subst (λ (n : Bytes). f ≡ finding RuleDependency span (says_cyclic n)) (sym o) s)

  -- ---- a selector

  pub of_selector : (before : _) (matchers : List Matcher) (sight : Sight) (span : Span) (name : Bytes) (old new : List Row) → selected_name before matchers ≡ Some name → Adds (IsOfName rules name span) old new
      → Adds (IsOfSelector rules (Selector before matchers sight span)) old new
  of_selector before matchers sight span name old new is a = adds_as (IsOfName rules name span) (IsOfSelector rules (Selector before matchers sight span)) old new a (λ f h. (name, is, h)) from
    where
      from : (f : Finding) → IsOfSelector rules (Selector before matchers sight span) f → IsOfName rules name span f
      from f (other, too, h) = let same : other ≡ name = (let e : Some other ≡ Some name = sym too ∙ is in cc) in subst (λ (n : Bytes). IsOfName rules n span f) same h

  pub of_nameless : (before : _) (matchers : List Matcher) (sight : Sight) (span : Span) (old : List Row) → selected_name before matchers ≡ None → Adds (IsOfSelector rules (Selector before matchers sight span)) old old
  of_nameless before matchers sight span old is = adds_none (IsOfSelector rules (Selector before matchers sight span)) old none
    where
      none : (f : Finding) → IsOfSelector rules (Selector before matchers sight span) f → ⊥
      none f (other, too, h) = let e : Some other ≡ None = sym too ∙ is in cc

  -- ---- a whole rule

  found_in : (r : RuleTree) (f : Finding) (x : Tree) → Contains (nodes r.expr) x → IsOfSelector rules x f → IsFound rules r f
  found_in r f (Number text span) c told = absurd told
  found_in r f (Str text span) c told = absurd told
  found_in r f (Selector before matchers sight span) c (name, is, inl ((colon, lack), e)) = inl (name, span, (before, matchers, sight, c, is), colon, lack, e)
  found_in r f (Selector before matchers sight span) c (name, is, inr (cyclic, e)) = inr (name, span, (before, matchers, sight, c, is), cyclic, e)
  found_in r f (Subquery of sight span) c told = absurd told
  found_in r f (Paren of span) c told = absurd told
  found_in r f (Unary minus of span) c told = absurd told
  found_in r f (Binary op m left right span) c told = absurd told
  found_in r f (Call name args span) c told = absurd told
  found_in r f (Aggregate op grouping args span) c told = absurd told

  pub of_rule : (r : RuleTree) (new : List Row) → Adds (OfSome (IsOfSelector rules) (nodes r.expr)) [] new → Adds (IsFound rules r) [] new
  of_rule r new a = adds_as (OfSome (IsOfSelector rules) (nodes r.expr)) (IsFound rules r) [] new a (λ f h. found_in r f h.0 h.1 h.2) from
    where
      from : (f : Finding) → IsFound rules r f → OfSome (IsOfSelector rules) (nodes r.expr) f
      from f (inl (name, span, (before, matchers, sight, c, is), colon, lack, e)) = (Selector before matchers sight span, c, (name, is, inl ((colon, lack), e)))
      from f (inr (name, span, (before, matchers, sight, c, is), cyclic, e)) = (Selector before matchers sight span, c, (name, is, inr (cyclic, e)))

-- Patterns that are one text or that anchor themselves, and what is told of them.
use Rattle.std.proofs.Common.{◌≡◌, ◌≢◌, ◌↔◌, ◌+◌, ◌-◌, ◌<◌, ◌⊎◌, inl, inr, ℕ, Bool, true, List, [], ◌∷◌, ◌++◌, Some, length, take, get_or, refl, sym, subst, ap, ◌∙◌, arith, length-append, IsTrue}
use Rattle.std.proofs.Math.Seq.{take-length}
use Rattle.std.proofs.lemmas.List.{take_more, get_or-take, get_or_append_left, length-take-le}
use Rattle.std.specs.List.{Contains}
use Rattle.lf_laws.specs.Gaining.{OfSome}
use Rattle.lf_ast.specs.Labels.{Bytes}
use Rattle.lf_ast.specs.Rules.{RuleTree}
use Rattle.lf_ast.specs.Tree.{Aggregate, Binary, Call, Number, Paren, Selector, Str, Subquery, Tree, Unary, nodes}
use Rattle.lf_ast.specs.declared.expr.Matcher.{Matcher}
use Rattle.lf_ast.specs.declared.verdict.Finding.{Finding as Row}
use Rattle.lf_pattern.specs.Plain.{HasAlternatives}
use Rattle.lf_semantics.specs.PatternBreaches.{takes_pattern}
use Rattle.lf_checks.specs.Finding.{Finding, PromqlRegexp, finding}
use Rattle.lf_checks.specs.PromqlRegexp.{BeginsAnchored, EndsAnchored, IsFound, IsOneText, says_anchored, says_plain}
use Rattle.lf_checks.specs.views.Adding.{Adds}
use Rattle.lf_checks.specs.views.Patterns.{IsOfMatcher, IsOfPart}
use Rattle.lf_checks.proofs.Added.{adds_as, adds_both}

-- ---- a pattern that ends with `$`, before which no backslash stands, by the bytes at its places

-- a list is what stands before its last byte, and that
last_of : (p : List ℕ) (k : ℕ) → length p ≡ k + 1 → p ≡ take k p ++ get_or p k 0 ∷ []
last_of p k e = let full : take (k + 1) p ≡ p = subst (λ n. take n p ≡ p) e (take-length p) in sym full ∙ take_more p k 0 (omega (arith, e))

last_at : (front : List ℕ) (b : ℕ) → get_or (front ++ b ∷ []) (length front) 0 ≡ b
last_at [] b = refl
last_at (x ∷ front) b = last_at front b

ends : (p : List ℕ) (k : ℕ) → length p ≡ k + 1 → get_or p k 0 ≡ 36 → ((j : ℕ) → k ≡ j + 1 → get_or p j 0 ≢ 92) → EndsAnchored p
ends p k e last before = (
  take k p,
  subst (λ b. p ≡ take k p ++ b ∷ []) last (last_of p k e),
  λ more same.
      let front : length (take k p) ≡ k = length-take-le k p (omega (arith, e)) in
      let count : length (take k p) ≡ length more + 1 = ap length same ∙ length-append more (92 ∷ []) in
      let there : get_or p (length more) 0 ≡ 92 = sym (get_or-take k p (length more) 0 (omega (arith, front, count))) ∙ ap (λ (l : List ℕ). get_or l (length more) 0) same ∙ last_at more 92 in
      before (length more) (omega (arith, front, count)) there,
)

before_end : (front : List ℕ) → ((more : Bytes) → front ≢ more ++ 92 ∷ []) → (j : ℕ) → length front ≡ j + 1 → get_or (front ++ 36 ∷ []) j 0 ≢ 92
before_end front none j e there =
    let at : get_or front j 0 ≡ 92 = sym (get_or_append_left front (36 ∷ []) 0 j (omega (arith, e))) ∙ there in
    none (take j front) (subst (λ b. front ≡ take j front ++ b ∷ []) at (last_of front j e))

pub tested : (p : List ℕ) → 0 < length p → (length p ≡ 1 → ⊥) → get_or p (length p - 1) 0 ≡ 36 → (get_or p (length p - 2) 0 ≢ 92) ↔ EndsAnchored p
tested p some many last = (to, from)
  where
    to : get_or p (length p - 2) 0 ≢ 92 → EndsAnchored p
    to other = ends p (length p - 1) (omega (arith, some)) last (λ j e. subst (λ k. get_or p k 0 ≢ 92) (let same : length p - 2 ≡ j = omega (arith, e) in same) other)

    from : EndsAnchored p → get_or p (length p - 2) 0 ≢ 92
    from (front, e, none) =
        let count : length p ≡ length front + 1 = ap length e ∙ length-append front (36 ∷ []) in
        subst (λ (l : List ℕ). get_or l (length p - 2) 0 ≢ 92) (sym e) (before_end front none (length p - 2) (omega (arith, count, many, some)))

-- ---- a pattern that is one text

pub one_text : (p : Bytes) (alternatives : List Bytes) (n : ℕ) → n ≡ length alternatives → HasAlternatives p alternatives → ((others : List Bytes) → HasAlternatives p others → Some alternatives ≡ Some others) → (n ≡ 1) ↔ IsOneText p
one_text p alternatives n count has only = (to alternatives has count, from)
  where
    to : (l : List Bytes) → HasAlternatives p l → n ≡ length l → n ≡ 1 → IsOneText p
    to [] has e one = absurd (omega (arith, e, one))
    to (x ∷ []) has e one = (x, has)
    to (x ∷ y ∷ l) has e one = absurd (omega (arith, e, one))

    from : IsOneText p → n ≡ 1
    from (alternative, h) = let same : alternatives ≡ alternative ∷ [] = (let e : Some alternatives ≡ Some (alternative ∷ []) = only (alternative ∷ []) h in cc) in count ∙ ap length same

-- ---- what is told of a matcher and of a part

pub of_matcher : (m : Matcher) (plain anchored : Bool) (old mid new : List Row) → takes_pattern m.op ≡ true → IsTrue plain ↔ IsOneText m.value → IsTrue anchored ↔ (BeginsAnchored m.value ⊎ EndsAnchored m.value)
    → Adds (λ f. IsTrue plain × (f ≡ finding PromqlRegexp m.value_span says_plain)) old mid → Adds (λ f. IsTrue anchored × (f ≡ finding PromqlRegexp m.value_span says_anchored)) mid new → Adds (IsOfMatcher m) old new
of_matcher m plain anchored old mid new takes one ends a b = adds_as _ (IsOfMatcher m) old new (adds_both _ _ old mid new a b) to from
  where
    Either : Finding → Type 0
    Either f = (IsTrue plain × (f ≡ finding PromqlRegexp m.value_span says_plain)) ⊎ (IsTrue anchored × (f ≡ finding PromqlRegexp m.value_span says_anchored))

    to : (f : Finding) → (IsTrue plain × (f ≡ finding PromqlRegexp m.value_span says_plain)) ⊎ (IsTrue anchored × (f ≡ finding PromqlRegexp m.value_span says_anchored)) → IsOfMatcher m f
    to f (inl (t, e)) = (takes, inl (one.0 t, e))
    to f (inr (t, e)) = (takes, inr (ends.0 t, e))

    from : (f : Finding) → IsOfMatcher m f → (IsTrue plain × (f ≡ finding PromqlRegexp m.value_span says_plain)) ⊎ (IsTrue anchored × (f ≡ finding PromqlRegexp m.value_span says_anchored))
    from f (_, inl (t, e)) = inl (one.1 t, e)
    from f (_, inr (t, e)) = inr (ends.1 t, e)

found_in : (r : RuleTree) (f : Finding) (x : Tree) → Contains (nodes r.expr) x → IsOfPart x f → IsFound r f
found_in r f (Number text span) c told = absurd told
found_in r f (Str text span) c told = absurd told
found_in r f (Selector name matchers sight span) c (m, d, (takes, inl (one, e))) = inl (m, (name, matchers, sight, span, c, d, takes), one, e)
found_in r f (Selector name matchers sight span) c (m, d, (takes, inr (ends, e))) = inr (m, (name, matchers, sight, span, c, d, takes), ends, e)
found_in r f (Subquery of sight span) c told = absurd told
found_in r f (Paren of span) c told = absurd told
found_in r f (Unary minus of span) c told = absurd told
found_in r f (Binary op m left right span) c told = absurd told
found_in r f (Call name args span) c told = absurd told
found_in r f (Aggregate op grouping args span) c told = absurd told

pub of_parts : (r : RuleTree) (new : List Row) → Adds (OfSome IsOfPart (nodes r.expr)) [] new → Adds (IsFound r) [] new
of_parts r new a = adds_as (OfSome IsOfPart (nodes r.expr)) (IsFound r) [] new a (λ f h. found_in r f h.0 h.1 h.2) from
  where
    from : (f : Finding) → IsFound r f → OfSome IsOfPart (nodes r.expr) f
    from f (inl (m, (name, matchers, sight, span, c, d, takes), one, e)) = (Selector name matchers sight span, c, (m, d, (takes, inl (one, e))))
    from f (inr (m, (name, matchers, sight, span, c, d, takes), ends, e)) = (Selector name matchers sight span, c, (m, d, (takes, inr (ends, e))))

-- What is open at one expression, construct by construct.
use Rattle.std.proofs.Common.{◌≡◌, ◌⊎◌, ◌↔◌, inl, inr, ℕ, Bool, true, IsTrue, List, [], ◌++◌, Option, Some, None, refl, sym, ap, ◌∙◌, subst, slice_get}
use Rattle.std.proofs.lemmas.Option.{none-some}
use Rattle.std.proofs.lemmas.List.Elements.{Contains-append_cases, Contains-append_left, Contains-append_right}
use Rattle.std.specs.Borrow.{Bor}
use Rattle.std.specs.List.{Contains}
use Rattle.lf_laws.specs.Gaining.{OfSome}
use Rattle.lf_laws.proofs.Gaining.{gains_as}
use Rattle.lf_laws.proofs.Members.{in_map, map_member, none_in}
use Rattle.lf_base.specs.declared.place.Span.{Span}
use Rattle.lf_ast.specs.Labels.{Bytes}
use Rattle.lf_ast.specs.Rules.{RuleTree}
use Rattle.lf_ast.specs.Tree.{Tree, Number, Str, Selector, Subquery, Paren, Unary, Binary, Call, Aggregate, span_of, tree}
use Rattle.lf_ast.specs.declared.expr.Expr.{Expr}
use Rattle.lf_ast.specs.declared.expr.Matcher.{Matcher}
use Rattle.lf_ast.specs.declared.expr.Sight.{Sight}
use Rattle.lf_ast.specs.declared.functions.LabelEffect.TheVariants.{Absent, CountValues, LabelJoin, LabelReplace}
use Rattle.lf_ast.specs.views.Walks.{trees_at}
use Rattle.lf_open.specs.Constructs.{IsForked, IsMatcher, IsOpenAt, SaysName, SaysNoName, effect_of}
use Rattle.lf_open.specs.OpenList.{AreOpenOf, IsOpenIn, IsOpenOf, open_cmp}
use Rattle.lf_semantics.specs.Standing.{standing}
use Rattle.lf_open.specs.declared.construct.Construct.{Construct}
use Rattle.lf_open.specs.declared.construct.Construct.TheVariants.{SharedMetric, UnnamedSelector, ComplexPattern, MadeLabel, Forked, LoudUnless, CyclicName, NamedBucket, OpenAbsent}
use Rattle.lf_open.specs.declared.open_at.OpenAt.{OpenAt}
use Rattle.lf_open.specs.views.Adding.{Adds, AreFound, IsAt, IsByItself, IsComplexAt, IsOf, IsOpenByItself, IsOpenNode}
use Rattle.lf_laws.specs.Ascending.{IsInOrder}
use Rattle.lf_open.specs.views.Speaking.{AreSpeaking, speaks}
use Rattle.lf_open.proofs.ByParts.{IsByParts}

-- an open construct by what it is, whose rule it is, and where it stands
pub same_open : (o : OpenAt) (of : Construct) (k : ℕ) (span : Span) → o.construct ≡ of → o.rule ≡ k → o.span ≡ span → o ≡ record { construct = of; rule = k; span = span }
same_open o of k span a b d =
    ap (λ (z : Construct). record { construct = z; rule = o.rule; span = o.span }) a
    ∙ ap (λ (z : ℕ). record { construct = of; rule = z; span = o.span }) b
    ∙ ap (λ (z : Span). record { construct = of; rule = k; span = z }) d

module _ (rules : List RuleTree) (k : ℕ) where
  -- one that stands at the operator, the word or the selector
  pub one_of : (of : Construct) (e : Tree) (P : Type 0) (holds : Bool) (old new : List OpenAt) → ((s : Span) → IsOpenAt rules of e s → P × (s ≡ span_of e)) → (P → IsOpenAt rules of e (span_of e)) → IsTrue holds ↔ P
      → Adds (λ o. IsTrue holds × (o ≡ record { construct = of; rule = k; span = span_of e })) old new → Adds (IsOf rules of k e) old new
  one_of of e P holds old new out stands tells added = gains_as _ (λ o. IsTrue holds × (o ≡ record { construct = of; rule = k; span = span_of e })) (IsOf rules of k e) old new added to from
    where
      to : (o : OpenAt) → IsTrue holds × (o ≡ record { construct = of; rule = k; span = span_of e }) → IsOf rules of k e o
      to o h = record {
        construct = ap (λ (z : OpenAt). z.construct) h.1;
        rule = ap (λ (z : OpenAt). z.rule) h.1;
        stands = subst (IsOpenAt rules of e) (sym (ap (λ (z : OpenAt). z.span) h.1)) (stands (tells.0 h.0));
      }

      from : (o : OpenAt) → IsOf rules of k e o → IsTrue holds × (o ≡ record { construct = of; rule = k; span = span_of e })
      from o is = let h = out o.span is.stands in (tells.1 h.0, same_open o of k (span_of e) is.construct is.rule h.1)

  -- the patterns of a selector
  pub patterns_of : (name : Option Bytes) (matchers : List Matcher) (sight : Sight) (span : Span) (old new : List OpenAt) → Adds (OfSome (IsComplexAt k) matchers) old new → Adds (IsOf rules ComplexPattern k (Selector name matchers sight span)) old new
  patterns_of name matchers sight span old new added = gains_as _ (OfSome (IsComplexAt k) matchers) (IsOf rules ComplexPattern k (Selector name matchers sight span)) old new added to from
    where
      to : (o : OpenAt) → OfSome (IsComplexAt k) matchers o → IsOf rules ComplexPattern k (Selector name matchers sight span) o
      to o (m, c, (h, is)) = record {
        construct = ap (λ (z : OpenAt). z.construct) is;
        rule = ap (λ (z : OpenAt). z.rule) is;
        stands = (m, (c, h.0, h.1), ap (λ (z : OpenAt). z.span) is);
      }

      from : (o : OpenAt) → IsOf rules ComplexPattern k (Selector name matchers sight span) o → OfSome (IsComplexAt k) matchers o
      from o is = let s = is.stands in (s.0, s.1.0, ((s.1.1, s.1.2), same_open o ComplexPattern k s.0.value_span is.construct is.rule s.2))

  -- one that stands there where something else is told
  pub one_at : (of : Construct) (e : Tree) (P : Type 0) (holds : Bool) (old new : List OpenAt) → IsTrue holds ↔ P → Adds (λ o. IsTrue holds × (o ≡ record { construct = of; rule = k; span = span_of e })) old new → Adds (IsAt rules k e P of) old new
  one_at of e P holds old new tells added =
      gains_as _ (λ o. IsTrue holds × (o ≡ record { construct = of; rule = k; span = span_of e })) (IsAt rules k e P of) old new added (λ o h. (tells.0 h.0, h.1)) (λ o h. (tells.1 h.0, h.1))

  -- an expression at which something is open by itself is a selector, a call or an aggregation

  quiet : (x : Tree) → effect_of x ≡ None → ((name : Bytes) → SaysName x name → ⊥) → ((m : Matcher) → IsMatcher x m → ⊥) → (SaysNoName rules x → ⊥) → (o : OpenAt) → IsByItself rules k x o → ⊥
  quiet x none says matches unnamed o h = by h
    where
      by : IsByItself rules k x o → ⊥
      by (inl (inl is)) = unnamed is.stands.0
      by (inl (inr (inl is))) = elim is.stands.0 [
        | inl e ↦ none-some LabelReplace (sym none ∙ e)
        | inr f ↦ elim f [ inl e ↦ none-some LabelJoin (sym none ∙ e) | inr e ↦ none-some CountValues (sym none ∙ e) ]
      ]
      by (inl (inr (inr is))) = matches is.stands.0 is.stands.1.0
      by (inr (inl is)) = says is.0.0 is.0.1
      by (inr (inr (inl is))) = matches is.0.0.0 is.0.0.1
      by (inr (inr (inr is))) = none-some Absent (sym none ∙ is.0.0)

  itself_speaks : (x : Tree) (o : OpenAt) → IsByItself rules k x o → speaks x ≡ true
  itself_speaks (Selector name matchers sight span) o h = refl
  itself_speaks (Call name args span) o h = refl
  itself_speaks (Aggregate op grouping args span) o h = refl
  itself_speaks (Number text span) o h = absurd (quiet (Number text span) refl (λ name e. e) (λ m e. e) (λ e. e) o h)
  itself_speaks (Str text span) o h = absurd (quiet (Str text span) refl (λ name e. e) (λ m e. e) (λ e. e) o h)
  itself_speaks (Subquery of sight span) o h = absurd (quiet (Subquery of sight span) refl (λ name e. e) (λ m e. e) (λ e. e) o h)
  itself_speaks (Paren of span) o h = absurd (quiet (Paren of span) refl (λ name e. e) (λ m e. e) (λ e. e) o h)
  itself_speaks (Unary minus of span) o h = absurd (quiet (Unary minus of span) refl (λ name e. e) (λ m e. e) (λ e. e) o h)
  itself_speaks (Binary op m left right span) o h = absurd (quiet (Binary op m left right span) refl (λ name e. e) (λ m e. e) (λ e. e) o h)

  -- what is found at what speaks in an expression is what is open in it by itself
  pub itself_by : (e : Tree) (items : List (Bor Expr)) (found : List OpenAt) → AreSpeaking e (trees_at items) → Adds (OfSome (λ (p : Bor Expr). IsByItself rules k (tree p.now)) items) [] found → IsOpenByItself rules k e found
  itself_by e items found are added o = (to, from)
    where
      to : Contains found o → (x : Tree) × Contains (standing e) x × IsByItself rules k x o
      to c = elim (added.only o c) [
        | inl none ↦ absurd (none_in o none)
        | inr some ↦ (tree some.0.now, ((are (tree some.0.now)).0 (in_map (λ (q : Bor Expr). tree q.now) items some.0 some.1)).0, some.2)
      ]

      from : (x : Tree) × Contains (standing e) x × IsByItself rules k x o → Contains found o
      from (x, c, h) =
          let m = map_member (λ (q : Bor Expr). tree q.now) items x ((are x).1 (c, itself_speaks x o h)) in
          added.all o (m.0, m.1, subst (λ (y : Tree). IsByItself rules k y o) m.2 h)

  -- what is open at an expression is open by itself, or by what is told of its parts

  node_to : (x : Tree) (o : OpenAt) → IsOpenNode rules k x o → IsByItself rules k x o ⊎ IsByParts rules k x o
  node_to x o h = by o.construct refl h.1
    where
      is_at : (of : Construct) → o.construct ≡ of → o.span ≡ span_of x → o ≡ record { construct = of; rule = k; span = span_of x }
      is_at of is at = same_open o of k (span_of x) is h.0 at

      forked : o.construct ≡ Forked → o.span ≡ span_of x → IsForked rules x → IsByItself rules k x o ⊎ IsByParts rules k x o
      forked is at (inl j) = inr (inr (inl (inl j, is_at Forked is at)))
      forked is at (inr (inl q)) = inr (inr (inl (inr (inl q), is_at Forked is at)))
      forked is at (inr (inr (inl n))) = inl (inr (inr (inl (n, is_at Forked is at))))
      forked is at (inr (inr (inr l))) = inr (inr (inl (inr (inr l), is_at Forked is at)))

      by : (of : Construct) → o.construct ≡ of → IsOpenAt rules of x o.span → IsByItself rules k x o ⊎ IsByParts rules k x o
      by UnnamedSelector is s = inl (inl (inl (record { construct = is; rule = h.0; stands = s })))
      by MadeLabel is s = inl (inl (inr (inl (record { construct = is; rule = h.0; stands = s }))))
      by ComplexPattern is s = inl (inl (inr (inr (record { construct = is; rule = h.0; stands = s }))))
      by SharedMetric is s = inr (inl (s.0, is_at SharedMetric is s.1))
      by Forked is s = forked is s.1 s.0
      by LoudUnless is s = inr (inr (inr (inl (s.0, is_at LoudUnless is s.1))))
      by CyclicName is s = inl (inr (inl (s.0, is_at CyclicName is s.1)))
      by NamedBucket is s = inr (inr (inr (inr (inl (s.0, is_at NamedBucket is s.1)))))
      by OpenAbsent is s = elim s.0.1 [
        | inl leaves ↦ inl (inr (inr (inr ((s.0.0, leaves), is_at OpenAbsent is s.1))))
        | inr loud ↦ inr (inr (inr (inr (inr ((s.0.0, loud), is_at OpenAbsent is s.1)))))
      ]

  node_from : (x : Tree) (o : OpenAt) → IsByItself rules k x o ⊎ IsByParts rules k x o → IsOpenNode rules k x o
  node_from x o h = by h
    where
      one : (of : Construct) → IsOf rules of k x o → IsOpenNode rules k x o
      one of is = (is.rule, subst (λ (z : Construct). IsOpenAt rules z x o.span) (sym is.construct) is.stands)

      stands : (of : Construct) → IsOpenAt rules of x (span_of x) → o ≡ record { construct = of; rule = k; span = span_of x } → IsOpenNode rules k x o
      stands of s is = subst (λ (z : OpenAt). (z.rule ≡ k) × IsOpenAt rules z.construct x z.span) (sym is) (refl, s)

      by : IsByItself rules k x o ⊎ IsByParts rules k x o → IsOpenNode rules k x o
      by (inl (inl (inl is))) = one UnnamedSelector is
      by (inl (inl (inr (inl is)))) = one MadeLabel is
      by (inl (inl (inr (inr is)))) = one ComplexPattern is
      by (inl (inr (inl (p, is)))) = stands CyclicName (p, refl) is
      by (inl (inr (inr (inl (p, is))))) = stands Forked (inr (inr (inl p)), refl) is
      by (inl (inr (inr (inr (p, is))))) = stands OpenAbsent ((p.0, inl p.1), refl) is
      by (inr (inl (p, is))) = stands SharedMetric (p, refl) is
      by (inr (inr (inl (inl p, is)))) = stands Forked (inl p, refl) is
      by (inr (inr (inl (inr (inl p), is)))) = stands Forked (inr (inl p), refl) is
      by (inr (inr (inl (inr (inr p), is)))) = stands Forked (inr (inr (inr p)), refl) is
      by (inr (inr (inr (inl (p, is))))) = stands LoudUnless (p, refl) is
      by (inr (inr (inr (inr (inl (p, is)))))) = stands NamedBucket (p, refl) is
      by (inr (inr (inr (inr (inr (p, is)))))) = stands OpenAbsent ((p.0, inr p.1), refl) is

  -- so all that is found is what is open in the expression
  pub found_by : (e : Tree) (itself by_parts found : List OpenAt) → IsOpenByItself rules k e itself
      → ((o : OpenAt) → Contains by_parts o ↔ ((x : Tree) × Contains (standing e) x × IsByParts rules k x o)) → found ≡ itself ++ by_parts → AreFound rules k e found
  found_by e itself by_parts found is parts all o = (to, from)
    where
      of_one : (x : Tree) → Contains (standing e) x → IsByItself rules k x o ⊎ IsByParts rules k x o → (o.rule ≡ k) × IsOpenIn rules e o.construct o.span
      of_one x c h = let w = node_from x o h in (w.0, (x, c, w.1))

      to : Contains found o → (o.rule ≡ k) × IsOpenIn rules e o.construct o.span
      to c = elim (Contains-append_cases itself by_parts o (subst (λ (l : List OpenAt). Contains l o) all c)) [
        | inl d ↦ let w = (is o).0 d in of_one w.0 w.1 (inl w.2)
        | inr d ↦ let w = (parts o).0 d in of_one w.0 w.1 (inr w.2)
      ]

      from : (o.rule ≡ k) × IsOpenIn rules e o.construct o.span → Contains found o
      from (of, (x, c, h)) = subst (λ (l : List OpenAt). Contains l o) (sym all) (elim (node_to x o (of, h)) [
        | inl w ↦ Contains-append_left itself by_parts o ((is o).1 (x, c, w))
        | inr w ↦ Contains-append_right itself by_parts o ((parts o).1 (x, c, w))
      ])

  -- in order they are the rule's list
  pub own_list : (r : RuleTree) → slice_get rules k ≡ Some r → (found sorted : List OpenAt) → AreFound rules k r.expr found → IsInOrder open_cmp found sorted → AreOpenOf rules k sorted
  own_list r at found sorted are order = record { each = each; all = all; ascending = order.ascending }
    where
      each : (o : OpenAt) → Contains sorted o → IsOpenOf rules k o
      each o c = let h = (are o).0 (order.only o c) in (h.0, (r, at, h.1))

      all : (o : OpenAt) → IsOpenOf rules k o → Contains sorted o
      all o (of, (s, too, h)) =
          let same : r ≡ s = ap (λ (z : Option RuleTree). elim z [ None ↦ r | Some y ↦ y ]) (sym at ∙ too) in
          order.kept o ((are o).1 (of, subst (λ (z : RuleTree). IsOpenIn rules z.expr o.construct o.span) (sym same) h))

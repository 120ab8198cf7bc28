-- The lists of open constructs of two worked rules: of one the whole, and of the other what stands in it and in which order.
use Rattle.std.proofs.Common.{◌≡◌, ◌<◌, inl, inr, ℕ, zero, suc, true, false, List, [], ◌∷◌, Option, Some, None, codes, refl, sym, ap, ◌∙◌, subst, true≢false, arith, drop, slice_get}
use Rattle.std.specs.List.{Contains}
use Rattle.std.specs.declared.cmp.Ordering.TheVariants.{Less}
use Rattle.lf_laws.proofs.Members.{behind, each_member, here, none_in, only_one, same_true}
use Rattle.lf_base.specs.declared.place.Span.{Span}
use Rattle.lf_ast.specs.Functions.{function_named, functions}
use Rattle.lf_ast.specs.Labels.{Bytes}
use Rattle.lf_ast.specs.Rules.{RuleTree}
use Rattle.lf_ast.specs.Tree.{Tree, Binary, Paren}
use Rattle.lf_ast.specs.declared.expr.MatchOp.TheVariants.{Matches}
use Rattle.lf_ast.specs.declared.expr.Matcher.{Matcher}
use Rattle.lf_ast.specs.declared.expr.Op.TheVariants.{Divide, Greater, Unless}
use Rattle.lf_deps.specs.Ordering.{without}
use Rattle.lf_deps.specs.Reading.Reads.{selected}
use Rattle.lf_pattern.specs.Plain.{is_escapable, is_special}
use Rattle.lf_pattern.specs.Scan.{scanned}
use Rattle.std.specs.Char.{encode_utf8}
use Rattle.std.specs.Str.{chars}
use Rattle.lf_semantics.proofs.Written.{call, number, over_time, place_at, record_rule, selector, sum_by, unmodified}
use Rattle.lf_trials.specs.Forks.{HoldsFork, has_own_fork}
use Rattle.lf_open.proofs.WorkedConstructs.{is_no_effect}
use Rattle.lf_open.specs.Constructs.{IsOpenAt}
use Rattle.lf_open.specs.Holding.{CannotBeSilent, has_own_source}
use Rattle.lf_open.specs.OpenList.{AreOpen, AreOpenOf, IsOpenIn, IsOpenOf, open_cmp}
use Rattle.lf_semantics.specs.Standing.{standing}
use Rattle.lf_open.specs.declared.construct.Construct.{Construct}
use Rattle.lf_open.specs.declared.construct.Construct.TheVariants.{SharedMetric, UnnamedSelector, ComplexPattern, MadeLabel, Forked, LoudUnless, CyclicName, NamedBucket, OpenAbsent}
use Rattle.lf_open.specs.declared.open_at.OpenAt.{OpenAt}
use Rattle.lf_open.proofs.Unread.{SelectsScraped, has_no_reach, reaches_none}

-- ---- `r:r` is `foo unless (foo > 5)`, with the operator at 15

abbrev foo : Tree
foo = selector (codes "foo") []

abbrev above : Tree
above = Binary Greater unmodified foo number (place_at 27)

abbrev without_above : Tree
without_above = Binary Unless unmodified foo (Paren above (place_at 22)) (place_at 15)

abbrev one_rule : RuleTree
one_rule = record_rule (codes "r:r") [] without_above

abbrev rules : List RuleTree
rules = one_rule ∷ []

-- no recorded name is read
is_foo : (name : Bytes) → Contains (Some (codes "foo") ∷ Some (codes "foo") ∷ []) (Some name) → name ≡ codes "foo"
is_foo name c = each_member (λ (o : Option Bytes). o ≡ Some name → name ≡ codes "foo") (Some (codes "foo") ∷ Some (codes "foo") ∷ []) (Some name) (same, (same, tt)) c refl
  where
    same : Some (codes "foo") ≡ Some name → name ≡ codes "foo"
    same e = sym (ap (λ (o : Option Bytes). elim o [ None ↦ codes "foo" | Some z ↦ z ]) e)

not_unsaid : Contains (Some (codes "foo") ∷ Some (codes "foo") ∷ []) None → ⊥
not_unsaid c = each_member (λ (o : Option Bytes). o ≡ None → ⊥) (Some (codes "foo") ∷ Some (codes "foo") ∷ []) None (differs, (differs, tt)) c refl
  where
    differs : Some (codes "foo") ≡ None → ⊥
    differs e = true≢false (ap (λ (o : Option Bytes). elim o [ None ↦ false | Some z ↦ true ]) e)

foo_is_scraped : (name : Bytes) → name ≡ codes "foo" → Contains (codes "r:r" ∷ []) name → ⊥
foo_is_scraped name is c = true≢false (sym (same_true (codes "r:r") (codes "foo") (only_one (codes "r:r") name c ∙ is)))

scraped : SelectsScraped rules without_above
scraped name (inl c) recorded = foo_is_scraped name (is_foo name c) recorded
scraped name (inr (c, some)) recorded = not_unsaid c

scraped_paren : SelectsScraped rules (Paren above (place_at 22))
scraped_paren name (inl c) recorded = foo_is_scraped name (is_foo name (behind (Some (codes "foo")) (Some (codes "foo") ∷ []) (Some name) c)) recorded
scraped_paren name (inr (c, some)) recorded = not_unsaid (behind (Some (codes "foo")) (Some (codes "foo") ∷ []) None c)

scraped_foo : SelectsScraped rules foo
scraped_foo name (inl c) recorded = foo_is_scraped name (is_foo name (behind (Some (codes "foo")) (Some (codes "foo") ∷ []) (Some name) c)) recorded
scraped_foo name (inr (c, some)) recorded = not_unsaid (behind (Some (codes "foo")) (Some (codes "foo") ∷ []) None c)

no_fork : (e : Tree) → SelectsScraped rules e → has_own_fork rules e ≡ false → HoldsFork rules e → ⊥
no_fork e free none (inl own) = true≢false (sym own ∙ none)
no_fork e free none (inr (r, there, reaches, own)) = reaches_none rules e free r there reaches

no_source : (e : Tree) → SelectsScraped rules e → has_own_source e ≡ false → CannotBeSilent rules e → ⊥
no_source e free none (inl own) = true≢false (sym own ∙ none)
no_source e free none (inr (r, there, reaches, own)) = reaches_none rules e free r there reaches

-- the construct
abbrev at_unless : OpenAt
at_unless = record { construct = SharedMetric; rule = 0; span = place_at 15 }

abbrev Is : Construct → Span → Type 0
Is construct span = (construct ≡ SharedMetric) × (span ≡ place_at 15)

of_operator : (construct : Construct) (span : Span) → IsOpenAt rules construct without_above span → Is construct span
of_operator SharedMetric span h = (refl, h.1)
of_operator UnnamedSelector span h = absurd h.0
of_operator ComplexPattern span h = absurd h.1.0
of_operator MadeLabel span h = elim h.0 [ inl e ↦ absurd (is_no_effect e) | inr (inl e) ↦ absurd (is_no_effect e) | inr (inr e) ↦ absurd (is_no_effect e) ]
of_operator Forked span (inl h, e) = elim h.2 [ inl l ↦ absurd (no_fork foo scraped_foo refl l) | inr r ↦ absurd (no_fork (Paren above (place_at 22)) scraped_paren refl r) ]
of_operator Forked span (inr (inl h), e) = absurd (is_no_effect h.0)
of_operator Forked span (inr (inr (inl h)), e) = absurd h.0.1
of_operator Forked span (inr (inr (inr h)), e) = absurd h
of_operator LoudUnless span h = absurd (no_source (Paren above (place_at 22)) scraped_paren refl h.0.1)
of_operator CyclicName span h = absurd h.0.1
of_operator NamedBucket span h = absurd (is_no_effect h.0.0)
of_operator OpenAbsent span h = absurd (is_no_effect h.0.0)

some_name : {name : Bytes} → Some name ≡ None → ⊥
some_name e = true≢false (ap (λ (o : Option Bytes). elim o [ None ↦ false | Some z ↦ true ]) e)

of_foo : (construct : Construct) (span : Span) → IsOpenAt rules construct foo span → ⊥
of_foo SharedMetric span h = h.0
of_foo UnnamedSelector span h = some_name h.0
of_foo ComplexPattern span h = none_in h.0 h.1.0
of_foo MadeLabel span h = elim h.0 [ inl e ↦ is_no_effect e | inr (inl e) ↦ is_no_effect e | inr (inr e) ↦ is_no_effect e ]
of_foo Forked span (inl h, e) = h
of_foo Forked span (inr (inl h), e) = is_no_effect h.0
of_foo Forked span (inr (inr (inl h)), e) = none_in h.0.0 h.0.1
of_foo Forked span (inr (inr (inr h)), e) = h
of_foo LoudUnless span h = h.0
of_foo CyclicName span ((name, says, (r, there, records, reads)), e) =
    let is : codes "foo" ≡ name = ap (λ (o : Option Bytes). elim o [ None ↦ codes "foo" | Some z ↦ z ]) says in
    true≢false (sym (same_true (codes "r:r") (codes "foo") (ap (λ (z : RuleTree). z.name) (only_one one_rule r there) ∙ records.1 ∙ sym is)))
of_foo NamedBucket span h = is_no_effect h.0.0
of_foo OpenAbsent span h = is_no_effect h.0.0

of_paren : (construct : Construct) (span : Span) → IsOpenAt rules construct (Paren above (place_at 22)) span → ⊥
of_paren SharedMetric span h = h.0
of_paren UnnamedSelector span h = h.0
of_paren ComplexPattern span h = h.1.0
of_paren MadeLabel span h = elim h.0 [ inl e ↦ is_no_effect e | inr (inl e) ↦ is_no_effect e | inr (inr e) ↦ is_no_effect e ]
of_paren Forked span (inl h, e) = h
of_paren Forked span (inr (inl h), e) = is_no_effect h.0
of_paren Forked span (inr (inr (inl h)), e) = h.0.1
of_paren Forked span (inr (inr (inr h)), e) = h
of_paren LoudUnless span h = h.0
of_paren CyclicName span h = h.0.1
of_paren NamedBucket span h = is_no_effect h.0.0
of_paren OpenAbsent span h = is_no_effect h.0.0

-- beside a scalar nothing is matched
of_above : (construct : Construct) (span : Span) → IsOpenAt rules construct above span → ⊥
of_above SharedMetric span h = true≢false h.0.0.1
of_above UnnamedSelector span h = h.0
of_above ComplexPattern span h = h.1.0
of_above MadeLabel span h = elim h.0 [ inl e ↦ is_no_effect e | inr (inl e) ↦ is_no_effect e | inr (inr e) ↦ is_no_effect e ]
of_above Forked span (inl h, e) = true≢false h.1.1
of_above Forked span (inr (inl h), e) = is_no_effect h.0
of_above Forked span (inr (inr (inl h)), e) = h.0.1
of_above Forked span (inr (inr (inr h)), e) = h
of_above LoudUnless span h = h.0
of_above CyclicName span h = h.0.1
of_above NamedBucket span h = is_no_effect h.0.0
of_above OpenAbsent span h = is_no_effect h.0.0

stands : IsOpenOf rules 0 at_unless
stands = (refl, (one_rule, refl, (without_above, here without_above (foo ∷ Paren above (place_at 22) ∷ above ∷ foo ∷ []), (((refl, refl), λ apart. apart (codes "foo") (selected (inl (here (Some (codes "foo")) []))) (selected (inl (here (Some (codes "foo")) [])))), refl))))

is_at_unless : (o : OpenAt) → IsOpenOf rules 0 o → at_unless ≡ o
is_at_unless o (of_rule, (r, at, (x, c, open_at))) =
    let there : one_rule ≡ r = ap (λ (z : Option RuleTree). elim z [ None ↦ one_rule | Some y ↦ y ]) at in
    let within : Contains (standing without_above) x = subst (λ (z : RuleTree). Contains (standing z.expr) x) (sym there) c in
    let is = each_member (λ (y : Tree). IsOpenAt rules o.construct y o.span → Is o.construct o.span) (standing without_above) x
    (of_operator o.construct o.span, (λ h. absurd (of_foo o.construct o.span h), (λ h. absurd (of_paren o.construct o.span h), (λ h. absurd (of_above o.construct o.span h), (λ h. absurd (of_foo o.construct o.span h), tt))))) within open_at in
    sym (same_open o is.0 of_rule is.1)
  where
    same_open : (o : OpenAt) → o.construct ≡ SharedMetric → o.rule ≡ 0 → o.span ≡ place_at 15 → o ≡ at_unless
    same_open o a b d =
        ap (λ (z : Construct). record { construct = z; rule = o.rule; span = o.span }) a
        ∙ ap (λ (z : ℕ). record { construct = SharedMetric; rule = z; span = o.span }) b
        ∙ ap (λ (z : Span). record { construct = SharedMetric; rule = 0; span = z }) d

alone : AreOpenOf rules 0 (at_unless ∷ [])
alone = record {
  each = λ o c. subst (IsOpenOf rules 0) (only_one at_unless o c) stands;
  all = λ o h. subst (λ (z : OpenAt). Contains (at_unless ∷ []) z) (is_at_unless o h) (here at_unless []);
  ascending = λ j l o p less at_j at_l. absurd (none_behind l p less at_l);
}
  where
    none_behind : {j : ℕ} (l : ℕ) (p : OpenAt) → j < l → slice_get (at_unless ∷ []) l ≡ Some p → ⊥
    none_behind zero p less e = omega (arith, less)
    none_behind (suc l) p less e = true≢false (sym (ap (λ (o : Option OpenAt). elim o [ None ↦ false | Some z ↦ true ]) e))

-- the whole list: O1 at the operator
whole : AreOpen rules 0 (at_unless ∷ [])
whole = (one_rule, refl, [], has_no_reach rules without_above scraped, (at_unless ∷ [], [], refl, alone, refl))

-- ---- `sum by (job) (rate(x{code=~"5.."}[5m])) / sum by (job) (rate(x[5m]))`: the string stands at 31, and the operator at 43

abbrev of_code : Matcher
of_code = record { label = codes "code"; op = Matches; value = codes "5.."; label_span = place_at 25; value_span = place_at 31 }

abbrev failing : Tree
failing = sum_by (codes "job" ∷ []) (call (codes "rate") (over_time (codes "x") (of_code ∷ []) ∷ []))

abbrev total : Tree
total = sum_by (codes "job" ∷ []) (call (codes "rate") (over_time (codes "x") [] ∷ []))

abbrev ratio : Tree
ratio = Binary Divide unmodified failing total (place_at 43)

abbrev ratio_rules : List RuleTree
ratio_rules = record_rule (codes "r:r") [] ratio ∷ []

pattern_stands : IsOpenIn ratio_rules ratio ComplexPattern (place_at 31)
unfolding function_named functions scanned is_special is_escapable encode_utf8 chars
pattern_stands = (
  over_time (codes "x") (of_code ∷ []),
  behind ratio (drop 1 (standing ratio)) (over_time (codes "x") (of_code ∷ [])) (behind failing (drop 2 (standing ratio)) (over_time (codes "x") (of_code ∷ [])) (behind (call (codes "rate") (over_time (codes "x") (of_code ∷ []) ∷ [])) (drop 3 (standing ratio)) (over_time (codes "x") (of_code ∷ [])) (here (over_time (codes "x") (of_code ∷ [])) (drop 4 (standing ratio))))),
  (of_code, (here of_code [], refl, refl), refl),
)

operator_stands : IsOpenIn ratio_rules ratio SharedMetric (place_at 43)
unfolding function_named functions
operator_stands = (ratio, here ratio (drop 1 (standing ratio)), (((refl, refl), λ apart. apart (codes "x") (selected (inl (here (Some (codes "x")) []))) (selected (inl (here (Some (codes "x")) [])))), refl))

-- the pattern comes first, though its code is the later one
comes_first : open_cmp (record { construct = ComplexPattern; rule = 0; span = place_at 31 }) (record { construct = SharedMetric; rule = 0; span = place_at 43 }) ≡ Less
comes_first = refl

-- ---- a rule in its own reach is listed once, and first: rule 1, which reads the names of rules 0, 1 and 2
own_comes_first : 1 ∷ without 1 (0 ∷ 1 ∷ 2 ∷ []) ≡ 1 ∷ 0 ∷ 2 ∷ []
own_comes_first = refl

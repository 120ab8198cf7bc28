-- What is open at an expression by what is told of its parts, construct by construct.
use Rattle.std.proofs.Common.{◌≡◌, ◌⊎◌, ◌↔◌, inl, inr, ℕ, Bool, true, false, true≢false, cond, ◌&&◌, ◌||◌, IsTrue, List, [], ◌∷◌, ◌++◌, map, Option, Some, None, refl, sym, ap, ◌∙◌, subst}
use Rattle.std.proofs.lemmas.Option.{none-some}
use Rattle.std.proofs.lemmas.List.Elements.{Contains-append_cases, Contains-append_left, Contains-append_right}
use Rattle.std.specs.List.{Contains, list_any}
use Rattle.lf_laws.proofs.Members.{any_has, here, in_map, map_member, none_in, only_one, some_has}
use Rattle.lf_base.specs.declared.place.Span.{Span}
use Rattle.lf_ast.specs.Labels.{Bytes}
use Rattle.lf_ast.specs.Rules.{RuleTree}
use Rattle.lf_ast.specs.Tree.{Tree, Trees, Number, Str, Selector, Subquery, Paren, Unary, Binary, Call, Aggregate, list}
use Rattle.lf_ast.specs.declared.expr.Agg.{Agg}
use Rattle.lf_ast.specs.declared.expr.Grouping.{Grouping}
use Rattle.lf_ast.specs.declared.expr.Matching.{Matching}
use Rattle.lf_ast.specs.declared.expr.Op.{Op}
use Rattle.lf_ast.specs.declared.functions.LabelEffect.{LabelEffect}
use Rattle.lf_ast.specs.declared.functions.LabelEffect.TheVariants.{Absent, Bare, CountValues, Date, Groups, HistogramQuantile, Keeps, LabelJoin, LabelReplace, Maps}
use Rattle.lf_forks.specs.views.ForkTests.{TellsSelectors}
use Rattle.lf_forks.specs.views.Holding.{test_of}
use Rattle.lf_trials.specs.Forks.{HoldsFork, is_or}
use Rattle.lf_open.specs.Constructs.{AreVectors, IsArgument, IsLoudOr, IsLoudUnless, IsQuantileOfFork, IsQuantileOfNamed, JoinsFork, ReadInCommon, SharesMetric, effect_of}
use Rattle.lf_open.specs.Holding.{CannotBeSilent, NamesLe, has_own_source, names_le}
use Rattle.lf_open.specs.declared.construct.Construct.{Construct}
use Rattle.lf_open.specs.declared.construct.Construct.TheVariants.{SharedMetric, Forked, LoudUnless, NamedBucket, OpenAbsent}
use Rattle.lf_open.specs.declared.open_at.OpenAt.{OpenAt}
use Rattle.lf_open.specs.declared.told.ExpressionFacts.{ExpressionFacts}
use Rattle.lf_open.specs.views.Adding.{IsAt}
use Rattle.lf_open.specs.views.Marks.{TellsReading}
use Rattle.lf_open.specs.views.Sides.{is_unless}
use Rattle.lf_open.specs.views.Told.{Facts, are_vectors, call_opens, joins, opened, own_opens, shares, told}
use Rattle.lf_open.proofs.Beneath.{either_tells}
use Rattle.lf_open.proofs.ByOperator.{or_by, unless_by}
use Rattle.lf_open.proofs.OwnOpens.{bucket_is, fork_is, loud_is, vectors_are}
use Rattle.lf_open.proofs.ToldLaws.{parts_told}

-- lists

opened_is : (b : Bool) (P : Type 0) → IsTrue b ↔ P → (construct : Construct) (rule : ℕ) (span : Span) (o : OpenAt) → Contains (opened b construct rule span) o ↔ (P × (o ≡ record { construct = construct; rule = rule; span = span }))
opened_is true P is construct rule span o = (
  λ c. (is.0 refl, sym (only_one (record { construct = construct; rule = rule; span = span }) o c)),
  λ h. subst (λ (z : OpenAt). Contains (record { construct = construct; rule = rule; span = span } ∷ []) z) (sym h.1) (here (record { construct = construct; rule = rule; span = span }) []),
)
opened_is false P is construct rule span o = (λ c. absurd (none_in o c), λ h. absurd (true≢false (sym (is.1 h.0))))

both_is : (xs ys : List OpenAt) (o : OpenAt) (P Q : Type 0) → Contains xs o ↔ P → Contains ys o ↔ Q → Contains (xs ++ ys) o ↔ (P ⊎ Q)
both_is xs ys o P Q p q = (
  λ c. elim (Contains-append_cases xs ys o c) [ inl d ↦ inl (p.0 d) | inr d ↦ inr (q.0 d) ],
  λ h. elim h [ inl d ↦ Contains-append_left xs ys o (p.1 d) | inr d ↦ Contains-append_right xs ys o (q.1 d) ],
)

and_is : (a b : Bool) (P Q : Type 0) → IsTrue a ↔ P → IsTrue b ↔ Q → IsTrue (a && b) ↔ (P × Q)
and_is true b P Q p q = (λ e. (p.0 refl, q.0 e), λ h. q.1 h.1)
and_is false b P Q p q = (λ e. absurd (true≢false (sym e)), λ h. absurd (true≢false (sym (p.1 h.0))))

abbrev is_quantile : Option LabelEffect → Bool
is_quantile (Some HistogramQuantile) = true
is_quantile _ = false

abbrev is_absent : Option LabelEffect → Bool
is_absent (Some Absent) = true
is_absent _ = false

abbrev is_shared : Facts → Tree → Tree → Bool
is_shared f l r = are_vectors (told f l) (told f r) && shares (told f l).reads (told f r).reads

abbrev is_joined : Facts → Op → Tree → Tree → Bool
is_joined f op l r = are_vectors (told f l) (told f r) && joins op (told f l) (told f r)

abbrev is_silent : Facts → Op → Tree → Tree → Bool
is_silent f op l r = are_vectors (told f l) (told f r) && (is_unless op && (told f r).loud)

-- one of the arguments
any_is : (value : Tree → ExpressionFacts) (field : ExpressionFacts → Bool) (P : Tree → Type 0) → ((x : Tree) → IsTrue (field (value x)) ↔ P x) → (args : List Tree) → IsTrue (list_any field (map value args)) ↔ ((x : Tree) × Contains args x × P x)
any_is value field P is args = (
  λ e. let t = some_has field (map value args) e in let x = map_member value args t.0 t.1 in (x.0, x.1, (is x.0).0 (subst (λ (z : ExpressionFacts). field z ≡ true) x.2 t.2)),
  λ h. any_has field (map value args) (value h.0) (in_map value args h.0 h.1) ((is h.0).1 h.2),
)

module _ (rules : List RuleTree) (rule : ℕ) (e : Tree) where
  -- beneath a `histogram_quantile` or an `absent`
  abbrev pub IsLoudAbsent : Type 0
  IsLoudAbsent = (effect_of e ≡ Some Absent) × ((x : Tree) × IsArgument e x × CannotBeSilent rules x)

  abbrev pub IsByParts : OpenAt → Type 0
  IsByParts o =
      IsAt rules rule e (SharesMetric rules e) SharedMetric o
      ⊎ (IsAt rules rule e (JoinsFork rules e ⊎ (IsQuantileOfFork rules e ⊎ IsLoudOr rules e)) Forked o
      ⊎ (IsAt rules rule e (IsLoudUnless rules e) LoudUnless o ⊎ (IsAt rules rule e (IsQuantileOfNamed rules e) NamedBucket o ⊎ IsAt rules rule e IsLoudAbsent OpenAbsent o)))

module _ (rules : List RuleTree) (f : Facts) (forks : TellsSelectors rules (test_of f.forks)) (loud : TellsReading rules (λ r. has_own_source r.expr) f.loud) (on_le : TellsReading rules names_le f.on_le) where
  -- at an operator

  joins_is : (op : Op) (m : Matching) (l r : Tree) (span : Span) → IsTrue (are_vectors (told f l) (told f r) && joins op (told f l) (told f r)) ↔ (JoinsFork rules (Binary op m l r span) ⊎ IsLoudOr rules (Binary op m l r span))
  joins_is op m l r span = by (is_or op) refl
    where
      vectors : IsTrue (are_vectors (told f l) (told f r)) ↔ AreVectors l r
      vectors = vectors_are rules f l r

      loud_sides : IsTrue ((told f l).loud || (told f r).loud) ↔ (CannotBeSilent rules l ⊎ CannotBeSilent rules r)
      loud_sides = either_tells (CannotBeSilent rules l) (CannotBeSilent rules r) (told f l).loud (told f r).loud (loud_is rules f loud l) (loud_is rules f loud r)

      fork_sides : IsTrue ((told f l).fork || (told f r).fork) ↔ (HoldsFork rules l ⊎ HoldsFork rules r)
      fork_sides = either_tells (HoldsFork rules l) (HoldsFork rules r) (told f l).fork (told f r).fork (fork_is rules f forks l) (fork_is rules f forks r)

      by : (b : Bool) → is_or op ≡ b → IsTrue (are_vectors (told f l) (told f r) && cond b ((told f l).loud || (told f r).loud) ((told f l).fork || (told f r).fork)) ↔ (JoinsFork rules (Binary op m l r span) ⊎ IsLoudOr rules (Binary op m l r span))
      by true is =
          let both = and_is (are_vectors (told f l) (told f r)) ((told f l).loud || (told f r).loud) (AreVectors l r) (CannotBeSilent rules l ⊎ CannotBeSilent rules r) vectors loud_sides in
          let h = or_by rules m l r span op in (
            λ t. let w = both.0 t in inr (h.0 (is, w.0, w.1)),
            λ s. both.1 (elim s [ inl j ↦ absurd (true≢false (sym is ∙ j.0)) | inr o ↦ let w = h.1 o in (w.1, w.2) ]),
          )
      by false is =
          let both = and_is (are_vectors (told f l) (told f r)) ((told f l).fork || (told f r).fork) (AreVectors l r) (HoldsFork rules l ⊎ HoldsFork rules r) vectors fork_sides in
          let h = or_by rules m l r span op in (
            λ t. let w = both.0 t in inl (is, w.0, w.1),
            λ s. both.1 (elim s [ inl j ↦ (j.1, j.2) | inr o ↦ absurd (true≢false (sym (h.1 o).0 ∙ is)) ]),
          )

  unless_is : (op : Op) (m : Matching) (l r : Tree) (span : Span) → IsTrue (are_vectors (told f l) (told f r) && (is_unless op && (told f r).loud)) ↔ IsLoudUnless rules (Binary op m l r span)
  unless_is op m l r span =
      let right = and_is (is_unless op) (told f r).loud (IsTrue (is_unless op)) (CannotBeSilent rules r) (λ e. e, λ e. e) (loud_is rules f loud r) in
      let both = and_is (are_vectors (told f l) (told f r)) (is_unless op && (told f r).loud) (AreVectors l r) (IsTrue (is_unless op) × CannotBeSilent rules r) (vectors_are rules f l r) right in
      let h = unless_by rules m l r span op in
      (λ t. let w = both.0 t in h.0 (w.1.0, w.0, w.1.1), λ s. let w = h.1 s in both.1 (w.1, (w.0, w.2)))

  abbrev IsShared : Op → Matching → Tree → Tree → Span → OpenAt → Type 0
  IsShared op m l r span o = SharesMetric rules (Binary op m l r span) × (o ≡ record { construct = SharedMetric; rule = f.rule; span = span })

  abbrev IsJoined : Op → Matching → Tree → Tree → Span → OpenAt → Type 0
  IsJoined op m l r span o = (JoinsFork rules (Binary op m l r span) ⊎ IsLoudOr rules (Binary op m l r span)) × (o ≡ record { construct = Forked; rule = f.rule; span = span })

  abbrev IsSilent : Op → Matching → Tree → Tree → Span → OpenAt → Type 0
  IsSilent op m l r span o = IsLoudUnless rules (Binary op m l r span) × (o ≡ record { construct = LoudUnless; rule = f.rule; span = span })

  at_operator : (op : Op) (m : Matching) (l r : Tree) (span : Span) → IsTrue (shares (told f l).reads (told f r).reads) ↔ ReadInCommon rules l r → (o : OpenAt)
      → Contains (own_opens f (Binary op m l r span) (parts_told f (Binary op m l r span))) o ↔ IsByParts rules f.rule (Binary op m l r span) o
  at_operator op m l r span common o = (to, from)
    where
      a : Contains (opened (is_shared f l r) SharedMetric f.rule span) o ↔ (IsShared op m l r span o)
      a = opened_is (is_shared f l r) (SharesMetric rules (Binary op m l r span)) (and_is (are_vectors (told f l) (told f r)) (shares (told f l).reads (told f r).reads) (AreVectors l r) (ReadInCommon rules l r) (vectors_are rules f l r) common) SharedMetric f.rule span o

      b : Contains (opened (is_joined f op l r) Forked f.rule span) o ↔ (IsJoined op m l r span o)
      b = opened_is (is_joined f op l r) (JoinsFork rules (Binary op m l r span) ⊎ IsLoudOr rules (Binary op m l r span)) (joins_is op m l r span) Forked f.rule span o

      d : Contains (opened (is_silent f op l r) LoudUnless f.rule span) o ↔ (IsSilent op m l r span o)
      d = opened_is (is_silent f op l r) (IsLoudUnless rules (Binary op m l r span)) (unless_is op m l r span) LoudUnless f.rule span o

      all : Contains ((opened (is_shared f l r) SharedMetric f.rule span ++ opened (is_joined f op l r) Forked f.rule span) ++ opened (is_silent f op l r) LoudUnless f.rule span) o ↔ (((IsShared op m l r span o) ⊎ (IsJoined op m l r span o)) ⊎ (IsSilent op m l r span o))
      all = both_is (opened (is_shared f l r) SharedMetric f.rule span ++ opened (is_joined f op l r) Forked f.rule span) (opened (is_silent f op l r) LoudUnless f.rule span) o ((IsShared op m l r span o) ⊎ (IsJoined op m l r span o)) (IsSilent op m l r span o) (both_is (opened (is_shared f l r) SharedMetric f.rule span) (opened (is_joined f op l r) Forked f.rule span) o (IsShared op m l r span o) (IsJoined op m l r span o) a b) d

      out : ((IsShared op m l r span o) ⊎ (IsJoined op m l r span o)) ⊎ (IsSilent op m l r span o) → IsByParts rules f.rule (Binary op m l r span) o
      out (inl (inl h)) = inl h
      out (inl (inr (inl j, is))) = inr (inl (inl j, is))
      out (inl (inr (inr j, is))) = inr (inl (inr (inr j), is))
      out (inr h) = inr (inr (inl h))

      back : IsByParts rules f.rule (Binary op m l r span) o → ((IsShared op m l r span o) ⊎ (IsJoined op m l r span o)) ⊎ (IsSilent op m l r span o)
      back (inl h) = inl (inl h)
      back (inr (inl (inl j, is))) = inl (inr (inl j, is))
      back (inr (inl (inr (inl q), is))) = absurd (none-some HistogramQuantile q.0)
      back (inr (inl (inr (inr j), is))) = inl (inr (inr j, is))
      back (inr (inr (inl h))) = inr h
      back (inr (inr (inr (inl h)))) = absurd (none-some HistogramQuantile h.0.0)
      back (inr (inr (inr (inr h)))) = absurd (none-some Absent h.0.0)

      to : Contains (own_opens f (Binary op m l r span) (parts_told f (Binary op m l r span))) o → IsByParts rules f.rule (Binary op m l r span) o
      to c = out (all.0 c)

      from : IsByParts rules f.rule (Binary op m l r span) o → Contains (own_opens f (Binary op m l r span) (parts_told f (Binary op m l r span))) o
      from h = all.1 (back h)

  -- at a call

  -- one of the arguments has it
  abbrev SomeOf : (Tree → Type 0) → Trees → Type 0
  SomeOf P args = (x : Tree) × Contains (list args) x × P x

  abbrev forks_at : Trees → Span → List OpenAt
  forks_at args span = opened (list_any (λ t. t.fork) (map (told f) (list args))) Forked f.rule span

  abbrev buckets_at : Trees → Span → List OpenAt
  buckets_at args span = opened (list_any (λ t. t.bucket) (map (told f) (list args))) NamedBucket f.rule span

  abbrev louds_at : Trees → Span → List OpenAt
  louds_at args span = opened (list_any (λ t. t.loud) (map (told f) (list args))) OpenAbsent f.rule span

  at_call : (name : Bytes) (args : Trees) (span : Span) (effect : Option LabelEffect) → effect_of (Call name args span) ≡ effect → (o : OpenAt)
      → Contains (call_opens f.rule effect span (map (told f) (list args))) o ↔ IsByParts rules f.rule (Call name args span) o
  at_call name args span effect is o = by effect refl
    where
      forked : Contains (forks_at args span) o ↔ ((SomeOf (HoldsFork rules) args) × (o ≡ record { construct = Forked; rule = f.rule; span = span }))
      forked = opened_is (list_any (λ t. t.fork) (map (told f) (list args))) (SomeOf (HoldsFork rules) args) (any_is (told f) (λ t. t.fork) (HoldsFork rules) (fork_is rules f forks) (list args)) Forked f.rule span o

      named : Contains (buckets_at args span) o ↔ ((SomeOf (NamesLe rules) args) × (o ≡ record { construct = NamedBucket; rule = f.rule; span = span }))
      named = opened_is (list_any (λ t. t.bucket) (map (told f) (list args))) (SomeOf (NamesLe rules) args) (any_is (told f) (λ t. t.bucket) (NamesLe rules) (bucket_is rules f on_le) (list args)) NamedBucket f.rule span o

      silent : Contains (louds_at args span) o ↔ ((SomeOf (CannotBeSilent rules) args) × (o ≡ record { construct = OpenAbsent; rule = f.rule; span = span }))
      silent = opened_is (list_any (λ t. t.loud) (map (told f) (list args))) (SomeOf (CannotBeSilent rules) args) (any_is (told f) (λ t. t.loud) (CannotBeSilent rules) (loud_is rules f loud) (list args)) OpenAbsent f.rule span o

      -- the effect that a construct asks for
      back : IsByParts rules f.rule (Call name args span) o
          → ((effect ≡ Some HistogramQuantile) × (((SomeOf (HoldsFork rules) args) × (o ≡ record { construct = Forked; rule = f.rule; span = span })) ⊎ ((SomeOf (NamesLe rules) args) × (o ≡ record { construct = NamedBucket; rule = f.rule; span = span }))))
          ⊎ ((effect ≡ Some Absent) × ((SomeOf (CannotBeSilent rules) args) × (o ≡ record { construct = OpenAbsent; rule = f.rule; span = span })))
      back (inl (none, e)) = absurd none
      back (inr (inl (inl none, e))) = absurd none
      back (inr (inl (inr (inl q), e))) = inl (sym is ∙ q.0, inl (q.1, e))
      back (inr (inl (inr (inr none), e))) = absurd none
      back (inr (inr (inl (none, e)))) = absurd none
      back (inr (inr (inr (inl (q, e))))) = inl (sym is ∙ q.0, inr (q.1, e))
      back (inr (inr (inr (inr (q, e))))) = inr (sym is ∙ q.0, (q.1, e))

      quantile : effect ≡ Some HistogramQuantile → Contains (call_opens f.rule (Some HistogramQuantile) span (map (told f) (list args))) o ↔ IsByParts rules f.rule (Call name args span) o
      quantile same = (
        λ c. elim (Contains-append_cases (forks_at args span) (buckets_at args span) o c) [
          | inl d ↦ let w = forked.0 d in inr (inl (inr (inl (is ∙ same, w.0)), w.1))
          | inr d ↦ let w = named.0 d in inr (inr (inr (inl ((is ∙ same, w.0), w.1))))
        ],
        λ h. elim (back h) [
          | inl w ↦ elim w.1 [
            | inl d ↦ Contains-append_left (forks_at args span) (buckets_at args span) o (forked.1 d)
            | inr d ↦ Contains-append_right (forks_at args span) (buckets_at args span) o (named.1 d)
          ]
          | inr w ↦ absurd (other_effect (sym same ∙ w.0))
        ],
      )
        where
          other_effect : ◌≡◌ {A = Option LabelEffect} (Some HistogramQuantile) (Some Absent) → ⊥
          other_effect e = true≢false (ap is_quantile e)

      absent : effect ≡ Some Absent → Contains (call_opens f.rule (Some Absent) span (map (told f) (list args))) o ↔ IsByParts rules f.rule (Call name args span) o
      absent same = (
        λ c. let w = silent.0 c in inr (inr (inr (inr ((is ∙ same, w.0), w.1)))),
        λ h. elim (back h) [ inl w ↦ absurd (true≢false (sym (ap is_quantile (sym same ∙ w.0)))) | inr w ↦ silent.1 w.1 ],
      )

      nothing_open : (g : Option LabelEffect) → is_quantile g ≡ false → is_absent g ≡ false → effect ≡ g → Contains [] o ↔ IsByParts rules f.rule (Call name args span) o
      nothing_open g differs none same = (
        λ c. absurd (none_in o c),
        λ h. elim (back h) [ inl w ↦ absurd (true≢false (sym (ap is_quantile (sym same ∙ w.0)) ∙ differs)) | inr w ↦ absurd (true≢false (sym (ap is_absent (sym same ∙ w.0)) ∙ none)) ],
      )

      by : (g : Option LabelEffect) → effect ≡ g → Contains (call_opens f.rule g span (map (told f) (list args))) o ↔ IsByParts rules f.rule (Call name args span) o
      by None same = nothing_open None refl refl same
      by (Some HistogramQuantile) same = quantile same
      by (Some Absent) same = absent same
      by (Some Maps) same = nothing_open (Some Maps) refl refl same
      by (Some Keeps) same = nothing_open (Some Keeps) refl refl same
      by (Some Groups) same = nothing_open (Some Groups) refl refl same
      by (Some CountValues) same = nothing_open (Some CountValues) refl refl same
      by (Some Date) same = nothing_open (Some Date) refl refl same
      by (Some LabelReplace) same = nothing_open (Some LabelReplace) refl refl same
      by (Some LabelJoin) same = nothing_open (Some LabelJoin) refl refl same
      by (Some Bare) same = nothing_open (Some Bare) refl refl same

  -- anything else has nothing open

  none_else : (e : Tree) → effect_of e ≡ None → (o : OpenAt) → (SharesMetric rules e → ⊥) → (JoinsFork rules e → ⊥) → (IsLoudOr rules e → ⊥) → (IsLoudUnless rules e → ⊥) → Contains [] o ↔ IsByParts rules f.rule e o
  none_else e differs o shares_not joins_not or_not unless_not = (λ c. absurd (none_in o c), from)
    where
      from : IsByParts rules f.rule e o → Contains [] o
      from (inl h) = absurd (shares_not h.0)
      from (inr (inl (inl j, is))) = absurd (joins_not j)
      from (inr (inl (inr (inl q), is))) = absurd (none-some HistogramQuantile (sym differs ∙ q.0))
      from (inr (inl (inr (inr j), is))) = absurd (or_not j)
      from (inr (inr (inl h))) = absurd (unless_not h.0)
      from (inr (inr (inr (inl h)))) = absurd (none-some HistogramQuantile (sym differs ∙ h.0.0))
      from (inr (inr (inr (inr h)))) = absurd (none-some Absent (sym differs ∙ h.0.0))

  -- an aggregation has no argument
  no_argument : (op : Agg) (grouping : Grouping) (args : Trees) (span : Span) (o : OpenAt) → Contains [] o ↔ IsByParts rules f.rule (Aggregate op grouping args span) o
  no_argument op grouping args span o = (λ c. absurd (none_in o c), from)
    where
      from : IsByParts rules f.rule (Aggregate op grouping args span) o → Contains [] o
      from (inl h) = absurd h.0
      from (inr (inl (inl j, is))) = absurd j
      from (inr (inl (inr (inl q), is))) = absurd (none_in q.1.0 q.1.1)
      from (inr (inl (inr (inr j), is))) = absurd j
      from (inr (inr (inl h))) = absurd h.0
      from (inr (inr (inr (inl h)))) = absurd (none_in h.0.1.0 h.0.1.1)
      from (inr (inr (inr (inr h)))) = absurd (none_in h.0.1.0 h.0.1.1)

  abbrev pub AreCommon : Tree → Type 0
  AreCommon (Binary op m l r span) = IsTrue (shares (told f l).reads (told f r).reads) ↔ ReadInCommon rules l r
  AreCommon _ = Unit {0}

  pub by_parts : (e : Tree) → AreCommon e → (o : OpenAt) → Contains (own_opens f e (parts_told f e)) o ↔ IsByParts rules f.rule e o
  by_parts (Number text span) common o = none_else (Number text span) refl o (λ h. h) (λ h. h) (λ h. h) (λ h. h)
  by_parts (Str text span) common o = none_else (Str text span) refl o (λ h. h) (λ h. h) (λ h. h) (λ h. h)
  by_parts (Selector name matchers sight span) common o = none_else (Selector name matchers sight span) refl o (λ h. h) (λ h. h) (λ h. h) (λ h. h)
  by_parts (Subquery of sight span) common o = none_else (Subquery of sight span) refl o (λ h. h) (λ h. h) (λ h. h) (λ h. h)
  by_parts (Paren of span) common o = none_else (Paren of span) refl o (λ h. h) (λ h. h) (λ h. h) (λ h. h)
  by_parts (Unary minus of span) common o = none_else (Unary minus of span) refl o (λ h. h) (λ h. h) (λ h. h) (λ h. h)
  by_parts (Binary op m left right span) common o = at_operator op m left right span common o
  by_parts (Call name args span) common o = at_call name args span (effect_of (Call name args span)) refl o
  by_parts (Aggregate op grouping args span) common o = no_argument op grouping args span o

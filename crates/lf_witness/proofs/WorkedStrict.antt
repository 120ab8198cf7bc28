-- The strict evaluation on worked worlds: any two samples of the metric `foo` and one of `bar`. What a case needs of them beside is its premise.
use Rattle.std.proofs.Common.{◌≡◌, ◌≢◌, ◌<◌, inl, inr, Bool, true, false, cond, length, not, ◌&&◌, arith, List, [], ◌∷◌, map, Some, None, codes, refl, sym, ap, ◌∙◌, subst, true≢false}
use Rattle.std.specs.List.{Contains}
use Rattle.std.specs.Str.{bytes_eq, chars}
use Rattle.lf_laws.proofs.Members.{behind, first_or_behind, here, in_map, map_member, none_in, only_one, other_false, same_true}
use Rattle.lf_base.specs.Names.{begins_label, is_label_name, is_letter}
use Rattle.lf_ast.specs.Rules.{RuleTree}
use Rattle.lf_ast.specs.Functions.{function_named, functions}
use Rattle.lf_ast.specs.Labels.{Bytes, Labels}
use Rattle.lf_ast.specs.Selectors.{metric}
use Rattle.lf_ast.specs.Tree.{Tree, Subquery, Unary}
use Rattle.lf_ast.specs.declared.expr.Agg.TheVariants.{CountValues, Topk}
use Rattle.lf_ast.specs.declared.expr.Group.TheVariants.{One, Left, Right}
use Rattle.lf_ast.specs.declared.expr.Grouping.TheVariants.{By}
use Rattle.lf_ast.specs.declared.expr.Matching.{Matching}
use Rattle.lf_ast.specs.declared.expr.Op.{Op}
use Rattle.lf_ast.specs.declared.expr.Op.TheVariants.{Add, And, Greater, Less, Or, Unless}
use Rattle.lf_ast.specs.declared.expr.MatchOp.TheVariants.{Equal}
use Rattle.lf_ast.specs.declared.expr.Matcher.{Matcher}
use Rattle.lf_pattern.specs.Matching.{Matches}
use Rattle.lf_pattern.specs.Replacement.{IsPlainReplacement, end as no_more_read, other as one_read}
use Rattle.lf_pattern.specs.reading.Plainness.{checked}
use Rattle.lf_pattern.specs.declared.replacement.ReplacementPiece.TheVariants.{Char}
use Rattle.lf_pattern.proofs.PlainnessLaws.{plain-passes}
use Rattle.lf_semantics.specs.Passing.{PassesEach}
use Rattle.lf_semantics.specs.Evaluation.{AreMade, IsQuantile, IsReplaced, bare}
use Rattle.lf_semantics.specs.Grouped.{SameSignature, group_of, is_metric, out, without_name}
use Rattle.lf_semantics.specs.Strings.{Replacing, joined_by, replacing}
use Rattle.lf_semantics.specs.Texts.{restricted, value_of, with_label}
use Rattle.lf_semantics.specs.Worlds.{stored}
use Rattle.lf_semantics.specs.Parts.{Sought}
use Rattle.lf_semantics.proofs.Written.{aggregate, asks, between, call, matching, minus, names, number, paren, place_at, record_rule, selector, sight, sum_by, text, unmodified}
use Rattle.lf_witness.specs.Strict.{Coincide, HasTwoAlike, IsOpenAbsent, MadeApart, StrictPairs, StrictlyEvaluates, last_buckets}
use Rattle.lf_witness.specs.StrictRuns.{StepAdds}
use Rattle.lf_witness.proofs.OneSample.{replaced_one}
use Rattle.lf_witness.proofs.SomeSample.{sought_sample}

-- what each of two samples becomes, by a function
pub made : (f : Labels → Labels) (P : List Labels) → AreMade (λ s r. r ≡ f s) P (map f P)
made f P = (λ s c. (f s, refl, in_map f P s c), λ r c. map_member f P r c)

module _ (x y b : Labels) (x_is : value_of x metric ≡ codes "foo") (y_is : value_of y metric ≡ codes "foo") (b_is : value_of b metric ≡ codes "bar") (two : x ≢ y) where
  abbrev W : List Labels
  W = x ∷ y ∷ b ∷ []

  abbrev foos : List Labels
  foos = x ∷ y ∷ []

  abbrev foo : Tree
  foo = selector (codes "foo") []

  abbrev bar : Tree
  bar = selector (codes "bar") []

  first : Contains foos x
  first = here x (y ∷ [])

  second : Contains foos y
  second = behind x (y ∷ []) y (here y [])

  in_first : Contains W x
  in_first = here x (y ∷ b ∷ [])

  in_second : Contains W y
  in_second = behind x (y ∷ b ∷ []) y (here y (b ∷ []))

  in_third : Contains W b
  in_third = behind x (y ∷ b ∷ []) b (behind y (b ∷ []) b (here b []))

  -- what holds of both holds of each
  each_foo : (P : Labels → Type 0) → P x → P y → (s : Labels) → Contains foos s → P s
  each_foo P of_x of_y s c = elim (first_or_behind x (y ∷ []) s c) [
    | inl e ↦ subst P e of_x
    | inr later ↦ subst P (only_one y s later) of_y
  ]

  each_sample : (P : Labels → Type 0) → P x → P y → P b → (s : Labels) → Contains W s → P s
  each_sample P of_x of_y of_b s c = elim (first_or_behind x (y ∷ b ∷ []) s c) [
    | inl e ↦ subst P e of_x
    | inr later ↦ elim (first_or_behind y (b ∷ []) s later) [
      | inl e ↦ subst P e of_y
      | inr last ↦ subst P (only_one b s last) of_b
    ]
  ]

  other_name : (m n : Bytes) (s : Labels) → value_of s metric ≡ m → value_of s metric ≡ n → m ≢ n → ⊥
  other_name m n s one another other = other (sym one ∙ another)

  foo_is_no_baz : codes "foo" ≢ codes "baz"
  foo_is_no_baz e = true≢false (sym (same_true (codes "foo") (codes "baz") e))

  bar_is_no_baz : codes "bar" ≢ codes "baz"
  bar_is_no_baz e = true≢false (sym (same_true (codes "bar") (codes "baz") e))

  foo_is_no_bar : codes "foo" ≢ codes "bar"
  foo_is_no_bar e = true≢false (sym (same_true (codes "foo") (codes "bar") e))

  -- a selector gives all that pass
  pub gives_foo : StrictlyEvaluates W foo (Some foos)
  gives_foo = (
    each_sample (λ s. value_of s metric ≡ codes "foo" → Unit {0} → Contains foos s) (λ _ _. first) (λ _ _. second) (λ is _. absurd (other_name (codes "bar") (codes "foo") b b_is is (λ e. foo_is_no_bar (sym e)))),
    each_foo (λ s. Contains W s × (value_of s metric ≡ codes "foo") × Unit {0}) (in_first, x_is, tt) (in_second, y_is, tt),
  )

  gives_bar : StrictlyEvaluates W bar (Some (b ∷ []))
  gives_bar = (
    each_sample (λ s. value_of s metric ≡ codes "bar" → Unit {0} → Contains (b ∷ []) s) (λ is _. absurd (other_name (codes "foo") (codes "bar") x x_is is foo_is_no_bar)) (λ is _. absurd (other_name (codes "foo") (codes "bar") y y_is is foo_is_no_bar)) (λ _ _. here b []),
    λ s c. subst (λ z. Contains W z × (value_of z metric ≡ codes "bar") × Unit {0}) (only_one b s c) (in_third, b_is, tt),
  )

  -- a text is None, and a number has the one sample without labels
  no_text : StrictlyEvaluates W (text (codes "a")) None
  no_text = tt

  gives_number : StrictlyEvaluates W number (Some (bare ∷ []))
  gives_number = (here bare [], λ r c. sym (only_one bare r c))

  -- what keeps samples gives them all: `(foo)`, `+foo`, `foo[5m:]`, `foo > 1`, `1 < foo`, `sort(foo)`, `topk(1, foo)`
  gives_in_parentheses : StrictlyEvaluates W (paren foo) (Some foos)
  gives_in_parentheses = gives_foo

  gives_plus : StrictlyEvaluates W (Unary false foo (place_at 20)) (Some foos)
  gives_plus = gives_foo

  gives_subquery : StrictlyEvaluates W (Subquery foo (sight (Some (codes "5m")) None) (place_at 20)) (Some foos)
  gives_subquery = gives_foo

  gives_greater : StrictlyEvaluates W (between Greater unmodified foo number) (Some foos)
  gives_greater = gives_foo

  gives_less : StrictlyEvaluates W (between Less unmodified number foo) (Some foos)
  gives_less = gives_foo

  gives_sorted : StrictlyEvaluates W (call (codes "sort") (foo ∷ [])) (Some foos)
  unfolding function_named functions
  gives_sorted = gives_foo

  gives_top : StrictlyEvaluates W (aggregate Topk (By []) (number ∷ foo ∷ [])) (Some foos)
  gives_top = gives_foo

  -- `abs(foo)` drops the name, and is None where the two are one without it; so is `-foo`
  pub apart : (f : Labels → Labels) → f x ≢ f y → Coincide (λ s r. r ≡ f s) foos → ⊥
  apart f differ (s, t, r, of_s, of_t, other, from_s, from_t) =
      each_foo (λ u. (u ≢ t) → r ≡ f u → ⊥)
      (λ not_t is. each_foo (λ v. (x ≢ v) → r ≡ f v → ⊥) (λ no _. no refl) (λ _ too. differ (sym is ∙ too)) t of_t not_t from_t)
      (λ not_t is. each_foo (λ v. (y ≢ v) → r ≡ f v → ⊥) (λ _ too. differ (sym too ∙ is)) (λ no _. no refl) t of_t not_t from_t)
      s of_s other from_s

  pub gives_abs : without_name x ≢ without_name y → StrictlyEvaluates W (call (codes "abs") (foo ∷ [])) (Some (map without_name foos))
  unfolding function_named functions
  gives_abs differ = inr (foos, gives_foo, (made without_name foos, apart without_name differ))

  no_abs : without_name x ≡ without_name y → StrictlyEvaluates W (call (codes "abs") (foo ∷ [])) None
  unfolding function_named functions
  no_abs same = inr (foos, gives_foo, (x, y, without_name x, first, second, two, refl, same))

  gives_negative : without_name x ≢ without_name y → StrictlyEvaluates W (minus foo) (Some (map without_name foos))
  gives_negative differ = inr (foos, gives_foo, (made without_name foos, apart without_name differ))

  no_negative : without_name x ≡ without_name y → StrictlyEvaluates W (minus foo) None
  no_negative same = inr (foos, gives_foo, (x, y, without_name x, first, second, two, refl, same))

  -- so does `foo + 1`, and `hour(foo)`; `hour()` has the one sample without labels
  gives_more : without_name x ≢ without_name y → StrictlyEvaluates W (between Add unmodified foo number) (Some (map without_name foos))
  gives_more differ = inr (foos, gives_foo, (made without_name foos, apart without_name differ))

  no_more : without_name x ≡ without_name y → StrictlyEvaluates W (between Add unmodified foo number) None
  no_more same = inr (foos, gives_foo, (x, y, without_name x, first, second, two, refl, same))

  gives_hours : without_name x ≢ without_name y → StrictlyEvaluates W (call (codes "hour") (foo ∷ [])) (Some (map without_name foos))
  unfolding function_named functions
  gives_hours differ = inr (foos, gives_foo, (made without_name foos, apart without_name differ))

  gives_hour : StrictlyEvaluates W (call (codes "hour") []) (Some (bare ∷ []))
  unfolding function_named functions
  gives_hour = gives_number

  -- `histogram_quantile(1, foo)` takes the last bucket, here x, and drops `le` and the name
  abbrev without_le : Labels → Labels
  without_le s = restricted (λ label. not (is_metric label) && not (bytes_eq label (codes "le"))) s

  module _ (last : value_of x (codes "le") ≡ codes "+Inf") (other : value_of y (codes "le") ≢ codes "+Inf") where
    one_bucket : last_buckets foos ≡ x ∷ []
    one_bucket = rw (same_true (value_of x (codes "le")) (codes "+Inf") last, other_false (value_of y (codes "le")) (codes "+Inf") other) refl

    has_le : value_of x (codes "le") ≢ []
    has_le empty = true≢false (sym (same_true (codes "+Inf") [] (sym last ∙ empty)))

    gives_quantile : StrictlyEvaluates W (call (codes "histogram_quantile") (number ∷ foo ∷ [])) (Some (without_le x ∷ []))
    unfolding function_named functions
    gives_quantile = inr (foos, gives_foo, subst (λ (l : List Labels). MadeApart IsQuantile l (Some (without_le x ∷ []))) (sym one_bucket) of_x)
      where
        of_x : MadeApart IsQuantile (x ∷ []) (Some (without_le x ∷ []))
        of_x = (
          (λ s c. (without_le x, subst (λ z. IsQuantile z (without_le x)) (only_one x s c) (has_le, refl), here (without_le x) []), λ r c. (x, here x [], (has_le, sym (only_one (without_le x) r c)))),
          λ (s, t, r, of_s, of_t, different, from_s, from_t). different (sym (only_one x s of_s) ∙ only_one x t of_t),
        )

  -- and is None where both are last buckets and become one
  no_quantile : value_of x (codes "le") ≡ codes "+Inf" → value_of y (codes "le") ≡ codes "+Inf" → without_le x ≡ without_le y → StrictlyEvaluates W (call (codes "histogram_quantile") (number ∷ foo ∷ [])) None
  unfolding function_named functions
  no_quantile x_last y_last same = inr (foos, gives_foo, subst (λ (l : List Labels). MadeApart IsQuantile l None) (sym both) (x, y, without_le x, first, second, two, (has x x_last, refl), (has y y_last, same)))
    where
      both : last_buckets foos ≡ foos
      both = rw (same_true (value_of x (codes "le")) (codes "+Inf") x_last, same_true (value_of y (codes "le")) (codes "+Inf") y_last) refl

      has : (s : Labels) → value_of s (codes "le") ≡ codes "+Inf" → value_of s (codes "le") ≢ []
      has s last empty = true≢false (sym (same_true (codes "+Inf") [] (sym last ∙ empty)))

  -- `sum by (job) (foo)` counts one group once, and `count_values("n", foo)` sets `n` to `1`
  gives_sums : StrictlyEvaluates W (sum_by (codes "job" ∷ []) foo) (Some (map (group_of (By (names 8 (codes "job" ∷ [])))) foos))
  gives_sums = inr (foos, gives_foo, made (group_of (By (names 8 (codes "job" ∷ [])))) foos)

  gives_counts : StrictlyEvaluates W (aggregate CountValues (By []) (text (codes "n") ∷ foo ∷ [])) (Some (map (λ s. with_label (codes "n") (codes "1") (group_of (By []) s)) foos))
  gives_counts = inr (foos, gives_foo, made (λ s. with_label (codes "n") (codes "1") (group_of (By []) s)) foos)

  -- `label_join(foo, "d", "-", "a", "b")`
  abbrev pub joined : Labels → Labels
  joined s = with_label (codes "d") (joined_by (codes "-") (value_of s (codes "a") ∷ value_of s (codes "b") ∷ [])) s

  pub gives_joined : joined x ≢ joined y → StrictlyEvaluates W (call (codes "label_join") (foo ∷ text (codes "d") ∷ text (codes "-") ∷ text (codes "a") ∷ text (codes "b") ∷ [])) (Some (map joined foos))
  unfolding function_named functions
  gives_joined differ = inr (foos, gives_foo, (made joined foos, apart joined differ))

  no_joined : joined x ≡ joined y → StrictlyEvaluates W (call (codes "label_join") (foo ∷ text (codes "d") ∷ text (codes "-") ∷ text (codes "a") ∷ text (codes "b") ∷ [])) None
  unfolding function_named functions
  no_joined same = inr (foos, gives_foo, (x, y, joined x, first, second, two, refl, same))

  -- `label_replace(foo, "d", "v", "a", "p")`, where `a` is `p` in both: `d` becomes `v`
  abbrev replacement : Bytes → Tree
  replacement text_of = call (codes "label_replace") (foo ∷ text (codes "d") ∷ text text_of ∷ text (codes "a") ∷ text (codes "p") ∷ [])

  abbrev replaced : Labels → Labels
  replaced s = with_label (codes "d") (codes "v") s

  abbrev replacing_a : Replacing
  replacing_a = replacing ([] ∷ codes "d" ∷ codes "v" ∷ codes "a" ∷ codes "p" ∷ [])

  v_is_plain : IsPlainReplacement (codes "v")
  unfolding chars
  v_is_plain = (Char 118 ∷ [], one_read (λ e. omega (arith, e)) no_more_read)

  module _ (x_matches : Matches (codes "p") (value_of x (codes "a"))) (y_matches : Matches (codes "p") (value_of y (codes "a"))) where
    becomes : (s : Labels) → Contains foos s → IsReplaced replacing_a s (replaced s)
    unfolding is_label_name begins_label is_letter
    becomes = each_foo (λ s. IsReplaced replacing_a s (replaced s)) (inr (x_matches, codes "v", inl (refl, refl), refl)) (inr (y_matches, codes "v", inl (refl, refl), refl))

    gives_replaced : replaced x ≢ replaced y → StrictlyEvaluates W (replacement (codes "v")) (Some (map replaced foos))
    unfolding function_named functions
    gives_replaced differ = inr (
      v_is_plain,
      inr (
        foos,
        gives_foo,
        (
          (
            λ s c. (replaced s, becomes s c, in_map replaced foos s c),
            λ r c. let s = map_member replaced foos r c in (s.0, s.1, subst (IsReplaced replacing_a s.0) (sym s.2) (becomes s.0 s.1)),
          ),
          λ (s, t, r, of_s, of_t, different, from_s, from_t).
              apart replaced differ (s, t, r, of_s, of_t, different, replaced_one replacing_a v_is_plain s r (replaced s) from_s (becomes s of_s), replaced_one replacing_a v_is_plain t r (replaced t) from_t (becomes t of_t)),
        ),
      ),
    )

    no_replaced : replaced x ≡ replaced y → StrictlyEvaluates W (replacement (codes "v")) None
    unfolding function_named functions
    no_replaced same = inr (v_is_plain, inr (foos, gives_foo, (x, y, replaced x, first, second, two, becomes x first, subst (IsReplaced replacing_a y) (sym same) (becomes y second))))

  -- the replacement `$a` isn't plain, so it is None whatever the samples are
  dollar_is_not_plain : IsPlainReplacement (codes "$a") → ⊥
  unfolding chars checked
  dollar_is_not_plain plain = true≢false (sym (plain-passes plain.1))

  no_expansion : StrictlyEvaluates W (replacement (codes "$a")) None
  unfolding function_named functions
  no_expansion = inl (dollar_is_not_plain, tt)

  -- `vector(1)` gives the one sample without labels
  gives_vector : StrictlyEvaluates W (call (codes "vector") (number ∷ [])) (Some (bare ∷ []))
  unfolding function_named functions
  gives_vector = gives_number

  -- `absent(foo)` gives nothing beside samples, and `absent(baz{job="a"})` its sample
  abbrev absent_of : Tree → Tree
  absent_of e = call (codes "absent") (e ∷ [])

  abbrev baz : Tree
  baz = selector (codes "baz") (asks (codes "job") Equal (codes "a") ∷ [])

  gives_no_baz : StrictlyEvaluates W baz (Some [])
  gives_no_baz = (
    each_sample (λ s. value_of s metric ≡ codes "baz" → PassesEach (asks (codes "job") Equal (codes "a") ∷ []) s → Contains [] s)
        (λ is _. absurd (other_name (codes "foo") (codes "baz") x x_is is foo_is_no_baz))
        (λ is _. absurd (other_name (codes "foo") (codes "baz") y y_is is foo_is_no_baz))
        (λ is _. absurd (other_name (codes "bar") (codes "baz") b b_is is bar_is_no_baz)),
    λ s c. absurd (none_in s c),
  )

  abbrev sought : List Matcher → Sought
  sought matchers = record { matchers = matchers; may_be_bare = false }

  one_matcher : IsOpenAbsent (Some (sought (asks (codes "job") Equal (codes "a") ∷ []))) → ⊥
  one_matcher (inl e) = true≢false (sym e)
  one_matcher (inr (label, e, more)) = by (bytes_eq (codes "job") label) more
    where
      by : (b : Bool) → 1 < length (cond b (asks (codes "job") Equal (codes "a") ∷ []) []) → ⊥
      by true more = omega (arith, more)
      by false more = omega (arith, more)

  gives_absent : StrictlyEvaluates W (absent_of baz) (Some (with_label (codes "job") (codes "a") bare ∷ []))
  unfolding function_named functions
  gives_absent =
      let one = with_label (codes "job") (codes "a") bare in
      inr (one_matcher, one, sought_sample (sought (asks (codes "job") Equal (codes "a") ∷ [])) one_matcher, inr ([], gives_no_baz, (here one [], λ r c. sym (only_one one r c))))

  no_matcher : IsOpenAbsent (Some (sought [])) → ⊥
  no_matcher (inl e) = true≢false (sym e)
  no_matcher (inr (label, e, more)) = omega (arith, more)

  gives_nothing : StrictlyEvaluates W (absent_of foo) (Some [])
  unfolding function_named functions
  gives_nothing = inr (no_matcher, bare, sought_sample (sought []) no_matcher, inr (foos, gives_foo, refl))

  -- `absent((foo))` is open and so None, and so is what is made of it
  no_open_absent : StrictlyEvaluates W (call (codes "absent") (paren foo ∷ [])) None
  unfolding function_named functions
  no_open_absent = inl (inl refl, tt)

  none_of_none : StrictlyEvaluates W (minus (call (codes "absent") (paren foo ∷ []))) None
  unfolding function_named functions
  none_of_none = inl (inl (inl refl, tt), tt)

  -- `foo + on () bar` has two left samples for one right one: None one to one, and both with `group_left`
  abbrev on_none : Matching
  on_none = matching false (Some []) None One []

  alike : (s t : Labels) → SameSignature on_none s t
  alike s t label signs = absurd (true≢false (sym signs))

  no_sum : StrictlyEvaluates W (between Add on_none foo bar) None
  no_sum = inr (foos, gives_foo, inr (b ∷ [], gives_bar, inl (inl (x, y, first, second, two, alike x y))))

  -- with a group list L, `foo + on () group_left (L) bar`
  abbrev pub many : List Bytes → Matching
  many include = matching false (Some []) None Left include

  alike_many : (include : List Bytes) (s t : Labels) → SameSignature (many include) s t
  alike_many include s t label signs = absurd (true≢false (sym signs))

  abbrev summed : Op → List Bytes → Labels → Labels
  summed op include s = out op (many include) s b

  -- of any operator: both, where they differ in the result
  many_pairs : (op : Op) (include : List Bytes) → out op (many include) x b ≢ out op (many include) y b → StrictPairs op (many include) foos (b ∷ []) (Some (map (λ s. out op (many include) s b) foos))
  many_pairs op include differ = (
    (
      λ r c. let s = map_member (summed op include) foos r c in (s.0, b, s.1, here b [], alike_many include s.0 b, s.2),
      λ s t of_s of_t same. subst (λ (z : Labels). Contains (map (summed op include) foos) (out op (many include) s z)) (only_one b t of_t) (in_map (summed op include) foos s of_s),
    ),
    λ (s, t, of_s, of_t, different, same). different (sym (only_one b s of_s) ∙ only_one b t of_t),
    λ (s, t, u, v, one, another, different, same).
        (let t_is = only_one b t one.1 in
        let v_is = only_one b v another.1 in
        let same_left : summed op include s ≡ summed op include u = ap (λ z. out op (many include) s z) t_is ∙ same ∙ ap (λ z. out op (many include) u z) (sym v_is) in
        elim different [
          | inl lefts ↦ apart (summed op include) differ (s, u, summed op include s, one.0, another.0, lefts, refl, same_left)
          | inr rights ↦ rights (sym t_is ∙ v_is)
        ]),
  )

  pub gives_sum : out Add (many []) x b ≢ out Add (many []) y b → StrictlyEvaluates W (between Add (many []) foo bar) (Some (map (λ s. out Add (many []) s b) foos))
  gives_sum differ = inr (foos, gives_foo, inr (b ∷ [], gives_bar, many_pairs Add [] differ))

  -- the label `job` is taken from b
  abbrev jobs : List Bytes
  jobs = codes "job" ∷ []

  gives_sum_with_jobs : out Add (many jobs) x b ≢ out Add (many jobs) y b
      → StrictlyEvaluates W (between Add (many jobs) foo bar) (Some (map (λ s. with_label (codes "job") (value_of b (codes "job")) (without_name s)) foos))
  gives_sum_with_jobs differ = inr (foos, gives_foo, inr (b ∷ [], gives_bar, many_pairs Add jobs differ))

  -- a filter keeps the left samples whole
  gives_filter : StrictlyEvaluates W (between Greater (many []) foo bar) (Some foos)
  gives_filter = inr (foos, gives_foo, inr (b ∷ [], gives_bar, many_pairs Greater [] two))

  -- None where the two results are one
  no_sum_apart : out Add (many []) x b ≡ out Add (many []) y b → StrictlyEvaluates W (between Add (many []) foo bar) None
  no_sum_apart same = inr (foos, gives_foo, inr (b ∷ [], gives_bar, inr (x, b, y, b, (first, here b [], alike_many [] x b), (second, here b [], alike_many [] y b), inl two, same)))

  -- `bar > on () group_right foo`: the right side is the many side, and its samples are kept
  abbrev many_right : Matching
  many_right = matching false (Some []) None Right []

  gives_filter_right : StrictlyEvaluates W (between Greater many_right bar foo) (Some foos)
  gives_filter_right = inr (
    b ∷ [],
    gives_bar,
    inr (
      foos,
      gives_foo,
      (
        (
          λ r c. (b, r, here b [], c, alike_right b r, refl),
          λ s t of_s of_t same. of_t,
        ),
        λ (s, t, of_s, of_t, different, same). different (sym (only_one b s of_s) ∙ only_one b t of_t),
        λ (s, t, u, v, one, another, different, same). elim different [
          | inl lefts ↦ lefts (sym (only_one b s one.0) ∙ only_one b u another.0)
          | inr rights ↦ rights same
        ],
      ),
    ),
  )
    where
      alike_right : (s t : Labels) → SameSignature many_right s t
      alike_right s t label signs = absurd (true≢false (sym signs))

  -- `foo + ignoring (a) bar`, where b has the signature of x, and y has another
  abbrev ignoring_a : Matching
  ignoring_a = matching false None (Some (codes "a" ∷ [])) One []

  module _ (same_x : SameSignature ignoring_a x b) (other_y : SameSignature ignoring_a y b → ⊥) where
    no_two : HasTwoAlike ignoring_a foos → ⊥
    no_two (s, t, of_s, of_t, different, same) =
        each_foo (λ u. (u ≢ t) → SameSignature ignoring_a u t → ⊥)
        (λ not_t is. each_foo (λ v. (x ≢ v) → SameSignature ignoring_a x v → ⊥) (λ no_other _. no_other refl) (λ _ too. other_y (λ label signs. sym (too label signs) ∙ same_x label signs)) t of_t not_t is)
        (λ not_t is. each_foo (λ v. (y ≢ v) → SameSignature ignoring_a y v → ⊥) (λ _ too. other_y (λ label signs. too label signs ∙ same_x label signs)) (λ no_other _. no_other refl) t of_t not_t is)
        s of_s different same

    only_x : (s t : Labels) → Contains foos s → Contains (b ∷ []) t → SameSignature ignoring_a s t → x ≡ s
    only_x s t of_s of_t same =
        each_foo (λ u. SameSignature ignoring_a u b → x ≡ u) (λ _. refl) (λ too. absurd (other_y too)) s of_s (subst (SameSignature ignoring_a s) (sym (only_one b t of_t)) same)

    gives_one_sum : StrictlyEvaluates W (between Add ignoring_a foo bar) (Some (out Add ignoring_a x b ∷ []))
    gives_one_sum = inr (
      foos,
      gives_foo,
      inr (
        b ∷ [],
        gives_bar,
        (
          (
            λ r c. (x, b, first, here b [], same_x, sym (only_one (out Add ignoring_a x b) r c)),
            λ s t of_s of_t same. subst (λ z. Contains (out Add ignoring_a x b ∷ []) (out Add ignoring_a z t)) (only_x s t of_s of_t same) (subst (λ z. Contains (out Add ignoring_a x b ∷ []) (out Add ignoring_a x z)) (only_one b t of_t) (here (out Add ignoring_a x b) [])),
          ),
          λ two_alike. elim two_alike [
            | inl lefts ↦ no_two lefts
            | inr (s, t, of_s, of_t, different, same) ↦ different (sym (only_one b s of_s) ∙ only_one b t of_t)
          ],
          λ (s, t, u, v, one, another, different, same). elim different [
            | inl lefts ↦ lefts (sym (only_x s t one.0 one.1 one.2) ∙ only_x u v another.0 another.1 another.2)
            | inr rights ↦ rights (sym (only_one b t one.1) ∙ only_one b v another.1)
          ],
        ),
      ),
    )

  -- `foo and on () bar`, `foo unless on () bar` and `foo or on () bar`
  gives_and : StrictlyEvaluates W (between And on_none foo bar) (Some foos)
  gives_and = inr (foos, gives_foo, inr (b ∷ [], gives_bar, (λ s c partner. c, λ s c. (c, (b, here b [], alike s b)))))

  gives_unless : StrictlyEvaluates W (between Unless on_none foo bar) (Some [])
  gives_unless = inr (foos, gives_foo, inr (b ∷ [], gives_bar, (λ s c alone. absurd (alone (b, here b [], alike s b)), λ s c. absurd (none_in s c))))

  gives_or : StrictlyEvaluates W (between Or on_none foo bar) (Some foos)
  gives_or = inr (foos, gives_foo, inr (b ∷ [], gives_bar, (λ s c. c, λ t c alone. absurd (alone (x, first, alike t x)), λ r c. inl c)))

  -- `foo unless on () baz` and `baz or on () bar`, where nothing of `baz` is stored
  gives_left : StrictlyEvaluates W (between Unless on_none foo baz) (Some foos)
  gives_left = inr (foos, gives_foo, inr ([], gives_no_baz, (λ s c alone. c, λ s c. (c, λ partner. none_in partner.0 partner.1))))

  gives_right : StrictlyEvaluates W (between Or on_none baz bar) (Some (b ∷ []))
  gives_right = inr ([], gives_no_baz, inr (b ∷ [], gives_bar, (λ s c. absurd (none_in s c), λ t c alone. c, λ r c. inr (c, λ partner. none_in partner.0 partner.1))))

  -- a rule `foo` that records `a:foo` stores both, and is None where they are one once they are stored
  abbrev recorded : RuleTree
  recorded = record_rule (codes "a:foo") [] foo

  gives_step : stored recorded x ≢ stored recorded y → StepAdds W recorded (Some (map (stored recorded) foos))
  gives_step differ = inr (foos, inr (refl, gives_foo), (made (stored recorded) foos, apart (stored recorded) differ))

  no_step : stored recorded x ≡ stored recorded y → StepAdds W recorded None
  no_step same = inr (foos, inr (refl, gives_foo), (x, y, stored recorded x, first, second, two, refl, same))

  -- an alert stores nothing, whatever its expression gives
  abbrev alerting : RuleTree
  alerting = record {
    file = 0;
    alert = true;
    name = codes "A";
    name_span = place_at 0;
    expr = foo;
    expr_span = place_at 0;
    labels = [];
    templates = [];
  }

  gives_alert : StepAdds W alerting (Some [])
  gives_alert = inr (foos, inr (refl, gives_foo), refl)

  -- a rule that is a string is None
  no_string_rule : StepAdds W (record_rule (codes "a:text") [] (text (codes "a"))) None
  no_string_rule = inl (inl (refl, tt), tt)

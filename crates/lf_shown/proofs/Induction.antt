-- What is built for an expression without open constructs gives one sample: the induction over expressions, and over the rules that aren't marked.
use Rattle.std.proofs.Common.{◌≡◌, ◌<◌, inl, inr, ℕ, zero, suc, ◌+◌, Bool, true, false, not, ◌&&◌, ◌||◌, cond, List, [], ◌∷◌, ◌++◌, length, Option, Some, None, refl, sym, ◌∙◌, ap, subst, arith, codes, length-append}
use Rattle.std.proofs.lemmas.Bool.{or_right}
use Rattle.std.proofs.lemmas.Bool.{or_left}
use Rattle.std.specs.List.{Contains, filter}
use Rattle.std.proofs.lemmas.List.Elements.{Contains-append_left, Contains-append_right}
use Rattle.std.proofs.lemmas.Option.{none-some, same_Some}
use Rattle.lf_laws.proofs.Booleans.{clash}
use Rattle.lf_laws.proofs.Members.{here, none_in, only_one, same_true}
use Rattle.lf_ast.specs.Functions.{Signature, aggregation, function_named}
use Rattle.lf_ast.specs.Arguments.{texts_of}
use Rattle.lf_ast.specs.Labels.{Bytes, Labels}
use Rattle.lf_ast.specs.Rules.{RuleTree}
use Rattle.lf_ast.specs.Tree.{Tree, Trees, Number, Str, Selector, Subquery, Paren, Unary, Binary, Call, Aggregate, Nil, Next}
use Rattle.lf_ast.specs.declared.expr.Grouping.{Grouping}
use Rattle.lf_ast.specs.declared.expr.Grouping.TheVariants.{None as Ungrouped}
use Rattle.lf_ast.specs.declared.expr.Matcher.{Matcher}
use Rattle.lf_ast.specs.declared.expr.Matching.{Matching}
use Rattle.lf_ast.specs.declared.expr.Sight.{Sight}
use Rattle.lf_base.specs.declared.place.Span.{Span}
use Rattle.lf_ast.specs.declared.expr.Op.{Op}
use Rattle.lf_ast.specs.declared.expr.Op.TheVariants.{Add, Subtract, Multiply, Divide, Modulo, Power, Atan2, Equal, NotEqual, LessOrEqual, Less, GreaterOrEqual, Greater, And, Or, Unless}
use Rattle.lf_ast.specs.declared.functions.LabelEffect.{LabelEffect}
use Rattle.lf_ast.specs.declared.functions.LabelEffect.TheVariants.{Maps, Keeps, Groups, CountValues, Date, Absent, LabelReplace, LabelJoin, HistogramQuantile, Bare}
use Rattle.lf_semantics.specs.ClassRows.{HasShape, HoldsText, Sets, bottom, is_live}
use Rattle.lf_semantics.specs.Environments.{Covers, CoversRules, IsEnvironmentOf, IsKnown, IsPostFixedPoint}
use Rattle.lf_semantics.specs.Grouped.{is_filter}
use Rattle.lf_semantics.specs.Listing.{IsListing, Listing}
use Rattle.lf_semantics.specs.Mentions.{arguments_mentions, call_mentions, effect_mentions, group_names, matchers_mentions, mentions, modifier_mentions, name_mentions, names_mentions, stands_first}
use Rattle.lf_semantics.specs.Parts.{argument_at, is_scalar_part, operand_place}
use Rattle.lf_semantics.specs.RowTable.{Environment, binary_row, call_row, may_be_present, row_at, row_of, selector_row}
use Rattle.lf_semantics.specs.Worlds.{SetsNoName}
use Rattle.lf_semantics.proofs.Constructs.{AllKnown, ignoring_known, include_known, on_known, operands_known}
use Rattle.lf_semantics.proofs.LeqLaws.{bottom_dead}
use Rattle.lf_semantics.proofs.Members.{all_back, all_front}
use Rattle.lf_semantics.proofs.Numbered.{AreKnown}
use Rattle.lf_semantics.proofs.PartsCovered.{call_operands}
use Rattle.lf_semantics.proofs.RowLaws.{shape_bottom}
use Rattle.lf_semantics.proofs.Soundness.{first_sought, grouped_known, shape_of_row}
use Rattle.lf_semantics.proofs.ScalarCalls.{named_is_bare, selector_is_no_scalar}
use Rattle.lf_witness.specs.Strict.{ArgumentStrictlyEvaluates, Outcomes, StrictBinary, StrictCall, StrictlyEvaluates}
use Rattle.lf_deps.specs.Reading.{IsCyclic, Reaches, Reads, arguments_selectors, selectors, selectors_in}
use Rattle.lf_trials.specs.Building.{Builder}
use Rattle.lf_trials.specs.Built.{argument_builder, build, builder}
use Rattle.lf_trials.specs.Forks.{HoldsFork, TellsForks, fork_in, has_own_fork}
use Rattle.lf_trials.specs.Matched.{build_binary}
use Rattle.lf_trials.specs.Operands.{build_call}
use Rattle.lf_trials.specs.Reached.{has_several_rules, is_recorded}
use Rattle.lf_trials.specs.Selected.{Selected, selected_in, selected_in_arguments, selectors_of}
use Rattle.lf_shown.specs.Agreement.{MetricNames}
use Rattle.lf_shown.specs.NoneOpen.{ArgumentsAreClosed, CallIsClosed, EffectIsClosed, HasNoneOpen, HoldsNoFork, IsClosed, IsClosedIn, NamesBucket, OperatorIsClosed, SidesAreClosed, UnlessScalar}
use Rattle.lf_shown.specs.Silence.{argument_can_be_silent, binary_can_be_silent, call_can_be_silent, can_be_silent}
use Rattle.lf_shown.proofs.Choices.{IsSmall}
use Rattle.lf_shown.proofs.Constructs.{EffectFits, raw_beside, raw_effect, raw_sign}
use Rattle.lf_shown.proofs.Effects.{raw_same}
use Rattle.lf_shown.proofs.Expressions.{bare_binary, bare_call, bare_raw, made_more, said_known}
use Rattle.lf_shown.proofs.Made.{IsMade, IsRaw, made_of_raw}
use Rattle.lf_shown.proofs.Operators.{SidesFit, raw_operator}
use Rattle.lf_shown.proofs.Reached.{none_unrecorded, row_of_recorded}
use Rattle.lf_shown.proofs.Reading.{IsArgument, IsPart, argument_part, no_fork, part_forks, part_of, reads_more, same_part}
use Rattle.lf_shown.proofs.Recorded.{IsUnion, name_class, named_row}
use Rattle.lf_shown.proofs.Selectors.{NameForks, NameReads, RuleBuilds, raw_recorded, raw_scraped}

-- ---- selectors with their matchers

matched_argument : (args : Trees) (k : ℕ) (x : Tree) → argument_at args k ≡ Some x → (s : Selected) → Contains (selectors_of x) s → Contains (selected_in_arguments args) s
matched_argument Nil k x e s c = absurd (cc)
matched_argument (Next y ys) zero x e s c = let q : y ≡ x = cc in Contains-append_left (selectors_of y) (selected_in_arguments ys) s (subst (λ z. Contains (selectors_of z) s) (sym q) c)
matched_argument (Next y ys) (suc k) x e s c = Contains-append_right (selectors_of y) (selected_in_arguments ys) s (matched_argument ys k x e s c)

bucket_more : (rules : List RuleTree) (x e : Tree) → IsPart rules x e → ((s : Selected) → Contains (selectors_of x) s → Contains (selectors_of e) s) → NamesBucket rules x → NamesBucket rules e
bucket_more rules x e part matches (inl m) = inl (m.0, matches m.0 m.1, m.2)
bucket_more rules x e part matches (inr r) = inr (r.0, r.1, (r.2.0, reads_more rules x e part.selects r.0.name r.2.1), r.3)

module _ (u : Listing) (rules : List RuleTree) (p : IsListing u) (small : IsSmall u) (env : Environment) (holds_fork : Tree → Bool) (tells : TellsForks rules holds_fork)
    (covers : CoversRules u rules) (unnamed : (r : RuleTree) → Contains rules r → SetsNoName r) (of : IsEnvironmentOf u rules env)
    (union : IsUnion u rules p small env holds_fork tells covers unnamed of) (closed : IsPostFixedPoint u rules env)
    (last : (e : Tree) → Covers u e → HasNoneOpen rules e → (NamesBucket rules e → ⊥) → is_live (row_of u env e) ≡ true → may_be_present u (row_of u env e) (codes "le") ≡ true → HoldsText u (row_of u env e) (codes "le") (codes "+Inf")) where
  module _ (build_rule : Bytes → Builder) where
    -- what is built for an expression, and by the construct itself
    abbrev pub Made : Tree → Type 0
    Made e = IsMade u rules (row_of u env e) (Reads rules e) (length (selectors e)) (λ X. StrictlyEvaluates X e) (build u env rules holds_fork e (builder u env rules holds_fork build_rule e)) (holds_fork e) (can_be_silent e)

    abbrev Raw : Tree → Type 0
    Raw e = IsRaw u rules (row_of u env e) (Reads rules e) (length (selectors e)) (λ X. StrictlyEvaluates X e) (builder u env rules holds_fork build_rule e) (holds_fork e) (can_be_silent e)

    -- an operand, as the expression reads
    abbrev Operand : Tree → Tree → Type 0
    Operand x e = IsMade u rules (row_of u env x) (Reads rules e) (length (selectors e)) (λ X. StrictlyEvaluates X x) (build u env rules holds_fork x (builder u env rules holds_fork build_rule x)) (holds_fork e) (can_be_silent x)

    -- the recorded names that an expression selects are built, and no construct is open in the rules that it reads
    pub record NamesBuilt (e : Tree) : Type 0 where
      pub built : (n : Bytes) → Contains (selectors e) (Some n) → is_recorded rules n ≡ true → (IsCyclic rules n → ⊥) → RuleBuilds rules u env build_rule n
      pub read : (r : RuleTree) → Contains rules r → Reaches rules e r → IsClosed rules r.expr

    made_raw : (e : Tree) → Raw e → Made e
    made_raw e raw = made_of_raw u rules p small (row_of u env e) (Reads rules e) (length (selectors e)) (λ X. StrictlyEvaluates X e) (builder u env rules holds_fork build_rule e) (holds_fork e) (can_be_silent e) raw

    operand : (x e : Tree) → IsPart rules x e → Made x → Operand x e
    operand x e part made =
        made_more u rules (row_of u env x) (Reads rules x) (Reads rules e) (length (selectors x)) (length (selectors e)) (λ X. StrictlyEvaluates X x) (build u env rules holds_fork x (builder u env rules holds_fork build_rule x)) (holds_fork x) (holds_fork e) (can_be_silent x)
        (reads_more rules x e part.selects) part.fewer (part_forks rules holds_fork tells x e part) made

    same : (x e : Tree) → Operand x e → IsRaw u rules (row_of u env x) (Reads rules e) (length (selectors e)) (λ X. StrictlyEvaluates X x) (build u env rules holds_fork x (builder u env rules holds_fork build_rule x)) (holds_fork e) (can_be_silent x)
    same x e made =
        raw_same u rules p small (Reads rules e) (length (selectors e)) (row_of u env x) (λ X. StrictlyEvaluates X x) (build u env rules holds_fork x (builder u env rules holds_fork build_rule x)) (holds_fork e) (can_be_silent x) made

    -- ---- scalars

    scalar_part : (x e : Tree) → is_scalar_part x ≡ true → IsPart rules x e
    scalar_part x e is = record {
      selects = λ o c. absurd (none_in o (subst (λ b. Contains (cond b [] (selectors_in x)) o) is c));
      forks = λ f. absurd (clash _ f (ap (λ b. not b && fork_in rules x) is));
      fewer = let h : length (selectors x) ≡ 0 = ap (λ b. length (cond b [] (selectors_in x))) is in omega (arith, h);
    }

    scalar : (e : Tree) → is_scalar_part e ≡ true → Raw e
    scalar (Number text span) is = bare_raw u rules p small _ _ _
    scalar (Str text span) is = absurd (cc)
    scalar (Selector name matchers sight span) is = absurd (clash _ is (selector_is_no_scalar sight.range))
    scalar (Subquery of sight span) is = absurd (cc)
    scalar (Paren of span) is = same of (Paren of span) (operand of (Paren of span) (scalar_part of (Paren of span) is) (made_raw of (scalar of is)))
    scalar (Unary minus of span) is =
        raw_sign u rules p small (Reads rules (Unary minus of span)) (length (selectors (Unary minus of span))) (row_of u env of) (λ X. StrictlyEvaluates X of) (build u env rules holds_fork of (builder u env rules holds_fork build_rule of)) (holds_fork (Unary minus of span)) (can_be_silent of)
        (operand of (Unary minus of span) (scalar_part of (Unary minus of span) is) (made_raw of (scalar of is))) minus
    scalar (Binary op m left right span) is = bare_binary u rules p small _ _ _ op m (is_scalar_part left) (is_scalar_part right) is (row_of u env left) (row_of u env right) _ _ _ _ _ _
    scalar (Call name args span) is = bare_call u rules p small _ _ _ (function_named name) (named_is_bare name) is Ungrouped args (row_at u env args) (λ X. ArgumentStrictlyEvaluates X args) (argument_builder u env rules holds_fork build_rule args) (argument_can_be_silent args)
    scalar (Aggregate op grouping args span) is = absurd (cc)

    pub from_raw : (e : Tree) → (is_scalar_part e ≡ false → IsClosedIn rules e → Raw e) → IsClosed rules e → Made e
    from_raw e raw shut = made_raw e (by (is_scalar_part e) refl shut)
      where
        by : (b : Bool) → is_scalar_part e ≡ b → IsClosed rules e → Raw e
        by true is h = scalar e is
        by false is (inl s) = absurd (clash _ s is)
        by false is (inr h) = raw is h

    -- ---- where there is no argument

    dead : (Read : MetricNames) (count : ℕ) (f : List Labels → Outcomes) (b : Builder) (fork : Bool) → IsMade u rules (bottom u) Read count f b fork false
    dead Read count f b fork = record {
      shape = shape_bottom u;
      answers = λ D h either. absurd (clash _ h.live (bottom_dead u p));
      is_silent = λ e W lacks. absurd (clash _ e refl);
    }

    dead_raw : (Read : MetricNames) (count : ℕ) (f : List Labels → Outcomes) (b : Builder) (fork : Bool) → IsRaw u rules (bottom u) Read count f b fork false
    dead_raw Read count f b fork = record {
      shape = shape_bottom u;
      answers = λ D h either. absurd (clash _ h.live (bottom_dead u p));
      is_silent = λ e W lacks. absurd (clash _ e refl);
    }

    -- ---- selectors

    module _ (name : Option Bytes) (matchers : List Matcher) (sight : Sight) (span : Span) (known : Covers u (Selector name matchers sight span)) (shut : IsClosedIn rules (Selector name matchers sight span)) (names : NamesBuilt (Selector name matchers sight span)) where
      abbrev e : Tree
      e = Selector name matchers sight span

      abbrev n : Bytes
      n = shut.name

      no_scalar : is_scalar_part e ≡ false
      no_scalar = selector_is_no_scalar sight.range

      selectors_are : selectors e ≡ Some n ∷ []
      selectors_are = ap (λ b. cond b [] (selectors_in e)) no_scalar ∙ ap (λ o. o ∷ []) shut.says

      count_is : length (selectors e) ≡ 1
      count_is = ap (λ (xs : List (Option Bytes)). length xs) selectors_are

      selects : Contains (selectors e) (Some n)
      selects = subst (λ xs. Contains xs (Some n)) (sym selectors_are) (here (Some n) [])

      reads_name : Reads rules e n
      reads_name = Reads.selected (inl selects)

      into : (m : Bytes) → NameReads rules n m → Reads rules e m
      into m (inl q) = subst (Reads rules e) (sym q) reads_name
      into m (inr r) = Reads.through r.0 r.1 r.2.0 (inl (subst (λ x. Contains (selectors e) (Some x)) (sym r.2.1) selects)) r.3

      shape_is : HasShape u (selector_row u env name matchers)
      shape_is = shape_of_row u p env of.environment e

      own_is : has_own_fork rules e ≡ has_several_rules rules n
      own_is = ap (λ b. not b && fork_in rules e) no_scalar ∙ ap (Rattle.lf_trials.specs.Forks.is_forked_selector rules) shut.says

      -- a fork in the name's making is one beneath
      forks : NameForks rules n → HoldsFork rules e
      forks (inl several) = inl (own_is ∙ several)
      forks (inr (r, c, is, inl own)) = inr (r, c, (is.0, into r.name (inl is.1)), own)
      forks (inr (r, c, is, inr (q, d, reach, own))) = inr (q, d, (reach.0, into q.name (inr (r, c, is, reach.1))), own)

      name_forks : holds_fork e ≡ false → NameForks rules n → ⊥
      name_forks none fork = clash _ ((tells e).1 (forks fork)) none

      -- a scraped name has no fork in its making
      never_forks : is_recorded rules n ≡ false → HoldsFork rules e → ⊥
      never_forks none (inl own) = absurd (several (sym own_is ∙ own))
        where
          several : has_several_rules rules n ≡ true → ⊥
          several e = clash _ (more rules e) none
            where
              some : (xs : List RuleTree) → 0 < length (filter (Rattle.lf_semantics.specs.Environments.records n) xs) → is_recorded xs n ≡ true
              some [] h = absurd (omega (arith, h))
              some (x ∷ xs) h = by (Rattle.lf_semantics.specs.Environments.records n x) refl h (some xs)
                where
                  by : (b : Bool) → Rattle.lf_semantics.specs.Environments.records n x ≡ b → 0 < length (cond b (x ∷ filter (Rattle.lf_semantics.specs.Environments.records n) xs) (filter (Rattle.lf_semantics.specs.Environments.records n) xs))
                      → (0 < length (filter (Rattle.lf_semantics.specs.Environments.records n) xs) → is_recorded xs n ≡ true) → (b || is_recorded xs n) ≡ true
                  by true is h rest = refl
                  by false is h rest = rest h

              more : (xs : List RuleTree) → has_several_rules xs n ≡ true → is_recorded xs n ≡ true
              more xs e = some xs (grind (arith, Rattle.std.proofs.lemmas.Bool.Decides.nat_tests))
      never_forks none (inr r) = clash _ (there r.0 r.1 r.2.0 (only r.0.name r.2.1)) none
        where
          there : (r : RuleTree) → Contains rules r → r.alert ≡ false → r.name ≡ n → is_recorded rules n ≡ true
          there r c recording e = Rattle.lf_laws.proofs.Members.any_has (Rattle.lf_semantics.specs.Environments.records n) rules r c (rw (recording, same_true r.name n e) refl)

          -- nothing but the name is read
          only : (x : Bytes) → Reads rules e x → x ≡ n
          only x (Reads.selected (inl c)) = sym (same_Some n x (only_one (Some n) (Some x) (subst (λ xs. Contains xs (Some x)) selectors_are c)))
          only x (Reads.selected (inr c)) = absurd (none-some n (sym (only_one (Some n) None (subst (λ xs. Contains xs None) selectors_are c.0))))
          only x (Reads.through q d recording (inl c) reads) = absurd (clash _ (there q d recording (sym (same_Some n q.name (only_one (Some n) (Some q.name) (subst (λ xs. Contains xs (Some q.name)) selectors_are c))))) none)
          only x (Reads.through q d recording (inr c) reads) = absurd (none-some n (sym (only_one (Some n) None (subst (λ xs. Contains xs None) selectors_are c.0))))

      matchers_known : AllKnown u (matchers_mentions matchers)
      matchers_known = all_back (IsKnown u) (name_mentions name) (matchers_mentions matchers) known

      raw_selector : Raw e
      raw_selector =
          subst (λ k. IsRaw u rules (row_of u env e) (Reads rules e) k (λ X. StrictlyEvaluates X e) (builder u env rules holds_fork build_rule e) (holds_fork e) true) (sym count_is) (by (is_recorded rules n) refl)
        where
          by : (b : Bool) → is_recorded rules n ≡ b → IsRaw u rules (row_of u env e) (Reads rules e) 1 (λ X. StrictlyEvaluates X e) (builder u env rules holds_fork build_rule e) (holds_fork e) true
          by false is =
              raw_scraped rules u p small env name matchers n shut.says matchers_known shut.plain (said_known u name matchers n known shut.says) shape_is (Reads rules e) reads_name build_rule (holds_fork e) (none_unrecorded u rules env of n is) is
              (no_fork rules holds_fork tells e (never_forks is))
          by true is =
              let row = row_of_recorded u rules env of n is in
              raw_recorded rules u p small env name matchers n shut.says matchers_known shut.plain (said_known u name matchers n known shut.says) shape_is (Reads rules e) reads_name build_rule (holds_fork e) row.0 row.1 is
              (named_row u env n row.0 of.environment.rows row.1).0 into (name_class u rules p small env holds_fork tells covers unnamed of union closed n row.0 row.1) (names.built n selects is shut.acyclic)
              name_forks (λ fork. shut.unmatched ((tells e).0 fork))

    -- ---- operators

    raw_less : (row : Sets) (Read : MetricNames) (count most : ℕ) (f : List Labels → Outcomes) (b : Builder) (fork silent : Bool) → count ≡ most → IsRaw u rules row Read count f b fork silent → IsRaw u rules row Read most f b fork silent
    raw_less row Read count most f b fork silent e raw = subst (λ k. IsRaw u rules row Read k f b fork silent) e raw

    module _ (op : Op) (m : Matching) (left right : Tree) (span : Span) (known : AllKnown u (modifier_mentions m)) where
      abbrev whole : Tree
      whole = Binary op m left right span

      abbrev bl : Builder
      bl = build u env rules holds_fork left (builder u env rules holds_fork build_rule left)

      abbrev br : Builder
      br = build u env rules holds_fork right (builder u env rules holds_fork build_rule right)

      abbrev RawBinary : Bool → Bool → Type 0
      RawBinary x y =
          IsRaw u rules (binary_row u op m x y (row_of u env left) (row_of u env right)) (Reads rules whole) (length (selectors whole)) (λ X. StrictBinary op m x y (StrictlyEvaluates X left) (StrictlyEvaluates X right))
          (build_binary u op m x y (row_of u env left) (row_of u env right) bl br) (holds_fork whole) (binary_can_be_silent x y (can_be_silent left) (can_be_silent right))

      module _ (is : is_scalar_part whole ≡ false) where
        sides_are : selectors whole ≡ selectors left ++ selectors right
        sides_are = ap (λ b. cond b [] (selectors_in whole)) is

        left_part : IsPart rules left whole
        left_part =
            part_of rules left whole is (λ o c. Contains-append_left (selectors left) (selectors right) o c)
            (λ f. or_right (Rattle.lf_trials.specs.Forks.is_or op) _ (or_left (has_own_fork rules left) (has_own_fork rules right) f)) (let h = length-append (selectors left) (selectors right) in omega (arith, h))

        right_part : IsPart rules right whole
        right_part =
            part_of rules right whole is (λ o c. Contains-append_right (selectors left) (selectors right) o c)
            (λ f. or_right (Rattle.lf_trials.specs.Forks.is_or op) _ (or_right (has_own_fork rules left) (has_own_fork rules right) f)) (let h = length-append (selectors left) (selectors right) in omega (arith, h))

        module _ (of_left : Made left) (of_right : Made right) where
          left_alone : IsRaw u rules (Rattle.lf_semantics.specs.RowTable.beside_scalar_row u (is_filter op m) (row_of u env left)) (Reads rules whole) (length (selectors whole)) (λ X. Rattle.lf_witness.specs.Strict.StrictBesideScalar (is_filter op m) (StrictlyEvaluates X left))
              (Rattle.lf_trials.specs.Operands.build_nameless_if (not (is_filter op m)) bl) (holds_fork whole) (can_be_silent left)
          left_alone = raw_beside u rules p small (Reads rules whole) (length (selectors whole)) (row_of u env left) (λ X. StrictlyEvaluates X left) bl (holds_fork whole) (can_be_silent left) (operand left whole left_part of_left) (is_filter op m)

          right_alone : IsRaw u rules (Rattle.lf_semantics.specs.RowTable.beside_scalar_row u (is_filter op m) (row_of u env right)) (Reads rules whole) (length (selectors whole)) (λ X. Rattle.lf_witness.specs.Strict.StrictBesideScalar (is_filter op m) (StrictlyEvaluates X right))
              (Rattle.lf_trials.specs.Operands.build_nameless_if (not (is_filter op m)) br) (holds_fork whole) (can_be_silent right)
          right_alone = raw_beside u rules p small (Reads rules whole) (length (selectors whole)) (row_of u env right) (λ X. StrictlyEvaluates X right) br (holds_fork whole) (can_be_silent right) (operand right whole right_part of_right) (is_filter op m)

          module _ (fit : OperatorIsClosed rules op whole left right) where
            abbrev Fits : Op → Type 0
            Fits o =
                SidesFit u p rules small (Reads rules left) (Reads rules right) (Reads rules whole) (reads_more rules left whole left_part.selects) (reads_more rules right whole right_part.selects) fit.0 (row_of u env left) (row_of u env right) (length (selectors left)) (length (selectors right))
                (λ X. StrictlyEvaluates X left) (λ X. StrictlyEvaluates X right) bl br (holds_fork left) (holds_fork right) (can_be_silent left) (can_be_silent right) of_left of_right (holds_fork whole) m (on_known u p m known) (ignoring_known u p m known) (include_known u p m known) o

            none_on : HoldsNoFork rules whole → (holds_fork left ≡ false) × (holds_fork right ≡ false)
            none_on none =
                let e = no_fork rules holds_fork tells whole none in
                (part_forks rules holds_fork tells left whole left_part e, part_forks rules holds_fork tells right whole right_part e)

            fits : (o : Op) → op ≡ o → SidesAreClosed rules o whole left right → Fits o
            fits Or e sides = ((tells whole).1 (inl (ap (λ b. not b && fork_in rules whole) is ∙ or_left (Rattle.lf_trials.specs.Forks.is_or op) _ (ap Rattle.lf_trials.specs.Forks.is_or e))), sides.0, sides.1)
            fits Unless e sides = ((none_on sides.0).0, sides.1)
            fits And e sides = none_on sides
            fits Add e sides = none_on sides
            fits Subtract e sides = none_on sides
            fits Multiply e sides = none_on sides
            fits Divide e sides = none_on sides
            fits Modulo e sides = none_on sides
            fits Power e sides = none_on sides
            fits Atan2 e sides = none_on sides
            fits Equal e sides = none_on sides
            fits NotEqual e sides = none_on sides
            fits LessOrEqual e sides = none_on sides
            fits Less e sides = none_on sides
            fits GreaterOrEqual e sides = none_on sides
            fits Greater e sides = none_on sides

            both_sides : RawBinary false false
            both_sides =
                raw_less _ (Reads rules whole) (length (selectors left) + length (selectors right)) (length (selectors whole)) _ _ _ _
                (sym (ap (λ (xs : List (Option Bytes)). length xs) sides_are ∙ length-append (selectors left) (selectors right)))
                (raw_operator u p rules small (Reads rules left) (Reads rules right) (Reads rules whole) (reads_more rules left whole left_part.selects) (reads_more rules right whole right_part.selects) fit.0 (row_of u env left) (row_of u env right) (length (selectors left)) (length (selectors right))
                (λ X. StrictlyEvaluates X left) (λ X. StrictlyEvaluates X right) bl br (holds_fork left) (holds_fork right) (can_be_silent left) (can_be_silent right) of_left of_right (holds_fork whole) m (on_known u p m known) (ignoring_known u p m known) (include_known u p m known) op (fits op refl fit.1))

          raw_binary : UnlessScalar left (UnlessScalar right (OperatorIsClosed rules op whole left right)) → Raw whole
          raw_binary shut = by (is_scalar_part left) refl (is_scalar_part right) refl shut
            where
              by : (x : Bool) → is_scalar_part left ≡ x → (y : Bool) → is_scalar_part right ≡ y → UnlessScalar left (UnlessScalar right (OperatorIsClosed rules op whole left right)) → RawBinary x y
              by true a true b shut = bare_raw u rules p small _ _ _
              by false a true b shut = left_alone
              by true a false b shut = right_alone
              by false a false b (inl e) = absurd (clash _ e a)
              by false a false b (inr (inl e)) = absurd (clash _ e b)
              by false a false b (inr (inr fit)) = both_sides fit

    -- ---- functions and aggregations

    module _ (e : Tree) (is : is_scalar_part e ≡ false) (args : Trees) (selects_args : selectors_in e ≡ arguments_selectors args) (forks_args : fork_in rules e ≡ Rattle.lf_trials.specs.Forks.fork_in_arguments rules args)
        (matched_args : selected_in e ≡ selected_in_arguments args) where
      argument_of : (k : ℕ) (x : Tree) → argument_at args k ≡ Some x → IsPart rules x e
      argument_of k x at =
          let a : IsArgument rules x args = argument_part rules args k x at in
          part_of rules x e is (λ o c. subst (λ xs. Contains xs o) (sym selects_args) (a.selects o c)) (λ f. forks_args ∙ a.forks f)
          (let h = ap (λ (xs : List (Option Bytes)). length xs) selects_args in let g = a.fewer in omega (arith, h, g))

      matches_of : (k : ℕ) (x : Tree) → argument_at args k ≡ Some x → (s : Selected) → Contains (selectors_of x) s → Contains (selectors_of e) s
      matches_of k x at s c = subst (λ b. Contains (cond b [] (selected_in e)) s) (sym is) (subst (λ xs. Contains xs s) (sym matched_args) (matched_argument args k x at s c))

      abbrev ArgumentMade : ℕ → Type 0
      ArgumentMade k = IsMade u rules (row_at u env args k) (Reads rules e) (length (selectors e)) (λ X. ArgumentStrictlyEvaluates X args k) (argument_builder u env rules holds_fork build_rule args k) (holds_fork e) (argument_can_be_silent args k)

      -- the last bucket of an argument
      last_at : (NamesBucket rules e → ⊥) → (xs : Trees) → AllKnown u (arguments_mentions xs) → ArgumentsAreClosed rules xs
          → ((k : ℕ) (x : Tree) → argument_at xs k ≡ Some x → (NamesBucket rules x → ⊥) × ((r : RuleTree) → Contains rules r → Reaches rules x r → IsClosed rules r.expr)) → (k : ℕ) → is_live (row_at u env xs k) ≡ true → may_be_present u (row_at u env xs k) (codes "le") ≡ true
          → HoldsText u (row_at u env xs k) (codes "le") (codes "+Inf")
      last_at none Nil known shut each k live present = absurd (clash _ live (bottom_dead u p))
      last_at none (Next x xs) known shut each zero live present =
          let at = each 0 x refl in last x (all_front (IsKnown u) (mentions x) (arguments_mentions xs) known) (record { own = shut.0; read = at.1 }) at.0 live present
      last_at none (Next x xs) known shut each (suc k) live present = last_at none xs (all_back (IsKnown u) (mentions x) (arguments_mentions xs) known) shut.1 (λ j y at. each (suc j) y at) k live present

      raw_call : (o : Option Signature) (grouping : Grouping) → AreKnown u (group_names grouping) → AllKnown u (call_mentions o (texts_of args) (arguments_mentions args)) → AllKnown u (arguments_mentions args) → ArgumentsAreClosed rules args → ((r : RuleTree) → Contains rules r → Reaches rules e r → IsClosed rules r.expr) → CallIsClosed rules o e args → ((k : ℕ) → ArgumentMade k)
          → IsRaw u rules (call_row u o grouping args (row_at u env args)) (Reads rules e) (length (selectors e)) (λ X. StrictCall o grouping args (ArgumentStrictlyEvaluates X args)) (build_call o grouping args (argument_builder u env rules holds_fork build_rule args)) (holds_fork e)
          (call_can_be_silent o args (argument_can_be_silent args))
      raw_call None grouping groups known inner each read shut made = dead_raw _ _ _ _ _
      raw_call (Some s) grouping groups known inner each read shut made =
          let k = operand_place s in
          raw_effect u rules p small (Reads rules e) (length (selectors e)) (row_at u env args k) (λ X. ArgumentStrictlyEvaluates X args k) (argument_builder u env rules holds_fork build_rule args k) (holds_fork e) (argument_can_be_silent args k) (made k) s.labels grouping args groups
          (first_sought u args inner) (by s.labels known shut)
        where
          by : (effect : LabelEffect) → AllKnown u (effect_mentions effect (texts_of args) (arguments_mentions args)) → EffectIsClosed rules effect e args (operand_place s)
              → EffectFits u rules p small (Reads rules e) (length (selectors e)) (row_at u env args (operand_place s)) (λ X. ArgumentStrictlyEvaluates X args (operand_place s)) (argument_builder u env rules holds_fork build_rule args (operand_place s)) (holds_fork e) (argument_can_be_silent args (operand_place s)) (made (operand_place s)) effect args
          by CountValues known shut = shut
          by LabelReplace known shut = shut
          by LabelJoin known shut = shut
          by HistogramQuantile known shut = (
            last_at shut.1 args inner each
                (λ k x at. ((λ bucket. shut.1 (bucket_more rules x e (argument_of k x at) (matches_of k x at) bucket)), λ r c reach. read r c (reach.0, reads_more rules x e (argument_of k x at).selects r.name reach.1))) (operand_place s),
            known.0.0,
            no_fork rules holds_fork tells e shut.0,
          )
          by Absent known shut = shut
          by Maps known shut = tt
          by Keeps known shut = tt
          by Groups known shut = tt
          by Date known shut = tt
          by Bare known shut = tt

    -- ---- each expression

    by_sub : (x e : Tree) → is_scalar_part e ≡ false → selectors x ≡ selectors_in e → has_own_fork rules x ≡ fork_in rules e → IsPart rules x e
    by_sub x e is s f = same_part rules x e is s f

    part_names : (x e : Tree) → IsPart rules x e → NamesBuilt e → NamesBuilt x
    part_names x e part names = record {
      built = λ n c. names.built n (part.selects (Some n) c);
      read = λ r c reach. names.read r c (reach.0, reads_more rules x e part.selects r.name reach.1);
    }

    mutual
      pub raw : (e : Tree) → is_scalar_part e ≡ false → Covers u e → IsClosedIn rules e → NamesBuilt e → Raw e
      raw (Number text span) is known shut names = absurd (cc)
      raw (Str text span) is known shut names = dead_raw _ _ _ _ _
      raw (Selector name matchers sight span) is known shut names = raw_selector name matchers sight span known shut names
      raw (Subquery of sight span) is known shut names =
          let part = by_sub of (Subquery of sight span) is refl refl in
          same of (Subquery of sight span) (operand of (Subquery of sight span) part (from_raw of (λ s c. raw of s known c (part_names of (Subquery of sight span) part names)) shut))
      raw (Paren of span) is known shut names =
          let part = by_sub of (Paren of span) is refl refl in
          same of (Paren of span) (operand of (Paren of span) part (from_raw of (λ s c. raw of s known c (part_names of (Paren of span) part names)) shut))
      raw (Unary minus of span) is known shut names =
          let e = Unary minus of span in
          let part = by_sub of e is refl refl in
          raw_sign u rules p small (Reads rules e) (length (selectors e)) (row_of u env of) (λ X. StrictlyEvaluates X of) (build u env rules holds_fork of (builder u env rules holds_fork build_rule of)) (holds_fork e) (can_be_silent of)
          (operand of e part (from_raw of (λ s c. raw of s known c (part_names of e part names)) shut)) minus
      raw (Binary op m left right span) is known shut names =
          let behind = all_back (IsKnown u) (mentions left) _ known in
          raw_binary op m left right span (all_front (IsKnown u) (modifier_mentions m) (mentions right) behind) is
          (from_raw left (λ s c. raw left s (all_front (IsKnown u) (mentions left) _ known) c (part_names left (Binary op m left right span) (left_part op m left right span (all_front (IsKnown u) (modifier_mentions m) (mentions right) behind) is) names)) shut.0)
          (from_raw right (λ s c. raw right s (all_back (IsKnown u) (modifier_mentions m) (mentions right) behind) c (part_names right (Binary op m left right span) (right_part op m left right span (all_front (IsKnown u) (modifier_mentions m) (mentions right) behind) is) names)) shut.1)
          shut.2
      raw (Call name args span) is known shut names =
          let e = Call name args span in
          let inner = call_operands u (function_named name) args known in
          raw_call e is args refl refl refl (function_named name) Ungrouped tt known inner shut.0 names.read shut.1 (arguments e args inner shut.0 (argument_of e is args refl refl refl) names)
      raw (Aggregate op grouping args span) is known shut names =
          let e = Aggregate op grouping args span in
          let parts = grouped_known u (stands_first (group_names grouping) args) (names_mentions (group_names grouping)) (effect_mentions (aggregation op).labels (texts_of args) (arguments_mentions args)) known in
          let inner = operands_known u (aggregation op).labels (texts_of args) (arguments_mentions args) parts.1 in
          raw_call e is args refl refl refl (Some (aggregation op)) grouping parts.0 parts.1 inner shut.0 names.read shut.1 (arguments e args inner shut.0 (argument_of e is args refl refl refl) names)

      pub arguments : (e : Tree) (args : Trees) → AllKnown u (arguments_mentions args) → ArgumentsAreClosed rules args → ((k : ℕ) (x : Tree) → argument_at args k ≡ Some x → IsPart rules x e) → NamesBuilt e → (k : ℕ)
          → IsMade u rules (row_at u env args k) (Reads rules e) (length (selectors e)) (λ X. ArgumentStrictlyEvaluates X args k) (argument_builder u env rules holds_fork build_rule args k) (holds_fork e) (argument_can_be_silent args k)
      arguments e Nil known shut parts names k = dead _ _ _ _ _
      arguments e (Next x xs) known shut parts names zero =
          operand x e (parts 0 x refl) (from_raw x (λ s c. raw x s (all_front (IsKnown u) (mentions x) (arguments_mentions xs) known) c (part_names x e (parts 0 x refl) names)) shut.0)
      arguments e (Next x xs) known shut parts names (suc k) = arguments e xs (all_back (IsKnown u) (mentions x) (arguments_mentions xs) known) shut.1 (λ j y at. parts (suc j) y at) names k

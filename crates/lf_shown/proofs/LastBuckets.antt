-- Rows beneath which no matcher and no rule's label names `le`: one that holds a text of `le` holds `+Inf`.
use Rattle.std.proofs.Common.{◌≡◌, inl, inr, ℕ, zero, suc, Bool, true, false, not, ◌&&◌, ◌||◌, cond, eqb, List, [], ◌∷◌, ◌++◌, map, Option, Some, None, refl, sym, ◌∙◌, ap, subst, arith, codes}
use Rattle.std.proofs.lemmas.Bool.{not-true, or_parts}
use Rattle.std.specs.List.{AllByRecursion, Contains, filter, list_any}
use Rattle.std.specs.Str.{bytes_eq}
use Rattle.std.proofs.lemmas.Bool.{or_cases}
use Rattle.std.specs.Prelude.{is_some}
use Rattle.std.proofs.lemmas.List.Elements.{Contains-append_left, Contains-append_right}
use Rattle.lf_laws.proofs.Booleans.{and_left, and_right, clash}
use Rattle.lf_laws.proofs.Members.{here}
use Rattle.std.proofs.lemmas.Option.{same_Some}
use Rattle.lf_ast.specs.Arguments.{texts_of}
use Rattle.lf_ast.specs.Functions.{Signature, aggregation, function_named}
use Rattle.lf_ast.specs.Labels.{Bytes}
use Rattle.lf_ast.specs.Rules.{RuleTree}
use Rattle.lf_ast.specs.Selectors.{metric, selected_name}
use Rattle.lf_ast.specs.Tree.{Tree, Trees, Number, Str, Selector, Subquery, Paren, Unary, Binary, Call, Aggregate, Nil, Next}
use Rattle.lf_ast.specs.Types.{is_scalar}
use Rattle.lf_ast.specs.declared.expr.Group.{Group}
use Rattle.lf_ast.specs.declared.expr.Group.TheVariants.{One, Left, Right}
use Rattle.lf_ast.specs.declared.expr.Grouping.{Grouping}
use Rattle.lf_ast.specs.declared.expr.Grouping.TheVariants.{None as Ungrouped}
use Rattle.lf_ast.specs.declared.expr.Matcher.{Matcher}
use Rattle.lf_ast.specs.declared.expr.Matching.{Matching}
use Rattle.lf_ast.specs.declared.expr.Name.{Name}
use Rattle.lf_ast.specs.declared.expr.Op.{Op}
use Rattle.lf_ast.specs.declared.expr.Op.TheVariants.{Add, Subtract, Multiply, Divide, Modulo, Power, Atan2, Equal, NotEqual, LessOrEqual, Less, GreaterOrEqual, Greater, And, Or, Unless}
use Rattle.lf_ast.specs.declared.functions.LabelEffect.{LabelEffect}
use Rattle.lf_ast.specs.declared.functions.LabelEffect.TheVariants.{Maps, Keeps, Groups, CountValues, Date, Absent, LabelReplace, LabelJoin, HistogramQuantile, Bare}
use Rattle.lf_ast.specs.declared.rule.RuleLabel.{RuleLabel}
use Rattle.lf_semantics.specs.ClassRows.{HasShape, Sets, bottom, holds, is_live, join, narrowed, only_empty, replaced, top}
use Rattle.lf_semantics.specs.Environments.{Covers, IsEnvironment, IsKnown, recorded_row, rule_row, with_text, with_texts}
use Rattle.lf_semantics.specs.Grouped.{is_arithmetic, is_filter}
use Rattle.lf_semantics.specs.Listing.{IsListing, Listing, class_of, label_of}
use Rattle.lf_semantics.specs.Mentions.{arguments_mentions, effect_mentions, group_names, matchers_mentions, mention, mentions, modifier_mentions, name_mentions, names_mentions, rule_mentions, stands_first}
use Rattle.lf_semantics.specs.Parts.{Sought, is_evaluated, is_scalar_part, operand_place, sought_by, sought_in, type_by_form}
use Rattle.lf_semantics.specs.RowTable.{Environment, absent_row, bare_row, beside_scalar_row, binary_row, call_row, combined_row, effect_row, is_label, is_label_among, is_metric_label, is_sought, keeps_label, many_to_one_row, matched_row, may_be_present, nameless_if, paired_row, passes_matchers, quantile_row, row_at, row_named, row_of, row_or_series, scraped_row, seen_row, series_row, sign_row, signs_label, taken_row}
use Rattle.lf_semantics.specs.Strings.{absent_texts}
use Rattle.lf_semantics.proofs.Constructs.{operands_known}
use Rattle.lf_semantics.proofs.LeqLaws.{bottom_dead, leq_join_left, leq_join_right}
use Rattle.lf_semantics.proofs.Members.{all_back, all_front}
use Rattle.lf_semantics.proofs.Places.{label_test, metric_listed}
use Rattle.lf_semantics.proofs.PairsRepresent.{shape_matched, shape_nameless_if}
use Rattle.lf_semantics.proofs.PartsCovered.{call_operands}
use Rattle.lf_semantics.proofs.RowLaws.{in_range, holds-remade, top_holds}
use Rattle.lf_semantics.proofs.Soundness.{first_sought, grouped_known, shape_of_row}
use Rattle.lf_semantics.proofs.ScalarCalls.{IsBareIfScalar, named_is_bare, selector_is_no_scalar}
use Rattle.lf_deps.specs.Reading.{selectors, selectors_in}
use Rattle.lf_trials.specs.Built.{sets_label}
use Rattle.lf_shown.proofs.Rows.{Held, in_narrowed, in_replaced, join_held, narrowed_held, narrowed_passes, narrowed_was_live, replaced_held, replaced_passes, replaced_was_live}

abbrev le : Bytes
le = codes "le"

abbrev inf : Bytes
inf = codes "+Inf"

-- ---- rows

module _ (u : Listing) where
  abbrev l : ℕ
  l = label_of u le

  -- a row that holds a text of `le` holds `+Inf`
  abbrev pub HasLast : Sets → Type 0
  HasLast row = is_live row ≡ true → (c : ℕ) → Held row (label_of u (codes "le")) c → eqb c 0 ≡ false → Held row (label_of u (codes "le")) (class_of u (label_of u (codes "le")) (codes "+Inf"))

  abbrev last_class : ℕ
  last_class = class_of u (label_of u (codes "le")) (codes "+Inf")

  module _ (p : IsListing u) where
    last_bottom : HasLast (bottom u)
    last_bottom live = absurd (clash _ live (bottom_dead u p))

    last_top : HasLast (top u)
    last_top live c held some = top_holds u p le inf

    last_replaced : (chosen : ℕ → Bool) (test : ℕ → ℕ → Bool) (row : Sets) → chosen l ≡ false → HasLast row → HasLast (replaced chosen test row)
    last_replaced chosen test row other last live c held some =
        in_replaced chosen test row live l last_class (last (replaced_was_live chosen test row live) c (replaced_held chosen test row live l c held other) some) (λ e. absurd (clash _ e other))

    last_only_empty : (chosen : ℕ → Bool) (row : Sets) → HasLast row → HasLast (only_empty chosen row)
    last_only_empty chosen row last = by (chosen l) refl
      where
        by : (b : Bool) → chosen l ≡ b → HasLast (only_empty chosen row)
        by true is = λ live c held some. absurd (clash _ (replaced_passes chosen (λ l c. eqb c 0) row live l c held is) some)
        by false is = last_replaced chosen (λ l c. eqb c 0) row is last

    last_narrowed : (test : ℕ → ℕ → Bool) (row : Sets) → ((c : ℕ) → Held row l c → test l c ≡ true → eqb c 0 ≡ false → test l last_class ≡ true) → HasLast row → HasLast (narrowed test row)
    last_narrowed test row passes last live c held some =
        let before = narrowed_held test row live l c held in
        in_narrowed test row live l last_class (last (narrowed_was_live test row live) c before some) (passes c before (narrowed_passes test row live l c held) some)

    last_join : (row other : Sets) → HasShape u row → HasShape u other → HasLast row → HasLast other → HasLast (join row other)
    last_join row other s t a b live c held some = elim (join_held row other live l c held) [
      | inl x ↦ (leq_join_left u row other s t x.0).1 l last_class (a x.0 c x.1 some)
      | inr y ↦ (leq_join_right u row other s t y.0).1 l last_class (b y.0 c y.1 some)
    ]

    last_if : (b : Bool) (row other : Sets) → HasLast row → HasLast other → HasLast (cond b row other)
    last_if true row other h k = h
    last_if false row other h k = k

    last_bare : HasLast (bare_row u)
    last_bare = last_only_empty (λ label. true) (top u) last_top

    last_nameless_if : (drops : Bool) (row : Sets) → HasLast row → HasLast (nameless_if u drops row)
    last_nameless_if true row last = last_only_empty (is_metric_label u) row last
    last_nameless_if false row last = last

    -- `le` isn't the name
    no_metric : is_metric_label u l ≡ false
    no_metric = label_test u metric le (metric_listed u p)

    last_series : (name : Bytes) → HasLast (series_row u name)
    last_series name = last_if (bytes_eq name []) (bottom u) _ last_bottom (last_replaced (is_metric_label u) (λ label class. eqb class (class_of u label name)) (top u) no_metric last_top)

    last_scraped : (env : Environment) → HasLast (scraped_row u env)
    last_scraped env = last_replaced (is_metric_label u) (λ label class. not (eqb class 0) && not (Rattle.lf_semantics.specs.RowTable.is_recorded u env label class)) (top u) no_metric last_top

    -- ---- operators

    last_taken : (one : Sets) (names : List Name) (row : Sets) → HasShape u row → HasLast one → HasLast row → HasLast (taken_row u one names row)
    last_taken one names row shape a b = by (is_live one) refl
      where
        chosen : ℕ → Bool
        chosen = is_label_among u names

        taken : is_live one ≡ true → (k : Bool) → is_label_among u names l ≡ k → HasLast (replaced (is_label_among u names) (holds one) row)
        taken is true e = λ live c held some.
            let w = in_range u p row le inf shape in
            let k : Held one l last_class = a is c (replaced_passes (is_label_among u names) (holds one) row live l c held e) some in
            subst (λ x. Held x l last_class) (sym (Rattle.lf_shown.proofs.Rows.replaced_is (is_label_among u names) (holds one) row live))
            (holds-remade (λ l c on. cond (is_label_among u names l) (holds one l c) on) row l last_class w.0 w.1 ∙ ap (λ b. cond b (holds one l last_class) (holds row l last_class)) e ∙ k)
        taken is false e = last_replaced (is_label_among u names) (holds one) row e b

        by : (k : Bool) → is_live one ≡ k → HasLast (cond k (replaced (is_label_among u names) (holds one) row) (bottom u))
        by true is = taken is (is_label_among u names l) refl
        by false is = last_bottom

    last_matched : (m : Matching) (row other : Sets) → HasLast row → HasLast other → HasLast (matched_row u m row other)
    last_matched m row other a b = by (is_live other) refl
      where
        by : (k : Bool) → is_live other ≡ k → HasLast (cond k (narrowed (λ label class. not (signs_label u m label) || holds other label class) row) (bottom u))
        by false is = last_bottom
        by true is = last_narrowed (λ label class. not (signs_label u m label) || holds other label class) row (λ c held passes some. signed (signs_label u m l) c passes some) a
          where
            signed : (k : Bool) (c : ℕ) → (not k || holds other l c) ≡ true → eqb c 0 ≡ false → (not k || holds other l last_class) ≡ true
            signed true c passes some = b is c passes some
            signed false c passes some = refl

    last_many : (op : Op) (m : Matching) (many one : Sets) → HasShape u many → HasLast many → HasLast one → HasLast (many_to_one_row u op m many one)
    last_many op m many one shape a b =
        last_nameless_if m.bool_mod _ (last_taken one m.include (nameless_if u (is_arithmetic op) many) (shape_nameless_if u p (is_arithmetic op) many shape) b (last_nameless_if (is_arithmetic op) many a))

    last_paired : (g : Group) (op : Op) (m : Matching) (left right : Sets) → HasShape u left → HasShape u right → HasLast left → HasLast right → HasLast (paired_row u g op m left right)
    last_paired One op m left right s t a b = last_only_empty (λ label. not (keeps_label u op m label)) left a
    last_paired Left op m left right s t a b = last_many op m left right s a b
    last_paired Right op m left right s t a b = last_many op m right left t b a

    module _ (m : Matching) (left right : Sets) (s : HasShape u left) (t : HasShape u right) (a : HasLast left) (b : HasLast right) where
      pairs : (op : Op) → HasLast (paired_row u m.group op m (matched_row u m left right) (matched_row u m right left))
      pairs op = last_paired m.group op m (matched_row u m left right) (matched_row u m right left) (shape_matched u p m left right s) (shape_matched u p m right left t) (last_matched m left right a b) (last_matched m right left b a)

      last_combined : (op : Op) → HasLast (combined_row u op m left right)
      last_combined And = last_matched m left right a b
      last_combined Or = last_join left right s t a b
      last_combined Unless = a
      last_combined Add = pairs Add
      last_combined Subtract = pairs Subtract
      last_combined Multiply = pairs Multiply
      last_combined Divide = pairs Divide
      last_combined Modulo = pairs Modulo
      last_combined Power = pairs Power
      last_combined Atan2 = pairs Atan2
      last_combined Equal = pairs Equal
      last_combined NotEqual = pairs NotEqual
      last_combined LessOrEqual = pairs LessOrEqual
      last_combined Less = pairs Less
      last_combined GreaterOrEqual = pairs GreaterOrEqual
      last_combined Greater = pairs Greater

    last_beside : (filters : Bool) (row : Sets) → HasLast row → HasLast (beside_scalar_row u filters row)
    last_beside true row a = a
    last_beside false row a = last_only_empty (is_metric_label u) row a

    last_sign : (minus : Bool) (row : Sets) → HasLast row → HasLast (sign_row u minus row)
    last_sign true row a = last_only_empty (is_metric_label u) row a
    last_sign false row a = a

    -- ---- matchers on other labels

    abbrev pub OnOthers : List Matcher → Type 0
    OnOthers matchers = list_any (λ (m : Matcher). bytes_eq m.label (codes "le")) matchers ≡ false

    passes_le : (matchers : List Matcher) → AllByRecursion (IsKnown u) (matchers_mentions matchers) → OnOthers matchers → (c : ℕ) → passes_matchers u matchers l c ≡ true
    passes_le [] known others c = refl
    passes_le (m ∷ matchers) known others c =
        let b = or_parts (bytes_eq m.label le) _ others in
        rw (label_test u m.label le known.0.0 ∙ b.0, passes_le matchers known.1 b.1 c) refl

    none_on : (matchers : List Matcher) → AllByRecursion (IsKnown u) (matchers_mentions matchers) → OnOthers matchers → filter (λ m. is_label u m.label l) matchers ≡ []
    none_on [] known others = refl
    none_on (m ∷ matchers) known others =
        let b = or_parts (bytes_eq m.label le) _ others in
        rw (label_test u m.label le known.0.0 ∙ b.0, none_on matchers known.1 b.1) refl

    -- `absent` gives no `le` where no matcher names it
    last_absent : (o : Option Sought) → ((s : Sought) → o ≡ Some s → AllByRecursion (IsKnown u) (matchers_mentions s.matchers) × OnOthers s.matchers) → HasLast (absent_row u o)
    last_absent None known = last_bare
    last_absent (Some s) known = λ live c held some.
        let k = known s refl in
        let passes : is_sought u s l c ≡ true = replaced_passes (λ label. true) (is_sought u s) (top u) live l c held refl in
        let texts = cond (is_metric_label u l) ([] ∷ []) (absent_texts (filter (λ m. is_label u m.label l) s.matchers)) in
        let only : texts ≡ [] ∷ [] = ap (λ b. cond b ([] ∷ []) (absent_texts (filter (λ m. is_label u m.label l) s.matchers))) no_metric ∙ ap absent_texts (none_on s.matchers k.0 k.1) in
        elim (or_cases (s.may_be_bare && eqb c 0) (list_any (λ text. eqb (class_of u l text) c) texts) passes) [
          | inl e ↦ absurd (clash _ (and_right s.may_be_bare (eqb c 0) e) some)
          | inr e ↦ absurd (clash _ (zero_class c (subst (λ xs. list_any (λ text. eqb (class_of u l text) c) xs ≡ true) only e)) some)
        ]
      where
        zero_class : (c : ℕ) → (eqb 0 c || false) ≡ true → eqb c 0 ≡ true
        zero_class c e = grind arith

    -- ---- which expressions leave `le` alone

    -- no matcher names `le`, and no label is made by strings
    abbrev pub leaves_le : LabelEffect → Bool
    leaves_le CountValues = false
    leaves_le LabelReplace = false
    leaves_le LabelJoin = false
    leaves_le _ = true

    abbrev pub call_leaves : Option Signature → Bool
    call_leaves None = true
    call_leaves (Some s) = leaves_le s.labels

    abbrev beyond_scalar : Tree → Bool → Bool
    beyond_scalar e found = is_scalar_part e || found

    abbrev mutual
      pub is_clean_in : Tree → Bool
      is_clean_in (Number text span) = true
      is_clean_in (Str text span) = true
      is_clean_in (Selector name matchers sight span) = is_some (selected_name name matchers) && not (list_any (λ (m : Matcher). bytes_eq m.label (codes "le")) matchers)
      is_clean_in (Subquery of sight span) = beyond_scalar of (is_clean_in of)
      is_clean_in (Paren of span) = beyond_scalar of (is_clean_in of)
      is_clean_in (Unary minus of span) = beyond_scalar of (is_clean_in of)
      is_clean_in (Binary op m left right span) = beyond_scalar left (is_clean_in left) && beyond_scalar right (is_clean_in right)
      is_clean_in (Call name args span) = call_leaves (function_named name) && are_clean args
      is_clean_in (Aggregate op grouping args span) = leaves_le (aggregation op).labels && are_clean args

      pub are_clean : Trees → Bool
      are_clean Nil = true
      are_clean (Next x xs) = beyond_scalar x (is_clean_in x) && are_clean xs

    abbrev pub is_clean : Tree → Bool
    is_clean e = beyond_scalar e (is_clean_in e)

    -- ---- scalars have no label

    bare_call : (o : Option Signature) → ((s : Signature) → o ≡ Some s → IsBareIfScalar s) → is_scalar (Rattle.lf_semantics.specs.Parts.given_by o) ≡ true → (grouping : Grouping) (args : Trees) (rows : ℕ → Sets) → HasLast (call_row u o grouping args rows)
    bare_call None bare e grouping args rows = absurd (cc)
    bare_call (Some s) bare e grouping args rows = subst (λ (effect : LabelEffect). HasLast (effect_row u effect grouping args (rows (Rattle.lf_semantics.specs.Parts.operand_place s)))) (sym (bare s refl e)) last_bare

    bare_binary : (op : Op) (m : Matching) (x y : Bool) → is_scalar (cond (x && y) Rattle.lf_ast.specs.declared.expr.ExprType.TheVariants.Scalar Rattle.lf_ast.specs.declared.expr.ExprType.TheVariants.Vector) ≡ true → (left right : Sets) → HasLast (binary_row u op m x y left right)
    bare_binary op m true true e left right = last_bare
    bare_binary op m true false e left right = absurd (cc)
    bare_binary op m false true e left right = absurd (cc)
    bare_binary op m false false e left right = absurd (cc)

    scalar_last : (env : Environment) (e : Tree) → is_scalar_part e ≡ true → HasLast (row_of u env e)
    scalar_last env (Number text span) is = last_bare
    scalar_last env (Str text span) is = absurd (cc)
    scalar_last env (Selector name matchers sight span) is = absurd (clash _ is (selector_is_no_scalar sight.range))
    scalar_last env (Subquery of sight span) is = absurd (cc)
    scalar_last env (Paren of span) is = scalar_last env of is
    scalar_last env (Unary minus of span) is = last_sign minus (row_of u env of) (scalar_last env of is)
    scalar_last env (Binary op m left right span) is = bare_binary op m (is_scalar_part left) (is_scalar_part right) is (row_of u env left) (row_of u env right)
    scalar_last env (Call name args span) is = bare_call (function_named name) (named_is_bare name) is Ungrouped args (row_at u env args)
    scalar_last env (Aggregate op grouping args span) is = absurd (cc)

    -- ---- the matchers that `absent` looks for

    or_false_left : (a b : Bool) → (a || b) ≡ true → a ≡ false → b ≡ true
    or_false_left true b e f = absurd (cc)
    or_false_left false b e f = e

    abbrev CleanSought : Option Sought → Type 0
    CleanSought o = (s : Sought) → o ≡ Some s → OnOthers s.matchers

    within_parentheses : (o : Option Sought) → CleanSought o → CleanSought (Rattle.std.specs.Prelude.option_map (λ sought. record { matchers = sought.matchers; may_be_bare = true }) o)
    within_parentheses None clean = λ s e. absurd (cc)
    within_parentheses (Some t) clean = λ s e. subst (λ (x : Sought). OnOthers x.matchers) (same_Some _ s e) (clean t refl)

    scalar_seeks : (e : Tree) → is_scalar_part e ≡ true → CleanSought (sought_by e)
    scalar_seeks (Selector name matchers sight span) is = absurd (clash _ is (selector_is_no_scalar sight.range))
    scalar_seeks (Paren of span) is = within_parentheses (sought_by of) (scalar_seeks of is)
    scalar_seeks (Number text span) is = λ s e. absurd (cc)
    scalar_seeks (Str text span) is = λ s e. absurd (cc)
    scalar_seeks (Subquery of sight span) is = λ s e. absurd (cc)
    scalar_seeks (Unary minus of span) is = λ s e. absurd (cc)
    scalar_seeks (Binary op m left right span) is = λ s e. absurd (cc)
    scalar_seeks (Call name args span) is = λ s e. absurd (cc)
    scalar_seeks (Aggregate op grouping args span) is = λ s e. absurd (cc)

    clean_seeks : (e : Tree) → is_clean_in e ≡ true → CleanSought (sought_by e)
    clean_seeks (Selector name matchers sight span) clean = λ s e. subst (λ (x : Sought). OnOthers x.matchers) (same_Some _ s e) (not-true _ (and_right (is_some (selected_name name matchers)) _ clean))
    clean_seeks (Paren of span) clean = within_parentheses (sought_by of) (elim (or_cases (is_scalar_part of) (is_clean_in of) clean) [ inl s ↦ scalar_seeks of s | inr c ↦ clean_seeks of c ])
    clean_seeks (Number text span) clean = λ s e. absurd (cc)
    clean_seeks (Str text span) clean = λ s e. absurd (cc)
    clean_seeks (Subquery of sight span) clean = λ s e. absurd (cc)
    clean_seeks (Unary minus of span) clean = λ s e. absurd (cc)
    clean_seeks (Binary op m left right span) clean = λ s e. absurd (cc)
    clean_seeks (Call name args span) clean = λ s e. absurd (cc)
    clean_seeks (Aggregate op grouping args span) clean = λ s e. absurd (cc)

    first_seeks : (args : Trees) → are_clean args ≡ true → CleanSought (sought_in args)
    first_seeks Nil clean = λ s e. absurd (cc)
    first_seeks (Next x xs) clean = elim (or_cases (is_scalar_part x) (is_clean_in x) (and_left _ _ clean)) [ inl s ↦ scalar_seeks x s | inr c ↦ clean_seeks x c ]

    -- ---- expressions, over rows of recorded names that have it

    module _ (env : Environment) (ok : IsEnvironment u env) where
      last_named : (o : Option Sets) (name : Bytes) → ((row : Sets) → o ≡ Some row → HasLast row) → HasLast (row_or_series u o name)
      last_named None name each = last_series name
      last_named (Some row) name each = each row refl

      -- the rows of the names have it
      abbrev pub NamesLast : List (Option Bytes) → Type 0
      NamesLast found = (n : Bytes) (row : Sets) → row_named env n ≡ Some row → Contains found (Some n) → HasLast row

      last_selected : (name : Option Bytes) (matchers : List Matcher) → AllByRecursion (IsKnown u) (matchers_mentions matchers) → (o : Option Bytes) → (is_some o && not (list_any (λ (m : Matcher). bytes_eq m.label (codes "le")) matchers)) ≡ true → NamesLast (o ∷ [])
          → HasLast (narrowed (passes_matchers u matchers) (seen_row u env o))
      last_selected name matchers known None clean names = absurd (cc)
      last_selected name matchers known (Some n) clean names =
          last_narrowed (passes_matchers u matchers) (seen_row u env (Some n)) (λ c held passes some. passes_le matchers known (not-true _ clean) last_class)
          (last_named (row_named env n) n (λ row e. names n row e (here (Some n) [])))

      sub : (x : Tree) (found : List (Option Bytes)) → (is_clean_in x ≡ true → NamesLast found → HasLast (row_of u env x)) → is_clean x ≡ true → NamesLast (cond (is_scalar_part x) [] found) → HasLast (row_of u env x)
      sub x found each clean names = by (is_scalar_part x) refl clean names
        where
          by : (b : Bool) → is_scalar_part x ≡ b → (b || is_clean_in x) ≡ true → NamesLast (cond b [] found) → HasLast (row_of u env x)
          by true is clean names = scalar_last env x is
          by false is clean names = each clean names

      names_left : (xs ys : List (Option Bytes)) → NamesLast (xs ++ ys) → NamesLast xs
      names_left xs ys names n row e c = names n row e (Contains-append_left xs ys (Some n) c)

      names_right : (xs ys : List (Option Bytes)) → NamesLast (xs ++ ys) → NamesLast ys
      names_right xs ys names n row e c = names n row e (Contains-append_right xs ys (Some n) c)

      last_quantile : (row : Sets) → HasLast row → HasLast (quantile_row u row)
      last_quantile row last = last_if (may_be_present u row (codes "le")) (only_empty (λ label. is_metric_label u label || is_label u (codes "le") label) row) (bottom u) (last_only_empty _ row last) last_bottom

      last_effect : (effect : LabelEffect) (grouping : Grouping) (args : Trees) (row : Sets) → leaves_le effect ≡ true → ((s : Sought) → sought_in args ≡ Some s → AllByRecursion (IsKnown u) (matchers_mentions s.matchers) × OnOthers s.matchers) → HasLast row → HasLast (effect_row u effect grouping args row)
      last_effect Maps grouping args row leaves sought last = last_only_empty (is_metric_label u) row last
      last_effect Keeps grouping args row leaves sought last = last
      last_effect Groups grouping args row leaves sought last = last_only_empty (λ label. not (Rattle.lf_semantics.specs.RowTable.is_group_label u grouping label)) row last
      last_effect CountValues grouping args row leaves sought last = absurd (cc)
      last_effect Date grouping Nil row leaves sought last = last_bare
      last_effect Date grouping (Next x xs) row leaves sought last = last_only_empty (is_metric_label u) row last
      last_effect Absent grouping args row leaves sought last = last_absent (sought_in args) sought
      last_effect LabelReplace grouping args row leaves sought last = absurd (cc)
      last_effect LabelJoin grouping args row leaves sought last = absurd (cc)
      last_effect HistogramQuantile grouping args row leaves sought last = last_quantile row last
      last_effect Bare grouping args row leaves sought last = last_bare

      last_call : (o : Option Signature) (grouping : Grouping) (args : Trees) → AllByRecursion (IsKnown u) (arguments_mentions args) → call_leaves o ≡ true → are_clean args ≡ true → ((k : ℕ) → HasLast (row_at u env args k)) → HasLast (call_row u o grouping args (row_at u env args))
      last_call None grouping args known leaves clean each = last_bottom
      last_call (Some s) grouping args known leaves clean each =
          last_effect s.labels grouping args (row_at u env args (operand_place s)) leaves (λ t e. (first_sought u args known t e, first_seeks args clean t e)) (each (operand_place s))

      last_binary : (op : Op) (m : Matching) (x y : Bool) (left right : Sets) → HasShape u left → HasShape u right → HasLast left → HasLast right → HasLast (binary_row u op m x y left right)
      last_binary op m true true left right s t a b = last_bare
      last_binary op m false true left right s t a b = last_beside (is_filter op m) left a
      last_binary op m true false left right s t a b = last_beside (is_filter op m) right b
      last_binary op m false false left right s t a b = last_combined m left right s t a b op

      mutual
        pub last_in : (e : Tree) → Covers u e → is_clean_in e ≡ true → NamesLast (selectors_in e) → HasLast (row_of u env e)
        last_in (Number text span) known clean names = last_bare
        last_in (Str text span) known clean names = last_bottom
        last_in (Selector name matchers sight span) known clean names = last_selected name matchers (all_back (IsKnown u) (name_mentions name) (matchers_mentions matchers) known) (selected_name name matchers) clean names
        last_in (Subquery of sight span) known clean names = sub of (selectors_in of) (λ c n. last_in of known c n) clean names
        last_in (Paren of span) known clean names = sub of (selectors_in of) (λ c n. last_in of known c n) clean names
        last_in (Unary minus of span) known clean names = last_sign minus (row_of u env of) (sub of (selectors_in of) (λ c n. last_in of known c n) clean names)
        last_in (Binary op m left right span) known clean names =
            last_binary op m (is_scalar_part left) (is_scalar_part right) (row_of u env left) (row_of u env right) (shape_of_row u p env ok left) (shape_of_row u p env ok right)
            (sub left (selectors_in left) (λ c n. last_in left (all_front (IsKnown u) (mentions left) _ known) c n) (and_left _ _ clean) (names_left (selectors left) (selectors right) names))
            (sub right (selectors_in right) (λ c n. last_in right (all_back (IsKnown u) (modifier_mentions m) (mentions right) (all_back (IsKnown u) (mentions left) _ known)) c n) (and_right _ _ clean) (names_right (selectors left) (selectors right) names))
        last_in (Call name args span) known clean names =
            let inner = call_operands u (function_named name) args known in
            last_call (function_named name) Ungrouped args inner (and_left _ _ clean) (and_right (call_leaves (function_named name)) _ clean) (last_at args inner (and_right (call_leaves (function_named name)) _ clean) names)
        last_in (Aggregate op grouping args span) known clean names =
            let parts = grouped_known u (stands_first (group_names grouping) args) (names_mentions (group_names grouping)) (effect_mentions (aggregation op).labels (texts_of args) (arguments_mentions args)) known in
            let inner = operands_known u (aggregation op).labels (texts_of args) (arguments_mentions args) parts.1 in
            last_call (Some (aggregation op)) grouping args inner (and_left _ _ clean) (and_right (leaves_le (aggregation op).labels) _ clean) (last_at args inner (and_right (leaves_le (aggregation op).labels) _ clean) names)

        last_at : (args : Trees) → AllByRecursion (IsKnown u) (arguments_mentions args) → are_clean args ≡ true → NamesLast (Rattle.lf_deps.specs.Reading.arguments_selectors args) → (k : ℕ) → HasLast (row_at u env args k)
        last_at Nil known clean names k = last_bottom
        last_at (Next x xs) known clean names zero =
            sub x (selectors_in x) (λ c n. last_in x (all_front (IsKnown u) (mentions x) (arguments_mentions xs) known) c n) (and_left _ _ clean) (names_left (selectors x) (Rattle.lf_deps.specs.Reading.arguments_selectors xs) names)
        last_at (Next x xs) known clean names (suc k) =
            last_at xs (all_back (IsKnown u) (mentions x) (arguments_mentions xs) known) (and_right (beyond_scalar x (is_clean_in x)) _ clean) (names_right (selectors x) (Rattle.lf_deps.specs.Reading.arguments_selectors xs) names) k

      pub last_of : (e : Tree) → Covers u e → is_clean e ≡ true → NamesLast (selectors e) → HasLast (row_of u env e)
      last_of e known clean names = sub e (selectors_in e) (λ c n. last_in e known c n) clean names

      -- what a rule stores that doesn't set `le`
      last_texts : (labels : List RuleLabel) (row : Sets) → AllByRecursion (IsKnown u) (map (λ (k : RuleLabel). mention k.key (k.value ∷ [])) labels) → list_any (λ (k : RuleLabel). bytes_eq k.key (codes "le")) labels ≡ false → HasLast row → HasLast (with_texts u labels row)
      last_texts [] row known none last = last
      last_texts (k ∷ labels) row known none last =
          let b = or_parts (bytes_eq k.key le) _ none in
          last_replaced (is_label u k.key) (λ l c. eqb c (class_of u (label_of u k.key) k.value)) (with_texts u labels row) (label_test u k.key le known.0.0 ∙ b.0) (last_texts labels row known.1 b.1 last)

      pub last_recorded : (r : RuleTree) → AllByRecursion (IsKnown u) (rule_mentions r) → r.alert ≡ false → sets_label r (codes "le") ≡ false → is_clean r.expr ≡ true → NamesLast (selectors r.expr) → HasLast (recorded_row u env r)
      last_recorded r known recording none clean names =
          let P : Bool → Type 0 = λ b. AllByRecursion (IsKnown u) (cond b [] (mention metric (r.name ∷ []) ∷ map (λ (k : RuleLabel). mention k.key (k.value ∷ [])) r.labels)) in
          let labels = (subst P recording (all_back (IsKnown u) (mentions r.expr) _ known)).1 in
          last_texts r.labels (with_text u metric r.name (rule_row u env r)) labels none
          (last_replaced (is_label u metric) (λ l c. eqb c (class_of u (label_of u metric) r.name)) (rule_row u env r) no_metric
          (last_if (is_evaluated (type_by_form r.expr)) (row_of u env r.expr) (bottom u) (last_of r.expr (all_front (IsKnown u) (mentions r.expr) _ known) clean names) last_bottom))

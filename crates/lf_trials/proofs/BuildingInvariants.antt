-- Invariants of building: what nothing has and each step keeps holds of all that is built, by induction over expressions and over the rules that aren't marked.
use Rattle.std.proofs.Common.{◌≡◌, ◌<◌, ℕ, zero, suc, ◌+◌, Bool, true, false, not, cond, List, [], ◌∷◌, length, Option, Some, None, is_some, true≢false, refl, sym, ap, arith, option_and_then, option_map}
use Rattle.std.specs.Prelude.{IfSome}
use Rattle.std.specs.Str.{bytes_eq}
use Rattle.std.proofs.lemmas.Option.{same_Some}
use Rattle.lf_ast.specs.Functions.{Signature, aggregation, function_named}
use Rattle.lf_ast.specs.Labels.{Bytes}
use Rattle.lf_ast.specs.Rules.{RuleTree}
use Rattle.lf_ast.specs.Selectors.{metric, selected_name}
use Rattle.lf_ast.specs.Tree.{Tree, Trees, Number, Str, Selector, Subquery, Paren, Unary, Binary, Call, Aggregate, Nil, Next}
use Rattle.lf_ast.specs.declared.expr.Grouping.{Grouping}
use Rattle.lf_ast.specs.declared.expr.Grouping.TheVariants.{None as Ungrouped}
use Rattle.lf_ast.specs.declared.expr.Matcher.{Matcher}
use Rattle.lf_ast.specs.declared.expr.Matching.{Matching}
use Rattle.lf_ast.specs.declared.expr.Op.{Op}
use Rattle.lf_ast.specs.declared.expr.Op.TheVariants.{Or, Unless}
use Rattle.lf_ast.specs.declared.functions.LabelEffect.{LabelEffect}
use Rattle.lf_ast.specs.declared.functions.LabelEffect.TheVariants.{Date, Absent, Bare}
use Rattle.lf_semantics.specs.ClassRows.{Sets}
use Rattle.lf_semantics.specs.Grouped.{is_filter}
use Rattle.lf_semantics.specs.Listing.{Listing}
use Rattle.lf_semantics.specs.Parts.{is_scalar_part, operand_place}
use Rattle.lf_semantics.specs.RowTable.{Environment, row_of}
use Rattle.lf_trials.specs.Building.{Builder, Building, and_then, both, nothing, one_more, with_step}
use Rattle.lf_trials.specs.Built.{before_recording, build, build_by_rule, build_selector, builder, argument_builder, building_of, fits, handed, name_of_series, series_named, start_text}
use Rattle.lf_trials.specs.Given.{Given, giving, nothing_given}
use Rattle.lf_trials.specs.Matched.{build_binary, build_match, build_operator, has_signature}
use Rattle.lf_trials.specs.Operands.{build_call, build_effect, build_nameless_if}
use Rattle.lf_trials.specs.Reached.{first_rule, is_recorded}
use Rattle.lf_trials.proofs.MadeSeries.{IsScrapedName, scraped_name, taken_name}

-- an invariant holds of nothing and of a scraped series, and is kept where both are taken, where a selector is counted, and where the step of a rule comes behind
pub record IsInvariant (u : Listing) (rules : List RuleTree) (P : Building → Type 0) : Type 0 where
  pub of_nothing : IfSome nothing P
  pub of_series : (name : Bytes) (D : Given) → IsScrapedName rules name → IfSome (series_named u rules (Some name) D) P
  pub of_both : (a b : Building) → P a → P b → P (both a b)
  pub of_one_more : (b : Building) → P b → P (one_more b)
  pub of_step : (k : ℕ) (b : Building) → k < length rules → P b → P (with_step k b)

-- the number of the first rule that passes, counted from k
first_within : (test : ℕ → RuleTree → Bool) (k : ℕ) (rules : List RuleTree) (found : ℕ × RuleTree) → first_rule test k rules ≡ Some found → found.0 < k + length rules
first_within test k [] found e = absurd (true≢false (sym (ap is_some e)))
first_within test k (r ∷ rules) found e = by (test k r) e (first_within test (suc k) rules found)
  where
    by : (b : Bool) → cond b (Some (k, r)) (first_rule test (suc k) rules) ≡ Some found → (first_rule test (suc k) rules ≡ Some found → found.0 < suc k + length rules) → found.0 < k + suc (length rules)
    by true same later = let is : k ≡ found.0 = ap (λ (x : ℕ × RuleTree). x.0) (same_Some (k, r) found same) in omega (arith, is)
    by false same later = let h = later same in omega (arith, h)

module _ (u : Listing) (env : Environment) (rules : List RuleTree) (P : Building → Type 0) (invariant : IsInvariant u rules P) where
  -- what is built from any texts
  abbrev pub Keeps : Builder → Type 0
  Keeps b = (D : Given) → IfSome (b D) P

  changed : (change : Building → Building) → ((b : Building) → P b → P (change b)) → (o : Option Building) → IfSome o P → IfSome (option_map change o) P
  changed change keeps None is = tt
  changed change keeps (Some b) is = keeps b is

  then_kept : (a b : Option Building) → IfSome a P → IfSome b P → IfSome (and_then a b) P
  then_kept None b of_a of_b = tt
  then_kept (Some a) b of_a of_b = changed (both a) (λ c of_c. invariant.of_both a c of_a of_c) b of_b

  from_some : {X : Type 0} (o : Option X) (by : X → Option Building) → ((x : X) → o ≡ Some x → IfSome (by x) P) → IfSome (option_and_then by o) P
  from_some None by keeps = tt
  from_some (Some x) by keeps = keeps x refl

  if_kept : (test : Bool) (a b : Option Building) → IfSome a P → IfSome b P → IfSome (cond test a b) P
  if_kept true a b of_a of_b = of_a
  if_kept false a b of_a of_b = of_b

  -- selectors

  series_kept : (o : Option Bytes) (D : Given) → ((name : Bytes) → o ≡ Some name → IsScrapedName rules name) → IfSome (series_named u rules o D) P
  series_kept None D scraped = tt
  series_kept (Some name) D scraped = invariant.of_series name D (scraped name refl)

  selector_keeps : (build_rule : Bytes → Builder) → ((name : Bytes) → Keeps (build_rule name)) → (said : Option Bytes) (matchers : List Matcher) → Keeps (build_selector u rules build_rule said matchers)
  selector_keeps build_rule by_rule None matchers D = series_kept (name_of_series u rules matchers D) D (taken_name u rules matchers (D metric))
  selector_keeps build_rule by_rule (Some name) matchers D = by (is_recorded rules name) refl (bytes_eq name []) refl
    where
      by : (a : Bool) → is_recorded rules name ≡ a → (b : Bool) → bytes_eq name [] ≡ b → IfSome (cond a (option_map one_more (build_rule name D)) (cond b None (series_named u rules (Some name) D))) P
      by true recorded b empty = changed one_more invariant.of_one_more (build_rule name D) (by_rule name D)
      by false recorded true empty = tt
      by false recorded false empty = invariant.of_series name D (scraped_name rules name empty recorded)

  -- operands and sides

  effect_keeps : (effect : LabelEffect) (grouping : Grouping) (args : Trees) (operand : Builder) → Keeps operand → Keeps (build_effect effect grouping args operand)
  effect_keeps Date grouping Nil operand keeps D = invariant.of_nothing
  effect_keeps Absent grouping args operand keeps D = invariant.of_nothing
  effect_keeps Bare grouping args operand keeps D = invariant.of_nothing
  effect_keeps effect grouping args operand keeps D = keeps _

  call_keeps : (found : Option Signature) (grouping : Grouping) (args : Trees) (argument : ℕ → Builder) → ((k : ℕ) → Keeps (argument k)) → Keeps (build_call found grouping args argument)
  call_keeps None grouping args argument keeps D = tt
  call_keeps (Some s) grouping args argument keeps D = effect_keeps s.labels grouping args (argument (operand_place s)) (keeps (operand_place s)) D

  nameless_keeps : (drops : Bool) (operand : Builder) → Keeps operand → Keeps (build_nameless_if drops operand)
  nameless_keeps true operand keeps D = keeps _
  nameless_keeps false operand keeps D = keeps D

  module _ (m : Matching) (left right : Sets) (build_left build_right : Builder) (of_left : Keeps build_left) (of_right : Keeps build_right) where
    match_keeps : (op : Op) → Keeps (build_match u op m left right build_left build_right)
    match_keeps op D = if_kept (has_signature u op m left right D) _ None (then_kept _ _ (of_left _) (of_right _)) tt

    operator_keeps : (op : Op) → Keeps (build_operator u op m left right build_left build_right)
    operator_keeps Or D = if_kept _ (build_left D) (build_right D) (of_left D) (of_right D)
    operator_keeps Unless D = of_left D
    operator_keeps op D = match_keeps op D

    binary_keeps : (op : Op) (scalar other : Bool) → Keeps (build_binary u op m scalar other left right build_left build_right)
    binary_keeps op true true D = invariant.of_nothing
    binary_keeps op false true D = nameless_keeps (not (is_filter op m)) build_left of_left D
    binary_keeps op true false D = nameless_keeps (not (is_filter op m)) build_right of_right D
    binary_keeps op false false D = operator_keeps op D

  -- expressions

  module _ (holds_fork : Tree → Bool) where
    build_keeps : (e : Tree) (b : Builder) → Keeps b → Keeps (build u env rules holds_fork e b)
    build_keeps e b keeps D = from_some (handed u env rules holds_fork e D) b (λ E is. keeps E)

    module _ (build_rule : Bytes → Builder) (by_rule : (name : Bytes) → Keeps (build_rule name)) where
      mutual
        builder_keeps : (e : Tree) → Keeps (builder u env rules holds_fork build_rule e)
        builder_keeps (Number text span) D = invariant.of_nothing
        builder_keeps (Str text span) D = tt
        builder_keeps (Selector name matchers sight span) D = selector_keeps build_rule by_rule (selected_name name matchers) matchers D
        builder_keeps (Subquery of sight span) D = build_keeps of _ (builder_keeps of) D
        builder_keeps (Paren of span) D = build_keeps of _ (builder_keeps of) D
        builder_keeps (Unary minus of span) D = nameless_keeps minus _ (build_keeps of _ (builder_keeps of)) D
        builder_keeps (Binary op m left right span) D =
            binary_keeps m (row_of u env left) (row_of u env right) _ _ (build_keeps left _ (builder_keeps left)) (build_keeps right _ (builder_keeps right)) op (is_scalar_part left) (is_scalar_part right) D
        builder_keeps (Call name args span) D = call_keeps (function_named name) Ungrouped args _ (arguments_keep args) D
        builder_keeps (Aggregate op grouping args span) D = call_keeps (Some (aggregation op)) grouping args _ (arguments_keep args) D

        arguments_keep : (args : Trees) (k : ℕ) → Keeps (argument_builder u env rules holds_fork build_rule args k)
        arguments_keep Nil k D = tt
        arguments_keep (Next x xs) zero D = build_keeps x _ (builder_keeps x) D
        arguments_keep (Next x xs) (suc k) D = arguments_keep xs k D

    -- recorded names

    rules_keep : (unmarked : ℕ) (marked : List ℕ) (name : Bytes) → Keeps (build_by_rule u env rules holds_fork unmarked marked name)
    rules_keep zero marked name D = tt
    rules_keep (suc unmarked) marked name D =
        from_some (first_rule (fits u env rules holds_fork marked name D) 0 rules) _
        (λ found is.
        let less = first_within (fits u env rules holds_fork marked name D) 0 rules found is in
        changed (with_step found.0) (λ b. invariant.of_step found.0 b (omega (arith, less))) _
        (build_keeps found.1.expr _ (builder_keeps _ (rules_keep unmarked (found.0 ∷ marked)) found.1.expr) (before_recording u env rules holds_fork found.1 D)))

    pub building_keeps : (i : ℕ) (r : RuleTree) (label : Bytes) (presence : Bool) → IfSome (building_of u env rules holds_fork i r label presence) P
    building_keeps i r label presence =
        from_some (start_text u env rules holds_fork r label presence) _
        (λ text is. build_keeps r.expr _ (builder_keeps _ (rules_keep (length rules) (i ∷ [])) r.expr) (giving label text nothing_given))

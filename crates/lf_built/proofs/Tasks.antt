-- Going down an expression task by task builds what its definition builds.
use Rattle.std.proofs.Common.{◌≡◌, ℕ, zero, suc, ◌+◌, Bool, true, false, not, cond, List, [], ◌∷◌, ◌++◌, map, Option, Some, None, refl, sym, ◌∙◌, ap, append_assoc, add_assoc, arith}
use Rattle.std.specs.Option.{option_map_or}
use Rattle.std.specs.Prelude.{option_and_then, option_map}
use Rattle.std.proofs.lemmas.List.{append-nil}
use Rattle.lf_ast.specs.Functions.{Signature, aggregation, function_named}
use Rattle.lf_ast.specs.Labels.{Bytes, Labels}
use Rattle.lf_ast.specs.Rules.{RuleTree}
use Rattle.lf_ast.specs.Tree.{Tree, Trees, Number, Str, Selector, Subquery, Paren, Unary, Binary, Call, Aggregate, Nil, Next}
use Rattle.lf_ast.specs.declared.expr.Grouping.{Grouping}
use Rattle.lf_ast.specs.declared.expr.Grouping.TheVariants.{None as Ungrouped}
use Rattle.lf_ast.specs.declared.expr.Matching.{Matching}
use Rattle.lf_ast.specs.declared.expr.Op.{Op}
use Rattle.lf_ast.specs.declared.expr.Op.TheVariants as O
use Rattle.lf_ast.specs.declared.functions.LabelEffect.{LabelEffect}
use Rattle.lf_semantics.specs.Grouped.{is_filter}
use Rattle.lf_semantics.specs.Listing.{Listing}
use Rattle.lf_semantics.specs.Parts.{argument_at, is_scalar_part, operand_place}
use Rattle.lf_semantics.specs.RowTable.{Environment, row_of}
use Rattle.lf_trials.specs.Building.{Builder, Building, and_then, both, nothing, one_more, with_step}
use Rattle.lf_trials.specs.Built.{before_recording, build, build_by_rule, builder, argument_builder, fits, handed}
use Rattle.lf_trials.specs.Given.{Given, holds_texts}
use Rattle.lf_trials.specs.Matched.{build_binary, build_match, build_operator, has_signature, side}
use Rattle.lf_trials.specs.Operands.{build_call, build_effect, build_nameless_if, effect_texts, losing_name}
use Rattle.lf_trials.specs.Sides.{left_gives, right_gives}
use Rattle.lf_trials.specs.Reached.{first_rule}
use Rattle.lf_built.specs.views.Tasks.{Finish, IsNoSelector, Task, Visit, Wanted, binary_wanted, built_for, call_wanted, effect_wanted, match_wanted, nameless_if, one_wanted, operand_wanted, operator_wanted, outcome, parts_wanted, selector_only, step_only, want}

-- buildings one behind the other

both_nothing : (b : Building) → both b (record { series = []; steps = []; selectors = 0 }) ≡ b
both_nothing b =
    ap (λ (xs : List Labels). record { series = xs; steps = b.steps ++ []; selectors = b.selectors + 0 }) (append-nil b.series)
    ∙ ap (λ (xs : List ℕ). record { series = b.series; steps = xs; selectors = b.selectors + 0 }) (append-nil b.steps)
    ∙ ap (λ (n : ℕ). record { series = b.series; steps = b.steps; selectors = n }) (let e : b.selectors + 0 ≡ b.selectors = omega arith in e)

pub and_nothing : (a : Option Building) → and_then a nothing ≡ a
and_nothing None = refl
and_nothing (Some b) = ap Some (both_nothing b)

nothing_both : (b : Building) → both (record { series = []; steps = []; selectors = 0 }) b ≡ b
nothing_both b = ap (λ (n : ℕ). record { series = b.series; steps = b.steps; selectors = n }) (let e : 0 + b.selectors ≡ b.selectors = omega arith in e)

pub nothing_and : (a : Option Building) → and_then nothing a ≡ a
nothing_and None = refl
nothing_and (Some b) = ap Some (nothing_both b)

both_assoc : (a b c : Building) → both (both a b) c ≡ both a (both b c)
both_assoc a b c =
    ap (λ (xs : List Labels). record { series = xs; steps = (a.steps ++ b.steps) ++ c.steps; selectors = (a.selectors + b.selectors) + c.selectors }) (append_assoc a.series b.series c.series)
    ∙ ap (λ (xs : List ℕ). record { series = a.series ++ (b.series ++ c.series); steps = xs; selectors = (a.selectors + b.selectors) + c.selectors }) (append_assoc a.steps b.steps c.steps)
    ∙ ap (λ (n : ℕ). record { series = a.series ++ (b.series ++ c.series); steps = a.steps ++ (b.steps ++ c.steps); selectors = n }) (add_assoc a.selectors b.selectors c.selectors)

pub and_assoc : (a b c : Option Building) → and_then (and_then a b) c ≡ and_then a (and_then b c)
and_assoc None b c = refl
and_assoc (Some a) None c = refl
and_assoc (Some a) (Some b) None = refl
and_assoc (Some a) (Some b) (Some c) = ap Some (both_assoc a b c)

-- a step behind what was built, and a selector before it
stepped : (k : ℕ) (b : Building) → with_step k b ≡ both b (record { series = []; steps = k ∷ []; selectors = 0 })
stepped k b =
    sym (ap (λ (xs : List Labels). record { series = xs; steps = b.steps ++ k ∷ []; selectors = b.selectors + 0 }) (append-nil b.series)
    ∙ ap (λ (n : ℕ). record { series = b.series; steps = b.steps ++ k ∷ []; selectors = n }) (let e : b.selectors + 0 ≡ b.selectors = omega arith in e))

counted : (b : Building) → one_more b ≡ both (record { series = []; steps = []; selectors = 1 }) b
counted b = ap (λ (n : ℕ). record { series = b.series; steps = b.steps; selectors = n }) (let e : b.selectors + 1 ≡ 1 + b.selectors = omega arith in e)

pub with_step_is : (k : ℕ) (a : Option Building) → option_map (with_step k) a ≡ and_then a (step_only k)
with_step_is k None = refl
with_step_is k (Some b) = ap Some (stepped k b)

pub one_more_is : (a : Option Building) → option_map one_more a ≡ and_then selector_only a
one_more_is None = refl
one_more_is (Some b) = ap Some (counted b)

module _ (u : Listing) (env : Environment) (rules : List RuleTree) (holds_fork : Tree → Bool) (build_rule : Bytes → Builder) where
  abbrev builds : Tree → Builder
  builds e = build u env rules holds_fork e (builder u env rules holds_fork build_rule e)

  abbrev all : Option (List Wanted) → Option Building
  all wanted = option_and_then (built_for u env rules holds_fork build_rule) wanted

  one : (e : Tree) (D : Given) → builds e D ≡ all (one_wanted D (Some e))
  one e D = sym (and_nothing (builds e D))

  one_argument : (args : Trees) (k : ℕ) (D : Given) → argument_builder u env rules holds_fork build_rule args k D ≡ all (one_wanted D (argument_at args k))
  one_argument Nil k D = refl
  one_argument (Next x xs) zero D = one x D
  one_argument (Next x xs) (suc k) D = one_argument xs k D

  one_nameless : (drops : Bool) (e : Tree) (D : Given) → build_nameless_if drops (builds e) D ≡ all (one_wanted (nameless_if drops D) (Some e))
  one_nameless true e D = one e (losing_name D)
  one_nameless false e D = one e D

  one_operand : (args : Trees) (k : ℕ) (texts : Option Given) → option_map_or (argument_builder u env rules holds_fork build_rule args k) texts nothing ≡ all (operand_wanted (argument_at args k) texts)
  one_operand args k None = refl
  one_operand args k (Some D) = one_argument args k D

  of_effect : (effect : LabelEffect) (grouping : Grouping) (args : Trees) (k : ℕ) (D : Given)
      → build_effect effect grouping args (argument_builder u env rules holds_fork build_rule args k) D ≡ all (effect_wanted effect grouping args (argument_at args k) D)
  of_effect effect grouping args k D = one_operand args k (effect_texts effect grouping args D)

  of_call : (s : Option Signature) (grouping : Grouping) (args : Trees) (D : Given) → build_call s grouping args (argument_builder u env rules holds_fork build_rule args) D ≡ all (call_wanted s grouping args D)
  of_call None grouping args D = refl
  of_call (Some s) grouping args D = of_effect s.labels grouping args (operand_place s) D

  of_match : (op : Op) (m : Matching) (left right : Tree) (D : Given) → build_match u op m (row_of u env left) (row_of u env right) (builds left) (builds right) D ≡ all (match_wanted u env op m left right D)
  of_match op m left right D =
      by (has_signature u op m (row_of u env left) (row_of u env right) D) (side u (left_gives op m) op m (row_of u env left) (row_of u env right) D)
      (side u (right_gives op m) op m (row_of u env left) (row_of u env right) D)
    where
      by : (b : Bool) (l r : Given) → cond b (and_then (builds left l) (builds right r)) None ≡ all (cond b (Some (want left l ∷ want right r ∷ [])) None)
      by true l r = ap (and_then (builds left l)) (sym (and_nothing (builds right r)))
      by false l r = refl

  of_or : (b : Bool) (left right : Tree) (D : Given) → cond b (builds left D) (builds right D) ≡ all (Some (want (cond b left right) D ∷ []))
  of_or true left right D = one left D
  of_or false left right D = one right D

  of_operator : (op : Op) (m : Matching) (left right : Tree) (D : Given) → build_operator u op m (row_of u env left) (row_of u env right) (builds left) (builds right) D ≡ all (operator_wanted u env op m left right D)
  of_operator O.Or m left right D = of_or (holds_texts u (row_of u env left) D) left right D
  of_operator O.Unless m left right D = one left D
  of_operator O.And m left right D = of_match O.And m left right D
  of_operator O.Add m left right D = of_match O.Add m left right D
  of_operator O.Subtract m left right D = of_match O.Subtract m left right D
  of_operator O.Multiply m left right D = of_match O.Multiply m left right D
  of_operator O.Divide m left right D = of_match O.Divide m left right D
  of_operator O.Modulo m left right D = of_match O.Modulo m left right D
  of_operator O.Power m left right D = of_match O.Power m left right D
  of_operator O.Atan2 m left right D = of_match O.Atan2 m left right D
  of_operator O.Equal m left right D = of_match O.Equal m left right D
  of_operator O.NotEqual m left right D = of_match O.NotEqual m left right D
  of_operator O.LessOrEqual m left right D = of_match O.LessOrEqual m left right D
  of_operator O.Less m left right D = of_match O.Less m left right D
  of_operator O.GreaterOrEqual m left right D = of_match O.GreaterOrEqual m left right D
  of_operator O.Greater m left right D = of_match O.Greater m left right D

  of_binary : (op : Op) (m : Matching) (p q : Bool) (left right : Tree) (D : Given) → build_binary u op m p q (row_of u env left) (row_of u env right) (builds left) (builds right) D ≡ all (binary_wanted u env op m p q left right D)
  of_binary op m true true left right D = refl
  of_binary op m false true left right D = one_nameless (not (is_filter op m)) left D
  of_binary op m true false left right D = one_nameless (not (is_filter op m)) right D
  of_binary op m false false left right D = of_operator op m left right D

  -- an expression that is no selector is built of the parts that it wants
  pub of_parts : (e : Tree) (D : Given) → IsNoSelector e → builder u env rules holds_fork build_rule e D ≡ all (parts_wanted u env e D)
  of_parts (Number text span) D is = refl
  of_parts (Str text span) D is = refl
  of_parts (Selector name matchers sight span) D is = absurd is
  of_parts (Subquery of sight span) D is = one of D
  of_parts (Paren of span) D is = one of D
  of_parts (Unary minus of span) D is = one_nameless minus of D
  of_parts (Binary op m left right span) D is = of_binary op m (is_scalar_part left) (is_scalar_part right) left right D
  of_parts (Call name args span) D is = of_call (function_named name) Ungrouped args D
  of_parts (Aggregate op grouping args span) D is = of_call (Some (aggregation op)) grouping args D

-- tasks

module _ (u : Listing) (env : Environment) (rules : List RuleTree) (holds_fork : Tree → Bool) where
  abbrev by_rule : ℕ → List ℕ → Bytes → Builder
  by_rule = build_by_rule u env rules holds_fork

  abbrev left : ℕ → List ℕ → List Task → Option Building
  left = outcome u env rules holds_fork

  -- expressions that are to be built come before the tasks that are left
  pub visits : (n : ℕ) (marked : List ℕ) (wanted : List Wanted) (tasks : List Task) → left n marked (map Visit wanted ++ tasks) ≡ and_then (built_for u env rules holds_fork (by_rule n marked) wanted) (left n marked tasks)
  visits n marked [] tasks = sym (nothing_and (left n marked tasks))
  visits n marked (w ∷ wanted) tasks =
      let first : Option Building = build u env rules holds_fork w.expr (builder u env rules holds_fork (by_rule n marked) w.expr) w.texts in
      ap (and_then first) (visits n marked wanted tasks) ∙ sym (and_assoc first (built_for u env rules holds_fork (by_rule n marked) wanted) (left n marked tasks))

  handed_to : (n : ℕ) (marked : List ℕ) (w : Wanted) (D : Given) (tasks : List Task) → handed u env rules holds_fork w.expr w.texts ≡ Some D → left n marked (Visit w ∷ tasks) ≡ and_then (builder u env rules holds_fork (by_rule n marked) w.expr D) (left n marked tasks)
  handed_to n marked w D tasks is = ap (λ (o : Option Given). and_then (option_and_then (builder u env rules holds_fork (by_rule n marked) w.expr) o) (left n marked tasks)) is

  -- an expression that is no selector gives way to the parts that it wants
  module _ (n : ℕ) (marked : List ℕ) (w : Wanted) (D : Given) (tasks : List Task) (is : handed u env rules holds_fork w.expr w.texts ≡ Some D) where
    parts_of_task : IsNoSelector w.expr → left n marked (Visit w ∷ tasks) ≡ and_then (all u env rules holds_fork (by_rule n marked) (parts_wanted u env w.expr D)) (left n marked tasks)
    parts_of_task other = handed_to n marked w D tasks is ∙ ap (λ (o : Option Building). and_then o (left n marked tasks)) (of_parts u env rules holds_fork (by_rule n marked) w.expr D other)

    pub some_parts : IsNoSelector w.expr → (wanted : List Wanted) → parts_wanted u env w.expr D ≡ Some wanted → left n marked (Visit w ∷ tasks) ≡ left n marked (map Visit wanted ++ tasks)
    some_parts other wanted e = parts_of_task other ∙ ap (λ (o : Option (List Wanted)). and_then (all u env rules holds_fork (by_rule n marked) o) (left n marked tasks)) e ∙ sym (visits n marked wanted tasks)

  -- a recorded name gives way to the expression of its rule, and the rule's step behind it
  pub recorded : (n : ℕ) (marked : List ℕ) (name : Bytes) (D : Given) (tasks : List Task) (k : ℕ) (r : RuleTree) → first_rule (fits u env rules holds_fork marked name D) 0 rules ≡ Some (k, r)
      → and_then (option_map one_more (by_rule (suc n) marked name D)) (left (suc n) marked tasks) ≡ and_then selector_only (left n (k ∷ marked) (Visit (want r.expr (before_recording u env rules holds_fork r D)) ∷ Finish ∷ tasks))
  recorded n marked name D tasks k r found =
      let made : Option Building = build u env rules holds_fork r.expr (builder u env rules holds_fork (by_rule n (k ∷ marked)) r.expr) (before_recording u env rules holds_fork r D) in
      let rest : Option Building = left (suc n) marked tasks in
      let by_the_rule : by_rule (suc n) marked name D ≡ option_map (with_step k) made =
      ap (λ (o : Option (ℕ × RuleTree)). option_and_then (λ (f : ℕ × RuleTree). option_map (with_step f.0) (build u env rules holds_fork f.1.expr (builder u env rules holds_fork (by_rule n (f.0 ∷ marked)) f.1.expr) (before_recording u env rules holds_fork f.1 D))) o) found in
      ap (λ (o : Option Building). and_then (option_map one_more o) rest) (by_the_rule ∙ with_step_is k made)
      ∙ ap (λ (o : Option Building). and_then o rest) (one_more_is (and_then made (step_only k)))
      ∙ and_assoc selector_only (and_then made (step_only k)) rest
      ∙ ap (and_then selector_only) (and_assoc made (step_only k) rest)

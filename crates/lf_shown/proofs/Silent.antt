-- An expression with a type can be silent if no call in it gives a sample by itself.
use Rattle.std.proofs.Common.{◌≡◌, ◌≤◌, ◌<◌, ℕ, zero, suc, ◌+◌, Bool, true, false, ◌&&◌, ◌||◌, cond, eqb, List, [], ◌∷◌, ◌++◌, length, Option, Some, refl, sym, ◌∙◌, ap, subst, arith}
use Rattle.std.proofs.lemmas.Bool.{or_parts}
use Rattle.std.proofs.lemmas.Bool.{eqb-true}
use Rattle.std.specs.Prelude.{nat_lt}
use Rattle.std.specs.List.{list_all, list_any}
use Rattle.std.specs.Option.{option_map_or}
use Rattle.std.proofs.lemmas.Bool.{and_parts}
use Rattle.std.proofs.lemmas.Bool.Decides.{nat_tests}
use Rattle.lf_laws.proofs.Booleans.{clash}
use Rattle.lf_ast.specs.Functions.{SignatureRow, Signature, aggregation, function_named, functions}
use Rattle.lf_ast.specs.Labels.{Bytes}
use Rattle.lf_ast.specs.Tree.{Tree, Trees, Number, Str as Text, Selector, Subquery, Paren, Unary, Binary, Call, Aggregate, Nil, Next, count}
use Rattle.lf_ast.specs.Types.{Fit, HasType, is_number, is_scalar, joined, takes, takes_count, takes_further, takes_side, wanted}
use Rattle.lf_ast.specs.declared.expr.Agg.{Agg}
use Rattle.lf_ast.specs.declared.expr.Agg.TheVariants.{Sum, Min, Max, Avg, Group, Stddev, Stdvar, Count, Quantile, CountValues as CountingValues, Topk, Bottomk}
use Rattle.lf_ast.specs.declared.expr.ExprType.{ExprType}
use Rattle.lf_ast.specs.declared.expr.ExprType.TheVariants.{Str, Scalar, Vector, Range}
use Rattle.lf_ast.specs.declared.expr.Op.{Op}
use Rattle.lf_ast.specs.declared.functions.Further.{Further}
use Rattle.lf_ast.specs.declared.functions.Further.TheVariants.{None as Nothing, One, Any}
use Rattle.lf_ast.specs.declared.functions.LabelEffect.{LabelEffect}
use Rattle.lf_ast.specs.declared.functions.LabelEffect.TheVariants.{Maps, Keeps, Groups, CountValues, Date, Absent, LabelReplace, LabelJoin, HistogramQuantile, Bare}
use Rattle.lf_ast.specs.declared.operands.Operands.{Operands}
use Rattle.lf_ast.specs.declared.operands.Operands.TheVariants.{Vectors, Numbers}
use Rattle.lf_semantics.specs.Parts.{is_scalar_part, operand_place, outside_scalars, takes_samples}
use Rattle.lf_semantics.proofs.TypeForms.{type_is_form}
use Rattle.lf_semantics.proofs.ScalarCalls.{found_passes}
use Rattle.lf_open.specs.Holding.{gives_by_itself, has_no_argument, is_source}
use Rattle.lf_semantics.specs.Standing.{arguments_standing, standing_in}
use Rattle.lf_shown.specs.Silence.{argument_can_be_silent, can_be_silent, effect_can_be_silent}

-- ---- lists in which nothing passes

pub none_append : {X : Type 0} (test : X → Bool) (xs ys : List X) → list_any test (xs ++ ys) ≡ false → (list_any test xs ≡ false) × (list_any test ys ≡ false)
none_append test [] ys e = (refl, e)
none_append test (x ∷ xs) ys e =
    let b = or_parts (test x) (list_any test (xs ++ ys)) e in
    let rest = none_append test xs ys b.1 in
    (rw (b.0, rest.0) refl, rest.1)

-- ---- operands by the tables

-- the effect asks for no operand, or the signature's operand is a vector or a range vector
abbrev pub needs_none : LabelEffect → Bool
needs_none Bare = true
needs_none _ = false

abbrev pub is_date : LabelEffect → Bool
is_date Date = true
is_date _ = false

abbrev operand_fits : Signature → Bool
operand_fits s = needs_none s.labels || option_map_or takes_samples (wanted s (operand_place s)) false

-- it is one of the arguments that are always taken; of a function of dates it is the first
abbrev operand_taken : Signature → Bool
operand_taken s = needs_none s.labels || cond (is_date s.labels) (eqb (operand_place s) 0) (nat_lt (operand_place s) (length s.takes))

abbrev fits_table : Signature → Bool
fits_table s = operand_fits s && operand_taken s

each_function : list_all (λ (row : SignatureRow). fits_table row.signature) functions ≡ true
unfolding functions
each_function = refl

pub function_fits : (name : Bytes) (s : Signature) → function_named name ≡ Some s → fits_table s ≡ true
unfolding function_named
function_fits name s found = found_passes fits_table name functions each_function s found

aggregation_fits : (op : Agg) → fits_table (aggregation op) ≡ true
aggregation_fits Sum = refl
aggregation_fits Min = refl
aggregation_fits Max = refl
aggregation_fits Avg = refl
aggregation_fits Group = refl
aggregation_fits Stddev = refl
aggregation_fits Stdvar = refl
aggregation_fits Count = refl
aggregation_fits Quantile = refl
aggregation_fits CountingValues = refl
aggregation_fits Topk = refl
aggregation_fits Bottomk = refl

-- ---- types

-- neither a scalar nor a string
abbrev pub IsSampled : ExprType → Type 0
IsSampled t = takes_samples t ≡ true

sampled_is_no_scalar : (t : ExprType) → takes_samples t ≡ true → is_scalar t ≡ false
sampled_is_no_scalar Vector e = refl
sampled_is_no_scalar Range e = refl
sampled_is_no_scalar Scalar e = absurd (cc)
sampled_is_no_scalar Str e = absurd (cc)

pub number_is_sampled : (t : ExprType) → is_number t ≡ true → is_scalar t ≡ false → takes_samples t ≡ true
number_is_sampled Vector e f = refl
number_is_sampled Scalar e f = absurd (cc)
number_is_sampled Range e f = absurd (cc)
number_is_sampled Str e f = absurd (cc)

pub side_is_number : (o : Operands) (t : ExprType) → takes o t ≡ true → is_number t ≡ true
side_is_number Vectors Vector e = refl
side_is_number Vectors Scalar e = absurd (cc)
side_is_number Vectors Range e = absurd (cc)
side_is_number Vectors Str e = absurd (cc)
side_is_number Numbers t e = e

pub scalar_by_type : (e : Tree) (t : ExprType) → HasType e t → is_scalar_part e ≡ is_scalar t
scalar_by_type e t typed = ap is_scalar (type_is_form e t typed)

-- as many arguments as are always taken
enough : (f : Further) (least n : ℕ) → takes_further f least n ≡ true → least ≤ n
enough Nothing least n e = grind (arith, nat_tests)
enough (One t) least n e = grind (arith, nat_tests)
enough (Any t) least n e = grind (arith, nat_tests)

less_by_test : (a b : ℕ) → nat_lt a b ≡ true → a < b
less_by_test a b e = grind (arith, nat_tests)

-- ---- what is no source

no_sub : (x : Tree) → is_scalar_part x ≡ false → list_any is_source (outside_scalars x (standing_in x)) ≡ false → list_any is_source (standing_in x) ≡ false
no_sub x is e = sym (ap (λ b. list_any is_source (cond b [] (standing_in x))) is) ∙ e

-- the operand is there: of a call that is no source itself
place_there : (s : Signature) (args : Trees) → fits_table s ≡ true → takes_count s (count args) ≡ true → needs_none s.labels ≡ false → gives_by_itself s.labels args ≡ false → operand_place s < count args
place_there s args fits counted needs own = by (is_date s.labels) refl (taken (needs_none s.labels) needs (and_parts (operand_fits s) (operand_taken s) fits).1)
  where
    taken : (k : Bool) → k ≡ false → (k || cond (is_date s.labels) (eqb (operand_place s) 0) (nat_lt (operand_place s) (length s.takes))) ≡ true → cond (is_date s.labels) (eqb (operand_place s) 0) (nat_lt (operand_place s) (length s.takes)) ≡ true
    taken true e f = absurd (cc)
    taken false e f = f

    some_argument : (xs : Trees) → has_no_argument xs ≡ false → 0 < count xs
    some_argument Nil e = absurd (cc)
    some_argument (Next x xs) e = omega arith

    of_date : (effect : LabelEffect) → is_date effect ≡ true → gives_by_itself effect args ≡ false → has_no_argument args ≡ false
    of_date Date is e = e
    of_date Maps is e = absurd (cc)
    of_date Keeps is e = absurd (cc)
    of_date Groups is e = absurd (cc)
    of_date CountValues is e = absurd (cc)
    of_date Absent is e = absurd (cc)
    of_date LabelReplace is e = absurd (cc)
    of_date LabelJoin is e = absurd (cc)
    of_date HistogramQuantile is e = absurd (cc)
    of_date Bare is e = absurd (cc)

    by : (b : Bool) → is_date s.labels ≡ b → cond b (eqb (operand_place s) 0) (nat_lt (operand_place s) (length s.takes)) ≡ true → operand_place s < count args
    by true is e = let z = eqb-true (operand_place s) 0 e in let h = some_argument args (of_date s.labels is own) in omega (arith, z, h)
    by false is e = let h = less_by_test (operand_place s) (length s.takes) e in let g = enough s.further (length s.takes) (count args) counted in omega (arith, h, g)

-- an effect that isn't a source is silent where its operand is
by_effect : (effect : LabelEffect) (args : Trees) (operand : Bool) → gives_by_itself effect args ≡ false → operand ≡ true → effect_can_be_silent effect args operand ≡ true
by_effect Maps args operand own e = e
by_effect Keeps args operand own e = e
by_effect Groups args operand own e = e
by_effect CountValues args operand own e = e
by_effect Date Nil operand own e = absurd (cc)
by_effect Date (Next x xs) operand own e = e
by_effect Absent args operand own e = absurd (cc)
by_effect LabelReplace args operand own e = e
by_effect LabelJoin args operand own e = e
by_effect HistogramQuantile args operand own e = e
by_effect Bare args operand own e = absurd (cc)

needs_some : (effect : LabelEffect) (args : Trees) → gives_by_itself effect args ≡ false → needs_none effect ≡ false
needs_some Maps args own = refl
needs_some Keeps args own = refl
needs_some Groups args own = refl
needs_some CountValues args own = refl
needs_some Date args own = refl
needs_some Absent args own = refl
needs_some LabelReplace args own = refl
needs_some LabelJoin args own = refl
needs_some HistogramQuantile args own = refl
needs_some Bare args own = own

abbrev PlaceSampled : Signature → ℕ → Type 0
PlaceSampled s k = option_map_or takes_samples (wanted s k) false ≡ true

place_sampled : (s : Signature) → fits_table s ≡ true → needs_none s.labels ≡ false → PlaceSampled s (operand_place s)
place_sampled s fits needs = by (needs_none s.labels) needs (and_parts (operand_fits s) (operand_taken s) fits).0
  where
    by : (k : Bool) → k ≡ false → (k || option_map_or takes_samples (wanted s (operand_place s)) false) ≡ true → PlaceSampled s (operand_place s)
    by true e f = absurd (cc)
    by false e f = f

wanted_sampled : (s : Signature) (k : ℕ) (t : ExprType) → wanted s k ≡ Some t → PlaceSampled s k → takes_samples t ≡ true
wanted_sampled s k t is e = sym (ap (λ (o : Option ExprType). option_map_or takes_samples o false) is) ∙ e

both_sides : (left right : Tree) (op : Op) (l r : ExprType) → is_scalar_part left ≡ is_scalar l → is_scalar_part right ≡ is_scalar r → takes_side op l ≡ true → takes_side op r ≡ true → is_scalar (joined l r) ≡ false
    → (takes_samples l ≡ true → is_scalar_part left ≡ false → can_be_silent left ≡ true) → (takes_samples r ≡ true → is_scalar_part right ≡ false → can_be_silent right ≡ true)
    → Rattle.lf_shown.specs.Silence.binary_can_be_silent (is_scalar_part left) (is_scalar_part right) (can_be_silent left) (can_be_silent right) ≡ true
both_sides left right op l r el er tl tr none of_left of_right = by (is_scalar l) refl (is_scalar r) refl
  where
    silent_left : is_scalar l ≡ false → can_be_silent left ≡ true
    silent_left e = of_left (number_is_sampled l (side_is_number (Rattle.lf_ast.specs.Types.operands_of op) l tl) e) (el ∙ e)

    silent_right : is_scalar r ≡ false → can_be_silent right ≡ true
    silent_right e = of_right (number_is_sampled r (side_is_number (Rattle.lf_ast.specs.Types.operands_of op) r tr) e) (er ∙ e)

    goal : Bool → Bool → Type 0
    goal a b = Rattle.lf_shown.specs.Silence.binary_can_be_silent a b (can_be_silent left) (can_be_silent right) ≡ true

    by : (a : Bool) → is_scalar l ≡ a → (b : Bool) → is_scalar r ≡ b → goal (is_scalar_part left) (is_scalar_part right)
    by true a true b = absurd (clash _ (rw (a, b) refl) none)
    by false a true b = subst (λ x. goal x (is_scalar_part right)) (sym (el ∙ a)) (subst (λ y. goal false y) (sym (er ∙ b)) (silent_left a))
    by true a false b = subst (λ x. goal x (is_scalar_part right)) (sym (el ∙ a)) (subst (λ y. goal true y) (sym (er ∙ b)) (silent_right b))
    by false a false b = subst (λ x. goal x (is_scalar_part right)) (sym (el ∙ a)) (subst (λ y. goal false y) (sym (er ∙ b)) (rw (silent_left a, silent_right b) refl))

never_source : (op : Agg) (args : Trees) → gives_by_itself (aggregation op).labels args ≡ false
never_source Sum args = refl
never_source Min args = refl
never_source Max args = refl
never_source Avg args = refl
never_source Group args = refl
never_source Stddev args = refl
never_source Stdvar args = refl
never_source Count args = refl
never_source Quantile args = refl
never_source CountingValues args = refl
never_source Topk args = refl
never_source Bottomk args = refl

-- ---- expressions

mutual
  pub silent_by_type : (e : Tree) (t : ExprType) → HasType e t → IsSampled t → list_any is_source (standing_in e) ≡ false → can_be_silent e ≡ true
  silent_by_type (Number text span) t typed sampled none = absurd (clash _ sampled (ap takes_samples typed))
  silent_by_type (Text text span) t typed sampled none = absurd (clash _ sampled (ap takes_samples typed))
  silent_by_type (Selector name matchers sight span) t typed sampled none = refl
  silent_by_type (Subquery of sight span) t typed sampled none =
      silent_by_type of Vector typed.0 refl (no_sub of (scalar_by_type of Vector typed.0) none)
  silent_by_type (Paren of span) t typed sampled none =
      silent_by_type of t typed sampled (no_sub of (scalar_by_type of t typed ∙ sampled_is_no_scalar t sampled) none)
  silent_by_type (Unary minus of span) t typed sampled none =
      silent_by_type of t typed.0 sampled (no_sub of (scalar_by_type of t typed.0 ∙ sampled_is_no_scalar t sampled) none)
  silent_by_type (Binary op m left right span) t (l, r, tl, tr, takes_l, takes_r, placed, fit, is) sampled none =
      let parts = none_append is_source (outside_scalars left (standing_in left)) (outside_scalars right (standing_in right)) none in
      both_sides left right op l r (scalar_by_type left l tl) (scalar_by_type right r tr) takes_l takes_r (sym (ap is_scalar is) ∙ sampled_is_no_scalar t sampled)
      (λ s e. silent_by_type left l tl s (no_sub left e parts.0)) (λ s e. silent_by_type right r tr s (no_sub right e parts.1))
  silent_by_type (Call name args span) t (s, is, (counted, fit, gives)) sampled none =
      let e = Call name args span in
      let parts = or_parts (is_source e) (list_any is_source (arguments_standing args)) none in
      let own : gives_by_itself s.labels args ≡ false = sym (ap (λ o. Rattle.lf_open.specs.Holding.is_own_source o args) is) ∙ parts.0 in
      let needs = needs_some s.labels args own in
      let fits = function_fits name s is in
      ap (λ o. Rattle.lf_shown.specs.Silence.call_can_be_silent o args (argument_can_be_silent args)) is
      ∙ by_effect s.labels args (argument_can_be_silent args (operand_place s)) own
      (silent_argument args s (operand_place s) 0 fit (place_there s args fits counted needs own) (subst (PlaceSampled s) (let q : operand_place s ≡ 0 + operand_place s = omega arith in q) (place_sampled s fits needs)) parts.1)
  silent_by_type (Aggregate op grouping args span) t (counted, fit, gives) sampled none =
      let s = aggregation op in
      let parts = or_parts (is_source (Aggregate op grouping args span)) (list_any is_source (arguments_standing args)) none in
      let own : gives_by_itself (aggregation op).labels args ≡ false = never_source op args in
      let needs = needs_some (aggregation op).labels args own in
      let fits = aggregation_fits op in
      by_effect (aggregation op).labels args (argument_can_be_silent args (operand_place (aggregation op))) own
      (silent_argument args (aggregation op) (operand_place (aggregation op)) 0 fit (place_there (aggregation op) args fits counted needs own)
      (subst (PlaceSampled (aggregation op)) (let q : operand_place (aggregation op) ≡ 0 + operand_place (aggregation op) = omega arith in q) (place_sampled (aggregation op) fits needs)) parts.1)

  pub silent_argument : (args : Trees) (s : Signature) (k j : ℕ) → Fit args s j → k < count args → PlaceSampled s (j + k) → list_any is_source (arguments_standing args) ≡ false → argument_can_be_silent args k ≡ true
  silent_argument Nil s k j fit there sampled none = absurd (omega (arith, there))
  silent_argument (Next x xs) s zero j ((t, is, typed, named), later) there sampled none =
      let parts = none_append is_source (outside_scalars x (standing_in x)) (arguments_standing xs) none in
      let sample : takes_samples t ≡ true = wanted_sampled s j t is (subst (PlaceSampled s) (let q : j + 0 ≡ j = omega arith in q) sampled) in
      silent_by_type x t typed sample (no_sub x (scalar_by_type x t typed ∙ sampled_is_no_scalar t sample) parts.0)
  silent_argument (Next x xs) s (suc k) j (first, later) there sampled none =
      let parts = none_append is_source (outside_scalars x (standing_in x)) (arguments_standing xs) none in
      silent_argument xs s k (j + 1) later (omega (arith, there)) (subst (PlaceSampled s) (let q : j + suc k ≡ j + 1 + k = omega arith in q) sampled) parts.1

-- the operand of a call that needs one, and isn't of dates, is silent where no argument holds a call that gives a sample by itself
pub operand_silent : (s : Signature) (args : Trees) → fits_table s ≡ true → takes_count s (count args) ≡ true → Fit args s 0 → needs_none s.labels ≡ false → is_date s.labels ≡ false → list_any is_source (arguments_standing args) ≡ false → argument_can_be_silent args (operand_place s) ≡ true
operand_silent s args fits counted fit needs date none =
    let e = taken (needs_none s.labels) (is_date s.labels) needs date (and_parts (operand_fits s) (operand_taken s) fits).1 in
    let h = less_by_test (operand_place s) (length s.takes) e in
    let g = enough s.further (length s.takes) (count args) counted in
    silent_argument args s (operand_place s) 0 fit (omega (arith, h, g)) (subst (PlaceSampled s) (let q : operand_place s ≡ 0 + operand_place s = omega arith in q) (place_sampled s fits needs)) none
  where
    taken : (k d : Bool) → k ≡ false → d ≡ false → (k || cond d (eqb (operand_place s) 0) (nat_lt (operand_place s) (length s.takes))) ≡ true → nat_lt (operand_place s) (length s.takes) ≡ true
    taken true d e f h = absurd (cc)
    taken false true e f h = absurd (cc)
    taken false false e f h = h

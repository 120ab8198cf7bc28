-- What is given is given as any other list of the same samples too: a set is a list up to membership.
use Rattle.std.proofs.Common.{◌≡◌, inl, inr, ℕ, zero, suc, Bool, true, false, List, [], ◌∷◌, ◌++◌, Option, Some, None, refl, subst}
use Rattle.std.specs.List.{Contains}
use Rattle.lf_laws.proofs.Members.{here, none_in}
use Rattle.lf_ast.specs.Functions.{Signature, aggregation, function_named}
use Rattle.lf_ast.specs.Labels.{Labels}
use Rattle.lf_ast.specs.Rules.{RuleTree}
use Rattle.lf_ast.specs.Tree.{Tree, Trees, Number, Str, Selector, Subquery, Paren, Unary, Binary, Call, Aggregate, Nil, Next}
use Rattle.lf_ast.specs.declared.expr.Grouping.{Grouping}
use Rattle.lf_ast.specs.declared.expr.Grouping.TheVariants.{None as Ungrouped}
use Rattle.lf_ast.specs.declared.expr.Matching.{Matching}
use Rattle.lf_ast.specs.declared.expr.Op.{Op}
use Rattle.lf_ast.specs.declared.expr.Op.TheVariants as operator
use Rattle.lf_ast.specs.declared.functions.LabelEffect.{LabelEffect}
use Rattle.lf_ast.specs.declared.functions.LabelEffect.TheVariants.{Maps, Keeps, Groups, CountValues, Date, Absent, LabelReplace, LabelJoin, HistogramQuantile, Bare}
use Rattle.lf_ast.specs.Arguments.{text_at, texts_of}
use Rattle.lf_semantics.specs.Evaluation.{IsBare, IsGrouped, IsJoined, IsQuantile, IsReplaced, LosesName}
use Rattle.lf_semantics.specs.Grouped.{is_filter}
use Rattle.lf_semantics.specs.Parts.{Sought, is_scalar_part, operand_place, sought_in}
use Rattle.lf_semantics.specs.Strings.{Replacing, joining, replacing}
use Rattle.lf_witness.specs.Strict.{AreSame, ArgumentStrictlyEvaluates, From, IsCountedAsOne, IsOnlyWhereEmpty, IsSet, MadeApart, MadeTogether, Outcomes, Replaced, StrictAbsent, StrictBesideScalar, StrictBinary, StrictCall, StrictCombines, StrictDate, StrictEffect, StrictPairs, StrictSign, StrictlyEvaluates, last_buckets}
use Rattle.lf_witness.specs.StrictRuns.{RuleStrictlyGives, StepAdds, StrictlyStored}
use Rattle.lf_witness.proofs.SameSets.{chained}

-- with a list also each other list of its members
abbrev pub TakesSame : Outcomes → Type 0
TakesSame f = (R T : List Labels) → AreSame R T → f (Some R) → f (Some T)

from_same : (f : Outcomes) (by : List Labels → Outcomes) → ((P : List Labels) → TakesSame (by P)) → TakesSame (From f by)
from_same f by takes R T same (inl none) = absurd none.1
from_same f by takes R T same (inr some) = inr (some.0, some.1, takes some.0 R T same some.2)

apart_same : (becomes : Labels → Labels → Type 0) (P : List Labels) → TakesSame (MadeApart becomes P)
apart_same becomes P R T same is = (
  (λ s c. let r = is.0.0 s c in (r.0, r.1, same.0 r.0 r.2), λ r c. is.0.1 r (same.1 r c)),
  is.1,
)

together_same : (becomes : Labels → Labels → Type 0) (P : List Labels) → TakesSame (MadeTogether becomes P)
together_same becomes P R T same is = (λ s c. let r = is.0 s c in (r.0, r.1, same.0 r.0 r.2), λ r c. is.1 r (same.1 r c))

bare_same : TakesSame (IsSet IsBare)
bare_same R T same is = (same.0 _ is.0, λ r c. is.1 r (same.1 r c))

empty_same : (R T : List Labels) → AreSame R T → R ≡ [] → T ≡ []
empty_same R [] same e = refl
empty_same R (t ∷ T) same e = absurd (none_in t (subst (λ (l : List Labels). Contains l t) e (same.1 t (here t T))))

only_same : (one : Labels) (P : List Labels) → TakesSame (IsSet (IsOnlyWhereEmpty one P))
only_same one [] R T same is = (same.0 one is.0, λ r c. is.1 r (same.1 r c))
only_same one (s ∷ P) R T same is = empty_same R T same is

module _ (f : Outcomes) (takes : TakesSame f) where
  absent_same : (sought : Option Sought) → TakesSame (StrictAbsent sought f)
  absent_same sought R T same (inl none) = absurd none.1
  absent_same sought R T same (inr some) = inr (some.0, some.1, some.2, from_same f (λ P. IsSet (IsOnlyWhereEmpty some.1 P)) (only_same some.1) R T same some.3)

  replaced_same : (p : Replacing) → TakesSame (Replaced p f)
  replaced_same p R T same (inl none) = absurd none.1
  replaced_same p R T same (inr some) = inr (some.0, from_same f (MadeApart (IsReplaced p)) (apart_same (IsReplaced p)) R T same some.1)

  nameless_same : TakesSame (From f (MadeApart LosesName))
  nameless_same = from_same f (MadeApart LosesName) (apart_same LosesName)

  date_same : (args : Trees) → TakesSame (StrictDate args f)
  date_same Nil = bare_same
  date_same (Next x xs) = nameless_same

  effect_same : (labels : LabelEffect) (grouping : Grouping) (args : Trees) → TakesSame (StrictEffect labels grouping args f)
  effect_same Maps grouping args = nameless_same
  effect_same Keeps grouping args = takes
  effect_same Groups grouping args = from_same f (MadeTogether (IsGrouped grouping)) (together_same (IsGrouped grouping))
  effect_same CountValues grouping args =
      let x = text_at (texts_of args) 0 in
      from_same f (MadeTogether (IsCountedAsOne grouping x)) (together_same (IsCountedAsOne grouping x))
  effect_same Date grouping args = date_same args
  effect_same Absent grouping args = absent_same (sought_in args)
  effect_same LabelReplace grouping args = replaced_same (replacing (texts_of args))
  effect_same LabelJoin grouping args = let p = joining (texts_of args) in from_same f (MadeApart (IsJoined p)) (apart_same (IsJoined p))
  effect_same HistogramQuantile grouping args = from_same f (λ P. MadeApart IsQuantile (last_buckets P)) (λ P. apart_same IsQuantile (last_buckets P))
  effect_same Bare grouping args = bare_same

  beside_same : (filters : Bool) → TakesSame (StrictBesideScalar filters f)
  beside_same true = takes
  beside_same false = nameless_same

  sign_same : (minus : Bool) → TakesSame (StrictSign minus f)
  sign_same true = nameless_same
  sign_same false = takes

-- operators of two vectors

pairs_same : (op : Op) (m : Matching) (P Q : List Labels) → TakesSame (StrictPairs op m P Q)
pairs_same op m P Q R T same is = (
  (λ r c. is.0.0 r (same.1 r c), λ s t of_s of_t alike. same.0 _ (is.0.1 s t of_s of_t alike)),
  is.1,
  is.2,
)

combines_same : (m : Matching) (P Q : List Labels) (op : Op) → TakesSame (StrictCombines op m P Q)
combines_same m P Q operator.Add = pairs_same operator.Add m P Q
combines_same m P Q operator.Subtract = pairs_same operator.Subtract m P Q
combines_same m P Q operator.Multiply = pairs_same operator.Multiply m P Q
combines_same m P Q operator.Divide = pairs_same operator.Divide m P Q
combines_same m P Q operator.Modulo = pairs_same operator.Modulo m P Q
combines_same m P Q operator.Power = pairs_same operator.Power m P Q
combines_same m P Q operator.Atan2 = pairs_same operator.Atan2 m P Q
combines_same m P Q operator.Equal = pairs_same operator.Equal m P Q
combines_same m P Q operator.NotEqual = pairs_same operator.NotEqual m P Q
combines_same m P Q operator.LessOrEqual = pairs_same operator.LessOrEqual m P Q
combines_same m P Q operator.Less = pairs_same operator.Less m P Q
combines_same m P Q operator.GreaterOrEqual = pairs_same operator.GreaterOrEqual m P Q
combines_same m P Q operator.Greater = pairs_same operator.Greater m P Q
combines_same m P Q operator.And = λ R T same is. (λ s c partner. same.0 s (is.0 s c partner), λ r c. is.1 r (same.1 r c))
combines_same m P Q operator.Or = λ R T same is. (λ s c. same.0 s (is.0 s c), λ t c alone. same.0 t (is.1 t c alone), λ r c. is.2 r (same.1 r c))
combines_same m P Q operator.Unless = λ R T same is. (λ s c alone. same.0 s (is.0 s c alone), λ r c. is.1 r (same.1 r c))

module _ (op : Op) (m : Matching) (left right : Outcomes) (takes_left : TakesSame left) (takes_right : TakesSame right) where
  binary_same : (scalar_left scalar_right : Bool) → TakesSame (StrictBinary op m scalar_left scalar_right left right)
  binary_same true true = bare_same
  binary_same false true = beside_same left takes_left (is_filter op m)
  binary_same true false = beside_same right takes_right (is_filter op m)
  binary_same false false = from_same left (λ P. From right (StrictCombines op m P)) (λ P. from_same right (StrictCombines op m P) (λ Q. combines_same m P Q op))

call_same : (signature : Option Signature) (grouping : Grouping) (args : Trees) (argument : ℕ → Outcomes) → ((k : ℕ) → TakesSame (argument k)) → TakesSame (StrictCall signature grouping args argument)
call_same None grouping args argument takes = λ R T same none. none
call_same (Some s) grouping args argument takes = effect_same (argument (operand_place s)) (takes (operand_place s)) s.labels grouping args

-- expressions, rules and runs

module _ (W : List Labels) where
  mutual
    pub evaluates_same : (e : Tree) → TakesSame (StrictlyEvaluates W e)
    evaluates_same (Number text span) = bare_same
    evaluates_same (Str text span) = λ R T same none. none
    evaluates_same (Selector name matchers sight span) = λ R T same is. (λ s c named passes. same.0 s (is.0 s c named passes), λ s c. is.1 s (same.1 s c))
    evaluates_same (Subquery of sight span) = evaluates_same of
    evaluates_same (Paren of span) = evaluates_same of
    evaluates_same (Unary minus of span) = sign_same (StrictlyEvaluates W of) (evaluates_same of) minus
    evaluates_same (Binary op m left right span) = binary_same op m (StrictlyEvaluates W left) (StrictlyEvaluates W right) (evaluates_same left) (evaluates_same right) (is_scalar_part left) (is_scalar_part right)
    evaluates_same (Call name args span) = call_same (function_named name) Ungrouped args (ArgumentStrictlyEvaluates W args) (argument_same args)
    evaluates_same (Aggregate op grouping args span) = call_same (Some (aggregation op)) grouping args (ArgumentStrictlyEvaluates W args) (argument_same args)

    argument_same : (args : Trees) (k : ℕ) → TakesSame (ArgumentStrictlyEvaluates W args k)
    argument_same Nil k = λ R T same none. none
    argument_same (Next x xs) zero = evaluates_same x
    argument_same (Next x xs) (suc k) = argument_same xs k

  pub rule_same : (r : RuleTree) → TakesSame (RuleStrictlyGives W r)
  rule_same r R T same (inl none) = absurd none.1
  rule_same r R T same (inr some) = inr (some.0, evaluates_same r.expr R T same some.1)

pub run_same : (rules : List RuleTree) (W : List Labels) → TakesSame (StrictlyStored W rules)
run_same [] W = λ R T same is. chained W R T is same
run_same (r ∷ later) W = from_same (StepAdds W r) (λ A. StrictlyStored (W ++ A) later) (λ A. run_same later (W ++ A))

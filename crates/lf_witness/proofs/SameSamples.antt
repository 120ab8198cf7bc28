-- What is given is given over any other list of the same stored samples too.
use Rattle.std.proofs.Common.{inl, inr, ℕ, zero, suc, Bool, true, false, List, Option, Some, None}
use Rattle.lf_ast.specs.Functions.{Signature, aggregation, function_named}
use Rattle.lf_ast.specs.Labels.{Labels}
use Rattle.lf_ast.specs.Rules.{RuleTree}
use Rattle.lf_ast.specs.Tree.{Tree, Trees, Number, Str, Selector, Subquery, Paren, Unary, Binary, Call, Aggregate, Nil, Next}
use Rattle.lf_ast.specs.declared.expr.Grouping.{Grouping}
use Rattle.lf_ast.specs.declared.expr.Grouping.TheVariants.{None as Ungrouped}
use Rattle.lf_ast.specs.declared.expr.Matching.{Matching}
use Rattle.lf_ast.specs.declared.expr.Op.{Op}
use Rattle.lf_ast.specs.declared.functions.LabelEffect.{LabelEffect}
use Rattle.lf_ast.specs.declared.functions.LabelEffect.TheVariants.{Maps, Keeps, Groups, CountValues, Date, Absent, LabelReplace, LabelJoin, HistogramQuantile, Bare}
use Rattle.lf_ast.specs.Arguments.{text_at, texts_of}
use Rattle.lf_semantics.specs.Evaluation.{IsGrouped, IsJoined, IsQuantile, IsReplaced, LosesName}
use Rattle.lf_semantics.specs.Grouped.{is_filter}
use Rattle.lf_semantics.specs.Parts.{Sought, is_scalar_part, operand_place, sought_in}
use Rattle.lf_semantics.specs.Strings.{Replacing, joining, replacing}
use Rattle.lf_witness.specs.Strict.{AreSame, ArgumentStrictlyEvaluates, From, IsCountedAsOne, IsOnlyWhereEmpty, IsSet, MadeApart, MadeTogether, Outcomes, Replaced, StrictAbsent, StrictBesideScalar, StrictBinary, StrictCall, StrictCombines, StrictDate, StrictEffect, StrictSign, StrictlyEvaluates, last_buckets}
use Rattle.lf_witness.specs.StrictRuns.{RuleStrictlyGives}

-- what the one gives, the other gives
abbrev pub Into : Outcomes → Outcomes → Type 0
Into f g = (o : Option (List Labels)) → f o → g o

pub from_into : (f g : Outcomes) (by then : List Labels → Outcomes) → Into f g → ((P : List Labels) → Into (by P) (then P)) → Into (From f by) (From g then)
from_into f g by then operand result o (inl none) = inl (operand None none.0, none.1)
from_into f g by then operand result o (inr some) = inr (some.0, operand (Some some.0) some.1, result some.0 o some.2)

module _ (f g : Outcomes) (into : Into f g) where
  by_into : (by : List Labels → Outcomes) → Into (From f by) (From g by)
  by_into by = from_into f g by by into (λ P o is. is)

  absent_into : (sought : Option Sought) → Into (StrictAbsent sought f) (StrictAbsent sought g)
  absent_into sought o (inl none) = inl none
  absent_into sought o (inr some) = inr (some.0, some.1, some.2, by_into (λ P. IsSet (IsOnlyWhereEmpty some.1 P)) o some.3)

  replaced_into : (p : Replacing) → Into (Replaced p f) (Replaced p g)
  replaced_into p o (inl none) = inl none
  replaced_into p o (inr some) = inr (some.0, by_into (MadeApart (IsReplaced p)) o some.1)

  date_into : (args : Trees) → Into (StrictDate args f) (StrictDate args g)
  date_into Nil o is = is
  date_into (Next x xs) o is = by_into (MadeApart LosesName) o is

  effect_into : (labels : LabelEffect) (grouping : Grouping) (args : Trees) → Into (StrictEffect labels grouping args f) (StrictEffect labels grouping args g)
  effect_into Maps grouping args o is = by_into (MadeApart LosesName) o is
  effect_into Keeps grouping args o is = into o is
  effect_into Groups grouping args o is = by_into (MadeTogether (IsGrouped grouping)) o is
  effect_into CountValues grouping args o is = by_into (MadeTogether (IsCountedAsOne grouping (text_at (texts_of args) 0))) o is
  effect_into Date grouping args o is = date_into args o is
  effect_into Absent grouping args o is = absent_into (sought_in args) o is
  effect_into LabelReplace grouping args o is = replaced_into (replacing (texts_of args)) o is
  effect_into LabelJoin grouping args o is = by_into (MadeApart (IsJoined (joining (texts_of args)))) o is
  effect_into HistogramQuantile grouping args o is = by_into (λ P. MadeApart IsQuantile (last_buckets P)) o is
  effect_into Bare grouping args o is = is

  beside_into : (filters : Bool) → Into (StrictBesideScalar filters f) (StrictBesideScalar filters g)
  beside_into true o is = into o is
  beside_into false o is = by_into (MadeApart LosesName) o is

  pub sign_into : (minus : Bool) → Into (StrictSign minus f) (StrictSign minus g)
  sign_into true o is = by_into (MadeApart LosesName) o is
  sign_into false o is = into o is

module _ (op : Op) (m : Matching) (left left_too right right_too : Outcomes) (lefts : Into left left_too) (rights : Into right right_too) where
  pub binary_into : (scalar_left scalar_right : Bool) → Into (StrictBinary op m scalar_left scalar_right left right) (StrictBinary op m scalar_left scalar_right left_too right_too)
  binary_into true true o is = is
  binary_into false true o is = beside_into left left_too lefts (is_filter op m) o is
  binary_into true false o is = beside_into right right_too rights (is_filter op m) o is
  binary_into false false o is =
      from_into left left_too (λ P. From right (StrictCombines op m P)) (λ P. From right_too (StrictCombines op m P)) lefts (λ P. by_into right right_too rights (StrictCombines op m P)) o is

pub call_into : (signature : Option Signature) (grouping : Grouping) (args : Trees) (f g : ℕ → Outcomes) → ((k : ℕ) → Into (f k) (g k)) → Into (StrictCall signature grouping args f) (StrictCall signature grouping args g)
call_into None grouping args f g into o is = is
call_into (Some s) grouping args f g into o is = effect_into (f (operand_place s)) (g (operand_place s)) (into (operand_place s)) s.labels grouping args o is

module _ (W V : List Labels) (same : AreSame W V) where
  mutual
    pub evaluates_into : (e : Tree) → Into (StrictlyEvaluates W e) (StrictlyEvaluates V e)
    evaluates_into (Number text span) o is = is
    evaluates_into (Str text span) o is = is
    evaluates_into (Selector name matchers sight span) None is = is
    evaluates_into (Selector name matchers sight span) (Some R) is = (
      λ s c named passes. is.0 s (same.1 s c) named passes,
      λ s c. let passes = is.1 s c in (same.0 s passes.0, passes.1, passes.2),
    )
    evaluates_into (Subquery of sight span) o is = evaluates_into of o is
    evaluates_into (Paren of span) o is = evaluates_into of o is
    evaluates_into (Unary minus of span) o is = sign_into (StrictlyEvaluates W of) (StrictlyEvaluates V of) (evaluates_into of) minus o is
    evaluates_into (Binary op m left right span) o is =
        binary_into op m (StrictlyEvaluates W left) (StrictlyEvaluates V left) (StrictlyEvaluates W right) (StrictlyEvaluates V right) (evaluates_into left) (evaluates_into right) (is_scalar_part left) (is_scalar_part right) o is
    evaluates_into (Call name args span) o is = call_into (function_named name) Ungrouped args (ArgumentStrictlyEvaluates W args) (ArgumentStrictlyEvaluates V args) (argument_into args) o is
    evaluates_into (Aggregate op grouping args span) o is = call_into (Some (aggregation op)) grouping args (ArgumentStrictlyEvaluates W args) (ArgumentStrictlyEvaluates V args) (argument_into args) o is

    argument_into : (args : Trees) (k : ℕ) → Into (ArgumentStrictlyEvaluates W args k) (ArgumentStrictlyEvaluates V args k)
    argument_into Nil k o is = is
    argument_into (Next x xs) zero o is = evaluates_into x o is
    argument_into (Next x xs) (suc k) o is = argument_into xs k o is

  pub rule_into : (r : RuleTree) → Into (RuleStrictlyGives W r) (RuleStrictlyGives V r)
  rule_into r o (inl none) = inl none
  rule_into r o (inr some) = inr (some.0, evaluates_into r.expr o some.1)

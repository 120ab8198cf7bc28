-- What the strict evaluation gives of an expression, the relational evaluation may give.
use Rattle.std.proofs.Common.{◌≡◌, ◌≢◌, ◌⊎◌, inl, inr, ℕ, zero, suc, Bool, true, false, List, [], ◌∷◌, Option, Some, None, codes, refl, sym, subst, true≢false}
use Rattle.std.specs.List.{Contains}
use Rattle.lf_laws.proofs.Members.{none_in, same_true}
use Rattle.lf_ast.specs.Functions.{Signature, aggregation, function_named}
use Rattle.lf_ast.specs.Labels.{Bytes, Labels}
use Rattle.lf_ast.specs.Rules.{RuleTree}
use Rattle.lf_ast.specs.Tree.{Tree, Trees, Number, Str, Selector, Subquery, Paren, Unary, Binary, Call, Aggregate, Nil, Next}
use Rattle.lf_ast.specs.declared.expr.Grouping.{Grouping}
use Rattle.lf_ast.specs.declared.expr.Grouping.TheVariants.{None as Ungrouped}
use Rattle.lf_ast.specs.declared.expr.Matching.{Matching}
use Rattle.lf_ast.specs.declared.expr.Op.{Op}
use Rattle.lf_ast.specs.declared.expr.Op.TheVariants as operator
use Rattle.lf_ast.specs.declared.functions.LabelEffect.{LabelEffect}
use Rattle.lf_ast.specs.declared.functions.LabelEffect.TheVariants.{Maps, Keeps, Groups, CountValues, Date, Absent, LabelReplace, LabelJoin, HistogramQuantile, Bare}
use Rattle.lf_ast.specs.Arguments.{text_at, texts_of}
use Rattle.lf_semantics.specs.Evaluation.{AreAllPairs, BesideScalar, BinaryGives, CallGives, Combines, DateGives, EffectGives, Evaluates, ArgumentEvaluates, AbsentGives, IsCounted, IsGrouped, IsJoined, IsQuantile, IsReplaced, LosesName, Made, PairsGive, SignGives, SomeMade}
use Rattle.lf_semantics.specs.Grouped.{is_filter}
use Rattle.lf_semantics.specs.Parts.{Sought, is_scalar_part, operand_place, sought_in}
use Rattle.lf_semantics.specs.Strings.{joining, replacing}
use Rattle.lf_semantics.specs.Worlds.{RuleGives}
use Rattle.lf_semantics.proofs.Members.{of_filter}
use Rattle.lf_witness.specs.Strict.{IsSet, ArgumentStrictlyEvaluates, From, IsCountedAsOne, IsOnlyWhereEmpty, MadeApart, MadeTogether, Outcomes, StrictAbsent, StrictBesideScalar, StrictBinary, StrictCall, StrictCombines, StrictDate, StrictEffect, StrictSign, StrictlyEvaluates, last_buckets}
use Rattle.lf_witness.specs.StrictRuns.{RuleStrictlyGives}

-- what may be given
abbrev pub Sets : Type 1
Sets = List Labels → Type 0

-- a set that is given was made of a set of the operand
pub given : (operand : Outcomes) (by : List Labels → Outcomes) (R : List Labels) → From operand by (Some R) → (P : List Labels) × operand (Some P) × by P (Some R)
given operand by R (inl none) = absurd none.1
given operand by R (inr some) = some

-- the strict operand gives only what the relational one may give
abbrev pub Within : Outcomes → Sets → Type 0
Within strict gives = (P : List Labels) → strict (Some P) → gives P

module _ (strict : Outcomes) (gives : Sets) (within : Within strict gives) where
  made : (becomes : Labels → Labels → Type 0) (R : List Labels) → From strict (MadeApart becomes) (Some R) → Made becomes gives R
  made becomes R from = let x = given strict (MadeApart becomes) R from in (x.0, within x.0 x.1, x.2.0)

  some_made : (becomes : Labels → Labels → Type 0) (R : List Labels) → From strict (MadeApart becomes) (Some R) → SomeMade becomes gives R
  some_made becomes R from = let x = given strict (MadeApart becomes) R from in (x.0, within x.0 x.1, x.2.0.1)

  one_is_a_text : codes "1" ≢ []
  one_is_a_text e = true≢false (sym (same_true (codes "1") [] e))

  counted : (grouping : Grouping) (x : Bytes) (R : List Labels) → From strict (MadeTogether (IsCountedAsOne grouping x)) (Some R) → SomeMade (IsCounted grouping x) gives R
  counted grouping x R from =
      let made = given strict (MadeTogether (IsCountedAsOne grouping x)) R from in
      (made.0, within made.0 made.1, λ r c. let s = made.2.1 r c in (s.0, s.1, (codes "1", inl one_is_a_text, s.2)))

  dates : (args : Trees) (R : List Labels) → StrictDate args strict (Some R) → DateGives args gives R
  dates Nil R is = is
  dates (Next x xs) R from = some_made LosesName R from

  only_one : (one : Labels) (P R : List Labels) → IsOnlyWhereEmpty one P R → (r : Labels) → Contains R r → r ≡ one
  only_one one [] R is r c = is.1 r c
  only_one one (s ∷ P) R is r c = absurd (none_in r (subst (λ (l : List Labels). Contains l r) is c))

  absent : (sought : Option Sought) (R : List Labels) → StrictAbsent sought strict (Some R) → AbsentGives sought R
  absent sought R (inl none) = absurd none.1
  absent sought R (inr some) =
      let x = given strict (λ P. IsSet (IsOnlyWhereEmpty some.1 P)) R some.3 in
      (some.1, some.2, only_one some.1 x.0 R x.2)

  effect : (labels : LabelEffect) (grouping : Grouping) (args : Trees) (R : List Labels) → StrictEffect labels grouping args strict (Some R) → EffectGives labels grouping args gives R
  effect Maps grouping args R from = some_made LosesName R from
  effect Keeps grouping args R is = (R, within R is, λ r c. (r, c, refl))
  effect Groups grouping args R from = let x = given strict (MadeTogether (IsGrouped grouping)) R from in (x.0, within x.0 x.1, x.2)
  effect CountValues grouping args R from = counted grouping (text_at (texts_of args) 0) R from
  effect Date grouping args R is = dates args R is
  effect Absent grouping args R is = absent (sought_in args) R is
  effect LabelReplace grouping args R (inl none) = absurd none.1
  effect LabelReplace grouping args R (inr some) = made (IsReplaced (replacing (texts_of args))) R some.1
  effect LabelJoin grouping args R from = made (IsJoined (joining (texts_of args))) R from
  effect HistogramQuantile grouping args R from =
      let x = given strict (λ P. MadeApart IsQuantile (last_buckets P)) R from in
      (x.0, within x.0 x.1, λ r c. let s = x.2.0.1 r c in (s.0, (of_filter _ x.0 s.0 s.1).0, s.2))
  effect Bare grouping args R is = is

  beside_scalar : (filters : Bool) (R : List Labels) → StrictBesideScalar filters strict (Some R) → BesideScalar filters gives R
  beside_scalar true R is = (R, within R is, λ r c. (r, c, refl))
  beside_scalar false R from = made LosesName R from

  signed : (minus : Bool) (R : List Labels) → StrictSign minus strict (Some R) → SignGives minus gives R
  signed true R from = made LosesName R from
  signed false R is = within R is

-- operators of two vectors

pairs : (filters : Bool) (op : Op) (m : Matching) (P Q R : List Labels) → AreAllPairs op m P Q R → PairsGive filters op m P Q R
pairs true op m P Q R all = all.0
pairs false op m P Q R all = all

combined : (op : Op) (m : Matching) (P Q R : List Labels) → StrictCombines op m P Q (Some R) → Combines op m P Q R
combined operator.Add m P Q R is = pairs (is_filter operator.Add m) operator.Add m P Q R is.0
combined operator.Subtract m P Q R is = pairs (is_filter operator.Subtract m) operator.Subtract m P Q R is.0
combined operator.Multiply m P Q R is = pairs (is_filter operator.Multiply m) operator.Multiply m P Q R is.0
combined operator.Divide m P Q R is = pairs (is_filter operator.Divide m) operator.Divide m P Q R is.0
combined operator.Modulo m P Q R is = pairs (is_filter operator.Modulo m) operator.Modulo m P Q R is.0
combined operator.Power m P Q R is = pairs (is_filter operator.Power m) operator.Power m P Q R is.0
combined operator.Atan2 m P Q R is = pairs (is_filter operator.Atan2 m) operator.Atan2 m P Q R is.0
combined operator.Equal m P Q R is = pairs (is_filter operator.Equal m) operator.Equal m P Q R is.0
combined operator.NotEqual m P Q R is = pairs (is_filter operator.NotEqual m) operator.NotEqual m P Q R is.0
combined operator.LessOrEqual m P Q R is = pairs (is_filter operator.LessOrEqual m) operator.LessOrEqual m P Q R is.0
combined operator.Less m P Q R is = pairs (is_filter operator.Less m) operator.Less m P Q R is.0
combined operator.GreaterOrEqual m P Q R is = pairs (is_filter operator.GreaterOrEqual m) operator.GreaterOrEqual m P Q R is.0
combined operator.Greater m P Q R is = pairs (is_filter operator.Greater m) operator.Greater m P Q R is.0
combined operator.And m P Q R is = is
combined operator.Or m P Q R is = is
combined operator.Unless m P Q R is = is

module _ (op : Op) (m : Matching) (left right : Outcomes) (gives_left gives_right : Sets) (within_left : Within left gives_left) (within_right : Within right gives_right) where
  both : (R : List Labels) → From left (λ P. From right (StrictCombines op m P)) (Some R) → (P : List Labels) × (Q : List Labels) × gives_left P × gives_right Q × Combines op m P Q R
  both R from =
      let x = given left (λ P. From right (StrictCombines op m P)) R from in
      let y = given right (StrictCombines op m x.0) R x.2 in
      (x.0, y.0, within_left x.0 x.1, within_right y.0 y.1, combined op m x.0 y.0 R y.2)

  binary : (scalar_left scalar_right : Bool) (R : List Labels) → StrictBinary op m scalar_left scalar_right left right (Some R) → BinaryGives op m scalar_left scalar_right gives_left gives_right R
  binary true true R is = is
  binary false true R is = beside_scalar left gives_left within_left (is_filter op m) R is
  binary true false R is = beside_scalar right gives_right within_right (is_filter op m) R is
  binary false false R is = both R is

called : (signature : Option Signature) (grouping : Grouping) (args : Trees) (strict : ℕ → Outcomes) (gives : ℕ → Sets) → ((k : ℕ) → Within (strict k) (gives k)) → (R : List Labels) → StrictCall signature grouping args strict (Some R) → CallGives signature grouping args gives R
called None grouping args strict gives within R is = is
called (Some s) grouping args strict gives within R is = effect (strict (operand_place s)) (gives (operand_place s)) (within (operand_place s)) s.labels grouping args R is

-- expressions

module _ (W S N : List Labels) (samples : (s : Labels) → Contains W s → Contains S s ⊎ Contains N s) where
  mutual
    -- what the strict evaluation gives over W, whose samples are scraped ones and recorded ones, the relational evaluation may give over these
    pub strict_is_relational : (e : Tree) → Within (StrictlyEvaluates W e) (Evaluates S N e)
    strict_is_relational (Number text span) R is = is
    strict_is_relational (Str text span) R is = is
    strict_is_relational (Selector name matchers sight span) R is = λ s c. let passes = is.1 s c in (samples s passes.0, passes.1, passes.2)
    strict_is_relational (Subquery of sight span) R is = λ s c. (R, strict_is_relational of R is, c)
    strict_is_relational (Paren of span) R is = strict_is_relational of R is
    strict_is_relational (Unary minus of span) R is = signed (StrictlyEvaluates W of) (Evaluates S N of) (strict_is_relational of) minus R is
    strict_is_relational (Binary op m left right span) R is =
        binary op m (StrictlyEvaluates W left) (StrictlyEvaluates W right) (Evaluates S N left) (Evaluates S N right) (strict_is_relational left) (strict_is_relational right) (is_scalar_part left) (is_scalar_part right) R is
    strict_is_relational (Call name args span) R is = called (function_named name) Ungrouped args (ArgumentStrictlyEvaluates W args) (ArgumentEvaluates S N args) (argument_is_relational args) R is
    strict_is_relational (Aggregate op grouping args span) R is = called (Some (aggregation op)) grouping args (ArgumentStrictlyEvaluates W args) (ArgumentEvaluates S N args) (argument_is_relational args) R is

    argument_is_relational : (args : Trees) (k : ℕ) → Within (ArgumentStrictlyEvaluates W args k) (ArgumentEvaluates S N args k)
    argument_is_relational Nil k R is = is
    argument_is_relational (Next x xs) zero R is = strict_is_relational x R is
    argument_is_relational (Next x xs) (suc k) R is = argument_is_relational xs k R is

  pub rule_is_relational : (r : RuleTree) → Within (RuleStrictlyGives W r) (RuleGives S N r)
  rule_is_relational r R (inl none) = absurd none.1
  rule_is_relational r R (inr some) = (some.0, strict_is_relational r.expr R some.1)

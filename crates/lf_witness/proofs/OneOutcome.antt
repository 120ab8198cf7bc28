-- An expression has one outcome at most over stored samples: one set, or None.
use Rattle.std.proofs.Common.{◌≡◌, inl, inr, ℕ, zero, suc, Bool, true, false, List, [], ◌∷◌, Option, Some, None, codes, refl, sym, ◌∙◌, subst}
use Rattle.std.specs.List.{Contains}
use Rattle.std.specs.Str.{bytes_eq}
use Rattle.lf_laws.proofs.Members.{here, none_in}
use Rattle.lf_ast.specs.Functions.{Signature, aggregation, function_named}
use Rattle.lf_ast.specs.Labels.{Bytes, Labels}
use Rattle.lf_ast.specs.Tree.{Tree, Trees, Number, Str, Selector, Subquery, Paren, Unary, Binary, Call, Aggregate, Nil, Next}
use Rattle.lf_ast.specs.declared.expr.Group.{Group}
use Rattle.lf_ast.specs.declared.expr.Group.TheVariants.{One, Left, Right}
use Rattle.lf_ast.specs.declared.expr.Grouping.{Grouping}
use Rattle.lf_ast.specs.declared.expr.Grouping.TheVariants.{None as Ungrouped}
use Rattle.lf_ast.specs.declared.expr.Matching.{Matching}
use Rattle.lf_ast.specs.declared.expr.Op.{Op}
use Rattle.lf_ast.specs.declared.expr.Op.TheVariants as operator
use Rattle.lf_ast.specs.declared.functions.LabelEffect.{LabelEffect}
use Rattle.lf_ast.specs.declared.functions.LabelEffect.TheVariants.{Maps, Keeps, Groups, CountValues, Date, Absent, LabelReplace, LabelJoin, HistogramQuantile, Bare}
use Rattle.lf_ast.specs.Arguments.{text_at, texts_of}
use Rattle.lf_semantics.specs.Evaluation.{AreAllPairs, AreEither, AreMade, AreMatched, AreUnmatched, HasPartner, IsBare, IsGrouped, IsJoined, IsQuantile, IsReplaced, LosesName}
use Rattle.lf_semantics.specs.Grouped.{is_filter, out}
use Rattle.lf_semantics.specs.Parts.{Sought, is_scalar_part, operand_place, sought_in}
use Rattle.lf_semantics.specs.Strings.{Replacing, joining, replacing}
use Rattle.lf_semantics.specs.Texts.{value_of}
use Rattle.lf_semantics.proofs.Members.{in_filter, of_filter}
use Rattle.lf_witness.specs.Strict.{AreSame, AreSelected, ArgumentStrictlyEvaluates, Coincide, From, HasOneOutcome, HasTwoAlike, IsAmbiguous, IsCountedAsOne, IsNone, IsOnlyWhereEmpty, IsSameOutcome, IsSet, MadeApart, MadeTogether, Outcomes, PairsCoincide, Replaced, StrictAbsent, StrictBesideScalar, StrictBinary, StrictCall, StrictCombines, StrictDate, StrictEffect, StrictPairs, StrictSign, StrictlyEvaluates, last_buckets}
use Rattle.lf_witness.proofs.OneSample.{BecomesOne, absent_one, replaced_one}
use Rattle.lf_witness.proofs.SameSets.{turned}

-- ways of giving, from one set

-- from one set one outcome at most
abbrev pub Respects : (List Labels → Outcomes) → Type 0
Respects by = (P Q : List Labels) → AreSame P Q → (o p : Option (List Labels)) → by P o → by Q p → IsSameOutcome o p

pub both_none : (o p : Option (List Labels)) → IsNone o → IsNone p → IsSameOutcome o p
both_none None None a b = tt
both_none None (Some R) a b = absurd b
both_none (Some R) p a b = absurd a

pub from_one : (f : Outcomes) (by : List Labels → Outcomes) → HasOneOutcome f → Respects by → HasOneOutcome (From f by)
from_one f by one respects o p (inl a) (inl b) = both_none o p a.1 b.1
from_one f by one respects o p (inl a) (inr b) = absurd (one None (Some b.0) a.0 b.1)
from_one f by one respects o p (inr a) (inl b) = absurd (one (Some a.0) None a.1 b.0)
from_one f by one respects o p (inr a) (inr b) = respects a.0 b.0 (one (Some a.0) (Some b.0) a.1 b.1) o p a.2 b.2

-- the members of what is made of a set are members of what is made of the same set
abbrev Determines : (List Labels → List Labels → Type 0) → Type 0
Determines sets = (P Q R T : List Labels) → AreSame P Q → sets P R → sets Q T → (s : Labels) → Contains R s → Contains T s

pub set_respects : (sets : List Labels → List Labels → Type 0) → Determines sets → Respects (λ P. IsSet (sets P))
set_respects sets determines P Q same None p a b = absurd a
set_respects sets determines P Q same (Some R) None a b = absurd b
set_respects sets determines P Q same (Some R) (Some T) a b = (determines P Q R T same a b, determines Q P T R (turned P Q same) b a)

-- a set alone
set_one : (sets : List Labels → Type 0) → ((R T : List Labels) → sets R → sets T → (s : Labels) → Contains R s → Contains T s) → HasOneOutcome (IsSet sets)
set_one sets determines None p a b = absurd a
set_one sets determines (Some R) None a b = absurd b
set_one sets determines (Some R) (Some T) a b = (determines R T a b, determines T R b a)

made_determines : (becomes : Labels → Labels → Type 0) → BecomesOne becomes → Determines (AreMade becomes)
made_determines becomes one P Q R T same a b r c =
    let from = a.1 r c in
    let to = b.0 from.0 (same.0 from.0 from.1) in
    subst (Contains T) (one from.0 to.0 r to.1 from.2) to.2

together_respects : (becomes : Labels → Labels → Type 0) → BecomesOne becomes → Respects (MadeTogether becomes)
together_respects becomes one = set_respects (AreMade becomes) (made_determines becomes one)

coincide_same : (becomes : Labels → Labels → Type 0) (P Q : List Labels) → AreSame P Q → Coincide becomes P → Coincide becomes Q
coincide_same becomes P Q same (s, t, r, of_s, of_t, other, from_s, from_t) = (s, t, r, same.0 s of_s, same.0 t of_t, other, from_s, from_t)

pub apart_respects : (becomes : Labels → Labels → Type 0) → BecomesOne becomes → Respects (MadeApart becomes)
apart_respects becomes one P Q same None None a b = tt
apart_respects becomes one P Q same None (Some T) a b = absurd (b.1 (coincide_same becomes P Q same a))
apart_respects becomes one P Q same (Some R) None a b = absurd (a.1 (coincide_same becomes Q P (turned P Q same) b))
apart_respects becomes one P Q same (Some R) (Some T) a b = (made_determines becomes one P Q R T same a.0 b.0, made_determines becomes one Q P T R (turned P Q same) b.0 a.0)

bare_one : HasOneOutcome (IsSet IsBare)
bare_one = set_one IsBare (λ R T a b s c. subst (Contains T) (sym (a.1 s c)) b.0)

-- constructs

loses_one : BecomesOne LosesName
loses_one s r t a b = a ∙ sym b

grouped_one : (grouping : Grouping) → BecomesOne (IsGrouped grouping)
grouped_one grouping s r t a b = a ∙ sym b

counted_one : (grouping : Grouping) (x : Bytes) → BecomesOne (IsCountedAsOne grouping x)
counted_one grouping x s r t a b = a ∙ sym b

quantile_one : BecomesOne IsQuantile
quantile_one s r t a b = a.1 ∙ sym b.1

buckets_same : (P Q : List Labels) → AreSame P Q → AreSame (last_buckets P) (last_buckets Q)
buckets_same P Q same = (one_way P Q same.0, one_way Q P same.1)
  where
    one_way : (P Q : List Labels) → ((s : Labels) → Contains P s → Contains Q s) → (s : Labels) → Contains (last_buckets P) s → Contains (last_buckets Q) s
    one_way P Q within s c = let (old, last) = of_filter (λ s. bytes_eq (value_of s (codes "le")) (codes "+Inf")) P s c in in_filter (λ s. bytes_eq (value_of s (codes "le")) (codes "+Inf")) Q s (within s old) last

quantile_respects : Respects (λ P. MadeApart IsQuantile (last_buckets P))
quantile_respects P Q same o p a b = apart_respects IsQuantile quantile_one (last_buckets P) (last_buckets Q) (buckets_same P Q same) o p a b

only_where_empty : (one other : Labels) → one ≡ other → (P Q R T : List Labels) → AreSame P Q → IsOnlyWhereEmpty one P R → IsOnlyWhereEmpty other Q T → (s : Labels) → Contains R s → Contains T s
only_where_empty one other e [] [] R T same a b s c = subst (Contains T) (sym (a.1 s c ∙ e)) b.0
only_where_empty one other e [] (q ∷ Q) R T same a b s c = absurd (none_in q (same.1 q (here q Q)))
only_where_empty one other e (p ∷ P) Q R T same a b s c = absurd (none_in s (subst (λ (l : List Labels). Contains l s) a c))

module _ (f : Outcomes) (one : HasOneOutcome f) where
  shut_absent : (a b : Labels) → a ≡ b → (o p : Option (List Labels)) → From f (λ P. IsSet (IsOnlyWhereEmpty a P)) o → From f (λ P. IsSet (IsOnlyWhereEmpty b P)) p → IsSameOutcome o p
  shut_absent a b e o p x y =
      from_one f (λ P. IsSet (IsOnlyWhereEmpty b P)) one (set_respects (IsOnlyWhereEmpty b) (only_where_empty b b refl)) o p (subst (λ z. From f (λ P. IsSet (IsOnlyWhereEmpty z P)) o) e x) y

  absent_outcome : (sought : Option Sought) → HasOneOutcome (StrictAbsent sought f)
  absent_outcome sought o p (inl a) (inl b) = both_none o p a.1 b.1
  absent_outcome sought o p (inl a) (inr b) = absurd (b.0 a.0)
  absent_outcome sought o p (inr a) (inl b) = absurd (a.0 b.0)
  absent_outcome sought o p (inr a) (inr b) = shut_absent a.1 b.1 (absent_one sought a.0 a.1 b.1 a.2 b.2) o p a.3 b.3

  replaced_outcome : (p : Replacing) → HasOneOutcome (Replaced p f)
  replaced_outcome p o q (inl a) (inl b) = both_none o q a.1 b.1
  replaced_outcome p o q (inl a) (inr b) = absurd (a.0 b.0)
  replaced_outcome p o q (inr a) (inl b) = absurd (b.0 a.0)
  replaced_outcome p o q (inr a) (inr b) = from_one f (MadeApart (IsReplaced p)) one (apart_respects (IsReplaced p) (replaced_one p a.0)) o q a.1 b.1

  without_name_outcome : HasOneOutcome (From f (MadeApart LosesName))
  without_name_outcome = from_one f (MadeApart LosesName) one (apart_respects LosesName loses_one)

  date_outcome : (args : Trees) → HasOneOutcome (StrictDate args f)
  date_outcome Nil = bare_one
  date_outcome (Next x xs) = without_name_outcome

  effect_outcome : (labels : LabelEffect) (grouping : Grouping) (args : Trees) → HasOneOutcome (StrictEffect labels grouping args f)
  effect_outcome Maps grouping args = without_name_outcome
  effect_outcome Keeps grouping args = one
  effect_outcome Groups grouping args = from_one f (MadeTogether (IsGrouped grouping)) one (together_respects (IsGrouped grouping) (grouped_one grouping))
  effect_outcome CountValues grouping args =
      let x = text_at (texts_of args) 0 in
      from_one f (MadeTogether (IsCountedAsOne grouping x)) one (together_respects (IsCountedAsOne grouping x) (counted_one grouping x))
  effect_outcome Date grouping args = date_outcome args
  effect_outcome Absent grouping args = absent_outcome (sought_in args)
  effect_outcome LabelReplace grouping args = replaced_outcome (replacing (texts_of args))
  effect_outcome LabelJoin grouping args =
      let p = joining (texts_of args) in
      from_one f (MadeApart (IsJoined p)) one (apart_respects (IsJoined p) (λ s r t a b. a ∙ sym b))
  effect_outcome HistogramQuantile grouping args = from_one f (λ P. MadeApart IsQuantile (last_buckets P)) one quantile_respects
  effect_outcome Bare grouping args = bare_one

  beside_outcome : (filters : Bool) → HasOneOutcome (StrictBesideScalar filters f)
  beside_outcome true = one
  beside_outcome false = without_name_outcome

  sign_outcome : (minus : Bool) → HasOneOutcome (StrictSign minus f)
  sign_outcome true = without_name_outcome
  sign_outcome false = one

-- operators of two vectors, over the same sets

module _ (m : Matching) where
  partner_same : (P Q : List Labels) → AreSame P Q → (s : Labels) → HasPartner m P s → HasPartner m Q s
  partner_same P Q same s (t, of_t, alike) = (t, same.0 t of_t, alike)

  alike_same : (P Q : List Labels) → AreSame P Q → HasTwoAlike m P → HasTwoAlike m Q
  alike_same P Q same (s, t, of_s, of_t, other, alike) = (s, t, same.0 s of_s, same.0 t of_t, other, alike)

  module _ (P Q A B : List Labels) (left : AreSame P Q) (right : AreSame A B) where
    ambiguous_same : (group : Group) → IsAmbiguous group m P A → IsAmbiguous group m Q B
    ambiguous_same One (inl a) = inl (alike_same P Q left a)
    ambiguous_same One (inr a) = inr (alike_same A B right a)
    ambiguous_same Left a = alike_same A B right a
    ambiguous_same Right a = alike_same P Q left a

    pairs_same : (op : Op) → PairsCoincide (out op m) m P A → PairsCoincide (out op m) m Q B
    pairs_same op (s, t, u, v, one, another, other, result) = (
      s,
      t,
      u,
      v,
      (left.0 s one.0, right.0 t one.1, one.2),
      (left.0 u another.0, right.0 v another.1, another.2),
      other,
      result,
    )

    pairs_determine : (op : Op) (R T : List Labels) → AreAllPairs op m P A R → AreAllPairs op m Q B T → (s : Labels) → Contains R s → Contains T s
    pairs_determine op R T a b r c =
        let (s, t, of_s, of_t, alike, is) = a.0 r c in
        subst (Contains T) (sym is) (b.1 s t (left.0 s of_s) (right.0 t of_t) alike)

    matched_determine : (R T : List Labels) → AreMatched m P A R → AreMatched m Q B T → (s : Labels) → Contains R s → Contains T s
    matched_determine R T a b r c = let (of_r, partner) = a.1 r c in b.0 r (left.0 r of_r) (partner_same A B right r partner)

    unmatched_determine : (R T : List Labels) → AreUnmatched m P A R → AreUnmatched m Q B T → (s : Labels) → Contains R s → Contains T s
    unmatched_determine R T a b r c = let (of_r, alone) = a.1 r c in b.0 r (left.0 r of_r) (λ partner. alone (partner_same B A (turned A B right) r partner))

    either_determine : (R T : List Labels) → AreEither m P A R → AreEither m Q B T → (s : Labels) → Contains R s → Contains T s
    either_determine R T a b r c = elim (a.2 r c) [
      | inl of_left ↦ b.0 r (left.0 r of_left)
      | inr of_right ↦ b.1 r (right.0 r of_right.0) (λ partner. of_right.1 (partner_same Q P (turned P Q left) r partner))
    ]

  module _ (P Q A B : List Labels) (left : AreSame P Q) (right : AreSame A B) where
    sets_same : (sets : List Labels → List Labels → List Labels → Type 0)
        → ((P Q A B : List Labels) → AreSame P Q → AreSame A B → (R T : List Labels) → sets P A R → sets Q B T → (s : Labels) → Contains R s → Contains T s)
        → (o p : Option (List Labels)) → IsSet (sets P A) o → IsSet (sets Q B) p → IsSameOutcome o p
    sets_same sets determine None p a b = absurd a
    sets_same sets determine (Some R) None a b = absurd b
    sets_same sets determine (Some R) (Some T) a b = (determine P Q A B left right R T a b, determine Q P B A (turned P Q left) (turned A B right) T R b a)

    strict_pairs_same : (op : Op) (o p : Option (List Labels)) → StrictPairs op m P A o → StrictPairs op m Q B p → IsSameOutcome o p
    strict_pairs_same op None None a b = tt
    strict_pairs_same op None (Some T) (inl ambiguous) b = absurd (b.1 (ambiguous_same P Q A B left right m.group ambiguous))
    strict_pairs_same op None (Some T) (inr coincide) b = absurd (b.2 (pairs_same P Q A B left right op coincide))
    strict_pairs_same op (Some R) None a (inl ambiguous) = absurd (a.1 (ambiguous_same Q P B A (turned P Q left) (turned A B right) m.group ambiguous))
    strict_pairs_same op (Some R) None a (inr coincide) = absurd (a.2 (pairs_same Q P B A (turned P Q left) (turned A B right) op coincide))
    strict_pairs_same op (Some R) (Some T) a b = (
      pairs_determine P Q A B left right op R T a.0 b.0,
      pairs_determine Q P B A (turned P Q left) (turned A B right) op T R b.0 a.0,
    )

    combines_same : (op : Op) (o p : Option (List Labels)) → StrictCombines op m P A o → StrictCombines op m Q B p → IsSameOutcome o p
    combines_same operator.Add o p a b = strict_pairs_same operator.Add o p a b
    combines_same operator.Subtract o p a b = strict_pairs_same operator.Subtract o p a b
    combines_same operator.Multiply o p a b = strict_pairs_same operator.Multiply o p a b
    combines_same operator.Divide o p a b = strict_pairs_same operator.Divide o p a b
    combines_same operator.Modulo o p a b = strict_pairs_same operator.Modulo o p a b
    combines_same operator.Power o p a b = strict_pairs_same operator.Power o p a b
    combines_same operator.Atan2 o p a b = strict_pairs_same operator.Atan2 o p a b
    combines_same operator.Equal o p a b = strict_pairs_same operator.Equal o p a b
    combines_same operator.NotEqual o p a b = strict_pairs_same operator.NotEqual o p a b
    combines_same operator.LessOrEqual o p a b = strict_pairs_same operator.LessOrEqual o p a b
    combines_same operator.Less o p a b = strict_pairs_same operator.Less o p a b
    combines_same operator.GreaterOrEqual o p a b = strict_pairs_same operator.GreaterOrEqual o p a b
    combines_same operator.Greater o p a b = strict_pairs_same operator.Greater o p a b
    combines_same operator.And o p a b = sets_same (AreMatched m) matched_determine o p a b
    combines_same operator.Or o p a b = sets_same (AreEither m) either_determine o p a b
    combines_same operator.Unless o p a b = sets_same (AreUnmatched m) unmatched_determine o p a b

module _ (op : Op) (m : Matching) (left right : Outcomes) (one_left : HasOneOutcome left) (one_right : HasOneOutcome right) where
  right_respects : Respects (λ P. From right (StrictCombines op m P))
  right_respects P Q same o p (inl a) (inl b) = both_none o p a.1 b.1
  right_respects P Q same o p (inl a) (inr b) = absurd (one_right None (Some b.0) a.0 b.1)
  right_respects P Q same o p (inr a) (inl b) = absurd (one_right (Some a.0) None a.1 b.0)
  right_respects P Q same o p (inr a) (inr b) = combines_same m P Q a.0 b.0 same (one_right (Some a.0) (Some b.0) a.1 b.1) op o p a.2 b.2

  binary_outcome : (scalar_left scalar_right : Bool) → HasOneOutcome (StrictBinary op m scalar_left scalar_right left right)
  binary_outcome true true = bare_one
  binary_outcome false true = beside_outcome left one_left (is_filter op m)
  binary_outcome true false = beside_outcome right one_right (is_filter op m)
  binary_outcome false false = from_one left (λ P. From right (StrictCombines op m P)) one_left right_respects

call_outcome : (signature : Option Signature) (grouping : Grouping) (args : Trees) (argument : ℕ → Outcomes) → ((k : ℕ) → HasOneOutcome (argument k)) → HasOneOutcome (StrictCall signature grouping args argument)
call_outcome None grouping args argument one = both_none
call_outcome (Some s) grouping args argument one = effect_outcome (argument (operand_place s)) (one (operand_place s)) s.labels grouping args

-- expressions

module _ (W : List Labels) where
  mutual
    pub one_outcome : (e : Tree) → HasOneOutcome (StrictlyEvaluates W e)
    one_outcome (Number text span) = bare_one
    one_outcome (Str text span) = both_none
    one_outcome (Selector name matchers sight span) =
        set_one (AreSelected W name matchers) (λ R T a b s c. let passes = a.1 s c in b.0 s passes.0 passes.1 passes.2)
    one_outcome (Subquery of sight span) = one_outcome of
    one_outcome (Paren of span) = one_outcome of
    one_outcome (Unary minus of span) = sign_outcome (StrictlyEvaluates W of) (one_outcome of) minus
    one_outcome (Binary op m left right span) = binary_outcome op m (StrictlyEvaluates W left) (StrictlyEvaluates W right) (one_outcome left) (one_outcome right) (is_scalar_part left) (is_scalar_part right)
    one_outcome (Call name args span) = call_outcome (function_named name) Ungrouped args (ArgumentStrictlyEvaluates W args) (one_argument args)
    one_outcome (Aggregate op grouping args span) = call_outcome (Some (aggregation op)) grouping args (ArgumentStrictlyEvaluates W args) (one_argument args)

    one_argument : (args : Trees) (k : ℕ) → HasOneOutcome (ArgumentStrictlyEvaluates W args k)
    one_argument Nil k = both_none
    one_argument (Next x xs) zero = one_outcome x
    one_argument (Next x xs) (suc k) = one_argument xs k

-- An expression has an outcome over any stored samples: a set, or None.
use Rattle.std.proofs.Common.{◌≡◌, ◌≢◌, ◌⊎◌, inl, inr, ℕ, zero, suc, Bool, true, false, not, ◌&&◌, List, [], ◌∷◌, ◌++◌, map, Option, Some, None, codes, refl, sym, ◌∙◌, subst, true≢false}
use Rattle.std.proofs.lemmas.List.Elements.{Contains-append_left, Contains-append_right, Contains-append_cases}
use Rattle.std.specs.List.{Contains, flat_map}
use Rattle.std.specs.Str.{bytes_eq}
use Rattle.lf_laws.proofs.Members.{here, in_flat_map, in_map, map_member, of_flat_map, only_one, same_true, true_same}
use Rattle.lf_ast.specs.Functions.{Signature, aggregation, function_named}
use Rattle.lf_ast.specs.Labels.{Bytes, Labels}
use Rattle.lf_ast.specs.Selectors.{metric}
use Rattle.lf_ast.specs.Tree.{Tree, Trees, Number, Str, Selector, Subquery, Paren, Unary, Binary, Call, Aggregate, Nil, Next}
use Rattle.lf_ast.specs.declared.expr.Group.{Group}
use Rattle.lf_ast.specs.declared.expr.Group.TheVariants.{One, Left, Right}
use Rattle.lf_ast.specs.declared.expr.Grouping.{Grouping}
use Rattle.lf_ast.specs.declared.expr.Grouping.TheVariants.{None as Ungrouped}
use Rattle.lf_ast.specs.declared.expr.Matcher.{Matcher}
use Rattle.lf_ast.specs.declared.expr.Matching.{Matching}
use Rattle.lf_ast.specs.declared.expr.Op.{Op}
use Rattle.lf_ast.specs.declared.expr.Op.TheVariants as operator
use Rattle.lf_ast.specs.declared.functions.LabelEffect.{LabelEffect}
use Rattle.lf_ast.specs.declared.functions.LabelEffect.TheVariants.{Maps, Keeps, Groups, CountValues, Date, Absent, LabelReplace, LabelJoin, HistogramQuantile, Bare}
use Rattle.lf_ast.specs.Arguments.{text_at, texts_of}
use Rattle.lf_semantics.specs.Evaluation.{AreAllPairs, AreEither, AreMade, AreMatched, AreUnmatched, HasPartner, IsBare, IsGrouped, IsJoined, IsQuantile, IsReplaced, LosesName, bare}
use Rattle.lf_semantics.specs.Grouped.{SameSignature, group_of, is_filter, is_metric, out, without_name}
use Rattle.lf_semantics.specs.Parts.{Sought, is_scalar_part, operand_place, sought_in}
use Rattle.lf_semantics.specs.Passing.{HasName, Passes, PassesEach, passes}
use Rattle.lf_semantics.specs.Strings.{Replacing, joined_by, joining, replacing}
use Rattle.lf_semantics.specs.Texts.{restricted, value_of, with_label}
use Rattle.lf_semantics.proofs.Members.{of_filter}
use Rattle.lf_semantics.proofs.PatternTexts.{passes_is}
use Rattle.lf_witness.specs.Strict.{AreSelected, ArgumentStrictlyEvaluates, From, HasOutcome, HasTwoAlike, IsAmbiguous, IsCountedAsOne, IsOnlyWhereEmpty, IsSet, MadeApart, MadeTogether, Outcomes, PairsCoincide, Replaced, StrictAbsent, StrictBesideScalar, StrictBinary, StrictCall, StrictCombines, StrictDate, StrictEffect, StrictPairs, StrictSign, StrictlyEvaluates, last_buckets}
use Rattle.lf_witness.proofs.Decided.{Decided, by_test, decided_both, decided_either, decided_map, decided_not, each_decided, kept, same_labels, same_signature, same_text, some_member}
use Rattle.lf_witness.proofs.OneSample.{BecomesOne, replaced_one}
use Rattle.lf_witness.proofs.SomeSample.{absent_some, open_decided, plain_decided, replaced_some}

pub from_some : (f : Outcomes) (by : List Labels → Outcomes) → HasOutcome f → ((P : List Labels) → HasOutcome (by P)) → HasOutcome (From f by)
from_some f by (None, none) of = (None, inl (none, tt))
from_some f by (Some P, some) of = let given = of P in (given.0, inr (P, some, given.1))

a_set : (sets : List Labels → Type 0) (R : List Labels) → sets R → HasOutcome (IsSet sets)
a_set sets R is = (Some R, is)

bare_some : HasOutcome (IsSet IsBare)
bare_some = a_set IsBare (bare ∷ []) (here bare [], λ r c. sym (only_one bare r c))

-- what samples become, by a function

module _ (becomes : Labels → Labels → Type 0) (f : Labels → Labels) (P : List Labels) (is : (s : Labels) → Contains P s → becomes s (f s)) where
  all_made : AreMade becomes P (map f P)
  all_made = (
    λ s c. (f s, is s c, in_map f P s c),
    λ r c. let from = map_member f P r c in (from.0, from.1, subst (becomes from.0) (sym from.2) (is from.0 from.1)),
  )

  together_some : HasOutcome (MadeTogether becomes P)
  together_some = a_set (AreMade becomes P) (map f P) all_made

  -- two samples of P that f makes one
  abbrev Same : Labels → Labels → Type 0
  Same s t = (s ≢ t) × (f s ≡ f t)

  pub apart_some : BecomesOne becomes → HasOutcome (MadeApart becomes P)
  apart_some one = by (some_member (λ s. (t : Labels) × Contains P t × Same s t) P (λ s. some_member (Same s) P (λ t. decided_both (s ≢ t) (f s ≡ f t) (decided_not (s ≡ t) (same_labels s t)) (same_labels (f s) (f t)))))
    where
      by : Decided ((s : Labels) × Contains P s × ((t : Labels) × Contains P t × Same s t)) → HasOutcome (MadeApart becomes P)
      by (inl (s, of_s, (t, of_t, same))) = (None, (s, t, f s, of_s, of_t, same.0, is s of_s, subst (becomes t) (sym same.1) (is t of_t)))
      by (inr none) = (
        Some (map f P),
        (
          all_made,
          λ (s, t, r, of_s, of_t, other, from_s, from_t). none (s, of_s, (t, of_t, (other, one s (f s) r (is s of_s) from_s ∙ one t r (f t) from_t (is t of_t)))),
        ),
      )

-- constructs

quantile_some : (P : List Labels) → HasOutcome (MadeApart IsQuantile (last_buckets P))
quantile_some P =
    apart_some IsQuantile (restricted (λ label. not (is_metric label) && not (bytes_eq label (codes "le")))) (last_buckets P) (λ s c. (with_le s (of_filter (λ s. bytes_eq (value_of s (codes "le")) (codes "+Inf")) P s c).1, refl)) (λ s r t a b. a.1 ∙ sym b.1)
  where
    with_le : (s : Labels) → bytes_eq (value_of s (codes "le")) (codes "+Inf") ≡ true → value_of s (codes "le") ≢ []
    with_le s last empty = true≢false (sym (same_true (codes "+Inf") [] (sym (true_same (value_of s (codes "le")) (codes "+Inf") last) ∙ empty)))

module _ (f : Outcomes) (some : HasOutcome f) where
  nameless_some : HasOutcome (From f (MadeApart LosesName))
  nameless_some = from_some f (MadeApart LosesName) some (λ P. apart_some LosesName without_name P (λ s c. refl) (λ s r t a b. a ∙ sym b))

  some_absent : (sought : Option Sought) → HasOutcome (StrictAbsent sought f)
  some_absent sought = elim (open_decided sought) [
    | inl is_open ↦ (None, inl (is_open, tt))
    | inr shut ↦ (
        let one = absent_some sought shut in
        let from = from_some f (λ P. IsSet (IsOnlyWhereEmpty one.0 P)) some (where_empty one.0) in
        (from.0, inr (shut, one.0, one.1, from.1))
        )
  ]
    where
      where_empty : (one : Labels) (P : List Labels) → HasOutcome (IsSet (IsOnlyWhereEmpty one P))
      where_empty one [] = (Some (one ∷ []), (here one [], λ r c. sym (only_one one r c)))
      where_empty one (s ∷ P) = (Some [], refl)

  some_replaced : (p : Replacing) → HasOutcome (Replaced p f)
  some_replaced p = elim (plain_decided p.replacement) [
    | inl plain ↦ (
        let from = from_some f (MadeApart (IsReplaced p)) some (λ P. apart_some (IsReplaced p) (λ s. (replaced_some p plain s).0) P (λ s c. (replaced_some p plain s).1) (replaced_one p plain)) in
        (from.0, inr (plain, from.1))
        )
    | inr not ↦ (None, inl (not, tt))
  ]

  date_some : (args : Trees) → HasOutcome (StrictDate args f)
  date_some Nil = bare_some
  date_some (Next x xs) = nameless_some

  effect_some : (labels : LabelEffect) (grouping : Grouping) (args : Trees) → HasOutcome (StrictEffect labels grouping args f)
  effect_some Maps grouping args = nameless_some
  effect_some Keeps grouping args = some
  effect_some Groups grouping args = from_some f (MadeTogether (IsGrouped grouping)) some (λ P. together_some (IsGrouped grouping) (group_of grouping) P (λ s c. refl))
  effect_some CountValues grouping args =
      let x = text_at (texts_of args) 0 in
      from_some f (MadeTogether (IsCountedAsOne grouping x)) some (λ P. together_some (IsCountedAsOne grouping x) (λ s. with_label x (codes "1") (group_of grouping s)) P (λ s c. refl))
  effect_some Date grouping args = date_some args
  effect_some Absent grouping args = some_absent (sought_in args)
  effect_some LabelReplace grouping args = some_replaced (replacing (texts_of args))
  effect_some LabelJoin grouping args =
      let p = joining (texts_of args) in
      from_some f (MadeApart (IsJoined p)) some
      (λ P. apart_some (IsJoined p) (λ s. with_label p.target (joined_by p.separator (map (λ source. value_of s source) p.sources)) s) P (λ s c. refl) (λ s r t a b. a ∙ sym b))
  effect_some HistogramQuantile grouping args = from_some f (λ P. MadeApart IsQuantile (last_buckets P)) some quantile_some
  effect_some Bare grouping args = bare_some

  beside_some : (filters : Bool) → HasOutcome (StrictBesideScalar filters f)
  beside_some true = some
  beside_some false = nameless_some

  sign_some : (minus : Bool) → HasOutcome (StrictSign minus f)
  sign_some true = nameless_some
  sign_some false = some

-- operators of two vectors

module _ (m : Matching) where
  partner_decided : (Q : List Labels) (s : Labels) → Decided (HasPartner m Q s)
  partner_decided Q s = some_member (SameSignature m s) Q (same_signature m s)

  -- another sample of equal signature
  abbrev Alike : Labels → Labels → Type 0
  Alike s t = (s ≢ t) × SameSignature m s t

  alike_decided : (P : List Labels) → Decided (HasTwoAlike m P)
  alike_decided P = decided_map ((s : Labels) × Contains P s × ((t : Labels) × Contains P t × Alike s t)) (HasTwoAlike m P)
      (λ (s, of_s, (t, of_t, alike)). (s, t, of_s, of_t, alike.0, alike.1))
      (λ (s, t, of_s, of_t, other, alike). (s, of_s, (t, of_t, (other, alike))))
      (some_member (λ s. (t : Labels) × Contains P t × Alike s t) P (λ s. some_member (Alike s) P (λ t. decided_both (s ≢ t) (SameSignature m s t) (decided_not (s ≡ t) (same_labels s t)) (same_signature m s t))))

  module _ (P Q : List Labels) where
    ambiguous_decided : (group : Group) → Decided (IsAmbiguous group m P Q)
    ambiguous_decided One = decided_either (HasTwoAlike m P) (HasTwoAlike m Q) (alike_decided P) (alike_decided Q)
    ambiguous_decided Left = alike_decided Q
    ambiguous_decided Right = alike_decided P

    module _ (op : Op) where
      -- two pairs of one result
      abbrev OneResult : Labels → Labels → Labels → Labels → Type 0
      OneResult s t u v = SameSignature m s t × SameSignature m u v × ((s ≢ u) ⊎ (t ≢ v)) × (out op m s t ≡ out op m u v)

      one_result_decided : (s t u v : Labels) → Decided (OneResult s t u v)
      one_result_decided s t u v = elim (same_signature m s t) [
        | inl left ↦ elim (same_signature m u v) [
          | inl right ↦ elim (decided_either (s ≢ u) (t ≢ v) (decided_not (s ≡ u) (same_labels s u)) (decided_not (t ≡ v) (same_labels t v))) [
            | inl other ↦ elim (same_labels (out op m s t) (out op m u v)) [
              | inl same ↦ inl (left, right, other, same)
              | inr not ↦ inr (λ is. not is.3)
            ]
            | inr not ↦ inr (λ is. not is.2)
          ]
          | inr not ↦ inr (λ is. not is.1)
        ]
        | inr not ↦ inr (λ is. not is.0)
      ]

      abbrev WithSecond : Labels → Labels → Labels → Type 0
      WithSecond s t u = (v : Labels) × Contains Q v × OneResult s t u v

      abbrev WithPair : Labels → Labels → Type 0
      WithPair s t = (u : Labels) × Contains P u × WithSecond s t u

      abbrev WithTwo : Labels → Type 0
      WithTwo s = (t : Labels) × Contains Q t × WithPair s t

      pairs_decided : Decided (PairsCoincide (out op m) m P Q)
      pairs_decided = elim (some_member WithTwo P (λ s. some_member (WithPair s) Q (λ t. some_member (WithSecond s t) P (λ u. some_member (OneResult s t u) Q (one_result_decided s t u))))) [
        | inl found ↦ (
            let t = found.2 in
            let u = t.2 in
            let v = u.2 in
            inl (found.0, t.0, u.0, v.0, (found.1, t.1, v.2.0), (u.1, v.1, v.2.1), v.2.2, v.2.3)
            )
        | inr none ↦ inr (λ (s, t, u, v, one, another, other, same). none (s, one.0, (t, one.1, (u, another.0, (v, another.1, (one.2, another.2, other, same))))))
      ]

      -- the results of the pairs of a left sample
      abbrev results : Labels → List Labels
      results s = map (out op m s) (kept (SameSignature m s) Q (same_signature m s)).0

      all_pairs : AreAllPairs op m P Q (flat_map results P)
      all_pairs = (
        λ r c. (
            let s = of_flat_map results P r c in
            let t = map_member (out op m s.0) (kept (SameSignature m s.0) Q (same_signature m s.0)).0 r s.2 in
            let is = (kept (SameSignature m s.0) Q (same_signature m s.0)).2 t.0 t.1 in
            (s.0, t.0, s.1, is.0, is.1, t.2)
            ),
        λ s t of_s of_t alike. in_flat_map results P s (out op m s t) of_s (in_map (out op m s) (kept (SameSignature m s) Q (same_signature m s)).0 t ((kept (SameSignature m s) Q (same_signature m s)).1 t of_t alike)),
      )

      pairs_some : HasOutcome (StrictPairs op m P Q)
      pairs_some = elim (ambiguous_decided m.group) [
        | inl ambiguous ↦ (None, inl ambiguous)
        | inr unique ↦ elim pairs_decided [
          | inl coincide ↦ (None, inr coincide)
          | inr apart ↦ (Some (flat_map results P), (all_pairs, unique, apart))
        ]
      ]

    matched_some : HasOutcome (IsSet (AreMatched m P Q))
    matched_some = let these = kept (HasPartner m Q) P (partner_decided Q) in a_set (AreMatched m P Q) these.0 (these.1, these.2)

    unmatched_some : HasOutcome (IsSet (AreUnmatched m P Q))
    unmatched_some = let these = kept (λ s. HasPartner m Q s → ⊥) P (λ s. decided_not (HasPartner m Q s) (partner_decided Q s)) in a_set (AreUnmatched m P Q) these.0 (these.1, these.2)

    either_some : HasOutcome (IsSet (AreEither m P Q))
    either_some =
        let these = kept (λ s. HasPartner m P s → ⊥) Q (λ s. decided_not (HasPartner m P s) (partner_decided P s)) in
        a_set (AreEither m P Q) (P ++ these.0) (
          λ s c. Contains-append_left P these.0 s c,
          λ t c alone. Contains-append_right P these.0 t (these.1 t c alone),
          λ r c. elim (Contains-append_cases P these.0 r c) [ inl of_left ↦ inl of_left | inr of_right ↦ inr (these.2 r of_right) ],
        )

    combines_some : (op : Op) → HasOutcome (StrictCombines op m P Q)
    combines_some operator.Add = pairs_some operator.Add
    combines_some operator.Subtract = pairs_some operator.Subtract
    combines_some operator.Multiply = pairs_some operator.Multiply
    combines_some operator.Divide = pairs_some operator.Divide
    combines_some operator.Modulo = pairs_some operator.Modulo
    combines_some operator.Power = pairs_some operator.Power
    combines_some operator.Atan2 = pairs_some operator.Atan2
    combines_some operator.Equal = pairs_some operator.Equal
    combines_some operator.NotEqual = pairs_some operator.NotEqual
    combines_some operator.LessOrEqual = pairs_some operator.LessOrEqual
    combines_some operator.Less = pairs_some operator.Less
    combines_some operator.GreaterOrEqual = pairs_some operator.GreaterOrEqual
    combines_some operator.Greater = pairs_some operator.Greater
    combines_some operator.And = matched_some
    combines_some operator.Or = either_some
    combines_some operator.Unless = unmatched_some

module _ (op : Op) (m : Matching) (left right : Outcomes) (some_left : HasOutcome left) (some_right : HasOutcome right) where
  binary_some : (scalar_left scalar_right : Bool) → HasOutcome (StrictBinary op m scalar_left scalar_right left right)
  binary_some true true = bare_some
  binary_some false true = beside_some left some_left (is_filter op m)
  binary_some true false = beside_some right some_right (is_filter op m)
  binary_some false false = from_some left (λ P. From right (StrictCombines op m P)) some_left (λ P. from_some right (StrictCombines op m P) some_right (λ Q. combines_some m P Q op))

call_some : (signature : Option Signature) (grouping : Grouping) (args : Trees) (argument : ℕ → Outcomes) → ((k : ℕ) → HasOutcome (argument k)) → HasOutcome (StrictCall signature grouping args argument)
call_some None grouping args argument some = (None, tt)
call_some (Some s) grouping args argument some = effect_some (argument (operand_place s)) (some (operand_place s)) s.labels grouping args

-- expressions

name_decided : (name : Option Bytes) (s : Labels) → Decided (HasName name s)
name_decided None s = inl tt
name_decided (Some name) s = same_text (value_of s metric) name

matcher_decided : (s : Labels) (m : Matcher) → Decided (Passes m.op m.value (value_of s m.label))
matcher_decided s m = by_test (Passes m.op m.value (value_of s m.label)) (passes m.op m.value (value_of s m.label)) (passes_is m.op m.value (value_of s m.label)).0 (passes_is m.op m.value (value_of s m.label)).1

module _ (W : List Labels) where
  selected_some : (name : Option Bytes) (matchers : List Matcher) → HasOutcome (IsSet (AreSelected W name matchers))
  selected_some name matchers =
      let these = kept (λ s. HasName name s × PassesEach matchers s) W (λ s. decided_both (HasName name s) (PassesEach matchers s) (name_decided name s) (each_decided (λ m. Passes m.op m.value (value_of s m.label)) matchers (matcher_decided s))) in
      a_set (AreSelected W name matchers) these.0 (λ s c named passes. these.1 s c (named, passes), λ s c. let is = these.2 s c in (is.0, is.1.0, is.1.1))

  mutual
    pub some_outcome : (e : Tree) → HasOutcome (StrictlyEvaluates W e)
    some_outcome (Number text span) = bare_some
    some_outcome (Str text span) = (None, tt)
    some_outcome (Selector name matchers sight span) = selected_some name matchers
    some_outcome (Subquery of sight span) = some_outcome of
    some_outcome (Paren of span) = some_outcome of
    some_outcome (Unary minus of span) = sign_some (StrictlyEvaluates W of) (some_outcome of) minus
    some_outcome (Binary op m left right span) = binary_some op m (StrictlyEvaluates W left) (StrictlyEvaluates W right) (some_outcome left) (some_outcome right) (is_scalar_part left) (is_scalar_part right)
    some_outcome (Call name args span) = call_some (function_named name) Ungrouped args (ArgumentStrictlyEvaluates W args) (some_argument args)
    some_outcome (Aggregate op grouping args span) = call_some (Some (aggregation op)) grouping args (ArgumentStrictlyEvaluates W args) (some_argument args)

    some_argument : (args : Trees) (k : ℕ) → HasOutcome (ArgumentStrictlyEvaluates W args k)
    some_argument Nil k = (None, tt)
    some_argument (Next x xs) zero = some_outcome x
    some_argument (Next x xs) (suc k) = some_argument xs k

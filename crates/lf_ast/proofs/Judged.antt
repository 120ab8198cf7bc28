-- What is judged of an expression is its type, or the breach that is told.
use Rattle.std.proofs.Common.{◌≡◌, ◌⊎◌, inl, inr, Bool, true, false, cond, ◌||◌, Option, Some, None, Ok, Err, refl, sym, ◌∙◌, ap, subst}
use Rattle.std.proofs.lemmas.Bool.{or_parts}
use Rattle.lf_base.specs.declared.kind.Kind.TheVariants.{BadDuration, BadModifier, UnknownName}
use Rattle.lf_base.specs.declared.place.Span.{Span}
use Rattle.lf_ast.specs.Tree.{Tree, Trees, Number, Str as Text, Selector, Subquery, Paren, Unary, Binary, Call, Aggregate, Nil, Next, count, span_of}
use Rattle.lf_ast.specs.Functions.{Signature, aggregation, function_named}
use Rattle.lf_ast.specs.Types.{HasType, Fit, CallHasType, is_empty_range, is_misplaced, is_number, is_unfit, is_vector, joined, selected, takes_side}
use Rattle.lf_base.specs.declared.fault.Fault.{Fault}
use Rattle.lf_base.proofs.Answering.{Decides}
use Rattle.lf_base.specs.Faults.{fault, first, when}
use Rattle.lf_ast.specs.Breaches.{Breaks, BreaksAny, IsBadCall, IsBadModifier, IsEmptyRange, IsOther, Tells}
use Rattle.lf_ast.specs.reading.Judging.{Judged, arguments_fault, binary_judged, call_judged, called, counted, is_unfit_at, joined_at, judged, range_fault, side_fault, unless}
use Rattle.lf_ast.specs.declared.expr.ExprType.{ExprType}
use Rattle.lf_ast.specs.declared.expr.ExprType.TheVariants.{Str, Scalar, Vector, Range}
use Rattle.lf_ast.specs.declared.expr.Matching.{Matching}
use Rattle.lf_ast.specs.declared.expr.Op.{Op}
use Rattle.lf_ast.specs.declared.expr.Sight.{Sight}
use Rattle.lf_ast.proofs.CallsJudged.{AllGood, counted_found, counted_stands, least_own, some_fault}
use Rattle.lf_base.proofs.Least.{Least, least_either, least_same, least_when, none_of_first, only_one}
use Rattle.lf_ast.proofs.Sides.{Agrees, Good, IsGiven, IsTaken, Stands, least_modifier, least_side, side_taken, stands_unless}

-- ranges

least_range : (sight : Sight) → Least (IsEmptyRange sight) (range_fault sight)
least_range sight = least_when (is_empty_range sight.range ≡ true) (is_empty_range sight.range) (fault BadDuration sight.range_span) (λ e. e) (λ e. e)

none_of_when : (b : Bool) (f : Fault) → when b f ≡ None → b ≡ false
none_of_when true f e = cc
none_of_when false f e = refl

good_selector : (sight : Sight) → Agrees (λ t. (is_empty_range sight.range ≡ false) × (t ≡ selected sight.range)) (IsEmptyRange sight) (unless (range_fault sight) (Ok (selected sight.range)))
good_selector sight = record {
  stands = stands_unless (λ t. (is_empty_range sight.range ≡ false) × (t ≡ selected sight.range)) (IsEmptyRange sight) (range_fault sight) (Ok (selected sight.range)) (least_range sight) (λ e. (none_of_when (is_empty_range sight.range) _ e, refl));
  found = λ t h. ap (λ b. unless (when b (fault BadDuration sight.range_span)) (Ok (selected sight.range))) h.0 ∙ ap (λ u. Ok u) (sym h.1);
}

-- operands

module _ (e : Tree) (v : Judged) (good : Good e v) where
  taken_type : (takes : ExprType → Bool) → IsTaken takes v → (t : ExprType) × HasType e t × (takes t ≡ true) × (v ≡ Ok t)
  taken_type takes taken = by v good taken where
    by : (w : Judged) → Good e w → IsTaken takes w → (t : ExprType) × HasType e t × (takes t ≡ true) × (w ≡ Ok t)
    by (Ok t) g is = (t, g.stands.0, is, refl)
    by (Err f) g is = absurd is

  side_passes : (takes : ExprType → Bool) (t : ExprType) → HasType e t → takes t ≡ true → side_fault takes (span_of e) v ≡ None
  side_passes takes t has is = ap (side_fault takes (span_of e)) (good.found t has) ∙ ap (λ b. cond b None (side_fault (λ x. false) (span_of e) (Ok t))) is

is_vector-is : (t : ExprType) → is_vector t ≡ true → t ≡ Vector
is_vector-is Vector e = refl
is_vector-is Str e = absurd (cc)
is_vector-is Scalar e = absurd (cc)
is_vector-is Range e = absurd (cc)

good_subquery : (e : Tree) (v : Judged) → Good e v → (sight : Sight)
    → Agrees (λ t. HasType e Vector × (is_empty_range sight.range ≡ false) × (t ≡ Range)) (λ f. Breaks e f ⊎ (IsOther is_vector e f ⊎ IsEmptyRange sight f))
    (unless (first (side_fault is_vector (span_of e) v) (range_fault sight)) (Ok Range))
good_subquery e v good sight =
    let H : ExprType → Type 0 = λ t. HasType e Vector × (is_empty_range sight.range ≡ false) × (t ≡ Range) in
    let B : Fault → Type 0 = λ f. Breaks e f ⊎ (IsOther is_vector e f ⊎ IsEmptyRange sight f) in
    let side = side_fault is_vector (span_of e) v in
    let least = least_same (λ f. (Breaks e f ⊎ IsOther is_vector e f) ⊎ IsEmptyRange sight f) B
    (λ f h. elim h [ inl s ↦ elim s [ inl b ↦ inl b | inr o ↦ inr (inl o) ] | inr r ↦ inr (inr r) ])
    (λ f h. elim h [ inl b ↦ inl (inl b) | inr rest ↦ elim rest [ inl o ↦ inl (inr o) | inr r ↦ inr r ] ]) _
    (least_either (λ f. Breaks e f ⊎ IsOther is_vector e f) (IsEmptyRange sight) side (range_fault sight) (least_side is_vector e v good) (least_range sight)) in
    record {
      stands = stands_unless H B (first side (range_fault sight)) (Ok Range) least (λ none.
          let both = none_of_first side (range_fault sight) none in
          let is = taken_type e v good is_vector (side_taken is_vector (span_of e) v both.0) in
          (subst (HasType e) (is_vector-is is.0 is.2) is.1, none_of_when (is_empty_range sight.range) _ both.1, refl));
      found = λ t h.
          ap (λ o. unless (first o (range_fault sight)) (Ok Range)) (side_passes e v good is_vector Vector h.0 refl)
          ∙ ap (λ b. unless (when b (fault BadDuration sight.range_span)) (Ok Range)) h.1 ∙ ap (λ u. Ok u) (sym h.2);
    }

good_unary : (e : Tree) (v : Judged) → Good e v → Agrees (λ t. HasType e t × (is_number t ≡ true)) (λ f. Breaks e f ⊎ IsOther is_number e f) (unless (side_fault is_number (span_of e) v) v)
good_unary e v good =
    let H : ExprType → Type 0 = λ t. HasType e t × (is_number t ≡ true) in
    let side = side_fault is_number (span_of e) v in
    record {
      stands = stands_unless H (λ f. Breaks e f ⊎ IsOther is_number e f) side v (least_side is_number e v good) (λ none.
          let is = taken_type e v good is_number (side_taken is_number (span_of e) v none) in
          subst (IsGiven H) (sym is.3) (is.1, is.2));
      found = λ t h. ap (λ o. unless o v) (side_passes e v good is_number t h.0 h.1) ∙ good.found t h.0;
    }

-- operators

module _ (op : Op) (m : Matching) (span : Span) (left right : Tree) (l r : Judged) (a : Good left l) (b : Good right r) where
  abbrev BinaryHas : ExprType → Type 0
  BinaryHas t =
      (x y : ExprType) × HasType left x × HasType right y × (takes_side op x ≡ true) × (takes_side op y ≡ true)
      × (is_misplaced op m ≡ false) × (is_unfit op m x y ≡ false) × (t ≡ joined x y)

  abbrev LeftBreaks : Fault → Type 0
  LeftBreaks f = Breaks left f ⊎ IsOther (takes_side op) left f

  abbrev RightBreaks : Fault → Type 0
  RightBreaks f = Breaks right f ⊎ IsOther (takes_side op) right f

  abbrev BinaryBreaks : Fault → Type 0
  BinaryBreaks f = Breaks left f ⊎ (IsOther (takes_side op) left f ⊎ (Breaks right f ⊎ (IsOther (takes_side op) right f ⊎ IsBadModifier op m left right span f)))

  abbrev left_fault : Option Fault
  left_fault = side_fault (takes_side op) (span_of left) l

  abbrev right_fault : Option Fault
  right_fault = side_fault (takes_side op) (span_of right) r

  abbrev modifier_fault : Option Fault
  modifier_fault = when (is_misplaced op m || is_unfit_at op m l r) (fault BadModifier span)

  least_binary : Least BinaryBreaks (first (first left_fault right_fault) modifier_fault)
  least_binary = least_same (λ f. (LeftBreaks f ⊎ RightBreaks f) ⊎ IsBadModifier op m left right span f) BinaryBreaks
      (λ f h. elim h [
        | inl s ↦ elim s [ inl x ↦ elim x [ inl p ↦ inl p | inr q ↦ inr (inl q) ] | inr y ↦ elim y [ inl p ↦ inr (inr (inl p)) | inr q ↦ inr (inr (inr (inl q))) ] ]
        | inr c ↦ inr (inr (inr (inr c)))
      ])
      (λ f h. elim h [
        | inl p ↦ inl (inl (inl p))
        | inr h ↦ elim h [ inl p ↦ inl (inl (inr p)) | inr h ↦ elim h [ inl p ↦ inl (inr (inl p)) | inr h ↦ elim h [ inl p ↦ inl (inr (inr p)) | inr c ↦ inr c ] ] ]
      ]) _
      (least_either (λ f. LeftBreaks f ⊎ RightBreaks f) (IsBadModifier op m left right span) (first left_fault right_fault) modifier_fault
      (least_either LeftBreaks RightBreaks left_fault right_fault (least_side (takes_side op) left l a) (least_side (takes_side op) right r b))
      (least_modifier op m left right span l r a b))

  binary_given : first (first left_fault right_fault) modifier_fault ≡ None → BinaryHas (joined_at l r)
  binary_given none =
      let outer = none_of_first (first left_fault right_fault) modifier_fault none in
      let sides = none_of_first left_fault right_fault outer.0 in
      let x = taken_type left l a (takes_side op) (side_taken (takes_side op) (span_of left) l sides.0) in
      let y = taken_type right r b (takes_side op) (side_taken (takes_side op) (span_of right) r sides.1) in
      let fits = or_parts (is_misplaced op m) (is_unfit_at op m l r) (none_of_when (is_misplaced op m || is_unfit_at op m l r) (fault BadModifier span) outer.1) in (
        x.0,
        y.0,
        x.1,
        y.1,
        x.2,
        y.2,
        fits.0,
        ap (λ w. is_unfit_at op m w (Ok y.0)) (sym x.3) ∙ ap (λ w. is_unfit_at op m l w) (sym y.3) ∙ fits.1,
        ap (λ w. joined_at w r) x.3 ∙ ap (λ w. joined_at (Ok x.0) w) y.3,
      )

  good_binary : Agrees BinaryHas BinaryBreaks (binary_judged op m span (span_of left) l (span_of right) r)
  good_binary = record {
    stands = stands_unless BinaryHas BinaryBreaks (first (first left_fault right_fault) modifier_fault) (Ok (joined_at l r)) least_binary binary_given;
    found = λ t h.
        let at_l = a.found h.0 h.2 in
        let at_r = b.found h.1 h.3 in
        let fit : (is_misplaced op m || is_unfit_at op m l r) ≡ false = ap (λ w. is_misplaced op m || is_unfit_at op m w r) at_l ∙ ap (λ w. is_misplaced op m || is_unfit_at op m (Ok h.0) w) at_r ∙ ap (λ w. w || is_unfit op m h.0 h.1) h.6 ∙ h.7 in
        ap (λ o. unless (first (first o right_fault) modifier_fault) (Ok (joined_at l r))) (side_passes left l a (takes_side op) h.0 h.2 h.4)
        ∙ ap (λ o. unless (first o modifier_fault) (Ok (joined_at l r))) (side_passes right r b (takes_side op) h.1 h.3 h.5)
        ∙ ap (λ w. unless (when w (fault BadModifier span)) (Ok (joined_at l r))) fit
        ∙ ap (λ w. Ok (joined_at w r)) at_l ∙ ap (λ w. Ok (joined_at (Ok h.0) w)) at_r ∙ ap (λ u. Ok u) (sym h.8);
  }

-- calls, of a name that has this signature or none

module _ (span : Span) (es : Trees) (all : AllGood es) where
  abbrev CallHas : Option Signature → ExprType → Type 0
  CallHas o t = (s : Signature) × (o ≡ Some s) × CallHasType (count es) (Fit es) s t

  abbrev CallBreaks : Option Signature → Fault → Type 0
  CallBreaks o f = BreaksAny es f ⊎ (((o ≡ None) × (f ≡ fault UnknownName span)) ⊎ ((s : Signature) × (o ≡ Some s) × IsBadCall es span s f))

  call_stands : (o : Option Signature) → Stands (CallHas o) (CallBreaks o) (call_judged (called o (count es) span) es)
  call_stands None =
      let own : Fault = fault UnknownName span in
      let least = least_same (λ f. (f ≡ own) ⊎ BreaksAny es f) (CallBreaks None)
      (λ f h. elim h [ inl w ↦ inr (inl (refl, w)) | inr a ↦ inl a ])
      (λ f h. elim h [ inl a ↦ inr a | inr h ↦ elim h [ inl u ↦ inl u.1 | inr s ↦ absurd (let bad : None ≡ Some s.0 = s.1 in cc) ] ]) _ (least_own own es all) in
      stands_unless (CallHas None) (CallBreaks None) (arguments_fault es (Err own) (Some own) 0) (Err own) least (some_fault own es own 0)
  call_stands (Some s) = by (call_judged (counted s (count es) span) es) (counted_stands s span es all) where
    by : (v : Judged) → Stands (CallHasType (count es) (Fit es) s) (λ f. BreaksAny es f ⊎ IsBadCall es span s f) v → Stands (CallHas (Some s)) (CallBreaks (Some s)) v
    by (Ok t) h = (
      (s, refl, h.0),
      λ f b. elim b [
        | inl a ↦ h.1 f (inl a)
        | inr c ↦ elim c [
          | inl u ↦ (let bad : Some s ≡ None = u.0 in cc)
          | inr k ↦ h.1 f (inr (let same : k.0 ≡ s = cc in let P : Signature → Type 0 = λ z. IsBadCall es span z f in subst P same k.2))
        ]
      ],
    )
    by (Err g) h = least_same (λ f. BreaksAny es f ⊎ IsBadCall es span s f) (CallBreaks (Some s))
        (λ f b. elim b [ inl a ↦ inl a | inr c ↦ inr (inr (s, refl, c)) ])
        (λ f b. elim b [
          | inl a ↦ inl a
          | inr c ↦ elim c [
            | inl u ↦ absurd (let bad : Some s ≡ None = u.0 in cc)
            | inr k ↦ inr (let same : k.0 ≡ s = cc in let P : Signature → Type 0 = λ z. IsBadCall es span z f in subst P same k.2)
          ]
        ]) (Some g) h

  good_call : (o : Option Signature) → Agrees (CallHas o) (CallBreaks o) (call_judged (called o (count es) span) es)
  good_call o = record {
    stands = call_stands o;
    found = λ t h. ap (λ x. call_judged (called x (count es) span) es) h.1 ∙ counted_found h.0 span es all t h.2;
  }

-- the whole

abbrev GoodTree : Tree → Type 0
GoodTree e = Good e (judged e)

mutual
  pub good : (e : Tree) → GoodTree e
  good (Number text span) = record { stands = (refl, λ f b. b); found = λ t e. ap (λ u. Ok u) (sym e) }
  good (Text text span) = record { stands = (refl, λ f b. b); found = λ t e. ap (λ u. Ok u) (sym e) }
  good (Selector name matchers sight span) = good_selector sight
  good (Subquery of sight span) = good_subquery of _ (good of) sight
  good (Paren of span) = good of
  good (Unary minus of span) = good_unary of _ (good of)
  good (Binary op m left right span) = good_binary op m span left right _ _ (good left) (good right)
  good (Call name args span) = good_call span args (all_good args) (function_named name)
  good (Aggregate op grouping args span) = record { stands = counted_stands (aggregation op) span args (all_good args); found = counted_found (aggregation op) span args (all_good args) }

  all_good : (args : Trees) → AllGood args
  all_good Nil = tt
  all_good (Next x xs) = (good x, all_good xs)

-- the answers

pub has_judged : (e : Tree) (t : ExprType) → judged e ≡ Ok t → HasType e t
has_judged e t is = let P : Judged → Type 0 = λ v. Stands (HasType e) (Breaks e) v in let stands : Stands (HasType e) (Breaks e) (Ok t) = subst P is (good e).stands in stands.0

pub tells_judged : (e : Tree) (f : Fault) → judged e ≡ Err f → Tells e f
tells_judged e f is = let P : Judged → Type 0 = λ v. Stands (HasType e) (Breaks e) v in let stands : Stands (HasType e) (Breaks e) (Err f) = subst P is (good e).stands in stands

judged_type : (e : Tree) (t : ExprType) → HasType e t → judged e ≡ Ok t
judged_type e t has = (good e).found t has

judged_told : (e : Tree) (f : Fault) → Tells e f → judged e ≡ Err f
judged_told e f tells = by (judged e) (good e) where
  by : (v : Judged) → Good e v → v ≡ Err f
  by (Ok t) g = absurd (g.stands.1 f tells.0)
  by (Err g) good = ap (λ x. Err x) (only_one g f (tells.1 g good.stands.0) (good.stands.1 f tells.0))

pub no_breach : (e : Tree) (t : ExprType) → HasType e t → (f : Fault) → Breaks e f → ⊥
no_breach e t has = let P : Judged → Type 0 = λ v. Stands (HasType e) (Breaks e) v in let stands : Stands (HasType e) (Breaks e) (Ok t) = subst P (judged_type e t has) (good e).stands in stands.1

-- judging decides
pub decides : (e : Tree) → Decides (HasType e) (Tells e) (judged e)
decides e = record { stands = has_judged e; read = judged_type e; breaks = tells_judged e; told = judged_told e }

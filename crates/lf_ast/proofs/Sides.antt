-- What is judged of one operand, one modifier and one argument.
use Rattle.std.proofs.Common.{◌≡◌, ◌⊎◌, inl, inr, ℕ, Bool, true, false, cond, ◌&&◌, ◌||◌, Option, Some, None, Ok, Err, refl, sym, ◌∙◌, ap}
use Rattle.std.proofs.lemmas.Bool.{or_cases, or_left, or_right}
use Rattle.lf_laws.proofs.Booleans.{clash}
use Rattle.lf_base.specs.declared.kind.Kind.TheVariants.{WrongType, BadModifier, BadLabel}
use Rattle.lf_base.specs.declared.place.Span.{Span}
use Rattle.lf_ast.specs.Functions.{Signature}
use Rattle.lf_ast.specs.Tree.{Tree, span_of}
use Rattle.lf_ast.specs.Types.{HasType, wanted, names_a_label, is_bad_label, is_misplaced, is_unfit, string_of}
use Rattle.lf_base.specs.declared.fault.Fault.{Fault}
use Rattle.lf_base.specs.Faults.{fault, when}
use Rattle.lf_ast.specs.Breaches.{Breaks, IsOther, IsBadModifier, IsBadArgument}
use Rattle.lf_ast.specs.reading.Judging.{Judged, argument_fault, is_type, is_unfit_at, is_wanted, side_fault, unless}
use Rattle.lf_ast.specs.declared.expr.ExprType.{ExprType}
use Rattle.lf_ast.specs.declared.expr.ExprType.TheVariants.{Str, Scalar, Vector, Range}
use Rattle.lf_ast.specs.declared.expr.Matching.{Matching}
use Rattle.lf_ast.specs.declared.expr.Op.{Op}
use Rattle.lf_base.proofs.Least.{Least, least_when, not_itself}

-- what is answered is so: the type, and then there is no breach, or the least breach
abbrev pub Stands : (ExprType → Type 0) → (Fault → Type 0) → Judged → Type 0
Stands H B (Ok t) = H t × ((f : Fault) → B f → ⊥)
Stands H B (Err f) = Least B (Some f)

-- and the type is answered where there is one
pub record Agrees (H : ExprType → Type 0) (B : Fault → Type 0) (v : Judged) : Type 0 where
  pub stands : Stands H B v
  pub found : (t : ExprType) → H t → v ≡ Ok t

-- what is answered is a type that it has
abbrev pub IsGiven : (ExprType → Type 0) → Judged → Type 0
IsGiven H (Ok t) = H t
IsGiven H (Err f) = ⊥

pub stands_unless : (H : ExprType → Type 0) (B : Fault → Type 0) (o : Option Fault) (v : Judged) → Least B o → (o ≡ None → IsGiven H v) → Stands H B (unless o v)
stands_unless H B None (Ok t) least given = (given refl, least)
stands_unless H B None (Err f) least given = absurd (given refl)
stands_unless H B (Some f) v least given = least

abbrev pub Good : Tree → Judged → Type 0
Good e v = Agrees (HasType e) (Breaks e) v

-- the type that is answered is the only one
pub the_type : (e : Tree) (t : ExprType) → Good e (Ok t) → (u : ExprType) → HasType e u → u ≡ t
the_type e t good u has = let same : Ok t ≡ Ok u = good.found u has in cc

-- where a breach is answered there is no type
pub no_type : (e : Tree) (f : Fault) → Good e (Err f) → (u : ExprType) → HasType e u → ⊥
no_type e f good u has = let same : Err f ≡ Ok u = good.found u has in cc

-- an operand

pub least_side : (takes : ExprType → Bool) (e : Tree) (v : Judged) → Good e v → Least (λ f. Breaks e f ⊎ IsOther takes e f) (side_fault takes (span_of e) v)
least_side takes e (Err f) good = (inl good.stands.0, λ g h. elim h [ inl b ↦ good.stands.1 g b | inr o ↦ absurd (no_type e f good o.0 o.1) ])
least_side takes e (Ok t) good = by (takes t) refl where
  by : (b : Bool) → takes t ≡ b → Least (λ f. Breaks e f ⊎ IsOther takes e f) (cond b None (Some (fault WrongType (span_of e))))
  by true is = λ g h. elim h [ inl b ↦ good.stands.1 g b | inr o ↦ clash (takes t) is (ap takes (sym (the_type e t good o.0 o.1)) ∙ o.2) ]
  by false is = (inr (t, good.stands.0, is, refl), λ g h. elim h [ inl b ↦ absurd (good.stands.1 g b) | inr o ↦ not_itself _ g o.3 ])

-- no breach at an operand: it has a type, which is taken
abbrev pub IsTaken : (ExprType → Bool) → Judged → Type 0
IsTaken takes (Ok t) = takes t ≡ true
IsTaken takes (Err f) = ⊥

pub side_taken : (takes : ExprType → Bool) (span : Span) (v : Judged) → side_fault takes span v ≡ None → IsTaken takes v
side_taken takes span (Err f) e = cc
side_taken takes span (Ok t) e = by (takes t) e where
  by : (b : Bool) → cond b None (Some (fault WrongType span)) ≡ None → b ≡ true
  by true e = refl
  by false e = cc

-- a modifier

module _ (op : Op) (m : Matching) (left right : Tree) where
  abbrev Unfit : Type 0
  Unfit = (l r : ExprType) × HasType left l × HasType right r × (is_unfit op m l r ≡ true)

  unfit_there : (l r : Judged) → Good left l → Good right r → is_unfit_at op m l r ≡ true → Unfit
  unfit_there (Ok l) (Ok r) a b e = (l, r, a.stands.0, b.stands.0, e)
  unfit_there (Ok l) (Err g) a b e = absurd (cc)
  unfit_there (Err f) (Ok r) a b e = absurd (cc)
  unfit_there (Err f) (Err g) a b e = absurd (cc)

  unfit_seen : (l r : Judged) → Good left l → Good right r → Unfit → is_unfit_at op m l r ≡ true
  unfit_seen (Ok l) (Ok r) a b u =
      let same : u.0 ≡ l = the_type left l a u.0 u.2 in
      let other : u.1 ≡ r = the_type right r b u.1 u.3 in
      ap (λ x. is_unfit op m x r) (sym same) ∙ ap (λ y. is_unfit op m u.0 y) (sym other) ∙ u.4
  unfit_seen (Ok l) (Err g) a b u = absurd (no_type right g b u.1 u.3)
  unfit_seen (Err f) r a b u = absurd (no_type left f a u.0 u.2)

  pub least_modifier : (span : Span) (l r : Judged) → Good left l → Good right r → Least (IsBadModifier op m left right span) (when (is_misplaced op m || is_unfit_at op m l r) (fault BadModifier span))
  least_modifier span l r a b = least_when ((is_misplaced op m ≡ true) ⊎ Unfit) (is_misplaced op m || is_unfit_at op m l r) (fault BadModifier span)
      (λ e. elim (or_cases (is_misplaced op m) (is_unfit_at op m l r) e) [ inl p ↦ inl p | inr q ↦ inr (unfit_there l r a b q) ])
      (λ h. elim h [ inl p ↦ or_left (is_misplaced op m) (is_unfit_at op m l r) p | inr u ↦ or_right (is_misplaced op m) (is_unfit_at op m l r) (unfit_seen l r a b u) ])

-- an argument

pub is_type-same : (t u : ExprType) → is_type t u ≡ true → t ≡ u
is_type-same Str Str e = refl
is_type-same Scalar Scalar e = refl
is_type-same Vector Vector e = refl
is_type-same Range Range e = refl
is_type-same Str Scalar e = absurd (cc)
is_type-same Str Vector e = absurd (cc)
is_type-same Str Range e = absurd (cc)
is_type-same Scalar Str e = absurd (cc)
is_type-same Scalar Vector e = absurd (cc)
is_type-same Scalar Range e = absurd (cc)
is_type-same Vector Str e = absurd (cc)
is_type-same Vector Scalar e = absurd (cc)
is_type-same Vector Range e = absurd (cc)
is_type-same Range Str e = absurd (cc)
is_type-same Range Scalar e = absurd (cc)
is_type-same Range Vector e = absurd (cc)

pub is_type-itself : (t : ExprType) → is_type t t ≡ true
is_type-itself Str = refl
is_type-itself Scalar = refl
is_type-itself Vector = refl
is_type-itself Range = refl

pub wanted-is : (o : Option ExprType) (t : ExprType) → is_wanted o t ≡ true → o ≡ Some t
wanted-is None t e = absurd (cc)
wanted-is (Some u) t e = ap (λ x. Some x) (is_type-same u t e)

pub wanted-seen : (o : Option ExprType) (t : ExprType) → o ≡ Some t → is_wanted o t ≡ true
wanted-seen o t e = ap (λ x. is_wanted x t) e ∙ is_type-itself t

module _ (s : Signature) (k : ℕ) (e : Tree) where
  abbrev bad : Bool
  bad = names_a_label s.labels k && is_bad_label (string_of e)

  pub least_argument : (v : Judged) → Good e v → Least (λ f. Breaks e f ⊎ IsBadArgument s k e f) (argument_fault (Ok s) k (span_of e) (string_of e) v)
  least_argument (Err f) good = (inl good.stands.0, λ g h. elim h [ inl b ↦ good.stands.1 g b | inr o ↦ absurd (no_type e f good o.0 o.1) ])
  least_argument (Ok t) good = by (is_wanted (wanted s k) t) refl where
    by_label : (b : Bool) → wanted s k ≡ Some t → bad ≡ b → Least (λ f. Breaks e f ⊎ IsBadArgument s k e f) (when b (fault BadLabel (span_of e)))
    by_label true w is = (
      inr (t, good.stands.0, inr (w, is, refl)),
      λ g h. elim h [
        | inl b ↦ absurd (good.stands.1 g b)
        | inr o ↦ elim o.2 [ inl p ↦ absurd (p.0 (w ∙ ap (λ x. Some x) (sym (the_type e t good o.0 o.1)))) | inr q ↦ not_itself _ g q.2 ]
      ],
    )
    by_label false w is = λ g h. elim h [
      | inl b ↦ good.stands.1 g b
      | inr o ↦ elim o.2 [ inl p ↦ p.0 (w ∙ ap (λ x. Some x) (sym (the_type e t good o.0 o.1))) | inr q ↦ clash bad q.1 is ]
    ]

    by : (b : Bool) → is_wanted (wanted s k) t ≡ b → Least (λ f. Breaks e f ⊎ IsBadArgument s k e f) (cond b (when bad (fault BadLabel (span_of e))) (Some (fault WrongType (span_of e))))
    by true w = by_label bad (wanted-is (wanted s k) t w) refl
    by false w = (
      inr (t, good.stands.0, inl (λ same. clash (is_wanted (wanted s k) t) (wanted-seen (wanted s k) t same) w, refl)),
      λ g h. elim h [
        | inl b ↦ absurd (good.stands.1 g b)
        | inr o ↦ elim o.2 [
          | inl p ↦ not_itself _ g p.1
          | inr q ↦ absurd (clash (is_wanted (wanted s k) t) (wanted-seen (wanted s k) t (q.0 ∙ ap (λ x. Some x) (the_type e t good o.0 o.1))) w)
        ]
      ],
    )

pub least_unjudged : (own : Fault) (k : ℕ) (e : Tree) (v : Judged) → Good e v → Least (Breaks e) (argument_fault (Err own) k (span_of e) (string_of e) v)
least_unjudged own k e (Err f) good = good.stands
least_unjudged own k e (Ok t) good = good.stands.1

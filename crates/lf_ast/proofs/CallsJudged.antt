-- What is judged of a call and its arguments.
use Rattle.std.proofs.Common.{◌≡◌, ◌⊎◌, inl, inr, ℕ, ◌+◌, Bool, true, false, cond, ◌&&◌, Option, Some, None, Result, Ok, Err, refl, sym, ◌∙◌, ap}
use Rattle.lf_base.specs.declared.kind.Kind.TheVariants.{WrongType, WrongCount, BadLabel}
use Rattle.lf_base.specs.declared.place.Span.{Span}
use Rattle.lf_ast.specs.Functions.{Signature}
use Rattle.lf_ast.specs.Tree.{Tree, Trees, Nil, Next, count, span_of}
use Rattle.lf_ast.specs.Types.{HasType, Fit, CallHasType, wanted, names_a_label, is_bad_label, string_of, takes_count}
use Rattle.lf_base.specs.declared.fault.Fault.{Fault}
use Rattle.lf_base.specs.Faults.{fault, first, when}
use Rattle.lf_ast.specs.Breaches.{Breaks, BreaksAny, HasBadArgument, IsBadArgument, IsBadCall}
use Rattle.lf_ast.specs.reading.Judging.{Judged, argument_fault, arguments_fault, call_judged, counted, given, is_wanted, judged, own_fault, unless}
use Rattle.lf_ast.specs.declared.expr.ExprType.{ExprType}
use Rattle.lf_base.proofs.Least.{Least, least_either, least_same, none_of_first, not_itself}
use Rattle.lf_laws.proofs.Booleans.{clash}
use Rattle.lf_ast.proofs.Sides.{Good, IsGiven, Stands, least_argument, least_unjudged, stands_unless, wanted-is, wanted-seen}

abbrev pub AllGood : Trees → Type 0
AllGood Nil = Unit {0}
AllGood (Next e es) = Good e (judged e) × AllGood es

-- the arguments by a signature
module _ (s : Signature) where
  least_arguments : (es : Trees) → AllGood es → (P : Fault → Type 0) (so_far : Option Fault) → Least P so_far → (k : ℕ)
      → Least (λ f. P f ⊎ (BreaksAny es f ⊎ HasBadArgument es s k f)) (arguments_fault es (Ok s) so_far k)
  least_arguments Nil all P so_far least k = least_same P (λ f. P f ⊎ (⊥ ⊎ ⊥)) (λ f p. inl p) (λ f h. elim h [ inl p ↦ p | inr never ↦ elim never [ inl a ↦ absurd a | inr b ↦ absurd b ] ]) so_far least
  least_arguments (Next e es) all P so_far least k =
      let Here : Fault → Type 0 = λ f. Breaks e f ⊎ IsBadArgument s k e f in
      let fault_here : Option Fault = argument_fault (Ok s) k (span_of e) (string_of e) (judged e) in
      let front = least_either P Here so_far fault_here least (least_argument s k e (judged e) all.0) in
      let whole = least_arguments es all.1 (λ f. P f ⊎ Here f) (first so_far fault_here) front (k + 1) in
      least_same (λ f. (P f ⊎ Here f) ⊎ (BreaksAny es f ⊎ HasBadArgument es s (k + 1) f)) (λ f. P f ⊎ ((Breaks e f ⊎ BreaksAny es f) ⊎ (IsBadArgument s k e f ⊎ HasBadArgument es s (k + 1) f)))
      (λ f h. elim h [
        | inl front ↦ elim front [ inl p ↦ inl p | inr here ↦ elim here [ inl b ↦ inr (inl (inl b)) | inr o ↦ inr (inr (inl o)) ] ]
        | inr rest ↦ elim rest [ inl a ↦ inr (inl (inr a)) | inr b ↦ inr (inr (inr b)) ]
      ])
      (λ f h. elim h [
        | inl p ↦ inl (inl p)
        | inr rest ↦ elim rest [
          | inl a ↦ elim a [ inl b ↦ inl (inr (inl b)) | inr later ↦ inr (inl later) ]
          | inr b ↦ elim b [ inl o ↦ inl (inr (inr o)) | inr later ↦ inr (inr later) ]
        ]
      ]) _ whole

  -- arguments that fit have no breach
  fits_pass : (es : Trees) → AllGood es → (k : ℕ) → Fit es s k → arguments_fault es (Ok s) None k ≡ None
  fits_pass Nil all k fit = refl
  fits_pass (Next e es) all k fit =
      let has = fit.0 in
      let here : argument_fault (Ok s) k (span_of e) (string_of e) (judged e) ≡ None =
      ap (argument_fault (Ok s) k (span_of e) (string_of e)) (all.0.found has.0 has.2)
      ∙ ap (λ b. cond b (when (names_a_label s.labels k && is_bad_label (string_of e)) (fault BadLabel (span_of e))) (Some (fault WrongType (span_of e)))) (wanted-seen (wanted s k) has.0 has.1)
      ∙ ap (λ b. when b (fault BadLabel (span_of e))) has.3 in
      ap (λ o. arguments_fault es (Ok s) o (k + 1)) here ∙ fits_pass es all.1 (k + 1) fit.1

  argument_fits : (k : ℕ) (e : Tree) (v : Judged) → Good e v → argument_fault (Ok s) k (span_of e) (string_of e) v ≡ None
      → (t : ExprType) × (wanted s k ≡ Some t) × HasType e t × ((names_a_label s.labels k && is_bad_label (string_of e)) ≡ false)
  argument_fits k e (Err f) good none = absurd (cc)
  argument_fits k e (Ok t) good none = by (is_wanted (wanted s k) t) (names_a_label s.labels k && is_bad_label (string_of e)) refl refl none where
    by : (w b : Bool) → is_wanted (wanted s k) t ≡ w → (names_a_label s.labels k && is_bad_label (string_of e)) ≡ b
        → cond w (when b (fault BadLabel (span_of e))) (Some (fault WrongType (span_of e))) ≡ None
        → (u : ExprType) × (wanted s k ≡ Some u) × HasType e u × ((names_a_label s.labels k && is_bad_label (string_of e)) ≡ false)
    by true true w b never = absurd (cc)
    by true false w b never = (t, wanted-is (wanted s k) t w, good.stands.0, b)
    by false b w is never = absurd (cc)

  -- where no breach is found, there was none before, and the arguments fit
  passed_fit : (es : Trees) → AllGood es → (so_far : Option Fault) (k : ℕ) → arguments_fault es (Ok s) so_far k ≡ None → (so_far ≡ None) × Fit es s k
  passed_fit Nil all so_far k none = (none, tt)
  passed_fit (Next e es) all so_far k none =
      let later = passed_fit es all.1 _ (k + 1) none in
      let both = none_of_first so_far (argument_fault (Ok s) k (span_of e) (string_of e) (judged e)) later.0 in
      (both.0, (argument_fits k e (judged e) all.0 both.1, later.1))

-- the arguments where they aren't judged
module _ (own : Fault) where
  least_parts : (es : Trees) → AllGood es → (P : Fault → Type 0) (so_far : Option Fault) → Least P so_far → (k : ℕ)
      → Least (λ f. P f ⊎ BreaksAny es f) (arguments_fault es (Err own) so_far k)
  least_parts Nil all P so_far least k = least_same P (λ f. P f ⊎ ⊥) (λ f p. inl p) (λ f h. elim h [ inl p ↦ p | inr never ↦ absurd never ]) so_far least
  least_parts (Next e es) all P so_far least k =
      let fault_here : Option Fault = argument_fault (Err own) k (span_of e) (string_of e) (judged e) in
      let front = least_either P (Breaks e) so_far fault_here least (least_unjudged own k e (judged e) all.0) in
      let whole = least_parts es all.1 (λ f. P f ⊎ Breaks e f) (first so_far fault_here) front (k + 1) in
      least_same (λ f. (P f ⊎ Breaks e f) ⊎ BreaksAny es f) (λ f. P f ⊎ (Breaks e f ⊎ BreaksAny es f))
      (λ f h. elim h [ inl front ↦ elim front [ inl p ↦ inl p | inr b ↦ inr (inl b) ] | inr a ↦ inr (inr a) ])
      (λ f h. elim h [ inl p ↦ inl (inl p) | inr rest ↦ elim rest [ inl b ↦ inl (inr b) | inr a ↦ inr a ] ]) _ whole

  pub some_fault : (es : Trees) (f : Fault) (k : ℕ) → arguments_fault es (Err own) (Some f) k ≡ None → ⊥
  some_fault Nil f k none = cc
  some_fault (Next e es) f k none = by (λ g. some_fault es g (k + 1)) (argument_fault (Err own) k (span_of e) (string_of e) (judged e)) none where
    by : ((g : Fault) → arguments_fault es (Err own) (Some g) (k + 1) ≡ None → ⊥) → (o : Option Fault) → arguments_fault es (Err own) (first (Some f) o) (k + 1) ≡ None → ⊥
    by later None n = later f n
    by later (Some g) n = later _ n

  -- a breach of the call itself and those inside its arguments
  pub least_own : (es : Trees) → AllGood es → Least (λ f. (f ≡ own) ⊎ BreaksAny es f) (arguments_fault es (Err own) (Some own) 0)
  least_own es all = least_parts es all (λ f. f ≡ own) (Some own) (refl, λ g same. not_itself own g same) 0

-- a call of a signature
module _ (s : Signature) (span : Span) (es : Trees) (all : AllGood es) where
  abbrev n : ℕ
  n = count es

  abbrev CallBreaks : Fault → Type 0
  CallBreaks f = BreaksAny es f ⊎ IsBadCall es span s f

  abbrev CallHasIt : ExprType → Type 0
  CallHasIt t = CallHasType n (Fit es) s t

  abbrev fault_by : Bool → Option Fault
  fault_by b = let call : Result Signature Fault = cond b (Ok s) (Err (fault WrongCount span)) in arguments_fault es call (own_fault call) 0

  least_by : (b : Bool) → takes_count s n ≡ b → Least CallBreaks (fault_by b)
  least_by true is = least_same (λ f. ⊥ ⊎ (BreaksAny es f ⊎ HasBadArgument es s 0 f)) CallBreaks
      (λ f h. elim h [ inl never ↦ absurd never | inr h ↦ elim h [ inl a ↦ inl a | inr b ↦ inr (inr (is, b)) ] ])
      (λ f h. elim h [ inl a ↦ inr (inl a) | inr c ↦ elim c [ inl w ↦ absurd (clash (takes_count s n) is w.0) | inr b ↦ inr (inr b.1) ] ]) _
      (least_arguments s es all (λ f. ⊥) None (λ f never. never) 0)
  least_by false is = least_same (λ f. (f ≡ fault WrongCount span) ⊎ BreaksAny es f) CallBreaks
      (λ f h. elim h [ inl w ↦ inr (inl (is, w)) | inr a ↦ inl a ])
      (λ f h. elim h [ inl a ↦ inr a | inr c ↦ elim c [ inl w ↦ inl w.1 | inr b ↦ absurd (clash (takes_count s n) b.0 is) ] ]) _
      (least_own (fault WrongCount span) es all)

  abbrev judged_by : Bool → Judged
  judged_by b = let call : Result Signature Fault = cond b (Ok s) (Err (fault WrongCount span)) in call_judged call es

  given_by : (b : Bool) → takes_count s n ≡ b → fault_by b ≡ None → IsGiven CallHasIt (given (cond b (Ok s) (Err (fault WrongCount span))))
  given_by true is none = (is, (passed_fit s es all None 0 none).1, refl)
  given_by false is none = absurd (some_fault (fault WrongCount span) es (fault WrongCount span) 0 none)

  stands_by : (b : Bool) → takes_count s n ≡ b → Stands CallHasIt CallBreaks (judged_by b)
  stands_by b is = stands_unless CallHasIt CallBreaks (fault_by b) (given (cond b (Ok s) (Err (fault WrongCount span)))) (least_by b is) (given_by b is)

  pub counted_stands : Stands CallHasIt CallBreaks (call_judged (counted s (count es) span) es)
  counted_stands = stands_by (takes_count s n) refl

  pub counted_found : (t : ExprType) → CallHasIt t → call_judged (counted s (count es) span) es ≡ Ok t
  counted_found t h =
      ap (λ b. judged_by b) h.0 ∙ ap (λ o. unless o (Ok s.gives)) (fits_pass s es all 0 h.1) ∙ ap (λ u. Ok u) (sym h.2)

-- Samples of which some are kept, and which of them have a partner.
use Rattle.std.proofs.Common.{◌≡◌, ◌<◌, ◌≤◌, ◌+◌, ◌⊎◌, inl, inr, ℕ, zero, suc, Bool, true, false, cond, not, ◌||◌, List, [], ◌∷◌, ◌++◌, get_or, length, take, Result, Ok, Err, refl, sym, ap, ◌∙◌, append-nil, subst, true≢false, arith}
use Rattle.std.specs.List.{Contains, filter}
use Rattle.std.specs.List.Sorted.{IsBinarySearchResult, IsSearchInRange, IsSorted}
use Rattle.std.specs.Cmp.{both_ways}
use Rattle.std.specs.Prelude.{IfOk, is_ok}
use Rattle.std.specs.declared.cmp.Ordering.TheVariants.{Less, Greater}
use Rattle.std.specs.Ordering.{eq_by_cmp, is_lt, ordering_reverse}
use Rattle.std.proofs.lemmas.List.{take_more}
use Rattle.std.proofs.lemmas.List.Elements.{Contains-append_cases, Contains-append_left, Contains-append_right, Contains-push_cases, filter_more}
use Rattle.std.proofs.lemmas.List.Sorted.{searchable_from_sorted}
use Rattle.std.proofs.lemmas.Option.{slice_get-get_or}
use Rattle.lf_laws.proofs.Members.{behind, first_or_behind, here, none_in}
use Rattle.lf_ast.specs.Labels.{Labels}
use Rattle.lf_ast.specs.declared.expr.Matching.{Matching}
use Rattle.lf_semantics.specs.Evaluation.{AreEither, AreMade, AreUnmatched, HasPartner}
use Rattle.lf_semantics.specs.Grouped.{signs}
use Rattle.lf_semantics.specs.Texts.{HasTexts, restricted}
use Rattle.lf_semantics.proofs.Members.{in_filter, of_filter}
use Rattle.lf_witness.specs.Ascending.{IsAscending, labels_cmp}
use Rattle.lf_witness.specs.Strict.{AreSame}
use Rattle.lf_witness.proofs.AscendingLists.{ascends_behind, head_less, labels_total, less_itself, tail_ascends}
use Rattle.lf_witness.proofs.Decided.{equal_itself, equal_same, same_told, told_same}
use Rattle.lf_strict.specs.views.Signed.{ArePartnered, is_one_of, is_signed}
use Rattle.lf_strict.proofs.Signatures.{one_signature, same_signature}

-- filters

pub ascending_filter : (p : Labels → Bool) (R : List Labels) → IsAscending R → IsAscending (filter p R)
ascending_filter p [] ascends = ascends
ascending_filter p (x ∷ R) ascends = by (p x) (ascending_filter p R (tail_ascends x R ascends))
  where
    by : (b : Bool) → IsAscending (filter p R) → IsAscending (cond b (x ∷ filter p R) (filter p R))
    by true rest = ascends_behind x (filter p R) rest (λ t c. head_less x t R ascends (of_filter p R t c).0)
    by false rest = rest

-- look-ups in ascending lists

pub any_member : (s : Labels) (R : List Labels) → is_one_of R s ≡ true → Contains R s
any_member s [] e = absurd (true≢false (sym e))
any_member s (t ∷ R) e = by (eq_by_cmp labels_cmp t s) refl e (any_member s R)
  where
    by : (b : Bool) → eq_by_cmp labels_cmp t s ≡ b → (b || is_one_of R s) ≡ true → (is_one_of R s ≡ true → Contains R s) → Contains (t ∷ R) s
    by true same _ _ = subst (Contains (t ∷ R)) (told_same t s same) (here t R)
    by false _ rest further = behind t R s (further rest)

pub member_any : (s : Labels) (R : List Labels) → Contains R s → is_one_of R s ≡ true
member_any s [] c = absurd (none_in s c)
member_any s (t ∷ R) c = by (eq_by_cmp labels_cmp t s) refl (first_or_behind t R s c) (member_any s R)
  where
    by : (b : Bool) → eq_by_cmp labels_cmp t s ≡ b → (t ≡ s) ⊎ Contains R s → (Contains R s → is_one_of R s ≡ true) → (b || is_one_of R s) ≡ true
    by true _ _ _ = refl
    by false other (inl same) _ = absurd (true≢false (sym (same_told t s same) ∙ other))
    by false _ (inr later) rest = rest later

pub sorted : (R : List Labels) → IsAscending R → IsSorted labels_cmp R
sorted R ascends k d low lt =
    let less = ascends k (k + 1) (get_or R k d) (get_or R (k + 1) d) (omega arith) (slice_get-get_or R k d (omega arith)) (slice_get-get_or R (k + 1) d lt) in
    ap is_lt (labels_total.antisymm (get_or R (k + 1) d) (get_or R k d) ∙ ap ordering_reverse less)

le_or_lt : (i k : ℕ) → (i ≤ k) ⊎ (k < i)
le_or_lt zero k = inl (omega arith)
le_or_lt (suc i) zero = inr (omega arith)
le_or_lt (suc i) (suc k) = elim (le_or_lt i k) [
  | inl high ↦ inl (omega (arith, high))
  | inr low ↦ inr (omega (arith, low))
]

pub found_or_not : (R : List Labels) (s : Labels) (r : Result ℕ ℕ) → IsAscending R → IsSearchInRange r (length R) → IsBinarySearchResult (λ y. labels_cmp y s) R r → is_ok r ≡ is_one_of R s
found_or_not R s (Ok k) ascends within found = sym (member_any s R (k, within, equal_same (get_or R k s) s (found s)))
found_or_not R s (Err i) ascends within found = both_ways false (is_one_of R s) (λ e. absurd (true≢false (sym e))) (λ e. absurd (by (any_member s R e)))
  where
    by : Contains R s → ⊥
    by c =
        let apart = found (searchable_from_sorted labels_total (λ x. x) R s (sorted R ascends)) in
        elim (le_or_lt i c.0) [
          | inl high ↦ (let more = apart.1 c.0 s high c.1 in let greater : labels_cmp s s ≡ Greater = subst (λ z. labels_cmp z s ≡ Greater) c.2 more in let equal = equal_itself s in cc)
          | inr low ↦ less_itself s (subst (λ z. labels_cmp z s ≡ Less) c.2 (apart.0 c.0 s (omega arith) low))
        ]

-- partners

module _ (m : Matching) (P Q signatures : List Labels) where
  -- the signatures are those of the right samples
  abbrev pub AreSignatures : Type 0
  AreSignatures = AreMade (λ s r. (r ≡ restricted (signs m) s) × HasTexts s) Q signatures

  pub partner_signed : AreSignatures → (s : Labels) → HasTexts s → HasPartner m Q s → is_one_of signatures (restricted (signs m) s) ≡ true
  partner_signed made s full (t, inside, same) =
      let found = made.0 t inside in
      member_any (restricted (signs m) s) signatures (subst (Contains signatures) (found.1.0 ∙ sym (one_signature m s t full found.1.1 same)) found.2)

  pub signed_partner : AreSignatures → (s : Labels) → is_one_of signatures (restricted (signs m) s) ≡ true → HasPartner m Q s
  signed_partner made s e =
      let from = made.1 (restricted (signs m) s) (any_member (restricted (signs m) s) signatures e) in
      (from.0, from.1, same_signature m s from.0 from.2.0)

  turned : (b : Bool) → (b ≡ true → ⊥) → not b ≡ true
  turned true none = absurd (none refl)
  turned false none = refl

  back : (b : Bool) → not b ≡ true → b ≡ true → ⊥
  back true e _ = true≢false (sym e)
  back false _ e = true≢false (sym e)

  pub are_partnered : (wanted : Bool) → AreSignatures → ((s : Labels) → Contains P s → HasTexts s) → ArePartnered wanted m P Q (filter (is_signed m signatures wanted) P)
  are_partnered true made full = (
    λ s c partner. in_filter (is_signed m signatures true) P s c (partner_signed made s (full s c) partner),
    λ r c. let old = of_filter (is_signed m signatures true) P r c in (old.0, signed_partner made r old.1),
  )
  are_partnered false made full = (
    λ s c none. in_filter (is_signed m signatures false) P s c (turned (is_one_of signatures (restricted (signs m) s)) (λ e. none (signed_partner made s e))),
    λ r c. let old = of_filter (is_signed m signatures false) P r c in
        (old.0, λ partner. back (is_one_of signatures (restricted (signs m) r)) old.1 (partner_signed made r (full r old.0) partner)),
  )

-- a loop goes one sample further
pub texts_more : (P : List Labels) (k : ℕ) (x : Labels) → k < length P → x ≡ get_or P k x → HasTexts x → ((s : Labels) → Contains (take k P) s → HasTexts s) → (s : Labels) → Contains (take (k + 1) P) s → HasTexts s
texts_more P k x lt is full before s c = elim (Contains-push_cases (take k P) x s (subst (λ (l : List Labels). Contains l s) (take_more P k x lt ∙ ap (λ y. take k P ++ y ∷ []) (sym is)) c)) [
  | inl earlier ↦ before s earlier
  | inr same ↦ subst HasTexts same full
]

pub kept_more : {X : Type 0} (p : X → Bool) (xs ys : List X) (k : ℕ) (x : X) → k < length xs → x ≡ get_or xs k x → p x ≡ true → ys ≡ filter p (take k xs) → ys ++ x ∷ [] ≡ filter p (take (k + 1) xs)
kept_more p xs ys k x lt is passes e =
    ap (λ l. l ++ x ∷ []) e
    ∙ sym (filter_more p xs k x lt ∙ ap (λ z. filter p (take k xs) ++ cond (p z) (z ∷ []) []) (sym is) ∙ ap (λ b. filter p (take k xs) ++ cond b (x ∷ []) []) passes)

pub passed_more : {X : Type 0} (p : X → Bool) (xs ys : List X) (k : ℕ) (x : X) → k < length xs → x ≡ get_or xs k x → p x ≡ false → ys ≡ filter p (take k xs) → ys ≡ filter p (take (k + 1) xs)
passed_more p xs ys k x lt is fails e =
    e ∙ sym (append-nil (filter p (take k xs)))
    ∙ sym (filter_more p xs k x lt ∙ ap (λ z. filter p (take k xs) ++ cond (p z) (z ∷ []) []) (sym is) ∙ ap (λ b. filter p (take k xs) ++ cond b (x ∷ []) []) fails)

pub when_both : {X E : Type 0} (P C Q : X → Type 0) (r : Result X E) → IfOk r P → IfOk r C → ((x : X) → P x → C x → Q x) → IfOk r Q
when_both P C Q (Ok x) p c f = f x p c
when_both P C Q (Err e) p c f = tt

pub are_either : (m : Matching) (P Q others M R : List Labels) → AreUnmatched m Q P others → M ≡ P ++ others → AreSame M R → AreEither m P Q R
are_either m P Q others M R rest is same =
    let both : AreSame (P ++ others) R = subst (λ l. AreSame l R) is same in (
      λ s c. both.0 s (Contains-append_left P others s c),
      λ t c none. both.0 t (Contains-append_right P others t (rest.0 t c none)),
      λ r c. elim (Contains-append_cases P others r (both.1 r c)) [
        | inl left ↦ inl left
        | inr right ↦ inr (rest.1 r right)
      ],
    )

-- What gains the values that meet a condition.
use Rattle.std.proofs.Common.{◌≡◌, ◌+◌, ◌<◌, ◌⊎◌, inl, inr, ℕ, List, [], ◌∷◌, ◌++◌, length, take, get_or, sym, subst}
use Rattle.std.proofs.lemmas.List.{take_more}
use Rattle.std.proofs.lemmas.List.Elements.{Contains-append_left, Contains-push, Contains-push_cases}
use Rattle.std.specs.List.{Contains}
use Rattle.lf_laws.specs.Gaining.{Gains, OfSome}
use Rattle.lf_laws.proofs.Members.{none_in}

module _ {C X : Type 0} (values_of : C → List X) where
  pub gains_none : (is : X → Type 0) (old : C) → ((x : X) → is x → ⊥) → Gains values_of is old old
  gains_none is old none = record { kept = λ x c. c; all = λ x h. absurd (none x h); only = λ x c. inl c }

  -- by one more value at the end
  pub gains_one : (is : X → Type 0) (old new : C) (p : X) → values_of new ≡ values_of old ++ p ∷ [] → is p → ((x : X) → is x → x ≡ p) → Gains values_of is old new
  gains_one is old new p e holds one = record {
    kept = λ x c. subst (λ (l : List X). Contains l x) (sym e) (Contains-append_left (values_of old) (p ∷ []) x c);
    all = λ x h. subst (λ (l : List X). Contains l x) (sym e) (subst (λ (y : X). Contains (values_of old ++ p ∷ []) y) (sym (one x h)) (Contains-push (values_of old) p));
    only = λ x c. elim (Contains-push_cases (values_of old) p x (subst (λ (l : List X). Contains l x) e c)) [ inl d ↦ inl d | inr same ↦ inr (subst is same holds) ];
  }

  -- by conditions that say the same
  pub gains_as : (is too : X → Type 0) (old new : C) → Gains values_of is old new → ((x : X) → is x → too x) → ((x : X) → too x → is x) → Gains values_of too old new
  gains_as is too old new a to from = record {
    kept = a.kept;
    all = λ x h. a.all x (from x h);
    only = λ x c. elim (a.only x c) [ inl d ↦ inl d | inr h ↦ inr (to x h) ];
  }

  -- one after the other
  pub gains_both : (is too : X → Type 0) (old mid new : C) → Gains values_of is old mid → Gains values_of too mid new → Gains values_of (λ x. is x ⊎ too x) old new
  gains_both is too old mid new a b = record {
    kept = λ x c. b.kept x (a.kept x c);
    all = λ x h. elim h [ inl p ↦ b.kept x (a.all x p) | inr q ↦ b.all x q ];
    only = λ x c. elim (b.only x c) [
      | inl d ↦ elim (a.only x d) [ inl before ↦ inl before | inr p ↦ inr (inl p) ]
      | inr q ↦ inr (inr q)
    ];
  }

  pub gains_of_none : {Y : Type 0} (is : Y → X → Type 0) (old : C) → Gains values_of (OfSome is []) old old
  gains_of_none {Y} is old = gains_none (OfSome is []) old (λ x h. none_in h.0 h.1)

  -- by what one more of them asks for
  pub gains_of_more : {Y : Type 0} (is : Y → X → Type 0) (ys : List Y) (i : ℕ) (d : Y) (old mid new : C) → i < length ys → Gains values_of (OfSome is (take i ys)) old mid
      → Gains values_of (is (get_or ys i d)) mid new → Gains values_of (OfSome is (take (i + 1) ys)) old new
  gains_of_more {Y} is ys i d old mid new lt a b =
      gains_as (λ x. OfSome is (take i ys) x ⊎ is (get_or ys i d) x) (OfSome is (take (i + 1) ys)) old new (gains_both (OfSome is (take i ys)) (is (get_or ys i d)) old mid new a b) to from
    where
      more : take (i + 1) ys ≡ take i ys ++ get_or ys i d ∷ []
      more = take_more ys i d lt

      to : (x : X) → OfSome is (take i ys) x ⊎ is (get_or ys i d) x → OfSome is (take (i + 1) ys) x
      to x (inl h) = (h.0, subst (λ (l : List Y). Contains l h.0) (sym more) (Contains-append_left (take i ys) (get_or ys i d ∷ []) h.0 h.1), h.2)
      to x (inr p) = (get_or ys i d, subst (λ (l : List Y). Contains l (get_or ys i d)) (sym more) (Contains-push (take i ys) (get_or ys i d)), p)

      from : (x : X) → OfSome is (take (i + 1) ys) x → OfSome is (take i ys) x ⊎ is (get_or ys i d) x
      from x h = elim (Contains-push_cases (take i ys) (get_or ys i d) h.0 (subst (λ (l : List Y). Contains l h.0) more h.1)) [
        | inl c ↦ inl (h.0, c, h.2)
        | inr e ↦ inr (subst (λ (y : Y). is y x) (sym e) h.2)
      ]

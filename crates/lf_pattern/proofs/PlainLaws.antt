-- `scanned` gives the alternatives of a plain pattern, and gives none exactly where the pattern is not plain.
use Rattle.std.proofs.Common.{◌≡◌, ℕ, ◌-◌, ◌<◌, Bool, true, false, cond, ◌==◌, List, [], ◌∷◌, ◌++◌, map, length, get_or, drop, take, Some, refl, sym, ap, subst, ◌∙◌, encode_utf8, encode_utf8_all, arith, append_assoc, append-nil, length-append, inl, inr, ◌⊎◌, ◌≢◌, true≢false, lit<}
use Rattle.std.proofs.lemmas.Grind.{common_steps}
use Rattle.std.proofs.lemmas.Option.{none-some, same_Some}
use Rattle.std.specs.Str.{chars}
use Rattle.std.proofs.lemmas.Bool.Decides.{nat_tests}
use Rattle.std.proofs.lemmas.Bool.{cond-true, cond-false, cond_both, cases_Bool, eqb-true}
use Rattle.lf_pattern.specs.Plain.{Joins, end, bar, ordinary, escaped, is_escapable, is_special, IsPlainList, HasAlternatives}
use Rattle.lf_pattern.specs.Scan.{scanned, inside, has_pair, is_quiet, alternatives_of}

-- the values of the list, when `now` was read of the first one and `done` before it
abbrev joined : List (List ℕ) → List ℕ → List ℕ → List (List ℕ) → List (List ℕ)
joined done now v vs = done ++ (now ++ encode_utf8_all v) ∷ map encode_utf8_all vs

joined-char : (done : List (List ℕ)) (now : List ℕ) (c : ℕ) (v : List ℕ) (vs : List (List ℕ)) →
    joined done (now ++ encode_utf8 c) v vs ≡ joined done now (c ∷ v) vs
joined-char done now c v vs = ap (λ (w : List ℕ). done ++ w ∷ map encode_utf8_all vs) (append_assoc now (encode_utf8 c) (encode_utf8_all v))

joined-bar : (done : List (List ℕ)) (now : List ℕ) (v : List ℕ) (vs : List (List ℕ)) →
    joined (done ++ now ∷ []) [] v vs ≡ joined done now [] (v ∷ vs)
joined-bar done now v vs = append_assoc done (now ∷ []) (encode_utf8_all v ∷ map encode_utf8_all vs)
    ∙ ap (λ (w : List ℕ). done ++ w ∷ encode_utf8_all v ∷ map encode_utf8_all vs) (sym (append-nil now))

special-not : (c : ℕ) → is_special c ≡ false → ((c == 92) ≡ false) × ((c == 124) ≡ false)
unfolding is_special
special-not c p = (grind (arith, nat_tests), grind (arith, nat_tests))

-- what a list has is found
pub scanned-Joins : {cs v : List ℕ} {vs : List (List ℕ)} (done : List (List ℕ)) (now : List ℕ) → Joins cs (v ∷ vs) → scanned done now false cs ≡ Some (joined done now v vs)
unfolding scanned
scanned-Joins done now end = ap (λ (w : List ℕ). Some (done ++ w ∷ [])) (sym (append-nil now))
scanned-Joins done now (bar {cs} {v} {vs} r) = scanned-Joins (done ++ now ∷ []) [] r ∙ ap Some (joined-bar done now v vs)
scanned-Joins done now (ordinary {c} {cs} {v} {vs} p r) =
    let s = special-not c p in
    cond-false _ _ _ s.0 ∙ cond-false _ _ _ s.1 ∙ cond-false _ _ _ p ∙ scanned-Joins done (now ++ encode_utf8 c) r ∙ ap Some (joined-char done now c v vs)
scanned-Joins done now (escaped {c} {cs} {v} {vs} p r) =
    cond-true _ _ _ p ∙ scanned-Joins done (now ++ encode_utf8 c) r ∙ ap Some (joined-char done now c v vs)

-- what is found, the list has
abbrev with_backslash : Bool → List ℕ → List ℕ
with_backslash e cs = cond e (92 ∷ cs) cs

abbrev Found : List ℕ → List (List ℕ) → List ℕ → List (List ℕ) → Type 0
Found cs done now r = (v : List ℕ) × (vs : List (List ℕ)) × Joins cs (v ∷ vs) × (r ≡ joined done now v vs)

Joins-scanned : (e : Bool) (cs : List ℕ) (done : List (List ℕ)) (now : List ℕ) (r : List (List ℕ)) →
    scanned done now e cs ≡ Some r → Found (with_backslash e cs) done now r
unfolding scanned
Joins-scanned true [] done now r h = cc
Joins-scanned false [] done now r h = ([], [], end, same_Some _ _ (sym h) ∙ ap (λ (w : List ℕ). done ++ w ∷ []) (sym (append-nil now)))
Joins-scanned true (c ∷ cs) done now r h = elim (cases_Bool (is_escapable c)) [
  | inl p ↦ let (v, vs, j, e) = Joins-scanned false cs done (now ++ encode_utf8 c) r (sym (cond-true _ _ _ p) ∙ h) in
      (c ∷ v, vs, escaped p j, e ∙ joined-char done now c v vs)
  | inr p ↦ absurd (none-some _ (sym (cond-false _ _ _ p) ∙ h))
]
Joins-scanned false (c ∷ cs) done now r h = elim (cases_Bool (c == 92)) [
  | inl p ↦ let f = Joins-scanned true cs done now r (sym (cond-true _ _ _ p) ∙ h) in
      let P : ℕ → Type 0 = λ x. Found (x ∷ cs) done now r in subst P (sym (eqb-true c 92 p)) f
  | inr p ↦ let h' = sym (cond-false _ _ _ p) ∙ h in elim (cases_Bool (c == 124)) [
    | inl q ↦ let (v, vs, j, e) = Joins-scanned false cs (done ++ now ∷ []) [] r (sym (cond-true _ _ _ q) ∙ h') in
        let P : ℕ → Type 0 = λ x. Found (x ∷ cs) done now r in
        subst P (sym (eqb-true c 124 q)) ([], v ∷ vs, bar j, e ∙ joined-bar done now v vs)
    | inr q ↦ let h'' = sym (cond-false _ _ _ q) ∙ h' in elim (cases_Bool (is_special c)) [
      | inl s ↦ absurd (none-some _ (sym (cond-true _ _ _ s) ∙ h''))
      | inr s ↦ let (v, vs, j, e) = Joins-scanned false cs done (now ++ encode_utf8 c) r (sym (cond-false _ _ _ s) ∙ h'') in
          (c ∷ v, vs, ordinary s j, e ∙ joined-char done now c v vs)
    ]
  ]
]

inside-plain : (inner : List ℕ) → get_or inner 0 0 ≢ 63 → inside (40 ∷ inner ++ 41 ∷ []) ≡ inner
inside-plain inner h = grind (arith, common_steps, nat_tests)

last-of : (xs : List ℕ) → get_or (xs ++ 41 ∷ []) (length xs) 0 ≡ 41
last-of xs = grind (arith, common_steps)

front-of : (xs : List ℕ) → take (length xs) (xs ++ 41 ∷ []) ≡ xs
front-of xs = grind (arith, common_steps)

length-of : (xs : List ℕ) → length (xs ++ 41 ∷ []) - 1 ≡ length xs
length-of xs = omega (arith, length-append xs (41 ∷ []))

inside_by : (cs : List ℕ) (n : ℕ) → length cs - 1 ≡ n → 3 < length cs → get_or cs 0 0 ≡ 40 → get_or cs 1 0 ≡ 63 → get_or cs 2 0 ≡ 58 → get_or cs n 0 ≡ 41 → inside cs ≡ drop 3 (take n cs)
inside_by cs n e h p q r t = grind (arith, nat_tests)

inside-quiet : (inner : List ℕ) → inside (40 ∷ 63 ∷ 58 ∷ inner ++ 41 ∷ []) ≡ inner
inside-quiet inner =
    let xs = 40 ∷ 63 ∷ 58 ∷ inner in
    let m = length-append inner (41 ∷ []) in
    inside_by (xs ++ 41 ∷ []) (length xs) (length-of xs) (omega (arith, m)) refl refl refl (last-of xs) ∙ ap (drop 3) (front-of xs)

pub wrapped : (cs : List ℕ) → 1 < length cs → get_or cs 0 0 ≡ 40 → get_or cs (length cs - 1) 0 ≡ 41 → cs ≡ 40 ∷ drop 1 (take (length cs - 1) cs) ++ 41 ∷ []
wrapped cs h p q = grind (arith, common_steps)

wrapped_quiet : (cs : List ℕ) → 3 < length cs → get_or cs 0 0 ≡ 40 → get_or cs 1 0 ≡ 63 → get_or cs 2 0 ≡ 58 → get_or cs (length cs - 1) 0 ≡ 41 → cs ≡ 40 ∷ 63 ∷ 58 ∷ drop 3 (take (length cs - 1) cs) ++ 41 ∷ []
wrapped_quiet cs h p q r t = grind (arith, common_steps)

-- the pair that is taken off stood there
inside_cases : (cs : List ℕ) → (inside cs ≡ cs) ⊎ ((cs ≡ 40 ∷ inside cs ++ 41 ∷ []) ⊎ (cs ≡ 40 ∷ 63 ∷ 58 ∷ inside cs ++ 41 ∷ []))
inside_cases cs =
    let P : List ℕ → Type 0 = λ r. (r ≡ cs) ⊎ ((cs ≡ 40 ∷ r ++ 41 ∷ []) ⊎ (cs ≡ 40 ∷ 63 ∷ 58 ∷ r ++ 41 ∷ [])) in
    cond_both (has_pair cs) _ _ P
    (λ (pair : has_pair cs ≡ true). cond_both (is_quiet cs) 3 1 (λ n. P (drop n (take (length cs - 1) cs)))
    (λ (quiet : is_quiet cs ≡ true). inr (inr (wrapped_quiet cs (grind (arith, nat_tests)) (grind (arith, nat_tests)) (grind (arith, nat_tests)) (grind (arith, nat_tests)) (grind (arith, nat_tests)))))
    (λ _. inr (inl (wrapped cs (grind (arith, nat_tests)) (grind (arith, nat_tests)) (grind (arith, nat_tests))))))
    (λ _. inl refl)

pub not_zero : (x : ℕ) → 0 < x → x ≡ 0 → ⊥
not_zero x p q = omega arith

-- a list of literals has no pair round it, and begins with no `?`
pub Joins-head : {cs : List ℕ} {vs : List (List ℕ)} (x : ℕ) → is_special x ≡ true → (x == 92) ≡ false → (x == 124) ≡ false → Joins cs vs → get_or cs 0 0 ≡ x → x ≡ 0
Joins-head x s p q end h = sym h
Joins-head x s p q (bar r) h = grind (arith, nat_tests)
Joins-head x s p q (ordinary t r) h = absurd (true≢false (sym s ∙ ap is_special (sym h) ∙ t))
Joins-head x s p q (escaped t r) h = grind (arith, nat_tests)

inside-Joins : {cs : List ℕ} {vs : List (List ℕ)} → Joins cs vs → inside cs ≡ cs
unfolding is_special
inside-Joins {cs} r = elim (inside_cases cs) [
  | inl e ↦ e
  | inr w ↦ elim w [
    | inl e ↦ absurd (not_zero 40 (lit< tt) (Joins-head 40 refl refl refl r (ap (λ (l : List ℕ). get_or l 0 0) e)))
    | inr e ↦ absurd (not_zero 40 (lit< tt) (Joins-head 40 refl refl refl r (ap (λ (l : List ℕ). get_or l 0 0) e)))
  ]
]

pub Joins-inside : (cs : List ℕ) (vs : List (List ℕ)) → IsPlainList cs vs → Joins (inside cs) vs
unfolding is_special
Joins-inside cs vs (inl r) = let P : List ℕ → Type 0 = λ l. Joins l vs in subst P (sym (inside-Joins r)) r
Joins-inside cs vs (inr (inl (inner, e, r))) =
    let P : List ℕ → Type 0 = λ l. Joins l vs in
    subst P (sym (ap inside e ∙ inside-plain inner (λ h. absurd (not_zero 63 (lit< tt) (Joins-head 63 refl refl refl r h))))) r
Joins-inside cs vs (inr (inr (inner, e, r))) =
    let P : List ℕ → Type 0 = λ l. Joins l vs in
    subst P (sym (ap inside e ∙ inside-quiet inner)) r

IsPlainList-inside : (cs : List ℕ) (vs : List (List ℕ)) → Joins (inside cs) vs → IsPlainList cs vs
IsPlainList-inside cs vs r = elim (inside_cases cs) [
  | inl e ↦ inl (let P : List ℕ → Type 0 = λ l. Joins l vs in subst P e r)
  | inr w ↦ elim w [ inl e ↦ inr (inl (inside cs, e, r)) | inr e ↦ inr (inr (inside cs, e, r)) ]
]

-- ---- what clauses say

Joins-values : {cs : List ℕ} {vs : List (List ℕ)} → Joins cs vs → scanned [] [] false cs ≡ Some (map encode_utf8_all vs)
Joins-values end = scanned-Joins [] [] end
Joins-values (bar r) = scanned-Joins [] [] (bar r)
Joins-values (ordinary p r) = scanned-Joins [] [] (ordinary p r)
Joins-values (escaped p r) = scanned-Joins [] [] (escaped p r)

pub found : (text : List ℕ) (alternatives : List (List ℕ)) → HasAlternatives text alternatives → alternatives_of text ≡ Some alternatives
found text alternatives (vs, plain, e) = Joins-values (Joins-inside (chars text) vs plain) ∙ ap Some (sym e)

pub is_found : (text : List ℕ) (alternatives : List (List ℕ)) → alternatives_of text ≡ Some alternatives → HasAlternatives text alternatives
is_found text alternatives h =
    let (v, vs, r, e) = Joins-scanned false (inside (chars text)) [] [] alternatives h in
    (v ∷ vs, IsPlainList-inside (chars text) (v ∷ vs) r, e)

-- One label set more among label sets that are kept once.
use Rattle.std.proofs.Common.{◌≡◌, ◌<◌, Bool, true, false, not, ◌||◌, cond, List, [], ◌∷◌, ◌++◌, length, refl, ◌∙◌, ap, subst, arith}
use Rattle.std.specs.List.{filter, list_any}
use Rattle.std.specs.Ordering.{is_eq}
use Rattle.lf_ast.specs.LabelOrder.{labels_cmp}
use Rattle.lf_ast.specs.Labels.{Labels}
use Rattle.lf_trials.specs.Building.{each_once}
use Rattle.lf_witness.proofs.Decided.{equal_itself, equal_same}
use Rattle.std.specs.declared.cmp.Ordering.{Ordering}
use Rattle.std.specs.declared.cmp.Ordering.TheVariants.{Less, Equal, Greater}

-- of fewer than two each is there once
pub few_once : (xs : List Labels) → length xs < 2 → xs ≡ each_once xs
few_once [] few = refl
few_once (x ∷ []) few = refl
few_once (x ∷ y ∷ xs) few = absurd (omega (arith, few))

abbrev pub is_in : List Labels → Labels → Bool
is_in xs s = list_any (λ t. is_eq (labels_cmp s t)) xs

abbrev pub if_new : Bool → Labels → List Labels
if_new there s = cond there [] (s ∷ [])

filter_both : (p : Labels → Bool) (xs ys : List Labels) → filter p (xs ++ ys) ≡ filter p xs ++ filter p ys
filter_both p [] ys = refl
filter_both p (x ∷ xs) ys = by (p x) (filter_both p xs ys)
  where
    by : (b : Bool) → filter p (xs ++ ys) ≡ filter p xs ++ filter p ys → cond b (x ∷ filter p (xs ++ ys)) (filter p (xs ++ ys)) ≡ cond b (x ∷ filter p xs) (filter p xs) ++ filter p ys
    by true e = ap (λ (zs : List Labels). x ∷ zs) e
    by false e = e

filter_new : (p : Labels → Bool) (s : Labels) (q there : Bool) → p s ≡ not q → filter p (if_new there s) ≡ if_new (q || there) s
filter_new p s true true e = refl
filter_new p s false true e = refl
filter_new p s true false e = ap (λ (b : Bool). cond b (s ∷ []) []) e
filter_new p s false false e = ap (λ (b : Bool). cond b (s ∷ []) []) e

pub one_more_once : (xs : List Labels) (s : Labels) → each_once (xs ++ s ∷ []) ≡ each_once xs ++ if_new (is_in xs s) s
one_more_once [] s = refl
one_more_once (x ∷ xs) s =
    let p : Labels → Bool = λ t. not (is_eq (labels_cmp t x)) in
    ap (λ (zs : List Labels). x ∷ filter p zs) (one_more_once xs s)
    ∙ ap (λ (zs : List Labels). x ∷ zs) (filter_both p (each_once xs) (if_new (is_in xs s) s) ∙ ap (λ (zs : List Labels). filter p (each_once xs) ++ zs) (filter_new p s (is_eq (labels_cmp s x)) (is_in xs s) refl))

any_both : (f : Labels → Bool) (xs : List Labels) (s : Labels) → list_any f (xs ++ s ∷ []) ≡ (f s || list_any f xs)
any_both f [] s = refl
any_both f (x ∷ xs) s = by (f x) (f s) (list_any f xs) (any_both f xs s)
  where
    by : (a b c : Bool) → list_any f (xs ++ s ∷ []) ≡ (b || c) → (a || list_any f (xs ++ s ∷ [])) ≡ (b || (a || c))
    by true true c e = refl
    by true false c e = refl
    by false b c e = e

pub one_more_in : (xs : List Labels) (s t : Labels) → is_in (xs ++ s ∷ []) t ≡ (is_eq (labels_cmp t s) || is_in xs t)
one_more_in xs s t = any_both (λ u. is_eq (labels_cmp t u)) xs s

pub when_new : (b : Bool) (s : Labels) → cond (not b) (s ∷ []) [] ≡ if_new b s
when_new true s = refl
when_new false s = refl

-- two label sets are equal whichever comes first
equal_too : (s t : Labels) → labels_cmp s t ≡ Equal → labels_cmp t s ≡ Equal
equal_too s t e = subst (λ (u : Labels). labels_cmp u s ≡ Equal) (equal_same s t e) (equal_itself s)

pub either_way : (s t : Labels) → is_eq (labels_cmp s t) ≡ is_eq (labels_cmp t s)
either_way s t = by (labels_cmp s t) (labels_cmp t s) refl refl
  where
    by : (a b : Ordering) → labels_cmp s t ≡ a → labels_cmp t s ≡ b → is_eq a ≡ is_eq b
    by Equal Equal e f = refl
    by Equal Less e f = absurd (let g = equal_too s t e in cc)
    by Equal Greater e f = absurd (let g = equal_too s t e in cc)
    by Less Equal e f = absurd (let g = equal_too t s f in cc)
    by Greater Equal e f = absurd (let g = equal_too t s f in cc)
    by Less Less e f = refl
    by Less Greater e f = refl
    by Greater Less e f = refl
    by Greater Greater e f = refl

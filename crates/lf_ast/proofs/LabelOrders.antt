-- Texts that are compared from either side, and the order of lists of entries, pair by pair.
use Rattle.std.proofs.Common.{◌≡◌, ℕ, zero, suc, min, List, [], ◌∷◌, drop, length, map, refl, sym, ◌∙◌, arith}
use Rattle.std.specs.Str.{bytes_eq}
use Rattle.std.proofs.lemmas.Slice.Eq.{bytes_eq-Decides}
use Rattle.std.proofs.lemmas.Bool.Decides.{nat_tests, same_from_decides}
use Rattle.std.specs.declared.cmp.Ordering.{Ordering}
use Rattle.std.specs.declared.cmp.Ordering.TheVariants.{Less, Equal, Greater}
use Rattle.std.specs.Ordering.{nat_cmp, ordering_then}
use Rattle.lf_ast.specs.Labels.{Bytes}
use Rattle.lf_ast.specs.LabelOrder.{pair_of, pairs_cmp}

pub symmetric : (a b : Bytes) → bytes_eq a b ≡ bytes_eq b a
symmetric a b = same_from_decides {P = a ≡ b} (bytes_eq a b) (bytes_eq b a) (bytes_eq-Decides a b) ((λ e. sym ((bytes_eq-Decides b a).0 e)), (λ e. (bytes_eq-Decides b a).1 (sym e)))

pub then_nothing : (o : Ordering) → ordering_then o Equal ≡ o
then_nothing Less = refl
then_nothing Equal = refl
then_nothing Greater = refl

-- the order of what is left from a place on
abbrev pub order_from : ℕ → List (Bytes × Bytes) → List (Bytes × Bytes) → Ordering
order_from k es fs = pairs_cmp (map pair_of (drop k es)) (map pair_of (drop k fs))

both_more : (n m : ℕ) → nat_cmp n m ≡ nat_cmp (suc n) (suc m)
both_more n m = grind (arith, nat_tests)

-- where one ends, the longer comes second
pub at_the_end : (k : ℕ) (es fs : List (Bytes × Bytes)) → k ≡ min (length es) (length fs) → order_from k es fs ≡ nat_cmp (length es) (length fs)
at_the_end zero [] [] is = refl
at_the_end zero [] (f ∷ fs) is = grind (arith, nat_tests)
at_the_end zero (e ∷ es) [] is = grind (arith, nat_tests)
at_the_end zero (e ∷ es) (f ∷ fs) is = absurd (omega (arith, is))
at_the_end (suc k) [] fs is = absurd (omega (arith, is))
at_the_end (suc k) (e ∷ es) [] is = absurd (omega (arith, is))
at_the_end (suc k) (e ∷ es) (f ∷ fs) is = at_the_end k es fs (omega (arith, is)) ∙ both_more (length es) (length fs)

-- Whether a number is in a set.
use Rattle.std.proofs.Common.{◌≡◌, ℕ, Bool, true, false, cond, eqb, ltb, List, refl, sym, subst, true≢false, arith}
use Rattle.std.specs.BTreeMap.{is_at}
use Rattle.std.specs.List.{Contains, list_any}
use Rattle.std.specs.Ordering.{is_eq, nat_cmp}
use Rattle.std.specs.declared.cmp.Ordering.{Ordering}
use Rattle.std.specs.declared.cmp.Ordering.TheVariants.{Less, Equal, Greater}
use Rattle.std.proofs.lemmas.Bool.{eqb-true}
use Rattle.std.proofs.lemmas.Cmp.{ranked}
use Rattle.lf_laws.proofs.Members.{any_has, some_has}

abbrev compared : Bool → Bool → Ordering
compared less same = cond less Less (cond same Equal Greater)

same_at : (k x : ℕ) → is_at (nat_cmp k) x ≡ true → k ≡ x
same_at k x = by (ltb k x) (eqb k x) refl
  where
    by : (less same : Bool) → eqb k x ≡ same → is_eq (compared less same) ≡ true → k ≡ x
    by true same e f = absurd (true≢false (sym f))
    by false true e f = eqb-true k x e
    by false false e f = absurd (true≢false (sym f))

pub held : (k : ℕ) (xs : List ℕ) → list_any (is_at (nat_cmp k)) xs ≡ true → Contains xs k
held k xs e = let found = some_has (is_at (nat_cmp k)) xs e in subst (Contains xs) (sym (same_at k found.0 found.2)) found.1

at_itself : (o : Ordering) (k : ℕ) → o ≡ nat_cmp k k → is_eq o ≡ true
at_itself Less k e = let h = ranked k k Less e in absurd (omega (arith, h))
at_itself Equal k e = refl
at_itself Greater k e = let h = ranked k k Greater e in absurd (omega (arith, h))

pub holds : (k : ℕ) (xs : List ℕ) → Contains xs k → list_any (is_at (nat_cmp k)) xs ≡ true
holds k xs c = any_has (is_at (nat_cmp k)) xs k c (at_itself (nat_cmp k k) k refl)

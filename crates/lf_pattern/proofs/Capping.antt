-- Samples that are cut where they are too long follow one another, and are repeated, as whole ones do.
use Rattle.std.proofs.Common.{◌≡◌, ℕ, zero, suc, max, Bool, true, false, nat_le, List, [], ◌++◌, length, Option, Some, None, refl, sym, ap, ap₂, ◌∙◌, arith, append_assoc, append-nil, length-append, inl, inr}
use Rattle.std.proofs.lemmas.Bool.{cases_Bool, cond-true, cond-false}
use Rattle.std.proofs.lemmas.Bool.Decides.{nat_tests}
use Rattle.lf_pattern.specs.declared.sample.Both.{Both}
use Rattle.lf_pattern.specs.Shape.{Samples, followed, times, counted}
use Rattle.lf_pattern.specs.ShapeScan.{capped, joined, times_of, nothing_read, followed_by, counted_by}

-- whether a sample may be so long
abbrev pub fits : List ℕ → Bool
fits text = nat_le (length text) 256

pub capped-fits : (a : List ℕ) → fits a ≡ true → capped a ≡ Some a
capped-fits a h = cond-true (fits a) _ _ h

pub capped-long : (a : List ℕ) → fits a ≡ false → capped a ≡ None
capped-long a h = cond-false (fits a) _ _ h

longer_left : (a b : List ℕ) → fits a ≡ false → fits (a ++ b) ≡ false
longer_left a b h = let e = length-append a b in grind (arith, nat_tests)

longer_right : (a b : List ℕ) → fits b ≡ false → fits (a ++ b) ≡ false
longer_right a b h = let e = length-append a b in grind (arith, nat_tests)

joined-none : (x : Option (List ℕ)) → joined x None ≡ None
joined-none None = refl
joined-none (Some a) = refl

pub capped-append : (a b : List ℕ) → capped (a ++ b) ≡ joined (capped a) (capped b)
capped-append a b = elim (cases_Bool (fits a)) [
  | inl p ↦ elim (cases_Bool (fits b)) [
    | inl q ↦ sym (ap₂ joined (capped-fits a p) (capped-fits b q))
    | inr q ↦ capped-long (a ++ b) (longer_right a b q) ∙ sym (ap (joined (capped a)) (capped-long b q) ∙ joined-none (capped a))
  ]
  | inr p ↦ capped-long (a ++ b) (longer_left a b p) ∙ sym (ap (λ (x : Option (List ℕ)). joined x (capped b)) (capped-long a p))
]

join_left : (a b c : List ℕ) → joined (capped (a ++ b)) (Some c) ≡ capped ((a ++ b) ++ c)
join_left a b c = elim (cases_Bool (fits (a ++ b))) [
  | inl p ↦ ap (λ (x : Option (List ℕ)). joined x (Some c)) (capped-fits (a ++ b) p)
  | inr p ↦ ap (λ (x : Option (List ℕ)). joined x (Some c)) (capped-long (a ++ b) p) ∙ sym (capped-long ((a ++ b) ++ c) (longer_left (a ++ b) c p))
]

join_right : (a b c : List ℕ) → joined (Some a) (capped (b ++ c)) ≡ capped (a ++ (b ++ c))
join_right a b c = elim (cases_Bool (fits (b ++ c))) [
  | inl p ↦ ap (joined (Some a)) (capped-fits (b ++ c) p)
  | inr p ↦ ap (joined (Some a)) (capped-long (b ++ c) p) ∙ sym (capped-long (a ++ (b ++ c)) (longer_right a (b ++ c) p))
]

joined-joined : (x y z : Option (List ℕ)) → joined (joined x y) z ≡ joined x (joined y z)
joined-joined None y z = refl
joined-joined (Some a) None z = refl
joined-joined (Some a) (Some b) None = joined-none (capped (a ++ b))
joined-joined (Some a) (Some b) (Some c) = join_left a b c ∙ ap capped (append_assoc a b c) ∙ sym (join_right a b c)

capped-nil : (a : List ℕ) → joined (capped a) (Some []) ≡ capped a
capped-nil a = sym (capped-append a []) ∙ ap capped (append-nil a)

joined-nil : (x y : Option (List ℕ)) → joined (joined x y) (Some []) ≡ joined x y
joined-nil None y = refl
joined-nil (Some a) None = refl
joined-nil (Some a) (Some b) = capped-nil (a ++ b)

nil-capped : (a : List ℕ) → joined (Some []) (capped a) ≡ capped a
nil-capped a = sym (capped-append [] a)

times_of-capped : (n : ℕ) (a : List ℕ) → times_of n (capped a) ≡ capped (times n a)
times_of-capped zero a = refl
times_of-capped (suc n) a = ap (λ (x : Option (List ℕ)). joined x (capped a)) (times_of-capped n a) ∙ sym (capped-append (times n a) a)

-- ---- pairs of samples

-- both samples, cut where they are too long
abbrev pub cut : Samples → Both
cut p = record { low = capped p.low; high = capped p.high }

abbrev pub both_of : Option (List ℕ) → Option (List ℕ) → Both
both_of low high = record { low = low; high = high }

pub followed-cut : (p q : Samples) → followed_by (cut p) (cut q) ≡ cut (followed p q)
followed-cut p q = ap₂ both_of (sym (capped-append p.low q.low)) (sym (capped-append p.high q.high))

pub counted-cut : (n : ℕ) (p : Samples) → counted_by n (cut p) ≡ cut (counted n p)
counted-cut n p = ap₂ both_of (times_of-capped n p.low) (times_of-capped (max 1 n) p.high)

pub followed-followed : (p q r : Both) → followed_by (followed_by p q) r ≡ followed_by p (followed_by q r)
followed-followed p q r = ap₂ both_of (joined-joined p.low q.low r.low) (joined-joined p.high q.high r.high)

pub followed-nothing : (p q : Both) → followed_by (followed_by p q) nothing_read ≡ followed_by p q
followed-nothing p q = ap₂ both_of (joined-nil p.low q.low) (joined-nil p.high q.high)

pub nothing-cut : (p : Samples) → followed_by nothing_read (cut p) ≡ cut p
nothing-cut p = ap₂ both_of (nil-capped p.low) (nil-capped p.high)

-- The first rule of a name that passes is found among the numbers of the name's rules.
use Rattle.std.proofs.Common.{◌≡◌, ◌<◌, ◌+◌, ℕ, zero, suc, Bool, true, false, ◌&&◌, cond, List, [], ◌∷◌, length, get_or, Option, Some, None, refl, sym, ◌∙◌, ap, subst, arith}
use Rattle.std.specs.Prelude.{slice_get}
use Rattle.std.specs.List.{find}
use Rattle.lf_ast.specs.Labels.{Bytes}
use Rattle.lf_ast.specs.Rules.{RuleTree}
use Rattle.lf_deps.specs.views.Search.{numbers_of}
use Rattle.lf_semantics.specs.Environments.{records}
use Rattle.lf_trials.specs.Reached.{first_rule}

pub get_or_in : (xs : List ℕ) (i d e : ℕ) → i < length xs → get_or xs i d ≡ get_or xs i e
get_or_in [] i d e less = absurd (omega (arith, less))
get_or_in (x ∷ xs) zero d e less = refl
get_or_in (x ∷ xs) (suc i) d e less = get_or_in xs i d e (omega (arith, less))

module _ (test : ℕ → Bool) where
  pub found_at : (xs : List ℕ) (i : ℕ) → i < length xs → ((k : ℕ) → k < i → test (get_or xs k 0) ≡ false) → test (get_or xs i 0) ≡ true → find test xs ≡ Some (get_or xs i 0)
  found_at [] i less before here = absurd (omega (arith, less))
  found_at (x ∷ xs) zero less before here = ap (λ b. cond b (Some x) (find test xs)) here
  found_at (x ∷ xs) (suc i) less before here =
      ap (λ b. cond b (Some x) (find test xs)) (before 0 (omega arith)) ∙ found_at xs i (omega (arith, less)) (λ k h. before (suc k) (omega (arith, h))) here

  pub none_at : (xs : List ℕ) → ((k : ℕ) → k < length xs → test (get_or xs k 0) ≡ false) → find test xs ≡ None
  none_at [] before = refl
  none_at (x ∷ xs) before = ap (λ b. cond b (Some x) (find test xs)) (before 0 (omega arith)) ∙ none_at xs (λ k h. before (suc k) (omega (arith, h)))

  module _ (name : Bytes) (rest : ℕ → RuleTree → Bool) where
    abbrev pub Agrees : ℕ → List RuleTree → Type 0
    Agrees j rules = (i : ℕ) (r : RuleTree) → slice_get rules i ≡ Some r → rest (j + i) r ≡ test (j + i)

    abbrev pub FirstOf : ℕ → List RuleTree → Option ℕ → Option (ℕ × RuleTree) → Type 0
    FirstOf j rules None found = found ≡ None
    FirstOf j rules (Some k) found = (i : ℕ) × (r : RuleTree) × (k ≡ j + i) × (slice_get rules i ≡ Some r) × (found ≡ Some (k, r))

    later : (j : ℕ) (x : RuleTree) (rules : List RuleTree) (o : Option ℕ) (found : Option (ℕ × RuleTree)) → FirstOf (suc j) rules o found → FirstOf j (x ∷ rules) o found
    later j x rules None found is = is
    later j x rules (Some k) found (i, r, at, there, is) = (suc i, r, omega (arith, at), there, is)

    agrees_later : (j : ℕ) (x : RuleTree) (rules : List RuleTree) → Agrees j (x ∷ rules) → Agrees (suc j) rules
    agrees_later j x rules agrees i r there =
        let e : j + suc i ≡ suc j + i = omega arith in
        subst (λ (n : ℕ). rest n r ≡ test n) e (agrees (suc i) r there)

    pub first_is : (rules : List RuleTree) (j : ℕ) → Agrees j rules → FirstOf j rules (find test (numbers_of (records name) j rules)) (first_rule (λ k r. records name r && rest k r) j rules)
    first_is [] j agrees = refl
    first_is (x ∷ rules) j agrees =
        let more : List ℕ = numbers_of (records name) (suc j) rules in
        let e : j + 1 ≡ suc j = omega arith in
        let here : rest j x ≡ test j = let z : j + 0 ≡ j = omega arith in subst (λ (n : ℕ). rest n x ≡ test n) z (agrees 0 x refl) in
        let found : Option (ℕ × RuleTree) = first_rule (λ k r. records name r && rest k r) (suc j) rules in
        let next : FirstOf j (x ∷ rules) (find test more) found = later j x rules (find test more) found (first_is rules (suc j) (agrees_later j x rules agrees)) in
        subst (λ (n : ℕ). FirstOf j (x ∷ rules) (find test (cond (records name x) (j ∷ numbers_of (records name) n rules) (numbers_of (records name) n rules))) (cond (records name x && rest j x) (Some (j, x)) found)) (sym e)
        (by more found (records name x) (rest j x) (test j) here refl next)
      where
        by : (more : List ℕ) (found : Option (ℕ × RuleTree)) (b q t : Bool) → q ≡ t → test j ≡ t → FirstOf j (x ∷ rules) (find test more) found
            → FirstOf j (x ∷ rules) (find test (cond b (j ∷ more) more)) (cond (b && q) (Some (j, x)) found)
        by more found false q t same is next = next
        by more found true true true same is next =
            subst (λ (b : Bool). FirstOf j (x ∷ rules) (cond b (Some j) (find test more)) (Some (j, x))) (sym is) (0, x, let z : j ≡ j + 0 = omega arith in z, refl, refl)
        by more found true false false same is next = subst (λ (b : Bool). FirstOf j (x ∷ rules) (cond b (Some j) (find test more)) found) (sym is) next
        by more found true true false same is next = absurd (cc)
        by more found true false true same is next = absurd (cc)

-- The nesting, token by token.
use Rattle.std.proofs.Common.{◌≡◌, ℕ, zero, suc, Bool, add-one, ◌+◌, ◌<◌, ◌≤◌, ◌⊎◌, ◌&&◌, ◌||◌, inl, inr, List, [], ◌∷◌, length, take, get_or, true, false, refl, sym, ◌∙◌, ap, subst, arith, nat_eq, nat_lt, if◌then◌else◌}
use Rattle.std.proofs.lemmas.Bool.Decides.{nat_tests}
use Rattle.std.proofs.lemmas.List.Sums.{fold_more}
use Rattle.lf_lex.specs.declared.token.Token.{Token}
use Rattle.lf_lex.specs.declared.token.Sign.TheVariants.{OpenParen, CloseParen, OpenBrace, CloseBrace, Comma}
use Rattle.lf_parse.specs.Tokens.{Sign, MarkedToken, ◌at◌, marked}
use Rattle.lf_parse.specs.Depth.{IsBounded, Nesting, TooDeepAt, closed, counted, counts, nested, surface, nesting, is_too_deep}

closed_braces : (ks : List ℕ) (n : Nesting) → (closed ks n).braces ≤ n.braces + 1
closed_braces [] n = omega arith
closed_braces (k ∷ ks) n = omega arith

-- a token opens one brace at most
pub braces_rise : (n : Nesting) (t : MarkedToken) → (nested n t).braces ≤ n.braces + 1
braces_rise n (Sign OpenParen at p) = omega arith
braces_rise n (Sign CloseParen at p) = closed_braces n.around n
braces_rise n (Sign OpenBrace at p) = omega arith
braces_rise n (Sign CloseBrace at p) = omega arith
braces_rise n (Sign Comma at p) = omega arith
braces_rise n (m at p) = omega arith

-- one more token
pub nesting_more : (ts : List Token) (k : ℕ) (t : Token) → k < length ts → nesting (take (k + 1) ts) ≡ nested (nesting (take k ts)) (marked (get_or ts k t))
nesting_more ts k t h = fold_more (λ n t. nested n (marked t)) surface ts k t h

-- none of the first tokens passes a bound
abbrev pub IsShallow : List Token → ℕ → Type 0
IsShallow ts k = (j : ℕ) → j ≤ k → is_too_deep (nesting (take j ts)) ≡ false

split : (j k : ℕ) → j ≤ k + 1 → (j ≤ k) ⊎ (j ≡ k + 1)
split j k h = elim (nat_lt k j) as (λ b. nat_lt k j ≡ b → (j ≤ k) ⊎ (j ≡ k + 1)) [ true ↦ λ e. inr (grind (arith, nat_tests)) | false ↦ λ e. inl (grind (arith, nat_tests)) ] refl

pub shallow_more : (ts : List Token) (k : ℕ) → IsShallow ts k → is_too_deep (nesting (take (k + 1) ts)) ≡ false → IsShallow ts (k + 1)
shallow_more ts k h i j l = elim (split j k l) [ inl a ↦ h j a | inr a ↦ ap (λ m. is_too_deep (nesting (take m ts))) a ∙ i ]

pub step_more : (ts : List Token) (k : ℕ) (t : Token) (n m : Nesting) (s : MarkedToken) → k < length ts → t ≡ get_or ts k t → n ≡ nesting (take k ts) → m ≡ nested n s → s ≡ marked t → m ≡ nesting (take (k + 1) ts)
step_more ts k t n m s h i e f g = let more = nesting_more ts k t h in let same = ap (λ x. nested (nesting (take k ts)) (marked x)) i in f ∙ ap (λ x. nested x s) e ∙ ap (λ x. nested (nesting (take k ts)) x) g ∙ same ∙ sym more

surface_shallow : (ts : List Token) (j : ℕ) → j ≤ 0 → is_too_deep (nesting (take j ts)) ≡ false
surface_shallow ts zero l = refl
surface_shallow ts (suc j) l = absurd (omega arith)

-- some token passes a bound, or none does
shallow_or_deep : (ts : List Token) (k : ℕ) → k ≤ length ts → ((j : ℕ) × TooDeepAt ts j) ⊎ IsShallow ts k
shallow_or_deep ts zero h = inr (λ j l. surface_shallow ts j l)
shallow_or_deep ts (suc k) h = elim (shallow_or_deep ts k (omega arith)) [ inl deep ↦ inl deep | inr shallow ↦ by shallow (is_too_deep (nesting (take (k + 1) ts))) refl ]
  where
    by : IsShallow ts k → (b : Bool) → is_too_deep (nesting (take (k + 1) ts)) ≡ b → ((j : ℕ) × TooDeepAt ts j) ⊎ IsShallow ts (suc k)
    by shallow true e = inl (k, record { within = omega arith; before = shallow; here = e })
    by shallow false e = inr (rw add-one at (shallow_more ts k shallow e))

pub deep_or_bounded : (ts : List Token) → ((k : ℕ) × TooDeepAt ts k) ⊎ IsBounded ts
deep_or_bounded ts = shallow_or_deep ts (length ts) (omega arith)

-- ---- few tokens

-- the operators that are counted, and the parentheses that are open
abbrev weighs : ℕ → List ℕ → ℕ
weighs here [] = here
weighs here (k ∷ ks) = here + 1 + weighs k ks

abbrev weight : Nesting → ℕ
weight n = weighs n.here n.around

one_more : (a : ℕ) → a ≤ a + 1
one_more a = omega arith

no_less : (a b : ℕ) → a ≤ b → a ≤ b + 1
no_less a b h = omega (arith, h)

past : (a b k : ℕ) → a ≤ b + 1 → b ≤ k → a ≤ k + 1
past a b k h i = omega (arith, h, i)

weighs_more : (here : ℕ) (ks : List ℕ) → weighs (here + 1) ks ≤ weighs here ks + 1
weighs_more here [] = let x : here + 1 ≤ here + 1 = omega arith in x
weighs_more here (k ∷ ks) = let x : here + 1 + 1 + weighs k ks ≤ here + 1 + weighs k ks + 1 = omega arith in x

closed_weight : (ks : List ℕ) (n : Nesting) → weight (closed ks n) ≤ weighs n.here ks
closed_weight [] n = let x : n.here ≤ n.here = omega arith in x
closed_weight (k ∷ ks) n = let x : weighs k ks ≤ n.here + 1 + weighs k ks = omega arith in x

counted_weight : (one : Bool) (n : Nesting) → weight (counted one n) ≤ weight n + 1
counted_weight one n = by (one && nat_eq n.braces 0)
  where
    by : (more : Bool) → weighs (if more then n.here + 1 else n.here) n.around ≤ weighs n.here n.around + 1
    by true = weighs_more n.here n.around
    by false = one_more (weighs n.here n.around)

-- a token adds one at most
weight_rises : (n : Nesting) (t : MarkedToken) → weight (nested n t) ≤ weight n + 1
weight_rises n (Sign OpenParen at p) = let x : 0 + 1 + weighs n.here n.around ≤ weighs n.here n.around + 1 = omega arith in x
weight_rises n (Sign CloseParen at p) = no_less (weight (closed n.around n)) (weight n) (closed_weight n.around n)
weight_rises n (Sign OpenBrace at p) = one_more (weight n)
weight_rises n (Sign CloseBrace at p) = one_more (weight n)
weight_rises n (Sign Comma at p) = one_more (weight n)
weight_rises n (m at p) = counted_weight (counts n.begun m) n

weight_more : (ts : List Token) (k : ℕ) (t : Token) → k < length ts → weight (nesting (take k ts)) ≤ k → weight (nesting (take (k + 1) ts)) ≤ k + 1
weight_more ts k t h w =
    let P : Nesting → Type 0 = λ n. weight n ≤ k + 1 in
    let n = nesting (take k ts) in
    subst P (sym (nesting_more ts k t h)) (past (weight (nested n (marked (get_or ts k t)))) (weight n) k (weight_rises n (marked (get_or ts k t))) w)

weight_within : (ts : List Token) (k : ℕ) → k ≤ length ts → weight (nesting (take k ts)) ≤ k
weight_within ts zero h = let x : 0 ≤ 0 = omega arith in x
weight_within [] (suc k) h = absurd (omega arith)
weight_within (t ∷ ts) (suc k) h = rw add-one at (weight_more (t ∷ ts) k t (omega arith) (weight_within (t ∷ ts) k (omega arith)))

here_within : (here : ℕ) (ks : List ℕ) → here ≤ weighs here ks
here_within here [] = let x : here ≤ here = omega arith in x
here_within here (k ∷ ks) = let x : here ≤ here + 1 + weighs k ks = omega arith in x

around_within : (here : ℕ) (ks : List ℕ) → length ks ≤ weighs here ks
around_within here [] = let x : 0 ≤ here = omega arith in x
around_within here (k ∷ ks) = let x : suc (length ks) ≤ here + 1 + weighs k ks = omega (arith, around_within k ks) in x

no_bound_passed : (a b : ℕ) → a ≤ 100 → b ≤ 100 → (nat_lt 100 a || nat_lt 100 b) ≡ false
no_bound_passed a b h i = grind (arith, nat_tests, h, i)

-- as many tokens as may be open at once pass no bound
pub few_bounded : (ts : List Token) → length ts ≤ 100 → IsBounded ts
few_bounded ts few j h = by (nesting (take j ts)) (weight_within ts j h)
  where
    by : (n : Nesting) → weight n ≤ j → is_too_deep n ≡ false
    by n w =
        let around = around_within n.here n.around in
        let here = here_within n.here n.around in
        no_bound_passed (length n.around) n.here (omega (arith, around, w, h, few)) (omega (arith, here, w, h, few))

-- How often sources are in lists.
use Rattle.std.proofs.Common.{◌≡◌, ◌≢◌, ℕ, zero, suc, ◌+◌, ◌-◌, ◌<◌, Bool, true, false, cond, eqb, List, [], ◌∷◌, ◌++◌, take, drop, length, get_or, replicate, inl, inr, refl, sym, ◌∙◌, ap, subst, arith}
use Rattle.std.specs.Prelude.{slice_set}
use Rattle.std.specs.List.{Contains}
use Rattle.std.proofs.lemmas.Bool.{cases_eq, cases_lt, eq-eqb, eqb-true}
use Rattle.std.proofs.lemmas.List.{drop_more, get_or-set_other, get_or-set_same, take-append-drop, take_more}
use Rattle.std.proofs.lemmas.List.Elements.{Contains-append_cases, Contains-append_left, Contains-append_right}
use Rattle.lf_laws.proofs.Members.{behind, first_or_behind, here, none_in}
use Rattle.lf_semantics.proofs.Places.{eqb-other}
use Rattle.lf_deps.specs.views.Queue.{CountsDown, IsLeft, count_left, occurs, occurs_in}

pub occurs-append : (s : ℕ) (xs ys : List ℕ) → occurs s (xs ++ ys) ≡ occurs s xs + occurs s ys
occurs-append s [] ys = omega arith
occurs-append s (x ∷ xs) ys = let r = occurs-append s xs ys in omega (arith, r)

pub occurs_in-append : (s : ℕ) (xs ys : List (List ℕ)) → occurs_in s (xs ++ ys) ≡ occurs_in s xs + occurs_in s ys
occurs_in-append s [] ys = omega arith
occurs_in-append s (x ∷ xs) ys = let r = occurs_in-append s xs ys in omega (arith, r)

pub occurs_more : (s : ℕ) (xs : List ℕ) (i : ℕ) → i < length xs → occurs s (take (i + 1) xs) ≡ occurs s (take i xs) + occurs s (get_or xs i 0 ∷ [])
occurs_more s xs i h = ap (occurs s) (take_more xs i 0 h) ∙ occurs-append s (take i xs) (get_or xs i 0 ∷ [])

pub occurs_in_more : (s : ℕ) (xs : List (List ℕ)) (i : ℕ) → i < length xs → occurs_in s (take (i + 1) xs) ≡ occurs_in s (take i xs) + occurs s (get_or xs i [])
occurs_in_more s xs i h =
    let a = ap (occurs_in s) (take_more xs i [] h) ∙ occurs_in-append s (take i xs) (get_or xs i [] ∷ []) in
    let e : occurs s (get_or xs i []) + 0 ≡ occurs s (get_or xs i []) = omega arith in
    omega (arith, a, e)

-- a number is in a list of it alone once, and no other is
pub once : (s : ℕ) → occurs s (s ∷ []) ≡ 1
once s = ap (λ (b : Bool). cond b 1 0 + 0) (eq-eqb s s refl)

pub never : (s x : ℕ) → s ≢ x → occurs s (x ∷ []) ≡ 0
never s x h = ap (λ (b : Bool). cond b 1 0 + 0) (eqb-other x s (λ e. h (sym e)))

-- before a place there is one fewer of what is there
pub occurs_front : (xs : List ℕ) (i : ℕ) → i < length xs → occurs (get_or xs i 0) (take i xs) < occurs (get_or xs i 0) xs
occurs_front xs i h =
    let x : ℕ = get_or xs i 0 in
    let whole = ap (occurs x) (sym (take-append-drop i xs)) ∙ occurs-append x (take i xs) (drop i xs) in
    let rest : occurs x (drop i xs) ≡ cond (eqb x x) 1 0 + occurs x (drop (i + 1) xs) = ap (occurs x) (drop_more xs i 0 h) in
    let one : ◌≡◌ {A = ℕ} (cond (eqb x x) 1 0) 1 = ap (λ (b : Bool). cond b 1 0) (eq-eqb x x refl) in
    omega (arith, whole, rest, one)

pub occurs_there : (s : ℕ) (xs : List ℕ) → Contains xs s → 0 < occurs s xs
occurs_there s [] c = absurd (none_in s c)
occurs_there s (x ∷ xs) c = elim (first_or_behind x xs s c) [
  | inl e ↦ let one : ◌≡◌ {A = ℕ} (cond (eqb x s) 1 0) 1 = ap (λ (b : Bool). cond b 1 0) (eq-eqb x s e) in omega (arith, one)
  | inr d ↦ let r = occurs_there s xs d in omega (arith, r)
]

pub there_occurs : (s : ℕ) (xs : List ℕ) → 0 < occurs s xs → Contains xs s
there_occurs s [] h = absurd (omega (arith, h))
there_occurs s (x ∷ xs) h = by (eqb x s) refl h (λ g. there_occurs s xs g)
  where
    by : (b : Bool) → eqb x s ≡ b → 0 < cond b 1 0 + occurs s xs → (0 < occurs s xs → Contains xs s) → Contains (x ∷ xs) s
    by true e h more = let P : ℕ → Type 0 = λ y. Contains (x ∷ xs) y in subst P (eqb-true x s e) (here x xs)
    by false e h more = behind x xs s (more (omega (arith, h)))

-- the rules left

pub left_counts : (s : ℕ) (taken : List Bool) (lists : List (List ℕ)) (j : ℕ) → IsLeft taken j → Contains (get_or lists j []) s → 0 < count_left s taken lists
left_counts s [] lists j l c = absurd (cc)
left_counts s (t ∷ taken) [] j l c = absurd (none_in s c)
left_counts s (t ∷ taken) (xs ∷ lists) zero l c = by t l
  where
    by : (b : Bool) → b ≡ false → 0 < cond b 0 (occurs s xs) + count_left s taken lists
    by true e = absurd (cc)
    by false e = let r = occurs_there s xs c in omega (arith, r)
left_counts s (t ∷ taken) (xs ∷ lists) (suc j) l c = let r = left_counts s taken lists j l c in omega (arith, r)

pub counts_left : (s : ℕ) (taken : List Bool) (lists : List (List ℕ)) → 0 < count_left s taken lists → (j : ℕ) × IsLeft taken j × Contains (get_or lists j []) s
counts_left s [] lists h = absurd (omega (arith, h))
counts_left s (t ∷ taken) [] h = absurd (omega (arith, h))
counts_left s (t ∷ taken) (xs ∷ lists) h = by t refl h (λ g. counts_left s taken lists g)
  where
    by : (b : Bool) → t ≡ b → 0 < cond b 0 (occurs s xs) + count_left s taken lists → (0 < count_left s taken lists → (j : ℕ) × IsLeft taken j × Contains (get_or lists j []) s) → (j : ℕ) × IsLeft (t ∷ taken) j × Contains (get_or (xs ∷ lists) j []) s
    by true e h more = let r = more (omega (arith, h)) in (suc r.0, r.1, r.2)
    by false e h more = elim (cases_lt 0 (occurs s xs)) [
      | inl g ↦ (0, e, there_occurs s xs g)
      | inr g ↦ let r = more (omega (arith, h, g)) in (suc r.0, r.1, r.2)
    ]

-- what a rule counts for is no more counted once it is taken
pub count_taken : (s : ℕ) (taken : List Bool) (lists : List (List ℕ)) (k : ℕ) → IsLeft taken k → count_left s taken lists ≡ occurs s (get_or lists k []) + count_left s (slice_set taken k true) lists
count_taken s [] lists k l = absurd (cc)
count_taken s (t ∷ taken) [] zero l = refl
count_taken s (t ∷ taken) [] (suc k) l = refl
count_taken s (t ∷ taken) (xs ∷ lists) zero l = by t l
  where
    by : (b : Bool) → b ≡ false → cond b 0 (occurs s xs) + count_left s taken lists ≡ occurs s xs + (0 + count_left s taken lists)
    by true e = absurd (cc)
    by false e = omega arith
count_taken s (t ∷ taken) (xs ∷ lists) (suc k) l = let r = count_taken s taken lists k l in omega (arith, r)

pub none_taken : (s n : ℕ) (lists : List (List ℕ)) → length lists ≡ n → count_left s (replicate n false) lists ≡ occurs_in s lists
none_taken s zero [] e = refl
none_taken s zero (xs ∷ lists) e = absurd (omega (arith, e))
none_taken s (suc n) [] e = refl
none_taken s (suc n) (xs ∷ lists) e = let r = none_taken s n lists (omega (arith, e)) in omega (arith, r)

-- counting down

module _ (listed : List (List ℕ)) where
  pub down_one : (counts due : List ℕ) (x : ℕ) → x < length counts → 0 < get_or counts x 0 → CountsDown listed (x ∷ []) counts (slice_set counts x (get_or counts x 0 - 1)) due (due ++ get_or listed x [])
  down_one counts due x within some = record {
    counted = λ s. elim (cases_eq s x) [
      | inl e ↦
          let at : get_or (slice_set counts x (get_or counts x 0 - 1)) x 0 ≡ get_or counts x 0 - 1 = get_or-set_same counts x (get_or counts x 0 - 1) 0 within in
          let P : ℕ → Type 0 = λ y. get_or (slice_set counts x (get_or counts x 0 - 1)) y 0 + occurs y (x ∷ []) ≡ get_or counts y 0 in
          let o = once x in
          let it : P x = omega (arith, at, some, o) in
          subst P (sym e) it
      | inr n ↦ let at = get_or-set_other counts x s (get_or counts x 0 - 1) 0 n in let o = never s x n in omega (arith, at, o)
    ];
    kept = λ k c. Contains-append_left due (get_or listed x []) k c;
    moved = λ s k was none c. elim (cases_eq s x) [
      | inl e ↦ let P : ℕ → Type 0 = λ y. Contains (get_or listed y []) k in Contains-append_right due (get_or listed x []) k (subst P e c)
      | inr n ↦ let at = get_or-set_other counts x s (get_or counts x 0 - 1) 0 n in absurd (omega (arith, at, was, none))
    ];
    only = λ k c. elim (Contains-append_cases due (get_or listed x []) k c) [ inl d ↦ inl d | inr d ↦ inr (x, d) ];
  }

  pub down_more : (xs : List ℕ) (x : ℕ) (c0 c1 c2 d0 d1 d2 : List ℕ) → CountsDown listed xs c0 c1 d0 d1 → CountsDown listed (x ∷ []) c1 c2 d1 d2 → CountsDown listed (xs ++ x ∷ []) c0 c2 d0 d2
  down_more xs x c0 c1 c2 d0 d1 d2 a b = record {
    counted = λ s. let e = a.counted s in let f = b.counted s in let o = occurs-append s xs (x ∷ []) in omega (arith, e, f, o);
    kept = λ k c. b.kept k (a.kept k c);
    moved = λ s k was none c. elim (cases_lt 0 (get_or c1 s 0)) [
      | inl some ↦ b.moved s k some none c
      | inr here ↦ b.kept k (a.moved s k was (omega (arith, here)) c)
    ];
    only = λ k c. elim (b.only k c) [ inl d ↦ a.only k d | inr d ↦ inr d ];
  }

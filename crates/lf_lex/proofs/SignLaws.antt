-- The table of signs is read as it is written.
use Rattle.std.proofs.Common.{◌≡◌, ◌≢◌, ℕ, ◌<◌, ◌≤◌, true, false, cond, eqb, List, [], ◌∷◌, ◌++◌, length, take, Option, Some, None, refl, ap, arith, sym, ◌∙◌, subst, ◌⊎◌, inl, inr}
use Rattle.std.proofs.lemmas.Option.{same_Some}
use Rattle.std.proofs.lemmas.Bool.Decides.{eqb_tells}
use Rattle.lf_lex.specs.declared.token.Sign.{Sign}
use Rattle.lf_lex.specs.declared.token.Sign.TheVariants as signs
use Rattle.lf_lex.specs.Signs.{spelling}
use Rattle.lf_lex.specs.reading.Signs.{sign_of_two, sign_of_one, one_byte, two_bytes, sign_at}
use Rattle.lf_lex.proofs.Options.{clash, none_some}
use Rattle.lf_lex.proofs.Heads.{tail_of}

pub sign_at-spelling : (s : Sign) → sign_at (spelling s) ≡ Some (s, length (spelling s))
unfolding sign_at sign_of_one sign_of_two
sign_at-spelling signs.OpenParen = refl
sign_at-spelling signs.CloseParen = refl
sign_at-spelling signs.OpenBrace = refl
sign_at-spelling signs.CloseBrace = refl
sign_at-spelling signs.OpenBracket = refl
sign_at-spelling signs.CloseBracket = refl
sign_at-spelling signs.Comma = refl
sign_at-spelling signs.Colon = refl
sign_at-spelling signs.Plus = refl
sign_at-spelling signs.Minus = refl
sign_at-spelling signs.Times = refl
sign_at-spelling signs.Over = refl
sign_at-spelling signs.Modulo = refl
sign_at-spelling signs.Power = refl
sign_at-spelling signs.Equal = refl
sign_at-spelling signs.NotEqual = refl
sign_at-spelling signs.LessOrEqual = refl
sign_at-spelling signs.Less = refl
sign_at-spelling signs.GreaterOrEqual = refl
sign_at-spelling signs.Greater = refl
sign_at-spelling signs.Is = refl
sign_at-spelling signs.Matches = refl
sign_at-spelling signs.MatchesNot = refl
sign_at-spelling signs.At = refl

-- ---- what is read is spelled so

-- the bytes are spelled as the sign is that they are read as
abbrev IsSpelled : List ℕ → Option Sign → Type 0
IsSpelled text o = (s : Sign) → o ≡ Some s → text ≡ spelling s

not_spelled : (text : List ℕ) → IsSpelled text None
not_spelled text s e = none_some s None refl e

pick : (b k : ℕ) (before behind : List ℕ) (s : Sign) (o : Option Sign) → before ++ k ∷ behind ≡ spelling s → IsSpelled (before ++ b ∷ behind) o → IsSpelled (before ++ b ∷ behind) (cond (eqb b k) (Some s) o)
pick b k before behind s o e more t h = by (eqb_tells b k)
  where
    by : ((eqb b k ≡ true) × (b ≡ k)) ⊎ ((eqb b k ≡ false) × (b ≢ k)) → before ++ b ∷ behind ≡ spelling t
    by (inl y) = ap (λ (x : ℕ). before ++ x ∷ behind) y.1 ∙ e ∙ ap spelling (same_Some s t (sym (rw y.0 refl) ∙ h))
    by (inr n) = more t (sym (rw n.0 refl) ∙ h)

one_is : (b : ℕ) → IsSpelled (b ∷ []) (sign_of_one b)
unfolding sign_of_one
one_is b =
    pick b 40 [] [] signs.OpenParen _ refl (
    pick b 41 [] [] signs.CloseParen _ refl (
    pick b 123 [] [] signs.OpenBrace _ refl (
    pick b 125 [] [] signs.CloseBrace _ refl (
    pick b 91 [] [] signs.OpenBracket _ refl (
    pick b 93 [] [] signs.CloseBracket _ refl (
    pick b 44 [] [] signs.Comma _ refl (
    pick b 58 [] [] signs.Colon _ refl (
    pick b 43 [] [] signs.Plus _ refl (
    pick b 45 [] [] signs.Minus _ refl (
    pick b 42 [] [] signs.Times _ refl (
    pick b 47 [] [] signs.Over _ refl (
    pick b 37 [] [] signs.Modulo _ refl (
    pick b 94 [] [] signs.Power _ refl (
    pick b 60 [] [] signs.Less _ refl (
    pick b 62 [] [] signs.Greater _ refl (
    pick b 61 [] [] signs.Is _ refl (
    pick b 64 [] [] signs.At _ refl (
    not_spelled (b ∷ [])))))))))))))))))))

two_is : (b c : ℕ) → IsSpelled (b ∷ c ∷ []) (sign_of_two b c)
unfolding sign_of_two
two_is b c s h = by (eqb_tells c 61) (eqb_tells c 126) h
  where
    by : ((eqb c 61 ≡ true) × (c ≡ 61)) ⊎ ((eqb c 61 ≡ false) × (c ≢ 61)) → ((eqb c 126 ≡ true) × (c ≡ 126)) ⊎ ((eqb c 126 ≡ false) × (c ≢ 126)) → sign_of_two b c ≡ Some s → b ∷ c ∷ [] ≡ spelling s
    by (inl y) o h = rw y.1 (pick b 61 [] (61 ∷ []) signs.Equal _ refl (pick b 33 [] (61 ∷ []) signs.NotEqual _ refl (pick b 60 [] (61 ∷ []) signs.LessOrEqual _ refl (pick b 62 [] (61 ∷ []) signs.GreaterOrEqual _ refl (not_spelled (b ∷ 61 ∷ []))))) s (rw y.1 at h))
    by (inr n) (inl y) h = rw y.1 (pick b 61 [] (126 ∷ []) signs.Matches _ refl (pick b 33 [] (126 ∷ []) signs.MatchesNot _ refl (not_spelled (b ∷ 126 ∷ []))) s (rw y.1 at h))
    by (inr n) (inr m) h = none_some s (sign_of_two b c) (rw (n.0, m.0) refl) h

-- ---- the longest

pub record SignAt (src : List ℕ) (s : Sign) (n : ℕ) : Type 0 where
  pub is : take n src ≡ spelling s
  pub some : 0 < n
  pub within : n ≤ length src
  pub bound : (text left : List ℕ) (t : Sign) → src ≡ text ++ left → text ≡ spelling t → length text ≤ n

at_most_two : (xs : List ℕ) (s : Sign) (n : ℕ) → sign_at xs ≡ Some (s, n) → n ≤ 2
unfolding sign_at
at_most_two [] s n h = none_some (s, n) None refl h
at_most_two (b ∷ []) s n h = one (sign_of_one b) h
  where
    one : (o : Option Sign) → one_byte o ≡ Some (s, n) → n ≤ 2
    one None h = none_some (s, n) None refl h
    one (Some t) h = let e = ap (λ (x : Sign × ℕ). x.1) (same_Some (t, 1) (s, n) h) in omega arith
at_most_two (b ∷ c ∷ more) s n h = two (sign_of_two b c) (sign_of_one b) h
  where
    two : (o q : Option Sign) → two_bytes o (one_byte q) ≡ Some (s, n) → n ≤ 2
    two None None h = none_some (s, n) None refl h
    two None (Some t) h = let e = ap (λ (x : Sign × ℕ). x.1) (same_Some (t, 1) (s, n) h) in omega arith
    two (Some t) q h = let e = ap (λ (x : Sign × ℕ). x.1) (same_Some (t, 2) (s, n) h) in omega arith

spelled_short : (text : List ℕ) (t : Sign) → text ≡ spelling t → length text ≤ 2
spelled_short text t e = let k = at_most_two (spelling t) t (length (spelling t)) (sign_at-spelling t) in let l = ap length e in omega arith

first_of_list : ℕ → List ℕ → ℕ
first_of_list d [] = d
first_of_list d (x ∷ xs) = x

-- where two bytes are no sign, no sign is longer than one
no_longer : (b c : ℕ) (more text left : List ℕ) (t : Sign) → sign_of_two b c ≡ None → b ∷ c ∷ more ≡ text ++ left → text ≡ spelling t → length text ≤ 1
unfolding sign_at first_of_list
no_longer b c more [] left t n e h = omega arith
no_longer b c more (x ∷ []) left t n e h = omega arith
no_longer b c more (x ∷ y ∷ []) left t n e h =
    let ex : x ≡ b = ap (first_of_list b) (sym e) in
    let ey : y ≡ c = ap (λ (z : List ℕ). first_of_list c (tail_of z)) (sym e) in
    let two : sign_of_two x y ≡ None = rw (ex, ey) n in
    let is : sign_at (x ∷ y ∷ []) ≡ Some (t, length (spelling t)) = ap sign_at h ∙ sign_at-spelling t in
    let l : 2 ≡ length (spelling t) = ap length h in
    one (sign_of_one x) (length (spelling t)) l (sym (rw two refl) ∙ is)
  where
    one : (o : Option Sign) (n : ℕ) → 2 ≡ n → one_byte o ≡ Some (t, n) → 2 ≤ 1
    one None n l h = none_some (t, n) None refl h
    one (Some s) n l h = let e = ap (λ (x : Sign × ℕ). x.1) (same_Some (s, 1) (t, n) h) in absurd (omega arith)
no_longer b c more (x ∷ y ∷ z ∷ text) left t n e h = let k = spelled_short (x ∷ y ∷ z ∷ text) t h in absurd (omega arith)

sign_one : (b : ℕ) (src : List ℕ) (o : Option Sign) (s : Sign) (n : ℕ) → sign_of_one b ≡ o → one_byte o ≡ Some (s, n)
    → ((text left : List ℕ) (t : Sign) → b ∷ src ≡ text ++ left → text ≡ spelling t → length text ≤ 1) → SignAt (b ∷ src) s n
sign_one b src None s n f h bound = none_some (s, n) None refl h
sign_one b src (Some r) s n f h bound =
    let it : SignAt (b ∷ src) r 1 = record { is = one_is b r f; some = omega arith; within = omega arith; bound = bound } in
    let p : (r, 1) ≡ (s, n) = same_Some (r, 1) (s, n) h in
    subst (λ (x : Sign × ℕ). SignAt (b ∷ src) x.0 x.1) p it

pub sign_is_at : (src : List ℕ) (s : Sign) (n : ℕ) → sign_at src ≡ Some (s, n) → SignAt src s n
unfolding sign_at
sign_is_at [] s n h = none_some (s, n) None refl h
sign_is_at (b ∷ []) s n h = sign_one b [] (sign_of_one b) s n refl h (λ text left t e k. short text left e)
  where
    short : (text left : List ℕ) → b ∷ [] ≡ text ++ left → length text ≤ 1
    short [] left e = omega arith
    short (x ∷ text) left e = let l = ap length e in let k = length_front text left in omega arith
      where
        length_front : (xs ys : List ℕ) → length xs ≤ length (xs ++ ys)
        length_front [] ys = omega arith
        length_front (x ∷ xs) ys = let k = length_front xs ys in omega arith
sign_is_at (b ∷ c ∷ more) s n h = by (sign_of_two b c) refl h
  where
    by : (o : Option Sign) → sign_of_two b c ≡ o → two_bytes o (one_byte (sign_of_one b)) ≡ Some (s, n) → SignAt (b ∷ c ∷ more) s n
    by None e h = sign_one b (c ∷ more) (sign_of_one b) s n refl h (λ text left t f k. no_longer b c more text left t e f k)
    by (Some r) e h =
        let it : SignAt (b ∷ c ∷ more) r 2 = record { is = two_is b c r e; some = omega arith; within = omega arith; bound = λ text left t f k. spelled_short text t k } in
        let p : (r, 2) ≡ (s, n) = same_Some (r, 2) (s, n) h in
        subst (λ (x : Sign × ℕ). SignAt (b ∷ c ∷ more) x.0 x.1) p it

-- ---- where none is

one_stays : (b : ℕ) (left : List ℕ) (r : Sign × ℕ) → one_byte (sign_of_one b) ≡ Some r → sign_at (b ∷ left) ≡ None → ⊥
unfolding sign_at
one_stays b [] r h e = clash r (one_byte (sign_of_one b)) e h
one_stays b (c ∷ left) r h e = by (sign_of_two b c) e
  where
    by : (o : Option Sign) → two_bytes o (one_byte (sign_of_one b)) ≡ None → ⊥
    by None e = clash r (one_byte (sign_of_one b)) e h
    by (Some t) e = cc

sign_stays : (text left : List ℕ) (r : Sign × ℕ) → sign_at text ≡ Some r → sign_at (text ++ left) ≡ None → ⊥
unfolding sign_at
sign_stays [] left r h e = none_some r None refl h
sign_stays (b ∷ []) left r h e = one_stays b left r h e
sign_stays (b ∷ c ∷ more) left r h e = clash r (sign_at (b ∷ c ∷ more)) e h

pub no_sign_there : (src left : List ℕ) (t : Sign) → sign_at src ≡ None → src ≡ spelling t ++ left → ⊥
no_sign_there src left t n e = sign_stays (spelling t) left (t, length (spelling t)) (sign_at-spelling t) (ap sign_at (sym e) ∙ n)

-- two signs are not spelled alike
pub same_sign : (s t : Sign) → spelling s ≡ spelling t → s ≡ t
same_sign s t e = ap (λ (x : Sign × ℕ). x.0) (same_Some (s, length (spelling s)) (t, length (spelling t)) (sym (sign_at-spelling s) ∙ ap sign_at e ∙ sign_at-spelling t))

pub some_sign : (s : Sign) → 0 < length (spelling s)
some_sign s = let a = sign_is_at (spelling s) s (length (spelling s)) (sign_at-spelling s) in a.some

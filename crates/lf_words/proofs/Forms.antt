-- The forms of words.
use Rattle.std.proofs.Common.{◌≡◌, ℕ, suc, true, false, not, ◌==◌, List, [], ◌∷◌, ◌++◌, Option, None, Some, codes, refl, ◌∙◌, ap, sym, subst, inl, inr, ◌⊎◌, arith, slice_get, take, drop, ◌+◌, ap₂}
use Rattle.std.specs.Bool.{nat_eq}
use Rattle.std.specs.List.{starts_with, before_first, after_first, position_or_len}
use Rattle.std.specs.Str.{bytes_eq, chars, IsUtf8}
use Rattle.std.specs.Prelude.{option_and_then}
use Rattle.std.proofs.lemmas.Bool.{cond-true, cond-false, and_left, or_left, or_right, or_from, not_from_true, not_from_false, cases_Bool, eqb-true}
use Rattle.std.proofs.Common.{true≢false}
use Rattle.std.proofs.lemmas.Str.{encodes-chars}
use Rattle.std.proofs.Math.Utf8.{encodes}
use Rattle.clap.specs.Lexer.{long_of_rest, short_of_rest, strip_byte, has_byte, name_and_value}
use Rattle.clap.specs.Words.{Text}
use Rattle.clap.specs.Walk.{Held, arg_by_long}
use Rattle.clap.specs.Faults.{long_fault}
use Rattle.clap.proofs.OnLiterals.{clap_on_literals}
use Rattle.lf_words.specs.Lint.{IsOperand, Valued, Workers, Format, option_word}
use Rattle.lf_words.proofs.Steps.{Plain, Bad, rules, held}
use Rattle.lf_words.proofs.Rows.{same}

pub data Kind : Text → Type 0 where
  k_dashes : Kind (codes "--")
  k_labels : Kind (codes "--labels")
  k_next : (k : Valued) → Kind (option_word k)
  k_with : (k : Valued) (v : Text) → Kind (option_word k ++ codes "=" ++ v)
  k_value : {w : Text} → IsOperand w → Plain w → Kind w
  k_bad : {w : Text} → Bad w → Kind w

abbrev NoOption : Text → Type 0
NoOption w = starts_with nat_eq w (codes "-") ≡ false

pub plain_of : (w : Text) → IsOperand w → Plain w
plain_of w (inr e) = let P : Text → Type 0 = λ t. Plain t in subst P (sym e) (record { no_dashes = refl; no_long = refl; no_short = refl })
plain_of [] (inl e) = record { no_dashes = refl; no_long = refl; no_short = refl }
plain_of (x ∷ xs) (inl e) =
    let f : (x == 45) ≡ false = head_of x xs e in record {
      no_dashes = and_left (x == 45) _ f;
      no_long = ap (λ (o : Option Text). option_and_then long_of_rest (option_and_then (strip_byte 45) o)) (cond-false _ _ _ f);
      no_short = ap (option_and_then short_of_rest) (cond-false _ _ _ f);
    }
  where
    head_of : (x : ℕ) (xs : Text) → NoOption (x ∷ xs) → (x == 45) ≡ false
    head_of x xs e = elim (cases_Bool (x == 45)) [
      | inl t ↦ let P : ℕ → Type 0 = λ c. NoOption (c ∷ xs) in let bad : true ≡ false = subst P (eqb-true x 45 t) e in absurd (true≢false bad)
      | inr f ↦ f
    ]

abbrev before : Text → Text
before t = before_first (λ x. x == 61) t

abbrev past : Text → Text
past t = after_first (λ x. x == 61) t

place : (x : ℕ) (xs : Text) → (x == 61) ≡ false → position_or_len (λ x. x == 61) (x ∷ xs) ≡ suc (position_or_len (λ x. x == 61) xs)
place x xs f = cond-true (not (x == 61)) _ 0 (not_from_false _ f) ∙ one_more _
  where
    one_more : (n : ℕ) → 1 + n ≡ suc n
    one_more n = omega arith

place_here : (x : ℕ) (xs : Text) → (x == 61) ≡ true → position_or_len (λ x. x == 61) (x ∷ xs) ≡ 0
place_here x xs t = cond-false (not (x == 61)) _ 0 (not_from_true _ t)

before-miss : (x : ℕ) (xs : Text) → (x == 61) ≡ false → before (x ∷ xs) ≡ x ∷ before xs
before-miss x xs f = ap (λ n. take n (x ∷ xs)) (place x xs f)

past-miss : (x : ℕ) (xs : Text) → (x == 61) ≡ false → past (x ∷ xs) ≡ past xs
past-miss x xs f = ap (λ n. drop (n + 1) (x ∷ xs)) (place x xs f) ∙ ap (λ n. drop n (x ∷ xs)) (more _)
  where
    more : (n : ℕ) → suc n + 1 ≡ suc (n + 1)
    more n = omega arith

-- a text cut at its first `=`
abbrev Cut : Text → Type 0
Cut rest = ((has_byte 61 rest ≡ false) × (before rest ≡ rest)) ⊎ ((has_byte 61 rest ≡ true) × (rest ≡ before rest ++ 61 ∷ past rest))

cut : (rest : Text) → Cut rest
cut [] = inl (refl, refl)
cut (x ∷ xs) = elim (cases_Bool (x == 61)) [
  | inl t ↦ inr (or_left _ _ t, eqb_head x xs t ∙ sym (ap (λ n. take n (x ∷ xs) ++ 61 ∷ drop (n + 1) (x ∷ xs)) (place_here x xs t)))
  | inr f ↦ elim (cut xs) [
    | inl e ↦ inl (or_from _ _ f e.0, before-miss x xs f ∙ ap (λ (l : Text). x ∷ l) e.1)
    | inr e ↦ inr (or_right _ _ e.0, ap (λ (l : Text). x ∷ l) e.1 ∙ sym (ap₂ (λ (a b : Text). a ++ 61 ∷ b) (before-miss x xs f) (past-miss x xs f)))
  ]
]
  where
    eqb_head : (x : ℕ) (xs : Text) → (x == 61) ≡ true → x ∷ xs ≡ 61 ∷ xs
    eqb_head x xs t = ap (λ (y : ℕ). y ∷ xs) (eqb-true x 61 t)

unknown_long : (n : Text) → bytes_eq (codes "workers") n ≡ false → bytes_eq (codes "format") n ≡ false → bytes_eq (codes "labels") n ≡ false → arg_by_long rules n ≡ None
unknown_long n a b c = rw (a, b, c) refl

unknown_bad : (n : Text) (o : Option Text) → arg_by_long rules n ≡ None → (h : Held) → long_fault rules false (arg_by_long rules n) o h ≡ [] → ⊥
unknown_bad n o e h q = let bad = rw e at q in cc

labels_bad : (n v : Text) → n ≡ codes "labels" → (h : Held) → long_fault rules false (arg_by_long rules n) (Some v) h ≡ [] → ⊥
labels_bad n v e h q = let bad = rw e at q in cc

-- by what stands before the first `=`
long_kind : (z : ℕ) (zs : Text) → Kind (45 ∷ 45 ∷ z ∷ zs)
long_kind z zs = go (z ∷ zs) refl (cut (z ∷ zs))
  where
    bad : (rest : Text) (o : Option Text) → rest ≡ z ∷ zs → name_and_value rest ≡ (before rest, o) → ((h : Held) → long_fault rules false (arg_by_long rules (before rest)) o h ≡ [] → ⊥) → Kind (45 ∷ 45 ∷ rest)
    bad [] o e n f = absurd cc
    bad (y ∷ ys) o e n f = k_bad (record {
      no_dashes = refl;
      refuses = λ r p q. f (held r p) (let P : Text × Option Text → Type 0 = λ m. long_fault rules false (arg_by_long rules m.0) m.1 (held r p) ≡ [] in subst P n q);
    })

    go : (rest : Text) → rest ≡ z ∷ zs → Cut rest → Kind (45 ∷ 45 ∷ rest)
    go rest e (inl c) = elim (cases_Bool (bytes_eq (codes "workers") (before rest))) [
      | inl t ↦ let P : Text → Type 0 = λ r. Kind (45 ∷ 45 ∷ r) in subst P (same (codes "workers") (before rest) t ∙ c.1) (k_next Workers)
      | inr f ↦ elim (cases_Bool (bytes_eq (codes "format") (before rest))) [
        | inl t ↦ let P : Text → Type 0 = λ r. Kind (45 ∷ 45 ∷ r) in subst P (same (codes "format") (before rest) t ∙ c.1) (k_next Format)
        | inr g ↦ elim (cases_Bool (bytes_eq (codes "labels") (before rest))) [
          | inl t ↦ let P : Text → Type 0 = λ r. Kind (45 ∷ 45 ∷ r) in subst P (same (codes "labels") (before rest) t ∙ c.1) k_labels
          | inr h ↦ bad rest None e (ap (λ (o : Option Text). (before rest, o)) (cond-false _ _ _ c.0)) (unknown_bad (before rest) None (unknown_long (before rest) f g h))
        ]
      ]
    ]
    go rest e (inr c) = elim (cases_Bool (bytes_eq (codes "workers") (before rest))) [
      | inl t ↦ let P : Text → Type 0 = λ r. Kind (45 ∷ 45 ∷ r) in subst P (ap (λ (n : Text). n ++ 61 ∷ past rest) (same (codes "workers") (before rest) t) ∙ sym c.1) (k_with Workers (past rest))
      | inr f ↦ elim (cases_Bool (bytes_eq (codes "format") (before rest))) [
        | inl t ↦ let P : Text → Type 0 = λ r. Kind (45 ∷ 45 ∷ r) in subst P (ap (λ (n : Text). n ++ 61 ∷ past rest) (same (codes "format") (before rest) t) ∙ sym c.1) (k_with Format (past rest))
        | inr g ↦ elim (cases_Bool (bytes_eq (codes "labels") (before rest))) [
          | inl t ↦ bad rest (Some (past rest)) e (ap (λ (o : Option Text). (before rest, o)) (cond-true _ _ _ c.0)) (labels_bad (before rest) (past rest) (sym (same (codes "labels") (before rest) t)))
          | inr h ↦ bad rest (Some (past rest)) e (ap (λ (o : Option Text). (before rest, o)) (cond-true _ _ _ c.0)) (unknown_bad (before rest) (Some (past rest)) (unknown_long (before rest) f g h))
        ]
      ]
    ]

-- a word of one hyphen and more
pub some_char : (y : ℕ) (ys : Text) → IsUtf8 (45 ∷ y ∷ ys) → (x : ℕ) × (slice_get (chars (y ∷ ys)) 0 ≡ Some x)
unfolding clap_on_literals
some_char y ys u = go (chars (y ∷ ys)) (encodes-chars (45 ∷ y ∷ ys) u)
  where
    go : (cs : List ℕ) → encodes (45 ∷ cs) ≡ 45 ∷ y ∷ ys → (x : ℕ) × (slice_get cs 0 ≡ Some x)
    go [] e = absurd cc
    go (c ∷ cs) e = (c, refl)

short_bad : (y : ℕ) (ys : Text) → IsUtf8 (45 ∷ y ∷ ys) → (y == 45) ≡ false → Bad (45 ∷ y ∷ ys)
unfolding clap_on_literals
short_bad y ys u f = record {
  no_dashes = and_left (y == 45) _ f;
  refuses = λ r p e. let first = some_char y ys u in let bad = rw (f, f, first.1) at e in cc;
}

-- how a word begins
pub data Shape : Text → Type 0 where
  s_operand : {w : Text} → IsOperand w → Shape w
  s_dashes : Shape (codes "--")
  s_long : (z : ℕ) (zs : Text) → Shape (45 ∷ 45 ∷ z ∷ zs)
  s_short : (y : ℕ) (ys : Text) → (y == 45) ≡ false → Shape (45 ∷ y ∷ ys)

pub shape : (w : Text) → Shape w
shape [] = s_operand (inl refl)
shape (x ∷ xs) = elim (cases_Bool (x == 45)) [
  | inr f ↦ s_operand (inl (other x xs f))
  | inl t ↦ let P : ℕ → Type 0 = λ c. Shape (c ∷ xs) in subst P (sym (eqb-true x 45 t)) (first xs)
]
  where
    other : (x : ℕ) (xs : Text) → (x == 45) ≡ false → NoOption (x ∷ xs)
    other x xs f = elim (cases_Bool (45 == x)) [
      | inl t ↦ let P : ℕ → Type 0 = λ c. (c == 45) ≡ false in let bad : true ≡ false = subst P (sym (eqb-true 45 x t)) f in absurd (true≢false bad)
      | inr g ↦ and_left (45 == x) _ g
    ]

    second : (y : ℕ) (ys : Text) → (y == 45) ≡ true → Shape (45 ∷ y ∷ ys)
    second y [] t = let P : ℕ → Type 0 = λ c. Shape (45 ∷ c ∷ []) in subst P (sym (eqb-true y 45 t)) s_dashes
    second y (z ∷ zs) t = let P : ℕ → Type 0 = λ c. Shape (45 ∷ c ∷ z ∷ zs) in subst P (sym (eqb-true y 45 t)) (s_long z zs)

    first : (xs : Text) → Shape (45 ∷ xs)
    first [] = s_operand (inr refl)
    first (y ∷ ys) = elim (cases_Bool (y == 45)) [
      | inl t ↦ second y ys t
      | inr f ↦ s_short y ys f
    ]

pub classify : (w : Text) → IsUtf8 w → Kind w
classify w u = go w (shape w) u
  where
    go : (w : Text) → Shape w → IsUtf8 w → Kind w
    go w (s_operand o) u = k_value o (plain_of w o)
    go _ s_dashes u = k_dashes
    go _ (s_long z zs) u = long_kind z zs
    go _ (s_short y ys f) u = k_bad (short_bad y ys u f)

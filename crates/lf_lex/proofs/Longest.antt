-- The longest beginning of a sort, told by its length.
use Rattle.std.proofs.Common.{◌≡◌, ℕ, ◌+◌, ◌-◌, ◌<◌, ◌≤◌, List, ◌++◌, length, take, drop, ap, arith, append_assoc, sym, ◌∙◌, subst, ◌⊎◌, inl, inr, length-append, length-take-le, take-append-drop}
use Rattle.std.proofs.Math.Seq.{take-append-add}
use Rattle.std.proofs.lemmas.Bool.{cases_lt}
use Rattle.lf_lex.specs.Lexemes.{IsLongest}

-- The first n bytes are of the sort, and no longer beginning is.
pub record Greatest (sort : List ℕ → Type 0) (src : List ℕ) (n : ℕ) : Type 0 where
  pub within : n ≤ length src
  pub is : sort (take n src)
  pub bound : (text left : List ℕ) → src ≡ text ++ left → sort text → length text ≤ n

-- a beginning that goes on behind a text
pub take_on : (xs ys : List ℕ) (k n : ℕ) → n ≡ length xs + k → take n (xs ++ ys) ≡ xs ++ take k ys
take_on xs ys k n e = ap (λ (m : ℕ). take m (xs ++ ys)) e ∙ take-append-add xs ys k

module _ (sort : List ℕ → Type 0) (src : List ℕ) (n : ℕ) (g : Greatest sort src n) where
  pub greatest_longest : IsLongest sort (take n src) (drop n src)
  greatest_longest = (
    g.is,
    λ more left e lt h.
        let whole : src ≡ (take n src ++ more) ++ left = sym (take-append-drop n src) ∙ ap (λ (x : List ℕ). take n src ++ x) e ∙ sym (append_assoc (take n src) more left) in
        let b = g.bound (take n src ++ more) left whole h in
        let l = length-append (take n src) more in
        let k = length-take-le n src g.within in
        absurd (omega arith),
  )

  pub longest_length : (text rest : List ℕ) → src ≡ text ++ rest → IsLongest sort text rest → length text ≡ n
  longest_length text rest e h = by (cases_lt (length text) n)
    where
      by : (length text < n) ⊎ (n ≤ length text) → length text ≡ n
      by (inr le) = let b = g.bound text rest e h.0 in omega arith
      by (inl lt) =
          let k = n - length text in
          let whole : length src ≡ length text + length rest = ap length e ∙ length-append text rest in
          let w = g.within in
          let le : k ≤ length rest = omega arith in
          let some : 0 < length (take k rest) = let l = length-take-le k rest le in omega arith in
          let n_is : n ≡ length text + k = omega arith in
          let front : take n src ≡ text ++ take k rest = ap (λ (x : List ℕ). take n x) e ∙ take_on text rest k n n_is in
          absurd (h.1 (take k rest) (drop k rest) (sym (take-append-drop k rest)) some (subst sort front g.is))

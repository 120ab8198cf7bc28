-- Words and characters, as rows.
use Rattle.std.proofs.Common.{◌≡◌, ℕ, suc, ◌+◌, ◌≤◌, Bool, true, false, List, [], ◌∷◌, ◌++◌, length, take, refl, ap, arith, sym, subst}
use Rattle.std.proofs.lemmas.List.Sums.{prefix_len-le-length}
use Rattle.std.specs.List.{prefix_len, list_all}
use Rattle.lf_lex.specs.Bytes.{begins_word, is_in_word, is_continuation}
use Rattle.lf_lex.specs.Lexemes.{IsWord}
use Rattle.lf_lex.specs.Breaches.{IsCharacter}
use Rattle.lf_base.proofs.Rows.{row_all, row_bound}
use Rattle.lf_lex.proofs.Longest.{Greatest}

pub begins_in_word : (inside : Bool) (b : ℕ) → begins_word inside b ≡ true → is_in_word inside b ≡ true
unfolding is_in_word
begins_in_word inside b h = rw h refl

head_of : (b : ℕ) (src text left : List ℕ) (c : ℕ) → b ∷ src ≡ (c ∷ text) ++ left → c ≡ b
head_of b src text left c e = ap first (sym e)
  where
    first : List ℕ → ℕ
    first [] = b
    first (x ∷ xs) = x

pub word_all : (inside : Bool) (text : List ℕ) → IsWord inside text → list_all (is_in_word inside) text ≡ true
word_all inside [] h = absurd h
word_all inside (b ∷ more) h = rw (begins_in_word inside b h.0) h.1

pub word_greatest : (inside : Bool) (b : ℕ) (src : List ℕ) → begins_word inside b ≡ true → Greatest (IsWord inside) (b ∷ src) (prefix_len (is_in_word inside) (b ∷ src))
word_greatest inside b src h =
    let e : prefix_len (is_in_word inside) (b ∷ src) ≡ suc (prefix_len (is_in_word inside) src) = rw (begins_in_word inside b h) (omega arith) in
    record {
      within = prefix_len-le-length (is_in_word inside) (b ∷ src);
      is = subst (λ (n : ℕ). IsWord inside (take n (b ∷ src))) (sym e) (h, row_all (is_in_word inside) src);
      bound = λ text left f w. row_bound (is_in_word inside) (b ∷ src) text left f (word_all inside text w);
    }

-- no word begins with another byte
pub no_word : (inside : Bool) (b : ℕ) (src text left : List ℕ) → begins_word inside b ≡ false → b ∷ src ≡ text ++ left → IsWord inside text → ⊥
no_word inside b src [] left n e h = h
no_word inside b src (c ∷ text) left n e h = let f = head_of b src text left c e in cc

-- ---- characters

pub character_greatest : (b : ℕ) (src : List ℕ) → Greatest IsCharacter (b ∷ src) (1 + prefix_len is_continuation src)
character_greatest b src =
    let e : 1 + prefix_len is_continuation src ≡ suc (prefix_len is_continuation src) = omega arith in
    let l = prefix_len-le-length is_continuation src in
    record {
      within = omega arith;
      is = subst (λ (n : ℕ). IsCharacter (take n (b ∷ src))) (sym e) (row_all is_continuation src);
      bound = λ text left f w. by text left f w;
    }
  where
    tail : List ℕ → List ℕ
    tail [] = []
    tail (x ∷ xs) = xs

    by : (text left : List ℕ) → b ∷ src ≡ text ++ left → IsCharacter text → length text ≤ 1 + prefix_len is_continuation src
    by [] left f w = omega arith
    by (c ∷ text) left f w = let r = row_bound is_continuation src text left (ap tail f) w in omega arith

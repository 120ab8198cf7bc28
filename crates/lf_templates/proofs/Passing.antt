-- Going over a comment byte by byte, to what closes it.
use Rattle.std.proofs.Common.{◌≡◌, ℕ, suc, ◌+◌, ◌<◌, ◌≤◌, true, false, cond, List, [], ◌∷◌, Option, Some, None, length, get_or, drop, refl, ap, arith, add-one, drop-cons, length-drop}
use Rattle.std.specs.Prelude.{option_map}
use Rattle.std.proofs.lemmas.List.{drop_all}
use Rattle.lf_templates.specs.Bytes.{starts_with}
use Rattle.lf_laws.proofs.Options.{place_from_start, place_more}
use Rattle.lf_templates.specs.Tokens.{ends_comment}
use Rattle.lf_templates.specs.reading.Templates.{comment_len}

-- ---- comments

abbrev pub searched : List ℕ → ℕ → Option ℕ
searched rest i = option_map (λ n. i + n) (comment_len (drop i rest))

comment-step : (b : ℕ) (src : List ℕ) → comment_len (b ∷ src) ≡ cond (ends_comment (b ∷ src)) (Some 0) (option_map suc (comment_len src))
unfolding comment_len
comment-step b src = refl

module _ (rest : List ℕ) (i : ℕ) (lt : i < length rest) where
  split : drop i rest ≡ get_or rest i 0 ∷ drop (i + 1) rest
  split = rw (add-one, drop-cons rest i 0) refl

  there : comment_len (drop i rest) ≡ cond (ends_comment (drop i rest)) (Some 0) (option_map suc (comment_len (drop (i + 1) rest)))
  there = rw split (comment-step (get_or rest i 0) (drop (i + 1) rest))

  pub searched-ends : ends_comment (drop i rest) ≡ true → searched rest i ≡ Some i
  searched-ends e = rw (there, e) (ap (λ (k : ℕ). Some k) (omega arith))

  pub searched-moves : ends_comment (drop i rest) ≡ false → searched rest i ≡ searched rest (i + 1)
  searched-moves e = rw (there, e) (place_more i _)

pub searched-none : (rest : List ℕ) (i : ℕ) → length rest ≤ i → searched rest i ≡ None
unfolding comment_len
searched-none rest i le = rw (drop_all i rest le) refl

pub searched-start : (rest : List ℕ) → searched rest 0 ≡ comment_len rest
searched-start rest = place_from_start (comment_len rest)

two_bytes : (b c : ℕ) (src : List ℕ) → starts_with b c src ≡ true → 2 ≤ length src
two_bytes b c [] e = cc
two_bytes b c (x ∷ []) e = cc
two_bytes b c (x ∷ y ∷ src) e = omega arith

pub searched-within : (rest : List ℕ) (i : ℕ) → ends_comment (drop i rest) ≡ true → i + 2 ≤ length rest
searched-within rest i e = let h = two_bytes 42 47 (drop i rest) e in omega (arith, length-drop i rest)

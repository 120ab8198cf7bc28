-- Which test a character needs: one that is ASCII is wrong as a control character alone.
use Rattle.std.proofs.Common.{◌≡◌, ℕ, suc, ◌<◌, Bool, false, ◌||◌, List, [], ◌∷◌, length, get_or, drop, refl, ap, arith, sym, ◌∙◌, drop-cons}
use Rattle.std.proofs.Math.Bool.{or-false}
use Rattle.std.proofs.lemmas.Bool.{ne_eqb}
use Rattle.lf_yaml.specs.Characters.{is_wrong, is_wrong_control, is_high_control, is_left_out}

not-left-out : (b : ℕ) (bs : List ℕ) → b < 128 → is_left_out (b ∷ bs) ≡ false
not-left-out b bs lt = rw (ne_eqb b 0xE2 (λ e. omega (arith, e, lt)), ne_eqb b 0xEF (λ e. omega (arith, e, lt))) refl

not-high : (b : ℕ) (bs : List ℕ) → b < 128 → is_high_control (b ∷ bs) ≡ false
not-high b [] lt = refl
not-high b (c ∷ bs) lt = rw (ne_eqb b 0xC2 (λ e. omega (arith, e, lt))) refl

no-more : (x y z : Bool) → y ≡ false → z ≡ false → x ≡ (x || (y || z))
no-more x y z e f = rw (e, f) (sym (or-false x))

module _ (bytes : List ℕ) (k : ℕ) (lt : k < length bytes) where
  split : drop k bytes ≡ get_or bytes k 0 ∷ drop (suc k) bytes
  split = drop-cons bytes k 0 lt

  pub ascii-wrong : get_or bytes k 0 < 128 → is_wrong_control (drop k bytes) ≡ is_wrong (drop k bytes)
  ascii-wrong h =
      let b = get_or bytes k 0 in
      let bs = drop (suc k) bytes in
      ap is_wrong_control split ∙ no-more (is_wrong_control (b ∷ bs)) (is_high_control (b ∷ bs)) (is_left_out (b ∷ bs)) (not-high b bs h) (not-left-out b bs h) ∙ sym (ap is_wrong split)

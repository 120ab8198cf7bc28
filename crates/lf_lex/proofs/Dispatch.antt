-- By its first byte a text is read as one sort of lexeme.
use Rattle.std.proofs.Common.{◌≡◌, ℕ, Bool, true, false, ◌&&◌, ◌||◌, eqb, List, [], ◌∷◌, refl, arith, sym, subst, inl, inr}
use Rattle.std.proofs.lemmas.Bool.{and_parts, or_cases, or_left, or_right}
use Rattle.std.proofs.lemmas.Bool.Decides.{nat_tests}
use Rattle.lf_lex.specs.declared.token.Sign.{Sign}
use Rattle.lf_lex.specs.declared.token.Sign.TheVariants as signs
use Rattle.lf_lex.specs.Bytes.{is_blank, is_dot, is_in_mantissa, begins_word}
use Rattle.lf_base.specs.Names.{is_letter, is_digit, begins_label}
use Rattle.lf_lex.specs.Signs.{spelling}
use Rattle.lf_lex.specs.Runs.{begins_run}
use Rattle.lf_lex.specs.Strings.{IsQuote}
use Rattle.lf_lex.specs.reading.Steps.{gap, comment_front, word_front, run_front, quoted_front, raw_front, sign_front, next_token}

word_no_blank : (inside : Bool) (b : ℕ) → begins_word inside b ≡ true → is_blank b ≡ false
unfolding begins_word begins_label is_letter is_blank
word_no_blank inside b h = grind (arith, nat_tests)

word_no_hash : (inside : Bool) (b : ℕ) → begins_word inside b ≡ true → eqb b 35 ≡ false
unfolding begins_word begins_label is_letter
word_no_hash inside b h = grind (arith, nat_tests)

run_head : (b : ℕ) (src : List ℕ) → begins_run (b ∷ src) ≡ true → is_in_mantissa b ≡ true
unfolding is_in_mantissa
run_head b [] h = or_left (is_digit b) (is_dot b) h
run_head b (c ∷ src) h = elim (or_cases (is_digit b) (is_dot b && is_digit c) h) [
  | inl d ↦ or_left (is_digit b) (is_dot b) d
  | inr d ↦ or_right (is_digit b) (is_dot b) (and_parts (is_dot b) (is_digit c) d).0
]

run_no_blank : (b : ℕ) → is_in_mantissa b ≡ true → is_blank b ≡ false
unfolding is_in_mantissa is_digit is_dot is_blank
run_no_blank b h = grind (arith, nat_tests)

run_no_hash : (b : ℕ) → is_in_mantissa b ≡ true → eqb b 35 ≡ false
unfolding is_in_mantissa is_digit is_dot
run_no_hash b h = grind (arith, nat_tests)

run_no_word : (inside : Bool) (b : ℕ) → is_in_mantissa b ≡ true → begins_word inside b ≡ false
unfolding is_in_mantissa is_digit is_dot begins_word begins_label is_letter
run_no_word inside b h = grind (arith, nat_tests)

pub begins_no_run : (b : ℕ) (src : List ℕ) → is_digit b ≡ false → is_dot b ≡ false → begins_run (b ∷ src) ≡ false
begins_no_run b [] d e = d
begins_no_run b (c ∷ src) d e = rw (d, e) refl

module _ (from : List ℕ) (inside : Bool) (at : ℕ) (src : List ℕ) where
  pub front_blank : (b : ℕ) → is_blank b ≡ true → next_token from inside at (b ∷ src) ≡ gap 1
  unfolding next_token
  front_blank b h = rw h refl

  pub front_comment : next_token from inside at (35 ∷ src) ≡ comment_front (35 ∷ src)
  unfolding next_token is_blank
  front_comment = refl

  pub front_word : (b : ℕ) → begins_word inside b ≡ true → next_token from inside at (b ∷ src) ≡ word_front inside (b ∷ src)
  unfolding next_token
  front_word b h = rw (word_no_blank inside b h, word_no_hash inside b h, h) refl

  pub front_run : (b : ℕ) → begins_run (b ∷ src) ≡ true → next_token from inside at (b ∷ src) ≡ run_front from at (b ∷ src)
  unfolding next_token
  front_run b h = let m = run_head b src h in rw (run_no_blank b m, run_no_hash b m, run_no_word inside b m, h) refl

  front_double : next_token from inside at (34 ∷ src) ≡ quoted_front from at (34 ∷ src)
  unfolding next_token is_blank begins_word begins_label is_letter is_digit is_dot
  front_double = rw (begins_no_run 34 src refl refl) refl

  front_single : next_token from inside at (39 ∷ src) ≡ quoted_front from at (39 ∷ src)
  unfolding next_token is_blank begins_word begins_label is_letter is_digit is_dot
  front_single = rw (begins_no_run 39 src refl refl) refl

  pub front_quoted : (q : ℕ) → IsQuote q → next_token from inside at (q ∷ src) ≡ quoted_front from at (q ∷ src)
  front_quoted q (inl e) = subst (λ (x : ℕ). next_token from inside at (x ∷ src) ≡ quoted_front from at (x ∷ src)) (sym e) front_double
  front_quoted q (inr e) = subst (λ (x : ℕ). next_token from inside at (x ∷ src) ≡ quoted_front from at (x ∷ src)) (sym e) front_single

  pub front_raw : next_token from inside at (96 ∷ src) ≡ raw_front from at (96 ∷ src)
  unfolding next_token is_blank begins_word begins_label is_letter is_digit is_dot
  front_raw = rw (begins_no_run 96 src refl refl) refl

  pub front_sign : (b : ℕ) → is_blank b ≡ false → eqb b 35 ≡ false → begins_word inside b ≡ false → begins_run (b ∷ src) ≡ false → (eqb b 34 || eqb b 39) ≡ false → eqb b 96 ≡ false → next_token from inside at (b ∷ src) ≡ sign_front from at (b ∷ src)
  unfolding next_token
  front_sign b h i w r q t = rw (h, i, w, r, q, t) refl

-- no sign begins as another lexeme does
pub record IsOther (inside : Bool) (s : Sign) : Type 0 where
  pub b : ℕ
  pub more : List ℕ
  pub source : spelling s ≡ b ∷ more
  pub blank : is_blank b ≡ false
  pub hash : eqb b 35 ≡ false
  pub word : begins_word inside b ≡ false
  pub digit : is_digit b ≡ false
  pub dot : is_dot b ≡ false
  pub quote : (eqb b 34 || eqb b 39) ≡ false
  pub back : eqb b 96 ≡ false

pub other : (inside : Bool) (s : Sign) → (s ≡ signs.Colon → inside ≡ true) → IsOther inside s
unfolding is_blank begins_word begins_label is_letter is_digit is_dot
other inside signs.OpenParen c = record { b = 40; more = []; source = refl; blank = refl; hash = refl; word = refl; digit = refl; dot = refl; quote = refl; back = refl }
other inside signs.CloseParen c = record { b = 41; more = []; source = refl; blank = refl; hash = refl; word = refl; digit = refl; dot = refl; quote = refl; back = refl }
other inside signs.OpenBrace c = record { b = 123; more = []; source = refl; blank = refl; hash = refl; word = refl; digit = refl; dot = refl; quote = refl; back = refl }
other inside signs.CloseBrace c = record { b = 125; more = []; source = refl; blank = refl; hash = refl; word = refl; digit = refl; dot = refl; quote = refl; back = refl }
other inside signs.OpenBracket c = record { b = 91; more = []; source = refl; blank = refl; hash = refl; word = refl; digit = refl; dot = refl; quote = refl; back = refl }
other inside signs.CloseBracket c = record { b = 93; more = []; source = refl; blank = refl; hash = refl; word = refl; digit = refl; dot = refl; quote = refl; back = refl }
other inside signs.Comma c = record { b = 44; more = []; source = refl; blank = refl; hash = refl; word = refl; digit = refl; dot = refl; quote = refl; back = refl }
other inside signs.Colon c = record { b = 58; more = []; source = refl; blank = refl; hash = refl; word = rw (c refl) refl; digit = refl; dot = refl; quote = refl; back = refl }
other inside signs.Plus c = record { b = 43; more = []; source = refl; blank = refl; hash = refl; word = refl; digit = refl; dot = refl; quote = refl; back = refl }
other inside signs.Minus c = record { b = 45; more = []; source = refl; blank = refl; hash = refl; word = refl; digit = refl; dot = refl; quote = refl; back = refl }
other inside signs.Times c = record { b = 42; more = []; source = refl; blank = refl; hash = refl; word = refl; digit = refl; dot = refl; quote = refl; back = refl }
other inside signs.Over c = record { b = 47; more = []; source = refl; blank = refl; hash = refl; word = refl; digit = refl; dot = refl; quote = refl; back = refl }
other inside signs.Modulo c = record { b = 37; more = []; source = refl; blank = refl; hash = refl; word = refl; digit = refl; dot = refl; quote = refl; back = refl }
other inside signs.Power c = record { b = 94; more = []; source = refl; blank = refl; hash = refl; word = refl; digit = refl; dot = refl; quote = refl; back = refl }
other inside signs.Equal c = record { b = 61; more = 61 ∷ []; source = refl; blank = refl; hash = refl; word = refl; digit = refl; dot = refl; quote = refl; back = refl }
other inside signs.NotEqual c = record { b = 33; more = 61 ∷ []; source = refl; blank = refl; hash = refl; word = refl; digit = refl; dot = refl; quote = refl; back = refl }
other inside signs.LessOrEqual c = record { b = 60; more = 61 ∷ []; source = refl; blank = refl; hash = refl; word = refl; digit = refl; dot = refl; quote = refl; back = refl }
other inside signs.Less c = record { b = 60; more = []; source = refl; blank = refl; hash = refl; word = refl; digit = refl; dot = refl; quote = refl; back = refl }
other inside signs.GreaterOrEqual c = record { b = 62; more = 61 ∷ []; source = refl; blank = refl; hash = refl; word = refl; digit = refl; dot = refl; quote = refl; back = refl }
other inside signs.Greater c = record { b = 62; more = []; source = refl; blank = refl; hash = refl; word = refl; digit = refl; dot = refl; quote = refl; back = refl }
other inside signs.Is c = record { b = 61; more = []; source = refl; blank = refl; hash = refl; word = refl; digit = refl; dot = refl; quote = refl; back = refl }
other inside signs.Matches c = record { b = 61; more = 126 ∷ []; source = refl; blank = refl; hash = refl; word = refl; digit = refl; dot = refl; quote = refl; back = refl }
other inside signs.MatchesNot c = record { b = 33; more = 126 ∷ []; source = refl; blank = refl; hash = refl; word = refl; digit = refl; dot = refl; quote = refl; back = refl }
other inside signs.At c = record { b = 64; more = []; source = refl; blank = refl; hash = refl; word = refl; digit = refl; dot = refl; quote = refl; back = refl }

-- What is read at the front between braces is a token by the definitions.
use Rattle.std.proofs.Common.{◌≡◌, ℕ, suc, ◌+◌, ◌<◌, Bool, true, false, not, ◌&&◌, cond, eqb, List, [], ◌∷◌, ◌++◌, Option, Some, None, length, take, drop, refl, ap, arith, sym, ◌∙◌, subst, append_assoc, length-append, length-drop, length-take-le, take-append-drop}
use Rattle.std.specs.Prelude.{option_map, nat_lt}
use Rattle.std.specs.List.{prefix_len}
use Rattle.std.proofs.lemmas.Bool.{eqb-true}
use Rattle.std.proofs.lemmas.Bool.Decides.{nat_tests}
use Rattle.std.proofs.lemmas.List.Sums.{prefix_len-le-length}
use Rattle.lf_templates.specs.declared.token.ActionToken.{ActionToken}
use Rattle.lf_templates.specs.declared.token.ActionToken.TheVariants as tokens
use Rattle.lf_templates.specs.declared.token.TokenContext.{TokenContext}
use Rattle.lf_templates.specs.declared.token.Lexeme.{Lexeme}
use Rattle.lf_templates.specs.declared.token.Beginning.{Beginning}
use Rattle.lf_templates.specs.declared.token.Beginning.TheVariants as begins
use Rattle.lf_base.specs.Names.{begins_label, is_digit, is_in_label}
use Rattle.lf_base.specs.Rows.{is_no_back_quote, starts, Stops}
use Rattle.lf_base.specs.reading.Closing.{closing}
use Rattle.lf_templates.specs.Bytes.{beginning, sign_begins, is_in_number}
use Rattle.lf_templates.specs.Tokens.{IsActionToken, one_byte, in_quotes, in_back_quotes, a_word, a_variable, a_field, a_number, declares, a_colon, a_comment, a_slash, a_minus, takes_comment}
use Rattle.lf_templates.specs.reading.Templates.{token, name_len, comment_len, string_front, raw_front, word_front, variable_front, field_front, number_front, colon_front, slash_front, minus_front, front_by, front}
use Rattle.lf_base.proofs.Rows.{row_all, row_then}
use Rattle.lf_templates.proofs.Quotes.{string_stands, comment_stands}
use Rattle.lf_templates.proofs.Fronts.{name_le, name_stands}

-- `src` begins with the token that a lexeme says.
pub record Stands (place : TokenContext) (src : List ℕ) (l : Lexeme) : Type 0 where
  pub text : List ℕ
  pub rest : List ℕ
  pub source : src ≡ text ++ rest
  pub len : l.len ≡ length text
  pub some : 0 < length text
  pub is : IsActionToken place l.token text rest

made : {place : TokenContext} {src : List ℕ} (x l : Lexeme) → Some x ≡ Some l → Stands place src x → Stands place src l
made {place} {src} x l e h = let f : x ≡ l = cc in subst (Stands place src) f h

mapped : (f : ℕ → Lexeme) (o : Option ℕ) (l : Lexeme) → option_map f o ≡ Some l → (n : ℕ) × (o ≡ Some n) × (Some (f n) ≡ Some l)
mapped f None l e = cc
mapped f (Some n) l e = (n, refl, e)

-- ---- which bytes begin what

pub choose : (P : Beginning → Type 0) (t : Bool) (x y : Beginning) → (t ≡ true → P x) → (t ≡ false → P y) → P (cond t x y)
choose P true x y f g = f refl
choose P false x y f g = g refl

abbrev Tells : ℕ → Beginning → Type 0
Tells b begins.Letter = begins_label b ≡ true
Tells b begins.BackQuote = b ≡ 96
Tells b begins.Dollar = b ≡ 36
Tells b begins.Dot = b ≡ 46
Tells b begins.Colon = b ≡ 58
Tells b begins.Slash = b ≡ 47
Tells b begins.Minus = b ≡ 45
Tells b _ = Unit {0}

tells : (b : ℕ) → Tells b (beginning b)
unfolding beginning sign_begins
tells b =
    choose (Tells b) (begins_label b) _ _ (λ e. e) (λ _.
    choose (Tells b) (is_digit b) _ _ (λ _. tt) (λ _.
    choose (Tells b) (eqb b 34) _ _ (λ _. tt) (λ _.
    choose (Tells b) (eqb b 39) _ _ (λ _. tt) (λ _.
    choose (Tells b) (eqb b 96) _ _ (λ e. eqb-true b 96 e) (λ _.
    choose (Tells b) (eqb b 36) _ _ (λ e. eqb-true b 36 e) (λ _.
    choose (Tells b) (eqb b 46) _ _ (λ e. eqb-true b 46 e) (λ _.
    choose (Tells b) (eqb b 58) _ _ (λ e. eqb-true b 58 e) (λ _.
    choose (Tells b) (eqb b 47) _ _ (λ e. eqb-true b 47 e) (λ _.
    choose (Tells b) (eqb b 45) _ _ (λ e. eqb-true b 45 e) (λ _. tt))))))))))

told : (b : ℕ) (k : Beginning) → beginning b ≡ k → Tells b k
told b k e = subst (Tells b) e (tells b)

-- ---- each sort of token

module _ (place : TokenContext) (b : ℕ) (src : List ℕ) where
  alone_stands : (t : ActionToken) → beginning b ≡ begins.Alone t → Stands place (b ∷ src) (token t 1)
  alone_stands t k = record { text = b ∷ []; rest = src; source = refl; len = refl; some = omega arith; is = one_byte b refl k }

  string_at : (l : Lexeme) → beginning b ≡ begins.Quote → string_front b src ≡ Some l → Stands place (b ∷ src) l
  unfolding string_front
  string_at l k e =
      let m = mapped (λ n. token tokens.Plain (n + 2)) (closing None b false src) l e in
      let c = string_stands b false src m.0 m.1 in
      let len = length-append c.inner (b ∷ []) in
      let n = c.len in
      made (token tokens.Plain (m.0 + 2)) l m.2 (record {
        text = b ∷ (c.inner ++ b ∷ []);
        rest = c.rest;
        source = ap (λ (xs : List ℕ). b ∷ xs) (c.source ∙ sym (append_assoc c.inner (b ∷ []) c.rest));
        len = omega arith;
        some = omega arith;
        is = in_quotes b c.inner refl k c.is refl;
      })

  word_at : beginning b ≡ begins.Letter → Stands place (b ∷ src) (word_front (b ∷ src))
  unfolding word_front name_len
  word_at k =
      let w = told b begins.Letter k in
      let n = 1 + prefix_len is_in_label src in
      let f : n ≡ suc (prefix_len is_in_label src) = omega arith in
      let le = prefix_len-le-length is_in_label src in
      let more = take (prefix_len is_in_label src) src in
      let ml = length-take-le (prefix_len is_in_label src) src le in
      rw (w, f) (record {
        text = b ∷ more;
        rest = drop (prefix_len is_in_label src) src;
        source = ap (λ (xs : List ℕ). b ∷ xs) (sym (take-append-drop (prefix_len is_in_label src) src));
        len = omega arith;
        some = omega arith;
        is = a_word b more refl (w, row_all is_in_label src, row_then is_in_label src) refl;
      })

  number_at : beginning b ≡ begins.Digit → Stands place (b ∷ src) (number_front src)
  unfolding number_front
  number_at k =
      let le = prefix_len-le-length is_in_number src in
      let ml = length-take-le (prefix_len is_in_number src) src le in
      record {
        text = b ∷ take (prefix_len is_in_number src) src;
        rest = drop (prefix_len is_in_number src) src;
        source = ap (λ (xs : List ℕ). b ∷ xs) (sym (take-append-drop (prefix_len is_in_number src) src));
        len = omega arith;
        some = omega arith;
        is = a_number b _ refl k (row_all is_in_number src) (row_then is_in_number src) refl;
      }

-- what isn't in a row of bytes other than back quotes is one
behind_row : (rest : List ℕ) → 0 < length rest → Stops is_no_back_quote rest → (more : List ℕ) × (rest ≡ 96 ∷ more)
behind_row [] lt h = absurd (omega arith)
behind_row (b ∷ more) lt h = (more, ap (λ (k : ℕ). k ∷ more) (by (eqb b 96) refl h))
  where
    by : (t : Bool) → eqb b 96 ≡ t → not t ≡ false → b ≡ 96
    by true is h = eqb-true b 96 is
    by false is h = cc

star_first : (src : List ℕ) → starts (λ b. eqb b 42) src ≡ true → (more : List ℕ) × (src ≡ 42 ∷ more)
star_first [] e = cc
star_first (b ∷ more) e = (more, ap (λ (k : ℕ). k ∷ more) (eqb-true b 42 e))

module _ (place : TokenContext) (src : List ℕ) where
  variable_at : Stands place (36 ∷ src) (variable_front src)
  unfolding variable_front
  variable_at =
      let ml = length-take-le (name_len src) src (name_le src) in
      record {
        text = 36 ∷ take (name_len src) src;
        rest = drop (name_len src) src;
        source = ap (λ (xs : List ℕ). 36 ∷ xs) (sym (take-append-drop (name_len src) src));
        len = omega arith;
        some = omega arith;
        is = a_variable (take (name_len src) src) refl (name_stands src) refl;
      }

  field_at : Stands place (46 ∷ src) (field_front src)
  unfolding field_front
  field_at =
      let ml = length-take-le (name_len src) src (name_le src) in
      record {
        text = 46 ∷ take (name_len src) src;
        rest = drop (name_len src) src;
        source = ap (λ (xs : List ℕ). 46 ∷ xs) (sym (take-append-drop (name_len src) src));
        len = omega arith;
        some = omega arith;
        is = a_field (take (name_len src) src) refl (name_stands src) refl;
      }

  raw_at : (l : Lexeme) → raw_front src ≡ Some l → Stands place (96 ∷ src) l
  unfolding raw_front
  raw_at l e = by (nat_lt (prefix_len is_no_back_quote src) (length src)) refl e
    where
      by : (t : Bool) → nat_lt (prefix_len is_no_back_quote src) (length src) ≡ t → cond t (Some (token tokens.Plain (prefix_len is_no_back_quote src + 2))) None ≡ Some l → Stands place (96 ∷ src) l
      by false is e = cc
      by true is e =
          let k = prefix_len is_no_back_quote src in
          let lt : k < length src = grind (arith, nat_tests) in
          let rest = behind_row (drop k src) (omega (arith, length-drop k src)) (row_then is_no_back_quote src) in
          let ml = length-take-le k src (omega arith) in
          let len = length-append (take k src) (96 ∷ []) in
          made (token tokens.Plain (k + 2)) l e (record {
            text = 96 ∷ (take k src ++ 96 ∷ []);
            rest = rest.0;
            source = ap (λ (xs : List ℕ). 96 ∷ xs) (sym (take-append-drop k src) ∙ ap (λ (xs : List ℕ). take k src ++ xs) rest.1 ∙ sym (append_assoc (take k src) (96 ∷ []) rest.0));
            len = omega arith;
            some = omega arith;
            is = in_back_quotes (take k src) refl (row_all is_no_back_quote src) refl;
          })

  colon_at : Stands place (58 ∷ src) (colon_front src)
  unfolding colon_front
  colon_at = by src
    where
      by : (src : List ℕ) → Stands place (58 ∷ src) (cond (starts (λ b. eqb b 61) src) (token tokens.Setting 2) (token tokens.Wrong 1))
      by [] = record { text = 58 ∷ []; rest = []; source = refl; len = refl; some = omega arith; is = a_colon refl refl refl }
      by (c ∷ more) = step (eqb c 61) refl
        where
          step : (t : Bool) → eqb c 61 ≡ t → Stands place (58 ∷ c ∷ more) (cond (eqb c 61) (token tokens.Setting 2) (token tokens.Wrong 1))
          step true is = rw is (record { text = 58 ∷ 61 ∷ []; rest = more; source = ap (λ (k : ℕ). 58 ∷ k ∷ more) (eqb-true c 61 is); len = refl; some = omega arith; is = declares refl refl })
          step false is = rw is (record { text = 58 ∷ []; rest = c ∷ more; source = refl; len = refl; some = omega arith; is = a_colon refl is refl })

  minus_at : Stands place (45 ∷ src) (minus_front place src)
  unfolding minus_front
  minus_at = record { text = 45 ∷ []; rest = src; source = refl; len = refl; some = omega arith; is = a_minus refl refl }

  slash_at : (l : Lexeme) → slash_front place src ≡ Some l → Stands place (47 ∷ src) l
  unfolding slash_front
  slash_at l e = by (takes_comment place) (starts (λ b. eqb b 42) src) refl refl e
    where
      wrong : (takes_comment place && starts (λ b. eqb b 42) src) ≡ false → Some (token tokens.Wrong 1) ≡ Some l → Stands place (47 ∷ src) l
      wrong is e = made (token tokens.Wrong 1) l e (record { text = 47 ∷ []; rest = src; source = refl; len = refl; some = omega arith; is = a_slash refl is refl })

      comment : takes_comment place ≡ true → (more : List ℕ) → src ≡ 42 ∷ more → option_map (λ n. token tokens.Comment (n + 4)) (comment_len more) ≡ Some l → Stands place (47 ∷ src) l
      comment p more f e =
          let m = mapped (λ n. token tokens.Comment (n + 4)) (comment_len more) l e in
          let c = comment_stands more m.0 m.1 in
          let len = length-append c.inner (42 ∷ 47 ∷ []) in
          let n = c.len in
          made (token tokens.Comment (m.0 + 4)) l m.2 (record {
            text = 47 ∷ 42 ∷ (c.inner ++ 42 ∷ 47 ∷ []);
            rest = c.rest;
            source = ap (λ (xs : List ℕ). 47 ∷ xs) (f ∙ ap (λ (xs : List ℕ). 42 ∷ xs) (c.source ∙ sym (append_assoc c.inner (42 ∷ 47 ∷ []) c.rest)));
            len = omega arith;
            some = omega arith;
            is = a_comment c.inner refl p c.free refl;
          })

      by : (p s : Bool) → takes_comment place ≡ p → starts (λ b. eqb b 42) src ≡ s → cond (p && s) (option_map (λ n. token tokens.Comment (n + 4)) (comment_len (drop 1 src))) (Some (token tokens.Wrong 1)) ≡ Some l → Stands place (47 ∷ src) l
      by false s is star e = wrong (ap (λ (t : Bool). t && starts (λ b. eqb b 42) src) is) e
      by true false is star e = wrong (ap (λ (t : Bool). t && starts (λ b. eqb b 42) src) is ∙ star) e
      by true true is star e =
          let f = star_first src star in
          comment is f.0 f.1 (ap (λ (xs : List ℕ). option_map (λ n. token tokens.Comment (n + 4)) (comment_len (drop 1 xs))) (sym f.1) ∙ e)

-- ---- the front

pub front_stands : (place : TokenContext) (src : List ℕ) (l : Lexeme) → front place src ≡ Some l → Stands place src l
front_stands place [] l e = cc
front_stands place (b ∷ src) l e = by (beginning b) refl e
  where
    moved : (k : ℕ) → b ≡ k → Stands place (k ∷ src) l → Stands place (b ∷ src) l
    moved k e h = subst (λ (x : ℕ). Stands place (x ∷ src) l) (sym e) h

    by : (k : Beginning) → beginning b ≡ k → front_by place b src k ≡ Some l → Stands place (b ∷ src) l
    by (begins.Alone t) k e = made (token t 1) l e (alone_stands place b src t k)
    by begins.Quote k e = string_at place b src l k e
    by begins.BackQuote k e = moved 96 (told b begins.BackQuote k) (raw_at place src l e)
    by begins.Letter k e = made (word_front (b ∷ src)) l e (word_at place b src k)
    by begins.Dollar k e = moved 36 (told b begins.Dollar k) (made (variable_front src) l e (variable_at place src))
    by begins.Dot k e = moved 46 (told b begins.Dot k) (made (field_front src) l e (field_at place src))
    by begins.Digit k e = made (number_front src) l e (number_at place b src k)
    by begins.Colon k e = moved 58 (told b begins.Colon k) (made (colon_front src) l e (colon_at place src))
    by begins.Slash k e = moved 47 (told b begins.Slash k) (slash_at place src l e)
    by begins.Minus k e = moved 45 (told b begins.Minus k) (made (minus_front place src) l e (minus_at place src))

-- The tokens of an action, read one by one.
use Rattle.std.proofs.Common.{◌≡◌, ℕ, zero, suc, ◌+◌, ◌-◌, ◌<◌, ◌≤◌, Bool, true, false, cond, eqb, List, [], ◌∷◌, ◌++◌, Option, Some, None, length, take, drop, refl, ap, arith, sym, ◌∙◌, subst, append_assoc, append-nil, length-append, length-drop}
use Rattle.std.specs.Prelude.{option_map}
use Rattle.std.specs.List.{list_all}
use Rattle.std.specs.Str.{IsAscii}
use Rattle.std.proofs.lemmas.Bool.{and_parts}
use Rattle.std.proofs.lemmas.Bool.Decides.{nat_tests}
use Rattle.std.proofs.lemmas.List.{drop-drop}
use Rattle.lf_templates.specs.declared.token.ActionToken.{ActionToken}
use Rattle.lf_templates.specs.declared.token.ActionToken.TheVariants as tokens
use Rattle.lf_templates.specs.declared.token.TokenContext.{TokenContext}
use Rattle.lf_templates.specs.declared.token.Lexeme.{Lexeme}
use Rattle.lf_templates.specs.declared.token.Beginning.{Beginning}
use Rattle.lf_templates.specs.declared.token.Beginning.TheVariants as begins
use Rattle.lf_base.specs.Names.{is_letter, begins_label, is_digit, is_in_label}
use Rattle.lf_base.specs.Rows.{Each}
use Rattle.lf_templates.specs.Bytes.{beginning, sign_begins, alone}
use Rattle.lf_templates.specs.Tokens.{IsName, IsActionToken, one_byte, in_quotes, in_back_quotes, a_word, a_variable, a_field, a_number, declares, a_colon, a_comment, a_slash, a_minus, is_trim, closes, behind}
use Rattle.lf_templates.specs.Actions.{is_field}
use Rattle.lf_templates.specs.reading.Templates.{front, lexed, total, Named}
use Rattle.lf_templates.proofs.Lists.{take_same}
use Rattle.lf_templates.proofs.Standing.{front_stands, choose}

drop_none : {X : Type 0} (n : ℕ) → drop {A = X} n [] ≡ []
drop_none zero = refl
drop_none (suc n) = refl

pub lexed_skip : (place : TokenContext) (n : ℕ) (src : List ℕ) → lexed place n src ≡ lexed place 0 (drop n src)
unfolding lexed
lexed_skip place zero src = refl
lexed_skip place (suc n) [] = refl
lexed_skip place (suc n) (b ∷ src) = lexed_skip place n src

pub front_some : (place : TokenContext) (src : List ℕ) (l : Lexeme) → front place src ≡ Some l → (0 < l.len) × (l.len ≤ length src)
front_some place src l e =
    let s = front_stands place src l e in
    let k = s.len in
    let p = s.some in
    let f = ap length s.source in
    let g = length-append s.text s.rest in
    (omega arith, omega arith)

-- with a token before those of a text
abbrev pub with_token : Lexeme → Option (List Lexeme) → Option (List Lexeme)
with_token l o = option_map (λ ls. l ∷ ls) o

pub lexed_step : (place : TokenContext) (src : List ℕ) (l : Lexeme) → closes src ≡ false → front place src ≡ Some l → lexed place 0 src ≡ with_token l (lexed (behind place l.token) 0 (drop l.len src))
unfolding lexed
lexed_step place [] l c e = cc
lexed_step place (b ∷ src) l c e =
    let some = front_some place (b ∷ src) l e in
    let n : l.len ≡ suc (l.len - 1) = omega (arith, some.0) in
    let d : drop l.len (b ∷ src) ≡ drop (l.len - 1) src = ap (λ (k : ℕ). drop k (b ∷ src)) n in
    rw (c, e, d) (ap (with_token l) (lexed_skip (behind place l.token) (l.len - 1) src))

pub lexed_closes : (place : TokenContext) (src : List ℕ) → closes src ≡ true → lexed place 0 src ≡ Some []
unfolding lexed
lexed_closes place [] c = cc
lexed_closes place (b ∷ src) c = rw c refl

pub lexed_none : (place : TokenContext) (src : List ℕ) → closes src ≡ false → front place src ≡ None → lexed place 0 src ≡ None
unfolding lexed
lexed_none place [] c e = refl
lexed_none place (b ∷ src) c e = rw (c, e) refl

pub lexed_end : (place : TokenContext) (n : ℕ) (src : List ℕ) → length src ≤ n → lexed place 0 (drop n src) ≡ None
unfolding lexed
lexed_end place n [] le = rw (drop_none {X = ℕ} n) refl
lexed_end place zero (b ∷ src) le = absurd (omega arith)
lexed_end place (suc n) (b ∷ src) le = lexed_end place n src (omega arith)

-- ---- the loop

abbrev pub behind_tokens : List Lexeme → Option (List Lexeme) → Option (List Lexeme)
behind_tokens ts o = option_map (λ ls. ts ++ ls) o

pub behind_push : (ts : List Lexeme) (l : Lexeme) (o : Option (List Lexeme)) → behind_tokens ts (with_token l o) ≡ behind_tokens (ts ++ l ∷ []) o
behind_push ts l None = refl
behind_push ts l (Some ls) = ap (λ (x : List Lexeme). Some x) (sym (append_assoc ts (l ∷ []) ls))

pub behind_none : (o : Option (List Lexeme)) → behind_tokens [] o ≡ o
behind_none None = refl
behind_none (Some ls) = refl

pub behind_closes : (ts : List Lexeme) → behind_tokens ts (Some []) ≡ Some ts
behind_closes ts = ap (λ (x : List Lexeme). Some x) (append-nil ts)

pub total_append : (xs ys : List Lexeme) → total (xs ++ ys) ≡ total xs + total ys
total_append [] ys = omega arith
total_append (x ∷ xs) ys = let h = total_append xs ys in omega arith

pub total_push : (xs : List Lexeme) (l : Lexeme) → total (xs ++ l ∷ []) ≡ total xs + l.len
total_push xs l = let h = total_append xs (l ∷ []) in omega arith

-- ---- names are ASCII

ascii_byte : (b : ℕ) → is_in_label b ≡ true → b < 128
unfolding is_in_label begins_label is_letter is_digit
ascii_byte b h = grind (arith, nat_tests)

ascii_row : (bs : List ℕ) → Each is_in_label bs → IsAscii bs
ascii_row [] h i = omega arith
ascii_row (b ∷ bs) h zero = ascii_byte b (and_parts (is_in_label b) (list_all is_in_label bs) h).0
ascii_row (b ∷ bs) h (suc i) = ascii_row bs (and_parts (is_in_label b) (list_all is_in_label bs) h).1 i

ascii_name : (name rest : List ℕ) → IsName name rest → IsAscii name
unfolding is_in_label
ascii_name [] rest h = λ i. omega arith
ascii_name (b ∷ more) rest h = ascii_row (b ∷ more) (rw h.0 h.1)

-- no token of one byte is a field
abbrev IsNoField : Beginning → Type 0
IsNoField (begins.Alone t) = is_field t ≡ false
IsNoField _ = Unit {0}

no_field_alone : (b : ℕ) → is_field (alone b) ≡ false
no_field_alone b = grind (arith, nat_tests)

no_field : (b : ℕ) → IsNoField (beginning b)
unfolding beginning sign_begins
no_field b =
    choose IsNoField (begins_label b) _ _ (λ _. tt) (λ _.
    choose IsNoField (is_digit b) _ _ (λ _. tt) (λ _.
    choose IsNoField (eqb b 34) _ _ (λ _. tt) (λ _.
    choose IsNoField (eqb b 39) _ _ (λ _. tt) (λ _.
    choose IsNoField (eqb b 96) _ _ (λ _. tt) (λ _.
    choose IsNoField (eqb b 36) _ _ (λ _. tt) (λ _.
    choose IsNoField (eqb b 46) _ _ (λ _. tt) (λ _.
    choose IsNoField (eqb b 58) _ _ (λ _. tt) (λ _.
    choose IsNoField (eqb b 47) _ _ (λ _. tt) (λ _.
    choose IsNoField (eqb b 45) _ _ (λ _. tt) (λ _. no_field_alone b))))))))))

clash : {P : Type 0} (t u : ActionToken) → t ≡ u → is_field u ≡ false → is_field t ≡ true → P
clash t u e f h = let g : is_field t ≡ is_field u = ap is_field e in cc

no_field_minus : (t : Bool) → is_field (cond t tokens.Trim tokens.Plain) ≡ false
no_field_minus true = refl
no_field_minus false = refl

pub field_ascii : (place : TokenContext) (t : ActionToken) (text rest : List ℕ) → IsActionToken place t text rest → is_field t ≡ true → IsAscii (drop 1 text)
field_ascii place t text rest (one_byte b e k) h = let f : is_field t ≡ false = subst IsNoField k (no_field b) in cc
field_ascii place t text rest (in_quotes quote inner e k i u) h = clash t tokens.Plain u refl h
field_ascii place t text rest (in_back_quotes inner e i u) h = clash t tokens.Plain u refl h
field_ascii place t text rest (a_word b more e i u) h = clash t _ u refl h
field_ascii place t text rest (a_variable name e i u) h = clash t _ u refl h
field_ascii place t text rest (a_field name e i u) h = subst (λ (x : List ℕ). IsAscii (drop 1 x)) (sym e) (ascii_name name rest i)
field_ascii place t text rest (a_number digit more e k i s u) h = clash t tokens.Plain u refl h
field_ascii place t text rest (declares e u) h = clash t tokens.Setting u refl h
field_ascii place t text rest (a_colon e s u) h = clash t tokens.Wrong u refl h
field_ascii place t text rest (a_comment inner e p i u) h = clash t tokens.Comment u refl h
field_ascii place t text rest (a_slash e s u) h = clash t tokens.Wrong u refl h
field_ascii place t text rest (a_minus e u) h = clash t _ u (no_field_minus (is_trim place rest)) h

named_one : (place : TokenContext) (text : List ℕ) (at : ℕ) (l : Lexeme) → front place (drop at text) ≡ Some l → is_field l.token ≡ true → IsAscii (take (l.len - 1) (drop (at + 1) text))
named_one place text at l e h =
    let s = front_stands place (drop at text) l e in
    let a = field_ascii place l.token s.text s.rest s.is h in
    let d : drop (at + 1) text ≡ drop 1 (s.text ++ s.rest) = sym (drop-drop 1 at text) ∙ ap (λ (x : List ℕ). drop 1 x) s.source in
    let k = s.len in
    rw d (by s.text (l.len - 1) (omega arith) s.some a)
  where
    by : (x : List ℕ) (n : ℕ) → n ≡ length x - 1 → 0 < length x → IsAscii (drop 1 x) → IsAscii (take n (drop 1 (x ++ (front_stands place (drop at text) l e).rest)))
    by [] n f lt a = absurd (omega arith)
    by (b ∷ x) n f lt a = rw (take_same n x (front_stands place (drop at text) l e).rest (omega arith)) a

pub named_push : (place : TokenContext) (text : List ℕ) (start at : ℕ) (ts : List Lexeme) (l : Lexeme) → Named text start ts → at ≡ start + total ts → front place (drop at text) ≡ Some l → Named text start (ts ++ l ∷ [])
named_push place text start at [] l n e f =
    let g : at ≡ start = omega arith in
    let some = front_some place (drop at text) l f in
    (some.0, λ h. subst (λ (k : ℕ). IsAscii (take (l.len - 1) (drop (k + 1) text))) g (named_one place text at l f h), tt)
named_push place text start at (t ∷ ts) l n e f = (n.0, n.1, named_push place text (start + t.len) at ts l n.2 (omega arith) f)

module _ (bytes : List ℕ) (start at : ℕ) (place : TokenContext) (ts : List Lexeme) (l : Lexeme) (more : List Lexeme) (next : TokenContext) (pushed : more ≡ ts ++ l ∷ []) (behind_it : next ≡ behind place l.token) (stays : closes (drop at bytes) ≡ false) (found : front place (drop at bytes) ≡ Some l) where
  pub same_on : (whole : Option (List Lexeme)) → behind_tokens ts (lexed place 0 (drop at bytes)) ≡ whole → behind_tokens more (lexed next 0 (drop (at + l.len) bytes)) ≡ whole
  same_on whole same =
      let e = ap (behind_tokens ts) (lexed_step place (drop at bytes) l stays found) ∙ behind_push ts l (lexed (behind place l.token) 0 (drop l.len (drop at bytes))) in
      rw (pushed, behind_it) (ap (λ (x : List ℕ). behind_tokens (ts ++ l ∷ []) (lexed (behind place l.token) 0 x)) (sym (drop-drop l.len at bytes)) ∙ sym e ∙ same)

  pub end_on : at ≡ start + total ts → at + l.len ≡ start + total more
  end_on e = rw pushed (let t = total_push ts l in omega arith)

  pub within_on : at ≤ length bytes → at + l.len ≤ length bytes
  within_on le = let some = front_some place (drop at bytes) l found in let d = length-drop at bytes in omega (arith, some.1)

  pub named_on : at ≡ start + total ts → Named bytes start ts → Named bytes start more
  named_on e n = rw pushed (named_push place bytes start at ts l n e found)

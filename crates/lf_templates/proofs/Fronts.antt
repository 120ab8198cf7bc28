-- What stands at the front between braces is one token, and it is read as that.
use Rattle.std.proofs.Common.{◌≡◌, ◌≢◌, ℕ, suc, ◌+◌, ◌<◌, ◌≤◌, Bool, true, false, cond, List, [], ◌∷◌, ◌++◌, Some, length, take, drop, refl, ap, arith, sym, ◌∙◌, append_assoc, length-append, lt-ltb}
use Rattle.std.specs.List.{prefix_len}
use Rattle.std.proofs.lemmas.List.Sums.{prefix_len-le-length}
use Rattle.lf_templates.specs.declared.token.ActionToken.{ActionToken}
use Rattle.lf_templates.specs.declared.token.ActionToken.TheVariants as tokens
use Rattle.lf_templates.specs.declared.token.TokenContext.{TokenContext}
use Rattle.lf_templates.specs.declared.token.Lexeme.{Lexeme}
use Rattle.lf_templates.specs.declared.token.Beginning.TheVariants as begins
use Rattle.lf_base.specs.Names.{is_letter, begins_label, is_digit, is_in_label}
use Rattle.lf_base.specs.Rows.{is_no_back_quote, Each, Stops}
use Rattle.lf_templates.specs.Bytes.{beginning, sign_begins, is_in_number}
use Rattle.lf_templates.specs.Tokens.{IsName, IsActionStringInner, IsActionToken, one_byte, in_quotes, in_back_quotes, a_word, a_variable, a_field, a_number, declares, a_colon, a_comment, a_slash, a_minus, takes_comment, ends_comment, FreeOf, word_of, variable_of, field_of}
use Rattle.lf_templates.specs.reading.Templates.{token, name_len, string_front, raw_front, word_front, variable_front, field_front, number_front, colon_front, slash_front, minus_front, front}
use Rattle.lf_base.proofs.Rows.{row_all, row_is, row_then}
use Rattle.lf_templates.proofs.Lists.{take_same}
use Rattle.lf_templates.proofs.Quotes.{string_read, comment_read}

-- ---- names

pub name_read : (name rest : List ℕ) → IsName name rest → name_len (name ++ rest) ≡ length name
unfolding name_len
name_read [] [] h = refl
name_read [] (b ∷ rest) h = rw h refl
name_read (b ∷ more) rest h = rw (h.0, row_is is_in_label more rest h.1 h.2) (omega arith)

pub name_le : (src : List ℕ) → name_len src ≤ length src
unfolding name_len
name_le [] = omega arith
name_le (b ∷ src) = by (begins_label b)
  where
    by : (t : Bool) → cond t (1 + prefix_len is_in_label src) 0 ≤ length (b ∷ src)
    by true = let h = prefix_len-le-length is_in_label src in omega arith
    by false = omega arith

pub name_stands : (src : List ℕ) → IsName (take (name_len src) src) (drop (name_len src) src)
unfolding name_len
name_stands [] = refl
name_stands (b ∷ src) = by (begins_label b) refl
  where
    by : (t : Bool) → begins_label b ≡ t → IsName (take (cond t (1 + prefix_len is_in_label src) 0) (b ∷ src)) (drop (cond t (1 + prefix_len is_in_label src) 0) (b ∷ src))
    by true is = let k : 1 + prefix_len is_in_label src ≡ suc (prefix_len is_in_label src) = omega arith in rw k (is, row_all is_in_label src, row_then is_in_label src)
    by false is = is

-- ---- what the definitions have is read

-- with another length
same_len : (t : ActionToken) (m n : ℕ) → m ≡ n → Some (token t m) ≡ Some (token t n)
same_len t m n e = ap (λ (k : ℕ). Some (token t k)) e

quoted_len : (quote : ℕ) (inner : List ℕ) → length inner + 2 ≡ length (quote ∷ (inner ++ quote ∷ []))
quoted_len quote inner = let l = length-append inner (quote ∷ []) in omega arith

comment_length : (inner : List ℕ) → length inner + 4 ≡ length (47 ∷ 42 ∷ (inner ++ 42 ∷ 47 ∷ []))
comment_length inner = let l = length-append inner (42 ∷ 47 ∷ []) in omega arith

no_backslash : (quote : ℕ) → beginning quote ≡ begins.Quote → quote ≢ 92
unfolding beginning sign_begins begins_label is_letter is_digit
no_backslash quote e f = let g : beginning 92 ≡ begins.Quote = ap beginning (sym f) ∙ e in cc

letter_begins : (b : ℕ) → begins_label b ≡ true → beginning b ≡ begins.Letter
unfolding beginning
letter_begins b h = rw h refl

string_is : (quote : ℕ) (inner rest : List ℕ) → quote ≢ 92 → IsActionStringInner quote inner → string_front quote ((inner ++ quote ∷ []) ++ rest) ≡ Some (token tokens.Plain (length (quote ∷ (inner ++ quote ∷ []))))
unfolding string_front
string_is quote inner rest n h = rw (append_assoc inner (quote ∷ []) rest, string_read quote inner rest n h) (same_len tokens.Plain _ _ (quoted_len quote inner))

raw_is : (inner rest : List ℕ) → Each is_no_back_quote inner → raw_front ((inner ++ 96 ∷ []) ++ rest) ≡ Some (token tokens.Plain (length (96 ∷ (inner ++ 96 ∷ []))))
unfolding raw_front
raw_is inner rest h =
    let e : prefix_len is_no_back_quote (inner ++ 96 ∷ rest) ≡ length inner = row_is is_no_back_quote inner (96 ∷ rest) h refl in
    let l = length-append inner (96 ∷ rest) in
    let lt : length inner < length (inner ++ 96 ∷ rest) = omega arith in
    rw (append_assoc inner (96 ∷ []) rest, e, lt-ltb (length inner) (length (inner ++ 96 ∷ rest)) lt) (same_len tokens.Plain _ _ (quoted_len 96 inner))

word_is : (text rest : List ℕ) → IsName text rest → word_front (text ++ rest) ≡ token (tokens.Word (word_of text)) (length text)
unfolding word_front
word_is text rest h = rw (name_read text rest h, take_same (length text) text rest refl) refl

variable_is : (name rest : List ℕ) → IsName name rest → Some (variable_front (name ++ rest)) ≡ Some (token (tokens.Variable (variable_of name)) (length (36 ∷ name)))
unfolding variable_front
variable_is name rest h = rw (name_read name rest h, take_same (length name) name rest refl) (same_len _ _ _ (omega arith))

field_is : (name rest : List ℕ) → IsName name rest → Some (field_front (name ++ rest)) ≡ Some (token (field_of name) (length (46 ∷ name)))
unfolding field_front
field_is name rest h = rw (name_read name rest h, take_same (length name) name rest refl) (same_len _ _ _ (omega arith))

number_is : (d : ℕ) (more rest : List ℕ) → Each is_in_number more → Stops is_in_number rest → Some (number_front (more ++ rest)) ≡ Some (token tokens.Plain (length (d ∷ more)))
unfolding number_front
number_is d more rest h s = rw (row_is is_in_number more rest h s) (same_len _ _ _ (omega arith))

comment_is : (place : TokenContext) (inner rest : List ℕ) → takes_comment place ≡ true → FreeOf ends_comment inner (42 ∷ 47 ∷ rest) → slash_front place (42 ∷ ((inner ++ 42 ∷ 47 ∷ []) ++ rest)) ≡ Some (token tokens.Comment (length (47 ∷ 42 ∷ (inner ++ 42 ∷ 47 ∷ []))))
unfolding slash_front
comment_is place inner rest t h = rw (t, append_assoc inner (42 ∷ 47 ∷ []) rest, comment_read inner rest h) (same_len tokens.Comment _ _ (comment_length inner))

pub token_read : (place : TokenContext) (t : ActionToken) (text rest : List ℕ) → IsActionToken place t text rest → front place (text ++ rest) ≡ Some (token t (length text))
unfolding beginning sign_begins begins_label is_letter is_digit colon_front slash_front minus_front
token_read place t text rest (one_byte b e k) = rw (e, k) refl
token_read place t text rest (in_quotes quote inner e k h u) = rw (e, k, u) (string_is quote inner rest (no_backslash quote k) h)
token_read place t text rest (in_back_quotes inner e h u) = rw (e, u) (raw_is inner rest h)
token_read place t text rest (a_word b more e h u) = rw (e, u, letter_begins b h.0) (ap (λ (l : Lexeme). Some l) (word_is (b ∷ more) rest h))
token_read place t text rest (a_variable name e h u) = rw (e, u) (variable_is name rest h)
token_read place t text rest (a_field name e h u) = rw (e, u) (field_is name rest h)
token_read place t text rest (a_number digit more e k h s u) = rw (e, k, u) (number_is digit more rest h s)
token_read place t text rest (declares e u) = rw (e, u) refl
token_read place t text rest (a_colon e s u) = rw (e, u, s) refl
token_read place t text rest (a_comment inner e p h u) = rw (e, u) (comment_is place inner rest p h)
token_read place t text rest (a_slash e s u) = rw (e, u, s) refl
token_read place t text rest (a_minus e u) = rw (e, u) refl

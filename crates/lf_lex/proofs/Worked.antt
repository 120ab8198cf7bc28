-- Worked texts: what the definitions say of them, by their own constructors. That a row, a run or a sign goes no further is told by a lemma.
use Rattle.std.proofs.Common.{◌≡◌, ℕ, ◌<◌, Bool, true, false, eqb, List, [], ◌∷◌, take, drop, Some, refl, ap, arith, inl, inr}
use Prim.Native.String.{String}
use Rattle.std.specs.Prelude.{codes}
use Rattle.std.proofs.lemmas.Bool.{false≢true, eqb-false}
use Rattle.std.specs.List.{prefix_len}
use Rattle.std.specs.Str.{IsUtf8, is_utf8, chars}
use lib.Utf8.{encode}
use Rattle.std.specs.Str.Lossy.{utf8_valid_len}
use Rattle.lf_base.specs.declared.kind.Kind.TheVariants.{BadByte, OpenString, BadEscape, BadNumber, BadDuration}
use Rattle.lf_lex.specs.declared.token.Sign.{Sign}
use Rattle.lf_lex.specs.declared.token.Sign.TheVariants as signs
use Rattle.lf_lex.specs.declared.token.Token.{Token}
use Rattle.lf_lex.specs.declared.token.TokenKind.{TokenKind}
use Rattle.lf_lex.specs.declared.token.TokenKind.TheVariants as kinds
use Rattle.lf_lex.specs.Bytes.{is_dot, is_exponent, is_plus_minus, is_in_run, is_in_mantissa, is_blank, is_octal, begins_word, is_in_word, is_line_break}
use Rattle.lf_base.specs.Names.{is_letter, is_digit, is_hexadecimal, begins_label, hexadecimal_value}
use Rattle.lf_lex.specs.Signs.{spelling}
use Rattle.lf_lex.specs.Runs.{begins_run, IsRun, IsNumberRun, lower_x, no_dot, one_dot, no_exponent, unsigned_exponent, signed_exponent, hexadecimal_number, decimal_number}
use Rattle.lf_lex.specs.Durations.{Hours, Minutes, Seconds, Amount, AreAmounts, IsDuration, IsDisordered}
use Rattle.lf_lex.specs.Strings.{IsString, in_quotes, in_back_quotes, One, Pair, IsStringRaw, Escape, Bare, byte_of_letter, hexadecimal_byte}
use Rattle.lf_lex.specs.Lexemes.{IsLongest, IsWord, IsSomeSign, Blank, Comment, Written, IsLexeme}
use Rattle.lf_lex.specs.Breaches.{BeginsNothing, in_quotes as open_quotes, line_ends, BeginsNoEscape, no_escape, no_utf8}
use Rattle.lf_lex.specs.Tokens.{Tokens, Breaks}
use Rattle.lf_lex.specs.reading.Strings.{escape, octal_byte}
use Rattle.lf_lex.specs.reading.Runs.{run_len, is_number, is_hexadecimal_number, is_decimal_number, is_mantissa, is_exponent_part, units, place_of_letter}
use Rattle.lf_lex.specs.reading.Signs.{sign_at, sign_of_one, sign_of_two}
use Rattle.lf_lex.proofs.Longest.{greatest_longest}
use Rattle.lf_lex.proofs.Words.{word_greatest}
use Rattle.lf_lex.proofs.RunLaws.{run_greatest}
use Rattle.lf_lex.proofs.SignLaws.{sign_is_at}
use Rattle.lf_lex.proofs.NumberLaws.{number_read}
use Rattle.lf_lex.proofs.DurationLaws.{no_amounts}
use Rattle.lf_lex.proofs.LexemeFronts.{begins_nothing}
use Rattle.lf_lex.proofs.StringFronts.{read_wrong}
use Rattle.lf_lex.proofs.Utf8Fronts.{utf8_greatest}
use Rattle.lf_lex.proofs.Heads.{first}

-- ---- how far rows go

word_ends : (inside : Bool) (b : ℕ) (src : List ℕ) → begins_word inside b ≡ true → let n = prefix_len (is_in_word inside) (b ∷ src) in IsLongest (IsWord inside) (take n (b ∷ src)) (drop n (b ∷ src))
word_ends inside b src h = greatest_longest (IsWord inside) (b ∷ src) (prefix_len (is_in_word inside) (b ∷ src)) (word_greatest inside b src h)

run_ends : (src : List ℕ) → begins_run src ≡ true → IsLongest IsRun (take (run_len src) src) (drop (run_len src) src)
run_ends src h = greatest_longest IsRun src (run_len src) (run_greatest src h)

sign_ends : (inside : Bool) (src : List ℕ) (s : Sign) (n : ℕ) → sign_at src ≡ Some (s, n) → (s ≡ signs.Colon → inside ≡ true) → IsLongest (IsSomeSign inside) (take n src) (drop n src)
sign_ends inside src s n h c =
    let a = sign_is_at src s n h in
    greatest_longest (IsSomeSign inside) src n (record { within = a.within; is = (s, (a.is, c)); bound = λ text left f k. a.bound text left k.0 f k.1.0 })

no_colon : (inside : Bool) (s : Sign) → eqb (first (spelling s)) 58 ≡ false → s ≡ signs.Colon → inside ≡ true
no_colon inside s n e = absurd (eqb-false (first (spelling s)) 58 n (ap (λ (x : Sign). first (spelling x)) e))

abbrev at : TokenKind → ℕ → ℕ → Token
at kind start end = record { kind = kind; span = record { start = start; end = end } }

abbrev word : String → ℕ → ℕ → Token
word text start end = at (kinds.Word (codes text)) start end

abbrev sign : Sign → ℕ → ℕ → Token
sign s start end = at (kinds.Sign s) start end

abbrev duration : String → ℕ → ℕ → Token
duration text start end = at (kinds.Duration (codes text)) start end

-- ---- foo[5m], ten bytes into its source

foo_longest : IsLongest (IsWord false) (codes "foo") (codes "[5m]")
unfolding is_in_word begins_word begins_label is_letter is_digit
foo_longest = word_ends false 102 (codes "oo[5m]") refl

bracket_longest : IsLongest (IsSomeSign false) (codes "[") (codes "5m]")
unfolding sign_at sign_of_one sign_of_two
bracket_longest = sign_ends false (codes "[5m]") signs.OpenBracket 1 refl (no_colon false signs.OpenBracket refl)

minutes_longest : IsLongest IsRun (codes "5m") (codes "]")
unfolding run_len is_in_mantissa is_digit is_dot is_in_run is_letter is_exponent
minutes_longest = run_ends (codes "5m]") refl

close_longest : IsLongest (IsSomeSign true) (codes "]") []
unfolding sign_at sign_of_one sign_of_two
close_longest = sign_ends true (codes "]") signs.CloseBracket 1 refl (no_colon true signs.CloseBracket refl)

five_minutes : IsDuration (codes "5m")
unfolding is_digit
five_minutes = (record { digits = codes "5"; measure = Minutes } ∷ [], record { some = omega arith; each = (refl, tt); source = refl }, tt)

foo_range : Tokens (10 ∷ 11 ∷ 12 ∷ 13 ∷ 14 ∷ 15 ∷ 16 ∷ 17 ∷ []) (codes "foo[5m]") (word "foo" 10 13 ∷ sign signs.OpenBracket 13 14 ∷ duration "5m" 14 16 ∷ sign signs.CloseBracket 16 17 ∷ [])
foo_range = record {
  lexemes = Written (kinds.Word (codes "foo")) (codes "foo") ∷ Written (kinds.Sign signs.OpenBracket) (codes "[") ∷ Written (kinds.Duration (codes "5m")) (codes "5m") ∷ Written (kinds.Sign signs.CloseBracket) (codes "]") ∷ [];
  source = refl;
  are_lexemes = ((refl, foo_longest), (((refl, no_colon false signs.OpenBracket refl), bracket_longest), ((refl, minutes_longest, five_minutes), (((refl, no_colon true signs.CloseBracket refl), close_longest), tt))));
  tokens_are = refl;
}

-- ---- [a:b] and a:b

open_first : IsLongest (IsSomeSign false) (codes "[") (codes "a:b]")
unfolding sign_at sign_of_one sign_of_two
open_first = sign_ends false (codes "[a:b]") signs.OpenBracket 1 refl (no_colon false signs.OpenBracket refl)

a_inside : IsLongest (IsWord true) (codes "a") (codes ":b]")
unfolding is_in_word begins_word begins_label is_letter is_digit
a_inside = word_ends true 97 (codes ":b]") refl

colon_inside : IsLongest (IsSomeSign true) (codes ":") (codes "b]")
unfolding sign_at sign_of_one sign_of_two
colon_inside = sign_ends true (codes ":b]") signs.Colon 1 refl (λ e. refl)

b_inside : IsLongest (IsWord true) (codes "b") (codes "]")
unfolding is_in_word begins_word begins_label is_letter is_digit
b_inside = word_ends true 98 (codes "]") refl

in_brackets : Tokens (0 ∷ 1 ∷ 2 ∷ 3 ∷ 4 ∷ 5 ∷ []) (codes "[a:b]") (sign signs.OpenBracket 0 1 ∷ word "a" 1 2 ∷ sign signs.Colon 2 3 ∷ word "b" 3 4 ∷ sign signs.CloseBracket 4 5 ∷ [])
in_brackets = record {
  lexemes = Written (kinds.Sign signs.OpenBracket) (codes "[") ∷ Written (kinds.Word (codes "a")) (codes "a") ∷ Written (kinds.Sign signs.Colon) (codes ":") ∷ Written (kinds.Word (codes "b")) (codes "b") ∷ Written (kinds.Sign signs.CloseBracket) (codes "]") ∷ [];
  source = refl;
  are_lexemes = (((refl, no_colon false signs.OpenBracket refl), open_first), ((refl, a_inside), (((refl, λ e. refl), colon_inside), ((refl, b_inside), (((refl, no_colon true signs.CloseBracket refl), close_longest), tt)))));
  tokens_are = refl;
}

a_b_longest : IsLongest (IsWord false) (codes "a:b") []
unfolding is_in_word begins_word begins_label is_letter is_digit
a_b_longest = word_ends false 97 (codes ":b") refl

outside_brackets : Tokens (0 ∷ 1 ∷ 2 ∷ 3 ∷ []) (codes "a:b") (word "a:b" 0 3 ∷ [])
outside_brackets = record {
  lexemes = Written (kinds.Word (codes "a:b")) (codes "a:b") ∷ [];
  source = refl;
  are_lexemes = ((refl, a_b_longest), tt);
  tokens_are = refl;
}

-- ---- a:b[5m:30s]

a_b_range : IsLongest (IsWord false) (codes "a:b") (codes "[5m:30s]")
unfolding is_in_word begins_word begins_label is_letter is_digit
a_b_range = word_ends false 97 (codes ":b[5m:30s]") refl

range_opens : IsLongest (IsSomeSign false) (codes "[") (codes "5m:30s]")
unfolding sign_at sign_of_one sign_of_two
range_opens = sign_ends false (codes "[5m:30s]") signs.OpenBracket 1 refl (no_colon false signs.OpenBracket refl)

range_run : IsLongest IsRun (codes "5m") (codes ":30s]")
unfolding run_len is_in_mantissa is_digit is_dot is_in_run is_letter is_exponent
range_run = run_ends (codes "5m:30s]") refl

range_colon : IsLongest (IsSomeSign true) (codes ":") (codes "30s]")
unfolding sign_at sign_of_one sign_of_two
range_colon = sign_ends true (codes ":30s]") signs.Colon 1 refl (λ e. refl)

step_run : IsLongest IsRun (codes "30s") (codes "]")
unfolding run_len is_in_mantissa is_digit is_dot is_in_run is_letter is_exponent
step_run = run_ends (codes "30s]") refl

thirty_seconds : IsDuration (codes "30s")
unfolding is_digit
thirty_seconds = (record { digits = codes "30"; measure = Seconds } ∷ [], record { some = omega arith; each = (refl, tt); source = refl }, tt)

subquery : Tokens (0 ∷ 1 ∷ 2 ∷ 3 ∷ 4 ∷ 5 ∷ 6 ∷ 7 ∷ 8 ∷ 9 ∷ 10 ∷ 11 ∷ []) (codes "a:b[5m:30s]") (word "a:b" 0 3 ∷ sign signs.OpenBracket 3 4 ∷ duration "5m" 4 6 ∷ sign signs.Colon 6 7 ∷ duration "30s" 7 10 ∷ sign signs.CloseBracket 10 11 ∷ [])
subquery = record {
  lexemes = Written (kinds.Word (codes "a:b")) (codes "a:b") ∷ Written (kinds.Sign signs.OpenBracket) (codes "[") ∷ Written (kinds.Duration (codes "5m")) (codes "5m") ∷ Written (kinds.Sign signs.Colon) (codes ":") ∷ Written (kinds.Duration (codes "30s")) (codes "30s") ∷ Written (kinds.Sign signs.CloseBracket) (codes "]") ∷ [];
  source = refl;
  are_lexemes = ((refl, a_b_range), (((refl, no_colon false signs.OpenBracket refl), range_opens), ((refl, range_run, five_minutes), (((refl, λ e. refl), range_colon), ((refl, step_run, thirty_seconds), (((refl, no_colon true signs.CloseBracket refl), close_longest), tt))))));
  tokens_are = refl;
}

-- ---- durations: 1h5m, and 5m1h, which is none

one_hour_five : IsDuration (codes "1h5m")
unfolding is_digit
one_hour_five = (record { digits = codes "1"; measure = Hours } ∷ record { digits = codes "5"; measure = Minutes } ∷ [], record { some = omega arith; each = (refl, (refl, tt)); source = refl }, (omega arith, tt))

disordered_run : IsLongest IsRun (codes "5m1h") []
unfolding run_len is_in_mantissa is_digit is_dot is_in_run is_letter is_exponent
disordered_run = run_ends (codes "5m1h") refl

disordered : IsDisordered (codes "5m1h")
unfolding is_digit
disordered = (record { digits = codes "5"; measure = Minutes } ∷ record { digits = codes "1"; measure = Hours } ∷ [], record { some = omega arith; each = (refl, (refl, tt)); source = refl }, λ climb. let lt : 4 < 3 = climb.0 in absurd (omega arith))

five_minutes_one_hour : Breaks (0 ∷ 1 ∷ 2 ∷ 3 ∷ 4 ∷ []) (codes "5m1h") (record { kind = BadDuration; span = record { start = 0; end = 4 } })
five_minutes_one_hour = record {
  lexemes = [];
  rest = codes "5m1h";
  source = refl;
  are_lexemes = tt;
  start = 0;
  end = 4;
  breach = (refl, (codes "5m1h", record { rest = []; source = refl; longest = disordered_run }, refl, disordered));
  span_is = refl;
}

-- ---- numbers: 1e5, 1e+5, 0x1F, .5, 5.

number_1e5 : IsNumberRun (codes "1e5")
unfolding is_digit is_exponent
number_1e5 = decimal_number (codes "1") (codes "e5") refl (no_dot refl) (unsigned_exponent 101 (codes "5") refl refl refl)

number_1e_plus_5 : IsNumberRun (codes "1e+5")
unfolding is_digit is_exponent is_plus_minus
number_1e_plus_5 = decimal_number (codes "1") (codes "e+5") refl (no_dot refl) (signed_exponent 101 43 (codes "5") refl refl refl refl)

number_hexadecimal : IsNumberRun (codes "0x1F")
unfolding is_hexadecimal is_digit
number_hexadecimal = hexadecimal_number (lower_x (codes "1F") refl refl)

number_point_5 : IsNumberRun (codes ".5")
unfolding is_digit
number_point_5 = decimal_number (codes ".5") [] refl (one_dot [] (codes "5") refl refl refl (omega arith)) (no_exponent refl)

number_5_point : IsNumberRun (codes "5.")
unfolding is_digit
number_5_point = decimal_number (codes "5.") [] refl (one_dot (codes "5") [] refl refl refl (omega arith)) (no_exponent refl)

-- ---- runs that are neither: 1..2 and 1e+5m

two_dots_run : IsLongest IsRun (codes "1..2") []
unfolding run_len is_in_mantissa is_digit is_dot is_in_run is_letter is_exponent
two_dots_run = run_ends (codes "1..2") refl

two_dots_no_number : IsNumberRun (codes "1..2") → ⊥
unfolding is_number is_hexadecimal_number is_decimal_number is_mantissa is_exponent_part is_in_mantissa is_digit is_dot is_exponent
two_dots_no_number h = false≢true (number_read (codes "1..2") h)

two_dots_no_amounts : (amounts : List Amount) → AreAmounts (codes "1..2") amounts → ⊥
unfolding units is_digit place_of_letter
two_dots_no_amounts amounts a = no_amounts (codes "1..2") amounts refl a

two_dots : Breaks (0 ∷ 1 ∷ 2 ∷ 3 ∷ 4 ∷ []) (codes "1..2") (record { kind = BadNumber; span = record { start = 0; end = 4 } })
two_dots = record {
  lexemes = [];
  rest = codes "1..2";
  source = refl;
  are_lexemes = tt;
  start = 0;
  end = 4;
  breach = (refl, (codes "1..2", record { rest = []; source = refl; longest = two_dots_run }, refl, two_dots_no_number, two_dots_no_amounts));
  span_is = refl;
}

signed_run : IsLongest IsRun (codes "1e+5m") []
unfolding run_len is_in_mantissa is_digit is_dot is_in_run is_letter is_exponent is_plus_minus
signed_run = run_ends (codes "1e+5m") refl

signed_no_number : IsNumberRun (codes "1e+5m") → ⊥
unfolding is_number is_hexadecimal_number is_decimal_number is_mantissa is_exponent_part is_in_mantissa is_digit is_dot is_exponent is_plus_minus
signed_no_number h = false≢true (number_read (codes "1e+5m") h)

signed_no_amounts : (amounts : List Amount) → AreAmounts (codes "1e+5m") amounts → ⊥
unfolding units is_digit place_of_letter
signed_no_amounts amounts a = no_amounts (codes "1e+5m") amounts refl a

a_unit_behind_an_exponent : Breaks (0 ∷ 1 ∷ 2 ∷ 3 ∷ 4 ∷ 5 ∷ []) (codes "1e+5m") (record { kind = BadNumber; span = record { start = 0; end = 5 } })
a_unit_behind_an_exponent = record {
  lexemes = [];
  rest = codes "1e+5m";
  source = refl;
  are_lexemes = tt;
  start = 0;
  end = 5;
  breach = (refl, (codes "1e+5m", record { rest = []; source = refl; longest = signed_run }, refl, signed_no_number, signed_no_amounts));
  span_is = refl;
}

-- ---- a=~b= c # d

a_matches : IsLongest (IsWord false) (codes "a") (codes "=~b= c # d")
unfolding is_in_word begins_word begins_label is_letter is_digit
a_matches = word_ends false 97 (codes "=~b= c # d") refl

matches_longest : IsLongest (IsSomeSign false) (codes "=~") (codes "b= c # d")
unfolding sign_at sign_of_one sign_of_two
matches_longest = sign_ends false (codes "=~b= c # d") signs.Matches 2 refl (no_colon false signs.Matches refl)

b_longest : IsLongest (IsWord false) (codes "b") (codes "= c # d")
unfolding is_in_word begins_word begins_label is_letter is_digit
b_longest = word_ends false 98 (codes "= c # d") refl

is_longest : IsLongest (IsSomeSign false) (codes "=") (codes " c # d")
unfolding sign_at sign_of_one sign_of_two
is_longest = sign_ends false (codes "= c # d") signs.Is 1 refl (no_colon false signs.Is refl)

c_longest : IsLongest (IsWord false) (codes "c") (codes " # d")
unfolding is_in_word begins_word begins_label is_letter is_digit
c_longest = word_ends false 99 (codes " # d") refl

two_signs : Tokens (0 ∷ 1 ∷ 2 ∷ 3 ∷ 4 ∷ 5 ∷ 6 ∷ 7 ∷ 8 ∷ 9 ∷ 10 ∷ 11 ∷ []) (codes "a=~b= c # d") (word "a" 0 1 ∷ sign signs.Matches 1 3 ∷ word "b" 3 4 ∷ sign signs.Is 4 5 ∷ word "c" 6 7 ∷ [])
unfolding is_blank is_line_break
two_signs = record {
  lexemes = Written (kinds.Word (codes "a")) (codes "a") ∷ Written (kinds.Sign signs.Matches) (codes "=~") ∷ Written (kinds.Word (codes "b")) (codes "b") ∷ Written (kinds.Sign signs.Is) (codes "=") ∷ Blank 32 ∷ Written (kinds.Word (codes "c")) (codes "c") ∷ Blank 32 ∷ Comment (codes " d") ∷ [];
  source = refl;
  are_lexemes = ((refl, a_matches), (((refl, no_colon false signs.Matches refl), matches_longest), ((refl, b_longest), (((refl, no_colon false signs.Is refl), is_longest), (refl, ((refl, c_longest), (refl, ((refl, tt), tt))))))));
  tokens_are = refl;
}

-- a comment ends at a carriage return too
return_ends : IsLexeme false (Comment (codes " b")) (13 ∷ codes "+ c")
unfolding is_line_break
return_ends = (refl, refl)

-- ---- strings

-- `a\n`, in back quotes, is an a, a backslash and an n
back_quotes : IsString (codes "`a\\n`") (codes "a\\n")
back_quotes = in_back_quotes refl refl

not_feed : (b : ℕ) → eqb b 10 ≡ false → IsStringRaw 34 (Pair b)
not_feed b e = eqb-false b 10 e

bare : (b : ℕ) → eqb b 34 ≡ false → eqb b 10 ≡ false → eqb b 92 ≡ false → IsStringRaw 34 (One b)
bare b e f g = (eqb-false b 34 e, eqb-false b 10 f, eqb-false b 92 g)

-- "\xc3\xa9" is the character U+00E9
two_bytes : IsString (codes "\"\\xc3\\xa9\"") (195 ∷ 169 ∷ [])
unfolding hexadecimal_value encode
two_bytes = in_quotes 34 (codes "\\xc3\\xa9") (inl refl) refl
    (record { raws = Pair 120 ∷ One 99 ∷ One 51 ∷ Pair 120 ∷ One 97 ∷ One 57 ∷ []; each = (not_feed 120 refl, (bare 99 refl refl refl, (bare 51 refl refl refl, (not_feed 120 refl, (bare 97 refl refl refl, (bare 57 refl refl refl, tt)))))); source = refl })
    (record {
      pieces = Escape (codes "xc3") (195 ∷ []) ∷ Escape (codes "xa9") (169 ∷ []) ∷ [];
      each = (hexadecimal_byte (codes "c3") 195 refl refl (12, refl, (3, refl, refl)) refl, (hexadecimal_byte (codes "a9") 169 refl refl (10, refl, (9, refl, refl)) refl, tt));
      source = refl;
      value_is = refl;
    })
    (233 ∷ [], (refl, refl))

-- "a ends before its quote closes
open_string : Breaks (0 ∷ 1 ∷ 2 ∷ []) (codes "\"a") (record { kind = OpenString; span = record { start = 0; end = 1 } })
open_string = record {
  lexemes = [];
  rest = codes "\"a";
  source = refl;
  are_lexemes = tt;
  start = 0;
  end = 1;
  breach = (refl, refl, open_quotes 34 (One 97 ∷ []) [] (inl refl) refl (bare 97 refl refl refl, tt) (line_ends tt));
  span_is = refl;
}

-- "a\400": no escape begins with that backslash, since 400 in octal is no byte
no_byte : BeginsNoEscape 34 (codes "\\400")
unfolding escape octal_byte is_octal is_digit
no_byte = read_wrong 34 (inl refl) (codes "\\400") (codes "400", refl, refl)

past_377 : Breaks (0 ∷ 1 ∷ 2 ∷ 3 ∷ 4 ∷ 5 ∷ 6 ∷ 7 ∷ []) (codes "\"a\\400\"") (record { kind = BadEscape; span = record { start = 2; end = 3 } })
unfolding encode
past_377 = record {
  lexemes = [];
  rest = codes "\"a\\400\"";
  source = refl;
  are_lexemes = tt;
  start = 2;
  end = 3;
  breach = (
    refl,
    record {
      quote = 34;
      inner = codes "a\\400";
      rest = [];
      is_quote = inl refl;
      source = refl;
      closes = record { raws = One 97 ∷ Pair 52 ∷ One 48 ∷ One 48 ∷ []; each = (bare 97 refl refl refl, (not_feed 52 refl, (bare 48 refl refl refl, (bare 48 refl refl refl, tt)))); source = refl };
      between = 1;
      wrong = no_escape (Bare 97 ∷ []) (codes "\\400") (record { each = (eqb-false 97 92 refl, tt); source = refl; stops = inr no_byte }) no_byte (97 ∷ [], (refl, refl)) refl;
      place_is = refl;
    },
  );
  span_is = refl;
}

-- "\xc3b\q": the first escape gives a byte with which no character goes on, and that comes before the wrong escape behind it
no_q : BeginsNoEscape 34 (codes "\\q")
unfolding escape byte_of_letter is_digit
no_q = read_wrong 34 (inl refl) (codes "\\q") (codes "q", refl, refl)

no_character : IsLongest IsUtf8 [] (195 ∷ 98 ∷ [])
unfolding utf8_valid_len is_utf8 chars encode
no_character = greatest_longest IsUtf8 (195 ∷ 98 ∷ []) (utf8_valid_len (195 ∷ 98 ∷ [])) (utf8_greatest (195 ∷ 98 ∷ []))

ill_formed_first : Breaks (0 ∷ 1 ∷ 2 ∷ 3 ∷ 4 ∷ 5 ∷ 6 ∷ 7 ∷ 8 ∷ 9 ∷ []) (codes "\"\\xc3b\\q\"") (record { kind = BadEscape; span = record { start = 1; end = 2 } })
unfolding hexadecimal_value
ill_formed_first = record {
  lexemes = [];
  rest = codes "\"\\xc3b\\q\"";
  source = refl;
  are_lexemes = tt;
  start = 1;
  end = 2;
  breach = (
    refl,
    record {
      quote = 34;
      inner = codes "\\xc3b\\q";
      rest = [];
      is_quote = inl refl;
      source = refl;
      closes = record { raws = Pair 120 ∷ One 99 ∷ One 51 ∷ One 98 ∷ Pair 113 ∷ []; each = (not_feed 120 refl, (bare 99 refl refl refl, (bare 51 refl refl refl, (bare 98 refl refl refl, (not_feed 113 refl, tt))))); source = refl };
      between = 0;
      wrong = no_utf8 [] (Escape (codes "xc3") (195 ∷ [])) (Bare 98 ∷ []) (codes "\\q") [] 195 []
          (record { each = (hexadecimal_byte (codes "c3") 195 refl refl (12, refl, (3, refl, refl)) refl, (eqb-false 98 92 refl, tt)); source = refl; stops = inr no_q })
          refl no_character refl;
      place_is = refl;
    },
  );
  span_is = refl;
}

-- ---- a ! b: the sign of inequality without its second half begins nothing

a_longest : IsLongest (IsWord false) (codes "a") (codes " !")
unfolding is_in_word begins_word begins_label is_letter is_digit
a_longest = word_ends false 97 (codes " !") refl

lone_mark : BeginsNothing false (codes "!") 1
unfolding is_blank begins_word begins_label is_letter is_digit is_dot sign_at sign_of_one sign_of_two
lone_mark = begins_nothing false 33 [] refl (eqb-false 33 35 refl) refl refl (eqb-false 33 34 refl) (eqb-false 33 39 refl) (eqb-false 33 96 refl) refl

unknown_character : Breaks (0 ∷ 1 ∷ 2 ∷ 3 ∷ []) (codes "a !") (record { kind = BadByte; span = record { start = 2; end = 3 } })
unfolding is_blank
unknown_character = record {
  lexemes = Written (kinds.Word (codes "a")) (codes "a") ∷ Blank 32 ∷ [];
  rest = codes "!";
  source = refl;
  are_lexemes = ((refl, a_longest), (refl, tt));
  start = 0;
  end = 1;
  breach = (refl, lone_mark);
  span_is = refl;
}

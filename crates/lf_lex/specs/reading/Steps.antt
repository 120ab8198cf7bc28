-- A way of reading what stands at the front of a text, which defines nothing: a token, something between tokens, or a breach.
use Rattle.std.specs.Prelude.{ℕ, ◌+◌, List, length, take, drop, slice_index, Bool, true, false, not, ◌==◌, ◌||◌, nat_lt, Option, Some, None, Result, Ok, Err, if◌then◌else◌}
use Rattle.std.specs.List.{prefix_len}
use Rattle.std.specs.Str.{is_utf8}
use Rattle.std.specs.Str.Lossy.{utf8_valid_len}
use Rattle.lf_base.specs.declared.kind.Kind.{Kind}
use Rattle.lf_base.specs.declared.kind.Kind.TheVariants.{BadByte, OpenString, BadEscape, BadNumber, BadDuration}
use Rattle.lf_lex.specs.declared.token.Sign.{Sign}
use Rattle.lf_lex.specs.declared.token.TokenKind.{TokenKind}
use Rattle.lf_lex.specs.declared.token.TokenKind.TheVariants as kinds
use Rattle.lf_lex.specs.Bytes.{is_blank, is_line_break, begins_word, is_in_word, is_continuation}
use Rattle.lf_lex.specs.reading.Runs.{run_len, is_number, duration_order}
use Rattle.lf_lex.specs.Runs.{begins_run}
use Rattle.lf_lex.specs.reading.Strings.{gives, bytes_of, places_of}
use Rattle.lf_lex.specs.reading.Signs.{sign_at}
use Rattle.lf_lex.specs.Tokens.{in_source}
use Rattle.lf_base.specs.declared.fault.Fault.{Fault}
use Rattle.lf_base.specs.Faults.{fault}
use Rattle.lf_base.specs.reading.Closing.{closing}

abbrev pub breach : {X : Type 0} → List ℕ → Kind → ℕ → ℕ → Result X Fault
breach from kind start end = Err (fault kind (in_source from start end))

-- a token, or none for what stands between tokens, and how many bytes it has
abbrev pub Front : Type 0
Front = Option TokenKind × ℕ

abbrev pub gap : ℕ → Result Front Fault
gap n = Ok (None, n)

abbrev pub token : TokenKind → ℕ → Result Front Fault
token kind n = Ok (Some kind, n)

-- a comment: all up to a line feed or a carriage return
unfoldable pub comment_front : List ℕ → Result Front Fault
comment_front src = gap (prefix_len (λ b. not (is_line_break b)) src)

-- a word: the longest row of its bytes
unfoldable pub word_front : Bool → List ℕ → Result Front Fault
word_front inside src = let n = prefix_len (is_in_word inside) src in token (kinds.Word (take n src)) n

-- a run: a number, a duration, or neither
abbrev pub run_is : List ℕ → ℕ → List ℕ → ℕ → Bool → Option Bool → Result Front Fault
run_is from at run n true order = token (kinds.Number run) n
run_is from at run n false (Some true) = token (kinds.Duration run) n
run_is from at run n false (Some false) = breach from BadDuration at (at + n)
run_is from at run n false None = breach from BadNumber at (at + n)

unfoldable pub run_front : List ℕ → ℕ → List ℕ → Result Front Fault
run_front from at src = let n = run_len src in run_is from at (take n src) n (is_number (take n src)) (duration_order (take n src))

-- a string with escapes: its value is UTF-8, or the byte with which it ceases to be that is a breach at what gave it
unfoldable pub value_front : List ℕ → ℕ → ℕ → List ℕ → Result Front Fault
value_front from at quote inner =
    let all = gives quote 0 0 inner in
    if is_utf8 (bytes_of all) then token (kinds.Str (bytes_of all)) (length inner + 2) else let wrong = at + 1 + slice_index (places_of all) (utf8_valid_len (bytes_of all)) in breach from BadEscape wrong (wrong + 1)

abbrev pub quoted_is : List ℕ → ℕ → ℕ → List ℕ → Option ℕ → Result Front Fault
quoted_is from at quote src None = breach from OpenString at (at + 1)
quoted_is from at quote src (Some n) = value_front from at quote (take n src)

unfoldable pub quoted_front : List ℕ → ℕ → List ℕ → Result Front Fault
quoted_front from at src = quoted_is from at (slice_index src 0) (drop 1 src) (closing (Some 10) (slice_index src 0) false (drop 1 src))

-- a string in back quotes, which is taken as it stands
unfoldable pub raw_front : List ℕ → ℕ → List ℕ → Result Front Fault
raw_front from at src =
    let n = prefix_len (λ b. not (b == 96)) (drop 1 src) in
    if nat_lt n (length (drop 1 src)) then token (kinds.Str (take n (drop 1 src))) (n + 2) else breach from OpenString at (at + 1)

-- a sign, or a character that begins no token
abbrev pub sign_is : List ℕ → ℕ → List ℕ → Option (Sign × ℕ) → Result Front Fault
sign_is from at src (Some sign) = token (kinds.Sign sign.0) sign.1
sign_is from at src None = breach from BadByte at (at + 1 + prefix_len is_continuation (drop 1 src))

unfoldable pub sign_front : List ℕ → ℕ → List ℕ → Result Front Fault
sign_front from at src = sign_is from at src (sign_at src)

-- What stands at the front of a text that isn't empty, whose first byte is byte `at` of the whole. `inside` says that the last bracket before it is open.
unfoldable pub next_token : List ℕ → Bool → ℕ → List ℕ → Result Front Fault
next_token from inside at src =
    let b = slice_index src 0 in
    if is_blank b then gap 1 else if b == 35 then comment_front src else if begins_word inside b then word_front inside src else if begins_run src then run_front from at src else if b == 34 || b == 39 then quoted_front from at src else if b == 96 then raw_front from at src else sign_front from at src

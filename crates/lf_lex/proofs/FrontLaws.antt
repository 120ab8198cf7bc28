-- What stands at the front of a text is read as it stands, and something stands there.
use Rattle.std.proofs.Common.{◌≡◌, ◌≢◌, ℕ, ◌+◌, ◌<◌, Bool, true, false, eqb, List, [], ◌∷◌, ◌++◌, length, Option, Some, None, Result, Ok, refl, ap, arith, append_assoc, sym, ◌∙◌, subst, ◌⊎◌, inl, inr, length-append}
use Rattle.std.proofs.lemmas.Bool.Decides.{eqb_tells}
use Rattle.lf_base.specs.declared.kind.Kind.{Kind}
use Rattle.lf_base.specs.declared.kind.Kind.TheVariants.{BadByte, OpenString, BadEscape, BadNumber, BadDuration}
use Rattle.lf_lex.specs.declared.token.TokenKind.{TokenKind}
use Rattle.lf_lex.specs.declared.token.TokenKind.TheVariants as kinds
use Rattle.lf_lex.specs.Bytes.{is_blank, begins_word}
use Rattle.lf_lex.specs.Runs.{begins_run}
use Rattle.lf_lex.specs.Strings.{IsString, in_quotes, in_back_quotes}
use Rattle.lf_lex.specs.Lexemes.{IsToken, Lexeme, Blank, Comment, Written, lexeme_text, IsLexeme}
use Rattle.lf_lex.specs.Breaches.{StaysOpen, in_quotes as open_quotes, in_back_quotes as open_back_quotes, IsCharacter, HasWrongEscape, BeginsRun, HasBadNumber, HasBadDuration, IsBreach}
use Rattle.lf_base.specs.declared.fault.Fault.{Fault}
use Rattle.lf_lex.specs.reading.Steps.{Front, breach, token, next_token}
use Rattle.lf_lex.proofs.Dispatch.{front_run}
use Rattle.lf_lex.proofs.RunLaws.{begins_on, some_run}
use Rattle.lf_lex.proofs.RunFronts.{number_front, duration_front, bad_number_front, bad_duration_front, run_stands}
use Rattle.lf_lex.proofs.SignLaws.{some_sign}
use Rattle.lf_lex.proofs.LexemeFronts.{blank_reads, comment_reads, word_reads, sign_reads, raw_reads, open_raw_reads, unknown_reads, blank_stands, comment_stands, word_stands, raw_stands, sign_stands}
use Rattle.lf_lex.proofs.StringFronts.{string_reads, wrong_reads, open_reads}
use Rattle.lf_lex.proofs.StringStands.{quoted_stands}
use Rattle.lf_lex.proofs.Standing.{Standing}

abbrev pub found_of : Lexeme → Option TokenKind
found_of (Written kind text) = Some kind
found_of _ = None

module _ (from : List ℕ) (inside : Bool) (at : ℕ) where
  run_reads : (run rest : List ℕ) → begins_run run ≡ true → next_token from inside at (run ++ rest) ≡ Rattle.lf_lex.specs.reading.Steps.run_front from at (run ++ rest)
  run_reads [] rest begins = absurd (let l = some_run [] begins in omega arith)
  run_reads (b ∷ run) rest begins = front_run from inside at (run ++ rest) b (begins_on (b ∷ run) rest begins)

  string_token : (text value rest : List ℕ) → IsString text value → next_token from inside at (text ++ rest) ≡ token (kinds.Str value) (length text)
  string_token text value rest (in_quotes quote inner q e is_inner h u) =
      let l : length inner + 2 ≡ length text = let a = ap length e in let b = length-append inner (quote ∷ []) in omega arith in
      ap (λ (x : List ℕ). next_token from inside at (x ++ rest)) e ∙ ap (λ (x : List ℕ). next_token from inside at (quote ∷ x)) (append_assoc inner (quote ∷ []) rest) ∙ string_reads quote q from inside at inner rest is_inner value h u ∙ ap (token (kinds.Str value)) l
  string_token text value rest (in_back_quotes e h) =
      let l : length value + 2 ≡ length text = let a = ap length e in let b = length-append value (96 ∷ []) in omega arith in
      ap (λ (x : List ℕ). next_token from inside at (x ++ rest)) e ∙ ap (λ (x : List ℕ). next_token from inside at (96 ∷ x)) (append_assoc value (96 ∷ []) rest) ∙ raw_reads from inside at value rest h ∙ ap (token (kinds.Str value)) l

  token_reads : (kind : TokenKind) (text rest : List ℕ) → IsToken inside kind text rest → next_token from inside at (text ++ rest) ≡ token kind (length text)
  token_reads (kinds.Word word) text rest h = word_reads from inside at text rest h.1 ∙ ap (λ (x : List ℕ). token (kinds.Word x) (length text)) h.0
  token_reads (kinds.Number number) text rest h = run_reads text rest h.1.0.0 ∙ number_front from at text rest h.1 h.2 ∙ ap (λ (x : List ℕ). token (kinds.Number x) (length text)) h.0
  token_reads (kinds.Duration duration) text rest h = run_reads text rest h.1.0.0 ∙ duration_front from at text rest h.1 h.2 ∙ ap (λ (x : List ℕ). token (kinds.Duration x) (length text)) h.0
  token_reads (kinds.Str value) text rest h = string_token text value rest h
  token_reads (kinds.Sign sign) text rest h = sign_reads from inside at sign text rest h.0 h.1

  pub lexeme_reads : (lexeme : Lexeme) (rest : List ℕ) → IsLexeme inside lexeme rest → next_token from inside at (lexeme_text lexeme ++ rest) ≡ Ok (found_of lexeme, length (lexeme_text lexeme))
  lexeme_reads (Blank b) rest h = blank_reads from inside at b rest h
  lexeme_reads (Comment line) rest h = comment_reads from inside at line rest h.0 h.1
  lexeme_reads (Written kind text) rest h = token_reads kind text rest h

  -- ---- breaches

  abbrev Breach : Kind → ℕ → ℕ → Result Front Fault
  Breach kind start end = breach {X = Front} from kind (at + start) (at + end)

  breach_at : (kind : Kind) (end : ℕ) → breach {X = Front} from kind at (at + end) ≡ Breach kind 0 end
  breach_at kind end = let e : at ≡ at + 0 = omega arith in ap (λ (k : ℕ). breach {X = Front} from kind k (at + end)) e

  open_breach : (src : List ℕ) → StaysOpen src → next_token from inside at src ≡ breach {X = Front} from OpenString at (at + 1)
  open_breach src (open_quotes quote raws rest q e each stops) = ap (next_token from inside at) e ∙ open_reads quote q from inside at raws rest each stops
  open_breach src (open_back_quotes rest e h) = ap (next_token from inside at) e ∙ open_raw_reads from inside at rest h

  escape_breach : (src : List ℕ) (place : ℕ) → HasWrongEscape src place → next_token from inside at src ≡ Breach BadEscape place (place + 1)
  escape_breach src place h =
      let start : at + 1 + h.between ≡ at + place = let e = h.place_is in omega arith in
      let end : at + 1 + h.between + 1 ≡ at + (place + 1) = let e = h.place_is in omega arith in
      ap (next_token from inside at) h.source ∙ wrong_reads h.quote h.is_quote from inside at h.inner h.rest h.between h.closes h.wrong
      ∙ ap (λ (k : ℕ). breach {X = Front} from BadEscape k (at + 1 + h.between + 1)) start ∙ ap (λ (k : ℕ). breach {X = Front} from BadEscape (at + place) k) end

  number_breach : (src : List ℕ) (len : ℕ) → HasBadNumber src len → next_token from inside at src ≡ breach {X = Front} from BadNumber at (at + len)
  number_breach src len (run, r, e, n, a) = ap (next_token from inside at) r.source ∙ run_reads run r.rest r.longest.0.0 ∙ bad_number_front from at run r.rest r.longest n a ∙ ap (λ (k : ℕ). breach {X = Front} from BadNumber at (at + k)) (sym e)

  duration_breach : (src : List ℕ) (len : ℕ) → HasBadDuration src len → next_token from inside at src ≡ breach {X = Front} from BadDuration at (at + len)
  duration_breach src len (run, r, e, d) = ap (next_token from inside at) r.source ∙ run_reads run r.rest r.longest.0.0 ∙ bad_duration_front from at run r.rest r.longest d ∙ ap (λ (k : ℕ). breach {X = Front} from BadDuration at (at + k)) (sym e)

  at_start : (kind : Kind) (src : List ℕ) (start end : ℕ) → start ≡ 0 → next_token from inside at src ≡ breach {X = Front} from kind at (at + end) → next_token from inside at src ≡ Breach kind start end
  at_start kind src start end z h = h ∙ breach_at kind end ∙ ap (λ (k : ℕ). Breach kind k end) (sym z)

  pub breach_reads : (src : List ℕ) (kind : Kind) (start end : ℕ) → IsBreach inside src kind start end → next_token from inside at src ≡ breach {X = Front} from kind (at + start) (at + end)
  breach_reads src BadByte start end h = at_start BadByte src start end h.0 (unknown_reads from inside at src end h.1)
  breach_reads src OpenString start end h = at_start OpenString src start end h.0 (open_breach src h.2 ∙ ap (λ (k : ℕ). breach {X = Front} from OpenString at (at + k)) (sym h.1))
  breach_reads src BadEscape start end h = escape_breach src start h.1 ∙ ap (λ (k : ℕ). breach {X = Front} from BadEscape (at + start) (at + k)) (sym h.0)
  breach_reads src BadNumber start end h = at_start BadNumber src start end h.0 (number_breach src end h.1)
  breach_reads src BadDuration start end h = at_start BadDuration src start end h.0 (duration_breach src end h.1)
  breach_reads src kind start end h = absurd h

-- ---- something stands there

module _ (inside : Bool) (b : ℕ) (src : List ℕ) where
  pub something_stands : Standing inside (b ∷ src)
  something_stands = by (is_blank b) (eqb_tells b 35) (begins_word inside b) (begins_run (b ∷ src)) (eqb_tells b 34) (eqb_tells b 39) (eqb_tells b 96) refl refl refl
    where
      moved : (k : ℕ) → b ≡ k → Standing inside (k ∷ src) → Standing inside (b ∷ src)
      moved k e h = subst (λ (x : ℕ). Standing inside (x ∷ src)) (sym e) h

      by : (s : Bool) → ((eqb b 35 ≡ true) × (b ≡ 35)) ⊎ ((eqb b 35 ≡ false) × (b ≢ 35)) → (t u : Bool) → ((eqb b 34 ≡ true) × (b ≡ 34)) ⊎ ((eqb b 34 ≡ false) × (b ≢ 34)) → ((eqb b 39 ≡ true) × (b ≡ 39)) ⊎ ((eqb b 39 ≡ false) × (b ≢ 39)) → ((eqb b 96 ≡ true) × (b ≡ 96)) ⊎ ((eqb b 96 ≡ false) × (b ≢ 96)) → is_blank b ≡ s → begins_word inside b ≡ t → begins_run (b ∷ src) ≡ u → Standing inside (b ∷ src)
      by true hash t u x y z e f g = blank_stands inside b src e
      by false (inl hash) t u x y z e f g = moved 35 hash.1 (comment_stands inside src)
      by false (inr n) true u x y z e f g = word_stands inside b src f
      by false (inr n) false true x y z e f g = run_stands inside (b ∷ src) g
      by false (inr n) false false (inl x) y z e f g = quoted_stands b (inl x.1) inside src
      by false (inr n) false false (inr x) (inl y) z e f g = quoted_stands b (inr y.1) inside src
      by false (inr n) false false (inr x) (inr y) (inl z) e f g = moved 96 z.1 (raw_stands inside src)
      by false (inr n) false false (inr x) (inr y) (inr z) e f g = sign_stands inside b src e n.1 f g x.1 y.1 z.1

-- ---- no lexeme is empty

string_some : (text value : List ℕ) → IsString text value → 0 < length text
string_some text value (in_quotes quote inner q e is_inner h u) = let l = ap length e in omega arith
string_some text value (in_back_quotes e h) = let l = ap length e in omega arith

word_some : (inside : Bool) (text : List ℕ) → Rattle.lf_lex.specs.Lexemes.IsWord inside text → 0 < length text
word_some inside [] h = absurd h
word_some inside (b ∷ text) h = omega arith

token_some : (inside : Bool) (kind : TokenKind) (text rest : List ℕ) → IsToken inside kind text rest → 0 < length text
token_some inside (kinds.Word word) text rest h = word_some inside text h.1.0
token_some inside (kinds.Number number) text rest h = some_run text h.1.0.0
token_some inside (kinds.Duration duration) text rest h = some_run text h.1.0.0
token_some inside (kinds.Str value) text rest h = string_some text value h
token_some inside (kinds.Sign sign) text rest h = let s = some_sign sign in let l = ap length h.0.0 in omega arith

pub lexeme_some : (inside : Bool) (lexeme : Lexeme) (rest : List ℕ) → IsLexeme inside lexeme rest → 0 < length (lexeme_text lexeme)
lexeme_some inside (Blank b) rest h = omega arith
lexeme_some inside (Comment line) rest h = omega arith
lexeme_some inside (Written kind text) rest h = token_some inside kind text rest h

-- ---- and no breach comes at the end

unknown_some : (src character rest : List ℕ) → IsCharacter character → src ≡ character ++ rest → 0 < length src
unknown_some src [] rest h e = absurd h
unknown_some src (b ∷ more) rest h e = let l = ap length e in omega arith

open_some : (src : List ℕ) → StaysOpen src → 0 < length src
open_some src (open_quotes quote raws rest q e each stops) = let l = ap length e in omega arith
open_some src (open_back_quotes rest e h) = let l = ap length e in omega arith

begun_some : (src run : List ℕ) → BeginsRun src run → 0 < length src
begun_some src run r = let a = some_run run r.longest.0.0 in let l = ap length r.source in let m = length-append run r.rest in omega arith

pub breach_some : (inside : Bool) (src : List ℕ) (kind : Kind) (start end : ℕ) → IsBreach inside src kind start end → 0 < length src
breach_some inside src BadByte start end h = unknown_some src h.1.character h.1.rest h.1.whole.0 h.1.source
breach_some inside src OpenString start end h = open_some src h.2
breach_some inside src BadEscape start end h = let l = ap length h.1.source in omega arith
breach_some inside src BadNumber start end h = begun_some src h.1.0 h.1.1
breach_some inside src BadDuration start end h = begun_some src h.1.0 h.1.1
breach_some inside src kind start end h = absurd h

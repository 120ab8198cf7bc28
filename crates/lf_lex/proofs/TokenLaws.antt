-- A text has one list of tokens or one breach, and it is read as that.
use Rattle.std.proofs.Common.{◌≡◌, ℕ, zero, suc, ◌+◌, ◌<◌, Bool, false, List, [], ◌∷◌, ◌++◌, length, drop, Option, Result, Ok, Err, refl, ap, arith, append_assoc, append-nil, sym, ◌∙◌, subst, ◌⊎◌, inl, inr, length-append}
use Rattle.std.proofs.lemmas.List.{drop_at}
use Rattle.std.specs.Prelude.{IfOk}
use Rattle.std.specs.List.{flat_map}
use Rattle.lf_base.specs.declared.kind.Kind.{Kind}
use Rattle.lf_base.specs.declared.place.Span.{Span}
use Rattle.lf_base.specs.declared.refusal.Refusal.{Refusal}
use Rattle.lf_lex.specs.declared.token.Token.{Token}
use Rattle.lf_lex.specs.declared.token.TokenKind.{TokenKind}
use Rattle.lf_lex.specs.Lexemes.{Lexeme, Blank, Comment, Written, lexeme_text, IsLexeme, behind_lexeme, behind_lexemes, AreLexemes}
use Rattle.lf_lex.specs.Breaches.{IsBreach}
use Rattle.lf_lex.specs.Tokens.{in_source, token_of, tokens_of, Tokens, Breaks}
use Rattle.lf_base.specs.declared.fault.Fault.{Fault}
use Rattle.lf_base.specs.Answers.{Answers, Refused, OneAnswer}
use Rattle.lf_base.proofs.Answering.{Decides}
use Rattle.lf_lex.specs.reading.Steps.{next_token}
use Rattle.lf_lex.specs.reading.Reads.{Reads, ends, goes_on, breaks, behind, tokens_at, with_front}
use Rattle.lf_lex.proofs.FrontLaws.{found_of, lexeme_reads, breach_reads, something_stands, lexeme_some, breach_some}
use Rattle.lf_lex.proofs.Reading.{one_reading, fronts, answers_all}
use Rattle.lf_lex.proofs.Standing.{Standing, stands, fails}

abbrev Answer : Type 0
Answer = Result (List Token) Fault

abbrev ok_tokens : List Token → Answer
ok_tokens tokens = Ok tokens

abbrev err_fault : Fault → Answer
err_fault fault = Err fault

-- ---- what the grammar has is read

module _ (from : List ℕ) where
  front_goes_on : (inside : Bool) (at n : ℕ) (src : List ℕ) (found : Option TokenKind) (answer : Answer) → 0 < length src → next_token from inside at src ≡ Ok (found, n)
      → Reads from (behind found inside) (at + n) (drop n src) answer → Reads from inside at src (with_front (tokens_at found (in_source from at (at + n))) answer)
  front_goes_on inside at n [] found answer lt e h = absurd (omega arith)
  front_goes_on inside at n (b ∷ src) found answer lt e h = goes_on found n e h

  front_breaks : (inside : Bool) (at : ℕ) (src : List ℕ) (fault : Fault) → 0 < length src → next_token from inside at src ≡ Err fault → Reads from inside at src (Err fault)
  front_breaks inside at [] fault lt e = absurd (omega arith)
  front_breaks inside at (b ∷ src) fault lt e = breaks fault e

  same_behind : (lexeme : Lexeme) (inside : Bool) → behind (found_of lexeme) inside ≡ behind_lexeme lexeme inside
  same_behind (Blank b) inside = refl
  same_behind (Comment line) inside = refl
  same_behind (Written kind text) inside = refl

  same_tokens : (lexeme : Lexeme) (span : Span) → tokens_at (found_of lexeme) span ≡ token_of lexeme span
  same_tokens (Blank b) span = refl
  same_tokens (Comment line) span = refl
  same_tokens (Written kind text) span = refl

  pub lexemes_read : (lexemes : List Lexeme) (inside : Bool) (at : ℕ) (rest : List ℕ) (answer : Answer) → AreLexemes inside lexemes rest
      → Reads from (behind_lexemes lexemes inside) (at + length (flat_map lexeme_text lexemes)) rest answer → Reads from inside at (flat_map lexeme_text lexemes ++ rest) (with_front (tokens_of from at lexemes) answer)
  lexemes_read [] inside at rest answer are h =
      let e : at + 0 ≡ at = omega arith in
      subst (Reads from inside at rest) (sym (no_front answer)) (subst (λ (k : ℕ). Reads from inside k rest answer) e h)
    where
      no_front : (answer : Answer) → with_front [] answer ≡ answer
      no_front (Ok more) = refl
      no_front (Err fault) = refl
  lexemes_read (lexeme ∷ lexemes) inside at rest answer are h =
      let text = lexeme_text lexeme in
      let later = flat_map lexeme_text lexemes ++ rest in
      let whole : (text ++ flat_map lexeme_text lexemes) ++ rest ≡ text ++ later = append_assoc text (flat_map lexeme_text lexemes) rest in
      let l = length-append text (flat_map lexeme_text lexemes) in
      let end : at + length (text ++ flat_map lexeme_text lexemes) ≡ at + length text + length (flat_map lexeme_text lexemes) = omega arith in
      let again : Reads from (behind_lexeme lexeme inside) (at + length text) later (with_front (tokens_of from (at + length text) lexemes) answer) =
      lexemes_read lexemes (behind_lexeme lexeme inside) (at + length text) rest answer are.1 (subst (λ (k : ℕ). Reads from (behind_lexemes lexemes (behind_lexeme lexeme inside)) k rest answer) end h) in
      let some = lexeme_some inside lexeme later are.0 in
      let m = length-append text later in
      let front = lexeme_reads from inside at lexeme later are.0 in
      let moved : Reads from (behind (found_of lexeme) inside) (at + length text) (drop (length text) (text ++ later)) (with_front (tokens_of from (at + length text) lexemes) answer) =
      subst (λ (i : Bool). Reads from i (at + length text) (drop (length text) (text ++ later)) (with_front (tokens_of from (at + length text) lexemes) answer)) (sym (same_behind lexeme inside))
      (subst (λ (x : List ℕ). Reads from (behind_lexeme lexeme inside) (at + length text) x (with_front (tokens_of from (at + length text) lexemes) answer)) (sym (drop_at text later (length text) refl)) again) in
      let step = front_goes_on inside at (length text) (text ++ later) (found_of lexeme) (with_front (tokens_of from (at + length text) lexemes) answer) (omega arith) front moved in
      let span = in_source from at (at + length text) in
      let joined : with_front (tokens_at (found_of lexeme) span) (with_front (tokens_of from (at + length text) lexemes) answer) ≡ with_front (token_of lexeme span ++ tokens_of from (at + length text) lexemes) answer =
      ap (λ (x : List Token). with_front x (with_front (tokens_of from (at + length text) lexemes) answer)) (same_tokens lexeme span) ∙ sym (fronts (token_of lexeme span) (tokens_of from (at + length text) lexemes) answer) in
      subst (λ (x : List ℕ). Reads from inside at x (with_front (token_of lexeme span ++ tokens_of from (at + length text) lexemes) answer)) (sym whole)
      (subst (Reads from inside at (text ++ later)) joined step)

  pub tokens_read : (text : List ℕ) (tokens : List Token) → Tokens from text tokens → Reads from false 0 text (Ok tokens)
  tokens_read text tokens t =
      let read = lexemes_read t.lexemes false 0 [] (Ok []) t.are_lexemes ends in
      let answer : with_front (tokens_of from 0 t.lexemes) (Ok []) ≡ ok_tokens tokens = ap ok_tokens (append-nil (tokens_of from 0 t.lexemes) ∙ sym t.tokens_are) in
      let source : flat_map lexeme_text t.lexemes ++ [] ≡ text = append-nil (flat_map lexeme_text t.lexemes) ∙ sym t.source in
      subst (λ (x : List ℕ). Reads from false 0 x (Ok tokens)) source (subst (Reads from false 0 (flat_map lexeme_text t.lexemes ++ [])) answer read)

  pub breach_read : (text : List ℕ) (fault : Fault) → Breaks from text fault → Reads from false 0 text (Err fault)
  breach_read text fault b =
      let at = length (flat_map lexeme_text b.lexemes) in
      let inside = behind_lexemes b.lexemes false in
      let z : 0 + at ≡ at = omega arith in
      let e : next_token from inside at b.rest ≡ Err fault = breach_reads from inside at b.rest fault.kind b.start b.end b.breach ∙ ap (λ (s : Span). Err (record { kind = fault.kind; span = s })) (sym b.span_is) in
      let here : Reads from inside at b.rest (Err fault) = front_breaks inside at b.rest fault (breach_some inside b.rest fault.kind b.start b.end b.breach) e in
      let read = lexemes_read b.lexemes false 0 b.rest (Err fault) b.are_lexemes (subst (λ (k : ℕ). Reads from inside k b.rest (Err fault)) (sym z) here) in
      subst (λ (x : List ℕ). Reads from false 0 x (Err fault)) (sym b.source) read

-- ---- each text has one of them

-- a text is lexemes, and then nothing or a breach
pub record Whole (inside : Bool) (src : List ℕ) : Type 0 where
  pub lexemes : List Lexeme
  pub rest : List ℕ
  pub source : src ≡ flat_map lexeme_text lexemes ++ rest
  pub are_lexemes : AreLexemes inside lexemes rest
  pub stops : (rest ≡ []) ⊎ ((kind : Kind) × (start : ℕ) × (end : ℕ) × IsBreach (behind_lexemes lexemes inside) rest kind start end)

more_whole : (inside : Bool) (lexeme : Lexeme) (src rest : List ℕ) → src ≡ lexeme_text lexeme ++ rest → IsLexeme inside lexeme rest → Whole (behind_lexeme lexeme inside) rest → Whole inside src
more_whole inside lexeme src rest e is w = record {
  lexemes = lexeme ∷ w.lexemes;
  rest = w.rest;
  source = e ∙ ap (λ (x : List ℕ). lexeme_text lexeme ++ x) w.source ∙ sym (append_assoc (lexeme_text lexeme) (flat_map lexeme_text w.lexemes) w.rest);
  are_lexemes = (subst (IsLexeme inside lexeme) w.source is, w.are_lexemes);
  stops = w.stops;
}

whole : (fuel : ℕ) (inside : Bool) (src : List ℕ) → length src < fuel → Whole inside src
whole zero inside src lt = absurd (omega arith)
whole (suc fuel) inside [] lt = record { lexemes = []; rest = []; source = refl; are_lexemes = tt; stops = inl refl }
whole (suc fuel) inside (b ∷ src) lt = by (λ i rest l. whole fuel i rest l) (something_stands inside b src)
  where
    by : ((i : Bool) (rest : List ℕ) → length rest < fuel → Whole i rest) → Standing inside (b ∷ src) → Whole inside (b ∷ src)
    by again (stands lexeme rest e is) =
        let s = lexeme_some inside lexeme rest is in
        let l = ap length e in
        let m = length-append (lexeme_text lexeme) rest in
        more_whole inside lexeme (b ∷ src) rest e is (again (behind_lexeme lexeme inside) rest (omega arith))
    by again (fails kind start end is) = record { lexemes = []; rest = b ∷ src; source = refl; are_lexemes = tt; stops = inr (kind, start, end, is) }

module _ (from text : List ℕ) where
  tokens_or_breach : ((tokens : List Token) × Tokens from text tokens) ⊎ ((fault : Fault) × Breaks from text fault)
  tokens_or_breach = by (whole (suc (length text)) false text (omega arith))
    where
      by : Whole false text → ((tokens : List Token) × Tokens from text tokens) ⊎ ((fault : Fault) × Breaks from text fault)
      by w = split w.stops
        where
          split : (w.rest ≡ []) ⊎ ((kind : Kind) × (start : ℕ) × (end : ℕ) × IsBreach (behind_lexemes w.lexemes false) w.rest kind start end) → ((tokens : List Token) × Tokens from text tokens) ⊎ ((fault : Fault) × Breaks from text fault)
          split (inl e) = inl (
            tokens_of from 0 w.lexemes,
            record {
              lexemes = w.lexemes;
              source = w.source ∙ ap (λ (x : List ℕ). flat_map lexeme_text w.lexemes ++ x) e ∙ append-nil (flat_map lexeme_text w.lexemes);
              are_lexemes = subst (AreLexemes false w.lexemes) e w.are_lexemes;
              tokens_are = refl;
            },
          )
          split (inr (kind, start, end, is)) =
              let at = length (flat_map lexeme_text w.lexemes) in
              inr (
                record { kind = kind; span = in_source from (at + start) (at + end) },
                record {
                  lexemes = w.lexemes;
                  rest = w.rest;
                  source = w.source;
                  are_lexemes = w.are_lexemes;
                  start = start;
                  end = end;
                  breach = is;
                  span_is = refl;
                },
              )

  ok_same : (a b : List Token) → ok_tokens a ≡ ok_tokens b → a ≡ b
  ok_same a b e = cc

  err_same : (a b : Fault) → err_fault a ≡ err_fault b → a ≡ b
  err_same a b e = cc

  ok_no_err : (a : List Token) (b : Fault) → ok_tokens a ≡ err_fault b → ⊥
  ok_no_err a b e = cc

  -- what is read is in the grammar
  read_tokens : (tokens : List Token) → Reads from false 0 text (Ok tokens) → Tokens from text tokens
  read_tokens tokens h = by tokens_or_breach
    where
      by : ((other : List Token) × Tokens from text other) ⊎ ((fault : Fault) × Breaks from text fault) → Tokens from text tokens
      by (inl (other, t)) = subst (Tokens from text) (ok_same other tokens (one_reading (tokens_read from text other t) h)) t
      by (inr (fault, b)) = absurd (ok_no_err tokens fault (one_reading h (breach_read from text fault b)))

  read_breach : (fault : Fault) → Reads from false 0 text (Err fault) → Breaks from text fault
  read_breach fault h = by tokens_or_breach
    where
      by : ((tokens : List Token) × Tokens from text tokens) ⊎ ((other : Fault) × Breaks from text other) → Breaks from text fault
      by (inl (tokens, t)) = absurd (ok_no_err tokens fault (one_reading (tokens_read from text tokens t) h))
      by (inr (other, b)) = subst (Breaks from text) (err_same other fault (one_reading (breach_read from text other b) h)) b

  -- each text is read, and its reading decides
  pub reading : (answer : Answer) × Reads from false 0 text answer
  reading = by tokens_or_breach
    where
      by : ((tokens : List Token) × Tokens from text tokens) ⊎ ((fault : Fault) × Breaks from text fault) → (answer : Answer) × Reads from false 0 text answer
      by (inl (tokens, t)) = (Ok tokens, tokens_read from text tokens t)
      by (inr (fault, b)) = (Err fault, breach_read from text fault b)

  decided : (answer : Answer) → Reads from false 0 text answer → Decides (Tokens from text) (Breaks from text) answer
  decided answer h = record {
    stands = λ tokens e. read_tokens tokens (subst (Reads from false 0 text) e h);
    read = λ tokens t. one_reading h (tokens_read from text tokens t);
    breaks = λ fault e. read_breach fault (subst (Reads from false 0 text) e h);
    told = λ fault b. one_reading h (breach_read from text fault b);
  }

  pub decides : Decides (Tokens from text) (Breaks from text) reading.0
  decides = decided reading.0 reading.1

  pub one_answer : OneAnswer (Tokens from text) (Breaks from text)
  one_answer = Rattle.lf_base.proofs.Answering.one_answer (Tokens from text) (Breaks from text) reading.0 decides

  -- so what the loop answers is what the reading says
  pub gives : (r : Result (List Token) Refusal) → IfOk r (λ tokens. Reads from false 0 text (Ok tokens)) → Refused (λ fault. Reads from false 0 text (Err fault)) r → Answers r reading.0
  gives r found refused = answers_all from text r found refused reading.0 reading.1

-- The spans of tokens and breaches lie in the text, and so in the source, where the offsets do.
use Rattle.std.proofs.Common.{◌≡◌, ℕ, ◌+◌, ◌≤◌, Bool, List, [], ◌∷◌, ◌++◌, length, get_or, Result, Ok, Err, ap, arith, sym, subst, length-append}
use Rattle.std.specs.Prelude.{IfOk}
use Rattle.std.specs.List.{flat_map}
use Rattle.std.specs.List.Sorted.{IsNonDecreasing}
use Rattle.std.proofs.lemmas.List.Concat.{flat_map-append}
use Rattle.lf_base.specs.declared.kind.Kind.{Kind}
use Rattle.lf_base.specs.declared.kind.Kind.TheVariants.{BadByte, OpenString, BadEscape, BadNumber, BadDuration}
use Rattle.lf_base.specs.declared.fault.Fault.{Fault}
use Rattle.lf_base.specs.declared.refusal.Refusal.{Refusal}
use Rattle.lf_base.specs.Faults.{LiesIn}
use Rattle.lf_base.specs.Answers.{Refused, RefusedIn}
use Rattle.lf_base.proofs.Answering.{refused_in}
use Rattle.lf_lex.specs.declared.token.Token.{Token}
use Rattle.lf_lex.specs.Strings.{piece_text}
use Rattle.lf_lex.specs.Lexemes.{Lexeme, Blank, Comment, Written, lexeme_text}
use Rattle.lf_lex.specs.Breaches.{IsWrongAt, no_escape, no_utf8, IsBreach}
use Rattle.lf_lex.specs.Tokens.{in_source, token_of, tokens_of, Tokens, Breaks, LieIn}
use Rattle.lf_lex.proofs.FrontLaws.{breach_some}

-- ---- in the text

wrong_within : (quote : ℕ) (inner : List ℕ) (place : ℕ) → IsWrongAt quote inner place → place ≤ length inner
wrong_within quote inner place (no_escape pieces rest reads stops utf8 is) =
    let l = ap length reads.source in
    let m = length-append (flat_map piece_text pieces) rest in
    omega arith
wrong_within quote inner place (no_utf8 before piece later rest front byte back reads gives longest is) =
    let l = ap length reads.source in
    let m = length-append (flat_map piece_text (before ++ piece ∷ later)) rest in
    let f = ap length (flat_map-append piece_text before (piece ∷ later)) in
    let k = length-append (flat_map piece_text before) (flat_map piece_text (piece ∷ later)) in
    omega arith

run_within : (src run rest : List ℕ) (start end : ℕ) → start ≡ 0 → end ≡ length run → src ≡ run ++ rest → (start ≤ end) × (end ≤ length src)
run_within src run rest start end z e source =
    let l = ap length source in
    let m = length-append run rest in
    (omega arith, omega arith)

-- a breach stands in what the text has from its front on
breach_within : (inside : Bool) (src : List ℕ) (kind : Kind) (start end : ℕ) → IsBreach inside src kind start end → (start ≤ end) × (end ≤ length src)
breach_within inside src BadByte start end h =
    let z = h.0 in
    let e = h.1.len_is in
    let l = ap length h.1.source in
    let m = length-append h.1.character h.1.rest in
    (omega arith, omega arith)
breach_within inside src OpenString start end h =
    let s = breach_some inside src OpenString start end h in
    let z = h.0 in
    let e = h.1 in
    (omega arith, omega arith)
breach_within inside src BadEscape start end h =
    let e = h.0 in
    let p = h.1.place_is in
    let w = wrong_within h.1.quote h.1.inner h.1.between h.1.wrong in
    let l = ap length h.1.source in
    let m = length-append h.1.inner (h.1.quote ∷ h.1.rest) in
    (omega arith, omega arith)
breach_within inside src BadNumber start end h = run_within src h.1.0 h.1.1.rest start end h.0 h.1.2 h.1.1.source
breach_within inside src BadDuration start end h = run_within src h.1.0 h.1.1.rest start end h.0 h.1.2 h.1.1.source
breach_within inside src kind start end h = absurd h

-- ---- in the source

module _ (from text : List ℕ) (offsets : length from ≡ length text + 1) (rises : IsNonDecreasing from) (n : ℕ) (last : get_or from (length text) 0 ≤ n) where
  lies : (start end : ℕ) → start ≤ end → end ≤ length text → LiesIn n (in_source from start end)
  lies start end le within =
      let a = rises start end 0 le (omega arith) in
      let b = rises end (length text) 0 within (omega arith) in
      (a, omega arith)

  pub breach_lies : (fault : Fault) → Breaks from text fault → LiesIn n fault.span
  breach_lies fault b =
      let w = breach_within _ b.rest fault.kind b.start b.end b.breach in
      let l = ap length b.source in
      let m = length-append (flat_map lexeme_text b.lexemes) b.rest in
      let at = length (flat_map lexeme_text b.lexemes) in
      let le = w.0 in
      let within = w.1 in
      subst (LiesIn n) (sym b.span_is) (lies (at + b.start) (at + b.end) (omega arith) (omega arith))

  with_lexeme : (lexeme : Lexeme) (start end : ℕ) (later : List Token) → start ≤ end → end ≤ length text → LieIn n later → LieIn n (token_of lexeme (in_source from start end) ++ later)
  with_lexeme (Blank b) start end later le within h = h
  with_lexeme (Comment line) start end later le within h = h
  with_lexeme (Written kind text) start end later le within h = (lies start end le within, h)

  lexemes_lie : (lexemes : List Lexeme) (at : ℕ) → at + length (flat_map lexeme_text lexemes) ≤ length text → LieIn n (tokens_of from at lexemes)
  lexemes_lie [] at le = tt
  lexemes_lie (lexeme ∷ lexemes) at le =
      let l = length-append (lexeme_text lexeme) (flat_map lexeme_text lexemes) in
      with_lexeme lexeme at (at + length (lexeme_text lexeme)) (tokens_of from (at + length (lexeme_text lexeme)) lexemes) (omega arith) (omega arith) (lexemes_lie lexemes (at + length (lexeme_text lexeme)) (omega arith))

  pub tokens_lie : (tokens : List Token) → Tokens from text tokens → LieIn n tokens
  tokens_lie tokens t = let l = ap length t.source in subst (LieIn n) (sym t.tokens_are) (lexemes_lie t.lexemes 0 (omega arith))

module _ (from text : List ℕ) (offsets : length from ≡ length text + 1) (rises : IsNonDecreasing from) where
  -- the spans of what is answered lie in the source
  pub found_inside : (r : Result (List Token) Refusal) → IfOk r (Tokens from text) → (n : ℕ) → get_or from (length text) 0 ≤ n → IfOk r (LieIn n)
  found_inside (Ok tokens) t n last = tokens_lie from text offsets rises n last tokens t
  found_inside (Err refusal) t n last = tt

  -- and so does that of a refusal
  pub refused_inside : (r : Result (List Token) Refusal) → Refused (Breaks from text) r → (n : ℕ) → get_or from (length text) 0 ≤ n → RefusedIn n r
  refused_inside r refused n last = refused_in n (Breaks from text) (breach_lies from text offsets rises n last) r refused
